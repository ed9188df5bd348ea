-- That graphs differ in the names of their blocks alone goes back and through.
use Rattle.std.proofs.Common.{◌≡◌, ℕ, inl, inr, ◌==◌, if◌then◌else◌, List, [], ◌∷◌, IsSome, sym, ap, ◌∙◌, subst}
use Rattle.std.specs.List.{AllByRecursion}
use Rattle.std.proofs.lemmas.Bool.{cases_Bool, eqb-true}
use Rattle.sq_arena.specs.Entries.{value_of}
use Rattle.sq_graph.specs.Alike.{IsOneToOne, AreAlike}
use Rattle.sq_graph.specs.Blocks.{named, HasBlock}
use Rattle.sq_graph.specs.Graph.{Block, Graph}
use Rattle.sq_graph.specs.Renames.{renamed}
use Rattle.sq_graph.specs.Rules.{IsGraph}
use Rattle.sq_graph.proofs.Bypassing.{retargeted_same}
use Rattle.sq_graph.proofs.Renamed.{names_there, same_test, was_there, there_too, renamed_rules, renamed_twice, renamed_by_same}

-- a graph is alike itself
pub alike_itself : (g : Graph) → AreAlike g g
alike_itself g = record { name = λ n. n; one_to_one = λ m n has there same. same; is = sym (retargeted_same g) }

-- what is alike a graph keeps its rules
pub alike_rules : (g h : Graph) → IsGraph g → AreAlike g h → IsGraph h
alike_rules g h rules alike = subst IsGraph (sym alike.is) (renamed_rules alike.name g alike.one_to_one rules)

-- back by names that undo the change
module _ (g : Graph) (f back : ℕ → ℕ) (inverse : (n : ℕ) → HasBlock g n → back (f n) ≡ n) where
  names_apart : (m n : ℕ) → HasBlock (renamed f g) m → HasBlock (renamed f g) n → back m ≡ back n → m ≡ n
  names_apart m n has there same =
      let first = was_there f g m has in
      let second = was_there f g n there in
      let one : back m ≡ first.old = ap back (sym first.is) ∙ inverse first.old first.there in
      let two : back n ≡ second.old = ap back (sym second.is) ∙ inverse second.old second.there in
      sym first.is ∙ ap f (sym one ∙ same ∙ two) ∙ second.is

  pub alike_undone : IsGraph g → AreAlike (renamed f g) g
  alike_undone rules = record {
    name = back;
    one_to_one = names_apart;
    is = sym (renamed_twice f back g ∙ renamed_by_same g (λ n. back (f n)) (λ n. n) rules inverse ∙ retargeted_same g);
  }

-- the name of the first of these blocks whose other name it is
abbrev pub old_name : (ℕ → ℕ) → List Block → ℕ → ℕ
old_name f [] m = m
old_name f (b ∷ bs) m = if f b.name == m then b.name else old_name f bs m

old_name_is : (f : ℕ → ℕ) (g : Graph) → IsOneToOne f g → (bs : List Block) (n : ℕ) → AllByRecursion (λ b. HasBlock g b.name) bs → HasBlock g n → IsSome (value_of (named bs) n) → old_name f bs (f n) ≡ n
old_name_is f g apart [] n all has some = absurd (cc)
old_name_is f g apart (b ∷ bs) n all has some =
    let test = same_test f (HasBlock g) apart b.name n all.0 has in
    elim (cases_Bool (b.name == n)) [
      | inl here ↦ rw (test ∙ here) (eqb-true b.name n here)
      | inr differs ↦ rw (test ∙ differs) (old_name_is f g apart bs n all.1 has (rw differs at some))
    ]

pub alike_back : (g h : Graph) → IsGraph g → AreAlike g h → AreAlike h g
alike_back g h rules alike =
    let f = alike.name in
    let inverse : (n : ℕ) → HasBlock g n → old_name f g.blocks (f n) ≡ n = λ n has. old_name_is f g alike.one_to_one g.blocks n (names_there g.blocks) has has in
    subst (λ k. AreAlike k g) (sym alike.is) (alike_undone g f (old_name f g.blocks) inverse rules)

pub alike_through : (g h k : Graph) → AreAlike g h → AreAlike h k → AreAlike g k
alike_through g h k first second =
    let goes : (n : ℕ) → HasBlock g n → HasBlock h (first.name n) = λ n has. subst (λ k. HasBlock k (first.name n)) (sym first.is) (there_too first.name g first.one_to_one n has) in
    record {
      name = λ n. second.name (first.name n);
      one_to_one = λ m n has there same. first.one_to_one m n has there (second.one_to_one (first.name m) (first.name n) (goes m has) (goes n there) same);
      is = second.is ∙ ap (renamed second.name) first.is ∙ renamed_twice first.name second.name g;
    }
