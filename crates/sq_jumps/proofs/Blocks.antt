-- The slots and the terms of blocks, of a graph in which some changed, got other names, or went.
use Rattle.std.proofs.Common.{◌≡◌, ◌≢◌, ℕ, ◌<◌, true, false, List, [], ◌∷◌, length, Option, None, Some, inl, inr, refl, sym, ap, ◌∙◌, subst, ◌==◌, map, get_or, IsSome, is_some}
use Rattle.std.proofs.lemmas.Bool.{cases_Bool, eqb-true}
use Rattle.sq_isa.specs.declared.instructions.Cond.{Cond}
use Rattle.sq_graph.specs.declared.item.Item.{Item}
use Rattle.sq_graph.specs.declared.item.Term.{Term}
use Rattle.sq_graph.specs.declared.item.Term.TheVariants.{Branch, PartJump, Fall, Jump, Call, Indirect, Stop}
use Rattle.sq_graph.specs.Graph.{Graph, Block}
use Rattle.sq_graph.specs.Blocks.{next_of, term_of, named, HasBlock, block_of, block_term}
use Rattle.sq_graph.specs.Operations.{redirected, with_blocks, with_term}
use Rattle.sq_graph.specs.Rules.{IsGraph, last_goes_on}
use Rattle.sq_graph.specs.Terms.{goes_on}
use Rattle.sq_lookup.proofs.Targets.{has_term}
use Rattle.std.specs.Prelude.{option_map}
use Rattle.sq_arena.specs.Entries.{first_key, next_key, value_of, HasDistinctKeys}
use Rattle.sq_graph.specs.Renames.{retargeted_term, retargeted_block, swapped}
use Rattle.sq_graph.proofs.Located.{located}
use Rattle.sq_graph.proofs.SlotReads.{block_at}
use Rattle.sq_graph.proofs.SplitRules.{last_goes_on-append}
use Rattle.sq_layout.proofs.Standing.{block_of-changed, block_of-changed_here}
use Rattle.sq_arena.proofs.EntriesLaws.{distinct_back}
use Rattle.sq_graph.proofs.Kept.{absent_behind}
use Rattle.sq_graph.specs.Parts.{names_of}
use Rattle.sq_live.proofs.Layouts.{block_at as listed_at}
use Rattle.sq_jumps.proofs.Ruled.{behind_it}

-- the slot behind a block, once blocks changed under their names
next_names : (xs ys : List Block) (n : ℕ) → map (λ (b : Block). b.name) xs ≡ map (λ (b : Block). b.name) ys → next_key (named xs) n ≡ next_key (named ys) n
next_names [] [] n same = refl
next_names [] (y ∷ ys) n same = absurd (cc)
next_names (x ∷ xs) [] n same = absurd (cc)
next_names (x ∷ xs) (y ∷ ys) n same =
    let name : x.name ≡ y.name = cc in
    let rest : map (λ (b : Block). b.name) xs ≡ map (λ (b : Block). b.name) ys = cc in
    elim (cases_Bool (y.name == n)) [
      | inl here ↦ let here' : (x.name == n) ≡ true = ap (λ k. k == n) name ∙ here in rw (here, here') (first_names xs ys rest)
      | inr apart ↦ let apart' : (x.name == n) ≡ false = ap (λ k. k == n) name ∙ apart in rw (apart, apart') (next_names xs ys n rest)
    ]
  where
    first_names : (xs ys : List Block) → map (λ (b : Block). b.name) xs ≡ map (λ (b : Block). b.name) ys → first_key (named xs) ≡ first_key (named ys)
    first_names [] [] same = refl
    first_names [] (y ∷ ys) same = absurd (cc)
    first_names (x ∷ xs) [] same = absurd (cc)
    first_names (x ∷ xs) (y ∷ ys) same = let name : x.name ≡ y.name = cc in ap Some name

pub names-changed : (f : Block → Block) (bs : List Block) (n : ℕ) → ((b : Block) → (f b).name ≡ b.name) → map (λ (b : Block). b.name) (with_blocks (λ b. f b ∷ []) bs n) ≡ map (λ (b : Block). b.name) bs
names-changed f [] n names = refl
names-changed f (b ∷ bs) n names =
    elim (cases_Bool (b.name == n)) [
      | inl here ↦ rw here (ap (λ k. k ∷ map (λ (c : Block). c.name) bs) (names b))
      | inr apart ↦ rw apart (ap (λ ks. b.name ∷ ks) (names-changed f bs n names))
    ]

-- blocks of the same names are there
pub has_names : (xs ys : List Block) (n : ℕ) → map (λ (b : Block). b.name) xs ≡ map (λ (b : Block). b.name) ys → IsSome (value_of (named xs) n) → IsSome (value_of (named ys) n)
has_names [] ys n same some = absurd (cc)
has_names (x ∷ xs) [] n same some = absurd (cc)
has_names (x ∷ xs) (y ∷ ys) n same some =
    let name : x.name ≡ y.name = cc in
    let rest : map (λ (b : Block). b.name) xs ≡ map (λ (b : Block). b.name) ys = cc in
    elim (cases_Bool (y.name == n)) [
      | inl here ↦ rw here refl
      | inr apart ↦ let apart' : (x.name == n) ≡ false = ap (λ k. k == n) name ∙ apart in rw apart (has_names xs ys n rest (rw apart' at some))
    ]

names-retargeted : (f : ℕ → ℕ) (bs : List Block) → map (λ (b : Block). b.name) (map (retargeted_block f) bs) ≡ map (λ (b : Block). b.name) bs
names-retargeted f [] = refl
names-retargeted f (b ∷ bs) = ap (λ ks. b.name ∷ ks) (names-retargeted f bs)

pub next-term : (g : Graph) (block n : ℕ) (t : Term) → next_of (with_term g block t) n ≡ next_of g n
next-term g block n t = next_names (with_blocks (λ b. record b { term = t } ∷ []) g.blocks block) g.blocks n (names-changed (λ b. record b { term = t }) g.blocks block (λ b. refl))

pub next-redirected : (g : Graph) (from to n : ℕ) → next_of (redirected g from to) n ≡ next_of g n
next-redirected g from to n = next_names (map (retargeted_block (swapped from to)) g.blocks) g.blocks n (names-retargeted (swapped from to) g.blocks)

pub record HasFirst (bs : List Block) (name : ℕ) : Type 0 where
  pub block : Block
  pub rest : List Block
  pub is : bs ≡ block ∷ rest
  pub has_name : block.name ≡ name

pub first_is : (bs : List Block) (name : ℕ) → first_key (named bs) ≡ Some name → HasFirst bs name
first_is [] name e = absurd (cc)
first_is (b ∷ rest) name e = record { block = b; rest = rest; is = refl; has_name = let same : b.name ≡ name = cc in same }

-- a name in a list of all is a block's
pub listed_there : (g h : Graph) (names : List ℕ) (k : ℕ) → IsGraph g → names ≡ names_of g → names ≡ names_of h → k < length names → HasBlock h (get_or names k 0)
listed_there g h names k rules of_g of_h within =
    let b = listed_at g names k rules of_g within in
    has_names g.blocks h.blocks (get_or names k 0) (sym of_g ∙ of_h) (ap is_some b.found)

-- TERMS

pub goes_on-retargeted : (f : ℕ → ℕ) (t : Term) → goes_on (retargeted_term f t) ≡ goes_on t
goes_on-retargeted f Fall = refl
goes_on-retargeted f (Jump to) = refl
goes_on-retargeted f (Branch cond a b to) = refl
goes_on-retargeted f (Call link to) = refl
goes_on-retargeted f (PartJump link part to) = refl
goes_on-retargeted f (Indirect link at offset) = refl
goes_on-retargeted f (Stop word) = refl

-- a term that goes on has a slot behind it
pub goes_to_next : (g : Graph) (n : ℕ) (t : Term) → IsGraph g → term_of g n ≡ Some t → goes_on t ≡ true → IsSome (next_of g n)
goes_to_next g n t rules e on =
    let at = located g.blocks n (has_term g n t e) in
    let same : at.block.term ≡ t = let f : Some at.block.term ≡ Some t = sym (ap block_term (block_at g.blocks n at)) ∙ e in cc in
    let ends : last_goes_on (at.block ∷ at.back) ≡ false = sym (last_goes_on-append at.front at.block at.back) ∙ sym (ap last_goes_on at.whole) ∙ rules.ends in
    subst (λ o. IsSome o) (sym (behind_it g.blocks n at)) (by_back at.block at.back (ap goes_on same ∙ on) ends)
  where
    by_back : (b : Block) (back : List Block) → goes_on b.term ≡ true → last_goes_on (b ∷ back) ≡ false → IsSome (first_key (named back))
    by_back b [] on ends = absurd (cc)
    by_back b (c ∷ back) on ends = refl

pub same_term : (s t : Term) → Some s ≡ Some t → s ≡ t
same_term s t e = cc

-- the term of another block stays, and a block that went has none
pub term_elsewhere : (g : Graph) (block n : ℕ) (f : Block → Block) → ((b : Block) → (f b).name ≡ b.name) → n ≢ block → block_term (value_of (named (with_blocks (λ b. f b ∷ []) g.blocks block)) n) ≡ term_of g n
term_elsewhere g block n f names other = ap block_term (block_of-changed f g.blocks block n names other)

-- the terms of blocks whose items changed
pub term_with_items : (f : List Item → List Item) (bs : List Block) (m n : ℕ) → block_term (value_of (named (with_blocks (λ b. record b { items = f b.items } ∷ []) bs m)) n) ≡ block_term (value_of (named bs) n)
term_with_items f [] m n = refl
term_with_items f (b ∷ bs) m n =
    elim (cases_Bool (b.name == m)) [
      | inl here ↦ rw here (elim (cases_Bool (b.name == n)) [ inl there ↦ rw there refl | inr other ↦ rw other refl ])
      | inr apart ↦ rw apart (elim (cases_Bool (b.name == n)) [ inl there ↦ rw there refl | inr other ↦ rw other (term_with_items f bs m n) ])
    ]

mapped_term : (o : Option Block) (t : Term) → block_term (option_map (λ (b : Block). record b { term = t }) o) ≡ option_map (λ _. t) (block_term o)
mapped_term None t = refl
mapped_term (Some b) t = refl

pub term_here : (g : Graph) (block : ℕ) (old t : Term) → term_of g block ≡ Some old → term_of (with_term g block t) block ≡ Some t
term_here g block old t e = ap block_term (block_of-changed_here (λ b. record b { term = t }) g.blocks block (λ b. refl)) ∙ mapped_term (block_of g block) t ∙ ap (option_map (λ _. t)) e

pub gone_block : (bs : List Block) (n : ℕ) → HasDistinctKeys (named bs) → value_of (named (with_blocks (λ b. []) bs n)) n ≡ None
gone_block [] n distinct = refl
gone_block (b ∷ bs) n distinct =
    elim (cases_Bool (b.name == n)) [
      | inl here ↦ rw here (subst (λ k. value_of (named bs) k ≡ None) (eqb-true b.name n here) (absent_behind (b.name, b) (named bs) distinct))
      | inr apart ↦ rw (apart, apart) (gone_block bs n (distinct_back ((b.name, b) ∷ []) (named bs) distinct))
    ]

branch_before : (f : ℕ → ℕ) (t : Term) (cond : Cond) (a b to : ℕ) → retargeted_term f t ≡ Branch cond a b to → (old : ℕ) × (t ≡ Branch cond a b old) × (f old ≡ to)
branch_before f Fall cond a b to e = absurd (cc)
branch_before f (Jump n) cond a b to e = absurd (cc)
branch_before f (Branch c x y n) cond a b to e =
    let c_is : c ≡ cond = cc in
    let x_is : x ≡ a = cc in
    let y_is : y ≡ b = cc in
    (n, (λ i. Branch (c_is i) (x_is i) (y_is i) n), cc)
branch_before f (Call link n) cond a b to e = absurd (cc)
branch_before f (PartJump link part n) cond a b to e = absurd (cc)
branch_before f (Indirect link at offset) cond a b to e = absurd (cc)
branch_before f (Stop word) cond a b to e = absurd (cc)

pub retargeted_before : (f : ℕ → ℕ) (o : Option Block) (cond : Cond) (a b to : ℕ) → block_term (option_map (retargeted_block f) o) ≡ Some (Branch cond a b to) → (old : ℕ) × (block_term o ≡ Some (Branch cond a b old)) × (f old ≡ to)
retargeted_before f None cond a b to e = absurd (cc)
retargeted_before f (Some c) cond a b to e =
    let before = branch_before f c.term cond a b to (same_term (retargeted_term f c.term) (Branch cond a b to) e) in
    (before.0, ap Some before.1, before.2)
