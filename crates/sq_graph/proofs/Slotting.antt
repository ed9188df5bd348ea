-- Graphs whose blocks are named by their positions: graphs that differ in names alone have one such graph.
use Rattle.std.proofs.Common.{◌≡◌, ℕ, zero, suc, ◌+◌, ◌<◌, false, ◌==◌, nat_eq, if◌then◌else◌, List, [], ◌∷◌, length, map, Option, Some, inl, inr, refl, sym, ap, ◌∙◌, subst, arith}
use Rattle.std.specs.Prelude.{slice_get, IsSome}
use Rattle.std.specs.List.{AllByRecursion, IsDistinct}
use Rattle.std.specs.Option.{unwrap_or}
use Rattle.std.proofs.lemmas.Bool.{cases_Bool, eqb-true, eq-eqb}
use Rattle.sq_arena.specs.Entries.{keys, value_of}
use Rattle.sq_graph.specs.declared.item.Item.{Item}
use Rattle.sq_graph.specs.declared.parts.BlockPart.{BlockPart}
use Rattle.sq_graph.specs.declared.parts.ProcedurePart.{ProcedurePart}
use Rattle.sq_graph.specs.declared.parts.CodeRef.{CodeRef}
use Rattle.sq_graph.specs.Graph.{Block, Graph}
use Rattle.sq_graph.specs.Alike.{IsOneToOne, AreAlike}
use Rattle.sq_graph.specs.Blocks.{named, HasBlock}
pub use Rattle.sq_graph.specs.Numbered.{AreNumbered}
use Rattle.sq_graph.specs.Parts.{names_of, blocks_of_parts, graph_of_parts}
use Rattle.sq_graph.specs.Renames.{renamed_block, renamed}
use Rattle.sq_graph.specs.Rules.{IsGraph}
use Rattle.sq_graph.specs.Slotted.{number_in, position_in, slotted, IsSlotted}
use Rattle.sq_graph.proofs.Bypassing.{retargeted_same}
use Rattle.sq_graph.proofs.Renamed.{names_there, same_test, renamed_twice}
use Rattle.sq_graph.proofs.Renamed as other

-- POSITIONS

-- a block's name stands in the list at its number
pub record IsNumber (names : List ℕ) (k x : ℕ) : Type 0 where
  pub index : ℕ
  pub number : number_in names k x ≡ Some (k + index)
  pub there : slice_get names index ≡ Some x

numbered : (bs : List Block) (k x : ℕ) → IsSome (value_of (named bs) x) → IsNumber (map (λ b. b.name) bs) k x
numbered [] k x some = absurd (cc)
numbered (b ∷ bs) k x some =
    elim (cases_Bool (b.name == x)) [
      | inl here ↦
          let e : k ≡ k + 0 = omega arith in
          record { index = 0; number = rw here (ap Some e); there = ap Some (eqb-true b.name x here) }
      | inr apart ↦
          let rest = numbered bs (k + 1) x (rw apart at some) in
          let e : k + 1 + rest.index ≡ k + suc rest.index = omega arith in
          record { index = suc rest.index; number = rw apart (rest.number ∙ ap Some e); there = rest.there }
    ]

-- at its position
pub at_position : (g : Graph) (x : ℕ) → HasBlock g x → slice_get (names_of g) (position_in (names_of g) x) ≡ Some x
at_position g x has =
    let n = numbered g.blocks 0 x has in
    let e : position_in (names_of g) x ≡ 0 + n.index = ap (λ (o : Option ℕ). unwrap_or o 0) n.number in
    let same : 0 + n.index ≡ n.index = omega arith in
    ap (slice_get (names_of g)) (e ∙ same) ∙ n.there

pub positions_apart : (g : Graph) → IsOneToOne (position_in (names_of g)) g
positions_apart g m n has there same = let e : Some m ≡ Some n = sym (at_position g m has) ∙ ap (slice_get (names_of g)) same ∙ at_position g n there in cc

within : (xs : List ℕ) (i x : ℕ) → slice_get xs i ≡ Some x → i < length xs
within [] i x e = absurd (cc)
within (y ∷ xs) zero x e = omega arith
within (y ∷ xs) (suc i) x e = let h = within xs i x e in omega (arith, h)

pub position_below : (g : Graph) (x : ℕ) → HasBlock g x → position_in (names_of g) x < length (names_of g)
position_below g x has = within (names_of g) (position_in (names_of g) x) x (at_position g x has)

numbered_same : (f g : ℕ → ℕ) (k : ℕ) (names : List ℕ) → AllByRecursion (λ m. f m ≡ g m) names → AreNumbered f k names → AreNumbered g k names
numbered_same f g k [] same h = tt
numbered_same f g k (n ∷ names) same h = (sym same.0 ∙ h.0, numbered_same f g (k + 1) names same.1 h.1)

-- names without repeats have their positions for numbers
pub numbered_from : (k : ℕ) (names : List ℕ) → IsDistinct nat_eq names → AreNumbered (λ x. unwrap_or (number_in names k x) 0) k names
unfolding IsDistinct
numbered_from k [] distinct = tt
numbered_from k (n ∷ names) distinct = (
  rw (eq-eqb n n refl) refl,
  numbered_same (λ x. unwrap_or (number_in names (k + 1) x) 0) (λ x. unwrap_or (number_in (n ∷ names) k x) 0) (k + 1) names (later names distinct.0) (numbered_from (k + 1) names distinct.1),
)
  where
    later : (ms : List ℕ) → AllByRecursion (λ m. nat_eq n m ≡ false) ms → AllByRecursion (λ m. unwrap_or (number_in names (k + 1) m) 0 ≡ unwrap_or (number_in (n ∷ names) k m) 0) ms
    later [] apart = tt
    later (m ∷ ms) apart = (let h : (n == m) ≡ false = apart.0 in rw h refl, later ms apart.1)

names-keys : (bs : List Block) → keys (named bs) ≡ map (λ b. b.name) bs
names-keys [] = refl
names-keys (b ∷ bs) = ap (λ ks. b.name ∷ ks) (names-keys bs)

pub positions_numbered : (g : Graph) → IsGraph g → AreNumbered (position_in (names_of g)) 0 (names_of g)
positions_numbered g rules = numbered_from 0 (names_of g) (subst (IsDistinct nat_eq) (names-keys g.blocks) rules.distinct)

-- SLOTTED GRAPHS

-- functions that agree on the blocks of a graph make one graph of it
pub renamed_by_same : (f h : ℕ → ℕ) (g : Graph) → IsGraph g → ((n : ℕ) → HasBlock g n → f n ≡ h n) → renamed f g ≡ renamed h g
renamed_by_same f h g rules same = other.renamed_by_same g f h rules same

pub slotted_alike : (g : Graph) → AreAlike g (slotted g)
slotted_alike g = record { name = position_in (names_of g); one_to_one = positions_apart g; is = refl }

-- other names have the same numbers
module _ (g : Graph) (f : ℕ → ℕ) (apart : IsOneToOne f g) where
  number_renamed : (bs : List Block) (k n : ℕ) → AllByRecursion (λ b. HasBlock g b.name) bs → HasBlock g n → number_in (map (λ b. b.name) (map (renamed_block f) bs)) k (f n) ≡ number_in (map (λ b. b.name) bs) k n
  number_renamed [] k n names has = refl
  number_renamed (b ∷ bs) k n names has =
      ap (λ t. if t then Some k else number_in (map (λ b. b.name) (map (renamed_block f) bs)) (k + 1) (f n)) (same_test f (HasBlock g) apart b.name n names.0 has)
      ∙ ap (λ o. if b.name == n then Some k else o) (number_renamed bs (k + 1) n names.1 has)

  slotted_renamed : IsGraph g → slotted (renamed f g) ≡ slotted g
  slotted_renamed rules =
      renamed_twice f (position_in (names_of (renamed f g))) g
      ∙ renamed_by_same (λ n. position_in (names_of (renamed f g)) (f n)) (position_in (names_of g)) g rules
      (λ n has. ap (λ (o : Option ℕ). unwrap_or o 0) (number_renamed g.blocks 0 n (names_there g.blocks) has))

-- graphs that differ in the names of their blocks alone have one slotted graph
pub one_slotted : (g h : Graph) → IsGraph g → AreAlike g h → slotted h ≡ slotted g
one_slotted g h rules alike = ap slotted alike.is ∙ slotted_renamed g alike.name alike.one_to_one rules

pub slotted_again : (g : Graph) → IsGraph g → IsSlotted (slotted g)
slotted_again g rules = one_slotted g (slotted g) rules (slotted_alike g)

number_is_name : (bs : List Block) (k n : ℕ) → AreNumbered (λ m. m) k (map (λ b. b.name) bs) → IsSome (value_of (named bs) n) → number_in (map (λ b. b.name) bs) k n ≡ Some n
number_is_name [] k n are some = absurd (cc)
number_is_name (b ∷ bs) k n are some =
    elim (cases_Bool (b.name == n)) [
      | inl here ↦ rw here (ap Some (sym are.0 ∙ eqb-true b.name n here))
      | inr apart ↦ rw apart (number_is_name bs (k + 1) n are.1 (rw apart at some))
    ]

-- a graph whose names are positions is slotted
pub named_by_positions : (g : Graph) → IsGraph g → AreNumbered (λ m. m) 0 (names_of g) → IsSlotted g
named_by_positions g rules are =
    renamed_by_same (position_in (names_of g)) (λ n. n) g rules (λ n has. ap (λ (o : Option ℕ). unwrap_or o 0) (number_is_name g.blocks 0 n are has))
    ∙ retargeted_same g

parts_named : (k : ℕ) (ps : List BlockPart) (items : List Item) → AreNumbered (λ m. m) k (map (λ b. b.name) (blocks_of_parts k ps items))
parts_named k [] items = tt
parts_named k (p ∷ ps) items = (refl, parts_named (k + 1) ps _)

pub parts_slotted : (ps : List BlockPart) (items : List Item) (entry : ℕ) (ws : List CodeRef) (qs : List ProcedurePart) → IsGraph (graph_of_parts ps items entry ws qs) → IsSlotted (graph_of_parts ps items entry ws qs)
parts_slotted ps items entry ws qs rules = named_by_positions (graph_of_parts ps items entry ws qs) rules (parts_named 0 ps items)
