-- Registers that go with each other, as two tables have them. No public clause cites this module.
use Rattle.std.specs.Prelude.{◌≡◌, ◌≢◌, ◌<◌, ℕ, zero, suc, Bool, true, ◌⊎◌, List, [], ◌∷◌, Some, slice_get, length, MatchBool}
use Rattle.sq_isa.specs.Registers.{is_member}
use Rattle.sq_graph.specs.declared.item.Item.{Item}
use Rattle.sq_graph.specs.Graph.{Procedure}
use Rattle.sq_graph.specs.Matches.{AreSameForms, IsPairIn, IsPair, IsWrittenFirst}
use Rattle.sq_rename.specs.declared.pairs.Pairs.{Pairs}

-- r goes with s
abbrev pub GoWith : Pairs → ℕ → ℕ → Type 0
GoWith pairs r s = slice_get pairs.there r ≡ Some (Some s)

abbrev pub GoBack : Pairs → ℕ → ℕ → Type 0
GoBack pairs s r = slice_get pairs.back s ≡ Some (Some r)

pub record AreTables (pairs : Pairs) : Type 0 where
  pub there_count : length pairs.there ≡ 32
  pub back_count : length pairs.back ≡ 32
  pub there : (r s : ℕ) → GoBack pairs s r → GoWith pairs r s
  pub back : (r s : ℕ) → GoWith pairs r s → GoBack pairs s r
  pub zero : GoWith pairs 0 0

pub record IsOneToOne (P : ℕ → ℕ → Type 0) : Type 0 where
  pub there : (r s t : ℕ) → P r s → P r t → s ≡ t
  pub back : (q r s : ℕ) → P q s → P r s → q ≡ r

-- the pairs of the tables and others
abbrev pub Joined : Pairs → (ℕ → ℕ → Type 0) → ℕ → ℕ → Type 0
Joined pairs P r s = GoWith pairs r s ⊎ P r s

-- Of these pairs, which are to be joined to the old ones, all but some have been.
pub record IsJoining (old : Pairs) (P : ℕ → ℕ → Type 0) (new : Pairs) (Q : ℕ → ℕ → Type 0) : Type 0 where
  pub tables : AreTables new
  pub up : (r s : ℕ) → Joined new Q r s → Joined old P r s
  pub down : (r s : ℕ) → Joined old P r s → Joined new Q r s

abbrev pub Nothing : ℕ → ℕ → Type 0
Nothing r s = ⊥

-- true: all have been joined; false: together they aren't one-to-one
abbrev pub Joins : Bool → Pairs → (ℕ → ℕ → Type 0) → Pairs → Type 0
Joins result old P new = MatchBool result (IsJoining old P new Nothing) (¬ IsOneToOne (Joined old P))

-- the pairs of items, and x0 with x0
abbrev pub PairOrZero : List Procedure → List Item → List Item → ℕ → ℕ → Type 0
PairOrZero procedures items others r s = ((r ≡ 0) × (s ≡ 0)) ⊎ IsPair procedures items others r s

pub record ArePairs (procedures : List Procedure) (items others : List Item) (pairs : Pairs) : Type 0 where
  pub forms : AreSameForms items others
  pub tables : AreTables pairs
  pub up : (r s : ℕ) → GoWith pairs r s → PairOrZero procedures items others r s
  pub down : (r s : ℕ) → PairOrZero procedures items others r s → GoWith pairs r s

pub record HavePairs (procedures : List Procedure) (items others : List Item) : Type 0 where
  pub forms : AreSameForms items others
  pub one_to_one : IsOneToOne (PairOrZero procedures items others)

-- what is asked of a register that goes with another
abbrev pub MayChange : ℕ → List Item → ℕ → ℕ → Type 0
MayChange dead items r s = (is_member dead r ≡ true) × ((is_member dead s ≡ true) × IsWrittenFirst r items)

abbrev pub AllMayChange : ℕ → List Item → Pairs → Type 0
AllMayChange dead items pairs = (r s : ℕ) → GoWith pairs r s → s ≢ r → MayChange dead items r s

-- the first n of the list, with x0 behind them up to n
abbrev pub padded : ℕ → List ℕ → List ℕ
padded zero xs = []
padded (suc n) [] = 0 ∷ padded n []
padded (suc n) (x ∷ xs) = x ∷ padded n xs

-- two registers differ, and aren't both in the set
abbrev pub AreApart : ℕ → ℕ → ℕ → Type 0
AreApart dead r s = (s ≢ r) × (¬ ((is_member dead r ≡ true) × (is_member dead s ≡ true)))

-- such two stand in one place
pub record HaveApart (dead : ℕ) (xs ys : List ℕ) : Type 0 where
  pub first : ℕ
  pub second : ℕ
  pub pair : IsPairIn xs ys first second
  pub small : (first < 32) × (second < 32)
  pub apart : AreApart dead first second
