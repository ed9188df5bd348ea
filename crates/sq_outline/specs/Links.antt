-- The register through which a new procedure is called.
use Rattle.std.specs.Prelude.{◌≡◌, ℕ, true, false, ◌⊎◌, List, [], ◌∷◌}
use Rattle.std.specs.List.{All}
use Rattle.sq_isa.specs.Registers.{is_member}
use Rattle.sq_graph.specs.declared.item.Item.{Item}
use Rattle.sq_graph.specs.Graph.{Graph}
use Rattle.sq_graph.specs.Lines.{place_lines}
use Rattle.sq_graph.specs.Rules.{mentions}
use Rattle.sq_graph.specs.Walks.{IsLive}
use Rattle.sq_outline.specs.declared.sites.Site.{Site}

-- the registers in the order in which they are tried: temporaries first, then ra, sp, gp and tp, then the others
abbrev pub link_order : List ℕ
link_order =
    5 ∷ 6 ∷ 7 ∷ 28 ∷ 29 ∷ 30 ∷ 31 ∷ 1 ∷ 2 ∷ 3 ∷ 4 ∷ 8 ∷ 9 ∷ 10 ∷ 11 ∷ 12 ∷ 13 ∷ 14 ∷ 15 ∷ 16 ∷ 17 ∷ 18 ∷ 19 ∷ 20 ∷ 21 ∷ 22 ∷ 23 ∷ 24 ∷ 25 ∷ 26 ∷ 27 ∷ []

abbrev pub IsDeadAt : Graph → ℕ → Site → Type 0
IsDeadAt g r site = ¬ IsLive g r (place_lines g site.block site.at)

-- the register isn't mentioned in the body, and is dead at each of the places
pub record MayLink (g : Graph) (body : List Item) (places : List Site) (r : ℕ) : Type 0 where
  pub free : All (λ item. mentions item r ≡ false) body
  pub dead : All (IsDeadAt g r) places

-- it is the first of these numbers of which this holds
abbrev pub IsFirstOf : List ℕ → (ℕ → Type 0) → ℕ → Type 0
IsFirstOf [] P r = ⊥
IsFirstOf (x ∷ xs) P r = ((r ≡ x) × P x) ⊎ ((¬ P x) × IsFirstOf xs P r)

-- the link: the first register in that order that may be it
abbrev pub IsLink : Graph → List Item → List Site → ℕ → Type 0
IsLink g body places link = IsFirstOf link_order (MayLink g body places) link

-- the register isn't mentioned in the body, and is in the set
pub record MayLinkBy (body : List Item) (set r : ℕ) : Type 0 where
  pub free : All (λ item. mentions item r ≡ false) body
  pub dead : is_member set r ≡ true

-- the first register in that order of which this holds
abbrev pub IsLinkBy : List Item → ℕ → ℕ → Type 0
IsLinkBy body set link = IsFirstOf link_order (MayLinkBy body set) link
