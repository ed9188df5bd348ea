-- Row C: what its test finds is a jump by an upper half that nothing else needs.
use Rattle.std.proofs.Common.{◌≡◌, ◌≢◌, ◌⊎◌, ℕ, ◌-◌, ◌<◌, true, false, not, nat_eq, List, [], ◌∷◌, length, slice_get, Some, inl, inr, refl, sym, ap, ◌∙◌, arith}
use Rattle.std.proofs.lemmas.Bool.{cases_Bool, eqb-true, eq-eqb}
use Rattle.sq_graph.specs.declared.item.Item.{Item}
use Rattle.sq_graph.specs.declared.item.Item.TheVariants.{Hi}
use Rattle.sq_graph.specs.declared.item.Term.TheVariants.{PartJump}
use Rattle.sq_graph.specs.Graph.{Graph}
use Rattle.sq_graph.specs.Blocks.{items_of, term_of}
use Rattle.sq_graph.specs.Lines.{block_lines}
use Rattle.sq_graph.specs.Walks.{IsLive}
use Rattle.sq_jumps.specs.Shorten.{JumpsByDeadPart}
use Rattle.sq_jumps.proofs.ShortenApplied.{shorten_to}

pub apart_if : (a b : ℕ) → false ≡ nat_eq a b → a ≢ b
apart_if a b e same = let yes = eq-eqb a b same in cc

pub same_if : (a b : ℕ) → false ≡ not (nat_eq a b) → a ≡ b
same_if a b e = elim (cases_Bool (nat_eq a b)) [ inl same ↦ eqb-true a b same | inr apart ↦ absurd (differ (rw apart at e)) ]
  where
    differ : false ≡ true → ⊥
    differ e = cc

at_end : (items : List Item) (item : Item) → slice_get items (length items - 1) ≡ Some item → 0 < length items
at_end [] item e = absurd (cc)
at_end (x ∷ items) item e = omega arith

pub shorten_is : (g : Graph) (block link part to : ℕ) (items : List Item) → items ≡ items_of g block → term_of g block ≡ Some (PartJump link part to) → slice_get items (length items - 1) ≡ Some (Hi part to) → (part ≡ link) ⊎ (¬ IsLive g part (block_lines g to)) → JumpsByDeadPart g block
shorten_is g block link part to items are jump last dead = record {
  at = length items - 1;
  link = link;
  part = part;
  to = to;
  shortable = record {
    half = ap (λ is. slice_get is (length items - 1)) (sym are) ∙ last;
    last = omega (arith, ap (λ (is : List Item). length is) are, at_end items (Hi part to) last);
    jump = jump;
    dead = dead;
  };
}

pub shorten_dies : (g : Graph) (block link part to : ℕ) → term_of g block ≡ Some (PartJump link part to) → part ≢ link → JumpsByDeadPart g block → ¬ IsLive g part (block_lines g to)
shorten_dies g block link part to jump apart d =
    let can = shorten_to g block d.at (length (items_of g block) - 1) d.link link d.part part d.to to (items_of g block) d.shortable refl refl jump in
    elim can.dead [ inl same ↦ absurd (apart same) | inr dead ↦ dead ]
