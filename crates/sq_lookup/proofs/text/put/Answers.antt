use Rattle.std.proofs.Common.{◌≡◌, ◌∙◌, ◌<◌, ℕ, length, refl, sym, subst, ap, arith}
use Rattle.std.proofs.lemmas.List.{get_or_default, length-set}
use Rattle.sq_lookup.specs.declared.places.Part.{Part}
use Rattle.sq_lookup.specs.declared.places.Place.{Place}
use Rattle.sq_lookup.specs.declared.text.Text.{Text}
use Rattle.sq_lookup.specs.Shifting.{IsBetween}
use Rattle.sq_lookup.specs.Standing.{part_at, place_at, no_part, no_place, IsKept}
use Rattle.sq_lookup.proofs.Placing.{put_placed}
use Rattle.sq_lookup.proofs.text.put.Goals as goal
use Rattle.sq_lookup.proofs.text.put.Goals.{then-index-ne0, else-index-ne0}

-- what is known of the text once the part is shifted no more
record IsSettled (number name : ℕ) (text : Text) : Type 0 where
  kept : IsKept text
  shift : (part_at text.parts.items number).shift ≡ 0
  part : (place_at text.places.items name).part ≡ number
  within : name < length text.places.items
  count : number < length text.parts.items

module _ (c : goal.After-text-2-1) where
  abbrev number : ℕ
  number = c.index.result.now.part

  own : (place_at c.args.text.now.places.items c.args.name).part ≡ number
  own = sym (ap (λ (it : Place). it.part) (c.index.ensures ∙ get_or_default c.args.text.now.places.items c.args.name c.index.result.now no_place c.requires.name))

  within_old : number < length c.args.text.now.parts.items
  within_old = let placed = c.requires.kept.each c.args.name c.requires.name in let part = placed.part in omega (arith, own, part)

  settled : IsSettled number c.args.name c.if-index-ne0.text
  settled =
      elim c.if-index-ne0.branch [
        | then-index-ne0 w ↦
            let changed = w.rewrite.ensures.changed in
            subst (IsSettled number c.args.name) (sym w.text-is)
            (record {
              kept = w.rewrite.ensures.kept;
              shift = w.rewrite.ensures.settled;
              part = changed.part c.args.name c.requires.name ∙ own;
              within = omega (arith, c.requires.name, changed.count);
              count = omega (arith, within_old, changed.parts);
            })
        | else-index-ne0 w ↦
            let none : c.index-2.result.now.shift ≡ 0 = omega (arith, w.if-index-ne0.false) in
            subst (IsSettled number c.args.name) (sym w.text-is)
            (record {
              kept = record { few = c.requires.kept.few; each = c.requires.kept.each };
              shift = sym (ap (λ (it : Part). it.shift) (c.index-2.ensures ∙ get_or_default c.args.text.now.parts.items number c.index-2.result.now no_part within_old)) ∙ none;
              part = own;
              within = c.requires.name;
              count = within_old;
            })
      ]

pub returns-clause-kept : goal.returns-clause-kept
returns-clause-kept c =
    let text = c.if-index-ne0.text in
    let is = settled c in
    let parts = text.parts.items in
    let places = text.places.items in
    let at = number c in
    let old = c.index_mut-2.result.now in
    let bounds = c.widened_by.result in
    let part : Part = record { start = old.start; end = old.end; shift = old.shift; bounds = bounds } in
    let place = c.index_mut.result.now in
    let new : Place = record { slot = place.slot; part = place.part; words = c.args.words } in
    let part_is : old ≡ part_at parts at = c.index_mut-2.ensures.value ∙ get_or_default parts at old no_part is.count in
    let bounds_are : c.index-3.result.now ≡ part_at parts at = c.index-3.ensures ∙ get_or_default parts at c.index-3.result.now no_part is.count in
    let place_is : place ≡ place_at places c.args.name = c.index_mut.ensures.value ∙ get_or_default places c.args.name place no_place is.within in
    record {
      few = let few = is.kept.few in omega (arith, few, length-set parts at part);
      each = λ n within.
          put_placed parts text.order.items places at c.args.name c.args.words part new is.within is.count is.part
          (ap (λ (it : Part). it.start) part_is) (ap (λ (it : Part). it.end) part_is)
          (ap (λ (it : Part). it.shift) part_is ∙ is.shift) is.shift
          (λ w between. c.widened_by.ensures.old w (subst (λ (it : Part). IsBetween it.bounds w) (sym bounds_are) between))
          c.widened_by.ensures.new
          (ap (λ (it : Place). it.slot) place_is) (ap (λ (it : Place). it.part) place_is) refl
          n (is.kept.each n (omega (arith, within, length-set places c.args.name new)));
    }
