use Rattle.std.proofs.Common.{◌≡◌, ◌∙◌, ◌+◌, ◌%◌, refl, sym, subst, ap, arith}
use Rattle.std.proofs.lemmas.List.{get_or_default, length-set}
use Rattle.sq_lookup.specs.declared.places.Part.{Part}
use Rattle.sq_lookup.specs.Shifting.{changed_word, shifted_word, IsBetween}
use Rattle.sq_lookup.specs.Standing.{part_at, place_at, no_part}
use Rattle.sq_lookup.proofs.Placing.{placed_again, shifted_between}
use Rattle.sq_lookup.proofs.text.change_part.Goals as goal

pub returns-in-Some-clause-kept : goal.returns-in-Some-clause-kept
returns-in-Some-clause-kept c =
    let text = c.args.text.now in
    let parts = text.parts.items in
    let number = c.args.number in
    let old = c.index-part.result.now in
    let more = c.in-Some.shift in
    let is : old ≡ part_at parts number = c.index-part.ensures ∙ get_or_default parts number old no_part c.requires.number in
    let new : Part = record { start = old.start; end = old.end; shift = (old.shift + more) % 4294967296; bounds = record { least = (old.bounds.least + more) % 4294967296; most = (old.bounds.most + more) % 4294967296 } } in
    record {
      few = let few = c.requires.kept.few in omega (arith, few, length-set parts number new);
      each = λ n within.
          let place = place_at text.places.items n in
          let placed = c.requires.kept.each n within in
          placed_again parts text.order.items number n new place place c.requires.number (ap (λ (it : Part). it.start) is) (ap (λ (it : Part). it.end) is) placed refl refl (λ _. refl)
          (λ at there.
          let own : part_at parts place.part ≡ old = ap (part_at parts) at ∙ sym is in
          shifted_between (changed_word c.args.change) old.bounds old.shift more place.words c.in-Some.ensures there (subst (λ (it : Part). IsBetween it.bounds (shifted_word it.shift place.words)) own (placed.between there)) new.bounds refl refl);
    }
