use Rattle.std.proofs.Common.{◌∙◌, ◌<◌, length, inl, inr, ap, arith}
use Rattle.std.proofs.lemmas.Bool.{cases_eq}
use Rattle.sq_lookup.specs.Shifting.{changed_word}
use Rattle.sq_lookup.specs.Standing.{place_at}
use Rattle.sq_lookup.proofs.text.change_all.Goals as goal

pub loop-number-preserved : goal.loop-number-preserved
loop-number-preserved c =
    let so = c.loop-number.invariant in
    let now = c.loop-number.text in
    let more = c.change_part.ensures.changed in
    record {
      kept = c.change_part.ensures.kept;
      count = more.count ∙ so.count;
      parts = more.parts ∙ so.parts;
      done = λ n within less.
          let inside : n < length now.places.items = omega (arith, within, so.count) in
          let part = more.part n inside in
          elim (cases_eq (place_at now.places.items n).part c.loop-number.number) [
            | inl is ↦ more.words n inside is ∙ ap (changed_word c.args.change) (so.rest n within (omega (arith, is)))
            | inr other ↦ more.other n inside other ∙ so.done n within (omega (arith, less, part, other))
          ];
      rest = λ n within past.
          let inside : n < length now.places.items = omega (arith, within, so.count) in
          let part = more.part n inside in
          more.other n inside (λ is. omega (arith, is, past, part)) ∙ so.rest n within (omega (arith, past, part));
    }
