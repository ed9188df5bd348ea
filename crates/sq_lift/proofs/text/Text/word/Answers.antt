use Rattle.std.proofs.Common.{ap, ◌∙◌, slice_get}
use Rattle.law_program.specs.Programs.{Text, word_at}
use Rattle.sq_lift.proofs.Placed.{copied_item, word_in_place}
use Rattle.sq_lift.proofs.text.Text.word.Goals as goal

pub returns-in-Some : goal.returns-in-Some
returns-in-Some c =
    let t : Text = record { lo = c.self.inside.lo; words = c.self.inside.words.items } in
    c.copied.ensures
    ∙ copied_item c.deref.result.now c.in-Some.place c.get.result c.get.ensures.lookup.0 c.get.ensures.lookup.1
    ∙ ap (λ words. slice_get words c.in-Some.place) c.deref.ensures.value
    ∙ word_in_place t c.args.address c.in-Some.place c.in-Some.ensures
    ∙ ap (λ text. word_at text c.args.address) c.self.view_is
