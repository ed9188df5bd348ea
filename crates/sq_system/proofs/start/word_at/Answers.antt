use Rattle.std.proofs.Common.{ap, sym, ◌∙◌}
use Rattle.std.specs.Option.{option_map}
use Rattle.sq_system.proofs.Areas.{drop_from_get}
use Rattle.sq_system.proofs.start.word_at.Goals as goal

pub returns : goal.returns
returns c =
    drop_from_get c.args.words.now c.args.index c.unwrap.result.now
    (sym c.get.ensures ∙ ap (λ found. option_map (λ word. word.now) found) c.unwrap.ensures)
