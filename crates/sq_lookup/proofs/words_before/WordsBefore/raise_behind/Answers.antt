use Rattle.std.proofs.Common.{◌∙◌, map, ap}
use Rattle.sq_lookup.specs.Lowering.{raised_word}
use Rattle.sq_lookup.proofs.Viewing.{words_changed}
use Rattle.sq_lookup.proofs.words_before.WordsBefore.raise_behind.Goals as goal

pub returns : goal.returns
returns c = words_changed (raised_word c.args.start) c.self.inside.text c.change.new.text c.change.ensures.changed ∙ ap (map (raised_word c.args.start)) c.self.view_is
