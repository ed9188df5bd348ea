use Rattle.std.proofs.Common.{◌∙◌, map, ap}
use Rattle.sq_lookup.specs.Exchanging.{exchanged_word}
use Rattle.sq_lookup.proofs.Viewing.{words_changed}
use Rattle.sq_lookup.proofs.words_before.WordsBefore.exchange.Goals as goal

pub returns : goal.returns
returns c = words_changed (exchanged_word c.args.pieces) c.self.inside.text c.change.new.text c.change.ensures.changed ∙ ap (map (exchanged_word c.args.pieces)) c.self.view_is
