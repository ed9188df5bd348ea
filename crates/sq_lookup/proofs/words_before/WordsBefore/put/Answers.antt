use Rattle.std.proofs.Common.{◌∙◌, ℕ, List, length, set, ap, arith}
use Rattle.sq_lookup.proofs.Viewing.{words_put, words_count}
use Rattle.sq_lookup.proofs.words_before.WordsBefore.put.Goals as goal

pub returns : goal.returns
returns c =
    words_put c.args.name c.args.words c.self.inside.text c.put.new.text (omega (arith, c.requires, words_count c.self.inside.text, ap (λ (t : List ℕ). length t) c.self.view_is)) c.put.ensures.put
    ∙ ap (λ (t : List ℕ). set t c.args.name c.args.words) c.self.view_is
