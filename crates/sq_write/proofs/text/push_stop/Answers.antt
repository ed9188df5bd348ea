use Rattle.std.proofs.Common.{◌∙◌, ◌∷◌, [], ◌++◌, ap, sym, append-nil}
use Rattle.sq_write.specs.Output.{words}
use Rattle.sq_write.proofs.Texts.{stop_word}
use Rattle.sq_write.proofs.text.push_stop.Goals as goal

pub returns : goal.returns
returns c = record {
  text = c.in_ok-push_words.ensures ∙ ap (λ w. c.args.out.now.text.items ++ words (w ∷ [])) (sym (stop_word c.args.word));
  entries = sym (append-nil c.args.out.now.entries.items);
}
