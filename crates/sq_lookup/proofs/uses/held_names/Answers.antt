use Rattle.std.proofs.Common.{◌∷◌, [], subst}
use Rattle.sq_graph.specs.Uses.{code_word_uses}
use Rattle.sq_lookup.specs.Names.{Adds}
use Rattle.sq_lookup.proofs.Adding.{adds_held}
use Rattle.sq_lookup.proofs.uses.held_names.Goals as goal

pub returns : goal.returns
returns c =
    adds_held c.args.graph.now.graph [] c.in_ok-held.held c.insert.new.self c.use_words.new.used c.in_ok-held.ensures
    (subst (λ n. Adds (n ∷ []) c.in_ok-held.held c.insert.new.self) c.entry.ensures.value c.in_ok-insert.ensures)
    (subst (λ ws. Adds (code_word_uses ws) c.insert.new.self c.use_words.new.used) c.code_words.ensures c.in_ok-use_words.ensures)
