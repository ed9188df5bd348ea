use Rattle.std.proofs.Common.{◌≡◌, ◌∙◌, List, slice_set, subst, sym, ap}
use Rattle.sq_graph.specs.declared.parts.CodeRef.{CodeRef}
use Rattle.sq_graph.specs.Rules.{IsGraph}
use Rattle.sq_graph.specs.Layout.{graph_of}
use Rattle.sq_graph.specs.Operations.{words_with, with_word}
use Rattle.sq_graph.proofs.HoldingWrites.{words_with-set, with_word_rules, held_sound}
use Rattle.sq_graph.proofs.graph.Graph.set_word.Goals as goal

module _ (c : goal.After-self-1) where
  abbrev word : CodeRef
  word = record { at = c.index_mut-word.result.now.at; block = c.args.block }

  words_are : slice_set c.self.inside.code_words.items c.args.at word ≡ words_with c.self.inside.code_words.items c.args.at c.args.block
  words_are = words_with-set c.self.inside.code_words.items c.args.at c.args.block c.index_mut-word.result.now c.index_mut-word.ensures.value

  new_rules : IsGraph (record (graph_of c.self.inside) { code_words = slice_set c.self.inside.code_words.items c.args.at word })
  new_rules =
      subst (λ (ws : List CodeRef). IsGraph (record (graph_of c.self.inside) { code_words = ws })) (sym words_are)
      (with_word_rules (graph_of c.self.inside) c.args.at c.args.block c.self.invariant.rules (rw (← c.self.view_is) at c.requires.block))

pub invariant_of-self : goal.invariant_of-self
invariant_of-self c = held_sound c.self.inside c.self.inside.entry _ c.self.invariant (new_rules c)

pub returns-clause-graph : goal.returns-clause-graph
returns-clause-graph c =
    ap (λ ws. record (graph_of c.self.inside) { code_words = ws }) (words_are c)
    ∙ ap (λ v. with_word v.graph c.args.at c.args.block) c.self.view_is

pub returns-clause-rules : goal.returns-clause-rules
returns-clause-rules c = new_rules c
