-- Following is reflexive and transitive.
use Rattle.std.specs.Prelude.{◌≡◌, List, length, map}
use Rattle.std.proofs.Common.{refl, sym, ◌∙◌, ap}
use Rattle.std.proofs.lemmas.List.{length-map}
use Rattle.law_runs.proofs.Follow.{follows_refl, follows_trans}
use Rattle.sq_graph.specs.declared.parts.CodeRef.{CodeRef}
use Rattle.sq_graph.specs.Graph.{Graph}
use Rattle.law_follow.specs.GraphRuns.{graph_step}
use Rattle.law_follow.specs.Worlds.{setting_of}
use Rattle.law_follow.specs.Follows.{Follows, word_address, state_at_start}

same_length : (a b : List CodeRef) → map word_address a ≡ map word_address b → length a ≡ length b
same_length a b e = sym (length-map a word_address) ∙ ap length e ∙ length-map b word_address

pub graph_follows_itself : (g : Graph) → Follows g g
graph_follows_itself g = record {
  addresses = refl;
  runs = λ w world count start valid. follows_refl (graph_step (setting_of w start) g) (state_at_start w g start);
}

pub graph_follows_through : (f g h : Graph) → Follows f g → Follows g h → Follows f h
graph_follows_through f g h p q = record {
  addresses = q.addresses ∙ p.addresses;
  runs = λ w world count start valid.
      follows_trans
      (graph_step (setting_of w start) f) (state_at_start w f start)
      (graph_step (setting_of w start) g) (state_at_start w g start)
      (graph_step (setting_of w start) h) (state_at_start w h start)
      (p.runs w world count start valid)
      (q.runs w world (count ∙ sym (same_length g.code_words f.code_words p.addresses)) start valid);
}
