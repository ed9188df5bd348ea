-- Into which block nothing goes on.
use Rattle.std.proofs.Common.{◌≡◌, ℕ, false, None, Some, sym, ap, ◌∙◌, subst}
use Rattle.sq_arena.specs.Entries.{previous_key}
use Rattle.sq_graph.specs.declared.item.Term.{Term}
use Rattle.sq_graph.specs.Graph.{Graph}
use Rattle.sq_graph.specs.Blocks.{named, HasBlock, term_of}
use Rattle.sq_graph.specs.Rules.{IsGraph}
use Rattle.sq_graph.specs.Terms.{goes_on}
use Rattle.law_patch.specs.LoneJumps.{IsApart}
use Rattle.sq_lookup.proofs.Previous.{previous_none, before_next, one_before}

module _ (g : Graph) (rules : IsGraph g) (block : ℕ) (has : HasBlock g block) where
  pub none_apart : previous_key (named g.blocks) block ≡ None → IsApart g block
  none_apart none = λ m t next is. absurd (previous_none g rules block m none next)

  -- the slot before
  module _ (m : ℕ) (previous : previous_key (named g.blocks) block ≡ Some m) where
    pub stops_apart : (t : Term) → term_of g m ≡ Some t → goes_on t ≡ false → IsApart g block
    stops_apart t is off = λ n u next is'.
        let same = one_before g n m block rules next (before_next g rules block has m previous) in
        let f : Some u ≡ Some t = sym (subst (λ j. term_of g j ≡ Some u) same is') ∙ is in
        let term : u ≡ t = cc in
        ap goes_on term ∙ off

    pub apart_stops : (t : Term) → term_of g m ≡ Some t → IsApart g block → goes_on t ≡ false
    apart_stops t is apart = apart m t (before_next g rules block has m previous) is
