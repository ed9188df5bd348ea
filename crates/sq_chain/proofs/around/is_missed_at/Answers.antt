use Rattle.std.proofs.Common.{◌≡◌, ◌∙◌, Some, true, sym, subst}
use Rattle.std.specs.Prelude.{option_map}
use Rattle.sq_graph.specs.Blocks.{block_of}
use Rattle.sq_chain.specs.Settled.{is_missed}
use Rattle.sq_chain.specs.Surveys.{extent_of}
use Rattle.sq_chain.proofs.Seen.{name_by}
use Rattle.sq_chain.proofs.around.is_missed_at.Goals as goal

pub is_missed-requires-clause-block : goal.is_missed-requires-clause-block
is_missed-requires-clause-block c =
    let g = c.args.graph.now.graph in
    let taken = c.extent_of-taken in
    subst (λ n. option_map extent_of (block_of g n) ≡ Some c.extent_of-taken.result) (sym (name_by g c.args.block taken.result taken.ensures)) taken.ensures

pub returns : goal.returns
returns c = λ e.
    let g = c.args.graph.now.graph in
    let name = name_by g c.args.block c.extent_of-taken.result c.extent_of-taken.ensures in
    subst (λ m. is_missed g c.args.shift c.args.wide m ≡ true) name (sym c.is_missed.ensures ∙ e)
