use Rattle.std.proofs.Common.{sym, ◌∙◌, subst}
use Rattle.sq_graph.specs.Graph.{Graph}
use Rattle.sq_graph.specs.Blocks.{body_of}
use Rattle.sq_graph.specs.Operations.{outlined}
use Rattle.sq_outline.specs.Sites.{MayCallEach}
use Rattle.sq_outline.specs.WindowsPlaces.{calls_for}
use Rattle.sq_outline.proofs.WindowsBlocks.{all_called}
use Rattle.sq_outline.proofs.WindowsMaking.{window_rules, calls_may, calls_are}
use Rattle.sq_outline.proofs.windows.window.make_window.Goals as goal

pub outline-procedure-requires-clause-rules : goal.outline-procedure-requires-clause-rules
outline-procedure-requires-clause-rules c =
    let made = c.requires.made in
    window_rules c.args.graph.now.graph c.args.block c.args.at c.args.n c.args.link made.0 c.learn.ensures.rules made.1

pub call_in_blocks-requires : goal.call_in_blocks-requires
call_in_blocks-requires c =
    let made = c.requires.made in
    subst (λ (h : Graph). MayCallEach h (calls_for h (body_of h c.outline-procedure.result)) c.outline-procedure.result) (sym c.outline-procedure.ensures.graph)
    (subst (λ q. MayCallEach (outlined c.args.graph.now.graph c.args.block c.args.at c.args.n c.args.link) (calls_for (outlined c.args.graph.now.graph c.args.block c.args.at c.args.n c.args.link) (body_of (outlined c.args.graph.now.graph c.args.block c.args.at c.args.n c.args.link) q)) q) (sym c.outline-procedure.ensures.number)
    (calls_may c.args.graph.now.graph c.args.block c.args.at c.args.n c.args.link made.0 c.learn.ensures.rules made.1))

pub returns-clause-graph : goal.returns-clause-graph
returns-clause-graph c =
    let made = c.requires.made in
    c.call_in_blocks.ensures.graph
    ∙ (λ i. all_called (c.outline-procedure.ensures.graph i) (c.outline-procedure.ensures.number i))
    ∙ calls_are c.args.graph.now.graph c.args.block c.args.at c.args.n c.args.link made.0 c.learn.ensures.rules made.1
