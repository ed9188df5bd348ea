use Rattle.std.proofs.Common.{[], ◌∷◌}
use Rattle.sq_lookup.specs.Names.{Adds}
use Rattle.sq_lookup.proofs.Targets.{lone, has_lone}
use Rattle.sq_jumps.specs.Lone.{AreChosen}
use Rattle.sq_jumps.proofs.LoneApart.{on_ok, chosen_more}
use Rattle.sq_jumps.proofs.lone.choose.Goals as goal

pub free_target-requires : goal.free_target-requires
free_target-requires c =
    let g = c.args.graph.now.graph in
    let goes = c.requires.block in
    has_lone g c.args.block goes.to (lone g c.args.block goes.to goes.jump)

pub returns-clause-chosen : goal.returns-clause-chosen
returns-clause-chosen c =
    let g = c.args.graph.now.graph in
    let chosen = c.args.chosen.now in
    on_ok c.insert-2.result (Adds (c.in-Some.to ∷ []) chosen.aims c.insert-2.new.self) (AreChosen chosen.row g c.push.new.self.items c.insert.new.self c.insert-2.new.self)
    (λ led. chosen_more chosen.row g chosen.blocks.items c.push.new.self.items chosen.gone c.insert.new.self chosen.aims c.insert-2.new.self c.args.block c.in-Some.to c.requires.chosen c.requires.block c.in-Some.ensures c.in_ok-push.ensures.items c.in_ok-insert.ensures led)
    c.insert-2.ensures
