use Rattle.std.proofs.Common.{subst}
use Rattle.sq_pass.specs.Applied.{IsApplied}
use Rattle.sq_pass.proofs.Rewriting.{rewrite_made, lighter_made}
use Rattle.sq_drive.proofs.Rewrites.{small_room, made_canonical}
use Rattle.sq_drive.proofs.once.rewrite_by_cut.Goals as goal

pub reserve-requires : goal.reserve-requires
reserve-requires g c = small_room c.args.graph.now.graph c.room.result c.requires.canonical c.requires.words c.room.ensures.within

pub returns-clause-made : goal.returns-clause-made
returns-clause-made g c =
    let old = c.args.graph.now.graph in
    let mid = c.apply.new.graph.graph in
    let cut = c.args.cut.now in
    let described = g.P.Pass.described c.args.pass.now in
    let applied = subst (λ same. IsApplied cut.saving (described same cut) same mid) c.reserve.ensures.graph c.apply.ensures.applied in
    rewrite_made (g.P.Pass.is_candidate c.args.pass.now) described cut old mid c.canonical.new.self.graph c.requires.candidate applied c.canonical.ensures.graph

pub returns-clause-lighter : goal.returns-clause-lighter
returns-clause-lighter g c =
    let old = c.args.graph.now.graph in
    let mid = c.apply.new.graph.graph in
    let cut = c.args.cut.now in
    let described = g.P.Pass.described c.args.pass.now in
    let applied = subst (λ same. IsApplied cut.saving (described same cut) same mid) c.reserve.ensures.graph c.apply.ensures.applied in
    lighter_made cut.saving (described old cut) old mid c.canonical.new.self.graph applied
    (made_canonical mid c.canonical.new.self.graph c.learn.ensures.rules c.canonical.ensures.graph c.canonical.ensures.canonical c.canonical.ensures.words)

pub returns-clause-saves : goal.returns-clause-saves
returns-clause-saves g c = g.P.Pass.saves c.args.pass.now c.args.graph.now.graph c.args.cut.now c.requires.candidate
