use Rattle.std.proofs.Common.{◌==◌, ◌||◌, refl, sym, ap, ◌∙◌, subst}
use Rattle.sq_graph.specs.Graph.{Graph}
use Rattle.sq_graph.specs.Canonical.{canonical_of}
use Rattle.sq_lookup.specs.Counts.{AreUses}
use Rattle.sq_chain.specs.Bare.{AreSolidBut, AreLed, is_it}
use Rattle.sq_chain.specs.Surveys.{IsPlaced, NoneFalls}
use Rattle.sq_chain.specs.declared.survey.Places.{Places}
use Rattle.sq_chain.proofs.Dropping.{bare_there, bare_rules, bare_canonical, bare_solid, are_without, solid_but, taken_led}
use Rattle.sq_chain.proofs.PassedOn.{passed_bare, passed_canonical, passed_falls, passed_solid}
use Rattle.sq_chain.proofs.Replaced.{placed_without, falls_without}
use Rattle.sq_chain.proofs.local.drop_bare.Goals as goal

pub returns-then-not-is_bare-clause-solid : goal.returns-then-not-is_bare-clause-solid
returns-then-not-is_bare-clause-solid c = λ done may but.
    let g = c.args.graph.now.graph in
    solid_but g c.in-Some.block c.learn.ensures.rules (λ bare. let yes = c.is_bare.ensures.1 bare in let no = c.if-not-is_bare.true in cc) may
    (subst (λ o. AreSolidBut (λ n. is_it o n || may n) c.args.graph.now.graph) c.in-Some.is but)

pub jumps_over-requires : goal.jumps_over-requires
jumps_over-requires c =
    let g = c.args.graph.now.graph in
    let mid = c.pass_on_uses-unused.new.graph.graph in
    bare_there mid c.in-Some.block c.learn-2.ensures.rules (passed_bare c.in-Some.block g mid c.pass_on_uses-unused.ensures.passed (c.is_bare.ensures.0 c.if-not-is_bare.false))

pub returns-then-not-unused-clause-same : goal.returns-then-not-unused-clause-same
returns-then-not-unused-clause-same c =
    let g = c.args.graph.now.graph in
    let mid = c.pass_on_uses-unused.new.graph.graph in
    passed_canonical c.in-Some.block g mid c.pass_on_uses-unused.ensures.passed c.learn.ensures.rules c.learn-2.ensures.rules (c.is_bare.ensures.0 c.if-not-is_bare.false)

pub remove-requires-clause-block : goal.remove-requires-clause-block
remove-requires-clause-block c =
    let g = c.args.graph.now.graph in
    let mid = c.pass_on_uses-unused.new.graph.graph in
    bare_there mid c.in-Some.block c.learn-2.ensures.rules (passed_bare c.in-Some.block g mid c.pass_on_uses-unused.ensures.passed (c.is_bare.ensures.0 c.if-not-is_bare.false))

pub remove-requires-clause-rules : goal.remove-requires-clause-rules
remove-requires-clause-rules c =
    let g = c.args.graph.now.graph in
    let mid = c.pass_on_uses-unused.new.graph.graph in
    bare_rules mid c.in-Some.block c.learn-2.ensures.rules (passed_bare c.in-Some.block g mid c.pass_on_uses-unused.ensures.passed (c.is_bare.ensures.0 c.if-not-is_bare.false))
    (c.pass_on_uses-unused.ensures.unused c.if-not-unused.false)

pub returns-clause-same : goal.returns-clause-same
returns-clause-same c =
    let g = c.args.graph.now.graph in
    let mid = c.pass_on_uses-unused.new.graph.graph in
    let n = c.in-Some.block in
    let bare = c.is_bare.ensures.0 c.if-not-is_bare.false in
    let passed = c.pass_on_uses-unused.ensures.passed in
    ap canonical_of c.remove.ensures.graph
    ∙ bare_canonical mid n c.learn-2.ensures.rules (passed_bare n g mid passed bare) (c.pass_on_uses-unused.ensures.unused c.if-not-unused.false)
    ∙ passed_canonical n g mid passed c.learn.ensures.rules c.learn-2.ensures.rules bare

pub returns-clause-uses : goal.returns-clause-uses
returns-clause-uses c = λ done.
    let g = c.args.graph.now.graph in
    let mid = c.pass_on_uses-unused.new.graph.graph in
    let n = c.in-Some.block in
    let bare = passed_bare n g mid c.pass_on_uses-unused.ensures.passed (c.is_bare.ensures.0 c.if-not-is_bare.false) in
    subst (λ (k : Graph). AreUses k c.pass_on_uses-unused.new.uses) (sym c.remove.ensures.graph)
    (are_without mid n c.learn-2.ensures.rules bare c.pass_on_uses-unused.new.uses (c.pass_on_uses-unused.ensures.uses c.if-not-unused.false))

pub returns-clause-placed : goal.returns-clause-placed
returns-clause-placed c = λ done.
    let g = c.args.graph.now.graph in
    let mid = c.pass_on_uses-unused.new.graph.graph in
    let n = c.in-Some.block in
    let passed = c.pass_on_uses-unused.ensures.passed in
    let bare = passed_bare n g mid passed (c.is_bare.ensures.0 c.if-not-is_bare.false) in
    let old = c.pass_on_uses-unused.new.places in
    let new : Places = record { addresses = c.forget.new.addresses; words = old.words; jumps = old.jumps; branches = old.branches; holders = old.holders } in
    subst (λ (k : Graph). IsPlaced k new) (sym c.remove.ensures.graph)
    (placed_without mid n c.learn-2.ensures.rules old new bare c.pass_on_uses-unused.ensures.placed c.forget.ensures refl refl)

pub returns-clause-falls : goal.returns-clause-falls
returns-clause-falls c = λ done falls.
    let g = c.args.graph.now.graph in
    let mid = c.pass_on_uses-unused.new.graph.graph in
    let n = c.in-Some.block in
    subst NoneFalls (sym c.remove.ensures.graph)
    (falls_without mid n c.learn-2.ensures.rules (passed_falls n g mid c.pass_on_uses-unused.ensures.passed (c.is_bare.ensures.0 c.if-not-is_bare.false) falls) (c.jumps_over.ensures c.if-jumps_over.false))

pub returns-clause-solid : goal.returns-clause-solid
returns-clause-solid c = λ done may but.
    let g = c.args.graph.now.graph in
    let mid = c.pass_on_uses-unused.new.graph.graph in
    let n = c.in-Some.block in
    let passed = c.pass_on_uses-unused.ensures.passed in
    let bare = passed_bare n g mid passed (c.is_bare.ensures.0 c.if-not-is_bare.false) in
    subst (λ (k : Graph). AreSolidBut may k) (sym c.remove.ensures.graph)
    (bare_solid mid n c.learn-2.ensures.rules bare may
    (passed_solid n g mid passed (λ m. n == m || may m) (subst (λ o. AreSolidBut (λ m. is_it o m || may m) c.args.graph.now.graph) c.in-Some.is but)))

pub returns-clause-led : goal.returns-clause-led
returns-clause-led c = λ done leads led.
    let g = c.args.graph.now.graph in
    let mid = c.pass_on_uses-unused.new.graph.graph in
    let n = c.in-Some.block in
    subst (λ (k : Graph). AreLed leads k) (sym c.remove.ensures.graph)
    (taken_led g mid n c.pass_on_uses-unused.ensures.passed c.learn.ensures.rules c.learn-2.ensures.rules (c.is_bare.ensures.0 c.if-not-is_bare.false) leads led)
