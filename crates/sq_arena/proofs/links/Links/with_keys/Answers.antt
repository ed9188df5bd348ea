use Rattle.std.proofs.Common.{◌≡◌, ◌+◌, ◌-◌, refl, subst, arith}
use Rattle.sq_arena.proofs.FullNodes.{HasKeys, keys_none, keys_step, keys_linked}
use Rattle.sq_arena.proofs.links.Links.with_keys.Goals as goal

pub loop-key-init : goal.loop-key-init
loop-key-init g c = keys_none _ c.args.count c.in_ok-full_nodes.ensures.nodes c.in_ok-full_nodes.ensures.empty refl refl refl

pub set_next-requires : goal.set_next-requires
set_next-requires g c = c.loop-key.invariant.nodes (c.loop-key.key - 1) (omega (arith, c.loop-key.invariant.fits, c.loop-key-test.true))

pub loop-key-preserved : goal.loop-key-preserved
loop-key-preserved g c =
    let key : c.loop-key.key ≡ c.loop-key.key - 1 + 1 = omega (arith, c.loop-key-test.true) in
    keys_step c.loop-key.made c.set_next.new.self c.args.count (c.loop-key.key - 1) (subst (HasKeys c.loop-key.made c.args.count) key c.loop-key.invariant) c.set_next.ensures

pub returns : goal.returns
returns g c =
    let none : c.loop-key.key ≡ 0 = omega (arith, c.loop-key-test.false) in
    keys_linked c.loop-key.made c.args.count (subst (HasKeys c.loop-key.made c.args.count) none c.loop-key.invariant)
