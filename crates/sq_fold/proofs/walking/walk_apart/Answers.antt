use Rattle.std.proofs.Common.{◌≡◌, ◌-◌, suc, length, sym, subst, arith}
use Rattle.std.specs.HashMap.{get}
use Rattle.sq_finger.specs.Classes.{is_same_kind}
use Rattle.sq_fold.proofs.Levels.{Walking, walking_first, walking_next, walking_end, walking_stuck, walking_zero, some_rounds}
use Rattle.sq_fold.proofs.walking.walk_apart.Goals as goal

pub loop-level-init : goal.loop-level-init
loop-level-init c rules s =
    let g = c.args.graph.now.graph in
    let find = get is_same_kind c.args.index.now in
    let rounds = c.args.rounds.now in
    subst (λ l. Walking g rules find rounds s c.args.x c.args.y c.args.x c.args.y (l - 1) c.new-walk.result.items) (sym c.len-level.ensures)
    (subst (λ w. Walking g rules find rounds s c.args.x c.args.y c.args.x c.args.y (length rounds - 1) w) (sym c.new-walk.ensures.items)
    (walking_first g rules find rounds s c.args.x c.args.y c.requires.first c.requires.second (some_rounds g find rounds s) c.requires.apart))

pub is_same_shape-requires-clause-first : goal.is_same_shape-requires-clause-first
is_same_shape-requires-clause-first c = let w = c.loop-level.invariant c.learn.ensures.rules c.requires.surveyed in w.first

pub is_same_shape-requires-clause-second : goal.is_same_shape-requires-clause-second
is_same_shape-requires-clause-second c = let w = c.loop-level.invariant c.learn.ensures.rules c.requires.surveyed in w.second

pub returns-then-not-same : goal.returns-then-not-same
returns-then-not-same c =
    walking_end c.args.graph.now.graph c.learn.ensures.rules (get is_same_kind c.args.index.now) c.args.rounds.now c.requires.surveyed c.args.x c.args.y c.loop-level.pair.0 c.loop-level.pair.1 c.loop-level.level c.loop-level.walk.items
    (c.loop-level.invariant c.learn.ensures.rules c.requires.surveyed) (λ e. let t = c.in_ok-same.ensures.1 e in let f = c.if-not-same.true in absurd (cc))

pub round-requires : goal.round-requires
round-requires c = let w = c.loop-level.invariant c.learn.ensures.rules c.requires.surveyed in let l = w.below in omega arith

pub parting-requires-clause-first : goal.parting-requires-clause-first
parting-requires-clause-first c = let w = c.loop-level.invariant c.learn.ensures.rules c.requires.surveyed in w.first

pub parting-requires-clause-second : goal.parting-requires-clause-second
parting-requires-clause-second c = let w = c.loop-level.invariant c.learn.ensures.rules c.requires.surveyed in w.second

pub unreachable-requires : goal.unreachable-requires
unreachable-requires c =
    let g = c.args.graph.now.graph in
    let rules = c.learn.ensures.rules in
    let s = c.requires.surveyed in
    let find = get is_same_kind c.args.index.now in
    let level = c.loop-level.level in
    let more : level ≡ suc (level - 1) = let l = c.loop-level-test.true in omega arith in
    let w = subst (λ l. Walking g rules find c.args.rounds.now s c.args.x c.args.y c.loop-level.pair.0 c.loop-level.pair.1 l c.loop-level.walk.items) more (c.loop-level.invariant rules s) in
    walking_stuck g rules find c.args.rounds.now s c.args.x c.args.y c.loop-level.pair.0 c.loop-level.pair.1 (level - 1) c.loop-level.walk.items c.round.result.now w c.round.ensures
    (c.in_ok-same.ensures.0 (let f = c.if-not-same.false in cc)) (rw c.in_default.is at c.in_ok-found.ensures)

pub loop-level-preserved : goal.loop-level-preserved
loop-level-preserved c rules s =
    let g = c.args.graph.now.graph in
    let find = get is_same_kind c.args.index.now in
    let level = c.loop-level.level in
    let more : level ≡ suc (level - 1) = let l = c.loop-level-test.true in omega arith in
    let w = subst (λ l. Walking g rules find c.args.rounds.now s c.args.x c.args.y c.loop-level.pair.0 c.loop-level.pair.1 l c.loop-level.walk.items) more (c.loop-level.invariant rules s) in
    subst (λ ns. Walking g rules find c.args.rounds.now s c.args.x c.args.y c.in-Some.found.1 c.in-Some.found.2 (level - 1) ns) (sym c.in_ok-push.ensures.items)
    (walking_next g rules find c.args.rounds.now s c.args.x c.args.y c.loop-level.pair.0 c.loop-level.pair.1 (level - 1) c.in-Some.found.0 c.in-Some.found.1 c.in-Some.found.2 c.loop-level.walk.items c.round.result.now w c.round.ensures
    (rw c.in-Some.is at c.in_ok-found.ensures))

pub unreachable-requires-2 : goal.unreachable-requires-2
unreachable-requires-2 c =
    let g = c.args.graph.now.graph in
    let rules = c.learn.ensures.rules in
    let s = c.requires.surveyed in
    let find = get is_same_kind c.args.index.now in
    let none : c.loop-level.level ≡ 0 = let l = c.loop-level-test.false in omega arith in
    let w = subst (λ l. Walking g rules find c.args.rounds.now s c.args.x c.args.y c.loop-level.pair.0 c.loop-level.pair.1 l c.loop-level.walk.items) none (c.loop-level.invariant rules s) in
    walking_zero g rules find c.args.rounds.now s c.args.x c.args.y c.loop-level.pair.0 c.loop-level.pair.1 c.loop-level.walk.items w
