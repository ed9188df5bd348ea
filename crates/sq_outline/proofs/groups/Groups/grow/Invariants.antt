use Rattle.std.proofs.Common.{◌≡◌, ◌+◌, ◌-◌, ◌<◌, ◌^◌, length, map}
use Rattle.sq_finger.specs.Groups.{grown}
use Rattle.sq_outline.proofs.groups.Groups.grow.Given as goal

abbrev pub invariant-loop-alloc : goal.invariant-loop-alloc
invariant-loop-alloc l = record {
  few : length l.self-inside.groups.items < 2 ^ 32;
  same : grown l.group (map (λ v. v.items) l.self-inside.groups.items) ≡ grown l.group (map (λ v. v.items) l.initial.self-inside.groups.items);
}

abbrev pub decreases-loop-alloc : goal.decreases-loop-alloc
decreases-loop-alloc l = l.group + 1 - length l.self-inside.groups.items
