use Rattle.std.proofs.Common.{◌≡◌, ◌+◌, ◌<◌, ◌^◌, drop}
use Rattle.sq_finger.specs.Fingerprints.{weighted}
use Rattle.sq_finger.proofs.prints.fingerprint.Given as goal

abbrev pub invariant-loop-place : goal.invariant-loop-place
invariant-loop-place l = record {
  fits : l.sum < 16 ^ l.place;
  rest : l.sum + weighted l.place (drop l.place l.first) ≡ weighted 0 l.first;
}
