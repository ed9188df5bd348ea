use Rattle.std.proofs.Common.{◌≡◌, get_or}
use Rattle.sq_memory.specs.Contents.{region_of}
use Rattle.sq_memory.specs.declared.contents.Region.{Region}
use Rattle.sq_memory.proofs.Near.{IsCut}
use Rattle.sq_memory.proofs.contents.near_at.Given as goal

abbrev pub invariant-loop-region : goal.invariant-loop-region
invariant-loop-region g l = (served : Region g.row.C.Denot) → served ≡ get_or l.regions l.place served → IsCut region_of l.regions l.place served l.address l.region-index l.near
