-- The plain machine of a file has the pieces of the file's world, in the same order.
use Rattle.std.proofs.Common.{ap}
use Rattle.sq_system.specs.World.{World as Layout, is_writable, is_executable}
use Rattle.law_files.proofs.FileImages.{same_layout}
use Rattle.sq_lifted.specs.Files.{FilesAreLaidOut}

pub laid_out : FilesAreLaidOut
laid_out bytes p start =
    let same = same_layout bytes p start in
    record {
      base = ap (λ (w : Layout). w.base) same;
      size = ap (λ (w : Layout). w.size) same;
      writable = λ x. ap (λ w. is_writable w x) same;
      executable = λ x. ap (λ w. is_executable w x) same;
    }
