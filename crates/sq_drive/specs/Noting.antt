-- The step that tells a cut.
use Rattle.std.specs.Prelude.{slice_index}
use Rattle.sq_pass.specs.declared.cut.Cut.{Cut}
use Rattle.sq_pass.specs.declared.cut.Row.{Row}
use Rattle.sq_pass.specs.declared.cut.Row.TheVariants as row_is
use Rattle.sq_cert.specs.declared.step.Step.{Step}
use Rattle.sq_cert.specs.declared.step.Step.TheVariants.{U, J1, J2, J3, C, T, O1, O2, O3, O4, W, V, L}

-- the step of this row with what the cut has
abbrev pub told : Row → Cut → Step
told row_is.U cut = U
told row_is.J1 cut = J1 (slice_index cut.blocks 0)
told row_is.J2 cut = J2 (slice_index cut.blocks 0)
told row_is.J3 cut = J3 (slice_index cut.blocks 0)
told row_is.C cut = C (slice_index cut.blocks 0)
told row_is.T cut = T (slice_index cut.blocks 0) (slice_index cut.blocks 1) cut.length
told row_is.O1 cut = O1 cut.blocks
told row_is.O2 cut = O2 (slice_index cut.blocks 0) cut.procedure
told row_is.O3 cut = O3 cut.procedure cut.other
told row_is.O4 cut = O4 cut.procedure
told row_is.W cut = W (slice_index cut.blocks 0) cut.other cut.length
told row_is.V cut = V (slice_index cut.blocks 0) cut.other cut.procedure
told row_is.L cut = L (slice_index cut.blocks 0) (slice_index cut.blocks 1)

abbrev pub step_of : Cut → Step
step_of cut = told cut.row cut
