-- The text of the report's data.
use Rattle.std.specs.Prelude.{◌≡◌, refl}
use Rattle.sq_num.specs.declared.packed.Packed.{Packed}
use Rattle.serde_json.specs.Written.{compact_text}
use Rattle.serde_json.proofs.OnLiterals.{serde_json_on_literals}
use Rattle.sq_report.specs.Report.{report_data, report_text}

pub text_of_data : (p : Packed) → compact_text (report_data p) ≡ report_text p
unfolding serde_json_on_literals
text_of_data p = refl
