-- the table's parts, one after the other
use Rattle.std.proofs.Common.{◌≡◌, ℕ, List, ◌++◌, None, ◌∙◌}
use Rattle.sq_num.specs.Refusals.{Row, first_refusal}
use Rattle.sq_elf.specs.Refusing.{header_rows, table_rows, segment_rows, text_rows, size_rows, file_refusal_of}
use Rattle.sq_elf.proofs.Parts.{here_of_parts, later_of_parts}
use Rattle.sq_elf.proofs.refusing.file_refusal.Goals as goal

abbrev from_text : List ℕ → List Row
from_text bytes = text_rows bytes ++ size_rows bytes

abbrev from_segments : List ℕ → List Row
from_segments bytes = segment_rows bytes ++ from_text bytes

abbrev from_tables : List ℕ → List Row
from_tables bytes = table_rows bytes ++ from_segments bytes

module _ (bytes : List ℕ) (header : None ≡ first_refusal (header_rows bytes)) where
  behind_header : first_refusal (from_tables bytes) ≡ file_refusal_of bytes
  unfolding file_refusal_of
  behind_header = later_of_parts (header_rows bytes) (from_tables bytes) header

  module _ (tables : None ≡ first_refusal (table_rows bytes)) where
    behind_tables : first_refusal (from_segments bytes) ≡ file_refusal_of bytes
    behind_tables = later_of_parts (table_rows bytes) (from_segments bytes) tables ∙ behind_header

    module _ (segments : None ≡ first_refusal (segment_rows bytes)) where
      behind_segments : first_refusal (from_text bytes) ≡ file_refusal_of bytes
      behind_segments = later_of_parts (segment_rows bytes) (from_text bytes) segments ∙ behind_tables

pub returns-in-Some : goal.returns-in-Some
unfolding file_refusal_of
returns-in-Some c = here_of_parts (header_rows c.args.bytes.now) (from_tables c.args.bytes.now) c.in-Some.refusal c.in-Some.ensures

pub returns-in-Some-table_refusal : goal.returns-in-Some-table_refusal
returns-in-Some-table_refusal c =
    here_of_parts (table_rows c.args.bytes.now) (from_segments c.args.bytes.now) c.in-Some-table_refusal.refusal c.in-Some-table_refusal.ensures
    ∙ behind_header c.args.bytes.now c.in_default.ensures

pub returns-in-Some-segment_refusal : goal.returns-in-Some-segment_refusal
returns-in-Some-segment_refusal c =
    here_of_parts (segment_rows c.args.bytes.now) (from_text c.args.bytes.now) c.in-Some-segment_refusal.refusal c.in-Some-segment_refusal.ensures
    ∙ behind_tables c.args.bytes.now c.in_default.ensures c.in_default-table_refusal.ensures

pub returns-in-Some-text_refusal : goal.returns-in-Some-text_refusal
returns-in-Some-text_refusal c =
    here_of_parts (text_rows c.args.bytes.now) (size_rows c.args.bytes.now) c.in-Some-text_refusal.refusal c.in-Some-text_refusal.ensures
    ∙ behind_segments c.args.bytes.now c.in_default.ensures c.in_default-table_refusal.ensures c.in_default-segment_refusal.ensures

pub returns : goal.returns
returns c =
    c.size_refusal.ensures
    ∙ later_of_parts (text_rows c.args.bytes.now) (size_rows c.args.bytes.now) c.in_default-text_refusal.ensures
    ∙ behind_segments c.args.bytes.now c.in_default.ensures c.in_default-table_refusal.ensures c.in_default-segment_refusal.ensures
