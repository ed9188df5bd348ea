-- The table in its two phases: the sections, then the entries.
use Rattle.std.proofs.Common.{◌≡◌, ℕ, List, Option, Some, None, sym, ◌∙◌}
use Rattle.sq_num.specs.declared.refusal.Refusal.{Refusal}
use Rattle.sq_num.specs.Refusals.{first_refusal}
use Rattle.sq_elf.proofs.Parts.{here_of_parts, later_of_parts}
use Rattle.sq_reloc.specs.Refusing.{table_rows, entry_rows, reloc_refusal_of}

-- what the sections refuse, the table does
pub tables_refuse : (bytes : List ℕ) (refusal : Refusal) → Some refusal ≡ first_refusal (table_rows bytes) → reloc_refusal_of bytes ≡ Some refusal
unfolding reloc_refusal_of
tables_refuse bytes refusal here = sym (here_of_parts (table_rows bytes) (entry_rows bytes) refusal here)

-- where they refuse nothing, the entries decide
pub entries_decide : (bytes : List ℕ) (refusal : Option Refusal) → None ≡ first_refusal (table_rows bytes) → refusal ≡ first_refusal (entry_rows bytes) → reloc_refusal_of bytes ≡ refusal
unfolding reloc_refusal_of
entries_decide bytes refusal none is = sym (is ∙ later_of_parts (table_rows bytes) (entry_rows bytes) none)
