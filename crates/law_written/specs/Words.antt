-- The words of text of the file of a graph: their instructions and their marks.
use Rattle.std.specs.Prelude.{◌≡◌, ℕ, ◌+◌, ◌*◌, nat_eq, if◌then◌else◌, List, [], ◌∷◌, Some}
use Rattle.std.specs.List.{slice_get}
use Rattle.sq_elf.specs.Text.{text_of}
use Rattle.sq_reloc.specs.declared.mark.Mark.{Mark}
use Rattle.sq_reloc.specs.declared.mark.Mark.TheVariants.{Plain, Hi, Lo}
use Rattle.sq_reloc.specs.Marks.{mark_of}
use Rattle.sq_reloc.specs.Required.{insn_at}
use Rattle.sq_graph.specs.Graph.{Graph}
use Rattle.sq_write.specs.Output.{Relocation}
use Rattle.sq_write.specs.Points.{Point, text_points}
use Rattle.sq_write.specs.Written.{written}
use Rattle.law_written.specs.Written.{IsWritable}

-- The instruction at the address of a word of text is that of its point.
abbrev pub WrittenInstructionsAreRead : Type 0
WrittenInstructionsAreRead =
    (bytes : List ℕ) (g : Graph) → IsWritable bytes g → (k : ℕ) (p : Point)
    → slice_get (text_points g (text_of bytes).lo) k ≡ Some p → insn_at (written bytes g) ((text_of bytes).lo + 4 * k) ≡ Some p.insn

-- R_RISCV_HI20 marks a word Hi and R_RISCV_LO12_I marks it Lo, with the address; without an entry it is Plain
abbrev pub mark_by : List Relocation → Mark
mark_by [] = Plain
mark_by (r ∷ rs) = if nat_eq r.kind 26 then Hi r.addend else Lo r.addend

abbrev pub point_mark : Point → Mark
point_mark p = mark_by p.entries

-- The mark of a word of text is that of its point.
abbrev pub WrittenMarksAreRead : Type 0
WrittenMarksAreRead =
    (bytes : List ℕ) (g : Graph) → IsWritable bytes g → (k : ℕ) (p : Point)
    → slice_get (text_points g (text_of bytes).lo) k ≡ Some p → mark_of (written bytes g) ((text_of bytes).lo + 4 * k) ≡ point_mark p
