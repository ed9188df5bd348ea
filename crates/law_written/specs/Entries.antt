-- The relocation entries of an output file, as they are read.
use Rattle.std.specs.Prelude.{◌≡◌, ◌<◌, ℕ, suc, ◌^◌, false, List, [], ◌∷◌}
use Rattle.std.specs.List.{AllByRecursion}
use Rattle.sq_elf.specs.Text.{text_of}
use Rattle.sq_reloc.specs.declared.entry.Entry.{Entry}
use Rattle.sq_reloc.specs.Entries.{entries_of as read_entries}
use Rattle.sq_reloc.specs.Kinds.{is_ignored}
use Rattle.sq_graph.specs.Graph.{Graph}
use Rattle.sq_write.specs.Output.{Relocation, Output, output_file}
use Rattle.sq_write.specs.Written.{entries_of, written}
use Rattle.law_written.specs.Fitting.{IsFitting}
use Rattle.law_written.specs.Written.{IsWritable}

-- a relocation whose numbers fit an entry, of a type that counts
pub record IsFittingRelocation (r : Relocation) : Type 0 where
  pub offset : r.offset < 2 ^ 32
  pub kind : r.kind < 256
  pub counts : is_ignored r.kind ≡ false
  pub addend : r.addend < 2 ^ 32

-- an entry of section 4, of symbol 0
abbrev pub read_entry : ℕ → Relocation → Entry
read_entry number r = record {
  section = 4;
  number = number;
  offset = r.offset;
  kind = r.kind;
  symbol = 0;
  value = 0;
  addend = r.addend;
}

-- the entries of relocations, by their numbers from the first on
abbrev pub numbered : ℕ → List Relocation → List Entry
numbered number [] = []
numbered number (r ∷ rs) = read_entry number r ∷ numbered (suc number) rs

-- The entries of an output file are its relocations, in order.
abbrev pub EntriesAreRead : Type 0
EntriesAreRead =
    (o : Output) → IsFitting o → AllByRecursion IsFittingRelocation o.relocations → read_entries (output_file o) ≡ numbered 0 o.relocations

-- The entries of the file of a graph are the graph's, in order.
abbrev pub WrittenEntriesAreRead : Type 0
WrittenEntriesAreRead =
    (bytes : List ℕ) (g : Graph) → IsWritable bytes g → read_entries (written bytes g) ≡ numbered 0 (entries_of g (text_of bytes).lo)
