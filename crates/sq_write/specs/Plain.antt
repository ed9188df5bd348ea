-- The plain file of a list of words: one piece, the words as text at 0x00010000 with the entry
-- there, no relocation entries, and a note without procedures.
use Rattle.std.specs.Prelude.{ℕ, List, [], ◌∷◌, ◌++◌, codes}
use Rattle.sq_write.specs.Output.{words, Output, output_file}

-- where the text of a plain file starts
abbrev pub plain_start : ℕ
plain_start = 65536

-- the note without procedures: its name and version, and the count 0
abbrev pub empty_note : List ℕ
empty_note = codes "SQZ1" ++ words (0 ∷ [])

abbrev pub plain_output : List ℕ → Output
plain_output text =
    record { entry = plain_start; before = []; start = plain_start; text = text; after = []; relocations = []; note = empty_note }

-- the plain file of the words
unfoldable pub plain_file : List ℕ → List ℕ
plain_file text = output_file (plain_output text)
