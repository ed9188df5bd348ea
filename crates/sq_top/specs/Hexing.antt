-- What `hex` makes of a file, and what `hexcheck` finds of a text.
use Rattle.std.specs.Prelude.{◌≡◌, ℕ, ◌<◌, ◌≤◌, ◌⊎◌, List, ◌++◌, length, codes, decimal, Some, None, Ok, Err}
use Rattle.sq_num.specs.declared.refusal.Refusal.{Refusal}
use Rattle.sq_num.specs.declared.refusal.Refusal.TheVariants.{FileTooLong}
use Rattle.sq_elf.specs.Refusing.{file_refusal_of}
use Rattle.sq_hex.specs.Lines.{lines_of}
use Rattle.sq_hex.specs.Meaning.{HexMeaning, hex_meaning}
use Rattle.sq_hex.specs.Flash.{IsFlashOf}
use Rattle.sq_hex.specs.Texts.{IsHexTextOf}
use Rattle.sq_desk.specs.Outside.{Files, content_of}

-- the text means exactly the flash and the entry of the file
abbrev pub MeansFlash : List ℕ → List ℕ → Type 0
MeansFlash file text = (m : HexMeaning) × (hex_meaning text ≡ Ok m) × IsFlashOf file m

-- nothing of the file is refused by the table of the file reader, the text is the one that is written for it,
-- and it means its flash and its entry
pub record HasHexText (file text : List ℕ) : Type 0 where
  pub accepted : file_refusal_of file ≡ None
  pub written : IsHexTextOf file text
  pub means : MeansFlash file text

-- `hex N`, N its records, and a newline
unfoldable pub hex_line : List ℕ → List ℕ
hex_line text = codes "hex " ++ decimal (length (lines_of text)) ++ codes "\n"

-- a text has at most 134,217,728 bytes
abbrev pub longest_text : ℕ
longest_text = 134217728

-- `same`, and a newline
abbrev pub same_line : List ℕ
same_line = codes "same\n"

-- the line at which the text is at fault; or 0, where it has a meaning that is not the flash and the entry
abbrev pub DiffersAt : List ℕ → List ℕ → ℕ → Type 0
DiffersAt file text line =
    (hex_meaning text ≡ Err line) ⊎ ((line ≡ 0) × (m : HexMeaning) × (hex_meaning text ≡ Ok m) × ¬ IsFlashOf file m)

-- IN is refused by the table of the file reader; or it is not, and HEX is too long
abbrev pub IsCheckRefused : List ℕ → List ℕ → Files → Refusal → Type 0
IsCheckRefused input text files refusal =
    (file_refusal_of (content_of files input) ≡ Some refusal)
    ⊎ ((file_refusal_of (content_of files input) ≡ None) × (longest_text < length (content_of files text)) × (refusal ≡ FileTooLong))

-- nothing is refused, and the text means the flash and the entry of the file
pub record IsSame (input text : List ℕ) (files : Files) : Type 0 where
  pub accepted : file_refusal_of (content_of files input) ≡ None
  pub short : length (content_of files text) ≤ longest_text
  pub means : MeansFlash (content_of files input) (content_of files text)

-- nothing is refused, and the text differs so
pub record DoesDiffer (input text : List ℕ) (files : Files) (line : ℕ) : Type 0 where
  pub accepted : file_refusal_of (content_of files input) ≡ None
  pub short : length (content_of files text) ≤ longest_text
  pub at : DiffersAt (content_of files input) (content_of files text) line
