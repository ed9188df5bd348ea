-- A linked program as lifting and the monitor see it: words of text, what relocations say of them, and what names
-- them from outside.
use Rattle.std.specs.Prelude.{◌≡◌, ℕ, ◌+◌, ◌*◌, true, Bool, ◌&&◌, ◌==◌, nat_le, nat_lt, List, [], ◌∷◌, length, Option, Some, None, if◌then◌else◌}
use Rattle.std.specs.Option.{option_and_then, is_some}
use Rattle.sq_isa.specs.Table.{insn_of}
use Rattle.sq_isa.specs.declared.instructions.Insn.{Insn}
use Rattle.sq_reloc.specs.declared.mark.Mark.{Mark}
use Rattle.sq_reloc.specs.declared.mark.CodeWord.{CodeWord}

-- a word of text, and what relocations say of it
pub record Word : Type 0 where
  pub number : ℕ
  pub mark : Mark

-- the words of text from the address `lo` on
pub record Text : Type 0 where
  pub lo : ℕ
  pub words : List Word

-- a noted procedure: the address of its first word, the register that holds where it returns to, and how many items
-- its body has
pub record Note : Type 0 where
  pub address : ℕ
  pub link : ℕ
  pub length : ℕ

pub record Program : Type 0 where
  pub text : Text
  pub entry : ℕ
  pub code_words : List CodeWord
  pub notes : List Note

-- the word at address x, where these stand from `at` on
abbrev pub word_from : ℕ → ℕ → List Word → Option Word
word_from x at [] = None
word_from x at (w ∷ words) = if x == at then Some w else word_from x (at + 4) words

abbrev pub word_at : Text → ℕ → Option Word
word_at t x = word_from x t.lo t.words

-- x is the address of a word of text
abbrev pub is_word : Text → ℕ → Bool
is_word t x = is_some (word_at t x)

abbrev pub IsWord : Text → ℕ → Type 0
IsWord t x = is_word t x ≡ true

-- the address behind the last word
abbrev pub end_of : Text → ℕ
end_of t = t.lo + 4 * length t.words

abbrev pub is_in_text : Text → ℕ → Bool
is_in_text t x = nat_le t.lo x && nat_lt x (end_of t)

abbrev pub insn_in : Word → Option Insn
insn_in w = insn_of w.number

-- the instruction at an address of text
abbrev pub insn_at : Text → ℕ → Option Insn
insn_at t x = option_and_then insn_in (word_at t x)

abbrev pub target_of : CodeWord → ℕ
target_of word = word.to
