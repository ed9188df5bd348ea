-- A list of code words.
use Rattle.std.specs.Prelude.{◌≡◌, ◌<◌, ◌%◌, ℕ, Bool, true, false, nat_eq, if◌then◌else◌, List, [], ◌∷◌, Option, Some}
use Rattle.std.specs.Option.{option_map}
use Rattle.std.specs.List.{find, AllByRecursion}
use Rattle.sq_elf.specs.Text.{text_of, is_in_text, is_text_word}
use Rattle.sq_elf.specs.Reading.{word_of}
use Rattle.sq_reloc.specs.declared.mark.CodeWord.{CodeWord}
use Rattle.sq_reloc.specs.Outside.{is_beaten, code_word_at}

-- each stands at a higher address than the one before
abbrev pub IsAscending : List CodeWord → Type 0
IsAscending [] = Unit {0}
IsAscending (word ∷ words) = AllByRecursion (λ other. word.at < other.at) words × IsAscending words

-- what the list has at an address
abbrev pub listed_at : List CodeWord → ℕ → Option ℕ
listed_at words address = option_map (λ word. word.to) (find (λ word. nat_eq word.at address) words)

-- the list has exactly the code words of the file, ascending and without repeats
pub record AreCodeWords (bytes : List ℕ) (words : List CodeWord) : Type 0 where
  pub ascending : IsAscending words
  pub exactly : (address : ℕ) → listed_at words address ≡ code_word_at bytes address

-- the code words of these pairs of address and target whose address is not beaten
abbrev pub unbeaten : (ℕ → Bool) → List (ℕ × ℕ) → List CodeWord
unbeaten beaten [] = []
unbeaten beaten (pair ∷ pairs) =
    if beaten pair.0 then unbeaten beaten pairs else record { at = pair.0; to = pair.1 } ∷ unbeaten beaten pairs

-- what a code word of an accepted file is: it stands outside text at a multiple of 4, none of its bytes is stale, its
-- target is a word of text, and the word in the file is its target
pub record IsCodeWord (bytes : List ℕ) (address target : ℕ) : Type 0 where
  pub outside : is_in_text (text_of bytes) address ≡ false
  pub aligned : address % 4 ≡ 0
  pub unbeaten : is_beaten bytes address ≡ false
  pub to_text : is_text_word (text_of bytes) target ≡ true
  pub in_file : word_of bytes address ≡ Some target
