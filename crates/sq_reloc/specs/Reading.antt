-- What a reader of relocations keeps of an accepted file.
use Rattle.std.specs.Prelude.{◌≡◌, ◌%◌, ℕ, nat_eq, List, None}
use Rattle.std.specs.Ordering.{nat_cmp}
use Rattle.std.specs.declared.hash.FoldHasher.{FoldHasher}
use Rattle.std.specs.declared.hash.BuildHasherDefault.{BuildHasherDefault}
use Rattle.std.specs.HashSet.{HashSet}
use Rattle.std.specs.HashSet as set
use Rattle.std.specs.BTreeMap.{BTreeMap}
use Rattle.std.specs.BTreeMap as tree
use Rattle.sq_elf.specs.declared.text.Text.{Text}
use Rattle.sq_elf.specs.Text.{text_of}
use Rattle.sq_reloc.specs.declared.mark.CodeWord.{CodeWord}
use Rattle.sq_reloc.specs.declared.seen.Seen.{Seen}
use Rattle.sq_reloc.specs.Entries.{entries_of}
use Rattle.sq_reloc.specs.Outside.{is_stale_by, code_target}
use Rattle.sq_reloc.specs.CodeWords.{AreCodeWords}
use Rattle.sq_reloc.specs.Marks.{touching}
use Rattle.sq_reloc.specs.Seen.{AreWordsBy}
use Rattle.sq_reloc.specs.Refusing.{reloc_refusal_of}

-- what is kept of the entries outside text: the bytes that they make stale, and the targets of code entries
pub record KeepsOutside (bytes : List ℕ) (text : Text) (stale : HashSet ℕ (BuildHasherDefault FoldHasher)) (targets : BTreeMap ℕ ℕ) : Type 0 where
  pub text_is : text ≡ text_of bytes
  pub stale_is : (address : ℕ) → set.contains nat_eq stale address ≡ is_stale_by (text_of bytes) (entries_of bytes) address
  pub targets_are : (address : ℕ) → tree.get nat_cmp targets address ≡ code_target bytes address

-- what is kept of a file whose relocations are accepted
pub record Keeps (bytes : List ℕ) (text : Text) (words : List Seen) (code_words : List CodeWord) : Type 0 where
  pub accepted : reloc_refusal_of bytes ≡ None
  pub text_is : text ≡ text_of bytes
  pub low_word : text.lo % 4 ≡ 0
  pub high_word : text.hi % 4 ≡ 0
  pub words_are : AreWordsBy bytes words (touching bytes)
  pub code_words_are : AreCodeWords bytes code_words
