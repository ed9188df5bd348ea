-- How `hex` and `hexcheck` end, and what they leave outside.
use Rattle.std.specs.Prelude.{◌≡◌, ℕ, ◌⊎◌, List, Some, None, ⊤}
use Rattle.sq_elf.specs.Refusing.{file_refusal_of}
use Rattle.sq_desk.specs.Outside.{Outside, content_of, Rose, Loading, Storing, Printing, KeepsFiles, SetsFile, LosesFile, KeepsPrinted, Prints, PrintsPrefix, ForFiles}
use Rattle.sq_top.specs.declared.ending.Ending.{Ending}
use Rattle.sq_top.specs.declared.ending.Ending.TheVariants.{Done, Words, Desk, Refused, Memory, Break, Limit, BadStart, Differs}
use Rattle.sq_top.specs.declared.ending.DeskCall.TheVariants.{Load, Store, Print}
use Rattle.sq_top.specs.Hexing.{HasHexText, hex_line, same_line, IsCheckRefused, IsSame, DoesDiffer}

-- the text is that of the named file
abbrev pub WritesFile : List ℕ → List ℕ → Outside → Type 0
WritesFile input text before = ForFiles before (λ files. HasHexText (content_of files input) text)

-- what a load and the making of a text leave where they give nothing
abbrev pub LeavesUnwritten : List ℕ → Ending → Outside → Outside → Type 0
LeavesUnwritten input (Desk Load) before after = Rose (Loading input) before after
LeavesUnwritten input (Refused refusal) before after = ForFiles before (λ files. file_refusal_of (content_of files input) ≡ Some refusal)
LeavesUnwritten input Memory before after = ⊤
LeavesUnwritten input other before after = ⊥

-- the output became the text of the input
pub record StoresText (input output text : List ℕ) (before after : Outside) : Type 0 where
  pub writes : WritesFile input text before
  pub stores : SetsFile output (Some text) before after

-- what `hex` leaves, by how it ends
abbrev pub LeavesHex : List ℕ → List ℕ → Ending → Outside → Outside → Type 0
LeavesHex input output Done before after =
    (text : List ℕ) × StoresText input output text before after × Prints (hex_line text) before after
LeavesHex input output Words before after = ⊥
LeavesHex input output (Desk Load) before after =
    Rose (Loading input) before after × KeepsFiles before after × KeepsPrinted before after
LeavesHex input output (Desk Store) before after =
    (text : List ℕ) × WritesFile input text before × Rose (Storing output) before after × LosesFile output before after × KeepsPrinted before after
LeavesHex input output (Desk Print) before after =
    (text : List ℕ) × StoresText input output text before after × Rose Printing before after × PrintsPrefix (hex_line text) before after
LeavesHex input output (Refused refusal) before after =
    ForFiles before (λ files. file_refusal_of (content_of files input) ≡ Some refusal) × KeepsFiles before after × KeepsPrinted before after
LeavesHex input output Memory before after =
    (KeepsFiles before after ⊎ ((text : List ℕ) × StoresText input output text before after)) × KeepsPrinted before after
LeavesHex input output Break before after = ⊥
LeavesHex input output Limit before after = ⊥
LeavesHex input output BadStart before after = ⊥
LeavesHex input output (Differs line) before after = ⊥

-- loading IN failed; or IN is accepted, and loading HEX failed
abbrev pub FailsToCheck : List ℕ → List ℕ → Outside → Outside → Type 0
FailsToCheck input text before after =
    Rose (Loading input) before after
    ⊎ (ForFiles before (λ files. file_refusal_of (content_of files input) ≡ None) × Rose (Loading text) before after)

-- what the loads and the comparison leave where the text is not the same
abbrev pub LeavesUnchecked : List ℕ → List ℕ → Ending → Outside → Outside → Type 0
LeavesUnchecked input text (Desk Load) before after = FailsToCheck input text before after
LeavesUnchecked input text (Refused refusal) before after = ForFiles before (λ files. IsCheckRefused input text files refusal)
LeavesUnchecked input text (Differs line) before after = ForFiles before (λ files. DoesDiffer input text files line)
LeavesUnchecked input text Memory before after = ⊤
LeavesUnchecked input text other before after = ⊥

-- what `hexcheck` leaves printed, by how it ends
abbrev pub CheckLeft : List ℕ → List ℕ → Ending → Outside → Outside → Type 0
CheckLeft input text Done before after = ForFiles before (IsSame input text) × Prints same_line before after
CheckLeft input text Words before after = ⊥
CheckLeft input text (Desk Load) before after = KeepsPrinted before after × FailsToCheck input text before after
CheckLeft input text (Desk Store) before after = ⊥
CheckLeft input text (Desk Print) before after = Rose Printing before after × ForFiles before (IsSame input text) × PrintsPrefix same_line before after
CheckLeft input text (Refused refusal) before after = KeepsPrinted before after × ForFiles before (λ files. IsCheckRefused input text files refusal)
CheckLeft input text Memory before after = KeepsPrinted before after
CheckLeft input text Break before after = ⊥
CheckLeft input text Limit before after = ⊥
CheckLeft input text BadStart before after = ⊥
CheckLeft input text (Differs line) before after = KeepsPrinted before after × ForFiles before (λ files. DoesDiffer input text files line)

-- what `hexcheck` leaves, by how it ends: no file changes
abbrev pub LeavesCheck : List ℕ → List ℕ → Ending → Outside → Outside → Type 0
LeavesCheck input text ending before after = KeepsFiles before after × CheckLeft input text ending before after
