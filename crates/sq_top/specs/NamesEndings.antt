-- How `names` ends, and what it leaves outside.
use Rattle.std.specs.Prelude.{◌≡◌, ℕ, ◌<◌, ◌≤◌, ◌⊎◌, List, length, ⊤}
use Rattle.sq_num.specs.declared.refusal.Refusal.{Refusal}
use Rattle.sq_num.specs.declared.refusal.Refusal.TheVariants.{FileTooLong}
use Rattle.sq_names.specs.declared.track.Track.{Track}
use Rattle.law_program.specs.FilePrograms.{IsRefusalOf, IsAcceptedFile}
use Rattle.sq_desk.specs.Outside.{Outside, Files, content_of, Rose, Loading, Printing, KeepsFiles, KeepsPrinted, Prints, PrintsPrefix, ForFiles}
use Rattle.sq_top.specs.declared.ending.Ending.{Ending}
use Rattle.sq_top.specs.declared.ending.Ending.TheVariants.{Done, Desk, Refused, Memory, Differs}
use Rattle.sq_top.specs.declared.ending.DeskCall.TheVariants.{Load, Print}
use Rattle.sq_top.specs.CertEndings.{longest_cert}
use Rattle.sq_top.specs.Tracks.{AreTracksOf, FailsToTrack, AreLinesOf}

-- nothing is refused
pub record MayName (input cert : List ℕ) (files : Files) : Type 0 where
  pub given : IsAcceptedFile (content_of files input)
  pub short : length (content_of files cert) ≤ longest_cert

-- nothing is refused, and these are the lines of IN and CERT
pub record IsNamed (input cert : List ℕ) (files : Files) (lines : List ℕ) : Type 0 where
  pub may : MayName input cert files
  pub are : AreLinesOf (content_of files input) (content_of files cert) lines

-- nothing is refused, and CERT is at fault in this line: it tracks no function of IN
pub record IsUnnamed (input cert : List ℕ) (files : Files) (line : ℕ) : Type 0 where
  pub may : MayName input cert files
  pub fails : FailsToTrack (content_of files input) (content_of files cert) line
  pub never : (tracks : List Track) → ¬ AreTracksOf (content_of files input) (content_of files cert) tracks

-- IN is refused; or it is not, and CERT is too long
abbrev pub IsNamesRefused : List ℕ → List ℕ → Files → Refusal → Type 0
IsNamesRefused input cert files refusal =
    IsRefusalOf (content_of files input) refusal
    ⊎ (IsAcceptedFile (content_of files input) × (longest_cert < length (content_of files cert)) × (refusal ≡ FileTooLong))

-- these are the lines of what the files held
abbrev pub TellsNames : List ℕ → List ℕ → List ℕ → Outside → Type 0
TellsNames input cert lines before = ForFiles before (λ files. IsNamed input cert files lines)

-- loading IN failed; or IN is accepted, and loading CERT failed
abbrev pub FailsToName : List ℕ → List ℕ → Outside → Outside → Type 0
FailsToName input cert before after =
    Rose (Loading input) before after ⊎ (ForFiles before (λ files. IsAcceptedFile (content_of files input)) × Rose (Loading cert) before after)

-- what the loads and the replay leave where there are no lines
abbrev pub LeavesUnnamed : List ℕ → List ℕ → Ending → Outside → Outside → Type 0
LeavesUnnamed input cert (Desk Load) before after = FailsToName input cert before after
LeavesUnnamed input cert (Refused refusal) before after = ForFiles before (λ files. IsNamesRefused input cert files refusal)
LeavesUnnamed input cert (Differs line) before after = ForFiles before (λ files. IsUnnamed input cert files line)
LeavesUnnamed input cert Memory before after = ⊤
LeavesUnnamed input cert other before after = ⊥

-- what `names` leaves printed, by how it ends
abbrev pub NamesLeft : List ℕ → List ℕ → Ending → Outside → Outside → Type 0
NamesLeft input cert Done before after = (lines : List ℕ) × TellsNames input cert lines before × Prints lines before after
NamesLeft input cert (Desk Load) before after = KeepsPrinted before after × FailsToName input cert before after
NamesLeft input cert (Desk Print) before after =
    Rose Printing before after × (lines : List ℕ) × TellsNames input cert lines before × PrintsPrefix lines before after
NamesLeft input cert (Refused refusal) before after = KeepsPrinted before after × ForFiles before (λ files. IsNamesRefused input cert files refusal)
NamesLeft input cert Memory before after = KeepsPrinted before after
NamesLeft input cert (Differs line) before after = KeepsPrinted before after × ForFiles before (λ files. IsUnnamed input cert files line)
NamesLeft input cert other before after = ⊥

-- what `names` leaves, by how it ends: no file changes
abbrev pub LeavesNames : List ℕ → List ℕ → Ending → Outside → Outside → Type 0
LeavesNames input cert ending before after = KeepsFiles before after × NamesLeft input cert ending before after
