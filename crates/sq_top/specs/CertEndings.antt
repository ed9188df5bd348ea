-- How `check` ends, and what it leaves outside.
use Rattle.std.specs.Prelude.{◌≡◌, ℕ, ◌<◌, ◌≤◌, ◌⊎◌, List, ◌++◌, length, codes, decimal, ⊤}
use Rattle.sq_num.specs.declared.refusal.Refusal.{Refusal}
use Rattle.sq_num.specs.declared.refusal.Refusal.TheVariants.{FileTooLong}
use Rattle.law_program.specs.FilePrograms.{IsAcceptedFile}
use Rattle.sq_desk.specs.Outside.{Outside, Files, content_of, Rose, Loading, Printing, KeepsFiles, KeepsPrinted, Prints, PrintsPrefix, ForFiles}
use Rattle.sq_top.specs.declared.ending.Ending.{Ending}
use Rattle.sq_top.specs.declared.ending.Ending.TheVariants.{Done, Desk, Refused, Memory, Differs}
use Rattle.sq_top.specs.declared.ending.DeskCall.TheVariants.{Load, Print}
use Rattle.sq_top.specs.Proving.{Proves, FailsToProve, IsProved, IsRefusalOfEither}

-- a certificate has at most 134,217,728 bytes
abbrev pub longest_cert : ℕ
longest_cert = 134217728

-- `proved N`, N the number of steps, and a newline
abbrev pub proved_line : ℕ → List ℕ
proved_line count = codes "proved " ++ decimal count ++ codes "\n"

-- nothing is refused
pub record MayCertify (input output cert : List ℕ) (files : Files) : Type 0 where
  pub given : IsAcceptedFile (content_of files input)
  pub packed : IsAcceptedFile (content_of files output)
  pub short : length (content_of files cert) ≤ longest_cert

-- nothing is refused, and CERT proves OUT of IN by so many steps
pub record IsCertified (input output cert : List ℕ) (files : Files) (count : ℕ) : Type 0 where
  pub may : MayCertify input output cert files
  pub proves : Proves (content_of files input) (content_of files output) (content_of files cert) count

-- nothing is refused, and CERT fails to prove OUT of IN at this line: it proves it by no number of steps
pub record IsUncertified (input output cert : List ℕ) (files : Files) (line : ℕ) : Type 0 where
  pub may : MayCertify input output cert files
  pub fails : FailsToProve (content_of files input) (content_of files output) (content_of files cert) line
  pub never : (count : ℕ) → ¬ Proves (content_of files input) (content_of files output) (content_of files cert) count

-- IN is refused, or else OUT; or neither is, and CERT is too long
abbrev pub IsCertRefused : List ℕ → List ℕ → List ℕ → Files → Refusal → Type 0
IsCertRefused input output cert files refusal =
    IsRefusalOfEither (content_of files input) (content_of files output) refusal
    ⊎ (IsAcceptedFile (content_of files input) × IsAcceptedFile (content_of files output) × (longest_cert < length (content_of files cert)) × (refusal ≡ FileTooLong))

-- CERT proves OUT of IN by so many steps; so OUT does what IN does, and loads no more
abbrev pub Certifies : List ℕ → List ℕ → List ℕ → ℕ → Outside → Type 0
Certifies input output cert count before =
    ForFiles before (λ files. IsCertified input output cert files count × IsProved (content_of files input) (content_of files output))

-- loading IN failed; or IN is accepted, and loading OUT failed; or both are, and loading CERT failed
abbrev pub FailsToCertify : List ℕ → List ℕ → List ℕ → Outside → Outside → Type 0
FailsToCertify input output cert before after =
    Rose (Loading input) before after
    ⊎ (ForFiles before (λ files. IsAcceptedFile (content_of files input)) × Rose (Loading output) before after)
    ⊎ (ForFiles before (λ files. IsAcceptedFile (content_of files input) × IsAcceptedFile (content_of files output)) × Rose (Loading cert) before after)

-- what the loads and the check leave where nothing is proved
abbrev pub LeavesUncertified : List ℕ → List ℕ → List ℕ → Ending → Outside → Outside → Type 0
LeavesUncertified input output cert (Desk Load) before after = FailsToCertify input output cert before after
LeavesUncertified input output cert (Refused refusal) before after = ForFiles before (λ files. IsCertRefused input output cert files refusal)
LeavesUncertified input output cert (Differs line) before after = ForFiles before (λ files. IsUncertified input output cert files line)
LeavesUncertified input output cert Memory before after = ⊤
LeavesUncertified input output cert other before after = ⊥

-- what `check` leaves printed, by how it ends
abbrev pub CertLeft : List ℕ → List ℕ → List ℕ → Ending → Outside → Outside → Type 0
CertLeft input output cert Done before after = (count : ℕ) × Certifies input output cert count before × Prints (proved_line count) before after
CertLeft input output cert (Desk Load) before after = KeepsPrinted before after × FailsToCertify input output cert before after
CertLeft input output cert (Desk Print) before after =
    Rose Printing before after × (count : ℕ) × Certifies input output cert count before × PrintsPrefix (proved_line count) before after
CertLeft input output cert (Refused refusal) before after = KeepsPrinted before after × ForFiles before (λ files. IsCertRefused input output cert files refusal)
CertLeft input output cert Memory before after = KeepsPrinted before after
CertLeft input output cert (Differs line) before after = KeepsPrinted before after × ForFiles before (λ files. IsUncertified input output cert files line)
CertLeft input output cert other before after = ⊥

-- what `check` leaves, by how it ends: no file changes
abbrev pub LeavesCert : List ℕ → List ℕ → List ℕ → Ending → Outside → Outside → Type 0
LeavesCert input output cert ending before after = KeepsFiles before after × CertLeft input output cert ending before after
