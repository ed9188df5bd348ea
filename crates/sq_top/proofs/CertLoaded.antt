-- What each part of `check` leaves of it: the loads, the check, and the printing of its line.
use Rattle.std.proofs.Common.{◌≡◌, ℕ, ◌≤◌, inl, inr, List, length, take, refl, subst, ap, ◌∙◌}
use Rattle.sq_num.specs.declared.refusal.Refusal.{Refusal as Cause}
use Rattle.sq_num.specs.declared.refusal.Denied.{Denied}
use Rattle.sq_num.specs.declared.refusal.Denied.TheVariants.{Refused as DeniedFile, Memory as NoMemory}
use Rattle.law_program.specs.FilePrograms.{IsAcceptedFile}
use Rattle.sq_desk.specs.Outside.{Outside, Files, content_of, NoneFall, KeepsFiles, KeepsPrinted, ForFiles, extended_text}
use Rattle.sq_top.specs.declared.ending.Ending.{Ending}
use Rattle.sq_top.specs.declared.ending.Ending.TheVariants.{Done, Words, Desk, Refused, Memory, Break, Limit, BadStart, Differs}
use Rattle.sq_top.specs.declared.ending.DeskCall.TheVariants.{Load, Store, Print}
use Rattle.sq_top.specs.Denials.{denied_ending}
use Rattle.sq_top.specs.Endings.{LeavesUnpacked, LeavesPrinted}
use Rattle.sq_top.specs.RunEndings.{LeavesUnloaded}
use Rattle.sq_top.specs.Proving.{Proves, FailsToProve, IsProved, IsRefusalOfEither}
use Rattle.sq_top.specs.CertEndings.{longest_cert, proved_line, MayCertify, IsCertified, IsUncertified, Certifies, LeavesUncertified, CertLeft}
use Rattle.sq_top.proofs.Later.{rose_then}

-- where IN gives nothing
pub unaccepted_input : (input output cert : List ℕ) (ending : Ending) (before after : Outside) → LeavesUnpacked input ending before after → LeavesUncertified input output cert ending before after
unaccepted_input input output cert Done before after gone = absurd gone
unaccepted_input input output cert Words before after gone = absurd gone
unaccepted_input input output cert (Desk Load) before after rose = inl rose
unaccepted_input input output cert (Desk Store) before after gone = absurd gone
unaccepted_input input output cert (Desk Print) before after gone = absurd gone
unaccepted_input input output cert (Refused refusal) before after refused = λ files told. inl (inl (refused files told))
unaccepted_input input output cert Memory before after gone = gone
unaccepted_input input output cert Break before after gone = absurd gone
unaccepted_input input output cert Limit before after gone = absurd gone
unaccepted_input input output cert BadStart before after gone = absurd gone
unaccepted_input input output cert (Differs line) before after gone = absurd gone

module _ (input output cert : List ℕ) (before middle after : Outside) (files : KeepsFiles before middle) (first : NoneFall before middle) (given : ForFiles before (λ files. IsAcceptedFile (content_of files input))) where
  -- where OUT gives nothing
  pub unaccepted_output : (ending : Ending) → LeavesUnpacked output ending middle after → LeavesUncertified input output cert ending before after
  unaccepted_output Done gone = absurd gone
  unaccepted_output Words gone = absurd gone
  unaccepted_output (Desk Load) rose = inr (inl (given, rose_then _ before middle after first rose))
  unaccepted_output (Desk Store) gone = absurd gone
  unaccepted_output (Desk Print) gone = absurd gone
  unaccepted_output (Refused refusal) refused = λ held told. inl (inr (given held told, refused held (files ∙ told)))
  unaccepted_output Memory gone = gone
  unaccepted_output Break gone = absurd gone
  unaccepted_output Limit gone = absurd gone
  unaccepted_output BadStart gone = absurd gone
  unaccepted_output (Differs line) gone = absurd gone

  -- where CERT gives nothing
  pub unloaded_cert : ForFiles before (λ files. IsAcceptedFile (content_of files output)) → (ending : Ending) → LeavesUnloaded cert 134217728 ending middle after → LeavesUncertified input output cert ending before after
  unloaded_cert packed Done gone = absurd gone
  unloaded_cert packed Words gone = absurd gone
  unloaded_cert packed (Desk Load) rose = inr (inr ((λ held told. (given held told, packed held told)), rose_then _ before middle after first rose))
  unloaded_cert packed (Desk Store) gone = absurd gone
  unloaded_cert packed (Desk Print) gone = absurd gone
  unloaded_cert packed (Refused refusal) gone = λ held told. inr (given held told, packed held told, gone.1 held (files ∙ told), gone.0)
  unloaded_cert packed Memory gone = gone
  unloaded_cert packed Break gone = absurd gone
  unloaded_cert packed Limit gone = absurd gone
  unloaded_cert packed BadStart gone = absurd gone
  unloaded_cert packed (Differs line) gone = absurd gone

-- what the printing of its line leaves
module _ (input output cert : List ℕ) (before middle after : Outside) (printed : KeepsPrinted before middle) (first : NoneFall before middle) (count : ℕ) (certifies : Certifies input output cert count before) where
  pub line_left : (ending : Ending) → LeavesPrinted (proved_line count) ending middle after → CertLeft input output cert ending before after
  line_left Done left = (count, certifies, left ∙ ap (extended_text (proved_line count)) printed)
  line_left Words left = absurd left
  line_left (Desk Load) left = absurd left
  line_left (Desk Store) left = absurd left
  line_left (Desk Print) left =
      (rose_then _ before middle after first left.1, count, certifies, (left.0.0, left.0.1 ∙ ap (extended_text (take left.0.0 (proved_line count))) printed))
  line_left (Refused refusal) left = absurd left
  line_left Memory left = left ∙ printed
  line_left Break left = absurd left
  line_left Limit left = absurd left
  line_left BadStart left = absurd left
  line_left (Differs line) left = absurd left

-- where IN or OUT is refused
pub refused_files : (input output cert : List ℕ) (denied : Denied) (before after : Outside) (given packed : List ℕ) → ForFiles before (λ files. given ≡ content_of files input) → ForFiles before (λ files. packed ≡ content_of files output) →
    ((refusal : Cause) → denied ≡ DeniedFile refusal → IsRefusalOfEither given packed refusal) → LeavesUncertified input output cert (denied_ending denied) before after
refused_files input output cert (DeniedFile refusal) before after given packed one two refused = λ files told.
    let both : IsRefusalOfEither given packed refusal = refused refusal refl in
    inl (subst (λ p. IsRefusalOfEither (content_of files input) p refusal) (two files told) (subst (λ f. IsRefusalOfEither f packed refusal) (one files told) both))
refused_files input output cert NoMemory before after given packed one two refused = tt

-- what was loaded is what the files held, so what the check says of it holds of them
module _ (input output cert : List ℕ) (files : Files) (given packed text : List ℕ) (one : given ≡ content_of files input) (two : packed ≡ content_of files output) (three : text ≡ content_of files cert) (accepted : IsAcceptedFile given × IsAcceptedFile packed) (short : length text ≤ longest_cert) where
  held : (P : List ℕ → List ℕ → List ℕ → Type 0) → P given packed text → P (content_of files input) (content_of files output) (content_of files cert)
  held P p = subst (P (content_of files input) (content_of files output)) three (subst (λ o. P (content_of files input) o text) two (subst (λ f. P f packed text) one p))

  may : MayCertify input output cert files
  may = record {
    given = subst IsAcceptedFile one accepted.0;
    packed = subst IsAcceptedFile two accepted.1;
    short = subst (λ (t : List ℕ). length t ≤ longest_cert) three short;
  }

  pub certified : (count : ℕ) → Proves given packed text count → IsProved given packed → IsCertified input output cert files count × IsProved (content_of files input) (content_of files output)
  certified count proves same =
      (record { may = may; proves = held (λ f o t. Proves f o t count) proves }, held (λ f o t. IsProved f o) same)

  pub uncertified : (line : ℕ) → FailsToProve given packed text line → ((count : ℕ) → ¬ Proves given packed text count) → IsUncertified input output cert files line
  uncertified line fails never =
      record { may = may; fails = held (λ f o t. FailsToProve f o t line) fails; never = held (λ f o t. (count : ℕ) → ¬ Proves f o t count) never }
