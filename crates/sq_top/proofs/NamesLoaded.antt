-- What each part of `names` leaves of it: the loads, the replay, and the printing of the lines.
use Rattle.std.proofs.Common.{◌≡◌, ℕ, ◌≤◌, inl, inr, List, length, take, refl, subst, ap, ◌∙◌}
use Rattle.sq_num.specs.declared.refusal.Refusal.{Refusal as Cause}
use Rattle.sq_num.specs.declared.refusal.Denied.TheVariants.{Refused as DeniedFile, Memory as NoMemory}
use Rattle.sq_names.specs.Functions.{NamedFunction, functions_of}
use Rattle.sq_names.specs.Listing.{AreListed}
use Rattle.sq_names.specs.declared.track.Track.{Track}
use Rattle.law_program.specs.FilePrograms.{IsRefusalOf, IsAcceptedFile}
use Rattle.sq_desk.specs.Outside.{Outside, Files, content_of, NoneFall, KeepsFiles, KeepsPrinted, ForFiles, extended_text}
use Rattle.sq_top.specs.declared.ending.Ending.{Ending}
use Rattle.sq_top.specs.declared.ending.Ending.TheVariants.{Done, Words, Desk, Refused, Memory, Break, Limit, BadStart, Differs}
use Rattle.sq_top.specs.declared.ending.DeskCall.TheVariants.{Load, Store, Print}
use Rattle.sq_top.specs.declared.tracks.TrackFault.{TrackFault}
use Rattle.sq_top.specs.declared.tracks.TrackFault.TheVariants.{Denied as DeniedTracks, Line as FaultyStep}
use Rattle.sq_top.specs.Denials.{track_fault_ending}
use Rattle.sq_top.specs.Endings.{LeavesUnpacked, LeavesPrinted}
use Rattle.sq_top.specs.RunEndings.{LeavesUnloaded}
use Rattle.sq_top.specs.CertEndings.{longest_cert}
use Rattle.sq_top.specs.Tracks.{AreTracksOf, AgreeWithOutputs, FailsToTrack, AreLinesOf}
use Rattle.sq_top.specs.NamesEndings.{MayName, TellsNames, LeavesUnnamed, NamesLeft}
use Rattle.sq_top.proofs.Later.{rose_then}

-- where IN gives nothing
pub unaccepted_input : (input cert : List ℕ) (ending : Ending) (before after : Outside) → LeavesUnpacked input ending before after → LeavesUnnamed input cert ending before after
unaccepted_input input cert Done before after gone = absurd gone
unaccepted_input input cert Words before after gone = absurd gone
unaccepted_input input cert (Desk Load) before after rose = inl rose
unaccepted_input input cert (Desk Store) before after gone = absurd gone
unaccepted_input input cert (Desk Print) before after gone = absurd gone
unaccepted_input input cert (Refused refusal) before after refused = λ files told. inl (refused files told)
unaccepted_input input cert Memory before after gone = gone
unaccepted_input input cert Break before after gone = absurd gone
unaccepted_input input cert Limit before after gone = absurd gone
unaccepted_input input cert BadStart before after gone = absurd gone
unaccepted_input input cert (Differs line) before after gone = absurd gone

-- where CERT gives nothing
module _ (input cert : List ℕ) (before middle after : Outside) (files : KeepsFiles before middle) (first : NoneFall before middle) (given : ForFiles before (λ files. IsAcceptedFile (content_of files input))) where
  pub unloaded_cert : (ending : Ending) → LeavesUnloaded cert 134217728 ending middle after → LeavesUnnamed input cert ending before after
  unloaded_cert Done gone = absurd gone
  unloaded_cert Words gone = absurd gone
  unloaded_cert (Desk Load) rose = inr (given, rose_then _ before middle after first rose)
  unloaded_cert (Desk Store) gone = absurd gone
  unloaded_cert (Desk Print) gone = absurd gone
  unloaded_cert (Refused refusal) gone = λ held told. inr (given held told, gone.1 held (files ∙ told), gone.0)
  unloaded_cert Memory gone = gone
  unloaded_cert Break gone = absurd gone
  unloaded_cert Limit gone = absurd gone
  unloaded_cert BadStart gone = absurd gone
  unloaded_cert (Differs line) gone = absurd gone

-- what the printing of the lines leaves
module _ (input cert : List ℕ) (before middle after : Outside) (printed : KeepsPrinted before middle) (first : NoneFall before middle) (lines : List ℕ) (tells : TellsNames input cert lines before) where
  pub lines_left : (ending : Ending) → LeavesPrinted lines ending middle after → NamesLeft input cert ending before after
  lines_left Done left = (lines, tells, left ∙ ap (extended_text lines) printed)
  lines_left Words left = absurd left
  lines_left (Desk Load) left = absurd left
  lines_left (Desk Store) left = absurd left
  lines_left (Desk Print) left =
      (rose_then _ before middle after first left.1, lines, tells, (left.0.0, left.0.1 ∙ ap (extended_text (take left.0.0 lines)) printed))
  lines_left (Refused refusal) left = absurd left
  lines_left Memory left = left ∙ printed
  lines_left Break left = absurd left
  lines_left Limit left = absurd left
  lines_left BadStart left = absurd left
  lines_left (Differs line) left = absurd left

-- what was loaded is what the files held, so what the replay says of it holds of them
module _ (input cert : List ℕ) (before after : Outside) (given text : List ℕ) (one : ForFiles before (λ files. given ≡ content_of files input)) (two : ForFiles before (λ files. text ≡ content_of files cert)) (accepted : IsAcceptedFile given) (short : length text ≤ longest_cert) where
  may : (files : Files) → (given ≡ content_of files input) → (text ≡ content_of files cert) → MayName input cert files
  may files first second = record {
    given = subst IsAcceptedFile first accepted;
    short = subst (λ (t : List ℕ). length t ≤ longest_cert) second short;
  }

  held : (files : Files) (P : List ℕ → List ℕ → Type 0) → (given ≡ content_of files input) → (text ≡ content_of files cert) → P given text → P (content_of files input) (content_of files cert)
  held files P first second p = subst (P (content_of files input)) second (subst (λ f. P f text) first p)

  pub named : (lines : List ℕ) → AreLinesOf given text lines → TellsNames input cert lines before
  named lines are = λ files told. record {
    may = may files (one files told) (two files told);
    are = held files (λ f t. AreLinesOf f t lines) (one files told) (two files told) are;
  }

  pub unnamed : (fault : TrackFault) → ((line : ℕ) → fault ≡ FaultyStep line → FailsToTrack given text line) → ((line : ℕ) → fault ≡ FaultyStep line → (tracks : List Track) → ¬ AreTracksOf given text tracks) →
      ((refusal : Cause) → fault ≡ DeniedTracks (DeniedFile refusal) → IsRefusalOf given refusal) → LeavesUnnamed input cert (track_fault_ending fault) before after
  unnamed (DeniedTracks (DeniedFile refusal)) fails never refused = λ files told. inl (subst (λ f. IsRefusalOf f refusal) (one files told) (refused refusal refl))
  unnamed (DeniedTracks NoMemory) fails never refused = tt
  unnamed (FaultyStep line) fails never refused = λ files told. record {
    may = may files (one files told) (two files told);
    fails = held files (λ f t. FailsToTrack f t line) (one files told) (two files told) (fails line refl);
    never = held files (λ f t. (tracks : List Track) → ¬ AreTracksOf f t tracks) (one files told) (two files told) (never line refl);
  }

-- the functions of the file that was tracked
pub lines_told : (bytes text elf : List ℕ) (tracks : List Track) (functions : List NamedFunction) (lines : List ℕ) → elf ≡ bytes → AreTracksOf bytes text tracks → AgreeWithOutputs bytes text tracks → functions ≡ functions_of elf → AreListed functions tracks lines → AreLinesOf bytes text lines
lines_told bytes text elf tracks functions lines same are agree named listed = record {
  tracks = tracks;
  are = are;
  agree = agree;
  listed = subst (λ fs. AreListed fs tracks lines) (named ∙ ap functions_of same) listed;
}
