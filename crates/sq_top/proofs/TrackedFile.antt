-- What the replay of a certificate shows of the functions of a file.
use Rattle.std.proofs.Common.{◌≡◌, ℕ, suc, ◌+◌, ◌^◌, ◌<◌, inl, inr, List, [], ◌∷◌, ◌++◌, length, map, take, Option, Some, None, Result, Ok, Err, if◌then◌else◌, refl, sym, ap, ◌∙◌, subst, arith}
use Rattle.std.proofs.lemmas.List.{take_more, take_all}
use Rattle.std.proofs.lemmas.Option.{slice_get_cases}
use Rattle.std.specs.List.{AllByRecursion, AllZip, slice_get}
use Rattle.std.specs.Option.{option_map, option_to_list, unwrap_or}
use Rattle.std.specs.Result.{IsErrAnd}
use Rattle.sq_num.specs.declared.refusal.Refusal.{Refusal}
use Rattle.sq_num.specs.declared.refusal.Denied.{Denied}
use Rattle.sq_num.specs.declared.refusal.Denied.TheVariants.{Memory}
use Rattle.sq_elf.specs.Text.{text_of}
use Rattle.sq_graph.specs.Graph.{Graph}
use Rattle.sq_graph.specs.Parts.{names_of}
use Rattle.sq_graph.specs.Rules.{IsGraph}
use Rattle.sq_graph.specs.Slotted.{number_in, IsSlotted}
use Rattle.sq_layout.specs.Addresses.{Addresses, ArePlaces}
use Rattle.sq_lift.specs.Flags.{is_flagged}
use Rattle.sq_lift.specs.Refused.{IsEarlyRefusal}
use Rattle.sq_lift.specs.Starts.{Starts, slot_at, AreStarts}
use Rattle.sq_lift.proofs.FilePrograms.{same_test}
use Rattle.law_program.specs.Lifted.{lifted}
use Rattle.sq_write.specs.Written.{written}
use Rattle.law_written.specs.Written.{IsWritable}
use Rattle.sq_lifted.specs.LiftedFiles.{IsLiftedFile, FitsFile}
use Rattle.sq_lifted.proofs.LiftedFiles.{early_same}
use Rattle.sq_lifted.proofs.OneReading.{lifted_one}
use Rattle.sq_names.specs.Functions.{NamedFunction, functions_of}
use Rattle.sq_names.specs.declared.track.Track.{Track}
use Rattle.sq_names.specs.declared.track.Track.TheVariants.{At, Gone}
use Rattle.sq_cert.specs.declared.step.Step.{Step}
use Rattle.sq_drive.specs.Checking.{Leads, IsFirstFault}
use Rattle.sq_drive.specs.Replaying.{IsLess}
use Rattle.sq_drive.specs.Tracking.{carried, standing, by_step, made_by, AreCarried, AreTracked, KeepsStarts}
use Rattle.sq_drive.proofs.Tracked.{replayed}
use Rattle.sq_top.specs.declared.tracks.TrackFault.{TrackFault}
use Rattle.sq_top.specs.declared.tracks.TrackFault.TheVariants.{Denied as DeniedTracks}
use Rattle.sq_top.specs.Tracking.{begun_by, placed_at}
use Rattle.sq_top.specs.Tracks.{begun_in, addressed, AreTracksOf, KeepsFileStarts, AgreeWithOutputs, FailsToTrack}
use Rattle.sq_top.proofs.LighterFile.{lighter_writable}
use Rattle.sq_top.proofs.ProvedFile.{proves_written}
use Rattle.sq_top.proofs.TrackedStarts.{file_starts}

length_mapped : {X Y : Type 0} (f : X → Y) (xs : List X) → length (map f xs) ≡ length xs
length_mapped f [] = refl
length_mapped f (x ∷ xs) = ap suc (length_mapped f xs)

-- ONE AFTER ANOTHER

-- one more function
pub begun_more : (g : NamedFunction → Track) (functions : List NamedFunction) (i : ℕ) (tracks more : List Track) (function : Option NamedFunction) → function ≡ slice_get functions i → tracks ≡ map g (take i functions) →
    more ≡ tracks ++ option_to_list (option_map g function) → more ≡ map g (take (i + 1) functions)
begun_more g functions i tracks more function is was pushed =
    elim (slice_get_cases functions i).1 [
      | inl there ↦
          let found : function ≡ Some there.0 = is ∙ there.2 in
          let front : take (i + 1) functions ≡ take i functions ++ there.0 ∷ [] = take_more functions i there.0 there.1 ∙ ap (λ f. take i functions ++ f ∷ []) there.3 in
          pushed ∙ (λ k. was k ++ option_to_list (option_map g (found k))) ∙ sym (map_last (take i functions) there.0) ∙ sym (ap (map g) front)
      | inr past ↦
          let none : function ≡ None = is ∙ past.1 in
          let same : take i functions ≡ take (i + 1) functions = take_all i functions past.0 ∙ sym (take_all (i + 1) functions (omega (arith, past.0))) in
          pushed ∙ (λ k. was k ++ option_to_list (option_map g (none k))) ∙ none_more (map g (take i functions)) ∙ ap (map g) same
    ]
  where
    map_last : (fs : List NamedFunction) (f : NamedFunction) → map g (fs ++ f ∷ []) ≡ map g fs ++ g f ∷ []
    map_last [] f = refl
    map_last (x ∷ fs) f = ap (λ ts. g x ∷ ts) (map_last fs f)

    none_more : (ts : List Track) → ts ++ [] ≡ ts
    none_more [] = refl
    none_more (t ∷ ts) = ap (λ us. t ∷ us) (none_more ts)

-- WHERE FUNCTIONS BEGIN

-- nothing refuses an accepted file early
pub never_early : (bytes : List ℕ) (first : Graph) → IsLiftedFile bytes first → (refusal : Refusal) → ¬ IsEarlyRefusal bytes refusal
never_early bytes first file refusal e =
    let never : Some refusal ≡ None = sym e.refuses ∙ early_same bytes e.is file.is e.program file.program e.read file.lifted.accepted.read ∙ file.lifted.accepted.early in
    absurd (cc)

pub begun_same : (bytes : List ℕ) (first : Graph) (file : IsLiftedFile bytes first) (starts : Starts) → AreStarts file.program starts → begun_by starts ≡ begun_in bytes first file
begun_same bytes first file starts are =
    let tests : (x : ℕ) → is_flagged starts.reached x ≡ file.is x = same_test file.program (is_flagged starts.reached) file.is are.reached file.lifted.accepted.read.reached in
    let slots : (x : ℕ) → slot_at starts x ≡ number_in (names_of (lifted file.is file.program)) 0 x =
    λ x. are.slot x ∙ (λ i. number_in (names_of (lifted (λ y. tests y i) file.program)) 0 x)
    in
    λ i function. if tests function.value i then standing (slots function.value i) else Gone

-- blocks by their addresses
pub addressed_same : (last : Graph) (lo : ℕ) (places : Addresses) → ArePlaces last lo places → placed_at places ≡ addressed last lo
addressed_same last lo places are = λ i block. At (unwrap_or (are.blocks block i) 0)

-- THE TRACKS

-- each function has a track
pub length_kept : (steps : List Step) (old new : Graph) (before after : List Track) → AreCarried steps old new before after → length after ≡ length before
length_kept [] old new before after kept = ap length kept.1
length_kept (step ∷ steps) old new before after carries =
    let carry = by_step step old (made_by step old carries.0) in
    length_kept steps _ new (map (by_step step old (made_by step old carries.0)) before) after carries.1 ∙ length_mapped carry before

pub few_tracks : (text : List ℕ) (old new : Graph) (before after : List Track) → AreTracked text old new before after → length after ≡ length before
few_tracks text old new before after t = length_kept t.steps old new before after t.carried

leads_of : (text : List ℕ) (old new : Graph) (before after : List Track) → (t : AreTracked text old new before after) → Leads text old new (length t.steps)
leads_of text old new before after t = record {
  steps = t.steps;
  form = t.form;
  text_is = t.text_is;
  replay = replayed t.steps old new before after t.carried;
  count_is = refl;
}

module _ (bytes text : List ℕ) (first : Graph) (file : IsLiftedFile bytes first) (slotted : IsSlotted first) where
  pub tracks_of : (last : Graph) (places tracks : List Track) → AreTracked text first last (map (begun_in bytes first file) (functions_of bytes)) places → tracks ≡ map (carried (addressed last (text_of bytes).lo)) places → AreTracksOf bytes text tracks
  tracks_of last places tracks tracked are = record {
    first = first;
    file = file;
    slotted = slotted;
    last = last;
    places = places;
    tracked = tracked;
    tracks_are = are;
  }

  pub track_fails : (line : ℕ) → IsFirstFault text first line → FailsToTrack bytes text line
  track_fails line fault = record { first = first; file = file; slotted = slotted; fault = fault }

  pub tracks_not : AllByRecursion (λ b. b < 256) bytes → ((new : Graph) (count : ℕ) → ¬ Leads text first new count) → (tracks : List Track) → ¬ AreTracksOf bytes text tracks
  tracks_not fit never tracks t =
      let same : t.first ≡ first = sym t.slotted ∙ lifted_one bytes t.first first fit t.file file ∙ slotted in
      let leads = leads_of text t.first t.last (map (begun_in bytes t.first t.file) (functions_of bytes)) t.places t.tracked in
      never t.last (length t.tracked.steps) (subst (λ (g : Graph). Leads text g t.last (length t.tracked.steps)) same leads)

-- the fault of a step that finds no memory
pub only_memory : {T : Type 0} (r : Result T TrackFault) → IsErrAnd r (λ fault. fault ≡ DeniedTracks Memory) → (denied : Denied) → r ≡ Err (DeniedTracks denied) → denied ≡ Memory
only_memory (Ok x) is denied e = absurd (cc e)
only_memory (Err fault) is denied e = cc

-- as the calls answer it
module _ (bytes text : List ℕ) (first last : Graph) (file : IsLiftedFile bytes first) (slotted : IsSlotted first) (starts : Starts) (are : AreStarts file.program starts) (before after : List Track) (functions : List NamedFunction) (named : functions ≡ functions_of bytes) (begin : before ≡ map (begun_by starts) functions) (tracked : AreTracked text first last before after) where
  pub few_after : (places : Addresses) (tracks : List Track) → tracks ≡ map (carried (placed_at places)) after → length functions < 2 ^ 32 → length tracks < 2 ^ 32
  few_after places tracks is few =
      let long : length tracks ≡ length functions =
      ap length is ∙ length_mapped (carried (placed_at places)) after ∙ few_tracks text first last before after tracked ∙ ap length begin ∙ length_mapped (begun_by starts) functions
      in
      omega (arith, few, long)

  begun_first : before ≡ map (begun_in bytes first file) (functions_of bytes)
  begun_first = begin ∙ (λ i. map (begun_same bytes first file starts are i) (named i))

  module _ (places : Addresses) (tracks : List Track) (at : ArePlaces last (text_of bytes).lo places) (is : tracks ≡ map (carried (placed_at places)) after) where
    told : tracks ≡ map (carried (addressed last (text_of bytes).lo)) after
    told = is ∙ (λ i. map (carried (addressed_same last (text_of bytes).lo places at i)) after)

    pub tracks_found : AreTracksOf bytes text tracks
    tracks_found = tracks_of bytes text first file slotted last after tracks (subst (λ (b : List Track). AreTracked text first last b after) begun_first tracked) told

    -- others would lead to the same graph and places
    module _ (fit : AllByRecursion (λ b. b < 256) bytes) where
      pub tracks_one : ((other : Graph) (g : IsLiftedFile bytes other) → AreStarts g.program starts) → ((new : Graph) (others : List Track) → AreTracked text first new before others → (new ≡ last) × (others ≡ after)) → (others : List Track) → AreTracksOf bytes text others → others ≡ tracks
      tracks_one begins one others t =
          let same : t.first ≡ first = sym t.slotted ∙ lifted_one bytes t.first first fit t.file file ∙ slotted in
          let began : before ≡ map (begun_in bytes t.first t.file) (functions_of bytes) = begin ∙ (λ i. map (begun_same bytes t.first t.file starts (begins t.first t.file) i) (named i)) in
          let ends : (t.last ≡ last) × (t.places ≡ after) =
          one t.last t.places (subst (λ (g : Graph). AreTracked text g t.last before t.places) same (subst (λ (b : List Track). AreTracked text t.first t.last b t.places) (sym began) t.tracked)) in
          t.tracks_are ∙ (λ i. map (carried (addressed (ends.0 i) (text_of bytes).lo)) (ends.1 i)) ∙ sym told

      -- an output that the certificate proves is what is written of the last graph
      pub tracks_agree : FitsFile bytes first → IsLess first last → IsGraph last → AllZip (KeepsStarts first last) before after → AgreeWithOutputs bytes text tracks
      tracks_agree fits less rules keep output count proves =
          let is_written : output ≡ written bytes last = proves_written bytes output text first fit file slotted last (length tracked.steps) (leads_of text first last before after tracked) count proves in
          let can : IsWritable bytes last = lighter_writable bytes first last less.saved fit file fits less.lighter rules in
          let led : AllZip (KeepsStarts first last) (map (begun_in bytes first file) (functions_of bytes)) after = subst (λ (b : List Track). AllZip (KeepsStarts first last) b after) begun_first keep in
          let agree = file_starts bytes first file slotted fit last can (functions_of bytes) after led in
          subst (λ (o : List ℕ). AllZip (KeepsFileStarts bytes o) (functions_of bytes) tracks) (sym is_written)
          (subst (AllZip (KeepsFileStarts bytes (written bytes last)) (functions_of bytes)) (sym told) agree)
