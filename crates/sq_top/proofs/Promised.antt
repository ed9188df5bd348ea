-- How the ending of a call keeps each promise.
use Rattle.std.proofs.Common.{◌≡◌, ℕ, ◌⊎◌, inl, inr, List, ◌++◌, Option, Some, None, refl, ap, ◌∙◌}
use Rattle.std.specs.Option.{option_map}
use Rattle.sq_num.specs.declared.packed.Packed.{Packed}
use Rattle.sq_desk.specs.Outside.{Outside, Files, content_of, with_file}
use Rattle.sq_top.specs.declared.ending.Ending.{Ending}
use Rattle.sq_top.specs.declared.ending.Ending.TheVariants.{Done, Words, Desk, Refused, Memory, Break, Limit, BadStart, Differs}
use Rattle.sq_top.specs.declared.ending.DeskCall.TheVariants.{Load, Store, Print}
use Rattle.sq_command.specs.Commands.{Form, PackForm, RunForm, WatchForm, HexForm, HexcheckForm, SizeForm, TrialForm, CheckForm, ProveForm, NamesForm, FoldForm, form_of}
use Rattle.sq_top.specs.Packing.{Packs, Headline, packed_text, sizes_text}
use Rattle.sq_top.specs.Statuses.{status_of, complaint_of}
use Rattle.sq_top.specs.Endings.{StoresPacked, LeavesPack, Leaves, ComplainsLine}
use Rattle.sq_top.specs.HexEndings.{StoresText, LeavesHex}
use Rattle.sq_top.specs.ProveEndings.{LeavesProve}
use Rattle.sq_top.proofs.ProveCases.{prove_by_case}
use Rattle.sq_top.proofs.ProveHeld.{holds_proof, after_fault, after_memory}
use Rattle.sq_top.specs.FoldEndings.{LeavesFold}
use Rattle.sq_top.proofs.FoldCases.{fold_by_case}
use Rattle.sq_top.proofs.FoldHeld.{holds_fold}
use Rattle.sq_top.specs.Promises.{Ends, ForPack, IsDone, HoldsOutput, HoldsText, StayOrHold, HasRefusal, IsComplete}

pub same_sizes : {a b c d e f g h : ℕ} → a ≡ e → b ≡ f → c ≡ g → d ≡ h → sizes_text a b c d ≡ sizes_text e f g h
same_sizes first second third fourth = λ i. sizes_text (first i) (second i) (third i) (fourth i)

-- and its line is that of the headline
pub headline : (given : List ℕ) (packed : Packed) → Packs given packed → Headline given packed.bytes (packed_text packed)
unfolding packed_text
headline given packed packs = record {
  good = packs.good;
  printed_line = same_sizes packs.text_before packs.text_after packs.loaded_before packs.loaded_after;
}

-- where files are told, the stored packing is in its place
in_place : {input output : List ℕ} {packed : Packed} {before after : Outside} → StoresPacked input output packed before after → (files : Files) → before.files ≡ Some files → after.files ≡ Some (with_file output (Some packed.bytes) files)
in_place {output} {packed} stored files told = stored.stores ∙ ap (option_map (with_file output (Some packed.bytes))) told

holds : {input output : List ℕ} {packed : Packed} {before after : Outside} → StoresPacked input output packed before after → HoldsOutput input output before after
holds {packed = packed} stored files told = (packed.bytes, (stored.packs files told).good, in_place stored files told)

-- where files are told, the stored text is in its place
text_in_place : {input output text : List ℕ} {before after : Outside} → StoresText input output text before after → (files : Files) → before.files ≡ Some files → after.files ≡ Some (with_file output (Some text) files)
text_in_place {output = output} {text = text} stored files told = stored.stores ∙ ap (option_map (with_file output (Some text))) told

holds_text : {input output text : List ℕ} {before after : Outside} → StoresText input output text before after → HoldsText input output before after
holds_text {text = text} stored files told = (text, stored.writes files told, text_in_place stored files told)

module _ (words : List (List ℕ)) (ending : Ending) (before after : Outside) (ends : Ends words ending before after) (input output : List ℕ) (form : form_of words ≡ Some (PackForm input output)) where
  left : LeavesPack input output ending before after
  left = rw form at ends.leaves

pub done_promised : (words : List (List ℕ)) (ending : Ending) (before after : Outside) → Ends words ending before after → ForPack words (λ input output. status_of ending ≡ 0 → IsDone input output before after)
done_promised words ending before after ends input output form status files told = by_case ending status (left words ending before after ends input output form)
  where
    by_case : (e : Ending) → status_of e ≡ 0 → LeavesPack input output e before after → (packed : List ℕ) × (line : List ℕ) × Headline (content_of files input) packed line × (after.files ≡ Some (with_file output (Some packed) files)) × (after.printed ≡ option_map (λ text. text ++ line) before.printed)
    by_case Done zero_is (packed, stored, prints) =
        (packed.bytes, packed_text packed, headline _ packed (stored.packs files told), in_place stored files told, prints)
    by_case Words other gone = absurd (cc other)
    by_case (Desk call) other gone = absurd (cc other)
    by_case (Refused refusal) other gone = absurd (cc other)
    by_case Memory other gone = absurd (cc other)
    by_case Break other gone = absurd gone
    by_case Limit other gone = absurd gone
    by_case BadStart other gone = absurd gone
    by_case (Differs line) other gone = absurd gone

pub refused_promised : (words : List (List ℕ)) (ending : Ending) (before after : Outside) → Ends words ending before after → ForPack words (λ input _. status_of ending ≡ 3 → HasRefusal input before after)
refused_promised words ending before after ends input output form status = by_case ending status (left words ending before after ends input output form) ends.complains
  where
    by_case : (e : Ending) → status_of e ≡ 3 → LeavesPack input output e before after → ComplainsLine (complaint_of e) before after → HasRefusal input before after
    by_case Done other gone said = absurd (cc other)
    by_case Words other gone said = absurd (cc other)
    by_case (Desk call) other gone said = absurd (cc other)
    by_case (Refused refusal) three gone said = (gone.1, gone.2, refusal, gone.0, said)
    by_case Memory other gone said = absurd (cc other)
    by_case Break other gone said = absurd gone
    by_case Limit other gone said = absurd gone
    by_case BadStart other gone said = absurd gone
    by_case (Differs line) other gone said = absurd gone

pub complete_promised : (words : List (List ℕ)) (ending : Ending) (before after : Outside) → Ends words ending before after → ForPack words (λ input output. IsComplete input output (status_of ending) before after)
complete_promised words ending before after ends input output form no_fault files told accepted = by_case ending (left words ending before after ends input output form)
  where
    by_case : (e : Ending) → LeavesPack input output e before after → (status_of e ≡ 0) ⊎ (status_of e ≡ 4)
    by_case Done gone = inl refl
    by_case Words gone = absurd gone
    by_case (Desk Load) gone = absurd (no_fault Load gone.0)
    by_case (Desk Store) gone = absurd (no_fault Store gone.2)
    by_case (Desk Print) gone = absurd (no_fault Print gone.2)
    by_case (Refused refusal) gone = absurd (accepted refusal (gone.0 files told))
    by_case Memory gone = inr refl
    by_case Break gone = absurd gone
    by_case Limit gone = absurd gone
    by_case BadStart gone = absurd gone
    by_case (Differs line) gone = absurd gone

pub files_promised : (words : List (List ℕ)) (ending : Ending) (before after : Outside) → Ends words ending before after → StayOrHold words (status_of ending) before after
files_promised words ending before after ends = by_form (form_of words) refl ends.leaves
  where
    by_case : (input output : List ℕ) → form_of words ≡ Some (PackForm input output) → (e : Ending) → LeavesPack input output e before after → StayOrHold words (status_of e) before after
    by_case input output form Done gone = inr (inl ((λ same. cc same), (λ same. cc same), input, output, form, inl (holds gone.1)))
    by_case input output form Words gone = absurd gone
    by_case input output form (Desk Load) gone = inl gone.1
    by_case input output form (Desk Store) gone = inr (inl ((λ same. cc same), (λ same. cc same), input, output, form, inr (refl, gone.2, gone.3)))
    by_case input output form (Desk Print) gone = inr (inl ((λ same. cc same), (λ same. cc same), input, output, form, inl (holds gone.1)))
    by_case input output form (Refused refusal) gone = inl gone.1
    by_case input output form Break gone = absurd gone
    by_case input output form Limit gone = absurd gone
    by_case input output form BadStart gone = absurd gone
    by_case input output form (Differs line) gone = absurd gone
    by_case input output form Memory gone = elim gone.0 [ inl kept ↦ inl kept | inr stored ↦ inr (inl ((λ same. cc same), (λ same. cc same), input, output, form, inl (holds stored.1))) ]

    hex_case : (input output : List ℕ) → form_of words ≡ Some (HexForm input output) → (e : Ending) → LeavesHex input output e before after → StayOrHold words (status_of e) before after
    hex_case input output form Done gone = inr (inr (inl ((λ same. cc same), (λ same. cc same), input, output, form, inl (holds_text gone.1))))
    hex_case input output form Words gone = absurd gone
    hex_case input output form (Desk Load) gone = inl gone.1
    hex_case input output form (Desk Store) gone = inr (inr (inl ((λ same. cc same), (λ same. cc same), input, output, form, inr (refl, gone.2, gone.3))))
    hex_case input output form (Desk Print) gone = inr (inr (inl ((λ same. cc same), (λ same. cc same), input, output, form, inl (holds_text gone.1))))
    hex_case input output form (Refused refusal) gone = inl gone.1
    hex_case input output form Break gone = absurd gone
    hex_case input output form Limit gone = absurd gone
    hex_case input output form BadStart gone = absurd gone
    hex_case input output form (Differs line) gone = absurd gone
    hex_case input output form Memory gone = elim gone.0 [ inl kept ↦ inl kept | inr stored ↦ inr (inr (inl ((λ same. cc same), (λ same. cc same), input, output, form, inl (holds_text stored.1)))) ]

    -- what was proved
    proof_case : (input output cert : List ℕ) → form_of words ≡ Some (ProveForm input output cert) → (e : Ending) → LeavesProve input output cert e before after → StayOrHold words (status_of e) before after
    proof_case input output cert form = prove_by_case input output cert before after (λ e. StayOrHold words (status_of e) before after) (record {
      done = λ gone. inr (inr (inr (inl ((λ same. cc same), (λ same. cc same), input, output, cert, form, inl (holds_proof input output cert gone.0 gone.1 before after gone.2 gone.3)))));
      load = λ gone. inl gone.1;
      store = λ gone. inr (inr (inr (inl ((λ same. cc same), (λ same. cc same), input, output, cert, form, after_fault input output cert gone.1 gone.2 before after gone.3 gone.4))));
      print = λ gone. inr (inr (inr (inl ((λ same. cc same), (λ same. cc same), input, output, cert, form, inl (holds_proof input output cert gone.1 gone.2 before after gone.3 gone.4)))));
      refused = λ refusal gone. inl gone.1;
      memory = λ gone. elim gone.1 [ inl kept ↦ inl kept | inr proved ↦ inr (inr (inr (inl ((λ same. cc same), (λ same. cc same), input, output, cert, form, after_memory input output cert proved.0 proved.1 before after proved.2 proved.3)))) ];
    })

    fold_case : (input output : List ℕ) → form_of words ≡ Some (FoldForm input output) → (e : Ending) → LeavesFold input output e before after → StayOrHold words (status_of e) before after
    fold_case input output form = fold_by_case input output before after (λ e. StayOrHold words (status_of e) before after) (record {
      done = λ gone. inr (inr (inr (inr ((λ same. cc same), (λ same. cc same), input, output, form, inl (holds_fold gone.1)))));
      load = λ gone. inl gone.1;
      store = λ gone. inr (inr (inr (inr ((λ same. cc same), (λ same. cc same), input, output, form, inr (refl, gone.2, gone.3)))));
      print = λ gone. inr (inr (inr (inr ((λ same. cc same), (λ same. cc same), input, output, form, inl (holds_fold gone.1)))));
      refused = λ refusal gone. inl gone.1;
      memory = λ gone. elim gone.0 [ inl kept ↦ inl kept | inr stored ↦ inr (inr (inr (inr ((λ same. cc same), (λ same. cc same), input, output, form, inl (holds_fold stored.1))))) ];
    })

    by_form : (f : Option Form) → form_of words ≡ f → Leaves f ending before after → StayOrHold words (status_of ending) before after
    by_form None form gone = inl gone.1
    by_form (Some (PackForm input output)) form gone = by_case input output form ending gone
    by_form (Some (RunForm request)) form gone = inl gone.0
    by_form (Some (WatchForm request)) form gone = inl gone.0
    by_form (Some (HexForm input output)) form gone = hex_case input output form ending gone
    by_form (Some (HexcheckForm input text)) form gone = inl gone.0
    by_form (Some (SizeForm input)) form gone = inl gone.0
    by_form (Some (TrialForm first blocks)) form gone = inl gone.0
    by_form (Some (CheckForm input output cert)) form gone = inl gone.0
    by_form (Some (ProveForm input output cert)) form gone = proof_case input output cert form ending gone
    by_form (Some (NamesForm input cert)) form gone = inl gone.0
    by_form (Some (FoldForm input output)) form gone = fold_case input output form ending gone
