-- How the ending of `hex` and of `hexcheck` keeps each promise.
use Rattle.std.proofs.Common.{◌≡◌, ℕ, ◌⊎◌, inl, inr, List, ◌++◌, length, ◌≤◌, Some, None, Result, Ok, refl, sym, subst, ap, ◌∙◌, arith}
use Rattle.std.specs.Option.{option_map}
use Rattle.sq_num.specs.declared.refusal.Refusal.{Refusal}
use Rattle.sq_elf.specs.Refusing.{file_refusal_of}
use Rattle.sq_hex.specs.Meaning.{HexMeaning}
use Rattle.sq_hex.specs.Flash.{IsFlashOf}
use Rattle.sq_command.specs.Commands.{HexForm, HexcheckForm, form_of}
use Rattle.sq_desk.specs.Outside.{Outside, Files, content_of, with_file, KeepsFiles, Rose, Loading}
use Rattle.sq_top.specs.declared.ending.Ending.{Ending}
use Rattle.sq_top.specs.declared.ending.Ending.TheVariants.{Done, Words, Desk, Refused, Memory, Break, Limit, BadStart, Differs}
use Rattle.sq_top.specs.declared.ending.DeskCall.TheVariants.{Load, Store, Print}
use Rattle.sq_top.specs.Statuses.{status_of, complaint_of}
use Rattle.sq_top.specs.Endings.{ComplainsLine}
use Rattle.sq_top.specs.Hexing.{longest_text, MeansFlash, HasHexText, hex_line, DiffersAt, IsCheckRefused}
use Rattle.sq_top.specs.HexEndings.{WritesFile, LeavesHex, LeavesCheck, CheckLeft}
use Rattle.sq_top.specs.HexPromises.{ForHex, ForHexcheck, IsHexDone, HasHexRefusal, HexRefusesExactly, IsHexComplete, IsCheckDone, HasDifference, HasCheckFault, HasCheckRefusal, CheckCause, MeetsCheckFault, ChecksExactly, IsCheckComplete}
use Rattle.sq_top.specs.Promises.{Ends, HasFault}

abbrev meant : HexMeaning → Result HexMeaning ℕ
meant m = Ok m

one_meaning : (m n : HexMeaning) → meant m ≡ meant n → m ≡ n
one_meaning m n e = cc e

-- what means the flash does not differ
not_both : (file text : List ℕ) (line : ℕ) → MeansFlash file text → DiffersAt file text line → ⊥
not_both file text line means (inl fault) = cc (means.1, fault)
not_both file text line means (inr other) = other.3 (subst (IsFlashOf file) (one_meaning means.0 other.1 (sym means.1 ∙ other.2)) means.2)

-- what is refused is not compared
refused_not : (input text : List ℕ) (files : Files) (refusal : Refusal) → IsCheckRefused input text files refusal → file_refusal_of (content_of files input) ≡ None → length (content_of files text) ≤ longest_text → ⊥
refused_not input text files refusal (inl file) accepted short = absurd (cc (file, accepted))
refused_not input text files refusal (inr other) accepted short = omega (arith, other.1, short)

-- two causes give one status
same_status : (input text : List ℕ) (files : Files) (first second : Ending) → CheckCause input text first files → CheckCause input text second files → status_of first ≡ status_of second
same_status input text files Done Done one other = refl
same_status input text files Done (Differs line) one other = absurd (not_both (content_of files input) (content_of files text) line one.means other.at)
same_status input text files Done (Refused refusal) one other = absurd (refused_not input text files refusal other one.accepted one.short)
same_status input text files Done Words one other = absurd other
same_status input text files Done (Desk call) one other = absurd other
same_status input text files Done Memory one other = absurd other
same_status input text files Done Break one other = absurd other
same_status input text files Done Limit one other = absurd other
same_status input text files Done BadStart one other = absurd other
same_status input text files (Differs line) Done one other = absurd (not_both (content_of files input) (content_of files text) line other.means one.at)
same_status input text files (Differs line) (Differs more) one other = refl
same_status input text files (Differs line) (Refused refusal) one other = absurd (refused_not input text files refusal other one.accepted one.short)
same_status input text files (Differs line) Words one other = absurd other
same_status input text files (Differs line) (Desk call) one other = absurd other
same_status input text files (Differs line) Memory one other = absurd other
same_status input text files (Differs line) Break one other = absurd other
same_status input text files (Differs line) Limit one other = absurd other
same_status input text files (Differs line) BadStart one other = absurd other
same_status input text files (Refused refusal) Done one other = absurd (refused_not input text files refusal one other.accepted other.short)
same_status input text files (Refused refusal) (Differs line) one other = absurd (refused_not input text files refusal one other.accepted other.short)
same_status input text files (Refused refusal) (Refused more) one other = refl
same_status input text files (Refused refusal) Words one other = absurd other
same_status input text files (Refused refusal) (Desk call) one other = absurd other
same_status input text files (Refused refusal) Memory one other = absurd other
same_status input text files (Refused refusal) Break one other = absurd other
same_status input text files (Refused refusal) Limit one other = absurd other
same_status input text files (Refused refusal) BadStart one other = absurd other
same_status input text files Words second one other = absurd one
same_status input text files (Desk call) second one other = absurd one
same_status input text files Memory second one other = absurd one
same_status input text files Break second one other = absurd one
same_status input text files Limit second one other = absurd one
same_status input text files BadStart second one other = absurd one

module _ (words : List (List ℕ)) (ending : Ending) (before after : Outside) (ends : Ends words ending before after) where
  left : (input output : List ℕ) → form_of words ≡ Some (HexForm input output) → LeavesHex input output ending before after
  left input output form = rw form at ends.leaves

  pub hex_done_promised : ForHex words (λ input output. status_of ending ≡ 0 → IsHexDone input output before after)
  hex_done_promised input output form status files told = by_case ending status (left input output form)
    where
      by_case : (e : Ending) → status_of e ≡ 0 → LeavesHex input output e before after → (text : List ℕ) × HasHexText (content_of files input) text × (after.files ≡ Some (with_file output (Some text) files)) × (after.printed ≡ option_map (λ printed. printed ++ hex_line text) before.printed)
      by_case Done is gone = (gone.0, gone.1.writes files told, gone.1.stores ∙ ap (option_map (with_file output (Some gone.0))) told, gone.2)
      by_case Words is gone = absurd gone
      by_case (Desk call) is gone = absurd (cc is)
      by_case (Refused refusal) is gone = absurd (cc is)
      by_case Memory is gone = absurd (cc is)
      by_case Break is gone = absurd gone
      by_case Limit is gone = absurd gone
      by_case BadStart is gone = absurd gone
      by_case (Differs line) is gone = absurd gone

  pub hex_fault_promised : ForHex words (λ input output. status_of ending ≡ 2 → HasFault input output before after)
  hex_fault_promised input output form status = by_case ending status (left input output form) ends.complains
    where
      by_case : (e : Ending) → status_of e ≡ 2 → LeavesHex input output e before after → ComplainsLine (complaint_of e) before after → HasFault input output before after
      by_case Done is gone said = absurd (cc is)
      by_case Words is gone said = absurd gone
      by_case (Desk Load) is gone said = (Load, gone.0, said)
      by_case (Desk Store) is gone said = (Store, gone.2, said)
      by_case (Desk Print) is gone said = (Print, gone.2, said)
      by_case (Refused refusal) is gone said = absurd (cc is)
      by_case Memory is gone said = absurd (cc is)
      by_case Break is gone said = absurd gone
      by_case Limit is gone said = absurd gone
      by_case BadStart is gone said = absurd gone
      by_case (Differs line) is gone said = absurd gone

  pub hex_refused_promised : ForHex words (λ input _. status_of ending ≡ 3 → HasHexRefusal input before after)
  hex_refused_promised input output form status = by_case ending status (left input output form) ends.complains
    where
      by_case : (e : Ending) → status_of e ≡ 3 → LeavesHex input output e before after → ComplainsLine (complaint_of e) before after → HasHexRefusal input before after
      by_case Done is gone said = absurd (cc is)
      by_case Words is gone said = absurd gone
      by_case (Desk call) is gone said = absurd (cc is)
      by_case (Refused refusal) is gone said = (gone.1, gone.2, refusal, gone.0, said)
      by_case Memory is gone said = absurd (cc is)
      by_case Break is gone said = absurd gone
      by_case Limit is gone said = absurd gone
      by_case BadStart is gone said = absurd gone
      by_case (Differs line) is gone said = absurd gone

  pub hex_exact_promised : ForHex words (λ input _. HexRefusesExactly input (status_of ending) before after)
  hex_exact_promised input output form files told refusal refused = by_case ending (left input output form)
    where
      writes_not : (text : List ℕ) → WritesFile input text before → ⊥
      writes_not text writes = cc (refused, (writes files told).accepted)

      by_case : (e : Ending) → LeavesHex input output e before after → (status_of e ≡ 3) ⊎ ((status_of e ≡ 2) × Rose (Loading input) before after) ⊎ (status_of e ≡ 4)
      by_case Done gone = absurd (writes_not gone.0 gone.1.writes)
      by_case Words gone = absurd gone
      by_case (Desk Load) gone = inr (inl (refl, gone.0))
      by_case (Desk Store) gone = absurd (writes_not gone.0 gone.1)
      by_case (Desk Print) gone = absurd (writes_not gone.0 gone.1.writes)
      by_case (Refused more) gone = inl refl
      by_case Memory gone = inr (inr refl)
      by_case Break gone = absurd gone
      by_case Limit gone = absurd gone
      by_case BadStart gone = absurd gone
      by_case (Differs line) gone = absurd gone

  pub hex_complete_promised : ForHex words (λ input output. IsHexComplete input output (status_of ending) before after)
  hex_complete_promised input output form no_fault files told accepted = by_case ending (left input output form)
    where
      by_case : (e : Ending) → LeavesHex input output e before after → (status_of e ≡ 0) ⊎ (status_of e ≡ 4)
      by_case Done gone = inl refl
      by_case Words gone = absurd gone
      by_case (Desk Load) gone = absurd (no_fault Load gone.0)
      by_case (Desk Store) gone = absurd (no_fault Store gone.2)
      by_case (Desk Print) gone = absurd (no_fault Print gone.2)
      by_case (Refused refusal) gone = absurd (cc (gone.0 files told, accepted))
      by_case Memory gone = inr refl
      by_case Break gone = absurd gone
      by_case Limit gone = absurd gone
      by_case BadStart gone = absurd gone
      by_case (Differs line) gone = absurd gone

  check_left : (input text : List ℕ) → form_of words ≡ Some (HexcheckForm input text) → LeavesCheck input text ending before after
  check_left input text form = rw form at ends.leaves

  pub check_files_promised : ForHexcheck words (λ _ _. KeepsFiles before after)
  check_files_promised input text form = (check_left input text form).0

  pub check_done_promised : ForHexcheck words (λ input text. status_of ending ≡ 0 → IsCheckDone input text before after)
  check_done_promised input text form status = by_case ending status (check_left input text form).1
    where
      by_case : (e : Ending) → status_of e ≡ 0 → CheckLeft input text e before after → IsCheckDone input text before after
      by_case Done is gone = gone
      by_case Words is gone = absurd gone
      by_case (Desk call) is gone = absurd (cc is)
      by_case (Refused refusal) is gone = absurd (cc is)
      by_case Memory is gone = absurd (cc is)
      by_case Break is gone = absurd gone
      by_case Limit is gone = absurd gone
      by_case BadStart is gone = absurd gone
      by_case (Differs line) is gone = absurd (cc is)

  pub check_differs_promised : ForHexcheck words (λ input text. status_of ending ≡ 8 → HasDifference input text before after)
  check_differs_promised input text form status = by_case ending status (check_left input text form).1 ends.complains
    where
      by_case : (e : Ending) → status_of e ≡ 8 → CheckLeft input text e before after → ComplainsLine (complaint_of e) before after → HasDifference input text before after
      by_case Done is gone said = absurd (cc is)
      by_case Words is gone said = absurd gone
      by_case (Desk call) is gone said = absurd (cc is)
      by_case (Refused refusal) is gone said = absurd (cc is)
      by_case Memory is gone said = absurd (cc is)
      by_case Break is gone said = absurd gone
      by_case Limit is gone said = absurd gone
      by_case BadStart is gone said = absurd gone
      by_case (Differs line) is gone said = (gone.0, line, gone.1, said)

  pub check_fault_promised : ForHexcheck words (λ input text. status_of ending ≡ 2 → HasCheckFault input text before after)
  check_fault_promised input text form status = by_case ending status (check_left input text form).1 ends.complains
    where
      by_case : (e : Ending) → status_of e ≡ 2 → CheckLeft input text e before after → ComplainsLine (complaint_of e) before after → HasCheckFault input text before after
      by_case Done is gone said = absurd (cc is)
      by_case Words is gone said = absurd gone
      by_case (Desk Load) is gone said = (Load, elim gone.1 [ inl file ↦ inl file | inr other ↦ inr other.1 ], said)
      by_case (Desk Store) is gone said = absurd gone
      by_case (Desk Print) is gone said = (Print, gone.0, said)
      by_case (Refused refusal) is gone said = absurd (cc is)
      by_case Memory is gone said = absurd (cc is)
      by_case Break is gone said = absurd gone
      by_case Limit is gone said = absurd gone
      by_case BadStart is gone said = absurd gone
      by_case (Differs line) is gone said = absurd (cc is)

  pub check_refused_promised : ForHexcheck words (λ input text. status_of ending ≡ 3 → HasCheckRefusal input text before after)
  check_refused_promised input text form status = by_case ending status (check_left input text form).1 ends.complains
    where
      by_case : (e : Ending) → status_of e ≡ 3 → CheckLeft input text e before after → ComplainsLine (complaint_of e) before after → HasCheckRefusal input text before after
      by_case Done is gone said = absurd (cc is)
      by_case Words is gone said = absurd gone
      by_case (Desk call) is gone said = absurd (cc is)
      by_case (Refused refusal) is gone said = (gone.0, refusal, gone.1, said)
      by_case Memory is gone said = absurd (cc is)
      by_case Break is gone said = absurd gone
      by_case Limit is gone said = absurd gone
      by_case BadStart is gone said = absurd gone
      by_case (Differs line) is gone said = absurd (cc is)

  pub check_complete_promised : ForHexcheck words (λ input text. IsCheckComplete input text (status_of ending) before after)
  check_complete_promised input text form no_fault files told accepted = by_case ending (check_left input text form).1
    where
      by_case : (e : Ending) → CheckLeft input text e before after → (status_of e ≡ 0) ⊎ (status_of e ≡ 4) ⊎ (status_of e ≡ 8)
      by_case Done gone = inl refl
      by_case Words gone = absurd gone
      by_case (Desk Load) gone = absurd (no_fault Load (elim gone.1 [ inl file ↦ inl file | inr other ↦ inr other.1 ]))
      by_case (Desk Store) gone = absurd gone
      by_case (Desk Print) gone = absurd (no_fault Print gone.0)
      by_case (Refused refusal) gone = absurd (accepted refusal (gone.1 files told))
      by_case Memory gone = inr (inl refl)
      by_case Break gone = absurd gone
      by_case Limit gone = absurd gone
      by_case BadStart gone = absurd gone
      by_case (Differs line) gone = inr (inr refl)

  pub check_exact_promised : ForHexcheck words (λ input text. ChecksExactly input text (status_of ending) before after)
  check_exact_promised input text form files told cause_of causes = by_case ending (check_left input text form).1
    where
      by_cause : (e : Ending) → CheckCause input text e files → (status_of e ≡ status_of cause_of) ⊎ ((status_of e ≡ 2) × MeetsCheckFault input text files before after) ⊎ (status_of e ≡ 4)
      by_cause e cause = inl (same_status input text files e cause_of cause causes)

      by_case : (e : Ending) → CheckLeft input text e before after → (status_of e ≡ status_of cause_of) ⊎ ((status_of e ≡ 2) × MeetsCheckFault input text files before after) ⊎ (status_of e ≡ 4)
      by_case Done gone = by_cause Done (gone.0 files told)
      by_case Words gone = absurd gone
      by_case (Desk Load) gone = inr (inl (refl, elim gone.1 [ inl file ↦ inl file | inr other ↦ inr (inl (other.0 files told, other.1)) ]))
      by_case (Desk Store) gone = absurd gone
      by_case (Desk Print) gone = inr (inl (refl, inr (inr (gone.1 files told, gone.0))))
      by_case (Refused refusal) gone = by_cause (Refused refusal) (gone.1 files told)
      by_case Memory gone = inr (inr refl)
      by_case Break gone = absurd gone
      by_case Limit gone = absurd gone
      by_case BadStart gone = absurd gone
      by_case (Differs line) gone = by_cause (Differs line) (gone.1 files told)
