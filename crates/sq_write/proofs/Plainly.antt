-- The parts of a plain file, as they are written.
use Rattle.std.proofs.Common.{◌≡◌, ℕ, ◌*◌, ◌≤◌, List, [], ◌++◌, length, ap, ◌∙◌, arith, append-nil}
use Rattle.sq_write.specs.Output.{words, Piece}
use Rattle.sq_write.specs.Plain.{plain_start, plain_output, empty_note}
use Rattle.sq_write.specs.Laid.{FileParts, parts_of, IsFew}
use Rattle.sq_write.proofs.Splitting.{length_words}

parts : List Piece → Piece → List Piece → List ℕ → List ℕ → FileParts
parts before text behind entries note =
    record { entry = plain_start; before = before; text = text; behind = behind; entries = entries; note = note }

text_with : List ℕ → Piece
text_with bytes = record { address = plain_start; load_address = plain_start; bytes = bytes; size = length bytes; flags = 5 }

pub same_parts : (text : List ℕ) (before behind : List Piece) (piece : Piece) (spelled entries note : List ℕ) → before ≡ [] → behind ≡ [] → entries ≡ [] → spelled ≡ words text → piece ≡ record { address = plain_start; load_address = plain_start; bytes = spelled; size = length spelled; flags = 5 } → note ≡ empty_note → record { entry = plain_start; before = before; text = piece; behind = behind; entries = entries; note = note } ≡ parts_of (plain_output text)
unfolding parts text_with
same_parts text before behind piece spelled entries note none_before none_behind none is_spelled is_piece is_note =
    ap (λ x. parts x piece behind entries note) none_before
    ∙ ap (λ x. parts [] x behind entries note) (is_piece ∙ ap text_with is_spelled)
    ∙ ap (λ x. parts [] (text_with (words text)) x entries note) none_behind
    ∙ ap (λ x. parts [] (text_with (words text)) [] x note) none
    ∙ ap (λ x. parts [] (text_with (words text)) [] [] x) is_note

-- they are few enough for the fields
pub few_parts : (text : List ℕ) → length text ≤ 262144 → IsFew (parts_of (plain_output text))
few_parts text few =
    let size : length (words text ++ []) ≡ 4 * length text = ap length (append-nil (words text)) ∙ length_words text in
    record { pieces = omega arith; bytes = omega (arith, size, few) }
