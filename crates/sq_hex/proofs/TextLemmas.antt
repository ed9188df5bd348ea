-- The text of ranges, record by record.
use Rattle.std.proofs.Common.{◌≡◌, ◌≢◌, ℕ, zero, suc, ◌+◌, ◌/◌, ◌%◌, ◌<◌, ◌≤◌, Bool, true, false, List, [], ◌∷◌, ◌++◌, length, take, drop, Option, Some, refl, sym, ap, ◌∙◌, append_assoc, arith}
use Rattle.std.proofs.lemmas.Grind.{common_steps}
use Rattle.std.proofs.lemmas.List.{drop-drop}
use Rattle.std.specs.Prelude.{nat_eq}
use Rattle.sq_hex.specs.Flash.{Range}
use Rattle.sq_hex.specs.Texts.{record_line, base_line, joined, cut, data_text}
use Rattle.sq_hex.proofs.LineLemmas.{eq_test, ne_test}

pub data_text_none : (base : Option ℕ) → data_text base [] ≡ []
unfolding data_text
data_text_none base = refl

pub data_text_more : (base : Option ℕ) (address : ℕ) (bytes : List ℕ) (ranges : List Range) → data_text base ((address, bytes) ∷ ranges) ≡ base_line base (address / 65536) ++ (record_line 0 (address % 65536) bytes ++ data_text (Some (address / 65536)) ranges)
unfolding data_text
data_text_more base address bytes ranges = refl

pub cut_none : (address : ℕ) → cut address [] ≡ []
unfolding cut
cut_none address = refl

pub cut_here : (address byte : ℕ) (bytes : List ℕ) → (address + 1) % 16 ≡ 0 → cut address (byte ∷ bytes) ≡ (address, byte ∷ []) ∷ cut (address + 1) bytes
unfolding cut
cut_here address byte bytes ends = rw (eq_test ((address + 1) % 16) 0 ends) refl

pub cut_later : (address byte : ℕ) (bytes : List ℕ) → (address + 1) % 16 ≢ 0 → cut address (byte ∷ bytes) ≡ joined address byte (cut (address + 1) bytes)
unfolding cut
cut_later address byte bytes goes = rw (ne_test ((address + 1) % 16) 0 goes) refl

cut_last : (address byte : ℕ) → cut address (byte ∷ []) ≡ (address, byte ∷ []) ∷ cut (address + 1) []
unfolding cut
cut_last address byte = by_end (nat_eq ((address + 1) % 16) 0) refl
  where
    by_end : (is : Bool) → nat_eq ((address + 1) % 16) 0 ≡ is → cut address (byte ∷ []) ≡ (address, byte ∷ []) ∷ cut (address + 1) []
    by_end false is = rw is refl
    by_end true is = rw is refl

-- so many bytes from the address on are one record
pub record IsPart (address size : ℕ) (bytes : List ℕ) : Type 0 where
  pub some : 0 < size
  pub within : size ≤ length bytes
  pub room : address % 16 + size ≤ 16
  pub whole : address % 16 + size < 16 → size ≡ length bytes

pub cut_first : (size address : ℕ) (bytes : List ℕ) → IsPart address size bytes → cut address bytes ≡ (address, take size bytes) ∷ cut (address + size) (drop size bytes)
cut_first zero address bytes part = absurd (omega arith)
cut_first (suc size) address [] part = absurd (omega arith)
cut_first (suc zero) address (byte ∷ []) part = cut_last address byte
cut_first (suc zero) address (byte ∷ next ∷ bytes) part = cut_here address byte (next ∷ bytes) (grind arith)
cut_first (suc (suc size)) address (byte ∷ bytes) part =
    let at : address + 1 + suc size ≡ address + suc (suc size) = omega arith in
    let rest : IsPart (address + 1) (suc size) bytes = record { some = omega arith; within = omega arith; room = omega arith; whole = λ little. omega (arith, part.whole (omega arith)) } in
    cut_later address byte bytes (omega arith)
    ∙ ap (joined address byte) (cut_first (suc size) (address + 1) bytes rest)
    ∙ ap (λ a. (address, byte ∷ take (suc size) bytes) ∷ cut a (drop (suc size) bytes)) at

regroup : (text base line more : List ℕ) → text ++ (base ++ (line ++ more)) ≡ text ++ base ++ line ++ more
regroup text base line more = simp append_assoc

-- a range that is written from the place `done` on
module _ (address done size : ℕ) (bytes : List ℕ) where
  pub part_here : done < length bytes → 0 < size → size ≤ length bytes → done + size ≤ length bytes → (address + done) % 16 + size ≤ 16 → ((address + done) % 16 + size < 16 → done + size ≡ length bytes) → IsPart (address + done) size (drop done bytes)
  part_here behind some little within room whole =
      let left : length (drop done bytes) + done ≡ length bytes = grind (arith, common_steps) in
      record { some = some; within = omega arith; room = room; whole = λ less. omega (arith, whole less) }

  pub range_more : (base : Option ℕ) (text new : List ℕ) (later : List Range) → IsPart (address + done) size (drop done bytes)
      → new ≡ text ++ base_line base ((address + done) / 65536) ++ record_line 0 ((address + done) % 65536) (take size (drop done bytes))
      → text ++ data_text base (cut (address + done) (drop done bytes) ++ later) ≡ new ++ data_text (Some ((address + done) / 65536)) (cut (address + (done + size)) (drop (done + size) bytes) ++ later)
  range_more base text new later part written =
      let at : address + done + size ≡ address + (done + size) = omega arith in
      let high : ℕ = (address + done) / 65536 in
      let rest : List Range = cut (address + (done + size)) (drop (done + size) bytes) in
      let first : cut (address + done) (drop done bytes) ≡ (address + done, take size (drop done bytes)) ∷ rest =
      cut_first size (address + done) (drop done bytes) part
      ∙ ap (λ a. (address + done, take size (drop done bytes)) ∷ cut a (drop size (drop done bytes))) at
      ∙ ap (λ more. (address + done, take size (drop done bytes)) ∷ cut (address + (done + size)) more) (drop-drop size done bytes) in
      ap (λ ranges. text ++ data_text base (ranges ++ later)) first
      ∙ ap (λ more. text ++ more) (data_text_more base (address + done) (take size (drop done bytes)) (rest ++ later))
      ∙ regroup text (base_line base high) (record_line 0 ((address + done) % 65536) (take size (drop done bytes))) (data_text (Some high) (rest ++ later))
      ∙ sym (ap (λ front. front ++ data_text (Some high) (rest ++ later)) written)
