-- Lines of a text, from its first line on.
use Rattle.std.proofs.Common.{◌≡◌, ◌≢◌, ℕ, zero, suc, ◌<◌, Bool, true, false, ◌&&◌, if◌then◌else◌, List, [], ◌∷◌, length, get_or, take, drop, refl, ap, ◌∙◌, arith}
use Rattle.std.proofs.lemmas.Bool.Decides.{nat_tests}
use Rattle.std.specs.Prelude.{nat_eq}
use Rattle.sq_hex.specs.Lines.{is_at_newline, in_front, lines_of}
use Rattle.sq_hex.specs.States.{without_return}

pub eq_test : (a b : ℕ) → a ≡ b → nat_eq a b ≡ true
eq_test a b same = grind (arith, nat_tests)

pub ne_test : (a b : ℕ) → a ≢ b → nat_eq a b ≡ false
ne_test a b other = grind (arith, nat_tests)

-- a line that ends with no carriage return
pub without_return_empty : (line : List ℕ) → length line ≡ 0 → without_return line ≡ line
without_return_empty [] none = refl
without_return_empty (byte ∷ bytes) none = absurd (omega arith)

pub without_return_plain : (line : List ℕ) (last : ℕ) → length line ≡ suc last → get_or line last 0 ≢ 13 → without_return line ≡ line
without_return_plain [] last size plain = absurd (omega arith)
without_return_plain (byte ∷ []) zero size plain = rw (ne_test byte 13 plain) refl
without_return_plain (byte ∷ []) (suc last) size plain = absurd (omega arith)
without_return_plain (byte ∷ next ∷ bytes) zero size plain = absurd (omega arith)
without_return_plain (byte ∷ next ∷ bytes) (suc last) size plain =
    ap (λ rest. byte ∷ rest) (without_return_plain (next ∷ bytes) last (omega arith) plain)

-- one that ends with one
pub without_return_ended : (line : List ℕ) (last : ℕ) → length line ≡ suc last → get_or line last 0 ≡ 13 → without_return line ≡ take last line
without_return_ended [] last size ended = absurd (omega arith)
without_return_ended (byte ∷ []) zero size ended = rw (eq_test byte 13 ended) refl
without_return_ended (byte ∷ []) (suc last) size ended = absurd (omega arith)
without_return_ended (byte ∷ next ∷ bytes) zero size ended = absurd (omega arith)
without_return_ended (byte ∷ next ∷ bytes) (suc last) size ended =
    ap (λ rest. byte ∷ rest) (without_return_ended (next ∷ bytes) last (omega arith) ended)

-- the first newline of a text stands at `end`
pub record EndsAt (text : List ℕ) (end : ℕ) : Type 0 where
  pub within : end < length text
  pub plain : (k : ℕ) → k < end → get_or text k 0 ≢ 10
  pub newline : get_or text end 0 ≡ 10

-- the lines from a byte on that is no newline, where these are the lines behind it
abbrev pub lines_with : ℕ → List ℕ → List (List ℕ) → List (List ℕ)
lines_with byte bytes lines = if nat_eq byte 13 && is_at_newline bytes then lines else in_front byte lines

pub lines_step : (byte : ℕ) (bytes : List ℕ) → byte ≢ 10 → lines_of (byte ∷ bytes) ≡ lines_with byte bytes (lines_of bytes)
unfolding lines_of
lines_step byte bytes plain = rw (ne_test byte 10 plain) refl

pub lines_newline : (byte : ℕ) (bytes : List ℕ) → byte ≡ 10 → lines_of (byte ∷ bytes) ≡ [] ∷ lines_of bytes
unfolding lines_of
lines_newline byte bytes newline = rw (eq_test byte 10 newline) refl

pub lines_end : lines_of [] ≡ []
unfolding lines_of
lines_end = refl

-- a byte in front of a line that doesn't end here
pub longer : (byte : ℕ) (bytes : List ℕ) (lines : List (List ℕ)) → is_at_newline bytes ≡ false → lines_with byte bytes lines ≡ in_front byte lines
longer byte bytes lines goes = by_return (nat_eq byte 13) refl
  where
    by_return : (is : Bool) → nat_eq byte 13 ≡ is → lines_with byte bytes lines ≡ in_front byte lines
    by_return false is = rw is refl
    by_return true is = rw (is, goes) refl

-- the last byte of a line
shortest : (byte : ℕ) (bytes : List ℕ) (rest : List (List ℕ)) → is_at_newline bytes ≡ true → lines_with byte bytes ([] ∷ rest) ≡ without_return (byte ∷ []) ∷ rest
shortest byte bytes rest stops = by_return (nat_eq byte 13) refl
  where
    by_return : (is : Bool) → nat_eq byte 13 ≡ is → lines_with byte bytes ([] ∷ rest) ≡ without_return (byte ∷ []) ∷ rest
    by_return false is = rw is refl
    by_return true is = rw (is, stops) refl

one_more : (byte : ℕ) (bytes : List ℕ) (end : ℕ) → EndsAt bytes end → (rest : List (List ℕ)) → lines_with byte bytes (without_return (take end bytes) ∷ rest) ≡ without_return (byte ∷ take end bytes) ∷ rest
one_more byte [] end at rest = absurd (omega arith)
one_more byte (next ∷ bytes) zero at rest = shortest byte (next ∷ bytes) rest (eq_test next 10 at.newline)
one_more byte (next ∷ bytes) (suc end) at rest = longer byte (next ∷ bytes) _ (ne_test next 10 (at.plain 0 (omega arith)))

ends_later : (byte : ℕ) (bytes : List ℕ) (end : ℕ) → EndsAt (byte ∷ bytes) (suc end) → EndsAt bytes end
ends_later byte bytes end at = record {
  within = omega arith;
  plain = λ k below. at.plain (suc k) (omega arith);
  newline = at.newline;
}

-- a line that ends with a newline
pub first_line_ended : (text : List ℕ) (end : ℕ) → EndsAt text end → lines_of text ≡ without_return (take end text) ∷ lines_of (drop (suc end) text)
first_line_ended [] end at = absurd (omega arith)
first_line_ended (byte ∷ bytes) zero at = lines_newline byte bytes at.newline
first_line_ended (byte ∷ bytes) (suc end) at =
    let later = ends_later byte bytes end at in
    lines_step byte bytes (at.plain 0 (omega arith))
    ∙ ap (lines_with byte bytes) (first_line_ended bytes end later)
    ∙ one_more byte bytes end later (lines_of (drop (suc end) bytes))

-- a last line that ends with nothing
pub first_line_last : (text : List ℕ) → 0 < length text → ((k : ℕ) → k < length text → get_or text k 0 ≢ 10) → lines_of text ≡ text ∷ []
first_line_last [] some plain = absurd (omega arith)
first_line_last (byte ∷ []) some plain =
    lines_step byte [] (plain 0 (omega arith)) ∙ longer byte [] (lines_of []) refl ∙ ap (in_front byte) lines_end
first_line_last (byte ∷ next ∷ bytes) some plain =
    lines_step byte (next ∷ bytes) (plain 0 (omega arith))
    ∙ longer byte (next ∷ bytes) (lines_of (next ∷ bytes)) (ne_test next 10 (plain 1 (omega arith)))
    ∙ ap (in_front byte) (first_line_last (next ∷ bytes) (omega arith) (λ k below. plain (suc k) (omega arith)))
