-- Words of text and where text ends.
use Rattle.std.proofs.Common.{◌≡◌, ◌≢◌, ℕ, suc, ◌+◌, ◌*◌, ◌≤◌, Bool, true, false, ◌==◌, List, [], ◌∷◌, length, Some, None, if◌then◌else◌, refl, arith, ne_eqb}
use Rattle.std.proofs.lemmas.Bool.{eqb-true}
use Rattle.law_program.specs.Programs.{Word, Text, word_from, word_at, end_of}

-- no word stands behind the end
none_past : (x at : ℕ) (words : List Word) → at + 4 * length words ≤ x → word_from x at words ≡ None
none_past x at [] h = refl
none_past x at (w ∷ words) h =
    let apart : x ≢ at = omega arith in
    let rest : at + 4 + 4 * length words ≤ x = omega arith in
    rw (ne_eqb x at apart) (none_past x (at + 4) words rest)

pub word_past : (t : Text) (x : ℕ) → end_of t ≤ x → word_at t x ≡ None
word_past t x h = none_past x t.lo t.words h

ends_behind : (x at : ℕ) (words : List Word) (w : Word) → word_from x at words ≡ Some w → x + 4 ≤ at + 4 * length words
ends_behind x at [] w e = absurd (cc)
ends_behind x at (v ∷ words) w e = tell (x == at) refl (ends_behind x (at + 4) words w) e
  where
    tell : (b : Bool) → (x == at) ≡ b → (word_from x (at + 4) words ≡ Some w → x + 4 ≤ at + 4 + 4 * length words) → (if b then Some v else word_from x (at + 4) words) ≡ Some w → x + 4 ≤ at + 4 * suc (length words)
    tell true p later q = let same : x ≡ at = eqb-true x at p in omega arith
    tell false p later q = let h : x + 4 ≤ at + 4 + 4 * length words = later q in omega arith

-- each word ends at the end or before it
pub word_within : (t : Text) (x : ℕ) (w : Word) → word_at t x ≡ Some w → x + 4 ≤ end_of t
word_within t x w e = ends_behind x t.lo t.words w e
