-- Words of text by their addresses.
use Rattle.std.proofs.Common.{◌≡◌, ℕ, ◌+◌, ◌*◌, ◌%◌, ◌<◌, ◌≤◌, Bool, true, false, ◌==◌, List, [], ◌∷◌, length, Option, Some, None, if◌then◌else◌, refl, sym, ap, ◌∙◌, arith, ne_eqb, nat_le, nat_lt, is_some}
use Rattle.std.proofs.lemmas.Bool.{eqb-true, and_parts}
use Rattle.std.proofs.lemmas.Bool.Decides.{nat_tests}
use Rattle.law_program.specs.Programs.{Word, Text, word_from, word_at, IsWord, end_of, is_in_text}

pub same_itself : (x : ℕ) → (x == x) ≡ true
same_itself x = grind (arith, nat_tests)

pub at_here : (x : ℕ) (w : Word) (words : List Word) → word_from x x (w ∷ words) ≡ Some w
at_here x w words = rw (same_itself x) refl

pub at_later : (x at : ℕ) (w : Word) (words : List Word) → at + 4 ≤ x → word_from x at (w ∷ words) ≡ word_from x (at + 4) words
at_later x at w words h = rw (ne_eqb x at (λ e. omega arith)) refl

-- where a word that is there stands
pub record Stood (x at : ℕ) (words : List Word) : Type 0 where
  pub least : at ≤ x
  pub most : x + 4 ≤ at + 4 * length words
  pub whole : x % 4 ≡ at % 4

pub stood : (x at : ℕ) (w : Word) (words : List Word) → word_from x at words ≡ Some w → Stood x at words
stood x at w [] e = absurd (cc)
stood x at w (v ∷ words) e = go (x == at) refl e (stood x (at + 4) w words)
  where
    go : (b : Bool) → (x == at) ≡ b → (if b then Some v else word_from x (at + 4) words) ≡ Some w → (word_from x (at + 4) words ≡ Some w → Stood x (at + 4) words) → Stood x at (v ∷ words)
    go true t h rec = let q : x ≡ at = eqb-true x at t in record { least = omega arith; most = omega arith; whole = ap (λ n. n % 4) q }
    go false t h rec =
        let r = rec h in
        let least : at + 4 ≤ x = r.least in
        let most : x + 4 ≤ at + 4 + 4 * length words = r.most in
        let whole : x % 4 ≡ (at + 4) % 4 = r.whole in
        record { least = omega arith; most = omega arith; whole = omega arith }

pub word_there : (x at : ℕ) (words : List Word) → at ≤ x → x < at + 4 * length words → x % 4 ≡ at % 4 → (w : Word) × (word_from x at words ≡ Some w)
word_there x at [] h k e = absurd (let f : x < at + 4 * 0 = k in omega arith)
word_there x at (v ∷ words) h k e = go (x == at) refl (λ f. word_there x (at + 4) words (later f) (let k' : x < at + 4 * length (v ∷ words) = k in omega arith) (omega arith))
  where
    later : (x == at) ≡ false → at + 4 ≤ x
    later f = grind (arith, nat_tests)

    go : (b : Bool) → (x == at) ≡ b → ((x == at) ≡ false → (w : Word) × (word_from x (at + 4) words ≡ Some w)) → (w : Word) × ((if b then Some v else word_from x (at + 4) words) ≡ Some w)
    go true t rec = (v, refl)
    go false t rec = rec t

pub some_is : (o : Option Word) → is_some o ≡ true → (w : Word) × (o ≡ Some w)
some_is None e = absurd (cc)
some_is (Some w) e = (w, refl)

pub is_there : (t : Text) (x : ℕ) (w : Word) → word_at t x ≡ Some w → IsWord t x
is_there t x w e = rw e refl

-- an address in text that is a multiple of 4 is a word
pub in_text_word : (t : Text) (x : ℕ) → t.lo % 4 ≡ 0 → is_in_text t x ≡ true → x % 4 ≡ 0 → IsWord t x
in_text_word t x a e m =
    let b = and_parts (nat_le t.lo x) (nat_lt x (end_of t)) e in
    let least : t.lo ≤ x = let f = b.0 in grind (arith, nat_tests) in
    let most : x < t.lo + 4 * length t.words = let f = b.1 in grind (arith, nat_tests) in
    let w = word_there x t.lo t.words least most (m ∙ sym a) in
    is_there t x w.0 w.1

-- behind a word that isn't the last stands another
pub next_there : (t : Text) (x : ℕ) (w : Word) → word_at t x ≡ Some w → (x + 4 == end_of t) ≡ false → IsWord t (x + 4)
next_there t x w e f =
    let s = stood x t.lo w t.words e in
    let least : t.lo ≤ x = s.least in
    let most : x + 4 ≤ t.lo + 4 * length t.words = s.most in
    let whole : x % 4 ≡ t.lo % 4 = s.whole in
    let other : x + 4 < t.lo + 4 * length t.words = grind (arith, nat_tests) in
    let v = word_there (x + 4) t.lo t.words (omega arith) other (omega arith) in
    is_there t (x + 4) v.0 v.1

-- a word is in text
pub in_text_of : (t : Text) (x : ℕ) → IsWord t x → is_in_text t x ≡ true
in_text_of t x e =
    let w = some_is (word_at t x) e in
    let s = stood x t.lo w.0 t.words w.1 in
    let least : t.lo ≤ x = s.least in
    let most : x + 4 ≤ t.lo + 4 * length t.words = s.most in
    let a : nat_le t.lo x ≡ true = grind (arith, nat_tests) in
    let b : nat_lt x (end_of t) ≡ true = grind (arith, nat_tests) in
    rw (a, b) refl
