-- A text and its pieces between marks.
use Rattle.std.proofs.Common.{◌≡◌, ◌≢◌, ℕ, zero, suc, ◌<◌, Bool, true, false, if◌then◌else◌, List, [], ◌∷◌, ◌++◌, length, get_or, take, drop, Option, Some, None, refl, sym, ap, ◌∙◌, arith}
use Rattle.std.proofs.lemmas.Bool.Decides.{nat_tests}
use Rattle.std.proofs.lemmas.List.{append-nil}
use Rattle.std.specs.Prelude.{nat_eq, flat_map}
use Rattle.sq_cert.specs.Pieces.{in_front, pieces}

pub eq_test : (a b : ℕ) → a ≡ b → nat_eq a b ≡ true
eq_test a b same = grind (arith, nat_tests)

pub ne_test : (a b : ℕ) → a ≢ b → nat_eq a b ≡ false
ne_test a b other = grind (arith, nat_tests)

pub eq_back : (a b : ℕ) → nat_eq a b ≡ true → a ≡ b
eq_back a b same = grind (arith, nat_tests)

-- no mark stands in the text
abbrev pub lacks : ℕ → List ℕ → Bool
lacks mark [] = true
lacks mark (byte ∷ bytes) = if nat_eq byte mark then false else lacks mark bytes

pub lacks_parts : (is rest : Bool) → (if is then false else rest) ≡ true → (is ≡ false) × (rest ≡ true)
lacks_parts true rest free = absurd (cc free)
lacks_parts false rest free = (refl, free)

pub lacks_append : (mark : ℕ) (front back : List ℕ) → lacks mark front ≡ true → lacks mark back ≡ true → lacks mark (front ++ back) ≡ true
lacks_append mark [] back free freed = freed
lacks_append mark (byte ∷ bytes) back free freed =
    let parts = lacks_parts (nat_eq byte mark) (lacks mark bytes) free in
    rw parts.0 (lacks_append mark bytes back parts.1 freed)

pub lacks_one : (mark byte : ℕ) → byte ≢ mark → lacks mark (byte ∷ []) ≡ true
lacks_one mark byte other = rw (ne_test byte mark other) refl

-- a piece, and the text behind its mark
pub pieces_front : (mark : ℕ) (piece rest : List ℕ) → lacks mark piece ≡ true → pieces mark (piece ++ mark ∷ rest) ≡ piece ∷ pieces mark rest
unfolding pieces
pieces_front mark [] rest free = rw (eq_test mark mark refl) refl
pieces_front mark (byte ∷ bytes) rest free =
    let parts = lacks_parts (nat_eq byte mark) (lacks mark bytes) free in
    rw parts.0 (ap (in_front byte) (pieces_front mark bytes rest parts.1))

-- a text without marks
pub pieces_whole : (mark : ℕ) (text : List ℕ) → lacks mark text ≡ true → pieces mark text ≡ text ∷ []
unfolding pieces
pieces_whole mark [] free = refl
pieces_whole mark (byte ∷ bytes) free =
    let parts = lacks_parts (nat_eq byte mark) (lacks mark bytes) free in
    rw parts.0 (ap (in_front byte) (pieces_whole mark bytes parts.1))

-- there is a first piece
pub record AreSome (pieces : List (List ℕ)) : Type 0 where
  pub first : List ℕ
  pub more : List (List ℕ)
  pub are : pieces ≡ first ∷ more

some_in_front : (byte : ℕ) (pieces : List (List ℕ)) → AreSome (in_front byte pieces)
some_in_front byte [] = record { first = byte ∷ []; more = []; are = refl }
some_in_front byte (piece ∷ pieces) = record { first = byte ∷ piece; more = pieces; are = refl }

pub some_pieces : (mark : ℕ) (text : List ℕ) → AreSome (pieces mark text)
unfolding pieces
some_pieces mark [] = record { first = []; more = []; are = refl }
some_pieces mark (byte ∷ bytes) = by_mark (nat_eq byte mark)
  where
    by_mark : (is : Bool) → AreSome (if is then [] ∷ pieces mark bytes else in_front byte (pieces mark bytes))
    by_mark true = record { first = []; more = pieces mark bytes; are = refl }
    by_mark false = some_in_front byte (pieces mark bytes)

-- the text that has these pieces
abbrev pub behind : ℕ → List (List ℕ) → List ℕ
behind mark pieces = flat_map (λ piece. mark ∷ piece) pieces

abbrev pub joined : ℕ → List (List ℕ) → List ℕ
joined mark [] = []
joined mark (piece ∷ pieces) = piece ++ behind mark pieces

behind_joined : (mark : ℕ) (pieces : List (List ℕ)) → AreSome pieces → behind mark pieces ≡ mark ∷ joined mark pieces
behind_joined mark [] some = absurd (cc some.are)
behind_joined mark (piece ∷ pieces) some = refl

front_joined : (mark byte : ℕ) (pieces : List (List ℕ)) → joined mark (in_front byte pieces) ≡ byte ∷ joined mark pieces
front_joined mark byte [] = refl
front_joined mark byte (piece ∷ pieces) = refl

pub pieces_joined : (mark : ℕ) (text : List ℕ) → joined mark (pieces mark text) ≡ text
unfolding pieces
pieces_joined mark [] = refl
pieces_joined mark (byte ∷ bytes) = by_mark (nat_eq byte mark) refl (pieces_joined mark bytes)
  where
    by_mark : (is : Bool) → nat_eq byte mark ≡ is → joined mark (pieces mark bytes) ≡ bytes → joined mark (if is then [] ∷ pieces mark bytes else in_front byte (pieces mark bytes)) ≡ byte ∷ bytes
    by_mark true is later =
        let same : mark ≡ byte = sym (eq_back byte mark is) in
        behind_joined mark (pieces mark bytes) (some_pieces mark bytes) ∙ ap (λ rest. mark ∷ rest) later ∙ ap (λ b. b ∷ bytes) same
    by_mark false is later = front_joined mark byte (pieces mark bytes) ∙ ap (λ rest. byte ∷ rest) later

-- no mark stands in any of these
abbrev pub AllLack : ℕ → List (List ℕ) → Type 0
AllLack mark [] = Unit {0}
AllLack mark (piece ∷ pieces) = (lacks mark piece ≡ true) × AllLack mark pieces

pub joined_pieces : (mark : ℕ) (first : List ℕ) (more : List (List ℕ)) → lacks mark first ≡ true → AllLack mark more → pieces mark (first ++ behind mark more) ≡ first ∷ more
joined_pieces mark first [] free all = rw (append-nil first) (pieces_whole mark first free)
joined_pieces mark first (piece ∷ more) free all =
    pieces_front mark first (piece ++ behind mark more) free ∙ ap (λ rest. first ∷ rest) (joined_pieces mark piece more all.0 all.1)

-- where the first mark of a text stands
pub record StandsAt (mark : ℕ) (text : List ℕ) (end : ℕ) : Type 0 where
  pub within : end < length text
  pub plain : (k : ℕ) → k < end → get_or text k 0 ≢ mark
  pub marked : get_or text end 0 ≡ mark

pub pieces_at : (mark : ℕ) (text : List ℕ) (end : ℕ) → StandsAt mark text end → pieces mark text ≡ take end text ∷ pieces mark (drop (suc end) text)
unfolding pieces
pieces_at mark [] end at = absurd (omega (arith, at.within))
pieces_at mark (byte ∷ bytes) zero at = rw (eq_test byte mark at.marked) refl
pieces_at mark (byte ∷ bytes) (suc end) at =
    let later : StandsAt mark bytes end = record { within = omega (arith, at.within); plain = λ k below. at.plain (suc k) (omega arith); marked = at.marked } in
    rw (ne_test byte mark (at.plain 0 (omega arith))) (ap (in_front byte) (pieces_at mark bytes end later))

pub plain_lacks : (mark : ℕ) (text : List ℕ) → ((k : ℕ) → k < length text → get_or text k 0 ≢ mark) → lacks mark text ≡ true
plain_lacks mark [] plain = refl
plain_lacks mark (byte ∷ bytes) plain =
    rw (ne_test byte mark (plain 0 (omega arith))) (plain_lacks mark bytes (λ k below. plain (suc k) (omega arith)))

-- how much is left to be read
abbrev pub left : Option (List ℕ) → ℕ
left None = 0
left (Some text) = suc (length text)
