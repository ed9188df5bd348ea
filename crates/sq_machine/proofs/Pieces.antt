-- What one comparison of a range with a piece or RAM says of its bytes.
use Rattle.std.proofs.Common.{◌≡◌, ℕ, zero, suc, ◌+◌, ◌<◌, ◌≤◌, Bool, true, false, ◌==◌, ◌&&◌, ◌||◌, not, bit_and, if◌then◌else◌, List, [], ◌∷◌, Some, is_some, position, nat_le, nat_lt, refl, ap, ◌∙◌, arith}
use Rattle.std.proofs.lemmas.Bool.Decides.{nat_tests}
use Rattle.std.proofs.lemmas.Iterator.Adapters.{position_from-zero}
use Rattle.std.specs.List.{list_any, position_from}
use Rattle.std.proofs.lemmas.Bool.{and_from, or_right}
use Rattle.sq_system.specs.declared.piece.Piece.{Piece}
use Rattle.sq_system.specs.World.{World, PF_X, PF_W, is_in, is_in_with, is_in_ram, is_executable, is_writable, are_all}
use Rattle.sq_machine.specs.Ranges.{allows_all, meets_ram, IsBareRam}
use Rattle.sq_machine.specs.declared.bare_ram.BareRam.{BareRam}

first_of_both : (a b : Bool) → (a && b) ≡ true → a ≡ true
first_of_both true b e = refl
first_of_both false b e = absurd (cc)

found_from : {A : Type 0} (test : A → Bool) (xs : List A) (i : ℕ) → is_some (position_from test i xs) ≡ list_any test xs
found_from test [] i = refl
found_from test (x ∷ xs) i = by_test (test x) (found_from test xs (i + 1))
  where
    by_test : (here : Bool) → is_some (position_from test (i + 1) xs) ≡ list_any test xs → is_some (if here then Some i else position_from test (i + 1) xs) ≡ (here || list_any test xs)
    by_test true rest = refl
    by_test false rest = rest

-- a place is found exactly where some element passes
pub place_of : {A : Type 0} (test : A → Bool) (xs : List A) → is_some (position test xs) ≡ list_any test xs
place_of test xs = ap is_some (position_from-zero test xs) ∙ found_from test xs 0

-- a test that holds of each byte of the range
each : (test : ℕ → Bool) (x n : ℕ) → ((y : ℕ) → x ≤ y → y < x + n → test y ≡ true) → are_all test x n ≡ true
each test x zero h = refl
each test x (suc n) h =
    and_from (are_all test x n) (test (x + n)) (each test x n (λ y from below. h y from (omega arith))) (h (x + n) (omega arith) (omega arith))

-- each byte of a range that a piece allows is allowed by it
allowed : (permission x n y : ℕ) (piece : Piece) → x ≤ y → y < x + n → allows_all permission x n piece ≡ true → is_in_with permission y piece ≡ true
allowed permission x n y piece from below e = grind (arith, nat_tests)

-- what holds of one of two holds of one of two others
one_of_two : (a b c d : Bool) → (a ≡ true → c ≡ true) → (b ≡ true → d ≡ true) → (a || b) ≡ true → (c || d) ≡ true
one_of_two true b c d first second e = let f : c ≡ true = first refl in rw f refl
one_of_two false b c d first second e = or_right c d (second e)

some_allows : (permission x n y : ℕ) (pieces : List Piece) → x ≤ y → y < x + n → list_any (allows_all permission x n) pieces ≡ true → list_any (is_in_with permission y) pieces ≡ true
some_allows permission x n y [] from below e = e
some_allows permission x n y (piece ∷ pieces) from below e =
    one_of_two (allows_all permission x n piece) (list_any (allows_all permission x n) pieces) (is_in_with permission y piece) (list_any (is_in_with permission y) pieces)
    (allowed permission x n y piece from below) (some_allows permission x n y pieces from below) e

-- a byte that a piece allows is in a piece
is_in_some : (permission y : ℕ) (pieces : List Piece) → list_any (is_in_with permission y) pieces ≡ true → list_any (is_in y) pieces ≡ true
is_in_some permission y [] e = e
is_in_some permission y (piece ∷ pieces) e =
    one_of_two (is_in_with permission y piece) (list_any (is_in_with permission y) pieces) (is_in y piece) (list_any (is_in y) pieces)
    (first_of_both (is_in y piece) (not (bit_and piece.flags permission == 0))) (is_in_some permission y pieces) e

pub executable_in_one : (w : World) (x n : ℕ) → list_any (allows_all PF_X x n) w.pieces ≡ true → are_all (is_executable w) x n ≡ true
unfolding is_executable
executable_in_one w x n e = each (is_executable w) x n (λ y from below. some_allows PF_X x n y w.pieces from below e)

pub writable_in_one : (w : World) (x n : ℕ) → list_any (allows_all PF_W x n) w.pieces ≡ true → are_all (is_writable w) x n ≡ true
unfolding is_writable
writable_in_one w x n e = each (is_writable w) x n here
  where
    here : (y : ℕ) → x ≤ y → y < x + n → (if list_any (is_in y) w.pieces then list_any (is_in_with PF_W y) w.pieces else is_in_ram w y) ≡ true
    here y from below =
        let may : list_any (is_in_with PF_W y) w.pieces ≡ true = some_allows PF_W x n y w.pieces from below e in
        let inside : list_any (is_in y) w.pieces ≡ true = is_in_some PF_W y w.pieces may in
        rw inside may

-- a byte of RAM that no piece meets is in none
met : (base size y : ℕ) (piece : Piece) → base ≤ y → y < base + size → is_in y piece ≡ true → meets_ram base size piece ≡ true
met base size y piece from below e = grind (arith, nat_tests)

none_of_two : (a b c d : Bool) → (c ≡ true → a ≡ true) → (b ≡ false → d ≡ false) → (a || b) ≡ false → (c || d) ≡ false
none_of_two true b c d first second e = absurd (cc)
none_of_two false b true d first second e = absurd (let f : false ≡ true = first refl in cc)
none_of_two false b false d first second e = second e

is_in_none : (base size y : ℕ) (pieces : List Piece) → base ≤ y → y < base + size → list_any (meets_ram base size) pieces ≡ false → list_any (is_in y) pieces ≡ false
is_in_none base size y [] from below e = e
is_in_none base size y (piece ∷ pieces) from below e =
    none_of_two (meets_ram base size piece) (list_any (meets_ram base size) pieces) (is_in y piece) (list_any (is_in y) pieces)
    (met base size y piece from below) (is_in_none base size y pieces from below) e

in_ram : (base size low count x n y : ℕ) → base ≤ low → low + count ≤ base + size → low ≤ x → x + n ≤ low + count → x ≤ y → y < x + n → (nat_le base y && nat_lt y (base + size)) ≡ true
in_ram base size low count x n y a b c d e f = grind (arith, nat_tests)

pub writable_in_ram : (w : World) (bare : BareRam) (x n : ℕ) → IsBareRam w.pieces w.base w.size bare → bare.base ≤ x → x + n ≤ bare.base + bare.size → are_all (is_writable w) x n ≡ true
unfolding is_writable
writable_in_ram w bare x n is from below = each (is_writable w) x n here
  where
    here : (y : ℕ) → x ≤ y → y < x + n → (if list_any (is_in y) w.pieces then list_any (is_in_with PF_W y) w.pieces else is_in_ram w y) ≡ true
    here y after before =
        let outside : list_any (is_in y) w.pieces ≡ false = is_in_none bare.base bare.size y w.pieces (omega arith) (omega arith) is.outside in
        rw outside (in_ram w.base w.size bare.base bare.size x n y is.from is.below from below after before)

-- no piece meets nothing
meets_nothing : (base : ℕ) (piece : Piece) → meets_ram base 0 piece ≡ false
meets_nothing base piece = grind (arith, nat_tests)

none_meets : (base : ℕ) (pieces : List Piece) → list_any (meets_ram base 0) pieces ≡ false
none_meets base [] = refl
none_meets base (piece ∷ pieces) = rw (meets_nothing base piece) (none_meets base pieces)

-- no byte of RAM
pub no_bare_ram : (pieces : List Piece) (base size : ℕ) → IsBareRam pieces base size (record { base = base; size = 0 })
no_bare_ram pieces base size = record { from = omega arith; below = omega arith; outside = none_meets base pieces }
