-- What the plain machine may do at an address, by the pieces of an image.
use Rattle.std.proofs.Common.{◌≡◌, inl, inr, ℕ, zero, suc, ◌+◌, ◌-◌, ◌*◌, ◌/◌, ◌%◌, ◌^◌, ◌<◌, ◌≤◌, nat_le, nat_lt, Bool, true, false, not, ◌==◌, ◌&&◌, List, [], ◌∷◌, length, map, slice_index_or, bit_and, refl, sym, ap, ◌∙◌, subst, arith}
use Rattle.std.specs.List.{Any, list_any}
use Rattle.std.specs.Int.Bits.{and_zero_r}
use Rattle.std.proofs.lemmas.Bool.Decides.{nat_tests}
use Rattle.std.proofs.lemmas.Nat.{and_block, and_mask}
use Rattle.std.proofs.lemmas.Bool.{and_from, and_parts}
use Rattle.sq_system.specs.Starts.{Start}
use Rattle.sq_system.specs.World.{PF_X, PF_W, is_in, is_in_with, is_writable, is_executable}
use Rattle.sq_system.specs.declared.piece.Piece.{Piece}
use Rattle.sq_elf.specs.Memory.{MemoryPiece}
use Rattle.sq_machine.specs.Starts.{piece_of, world_at_start}
use Rattle.sq_run.specs.FileRuns.{start_piece}
use Rattle.sq_write.specs.Pieces.{without_x}
use Rattle.law_written.proofs.Somewhere.{Somewhere, some_changed, one_mapped, to_mapped, one_is, is_one, same_test}
use Rattle.law_written.proofs.Images.{any_all}
use Rattle.law_written.proofs.Permissions.{InWith}

-- PERMISSIONS

-- the flags have a permission
abbrev pub passes : ℕ → ℕ → Bool
passes permission flags = not (bit_and flags permission == 0)

abbrev pub always : ℕ → Bool
always flags = true

-- bit 1 is the same without bit 0
low_nothing : (r : ℕ) → r < 2 → bit_and r 0 ≡ 0
low_nothing r l = and_zero_r r

second_bit : (flags : ℕ) → bit_and (flags - flags % 2) 2 ≡ bit_and flags 2
second_bit flags =
    let a : ℕ = flags / 2 in
    let whole : flags / 2 * 2 ^ 1 + flags % 2 ≡ flags = omega arith in
    let even : flags / 2 * 2 ^ 1 + 0 ≡ flags - flags % 2 = omega arith in
    let one : bit_and (flags / 2 * 2 ^ 1 + 0) (1 * 2 ^ 1 + 0) ≡ bit_and (flags / 2) 1 * 2 ^ 1 + bit_and 0 0 = and_block 1 (flags / 2) 1 0 0 (omega arith) (omega arith) in
    let two : bit_and (flags / 2 * 2 ^ 1 + flags % 2) (1 * 2 ^ 1 + 0) ≡ bit_and (flags / 2) 1 * 2 ^ 1 + bit_and (flags % 2) 0 = and_block 1 (flags / 2) 1 (flags % 2) 0 (omega arith) (omega arith) in
    ap (λ n. bit_and n 2) (sym even) ∙ one ∙ ap (λ n. bit_and (flags / 2) 1 * 2 ^ 1 + n) (sym (low_nothing (flags % 2) (omega arith))) ∙ sym two ∙ ap (λ n. bit_and n 2) whole

first_bit : (flags : ℕ) → bit_and (flags - flags % 2) 1 ≡ 0
first_bit flags = and_mask (flags - flags % 2) 1 ∙ none
  where
    none : (flags - flags % 2) % 2 ^ 1 ≡ 0
    none = omega arith

pub writes_stay : (flags : ℕ) → passes PF_W (without_x flags) ≡ passes PF_W flags
writes_stay flags = ap (λ n. not (n == 0)) (second_bit flags)

pub never_executed : (flags : ℕ) → passes PF_X (without_x flags) ≡ false
never_executed flags = ap (λ n. not (n == 0)) (first_bit flags)

-- PIECES

abbrev plain : MemoryPiece → Piece
plain m = piece_of (start_piece m)

module _ (x : ℕ) where
  inside : (m : MemoryPiece) → is_in x (plain m) ≡ true → (m.address ≤ x) × (x < m.address + m.length)
  inside m e =
      let p = and_parts (nat_le m.address x) (nat_lt x (m.address + m.length)) e in
      (le_of m.address x p.0, lt_of x (m.address + m.length) p.1)
    where
      le_of : (a b : ℕ) → nat_le a b ≡ true → a ≤ b
      le_of a b e = grind (arith, nat_tests)

      lt_of : (a b : ℕ) → nat_lt a b ≡ true → a < b
      lt_of a b e = grind (arith, nat_tests)

  is_inside : (m : MemoryPiece) → m.address ≤ x → x < m.address + m.length → is_in x (plain m) ≡ true
  is_inside m low high = and_from (nat_le m.address x) (nat_lt x (m.address + m.length)) (le_is m.address x low) (lt_is x (m.address + m.length) high)
    where
      le_is : (a b : ℕ) → a ≤ b → nat_le a b ≡ true
      le_is a b h = grind (arith, nat_tests)

      lt_is : (a b : ℕ) → a < b → nat_lt a b ≡ true
      lt_is a b h = grind (arith, nat_tests)

  abbrev pieces : List MemoryPiece → List Piece
  pieces ms = map piece_of (map start_piece ms)

  -- some piece is so, by a test of the plain machine's pieces
  pub tested_in : (test : Piece → Bool) (ok : ℕ → Bool) (ms : List MemoryPiece) → ((m : MemoryPiece) → test (plain m) ≡ true → InWith ok x m) → list_any test (pieces ms) ≡ true → Somewhere (InWith ok x) ms
  tested_in test ok ms f e =
      some_changed (λ m. Unit {0}) (λ m. test (plain m) ≡ true) (InWith ok x) ms (any_all ms) (λ m all h. f m h)
      (one_mapped (λ q. test (piece_of q) ≡ true) start_piece ms (one_mapped (λ q. test q ≡ true) piece_of (map start_piece ms) (one_is test (pieces ms) e)))

  pub in_tested : (test : Piece → Bool) (ok : ℕ → Bool) (ms : List MemoryPiece) → ((m : MemoryPiece) → InWith ok x m → test (plain m) ≡ true) → Somewhere (InWith ok x) ms → list_any test (pieces ms) ≡ true
  in_tested test ok ms f h =
      is_one test (pieces ms)
      (to_mapped (λ q. test q ≡ true) piece_of (map start_piece ms)
      (to_mapped (λ q. test (piece_of q) ≡ true) start_piece ms
      (some_changed (λ m. Unit {0}) (InWith ok x) (λ m. test (plain m) ≡ true) ms (any_all ms) (λ m all k. f m k) h)))

  with_in : (permission : ℕ) (m : MemoryPiece) → is_in_with permission x (plain m) ≡ true → InWith (passes permission) x m
  with_in permission m e =
      let p = and_parts (is_in x (plain m)) (not (bit_and m.flags permission == 0)) e in
      let i = inside m p.0 in (i.0, i.1, p.1)

  in_with : (permission : ℕ) (m : MemoryPiece) → InWith (passes permission) x m → is_in_with permission x (plain m) ≡ true
  in_with permission m h = and_from (is_in x (plain m)) (not (bit_and m.flags permission == 0)) (is_inside m h.0 h.1) h.2

  pub executable_in : (start : Start) (ms : List MemoryPiece) → is_executable (world_at_start (map start_piece ms) start) x ≡ true → Somewhere (InWith (passes PF_X) x) ms
  unfolding is_executable
  executable_in start ms e = tested_in (is_in_with PF_X x) (passes PF_X) ms (with_in PF_X) e

  pub in_executable : (start : Start) (ms : List MemoryPiece) → Somewhere (InWith (passes PF_X) x) ms → is_executable (world_at_start (map start_piece ms) start) x ≡ true
  unfolding is_executable
  in_executable start ms h = in_tested (is_in_with PF_X x) (passes PF_X) ms (in_with PF_X) h

  -- two images with bytes at the same places, which may be written alike
  pub writable_same : (start : Start) (ms ns : List MemoryPiece) → (Somewhere (InWith always x) ms → Somewhere (InWith always x) ns) → (Somewhere (InWith always x) ns → Somewhere (InWith always x) ms) → (Somewhere (InWith (passes PF_W) x) ms → Somewhere (InWith (passes PF_W) x) ns) → (Somewhere (InWith (passes PF_W) x) ns → Somewhere (InWith (passes PF_W) x) ms) → is_writable (world_at_start (map start_piece ms) start) x ≡ is_writable (world_at_start (map start_piece ns) start) x
  unfolding is_writable
  writable_same start ms ns there back may might =
      rw (
        same_test (list_any (is_in x) (pieces ms)) (list_any (is_in x) (pieces ns)) (λ e. to_any ns (there (any_in ms e))) (λ e. to_any ms (back (any_in ns e))),
        same_test (list_any (is_in_with PF_W x) (pieces ms)) (list_any (is_in_with PF_W x) (pieces ns)) (λ e. to_with ns (may (with_any ms e))) (λ e. to_with ms (might (with_any ns e))),
      ) refl
    where
      any_in : (ms : List MemoryPiece) → list_any (is_in x) (pieces ms) ≡ true → Somewhere (InWith always x) ms
      any_in ms e = tested_in (is_in x) always ms (λ m h. let i = inside m h in (i.0, i.1, refl)) e

      to_any : (ms : List MemoryPiece) → Somewhere (InWith always x) ms → list_any (is_in x) (pieces ms) ≡ true
      to_any ms h = in_tested (is_in x) always ms (λ m k. is_inside m k.0 k.1) h

      with_any : (ms : List MemoryPiece) → list_any (is_in_with PF_W x) (pieces ms) ≡ true → Somewhere (InWith (passes PF_W) x) ms
      with_any ms e = tested_in (is_in_with PF_W x) (passes PF_W) ms (with_in PF_W) e

      to_with : (ms : List MemoryPiece) → Somewhere (InWith (passes PF_W) x) ms → list_any (is_in_with PF_W x) (pieces ms) ≡ true
      to_with ms h = in_tested (is_in_with PF_W x) (passes PF_W) ms (in_with PF_W) h

-- `Any` is `Somewhere`
module _ {X : Type 0} (P : X → Type 0) where
  pub any_somewhere : (xs : List X) → Any P xs → Somewhere P xs
  any_somewhere xs a = go xs a.0 a.1 a.2 a.3 a.4
    where
      go : (xs : List X) (k : ℕ) (x : X) → k < length xs → slice_index_or xs k x ≡ x → P x → Somewhere P xs
      go [] k x l e p = absurd (omega (arith, l))
      go (y ∷ ys) zero x l e p = inl (subst P (sym e) p)
      go (y ∷ ys) (suc k) x l e p = inr (go ys k x (omega (arith, l)) e p)

  pub somewhere_any : (xs : List X) → Somewhere P xs → Any P xs
  somewhere_any [] h = absurd h
  somewhere_any (y ∷ ys) (inl p) = (0, y, omega arith, refl, p)
  somewhere_any (y ∷ ys) (inr h) =
      let r = somewhere_any ys h in
      let l = r.2 in
      (suc r.0, r.1, omega (arith, l), r.3, r.4)
