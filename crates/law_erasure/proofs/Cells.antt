-- Cells and their bytes.
use Rattle.std.proofs.Common.{◌≡◌, ℕ, ◌+◌, ◌^◌, ◌<◌, Bool, true, false, ◌==◌, ◌||◌, nat_eq, List, [], ◌∷◌, length, map, Option, Some, None, slice_get, if◌then◌else◌, refl, sym, ap, ap₂, ◌∙◌, subst, arith}
use Rattle.std.specs.List.{list_any}
use Rattle.std.proofs.lemmas.Bool.{and_parts, eqb-true}
use Rattle.byteorder.specs.Endian.{little_bytes}
use Rattle.sq_isa.specs.Accesses.{bytes_number}
use Rattle.sq_memory.specs.Cells.{Cells, AllAgree, replaced, with_cell, with_cells}
use Rattle.law_follow.specs.Values.{Tag, Code, Part, Value, Num, Tagged, Cell, Byte, Frag, Stale, is_tagged, same_word, same_tag, is_stale, is_fragment, byte_of, is_part_of, are_parts_of, whole, cells_of}
use Rattle.law_erasure.specs.Erasure.{Erasing, IsErasedTag, IsErased, IsErasedCell}

-- the number of a word's bytes
pub word_number : (y : ℕ) → y < 2 ^ 32 → bytes_number (little_bytes 4 y) ≡ y
word_number y h = omega arith

some_same : {A : Type 0} {x y : A} → Some x ≡ Some y → x ≡ y
some_same e = cc

module _ (E : Erasing) where
  abbrev pub AreErased : List Cell → List ℕ → Type 0
  AreErased = AllAgree (IsErasedCell E)

  -- numbers are their bytes
  pub erased_numbers : (cs : List Cell) (bs : List ℕ) → list_any is_stale cs ≡ false → list_any is_fragment cs ≡ false → AreErased cs bs → bs ≡ map byte_of cs
  erased_numbers [] [] s f a = refl
  erased_numbers [] (b ∷ bs) s f a = absurd a
  erased_numbers (c ∷ cs) [] s f a = absurd a
  erased_numbers (Byte x ∷ cs) (b ∷ bs) s f a = ap₂ (λ c rest. c ∷ rest) a.0 (erased_numbers cs bs s f a.1)
  erased_numbers (Frag tag k ∷ cs) (b ∷ bs) s f a = absurd (cc)
  erased_numbers (Stale ∷ cs) (b ∷ bs) s f a = absurd (cc)

  pub bytes_erased : (bs : List ℕ) → AreErased (map Byte bs) bs
  bytes_erased [] = tt
  bytes_erased (b ∷ bs) = (refl, bytes_erased bs)

  -- the same tag
  word_is : (v w : Option ℕ) → same_word v w ≡ true → v ≡ w
  word_is None None e = refl
  word_is None (Some w) e = absurd (cc)
  word_is (Some v) None e = absurd (cc)
  word_is (Some v) (Some w) e = ap Some (eqb-true v w e)

  pub tag_is : (a b : Tag) → same_tag a b ≡ true → a ≡ b
  tag_is (Code n) (Code m) e = ap Code (eqb-true n m e)
  tag_is (Code n) (Part m w) e = absurd (cc)
  tag_is (Part n v) (Code m) e = absurd (cc)
  tag_is (Part n v) (Part m w) e = let p = and_parts (n == m) (same_word v w) e in ap₂ Part (eqb-true n m p.0) (word_is v w p.1)

  -- a tag stands for one number
  one_number : (tag : Tag) (y z : ℕ) → IsErasedTag E tag y → IsErasedTag E tag z → z ≡ y
  one_number (Code n) y z h k = k.1 ∙ sym h.1
  one_number (Part n w) y z h k = k.1 ∙ sym h.1

  -- part k of a value is byte k of its word
  part_byte : (tag : Tag) (y k : ℕ) (c : Cell) (b : ℕ) → IsErasedTag E tag y → is_part_of tag k c ≡ true → IsErasedCell E c b → slice_get (little_bytes 4 y) k ≡ Some b
  part_byte tag y k (Byte x) b h e a = absurd (cc)
  part_byte tag y k Stale b h e a = absurd (cc)
  part_byte tag y k (Frag other j) b h e a =
      let p = and_parts (same_tag tag other) (j == k) e in
      let same : tag ≡ other = tag_is tag other p.0 in
      let q : j ≡ k = eqb-true j k p.1 in
      let z : a.0 ≡ y = one_number tag y a.0 h (subst (λ t. IsErasedTag E t a.0) (sym same) a.1) in
      subst (λ i. slice_get (little_bytes 4 y) i ≡ Some b) q (subst (λ n. slice_get (little_bytes 4 n) j ≡ Some b) z a.2)

  -- these are the bytes from place k on
  abbrev AreBytesFrom : ℕ → ℕ → List ℕ → Type 0
  AreBytesFrom y k [] = Unit {0}
  AreBytesFrom y k (b ∷ bs) = (slice_get (little_bytes 4 y) k ≡ Some b) × AreBytesFrom y (k + 1) bs

  parts_bytes : (tag : Tag) (y k : ℕ) (cs : List Cell) (bs : List ℕ) → IsErasedTag E tag y → are_parts_of tag k cs ≡ true → AreErased cs bs → AreBytesFrom y k bs
  parts_bytes tag y k [] [] h e a = tt
  parts_bytes tag y k [] (b ∷ bs) h e a = absurd a
  parts_bytes tag y k (c ∷ cs) [] h e a = absurd a
  parts_bytes tag y k (c ∷ cs) (b ∷ bs) h e a =
      let p = and_parts (is_part_of tag k c) (are_parts_of tag (k + 1) cs) e in
      (part_byte tag y k c b h p.0 a.0, parts_bytes tag y (k + 1) cs bs h p.1 a.1)

  four_bytes : (y : ℕ) (bs : List ℕ) → length bs ≡ 4 → AreBytesFrom y 0 bs → bs ≡ little_bytes 4 y
  four_bytes y (a ∷ b ∷ c ∷ d ∷ []) e h =
      ap₂ (λ u us. u ∷ us) (sym (some_same h.0))
      (ap₂ (λ u us. u ∷ us) (sym (some_same h.1.0)) (ap₂ (λ u us. u ∷ us) (sym (some_same h.1.1.0)) (ap₂ (λ u us. u ∷ us) (sym (some_same h.1.1.1.0)) refl)))
  four_bytes y [] e h = absurd (cc)
  four_bytes y (a ∷ []) e h = absurd (cc)
  four_bytes y (a ∷ b ∷ []) e h = absurd (cc)
  four_bytes y (a ∷ b ∷ c ∷ []) e h = absurd (cc)
  four_bytes y (a ∷ b ∷ c ∷ d ∷ x ∷ bs) e h = absurd (omega (arith, e))

  -- a whole value's bytes are its word's
  pub whole_bytes : (cs : List Cell) (bs : List ℕ) (tag : Tag) → length bs ≡ 4 → whole cs ≡ Some tag → AreErased cs bs → (y : ℕ) × IsErasedTag E tag y × (bs ≡ little_bytes 4 y)
  whole_bytes [] bs tag l e a = absurd (cc)
  whole_bytes (Byte x ∷ cs) bs tag l e a = absurd (cc)
  whole_bytes (Stale ∷ cs) bs tag l e a = absurd (cc)
  whole_bytes (Frag first k ∷ cs) [] tag l e a = absurd a
  whole_bytes (Frag first k ∷ cs) (b ∷ bs) tag l e a = go (are_parts_of first 0 (Frag first k ∷ cs)) refl e
    where
      go : (t : Bool) → are_parts_of first 0 (Frag first k ∷ cs) ≡ t → (if t then Some first else None) ≡ Some tag → (y : ℕ) × IsErasedTag E tag y × ((b ∷ bs) ≡ little_bytes 4 y)
      go true p f =
          let same : first ≡ tag = some_same f in
          let y = a.0.0 in
          let h = a.0.1 in
          (y, subst (λ t. IsErasedTag E t y) same h, four_bytes y (b ∷ bs) l (parts_bytes first y 0 (Frag first k ∷ cs) (b ∷ bs) h p a))
      go false p f = absurd (cc)

  -- the cells of a value that is stored are its bytes
  pub stored_erased : (width : ℕ) (v : Value) (y : ℕ) → (is_tagged v ≡ true → width ≡ 4) → IsErased E v y → AreErased (cells_of width v) (little_bytes width y)
  stored_erased width (Num x) y w h = rw h (bytes_erased (little_bytes width x))
  stored_erased width (Tagged tag) y w h = rw (w refl) ((y, h, refl), ((y, h, refl), ((y, h, refl), ((y, h, refl), tt))))

-- what is stored is not stale
pub bytes_fresh : (bs : List ℕ) → list_any is_stale (map Byte bs) ≡ false
bytes_fresh [] = refl
bytes_fresh (b ∷ bs) = bytes_fresh bs

pub stored_fresh : (width : ℕ) (v : Value) → list_any is_stale (cells_of width v) ≡ false
stored_fresh width (Num x) = bytes_fresh (little_bytes width x)
stored_fresh width (Tagged tag) = refl

-- where cells that aren't stale are stored, what is stale was, and its byte is the same
module _ (E : Erasing) (P : ℕ → Type 0) (stale : Cells ℕ) where
  abbrev pub StandFor : Cells Cell → Cells ℕ → Type 0
  StandFor m n = (y : ℕ) → P y → m y ≡ Some Stale → n y ≡ stale y

  one_kept : (m : Cells Cell) (n : Cells ℕ) (x : ℕ) (c : Cell) (d : ℕ) → is_stale c ≡ false → StandFor m n → StandFor (with_cell m x c) (with_cell n x d)
  one_kept m n x c d fresh h y p e = go (nat_eq y x) e
    where
      put : (o : Option Cell) → replaced o c ≡ Some Stale → ⊥
      put None f = absurd (cc)
      put (Some was) f = let g : false ≡ true = sym fresh ∙ ap is_stale (some_same f) in cc

      go : (t : Bool) → (if t then replaced (m y) c else m y) ≡ Some Stale → (if t then replaced (n y) d else n y) ≡ stale y
      go true f = absurd (put (m y) f)
      go false f = h y p f

  pub stale_kept : (cs : List Cell) (bs : List ℕ) (m : Cells Cell) (n : Cells ℕ) (x : ℕ) → list_any is_stale cs ≡ false → AreErased E cs bs → StandFor m n → StandFor (with_cells m x cs) (with_cells n x bs)
  stale_kept [] [] m n x fresh a h = h
  stale_kept [] (b ∷ bs) m n x fresh a h = absurd a
  stale_kept (c ∷ cs) [] m n x fresh a h = absurd a
  stale_kept (c ∷ cs) (b ∷ bs) m n x fresh a h =
      let f = or_false (is_stale c) (list_any is_stale cs) fresh in
      stale_kept cs bs (with_cell m x c) (with_cell n x b) (x + 1) f.1 a.1 (one_kept m n x c b f.0 h)
    where
      or_false : (p q : Bool) → (p || q) ≡ false → (p ≡ false) × (q ≡ false)
      or_false false q e = (refl, e)
      or_false true q e = absurd (cc)
