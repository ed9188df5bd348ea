-- Loads and stores of memories that agree.
use Rattle.std.proofs.Common.{◌≡◌, ◌≢◌, ℕ, zero, suc, ◌+◌, ◌-◌, ◌%◌, ◌^◌, ◌<◌, ◌≤◌, Bool, true, false, ◌⊎◌, inl, inr, List, [], ◌∷◌, length, map, Option, Some, None, IsSome, slice_get, nat_eq, nat_le, if◌then◌else◌, refl, sym, ap, ap₂, ◌∙◌, subst, ⊎_elim, arith}
use Rattle.std.specs.List.{list_any}
use Rattle.std.proofs.lemmas.Bool.{and_parts, cases_eq}
use Rattle.std.proofs.lemmas.Bool.Decides.{nat_tests}
use Rattle.sq_isa.specs.Accesses.{load_width, extended, bytes_number}
use Rattle.sq_isa.specs.declared.instructions.LoadKind.{LoadKind}
use Rattle.sq_isa.specs.declared.instructions.LoadKind.TheVariants.{Lb, Lh, Lw, Lbu, Lhu}
use Rattle.sq_memory.specs.Cells.{Cells, cells_from, with_cells, ArePresent, Agree, AllAgree}
use Rattle.sq_memory.proofs.RangeLaws.{with_cells-inside, with_cells-present, with_cells-agree, cells_from_some, cells_from-apart, cells_from_present, cells_from-with_cells}
use Rattle.law_runs.specs.Runs.{Next, Broke}
use Rattle.law_runs.specs.Simulation.{Matches}
use Rattle.sq_system.specs.declared.event.Event.{Event}
use Rattle.sq_system.specs.declared.event.Halt.{Halt}
use Rattle.law_follow.specs.declared.kind.Kind.{Kind}
use Rattle.law_follow.specs.declared.kind.Kind.TheVariants.{Fragment, Stale as StaleByte}
use Rattle.law_follow.specs.Values.{Tag, Code, Part, Value, Num, Tagged, Cell, Byte, Frag, Stale, is_stale, is_fragment, byte_of, same_word, same_tag, is_part_of, are_parts_of, whole, cells_of}
use Rattle.law_follow.specs.Settings.{Setting, Made}
use Rattle.law_follow.specs.Accesses.{Step, with_loaded, with_tag_or_number, tag_in}
use Rattle.law_patch.specs.Agreement.{Ties, SameTag, SameValue, SameCell, LoadsWord, SameMemory, SameMade, IsTied}

-- cases on one test on both sides
pub if_rel : {A B : Type 0} (R : A → B → Type 0) (b c : Bool) (x y : A) (x' y' : B) → c ≡ b → (b ≡ true → R x x') → (b ≡ false → R y y') → R (if b then x else y) (if c then x' else y')
if_rel R true true x y x' y' e h k = h refl
if_rel R false false x y x' y' e h k = k refl
if_rel R true false x y x' y' e h k = absurd (cc)
if_rel R false true x y x' y' e h k = absurd (cc)

-- cells without a stale byte and without a part are numbers, the same on both sides
pub same_numbers : (cs ds : List Cell) → list_any is_stale cs ≡ false → list_any is_fragment cs ≡ false → AllAgree SameCell cs ds → ds ≡ cs
same_numbers [] [] s f a = refl
same_numbers [] (d ∷ ds) s f a = absurd a
same_numbers (c ∷ cs) [] s f a = absurd a
same_numbers (Byte x ∷ cs) (d ∷ ds) s f a = ap₂ (λ c rest. c ∷ rest) a.0 (same_numbers cs ds s f a.1)
same_numbers (Frag tag k ∷ cs) (d ∷ ds) s f a = absurd (cc)
same_numbers (Stale ∷ cs) (d ∷ ds) s f a = absurd (cc)

-- Loads of cells

module _ (P : ℕ → Type 0) (T : Ties) where
  -- where a load of the first cells finds a tagged value, a load of the second finds one that is tied to it
  abbrev pub FindsTied : LoadKind → List Cell → List Cell → Type 0
  FindsTied kind cs ds = (tag : Tag) → tag_in kind cs ≡ Some tag → (value : Value) × SameTag T tag value × ((go : Value → Step) → with_loaded kind ds go ≡ go value)

  -- a test that breaks the first run
  pub if_broke : {A : Type 0} (R : Made → A → Type 0) (b : Bool) (kind : Kind) (x : Step) (y : Next Event Halt Kind A) → (b ≡ false → Matches R x y) → Matches R (if b then Broke kind else x) y
  if_broke R true kind x y h = tt
  if_broke R false kind x y h = h refl

  finds_number : (kind : LoadKind) (cs : List Cell) (go : Value → Step) → list_any is_stale cs ≡ false → list_any is_fragment cs ≡ false → tag_in kind cs ≡ None → with_loaded kind cs go ≡ go (Num (extended kind (bytes_number (map byte_of cs))))
  finds_number kind cs go stale fragment none = rw (stale, none, fragment) refl

  tag_or_number : (kind : LoadKind) (cs ds : List Cell) (go go' : Value → Step) (found : Option Tag) → tag_in kind cs ≡ found → list_any is_stale cs ≡ false → AllAgree SameCell cs ds → FindsTied kind cs ds → ((a b : Value) → SameValue T a b → Matches (SameMade P T) (go a) (go' b)) → Matches (SameMade P T) (with_tag_or_number kind cs go found) (with_loaded kind ds go')
  tag_or_number kind cs ds go go' (Some tag) e stale agree tied k =
      let t = tied tag e in rw (t.2 go') (k (Tagged tag) t.0 t.1)
  tag_or_number kind cs ds go go' None e stale agree tied k =
      if_broke (SameMade P T) (list_any is_fragment cs) Fragment (go (Num (extended kind (bytes_number (map byte_of cs))))) (with_loaded kind ds go')
      (λ f. rw (same_numbers cs ds stale f agree, finds_number kind cs go' stale f e) (k (Num (extended kind (bytes_number (map byte_of cs)))) (Num (extended kind (bytes_number (map byte_of cs)))) refl))

  pub with_loaded_rel : (kind : LoadKind) (cs ds : List Cell) (go go' : Value → Step) → AllAgree SameCell cs ds → FindsTied kind cs ds → ((a b : Value) → SameValue T a b → Matches (SameMade P T) (go a) (go' b)) → Matches (SameMade P T) (with_loaded kind cs go) (with_loaded kind ds go')
  with_loaded_rel kind cs ds go go' agree tied k =
      if_broke (SameMade P T) (list_any is_stale cs) StaleByte (with_tag_or_number kind cs go (tag_in kind cs)) (with_loaded kind ds go')
      (λ e. tag_or_number kind cs ds go go' (tag_in kind cs) refl e agree tied k)

  -- at an aligned address the memories give what a load finds
  pub word_tied : (m n : Cells Cell) (x : ℕ) (cs ds : List Cell) → SameMemory P T m n → x % 4 ≡ 0 → ((i : ℕ) → i < 4 → P (x + i)) → cells_from m x 4 ≡ Some cs → cells_from n x 4 ≡ Some ds → FindsTied Lw cs ds
  word_tied m n x cs ds s al inside e d tag w =
      let t = s.words x al inside cs e tag w in
      let same : t.2.cells ≡ ds = let f : Some t.2.cells ≡ Some ds = sym t.2.there ∙ d in cc in
      (t.0, t.1, λ go. subst (λ cells. with_loaded Lw cells go ≡ go t.0) same (t.2.loads go))

  pub tied_by_kind : (kind : LoadKind) (m n : Cells Cell) (x : ℕ) (cs ds : List Cell) → SameMemory P T m n → x % load_width kind ≡ 0 → ((i : ℕ) → i < load_width kind → P (x + i)) → cells_from m x (load_width kind) ≡ Some cs → cells_from n x (load_width kind) ≡ Some ds → FindsTied kind cs ds
  tied_by_kind Lb m n x cs ds s al inside e d = λ tag w. absurd (cc)
  tied_by_kind Lh m n x cs ds s al inside e d = λ tag w. absurd (cc)
  tied_by_kind Lw m n x cs ds s al inside e d = word_tied m n x cs ds s al inside e d
  tied_by_kind Lbu m n x cs ds s al inside e d = λ tag w. absurd (cc)
  tied_by_kind Lhu m n x cs ds s al inside e d = λ tag w. absurd (cc)

-- Stores

same_word_itself : (w : Option ℕ) → same_word w w ≡ true
same_word_itself None = refl
same_word_itself (Some w) = grind (arith, nat_tests)

same_tag_itself : (tag : Tag) → same_tag tag tag ≡ true
same_tag_itself (Code n) = grind (arith, nat_tests)
same_tag_itself (Part n w) = let e : nat_eq n n ≡ true = grind (arith, nat_tests) in rw (e, same_word_itself w) refl

-- the four parts of a value make it whole
pub whole_of_parts : (tag : Tag) → whole (cells_of 4 (Tagged tag)) ≡ Some tag
whole_of_parts tag = rw (same_tag_itself tag) refl

-- a number among cells makes no value whole
parts_are : (tag : Tag) (k : ℕ) (cs : List Cell) (i x : ℕ) → slice_get cs i ≡ Some (Byte x) → are_parts_of tag k cs ≡ true → ⊥
parts_are tag k [] i x e h = absurd (cc)
parts_are tag k (c ∷ cs) zero x e h = let f : c ≡ Byte x = let g : Some c ≡ Some (Byte x) = e in cc in let h' = (and_parts (is_part_of tag k c) (are_parts_of tag (k + 1) cs) h).0 in let h'' : is_part_of tag k (Byte x) ≡ true = subst (λ d. is_part_of tag k d ≡ true) f h' in absurd (cc)
parts_are tag k (c ∷ cs) (suc i) x e h = parts_are tag (k + 1) cs i x e (and_parts (is_part_of tag k c) (are_parts_of tag (k + 1) cs) h).1

none_if : (b : Bool) (tag : Tag) → (b ≡ true → ⊥) → (if b then Some tag else None) ≡ None
none_if true tag h = absurd (h refl)
none_if false tag h = refl

pub whole_with_number : (cs : List Cell) (i x : ℕ) → slice_get cs i ≡ Some (Byte x) → whole cs ≡ None
whole_with_number [] i x e = refl
whole_with_number (Byte b ∷ cs) i x e = refl
whole_with_number (Frag tag k ∷ cs) i x e = none_if (are_parts_of tag 0 (Frag tag k ∷ cs)) tag (parts_are tag 0 (Frag tag k ∷ cs) i x e)
whole_with_number (Stale ∷ cs) i x e = refl

-- bytes are the same on both sides
same_bytes : (bs : List ℕ) → AllAgree SameCell (map Byte bs) (map Byte bs)
same_bytes [] = tt
same_bytes (b ∷ bs) = (refl, same_bytes bs)

length_of_map : {A B : Type 0} (f : A → B) (xs : List A) → length (map f xs) ≡ length xs
length_of_map f [] = refl
length_of_map f (x ∷ xs) = ap suc (length_of_map f xs)

byte_in : (bs : List ℕ) (i : ℕ) → i < length bs → (x : ℕ) × (slice_get (map Byte bs) i ≡ Some (Byte x))
byte_in [] i l = absurd (omega arith)
byte_in (b ∷ bs) zero l = (b, refl)
byte_in (b ∷ bs) (suc i) l = byte_in bs i (omega arith)

-- a word that a stored byte is in is no tagged value
whole_over_bytes : (bs : List ℕ) (m : Cells Cell) (x y i : ℕ) (cs : List Cell) → cells_from (with_cells m x (map Byte bs)) y 4 ≡ Some cs → i < 4 → x ≤ y + i → y + i < x + length bs → whole cs ≡ None
whole_over_bytes bs m x y i cs e l from below =
    let some = cells_from_some 4 (with_cells m x (map Byte bs)) y cs e in
    let at : y + i ≡ x + (y + i - x) = omega arith in
    let inside : y + i - x < length bs = omega arith in
    let b = byte_in bs (y + i - x) inside in
    let there : IsSome (with_cells m x (map Byte bs) (y + i)) = cells_from_present 4 (with_cells m x (map Byte bs)) y (rw e refl) i l in
    let there' : IsSome (m (x + (y + i - x))) = sym (with_cells-present (map Byte bs) m x (x + (y + i - x))) ∙ subst (λ z. IsSome (with_cells m x (map Byte bs) z)) at there in
    let here = with_cells-inside (map Byte bs) m x (y + i - x) (rw (length_of_map Byte bs) inside) there' in
    whole_with_number cs i b.0 (sym (some.1 i l) ∙ subst (λ z. with_cells m x (map Byte bs) z ≡ slice_get (map Byte bs) (y + i - x)) (sym at) here ∙ b.1)

-- where a range of bytes meets a word
pub data Meeting (x n y : ℕ) : Type 0 where
  meets_at : (i : ℕ) → i < 4 → x ≤ y + i → y + i < x + n → Meeting x n y
  apart : (y + 4 ≤ x) ⊎ (x + n ≤ y) → Meeting x n y
  nothing : n ≡ 0 → Meeting x n y

pub by_test : {A : Type 0} (b : Bool) → (b ≡ true → A) → (b ≡ false → A) → A
by_test true h k = h refl
by_test false h k = k refl

meeting : (x n y : ℕ) → Meeting x n y
meeting x zero y = nothing refl
meeting x (suc n) y =
    by_test (nat_le (y + 4) x) (λ e. apart (inl (grind (arith, nat_tests))))
    (λ e. by_test (nat_le (x + suc n) y) (λ f. apart (inr (grind (arith, nat_tests))))
    (λ f. by_test (nat_le x y) (λ g. meets_at 0 (omega arith) (grind (arith, nat_tests)) (grind (arith, nat_tests)))
    (λ g. meets_at (x - y) (grind (arith, nat_tests)) (grind (arith, nat_tests)) (grind (arith, nat_tests)))))

no_value : {A : Type 0} (o : Option Tag) (tag : Tag) → o ≡ Some tag → o ≡ None → A
no_value o tag e f = absurd (let g : None ≡ Some tag = sym f ∙ e in cc)

apart_cells : (ds : List Cell) (m : Cells Cell) (x n y : ℕ) → length ds ≡ n → (y + 4 ≤ x) ⊎ (x + n ≤ y) → cells_from (with_cells m x ds) y 4 ≡ cells_from m y 4
apart_cells ds m x n y l h = cells_from-apart ds m x y 4 (subst (λ k. (y + 4 ≤ x) ⊎ (x + k ≤ y)) (sym l) h)

no_cells : (ds : List Cell) → length ds ≡ 0 → (m : Cells Cell) (x : ℕ) → with_cells m x ds ≡ m
no_cells [] l m x = refl
no_cells (d ∷ ds) l m x = absurd (omega arith)

module _ (P : ℕ → Type 0) (T : Ties) where
  -- a word that a store is apart from
  word_apart : (m n : Cells Cell) (x k y : ℕ) (cs ds : List Cell) → length cs ≡ k → length ds ≡ k → SameMemory P T m n → y % 4 ≡ 0 → ((i : ℕ) → i < 4 → P (y + i)) → (y + 4 ≤ x) ⊎ (x + k ≤ y) → (found : List Cell) → cells_from (with_cells m x cs) y 4 ≡ Some found → (tag : Tag) → whole found ≡ Some tag → (value : Value) × SameTag T tag value × LoadsWord (with_cells n x ds) y value
  word_apart m n x k y cs ds lc ld s al inside h found e tag w =
      let t = s.words y al inside found (sym (apart_cells cs m x k y lc h) ∙ e) tag w in
      (t.0, t.1, record { cells = t.2.cells; there = apart_cells ds n x k y ld h ∙ t.2.there; loads = t.2.loads })

  word_over_bytes : (m n : Cells Cell) (x : ℕ) (bs : List ℕ) (y : ℕ) → SameMemory P T m n → y % 4 ≡ 0 → ((i : ℕ) → i < 4 → P (y + i)) → (found : List Cell) → cells_from (with_cells m x (map Byte bs)) y 4 ≡ Some found → (tag : Tag) → whole found ≡ Some tag → Meeting x (length bs) y → (value : Value) × SameTag T tag value × LoadsWord (with_cells n x (map Byte bs)) y value
  word_over_bytes m n x bs y s al inside found e tag w (meets_at i l from below) = no_value (whole found) tag w (whole_over_bytes bs m x y i found e l from below)
  word_over_bytes m n x bs y s al inside found e tag w (apart h) = word_apart m n x (length bs) y (map Byte bs) (map Byte bs) (length_of_map Byte bs) (length_of_map Byte bs) s al inside h found e tag w
  word_over_bytes m n x bs y s al inside found e tag w (nothing z) =
      let none : length (map Byte bs) ≡ 0 = length_of_map Byte bs ∙ z in
      let t = s.words y al inside found (sym (ap (λ m. cells_from m y 4) (no_cells (map Byte bs) none m x)) ∙ e) tag w in
      (t.0, t.1, record { cells = t.2.cells; there = ap (λ m. cells_from m y 4) (no_cells (map Byte bs) none n x) ∙ t.2.there; loads = t.2.loads })

  -- memories agree after a store of bytes
  pub bytes_stored_rel : (m n : Cells Cell) (x : ℕ) (bs : List ℕ) → SameMemory P T m n → SameMemory P T (with_cells m x (map Byte bs)) (with_cells n x (map Byte bs))
  bytes_stored_rel m n x bs s = record {
    cells = with_cells-agree P SameCell (map Byte bs) (map Byte bs) m n x (same_bytes bs) s.cells;
    words = λ y al inside found e tag w. word_over_bytes m n x bs y s al inside found e tag w (meeting x (length bs) y);
  }

-- the number of the four bytes of a word
word_number : (x : ℕ) → x < 2 ^ 32 → bytes_number (map byte_of (cells_of 4 (Num x))) ≡ x
word_number x l = omega arith

-- a load finds the value whose cells were stored
loads_stored : (value : Value) → ((x : ℕ) → value ≡ Num x → x < 2 ^ 32) → (go : Value → Step) → with_loaded Lw (cells_of 4 value) go ≡ go value
loads_stored (Num x) l go = rw (word_number x (l x refl)) refl
loads_stored (Tagged tag) l go = rw (whole_of_parts tag) refl

parts_agree : (tag : Tag) (value : Value) → AllAgree SameCell (cells_of 4 (Tagged tag)) (cells_of 4 value)
parts_agree tag (Num x) = (tt, (tt, (tt, (tt, tt))))
parts_agree tag (Tagged other) = (tt, (tt, (tt, (tt, tt))))

four_cells : (value : Value) → length (cells_of 4 value) ≡ 4
four_cells (Num x) = refl
four_cells (Tagged tag) = refl

some_there : {A B : Type 0} (R : A → B → Type 0) (o : Option A) (p : Option B) → Agree R o p → IsSome o → IsSome p
some_there R None None h e = e
some_there R None (Some b) h e = refl
some_there R (Some a) None h e = absurd h
some_there R (Some a) (Some b) h e = refl

module _ (P : ℕ → Type 0) (T : Ties) (s : Setting) (laws : IsTied P T s) where
  tied_number : (tag : Tag) (value : Value) → SameTag T tag value → (x : ℕ) → value ≡ Num x → x < 2 ^ 32
  tied_number (Code n) (Num y) h x e = absurd h
  tied_number (Code n) (Tagged tag) h x e = absurd (cc)
  tied_number (Part n word) value h x e = laws.numbers n word x (subst (λ v. T.part n word v) e h)

  -- the stored word itself
  stored_word : (m n : Cells Cell) (x : ℕ) (tag : Tag) (value : Value) → SameTag T tag value → SameMemory P T m n → ((i : ℕ) → i < 4 → P (x + i)) → (found : List Cell) → cells_from (with_cells m x (cells_of 4 (Tagged tag))) x 4 ≡ Some found → (other : Tag) → whole found ≡ Some other → (v : Value) × SameTag T other v × LoadsWord (with_cells n x (cells_of 4 value)) x v
  stored_word m n x tag value t s inside found e other w =
      let was : ArePresent (with_cells m x (cells_of 4 (Tagged tag))) x 4 = cells_from_present 4 (with_cells m x (cells_of 4 (Tagged tag))) x (rw e refl) in
      let old : ArePresent m x 4 = λ i l. sym (with_cells-present (cells_of 4 (Tagged tag)) m x (x + i)) ∙ was i l in
      let new : ArePresent n x 4 = λ i l. some_there SameCell (m (x + i)) (n (x + i)) (s.cells (x + i) (inside i l)) (old i l) in
      let here : cells_from (with_cells m x (cells_of 4 (Tagged tag))) x 4 ≡ Some (cells_of 4 (Tagged tag)) = cells_from-with_cells (cells_of 4 (Tagged tag)) m x old in
      let there : cells_from (with_cells n x (cells_of 4 value)) x 4 ≡ Some (cells_of 4 value) = subst (λ k. cells_from (with_cells n x (cells_of 4 value)) x k ≡ Some (cells_of 4 value)) (four_cells value) (cells_from-with_cells (cells_of 4 value) n x (subst (λ k. ArePresent n x k) (sym (four_cells value)) new)) in
      let found_is : found ≡ cells_of 4 (Tagged tag) = let f : Some found ≡ Some (cells_of 4 (Tagged tag)) = sym e ∙ here in cc in
      let same : other ≡ tag = let f : Some other ≡ Some tag = sym w ∙ ap whole found_is ∙ whole_of_parts tag in cc in
      (value, subst (λ k. SameTag T k value) (sym same) t, record { cells = cells_of 4 value; there = there; loads = loads_stored value (tied_number tag value t) })

  words_apart : (x y : ℕ) → x % 4 ≡ 0 → y % 4 ≡ 0 → y ≢ x → (y + 4 ≤ x) ⊎ (x + 4 ≤ y)
  words_apart x y a b ne = by_test (nat_le (y + 4) x) (λ e. inl (grind (arith, nat_tests))) (λ e. inr (grind (arith, nat_tests)))

  -- memories agree after a store of a tagged value in a word
  pub tag_stored_rel : (m n : Cells Cell) (x : ℕ) (tag : Tag) (value : Value) → x % 4 ≡ 0 → SameTag T tag value → SameMemory P T m n → SameMemory P T (with_cells m x (cells_of 4 (Tagged tag))) (with_cells n x (cells_of 4 value))
  tag_stored_rel m n x tag value al t s = record {
    cells = with_cells-agree P SameCell (cells_of 4 (Tagged tag)) (cells_of 4 value) m n x (parts_agree tag value) s.cells;
    words = λ y al' inside found e other w. ⊎_elim
        (λ (same : y ≡ x). let inside' = subst (λ z. (i : ℕ) → i < 4 → P (z + i)) same inside in
        subst (λ z. (v : Value) × SameTag T other v × LoadsWord (with_cells n x (cells_of 4 value)) z v) (sym same) (stored_word m n x tag value t s inside' found (subst (λ z. cells_from (with_cells m x (cells_of 4 (Tagged tag))) z 4 ≡ Some found) same e) other w))
        (λ ne. word_apart P T m n x 4 y (cells_of 4 (Tagged tag)) (cells_of 4 value) refl (four_cells value) s al' inside (words_apart x y al al' ne) found e other w)
        (cases_eq y x);
  }
