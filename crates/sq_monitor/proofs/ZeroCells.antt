-- Zeros that are laid one by one, by pages, and all.
use Rattle.std.proofs.Common.{◌≡◌, ℕ, ◌+◌, ◌*◌, ◌<◌, ◌≤◌, ◌/◌, ◌%◌, Bool, true, false, ◌&&◌, ◌||◌, nat_eq, nat_le, nat_lt, min, max, List, length, take, get_or, Option, Some, None, IsSome, if◌then◌else◌, option_map, refl, sym, ap, subst, ◌∙◌, arith}
use Rattle.std.proofs.lemmas.Bool.Decides.{nat_tests}
use Rattle.std.specs.Option.{option_or}
use Rattle.std.specs.HashSet as set
use Rattle.std.proofs.lemmas.Bool.{or_left, or_right}
use Rattle.sq_memory.specs.Cells.{Cells, map_cells}
use Rattle.sq_memory.specs.Regions.{or_else}
use Rattle.sq_pages.specs.Pages.{over, one_cell, same_cell}
use Rattle.sq_pages.proofs.Laying.{or_none, or_same, over_twice, page_more}
use Rattle.sq_reloc.specs.Outside.{code_word_at, is_stale, word_start}
use Rattle.law_follow.specs.Values.{Cell, Byte}
use Rattle.sq_reloc.specs.declared.mark.CodeWord.{CodeWord}
use Rattle.sq_reloc.specs.CodeWords.{listed_at}
use Rattle.sq_tagged.specs.declared.values.Cell.{Cell as RustCell}
use Rattle.sq_tagged.specs.declared.values.Cell.TheVariants.{Byte as ByteOf}
use Rattle.sq_tagged.specs.Views.{cell_of}
use Rattle.sq_monitor.proofs.FirstCells.{no_word, listed_more}
use Rattle.sq_monitor.specs.FileCells.{part_or, stale_or, file_cell}
use Rattle.sq_monitor.specs.Zeros.{PageSet, is_on, HasWords, HasMarks, zero_cells, marked_zeros}

or_map : {C D : Type 0} (f : C → D) (o p : Option C) → option_map f (or_else o p) ≡ or_else (option_map f o) (option_map f p)
or_map f None p = refl
or_map f (Some c) p = refl

-- a function over the cells of contents over others
pub map_over : {C D : Type 0} (f : C → D) (m r : Cells C) → map_cells f (over m r) ≡ over (map_cells f m) (map_cells f r)
map_over f m r = λ i x. or_map f (m x) (r x) i

some_if : {C D : Type 0} (f : C → D) (b : Bool) (c : C) → option_map f (if b then Some c else None) ≡ (if b then Some (f c) else None)
some_if f true c = refl
some_if f false c = refl

pub map_one : {C D : Type 0} (f : C → D) (at : ℕ) (c : C) → map_cells f (one_cell at c) ≡ one_cell at (f c)
map_one f at c = λ i x. some_if f (nat_eq x at) c i

pub map_same : {C D : Type 0} (f : C → D) (low high : ℕ) (c : C) → map_cells f (same_cell low high c) ≡ same_cell low high (f c)
map_same f low high c = λ i x. some_if f (nat_le low x && nat_lt x high) c i

-- one cell more
one_more : (low at x : ℕ) → low ≤ at → ((nat_le low x && nat_lt x at) || nat_eq x at) ≡ (nat_le low x && nat_lt x (at + 1))
one_more low at x h = grind arith

zero_at : (bytes : List ℕ) (p : Bool) (at x : ℕ) (b : Bool) → nat_eq x at ≡ b →
    or_else (if p then Some (file_cell bytes x 0) else None) (if b then Some (file_cell bytes at 0) else None) ≡ (if p || b then Some (file_cell bytes x 0) else None)
zero_at bytes true at x b e = refl
zero_at bytes false at x false e = refl
zero_at bytes false at x true e = let same : x ≡ at = grind (arith, nat_tests) in ap (λ y. Some (file_cell bytes y 0)) (sym same)

pub zero_more : (bytes : List ℕ) (low at : ℕ) → low ≤ at → over (zero_cells bytes low at) (one_cell at (file_cell bytes at 0)) ≡ zero_cells bytes low (at + 1)
zero_more bytes low at h = λ i x.
    (zero_at bytes (nat_le low x && nat_lt x at) at x (nat_eq x at) refl ∙ ap (λ b. if b then Some (file_cell bytes x 0) else None) (one_more low at x h)) i

same_until : (low high at x : ℕ) → high ≤ at → at ≤ max low high → (nat_le low x && nat_lt x at) ≡ (nat_le low x && nat_lt x high)
same_until low high at x h k = grind arith

pub zero_end : (bytes : List ℕ) (low high at : ℕ) → high ≤ at → at ≤ max low high → zero_cells bytes low at ≡ zero_cells bytes low high
zero_end bytes low high at h k = λ i x. ap (λ b. if b then Some (file_cell bytes x 0) else None) (same_until low high at x h k) i

-- one page more
in_both : (p q m : Bool) → ((p && m) || (q && m)) ≡ ((p || q) && m)
in_both true q true = refl
in_both false q true = refl
in_both true true false = refl
in_both true false false = refl
in_both false true false = refl
in_both false false false = refl

-- the addresses on one page more
pub marked_more : (bytes : List ℕ) (pages : PageSet) (low high q : ℕ) →
    over (marked_zeros bytes pages low (min high q)) (marked_zeros bytes pages (max low q) (min high (q + 4096))) ≡ marked_zeros bytes pages low (min high (q + 4096))
marked_more bytes pages low high q = λ i x.
    (or_same ((nat_le low x && nat_lt x (min high q)) && is_on pages x) ((nat_le (max low q) x && nat_lt x (min high (q + 4096))) && is_on pages x) (file_cell bytes x 0)
    ∙ ap (λ b. if b then Some (file_cell bytes x 0) else None)
    (in_both (nat_le low x && nat_lt x (min high q)) (nat_le (max low q) x && nat_lt x (min high (q + 4096))) (is_on pages x)
    ∙ ap (λ b. b && is_on pages x) (page_more low high q x))) i

within_page : (p low high x : ℕ) → 4096 * p ≤ low → high ≤ 4096 * p + 4096 → (nat_le low x && nat_lt x high) ≡ true → x / 4096 ≡ p
within_page p low high x from to h =
    let least : low ≤ x = grind arith in
    let most : x < high = grind arith in
    omega arith

-- on a marked page all are marked, and on another one none
pub marked_page : (bytes : List ℕ) (pages : PageSet) (p low high : ℕ) → 4096 * p ≤ low → high ≤ 4096 * p + 4096 → set.contains nat_eq pages p ≡ true →
    zero_cells bytes low high ≡ marked_zeros bytes pages low high
marked_page bytes pages p low high from to has = λ i x. ap (λ b. if b then Some (file_cell bytes x 0) else None) (tell x (nat_le low x && nat_lt x high) refl) i
  where
    tell : (x : ℕ) (r : Bool) → (nat_le low x && nat_lt x high) ≡ r → r ≡ (r && is_on pages x)
    tell x true e = sym (ap (set.contains nat_eq pages) (within_page p low high x from to e) ∙ has)
    tell x false e = refl

pub unmarked_page : (bytes : List ℕ) (pages : PageSet) (m : Cells Cell) (p low high : ℕ) → 4096 * p ≤ low → high ≤ 4096 * p + 4096 → set.contains nat_eq pages p ≡ false →
    m ≡ over m (marked_zeros bytes pages low high)
unmarked_page bytes pages m p low high from to has = λ i x.
    (sym (or_none (m x)) ∙ ap (λ b. or_else (m x) (if b then Some (file_cell bytes x 0) else None)) (tell x (nat_le low x && nat_lt x high) refl)) i
  where
    tell : (x : ℕ) (r : Bool) → (nat_le low x && nat_lt x high) ≡ r → false ≡ (r && is_on pages x)
    tell x true e = sym (ap (set.contains nat_eq pages) (within_page p low high x from to e) ∙ has)
    tell x false e = refl

none_before : (low q x : ℕ) → q ≤ low → (nat_le low x && nat_lt x q) ≡ false
none_before low q x h = grind arith

pub marked_none : (bytes : List ℕ) (pages : PageSet) (m : Cells Cell) (low q : ℕ) → q ≤ low → m ≡ over m (marked_zeros bytes pages low q)
marked_none bytes pages m low q h = λ i x.
    (sym (or_none (m x)) ∙ ap (λ b. or_else (m x) (if b && is_on pages x then Some (file_cell bytes x 0) else None)) (sym (none_before low q x h))) i

pub zero_none : (bytes : List ℕ) (m : Cells Cell) (low q : ℕ) → q ≤ low → m ≡ over m (zero_cells bytes low q)
zero_none bytes m low q h = λ i x.
    (sym (or_none (m x)) ∙ ap (λ b. or_else (m x) (if b then Some (file_cell bytes x 0) else None)) (sym (none_before low q x h))) i

-- one turn of the loop that lays them one by one
pub lay_step : (bytes : List ℕ) (old now next : Cells RustCell) (low at : ℕ) (c : RustCell) → low ≤ at → cell_of c ≡ file_cell bytes at 0 →
    map_cells cell_of now ≡ over (map_cells cell_of old) (zero_cells bytes low at) → next ≡ over now (one_cell at c) → map_cells cell_of next ≡ over (map_cells cell_of old) (zero_cells bytes low (at + 1))
lay_step bytes old now next low at c h is before e =
    ap (map_cells cell_of) e ∙ map_over cell_of now (one_cell at c) ∙ ap (over (map_cells cell_of now)) (map_one cell_of at c ∙ ap (one_cell at) is)
    ∙ ap (λ k. over k (one_cell at (file_cell bytes at 0))) before
    ∙ over_twice (map_cells cell_of old) (zero_cells bytes low at) (one_cell at (file_cell bytes at 0))
    ∙ ap (over (map_cells cell_of old)) (zero_more bytes low at h)

-- where nothing is marked, zeros are numbers
no_code_word : (bytes : List ℕ) (pages : PageSet) (x : ℕ) → HasMarks bytes pages → is_on pages x ≡ false → code_word_at bytes (word_start x) ≡ None
no_code_word bytes pages x marks off = tell (code_word_at bytes (word_start x)) refl
  where
    tell : (o : Option ℕ) → code_word_at bytes (word_start x) ≡ o → o ≡ None
    tell None e = refl
    tell (Some to) e =
        let same : word_start x / 4096 ≡ x / 4096 = omega arith in
        let on : is_on pages (word_start x) ≡ true = marks.words (word_start x) (subst IsSome (sym e) refl) in
        let off' : is_on pages (word_start x) ≡ false = ap (set.contains nat_eq pages) same ∙ off in
        absurd (cc (on, off'))

not_stale : (bytes : List ℕ) (pages : PageSet) (x : ℕ) → HasMarks bytes pages → is_on pages x ≡ false → is_stale bytes x ≡ false
not_stale bytes pages x marks off = tell (is_stale bytes x) refl
  where
    tell : (b : Bool) → is_stale bytes x ≡ b → b ≡ false
    tell false e = refl
    tell true e = let on : is_on pages x ≡ true = marks.stale x e in absurd (cc (on, off))

plain_zero : (bytes : List ℕ) (pages : PageSet) (x : ℕ) → HasMarks bytes pages → is_on pages x ≡ false → file_cell bytes x 0 ≡ Byte 0
plain_zero bytes pages x marks off =
    ap (λ o. part_or (x % 4) o (stale_or bytes x 0)) (no_code_word bytes pages x marks off) ∙ rw (not_stale bytes pages x marks off) refl

pub all_zeros : (bytes : List ℕ) (pages : PageSet) (low high : ℕ) → HasMarks bytes pages → over (marked_zeros bytes pages low high) (same_cell low high (Byte 0)) ≡ zero_cells bytes low high
all_zeros bytes pages low high marks = λ i x. tell x (nat_le low x && nat_lt x high) (is_on pages x) refl i
  where
    tell : (x : ℕ) (r m : Bool) → is_on pages x ≡ m → or_else (if r && m then Some (file_cell bytes x 0) else None) (if r then Some (Byte 0) else None) ≡ (if r then Some (file_cell bytes x 0) else None)
    tell x true true e = refl
    tell x true false e = ap Some (sym (plain_zero bytes pages x marks e))
    tell x false m e = refl

-- the marked ones, and then all
pub zeros_laid : (bytes : List ℕ) (pages : PageSet) (low high : ℕ) (old now next : Cells RustCell) → HasMarks bytes pages →
    map_cells cell_of now ≡ over (map_cells cell_of old) (marked_zeros bytes pages low high) → next ≡ over now (same_cell low high (ByteOf 0)) → map_cells cell_of next ≡ over (map_cells cell_of old) (zero_cells bytes low high)
zeros_laid bytes pages low high old now next marks before e =
    ap (map_cells cell_of) e ∙ map_over cell_of now (same_cell low high (ByteOf 0)) ∙ ap (over (map_cells cell_of now)) (map_same cell_of low high (ByteOf 0))
    ∙ ap (λ k. over k (same_cell low high (Byte 0))) before
    ∙ over_twice (map_cells cell_of old) (marked_zeros bytes pages low high) (same_cell low high (Byte 0))
    ∙ ap (over (map_cells cell_of old)) (all_zeros bytes pages low high marks)

-- the pages of code words
word_given : {P : Type 0} (found : Option ℕ) (b : Bool) (to : ℕ) → IsSome (option_or found (if b then Some to else None)) → (IsSome found → P) → (b ≡ true → P) → P
word_given (Some other) b to some first second = first refl
word_given None true to some first second = second refl
word_given None false to some first second = absurd (cc)

eq_self : (n : ℕ) → nat_eq n n ≡ true
eq_self n = grind arith

same_number : (a b : ℕ) → nat_eq a b ≡ true → a ≡ b
same_number a b is = grind (arith, nat_tests)

pub words_step : (words : List CodeWord) (i : ℕ) (pages new : PageSet) → i < length words → HasWords pages (take i words) →
    ((page : ℕ) → set.contains nat_eq new page ≡ (set.contains nat_eq pages page || nat_eq ((get_or words i no_word).at / 4096) page)) → HasWords new (take (i + 1) words)
words_step words i pages new within before is = λ x some.
    let w = get_or words i no_word in
    let given = subst IsSome (listed_more words i no_word x (listed_at (take i words) x) within refl) some in
    is (x / 4096) ∙ word_given (listed_at (take i words) x) (nat_eq w.at x) w.to given
    (λ h. or_left (is_on pages x) (nat_eq (w.at / 4096) (x / 4096)) (before x h))
    (λ h. or_right (is_on pages x) (nat_eq (w.at / 4096) (x / 4096)) (ap (λ y. nat_eq (y / 4096) (x / 4096)) (same_number w.at x h) ∙ eq_self (x / 4096)))

pub kept_step : (pages new : PageSet) (at : ℕ) → ((page : ℕ) → set.contains nat_eq new page ≡ (set.contains nat_eq pages page || nat_eq at page)) → (page : ℕ) → set.contains nat_eq pages page ≡ true → set.contains nat_eq new page ≡ true
kept_step pages new at is page h = is page ∙ or_left (set.contains nat_eq pages page) (nat_eq at page) h
