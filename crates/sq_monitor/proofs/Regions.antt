-- Regions over one another, as contents.
use Rattle.std.proofs.Common.{◌≡◌, ℕ, zero, suc, ◌+◌, ◌-◌, ◌/◌, ◌%◌, ◌<◌, ◌≤◌, Bool, true, false, ◌&&◌, ◌||◌, nat_eq, nat_le, nat_lt, List, [], ◌∷◌, ◌++◌, length, map, replicate, slice_get, get_or, Option, Some, None, if◌then◌else◌, option_map, refl, sym, ap, ap₂, ◌∙◌, arith}
use Rattle.std.proofs.lemmas.List.{map-append, length-map}
use Rattle.sq_memory.specs.Cells.{Cells, map_cells}
use Rattle.sq_memory.specs.Regions.{Region, region_cell, or_else, get}
use Rattle.sq_pages.specs.Pages.{Sheet, sheet_cell, cells_of, over, one_cell, same_cell}
use Rattle.sq_elf.specs.declared.segment.Segment.{Segment}
use Rattle.sq_elf.specs.Memory.{file_bytes_of}
use Rattle.sq_elf.specs.Segments.{copy_size}
use Rattle.sq_tagged.specs.declared.values.Cell.{Cell as RustCell}
use Rattle.sq_tagged.specs.declared.values.Cell.TheVariants.{Byte as ByteOf}
use Rattle.sq_tagged.specs.Views.{cell_of}
use Rattle.sq_pages.proofs.Laying.{or_none, or_same, over_twice}
use Rattle.sq_system.specs.Starts.{Start, stack_pointer, argument_area}
use Rattle.law_follow.specs.Values.{Cell, Byte}
use Rattle.law_follow.specs.Worlds.{ram_region}
use Rattle.sq_monitor.specs.FileCells.{file_cell, file_cells, region_at, segment_regions}
use Rattle.sq_monitor.specs.Zeros.{zero_cells}
use Rattle.sq_monitor.proofs.ZeroCells.{map_over, map_same as map_all}

abbrev cells_at : {C : Type 0} → ℕ → List C → Cells C
cells_at a cells = region_cell (record { start = a; cells = cells })

abbrev no_cells : (C : Type 0) → List C
no_cells C = []

none_there : {C : Type 0} (k : ℕ) → slice_get (no_cells C) k ≡ None
none_there {C = C} zero = refl
none_there {C = C} (suc k) = refl

empty_region : {C : Type 0} (a y : ℕ) → cells_at a (no_cells C) y ≡ None
empty_region {C = C} a y = tell (nat_le a y)
  where
    tell : (b : Bool) → (if b then slice_get (no_cells C) (y - a) else None) ≡ None
    tell true = none_there (y - a)
    tell false = refl

-- a cell, and those behind it
region_cons : {C : Type 0} (a : ℕ) (c : C) (cs : List C) (y : ℕ) → cells_at a (c ∷ cs) y ≡ or_else (one_cell a c y) (cells_at (a + 1) cs y)
region_cons {C = C} a c cs y = tell (nat_le a y) (nat_eq y a) refl refl
  where
    tell : (b d : Bool) → nat_le a y ≡ b → nat_eq y a ≡ d → (if b then slice_get (c ∷ cs) (y - a) else None) ≡ or_else (if d then Some c else None) (cells_at (a + 1) cs y)
    tell true true e f = let h : y - a ≡ 0 = grind arith in rw h refl
    tell true false e f =
        let h : y - a ≡ suc (y - (a + 1)) = grind arith in
        let g : nat_le (a + 1) y ≡ true = grind arith in
        rw (h, g) refl
    tell false true e f = absurd (grind arith)
    tell false false e f = let g : nat_le (a + 1) y ≡ false = grind arith in rw g refl

or_assoc : {C : Type 0} (o p q : Option C) → or_else (or_else o p) q ≡ or_else o (or_else p q)
or_assoc None p q = refl
or_assoc (Some c) p q = refl

pub region_split : {C : Type 0} (a : ℕ) (xs ys : List C) → cells_at a (xs ++ ys) ≡ over (cells_at a xs) (cells_at (a + length xs) ys)
region_split a xs ys = λ i y. split a xs ys y i
  where
    split : {C : Type 0} (a : ℕ) (xs ys : List C) (y : ℕ) → cells_at a (xs ++ ys) y ≡ or_else (cells_at a xs y) (cells_at (a + length xs) ys y)
    split a [] ys y =
        let e : a + 0 ≡ a = omega arith in
        sym (ap (λ o. or_else o (cells_at (a + 0) ys y)) (empty_region a y) ∙ ap (λ b. cells_at b ys y) e)
    split a (x ∷ xs) ys y =
        let e : a + 1 + length xs ≡ a + suc (length xs) = omega arith in
        region_cons a x (xs ++ ys) y ∙ ap (or_else (one_cell a x y)) (split (a + 1) xs ys y)
        ∙ sym (or_assoc (one_cell a x y) (cells_at (a + 1) xs y) (cells_at (a + 1 + length xs) ys y))
        ∙ ap (λ o. or_else o (cells_at (a + 1 + length xs) ys y)) (sym (region_cons a x xs y))
        ∙ ap (λ b. or_else (cells_at a (x ∷ xs) y) (cells_at b ys y)) e

first_of_range : (a n y : ℕ) → (nat_eq y a || (nat_le (a + 1) y && nat_lt y (a + 1 + n))) ≡ (nat_le a y && nat_lt y (a + suc n))
first_of_range a n y = grind arith

no_range : (a y : ℕ) → (nat_le a y && nat_lt y (a + 0)) ≡ false
no_range a y = grind arith

region_same : {C : Type 0} (a n : ℕ) (c : C) → cells_at a (replicate n c) ≡ same_cell a (a + n) c
region_same a n c = λ i y. each a n c y i
  where
    each : {C : Type 0} (a n : ℕ) (c : C) (y : ℕ) → cells_at a (replicate n c) y ≡ same_cell a (a + n) c y
    each a zero c y = empty_region a y ∙ ap (λ b. if b then Some c else None) (sym (no_range a y))
    each a (suc n) c y =
        region_cons a c (replicate n c) y ∙ ap (or_else (one_cell a c y)) (each (a + 1) n c y)
        ∙ or_same (nat_eq y a) (nat_le (a + 1) y && nat_lt y (a + 1 + n)) c ∙ ap (λ b. if b then Some c else None) (first_of_range a n y)

-- file bytes and zeros behind them
pub file_split : (bytes : List ℕ) (x : ℕ) (bs cs : List ℕ) → file_cells bytes x (bs ++ cs) ≡ file_cells bytes x bs ++ file_cells bytes (x + length bs) cs
file_split bytes x [] cs = let e : x + 0 ≡ x = omega arith in ap (λ y. file_cells bytes y cs) (sym e)
file_split bytes x (b ∷ bs) cs =
    let e : x + 1 + length bs ≡ x + suc (length bs) = omega arith in
    ap (λ cells. file_cell bytes x b ∷ cells) (file_split bytes (x + 1) bs cs ∙ ap (λ y. file_cells bytes (x + 1) bs ++ file_cells bytes y cs) e)

pub file_length : (bytes : List ℕ) (x : ℕ) (bs : List ℕ) → length (file_cells bytes x bs) ≡ length bs
file_length bytes x [] = refl
file_length bytes x (b ∷ bs) = ap suc (file_length bytes (x + 1) bs)

first_zero : (bytes : List ℕ) (a y : ℕ) (d r : Bool) → nat_eq y a ≡ d → or_else (if d then Some (file_cell bytes a 0) else None) (if r then Some (file_cell bytes y 0) else None) ≡ (if d || r then Some (file_cell bytes y 0) else None)
first_zero bytes a y true r e = let same : y ≡ a = grind arith in ap (λ z. Some (file_cell bytes z 0)) (sym same)
first_zero bytes a y false r e = refl

zeros_region : (bytes : List ℕ) (a n y : ℕ) → cells_at a (file_cells bytes a (replicate n 0)) y ≡ zero_cells bytes a (a + n) y
zeros_region bytes a zero y = empty_region a y ∙ ap (λ b. if b then Some (file_cell bytes y 0) else None) (sym (no_range a y))
zeros_region bytes a (suc n) y =
    region_cons a (file_cell bytes a 0) (file_cells bytes (a + 1) (replicate n 0)) y
    ∙ ap (or_else (one_cell a (file_cell bytes a 0) y)) (zeros_region bytes (a + 1) n y)
    ∙ first_zero bytes a y (nat_eq y a) (nat_le (a + 1) y && nat_lt y (a + 1 + n)) refl
    ∙ ap (λ b. if b then Some (file_cell bytes y 0) else None) (first_of_range a n y)

pub file_region_split : (bytes : List ℕ) (a : ℕ) (bs : List ℕ) (n : ℕ) →
    region_cell (region_at a (file_cells bytes a (bs ++ replicate n 0))) ≡ over (region_cell (region_at a (file_cells bytes a bs))) (zero_cells bytes (a + length bs) (a + length bs + n))
file_region_split bytes a bs n =
    ap (cells_at a) (file_split bytes a bs (replicate n 0))
    ∙ region_split a (file_cells bytes a bs) (file_cells bytes (a + length bs) (replicate n 0))
    ∙ ap (λ k. over (cells_at a (file_cells bytes a bs)) (cells_at (a + k) (file_cells bytes (a + length bs) (replicate n 0)))) (file_length bytes a bs)
    ∙ ap (over (cells_at a (file_cells bytes a bs))) (λ i y. zeros_region bytes (a + length bs) n y i)

-- lists of regions
pub map_region : {C D : Type 0} (f : C → D) (a : ℕ) (cells : List C) → map_cells f (cells_at a cells) ≡ cells_at a (map f cells)
map_region f a cells = λ i y. tell (nat_le a y) (y - a) i
  where
    get_map : {C D : Type 0} (f : C → D) (cells : List C) (k : ℕ) → option_map f (slice_get cells k) ≡ slice_get (map f cells) k
    get_map f [] zero = refl
    get_map f [] (suc k) = refl
    get_map f (c ∷ cells) zero = refl
    get_map f (c ∷ cells) (suc k) = get_map f cells k

    tell : (b : Bool) (k : ℕ) → option_map f (if b then slice_get cells k else None) ≡ (if b then slice_get (map f cells) k else None)
    tell true k = get_map f cells k
    tell false k = refl

pub get_append : {C : Type 0} (rs ss : List (Region C)) → get (rs ++ ss) ≡ over (get rs) (get ss)
get_append rs ss = λ i y. each rs ss y i
  where
    each : {C : Type 0} (rs ss : List (Region C)) (y : ℕ) → get (rs ++ ss) y ≡ or_else (get rs y) (get ss y)
    each [] ss y = refl
    each (r ∷ rs) ss y = ap (or_else (region_cell r y)) (each rs ss y) ∙ sym (or_assoc (region_cell r y) (get rs y) (get ss y))

pub over_one : {C : Type 0} (m n : Cells C) (r : Region C) → n ≡ over m (region_cell r) → n ≡ over m (get (r ∷ []))
over_one m n r e = e ∙ ap (over m) (λ i y. sym (or_none (region_cell r y)) i)

pub over_two : {C : Type 0} (m n o : Cells C) (r s : Region C) → n ≡ over m (region_cell r) → o ≡ over n (region_cell s) → o ≡ over m (get (r ∷ s ∷ []))
over_two m n o r s e f = over_one n o s f ∙ ap (λ k. over k (get (s ∷ []))) e ∙ over_twice m (region_cell r) (get (s ∷ []))

-- RAM: zeros, and the argument area
map_same : {A B : Type 0} (f : A → B) (n : ℕ) (x : A) → map f (replicate n x) ≡ replicate n (f x)
map_same f zero x = refl
map_same f (suc n) x = ap (λ xs. f x ∷ xs) (map_same f n x)

length_same : {A : Type 0} (n : ℕ) (x : A) → length (replicate n x) ≡ n
length_same zero x = refl
length_same (suc n) x = ap suc (length_same n x)

pub ram_split : (start : Start) → start.base ≤ stack_pointer start →
    region_cell (ram_region start) ≡ over (same_cell start.base (stack_pointer start) (Byte 0)) (cells_at (stack_pointer start) (map Byte (argument_area start)))
ram_split start above =
    let n = stack_pointer start - start.base in
    let end : start.base + n ≡ stack_pointer start = omega arith in
    ap (cells_at start.base) (map-append Byte (replicate n 0) (argument_area start) ∙ ap (λ xs. xs ++ map Byte (argument_area start)) (map_same Byte n 0))
    ∙ region_split start.base (replicate n (Byte 0)) (map Byte (argument_area start))
    ∙ ap₂ (λ m k. over m (cells_at (start.base + k) (map Byte (argument_area start)))) (region_same start.base n (Byte 0)) (length_same n (Byte 0))
    ∙ ap (λ e. over (same_cell start.base e (Byte 0)) (cells_at e (map Byte (argument_area start)))) end

-- what is laid of RAM
pub ram_laid : (start : Start) (m n o : Cells RustCell) (base pointer : ℕ) (cells : List RustCell) → start.base ≤ stack_pointer start → base ≡ start.base → pointer ≡ stack_pointer start →
    map cell_of cells ≡ map Byte (argument_area start) → n ≡ over m (same_cell base pointer (ByteOf 0)) → o ≡ over n (region_cell (record { start = pointer; cells = cells })) →
    map_cells cell_of o ≡ over (map_cells cell_of m) (region_cell (ram_region start))
ram_laid start m n o base pointer cells above b p is e f =
    ap (map_cells cell_of) f ∙ map_over cell_of n (cells_at pointer cells)
    ∙ ap₂ over (ap (map_cells cell_of) e ∙ map_over cell_of m (same_cell base pointer (ByteOf 0)) ∙ ap (over (map_cells cell_of m)) (map_all cell_of base pointer (ByteOf 0))) (map_region cell_of pointer cells ∙ ap (cells_at pointer) is)
    ∙ over_twice (map_cells cell_of m) (same_cell base pointer (Byte 0)) (cells_at pointer (map Byte (argument_area start)))
    ∙ ap₂ (λ x y. over (map_cells cell_of m) (over (same_cell x y (Byte 0)) (cells_at y (map Byte (argument_area start))))) b p
    ∙ ap (over (map_cells cell_of m)) (sym (ram_split start above))

-- what is laid of a segment
pub cells_length : (bytes : List ℕ) (x : ℕ) (bs : List ℕ) (cells : List RustCell) → map cell_of cells ≡ file_cells bytes x bs → length cells ≡ length bs
cells_length bytes x bs cells is = sym (length-map cells cell_of) ∙ ap length is ∙ file_length bytes x bs

pub cells_laid : (marked : List ℕ) (m n : Cells RustCell) (a x : ℕ) (bs : List ℕ) (cells : List RustCell) → map cell_of cells ≡ file_cells marked x bs → n ≡ over m (region_cell (record { start = a; cells = cells })) →
    map_cells cell_of n ≡ over (map_cells cell_of m) (region_cell (region_at a (file_cells marked x bs)))
cells_laid marked m n a x bs cells is e =
    ap (map_cells cell_of) e ∙ map_over cell_of m (cells_at a cells) ∙ ap (over (map_cells cell_of m)) (map_region cell_of a cells ∙ ap (cells_at a) is)

pub own_laid : (marked : List ℕ) (m n : Cells RustCell) (o : Cells Cell) (a : ℕ) (bs : List ℕ) (k low high : ℕ) (cells : List RustCell) → map cell_of cells ≡ file_cells marked a bs →
    n ≡ over m (region_cell (record { start = a; cells = cells })) → o ≡ over (map_cells cell_of n) (zero_cells marked low high) → low ≡ a + length bs → high ≡ a + length bs + k →
    o ≡ over (map_cells cell_of m) (region_cell (region_at a (file_cells marked a (bs ++ replicate k 0))))
own_laid marked m n o a bs k low high cells is e f l h =
    f ∙ ap₂ (λ x y. over (map_cells cell_of n) (zero_cells marked x y)) l h
    ∙ ap (λ c. over c (zero_cells marked (a + length bs) (a + length bs + k))) (cells_laid marked m n a a bs cells is e)
    ∙ over_twice (map_cells cell_of m) (region_cell (region_at a (file_cells marked a bs))) (zero_cells marked (a + length bs) (a + length bs + k))
    ∙ ap (over (map_cells cell_of m)) (sym (file_region_split marked a bs k))

module _ (marked bytes : List ℕ) (s : Segment) (part : List ℕ) (is : part ≡ file_bytes_of bytes s) where
  abbrev own : List ℕ → Region Cell
  own bs = region_at s.address (file_cells marked s.address (bs ++ replicate (s.memsz - length bs) 0))

  abbrev copy : List ℕ → Region Cell
  copy bs = region_at s.load_address (file_cells marked s.address (bs ++ replicate (s.filesz - length bs) 0))

  pub with_copy : (m n o : Cells Cell) → 0 < copy_size s → n ≡ over m (region_cell (own part)) → o ≡ over n (region_cell (copy part)) → o ≡ over m (get (segment_regions marked bytes s))
  with_copy m n o some e f =
      let test : nat_lt 0 (copy_size s) ≡ true = grind arith in
      over_two m n o (own part) (copy part) e f ∙ ap (λ bs. over m (get (own bs ∷ copy bs ∷ []))) is
      ∙ ap (λ b. over m (get (own (file_bytes_of bytes s) ∷ (if b then copy (file_bytes_of bytes s) ∷ [] else [])))) (sym test)

  pub without_copy : (m n : Cells Cell) → copy_size s ≤ 0 → n ≡ over m (region_cell (own part)) → n ≡ over m (get (segment_regions marked bytes s))
  without_copy m n none e =
      let test : nat_lt 0 (copy_size s) ≡ false = grind arith in
      over_one m n (own part) e ∙ ap (λ bs. over m (get (own bs ∷ []))) is
      ∙ ap (λ b. over m (get (own (file_bytes_of bytes s) ∷ (if b then copy (file_bytes_of bytes s) ∷ [] else [])))) (sym test)

-- RAM behind the regions
pub ram_behind : (rs : List (Region Cell)) (r : Region Cell) → over (get rs) (region_cell r) ≡ get (rs ++ r ∷ [])
ram_behind rs r = over_one (get rs) (over (get rs) (region_cell r)) r refl ∙ sym (get_append rs (r ∷ []))

abbrev no_sheets : List (Sheet RustCell)
no_sheets = []

no_sheet : (k : ℕ) → get_or no_sheets k (Sheet.Alike None) ≡ Sheet.Alike None
no_sheet zero = refl
no_sheet (suc k) = refl

pub nothing : map_cells cell_of (cells_of no_sheets) ≡ get []
nothing = λ i x. ap (λ s. option_map cell_of (sheet_cell s (x % 4096))) (no_sheet (x / 4096)) i
