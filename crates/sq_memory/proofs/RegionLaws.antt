-- A list of regions is contents.
use Rattle.std.proofs.Common.{◌≡◌, ℕ, zero, suc, ◌+◌, ◌-◌, ◌<◌, ◌≤◌, length, Bool, true, false, List, [], ◌∷◌, map, Option, Some, None, IsSome, is_some, nat_eq, nat_le, option_map, slice_get, slice_set, get_or, take, ◌++◌, if◌then◌else◌, refl, sym, ap, ap₂, ◌∙◌, arith, eq-eqb, ne_eqb}
use Rattle.std.proofs.Math.Dec.{eqb-suc-suc}
use Rattle.std.proofs.lemmas.Bool.{eqb-true, eqb-false, leb-true}
use Rattle.std.proofs.lemmas.List.{map-set, take_more, length-take-le}
use Rattle.std.proofs.lemmas.Option.{slice_get-map}
use Rattle.sq_memory.specs.Cells.{replaced, with_cell, with_cells, map_cells}
use Rattle.sq_memory.specs.Regions.{Region, region_cell, or_else, get, region_with, put, put_all, map_region, map_regions}

-- an element after a write
slice_get-set : {C : Type 0} (xs : List C) (i j : ℕ) (c : C) → slice_get (slice_set xs i c) j ≡ (if nat_eq j i then replaced (slice_get xs j) c else slice_get xs j)
slice_get-set [] i j c = nothing (nat_eq j i) c
  where
    nothing : {C : Type 0} (b : Bool) (c : C) → None ≡ (if b then replaced None c else None)
    nothing true c = refl
    nothing false c = refl
slice_get-set (x ∷ xs) zero zero c = refl
slice_get-set (x ∷ xs) zero (suc j) c = rw (ne_eqb (suc j) 0 (λ e. absurd (omega arith))) refl
slice_get-set (x ∷ xs) (suc i) zero c = rw (ne_eqb 0 (suc i) (λ e. absurd (omega arith))) refl
slice_get-set (x ∷ xs) (suc i) (suc j) c = rw eqb-suc-suc (slice_get-set xs i j c)

-- the distances of two addresses from the start of a region are equal exactly where the addresses are
apart : (a x y : ℕ) → a ≤ x → a ≤ y → nat_eq (y - a) (x - a) ≡ nat_eq y x
apart a x y h k = tell (nat_eq y x) refl
  where
    tell : (b : Bool) → nat_eq y x ≡ b → nat_eq (y - a) (x - a) ≡ b
    tell true e = let f : y ≡ x = eqb-true y x e in eq-eqb (y - a) (x - a) (ap (λ z. z - a) f)
    tell false e = let f : y ≡ x → ⊥ = eqb-false y x e in ne_eqb (y - a) (x - a) (λ g. f (omega arith))

-- where the region has a cell the address isn't before its start
pub cell_within : {C : Type 0} (r : Region C) (x : ℕ) → IsSome (region_cell r x) → r.start ≤ x
cell_within r x h = tell (nat_le r.start x) refl h
  where
    tell : (b : Bool) → nat_le r.start x ≡ b → IsSome (if b then slice_get r.cells (x - r.start) else None) → r.start ≤ x
    tell true e g = leb-true r.start x e
    tell false e g = absurd (cc)

-- a region after a write
pub region_written : {C : Type 0} (r : Region C) (x y : ℕ) (c : C) → IsSome (region_cell r x) → region_cell (region_with r x c) y ≡ with_cell (region_cell r) x c y
region_written r x y c h = tell (nat_le r.start y) refl
  where
    nothing : {C : Type 0} (b : Bool) (c : C) → None ≡ (if b then replaced None c else None)
    nothing true c = refl
    nothing false c = refl

    tell : (b : Bool) → nat_le r.start y ≡ b → (if b then slice_get (slice_set r.cells (x - r.start) c) (y - r.start) else None) ≡ (if nat_eq y x then replaced (if b then slice_get r.cells (y - r.start) else None) c else if b then slice_get r.cells (y - r.start) else None)
    tell true e = slice_get-set r.cells (x - r.start) (y - r.start) c ∙ rw (apart r.start x y (cell_within r x h) (leb-true r.start y e)) refl
    tell false e = nothing (nat_eq y x) c

-- a write behind a cell of the first region, and one behind none
written_first : {C : Type 0} (o g : Option C) (b : Bool) (c : C) → (b ≡ true → IsSome o) → or_else (if b then replaced o c else o) g ≡ (if b then replaced (or_else o g) c else or_else o g)
written_first None g true c h = let e : false ≡ true = h refl in absurd (cc)
written_first None g false c h = refl
written_first (Some d) g true c h = refl
written_first (Some d) g false c h = refl

written_later : {C : Type 0} (o g : Option C) (b : Bool) (c : C) → (b ≡ true → is_some o ≡ false) → or_else o (if b then replaced g c else g) ≡ (if b then replaced (or_else o g) c else or_else o g)
written_later None g true c h = refl
written_later None g false c h = refl
written_later (Some d) g true c h = let e : true ≡ false = h refl in absurd (cc)
written_later (Some d) g false c h = refl

-- Get after put: the contents with the cell.
get_put_at : {C : Type 0} (rs : List (Region C)) (x : ℕ) (c : C) (y : ℕ) → get (put rs x c) y ≡ with_cell (get rs) x c y
get_put_at [] x c y = nothing (nat_eq y x) c
  where
    nothing : {C : Type 0} (b : Bool) (c : C) → None ≡ (if b then replaced None c else None)
    nothing true c = refl
    nothing false c = refl
get_put_at (r ∷ rs) x c y = tell (is_some (region_cell r x)) refl (get_put_at rs x c y)
  where
    tell : (b : Bool) → is_some (region_cell r x) ≡ b → get (put rs x c) y ≡ with_cell (get rs) x c y → get (if b then region_with r x c ∷ rs else r ∷ put rs x c) y ≡ with_cell (get (r ∷ rs)) x c y
    tell true h later =
        ap (λ o. or_else o (get rs y)) (region_written r x y c h)
        ∙ written_first (region_cell r y) (get rs y) (nat_eq y x) c (λ e. let f : y ≡ x = eqb-true y x e in rw f h)
    tell false h later =
        ap (or_else (region_cell r y)) later ∙ written_later (region_cell r y) (get rs y) (nat_eq y x) c (λ e. let f : y ≡ x = eqb-true y x e in rw f h)

pub get-put : {C : Type 0} (rs : List (Region C)) (x : ℕ) (c : C) → get (put rs x c) ≡ with_cell (get rs) x c
get-put rs x c = λ i y. get_put_at rs x c y i

pub get-put_all : {C : Type 0} (cs : List C) (rs : List (Region C)) (x : ℕ) → get (put_all rs x cs) ≡ with_cells (get rs) x cs
get-put_all [] rs x = refl
get-put_all (c ∷ cs) rs x = get-put_all cs (put rs x c) (x + 1) ∙ ap (λ m. with_cells m (x + 1) cs) (get-put rs x c)

-- A function over the cells of regions is one over those of the contents.
cell_mapped : {C D : Type 0} (f : C → D) (r : Region C) (y : ℕ) → region_cell (map_region f r) y ≡ option_map f (region_cell r y)
cell_mapped f r y = tell (nat_le r.start y)
  where
    tell : (b : Bool) → (if b then slice_get (map f r.cells) (y - r.start) else None) ≡ option_map f (if b then slice_get r.cells (y - r.start) else None)
    tell true = slice_get-map f r.cells (y - r.start)
    tell false = refl

or_else_mapped : {C D : Type 0} (f : C → D) (o p : Option C) → or_else (option_map f o) (option_map f p) ≡ option_map f (or_else o p)
or_else_mapped f None p = refl
or_else_mapped f (Some c) p = refl

get_mapped_at : {C D : Type 0} (f : C → D) (rs : List (Region C)) (y : ℕ) → get (map_regions f rs) y ≡ map_cells f (get rs) y
get_mapped_at f [] y = refl
get_mapped_at f (r ∷ rs) y = ap₂ or_else (cell_mapped f r y) (get_mapped_at f rs y) ∙ or_else_mapped f (region_cell r y) (get rs y)

pub get-map_regions : {C D : Type 0} (f : C → D) (rs : List (Region C)) → get (map_regions f rs) ≡ map_cells f (get rs)
get-map_regions f rs = λ i y. get_mapped_at f rs y i

some_mapped : {C D : Type 0} (f : C → D) (o : Option C) → is_some (option_map f o) ≡ is_some o
some_mapped f None = refl
some_mapped f (Some c) = refl

-- A write and a function over the cells.
pub put-map_regions : {C D : Type 0} (f : C → D) (rs : List (Region C)) (x : ℕ) (c : C) → put (map_regions f rs) x (f c) ≡ map_regions f (put rs x c)
put-map_regions f [] x c = refl
put-map_regions {C} {D} f (r ∷ rs) x c =
    ap (λ (b : Bool). if b then region_with (map_region f r) x (f c) ∷ map_regions f rs else map_region f r ∷ put (map_regions f rs) x (f c)) (ap is_some (cell_mapped f r x) ∙ some_mapped f (region_cell r x))
    ∙ tell (is_some (region_cell r x)) (put-map_regions f rs x c)
  where
    tell : (b : Bool) → put (map_regions f rs) x (f c) ≡ map_regions f (put rs x c) → (if b then region_with (map_region f r) x (f c) ∷ map_regions f rs else map_region f r ∷ put (map_regions f rs) x (f c)) ≡ map_regions f (if b then region_with r x c ∷ rs else r ∷ put rs x c)
    tell true later = ap (λ (l : List D). let s : Region D = record { start = r.start; cells = l } in s ∷ map_regions f rs) (sym (map-set f r.cells (x - r.start) c))
    tell false later = ap (λ (l : List (Region D)). map_region f r ∷ l) later

pub put_all-map_regions : {C D : Type 0} (f : C → D) (cs : List C) (rs : List (Region C)) (x : ℕ) → put_all (map_regions f rs) x (map f cs) ≡ map_regions f (put_all rs x cs)
put_all-map_regions f [] rs x = refl
put_all-map_regions f (c ∷ cs) rs x = ap (λ m. put_all m (x + 1) (map f cs)) (put-map_regions f rs x c) ∙ put_all-map_regions f cs (put rs x c) (x + 1)

-- one cell more is put behind those before it
pub put_all-more : {C : Type 0} (rs : List (Region C)) (x : ℕ) (cs : List C) (i : ℕ) (c : C) → i < length cs → c ≡ get_or cs i c → put_all rs x (take (i + 1) cs) ≡ put (put_all rs x (take i cs)) (x + i) c
put_all-more rs x cs i c l e =
    let f : take (i + 1) cs ≡ take i cs ++ c ∷ [] = take_more cs i c l ∙ ap (λ d. take i cs ++ d ∷ []) (sym e) in
    let h : length (take i cs) ≡ i = length-take-le i cs (omega arith) in
    ap (put_all rs x) f ∙ (put_all_append (take i cs) (c ∷ []) rs x ∙ ap (λ n. put (put_all rs x (take i cs)) (x + n) c) h)
  where
    put_all_append : {C : Type 0} (cs ds : List C) (rs : List (Region C)) (x : ℕ) → put_all rs x (cs ++ ds) ≡ put_all (put_all rs x cs) (x + length cs) ds
    put_all_append [] ds rs x = let e : x + 0 ≡ x = omega arith in rw e refl
    put_all_append (c ∷ cs) ds rs x =
        let e : x + suc (length cs) ≡ (x + 1) + length cs = omega arith in rw e (put_all_append cs ds (put rs x c) (x + 1))

-- one turn of a loop that puts cells
pub put_step : {C : Type 0} (rs : List (Region C)) (x : ℕ) (cs : List C) (i : ℕ) (c : C) (now next : List (Region C)) → i < length cs → c ≡ get_or cs i c → now ≡ put_all rs x (take i cs) → next ≡ put now (x + i) c → next ≡ put_all rs x (take (i + 1) cs)
put_step rs x cs i c now next l e h p = p ∙ (ap (λ m. put m (x + i) c) h ∙ sym (put_all-more rs x cs i c l e))
