-- At the start, memories made from the names of code words and from their images under f agree.
use Rattle.std.proofs.Common.{◌≡◌, ℕ, zero, suc, ◌+◌, ◌-◌, Bool, true, false, ◌==◌, List, [], ◌∷◌, ◌++◌, Option, Some, None, map, option_map, slice_get, nat_le, if◌then◌else◌, refl, sym, ap, ap₂, ◌∙◌, subst, arith, eq-eqb}
use Rattle.std.specs.List.{list_any}
use Rattle.std.proofs.lemmas.Bool.{eqb-true, and_parts, and_from}
use Rattle.std.proofs.lemmas.Option.{slice_get-map}
use Rattle.sq_memory.specs.Cells.{Cells, map_cells, Agree}
use Rattle.sq_memory.specs.Regions.{Region, get, region_cell, or_else, map_regions}
use Rattle.sq_memory.proofs.RegionLaws.{get-map_regions}
use Rattle.sq_memory.proofs.RangeLaws.{cells_from-map_cells, cells_from_some}
use Rattle.sq_isa.specs.declared.instructions.LoadKind.TheVariants.{Lw}
use Rattle.sq_system.specs.Starts.{Start, ram_at_start}
use Rattle.law_follow.specs.Values.{Tag, Code, Part, Value, Tagged, Cell, Byte, Frag, Stale, is_stale, same_tag, is_part_of, are_parts_of, whole}
use Rattle.law_follow.specs.Accesses.{Step, with_loaded}
use Rattle.law_follow.specs.Worlds.{World, StartByte, Given, OfWord, StaleByte, StartPiece, word_cell, start_cell, piece_region, ram_region, regions_at_start}
use Rattle.law_patch.specs.Agreement.{Ties, SameTag, SameCell, SameMemory}
use Rattle.law_patch.specs.LiveAgreement.{everywhere}

abbrev tag_map : (ℕ → ℕ) → Tag → Tag
tag_map f (Code n) = Code (f n)
tag_map f (Part n word) = Part n word

abbrev cell_map : (ℕ → ℕ) → Cell → Cell
cell_map f (Byte b) = Byte b
cell_map f (Frag tag k) = Frag (tag_map f tag) k
cell_map f Stale = Stale

cell_rel : (f : ℕ → ℕ) (c : Cell) → SameCell c (cell_map f c)
cell_rel f (Byte b) = refl
cell_rel f (Frag tag k) = tt
cell_rel f Stale = tt

-- A loaded word is that of its image

same_map : (f : ℕ → ℕ) (a b : Tag) → same_tag a b ≡ true → same_tag (tag_map f a) (tag_map f b) ≡ true
same_map f (Code n) (Code m) e = eq-eqb (f n) (f m) (ap f (eqb-true n m e))
same_map f (Code n) (Part m w) e = absurd (cc)
same_map f (Part n v) (Code m) e = absurd (cc)
same_map f (Part n v) (Part m w) e = e

part_map : (f : ℕ → ℕ) (tag : Tag) (k : ℕ) (c : Cell) → is_part_of tag k c ≡ true → is_part_of (tag_map f tag) k (cell_map f c) ≡ true
part_map f tag k (Byte b) e = e
part_map f tag k (Frag other j) e =
    let p = and_parts (same_tag tag other) (j == k) e in and_from (same_tag (tag_map f tag) (tag_map f other)) (j == k) (same_map f tag other p.0) p.1
part_map f tag k Stale e = e

parts_map : (f : ℕ → ℕ) (tag : Tag) (k : ℕ) (cs : List Cell) → are_parts_of tag k cs ≡ true → are_parts_of (tag_map f tag) k (map (cell_map f) cs) ≡ true
parts_map f tag k [] e = refl
parts_map f tag k (c ∷ cs) e =
    let p = and_parts (is_part_of tag k c) (are_parts_of tag (k + 1) cs) e in
    and_from (is_part_of (tag_map f tag) k (cell_map f c)) (are_parts_of (tag_map f tag) (k + 1) (map (cell_map f) cs)) (part_map f tag k c p.0) (parts_map f tag (k + 1) cs p.1)

-- a test that gives a tag
given_tag : (t : Bool) (tag other : Tag) → (if t then Some tag else None) ≡ Some other → (t ≡ true) × (tag ≡ other)
given_tag true tag other e = (refl, let f : Some tag ≡ Some other = e in cc)
given_tag false tag other e = absurd (cc)

if_some : (t : Bool) (tag : Tag) → t ≡ true → (if t then Some tag else None) ≡ Some tag
if_some t tag e = rw e refl

whole_map : (f : ℕ → ℕ) (cs : List Cell) (tag : Tag) → whole cs ≡ Some tag → whole (map (cell_map f) cs) ≡ Some (tag_map f tag)
whole_map f [] tag e = absurd (cc)
whole_map f (Byte b ∷ cs) tag e = absurd (cc)
whole_map f (Frag own k ∷ cs) tag e =
    let p = given_tag (are_parts_of own 0 (Frag own k ∷ cs)) own tag e in
    if_some (are_parts_of (tag_map f own) 0 (map (cell_map f) (Frag own k ∷ cs))) (tag_map f own) (parts_map f own 0 (Frag own k ∷ cs) p.0) ∙ ap (λ t. Some (tag_map f t)) p.1
whole_map f (Stale ∷ cs) tag e = absurd (cc)

-- the first cell of a whole value is a part of it
whole_first : (cs : List Cell) (tag : Tag) → whole cs ≡ Some tag → (k : ℕ) × (slice_get cs 0 ≡ Some (Frag tag k))
whole_first [] tag e = absurd (cc)
whole_first (Byte b ∷ cs) tag e = absurd (cc)
whole_first (Frag own k ∷ cs) tag e = (k, ap (λ t. Some (Frag t k)) (given_tag (are_parts_of own 0 (Frag own k ∷ cs)) own tag e).1)
whole_first (Stale ∷ cs) tag e = absurd (cc)

abbrev list_stale : List Cell → Bool
list_stale cs = list_any is_stale cs

loads_whole : (cs : List Cell) (tag : Tag) → whole cs ≡ Some tag → (go : Value → Step) → list_stale cs ≡ false → with_loaded Lw cs go ≡ go (Tagged tag)
loads_whole cs tag e go s = rw (s, e) refl

-- parts of a value are no stale bytes
no_stale_parts : (tag : Tag) (k : ℕ) (cs : List Cell) → are_parts_of tag k cs ≡ true → list_stale cs ≡ false
no_stale_parts tag k [] e = refl
no_stale_parts tag k (Byte b ∷ cs) e = absurd (cc)
no_stale_parts tag k (Frag other j ∷ cs) e = no_stale_parts tag (k + 1) cs (and_parts (is_part_of tag k (Frag other j)) (are_parts_of tag (k + 1) cs) e).1
no_stale_parts tag k (Stale ∷ cs) e = absurd (cc)

no_stale_whole : (cs : List Cell) (tag : Tag) → whole cs ≡ Some tag → list_stale cs ≡ false
no_stale_whole [] tag e = refl
no_stale_whole (Byte b ∷ cs) tag e = absurd (cc)
no_stale_whole (Frag own k ∷ cs) tag e = no_stale_parts own 0 (Frag own k ∷ cs) (given_tag (are_parts_of own 0 (Frag own k ∷ cs)) own tag e).0
no_stale_whole (Stale ∷ cs) tag e = absurd (cc)

-- The cells of a start

-- no part of a tagged value but of the address of one of these names
abbrev IsStartCell : List ℕ → Cell → Type 0
IsStartCell names (Byte b) = Unit {0}
IsStartCell names (Frag (Code n) k) = (i : ℕ) × (slice_get names i ≡ Some n)
IsStartCell names (Frag (Part n word) k) = ⊥
IsStartCell names Stale = Unit {0}

word_is : (names : List ℕ) (i k : ℕ) (o : Option ℕ) → slice_get names i ≡ o → IsStartCell names (word_cell k o)
word_is names i k None e = tt
word_is names i k (Some n) e = (i, e)

start_is : (names : List ℕ) (b : StartByte) → IsStartCell names (start_cell names b)
start_is names (Given b) = tt
start_is names (OfWord i k) = word_is names i k (slice_get names i) refl
start_is names StaleByte = tt

word_map : (f : ℕ → ℕ) (k : ℕ) (o : Option ℕ) → word_cell k (option_map f o) ≡ cell_map f (word_cell k o)
word_map f k None = refl
word_map f k (Some n) = refl

start_map : (f : ℕ → ℕ) (names : List ℕ) (b : StartByte) → start_cell (map f names) b ≡ cell_map f (start_cell names b)
start_map f names (Given b) = refl
start_map f names (OfWord i k) = rw (slice_get-map f names i) (word_map f k (slice_get names i))
start_map f names StaleByte = refl

-- each cell of a region that is there
abbrev HasStartCells : List ℕ → Region Cell → Type 0
HasStartCells names region = (i : ℕ) (c : Cell) → slice_get region.cells i ≡ Some c → IsStartCell names c

mapped_cells : (names : List ℕ) {A : Type 0} (g : A → Cell) (xs : List A) → ((x : A) → IsStartCell names (g x)) → (i : ℕ) (c : Cell) → slice_get (map g xs) i ≡ Some c → IsStartCell names c
mapped_cells names g [] h i c e = absurd (cc)
mapped_cells names g (x ∷ xs) h zero c e = let same : g x ≡ c = let f : Some (g x) ≡ Some c = e in cc in subst (IsStartCell names) same (h x)
mapped_cells names g (x ∷ xs) h (suc i) c e = mapped_cells names g xs h i c e

abbrev AllHave : List ℕ → List (Region Cell) → Type 0
AllHave names [] = Unit {0}
AllHave names (region ∷ regions) = HasStartCells names region × AllHave names regions

pieces_have : (names : List ℕ) (pieces : List StartPiece) (start : Start) → AllHave names (map (piece_region names) pieces ++ ram_region start ∷ [])
pieces_have names [] start = (mapped_cells names Byte (ram_at_start start) (λ b. tt), tt)
pieces_have names (piece ∷ pieces) start = (mapped_cells names (start_cell names) piece.bytes (start_is names), pieces_have names pieces start)

region_is : (names : List ℕ) (region : Region Cell) (x : ℕ) (t : Bool) (c : Cell) → HasStartCells names region → (if t then slice_get region.cells (x - region.start) else None) ≡ Some c → IsStartCell names c
region_is names region x true c h e = h (x - region.start) c e
region_is names region x false c h e = absurd (cc)

either_is : (names : List ℕ) (o p : Option Cell) (c : Cell) → ((d : Cell) → o ≡ Some d → IsStartCell names d) → ((d : Cell) → p ≡ Some d → IsStartCell names d) → or_else o p ≡ Some c → IsStartCell names c
either_is names None p c h k e = k c e
either_is names (Some d) p c h k e = h c e

got_is : (names : List ℕ) (regions : List (Region Cell)) (x : ℕ) (c : Cell) → AllHave names regions → get regions x ≡ Some c → IsStartCell names c
got_is names [] x c h e = absurd (cc)
got_is names (region ∷ regions) x c h e =
    either_is names (region_cell region x) (get regions x) c
    (λ d i. region_is names region x (nat_le region.start x) d h.0 i)
    (λ d i. got_is names regions x d h.1 i) e

-- the memory of the images
map_twice : {A B C : Type 0} (f : B → C) (g : A → B) (h : A → C) (xs : List A) → ((x : A) → h x ≡ f (g x)) → map h xs ≡ map f (map g xs)
map_twice f g h [] e = refl
map_twice f g h (x ∷ xs) e = ap₂ (λ y ys. y ∷ ys) (e x) (map_twice f g h xs e)

pieces_map : (f : ℕ → ℕ) (names : List ℕ) (pieces : List StartPiece) (start : Start) → map (piece_region (map f names)) pieces ++ ram_region start ∷ [] ≡ map_regions (cell_map f) (map (piece_region names) pieces ++ ram_region start ∷ [])
pieces_map f names [] start = ap (λ cells. let r : Region Cell = record { start = start.base; cells = cells } in r ∷ []) (map_twice (cell_map f) Byte Byte (ram_at_start start) (λ b. refl))
pieces_map f names (piece ∷ pieces) start =
    ap₂ (λ cells rest. let r : Region Cell = record { start = piece.piece.extent.address; cells = cells } in r ∷ rest)
    (map_twice (cell_map f) (start_cell names) (start_cell (map f names)) piece.bytes (start_map f names)) (pieces_map f names pieces start)

module _ (T : Ties) (f : ℕ → ℕ) where
  code_tied : (names : List ℕ) (tag : Tag) (k : ℕ) → ((i n : ℕ) → slice_get names i ≡ Some n → T.code n (f n)) → IsStartCell names (Frag tag k) → SameTag T tag (Tagged (tag_map f tag))
  code_tied names (Code n) k h c = h c.0 n c.1
  code_tied names (Part n word) k h c = absurd c

  cells_agree : (o : Option Cell) → Agree SameCell o (option_map (cell_map f) o)
  cells_agree None = tt
  cells_agree (Some c) = cell_rel f c

  -- only the names of code words are asked for
  pub start_memory_rel : (w : World) (names : List ℕ) (start : Start) → ((i n : ℕ) → slice_get names i ≡ Some n → T.code n (f n)) → SameMemory everywhere T (get (regions_at_start w names start)) (get (regions_at_start w (map f names) start))
  start_memory_rel w names start h =
      let m : Cells Cell = get (regions_at_start w names start) in
      let image : get (regions_at_start w (map f names) start) ≡ map_cells (cell_map f) m = ap get (pieces_map f names w.pieces start) ∙ get-map_regions (cell_map f) (regions_at_start w names start) in
      subst (λ n. SameMemory everywhere T m n) (sym image) (record {
        cells = λ x u. cells_agree (m x);
        words = λ x al inside cs e tag whole_is.
            let first = whole_first cs tag whole_is in
            let at : m (x + 0) ≡ Some (Frag tag first.0) = (cells_from_some 4 m x cs e).1 0 (omega arith) ∙ first.1 in
            let tied = code_tied names tag first.0 h (got_is names (regions_at_start w names start) (x + 0) (Frag tag first.0) (pieces_have names w.pieces start) at) in
            let mapped = whole_map f cs tag whole_is in (
              Tagged (tag_map f tag),
              tied,
              record {
                cells = map (cell_map f) cs;
                there = cells_from-map_cells (cell_map f) 4 m x ∙ ap (option_map (map (cell_map f))) e;
                loads = λ go. loads_whole (map (cell_map f) cs) (tag_map f tag) mapped go (no_stale_whole (map (cell_map f) cs) (tag_map f tag) mapped);
              },
            );
      })
