-- The world of a file, as its cells are made.
use Rattle.std.proofs.Common.{◌≡◌, ℕ, suc, ◌+◌, ◌-◌, ◌%◌, Bool, true, false, nat_eq, nat_lt, cond, if◌then◌else◌, List, [], ◌∷◌, ◌++◌, length, map, replicate, Option, Some, None, refl, ap, ap₂, ◌∙◌}
use Rattle.std.specs.Option.{option_map}
use Rattle.std.specs.List.{find, slice_get, flat_map}
use Rattle.std.proofs.lemmas.List.{map-append}
use Rattle.sq_elf.specs.declared.segment.Segment.{Segment}
use Rattle.sq_elf.specs.Memory.{MemoryPiece, own_piece, copy_piece}
use Rattle.sq_elf.specs.Segments.{copy_size}
use Rattle.sq_reloc.specs.declared.mark.CodeWord.{CodeWord}
use Rattle.sq_reloc.specs.CodeWords.{AreCodeWords, listed_at}
use Rattle.sq_reloc.specs.Outside.{is_stale, word_start}
use Rattle.sq_memory.specs.Regions.{Region}
use Rattle.law_follow.specs.Values.{Cell, Byte, Stale}
use Rattle.law_follow.specs.Worlds.{StartByte, Given, StaleByte, start_cell, word_cell, piece_of, piece_region}
use Rattle.law_program.specs.Programs.{target_of}
use Rattle.law_program.specs.FileRuns.{code_word_number, byte_of_word, stale_or, start_byte, start_bytes, start_piece, segment_pieces}
use Rattle.sq_monitor.specs.FileCells.{part_or, file_cell, file_cells, file_region, file_piece, segment_regions, segment_layout, stale_or as stale_cell}

abbrev number_cell : ℕ → List ℕ → Option ℕ → Cell → Cell
number_cell k names None other = other
number_cell k names (Some i) other = word_cell k (slice_get names i)

shifted : (k t : ℕ) (ts : List ℕ) (o : Option ℕ) (c : Cell) → number_cell k (t ∷ ts) (option_map suc o) c ≡ number_cell k ts o c
shifted k t ts None c = refl
shifted k t ts (Some i) c = refl

lookup : (words : List CodeWord) (x k : ℕ) (c : Cell) → number_cell k (map target_of words) (code_word_number words x) c ≡ part_or k (listed_at words x) c
lookup [] x k c = refl
lookup (w ∷ ws) x k c = tell (nat_eq w.at x) (lookup ws x k c)
  where
    tell : (b : Bool) → number_cell k (map target_of ws) (code_word_number ws x) c ≡ part_or k (listed_at ws x) c →
        number_cell k (target_of w ∷ map target_of ws) (cond b (Some 0) (option_map suc (code_word_number ws x))) c ≡ part_or k (option_map (λ word. word.to) (cond b (Some w) (find (λ word. nat_eq word.at x) ws))) c
    tell true h = refl
    tell false h = shifted k (target_of w) (map target_of ws) (code_word_number ws x) c ∙ h

of_word : (names : List ℕ) (k : ℕ) (o : Option ℕ) (other : StartByte) → start_cell names (byte_of_word k o other) ≡ number_cell k names o (start_cell names other)
of_word names k None other = refl
of_word names k (Some i) other = refl

stale_one : (names : List ℕ) (b : Bool) (v : ℕ) → start_cell names (if b then StaleByte else Given v) ≡ (if b then Stale else Byte v)
stale_one names true v = refl
stale_one names false v = refl

module _ (bytes : List ℕ) (words : List CodeWord) (are : AreCodeWords bytes words) where
  abbrev names : List ℕ
  names = map target_of words

  cell_same : (x b : ℕ) → start_cell names (start_byte bytes words x b) ≡ file_cell bytes x b
  cell_same x b =
      of_word names (x % 4) (code_word_number words (word_start x)) (stale_or bytes x b)
      ∙ ap (number_cell (x % 4) names (code_word_number words (word_start x))) (stale_one names (is_stale bytes x) b)
      ∙ lookup words (word_start x) (x % 4) (stale_cell bytes x b)
      ∙ ap (λ o. part_or (x % 4) o (stale_cell bytes x b)) (are.exactly (word_start x))

  cells_same : (x : ℕ) (bs : List ℕ) → map (start_cell names) (start_bytes bytes words x bs) ≡ file_cells bytes x bs
  cells_same x [] = refl
  cells_same x (b ∷ bs) = ap₂ (λ (c : Cell) cs. c ∷ cs) (cell_same x b) (cells_same (x + 1) bs)

  region_same : (x : ℕ) (p : MemoryPiece) → piece_region names (start_piece bytes words x p) ≡ file_region bytes x p
  region_same x p = ap (λ cells. record { start = p.address; cells = cells }) (cells_same x (p.bytes ++ replicate (p.length - length p.bytes) 0))

  regions_by_test : (s : Segment) (b : Bool) →
      map (piece_region names) (start_piece bytes words s.address (own_piece bytes s) ∷ (if b then start_piece bytes words s.address (copy_piece bytes s) ∷ [] else []))
      ≡ file_region bytes s.address (own_piece bytes s) ∷ (if b then file_region bytes s.address (copy_piece bytes s) ∷ [] else [])
  regions_by_test s true = ap₂ (λ (r : Region Cell) rs. r ∷ rs) (region_same s.address (own_piece bytes s)) (ap (λ (r : Region Cell). r ∷ []) (region_same s.address (copy_piece bytes s)))
  regions_by_test s false = ap (λ (r : Region Cell). r ∷ []) (region_same s.address (own_piece bytes s))

  layout_by_test : (s : Segment) (b : Bool) →
      map piece_of (start_piece bytes words s.address (own_piece bytes s) ∷ (if b then start_piece bytes words s.address (copy_piece bytes s) ∷ [] else []))
      ≡ file_piece (own_piece bytes s) ∷ (if b then file_piece (copy_piece bytes s) ∷ [] else [])
  layout_by_test s true = refl
  layout_by_test s false = refl

  flat_same : {A B : Type 0} (f : A → B) (g : Segment → List A) (h : Segment → List B) → ((s : Segment) → map f (g s) ≡ h s) → (segments : List Segment) → map f (flat_map g segments) ≡ flat_map h segments
  flat_same f g h each [] = refl
  flat_same f g h each (s ∷ segments) = map-append f (g s) (flat_map g segments) ∙ ap₂ (λ xs ys. xs ++ ys) (each s) (flat_same f g h each segments)

  pub regions_are : (segments : List Segment) → map (piece_region names) (flat_map (segment_pieces bytes words) segments) ≡ flat_map (segment_regions bytes bytes) segments
  regions_are = flat_same (piece_region names) (segment_pieces bytes words) (segment_regions bytes bytes) (λ s. regions_by_test s (nat_lt 0 (copy_size s)))

  pub layout_is : (segments : List Segment) → map piece_of (flat_map (segment_pieces bytes words) segments) ≡ flat_map (segment_layout bytes) segments
  layout_is = flat_same piece_of (segment_pieces bytes words) (segment_layout bytes) (λ s. layout_by_test s (nat_lt 0 (copy_size s)))
