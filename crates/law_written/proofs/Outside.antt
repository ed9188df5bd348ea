-- The code words in the file of a graph: each stands in a piece beside text, and the word there is the new address.
use Rattle.std.proofs.Common.{◌≡◌, ℕ, zero, suc, ◌+◌, ◌-◌, ◌%◌, ◌^◌, ◌<◌, ◌≤◌, Bool, true, false, ◌⊎◌, inl, inr, ⊎_elim, nat_lt, nat_le, min, List, [], ◌∷◌, ◌++◌, length, map, filter, take, drop, Option, Some, None, option_map, slice_get, if◌then◌else◌, refl, sym, ap, subst, ◌∙◌, arith}
use Rattle.std.proofs.lemmas.Bool.{cases_Bool, cases_lt, lt-ltb, le-leb, and_right}
use Rattle.std.proofs.lemmas.List.{length-take, length-drop}
use Rattle.std.proofs.lemmas.Option.{slice_get_within}
use Rattle.byteorder.specs.Endian.{little_bytes}
use Rattle.sq_num.specs.Refusals.{first_from}
use Rattle.sq_elf.specs.declared.segment.Segment.{Segment}
use Rattle.sq_elf.specs.Headers.{phnum_of, is_load, segment_of}
use Rattle.sq_elf.specs.Memory.{has_memory, segments_before, segments_of, file_bytes_of}
use Rattle.sq_elf.specs.Ranges.{lies_in}
use Rattle.sq_elf.specs.Reading.{has_word, word_in, word_of}
use Rattle.sq_elf.specs.Refusing.{file_refusal_of}
use Rattle.sq_elf.specs.Text.{text_of}
use Rattle.sq_reloc.specs.Outside.{word_start}
use Rattle.sq_graph.specs.declared.parts.CodeRef.{CodeRef}
use Rattle.sq_graph.specs.Graph.{Graph}
use Rattle.sq_write.specs.Output.{Piece, Output, text_piece, pieces_of, output_file}
use Rattle.sq_write.specs.Pieces.{insert_segment, by_address, set_word_at, set_byte, with_words, part_of, part_before, part_behind, is_some_piece, pieces_before, pieces_behind}
use Rattle.sq_write.specs.Points.{new_address}
use Rattle.sq_write.specs.Written.{written_output, written}
use Rattle.sq_write.proofs.Assembling.{length_set}
use Rattle.sq_write.proofs.SegmentFacts.{shaped_at}
use Rattle.law_written.specs.Accepting.{IsAcceptable}
use Rattle.law_written.specs.Fitting.{IsFittingPiece}
use Rattle.law_written.specs.Reading.{segment_at}
use Rattle.law_written.specs.Written.{IsWritable}
use Rattle.law_written.proofs.Accepting.{some_from, at_most_not, order_at, at, made_of, same_piece}
use Rattle.law_written.proofs.Lists.{all_at}
use Rattle.law_written.proofs.Pairs.{all_map}
use Rattle.law_written.proofs.OutputParts.{PartAt, part_here, part_behind as part_later, part_from, part_in, word_read}
use Rattle.law_written.proofs.Segments.{Knows, piece_stored, count_is}
use Rattle.law_written.proofs.Sound.{sound_at}
use Rattle.law_written.proofs.Writing.{acceptable}
use Rattle.law_written.specs.CodeWords.{WrittenCodeWordsStand}
use Rattle.law_written.proofs.WrittenRelocations.{StandsIn, stands_in, IsGoodWord, all_good, address_fits}
use Rattle.law_written.proofs.CodeWords.{low_word}
use Rattle.law_written.proofs.Words.{behind_text}

-- ELEMENTS OF LISTS

abbrev pub Has : {X : Type 0} → List X → X → Type 0
Has [] x = ⊥
Has (y ∷ ys) x = (y ≡ x) ⊎ Has ys x

has_front : {X : Type 0} (xs ys : List X) (x : X) → Has xs x → Has (xs ++ ys) x
has_front [] ys x has = absurd has
has_front (z ∷ xs) ys x (inl same) = inl same
has_front (z ∷ xs) ys x (inr later) = inr (has_front xs ys x later)

has_back : {X : Type 0} (xs ys : List X) (x : X) → Has ys x → Has (xs ++ ys) x
has_back [] ys x has = has
has_back (z ∷ xs) ys x has = inr (has_back xs ys x has)

has_kept : {X Y : Type 0} (keep : Y → Bool) (f : X → Y) (xs : List X) (x : X) → keep (f x) ≡ true → Has xs x → Has (filter keep (map f xs)) (f x)
has_kept keep f [] x kept has = absurd has
has_kept keep f (z ∷ xs) x kept (inl same) =
    let here : keep (f z) ≡ true = ap (λ w. keep (f w)) same ∙ kept in rw here (inl (ap f same))
has_kept keep f (z ∷ xs) x kept (inr later) = by_test (cases_Bool (keep (f z))) (has_kept keep f xs x kept later)
  where
    by_test : (keep (f z) ≡ true) ⊎ (keep (f z) ≡ false) → Has (filter keep (map f xs)) (f x) → Has (filter keep (map f (z ∷ xs))) (f x)
    by_test (inl e) more = rw e (inr more)
    by_test (inr e) more = rw e more

place_of : {X : Type 0} (xs : List X) (x : X) → Has xs x → (k : ℕ) × (slice_get xs k ≡ Some x)
place_of [] x has = absurd has
place_of (y ∷ ys) x (inl same) = (0, ap Some same)
place_of (y ∷ ys) x (inr later) = let found = place_of ys x later in (suc found.0, found.1)

-- SEGMENTS BY ADDRESS

insert_has : (s : Segment) (ts : List Segment) → Has (insert_segment s ts) s
insert_has s [] = inl refl
insert_has s (t ∷ ts) = by_test (cases_Bool (nat_le s.address t.address)) (insert_has s ts)
  where
    by_test : (nat_le s.address t.address ≡ true) ⊎ (nat_le s.address t.address ≡ false) → Has (insert_segment s ts) s → Has (insert_segment s (t ∷ ts)) s
    by_test (inl e) more = rw e (inl refl)
    by_test (inr e) more = rw e (inr more)

insert_keeps : (s x : Segment) (ts : List Segment) → Has ts x → Has (insert_segment s ts) x
insert_keeps s x [] has = absurd has
insert_keeps s x (t ∷ ts) has = by_test (cases_Bool (nat_le s.address t.address)) has (λ later. insert_keeps s x ts later)
  where
    by_test : (nat_le s.address t.address ≡ true) ⊎ (nat_le s.address t.address ≡ false) → (t ≡ x) ⊎ Has ts x → (Has ts x → Has (insert_segment s ts) x) → Has (insert_segment s (t ∷ ts)) x
    by_test (inl e) has more = rw e (inr has)
    by_test (inr e) (inl same) more = rw e (inl same)
    by_test (inr e) (inr later) more = rw e (inr (more later))

ordered_has : (ss : List Segment) (x : Segment) → Has ss x → Has (by_address ss) x
ordered_has [] x has = absurd has
ordered_has (s ∷ ss) x (inl same) = subst (λ y. Has (insert_segment s (by_address ss)) y) same (insert_has s (by_address ss))
ordered_has (s ∷ ss) x (inr later) = insert_keeps s x (by_address ss) (ordered_has ss x later)

pub segment_has : (bytes : List ℕ) (n k : ℕ) → k < n → has_memory bytes k ≡ true → Has (segments_before bytes n) (segment_of bytes k)
unfolding segments_before
segment_has bytes zero k below memory = absurd (omega arith)
segment_has bytes (suc n) k below memory = by_place (cases_lt k n) (λ before. segment_has bytes n k before memory)
  where
    here : k ≡ n → Has (segments_before bytes n ++ segment_of bytes n ∷ []) (segment_of bytes k)
    here same = has_back (segments_before bytes n) (segment_of bytes n ∷ []) (segment_of bytes k) (inl (ap (segment_of bytes) (sym same)))

    by_test : (has_memory bytes n ≡ true) ⊎ (has_memory bytes n ≡ false) → Has (segments_before bytes n) (segment_of bytes k) → Has (if has_memory bytes n then segments_before bytes n ++ segment_of bytes n ∷ [] else segments_before bytes n) (segment_of bytes k)
    by_test (inl e) more = rw e (has_front (segments_before bytes n) (segment_of bytes n ∷ []) (segment_of bytes k) more)
    by_test (inr e) more = rw e more

    by_place : (k < n) ⊎ (n ≤ k) → (k < n → Has (segments_before bytes n) (segment_of bytes k)) → Has (if has_memory bytes n then segments_before bytes n ++ segment_of bytes n ∷ [] else segments_before bytes n) (segment_of bytes k)
    by_place (inr last) more =
        let same : k ≡ n = omega arith in
        let full : has_memory bytes n ≡ true = subst (λ j. has_memory bytes j ≡ true) same memory in
        rw full (here same)
    by_place (inl before) more = by_test (cases_Bool (has_memory bytes n)) (more before)

-- the segment of a word has memory
pub has_room : (bytes : List ℕ) (w : ℕ) → file_refusal_of bytes ≡ None → (stands : StandsIn bytes w) → has_memory bytes stands.index ≡ true
has_room bytes w accepted stands =
    let shaped = shaped_at bytes accepted stands.index stands.within stands.load in
    let size : nat_lt 0 (segment_of bytes stands.index).memsz ≡ true = lt-ltb 0 (segment_of bytes stands.index).memsz (omega (arith, shaped.stored, stands.low, stands.high)) in
    rw (stands.load, size) refl

-- A WORD THAT IS SET

four_set : (v a b c d : ℕ) (rest : List ℕ) → set_byte (Some v) 0 a ∷ set_byte (Some v) 1 b ∷ set_byte (Some v) 2 c ∷ set_byte (Some v) 3 d ∷ rest ≡ little_bytes 4 v ++ rest
four_set v a b c d rest = refl

set_bytes : (set : ℕ → Option ℕ) (x v a b c d : ℕ) (rest : List ℕ) → x % 4 ≡ 0 → set x ≡ Some v → with_words set x (a ∷ b ∷ c ∷ d ∷ rest) ≡ little_bytes 4 v ++ with_words set (x + 1 + 1 + 1 + 1) rest
set_bytes set x v a b c d rest aligned is =
    let e0 : word_start x ≡ x = omega arith in
    let e1 : word_start (x + 1) ≡ x = omega arith in
    let e2 : word_start (x + 1 + 1) ≡ x = omega arith in
    let e3 : word_start (x + 1 + 1 + 1) ≡ x = omega arith in
    let r1 : (x + 1) % 4 ≡ 1 = omega arith in
    let r2 : (x + 1 + 1) % 4 ≡ 2 = omega arith in
    let r3 : (x + 1 + 1 + 1) % 4 ≡ 3 = omega arith in
    let last = with_words set (x + 1 + 1 + 1 + 1) rest in
    let first : set_byte (set (word_start x)) (x % 4) a ≡ set_byte (Some v) 0 a = ap (λ y. set_byte (set y) (x % 4) a) e0 ∙ ap (λ o. set_byte o (x % 4) a) is ∙ ap (λ k. set_byte (Some v) k a) aligned in
    let second : set_byte (set (word_start (x + 1))) ((x + 1) % 4) b ≡ set_byte (Some v) 1 b = ap (λ y. set_byte (set y) ((x + 1) % 4) b) e1 ∙ ap (λ o. set_byte o ((x + 1) % 4) b) is ∙ ap (λ k. set_byte (Some v) k b) r1 in
    let third : set_byte (set (word_start (x + 1 + 1))) ((x + 1 + 1) % 4) c ≡ set_byte (Some v) 2 c = ap (λ y. set_byte (set y) ((x + 1 + 1) % 4) c) e2 ∙ ap (λ o. set_byte o ((x + 1 + 1) % 4) c) is ∙ ap (λ k. set_byte (Some v) k c) r2 in
    let fourth : set_byte (set (word_start (x + 1 + 1 + 1))) ((x + 1 + 1 + 1) % 4) d ≡ set_byte (Some v) 3 d = ap (λ y. set_byte (set y) ((x + 1 + 1 + 1) % 4) d) e3 ∙ ap (λ o. set_byte o ((x + 1 + 1 + 1) % 4) d) is ∙ ap (λ k. set_byte (Some v) k d) r3 in
    ap (λ y. y ∷ set_byte (set (word_start (x + 1))) ((x + 1) % 4) b ∷ set_byte (set (word_start (x + 1 + 1))) ((x + 1 + 1) % 4) c ∷ set_byte (set (word_start (x + 1 + 1 + 1))) ((x + 1 + 1 + 1) % 4) d ∷ last) first
    ∙ ap (λ y. set_byte (Some v) 0 a ∷ y ∷ set_byte (set (word_start (x + 1 + 1))) ((x + 1 + 1) % 4) c ∷ set_byte (set (word_start (x + 1 + 1 + 1))) ((x + 1 + 1 + 1) % 4) d ∷ last) second
    ∙ ap (λ y. set_byte (Some v) 0 a ∷ set_byte (Some v) 1 b ∷ y ∷ set_byte (set (word_start (x + 1 + 1 + 1))) ((x + 1 + 1 + 1) % 4) d ∷ last) third
    ∙ ap (λ y. set_byte (Some v) 0 a ∷ set_byte (Some v) 1 b ∷ set_byte (Some v) 2 c ∷ y ∷ last) fourth
    ∙ four_set v a b c d last

set_here : (set : ℕ → Option ℕ) (x v : ℕ) (bs : List ℕ) → x % 4 ≡ 0 → set x ≡ Some v → 4 ≤ length bs → PartAt (with_words set x bs) 0 (little_bytes 4 v)
set_here set x v [] aligned is long = absurd (let f : 4 ≤ 0 = long in omega arith)
set_here set x v (a ∷ []) aligned is long = absurd (let f : 4 ≤ 1 = long in omega arith)
set_here set x v (a ∷ b ∷ []) aligned is long = absurd (let f : 4 ≤ 2 = long in omega arith)
set_here set x v (a ∷ b ∷ c ∷ []) aligned is long = absurd (let f : 4 ≤ 3 = long in omega arith)
set_here set x v (a ∷ b ∷ c ∷ d ∷ rest) aligned is long =
    subst (λ xs. PartAt xs 0 (little_bytes 4 v)) (sym (set_bytes set x v a b c d rest aligned is)) (part_here (little_bytes 4 v) (with_words set (x + 1 + 1 + 1 + 1) rest))

pub word_is_set : (set : ℕ → Option ℕ) (x m v : ℕ) (bs : List ℕ) → (x + m) % 4 ≡ 0 → set (x + m) ≡ Some v → m + 4 ≤ length bs → PartAt (with_words set x bs) m (little_bytes 4 v)
word_is_set set x zero v bs aligned is long =
    let none : x + 0 ≡ x = omega arith in
    set_here set x v bs (ap (λ n. n % 4) (sym none) ∙ aligned) (ap set (sym none) ∙ is) (omega (arith, long))
word_is_set set x (suc m) v [] aligned is long = absurd (let f : suc m + 4 ≤ 0 = long in omega arith)
word_is_set set x (suc m) v (b ∷ bs) aligned is long =
    let next : x + 1 + m ≡ x + suc m = omega arith in
    part_from (with_words set x (b ∷ bs)) (1 + m) (suc m) (little_bytes 4 v) (omega arith)
    (part_later (set_byte (set (word_start x)) (x % 4) b ∷ []) (with_words set (x + 1) bs) m (little_bytes 4 v)
    (word_is_set set (x + 1) m v bs (ap (λ n. n % 4) next ∙ aligned) (ap set next ∙ is) (omega (arith, long))))

-- READING IT

module _ (o : Output) (can : IsAcceptable o) (j : ℕ) (p : Piece) (is_piece : slice_get (pieces_of o) j ≡ Some p) (w v : ℕ) (low : p.address ≤ w) (has : PartAt p.bytes (w - p.address) (little_bytes 4 v)) (high : w + 4 ≤ p.address + length p.bytes) (small : v < 2 ^ 32) where
  not_in : (q : Piece) → q.address + length q.bytes ≤ p.address → lies_in w 4 q.address (length q.bytes) ≡ false
  not_in q ends = and_right (nat_le q.address w) (nat_le (w + 4) (q.address + length q.bytes)) (at_most_not (w + 4) (q.address + length q.bytes) (omega arith))

  within : j < phnum_of (output_file o)
  within = omega (arith, count_is o can.fits, slice_get_within (pieces_of o) j p is_piece)

  earlier_not : (i : ℕ) → i < j → has_word (output_file o) w i ≡ false
  earlier_not i below =
      let here = at o can i (omega (arith, within)) in
      let before = order_at (pieces_of o) can.in_order i j here.piece p below here.is_piece is_piece in
      let fitting = all_at IsFittingPiece (pieces_of o) can.fits.pieces i here.piece here.is_piece in
      and_right (is_load (output_file o) i) (lies_in w 4 (segment_of (output_file o) i).address (segment_of (output_file o) i).filesz)
      (subst (λ (s : Segment). lies_in w 4 s.address s.filesz ≡ false) (sym (made_of o can i here)) (not_in here.piece (omega (arith, before.ends, fitting.stored))))

  here : Knows o can.fits j
  here = at o can j within

  same : here.piece ≡ p
  same = same_piece o can here.piece p (slice_get (pieces_of o) j) here.is_piece is_piece

  segment_is : segment_of (output_file o) j ≡ segment_at here.segment.offset p
  segment_is = made_of o can j here ∙ ap (segment_at here.segment.offset) same

  in_piece : has_word (output_file o) w j ≡ true
  in_piece =
      let above : nat_le p.address w ≡ true = le-leb p.address w low in
      let below : nat_le (w + 4) (p.address + length p.bytes) ≡ true = le-leb (w + 4) (p.address + length p.bytes) high in
      let lies : lies_in w 4 p.address (length p.bytes) ≡ true = rw (above, below) refl in
      let there : lies_in w 4 (segment_of (output_file o) j).address (segment_of (output_file o) j).filesz ≡ true =
      subst (λ (s : Segment). lies_in w 4 s.address s.filesz ≡ true) (sym segment_is) lies
      in
      rw (here.read.load, there) refl

  found : first_from (has_word (output_file o) w) 0 (phnum_of (output_file o)) ≡ Some j
  found = some_from (has_word (output_file o) w) 0 (phnum_of (output_file o)) j (omega arith) (omega (arith, within)) (λ i least below. earlier_not i below) in_piece

  stored : PartAt (output_file o) (here.segment.offset + (w - p.address)) (little_bytes 4 v)
  stored =
      let bytes : PartAt (output_file o) here.segment.offset p.bytes = subst (λ (q : Piece). PartAt (output_file o) here.segment.offset q.bytes) same (piece_stored o j here.piece here.segment here.is_piece here.is_segment) in
      part_in (output_file o) here.segment.offset (w - p.address) p.bytes (little_bytes 4 v) bytes has

  word_here : word_in (output_file o) (segment_of (output_file o) j) w ≡ v
  word_here =
      ap (λ s. word_in (output_file o) s w) segment_is
      ∙ word_read (output_file o) (here.segment.offset + (w - p.address)) v small stored

  pub word_in_piece : word_of (output_file o) w ≡ Some v
  unfolding word_of
  word_in_piece =
      ap (option_map (λ index. word_in (output_file o) (segment_of (output_file o) index) w)) found
      ∙ ap Some word_here

-- THE PART OF A SEGMENT THAT HAS A CODE WORD

module _ (bytes : List ℕ) (g : Graph) (can : IsWritable bytes g) (word : CodeRef) (good : IsGoodWord bytes g word) where
  abbrev set : ℕ → Option ℕ
  set = set_word_at g (text_of bytes).lo

  abbrev value : ℕ
  value = new_address g (text_of bytes).lo word.block

  set_is : set_word_at g (text_of bytes).lo word.at ≡ Some (new_address g (text_of bytes).lo word.block)
  set_is = ap (option_map (λ w. new_address g (text_of bytes).lo w.block)) good.own

  stands : StandsIn bytes word.at
  stands = stands_in bytes word.at good.target good.facts.in_file

  abbrev segment : Segment
  segment = segment_of bytes stands.index

  memory : has_memory bytes stands.index ≡ true
  memory = has_room bytes word.at can.accepted stands

  stored_length : length (file_bytes_of bytes segment) ≡ segment.filesz
  stored_length =
      let shaped = shaped_at bytes can.accepted stands.index stands.within stands.load in
      let sound = sound_at bytes can.accepted stands.index stands.within stands.load (omega (arith, shaped.stored, stands.low, stands.high)) in
      sound.whole

  ordered : Has (by_address (segments_of bytes)) segment
  ordered = ordered_has (segments_of bytes) segment (segment_has bytes (phnum_of bytes) stands.index stands.within memory)

  -- a part of the segment around the word
  record IsAround (p : Piece) : Type 0 where
    low : p.address ≤ word.at
    has : PartAt p.bytes (word.at - p.address) (little_bytes 4 value)
    high : word.at + 4 ≤ p.address + length p.bytes

  part_around : (skip size : ℕ) → segment.address + skip ≤ word.at → word.at + 4 ≤ segment.address + skip + size → IsAround (part_of bytes set skip size segment)
  part_around skip size low high =
      let cut : List ℕ = take size (drop skip (file_bytes_of bytes segment)) in
      let long : word.at - (segment.address + skip) + 4 ≤ length (take size (drop skip (file_bytes_of bytes segment))) = omega (arith, length-take size (drop skip (file_bytes_of bytes segment)), length-drop skip (file_bytes_of bytes segment), stored_length, low, high, stands.high) in
      let there : segment.address + skip + (word.at - (segment.address + skip)) ≡ word.at = omega arith in
      record {
        low = low;
        has =
            word_is_set set (segment.address + skip) (word.at - (segment.address + skip)) value (take size (drop skip (file_bytes_of bytes segment)))
            (ap (λ n. n % 4) there ∙ good.facts.aligned) (ap set there ∙ set_is) long;
        high = omega (arith, long, length_set set (segment.address + skip) (take size (drop skip (file_bytes_of bytes segment))));
      }

  -- the piece that has it
  record Holds : Type 0 where
    piece : Piece
    there : Has (pieces_of (written_output bytes g)) piece
    around : IsAround piece

  before_text : word.at < (text_of bytes).lo → Holds
  before_text below =
      let shaped = shaped_at bytes can.accepted stands.index stands.within stands.load in
      let size = min segment.memsz ((text_of bytes).lo - segment.address) in
      let ends : word.at + 4 ≤ (text_of bytes).lo = omega (arith, below, good.facts.aligned, low_word bytes g can) in
      let around = part_around 0 (min segment.memsz ((text_of bytes).lo - segment.address)) (omega (arith, stands.low)) (omega (arith, ends, stands.low, stands.high, shaped.stored)) in
      let some : is_some_piece (part_before bytes set segment) ≡ true = lt-ltb 0 (min segment.memsz ((text_of bytes).lo - segment.address)) (omega (arith, ends, stands.low, stands.high, shaped.stored)) in
      record {
        piece = part_before bytes set segment;
        there = has_front (pieces_before bytes set) (text_piece (written_output bytes g) ∷ pieces_behind bytes set) (part_before bytes set segment) (has_kept is_some_piece (part_before bytes set) (by_address (segments_of bytes)) segment some ordered);
        around = around;
      }

  behind_all_text : (text_of bytes).hi ≤ word.at → Holds
  behind_all_text above =
      let shaped = shaped_at bytes can.accepted stands.index stands.within stands.load in
      let skip = (text_of bytes).hi - segment.address in
      let around = part_around ((text_of bytes).hi - segment.address) (segment.memsz - ((text_of bytes).hi - segment.address)) (omega (arith, above, stands.low)) (omega (arith, above, stands.low, stands.high, shaped.stored)) in
      let some : is_some_piece (part_behind bytes set segment) ≡ true = lt-ltb 0 (segment.memsz - ((text_of bytes).hi - segment.address)) (omega (arith, above, stands.low, stands.high, shaped.stored)) in
      record {
        piece = part_behind bytes set segment;
        there =
            has_back (pieces_before bytes set) (text_piece (written_output bytes g) ∷ pieces_behind bytes set) (part_behind bytes set segment)
            (inr (has_kept is_some_piece (part_behind bytes set) (by_address (segments_of bytes)) segment some ordered));
        around = around;
      }

  holds : Holds
  holds =
      ⊎_elim
      (λ (below : word.at < (text_of bytes).lo). before_text below)
      (λ (above : (text_of bytes).lo ≤ word.at). behind_all_text (behind_text (text_of bytes).lo (text_of bytes).hi word.at good.facts.outside above))
      (cases_lt word.at (text_of bytes).lo)

  pub code_word_stands : word_of (written bytes g) word.at ≡ Some (new_address g (text_of bytes).lo word.block)
  unfolding written
  code_word_stands =
      let held = holds in
      let place = place_of (pieces_of (written_output bytes g)) held.piece held.there in
      word_in_piece (written_output bytes g) (acceptable bytes g can) place.0 held.piece place.1 word.at (new_address g (text_of bytes).lo word.block) held.around.low held.around.has held.around.high (address_fits bytes g can word.block good.there)

pub written_code_words_stand : WrittenCodeWordsStand
written_code_words_stand = λ bytes g can.
    all_map (IsGoodWord bytes g) (λ word. word_of (written bytes g) word.at ≡ Some (new_address g (text_of bytes).lo word.block)) (code_word_stands bytes g can) g.code_words (all_good bytes g can)
