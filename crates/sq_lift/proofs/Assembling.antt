-- The parts of a graph put together.
use Rattle.std.proofs.Common.{◌≡◌, ℕ, zero, suc, ◌+◌, ◌*◌, ◌%◌, ◌<◌, Bool, true, false, not, ◌&&◌, List, [], ◌∷◌, ◌++◌, length, drop, take, map, is_some, refl, sym, ap, ◌∙◌, subst, arith, append_assoc, if◌then◌else◌}
use Rattle.std.specs.Prelude.{slice_get}
use Rattle.std.specs.List.{AllByRecursion, flat_map}
use Rattle.std.specs.Option.{option_and_then}
use Rattle.std.proofs.lemmas.List.{map-append, length-append, length-map}
use Rattle.std.proofs.lemmas.List.Sums.{sum_by-cons}
use Rattle.sq_graph.specs.declared.item.Item.{Item}
use Rattle.sq_graph.specs.declared.parts.BlockPart.{BlockPart}
use Rattle.sq_graph.specs.declared.parts.ProcedurePart.{ProcedurePart}
use Rattle.sq_graph.specs.declared.parts.CodeRef.{CodeRef}
use Rattle.sq_graph.specs.Graph.{Block}
use Rattle.sq_graph.specs.Blocks.{items_of_blocks}
use Rattle.sq_graph.specs.Parts.{blocks_of_parts, procedures_of_parts, length_of_blocks, length_of_bodies, LengthsFit, graph_of_parts, names_of}
use Rattle.sq_graph.specs.Renames.{retargeted_item, retargeted_items, retargeted_term, retargeted_words, retargeted_procedure, renamed_block, renamed}
use Rattle.law_program.specs.Programs.{Word, Text, Note, Program, is_word}
use Rattle.law_program.specs.Notes.{used_notes, is_in_procedures}
use Rattle.law_program.specs.Lifted.{is_kept, is_leader, cut, procedure_of, code_ref, lifted_with}
use Rattle.sq_lift.proofs.Placed.{place_at, word_by_place}
use Rattle.sq_lift.specs.Cuts.{part_of, ShowsBlocks, note_part, body_of, starts}
use Rattle.sq_graph.specs.Slotted.{position_in, slotted}
use Rattle.sq_graph.proofs.Slotting.{AreNumbered}
use Rattle.sq_lift.proofs.Numbering.{starts_numbered}
use Rattle.sq_lift.proofs.Cutting.{names_are, same_cut}

-- LISTS

taken : {X : Type 0} (xs ys : List X) (n : ℕ) → n ≡ length xs → take n (xs ++ ys) ≡ xs
taken xs ys n is = ap (λ k. take k (xs ++ ys)) is ∙ all xs
  where
    all : (xs : List _) → take (length xs) (xs ++ ys) ≡ xs
    all [] = refl
    all (x ∷ xs) = ap (λ zs. x ∷ zs) (all xs)

dropped : {X : Type 0} (xs ys : List X) (n : ℕ) → n ≡ length xs → drop n (xs ++ ys) ≡ ys
dropped xs ys n is = ap (λ k. drop k (xs ++ ys)) is ∙ all xs
  where
    all : (xs : List _) → drop (length xs) (xs ++ ys) ≡ ys
    all [] = refl
    all (x ∷ xs) = all xs

module _ (f : ℕ → ℕ) where
  -- BLOCKS

  long : (items : List Item) → length items ≡ length (retargeted_items f items)
  long items = sym (length-map items (retargeted_item f))

  split : (b : Block) (bs : List Block) (more : List Item) → retargeted_items f (items_of_blocks (b ∷ bs)) ++ more ≡ retargeted_items f b.items ++ (retargeted_items f (items_of_blocks bs) ++ more)
  split b bs more =
      ap (λ xs. xs ++ more) (map-append (retargeted_item f) b.items (items_of_blocks bs))
      ∙ append_assoc (retargeted_items f b.items) (retargeted_items f (items_of_blocks bs)) more

  blocks_are : (k : ℕ) (bs : List Block) (more : List Item) → AreNumbered f k (map (λ b. b.name) bs) → blocks_of_parts k (map (part_of f) bs) (retargeted_items f (items_of_blocks bs) ++ more) ≡ map (renamed_block f) bs
  blocks_are k [] more numbered = refl
  blocks_are k (b ∷ bs) more numbered =
      let items : take (length b.items) (retargeted_items f (items_of_blocks (b ∷ bs)) ++ more) ≡ retargeted_items f b.items =
      ap (take (length b.items)) (split b bs more) ∙ taken (retargeted_items f b.items) (retargeted_items f (items_of_blocks bs) ++ more) (length b.items) (long b.items)
      in
      let behind : drop (length b.items) (retargeted_items f (items_of_blocks (b ∷ bs)) ++ more) ≡ retargeted_items f (items_of_blocks bs) ++ more =
      ap (drop (length b.items)) (split b bs more) ∙ dropped (retargeted_items f b.items) (retargeted_items f (items_of_blocks bs) ++ more) (length b.items) (long b.items)
      in
      let rest : blocks_of_parts (k + 1) (map (part_of f) bs) (drop (length b.items) (retargeted_items f (items_of_blocks (b ∷ bs)) ++ more)) ≡ map (renamed_block f) bs =
      ap (blocks_of_parts (k + 1) (map (part_of f) bs)) behind ∙ blocks_are (k + 1) bs more numbered.1
      in
      λ i. record { name = sym numbered.0 i; items = items i; term = retargeted_term f b.term } ∷ rest i

  blocks_long : (bs : List Block) → length_of_blocks (map (part_of f) bs) ≡ length (items_of_blocks bs)
  blocks_long [] = refl
  blocks_long (b ∷ bs) = sum_by-cons (λ (part : BlockPart). part.length) (part_of f b) (map (part_of f) bs) ∙ ap (λ n. length b.items + n) (blocks_long bs) ∙ sym (length-append b.items (items_of_blocks bs))

  -- PROCEDURES

  module _ (t : Text) where
    bodies : List Note → List Item
    bodies ns = flat_map (body_of t) ns

    procedures_are : (ns : List Note) → AllByRecursion (λ n. n.link < 32) ns → procedures_of_parts (map (note_part t) ns) (retargeted_items f (flat_map (body_of t) ns)) ≡ map (retargeted_procedure f) (map (procedure_of t) ns)
    procedures_are [] links = refl
    procedures_are (n ∷ ns) links =
        let body : List Item = body_of t n in
        let rest : List Item = retargeted_items f (flat_map (body_of t) ns) in
        let parted : retargeted_items f (body ++ flat_map (body_of t) ns) ≡ retargeted_items f body ++ rest = map-append (retargeted_item f) body (flat_map (body_of t) ns) in
        let small : n.link < 32 = links.0 in
        let link : n.link % 32 ≡ n.link = omega (arith, small) in
        let items : take (length body) (retargeted_items f (body ++ flat_map (body_of t) ns)) ≡ retargeted_items f body = ap (take (length body)) parted ∙ taken (retargeted_items f body) rest (length body) (long body) in
        let behind : drop (length body) (retargeted_items f (body ++ flat_map (body_of t) ns)) ≡ rest = ap (drop (length body)) parted ∙ dropped (retargeted_items f body) rest (length body) (long body) in
        let others = ap (procedures_of_parts (map (note_part t) ns)) behind ∙ procedures_are ns links.1 in
        λ i. record { link = link i; body = items i } ∷ others i

    bodies_long : (ns : List Note) → length_of_bodies (map (note_part t) ns) ≡ length (flat_map (body_of t) ns)
    bodies_long [] = refl
    bodies_long (n ∷ ns) = sum_by-cons (λ (part : ProcedurePart). part.length) (note_part t n) (map (note_part t) ns) ∙ ap (λ k. length (body_of t n) + k) (bodies_long ns) ∙ sym (length-append (body_of t n) (flat_map (body_of t) ns))

    -- THE GRAPH

    module _ (bs : List Block) (ns : List Note) (block_items items : List Item) (parts : List BlockPart) (procedures : List ProcedurePart) (shows : ShowsBlocks f bs block_items parts) (all : items ≡ block_items ++ retargeted_items f (flat_map (body_of t) ns)) (listed : procedures ≡ map (note_part t) ns) where
      items_are : items ≡ retargeted_items f (items_of_blocks bs) ++ retargeted_items f (flat_map (body_of t) ns)
      items_are = all ∙ ap (λ xs. xs ++ retargeted_items f (flat_map (body_of t) ns)) shows.items_are

      blocks_count : length_of_blocks parts ≡ length (retargeted_items f (items_of_blocks bs))
      blocks_count = ap length_of_blocks shows.parts_are ∙ blocks_long bs ∙ long (items_of_blocks bs)

      pub lengths_fit : LengthsFit parts items procedures
      lengths_fit =
          (λ i. blocks_count i + (ap length_of_bodies listed ∙ bodies_long ns ∙ long (flat_map (body_of t) ns)) i)
          ∙ sym (ap length items_are ∙ length-append (retargeted_items f (items_of_blocks bs)) (retargeted_items f (flat_map (body_of t) ns)))

      pub graph_is : (entry made_entry : ℕ) (refs made_refs : List CodeRef) → AreNumbered f 0 (map (λ b. b.name) bs) → AllByRecursion (λ n. n.link < 32) ns → made_entry ≡ f entry → made_refs ≡ retargeted_words f refs → graph_of_parts parts items made_entry made_refs procedures ≡ renamed f (record { blocks = bs; entry = entry; code_words = refs; procedures = map (procedure_of t) ns })
      graph_is entry made_entry refs made_refs numbered links at words =
          let blocks : blocks_of_parts 0 parts items ≡ map (renamed_block f) bs =
          (λ i. blocks_of_parts 0 (shows.parts_are i) (items_are i)) ∙ blocks_are 0 bs (retargeted_items f (flat_map (body_of t) ns)) numbered
          in
          let behind : drop (length_of_blocks parts) items ≡ retargeted_items f (flat_map (body_of t) ns) =
          ap (drop (length_of_blocks parts)) items_are ∙ dropped (retargeted_items f (items_of_blocks bs)) (retargeted_items f (flat_map (body_of t) ns)) (length_of_blocks parts) blocks_count
          in
          let bodies : procedures_of_parts procedures (drop (length_of_blocks parts) items) ≡ map (retargeted_procedure f) (map (procedure_of t) ns) =
          (λ i. procedures_of_parts (listed i) (behind i)) ∙ procedures_are ns links
          in
          λ i. record { blocks = blocks i; entry = at i; code_words = words i; procedures = bodies i }

-- BY THE SETS OF WORDS

word_there : (t : Text) (i : ℕ) → i < length t.words → is_word t (t.lo + 4 * i) ≡ true
word_there t i h = ap is_some (word_by_place t (t.lo + 4 * i) ∙ ap (option_and_then (slice_get t.words)) (place_at t.lo i)) ∙ some t.words i h
  where
    some : (ws : List Word) (i : ℕ) → i < length ws → is_some (slice_get ws i) ≡ true
    some [] i h = absurd (omega (arith, h))
    some (w ∷ ws) zero h = refl
    some (w ∷ ws) (suc i) h = some ws i (omega (arith, h))

module _ (is : ℕ → Bool) (ns : List Note) (p : Program) (inside leaders : ℕ → Bool) (inside_is : (x : ℕ) → inside x ≡ (is_word p.text x && is_in_procedures ns x)) (leaders_are : (x : ℕ) → leaders x ≡ (is_word p.text x && is_leader is ns p x)) where
  abbrev keeps : ℕ → Bool
  keeps x = is x && not (inside x)

  same : (i : ℕ) → i < length p.text.words → (keeps (p.text.lo + 4 * i) ≡ is_kept is ns (p.text.lo + 4 * i)) × (leaders (p.text.lo + 4 * i) ≡ is_leader is ns p (p.text.lo + 4 * i))
  same i h =
      let x : ℕ = p.text.lo + 4 * i in
      let there : is_word p.text x ≡ true = word_there p.text i h in
      (ap (λ b. is x && not b) (inside_is x ∙ ap (λ b. b && is_in_procedures ns x) there), leaders_are x ∙ ap (λ b. b && is_leader is ns p x) there)

  pub blocks_cut : (cut keeps leaders ns p.text p.text.lo p.text.words).blocks ≡ (lifted_with is ns p).blocks
  blocks_cut = ap (λ r. r.blocks) (same_cut keeps (is_kept is ns) leaders (is_leader is ns p) ns p.text p.text.lo p.text.words same)

  pub names_cut : starts keeps leaders p.text.lo p.text.words ≡ names_of (lifted_with is ns p)
  names_cut = sym (names_are keeps leaders ns p.text p.text.lo p.text.words) ∙ ap (map (λ (b : Block). b.name)) blocks_cut

  -- the parts make the graph
  pub parts_make : (f : ℕ → ℕ) (begin : List ℕ) (block_items items : List Item) (parts : List BlockPart) (procedures : List ProcedurePart) (made_entry : ℕ) (made_refs : List CodeRef) → begin ≡ starts keeps leaders p.text.lo p.text.words → ((x : ℕ) → f x ≡ position_in begin x) → ShowsBlocks f (cut keeps leaders ns p.text p.text.lo p.text.words).blocks block_items parts → items ≡ block_items ++ retargeted_items f (flat_map (body_of p.text) ns) → procedures ≡ map (note_part p.text) ns → AllByRecursion (λ n. n.link < 32) ns → made_entry ≡ f p.entry → made_refs ≡ retargeted_words f (map code_ref p.code_words) → graph_of_parts parts items made_entry made_refs procedures ≡ slotted (lifted_with is ns p)
  parts_make f begin block_items items parts procedures made_entry made_refs begins by shows all listed links at words =
      let same_f : f ≡ position_in (starts keeps leaders p.text.lo p.text.words) = λ i x. (by x ∙ ap (λ xs. position_in xs x) begins) i in
      let bs : List Block = (cut keeps leaders ns p.text p.text.lo p.text.words).blocks in
      let numbered : AreNumbered f 0 (map (λ b. b.name) bs) =
      subst (λ g. AreNumbered g 0 (map (λ b. b.name) bs)) (sym same_f)
      (subst (λ names. AreNumbered (position_in (starts keeps leaders p.text.lo p.text.words)) 0 names) (sym (names_are keeps leaders ns p.text p.text.lo p.text.words)) (starts_numbered keeps leaders p.text.lo p.text.words))
      in
      graph_is f p.text bs ns block_items items parts procedures shows all listed p.entry made_entry (map code_ref p.code_words) made_refs numbered links at words
      ∙ (λ i. renamed (same_f i) (record { blocks = blocks_cut i; entry = p.entry; code_words = map code_ref p.code_words; procedures = map (procedure_of p.text) ns }))
      ∙ ap (λ xs. renamed (position_in xs) (lifted_with is ns p)) names_cut

-- the links of the notes that are used
pub used_links : (is : ℕ → Bool) (notes : List Note) → AllByRecursion (λ n. n.link < 32) notes → AllByRecursion (λ n. n.link < 32) (used_notes is notes)
used_links is [] links = tt
used_links is (n ∷ notes) links = by (is n.address) (used_links is notes links.1)
  where
    by : (b : Bool) → AllByRecursion (λ n. n.link < 32) (used_notes is notes) → AllByRecursion (λ n. n.link < 32) (if b then n ∷ used_notes is notes else used_notes is notes)
    by true rest = (links.0, rest)
    by false rest = rest
