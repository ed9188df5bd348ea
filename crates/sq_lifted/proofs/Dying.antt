-- Links that are dead behind calls, block by block.
use Rattle.std.proofs.Common.{◌≡◌, ◌⊎◌, inl, inr, ℕ, zero, suc, ◌+◌, ◌<◌, ◌≤◌, Bool, true, false, ◌==◌, nat_eq, List, [], ◌∷◌, ◌++◌, length, map, drop, get_or, Some, slice_get, if◌then◌else◌, refl, sym, ap, ◌∙◌, subst, arith}
use Rattle.std.specs.Prelude.{slice_set, slice_index, replicate}
use Rattle.std.specs.List.{AllByRecursion, Contains, flat_map}
use Rattle.std.proofs.lemmas.List.{length-append}
use Rattle.std.proofs.lemmas.List.Elements.{Contains-append_left, Contains-append_right}
use Rattle.std.proofs.lemmas.Bool.{cases_eq, eq-eqb}
use Rattle.std.proofs.lemmas.Map.Keys.{IsDistinct-head, IsDistinct-tail}
use Rattle.sq_arena.specs.Entries.{HasDistinctKeys, keys, value_of}
use Rattle.sq_graph.specs.declared.item.Item.{Item}
use Rattle.sq_graph.specs.declared.item.Item.TheVariants.{Op, Hi, Lo, Out}
use Rattle.sq_graph.specs.declared.item.Term.{Term}
use Rattle.sq_graph.specs.declared.item.Term.TheVariants.{Fall, Jump, Branch, Call, PartJump, Indirect, Stop}
use Rattle.sq_graph.specs.Graph.{Block, Graph}
use Rattle.sq_graph.specs.Blocks.{named, HasBlock, block_items, items_of, link_of, items_of_blocks, items_of_bodies, all_items}
use Rattle.sq_graph.specs.Uses.{item_calls, calls}
use Rattle.sq_graph.specs.Parts.{names_of}
use Rattle.sq_graph.specs.Rules.{IsGraph}
use Rattle.sq_graph.specs.Lines.{Line, line_of, term_lines, body_lines, lines_of, behind_name, place_lines}
use Rattle.sq_graph.specs.Walks.{IsLive}
use Rattle.law_program.specs.FilePrograms.{LinkDies}
use Rattle.sq_lifted.specs.LiveLinks.{ItemDies, ItemsDie, BlockDies, BlocksDie, Marks, AreLiveLinks}

-- FLAGS

pub marks_none : (P : ℕ → Type 0) (flags : List Bool) → ((q : ℕ) → P q) → Marks P flags flags
marks_none P flags h = record { count = refl; unset = λ q e. (e, h q); set = λ q e. inl e }

pub marks_then : (P Q : ℕ → Type 0) (a b c : List Bool) → Marks P a b → Marks Q b c → Marks (λ q. P q × Q q) a c
marks_then P Q a b c first second = record {
  count = second.count ∙ first.count;
  unset = λ q e. let s = second.unset q e in let f = first.unset q s.0 in (f.0, (f.1, s.1));
  set = λ q e. by q (second.set q e);
}
  where
    before : (q : ℕ) → (slice_get a q ≡ Some true) ⊎ ¬ P q → (slice_get a q ≡ Some true) ⊎ ¬ (P q × Q q)
    before q (inl e) = inl e
    before q (inr never) = inr (λ both. never both.0)

    by : (q : ℕ) → (slice_get b q ≡ Some true) ⊎ ¬ Q q → (slice_get a q ≡ Some true) ⊎ ¬ (P q × Q q)
    by q (inl e) = before q (first.set q e)
    by q (inr never) = inr (λ both. never both.1)

pub marks_same : (P Q : ℕ → Type 0) (a b : List Bool) → Marks P a b → ((q : ℕ) → P q → Q q) → ((q : ℕ) → Q q → P q) → Marks Q a b
marks_same P Q a b marks to from = record {
  count = marks.count;
  unset = λ q e. let m = marks.unset q e in (m.0, to q m.1);
  set = λ q e. by q (marks.set q e);
}
  where
    by : (q : ℕ) → (slice_get a q ≡ Some true) ⊎ ¬ P q → (slice_get a q ≡ Some true) ⊎ ¬ Q q
    by q (inl e) = inl e
    by q (inr never) = inr (λ h. never (from q h))

set_length : (flags : List Bool) (k : ℕ) → length (slice_set flags k true) ≡ length flags
set_length [] k = refl
set_length (b ∷ flags) zero = refl
set_length (b ∷ flags) (suc k) = ap suc (set_length flags k)

set_other : (flags : List Bool) (k j : ℕ) → (j ≡ k → ⊥) → slice_get (slice_set flags k true) j ≡ slice_get flags j
set_other [] k j apart = refl
set_other (b ∷ flags) zero zero apart = absurd (apart refl)
set_other (b ∷ flags) zero (suc j) apart = refl
set_other (b ∷ flags) (suc k) zero apart = refl
set_other (b ∷ flags) (suc k) (suc j) apart = set_other flags k j (λ e. apart (ap suc e))

set_here : (flags : List Bool) (k : ℕ) → slice_get (slice_set flags k true) k ≡ Some false → ⊥
set_here [] k e = cc
set_here (b ∷ flags) zero e = cc
set_here (b ∷ flags) (suc k) e = set_here flags k e

-- one flag is set
pub marks_one : (P : ℕ → Type 0) (old : List Bool) (k : ℕ) → ¬ P k → ((q : ℕ) → (q ≡ k → ⊥) → P q) → Marks P old (slice_set old k true)
marks_one P old k never others = record {
  count = set_length old k;
  unset = λ q e.
      elim (cases_eq q k) [
        | inl same ↦ absurd (set_here old k (ap (slice_get (slice_set old k true)) (sym same) ∙ e))
        | inr apart ↦ (sym (set_other old k q apart) ∙ e, others q apart)
      ];
  set = λ q e.
      elim (cases_eq q k) [
        | inl same ↦ inr (λ h. never (subst P same h))
        | inr apart ↦ inl (sym (set_other old k q apart) ∙ e)
      ];
}

-- ITEMS

pub in_list : (items : List Item) (i : ℕ) (item : Item) → slice_get items i ≡ Some item → i < length items
in_list [] i item e = absurd (cc)
in_list (x ∷ items) zero item e = omega arith
in_list (x ∷ items) (suc i) item e = let h = in_list items i item e in omega (arith, h)

-- what a block has is some of all
block_few : (bs : List Block) (n : ℕ) → length (block_items (value_of (named bs) n)) ≤ length (items_of_blocks bs)
block_few [] n = omega arith
block_few (b ∷ bs) n = by (b.name == n) (block_few bs n)
  where
    long : length (b.items ++ items_of_blocks bs) ≡ length b.items + length (items_of_blocks bs)
    long = length-append b.items (items_of_blocks bs)

    by : (c : Bool) → length (block_items (value_of (named bs) n)) ≤ length (items_of_blocks bs) → length (block_items (if c then Some b else value_of (named bs) n)) ≤ length (b.items ++ items_of_blocks bs)
    by true h = omega (arith, long)
    by false h = omega (arith, long, h)

pub items_few : (g : Graph) (block : ℕ) → length (items_of g block) ≤ length (all_items g)
items_few g block =
    let a = block_few g.blocks block in
    let b = length-append (items_of_blocks g.blocks) (items_of_bodies g.procedures) in
    omega (arith, a, b)

-- a procedure that is called is there
item_in : (items : List Item) (i : ℕ) (item : Item) → slice_get items i ≡ Some item → Contains items item
item_in [] i item e = absurd (cc)
item_in (x ∷ items) zero item e = (0, omega arith, cc)
item_in (x ∷ items) (suc i) item e = let c = item_in items i item e in (suc c.0, let h = c.1 in omega (arith, h), c.2)

block_in : (bs : List Block) (n : ℕ) (item : Item) → Contains (block_items (value_of (named bs) n)) item → Contains (items_of_blocks bs) item
block_in [] n item c = absurd (let h : c.0 < 0 = c.1 in omega arith)
block_in (b ∷ bs) n item c = by (b.name == n) (λ c. block_in bs n item c) c
  where
    by : (t : Bool) → (Contains (block_items (value_of (named bs) n)) item → Contains (items_of_blocks bs) item) → Contains (block_items (if t then Some b else value_of (named bs) n)) item → Contains (b.items ++ items_of_blocks bs) item
    by true rest c = Contains-append_left b.items (items_of_blocks bs) item c
    by false rest c = Contains-append_right b.items (items_of_blocks bs) item (rest c)

called_in : (items : List Item) (item : Item) (q : ℕ) → Contains items item → Contains (item_calls item) q → Contains (flat_map item_calls items) q
called_in [] item q c d = absurd (let h : c.0 < 0 = c.1 in omega arith)
called_in (x ∷ items) item q (zero, h, e) d = Contains-append_left (item_calls x) (flat_map item_calls items) q (subst (λ y. Contains (item_calls y) q) (sym e) d)
called_in (x ∷ items) item q (suc i, h, e) d = Contains-append_right (item_calls x) (flat_map item_calls items) q (called_in items item q (i, omega (arith, h), e) d)

pub out_there : (g : Graph) (block place q : ℕ) (item : Item) → IsGraph g → slice_get (items_of g block) place ≡ Some item → item ≡ Out q → q < length g.procedures
out_there g block place q item rules there out =
    let c : Contains (all_items g) item = Contains-append_left (items_of_blocks g.blocks) (items_of_bodies g.procedures) item (block_in g.blocks block item (item_in (items_of g block) place item there)) in
    let d : Contains (item_calls item) q = subst (λ x. Contains (item_calls x) q) (sym out) (0, omega arith, refl) in
    let e : Contains (calls g) q = called_in (all_items g) item q c d in
    subst (λ q. q < length g.procedures) e.2 (rules.called_all e.0 q e.1)

pub not_out : (g : Graph) (block place : ℕ) (item : Item) → ((q : ℕ) → item ≡ Out q → ⊥) → (q : ℕ) → ItemDies g block place item q
not_out g block place item never q e = absurd (never q e)

module _ (g : Graph) (block place k : ℕ) (item : Item) (out : item ≡ Out k) where
  same_call : (q : ℕ) → item ≡ Out q → k ≡ q
  same_call q e = let both : Out k ≡ Out q = sym out ∙ e in cc

  pub dead_item : (r : ℕ) → link_of g k ≡ Some r → ¬ IsLive g r (place_lines g block (place + 1)) → (q : ℕ) → ItemDies g block place item q
  dead_item r link dead q e s other live =
      let same : k ≡ q = same_call q e in
      let both : Some r ≡ Some s = sym link ∙ ap (link_of g) same ∙ other in
      let register : r ≡ s = cc in
      dead (subst (λ r. IsLive g r (place_lines g block (place + 1))) (sym register) live)

  pub live_item : (r : ℕ) → link_of g k ≡ Some r → ¬ (¬ IsLive g r (place_lines g block (place + 1))) → ¬ ItemDies g block place item k
  live_item r link live dies = live (dies out r link)

  pub other_item : (q : ℕ) → (q ≡ k → ⊥) → ItemDies g block place item q
  other_item q apart e = absurd (apart (sym (same_call q e)))

-- one more item
pub items_more : (g : Graph) (block count : ℕ) (item : Item) → slice_get (items_of g block) count ≡ Some item → (q : ℕ) → ItemsDie g block count q × ItemDies g block count item q → ItemsDie g block (count + 1) q
items_more g block count item there q h i other below at =
    elim (cases_eq i count) [
      | inl same ↦
          let both : Some item ≡ Some other = sym there ∙ ap (slice_get (items_of g block)) (sym same) ∙ at in
          let is : item ≡ other = cc in
          subst (λ x. ItemDies g block i x q) is (subst (λ j. ItemDies g block j item q) (sym same) h.1)
      | inr apart ↦ h.0 i other (omega (arith, below, apart)) at
    ]

pub items_fewer : (g : Graph) (block count : ℕ) (item : Item) → slice_get (items_of g block) count ≡ Some item → (q : ℕ) → ItemsDie g block (count + 1) q → ItemsDie g block count q × ItemDies g block count item q
items_fewer g block count item there q h = (λ i other below at. h i other (omega (arith, below)) at, h count item (omega arith) there)

-- one more block
pub blocks_more : (g : Graph) (names : List ℕ) (count : ℕ) (q : ℕ) → BlocksDie g names count q × BlockDies g (slice_index names count) q → BlocksDie g names (count + 1) q
blocks_more g names count q h k below =
    elim (cases_eq k count) [
      | inl same ↦ subst (λ k. BlockDies g (slice_index names k) q) (sym same) h.1
      | inr apart ↦ h.0 k (omega (arith, below, apart))
    ]

pub blocks_fewer : (g : Graph) (names : List ℕ) (count : ℕ) (q : ℕ) → BlocksDie g names (count + 1) q → BlocksDie g names count q × BlockDies g (slice_index names count) q
blocks_fewer g names count q h = (λ k below. h k (omega (arith, below)), h count (omega arith))

-- LINES

module _ (g : Graph) (q r : ℕ) where
  abbrev Dead : List Line → Type 0
  Dead lines = ¬ IsLive g r lines

  items_die : (items : List Item) (rest : List Line) → LinkDies g q r (map line_of items ++ rest) → (i : ℕ) → slice_get items i ≡ Some (Out q) → Dead (drop (suc i) (map line_of items ++ rest))
  items_die [] rest h i e = absurd (cc)
  items_die (item ∷ items) rest h zero e = let is : item ≡ Out q = cc in here item is h
    where
      here : (item : Item) → item ≡ Out q → LinkDies g q r (line_of item ∷ (map line_of items ++ rest)) → Dead (map line_of items ++ rest)
      here (Out p) e h = let same : p ≡ q = cc in h.0 same
      here (Op insn) e h = absurd (cc)
      here (Hi rd to) e h = absurd (cc)
      here (Lo rd rs to) e h = absurd (cc)
  items_die (Op insn ∷ items) rest h (suc i) e = items_die items rest h i e
  items_die (Hi rd to ∷ items) rest h (suc i) e = items_die items rest h i e
  items_die (Lo rd rs to ∷ items) rest h (suc i) e = items_die items rest h i e
  items_die (Out p ∷ items) rest h (suc i) e = items_die items rest h.1 i e

  items_left : (items : List Item) (rest : List Line) → LinkDies g q r (map line_of items ++ rest) → LinkDies g q r rest
  items_left [] rest h = h
  items_left (Op insn ∷ items) rest h = items_left items rest h
  items_left (Hi rd to ∷ items) rest h = items_left items rest h
  items_left (Lo rd rs to ∷ items) rest h = items_left items rest h
  items_left (Out p ∷ items) rest h = items_left items rest h.1

  die_items : (items : List Item) (rest : List Line) → ((i : ℕ) → slice_get items i ≡ Some (Out q) → Dead (drop (suc i) (map line_of items ++ rest))) → LinkDies g q r rest → LinkDies g q r (map line_of items ++ rest)
  die_items [] rest each h = h
  die_items (Op insn ∷ items) rest each h = die_items items rest (λ i e. each (suc i) e) h
  die_items (Hi rd to ∷ items) rest each h = die_items items rest (λ i e. each (suc i) e) h
  die_items (Lo rd rs to ∷ items) rest each h = die_items items rest (λ i e. each (suc i) e) h
  die_items (Out p ∷ items) rest each h = (λ same. each zero (ap (λ p. Some (Out p)) same), die_items items rest (λ i e. each (suc i) e) h)

  term_left : (term : Term) (rest : List Line) → LinkDies g q r (term_lines term rest) → LinkDies g q r rest
  term_left Fall rest h = h
  term_left (Jump to) rest h = h
  term_left (Branch cond a b to) rest h = h
  term_left (Call link to) rest h = h
  term_left (PartJump link part to) rest h = h
  term_left (Indirect link at offset) rest h = h
  term_left (Stop word) rest h = h

  term_dies : (term : Term) (rest : List Line) → LinkDies g q r rest → LinkDies g q r (term_lines term rest)
  term_dies Fall rest h = h
  term_dies (Jump to) rest h = h
  term_dies (Branch cond a b to) rest h = h
  term_dies (Call link to) rest h = h
  term_dies (PartJump link part to) rest h = h
  term_dies (Indirect link at offset) rest h = h
  term_dies (Stop word) rest h = h

  -- behind each item of the block that stands in front of these
  abbrev FrontDies : Block → List Block → Type 0
  FrontDies b bs = (i : ℕ) → slice_get b.items i ≡ Some (Out q) → Dead (drop (suc i) (body_lines b (lines_of bs)))

  blocks_die : (blocks : List Block) → LinkDies g q r (lines_of blocks) → (k : ℕ) (b : Block) (bs : List Block) → drop k blocks ≡ b ∷ bs → FrontDies b bs
  blocks_die [] h k b bs e = absurd (nothing k e)
    where
      nothing : (k : ℕ) → drop k [] ≡ b ∷ bs → ⊥
      nothing zero e = cc
      nothing (suc k) e = cc
  blocks_die (c ∷ blocks) h zero b bs e =
      let first : c ≡ b = cc in
      let rest : blocks ≡ bs = cc in
      λ i at. subst (λ bs. Dead (drop (suc i) (body_lines b (lines_of bs)))) rest (subst (λ (b : Block). slice_get b.items i ≡ Some (Out q) → Dead (drop (suc i) (body_lines b (lines_of blocks)))) first (λ at. items_die c.items (term_lines c.term (lines_of blocks)) h i at) at)
  blocks_die (c ∷ blocks) h (suc k) b bs e = blocks_die blocks (term_left c.term (lines_of blocks) (items_left c.items (term_lines c.term (lines_of blocks)) h)) k b bs e

  die_blocks : (blocks : List Block) → ((k : ℕ) (b : Block) (bs : List Block) → drop k blocks ≡ b ∷ bs → FrontDies b bs) → LinkDies g q r (lines_of blocks)
  die_blocks [] each = tt
  die_blocks (b ∷ blocks) each = die_items b.items (term_lines b.term (lines_of blocks)) (each zero b blocks refl) (term_dies b.term (lines_of blocks) (die_blocks blocks (λ k c bs e. each (suc k) c bs e)))

-- BLOCKS BY THEIR NAMES

items_unnamed : (n : ℕ) (items : List Item) (rest : List Line) → behind_name n (map line_of items ++ rest) ≡ behind_name n rest
items_unnamed n [] rest = refl
items_unnamed n (Op insn ∷ items) rest = items_unnamed n items rest
items_unnamed n (Hi rd to ∷ items) rest = items_unnamed n items rest
items_unnamed n (Lo rd rs to ∷ items) rest = items_unnamed n items rest
items_unnamed n (Out procedure ∷ items) rest = items_unnamed n items rest

term_unnamed : (n : ℕ) (term : Term) (rest : List Line) → behind_name n (term_lines term rest) ≡ behind_name n rest
term_unnamed n Fall rest = refl
term_unnamed n (Jump to) rest = refl
term_unnamed n (Branch cond a b to) rest = refl
term_unnamed n (Call link to) rest = refl
term_unnamed n (PartJump link part to) rest = refl
term_unnamed n (Indirect link at offset) rest = refl
term_unnamed n (Stop word) rest = refl

-- a block that stands in a list without repeats
pub record IsPlaced (blocks : List Block) (b : Block) (bs : List Block) : Type 0 where
  pub value : value_of (named blocks) b.name ≡ Some b
  pub lines : behind_name b.name (lines_of blocks) ≡ body_lines b (lines_of bs)

apart_from : (P : ℕ → Type 0) (blocks : List Block) (k : ℕ) (b : Block) (bs : List Block) → AllByRecursion P (keys (named blocks)) → drop k blocks ≡ b ∷ bs → P b.name
apart_from P [] zero b bs all e = absurd (cc)
apart_from P [] (suc k) b bs all e = absurd (cc)
apart_from P (c ∷ blocks) zero b bs all e = let first : c ≡ b = cc in subst (λ (b : Block). P b.name) first all.0
apart_from P (c ∷ blocks) (suc k) b bs all e = apart_from P blocks k b bs all.1 e

pub placed : (blocks : List Block) → HasDistinctKeys (named blocks) → (k : ℕ) (b : Block) (bs : List Block) → drop k blocks ≡ b ∷ bs → IsPlaced blocks b bs
placed [] distinct zero b bs e = absurd (cc)
placed [] distinct (suc k) b bs e = absurd (cc)
placed (c ∷ blocks) distinct zero b bs e =
    let first : c ≡ b = cc in
    let rest : blocks ≡ bs = cc in
    let here : IsPlaced (c ∷ blocks) c blocks = record { value = rw (eq-eqb c.name c.name refl) refl; lines = rw (eq-eqb c.name c.name refl) refl } in
    subst (λ bs. IsPlaced (c ∷ blocks) b bs) rest (subst (λ b. IsPlaced (c ∷ blocks) b blocks) first here)
placed (c ∷ blocks) distinct (suc k) b bs e =
    let apart : nat_eq c.name b.name ≡ false = apart_from (λ y. nat_eq c.name y ≡ false) blocks k b bs (IsDistinct-head nat_eq c.name (keys (named blocks)) distinct) e in
    let rest = placed blocks (IsDistinct-tail nat_eq c.name (keys (named blocks)) distinct) k b bs e in
    record {
      value = rw apart rest.value;
      lines = rw apart (items_unnamed b.name c.items (term_lines c.term (lines_of blocks)) ∙ term_unnamed b.name c.term (lines_of blocks) ∙ rest.lines);
    }

-- a name is that of a block at its number
pub numbered_block : (blocks : List Block) (k : ℕ) → k < length (map (λ b. b.name) blocks) → (b : Block) × (bs : List Block) × (drop k blocks ≡ b ∷ bs) × (b.name ≡ slice_index (map (λ b. b.name) blocks) k)
numbered_block [] k h = absurd (omega (arith, h))
numbered_block (b ∷ blocks) zero h = (b, blocks, refl, refl)
numbered_block (b ∷ blocks) (suc k) h = numbered_block blocks k (omega (arith, h))

number_of : (blocks : List Block) (k : ℕ) (b : Block) (bs : List Block) → drop k blocks ≡ b ∷ bs → (k < length (map (λ b. b.name) blocks)) × (b.name ≡ slice_index (map (λ b. b.name) blocks) k)
number_of [] zero b bs e = absurd (cc)
number_of [] (suc k) b bs e = absurd (cc)
number_of (c ∷ blocks) zero b bs e = let first : c ≡ b = cc in (omega arith, ap (λ (b : Block). b.name) (sym first))
number_of (c ∷ blocks) (suc k) b bs e = let r = number_of blocks k b bs e in let h = r.0 in (omega (arith, h), r.1)

module _ (g : Graph) (rules : IsGraph g) (q r : ℕ) (link : link_of g q ≡ Some r) where
  next_place : (i : ℕ) → i + 1 ≡ suc i
  next_place i = omega arith

  pub all_dead : BlocksDie g (names_of g) (length (names_of g)) q → LinkDies g q r (lines_of g.blocks)
  all_dead h = die_blocks g q r g.blocks (λ k b bs e i at.
      let p = placed g.blocks rules.distinct k b bs e in
      let n = number_of g.blocks k b bs e in
      let dies : BlockDies g b.name q = subst (λ n. BlockDies g n q) (sym n.1) (h k n.0) in
      let items : items_of g b.name ≡ b.items = ap block_items p.value in
      let there : slice_get (items_of g b.name) i ≡ Some (Out q) = ap (λ items. slice_get items i) items ∙ at in
      let dead = dies i (Out q) (in_list (items_of g b.name) i (Out q) there) there refl r link in
      let same : place_lines g b.name (i + 1) ≡ drop (suc i) (body_lines b (lines_of bs)) = (λ j. drop (next_place i j) (p.lines j)) in
      subst (λ lines. ¬ IsLive g r lines) same dead)

  pub dead_all : LinkDies g q r (lines_of g.blocks) → BlocksDie g (names_of g) (length (names_of g)) q
  dead_all h k below i item within at out s other live =
      let n = numbered_block g.blocks k below in
      let p = placed g.blocks rules.distinct k n.0 n.1 n.2 in
      let name : slice_index (names_of g) k ≡ n.0.name = sym n.3 in
      let items : items_of g (slice_index (names_of g) k) ≡ n.0.items = ap (items_of g) name ∙ ap block_items p.value in
      let call : slice_get n.0.items i ≡ Some (Out q) = ap (λ items. slice_get items i) (sym items) ∙ at ∙ ap Some out in
      let both : Some r ≡ Some s = sym link ∙ other in
      let register : r ≡ s = cc in
      let lines : place_lines g (slice_index (names_of g) k) (i + 1) ≡ drop (suc i) (body_lines n.0 (lines_of n.1)) = ap (λ n. place_lines g n (i + 1)) name ∙ (λ j. drop (next_place i j) (p.lines j)) in
      blocks_die g q r g.blocks h k n.0 n.1 n.2 i call (subst (λ lines. IsLive g r lines) lines (subst (λ s. IsLive g s (place_lines g (slice_index (names_of g) k) (i + 1))) (sym register) live))

-- from never flags to all
pub links_are : (g : Graph) (rules : IsGraph g) (start flags : List Bool) → start ≡ replicate (length g.procedures) false → Marks (BlocksDie g (names_of g) (length (names_of g))) start flags → AreLiveLinks g flags
links_are g rules start flags none marks = record {
  count = marks.count ∙ ap length none ∙ long (length g.procedures);
  dead = λ q r link e. all_dead g rules q r link (marks.unset q e).1;
  live = λ q r link e dies. by q (dead_all g rules q r link dies) (marks.set q e);
}
  where
    long : (n : ℕ) → length (replicate n false) ≡ n
    long zero = refl
    long (suc n) = ap suc (long n)

    no_flag : (n q : ℕ) → slice_get (replicate n false) q ≡ Some true → ⊥
    no_flag zero q e = cc
    no_flag (suc n) zero e = cc
    no_flag (suc n) (suc q) e = no_flag n q e

    by : (q : ℕ) → BlocksDie g (names_of g) (length (names_of g)) q → (slice_get start q ≡ Some true) ⊎ ¬ BlocksDie g (names_of g) (length (names_of g)) q → ⊥
    by q h (inl e) = no_flag (length g.procedures) q (ap (λ flags. slice_get flags q) (sym none) ∙ e)
    by q h (inr never) = never h

-- a name of the list is that of a block
pub has_name : (g : Graph) (rules : IsGraph g) (names : List ℕ) (k : ℕ) (name : ℕ) → names ≡ names_of g → k < length names → name ≡ get_or names k 0 → HasBlock g name
has_name g rules names k name all below is =
    let n = numbered_block g.blocks k (subst (λ ns. k < length ns) all below) in
    let p = placed g.blocks rules.distinct k n.0 n.1 n.2 in
    let same : n.0.name ≡ name = n.3 ∙ ap (λ ns. get_or ns k 0) (sym all) ∙ sym is in
    subst (HasBlock g) same (rw p.value refl)
