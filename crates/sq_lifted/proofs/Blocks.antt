-- The blocks of a lifted graph: what each of their items and terms is, that their names ascend, and how they end.
use Rattle.std.proofs.Common.{MatchBool, ◌≡◌, ℕ, ◌+◌, ◌≤◌, Bool, true, false, not, ◌==◌, List, [], ◌∷◌, ◌++◌, map, Option, Some, None, if◌then◌else◌, refl, sym, ap, ◌∙◌, subst, arith, nat_eq}
use Rattle.std.specs.List.{AllByRecursion, IsDistinct}
use Rattle.std.proofs.lemmas.Bool.Decides.{nat_tests}
use Rattle.sq_arena.specs.Entries.{HasDistinctKeys, value_of}
use Rattle.sq_graph.specs.declared.item.Item.{Item}
use Rattle.sq_graph.specs.declared.item.Item.TheVariants.{Op, Hi, Lo, Out}
use Rattle.sq_graph.specs.declared.item.Term.{Term}
use Rattle.sq_graph.specs.declared.item.Term.TheVariants.{Fall}
use Rattle.sq_graph.specs.Graph.{Block, Graph}
use Rattle.sq_graph.specs.Terms.{goes_on}
use Rattle.sq_graph.specs.Blocks.{named, HasBlock}
use Rattle.sq_graph.specs.Rules.{last_goes_on}
use Rattle.sq_graph.specs.Lines.{line_of, term_lines, lines_of}
use Rattle.law_program.specs.Programs.{Word, Text, Note, Program, word_at}
use Rattle.law_program.specs.Reached.{Decides}
use Rattle.law_program.specs.Readings.{Reading, reading_of}
use Rattle.law_program.specs.Lifted.{Form, ItemForm, TermForm, form_of, Rest, between, with_form, with_reading, begun_if}
use Rattle.law_lifting.specs.Lifting.{IsMarkedText, IsReadable}
use Rattle.law_lifting.proofs.Lifts.{HasName, form_line, closes, IsNamed}
use Rattle.law_lifting.proofs.TextWords.{at_here, some_is}
use Rattle.law_lifting.proofs.Facts.{ReadWord, reached_word}
use Rattle.law_lifting.proofs.Cutting.{kept_is, read_at, next_kept}
use Rattle.law_lifting.proofs.CutLines.{items_no_name, term_no_name, T, N, K, L, G, Cut, IsSuffix, tail_suffix, closed_cut, goes_of, term_lead}

-- a name among the lines is that of a block
pub named_block : (x : ℕ) (blocks : List Block) → HasName x (lines_of blocks) → (b : Block) × (value_of (named blocks) x ≡ Some b)
named_block x [] h = absurd h
named_block x (b ∷ blocks) h = go (b.name == x) h (λ k. named_block x blocks (term_no_name x b.term (lines_of blocks) (items_no_name x b.items _ k)))
  where
    go : (c : Bool) → MatchBool c (Unit {0}) (HasName x (map line_of b.items ++ term_lines b.term (lines_of blocks))) → (HasName x (map line_of b.items ++ term_lines b.term (lines_of blocks)) → (d : Block) × (value_of (named blocks) x ≡ Some d)) → (d : Block) × ((if c then Some b else value_of (named blocks) x) ≡ Some d)
    go true k rec = (b, refl)
    go false k rec = rec k

-- WHAT EACH ITEM AND TERM IS

module _ (P : Item → Type 0) (Q : Term → Type 0) where
  abbrev pub IsFormGood : Form → Type 0
  IsFormGood (ItemForm item) = P item
  IsFormGood (TermForm term) = Q term

  pub record IsBlockGood (b : Block) : Type 0 where
    pub items : AllByRecursion P b.items
    pub term : Q b.term

  abbrev pub EachBlock : List Block → Type 0
  EachBlock blocks = AllByRecursion IsBlockGood blocks

  pub record IsRestGood (rest : Rest) : Type 0 where
    pub items : AllByRecursion P rest.items
    pub term : Q rest.term
    pub blocks : EachBlock rest.blocks

  form_good : (f : Form) (rest : Rest) → IsFormGood f → IsRestGood rest → IsRestGood (with_form f rest)
  form_good (ItemForm item) rest f h = record { items = (f, h.items); term = h.term; blocks = h.blocks }
  form_good (TermForm term) rest f h = record { items = tt; term = f; blocks = h.blocks }

  module _ (fall : Q Fall) where
    between_good : (blocks : List Block) → EachBlock blocks → IsRestGood (between blocks)
    between_good blocks h = record { items = tt; term = fall; blocks = h }

    begun_good : (b : Bool) (at : ℕ) (rest : Rest) → IsRestGood rest → IsRestGood (begun_if b at rest)
    begun_good true at rest h = between_good (record { name = at; items = rest.items; term = rest.term } ∷ rest.blocks) (record { items = h.items; term = h.term }, h.blocks)
    begun_good false at rest h = h

-- an item goes on
pub item_open : (item : Item) → closes (line_of item) ≡ false
item_open (Op insn) = refl
item_open (Hi rd to) = refl
item_open (Lo rd rs to) = refl
item_open (Out procedure) = refl

module _ (p : Program) (is : ℕ → Bool) (marked : IsMarkedText p.text) (dec : Decides p is) (fine : IsReadable is p) where
  abbrev t : Text
  t = T p is marked dec fine

  abbrev ns : List Note
  ns = N p is marked dec fine

  abbrev keep : ℕ → Bool
  keep = K p is marked dec fine

  abbrev lead : ℕ → Bool
  lead = L p is marked dec fine

  abbrev g : Graph
  g = G p is marked dec fine

  abbrev Tail : ℕ → List Word → Rest
  Tail at words = Cut p is marked dec fine at words

  abbrev Suffix : ℕ → List Word → Type 0
  Suffix at words = IsSuffix p is marked dec fine at words

  pub has_block : (x : ℕ) → IsNamed t ns g x → HasBlock g x
  has_block x h = let b = named_block x g.blocks h in rw b.1 refl

  -- WHAT EACH ITEM AND TERM IS

  -- the word that is read at the head of a suffix
  pub reads_here : (at : ℕ) (w : Word) (words : List Word) → Suffix at (w ∷ words) → (rd : ReadWord p is marked dec fine.text at) → reading_of t at w ≡ Some rd.reading
  reads_here at w words suffix rd =
      let own : word_at t at ≡ Some w = suffix at (omega arith) ∙ at_here at w words in
      let same : rd.word ≡ w = let u : Some rd.word ≡ Some w = sym rd.there ∙ own in cc in
      subst (λ w. reading_of t at w ≡ Some rd.reading) same rd.reads

  -- what holds at each kept word, and at Fall, holds of each item and term
  module _ (P : Item → Type 0) (Q : Term → Type 0) (fall : Q Fall) (each : (at : ℕ) → keep at ≡ true → (rd : ReadWord p is marked dec fine.text at) → IsFormGood P Q (form_of ns rd.reading)) where
    cut_good : (at : ℕ) (words : List Word) → Suffix at words → IsRestGood P Q (Tail at words)
    cut_good at [] suffix = between_good P Q fall [] tt
    cut_good at (w ∷ words) suffix = go (keep at) refl (cut_good (at + 4) words (tail_suffix p is marked dec fine at w words suffix))
      where
        go : (b : Bool) → keep at ≡ b → IsRestGood P Q (Tail (at + 4) words) → IsRestGood P Q (if b then begun_if (lead at) at (with_reading ns (reading_of t at w) (Tail (at + 4) words)) else Tail (at + 4) words)
        go false k h = h
        go true k h =
            let rd = read_at p is marked dec fine at (kept_is p is marked dec fine at k).0 in
            begun_good P Q fall (lead at) at (with_reading ns (reading_of t at w) (Tail (at + 4) words))
            (subst (λ o. IsRestGood P Q (with_reading ns o (Tail (at + 4) words))) (sym (reads_here at w words suffix rd)) (form_good P Q (form_of ns rd.reading) (Tail (at + 4) words) (each at k rd) h))

    pub blocks_good : EachBlock P Q g.blocks
    blocks_good = (cut_good t.lo t.words (λ x h. refl)).blocks

  -- NAMES ASCEND

  abbrev From : ℕ → List Block → Type 0
  From at blocks = AllByRecursion (λ b. at ≤ b.name) blocks

  abbrev Ascend : List Block → Type 0
  Ascend [] = Unit {0}
  Ascend (b ∷ blocks) = From (b.name + 1) blocks × Ascend blocks

  lower : (at by : ℕ) (blocks : List Block) → by ≤ at → From at blocks → From by blocks
  lower at by [] le h = tt
  lower at by (b ∷ blocks) le h = (let f = h.0 in omega (arith, f), lower at by blocks le h.1)

  form_blocks : (f : Form) (rest : Rest) → (with_form f rest).blocks ≡ rest.blocks
  form_blocks (ItemForm item) rest = refl
  form_blocks (TermForm term) rest = refl

  pub reading_blocks : (o : Option Reading) (rest : Rest) → (with_reading ns o rest).blocks ≡ rest.blocks
  reading_blocks None rest = refl
  reading_blocks (Some r) rest = form_blocks (form_of ns r) rest

  cut_ascends : (at : ℕ) (words : List Word) → From at (Tail at words).blocks × Ascend (Tail at words).blocks
  cut_ascends at [] = (tt, tt)
  cut_ascends at (w ∷ words) = go (keep at) (cut_ascends (at + 4) words)
    where
      begun : (b : Bool) (rest : Rest) → From (at + 4) rest.blocks × Ascend rest.blocks → From at (begun_if b at rest).blocks × Ascend (begun_if b at rest).blocks
      begun true rest h = ((omega arith, lower (at + 4) at rest.blocks (omega arith) h.0), (lower (at + 4) (at + 1) rest.blocks (omega arith) h.0, h.1))
      begun false rest h = (lower (at + 4) at rest.blocks (omega arith) h.0, h.1)

      go : (b : Bool) → From (at + 4) (Tail (at + 4) words).blocks × Ascend (Tail (at + 4) words).blocks → From at (if b then begun_if (lead at) at (with_reading ns (reading_of t at w) (Tail (at + 4) words)) else Tail (at + 4) words).blocks × Ascend (if b then begun_if (lead at) at (with_reading ns (reading_of t at w) (Tail (at + 4) words)) else Tail (at + 4) words).blocks
      go true h =
          begun (lead at) (with_reading ns (reading_of t at w) (Tail (at + 4) words))
          (subst (λ bs. From (at + 4) bs × Ascend bs) (sym (reading_blocks (reading_of t at w) (Tail (at + 4) words))) h)
      go false h = (lower (at + 4) at (Tail (at + 4) words).blocks (omega arith) h.0, h.1)

  apart : (x : ℕ) (blocks : List Block) → From (x + 1) blocks → AllByRecursion (λ y. nat_eq x y ≡ false) (map (λ entry. entry.0) (named blocks))
  apart x [] h = tt
  apart x (b ∷ blocks) h = (let f = h.0 in grind (arith, nat_tests), apart x blocks h.1)

  ascending_distinct : (blocks : List Block) → Ascend blocks → HasDistinctKeys (named blocks)
  unfolding IsDistinct
  ascending_distinct [] h = tt
  ascending_distinct (b ∷ blocks) h = (apart b.name blocks h.0, ascending_distinct blocks h.1)

  pub names_distinct : HasDistinctKeys (named g.blocks)
  names_distinct = ascending_distinct g.blocks (cut_ascends t.lo t.words).1

  -- THE LAST BLOCK

  -- the blocks of a rest end well, and with them the block that the rest begins in
  abbrev EndsBehind : Rest → Type 0
  EndsBehind rest = last_goes_on rest.blocks ≡ false

  abbrev Ends : Rest → Type 0
  Ends rest = last_goes_on (record { name = 0; items = rest.items; term = rest.term } ∷ rest.blocks) ≡ false

  begun_ends : (b : Bool) (at : ℕ) (rest : Rest) → Ends rest → EndsBehind rest → Ends (begun_if b at rest) × EndsBehind (begun_if b at rest)
  begun_ends true at rest e f = (same_end rest.blocks e, same_end rest.blocks e)
    where
      same_end : (blocks : List Block) → last_goes_on (record { name = 0; items = rest.items; term = rest.term } ∷ blocks) ≡ false → last_goes_on (record { name = at; items = rest.items; term = rest.term } ∷ blocks) ≡ false
      same_end [] e = e
      same_end (b ∷ blocks) e = e
  begun_ends false at rest e f = (e, f)

  -- a term that ends, before blocks that end well
  closing_ends : (term : Term) (blocks : List Block) → goes_on term ≡ false → last_goes_on blocks ≡ false → last_goes_on (record { name = 0; items = []; term = term } ∷ blocks) ≡ false
  closing_ends term [] e f = e
  closing_ends term (b ∷ blocks) e f = f

  -- a term that goes on, before what begins a block
  going_ends : (term : Term) (rest : Rest) → rest ≡ between rest.blocks → Ends rest → last_goes_on (record { name = 0; items = []; term = term } ∷ rest.blocks) ≡ false
  going_ends term rest e f = go rest.blocks (subst Ends e f)
    where
      go : (blocks : List Block) → Ends (between blocks) → last_goes_on (record { name = 0; items = []; term = term } ∷ blocks) ≡ false
      go [] f = absurd (cc)
      go (b ∷ blocks) f = f

  form_ends : (at : ℕ) (words : List Word) (rd : ReadWord p is marked dec fine.text at) → keep at ≡ true → (f : Form) → form_of ns rd.reading ≡ f → (keep (at + 4) ≡ true → Ends (Tail (at + 4) words)) → EndsBehind (Tail (at + 4) words) → Ends (with_form f (Tail (at + 4) words)) × EndsBehind (with_form f (Tail (at + 4) words))
  form_ends at words rd k (ItemForm item) e h b = (item_ends (Tail (at + 4) words) (h next), b)
    where
      next : keep (at + 4) ≡ true
      next = next_kept p is marked dec fine at rd.word rd.sound k rd.there (goes_of p is marked dec fine at rd (subst (λ f. closes (form_line f) ≡ false) (sym e) (item_open item)))

      item_ends : (rest : Rest) → Ends rest → Ends (record rest { items = item ∷ rest.items })
      item_ends rest h = go rest.blocks h
        where
          go : (blocks : List Block) → last_goes_on (record { name = 0; items = rest.items; term = rest.term } ∷ blocks) ≡ false → last_goes_on (record { name = 0; items = item ∷ rest.items; term = rest.term } ∷ blocks) ≡ false
          go [] h = h
          go (b ∷ blocks) h = h
  form_ends at words rd k (TermForm term) e h b = (go (goes_on term) refl, b)
    where
      go : (c : Bool) → goes_on term ≡ c → last_goes_on (record { name = 0; items = []; term = term } ∷ (Tail (at + 4) words).blocks) ≡ false
      go false g = closing_ends term (Tail (at + 4) words).blocks g b
      go true g =
          let next = next_kept p is marked dec fine at rd.word rd.sound k rd.there (goes_of p is marked dec fine at rd (subst (λ f. closes (form_line f) ≡ false) (sym e) (ap not g))) in
          going_ends term (Tail (at + 4) words) (closed_cut p is marked dec fine (at + 4) words (λ k'. term_lead p is marked dec fine at rd (TermForm term) e tt k k')) (h next)

  cut_ends : (at : ℕ) (words : List Word) → Suffix at words → (keep at ≡ true → Ends (Tail at words)) × EndsBehind (Tail at words)
  cut_ends at [] suffix = (λ k. no_word (some_is (word_at t at) (reached_word p is marked dec fine.text (dec.only at (kept_is p is marked dec fine at k).0))), refl)
    where
      no_word : (w : Word) × (word_at t at ≡ Some w) → Ends (between [])
      no_word w = absurd (let u : Some w.0 ≡ None = sym w.1 ∙ suffix at (omega arith) in cc)
  cut_ends at (w ∷ words) suffix = go (keep at) refl (cut_ends (at + 4) words (tail_suffix p is marked dec fine at w words suffix))
    where
      go : (b : Bool) → keep at ≡ b → (keep (at + 4) ≡ true → Ends (Tail (at + 4) words)) × EndsBehind (Tail (at + 4) words) → (b ≡ true → Ends (if b then begun_if (lead at) at (with_reading ns (reading_of t at w) (Tail (at + 4) words)) else Tail (at + 4) words)) × EndsBehind (if b then begun_if (lead at) at (with_reading ns (reading_of t at w) (Tail (at + 4) words)) else Tail (at + 4) words)
      go false k h = (λ e. absurd (cc), h.1)
      go true k h =
          let rd = read_at p is marked dec fine at (kept_is p is marked dec fine at k).0 in
          let f = form_ends at words rd k (form_of ns rd.reading) refl h.0 h.1 in
          let r : Ends (with_reading ns (reading_of t at w) (Tail (at + 4) words)) × EndsBehind (with_reading ns (reading_of t at w) (Tail (at + 4) words)) = subst (λ o. Ends (with_reading ns o (Tail (at + 4) words)) × EndsBehind (with_reading ns o (Tail (at + 4) words))) (sym (reads_here at w words suffix rd)) f in
          let b = begun_ends (lead at) at (with_reading ns (reading_of t at w) (Tail (at + 4) words)) r.0 r.1 in
          (λ e. b.0, b.1)

  pub last_ends : last_goes_on g.blocks ≡ false
  last_ends = (cut_ends t.lo t.words (λ x h. refl)).1
