-- What is read off a program has no more words than its text: each kept word is one word of a block, and procedures
-- have words of their own.
use Rattle.std.proofs.Common.{◌≡◌, ◌≢◌, ◌⊎◌, inl, inr, ℕ, zero, suc, ◌+◌, ◌-◌, ◌*◌, ◌≤◌, ◌<◌, Bool, true, false, not, ◌==◌, ◌&&◌, ◌||◌, List, [], ◌∷◌, map, length, Some, None, slice_get, if◌then◌else◌, refl, sym, ap, ◌∙◌, subst, arith}
use Rattle.std.specs.List.{Contains, AllByRecursion, list_any, sum_by}
use Rattle.std.proofs.lemmas.Bool.{eqb-true, and_parts, cases_lt, false_from_ne_true, or_parts, or_cases}
use Rattle.std.proofs.lemmas.List.Sums.{sum_by-cons}
use Rattle.sq_graph.specs.declared.item.Item.{Item}
use Rattle.sq_graph.specs.Graph.{Graph}
use Rattle.sq_graph.specs.Words.{term_words, block_words, procedure_words, words_of}
use Rattle.law_program.specs.Programs.{Word, Text, Note, Program, word_from, word_at}
use Rattle.law_program.specs.Reached.{half_target, jump_target, next_word, insn_goes_on, Decides}
use Rattle.law_program.specs.Readings.{IsItem, reading_of, reading_at}
use Rattle.law_program.specs.Notes.{is_within, is_in_procedure, is_in_procedures, has_body, is_item_without, is_call, enters_from_outside, marked_enters}
use Rattle.law_program.specs.Lifted.{Form, ItemForm, TermForm, form_of, Rest, between, with_form, with_reading, begun_if, body_from, procedure_of, procedure_at}
use Rattle.law_lifting.specs.Lifting.{IsLinked, IsReadable}
use Rattle.law_lifting.proofs.Lifts.{form_line, closes}
use Rattle.law_lifting.proofs.Facts.{any_none, one, ReadWord, next_reached}
use Rattle.law_lifting.proofs.NoteFacts.{in_procedure_start, read_item, return_is, own_number, IsGoodNote, good_note}
use Rattle.law_lifting.proofs.Cutting.{kept_is, read_at, true_not_false}
use Rattle.law_lifting.proofs.CutLines.{N, K, L, G, Cut, IsSuffix, tail_suffix, form_at, goes_of, IsTermForm, closed_cut, first_lead}
use Rattle.sq_lifted.specs.Lifted.{LiftedIsGood}
use Rattle.sq_lifted.proofs.Blocks.{item_open}
use Rattle.law_lifting.proofs.Whole.{readable}
use Rattle.sq_lifted.proofs.Graphs.{each_at, is_graph, is_sound}
use Rattle.sq_lifted.proofs.Canonical.{IsReal, form_real, here_is, closed_next, is_canonical}
use Rattle.sq_lifted.proofs.Reaching.{one_if, real_word, in_reach}

-- HOW MANY WORDS PASS A TEST

-- how many of these words, which stand from `at` on, pass a test of their addresses
abbrev count : (ℕ → Bool) → ℕ → List Word → ℕ
count f at [] = 0
count f at (w ∷ words) = one_if (f at) + count f (at + 4) words

abbrev AreApart : (ℕ → Bool) → (ℕ → Bool) → Type 0
AreApart f h = (x : ℕ) → f x ≡ true → h x ≡ false

ones : (b c : Bool) → (b ≡ true → c ≡ false) → one_if b + one_if c ≤ 1
ones true true h = absurd (let e = h refl in cc)
ones true false h = omega arith
ones false true h = omega arith
ones false false h = omega arith

count_apart : (f h : ℕ → Bool) (at : ℕ) (words : List Word) → AreApart f h → count f at words + count h at words ≤ length words
count_apart f h at [] a = omega arith
count_apart f h at (w ∷ words) a = let b = ones (f at) (h at) (a at) in let c = count_apart f h (at + 4) words a in omega arith

either : (b c : Bool) → (b ≡ true → c ≡ false) → one_if b + one_if c ≤ one_if (b || c)
either true true h = absurd (let e = h refl in cc)
either true false h = omega arith
either false true h = omega arith
either false false h = omega arith

count_or : (f h : ℕ → Bool) (at : ℕ) (words : List Word) → AreApart f h → count f at words + count h at words ≤ count (λ x. f x || h x) at words
count_or f h at [] a = omega arith
count_or f h at (w ∷ words) a = let b = either (f at) (h at) (a at) in let c = count_or f h (at + 4) words a in omega arith

count_one : (a at : ℕ) (w : Word) (words : List Word) → word_from a at words ≡ Some w → 1 ≤ count (λ x. a == x) at words
count_one a at w [] e = absurd (cc)
count_one a at w (v ∷ words) e = go (a == at) refl e (count_one a (at + 4) w words)
  where
    go : (b : Bool) → (a == at) ≡ b → (if b then Some v else word_from a (at + 4) words) ≡ Some w → (word_from a (at + 4) words ≡ Some w → 1 ≤ count (λ x. a == x) (at + 4) words) → 1 ≤ count (λ x. a == x) at (v ∷ words)
    go true q e rec = let h = ap one_if q in omega arith
    go false q e rec = let h = rec e in omega arith

-- WORDS OF A RUN

-- the place of an address in a run
record Place (a n x : ℕ) : Type 0 where
  index : ℕ
  few : index < n
  is : x ≡ a + 4 * index

place : (a n x : ℕ) → is_within a n x ≡ true → Place a n x
place a zero x e = absurd (cc)
place a (suc n) x e = go (or_cases (a == x) (is_within (a + 4) n x) e) (place (a + 4) n x)
  where
    go : ((a == x) ≡ true) ⊎ (is_within (a + 4) n x ≡ true) → (is_within (a + 4) n x ≡ true → Place (a + 4) n x) → Place a (suc n) x
    go (inl h) rec = let q : a ≡ x = eqb-true a x h in record { index = 0; few = omega arith; is = omega (arith, q) }
    go (inr h) rec = let r = rec h in let f = r.few in let i = r.is in record { index = suc r.index; few = omega arith; is = omega arith }

count_within : (a n lo : ℕ) (words : List Word) → ((i : ℕ) → i < n → (w : Word) × (word_from (a + 4 * i) lo words ≡ Some w)) → n ≤ count (is_within a n) lo words
count_within a zero lo words f = omega arith
count_within a (suc n) lo words f =
    let first = f 0 (omega arith) in
    let here : a + 4 * 0 ≡ a = omega arith in
    let b = count_one a lo first.0 words (subst (λ x. word_from x lo words ≡ Some first.0) here first.1) in
    let c = count_within (a + 4) n lo words (λ i h. later i h (f (suc i) (omega (arith, h)))) in
    let d = count_or (λ x. a == x) (is_within (a + 4) n) lo words apart in
    omega arith
  where
    later : (i : ℕ) → i < n → (w : Word) × (word_from (a + 4 * suc i) lo words ≡ Some w) → (w : Word) × (word_from ((a + 4) + 4 * i) lo words ≡ Some w)
    later i h w = let e : a + 4 * suc i ≡ (a + 4) + 4 * i = omega arith in (w.0, subst (λ x. word_from x lo words ≡ Some w.0) e w.1)

    apart : AreApart (λ x. a == x) (is_within (a + 4) n)
    apart x e = false_from_ne_true (is_within (a + 4) n x) (λ h. let p = place (a + 4) n x h in let q : a ≡ x = eqb-true a x e in let i = p.is in let no_way : ⊥ = omega arith in no_way)

-- lists of notes no two of which hold a word
abbrev IsApart : List Note → Type 0
IsApart [] = Unit {0}
IsApart (n ∷ ns) = AllByRecursion (λ m. AreApart (is_in_procedure n) (is_in_procedure m)) ns × IsApart ns

all_apart : (ns : List Note) → ((q r : ℕ) (n m : Note) → slice_get ns q ≡ Some n → slice_get ns r ≡ Some m → q ≢ r → AreApart (is_in_procedure n) (is_in_procedure m)) → IsApart ns
all_apart [] f = tt
all_apart (n ∷ ns) f = (
  each_at (λ m. AreApart (is_in_procedure n) (is_in_procedure m)) ns (λ r m e. f 0 (suc r) n m refl e (λ h. cc)),
  all_apart ns (λ q r a b e g ne. f (suc q) (suc r) a b e g (λ h. ne (cc))),
)

apart_from_all : (f : ℕ → Bool) (ns : List Note) → AllByRecursion (λ m. AreApart f (is_in_procedure m)) ns → AreApart f (is_in_procedures ns)
apart_from_all f [] h x e = refl
apart_from_all f (m ∷ ns) h x e = rw (h.0 x e) (apart_from_all f ns h.1 x e)

count_notes : (ns : List Note) (lo : ℕ) (words : List Word) → IsApart ns → AllByRecursion (λ n. n.length + 1 ≤ count (is_in_procedure n) lo words) ns → sum_by (λ n. n.length + 1) ns ≤ count (is_in_procedures ns) lo words
count_notes [] lo words a h = omega arith
count_notes (n ∷ ns) lo words a h =
    let b = sum_by-cons (λ n. n.length + 1) n ns in
    let c = count_notes ns lo words a.1 h.1 in
    let d = count_or (is_in_procedure n) (is_in_procedures ns) lo words (apart_from_all (is_in_procedure n) ns a.0) in
    let e = h.0 in
    omega arith

body_length : (t : Text) (link at n : ℕ) → has_body t link at n ≡ true → length (body_from t at n) ≡ n
body_length t link at zero b = refl
body_length t link at (suc n) b =
    let c = and_parts (is_item_without link (reading_at t at)) (has_body t link (at + 4) n) b in
    let item = read_item link (reading_at t at) c.0 in
    let rest = body_length t link (at + 4) n c.1 in
    rw item.1 (ap suc rest)

procedures_words : (t : Text) (ns : List Note) → AllByRecursion (λ n. has_body t n.link n.address n.length ≡ true) ns → sum_by procedure_words (map (procedure_of t) ns) ≡ sum_by (λ n. n.length + 1) ns
procedures_words t [] h = refl
procedures_words t (n ∷ ns) h =
    let a = sum_by-cons procedure_words (procedure_of t n) (map (procedure_of t) ns) in
    let b = sum_by-cons (λ n. n.length + 1) n ns in
    let c = body_length t n.link n.address n.length h.0 in
    let d = procedures_words t ns h.1 in
    omega arith

module _ (p : Program) (is : ℕ → Bool) (linked : IsLinked p) (dec : Decides p is) (fine : IsReadable is p) where
  abbrev t : Text
  t = p.text

  abbrev ns : List Note
  ns = N p is linked.text dec fine

  abbrev keep : ℕ → Bool
  keep = K p is linked.text dec fine

  abbrev lead : ℕ → Bool
  lead = L p is linked.text dec fine

  abbrev g : Graph
  g = G p is linked.text dec fine

  abbrev Tail : ℕ → List Word → Rest
  Tail at words = Cut p is linked.text dec fine at words

  abbrev Suffix : ℕ → List Word → Type 0
  Suffix at words = IsSuffix p is linked.text dec fine at words

  abbrev Here : ℕ → Word → List Word → Rest
  Here at w words = with_reading ns (reading_of t at w) (Tail (at + 4) words)

  -- BLOCKS

  abbrev size : Rest → ℕ
  size rest = length rest.items + term_words rest.term + sum_by block_words rest.blocks

  form_size : (f : Form) (rest : Rest) → IsReal f → (IsTermForm f → rest ≡ between rest.blocks) → size (with_form f rest) ≡ 1 + size rest
  form_size (ItemForm item) rest real closed = omega arith
  form_size (TermForm term) rest real closed =
      let one = real_word term real in
      let flat : size (with_form (TermForm term) rest) ≡ 1 + size (between rest.blocks) = omega arith in
      flat ∙ ap (λ r. 1 + size r) (sym (closed tt))

  begun_size : (b : Bool) (at : ℕ) (rest : Rest) → size (begun_if b at rest) ≡ size rest
  begun_size true at rest = let a = sum_by-cons block_words (record { name = at; items = rest.items; term = rest.term }) rest.blocks in omega arith
  begun_size false at rest = refl

  cut_size : (at : ℕ) (words : List Word) → Suffix at words → size (Tail at words) ≡ count keep at words
  cut_size at [] suffix = refl
  cut_size at (w ∷ words) suffix = go (keep at) refl (cut_size (at + 4) words (tail_suffix p is linked.text dec fine at w words suffix))
    where
      go : (b : Bool) → keep at ≡ b → size (Tail (at + 4) words) ≡ count keep (at + 4) words → size (if b then begun_if (lead at) at (Here at w words) else Tail (at + 4) words) ≡ one_if b + count keep (at + 4) words
      go false k h = omega arith
      go true k h =
          let rd = read_at p is linked.text dec fine at (kept_is p is linked.text dec fine at k).0 in
          begun_size (lead at) at (Here at w words)
          ∙ ap size (here_is p is linked dec fine at w words suffix rd)
          ∙ form_size (form_of ns rd.reading) (Tail (at + 4) words) (form_real ns rd.reading (form_at p is linked.text dec fine at rd)) (λ i. closed_next p is linked dec fine at words rd (form_of ns rd.reading) refl i k)
          ∙ ap (λ n. 1 + n) h

  blocks_size : sum_by block_words g.blocks ≡ count keep t.lo t.words
  blocks_size =
      let whole : Tail t.lo t.words ≡ between g.blocks = closed_cut p is linked.text dec fine t.lo t.words (first_lead p is linked.text dec fine) in
      let a : size (between g.blocks) ≡ count keep t.lo t.words = subst (λ r. size r ≡ count keep t.lo t.words) whole (cut_size t.lo t.words (λ x h. refl)) in
      omega arith

  -- PROCEDURES

  -- a reached word that reads as an item goes on
  item_goes : (x : ℕ) (item : Item) → (rd : ReadWord p is linked.text dec fine.text x) → reading_at t x ≡ Some (IsItem item) → insn_goes_on rd.sound.insn ≡ true
  item_goes x item rd e =
      let r : reading_at t x ≡ Some rd.reading = rw rd.there rd.reads in
      let same : rd.reading ≡ IsItem item = let u : Some rd.reading ≡ Some (IsItem item) = sym r ∙ e in cc in
      goes_of p is linked.text dec fine x rd (subst (λ r. closes (form_line (form_of ns r)) ≡ false) (sym same) (item_open item))

  item_next : (x : ℕ) (item : Item) → is x ≡ true → reading_at t x ≡ Some (IsItem item) → is (x + 4) ≡ true
  item_next x item i e =
      let rd = read_at p is linked.text dec fine x i in
      next_reached p is linked.text dec fine.text x rd.word rd.sound i rd.there (item_goes x item rd e)

  -- an item of a body is reached
  record IsBodyItem (x : ℕ) : Type 0 where
    reached : is x ≡ true
    item : Item
    reads : reading_at t x ≡ Some (IsItem item)

  body_item : (link a n : ℕ) → is a ≡ true → has_body t link a n ≡ true → (i : ℕ) → i < n → IsBodyItem (a + 4 * i)
  body_item link a zero r b i few = absurd (omega (arith, few))
  body_item link a (suc n) r b i few = at_index i few (λ next i h. body_item link (a + 4) n next c.1 i h)
    where
      c : (is_item_without link (reading_at t a) ≡ true) × (has_body t link (a + 4) n ≡ true)
      c = and_parts (is_item_without link (reading_at t a)) (has_body t link (a + 4) n) b

      first : (item : Item) × (reading_at t a ≡ Some (IsItem item))
      first = let f = read_item link (reading_at t a) c.0 in (f.0, f.1)

      at_index : (i : ℕ) → i < suc n → (is (a + 4) ≡ true → (i : ℕ) → i < n → IsBodyItem ((a + 4) + 4 * i)) → IsBodyItem (a + 4 * i)
      at_index zero few rec = let e : a ≡ a + 4 * 0 = omega arith in subst IsBodyItem e (record { reached = r; item = first.0; reads = first.1 })
      at_index (suc i) few rec =
          let next = item_next a first.0 r first.1 in
          let e : (a + 4) + 4 * i ≡ a + 4 * suc i = omega arith in
          subst IsBodyItem e (rec next i (omega (arith, few)))

  body_word_there : (n : Note) → IsGoodNote is p n → (i : ℕ) → i < n.length + 1 → (w : Word) × (word_from (n.address + 4 * i) t.lo t.words ≡ Some w)
  body_word_there n good i few = go (cases_lt i n.length)
    where
      last : (t : Text) (link a n : ℕ) → has_body t link a n ≡ true → (w : Word) × (word_at t (a + 4 * n) ≡ Some w)
      last t link a zero b =
          let r = return_is t a link (word_at t a) refl b in
          let e : a ≡ a + 4 * 0 = omega arith in
          (r.word, subst (λ x. word_at t x ≡ Some r.word) e r.there)
      last t link a (suc n) b =
          let c = and_parts (is_item_without link (reading_at t a)) (has_body t link (a + 4) n) b in
          let r = last t link (a + 4) n c.1 in
          let e : (a + 4) + 4 * n ≡ a + 4 * suc n = omega arith in
          (r.0, subst (λ x. word_at t x ≡ Some r.0) e r.1)

      go : (i < n.length) ⊎ (n.length ≤ i) → (w : Word) × (word_from (n.address + 4 * i) t.lo t.words ≡ Some w)
      go (inl lt) =
          let b = body_item n.link n.address n.length good.reached good.body i lt in
          let rd = read_at p is linked.text dec fine (n.address + 4 * i) b.reached in
          (rd.word, rd.there)
      go (inr le) = let e : n.length ≡ i = omega arith in subst (λ i. (w : Word) × (word_from (n.address + 4 * i) t.lo t.words ≡ Some w)) e (last t n.link n.address n.length good.body)

  count_note : (n : Note) → IsGoodNote is p n → n.length + 1 ≤ count (is_in_procedure n) t.lo t.words
  count_note n good = count_within n.address (n.length + 1) t.lo t.words (body_word_there n good)

  -- of two procedures neither begins within the other
  not_within : (n m : Note) → IsGoodNote is p n → IsGoodNote is p m → n.address < m.address → (x : ℕ) → is_in_procedure n x ≡ true → is_in_procedure m x ≡ true → ⊥
  not_within n m good_n good_m lt x hn hm =
      let pn = place n.address (n.length + 1) x hn in
      let pm = place m.address (m.length + 1) x hm in
      let i : ℕ = pn.index - pm.index - 1 in
      let in_ = pn.is in
      let im = pm.is in
      let fn = pn.few in
      let before : n.address + 4 * i + 4 ≡ m.address = omega arith in
      let few : i < n.length = omega arith in
      enters (n.address + 4 * i) before (body_item n.link n.address n.length good_n.reached good_n.body i few)
    where
      -- the word before the first of a procedure leads in
      enters : (y : ℕ) → y + 4 ≡ m.address → IsBodyItem y → ⊥
      enters y before b =
          let rd = read_at p is linked.text dec fine y b.reached in
          let goes = item_goes y b.item rd b.reads in
          let none = subst (λ o. marked_enters m y rd.word.mark o ≡ false) rd.sound.is (good_m.words y rd.word b.reached rd.there) in
          let a = or_parts (list_any (is_in_procedure m) (half_target rd.word.mark)) (enters_from_outside m y rd.sound.insn) none in
          let out : is_in_procedure m y ≡ false = false_from_ne_true (is_in_procedure m y) (λ h. let q = place m.address (m.length + 1) y h in let i = q.is in let no_way : ⊥ = omega arith in no_way) in
          let c = or_parts (list_any (is_in_procedure m) (next_word y rd.sound.insn)) (list_any (λ z. is_in_procedure m z && not (is_call m rd.sound.insn z)) (jump_target y rd.sound.insn))
          (subst (λ b. (not b && (list_any (is_in_procedure m) (next_word y rd.sound.insn) || list_any (λ z. is_in_procedure m z && not (is_call m rd.sound.insn z)) (jump_target y rd.sound.insn))) ≡ false) out a.1) in
          let next : Contains (next_word y rd.sound.insn) (y + 4) = rw goes (one (y + 4)) in
          let into : is_in_procedure m (y + 4) ≡ true = subst (λ z. is_in_procedure m z ≡ true) (sym before) (in_procedure_start m) in
          true_not_false (sym into ∙ any_none (is_in_procedure m) (next_word y rd.sound.insn) (y + 4) c.0 next)

  notes_apart : IsApart ns
  notes_apart = all_apart ns (λ q r n m e g ne x h. false_from_ne_true (is_in_procedure m x) (λ h'. both q r n m e g ne x h h'))
    where
      both : (q r : ℕ) (n m : Note) → slice_get ns q ≡ Some n → slice_get ns r ≡ Some m → q ≢ r → (x : ℕ) → is_in_procedure n x ≡ true → is_in_procedure m x ≡ true → ⊥
      both q r n m e g ne x hn hm = order (cases_lt n.address m.address) (cases_lt m.address n.address)
        where
          good_n : IsGoodNote is p n
          good_n = good_note is p q n fine.notes e

          good_m : IsGoodNote is p m
          good_m = good_note is p r m fine.notes g

          equal : n.address ≡ m.address → ⊥
          equal same =
              let a : procedure_at ns n.address ≡ Some q = own_number is p None 1 p.notes q n fine.notes e in
              let b : procedure_at ns m.address ≡ Some r = own_number is p None 1 p.notes r m fine.notes g in
              let c : Some q ≡ Some r = sym a ∙ subst (λ x. procedure_at ns x ≡ Some r) (sym same) b in
              ne (cc)

          order : (n.address < m.address) ⊎ (m.address ≤ n.address) → (m.address < n.address) ⊎ (n.address ≤ m.address) → ⊥
          order (inl lt) other = not_within n m good_n good_m lt x hn hm
          order (inr le) (inl lt) = not_within m n good_m good_n lt x hm hn
          order (inr le) (inr ge) = equal (omega (arith, le, ge))

  -- WORDS

  pub words_fit : words_of g ≤ length t.words
  words_fit =
      let good : AllByRecursion (IsGoodNote is p) ns = each_at (IsGoodNote is p) ns (λ q n e. good_note is p q n fine.notes e) in
      let bodies = procedures_words t ns (each_at (λ n. has_body t n.link n.address n.length ≡ true) ns (λ q n e. (good_note is p q n fine.notes e).body)) in
      let notes = count_notes ns t.lo t.words notes_apart (each_at (λ n. n.length + 1 ≤ count (is_in_procedure n) t.lo t.words) ns (λ q n e. count_note n (good_note is p q n fine.notes e))) in
      let blocks = blocks_size in
      let all = count_apart keep (is_in_procedures ns) t.lo t.words (λ x k. (kept_is p is linked.text dec fine x k).1) in
      omega arith

pub lifted_good : LiftedIsGood
lifted_good p is linked short ascending dec fine =
    let early = readable is p fine in
    record {
      graph = is_graph p is linked dec early ascending;
      canonical = is_canonical p is linked dec early;
      sound = is_sound p is linked dec early fine.dies;
      reach = in_reach p is linked dec early short;
      words = words_fit p is linked dec early;
    }
