-- What is read off a program is canonical.
use Rattle.std.proofs.Common.{◌≡◌, ◌⊎◌, inl, inr, ℕ, zero, suc, pos, ◌+◌, Bool, true, false, not, ◌==◌, ◌&&◌, ◌||◌, List, [], ◌∷◌, ◌++◌, map, Option, Some, None, slice_get, if◌then◌else◌, refl, sym, ap, ◌∙◌, subst, arith}
use Rattle.std.specs.List.{AllByRecursion, flat_map}
use Rattle.std.specs.Option.{option_and_then, option_map}
use Rattle.std.proofs.lemmas.Option.{slice_get-map}
use Rattle.std.proofs.lemmas.Bool.{eqb-true, and_parts, or_left, or_right, false_from_ne_true, or_parts, or_cases}
use Rattle.std.proofs.lemmas.List.Elements.{All-from_recursion}
use Rattle.sq_isa.specs.Registers.{is_among}
use Rattle.sq_graph.specs.declared.item.Item.{Item}
use Rattle.sq_graph.specs.declared.item.Term.{Term}
use Rattle.sq_graph.specs.declared.item.Term.TheVariants.{Fall, Jump, Branch, Call, PartJump, Indirect, Stop}
use Rattle.sq_graph.specs.Graph.{Block, Graph}
use Rattle.sq_graph.specs.Terms.{goes_on}
use Rattle.sq_graph.specs.Uses.{item_uses, term_uses, items_uses, terms_uses, code_word_uses, uses}
use Rattle.sq_graph.specs.Blocks.{all_items, items_of_blocks, items_of_bodies}
use Rattle.sq_graph.specs.Leaders.{is_fall, is_bare, follows_a_term, is_leader, FallsIntoLeaders, IsCanonical}
use Rattle.law_program.specs.Programs.{Word, Text, Note, Program, word_from, word_at, target_of}
use Rattle.law_program.specs.Reached.{Decides}
use Rattle.law_program.specs.Readings.{Reading, IsItem, IsTerm, Links, reading_of, reading_at}
use Rattle.law_program.specs.Notes.{is_in_procedures, is_within, has_body, is_item_without}
use Rattle.law_program.specs.Lifted.{Form, ItemForm, TermForm, link_form, form_of, form_leads, reading_leads, words_lead, Rest, between, with_form, with_reading, begun_if, procedure_at, with_item, body_from, procedure_of}
use Rattle.law_lifting.specs.Lifting.{IsLinked, IsReadable}
use Rattle.law_lifting.proofs.TextWords.{same_itself, at_here, at_later, stood}
use Rattle.law_lifting.proofs.Lifts.{form_line, closes}
use Rattle.law_lifting.proofs.Facts.{ReadWord}
use Rattle.law_lifting.proofs.NoteFacts.{notes_find, good_note, read_item, IsReturn, return_is, BodyWord, item_word, return_word, body_word}
use Rattle.law_lifting.proofs.ReadingFacts.{IsReadTerm, IsForm}
use Rattle.law_lifting.proofs.Cutting.{kept_is, kept_from, read_at, next_kept, true_not_false}
use Rattle.law_lifting.proofs.CutLines.{N, K, L, G, Cut, IsSuffix, tail_suffix, form_at, IsTermForm, term_lead, goes_of, closed_cut, first_lead}
use Rattle.law_lifting.proofs.Whole.{names_are}
use Rattle.sq_lifted.proofs.Blocks.{IsFormGood, IsBlockGood, IsRestGood, reads_here, reading_blocks}

-- NO BLOCK IS BARE

-- no term that is read is Fall
abbrev pub IsReal : Form → Type 0
IsReal (ItemForm item) = Unit {0}
IsReal (TermForm term) = is_fall term ≡ false

term_real : (term : Term) → IsReadTerm term → is_fall term ≡ false
term_real Fall f = absurd f
term_real (Jump to) f = refl
term_real (Branch cond a b to) f = refl
term_real (Call link to) f = absurd f
term_real (PartJump link part to) f = refl
term_real (Indirect link at offset) f = refl
term_real (Stop word) f = refl

link_real : (link to : ℕ) (o : Option ℕ) → IsReal (link_form link to o)
link_real link to None = refl
link_real link to (Some q) = tt

pub form_real : (ns : List Note) (r : Reading) → IsForm r → IsReal (form_of ns r)
form_real ns (IsItem item) f = tt
form_real ns (IsTerm term) f = term_real term f
form_real ns (Links link to) f = link_real link to (procedure_at ns to)

full : (f : Form) (rest : Rest) (name : ℕ) → IsReal f → is_bare (record { name = name; items = (with_form f rest).items; term = (with_form f rest).term }) ≡ false
full (ItemForm item) rest name h = refl
full (TermForm term) rest name h = h

-- WHAT IS NOT AMONG

among_append : (xs ys : List ℕ) (x : ℕ) → is_among (xs ++ ys) x ≡ false → (is_among xs x ≡ false) × (is_among ys x ≡ false)
among_append [] ys x h = (refl, h)
among_append (a ∷ xs) ys x h =
    let b = or_parts (a == x) (is_among (xs ++ ys) x) h in
    let c = among_append xs ys x b.1 in
    (rw b.0 c.0, c.1)

among_cases : (xs ys : List ℕ) (x : ℕ) → is_among (xs ++ ys) x ≡ true → (is_among xs x ≡ true) ⊎ (is_among ys x ≡ true)
among_cases [] ys x h = inr h
among_cases (a ∷ xs) ys x h = go (or_cases (a == x) (is_among (xs ++ ys) x) h) (among_cases xs ys x)
  where
    go : ((a == x) ≡ true) ⊎ (is_among (xs ++ ys) x ≡ true) → (is_among (xs ++ ys) x ≡ true → (is_among xs x ≡ true) ⊎ (is_among ys x ≡ true)) → (is_among (a ∷ xs) x ≡ true) ⊎ (is_among ys x ≡ true)
    go (inl e) rec = inl (or_left (a == x) (is_among xs x) e)
    go (inr e) rec = side (rec e)
      where
        side : (is_among xs x ≡ true) ⊎ (is_among ys x ≡ true) → (is_among (a ∷ xs) x ≡ true) ⊎ (is_among ys x ≡ true)
        side (inl f) = inl (or_right (a == x) (is_among xs x) f)
        side (inr f) = inr f

among_flat : {Y : Type 0} (f : Y → List ℕ) (ys : List Y) (x : ℕ) → is_among (flat_map f ys) x ≡ false → AllByRecursion (λ y. is_among (f y) x ≡ false) ys
among_flat f [] x h = tt
among_flat f (y ∷ ys) x h = let b = among_append (f y) (flat_map f ys) x h in (b.0, among_flat f ys x b.1)

each_parts : {X : Type 0} (P : X → Type 0) (xs ys : List X) → AllByRecursion P (xs ++ ys) → AllByRecursion P xs × AllByRecursion P ys
each_parts P [] ys h = (tt, h)
each_parts P (x ∷ xs) ys h = let b = each_parts P xs ys h.1 in ((h.0, b.0), b.1)

flat_at : {X Y : Type 0} (f : X → List Y) (P : Y → Type 0) (xs : List X) (q : ℕ) (x : X) → AllByRecursion P (flat_map f xs) → slice_get xs q ≡ Some x → AllByRecursion P (f x)
flat_at f P [] q x h e = absurd (cc)
flat_at f P (y ∷ xs) zero x h e = let i : y ≡ x = cc in subst (λ y. AllByRecursion P (f y)) i (each_parts P (f y) (flat_map f xs) h).0
flat_at f P (y ∷ xs) (suc q) x h e = flat_at f P xs q x (each_parts P (f y) (flat_map f xs) h).1 e

-- an item and a term that don't use x
abbrev ItemWithout : ℕ → Item → Type 0
ItemWithout x item = is_among (item_uses item) x ≡ false

abbrev TermWithout : ℕ → Term → Type 0
TermWithout x term = is_among (term_uses term) x ≡ false

blocks_without : (x : ℕ) (blocks : List Block) → is_among (terms_uses blocks) x ≡ false → AllByRecursion (ItemWithout x) (items_of_blocks blocks) → AllByRecursion (IsBlockGood (ItemWithout x) (TermWithout x)) blocks
blocks_without x [] h i = tt
blocks_without x (b ∷ blocks) h i =
    let c = among_append (term_uses b.term) (terms_uses blocks) x h in
    let d = each_parts (ItemWithout x) b.items (items_of_blocks blocks) i in
    (record { items = d.0; term = c.0 }, blocks_without x blocks c.1 d.1)

-- a reading of a body
return_reading : (t : Text) (at link : ℕ) → IsReturn t at link → reading_at t at ≡ Some (IsTerm (Indirect 0 link (pos 0)))
return_reading t at link r = rw (r.there, r.insn, r.plain) refl

body_has : (P : Item → Type 0) (t : Text) (link a n x : ℕ) (item : Item) → has_body t link a n ≡ true → is_within a (suc n) x ≡ true → reading_at t x ≡ Some (IsItem item) → AllByRecursion P (body_from t a n) → P item
body_has P t link a zero x item b h e each = go (or_cases (a == x) false h)
  where
    go : ((a == x) ≡ true) ⊎ (false ≡ true) → P item
    go (inr h) = absurd (cc)
    go (inl h) =
        let r = return_reading t a link (return_is t a link (word_at t a) refl b) in
        absurd (let u : Some (IsTerm (Indirect 0 link (pos 0))) ≡ Some (IsItem item) = sym r ∙ subst (λ y. reading_at t y ≡ Some (IsItem item)) (sym (eqb-true a x h)) e in cc)
body_has P t link a (suc n) x item b h e each =
    let c = and_parts (is_item_without link (reading_at t a)) (has_body t link (a + 4) n) b in
    let i = read_item link (reading_at t a) c.0 in
    let each' : AllByRecursion P (i.0 ∷ body_from t (a + 4) n) = subst (λ o. AllByRecursion P (with_item o (body_from t (a + 4) n))) i.1 each in
    go i.0 i.1 each' (or_cases (a == x) (is_within (a + 4) (suc n) x) h) (λ h. body_has P t link (a + 4) n x item c.1 h e each'.1)
  where
    go : (first : Item) → reading_at t a ≡ Some (IsItem first) → AllByRecursion P (first ∷ body_from t (a + 4) n) → ((a == x) ≡ true) ⊎ (is_within (a + 4) (suc n) x ≡ true) → (is_within (a + 4) (suc n) x ≡ true → P item) → P item
    go first f each (inl h) rec =
        let u : Some (IsItem first) ≡ Some (IsItem item) = sym f ∙ subst (λ y. reading_at t y ≡ Some (IsItem item)) (sym (eqb-true a x h)) e in
        let v : first ≡ item = cc in
        subst P v each.0
    go first f each (inr h) rec = rec h

-- a reached word makes x a leader
record IsLed (is : ℕ → Bool) (ns : List Note) (t : Text) (at : ℕ) (words : List Word) (x : ℕ) : Type 0 where
  pc : ℕ
  word : Word
  reached : is pc ≡ true
  there : word_from pc at words ≡ Some word
  leads : is_among (reading_leads ns pc (reading_of t pc word)) x ≡ true

is_led : (is : ℕ → Bool) (ns : List Note) (t : Text) (at : ℕ) (words : List Word) (x : ℕ) → words_lead is ns t at words x ≡ true → IsLed is ns t at words x
is_led is ns t at [] x e = absurd (cc)
is_led is ns t at (w ∷ words) x e = go (or_cases (is at && is_among (reading_leads ns at (reading_of t at w)) x) (words_lead is ns t (at + 4) words x) e) (is_led is ns t (at + 4) words x)
  where
    go : ((is at && is_among (reading_leads ns at (reading_of t at w)) x) ≡ true) ⊎ (words_lead is ns t (at + 4) words x ≡ true) → (words_lead is ns t (at + 4) words x ≡ true → IsLed is ns t (at + 4) words x) → IsLed is ns t at (w ∷ words) x
    go (inl h) rec = let a = and_parts (is at) (is_among (reading_leads ns at (reading_of t at w)) x) h in record { pc = at; word = w; reached = a.0; there = at_here at w words; leads = a.1 }
    go (inr h) rec =
        let r = rec h in
        let s = stood r.pc (at + 4) r.word words r.there in
        record { pc = r.pc; word = r.word; reached = r.reached; there = at_later r.pc at w words s.least ∙ r.there; leads = r.leads }

module _ (p : Program) (is : ℕ → Bool) (linked : IsLinked p) (dec : Decides p is) (fine : IsReadable is p) where
  abbrev t : Text
  t = p.text

  abbrev ns : List Note
  ns = N p is linked.text dec fine

  abbrev keep : ℕ → Bool
  keep = K p is linked.text dec fine

  abbrev lead : ℕ → Bool
  lead = L p is linked.text dec fine

  abbrev g : Graph
  g = G p is linked.text dec fine

  abbrev Tail : ℕ → List Word → Rest
  Tail at words = Cut p is linked.text dec fine at words

  abbrev Suffix : ℕ → List Word → Type 0
  Suffix at words = IsSuffix p is linked.text dec fine at words

  abbrev Read : ℕ → Type 0
  Read at = ReadWord p is linked.text dec fine.text at

  -- what stands from a kept word on, before the name
  abbrev Here : ℕ → Word → List Word → Rest
  Here at w words = with_reading ns (reading_of t at w) (Tail (at + 4) words)

  pub here_is : (at : ℕ) (w : Word) (words : List Word) → Suffix at (w ∷ words) → (rd : Read at) → Here at w words ≡ with_form (form_of ns rd.reading) (Tail (at + 4) words)
  here_is at w words suffix rd = ap (λ o. with_reading ns o (Tail (at + 4) words)) (reads_here p is linked.text dec fine at w words suffix rd)

  -- a block that isn't bare, and is a leader of the program
  pub record IsFullLeader (b : Block) : Type 0 where
    pub full : is_bare b ≡ false
    pub leads : lead b.name ≡ true

  cut_full : (at : ℕ) (words : List Word) → Suffix at words → AllByRecursion IsFullLeader (Tail at words).blocks
  cut_full at [] suffix = tt
  cut_full at (w ∷ words) suffix = go (keep at) refl (cut_full (at + 4) words (tail_suffix p is linked.text dec fine at w words suffix))
    where
      begun : (b : Bool) (rest : Rest) → lead at ≡ b → is_bare (record { name = at; items = rest.items; term = rest.term }) ≡ false → AllByRecursion IsFullLeader rest.blocks → AllByRecursion IsFullLeader (begun_if b at rest).blocks
      begun true rest l f h = (record { full = f; leads = l }, h)
      begun false rest l f h = h

      go : (b : Bool) → keep at ≡ b → AllByRecursion IsFullLeader (Tail (at + 4) words).blocks → AllByRecursion IsFullLeader (if b then begun_if (lead at) at (Here at w words) else Tail (at + 4) words).blocks
      go false k h = h
      go true k h =
          let rd = read_at p is linked.text dec fine at (kept_is p is linked.text dec fine at k).0 in
          begun (lead at) (Here at w words) refl
          (subst (λ rest. is_bare (record { name = at; items = rest.items; term = rest.term }) ≡ false) (sym (here_is at w words suffix rd)) (full (form_of ns rd.reading) (Tail (at + 4) words) at (form_real ns rd.reading (form_at p is linked.text dec fine at rd))))
          (subst (λ bs. AllByRecursion IsFullLeader bs) (sym (reading_blocks p is linked.text dec fine (reading_of t at w) (Tail (at + 4) words))) h)

  blocks_full : AllByRecursion IsFullLeader g.blocks
  blocks_full = cut_full t.lo t.words (λ x h. refl)

  -- FROM BLOCKS TO WORDS

  pub closed_next : (at : ℕ) (words : List Word) (rd : Read at) (f : Form) → form_of ns rd.reading ≡ f → IsTermForm f → keep at ≡ true → Tail (at + 4) words ≡ between (Tail (at + 4) words).blocks
  closed_next at words rd f e i k = closed_cut p is linked.text dec fine (at + 4) words (λ k'. term_lead p is linked.text dec fine at rd f e i k k')

  -- what holds of each item and term of the blocks holds at each kept word
  module _ (P : Item → Type 0) (Q : Term → Type 0) (fall : Q Fall) where
    begun_back : (b : Bool) (at : ℕ) (rest : Rest) → IsRestGood P Q (begun_if b at rest) → IsRestGood P Q rest
    begun_back true at rest h = record { items = h.blocks.0.items; term = h.blocks.0.term; blocks = h.blocks.1 }
    begun_back false at rest h = h

    form_back : (f : Form) (rest : Rest) → (IsTermForm f → rest ≡ between rest.blocks) → IsRestGood P Q (with_form f rest) → IsFormGood P Q f × IsRestGood P Q rest
    form_back (ItemForm item) rest c h = (h.items.0, record { items = h.items.1; term = h.term; blocks = h.blocks })
    form_back (TermForm term) rest c h = (h.term, subst (IsRestGood P Q) (sym (c tt)) (record { items = tt; term = fall; blocks = h.blocks }))

    here_back : (at : ℕ) (v : Word) (words : List Word) → Suffix at (v ∷ words) → keep at ≡ true → IsRestGood P Q (Here at v words) → (rd : Read at) → IsFormGood P Q (form_of ns rd.reading) × IsRestGood P Q (Tail (at + 4) words)
    here_back at v words suffix k h rd =
        form_back (form_of ns rd.reading) (Tail (at + 4) words) (λ i. closed_next at words rd (form_of ns rd.reading) refl i k)
        (subst (IsRestGood P Q) (here_is at v words suffix rd) h)

    words_good : (at : ℕ) (words : List Word) → Suffix at words → IsRestGood P Q (Tail at words) → (y : ℕ) (w : Word) → word_from y at words ≡ Some w → keep y ≡ true → (rd : Read y) → IsFormGood P Q (form_of ns rd.reading)
    words_good at [] suffix h y w e k rd = absurd (cc)
    words_good at (v ∷ words) suffix h y w e k rd = go (keep at) refl h (y == at) refl e (λ rest e. words_good (at + 4) words (tail_suffix p is linked.text dec fine at v words suffix) rest y w e k rd)
      where
        go : (b : Bool) → keep at ≡ b → IsRestGood P Q (if b then begun_if (lead at) at (Here at v words) else Tail (at + 4) words) → (c : Bool) → (y == at) ≡ c → (if c then Some v else word_from y (at + 4) words) ≡ Some w → (IsRestGood P Q (Tail (at + 4) words) → word_from y (at + 4) words ≡ Some w → IsFormGood P Q (form_of ns rd.reading)) → IsFormGood P Q (form_of ns rd.reading)
        go true ka h true q e rec =
            let here : (rd : Read at) → IsFormGood P Q (form_of ns rd.reading) = λ rd. (here_back at v words suffix ka (begun_back (lead at) at (Here at v words) h) rd).0 in
            subst (λ z. (rd : Read z) → IsFormGood P Q (form_of ns rd.reading)) (sym (eqb-true y at q)) here rd
        go true ka h false q e rec = rec (here_back at v words suffix ka (begun_back (lead at) at (Here at v words) h) (read_at p is linked.text dec fine at (kept_is p is linked.text dec fine at ka).0)).1 e
        go false ka h true q e rec = true_not_false (sym (subst (λ z. keep z ≡ true) (eqb-true y at q) k) ∙ ka)
        go false ka h false q e rec = rec h e

    pub each_word_good : AllByRecursion (IsBlockGood P Q) g.blocks → (y : ℕ) → keep y ≡ true → (rd : Read y) → IsFormGood P Q (form_of ns rd.reading)
    each_word_good h y k rd =
        let whole : Tail t.lo t.words ≡ between g.blocks = closed_cut p is linked.text dec fine t.lo t.words (first_lead p is linked.text dec fine) in
        words_good t.lo t.words (λ x h. refl) (subst (IsRestGood P Q) (sym whole) (record { items = tt; term = fall; blocks = h })) y rd.word rd.there k rd

  -- WHAT STANDS BEHIND A TERM

  -- x stands behind no term that goes on
  abbrev NotBehind : ℕ → Rest → Type 0
  NotBehind x rest = follows_a_term (record { name = 0; items = []; term = rest.term } ∷ rest.blocks) x ≡ false

  head_block : (at : ℕ) (w : Word) (words : List Word) → keep at ≡ true → lead at ≡ true → word_from at at words ≡ Some w → (c : Block) × (cs : List Block) × ((Tail at words).blocks ≡ c ∷ cs) × (c.name ≡ at)
  head_block at w [] k l e = absurd (cc)
  head_block at w (v ∷ words) k l e = (record { name = at; items = (Here at v words).items; term = (Here at v words).term }, (Here at v words).blocks, rw (k, l) refl, refl)

  fewer : (x : ℕ) (b : Block) (blocks : List Block) → follows_a_term (b ∷ blocks) x ≡ false → follows_a_term blocks x ≡ false
  fewer x b [] h = refl
  fewer x b (c ∷ cs) h = (or_parts (goes_on b.term && not (is_fall b.term) && c.name == x) (follows_a_term (c ∷ cs) x) h).1

  behind_fall : (x : ℕ) (blocks : List Block) → follows_a_term blocks x ≡ false → NotBehind x (between blocks)
  behind_fall x [] h = refl
  behind_fall x (c ∷ cs) h = h

  not_behind_begun : (x : ℕ) (b : Bool) (at : ℕ) (rest : Rest) → NotBehind x (begun_if b at rest) → NotBehind x rest
  not_behind_begun x true at rest h = go rest.blocks h
    where
      go : (blocks : List Block) → NotBehind x (between (record { name = at; items = rest.items; term = rest.term } ∷ blocks)) → follows_a_term (record { name = 0; items = []; term = rest.term } ∷ blocks) x ≡ false
      go [] h = refl
      go (c ∷ cs) h = h
  not_behind_begun x false at rest h = h

  not_behind_form : (x : ℕ) (f : Form) (rest : Rest) → (IsTermForm f → rest ≡ between rest.blocks) → NotBehind x (with_form f rest) → NotBehind x rest
  not_behind_form x (ItemForm item) rest c h = h
  not_behind_form x (TermForm term) rest c h = subst (NotBehind x) (sym (c tt)) (behind_fall x rest.blocks (fewer x (record { name = 0; items = []; term = term }) rest.blocks h))

  -- a term that goes on has x behind it
  clash : (x : ℕ) (term : Term) (blocks : List Block) (c : Block) (cs : List Block) → goes_on term ≡ true → is_fall term ≡ false → blocks ≡ c ∷ cs → c.name ≡ x → follows_a_term (record { name = 0; items = []; term = term } ∷ blocks) x ≡ false → ⊥
  clash x term blocks c cs g f e n h =
      let h' : follows_a_term (record { name = 0; items = []; term = term } ∷ c ∷ cs) x ≡ false = subst (λ bs. follows_a_term (record { name = 0; items = []; term = term } ∷ bs) x ≡ false) e h in
      let first = (or_parts (goes_on term && not (is_fall term) && c.name == x) (follows_a_term (c ∷ cs) x) h').0 in
      let all : (goes_on term && not (is_fall term) && c.name == x) ≡ true = rw (g, f, n) (same_itself x) in
      true_not_false (sym all ∙ first)

  -- the name behind a kept word whose term goes on stands in the next slot
  behind_here : (at : ℕ) (v : Word) (words : List Word) → Suffix at (v ∷ words) → keep at ≡ true → (rd : Read at) (term : Term) → form_of ns rd.reading ≡ TermForm term → goes_on term ≡ true → NotBehind (at + 4) (Here at v words) → ⊥
  behind_here at v words suffix k rd term e go h =
      let suffix' = tail_suffix p is linked.text dec fine at v words suffix in
      let open' : closes (form_line (form_of ns rd.reading)) ≡ false = subst (λ f. closes (form_line f) ≡ false) (sym e) (ap not go) in
      let next = next_kept p is linked.text dec fine at rd.word rd.sound k rd.there (goes_of p is linked.text dec fine at rd open') in
      let leads = term_lead p is linked.text dec fine at rd (TermForm term) e tt k next in
      let w = read_at p is linked.text dec fine (at + 4) (kept_is p is linked.text dec fine (at + 4) next).0 in
      let head = head_block (at + 4) w.word words next leads (sym (suffix' (at + 4) (omega arith)) ∙ w.there) in
      let h' : NotBehind (at + 4) (with_form (TermForm term) (Tail (at + 4) words)) = subst (λ f. NotBehind (at + 4) (with_form f (Tail (at + 4) words))) e (subst (NotBehind (at + 4)) (here_is at v words suffix rd) h) in
      let real : is_fall term ≡ false = subst IsReal e (form_real ns rd.reading (form_at p is linked.text dec fine at rd)) in
      clash (at + 4) term (Tail (at + 4) words).blocks head.0 head.1 go real head.2 head.3 h'

  behind_words : (at : ℕ) (words : List Word) → Suffix at words → (y : ℕ) (w : Word) → NotBehind (y + 4) (Tail at words) → word_from y at words ≡ Some w → keep y ≡ true → (rd : Read y) (term : Term) → form_of ns rd.reading ≡ TermForm term → goes_on term ≡ true → ⊥
  behind_words at [] suffix y w h e k rd term f g = cc
  behind_words at (v ∷ words) suffix y w h e k rd term f g = go (keep at) refl h (y == at) refl e (λ h e. behind_words (at + 4) words (tail_suffix p is linked.text dec fine at v words suffix) y w h e k rd term f g)
    where
      go : (b : Bool) → keep at ≡ b → NotBehind (y + 4) (if b then begun_if (lead at) at (Here at v words) else Tail (at + 4) words) → (c : Bool) → (y == at) ≡ c → (if c then Some v else word_from y (at + 4) words) ≡ Some w → (NotBehind (y + 4) (Tail (at + 4) words) → word_from y (at + 4) words ≡ Some w → ⊥) → ⊥
      go true ka h true q e rec =
          let here : (rd : Read at) (term : Term) → form_of ns rd.reading ≡ TermForm term → goes_on term ≡ true → NotBehind (at + 4) (Here at v words) → ⊥ = behind_here at v words suffix ka in
          subst (λ z. (rd : Read z) (term : Term) → form_of ns rd.reading ≡ TermForm term → goes_on term ≡ true → NotBehind (z + 4) (Here at v words) → ⊥) (sym (eqb-true y at q)) here rd term f g (not_behind_begun (y + 4) (lead at) at (Here at v words) h)
      go true ka h false q e rec =
          let ra = read_at p is linked.text dec fine at (kept_is p is linked.text dec fine at ka).0 in
          rec (not_behind_form (y + 4) (form_of ns ra.reading) (Tail (at + 4) words) (λ i. closed_next at words ra (form_of ns ra.reading) refl i ka) (subst (NotBehind (y + 4)) (here_is at v words suffix ra) (not_behind_begun (y + 4) (lead at) at (Here at v words) h))) e
      go false ka h true q e rec = true_not_false (sym (subst (λ z. keep z ≡ true) (eqb-true y at q) k) ∙ ka)
      go false ka h false q e rec = rec h e

  not_behind : (y : ℕ) → follows_a_term g.blocks (y + 4) ≡ false → keep y ≡ true → (rd : Read y) (term : Term) → form_of ns rd.reading ≡ TermForm term → goes_on term ≡ true → ⊥
  not_behind y h k rd term f go =
      let whole : Tail t.lo t.words ≡ between g.blocks = closed_cut p is linked.text dec fine t.lo t.words (first_lead p is linked.text dec fine) in
      behind_words t.lo t.words (λ x h. refl) y rd.word (subst (NotBehind (y + 4)) (sym whole) (behind_fall (y + 4) g.blocks h)) rd.there k rd term f go

  -- LEADERS

  module _ (x : ℕ) (unused : is_among (uses g) x ≡ false) (unfollowed : follows_a_term g.blocks x ≡ false) where
    after_entry : is_among (code_word_uses g.code_words ++ (terms_uses g.blocks ++ items_uses (all_items g))) x ≡ false
    after_entry = (or_parts (g.entry == x) (is_among (code_word_uses g.code_words ++ (terms_uses g.blocks ++ items_uses (all_items g))) x) unused).1

    in_blocks : is_among (terms_uses g.blocks ++ items_uses (all_items g)) x ≡ false
    in_blocks = (among_append (code_word_uses g.code_words) (terms_uses g.blocks ++ items_uses (all_items g)) x after_entry).1

    items_without : AllByRecursion (ItemWithout x) (items_of_blocks g.blocks) × AllByRecursion (ItemWithout x) (items_of_bodies g.procedures)
    items_without =
        each_parts (ItemWithout x) (items_of_blocks g.blocks) (items_of_bodies g.procedures)
        (among_flat item_uses (all_items g) x (among_append (terms_uses g.blocks) (items_uses (all_items g)) x in_blocks).1)

    form_without : (y : ℕ) → keep y ≡ true → (rd : Read y) → IsFormGood (ItemWithout x) (TermWithout x) (form_of ns rd.reading)
    form_without y k rd =
        each_word_good (ItemWithout x) (TermWithout x) refl
        (blocks_without x g.blocks (among_append (terms_uses g.blocks) (items_uses (all_items g)) x in_blocks).0 items_without.0) y k rd

    kept_leads : (y : ℕ) → keep y ≡ true → (rd : Read y) → is_among (form_leads y (form_of ns rd.reading)) x ≡ true → ⊥
    kept_leads y k rd e = go (form_of ns rd.reading) refl (form_without y k rd) e
      where
        behind_it : (term : Term) (b : Bool) → goes_on term ≡ b → form_of ns rd.reading ≡ TermForm term → is_among (if b then (y + 4) ∷ [] else []) x ≡ true → ⊥
        behind_it term false o f e = cc
        behind_it term true o f e =
            let q : y + 4 ≡ x = eqb-true (y + 4) x (one_of (y + 4 == x) e) in
            not_behind y (subst (λ z. follows_a_term g.blocks z ≡ false) (sym q) unfollowed) k rd term f o
          where
            one_of : (b : Bool) → (b || false) ≡ true → b ≡ true
            one_of true h = refl
            one_of false h = absurd (cc)

        go : (f : Form) → form_of ns rd.reading ≡ f → IsFormGood (ItemWithout x) (TermWithout x) f → is_among (form_leads y f) x ≡ true → ⊥
        go (ItemForm item) f h e = true_not_false (sym e ∙ h)
        go (TermForm term) f h e = side (among_cases (term_uses term) (if goes_on term then (y + 4) ∷ [] else []) x e)
          where
            side : (is_among (term_uses term) x ≡ true) ⊎ (is_among (if goes_on term then (y + 4) ∷ [] else []) x ≡ true) → ⊥
            side (inl e) = true_not_false (sym e ∙ h)
            side (inr e) = behind_it term (goes_on term) refl f e

    body_leads : (y : ℕ) → is_in_procedures ns y ≡ true → is_among (reading_leads ns y (reading_at t y)) x ≡ true → ⊥
    body_leads y i e =
        let f = notes_find ns y i in
        let good = good_note is p f.number f.note fine.notes f.there in
        let len : f.note.length + 1 ≡ suc f.note.length = omega arith in
        let here = subst (λ n. is_within f.note.address n y ≡ true) len f.holds in
        let at : slice_get g.procedures f.number ≡ Some (procedure_of t f.note) = slice_get-map (procedure_of t) ns f.number ∙ ap (option_map (procedure_of t)) f.there in
        let body = flat_at (λ q. q.body) (ItemWithout x) g.procedures f.number (procedure_of t f.note) items_without.1 at in
        go f.note good.body here body (body_word t f.note.link f.note.address f.note.length y good.body here)
      where
        go : (n : Note) → has_body t n.link n.address n.length ≡ true → is_within n.address (suc n.length) y ≡ true → AllByRecursion (ItemWithout x) (body_from t n.address n.length) → BodyWord t n.link y → ⊥
        go n b h body (item_word item r m) =
            true_not_false (sym (subst (λ o. is_among (reading_leads ns y o) x ≡ true) r e) ∙ body_has (ItemWithout x) t n.link n.address n.length y item b h r body)
        go n b h body (return_word r) =
            let none : is_among (reading_leads ns y (Some (IsTerm (Indirect 0 n.link (pos 0))))) x ≡ true = subst (λ o. is_among (reading_leads ns y o) x ≡ true) (return_reading t y n.link r) e in
            cc

    led_leads : IsLed is ns t t.lo t.words x → ⊥
    led_leads l = go (is_in_procedures ns l.pc) refl
      where
        rd : Read l.pc
        rd = read_at p is linked.text dec fine l.pc l.reached

        reads : reading_of t l.pc l.word ≡ Some rd.reading
        reads = let u : Some rd.word ≡ Some l.word = sym rd.there ∙ l.there in let same : rd.word ≡ l.word = cc in subst (λ w. reading_of t l.pc w ≡ Some rd.reading) same rd.reads

        go : (b : Bool) → is_in_procedures ns l.pc ≡ b → ⊥
        go true i = body_leads l.pc i (subst (λ o. is_among (reading_leads ns l.pc o) x ≡ true) (sym (ap (option_and_then (reading_of t l.pc)) l.there)) l.leads)
        go false i = kept_leads l.pc (kept_from p is linked.text dec fine l.pc l.reached i) rd (subst (λ o. is_among (reading_leads ns l.pc o) x ≡ true) reads l.leads)

    not_lead : lead x ≡ false
    not_lead = false_from_ne_true (lead x) (λ l. go (or_cases (p.entry == x || is_among (map target_of p.code_words) x) (words_lead is ns t t.lo t.words x) l))
      where
        codes : is_among (map target_of p.code_words) x ≡ false
        codes = subst (λ xs. is_among xs x ≡ false) (names_are p is linked dec fine p.code_words) (among_append (code_word_uses g.code_words) (terms_uses g.blocks ++ items_uses (all_items g)) x after_entry).0

        first : ((p.entry == x) ≡ true) ⊎ (is_among (map target_of p.code_words) x ≡ true) → ⊥
        first (inl e) = true_not_false (sym e ∙ (or_parts (g.entry == x) (is_among (code_word_uses g.code_words ++ (terms_uses g.blocks ++ items_uses (all_items g))) x) unused).0)
        first (inr e) = true_not_false (sym e ∙ codes)

        go : ((p.entry == x || is_among (map target_of p.code_words) x) ≡ true) ⊎ (words_lead is ns t t.lo t.words x ≡ true) → ⊥
        go (inl e) = first (or_cases (p.entry == x) (is_among (map target_of p.code_words) x) e)
        go (inr e) = led_leads (is_led is ns t t.lo t.words x e)

  leads_graph : (x : ℕ) → lead x ≡ true → is_leader g x ≡ true
  leads_graph x l = go (is_leader g x) refl
    where
      go : (b : Bool) → is_leader g x ≡ b → b ≡ true
      go true e = refl
      go false e = let u = or_parts (is_among (uses g) x) (follows_a_term g.blocks x) e in true_not_false (sym l ∙ not_lead x u.0 u.1)

  falls : (blocks : List Block) → AllByRecursion IsFullLeader blocks → FallsIntoLeaders (is_leader g) blocks
  falls [] h = tt
  falls (b ∷ []) h = tt
  falls (b ∷ c ∷ cs) h = (λ f. leads_graph c.name h.1.0.leads, falls (c ∷ cs) h.1)

  bares : (blocks : List Block) → AllByRecursion IsFullLeader blocks → AllByRecursion (λ b. is_bare b ≡ false) blocks
  bares [] h = tt
  bares (b ∷ blocks) h = (h.0.full, bares blocks h.1)

  pub is_canonical : IsCanonical g
  is_canonical = record { no_bare = All-from_recursion (λ b. is_bare b ≡ false) g.blocks (bares g.blocks blocks_full); leaders = falls g.blocks blocks_full }
