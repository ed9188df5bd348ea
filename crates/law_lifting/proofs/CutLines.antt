-- The lines of a lifted graph, each the reading of its word.
use Rattle.std.proofs.Common.{MatchBool, ◌≡◌, ◌⊎◌, inl, inr, ℕ, zero, suc, ◌+◌, ◌≤◌, Bool, true, false, not, ◌==◌, ◌&&◌, ◌||◌, List, [], ◌∷◌, ◌++◌, map, Option, Some, None, slice_get, if◌then◌else◌, refl, sym, ap, ◌∙◌, subst, arith}
use Rattle.std.specs.Option.{option_map}
use Rattle.std.specs.List.{Contains, AllByRecursion}
use Rattle.std.proofs.lemmas.Bool.{cond_both, eqb-true, and_parts}
use Rattle.std.proofs.lemmas.Option.{slice_get-map}
use Rattle.std.proofs.lemmas.List.Elements.{Contains-append_right}
use Rattle.sq_isa.specs.Registers.{is_among, is_among_but_x0}
use Rattle.sq_isa.specs.Uses.{sources_of, destination_of}
use Rattle.sq_isa.specs.declared.instructions.Insn.TheVariants.{Jal}
use Rattle.sq_graph.specs.declared.item.Item.{Item}
use Rattle.sq_graph.specs.declared.item.Item.TheVariants.{Op, Hi, Lo, Out}
use Rattle.sq_graph.specs.declared.item.Term.{Term}
use Rattle.sq_graph.specs.declared.item.Term.TheVariants.{Fall, Jump, Branch, Call, PartJump, Indirect, Stop}
use Rattle.sq_graph.specs.Graph.{Procedure, Graph}
use Rattle.sq_graph.specs.Terms.{goes_on as term_goes_on, links}
use Rattle.sq_graph.specs.Uses.{item_uses, term_uses}
use Rattle.sq_graph.specs.Rules.{mentions}
use Rattle.sq_graph.specs.Lines.{Line, Name, Enter, Return, End, line_of, term_lines, lines_of, inside, slot_name}
use Rattle.sq_graph.specs.Walks.{IsLive, read_here, live_behind, line_reads, line_writes}
use Rattle.sq_graph.specs.Soundness.{LinksDieIn}
use Rattle.law_patch.specs.LiveAgreement.{MakeTargets, SlotIsTarget}
use Rattle.law_patch.proofs.LiveTargets.{inside_makes}
use Rattle.law_program.specs.Programs.{Word, Text, Note, Program, word_from, word_at}
use Rattle.law_program.specs.Reached.{jump_target, half_target, insn_goes_on, Decides}
use Rattle.law_program.specs.Readings.{Reading, IsItem, IsTerm, Links, marked_reading, reading_of, reading_at}
use Rattle.law_program.specs.Notes.{is_in_procedure, has_body, is_item_without}
use Rattle.law_program.specs.Lifted.{Form, ItemForm, TermForm, link_form, form_of, form_leads, Rest, between, with_form, with_reading, begun_if, cut, with_item, body_from, procedure_of, lifted, procedure_at}
use Rattle.law_lifting.specs.Lifting.{IsMarkedText, IsReadable}
use Rattle.law_lifting.proofs.Lifts.{HasName, form_line, closes, onward, IsNamed, SlotIf, GoodLine, BodyReads, ProcedureReads, IsDoor, Lifts, lift_end, lift_name, lift_line}
use Rattle.law_lifting.proofs.TextWords.{same_itself, at_here, at_later, some_is, stood}
use Rattle.law_lifting.proofs.Facts.{one, none_in, reading_uses, IsSoundWord, ReadWord, marked_of, reached_word, next_reached, used, used_reached, UsedBy}
use Rattle.law_lifting.proofs.NoteFacts.{notes_have, at_number, in_procedure_start, good_note, return_is, read_item, item_jumps}
use Rattle.law_lifting.proofs.ReadingFacts.{form_uses, goes_alike, jal_links, reading_form, IsForm, IsReadTerm, IsReadItem}
use Rattle.law_lifting.proofs.Cutting.{rest_lines, true_not_false, ns, keep, lead, kept_is, kept_from, read_at, halves_out, door, next_kept, used_kept, lead_of, lead_used, IsBehind, behind}

-- NAMES AMONG LINES

match_or : (b : Bool) (A : Type 0) → A → MatchBool b (Unit {0}) A
match_or true A h = tt
match_or false A h = h

pub items_no_name : (x : ℕ) (items : List Item) (ls : List Line) → HasName x (map line_of items ++ ls) → HasName x ls
items_no_name x [] ls h = h
items_no_name x (Op insn ∷ items) ls h = items_no_name x items ls h
items_no_name x (Hi rd to ∷ items) ls h = items_no_name x items ls h
items_no_name x (Lo rd rs to ∷ items) ls h = items_no_name x items ls h
items_no_name x (Out procedure ∷ items) ls h = items_no_name x items ls h

pub term_no_name : (x : ℕ) (term : Term) (ls : List Line) → HasName x (term_lines term ls) → HasName x ls
term_no_name x Fall ls h = h
term_no_name x (Jump to) ls h = h
term_no_name x (Branch cond a b to) ls h = h
term_no_name x (Call link to) ls h = h
term_no_name x (PartJump link part to) ls h = h
term_no_name x (Indirect link at offset) ls h = h
term_no_name x (Stop word) ls h = h

term_named : (x : ℕ) (term : Term) (ls : List Line) → HasName x ls → HasName x (term_lines term ls)
term_named x Fall ls h = h
term_named x (Jump to) ls h = h
term_named x (Branch cond a b to) ls h = h
term_named x (Call link to) ls h = h
term_named x (PartJump link part to) ls h = h
term_named x (Indirect link at offset) ls h = h
term_named x (Stop word) ls h = h

item_named : (x : ℕ) (item : Item) (ls : List Line) → HasName x ls → HasName x (line_of item ∷ ls)
item_named x (Op insn) ls h = h
item_named x (Hi rd to) ls h = h
item_named x (Lo rd rs to) ls h = h
item_named x (Out procedure) ls h = h

rest_blocks : (x : ℕ) (rest : Rest) → HasName x (rest_lines rest) → HasName x (lines_of rest.blocks)
rest_blocks x rest h = term_no_name x rest.term (lines_of rest.blocks) (items_no_name x rest.items (term_lines rest.term (lines_of rest.blocks)) h)

form_named : (x : ℕ) (shape : Form) (rest : Rest) → HasName x (rest_lines rest) → HasName x (rest_lines (with_form shape rest))
form_named x (ItemForm item) rest h = item_named x item (rest_lines rest) h
form_named x (TermForm term) rest h = term_named x term (lines_of rest.blocks) (rest_blocks x rest h)

reading_named : (notes : List Note) (o : Option Reading) (x : ℕ) (rest : Rest) → HasName x (rest_lines rest) → HasName x (rest_lines (with_reading notes o rest))
reading_named notes None x rest h = h
reading_named notes (Some r) x rest h = form_named x (form_of notes r) rest h

begun_named : (b : Bool) (at x : ℕ) (rest : Rest) → HasName x (rest_lines rest) → HasName x (rest_lines (begun_if b at rest))
begun_named true at x rest h = match_or (at == x) (HasName x (rest_lines rest)) h
begun_named false at x rest h = h

has_cut : (keeps leads : ℕ → Bool) (ns : List Note) (t : Text) (x at : ℕ) (w : Word) (words : List Word) → keeps x ≡ true → leads x ≡ true → word_from x at words ≡ Some w → HasName x (rest_lines (cut keeps leads ns t at words))
has_cut keeps leads ns t x at w [] k l e = absurd (cc)
has_cut keeps leads ns t x at w (v ∷ words) k l e = go (x == at) refl e (λ h. has_cut keeps leads ns t x (at + 4) w words k l h)
  where
    go : (b : Bool) → (x == at) ≡ b → (if b then Some v else word_from x (at + 4) words) ≡ Some w → (word_from x (at + 4) words ≡ Some w → HasName x (rest_lines (cut keeps leads ns t (at + 4) words))) → HasName x (rest_lines (cut keeps leads ns t at (v ∷ words)))
    go true b h rec =
        let q : x ≡ at = eqb-true x at b in
        subst (λ y. HasName y (rest_lines (cut keeps leads ns t at (v ∷ words)))) (sym q)
        (rw (subst (λ y. keeps y ≡ true) q k, subst (λ y. leads y ≡ true) q l, same_itself at) tt)
    go false b h rec =
        cond_both (keeps at) (begun_if (leads at) at (with_reading ns (reading_of t at v) (cut keeps leads ns t (at + 4) words))) (cut keeps leads ns t (at + 4) words) (λ r. HasName x (rest_lines r))
        (λ _. begun_named (leads at) at x (with_reading ns (reading_of t at v) (cut keeps leads ns t (at + 4) words)) (reading_named ns (reading_of t at v) x (cut keeps leads ns t (at + 4) words) (rec h))) (λ _. rec h)

pub head_cut : (keeps leads : ℕ → Bool) (ns : List Note) (t : Text) (at : ℕ) (w : Word) (words : List Word) → keeps at ≡ true → leads at ≡ true → word_from at at words ≡ Some w → (ys : List Line) × (rest_lines (cut keeps leads ns t at words) ≡ Name at ∷ ys)
head_cut keeps leads ns t at w [] k l e = absurd (cc)
head_cut keeps leads ns t at w (v ∷ words) k l e = (rest_lines (with_reading ns (reading_of t at v) (cut keeps leads ns t (at + 4) words)), rw (k, l) refl)

-- THE LINES OF A PIECE

-- a term is the last of its block, so that what is behind it begins a block
term_first : (term : Term) (rest : Rest) → IsReadTerm term → rest ≡ between rest.blocks → rest_lines (with_form (TermForm term) rest) ≡ End term ∷ rest_lines rest
term_first Fall rest f e = absurd f
term_first (Jump to) rest f e = ap (λ r. End (Jump to) ∷ rest_lines r) (sym e)
term_first (Branch cond a b to) rest f e = ap (λ r. End (Branch cond a b to) ∷ rest_lines r) (sym e)
term_first (Call link to) rest f e = absurd f
term_first (PartJump link part to) rest f e = ap (λ r. End (PartJump link part to) ∷ rest_lines r) (sym e)
term_first (Indirect link at offset) rest f e = ap (λ r. End (Indirect link at offset) ∷ rest_lines r) (sym e)
term_first (Stop word) rest f e = ap (λ r. End (Stop word) ∷ rest_lines r) (sym e)

abbrev pub IsTermForm : Form → Type 0
IsTermForm (ItemForm item) = ⊥
IsTermForm (TermForm term) = Unit {0}

link_lines : (link to : ℕ) (o : Option ℕ) (rest : Rest) → (IsTermForm (link_form link to o) → rest ≡ between rest.blocks) → rest_lines (with_form (link_form link to o) rest) ≡ form_line (link_form link to o) ∷ rest_lines rest
link_lines link to None rest e = ap (λ r. End (Call link to) ∷ rest_lines r) (sym (e tt))
link_lines link to (Some q) rest e = refl

form_lines : (notes : List Note) (r : Reading) (rest : Rest) → IsForm r → (IsTermForm (form_of notes r) → rest ≡ between rest.blocks) → rest_lines (with_form (form_of notes r) rest) ≡ form_line (form_of notes r) ∷ rest_lines rest
form_lines notes (IsItem item) rest f e = refl
form_lines notes (IsTerm term) rest f e = term_first term rest f (e tt)
form_lines notes (Links link to) rest f e = link_lines link to (procedure_at notes to) rest e

-- THE DEAD LINK OF A BODY

pub among_parts : (x : ℕ) (xs : List ℕ) (r : ℕ) → is_among_but_x0 (x ∷ xs) r ≡ false → (is_among_but_x0 xs r ≡ false) × (is_among_but_x0 (x ∷ []) r ≡ false)
among_parts x xs r e = go (not (r == 0)) (x == r) (is_among xs r) e
  where
    go : (a b c : Bool) → (a && (b || c)) ≡ false → ((a && c) ≡ false) × ((a && (b || false)) ≡ false)
    go true true c e = absurd (cc)
    go true false c e = (e, refl)
    go false b c e = (refl, refl)

not_read : (item : Item) (link : ℕ) → mentions item link ≡ false → line_reads (line_of item) link ≡ false
not_read (Op insn) link e = (among_parts (destination_of insn) (sources_of insn) link e).0
not_read (Hi rd to) link e = (among_parts rd [] link e).0
not_read (Lo rd rs to) link e = (among_parts rd (rs ∷ []) link e).0
not_read (Out procedure) link e = refl

not_written : (ps : List Procedure) (item : Item) (link : ℕ) → IsReadItem item → mentions item link ≡ false → line_writes ps (line_of item) link ≡ false
not_written ps (Op insn) link f e = (among_parts (destination_of insn) (sources_of insn) link e).1
not_written ps (Hi rd to) link f e = e
not_written ps (Lo rd rs to) link f e = (among_parts rd (rs ∷ []) link e).1
not_written ps (Out procedure) link f e = absurd f

-- an item that is read doesn't mention the link
abbrev pub IsQuiet : ℕ → List Item → Type 0
IsQuiet link items = AllByRecursion (λ item. IsReadItem item × (mentions item link ≡ false)) items

-- what is live before an item that leaves it alone is live behind
live_past : (g : Graph) (item : Item) (link : ℕ) (rest : List Line) → IsReadItem item → mentions item link ≡ false → IsLive g link (line_of item ∷ rest) → IsLive g link rest
live_past g (Op insn) link rest f e (read_here h) = true_not_false (sym h ∙ not_read (Op insn) link e)
live_past g (Op insn) link rest f e (live_behind w go h) = subst (IsLive g link) go h
live_past g (Hi rd to) link rest f e (read_here h) = true_not_false (sym h ∙ not_read (Hi rd to) link e)
live_past g (Hi rd to) link rest f e (live_behind w go h) = subst (IsLive g link) go h
live_past g (Lo rd rs to) link rest f e (read_here h) = true_not_false (sym h ∙ not_read (Lo rd rs to) link e)
live_past g (Lo rd rs to) link rest f e (live_behind w go h) = subst (IsLive g link) go h
live_past g (Out procedure) link rest f e h = absurd f

live_return : (g : Graph) (link back : ℕ) (rest : List Line) → IsLive g link (Return back ∷ rest) → IsLive g link rest
live_return g link back rest (read_here h) = absurd (cc)
live_return g link back rest (live_behind w go h) = subst (IsLive g link) go h

live_body : (g : Graph) (link back : ℕ) (items : List Item) (rest : List Line) → IsQuiet link items → IsLive g link (map line_of items ++ (Return back ∷ rest)) → IsLive g link rest
live_body g link back [] rest q h = live_return g link back rest h
live_body g link back (item ∷ items) rest q h = live_body g link back items rest q.1 (live_past g item link (map line_of items ++ (Return back ∷ rest)) q.0.0 q.0.1 h)

module _ (p : Program) (is : ℕ → Bool) (marked : IsMarkedText p.text) (dec : Decides p is) (fine : IsReadable is p) where
  abbrev pub T : Text
  T = p.text

  abbrev pub N : List Note
  N = ns p is marked dec fine

  abbrev pub K : ℕ → Bool
  K = keep p is marked dec fine

  abbrev pub L : ℕ → Bool
  L = lead p is marked dec fine

  abbrev pub G : Graph
  G = lifted is p

  abbrev pub Cut : ℕ → List Word → Rest
  Cut at words = cut K L N T at words

  abbrev Good : Line → List Line → Type 0
  Good = GoodLine T N G

  abbrev Reads : Option ℕ → List Line → Type 0
  Reads o xs = Lifts T N G o xs

  -- the words of a suffix of text
  abbrev pub IsSuffix : ℕ → List Word → Type 0
  IsSuffix at words = (x : ℕ) → at ≤ x → word_at T x ≡ word_from x at words

  pub tail_suffix : (at : ℕ) (w : Word) (words : List Word) → IsSuffix at (w ∷ words) → IsSuffix (at + 4) words
  tail_suffix at w words h = λ x le. h x (omega (arith, le)) ∙ at_later x at w words le

  -- what goes on to a kept word that is no leader stands before it, and is kept
  before_is : (at : ℕ) → K (at + 4) ≡ true → L (at + 4) ≡ false → (K at ≡ true) × ((w : Word) (r : Reading) → word_at T at ≡ Some w → reading_of T at w ≡ Some r → closes (form_line (form_of N r)) ≡ false)
  before_is at k l =
      let i = kept_is p is marked dec fine (at + 4) k in
      let b = behind p is marked dec fine (at + 4) (dec.only (at + 4) i.0) i.1 l in
      let e : b.pc ≡ at = let h = b.next in omega (arith, h) in
      go b e
    where
      go : (b : IsBehind p is marked dec fine (at + 4)) → b.pc ≡ at → (K at ≡ true) × ((w : Word) (r : Reading) → word_at T at ≡ Some w → reading_of T at w ≡ Some r → closes (form_line (form_of N r)) ≡ false)
      go b e = (
        subst (λ y. K y ≡ true) e b.kept,
        λ w r f h.
            let u : Some b.read.word ≡ Some w = sym b.read.there ∙ subst (λ y. word_at T y ≡ Some w) (sym e) f in
            let v : b.read.word ≡ w = cc in
            let x : Some b.read.reading ≡ Some r = sym b.read.reads ∙ subst (λ y. reading_of T y b.read.word ≡ Some r) (sym e) (subst (λ w. reading_of T at w ≡ Some r) (sym v) h) in
            let z : b.read.reading ≡ r = cc in
            subst (λ r. closes (form_line (form_of N r)) ≡ false) z b.goes,
      )

  pub lead_if : (y : ℕ) → (L y ≡ false → ⊥) → L y ≡ true
  lead_if y f = go (L y) refl
    where
      go : (b : Bool) → L y ≡ b → b ≡ true
      go true e = refl
      go false e = absurd (f e)

  pub lead_skipped : (at : ℕ) → K at ≡ false → K (at + 4) ≡ true → L (at + 4) ≡ true
  lead_skipped at n k = lead_if (at + 4) (λ l. true_not_false (sym (before_is at k l).0 ∙ n))

  -- where only a leader may stand, the cut begins a block
  pub closed_cut : (at : ℕ) (words : List Word) → (K at ≡ true → L at ≡ true) → Cut at words ≡ between (Cut at words).blocks
  closed_cut at [] h = refl
  closed_cut at (w ∷ words) h = go (K at) refl (λ f. closed_cut (at + 4) words f)
    where
      begun : (c : Bool) (inner : Rest) → c ≡ true → begun_if c at inner ≡ between (begun_if c at inner).blocks
      begun true inner e = refl
      begun false inner e = absurd (cc)

      go : (b : Bool) → K at ≡ b → ((K (at + 4) ≡ true → L (at + 4) ≡ true) → Cut (at + 4) words ≡ between (Cut (at + 4) words).blocks) → (if b then begun_if (L at) at (with_reading N (reading_of T at w) (Cut (at + 4) words)) else Cut (at + 4) words) ≡ between (if b then begun_if (L at) at (with_reading N (reading_of T at w) (Cut (at + 4) words)) else Cut (at + 4) words).blocks
      go true k rec = begun (L at) (with_reading N (reading_of T at w) (Cut (at + 4) words)) (h k)
      go false k rec = rec (lead_skipped at k)

  -- NAMES OF THE GRAPH

  pub first_lead : K T.lo ≡ true → L T.lo ≡ true
  first_lead k = lead_if T.lo (λ l.
      let i = kept_is p is marked dec fine T.lo k in
      let b = behind p is marked dec fine T.lo (dec.only T.lo i.0) i.1 l in
      let s = stood b.pc T.lo b.read.word T.words b.read.there in
      let le : T.lo ≤ b.pc = s.least in
      let e : b.pc + 4 ≡ T.lo = b.next in
      let no_way : ⊥ = omega arith in no_way)

  -- the whole graph is the cut from the first word on
  pub whole_cut : rest_lines (Cut T.lo T.words) ≡ lines_of G.blocks
  whole_cut = ap rest_lines (closed_cut T.lo T.words first_lead)

  pub has_name_of : (x : ℕ) → K x ≡ true → L x ≡ true → IsNamed T N G x
  has_name_of x k l =
      let w = some_is (word_at T x) (reached_word p is marked dec fine.text (dec.only x (kept_is p is marked dec fine x k).0)) in
      subst (HasName x) whole_cut (has_cut K L N T x T.lo w.0 T.words k l w.1)

  -- a name that a form uses
  pub named_used : (x y : ℕ) (rd : ReadWord p is marked dec fine.text x) → K x ≡ true → Contains (form_uses (form_of N rd.reading)) y → IsNamed T N G y
  named_used x y rd k c =
      has_name_of y (used_kept p is marked dec fine x y rd.word rd.reading rd.sound k rd.there rd.reads c)
      (lead_used p is marked dec fine x y rd.word rd.reading (kept_is p is marked dec fine x k).0 rd.there rd.reads c)

  -- BODIES OF PROCEDURES

  item_open : (item : Item) → closes (line_of item) ≡ false
  item_open (Op insn) = refl
  item_open (Hi rd to) = refl
  item_open (Lo rd rs to) = refl
  item_open (Out procedure) = refl

  -- an item has no jump, so that what it uses is the target of its half
  half_of : (at : ℕ) (rd : ReadWord p is marked dec fine.text at) (item : Item) → rd.reading ≡ IsItem item → (y : ℕ) → UsedBy T at rd.word.mark rd.sound.insn y → Contains (half_target rd.word.mark) y
  half_of at rd item q y (inr h) = h.0
  half_of at rd item q y (inl j) =
      let m : marked_reading T at rd.word.mark rd.sound.insn ≡ Some (IsItem item) = subst (λ r. marked_reading T at rd.word.mark rd.sound.insn ≡ Some r) q (marked_of p is marked dec fine.text at rd.word rd.reading rd.sound rd.reads) in
      none_in y (subst (λ xs. Contains xs y) (item_jumps T at rd.word.mark rd.sound.insn item m) j)

  -- a name that an item of a body uses
  pub body_name : (at : ℕ) (rd : ReadWord p is marked dec fine.text at) → is at ≡ true → (item : Item) → rd.reading ≡ IsItem item → (y : ℕ) → Contains (item_uses item) y → IsNamed T N G y
  body_name at rd i item q y c =
      let c' : Contains (reading_uses rd.reading) y = subst (λ r. Contains (reading_uses r) y) (sym q) c in
      let u = used p is marked dec fine.text at y rd.word rd.reading rd.sound rd.reads c' in
      let c'' : Contains (form_uses (form_of N rd.reading)) y = subst (λ r. Contains (form_uses (form_of N r)) y) (sym q) c in
      has_name_of y
      (kept_from p is marked dec fine y (used_reached p is marked dec fine.text at y rd.word rd.sound i rd.there u) (halves_out p is marked dec fine at y rd.word rd.sound i rd.there (half_of at rd item q y u)))
      (lead_used p is marked dec fine at y rd.word rd.reading i rd.there rd.reads c'')

  -- what holds of each word that reads as an item without the link holds of each item of a body
  pub body_each : (P : Item → Type 0) (link : ℕ) → ((at : ℕ) (rd : ReadWord p is marked dec fine.text at) → is at ≡ true → (item : Item) → rd.reading ≡ IsItem item → mentions item link ≡ false → P item) → (at n : ℕ) → is at ≡ true → has_body T link at n ≡ true → AllByRecursion P (body_from T at n)
  body_each P link each at zero i b = tt
  body_each P link each at (suc n) i b =
      let c = and_parts (is_item_without link (reading_at T at)) (has_body T link (at + 4) n) b in
      let item = read_item link (reading_at T at) c.0 in
      let rd = read_at p is marked dec fine at i in
      let e : reading_at T at ≡ Some rd.reading = rw rd.there rd.reads in
      let q : rd.reading ≡ IsItem item.0 = let h : Some rd.reading ≡ Some (IsItem item.0) = sym e ∙ item.1 in cc in
      let m : marked_reading T at rd.word.mark rd.sound.insn ≡ Some (IsItem item.0) = subst (λ r. marked_reading T at rd.word.mark rd.sound.insn ≡ Some r) q (marked_of p is marked dec fine.text at rd.word rd.reading rd.sound rd.reads) in
      let next = next_reached p is marked dec fine.text at rd.word rd.sound i rd.there (sym (goes_alike N T at rd.word.mark rd.sound.insn (IsItem item.0) m) ∙ ap not (item_open item.0)) in
      subst (λ o. AllByRecursion P (with_item o (body_from T (at + 4) n))) (sym item.1)
      (each at rd i item.0 q item.2, body_each P link each (at + 4) n next c.1)

  -- no reading is an Out
  pub item_read : (at : ℕ) (rd : ReadWord p is marked dec fine.text at) (item : Item) → rd.reading ≡ IsItem item → IsReadItem item
  item_read at rd item q = subst IsForm q (reading_form T at rd.word.mark rd.sound.insn rd.reading (marked_of p is marked dec fine.text at rd.word rd.reading rd.sound rd.reads))

  pub body_quiet : (at link n : ℕ) → is at ≡ true → has_body T link at n ≡ true → IsQuiet link (body_from T at n)
  body_quiet at link n i b = body_each (λ item. IsReadItem item × (mentions item link ≡ false)) link (λ at rd i item q m. (item_read at rd item q, m)) at n i b

  -- what an item of a body is
  item_good : (item : Item) (ys : List Line) → IsReadItem item → ((y : ℕ) → Contains (item_uses item) y → IsNamed T N G y) → MakeTargets G (line_of item ∷ ys) → (zs : List Line) → Good (line_of item) zs
  item_good (Op insn) ys f named makes zs = tt
  item_good (Hi rd to) ys f named makes zs = tt
  item_good (Lo rd rs to) ys f named makes zs = (named to (one to), makes.0)
  item_good (Out procedure) ys f named makes zs = absurd f

  item_tail : (item : Item) (ys : List Line) → MakeTargets G (line_of item ∷ ys) → MakeTargets G ys
  item_tail (Op insn) ys h = h.1
  item_tail (Hi rd to) ys h = h.1
  item_tail (Lo rd rs to) ys h = h.1
  item_tail (Out procedure) ys h = h

  body_reads : (at link n : ℕ) (ys : List Line) → is at ≡ true → has_body T link at n ≡ true → MakeTargets G (map line_of (body_from T at n) ++ ys) → BodyReads T N G at link (body_from T at n)
  body_reads at link zero ys i b makes = let r = return_is T at link (word_at T at) refl b in (r.word, r.there, r.plain, r.insn)
  body_reads at link (suc n) ys i b makes =
      let c = and_parts (is_item_without link (reading_at T at)) (has_body T link (at + 4) n) b in
      let item = read_item link (reading_at T at) c.0 in
      let rd = read_at p is marked dec fine at i in
      let e : reading_at T at ≡ Some rd.reading = rw rd.there rd.reads in
      let q : rd.reading ≡ IsItem item.0 = let h : Some rd.reading ≡ Some (IsItem item.0) = sym e ∙ item.1 in cc in
      let m : marked_reading T at rd.word.mark rd.sound.insn ≡ Some (IsItem item.0) = subst (λ r. marked_reading T at rd.word.mark rd.sound.insn ≡ Some r) q (marked_of p is marked dec fine.text at rd.word rd.reading rd.sound rd.reads) in
      let next = next_reached p is marked dec fine.text at rd.word rd.sound i rd.there (sym (goes_alike N T at rd.word.mark rd.sound.insn (IsItem item.0) m) ∙ ap not (item_open item.0)) in
      let f = reading_form T at rd.word.mark rd.sound.insn (IsItem item.0) m in
      let makes' : MakeTargets G (map line_of (item.0 ∷ body_from T (at + 4) n) ++ ys) = subst (λ o. MakeTargets G (map line_of (with_item o (body_from T (at + 4) n)) ++ ys)) item.1 makes in
      let names : (y : ℕ) → Contains (item_uses item.0) y → IsNamed T N G y = λ y u. body_name at rd i item.0 q y u in
      subst (λ o. BodyReads T N G at link (with_item o (body_from T (at + 4) n))) (sym item.1) (
        (rd.word, rd.there, subst (λ r. reading_of T at rd.word ≡ Some r) q rd.reads, item_good item.0 (map line_of (body_from T (at + 4) n) ++ ys) f names makes' [], not_written G.procedures item.0 link f item.2),
        body_reads (at + 4) link n ys next c.1 (item_tail item.0 (map line_of (body_from T (at + 4) n) ++ ys) makes'),
      )

  -- a noted procedure stands at its address
  procedure_reads : (number : ℕ) (n : Note) (q : Procedure) → slice_get N number ≡ Some n → slice_get G.procedures number ≡ Some q → ProcedureReads T N G n.address n.link q
  procedure_reads number n q e h =
      let good = good_note is p number n fine.notes e in
      let same : procedure_of T n ≡ q = let f : Some (procedure_of T n) ≡ Some q = sym (slice_get-map (procedure_of T) N number ∙ ap (option_map (procedure_of T)) e) ∙ h in cc in
      let makes : MakeTargets G (inside q []) = inside_makes G number q [] h tt in
      let makes' : MakeTargets G (map line_of (body_from T n.address n.length) ++ (Return n.link ∷ [])) = subst (λ q. MakeTargets G (inside q [])) (sym same) makes in
      subst (ProcedureReads T N G n.address n.link) same (record {
        body = body_reads n.address n.link n.length (Return n.link ∷ []) good.reached good.body makes';
        link_is = refl;
        real = good.link;
      })

  -- THE LINES

  -- a line that goes on to a kept leader has its name behind it
  pub slot_behind : (at : ℕ) (words : List Word) (w : Word) (r : Reading) (s : IsSoundWord T at w) → IsSuffix (at + 4) words → K at ≡ true → word_at T at ≡ Some w → reading_of T at w ≡ Some r → insn_goes_on s.insn ≡ true → Contains (form_leads at (form_of N r)) (at + 4) → (ys : List Line) × (rest_lines (Cut (at + 4) words) ≡ Name (at + 4) ∷ ys)
  slot_behind at words w r s suffix k e rd g c =
      let k' = next_kept p is marked dec fine at w s k e g in
      let l' = lead_of p is marked dec fine at (at + 4) w r (kept_is p is marked dec fine at k).0 e rd c in
      let v = some_is (word_at T (at + 4)) (reached_word p is marked dec fine.text (dec.only (at + 4) (kept_is p is marked dec fine (at + 4) k').0)) in
      head_cut K L N T (at + 4) v.0 words k' l' (sym (suffix (at + 4) (omega arith)) ∙ v.1)

  slot_where : (b : Bool) (at : ℕ) (rest : List Line) → (b ≡ true → (ys : List Line) × (rest ≡ Name (at + 4) ∷ ys)) → (b ≡ true → SlotIsTarget G (slot_name rest)) → SlotIf T N G b rest
  slot_where false at rest f h = tt
  slot_where true at rest f h = let y = f refl in (at + 4, y.0, y.1, subst (λ rest. SlotIsTarget G (slot_name rest)) y.1 (h refl))

  -- a term that links goes on
  links_go : (term : Term) → links term ≡ true → term_goes_on term ≡ true
  links_go Fall e = refl
  links_go (Jump to) e = absurd (cc)
  links_go (Branch cond a b to) e = refl
  links_go (Call link to) e = refl
  links_go (PartJump link part to) e = e
  links_go (Indirect link at offset) e = e
  links_go (Stop word) e = absurd (cc)

  pub goes_lead : (at : ℕ) (term : Term) → term_goes_on term ≡ true → Contains (form_leads at (TermForm term)) (at + 4)
  goes_lead at term e = Contains-append_right (term_uses term) (if term_goes_on term then (at + 4) ∷ [] else []) (at + 4) (rw e (one (at + 4)))

  term_good : (at : ℕ) (term : Term) (rest : List Line) → IsReadTerm term → ((y : ℕ) → Contains (term_uses term) y → IsNamed T N G y) → SlotIf T N G (links term) rest → Good (End term) rest
  term_good at Fall rest f named slot = absurd f
  term_good at (Jump to) rest f named slot = named to (one to)
  term_good at (Branch cond a b to) rest f named slot = named to (one to)
  term_good at (Call link to) rest f named slot = absurd f
  term_good at (PartJump link part to) rest f named slot = (named to (one to), slot)
  term_good at (Indirect link via offset) rest f named slot = slot
  term_good at (Stop word) rest f named slot = tt

  -- A line reads

  pub goes_of : (at : ℕ) (rd : ReadWord p is marked dec fine.text at) → closes (form_line (form_of N rd.reading)) ≡ false → insn_goes_on rd.sound.insn ≡ true
  goes_of at rd e = sym (goes_alike N T at rd.word.mark rd.sound.insn rd.reading (marked_of p is marked dec fine.text at rd.word rd.reading rd.sound rd.reads)) ∙ ap not e

  pub form_at : (at : ℕ) (rd : ReadWord p is marked dec fine.text at) → IsForm rd.reading
  form_at at rd = reading_form T at rd.word.mark rd.sound.insn rd.reading (marked_of p is marked dec fine.text at rd.word rd.reading rd.sound rd.reads)

  open_term : (term : Term) → term_goes_on term ≡ true → closes (End term) ≡ false
  open_term term e = ap not e

  -- where the name behind a term that links is
  slot_at : (at : ℕ) (words : List Word) (rd : ReadWord p is marked dec fine.text at) (term : Term) → form_of N rd.reading ≡ TermForm term → IsSuffix (at + 4) words → K at ≡ true → term_goes_on term ≡ true → (ys : List Line) × (rest_lines (Cut (at + 4) words) ≡ Name (at + 4) ∷ ys)
  slot_at at words rd term e suffix k g =
      slot_behind at words rd.word rd.reading rd.sound suffix k rd.there rd.reads
      (goes_of at rd (subst (λ q. closes (form_line q) ≡ false) (sym e) (open_term term g)))
      (subst (λ q. Contains (form_leads at q) (at + 4)) (sym e) (goes_lead at term g))

  named_term : (at : ℕ) (rd : ReadWord p is marked dec fine.text at) (shape : Form) → form_of N rd.reading ≡ shape → K at ≡ true → (y : ℕ) → Contains (form_uses shape) y → IsNamed T N G y
  named_term at rd shape e k y c = named_used at y rd k (subst (λ q. Contains (form_uses q) y) (sym e) c)

  enter_good : (number to : ℕ) (rest : List Line) → procedure_at N to ≡ Some number → LinksDieIn G (Enter number ∷ rest) → Good (Enter number) rest
  enter_good number to rest e dies =
      let n = at_number N to number e in
      let h : slice_get G.procedures number ≡ Some (procedure_of T n.0) = slice_get-map (procedure_of T) N number ∙ ap (option_map (procedure_of T)) n.1 in
      let good = good_note is p number n.0 fine.notes n.1 in
      (procedure_of T n.0, h, λ live. dies.0 (procedure_of T n.0) h (live_body G n.0.link n.0.link (body_from T n.0.address n.0.length) rest (body_quiet n.0.address n.0.link n.0.length good.reached good.body) live))

  line_good : (at : ℕ) (words : List Word) (rd : ReadWord p is marked dec fine.text at) → IsSuffix (at + 4) words → K at ≡ true → MakeTargets G (form_line (form_of N rd.reading) ∷ rest_lines (Cut (at + 4) words)) → LinksDieIn G (form_line (form_of N rd.reading) ∷ rest_lines (Cut (at + 4) words)) → Good (form_line (form_of N rd.reading)) (rest_lines (Cut (at + 4) words))
  line_good at words rd suffix k makes dies = go rd.reading refl
    where
      rest : List Line
      rest = rest_lines (Cut (at + 4) words)

      call_good : (link to : ℕ) (o : Option ℕ) → procedure_at N to ≡ o → rd.reading ≡ Links link to → Good (form_line (link_form link to o)) rest
      call_good link to (Some number) e q =
          let f : form_of N rd.reading ≡ ItemForm (Out number) = rw (q, e) refl in
          enter_good number to rest e (subst (λ q. LinksDieIn G (form_line q ∷ rest)) f dies)
      call_good link to None e q =
          let f : form_of N rd.reading ≡ TermForm (Call link to) = rw (q, e) refl in
          let makes' : MakeTargets G (End (Call link to) ∷ rest) = subst (λ q. MakeTargets G (form_line q ∷ rest)) f makes in
          (named_term at rd (TermForm (Call link to)) f k to (one to), slot_where (links (Call link to)) at rest (λ l. slot_at at words rd (Call link to) f suffix k refl) makes'.0)

      go : (r : Reading) → rd.reading ≡ r → Good (form_line (form_of N rd.reading)) rest
      go (IsItem item) q =
          let f : form_of N rd.reading ≡ ItemForm item = rw q refl in
          let form : IsReadItem item = subst IsForm q (form_at at rd) in
          subst (λ q. Good (form_line q) rest) (sym f)
          (item_good item rest form (λ y c. named_term at rd (ItemForm item) f k y c) (subst (λ q. MakeTargets G (form_line q ∷ rest)) f makes) rest)
      go (IsTerm term) q =
          let f : form_of N rd.reading ≡ TermForm term = rw q refl in
          let form : IsReadTerm term = subst IsForm q (form_at at rd) in
          let makes' : MakeTargets G (End term ∷ rest) = subst (λ q. MakeTargets G (form_line q ∷ rest)) f makes in
          subst (λ q. Good (form_line q) rest) (sym f)
          (term_good at term rest form (λ y c. named_term at rd (TermForm term) f k y c) (slot_where (links term) at rest (λ l. slot_at at words rd term f suffix k (links_go term l)) makes'.0))
      go (Links link to) q = subst (λ r. Good (form_line (form_of N r)) rest) (sym q) (call_good link to (procedure_at N to) refl q)

  -- a `jal` to a noted address has the procedure's link
  is_door : (at : ℕ) (rd : ReadWord p is marked dec fine.text at) → K at ≡ true → IsDoor T N G rd.reading
  is_door at rd k = go rd.reading refl
    where
      go : (r : Reading) → rd.reading ≡ r → IsDoor T N G r
      go (IsItem item) q = tt
      go (IsTerm term) q = tt
      go (Links link to) q = λ number procedure e h.
          let n = at_number N to number e in
          let i = (kept_is p is marked dec fine at k).0 in
          let in_it : is_in_procedure n.0 to ≡ true = subst (λ z. is_in_procedure n.0 z ≡ true) n.2 (in_procedure_start n.0) in
          let c : Contains (reading_uses rd.reading) to = subst (λ r. Contains (reading_uses r) to) (sym q) (one to) in
          let u = used p is marked dec fine.text at to rd.word rd.reading rd.sound rd.reads c in
          let j = jumps i number n.0 n.1 in_it u in
          let d = door p is marked dec fine at to rd.word rd.sound number n.0 k rd.there n.1 j in_it in
          let good = good_note is p number n.0 fine.notes n.1 in
          let m : marked_reading T at rd.word.mark (Jal n.0.link d.0) ≡ Some (Links link to) = subst (λ i. marked_reading T at rd.word.mark i ≡ Some (Links link to)) d.1 (subst (λ r. marked_reading T at rd.word.mark rd.sound.insn ≡ Some r) q (marked_of p is marked dec fine.text at rd.word rd.reading rd.sound rd.reads)) in
          let l = jal_links T at n.0.link d.0 rd.word.mark (Links link to) good.link m in
          let same : link ≡ n.0.link = cc in
          subst (λ l. ProcedureReads T N G to l procedure) (sym same) (subst (λ a. ProcedureReads T N G a n.0.link procedure) n.2 (procedure_reads number n.0 procedure n.1 h))
        where
          jumps : is at ≡ true → (number : ℕ) (n : Note) → slice_get N number ≡ Some n → is_in_procedure n to ≡ true → UsedBy T at rd.word.mark rd.sound.insn to → Contains (jump_target at rd.sound.insn) to
          jumps i number n e b (inl j) = j
          jumps i number n e b (inr h) = true_not_false (sym (notes_have N number to n e b) ∙ halves_out p is marked dec fine at to rd.word rd.sound i rd.there h.0)

  -- THE CUT

  -- a line before goes on to this place, or none does and only a leader may stand here
  abbrev Came : Option ℕ → ℕ → Type 0
  Came o at = ((o ≡ Some at) × (K at ≡ true)) ⊎ ((o ≡ None) × (K at ≡ true → L at ≡ true))

  pub closed_lead : (at : ℕ) (rd : ReadWord p is marked dec fine.text at) → closes (form_line (form_of N rd.reading)) ≡ true → K (at + 4) ≡ true → L (at + 4) ≡ true
  closed_lead at rd e k = lead_if (at + 4) (λ l. true_not_false (sym e ∙ (before_is at k l).1 rd.word rd.reading rd.there rd.reads))

  came_next : (at : ℕ) (rd : ReadWord p is marked dec fine.text at) → K at ≡ true → Came (onward (form_line (form_of N rd.reading)) at) (at + 4)
  came_next at rd k = go (closes (form_line (form_of N rd.reading))) refl
    where
      go : (b : Bool) → closes (form_line (form_of N rd.reading)) ≡ b → Came (if b then None else Some (at + 4)) (at + 4)
      go true e = inr (refl, closed_lead at rd e)
      go false e = inl (refl, next_kept p is marked dec fine at rd.word rd.sound k rd.there (goes_of at rd e))

  -- behind a term a block begins
  pub term_lead : (at : ℕ) (rd : ReadWord p is marked dec fine.text at) (shape : Form) → form_of N rd.reading ≡ shape → IsTermForm shape → K at ≡ true → K (at + 4) ≡ true → L (at + 4) ≡ true
  term_lead at rd (ItemForm item) e f k k' = absurd f
  term_lead at rd (TermForm term) e f k k' = go (term_goes_on term) refl
    where
      go : (b : Bool) → term_goes_on term ≡ b → L (at + 4) ≡ true
      go true g = lead_of p is marked dec fine at (at + 4) rd.word rd.reading (kept_is p is marked dec fine at k).0 rd.there rd.reads (subst (λ q. Contains (form_leads at q) (at + 4)) (sym e) (goes_lead at term g))
      go false g = closed_lead at rd (subst (λ q. closes (form_line q) ≡ true) (sym e) (ap not g)) k'

  form_rest : (at : ℕ) (words : List Word) (rd : ReadWord p is marked dec fine.text at) → K at ≡ true → rest_lines (with_form (form_of N rd.reading) (Cut (at + 4) words)) ≡ form_line (form_of N rd.reading) ∷ rest_lines (Cut (at + 4) words)
  form_rest at words rd k = form_lines N rd.reading (Cut (at + 4) words) (form_at at rd) (λ f. closed_cut (at + 4) words (λ k'. term_lead at rd (form_of N rd.reading) refl f k k'))

  lifts_cut : (at : ℕ) (words : List Word) → IsSuffix at words → MakeTargets G (rest_lines (Cut at words)) → LinksDieIn G (rest_lines (Cut at words)) → (o : Option ℕ) → Came o at → Reads o (rest_lines (Cut at words))
  lifts_cut at [] suffix makes dies o (inl c) =
      let w = some_is (word_at T at) (reached_word p is marked dec fine.text (dec.only at (kept_is p is marked dec fine at c.1).0)) in
      absurd (let u : Some w.0 ≡ None = sym w.1 ∙ suffix at (omega arith) in cc)
  lifts_cut at [] suffix makes dies o (inr c) = rw c.0 lift_end
  lifts_cut at (w ∷ words) suffix makes dies o c = go (K at) refl makes dies (λ m d o' c'. lifts_cut (at + 4) words (tail_suffix at w words suffix) m d o' c')
    where
      own : word_at T at ≡ Some w
      own = suffix at (omega arith) ∙ at_here at w words

      skipped : K at ≡ false → Came o at → Came o (at + 4)
      skipped k (inl c) = true_not_false (sym c.1 ∙ k)
      skipped k (inr c) = inr (c.0, lead_skipped at k)

      -- the line at this word, and the name before it
      kept_line : (rd : ReadWord p is marked dec fine.text at) → K at ≡ true → MakeTargets G (form_line (form_of N rd.reading) ∷ rest_lines (Cut (at + 4) words)) → LinksDieIn G (form_line (form_of N rd.reading) ∷ rest_lines (Cut (at + 4) words)) → (MakeTargets G (rest_lines (Cut (at + 4) words)) → LinksDieIn G (rest_lines (Cut (at + 4) words)) → (o' : Option ℕ) → Came o' (at + 4) → Reads o' (rest_lines (Cut (at + 4) words))) → Reads (Some at) (form_line (form_of N rd.reading) ∷ rest_lines (Cut (at + 4) words))
      kept_line rd k makes dies rec =
          lift_line at rd.word rd.reading refl rd.there rd.reads refl (is_door at rd k) (line_good at words rd (tail_suffix at w words suffix) k makes dies)
          (rec (line_makes (form_of N rd.reading) makes) (line_dies (form_of N rd.reading) dies) (onward (form_line (form_of N rd.reading)) at) (came_next at rd k))
        where
          line_makes : (shape : Form) → MakeTargets G (form_line shape ∷ rest_lines (Cut (at + 4) words)) → MakeTargets G (rest_lines (Cut (at + 4) words))
          line_makes (ItemForm item) h = item_tail item (rest_lines (Cut (at + 4) words)) h
          line_makes (TermForm term) h = h.1

          item_dies : (item : Item) (ys : List Line) → LinksDieIn G (line_of item ∷ ys) → LinksDieIn G ys
          item_dies (Op insn) ys h = h
          item_dies (Hi rd to) ys h = h
          item_dies (Lo rd rs to) ys h = h
          item_dies (Out procedure) ys h = h.1

          line_dies : (shape : Form) → LinksDieIn G (form_line shape ∷ rest_lines (Cut (at + 4) words)) → LinksDieIn G (rest_lines (Cut (at + 4) words))
          line_dies (ItemForm item) h = item_dies item (rest_lines (Cut (at + 4) words)) h
          line_dies (TermForm term) h = h

      begun : (b : Bool) (rest : Rest) → L at ≡ b → K at ≡ true → Came o at → Reads (Some at) (rest_lines rest) → Reads o (rest_lines (begun_if b at rest))
      begun true rest l k (inl c) h = lift_name (rw c.0 refl) (has_name_of at k l) h
      begun true rest l k (inr c) h = lift_name (rw c.0 tt) (has_name_of at k l) h
      begun false rest l k (inl c) h = subst (λ o. Reads o (rest_lines rest)) (sym c.0) h
      begun false rest l k (inr c) h = true_not_false (sym (c.1 k) ∙ l)

      begun_makes : (b : Bool) (rest : Rest) → MakeTargets G (rest_lines (begun_if b at rest)) → MakeTargets G (rest_lines rest)
      begun_makes true rest h = h
      begun_makes false rest h = h

      begun_dies : (b : Bool) (rest : Rest) → LinksDieIn G (rest_lines (begun_if b at rest)) → LinksDieIn G (rest_lines rest)
      begun_dies true rest h = h
      begun_dies false rest h = h

      go : (b : Bool) → K at ≡ b → MakeTargets G (rest_lines (if b then begun_if (L at) at (with_reading N (reading_of T at w) (Cut (at + 4) words)) else Cut (at + 4) words)) → LinksDieIn G (rest_lines (if b then begun_if (L at) at (with_reading N (reading_of T at w) (Cut (at + 4) words)) else Cut (at + 4) words)) → (MakeTargets G (rest_lines (Cut (at + 4) words)) → LinksDieIn G (rest_lines (Cut (at + 4) words)) → (o' : Option ℕ) → Came o' (at + 4) → Reads o' (rest_lines (Cut (at + 4) words))) → Reads o (rest_lines (if b then begun_if (L at) at (with_reading N (reading_of T at w) (Cut (at + 4) words)) else Cut (at + 4) words))
      go false k makes dies rec = rec makes dies o (skipped k c)
      go true k makes dies rec =
          let rd = read_at p is marked dec fine at (kept_is p is marked dec fine at k).0 in
          let same : rd.word ≡ w = let u : Some rd.word ≡ Some w = sym rd.there ∙ own in cc in
          let reads : reading_of T at w ≡ Some rd.reading = subst (λ w. reading_of T at w ≡ Some rd.reading) same rd.reads in
          let rest : Rest = with_reading N (reading_of T at w) (Cut (at + 4) words) in
          let lines : rest_lines rest ≡ form_line (form_of N rd.reading) ∷ rest_lines (Cut (at + 4) words) = ap (λ o. rest_lines (with_reading N o (Cut (at + 4) words))) reads ∙ form_rest at words rd k in
          begun (L at) rest refl k c (subst (Reads (Some at)) (sym lines) (kept_line rd k (subst (MakeTargets G) lines (begun_makes (L at) rest makes)) (subst (LinksDieIn G) lines (begun_dies (L at) rest dies)) rec))

  pub lifts_whole : MakeTargets G (lines_of G.blocks) → LinksDieIn G (lines_of G.blocks) → Reads None (lines_of G.blocks)
  lifts_whole makes dies =
      subst (Reads None) whole_cut
      (lifts_cut T.lo T.words (λ x h. refl) (subst (MakeTargets G) (sym whole_cut) makes) (subst (LinksDieIn G) (sym whole_cut) dies) None (inr (refl, first_lead)))
