-- What is read off a program is a graph.
use Rattle.std.proofs.Common.{◌≡◌, ◌≢◌, ℕ, zero, suc, ◌+◌, ◌<◌, Bool, true, false, List, [], ◌∷◌, ◌++◌, map, length, Option, Some, None, slice_get, if◌then◌else◌, refl, sym, subst, arith}
use Rattle.std.specs.List.{slice_index, Contains, AllByRecursion, flat_map}
use Rattle.std.specs.List.Sorted.{IsStrictlyIncreasing}
use Rattle.std.proofs.lemmas.List.Elements.{All-from_recursion}
use Rattle.std.proofs.lemmas.Bool.{and_parts}
use Rattle.sq_isa.specs.Ranges.{IsRegister}
use Rattle.sq_isa.proofs.Encoded.{FieldsFit-insn_of}
use Rattle.sq_graph.specs.declared.item.Item.{Item}
use Rattle.sq_graph.specs.declared.item.Item.TheVariants.{Op, Hi, Lo, Out}
use Rattle.sq_graph.specs.declared.item.Term.{Term}
use Rattle.sq_graph.specs.declared.item.Term.TheVariants.{Call}
use Rattle.sq_graph.specs.Graph.{Graph}
use Rattle.sq_graph.specs.Blocks.{HasBlock, HasProcedure, all_items, items_of_blocks, items_of_bodies}
use Rattle.sq_graph.specs.Uses.{item_uses, term_uses, items_uses, terms_uses, code_word_uses, item_calls, calls, uses}
use Rattle.sq_graph.specs.Rules.{ItemFits, TermFits, mentions, ProcedureFits, IsGraph}
use Rattle.sq_reloc.specs.declared.mark.CodeWord.{CodeWord}
use Rattle.sq_reloc.specs.CodeWords.{IsAscending}
use Rattle.sq_graph.specs.Lines.{line_of, lines_of}
use Rattle.sq_graph.specs.Soundness.{IsFreeOf, IsSoundBody, IsSound}
use Rattle.law_program.specs.Programs.{Text, Note, Program, target_of}
use Rattle.law_program.specs.Reached.{Decides}
use Rattle.law_program.specs.Readings.{Reading, IsItem, IsTerm, Links, reading_at}
use Rattle.law_program.specs.Notes.{used_notes, has_body, is_item_without}
use Rattle.law_program.specs.Lifted.{Form, link_form, form_of, procedure_at, with_item, body_from, procedure_of, code_ref}
use Rattle.sq_lift.proofs.NoteRefusals.{links_small}
use Rattle.law_lifting.specs.Lifting.{IsLinked, IsReadable, NotesDie}
use Rattle.law_lifting.proofs.Facts.{one_is, none_in, ReadWord, marked_of}
use Rattle.law_lifting.proofs.NoteFacts.{at_number, read_item, IsGoodNote, good_note}
use Rattle.law_lifting.proofs.ReadingFacts.{form_uses, IsReadItem}
use Rattle.law_lifting.proofs.CutLines.{N, K, G, named_used, body_name, body_each, item_read}
use Rattle.law_lifting.proofs.Whole.{entry_named, code_named, names_are, contains_at, dies_lines, die_all}
use Rattle.sq_lifted.proofs.Fits.{ReadingFits, reading_fits}
use Rattle.sq_lifted.proofs.Blocks.{has_block, IsFormGood, IsBlockGood, EachBlock, blocks_good, names_distinct, last_ends}

-- LISTS

each_weaker : {X : Type 0} (P Q : X → Type 0) → ((x : X) → P x → Q x) → (xs : List X) → AllByRecursion P xs → AllByRecursion Q xs
each_weaker P Q f [] h = tt
each_weaker P Q f (x ∷ xs) h = (f x h.0, each_weaker P Q f xs h.1)

each_append : {X : Type 0} (P : X → Type 0) (xs ys : List X) → AllByRecursion P xs → AllByRecursion P ys → AllByRecursion P (xs ++ ys)
each_append P [] ys h k = k
each_append P (x ∷ xs) ys h k = (h.0, each_append P xs ys h.1 k)

each_flat : {X Y : Type 0} (f : X → List Y) (P : Y → Type 0) (xs : List X) → AllByRecursion (λ x. AllByRecursion P (f x)) xs → AllByRecursion P (flat_map f xs)
each_flat f P [] h = tt
each_flat f P (x ∷ xs) h = each_append P (f x) (flat_map f xs) h.0 (each_flat f P xs h.1)

each_map : {X Y : Type 0} (f : X → Y) (P : Y → Type 0) (xs : List X) → AllByRecursion (λ x. P (f x)) xs → AllByRecursion P (map f xs)
each_map f P [] h = tt
each_map f P (x ∷ xs) h = (h.0, each_map f P xs h.1)

pub each_at : {X : Type 0} (P : X → Type 0) (xs : List X) → ((q : ℕ) (x : X) → slice_get xs q ≡ Some x → P x) → AllByRecursion P xs
each_at P [] f = tt
each_at P (x ∷ xs) f = (f 0 x refl, each_at P xs (λ q y e. f (suc q) y e))

-- WHAT AN ITEM AND A TERM ARE

-- an item that fits, and whose names and procedures are there
pub record IsItemGood (g : Graph) (item : Item) : Type 0 where
  pub fits : ItemFits item
  pub names : (x : ℕ) → Contains (item_uses item) x → HasBlock g x
  pub calls : (q : ℕ) → Contains (item_calls item) q → HasProcedure g q

pub record IsTermGood (g : Graph) (term : Term) : Type 0 where
  pub fits : TermFits term
  pub names : (x : ℕ) → Contains (term_uses term) x → HasBlock g x

abbrev IsFormGoodIn : Graph → Form → Type 0
IsFormGoodIn g f = IsFormGood (IsItemGood g) (IsTermGood g) f

read_calls : (item : Item) → IsReadItem item → item_calls item ≡ []
read_calls (Op insn) f = refl
read_calls (Hi rd to) f = refl
read_calls (Lo rd rs to) f = refl
read_calls (Out procedure) f = absurd f

-- code words that ascend
increasing : (words : List CodeWord) → IsAscending words → IsStrictlyIncreasing (map (λ w. w.at) (map code_ref words))
increasing [] h k lt = absurd (omega (arith, lt))
increasing (w ∷ []) h k lt = absurd (omega (arith, lt))
increasing (w ∷ v ∷ words) h zero lt = h.0.0
increasing (w ∷ v ∷ words) h (suc k) lt =
    let ats : List ℕ = map (λ w. w.at) (map code_ref (w ∷ v ∷ words)) in
    let next : suc k + 1 ≡ suc (k + 1) = omega arith in
    subst (λ i. slice_index ats (suc k) < slice_index ats i) (sym next) (increasing (v ∷ words) h.1 k (omega (arith, lt)))

module _ (p : Program) (is : ℕ → Bool) (linked : IsLinked p) (dec : Decides p is) (fine : IsReadable is p) where
  abbrev t : Text
  t = p.text

  abbrev ns : List Note
  ns = N p is linked.text dec fine

  abbrev keep : ℕ → Bool
  keep = K p is linked.text dec fine

  abbrev g : Graph
  g = G p is linked.text dec fine

  abbrev Read : ℕ → Type 0
  Read at = ReadWord p is linked.text dec fine.text at

  each_in : (P : ℕ → Type 0) (xs : List ℕ) → ((x : ℕ) → Contains xs x → P x) → AllByRecursion P xs
  each_in P xs f = each_at P xs (λ q x e. f x (contains_at p is linked dec fine xs q x e))

  pub read_fits : (at : ℕ) (rd : Read at) → ReadingFits at rd.reading
  read_fits at rd =
      reading_fits t at rd.word.mark rd.sound.insn rd.reading
      (FieldsFit-insn_of rd.word.number rd.sound.insn (linked.text.numbers at rd.word rd.there) rd.sound.is)
      (marked_of p is linked.text dec fine.text at rd.word rd.reading rd.sound rd.reads)

  names_there : (at : ℕ) (rd : Read at) → keep at ≡ true → (x : ℕ) → Contains (form_uses (form_of ns rd.reading)) x → HasBlock g x
  names_there at rd k x c = has_block p is linked.text dec fine x (named_used p is linked.text dec fine at x rd k c)

  procedure_there : (x q : ℕ) → procedure_at ns x ≡ Some q → HasProcedure g q
  procedure_there x q e = let n = at_number ns x q e in within ns q n.0 n.1
    where
      within : (ns : List Note) (q : ℕ) (n : Note) → slice_get ns q ≡ Some n → q < length (map (procedure_of t) ns)
      within [] q n e = absurd (cc)
      within (m ∷ ns) zero n e = omega arith
      within (m ∷ ns) (suc q) n e = let h = within ns q n e in omega (arith, h)

  form_good : (at : ℕ) → keep at ≡ true → (rd : Read at) → IsFormGoodIn g (form_of ns rd.reading)
  form_good at k rd = go rd.reading refl
    where
      link_good : (link to : ℕ) (o : Option ℕ) → procedure_at ns to ≡ o → TermFits (Call link to) → ((x : ℕ) → Contains (form_uses (link_form link to o)) x → HasBlock g x) → IsFormGoodIn g (link_form link to o)
      link_good link to None e fits h = record { fits = fits; names = h }
      link_good link to (Some q) e fits h = record { fits = tt; names = h; calls = λ c i. called c i }
        where
          called : (c : ℕ) → Contains (q ∷ []) c → HasProcedure g c
          called c i = subst (HasProcedure g) (one_is q c i) (procedure_there to q e)

      go : (r : Reading) → rd.reading ≡ r → IsFormGoodIn g (form_of ns r)
      go (IsItem item) e = record {
        fits = subst (ReadingFits at) e (read_fits at rd);
        names = subst (λ r. (x : ℕ) → Contains (form_uses (form_of ns r)) x → HasBlock g x) e (names_there at rd k);
        calls = λ q c. none_in q (subst (λ xs. Contains xs q) (read_calls item (item_read p is linked.text dec fine at rd item e)) c);
      }
      go (IsTerm term) e = record {
        fits = (subst (ReadingFits at) e (read_fits at rd)).0;
        names = subst (λ r. (x : ℕ) → Contains (form_uses (form_of ns r)) x → HasBlock g x) e (names_there at rd k);
      }
      go (Links link to) e =
          link_good link to (procedure_at ns to) refl (subst (ReadingFits at) e (read_fits at rd))
          (subst (λ r. (x : ℕ) → Contains (form_uses (form_of ns r)) x → HasBlock g x) e (names_there at rd k))

  pub blocks_are : EachBlock (IsItemGood g) (IsTermGood g) g.blocks
  blocks_are = blocks_good p is linked.text dec fine (IsItemGood g) (IsTermGood g) (record { fits = tt; names = λ x c. none_in x c }) form_good

  -- and of bodies
  abbrev IsBodyItem : Note → Item → Type 0
  IsBodyItem n item = IsItemGood g item × (item_calls item ≡ []) × (mentions item n.link ≡ false)

  body_is : (n : Note) → IsGoodNote is p n → AllByRecursion (IsBodyItem n) (body_from t n.address n.length)
  body_is n good = body_each p is linked.text dec fine (IsBodyItem n) n.link each n.address n.length good.reached good.body
    where
      each : (at : ℕ) (rd : Read at) → is at ≡ true → (item : Item) → rd.reading ≡ IsItem item → mentions item n.link ≡ false → IsBodyItem n item
      each at rd i item e m = let none = read_calls item (item_read p is linked.text dec fine at rd item e) in (
        record {
          fits = subst (ReadingFits at) e (read_fits at rd);
          names = λ x c. has_block p is linked.text dec fine x (body_name p is linked.text dec fine at rd i item e x c);
          calls = λ q c. none_in q (subst (λ xs. Contains xs q) none c);
        },
        none,
        m,
      )

  -- THE RULES

  notes_are : AllByRecursion (IsGoodNote is p) ns
  notes_are = each_at (IsGoodNote is p) ns (λ q n e. good_note is p q n fine.notes e)

  items_are : AllByRecursion (IsItemGood g) (all_items g)
  items_are =
      each_append (IsItemGood g) (items_of_blocks g.blocks) (items_of_bodies g.procedures)
      (each_flat (λ b. b.items) (IsItemGood g) g.blocks (each_weaker (IsBlockGood (IsItemGood g) (IsTermGood g)) (λ b. AllByRecursion (IsItemGood g) b.items) (λ b h. h.items) g.blocks blocks_are))
      (each_flat (λ q. q.body) (IsItemGood g) g.procedures (each_map (procedure_of t) (λ q. AllByRecursion (IsItemGood g) q.body) ns (each_weaker (IsGoodNote is p) (λ n. AllByRecursion (IsItemGood g) (body_from t n.address n.length)) (λ n good. each_weaker (IsBodyItem n) (IsItemGood g) (λ item h. h.0) (body_from t n.address n.length) (body_is n good)) ns notes_are)))

  uses_are : AllByRecursion (HasBlock g) (uses g)
  uses_are = (
    has_block p is linked.text dec fine p.entry (entry_named p is linked dec fine),
    each_append (HasBlock g) (code_word_uses g.code_words) (terms_uses g.blocks ++ items_uses (all_items g))
        (subst (AllByRecursion (HasBlock g)) (sym (names_are p is linked dec fine p.code_words)) (each_in (HasBlock g) (map target_of p.code_words) (λ x c. has_block p is linked.text dec fine x (code_named p is linked dec fine x c))))
        (each_append (HasBlock g) (terms_uses g.blocks) (items_uses (all_items g))
        (each_flat (λ b. term_uses b.term) (HasBlock g) g.blocks (each_weaker (IsBlockGood (IsItemGood g) (IsTermGood g)) (λ b. AllByRecursion (HasBlock g) (term_uses b.term)) (λ b h. each_in (HasBlock g) (term_uses b.term) h.term.names) g.blocks blocks_are))
        (each_flat item_uses (HasBlock g) (all_items g) (each_weaker (IsItemGood g) (λ item. AllByRecursion (HasBlock g) (item_uses item)) (λ item h. each_in (HasBlock g) (item_uses item) h.names) (all_items g) items_are))),
  )

  calls_are : AllByRecursion (HasProcedure g) (calls g)
  calls_are = each_flat item_calls (HasProcedure g) (all_items g) (each_weaker (IsItemGood g) (λ item. AllByRecursion (HasProcedure g) (item_calls item)) (λ item h. each_in (HasProcedure g) (item_calls item) h.calls) (all_items g) items_are)

  links_are : AllByRecursion (λ n. IsRegister n.link) ns
  links_are = used_small p.notes (links_small is p None 1 p.notes fine.notes)
    where
      used_small : (xs : List Note) → AllByRecursion (λ n. IsRegister n.link) xs → AllByRecursion (λ n. IsRegister n.link) (used_notes is xs)
      used_small [] h = tt
      used_small (x ∷ xs) h = keeps (is x.address) (used_small xs h.1)
        where
          keeps : (b : Bool) → AllByRecursion (λ n. IsRegister n.link) (used_notes is xs) → AllByRecursion (λ n. IsRegister n.link) (if b then x ∷ used_notes is xs else used_notes is xs)
          keeps true more = (h.0, more)
          keeps false more = more

  procedure_is : (n : Note) → IsGoodNote is p n → IsRegister n.link → ProcedureFits (procedure_of t n)
  procedure_is n good small = record {
    register = small;
    link = good.link;
    no_calls = All-from_recursion (λ item. item_calls item ≡ []) (body_from t n.address n.length) (each_weaker (IsBodyItem n) (λ item. item_calls item ≡ []) (λ item h. h.1) (body_from t n.address n.length) (body_is n good));
    no_mention = All-from_recursion (λ item. mentions item n.link ≡ false) (body_from t n.address n.length) (each_weaker (IsBodyItem n) (λ item. mentions item n.link ≡ false) (λ item h. h.2) (body_from t n.address n.length) (body_is n good));
  }

  procedures_are : (xs : List Note) → AllByRecursion (IsGoodNote is p) xs → AllByRecursion (λ n. IsRegister n.link) xs → AllByRecursion ProcedureFits (map (procedure_of t) xs)
  procedures_are [] good small = tt
  procedures_are (n ∷ xs) good small = (procedure_is n good.0 small.0, procedures_are xs good.1 small.1)

  pub is_graph : IsAscending p.code_words → IsGraph g
  is_graph ascending = record {
    distinct = names_distinct p is linked.text dec fine;
    named_all = All-from_recursion (HasBlock g) (uses g) uses_are;
    called_all = All-from_recursion (HasProcedure g) (calls g) calls_are;
    ends = last_ends p is linked.text dec fine;
    code_words = increasing p.code_words ascending;
    items = All-from_recursion ItemFits (all_items g) (each_weaker (IsItemGood g) ItemFits (λ item h. h.fits) (all_items g) items_are);
    terms = All-from_recursion (λ b. TermFits b.term) g.blocks (each_weaker (IsBlockGood (IsItemGood g) (IsTermGood g)) (λ b. TermFits b.term) (λ b h. h.term.fits) g.blocks blocks_are);
    procedures = All-from_recursion ProcedureFits g.procedures (procedures_are ns notes_are links_are);
  }

  -- SOUNDNESS

  item_free : (link : ℕ) (item : Item) → item_calls item ≡ [] → mentions item link ≡ false → IsFreeOf link (line_of item)
  item_free link (Op insn) c m = m
  item_free link (Hi rd to) c m = m
  item_free link (Lo rd rs to) c m = m
  item_free link (Out procedure) c m = absurd (cc)

  body_some : (link at n : ℕ) → has_body t link at n ≡ true → n ≢ 0 → body_from t at n ≢ []
  body_some link at zero b some = absurd (some refl)
  body_some link at (suc n) b some =
      let c = and_parts (is_item_without link (reading_at t at)) (has_body t link (at + 4) n) b in
      let item = read_item link (reading_at t at) c.0 in
      subst (λ o. with_item o (body_from t (at + 4) n) ≢ []) (sym item.1) (λ e. cc)

  sound_body : (n : Note) → IsGoodNote is p n → IsSoundBody (procedure_of t n)
  sound_body n good = record {
    some = body_some n.link n.address n.length good.body good.some;
    free = All-from_recursion (λ item. IsFreeOf n.link (line_of item)) (body_from t n.address n.length) (each_weaker (IsBodyItem n) (λ item. IsFreeOf n.link (line_of item)) (λ item h. item_free n.link item h.1 h.2) (body_from t n.address n.length) (body_is n good));
  }

  pub is_sound : NotesDie is p → IsSound g
  is_sound dies = record {
    bodies = All-from_recursion IsSoundBody g.procedures (each_map (procedure_of t) IsSoundBody ns (each_weaker (IsGoodNote is p) (λ n. IsSoundBody (procedure_of t n)) sound_body ns notes_are));
    links_die = dies_lines p is linked dec fine (lines_of g.blocks) (die_all p is linked dec fine dies);
  }
