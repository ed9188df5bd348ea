-- Other names of blocks change no live register.
use Rattle.std.proofs.Common.{◌≡◌, ◌⊎◌, inl, inr, ℕ, zero, suc, ◌<◌, Bool, true, false, ◌==◌, List, [], ◌∷◌, ◌++◌, map, Option, Some, None, IsSome, slice_get, if◌then◌else◌, refl, sym, ap, ◌∙◌, subst, arith}
use Rattle.std.specs.List.{AllByRecursion, Contains, All, flat_map}
use Rattle.std.specs.Option.{option_map}
use Rattle.std.proofs.lemmas.Bool.{cases_Bool, eqb-true, eqb-false, eq-eqb, ne_eqb}
use Rattle.std.proofs.lemmas.List.{map-append}
use Rattle.std.proofs.lemmas.List.Concat.{flat_map-append}
use Rattle.std.proofs.lemmas.List.Elements.{Contains-append_left, Contains-append_right, Contains-append_cases}
use Rattle.std.proofs.lemmas.Option.{slice_get-map}
use Rattle.sq_isa.specs.Registers.{is_among_but_x0}
use Rattle.sq_arena.specs.Entries.{value_of}
use Rattle.sq_graph.specs.declared.item.Item.{Item}
use Rattle.sq_graph.specs.declared.item.Item.TheVariants.{Op, Hi, Lo, Out}
use Rattle.sq_graph.specs.declared.item.Term.{Term}
use Rattle.sq_graph.specs.declared.item.Term.TheVariants.{Fall, Jump, Branch, Call, PartJump, Indirect, Stop}
use Rattle.sq_graph.specs.declared.parts.CodeRef.{CodeRef}
use Rattle.sq_graph.specs.Graph.{Block, Procedure, Graph}
use Rattle.sq_graph.specs.Blocks.{named, HasBlock, items_of_blocks, items_of_bodies, all_items}
use Rattle.sq_graph.specs.Terms.{links}
use Rattle.sq_graph.specs.Uses.{term_uses, item_uses, items_uses, terms_uses, code_word_uses, uses}
use Rattle.sq_graph.specs.Rules.{IsGraph}
use Rattle.sq_graph.specs.Renames.{retargeted_items, retargeted_term, retargeted_words, retargeted_procedure, renamed_block, renamed}
use Rattle.sq_graph.specs.Lines.{AddressHalf, Plain, Upper, Lower, Line, Name, Do, Enter, Return, End, line_of, term_lines, lines_of, inside, has_name, behind_name, block_lines}
use Rattle.sq_graph.specs.Walks.{word_name, lower_names, link_names, first_name, code_targets, term_sources, term_link, is_register, is_link_of, line_reads, line_writes, Goes, IsLive, read_here, live_behind}
use Rattle.sq_graph.specs.Alike.{IsOneToOne}

-- LISTS

from_all : {X : Type 0} (P : X → Type 0) (xs : List X) (x : X) → All P xs → Contains xs x → P x
from_all P xs x h c = subst P c.2 (h c.0 x c.1)

none_in : {A X : Type 0} (y : X) → Contains [] y → A
none_in y c = absurd (let h : c.0 < 0 = c.1 in omega arith)

mapped_in : (f : ℕ → ℕ) (xs : List ℕ) (x : ℕ) → Contains xs x → Contains (map f xs) (f x)
mapped_in f [] x c = none_in x c
mapped_in f (y ∷ xs) x (zero, h, e) = (0, omega arith, ap f e)
mapped_in f (y ∷ xs) x (suc i, h, e) = let r = mapped_in f xs x (i, omega (arith, h), e) in (suc r.0, omega (arith, r.1), r.2)

mapped_from : (f : ℕ → ℕ) (xs : List ℕ) (y : ℕ) → Contains (map f xs) y → (x : ℕ) × Contains xs x × (f x ≡ y)
mapped_from f [] y c = none_in y c
mapped_from f (x ∷ xs) y (zero, h, e) = (x, (0, omega arith, refl), e)
mapped_from f (x ∷ xs) y (suc i, h, e) =
    let r = mapped_from f xs y (i, omega (arith, h), e) in (r.0, (suc r.1.0, omega (arith, r.1.1), r.1.2), r.2)

-- a block has its name
named_there : (bs : List Block) (x : ℕ) → Contains (map (λ b. b.name) bs) x → IsSome (value_of (named bs) x)
named_there [] x c = none_in x c
named_there (b ∷ bs) x (zero, h, e) = let same : b.name ≡ x = e in rw (eq-eqb b.name x same) refl
named_there (b ∷ bs) x (suc i, h, e) = by (b.name == x) (named_there bs x (i, omega (arith, h), e))
  where
    by : (c : Bool) → IsSome (value_of (named bs) x) → IsSome (if c then Some b else value_of (named bs) x)
    by true h = refl
    by false h = h

module _ (f : ℕ → ℕ) where
  -- LINES

  abbrev pub half_named : AddressHalf → AddressHalf
  half_named Plain = Plain
  half_named (Upper n word) = Upper (f n) word
  half_named (Lower n) = Lower (f n)

  abbrev pub line_named : Line → Line
  line_named (Name n) = Name (f n)
  line_named (Do half insn) = Do (half_named half) insn
  line_named (Enter procedure) = Enter procedure
  line_named (Return link) = Return link
  line_named (End term) = End (retargeted_term f term)

  abbrev pub named_lines : List Line → List Line
  named_lines lines = map line_named lines

  items_are : (items : List Item) → map line_of (retargeted_items f items) ≡ named_lines (map line_of items)
  items_are [] = refl
  items_are (Op insn ∷ items) = ap (λ ls. line_of (Op insn) ∷ ls) (items_are items)
  items_are (Hi rd to ∷ items) = ap (λ ls. line_of (Hi rd (f to)) ∷ ls) (items_are items)
  items_are (Lo rd rs to ∷ items) = ap (λ ls. line_of (Lo rd rs (f to)) ∷ ls) (items_are items)
  items_are (Out procedure ∷ items) = ap (λ ls. line_of (Out procedure) ∷ ls) (items_are items)

  term_are : (term : Term) (rest : List Line) → term_lines (retargeted_term f term) (named_lines rest) ≡ named_lines (term_lines term rest)
  term_are Fall rest = refl
  term_are (Jump to) rest = refl
  term_are (Branch cond a b to) rest = refl
  term_are (Call link to) rest = refl
  term_are (PartJump link part to) rest = refl
  term_are (Indirect link at offset) rest = refl
  term_are (Stop word) rest = refl

  pub lines_are : (bs : List Block) → lines_of (map (renamed_block f) bs) ≡ named_lines (lines_of bs)
  lines_are [] = refl
  lines_are (b ∷ bs) =
      ap (λ ls. Name (f b.name) ∷ ls)
      ((λ i. items_are b.items i ++ term_lines (retargeted_term f b.term) (lines_are bs i))
      ∙ ap (λ ls. named_lines (map line_of b.items) ++ ls) (term_are b.term (lines_of bs))
      ∙ sym (map-append line_named (map line_of b.items) (term_lines b.term (lines_of bs))))

  inside_are : (p : Procedure) (rest : List Line) → inside (retargeted_procedure f p) (named_lines rest) ≡ named_lines (inside p rest)
  inside_are p rest =
      ap (λ ls. ls ++ (Return p.link ∷ named_lines rest)) (items_are p.body)
      ∙ sym (map-append line_named (map line_of p.body) (Return p.link ∷ rest))

  -- WHAT THEY READ AND WRITE

  sources_are : (term : Term) → term_sources (retargeted_term f term) ≡ term_sources term
  sources_are Fall = refl
  sources_are (Jump to) = refl
  sources_are (Branch cond a b to) = refl
  sources_are (Call link to) = refl
  sources_are (PartJump link part to) = refl
  sources_are (Indirect link at offset) = refl
  sources_are (Stop word) = refl

  link_is : (term : Term) → term_link (retargeted_term f term) ≡ term_link term
  link_is Fall = refl
  link_is (Jump to) = refl
  link_is (Branch cond a b to) = refl
  link_is (Call link to) = refl
  link_is (PartJump link part to) = refl
  link_is (Indirect link at offset) = refl
  link_is (Stop word) = refl

  reads_are : (line : Line) (r : ℕ) → line_reads (line_named line) r ≡ line_reads line r
  reads_are (Name n) r = refl
  reads_are (Do half insn) r = refl
  reads_are (Enter procedure) r = refl
  reads_are (Return link) r = refl
  reads_are (End term) r = ap (λ xs. is_among_but_x0 xs r) (sources_are term)

  link_of_mapped : (o : Option Procedure) (r : ℕ) → is_link_of (option_map (retargeted_procedure f) o) r ≡ is_link_of o r
  link_of_mapped None r = refl
  link_of_mapped (Some p) r = refl

  writes_are : (ps : List Procedure) (line : Line) (r : ℕ) → line_writes (map (retargeted_procedure f) ps) (line_named line) r ≡ line_writes ps line r
  writes_are ps (Name n) r = refl
  writes_are ps (Do half insn) r = refl
  writes_are ps (Enter procedure) r = ap (λ o. is_link_of o r) (slice_get-map (retargeted_procedure f) ps procedure) ∙ link_of_mapped (slice_get ps procedure) r
  writes_are ps (Return link) r = refl
  writes_are ps (End term) r = ap (λ link. is_register link r) (link_is term)

  -- CODE TARGETS

  lower_are : (items : List Item) → flat_map lower_names (retargeted_items f items) ≡ map f (flat_map lower_names items)
  lower_are [] = refl
  lower_are (Op insn ∷ items) = lower_are items
  lower_are (Hi rd to ∷ items) = lower_are items
  lower_are (Lo rd rs to ∷ items) = ap (λ xs. f to ∷ xs) (lower_are items)
  lower_are (Out procedure ∷ items) = lower_are items

  word_targets : (ws : List CodeRef) → map word_name (retargeted_words f ws) ≡ map f (map word_name ws)
  word_targets [] = refl
  word_targets (w ∷ ws) = ap (λ xs. f w.block ∷ xs) (word_targets ws)

  block_targets : (bs : List Block) → flat_map (λ b. flat_map lower_names b.items) (map (renamed_block f) bs) ≡ map f (flat_map (λ b. flat_map lower_names b.items) bs)
  block_targets [] = refl
  block_targets (b ∷ bs) =
      (λ i. lower_are b.items i ++ block_targets bs i)
      ∙ sym (map-append f (flat_map lower_names b.items) (flat_map (λ (b : Block). flat_map lower_names b.items) bs))

  procedure_targets : (ps : List Procedure) → flat_map (λ p. flat_map lower_names p.body) (map (retargeted_procedure f) ps) ≡ map f (flat_map (λ p. flat_map lower_names p.body) ps)
  procedure_targets [] = refl
  procedure_targets (p ∷ ps) =
      (λ i. lower_are p.body i ++ procedure_targets ps i)
      ∙ sym (map-append f (flat_map lower_names p.body) (flat_map (λ (p : Procedure). flat_map lower_names p.body) ps))

  links_are : (term : Term) → links (retargeted_term f term) ≡ links term
  links_are Fall = refl
  links_are (Jump to) = refl
  links_are (Branch cond a b to) = refl
  links_are (Call link to) = refl
  links_are (PartJump link part to) = refl
  links_are (Indirect link at offset) = refl
  links_are (Stop word) = refl

  first_are : (bs : List Block) → first_name (map (renamed_block f) bs) ≡ map f (first_name bs)
  first_are [] = refl
  first_are (b ∷ bs) = refl

  slots_are : (b : Bool) (xs ys : List ℕ) → ys ≡ map f xs → (if b then ys else []) ≡ map f (if b then xs else [])
  slots_are true xs ys e = e
  slots_are false xs ys e = refl

  link_targets : (bs : List Block) → link_names (map (renamed_block f) bs) ≡ map f (link_names bs)
  link_targets [] = refl
  link_targets (b ∷ bs) =
      ap (λ c. (if c then first_name (map (renamed_block f) bs) else []) ++ link_names (map (renamed_block f) bs)) (links_are b.term)
      ∙ (λ i. slots_are (links b.term) (first_name bs) (first_name (map (renamed_block f) bs)) (first_are bs) i ++ link_targets bs i)
      ∙ sym (map-append f (if links b.term then first_name bs else []) (link_names bs))

  targets_are : (g : Graph) → code_targets (renamed f g) ≡ map f (code_targets g)
  targets_are g =
      let W = map word_name g.code_words in
      let B = flat_map (λ (b : Block). flat_map lower_names b.items) g.blocks in
      let P = flat_map (λ (p : Procedure). flat_map lower_names p.body) g.procedures in
      let L = link_names g.blocks in
      (λ i. ((word_targets g.code_words i ++ block_targets g.blocks i) ++ procedure_targets g.procedures i) ++ link_targets g.blocks i)
      ∙ sym
      (map-append f ((W ++ B) ++ P) L
      ∙ ap (λ xs. xs ++ map f L) (map-append f (W ++ B) P)
      ∙ ap (λ xs. (xs ++ map f P) ++ map f L) (map-append f W B))

  -- KNOWN NAMES

  module _ (g : Graph) (rules : IsGraph g) (apart : IsOneToOne f g) where
    abbrev pub other : Graph
    other = renamed f g

    used : (x : ℕ) → Contains (uses g) x → HasBlock g x
    used x c = from_all (HasBlock g) (uses g) x rules.named_all c

    behind_entry : (x : ℕ) → Contains (code_word_uses g.code_words ++ (terms_uses g.blocks ++ items_uses (all_items g))) x → HasBlock g x
    behind_entry x c = used x (suc c.0, let h = c.1 in omega (arith, h), c.2)

    word_there : (x : ℕ) → Contains (code_word_uses g.code_words) x → HasBlock g x
    word_there x c = behind_entry x (Contains-append_left (code_word_uses g.code_words) (terms_uses g.blocks ++ items_uses (all_items g)) x c)

    term_there : (x : ℕ) → Contains (terms_uses g.blocks) x → HasBlock g x
    term_there x c =
        behind_entry x
        (Contains-append_right (code_word_uses g.code_words) (terms_uses g.blocks ++ items_uses (all_items g)) x
        (Contains-append_left (terms_uses g.blocks) (items_uses (all_items g)) x c))

    item_there : (x : ℕ) → Contains (items_uses (all_items g)) x → HasBlock g x
    item_there x c =
        behind_entry x
        (Contains-append_right (code_word_uses g.code_words) (terms_uses g.blocks ++ items_uses (all_items g)) x
        (Contains-append_right (terms_uses g.blocks) (items_uses (all_items g)) x c))

    lower_used : (items : List Item) (x : ℕ) → Contains (flat_map lower_names items) x → Contains (items_uses items) x
    lower_used [] x c = none_in x c
    lower_used (Op insn ∷ items) x c = lower_used items x c
    lower_used (Hi rd to ∷ items) x c = let r = lower_used items x c in (suc r.0, let h = r.1 in omega (arith, h), r.2)
    lower_used (Lo rd rs to ∷ items) x (zero, h, e) = (0, omega arith, e)
    lower_used (Lo rd rs to ∷ items) x (suc i, h, e) = let r = lower_used items x (i, omega (arith, h), e) in (suc r.0, let h = r.1 in omega (arith, h), r.2)
    lower_used (Out procedure ∷ items) x c = lower_used items x c

    flat_lower : {X : Type 0} (items_of : X → List Item) (xs : List X) (x : ℕ) → Contains (flat_map (λ y. flat_map lower_names (items_of y)) xs) x → Contains (items_uses (flat_map items_of xs)) x
    flat_lower items_of [] x c = none_in x c
    flat_lower items_of (y ∷ xs) x c = by (λ c. flat_lower items_of xs x c) (Contains-append_cases (flat_map lower_names (items_of y)) (flat_map (λ y. flat_map lower_names (items_of y)) xs) x c)
      where
        all : items_uses (items_of y) ++ items_uses (flat_map items_of xs) ≡ items_uses (items_of y ++ flat_map items_of xs)
        all = sym (flat_map-append item_uses (items_of y) (flat_map items_of xs))

        by : (Contains (flat_map (λ y. flat_map lower_names (items_of y)) xs) x → Contains (items_uses (flat_map items_of xs)) x) → Contains (flat_map lower_names (items_of y)) x ⊎ Contains (flat_map (λ y. flat_map lower_names (items_of y)) xs) x → Contains (items_uses (items_of y ++ flat_map items_of xs)) x
        by rest (inl c) = subst (λ us. Contains us x) all (Contains-append_left (items_uses (items_of y)) (items_uses (flat_map items_of xs)) x (lower_used (items_of y) x c))
        by rest (inr c) = subst (λ us. Contains us x) all (Contains-append_right (items_uses (items_of y)) (items_uses (flat_map items_of xs)) x (rest c))

    uses_both : items_uses (items_of_blocks g.blocks) ++ items_uses (items_of_bodies g.procedures) ≡ items_uses (all_items g)
    uses_both = sym (flat_map-append item_uses (items_of_blocks g.blocks) (items_of_bodies g.procedures))

    linked_name : (bs : List Block) (x : ℕ) → Contains (link_names bs) x → Contains (map (λ b. b.name) bs) x
    linked_name [] x c = none_in x c
    linked_name (b ∷ bs) x c = by (λ c. linked_name bs x c) (Contains-append_cases (if links b.term then first_name bs else []) (link_names bs) x c)
      where
        one_more : Contains (map (λ (b : Block). b.name) bs) x → Contains (map (λ (b : Block). b.name) (b ∷ bs)) x
        one_more r = (suc r.0, let h = r.1 in omega (arith, h), r.2)

        first : (bs : List Block) → Contains (first_name bs) x → Contains (map (λ (b : Block). b.name) bs) x
        first [] c = none_in x c
        first (d ∷ bs) (zero, h, e) = (0, omega arith, e)
        first (d ∷ bs) (suc i, h, e) = absurd (let k : suc i < 1 = h in omega arith)

        slot : (t : Bool) → Contains (if t then first_name bs else []) x → Contains (map (λ (b : Block). b.name) bs) x
        slot true c = first bs c
        slot false c = none_in x c

        by : (Contains (link_names bs) x → Contains (map (λ (b : Block). b.name) bs) x) → Contains (if links b.term then first_name bs else []) x ⊎ Contains (link_names bs) x → Contains (map (λ (b : Block). b.name) (b ∷ bs)) x
        by rest (inl c) = one_more (slot (links b.term) c)
        by rest (inr c) = one_more (rest c)

    abbrev W : List ℕ
    W = map word_name g.code_words

    abbrev B : List ℕ
    B = flat_map (λ b. flat_map lower_names b.items) g.blocks

    abbrev P : List ℕ
    P = flat_map (λ p. flat_map lower_names p.body) g.procedures

    abbrev L : List ℕ
    L = link_names g.blocks

    target_there : (x : ℕ) → Contains (code_targets g) x → HasBlock g x
    target_there x c = by_link (Contains-append_cases ((W ++ B) ++ P) L x c)
      where
        by_word : Contains W x ⊎ Contains B x → HasBlock g x
        by_word (inl c) = word_there x c
        by_word (inr c) = item_there x (subst (λ us. Contains us x) uses_both (Contains-append_left (items_uses (items_of_blocks g.blocks)) (items_uses (items_of_bodies g.procedures)) x (flat_lower (λ (b : Block). b.items) g.blocks x c)))

        by_body : Contains (W ++ B) x ⊎ Contains P x → HasBlock g x
        by_body (inl c) = by_word (Contains-append_cases W B x c)
        by_body (inr c) = item_there x (subst (λ us. Contains us x) uses_both (Contains-append_right (items_uses (items_of_blocks g.blocks)) (items_uses (items_of_bodies g.procedures)) x (flat_lower (λ (p : Procedure). p.body) g.procedures x c)))

        by_link : Contains ((W ++ B) ++ P) x ⊎ Contains L x → HasBlock g x
        by_link (inl c) = by_body (Contains-append_cases (W ++ B) P x c)
        by_link (inr c) = named_there g.blocks x (linked_name g.blocks x c)

    -- a line whose names are those of blocks
    abbrev IsKnown : Line → Type 0
    IsKnown (Name n) = HasBlock g n
    IsKnown (Do half insn) = Unit {0}
    IsKnown (Enter procedure) = Unit {0}
    IsKnown (Return link) = Unit {0}
    IsKnown (End term) = (x : ℕ) → Contains (term_uses term) x → HasBlock g x

    abbrev pub Known : List Line → Type 0
    Known lines = AllByRecursion IsKnown lines

    known_items : (items : List Item) (rest : List Line) → Known rest → Known (map line_of items ++ rest)
    known_items [] rest k = k
    known_items (Op insn ∷ items) rest k = (tt, known_items items rest k)
    known_items (Hi rd to ∷ items) rest k = (tt, known_items items rest k)
    known_items (Lo rd rs to ∷ items) rest k = (tt, known_items items rest k)
    known_items (Out procedure ∷ items) rest k = (tt, known_items items rest k)

    known_term : (term : Term) (rest : List Line) → ((x : ℕ) → Contains (term_uses term) x → HasBlock g x) → Known rest → Known (term_lines term rest)
    known_term Fall rest h k = k
    known_term (Jump to) rest h k = (h, k)
    known_term (Branch cond a b to) rest h k = (h, k)
    known_term (Call link to) rest h k = (h, k)
    known_term (PartJump link part to) rest h k = (h, k)
    known_term (Indirect link at offset) rest h k = (h, k)
    known_term (Stop word) rest h k = (h, k)

    known_blocks : (bs : List Block) → ((x : ℕ) → Contains (terms_uses bs) x → HasBlock g x) → ((x : ℕ) → Contains (map (λ b. b.name) bs) x → HasBlock g x) → Known (lines_of bs)
    known_blocks [] terms names = tt
    known_blocks (b ∷ bs) terms names = (
      names b.name (0, omega arith, refl),
      known_items b.items (term_lines b.term (lines_of bs))
          (known_term b.term (lines_of bs) (λ x c. terms x (Contains-append_left (term_uses b.term) (terms_uses bs) x c))
          (known_blocks bs (λ x c. terms x (Contains-append_right (term_uses b.term) (terms_uses bs) x c)) (λ x c. names x (suc c.0, let h = c.1 in omega (arith, h), c.2)))),
    )

    pub known : Known (lines_of g.blocks)
    known = known_blocks g.blocks term_there (named_there g.blocks)

    known_behind : (n : ℕ) (lines : List Line) → Known lines → Known (behind_name n lines)
    known_behind n [] k = tt
    known_behind n (line ∷ lines) k = by (has_name n line) (known_behind n lines k.1)
      where
        by : (b : Bool) → Known (behind_name n lines) → Known (if b then lines else behind_name n lines)
        by true h = k.1
        by false h = h

    known_block : (n : ℕ) → Known (block_lines g n)
    known_block n = known_behind n (lines_of g.blocks) known

    known_inside : (p : Procedure) (rest : List Line) → Known rest → Known (inside p rest)
    known_inside p rest k = known_items p.body (Return p.link ∷ rest) (tt, k)

    behind_is : (n : ℕ) → HasBlock g n → (lines : List Line) → Known lines → behind_name (f n) (named_lines lines) ≡ named_lines (behind_name n lines)
    behind_is n has [] k = refl
    behind_is n has (Do half insn ∷ lines) k = behind_is n has lines k.1
    behind_is n has (Enter procedure ∷ lines) k = behind_is n has lines k.1
    behind_is n has (Return link ∷ lines) k = behind_is n has lines k.1
    behind_is n has (End term ∷ lines) k = behind_is n has lines k.1
    behind_is n has (Name m ∷ lines) k =
        elim (cases_Bool (m == n)) [
          | inl here ↦ rw (here, eq-eqb (f m) (f n) (ap f (eqb-true m n here))) refl
          | inr there ↦ rw (there, ne_eqb (f m) (f n) (λ e. eqb-false m n there (apart m n k.0 has e))) (behind_is n has lines k.1)
        ]

    block_is : (n : ℕ) → HasBlock g n → block_lines other (f n) ≡ named_lines (block_lines g n)
    block_is n has = ap (behind_name (f n)) (lines_are g.blocks) ∙ behind_is n has (lines_of g.blocks) known

    -- WALKS

    onto : (to : ℕ) (next : List Line) → HasBlock g to → next ≡ block_lines g to → (named_lines next ≡ block_lines other (f to)) × Known next
    onto to next has e = (ap named_lines e ∙ sym (block_is to has), subst Known (sym e) (known_block to))

    goes_to : (line : Line) (rest next : List Line) → Known (line ∷ rest) → Goes g line rest next → Goes other (line_named line) (named_lines rest) (named_lines next) × Known next
    goes_to (Name n) rest next k e = (ap named_lines e, subst Known (sym e) k.1)
    goes_to (Do half insn) rest next k e = (ap named_lines e, subst Known (sym e) k.1)
    goes_to (Return link) rest next k e = (ap named_lines e, subst Known (sym e) k.1)
    goes_to (Enter procedure) rest next k (p, there, e) = (
      (retargeted_procedure f p, slice_get-map (retargeted_procedure f) g.procedures procedure ∙ ap (option_map (retargeted_procedure f)) there, ap named_lines e ∙ sym (inside_are p rest)),
      subst Known (sym e) (known_inside p rest k.1),
    )
    goes_to (End Fall) rest next k e = (ap named_lines e, subst Known (sym e) k.1)
    goes_to (End (Jump to)) rest next k e = onto to next (k.0 to (0, omega arith, refl)) e
    goes_to (End (Branch cond a b to)) rest next k (inl e) = let r = onto to next (k.0 to (0, omega arith, refl)) e in (inl r.0, r.1)
    goes_to (End (Branch cond a b to)) rest next k (inr e) = (inr (ap named_lines e), subst Known (sym e) k.1)
    goes_to (End (Call link to)) rest next k e = onto to next (k.0 to (0, omega arith, refl)) e
    goes_to (End (PartJump link part to)) rest next k e = onto to next (k.0 to (0, omega arith, refl)) e
    goes_to (End (Indirect link at offset)) rest next k (n, c, e) =
        let r = onto n next (target_there n c) e in
        ((f n, subst (λ ts. Contains ts (f n)) (sym (targets_are g)) (mapped_in f (code_targets g) n c), r.0), r.1)
    goes_to (End (Stop word)) rest next k e = absurd e

    pub lives_on : {r : ℕ} {lines : List Line} → IsLive g r lines → Known lines → IsLive other r (named_lines lines)
    lives_on {r} (read_here {line = line} {rest = rest} e) k = read_here {line = line_named line} {rest = named_lines rest} (reads_are line r ∙ e)
    lives_on {r} (live_behind {line = line} {rest = rest} {next = next} w goes live) k =
        let step = goes_to line rest next k goes in
        live_behind {line = line_named line} {rest = named_lines rest} {next = named_lines next} (writes_are g.procedures line r ∙ w) step.0 (lives_on live step.1)

    -- and back
    from_block : (to : ℕ) (after : List Line) → HasBlock g to → after ≡ block_lines other (f to) → after ≡ named_lines (block_lines g to)
    from_block to after has e = e ∙ block_is to has

    mapped_some : (o : Option Procedure) (q : Procedure) → option_map (retargeted_procedure f) o ≡ Some q → (p : Procedure) × (o ≡ Some p) × (retargeted_procedure f p ≡ q)
    mapped_some None q e = absurd (cc)
    mapped_some (Some p) q e = (p, refl, cc)

    goes_from : (line : Line) (rest after : List Line) → Known (line ∷ rest) → Goes other (line_named line) (named_lines rest) after → (next : List Line) × Goes g line rest next × (after ≡ named_lines next) × Known next
    goes_from (Name n) rest after k e = (rest, refl, e, k.1)
    goes_from (Do half insn) rest after k e = (rest, refl, e, k.1)
    goes_from (Return link) rest after k e = (rest, refl, e, k.1)
    goes_from (Enter procedure) rest after k (q, there, e) =
        let p = mapped_some (slice_get g.procedures procedure) q (sym (slice_get-map (retargeted_procedure f) g.procedures procedure) ∙ there) in
        (inside p.0 rest, (p.0, p.1, refl), e ∙ ap (λ (q : Procedure). inside q (named_lines rest)) (sym p.2) ∙ inside_are p.0 rest, known_inside p.0 rest k.1)
    goes_from (End Fall) rest after k e = (rest, refl, e, k.1)
    goes_from (End (Jump to)) rest after k e = (block_lines g to, refl, from_block to after (k.0 to (0, omega arith, refl)) e, known_block to)
    goes_from (End (Branch cond a b to)) rest after k (inl e) = (block_lines g to, inl refl, from_block to after (k.0 to (0, omega arith, refl)) e, known_block to)
    goes_from (End (Branch cond a b to)) rest after k (inr e) = (rest, inr refl, e, k.1)
    goes_from (End (Call link to)) rest after k e = (block_lines g to, refl, from_block to after (k.0 to (0, omega arith, refl)) e, known_block to)
    goes_from (End (PartJump link part to)) rest after k e = (block_lines g to, refl, from_block to after (k.0 to (0, omega arith, refl)) e, known_block to)
    goes_from (End (Indirect link at offset)) rest after k (n, c, e) =
        let m = mapped_from f (code_targets g) n (subst (λ ts. Contains ts n) (targets_are g) c) in
        (block_lines g m.0, (m.0, m.1, refl), from_block m.0 after (target_there m.0 m.1) (e ∙ ap (block_lines other) (sym m.2)), known_block m.0)
    goes_from (End (Stop word)) rest after k e = absurd e

    head_is : (line line' : Line) (lines lines' : List Line) → line ∷ lines ≡ line' ∷ lines' → line ≡ line'
    head_is line line' lines lines' e = cc

    tail_is : (line line' : Line) (lines lines' : List Line) → line ∷ lines ≡ line' ∷ lines' → lines ≡ lines'
    tail_is line line' lines lines' e = cc

    pub lived : {r : ℕ} {named : List Line} → IsLive other r named → (lines : List Line) → named ≡ named_lines lines → Known lines → IsLive g r lines
    lived {r} (read_here {line = first} {rest = behind} e) [] same k = absurd (cc)
    lived {r} (read_here {line = first} {rest = behind} e) (line ∷ lines) same k =
        read_here {line = line} {rest = lines} (sym (reads_are line r) ∙ ap (λ l. line_reads l r) (sym (head_is first (line_named line) behind (named_lines lines) same)) ∙ e)
    lived {r} (live_behind {line = first} {rest = behind} {next = after} w goes live) [] same k = absurd (cc)
    lived {r} (live_behind {line = first} {rest = behind} {next = after} w goes live) (line ∷ lines) same k =
        let q = head_is first (line_named line) behind (named_lines lines) same in
        let s = tail_is first (line_named line) behind (named_lines lines) same in
        let step = goes_from line lines after k (subst (λ ls. Goes other (line_named line) ls after) s (subst (λ l. Goes other l behind after) q goes)) in
        live_behind {line = line} {rest = lines} {next = step.0} (sym (writes_are g.procedures line r) ∙ ap (λ l. line_writes other.procedures l r) (sym q) ∙ w) step.1 (lived live step.0 step.2 step.3)
