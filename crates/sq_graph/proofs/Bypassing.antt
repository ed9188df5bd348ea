-- Bypassing each block that is empty with Fall, one after another, makes one fixed change.
use Rattle.std.proofs.Common.{◌≡◌, ℕ, true, false, List, [], ◌∷◌, ◌++◌, map, None, Some, refl, sym, ap, ◌∙◌, inl, inr, subst, arith, append_assoc, ◌==◌}
use Rattle.std.proofs.lemmas.Bool.{cases_Bool, eq-eqb, eqb-false, ne_eqb, and_parts}
use Rattle.std.proofs.lemmas.List.{map-append, append-nil}
use Rattle.sq_arena.specs.Entries.{HasDistinctKeys, value_of, first_key, behind}
use Rattle.sq_arena.proofs.Paths.{times-places-append}
use Rattle.sq_arena.proofs.EntriesLaws.{distinct_keys, times_at_most_once, absent_ahead, behind-append}
use Rattle.sq_graph.specs.declared.item.Item.{Item}
use Rattle.sq_graph.specs.declared.item.Item.TheVariants.{Op, Hi, Lo, Out}
use Rattle.sq_graph.specs.declared.item.Term.{Term}
use Rattle.sq_graph.specs.declared.item.Term.TheVariants.{Fall, Jump, Branch, Call, PartJump, Indirect, Stop}
use Rattle.sq_graph.specs.declared.parts.CodeRef.{CodeRef}
use Rattle.sq_graph.specs.Graph.{Block, Procedure, Graph}
use Rattle.sq_graph.specs.Terms.{goes_on}
use Rattle.sq_graph.specs.Blocks.{named, next_of}
use Rattle.sq_graph.specs.Rules.{IsGraph, last_goes_on}
use Rattle.sq_graph.specs.Renames.{retargeted_items, retargeted_term, retargeted_block, retargeted_procedure, retargeted_words, retargeted, swapped}
use Rattle.sq_graph.specs.Operations.{with_blocks, redirected, without_block}
use Rattle.sq_graph.specs.Leaders.{is_fall, has_no_items, is_bare}
use Rattle.sq_graph.specs.Canonical.{bypassed_to, bypassed, bypassed_each}
use Rattle.sq_graph.specs.Bypasses.{kept, passed, all_bypassed}
use Rattle.sq_graph.proofs.Located.{IsAt, named-append}
use Rattle.sq_graph.proofs.Changes.{with_blocks-at}
use Rattle.sq_graph.proofs.Held.{same_graph}

module _ (f h : ℕ → ℕ) where
  pub items_twice : (is : List Item) → retargeted_items h (retargeted_items f is) ≡ retargeted_items (λ n. h (f n)) is
  items_twice [] = refl
  items_twice (Op insn ∷ is) = ap (λ js. Op insn ∷ js) (items_twice is)
  items_twice (Hi rd to ∷ is) = ap (λ js. Hi rd (h (f to)) ∷ js) (items_twice is)
  items_twice (Lo rd rs to ∷ is) = ap (λ js. Lo rd rs (h (f to)) ∷ js) (items_twice is)
  items_twice (Out p ∷ is) = ap (λ js. Out p ∷ js) (items_twice is)

  pub term_twice : (t : Term) → retargeted_term h (retargeted_term f t) ≡ retargeted_term (λ n. h (f n)) t
  term_twice Fall = refl
  term_twice (Jump to) = refl
  term_twice (Branch c a b to) = refl
  term_twice (Call link to) = refl
  term_twice (PartJump link part to) = refl
  term_twice (Indirect link at offset) = refl
  term_twice (Stop word) = refl

  block_twice : (b : Block) → retargeted_block h (retargeted_block f b) ≡ retargeted_block (λ n. h (f n)) b
  block_twice b =
      ap (λ is. record { name = b.name; items = is; term = retargeted_term h (retargeted_term f b.term) }) (items_twice b.items)
      ∙ ap (λ t. record { name = b.name; items = retargeted_items (λ n. h (f n)) b.items; term = t }) (term_twice b.term)

  pub blocks_twice : (bs : List Block) → map (retargeted_block h) (map (retargeted_block f) bs) ≡ map (retargeted_block (λ n. h (f n))) bs
  blocks_twice [] = refl
  blocks_twice (b ∷ bs) =
      ap (λ c. c ∷ map (retargeted_block h) (map (retargeted_block f) bs)) (block_twice b)
      ∙ ap (λ cs. retargeted_block (λ n. h (f n)) b ∷ cs) (blocks_twice bs)

  pub words_twice : (ws : List CodeRef) → retargeted_words h (retargeted_words f ws) ≡ retargeted_words (λ n. h (f n)) ws
  words_twice [] = refl
  words_twice (w ∷ ws) = ap (λ us. record w { block = h (f w.block) } ∷ us) (words_twice ws)

  pub procedures_twice : (ps : List Procedure) → map (retargeted_procedure h) (map (retargeted_procedure f) ps) ≡ map (retargeted_procedure (λ n. h (f n))) ps
  procedures_twice [] = refl
  procedures_twice (p ∷ ps) =
      ap (λ is. record { link = p.link; body = is } ∷ map (retargeted_procedure h) (map (retargeted_procedure f) ps)) (items_twice p.body)
      ∙ ap (λ qs. retargeted_procedure (λ n. h (f n)) p ∷ qs) (procedures_twice ps)

  -- other names twice are other names once
  pub retargeted_twice : (g : Graph) → retargeted h (retargeted f g) ≡ retargeted (λ n. h (f n)) g
  retargeted_twice g =
      same_graph (retargeted h (retargeted f g)) (retargeted (λ n. h (f n)) g) (blocks_twice g.blocks) refl (words_twice g.code_words) (procedures_twice g.procedures)

no_items-other : (f : ℕ → ℕ) (is : List Item) → has_no_items (retargeted_items f is) ≡ has_no_items is
no_items-other f [] = refl
no_items-other f (item ∷ is) = refl

pub is_fall-other : (f : ℕ → ℕ) (t : Term) → is_fall (retargeted_term f t) ≡ is_fall t
is_fall-other f Fall = refl
is_fall-other f (Jump to) = refl
is_fall-other f (Branch c a b to) = refl
is_fall-other f (Call link to) = refl
is_fall-other f (PartJump link part to) = refl
is_fall-other f (Indirect link at offset) = refl
is_fall-other f (Stop word) = refl

pub is_bare-other : (f : ℕ → ℕ) (b : Block) → is_bare (retargeted_block f b) ≡ is_bare b
is_bare-other f b = rw (no_items-other f b.items, is_fall-other f b.term)

pub absent-other : (f : ℕ → ℕ) (bs : List Block) (name : ℕ) → value_of (named bs) name ≡ None → value_of (named (map (retargeted_block f) bs)) name ≡ None
absent-other f [] name none = refl
absent-other f (b ∷ bs) name none =
    elim (cases_Bool (b.name == name)) [
      | inl here ↦ absurd (cc (rw here at none))
      | inr apart ↦ rw apart (absent-other f bs name (rw apart at none))
    ]

-- a term that falls goes on
pub falls_on : (t : Term) → is_fall t ≡ true → goes_on t ≡ true
falls_on Fall fall = refl
falls_on (Jump to) fall = absurd (cc)
falls_on (Branch c a b to) fall = absurd (cc)
falls_on (Call link to) fall = absurd (cc)
falls_on (PartJump link part to) fall = absurd (cc)
falls_on (Indirect link at offset) fall = absurd (cc)
falls_on (Stop word) fall = absurd (cc)

pub bare_falls : (b : Block) → is_bare b ≡ true → is_fall b.term ≡ true
bare_falls b bare = (and_parts (has_no_items b.items) (is_fall b.term) bare).1

no_items : (is : List Item) → has_no_items is ≡ true → is ≡ []
no_items [] none = refl
no_items (item ∷ is) none = absurd (cc)

pub bare_items : (b : Block) → is_bare b ≡ true → b.items ≡ []
bare_items b bare = no_items b.items (and_parts (has_no_items b.items) (is_fall b.term) bare).0

pub ends_tail : (b : Block) (rest : List Block) → last_goes_on (b ∷ rest) ≡ false → last_goes_on rest ≡ false
ends_tail b [] ends = refl
ends_tail b (next ∷ rest) ends = ends

-- one bypass, where others went before it
one_bypassed : (g : Graph) (f : ℕ → ℕ) (front : List Block) (b next : Block) (rest : List Block) → value_of (named front) b.name ≡ None → bypassed (retargeted f (record g { blocks = front ++ b ∷ next ∷ rest })) b.name ≡ retargeted (λ n. swapped b.name next.name (f n)) (record g { blocks = front ++ next ∷ rest })
one_bypassed g f front b next rest ahead =
    let old : Graph = retargeted f (record g { blocks = front ++ b ∷ next ∷ rest }) in
    let to = λ (n : ℕ). swapped b.name next.name n in
    let rename = λ (bs : List Block). map (retargeted_block f) bs in
    let whole : old.blocks ≡ rename front ++ retargeted_block f b ∷ rename (next ∷ rest) = map-append (retargeted_block f) front (b ∷ next ∷ rest) in
    let behind_it : next_of old b.name ≡ Some next.name =
    ap (λ bs. first_key (behind (named bs) b.name)) whole
    ∙ ap (λ es. first_key (behind es b.name)) (named-append (rename front) (retargeted_block f b ∷ rename (next ∷ rest)))
    ∙ ap first_key (behind-append (named (rename front)) (named (rename (next ∷ rest))) b.name (retargeted_block f b) (absent-other f front b.name ahead)) in
    let twice : (redirected old b.name next.name).blocks ≡ map (retargeted_block (λ n. to (f n))) (front ++ b ∷ next ∷ rest) = blocks_twice f to (front ++ b ∷ next ∷ rest) in
    let fused = λ (bs : List Block). map (retargeted_block (λ n. to (f n))) bs in
    let at : IsAt (redirected old b.name next.name).blocks b.name = record {
      front = fused front;
      block = retargeted_block (λ n. to (f n)) b;
      back = fused (next ∷ rest);
      whole = twice ∙ map-append (retargeted_block (λ n. to (f n))) front (b ∷ next ∷ rest);
      has_name = refl;
      ahead = absent-other (λ n. to (f n)) front b.name ahead;
    } in
    let without : with_blocks (λ _. []) (redirected old b.name next.name).blocks b.name ≡ fused (front ++ next ∷ rest) =
    with_blocks-at (λ _. []) (redirected old b.name next.name).blocks b.name at ∙ sym (map-append (retargeted_block (λ n. to (f n))) front (next ∷ rest)) in
    let parts = retargeted_twice f to (record g { blocks = [] }) in
    ap (bypassed_to old b.name) behind_it
    ∙ same_graph (without_block (redirected old b.name next.name) b.name) (retargeted (λ n. to (f n)) (record g { blocks = front ++ next ∷ rest }))
    without refl (ap (λ k. k.code_words) parts) (ap (λ k. k.procedures) parts)

pub distinct_without : {T : Type 0} (front back : List (ℕ × T)) (e : ℕ × T) → HasDistinctKeys (front ++ e ∷ back) → HasDistinctKeys (front ++ back)
distinct_without front back e distinct =
    distinct_keys (front ++ back) (λ p. omega (arith, times_at_most_once (front ++ e ∷ back) distinct p, times-places-append p front (e ∷ back), times-places-append p front back))

-- the rest is bypassed where the blocks ahead of it are done, and have given these names away
bypassed_from : (g : Graph) (f : ℕ → ℕ) (front rest : List Block) → HasDistinctKeys (named (front ++ rest)) → last_goes_on rest ≡ false → bypassed_each rest (retargeted f (record g { blocks = front ++ rest })) ≡ retargeted (λ n. passed rest (f n)) (record g { blocks = front ++ kept rest })
bypassed_from g f front [] distinct ends = refl
bypassed_from g f front (b ∷ []) distinct ends =
    elim (cases_Bool (is_bare b)) [
      | inl bare ↦ absurd (cc (falls_on b.term (bare_falls b bare), ends))
      | inr solid ↦ rw solid refl
    ]
bypassed_from g f front (b ∷ next ∷ rest) distinct ends =
    elim (cases_Bool (is_bare b)) [
      | inl bare ↦
          let apart = subst HasDistinctKeys (named-append front (b ∷ next ∷ rest)) distinct in
          let ahead = absent_ahead (named front) (named (next ∷ rest)) b.name b apart in
          let gone = subst HasDistinctKeys (sym (named-append front (next ∷ rest))) (distinct_without (named front) (named (next ∷ rest)) (b.name, b) apart) in
          rw bare
          (ap (bypassed_each (next ∷ rest)) (one_bypassed g f front b next rest ahead)
          ∙ bypassed_from g (λ n. swapped b.name next.name (f n)) front (next ∷ rest) gone ends)
      | inr solid ↦
          let whole = append_assoc front (b ∷ []) (next ∷ rest) in
          rw solid
          (ap (λ bs. bypassed_each (next ∷ rest) (retargeted f (record g { blocks = bs }))) (sym whole)
          ∙ bypassed_from g f (front ++ b ∷ []) (next ∷ rest) (subst (λ bs. HasDistinctKeys (named bs)) (sym whole) distinct) ends
          ∙ ap (λ bs. retargeted (λ n. passed (next ∷ rest) (f n)) (record g { blocks = bs })) (append_assoc front (b ∷ []) (kept (next ∷ rest))))
    ]

pub items_same : (is : List Item) → retargeted_items (λ n. n) is ≡ is
items_same [] = refl
items_same (Op insn ∷ is) = ap (λ js. Op insn ∷ js) (items_same is)
items_same (Hi rd to ∷ is) = ap (λ js. Hi rd to ∷ js) (items_same is)
items_same (Lo rd rs to ∷ is) = ap (λ js. Lo rd rs to ∷ js) (items_same is)
items_same (Out p ∷ is) = ap (λ js. Out p ∷ js) (items_same is)

pub term_same : (t : Term) → retargeted_term (λ n. n) t ≡ t
term_same Fall = refl
term_same (Jump to) = refl
term_same (Branch c a b to) = refl
term_same (Call link to) = refl
term_same (PartJump link part to) = refl
term_same (Indirect link at offset) = refl
term_same (Stop word) = refl

blocks_same : (bs : List Block) → map (retargeted_block (λ n. n)) bs ≡ bs
blocks_same [] = refl
blocks_same (b ∷ bs) =
    ap (λ is. record { name = b.name; items = is; term = retargeted_term (λ n. n) b.term } ∷ map (retargeted_block (λ n. n)) bs) (items_same b.items)
    ∙ ap (λ t. record b { term = t } ∷ map (retargeted_block (λ n. n)) bs) (term_same b.term)
    ∙ ap (λ cs. b ∷ cs) (blocks_same bs)

pub words_same : (ws : List CodeRef) → retargeted_words (λ n. n) ws ≡ ws
words_same [] = refl
words_same (w ∷ ws) = ap (λ us. w ∷ us) (words_same ws)

procedures_same : (ps : List Procedure) → map (retargeted_procedure (λ n. n)) ps ≡ ps
procedures_same [] = refl
procedures_same (p ∷ ps) =
    ap (λ is. record { link = p.link; body = is } ∷ map (retargeted_procedure (λ n. n)) ps) (items_same p.body)
    ∙ ap (λ qs. p ∷ qs) (procedures_same ps)

-- the same names again are the same graph
pub retargeted_same : (g : Graph) → retargeted (λ n. n) g ≡ g
retargeted_same g = same_graph (retargeted (λ n. n) g) g (blocks_same g.blocks) refl (words_same g.code_words) (procedures_same g.procedures)

pub bypassed_each_is_one : (g : Graph) → IsGraph g → bypassed_each g.blocks g ≡ all_bypassed g
bypassed_each_is_one g rules =
    ap (bypassed_each g.blocks) (sym (retargeted_same g)) ∙ bypassed_from g (λ n. n) [] g.blocks rules.distinct rules.ends

-- from the last block to the first: another block's name stays for the blocks behind
pub passed-other : (b : Block) (rest : List Block) (name : ℕ) → (b.name == name) ≡ false → passed (b ∷ rest) name ≡ passed rest name
passed-other b rest name apart =
    let other : (name == b.name) ≡ false = ne_eqb name b.name (λ same. eqb-false b.name name apart (sym same)) in
    elim (cases_Bool (is_bare b)) [ inl bare ↦ rw (bare, other) refl | inr solid ↦ rw solid refl ]

-- the name of a block that is empty with Fall goes where the next one's goes
pub passed-bare : (b next : Block) (rest : List Block) → is_bare b ≡ true → passed (b ∷ next ∷ rest) b.name ≡ passed (next ∷ rest) next.name
passed-bare b next rest bare = rw (bare, eq-eqb b.name b.name refl) refl

pub passed-behind : (front rest : List Block) (name : ℕ) → value_of (named front) name ≡ None → passed (front ++ rest) name ≡ passed rest name
passed-behind [] rest name none = refl
passed-behind (b ∷ front) rest name none =
    elim (cases_Bool (b.name == name)) [
      | inl here ↦ absurd (cc (rw here at none))
      | inr apart ↦ passed-other b (front ++ rest) name apart ∙ passed-behind front rest name (rw apart at none)
    ]

pub passed-absent : (bs : List Block) (name : ℕ) → value_of (named bs) name ≡ None → passed bs name ≡ name
passed-absent bs name none = ap (λ cs. passed cs name) (sym (append-nil bs)) ∙ passed-behind bs [] name none

-- the name of every other block stays
pub passed-kept : (b : Block) (rest : List Block) → is_bare b ≡ false → value_of (named rest) b.name ≡ None → passed (b ∷ rest) b.name ≡ b.name
passed-kept b rest solid none = rw solid (passed-absent rest b.name none)
