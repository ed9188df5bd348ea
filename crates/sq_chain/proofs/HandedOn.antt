-- The entry, words of data and items that name a block which is empty with Fall name the next one in its place, and the canonical graph stays.
use Rattle.std.proofs.Common.{◌≡◌, ◌≢◌, ℕ, zero, suc, ◌+◌, ◌≤◌, ◌<◌, ◌==◌, Bool, true, false, if◌then◌else◌, List, [], ◌∷◌, ◌++◌, map, length, sum_by, slice_index_or, Option, None, Some, is_some, inl, inr, refl, sym, ap, ◌∙◌, subst, arith}
use Rattle.std.proofs.lemmas.Bool.{eq-eqb, ne_eqb, or_cases, or_left, or_right}
use Rattle.std.specs.Option.{option_map}
use Rattle.sq_arena.specs.Entries.{value_of, next_key}
use Rattle.sq_isa.specs.Registers.{is_among}
use Rattle.sq_graph.specs.declared.parts.CodeRef.{CodeRef}
use Rattle.sq_graph.specs.Graph.{Block, Procedure, Graph}
use Rattle.sq_graph.specs.Blocks.{named, HasBlock, block_term, next_of, all_items}
use Rattle.sq_graph.specs.Bypasses.{kept, passed, all_bypassed}
use Rattle.sq_graph.specs.Canonical.{joined, canonical_of}
use Rattle.sq_graph.specs.Leaders.{is_bare, FallsIntoLeaders}
use Rattle.sq_graph.specs.Operations.{words_with, with_word}
use Rattle.sq_graph.specs.Renames.{retargeted_block, retargeted_procedure, retargeted_words, swapped}
use Rattle.sq_graph.specs.Rules.{IsGraph}
use Rattle.sq_graph.specs.Uses.{code_word_uses, items_uses, terms_uses, uses}
use Rattle.sq_graph.specs.Words.{block_words, procedure_words}
use Rattle.sq_graph.proofs.Bypassing.{words_twice, procedures_twice}
use Rattle.sq_graph.proofs.CanonicalLaws.{canonical_is_joined, procedure_words-other}
use Rattle.sq_graph.proofs.Held.{same_graph}
use Rattle.sq_graph.proofs.Marks.{is_among-append}
use Rattle.sq_layout.specs.Weights.{address_by}
use Rattle.sq_lookup.specs.Names.{held_uses}
use Rattle.sq_lookup.specs.Counts.{count_at, times_named, AreUses, IsWorded}
use Rattle.sq_lookup.specs.declared.counts.Uses.{Uses}
use Rattle.sq_lookup.proofs.Counting.{among_uses}
use Rattle.sq_chain.specs.Bare.{IsBareAt, AreSolidBut}
use Rattle.sq_chain.specs.Moves.{fallen_blocks}
use Rattle.sq_chain.specs.Passing.{handed_block, IsHandedOn}
use Rattle.sq_chain.specs.Surveys.{IsPlaced, NoneFalls}
use Rattle.sq_chain.specs.declared.survey.Places.{Places}
use Rattle.sq_chain.proofs.Swapped.{swapped_bare, swapped_next, swap_goes}
use Rattle.sq_chain.proofs.HandedBlocks.{bare_handed, value_handed, some_handed, term_handed, slot_handed, address_handed, sum_handed, terms_handed, led_handed, falls_there, falls_back, solid_there, solid_back, passed_handed, kept_handed, blocks_through}

-- none of them
pub handed_none : (bare next : ℕ) (g : Graph) → IsHandedOn bare next g g
handed_none bare next g = record {
  blocks = refl;
  procedures = refl;
  entry = refl;
  words = refl;
  used = λ m other used. used;
}

-- more of them
pub handed_more : (bare next : ℕ) (g h k : Graph) → IsHandedOn bare next g h → IsHandedOn bare next h k → IsHandedOn bare next g k
handed_more bare next g h k first second = record {
  blocks = second.blocks ∙ first.blocks;
  procedures = second.procedures ∙ first.procedures;
  entry = second.entry ∙ first.entry;
  words = second.words ∙ first.words;
  used = λ m other used. second.used m other (first.used m other used);
}

module _ (bare next : ℕ) (g h : Graph) (on : IsHandedOn bare next g h) where
  abbrev S : Block → Block
  S b = handed_block bare next b

  -- what is the same of blocks and of these with the items swapped is the same of both graphs
  both_same : {X : Type 1} (f : List Block → X) → ((bs : List Block) → f (map S bs) ≡ f bs) → f h.blocks ≡ f g.blocks
  both_same f same = sym (same h.blocks) ∙ ap f on.blocks ∙ same g.blocks

  same_of : {X : Type 0} (f : List Block → X) → ((bs : List Block) → f (map S bs) ≡ f bs) → f h.blocks ≡ f g.blocks
  same_of f same = sym (same h.blocks) ∙ ap f on.blocks ∙ same g.blocks

  pub handed_has : (k : ℕ) → HasBlock g k → HasBlock h k
  handed_has k has = same_of (λ bs. is_some (value_of (named bs) k)) (λ bs. some_handed bare next bs k) ∙ has

  pub handed_slot : (k : ℕ) → next_of h k ≡ next_of g k
  handed_slot k = same_of (λ bs. next_key (named bs) k) (λ bs. slot_handed bare next bs k)

  pub handed_bare : (k : ℕ) → IsBareAt g k → IsBareAt h k
  handed_bare k is =
      by (value_of (named h.blocks) k) refl (sym (value_handed bare next h.blocks k) ∙ ap (λ bs. value_of (named bs) k) on.blocks ∙ value_handed bare next g.blocks k ∙ ap (option_map S) is.there)
    where
      by : (o : Option Block) → value_of (named h.blocks) k ≡ o → option_map S o ≡ Some (S is.block) → IsBareAt h k
      by None there same = absurd (cc)
      by (Some b) there same =
          let one : S b ≡ S is.block = cc in
          record { block = b; there = there; bare = sym (bare_handed bare next b) ∙ ap is_bare one ∙ bare_handed bare next is.block ∙ is.bare }

  term_same : (k : ℕ) → block_term (value_of (named h.blocks) k) ≡ block_term (value_of (named g.blocks) k)
  term_same k = same_of (λ bs. block_term (value_of (named bs) k)) (λ bs. term_handed bare next bs k)

  bodies_long : sum_by procedure_words h.procedures ≡ sum_by procedure_words g.procedures
  bodies_long =
      sym (procedure_words-other (swapped bare next) h.procedures)
      ∙ ap (sum_by procedure_words) on.procedures
      ∙ procedure_words-other (swapped bare next) g.procedures

  pub handed_placed : (places : Places) → IsPlaced g places → IsPlaced h places
  handed_placed places placed = record {
    addresses = λ n. placed.addresses n ∙ sym (same_of (λ bs. address_by block_words bs 0 n) (λ bs. address_handed bare next bs 0 n));
    words =
        placed.words
        ∙ ap (λ n. n + sum_by procedure_words g.procedures) (sym (same_of (λ bs. sum_by block_words bs) (sum_handed bare next)))
        ∙ ap (λ n. sum_by block_words h.blocks + n) (sym bodies_long);
    branches = λ n branch. placed.branches n (record { cond = branch.cond; a = branch.a; b = branch.b; to = branch.to; is = sym (term_same n) ∙ branch.is });
  }

  pub handed_falls : NoneFalls g → NoneFalls h
  handed_falls falls =
      falls_back bare next h.blocks (subst (λ (bs : List Block). fallen_blocks bs ≡ bs) (sym on.blocks) (falls_there bare next g.blocks falls))

  pub handed_solid : (may : ℕ → Bool) → AreSolidBut may g → AreSolidBut may h
  handed_solid may solid =
      solid_back bare next may h.blocks (subst (λ (bs : List Block). AreSolidBut may (record g { blocks = bs })) (sym on.blocks) (solid_there bare next may g.blocks solid))

  pub handed_led : (leads : ℕ → Bool) → FallsIntoLeaders leads g.blocks → FallsIntoLeaders leads h.blocks
  handed_led leads led = subst (λ (T : Type 0). T) (sym (both_same (FallsIntoLeaders leads) (led_handed bare next leads))) led

  -- what terms name stays
  pub handed_used : (m : ℕ) → m ≢ bare → is_among (uses g) m ≡ true → is_among (uses h) m ≡ true
  handed_used m other used =
      among_uses h m
      ∙ elim (or_cases (is_among (held_uses g) m) (is_among (terms_uses g.blocks) m) (sym (among_uses g m) ∙ used)) [
        | inl held ↦ or_left (is_among (held_uses h) m) (is_among (terms_uses h.blocks) m) (on.used m other held)
        | inr term ↦ or_right (is_among (held_uses h) m) (is_among (terms_uses h.blocks) m) (ap (λ us. is_among us m) (same_of terms_uses (terms_handed bare next)) ∙ term)
      ]

  -- where both names go to the same, so do the entry, the words of data and the items
  module _ (f : ℕ → ℕ) (same : f bare ≡ f next) where
    goes : (λ k. f (swapped bare next k)) ≡ f
    goes = swap_goes bare next f same

    entry_goes : f h.entry ≡ f g.entry
    entry_goes = sym (ap (λ to. to h.entry) goes) ∙ ap f on.entry ∙ ap (λ to. to g.entry) goes

    through : (ws : List CodeRef) → retargeted_words f (retargeted_words (swapped bare next) ws) ≡ retargeted_words f ws
    through ws = words_twice (swapped bare next) f ws ∙ ap (λ to. retargeted_words to ws) goes

    words_go : retargeted_words f h.code_words ≡ retargeted_words f g.code_words
    words_go = sym (through h.code_words) ∙ ap (retargeted_words f) on.words ∙ through g.code_words

    blocks_go : map (retargeted_block f) (kept h.blocks) ≡ map (retargeted_block f) (kept g.blocks)
    blocks_go =
        same_of (λ bs. map (retargeted_block f) (kept bs))
        (λ bs. ap (map (retargeted_block f)) (kept_handed bare next bs) ∙ blocks_through bare next f goes (kept bs))

    bodies_through : (ps : List Procedure) → map (retargeted_procedure f) (map (retargeted_procedure (swapped bare next)) ps) ≡ map (retargeted_procedure f) ps
    bodies_through ps = procedures_twice (swapped bare next) f ps ∙ ap (λ to. map (retargeted_procedure to) ps) goes

    bodies_go : map (retargeted_procedure f) h.procedures ≡ map (retargeted_procedure f) g.procedures
    bodies_go = sym (bodies_through h.procedures) ∙ ap (map (retargeted_procedure f)) on.procedures ∙ bodies_through g.procedures

  passed_same : passed h.blocks ≡ passed g.blocks
  passed_same = λ i k. same_of (λ bs. passed bs k) (λ bs. passed_handed bare next bs k) i

  pub handed_canonical : IsGraph g → IsGraph h → passed g.blocks bare ≡ passed g.blocks next → canonical_of h ≡ canonical_of g
  handed_canonical rules h_rules same =
      let f = passed g.blocks in
      canonical_is_joined h h_rules
      ∙ ap joined
      (same_graph (all_bypassed h) (all_bypassed g)
      (ap (λ to. map (retargeted_block to) (kept h.blocks)) passed_same ∙ blocks_go f same)
      (ap (λ to. to h.entry) passed_same ∙ entry_goes f same)
      (ap (λ to. retargeted_words to h.code_words) passed_same ∙ words_go f same)
      (ap (λ to. map (retargeted_procedure to) h.procedures) passed_same ∙ bodies_go f same))
      ∙ sym (canonical_is_joined g rules)

-- ONE WORD

module _ (bare next : ℕ) (other : CodeRef) where
  -- one use less of the one, and one more of the other
  times_with : (ws : List CodeRef) (at k : ℕ) → at < length ws → (slice_index_or ws at other).block ≡ bare → (if bare == k then 1 else 0) + times_named (code_word_uses (words_with ws at next)) k ≡ (if next == k then 1 else 0) + times_named (code_word_uses ws) k
  times_with [] at k within is = absurd (omega (arith, within))
  times_with (w ∷ ws) zero k within is =
      let own : ◌≡◌ {A = ℕ} (if w.block == k then 1 else 0) (if bare == k then 1 else 0) = ap (λ n. if n == k then 1 else 0) is in
      omega (arith, own)
  times_with (w ∷ ws) (suc at) k within is = omega (arith, times_with ws at k (omega (arith, within)) is)

  same_with : (ws : List CodeRef) (at : ℕ) → (slice_index_or ws at other).block ≡ bare → retargeted_words (swapped bare next) (words_with ws at next) ≡ retargeted_words (swapped bare next) ws
  same_with [] at is = refl
  same_with (w ∷ ws) zero is =
      ap (λ n. record w { block = n } ∷ retargeted_words (swapped bare next) ws)
      (swapped_next bare next ∙ sym (swapped_bare bare next w.block is))
  same_with (w ∷ ws) (suc at) is = ap (λ us. record w { block = swapped bare next w.block } ∷ us) (same_with ws at is)

  used_with : (ws : List CodeRef) (at m : ℕ) → (slice_index_or ws at other).block ≡ bare → m ≢ bare → is_among (code_word_uses ws) m ≡ true → is_among (code_word_uses (words_with ws at next)) m ≡ true
  used_with [] at m is apart used = used
  used_with (w ∷ ws) zero m is apart used =
      let away : (w.block == m) ≡ false = ne_eqb w.block m (λ same. apart (sym same ∙ is)) in
      or_right (next == m) (is_among (code_word_uses ws) m) (rw away at used)
  used_with (w ∷ ws) (suc at) m is apart used =
      elim (or_cases (w.block == m) (is_among (code_word_uses ws) m) used) [
        | inl here ↦ or_left (w.block == m) (is_among (code_word_uses (words_with ws at next)) m) here
        | inr behind ↦ or_right (w.block == m) (is_among (code_word_uses (words_with ws at next)) m) (used_with ws at m is apart behind)
      ]

module _ (g : Graph) (at bare next : ℕ) (other : CodeRef) (within : at < length g.code_words) (is : (slice_index_or g.code_words at other).block ≡ bare) where
  pub word_handed : IsHandedOn bare next g (with_word g at next)
  word_handed = record {
    blocks = refl;
    procedures = refl;
    entry = refl;
    words = same_with bare next other g.code_words at is;
    used = λ m apart used.
        let items = is_among (items_uses (all_items g)) m in
        let words = is_among (code_word_uses (words_with g.code_words at next)) m in
        let rest = is_among (code_word_uses (words_with g.code_words at next) ++ items_uses (all_items g)) m in
        elim (or_cases (g.entry == m) (is_among (code_word_uses g.code_words ++ items_uses (all_items g)) m) used) [
          | inl here ↦ or_left (g.entry == m) rest here
          | inr behind ↦
              or_right (g.entry == m) rest
              (is_among-append (code_word_uses (words_with g.code_words at next)) (items_uses (all_items g)) m
              ∙ elim (or_cases (is_among (code_word_uses g.code_words) m) items (sym (is_among-append (code_word_uses g.code_words) (items_uses (all_items g)) m) ∙ behind)) [
                | inl word ↦ or_left words items (used_with bare next other g.code_words at m is apart word)
                | inr item ↦ or_right words items item
              ])
        ];
  }

  module _ (old more : Uses) (are : AreUses g old) (counted : IsWorded next old more) where
    pub word_counted : 1 ≤ count_at more.words.items bare
    word_counted =
        let own : ◌≡◌ {A = ℕ} (if bare == bare then 1 else 0) 1 = ap (λ t. if t then 1 else 0) (eq-eqb bare bare refl) in
        omega (arith, counted.words bare, are.words bare, times_with bare next other g.code_words at bare within is, own)

    pub word_uses_are : (they : Uses) → IsWorded bare they more → AreUses (with_word g at next) they
    word_uses_are they less = record {
      items = λ k. ap (λ is. count_at is.items k) (sym less.items ∙ counted.items) ∙ are.items k;
      words = λ k. omega (arith, less.words k, counted.words k, are.words k, times_with bare next other g.code_words at k within is);
      terms = λ k. ap (λ ts. count_at ts.items k) (sym less.terms ∙ counted.terms) ∙ are.terms k;
    }
