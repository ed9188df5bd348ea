-- Cutting the text of the file of a graph gives the blocks of the graph back.
use Rattle.std.proofs.Common.{◌≡◌, ℕ, suc, ◌+◌, ◌*◌, ◌<◌, Bool, true, false, ◌⊎◌, inl, inr, List, [], ◌∷◌, ◌++◌, length, map, sum_by, refl, sym, ap, subst, ◌∙◌, arith}
use Rattle.std.specs.List.{flat_map}
use Rattle.std.proofs.lemmas.Bool.{cases_Bool}
use Rattle.std.proofs.lemmas.List.Sums.{sum_by-cons}
use Rattle.sq_graph.specs.declared.item.Item.{Item}
use Rattle.sq_graph.specs.declared.item.Term.{Term}
use Rattle.sq_graph.specs.declared.item.Term.TheVariants.{Fall, Jump, Branch, Call, PartJump, Indirect, Stop}
use Rattle.sq_graph.specs.Graph.{Block, Graph}
use Rattle.sq_graph.specs.Leaders.{is_fall, is_bare}
use Rattle.sq_graph.specs.Renames.{retargeted_item, retargeted_term, renamed_block}
use Rattle.sq_graph.specs.Words.{term_words, block_words}
use Rattle.sq_graph.proofs.Kept.{fall_words}
use Rattle.law_program.specs.Lifted.{Form, Rest, between, with_form, begun_if}
use Rattle.sq_write.specs.Points.{new_address}
use Rattle.law_written.proofs.BlockPlaces.{IsFull, AreAt}
use Rattle.law_written.proofs.Forms.{forms_cut, item_form, term_forms, block_forms}
use Rattle.law_written.proofs.TextLeaders.{one_word, three_parts}

abbrev made : List Item → Term → List Block → Rest
made items term blocks = record { items = items; term = term; blocks = blocks }

-- words of which none is kept
pub none_cut : (keeps leads : ℕ → Bool) (forms : List Form) (at : ℕ) → ((k : ℕ) → k < length forms → keeps (at + 4 * k) ≡ false) → forms_cut keeps leads at forms ≡ between []
none_cut keeps leads [] at dropped = refl
none_cut keeps leads (form ∷ forms) at dropped =
    let none : at ≡ at + 4 * 0 = omega arith in
    let here : keeps at ≡ false = ap keeps none ∙ dropped 0 (omega arith) in
    rw here (none_cut keeps leads forms (at + 4) (λ k less. let next : at + 4 + 4 * k ≡ at + 4 * suc k = omega arith in ap keeps next ∙ dropped (suc k) (omega arith)))

module _ (g : Graph) (lo : ℕ) (keeps leads : ℕ → Bool) where
  -- these words are kept, and none of them begins a block
  abbrev AreInner : ℕ → ℕ → Type 0
  AreInner at n = (k : ℕ) → k < n → (keeps (at + 4 * k) ≡ true) × (leads (at + 4 * k) ≡ false)

  first_inner : (at n : ℕ) → 0 < n → AreInner at n → (keeps at ≡ true) × (leads at ≡ false)
  first_inner at n some inner = let none : at ≡ at + 4 * 0 = omega arith in let here = inner 0 some in (ap keeps none ∙ here.0, ap leads none ∙ here.1)

  rest_inner : (at n all : ℕ) → all ≡ suc n → AreInner at all → AreInner (at + 4) n
  rest_inner at n all one inner k less =
      let next : at + 4 + 4 * k ≡ at + 4 * suc k = omega arith in
      let there = inner (suc k) (omega (arith, less, one)) in
      (ap keeps next ∙ there.0, ap leads next ∙ there.1)

  -- what is left of a block from its term on, and from some item on
  term_cut : (term : Term) (at : ℕ) (rest : List Form) (blocks : List Block) → AreInner at (term_words term) → forms_cut keeps leads (at + 4 * term_words term) rest ≡ between blocks → forms_cut keeps leads at (term_forms g lo term ++ rest) ≡ made [] (retargeted_term (new_address g lo) term) blocks
  term_cut term at rest blocks inner behind = by_fall (cases_Bool (is_fall term))
    where
      fall_is : (t : Term) → is_fall t ≡ true → Fall ≡ retargeted_term (new_address g lo) t
      fall_is Fall e = refl
      fall_is (Jump to) e = absurd (cc)
      fall_is (Branch c a b to) e = absurd (cc)
      fall_is (Call link to) e = absurd (cc)
      fall_is (PartJump link part to) e = absurd (cc)
      fall_is (Indirect link register offset) e = absurd (cc)
      fall_is (Stop word) e = absurd (cc)

      by_fall : (is_fall term ≡ true) ⊎ (is_fall term ≡ false) → forms_cut keeps leads at (term_forms g lo term ++ rest) ≡ made [] (retargeted_term (new_address g lo) term) blocks
      by_fall (inl fall) =
          let none : at ≡ at + 4 * term_words term = omega (arith, fall_words term fall) in
          rw fall (ap (λ a. forms_cut keeps leads a rest) none ∙ behind ∙ ap (λ t. made [] t blocks) (fall_is term fall))
      by_fall (inr other) =
          let one = one_word term other in
          let here = first_inner at (term_words term) (omega (arith, one)) inner in
          let next : at + 4 ≡ at + 4 * term_words term = omega (arith, one) in
          rw (other, here.0, here.1) (ap (λ (r : Rest). made [] (retargeted_term (new_address g lo) term) r.blocks) (ap (λ a. forms_cut keeps leads a rest) next ∙ behind))

  items_cut : (items : List Item) (term : Term) (at : ℕ) (rest : List Form) (blocks : List Block) → AreInner at (length items + term_words term) → forms_cut keeps leads (at + 4 * (length items + term_words term)) rest ≡ between blocks → forms_cut keeps leads at (map (item_form g lo) items ++ (term_forms g lo term ++ rest)) ≡ made (map (retargeted_item (new_address g lo)) items) (retargeted_term (new_address g lo) term) blocks
  items_cut [] term at rest blocks inner behind =
      let none : 0 + term_words term ≡ term_words term = omega arith in
      term_cut term at rest blocks (subst (AreInner at) none inner) (subst (λ n. forms_cut keeps leads (at + 4 * n) rest ≡ between blocks) none behind)
  items_cut (item ∷ items) term at rest blocks inner behind =
      let here = first_inner at (suc (length items) + term_words term) (omega arith) inner in
      let next : at + 4 + 4 * (length items + term_words term) ≡ at + 4 * (suc (length items) + term_words term) = omega arith in
      let more = items_cut items term (at + 4) rest blocks (rest_inner at (length items + term_words term) (suc (length items) + term_words term) (omega arith) inner) (ap (λ a. forms_cut keeps leads a rest) next ∙ behind) in
      rw (here.0, here.1) (ap (with_form (item_form g lo item)) more)

  -- a block's first word begins it, and no other does
  pub record IsCut (at : ℕ) (b : Block) : Type 0 where
    pub full : IsFull b
    pub kept : keeps at ≡ true
    pub begins : leads at ≡ true
    pub inner : (k : ℕ) → 0 < k → k < block_words b → (keeps (at + 4 * k) ≡ true) × (leads (at + 4 * k) ≡ false)

  abbrev new_block : ℕ → List Item → Term → Block
  new_block name items term = record { name = name; items = map (retargeted_item (new_address g lo)) items; term = retargeted_term (new_address g lo) term }

  block_cut : (b : Block) (at : ℕ) (rest : List Form) (blocks : List Block) → IsCut at b → forms_cut keeps leads (at + 4 * block_words b) rest ≡ between blocks → forms_cut keeps leads at (map (item_form g lo) b.items ++ (term_forms g lo b.term ++ rest)) ≡ between (new_block at b.items b.term ∷ blocks)
  block_cut b at rest blocks is behind = go b.items b.term is.full is.inner behind
    where
      go : (items : List Item) (term : Term) → is_bare (record { name = b.name; items = items; term = term }) ≡ false → ((k : ℕ) → 0 < k → k < length items + term_words term → (keeps (at + 4 * k) ≡ true) × (leads (at + 4 * k) ≡ false)) → forms_cut keeps leads (at + 4 * (length items + term_words term)) rest ≡ between blocks → forms_cut keeps leads at (map (item_form g lo) items ++ (term_forms g lo term ++ rest)) ≡ between (new_block at items term ∷ blocks)
      go [] term full inner behind =
          let next : at + 4 ≡ at + 4 * (0 + term_words term) = omega (arith, one_word term full) in
          rw (full, is.kept, is.begins) (ap (λ (r : Rest). between (new_block at [] term ∷ r.blocks)) (ap (λ a. forms_cut keeps leads a rest) next ∙ behind))
      go (item ∷ items) term full inner behind =
          let next : at + 4 + 4 * (length items + term_words term) ≡ at + 4 * (suc (length items) + term_words term) = omega arith in
          let tail : AreInner (at + 4) (length items + term_words term) = λ k less.
          let further : at + 4 + 4 * k ≡ at + 4 * suc k = omega arith in
          let there = inner (suc k) (omega arith) (omega (arith, less)) in
          (ap keeps further ∙ there.0, ap leads further ∙ there.1)
          in
          let more = items_cut items term (at + 4) rest blocks tail (ap (λ a. forms_cut keeps leads a rest) next ∙ behind) in
          rw (is.kept, is.begins) (ap (λ r. begun_if true at (with_form (item_form g lo item) r)) more)

  -- blocks that stand one behind another
  abbrev pub AreCut : ℕ → List Block → Type 0
  AreCut at [] = Unit {0}
  AreCut at (b ∷ bs) = IsCut at b × AreCut (at + 4 * block_words b) bs

  pub blocks_cut : (bs : List Block) (at : ℕ) (rest : List Form) → AreAt (new_address g lo) at bs → AreCut at bs → forms_cut keeps leads (at + 4 * sum_by block_words bs) rest ≡ between [] → forms_cut keeps leads at (flat_map (block_forms g lo) bs ++ rest) ≡ between (map (renamed_block (new_address g lo)) bs)
  blocks_cut [] at rest places all behind = let none : at ≡ at + 4 * 0 = omega arith in ap (λ a. forms_cut keeps leads a rest) none ∙ behind
  blocks_cut (b ∷ bs) at rest places all behind =
      let end : at + 4 * block_words b + 4 * sum_by block_words bs ≡ at + 4 * sum_by block_words (b ∷ bs) = omega (arith, sum_by-cons block_words b bs) in
      let more = blocks_cut bs (at + 4 * block_words b) rest places.1 all.1 (ap (λ a. forms_cut keeps leads a rest) end ∙ behind) in
      ap (forms_cut keeps leads at) (three_parts (map (item_form g lo) b.items) (term_forms g lo b.term) (flat_map (block_forms g lo) bs) rest)
      ∙ block_cut b at (flat_map (block_forms g lo) bs ++ rest) (map (renamed_block (new_address g lo)) bs) all.0 more
      ∙ ap (λ name. between (new_block name b.items b.term ∷ map (renamed_block (new_address g lo)) bs)) (sym places.0)
