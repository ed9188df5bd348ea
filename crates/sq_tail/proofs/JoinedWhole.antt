-- Where the ends of two blocks are joined: which names the graph uses then, and what makes it canonical.
use Rattle.std.proofs.Common.{◌≡◌, ◌≢◌, ℕ, ◌+◌, ◌-◌, ◌<◌, ◌≤◌, ◌==◌, false, ◌||◌, if◌then◌else◌, List, [], ◌∷◌, ◌++◌, take, drop, length, Option, None, Some, IsSome, option_to_list, inl, inr, refl, sym, ap, ◌∙◌, subst, take-append-drop, arith}
use Rattle.std.specs.List.{All}
use Rattle.std.proofs.lemmas.Bool.{cases_Bool, eqb-true, eqb-false, or_left, eq-eqb}
use Rattle.std.proofs.lemmas.List.{length-drop, take_all}
use Rattle.std.proofs.lemmas.List.Concat.{flat_map-append}
use Rattle.sq_isa.specs.Registers.{is_among}
use Rattle.sq_graph.specs.declared.item.Item.{Item}
use Rattle.sq_graph.specs.declared.item.Item.TheVariants.{Op, Hi, Lo, Out}
use Rattle.sq_graph.specs.declared.item.Term.{Term}
use Rattle.sq_graph.specs.declared.item.Term.TheVariants.{Jump}
use Rattle.sq_graph.specs.Graph.{Block, Graph}
use Rattle.sq_graph.specs.Blocks.{all_items, HasBlock, block_items, block_term, items_of, term_of}
use Rattle.sq_graph.specs.Canonical.{canonical_of}
use Rattle.sq_graph.specs.Leaders.{is_bare, FallsIntoLeaders, IsCanonical}
use Rattle.sq_graph.specs.Matches.{IsSameForm, AreSameForms}
use Rattle.sq_graph.specs.Operations.{split_at}
use Rattle.sq_graph.specs.Rules.{IsGraph}
use Rattle.sq_graph.specs.Uses.{item_uses, items_uses, terms_uses, uses}
use Rattle.sq_graph.proofs.BlockPasses.{falls_used}
use Rattle.sq_graph.proofs.JoinedBefore.{joined_before_each, canonical_before}
use Rattle.sq_lookup.specs.Counts.{count_at, times_named, word_uses, AreTaken, AreUses, IsCounted}
use Rattle.sq_lookup.specs.declared.counts.Uses.{Uses}
use Rattle.sq_lookup.proofs.Counting.{times-append, times_own}
use Rattle.law_patch.specs.Merges.{merged, tailed}
use Rattle.sq_tail.specs.Admitted.{CanJoin}
use Rattle.sq_tail.specs.Candidates.{IsCandidate}
use Rattle.sq_tail.specs.Ends.{last_items}
use Rattle.sq_tail.specs.Names.{end_uses}
use Rattle.sq_tail.specs.Tails.{tail_cut, IsJoined}
use Rattle.sq_tail.proofs.Admitting.{joinable, one_pair}
use Rattle.sq_tail.proofs.Applying.{body_ends}
use Rattle.sq_tail.proofs.Merging.{merged_term}
use Rattle.sq_tail.proofs.Naming.{apart_from_new}
use Rattle.sq_tail.proofs.Splitting.{second_items, other_block}
use Rattle.sq_tail.proofs.Sweeping.{pair_there}
use Rattle.sq_tail.proofs.Uses.{In, falls_more, CanEnd, ended_items, ended_terms, ended_solid, ended_falls}
use Rattle.sq_tail.proofs.Halved.{terms_same, item_uses_same, split_falls, split_solid}

-- THE NAMES OF EQUAL ENDS

form_uses : (item other : Item) → IsSameForm item other → item_uses item ≡ item_uses other
form_uses (Op insn) (Op other) same = refl
form_uses (Op insn) (Hi rd to) same = absurd same
form_uses (Op insn) (Lo rd rs to) same = absurd same
form_uses (Op insn) (Out procedure) same = absurd same
form_uses (Hi rd to) (Op insn) same = absurd same
form_uses (Hi rd to) (Hi rd' to') same = ap (λ n. n ∷ []) (sym same)
form_uses (Hi rd to) (Lo rd' rs' to') same = absurd same
form_uses (Hi rd to) (Out procedure) same = absurd same
form_uses (Lo rd rs to) (Op insn) same = absurd same
form_uses (Lo rd rs to) (Hi rd' to') same = absurd same
form_uses (Lo rd rs to) (Lo rd' rs' to') same = ap (λ n. n ∷ []) (sym same)
form_uses (Lo rd rs to) (Out procedure) same = absurd same
form_uses (Out procedure) (Op insn) same = absurd same
form_uses (Out procedure) (Hi rd to) same = absurd same
form_uses (Out procedure) (Lo rd rs to) same = absurd same
form_uses (Out procedure) (Out procedure') same = refl

forms_uses : (items others : List Item) → AreSameForms items others → items_uses items ≡ items_uses others
forms_uses [] [] same = refl
forms_uses [] (other ∷ others) same = absurd same
forms_uses (item ∷ items) [] same = absurd same
forms_uses (item ∷ items) (other ∷ others) same = λ i. form_uses item other same.0 i ++ forms_uses items others same.1 i

ends_uses : (g : Graph) (dropped kept n : ℕ) → CanJoin g dropped kept n → items_uses (last_items n (items_of g dropped)) ≡ items_uses (last_items n (items_of g kept))
ends_uses g dropped kept n (inl end) = ap items_uses end.items.same
ends_uses g dropped kept n (inr (whole, pair)) =
    let ends = body_ends g dropped kept pair.bodies in
    let first : length (items_of g dropped) - n ≡ 0 = omega (arith, ends.first, whole) in
    let second : length (items_of g kept) - n ≡ 0 = omega (arith, whole) in
    ap (λ k. items_uses (drop k (items_of g dropped))) first
    ∙ forms_uses (items_of g dropped) (items_of g kept) pair.bodies.match.forms
    ∙ sym (ap (λ k. items_uses (drop k (items_of g kept))) second)

cut_uses : (g : Graph) (dropped kept n : ℕ) → IsCandidate g (tail_cut g dropped kept n) → items_uses (last_items n (items_of g dropped)) ≡ items_uses (last_items n (items_of g kept))
cut_uses g dropped kept n candidate =
    let j = joinable g (tail_cut g dropped kept n) candidate in
    let same = one_pair (tail_cut g dropped kept n) j.dropped j.kept dropped kept j.two (record { row = refl; blocks = refl; procedure = refl; other = refl }) in
    ends_uses g dropped kept n (subst (λ k. CanJoin g dropped k n) same.1 (subst (λ d. CanJoin g d j.kept n) same.0 j.can))

-- THE JOINED GRAPH

-- in it one term names a block that didn't, in place of what the dropped end named, and the dropped items name blocks no more
pub record IsEnded (g mid : Graph) (dropped n to : ℕ) : Type 0 where
  pub items : (k : ℕ) → times_named (items_uses (last_items n (items_of g dropped))) k + times_named (items_uses (all_items mid)) k ≡ times_named (items_uses (all_items g)) k
  pub words : word_uses mid ≡ word_uses g
  pub terms : (k : ℕ) → times_named (terms_uses mid.blocks) k + times_named (end_uses (term_of g dropped)) k ≡ times_named (to ∷ []) k + times_named (terms_uses g.blocks) k
  pub solid : All (λ b. is_bare b ≡ false) mid.blocks
  pub falls : FallsIntoLeaders (λ k. is_among (end_uses (term_of g dropped)) k || is_among (uses mid) k) mid.blocks

same_target : (o : Option Term) (a b : ℕ) → o ≡ Some (Jump a) → o ≡ Some (Jump b) → a ≡ b
same_target o a b first second = let both : Some (Jump a) ≡ Some (Jump b) = sym first ∙ second in cc

pub joined_ended : (g mid : Graph) (dropped kept n to : ℕ) → IsGraph g → IsCanonical g → IsCandidate g (tail_cut g dropped kept n) → IsJoined g dropped kept n mid → term_of mid dropped ≡ Some (Jump to) → IsEnded g mid dropped n to
joined_ended g mid dropped kept n to rules canonical candidate (new, (unused, is)) jump =
    let tails = pair_there g dropped kept n candidate in
    let alike = cut_uses g dropped kept n candidate in
    let at = length (items_of g dropped) - n in
    let from = length (items_of g kept) - n in
    let led = falls_used (uses g) g.blocks [] g.blocks refl rules.distinct canonical.leaders in
    elim (cases_Bool (n == length (items_of g kept))) [
      | inl whole ↦
          let made : mid ≡ merged g dropped (length (items_of g dropped) - n) kept = is ∙ rw whole refl in
          let none : length (items_of g kept) - n ≡ 0 = omega (arith, eqb-true n (length (items_of g kept)) whole) in
          let target : kept ≡ to = same_target (term_of mid dropped) kept to (ap (λ h. term_of h dropped) made ∙ merged_term g dropped at kept tails.dropped_there) jump in
          let can : CanEnd g dropped (length (items_of g dropped) - n) kept = record {
            has = tails.dropped_there;
            apart = tails.other;
            whole = omega (arith, tails.dropped_items, eqb-true n (length (items_of g kept)) whole);
            same = λ k e. subst (λ (us : List ℕ). In us k) (alike ∙ ap (λ m. items_uses (drop m (items_of g kept))) none) e;
            solid = canonical.no_bare;
            falls = falls_more (is_among (uses g)) (λ m. is_among (uses g) m || m == kept) (λ k e. or_left (is_among (uses g) k) (k == kept) e) g.blocks led;
          } in
          subst (IsEnded g mid dropped n) target
          (subst (λ h. IsEnded g h dropped n kept) (sym made)
          (record { items = ended_items g dropped at kept can; words = refl; terms = ended_terms g dropped at kept can; solid = ended_solid g dropped at kept can; falls = ended_falls g dropped at kept can }))
      | inr part ↦
          let made : mid ≡ tailed g new dropped (length (items_of g dropped) - n) kept (length (items_of g kept) - n) = is ∙ rw part refl in
          let s = split_at g new kept from in
          let fewer = eqb-false n (length (items_of g kept)) part in
          let within : n ≤ length (items_of g kept) = tails.kept_items in
          let one : 1 ≤ n = tails.some in
          let some : 1 ≤ length (items_of g kept) - n = by_size n (length (items_of g kept)) fewer within in
          let below : length (items_of g kept) - n < length (items_of g kept) = omega (arith, one, within) in
          let same = other_block g new kept from dropped (apart_from_new g new dropped unused tails.dropped_there) (λ e. tails.other (sym e)) in
          let second = second_items g new kept from unused tails.kept_there in
          let there : HasBlock (split_at g new kept (length (items_of g kept) - n)) dropped = subst IsSome (sym same) tails.dropped_there in
          let target : new ≡ to = same_target (term_of mid dropped) new to (ap (λ h. term_of h dropped) made ∙ merged_term s dropped at new there) jump in
          let end : end_uses (term_of (split_at g new kept (length (items_of g kept) - n)) dropped) ≡ end_uses (term_of g dropped) = ap (λ (o : Option Block). end_uses (block_term o)) same in
          let can : CanEnd (split_at g new kept (length (items_of g kept) - n)) dropped (length (items_of g dropped) - n) new = record {
            has = there;
            apart = λ e. apart_from_new g new dropped unused tails.dropped_there (sym e);
            whole = omega (arith, tails.dropped_items, within, ap length (ap block_items same), ap length second, length-drop from (items_of g kept));
            same = λ k e. subst (λ (us : List ℕ). In us k) (ap (λ (o : Option Block). items_uses (drop at (block_items o))) same ∙ alike ∙ sym (ap items_uses second)) e;
            solid = split_solid g new kept from unused tails.kept_there some below canonical.no_bare led;
            falls = split_falls g new kept from unused tails.kept_there some below canonical.no_bare led;
          } in
          let terms = terms_same g new kept from unused tails.kept_there some below canonical.no_bare led in
          let items = item_uses_same g new kept from unused tails.kept_there some below canonical.no_bare led in
          subst (IsEnded g mid dropped n) target
          (subst (λ h. IsEnded g h dropped n new) (sym made)
          (record {
            items = λ k. omega (arith, ended_items s dropped at new can k, ap (λ us. times_named us k) items, ap (λ (o : Option Block). times_named (items_uses (drop at (block_items o))) k) same);
            words = refl;
            terms = λ k. omega (arith, ended_terms s dropped at new can k, ap (λ us. times_named us k) end, ap (λ us. times_named us k) terms);
            solid = ended_solid s dropped at new can;
            falls = subst (λ us. FallsIntoLeaders (λ k. is_among us k || is_among (uses (tailed g new dropped (length (items_of g dropped) - n) kept (length (items_of g kept) - n))) k) (tailed g new dropped (length (items_of g dropped) - n) kept (length (items_of g kept) - n)).blocks) end (ended_falls s dropped at new can);
          }))
    ]
  where
    by_size : (a b : ℕ) → a ≢ b → a ≤ b → 1 ≤ b - a
    by_size a b apart within = grind (arith, apart)

-- the end of a list, as a slice of it
pub end_slice : (items own : List Item) (n : ℕ) → items ≡ own → take (length items - (length items - n)) (drop (length items - n) items) ≡ last_items n own
end_slice items own n same =
    take_all (length items - (length items - n)) (last_items n items) (omega (arith, length-drop (length items - n) items)) ∙ ap (last_items n) same

-- the items that go are counted
pub end_counted : (g : Graph) (block n : ℕ) (they : Uses) → AreUses g they → (k : ℕ) → times_named (items_uses (last_items n (items_of g block))) k ≤ count_at they.items.items k
end_counted g block n they are k =
    let is = items_of g block in
    let at = length is - n in
    omega (
      arith,
      are.items k,
      times_own g block k,
      ap (λ xs. times_named (items_uses xs) k) (sym (take-append-drop at is)),
      ap (λ us. times_named us k) (flat_map-append item_uses (take at is) (drop at is)),
      times-append (items_uses (take at is)) (items_uses (drop at is)) k,
    )

-- ITS USES

module _ (g mid : Graph) (dropped n to : ℕ) (ended : IsEnded g mid dropped n to) (named : Option ℕ) (names : end_uses (term_of g dropped) ≡ option_to_list named) where
  module _ (first old : Uses) (are : AreUses g first) (taken : AreTaken (last_items n (items_of g dropped)) first old) where
    itemed : (k : ℕ) → count_at old.items.items k ≡ times_named (items_uses (all_items mid)) k
    itemed k = omega (arith, taken.items k, are.items k, ended.items k)

    worded : (k : ℕ) → count_at old.words.items k ≡ times_named (word_uses mid) k
    worded k = ap (λ ws. count_at ws.items k) taken.words ∙ are.words k ∙ ap (λ us. times_named us k) (sym ended.words)

    termed : (k : ℕ) → count_at old.terms.items k ≡ times_named (terms_uses g.blocks) k
    termed k = ap (λ ts. count_at ts.items k) taken.terms ∙ are.terms k

    -- where the dropped end named no block
    pub uses_more : (new : Uses) → named ≡ None → IsCounted to old new → AreUses mid new
    uses_more new none more = record {
      items = λ k. ap (λ is. count_at is.items k) more.items ∙ itemed k;
      words = λ k. ap (λ ws. count_at ws.items k) more.words ∙ worded k;
      terms = λ k.
          let gone : times_named (end_uses (term_of g dropped)) k ≡ 0 = ap (λ us. times_named us k) (names ∙ ap option_to_list none) in
          omega (arith, more.terms k, termed k, ended.terms k, gone);
    }

    -- and where it named one
    module _ (name : ℕ) (some : named ≡ Some name) (more : Uses) (one : IsCounted to old more) where
      gone_is : (k : ℕ) → times_named (end_uses (term_of g dropped)) k ≡ times_named (name ∷ []) k
      gone_is k = ap (λ us. times_named us k) (names ∙ ap option_to_list some)

      pub counted_still : 1 ≤ count_at more.terms.items name
      counted_still =
          let own : ◌≡◌ {A = ℕ} (if name == name then 1 else 0) 1 = ap (λ t. if t then 1 else 0) (eq-eqb name name refl) in
          omega (arith, one.terms name, termed name, ended.terms name, gone_is name, own)

      pub uses_moved : (new : Uses) → IsCounted name new more → AreUses mid new
      uses_moved new less = record {
        items = λ k. ap (λ is. count_at is.items k) (sym less.items ∙ one.items) ∙ itemed k;
        words = λ k. ap (λ ws. count_at ws.items k) (sym less.words ∙ one.words) ∙ worded k;
        terms = λ k. omega (arith, less.terms k, one.terms k, termed k, ended.terms k, gone_is k);
      }

  -- WHAT MAKES IT CANONICAL

  pub whole_ended : IsGraph mid → canonical_of mid ≡ joined_before_each (option_to_list named) mid
  whole_ended rules =
      canonical_before (option_to_list named) mid rules ended.solid
      (subst (λ us. FallsIntoLeaders (λ k. is_among us k || is_among (uses mid) k) mid.blocks) names ended.falls)
