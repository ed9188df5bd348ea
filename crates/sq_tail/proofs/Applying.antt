-- What row T makes of a graph keeps what a pass promises.
use Rattle.std.proofs.Common.{◌≡◌, ◌≢◌, ℕ, ◌+◌, ◌-◌, ◌≤◌, ◌==◌, List, [], ◌∷◌, drop, length, Option, None, Some, IsSome, is_some, inl, inr, refl, sym, ap, ◌∙◌, subst, arith, length-drop}
use Rattle.std.proofs.lemmas.Bool.{cases_Bool, eqb-true, eq-eqb}
use Rattle.std.proofs.lemmas.List.{drop_all}
use Rattle.sq_graph.specs.declared.item.Item.{Item}
use Rattle.sq_graph.specs.declared.item.Term.{Term}
use Rattle.sq_graph.specs.Blocks.{HasBlock, block_of, block_items, block_term, items_of, term_of}
use Rattle.sq_graph.specs.Graph.{Block, Graph}
use Rattle.sq_graph.specs.Matches.{AreSameForms}
use Rattle.sq_graph.specs.Operations.{IsNew, split_at}
use Rattle.sq_graph.specs.Rules.{IsGraph}
use Rattle.sq_graph.specs.Soundness.{IsSound}
use Rattle.sq_graph.specs.Words.{term_words, words_of}
use Rattle.sq_graph.proofs.AlikeGraphs.{alike_itself}
use Rattle.sq_graph.proofs.SplitRules.{split_rules}
use Rattle.law_follow.specs.Follows.{Follows}
use Rattle.sq_layout.proofs.Splitting.{split_in_reach}
use Rattle.sq_pass.specs.Applied.{IsApplied}
use Rattle.law_patch.specs.Bodies.{HaveBodies}
use Rattle.law_patch.specs.Merges.{IsMergeable, merged, HaveTail, tailed}
use Rattle.law_patch.proofs.Merging.{with_items, can_merge, merge_follows, merge_sound, merge_saves}
use Rattle.law_patch.proofs.MatchedBodies.{body_follows, body_sound, body_saves}
use Rattle.law_patch.proofs.Tailing.{tail_follows, tail_sound, tail_saves}
use Rattle.sq_tail.specs.Tails.{words_of_end, end_words, fresh, joined, tails_joined}
use Rattle.sq_tail.proofs.Merging.{merged_rules, merged_in_reach}
use Rattle.sq_tail.proofs.Splitting.{second_items, other_block}
use Rattle.sq_tail.proofs.Naming.{fresh_is_new, apart_from_new, tailed_alike, tailed_keeps}

pub some_items : (items : List Item) → items ≢ [] → 1 ≤ length items
some_items [] some = absurd (some refl)
some_items (item ∷ items) some = omega arith

pub full : (items : List Item) (n : ℕ) → drop n items ≢ [] → items ≢ []
full items n some none = some (drop_all n items (subst (λ (is : List Item). length is ≤ n) (sym none) (omega arith)))

pub has_items : (g : Graph) (block : ℕ) → items_of g block ≢ [] → HasBlock g block
has_items g block some = ap is_some (with_items (block_of g block) some).1

-- the words of a block's term
pub has_end : (g : Graph) (block : ℕ) → HasBlock g block → (term : Term) × (term_of g block ≡ Some term) × (end_words g block ≡ term_words term)
has_end g block has = by_block (block_of g block) refl has
  where
    by_block : (o : Option Block) → block_of g block ≡ o → IsSome o → (term : Term) × (term_of g block ≡ Some term) × (end_words g block ≡ term_words term)
    by_block None is some = absurd (cc)
    by_block (Some b) is some = let e : term_of g block ≡ Some b.term = ap block_term is in (b.term, e, ap words_of_end e)

-- THE END OF A BLOCK BECOMES A JUMP TO ANOTHER BLOCK

pub merged_applied : (g : Graph) (dropped at kept : ℕ) → IsGraph g → HasBlock g dropped → HasBlock g kept → at + length (items_of g kept) ≤ length (items_of g dropped) → 1 ≤ length (items_of g kept)
    → Follows g (merged g dropped at kept) → (IsSound g → IsSound (merged g dropped at kept))
    → ((term : Term) → term_of g dropped ≡ Some term → words_of (merged g dropped at kept) + (length (items_of g kept) + term_words term) ≡ words_of g + 1)
    → IsApplied (length (items_of g kept) - 1 + end_words g dropped) (merged g dropped at kept) g (merged g dropped at kept)
merged_applied g dropped at kept rules has there within some follows sound saves =
    let end = has_end g dropped has in
    record {
      rules = merged_rules g dropped at kept rules has there;
      follows = follows;
      sound = sound;
      reach = merged_in_reach g dropped at kept rules has there within some;
      words = omega (arith, saves end.0 end.1, end.2, some);
      described = alike_itself (merged g dropped at kept);
      kept = λ n has. refl;
    }

-- TAILS

-- where the tails begin, by their length
pub record AreEnds (g : Graph) (dropped at kept from n : ℕ) : Type 0 where
  pub has : HasBlock g dropped
  pub there : HasBlock g kept
  pub some : 1 ≤ n
  pub first : at + n ≡ length (items_of g dropped)
  pub second : from + n ≡ length (items_of g kept)

pub tail_ends : (g : Graph) (dropped at kept from : ℕ) → HaveTail g dropped at kept from → AreEnds g dropped at kept from (length (drop from (items_of g kept)))
tail_ends g dropped at kept from tail =
    let some = some_items (drop from (items_of g kept)) tail.some in
    let size = length-drop from (items_of g kept) in
    let other = length-drop at (items_of g dropped) in
    let same = ap (λ (is : List Item). length is) tail.items in
    record {
      has = has_items g dropped (full (items_of g dropped) at (λ none. tail.some (sym tail.items ∙ none)));
      there = has_items g kept (full (items_of g kept) from tail.some);
      some = some;
      first = omega (arith, some, other, same);
      second = omega (arith, some, size);
    }

whole_tail : (g : Graph) (dropped at kept from : ℕ) → IsGraph g → HaveTail g dropped at kept from → length (drop from (items_of g kept)) ≡ length (items_of g kept)
    → IsApplied (length (drop from (items_of g kept)) - 1 + end_words g dropped) (merged g dropped at kept) g (merged g dropped at kept)
whole_tail g dropped at kept from rules tail whole =
    let ends = tail_ends g dropped at kept from tail in
    let none : from ≡ 0 = omega (arith, whole, ends.second) in
    let all : drop from (items_of g kept) ≡ items_of g kept = ap (λ n. drop n (items_of g kept)) none in
    let can : IsMergeable g dropped at kept = record { other = tail.other; items = tail.items ∙ all; some = full (items_of g kept) from tail.some; terms = tail.ends } in
    let merge = can_merge g dropped at kept can in
    subst (λ n. IsApplied (n - 1 + end_words g dropped) (merged g dropped at kept) g (merged g dropped at kept)) (sym whole)
    (merged_applied g dropped at kept rules ends.has ends.there (omega (arith, whole, ends.first)) (omega (arith, whole, ends.some)) (merge_follows g dropped at kept rules merge) (merge_sound g dropped at kept rules merge) (merge_saves g dropped at kept rules merge))

part_tail : (g : Graph) (new dropped at kept from : ℕ) → IsGraph g → IsNew g new → HaveTail g dropped at kept from
    → IsApplied (length (drop from (items_of g kept)) - 1 + end_words g dropped) (tailed g (fresh g) dropped at kept from) g (tailed g new dropped at kept from)
part_tail g new dropped at kept from rules unused tail =
    let ends = tail_ends g dropped at kept from tail in
    let s = split_at g new kept from in
    let s_rules = split_rules g new kept from rules unused ends.there in
    let items : items_of (split_at g new kept from) new ≡ drop from (items_of g kept) = second_items g new kept from unused ends.there in
    let size : length (items_of (split_at g new kept from) new) ≡ length (drop from (items_of g kept)) = ap (λ (is : List Item). length is) items in
    let same = other_block g new kept from dropped (apart_from_new g new dropped unused ends.has) (λ e. tail.other (sym e)) in
    let has : HasBlock (split_at g new kept from) dropped = subst IsSome (sym same) ends.has in
    let there : HasBlock (split_at g new kept from) new = has_items (split_at g new kept from) new (λ none. tail.some (sym items ∙ none)) in
    let within : at + length (items_of (split_at g new kept from) new) ≤ length (items_of (split_at g new kept from) dropped) = omega (arith, size, ends.first, ap (λ o. length (block_items o)) same) in
    let end = has_end g dropped ends.has in
    record {
      rules = merged_rules s dropped at new s_rules has there;
      follows = tail_follows g new dropped at kept from rules unused tail;
      sound = tail_sound g new dropped at kept from rules unused tail;
      reach = λ reach. merged_in_reach s dropped at new s_rules has there within (omega (arith, size, ends.some)) (split_in_reach g new kept from rules unused reach);
      words = omega (arith, tail_saves g new dropped at kept from rules unused tail end.0 end.1, end.2, ends.some);
      described = tailed_alike g new (fresh g) dropped at kept from rules unused (fresh_is_new g) ends.has ends.there;
      kept = tailed_keeps g new (fresh g) dropped at kept from rules unused (fresh_is_new g) ends.has ends.there;
    }

-- the graph, whatever the name of the new block
pub tail_applied : (g : Graph) (new dropped at kept from : ℕ) → IsGraph g → IsNew g new → HaveTail g dropped at kept from
    → IsApplied (length (drop from (items_of g kept)) - 1 + end_words g dropped) (tails_joined g dropped kept (length (drop from (items_of g kept)))) g (joined g new dropped kept (length (drop from (items_of g kept))))
tail_applied g new dropped at kept from rules unused tail =
    let n = length (drop from (items_of g kept)) in
    let ends = tail_ends g dropped at kept from tail in
    let at_is : length (items_of g dropped) - length (drop from (items_of g kept)) ≡ at = omega (arith, ends.first) in
    let from_is : length (items_of g kept) - length (drop from (items_of g kept)) ≡ from = omega (arith, ends.second) in
    elim (cases_Bool (length (drop from (items_of g kept)) == length (items_of g kept))) [
      | inl whole ↦
          let is : (name : ℕ) → joined g name dropped kept (length (drop from (items_of g kept))) ≡ merged g dropped at kept = λ name. rw whole (ap (λ k. merged g dropped k kept) at_is) in
          subst (λ h. IsApplied (n - 1 + end_words g dropped) h g (joined g new dropped kept n)) (sym (is (fresh g)))
          (subst (λ h. IsApplied (n - 1 + end_words g dropped) (merged g dropped at kept) g h) (sym (is new)) (whole_tail g dropped at kept from rules tail (eqb-true n (length (items_of g kept)) whole)))
      | inr part ↦
          let is : (name : ℕ) → joined g name dropped kept (length (drop from (items_of g kept))) ≡ tailed g name dropped at kept from = λ name. rw part (λ i. tailed g name dropped (at_is i) kept (from_is i)) in
          subst (λ h. IsApplied (n - 1 + end_words g dropped) h g (joined g new dropped kept n)) (sym (is (fresh g)))
          (subst (λ h. IsApplied (n - 1 + end_words g dropped) (tailed g (fresh g) dropped at kept from) g h) (sym (is new)) (part_tail g new dropped at kept from rules unused tail))
    ]

-- WHOLE BODIES

same_many : (items others : List Item) → AreSameForms items others → length items ≡ length others
same_many [] [] forms = refl
same_many [] (other ∷ others) forms = absurd forms
same_many (item ∷ items) [] forms = absurd forms
same_many (item ∷ items) (other ∷ others) forms = omega (arith, same_many items others forms.1)

pub body_ends : (g : Graph) (dropped kept : ℕ) → HaveBodies g dropped kept → AreEnds g dropped 0 kept 0 (length (items_of g kept))
body_ends g dropped kept bodies =
    let many = same_many (items_of g dropped) (items_of g kept) bodies.match.forms in
    let some = some_items (items_of g kept) bodies.some in
    record {
      has = has_items g dropped (λ none. absurd (omega (arith, many, some, ap (λ (is : List Item). length is) none)));
      there = has_items g kept bodies.some;
      some = some;
      first = omega (arith, many);
      second = omega arith;
    }

pub body_applied : (g : Graph) (new dropped kept : ℕ) → IsGraph g → HaveBodies g dropped kept
    → IsApplied (length (items_of g kept) - 1 + end_words g dropped) (tails_joined g dropped kept (length (items_of g kept))) g (joined g new dropped kept (length (items_of g kept)))
body_applied g new dropped kept rules bodies =
    let n = length (items_of g kept) in
    let ends = body_ends g dropped kept bodies in
    let at_is : length (items_of g dropped) - length (items_of g kept) ≡ 0 = omega (arith, ends.first) in
    let is : (name : ℕ) → joined g name dropped kept (length (items_of g kept)) ≡ merged g dropped 0 kept = λ name. rw (eq-eqb (length (items_of g kept)) (length (items_of g kept)) refl) (ap (λ k. merged g dropped k kept) at_is) in
    subst (λ h. IsApplied (n - 1 + end_words g dropped) h g (joined g new dropped kept n)) (sym (is (fresh g)))
    (subst (λ h. IsApplied (n - 1 + end_words g dropped) (merged g dropped 0 kept) g h) (sym (is new))
    (merged_applied g dropped 0 kept rules ends.has ends.there (omega (arith, ends.first)) ends.some (body_follows g dropped kept rules bodies) (body_sound g dropped kept rules bodies) (body_saves g dropped kept rules bodies)))
