-- A block with another term in a place of a graph.
use Rattle.std.proofs.Common.{◌≡◌, ℕ, ◌≤◌, drop, length, Bool, true, false, ◌==◌, if◌then◌else◌, ◌⊎◌, inl, inr, List, [], ◌∷◌, ◌++◌, None, map, refl, sym, ap, ◌∙◌, subst}
use Rattle.std.proofs.lemmas.List.Elements.{Contains-append_cases}
use Rattle.std.specs.List.{Contains, flat_map}
use Rattle.sq_graph.specs.declared.item.Item.{Item}
use Rattle.sq_graph.specs.declared.item.Term.{Term}
use Rattle.sq_graph.specs.Graph.{Block, Graph}
use Rattle.sq_graph.specs.Terms.{links}
use Rattle.sq_graph.specs.Uses.{uses}
use Rattle.sq_graph.specs.Rules.{IsGraph}
use Rattle.sq_graph.specs.Lines.{Line, line_of, term_lines, body_lines, lines_of, behind_name}
use Rattle.sq_graph.specs.Walks.{lower_names, link_names, first_name, code_targets}
use Rattle.sq_graph.specs.Soundness.{LinksDieIn}
use Rattle.law_patch.specs.Changes.{Change, Alike, name_before, name_after}
use Rattle.law_patch.proofs.Lines.{body_unnamed}
use Rattle.law_patch.proofs.Dying.{term_dies}
use Rattle.law_patch.proofs.Carrying.{AreOf, ItemGoes, carried_items, carry_items, items_die}
use Rattle.law_patch.proofs.Layouts.{IsHeld, Turn, choose}
use Rattle.law_patch.proofs.Remaining.{AlikeAt, items_at, first_at}
use Rattle.law_patch.proofs.Restricting.{own, block_target}
use Rattle.law_patch.proofs.Placing.{C as placing, block_stays, items_stay}

-- nothing stands behind these
pub all_of : (xs : List ℕ) (m : ℕ) → Contains (xs ++ []) m → Contains xs m
all_of [] m c = c
all_of (x ∷ xs) m c = subst (λ ys. Contains ys m) (no_more (x ∷ xs)) c
  where
    no_more : (ys : List ℕ) → ys ++ [] ≡ ys
    no_more [] = refl
    no_more (y ∷ ys) = ap (λ zs. y ∷ zs) (no_more ys)

map_left : {A B Q : Type 0} → A ⊎ B → (A → Q) → Q ⊎ B
map_left (inl a) p = inl (p a)
map_left (inr b) p = inr b

-- the slot of the last of some blocks, and those of the blocks behind it
pub one_slot : (t : Bool) (m : ℕ) (ns ms : List ℕ) {Q : Type 0} → Contains ((if t then ns else []) ++ ms) m → (t ≡ true → Contains ns m → Q) → Q ⊎ Contains ms m
one_slot true m ns ms c p = map_left (Contains-append_cases ns ms m c) (p refl)
one_slot false m ns ms c p = inr c

module _ (K : ℕ → Type 0) (X : List Line → ℕ → Type 0) (Z : Type 0) (g h : Graph) (rules : IsGraph g) (known : (n : ℕ) → Contains (uses g) n → K n) (procedures : h.procedures ≡ g.procedures) (words : h.code_words ≡ g.code_words) (holds : (n : ℕ) → Contains (code_targets g) n → K n) where
  abbrev C : Change
  C = placing K X Z g h rules known procedures words

  module _ (x : Block) (mid back : List Block) (t : Term) (there : Contains g.blocks x) where
    abbrev y : Block
    y = record x { term = t }

    abbrev rest : List Line
    rest = lines_of (mid ++ back)

    items : AreOf C own (ItemGoes C own) x.items
    items = items_stay K X Z g h rules known procedures words holds x there

    items_same : carried_items C own x.items ≡ x.items
    items_same = sym (ap (λ (b : Block). b.items) (block_stays K X Z g h rules known procedures words holds x))

    body : (b : Bool) → Alike C b None (term_lines x.term rest) (term_lines t (lines_of back)) → Alike C b None (body_lines x rest) (body_lines y (lines_of back))
    body b p = subst (λ is. Alike C b None (body_lines x rest) (map line_of is ++ term_lines t (lines_of back))) items_same (carry_items C own x.items (term_lines x.term rest) (term_lines t (lines_of back)) items p)

    -- the block ends otherwise, and blocks behind it may go
    pub term_turn : ((b : Bool) → Alike C b None (term_lines x.term rest) (term_lines t (lines_of back))) → ((m : ℕ) → K m → behind_name m rest ≡ behind_name m (lines_of back)) → ((m : ℕ) → links t ≡ true → Contains (first_name back) m → IsHeld C own K m) → Turn C own K true true (x ∷ mid) (y ∷ []) back back
    term_turn ended skip slot = record {
      lines = λ b i p. name_before (name_after (body b (ended b)));
      behind = λ m k p q.
          choose (x.name == m) (body_lines x rest) (behind_name m (body_lines x rest)) (body_lines y (lines_of back)) (behind_name m (body_lines y (lines_of back))) (body false (ended false))
          (subst (λ xs. Alike C false None xs (behind_name m (body_lines y (lines_of back)))) (sym (body_unnamed m x rest ∙ skip m k))
          (subst (λ ys. Alike C false None (behind_name m (lines_of back)) ys) (sym (body_unnamed m y (lines_of back))) q));
      lowers = λ m c. let d = block_target g x m there (all_of (flat_map lower_names x.items) m c) in (m, (refl, (holds m d, d)));
      slots = λ m c. one_slot (links t) m (first_name back) (link_names back) c (slot m);
      dies = λ backs p die die'.
          subst (λ (is : List Item). LinksDieIn h (map line_of is ++ term_lines t (lines_of back))) items_same
          (items_die C own backs x.items (term_lines x.term rest) (term_lines t (lines_of back)) items (ended true) die (term_dies h t (lines_of back) die'));
    }

    -- and places of it
    pub term_at : (n place : ℕ) → Alike C true None (term_lines x.term rest) (term_lines t (lines_of back)) → behind_name n rest ≡ behind_name n (lines_of back) → ((x.name == n) ≡ true → place ≤ length x.items) → AlikeAt C own n place back back → AlikeAt C own n place (x ∷ (mid ++ back)) (y ∷ back)
    term_at n place ended skip fits q =
        first_at C own n place x y (mid ++ back) back refl
        (λ e. subst (λ is. Alike C true None (drop place (body_lines x rest)) (drop place (map line_of is ++ term_lines t (lines_of back)))) items_same (items_at C own place x.items (term_lines x.term rest) (term_lines t (lines_of back)) items (fits e) ended))
        (subst (λ xs. Alike C true None (drop place xs) (drop place (behind_name n (lines_of back)))) (sym skip) q)
