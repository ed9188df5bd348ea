-- Places that a change leaves: what is live at one in the second graph was live at it in the first.
use Rattle.std.proofs.Common.{◌≡◌, ℕ, zero, suc, ◌≤◌, Bool, true, false, ◌==◌, if◌then◌else◌, List, [], ◌∷◌, ◌++◌, Some, None, map, take, drop, length, refl, sym, ap, subst, arith}
use Rattle.std.proofs.lemmas.Bool.{eqb-true}
use Rattle.sq_arena.specs.Entries.{value_of, HasDistinctKeys}
use Rattle.sq_graph.specs.declared.item.Item.{Item}
use Rattle.sq_graph.specs.Graph.{Block, Graph}
use Rattle.sq_graph.specs.Blocks.{named, block_of, block_items, items_of}
use Rattle.sq_graph.specs.Lines.{Line, line_of, term_lines, body_lines, lines_of, behind_name, place_lines}
use Rattle.sq_graph.specs.Renames.{retargeted_term}
use Rattle.sq_graph.specs.Rules.{IsGraph}
use Rattle.sq_graph.specs.Walks.{IsLive}
use Rattle.law_patch.specs.Changes.{Change, Alike, ends, falls}
use Rattle.law_patch.proofs.Lines.{body_unnamed}
use Rattle.law_patch.proofs.Places.{absent_from, found_at}
use Rattle.law_patch.proofs.Carrying.{carried_items, carried_block, AreOf, ItemGoes, later_items, BlockGoes, carry_items, carry_term, Backs}
use Rattle.law_patch.proofs.Layouts.{passed}

-- a place of a block by its name is one by where it stands
pub fits_at : (g : Graph) → IsGraph g → (n place : ℕ) → place ≤ length (items_of g n) → (front : List Block) (x : Block) (bs : List Block) → front ++ (x ∷ bs) ≡ g.blocks → (x.name == n) ≡ true → place ≤ length x.items
fits_at g rules n place l front x bs e same =
    let absent = absent_from front x bs (subst (λ blocks. HasDistinctKeys (named blocks)) (sym e) rules.distinct) in
    let here : block_of g x.name ≡ Some x = subst (λ blocks. value_of (named blocks) x.name ≡ Some x) e (found_at front x bs absent) in
    let found : block_of g n ≡ Some x = subst (λ m. block_of g m ≡ Some x) (eqb-true x.name n same) here in
    subst (λ items. place ≤ length items) (ap block_items found) l

-- a place up to another is among the items up to that
pub fits_take : (place at : ℕ) (items : List Item) → place ≤ at → place ≤ length items → place ≤ length (take at items)
fits_take zero at items up l = omega arith
fits_take (suc place) zero items up l = absurd (omega (arith, up))
fits_take (suc place) (suc at) [] up l = absurd (omega (arith, l))
fits_take (suc place) (suc at) (item ∷ items) up l = let k = fits_take place at items (omega (arith, up)) (omega (arith, l)) in omega (arith, k)

module _ (C : Change) (number : ℕ → ℕ) where
  -- from this place of the block of this name on, the two go on alike
  abbrev pub AlikeAt : ℕ → ℕ → List Block → List Block → Type 0
  AlikeAt n place bs cs = Alike C true None (drop place (behind_name n (lines_of bs))) (drop place (behind_name n (lines_of cs)))

  -- a place among items that are carried over
  pub items_at : (place : ℕ) (items : List Item) (xs ys : List Line) → AreOf C number (ItemGoes C number) items → place ≤ length items → Alike C true None xs ys → Alike C true None (drop place (map line_of items ++ xs)) (drop place (map line_of (carried_items C number items) ++ ys))
  items_at zero items xs ys each l p = carry_items C number items xs ys each p
  items_at (suc place) [] xs ys each l p = absurd (omega (arith, l))
  items_at (suc place) (item ∷ items) xs ys each l p = items_at place items xs ys (later_items C number (ItemGoes C number) item items each) (omega (arith, l)) p

  choose_at : (t : Bool) (place : ℕ) (xs ys us vs : List Line) → (t ≡ true → Alike C true None (drop place xs) (drop place us)) → (t ≡ false → Alike C true None (drop place ys) (drop place vs)) → Alike C true None (drop place (if t then xs else ys)) (drop place (if t then us else vs))
  choose_at true place xs ys us vs p q = p refl
  choose_at false place xs ys us vs p q = q refl

  pub nothing_at : (n place : ℕ) → AlikeAt n place [] []
  nothing_at n zero = ends
  nothing_at n (suc place) = ends

  -- a block in place of one of its name
  pub first_or_later_at : (n place : ℕ) (x y : Block) (bs cs : List Block) → y.name ≡ x.name → ((x.name == n) ≡ true → Alike C true None (drop place (body_lines x (lines_of bs))) (drop place (body_lines y (lines_of cs)))) → ((x.name == n) ≡ false → AlikeAt n place bs cs) → AlikeAt n place (x ∷ bs) (y ∷ cs)
  first_or_later_at n place x y bs cs name p q =
      subst (λ m. Alike C true None (drop place (behind_name n (lines_of (x ∷ bs)))) (drop place (if m == n then body_lines y (lines_of cs) else behind_name n (body_lines y (lines_of cs))))) (sym name)
      (choose_at (x.name == n) place (body_lines x (lines_of bs)) (behind_name n (body_lines x (lines_of bs))) (body_lines y (lines_of cs)) (behind_name n (body_lines y (lines_of cs))) p
      (λ t. subst (λ xs. Alike C true None (drop place xs) (drop place (behind_name n (body_lines y (lines_of cs))))) (sym (body_unnamed n x (lines_of bs)))
      (subst (λ ys. Alike C true None (drop place (behind_name n (lines_of bs))) (drop place ys)) (sym (body_unnamed n y (lines_of cs))) (q t))))

  pub first_at : (n place : ℕ) (x y : Block) (bs cs : List Block) → y.name ≡ x.name → ((x.name == n) ≡ true → Alike C true None (drop place (body_lines x (lines_of bs))) (drop place (body_lines y (lines_of cs)))) → AlikeAt n place bs cs → AlikeAt n place (x ∷ bs) (y ∷ cs)
  first_at n place x y bs cs name p q = first_or_later_at n place x y bs cs name p (λ t. q)

  -- a block that stays
  pub stays_at : (n place : ℕ) (x y : Block) (bs cs : List Block) → y ≡ carried_block C number x → BlockGoes C number x (lines_of bs) (lines_of cs) → ((x.name == n) ≡ true → place ≤ length x.items) → (falls x.term ≡ true → Alike C true None (lines_of bs) (lines_of cs)) → AlikeAt n place bs cs → AlikeAt n place (x ∷ bs) (y ∷ cs)
  stays_at n place x y bs cs same go fits later q =
      subst (λ z. AlikeAt n place (x ∷ bs) (z ∷ cs)) (sym same)
      (first_at n place x (carried_block C number x) bs cs refl
      (λ t. items_at place x.items (term_lines x.term (lines_of bs)) (term_lines (retargeted_term C.renamed x.term) (lines_of cs)) go.items (fits t) (carry_term C number x.term (lines_of bs) (lines_of cs) go.term go.slot later)) q)

  -- a block that goes
  pub gone_at : (n place : ℕ) (x : Block) (bs cs : List Block) → (x.name == n) ≡ false → AlikeAt n place bs cs → AlikeAt n place (x ∷ bs) cs
  gone_at n place x bs cs apart q = subst (λ xs. Alike C true None (drop place xs) (drop place (behind_name n (lines_of cs)))) (sym (passed x n bs apart)) q

  -- THE GENERAL LAW: at such a place no more is live in the second graph than in the first
  pub live_at : Backs C number → (n place r : ℕ) → AlikeAt n place C.before.blocks C.after.blocks → IsLive C.after r (place_lines C.after n place) → IsLive C.before r (place_lines C.before n place)
  live_at backs n place r alike live =
      let o = backs r (place_lines C.after n place) live true None (place_lines C.before n place) alike in
      let is : r ≡ o.0 = o.1.0 in
      subst (λ q. IsLive C.before q (place_lines C.before n place)) (sym is) o.1.1
