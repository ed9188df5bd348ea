-- What an old survey tells of a graph from which blocks went since.
use Rattle.std.proofs.Common.{◌≡◌, ◌⊎◌, ℕ, pos, List, length, Option, None, Some, inl, inr, refl, sym, ap, subst, arith, ◌+◌, IsSome, ◌-ℤ◌, ◌*◌, ◌≤◌, unwrap_or}
use Rattle.std.proofs.lemmas.Int.{ints}
use Rattle.sq_graph.specs.declared.item.Item.{Item}
use Rattle.sq_graph.specs.Graph.{Graph, Block}
use Rattle.sq_graph.specs.Blocks.{items_of, named, HasBlock, block_of, block_items}
use Rattle.sq_graph.specs.Places.{Reaches, address_in}
use Rattle.sq_graph.specs.Resolve.{jump_from}
use Rattle.sq_graph.specs.Rules.{IsGraph}
use Rattle.sq_graph.specs.Words.{term_words, block_words}
use Rattle.sq_layout.specs.Branches.{lifted}
use Rattle.sq_jumps.specs.Surveys.{ReachesWithout, ReachesBy}
use Rattle.sq_lookup.proofs.Targets.{jump_there, lone}
use Rattle.sq_arena.specs.Entries.{HasDistinctKeys}
use Rattle.sq_layout.proofs.Standing.{above, below}
use Rattle.sq_layout.specs.Shrinks.{Shrinks}
use Rattle.sq_layout.proofs.Shrinking.{IsNoFurther, no_further, placed, source_of}
use Rattle.sq_lookup.specs.Addresses.{address_of}

pub reaches_by : (p q : ℕ → ℕ) (items gone from to : ℕ) → p ≡ q → ReachesBy p items gone from to → ReachesBy q items gone from to
reaches_by p q items gone from to same reach = subst (λ (f : ℕ → ℕ). ReachesBy f items gone from to) same reach

-- DISTANCES ONCE A WORD IS GONE, THEN AND NOW

-- a place stands ahead of a word, or behind it, as it did, and is lifted or not
abbrev IsLifted : ℕ → ℕ → ℕ → ℕ → ℕ → ℕ → Type 0
IsLifted o o' x x' l l' =
    ((l ≡ x) × (l' ≡ x') × (x ≤ o) × (x' ≤ o')) ⊎ ((l + 4 ≡ x) × (l' + 4 ≡ x') × (o + 4 ≤ x) × (o' + 4 ≤ x'))

lifts : (size size' o o' x x' : ℕ) → 4 ≤ size → 4 ≤ size' → IsNoFurther size size' o o' x x' → IsLifted o o' x x' (lifted o x) (lifted o' x')
lifts size size' o o' x x' four four' (inl h) = inl (below o x h.0, below o' x' h.1, h.0, h.1)
lifts size size' o o' x x' four four' (inr h) =
    let p = h.0 in
    let q = h.1 in
    let was : o + 4 ≤ x = omega arith in
    let is : o' + 4 ≤ x' = omega arith in
    inr (omega (arith, above o x (omega arith)), omega (arith, above o' x' (omega arith)), was, is)

nearer : (size size' items o o' f f' t t' lf lf' lt lt' : ℕ) → 4 * items ≤ size' → size' ≤ size → IsLifted o o' f f' lf lf' → IsLifted o o' t t' lt lt' → IsNoFurther size size' f f' t t' → Reaches (pos lt -ℤ pos (lf + 4 * items)) → Reaches (pos lt' -ℤ pos (lf' + 4 * items))
nearer size size' items o o' f f' t t' lf lf' lt lt' within fewer (inl a) (inl b) (inl h) r =
    record { least = omega (arith, ints); most = omega (arith, ints) }
nearer size size' items o o' f f' t t' lf lf' lt lt' within fewer (inl a) (inl b) (inr h) r =
    record { least = omega (arith, ints); most = omega (arith, ints) }
nearer size size' items o o' f f' t t' lf lf' lt lt' within fewer (inl a) (inr b) (inl h) r =
    record { least = omega (arith, ints); most = omega (arith, ints) }
nearer size size' items o o' f f' t t' lf lf' lt lt' within fewer (inl a) (inr b) (inr h) r =
    record { least = omega (arith, ints); most = omega (arith, ints) }
nearer size size' items o o' f f' t t' lf lf' lt lt' within fewer (inr a) (inl b) (inl h) r =
    record { least = omega (arith, ints); most = omega (arith, ints) }
nearer size size' items o o' f f' t t' lf lf' lt lt' within fewer (inr a) (inl b) (inr h) r =
    record { least = omega (arith, ints); most = omega (arith, ints) }
nearer size size' items o o' f f' t t' lf lf' lt lt' within fewer (inr a) (inr b) (inl h) r =
    record { least = omega (arith, ints); most = omega (arith, ints) }
nearer size size' items o o' f f' t t' lf lf' lt lt' within fewer (inr a) (inr b) (inr h) r =
    record { least = omega (arith, ints); most = omega (arith, ints) }

by_places : (p q : ℕ → ℕ) (items gone from to o o' f f' t t' : ℕ) → p gone ≡ o → q gone ≡ o' → p from ≡ f → q from ≡ f' → p to ≡ t → q to ≡ t'
    → (Reaches (pos (lifted o t) -ℤ pos (lifted o f + 4 * items)) → Reaches (pos (lifted o' t') -ℤ pos (lifted o' f' + 4 * items))) → ReachesBy p items gone from to → ReachesBy q items gone from to
by_places p q items gone from to o o' f f' t t' po qo pf qf pt qt step reach = rw (qo, qf, qt) (step (rw (po, pf, pt) at reach))

-- a block that is left has a place then and now
record HasPlaces (g h : Graph) (n : ℕ) : Type 0 where
  pub old : ℕ
  pub new : ℕ
  pub placed_old : address_in g.blocks 0 n ≡ Some old
  pub placed_new : address_in h.blocks 0 n ≡ Some new

has_places : (g h : Graph) (n : ℕ) (b : Block) → HasDistinctKeys (named g.blocks) → Shrinks g.blocks h.blocks → block_of h n ≡ Some b → HasPlaces g h n
has_places g h n b distinct shrinks found =
    let source = source_of n b shrinks distinct found in
    let old = placed g.blocks 0 n (rw source.found refl) in
    let new = placed h.blocks 0 n (rw found refl) in
    record { old = old.0; new = new.0; placed_old = old.1; placed_new = new.1 }

address_is : (g : Graph) (n x : ℕ) → address_in g.blocks 0 n ≡ Some x → address_of g n ≡ x
address_is g n x e = ap (λ o. unwrap_or o 0) e

-- what was reached once a block was gone, by the places of then, is reached by those of now
pub reaches_still : (g h : Graph) (gone from to : ℕ) (o f t : Block) → HasDistinctKeys (named g.blocks) → Shrinks g.blocks h.blocks → block_of h gone ≡ Some o → 1 ≤ block_words o → block_of h from ≡ Some f → block_of h to ≡ Some t
    → ReachesBy (address_of g) (length f.items) gone from to → ReachesBy (address_of h) (length f.items) gone from to
reaches_still g h gone from to o f t distinct shrinks at_gone some at_from at_to =
    let go = has_places g h gone o distinct shrinks at_gone in
    let fr = has_places g h from f distinct shrinks at_from in
    let ta = has_places g h to t distinct shrinks at_to in
    let was_gone = source_of gone o shrinks distinct at_gone in
    let was_from = source_of from f shrinks distinct at_from in
    let gone_words = was_gone.shrunk.words in
    let from_words = was_from.shrunk.words in
    let word : 4 ≤ 4 * block_words was_gone.block = omega (arith, some, gone_words) in
    let word' : 4 ≤ 4 * block_words o = omega (arith, some) in
    let within : 4 * length f.items ≤ 4 * block_words f = omega arith in
    let fewer : 4 * block_words f ≤ 4 * block_words was_from.block = omega (arith, from_words) in
    let first = no_further 0 0 gone from was_gone.block o go.old go.new fr.old fr.new shrinks distinct was_gone.found at_gone go.placed_old go.placed_new fr.placed_old fr.placed_new in
    let second = no_further 0 0 gone to was_gone.block o go.old go.new ta.old ta.new shrinks distinct was_gone.found at_gone go.placed_old go.placed_new ta.placed_old ta.placed_new in
    let third = no_further 0 0 from to was_from.block f fr.old fr.new ta.old ta.new shrinks distinct was_from.found at_from fr.placed_old fr.placed_new ta.placed_old ta.placed_new in
    by_places (address_of g) (address_of h) (length f.items) gone from to go.old go.new fr.old fr.new ta.old ta.new
    (address_is g gone go.old go.placed_old) (address_is h gone go.new go.placed_new) (address_is g from fr.old fr.placed_old) (address_is h from fr.new fr.placed_new) (address_is g to ta.old ta.placed_old) (address_is h to ta.new ta.placed_new)
    (nearer (4 * block_words was_from.block) (4 * block_words f) (length f.items) go.old go.new fr.old fr.new ta.old ta.new (lifted go.old fr.old) (lifted go.new fr.new) (lifted go.old ta.old) (lifted go.new ta.new) within fewer
    (lifts (4 * block_words was_gone.block) (4 * block_words o) go.old go.new fr.old fr.new word word' first) (lifts (4 * block_words was_gone.block) (4 * block_words o) go.old go.new ta.old ta.new word word' second) third)

-- a Branch reaches the target of a lone Jump once that is gone, where by the places of then it did
pub without_still : (g h : Graph) (block over to : ℕ) → HasDistinctKeys (named g.blocks) → Shrinks g.blocks h.blocks → IsGraph h → HasBlock h block → jump_from h over ≡ Some to → ReachesBy (address_of g) (length (items_of h block)) over block to → ReachesWithout h over block to
without_still g h block over to distinct shrinks rules has jump reach =
    let l = lone h over to jump in
    let f = of_some (block_of h block) has in
    let t = of_some (block_of h to) (jump_there h over to rules jump) in
    let one : 1 ≤ block_words l.block = omega (arith, ap (λ (is : List Item). length is) l.items, ap term_words l.term) in
    let same : length (items_of h block) ≡ length f.0.items = ap (λ o. length (block_items o)) f.1 in
    subst (λ n. ReachesBy (address_of h) n over block to) (sym same)
    (reaches_still g h over block to l.block f.0 t.0 distinct shrinks l.found one f.1 t.1 (subst (λ n. ReachesBy (address_of g) n over block to) same reach))
  where
    of_some : (o : Option Block) → IsSome o → (b : Block) × (o ≡ Some b)
    of_some None some = absurd (cc)
    of_some (Some b) some = (b, refl)
