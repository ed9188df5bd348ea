-- The names and procedures that a graph uses are there; a new name is not among them.
use Rattle.std.proofs.Common.{◌≡◌, ◌≢◌, ℕ, zero, suc, ◌<◌, List, [], ◌∷◌, ◌++◌, Option, Some, None, IsSome, length, slice_get, refl, sym, subst, arith}
use Rattle.std.specs.List.{Contains, flat_map, All}
use Rattle.std.proofs.lemmas.List.Elements.{Contains-append_left, Contains-append_right}
use Rattle.sq_graph.specs.declared.item.Item.{Item}
use Rattle.sq_graph.specs.Graph.{Block, Procedure, Graph}
use Rattle.sq_graph.specs.Blocks.{block_of, HasBlock, HasProcedure, items_of_blocks, items_of_bodies, all_items}
use Rattle.sq_graph.specs.Uses.{item_uses, term_uses, items_uses, terms_uses, code_word_uses, uses, item_calls, calls}
use Rattle.sq_graph.specs.Rules.{IsGraph, ProcedureFits}

pub contains_first : {X : Type 0} (x : X) (xs : List X) → Contains (x ∷ xs) x
contains_first x xs = (0, omega arith, refl)

pub contains_later : {X : Type 0} (y x : X) (xs : List X) → Contains xs x → Contains (y ∷ xs) x
contains_later y x xs c = (suc c.0, let l : c.0 < length xs = c.1 in omega arith, c.2)

-- each element has what all have
pub from_all : {X : Type 0} (P : X → Type 0) (xs : List X) (x : X) → All P xs → Contains xs x → P x
from_all P xs x h c = subst P c.2 (h c.0 x c.1)

-- what a flat map has of an element
pub flat_contains : {X Y : Type 0} (f : X → List Y) (xs : List X) (x : X) (y : Y) → Contains xs x → Contains (f x) y → Contains (flat_map f xs) y
flat_contains f [] x y c d = absurd (let l : c.0 < 0 = c.1 in omega arith)
flat_contains f (z ∷ xs) x y (zero, l, e) d = Contains-append_left (f z) (flat_map f xs) y (subst (λ w. Contains (f w) y) (sym e) d)
flat_contains f (z ∷ xs) x y (suc k, l, e) d = Contains-append_right (f z) (flat_map f xs) y (flat_contains f xs x y (k, omega arith, e) d)

pub from_slice : {X : Type 0} (xs : List X) (i : ℕ) (x : X) → slice_get xs i ≡ Some x → Contains xs x
from_slice [] i x e = absurd (cc)
from_slice (y ∷ xs) zero x e = let same : y ≡ x = let f : Some y ≡ Some x = e in cc in subst (λ z. Contains (y ∷ xs) z) same (contains_first y xs)
from_slice (y ∷ xs) (suc i) x e = contains_later y x xs (from_slice xs i x e)

module _ (g : Graph) (rules : IsGraph g) where
  -- every use is of a block
  used : (n : ℕ) → Contains (uses g) n → HasBlock g n
  used n c = from_all (HasBlock g) (uses g) n rules.named_all c

  rest_used : (n : ℕ) → Contains (terms_uses g.blocks ++ items_uses (all_items g)) n → HasBlock g n
  rest_used n c = used n (contains_later g.entry n (code_word_uses g.code_words ++ (terms_uses g.blocks ++ items_uses (all_items g))) (Contains-append_right (code_word_uses g.code_words) (terms_uses g.blocks ++ items_uses (all_items g)) n c))

  pub term_used : (b : Block) (n : ℕ) → Contains g.blocks b → Contains (term_uses b.term) n → HasBlock g n
  term_used b n c d = rest_used n (Contains-append_left (terms_uses g.blocks) (items_uses (all_items g)) n (flat_contains (λ (b : Block). term_uses b.term) g.blocks b n c d))

  pub item_used : (item : Item) (n : ℕ) → Contains (all_items g) item → Contains (item_uses item) n → HasBlock g n
  item_used item n c d = rest_used n (Contains-append_right (terms_uses g.blocks) (items_uses (all_items g)) n (flat_contains item_uses (all_items g) item n c d))

  pub item_called : (item : Item) (q : ℕ) → Contains (all_items g) item → Contains (item_calls item) q → HasProcedure g q
  item_called item q c d = from_all (HasProcedure g) (calls g) q rules.called_all (flat_contains item_calls (all_items g) item q c d)

  pub block_item : (b : Block) (item : Item) → Contains g.blocks b → Contains b.items item → Contains (all_items g) item
  block_item b item c d = Contains-append_left (items_of_blocks g.blocks) (items_of_bodies g.procedures) item (flat_contains (λ (b : Block). b.items) g.blocks b item c d)

  pub body_item : (p : Procedure) (item : Item) → Contains g.procedures p → Contains p.body item → Contains (all_items g) item
  body_item p item c d = Contains-append_right (items_of_blocks g.blocks) (items_of_bodies g.procedures) item (flat_contains (λ (p : Procedure). p.body) g.procedures p item c d)

  pub body_calls_none : (p : Procedure) (item : Item) → Contains g.procedures p → Contains p.body item → item_calls item ≡ []
  body_calls_none p item c d = from_all (λ item. item_calls item ≡ []) p.body item (from_all ProcedureFits g.procedures p rules.procedures c).no_calls d

-- a number below the length is there
pub slice_there : {X : Type 0} (xs : List X) (i : ℕ) → i < length xs → (x : X) × (slice_get xs i ≡ Some x)
slice_there [] i l = absurd (omega arith)
slice_there (x ∷ xs) zero l = (x, refl)
slice_there (x ∷ xs) (suc i) l = slice_there xs i (omega arith)

pub none_is_none : (o : Option Block) → o ≡ None → IsSome o → ⊥
none_is_none None e s = absurd (cc)
none_is_none (Some b) e s = absurd (cc)

-- no block has a name that is new
pub not_new : (g : Graph) (new n : ℕ) → block_of g new ≡ None → HasBlock g n → n ≢ new
not_new g new n e h same = none_is_none (block_of g new) e (subst (λ k. IsSome (block_of g k)) same h)
