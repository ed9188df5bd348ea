-- A graph in which one block becomes others follows it, where the block goes on like what it becomes.
use Rattle.std.proofs.Common.{◌≡◌, ℕ, List, [], ◌∷◌, ◌++◌, map, refl, ap}
use Rattle.std.specs.List.{Contains}
use Rattle.sq_graph.specs.Graph.{Block, Graph}
use Rattle.sq_graph.specs.Lines.{lines_of}
use Rattle.law_patch.specs.LiveAgreement.{MakeTargets}
use Rattle.law_patch.proofs.Lines.{made_behind}
use Rattle.law_patch.proofs.Used.{contains_later}

-- a split of the list, with the first of the rest one further
pub ahead : (front : List Block) (x : Block) (bs : List Block) → (front ++ x ∷ []) ++ bs ≡ front ++ (x ∷ bs)
ahead [] x bs = refl
ahead (y ∷ front) x bs = ap (λ ys. y ∷ ys) (ahead front x bs)

pub in_tail : (front bs : List Block) (b : Block) → Contains bs b → Contains (front ++ bs) b
in_tail [] bs b c = c
in_tail (y ∷ front) bs b c = contains_later y b (front ++ bs) (in_tail front bs b c)

-- what lines make from a tail on
blocks_made : (g : Graph) (b : Block) (bs : List Block) → MakeTargets g (lines_of (b ∷ bs)) → MakeTargets g (lines_of bs)
blocks_made g b bs m = made_behind g b.items b.term (lines_of bs) m

pub tail_made : (g : Graph) (front bs : List Block) → MakeTargets g (lines_of (front ++ bs)) → MakeTargets g (lines_of bs)
tail_made g [] bs m = m
tail_made g (y ∷ front) bs m = tail_made g front bs (blocks_made g y (front ++ bs) m)

pub same_map : (xs : List ℕ) → xs ≡ map (λ n. n) xs
same_map [] = refl
same_map (x ∷ xs) = ap (λ ys. x ∷ ys) (same_map xs)
