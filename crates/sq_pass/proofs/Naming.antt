-- Blocks that keep their names.
use Rattle.std.proofs.Common.{◌≡◌, ℕ, ◌+◌, ◌==◌, if◌then◌else◌, List, [], ◌∷◌, map, Some, refl, sym}
use Rattle.sq_graph.specs.Blocks.{HasBlock}
use Rattle.sq_graph.specs.Graph.{Block, Graph}
use Rattle.sq_graph.specs.Renames.{renamed_block, renamed}
use Rattle.sq_graph.specs.Slotted.{number_in}
use Rattle.sq_pass.specs.Applied.{KeepsNames}

-- other names that tell this one from the others as the old ones do
same_number : (f : ℕ → ℕ) (bs : List Block) (k n : ℕ) → ((m : ℕ) → (f m == n) ≡ (m == n)) → number_in (map (λ b. b.name) bs) k n ≡ number_in (map (λ b. b.name) (map (renamed_block f) bs)) k n
same_number f [] k n tests = refl
same_number f (b ∷ bs) k n tests =
    λ i. if sym (tests b.name) i then Some k else same_number f bs (k + 1) n tests i

-- the new graph under other names, which the blocks of the old one keep
pub renamed_keeps : (old new : Graph) (f : ℕ → ℕ) → ((n : ℕ) → HasBlock old n → (m : ℕ) → (f m == n) ≡ (m == n)) → KeepsNames old (renamed f new) new
renamed_keeps old new f tests n has = same_number f new.blocks 0 n (tests n has)
