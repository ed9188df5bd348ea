-- The places of a graph in their line.
use Rattle.std.proofs.Common.{ℕ, zero, suc, ◌+◌, ◌≤◌, List, [], ◌∷◌, length, refl, sym, subst, arith}
use Rattle.std.specs.Prelude.{Contains}
use Rattle.std.proofs.lemmas.List.Elements.{Contains-append_left, Contains-append_right}
use Rattle.sq_graph.specs.Graph.{Graph}
use Rattle.sq_graph.specs.Blocks.{HasBlock, items_of}
use Rattle.sq_graph.specs.Parts.{names_of}
use Rattle.sq_finger.specs.declared.places.WindowAt.{WindowAt}
use Rattle.sq_finger.specs.Lines.{block_line, line_in, line_of}
use Rattle.sq_finger.proofs.Layouts.{names_are}

at_first : (p : WindowAt) (ps : List WindowAt) → Contains (p ∷ ps) p
at_first p ps = (0, omega arith, refl)

at_later : (p q : WindowAt) (ps : List WindowAt) → Contains ps q → Contains (p ∷ ps) q
at_later p q ps (k, there, is) = (suc k, omega (arith, there), is)

block_has : (block at ahead k : ℕ) → k ≤ ahead → Contains (block_line block at ahead) (record { block = block; at = at + k })
block_has block at zero k l = subst (λ n. Contains (block_line block at 0) (record { block = block; at = n })) (omega (arith, l)) (at_first (record { block = block; at = at }) [])
block_has block at (suc ahead) zero l =
    subst (λ n. Contains (block_line block at (suc ahead)) (record { block = block; at = n })) (omega arith) (at_first (record { block = block; at = at }) (block_line block (at + 1) ahead))
block_has block at (suc ahead) (suc k) l =
    at_later (record { block = block; at = at }) (record { block = block; at = at + suc k }) (block_line block (at + 1) ahead)
    (subst (λ n. Contains (block_line block (at + 1) ahead) (record { block = block; at = n })) (omega arith) (block_has block (at + 1) ahead k (omega (arith, l))))

line_has : (g : Graph) (names : List ℕ) (block at : ℕ) → Contains names block → at ≤ length (items_of g block) → Contains (line_in g names) (record { block = block; at = at })
line_has g [] block at (k, there, is) l = absurd (omega (arith, there))
line_has g (name ∷ names) block at (zero, there, is) l =
    Contains-append_left (block_line name 0 (length (items_of g name))) (line_in g names) (record { block = block; at = at })
    (subst (λ n. Contains (block_line n 0 (length (items_of g n))) (record { block = block; at = at })) (sym is)
    (subst (λ n. Contains (block_line block 0 (length (items_of g block))) (record { block = block; at = n })) (omega arith) (block_has block 0 (length (items_of g block)) at l)))
line_has g (name ∷ names) block at (suc k, there, is) l =
    Contains-append_right (block_line name 0 (length (items_of g name))) (line_in g names) (record { block = block; at = at })
    (line_has g names block at (k, omega (arith, there), is) l)

-- each place of a block is in it
pub place_listed : (g : Graph) (block at : ℕ) → HasBlock g block → at ≤ length (items_of g block) → Contains (line_of g) (record { block = block; at = at })
place_listed g block at there l = line_has g (names_of g) block at ((names_are g block).1 there) l
