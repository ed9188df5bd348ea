-- One turn of a loop that writes cells, and of one that lays them.
use Rattle.std.proofs.Common.{◌≡◌, ℕ, ◌+◌, ◌<◌, List, [], ◌∷◌, ◌++◌, length, get_or, take, sym, ap, ◌∙◌, arith}
use Rattle.std.proofs.lemmas.Grind.{take_at_read, common_steps}
use Rattle.sq_memory.specs.Cells.{Cells, with_cell, with_cells}
use Rattle.sq_memory.specs.Regions.{region_cell}
use Rattle.sq_memory.proofs.RangeLaws.{with_cells-append}
use Rattle.sq_pages.specs.Pages.{over, one_cell}
use Rattle.sq_pages.proofs.Laying.{over_twice, region_more}

pub write_step : {C : Type 0} (m : Cells C) (x : ℕ) (cs : List C) (i : ℕ) (c : C) (now next : Cells C) → i < length cs → c ≡ get_or cs i c → now ≡ with_cells m x (take i cs) → next ≡ with_cell now (x + i) c → next ≡ with_cells m x (take (i + 1) cs)
write_step m x cs i c now next l e h p =
    let n : length (take i cs) ≡ i = grind (arith, common_steps) in
    p ∙ ap (λ k. with_cell k (x + i) c) h
    ∙ ap (λ q. with_cell (with_cells m x (take i cs)) (x + q) c) (sym n)
    ∙ sym (with_cells-append (take i cs) (c ∷ []) m x)
    ∙ ap (λ d. with_cells m x (take i cs ++ d ∷ [])) e
    ∙ ap (with_cells m x) (sym ((take_at_read cs i c l).1))

pub lay_step : {C : Type 0} (m : Cells C) (x : ℕ) (cs : List C) (i : ℕ) (c : C) (now next : Cells C) → i < length cs → c ≡ get_or cs i c → now ≡ over m (region_cell (record { start = x; cells = take i cs })) → next ≡ over now (one_cell (x + i) c) →
    next ≡ over m (region_cell (record { start = x; cells = take (i + 1) cs }))
lay_step m x cs i c now next l e h p =
    p ∙ ap (λ k. over k (one_cell (x + i) c)) h
    ∙ over_twice m (region_cell (record { start = x; cells = take i cs })) (one_cell (x + i) c)
    ∙ ap (λ d. over m (over (region_cell (record { start = x; cells = take i cs })) (one_cell (x + i) d))) e
    ∙ ap (over m) (region_more x cs i c l)
