-- Bytes of the input moved to memory.
use Rattle.std.proofs.Common.{◌≡◌, ◌+◌, ℕ, List, take, drop, refl, sym, ap, ap₂, ◌∙◌, drop-drop}
use Rattle.sq_memory.specs.Cells.{Cells, with_cells}
use Rattle.sq_memory.specs.Regions.{Region, get, put_all}
use Rattle.sq_memory.proofs.RegionLaws.{get-put_all}
use Rattle.sq_machine.specs.State.{State, with_bytes, without_input}

pub input_taken : (s : State) (old new : List (Region ℕ)) (x count read end : ℕ) (items : List ℕ) → s.memory ≡ get old → s.input ≡ drop read items → end ≡ read + count → new ≡ put_all old x (take count (drop read items)) →
    record s { memory = get new; input = drop end items } ≡ without_input count (with_bytes x (take count s.input) s)
unfolding with_bytes without_input
input_taken s old new x count read end items m i e p =
    let written : get new ≡ with_cells s.memory x (take count s.input) = ap get p ∙ (get-put_all (take count (drop read items)) old x ∙ ap₂ (λ (mem : Cells ℕ) bytes. with_cells mem x bytes) (sym m) (ap (take count) (sym i))) in
    let left : drop end items ≡ drop count s.input = ap (λ n. drop n items) e ∙ sym (ap (drop count) i ∙ drop-drop count read items) in
    ap₂ (λ (memory : Cells ℕ) (input : List ℕ). record s { memory = memory; input = input }) written left

pub nothing_taken : (s : State) (x count : ℕ) → count ≡ 0 → s ≡ without_input count (with_bytes x (take count s.input) s)
unfolding with_bytes without_input
nothing_taken s x count e = rw e refl
