-- A cut that is applied at its block.
use Rattle.std.proofs.Common.{◌≡◌, ◌≢◌, Result, Ok, Err, Option, None, Some, inl, inr, ℕ, ◌<◌, List, [], ◌∷◌, length, get_or, sym, ap, ◌∙◌, subst, arith}
use Rattle.std.specs.Prelude.{IfOk, IfSome}
use Rattle.std.specs.List.{All}
use Rattle.sq_graph.specs.declared.item.Term.TheVariants.{Jump, Branch, PartJump}
use Rattle.sq_graph.specs.Graph.{Graph}
use Rattle.sq_graph.specs.Blocks.{HasBlock}
use Rattle.sq_graph.specs.Parts.{names_of}
use Rattle.sq_graph.specs.Rules.{IsGraph}
use Rattle.sq_pass.specs.declared.cut.Cut.{Cut}
use Rattle.sq_pass.specs.declared.cut.Row.{Row}
use Rattle.sq_pass.specs.declared.cut.Row.TheVariants.{U, J1, J2, J3, C, T, O1, O2, O3, O4, W, V, L}
use Rattle.sq_pass.specs.Applied.{IsApplied}
use Rattle.sq_pass.specs.Cuts.{IsCompleted}
use Rattle.sq_num.specs.declared.memory.Memory.{Memory}
use Rattle.sq_jumps.specs.Candidates.{HasRow, IsJumpCut, IsUnreachedCut, IsCandidate, rewritten, described}
use Rattle.sq_jumps.specs.Unreached.{words_gone, without_all}
use Rattle.sq_lookup.proofs.Targets.{name_listed, has_term, lone, has_lone}
use Rattle.sq_jumps.proofs.UnreachedLeft.{unreached_applied}

-- a row that is known is applied at its block
pub row_applied : (row known : Row) (g new : Graph) (block : ℕ) → row ≡ known → HasRow row g block → (HasRow known g block → IsApplied 1 (rewritten known g (block ∷ [])) g (rewritten known g (block ∷ []))) → new ≡ rewritten known g (block ∷ []) → IsApplied 1 (rewritten row g (block ∷ [])) g new
row_applied row known g new block is has applied made =
    subst (λ r. IsApplied 1 (rewritten r g (block ∷ [])) g new) (sym is)
    (subst (λ h. IsApplied 1 (rewritten known g (block ∷ [])) g h) (sym made) (applied (subst (λ r. HasRow r g block) is has)))

-- what a row makes of the graph at the block of a cut is what the cut describes
pub applied_at : (g new : Graph) (cut : Cut) (block : ℕ) → (jump : IsJumpCut g cut) → block ≡ jump.block → IsApplied 1 (rewritten cut.row g (block ∷ [])) g new → IsApplied cut.saving (described g cut) g new
applied_at g new cut block jump same applied =
    let blocks : cut.blocks ≡ block ∷ [] = ap (λ (given : Cut). given.blocks) jump.is ∙ ap (λ n. n ∷ []) (sym same) in
    subst (λ n. IsApplied n (described g cut) g new) (sym (ap (λ (given : Cut). given.saving) jump.is)) (subst (λ ns. IsApplied 1 (rewritten cut.row g ns) g new) (sym blocks) applied)

-- a cut of another row isn't one of these
pub jump_of : (g : Graph) (cut : Cut) → IsCandidate g cut → cut.row ≢ U → IsJumpCut g cut
jump_of g cut (inl unreached) other = absurd (other unreached.row)
jump_of g cut (inr jump) other = jump

pub unreached_of : (g : Graph) (cut : Cut) → IsCandidate g cut → cut.row ≡ U → IsUnreachedCut g cut
unreached_of g cut (inl unreached) row = unreached
unreached_of g cut (inr jump) row = absurd (subst (λ r. HasRow r g jump.block) row jump.has_row)

pub unreached_gone : (g new : Graph) (cut : Cut) → IsGraph g → IsUnreachedCut g cut → IsGraph new → new ≡ without_all g cut.blocks → IsApplied cut.saving (described g cut) g new
unreached_gone g new cut rules u rules' is =
    let applied = unreached_applied g cut.blocks rules u.unreached (subst IsGraph is rules') in
    subst (λ n. IsApplied n (described g cut) g new) (sym u.saving)
    (subst (λ r. IsApplied (words_gone g cut.blocks) (rewritten r g cut.blocks) g new) (sym u.row) (subst (λ h. IsApplied (words_gone g cut.blocks) (without_all g cut.blocks) g h) (sym is) applied))

-- a block for which a row is is there
row_there : (row : Row) (g : Graph) (block : ℕ) → HasRow row g block → HasBlock g block
row_there U g block has = absurd has
row_there J1 g block has = has_term g block (Jump has.to) has.jump
row_there J2 g block has = has_lone g block has.to (lone g block has.to has.leads.jump)
row_there J3 g block has = has_term g block (Branch has.cond has.a has.b has.behind) has.jumped.branch
row_there C g block has = has_term g block (PartJump has.link has.part has.to) has.shortable.jump
row_there T g block has = absurd has
row_there O1 g block has = absurd has
row_there O2 g block has = absurd has
row_there O3 g block has = absurd has
row_there O4 g block has = absurd has
row_there W g block has = absurd has
row_there V g block has = absurd has
row_there L g block has = absurd has

-- where no block is a candidate, no cut is
pub no_cut : (g : Graph) (names : List ℕ) → names ≡ names_of g → All (λ block. (row : Row) → ¬ HasRow row g block) names → (cut : Cut) → IsJumpCut g cut → ⊥
no_cut g names are none cut candidate =
    let at = name_listed g.blocks candidate.block (row_there cut.row g candidate.block candidate.has_row) in
    let block_is : get_or names at.0 0 ≡ candidate.block = ap (λ ns. get_or ns at.0 0) are ∙ at.2 in
    let within : at.0 < length names = omega (arith, at.1, ap (λ ns. length ns) are) in
    none at.0 0 within cut.row (subst (λ b. HasRow cut.row g b) (sym block_is) candidate.has_row)

-- a jump cut has one block
pub one_block : (g : Graph) (cut : Cut) (xs : List ℕ) → xs ≡ cut.blocks → (jump : IsJumpCut g cut) → (0 < length xs) × (get_or xs 0 0 ≡ jump.block)
one_block g cut xs e jump =
    let is : xs ≡ jump.block ∷ [] = e ∙ ap (λ (given : Cut). given.blocks) jump.is in
    (omega (arith, ap (λ (ys : List ℕ). length ys) is), ap (λ ys. get_or ys 0 0) is)

-- what is given for a cut of another row
pub given_jump : (g : Graph) (cut : Cut) (r : Result (Option Cut) Memory) → IfOk r (λ found. IfSome found (λ given. IsJumpCut g given × IsCompleted cut given)) → IfOk r (λ found. IfSome found (λ given. IsCandidate g given × IsCompleted cut given))
given_jump g cut (Ok None) e = e
given_jump g cut (Ok (Some given)) e = (inr e.0, e.1)
given_jump g cut (Err memory) e = e
