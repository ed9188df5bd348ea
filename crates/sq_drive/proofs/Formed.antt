-- A step that is a candidate has its form.
use Rattle.std.proofs.Common.{◌≡◌, ◌≢◌, ℕ, true, List, [], ◌∷◌, length, IsTrue, inl, inr, refl, sym, ap, ◌∙◌, subst, arith}
use Rattle.std.proofs.lemmas.Bool.Decides.{nat_tests}
use Rattle.std.proofs.lemmas.Map.Made.{distinct_count-from_IsDistinct}
use Rattle.std.specs.Cmp.{nat_eq_equiv}
use Rattle.std.specs.Prelude.{nat_eq, nat_le}
use Rattle.std.specs.Set.{distinct_count}
use Rattle.sq_graph.specs.Graph.{Graph}
use Rattle.sq_pass.specs.declared.cut.Cut.{Cut}
use Rattle.sq_pass.specs.declared.cut.Row.{Row}
use Rattle.sq_pass.specs.declared.cut.Row.TheVariants as row_is
use Rattle.sq_cert.specs.declared.step.Step.{Step}
use Rattle.sq_cert.specs.declared.step.Step.TheVariants.{O1}
use Rattle.sq_cert.specs.Steps.{is_set, IsSetOf}
use Rattle.sq_jumps.specs.Candidates.{HasRow}
use Rattle.sq_outline.specs.Candidates.{IsCutOf}
use Rattle.sq_outline.specs.WindowsCandidates.{IsWindowsCutOf}
use Rattle.sq_outline.specs.Made.{IsMade}
use Rattle.sq_drive.specs.Replay.{MayStep}
use Rattle.sq_drive.specs.Rows.{IsCandidate}

same_test : (m n : ℕ) → m ≡ n → nat_eq m n ≡ true
same_test m n same = grind (arith, nat_tests)

-- there are at least two blocks, since fewer save no word
some_others : (g : Graph) (first : ℕ) (others : List ℕ) (link saving : ℕ) → IsMade g first others link saving → IsTrue (is_set (first ∷ others))
some_others g first [] link saving made = absurd (omega (arith, made.saves, made.some))
some_others g first (other ∷ others) link saving made =
    let blocks : List ℕ = first ∷ other ∷ others in
    let many : nat_le 2 (length (first ∷ other ∷ others)) ≡ true = grind (arith, nat_tests) in
    let apart : nat_eq (distinct_count nat_eq (first ∷ other ∷ others)) (length (first ∷ other ∷ others)) ≡ true = same_test (distinct_count nat_eq blocks) (length blocks) (distinct_count-from_IsDistinct nat_eq_equiv blocks made.distinct) in
    rw (many, apart) refl

outline_set : (row : Row) (g : Graph) (cut : Cut) → row ≡ row_is.O1 → IsCutOf row g cut → IsTrue (is_set cut.blocks)
outline_set row_is.O1 g cut is made =
    subst (λ blocks. IsTrue (is_set blocks)) (sym (ap (λ (c : Cut). c.blocks) made.is)) (some_others g made.first made.others cut.link cut.saving made.made)
outline_set row g cut is outline = let no : row ≡ row_is.O1 = is in absurd (cc no)

row_set : (g : Graph) (cut : Cut) → IsCandidate g cut → cut.row ≡ row_is.O1 → IsTrue (is_set cut.blocks)
row_set g cut (inl (inl (inl unreached))) is = let no : row_is.U ≡ row_is.O1 = sym unreached.row ∙ is in absurd (cc no)
row_set g cut (inl (inl (inr jump))) is = absurd (subst (λ row. HasRow row g jump.block) is jump.has_row)
row_set g cut (inl (inr (inl (inl tail)))) is = let no : row_is.T ≡ row_is.O1 = sym (ap (λ (c : Cut). c.row) tail.is) ∙ is in absurd (cc no)
row_set g cut (inl (inr (inl (inr body)))) is = let no : row_is.T ≡ row_is.O1 = sym (ap (λ (c : Cut). c.row) body.is) ∙ is in absurd (cc no)
row_set g cut (inl (inr (inr (inl outline)))) is = outline_set cut.row g cut is outline
row_set g cut (inl (inr (inr (inr window)))) is = absurd (subst (λ row. IsWindowsCutOf row g cut) is window)
row_set g cut (inr move) is = let no : row_is.L ≡ row_is.O1 = sym (ap (λ (c : Cut). c.row) move.is) ∙ is in absurd (cc no)

-- the blocks of O1 are a set
pub set_stepped : (g : Graph) (step : Step) → MayStep g step → IsSetOf step
set_stepped g (O1 blocks) may =
    let other : row_is.O1 ≢ row_is.U = λ same. cc same in
    subst (λ names. IsTrue (is_set names)) (may.completed.blocks other) (row_set g may.cut may.candidate may.completed.row)
set_stepped g step may = tt
