-- A graph in which no block jumps to its next slot.
use Rattle.std.proofs.Common.{◌≡◌, ℕ, ◌≤◌, ◌==◌, List, [], ◌∷◌, sum_by, inl, inr, refl, ap, ◌∙◌, arith}
use Rattle.std.proofs.lemmas.Bool.{cases_Bool}
use Rattle.std.proofs.lemmas.List.Sums.{sum_by-cons}
use Rattle.sq_graph.specs.declared.item.Term.{Term}
use Rattle.sq_graph.specs.declared.item.Term.TheVariants.{Fall, Jump, Branch, Call, PartJump, Indirect, Stop}
use Rattle.sq_graph.specs.Graph.{Block, Graph}
use Rattle.sq_graph.specs.Words.{term_words, block_words, words_of}
use Rattle.sq_layout.specs.Weights.{address_by}
use Rattle.sq_chain.specs.Moves.{fallen_term, fallen_blocks, fallen}
use Rattle.sq_chain.specs.Surveys.{IsSurvey}
use Rattle.sq_chain.specs.declared.survey.Survey.{Survey}
use Rattle.sq_chain.specs.Places.{placed_at}
use Rattle.sq_chain.proofs.Lighter.{fallen_light, fallen_most}

term_kept : (n : ℕ) (t : Term) → term_words t ≤ term_words (fallen_term n t) → fallen_term n t ≡ t
term_kept n Fall same = refl
term_kept n (Jump to) same = elim (cases_Bool (to == n)) [ inl falls ↦ absurd (omega (arith, rw falls at same)) | inr apart ↦ rw apart refl ]
term_kept n (Branch cond a b to) same = refl
term_kept n (Call link to) same = refl
term_kept n (PartJump link part to) same = refl
term_kept n (Indirect link x offset) same = refl
term_kept n (Stop word) same = refl

-- where no word is saved none falls
none_falls : (bs : List Block) → sum_by block_words bs ≤ sum_by block_words (fallen_blocks bs) → fallen_blocks bs ≡ bs
none_falls [] same = refl
none_falls (b ∷ []) same = refl
none_falls (b ∷ next ∷ rest) same =
    let c : Block = record b { term = fallen_term next.name b.term } in
    let light = fallen_light next.name b.term in
    let most = fallen_most (next ∷ rest) in
    let sum = sum_by-cons block_words b (next ∷ rest) in
    let sum' = sum_by-cons block_words c (fallen_blocks (next ∷ rest)) in
    ap (λ (t : Term). record b { term = t } ∷ fallen_blocks (next ∷ rest)) (term_kept next.name b.term (omega (arith, same, most, sum, sum')))
    ∙ ap (λ (bs : List Block). b ∷ bs) (none_falls (next ∷ rest) (omega (arith, same, light, sum, sum')))

pub stays : (g : Graph) → words_of (fallen g) ≡ words_of g → fallen_blocks g.blocks ≡ g.blocks
stays g same = none_falls g.blocks (omega (arith, same))

-- by the survey of a graph in which none falls
pub addresses_stay : (g : Graph) (survey : Survey) → IsSurvey g survey → survey.falls ≡ 0 → (n : ℕ) → placed_at survey.places.addresses n ≡ address_by block_words g.blocks 0 n
addresses_stay g survey s none n = s.addresses n ∙ ap (λ (bs : List Block). address_by block_words bs 0 n) (stays g (omega (arith, s.falls, none)))
