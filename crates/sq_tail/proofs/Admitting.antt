-- What is found and admitted is a candidate, and what a candidate makes of a graph keeps what a pass promises.
use Rattle.std.proofs.Common.{◌≡◌, ◌≢◌, ℕ, ◌+◌, ◌-◌, ◌≤◌, [], ◌∷◌, length, drop, inl, inr, refl, sym, ap, ◌∙◌, subst, arith}
use Rattle.sq_graph.specs.Graph.{Graph}
use Rattle.sq_graph.specs.Blocks.{items_of}
use Rattle.sq_graph.specs.Rules.{IsGraph}
use Rattle.sq_graph.specs.Words.{words_of}
use Rattle.sq_pass.specs.Applied.{IsApplied}
use Rattle.sq_pass.specs.Cuts.{IsCompleted}
use Rattle.sq_pass.specs.declared.cut.Cut.{Cut}
use Rattle.sq_pass.specs.declared.cut.Row.TheVariants.{U, T}
use Rattle.sq_tail.specs.Admitted.{TwoBlocks, CanJoin, Saves}
use Rattle.sq_tail.specs.Bodies.{IsBodyPair}
use Rattle.sq_tail.specs.Candidates.{IsBodyCut, IsCandidate, described}
use Rattle.sq_tail.specs.Ends.{HaveEnd}
use Rattle.sq_tail.specs.Tails.{end_words, tail_cut, AreTails, fresh, joined, tails_joined, IsJoined}
use Rattle.sq_tail.proofs.Applying.{tail_applied, body_applied, tail_ends, body_ends}
use Rattle.sq_tail.proofs.Naming.{fresh_is_new}
use Rattle.sq_tail.proofs.Cutting.{end_cut, cut_end, ends_there}

-- WHAT IS FOUND

pub body_cut : (g : Graph) (dropped kept : ℕ) (cut : Cut) → IsBodyPair g dropped kept → cut ≡ tail_cut g dropped kept (length (items_of g kept)) → IsBodyCut g cut
body_cut g dropped kept cut pair is = record {
  dropped = dropped;
  kept = kept;
  bodies = pair.bodies;
  plain = pair.plain;
  is = is;
  some = subst (λ (given : Cut). 1 ≤ given.saving) (sym is) pair.some;
}

pub body_pair : (g : Graph) (cut : Cut) (is : IsBodyCut g cut) → IsBodyPair g is.dropped is.kept
body_pair g cut is = record { bodies = is.bodies; plain = is.plain; some = subst (λ (given : Cut). 1 ≤ given.saving) is.is is.some }

-- WHAT IS ADMITTED

pub completed_is : (g : Graph) (cut given : Cut) (dropped kept saving : ℕ) → TwoBlocks cut dropped kept → Saves g dropped cut.length saving → given ≡ record cut { link = 0; saving = saving } → given ≡ tail_cut g dropped kept cut.length
completed_is g cut given dropped kept saving two saves is =
    is ∙ (λ i. record { row = two.row i; blocks = two.blocks i; procedure = two.procedure i; other = two.other i; length = cut.length; link = 0; saving = saves.0 i })

pub joined_candidate : (g : Graph) (dropped kept k : ℕ) (cut : Cut) → CanJoin g dropped kept k → 1 ≤ k - 1 + end_words g dropped → cut ≡ tail_cut g dropped kept k → IsCandidate g cut
joined_candidate g dropped kept k cut can saves is =
    elim can [
      | inl end ↦ inl (end_cut g dropped kept k cut end saves is)
      | inr (whole, pair) ↦ inr (body_cut g dropped kept cut pair (is ∙ ap (tail_cut g dropped kept) whole))
    ]

pub completed_by : (cut : Cut) (saving : ℕ) → IsCompleted cut (record cut { link = 0; saving = saving })
completed_by cut saving = record { row = refl; blocks = λ other. refl; procedure = refl; other = refl; length = refl }

pub admitted : (g : Graph) (cut given : Cut) (dropped kept saving : ℕ) → TwoBlocks cut dropped kept → CanJoin g dropped kept cut.length → Saves g dropped cut.length saving → given ≡ record cut { link = 0; saving = saving } → IsCandidate g given × IsCompleted cut given
admitted g cut given dropped kept saving two can saves is = (
  joined_candidate g dropped kept cut.length given can (omega (arith, saves.0, saves.1)) (completed_is g cut given dropped kept saving two saves is),
  subst (IsCompleted cut) (sym is) (completed_by cut saving),
)

-- the two blocks of a candidate
pub record IsJoinable (g : Graph) (cut : Cut) : Type 0 where
  pub dropped : ℕ
  pub kept : ℕ
  pub two : TwoBlocks cut dropped kept
  pub can : CanJoin g dropped kept cut.length
  pub saves : Saves g dropped cut.length cut.saving

tail_two : (g : Graph) (dropped kept k : ℕ) (cut : Cut) → cut ≡ tail_cut g dropped kept k → TwoBlocks cut dropped kept
tail_two g dropped kept k cut is = record { row = ap (λ (c : Cut). c.row) is; blocks = ap (λ (c : Cut). c.blocks) is; procedure = ap (λ (c : Cut). c.procedure) is; other = ap (λ (c : Cut). c.other) is }

pub joinable : (g : Graph) (cut : Cut) → IsCandidate g cut → IsJoinable g cut
joinable g cut (inl tail) =
    let n = ap (λ (c : Cut). c.length) tail.is in
    let saving = ap (λ (c : Cut). c.saving) tail.is in
    record {
      dropped = tail.dropped;
      kept = tail.kept;
      two = tail_two g tail.dropped tail.kept _ cut tail.is;
      can = inl (subst (HaveEnd g tail.dropped tail.kept) (sym n) (cut_end g cut tail));
      saves = (saving ∙ ap (λ k. k - 1 + end_words g tail.dropped) (sym n), tail.some);
    }
joinable g cut (inr body) =
    let n = ap (λ (c : Cut). c.length) body.is in
    let saving = ap (λ (c : Cut). c.saving) body.is in
    record {
      dropped = body.dropped;
      kept = body.kept;
      two = tail_two g body.dropped body.kept _ cut body.is;
      can = inr (n, body_pair g cut body);
      saves = (saving ∙ ap (λ k. k - 1 + end_words g body.dropped) (sym n), body.some);
    }

-- the same of the cut that it completes
pub completes : (g : Graph) (cut given : Cut) → IsCompleted cut given → IsCandidate g given → (dropped : ℕ) × ((kept : ℕ) × (TwoBlocks cut dropped kept × (CanJoin g dropped kept cut.length × ((saving : ℕ) × Saves g dropped cut.length saving))))
completes g cut given completed candidate =
    let j = joinable g given candidate in
    let row : cut.row ≡ T = sym completed.row ∙ j.two.row in
    let apart : cut.row ≢ U = λ e. let same : T ≡ U = sym row ∙ e in cc in (
      j.dropped,
      (
        j.kept,
        (
          record { row = row; blocks = sym (completed.blocks apart) ∙ j.two.blocks; procedure = sym completed.procedure ∙ j.two.procedure; other = sym completed.other ∙ j.two.other },
          (subst (CanJoin g j.dropped j.kept) completed.length j.can, (given.saving, subst (λ k. Saves g j.dropped k given.saving) completed.length j.saves)),
        ),
      ),
    )

-- a cut has one pair of blocks
pub one_pair : (cut : Cut) (dropped kept first second : ℕ) → TwoBlocks cut dropped kept → TwoBlocks cut first second → (dropped ≡ first) × (kept ≡ second)
one_pair cut dropped kept first second two other =
    let same : dropped ∷ kept ∷ [] ≡ first ∷ second ∷ [] = sym two.blocks ∙ other.blocks in
    (cc, cc)

-- WHAT IS APPLIED

pub tails_there : (g : Graph) (cut : Cut) (dropped kept : ℕ) → IsCandidate g cut → cut.blocks ≡ dropped ∷ kept ∷ [] → AreTails g dropped kept cut.length
tails_there g cut dropped kept candidate blocks =
    let tails = by_kind candidate in
    let same : tails.0 ∷ tails.1.0 ∷ [] ≡ dropped ∷ kept ∷ [] = sym tails.1.1.0 ∙ blocks in
    let first : tails.0 ≡ dropped = cc in
    let second : tails.1.0 ≡ kept = cc in
    subst (λ d. AreTails g d kept cut.length) first (subst (λ k. AreTails g tails.0 k cut.length) second tails.1.1.1)
  where
    by_kind : IsCandidate g cut → (d : ℕ) × ((k : ℕ) × ((cut.blocks ≡ d ∷ k ∷ []) × AreTails g d k cut.length))
    by_kind (inl tail) =
        let ends = ends_there g tail.dropped tail.at tail.kept tail.from _ tail.tail.other (tail_ends g tail.dropped tail.at tail.kept tail.from tail.tail) in
        (tail.dropped, (tail.kept, (ap (λ (c : Cut). c.blocks) tail.is, subst (AreTails g tail.dropped tail.kept) (sym (ap (λ (c : Cut). c.length) tail.is)) ends)))
    by_kind (inr body) =
        let ends = ends_there g body.dropped 0 body.kept 0 _ body.bodies.other (body_ends g body.dropped body.kept body.bodies) in
        (body.dropped, (body.kept, (ap (λ (c : Cut). c.blocks) body.is, subst (AreTails g body.dropped body.kept) (sym (ap (λ (c : Cut). c.length) body.is)) ends)))

pub candidate_applied : (g h : Graph) (cut : Cut) (dropped kept : ℕ) → IsGraph g → IsCandidate g cut → cut.blocks ≡ dropped ∷ kept ∷ [] → IsJoined g dropped kept cut.length h → IsApplied cut.saving (described g cut) g h
candidate_applied g h cut dropped kept rules (inl tail) blocks (new, (unused, is)) =
    let n = length (drop tail.from (items_of g tail.kept)) in
    let same : tail.dropped ∷ tail.kept ∷ [] ≡ dropped ∷ kept ∷ [] = sym (ap (λ (c : Cut). c.blocks) tail.is) ∙ blocks in
    let first : dropped ≡ tail.dropped = cc in
    let second : kept ≡ tail.kept = cc in
    let count = ap (λ (c : Cut). c.length) tail.is in
    let made = is ∙ (λ i. joined g new (first i) (second i) (count i)) in
    subst (λ (c : Cut). IsApplied c.saving (described g c) g h) (sym tail.is)
    (subst (λ k. IsApplied (n - 1 + end_words g tail.dropped) (tails_joined g tail.dropped tail.kept n) g k) (sym made) (tail_applied g new tail.dropped tail.at tail.kept tail.from rules unused tail.tail))
candidate_applied g h cut dropped kept rules (inr body) blocks (new, (unused, is)) =
    let n = length (items_of g body.kept) in
    let same : body.dropped ∷ body.kept ∷ [] ≡ dropped ∷ kept ∷ [] = sym (ap (λ (c : Cut). c.blocks) body.is) ∙ blocks in
    let first : dropped ≡ body.dropped = cc in
    let second : kept ≡ body.kept = cc in
    let count = ap (λ (c : Cut). c.length) body.is in
    let made = is ∙ (λ i. joined g new (first i) (second i) (count i)) in
    subst (λ (c : Cut). IsApplied c.saving (described g c) g h) (sym body.is)
    (subst (λ k. IsApplied (n - 1 + end_words g body.dropped) (tails_joined g body.dropped body.kept n) g k) (sym made) (body_applied g new body.dropped body.kept rules body.bodies))

-- a graph with a candidate has a word
pub some_words : (g : Graph) (cut : Cut) → IsGraph g → IsCandidate g cut → 1 ≤ words_of g
some_words g cut rules candidate =
    let j = joinable g cut candidate in
    let applied = candidate_applied g (joined g (fresh g) j.dropped j.kept cut.length) cut j.dropped j.kept rules candidate j.two.blocks (fresh g, (fresh_is_new g, refl)) in
    omega (arith, applied.words, j.saves.1)
