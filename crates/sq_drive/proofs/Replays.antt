-- The steps of a replay.
use Rattle.std.proofs.Common.{◌≡◌, ◌≢◌, ℕ, ◌+◌, ◌≤◌, List, [], ◌∷◌, ◌++◌, inl, inr, refl, sym, ap, ◌∙◌, subst, arith}
use Rattle.std.proofs.lemmas.List.Elements.{All-head}
use Rattle.sq_graph.specs.declared.item.Term.TheVariants.{Jump}
use Rattle.sq_graph.specs.Alike.{AreAlike}
use Rattle.sq_graph.specs.Blocks.{HasBlock}
use Rattle.sq_graph.specs.Canonical.{canonical_of}
use Rattle.sq_graph.specs.Graph.{Graph}
use Rattle.sq_graph.specs.Leaders.{IsCanonical}
use Rattle.sq_graph.specs.Rules.{IsGraph}
use Rattle.sq_graph.specs.Slotted.{slotted, IsSlotted}
use Rattle.sq_graph.specs.Words.{words_of}
use Rattle.sq_graph.proofs.AlikeCanonical.{alike_canonical}
use Rattle.sq_graph.proofs.CanonicalLaws.{canonical_is_graph}
use Rattle.sq_graph.proofs.RenamedReach.{alike_words}
use Rattle.sq_graph.proofs.Slotting.{one_slotted}
use Rattle.law_follow.specs.Follows.{Follows}
use Rattle.law_follow.proofs.Following.{graph_follows_itself}
use Rattle.sq_lookup.proofs.Targets.{has_term, targets_there}
use Rattle.sq_pass.specs.declared.cut.Cut.{Cut}
use Rattle.sq_pass.specs.declared.cut.Row.TheVariants.{U, L}
use Rattle.sq_pass.specs.Applied.{IsApplied}
use Rattle.sq_pass.specs.Cuts.{IsCompleted}
use Rattle.sq_pass.specs.Rewrites.{IsLighter}
use Rattle.sq_pass.proofs.Rewriting.{lighter_itself, lighter_through, lighter_made}
use Rattle.sq_cert.specs.declared.step.Step.{Step}
use Rattle.sq_chain.specs.Candidates.{cut_of as chain_cut, IsCandidate as IsMove, IsMoved}
use Rattle.sq_chain.specs.Moves.{IsMovable, moved}
use Rattle.sq_drive.specs.Replay.{IsGiven, IsTaken, IsStep, IsReplay}
use Rattle.sq_drive.specs.Replaying.{IsLess, move_cut}
use Rattle.sq_drive.specs.Rows.{IsRowCandidate, row_described, IsCandidate, described}
use Rattle.sq_drive.proofs.Moves.{not_moved, row_made}
use Rattle.sq_drive.proofs.Rewrites.{made_canonical}
use Rattle.sq_drive.proofs.Slots.{slotted_lighter}

pub follows_same : (old new : Graph) → new ≡ old → Follows old new
follows_same old new same = subst (Follows old) (sym same) (graph_follows_itself old)

-- THE GRAPH IS TIDIED

pub tidy_lighter : (old mid new : Graph) → IsGraph old → IsGraph mid → mid ≡ canonical_of old → IsCanonical mid → words_of mid ≡ words_of old → new ≡ slotted mid → IsLighter 0 old new
tidy_lighter old mid new rules kept made canonical words named =
    subst (IsLighter 0 old) (sym named)
    (lighter_through 0 0 old mid (slotted mid) (made_canonical old mid rules made canonical words) (slotted_lighter mid kept canonical))

-- a graph that differs from another one in names alone leads to the same next graph
pub same_next : (mid described : Graph) → IsGraph mid → AreAlike mid described → slotted (canonical_of mid) ≡ slotted (canonical_of described)
same_next mid described rules alike =
    sym (one_slotted (canonical_of mid) (canonical_of described) (canonical_is_graph mid rules) (alike_canonical mid described rules alike))

-- A CUT IS TAKEN

pub taken_by : (told given : Cut) (old mid new : Graph) → IsCompleted told given → IsCandidate old given → IsApplied given.saving (described old given) old mid → new ≡ slotted (canonical_of mid) → IsTaken told old new
taken_by told given old mid new completed candidate applied tidied = record {
  given = record { cut = given; completed = completed; candidate = candidate };
  is = tidied ∙ same_next mid (described old given) applied.rules applied.described;
}

pub row_taken : (told given : Cut) (old mid new : Graph) → IsCompleted told given → IsRowCandidate old given → IsApplied given.saving (row_described old given) old mid → new ≡ slotted (canonical_of mid) → IsTaken told old new
row_taken told given old mid new completed candidate applied tidied =
    let same = row_made given.row old given (not_moved old given candidate) in
    taken_by told given old mid new completed (inl candidate) (subst (λ (h : Graph). IsApplied given.saving h old mid) (sym same) applied) tidied

pub less_by : (saving : ℕ) (made old mid new : Graph) → IsApplied saving made old mid → IsLighter 0 mid new → IsSlotted new → IsLess old new
less_by saving made old mid new applied tidied named = record { saved = saving; lighter = lighter_made saving made old mid new applied tidied; slotted = λ before. named }

-- no row that a pass has is L
pub none_given : (told : Cut) (g : Graph) → told.row ≢ L → ((given : Cut) → IsCompleted told given → ¬ IsRowCandidate g given) → ¬ IsGiven g told
none_given told g other none given = by_candidate given.candidate
  where
    by_candidate : IsCandidate g given.cut → ⊥
    by_candidate (inl row) = none given.cut given.completed row
    by_candidate (inr move) = other (sym given.completed.row ∙ ap (λ (c : Cut). c.row) move.is)

-- A CHAIN IS MOVED

pub move_completed : (from to saving : ℕ) → IsCompleted (move_cut from to) (chain_cut from to saving)
move_completed from to saving = record { row = refl; blocks = λ other. refl; procedure = refl; other = refl; length = refl }

pub move_candidate : (from to : ℕ) (old mid : Graph) (m : IsMoved from to old mid) → IsMove old (chain_cut from to m.saving)
move_candidate from to old mid m = record {
  from = from;
  to = to;
  movable = m.movable;
  words = omega (arith, m.applied.words, alike_words mid (moved old from to) m.applied.described);
  some = m.some;
  is = refl;
}

pub move_taken : (from to : ℕ) (old mid new : Graph) → IsMoved from to old mid → new ≡ slotted (canonical_of mid) → IsTaken (move_cut from to) old new
move_taken from to old mid new m tidied =
    taken_by (move_cut from to) (chain_cut from to m.saving) old mid new (move_completed from to m.saving) (inr (move_candidate from to old mid m)) m.applied tidied

-- a pair whose cut is given is movable, and words are saved
pub record AreMoving (g : Graph) (from to : ℕ) : Type 0 where
  pub movable : IsMovable g from to
  pub fewer : words_of (moved g from to) + 1 ≤ words_of g

pub moving : (g : Graph) (from to : ℕ) → IsGiven g (move_cut from to) → AreMoving g from to
moving g from to given = by_candidate given.candidate
  where
    by_candidate : IsCandidate g given.cut → AreMoving g from to
    by_candidate (inl row) = absurd (not_moved g given.cut row given.completed.row)
    by_candidate (inr move) =
        let is : given.cut.blocks ≡ move.from ∷ move.to ∷ [] = ap (λ (c : Cut). c.blocks) move.is in
        let other : L ≢ U = λ same. cc same in
        let told : given.cut.blocks ≡ from ∷ to ∷ [] = given.completed.blocks other in
        let first : move.from ≡ from = cc (is, told) in
        let second : move.to ≡ to = cc (is, told) in
        record {
          movable = subst (λ n. IsMovable g n to) first (subst (IsMovable g move.from) second move.movable);
          fewer = omega (arith, move.words, move.some, ap (λ n. words_of (moved g n move.to)) first, ap (λ n. words_of (moved g from n)) second);
        }

-- both are blocks
pub moving_from : (g : Graph) (from to : ℕ) → IsMovable g from to → HasBlock g from
moving_from g from to movable = has_term g from (Jump to) movable.jump

pub moving_to : (g : Graph) (from to : ℕ) → IsGraph g → IsMovable g from to → HasBlock g to
moving_to g from to rules movable = All-head (HasBlock g) to [] (targets_there g from (Jump to) rules movable.jump)

-- STEP BY STEP

pub replay_on : (front : List Step) (step : Step) (old mid new : Graph) → IsReplay front old mid → IsStep step mid new → IsReplay (front ++ step ∷ []) old new
replay_on [] step old mid new same taken = (new, (subst (λ (g : Graph). IsStep step g new) same taken, refl))
replay_on (first ∷ front) step old mid new (next, leads) taken = (next, (leads.0, replay_on front step next mid new leads.1 taken))

pub less_through : (old mid new : Graph) → IsLess old mid → IsLess mid new → IsLess old new
less_through old mid new one two = record {
  saved = one.saved + two.saved;
  lighter = lighter_through one.saved two.saved old mid new one.lighter two.lighter;
  slotted = λ before. two.slotted (one.slotted before);
}

pub less_itself : (g : Graph) → IsCanonical g → IsLess g g
less_itself g canonical = record { saved = 0; lighter = lighter_itself g canonical; slotted = λ before. before }
