-- The rounds so far, and what tells two places apart after one of them.
use Rattle.std.proofs.Common.{◌≡◌, ℕ, suc, List, [], ◌∷◌, ◌++◌, Option, sym, ap, ◌∙◌, subst}
use Rattle.sq_fold.specs.declared.rounds.Node.{Node}
use Rattle.sq_fold.specs.Stable.{after, rounds_to, IsFinerBy, AreAllRounds}
use Rattle.sq_fold.proofs.Refining.{Rounds, rounds_first, rounds_next}

pub record RoundsSoFar (nodes : List Node) (history : List (List (Option ℕ))) (classes finer : List (Option ℕ)) : Type 0 where
  pub many : ℕ
  pub are : history ≡ rounds_to nodes many
  pub now : classes ≡ after nodes many
  pub rounds : Rounds nodes classes finer

pub history_first : (nodes : List Node) (history : List (List (Option ℕ))) (classes finer : List (Option ℕ)) → history ≡ [] → classes ≡ [] → IsFinerBy nodes classes finer → RoundsSoFar nodes history classes finer
history_first nodes history classes finer none empty made = record {
  many = 0;
  are = none;
  now = empty;
  rounds = subst (λ cs. Rounds nodes cs finer) (sym empty) (rounds_first nodes finer (subst (λ cs. IsFinerBy nodes cs finer) empty made));
}

pub history_next : (nodes : List Node) (history new : List (List (Option ℕ))) (classes finer finest : List (Option ℕ)) → RoundsSoFar nodes history classes finer → new ≡ history ++ classes ∷ [] → IsFinerBy nodes finer finest → RoundsSoFar nodes new finer finest
history_next nodes history new classes finer finest so pushed made = record {
  many = suc so.many;
  are = pushed ∙ ap (λ h. h ++ classes ∷ []) so.are ∙ ap (λ cs. rounds_to nodes so.many ++ cs ∷ []) so.now;
  now = let is : IsFinerBy nodes classes finer = so.rounds.made in subst (λ cs. IsFinerBy nodes cs finer) so.now is;
  rounds = rounds_next nodes classes finer finest so.rounds made;
}

pub history_end : (nodes : List Node) (history new : List (List (Option ℕ))) (classes finer : List (Option ℕ)) → RoundsSoFar nodes history classes finer → new ≡ history ++ classes ∷ [] → finer ≡ classes → AreAllRounds nodes new
history_end nodes history new classes finer so pushed same = record {
  last = so.many;
  are = pushed ∙ ap (λ h. h ++ classes ∷ []) so.are ∙ ap (λ cs. rounds_to nodes so.many ++ cs ∷ []) so.now;
  ends = (let is : IsFinerBy nodes (after nodes so.many) finer = subst (λ cs. IsFinerBy nodes cs finer) so.now so.rounds.made in sym is) ∙ same ∙ so.now;
}
