-- How `prove` can end.
use Rattle.std.proofs.Common.{ℕ, List}
use Rattle.sq_num.specs.declared.refusal.Refusal.{Refusal}
use Rattle.sq_desk.specs.Outside.{Outside}
use Rattle.sq_top.specs.declared.ending.Ending.{Ending}
use Rattle.sq_top.specs.declared.ending.Ending.TheVariants.{Done, Words, Desk, Refused, Memory, Break, Limit, BadStart, Differs}
use Rattle.sq_top.specs.declared.ending.DeskCall.TheVariants.{Load, Store, Print}
use Rattle.sq_top.specs.ProveEndings.{LeavesProve}

-- P holds of each ending that `prove` can have, by what it leaves
pub record ProveCases (input output cert : List ℕ) (before after : Outside) (P : Ending → Type 0) : Type 0 where
  pub done : LeavesProve input output cert Done before after → P Done
  pub load : LeavesProve input output cert (Desk Load) before after → P (Desk Load)
  pub store : LeavesProve input output cert (Desk Store) before after → P (Desk Store)
  pub print : LeavesProve input output cert (Desk Print) before after → P (Desk Print)
  pub refused : (refusal : Refusal) → LeavesProve input output cert (Refused refusal) before after → P (Refused refusal)
  pub memory : LeavesProve input output cert Memory before after → P Memory

-- so it holds of the ending
pub prove_by_case : (input output cert : List ℕ) (before after : Outside) (P : Ending → Type 0) → ProveCases input output cert before after P → (ending : Ending) → LeavesProve input output cert ending before after → P ending
prove_by_case input output cert before after P cases Done left = cases.done left
prove_by_case input output cert before after P cases Words left = absurd left
prove_by_case input output cert before after P cases (Desk Load) left = cases.load left
prove_by_case input output cert before after P cases (Desk Store) left = cases.store left
prove_by_case input output cert before after P cases (Desk Print) left = cases.print left
prove_by_case input output cert before after P cases (Refused refusal) left = cases.refused refusal left
prove_by_case input output cert before after P cases Memory left = cases.memory left
prove_by_case input output cert before after P cases Break left = absurd left
prove_by_case input output cert before after P cases Limit left = absurd left
prove_by_case input output cert before after P cases BadStart left = absurd left
prove_by_case input output cert before after P cases (Differs line) left = absurd left
