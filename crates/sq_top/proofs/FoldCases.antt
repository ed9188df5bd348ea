-- How `fold` can end.
use Rattle.std.proofs.Common.{ℕ, List}
use Rattle.sq_num.specs.declared.refusal.Refusal.{Refusal}
use Rattle.sq_desk.specs.Outside.{Outside}
use Rattle.sq_top.specs.declared.ending.Ending.{Ending}
use Rattle.sq_top.specs.declared.ending.Ending.TheVariants.{Done, Words, Desk, Refused, Memory, Break, Limit, BadStart, Differs}
use Rattle.sq_top.specs.declared.ending.DeskCall.TheVariants.{Load, Store, Print}
use Rattle.sq_top.specs.FoldEndings.{LeavesFold}

-- P holds of each ending that `fold` can have, by what it leaves
pub record FoldCases (input output : List ℕ) (before after : Outside) (P : Ending → Type 0) : Type 0 where
  pub done : LeavesFold input output Done before after → P Done
  pub load : LeavesFold input output (Desk Load) before after → P (Desk Load)
  pub store : LeavesFold input output (Desk Store) before after → P (Desk Store)
  pub print : LeavesFold input output (Desk Print) before after → P (Desk Print)
  pub refused : (refusal : Refusal) → LeavesFold input output (Refused refusal) before after → P (Refused refusal)
  pub memory : LeavesFold input output Memory before after → P Memory

-- so it holds of the ending
pub fold_by_case : (input output : List ℕ) (before after : Outside) (P : Ending → Type 0) → FoldCases input output before after P → (ending : Ending) → LeavesFold input output ending before after → P ending
fold_by_case input output before after P cases Done left = cases.done left
fold_by_case input output before after P cases Words left = absurd left
fold_by_case input output before after P cases (Desk Load) left = cases.load left
fold_by_case input output before after P cases (Desk Store) left = cases.store left
fold_by_case input output before after P cases (Desk Print) left = cases.print left
fold_by_case input output before after P cases (Refused refusal) left = cases.refused refusal left
fold_by_case input output before after P cases Memory left = cases.memory left
fold_by_case input output before after P cases Break left = absurd left
fold_by_case input output before after P cases Limit left = absurd left
fold_by_case input output before after P cases BadStart left = absurd left
fold_by_case input output before after P cases (Differs line) left = absurd left
