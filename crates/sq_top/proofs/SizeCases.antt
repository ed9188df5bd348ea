-- How `size` can end.
use Rattle.std.proofs.Common.{ℕ, List}
use Rattle.sq_num.specs.declared.refusal.Refusal.{Refusal}
use Rattle.sq_desk.specs.Outside.{Outside}
use Rattle.sq_top.specs.declared.ending.Ending.{Ending}
use Rattle.sq_top.specs.declared.ending.Ending.TheVariants.{Done, Words, Desk, Refused, Memory, Break, Limit, BadStart, Differs}
use Rattle.sq_top.specs.declared.ending.DeskCall.TheVariants.{Load, Store, Print}
use Rattle.sq_top.specs.Endings.{SizeLeft}

-- P holds of each ending that `size` can have, by what it leaves
pub record SizeCases (input : List ℕ) (before after : Outside) (P : Ending → Type 0) : Type 0 where
  pub done : SizeLeft input Done before after → P Done
  pub load : SizeLeft input (Desk Load) before after → P (Desk Load)
  pub print : SizeLeft input (Desk Print) before after → P (Desk Print)
  pub refused : (refusal : Refusal) → SizeLeft input (Refused refusal) before after → P (Refused refusal)
  pub memory : SizeLeft input Memory before after → P Memory

-- so it holds of the ending
pub size_by_case : (input : List ℕ) (before after : Outside) (P : Ending → Type 0) → SizeCases input before after P → (ending : Ending) → SizeLeft input ending before after → P ending
size_by_case input before after P cases Done left = cases.done left
size_by_case input before after P cases Words left = absurd left
size_by_case input before after P cases (Desk Load) left = cases.load left
size_by_case input before after P cases (Desk Store) left = absurd left
size_by_case input before after P cases (Desk Print) left = cases.print left
size_by_case input before after P cases (Refused refusal) left = cases.refused refusal left
size_by_case input before after P cases Memory left = cases.memory left
size_by_case input before after P cases Break left = absurd left
size_by_case input before after P cases Limit left = absurd left
size_by_case input before after P cases BadStart left = absurd left
size_by_case input before after P cases (Differs line) left = absurd left
