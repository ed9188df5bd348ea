-- How `names` can end.
use Rattle.std.proofs.Common.{ℕ, List}
use Rattle.sq_num.specs.declared.refusal.Refusal.{Refusal}
use Rattle.sq_desk.specs.Outside.{Outside}
use Rattle.sq_top.specs.declared.ending.Ending.{Ending}
use Rattle.sq_top.specs.declared.ending.Ending.TheVariants.{Done, Words, Desk, Refused, Memory, Break, Limit, BadStart, Differs}
use Rattle.sq_top.specs.declared.ending.DeskCall.TheVariants.{Load, Store, Print}
use Rattle.sq_top.specs.NamesEndings.{NamesLeft}

-- P holds of each ending that `names` can have, by what it leaves
pub record NamesCases (input cert : List ℕ) (before after : Outside) (P : Ending → Type 0) : Type 0 where
  pub done : NamesLeft input cert Done before after → P Done
  pub load : NamesLeft input cert (Desk Load) before after → P (Desk Load)
  pub print : NamesLeft input cert (Desk Print) before after → P (Desk Print)
  pub refused : (refusal : Refusal) → NamesLeft input cert (Refused refusal) before after → P (Refused refusal)
  pub memory : NamesLeft input cert Memory before after → P Memory
  pub differs : (line : ℕ) → NamesLeft input cert (Differs line) before after → P (Differs line)

-- so it holds of the ending
pub names_by_case : (input cert : List ℕ) (before after : Outside) (P : Ending → Type 0) → NamesCases input cert before after P → (ending : Ending) → NamesLeft input cert ending before after → P ending
names_by_case input cert before after P cases Done left = cases.done left
names_by_case input cert before after P cases Words left = absurd left
names_by_case input cert before after P cases (Desk Load) left = cases.load left
names_by_case input cert before after P cases (Desk Store) left = absurd left
names_by_case input cert before after P cases (Desk Print) left = cases.print left
names_by_case input cert before after P cases (Refused refusal) left = cases.refused refusal left
names_by_case input cert before after P cases Memory left = cases.memory left
names_by_case input cert before after P cases Break left = absurd left
names_by_case input cert before after P cases Limit left = absurd left
names_by_case input cert before after P cases BadStart left = absurd left
names_by_case input cert before after P cases (Differs line) left = cases.differs line left
