-- How `check` can end.
use Rattle.std.proofs.Common.{ℕ, List}
use Rattle.sq_num.specs.declared.refusal.Refusal.{Refusal}
use Rattle.sq_desk.specs.Outside.{Outside}
use Rattle.sq_top.specs.declared.ending.Ending.{Ending}
use Rattle.sq_top.specs.declared.ending.Ending.TheVariants.{Done, Words, Desk, Refused, Memory, Break, Limit, BadStart, Differs}
use Rattle.sq_top.specs.declared.ending.DeskCall.TheVariants.{Load, Store, Print}
use Rattle.sq_top.specs.CertEndings.{CertLeft}

-- P holds of each ending that `check` can have, by what it leaves
pub record CertCases (input output cert : List ℕ) (before after : Outside) (P : Ending → Type 0) : Type 0 where
  pub done : CertLeft input output cert Done before after → P Done
  pub load : CertLeft input output cert (Desk Load) before after → P (Desk Load)
  pub print : CertLeft input output cert (Desk Print) before after → P (Desk Print)
  pub refused : (refusal : Refusal) → CertLeft input output cert (Refused refusal) before after → P (Refused refusal)
  pub memory : CertLeft input output cert Memory before after → P Memory
  pub differs : (line : ℕ) → CertLeft input output cert (Differs line) before after → P (Differs line)

-- so it holds of the ending
pub cert_by_case : (input output cert : List ℕ) (before after : Outside) (P : Ending → Type 0) → CertCases input output cert before after P → (ending : Ending) → CertLeft input output cert ending before after → P ending
cert_by_case input output cert before after P cases Done left = cases.done left
cert_by_case input output cert before after P cases Words left = absurd left
cert_by_case input output cert before after P cases (Desk Load) left = cases.load left
cert_by_case input output cert before after P cases (Desk Store) left = absurd left
cert_by_case input output cert before after P cases (Desk Print) left = cases.print left
cert_by_case input output cert before after P cases (Refused refusal) left = cases.refused refusal left
cert_by_case input output cert before after P cases Memory left = cases.memory left
cert_by_case input output cert before after P cases Break left = absurd left
cert_by_case input output cert before after P cases Limit left = absurd left
cert_by_case input output cert before after P cases BadStart left = absurd left
cert_by_case input output cert before after P cases (Differs line) left = cases.differs line left
