-- What the printing of a report leaves of `size`.
use Rattle.std.proofs.Common.{ℕ, List, take, subst, ap, ◌∙◌}
use Rattle.sq_num.specs.declared.packed.Packed.{Packed}
use Rattle.sq_desk.specs.Outside.{Outside, NoneFall, KeepsPrinted, extended_text}
use Rattle.sq_top.specs.declared.ending.Ending.{Ending}
use Rattle.sq_top.specs.declared.ending.Ending.TheVariants.{Done, Words, Desk, Refused, Memory, Break, Limit, BadStart, Differs}
use Rattle.sq_top.specs.declared.ending.DeskCall.TheVariants.{Load, Store, Print}
use Rattle.sq_top.specs.Endings.{PacksFile, report_line, ReportsFile, LeavesPrinted, SizeLeft}
use Rattle.sq_top.proofs.Later.{rose_then}

module _ (before middle after : Outside) (printed : KeepsPrinted before middle) (first : NoneFall before middle) (input : List ℕ) where
  by_packing : (packed : Packed) → PacksFile input packed before → (ending : Ending) → LeavesPrinted (report_line packed) ending middle after → SizeLeft input ending before after
  by_packing packed packs Done left = (packed, packs, left ∙ ap (extended_text (report_line packed)) printed)
  by_packing packed packs Words left = absurd left
  by_packing packed packs (Desk Load) left = absurd left
  by_packing packed packs (Desk Store) left = absurd left
  by_packing packed packs (Desk Print) left =
      (rose_then _ before middle after first left.1, packed, packs, (left.0.0, left.0.1 ∙ ap (extended_text (take left.0.0 (report_line packed))) printed))
  by_packing packed packs (Refused refusal) left = absurd left
  by_packing packed packs Memory left = left ∙ printed
  by_packing packed packs Break left = absurd left
  by_packing packed packs Limit left = absurd left
  by_packing packed packs BadStart left = absurd left
  by_packing packed packs (Differs line) left = absurd left

  pub reported : (line : List ℕ) → ReportsFile input line before → (ending : Ending) → LeavesPrinted line ending middle after → SizeLeft input ending before after
  reported line reports ending left = by_packing reports.0 reports.1 ending (subst (λ l. LeavesPrinted l ending middle after) reports.2 left)
