-- What the storing of a folding and the printing of its line leave of `fold`.
use Rattle.std.proofs.Common.{ℕ, inl, inr, List, take, Some, ap, ◌∙◌}
use Rattle.std.specs.Option.{option_map}
use Rattle.sq_desk.specs.Outside.{Outside, with_file, NoneFall, KeepsFiles, KeepsPrinted, SetsFile, extended_text}
use Rattle.sq_top.specs.declared.ending.Ending.{Ending}
use Rattle.sq_top.specs.declared.ending.Ending.TheVariants.{Done, Words, Desk, Refused, Memory, Break, Limit, BadStart, Differs}
use Rattle.sq_top.specs.declared.ending.DeskCall.TheVariants.{Load, Store, Print}
use Rattle.sq_top.specs.Endings.{LeavesDelivered}
use Rattle.sq_top.specs.declared.folding.FoldedFile.{FoldedFile}
use Rattle.sq_top.specs.Folding.{folded_text}
use Rattle.sq_top.specs.FoldEndings.{FoldsFile, StoresFolded, LeavesFold}
use Rattle.sq_top.proofs.Later.{rose_then}

module _ (before middle after : Outside) (files : KeepsFiles before middle) (printed : KeepsPrinted before middle) (first : NoneFall before middle) (input output : List ℕ) (folded : FoldedFile) (folds : FoldsFile input folded before) where
  stored : SetsFile output (Some folded.bytes.items) middle after → StoresFolded input output folded before after
  stored sets = record { folds = folds; stores = sets ∙ ap (option_map (with_file output (Some folded.bytes.items))) files }

  pub fold_delivered : (ending : Ending) → LeavesDelivered output folded.bytes.items (folded_text folded) ending middle after → LeavesFold input output ending before after
  fold_delivered Done left = (folded, stored left.0, left.1 ∙ ap (extended_text (folded_text folded)) printed)
  fold_delivered Words left = absurd left
  fold_delivered (Desk Load) left = absurd left
  fold_delivered (Desk Store) left =
      (folded, folds, rose_then _ before middle after first left.2, (left.0.0, left.0.1 ∙ ap (option_map (with_file output left.0.0)) files), left.1 ∙ printed)
  fold_delivered (Desk Print) left =
      (folded, stored left.0, rose_then _ before middle after first left.2, (left.1.0, left.1.1 ∙ ap (extended_text (take left.1.0 (folded_text folded))) printed))
  fold_delivered (Refused refusal) left = absurd left
  fold_delivered Memory left =
      (elim left.0 [ inl kept ↦ inl (kept ∙ files) | inr sets ↦ inr (folded, stored sets) ], left.1 ∙ printed)
  fold_delivered Break left = absurd left
  fold_delivered Limit left = absurd left
  fold_delivered BadStart left = absurd left
  fold_delivered (Differs line) left = absurd left
