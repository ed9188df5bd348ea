-- What the storing of a text and the printing of its line leave of `hex`.
use Rattle.std.proofs.Common.{ℕ, inl, inr, List, take, Some, ap, ◌∙◌}
use Rattle.std.specs.Option.{option_map}
use Rattle.sq_desk.specs.Outside.{Outside, with_file, NoneFall, KeepsFiles, KeepsPrinted, SetsFile, extended_text}
use Rattle.sq_top.specs.declared.ending.Ending.{Ending}
use Rattle.sq_top.specs.declared.ending.Ending.TheVariants.{Done, Words, Desk, Refused, Memory, Break, Limit, BadStart, Differs}
use Rattle.sq_top.specs.declared.ending.DeskCall.TheVariants.{Load, Store, Print}
use Rattle.sq_top.specs.Endings.{LeavesDelivered}
use Rattle.sq_top.specs.Hexing.{hex_line}
use Rattle.sq_top.specs.HexEndings.{WritesFile, StoresText, LeavesHex}
use Rattle.sq_top.proofs.Later.{rose_then}

module _ (before middle after : Outside) (files : KeepsFiles before middle) (printed : KeepsPrinted before middle) (first : NoneFall before middle) (input output text : List ℕ) (writes : WritesFile input text before) where
  stored : SetsFile output (Some text) middle after → StoresText input output text before after
  stored sets = record { writes = writes; stores = sets ∙ ap (option_map (with_file output (Some text))) files }

  pub delivered : (ending : Ending) → LeavesDelivered output text (hex_line text) ending middle after → LeavesHex input output ending before after
  delivered Done left = (text, stored left.0, left.1 ∙ ap (extended_text (hex_line text)) printed)
  delivered Words left = absurd left
  delivered (Desk Load) left = absurd left
  delivered (Desk Store) left =
      (text, writes, rose_then _ before middle after first left.2, (left.0.0, left.0.1 ∙ ap (option_map (with_file output left.0.0)) files), left.1 ∙ printed)
  delivered (Desk Print) left =
      (text, stored left.0, rose_then _ before middle after first left.2, (left.1.0, left.1.1 ∙ ap (extended_text (take left.1.0 (hex_line text))) printed))
  delivered (Refused refusal) left = absurd left
  delivered Memory left =
      (elim left.0 [ inl kept ↦ inl (kept ∙ files) | inr sets ↦ inr (text, stored sets) ], left.1 ∙ printed)
  delivered Break left = absurd left
  delivered Limit left = absurd left
  delivered BadStart left = absurd left
  delivered (Differs line) left = absurd left
