-- What each part of `prove` leaves of it: the load and the packing, and the two stores with the printing of the line.
use Rattle.std.proofs.Common.{◌⊎◌, ℕ, inl, inr, List, take, Option, Some, ap, ◌∙◌}
use Rattle.std.specs.Option.{option_map}
use Rattle.sq_num.specs.declared.packed.Packed.{Packed}
use Rattle.sq_desk.specs.Outside.{Outside, with_file, NoneFall, KeepsFiles, SetsFile, KeepsPrinted, extended_text}
use Rattle.sq_top.specs.declared.ending.Ending.{Ending}
use Rattle.sq_top.specs.declared.ending.Ending.TheVariants.{Done, Words, Desk, Refused, Memory, Break, Limit, BadStart, Differs}
use Rattle.sq_top.specs.declared.ending.DeskCall.TheVariants.{Load, Store, Print}
use Rattle.sq_top.specs.Endings.{LeavesUnpacked, LeavesDelivered}
use Rattle.sq_top.specs.Packing.{packed_text}
use Rattle.sq_top.specs.ProveEndings.{ProvesFile, SetsBoth, FailsToStore, LeavesBoth, LeavesProve}
use Rattle.sq_top.proofs.Later.{rose_then}

-- where nothing is packed
pub unproved : (input output cert : List ℕ) (ending : Ending) (before after : Outside) → KeepsFiles before after → KeepsPrinted before after → LeavesUnpacked input ending before after → LeavesProve input output cert ending before after
unproved input output cert Done before after files printed gone = absurd gone
unproved input output cert Words before after files printed gone = absurd gone
unproved input output cert (Desk Load) before after files printed rose = (rose, files, printed)
unproved input output cert (Desk Store) before after files printed gone = absurd gone
unproved input output cert (Desk Print) before after files printed gone = absurd gone
unproved input output cert (Refused refusal) before after files printed refused = (refused, files, printed)
unproved input output cert Memory before after files printed gone = (printed, inl files)
unproved input output cert Break before after files printed gone = absurd gone
unproved input output cert Limit before after files printed gone = absurd gone
unproved input output cert BadStart before after files printed gone = absurd gone
unproved input output cert (Differs line) before after files printed gone = absurd gone

-- a store behind that of OUT
module _ (output bytes cert : List ℕ) (before middle after : Outside) (stored : SetsFile output (Some bytes) before middle) where
  then_set : (content : Option (List ℕ)) → SetsFile cert content middle after → SetsBoth output bytes cert content before after
  then_set content set = set ∙ ap (option_map (with_file cert content)) stored

  -- what the store of CERT and the printing leave of both
  module _ (text line : List ℕ) (printed : KeepsPrinted before middle) (first : NoneFall before middle) where
    pub both_left : (ending : Ending) → LeavesDelivered cert text line ending middle after → LeavesBoth output bytes cert text line ending before after
    both_left Done left = (then_set (Some text) left.0, left.1 ∙ ap (extended_text line) printed)
    both_left Words left = absurd left
    both_left (Desk Load) left = absurd left
    both_left (Desk Store) left =
        (inr (rose_then _ before middle after first left.2, left.0.0, then_set left.0.0 left.0.1), left.1 ∙ printed)
    both_left (Desk Print) left =
        (then_set (Some text) left.0, (left.1.0, left.1.1 ∙ ap (extended_text (take left.1.0 line)) printed), rose_then _ before middle after first left.2)
    both_left (Refused refusal) left = absurd left
    both_left Memory left =
        (elim left.0 [ inl kept ↦ inr (inl (kept ∙ stored)) | inr set ↦ inr (inr (then_set (Some text) set)) ], left.1 ∙ printed)
    both_left Break left = absurd left
    both_left Limit left = absurd left
    both_left BadStart left = absurd left
    both_left (Differs line) left = absurd left

-- what both stores leave behind the packing
module _ (input output cert : List ℕ) (packed : Packed) (text : List ℕ) (before middle after : Outside) (files : KeepsFiles before middle) (printed : KeepsPrinted before middle) (first : NoneFall before middle) (proves : ProvesFile input packed text before) where
  set_on : (content : Option (List ℕ)) → SetsBoth output packed.bytes cert content middle after → SetsBoth output packed.bytes cert content before after
  set_on content set = set ∙ ap (λ held. option_map (with_file cert content) (option_map (with_file output (Some packed.bytes)) held)) files

  one_on : (content : Option (List ℕ)) → SetsFile output content middle after → SetsFile output content before after
  one_on content set = set ∙ ap (option_map (with_file output content)) files

  fails_on : FailsToStore output packed.bytes cert middle after → FailsToStore output packed.bytes cert before after
  fails_on (inl one) = inl (rose_then _ before middle after first one.0, (one.1.0, one_on one.1.0 one.1.1))
  fails_on (inr two) = inr (rose_then _ before middle after first two.0, two.1, set_on two.1 two.2)

  memory_left : (KeepsFiles middle after ⊎ SetsFile output (Some packed.bytes) middle after ⊎ SetsBoth output packed.bytes cert (Some text) middle after) →
      KeepsFiles before after ⊎ ((packed : Packed) × (text : List ℕ) × ProvesFile input packed text before × (SetsFile output (Some packed.bytes) before after ⊎ SetsBoth output packed.bytes cert (Some text) before after))
  memory_left (inl kept) = inl (kept ∙ files)
  memory_left (inr (inl one)) = inr (packed, text, proves, inl (one_on (Some packed.bytes) one))
  memory_left (inr (inr two)) = inr (packed, text, proves, inr (set_on (Some text) two))

  pub prove_left : (ending : Ending) → LeavesBoth output packed.bytes cert text (packed_text packed) ending middle after → LeavesProve input output cert ending before after
  prove_left Done left = (packed, text, proves, set_on (Some text) left.0, left.1 ∙ ap (extended_text (packed_text packed)) printed)
  prove_left Words left = absurd left
  prove_left (Desk Load) left = absurd left
  prove_left (Desk Store) left = (left.1 ∙ printed, packed, text, proves, fails_on left.0)
  prove_left (Desk Print) left =
      (rose_then _ before middle after first left.2, packed, text, proves, set_on (Some text) left.0, (left.1.0, left.1.1 ∙ ap (extended_text (take left.1.0 (packed_text packed))) printed))
  prove_left (Refused refusal) left = absurd left
  prove_left Memory left = (left.1 ∙ printed, memory_left left.0)
  prove_left Break left = absurd left
  prove_left Limit left = absurd left
  prove_left BadStart left = absurd left
  prove_left (Differs line) left = absurd left
