-- What `prove` left where it came to its stores.
use Rattle.std.proofs.Common.{◌≡◌, ℕ, ◌⊎◌, inl, inr, List, Option, Some, refl, ap, ◌∙◌}
use Rattle.std.specs.Option.{option_map}
use Rattle.sq_num.specs.declared.packed.Packed.{Packed}
use Rattle.sq_desk.specs.Outside.{Outside, Files, with_file, SetsFile}
use Rattle.sq_top.specs.ProveEndings.{ProvesFile, SetsBoth, FailsToStore}
use Rattle.sq_top.specs.Promises.{HoldsOutput, HoldsBoth, IsProof, HoldProof}

-- where files are told, both are in their places
pub both_in_place : (output bytes cert : List ℕ) (content : Option (List ℕ)) (before after : Outside) (files : Files) → before.files ≡ Some files → SetsBoth output bytes cert content before after → after.files ≡ Some (with_file cert content (with_file output (Some bytes) files))
both_in_place output bytes cert content before after files told set =
    set ∙ ap (λ held. option_map (with_file cert content) (option_map (with_file output (Some bytes)) held)) told

one_in_place : (output bytes : List ℕ) (before after : Outside) (files : Files) → before.files ≡ Some files → SetsFile output (Some bytes) before after → after.files ≡ Some (with_file output (Some bytes) files)
one_in_place output bytes before after files told set = set ∙ ap (option_map (with_file output (Some bytes))) told

-- what is held of what was proved
module _ (input output cert : List ℕ) (packed : Packed) (text : List ℕ) (before after : Outside) (proves : ProvesFile input packed text before) where
  pub holds_proof : SetsBoth output packed.bytes cert (Some text) before after → HoldsBoth input output cert IsProof before after
  holds_proof set files told =
      let p = proves files told in
      (packed.bytes, Some text, p.packs.good, (text, p.count, p.proves, refl), both_in_place output packed.bytes cert (Some text) before after files told set)

  pub holds_packing : SetsFile output (Some packed.bytes) before after → HoldsOutput input output before after
  holds_packing set files told = (packed.bytes, (proves files told).packs.good, one_in_place output packed.bytes before after files told set)

  pub after_fault : FailsToStore output packed.bytes cert before after → HoldProof input output cert 2 before after
  after_fault (inl one) = inr (inr (inl (refl, one.0, one.1)))
  after_fault (inr two) =
      inr (inr (inr (refl, two.0, λ files told. (packed.bytes, two.1, (proves files told).packs.good, tt, both_in_place output packed.bytes cert two.1 before after files told two.2))))

  -- where memory ran out behind the packing
  pub after_memory : (SetsFile output (Some packed.bytes) before after ⊎ SetsBoth output packed.bytes cert (Some text) before after) → HoldProof input output cert 4 before after
  after_memory (inl one) = inr (inl (refl, holds_packing one))
  after_memory (inr two) = inl (holds_proof two)
