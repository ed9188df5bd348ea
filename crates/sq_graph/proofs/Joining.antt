-- Blocks that are joined: from the left, and what joining keeps.
use Rattle.std.proofs.Common.{◌≡◌, ℕ, Bool, true, false, ◌&&◌, not, if◌then◌else◌, List, [], ◌∷◌, ◌++◌, refl, sym, ap, ◌∙◌, inl, inr, append_assoc}
use Rattle.std.proofs.lemmas.Bool.{cases_Bool}
use Rattle.sq_graph.specs.Graph.{Block}
use Rattle.sq_graph.specs.Leaders.{is_fall}
use Rattle.sq_graph.specs.Canonical.{joined_onto, joined_blocks}

module _ (leads : ℕ → Bool) where
  -- whether the block falls into the next one, and that is no leader
  abbrev pub takes : Block → Block → Bool
  takes b next = is_fall b.term && not (leads next.name)

  -- the block with the items of the next one, and its term
  abbrev pub with_next : Block → Block → Block
  with_next b next = record b { items = b.items ++ next.items; term = next.term }

  -- from the left: the block takes over the next one as long as it falls into one that is no leader
  abbrev pub joined_from : Block → List Block → List Block
  joined_from b [] = b ∷ []
  joined_from b (next ∷ rest) = if takes b next then joined_from (with_next b next) rest else b ∷ joined_from next rest

  -- a block that takes over the next one, which had taken over those behind it, has taken over all of them
  joined_onto-twice : (b next : Block) (rest : List Block) → takes b next ≡ true → joined_onto leads b (joined_onto leads next rest) ≡ joined_onto leads (with_next b next) rest
  joined_onto-twice b next [] joins = rw joins refl
  joined_onto-twice b next (other ∷ rest) joins =
      elim (cases_Bool (takes next other)) [
        | inl more ↦
            rw (more, joins)
            (ap (λ is. record { name = b.name; items = is; term = other.term } ∷ rest) (sym (append_assoc b.items next.items other.items)))
        | inr ends ↦ rw (ends, joins) refl
      ]

  -- a block that doesn't take over the next one stays, whatever that takes over
  joined_onto-apart : (b next : Block) (rest : List Block) → takes b next ≡ false → joined_onto leads b (joined_onto leads next rest) ≡ b ∷ joined_onto leads next rest
  joined_onto-apart b next [] apart = rw apart refl
  joined_onto-apart b next (other ∷ rest) apart =
      elim (cases_Bool (takes next other)) [ inl more ↦ rw (more, apart) refl | inr ends ↦ rw (ends, apart) refl ]

  pub joined_from-onto : (b : Block) (rest : List Block) → joined_from b rest ≡ joined_onto leads b (joined_blocks leads rest)
  joined_from-onto b [] = refl
  joined_from-onto b (next ∷ rest) =
      elim (cases_Bool (takes b next)) [
        | inl joins ↦
            rw joins
            (joined_from-onto (with_next b next) rest ∙ sym (joined_onto-twice b next (joined_blocks leads rest) joins))
        | inr apart ↦
            rw apart
            (ap (λ bs. b ∷ bs) (joined_from-onto next rest) ∙ sym (joined_onto-apart b next (joined_blocks leads rest) apart))
      ]

  -- joining may be done from the left
  pub joined_blocks-from : (b : Block) (rest : List Block) → joined_blocks leads (b ∷ rest) ≡ joined_from b rest
  joined_blocks-from b rest = sym (joined_from-onto b rest)
