-- Leaders, of a graph in which blocks went, or other terms came.
use Rattle.std.proofs.Common.{◌≡◌, ℕ, Bool, true, false, ◌||◌, List, [], ◌∷◌, None, inl, inr, refl, ap, ◌∙◌, ◌==◌, ◌++◌}
use Rattle.std.proofs.lemmas.Bool.{cases_Bool}
use Rattle.sq_graph.specs.Graph.{Block}
use Rattle.sq_graph.specs.Blocks.{named}
use Rattle.sq_arena.specs.Entries.{value_of}
use Rattle.sq_graph.specs.Leaders.{FallsIntoLeaders}
use Rattle.sq_isa.specs.Registers.{is_among}
use Rattle.sq_graph.proofs.Marks.{is_among-append}

-- no block of a list has the name
pub absent_tail : (b : Block) (bs : List Block) (n : ℕ) → value_of (named (b ∷ bs)) n ≡ None → ((b.name == n) ≡ false) × (value_of (named bs) n ≡ None)
absent_tail b bs n none =
    elim (cases_Bool (b.name == n)) [
      | inl here ↦ absurd (cc (rw here at none))
      | inr apart ↦ (apart, rw apart at none)
    ]

pub absent_parts : (xs ys : List Block) (n : ℕ) → value_of (named (xs ++ ys)) n ≡ None → (value_of (named xs) n ≡ None) × (value_of (named ys) n ≡ None)
absent_parts [] ys n none = (refl, none)
absent_parts (x ∷ xs) ys n none =
    let parts = absent_tail x (xs ++ ys) n none in
    let later = absent_parts xs ys n parts.1 in (rw parts.0 later.0, later.1)

-- where what leads leads still but for a name that no block has, so do the blocks that are fallen into
module _ (gone : ℕ) (leads others : ℕ → Bool) (more : (n : ℕ) → (n == gone) ≡ false → leads n ≡ true → others n ≡ true) where
  pub falls_on : (bs : List Block) → value_of (named bs) gone ≡ None → FallsIntoLeaders leads bs → FallsIntoLeaders others bs
  falls_on [] none falls = tt
  falls_on (b ∷ []) none falls = tt
  falls_on (b ∷ next ∷ bs) none falls =
      let later = (absent_tail b (next ∷ bs) gone none).1 in
      (λ fall. more next.name (absent_tail next bs gone later).0 (falls.0 fall), falls_on (next ∷ bs) later falls.1)

pub three_uses : (words terms items : List ℕ) (n : ℕ) → is_among (words ++ (terms ++ items)) n ≡ (is_among words n || (is_among terms n || is_among items n))
three_uses words terms items n = is_among-append words (terms ++ items) n ∙ ap (λ b. is_among words n || b) (is_among-append terms items n)
