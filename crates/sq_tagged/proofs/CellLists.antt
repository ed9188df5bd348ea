-- Lists of cells, and what they stand for.
use Rattle.std.proofs.Common.{◌≡◌, ℕ, Bool, ◌||◌, List, [], ◌∷◌, map, Option, Some, None, option_map, unwrap_or, refl, sym, ap, ◌∙◌}
use Rattle.std.specs.List.{list_any}
use Rattle.sq_memory.specs.Cells.{Cells, cells_from, map_cells}
use Rattle.sq_memory.proofs.RangeLaws.{cells_from-map_cells}
use Rattle.sq_tagged.specs.declared.values.Cell.{Cell}
use Rattle.sq_tagged.specs.Views.{cell_of}

pub any_mapped : {A B : Type 0} (p : B → Bool) (f : A → B) (xs : List A) → list_any p (map f xs) ≡ list_any (λ a. p (f a)) xs
any_mapped p f [] = refl
any_mapped p f (x ∷ xs) = ap (λ b. p (f x) || b) (any_mapped p f xs)

unwrapped : {A B : Type 0} (f : A → B) (found : Option (List A)) → map f (unwrap_or found []) ≡ unwrap_or (option_map (map f) found) []
unwrapped f None = refl
unwrapped f (Some xs) = refl

-- the cells of a buffer, none where they are not all there
pub buffer_cells : (m : Cells Cell) (x n : ℕ) (found : Option (List Cell)) → found ≡ cells_from m x n → map cell_of (unwrap_or found []) ≡ unwrap_or (cells_from (map_cells cell_of m) x n) []
buffer_cells m x n found e =
    unwrapped cell_of found ∙ (ap (λ o. unwrap_or (option_map (map cell_of) o) []) e ∙ ap (λ o. unwrap_or o []) (sym (cells_from-map_cells cell_of n m x)))
