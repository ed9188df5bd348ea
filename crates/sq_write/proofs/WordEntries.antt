-- The loops that append the entries of code words.
use Rattle.std.proofs.Common.{◌≡◌, ℕ, ◌+◌, ◌<◌, ◌≤◌, ◌⊎◌, inl, inr, subst, get_or, add-one, drop-cons, nat_lt, nat_le, arith, Bool, true, false, List, [], ◌∷◌, ◌++◌, map, filter, length, drop, sym, ap, ◌∙◌, append_assoc}
use Rattle.std.proofs.lemmas.Bool.Decides.{nat_tests}
use Rattle.sq_graph.specs.declared.parts.CodeRef.{CodeRef}
use Rattle.sq_write.specs.Output.{Relocation, relocation_table}
use Rattle.sq_write.proofs.Texts.{relocation_table-append}

module _ (f : CodeRef → Relocation) (p : CodeRef → Bool) where
  -- the entries of those of these words that pass the test
  abbrev pub table_of : List CodeRef → List ℕ
  table_of words = relocation_table (map f (filter p words))

  -- of the words from one on, which is kept or passed over, these are still to come
  pub kept : (word : CodeRef) (rest : List CodeRef) (now next all : List ℕ) → p word ≡ true → next ≡ now ++ relocation_table (f word ∷ []) → now ++ table_of (word ∷ rest) ≡ all → next ++ table_of rest ≡ all
  kept word rest now next all passes more left =
      ap (λ bytes. bytes ++ table_of rest) more
      ∙ append_assoc now (relocation_table (f word ∷ [])) (table_of rest)
      ∙ ap (λ bytes. now ++ bytes) (sym (relocation_table-append (f word ∷ []) (map f (filter p rest))))
      ∙ (rw passes at left)

  pub passed_over : (word : CodeRef) (rest : List CodeRef) (now all : List ℕ) → p word ≡ false → now ++ table_of (word ∷ rest) ≡ all → now ++ table_of rest ≡ all
  passed_over word rest now all fails left = rw fails at left

  pub step : (words list : List CodeRef) (i : ℕ) (none : CodeRef) (now next all : List ℕ) → list ≡ words → i < length list → now ++ table_of (drop i words) ≡ all → ((p (get_or list i none) ≡ true) × (next ≡ now ++ relocation_table (f (get_or list i none) ∷ []))) ⊎ ((p (get_or list i none) ≡ false) × (next ≡ now)) → next ++ table_of (drop (i + 1) words) ≡ all
  step words list i none now next all same within left (inl k) =
      let rest : drop i list ≡ get_or list i none ∷ drop (i + 1) list = rw add-one (drop-cons list i none within) in
      subst (λ ws. next ++ table_of (drop (i + 1) ws) ≡ all) same
      (kept (get_or list i none) (drop (i + 1) list) now next all k.0 k.1 (rw rest at (subst (λ ws. now ++ table_of (drop i ws) ≡ all) (sym same) left)))
  step words list i none now next all same within left (inr k) =
      let rest : drop i list ≡ get_or list i none ∷ drop (i + 1) list = rw add-one (drop-cons list i none within) in
      subst (λ ws. next ++ table_of (drop (i + 1) ws) ≡ all) same
      (ap (λ bytes. bytes ++ table_of (drop (i + 1) list)) k.1 ∙ passed_over (get_or list i none) (drop (i + 1) list) now all k.0 (rw rest at (subst (λ ws. now ++ table_of (drop i ws) ≡ all) (sym same) left)))

pub is_below : (a b : ℕ) → a < b → nat_lt a b ≡ true
is_below a b h = grind (arith, nat_tests)

pub is_not_below : (a b : ℕ) → b ≤ a → nat_lt a b ≡ false
is_not_below a b h = grind (arith, nat_tests)

pub is_at_most : (a b : ℕ) → a ≤ b → nat_le a b ≡ true
is_at_most a b h = grind (arith, nat_tests)

pub is_not_at_most : (a b : ℕ) → b < a → nat_le a b ≡ false
is_not_at_most a b h = grind (arith, nat_tests)
