-- Code words one behind another, and cells one behind another.
use Rattle.std.proofs.Common.{◌≡◌, ℕ, suc, ◌+◌, ◌<◌, Bool, true, false, nat_eq, cond, if◌then◌else◌, List, [], ◌∷◌, ◌++◌, length, get_or, take, Option, Some, None, refl, sym, ap, ◌∙◌, arith}
use Rattle.std.specs.Option.{option_map, option_or}
use Rattle.std.specs.List.{find}
use Rattle.std.proofs.lemmas.Grind.{take_at_read, common_steps}
use Rattle.sq_reloc.specs.declared.mark.CodeWord.{CodeWord}
use Rattle.sq_reloc.specs.CodeWords.{listed_at}
use Rattle.sq_monitor.specs.FileCells.{file_cell, file_cells}

abbrev pub no_word : CodeWord
no_word = record { at = 0; to = 0 }

abbrev given : CodeWord → ℕ → Option ℕ
given w address = if nat_eq w.at address then Some w.to else None

one_given : (p : Bool) (w : CodeWord) → option_map (λ word. word.to) (cond p (Some w) None) ≡ cond p (Some w.to) None
one_given true w = refl
one_given false w = refl

one_more : (p : Bool) (w : CodeWord) (found last : Option CodeWord) (given : Option ℕ) → option_map (λ word. word.to) last ≡ option_or (option_map (λ word. word.to) found) given → option_map (λ word. word.to) (cond p (Some w) last) ≡ option_or (option_map (λ word. word.to) (cond p (Some w) found)) given
one_more true w found last given rest = refl
one_more false w found last given rest = rest

-- a word behind gives its target only to an address that has none yet
listed_push : (words : List CodeWord) (w : CodeWord) (address : ℕ) → listed_at (words ++ w ∷ []) address ≡ option_or (listed_at words address) (given w address)
listed_push [] w address = one_given (nat_eq w.at address) w
listed_push (x ∷ xs) w address =
    one_more (nat_eq x.at address) x (find (λ y. nat_eq y.at address) xs) (find (λ y. nat_eq y.at address) (xs ++ w ∷ [])) (given w address) (listed_push xs w address)

pub listed_more : (words : List CodeWord) (i : ℕ) (d : CodeWord) (address : ℕ) (old : Option ℕ) → i < length words → old ≡ listed_at (take i words) address →
    listed_at (take (i + 1) words) address ≡ option_or old (if nat_eq (get_or words i d).at address then Some (get_or words i d).to else None)
listed_more words i d address old within before =
    ap (λ part. listed_at part address) ((take_at_read words i d within).1) ∙ listed_push (take i words) (get_or words i d) address
    ∙ ap (λ found. option_or found (given (get_or words i d) address)) (sym before)

cells_push : (bytes : List ℕ) (xs : List ℕ) (x b : ℕ) → file_cells bytes x (xs ++ b ∷ []) ≡ file_cells bytes x xs ++ file_cell bytes (x + length xs) b ∷ []
cells_push bytes [] x b = let e : x ≡ x + 0 = omega arith in ap (λ z. file_cell bytes z b ∷ []) e
cells_push bytes (y ∷ ys) x b =
    let e : x + 1 + length ys ≡ x + suc (length ys) = omega arith in
    ap (λ cells. file_cell bytes x y ∷ cells) (cells_push bytes ys (x + 1) b ∙ ap (λ z. file_cells bytes (x + 1) ys ++ file_cell bytes z b ∷ []) e)

pub cells_more : (bytes xs : List ℕ) (x i : ℕ) → i < length xs → file_cells bytes x (take (i + 1) xs) ≡ file_cells bytes x (take i xs) ++ file_cell bytes (x + i) (get_or xs i 0) ∷ []
cells_more bytes xs x i within =
    let e : length (take i xs) ≡ i = grind (arith, common_steps) in
    ap (file_cells bytes x) ((take_at_read xs i 0 within).1) ∙ cells_push bytes (take i xs) x (get_or xs i 0)
    ∙ ap (λ n. file_cells bytes x (take i xs) ++ file_cell bytes (x + n) (get_or xs i 0) ∷ []) e
