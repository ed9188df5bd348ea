-- The words of a file, one after another.
use Rattle.std.proofs.Common.{◌≡◌, ℕ, zero, suc, ◌+◌, ◌*◌, List, [], ◌∷◌, ◌++◌, length, refl, ap, arith}
use Rattle.law_program.specs.FilePrograms.{file_word, words_from}

pub words_more : (bytes : List ℕ) (at n : ℕ) → words_from bytes at (n + 1) ≡ words_from bytes at n ++ file_word bytes (at + 4 * n) ∷ []
words_more bytes at n = let e : n + 1 ≡ suc n = omega arith in rw e (more at n)
  where
    more : (at n : ℕ) → words_from bytes at (suc n) ≡ words_from bytes at n ++ file_word bytes (at + 4 * n) ∷ []
    more at zero = let e : at + 4 * 0 ≡ at = omega arith in rw e refl
    more at (suc n) =
        let e : at + 4 * suc n ≡ at + 4 + 4 * n = omega arith in
        rw e (ap (λ ws. file_word bytes at ∷ ws) (more (at + 4) n))

pub words_count : (bytes : List ℕ) (at n : ℕ) → length (words_from bytes at n) ≡ n
words_count bytes at zero = refl
words_count bytes at (suc n) = ap suc (words_count bytes (at + 4) n)
