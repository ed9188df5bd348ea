-- The words of a block and of those behind it, and how many words there are.
use Rattle.std.proofs.Common.{◌≡◌, ℕ, zero, suc, ◌+◌, ◌*◌, ◌-◌, ◌<◌, ◌++◌, length, refl, ap, arith}
use Rattle.sq_gen.specs.Generated.{number_after, kind_of, block, last_words, words_from}

pub words_counted : (x n : ℕ) → length (words_from x n) ≡ 7 * n + 5
unfolding words_from
words_counted x zero = refl
words_counted x (suc n) = omega (arith, words_counted (number_after x) n)

-- where a block is left
pub next_block : (x n : ℕ) → 0 < n → words_from x n ≡ block (kind_of (number_after x)) (28 * (n - 1) + 20) ++ words_from (number_after x) (n - 1)
unfolding words_from
next_block x zero some = absurd (omega (arith, some))
next_block x (suc n) some = let behind : n ≡ suc n - 1 = omega arith in ap (λ m. block (kind_of (number_after x)) (28 * m + 20) ++ words_from (number_after x) m) behind

-- where none is left
pub no_block : (x : ℕ) → words_from x 0 ≡ last_words
unfolding words_from
no_block x = refl
