-- The generated file of a first number and a count of blocks.
use Rattle.std.specs.Prelude.{ℕ, zero, suc, ◌+◌, ◌*◌, ◌/◌, ◌%◌, ◌^◌, List, [], ◌∷◌, ◌++◌, pos}
use Rattle.sq_isa.specs.Encoding.{word_of}
use Rattle.sq_isa.specs.declared.instructions.Insn.TheVariants.{Jal, Jalr, OpImm, Ecall}
use Rattle.sq_isa.specs.declared.instructions.ImmOp.TheVariants.{Addi}
use Rattle.sq_write.specs.Plain.{plain_file}

-- the number behind x
abbrev pub number_after : ℕ → ℕ
number_after x = (x * 1664525 + 1013904223) % 2 ^ 32

-- its upper four bits
abbrev pub kind_of : ℕ → ℕ
kind_of x = x / 2 ^ 28

-- addi xTO, xFROM, n
abbrev pub addition : ℕ → ℕ → ℕ → ℕ
addition to from n = word_of (OpImm Addi to from (pos n))

-- jal xLINK, to the word `far` bytes on
abbrev pub call : ℕ → ℕ → ℕ
call link far = word_of (Jal link (pos far))

-- the block of a kind: a number is added to each of x10 to x15, and F is called, which stands `far` bytes behind the call
abbrev pub block : ℕ → ℕ → List ℕ
block kind far =
    addition 10 10 (16 * kind + 1) ∷ addition 11 11 (16 * kind + 2) ∷ addition 12 12 (16 * kind + 3) ∷ addition 13 13 (16 * kind + 4)
    ∷ addition 14 14 (16 * kind + 5) ∷ addition 15 15 (16 * kind + 6) ∷ call 1 far ∷ []

-- behind the blocks stands the exit with status 0, a jump to itself, and F, which returns
abbrev pub last_words : List ℕ
last_words = addition 17 0 93 ∷ addition 10 0 0 ∷ word_of Ecall ∷ call 0 0 ∷ word_of (Jalr 0 1 (pos 0)) ∷ []

-- the words from a block on, each block of the kind of the next number: with n blocks behind it F stands 7 * n + 5 words behind
-- the call
unfoldable pub words_from : ℕ → ℕ → List ℕ
words_from x zero = last_words
words_from x (suc n) = block (kind_of (number_after x)) (28 * n + 20) ++ words_from (number_after x) n

-- the plain file of these words
unfoldable pub generated : ℕ → ℕ → List ℕ
generated first blocks = plain_file (words_from first blocks)
