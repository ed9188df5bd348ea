-- Reached words: what the entry and the code words lead to, by finite walks (unreachable code elimination of
-- link-time optimizers: Debray, Evans, Muth and De Sutter, TOPLAS 2000).
use Rattle.std.specs.Prelude.{◌≡◌, ℕ, ℤ, ◌+◌, Bool, true, false, not, ◌==◌, List, [], ◌∷◌, ◌++◌, Option, Some, None, map, if◌then◌else◌}
use Rattle.std.specs.List.{Contains}
use Rattle.sq_isa.specs.Words.{wrapped, unsigned}
use Rattle.sq_isa.specs.declared.instructions.Insn.{Insn}
use Rattle.sq_isa.specs.declared.instructions.Insn.TheVariants.{Jal, Jalr, Branch, Ebreak, Unimp}
use Rattle.sq_reloc.specs.declared.mark.Mark.{Mark}
use Rattle.sq_reloc.specs.declared.mark.Mark.TheVariants.{Hi, Lo}
use Rattle.law_program.specs.Programs.{Word, Text, Program, word_at, IsWord, insn_in, target_of}

-- the address that an offset gives from the instruction at `at`
abbrev pub target_from : ℕ → ℤ → ℕ
target_from at offset = wrapped (at + unsigned offset)

-- the target of a branch or a `jal` at this address
abbrev pub jump_target : ℕ → Insn → List ℕ
jump_target at (Jal rd offset) = target_from at offset ∷ []
jump_target at (Branch cond a b offset) = target_from at offset ∷ []
jump_target at insn = []

-- the address that a half stands for
abbrev pub half_target : Mark → List ℕ
half_target (Hi t) = t ∷ []
half_target (Lo t) = t ∷ []
half_target mark = []

-- a run may go on to the next word, at once or when what is called returns: the instruction is no `jal x0`, no `jalr`
-- with rd x0, no EBREAK and no `unimp`
abbrev pub insn_goes_on : Insn → Bool
insn_goes_on (Jal rd offset) = not (rd == 0)
insn_goes_on (Jalr rd rs offset) = not (rd == 0)
insn_goes_on Ebreak = false
insn_goes_on (Unimp word) = false
insn_goes_on insn = true

abbrev pub next_word : ℕ → Insn → List ℕ
next_word at insn = if insn_goes_on insn then (at + 4) ∷ [] else []

-- where an instruction with this mark leads
abbrev pub insn_leads : ℕ → Mark → Insn → List ℕ
insn_leads at mark insn = jump_target at insn ++ half_target mark ++ next_word at insn

abbrev pub marked_leads : ℕ → Mark → Option Insn → List ℕ
marked_leads at mark None = []
marked_leads at mark (Some insn) = insn_leads at mark insn

abbrev pub word_leads : ℕ → Option Word → List ℕ
word_leads at None = []
word_leads at (Some w) = marked_leads at w.mark (insn_in w)

-- where the word at an address leads; a word without an instruction leads nowhere
abbrev pub leads_from : Text → ℕ → List ℕ
leads_from t at = word_leads at (word_at t at)

-- THE reached words: a walk leads there from the entry or from the target of a code word. Addresses that are no words of
-- text are left out.
pub data IsReached (p : Program) : ℕ → Type 0 where
  entry : IsWord p.text p.entry → IsReached p p.entry
  code_word : {x : ℕ} → Contains (map target_of p.code_words) x → IsWord p.text x → IsReached p x
  walk : {x y : ℕ} → IsReached p x → Contains (leads_from p.text x) y → IsWord p.text y → IsReached p y

-- a test that holds of exactly the reached words
pub record Decides (p : Program) (is : ℕ → Bool) : Type 0 where
  pub only : (x : ℕ) → is x ≡ true → IsReached p x
  pub all : (x : ℕ) → IsReached p x → is x ≡ true
