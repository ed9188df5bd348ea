-- Trials: a generated file is packed, and the result is packed again.
use Rattle.std.specs.Prelude.{◌≡◌, ℕ, ◌+◌, ◌*◌, List, ◌++◌, codes, decimal}
use Rattle.sq_desk.specs.Outside.{Outside, Rose, Printing, KeepsFiles, KeepsPrinted, Prints, PrintsPrefix}
use Rattle.sq_elf.specs.Refusing.{text_size}
use Rattle.sq_gen.specs.Generated.{generated}
use Rattle.sq_top.specs.declared.ending.Ending.{Ending}
use Rattle.sq_top.specs.declared.ending.Ending.TheVariants.{Done, Desk, Memory}
use Rattle.sq_top.specs.declared.ending.DeskCall.TheVariants.{Print}
use Rattle.sq_top.specs.Packing.{GoodOutput}

-- the line of a trial: how many bytes of text the generated file has, its packing, and that packed again
abbrev pub trial_text : ℕ → ℕ → ℕ → ℕ → ℕ → List ℕ
trial_text first blocks before after again =
    codes "trial " ++ decimal first ++ codes " " ++ decimal blocks ++ codes ": text " ++ decimal before ++ codes " -> " ++ decimal after
    ++ codes ", again " ++ decimal again ++ codes "\n"

-- the bytes of text of a generated file: seven words a block, and five behind them
abbrev pub generated_size : ℕ → ℕ
generated_size blocks = 4 * (7 * blocks + 5)

-- the line tells the trial of a good output of the generated file, which packing doesn't change again
pub record TellsTrial (first blocks : ℕ) (line : List ℕ) : Type 0 where
  pub output : List ℕ
  pub good : GoodOutput (generated first blocks) output
  pub line_is : line ≡ trial_text first blocks (generated_size blocks) (text_size output) (text_size output)

-- what `trial` leaves printed, by how it ends
abbrev pub TrialLeft : ℕ → ℕ → Ending → Outside → Outside → Type 0
TrialLeft first blocks Done before after = (line : List ℕ) × TellsTrial first blocks line × Prints line before after
TrialLeft first blocks (Desk Print) before after =
    Rose Printing before after × (line : List ℕ) × TellsTrial first blocks line × PrintsPrefix line before after
TrialLeft first blocks Memory before after = KeepsPrinted before after
TrialLeft first blocks other before after = ⊥

-- what `trial` leaves, by how it ends: no file changes
abbrev pub LeavesTrial : ℕ → ℕ → Ending → Outside → Outside → Type 0
LeavesTrial first blocks ending before after = KeepsFiles before after × TrialLeft first blocks ending before after
