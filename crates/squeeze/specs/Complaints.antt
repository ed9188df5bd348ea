-- What a complaint of the program itself does.
use Rattle.std.specs.Prelude.{ℕ, List, Some}
use Rattle.sq_desk.specs.Outside.{Outside, KeepsFiles, KeepsPrinted}
use Rattle.sq_top.specs.Endings.{ComplainsLine}

-- the line was complained, as far as complaining went, and nothing else changed
pub record OnlyComplains (line : List ℕ) (before after : Outside) : Type 0 where
  pub complains : ComplainsLine (Some line) before after
  pub files : KeepsFiles before after
  pub printed : KeepsPrinted before after
