-- The monitored step of a word of text.
use Rattle.std.proofs.Common.{◌≡◌, ℕ, ◌+◌, ◌≤◌, ◌<◌, ◌^◌, List, Some, sym, ap, ◌∙◌, subst, arith}
use Rattle.law_follow.specs.declared.kind.Kind.{Kind}
use Rattle.sq_isa.specs.Table.{insn_of}
use Rattle.sq_system.specs.declared.event.Event.{Event}
use Rattle.law_program.specs.Programs.{Word, Text, word_at, end_of}
use Rattle.law_program.specs.Monitored.{Watched, Watches, marked_step, word_step, monitored_step, setting_of as text_setting}
use Rattle.sq_tagged.specs.Views.{layout_of, setting_of}
use Rattle.sq_tagged.specs.declared.setting.Setting.{Setting as RustSetting}
use Rattle.sq_monitor.specs.Steps.{IsTold, IsStep, IsWatchedStep, BreaksBelow}
use Rattle.sq_monitor.specs.declared.moved.Moved.{Moved}
use Rattle.sq_monitor.specs.declared.moved.Moved.TheVariants.{Went as HasGone, Ended as HasEnded, Broke as HasBroken}
use Rattle.sq_monitor.proofs.Scenes.{setting_is}

pub step_at : (s : RustSetting) (t : Text) (old : Watched) (at : ℕ) (w : Word) → s.lo ≡ t.lo → s.hi ≡ end_of t → at ≡ old.pc → Some w ≡ word_at t old.pc →
    marked_step (setting_of s) at w.mark (insn_of w.number) old.core ≡ monitored_step (layout_of s) t old
step_at s t old at w lo hi p e =
    (λ i. marked_step (setting_is s t lo hi i) (p i) w.mark (insn_of w.number) old.core)
    ∙ ap (λ o. word_step (text_setting (layout_of s) t) old.pc o old.core) e

-- a step whose end is told as it is
pub watched : (next same : Watches) (moved : Moved) (old new : Watched) (before after : List Event) → next ≡ same → IsTold moved → IsStep next moved old new before after → IsWatchedStep same moved old new before after
watched next same HasGone old new before after e fine s = subst (λ x. IsWatchedStep x HasGone old new before after) e s
watched next same (HasEnded halt) old new before after e fine s = ((halt, sym e ∙ s.0, sym fine), s.1, s.2)
watched next same (HasBroken kind) old new before after e fine s = (sym e ∙ s.0, s.1, s.2)

pub below : (moved : Moved) (s : Watched) → s.pc + 4 ≤ 2 ^ 32 → BreaksBelow (2 ^ 32) moved s
below HasGone s h = tt
below (HasEnded halt) s h = tt
below (HasBroken kind) s h = omega arith

pub breaks_below : (moved : Moved) (s : Watched) (kind : Kind) → BreaksBelow (2 ^ 32) moved s → moved ≡ HasBroken kind → s.pc < 2 ^ 32
breaks_below moved s kind h e = subst (λ m. BreaksBelow (2 ^ 32) m s) e h
