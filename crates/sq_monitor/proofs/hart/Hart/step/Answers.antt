use Rattle.std.proofs.Common.{refl, ap, sym}
use Rattle.sq_system.specs.declared.event.Halt.TheVariants.{Fetch}
use Rattle.law_program.specs.Monitored.{word_step, setting_of as text_setting}
use Rattle.sq_tagged.specs.Views.{layout_of}
use Rattle.sq_monitor.specs.Views.{watched_of}
use Rattle.sq_monitor.proofs.Watching.{step_at, watched, below}
use Rattle.sq_monitor.proofs.hart.Hart.step.Goals as goal

pub returns-in-None-clause-ok : goal.returns-in-None-clause-ok
unfolding watched_of
returns-in-None-clause-ok c =
    let none = rw c.in-None.is at c.word.ensures.word in
    let ends = ap (λ o. word_step (text_setting (layout_of c.args.scene.now.setting) c.args.scene.now.text) c.args.self.now.pc o (watched_of c.args.self.now).core) (sym none) in
    ((Fetch c.args.self.now.pc, ends, refl), refl, refl)

pub returns-in_ok-moved-in-Some-clause-ok : goal.returns-in_ok-moved-in-Some-clause-ok
unfolding watched_of
returns-in_ok-moved-in-Some-clause-ok c =
    let scene = c.args.scene.now in
    let same = step_at scene.setting scene.text (watched_of c.args.self.now) c.in-Some.placed.at c.in-Some.placed.word scene.lo scene.hi c.in-Some.ensures.at.0 c.in-Some.ensures.word in
    watched _ _ c.in_ok-moved-in-Some.moved (watched_of c.args.self.now) (watched_of c.execute_word.new.self) c.args.log.now c.execute_word.new.log same c.is_told.ensures c.in_ok-moved-in-Some.ensures.ok

pub returns-in_ok-moved-in-Some-clause-broke : goal.returns-in_ok-moved-in-Some-clause-broke
unfolding watched_of
returns-in_ok-moved-in-Some-clause-broke c = below c.in_ok-moved-in-Some.moved (watched_of c.args.self.now) c.in-Some.ensures.at.1
