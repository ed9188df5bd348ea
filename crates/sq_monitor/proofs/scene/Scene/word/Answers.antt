use Rattle.std.proofs.Common.{◌+◌, ◌≤◌, length, refl, sym, ap, ◌∙◌, arith}
use Rattle.law_program.specs.Programs.{end_of}
use Rattle.sq_monitor.proofs.Placing.{word_past, word_within}
use Rattle.sq_monitor.proofs.scene.Scene.word.Goals as goal

pub returns-then-pc-end-clause-word : goal.returns-then-pc-end-clause-word
returns-then-pc-end-clause-word c =
    let past : end_of c.args.self.now.text ≤ c.args.pc = omega (arith, c.end.ensures.value) in
    sym (word_past c.args.self.now.text c.args.pc past)

pub returns-clause-at : goal.returns-clause-at
returns-clause-at c =
    let e = sym c.word.ensures ∙ c.in_ok-word.was in
    let within : c.args.pc + 4 ≤ end_of c.args.self.now.text = word_within c.args.self.now.text c.args.pc c.in_ok-word.word e in
    (refl, omega (arith, within, c.end.ensures.value, c.end.ensures.within))
