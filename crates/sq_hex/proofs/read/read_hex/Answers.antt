use Rattle.std.proofs.Common.{◌≡◌, length, Ok, Err, ap, sym, ◌∙◌, arith}
use Rattle.std.proofs.lemmas.Bool.Decides.{nat_tests}
use Rattle.sq_hex.specs.Lines.{lines_of}
use Rattle.sq_hex.specs.Meaning.{meaning_from}
use Rattle.sq_hex.specs.States.{state_of}
use Rattle.sq_hex.proofs.ReadLemmas.{line_at_fault, line_taken, text_ended, text_cut}
use Rattle.sq_hex.proofs.read.read_hex.Goals as goal

pub returns-then-not-branch-clause-fault : goal.returns-then-not-branch-clause-fault
returns-then-not-branch-clause-fault c line same =
    let l = c.loop-rest in
    let first = c.first_line.result in
    let fault = rw c.if-not-branch.true at c.in_ok-take_line.ensures.value in
    let number : l.number ≡ line = cc same in
    sym l.invariant.meaning
    ∙ ap (meaning_from l.number (state_of l.reader)) c.first_line.ensures.lines
    ∙ line_at_fault l.number (state_of l.reader) first.0.now (lines_of first.1.now) fault
    ∙ ap Err number

pub loop-rest-preserved : goal.loop-rest-preserved
loop-rest-preserved c =
    let l = c.loop-rest in
    let first = c.first_line.result in
    let good = rw c.if-not-branch.false at c.in_ok-take_line.ensures.value in
    record {
      meaning =
          sym (line_taken l.number (state_of l.reader) first.0.now (lines_of first.1.now) (state_of c.take_line.new.self) good)
          ∙ sym (ap (meaning_from l.number (state_of l.reader)) c.first_line.ensures.lines)
          ∙ l.invariant.meaning;
      fits = c.in_ok-take_line.ensures.fits;
      lines = omega (arith, c.first_line.ensures.falls);
      few = omega (arith, c.first_line.ensures.shorter, c.in_ok-take_line.ensures.few);
    }

pub returns-then-ended-clause-read : goal.returns-then-ended-clause-read
returns-then-ended-clause-read c =
    let l = c.loop-rest in
    let none : length l.rest.now ≡ 0 = grind (arith, nat_tests) in
    sym l.invariant.meaning ∙ text_ended l.number (state_of l.reader) l.rest.now none c.if-ended.true ∙ ap Ok (sym c.new.ensures)

pub returns-else-ended-clause-fault : goal.returns-else-ended-clause-fault
returns-else-ended-clause-fault c line same =
    let l = c.loop-rest in
    let none : length l.rest.now ≡ 0 = grind (arith, nat_tests) in
    let number : l.number ≡ line = cc same in
    sym l.invariant.meaning ∙ text_cut l.number (state_of l.reader) l.rest.now none c.if-ended.false ∙ ap Err number
