-- what both stores and the printing of the line leave
use Rattle.std.proofs.Common.{ℕ, List, subst, ◌∙◌}
use Rattle.sq_num.specs.declared.packed.Packed.{Packed}
use Rattle.sq_desk.specs.Outside.{Outside}
use Rattle.sq_top.specs.ProveEndings.{LeavesBoth}
use Rattle.sq_top.proofs.ProveLoaded.{prove_left, unproved}
use Rattle.sq_top.proofs.prove_command.prove.Goals as goal

pub returns-in-Ok-clause-leaves : goal.returns-in-Ok-clause-leaves
returns-in-Ok-clause-leaves g c =
    let before : Outside = g.D.Desk.outside c.args.desk.now in
    let middle : Outside = g.D.Desk.outside c.load_and_prove.new.desk in
    let after : Outside = g.D.Desk.outside c.deliver_both.new.desk in
    let packed : Packed = c.in-Ok.proved.packed in
    let text : List ℕ = c.in-Ok.proved.text.items in
    let Left : List ℕ → List ℕ → List ℕ → Type 0 = λ bytes told line. LeavesBoth c.args.output.now bytes c.args.cert.now told line c.deliver_both.result middle after in
    let one = subst (λ (bytes : List ℕ). Left bytes c.as_slice-in-Ok.result.now c.as_slice-in-Ok-2.result.now) c.as_slice.ensures c.deliver_both.ensures.leaves in
    let two = subst (λ (told : List ℕ). Left packed.bytes told c.as_slice-in-Ok-2.result.now) c.as_slice-in-Ok.ensures.value one in
    let three = subst (λ (line : List ℕ). Left packed.bytes text line) (c.as_slice-in-Ok-2.ensures.value ∙ c.packed_line-line.ensures) two in
    prove_left c.args.input.now c.args.output.now c.args.cert.now packed text before middle after
    c.in-Ok.ensures.files c.in-Ok.ensures.printed c.in-Ok.ensures.faults c.in-Ok.ensures.proves c.deliver_both.result three

pub returns-in-Err-clause-leaves : goal.returns-in-Err-clause-leaves
returns-in-Err-clause-leaves g c =
    unproved c.args.input.now c.args.output.now c.args.cert.now c.in-Err.ending (g.D.Desk.outside c.args.desk.now) (g.D.Desk.outside c.load_and_prove.new.desk) c.in-Err.ensures.files c.in-Err.ensures.printed c.in-Err.ensures.fails
