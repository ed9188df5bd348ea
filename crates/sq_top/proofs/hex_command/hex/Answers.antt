use Rattle.std.proofs.Common.{◌≡◌, ℕ, List, subst, ap, ◌∙◌}
use Rattle.sq_desk.specs.Outside.{Outside}
use Rattle.sq_top.specs.Endings.{LeavesDelivered}
use Rattle.sq_top.specs.Hexing.{hex_line}
use Rattle.sq_top.proofs.HexWritten.{delivered}
use Rattle.sq_top.proofs.hex_command.hex.Goals as goal

pub returns-in-Ok-clause-leaves : goal.returns-in-Ok-clause-leaves
returns-in-Ok-clause-leaves g c =
    let before : Outside = g.D.Desk.outside c.args.desk.now in
    let middle : Outside = g.D.Desk.outside c.load_and_write.new.desk in
    let after : Outside = g.D.Desk.outside c.deliver.new.desk in
    let text : List ℕ = c.in-Ok.text.items in
    let line : c.as_slice-in-Ok.result.now ≡ hex_line text = c.as_slice-in-Ok.ensures.value ∙ c.hex_line-line.ensures ∙ ap hex_line c.deref.ensures.value in
    let ByBytes : List ℕ → Type 0 = λ bytes. LeavesDelivered c.args.output.now bytes c.as_slice-in-Ok.result.now c.deliver.result middle after in
    let ByLine : List ℕ → Type 0 = λ printed. LeavesDelivered c.args.output.now text printed c.deliver.result middle after in
    delivered before middle after c.in-Ok.ensures.files c.in-Ok.ensures.printed c.in-Ok.ensures.faults c.args.input.now c.args.output.now text c.in-Ok.ensures.writes c.deliver.result
    (subst ByLine line (subst ByBytes c.as_slice.ensures.value c.deliver.ensures.leaves))
