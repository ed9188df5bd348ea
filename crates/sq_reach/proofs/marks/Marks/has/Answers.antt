use Rattle.std.proofs.Common.{false, sym, ◌∙◌, arith}
use Rattle.std.proofs.lemmas.Bool.{le-ltb}
use Rattle.std.proofs.lemmas.List.{get_or_read_under, get_or_past}
use Rattle.sq_reach.proofs.Flags.{marked_is}
use Rattle.sq_reach.proofs.marks.Marks.has.Goals as goal

pub returns-then-block-len : goal.returns-then-block-len
returns-then-block-len c =
    let flags = c.self.inside.flags in
    get_or_read_under flags.items c.args.block c.len.result c.index.result.now false c.index.ensures c.if-block-len.true (c.len.ensures ∙ flags.ok.0)
    ∙ sym (marked_is flags.items c.self.view_is c.args.block)

pub returns-else-block-len : goal.returns-else-block-len
returns-else-block-len c =
    let flags = c.self.inside.flags in
    le-ltb c.args.block c.len.result c.if-block-len.false
    ∙ sym (get_or_past flags.items c.args.block false (omega (arith, flags.ok.0, c.len.ensures, c.if-block-len.false)))
    ∙ sym (marked_is flags.items c.self.view_is c.args.block)
