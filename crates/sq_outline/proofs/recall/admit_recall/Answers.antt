use Rattle.std.proofs.Common.{refl}
use Rattle.sq_outline.proofs.RecallNumbers.{doubles_of, empty, completed_cut}
use Rattle.sq_outline.proofs.recall.admit_recall.Goals as goal

pub returns-then-not-are_doubles-clause-none : goal.returns-then-not-are_doubles-clause-none
returns-then-not-are_doubles-clause-none c = λ none given completed recalled.
    let yes = c.are_doubles.ensures.1 (doubles_of c.args.graph.now.graph c.args.cut.now given completed recalled) in
    let no = c.if-not-are_doubles.true in
    cc

pub returns-clause-some : goal.returns-clause-some
returns-clause-some c =
    let cut = c.args.cut.now in (
      record { stays = cut.procedure; goes = cut.other; doubles = c.if-not-are_doubles.ensures.0 refl; is = c.recall_cut.ensures },
      completed_cut c.args.graph.now.graph cut c.recall_cut.result c.requires.row (empty c.as_slice.result.now cut.blocks c.is_empty.result c.as_slice.ensures c.is_empty.ensures c.if-not-is_empty.false) c.if-cut-ne0.false c.recall_cut.ensures,
    )
