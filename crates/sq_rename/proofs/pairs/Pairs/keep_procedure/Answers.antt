use Rattle.std.proofs.Common.{◌∷◌, refl}
use Rattle.sq_graph.specs.Blocks.{body_of}
use Rattle.std.specs.List.{flat_map}
use Rattle.sq_graph.specs.Matches.{item_registers, procedure_registers}
use Rattle.std.proofs.Common.{slice_get}
use Rattle.sq_rename.proofs.Joining.{joins_link, link_fails}
use Rattle.sq_rename.proofs.Places.{procedure_at, procedure_joins}
use Rattle.sq_rename.proofs.pairs.Pairs.keep_procedure.Goals as goal

pub returns-then-pair : goal.returns-then-pair
returns-then-pair c =
    let body = c.body.result.now in
    let link = c.link-link.result in
    let e = procedure_at c.args.g.now.graph c.args.procedure link body c.link-link.ensures c.body.ensures in
    procedure_joins c.keep_all.result c.args.self.now c.keep_all.new.self (procedure_registers (slice_get c.args.g.now.graph.procedures c.args.procedure)) (link ∷ flat_map item_registers body) e
    (joins_link c.keep_all.result c.args.self.now c.pair.new.self c.keep_all.new.self link (flat_map item_registers body) c.requires c.if-pair.ensures c.keep_all.ensures)

pub returns-else-pair : goal.returns-else-pair
returns-else-pair c =
    let link = c.link-link.result in
    let e = procedure_at c.args.g.now.graph c.args.procedure link (body_of c.args.g.now.graph c.args.procedure) c.link-link.ensures refl in
    procedure_joins c.pair.result c.args.self.now c.pair.new.self (procedure_registers (slice_get c.args.g.now.graph.procedures c.args.procedure)) (link ∷ flat_map item_registers (body_of c.args.g.now.graph c.args.procedure)) e
    (link_fails c.pair.result c.args.self.now c.pair.new.self link (flat_map item_registers (body_of c.args.g.now.graph c.args.procedure)) c.requires c.if-pair.false c.if-pair.ensures)
