use Rattle.std.proofs.Common.{◌≡◌, ◌∙◌, ◌||◌, ℕ, None, get_or, ap}
use Rattle.sq_isa.specs.Registers.{is_member}
use Rattle.sq_graph.specs.Matches.{item_reads}
use Rattle.sq_rename.specs.Shapes.{shape_of}
use Rattle.sq_rename.specs.Prints.{item_number, mixed, met_all}
use Rattle.sq_rename.proofs.walks.Walk.meet_item.Goals as goal

pub loop-r-init : goal.loop-r-init
loop-r-init c =
    let old = c.args.self.now in
    let print : c.mixed-self.result ≡ mixed c.args.self.now.print (item_number (shape_of c.args.item.now)) = c.mixed-self.ensures ∙ ap (mixed old.print) c.shape_number.ensures.value in
    let kept : (q : ℕ) → is_member c.union-kept.result q ≡ (is_member c.args.keeps q || item_reads c.args.item.now q) =
    λ q. c.union-kept.ensures q ∙ ap (λ b. is_member c.args.keeps q || b) (c.item_reads.ensures q) in
    let registers = c.registers.ensures in
    record {
      fits = record { count = c.requires.walk.count };
      left = λ i. met_all (record { print = print i; codes = λ r. get_or old.codes r None }) (λ q. kept q i) c.args.other (registers i);
    }
