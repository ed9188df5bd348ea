use Rattle.std.proofs.Common.{◌≡◌, ℕ, nat_eq, ap, ◌∙◌}
use Rattle.std.specs.HashMap.{get}
use Rattle.sq_graph.specs.Parts.{names_of}
use Rattle.sq_fold.specs.Grouped.{class_in}
use Rattle.sq_quotient.specs.Staying.{first_of}
use Rattle.sq_quotient.proofs.FirstBlocks.{stays_is, all_classed}
use Rattle.sq_quotient.proofs.staying.Staying.tell.Goals as goal

pub returns : goal.returns
returns c =
    let g = c.args.graph.now.graph in
    let class = class_in c.in_ok-grouping.grouping in
    let firsts : (d : ℕ) → get nat_eq c.in_ok-firsts.firsts d ≡ first_of (class_in c.in_ok-grouping.grouping) (names_of c.args.graph.now.graph) d = λ d. c.in_ok-firsts.ensures d ∙ ap (λ ns. first_of class ns d) c.requires in
    record {
      class = class;
      coarsest = c.in_ok-grouping.ensures.coarsest;
      each = λ n. stays_is class (names_of g) (get nat_eq c.in_ok-firsts.firsts) firsts (all_classed g class (λ m has. (c.in_ok-grouping.ensures.blocks m).1 has)) n;
    }
