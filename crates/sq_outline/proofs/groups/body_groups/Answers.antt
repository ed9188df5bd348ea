use Rattle.std.proofs.Common.{◌≡◌, nat_eq, Some, Contains, map, sym, ap, ◌∙◌, subst, arith}
use Rattle.std.proofs.lemmas.Result.{IfOk-weaker}
use Rattle.sq_graph.specs.Blocks.{HasBlock}
use Rattle.sq_graph.specs.Parts.{names_of}
use Rattle.sq_outline.specs.Prints.{print_of, print_groups}
use Rattle.sq_finger.specs.Groups.{groups_of, AreClasses}
use Rattle.sq_finger.specs.Numbers.{numbers_of}
use Rattle.sq_finger.proofs.Grouping.{classes_are, classes_of_members}
use Rattle.sq_finger.proofs.Keyed.{same_number, number_laws, counts}
use Rattle.sq_finger.proofs.Layouts.{length-names, names_are}
use Rattle.sq_outline.proofs.groups.body_groups.Goals as goal

pub by_number-requires-clause-few : goal.by_number-requires-clause-few
by_number-requires-clause-few c =
    let g = c.args.graph.now.graph in
    let keys = c.in_ok-prints.ensures ∙ ap (map (λ name. Some (print_of g name))) (c.deref.ensures.value ∙ c.in_ok-names.ensures) in
    let numbers = c.in_ok-numbers.ensures.value ∙ ap (numbers_of nat_eq) c.deref-2.ensures.value in
    let k = counts nat_eq number_laws (print_of g) (names_of g) c.in_ok-prints.prints.items c.in_ok-numbers.numbers.items keys numbers in
    let few = k.few in
    let names = length-names g.blocks in
    let small = c.learn.ensures.small.blocks in
    rw c.deref-4.ensures.value (omega arith)

pub returns-clause-classes : goal.returns-clause-classes
returns-clause-classes c =
    let g = c.args.graph.now.graph in
    let keys = c.in_ok-prints.ensures ∙ ap (map (λ name. Some (print_of g name))) (c.deref.ensures.value ∙ c.in_ok-names.ensures) in
    let numbers = c.deref-4.ensures.value ∙ c.in_ok-numbers.ensures.value ∙ ap (numbers_of nat_eq) (c.deref-2.ensures.value ∙ keys) in
    let names = c.deref-3.ensures.value ∙ c.in_ok-names.ensures in
    IfOk-weaker c.by_number.result (λ classes. classes ≡ groups_of c.deref-4.result.now c.deref-3.result.now) (AreClasses (print_of g) (HasBlock g))
    (λ classes e. subst (AreClasses (print_of g) (HasBlock g)) (sym (rw (sym numbers, sym names) e))
    (classes_of_members (print_of g) (λ name. Contains (names_of g) name) (HasBlock g) (print_groups g) (names_are g)
    (classes_are nat_eq number_laws same_number (print_of g) (names_of g))))
    c.by_number.ensures
