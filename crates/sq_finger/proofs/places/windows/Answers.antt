use Rattle.std.proofs.Common.{◌≡◌, ℕ, Option, Some, Contains, map, nat_eq, sym, ap, ◌∙◌, subst, arith}
use Rattle.std.proofs.lemmas.Result.{IfOk-weaker}
use Rattle.sq_finger.specs.declared.places.WindowAt.{WindowAt}
use Rattle.sq_finger.specs.Groups.{groups_of, AreClasses}
use Rattle.sq_finger.specs.Numbers.{numbers_of}
use Rattle.sq_finger.specs.Windows.{places_of, window_print, windows_of, IsWindow}
use Rattle.sq_finger.proofs.Grouping.{classes_are, classes_of_members}
use Rattle.sq_finger.proofs.Keyed.{same_number, number_laws, counts}
use Rattle.sq_finger.proofs.Placing.{few_keys, places_are}
use Rattle.sq_finger.proofs.places.windows.Goals as goal

pub number_all-requires : goal.number_all-requires
number_all-requires c =
    let g = c.args.graph.now.graph in
    let n = c.args.n in
    let print : WindowAt → Option ℕ = λ place. Some (window_print g n place) in
    let keys = c.deref-3.ensures.value ∙ c.in_ok-prints.ensures ∙ ap (map print) (c.deref-2.ensures.value ∙ c.in_ok-places.ensures) in
    record { few = few_keys g n c.deref-3.result.now print c.args.graph.now.spare.items c.learn.ensures.rules c.learn.ensures.small.items keys }

pub by_number-requires-clause-few : goal.by_number-requires-clause-few
by_number-requires-clause-few c =
    let g = c.args.graph.now.graph in
    let n = c.args.n in
    let print : WindowAt → Option ℕ = λ place. Some (window_print g n place) in
    let keys = c.in_ok-prints.ensures ∙ ap (map print) (c.deref-2.ensures.value ∙ c.in_ok-places.ensures) in
    let numbers = c.in_ok-numbers.ensures.value ∙ ap (numbers_of nat_eq) c.deref-3.ensures.value in
    let k = counts nat_eq number_laws (window_print g n) (places_of g n) c.in_ok-prints.prints.items c.in_ok-numbers.numbers.items keys numbers in
    let few = k.few in
    let many = k.key_count in
    let small = few_keys g n c.in_ok-prints.prints.items print c.args.graph.now.spare.items c.learn.ensures.rules c.learn.ensures.small.items keys in
    rw c.deref-5.ensures.value (omega arith)

pub returns-clause-classes : goal.returns-clause-classes
returns-clause-classes c =
    let g = c.args.graph.now.graph in
    let n = c.args.n in
    let print : WindowAt → Option ℕ = λ place. Some (window_print g n place) in
    let keys = c.in_ok-prints.ensures ∙ ap (map print) (c.deref-2.ensures.value ∙ c.in_ok-places.ensures) in
    let numbers = c.deref-5.ensures.value ∙ c.in_ok-numbers.ensures.value ∙ ap (numbers_of nat_eq) (c.deref-3.ensures.value ∙ keys) in
    let places = c.deref-4.ensures.value ∙ c.in_ok-places.ensures in
    let least = c.requires.least in
    IfOk-weaker c.by_number.result (λ classes. classes ≡ groups_of c.deref-5.result.now c.deref-4.result.now) (AreClasses (window_print g n) (IsWindow g n))
    (λ classes e. subst (AreClasses (window_print g n) (IsWindow g n)) (sym (rw (sym numbers, sym places) e))
    (classes_of_members (window_print g n) (λ place. Contains (places_of g n) place) (IsWindow g n) (windows_of g n) (places_are g n c.learn.ensures.rules (omega arith))
    (classes_are nat_eq number_laws same_number (window_print g n) (places_of g n))))
    c.by_number.ensures
