use Rattle.std.proofs.Common.{◌≡◌, ℕ, ◌+◌, ◌&&◌, nat_eq, Bool, map, length, sym, ap, subst, ◌∙◌, add-one, arith}
use Rattle.std.specs.Option.{option_map}
use Rattle.std.proofs.lemmas.List.{length-map}
use Rattle.std.proofs.lemmas.Result.{IfOk-weaker}
use Rattle.sq_graph.specs.Blocks.{items_of}
use Rattle.sq_finger.specs.ItemKeys.{key_of}
use Rattle.sq_finger.specs.Numbers.{AreNumbers}
use Rattle.sq_finger.specs.declared.keys.ItemKey.{ItemKey}
use Rattle.sq_finger.specs.contracts.keys.ItemKeyPartialEq.TheImpl as item_key_eq
use Rattle.sq_finger.proofs.Exactness.{exact_numbered_item}
use Rattle.sq_finger.proofs.Telling.{numbers_of_keys}
use Rattle.sq_live.proofs.Layouts.{length-names}
use Rattle.sq_tail.specs.Ends.{item_back, end_of}
use Rattle.sq_tail.specs.Numbers.{AreEndNumbers, zipped}
use Rattle.sq_tail.proofs.Fitting.{back_fits}
use Rattle.sq_tail.proofs.Numbering.{longer_numbers, zipped_length}
use Rattle.sq_tail.proofs.numbers.number_longer.Goals as goal

pub number_all-requires : goal.number_all-requires
number_all-requires c =
    let names = c.args.names.now in
    let numbers = c.args.numbers.now in
    let many : length c.args.numbers.now ≡ length c.args.names.now = c.requires.numbers.many ∙ length-map names (end_of c.args.graph.now.graph c.args.count) in
    let keys : length c.deref.result.now ≡ length c.args.names.now =
    ap (λ ks. length ks) (c.deref.ensures.value ∙ c.in_ok-keys.ensures) ∙ length-map names (λ name. option_map key_of (item_back c.args.count (items_of c.args.graph.now.graph name))) in
    let pairs : length c.deref-2.result.now ≡ length c.args.numbers.now = ap (λ ks. length ks) (c.deref-2.ensures.value ∙ c.in_ok-pairs.ensures) ∙ zipped_length numbers c.deref.result.now (keys ∙ sym many) in
    record { few = omega (arith, pairs, many, length-names c.args.graph.now.graph names c.requires.names, c.learn.ensures.small.blocks) }

pub returns : goal.returns
returns c =
    let g = c.args.graph.now.graph in
    let names = c.args.names.now in
    let n = c.args.count in
    let eq : ℕ × ItemKey → ℕ × ItemKey → Bool = λ p q. nat_eq p.0 q.0 && (item_key_eq.ghosts).eq p.1 q.1 in
    let keys = map (λ name. option_map key_of (item_back n (items_of g name))) names in
    let is : c.deref-2.result.now ≡ zipped c.args.numbers.now keys = c.deref-2.ensures.value ∙ c.in_ok-pairs.ensures ∙ ap (zipped c.args.numbers.now) (c.deref.ensures.value ∙ c.in_ok-keys.ensures) in
    IfOk-weaker c.number_all.result (λ numbers. AreNumbers eq c.deref-2.result.now numbers.items) (λ numbers. AreEndNumbers g (n + 1) names numbers.items)
    (λ numbers are.
    subst (λ m. AreEndNumbers g m names numbers.items) (sym (add-one n))
    (longer_numbers g names (back_fits g c.learn.ensures.rules) n c.args.numbers.now numbers.items c.requires.numbers
    (numbers_of_keys eq exact_numbered_item (zipped c.args.numbers.now keys) numbers.items (subst (λ ks. AreNumbers eq ks numbers.items) is are))))
    c.number_all.ensures.numbers
