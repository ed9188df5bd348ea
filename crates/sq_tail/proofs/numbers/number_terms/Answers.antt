use Rattle.std.proofs.Common.{ℕ, ◌&&◌, nat_eq, Bool, Option, map, length, ap, subst, ◌∙◌, arith}
use Rattle.std.specs.Option.{option_eq}
use Rattle.std.proofs.lemmas.List.{length-map}
use Rattle.std.proofs.lemmas.Result.{IfOk-weaker}
use Rattle.sq_finger.specs.Numbers.{AreNumbers}
use Rattle.sq_finger.specs.declared.keys.TermKey.{TermKey}
use Rattle.sq_finger.specs.contracts.keys.TermKeyPartialEq.TheImpl as term_key_eq
use Rattle.sq_finger.proofs.Exactness.{exact_number, exact_pair, exact_option, exact_term_key}
use Rattle.sq_finger.proofs.Layouts.{name_there}
use Rattle.sq_finger.proofs.Telling.{numbers_of_keys}
use Rattle.sq_live.proofs.Layouts.{length-names}
use Rattle.sq_tail.specs.Numbers.{AreEndNumbers}
use Rattle.sq_tail.specs.Resolved.{block_key}
use Rattle.sq_tail.proofs.Numbering.{term_numbers}
use Rattle.sq_tail.proofs.numbers.number_terms.Goals as goal

pub number_all-requires : goal.number_all-requires
number_all-requires c =
    let many = ap (λ ks. length ks) (c.deref.ensures.value ∙ c.in_ok-keys.ensures) in
    record { few = omega (arith, many, length-map c.args.names.now (block_key c.args.graph.now.graph), length-names c.args.graph.now.graph c.args.names.now c.requires, c.learn.ensures.small.blocks) }

pub returns : goal.returns
returns c =
    let g = c.args.graph.now.graph in
    let names = c.args.names.now in
    let eq : TermKey × Option ℕ → TermKey × Option ℕ → Bool = λ p q. (term_key_eq.ghosts).eq p.0 q.0 && option_eq nat_eq p.1 q.1 in
    let is = c.deref.ensures.value ∙ c.in_ok-keys.ensures in
    IfOk-weaker c.number_all.result (λ numbers. AreNumbers eq c.deref.result.now numbers.items) (λ numbers. AreEndNumbers g 0 names numbers.items)
    (λ numbers are.
    term_numbers g names (λ i l. name_there g names i c.requires l) numbers.items
    (numbers_of_keys eq (exact_pair (term_key_eq.ghosts).eq (option_eq nat_eq) exact_term_key (exact_option nat_eq exact_number)) (map (block_key g) names) numbers.items (subst (λ ks. AreNumbers eq ks numbers.items) is are)))
    c.number_all.ensures.numbers
