use Rattle.std.proofs.Common.{false, true≢false, [], ◌≡◌, ◌-◌, ◌<◌, None, Some, length, inl, inr, sym, ap, ◌∙◌, subst, arith}
use Rattle.std.specs.List.{All}
use Rattle.std.specs.Option.{option_map}
use Rattle.std.proofs.lemmas.Bool.{cases_Bool}
use Rattle.std.proofs.lemmas.List.Elements.{All-cons, All-nil, All-head}
use Rattle.sq_graph.specs.Rules.{ItemFits}
use Rattle.sq_finger.specs.ItemKeys.{key_of}
use Rattle.sq_rename.specs.Reservations.{is_reservation}
use Rattle.sq_tail.specs.Ends.{item_back}
use Rattle.sq_tail.proofs.Ending.{some_item, back, get_any, back_found, back_reserved}
use Rattle.sq_tail.proofs.Fitting.{items_fit}
use Rattle.sq_tail.proofs.numbers.key_back.Goals as goal

pub item_key-requires : goal.item_key-requires
item_key-requires c =
    let items = c.items-items.result.now in
    let l : c.args.behind < length c.items-items.result.now = omega (arith, c.if-behind-items.false) in
    let first : c.index-items-items.result ≡ back c.args.behind c.items-items.result.now = c.index-items-items.is ∙ get_any items (length items - 1 - c.args.behind) _ some_item (omega (arith, l)) in
    let fits : All ItemFits c.items-items.result.now = subst (λ is. All ItemFits is) (sym c.items-items.ensures) (items_fit c.args.graph.now.graph c.args.block c.learn.ensures.rules) in
    subst ItemFits (sym first) (fits (length items - 1 - c.args.behind) some_item (omega (arith, l)))

pub returns-then-has_no_reservations : goal.returns-then-has_no_reservations
returns-then-has_no_reservations c =
    let items = c.items-items.result.now in
    let l : c.args.behind < length c.items-items.result.now = omega (arith, c.if-behind-items.false) in
    let first : c.index-items-items.result ≡ back c.args.behind c.items-items.result.now = c.index-items-items.is ∙ get_any items (length items - 1 - c.args.behind) _ some_item (omega (arith, l)) in
    let plain = All-head (λ item. is_reservation item ≡ false) c.index-items-items.result [] (c.has_no_reservations.ensures.0 c.if-has_no_reservations.true) in
    let found = back_found c.args.behind items l (ap is_reservation (sym first) ∙ plain) in
    subst (λ is. Some c.item_key.result ≡ option_map key_of (item_back c.args.behind is)) c.items-items.ensures (ap Some (c.item_key.ensures.value ∙ ap key_of first) ∙ sym (ap (option_map key_of) found))

pub returns-else-has_no_reservations : goal.returns-else-has_no_reservations
returns-else-has_no_reservations c =
    let items = c.items-items.result.now in
    let l : c.args.behind < length c.items-items.result.now = omega (arith, c.if-behind-items.false) in
    let first : c.index-items-items.result ≡ back c.args.behind c.items-items.result.now = c.index-items-items.is ∙ get_any items (length items - 1 - c.args.behind) _ some_item (omega (arith, l)) in
    elim (cases_Bool (is_reservation c.index-items-items.result)) [
      | inl reserved ↦
          let none = back_reserved c.args.behind items l (ap is_reservation (sym first) ∙ reserved) in
          subst (λ is. None ≡ option_map key_of (item_back c.args.behind is)) c.items-items.ensures (sym (ap (option_map key_of) none))
      | inr plain ↦
          let all = All-cons (λ item. is_reservation item ≡ false) c.index-items-items.result [] plain (All-nil (λ item. is_reservation item ≡ false)) in
          absurd (true≢false (sym (c.has_no_reservations.ensures.1 all) ∙ c.if-has_no_reservations.false))
    ]
