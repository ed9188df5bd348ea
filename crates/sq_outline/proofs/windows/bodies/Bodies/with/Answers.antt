use Rattle.std.proofs.Common.{◌≡◌, ◌&&◌, nat_eq, Some, is_some, refl, sym, ◌∙◌, subst}
use Rattle.std.specs.List.{list_any, position}
use Rattle.sq_finger.specs.ItemKeys.{key_of}
use Rattle.sq_finger.specs.contracts.keys.ItemKeyPartialEq.TheImpl as item_key_eq
use Rattle.sq_finger.proofs.Exactness.{exact_numbered_item}
use Rattle.sq_outline.proofs.WindowsReading.{stands_at, stands_nowhere}
use Rattle.sq_outline.proofs.windows.bodies.Bodies.with.Goals as goal

pub returns-in_err-at-clause-none : goal.returns-in_err-at-clause-none
returns-in_err-at-clause-none c = λ none at is.
    stands_nowhere (λ p q. nat_eq p.0 q.0 && (item_key_eq.ghosts).eq p.1 q.1) exact_numbered_item (c.args.number, key_of c.args.item.now) c.args.self.now.pairs.keys c.get_index_of.result
    (subst (λ k. is_some c.get_index_of.result ≡ list_any (λ q. nat_eq c.args.number q.0 && (item_key_eq.ghosts).eq k q.1) c.args.self.now.pairs.keys) c.item_key.ensures.value c.get_index_of.ensures.found)
    c.in_err-at.was at is

pub returns-clause-some : goal.returns-clause-some
returns-clause-some c = (
  c.in_ok-at.at,
  refl,
  stands_at (λ p q. nat_eq p.0 q.0 && (item_key_eq.ghosts).eq p.1 q.1) exact_numbered_item (c.args.number, key_of c.args.item.now) c.args.self.now.pairs.keys c.in_ok-at.at
      (subst (λ k. position (λ q. nat_eq c.args.number q.0 && (item_key_eq.ghosts).eq k q.1) c.args.self.now.pairs.keys ≡ Some c.in_ok-at.at) c.item_key.ensures.value (sym c.get_index_of.ensures.index ∙ c.in_ok-at.was)),
)
