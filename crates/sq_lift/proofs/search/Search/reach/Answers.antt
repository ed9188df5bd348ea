use Rattle.std.proofs.Common.{[], ◌∷◌, sym, subst}
use Rattle.sq_lift.specs.Search.{Found, Reaches}
use Rattle.sq_lift.proofs.Reaching.{reaches_pushed}
use Rattle.sq_lift.proofs.search.Search.reach.Goals as goal

pub returns-in_ok-push : goal.returns-in_ok-push
returns-in_ok-push c =
    let s : Found = record { reached = c.self.inside.reached; waiting = c.self.inside.waiting.items } in
    let From : Found → Type 0 = λ old. Reaches (c.args.address ∷ []) old (record { reached = c.insert.new.self; waiting = c.push.new.self.items }) in
    subst From c.self.view_is (reaches_pushed s c.insert.new.self c.push.new.self.items c.args.address (sym c.if-insert.ensures.added) c.if-insert.ensures.flags c.in_ok-push.ensures.items)
