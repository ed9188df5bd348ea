use Rattle.std.proofs.Common.{◌≡◌, ◌+◌, true, false, sym, subst, arith}
use Rattle.sq_lift.specs.Flags.{Flags, has_word}
use Rattle.sq_lift.proofs.Flagged.{flag_behind, none_past}
use Rattle.sq_lift.proofs.word_set.WordSet.next.Goals as goal

pub returns-then-next-end-clause-word : goal.returns-then-next-end-clause-word
returns-then-next-end-clause-word c =
    let f : Flags = record { lo = c.self.inside.lo; flags = c.self.inside.flags.items } in
    let Behind : Flags → Type 0 = λ g. has_word g c.args.address ≡ true → has_word g (c.from-next.result + 4) ≡ true in
    subst Behind c.self.view_is (λ here. subst (λ x. has_word f (x + 4) ≡ true) (sym c.from-next.ensures) (flag_behind f c.args.address here (omega arith)))

pub returns-else-next-end-clause-none : goal.returns-else-next-end-clause-none
returns-else-next-end-clause-none c =
    let f : Flags = record { lo = c.self.inside.lo; flags = c.self.inside.flags.items } in
    let HasNone : Flags → Type 0 = λ g. has_word g (c.args.address + 4) ≡ false in
    subst HasNone c.self.view_is (none_past f (c.args.address + 4) (omega arith))
