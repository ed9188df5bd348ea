use Rattle.std.proofs.Common.{◌≡◌, ◌∙◌, None, sym, ap, subst, arith}
use Rattle.sq_graph.specs.Blocks.{named, HasBlock, next_of}
use Rattle.sq_chain.specs.Moves.{carried}
use Rattle.sq_chain.specs.Places.{placed_at}
use Rattle.sq_chain.specs.Seams.{IsExchanged}
use Rattle.sq_chain.specs.Tests.{drop_of, drop_term, drop_at, drop_before}
use Rattle.sq_chain.specs.declared.seams.Seams.{Seams}
use Rattle.sq_chain.proofs.Drops.{drops, drops_words}
use Rattle.sq_chain.proofs.Exchanging.{chain_first, jump_first, moved_back, moved_ahead}
use Rattle.sq_chain.proofs.Orders.{last_has}
use Rattle.sq_chain.proofs.Reordered.{to_has}
use Rattle.sq_chain.proofs.Shifted.{settled_by}
use Rattle.sq_chain.proofs.shift.shift_of.Goals as goal

pub term-requires : goal.term-requires
term-requires c =
    let g = c.args.graph.now.graph in
    subst (HasBlock g) (sym c.requires.end) (last_has g c.args.from c.args.to c.learn.ensures.rules c.requires.movable)

pub before_falls-before-requires-clause-to : goal.before_falls-before-requires-clause-to
before_falls-before-requires-clause-to c = to_has c.args.graph.now.graph c.args.from c.args.to c.learn.ensures.rules c.requires.movable

pub before_falls-before-requires-clause-end : goal.before_falls-before-requires-clause-end
before_falls-before-requires-clause-end c =
    let g = c.args.graph.now.graph in
    subst (HasBlock g) (sym c.requires.end) (last_has g c.args.from c.args.to c.learn.ensures.rules c.requires.movable)

pub returns-then-address : goal.returns-then-address
returns-then-address c =
    let g = c.args.graph.now.graph in
    let rules = c.learn.ensures.rules in
    let s = c.shift_by.ensures in
    let none : drops (named g.blocks) None ≡ 0 = omega (arith, drops_words g.blocks, c.requires.none) in
    let out = chain_first g c.args.from c.args.to rules c.requires.movable (placed_at c.args.addresses.now) c.requires.addresses (omega (arith, c.address.ensures, c.address-2.ensures, c.if-address.true)) in
    let chain = c.fall_to-chain.ensures.value ∙ ap (drop_of c.term.result) c.next.ensures ∙ sym (ap (λ t. drop_term t (next_of g c.args.from)) c.term.ensures) ∙ ap (λ n. drop_at g n (next_of g c.args.from)) c.requires.end in
    let before = c.before_falls-before.ensures.value ∙ ap (λ n. drop_before g c.args.to (next_of g n)) c.requires.end in
    let x = subst (λ (k : Seams). IsExchanged g (carried g c.args.from c.args.to) k) (sym s.seams) c.seams_of-seams.ensures.exchanged in
    settled_by g c.args.from c.args.to rules c.requires.movable c.shift_by.result x
    (moved_ahead g c.args.from c.args.to rules c.requires.movable c.seams_of-seams.result none c.seams_of-seams.ensures.are c.shift_by.result s.seams c.fall_to-chain.result c.before_falls-before.result chain before out s.first s.second s.lost s.falls)
    (omega (arith, s.falls, c.fall_to-chain.ensures.few, c.before_falls-before.ensures.few))

pub returns : goal.returns
returns c =
    let g = c.args.graph.now.graph in
    let rules = c.learn.ensures.rules in
    let s = c.shift_by-2.ensures in
    let none : drops (named g.blocks) None ≡ 0 = omega (arith, drops_words g.blocks, c.requires.none) in
    let some = jump_first g c.args.from c.args.to rules c.requires.movable (placed_at c.args.addresses.now) c.requires.addresses (omega (arith, c.address.ensures, c.address-2.ensures, c.if-address.false)) in
    let chain = c.fall_to-chain.ensures.value ∙ ap (drop_of c.term.result) c.next.ensures ∙ sym (ap (λ t. drop_term t (next_of g c.args.from)) c.term.ensures) ∙ ap (λ n. drop_at g n (next_of g c.args.from)) c.requires.end in
    let before = c.before_falls-before.ensures.value ∙ ap (λ n. drop_before g c.args.to (next_of g n)) c.requires.end in
    let x = subst (λ (k : Seams). IsExchanged g (carried g c.args.from c.args.to) k) (sym s.seams) c.seams_of-seams.ensures.exchanged in
    settled_by g c.args.from c.args.to rules c.requires.movable c.shift_by-2.result x
    (moved_back g c.args.from c.args.to rules c.requires.movable c.seams_of-seams.result none c.seams_of-seams.ensures.are c.shift_by-2.result s.seams c.fall_to-chain.result c.before_falls-before.result chain before some s.first s.second s.lost s.falls)
    (omega (arith, s.falls, c.fall_to-chain.ensures.few, c.before_falls-before.ensures.few))
