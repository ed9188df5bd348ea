use Rattle.std.proofs.Common.{arith}
use Rattle.sq_chain.specs.Places.{placed_at}
use Rattle.sq_chain.proofs.Lighter.{none_short, short_widened}
use Rattle.sq_chain.proofs.Surveyed.{room_is}
use Rattle.sq_chain.proofs.outlook.ordered_outlook.Goals as goal

pub fallen_addresses-they-requires : goal.fallen_addresses-they-requires
fallen_addresses-they-requires c =
    let there = room_is c.requires.0 c.args.names c.in_ok-addresses.addresses c.requires.2 c.in_ok-addresses.ensures.within c.in_ok-addresses.ensures.none in
    (c.requires.0, c.requires.1, there)

pub returns-then-they-short-clause-still : goal.returns-then-they-short-clause-still
returns-then-they-short-clause-still c = λ e h laid below.
    let there = room_is h c.args.names c.in_ok-addresses.addresses below c.in_ok-addresses.ensures.within c.in_ok-addresses.ensures.none in
    let many = c.if-they-short.true in
    let some = c.count_short-short.ensures.some h laid in
    let falls = c.fallen_addresses-they.ensures.falls h laid there in
    let more = short_widened h laid.rules (placed_at c.fallen_addresses-they.result.addresses) (c.fallen_addresses-they.ensures.addresses h laid there) in
    omega (arith, many, some, falls, more)

pub returns-then-short-eq0-clause-near : goal.returns-then-short-eq0-clause-near
returns-then-short-eq0-clause-near c = λ e h laid below.
    let there = room_is h c.args.names c.in_ok-addresses.addresses below c.in_ok-addresses.ensures.within c.in_ok-addresses.ensures.none in
    let none = c.if-short-eq0.true in
    let fewer = c.if-they-short.false in
    let all = c.count_short-short.ensures.all h laid (omega (arith, fewer)) in
    none_short h laid.rules (placed_at c.fallen_addresses-they.result.addresses) (c.fallen_addresses-they.ensures.addresses h laid there) (omega (arith, none, all))
