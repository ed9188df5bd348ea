use Rattle.std.proofs.Common.{◌≡◌, true, false, refl}
use Rattle.sq_rename.proofs.Bodies.{goes_one_way, match_is, match_all}
use Rattle.sq_rename.proofs.matching.match_items.Goals as goal

pub returns-then-not-may_stand_all : goal.returns-then-not-may_stand_all
returns-then-not-may_stand_all c = λ m.
    let t : false ≡ true = c.if-not-may_stand_all.ensures.1 (match_all c.args.g.now.graph.procedures c.args.items.now c.args.others.now c.args.dead c.in-Some.pairs c.in-Some.ensures m) in
    cc

pub from_pairs-requires : goal.from_pairs-requires
from_pairs-requires c = record {
  count = c.in-Some.ensures.tables.there_count;
  one_way = λ q r s x y. goes_one_way c.in-Some.pairs c.in-Some.ensures.tables q r s x y;
}

pub returns : goal.returns
returns c =
    match_is c.args.g.now.graph.procedures c.args.items.now c.args.others.now c.args.dead c.in-Some.pairs c.from_pairs.result c.in-Some.ensures
    (c.if-not-may_stand_all.ensures.0 refl) c.from_pairs.ensures.permutation c.from_pairs.ensures.pairs
