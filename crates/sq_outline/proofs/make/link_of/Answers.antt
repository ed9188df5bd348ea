use Rattle.std.proofs.Common.{◌≡◌, ◌<◌, length, get_or, None, sym, ap, ◌∙◌, subst, arith}
use Rattle.std.specs.List.{All}
use Rattle.std.proofs.lemmas.Bool.Decides.{Decides-eqb}
use Rattle.std.proofs.lemmas.Map.Made.{IsDistinct-from_AllPairs, AllPairs-from_IsDistinct}
use Rattle.sq_layout.proofs.Walks.{items_few}
use Rattle.sq_outline.specs.declared.sites.Site.{Site}
use Rattle.sq_outline.specs.Sites.{IsPlace}
use Rattle.sq_outline.proofs.Choosing.{made_link, blocks_few, ends_places, link_found, some_blocks}
use Rattle.std.proofs.Common.{List}
use Rattle.sq_outline.proofs.make.link_of.Goals as goal

pub returns-then-not-branch-clause-none : goal.returns-then-not-branch-clause-none
returns-then-not-branch-clause-none c = λ e link are.
    let have = made_link c.args.graph.now.graph c.args.blocks.now link are in
    let yes = c.in_ok-are_distinct.ensures.1 (AllPairs-from_IsDistinct Decides-eqb c.args.blocks.now have.distinct) in
    let no = c.if-not-branch.true in
    absurd (cc)

pub pays-requires-clause-calls : goal.pays-requires-clause-calls
pays-requires-clause-calls c =
    let g = c.args.graph.now.graph in
    let distinct = IsDistinct-from_AllPairs Decides-eqb c.args.blocks.now (c.in_ok-are_distinct.ensures.0 c.if-not-branch.false) in
    let fewer = blocks_few g c.args.blocks.now (c.have_body.ensures.0 c.if-not-have_body.false) distinct in
    let small = c.learn.ensures.small.blocks in
    omega arith

pub pays-requires-clause-items : goal.pays-requires-clause-items
pays-requires-clause-items c =
    let few = items_few c.args.graph.now.graph (get_or c.args.blocks.now 0 0) c.learn.ensures.few in
    let is = ap length c.items-items.ensures in
    omega arith

pub find_link-requires-clause-places : goal.find_link-requires-clause-places
find_link-requires-clause-places c =
    let g = c.args.graph.now.graph in
    subst (λ (ps : List Site). All (IsPlace g) ps) (sym (c.deref.ensures.value ∙ c.in_ok-ends.ensures)) (ends_places g c.args.blocks.now (c.have_body.ensures.0 c.if-not-have_body.false))

pub returns-clause-some : goal.returns-clause-some
returns-clause-some c =
    let g = c.args.graph.now.graph in
    let distinct = IsDistinct-from_AllPairs Decides-eqb c.args.blocks.now (c.in_ok-are_distinct.ensures.0 c.if-not-branch.false) in
    let some : 0 < length c.args.blocks.now = some_blocks c.args.blocks.now (sym c.is_empty.ensures ∙ c.if-is_empty.false) in
    (link_found g c.args.blocks.now (c.have_body.ensures.0 c.if-not-have_body.false) c.find_link.result c.items-items.result.now c.deref.result.now c.items-items.ensures (c.deref.ensures.value ∙ c.in_ok-ends.ensures) c.find_link.ensures distinct (c.pays.ensures.0 c.if-not-pays.false) some).0

pub returns-clause-none : goal.returns-clause-none
returns-clause-none c = λ e.
    let g = c.args.graph.now.graph in
    let distinct = IsDistinct-from_AllPairs Decides-eqb c.args.blocks.now (c.in_ok-are_distinct.ensures.0 c.if-not-branch.false) in
    let some : 0 < length c.args.blocks.now = some_blocks c.args.blocks.now (sym c.is_empty.ensures ∙ c.if-is_empty.false) in
    let none : c.find_link.result ≡ None = cc in
    (link_found g c.args.blocks.now (c.have_body.ensures.0 c.if-not-have_body.false) c.find_link.result c.items-items.result.now c.deref.result.now c.items-items.ensures (c.deref.ensures.value ∙ c.in_ok-ends.ensures) c.find_link.ensures distinct (c.pays.ensures.0 c.if-not-pays.false) some).1 none
