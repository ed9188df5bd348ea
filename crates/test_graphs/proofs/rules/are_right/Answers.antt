use Rattle.std.proofs.Common.{◌≡◌, ◌-◌, List, length, take, drop, take_all, length-drop, sym, ap, ◌∙◌, subst, arith}
use Rattle.std.specs.List.{All}
use Rattle.sq_graph.specs.declared.item.Item.{Item}
use Rattle.sq_graph.specs.Terms.{goes_on}
use Rattle.sq_graph.specs.Rules.{ProcedureFits}
use Rattle.sq_graph.specs.Parts.{length_of_blocks, length_of_bodies, procedures_of_parts}
use Rattle.test_graphs.proofs.PartRules.{parts_make_graph}
use Rattle.test_graphs.proofs.rules.are_right.Goals as goal

pub returns : goal.returns
returns c = λ fit.
    let parts = c.args.parts.now in
    let items = parts.items.now in
    let procedures = parts.procedures.now in
    let own = c.items_of-own.result in
    let rest : take (length c.args.parts.now.items.now - c.items_of-own.result) (drop c.items_of-own.result c.args.parts.now.items.now) ≡ drop c.items_of-own.result c.args.parts.now.items.now =
    take_all (length items - own) (drop own items) (omega (arith, length-drop own items)) in
    let same : drop c.items_of-own.result c.args.parts.now.items.now ≡ drop (length_of_blocks c.args.parts.now.blocks.now) c.args.parts.now.items.now = ap (λ n. drop n items) c.items_of-own.ensures in
    let behind = rest ∙ same in
    parts_make_graph parts.blocks.now items parts.entry parts.code_words.now procedures
    (record {
      entry = c.if-parts-blocks.false;
      ascending = c.ascend.ensures c.if-not-ascend.false;
      words = c.words_are_named.ensures c.if-not-words_are_named.false;
      items = c.items_are_right.ensures c.if-not-items_are_right.false;
      terms = c.terms_are_right.ensures c.if-not-terms_are_right.false;
      ends = λ d. ap goes_on (c.requires.last d) ∙ sym c.goes_on.ensures ∙ c.if-goes_on.false;
      bodies = subst (λ (xs : List Item). All ProcedureFits (procedures_of_parts procedures xs)) behind (c.bodies_fit.ensures.fit fit);
      own = omega (arith, c.items_of-own.ensures, c.if-own-parts.false);
      others = subst (λ (xs : List Item). length_of_bodies procedures ≡ length xs) behind (c.bodies_fit.ensures.length fit);
    })
    (omega (arith, c.if-parts-ge-MOST.false)) (omega (arith, c.if-parts-ge-MOST-2.false)) (omega (arith, c.if-parts-ge-MOST-3.false))
