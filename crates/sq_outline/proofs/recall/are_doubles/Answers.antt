use Rattle.std.proofs.Common.{Some, sym, ap, ◌∙◌, arith}
use Rattle.std.proofs.lemmas.Slice.Eq.{slice_eq-Decides}
use Rattle.sq_rename.proofs.Equals.{item_is, item_itself}
use Rattle.sq_outline.proofs.recall.are_doubles.Goals as goal

pub returns : goal.returns
returns c =
    let same = slice_eq-Decides (λ a b. (item_is a b, item_itself a b)) c.body.result.now c.body-2.result.now c.eq.result c.eq.ensures in (
      λ yes. record {
        apart = omega arith;
        there = omega arith;
        equal = record {
          there = omega arith;
          bodies = sym c.body-2.ensures ∙ sym (same.0 yes) ∙ c.body.ensures;
          links = c.link-2.ensures ∙ ap Some (omega arith) ∙ sym c.link.ensures;
        };
      },
      λ doubles. let bodies = doubles.equal.bodies in same.1 (c.body.ensures ∙ sym bodies ∙ sym c.body-2.ensures),
    )
