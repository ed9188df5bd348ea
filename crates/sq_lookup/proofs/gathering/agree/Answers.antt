use Rattle.std.proofs.Common.{◌≡◌, ◌∙◌, inl, inr, subst, arith}
use Rattle.std.proofs.lemmas.Bool.{cases_lt}
use Rattle.sq_lookup.specs.Standing.{place_at, word_at, IsPlaced}
use Rattle.sq_lookup.proofs.gathering.agree.Goals as goal

pub loop-name-preserved : goal.loop-name-preserved
loop-name-preserved c =
    let so = c.loop-name.invariant in
    let name = c.loop-name.name in
    let new = c.args.new.now in
    record {
      placed = λ n less.
          elim (cases_lt n name) [
            | inl before ↦ so.placed n before
            | inr past ↦
                let is : name ≡ n = omega (arith, less, past) in
                subst (λ m. IsPlaced new.parts.items new.order.items m (place_at new.places.items m)) is c.in-Some.ensures.placed
          ];
      words = λ n less.
          elim (cases_lt n name) [
            | inl before ↦ so.words n before
            | inr past ↦
                let is : name ≡ n = omega (arith, less, past) in
                subst (λ m. word_at new m ≡ word_at c.args.old.now m) is (c.in-Some.ensures.word ∙ c.if-it-words.true ∙ c.word-words.ensures)
          ];
    }
