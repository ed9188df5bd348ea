use Rattle.std.proofs.Common.{◌≢◌, ℕ, length, Option, Some, slice_get, sym, ap, ◌∙◌, subst, arith}
use Rattle.std.specs.Prelude.{MatchOption}
use Rattle.std.proofs.lemmas.Option.{slice_get_within}
use Rattle.sq_finger.specs.Numbers.{NoDouble, IsFirstDouble}
use Rattle.sq_outline.specs.RecalledNumbers.{AreBodyNumbers}
use Rattle.sq_outline.proofs.RecallNumbers.{no_doubles, double_found, procedures_few}
use Rattle.sq_outline.proofs.recall.find_recall.Goals as goal

pub returns-in_default-clause-none : goal.returns-in_default-clause-none
returns-in_default-clause-none c = λ none cut recalled.
    let ns = c.deref.result.now in
    let told : NoDouble c.deref.result.now = subst (λ (o : Option (ℕ × ℕ)). MatchOption o (NoDouble ns) (IsFirstDouble ns)) c.in_default.is c.in_ok-stays.ensures in
    no_doubles c.args.graph.now.graph c.in_ok-numbers.numbers.items cut c.in_ok-numbers.ensures (subst NoDouble c.deref.ensures.value told) recalled

pub overflow_cast-stays : goal.overflow_cast-stays
overflow_cast-stays c =
    let ns = c.deref.result.now in
    let told : IsFirstDouble c.deref.result.now (c.in-Some.stays, c.in-Some.goes) = subst (λ (o : Option (ℕ × ℕ)). MatchOption o (NoDouble ns) (IsFirstDouble ns)) c.in-Some.is c.in_ok-stays.ensures in
    let are : AreBodyNumbers c.args.graph.now.graph c.in_ok-numbers.numbers.items = c.in_ok-numbers.ensures in
    let few = procedures_few c.args.graph.now.graph in
    let double = told.double in
    let within = slice_get_within ns c.in-Some.stays (Some double.1.0) double.1.1.0 in
    omega (arith, few, are.many, ap length c.deref.ensures.value, within, c.learn.ensures.few)

pub overflow_cast-goes : goal.overflow_cast-goes
overflow_cast-goes c =
    let ns = c.deref.result.now in
    let told : IsFirstDouble c.deref.result.now (c.in-Some.stays, c.in-Some.goes) = subst (λ (o : Option (ℕ × ℕ)). MatchOption o (NoDouble ns) (IsFirstDouble ns)) c.in-Some.is c.in_ok-stays.ensures in
    let are : AreBodyNumbers c.args.graph.now.graph c.in_ok-numbers.numbers.items = c.in_ok-numbers.ensures in
    let few = procedures_few c.args.graph.now.graph in
    let double = told.double in
    let within = slice_get_within ns c.in-Some.goes (Some double.1.0) double.1.1.1 in
    omega (arith, few, are.many, ap length c.deref.ensures.value, within, c.learn.ensures.few)

pub recall_cut-requires : goal.recall_cut-requires
recall_cut-requires c =
    let ns = c.deref.result.now in
    let told : IsFirstDouble c.deref.result.now (c.in-Some.stays, c.in-Some.goes) = subst (λ (o : Option (ℕ × ℕ)). MatchOption o (NoDouble ns) (IsFirstDouble ns)) c.in-Some.is c.in_ok-stays.ensures in
    let are : AreBodyNumbers c.args.graph.now.graph c.in_ok-numbers.numbers.items = c.in_ok-numbers.ensures in
    let double = told.double in
    let within = slice_get_within ns c.in-Some.goes (Some double.1.0) double.1.1.1 in
    record { there = omega (arith, are.many, ap length c.deref.ensures.value, within) }

pub returns-clause-some : goal.returns-clause-some
returns-clause-some c =
    let g = c.args.graph.now.graph in
    let ns = c.deref.result.now in
    let told : IsFirstDouble c.deref.result.now (c.in-Some.stays, c.in-Some.goes) = subst (λ (o : Option (ℕ × ℕ)). MatchOption o (NoDouble ns) (IsFirstDouble ns)) c.in-Some.is c.in_ok-stays.ensures in
    let double = told.double in
    let numbers = c.deref.ensures.value in
    let apart : c.in-Some.stays ≢ c.in-Some.goes = let below = double.0 in omega (arith, below) in
    record {
      stays = c.in-Some.stays;
      goes = c.in-Some.goes;
      doubles =
          double_found g c.in_ok-numbers.numbers.items c.in-Some.stays c.in-Some.goes double.1.0 c.in_ok-numbers.ensures apart
          (sym (ap (λ ms. slice_get ms c.in-Some.stays) numbers) ∙ double.1.1.0)
          (sym (ap (λ ms. slice_get ms c.in-Some.goes) numbers) ∙ double.1.1.1);
      is = c.recall_cut.ensures;
    }
