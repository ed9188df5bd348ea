use Rattle.std.proofs.Common.{◌≡◌, ◌<◌, ◌^◌, ℕ, Option, length, ap, ◌∙◌, arith}
use Rattle.std.specs.Option.{unwrap_or}
use Rattle.sq_lookup.specs.Tables.{number_at}
use Rattle.sq_outline.specs.Inlined.{call_count}
use Rattle.sq_outline.proofs.InlineSearch.{calls_few, products_fit, or_0}
use Rattle.sq_outline.proofs.RecallNumbers.{body_words}
use Rattle.sq_outline.proofs.inline.would_save.Goals as goal

pub overflow_add-gone : goal.overflow_add-gone
overflow_add-gone c =
    let count : c.unwrap_or-count.result ≡ call_count c.args.graph.now.graph c.args.procedure = c.unwrap_or-count.ensures ∙ ap (λ (o : Option ℕ). unwrap_or o 0) c.get.ensures ∙ or_0 (number_at c.args.calls.now c.args.procedure) ∙ c.requires.calls in
    omega (arith, count, calls_few c.args.graph.now.graph c.args.procedure, body_words c.args.graph.now.graph c.args.procedure c.requires.there, ap length c.body.ensures, c.learn.ensures.few)

pub overflow_add-gone-2 : goal.overflow_add-gone-2
overflow_add-gone-2 c =
    let count : c.unwrap_or-count.result ≡ call_count c.args.graph.now.graph c.args.procedure = c.unwrap_or-count.ensures ∙ ap (λ (o : Option ℕ). unwrap_or o 0) c.get.ensures ∙ or_0 (number_at c.args.calls.now c.args.procedure) ∙ c.requires.calls in
    omega (arith, count, calls_few c.args.graph.now.graph c.args.procedure, body_words c.args.graph.now.graph c.args.procedure c.requires.there, ap length c.body.ensures, c.learn.ensures.few)

pub overflow_mul-come : goal.overflow_mul-come
overflow_mul-come c =
    let count : c.unwrap_or-count.result ≡ call_count c.args.graph.now.graph c.args.procedure = c.unwrap_or-count.ensures ∙ ap (λ (o : Option ℕ). unwrap_or o 0) c.get.ensures ∙ or_0 (number_at c.args.calls.now c.args.procedure) ∙ c.requires.calls in
    let small : c.unwrap_or-count.result < 2 ^ 31 = omega (arith, count, calls_few c.args.graph.now.graph c.args.procedure, c.learn.ensures.few) in
    let small' : length c.body.result.now < 2 ^ 31 = omega (arith, body_words c.args.graph.now.graph c.args.procedure c.requires.there, ap length c.body.ensures, c.learn.ensures.few) in
    omega (arith, products_fit c.unwrap_or-count.result (length c.body.result.now) small small')

pub overflow_cast-result : goal.overflow_cast-result
overflow_cast-result c =
    let count : c.unwrap_or-count.result ≡ call_count c.args.graph.now.graph c.args.procedure = c.unwrap_or-count.ensures ∙ ap (λ (o : Option ℕ). unwrap_or o 0) c.get.ensures ∙ or_0 (number_at c.args.calls.now c.args.procedure) ∙ c.requires.calls in
    omega (arith, count, calls_few c.args.graph.now.graph c.args.procedure, body_words c.args.graph.now.graph c.args.procedure c.requires.there, ap length c.body.ensures, c.learn.ensures.few)
