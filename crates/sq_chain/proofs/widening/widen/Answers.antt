use Rattle.std.proofs.Common.{◌≡◌, ◌+◌, ◌∙◌, ℕ, Bool, sym, ap, subst}
use Rattle.sq_graph.specs.declared.item.Term.TheVariants.{Branch}
use Rattle.sq_graph.specs.Graph.{Graph}
use Rattle.sq_graph.specs.Words.{words_of}
use Rattle.sq_lookup.specs.Names.{is_listed}
use Rattle.sq_lookup.proofs.Targets.{has_term}
use Rattle.sq_chain.specs.Widening.{EndsInBranch, IsWidened, size_of}
use Rattle.sq_chain.specs.Least.{least}
use Rattle.sq_chain.proofs.Rounds.{least_is_least}
use Rattle.sq_chain.proofs.AlikeWidened.{alike_widened, widened_keeps}
use Rattle.sq_chain.proofs.Widenings.{wide_words, wide_near}
use Rattle.sq_chain.proofs.widening.widen.Goals as goal

pub widen_each-requires-clause-branches : goal.widen_each-requires-clause-branches
widen_each-requires-clause-branches c = λ n e.
    subst (λ (k : Graph). EndsInBranch k n) (sym c.reserve.ensures.graph)
    ((least_is_least c.args.graph.now.graph c.learn.ensures.rules).valid.branches n (sym (c.in_ok-wide.ensures n) ∙ e))

pub returns-clause-widened : goal.returns-clause-widened
returns-clause-widened c =
    let g = c.args.graph.now.graph in
    let new = c.widen_each.new.graph.graph in
    let set : is_listed c.in_ok-wide.wide ≡ least c.args.graph.now.graph = λ i n. c.in_ok-wide.ensures n i in
    let wide = subst (λ (S : ℕ → Bool). IsWidened g new S) set (subst (λ (k : Graph). IsWidened k new (is_listed c.in_ok-wide.wide)) c.reserve.ensures.graph c.widen_each.ensures.widened) in
    let valid = (least_is_least g c.learn.ensures.rules).valid in
    alike_widened g new (least g) c.learn.ensures.rules (λ n e. let b = valid.branches n e in has_term g n (Branch b.cond b.a b.b b.to) b.is) wide

pub returns-clause-names : goal.returns-clause-names
returns-clause-names c =
    let g = c.args.graph.now.graph in
    let new = c.widen_each.new.graph.graph in
    let set : is_listed c.in_ok-wide.wide ≡ least c.args.graph.now.graph = λ i n. c.in_ok-wide.ensures n i in
    let wide = subst (λ (S : ℕ → Bool). IsWidened g new S) set (subst (λ (k : Graph). IsWidened k new (is_listed c.in_ok-wide.wide)) c.reserve.ensures.graph c.widen_each.ensures.widened) in
    let valid = (least_is_least g c.learn.ensures.rules).valid in
    widened_keeps g new (least g) c.learn.ensures.rules (λ n e. let b = valid.branches n e in has_term g n (Branch b.cond b.a b.b b.to) b.is) wide

pub returns-clause-words : goal.returns-clause-words
returns-clause-words c =
    let g = c.args.graph.now.graph in
    let new = c.widen_each.new.graph.graph in
    let set : is_listed c.in_ok-wide.wide ≡ least c.args.graph.now.graph = λ i n. c.in_ok-wide.ensures n i in
    let wide = subst (λ (S : ℕ → Bool). IsWidened g new S) set (subst (λ (k : Graph). IsWidened k new (is_listed c.in_ok-wide.wide)) c.reserve.ensures.graph c.widen_each.ensures.widened) in
    wide_words g new (least g) c.learn.ensures.rules (least_is_least g c.learn.ensures.rules).valid wide
    ∙ ap (λ (S : ℕ → Bool). words_of g + size_of g S) (sym set)
    ∙ ap (λ n. words_of g + n) (sym c.size_of-size.ensures)

pub returns-clause-reach : goal.returns-clause-reach
returns-clause-reach c =
    let g = c.args.graph.now.graph in
    let new = c.widen_each.new.graph.graph in
    let set : is_listed c.in_ok-wide.wide ≡ least c.args.graph.now.graph = λ i n. c.in_ok-wide.ensures n i in
    let wide = subst (λ (S : ℕ → Bool). IsWidened g new S) set (subst (λ (k : Graph). IsWidened k new (is_listed c.in_ok-wide.wide)) c.reserve.ensures.graph c.widen_each.ensures.widened) in
    wide_near g new (least g) c.learn.ensures.rules (least_is_least g c.learn.ensures.rules).valid wide
