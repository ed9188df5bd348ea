use Rattle.std.proofs.Common.{◌≡◌, ◌∙◌, ◌<◌, ◌==◌, not, false, slice_index, ap, sym, refl, subst, arith, eq-eqb}
use Rattle.sq_isa.specs.Registers.{is_member}
use Rattle.sq_graph.specs.Lines.{place_lines}
use Rattle.sq_graph.specs.Walks.{IsLive}
use Rattle.sq_live.specs.Liveness.{places_of}
use Rattle.sq_live.proofs.Tables.{zero_dead, dead_is, is_nonzero}
use Rattle.sq_live.proofs.liveness.Liveness.dead_at.Goals as goal

pub returns-then-number-eq0-clause-dead : goal.returns-then-number-eq0-clause-dead
returns-then-number-eq0-clause-dead c = λ g is has within.
    let zero : c.args.r ≡ 0 = sym c.number.ensures.value ∙ c.if-number-eq0.true in (
      λ t l. zero_dead g (subst (λ r. IsLive g r (place_lines g c.args.block c.args.place)) zero l),
      λ d. eq-eqb c.number.result 0 c.if-number-eq0.true,
    )

pub returns-else-number-eq0-clause-value : goal.returns-else-number-eq0-clause-value
returns-else-number-eq0-clause-value c =
    let member : c.has.result ≡ is_member (slice_index (places_of c.args.self.now c.args.block) c.args.place) c.args.r =
    c.has.ensures.member ∙ ap (λ n. is_member n c.args.r) c.live_at.ensures in
    let apart : (c.args.r == 0) ≡ false = is_nonzero c.args.r (omega (arith, c.number.ensures.value)) in
    ap not member ∙ rw apart refl

pub returns-else-number-eq0-clause-dead : goal.returns-else-number-eq0-clause-dead
returns-else-number-eq0-clause-dead c = λ g is there fitting.
    let member : c.has.result ≡ is_member (slice_index (places_of c.args.self.now c.args.block) c.args.place) c.args.r =
    c.has.ensures.member ∙ ap (λ n. is_member n c.args.r) c.live_at.ensures in
    let above : 0 < c.args.r = omega (arith, c.number.ensures.value) in
    let small : c.args.r < 32 = omega (arith, c.number.ensures.value, c.number.ensures.range) in
    dead_is c.has.result (is_member (slice_index (places_of c.args.self.now c.args.block) c.args.place) c.args.r) (IsLive g c.args.r (place_lines g c.args.block c.args.place)) member (is.exact c.args.block c.args.place c.args.r there fitting above small)
