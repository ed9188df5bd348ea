use Rattle.std.proofs.Common.{◌≡◌, ◌<◌, ◌∙◌, ◌&&◌, ap, slice_index, not, ℕ}
use Rattle.sq_isa.specs.Registers.{is_member}
use Rattle.sq_graph.specs.Lines.{place_lines}
use Rattle.sq_graph.specs.Walks.{IsLive}
use Rattle.sq_live.specs.Liveness.{places_of}
use Rattle.sq_rename.proofs.Dead.{dead_is}
use Rattle.sq_rename.proofs.matching.dead_registers.Goals as goal

pub returns : goal.returns
returns c =
    let set = slice_index (places_of c.args.live.now c.args.block) c.args.place in
    let value : (r : ℕ) → 0 < r → r < 32 → is_member c.without.result r ≡ not (is_member set r) =
    λ r k l. c.without.ensures r ∙ ap (λ b. b && not (is_member c.live_at.result r)) (c.all.ensures r k l) ∙ ap (λ s. not (is_member s r)) c.live_at.ensures in
    record {
      value = value;
      dead = λ g is has within r k l. dead_is c.without.result set r (IsLive g r (place_lines g c.args.block c.args.place)) (value r k l) (is.exact c.args.block c.args.place r has within k l);
    }
