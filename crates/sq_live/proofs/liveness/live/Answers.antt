use Rattle.std.proofs.Common.{◌≡◌, ◌∙◌, ◌<◌, ◌↔◌, ℕ, true, get_or, ap, sym, subst, length}
use Rattle.std.specs.List.{Contains}
use Rattle.sq_isa.specs.Registers.{is_member}
use Rattle.sq_live.specs.Exits.{position_at, exits_of}
use Rattle.sq_live.specs.Search.{list_at, Leads}
use Rattle.sq_live.specs.Places.{places_in, AreBlockPlaces}
use Rattle.sq_live.proofs.Nodes.{exits_there}
use Rattle.sq_live.proofs.Tables.{shown_at}
use Rattle.sq_live.proofs.Exactness.{lay_out, exact_liveness}
use Rattle.sq_live.proofs.liveness.live.Goals as goal

pub live_sets-requires-clause-there : goal.live_sets-requires-clause-there
live_sets-requires-clause-there c = λ from to h.
    let g = c.args.g.now.graph in
    let names = c.in_ok-names.names.items in
    let at = position_at c.in_ok-positions.positions.items in
    let calls = c.in_ok-calls.calls.items in
    let effects = c.in_ok-effects.effects.items in
    let exits = exits_of at (length names) g in
    let laid = lay_out g names c.deref.result.now c.deref-2.result.now at calls c.deref-3.result.now effects c.learn.ensures.rules c.in_ok-names.ensures c.deref.ensures.value c.deref-2.ensures.value c.deref-3.ensures.value c.in_ok-positions.ensures c.in_ok-calls.ensures c.in_ok-effects.ensures.effects c.in_ok-effects.ensures.count in
    let edge : Contains (list_at exits from) to = rw (c.deref-4.ensures.value, c.deref-5.ensures.value) at h in
    subst (λ es. to < length es) (sym c.deref-6.ensures.value) (exits_there g names at calls effects exits laid from to edge)

pub block_places-requires-clause-there : goal.block_places-requires-clause-there
block_places-requires-clause-there c = λ from to h.
    let g = c.args.g.now.graph in
    let names = c.in_ok-names.names.items in
    let at = position_at c.in_ok-positions.positions.items in
    let calls = c.in_ok-calls.calls.items in
    let effects = c.in_ok-effects.effects.items in
    let exits = exits_of at (length names) g in
    let laid = lay_out g names c.deref.result.now c.deref-2.result.now at calls c.deref-3.result.now effects c.learn.ensures.rules c.in_ok-names.ensures c.deref.ensures.value c.deref-2.ensures.value c.deref-3.ensures.value c.in_ok-positions.ensures c.in_ok-calls.ensures c.in_ok-effects.ensures.effects c.in_ok-effects.ensures.count in
    let edge : Contains (list_at exits from) to = rw (c.deref-7.ensures.value, c.deref-8.ensures.value) at h in
    let size : length c.deref-10.result.now ≡ length effects = ap length c.deref-10.ensures.value ∙ c.in_ok-nodes.ensures.count ∙ ap length c.deref-6.ensures.value in
    subst (λ n. to < n) (sym size) (exits_there g names at calls effects exits laid from to edge)

pub returns : goal.returns
returns c =
    let g = c.args.g.now.graph in
    let names = c.in_ok-names.names.items in
    let at = position_at c.in_ok-positions.positions.items in
    let calls = c.in_ok-calls.calls.items in
    let effects = c.in_ok-effects.effects.items in
    let exits = exits_of at (length names) g in
    let laid = lay_out g names c.deref.result.now c.deref-2.result.now at calls c.deref-3.result.now effects c.learn.ensures.rules c.in_ok-names.ensures c.deref.ensures.value c.deref-2.ensures.value c.deref-3.ensures.value c.in_ok-positions.ensures c.in_ok-calls.ensures c.in_ok-effects.ensures.effects c.in_ok-effects.ensures.count in
    let nodes = c.in_ok-nodes.nodes.items in
    let solved : (k r : ℕ) → k < length effects → 0 < r → r < 32 → (is_member (get_or nodes k 0) r ≡ true) ↔ Leads effects exits r k =
    rw (c.deref-4.ensures.value, c.deref-5.ensures.value, c.deref-6.ensures.value) at c.in_ok-nodes.ensures.live in
    let places = c.in_ok-places.places in
    let placed : AreBlockPlaces calls exits nodes g.blocks (places_in places) =
    rw (c.deref-7.ensures.value, c.deref-8.ensures.value, c.deref-9.ensures.value, c.deref-10.ensures.value) at c.in_ok-places.ensures in
    exact_liveness g names at calls effects exits nodes (record { laid = laid; nodes_are = solved }) (places_in places) placed
    _ (shown_at places.sets.items places.spans.items)
