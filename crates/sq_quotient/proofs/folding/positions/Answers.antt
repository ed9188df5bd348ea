use Rattle.std.proofs.Common.{◌≡◌, ◌+◌, ◌==◌, ℕ, true, false, List, nat_eq, drop, get_or, is_some, sym, ap, ◌∙◌, subst, arith}
use Rattle.std.specs.HashMap.{get}
use Rattle.std.specs.Map.{lookup}
use Rattle.std.proofs.lemmas.List.{drop_all}
use Rattle.sq_graph.specs.Leaders.{is_fall}
use Rattle.sq_live.proofs.Layouts.{block_at, length-names}
use Rattle.sq_lookup.proofs.Sizes.{drop_distinct}
use Rattle.sq_quotient.specs.Folded.{new_name}
use Rattle.sq_quotient.specs.Folding.{falls_away}
use Rattle.sq_quotient.specs.Staying.{stays_in}
use Rattle.sq_quotient.proofs.Keeping.{are_new}
use Rattle.sq_quotient.proofs.Left.{ArePlaced, landed_count, slots_here, folded_length, placed_none, placed_all, placed_gone, placed_end, placed_kept}
use Rattle.sq_quotient.proofs.folding.positions.Goals as goal
use Rattle.sq_quotient.proofs.folding.positions.Goals.{then-stays+in_ok-insert, else-stays}

pub loop-name-init : goal.loop-name-init
loop-name-init c =
    let g = c.args.graph.now.graph in
    record { placed = placed_none (stays_in c.args.staying.now) (new_name g) g (get nat_eq c.new-positions.result) (λ n. ap (λ (es : List (ℕ × ℕ)). lookup (nat_eq n) es) c.new-positions.ensures.empty) }

pub slots_of-position-requires : goal.slots_of-position-requires
slots_of-position-requires c =
    let b = block_at c.args.graph.now.graph c.args.names.now c.loop-name.name-index c.learn.ensures.rules c.requires c.loop-name-test.true in
    ap is_some b.found

pub overflow_add-position : goal.overflow_add-position
overflow_add-position c =
    let g = c.args.graph.now.graph in
    let f = stays_in c.args.staying.now in
    let new = new_name c.args.graph.now.graph in
    let i = c.loop-name.name-index in
    let b = block_at g c.args.names.now i c.learn.ensures.rules c.requires c.loop-name-test.true in
    let placed = subst (λ bs. ArePlaced (stays_in c.args.staying.now) (new_name c.args.graph.now.graph) c.args.graph.now.graph (get nat_eq c.loop-name.positions) bs c.loop-name.position) b.rest c.loop-name.invariant.placed in
    let kept : (stays_in c.args.staying.now b.block.name == b.block.name) ≡ true = subst (λ n. (stays_in c.args.staying.now n == n) ≡ true) (sym b.has_name) (sym c.stays.ensures ∙ c.if-stays.true) in
    let slots : c.slots_of-position.result ≡ landed_count (falls_away (stays_in c.args.staying.now) b.block (drop (c.loop-name.name-index + 1) c.args.graph.now.graph.blocks)) (is_fall b.block.term) =
    c.slots_of-position.ensures ∙ slots_here f g (get_or c.args.names.now i 0) b.block (drop (i + 1) g.blocks) b.found b.behind_is in
    let end = placed_end f new g (are_new g) (get nat_eq c.loop-name.positions) (get nat_eq c.loop-name.positions) b.block (drop (i + 1) g.blocks) c.loop-name.position kept placed in
    let few = folded_length f new g.blocks in
    let small = c.learn.ensures.small.blocks in
    omega (arith, slots, end, few, small)

pub loop-name-preserved : goal.loop-name-preserved
loop-name-preserved c =
    let g = c.args.graph.now.graph in
    let f = stays_in c.args.staying.now in
    let new = new_name c.args.graph.now.graph in
    let i = c.loop-name.name-index in
    let rest = drop (c.loop-name.name-index + 1) c.args.graph.now.graph.blocks in
    let b = block_at g c.args.names.now i c.learn.ensures.rules c.requires c.loop-name-test.true in
    let placed = subst (λ bs. ArePlaced (stays_in c.args.staying.now) (new_name c.args.graph.now.graph) c.args.graph.now.graph (get nat_eq c.loop-name.positions) bs c.loop-name.position) b.rest c.loop-name.invariant.placed in
    elim c.if-stays.branch [
      | then-stays+in_ok-insert w ↦
          let kept : (stays_in c.args.staying.now b.block.name == b.block.name) ≡ true = subst (λ n. (stays_in c.args.staying.now n == n) ≡ true) (sym b.has_name) (sym c.stays.ensures ∙ w.if-stays.true) in
          let slots : w.slots_of-position.result ≡ landed_count (falls_away (stays_in c.args.staying.now) b.block (drop (c.loop-name.name-index + 1) c.args.graph.now.graph.blocks)) (is_fall b.block.term) =
          w.slots_of-position.ensures ∙ slots_here f g (get_or c.args.names.now i 0) b.block rest b.found b.behind_is in
          let step = placed_kept f new g (are_new g) (get nat_eq c.loop-name.positions) (get nat_eq w.insert.new.self) b.block rest c.loop-name.position kept placed
          (drop_distinct g i b.block rest c.learn.ensures.rules b.rest) (λ n. rw b.has_name (w.in_ok-insert.ensures.updates.0 n)) in
          let position : c.loop-name.position + landed_count (falls_away (stays_in c.args.staying.now) b.block (drop (c.loop-name.name-index + 1) c.args.graph.now.graph.blocks)) (is_fall b.block.term) ≡ c.if-stays.position =
          ap (λ k. c.loop-name.position + k) (sym slots) ∙ sym w.position-is in
          record {
            placed =
                subst (λ (m : _). ArePlaced (stays_in c.args.staying.now) (new_name c.args.graph.now.graph) c.args.graph.now.graph (get nat_eq m) (drop (c.loop-name.name-index + 1) c.args.graph.now.graph.blocks) c.if-stays.position) (sym w.positions-is)
                (subst (λ (k : ℕ). ArePlaced (stays_in c.args.staying.now) (new_name c.args.graph.now.graph) c.args.graph.now.graph (get nat_eq w.insert.new.self) (drop (c.loop-name.name-index + 1) c.args.graph.now.graph.blocks) k) position step);
          }
      | else-stays w ↦
          let gone : (stays_in c.args.staying.now b.block.name == b.block.name) ≡ false = subst (λ n. (stays_in c.args.staying.now n == n) ≡ false) (sym b.has_name) (sym c.stays.ensures ∙ w.if-stays.false) in
          let step = placed_gone f new g (get nat_eq c.loop-name.positions) b.block rest c.loop-name.position gone placed in
          record {
            placed =
                subst (λ (m : _). ArePlaced (stays_in c.args.staying.now) (new_name c.args.graph.now.graph) c.args.graph.now.graph (get nat_eq m) (drop (c.loop-name.name-index + 1) c.args.graph.now.graph.blocks) c.if-stays.position) (sym w.positions-is)
                (subst (λ (k : ℕ). ArePlaced (stays_in c.args.staying.now) (new_name c.args.graph.now.graph) c.args.graph.now.graph (get nat_eq c.loop-name.positions) (drop (c.loop-name.name-index + 1) c.args.graph.now.graph.blocks) k) (sym w.position-is) step);
          }
    ]

pub returns : goal.returns
returns c n has e =
    let g = c.args.graph.now.graph in
    let all = drop_all c.loop-name.name-index g.blocks (omega (arith, length-names g c.args.names.now c.requires)) in
    placed_all (stays_in c.args.staying.now) (new_name g) g (get nat_eq c.loop-name.positions) c.loop-name.position
    (subst (λ bs. ArePlaced (stays_in c.args.staying.now) (new_name c.args.graph.now.graph) c.args.graph.now.graph (get nat_eq c.loop-name.positions) bs c.loop-name.position) all c.loop-name.invariant.placed) n has e
