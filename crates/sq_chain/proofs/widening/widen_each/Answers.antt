use Rattle.std.proofs.Common.{◌≡◌, ◌+◌, ◌∙◌, ℕ, true, get_or, is_some, sym, ap, subst, arith}
use Rattle.sq_graph.specs.declared.item.Term.TheVariants.{Branch}
use Rattle.sq_graph.specs.Blocks.{HasBlock}
use Rattle.sq_graph.specs.Room.{GraphAndRoom}
use Rattle.sq_live.proofs.Layouts.{block_at, length-names}
use Rattle.sq_lookup.specs.Names.{is_listed}
use Rattle.sq_lookup.proofs.Targets.{has_term}
use Rattle.sq_chain.specs.Widening.{IsWidened}
use Rattle.sq_chain.proofs.Widens.{upto, upto_out, upto_in, upto_others, upto_same, upto_all, upto_none, left_in, left_out, IsWider, wider_itself, still_branch, one_step}
use Rattle.sq_chain.proofs.widening.widen_each.Goals as goal
use Rattle.sq_chain.proofs.widening.widen_each.Goals.{then-has, else-has}

pub loop-name-init : goal.loop-name-init
loop-name-init c =
    let g = c.args.graph.now.graph in
    record { wider = wider_itself g (upto (is_listed c.args.wide.now) g 0) c.learn.ensures.rules (upto_none (is_listed c.args.wide.now) g); spare = c.requires.spare }

pub widen_one-requires-clause-branch : goal.widen_one-requires-clause-branch
widen_one-requires-clause-branch c =
    let g = c.args.graph.now.graph in
    let name = get_or c.args.names.now c.loop-name.name-index 0 in
    let b = block_at g c.args.names.now c.loop-name.name-index c.learn.ensures.rules c.requires.names c.loop-name-test.true in
    let within : is_listed c.args.wide.now (get_or c.args.names.now c.loop-name.name-index 0) ≡ true = sym c.has.ensures ∙ c.if-has.true in
    still_branch g c.loop-name.graph.graph (upto (is_listed c.args.wide.now) g c.loop-name.name-index) c.learn.ensures.rules c.loop-name.invariant.wider name (ap is_some b.found)
    (upto_out (is_listed c.args.wide.now) g c.learn.ensures.rules c.loop-name.name-index name b) (c.requires.branches name within)

pub widen_one-requires-clause-spare : goal.widen_one-requires-clause-spare
widen_one-requires-clause-spare c =
    let g = c.args.graph.now.graph in
    let name = get_or c.args.names.now c.loop-name.name-index 0 in
    let b = block_at g c.args.names.now c.loop-name.name-index c.learn.ensures.rules c.requires.names c.loop-name-test.true in
    let within : is_listed c.args.wide.now (get_or c.args.names.now c.loop-name.name-index 0) ≡ true = sym c.has.ensures ∙ c.if-has.true in
    let left = left_in (is_listed c.args.wide.now) g c.learn.ensures.rules c.loop-name.name-index name b within in
    let spare = c.loop-name.invariant.spare in
    omega (arith, left, spare)

pub loop-name-preserved : goal.loop-name-preserved
loop-name-preserved c =
    let g = c.args.graph.now.graph in
    let h = c.loop-name.graph.graph in
    let name = get_or c.args.names.now c.loop-name.name-index 0 in
    let b = block_at g c.args.names.now c.loop-name.name-index c.learn.ensures.rules c.requires.names c.loop-name-test.true in
    let spare = c.loop-name.invariant.spare in
    elim c.if-has.branch [
      | then-has w ↦
          let within : is_listed c.args.wide.now (get_or c.args.names.now c.loop-name.name-index 0) ≡ true = sym c.has.ensures ∙ w.if-has.true in
          let left = left_in (is_listed c.args.wide.now) g c.learn.ensures.rules c.loop-name.name-index name b within in
          let less = w.widen_one.ensures.spare in
          let same = ap (λ (v : GraphAndRoom). v.spare.blocks) w.graph-is in
          let step = one_step g h w.widen_one.new.graph.graph (upto (is_listed c.args.wide.now) g c.loop-name.name-index) (upto (is_listed c.args.wide.now) g (c.loop-name.name-index + 1)) name c.learn.ensures.rules c.loop-name.invariant.wider
          (upto_out (is_listed c.args.wide.now) g c.learn.ensures.rules c.loop-name.name-index name b)
          (upto_in (is_listed c.args.wide.now) g c.learn.ensures.rules c.loop-name.name-index name b within)
          (upto_others (is_listed c.args.wide.now) g c.learn.ensures.rules c.loop-name.name-index name b)
          (c.requires.branches name within) w.widen_one.ensures.wider in
          record {
            wider = subst (λ (v : GraphAndRoom). IsWider g v.graph (upto (is_listed c.args.wide.now) g (c.loop-name.name-index + 1))) (sym w.graph-is) step;
            spare = omega (arith, spare, left, less, same);
          }
      | else-has w ↦
          let out = sym c.has.ensures ∙ w.if-has.false in
          let left = left_out (is_listed c.args.wide.now) g c.learn.ensures.rules c.loop-name.name-index name b out in
          let same = ap (λ (v : GraphAndRoom). v.spare.blocks) w.graph-is in
          record {
            wider =
                subst (λ (v : GraphAndRoom). IsWider g v.graph (upto (is_listed c.args.wide.now) g (c.loop-name.name-index + 1))) (sym w.graph-is)
                (subst (IsWider g h) (sym (upto_same (is_listed c.args.wide.now) g c.learn.ensures.rules c.loop-name.name-index name b out)) c.loop-name.invariant.wider);
            spare = omega (arith, spare, left, same);
          }
    ]

pub returns-clause-widened : goal.returns-clause-widened
returns-clause-widened c =
    let g = c.args.graph.now.graph in
    let there : (n : ℕ) → is_listed c.args.wide.now n ≡ true → HasBlock c.args.graph.now.graph n = λ n e. let b = c.requires.branches n e in has_term g n (Branch b.cond b.a b.b b.to) b.is in
    subst (IsWidened g c.loop-name.graph.graph) (upto_all (is_listed c.args.wide.now) g c.loop-name.name-index (omega (arith, length-names g c.args.names.now c.requires.names)) there) c.loop-name.invariant.wider.wide

pub returns-clause-follows : goal.returns-clause-follows
returns-clause-follows c = c.loop-name.invariant.wider.follows

pub returns-clause-sound : goal.returns-clause-sound
returns-clause-sound c = c.loop-name.invariant.wider.sound
