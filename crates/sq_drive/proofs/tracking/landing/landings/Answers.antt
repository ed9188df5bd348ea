use Rattle.std.proofs.Common.{◌≡◌, ℕ, ◌+◌, ◌-◌, ◌<◌, nat_eq, length, drop, get_or, Some, is_some, sym, ap, ◌∙◌, subst, arith}
use Rattle.std.specs.HashMap.{get}
use Rattle.std.specs.Option.{unwrap_or}
use Rattle.sq_graph.specs.Blocks.{HasBlock, block_of}
use Rattle.sq_live.proofs.Layouts.{block_at}
use Rattle.sq_drive.specs.Landing.{landing, landing_before, landing_of}
use Rattle.sq_drive.proofs.Landed.{landed, one_landed, same_default}
use Rattle.sq_drive.proofs.tracking.landing.landings.Goals as goal

pub landing-at-requires : goal.landing-at-requires
landing-at-requires c =
    let g = c.args.graph.now.graph in
    let names = c.in_ok-names.names.items in
    let i = c.loop-k.k - 1 in
    let near : i < length names = omega arith in
    let b = block_at g names i c.learn.ensures.rules c.in_ok-names.ensures near in
    let here : c.index-name.result.now ≡ get_or names i 0 = c.index-name.ensures ∙ same_default names i c.index-name.result.now 0 near in
    subst (HasBlock g) (sym here) (ap is_some b.found)

pub loop-k-preserved : goal.loop-k-preserved
loop-k-preserved c =
    let g = c.args.graph.now.graph in
    let names = c.in_ok-names.names.items in
    let i = c.loop-k.k - 1 in
    let near : i < length names = omega arith in
    let more : c.loop-k.k ≡ i + 1 = omega arith in
    let b = block_at g names i c.learn.ensures.rules c.in_ok-names.ensures near in
    let here : c.index-name.result.now ≡ get_or names i 0 = c.index-name.ensures ∙ same_default names i c.index-name.result.now 0 near in
    let at : c.landing-at.result ≡ landing_before c.loop-k.ahead b.block = c.landing-at.ensures b.block (ap (block_of g) here ∙ b.found) (b.has_name ∙ sym here) in
    let ahead : c.loop-k.ahead ≡ landing (drop (i + 1) g.blocks) = c.loop-k.invariant.ahead ∙ ap (λ n. landing (drop n g.blocks)) more in
    let is : c.landing-at.result ≡ landing_before (landing (drop (i + 1) g.blocks)) b.block = at ∙ ap (λ a. landing_before a b.block) ahead in
    let named : c.index-name.result.now ≡ b.block.name = here ∙ sym b.has_name in
    record {
      landed =
          one_landed (drop i g.blocks) (drop (i + 1) g.blocks) b.block c.landing-at.result (get nat_eq c.loop-k.landings) (get nat_eq c.insert.new.self) b.rest is
          (λ (x : ℕ). c.loop-k.invariant.landed x ∙ ap (λ n. landing_of (drop n g.blocks) x) more)
          (λ (x : ℕ). rw (sym named) (c.in_ok-insert.ensures.updates.0 x));
      ahead = ap Some is ∙ ap landing (sym b.rest);
    }

pub returns : goal.returns
returns c = λ x.
    let blocks = c.args.graph.now.graph.blocks in
    let first : c.loop-k.k ≡ 0 = omega arith in
    ap (λ o. unwrap_or o x) (c.loop-k.invariant.landed x ∙ ap (λ k. landing_of (drop k blocks) x) first)
    ∙ landed blocks c.learn.ensures.rules.distinct x
