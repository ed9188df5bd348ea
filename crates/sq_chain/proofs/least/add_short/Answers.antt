use Rattle.std.proofs.Common.{◌≡◌, ◌+◌, ◌∙◌, ℕ, List, false, get_or, is_some, sym, ap, subst, arith}
use Rattle.std.proofs.lemmas.Bool.{both_ways}
use Rattle.sq_graph.specs.Blocks.{term_of}
use Rattle.sq_live.proofs.Layouts.{block_at, length-names}
use Rattle.sq_lookup.specs.Names.{is_listed}
use Rattle.sq_chain.specs.Widening.{swollen}
use Rattle.sq_chain.specs.Least.{is_short, falls_short}
use Rattle.sq_chain.proofs.Adding.{stands_are, Added, none_added, add_none, add_there, add_one, all_added}
use Rattle.sq_chain.proofs.least.add_short.Goals as goal
use Rattle.sq_chain.proofs.least.add_short.Goals.{then-falls_short+then-not-has+in_ok-insert, else-falls_short, else-falls_short-via-then-falls_short+else-not-has, else-falls_short-via-else-falls_short}

pub loop-name-init : goal.loop-name-init
loop-name-init c = record { added = none_added (is_listed c.args.wide.now) (falls_short c.args.graph.now.graph (is_listed c.args.wide.now)) c.args.graph.now.graph; same = λ e n. λ i. is_listed c.args.wide.now n }

pub falls_short-requires-clause-block : goal.falls_short-requires-clause-block
falls_short-requires-clause-block c =
    let b = block_at c.args.graph.now.graph c.args.names.now c.loop-name.name-index c.learn.ensures.rules c.requires c.loop-name-test.true in
    ap is_some b.found

pub loop-name-preserved : goal.loop-name-preserved
loop-name-preserved c =
    let g = c.args.graph.now.graph in
    let name = get_or c.args.names.now c.loop-name.name-index 0 in
    let F = falls_short g (is_listed c.args.wide.now) in
    let now = is_listed c.loop-name.wide in
    let rules = c.learn.ensures.rules in
    let b = block_at g c.args.names.now c.loop-name.name-index c.learn.ensures.rules c.requires c.loop-name-test.true in
    let added = c.loop-name.invariant.added in
    let test : c.falls_short.result ≡ falls_short c.args.graph.now.graph (is_listed c.args.wide.now) (get_or c.args.names.now c.loop-name.name-index 0) =
    c.falls_short.ensures ∙ ap (λ (f : ℕ → ℕ). is_short f g name (term_of g name)) (stands_are (swollen (is_listed c.args.wide.now)) g _ c.in_ok-addresses.ensures.addresses) in
    elim c.if-falls_short.branch [
      | then-falls_short+then-not-has+in_ok-insert w ↦
          record {
            added =
                subst (λ (ns : List ℕ). Added (is_listed c.args.wide.now) F (is_listed ns) g (c.loop-name.name-index + 1)) (sym w.wide-is)
                (add_one (is_listed c.args.wide.now) F now g rules c.loop-name.name-index name b added (is_listed w.insert.new.self) (sym test ∙ w.if-falls_short.true) w.in_ok-insert.ensures.each);
            same = λ e. absurd (both_ways c.if-falls_short.more e w.more-is);
          }
      | else-falls_short w ↦
          let stays : c.if-falls_short.more ≡ false → (n : ℕ) → is_listed c.loop-name.wide n ≡ is_listed c.args.wide.now n = λ e. c.loop-name.invariant.same (sym w.more-is ∙ e) in
          let more : Added (is_listed c.args.wide.now) (falls_short c.args.graph.now.graph (is_listed c.args.wide.now)) (is_listed c.loop-name.wide) c.args.graph.now.graph (c.loop-name.name-index + 1) =
          elim w.else-falls_short.branch [
            | else-falls_short-via-then-falls_short+else-not-has v ↦ add_there (is_listed c.args.wide.now) F now g rules c.loop-name.name-index name b added (sym test ∙ v.if-falls_short.true) (sym v.has.ensures ∙ v.if-not-has.false)
            | else-falls_short-via-else-falls_short v ↦ add_none (is_listed c.args.wide.now) F now g rules c.loop-name.name-index name b added (sym test ∙ v.if-falls_short.false)
          ] in
          record {
            added = subst (λ (ns : List ℕ). Added (is_listed c.args.wide.now) F (is_listed ns) g (c.loop-name.name-index + 1)) (sym w.wide-is) more;
            same = λ e n. ap (λ (ns : List ℕ). is_listed ns n) w.wide-is ∙ stays e n;
          }
    ]

pub returns-clause-grown : goal.returns-clause-grown
returns-clause-grown c =
    let g = c.args.graph.now.graph in
    all_added (is_listed c.args.wide.now) (is_listed c.loop-name.wide) g c.loop-name.name-index c.learn.ensures.rules (omega (arith, length-names g c.args.names.now c.requires)) c.loop-name.invariant.added
