use Rattle.std.proofs.Common.{◌≡◌, ◌==◌, ◌+◌, ℕ, [], ◌∷◌, if◌then◌else◌, option_to_list, take, refl, sym, ap, ◌∙◌, subst, arith}
use Rattle.std.proofs.lemmas.List.{take_all}
use Rattle.std.proofs.lemmas.Bool.{eq-eqb}
use Rattle.sq_graph.specs.Uses.{item_uses}
use Rattle.sq_lookup.specs.Counts.{times_named, AreTaken}
use Rattle.sq_lookup.specs.declared.counts.Uses.{Uses}
use Rattle.sq_lookup.proofs.Counting.{times_more, times_front}
use Rattle.sq_lookup.proofs.counts.Uses.take_items.Goals as goal
use Rattle.sq_lookup.proofs.counts.Uses.take_items.Goals.{in-Some, in_default}

pub loop-item-init : goal.loop-item-init
loop-item-init c = record { words = refl; terms = refl; items = λ n. omega arith }

pub take_item-requires : goal.take_item-requires
take_item-requires c =
    let to = c.in-Some.to in
    let own : times_named (item_uses c.item-item.result) to ≡ times_named (to ∷ []) to = ap (λ us. times_named us to) (sym c.target.ensures ∙ ap option_to_list c.in-Some.is) in
    let one : ◌≡◌ {A = ℕ} (if to == to then 1 else 0) 1 = ap (λ t. if t then 1 else 0) (eq-eqb to to refl) in
    omega (
      arith,
      own,
      one,
      c.requires to,
      c.loop-item.invariant.items to,
      times_more item_uses c.args.items.now c.loop-item.item-index c.item-item.result to c.loop-item-test.true c.item-item.is,
      times_front item_uses c.args.items.now (c.loop-item.item-index + 1) to,
    )

pub loop-item-preserved : goal.loop-item-preserved
loop-item-preserved c =
    let i = c.loop-item.item-index in
    let items = c.args.items.now in
    let more = λ (n : ℕ). times_more item_uses items i c.item-item.result n c.loop-item-test.true c.item-item.is in
    let first = c.loop-item.invariant in
    elim c.match-target.branch [
      | in-Some w ↦
          let own = λ (n : ℕ). ap (λ us. times_named us n) (sym c.target.ensures ∙ ap option_to_list w.in-Some.is) in
          subst (λ (they : Uses). AreTaken (take (i + 1) items) c.args.self.now they) (sym w.self-is)
          (record {
            words = sym w.take_item.ensures.words ∙ first.words;
            terms = sym w.take_item.ensures.terms ∙ first.terms;
            items = λ n. omega (arith, own n, more n, first.items n, w.take_item.ensures.items n);
          })
      | in_default w ↦
          let own = λ (n : ℕ). ap (λ us. times_named us n) (sym c.target.ensures ∙ ap option_to_list w.in_default.is) in
          subst (λ (they : Uses). AreTaken (take (i + 1) items) c.args.self.now they) (sym w.self-is)
          (record { words = first.words; terms = first.terms; items = λ n. omega (arith, own n, more n, first.items n) })
    ]

pub returns : goal.returns
returns c = subst (λ they. AreTaken they c.args.self.now c.loop-item.self) (take_all c.loop-item.item-index c.args.items.now (omega arith)) c.loop-item.invariant
