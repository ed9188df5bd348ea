use Rattle.std.proofs.Common.{◌≡◌, ◌≤◌, ◌+◌, false, true, length, drop, arith, refl, sym, inr}
use Rattle.sq_graph.specs.Matches.{registers_of, IsPairIn, IsPair}
use Rattle.sq_rename.specs.Pairs.{Nothing}
use Rattle.sq_rename.proofs.Joining.{dropped, join_start, join_step, join_fail}
use Rattle.sq_rename.proofs.Places.{forms_length, forms_step, forms_back, pair_head, pair_tail, pair_split, with_first, pairs_whole}
use Rattle.sq_rename.proofs.pairs.pairs_of.Goals as goal

pub returns-then-items-others : goal.returns-then-items-others
returns-then-items-others c = λ h. c.if-items-others.true (forms_length c.args.items.now c.args.others.now h.forms)

pub loop-k-init : goal.loop-k-init
loop-k-init c = record {
  up = λ f. f;
  down = λ f. f;
  joining = join_start c.zero-pairs.result (IsPair c.args.g.now.graph.procedures c.args.items.now c.args.others.now) c.zero-pairs.ensures.tables;
}

pub returns-then-not-is_same_form : goal.returns-then-not-is_same_form
returns-then-not-is_same_form c = λ h.
    let ps = c.args.g.now.graph.procedures in
    let items = c.args.items.now in
    let others = c.args.others.now in
    let k = c.loop-k.k in
    let x = c.index-items-k.result in
    let y = c.index-others-k.result in
    let e = dropped items k x (omega arith) c.index-items-k.is in
    let f = dropped others k y (omega arith) c.index-others-k.is in
    let step = forms_step ps (drop k items) (drop k others) (drop (k + 1) items) (drop (k + 1) others) x y e f (c.loop-k.invariant.up h.forms) in
    let t : false ≡ true = c.if-not-is_same_form.ensures.1 step.0 in
    cc

pub returns-then-not-pair_items : goal.returns-then-not-pair_items
returns-then-not-pair_items c = λ h.
    let ps = c.args.g.now.graph.procedures in
    let items = c.args.items.now in
    let others = c.args.others.now in
    let k = c.loop-k.k in
    let x = c.index-items-k.result in
    let y = c.index-others-k-in-loop-k.result in
    let e = dropped items k x (omega arith) c.index-items-k.is in
    let f = dropped others k y (omega arith) c.index-others-k-in-loop-k.is in
    join_fail c.zero-pairs.result c.loop-k.pairs (IsPair ps items others) (IsPair ps (drop k items) (drop k others)) (IsPairIn (registers_of ps x) (registers_of ps y)) Nothing c.loop-k.invariant.joining
    (λ q t p. inr (pair_head ps (drop k items) (drop k others) (drop (k + 1) items) (drop (k + 1) others) x y e f q t p))
    c.if-not-pair_items.ensures
    (with_first c.zero-pairs.result ps items others c.zero-pairs.ensures.only h.one_to_one)

pub loop-k-preserved : goal.loop-k-preserved
loop-k-preserved c =
    let ps = c.args.g.now.graph.procedures in
    let items = c.args.items.now in
    let others = c.args.others.now in
    let k = c.loop-k.k in
    let x = c.index-items-k.result in
    let o = c.index-others-k.result in
    let y = c.index-others-k-in-loop-k.result in
    let e = dropped items k x (omega arith) c.index-items-k.is in
    let f = dropped others k o (omega arith) c.index-others-k.is in
    let g = dropped others k y (omega arith) c.index-others-k-in-loop-k.is in
    record {
      up = λ h. (forms_step ps (drop k items) (drop k others) (drop (k + 1) items) (drop (k + 1) others) x o e f (c.loop-k.invariant.up h)).1;
      down = λ h. c.loop-k.invariant.down (forms_back ps (drop k items) (drop k others) (drop (k + 1) items) (drop (k + 1) others) x o e f (c.if-not-is_same_form.ensures.0 refl) h);
      joining =
          join_step c.zero-pairs.result c.loop-k.pairs (IsPair ps items others) (IsPair ps (drop k items) (drop k others)) (IsPairIn (registers_of ps x) (registers_of ps y)) (IsPair ps (drop (k + 1) items) (drop (k + 1) others)) c.loop-k.invariant.joining
          (λ q t p. inr (pair_head ps (drop k items) (drop k others) (drop (k + 1) items) (drop (k + 1) others) x y e g q t p))
          c.pair_items.new.self
          (λ q t p. pair_tail ps (drop k items) (drop k others) (drop (k + 1) items) (drop (k + 1) others) x y e g q t p)
          (λ q t p. pair_split ps (drop k items) (drop k others) (drop (k + 1) items) (drop (k + 1) others) x y e g q t p)
          c.if-not-pair_items.ensures;
    }

pub returns : goal.returns
returns c =
    let l : length c.args.items.now ≤ c.loop-k.k = (let t = c.loop-k-test.false in let e = c.loop-k.auto in omega arith) in
    pairs_whole c.zero-pairs.result c.loop-k.pairs c.args.g.now.graph.procedures c.args.items.now c.args.others.now c.loop-k.k l (sym c.if-items-others.false) c.zero-pairs.ensures.only c.loop-k.invariant.down c.loop-k.invariant.joining
