use Rattle.std.proofs.Common.{◌≡◌, ◌≢◌, ◌∙◌, ℕ, ◌+◌, ◌-◌, ◌<◌, ◌∷◌, refl, ap, sym, ⊎_elim, take, drop, length, get_or, arith, get_or-set_same, get_or-set_other, get_or-take, length-take}
use Rattle.std.proofs.Math.ListN.{set}
use Rattle.std.proofs.lemmas.Bool.{cases_eq}
use Rattle.std.proofs.lemmas.List.{drop_more, length-set, ext_get_or}
use Rattle.sq_isa.specs.Registers.{is_member}
use Rattle.sq_live.specs.Effects.{before_items}
use Rattle.sq_live.proofs.places.push_places.Goals as goal

pub loop-k-preserved : goal.loop-k-preserved
loop-k-preserved c =
    let sets = c.loop-k.sets.items in
    let start = c.len-start.result in
    let items = c.args.items.now in
    let calls = c.args.calls.now in
    let k = c.loop-k.k - 1 in
    let i = start + k in
    let live = c.before-live.result in
    let next : k + 1 ≡ c.loop-k.k = omega arith in
    let within : k < length items = omega arith in
    let step : drop k items ≡ c.index-items-k.result ∷ drop c.loop-k.k items =
    drop_more items k c.index-items-k.result within ∙ ap (λ x. x ∷ drop (k + 1) items) (sym c.index-items-k.is) ∙ ap (λ n. c.index-items-k.result ∷ drop n items) next in
    let before : (r : ℕ) → r < 32 → is_member live r ≡ before_items calls (drop k items) (is_member c.args.behind r) r =
    λ r small.
    c.before-live.ensures r small ∙ rw (c.item_effect.ensures.reads r, c.item_effect.ensures.writes r, c.loop-k.invariant.live r small) refl
    ∙ sym (ap (λ xs. before_items calls xs (is_member c.args.behind r) r) step) in
    let fits : i < length sets = omega (arith, c.loop-k.invariant.count, within) in
    record {
      count = length-set sets i live ∙ c.loop-k.invariant.count;
      old = λ j below. get_or-set_other sets i j live 0 (λ e. omega (arith, e, below)) ∙ c.loop-k.invariant.old j below;
      live = before;
      places = λ j r from upto small.
          ⊎_elim
          (λ (e : j ≡ k).
          ap (λ s. is_member s r) (ap (λ n. get_or (set sets i live) (start + n) 0) e ∙ get_or-set_same sets i live 0 fits)
          ∙ before r small ∙ ap (λ n. before_items calls (drop n items) (is_member c.args.behind r) r) (sym e))
          (λ (e : j ≢ k).
          ap (λ s. is_member s r) (get_or-set_other sets i (start + j) live 0 (λ same. e (omega (arith, same))))
          ∙ c.loop-k.invariant.places j r (omega (arith, from, e)) upto small)
          (cases_eq j k);
    }

pub returns-clause-old : goal.returns-clause-old
returns-clause-old c =
    let old = c.args.sets.now.items in
    let new = c.loop-k.sets.items in
    let start : c.len-start.result ≡ length old = c.len-start.ensures ∙ c.args.sets.now.ok.0 in
    let size : length (take (length old) new) ≡ length old = omega (arith, length-take (length old) new, c.loop-k.invariant.count, start) in
    ext_get_or 0 (take (length old) new) old size
    (λ i h. get_or-take (length old) new i 0 (omega (arith, h, size)) ∙ c.loop-k.invariant.old i (omega (arith, h, size, start)))
