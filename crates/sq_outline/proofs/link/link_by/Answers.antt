use Rattle.std.proofs.Common.{◌≡◌, ◌<◌, ℕ, length, get_or, drop, sym, ◌∙◌, subst}
use Rattle.sq_outline.specs.Links.{link_order, MayLinkBy, IsFirstOf}
use Rattle.sq_outline.proofs.Linking.{register_at, first_here, first_later, first_skips, none_left}
use Rattle.sq_outline.proofs.link.link_by.Goals as goal

pub returns-then-may_link_by : goal.returns-then-may_link_by
returns-then-may_link_by c =
    let P : ℕ → Type 0 = MayLinkBy c.args.items.now c.args.dead in
    let i = c.loop-number.number-index in
    let there : i < length link_order = c.loop-number-test.true in
    let is : c.from_low_bits-r.result ≡ get_or link_order i 0 = c.from_low_bits-r.ensures ∙ register_at i there in
    let holds = subst P is (c.may_link_by.ensures.0 c.if-may_link_by.true) in
    c.loop-number.invariant.later c.from_low_bits-r.result (subst (λ r. IsFirstOf (drop i link_order) P r) (sym is) (first_here link_order P i there holds))

pub loop-number-preserved : goal.loop-number-preserved
loop-number-preserved c =
    let P : ℕ → Type 0 = MayLinkBy c.args.items.now c.args.dead in
    let i = c.loop-number.number-index in
    let there : i < length link_order = c.loop-number-test.true in
    let is : c.from_low_bits-r.result ≡ get_or link_order i 0 = c.from_low_bits-r.ensures ∙ register_at i there in
    let fails : ¬ P (get_or link_order i 0) = λ may. let yes = c.may_link_by.ensures.1 (subst P (sym is) may) in let no = c.if-may_link_by.false in absurd (cc) in
    record {
      later = λ r later. c.loop-number.invariant.later r (first_later link_order P i there fails r later);
      skips = λ r first. first_skips link_order P i there fails r (c.loop-number.invariant.skips r first);
    }

pub returns : goal.returns
returns c =
    let P : ℕ → Type 0 = MayLinkBy c.args.items.now c.args.dead in
    λ r first. none_left link_order P c.loop-number.number-index c.loop-number-test.false r (c.loop-number.invariant.skips r first)
