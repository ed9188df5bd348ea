use Rattle.std.proofs.Common.{◌∙◌, ap, sym, Some}
use Rattle.std.proofs.lemmas.Bool.{eqb-true, eqb-false}
use Rattle.sq_rename.proofs.Joining.{read_at, pair_new_at, pair_there, pair_back}
use Rattle.sq_rename.proofs.pairs.Pairs.pair.Goals as goal

pub returns-in-Some-default : goal.returns-in-Some-default
returns-in-Some-default c =
    let old = c.args.self.now in
    let first = c.number-in-Some-default.ensures.value in
    let second = c.number-in-Some-default-2.ensures.value in
    let at = read_at old.there c.args.r c.number.result c.index-self-from.result c.requires.there_count c.number.ensures.value c.number.ensures.range c.index-self-from.is in
    pair_there old c.args.r c.args.s c.in-Some-default.other _ c.requires (at ∙ ap Some (c.index-self-from.is ∙ c.in-Some-default.is-0))
    (λ e. sym first ∙ (eqb-true _ _ e ∙ second))
    (λ e same. eqb-false _ _ e (first ∙ (same ∙ sym second)))

pub returns-in-None-Some : goal.returns-in-None-Some
returns-in-None-Some c =
    let old = c.args.self.now in
    let at = read_at old.there c.args.r c.number.result c.index-self-from.result c.requires.there_count c.number.ensures.value c.number.ensures.range c.index-self-from.is in
    let to = read_at old.back c.args.s c.number-2.result c.index-self-to.result c.requires.back_count c.number-2.ensures.value c.number-2.ensures.range c.index-self-to.is in
    pair_back old c.args.r c.args.s c.in-None-Some.field-0-1 c.requires (at ∙ ap Some (c.index-self-from.is ∙ c.in-None-Some.is-0)) (to ∙ ap Some (c.index-self-to.is ∙ c.in-None-Some.is-1))

pub returns-in-None-None : goal.returns-in-None-None
returns-in-None-None c =
    let old = c.args.self.now in
    let at = read_at old.there c.args.r c.number.result c.index-self-from.result c.requires.there_count c.number.ensures.value c.number.ensures.range c.index-self-from.is in
    let to = read_at old.back c.args.s c.number-2.result c.index-self-to.result c.requires.back_count c.number-2.ensures.value c.number-2.ensures.range c.index-self-to.is in
    pair_new_at old c.args.r c.args.s c.number.result c.number-2.result c.requires c.number.ensures.value c.number-2.ensures.value c.number.ensures.range c.number-2.ensures.range (at ∙ ap Some (c.index-self-from.is ∙ c.in-None-None.is-0)) (to ∙ ap Some (c.index-self-to.is ∙ c.in-None-None.is-1))
