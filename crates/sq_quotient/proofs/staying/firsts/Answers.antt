use Rattle.std.proofs.Common.{◌≡◌, ℕ, ◌+◌, ◌++◌, ◌∷◌, [], List, nat_eq, take, get_or, sym, ◌∙◌, subst}
use Rattle.std.specs.HashMap.{get}
use Rattle.std.proofs.lemmas.List.{take_more}
use Rattle.sq_fold.specs.Grouped.{class_in}
use Rattle.sq_quotient.specs.Staying.{first_of}
use Rattle.sq_quotient.proofs.FirstBlocks.{step_none, step_known, step_new}
use Rattle.sq_quotient.proofs.staying.firsts.Goals as goal
use Rattle.sq_quotient.proofs.staying.firsts.Goals.{in-Some+then-not-contains_key+in_ok-insert, in-Some+else-not-contains_key, in_default}

pub loop-name-preserved : goal.loop-name-preserved
loop-name-preserved c =
    let class = class_in c.args.grouping.now in
    let names = c.args.names.now in
    let i = c.loop-name.name-index in
    let name = get_or c.args.names.now c.loop-name.name-index 0 in
    let more : take (c.loop-name.name-index + 1) c.args.names.now ≡ take c.loop-name.name-index c.args.names.now ++ get_or c.args.names.now c.loop-name.name-index 0 ∷ [] = take_more names i 0 c.loop-name-test.true in
    subst (λ (ns : List ℕ). (k : ℕ) → get nat_eq c.match-class.firsts k ≡ first_of (class_in c.args.grouping.now) ns k) (sym more)
    (elim c.match-class.branch [
      | in-Some+then-not-contains_key+in_ok-insert w ↦
          subst (λ (m : _). (k : ℕ) → get nat_eq m k ≡ first_of (class_in c.args.grouping.now) (take c.loop-name.name-index c.args.names.now ++ get_or c.args.names.now c.loop-name.name-index 0 ∷ []) k) (sym w.firsts-is)
          (step_new class (take i names) name w.in-Some.class (get nat_eq c.loop-name.firsts) (get nat_eq w.insert.new.self) (sym c.class.ensures ∙ w.in-Some.is) (sym w.contains_key.ensures ∙ w.if-not-contains_key.true) w.in_ok-insert.ensures.updates.0 c.loop-name.invariant)
      | in-Some+else-not-contains_key w ↦
          subst (λ (m : _). (k : ℕ) → get nat_eq m k ≡ first_of (class_in c.args.grouping.now) (take c.loop-name.name-index c.args.names.now ++ get_or c.args.names.now c.loop-name.name-index 0 ∷ []) k) (sym w.firsts-is)
          (step_known class (take i names) name w.in-Some.class (get nat_eq c.loop-name.firsts) (sym c.class.ensures ∙ w.in-Some.is) (sym w.contains_key.ensures ∙ w.if-not-contains_key.false) c.loop-name.invariant)
      | in_default w ↦
          subst (λ (m : _). (k : ℕ) → get nat_eq m k ≡ first_of (class_in c.args.grouping.now) (take c.loop-name.name-index c.args.names.now ++ get_or c.args.names.now c.loop-name.name-index 0 ∷ []) k) (sym w.firsts-is)
          (step_none class (take i names) name (get nat_eq c.loop-name.firsts) (sym c.class.ensures ∙ w.in_default.is) c.loop-name.invariant)
    ])
