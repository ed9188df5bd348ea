use Rattle.std.proofs.Common.{◌≡◌, ◌++◌, map, length, slice_get, ap, sym, ◌∙◌, subst, arith}
use Rattle.std.proofs.lemmas.List.{length-map}
use Rattle.sq_finger.specs.Groups.{group_count, groups_of}
use Rattle.sq_fold.specs.Splitting.{IsWhole, node_by}
use Rattle.sq_fold.specs.Stable.{IsFinerBy}
use Rattle.sq_fold.proofs.Refining.{finer_many, finer_count}
use Rattle.sq_fold.proofs.Splits.{part_whole, split_sound, classes_whole, whole_append}
use Rattle.sq_fold.proofs.splitting.split.Goals as goal

pub by_number-requires-clause-many : goal.by_number-requires-clause-many
by_number-requires-clause-many c =
    ap length c.deref-2.ensures.value ∙ finer_many c.deref.result.now c.classes-2.result.now c.in_ok-numbers.numbers.items c.in_ok-numbers.ensures
    ∙ ap length (c.deref.ensures.value ∙ c.in_ok-seen.ensures) ∙ length-map c.args.places.now (node_by c.args.nodes.now c.classes.result.now)

pub by_number-requires-clause-few : goal.by_number-requires-clause-few
by_number-requires-clause-few c =
    let few = finer_count c.deref.result.now c.classes-2.result.now c.in_ok-numbers.numbers.items c.in_ok-numbers.ensures in
    let same = ap group_count c.deref-2.ensures.value in
    let many = ap length (c.deref.ensures.value ∙ c.in_ok-seen.ensures) ∙ length-map c.args.places.now (node_by c.args.nodes.now c.classes.result.now) in
    let all = c.requires.few in
    omega arith

pub loop-part-preserved : goal.loop-part-preserved
loop-part-preserved c =
    let nodes = c.args.nodes.now in
    let places = c.args.places.now in
    let classes = c.args.classes.now in
    let numbers = c.in_ok-numbers.numbers.items in
    let part = c.members.result.now in
    let smaller = c.in_ok-smaller.smaller.items in
    let seen : c.deref.result.now ≡ map (node_by nodes classes) places = c.deref.ensures.value ∙ c.in_ok-seen.ensures ∙ ap (λ cs. map (node_by nodes cs) places) c.classes.ensures in
    let made = subst (λ cs. IsFinerBy (map (node_by nodes classes) places) cs numbers) c.classes-2.ensures (subst (λ ns. IsFinerBy ns c.classes-2.result.now numbers) seen c.in_ok-numbers.ensures) in
    let groups : c.in_ok-parts.parts ≡ groups_of numbers places = c.in_ok-parts.ensures ∙ ap (λ ns. groups_of ns places) c.deref-2.ensures.value in
    let at = sym (ap (λ gs. slice_get gs c.loop-part.part) groups) ∙ c.members.ensures in
    let whole = part_whole nodes classes c.requires.sound places numbers c.requires.whole made c.loop-part.part part at in
    let sound = split_sound nodes part c.loop-part.classes c.split_off.new.self c.loop-part.invariant.sound whole c.in_ok-smaller.ensures.split in
    record {
      sound = sound;
      whole =
          subst (IsWhole nodes) (sym (c.in_ok-extend_from_slice.ensures.items ∙ ap (λ xs. c.loop-part.changed.items ++ xs) c.deref-in-loop-part.ensures.value))
          (whole_append nodes c.loop-part.changed.items smaller c.loop-part.invariant.whole (classes_whole nodes c.split_off.new.self smaller sound c.in_ok-smaller.ensures.whole));
    }
