use Rattle.std.proofs.Common.{[], ap, sym, ◌∙◌, subst, arith}
use Rattle.std.specs.List.{range_with_len}
use Rattle.sq_fold.specs.Splitting.{AreSound, IsWhole, AreInGroups}
use Rattle.sq_fold.proofs.Refining.{finer_many, finer_count}
use Rattle.sq_fold.proofs.Splits.{all_whole, first_sound, leading_whole}
use Rattle.sq_fold.proofs.splitting.split_classes.Goals as goal

pub new-requires-clause-places : goal.new-requires-clause-places
new-requires-clause-places c =
    c.deref.ensures.value ∙ c.in_ok-changed.ensures
    ∙ ap (range_with_len 0) (sym (finer_many c.args.nodes.now [] c.in_ok-numbers.numbers.items c.in_ok-numbers.ensures))

pub new-requires-clause-few : goal.new-requires-clause-few
new-requires-clause-few c =
    let few = finer_count c.args.nodes.now [] c.in_ok-numbers.numbers.items c.in_ok-numbers.ensures in
    let all = c.requires in
    omega arith

pub loop-init : goal.loop-init
loop-init c =
    let nodes = c.args.nodes.now in
    record {
      sound = subst (AreSound nodes) (sym c.in_ok-classes.ensures) (first_sound nodes c.in_ok-numbers.numbers.items c.in_ok-numbers.ensures);
      whole = subst (IsWhole nodes) (sym c.in_ok-changed.ensures) (all_whole nodes);
    }

pub split-requires-clause-whole : goal.split-requires-clause-whole
split-requires-clause-whole c =
    let nodes = c.args.nodes.now in
    let sources = c.in_ok-sources.sources in
    let changed = c.loop.changed.items in
    let leading = c.in_ok-leading.leading.keys in
    let inside = subst (λ places. AreInGroups sources places leading) c.deref-in-loop.ensures.value c.in_ok-leading.ensures in
    subst (IsWhole nodes) (sym c.as_slice.ensures.keys) (leading_whole nodes sources changed leading c.in_ok-sources.ensures inside c.loop.invariant.whole)
