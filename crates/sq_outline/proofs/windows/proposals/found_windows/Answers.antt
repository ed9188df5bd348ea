use Rattle.std.proofs.Common.{◌≡◌, ◌≤◌, ◌+◌, ◌-◌, ℕ, List, Option, map, length, sym, ap, ◌∙◌, subst, arith}
use Rattle.std.proofs.lemmas.List.Elements.{All-nil}
use Rattle.std.proofs.lemmas.List.Sorted.{All-permutation}
use Rattle.std.specs.List.{All}
use Rattle.sq_outline.specs.WindowsProposed.{IsFoundWindow, IsPlacedIn}
use Rattle.sq_finger.specs.declared.places.WindowAt.{WindowAt}
use Rattle.sq_finger.specs.Lines.{line_of, item_at, AreWindowNumbers}
use Rattle.sq_finger.specs.Numbers.{AreNumbersOf}
use Rattle.sq_finger.specs.Runs.{AreRunNumbers}
use Rattle.sq_outline.proofs.WindowsFinding.{few_numbers, longer_numbers}
use Rattle.sq_outline.proofs.windows.proposals.found_windows.Goals as goal

pub number_longer_runs-requires : goal.number_longer_runs-requires
number_longer_runs-requires c =
    let few = few_numbers c.args.graph.now c.deref.result.now c.in_ok-items.items.items c.learn.ensures.rules c.learn.ensures.small (c.deref.ensures.value ∙ c.in_ok-line.ensures) c.in_ok-items.ensures in
    omega (arith, few, ap (λ (ns : List (Option ℕ)). length ns) c.deref-2.ensures.value)

pub loop-n-init : goal.loop-n-init
loop-n-init c = record {
  runs = longer_numbers c.deref-2.result.now c.in_ok-items.items.items c.deref-3.result.now c.in_ok-items.items.items c.in_ok-numbers.numbers.items c.deref-2.ensures.value c.deref-3.ensures.value c.in_ok-numbers.ensures 1 (c.window_laws.ensures.ones c.in_ok-items.items.items);
  found = subst (λ windows. All (IsFoundWindow c.args.graph.now.graph) windows) (sym c.new.ensures.items) (All-nil (IsFoundWindow c.args.graph.now.graph));
  placed = subst (λ windows. All (IsPlacedIn c.args.graph.now.graph c.new-2.result.items) windows) (sym c.new.ensures.items) (All-nil (IsPlacedIn c.args.graph.now.graph c.new-2.result.items));
}

pub number_longer_runs-requires-in-loop-n : goal.number_longer_runs-requires-in-loop-n
number_longer_runs-requires-in-loop-n c =
    let few = few_numbers c.args.graph.now c.deref.result.now c.in_ok-items.items.items c.learn.ensures.rules c.learn.ensures.small (c.deref.ensures.value ∙ c.in_ok-line.ensures) c.in_ok-items.ensures in
    omega (arith, few, ap (λ (ns : List (Option ℕ)). length ns) c.deref-in-loop-n.ensures.value)

pub classes_in_line-requires-clause-numbers : goal.classes_in_line-requires-clause-numbers
classes_in_line-requires-clause-numbers c =
    let g = c.args.graph.now.graph in
    let n = c.loop-n.n in
    let least : 3 ≤ c.loop-n.n = c.loop-n.auto.n in
    let items = c.in_ok-items.items.items in
    let longer = longer_numbers c.deref-in-loop-n.result.now items c.deref-in-loop-n-2.result.now c.loop-n.numbers.items c.in_ok-longer.longer.items c.deref-in-loop-n.ensures.value c.deref-in-loop-n-2.ensures.value c.in_ok-longer.ensures (n - 1) c.loop-n.invariant.runs in
    let same : (c.loop-n.n - 1) + 1 ≡ c.loop-n.n = omega (arith, least) in
    let runs : AreRunNumbers c.loop-n.n c.in_ok-items.items.items c.in_ok-longer.longer.items = subst (λ k. AreRunNumbers k c.in_ok-items.items.items c.in_ok-longer.longer.items) same longer in
    let whole : c.deref.result.now ≡ line_of c.args.graph.now.graph = c.deref.ensures.value ∙ c.in_ok-line.ensures in
    let numbers : AreNumbersOf (map (item_at c.args.graph.now.graph) (line_of c.args.graph.now.graph)) c.in_ok-items.items.items =
    subst (λ (ps : List WindowAt). AreNumbersOf (map (item_at c.args.graph.now.graph) ps) c.in_ok-items.items.items) whole c.in_ok-items.ensures in
    let windows = c.window_laws.ensures.windows g n items c.in_ok-longer.longer.items (omega (arith, least)) numbers runs in
    subst (λ (ps : List WindowAt). AreWindowNumbers c.args.graph.now.graph c.loop-n.n ps c.deref-in-loop-n-7.result.now) (sym (c.deref-in-loop-n-6.ensures.value ∙ c.in_ok-line.ensures))
    (subst (λ (ns : List (Option ℕ)). AreWindowNumbers c.args.graph.now.graph c.loop-n.n (line_of c.args.graph.now.graph) ns) (sym c.deref-in-loop-n-7.ensures.value) windows)

pub loop-n-preserved : goal.loop-n-preserved
loop-n-preserved c =
    let n = c.loop-n.n in
    let least : 3 ≤ c.loop-n.n = c.loop-n.auto.n in
    let items = c.in_ok-items.items.items in
    let longer = longer_numbers c.deref-in-loop-n.result.now items c.deref-in-loop-n-2.result.now c.loop-n.numbers.items c.in_ok-longer.longer.items c.deref-in-loop-n.ensures.value c.deref-in-loop-n-2.ensures.value c.in_ok-longer.ensures (n - 1) c.loop-n.invariant.runs in
    let same : (c.loop-n.n - 1) + 1 ≡ (c.loop-n.n + 1) - 1 = omega (arith, least) in
    record {
      runs = subst (λ k. AreRunNumbers k c.in_ok-items.items.items c.in_ok-longer.longer.items) same longer;
      found = c.in_ok-push_windows.ensures.windows;
      placed = c.in_ok-push_windows.ensures.placed;
    }

pub returns-clause-windows : goal.returns-clause-windows
returns-clause-windows c = All-permutation (IsFoundWindow c.args.graph.now.graph) _ _ c.in_ok-sort_by_key.ensures.permutation c.loop-n.invariant.found

pub returns-clause-placed : goal.returns-clause-placed
returns-clause-placed c = All-permutation (IsPlacedIn c.args.graph.now.graph c.loop-n.look.places.items) _ _ c.in_ok-sort_by_key.ensures.permutation c.loop-n.invariant.placed
