use Rattle.std.proofs.Common.{◌≡◌, List, [], ◌∷◌, ◌++◌, sym, ap, ◌∙◌, subst}
use Rattle.std.proofs.lemmas.List.Elements.{All-push, All-weaker}
use Rattle.std.specs.List.{All}
use Rattle.sq_outline.specs.WindowsProposed.{IsFoundWindow, IsPlacedIn}
use Rattle.sq_outline.specs.declared.windows.proposals.FoundWindow.{FoundWindow}
use Rattle.sq_outline.specs.declared.windows.proposals.Look.{Look}
use Rattle.sq_finger.specs.declared.places.WindowAt.{WindowAt}
use Rattle.sq_outline.proofs.WindowsNarrowed.{listed_one}
use Rattle.sq_outline.proofs.windows.proposals.push_windows.Goals as goal
use Rattle.sq_outline.proofs.windows.proposals.push_windows.Goals.{in-Some+in_ok-window+in_ok-push, in_default}

pub placed-requires-clause-shorter : goal.placed-requires-clause-shorter
placed-requires-clause-shorter c =
    let look = c.loop-number.look in
    listed_one c.args.graph.now.graph look.places.items look.windows.items c.window_of-other.result c.loop-number.invariant.windows c.loop-number.invariant.placed c.window_of-other.ensures

pub loop-number-preserved : goal.loop-number-preserved
loop-number-preserved c =
    let g = c.args.graph.now.graph in
    let windows = c.loop-number.look.windows.items in
    let places = c.loop-number.look.places.items in
    elim c.match-branch-2.branch [
      | in-Some+in_ok-window+in_ok-push w ↦
          let all : c.match-branch-2.look.windows.items ≡ c.loop-number.look.windows.items ++ w.in_ok-window.window ∷ [] = ap (λ (look : Look). look.windows.items) w.look-is ∙ w.in_ok-push.ensures.items in
          let kept = w.placed.new.kept.items in
          let more = ap (λ (look : Look). look.places.items) w.look-is in
          let still = All-weaker (IsPlacedIn g places) (IsPlacedIn g kept) w.in_ok-window.ensures.others windows c.loop-number.invariant.placed in
          record {
            windows = subst (λ (ws : List FoundWindow). All (IsFoundWindow g) ws) (sym all) (All-push (IsFoundWindow g) windows w.in_ok-window.window c.loop-number.invariant.windows w.in_ok-window.ensures.window);
            placed =
                subst (λ (ps : List WindowAt). All (IsPlacedIn g ps) c.match-branch-2.look.windows.items) (sym more)
                (subst (λ (ws : List FoundWindow). All (IsPlacedIn g kept) ws) (sym all) (All-push (IsPlacedIn g kept) windows w.in_ok-window.window still w.in_ok-window.ensures.placed));
          }
      | in_default w ↦
          record {
            windows = subst (λ (look : Look). All (IsFoundWindow g) look.windows.items) (sym w.look-is) c.loop-number.invariant.windows;
            placed = subst (λ (look : Look). All (IsPlacedIn g look.places.items) look.windows.items) (sym w.look-is) c.loop-number.invariant.placed;
          }
    ]
