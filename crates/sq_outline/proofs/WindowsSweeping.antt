-- A sweep of the rows on windows: what a rewrite adds to those before.
use Rattle.std.proofs.Common.{◌≡◌, ℕ, ◌≤◌, length, Result, Ok, Err, refl, sym, subst, arith}
use Rattle.std.specs.Prelude.{IfOk}
use Rattle.sq_num.specs.declared.memory.Memory.{Memory}
use Rattle.sq_num.specs.declared.packed.Savings.{Savings}
use Rattle.sq_graph.specs.Graph.{Graph}
use Rattle.sq_graph.specs.Blocks.{body_of}
use Rattle.sq_graph.specs.Leaders.{IsCanonical}
use Rattle.sq_graph.specs.Operations.{outlined}
use Rattle.sq_graph.specs.Rules.{IsGraph}
use Rattle.sq_graph.specs.Words.{words_of}
use Rattle.sq_graph.proofs.CanonicalLaws.{canonical_again}
use Rattle.sq_pass.specs.declared.cut.Cut.{Cut}
use Rattle.sq_pass.specs.declared.cut.Row.TheVariants.{W, V}
use Rattle.sq_pass.specs.Applied.{IsApplied}
use Rattle.sq_pass.specs.Counted.{counted}
use Rattle.sq_pass.specs.Rewrites.{IsRewritten}
use Rattle.sq_pass.proofs.Rewriting.{rewrite_made, lighter_itself, lighter_made, rewritten_once, rewritten_through}
use Rattle.sq_outline.specs.Called.{call_saving}
use Rattle.sq_outline.specs.WindowsCandidates.{IsWindowsCandidate, windows_described}
use Rattle.sq_outline.specs.WindowsInside.{MayCallInside, IsInsideCut, called_inside, inside_cut}
use Rattle.sq_outline.specs.WindowsMade.{items_at, IsWindowMade, IsWindowCut, window_made, window_cut}
use Rattle.sq_outline.specs.WindowsPlaces.{calls_for}
use Rattle.sq_outline.proofs.Kept.{outlined_canonical, called_canonical, each_canonical}
use Rattle.sq_outline.proofs.WindowsCalling.{callable_matches, inside_applied}
use Rattle.sq_outline.proofs.WindowsMaking.{window_applied, may_call, window_rules}

-- a cut whose graph is canonical
module _ (g h : Graph) (cut : Cut) (candidate : IsWindowsCandidate g cut) (applied : IsApplied cut.saving (windows_described g cut) g h) (still : IsCanonical h) where
  cut_rewritten : (before : Savings) → IsRewritten IsWindowsCandidate windows_described before (counted before cut.row cut.saving) g h
  cut_rewritten before =
      rewritten_once IsWindowsCandidate windows_described before (record { row = cut.row; saving = cut.saving }) g h
      (rewrite_made IsWindowsCandidate windows_described cut g h h candidate applied (sym (canonical_again h still)))
      (lighter_made cut.saving (windows_described g cut) g h h applied (lighter_itself h still))

-- ROW V

pub inside_rewritten : (g h : Graph) (block at procedure : ℕ) (before after : Savings) → IsGraph g → IsCanonical g → MayCallInside g block at procedure → h ≡ called_inside g block at procedure → after ≡ counted before V (call_saving g procedure) → IsRewritten IsWindowsCandidate windows_described before after g h
inside_rewritten g h block at procedure before after rules canonical may is counts =
    let saving = call_saving g procedure in
    let cut = inside_cut block at procedure (length (body_of g procedure)) saving in
    let candidate : IsInsideCut g (inside_cut block at procedure (length (body_of g procedure)) (call_saving g procedure)) = record { block = block; called = may; is = refl } in
    let done = inside_applied g block at procedure saving rules may in
    let applied : IsApplied (call_saving g procedure) (called_inside g block at procedure) g h = subst (λ (k : Graph). IsApplied (call_saving g procedure) (called_inside g block at procedure) g k) (sym is) done in
    let still : IsCanonical h = subst IsCanonical (sym is) (called_canonical g (record { block = block; at = at }) procedure (callable_matches g block at procedure may.callable) canonical) in
    subst (λ (s : Savings). IsRewritten IsWindowsCandidate windows_described before s g h) (sym counts) (cut_rewritten g h cut candidate applied still before)

pub inside_words : (g : Graph) (block at procedure : ℕ) → IsGraph g → MayCallInside g block at procedure → call_saving g procedure ≤ words_of g
inside_words g block at procedure rules may = let applied = inside_applied g block at procedure (call_saving g procedure) rules may in omega (arith, applied.words)

-- ROW W

pub window_rewritten : (g h : Graph) (block at n link saving : ℕ) (before after : Savings) → IsGraph g → IsCanonical g → IsWindowMade g block at n link saving → h ≡ window_made g block at n link → after ≡ counted before W saving → IsRewritten IsWindowsCandidate windows_described before after g h
window_rewritten g h block at n link saving before after rules canonical made is counts =
    let cut = window_cut block at n link saving in
    let candidate : IsWindowCut g (window_cut block at n link saving) = record { block = block; made = made; is = refl } in
    let done = window_applied g block at n link saving rules made in
    let applied : IsApplied saving (window_made g block at n link) g h = subst (λ (k : Graph). IsApplied saving (window_made g block at n link) g k) (sym is) done in
    let calls = each_canonical (calls_for g (items_at g block at n)) (outlined g block at n link) (length g.procedures) (window_rules g block at n link saving rules made) (may_call g block at n link saving rules made) (outlined_canonical g block at n link canonical) in
    let still : IsCanonical h = subst IsCanonical (sym is) calls in
    subst (λ (s : Savings). IsRewritten IsWindowsCandidate windows_described before s g h) (sym counts) (cut_rewritten g h cut candidate applied still before)

pub window_words : (g : Graph) (block at n link saving : ℕ) → IsGraph g → IsWindowMade g block at n link saving → saving ≤ words_of g
window_words g block at n link saving rules made = let applied = window_applied g block at n link saving rules made in omega (arith, applied.words)

-- rewrites, and then more that may find no memory
pub rewritten_last : (before at : Savings) (old mid new : Graph) (r : Result Savings Memory) → IsRewritten IsWindowsCandidate windows_described before at old mid → IfOk r (λ after. IsRewritten IsWindowsCandidate windows_described at after mid new) → IfOk r (λ after. IsRewritten IsWindowsCandidate windows_described before after old new)
rewritten_last before at old mid new (Ok after) first second = rewritten_through IsWindowsCandidate windows_described before at after old mid new first second
rewritten_last before at old mid new (Err e) first second = tt
