-- Steps of row C that are taken at once, and steps that are taken behind others.
use Rattle.std.proofs.Common.{◌≡◌, ℕ, zero, suc, ◌+◌, ◌<◌, ◌≤◌, List, [], ◌∷◌, ◌++◌, length, map, take, drop, get_or, inl, inr, refl, sym, ap, ◌∙◌, subst, arith}
use Rattle.std.specs.Prelude.{Result, Ok, Err, IfOk, Some, slice_get}
use Rattle.std.proofs.Math.Seq.{take-add}
use Rattle.std.proofs.lemmas.List.{length-map, length-take, length-take-le, take-map, drop_more, take-append-drop}
use Rattle.sq_num.specs.declared.memory.Memory.{Memory}
use Rattle.sq_graph.specs.Graph.{Graph}
use Rattle.sq_graph.specs.Leaders.{IsCanonical}
use Rattle.sq_graph.specs.Rules.{IsGraph}
use Rattle.sq_graph.specs.Slotted.{slotted, IsSlotted}
use Rattle.sq_graph.proofs.CanonicalLaws.{canonical_again}
use Rattle.sq_pass.specs.declared.cut.Row.TheVariants.{C as CallRow}
use Rattle.sq_pass.specs.Rewrites.{IsLighter}
use Rattle.sq_cert.specs.declared.step.Step.{Step}
use Rattle.sq_cert.specs.declared.step.Step.TheVariants.{U, C}
use Rattle.sq_jumps.specs.Candidates.{cut_at}
use Rattle.sq_jumps.specs.Shorten.{JumpsByDeadPart, shortened_at, AreShortened, AreFirstShortable}
use Rattle.sq_jumps.proofs.ShortenRuns.{shorten_slotted}
use Rattle.sq_jumps.proofs.ShortenSwept.{shorten_rules_at, shorten_canonical_at}
use Rattle.sq_drive.specs.Replay.{MayStep, IsStep, IsReplay, FailsAt}
use Rattle.sq_drive.specs.Replaying.{AreTaken}
use Rattle.sq_drive.proofs.Replays.{less_itself}

-- ROW C

-- what C makes of a canonical graph whose blocks are named by their places is such a graph itself
call_step : (g : Graph) (block : ℕ) → IsGraph g → IsCanonical g → IsSlotted g → JumpsByDeadPart g block → IsStep (C block) g (shortened_at g block)
call_step g block rules canonical slots d = record {
  given = record {
    cut = cut_at CallRow block;
    completed = record { row = refl; blocks = λ other. refl; procedure = refl; other = refl; length = refl };
    candidate = inl (inl (inr (record { block = block; has_row = d; is = refl })));
  };
  is = sym (ap slotted (canonical_again (shortened_at g block) (shorten_canonical_at g block d canonical)) ∙ shorten_slotted g block rules d slots);
}

calls_replay : (blocks : List ℕ) (g h : Graph) → IsGraph g → IsCanonical g → IsSlotted g → AreShortened blocks g h → IsReplay (map C blocks) g h
calls_replay [] g h rules canonical slots same = same
calls_replay (block ∷ blocks) g h rules canonical slots (d, rest) = (
  shortened_at g block,
  (
    call_step g block rules canonical slots d,
    calls_replay blocks (shortened_at g block) h (shorten_rules_at g block rules d) (shorten_canonical_at g block d canonical) (shorten_slotted g block rules d slots) rest,
  ),
)

-- the first steps of a list that begins with these
first_few : {X : Type 0} (front xs : List X) (count : ℕ) → take (length front) xs ≡ front → count ≤ length front → take count xs ≡ take count front
first_few front xs zero same few = refl
first_few [] xs (suc count) same few = absurd (omega (arith, few))
first_few (y ∷ front) [] (suc count) same few = absurd (cc)
first_few (y ∷ front) (x ∷ xs) (suc count) same few =
    let here : x ≡ y = cc in
    let rest : take (length front) xs ≡ front = cc in
    rw here (ap (λ ys. y ∷ ys) (first_few front xs count rest (omega (arith, few))))

calls_taken : (steps : List Step) (blocks : List ℕ) (count : ℕ) (g h : Graph) → IsGraph g → IsCanonical g → IsSlotted g → take (length blocks) steps ≡ map C blocks → AreFirstShortable g blocks count → AreShortened (take count blocks) g h → IsLighter count g h → (IsSlotted g → IsSlotted h) → AreTaken count steps g h
calls_taken steps blocks count g h rules canonical slots calls first shortened lighter kept =
    let long : length (map C blocks) ≡ length blocks = length-map blocks C in
    let same : take (length (map C blocks)) steps ≡ map C blocks = ap (λ n. take n steps) long ∙ calls in
    let few : count ≤ length (map C blocks) = omega (arith, long, first.within) in
    let are : take count steps ≡ map C (take count blocks) = first_few (map C blocks) steps count same few ∙ take-map C count blocks in
    record {
      within = omega (arith, first.within, long, ap (λ (ss : List Step). length ss) calls, length-take (length blocks) steps);
      replay = subst (λ ss. IsReplay ss g h) (sym are) (calls_replay (take count blocks) g h rules canonical slots shortened);
      less = record { saved = count; lighter = lighter; slotted = kept };
    }

-- so where there was memory
module _ (steps : List Step) (blocks : List ℕ) (g h : Graph) (rules : IsGraph g) (canonical : IsCanonical g) (slots : IsSlotted g) (calls : take (length blocks) steps ≡ map C blocks) (kept : IsSlotted g → IsSlotted h) where
  pub calls_taken_if : (r : Result ℕ Memory) → IfOk r (AreFirstShortable g blocks) → IfOk r (λ count. AreShortened (take count blocks) g h) → IfOk r (λ count. IsLighter count g h) → IfOk r (λ count. AreTaken count steps g h)
  calls_taken_if (Ok count) first shortened lighter = calls_taken steps blocks count g h rules canonical slots calls first shortened lighter kept
  calls_taken_if (Err memory) first shortened lighter = first

-- SOME STEPS

pub none_taken : (steps : List Step) (g : Graph) → IsCanonical g → AreTaken 0 steps g g
none_taken steps g canonical = record { within = omega arith; replay = refl; less = less_itself g canonical }

replay_through : (front back : List Step) (old mid new : Graph) → IsReplay front old mid → IsReplay back mid new → IsReplay (front ++ back) old new
replay_through [] back old mid new same behind = subst (λ g. IsReplay back g new) same behind
replay_through (step ∷ front) back old mid new (next, leads) behind = (next, (leads.0, replay_through front back next mid new leads.1 behind))

-- steps behind others
pub taken_on : (number count : ℕ) (steps : List Step) (old mid new : Graph) → IsReplay (take number steps) old mid → AreTaken count (drop number steps) mid new → IsReplay (take (number + count) steps) old new
taken_on number count steps old mid new first behind =
    subst (λ ss. IsReplay ss old new) (sym (take-add number count steps)) (replay_through (take number steps) (take count (drop number steps)) old mid new first behind.replay)

-- where the next step is no candidate
pub fails_here : (steps : List Step) (number : ℕ) (old mid : Graph) → number < length steps → IsReplay (take number steps) old mid → ((step : Step) → slice_get (drop number steps) 0 ≡ Some step → ¬ MayStep mid step) → FailsAt steps old number
fails_here steps number old mid within first none =
    let step = get_or steps number U in
    let next : drop number steps ≡ step ∷ drop (number + 1) steps = drop_more steps number U within in
    record {
      front = take number steps;
      step = step;
      back = drop (number + 1) steps;
      steps_are = sym (take-append-drop number steps) ∙ ap (λ back. take number steps ++ back) next;
      number_is = sym (length-take-le number steps (omega (arith, within)));
      before = mid;
      replay = first;
      none = none step (ap (λ (ss : List Step). slice_get ss 0) next);
    }
