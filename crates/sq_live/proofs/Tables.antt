-- The table of sets by names: what its look-ups give.
use Rattle.std.proofs.Common.{◌≡◌, ℕ, zero, suc, ◌+◌, ◌<◌, ◌↔◌, ◌==◌, Bool, true, false, not, List, [], ◌∷◌, take, drop, length, get_or, IsTrue, refl, sym, ◌∙◌, arith, length-drop, length-take, get_or-take, get_or-drop}
use Rattle.std.proofs.lemmas.Bool.{eq-eqb, ne_eqb}
use Rattle.std.proofs.lemmas.Bool.Decides.{nat_tests}
use Rattle.sq_graph.specs.Graph.{Graph}
use Rattle.sq_graph.specs.Lines.{Line, Name, Do, Enter, Return, End}
use Rattle.sq_graph.specs.Walks.{IsLive, read_here, live_behind, line_reads}
use Rattle.sq_live.specs.declared.places.Span.{Span}
use Rattle.sq_live.specs.Places.{sets_in, no_span}
use Rattle.sq_live.specs.Shown.{named_sets}
use Rattle.sq_live.specs.Liveness.{places_of}

-- what stands under a name, where names go on from j
named_at : (sets : List ℕ) (spans : List Span) (j i m : ℕ) → m ≡ j + i → places_of (named_sets j sets spans) m ≡ sets_in sets (get_or spans i no_span)
named_at sets [] j i m e = refl
named_at sets (span ∷ spans) j zero m e =
    let here : (j == m) ≡ true = eq-eqb j m (omega (arith, e)) in
    rw here refl
named_at sets (span ∷ spans) j (suc i) m e =
    let apart : (j == m) ≡ false = ne_eqb j m (λ same. omega (arith, same, e)) in
    rw apart (named_at sets spans (j + 1) i m (omega (arith, e)))

pub shown_at : (sets : List ℕ) (spans : List Span) (m : ℕ) → places_of (named_sets 0 sets spans) m ≡ sets_in sets (get_or spans m no_span)
shown_at sets spans m = named_at sets spans 0 m m (omega arith)

-- where a set of a block lies

pub record IsSetAt (sets : List ℕ) (spans : List Span) (m p : ℕ) : Type 0 where
  pub there : m < length spans
  pub within : (get_or spans m no_span).start + p < length sets
  pub set : get_or (sets_in sets (get_or spans m no_span)) p 0 ≡ get_or sets ((get_or spans m no_span).start + p) 0

in_piece : (sets : List ℕ) (start count p : ℕ) → p < length (take count (drop start sets)) → (start + p < length sets) × (get_or (take count (drop start sets)) p 0 ≡ get_or sets (start + p) 0)
in_piece sets start count p h =
    let size = length-take count (drop start sets) in
    let below : p < count = omega (arith, h, size) in
    (omega (arith, h, size, length-drop start sets), get_or-take count (drop start sets) p 0 below ∙ get_or-drop start sets p 0)

span_there : (sets : List ℕ) (spans : List Span) (m p : ℕ) → p < length (sets_in sets (get_or spans m no_span)) → m < length spans
span_there sets [] m p h = absurd (omega (arith, h))
span_there sets (span ∷ spans) zero p h = omega arith
span_there sets (span ∷ spans) (suc m) p h = let lt = span_there sets spans m p h in omega (arith, lt)

pub set_at : (sets : List ℕ) (spans : List Span) (m p : ℕ) → p < length (sets_in sets (get_or spans m no_span)) → IsSetAt sets spans m p
set_at sets spans m p h =
    let span = get_or spans m no_span in
    let piece = in_piece sets span.start span.count p h in
    record { there = span_there sets spans m p h; within = piece.0; set = piece.1 }

-- x0 is live nowhere
zero_unread : (line : Line) → line_reads line 0 ≡ true → ⊥
zero_unread (Name n) e = cc
zero_unread (Do half insn) e = cc
zero_unread (Enter procedure) e = cc
zero_unread (Return link) e = cc
zero_unread (End term) e = cc

pub zero_dead : (g : Graph) {lines : List Line} → IsLive g 0 lines → ⊥
zero_dead g (read_here {line = line} e) = zero_unread line e
zero_dead g (live_behind w go h) = zero_dead g h

-- dead is not live
pub dead_is : (answer member : Bool) (P : Type 0) → answer ≡ member → (member ≡ true) ↔ P → IsTrue (not answer) ↔ ¬ P
dead_is true member P e h = (λ t l. absurd (let f : false ≡ true = t in cc), λ d. absurd (d (h.0 (sym e))))
dead_is false member P e h = (λ t l. (let f : false ≡ true = e ∙ h.1 l in cc), λ d. refl)

pub is_nonzero : (r : ℕ) → 0 < r → (r == 0) ≡ false
is_nonzero r h = grind (arith, nat_tests)
