-- The registers that are live as a carrier, and an upper half whose register is dead.
use Rattle.std.proofs.Common.{◌≡◌, ℕ, Bool, true, false, ◌==◌, List, refl, sym, subst, ◌≢◌, ⊎_elim, not, ◌&&◌, ◌||◌, arith}
use Rattle.sq_graph.specs.Graph.{Graph}
use Rattle.sq_graph.specs.Lines.{Line}
use Rattle.std.proofs.lemmas.Bool.{cases_eq}
use Rattle.std.proofs.lemmas.Bool.Decides.{nat_tests}
use Rattle.sq_isa.specs.Uses.{is_written}
use Rattle.sq_isa.specs.declared.instructions.Insn.TheVariants.{Lui}
use Rattle.sq_graph.specs.Walks.{IsLive, read_here, live_behind}
use Rattle.law_patch.specs.Changes.{IsCarrier}

-- the registers that are live
abbrev pub live : Graph → List Line → ℕ → Type 0
live g lines r = IsLive g r lines

pub live_carrier : (g : Graph) → IsCarrier g (live g)
live_carrier g = record { read = λ line rest r e. read_here e; kept = λ line rest next r e go l. live_behind e go l }

and_false : (t : Bool) → (t && (false || false)) ≡ false
and_false true = refl
and_false false = refl

another : (rd r : ℕ) → rd ≢ r → is_written (Lui rd 0) r ≡ false
another rd r e = let t : (rd == r) ≡ false = grind (arith, nat_tests) in rw t (and_false (not (r == 0)))

-- a register that is dead isn't one that is live
pub unwritten : (g : Graph) (rd r : ℕ) (lines : List Line) → ¬ IsLive g rd lines → IsLive g r lines → is_written (Lui rd 0) r ≡ false
unwritten g rd r lines dead l = ⊎_elim (λ (e : rd ≡ r). absurd (dead (subst (λ q. IsLive g q lines) (sym e) l))) (λ (e : rd ≢ r). another rd r e) (cases_eq rd r)
