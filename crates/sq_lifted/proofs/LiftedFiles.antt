-- The lifted graph of a file, or its refusal.
use Rattle.std.proofs.Common.{◌≡◌, ◌⊎◌, inl, inr, ℕ, ◌+◌, ◌<◌, Bool, List, length, Option, Some, None, refl, sym, ap, ◌∙◌, subst}
use Rattle.sq_num.specs.declared.refusal.Refusal.{Refusal}
use Rattle.sq_num.specs.declared.refusal.Refusal.TheVariants.{BadNote}
use Rattle.sq_num.specs.declared.refusal.Denied.{Denied}
use Rattle.sq_num.specs.declared.refusal.Denied.TheVariants.{Refused, Memory}
use Rattle.sq_elf.specs.Headers.{entry_of}
use Rattle.sq_reloc.specs.declared.mark.CodeWord.{CodeWord}
use Rattle.sq_graph.specs.Graph.{Graph}
use Rattle.sq_graph.specs.Rules.{IsGraph}
use Rattle.law_program.specs.Programs.{Text, Note, Program}
use Rattle.law_program.specs.Reached.{Decides}
use Rattle.law_program.specs.Notes.{used_notes}
use Rattle.law_program.specs.Lifted.{lifted}
use Rattle.sq_graph.specs.Alike.{AreAlike}
use Rattle.law_program.specs.FilePrograms.{early_refusal, IsProgramOf, IsReadAs, IsFirstAlive, IsLiftRefusal}
use Rattle.law_program.specs.FilePrograms.IsLiftRefusal.{early, alive}
use Rattle.sq_lift.specs.Flags.{Flags, is_flagged}
use Rattle.sq_lift.specs.Refused.{IsEarlyRefusal}
use Rattle.sq_lift.proofs.FilePrograms.{one_program, same_test}
use Rattle.sq_lift.proofs.NoteRefusals.{one_early}
use Rattle.law_lifting.specs.Lifting.{IsReadable}
use Rattle.sq_lifted.specs.LiveLinks.{IsFirstLive}
use Rattle.sq_lifted.specs.LiftedFiles.{IsLiftedFile, IsRefusedFile}
use Rattle.sq_lifted.proofs.FileWorlds.{early_readable}
use Rattle.sq_lifted.proofs.EarlyGraphs.{IsFoundNoted, seen, seen_read, seen_early, rules}
use Rattle.sq_lifted.proofs.Alive.{in_range, procedures_count, no_first, a_first, one_first}

-- a file has one program, and one test decides its reached words
module _ (bytes : List ℕ) (is too : ℕ → Bool) (p q : Program) (a : IsReadAs bytes is p) (b : IsReadAs bytes too q) where
  programs : p ≡ q
  programs = one_program bytes p.code_words p a.program.code_words a.program ∙ sym (one_program bytes p.code_words q a.program.code_words b.program)

  tests : (x : ℕ) → is x ≡ too x
  tests = same_test p is too a.reached (subst (λ p. Decides p too) (sym programs) b.reached)

  pub same_lifted : lifted is p ≡ lifted too q
  same_lifted = λ i. lifted (λ x. tests x i) (programs i)

  pub early_same : early_refusal bytes is p ≡ early_refusal bytes too q
  early_same = λ i. early_refusal bytes (λ x. tests x i) (programs i)

  pub first_same : (i : ℕ) → IsFirstAlive is p i → IsFirstAlive too q i
  first_same i first = subst (λ is. IsFirstAlive is q i) (λ j x. tests x j) (subst (λ p. IsFirstAlive is p i) programs first)

-- REFUSED BEFORE THERE IS A GRAPH

pub refused_early : (bytes : List ℕ) (r : Refusal) → IsEarlyRefusal bytes r → IsRefusedFile bytes r
refused_early bytes r e = record { is = e.is; program = e.program; refuses = early e.read e.refuses }

one_answer : (bytes : List ℕ) (s : Refusal) → IsEarlyRefusal bytes s → (is : ℕ → Bool) (p : Program) (r : Refusal) → IsLiftRefusal bytes is p r → s ≡ r
one_answer bytes s e is p r (early read refuses) = one_early bytes s r e (record { is = is; program = p; read = read; refuses = refuses })
one_answer bytes s e is p r (alive read none first) =
    let never : Some s ≡ None = sym e.refuses ∙ early_same bytes e.is is e.program p e.read read ∙ none in
    absurd (cc)

pub early_answer : (bytes : List ℕ) (d : Denied) → ((r : Refusal) → d ≡ Refused r → IsEarlyRefusal bytes r) → (r : Refusal) → IsRefusedFile bytes r → (d ≡ Refused r) ⊎ (d ≡ Memory)
early_answer bytes (Refused s) h r e = inl (ap Refused (one_answer bytes s (h s refl) e.is e.program r e.refuses))
early_answer bytes Memory h r e = inr refl

-- ANSWERED BY THE GRAPH

module _ (bytes : List ℕ) (t : Text) (f : Flags) (notes : List Note) (words : List CodeWord) (here : IsFoundNoted bytes t f notes words (entry_of bytes)) (made : Graph) (alike : (p : Program) → IsProgramOf bytes p → AreAlike (lifted (is_flagged f) p) made) where
  abbrev p : Program
  p = seen bytes t f notes words (entry_of bytes) here

  read : IsReadAs bytes (is_flagged f) p
  read = seen_read bytes t f notes words (entry_of bytes) here

  fine : early_refusal bytes (is_flagged f) p ≡ None
  fine = seen_early bytes t f notes words (entry_of bytes) here

  readable : IsReadable (is_flagged f) p
  readable = early_readable bytes (is_flagged f) p fine

  good : IsGraph (lifted (is_flagged f) p)
  good = rules bytes (is_flagged f) p here.fit read fine

  like : AreAlike (lifted (is_flagged f) p) made
  like = alike p read.program

  pub procedures_are : length made.procedures ≡ length (used_notes (is_flagged f) notes)
  procedures_are = procedures_count (is_flagged f) p readable good made like

  module _ (found : Option ℕ) (live : IsFirstLive made (is_flagged f) notes found) where
    pub is_lifted : found ≡ None → IsLiftedFile bytes made
    is_lifted e = record {
      is = is_flagged f;
      program = p;
      lifted = record {
        accepted = record { read = read; early = fine; dies = no_first (is_flagged f) p readable good made like live.flags live.links (sym live.first ∙ e) };
        alike = like;
      };
    }

    first_alive : (entry : ℕ) → found ≡ Some entry → IsFirstAlive (is_flagged f) p entry
    first_alive entry e = a_first (is_flagged f) p readable good made like live.flags live.links entry (sym live.first ∙ e)

    pub in_notes : (entry : ℕ) → found ≡ Some entry → entry < length notes
    in_notes entry e = let first = first_alive entry e in in_range notes entry first.note first.there

    pub is_refused : (entry : ℕ) → found ≡ Some entry → IsRefusedFile bytes (BadNote (entry + 1))
    is_refused entry e = record { is = is_flagged f; program = p; refuses = alive read fine (first_alive entry e) }

    is_alone : (entry : ℕ) → found ≡ Some entry → (is : ℕ → Bool) (q : Program) (r : Refusal) → IsLiftRefusal bytes is q r → BadNote (entry + 1) ≡ r
    is_alone entry e is q r (early from refuses) =
        let never : Some r ≡ None = sym refuses ∙ early_same bytes is (is_flagged f) q p from read ∙ fine in
        absurd (cc)
    is_alone entry e is q r (alive {i = i} from none first) =
        ap (λ i. BadNote (i + 1)) (one_first (is_flagged f) p entry i (first_alive entry e) (first_same bytes is (is_flagged f) q p from read i first))

    pub one_refusal : (entry : ℕ) → found ≡ Some entry → (r : Refusal) → IsRefusedFile bytes r → BadNote (entry + 1) ≡ r
    one_refusal entry e r refused = is_alone entry e refused.is refused.program r refused.refuses

    is_none : found ≡ None → (is : ℕ → Bool) (q : Program) (r : Refusal) → IsLiftRefusal bytes is q r → ⊥
    is_none e is q r (early from refuses) =
        let never : Some r ≡ None = sym refuses ∙ early_same bytes is (is_flagged f) q p from read ∙ fine in
        cc
    is_none e is q r (alive {i = i} from none first) =
        let here = first_same bytes is (is_flagged f) q p from read i first in
        here.alive (no_first (is_flagged f) p readable good made like live.flags live.links (sym live.first ∙ e) i here.note here.there)

    pub no_refusal : found ≡ None → (r : Refusal) → IsRefusedFile bytes r → ⊥
    no_refusal e r refused = is_none e refused.is refused.program r refused.refuses
