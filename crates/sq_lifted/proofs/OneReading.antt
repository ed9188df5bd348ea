-- A file has at most one refusal, and one lifted graph but for the names of blocks.
use Rattle.std.proofs.Common.{◌≡◌, ℕ, ◌+◌, Bool, List, Some, None, sym, ap, ◌∙◌, subst}
use Rattle.sq_num.specs.declared.refusal.Refusal.{Refusal}
use Rattle.sq_num.specs.declared.refusal.Refusal.TheVariants.{BadNote}
use Rattle.sq_graph.specs.Alike.{AreAlike}
use Rattle.sq_graph.specs.Rules.{IsGraph}
use Rattle.sq_graph.proofs.Slotting.{one_slotted}
use Rattle.law_program.specs.Programs.{Program}
use Rattle.law_program.specs.Lifted.{lifted}
use Rattle.law_program.specs.FilePrograms.{IsReadAs, IsLiftRefusal}
use Rattle.law_program.specs.FilePrograms.IsLiftRefusal.{early, alive}
use Rattle.law_program.specs.FilePrograms.IsRefusalOf.{by_file, by_relocs, by_lift}
use Rattle.sq_lifted.specs.LiftedFiles.{LiftedGraphsAreOne, RefusalsAreOne}
use Rattle.sq_lifted.proofs.Alive.{one_first}
use Rattle.sq_lifted.proofs.EarlyGraphs.{rules}
use Rattle.sq_lifted.proofs.LiftedFiles.{same_lifted, early_same, first_same}

-- ONE GRAPH

pub lifted_one : LiftedGraphsAreOne
lifted_one bytes g h fit a b =
    let k = lifted a.is a.program in
    let good : IsGraph k = rules bytes a.is a.program fit a.lifted.accepted.read a.lifted.accepted.early in
    let same : lifted b.is b.program ≡ k = same_lifted bytes b.is a.is b.program a.program b.lifted.accepted.read a.lifted.accepted.read in
    one_slotted k g good a.lifted.alike ∙ sym (one_slotted k h good (subst (λ m. AreAlike m h) same b.lifted.alike))

-- ONE REFUSAL

-- by text or note, and by the same
by_both : (bytes : List ℕ) (is too : ℕ → Bool) (p q : Program) (r s : Refusal) → IsLiftRefusal bytes is p r → IsLiftRefusal bytes too q s → r ≡ s
by_both bytes is too p q r s (early a refuses) (early b other) =
    let same : Some r ≡ Some s = sym refuses ∙ early_same bytes is too p q a b ∙ other in cc
by_both bytes is too p q r s (early a refuses) (alive b none first) =
    let never : Some r ≡ None = sym refuses ∙ early_same bytes is too p q a b ∙ none in absurd (cc)
by_both bytes is too p q r s (alive a none first) (early b other) =
    let never : Some s ≡ None = sym other ∙ sym (early_same bytes is too p q a b) ∙ none in absurd (cc)
by_both bytes is too p q r s (alive {i = i} a none first) (alive {i = j} b none' other) =
    ap (λ n. BadNote (n + 1)) (one_first too q i j (first_same bytes is too p q a b i first) other)

-- what is asked before text stands in the way of a refusal by text
is_read : (bytes : List ℕ) (is : ℕ → Bool) (p : Program) (r : Refusal) → IsLiftRefusal bytes is p r → IsReadAs bytes is p
is_read bytes is p r (early read refuses) = read
is_read bytes is p r (alive read none first) = read

pub refused_once : RefusalsAreOne
refused_once bytes r s (by_file a) (by_file b) = let same : Some r ≡ Some s = sym a ∙ b in cc
refused_once bytes r s (by_file a) (by_relocs none b) = let never : Some r ≡ None = sym a ∙ none in absurd (cc)
refused_once bytes r s (by_file a) (by_lift {is = is} {p = p} b) =
    let read = is_read bytes is p s b in
    let never : Some r ≡ None = sym a ∙ read.file in absurd (cc)
refused_once bytes r s (by_relocs none a) (by_file b) = let never : Some s ≡ None = sym b ∙ none in absurd (cc)
refused_once bytes r s (by_relocs none a) (by_relocs other b) = let same : Some r ≡ Some s = sym a ∙ b in cc
refused_once bytes r s (by_relocs none a) (by_lift {is = is} {p = p} b) =
    let read = is_read bytes is p s b in
    let never : Some r ≡ None = sym a ∙ read.relocs in absurd (cc)
refused_once bytes r s (by_lift {is = is} {p = p} a) (by_file b) =
    let read = is_read bytes is p r a in
    let never : Some s ≡ None = sym b ∙ read.file in absurd (cc)
refused_once bytes r s (by_lift {is = is} {p = p} a) (by_relocs none b) =
    let read = is_read bytes is p r a in
    let never : Some s ≡ None = sym b ∙ read.relocs in absurd (cc)
refused_once bytes r s (by_lift {is = is} {p = p} a) (by_lift {is = too} {p = q} b) = by_both bytes is too p q r s a b
