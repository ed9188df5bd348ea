-- Of each class of a stable partition the first block stays.
use Rattle.std.proofs.Common.{◌≡◌, ℕ, zero, suc, Bool, true, false, true≢false, ◌⊎◌, if◌then◌else◌, List, [], ◌∷◌, map, Option, Some, nat_eq, slice_get, inl, inr, refl, sym, ap, ◌∙◌}
use Rattle.std.specs.Option.{option_eq}
use Rattle.std.proofs.lemmas.Bool.{cases_Bool}
use Rattle.sq_graph.specs.Graph.{Graph}
use Rattle.sq_graph.specs.Blocks.{HasBlock}
use Rattle.sq_graph.specs.Parts.{names_of}
use Rattle.sq_graph.specs.Rules.{IsGraph}
use Rattle.sq_finger.specs.Exact.{IsExact}
use Rattle.sq_finger.proofs.Exactness.{exact_number, exact_option}
use Rattle.sq_finger.proofs.Layouts.{names_are}
use Rattle.sq_finger.proofs.Grouping.{contains_at, at_contains}
use Rattle.sq_fold.specs.Partition.{references_of, IsStablePartition}
use Rattle.sq_fold.proofs.Referred.{references_known}
use Rattle.sq_quotient.specs.Folding.{first_alike, stays_for, Merges}

exact_class : IsExact {K = Option ℕ} (option_eq nat_eq)
exact_class = exact_option nat_eq exact_number

some_same : {X : Type 0} {x y : X} → Some x ≡ Some y → x ≡ y
some_same e = cc

module _ (class : ℕ → Option ℕ) where
  -- the first one is of the class
  record Found (names : List ℕ) (n : ℕ) : Type 0 where
    at : ℕ
    there : slice_get names at ≡ Some (first_alike class names n)
    same : class (first_alike class names n) ≡ class n

  first_step : (t : Bool) (k : ℕ) (names : List ℕ) (n : ℕ) → option_eq nat_eq (class k) (class n) ≡ t → first_alike class (k ∷ names) n ≡ (if t then k else first_alike class names n)
  first_step t k names n e = ap (λ b. if b then k else first_alike class names n) e

  found : (names : List ℕ) (n i : ℕ) → slice_get names i ≡ Some n → Found names n
  found [] n i e = absurd (cc)
  found (k ∷ names) n i e = by (cases_Bool (option_eq nat_eq (class k) (class n))) i e (λ j f. found names n j f)
    where
      by : (option_eq nat_eq (class k) (class n) ≡ true) ⊎ (option_eq nat_eq (class k) (class n) ≡ false) → (i : ℕ) → slice_get (k ∷ names) i ≡ Some n → ((j : ℕ) → slice_get names j ≡ Some n → Found names n) → Found (k ∷ names) n
      by (inl t) i e later =
          let is = first_step true k names n t in
          record { at = 0; there = ap Some (sym is); same = ap class is ∙ (exact_class (class k) (class n)).0 t }
      by (inr o) zero e later = absurd (let same : k ≡ n = some_same e in true≢false (sym ((exact_class (class k) (class n)).1 (ap class same)) ∙ o))
      by (inr o) (suc i) e later =
          let is = first_step false k names n o in
          let f = later i e in
          record { at = suc f.at; there = f.there ∙ ap Some (sym is); same = ap class is ∙ f.same }

  -- it is the same for names of one class
  same_first : (names : List ℕ) (m n i k : ℕ) → class m ≡ class n → slice_get names i ≡ Some k → class k ≡ class n → first_alike class names m ≡ first_alike class names n
  same_first [] m n i k e f c = absurd (cc)
  same_first (j ∷ names) m n i k e f c = by (cases_Bool (option_eq nat_eq (class j) (class n))) i f (λ a h. same_first names m n a k e h c)
    where
      test : option_eq nat_eq (class j) (class m) ≡ option_eq nat_eq (class j) (class n)
      test = ap (option_eq nat_eq (class j)) e

      by : (option_eq nat_eq (class j) (class n) ≡ true) ⊎ (option_eq nat_eq (class j) (class n) ≡ false) → (i : ℕ) → slice_get (j ∷ names) i ≡ Some k → ((a : ℕ) → slice_get names a ≡ Some k → first_alike class names m ≡ first_alike class names n) → first_alike class (j ∷ names) m ≡ first_alike class (j ∷ names) n
      by (inl t) i f later = first_step true j names m (test ∙ t) ∙ sym (first_step true j names n t)
      by (inr o) zero f later = absurd (let same : j ≡ k = some_same f in true≢false (sym ((exact_class (class j) (class n)).1 (ap class same ∙ c)) ∙ o))
      by (inr o) (suc i) f later = first_step false j names m (test ∙ o) ∙ later i f ∙ sym (first_step false j names n o)

module _ (g : Graph) (rules : IsGraph g) (class : ℕ → Option ℕ) (stable : IsStablePartition g class) where
  abbrev f : ℕ → ℕ
  f = stays_for g class

  spot : (n : ℕ) → HasBlock g n → (i : ℕ) × (slice_get (names_of g) i ≡ Some n)
  spot n has = contains_at (names_of g) n ((names_are g n).1 has)

  first : (n : ℕ) → HasBlock g n → Found class (names_of g) n
  first n has = let s = spot n has in found class (names_of g) n s.0 s.1

  stays : (n : ℕ) → HasBlock g n → HasBlock g (f n)
  stays n has = let o = first n has in (names_are g (f n)).0 (at_contains (names_of g) o.at (f n) o.there)

  one : (m n : ℕ) → HasBlock g n → class m ≡ class n → f m ≡ f n
  one m n has e = let s = spot n has in same_first class (names_of g) m n s.0 n e s.1 refl

  all_same : (us vs : List ℕ) → ((i n : ℕ) → slice_get vs i ≡ Some n → HasBlock g n) → map class us ≡ map class vs → map f us ≡ map f vs
  all_same [] [] known e = refl
  all_same [] (v ∷ vs) known e = absurd (cc)
  all_same (u ∷ us) [] known e = absurd (cc)
  all_same (u ∷ us) (v ∷ vs) known e =
      let head : class u ≡ class v = cc in
      let tail : map class us ≡ map class vs = cc in
      let here = one u v (known 0 v refl) head in
      let rest = all_same us vs (λ i n h. known (suc i) n h) tail in
      rw (here, rest) refl

  pub merges : Merges g f
  merges = record {
    there = stays;
    again = λ n has. let o = first n has in one (f n) n has o.same;
    shapes = λ n has. let o = first n has in stable.shapes n (f n) has (stays n has) (sym o.same);
    references = λ n has.
        let o = first n has in
        all_same (references_of g n) (references_of g (f n)) (λ i m e. references_known g rules (f n) (stays n has) i m e)
        (stable.references n (f n) has (stays n has) (sym o.same));
  }

pub partition_merges : (g : Graph) (class : ℕ → Option ℕ) → IsGraph g → IsStablePartition g class → Merges g (stays_for g class)
partition_merges g class rules stable = merges g rules class stable
