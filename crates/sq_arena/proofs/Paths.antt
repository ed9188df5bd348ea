-- Paths of joined places, and how often a place stands in a list.
use Rattle.std.proofs.Common.{◌≡◌, ◌≢◌, ◌⊎◌, ℕ, ◌+◌, List, [], ◌∷◌, ◌++◌, map, Option, None, Some, refl, ap, ◌∙◌, inl, inr, arith}
use Rattle.std.proofs.lemmas.Bool.{cases_eq, eq-eqb, ne_eqb}
use Rattle.sq_arena.specs.Links.{once, times, IsPath, places}

-- both are the same place, or they are not
pub place_cases : (p q : Option ℕ) → (p ≡ q) ⊎ (p ≢ q)
place_cases None None = inl refl
place_cases None (Some k) = inr (λ e. absurd (cc))
place_cases (Some j) None = inr (λ e. absurd (cc))
place_cases (Some j) (Some k) =
    elim (cases_eq j k) [ inl same ↦ inl (ap Some same) | inr differs ↦ inr (λ e. differs (cc)) ]

pub once_same : (p : Option ℕ) → once p p ≡ 1
once_same None = refl
once_same (Some k) = rw (eq-eqb k k refl)

pub once_other : (p q : Option ℕ) → p ≢ q → once p q ≡ 0
once_other None None differs = absurd (differs refl)
once_other None (Some k) differs = refl
once_other (Some j) None differs = refl
once_other (Some j) (Some k) differs = rw (ne_eqb j k (λ same. differs (ap Some same)))

-- a place that does not count is another one
pub other_if : (p q : Option ℕ) → once p q ≡ 0 → q ≢ p
other_if p q none same =
    let one : once p q ≡ 1 = ap (λ r. once p r) same ∙ once_same p in absurd (omega arith)

pub times-append : (p : Option ℕ) (xs ys : List (Option ℕ)) → times p (xs ++ ys) ≡ times p xs + times p ys
times-append p [] ys = omega arith
times-append p (x ∷ xs) ys = omega (arith, times-append p xs ys)

pub places-append : {T : Type 0} (xs ys : List (ℕ × T)) → places (xs ++ ys) ≡ places xs ++ places ys
places-append [] ys = refl
places-append (e ∷ xs) ys = ap (λ rest. Some e.0 ∷ rest) (places-append xs ys)

pub times-places-append : {T : Type 0} (p : Option ℕ) (xs ys : List (ℕ × T)) → times p (places (xs ++ ys)) ≡ times p (places xs) + times p (places ys)
times-places-append p xs ys = ap (times p) (places-append xs ys) ∙ times-append p (places xs) (places ys)

pub times-None : {T : Type 0} (xs : List (ℕ × T)) → times None (places xs) ≡ 0
times-None [] = refl
times-None (e ∷ xs) = omega (arith, times-None xs)

pub times-None-keys : (ks : List ℕ) → times None (map Some ks) ≡ 0
times-None-keys [] = refl
times-None-keys (k ∷ ks) = omega (arith, times-None-keys ks)

-- the last place of a path
abbrev pub last_of : Option ℕ → List (Option ℕ) → Option ℕ
last_of p [] = p
last_of p (q ∷ rest) = last_of q rest

-- how often the place stands on the path with a next one
abbrev pub sources : Option ℕ → Option ℕ → List (Option ℕ) → ℕ
sources c p [] = 0
sources c p (q ∷ rest) = once c p + sources c q rest

pub sources_last : (c p : Option ℕ) (ps : List (Option ℕ)) → sources c p ps + once c (last_of p ps) ≡ once c p + times c ps
sources_last c p [] = omega arith
sources_last c p (q ∷ rest) = omega (arith, sources_last c q rest)

pub last_of-append : (p : Option ℕ) (xs ys : List (Option ℕ)) → last_of p (xs ++ ys) ≡ last_of (last_of p xs) ys
last_of-append p [] ys = refl
last_of-append p (x ∷ xs) ys = last_of-append x xs ys

module _ (J : Option ℕ → Option ℕ → Type 0) where
  pub IsPath-append : (p : Option ℕ) (xs ys : List (Option ℕ)) → IsPath J p xs → IsPath J (last_of p xs) ys → IsPath J p (xs ++ ys)
  IsPath-append p [] ys front back = back
  IsPath-append p (x ∷ xs) ys front back = (front.0, IsPath-append x xs ys front.1 back)

  pub path_front : (p : Option ℕ) (xs ys : List (Option ℕ)) → IsPath J p (xs ++ ys) → IsPath J p xs
  path_front p [] ys path = tt
  path_front p (x ∷ xs) ys path = (path.0, path_front x xs ys path.1)

  pub path_back : (p : Option ℕ) (xs ys : List (Option ℕ)) → IsPath J p (xs ++ ys) → IsPath J (last_of p xs) ys
  path_back p [] ys path = path
  path_back p (x ∷ xs) ys path = path_back x xs ys path.1

-- a path on which neither c has a next place nor d a previous one stays a path where only c's next place and d's previous one change
pub IsPath-kept : (J K : Option ℕ → Option ℕ → Type 0) (c d : Option ℕ) → ((p q : Option ℕ) → p ≢ c → q ≢ d → J p q → K p q) → (p : Option ℕ) (ps : List (Option ℕ)) → sources c p ps ≡ 0 → times d ps ≡ 0 → IsPath J p ps → IsPath K p ps
IsPath-kept J K c d kept p [] no_source no_target path = tt
IsPath-kept J K c d kept p (q ∷ rest) no_source no_target path =
    (kept p q (other_if c p (omega arith)) (other_if d q (omega arith)) path.0, IsPath-kept J K c d kept q rest (omega arith) (omega arith) path.1)

pub IsPath-map : (J K : Option ℕ → Option ℕ → Type 0) → ((p q : Option ℕ) → J p q → K p q) → (p : Option ℕ) (ps : List (Option ℕ)) → IsPath J p ps → IsPath K p ps
IsPath-map J K kept p [] path = tt
IsPath-map J K kept p (q ∷ rest) path = (kept p q path.0, IsPath-map J K kept q rest path.1)
