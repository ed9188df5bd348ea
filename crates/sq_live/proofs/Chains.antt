-- Edges that are chained: what is met from one on, and what one more edge adds.
use Rattle.std.proofs.Common.{◌≡◌, ◌≢◌, ℕ, zero, suc, ◌+◌, ◌<◌, ◌≤◌, ◌↔◌, List, [], ◌∷◌, ◌++◌, inl, inr, ⊎_elim, Option, Some, None, map, take, replicate, length, get_or, refl, sym, ap, ◌∙◌, subst, arith, length-append, get_or-set_same, get_or-set_other}
use Rattle.std.proofs.Math.ListN.{set}
use Rattle.std.specs.List.{Contains}
use Rattle.std.proofs.lemmas.Bool.{cases_eq, cases_lt}
use Rattle.std.proofs.lemmas.List.{length-map, get_or_append_left, get_or_push, get_or_past, get_or_read}
use Rattle.std.proofs.lemmas.List.Elements.{Contains-append_left, Contains-append_cases, Contains-push, Contains-push_cases}
use Rattle.sq_live.specs.declared.sources.Edge.{Edge}
use Rattle.sq_live.specs.Search.{list_at}
use Rattle.sq_live.specs.Sources.{no_edge, edge_at, chain, sources_in, IsWithin, AreChained, AddsTo, AreSources}
use Rattle.sq_live.proofs.Searches.{contains_head, contains_cases, contains_none}
use Rattle.sq_graph.specs.Graph.{Graph}
use Rattle.sq_graph.specs.Parts.{names_of}
use Rattle.sq_graph.specs.Walks.{code_targets}
use Rattle.sq_live.specs.Exits.{nodes_of, exits_of}
use Rattle.sq_live.proofs.Layouts.{length-names}
use Rattle.sq_live.proofs.Nodes.{contains_right, exits_count}

-- Lists that a node is added to

contains_one : (i k : ℕ) → Contains (i ∷ []) k → i ≡ k
contains_one i k c = ⊎_elim (λ (e : i ≡ k). e) (λ (d : Contains [] k). absurd (contains_none k d)) (contains_cases i [] k c)

pub adds_none : (lists : List (List ℕ)) (from : ℕ) → AddsTo lists lists from []
adds_none lists from p to =
    (λ c. inl c, λ c. ⊎_elim (λ (a : Contains (list_at lists to) p). a) (λ (a : (p ≡ from) × Contains [] to). absurd (contains_none to a.1)) c)

pub adds_both : (a b c : List (List ℕ)) (from : ℕ) (xs ys : List ℕ) → AddsTo a b from xs → AddsTo b c from ys → AddsTo a c from (xs ++ ys)
adds_both a b c from xs ys f g p to = (
  λ h.
      ⊎_elim
      (λ (d : Contains (list_at b to) p).
      ⊎_elim (λ (e : Contains (list_at a to) p). inl e) (λ (e : (p ≡ from) × Contains xs to). inr (e.0, Contains-append_left xs ys to e.1)) ((f p to).0 d))
      (λ (d : (p ≡ from) × Contains ys to). inr (d.0, contains_right xs ys to d.1))
      ((g p to).0 h),
  λ h.
      (g p to).1
      (⊎_elim (λ (d : Contains (list_at a to) p). inl ((f p to).1 (inl d)))
      (λ (d : (p ≡ from) × Contains (xs ++ ys) to).
      ⊎_elim (λ (e : Contains xs to). inl ((f p to).1 (inr (d.0, e)))) (λ (e : Contains ys to). inr (d.0, e)) (Contains-append_cases xs ys to d.1))
      h),
)

pub adds_one : (old new : List (List ℕ)) (from i : ℕ) → list_at new i ≡ from ∷ list_at old i → ((k : ℕ) → k ≢ i → list_at new k ≡ list_at old k) → AddsTo old new from (i ∷ [])
adds_one old new from i here there p to =
    ⊎_elim
    (λ (e : to ≡ i).
    let same : list_at new to ≡ from ∷ list_at old to = ap (list_at new) e ∙ here ∙ ap (λ k. from ∷ list_at old k) (sym e) in (
      λ c.
          ⊎_elim (λ (a : from ≡ p). inr (sym a, subst (Contains (i ∷ [])) (sym e) (contains_head i [])))
          (λ (a : Contains (list_at old to) p). inl a) (contains_cases from (list_at old to) p (subst (λ xs. Contains xs p) same c)),
      λ c.
          subst (λ xs. Contains xs p) (sym same)
          (⊎_elim (λ (a : Contains (list_at old to) p). contains_right (from ∷ []) (list_at old to) p a)
          (λ (a : (p ≡ from) × Contains (i ∷ []) to). subst (Contains (from ∷ list_at old to)) (sym a.0) (contains_head from (list_at old to))) c),
    ))
    (λ (e : to ≢ i).
    let same : list_at new to ≡ list_at old to = there to e in (
      λ c. inl (subst (λ xs. Contains xs p) same c),
      λ c.
          subst (λ xs. Contains xs p) (sym same)
          (⊎_elim (λ (a : Contains (list_at old to) p). a) (λ (a : (p ≡ from) × Contains (i ∷ []) to). absurd (e (sym (contains_one i to a.1)))) c),
    ))
    (cases_eq to i)

-- Chains

pub no_chain : (edges : List Edge) (n : ℕ) → chain edges n None ≡ []
no_chain edges zero = refl
no_chain edges (suc n) = refl

-- how many edges are not behind this one, at most
abbrev pub ahead : Option ℕ → ℕ
ahead None = 0
ahead (Some k) = suc k

pub none_within : (bound : ℕ) → IsWithin bound None
none_within bound k e = absurd (cc)

pub some_within : (bound k : ℕ) → k < bound → IsWithin bound (Some k)
some_within bound k h j e = let same : k ≡ j = cc in omega (arith, h, same)

pub within_more : (a b : ℕ) (at : Option ℕ) → a ≤ b → IsWithin a at → IsWithin b at
within_more a b at h f k e = let lt = f k e in omega (arith, lt, h)

module _ (edges : List Edge) (back : (k : ℕ) → IsWithin k (edge_at edges k).next) where
  goes_back : (n k : ℕ) → IsWithin (suc n) (Some k) → IsWithin n (edge_at edges k).next
  goes_back n k h j e = let a = back k j e in let b = h k refl in omega (arith, a, b)

  -- enough steps are as good as more
  pub steps : (n m : ℕ) (at : Option ℕ) → IsWithin n at → IsWithin m at → chain edges n at ≡ chain edges m at
  steps zero zero at h i = refl
  steps zero (suc m) None h i = refl
  steps zero (suc m) (Some k) h i = absurd (let lt = h k refl in omega (arith, lt))
  steps (suc n) zero None h i = refl
  steps (suc n) zero (Some k) h i = absurd (let lt = i k refl in omega (arith, lt))
  steps (suc n) (suc m) None h i = refl
  steps (suc n) (suc m) (Some k) h i =
      ap (λ xs. (edge_at edges k).from ∷ xs) (steps n m (edge_at edges k).next (goes_back n k h) (goes_back m k i))

  -- a chain has no edge that comes later
  pub kept : (edge : Edge) (n : ℕ) (at : Option ℕ) → n ≤ length edges → IsWithin n at → chain (edges ++ edge ∷ []) n at ≡ chain edges n at
  kept edge zero at size h = refl
  kept edge (suc n) None size h = refl
  kept edge (suc n) (Some k) size h =
      let within : k < length edges = let lt = h k refl in omega (arith, lt, size) in
      let same : edge_at (edges ++ edge ∷ []) k ≡ edge_at edges k = get_or_append_left edges (edge ∷ []) no_edge k within in
      ap (λ (e : Edge). e.from ∷ chain (edges ++ edge ∷ []) n e.next) same
      ∙ ap (λ xs. (edge_at edges k).from ∷ xs) (kept edge n (edge_at edges k).next (omega (arith, size)) (goes_back n k h))

  -- a step of a chain
  pub step : (k : ℕ) → k < length edges → chain edges (length edges) (Some k) ≡ (edge_at edges k).from ∷ chain edges (length edges) (edge_at edges k).next
  step k h =
      steps (length edges) (suc (length edges)) (Some k) (some_within (length edges) k h) (some_within (suc (length edges)) k (omega (arith, h)))

-- the edge that was read, and what is behind it
pub next_edge : (edges : List Edge) → ((k : ℕ) → IsWithin k (edge_at edges k).next) → (at : Option ℕ) (number : ℕ) (edge : Edge) → IsWithin (length edges) at → at ≡ Some number → edge ≡ get_or edges number edge
    → (chain edges (length edges) at ≡ edge.from ∷ chain edges (length edges) edge.next) × IsWithin (length edges) edge.next
next_edge edges back at number edge within is here =
    let below : number < length edges = within number is in
    let same : edge_at edges number ≡ edge = sym (get_or_read edges number edge below here no_edge) in (
      ap (chain edges (length edges)) is ∙ step edges back number below ∙ ap (λ (e : Edge). e.from ∷ chain edges (length edges) e.next) same,
      within_more number (length edges) edge.next (omega (arith, below)) (subst (λ (e : Edge). IsWithin number e.next) same (back number)),
    )

within_ahead : (n : ℕ) (at : Option ℕ) → IsWithin n at → ahead at ≤ n
within_ahead n None h = omega arith
within_ahead n (Some k) h = let lt = h k refl in omega (arith, lt)

pub goes_down : (edges : List Edge) → ((k : ℕ) → IsWithin k (edge_at edges k).next) → (at : Option ℕ) (number : ℕ) (edge : Edge) → number < length edges → at ≡ Some number → edge ≡ get_or edges number edge → ahead edge.next < ahead at
goes_down edges back at number edge below is here =
    let same : edge_at edges number ≡ edge = sym (get_or_read edges number edge below here no_edge) in
    let lower = within_ahead number edge.next (subst (λ (e : Edge). IsWithin number e.next) same (back number)) in
    subst (λ o. ahead edge.next < ahead o) (sym is) (omega (arith, lower))

pub list_is : (first : List (Option ℕ)) (edges : List Edge) (to : ℕ) → list_at (sources_in first edges) to ≡ chain edges (length edges) (get_or first to None)
list_is [] edges to = sym (no_chain edges (length edges))
list_is (at ∷ first) edges zero = refl
list_is (at ∷ first) edges (suc to) = deeper first to
  where
    deeper : (rest : List (Option ℕ)) (k : ℕ) → list_at (map (λ at. chain edges (length edges) at) rest) k ≡ chain edges (length edges) (get_or rest k None)
    deeper [] k = sym (no_chain edges (length edges))
    deeper (x ∷ rest) zero = refl
    deeper (x ∷ rest) (suc k) = deeper rest k

pub length-sources : (first : List (Option ℕ)) (edges : List Edge) → length (sources_in first edges) ≡ length first
length-sources first edges = length-map first (λ at. chain edges (length edges) at)

-- none leads to a node at first

abbrev nothing : Option ℕ
nothing = None

none_first : (n : ℕ) (xs : List (Option ℕ)) → xs ≡ [] → take n xs ≡ []
none_first zero xs e = refl
none_first (suc n) [] e = refl
none_first (suc n) (x ∷ xs) e = absurd (cc)

none_in : (m k : ℕ) → get_or (replicate m nothing) k nothing ≡ nothing
none_in zero k = refl
none_in (suc m) zero = refl
none_in (suc m) (suc k) = none_in m k

pub empty_sources : (first : List (Option ℕ)) (edges : List Edge) (old : List (Option ℕ)) (n m : ℕ) → old ≡ [] → first ≡ take n old ++ replicate m None → (to : ℕ) → list_at (sources_in first edges) to ≡ []
empty_sources first edges old n m empty is to =
    list_is first edges to ∙ ap (chain edges (length edges)) (ap (λ xs. get_or xs to nothing) (is ∙ ap (λ xs. xs ++ replicate m nothing) (none_first n old empty)) ∙ none_in m to) ∙ no_chain edges (length edges)

-- one more edge
abbrev pub edge_from : ℕ → Option ℕ → Edge
edge_from from next = record { from = from; next = next }

module _ (first : List (Option ℕ)) (edges : List Edge) (from to : ℕ) (chained : AreChained first edges) (within : to < length first) where
  abbrev edge : Edge
  edge = edge_from from (get_or first to None)

  abbrev new : List Edge
  new = edges ++ edge ∷ []

  abbrev starts : List (Option ℕ)
  starts = set first to (Some (length edges))

  size : length new ≡ suc (length edges)
  size = length-append edges (edge ∷ []) ∙ (omega arith)

  last : edge_at new (length edges) ≡ edge
  last = get_or_push edges edge no_edge (length edges) refl

  pub chained_more : AreChained starts new
  chained_more = record {
    begun = λ k.
        ⊎_elim
        (λ (e : k ≡ to).
        subst (IsWithin (length new)) (sym (ap (λ i. get_or starts i None) e ∙ get_or-set_same first to (Some (length edges)) None within))
        (some_within (length new) (length edges) (omega (arith, size))))
        (λ (e : k ≢ to).
        subst (IsWithin (length new)) (sym (get_or-set_other first to k (Some (length edges)) None e))
        (within_more (length edges) (length new) (get_or first k None) (omega (arith, size)) (chained.begun k)))
        (cases_eq k to);
    back = back;
  }
    where
      back : (k : ℕ) → IsWithin k (edge_at new k).next
      back k =
          ⊎_elim
          (λ (e : k ≡ length edges).
          subst (λ i. IsWithin i (edge_at new i).next) (sym e)
          (subst (λ (x : Edge). IsWithin (length edges) x.next) (sym last) (chained.begun to)))
          (λ (apart : k ≢ length edges).
          ⊎_elim
          (λ (h : k < length edges). subst (λ (x : Edge). IsWithin k x.next) (sym (get_or_append_left edges (edge ∷ []) no_edge k h)) (chained.back k))
          (λ (h : length edges ≤ k). subst (λ (x : Edge). IsWithin k x.next) (sym (get_or_past new k no_edge (omega (arith, h, apart, size)))) (none_within k))
          (cases_lt k (length edges)))
          (cases_eq k (length edges))

  there : (k : ℕ) → k ≢ to → list_at (sources_in starts new) k ≡ list_at (sources_in first edges) k
  there k apart =
      list_is starts new k
      ∙ ap (λ at. chain new (length new) at) (get_or-set_other first to k (Some (length edges)) None apart)
      ∙ steps new chained_more.back (length new) (length edges) (get_or first k None) (within_more (length edges) (length new) (get_or first k None) (omega (arith, size)) (chained.begun k)) (chained.begun k)
      ∙ kept edges chained.back edge (length edges) (get_or first k None) (omega arith) (chained.begun k)
      ∙ sym (list_is first edges k)

  here : list_at (sources_in starts new) to ≡ from ∷ list_at (sources_in first edges) to
  here =
      list_is starts new to
      ∙ ap (λ at. chain new (length new) at) (get_or-set_same first to (Some (length edges)) None within)
      ∙ step new chained_more.back (length edges) (omega (arith, size))
      ∙ ap (λ (x : Edge). x.from ∷ chain new (length new) x.next) last
      ∙ ap (λ xs. from ∷ xs)
      (steps new chained_more.back (length new) (length edges) (get_or first to None) (within_more (length edges) (length new) (get_or first to None) (omega (arith, size)) (chained.begun to)) (chained.begun to)
      ∙ kept edges chained.back edge (length edges) (get_or first to None) (omega arith) (chained.begun to)
      ∙ sym (list_is first edges to))

  pub adds_edge : AddsTo (sources_in first edges) (sources_in starts new) from (to ∷ [])
  adds_edge = adds_one (sources_in first edges) (sources_in starts new) from to here there

-- the nodes before a position have their sources

pub sources_start : (exits sources : List (List ℕ)) → ((to : ℕ) → list_at sources to ≡ []) → AreSources exits sources 0
sources_start exits sources empty p to =
    (λ c. absurd (contains_none p (subst (λ xs. Contains xs p) (empty to) c)), λ c. absurd (omega (arith, c.0)))

pub sources_more : (exits old new : List (List ℕ)) (from : ℕ) (nodes : List ℕ) → list_at exits from ≡ nodes → AddsTo old new from nodes → AreSources exits old from → AreSources exits new (from + 1)
sources_more exits old new from nodes e adds h p to = (
  λ c.
      ⊎_elim (λ (a : Contains (list_at old to) p). let b = (h p to).0 a in (let lt = b.0 in omega arith, b.1))
      (λ (a : (p ≡ from) × Contains nodes to). (let same = a.0 in omega arith, subst (λ k. Contains (list_at exits k) to) (sym a.0) (subst (λ xs. Contains xs to) (sym e) a.1)))
      ((adds p to).0 c),
  λ (c : (p < from + 1) × Contains (list_at exits p) to).
      (adds p to).1
      (⊎_elim
      (λ (a : p ≡ from). inr (a, subst (λ xs. Contains xs to) (ap (list_at exits) a ∙ e) c.1))
      (λ (a : p ≢ from). inl ((h p to).1 (let lt = c.0 in omega arith, c.1)))
      (cases_eq p from)),
)

pub holds_within : (xss : List (List ℕ)) (k x : ℕ) → Contains (list_at xss k) x → k < length xss
holds_within [] k x c = absurd (contains_none x c)
holds_within (xs ∷ xss) zero x c = omega arith
holds_within (xs ∷ xss) (suc k) x c = let lt = holds_within xss k x c in omega arith

pub sources_all : (exits sources : List (List ℕ)) (bound : ℕ) → length exits ≤ bound → AreSources exits sources bound → (p to : ℕ) → Contains (list_at sources to) p ↔ Contains (list_at exits p) to
sources_all exits sources bound past h p to =
    (λ c. ((h p to).0 c).1, λ c. (h p to).1 (let lt = holds_within exits p to c in omega arith, c))

-- what leads to a node is a node
pub exits_within : (at : ℕ → Option ℕ) (g : Graph) (names : List ℕ) → names ≡ names_of g → (from to : ℕ) → Contains (list_at (exits_of at (length names) g) from) to → from < length names + 1
exits_within at g names are from to h =
    let within = holds_within (exits_of at (length names) g) from to h in
    omega (arith, within, exits_count at (length names) g.blocks 0 (nodes_of at (code_targets g)), length-names g names are)

-- the last of some moves behind others
pub moved_last : (xs ys : List ℕ) (x k : ℕ) → Contains ((xs ++ x ∷ []) ++ ys) k ↔ Contains ((xs ++ ys) ++ x ∷ []) k
moved_last xs ys x k = (
  λ c.
      ⊎_elim
      (λ (d : Contains (xs ++ x ∷ []) k).
      ⊎_elim (λ (e : Contains xs k). Contains-append_left (xs ++ ys) (x ∷ []) k (Contains-append_left xs ys k e))
      (λ (e : x ≡ k). subst (Contains ((xs ++ ys) ++ x ∷ [])) e (Contains-push (xs ++ ys) x)) (Contains-push_cases xs x k d))
      (λ (d : Contains ys k). Contains-append_left (xs ++ ys) (x ∷ []) k (contains_right xs ys k d))
      (Contains-append_cases (xs ++ x ∷ []) ys k c),
  λ c.
      ⊎_elim
      (λ (d : Contains (xs ++ ys) k).
      ⊎_elim (λ (e : Contains xs k). Contains-append_left (xs ++ x ∷ []) ys k (Contains-append_left xs (x ∷ []) k e))
      (λ (e : Contains ys k). contains_right (xs ++ x ∷ []) ys k e) (Contains-append_cases xs ys k d))
      (λ (d : x ≡ k). Contains-append_left (xs ++ x ∷ []) ys k (subst (Contains (xs ++ x ∷ [])) d (Contains-push xs x)))
      (Contains-push_cases (xs ++ ys) x k c),
)
