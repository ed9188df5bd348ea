-- What becomes of the graph with calls where a window is taken at the places where none of its items was.
use Rattle.std.proofs.Common.{◌≡◌, ℕ, ◌+◌, ◌≤◌, List, [], ◌∷◌, ◌++◌, map, reverse, length, inl, inr, refl, sym, ap, ◌∙◌, subst, arith}
use Rattle.std.specs.List.{All}
use Rattle.std.proofs.lemmas.List.{map-append}
use Rattle.std.proofs.lemmas.List.Elements.{All-nil, All-cons, All-head, All-tail, All-weaker}
use Rattle.std.proofs.lemmas.Bool.{cases_lt}
use Rattle.sq_graph.specs.declared.calls.ItemFate.{ItemFate}
use Rattle.sq_graph.specs.Graph.{Graph}
use Rattle.sq_graph.specs.Blocks.{items_of, items_of_blocks, body_of}
use Rattle.sq_graph.specs.Calls.{with_calls, fates_of}
use Rattle.sq_graph.specs.Operations.{outlined}
use Rattle.sq_graph.specs.Parts.{names_of}
use Rattle.sq_graph.specs.Rules.{IsGraph}
use Rattle.sq_graph.proofs.Spans.{fates_of_long}
use Rattle.law_patch.proofs.Calls.{range_is}
use Rattle.sq_outline.specs.declared.sites.Site.{Site}
use Rattle.sq_outline.specs.Sites.{called_each, EndsBefore, AreApart}
use Rattle.sq_outline.specs.WindowsMade.{items_at, window_made}
use Rattle.sq_outline.specs.WindowsPlaces.{occurrences}
use Rattle.sq_outline.specs.WindowsTaken.{AreTaken, KeepsLive, IsFreeSite, MayBeMadeOf, place_then, site_then, with_spans}
use Rattle.sq_outline.proofs.WindowsApart.{reversed_cons, all_reversed}
use Rattle.sq_outline.proofs.WindowsMaking.{new_body, long, calls_back}
use Rattle.sq_outline.proofs.WindowsMadeThen.{window_then, sites_then, made_then}
use Rattle.sq_outline.proofs.Choosing.{names_distinct}
use Rattle.sq_outline.proofs.WindowsOrder.{back_apart}
use Rattle.sq_outline.proofs.WindowsSpans.{before_then}
use Rattle.sq_outline.proofs.WindowsSites.{each_called}

map_reversed : {X Y : Type 0} (f : X → Y) (xs : List X) → map f (reverse xs) ≡ reverse (map f xs)
map_reversed f [] = refl
map_reversed f (x ∷ xs) =
    ap (map f) (reversed_cons x xs) ∙ map-append f (reverse xs) (x ∷ []) ∙ ap (λ ys. ys ++ f x ∷ []) (map_reversed f xs) ∙ sym (reversed_cons (f x) (map f xs))

module _ (g : Graph) (fates : List ItemFate) (taken : AreTaken g fates) (keeps : KeepsLive g fates) (rules : IsGraph g) (still : IsGraph (with_calls fates g)) (block at n link saving : ℕ) (sites : List Site) (can : MayBeMadeOf g fates block at n link saving sites) where
  abbrev h : Graph
  h = with_calls fates g

  abbrev og : Graph
  og = outlined g block at n link

  abbrev now : ℕ
  now = place_then g fates block at

  -- the procedure that comes is the same
  pub outlined_then : with_calls fates og ≡ outlined h block now n link
  outlined_then =
      ap (λ body. record h { procedures = g.procedures ++ record { link = link; body = body } ∷ [] })
      (range_is (items_of g block) at n ∙ sym (window_then g fates taken keeps rules block at n link saving sites can) ∙ sym (range_is (items_of h block) now n))

  pub body_long : length (body_of og (length g.procedures)) ≡ n
  body_long =
      let made = made_then g fates taken keeps rules block at n link saving sites can in
      ap (λ (k : Graph). length (body_of k (length g.procedures))) outlined_then ∙ ap length (new_body h block now n link saving still made) ∙ long h block now n link saving still made

  pub taken_og : AreTaken og fates
  taken_og = record { many = taken.many; spans = taken.spans }

  pub free_og : All (IsFreeSite og fates n) (reverse sites)
  free_og =
      all_reversed (IsFreeSite og fates n) sites
      (All-weaker (IsFreeSite g fates n) (IsFreeSite og fates n) (λ site it. record { there = it.there; within = it.within; free = it.free }) sites can.free)

  some_items : 1 ≤ n
  some_items = let l = can.least in omega arith

  window_size : length (items_at g block at n) ≡ n
  window_size =
      let made = made_then g fates taken keeps rules block at n link saving sites can in
      ap length (sym (window_then g fates taken keeps rules block at n link saving sites can)) ∙ long h block now n link saving still made

  -- places that are apart then were apart
  ends_before : (other site : Site) → IsFreeSite g fates n other → EndsBefore n (site_then g fates other) (site_then g fates site) → EndsBefore n other site
  ends_before other site it before same =
      elim (cases_lt site.at (other.at + n)) [
        | inr far ↦ far
        | inl near ↦
            let few : length (items_of_blocks g.blocks) ≤ length fates = omega (arith, taken.many) in
            let inside : other.at + n ≤ length (fates_of g fates other.block) = let l = it.within in omega (arith, l, fates_of_long g fates few other.block) in
            let close = before_then (items_at g block at n) can.plain.no_calls (let l = some_items in omega (arith, window_size, l)) (fates_of g fates other.block) n some_items other.at site.at (it.free, inside) near in
            let apart : place_then g fates other.block other.at + n ≤ place_then g fates other.block site.at = subst (λ b. place_then g fates other.block other.at + n ≤ place_then g fates b site.at) (sym same) (before same) in
            absurd (omega (arith, close, apart))
      ]

  each_before : (site : Site) (sites : List Site) → All (IsFreeSite g fates n) sites → All (λ other. EndsBefore n other (site_then g fates site)) (map (site_then g fates) sites) → All (λ other. EndsBefore n other site) sites
  each_before site [] free all = All-nil (λ other. EndsBefore n other site)
  each_before site (s ∷ rest) free all =
      All-cons (λ other. EndsBefore n other site) s rest
      (ends_before s site (All-head (IsFreeSite g fates n) s rest free) (All-head (λ other. EndsBefore n other (site_then g fates site)) (site_then g fates s) (map (site_then g fates) rest) all))
      (each_before site rest (All-tail (IsFreeSite g fates n) s rest free) (All-tail (λ other. EndsBefore n other (site_then g fates site)) (site_then g fates s) (map (site_then g fates) rest) all))

  were_apart : (sites : List Site) → All (IsFreeSite g fates n) sites → AreApart n (map (site_then g fates) sites) → AreApart n sites
  were_apart [] free apart = tt
  were_apart (s ∷ rest) free apart = (
    each_before s rest (All-tail (IsFreeSite g fates n) s rest free) apart.0,
    were_apart rest (All-tail (IsFreeSite g fates n) s rest free) apart.1,
  )

  places_back : map (site_then g fates) (reverse sites) ≡ reverse (occurrences h (items_at h block now n))
  places_back = map_reversed (site_then g fates) sites ∙ ap (λ (ss : List Site). reverse ss) (sym (sites_then g fates taken keeps rules block at n link saving sites can))

  pub sites_apart : AreApart n (reverse sites)
  sites_apart =
      let made = made_then g fates taken keeps rules block at n link saving sites can in
      were_apart (reverse sites) (all_reversed (IsFreeSite g fates n) sites can.free)
      (subst (AreApart n) (sym places_back) (back_apart h (items_at h block now n) n (names_of h) (sym (long h block now n link saving still made)) (names_distinct h still)))

  -- the row's graph
  pub window_graph : with_calls (with_spans og n (length g.procedures) (reverse sites) fates) og ≡ window_made h block now n link
  window_graph =
      let made = made_then g fates taken keeps rules block at n link saving sites can in
      each_called og n (length g.procedures) some_items (reverse sites) fates taken_og body_long free_og sites_apart
      ∙ ap (λ ss. called_each ss (length g.procedures) (with_calls fates og)) places_back
      ∙ ap (called_each (reverse (occurrences h (items_at h block now n))) (length g.procedures)) outlined_then
      ∙ calls_back h block now n link saving still made
