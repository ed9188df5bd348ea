-- A window that occurs at places where no item was taken may become a procedure once the items that were are calls.
use Rattle.std.proofs.Common.{◌≡◌, ◌↔◌, ℕ, ◌+◌, ◌*◌, ◌-◌, ◌≤◌, false, List, [], ◌∷◌, map, drop, length, None, inl, inr, sym, ap, ◌∙◌, subst, arith}
use Rattle.std.specs.List.{All, filter}
use Rattle.std.proofs.lemmas.Bool.{cases_eq}
use Rattle.std.proofs.lemmas.List.{length-map, length-take, length-drop}
use Rattle.std.proofs.lemmas.List.Elements.{All-nil, All-cons, All-head, All-tail}
use Rattle.sq_graph.specs.declared.item.Item.{Item}
use Rattle.sq_graph.specs.declared.calls.ItemFate.{ItemFate}
use Rattle.sq_graph.specs.Graph.{Graph}
use Rattle.sq_graph.specs.Blocks.{items_of}
use Rattle.sq_graph.specs.Calls.{with_calls, fates_of}
use Rattle.sq_graph.specs.Lines.{place_lines}
use Rattle.sq_graph.specs.Rules.{IsGraph}
use Rattle.sq_graph.specs.Walks.{IsLive}
use Rattle.sq_graph.proofs.Spans.{stays_behind, has_then}
use Rattle.sq_outline.specs.declared.sites.Site.{Site}
use Rattle.sq_outline.specs.Links.{link_order, IsDeadAt, MayLink, IsFirstOf, IsLink}
use Rattle.sq_outline.specs.Made.{ArePlain}
use Rattle.sq_outline.specs.WindowsMade.{items_at, IsWhole, behind_by, behind, IsWindowMade}
use Rattle.sq_outline.specs.WindowsPlaces.{in_block, occurrences}
use Rattle.sq_outline.specs.WindowsSearch.{standing, thinned}
use Rattle.sq_outline.specs.WindowsTaken.{AreTaken, KeepsLive, IsFreeSite, MayBeMadeOf, place_then, site_then, is_free_place}
use Rattle.sq_outline.proofs.WindowsFree.{occurrences_free}
use Rattle.sq_outline.proofs.WindowsKept.{fits, end_then, within_then, same_then, part_then}

first_same : (rs : List ℕ) (P Q : ℕ → Type 0) (r : ℕ) → ((x : ℕ) → P x ↔ Q x) → IsFirstOf rs P r → IsFirstOf rs Q r
first_same [] P Q r same first = first
first_same (x ∷ rs) P Q r same (inl here) = inl (here.0, (same x).0 here.1)
first_same (x ∷ rs) P Q r same (inr later) = inr (λ q. later.0 ((same x).1 q), first_same rs P Q r same later.1)

module _ (g : Graph) (fates : List ItemFate) (taken : AreTaken g fates) (keeps : KeepsLive g fates) (n : ℕ) (some : 1 ≤ n) where
  abbrev h : Graph
  h = with_calls fates g

  -- behind the n items
  abbrev Same : Site → ℕ → Type 0
  Same site r = IsDeadAt g r (behind_by n site) ↔ IsDeadAt (with_calls fates g) r (behind_by n (site_then g fates site))

  dead_same : (site : Site) (r : ℕ) → IsFreeSite g fates n site → Same site r
  dead_same site r it =
      let kept = stays_behind false (fates_of g fates site.block) site.at n (taken.spans site.block) some (fits g fates taken site.block site.at n it.within some it.free) it.free in
      let ends = end_then g fates taken site.block site.at n it.within some it.free in
      let live = keeps site.block (site.at + n) r it.there it.within kept in (
        λ dead lives. dead (live.1 (subst (λ k. IsLive (with_calls fates g) r (place_lines (with_calls fates g) site.block k)) (sym ends) lives)),
        λ dead lives. dead (subst (λ k. IsLive (with_calls fates g) r (place_lines (with_calls fates g) site.block k)) ends (live.0 lives)),
      )

  all_dead : (sites : List Site) (r : ℕ) → All (IsFreeSite g fates n) sites → All (IsDeadAt g r) (behind n sites) ↔ All (IsDeadAt (with_calls fates g) r) (behind n (map (site_then g fates) sites))
  all_dead [] r free = (λ a. All-nil (IsDeadAt (with_calls fates g) r), λ a. All-nil (IsDeadAt g r))
  all_dead (site ∷ sites) r free =
      let one = dead_same site r (All-head (IsFreeSite g fates n) site sites free) in
      let rest = all_dead sites r (All-tail (IsFreeSite g fates n) site sites free) in
      let new = map (site_then g fates) sites in (
        λ a. All-cons (IsDeadAt (with_calls fates g) r) (behind_by n (site_then g fates site)) (behind n (map (site_then g fates) sites)) (one.0 (All-head (IsDeadAt g r) (behind_by n site) (behind n sites) a)) (rest.0 (All-tail (IsDeadAt g r) (behind_by n site) (behind n sites) a)),
        λ a. All-cons (IsDeadAt g r) (behind_by n site) (behind n sites) (one.1 (All-head (IsDeadAt (with_calls fates g) r) (behind_by n (site_then g fates site)) (behind n (map (site_then g fates) sites)) a)) (rest.1 (All-tail (IsDeadAt (with_calls fates g) r) (behind_by n (site_then g fates site)) (behind n (map (site_then g fates) sites)) a)),
      )

  may_same : (w : List Item) (sites : List Site) → All (IsFreeSite g fates n) sites → (r : ℕ) → MayLink g w (behind n sites) r ↔ MayLink (with_calls fates g) w (behind n (map (site_then g fates) sites)) r
  may_same w sites free r =
      let dead = all_dead sites r free in
      (λ may. record { free = may.free; dead = dead.0 may.dead }, λ may. record { free = may.free; dead = dead.1 may.dead })

  -- the link stays the first that may be it
  pub link_then : (w : List Item) (sites : List Site) (link : ℕ) → All (IsFreeSite g fates n) sites → IsLink g w (behind n sites) link → IsLink (with_calls fates g) w (behind n (map (site_then g fates) sites)) link
  link_then w sites link free linked = first_same link_order (MayLink g w (behind n sites)) (MayLink (with_calls fates g) w (behind n (map (site_then g fates) sites))) link (may_same w sites free) linked

  whole_before : (site : Site) → IsFreeSite g fates n site → IsWhole (with_calls fates g) n (site_then g fates site) → IsWhole g n site
  whole_before site it whole =
      elim (cases_eq (length (items_of g site.block)) n) [
        | inl same ↦ same
        | inr other ↦ absurd (part_then g fates taken site.block site.at n it.within some it.free other whole)
      ]

  pub wholes_before : (sites : List Site) → All (IsFreeSite g fates n) sites → All (IsWhole (with_calls fates g) n) (map (site_then g fates) sites) → All (IsWhole g n) sites
  wholes_before [] free all = All-nil (IsWhole g n)
  wholes_before (site ∷ sites) free all =
      All-cons (IsWhole g n) site sites
      (whole_before site (All-head (IsFreeSite g fates n) site sites free) (All-head (IsWhole (with_calls fates g) n) (site_then g fates site) (map (site_then g fates) sites) all))
      (wholes_before sites (All-tail (IsFreeSite g fates n) site sites free) (All-tail (IsWhole (with_calls fates g) n) (site_then g fates site) (map (site_then g fates) sites) all))

-- ROW W

module _ (g : Graph) (fates : List ItemFate) (taken : AreTaken g fates) (keeps : KeepsLive g fates) (rules : IsGraph g) (block at n link saving : ℕ) (sites : List Site) (can : MayBeMadeOf g fates block at n link saving sites) where
  few : 1 ≤ n
  few = let l = can.least in omega arith

  first_free : IsFreeSite g fates n (in_block block at)
  first_free = All-head (IsFreeSite g fates n) (in_block block at) can.others (subst (All (IsFreeSite g fates n)) can.first can.free)

  pub window_then : items_at (with_calls fates g) block (place_then g fates block at) n ≡ items_at g block at n
  window_then = same_then g fates taken block at n first_free.within few first_free.free

  window_long : length (items_at g block at n) ≡ n
  window_long = let l = first_free.within in omega (arith, l, length-take n (drop at (items_of g block)), length-drop at (items_of g block))

  pub sites_then : occurrences (with_calls fates g) (items_at (with_calls fates g) block (place_then g fates block at) n) ≡ map (site_then g fates) sites
  sites_then =
      ap (occurrences (with_calls fates g)) window_then
      ∙ occurrences_free g fates taken (items_at g block at n) can.plain.no_calls (let l = few in omega (arith, window_long, l)) rules
      ∙ ap (λ m. map (site_then g fates) (thinned m None (filter (is_free_place g fates m) (standing g (items_at g block at n))))) window_long
      ∙ ap (map (site_then g fates)) (sym can.sites_are)

  pub made_then : IsWindowMade (with_calls fates g) block (place_then g fates block at) n link saving
  made_then = record {
    least = can.least;
    most = can.most;
    there = has_then g fates block first_free.there;
    within = within_then g fates taken block at n first_free.within few first_free.free;
    plain = subst ArePlain (sym window_then) can.plain;
    others = map (site_then g fates) can.others;
    first = sites_then ∙ ap (map (site_then g fates)) can.first;
    part = λ all. can.part (wholes_before g fates taken keeps n few sites can.free (subst (All (IsWhole (with_calls fates g) n)) sites_then all));
    linked =
        subst (λ ss. IsLink (with_calls fates g) (items_at (with_calls fates g) block (place_then g fates block at) n) (behind n ss) link) (sym sites_then)
        (subst (λ w. IsLink (with_calls fates g) w (behind n (map (site_then g fates) sites)) link) (sym window_then) (link_then g fates taken keeps n few (items_at g block at n) sites link can.free can.linked));
    saves = can.saves ∙ ap (λ k. k * (n - 1)) (sym (length-map sites (site_then g fates)) ∙ ap length (sym sites_then));
    some = can.some;
  }
