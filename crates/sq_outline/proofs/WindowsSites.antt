-- The items at several places are taken for calls of one procedure, from the last place back.
use Rattle.std.proofs.Common.{◌≡◌, ℕ, ◌+◌, ◌≤◌, true, List, [], ◌∷◌, map, length, inl, inr, refl, sym, ap, ◌∙◌, subst, arith}
use Rattle.std.specs.List.{All}
use Rattle.std.proofs.lemmas.Bool.{cases_eq}
use Rattle.std.proofs.lemmas.List.Elements.{All-nil, All-cons, All-head, All-tail}
use Rattle.sq_graph.specs.declared.calls.ItemFate.{ItemFate}
use Rattle.sq_graph.specs.Graph.{Graph}
use Rattle.sq_graph.specs.Blocks.{items_of_blocks, body_of}
use Rattle.sq_graph.specs.Calls.{with_calls, now_at, are_free, with_span, fates_of, items_ahead}
use Rattle.sq_graph.proofs.Spans.{fates_of_long, fates_spanned, fates_stay, now_ahead, free_ahead}
use Rattle.sq_outline.specs.declared.sites.Site.{Site}
use Rattle.sq_outline.specs.Sites.{called_each, EndsBefore, AreApart}
use Rattle.sq_outline.specs.WindowsTaken.{AreTaken, IsFreeSite, place_then, site_then, with_spans}
use Rattle.sq_outline.proofs.WindowsTaken.{taken_more, called_more}

module _ (g : Graph) (n procedure : ℕ) (some : 1 ≤ n) where
  module _ (fates : List ItemFate) (taken : AreTaken g fates) (site : Site) (here : IsFreeSite g fates n site) where
    abbrev more : List ItemFate
    more = with_span fates (items_ahead g.blocks site.block + site.at) n procedure

    few : length (items_of_blocks g.blocks) ≤ length fates
    few = omega (arith, taken.many)

    own : fates_of g more site.block ≡ with_span (fates_of g fates site.block) site.at n procedure
    own = fates_spanned g fates few site.block site.at n procedure here.within some

    inside : site.at + n ≤ length (fates_of g fates site.block)
    inside = let l = here.within in omega (arith, l, fates_of_long g fates few site.block)

    -- a place that ends before is where it was
    place_still : (other : Site) → EndsBefore n other site → place_then g more other.block other.at ≡ place_then g fates other.block other.at
    place_still other before =
        elim (cases_eq other.block site.block) [
          | inl same ↦
              let ahead : other.at ≤ site.at = let l = before same in omega (arith, l) in
              subst (λ b. place_then g more b other.at ≡ place_then g fates b other.at) (sym same)
              (ap (λ fs. now_at fs other.at) own ∙ now_ahead (fates_of g fates site.block) site.at n procedure inside some here.free other.at ahead)
          | inr apart ↦ ap (λ fs. now_at fs other.at) (fates_stay g fates few site.block site.at n procedure here.within some other.block apart)
        ]

    free_still : (other : Site) → EndsBefore n other site → IsFreeSite g fates n other → IsFreeSite g more n other
    free_still other before it = record {
      there = it.there;
      within = it.within;
      free =
          elim (cases_eq other.block site.block) [
            | inl same ↦
                subst (λ b. are_free n (fates_of g more b) other.at ≡ true) (sym same)
                (ap (λ fs. are_free n fs other.at) own
                ∙ free_ahead (fates_of g fates site.block) site.at n procedure other.at n (let l = inside in omega (arith, l)) (before same)
                ∙ subst (λ b. are_free n (fates_of g fates b) other.at ≡ true) same it.free)
            | inr apart ↦ ap (λ fs. are_free n fs other.at) (fates_stay g fates few site.block site.at n procedure here.within some other.block apart) ∙ it.free
          ];
    }

    pub all_still : (sites : List Site) → All (λ other. EndsBefore n other site) sites → All (IsFreeSite g fates n) sites → All (IsFreeSite g more n) sites
    all_still [] before free = All-nil (IsFreeSite g more n)
    all_still (s ∷ sites) before free =
        All-cons (IsFreeSite g more n) s sites
        (free_still s (All-head (λ other. EndsBefore n other site) s sites before) (All-head (IsFreeSite g fates n) s sites free))
        (all_still sites (All-tail (λ other. EndsBefore n other site) s sites before) (All-tail (IsFreeSite g fates n) s sites free))

    sites_still : (sites : List Site) → All (λ other. EndsBefore n other site) sites → map (site_then g more) sites ≡ map (site_then g fates) sites
    sites_still [] before = refl
    sites_still (s ∷ sites) before =
        ap (λ k. record s { at = k } ∷ map (site_then g more) sites) (place_still s (All-head (λ other. EndsBefore n other site) s sites before))
        ∙ ap (λ ss. site_then g fates s ∷ ss) (sites_still sites (All-tail (λ other. EndsBefore n other site) s sites before))

  -- one place after another becomes a call, as they stand before all of them
  pub each_called : (sites : List Site) (fates : List ItemFate) → AreTaken g fates → length (body_of g procedure) ≡ n → All (IsFreeSite g fates n) sites → AreApart n sites
      → with_calls (with_spans g n procedure sites fates) g ≡ called_each (map (site_then g fates) sites) procedure (with_calls fates g)
  each_called [] fates taken long free apart = refl
  each_called (site ∷ sites) fates taken long free apart =
      let here = All-head (IsFreeSite g fates n) site sites free in
      let left = All-tail (IsFreeSite g fates n) site sites free in
      each_called sites (more fates taken site here) (taken_more g fates taken site.block site.at n procedure here.within some here.free) long (all_still fates taken site here sites apart.0 left) apart.1
      ∙ ap (λ ss. called_each ss procedure (with_calls (more fates taken site here) g)) (sites_still fates taken site here sites apart.0)
      ∙ ap (called_each (map (site_then g fates) sites) procedure) (called_more g fates taken site.block site.at n procedure here.within some here.free long)
