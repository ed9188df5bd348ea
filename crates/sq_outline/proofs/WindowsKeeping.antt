-- The same registers are live once items at several places became calls of one procedure.
use Rattle.std.proofs.Common.{◌≡◌, ℕ, ◌+◌, ◌≤◌, List, [], ◌∷◌, take, drop, reverse, length, get_or, refl, sym, ap, ◌∙◌, subst, arith, length-append}
use Rattle.std.specs.List.{All, slice_range}
use Rattle.std.proofs.lemmas.List.Elements.{All-head, All-tail}
use Rattle.sq_graph.specs.declared.calls.ItemFate.{ItemFate}
use Rattle.sq_graph.specs.Graph.{Procedure, Graph}
use Rattle.sq_graph.specs.Blocks.{items_of, body_of, procedure_body, procedure_link}
use Rattle.sq_graph.specs.Calls.{with_calls, stands, with_span, items_ahead}
use Rattle.sq_graph.specs.Lines.{place_lines}
use Rattle.sq_graph.specs.Operations.{outlined}
use Rattle.sq_graph.specs.Parts.{names_of}
use Rattle.sq_graph.specs.Rules.{IsGraph}
use Rattle.sq_graph.specs.Walks.{IsLive}
use Rattle.law_patch.specs.Calls.{IsCallable}
use Rattle.law_patch.proofs.Calls.{range_is}
use Rattle.law_patch.proofs.Recalling.{outline_live}
use Rattle.sq_outline.specs.declared.sites.Site.{Site}
use Rattle.sq_outline.specs.Links.{IsDeadAt}
use Rattle.sq_outline.specs.Sites.{AreApart}
use Rattle.sq_outline.specs.WindowsMade.{items_at, behind_by, behind, IsWindowMade}
use Rattle.sq_outline.specs.WindowsPlaces.{StandAt}
use Rattle.sq_outline.specs.WindowsTaken.{AreTaken, KeepsLive, IsFreeSite, MayBeMadeOf, place_then, site_then, with_spans}
use Rattle.sq_outline.proofs.Linking.{link_may}
use Rattle.sq_outline.proofs.Making.{last_there, same_some}
use Rattle.sq_outline.proofs.Standing.{one_call}
use Rattle.sq_outline.proofs.WindowsApart.{all_reversed, all_unmapped, all_stand}
use Rattle.sq_outline.proofs.WindowsCalling.{callable_matches}
use Rattle.sq_outline.proofs.WindowsGraph.{outlined_then, body_long, taken_og, free_og, sites_apart}
use Rattle.sq_outline.proofs.WindowsKept.{callable_then, same_then}
use Rattle.sq_outline.proofs.WindowsMadeThen.{window_then, sites_then, made_then}
use Rattle.sq_outline.proofs.WindowsMaking.{window_rules}
use Rattle.sq_outline.proofs.WindowsSites.{all_still}
use Rattle.sq_outline.proofs.WindowsTaken.{taken_more, called_more, live_more}

-- LIVE REGISTERS WITH SEVERAL CALLS MORE

-- items that may become calls of one procedure do so, from the last place back
module _ (g : Graph) (procedure : ℕ) (some : 1 ≤ length (body_of g procedure)) where
  abbrev size : ℕ
  size = length (body_of g procedure)

  abbrev May : Site → Type 0
  May site = IsCallable g site.block site.at procedure

  pub each_keeps : (sites : List Site) (fates : List ItemFate) → AreTaken g fates → KeepsLive g fates → IsGraph (with_calls fates g) → All May sites → All (IsFreeSite g fates size) sites → AreApart size sites → KeepsLive g (with_spans g size procedure sites fates)
  each_keeps [] fates taken keeps rules may free apart = keeps
  each_keeps (site ∷ sites) fates taken keeps rules may free apart =
      let here = All-head (IsFreeSite g fates size) site sites free in
      let left = All-tail (IsFreeSite g fates size) site sites free in
      let now = place_then g fates site.block site.at in
      let can = callable_then g fates site.block site.at procedure taken keeps some here.free (All-head May site sites may) in
      let one = one_call (with_calls fates g) (record { block = site.block; at = now }) procedure rules (callable_matches (with_calls fates g) site.block now procedure can) some in
      let next = with_span fates (items_ahead g.blocks site.block + site.at) size procedure in
      let is = called_more g fates taken site.block site.at size procedure here.within some here.free refl in
      each_keeps sites next (taken_more g fates taken site.block site.at size procedure here.within some here.free)
      (live_more g fates taken site.block site.at size procedure here.within some here.free refl rules one.rules can keeps)
      (subst IsGraph (sym is) one.rules) (All-tail May site sites may) (all_still g size procedure some fates taken site here sites apart.0 left) apart.1

-- its calls leave alive what is live
module _ (g : Graph) (fates : List ItemFate) (taken : AreTaken g fates) (keeps : KeepsLive g fates) (rules : IsGraph g) (still : IsGraph (with_calls fates g)) (block at n link saving : ℕ) (sites : List Site) (may : MayBeMadeOf g fates block at n link saving sites) where
  abbrev h : Graph
  h = with_calls fates g

  abbrev og : Graph
  og = outlined g block at n link

  abbrev number : ℕ
  number = length g.procedures

  abbrev new : Procedure
  new = record { link = link; body = slice_range (items_of g block) at (at + n) }

  abbrev now : ℕ
  now = place_then g fates block at

  made : IsWindowMade h block now n link saving
  made = made_then g fates taken keeps rules block at n link saving sites may

  few : 1 ≤ n
  few = let l = may.least in omega arith

  long : length (body_of og number) ≡ n
  long = body_long g fates taken keeps rules still block at n link saving sites may

  body_is : body_of og number ≡ items_at g block at n
  body_is = ap procedure_body (last_there g.procedures new) ∙ range_is (items_of g block) at n

  window_same : items_at h block now n ≡ items_at g block at n
  window_same = window_then g fates taken keeps rules block at n link saving sites may

  window_long : length (items_at h block now n) ≡ n
  window_long = ap length (window_same ∙ sym body_is) ∙ long

  -- the items are the window
  items_there : (site : Site) → IsFreeSite g fates n site → StandAt h site.block (place_then g fates site.block site.at) (items_at h block now n) → slice_range (items_of g site.block) site.at (site.at + length (body_of og number)) ≡ body_of og number
  items_there site it stands =
      let there = place_then g fates site.block site.at in
      range_is (items_of g site.block) site.at (length (body_of og number))
      ∙ ap (λ k. take k (drop site.at (items_of g site.block))) long
      ∙ sym (same_then g fates taken site.block site.at n it.within few it.free)
      ∙ ap (λ k. take k (drop there (items_of h site.block))) (sym window_long)
      ∙ sym (range_is (items_of h site.block) there (length (items_at h block now n)))
      ∙ stands.same ∙ window_same ∙ sym body_is

  callable : (site : Site) → IsFreeSite g fates n site → StandAt h site.block (place_then g fates site.block site.at) (items_at h block now n) → IsDeadAt g link (behind_by n site) → IsCallable og site.block site.at number
  callable site it stands dead = record {
    block_there = it.there;
    procedure_there = omega (arith, length-append g.procedures (new ∷ []));
    within = let l = it.within in omega (arith, l, long);
    items = items_there site it stands;
    dead = λ l is.
        let e : l ≡ link = same_some l link (sym is ∙ ap procedure_link (last_there g.procedures new)) in
        subst (λ r. ¬ IsLive og r (place_lines og site.block (site.at + length (body_of og number)))) (sym e)
        (subst (λ k. ¬ IsLive og link (place_lines og site.block (site.at + k))) (sym long)
        (λ lives. dead (outline_live g block at n link rules site.block (site.at + n) link it.within lives)));
  }

  all_callable : All (λ (site : Site). IsCallable og site.block site.at number) sites
  all_callable =
      let stand = all_unmapped (λ (site : Site). StandAt h site.block site.at (items_at h block now n)) (site_then g fates) sites
      (subst (All (λ (site : Site). StandAt h site.block site.at (items_at h block now n))) (sites_then g fates taken keeps rules block at n link saving sites may)
      (all_stand h (items_at h block now n) (names_of h))) in
      let linked = link_may g (items_at g block at n) (behind n sites) link may.linked in
      let dead = all_unmapped (IsDeadAt g link) (behind_by n) sites linked.dead in
      λ k d l. callable (get_or sites k d) (may.free k d l) (stand k d l) (dead k d l)

  pub calls_keep : KeepsLive og fates → KeepsLive og (with_spans og n number (reverse sites) fates)
  calls_keep keeps_og =
      subst (λ m. KeepsLive og (with_spans og m number (reverse sites) fates)) long
      (each_keeps og number (omega (arith, long, few)) (reverse sites) fates (taken_og g fates taken keeps rules still block at n link saving sites may) keeps_og
      (subst IsGraph (sym (outlined_then g fates taken keeps rules still block at n link saving sites may)) (window_rules h block now n link saving still made))
      (all_reversed (λ (site : Site). IsCallable og site.block site.at number) sites all_callable)
      (subst (λ m. All (IsFreeSite og fates m) (reverse sites)) (sym long) (free_og g fates taken keeps rules still block at n link saving sites may))
      (subst (λ m. AreApart m (reverse sites)) (sym long) (sites_apart g fates taken keeps rules still block at n link saving sites may)))
