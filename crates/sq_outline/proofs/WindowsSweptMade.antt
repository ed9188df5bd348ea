-- A sweep of rows V and W: what is known of its graph and of what it took stays known with each window of row W.
use Rattle.std.proofs.Common.{◌≡◌, ℕ, ◌+◌, ◌≤◌, false, List, reverse, length, refl, sym, ap, ◌∙◌, subst, arith}
use Rattle.std.specs.List.{All, slice_range}
use Rattle.std.proofs.lemmas.List.Elements.{All-head}
use Rattle.sq_num.specs.declared.packed.Savings.{Savings}
use Rattle.sq_num.specs.Saved.{words_saved}
use Rattle.sq_graph.specs.declared.item.Item.{Item}
use Rattle.sq_graph.specs.declared.calls.ItemFate.{ItemFate}
use Rattle.sq_graph.specs.Graph.{Procedure, Graph}
use Rattle.sq_graph.specs.Blocks.{items_of, items_of_blocks}
use Rattle.sq_graph.specs.Calls.{with_calls, fates_of}
use Rattle.sq_graph.specs.Operations.{outlined}
use Rattle.sq_graph.specs.Rules.{IsGraph, ProcedureFits, mentions}
use Rattle.sq_graph.specs.Words.{most_words}
use Rattle.sq_graph.proofs.OperationRules.{outlined_rules}
use Rattle.sq_graph.proofs.Spans.{items_then, fates_of_long, now_fits}
use Rattle.law_patch.proofs.Calls.{range_is}
use Rattle.law_patch.proofs.Renaming.{outline_follows}
use Rattle.sq_pass.specs.declared.cut.Row.TheVariants.{W}
use Rattle.sq_pass.specs.Counted.{counted}
use Rattle.sq_outline.specs.declared.sites.Site.{Site}
use Rattle.sq_outline.specs.declared.windows.taken.Taken.{Taken}
use Rattle.sq_outline.specs.WindowsMade.{items_at, behind, IsWindowMade, window_made}
use Rattle.sq_outline.specs.WindowsPlaces.{in_block}
use Rattle.sq_outline.specs.WindowsSwept.{swept, IsSweeping, AreSwept, HasBlocksOf}
use Rattle.sq_outline.specs.WindowsTaken.{AreTaken, KeepsLive, IsFreeSite, IsTakenOf, MayBeMadeOf, place_then, with_spans}
use Rattle.sq_outline.proofs.Linking.{link_may, link_some, link_below}
use Rattle.sq_outline.proofs.Plainness.{NoCalls}
use Rattle.sq_outline.proofs.WindowsGraph.{window_graph, outlined_then, free_og, sites_apart}
use Rattle.sq_outline.proofs.WindowsMadeThen.{made_then}
use Rattle.sq_outline.proofs.WindowsMaking.{window_applied}
use Rattle.sq_outline.proofs.WindowsOutlined.{outlined_live, outlined_keeps}
use Rattle.sq_outline.proofs.WindowsSweeping.{window_rewritten, window_words}
use Rattle.sq_outline.proofs.WindowsTakenOf.{taken_outlined}
use Rattle.sq_outline.proofs.WindowsKeeping.{calls_keep}
use Rattle.sq_outline.proofs.WindowsSwept.{sweeping_on}
use Rattle.sq_outline.proofs.WindowsTaking.{AreTaking, taking_starts, taking_ends}

-- ROW W

-- one procedure more, whose items stay
module _ (g : Graph) (fates : List ItemFate) (rules : IsGraph g) (block at n link saving : ℕ) (sites : List Site) (may : MayBeMadeOf g fates block at n link saving sites) where
  abbrev window : List Item
  window = items_at g block at n

  abbrev more : Procedure
  more = record { link = link; body = slice_range (items_of g block) at (at + n) }

  window_is : slice_range (items_of g block) at (at + n) ≡ window
  window_is = range_is (items_of g block) at n

  pub first_site : IsFreeSite g fates n (in_block block at)
  first_site = All-head (IsFreeSite g fates n) (in_block block at) may.others (subst (All (IsFreeSite g fates n)) may.first may.free)

  no_mention : All (λ item. mentions item link ≡ false) more.body
  no_mention = let l = link_may g window (behind n sites) link may.linked in subst (λ (is : List Item). All (λ item. mentions item link ≡ false) is) (sym window_is) l.free

  fits : ProcedureFits more
  fits = record {
    register = link_below g window (behind n sites) link may.linked;
    link = link_some g window (behind n sites) link may.linked;
    no_calls = subst NoCalls (sym window_is) may.plain.no_calls;
    no_mention = no_mention;
  }

  pub outlined_is_graph : IsGraph (outlined g block at n link)
  outlined_is_graph = outlined_rules g block at n link rules first_site.there fits

  pub outlined_has_blocks : HasBlocksOf g (outlined g block at n link)
  outlined_has_blocks = record {
    blocks = refl;
    follows = outline_follows g block at n link rules;
    lives = λ live lives. outlined_live g block at n link live rules lives;
  }

module _ (g : Graph) (old new : Taken) (rules : IsGraph g) (block at n link saving : ℕ) (sites : List Site) (before after : Savings) (sweeping : IsSweeping g old before)
    (may : MayBeMadeOf g old.fates.items block at n link saving sites) (is_taken : IsTakenOf (outlined g block at n link) new)
    (fates : new.fates.items ≡ with_spans (outlined g block at n link) n (length g.procedures) (reverse sites) old.fates.items) (counts : after ≡ counted before W saving) where
  abbrev og : Graph
  og = outlined g block at n link

  abbrev here : Graph
  here = swept g old

  abbrev now : ℕ
  now = place_then g old.fates.items block at

  taken : AreTaken g old.fates.items
  taken = sweeping.fates.fates

  many : length (items_of_blocks g.blocks) ≤ length old.fates.items
  many = omega (arith, taken.many)

  made : IsWindowMade here block now n link saving
  made = made_then g old.fates.items taken sweeping.keeps rules block at n link saving sites may

  swept_is : swept og new ≡ window_made here block now n link
  swept_is = ap (λ fs. with_calls fs og) fates ∙ window_graph g old.fates.items taken sweeping.keeps rules sweeping.rules block at n link saving sites may

  pub window_swept : AreSwept g old og new before after
  window_swept = window_rewritten here (swept og new) block now n link saving before after sweeping.rules sweeping.canonical made swept_is counts

  all_keep : KeepsLive og (with_spans og n (length g.procedures) (reverse sites) old.fates.items)
  all_keep =
      calls_keep g old.fates.items taken sweeping.keeps rules sweeping.rules block at n link saving sites may
      (outlined_keeps g old.fates.items block at n link rules sweeping.rules now (outlined_then g old.fates.items taken sweeping.keeps rules sweeping.rules block at n link saving sites may)
      (λ b q. omega (arith, now_fits (fates_of g old.fates.items b) (items_of g b) q (fates_of_long g old.fates.items many b), ap (λ (xs : List Item). length xs) (items_then g old.fates.items many b))) sweeping.keeps)

  pub window_sweeping : IsSweeping og new after
  window_sweeping =
      sweeping_on g og old new before after sweeping window_swept is_taken (subst (KeepsLive og) (sym fates) all_keep)
      (subst IsGraph (sym swept_is) (let done = window_applied here block now n link saving sweeping.rules made in done.rules)) refl

-- where the places are taken one after another
module _ (g h : Graph) (old : Taken) (rules : IsGraph g) (block at n link saving : ℕ) (sites : List Site) (before : Savings) (sweeping : IsSweeping g old before) (may : MayBeMadeOf g old.fates.items block at n link saving sites) (procedure : ℕ)
    (is : h ≡ outlined g block at n link) (number : procedure ≡ length g.procedures) where
  pub window_few : saving + words_saved before ≤ most_words
  window_few =
      let few = window_words (swept g old) block (place_then g old.fates.items block at) n link saving sweeping.rules (made_then g old.fates.items sweeping.fates.fates sweeping.keeps rules block at n link saving sites may) in
      let words = sweeping.words in
      omega (arith, few, words)

  pub has_blocks : HasBlocksOf g h
  has_blocks = subst (HasBlocksOf g) (sym is) (outlined_has_blocks g old.fates.items rules block at n link saving sites may)

  pub places_start : AreTaking h n procedure sites old.fates.items 0 old
  places_start =
      subst (λ k. AreTaking k n procedure sites old.fates.items 0 old) (sym is)
      (taking_starts (outlined g block at n link) n procedure (let l = may.least in omega arith) sites old.fates.items old (taken_outlined g old sweeping.fates block at n link) refl
      (free_og g old.fates.items sweeping.fates.fates sweeping.keeps rules sweeping.rules block at n link saving sites may)
      (sites_apart g old.fates.items sweeping.fates.fates sweeping.keeps rules sweeping.rules block at n link saving sites may))

  module _ (new : Taken) (after : Savings) (k : ℕ) (past : length sites ≤ k) (taking : AreTaking h n procedure sites old.fates.items k new) (counts : after ≡ counted before W saving) where
    fates_are : new.fates.items ≡ with_spans (outlined g block at n link) n (length g.procedures) (reverse sites) old.fates.items
    fates_are =
        sym (taking_ends h n procedure (let l = may.least in omega arith) sites old.fates.items k new past taking)
        ∙ ap (λ (m : Graph). with_spans m n procedure (reverse sites) old.fates.items) is ∙ ap (λ p. with_spans (outlined g block at n link) n p (reverse sites) old.fates.items) number

    pub places_sweeping : IsSweeping h new after
    places_sweeping =
        subst (λ k. IsSweeping k new after) (sym is)
        (window_sweeping g old new rules block at n link saving sites before after sweeping may (subst (λ k. IsTakenOf k new) is taking.is_taken) fates_are counts)

    pub places_swept : AreSwept g old h new before after
    places_swept =
        subst (λ k. AreSwept g old k new before after) (sym is)
        (window_swept g old new rules block at n link saving sites before after sweeping may (subst (λ k. IsTakenOf k new) is taking.is_taken) fates_are counts)
