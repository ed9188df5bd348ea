-- A window becomes a procedure, and its occurrences calls of it.
use Rattle.std.proofs.Common.{◌≡◌, ℕ, false, ◌+◌, ◌*◌, ◌≤◌, ◌<◌, List, [], ◌∷◌, reverse, drop, length, get_or, slice_get, Some, inl, refl, sym, ap, ◌∙◌, subst, arith, length-append}
use Rattle.std.specs.List.{All, slice_range}
use Rattle.std.proofs.lemmas.List.{length-take, length-drop}
use Rattle.std.proofs.lemmas.List.Elements.{All-weaker}
use Rattle.sq_graph.specs.declared.item.Item.{Item}
use Rattle.sq_graph.specs.Graph.{Procedure, Graph}
use Rattle.sq_graph.specs.Blocks.{HasBlock, items_of, body_of, link_of, procedure_body, procedure_link}
use Rattle.sq_graph.specs.Lines.{place_lines}
use Rattle.sq_graph.specs.Operations.{outlined}
use Rattle.sq_graph.specs.Parts.{names_of}
use Rattle.sq_graph.specs.Places.{IsInReach}
use Rattle.sq_graph.specs.Rules.{IsGraph, ProcedureFits, mentions}
use Rattle.sq_graph.specs.Soundness.{IsSoundBody}
use Rattle.sq_graph.specs.Walks.{IsLive}
use Rattle.sq_graph.specs.Words.{words_of}
use Rattle.sq_graph.proofs.AlikeGraphs.{alike_itself}
use Rattle.sq_graph.proofs.OperationRules.{outlined_rules}
use Rattle.sq_layout.specs.Reach.{LedThere}
use Rattle.sq_layout.proofs.Shrinking.{shrunk_in_reach}
use Rattle.sq_layout.proofs.Shrunk.{all_stay}
use Rattle.sq_finger.proofs.Layouts.{names_are}
use Rattle.law_follow.proofs.Following.{graph_follows_through}
use Rattle.law_patch.specs.Calls.{IsCallable, call_end}
use Rattle.law_patch.proofs.Calls.{range_is}
use Rattle.law_patch.proofs.Recalling.{outline_sound}
use Rattle.law_patch.proofs.Renaming.{outline_follows}
use Rattle.law_patch.proofs.Saving.{outline_saves}
use Rattle.law_patch.proofs.StayingDead.{outline_dead}
use Rattle.sq_pass.specs.Applied.{IsApplied}
use Rattle.sq_outline.specs.declared.sites.Site.{Site}
use Rattle.sq_outline.specs.Sites.{called_each, MatchesAt, MayCallEach}
use Rattle.sq_outline.specs.Links.{IsDeadAt, MayLink}
use Rattle.sq_outline.specs.WindowsPlaces.{StandAt, occurrences, calls_for}
use Rattle.sq_outline.specs.WindowsMade.{items_at, behind_by, behind, IsWindowMade, window_made}
use Rattle.sq_outline.proofs.Choosing.{names_distinct}
use Rattle.sq_outline.proofs.Linking.{link_may, link_some, link_below}
use Rattle.sq_outline.proofs.Making.{saved_words, last_there, same_some}
use Rattle.sq_outline.proofs.Plainness.{NoCalls, plain_free}
use Rattle.sq_outline.proofs.Standing.{AreCalls, sites_called}
use Rattle.sq_outline.proofs.WindowsApart.{all_unmapped, calls_all, calls_apart, as_many, all_stand, blocks_there}
use Rattle.sq_outline.proofs.WindowsOrder.{any_order}
use Rattle.sq_outline.proofs.WindowsCalling.{callable_matches}

module _ (g : Graph) (block at n link saving : ℕ) (rules : IsGraph g) (can : IsWindowMade g block at n link saving) where
  abbrev window : List Item
  window = items_at g block at n

  abbrev places : List Site
  places = occurrences g (items_at g block at n)

  abbrev sites : List Site
  sites = calls_for g (items_at g block at n)

  abbrev number : ℕ
  number = length g.procedures

  abbrev new : Procedure
  new = record { link = link; body = slice_range (items_of g block) at (at + n) }

  abbrev og : Graph
  og = outlined g block at n link

  pub some : 1 ≤ n
  some = let l = can.least in omega arith

  may : MayLink g window (behind n places) link
  may = link_may g window (behind n places) link can.linked

  pub long : length window ≡ n
  long = let l = can.within in omega (arith, length-take n (drop at (items_of g block)), length-drop at (items_of g block))

  slice_is : slice_range (items_of g block) at (at + n) ≡ window
  slice_is = range_is (items_of g block) at n

  no_calls : NoCalls new.body
  no_calls = subst NoCalls (sym slice_is) can.plain.no_calls

  no_mention : All (λ item. mentions item link ≡ false) new.body
  no_mention = subst (λ (is : List Item). All (λ item. mentions item link ≡ false) is) (sym slice_is) may.free

  fits : ProcedureFits new
  fits = record { register = link_below g window (behind n places) link can.linked; link = link_some g window (behind n places) link can.linked; no_calls = no_calls; no_mention = no_mention }

  pub window_rules : IsGraph og
  window_rules = outlined_rules g block at n link rules can.there fits

  sound_body : IsSoundBody new
  sound_body = record {
    some = λ none. let e : length window ≡ 0 = ap length (sym slice_is ∙ none) in let l = some in absurd (omega (arith, long));
    free = λ k d l. plain_free link (get_or new.body k d) (no_calls k d l) (no_mention k d l);
  }

  new_there : slice_get og.procedures number ≡ Some new
  new_there = last_there g.procedures new

  pub new_body : body_of og number ≡ window
  new_body = ap procedure_body new_there ∙ slice_is

  new_link : link_of og number ≡ Some link
  new_link = ap procedure_link new_there

  number_below : number < length og.procedures
  number_below = omega (arith, length-append g.procedures (new ∷ []))

  module _ (site : Site) (has : HasBlock g site.block) (stands : StandAt g site.block site.at window) (dead : IsDeadAt g link (behind_by n site)) where
    body_long : length (body_of og number) ≡ n
    body_long = ap length new_body ∙ long

    callable : IsCallable og site.block site.at number
    callable = record {
      block_there = has;
      procedure_there = number_below;
      within = let l = stands.within in omega (arith, body_long, long);
      items =
          ap (λ k. slice_range (items_of g site.block) site.at (site.at + k)) (body_long ∙ sym long) ∙ stands.same ∙ sym new_body;
      dead = λ l is.
          let e : l ≡ link = same_some l link (sym is ∙ new_link) in
          subst (λ r. ¬ IsLive og r (place_lines og site.block (call_end og site.at number))) (sym e)
          (subst (λ k. ¬ IsLive og link (place_lines og site.block (site.at + k))) (sym body_long)
          (outline_dead g block at n link rules site.block (site.at + n) link has (let m = stands.within in omega (arith, long)) tt dead));
    }

    matches_new : MatchesAt og number site
    matches_new = callable_matches og site.block site.at number callable

  -- what holds of each occurrence
  record IsFree (site : Site) : Type 0 where
    pub there : HasBlock g site.block
    pub stands : StandAt g site.block site.at window
    pub dead : IsDeadAt g link (behind_by n site)

  all_free : All IsFree places
  all_free =
      let there = blocks_there g window (names_of g) (λ name listed. (names_are g name).0 listed) in
      let stand = all_stand g window (names_of g) in
      let dead = all_unmapped (IsDeadAt g link) (behind_by n) places may.dead in
      λ k d l. record { there = there k d l; stands = stand k d l; dead = dead k d l }

  each_matches : All (MatchesAt og number) places
  each_matches = All-weaker IsFree (MatchesAt og number) (λ site free. matches_new site free.there free.stands free.dead) places all_free

  all_match : All (MatchesAt og number) sites
  all_match = calls_all g window (MatchesAt og number) (names_of g) each_matches

  led : LedThere g og
  led m cond a b to e = inl (cond, a, b, e)

  outline_reach : IsInReach g → IsInReach og
  outline_reach reach = shrunk_in_reach g og rules.distinct window_rules.distinct (all_stay g.blocks) led reach

  pub may_call : MayCallEach og sites number
  may_call = record {
    some = subst (λ (is : List Item). 1 ≤ length is) (sym new_body) (let l = some in omega (arith, long));
    apart = calls_apart g window (length (body_of og number)) (names_of g) (ap length new_body) (names_distinct g rules);
    matching = all_match;
  }

  -- from the last one on they are made calls, too, with the same result
  pub calls_back : called_each (reverse (occurrences g (items_at g block at n))) number og ≡ window_made g block at n link
  calls_back = any_order g window (names_of g) (names_distinct g rules) number og

  -- the procedure's body is the window
  pub calls_may : MayCallEach og (calls_for og (body_of og number)) number
  calls_may = subst (λ (w : List Item). MayCallEach og (calls_for g w) number) (sym new_body) may_call

  pub calls_are : called_each (calls_for og (body_of og number)) number og ≡ window_made g block at n link
  calls_are = ap (λ (w : List Item). called_each (calls_for g w) number og) new_body

  calls : AreCalls (length sites) (length (body_of og number)) og (window_made g block at n link)
  calls = sites_called sites og number window_rules may_call

  words : words_of (window_made g block at n link) + saving ≡ words_of g
  words =
      let k = length places in
      let counted : words_of (window_made g block at n link) + length places * n ≡ words_of og + length places =
      subst (λ m. words_of (window_made g block at n link) + length places * m ≡ words_of og + length places) (ap length new_body ∙ long)
      (subst (λ m. words_of (window_made g block at n link) + m * length (body_of og number) ≡ words_of og + m) (as_many g window (names_of g)) calls.words) in
      let more : words_of og ≡ words_of g + (length (slice_range (items_of g block) at (at + n)) + 1) = outline_saves g block at n link in
      let size : length (slice_range (items_of g block) at (at + n)) ≡ n = ap length slice_is ∙ long in
      let product = saved_words n k saving some can.saves in
      omega (arith, counted, more, size, product)

  pub window_applied : IsApplied saving (window_made g block at n link) g (window_made g block at n link)
  window_applied = record {
    rules = calls.rules;
    follows = graph_follows_through g og (window_made g block at n link) (outline_follows g block at n link rules) calls.follows;
    sound = λ sound. calls.sound (outline_sound g block at n link rules sound_body sound);
    reach = λ reach. calls.reach (outline_reach reach);
    words = words;
    described = alike_itself (window_made g block at n link);
    kept = λ n has. refl;
  }
