-- Bodies that match one of them become calls of a new procedure.
use Rattle.std.proofs.Common.{◌≡◌, ℕ, zero, suc, nat_eq, false, ◌+◌, ◌*◌, ◌-◌, ◌≤◌, ◌<◌, List, [], ◌∷◌, ◌++◌, map, length, get_or, slice_get, Some, inl, refl, sym, ap, ◌∙◌, subst, arith, length-append}
use Rattle.std.specs.List.{All, IsDistinct, slice_range}
use Rattle.std.proofs.Math.Nat.{mul-suc}
use Rattle.std.proofs.lemmas.Bool.{eqb-false}
use Rattle.std.proofs.lemmas.List.{length-map}
use Rattle.std.proofs.lemmas.List.Elements.{All-nil, All-cons, All-head, All-tail, All-map, All-from_recursion}
use Rattle.sq_graph.specs.declared.item.Item.{Item}
use Rattle.sq_graph.specs.Graph.{Procedure, Graph}
use Rattle.sq_graph.specs.Blocks.{items_of, body_of, link_of, procedure_body, procedure_link}
use Rattle.sq_graph.specs.Lines.{place_lines}
use Rattle.sq_graph.specs.Matches.{IsPair, Match}
use Rattle.sq_graph.specs.Operations.{outlined}
use Rattle.sq_graph.specs.Places.{IsInReach}
use Rattle.sq_graph.specs.Rules.{IsGraph, ProcedureFits, mentions}
use Rattle.sq_graph.specs.Soundness.{IsSoundBody}
use Rattle.sq_graph.specs.Walks.{IsLive}
use Rattle.sq_graph.specs.Words.{words_of}
use Rattle.sq_graph.proofs.AlikeGraphs.{alike_itself}
use Rattle.sq_graph.proofs.OperationRules.{outlined_rules}
use Rattle.sq_layout.specs.Reach.{LedThere}
use Rattle.sq_layout.proofs.Shrinking.{shrunk_in_reach}
use Rattle.sq_layout.proofs.Shrunk.{all_stay}
use Rattle.law_follow.proofs.Following.{graph_follows_through}
use Rattle.law_patch.specs.Calls.{call_end, call_items}
use Rattle.law_patch.proofs.Recalling.{outline_sound}
use Rattle.law_patch.proofs.Renaming.{outline_follows}
use Rattle.law_patch.proofs.Saving.{outline_saves}
use Rattle.law_patch.proofs.StayingDead.{outline_dead}
use Rattle.sq_pass.specs.Applied.{IsApplied}
use Rattle.sq_outline.specs.declared.sites.Site.{Site}
use Rattle.sq_outline.specs.Sites.{MatchesAt, EndsBefore, AreApart, MayCallEach}
use Rattle.sq_outline.specs.Links.{IsDeadAt, MayLink}
use Rattle.sq_outline.specs.Made.{HasBody, starts_of, ends_of, IsMade, AreMade, made}
use Rattle.sq_outline.proofs.Calling.{whole_range}
use Rattle.sq_outline.proofs.Linking.{link_may, link_some, link_below}
use Rattle.sq_outline.proofs.Plainness.{NoCalls, forms_length, plain_pair, plain_match, plain_free}
use Rattle.sq_outline.proofs.Standing.{AreCalls, sites_called}

-- the last of a list
pub last_there : {X : Type 0} (xs : List X) (x : X) → slice_get (xs ++ x ∷ []) (length xs) ≡ Some x
last_there [] x = refl
last_there (y ∷ xs) x = last_there xs x

pub same_some : {X : Type 0} (x y : X) → Some x ≡ Some y → x ≡ y
same_some x y e = cc

-- starts of different blocks are apart
starts_apart : (n : ℕ) (blocks : List ℕ) → IsDistinct nat_eq blocks → AreApart n (starts_of blocks)
unfolding IsDistinct
starts_apart n [] distinct = tt
starts_apart n (block ∷ blocks) distinct =
    let start : ℕ → Site = λ b. record { block = b; at = 0 } in
    let unlike : All (λ other. nat_eq block other ≡ false) blocks = All-from_recursion (λ other. nat_eq block other ≡ false) blocks distinct.0 in (
      All-map {X = Site} (λ other. EndsBefore n other (record { block = block; at = 0 })) start blocks
          (λ k d l same. absurd (eqb-false block (get_or blocks k d) (unlike k d l) (sym same))),
      starts_apart n blocks distinct.1,
    )

-- of mapped elements, each by its place
pub each_mapped : {X Y : Type 0} (P : Y → Type 0) (f : X → Y) (xs : List X) → All P (map f xs) → All (λ x. P (f x)) xs
each_mapped P f [] all = All-nil (λ x. P (f x))
each_mapped P f (x ∷ xs) all = All-cons (λ x. P (f x)) x xs (All-head P (f x) (map f xs) all) (each_mapped P f xs (All-tail P (f x) (map f xs) all))

-- two items and two blocks at least
pub some_items : (n k saving : ℕ) → saving + (n + 1) ≡ k * (n - 1) → 1 ≤ saving → 1 ≤ n
some_items zero k saving saves some = absurd (omega arith)
some_items (suc n) k saving saves some = omega arith

pub saved_words : (n k saving : ℕ) → 1 ≤ n → saving + (n + 1) ≡ k * (n - 1) → (saving + (n + 1)) + k ≡ k * n
saved_words zero k saving one saves = absurd (omega arith)
saved_words (suc n) k saving one saves =
    let less : suc n - 1 ≡ n = omega arith in
    let is : saving + (suc n + 1) ≡ k * n = saves ∙ ap (λ m. k * m) less in
    ap (λ m. m + k) is ∙ sym (mul-suc k n)

module _ (g : Graph) (first : ℕ) (others : List ℕ) (link saving : ℕ) (rules : IsGraph g) (can : IsMade g first others link saving) where
  abbrev blocks : List ℕ
  blocks = first ∷ others

  abbrev body : List Item
  body = items_of g first

  abbrev n : ℕ
  n = length (items_of g first)

  abbrev number : ℕ
  number = length g.procedures

  abbrev new : Procedure
  new = record { link = link; body = slice_range (items_of g first) 0 (0 + length (items_of g first)) }

  abbrev og : Graph
  og = outlined g first 0 (length (items_of g first)) link

  pub some : 1 ≤ n
  some = some_items n (length blocks) saving can.saves can.some

  may : MayLink g body (ends_of g blocks) link
  may = link_may g body (ends_of g blocks) link can.linked

  own : HasBody g body first
  own = All-head (HasBody g body) first others can.bodies

  slice_is : slice_range body 0 (0 + n) ≡ body
  slice_is = whole_range body n refl

  no_calls : NoCalls new.body
  no_calls = subst NoCalls (sym slice_is) own.plain.no_calls

  no_mention : All (λ item. mentions item link ≡ false) new.body
  no_mention = subst (λ (is : List Item). All (λ item. mentions item link ≡ false) is) (sym slice_is) may.free

  fits : ProcedureFits new
  fits = record { register = link_below g body (ends_of g blocks) link can.linked; link = link_some g body (ends_of g blocks) link can.linked; no_calls = no_calls; no_mention = no_mention }

  pub outline_rules : IsGraph og
  outline_rules = outlined_rules g first 0 n link rules own.there fits

  sound_body : IsSoundBody new
  sound_body = record {
    some = λ none. let e : length body ≡ 0 = ap length (sym slice_is ∙ none) in let l = some in absurd (omega arith);
    free = λ k d l. plain_free link (get_or new.body k d) (no_calls k d l) (no_mention k d l);
  }

  new_there : slice_get og.procedures number ≡ Some new
  new_there = last_there g.procedures new

  pub new_body : body_of og number ≡ body
  new_body = ap procedure_body new_there ∙ slice_is

  new_link : link_of og number ≡ Some link
  new_link = ap procedure_link new_there

  number_below : number < length og.procedures
  number_below = omega (arith, length-append g.procedures (new ∷ []))

  module _ (block : ℕ) (has : HasBody g body block) (dead : IsDeadAt g link (record { block = block; at = length (items_of g block) })) where
    as_long : length (items_of g block) ≡ length (body_of og number)
    as_long = forms_length (items_of g block) body has.match.match.forms ∙ ap length (sym new_body)

    whole : call_items og block 0 number ≡ items_of g block
    whole = whole_range (items_of g block) (length (body_of og number)) as_long

    at_end : length (items_of g block) ≡ call_end og 0 number
    at_end = omega (arith, as_long)

    dead_there : (r : ℕ) → ¬ IsLive g r (place_lines g block (length (items_of g block))) → ¬ IsLive og r (place_lines og block (call_end og 0 number))
    dead_there r gone =
        subst (λ k. ¬ IsLive og r (place_lines og block k)) at_end
        (outline_dead g first 0 n link rules block (length (items_of g block)) r has.there (omega arith) tt gone)

    match_there : Match og.procedures (call_items og block 0 number) (body_of og number)
    match_there =
        subst (λ is. Match og.procedures is (body_of og number)) (sym whole)
        (subst (λ js. Match og.procedures (items_of g block) js) (sym new_body)
        (plain_match g.procedures og.procedures (items_of g block) body has.plain.no_calls own.plain.no_calls has.match.match))

    pair_before : (r s : ℕ) → IsPair og.procedures (call_items og block 0 number) (body_of og number) r s → IsPair g.procedures (items_of g block) body r s
    pair_before r s pair =
        plain_pair og.procedures g.procedures (items_of g block) body r s has.plain.no_calls own.plain.no_calls
        (subst (λ js. IsPair og.procedures (items_of g block) js r s) new_body
        (subst (λ is. IsPair og.procedures is (body_of og number) r s) whole pair))

    matches_new : MatchesAt og number (record { block = block; at = 0 })
    matches_new = record {
      block_there = has.there;
      procedure_there = number_below;
      within = omega (arith, as_long);
      match = match_there;
      pairs_die = λ r s pair unlike. let die = has.match.pairs_die r s (pair_before r s pair) unlike in (dead_there r die.0, dead_there s die.1);
      link_dies = λ l is. dead_there l (subst (λ r. ¬ IsLive g r (place_lines g block (length (items_of g block)))) (same_some link l (sym new_link ∙ is)) dead);
    }

  all_match : All (MatchesAt og number) (starts_of blocks)
  all_match =
      let dead = each_mapped (IsDeadAt g link) (λ block. record { block = block; at = length (items_of g block) }) blocks may.dead in
      let start : ℕ → Site = λ block. record { block = block; at = 0 } in
      All-map (MatchesAt og number) start blocks (λ k d l. matches_new (get_or blocks k d) (can.bodies k d l) (dead k d l))

  led : LedThere g og
  led m cond a b to e = inl (cond, a, b, e)

  outline_reach : IsInReach g → IsInReach og
  outline_reach reach = shrunk_in_reach g og rules.distinct outline_rules.distinct (all_stay g.blocks) led reach

  pub may_call : MayCallEach og (starts_of blocks) number
  may_call = record {
    some = subst (λ (is : List Item). 1 ≤ length is) (sym new_body) some;
    apart = starts_apart (length (body_of og number)) blocks can.distinct;
    matching = all_match;
  }

  calls : AreCalls (length (starts_of blocks)) (length (body_of og number)) og (made g first blocks link)
  calls =
      sites_called (starts_of blocks) og number outline_rules may_call

  words : words_of (made g first blocks link) + saving ≡ words_of g
  words =
      let k = length blocks in
      let counted : words_of (made g first blocks link) + k * n ≡ words_of og + k =
      subst (λ m. words_of (made g first blocks link) + m * n ≡ words_of og + m) (length-map blocks (λ block. record { block = block; at = 0 }))
      (subst (λ (is : List Item). words_of (made g first blocks link) + length (starts_of blocks) * length is ≡ words_of og + length (starts_of blocks)) new_body calls.words) in
      let more : words_of og ≡ words_of g + (length (slice_range body 0 (0 + n)) + 1) = outline_saves g first 0 n link in
      let long : length (slice_range body 0 (0 + n)) ≡ n = ap length slice_is in
      let product = saved_words n k saving some can.saves in
      omega (arith, counted, more, long, product)

  pub made_applied : IsApplied saving (made g first blocks link) g (made g first blocks link)
  made_applied = record {
    rules = calls.rules;
    follows = graph_follows_through g og (made g first blocks link) (outline_follows g first 0 n link rules) calls.follows;
    sound = λ sound. calls.sound (outline_sound g first 0 n link rules sound_body sound);
    reach = λ reach. calls.reach (outline_reach reach);
    words = words;
    described = alike_itself (made g first blocks link);
    kept = λ n has. refl;
  }

-- of blocks of which the first is known by its place
module _ (g : Graph) (blocks : List ℕ) (link : ℕ) (rules : IsGraph g) (are : AreMade g blocks link) where
  pub first_rules : (block n : ℕ) → block ≡ get_or blocks 0 0 → n ≡ length (items_of g block) → IsGraph (outlined g block 0 n link)
  first_rules block n is long =
      let same : are.first ≡ block = sym (is ∙ ap (λ bs. get_or bs 0 0) are.are) in
      subst (λ m. IsGraph (outlined g block 0 m link)) (sym long)
      (subst (λ b. IsGraph (outlined g b 0 (length (items_of g b)) link)) same (outline_rules g are.first are.others link are.saving rules are.made))

  pub first_calls : (block n : ℕ) → block ≡ get_or blocks 0 0 → n ≡ length (items_of g block) → MayCallEach (outlined g block 0 n link) (starts_of blocks) (length g.procedures)
  first_calls block n is long =
      let same : are.first ≡ block = sym (is ∙ ap (λ bs. get_or bs 0 0) are.are) in
      subst (λ m. MayCallEach (outlined g block 0 m link) (starts_of blocks) (length g.procedures)) (sym long)
      (subst (λ b. MayCallEach (outlined g b 0 (length (items_of g b)) link) (starts_of blocks) (length g.procedures)) same
      (subst (λ bs. MayCallEach (outlined g are.first 0 (length (items_of g are.first)) link) (starts_of bs) (length g.procedures)) (sym are.are) (may_call g are.first are.others link are.saving rules are.made)))
