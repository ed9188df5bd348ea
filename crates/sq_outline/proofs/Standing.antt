-- Items at several places become calls, one place after another.
use Rattle.std.proofs.Common.{◌≡◌, ◌≢◌, ℕ, suc, ◌+◌, ◌*◌, ◌≤◌, List, [], ◌∷◌, ◌++◌, take, drop, length, get_or, Option, None, Some, IsSome, inl, inr, refl, sym, ap, ◌∙◌, subst, arith, length-append}
use Rattle.std.specs.Prelude.{option_map}
use Rattle.std.specs.List.{All, slice_range}
use Rattle.std.proofs.Math.Nat.{suc-mul}
use Rattle.std.proofs.lemmas.Bool.{cases_eq}
use Rattle.std.proofs.lemmas.List.{length-take-le}
use Rattle.std.proofs.lemmas.List.Elements.{All-nil, All-cons, All-head, All-tail}
use Rattle.sq_graph.specs.declared.item.Item.{Item}
use Rattle.sq_graph.specs.declared.item.Item.TheVariants.{Out}
use Rattle.sq_graph.specs.Graph.{Block, Graph}
use Rattle.sq_graph.specs.Blocks.{HasBlock, HasProcedure, block_of, block_items, block_term, items_of, body_of, term_of}
use Rattle.sq_graph.specs.Lines.{place_lines}
use Rattle.sq_graph.specs.Matches.{IsPair, Match}
use Rattle.sq_graph.specs.Operations.{replaced_items}
use Rattle.sq_graph.specs.Places.{IsInReach}
use Rattle.sq_graph.specs.Rules.{IsGraph}
use Rattle.sq_graph.specs.Soundness.{IsSound}
use Rattle.sq_graph.specs.Walks.{IsLive}
use Rattle.sq_graph.specs.Words.{words_of}
use Rattle.sq_graph.proofs.OperationRules.{replaced_rules}
use Rattle.sq_graph.proofs.RulesByBlock.{ItemStands}
use Rattle.sq_layout.specs.Reach.{LedThere}
use Rattle.sq_layout.proofs.Shrinking.{shrunk_in_reach}
use Rattle.sq_layout.proofs.Shrunk.{one_shrinks, replaced_shrunk}
use Rattle.sq_layout.proofs.Standing.{block_of-changed, block_of-changed_here}
use Rattle.law_follow.specs.Follows.{Follows}
use Rattle.law_follow.proofs.Following.{graph_follows_itself, graph_follows_through}
use Rattle.law_patch.specs.Calls.{call_items, called_there}
use Rattle.law_patch.proofs.Calls.{range_is}
use Rattle.law_patch.proofs.MatchedCalls.{match_follows, match_sound}
use Rattle.law_patch.proofs.Saving.{call_saves}
use Rattle.law_patch.proofs.StayingDead.{match_dead}
use Rattle.sq_outline.specs.declared.sites.Site.{Site}
use Rattle.sq_outline.specs.Sites.{called_each, MatchesAt, EndsBefore, MayCallEach}
use Rattle.sq_outline.proofs.Early.{early_part}

-- Some calls were made, each in place of n items, and each costs a word.
pub record AreCalls (calls n : ℕ) (g h : Graph) : Type 0 where
  pub rules : IsGraph h
  pub follows : Follows g h
  pub sound : IsSound g → IsSound h
  pub reach : IsInReach g → IsInReach h
  pub words : words_of h + calls * n ≡ words_of g + calls

pub no_calls : (n : ℕ) (g : Graph) → IsGraph g → AreCalls 0 n g g
no_calls n g rules = record { rules = rules; follows = graph_follows_itself g; sound = λ s. s; reach = λ r. r; words = omega arith }

pub more_calls : (calls n : ℕ) (f g h : Graph) → AreCalls 1 n f g → AreCalls calls n g h → AreCalls (suc calls) n f h
more_calls calls n f g h one more =
    record {
      rules = more.rules;
      follows = graph_follows_through f g h one.follows more.follows;
      sound = λ s. more.sound (one.sound s);
      reach = λ r. more.reach (one.reach r);
      words = omega (arith, one.words, more.words, suc-mul calls n);
    }

module _ (g : Graph) (site : Site) (procedure : ℕ) (rules : IsGraph g) (can : MatchesAt g procedure site) where
  abbrev n : ℕ
  n = length (body_of g procedure)

  abbrev out : List Item
  out = Out procedure ∷ []

  abbrev h : Graph
  h = called_there g site.block site.at procedure

  abbrev changed : Block → Block
  changed b = record b { items = replaced_items b.items site.at (length (body_of g procedure)) (Out procedure ∷ []) }

  pub elsewhere : (m : ℕ) → m ≢ site.block → block_of h m ≡ block_of g m
  elsewhere m other = block_of-changed changed g.blocks site.block m (λ b. refl) other

  here : block_of h site.block ≡ option_map changed (block_of g site.block)
  here = block_of-changed_here changed g.blocks site.block (λ b. refl)

  some_stays : (o : Option Block) → IsSome o → IsSome (option_map changed o)
  some_stays None some = some
  some_stays (Some b) some = refl

  items_change : (o : Option Block) → IsSome o → block_items (option_map changed o) ≡ replaced_items (block_items o) site.at n out
  items_change None some = absurd (cc)
  items_change (Some b) some = refl

  term_stays : (o : Option Block) → block_term (option_map changed o) ≡ block_term o
  term_stays None = refl
  term_stays (Some b) = refl

  pub items_here : items_of h site.block ≡ replaced_items (items_of g site.block) site.at n out
  items_here = ap block_items here ∙ items_change (block_of g site.block) can.block_there

  pub still_block : (m : ℕ) → HasBlock g m → HasBlock h m
  still_block m has =
      elim (cases_eq m site.block) [
        | inl same ↦ subst (λ k. HasBlock h k) (sym same) (subst IsSome (sym here) (some_stays (block_of g site.block) can.block_there))
        | inr other ↦ subst IsSome (sym (elsewhere m other)) has
      ]

  pub still_term : (m : ℕ) → term_of h m ≡ term_of g m
  still_term m =
      elim (cases_eq m site.block) [
        | inl same ↦ subst (λ k. term_of h k ≡ term_of g k) (sym same) (ap block_term here ∙ term_stays (block_of g site.block))
        | inr other ↦ ap block_term (elsewhere m other)
      ]

  module _ (other : Site) (apart : EndsBefore n other site) (also : MatchesAt g procedure other) where
    range_in_block : other.block ≡ site.block → call_items h other.block other.at procedure ≡ call_items g other.block other.at procedure
    range_in_block same =
        let whole : take site.at (items_of g site.block) ++ (out ++ drop (site.at + n) (items_of g site.block)) ≡ items_of h site.block = sym items_here in
        subst (λ k. slice_range (items_of h k) other.at (other.at + n) ≡ slice_range (items_of g k) other.at (other.at + n)) (sym same)
        (range_is (items_of h site.block) other.at n
        ∙ ap (λ (is : List Item). take n (drop other.at is)) items_here
        ∙ early_part (items_of g site.block) (out ++ drop (site.at + n) (items_of g site.block)) site.at other.at n (apart same) (let l = can.within in omega arith)
        ∙ sym (range_is (items_of g site.block) other.at n))

    range_stays : call_items h other.block other.at procedure ≡ call_items g other.block other.at procedure
    range_stays =
        elim (cases_eq other.block site.block) [
          | inl same ↦ range_in_block same
          | inr unlike ↦ ap (λ o. slice_range (block_items o) other.at (other.at + n)) (elsewhere other.block unlike)
        ]

    length_here : site.at ≤ length (items_of h site.block)
    length_here =
        let l = can.within in
        let items = items_of g site.block in
        omega (
          arith,
          ap (λ (is : List Item). length is) items_here,
          length-append (take site.at items) (out ++ drop (site.at + n) items),
          length-take-le site.at items (omega arith),
        )

    within : other.at + n ≤ length (items_of h other.block)
    within =
        elim (cases_eq other.block site.block) [
          | inl same ↦
              let far = apart same in
              let long = length_here in
              subst (λ k. other.at + n ≤ length (items_of h k)) (sym same) (omega arith)
          | inr unlike ↦ subst (λ o. other.at + n ≤ length (block_items o)) (sym (elsewhere other.block unlike)) also.within
        ]

    dead : (r : ℕ) → ¬ IsLive g r (place_lines g other.block (other.at + n)) → ¬ IsLive h r (place_lines h other.block (other.at + n))
    dead r gone = match_dead g site.block site.at procedure rules can other.block (other.at + n) r also.block_there also.within apart gone

    pub still_matches : MatchesAt h procedure other
    still_matches = record {
      block_there = still_block other.block also.block_there;
      procedure_there = also.procedure_there;
      within = within;
      match = subst (λ is. Match g.procedures is (body_of g procedure)) (sym range_stays) also.match;
      pairs_die = λ r s pair unlike.
          let die = also.pairs_die r s (subst (λ is. IsPair g.procedures is (body_of g procedure) r s) range_stays pair) unlike in
          (dead r die.0, dead s die.1);
      link_dies = λ link is. dead link (also.link_dies link is);
    }

  stands : All (ItemStands (HasBlock g) (HasProcedure g)) out
  stands =
      All-cons (ItemStands (HasBlock g) (HasProcedure g)) (Out procedure) []
      (record { names = All-nil (HasBlock g); calls = All-cons (HasProcedure g) procedure [] can.procedure_there (All-nil (HasProcedure g)); fits = tt })
      (All-nil (ItemStands (HasBlock g) (HasProcedure g)))

  pub still_rules : IsGraph h
  still_rules = replaced_rules g site.block site.at n out rules can.block_there stands

  led : LedThere g h
  led m cond a b to e = inl (cond, a, b, sym (still_term m) ∙ e)

  pub one_call : 1 ≤ n → AreCalls 1 n g h
  one_call some = record {
    rules = still_rules;
    follows = match_follows g site.block site.at procedure rules can;
    sound = match_sound g site.block site.at procedure rules can;
    reach = λ reach.
        shrunk_in_reach g h rules.distinct still_rules.distinct
        (one_shrinks changed g.blocks site.block (λ b is.
        let there : site.at + n ≤ length b.items = subst (λ o. site.at + n ≤ length (block_items o)) is can.within in
        replaced_shrunk b site.at n out there some))
        led reach;
    words = omega (arith, call_saves g site.block site.at procedure can.block_there can.within);
  }

-- one call is made, and the others may be made still
pub next_calls : (g : Graph) (site : Site) (sites : List Site) (procedure : ℕ) → IsGraph g → MayCallEach g (site ∷ sites) procedure → MayCallEach (called_there g site.block site.at procedure) sites procedure
next_calls g site sites procedure rules may =
    let can = All-head (MatchesAt g procedure) site sites may.matching in
    let others = All-tail (MatchesAt g procedure) site sites may.matching in
    record {
      some = may.some;
      apart = may.apart.1;
      matching = λ k d l. still_matches g site procedure rules can (get_or sites k d) (may.apart.0 k d l) (others k d l);
    }

-- Items that match a procedure's body become calls of it, at places that don't overlap.
pub sites_called : (sites : List Site) (g : Graph) (procedure : ℕ) → IsGraph g → MayCallEach g sites procedure → AreCalls (length sites) (length (body_of g procedure)) g (called_each sites procedure g)
sites_called [] g procedure rules may = no_calls (length (body_of g procedure)) g rules
sites_called (site ∷ sites) g procedure rules may =
    let n = length (body_of g procedure) in
    let h = called_there g site.block site.at procedure in
    let one = one_call g site procedure rules (All-head (MatchesAt g procedure) site sites may.matching) may.some in
    more_calls (length sites) n g h (called_each sites procedure h) one (sites_called sites h procedure one.rules (next_calls g site sites procedure rules may))
