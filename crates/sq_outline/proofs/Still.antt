-- What is known of bodies still holds when some become calls.
use Rattle.std.proofs.Common.{◌≡◌, ◌≢◌, ℕ, ◌↔◌, ◌+◌, ◌<◌, ◌≤◌, ◌&&◌, not, Bool, true, false, List, [], ◌∷◌, ◌++◌, take, drop, length, Option, None, Some, IsSome, inl, inr, refl, sym, ap, ◌∙◌, subst, arith}
use Rattle.std.specs.Prelude.{MatchOption}
use Rattle.std.specs.List.{All}
use Rattle.std.proofs.lemmas.Bool.{cases_eq}
use Rattle.std.proofs.lemmas.List.Elements.{All-nil, All-cons, All-head, All-tail, All-map, All-push, All-pop}
use Rattle.sq_isa.specs.Registers.{is_member}
use Rattle.sq_graph.specs.declared.item.Item.{Item}
use Rattle.sq_graph.specs.declared.item.Item.TheVariants.{Out}
use Rattle.sq_graph.specs.Graph.{Graph}
use Rattle.sq_graph.specs.Blocks.{HasBlock, block_items, items_of, body_of}
use Rattle.sq_graph.specs.Operations.{outlined}
use Rattle.sq_graph.specs.Lines.{place_lines}
use Rattle.sq_graph.specs.Rules.{IsGraph}
use Rattle.sq_graph.specs.Uses.{item_calls}
use Rattle.sq_graph.specs.Walks.{IsLive}
use Rattle.sq_rename.specs.Bodies.{IsLiveBehind}
use Rattle.law_patch.specs.Calls.{called_there}
use Rattle.law_patch.proofs.StayingDead.{outline_dead, match_dead}
use Rattle.sq_outline.specs.declared.callers.Body.{Body}
use Rattle.sq_outline.specs.declared.sites.Site.{Site}
use Rattle.sq_outline.specs.Sites.{called_each, MatchesAt, MayCallEach}
use Rattle.sq_outline.specs.Made.{HasBody, IsMade, starts_of, ends_of, made}
use Rattle.sq_outline.specs.Links.{IsDeadAt, MayLink, IsLink, MayLinkBy, IsLinkBy}
use Rattle.sq_outline.specs.Sets.{IsDeadBehind}
use Rattle.sq_outline.specs.Still.{CallsNothing, IsStill, IsDying, IsCaller, AreCallers}
use Rattle.sq_outline.proofs.Linking.{link_as}
use Rattle.sq_outline.proofs.Making.{each_mapped, outline_rules, may_call}
use Rattle.sq_outline.proofs.Standing.{elsewhere, items_here, one_call, next_calls}
use Rattle.sq_outline.proofs.StayingLive.{outlined_lives, called_lives}

-- IN GENERAL

pub still_itself : (g : Graph) → IsStill g g
still_itself g = record { there = λ b has. has; items = λ b has none. refl; dead = λ b r has none gone. gone; live = λ b r has none lives. lives }

pub still_through : (f g h : Graph) → IsStill f g → IsStill g h → IsStill f h
still_through f g h first second = record {
  there = λ b has. first.there b (second.there b has);
  items = λ b has none. second.items b has none ∙ first.items b (second.there b has) (earlier b has none);
  dead = λ b r has none gone. second.dead b r has none (first.dead b r (second.there b has) (earlier b has none) gone);
  live = λ b r has none lives. second.live b r has none (first.live b r (second.there b has) (earlier b has none) lives);
}
  where
    earlier : (b : ℕ) → HasBlock h b → CallsNothing h b → CallsNothing g b
    earlier b has none = subst (λ (is : List Item). All (λ item. item_calls item ≡ []) is) (second.items b has none) none

pub pushed : {X : Type 0} (P : X → Type 0) (xs ys : List X) (x : X) → ys ≡ xs ++ x ∷ [] → All P xs → P x → All P ys
pushed P xs ys x is all own = subst (λ zs. All P zs) (sym is) (All-push P xs x all own)

-- THE REWRITES

outline_still : (g : Graph) (block at size link : ℕ) → IsGraph g → IsGraph (outlined g block at size link) → IsStill g (outlined g block at size link)
outline_still g block at size link rules after = record {
  there = λ b has. has;
  items = λ b has none. refl;
  dead = λ b r has none gone. outline_dead g block at size link rules b (length (items_of g b)) r has (omega arith) tt gone;
  live = λ b r has none lives. outlined_lives g block at size link rules after b (length (items_of g b)) r (omega arith) lives;
}

-- a block with a call isn't one that calls nothing
call_stands : (front back : List Item) (p : ℕ) → All (λ item. item_calls item ≡ []) (front ++ Out p ∷ back) → ⊥
call_stands [] back p none = let e = All-head (λ (item : Item). item_calls item ≡ []) (Out p) back none in absurd (cc)
call_stands (i ∷ front) back p none = call_stands front back p (All-tail (λ (item : Item). item_calls item ≡ []) i (front ++ Out p ∷ back) none)

pub call_still : (g : Graph) (site : Site) (procedure : ℕ) → IsGraph g → MatchesAt g procedure site → 1 ≤ length (body_of g procedure) → IsStill g (called_there g site.block site.at procedure)
call_still g site procedure rules can some = record { there = there; items = items; dead = dead; live = live }
  where
    h : Graph
    h = called_there g site.block site.at procedure

    other : (b : ℕ) → CallsNothing h b → b ≢ site.block
    other b none same =
        call_stands (take site.at (items_of g site.block)) (drop (site.at + length (body_of g procedure)) (items_of g site.block)) procedure
        (subst (λ (is : List Item). All (λ item. item_calls item ≡ []) is) (items_here g site procedure rules can) (subst (CallsNothing h) same none))

    there : (b : ℕ) → HasBlock h b → HasBlock g b
    there b has =
        elim (cases_eq b site.block) [
          | inl same ↦ subst (HasBlock g) (sym same) can.block_there
          | inr apart ↦ subst IsSome (elsewhere g site procedure rules can b apart) has
        ]

    items : (b : ℕ) → HasBlock h b → CallsNothing h b → items_of h b ≡ items_of g b
    items b has none = ap block_items (elsewhere g site procedure rules can b (other b none))

    dead : (b r : ℕ) → HasBlock h b → CallsNothing h b → ¬ IsLiveBehind g b r → ¬ IsLiveBehind h b r
    dead b r has none gone =
        subst (λ (is : List Item). ¬ IsLive h r (place_lines h b (length is))) (sym (items b has none))
        (match_dead g site.block site.at procedure rules can b (length (items_of g b)) r (there b has) (omega arith) (λ same. absurd (other b none same)) gone)

    live : (b r : ℕ) → HasBlock h b → CallsNothing h b → IsLiveBehind g b r → IsLiveBehind h b r
    live b r has none lives =
        let one = one_call g site procedure rules can some in
        subst (λ (is : List Item). IsLive h r (place_lines h b (length is))) (sym (items b has none))
        (called_lives g site.block site.at procedure rules one.rules can b (length (items_of g b)) r (there b has) (other b none) (omega arith) lives)

each_still : (sites : List Site) (g : Graph) (procedure : ℕ) → IsGraph g → MayCallEach g sites procedure → IsStill g (called_each sites procedure g)
each_still [] g procedure rules may = still_itself g
each_still (site ∷ sites) g procedure rules may =
    let can = All-head (MatchesAt g procedure) site sites may.matching in
    let h = called_there g site.block site.at procedure in
    let one = one_call g site procedure rules can may.some in
    still_through g h (called_each sites procedure h) (call_still g site procedure rules can may.some)
    (each_still sites h procedure one.rules (next_calls g site sites procedure rules may))

pub made_still : (g : Graph) (first : ℕ) (others : List ℕ) (link saving : ℕ) → IsGraph g → IsMade g first others link saving → IsStill g (made g first (first ∷ others) link)
made_still g first others link saving rules can =
    let og = outlined g first 0 (length (items_of g first)) link in
    still_through g og (made g first (first ∷ others) link) (outline_still g first 0 (length (items_of g first)) link rules (outline_rules g first others link saving rules can))
    (each_still (starts_of (first ∷ others)) og (length g.procedures) (outline_rules g first others link saving rules can) (may_call g first others link saving rules can))

-- CALLERS

-- the body of a block that is there and calls nothing is a caller where it matches
pub is_caller : (g : Graph) (items : List Item) (body : Body) → IsDying g body → HasBody g items body.block → IsCaller g items body
is_caller g items body dying has = record { body = has; dead = dying has.there has.plain.no_calls }

pub caller_alone : (g : Graph) (items : List Item) (caller : Body) → IsCaller g items caller → AreCallers g items (caller.block ∷ []) caller.dead
caller_alone g items caller is = record {
  bodies = All-cons (HasBody g items) caller.block [] is.body (All-nil (HasBody g items));
  dead = λ r above below. (
    (λ member. All-cons (IsDeadBehind g r) caller.block [] ((is.dead r above below).0 member) (All-nil (IsDeadBehind g r))),
    (λ gone. (is.dead r above below).1 (All-head (IsDeadBehind g r) caller.block [] gone)),
  );
}

in_both : (a b : Bool) → (a && not (a && not b)) ≡ true → (a ≡ true) × (b ≡ true)
in_both true true both = (refl, refl)
in_both true false both = absurd (cc)
in_both false b both = absurd (cc)

-- one more, where what isn't of its set goes from the others'
pub caller_more : (g : Graph) (items : List Item) (blocks : List ℕ) (caller : Body) (dead apart both : ℕ) → AreCallers g items blocks dead → IsCaller g items caller
    → ((r : ℕ) → is_member apart r ≡ (is_member dead r && not (is_member caller.dead r))) → ((r : ℕ) → is_member both r ≡ (is_member dead r && not (is_member apart r)))
    → AreCallers g items (blocks ++ caller.block ∷ []) both
caller_more g items blocks caller dead apart both are is apart_is both_is = record {
  bodies = All-push (HasBody g items) blocks caller.block are.bodies is.body;
  dead = λ r above below. (
    (λ member.
        let in_each = in_both (is_member dead r) (is_member caller.dead r) (sym (whole r) ∙ member) in
        All-push (IsDeadBehind g r) blocks caller.block ((are.dead r above below).0 in_each.0) ((is.dead r above below).0 in_each.1)),
    (λ gone.
        let parts = All-pop (IsDeadBehind g r) (blocks ++ caller.block ∷ []) blocks (Some caller.block) refl gone in
        let first = (are.dead r above below).1 parts.0 in
        let last = (is.dead r above below).1 parts.1 in
        whole r ∙ ap (λ b. b && not (b && not (is_member caller.dead r))) first ∙ ap (λ b. not (not b)) last),
  );
}
  where
    whole : (r : ℕ) → is_member both r ≡ (is_member dead r && not (is_member dead r && not (is_member caller.dead r)))
    whole r = both_is r ∙ ap (λ b. is_member dead r && not b) (apart_is r)

-- THE LINK BY WHAT IS DEAD BEHIND ALL

module _ (g : Graph) (items : List Item) (blocks : List ℕ) (dead : ℕ) (are : AreCallers g items blocks dead) where
  abbrev end_of : ℕ → Site
  end_of b = record { block = b; at = length (items_of g b) }

  may_by : (r : ℕ) → 0 < r → r < 32 → MayLinkBy items dead r ↔ MayLink g items (ends_of g blocks) r
  may_by r above below = (
    (λ may. record { free = may.free; dead = All-map (IsDeadAt g r) end_of blocks ((are.dead r above below).0 may.dead) }),
    (λ may. record { free = may.free; dead = (are.dead r above below).1 (each_mapped (IsDeadAt g r) end_of blocks may.dead) }),
  )

  back : (r : ℕ) → 0 < r → r < 32 → MayLink g items (ends_of g blocks) r ↔ MayLinkBy items dead r
  back r above below = let may = may_by r above below in (may.1, may.0)

  pub links_by : (o : Option ℕ) → MatchOption o ((r : ℕ) → ¬ IsLinkBy items dead r) (IsLinkBy items dead) → MatchOption o ((r : ℕ) → ¬ IsLink g items (ends_of g blocks) r) (IsLink g items (ends_of g blocks))
  links_by None found = λ r is. found r (link_as (MayLink g items (ends_of g blocks)) (MayLinkBy items dead) r back is)
  links_by (Some r) found = link_as (MayLinkBy items dead) (MayLink g items (ends_of g blocks)) r may_by found
