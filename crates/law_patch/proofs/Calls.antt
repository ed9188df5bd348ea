-- A graph with a call in place of the items of a procedure's body follows it.
use Rattle.std.proofs.Common.{◌≡◌, ◌≢◌, ℕ, ◌<◌, ◌≤◌, ◌+◌, ◌-◌, Bool, true, false, not, ◌&&◌, ◌||◌, ◌==◌, ⊎_elim, List, [], ◌∷◌, ◌++◌, Some, None, map, take, drop, length, slice_get, refl, sym, ap, ◌∙◌, subst, arith}
use Rattle.std.proofs.lemmas.Bool.{cases_eq, ne_eqb}
use Rattle.std.specs.List.{Contains, flat_map, slice_range}
use Rattle.sq_arena.specs.Entries.{value_of}
use Rattle.sq_isa.specs.Uses.{sources_of, destination_of, is_mentioned, is_read}
use Rattle.sq_isa.specs.declared.instructions.Insn.{Insn}
use Rattle.sq_isa.specs.declared.instructions.Insn.TheVariants.{Lui, OpImm}
use Rattle.sq_graph.specs.declared.item.Item.{Item}
use Rattle.sq_graph.specs.declared.item.Item.TheVariants.{Op, Hi, Lo, Out}
use Rattle.sq_graph.specs.Graph.{Block, Procedure, Graph}
use Rattle.sq_graph.specs.Blocks.{HasBlock, named, block_items, items_of, body_of, procedure_body, procedure_link}
use Rattle.sq_graph.specs.Uses.{item_calls}
use Rattle.sq_graph.specs.Rules.{IsGraph, mentions, ProcedureFits}
use Rattle.sq_graph.specs.Lines.{Line, Enter, Return, Do, line_of, term_lines, body_lines, lines_of, inside, behind_name, block_lines, place_lines}
use Rattle.sq_graph.specs.Walks.{IsLive, read_here, live_behind, is_register, lower_names, code_targets}
use Rattle.sq_graph.specs.Soundness.{LinksDieIn, IsSound}
use Rattle.sq_graph.proofs.Located.{IsAt}
use Rattle.law_follow.specs.Follows.{Follows}
use Rattle.law_patch.specs.Changes.{Change, Alike, enter_after, return_after}
use Rattle.law_patch.specs.Calls.{IsCallable, called_there}
use Rattle.law_patch.proofs.Patch.{later as among_later}
use Rattle.law_patch.proofs.Places.{every, absent_from, name_at}
use Rattle.law_patch.proofs.Keeping.{NoMode, no_stands}
use Rattle.law_patch.proofs.Dead.{live, live_carrier}
use Rattle.law_patch.proofs.Carrying.{same_some, carry_items, Backs}
use Rattle.law_patch.proofs.Restricting.{own}
use Rattle.law_patch.proofs.Standing.{distinct_at, block_at}
use Rattle.law_patch.proofs.Placing.{bodies_stay}
use Rattle.law_patch.proofs.Replacing.{own_items, behind_items, C as replacing, place, x as block_there, out, behind, replaced_follows, replaced_sound, replaced_live, replaced_moves}
use Rattle.law_patch.proofs.Used.{contains_first, contains_later, from_slice, slice_there, from_all}

-- a register that none of these items mentions, which are no calls, isn't live before them where it is dead behind
unread : (insn : Insn) (r : ℕ) → is_mentioned insn r ≡ false → is_read insn r ≡ true → ⊥
unread insn r m e = let f : is_mentioned insn r ≡ true = among_later (destination_of insn) (sources_of insn) r e in cc

do_dead : (g : Graph) (half : _) (insn : Insn) (r : ℕ) (rest : List Line) → is_mentioned insn r ≡ false → ¬ IsLive g r rest → ¬ IsLive g r (Do half insn ∷ rest)
do_dead g half insn r rest m dead (read_here e) = unread insn r m e
do_dead g half insn r rest m dead (live_behind w e l) = dead (subst (λ lines. IsLive g r lines) e l)

abbrev AllOf : (Item → Type 0) → List Item → Type 0
AllOf P items = (item : Item) → Contains items item → P item

pub items_dead : (g : Graph) (items : List Item) (r : ℕ) (rest : List Line) → AllOf (λ item. item_calls item ≡ []) items → AllOf (λ item. mentions item r ≡ false) items → ¬ IsLive g r rest → ¬ IsLive g r (map line_of items ++ rest)
items_dead g [] r rest n m dead = dead
items_dead g (Op insn ∷ items) r rest n m dead =
    do_dead g _ insn r (map line_of items ++ rest) (m (Op insn) (contains_first (Op insn) items))
    (items_dead g items r rest (λ item c. n item (contains_later (Op insn) item items c)) (λ item c. m item (contains_later (Op insn) item items c)) dead)
items_dead g (Hi rd to ∷ items) r rest n m dead =
    do_dead g _ (Lui rd 0) r (map line_of items ++ rest) (m (Hi rd to) (contains_first (Hi rd to) items))
    (items_dead g items r rest (λ item c. n item (contains_later (Hi rd to) item items c)) (λ item c. m item (contains_later (Hi rd to) item items c)) dead)
items_dead g (Lo rd rs to ∷ items) r rest n m dead =
    do_dead g _ (OpImm _ rd rs _) r (map line_of items ++ rest) (m (Lo rd rs to) (contains_first (Lo rd rs to) items))
    (items_dead g items r rest (λ item c. n item (contains_later (Lo rd rs to) item items c)) (λ item c. m item (contains_later (Lo rd rs to) item items c)) dead)
items_dead g (Out q ∷ items) r rest n m dead = absurd (let e : q ∷ [] ≡ [] = n (Out q) (contains_first (Out q) items) in cc)

pub range_is : (items : List Item) (at n : ℕ) → slice_range items at (at + n) ≡ take n (drop at items)
range_is items at n = ap (λ k. take k (drop at items)) (let e : (at + n) - at ≡ n = omega arith in e)

pub not_both : (t : Bool) → (t && (false || false)) ≡ false
not_both true = refl
not_both false = refl

-- a register that is dead isn't one that is live
pub is_other : (g : Graph) (link r : ℕ) (lines : List Line) → ¬ IsLive g link lines → IsLive g r lines → is_register link r ≡ false
is_other g link r lines dead l =
    ⊎_elim (λ (e : link ≡ r). absurd (dead (subst (λ q. IsLive g q lines) (sym e) l)))
    (λ (e : link ≢ r). let t : (link == r) ≡ false = ne_eqb link r e in rw t (not_both (not (r == 0)))) (cases_eq link r)

module _ (g : Graph) (block at procedure : ℕ) (rules : IsGraph g) (callable : IsCallable g block at procedure) where
  abbrev many : ℕ
  many = length (body_of g procedure)

  abbrev by : List Item
  by = Out procedure ∷ []

  abbrev h : Graph
  h = called_there g block at procedure

  abbrev C : Change
  C = replacing NoMode no_stands (live g) (Unit {0}) g h rules refl refl

  abbrev x : Block
  x = block_there NoMode no_stands (live g) (Unit {0}) g (live_carrier g) rules block at many by callable.block_there

  abbrev later : List Line
  later = behind NoMode no_stands (live g) (Unit {0}) g (live_carrier g) rules block at many by callable.block_there

  abbrev before : List Item
  before = out NoMode no_stands (live g) (Unit {0}) g (live_carrier g) rules block at many by callable.block_there

  abbrev spot : IsAt g.blocks block
  spot = place NoMode no_stands (live g) (Unit {0}) g (live_carrier g) rules block at many by callable.block_there

  -- the procedure, and its body
  found : (p : Procedure) × (slice_get g.procedures procedure ≡ Some p)
  found = slice_there g.procedures procedure callable.procedure_there

  abbrev p : Procedure
  p = found.0

  here : Contains g.procedures p
  here = from_slice g.procedures procedure p found.1

  fits : ProcedureFits p
  fits = from_all ProcedureFits g.procedures p rules.procedures here

  body_is : body_of g procedure ≡ p.body
  body_is = ap procedure_body found.1

  whole : spot.front ++ (x ∷ spot.back) ≡ g.blocks
  whole = sym spot.whole

  items_are : items_of g block ≡ x.items
  items_are = ap block_items (subst (λ k. value_of (named g.blocks) k ≡ Some x) spot.has_name (block_at g rules spot.front x spot.back whole))

  before_is : before ≡ p.body
  before_is = sym (range_is x.items at many) ∙ subst (λ items. slice_range items at (at + many) ≡ body_of g procedure) items_are callable.items ∙ body_is

  lines_are : block_lines g block ≡ body_lines x (lines_of spot.back)
  lines_are =
      subst (λ k. behind_name k (lines_of g.blocks) ≡ body_lines x (lines_of spot.back)) spot.has_name
      (subst (λ blocks. behind_name x.name (lines_of blocks) ≡ body_lines x (lines_of spot.back)) whole (name_at spot.front x spot.back (absent_from spot.front x spot.back (distinct_at g rules spot.front x spot.back whole))))

  behind_is : place_lines g block (at + many) ≡ later
  behind_is = ap (drop (at + many)) lines_are ∙ behind_items x.items (at + many) (term_lines x.term (lines_of spot.back)) (subst (λ items. at + many ≤ length items) items_are callable.within)

  -- the link is dead behind the items, and so before them
  dead : ¬ IsLive g p.link later
  dead = subst (λ lines. ¬ IsLive g p.link lines) behind_is (callable.dead p.link (ap procedure_link found.1))

  dead_before_it : ¬ IsLive g p.link (map line_of p.body ++ later)
  dead_before_it = items_dead g p.body p.link later (λ item c. from_all (λ item. item_calls item ≡ []) p.body item fits.no_calls c) (λ item c. from_all (λ item. mentions item p.link ≡ false) p.body item fits.no_mention c) dead

  -- the items go on like the call
  calls : (b : Bool) → Alike C b None later later → Alike C b None (map line_of before ++ later) (map line_of by ++ later)
  calls b k =
      let each = bodies_stay every (live g) (Unit {0}) g h rules (λ n c. tt) refl refl (λ n c. tt) p here in
      let inner : Alike C b None (map line_of p.body ++ later) (inside p later) =
      subst (λ items. Alike C b None (map line_of p.body ++ later) (map line_of items ++ (Return p.link ∷ later))) (own_items p.body) (carry_items C own p.body later (Return p.link ∷ later) each (return_after tt k)) in
      subst (λ items. Alike C b None (map line_of items ++ later) (Enter procedure ∷ later)) (sym before_is)
      (enter_after {m = None} {m' = None} tt p found.1 (λ r s l n. (let same : s ≡ r = n in subst (λ k. is_register p.link k ≡ false) (sym same) (is_other g p.link r (map line_of p.body ++ later) dead_before_it l), n)) inner)

  no_lowers : (m : ℕ) → Contains (flat_map lower_names by) m → Contains (code_targets g) m
  no_lowers m c = absurd (let l : c.0 < 0 = c.1 in omega arith)

  dies : Backs C own → Alike C true None later later → LinksDieIn g (map line_of before ++ later) → LinksDieIn h later → LinksDieIn h (map line_of by ++ later)
  dies backs k die die' = (
    (λ q e live.
        let same : q ≡ p = same_some q p (sym e ∙ found.1) in
        let o = backs q.link later live true None later k in
        let is : q.link ≡ o.0 = o.1.0 in
        dead (subst (λ r. IsLive g r later) (sym is ∙ ap (λ (d : Procedure). d.link) same) o.1.1)),
    die',
  )

  pub call_follows : Follows g h
  call_follows = replaced_follows NoMode no_stands (live g) (Unit {0}) g (live_carrier g) rules block at many by callable.block_there calls no_lowers dies

  pub call_sound : IsSound g → IsSound h
  call_sound sound = replaced_sound NoMode no_stands (live g) (Unit {0}) g (live_carrier g) rules block at many by callable.block_there calls no_lowers dies (λ xs r l. l) tt sound

  -- the items begin in the block
  begin : at ≤ length x.items
  begin = let l : at + many ≤ length x.items = subst (λ items. at + many ≤ length items) items_are callable.within in omega (arith, l)

  -- no more is live in other blocks, and in this one up to the items
  pub call_live : (other spot r : ℕ) → HasBlock g other → spot ≤ length (items_of g other) → (other ≡ block → spot ≤ at) → IsLive h r (place_lines h other spot) → IsLive g r (place_lines g other spot)
  call_live other spot r has l ahead_of lives =
      replaced_live NoMode no_stands (live g) (Unit {0}) g (live_carrier g) rules block at many by callable.block_there calls no_lowers dies (λ xs r l. l) tt begin other spot r has l ahead_of lives

  -- nor behind them
  pub call_moves : (spot r : ℕ) → (at + many) + spot ≤ length (items_of g block) → IsLive h r (place_lines h block ((at + 1) + spot)) → IsLive g r (place_lines g block ((at + many) + spot))
  call_moves spot r l lives =
      replaced_moves NoMode no_stands (live g) (Unit {0}) g (live_carrier g) rules block at many by callable.block_there calls no_lowers dies (λ xs r l. l) tt (subst (λ items. at + many ≤ length items) items_are callable.within) spot r l lives
