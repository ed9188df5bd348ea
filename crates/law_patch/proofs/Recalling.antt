-- A graph whose procedures have other numbers, some in place of others, follows it.
use Rattle.std.proofs.Common.{◌≡◌, ◌≢◌, ℕ, zero, suc, ◌<◌, ◌+◌, ◌-◌, nat_lt, arith, Bool, true, false, ◌==◌, inl, inr, List, [], ◌∷◌, ◌++◌, Option, Some, None, IsSome, map, take, drop, remove, slice_get, refl, sym, ap, ◌∙◌, subst}
use Rattle.std.proofs.lemmas.Bool.{cases_Bool, eqb-true, ltb-true, ltb-false}
use Rattle.std.proofs.lemmas.Option.{slice_get-map}
use Rattle.std.specs.Option.{option_map}
use Rattle.std.proofs.lemmas.List.Elements.{All-nil, All-cons, All-append, Contains-append_cases}
use Rattle.std.specs.List.{All, Contains, flat_map, slice_range}
use Rattle.sq_arena.specs.Entries.{value_of}
use Rattle.sq_graph.proofs.Located.{located}
use Rattle.sq_graph.specs.declared.item.Item.{Item}
use Rattle.sq_graph.specs.declared.item.Item.TheVariants.{Op, Hi, Lo, Out}
use Rattle.sq_graph.specs.Graph.{Block, Procedure, Graph}
use Rattle.sq_graph.specs.Blocks.{named, block_items, items_of, HasProcedure, procedure_body, procedure_link, all_items}
use Rattle.sq_graph.specs.Terms.{links}
use Rattle.sq_graph.specs.Uses.{item_calls, calls}
use Rattle.sq_graph.specs.Rules.{IsGraph}
use Rattle.sq_graph.specs.Operations.{redirected_calls, without_procedure, outlined}
use Rattle.sq_graph.specs.Renames.{recalled_block, recalled_procedure, swapped, lowered}
use Rattle.sq_graph.specs.Lines.{lines_of, slot_name, block_lines}
use Rattle.sq_graph.specs.Walks.{word_name, lower_names, code_targets}
use Rattle.sq_graph.specs.Soundness.{IsSoundBody, IsSound}
use Rattle.law_follow.specs.Follows.{Follows, word_address}
use Rattle.law_patch.specs.Changes.{Change, Alike, IsSteady, falls}
use Rattle.law_patch.specs.Recalls.{AreEqual}
use Rattle.law_patch.proofs.Renaming.{still_there}
use Rattle.law_patch.proofs.LiveTargets.{word_target}
use Rattle.law_patch.proofs.Patch.{change_follows}
use Rattle.law_patch.proofs.Keeping.{staying, all_matter, every_carrier}
use Rattle.law_patch.proofs.Changing.{ahead, same_map}
use Rattle.law_patch.proofs.Places.{every}
use Rattle.law_patch.proofs.Carrying.{same_some, CallGoes, ItemGoes, SlotGoes, BlockGoes, carry_inside}
use Rattle.law_patch.proofs.Layouts.{IsHeld, Carries, done, stays, carries_behind, carried_sound}
use Rattle.law_patch.proofs.Restricting.{own, own_block, own_procedure, flat_from, from_map_of, lower_recalled, body_recalled, each_has, block_target, procedure_target, slot_target}
use Rattle.law_patch.proofs.Standing.{stands_at, block_at, own_called_block, own_called_procedure}
use Rattle.law_patch.proofs.Parts.{take_in, drop_in}
use Rattle.law_patch.proofs.Calls.{range_is}
use Rattle.law_patch.proofs.Remaining.{AlikeAt, nothing_at, fits_at, stays_at, live_at}
use Rattle.std.proofs.Common.{◌≤◌, length as size_of}
use Rattle.sq_graph.specs.Lines.{place_lines}
use Rattle.sq_graph.specs.Walks.{IsLive}
use Rattle.law_patch.proofs.Carrying.{Backs}
use Rattle.law_patch.proofs.Layouts.{carries_lines, carries_back}
use Rattle.law_patch.proofs.Used.{contains_first, contains_later, flat_contains, from_slice, slice_there, from_all, item_called, block_item, body_calls_none}

-- The second graph has the same blocks with other numbers of procedures, under which those that are called are there.
pub record IsRenumbered (g h : Graph) (number : ℕ → ℕ) : Type 0 where
  pub blocks : h.blocks ≡ map (recalled_block number) g.blocks
  pub entry : h.entry ≡ g.entry
  pub words : h.code_words ≡ g.code_words
  pub called : (q : ℕ) (p : Procedure) → Contains (calls g) q → slice_get g.procedures q ≡ Some p → slice_get h.procedures (number q) ≡ Some (recalled_procedure number p)
  pub lowers : (p : Procedure) (m : ℕ) → Contains h.procedures p → Contains (flat_map lower_names p.body) m → Contains (code_targets g) m

module _ (g h : Graph) (number : ℕ → ℕ) (rules : IsGraph g) (same : IsRenumbered g h number) where
  abbrev C : Change
  C = staying every all_matter (Unit {0}) g h

  abbrev moved : List Block → List Block
  moved bs = map (recalled_block number) bs

  may_hold : (n : ℕ) → Contains (code_targets g) n → C.MayHold n n
  may_hold n c = (refl, (tt, c))

  body_goes : (p : Procedure) → Contains g.procedures p → (item : Item) → Contains p.body item → ItemGoes C number item
  body_goes p c (Op insn) d = tt
  body_goes p c (Hi rd to) d = tt
  body_goes p c (Lo rd rs to) d = may_hold to (procedure_target g p to c (flat_contains lower_names p.body (Lo rd rs to) to d (contains_first to [])))
  body_goes p c (Out r) d = absurd (let n : r ∷ [] ≡ [] = body_calls_none g rules p (Out r) c d in cc)

  call_goes : (q : ℕ) → HasProcedure g q → Contains (calls g) q → CallGoes C number q
  call_goes q l c =
      let o = slice_there g.procedures q l in
      record {
        procedure = o.0;
        before = o.1;
        after = same.called q o.0 c o.1 ∙ ap Some (sym (ap (recalled_procedure number) (own_procedure o.0)));
        body = carry_inside C number o.0 (body_goes o.0 (from_slice g.procedures q o.0 o.1));
      }

  item_goes : (x : Block) → Contains g.blocks x → (item : Item) → Contains x.items item → ItemGoes C number item
  item_goes x c (Op insn) d = tt
  item_goes x c (Hi rd to) d = tt
  item_goes x c (Lo rd rs to) d = may_hold to (block_target g x to c (flat_contains lower_names x.items (Lo rd rs to) to d (contains_first to [])))
  item_goes x c (Out q) d =
      let there = block_item g rules x (Out q) c d in
      call_goes q (item_called g rules (Out q) q there (contains_first q [])) (flat_contains item_calls (all_items g) (Out q) q there (contains_first q []))

  slot_goes : (front : List Block) (x : Block) (bs : List Block) → front ++ (x ∷ bs) ≡ g.blocks → links x.term ≡ true → SlotGoes C number (slot_name (lines_of bs)) (slot_name (lines_of (moved bs)))
  slot_goes front x [] e l = tt
  slot_goes front x (next ∷ bs) e l = may_hold next.name (slot_target g front x next bs e l)

  block_goes : (front : List Block) (x : Block) (bs : List Block) → front ++ (x ∷ bs) ≡ g.blocks → BlockGoes C number x (lines_of bs) (lines_of (moved bs))
  block_goes front x bs e = record {
    items = item_goes x (stands_at g rules front x bs e);
    term = λ n c. (refl, tt);
    slot = slot_goes front x bs e;
  }

  all : (into : Bool) (front bs : List Block) → front ++ bs ≡ g.blocks → Carries C number every into bs (moved bs)
  all into front [] e = done
  all into front (x ∷ bs) e =
      stays x (recalled_block number x) (sym (ap (recalled_block number) (own_block x))) (block_goes front x bs e) (all (falls x.term) (front ++ x ∷ []) bs (ahead front x bs ∙ e))

  every_block : Carries C number every false g.blocks h.blocks
  every_block = subst (λ bs. Carries C number every false g.blocks bs) (sym same.blocks) (all false [] g.blocks refl)

  steady : IsSteady C
  steady = record {
    carrier = every_carrier g;
    names = λ n m j. subst (λ k. Alike C false None (block_lines g n) (block_lines h k)) (sym j.0) (carries_behind C number every n tt every_block);
    values = λ n m v. (v.1.1, (v.0, v.1.0));
  }

  pub renumbered_follows : Follows g h
  renumbered_follows =
      change_follows C steady (same.entry, tt) (ap (map word_address) same.words) (ap (map word_name) same.words ∙ same_map (map word_name g.code_words))
      (λ i n e. may_hold n (word_target g n (from_slice (map word_name g.code_words) i n e)))

  bodies_held : (m : ℕ) → Contains (flat_map (λ (p : Procedure). flat_map lower_names p.body) h.procedures) m → IsHeld C number every m
  bodies_held m c =
      let o = flat_from (λ (p : Procedure). flat_map lower_names p.body) h.procedures m c in (m, may_hold m (same.lowers o.0 m o.1.0 o.1.1))

  pub renumbered_sound : IsSound g → All IsSoundBody h.procedures → IsSound h
  renumbered_sound sound sound_bodies =
      carried_sound C number every steady (λ xs r l. tt) tt every_block
      (λ m c. (m, may_hold m (word_target g m (subst (λ ws. Contains (map word_name ws) m) same.words c))))
      bodies_held sound sound_bodies

  -- what is live at a place of the second graph is live where the first goes on like it
  backs : Backs C number
  backs =
      carries_back C number every steady (λ xs r l. tt) tt every_block
      (λ m c. (m, may_hold m (word_target g m (subst (λ ws. Contains (map word_name ws) m) same.words c)))) bodies_held

  -- places go on alike
  all_at : (n place : ℕ) → place ≤ size_of (items_of g n) → (front bs : List Block) → front ++ bs ≡ g.blocks → AlikeAt C number n place bs (moved bs)
  all_at n place l front [] e = nothing_at C number n place
  all_at n place l front (x ∷ bs) e =
      let further = ahead front x bs ∙ e in
      stays_at C number n place x (recalled_block number x) bs (moved bs) (sym (ap (recalled_block number) (own_block x))) (block_goes front x bs e) (fits_at g rules n place l front x bs e)
      (λ f. carries_lines C number every true refl (all true (front ++ x ∷ []) bs further)) (all_at n place l (front ++ x ∷ []) bs further)

  -- no more is live at them
  pub renumbered_live : (n place r : ℕ) → place ≤ size_of (items_of g n) → IsLive h r (place_lines h n place) → IsLive g r (place_lines g n place)
  renumbered_live n place r l live = live_at C number backs n place r (subst (λ bs. AlikeAt C number n place g.blocks bs) (sym same.blocks) (all_at n place l [] g.blocks refl)) live

-- procedures that were those of the graph under other numbers
abbrev Were : Graph → Graph → (ℕ → ℕ) → Type 0
Were g h number = (p : Procedure) → Contains h.procedures p → (o : Procedure) × (Contains g.procedures o × (p ≡ recalled_procedure number o))

lowers_were : (g h : Graph) (number : ℕ → ℕ) → Were g h number → (p : Procedure) (m : ℕ) → Contains h.procedures p → Contains (flat_map lower_names p.body) m → Contains (code_targets g) m
lowers_were g h number were p m c d =
    let o = were p c in
    procedure_target g o.0 m o.1.0 (subst (λ ns. Contains ns m) (lower_recalled number o.0.body) (subst (λ (w : Procedure). Contains (flat_map lower_names w.body) m) o.1.1 d))

sound_were : (g h : Graph) (number : ℕ → ℕ) → Were g h number → IsSound g → All IsSoundBody h.procedures
sound_were g h number were sound =
    each_has IsSoundBody h.procedures
    (λ p c. let o = were p c in subst IsSoundBody (sym o.1.1) (body_recalled number o.0 (from_all IsSoundBody g.procedures o.0 sound.bodies o.1.0)))

-- one procedure in place of another
same_procedure : (a b : Procedure) → procedure_body (Some a) ≡ procedure_body (Some b) → procedure_link (Some a) ≡ procedure_link (Some b) → a ≡ b
same_procedure a b e l = ap (λ (is : List Item). record a { body = is }) e ∙ ap (λ k. record b { link = k }) (same_some a.link b.link l)

module _ (g : Graph) (from to : ℕ) (rules : IsGraph g) (equal : AreEqual g from to) where
  abbrev r : ℕ → ℕ
  r = swapped from to

  target : (p : Procedure) × (slice_get g.procedures to ≡ Some p)
  target = slice_there g.procedures to equal.there

  -- what stands under the other number
  found : (q : ℕ) (p : Procedure) → slice_get g.procedures q ≡ Some p → slice_get g.procedures (r q) ≡ Some p
  found q p e =
      elim (cases_Bool (q == from)) [
        | inl here ↦
            let is : slice_get g.procedures from ≡ Some p = subst (λ k. slice_get g.procedures k ≡ Some p) (eqb-true q from here) e in
            let body : procedure_body (Some p) ≡ procedure_body (Some target.0) = sym (ap procedure_body is) ∙ equal.bodies ∙ ap procedure_body target.1 in
            let link : procedure_link (Some p) ≡ procedure_link (Some target.0) = sym (ap procedure_link is) ∙ equal.links ∙ ap procedure_link target.1 in
            rw here (target.1 ∙ ap Some (sym (same_procedure p target.0 body link)))
        | inr apart ↦ rw apart e
      ]

  were : Were g (redirected_calls g from to) r
  were p c = from_map_of (recalled_procedure r) g.procedures p c

  renumbered : IsRenumbered g (redirected_calls g from to) r
  renumbered = record {
    blocks = refl;
    entry = refl;
    words = refl;
    called = λ q p c e. slice_get-map (recalled_procedure r) g.procedures (r q) ∙ ap (option_map (recalled_procedure r)) (found q p e);
    lowers = lowers_were g (redirected_calls g from to) r were;
  }

  pub recall_follows : Follows g (redirected_calls g from to)
  recall_follows = renumbered_follows g (redirected_calls g from to) r rules renumbered

  pub recall_live : (n place q : ℕ) → place ≤ size_of (items_of g n) → IsLive (redirected_calls g from to) q (place_lines (redirected_calls g from to) n place) → IsLive g q (place_lines g n place)
  recall_live n place q l live = renumbered_live g (redirected_calls g from to) r rules renumbered n place q l live

  pub recall_sound : IsSound g → IsSound (redirected_calls g from to)
  recall_sound sound = renumbered_sound g (redirected_calls g from to) r rules renumbered sound (sound_were g (redirected_calls g from to) r were sound)

-- the number of a procedure once another is gone
abbrev lower : ℕ → ℕ → ℕ
lower zero zero = zero
lower zero (suc q) = q
lower (suc gone) zero = zero
lower (suc gone) (suc q) = suc (lower gone q)

lower_above : (gone q : ℕ) → gone < q → lower gone q ≡ q - 1
lower_above zero zero l = absurd (omega arith)
lower_above zero (suc q) l = omega arith
lower_above (suc gone) zero l = absurd (omega arith)
lower_above (suc gone) (suc q) l = let e = lower_above gone q (omega (arith, l)) in omega (arith, e, l)

lower_below : (gone q : ℕ) → q < gone → lower gone q ≡ q
lower_below zero q l = absurd (omega arith)
lower_below (suc gone) zero l = refl
lower_below (suc gone) (suc q) l = ap suc (lower_below gone q (omega (arith, l)))

lowered_is : (gone q : ℕ) → q ≢ gone → lowered gone q ≡ lower gone q
lowered_is gone q other =
    elim (cases_Bool (nat_lt gone q)) [
      | inl above ↦ rw above (sym (lower_above gone q (ltb-true gone q above)))
      | inr below ↦ rw below (sym (lower_below gone q (let l = ltb-false gone q below in omega (arith, l, other))))
    ]

removed_at : (ps : List Procedure) (gone q : ℕ) (p : Procedure) → q ≢ gone → slice_get ps q ≡ Some p → slice_get (take gone ps ++ drop (suc gone) ps) (lower gone q) ≡ Some p
removed_at [] gone q p other e = absurd (cc)
removed_at (x ∷ ps) zero zero p other e = absurd (other refl)
removed_at (x ∷ ps) zero (suc q) p other e = e
removed_at (x ∷ ps) (suc gone) zero p other e = e
removed_at (x ∷ ps) (suc gone) (suc q) p other e = removed_at ps gone q p (λ i. other (ap suc i)) e

removed_was : (ps : List Procedure) (gone : ℕ) (p : Procedure) → Contains (take gone ps ++ drop (suc gone) ps) p → Contains ps p
removed_was [] zero p c = c
removed_was [] (suc gone) p c = c
removed_was (x ∷ ps) zero p c = contains_later x p ps c
removed_was (x ∷ ps) (suc gone) p (zero, l, e) = (zero, omega arith, e)
removed_was (x ∷ ps) (suc gone) p (suc i, l, e) = contains_later x p ps (removed_was ps gone p (i, omega (arith, l), e))

module _ (g : Graph) (gone : ℕ) (rules : IsGraph g) (unused : ¬ Contains (calls g) gone) where
  left : Were g (without_procedure g gone) (lowered gone)
  left p c = let o = from_map_of (recalled_procedure (lowered gone)) (remove g.procedures gone) p c in (o.0, (removed_was g.procedures gone o.0 o.1.0, o.1.1))

  fewer : IsRenumbered g (without_procedure g gone) (lowered gone)
  fewer = record {
    blocks = refl;
    entry = refl;
    words = refl;
    called = λ q p c e.
        let other : q ≢ gone = λ i. unused (subst (λ k. Contains (calls g) k) i c) in
        slice_get-map (recalled_procedure (lowered gone)) (remove g.procedures gone) (lowered gone q)
        ∙ ap (option_map (recalled_procedure (lowered gone))) (ap (slice_get (remove g.procedures gone)) (lowered_is gone q other) ∙ removed_at g.procedures gone q p other e);
    lowers = lowers_were g (without_procedure g gone) (lowered gone) left;
  }

  pub uncalled_goes_follows : Follows g (without_procedure g gone)
  uncalled_goes_follows = renumbered_follows g (without_procedure g gone) (lowered gone) rules fewer

  pub uncalled_goes_live : (n place q : ℕ) → place ≤ size_of (items_of g n) → IsLive (without_procedure g gone) q (place_lines (without_procedure g gone) n place) → IsLive g q (place_lines g n place)
  uncalled_goes_live n place q l live = renumbered_live g (without_procedure g gone) (lowered gone) rules fewer n place q l live

  pub uncalled_goes_sound : IsSound g → IsSound (without_procedure g gone)
  uncalled_goes_sound sound = renumbered_sound g (without_procedure g gone) (lowered gone) rules fewer sound (sound_were g (without_procedure g gone) (lowered gone) left sound)

-- an item of a block's piece is one of the block
piece_in : (items : List Item) (at n : ℕ) (item : Item) → Contains (slice_range items at (at + n)) item → Contains items item
piece_in items at n item c = drop_in items at item (take_in (drop at items) n item (subst (λ is. Contains is item) (range_is items at n) c))

module _ (g : Graph) (block at length link : ℕ) (rules : IsGraph g) where
  abbrev new : Procedure
  new = record { link = link; body = slice_range (items_of g block) at (at + length) }

  abbrev oh : Graph
  oh = outlined g block at length link

  same_blocks : (bs : List Block) → bs ≡ map (recalled_block own) bs
  same_blocks [] = refl
  same_blocks (b ∷ bs) = ap (λ c. c ∷ bs) (sym (own_called_block b)) ∙ ap (λ cs. recalled_block own b ∷ cs) (same_blocks bs)

  -- the items of a block are those of a block that is there
  block_lowers : (o : Option Block) → value_of (named g.blocks) block ≡ o → (m : ℕ) → Contains (flat_map lower_names (slice_range (block_items o) at (at + length))) m → Contains (code_targets g) m
  block_lowers None e m c =
      let o = flat_from lower_names (slice_range [] at (at + length)) m c in
      absurd (let d = piece_in [] at length o.0 o.1.0 in let l : d.0 < 0 = d.1 in omega arith)
  block_lowers (Some b) e m c =
      let o = flat_from lower_names (slice_range b.items at (at + length)) m c in
      let spot = located g.blocks block (subst IsSome (sym e) refl) in
      let found = subst (λ k. value_of (named g.blocks) k ≡ Some spot.block) spot.has_name (block_at g rules spot.front spot.block spot.back (sym spot.whole)) in
      let same : spot.block ≡ b = same_some spot.block b (sym found ∙ e) in
      let there : Contains g.blocks b = subst (λ w. Contains g.blocks w) same (stands_at g rules spot.front spot.block spot.back (sym spot.whole)) in
      block_target g b m there (flat_contains lower_names b.items o.0 m (piece_in b.items at length o.0 o.1.0) o.1.1)

  more_lowers : (p : Procedure) (m : ℕ) → Contains (g.procedures ++ new ∷ []) p → Contains (flat_map lower_names p.body) m → Contains (code_targets g) m
  more_lowers p m c d =
      elim (Contains-append_cases g.procedures (new ∷ []) p c) [
        | inl old ↦ procedure_target g p m old d
        | inr last ↦ block_lowers (value_of (named g.blocks) block) refl m (subst (λ (w : Procedure). Contains (flat_map lower_names w.body) m) (sym (only last)) d)
      ]
    where
      only : Contains (new ∷ []) p → new ≡ p
      only (zero, l, e) = e
      only (suc i, l, e) = absurd (omega arith)

  more : IsRenumbered g oh own
  more = record {
    blocks = same_blocks g.blocks;
    entry = refl;
    words = refl;
    called = λ q p c e. still_there g.procedures (new ∷ []) q p e ∙ ap Some (sym (own_called_procedure p));
    lowers = more_lowers;
  }

  pub outline_sound : IsSoundBody new → IsSound g → IsSound oh
  outline_sound fits sound =
      renumbered_sound g oh own rules more sound (All-append IsSoundBody g.procedures (new ∷ []) sound.bodies (All-cons IsSoundBody new [] fits (All-nil IsSoundBody)))

  pub outline_live : (n place r : ℕ) → place ≤ size_of (items_of g n) → IsLive oh r (place_lines oh n place) → IsLive g r (place_lines g n place)
  outline_live n place r l live = renumbered_live g oh own rules more n place r l live
