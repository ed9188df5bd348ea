-- Behind blocks that go on alike the same registers are live.
use Rattle.std.proofs.Common.{◌≡◌, ◌↔◌, ℕ, false, true, ◌⊎◌, inl, inr, ⊎_elim, List, [], ◌∷◌, ◌++◌, Option, Some, None, IsSome, map, drop, length, refl, sym, ap, ◌∙◌, subst}
use Rattle.sq_graph.specs.declared.item.Item.{Item}
use Rattle.sq_graph.specs.declared.item.Term.{Term}
use Rattle.sq_graph.specs.declared.item.Term.TheVariants.{Fall, Jump, Branch, Call, PartJump, Indirect, Stop}
use Rattle.sq_graph.specs.Graph.{Block, Graph}
use Rattle.sq_graph.specs.Blocks.{HasBlock, block_of, block_term, block_items, items_of, term_of, next_of}
use Rattle.sq_graph.specs.Lines.{Line, Name, End, line_of, term_lines, body_lines, block_lines, place_lines}
use Rattle.sq_graph.specs.Resolve.{jump_from, resolved_term_of}
use Rattle.sq_graph.specs.Rules.{IsGraph}
use Rattle.sq_graph.specs.Walks.{IsLive, read_here, live_behind, Goes, line_reads, line_writes}
use Rattle.law_patch.proofs.LiveSteps.{no_link}
use Rattle.law_patch.proofs.Detouring.{jump_lines}
use Rattle.law_patch.proofs.Leading.{slot_lines, leads, Hops, stop, hop}
use Rattle.law_patch.proofs.Shrink.{no_sources}
use Rattle.law_patch.proofs.Meeting.{SameLead, EndsMeet, both_fall, fall_jumps, jump_falls, both_jump, both_branch, both_call, both_part, both_indirect, both_stop, Joint}
use Rattle.law_patch.proofs.Merging.{joint_terms}

behind_all : (items : List Item) (rest : List Line) → drop (length items) (map line_of items ++ rest) ≡ rest
behind_all [] rest = refl
behind_all (item ∷ items) rest = behind_all items rest

block_there : (o : Option Block) → IsSome o → (b : Block) × (o ≡ Some b)
block_there None some = absurd (cc)
block_there (Some b) some = (b, refl)

module _ (g : Graph) (rules : IsGraph g) (r : ℕ) where
  abbrev Lives : List Line → Type 0
  Lives lines = IsLive g r lines

  abbrev LivesAt : ℕ → Type 0
  LivesAt n = Lives (block_lines g n)

  -- a live register is read by the first line, or is live where that leads and not written by it
  abbrev Ahead : List Line → Type 0
  Ahead [] = ⊥
  Ahead (line ∷ rest) = (line_reads line r ≡ true) ⊎ ((line_writes g.procedures line r ≡ false) × ((next : List Line) × (Goes g line rest next × Lives next)))

  ahead : {lines : List Line} → Lives lines → Ahead lines
  ahead (read_here e) = inl e
  ahead (live_behind {next = next} w go live) = inr (w, (next, (go, live)))

  behind_name : (n : ℕ) (rest : List Line) → Lives (Name n ∷ rest) → Lives rest
  behind_name n rest live = ⊎_elim (λ e. absurd (cc)) (λ o. subst Lives o.1.1.0 o.1.1.1) (ahead live)

  before_name : (n : ℕ) (rest : List Line) → Lives rest → Lives (Name n ∷ rest)
  before_name n rest live = live_behind {line = Name n} {rest = rest} {next = rest} refl refl live

  behind_jump : (to : ℕ) (rest : List Line) → Lives (End (Jump to) ∷ rest) → LivesAt to
  behind_jump to rest live = ⊎_elim (λ e. absurd (no_sources r e)) (λ o. subst Lives o.1.1.0 o.1.1.1) (ahead live)

  before_jump : (to : ℕ) (rest : List Line) → LivesAt to → Lives (End (Jump to) ∷ rest)
  before_jump to rest live = live_behind {line = End (Jump to)} {rest = rest} {next = block_lines g to} (no_link r) refl live

  over_hops : {n m : ℕ} → Hops g n m → LivesAt n ↔ LivesAt m
  over_hops stop = (λ live. live, λ live. live)
  over_hops (hop {n = n} {m = m} jumps later) =
      let lines = jump_lines g rules n m jumps in
      let rest = over_hops later in (
        λ live. rest.0 (behind_jump m lines.0 (subst Lives lines.1 live)),
        λ live. subst Lives (sym lines.1) (before_jump m lines.0 (rest.1 live)),
      )

  over_joint : (n m : ℕ) → Joint g n m → LivesAt n → LivesAt m
  over_joint n m j live = (over_hops j.1.1).1 ((over_hops j.1.0).0 live)

  over_slot : (s o : Option ℕ) → SameLead (Joint g) s o → Lives (slot_lines g.blocks s) → Lives (slot_lines g.blocks o)
  over_slot None None l live = live
  over_slot None (Some m) l live = absurd l
  over_slot (Some n) None l live = absurd l
  over_slot (Some n) (Some m) l live = before_name m (block_lines g m) (over_joint n m l (behind_name n (block_lines g n) live))

  -- a line that reads the same, and leads to the same
  over_line : (line other : Line) (rest more : List Line) → line_reads line r ≡ line_reads other r → line_writes g.procedures line r ≡ line_writes g.procedures other r → ((next : List Line) → Goes g line rest next → Lives next → (after : List Line) × (Goes g other more after × Lives after)) → Lives (line ∷ rest) → Lives (other ∷ more)
  over_line line other rest more reads writes go live =
      ⊎_elim
      (λ e. read_here {line = other} {rest = more} (sym reads ∙ e))
      (λ o. let after = go o.1.0 o.1.1.0 o.1.1.1 in live_behind {line = other} {rest = more} {next = after.0} (sym writes ∙ o.0) after.1.0 after.1.1)
      (ahead live)

  over_ends : {t u : Term} {s o : Option ℕ} → EndsMeet (Joint g) t u s o → Lives (term_lines t (slot_lines g.blocks s)) → Lives (term_lines u (slot_lines g.blocks o))
  over_ends (both_fall {s = s} {o = o} l) live = over_slot s o l live
  over_ends (fall_jumps {n = n} {m = m} {o = o} j) live = before_jump m (slot_lines g.blocks o) (over_joint n m j (behind_name n (block_lines g n) live))
  over_ends (jump_falls {n = n} {m = m} {s = s} j) live = before_name m (block_lines g m) (over_joint n m j (behind_jump n (slot_lines g.blocks s) live))
  over_ends (both_jump {n = n} {m = m} {s = s} {o = o} j) live = before_jump m (slot_lines g.blocks o) (over_joint n m j (behind_jump n (slot_lines g.blocks s) live))
  over_ends (both_branch {c = c} {a = a} {b = b} {n = n} {m = m} {s = s} {o = o} j l) live =
      over_line (End (Branch c a b n)) (End (Branch c a b m)) (slot_lines g.blocks s) (slot_lines g.blocks o) refl refl
      (λ next go there. ⊎_elim
      (λ e. (block_lines g m, (inl refl, over_joint n m j (subst Lives e there))))
      (λ e. (slot_lines g.blocks o, (inr refl, over_slot s o l (subst Lives e there))))
      go)
      live
  over_ends (both_call {l = l} {n = n} {m = m} {s = s} {o = o} j i) live =
      over_line (End (Call l n)) (End (Call l m)) (slot_lines g.blocks s) (slot_lines g.blocks o) refl refl
      (λ next go there. (block_lines g m, (refl, over_joint n m j (subst Lives go there))))
      live
  over_ends (both_part {l = l} {p = p} {n = n} {s = s} {o = o} i) live =
      over_line (End (PartJump l p n)) (End (PartJump l p n)) (slot_lines g.blocks s) (slot_lines g.blocks o) refl refl (λ next go there. (next, (go, there))) live
  over_ends (both_indirect {l = l} {a = a} {f = f} {s = s} {o = o} i) live =
      over_line (End (Indirect l a f)) (End (Indirect l a f)) (slot_lines g.blocks s) (slot_lines g.blocks o) refl refl (λ next go there. (next, (go, there))) live
  over_ends (both_stop {w = w} {s = s} {o = o}) live =
      over_line (End (Stop w)) (End (Stop w)) (slot_lines g.blocks s) (slot_lines g.blocks o) refl refl (λ next go there. absurd go) live

  -- what stands behind the items of a block
  behind_items : (n : ℕ) (b : Block) → block_of g n ≡ Some b → place_lines g n (length (items_of g n)) ≡ term_lines b.term (slot_lines g.blocks (next_of g n))
  behind_items n b found =
      ap (λ o. drop (length (block_items o)) (block_lines g n)) found
      ∙ ap (drop (length b.items)) (leads g.blocks n b rules.distinct found)
      ∙ behind_all b.items (term_lines b.term (slot_lines g.blocks (next_of g n)))

  pub lives_alike : (a b : ℕ) → HasBlock g a → HasBlock g b → resolved_term_of g a ≡ resolved_term_of g b → IsLive g r (place_lines g a (length (items_of g a))) → IsLive g r (place_lines g b (length (items_of g b)))
  lives_alike a b first second same live =
      let x = block_there (block_of g a) first in
      let y = block_there (block_of g b) second in
      subst Lives (sym (behind_items b y.0 y.1))
      (over_ends (joint_terms g a b same x.0.term y.0.term (ap block_term x.1) (ap block_term y.1)) (subst Lives (behind_items a x.0 x.1) live))
