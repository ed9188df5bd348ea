-- Items, terms and blocks that a change carries over: under its other names, and with other numbers of procedures.
use Rattle.std.proofs.Common.{◌≡◌, ℕ, Bool, true, false, List, [], ◌∷◌, ◌++◌, Option, Some, None, pos, map, slice_get, refl, sym, ap, ◌∙◌, subst}
use Rattle.std.specs.List.{Contains}
use Rattle.sq_isa.specs.Forms.{first_of, second_of, with_registers}
use Rattle.sq_isa.specs.Uses.{sources_of, destination_of}
use Rattle.sq_isa.specs.declared.instructions.Insn.{Insn}
use Rattle.sq_isa.specs.declared.instructions.Insn.TheVariants.{Lui, OpImm}
use Rattle.sq_isa.specs.declared.instructions.ImmOp.TheVariants.{Addi}
use Rattle.sq_graph.specs.declared.item.Item.{Item}
use Rattle.sq_graph.specs.declared.item.Item.TheVariants.{Op, Hi, Lo, Out}
use Rattle.sq_graph.specs.declared.item.Term.{Term}
use Rattle.sq_graph.specs.declared.item.Term.TheVariants.{Fall, Jump, Branch, Call, PartJump, Indirect, Stop}
use Rattle.sq_graph.specs.Graph.{Block, Procedure}
use Rattle.sq_graph.specs.Terms.{links}
use Rattle.sq_graph.specs.Uses.{term_uses}
use Rattle.sq_graph.specs.Renames.{retargeted_items, retargeted_term, retargeted_block, retargeted_procedure, recalled_items, recalled_block, recalled_procedure}
use Rattle.sq_graph.specs.Lines.{AddressHalf, Plain, Upper, Lower, Line, Do, Enter, Return, inside, line_of, term_lines, body_lines, slot_name}
use Rattle.sq_graph.specs.Walks.{IsLive, is_register}
use Rattle.sq_graph.specs.Soundness.{LinksDieIn}
use Rattle.law_patch.specs.Registers.{AreSources}
use Rattle.law_patch.specs.Changes.{Change, IsNamedHalf, SameSlot, falls, Alike, both_do, both_enter, both_return, both_end, guarded}
use Rattle.law_patch.proofs.LiveSteps.{own_registers, own_sources}
use Rattle.law_patch.proofs.Shrink.{IsBacked}
use Rattle.law_patch.proofs.Used.{contains_first, contains_later}

pub same_some : {X : Type 0} (a b : X) → Some a ≡ Some b → a ≡ b
same_some a b e = cc

module _ (C : Change) (number : ℕ → ℕ) where
  abbrev pub carried_items : List Item → List Item
  carried_items items = recalled_items number (retargeted_items C.renamed items)

  abbrev pub carried_block : Block → Block
  carried_block b = recalled_block number (retargeted_block C.renamed b)

  abbrev pub carried_procedure : Procedure → Procedure
  carried_procedure p = recalled_procedure number (retargeted_procedure C.renamed p)

  pub lift : {b : Bool} {xs ys : List Line} → Alike C b None xs ys → Alike C true None xs ys
  lift {b = true} p = p
  lift {b = false} p = guarded p

  carry_do : {b : Bool} {xs ys : List Line} (half half' : AddressHalf) (insn : Insn) → IsNamedHalf C half half' insn → Alike C true None xs ys → Alike C b None (Do half insn ∷ xs) (Do half' insn ∷ ys)
  carry_do {b = b} {xs = xs} {ys = ys} half half' insn named p =
      let own = own_registers insn in
      let P : ℕ → ℕ → Type 0 = λ r s. s ≡ r in
      let made : Alike C b None (Do half insn ∷ xs) (Do half' (with_registers (destination_of insn) (first_of insn) (second_of insn) insn) ∷ ys) =
      both_do {m = None} {m' = None} insn (destination_of insn) (first_of insn) (second_of insn) named
      (subst (λ other. AreSources P (sources_of insn) (sources_of other)) (sym own) (own_sources P (sources_of insn) (λ r e. refl)))
      (λ r s x n. (ap (λ d. is_register (destination_of d) s) own ∙ ap (is_register (destination_of insn)) n, λ e. n)) p in
      subst (λ other. Alike C b None (Do half insn ∷ xs) (Do half' other ∷ ys)) own made

  -- what holds of each of these items
  abbrev pub AreOf : (Item → Type 0) → List Item → Type 0
  AreOf Q items = (item : Item) → Contains items item → Q item

  pub later_items : (Q : Item → Type 0) (item : Item) (items : List Item) → AreOf Q (item ∷ items) → AreOf Q items
  later_items Q item items each i c = each i (contains_later item i items c)

  -- a procedure that is called has the same body, under its other number
  pub record CallGoes (q : ℕ) : Type 0 where
    pub procedure : Procedure
    pub before : slice_get C.before.procedures q ≡ Some procedure
    pub after : slice_get C.after.procedures (number q) ≡ Some (carried_procedure procedure)
    pub body : (xs ys : List Line) → Alike C true None xs ys → Alike C true None (inside procedure xs) (inside (carried_procedure procedure) ys)

  -- the address that an item makes may be held for the other
  abbrev pub ItemGoes : Item → Type 0
  ItemGoes (Op insn) = Unit {0}
  ItemGoes (Hi rd to) = Unit {0}
  ItemGoes (Lo rd rs to) = C.MayHold to (C.renamed to)
  ItemGoes (Out q) = CallGoes q

  carry_enter : {b : Bool} {xs ys : List Line} (q : ℕ) → CallGoes q → Alike C true None xs ys → Alike C b None (Enter q ∷ xs) (Enter (number q) ∷ ys)
  carry_enter {xs = xs} {ys = ys} q t p =
      both_enter {m = None} {m' = None} t.procedure (carried_procedure t.procedure) t.before t.after
      (λ r s x n. (ap (is_register t.procedure.link) n, λ e. n)) (t.body xs ys p)

  pub carry_items : {b : Bool} (items : List Item) (xs ys : List Line) → AreOf ItemGoes items → Alike C b None xs ys → Alike C b None (map line_of items ++ xs) (map line_of (carried_items items) ++ ys)
  carry_items [] xs ys each p = p
  carry_items (Op insn ∷ items) xs ys each p = carry_do Plain Plain insn tt (carry_items items xs ys (later_items ItemGoes (Op insn) items each) (lift p))
  carry_items (Hi rd to ∷ items) xs ys each p = carry_do (Upper to None) (Upper (C.renamed to) None) (Lui rd 0) refl (carry_items items xs ys (later_items ItemGoes (Hi rd to) items each) (lift p))
  carry_items (Lo rd rs to ∷ items) xs ys each p =
      carry_do (Lower to) (Lower (C.renamed to)) (OpImm Addi rd rs (pos 0)) (refl, each (Lo rd rs to) (contains_first (Lo rd rs to) items)) (carry_items items xs ys (later_items ItemGoes (Lo rd rs to) items each) (lift p))
  carry_items (Out q ∷ items) xs ys each p = carry_enter q (each (Out q) (contains_first (Out q) items)) (carry_items items xs ys (later_items ItemGoes (Out q) items each) (lift p))

  -- behind the first of them both have taken a step
  pub carry_some : {b : Bool} (item : Item) (items : List Item) (xs ys : List Line) → AreOf ItemGoes (item ∷ items) → Alike C true None xs ys → Alike C b None (map line_of (item ∷ items) ++ xs) (map line_of (carried_items (item ∷ items)) ++ ys)
  carry_some (Op insn) items xs ys each p = carry_do Plain Plain insn tt (carry_items items xs ys (later_items ItemGoes (Op insn) items each) p)
  carry_some (Hi rd to) items xs ys each p = carry_do (Upper to None) (Upper (C.renamed to) None) (Lui rd 0) refl (carry_items items xs ys (later_items ItemGoes (Hi rd to) items each) p)
  carry_some (Lo rd rs to) items xs ys each p =
      carry_do (Lower to) (Lower (C.renamed to)) (OpImm Addi rd rs (pos 0)) (refl, each (Lo rd rs to) (contains_first (Lo rd rs to) items)) (carry_items items xs ys (later_items ItemGoes (Lo rd rs to) items each) p)
  carry_some (Out q) items xs ys each p = carry_enter q (each (Out q) (contains_first (Out q) items)) (carry_items items xs ys (later_items ItemGoes (Out q) items each) p)

  -- the two may go to the names of a term
  abbrev pub TermGoesOn : Term → Type 0
  TermGoesOn t = (n : ℕ) → Contains (term_uses t) n → C.MayGo n (C.renamed n)

  -- the next slots are both there or both not, and the one may be held for the other
  abbrev pub SlotGoes : Option ℕ → Option ℕ → Type 0
  SlotGoes None None = Unit {0}
  SlotGoes None (Some m) = ⊥
  SlotGoes (Some n) None = ⊥
  SlotGoes (Some n) (Some m) = C.MayHold n m

  pub slot_same : (o p : Option ℕ) → SlotGoes o p → SameSlot C.MayHold o p
  slot_same None p s = tt
  slot_same (Some n) None s = absurd s
  slot_same (Some n) (Some m) s = s

  pub carry_term : {b : Bool} (t : Term) (xs ys : List Line) → TermGoesOn t → (links t ≡ true → SlotGoes (slot_name xs) (slot_name ys)) → (falls t ≡ true → Alike C b None xs ys) → Alike C b None (term_lines t xs) (term_lines (retargeted_term C.renamed t) ys)
  carry_term Fall xs ys u s p = p refl
  carry_term (Jump to) xs ys u s p = both_end (Jump to) C.renamed (u to (contains_first to [])) (λ e. lift (p e)) (λ l. slot_same (slot_name xs) (slot_name ys) (s l))
  carry_term (Branch cond x y to) xs ys u s p = both_end (Branch cond x y to) C.renamed (u to (contains_first to [])) (λ e. lift (p e)) (λ l. slot_same (slot_name xs) (slot_name ys) (s l))
  carry_term (Call link to) xs ys u s p = both_end (Call link to) C.renamed (u to (contains_first to [])) (λ e. lift (p e)) (λ l. slot_same (slot_name xs) (slot_name ys) (s l))
  carry_term (PartJump link part to) xs ys u s p = both_end (PartJump link part to) C.renamed (u to (contains_first to []), refl) (λ e. lift (p e)) (λ l. slot_same (slot_name xs) (slot_name ys) (s l))
  carry_term (Indirect link at offset) xs ys u s p = both_end (Indirect link at offset) C.renamed tt (λ e. lift (p e)) (λ l. slot_same (slot_name xs) (slot_name ys) (s l))
  carry_term (Stop word) xs ys u s p = both_end (Stop word) C.renamed tt (λ e. lift (p e)) (λ l. slot_same (slot_name xs) (slot_name ys) (s l))

  -- the body of a procedure, which calls nothing
  pub carry_inside : (p : Procedure) → AreOf ItemGoes p.body → (xs ys : List Line) → Alike C true None xs ys → Alike C true None (inside p xs) (inside (carried_procedure p) ys)
  carry_inside p each xs ys k = carry_items p.body (Return p.link ∷ xs) (Return p.link ∷ ys) each (both_return k)

  -- what is live at a place of the second graph is live where the first goes on like it
  abbrev pub Backs : Type 0
  Backs = (q : ℕ) (ys : List Line) → IsLive C.after q ys → IsBacked C q ys

  -- the link that was dead behind a call is dead
  call_dies : Backs → (q : ℕ) (xs ys : List Line) → CallGoes q → Alike C true None xs ys → ((p : Procedure) → slice_get C.before.procedures q ≡ Some p → ¬ IsLive C.before p.link xs) → (p : Procedure) → slice_get C.after.procedures (number q) ≡ Some p → ¬ IsLive C.after p.link ys
  call_dies backs q xs ys t k dead p e live =
      let same : p ≡ carried_procedure t.procedure = same_some p (carried_procedure t.procedure) (sym e ∙ t.after) in
      let link : p.link ≡ t.procedure.link = ap (λ (d : Procedure). d.link) same in
      let o = backs p.link ys live true None xs k in
      let is : p.link ≡ o.0 = o.1.0 in
      dead t.procedure t.before (subst (λ r. IsLive C.before r xs) (sym is ∙ link) o.1.1)

  pub items_die : Backs → (items : List Item) (xs ys : List Line) → AreOf ItemGoes items → Alike C true None xs ys → LinksDieIn C.before (map line_of items ++ xs) → LinksDieIn C.after ys → LinksDieIn C.after (map line_of (carried_items items) ++ ys)
  items_die backs [] xs ys each k die die' = die'
  items_die backs (Op insn ∷ items) xs ys each k die die' = items_die backs items xs ys (later_items ItemGoes (Op insn) items each) k die die'
  items_die backs (Hi rd to ∷ items) xs ys each k die die' = items_die backs items xs ys (later_items ItemGoes (Hi rd to) items each) k die die'
  items_die backs (Lo rd rs to ∷ items) xs ys each k die die' = items_die backs items xs ys (later_items ItemGoes (Lo rd rs to) items each) k die die'
  items_die backs (Out q ∷ items) xs ys each k die die' =
      let later = later_items ItemGoes (Out q) items each in (
        call_dies backs q (map line_of items ++ xs) (map line_of (carried_items items) ++ ys) (each (Out q) (contains_first (Out q) items)) (carry_items items xs ys later k) die.0,
        items_die backs items xs ys later k die.1 die',
      )

  -- what is asked of a block that stays, with these lines behind it on both sides
  pub record BlockGoes (x : Block) (xs ys : List Line) : Type 0 where
    pub items : AreOf ItemGoes x.items
    pub term : TermGoesOn x.term
    pub slot : links x.term ≡ true → SlotGoes (slot_name xs) (slot_name ys)

  pub carry_body : {b : Bool} (x : Block) (xs ys : List Line) → BlockGoes x xs ys → (falls x.term ≡ true → Alike C b None xs ys) → Alike C b None (body_lines x xs) (body_lines (carried_block x) ys)
  carry_body x xs ys go p = carry_items x.items (term_lines x.term xs) (term_lines (retargeted_term C.renamed x.term) ys) go.items (carry_term x.term xs ys go.term go.slot p)
