-- Changes in which items, terms and procedures stay but for names: what is asked of blocks that are carried over.
use Rattle.std.proofs.Common.{◌≡◌, ℕ, List, [], ◌∷◌, ◌++◌, Some, map, slice_get, refl, sym, ap, ◌∙◌, subst}
use Rattle.std.proofs.lemmas.List.Elements.{All-map, All-weaker}
use Rattle.std.specs.List.{All, Contains, flat_map}
use Rattle.sq_arena.specs.Entries.{value_of, HasDistinctKeys}
use Rattle.sq_graph.specs.declared.item.Item.{Item}
use Rattle.sq_graph.specs.declared.item.Item.TheVariants.{Op, Hi, Lo, Out}
use Rattle.sq_graph.specs.declared.item.Term.{Term}
use Rattle.std.proofs.Common.{Option, None, IsSome}
use Rattle.sq_graph.specs.Blocks.{block_items, block_term}
use Rattle.sq_graph.specs.Graph.{Block, Procedure, Graph}
use Rattle.sq_graph.specs.Blocks.{named, HasProcedure}
use Rattle.sq_graph.specs.Uses.{uses}
use Rattle.sq_graph.specs.Rules.{IsGraph}
use Rattle.sq_graph.specs.Renames.{retargeted_procedure, retargeted_words, retargeted_block, recalled_items, recalled_block, recalled_procedure}
use Rattle.sq_graph.specs.Walks.{lower_names, word_name, code_targets}
use Rattle.sq_graph.specs.Soundness.{IsSoundBody, IsSound}
use Rattle.law_patch.specs.Changes.{Change}
use Rattle.law_patch.proofs.LiveTargets.{word_target}
use Rattle.law_patch.proofs.Places.{absent_from, found_at}
use Rattle.law_patch.proofs.Changing.{in_tail}
use Rattle.law_patch.proofs.Moving.{term_use, other_names, procedure_moved}
use Rattle.law_patch.proofs.Dying.{lowers-moved, body-moved}
use Rattle.law_patch.proofs.Carrying.{CallGoes, ItemGoes, TermGoesOn, carried_block, carry_inside}
use Rattle.law_patch.proofs.Restricting.{own, flat_from, from_map_of, block_target, procedure_target}
use Rattle.law_patch.proofs.Used.{contains_first, flat_contains, from_slice, slice_there, item_called, block_item, body_calls_none}

-- under their own numbers the procedures that are called are the same
pub own_calls : (items : List Item) → recalled_items own items ≡ items
own_calls [] = refl
own_calls (Op insn ∷ items) = ap (λ is. Op insn ∷ is) (own_calls items)
own_calls (Hi rd to ∷ items) = ap (λ is. Hi rd to ∷ is) (own_calls items)
own_calls (Lo rd rs to ∷ items) = ap (λ is. Lo rd rs to ∷ is) (own_calls items)
own_calls (Out q ∷ items) = ap (λ is. Out q ∷ is) (own_calls items)

pub own_called_block : (b : Block) → recalled_block own b ≡ b
own_called_block b = ap (λ (is : List Item). record b { items = is }) (own_calls b.items)

pub own_called_procedure : (p : Procedure) → recalled_procedure own p ≡ p
own_called_procedure p = ap (λ (is : List Item). record p { body = is }) (own_calls p.body)

-- a block of which the term or an item is known is there
pub there_by_term : (o : Option Block) (t : Term) → block_term o ≡ Some t → IsSome o
there_by_term None t e = absurd (cc)
there_by_term (Some b) t e = refl

pub there_by_item : (o : Option Block) (at : ℕ) (item : Item) → slice_get (block_items o) at ≡ Some item → IsSome o
there_by_item None at item e = absurd (cc)
there_by_item (Some b) at item e = refl

-- a block of a graph, by its place
module _ (g : Graph) (rules : IsGraph g) where
  pub stands_at : (front : List Block) (x : Block) (bs : List Block) → front ++ (x ∷ bs) ≡ g.blocks → Contains g.blocks x
  stands_at front x bs e = subst (λ blocks. Contains blocks x) e (in_tail front (x ∷ bs) x (contains_first x bs))

  pub distinct_at : (front : List Block) (x : Block) (bs : List Block) → front ++ (x ∷ bs) ≡ g.blocks → HasDistinctKeys (named (front ++ (x ∷ bs)))
  distinct_at front x bs e = subst (λ blocks. HasDistinctKeys (named blocks)) (sym e) rules.distinct

  pub block_at : (front : List Block) (x : Block) (bs : List Block) → front ++ (x ∷ bs) ≡ g.blocks → value_of (named g.blocks) x.name ≡ Some x
  block_at front x bs e =
      subst (λ blocks. value_of (named blocks) x.name ≡ Some x) e (found_at front x bs (absent_from front x bs (distinct_at front x bs e)))

module _ (C : Change) (rules : IsGraph C.before) (holds : (n : ℕ) → Contains (code_targets C.before) n → C.MayHold n (C.renamed n)) (goes : (n : ℕ) → Contains (uses C.before) n → C.MayGo n (C.renamed n)) (same : C.after.procedures ≡ map (retargeted_procedure C.renamed) C.before.procedures) (words : C.after.code_words ≡ retargeted_words C.renamed C.before.code_words) where
  abbrev g : Graph
  g = C.before

  lower_held : (items : List Item) (rd rs to : ℕ) → Contains items (Lo rd rs to) → Contains (flat_map lower_names items) to
  lower_held items rd rs to c = flat_contains lower_names items (Lo rd rs to) to c (contains_first to [])

  pub body_goes : (p : Procedure) → Contains g.procedures p → (item : Item) → Contains p.body item → ItemGoes C own item
  body_goes p c (Op insn) d = tt
  body_goes p c (Hi rd to) d = tt
  body_goes p c (Lo rd rs to) d = holds to (procedure_target g p to c (lower_held p.body rd rs to d))
  body_goes p c (Out r) d = absurd (let n : r ∷ [] ≡ [] = body_calls_none g rules p (Out r) c d in cc)

  call_goes : (q : ℕ) → HasProcedure g q → CallGoes C own q
  call_goes q l =
      let o = slice_there g.procedures q l in
      record {
        procedure = o.0;
        before = o.1;
        after = ap (λ ps. slice_get ps q) same ∙ procedure_moved C.renamed g.procedures q o.0 o.1 ∙ ap Some (sym (own_called_procedure (retargeted_procedure C.renamed o.0)));
        body = carry_inside C own o.0 (body_goes o.0 (from_slice g.procedures q o.0 o.1));
      }

  pub items_go : (x : Block) → Contains g.blocks x → (item : Item) → Contains x.items item → ItemGoes C own item
  items_go x c (Op insn) d = tt
  items_go x c (Hi rd to) d = tt
  items_go x c (Lo rd rs to) d = holds to (block_target g x to c (lower_held x.items rd rs to d))
  items_go x c (Out q) d = call_goes q (item_called g rules (Out q) q (block_item g rules x (Out q) c d) (contains_first q []))

  pub term_goes : (x : Block) → Contains g.blocks x → TermGoesOn C own x.term
  term_goes x c n d = goes n (term_use g x n c d)

  pub carried_is : (x : Block) → carried_block C own x ≡ retargeted_block C.renamed x
  carried_is x = own_called_block (retargeted_block C.renamed x)

  abbrev Held : ℕ → Type 0
  Held m = (n : ℕ) × C.MayHold n m

  pub words_held : (m : ℕ) → Contains (map word_name C.after.code_words) m → Held m
  words_held m c =
      let o = from_map_of C.renamed (map word_name g.code_words) m (subst (λ ns. Contains ns m) (ap (λ ws. map word_name ws) words ∙ other_names C.renamed g.code_words) c) in
      (o.0, subst (λ k. C.MayHold o.0 k) (sym o.1.1) (holds o.0 (word_target g o.0 o.1.0)))

  pub bodies_held : (m : ℕ) → Contains (flat_map (λ (p : Procedure). flat_map lower_names p.body) C.after.procedures) m → Held m
  bodies_held m c =
      let o = flat_from (λ (p : Procedure). flat_map lower_names p.body) C.after.procedures m c in
      let p = from_map_of (retargeted_procedure C.renamed) g.procedures o.0 (subst (λ ps. Contains ps o.0) same o.1.0) in
      let d : Contains (map C.renamed (flat_map lower_names p.0.body)) m =
      subst (λ ns. Contains ns m) (lowers-moved C.renamed p.0.body) (subst (λ (w : Procedure). Contains (flat_map lower_names w.body) m) p.1.1 o.1.1) in
      let n = from_map_of C.renamed (flat_map lower_names p.0.body) m d in
      (n.0, subst (λ k. C.MayHold n.0 k) (sym n.1.1) (holds n.0 (procedure_target g p.0 n.0 p.1.0 n.1.0)))

  pub procedures_sound : IsSound g → All IsSoundBody C.after.procedures
  procedures_sound sound =
      subst (λ (ps : List Procedure). All IsSoundBody ps) (sym same)
      (All-map IsSoundBody (retargeted_procedure C.renamed) g.procedures (All-weaker IsSoundBody (λ p. IsSoundBody (retargeted_procedure C.renamed p)) (λ p body. body-moved C.renamed p body) g.procedures sound.bodies))
