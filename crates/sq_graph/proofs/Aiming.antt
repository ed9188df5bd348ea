-- Slots whose starts say where the uses of names go.
use Rattle.std.proofs.Common.{◌≡◌, ℕ, List, [], ◌∷◌, ◌++◌, sym, ap, ◌∙◌, subst}
use Rattle.std.specs.List.{All}
use Rattle.std.proofs.lemmas.List.Elements.{All-head, All-tail, All-weaker}
use Rattle.sq_arena.specs.Entries.{ContainsKey}
use Rattle.sq_graph.specs.declared.item.Item.{Item}
use Rattle.sq_graph.specs.declared.parts.CodeRef.{CodeRef}
use Rattle.sq_graph.specs.declared.slot.Slot.{Slot}
use Rattle.sq_graph.specs.declared.graph.Graph.TheInside.{Inside}
use Rattle.sq_graph.specs.Blocks.{HasBlock, all_items}
use Rattle.sq_graph.specs.Uses.{code_word_uses, terms_uses, items_uses, uses}
use Rattle.sq_graph.specs.Cursor.{retargeted_slots, slot_uses}
use Rattle.sq_graph.specs.CanonicalSlots.{start_of}
use Rattle.sq_graph.specs.Layout.{graph_of}
use Rattle.sq_graph.proofs.Tight.{IsTight}
use Rattle.sq_graph.proofs.Eachs.{All-left, All-right}
use Rattle.sq_graph.proofs.SlotPasses.{contains-retargeted}

-- every name that is used has a slot
pub all_used : (old : Inside) → IsTight old → (aims : List (ℕ × Slot)) → ((name : ℕ) → HasBlock (graph_of old) name → ContainsKey aims name) → slot_uses aims ≡ terms_uses (graph_of old).blocks
    → All (ContainsKey aims) (old.entry ∷ (code_word_uses old.code_words.items ++ (slot_uses aims ++ items_uses old.items.items)))
all_used old tight aims there same =
    let g = graph_of old in
    let W = code_word_uses old.code_words.items in
    subst (λ us. All (ContainsKey aims) (old.entry ∷ (W ++ us)))
    (ap (λ us. us ++ items_uses (all_items g)) (sym same) ∙ ap (λ (is : List Item). slot_uses aims ++ items_uses is) (sym tight.holds.items))
    (All-weaker (HasBlock g) (ContainsKey aims) there (uses g) tight.rules.named_all)

-- and still has it once the terms go where the starts say
module _ (aims : List (ℕ × Slot)) (entry : ℕ) (words : List CodeRef) (items : List Item) (used : All (ContainsKey aims) (entry ∷ (code_word_uses words ++ (slot_uses aims ++ items_uses items)))) where
  more_used : All (ContainsKey aims) (code_word_uses words ++ (slot_uses aims ++ items_uses items))
  more_used = All-tail (ContainsKey aims) entry (code_word_uses words ++ (slot_uses aims ++ items_uses items)) used

  rest_used : All (ContainsKey aims) (slot_uses aims ++ items_uses items)
  rest_used = All-right (ContainsKey aims) (code_word_uses words) (slot_uses aims ++ items_uses items) more_used

  pub terms_known : All (ContainsKey aims) (slot_uses aims)
  terms_known = All-left (ContainsKey aims) (slot_uses aims) (items_uses items) rest_used

  abbrev went : List (ℕ × Slot)
  went = retargeted_slots (start_of aims) aims

  still_there : (name : ℕ) → ContainsKey aims name → ContainsKey went name
  still_there = contains-retargeted (start_of aims) [] aims

  pub items_known : All (ContainsKey went) (items_uses items)
  items_known =
      All-weaker (ContainsKey aims) (ContainsKey went) still_there (items_uses items)
      (All-right (ContainsKey aims) (slot_uses aims) (items_uses items) rest_used)

  pub words_known : All (ContainsKey went) (code_word_uses words)
  words_known =
      All-weaker (ContainsKey aims) (ContainsKey went) still_there (code_word_uses words)
      (All-left (ContainsKey aims) (code_word_uses words) (slot_uses aims ++ items_uses items) more_used)

  pub entry_known : ContainsKey went entry
  entry_known =
      still_there entry (All-head (ContainsKey aims) entry (code_word_uses words ++ (slot_uses aims ++ items_uses items)) used)
