-- What the fields show once blocks have given their uses to those that their terms name.
use Rattle.std.proofs.Common.{◌≡◌, ℕ, ◌+◌, ◌<◌, ◌^◌, List, [], ◌∷◌, ◌++◌, vec_capacity, Vec, Global, Option, refl, ap, ◌∙◌, arith}
use mathlib.Core.Path.{fun_ext}
use Rattle.std.specs.List.{All}
use Rattle.sq_arena.specs.Arena.{Arena as Listed}
use Rattle.sq_arena.specs.Entries.{HasDistinctKeys, ContainsKey, first_key}
use Rattle.sq_graph.specs.declared.item.Item.{Item}
use Rattle.sq_graph.specs.declared.parts.CodeRef.{CodeRef}
use Rattle.sq_graph.specs.declared.slot.Slot.{Slot}
use Rattle.sq_graph.specs.declared.graph.Graph.TheInside.{Inside}
use Rattle.sq_graph.specs.Blocks.{HasBlock}
use Rattle.sq_graph.specs.Uses.{code_word_uses, terms_uses, items_uses}
use Rattle.sq_graph.specs.Rules.{IsGraph}
use Rattle.sq_graph.specs.Renames.{retargeted_term, retargeted_item, retargeted_items, retargeted_words}
use Rattle.sq_graph.specs.Redirected.{goes_to, redirected_each}
use Rattle.sq_graph.specs.Aims.{homed, target_or_start, aimed_each}
use Rattle.sq_graph.specs.Cursor.{ahead_of, rest_from, retargeted_slots, slot_uses, renumbered, length_of_slots}
use Rattle.sq_graph.specs.CanonicalSlots.{start_of}
use Rattle.sq_graph.specs.Layout.{graph_of}
use Rattle.sq_graph.proofs.Held.{Shows}
use Rattle.sq_graph.proofs.Tight.{IsTight}
use Rattle.sq_graph.proofs.SlotReads.{has_slot}
use Rattle.sq_graph.proofs.Changes.{distinct_slots}
use Rattle.sq_graph.proofs.MapWrites.{mapped_shows}
use Rattle.sq_graph.proofs.Numbering.{renumbered_from_first}
use Rattle.sq_graph.proofs.MoveShows.{slots_numbered, slots_fit}
use Rattle.sq_graph.proofs.SlotPasses.{start_of-retargeted}
use Rattle.sq_graph.proofs.BlockPasses.{keys-retargeted}
use Rattle.sq_graph.proofs.Restarting.{slot_uses-slots, distinct-restarted, contains-restarted, slot_uses-restarted, length_of_slots-restarted, length_of_slots-retargeted, renumbered-restarted, renumbered-retargeted, starts_aimed}
use Rattle.sq_graph.proofs.CanonicalShows.{length_from_first}
use Rattle.sq_graph.proofs.Aiming as aiming

module _ (old : Inside) (blocks : List ℕ) (tight : IsTight old) where
  abbrev home : ℕ → Slot → ℕ
  home name slot = name

  -- the slots once their starts say where the uses go, and once the terms go there
  abbrev pub aims : List (ℕ × Slot)
  aims = aimed_each blocks (homed old.slots.entries)

  abbrev pub went : List (ℕ × Slot)
  went = retargeted_slots (start_of aims) aims

  abbrev goes : ℕ → ℕ
  goes = goes_to (graph_of old) blocks

  there : (name : ℕ) → HasBlock (graph_of old) name → ContainsKey aims name
  there name has = contains-restarted (target_or_start blocks) (homed old.slots.entries) name ∙ contains-restarted home old.slots.entries name ∙ has_slot old name tight.sound has

  same_uses : slot_uses aims ≡ terms_uses (graph_of old).blocks
  same_uses =
      slot_uses-restarted (target_or_start blocks) (homed old.slots.entries)
      ∙ slot_uses-restarted home old.slots.entries
      ∙ ap slot_uses tight.holds.slots
      ∙ slot_uses-slots 0 (graph_of old).blocks

  pub distinct_homed : HasDistinctKeys (homed old.slots.entries)
  distinct_homed = distinct-restarted home old.slots.entries (distinct_slots old tight)

  pub distinct_aims : HasDistinctKeys aims
  distinct_aims = distinct-restarted (target_or_start blocks) (homed old.slots.entries) distinct_homed

  pub distinct_went : HasDistinctKeys went
  distinct_went = rw (keys-retargeted (start_of aims) aims) distinct_aims

  all_used : All (ContainsKey aims) (old.entry ∷ (code_word_uses old.code_words.items ++ (slot_uses aims ++ items_uses old.items.items)))
  all_used = aiming.all_used old tight aims there same_uses

  pub terms_known : All (ContainsKey aims) (slot_uses aims)
  terms_known = aiming.terms_known aims old.entry old.code_words.items old.items.items all_used

  pub items_known : All (ContainsKey went) (items_uses old.items.items)
  items_known = aiming.items_known aims old.entry old.code_words.items old.items.items all_used

  pub words_known : All (ContainsKey went) (code_word_uses old.code_words.items)
  words_known = aiming.words_known aims old.entry old.code_words.items old.items.items all_used

  pub entry_known : ContainsKey went old.entry
  entry_known = aiming.entry_known aims old.entry old.code_words.items old.items.items all_used

  starts_go : start_of aims ≡ goes
  starts_go =
      ap (λ es. start_of (aimed_each blocks (homed es))) tight.holds.slots ∙ fun_ext (starts_aimed blocks 0 (graph_of old).blocks)

  pub went_go : start_of went ≡ goes
  went_go = fun_ext (start_of-retargeted (start_of aims) [] aims) ∙ starts_go

  pub went_is : (one two three : List (ℕ × Slot)) → one ≡ homed old.slots.entries → two ≡ aimed_each blocks one → three ≡ retargeted_slots (start_of two) two → three ≡ went
  went_is one two three one_is two_is three_is =
      three_is ∙ ap (λ es. retargeted_slots (start_of es) es) (two_is ∙ ap (aimed_each blocks) one_is)

  pub went_fit : (terms : List (ℕ × Slot)) (head : Option ℕ) → terms ≡ went → head ≡ first_key terms → 0 + length_of_slots (rest_from terms head) < 2 ^ 32
  went_fit terms head terms_is head_is =
      omega (
        arith,
        length_from_first terms head head_is,
        ap length_of_slots terms_is,
        length_of_slots-retargeted (start_of aims) aims,
        length_of_slots-restarted (target_or_start blocks) (homed old.slots.entries),
        length_of_slots-restarted home old.slots.entries,
        slots_fit old tight,
      )

  -- only the terms are others
  numbered_is : renumbered 0 went ≡ retargeted_slots goes old.slots.entries
  numbered_is =
      renumbered-retargeted (start_of aims) 0 aims
      ∙ ap (retargeted_slots (start_of aims)) (renumbered-restarted (target_or_start blocks) 0 (homed old.slots.entries) ∙ renumbered-restarted home 0 old.slots.entries ∙ slots_numbered old tight)
      ∙ ap (λ h. retargeted_slots h old.slots.entries) starts_go

  pub redirect_shows : (entry : ℕ) (items : Vec Item Global) (words : Vec CodeRef Global) (slots : Listed Slot) (terms : List (ℕ × Slot)) (head : Option ℕ)
      → terms ≡ went → head ≡ first_key terms → slots.entries ≡ ahead_of terms head ++ renumbered 0 (rest_from terms head) → slots.spare ≡ old.slots.spare
      → items.items ≡ retargeted_items (start_of terms) old.items.items → vec_capacity items ≡ vec_capacity old.items
      → words.items ≡ retargeted_words (start_of terms) old.code_words.items → entry ≡ start_of terms old.entry
      → IsGraph (redirected_each blocks (graph_of old))
      → Shows (record old { slots = slots; items = items; entry = entry; code_words = words }) (redirected_each blocks (graph_of old))
  redirect_shows entry items words slots terms head terms_is head_is slots_is spare items_are capacity words_are entry_is rules =
      let f : start_of terms ≡ goes = ap start_of terms_is ∙ went_go in
      mapped_shows (retargeted_item goes) (retargeted_term goes) old (record old { slots = slots; items = items; entry = entry; code_words = words }) (redirected_each blocks (graph_of old)) tight
      (slots_is ∙ renumbered_from_first terms head head_is ∙ ap (renumbered 0) terms_is ∙ numbered_is)
      spare
      (items_are ∙ ap (λ h. retargeted_items h old.items.items) f)
      capacity refl refl refl refl refl refl refl refl
      (entry_is ∙ ap (λ h. h old.entry) f)
      (words_are ∙ ap (λ h. retargeted_words h old.code_words.items) f)
      rules
