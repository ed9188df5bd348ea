-- A list of blocks in which the block of a name is replaced by a list of blocks.
use Rattle.std.proofs.Common.{◌≡◌, ℕ, ◌+◌, ◌==◌, List, [], ◌∷◌, ◌++◌, length, None, Some, refl, sym, ap, ◌∙◌, inl, inr, arith}
use Rattle.std.proofs.lemmas.Bool.{cases_Bool, eq-eqb}
use Rattle.sq_arena.specs.Entries.{keys, HasDistinctKeys, value_of, before, behind}
use Rattle.sq_arena.proofs.EntriesLaws.{before-append, behind-append}
use Rattle.sq_graph.specs.declared.slot.Slot.{Slot}
use Rattle.sq_graph.specs.declared.graph.Graph.TheInside.{Inside}
use Rattle.sq_graph.specs.Graph.{Block}
use Rattle.sq_graph.specs.Blocks.{named, items_of_blocks}
use Rattle.sq_graph.specs.Operations.{with_blocks}
use Rattle.sq_graph.specs.Slots.{slot_of, slots_from}
use Rattle.sq_graph.specs.Layout.{graph_of}
use Rattle.sq_graph.proofs.Located.{IsAt, items_of_blocks-append, slots_from-append, value_of-slots-none, value_of-at}
use Rattle.sq_graph.proofs.Tight.{IsTight}

pub keys-slots : (n : ℕ) (bs : List Block) → keys (slots_from n bs) ≡ keys (named bs)
keys-slots n [] = refl
keys-slots n (b ∷ rest) = ap (λ ks. b.name ∷ ks) (keys-slots (n + length b.items) rest)

pub distinct_slots : (inside : Inside) → IsTight inside → HasDistinctKeys inside.slots.entries
distinct_slots inside tight =
    let same : keys inside.slots.entries ≡ keys (named (graph_of inside).blocks) = ap (λ es. keys es) tight.holds.slots ∙ keys-slots 0 (graph_of inside).blocks in
    rw same tight.rules.distinct

with_blocks-front : (f : Block → List Block) (front : List Block) (b : Block) (back : List Block) (name : ℕ) → b.name ≡ name → value_of (named front) name ≡ None → with_blocks f (front ++ b ∷ back) name ≡ front ++ (f b ++ back)
with_blocks-front f [] b back name is ahead = rw (eq-eqb b.name name is)
with_blocks-front f (x ∷ front) b back name is ahead =
    elim (cases_Bool (x.name == name)) [
      | inl here ↦ absurd (cc (rw here at ahead))
      | inr apart ↦ rw apart (ap (λ bs. x ∷ bs) (with_blocks-front f front b back name is (rw apart at ahead)))
    ]

pub with_blocks-at : (f : Block → List Block) (blocks : List Block) (name : ℕ) (at : IsAt blocks name) → with_blocks f blocks name ≡ at.front ++ (f at.block ++ at.back)
with_blocks-at f blocks name at =
    ap (λ bs. with_blocks f bs name) at.whole ∙ with_blocks-front f at.front at.block at.back name at.has_name at.ahead

-- where the block starts
abbrev pub start_at : (blocks : List Block) (name : ℕ) → IsAt blocks name → ℕ
start_at blocks name at = length (items_of_blocks at.front)

pub slots_from-changed : (f : Block → List Block) (blocks : List Block) (name : ℕ) (at : IsAt blocks name) → slots_from 0 (with_blocks f blocks name) ≡ slots_from 0 at.front ++ (slots_from (start_at blocks name at) (f at.block) ++ slots_from (start_at blocks name at + length (items_of_blocks (f at.block))) at.back)
slots_from-changed f blocks name at =
    let zero_left : 0 + start_at blocks name at ≡ start_at blocks name at = omega arith in
    ap (slots_from 0) (with_blocks-at f blocks name at)
    ∙ slots_from-append 0 at.front (f at.block ++ at.back)
    ∙ ap (λ n. slots_from 0 at.front ++ slots_from n (f at.block ++ at.back)) zero_left
    ∙ ap (λ es. slots_from 0 at.front ++ es) (slots_from-append (start_at blocks name at) (f at.block) at.back)

pub items_of_blocks-changed : (f : Block → List Block) (blocks : List Block) (name : ℕ) (at : IsAt blocks name) → items_of_blocks (with_blocks f blocks name) ≡ items_of_blocks at.front ++ (items_of_blocks (f at.block) ++ items_of_blocks at.back)
items_of_blocks-changed f blocks name at =
    ap items_of_blocks (with_blocks-at f blocks name at)
    ∙ items_of_blocks-append at.front (f at.block ++ at.back)
    ∙ ap (λ is. items_of_blocks at.front ++ is) (items_of_blocks-append (f at.block) at.back)

pub items_of_blocks-kept : (f : Block → List Block) (blocks : List Block) (name : ℕ) (at : IsAt blocks name) → items_of_blocks (f at.block) ≡ at.block.items → items_of_blocks (with_blocks f blocks name) ≡ items_of_blocks blocks
items_of_blocks-kept f blocks name at same =
    items_of_blocks-changed f blocks name at
    ∙ ap (λ is. items_of_blocks at.front ++ (is ++ items_of_blocks at.back)) same
    ∙ sym (ap items_of_blocks at.whole ∙ items_of_blocks-append at.front (at.block ∷ at.back))

-- the pairs of the arena around those of a block
pub record IsAround (entries : List (ℕ × Slot)) (blocks : List Block) (name : ℕ) (at : IsAt blocks name) : Type 0 where
  pub slot : value_of entries name ≡ Some (slot_of (start_at blocks name at) at.block)
  pub front : before entries name ≡ slots_from 0 at.front
  pub back : behind entries name ≡ slots_from (start_at blocks name at + length at.block.items) at.back

pub around : (entries : List (ℕ × Slot)) (blocks : List Block) (name : ℕ) (at : IsAt blocks name) → entries ≡ slots_from 0 blocks → IsAround entries blocks name at
around entries blocks name at is =
    let m = start_at blocks name at in
    let zero_left : 0 + start_at blocks name at ≡ start_at blocks name at = omega arith in
    let whole : entries ≡ slots_from 0 at.front ++ (name, slot_of (start_at blocks name at) at.block) ∷ slots_from (start_at blocks name at + length at.block.items) at.back =
    is ∙ ap (slots_from 0) at.whole ∙ slots_from-append 0 at.front (at.block ∷ at.back)
    ∙ ap (λ n. slots_from 0 at.front ++ slots_from n (at.block ∷ at.back)) zero_left
    ∙ ap (λ k. slots_from 0 at.front ++ (k, slot_of (start_at blocks name at) at.block) ∷ slots_from (start_at blocks name at + length at.block.items) at.back) at.has_name in
    let absent = value_of-slots-none 0 at.front name at.ahead in
    record {
      slot = rw whole (value_of-at (slots_from 0 at.front) (slots_from (m + length at.block.items) at.back) name (slot_of m at.block) absent);
      front = rw whole (before-append (slots_from 0 at.front) (slots_from (m + length at.block.items) at.back) name (slot_of m at.block) absent);
      back = rw whole (behind-append (slots_from 0 at.front) (slots_from (m + length at.block.items) at.back) name (slot_of m at.block) absent);
    }
