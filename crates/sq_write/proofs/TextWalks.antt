-- The loops that append the words of blocks and of procedures.
use Rattle.std.proofs.Common.{◌≡◌, ℕ, zero, suc, ◌+◌, ◌*◌, ◌<◌, ◌≤◌, ◌^◌, ◌==◌, true, false, List, [], ◌∷◌, ◌++◌, length, drop, add-one, sum_by, Option, Some, None, IsSome, slice_get, refl, sym, ap, ◌∙◌, append_assoc, append-nil, arith}
use Rattle.std.specs.Option.{unwrap_or}
use Rattle.std.proofs.lemmas.Bool.{eq-eqb}
use Rattle.std.proofs.lemmas.List.Sums.{sum_by-cons}
use Rattle.sq_arena.specs.Entries.{value_of}
use Rattle.sq_graph.specs.declared.item.Item.{Item}
use Rattle.sq_graph.specs.Graph.{Block, Graph}
use Rattle.sq_graph.specs.Blocks.{named, first_of, next_of}
use Rattle.sq_graph.specs.Cursor.{IsPlace}
use Rattle.sq_graph.specs.Rules.{last_goes_on}
use Rattle.sq_graph.specs.Words.{block_words, procedure_words}
use Rattle.sq_graph.specs.Places.{address_in, procedure_addresses}
use Rattle.sq_layout.proofs.Counts.{stops_in_a_word, word_is_left, ProcedureHere}
use Rattle.sq_layout.proofs.Walks.{blocks_from, starts, Here, fresh}
use Rattle.sq_write.specs.Output.{words}
use Rattle.sq_write.specs.Written.{note_entries}
use Rattle.sq_write.specs.Points.{new_address, new_start, block_points, blocks_points, procedure_points, procedures_at, procedures_points}
use Rattle.sq_write.specs.Standing.{BlockStands, BlocksStand, ItemsStand, ProceduresStand, Appends}
use Rattle.sq_write.specs.declared.text_bytes.TextBytes.{TextBytes}
use Rattle.sq_write.proofs.Texts.{Leaves, leaves_all, leaves_none, leaves_less}

-- Blocks

-- at a place among the blocks: where its block stands, that the addresses of the blocks from it on count from there, and
-- what is left to append
pub record AtBlock (g : Graph) (lo : ℕ) (place : Option ℕ) (old now : TextBytes) : Type 0 where
  pub at : ℕ
  pub is_place : IsPlace (named g.blocks) place
  pub at_is : at + 4 * sum_by block_words (blocks_from g.blocks place) ≡ lo + 4 * sum_by block_words g.blocks
  pub address : (n : ℕ) → IsSome (value_of (named (blocks_from g.blocks place)) n) → address_in g.blocks lo n ≡ address_in (blocks_from g.blocks place) at n
  pub stand : BlocksStand g lo at (blocks_from g.blocks place)
  pub left : Leaves (blocks_points g lo at (blocks_from g.blocks place)) (blocks_points g lo lo g.blocks) old now

pub first_block : (g : Graph) (lo first : ℕ) (old : TextBytes) → first_of g ≡ Some first → BlocksStand g lo lo g.blocks → AtBlock g lo (Some first) old old
first_block g lo first old is stand =
    let start = rw is at (starts g.blocks) in
    record {
      at = lo;
      is_place = start.0;
      at_is = rw start.1 refl;
      address = λ n there. rw start.1 refl;
      stand = rw start.1 stand;
      left = rw start.1 (leaves_all (blocks_points g lo lo g.blocks) old);
    }

-- a term's word is still within the words of the blocks
pub room_for_term : (b : Block) (others : List Block) → last_goes_on (b ∷ others) ≡ false → length b.items + 1 ≤ sum_by block_words (b ∷ others)
room_for_term b [] ends = omega (arith, sum_by-cons block_words b [], stops_in_a_word b.term ends)
room_for_term b (next ∷ rest) ends = omega (arith, sum_by-cons block_words b (next ∷ rest), word_is_left next rest ends)

module _ (g : Graph) (lo : ℕ) (place : Option ℕ) (name : ℕ) (old now : TextBytes) (h : Here g place name) (w : AtBlock g lo place old now) where
  -- the block's address is the place's
  pub address_here : new_address g lo name ≡ w.at
  address_here =
      let here : (h.step.block.name == name) ≡ true = eq-eqb h.step.block.name name h.step.has_name in
      let there : IsSome (value_of (named (blocks_from g.blocks place)) name) = rw h.rest (rw here refl) in
      let is : address_in (blocks_from g.blocks place) w.at name ≡ Some w.at = rw h.rest (rw here refl) in
      ap (λ o. unwrap_or o 0) (w.address name there ∙ is)

  pub block_stands : BlockStands g lo w.at h.step.block
  block_stands = (rw h.rest at w.stand).0

  pub block_fits : lo + 4 * sum_by block_words g.blocks ≤ 2 ^ 32 → w.at + 4 * length h.step.block.items < 2 ^ 32
  block_fits fits =
      omega (arith, w.at_is, ap (sum_by block_words) h.rest, room_for_term h.step.block h.step.others h.ends)

  pub next_block : (next : TextBytes) (to : Option ℕ) → to ≡ next_of g name → Appends (block_points g lo w.at h.step.block) now next → AtBlock g lo to old next
  next_block next to is more =
      let others : blocks_from g.blocks to ≡ h.step.others = ap (blocks_from g.blocks) is ∙ h.step.next in
      let stand = rw h.rest at w.stand in
      let left = rw h.rest at w.left in
      record {
        at = w.at + 4 * block_words h.step.block;
        is_place = rw is h.step.there;
        at_is = rw others (omega (arith, w.at_is, h.words));
        address = λ n there.
            let there' = rw others at there in
            let apart = fresh h.step.block h.step.others n h.step.distinct there' in
            let known : IsSome (value_of (named (blocks_from g.blocks place)) n) = rw h.rest (rw apart there') in
            rw others (w.address n known ∙ rw h.rest (rw apart refl));
        stand = rw others stand.1;
        left = rw others (leaves_less (block_points g lo w.at h.step.block) (blocks_points g lo (w.at + 4 * block_words h.step.block) h.step.others) (blocks_points g lo lo g.blocks) old now next left more);
      }

pub last_block : (g : Graph) (lo : ℕ) (place : Option ℕ) (old now : TextBytes) → place ≡ None → AtBlock g lo place old now → Appends (blocks_points g lo lo g.blocks) old now
last_block g lo place old now is w = leaves_none (blocks_points g lo lo g.blocks) old now (rw is at w.left)

-- Procedures

-- where procedure k stands, where the addresses of the procedures from it on count from there
pub record PlaceOf (g : Graph) (lo k : ℕ) : Type 0 where
  pub at : ℕ
  pub at_is : at + 4 * sum_by procedure_words (drop k g.procedures) ≡ procedures_at g lo + 4 * sum_by procedure_words g.procedures
  pub addresses : drop k (procedure_addresses g.procedures (procedures_at g lo)) ≡ procedure_addresses (drop k g.procedures) at

abbrev pub first_place : (g : Graph) (lo : ℕ) → PlaceOf g lo 0
first_place g lo = record { at = procedures_at g lo; at_is = refl; addresses = refl }

slice_get-drop : {X : Type 0} (xs : List X) (k : ℕ) (y : X) (ys : List X) → drop k xs ≡ y ∷ ys → slice_get xs k ≡ Some y
slice_get-drop [] zero y ys e = absurd (cc)
slice_get-drop [] (suc k) y ys e = absurd (cc)
slice_get-drop (x ∷ xs) zero y ys e = cc
slice_get-drop (x ∷ xs) (suc k) y ys e = slice_get-drop xs k y ys e

pub drop-more : {X : Type 0} (xs : List X) (k : ℕ) (y : X) (ys : List X) → drop k xs ≡ y ∷ ys → drop (k + 1) xs ≡ ys
drop-more xs k y ys e = rw add-one (drop_suc xs k y ys e)
  where
    drop_suc : {X : Type 0} (xs : List X) (k : ℕ) (y : X) (ys : List X) → drop k xs ≡ y ∷ ys → drop (suc k) xs ≡ ys
    drop_suc [] zero y ys e = absurd (cc)
    drop_suc [] (suc k) y ys e = absurd (cc)
    drop_suc (x ∷ xs) zero y ys e = cc
    drop_suc (x ∷ xs) (suc k) y ys e = drop_suc xs k y ys e

module _ (g : Graph) (lo k : ℕ) {body : List Item} (h : ProcedureHere g k body) (p : PlaceOf g lo k) where
  pub starts_here : drop k (procedure_addresses g.procedures (procedures_at g lo)) ≡ p.at ∷ procedure_addresses (drop (k + 1) g.procedures) (p.at + 4 * procedure_words h.procedure)
  starts_here = p.addresses ∙ ap (λ ps. procedure_addresses ps p.at) h.rest

  pub start_here : new_start g lo k ≡ p.at
  start_here = ap (λ o. unwrap_or o 0) (slice_get-drop (procedure_addresses g.procedures (procedures_at g lo)) k p.at _ starts_here)

  pub procedure_fits : procedures_at g lo + 4 * sum_by procedure_words g.procedures ≤ 2 ^ 32 → p.at + 4 * length h.procedure.body ≤ 2 ^ 32
  procedure_fits fits = omega (arith, p.at_is, h.sum)

  abbrev pub next_place : PlaceOf g lo (k + 1)
  next_place = record {
    at = p.at + 4 * procedure_words h.procedure;
    at_is = omega (arith, p.at_is, h.sum);
    addresses = drop-more (procedure_addresses g.procedures (procedures_at g lo)) k p.at (procedure_addresses (drop (k + 1) g.procedures) (p.at + 4 * procedure_words h.procedure)) starts_here;
  }

-- what is left to append
pub record AtProcedure (g : Graph) (lo k : ℕ) (old now : TextBytes) : Type 0 where
  pub place : PlaceOf g lo k
  pub stand : ProceduresStand g lo place.at (drop k g.procedures)
  pub left : Leaves (procedures_points g lo place.at (drop k g.procedures)) (procedures_points g lo (procedures_at g lo) g.procedures) old now

pub first_procedure : (g : Graph) (lo : ℕ) (old : TextBytes) → ProceduresStand g lo (procedures_at g lo) g.procedures → AtProcedure g lo 0 old old
first_procedure g lo old stand = record {
  place = first_place g lo;
  stand = stand;
  left = leaves_all (procedures_points g lo (procedures_at g lo) g.procedures) old;
}

module _ (g : Graph) (lo k : ℕ) (old now : TextBytes) {body : List Item} (h : ProcedureHere g k body) (w : AtProcedure g lo k old now) where
  pub body_stands : ItemsStand g lo w.place.at h.procedure.body
  body_stands = (rw h.rest at w.stand).0

  pub next_procedure : (next : TextBytes) → Appends (procedure_points g lo w.place.at h.procedure) now next → AtProcedure g lo (k + 1) old next
  next_procedure next more =
      let stand = rw h.rest at w.stand in
      let left = rw h.rest at w.left in
      record {
        place = next_place g lo k h w.place;
        stand = stand.1;
        left = leaves_less (procedure_points g lo w.place.at h.procedure) (procedures_points g lo (w.place.at + 4 * procedure_words h.procedure) (drop (k + 1) g.procedures)) (procedures_points g lo (procedures_at g lo) g.procedures) old now next left more;
      }

drop-past : {X : Type 0} (xs : List X) (k : ℕ) → length xs ≤ k → drop k xs ≡ []
drop-past [] zero h = refl
drop-past [] (suc k) h = refl
drop-past (x ∷ xs) zero h = absurd (omega arith)
drop-past (x ∷ xs) (suc k) h = drop-past xs k (omega arith)

pub last_procedure : (g : Graph) (lo k : ℕ) (old now : TextBytes) → length g.procedures ≤ k → AtProcedure g lo k old now → Appends (procedures_points g lo (procedures_at g lo) g.procedures) old now
last_procedure g lo k old now all w =
    leaves_none (procedures_points g lo (procedures_at g lo) g.procedures) old now (rw (drop-past g.procedures k all) at w.left)

-- The note

-- of the note's entries these are still to come
pub record NoteLeaves (g : Graph) (lo k : ℕ) (old now : List ℕ) : Type 0 where
  pub place : PlaceOf g lo k
  pub left : now ++ note_entries place.at (drop k g.procedures) ≡ old ++ note_entries (procedures_at g lo) g.procedures

pub first_noted : (g : Graph) (lo : ℕ) (old : List ℕ) → NoteLeaves g lo 0 old old
first_noted g lo old = record { place = first_place g lo; left = refl }

pub next_noted : (g : Graph) (lo k : ℕ) (old now next : List ℕ) {body : List Item} (h : ProcedureHere g k body) (n : NoteLeaves g lo k old now) → next ≡ now ++ words (n.place.at ∷ h.procedure.link ∷ length h.procedure.body ∷ []) → NoteLeaves g lo (k + 1) old next
next_noted g lo k old now next h n more =
    let left = rw h.rest at n.left in
    record {
      place = next_place g lo k h n.place;
      left =
          ap (λ bytes. bytes ++ note_entries (n.place.at + 4 * procedure_words h.procedure) (drop (k + 1) g.procedures)) more
          ∙ append_assoc now (words (n.place.at ∷ h.procedure.link ∷ length h.procedure.body ∷ [])) (note_entries (n.place.at + 4 * procedure_words h.procedure) (drop (k + 1) g.procedures))
          ∙ left;
    }

pub last_noted : (g : Graph) (lo k : ℕ) (old now : List ℕ) → length g.procedures ≤ k → NoteLeaves g lo k old now → now ≡ old ++ note_entries (procedures_at g lo) g.procedures
last_noted g lo k old now all n = sym (append-nil now) ∙ (rw (drop-past g.procedures k all) at n.left)
