-- A graph in which other blocks stand in one place follows it, and is sound where it is.
use Rattle.std.proofs.Common.{◌≡◌, ℕ, ◌≤◌, length, Bool, false, true, List, ◌∷◌, ◌++◌, None, sym, refl, subst}
use Rattle.std.specs.List.{Contains}
use Rattle.sq_graph.specs.declared.item.Item.{Item}
use Rattle.sq_graph.specs.Graph.{Block, Procedure, Graph}
use Rattle.sq_graph.specs.Blocks.{items_of}
use Rattle.sq_graph.specs.Uses.{uses}
use Rattle.sq_graph.specs.Rules.{IsGraph}
use Rattle.sq_graph.specs.Lines.{Line, body_lines, lines_of, slot_name, block_lines, place_lines}
use Rattle.sq_graph.specs.Walks.{IsLive, code_targets}
use Rattle.sq_graph.specs.Soundness.{IsSound}
use Rattle.law_follow.specs.Follows.{Follows}
use Rattle.law_patch.specs.Changes.{Change, Alike, IsCarrier}
use Rattle.law_patch.proofs.Keeping.{NoMode, no_stands, staying}
use Rattle.law_patch.proofs.Carrying.{ItemGoes, BlockGoes, carried_block, Backs}
use Rattle.law_patch.proofs.Layouts.{Turn, Carries}
use Rattle.law_patch.proofs.Restricting.{own}
use Rattle.law_patch.proofs.Remaining.{AlikeAt}
use Rattle.law_patch.proofs.Relating.{block_stays as block_stays_in, items_stay as items_stay_in, bodies_stay as bodies_stay_in, block_goes as block_goes_in, all_stay as all_stay_in, body_itself as body_itself_in, same_names, placed_follows as placed_follows_in, placed_sound as placed_sound_in, placed_live as placed_live_in, placed_place as placed_place_in, placed_backs as placed_backs_in}

module _ (K : ℕ → Type 0) (X : List Line → ℕ → Type 0) (Z : Type 0) (g h : Graph) (rules : IsGraph g) (known : (n : ℕ) → Contains (uses g) n → K n) (procedures : h.procedures ≡ g.procedures) (words : h.code_words ≡ g.code_words) where
  abbrev pub C : Change
  C = staying K X Z g h

  module _ (holds : (n : ℕ) → Contains (code_targets g) n → K n) where
    may_hold : (n : ℕ) → Contains (code_targets g) n → C.MayHold n n
    may_hold n c = (refl, (holds n c, c))

    may_go : (n : ℕ) → Contains (uses g) n → C.MayGo n n
    may_go n c = (refl, known n c)

    pub block_stays : (x : Block) → x ≡ carried_block C own x
    block_stays x = block_stays_in NoMode no_stands C.MayHold C.MayGo K X Z g h rules procedures words may_hold may_go x

    pub items_stay : (x : Block) → Contains g.blocks x → (item : Item) → Contains x.items item → ItemGoes C own item
    items_stay x c = items_stay_in NoMode no_stands C.MayHold C.MayGo K X Z g h rules procedures words may_hold may_go x c

    pub bodies_stay : (p : Procedure) → Contains g.procedures p → (item : Item) → Contains p.body item → ItemGoes C own item
    bodies_stay p c = bodies_stay_in NoMode no_stands C.MayHold C.MayGo K X Z g h rules procedures words may_hold may_go p c

    pub block_goes : (front : List Block) (x : Block) (bs cs : List Block) → front ++ (x ∷ bs) ≡ g.blocks → slot_name (lines_of cs) ≡ slot_name (lines_of bs) → BlockGoes C own x (lines_of bs) (lines_of cs)
    block_goes front x bs cs e same = block_goes_in NoMode no_stands C.MayHold C.MayGo K X Z g h rules procedures words may_hold may_go front x bs cs e same

    pub all_stay : (into : Bool) (front bs : List Block) → front ++ bs ≡ g.blocks → Carries C own K into bs bs
    all_stay into front bs e = all_stay_in NoMode no_stands C.MayHold C.MayGo K X Z g h rules procedures words may_hold may_go into front bs e

    pub body_itself : (b : Bool) (front : List Block) (x : Block) (bs : List Block) → front ++ (x ∷ bs) ≡ g.blocks → Alike C b None (body_lines x (lines_of bs)) (body_lines x (lines_of bs))
    body_itself b front x bs e = body_itself_in NoMode no_stands C.MayHold C.MayGo K X Z g h rules procedures words may_hold may_go b front x bs e

    module _ (us vs back : List Block) (first : slot_name (lines_of (vs ++ back)) ≡ slot_name (lines_of (us ++ back))) (turn : Turn C own K true true us vs back back) (front : List Block) (whole : front ++ (us ++ back) ≡ g.blocks) (after : h.blocks ≡ front ++ (vs ++ back)) (entry : h.entry ≡ g.entry) (carrier : IsCarrier g X) where
      values : (n m : ℕ) → C.MayHold n m → Contains (code_targets g) n × C.MayGo n m
      values n m v = (v.1.1, (v.0, v.1.0))

      names : (n m : ℕ) → C.MayGo n m → Alike C false None (block_lines g n) (block_lines h m)
      names n m j =
          subst (λ k. Alike C false None (block_lines g n) (block_lines h k)) (sym j.0)
          (same_names NoMode no_stands C.MayHold C.MayGo K X Z g h rules procedures words may_hold may_go us vs back first turn front whole after n j.1)

      pub placed_follows : Follows g h
      placed_follows = placed_follows_in NoMode no_stands C.MayHold C.MayGo K X Z g h rules procedures words may_hold may_go us vs back first turn front whole after entry carrier values names

      pub placed_sound : ((xs : List Line) (r : ℕ) → IsLive g r xs → X xs r) → Z → IsSound g → IsSound h
      placed_sound matters safe sound = placed_sound_in NoMode no_stands C.MayHold C.MayGo K X Z g h rules procedures words may_hold may_go us vs back first turn front whole after entry carrier values names matters safe sound

      pub placed_live : ((xs : List Line) (r : ℕ) → IsLive g r xs → X xs r) → Z → (q n : ℕ) → K n → IsLive h q (block_lines h n) → IsLive g q (block_lines g n)
      placed_live matters safe q n k live = placed_live_in NoMode no_stands C.MayHold C.MayGo K X Z g h rules procedures words may_hold may_go us vs back first turn front whole after entry carrier values names matters safe q n n (refl, k) live

      pub placed_place : ((xs : List Line) (r : ℕ) → IsLive g r xs → X xs r) → Z → (n place r : ℕ) → place ≤ length (items_of g n) → (AlikeAt C own n place back back → AlikeAt C own n place (us ++ back) (vs ++ back)) → IsLive h r (place_lines h n place) → IsLive g r (place_lines g n place)
      placed_place matters safe n place r l here live = placed_place_in NoMode no_stands C.MayHold C.MayGo K X Z g h rules procedures words may_hold may_go us vs back first turn front whole after entry carrier values names matters safe n place r l here live

      pub placed_backs : ((xs : List Line) (r : ℕ) → IsLive g r xs → X xs r) → Z → Backs C own
      placed_backs matters safe = placed_backs_in NoMode no_stands C.MayHold C.MayGo K X Z g h rules procedures words may_hold may_go us vs back first turn front whole after entry carrier values names matters safe
