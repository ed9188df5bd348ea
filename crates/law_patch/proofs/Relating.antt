-- A graph in which other blocks stand in one place, and names may stand for others, follows it and is sound where it is.
use Rattle.std.proofs.Common.{◌≡◌, ℕ, ◌≤◌, length, Bool, true, false, List, [], ◌∷◌, ◌++◌, Option, Some, None, map, slice_get, refl, sym, ap, ◌∙◌, subst}
use Rattle.std.specs.List.{Contains}
use Rattle.sq_graph.specs.Graph.{Block, Procedure, Graph}
use Rattle.sq_graph.specs.Terms.{links}
use Rattle.sq_graph.specs.Uses.{uses, code_word_uses, terms_uses, items_uses}
use Rattle.sq_graph.specs.Blocks.{all_items, items_of}
use Rattle.sq_graph.specs.Rules.{IsGraph}
use Rattle.sq_graph.specs.Renames.{retargeted_procedure, retargeted_words, recalled_block}
use Rattle.sq_graph.specs.Lines.{Line, body_lines, lines_of, slot_name, block_lines, place_lines}
use Rattle.sq_graph.specs.Walks.{IsLive, word_name, code_targets}
use Rattle.sq_graph.specs.Soundness.{IsSound}
use Rattle.sq_graph.proofs.Bypassing.{retargeted_same}
use Rattle.law_follow.specs.Follows.{Follows, word_address}
use Rattle.law_patch.specs.Changes.{Change, Alike, guarded, IsSteady, IsCarrier, falls}
use Rattle.law_patch.proofs.LiveTargets.{word_target}
use Rattle.law_patch.proofs.Patch.{change_follows}
use Rattle.law_patch.proofs.Changing.{ahead, same_map}
use Rattle.law_patch.proofs.Carrying.{same_some, SlotGoes, BlockGoes, ItemGoes, carried_block, Backs, carry_body}
use Rattle.law_patch.proofs.Layouts.{Turn, Carries, done, stays, turns, carries_behind, carries_back, carried_sound, carries_lines}
use Rattle.law_patch.proofs.Restricting.{own, own_block, slot_target}
use Rattle.law_patch.proofs.Standing.{stands_at, own_called_block, items_go, body_goes, term_goes, words_held, bodies_held, procedures_sound}
use Rattle.law_patch.proofs.Remaining.{fits_at, AlikeAt, nothing_at, stays_at, live_at}
use Rattle.law_patch.proofs.Used.{contains_first, from_slice}

-- A change in which names stay, but some may be held for others, or gone to for others.
abbrev pub relating : (Mode : Type 0) (StandsIn : Mode → ℕ → ℕ → Type 0) (MayHold MayGo : ℕ → ℕ → Type 0) → (List Line → ℕ → Type 0) → Type 0 → Graph → Graph → Change
relating Mode StandsIn MayHold MayGo X Z g h = record {
  before = g;
  after = h;
  MayHold = MayHold;
  MayGo = MayGo;
  renamed = λ n. n;
  Matters = X;
  Mode = Mode;
  StandsIn = StandsIn;
  Sound = Z;
  MaySkip = Unit {0};
}

module _ (Mode : Type 0) (StandsIn : Mode → ℕ → ℕ → Type 0) (MayHold MayGo : ℕ → ℕ → Type 0) (K : ℕ → Type 0) (X : List Line → ℕ → Type 0) (Z : Type 0) (g h : Graph) (rules : IsGraph g) (procedures : h.procedures ≡ g.procedures) (words : h.code_words ≡ g.code_words) where
  abbrev pub C : Change
  C = relating Mode StandsIn MayHold MayGo X Z g h

  module _ (may_hold : (n : ℕ) → Contains (code_targets g) n → MayHold n n) (may_go : (n : ℕ) → Contains (uses g) n → MayGo n n) where
    procedures_stay : h.procedures ≡ map (retargeted_procedure own) g.procedures
    procedures_stay = procedures ∙ sym (ap (λ (k : Graph). k.procedures) (retargeted_same g))

    words_stay : h.code_words ≡ retargeted_words own g.code_words
    words_stay = words ∙ sym (ap (λ (k : Graph). k.code_words) (retargeted_same g))

    pub block_stays : (x : Block) → x ≡ carried_block C own x
    block_stays x = sym (ap (recalled_block own) (own_block x) ∙ own_called_block x)

    -- the items of a block
    pub items_stay : (x : Block) → Contains g.blocks x → (item : _) → Contains x.items item → ItemGoes C own item
    items_stay x c = items_go C rules may_hold may_go procedures_stay words_stay x c

    -- the items of a body
    pub bodies_stay : (p : Procedure) → Contains g.procedures p → (item : _) → Contains p.body item → ItemGoes C own item
    bodies_stay p c = body_goes C rules may_hold may_go procedures_stay words_stay p c

    -- the slot behind a link
    slot_stays : (o : Option ℕ) → ((n : ℕ) → o ≡ Some n → MayHold n n) → SlotGoes C own o o
    slot_stays None h = tt
    slot_stays (Some n) h = h n refl

    slot_held : (front : List Block) (x : Block) (bs : List Block) → front ++ (x ∷ bs) ≡ g.blocks → links x.term ≡ true → (n : ℕ) → slot_name (lines_of bs) ≡ Some n → MayHold n n
    slot_held front x [] e l n s = absurd (cc)
    slot_held front x (next ∷ bs) e l n s = subst (λ m. C.MayHold m m) (same_some next.name n s) (may_hold next.name (slot_target g front x next bs e l))

    pub block_goes : (front : List Block) (x : Block) (bs cs : List Block) → front ++ (x ∷ bs) ≡ g.blocks → slot_name (lines_of cs) ≡ slot_name (lines_of bs) → BlockGoes C own x (lines_of bs) (lines_of cs)
    block_goes front x bs cs e same = record {
      items = items_stay x (stands_at g rules front x bs e);
      term = term_goes C rules may_hold may_go procedures_stay words_stay x (stands_at g rules front x bs e);
      slot = λ l. subst (λ o. SlotGoes C own (slot_name (lines_of bs)) o) (sym same) (slot_stays (slot_name (lines_of bs)) (slot_held front x bs e l));
    }

    -- blocks that stay
    pub all_stay : (into : Bool) (front bs : List Block) → front ++ bs ≡ g.blocks → Carries C own K into bs bs
    all_stay into front [] e = done
    all_stay into front (x ∷ bs) e =
        stays x x (block_stays x) (block_goes front x bs bs e refl) (all_stay (falls x.term) (front ++ x ∷ []) bs (ahead front x bs ∙ e))

    -- places of theirs
    all_at : (n place : ℕ) → place ≤ length (items_of g n) → (front bs : List Block) → front ++ bs ≡ g.blocks → AlikeAt C own n place bs bs
    all_at n place l front [] e = nothing_at C own n place
    all_at n place l front (x ∷ bs) e =
        let further = ahead front x bs ∙ e in
        stays_at C own n place x x bs bs (block_stays x) (block_goes front x bs bs e refl) (fits_at g rules n place l front x bs e)
        (λ f. carries_lines C own K true refl (all_stay true (front ++ x ∷ []) bs further)) (all_at n place l (front ++ x ∷ []) bs further)

    -- and the lines of one of them
    pub body_itself : (b : Bool) (front : List Block) (x : Block) (bs : List Block) → front ++ (x ∷ bs) ≡ g.blocks → Alike C b None (body_lines x (lines_of bs)) (body_lines x (lines_of bs))
    body_itself b front x bs e =
        subst (λ z. Alike C b None (body_lines x (lines_of bs)) (body_lines z (lines_of bs))) (sym (block_stays x))
        (carry_body C own x (lines_of bs) (lines_of bs) (block_goes front x bs bs e refl) (λ f. carries_lines C own K b refl (all_stay true (front ++ x ∷ []) bs (ahead front x bs ∙ e))))

    module _ (us vs back : List Block) (first : slot_name (lines_of (vs ++ back)) ≡ slot_name (lines_of (us ++ back))) (turn : Turn C own K true true us vs back back) where
      first_stays : (bs : List Block) → slot_name (lines_of (bs ++ (vs ++ back))) ≡ slot_name (lines_of (bs ++ (us ++ back)))
      first_stays [] = first
      first_stays (x ∷ bs) = refl

      wide : (into : Bool) → Turn C own K into true us vs back back
      wide into = record {
        lines = λ b i p. turn.lines b refl p;
        behind = turn.behind;
        lowers = turn.lowers;
        slots = turn.slots;
        dies = turn.dies;
      }

      -- those in front of the place stay, and those behind it
      placed : (into : Bool) (front bs : List Block) → front ++ (bs ++ (us ++ back)) ≡ g.blocks → (all : List Block) → all ++ back ≡ g.blocks → Carries C own K into (bs ++ (us ++ back)) (bs ++ (vs ++ back))
      placed into front [] e all a = turns us vs (wide into) (all_stay true all back a)
      placed into front (x ∷ bs) e all a =
          stays x x (block_stays x) (block_goes front x (bs ++ (us ++ back)) (bs ++ (vs ++ back)) e (first_stays bs)) (placed (falls x.term) (front ++ x ∷ []) bs (ahead front x (bs ++ (us ++ back)) ∙ e) all a)

      -- a place of theirs, where one of the blocks in the place goes on alike
      placed_at : (n place : ℕ) → place ≤ length (items_of g n) → (AlikeAt C own n place back back → AlikeAt C own n place (us ++ back) (vs ++ back)) → (front bs : List Block) → front ++ (bs ++ (us ++ back)) ≡ g.blocks → (all : List Block) → all ++ back ≡ g.blocks → AlikeAt C own n place (bs ++ (us ++ back)) (bs ++ (vs ++ back))
      placed_at n place l here front [] e all a = here (all_at n place l all back a)
      placed_at n place l here front (x ∷ bs) e all a =
          let further = ahead front x (bs ++ (us ++ back)) ∙ e in
          stays_at C own n place x x (bs ++ (us ++ back)) (bs ++ (vs ++ back)) (block_stays x) (block_goes front x (bs ++ (us ++ back)) (bs ++ (vs ++ back)) e (first_stays bs))
          (fits_at g rules n place l front x (bs ++ (us ++ back)) e)
          (λ f. carries_lines C own K true refl (placed true (front ++ x ∷ []) bs further all a)) (placed_at n place l here (front ++ x ∷ []) bs further all a)

      three : (xs ys zs : List Block) → (xs ++ ys) ++ zs ≡ xs ++ (ys ++ zs)
      three [] ys zs = refl
      three (x ∷ xs) ys zs = ap (λ bs. x ∷ bs) (three xs ys zs)

      module _ (front : List Block) (whole : front ++ (us ++ back) ≡ g.blocks) (after : h.blocks ≡ front ++ (vs ++ back)) where
        every : Carries C own K false g.blocks h.blocks
        every =
            subst (λ bs. Carries C own K false bs h.blocks) whole
            (subst (λ cs. Carries C own K false (front ++ (us ++ back)) cs) (sym after) (placed false [] front whole (front ++ us) (three front us back ∙ whole)))

        -- a name of K leads to lines that go on like those of the same name
        pub same_names : (n : ℕ) → K n → Alike C false None (block_lines g n) (block_lines h n)
        same_names n k = carries_behind C own K n k every

        module _ (entry : h.entry ≡ g.entry) (carrier : IsCarrier g X) (values : (n m : ℕ) → MayHold n m → Contains (code_targets g) n × MayGo n m) (names : (n m : ℕ) → MayGo n m → Alike C false None (block_lines g n) (block_lines h m)) where
          steady : IsSteady C
          steady = record { carrier = carrier; names = names; values = values }

          word_held : (i n : ℕ) → slice_get (map word_name g.code_words) i ≡ Some n → MayHold n n
          word_held i n e = may_hold n (word_target g n (from_slice (map word_name g.code_words) i n e))

          pub placed_follows : Follows g h
          placed_follows =
              change_follows C steady
              (subst (λ n. MayGo g.entry n) (sym entry) (may_go g.entry (contains_first g.entry (code_word_uses g.code_words ++ (terms_uses g.blocks ++ items_uses (all_items g))))))
              (ap (map word_address) words) (ap (map word_name) words ∙ same_map (map word_name g.code_words)) word_held

          pub placed_sound : ((xs : List Line) (r : ℕ) → IsLive g r xs → X xs r) → Z → IsSound g → IsSound h
          placed_sound matters safe sound =
              carried_sound C own K steady matters safe every
              (words_held C rules may_hold may_go procedures_stay words_stay) (bodies_held C rules may_hold may_go procedures_stay words_stay) sound
              (procedures_sound C rules may_hold may_go procedures_stay words_stay sound)

          -- what is live at a place of the second graph is live where the first goes on like it
          pub placed_backs : ((xs : List Line) (r : ℕ) → IsLive g r xs → X xs r) → Z → Backs C own
          placed_backs matters safe =
              carries_back C own K steady matters safe every
              (words_held C rules may_hold may_go procedures_stay words_stay) (bodies_held C rules may_hold may_go procedures_stay words_stay)

          -- and so at places of blocks that stay
          pub placed_place : ((xs : List Line) (r : ℕ) → IsLive g r xs → X xs r) → Z → (n place r : ℕ) → place ≤ length (items_of g n) → (AlikeAt C own n place back back → AlikeAt C own n place (us ++ back) (vs ++ back)) → IsLive h r (place_lines h n place) → IsLive g r (place_lines g n place)
          placed_place matters safe n place r l here live =
              live_at C own (placed_backs matters safe) n place r
              (subst (λ bs. AlikeAt C own n place bs h.blocks) whole
              (subst (λ cs. AlikeAt C own n place (front ++ (us ++ back)) cs) (sym after) (placed_at n place l here [] front whole (front ++ us) (three front us back ∙ whole)))) live

          pub placed_live : ((xs : List Line) (r : ℕ) → IsLive g r xs → X xs r) → Z → (q n m : ℕ) → MayGo n m → IsLive h q (block_lines h m) → IsLive g q (block_lines g n)
          placed_live matters safe q n m j live =
              let o = placed_backs matters safe q (block_lines h m) live true None (block_lines g n) (guarded (names n m j)) in
              let is : q ≡ o.0 = o.1.0 in
              subst (λ r. IsLive g r (block_lines g n)) (sym is) o.1.1
