-- A graph whose lines have other names, and whose blocks may be cut in other ways, follows another where each name
-- that is used leads to lines that go on like those of its other name.
use Rattle.std.proofs.Common.{◌≡◌, ℕ, zero, suc, ◌≤◌, drop, length, arith, Bool, true, false, List, [], ◌∷◌, ◌++◌, Option, Some, None, pos, map, slice_get, refl, sym, ap, ◌∙◌, subst}
use Rattle.std.proofs.lemmas.Option.{slice_get-map}
use Rattle.std.specs.Option.{option_map}
use Rattle.std.proofs.lemmas.List.Elements.{Contains-append_left, Contains-append_right}
use Rattle.std.specs.List.{Contains}
use Rattle.sq_isa.specs.Forms.{first_of, second_of, with_registers}
use Rattle.sq_isa.specs.Uses.{sources_of, destination_of}
use Rattle.sq_isa.specs.declared.instructions.Insn.{Insn}
use Rattle.sq_isa.specs.declared.instructions.Insn.TheVariants.{Lui, OpImm}
use Rattle.sq_isa.specs.declared.instructions.ImmOp.TheVariants.{Addi}
use Rattle.sq_graph.specs.declared.item.Item.{Item}
use Rattle.sq_graph.specs.declared.item.Item.TheVariants.{Op, Hi, Lo, Out}
use Rattle.sq_graph.specs.declared.item.Term.{Term}
use Rattle.sq_graph.specs.declared.item.Term.TheVariants.{Fall, Jump, Branch, Call, PartJump, Indirect, Stop}
use Rattle.sq_graph.specs.declared.parts.CodeRef.{CodeRef}
use Rattle.sq_graph.specs.Graph.{Block, Procedure, Graph}
use Rattle.sq_graph.specs.Blocks.{HasProcedure, all_items}
use Rattle.sq_graph.specs.Uses.{item_uses, term_uses, items_uses, terms_uses, code_word_uses, uses, item_calls}
use Rattle.sq_graph.specs.Rules.{IsGraph}
use Rattle.sq_graph.specs.Terms.{links}
use Rattle.sq_graph.specs.Renames.{retargeted_items, retargeted_term, retargeted_block, retargeted_procedure, retargeted_words}
use Rattle.sq_graph.specs.Lines.{AddressHalf, Plain, Upper, Lower, Line, Do, Enter, Return, inside, line_of, term_lines, body_lines, slot_name, block_lines}
use Rattle.sq_graph.specs.Walks.{code_targets, is_register, word_name}
use Rattle.law_follow.specs.Follows.{Follows, word_address}
use Rattle.law_patch.specs.Registers.{AreSources}
use Rattle.law_patch.specs.LiveAgreement.{SlotIsTarget, MakeTargets}
use Rattle.law_patch.specs.Changes.{Change, IsNamedHalf, SameSlot, Alike, IsSteady, both_do, both_enter, both_return, both_end, guarded}
use Rattle.law_patch.proofs.LiveSteps.{own_registers, own_sources}
use Rattle.law_patch.proofs.LiveTargets.{inside_makes, word_target}
use Rattle.law_patch.specs.Operations.{KeepsStep}
use Rattle.law_patch.proofs.Patch.{change_follows, change_keeps_step}
use Rattle.law_patch.proofs.Keeping.{NoMode, no_stands, all_matter, every_carrier}
use Rattle.law_patch.proofs.Lines.{ItemMakes, items_made as items_made_in}
use Rattle.law_patch.proofs.Used.{contains_first, contains_later, flat_contains, from_slice, slice_there, item_called, block_item, body_item, body_calls_none}

-- The change in which a name n of K becomes f n: it may be gone to, and where it is a code target it may be held. One side
-- may make steps by itself, or neither.
abbrev pub moving : Type 0 → (ℕ → Type 0) → (ℕ → ℕ) → Graph → Graph → Change
moving may K f g h = record {
  before = g;
  after = h;
  MayHold = λ n m. (m ≡ f n) × (K n × Contains (code_targets g) n);
  MayGo = λ n m. (m ≡ f n) × K n;
  renamed = f;
  Matters = all_matter;
  Mode = NoMode;
  StandsIn = no_stands;
  Sound = Unit {0};
  MaySkip = may;
}

-- what a block's term, and an item, uses is used
pub term_use : (g : Graph) (b : Block) (n : ℕ) → Contains g.blocks b → Contains (term_uses b.term) n → Contains (uses g) n
term_use g b n c d =
    contains_later g.entry n (code_word_uses g.code_words ++ (terms_uses g.blocks ++ items_uses (all_items g)))
    (Contains-append_right (code_word_uses g.code_words) (terms_uses g.blocks ++ items_uses (all_items g)) n
    (Contains-append_left (terms_uses g.blocks) (items_uses (all_items g)) n (flat_contains (λ (b : Block). term_uses b.term) g.blocks b n c d)))

pub item_use : (g : Graph) (item : Item) (n : ℕ) → Contains (all_items g) item → Contains (item_uses item) n → Contains (uses g) n
item_use g item n c d =
    contains_later g.entry n (code_word_uses g.code_words ++ (terms_uses g.blocks ++ items_uses (all_items g)))
    (Contains-append_right (code_word_uses g.code_words) (terms_uses g.blocks ++ items_uses (all_items g)) n
    (Contains-append_right (terms_uses g.blocks) (items_uses (all_items g)) n (flat_contains item_uses (all_items g) item n c d)))

pub word_use : (g : Graph) (n : ℕ) → Contains (map word_name g.code_words) n → Contains (uses g) n
word_use g n c =
    contains_later g.entry n (code_word_uses g.code_words ++ (terms_uses g.blocks ++ items_uses (all_items g)))
    (Contains-append_left (code_word_uses g.code_words) (terms_uses g.blocks ++ items_uses (all_items g)) n c)

pub same_addresses : (f : ℕ → ℕ) (ws : List CodeRef) → map word_address (retargeted_words f ws) ≡ map word_address ws
same_addresses f [] = refl
same_addresses f (w ∷ ws) = ap (λ ats. w.at ∷ ats) (same_addresses f ws)

pub other_names : (f : ℕ → ℕ) (ws : List CodeRef) → map word_name (retargeted_words f ws) ≡ map f (map word_name ws)
other_names f [] = refl
other_names f (w ∷ ws) = ap (λ ns. f w.block ∷ ns) (other_names f ws)

pub procedure_moved : (f : ℕ → ℕ) (ps : List Procedure) (q : ℕ) (p : Procedure) → slice_get ps q ≡ Some p → slice_get (map (retargeted_procedure f) ps) q ≡ Some (retargeted_procedure f p)
procedure_moved f ps q p e = slice_get-map (retargeted_procedure f) ps q ∙ ap (option_map (retargeted_procedure f)) e

module _ (K : ℕ → Type 0) (f : ℕ → ℕ) (g h : Graph) (rules : IsGraph g) (used : (n : ℕ) → Contains (uses g) n → K n) (called : (q : ℕ) (p : Procedure) → slice_get g.procedures q ≡ Some p → slice_get h.procedures q ≡ Some (retargeted_procedure f p)) where
  abbrev pub M : Change
  M = moving ⊥ K f g h

  -- what is asked of an item that makes an address
  abbrev pub Makes : Item → Type 0
  Makes item = ItemMakes g item

  abbrev pub AreOf : (Item → Type 0) → List Item → Type 0
  AreOf Q items = (item : Item) → Contains items item → Q item

  items_made : (items : List Item) (rest : List Line) → MakeTargets g (map line_of items ++ rest) → AreOf Makes items × MakeTargets g rest
  items_made items rest m = items_made_in g items rest m

  lift : {b : Bool} {xs ys : List Line} → Alike M b None xs ys → Alike M true None xs ys
  lift {b = true} p = p
  lift {b = false} p = guarded p

  move_do : {b : Bool} {xs ys : List Line} (half half' : AddressHalf) (insn : Insn) → IsNamedHalf M half half' insn → Alike M true None xs ys → Alike M b None (Do half insn ∷ xs) (Do half' insn ∷ ys)
  move_do {b = b} {xs = xs} {ys = ys} half half' insn named p =
      let own = own_registers insn in
      let P : ℕ → ℕ → Type 0 = λ r s. s ≡ r in
      let made : Alike M b None (Do half insn ∷ xs) (Do half' (with_registers (destination_of insn) (first_of insn) (second_of insn) insn) ∷ ys) =
      both_do {m = None} {m' = None} insn (destination_of insn) (first_of insn) (second_of insn) named
      (subst (λ other. AreSources P (sources_of insn) (sources_of other)) (sym own) (own_sources P (sources_of insn) (λ r e. refl)))
      (λ r s x n. (ap (λ d. is_register (destination_of d) s) own ∙ ap (is_register (destination_of insn)) n, λ e. n)) p in
      subst (λ other. Alike M b None (Do half insn ∷ xs) (Do half' other ∷ ys)) own made

  -- a procedure that is called has the same body under other names
  abbrev pub CallMoves : ℕ → Type 0
  CallMoves q = (p : Procedure) × ((slice_get g.procedures q ≡ Some p) × ((xs ys : List Line) → Alike M true None xs ys → Alike M true None (inside p xs) (inside (retargeted_procedure f p) ys)))

  abbrev pub ItemMoves : Item → Type 0
  ItemMoves (Op insn) = Unit {0}
  ItemMoves (Hi rd to) = Unit {0}
  ItemMoves (Lo rd rs to) = K to × Contains (code_targets g) to
  ItemMoves (Out q) = CallMoves q

  move_enter : {b : Bool} {xs ys : List Line} (q : ℕ) → CallMoves q → Alike M true None xs ys → Alike M b None (Enter q ∷ xs) (Enter q ∷ ys)
  move_enter {xs = xs} {ys = ys} q t p =
      both_enter {m = None} {m' = None} t.0 (retargeted_procedure f t.0) t.1.0 (called q t.0 t.1.0)
      (λ r s x n. (ap (is_register t.0.link) n, λ e. n)) (t.1.1 xs ys p)

  later_items : (item : Item) (items : List Item) → AreOf ItemMoves (item ∷ items) → AreOf ItemMoves items
  later_items item items each i c = each i (contains_later item i items c)

  pub move_items : {b : Bool} (items : List Item) (xs ys : List Line) → AreOf ItemMoves items → Alike M b None xs ys → Alike M b None (map line_of items ++ xs) (map line_of (retargeted_items f items) ++ ys)
  move_items [] xs ys each p = p
  move_items (Op insn ∷ items) xs ys each p = move_do Plain Plain insn tt (move_items items xs ys (later_items (Op insn) items each) (lift p))
  move_items (Hi rd to ∷ items) xs ys each p = move_do (Upper to None) (Upper (f to) None) (Lui rd 0) refl (move_items items xs ys (later_items (Hi rd to) items each) (lift p))
  move_items (Lo rd rs to ∷ items) xs ys each p =
      let k = each (Lo rd rs to) (contains_first (Lo rd rs to) items) in
      move_do (Lower to) (Lower (f to)) (OpImm Addi rd rs (pos 0)) (refl, (refl, (k.0, k.1))) (move_items items xs ys (later_items (Lo rd rs to) items each) (lift p))
  move_items (Out q ∷ items) xs ys each p = move_enter q (each (Out q) (contains_first (Out q) items)) (move_items items xs ys (later_items (Out q) items each) (lift p))

  -- the items of a body, which are no calls
  body_moves : (item : Item) → Contains (all_items g) item → item_calls item ≡ [] → Makes item → ItemMoves item
  body_moves (Op insn) c n m = tt
  body_moves (Hi rd to) c n m = tt
  body_moves (Lo rd rs to) c n m = (used to (item_use g (Lo rd rs to) to c (contains_first to [])), m)
  body_moves (Out q) c n m = absurd (let e : q ∷ [] ≡ [] = n in cc)

  inside_moves : (q : ℕ) (p : Procedure) → slice_get g.procedures q ≡ Some p → (xs ys : List Line) → Alike M true None xs ys → Alike M true None (inside p xs) (inside (retargeted_procedure f p) ys)
  inside_moves q p e xs ys k =
      let there = from_slice g.procedures q p e in
      let made = items_made p.body (Return p.link ∷ []) (inside_makes g q p [] e tt) in
      move_items p.body (Return p.link ∷ xs) (Return p.link ∷ ys)
      (λ item c. body_moves item (body_item g rules p item there c) (body_calls_none g rules p item there c) (made.0 item c)) (both_return k)

  call_moves : (q : ℕ) → HasProcedure g q → CallMoves q
  call_moves q l = let p = slice_there g.procedures q l in (p.0, (p.1, inside_moves q p.0 p.1))

  -- the items of a block
  item_moves : (item : Item) → Contains (all_items g) item → Makes item → ItemMoves item
  item_moves (Op insn) c m = tt
  item_moves (Hi rd to) c m = tt
  item_moves (Lo rd rs to) c m = (used to (item_use g (Lo rd rs to) to c (contains_first to [])), m)
  item_moves (Out q) c m = call_moves q (item_called g rules (Out q) q c (contains_first q []))

  -- the next slot's name is one of K, and becomes the other's
  abbrev pub SlotMoves : Option ℕ → Option ℕ → Type 0
  SlotMoves None o = Unit {0}
  SlotMoves (Some n) None = ⊥
  SlotMoves (Some n) (Some m) = (m ≡ f n) × K n

  slots_move : (o p : Option ℕ) → SlotMoves o p → SlotIsTarget g o → SameSlot M.MayHold o p
  slots_move None p s t = tt
  slots_move (Some n) None s t = absurd s
  slots_move (Some n) (Some m) s t = (s.0, (s.1, t))

  abbrev TermMoves : Term → Type 0
  TermMoves t = (n : ℕ) → Contains (term_uses t) n → K n

  move_term : {b : Bool} (t : Term) (xs ys : List Line) → TermMoves t → (links t ≡ true → SlotMoves (slot_name xs) (slot_name ys)) → MakeTargets g (term_lines t xs) → Alike M b None xs ys → Alike M b None (term_lines t xs) (term_lines (retargeted_term f t) ys)
  move_term Fall xs ys u s m p = p
  move_term (Jump to) xs ys u s m p = both_end (Jump to) f (refl, u to (contains_first to [])) (λ e. lift p) (λ l. slots_move (slot_name xs) (slot_name ys) (s l) (m.0 l))
  move_term (Branch cond x y to) xs ys u s m p = both_end (Branch cond x y to) f (refl, u to (contains_first to [])) (λ e. lift p) (λ l. slots_move (slot_name xs) (slot_name ys) (s l) (m.0 l))
  move_term (Call link to) xs ys u s m p = both_end (Call link to) f (refl, u to (contains_first to [])) (λ e. lift p) (λ l. slots_move (slot_name xs) (slot_name ys) (s l) (m.0 l))
  move_term (PartJump link part to) xs ys u s m p = both_end (PartJump link part to) f ((refl, u to (contains_first to [])), refl) (λ e. lift p) (λ l. slots_move (slot_name xs) (slot_name ys) (s l) (m.0 l))
  move_term (Indirect link at offset) xs ys u s m p = both_end (Indirect link at offset) f tt (λ e. lift p) (λ l. slots_move (slot_name xs) (slot_name ys) (s l) (m.0 l))
  move_term (Stop word) xs ys u s m p = both_end (Stop word) f tt (λ e. lift p) (λ l. slots_move (slot_name xs) (slot_name ys) (s l) (m.0 l))

  -- what is asked of the items of a block of the graph
  pub items_move : (x : Block) (rest : List Line) → Contains g.blocks x → MakeTargets g (map line_of x.items ++ rest) → AreOf ItemMoves x.items
  items_move x rest c m item d = item_moves item (block_item g rules x item c d) ((items_made x.items rest m).0 item d)

  -- they stand in front of lines that go on alike
  pub move_front : {b : Bool} (x : Block) (rest xs ys : List Line) → Contains g.blocks x → MakeTargets g (map line_of x.items ++ rest) → Alike M b None xs ys → Alike M b None (map line_of x.items ++ xs) (map line_of (retargeted_items f x.items) ++ ys)
  move_front x rest xs ys c m p = move_items x.items xs ys (items_move x rest c m) p

  -- the term of a block of the graph
  pub term_moves : {b : Bool} (x : Block) (xs ys : List Line) → Contains g.blocks x → MakeTargets g (body_lines x xs) → (links x.term ≡ true → SlotMoves (slot_name xs) (slot_name ys)) → Alike M b None xs ys → Alike M b None (term_lines x.term xs) (term_lines (retargeted_term f x.term) ys)
  term_moves x xs ys c m s p = move_term x.term xs ys (λ n d. used n (term_use g x n c d)) s (items_made x.items (term_lines x.term xs) m).1 p

  pub move_body : {b : Bool} (x : Block) (xs ys : List Line) → Contains g.blocks x → MakeTargets g (body_lines x xs) → (links x.term ≡ true → SlotMoves (slot_name xs) (slot_name ys)) → Alike M b None xs ys → Alike M b None (body_lines x xs) (body_lines (retargeted_block f x) ys)
  move_body x xs ys c m s p =
      move_front x (term_lines x.term xs) (term_lines x.term xs) (term_lines (retargeted_term f x.term) ys) c m (term_moves x xs ys c m s p)

  -- from a place of it on
  move_at : (place : ℕ) (items : List Item) (xs ys : List Line) → AreOf ItemMoves items → place ≤ length items → Alike M true None xs ys → Alike M true None (drop place (map line_of items ++ xs)) (drop place (map line_of (retargeted_items f items) ++ ys))
  move_at zero items xs ys each l p = move_items items xs ys each p
  move_at (suc place) [] xs ys each l p = absurd (omega (arith, l))
  move_at (suc place) (item ∷ items) xs ys each l p = move_at place items xs ys (later_items item items each) (omega (arith, l)) p

  pub front_at : (place : ℕ) (x : Block) (rest xs ys : List Line) → Contains g.blocks x → MakeTargets g (map line_of x.items ++ rest) → place ≤ length x.items → Alike M true None xs ys → Alike M true None (drop place (map line_of x.items ++ xs)) (drop place (map line_of (retargeted_items f x.items) ++ ys))
  front_at place x rest xs ys c m l p = move_at place x.items xs ys (items_move x rest c m) l p

  pub body_at : (place : ℕ) (x : Block) (xs ys : List Line) → Contains g.blocks x → MakeTargets g (body_lines x xs) → (links x.term ≡ true → SlotMoves (slot_name xs) (slot_name ys)) → place ≤ length x.items → Alike M true None xs ys → Alike M true None (drop place (body_lines x xs)) (drop place (body_lines (retargeted_block f x) ys))
  body_at place x xs ys c m s l p =
      front_at place x (term_lines x.term xs) (term_lines x.term xs) (term_lines (retargeted_term f x.term) ys) c m l (term_moves x xs ys c m s p)

  module _ (names : (n : ℕ) → K n → Alike M false None (block_lines g n) (block_lines h (f n))) where
    pub steady : IsSteady M
    steady = record {
      carrier = every_carrier g;
      names = λ n n' j. subst (λ k. Alike M false None (block_lines g n) (block_lines h k)) (sym j.0) (names n j.1);
      values = λ n n' v. (v.1.1, (v.0, v.1.0));
    }

    word_held : (i n : ℕ) → slice_get (map word_name g.code_words) i ≡ Some n → (f n ≡ f n) × (K n × Contains (code_targets g) n)
    word_held i n e =
        let c = from_slice (map word_name g.code_words) i n e in (refl, (used n (word_use g n c), word_target g n c))

    pub moved_follows : h.entry ≡ f g.entry → h.code_words ≡ retargeted_words f g.code_words → Follows g h
    moved_follows entry words =
        change_follows M steady
        (entry, used g.entry (contains_first g.entry (code_word_uses g.code_words ++ (terms_uses g.blocks ++ items_uses (all_items g)))))
        (ap (λ ws. map word_address ws) words ∙ same_addresses f g.code_words)
        (ap (λ ws. map word_name ws) words ∙ other_names f g.code_words)
        word_held

    -- it keeps step, too
    pub moved_keeps_step : h.entry ≡ f g.entry → h.code_words ≡ retargeted_words f g.code_words → KeepsStep g h
    moved_keeps_step entry words =
        change_keeps_step M steady (λ may. may)
        (record {
          entry = (entry, used g.entry (contains_first g.entry (code_word_uses g.code_words ++ (terms_uses g.blocks ++ items_uses (all_items g)))));
          names = ap (λ ws. map word_name ws) words ∙ other_names f g.code_words;
          held = word_held;
        })
