-- Links that die after their calls die under other names too: a graph that only has other names is sound where the
-- graph is that it follows.
use Rattle.std.proofs.Common.{◌≡◌, ◌≢◌, ℕ, zero, suc, ◌<◌, ◌⊎◌, true, false, List, [], ◌∷◌, ◌++◌, Some, None, map, slice_get, refl, sym, ap, ◌∙◌, subst, inl, inr, arith}
use Rattle.std.proofs.lemmas.List.Concat.{flat_map-append}
use Rattle.std.proofs.lemmas.List.Elements.{All-map, All-weaker, Contains-append_left, Contains-append_right, Contains-append_cases}
use Rattle.std.specs.List.{All, Contains, flat_map}
use Rattle.sq_graph.specs.declared.item.Item.{Item}
use Rattle.sq_graph.specs.declared.item.Item.TheVariants.{Op, Hi, Lo, Out}
use Rattle.sq_graph.specs.declared.item.Term.{Term}
use Rattle.sq_graph.specs.declared.item.Term.TheVariants.{Fall, Jump, Branch, Call, PartJump, Indirect, Stop}
use Rattle.sq_graph.specs.Graph.{Block, Procedure, Graph}
use Rattle.sq_graph.specs.Blocks.{items_of_blocks, items_of_bodies, all_items}
use Rattle.sq_graph.specs.Uses.{item_uses, uses}
use Rattle.sq_graph.specs.Rules.{IsGraph}
use Rattle.sq_graph.specs.Terms.{links}
use Rattle.sq_graph.specs.Renames.{retargeted_item, retargeted_items, retargeted_term, retargeted_block, retargeted_procedure, retargeted_words}
use Rattle.sq_graph.specs.Lines.{Line, line_of, term_lines, body_lines, lines_of, slot_name, block_lines}
use Rattle.sq_graph.specs.Walks.{IsLive, code_targets, lower_names, link_names, word_name}
use Rattle.sq_graph.specs.Soundness.{IsFreeOf, IsSoundBody, LinksDieIn, IsSound}
use Rattle.law_patch.specs.LiveAgreement.{MakeTargets}
use Rattle.law_patch.specs.Changes.{Alike}
use Rattle.law_patch.proofs.Shrink.{IsBacked, shrinks}
use Rattle.law_patch.proofs.Moving.{M, AreOf, ItemMoves, SlotMoves, move_items, term_moves, items_move, steady, item_use, word_use, other_names, procedure_moved}
use Rattle.law_patch.proofs.Used.{contains_first, contains_later}

-- an element of a list under other names was one of the list
from_map : (f : ℕ → ℕ) (xs : List ℕ) (y : ℕ) → Contains (map f xs) y → (x : ℕ) × (Contains xs x × (y ≡ f x))
from_map f [] y c = absurd (let l : c.0 < 0 = c.1 in omega arith)
from_map f (x ∷ xs) y (zero, l, e) = (x, (contains_first x xs, sym e))
from_map f (x ∷ xs) y (suc k, l, e) = let o = from_map f xs y (k, omega arith, e) in (o.0, (contains_later x o.0 xs o.1.0, o.1.1))

pub lowers-moved : (f : ℕ → ℕ) (items : List Item) → flat_map lower_names (retargeted_items f items) ≡ map f (flat_map lower_names items)
lowers-moved f [] = refl
lowers-moved f (Op insn ∷ items) = lowers-moved f items
lowers-moved f (Hi rd to ∷ items) = lowers-moved f items
lowers-moved f (Lo rd rs to ∷ items) = ap (λ ns. f to ∷ ns) (lowers-moved f items)
lowers-moved f (Out q ∷ items) = lowers-moved f items

-- an item that uses the name
abbrev User : List Item → ℕ → Type 0
User items n = (item : Item) × (Contains items item × Contains (item_uses item) n)

later_user : (first : Item) (items : List Item) (n : ℕ) → User items n → User (first ∷ items) n
later_user first items n o = (o.0, (contains_later first o.0 items o.1.0, o.1.1))

lower_user : (rd rs to : ℕ) (items : List Item) (n : ℕ) → Contains (to ∷ []) n ⊎ Contains (flat_map lower_names items) n → (Contains (flat_map lower_names items) n → User items n) → User (Lo rd rs to ∷ items) n
lower_user rd rs to items n (inl c) later = (Lo rd rs to, (contains_first (Lo rd rs to) items, c))
lower_user rd rs to items n (inr c) later = later_user (Lo rd rs to) items n (later c)

-- the names of Lo items are used
pub lower_use : (items : List Item) (n : ℕ) → Contains (flat_map lower_names items) n → User items n
lower_use [] n c = absurd (let l : c.0 < 0 = c.1 in omega arith)
lower_use (Op insn ∷ items) n c = later_user (Op insn) items n (lower_use items n c)
lower_use (Hi rd to ∷ items) n c = later_user (Hi rd to) items n (lower_use items n c)
lower_use (Lo rd rs to ∷ items) n c =
    lower_user rd rs to items n (Contains-append_cases (to ∷ []) (flat_map lower_names items) n c) (λ d. lower_use items n d)
lower_use (Out q ∷ items) n c = later_user (Out q) items n (lower_use items n c)

blocks_lowers : (bs : List Block) → flat_map (λ (b : Block). flat_map lower_names b.items) bs ≡ flat_map lower_names (items_of_blocks bs)
blocks_lowers [] = refl
blocks_lowers (b ∷ bs) = ap (λ ns. flat_map lower_names b.items ++ ns) (blocks_lowers bs) ∙ sym (flat_map-append lower_names b.items (items_of_blocks bs))

bodies_lowers : (ps : List Procedure) → flat_map (λ (p : Procedure). flat_map lower_names p.body) ps ≡ flat_map lower_names (items_of_bodies ps)
bodies_lowers [] = refl
bodies_lowers (p ∷ ps) = ap (λ ns. flat_map lower_names p.body ++ ns) (bodies_lowers ps) ∙ sym (flat_map-append lower_names p.body (items_of_bodies ps))

-- a body is as sound under other names
free-moved : (f : ℕ → ℕ) (link : ℕ) (item : Item) → IsFreeOf link (line_of item) → IsFreeOf link (line_of (retargeted_item f item))
free-moved f link (Op insn) free = free
free-moved f link (Hi rd to) free = free
free-moved f link (Lo rd rs to) free = free
free-moved f link (Out q) free = free

some-moved : (f : ℕ → ℕ) (items : List Item) → items ≢ [] → retargeted_items f items ≢ []
some-moved f [] some none = some refl
some-moved f (item ∷ items) some none = absurd (cc)

pub body-moved : (f : ℕ → ℕ) (p : Procedure) → IsSoundBody p → IsSoundBody (retargeted_procedure f p)
body-moved f p sound = record {
  some = some-moved f p.body sound.some;
  free = All-map {X = Item} (λ item. IsFreeOf p.link (line_of item)) (retargeted_item f) p.body (All-weaker {X = Item} (λ item. IsFreeOf p.link (line_of item)) (λ item. IsFreeOf p.link (line_of (retargeted_item f item))) (λ item free. free-moved f p.link item free) p.body sound.free);
}

pub links-moved : (f : ℕ → ℕ) (t : Term) → links (retargeted_term f t) ≡ links t
links-moved f Fall = refl
links-moved f (Jump to) = refl
links-moved f (Branch cond a b to) = refl
links-moved f (Call link to) = refl
links-moved f (PartJump link part to) = refl
links-moved f (Indirect link at offset) = refl
links-moved f (Stop word) = refl

pub term_dies : (g : Graph) (t : Term) (lines : List Line) → LinksDieIn g lines → LinksDieIn g (term_lines t lines)
term_dies g Fall lines die = die
term_dies g (Jump to) lines die = die
term_dies g (Branch cond a b to) lines die = die
term_dies g (Call link to) lines die = die
term_dies g (PartJump link part to) lines die = die
term_dies g (Indirect link at offset) lines die = die
term_dies g (Stop word) lines die = die

-- links die in what stands behind a block
pub items_rest : (g : Graph) (items : List Item) (lines : List Line) → LinksDieIn g (map line_of items ++ lines) → LinksDieIn g lines
items_rest g [] lines die = die
items_rest g (Op insn ∷ items) lines die = items_rest g items lines die
items_rest g (Hi rd to ∷ items) lines die = items_rest g items lines die
items_rest g (Lo rd rs to ∷ items) lines die = items_rest g items lines die
items_rest g (Out q ∷ items) lines die = items_rest g items lines die.1

term_rest : (g : Graph) (t : Term) (lines : List Line) → LinksDieIn g (term_lines t lines) → LinksDieIn g lines
term_rest g Fall lines die = die
term_rest g (Jump to) lines die = die
term_rest g (Branch cond a b to) lines die = die
term_rest g (Call link to) lines die = die
term_rest g (PartJump link part to) lines die = die
term_rest g (Indirect link at offset) lines die = die
term_rest g (Stop word) lines die = die

pub body_rest : (g : Graph) (b : Block) (lines : List Line) → LinksDieIn g (body_lines b lines) → LinksDieIn g lines
body_rest g b lines die = term_rest g b.term lines (items_rest g b.items (term_lines b.term lines) die)

-- each call leads to the same body under other names, where all procedures are those of the graph
pub called_by : (f : ℕ → ℕ) (g h : Graph) → h.procedures ≡ map (retargeted_procedure f) g.procedures → (q : ℕ) (p : Procedure) → slice_get g.procedures q ≡ Some p → slice_get h.procedures q ≡ Some (retargeted_procedure f p)
called_by f g h same q p e = ap (λ procedures. slice_get procedures q) same ∙ procedure_moved f g.procedures q p e

module _ (K : ℕ → Type 0) (f : ℕ → ℕ) (g h : Graph) (rules : IsGraph g) (used : (n : ℕ) → Contains (uses g) n → K n) (same : h.procedures ≡ map (retargeted_procedure f) g.procedures) where
  -- what is live at a place of the second graph is live where the first goes on like it
  abbrev pub Backs : Type 0
  Backs = (q : ℕ) (ys : List Line) → IsLive h q ys → IsBacked (M K f g h rules used (called_by f g h same)) q ys

  abbrev MovesTo : List Line → List Line → Type 0
  MovesTo xs ys = Alike (M K f g h rules used (called_by f g h same)) true None xs ys

  some_same : (a b : Procedure) → Some a ≡ Some b → a ≡ b
  some_same a b e = cc

  -- the link that was dead behind a call is dead
  call_dies : Backs → (q : ℕ) (xs ys : List Line) → ItemMoves K f g h rules used (called_by f g h same) (Out q) → MovesTo xs ys → ((p : Procedure) → slice_get g.procedures q ≡ Some p → ¬ IsLive g p.link xs) → (p : Procedure) → slice_get h.procedures q ≡ Some p → ¬ IsLive h p.link ys
  call_dies backs q xs ys t k dead p e live =
      let found : slice_get h.procedures q ≡ Some (retargeted_procedure f t.0) = ap (λ procedures. slice_get procedures q) same ∙ procedure_moved f g.procedures q t.0 t.1.0 in
      let link : p.link ≡ t.0.link = ap (λ (d : Procedure). d.link) (some_same p (retargeted_procedure f t.0) (sym e ∙ found)) in
      let o = backs p.link ys live true None xs k in
      let is : p.link ≡ o.0 = o.1.0 in
      dead t.0 t.1.0 (subst (λ r. IsLive g r xs) (sym is ∙ link) o.1.1)

  pub items_die : Backs → (items : List Item) (xs ys : List Line) → AreOf K f g h rules used (called_by f g h same) (ItemMoves K f g h rules used (called_by f g h same)) items → MovesTo xs ys → LinksDieIn g (map line_of items ++ xs) → LinksDieIn h ys → LinksDieIn h (map line_of (retargeted_items f items) ++ ys)
  items_die backs [] xs ys each k die die' = die'
  items_die backs (Op insn ∷ items) xs ys each k die die' = items_die backs items xs ys (λ item c. each item (contains_later (Op insn) item items c)) k die die'
  items_die backs (Hi rd to ∷ items) xs ys each k die die' = items_die backs items xs ys (λ item c. each item (contains_later (Hi rd to) item items c)) k die die'
  items_die backs (Lo rd rs to ∷ items) xs ys each k die die' = items_die backs items xs ys (λ item c. each item (contains_later (Lo rd rs to) item items c)) k die die'
  items_die backs (Out q ∷ items) xs ys each k die die' =
      let later = λ (item : Item) (c : Contains items item). each item (contains_later (Out q) item items c) in (
        call_dies backs q (map line_of items ++ xs) (map line_of (retargeted_items f items) ++ ys) (each (Out q) (contains_first (Out q) items)) (move_items K f g h rules used (called_by f g h same) items xs ys later k) die.0,
        items_die backs items xs ys later k die.1 die',
      )

  -- the items of a block of the graph in front of lines in which links die
  pub front_dies : Backs → (x : Block) (rest xs ys : List Line) → Contains g.blocks x → MakeTargets g (map line_of x.items ++ rest) → MovesTo xs ys → LinksDieIn g (map line_of x.items ++ xs) → LinksDieIn h ys → LinksDieIn h (map line_of (retargeted_items f x.items) ++ ys)
  front_dies backs x rest xs ys c m k die die' = items_die backs x.items xs ys (items_move K f g h rules used (called_by f g h same) x rest c m) k die die'

  pub body_dies : Backs → (x : Block) (xs ys : List Line) → Contains g.blocks x → MakeTargets g (body_lines x xs) → (links x.term ≡ true → SlotMoves K f g h rules used (called_by f g h same) (slot_name xs) (slot_name ys)) → MovesTo xs ys → LinksDieIn g (body_lines x xs) → LinksDieIn h ys → LinksDieIn h (body_lines (retargeted_block f x) ys)
  body_dies backs x xs ys c m s k die die' =
      front_dies backs x (term_lines x.term xs) (term_lines x.term xs) (term_lines (retargeted_term f x.term) ys) c m
      (term_moves K f g h rules used (called_by f g h same) x xs ys c m s k) die (term_dies h (retargeted_term f x.term) ys die')

  module _ (names : (n : ℕ) → K n → Alike (M K f g h rules used (called_by f g h same)) false None (block_lines g n) (block_lines h (f n))) (words : h.code_words ≡ retargeted_words f g.code_words) (items : items_of_blocks h.blocks ≡ retargeted_items f (items_of_blocks g.blocks)) (bodies : items_of_bodies h.procedures ≡ retargeted_items f (items_of_bodies g.procedures)) (slots : (n : ℕ) → Contains (link_names h.blocks) n → (m : ℕ) × (Contains (link_names g.blocks) m × (n ≡ f m))) (known : (n : ℕ) → Contains (link_names g.blocks) n → K n) where
    abbrev Target : ℕ → Type 0
    Target n = (m : ℕ) × (Contains (code_targets g) m × ((n ≡ f m) × K m))

    abbrev words_part : List ℕ
    words_part = map word_name g.code_words

    abbrev blocks_part : List ℕ
    blocks_part = flat_map (λ (b : Block). flat_map lower_names b.items) g.blocks

    abbrev bodies_part : List ℕ
    bodies_part = flat_map (λ (p : Procedure). flat_map lower_names p.body) g.procedures

    in_words : (m : ℕ) → Contains words_part m → Contains (code_targets g) m
    in_words m c = Contains-append_left ((words_part ++ blocks_part) ++ bodies_part) (link_names g.blocks) m (Contains-append_left (words_part ++ blocks_part) bodies_part m (Contains-append_left words_part blocks_part m c))

    in_blocks : (m : ℕ) → Contains blocks_part m → Contains (code_targets g) m
    in_blocks m c = Contains-append_left ((words_part ++ blocks_part) ++ bodies_part) (link_names g.blocks) m (Contains-append_left (words_part ++ blocks_part) bodies_part m (Contains-append_right words_part blocks_part m c))

    in_bodies : (m : ℕ) → Contains bodies_part m → Contains (code_targets g) m
    in_bodies m c = Contains-append_left ((words_part ++ blocks_part) ++ bodies_part) (link_names g.blocks) m (Contains-append_right (words_part ++ blocks_part) bodies_part m c)

    in_links : (m : ℕ) → Contains (link_names g.blocks) m → Contains (code_targets g) m
    in_links m c = Contains-append_right ((words_part ++ blocks_part) ++ bodies_part) (link_names g.blocks) m c

    lower_known : (m : ℕ) (some : List Item) → ((item : Item) → Contains some item → Contains (all_items g) item) → Contains (flat_map lower_names some) m → K m
    lower_known m some inside c = let o = lower_use some m c in used m (item_use g o.0 m (inside o.0 o.1.0) o.1.1)

    from_words : (n : ℕ) → Contains (map word_name h.code_words) n → Target n
    from_words n c =
        let o = from_map f words_part n (subst (λ ns. Contains ns n) (ap (λ ws. map word_name ws) words ∙ other_names f g.code_words) c) in
        (o.0, (in_words o.0 o.1.0, (o.1.1, used o.0 (word_use g o.0 o.1.0))))

    from_blocks : (n : ℕ) → Contains (flat_map (λ (b : Block). flat_map lower_names b.items) h.blocks) n → Target n
    from_blocks n c =
        let are = blocks_lowers h.blocks ∙ ap (flat_map lower_names) items ∙ lowers-moved f (items_of_blocks g.blocks) in
        let o = from_map f (flat_map lower_names (items_of_blocks g.blocks)) n (subst (λ ns. Contains ns n) are c) in
        (o.0, (in_blocks o.0 (subst (λ ns. Contains ns o.0) (sym (blocks_lowers g.blocks)) o.1.0), (o.1.1, lower_known o.0 (items_of_blocks g.blocks) (λ item d. Contains-append_left (items_of_blocks g.blocks) (items_of_bodies g.procedures) item d) o.1.0)))

    from_bodies : (n : ℕ) → Contains (flat_map (λ (p : Procedure). flat_map lower_names p.body) h.procedures) n → Target n
    from_bodies n c =
        let are = bodies_lowers h.procedures ∙ ap (flat_map lower_names) bodies ∙ lowers-moved f (items_of_bodies g.procedures) in
        let o = from_map f (flat_map lower_names (items_of_bodies g.procedures)) n (subst (λ ns. Contains ns n) are c) in
        (o.0, (in_bodies o.0 (subst (λ ns. Contains ns o.0) (sym (bodies_lowers g.procedures)) o.1.0), (o.1.1, lower_known o.0 (items_of_bodies g.procedures) (λ item d. Contains-append_right (items_of_blocks g.blocks) (items_of_bodies g.procedures) item d) o.1.0)))

    from_links : (n : ℕ) → Contains (link_names h.blocks) n → Target n
    from_links n c = let o = slots n c in (o.0, (in_links o.0 o.1.0, (o.1.1, known o.0 o.1.0)))

    either : {A B : Type 0} (n : ℕ) → A ⊎ B → (A → Target n) → (B → Target n) → Target n
    either n (inl a) p q = p a
    either n (inr b) p q = q b

    -- each code target of the second graph is one of the first under its other name
    targets : (n : ℕ) → Contains (code_targets h) n → Target n
    targets n c =
        let ws = map word_name h.code_words in
        let bs = flat_map (λ (b : Block). flat_map lower_names b.items) h.blocks in
        let ps = flat_map (λ (p : Procedure). flat_map lower_names p.body) h.procedures in
        either n (Contains-append_cases ((ws ++ bs) ++ ps) (link_names h.blocks) n c)
        (λ d. either n (Contains-append_cases (ws ++ bs) ps n d)
        (λ e. either n (Contains-append_cases ws bs n e) (from_words n) (from_blocks n)) (from_bodies n))
        (from_links n)

    pub backs : Backs
    backs q ys live = shrinks (M K f g h rules used (called_by f g h same)) (steady K f g h rules used (called_by f g h same) names) targets (λ xs r l. tt) tt q live

    pub moved_sound : IsSound g → LinksDieIn h (lines_of h.blocks) → IsSound h
    moved_sound sound die = record {
      bodies = subst (λ (ps : List Procedure). All IsSoundBody ps) (sym same) (All-map IsSoundBody (retargeted_procedure f) g.procedures (All-weaker IsSoundBody (λ p. IsSoundBody (retargeted_procedure f p)) (λ p body. body-moved f p body) g.procedures sound.bodies));
      links_die = die;
    }
