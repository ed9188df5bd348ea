-- Blocks by their positions, where they lead by nodes, and what was computed of them.
use Rattle.std.proofs.Common.{◌≡◌, ℕ, zero, suc, ◌+◌, ◌<◌, ◌≤◌, ◌↔◌, ◌==◌, ◌⊎◌, inl, inr, ⊎_elim, true, List, [], ◌∷◌, ◌++◌, map, drop, length, get_or, Option, Some, None, option_to_list, slice_get, refl, sym, ap, ◌∙◌, subst, arith}
use Rattle.std.specs.List.{Contains, All, flat_map}
use Rattle.std.proofs.lemmas.Bool.{cases_Bool, cases_eq, cases_lt, eqb-true}
use Rattle.std.proofs.lemmas.Option.{slice_get_within}
use Rattle.std.proofs.lemmas.List.{get_or_default}
use Rattle.std.proofs.lemmas.List.Elements.{All-contains, Contains-append_left, Contains-append_cases}
use Rattle.sq_isa.specs.Registers.{is_member}
use Rattle.sq_arena.specs.Entries.{value_of}
use Rattle.sq_graph.specs.declared.item.Item.{Item}
use Rattle.sq_graph.specs.declared.item.Item.TheVariants.{Op, Hi, Lo, Out}
use Rattle.sq_graph.specs.declared.item.Term.{Term}
use Rattle.sq_graph.specs.declared.item.Term.TheVariants.{Fall, Jump, Branch, Call, PartJump, Indirect, Stop}
use Rattle.sq_graph.specs.Graph.{Block, Graph}
use Rattle.sq_graph.specs.Blocks.{named, HasProcedure, items_of_blocks, items_of_bodies, all_items}
use Rattle.sq_graph.specs.Uses.{item_calls, calls as calls_of}
use Rattle.sq_graph.specs.Rules.{IsGraph}
use Rattle.sq_graph.specs.Lines.{Line, line_of, term_lines, body_lines, lines_of, behind_name, block_lines}
use Rattle.sq_graph.specs.Walks.{code_targets}
use Rattle.sq_live.specs.declared.effect.Effect.{Effect}
use Rattle.sq_live.specs.Effects.{AreCalls, AreBlocks}
use Rattle.sq_live.specs.Exits.{position_in, nodes_of, listed, term_exits, next_node, blocks_exits}
use Rattle.sq_live.specs.Search.{list_at, Leads}
use Rattle.sq_live.proofs.Layouts.{item_at}
use Rattle.sq_live.proofs.Searches.{contains_head, contains_cases, contains_none}
use Rattle.sq_live.proofs.Ahead.{IsThere}

-- Lists

pub none_or_some : {X : Type 0} (o : Option X) → (o ≡ None) ⊎ ((x : X) × (o ≡ Some x))
none_or_some None = inl refl
none_or_some (Some x) = inr (x, refl)

pub option_contains : {X : Type 0} (o : Option X) (x : X) → Contains (option_to_list o) x → o ≡ Some x
option_contains None x c = absurd (contains_none x c)
option_contains (Some y) x c = ⊎_elim (λ (e : y ≡ x). ap Some e) (λ (d : Contains [] x). absurd (contains_none x d)) (contains_cases y [] x c)

pub listed_cases : (a b : Option ℕ) (x : ℕ) → Contains (listed a b) x → (a ≡ Some x) ⊎ (b ≡ Some x)
listed_cases a b x c =
    ⊎_elim (λ (d : Contains (option_to_list a) x). inl (option_contains a x d))
    (λ (d : Contains (option_to_list b) x). inr (option_contains b x d))
    (Contains-append_cases (option_to_list a) (option_to_list b) x c)

pub contains_right : {X : Type 0} (xs ys : List X) (x : X) → Contains ys x → Contains (xs ++ ys) x
contains_right [] ys x c = c
contains_right (y ∷ xs) ys x c = let d = contains_right xs ys x c in (suc d.0, omega (arith, d.1), d.2)

pub nodes_contains : (at : ℕ → Option ℕ) (names : List ℕ) (m k : ℕ) → Contains names m → at m ≡ Some k → Contains (nodes_of at names) k
nodes_contains at [] m k c e = absurd (contains_none m c)
nodes_contains at (n ∷ names) m k c e =
    ⊎_elim
    (λ (same : n ≡ m).
    let here : Contains (option_to_list (at n)) k = subst (λ o. Contains (option_to_list o) k) (sym e ∙ ap at (sym same)) (contains_head k []) in
    Contains-append_left (option_to_list (at n)) (nodes_of at names) k here)
    (λ (d : Contains names m). contains_right (option_to_list (at n)) (nodes_of at names) k (nodes_contains at names m k d e))
    (contains_cases n names m c)

pub nodes_come : (at : ℕ → Option ℕ) (names : List ℕ) (k : ℕ) → Contains (nodes_of at names) k → (m : ℕ) × (Contains names m × (at m ≡ Some k))
nodes_come at [] k c = absurd (contains_none k c)
nodes_come at (n ∷ names) k c =
    ⊎_elim
    (λ (d : Contains (option_to_list (at n)) k). (n, (contains_head n names, option_contains (at n) k d)))
    (λ (d : Contains (nodes_of at names) k). let r = nodes_come at names k d in (r.0, (contains_right (n ∷ []) names r.0 r.1.0, r.1.1)))
    (Contains-append_cases (option_to_list (at n)) (nodes_of at names) k c)

pub flat_contains : {X Y : Type 0} (f : X → List Y) (xs : List X) (x : X) (y : Y) → Contains xs x → Contains (f x) y → Contains (flat_map f xs) y
flat_contains f [] x y c d = absurd (contains_none x c)
flat_contains f (z ∷ xs) x y c d =
    ⊎_elim
    (λ (e : z ≡ x). Contains-append_left (f z) (flat_map f xs) y (subst (λ w. Contains (f w) y) (sym e) d))
    (λ (e : Contains xs x). contains_right (f z) (flat_map f xs) y (flat_contains f xs x y e d))
    (contains_cases z xs x c)

pub get_contains : {X : Type 0} (xs : List X) (k : ℕ) (x : X) → slice_get xs k ≡ Some x → Contains xs x
get_contains [] k x e = absurd (cc)
get_contains (y ∷ xs) zero x e = let same : y ≡ x = let f : Some y ≡ Some x = e in cc in subst (Contains (y ∷ xs)) same (contains_head y xs)
get_contains (y ∷ xs) (suc k) x e = contains_right (y ∷ []) xs x (get_contains xs k x e)

pub drop_suc : {X : Type 0} (xs : List X) (k : ℕ) (x : X) (rest : List X) → drop k xs ≡ x ∷ rest → drop (k + 1) xs ≡ rest
drop_suc [] zero x rest e = absurd (cc)
drop_suc [] (suc k) x rest e = absurd (cc)
drop_suc (y ∷ xs) zero x rest e = cc
drop_suc (y ∷ xs) (suc k) x rest e = let sum : suc k + 1 ≡ suc (k + 1) = omega arith in ap (λ n. drop n (y ∷ xs)) sum ∙ drop_suc xs k x rest e

pub get_drop : {X : Type 0} (xs : List X) (k : ℕ) (x : X) (rest : List X) → drop k xs ≡ x ∷ rest → slice_get xs k ≡ Some x
get_drop [] zero x rest e = absurd (cc)
get_drop [] (suc k) x rest e = absurd (cc)
get_drop (y ∷ xs) zero x rest e = let same : y ≡ x = cc in ap Some same
get_drop (y ∷ xs) (suc k) x rest e = get_drop xs k x rest e

-- Names

pub skip_items : (m : ℕ) (items : List Item) (rest : List Line) → behind_name m (map line_of items ++ rest) ≡ behind_name m rest
skip_items m [] rest = refl
skip_items m (Op insn ∷ items) rest = skip_items m items rest
skip_items m (Hi rd to ∷ items) rest = skip_items m items rest
skip_items m (Lo rd rs to ∷ items) rest = skip_items m items rest
skip_items m (Out procedure ∷ items) rest = skip_items m items rest

pub skip_term : (m : ℕ) (t : Term) (rest : List Line) → behind_name m (term_lines t rest) ≡ behind_name m rest
skip_term m Fall rest = refl
skip_term m (Jump to) rest = refl
skip_term m (Branch cond a b to) rest = refl
skip_term m (Call link to) rest = refl
skip_term m (PartJump link part to) rest = refl
skip_term m (Indirect link at offset) rest = refl
skip_term m (Stop word) rest = refl

pub skip_block : (m : ℕ) (b : Block) (rest : List Line) → behind_name m (body_lines b rest) ≡ behind_name m rest
skip_block m b rest = skip_items m b.items (term_lines b.term rest) ∙ skip_term m b.term rest

abbrev pub names_in : List Block → List ℕ
names_in blocks = map (λ b. b.name) blocks

-- where a block stands, and what stands from its first item on
pub record IsFound (blocks : List Block) (j m k : ℕ) : Type 0 where
  pub index : ℕ
  pub block : Block
  pub back : List Block
  pub position : k ≡ j + index
  pub name : block.name ≡ m
  pub value : value_of (named blocks) m ≡ Some block
  pub rest : drop index blocks ≡ block ∷ back
  pub lines : behind_name m (lines_of blocks) ≡ body_lines block (lines_of back)

pub found : (blocks : List Block) (j m k : ℕ) → position_in (names_in blocks) j m ≡ Some k → IsFound blocks j m k
found [] j m k e = absurd (cc)
found (b ∷ blocks) j m k e =
    elim (cases_Bool (b.name == m)) [
      | inl here ↦
          let same : j ≡ k = let f : Some j ≡ Some k = rw here at e in cc in
          record { index = 0; block = b; back = blocks; position = omega arith; name = eqb-true b.name m here; value = rw here refl; rest = refl; lines = rw here refl }
      | inr apart ↦
          let r = found blocks (j + 1) m k (rw apart at e) in
          record {
            index = suc r.index;
            block = r.block;
            back = r.back;
            position = let p = r.position in omega arith;
            name = r.name;
            value = rw apart r.value;
            rest = r.rest;
            lines = rw apart (skip_block m b (lines_of blocks) ∙ r.lines);
          }
    ]

pub absent : (blocks : List Block) (j m : ℕ) → position_in (names_in blocks) j m ≡ None → (value_of (named blocks) m ≡ None) × (behind_name m (lines_of blocks) ≡ [])
absent [] j m e = (refl, refl)
absent (b ∷ blocks) j m e =
    elim (cases_Bool (b.name == m)) [
      | inl here ↦ absurd (let f : Some j ≡ None = rw here at e in cc)
      | inr apart ↦
          let r = absent blocks (j + 1) m (rw apart at e) in
          (rw apart r.0, rw apart (skip_block m b (lines_of blocks) ∙ r.1))
    ]

-- Exits

module _ (at : ℕ → Option ℕ) (n : ℕ) where
  pub block_exits : (blocks : List Block) (j i : ℕ) (b : Block) (back : List Block) (last : List (List ℕ)) → drop i blocks ≡ b ∷ back → list_at (blocks_exits at n j blocks ++ last) i ≡ term_exits at n (next_node (j + i) back) b.term
  block_exits [] j zero b back last e = absurd (cc)
  block_exits [] j (suc i) b back last e = absurd (cc)
  block_exits (x ∷ blocks) j zero b back last e =
      let same : x ≡ b = cc in
      let rest : blocks ≡ back = cc in
      let sum : j ≡ j + 0 = omega arith in
      ap (λ y. term_exits at n (next_node j blocks) y.term) same ∙ ap (λ ys. term_exits at n (next_node j ys) b.term) rest ∙ ap (λ i. term_exits at n (next_node i back) b.term) sum
  block_exits (x ∷ blocks) j (suc i) b back last e =
      let sum : j + 1 + i ≡ j + suc i = omega arith in
      block_exits blocks (j + 1) i b back last e ∙ ap (λ k. term_exits at n (next_node k back) b.term) sum

  pub last_exits : (blocks : List Block) (j : ℕ) (last : List ℕ) → list_at (blocks_exits at n j blocks ++ last ∷ []) (length blocks) ≡ last
  last_exits [] j last = refl
  last_exits (b ∷ blocks) j last = last_exits blocks (j + 1) last

  pub exits_count : (blocks : List Block) (j : ℕ) (last : List ℕ) → length (blocks_exits at n j blocks ++ last ∷ []) ≡ length blocks + 1
  exits_count [] j last = refl
  exits_count (b ∷ blocks) j last = let e = exits_count blocks (j + 1) last in omega arith

  pub past_exits : (blocks : List Block) (j k : ℕ) (last : List ℕ) → length blocks < k → list_at (blocks_exits at n j blocks ++ last ∷ []) k ≡ []
  past_exits [] j zero last h = absurd (omega arith)
  past_exits [] j (suc k) last h = refl
  past_exits (b ∷ blocks) j zero last h = absurd (omega arith)
  past_exits (b ∷ blocks) j (suc k) last h = past_exits blocks (j + 1) k last (omega arith)

-- What is computed

pub record IsLaidOut (g : Graph) (names : List ℕ) (at : ℕ → Option ℕ) (calls effects : List Effect) (exits : List (List ℕ)) : Type 0 where
  pub rules : IsGraph g
  pub names_are : names ≡ names_in g.blocks
  pub at_is : (m : ℕ) → at m ≡ position_in names 0 m
  pub calls_are : AreCalls g.procedures calls
  pub effects_are : AreBlocks calls g.blocks effects
  pub effects_count : length effects ≡ length names + 1
  pub exits_are : exits ≡ blocks_exits at (length names) 0 g.blocks ++ nodes_of at (code_targets g) ∷ []

-- and with the sets of the nodes
pub record IsSolved (g : Graph) (names : List ℕ) (at : ℕ → Option ℕ) (calls effects : List Effect) (exits : List (List ℕ)) (nodes : List ℕ) : Type 0 where
  pub laid : IsLaidOut g names at calls effects exits
  pub nodes_are : (k r : ℕ) → k < length effects → 0 < r → r < 32 → (is_member (get_or nodes k 0) r ≡ true) ↔ Leads effects exits r k

-- facts that need no register
module _ (g : Graph) (names : List ℕ) (at : ℕ → Option ℕ) (calls effects : List Effect) (exits : List (List ℕ)) (s : IsLaidOut g names at calls effects exits) where
  pub names_count : length names ≡ length g.blocks
  names_count = ap length s.names_are ∙ length_names g.blocks
    where
      length_names : (blocks : List Block) → length (names_in blocks) ≡ length blocks
      length_names [] = refl
      length_names (b ∷ blocks) = ap suc (length_names blocks)

  -- the block of a name that has a position
  pub at_block : (m k : ℕ) → at m ≡ Some k → IsFound g.blocks 0 m k
  at_block m k e = found g.blocks 0 m k (sym (s.at_is m ∙ ap (λ ns. position_in ns 0 m) s.names_are) ∙ e)

  pub at_nothing : (m : ℕ) → at m ≡ None → (value_of (named g.blocks) m ≡ None) × (block_lines g m ≡ [])
  at_nothing m e = absent g.blocks 0 m (sym (s.at_is m ∙ ap (λ ns. position_in ns 0 m) s.names_are) ∙ e)

  pub block_rest : (m k : ℕ) (f : IsFound g.blocks 0 m k) → drop k g.blocks ≡ f.block ∷ f.back
  block_rest m k f = ap (λ i. drop i g.blocks) (let p = f.position in omega arith) ∙ f.rest

  pub exits_at : (k : ℕ) (b : Block) (back : List Block) → drop k g.blocks ≡ b ∷ back → list_at exits k ≡ term_exits at (length names) (next_node k back) b.term
  exits_at k b back e =
      let sum : 0 + k ≡ k = omega arith in
      ap (λ xs. list_at xs k) s.exits_are
      ∙ block_exits at (length names) g.blocks 0 k b back (nodes_of at (code_targets g) ∷ []) e
      ∙ ap (λ i. term_exits at (length names) (next_node i back) b.term) sum

  pub exits_of_targets : list_at exits (length names) ≡ nodes_of at (code_targets g)
  exits_of_targets =
      ap (λ xs. list_at xs (length names)) s.exits_are
      ∙ ap (list_at (blocks_exits at (length names) 0 g.blocks ++ nodes_of at (code_targets g) ∷ [])) names_count
      ∙ last_exits at (length names) g.blocks 0 (nodes_of at (code_targets g))

  pub exits_length : length exits ≡ length effects
  exits_length = ap length s.exits_are ∙ exits_count at (length names) g.blocks 0 (nodes_of at (code_targets g)) ∙ ap (λ n. n + 1) (sym names_count) ∙ sym s.effects_count

  pub position_below : (m k : ℕ) → at m ≡ Some k → k < length names
  position_below m k e =
      let f = at_block m k e in
      let h = slice_get_within g.blocks k f.block (get_drop g.blocks k f.block f.back (block_rest m k f)) in
      subst (λ n. k < n) (sym names_count) h

  pub next_below : (k to : ℕ) (back : List Block) → drop (k + 1) g.blocks ≡ back → next_node k back ≡ Some to → to < length names
  next_below k to [] e h = absurd (cc)
  next_below k to (b ∷ back) e h =
      let same : k + 1 ≡ to = let f : Some (k + 1) ≡ Some to = h in cc in
      let below = slice_get_within g.blocks (k + 1) b (get_drop g.blocks (k + 1) b back e) in
      subst (λ i. i < length names) same (subst (λ n. k + 1 < n) (sym names_count) below)

  pub exit_below : (t : Term) (k to : ℕ) (back : List Block) → drop (k + 1) g.blocks ≡ back → Contains (term_exits at (length names) (next_node k back) t) to → to ≤ length names
  exit_below t k to back e c = in_list t c
    where
      named_below : (m : ℕ) (o : Option ℕ) → (o ≡ Some to → to ≤ length names) → Contains (listed (at m) o) to → to ≤ length names
      named_below m o h c =
          ⊎_elim (λ (f : at m ≡ Some to). let lt = position_below m to f in omega arith) (λ (f : o ≡ Some to). h f) (listed_cases (at m) o to c)

      none_below : None ≡ Some to → to ≤ length names
      none_below f = absurd (cc)

      slot_below : next_node k back ≡ Some to → to ≤ length names
      slot_below f = let lt = next_below k to back e f in omega arith

      in_list : (t : Term) → Contains (term_exits at (length names) (next_node k back) t) to → to ≤ length names
      in_list Fall c = ⊎_elim (λ (f : next_node k back ≡ Some to). slot_below f) (λ (f : None ≡ Some to). none_below f) (listed_cases (next_node k back) None to c)
      in_list (Jump m) c = named_below m None none_below c
      in_list (Branch cond a b m) c = named_below m (next_node k back) slot_below c
      in_list (Call link m) c = named_below m None none_below c
      in_list (PartJump link part m) c = named_below m None none_below c
      in_list (Indirect link x offset) c =
          ⊎_elim (λ (f : Some (length names) ≡ Some to). let same : length names ≡ to = cc in omega arith) (λ (f : None ≡ Some to). none_below f) (listed_cases (Some (length names)) None to c)
      in_list (Stop word) c = ⊎_elim (λ (f : None ≡ Some to). none_below f) (λ (f : None ≡ Some to). none_below f) (listed_cases None None to c)

  -- every exit is a node
  pub exits_there : (from to : ℕ) → Contains (list_at exits from) to → to < length effects
  exits_there from to c =
      let most : to ≤ length names = split (cases_eq from (length names)) in
      let size = s.effects_count in
      omega arith
    where
      split : (from ≡ length names) ⊎ (from ≡ length names → ⊥) → to ≤ length names
      split (inl e) =
          let d = subst (λ xs. Contains xs to) (ap (list_at exits) e ∙ exits_of_targets) c in
          let m = nodes_come at (code_targets g) to d in
          let lt = position_below m.0 to m.1.1 in omega arith
      split (inr apart) = elsewhere (cases_lt from (length g.blocks))
        where
          elsewhere : (from < length g.blocks) ⊎ (length g.blocks ≤ from) → to ≤ length names
          elsewhere (inl h) =
              let b = item_at g.blocks from h in
              let d = subst (λ xs. Contains xs to) (exits_at from b.item (drop (from + 1) g.blocks) b.rest) c in
              exit_below b.item.term from to (drop (from + 1) g.blocks) refl d
          elsewhere (inr h) =
              let past : length g.blocks < from = let same = names_count in omega arith in
              absurd (contains_none to (subst (λ xs. Contains xs to) (ap (λ xs. list_at xs from) s.exits_are ∙ past_exits at (length names) g.blocks 0 from (nodes_of at (code_targets g)) past) c))

  -- what calls in a block's items call is there
  pub there : (k : ℕ) (b : Block) → slice_get g.blocks k ≡ Some b → All (IsThere g) b.items
  there k b e i d within =
      let item = get_or b.items i d in
      λ p c.
      let in_items : Contains b.items (get_or b.items i d) = (i, within, get_or_default b.items i (get_or b.items i d) d within) in
      let in_blocks : Contains (items_of_blocks g.blocks) (get_or b.items i d) = flat_contains (λ x. x.items) g.blocks b (get_or b.items i d) (get_contains g.blocks k b e) in_items in
      let in_all : Contains (all_items g) (get_or b.items i d) = Contains-append_left (items_of_blocks g.blocks) (items_of_bodies g.procedures) (get_or b.items i d) in_blocks in
      let called : HasProcedure g p = All-contains (HasProcedure g) (calls_of g) p s.rules.called_all (flat_contains item_calls (all_items g) (get_or b.items i d) p in_all c) in
      let a = item_at g.procedures p called in
      (a.item, a.at)
