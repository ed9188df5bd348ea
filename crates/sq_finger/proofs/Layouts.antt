-- The blocks of a graph in layout order.
use Rattle.std.proofs.Common.{◌≡◌, ℕ, zero, suc, ◌<◌, ◌≤◌, ◌==◌, ◌↔◌, Contains, List, [], ◌∷◌, ◌++◌, map, length, get_or, length-append, append_assoc, Option, Some, None, IsSome, refl, sym, ap, ◌∙◌, subst, inl, inr, arith}
use Rattle.std.proofs.lemmas.Bool.{cases_Bool, eqb-true, eq-eqb}
use Rattle.std.proofs.lemmas.Option.{slice_get_within, get_or_from_slice_get}
use Rattle.std.proofs.lemmas.List.Elements.{All-contains, Contains-append_left, Contains-append_right}
use Rattle.sq_graph.specs.declared.item.Item.{Item}
use Rattle.sq_arena.specs.Entries.{keys, HasDistinctKeys, value_of, before, behind, starting_at, first_key, next_key}
use Rattle.sq_arena.proofs.EntriesLaws.{absent_ahead}
use Rattle.sq_graph.specs.Graph.{Block, Graph}
use Rattle.sq_graph.specs.Blocks.{named, block_of, block_items, HasBlock, items_of, items_of_blocks, items_of_bodies, all_items}
use Rattle.sq_graph.specs.Cursor.{IsPlace, rest_from}
use Rattle.sq_graph.specs.Parts.{names_of}
use Rattle.sq_graph.specs.Rules.{ItemFits, IsGraph}
use Rattle.sq_graph.specs.Slotted.{position_in}
use Rattle.sq_graph.proofs.Slotting.{at_position}
use Rattle.sq_graph.proofs.Located.{located, named-append, items_of_blocks-append, value_of-at}
use Rattle.sq_graph.proofs.CursorLaws.{behind_parts}
use Rattle.sq_finger.proofs.Grouping.{contains_at, at_contains}

-- ---- a cursor that only reads

module _ {T : Type 0} where
  at_key : (es : List (ℕ × T)) (key : ℕ) (value : T) → value_of es key ≡ Some value → es ≡ before es key ++ (key, value) ∷ behind es key
  at_key [] key value found = absurd (cc)
  at_key (e ∷ rest) key value found =
      elim (cases_Bool (e.0 == key)) [
        | inl here ↦
            let same : e.1 ≡ value = let f : Some e.1 ≡ Some value = rw here at found in cc in
            rw here (ap (λ k. (k, e.1) ∷ rest) (eqb-true e.0 key here) ∙ ap (λ v. (key, v) ∷ rest) same)
        | inr apart ↦ rw apart (ap (λ ps. e ∷ ps) (at_key rest key value (rw apart at found)))
      ]

  starting_at-key : (es : List (ℕ × T)) (key : ℕ) (value : T) → value_of es key ≡ Some value → starting_at es key ≡ (key, value) ∷ behind es key
  starting_at-key [] key value found = absurd (cc)
  starting_at-key (e ∷ rest) key value found =
      elim (cases_Bool (e.0 == key)) [
        | inl here ↦
            let same : e.1 ≡ value = let f : Some e.1 ≡ Some value = rw here at found in cc in
            rw here (ap (λ k. (k, e.1) ∷ rest) (eqb-true e.0 key here) ∙ ap (λ v. (key, v) ∷ rest) same)
        | inr apart ↦ rw apart (starting_at-key rest key value (rw apart at found))
      ]

  some_value : (o : Option T) → IsSome o → (x : T) × (o ≡ Some x)
  some_value None h = absurd (cc)
  some_value (Some x) h = (x, refl)

  -- the place goes on to the next key
  pub record GoesOn (es : List (ℕ × T)) (key : ℕ) : Type 0 where
    pub is_place : IsPlace es (next_key es key)
    pub keys_are : keys (rest_from es (Some key)) ≡ key ∷ keys (rest_from es (next_key es key))

  pub goes_on : (es : List (ℕ × T)) (key : ℕ) → HasDistinctKeys es → IsSome (value_of es key) → GoesOn es key
  goes_on es key distinct there =
      let v = some_value (value_of es key) there in
      let split = at_key es key v.0 v.1 in
      let parts = behind_parts (before es key) (behind es key) (key, v.0) (subst HasDistinctKeys split distinct) in
      let place : IsPlace es (next_key es key) = subst (λ ps. IsPlace ps (first_key (behind es key))) (sym split) parts.place in
      let rest : rest_from es (next_key es key) ≡ behind es key = subst (λ ps. rest_from ps (first_key (behind es key)) ≡ behind es key) (sym split) parts.rest in
      record {
        is_place = place;
        keys_are = ap keys (starting_at-key es key v.0 v.1) ∙ ap (λ ps. key ∷ keys ps) (sym rest);
      }

pub keys-named : (blocks : List Block) → keys (named blocks) ≡ map (λ b. b.name) blocks
keys-named [] = refl
keys-named (b ∷ blocks) = ap (λ ks. b.name ∷ ks) (keys-named blocks)

pub length-keys : {T : Type 0} (es : List (ℕ × T)) → length (keys es) ≡ length es
length-keys [] = refl
length-keys (e ∷ es) = ap suc (length-keys es)

-- ---- names and items

pub length-names : (blocks : List Block) → length (map (λ b. b.name) blocks) ≡ length blocks
length-names [] = refl
length-names (b ∷ blocks) = ap suc (length-names blocks)

named_there : (blocks : List Block) (k : ℕ) → k < length (map (λ b. b.name) blocks) → IsSome (value_of (named blocks) (get_or (map (λ b. b.name) blocks) k 0))
named_there [] k l = absurd (omega arith)
named_there (b ∷ blocks) zero l = rw (eq-eqb b.name b.name refl) refl
named_there (b ∷ blocks) (suc k) l =
    elim (cases_Bool (b.name == get_or (map (λ b. b.name) blocks) k 0)) [
      | inl here ↦ rw here refl
      | inr apart ↦ rw apart (named_there blocks k (omega arith))
    ]

pub name_there : (g : Graph) (names : List ℕ) (k : ℕ) → names ≡ names_of g → k < length names → HasBlock g (get_or names k 0)
name_there g names k e l = subst (λ ns. k < length ns → HasBlock g (get_or ns k 0)) (sym e) (named_there g.blocks k) l

-- the names are just those of blocks
pub names_are : (g : Graph) (name : ℕ) → Contains (names_of g) name ↔ HasBlock g name
names_are g name = (
  λ listed.
      let at = contains_at (names_of g) name listed in
      subst (HasBlock g) (get_or_from_slice_get (names_of g) at.0 name 0 at.1) (name_there g (names_of g) at.0 refl (slice_get_within (names_of g) at.0 name at.1)),
  λ there. at_contains (names_of g) (position_in (names_of g) name) name (at_position g name there),
)

-- the items of a block are among those of all
pub record AreAmong (items all : List Item) : Type 0 where
  pub front : List Item
  pub back : List Item
  pub whole : all ≡ front ++ (items ++ back)

items_among : (g : Graph) (name : ℕ) → HasBlock g name → AreAmong (items_of g name) (items_of_blocks g.blocks)
items_among g name there =
    let at = located g.blocks name there in
    let found : block_of g name ≡ Some at.block =
    ap (λ bs. value_of (named bs) name) at.whole
    ∙ ap (λ es. value_of es name) (named-append at.front (at.block ∷ at.back))
    ∙ subst (λ n. value_of (named at.front ++ (at.block.name, at.block) ∷ named at.back) n ≡ Some at.block) at.has_name
    (value_of-at (named at.front) (named at.back) at.block.name at.block (subst (λ n. value_of (named at.front) n ≡ None) (sym at.has_name) at.ahead)) in
    let items : items_of g name ≡ at.block.items = ap block_items found in
    record {
      front = items_of_blocks at.front;
      back = items_of_blocks at.back;
      whole = ap items_of_blocks at.whole ∙ items_of_blocks-append at.front (at.block ∷ at.back) ∙ ap (λ is. items_of_blocks at.front ++ (is ++ items_of_blocks at.back)) (sym items);
    }

pub items_within : (g : Graph) (name : ℕ) → HasBlock g name → length (items_of g name) ≤ length (items_of_blocks g.blocks)
items_within g name there =
    let among = items_among g name there in
    let e = ap length among.whole in
    let f = length-append among.front (items_of g name ++ among.back) in
    let h = length-append (items_of g name) among.back in omega arith

pub items_fit : (g : Graph) (name : ℕ) → IsGraph g → HasBlock g name → (item : Item) → Contains (items_of g name) item → ItemFits item
items_fit g name rules there item listed =
    let among = items_among g name there in
    let here = Contains-append_right among.front (items_of g name ++ among.back) item (Contains-append_left (items_of g name) among.back item listed) in
    All-contains ItemFits (all_items g) item rules.items (Contains-append_left (items_of_blocks g.blocks) (items_of_bodies g.procedures) item (subst (λ is. Contains is item) (sym among.whole) here))

-- the items of the blocks behind a front, by their names
pub named_items : (g : Graph) (front blocks : List Block) → IsGraph g → g.blocks ≡ front ++ blocks → map (λ name. items_of g name) (map (λ b. b.name) blocks) ≡ map (λ b. b.items) blocks
named_items g front [] rules whole = refl
named_items g front (b ∷ blocks) rules whole =
    let split : named g.blocks ≡ named front ++ (b.name, b) ∷ named blocks = ap named whole ∙ named-append front (b ∷ blocks) in
    let ahead = absent_ahead (named front) (named blocks) b.name b (subst HasDistinctKeys split rules.distinct) in
    let found : block_of g b.name ≡ Some b = ap (λ es. value_of es b.name) split ∙ value_of-at (named front) (named blocks) b.name b ahead in
    let rest = named_items g (front ++ b ∷ []) blocks rules (whole ∙ sym (append_assoc front (b ∷ []) blocks)) in
    rw (ap block_items found, rest) refl
