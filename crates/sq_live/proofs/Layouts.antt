-- The blocks of a graph by their positions.
use Rattle.std.proofs.Common.{◌≡◌, ℕ, zero, suc, ◌+◌, ◌<◌, ◌≤◌, ◌==◌, false, List, [], ◌∷◌, ◌++◌, map, take, drop, length, get_or, Option, Some, None, IsSome, slice_get, refl, sym, ap, ◌∙◌, subst, ◌⊎◌, inl, inr, arith, add-one, drop-cons, length-drop, option_to_list}
use Rattle.std.proofs.lemmas.List.{take_more, take-append-drop, get_or-map}
use Rattle.std.proofs.lemmas.Option.{slice_get_cases}
use Rattle.sq_arena.specs.Entries.{keys, HasDistinctKeys, value_of, before, behind, starting_at, first_key, next_key}
use Rattle.sq_arena.proofs.EntriesLaws.{absent_ahead, behind-append}
use Rattle.std.proofs.lemmas.Bool.{cases_Bool, eqb-true}
use Rattle.sq_graph.specs.Graph.{Block, Graph}
use Rattle.sq_graph.specs.Blocks.{named, block_of, next_of}
use Rattle.sq_graph.specs.Walks.{first_name}
use Rattle.sq_live.specs.Exits.{next_node}
use Rattle.sq_graph.specs.Rules.{IsGraph}
use Rattle.sq_graph.specs.Parts.{names_of}
use Rattle.sq_graph.specs.Cursor.{IsPlace, rest_from}
use Rattle.sq_isa.specs.Registers.{is_member}
use Rattle.sq_live.specs.declared.effect.Effect.{Effect}
use Rattle.sq_live.specs.Effects.{IsBlock, AreBlocks}
use Rattle.sq_graph.proofs.Located.{named-append, value_of-at}
use Rattle.sq_graph.proofs.CursorLaws.{behind_parts}

-- one more in two lists that go together
module _ {X Y : Type 0} (R : Option X → Option Y → Type 0) where
  pub pushed : (xs : List X) (ys : List Y) (x : X) (y : Y) → length xs ≡ length ys → ((k : ℕ) → R (slice_get xs k) (slice_get ys k)) → R (Some x) (Some y) → (k : ℕ) → R (slice_get (xs ++ x ∷ []) k) (slice_get (ys ++ y ∷ []) k)
  pushed [] [] x y same each last zero = last
  pushed [] [] x y same each last (suc k) = each k
  pushed [] (y' ∷ ys) x y same each last k = absurd (omega arith)
  pushed (x' ∷ xs) [] x y same each last k = absurd (omega arith)
  pushed (x' ∷ xs) (y' ∷ ys) x y same each last zero = each 0
  pushed (x' ∷ xs) (y' ∷ ys) x y same each last (suc k) = pushed xs ys x y (omega arith) (λ j. each (suc j)) last k

pub record IsBlockAt (g : Graph) (k : ℕ) (name : ℕ) : Type 0 where
  pub block : Block
  pub has_name : block.name ≡ name
  pub at : slice_get g.blocks k ≡ Some block
  pub within : k < length g.blocks
  pub found : block_of g name ≡ Some block
  pub rest : drop k g.blocks ≡ block ∷ drop (k + 1) g.blocks
  pub behind_is : behind (named g.blocks) name ≡ named (drop (k + 1) g.blocks)
  pub more : take (k + 1) g.blocks ≡ take k g.blocks ++ block ∷ []

pub length-names : (g : Graph) (names : List ℕ) → names ≡ names_of g → length names ≡ length g.blocks
length-names g names e = ap length e ∙ length_map g.blocks
  where
    length_map : (blocks : List Block) → length (map (λ b. b.name) blocks) ≡ length blocks
    length_map [] = refl
    length_map (b ∷ blocks) = ap suc (length_map blocks)

pub block_at : (g : Graph) (names : List ℕ) (k : ℕ) → IsGraph g → names ≡ names_of g → k < length names → IsBlockAt g k (get_or names k 0)
block_at g names k rules e h =
    let within : k < length g.blocks = subst (λ n. k < n) (length-names g names e) h in
    elim ((slice_get_cases g.blocks k).1) [
      | inl x ↦
          let here : get_or g.blocks k x.0 ≡ x.0 = x.3 in
          let name : x.0.name ≡ get_or names k 0 = sym (ap (λ ns. get_or ns k 0) e ∙ get_or-map (λ b. b.name) g.blocks k x.0 0 within ∙ ap (λ b. b.name) here) in
          let rest : drop k g.blocks ≡ x.0 ∷ drop (k + 1) g.blocks = rw add-one (drop-cons g.blocks k x.0 within ∙ ap (λ b. b ∷ drop (suc k) g.blocks) here) in
          let whole : g.blocks ≡ take k g.blocks ++ x.0 ∷ drop (k + 1) g.blocks = sym (take-append-drop k g.blocks) ∙ ap (λ bs. take k g.blocks ++ bs) rest in
          let split : named g.blocks ≡ named (take k g.blocks) ++ (x.0.name, x.0) ∷ named (drop (k + 1) g.blocks) = ap named whole ∙ named-append (take k g.blocks) (x.0 ∷ drop (k + 1) g.blocks) in
          let ahead = absent_ahead (named (take k g.blocks)) (named (drop (k + 1) g.blocks)) x.0.name x.0 (subst HasDistinctKeys split rules.distinct) in
          let found : block_of g x.0.name ≡ Some x.0 = ap (λ es. value_of es x.0.name) split ∙ value_of-at (named (take k g.blocks)) (named (drop (k + 1) g.blocks)) x.0.name x.0 ahead in
          record {
            block = x.0;
            has_name = name;
            at = x.2;
            within = within;
            found = subst (λ n. block_of g n ≡ Some x.0) name found;
            rest = rest;
            behind_is = subst (λ n. behind (named g.blocks) n ≡ named (drop (k + 1) g.blocks)) name (ap (λ es. behind es x.0.name) split ∙ behind-append (named (take k g.blocks)) (named (drop (k + 1) g.blocks)) x.0.name x.0 ahead);
            more = take_more g.blocks k x.0 within ∙ ap (λ b. take k g.blocks ++ b ∷ []) here;
          }
      | inr past ↦ absurd (omega (arith, past.0))
    ]

-- A cursor that only reads

module _ {T : Type 0} where
  pub at_key : (es : List (ℕ × T)) (key : ℕ) (value : T) → value_of es key ≡ Some value → es ≡ before es key ++ (key, value) ∷ behind es key
  at_key [] key value found = absurd (cc)
  at_key (e ∷ rest) key value found =
      elim (cases_Bool (e.0 == key)) [
        | inl here ↦
            let same : e.1 ≡ value = let f : Some e.1 ≡ Some value = rw here at found in cc in
            rw here (ap (λ k. (k, e.1) ∷ rest) (eqb-true e.0 key here) ∙ ap (λ v. (key, v) ∷ rest) same)
        | inr apart ↦ rw apart (ap (λ ps. e ∷ ps) (at_key rest key value (rw apart at found)))
      ]

  pub starting_at-key : (es : List (ℕ × T)) (key : ℕ) (value : T) → value_of es key ≡ Some value → starting_at es key ≡ (key, value) ∷ behind es key
  starting_at-key [] key value found = absurd (cc)
  starting_at-key (e ∷ rest) key value found =
      elim (cases_Bool (e.0 == key)) [
        | inl here ↦
            let same : e.1 ≡ value = let f : Some e.1 ≡ Some value = rw here at found in cc in
            rw here (ap (λ k. (k, e.1) ∷ rest) (eqb-true e.0 key here) ∙ ap (λ v. (key, v) ∷ rest) same)
        | inr apart ↦ rw apart (starting_at-key rest key value (rw apart at found))
      ]

  pub some_value : (o : Option T) → IsSome o → (x : T) × (o ≡ Some x)
  some_value None h = absurd (cc)
  some_value (Some x) h = (x, refl)

  -- the place goes on to the next key
  pub record GoesOn (es : List (ℕ × T)) (key : ℕ) : Type 0 where
    pub is_place : IsPlace es (next_key es key)
    pub keys_are : keys (rest_from es (Some key)) ≡ key ∷ keys (rest_from es (next_key es key))

  pub goes_on : (es : List (ℕ × T)) (key : ℕ) → HasDistinctKeys es → IsSome (value_of es key) → GoesOn es key
  goes_on es key distinct there =
      let v = some_value (value_of es key) there in
      let split = at_key es key v.0 v.1 in
      let parts = behind_parts (before es key) (behind es key) (key, v.0) (subst HasDistinctKeys split distinct) in
      let place : IsPlace es (next_key es key) = subst (λ ps. IsPlace ps (first_key (behind es key))) (sym split) parts.place in
      let rest : rest_from es (next_key es key) ≡ behind es key = subst (λ ps. rest_from ps (first_key (behind es key)) ≡ behind es key) (sym split) parts.rest in
      record {
        is_place = place;
        keys_are = ap keys (starting_at-key es key v.0 v.1) ∙ ap (λ ps. key ∷ keys ps) (sym rest);
      }

pub keys-named : (blocks : List Block) → keys (named blocks) ≡ map (λ b. b.name) blocks
keys-named [] = refl
keys-named (b ∷ blocks) = ap (λ ks. b.name ∷ ks) (keys-named blocks)

pub length-keys : {T : Type 0} (es : List (ℕ × T)) → length (keys es) ≡ length es
length-keys [] = refl
length-keys (e ∷ es) = ap suc (length-keys es)

-- an element that is there
pub record IsAt {X : Type 0} (xs : List X) (k : ℕ) : Type 0 where
  pub item : X
  pub at : slice_get xs k ≡ Some item
  pub here : get_or xs k item ≡ item
  pub more : take (k + 1) xs ≡ take k xs ++ item ∷ []
  pub rest : drop k xs ≡ item ∷ drop (k + 1) xs

pub item_at : {X : Type 0} (xs : List X) (k : ℕ) → k < length xs → IsAt xs k
item_at xs k within =
    elim ((slice_get_cases xs k).1) [
      | inl x ↦
          record {
            item = x.0;
            at = x.2;
            here = x.3;
            more = take_more xs k x.0 within ∙ ap (λ b. take k xs ++ b ∷ []) x.3;
            rest = rw add-one (drop-cons xs k x.0 within ∙ ap (λ b. b ∷ drop (suc k) xs) x.3);
          }
      | inr past ↦ absurd (omega (arith, past.0))
    ]

-- what stands at an index once one more is pushed
pub get_pushed : {X : Type 0} (xs : List X) (x : X) (k : ℕ) → (slice_get (xs ++ x ∷ []) k ≡ slice_get xs k) ⊎ ((slice_get xs k ≡ None) × (slice_get (xs ++ x ∷ []) k ≡ Some x))
get_pushed [] x zero = inr (refl, refl)
get_pushed [] x (suc k) = inl refl
get_pushed (y ∷ xs) x zero = inl refl
get_pushed (y ∷ xs) x (suc k) = get_pushed xs x k

-- one that does nothing, behind the blocks
pub nothing_behind : (calls effects : List Effect) (blocks : List Block) (none : Effect) → ((k : ℕ) → IsBlock calls (slice_get effects k) (slice_get blocks k)) → ((r : ℕ) → is_member none.reads r ≡ false) → ((r : ℕ) → is_member none.writes r ≡ false) → AreBlocks calls blocks (effects ++ none ∷ [])
nothing_behind calls effects blocks none each reads writes k =
    elim (get_pushed effects none k) [
      | inl same ↦ subst (λ o. IsBlock calls o (slice_get blocks k)) (sym same) (each k)
      | inr last ↦
          let before = subst (λ o. IsBlock calls o (slice_get blocks k)) last.0 (each k) in
          subst (λ o. IsBlock calls o (slice_get blocks k)) (sym last.1) (λ r h. (reads r ∙ (before r h).0, writes r ∙ (before r h).1))
    ]

pub map-push : {X Y : Type 0} (f : X → Y) (xs : List X) (x : X) → map f (xs ++ x ∷ []) ≡ map f xs ++ f x ∷ []
map-push f [] x = refl
map-push f (y ∷ xs) x = ap (λ ys. f y ∷ ys) (map-push f xs x)

-- the next slot
next_of_some : (k : ℕ) (blocks : List Block) → 0 < length blocks → next_node k blocks ≡ Some (k + 1)
next_of_some k [] h = absurd (omega arith)
next_of_some k (b ∷ blocks) h = refl

next_of_none : (k : ℕ) (blocks : List Block) → length blocks ≡ 0 → next_node k blocks ≡ None
next_of_none k [] h = refl
next_of_none k (b ∷ blocks) h = absurd (omega arith)

pub next_node-some : (k : ℕ) (blocks : List Block) → k + 1 < length blocks → next_node k (drop (k + 1) blocks) ≡ Some (k + 1)
next_node-some k blocks h = next_of_some k (drop (k + 1) blocks) (omega (arith, length-drop (k + 1) blocks))

pub next_node-none : (k : ℕ) (blocks : List Block) → length blocks ≤ k + 1 → next_node k (drop (k + 1) blocks) ≡ None
next_node-none k blocks h = next_of_none k (drop (k + 1) blocks) (omega (arith, length-drop (k + 1) blocks))

first_listed : (blocks : List Block) → option_to_list (first_key (named blocks)) ≡ first_name blocks
first_listed [] = refl
first_listed (b ∷ blocks) = refl

-- the name in the slot behind a block
pub next_name : (g : Graph) (k : ℕ) {name : ℕ} (b : IsBlockAt g k name) → option_to_list (next_of g name) ≡ first_name (drop (k + 1) g.blocks)
next_name g k {name} b = ap (λ es. option_to_list (first_key es)) b.behind_is ∙ first_listed (drop (k + 1) g.blocks)
