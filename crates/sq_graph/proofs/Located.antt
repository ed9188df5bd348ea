-- A block in the list of a graph's blocks, and in the arena.
use Rattle.std.proofs.Common.{◌≡◌, ℕ, ◌+◌, ◌==◌, false, List, [], ◌∷◌, ◌++◌, length, take, drop, Option, None, Some, IsSome, is_some, refl, ap, ◌∙◌, inl, inr, arith, length-append}
use Rattle.std.proofs.lemmas.Bool.{cases_Bool, eqb-true, eq-eqb}
use Rattle.std.proofs.lemmas.List.{take_at, drop_at}
use Rattle.std.proofs.lemmas.List.Concat.{flat_map-append}
use Rattle.sq_arena.specs.Entries.{value_of}
use Rattle.sq_graph.specs.Graph.{Block}
use Rattle.sq_graph.specs.Blocks.{named, items_of_blocks}
use Rattle.sq_graph.specs.Slots.{slot_of, slots_from}

-- the list falls into the blocks ahead of the name, the block of the name, and those behind it
pub record IsAt (blocks : List Block) (name : ℕ) : Type 0 where
  pub front : List Block
  pub block : Block
  pub back : List Block
  pub whole : blocks ≡ front ++ block ∷ back
  pub has_name : block.name ≡ name
  pub ahead : value_of (named front) name ≡ None

pub located : (blocks : List Block) (name : ℕ) → IsSome (value_of (named blocks) name) → IsAt blocks name
located [] name some = absurd (cc)
located (b ∷ rest) name some =
    elim (cases_Bool (b.name == name)) [
      | inl here ↦
          record { front = []; block = b; back = rest; whole = refl; has_name = eqb-true b.name name here; ahead = refl }
      | inr apart ↦
          let at = located rest name (rw apart at some) in
          record {
            front = b ∷ at.front;
            block = at.block;
            back = at.back;
            whole = ap (λ bs. b ∷ bs) at.whole;
            has_name = at.has_name;
            ahead = rw apart at.ahead;
          }
    ]

pub named-append : (xs ys : List Block) → named (xs ++ ys) ≡ named xs ++ named ys
named-append [] ys = refl
named-append (x ∷ xs) ys = ap (λ es. (x.name, x) ∷ es) (named-append xs ys)

pub items_of_blocks-append : (xs ys : List Block) → items_of_blocks (xs ++ ys) ≡ items_of_blocks xs ++ items_of_blocks ys
items_of_blocks-append xs ys = flat_map-append (λ b. b.items) xs ys

pub slots_from-append : (n : ℕ) (xs ys : List Block) → slots_from n (xs ++ ys) ≡ slots_from n xs ++ slots_from (n + length (items_of_blocks xs)) ys
slots_from-append n [] ys = let e : n + 0 ≡ n = omega arith in rw e
slots_from-append n (x ∷ xs) ys =
    let e : n + length x.items + length (items_of_blocks xs) ≡ n + length (x.items ++ items_of_blocks xs) =
    omega (arith, length-append x.items (items_of_blocks xs)) in
    ap (λ es. (x.name, slot_of n x) ∷ es) (slots_from-append (n + length x.items) xs ys ∙ ap (λ m. slots_from (n + length x.items) xs ++ slots_from m ys) e)

-- the arena has the same keys
pub value_of-slots : (n : ℕ) (bs : List Block) (name : ℕ) → is_some (value_of (slots_from n bs) name) ≡ is_some (value_of (named bs) name)
value_of-slots n [] name = refl
value_of-slots n (b ∷ rest) name =
    elim (cases_Bool (b.name == name)) [
      | inl here ↦ rw here
      | inr apart ↦ rw apart (value_of-slots (n + length b.items) rest name)
    ]

none_of : {T : Type 0} (o : Option T) → is_some o ≡ false → o ≡ None
none_of None none = refl
none_of (Some x) none = absurd (cc)

pub value_of-slots-none : (n : ℕ) (bs : List Block) (name : ℕ) → value_of (named bs) name ≡ None → value_of (slots_from n bs) name ≡ None
value_of-slots-none n bs name none =
    none_of (value_of (slots_from n bs) name) (value_of-slots n bs name ∙ ap is_some none)

pub value_of-at : {T : Type 0} (front back : List (ℕ × T)) (key : ℕ) (value : T) → value_of front key ≡ None → value_of (front ++ (key, value) ∷ back) key ≡ Some value
value_of-at [] back key value ahead = rw (eq-eqb key key refl)
value_of-at (e ∷ front) back key value ahead =
    elim (cases_Bool (e.0 == key)) [
      | inl here ↦ absurd (cc (rw here at ahead))
      | inr apart ↦ rw apart (value_of-at front back key value (rw apart at ahead))
    ]

-- the items of the middle of three parts
pub middle : {T : Type 0} (xs ys zs : List T) → take (length ys) (drop (length xs) (xs ++ (ys ++ zs))) ≡ ys
middle xs ys zs = ap (take (length ys)) (drop_at xs (ys ++ zs) (length xs) refl) ∙ take_at ys zs (length ys) refl
