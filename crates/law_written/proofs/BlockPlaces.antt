-- Where no block is bare, its new address is a name: blocks stand one behind another, each at its own address.
use Rattle.std.proofs.Common.{◌≡◌, ℕ, ◌+◌, ◌*◌, ◌<◌, ◌≤◌, ◌==◌, true, false, ◌&&◌, ◌⊎◌, inl, inr, List, [], ◌∷◌, length, Some, None, IsSome, if◌then◌else◌, refl, sym, ap, ◌∙◌, arith, eq-eqb}
use Rattle.std.specs.List.{All}
use Rattle.std.specs.Option.{unwrap_or}
use Rattle.std.proofs.lemmas.Bool.{cases_Bool, eqb-true}
use Rattle.std.proofs.lemmas.Bool.Decides.{nat_tests}
use Rattle.std.proofs.lemmas.List.Elements.{All-head, All-tail}
use Rattle.sq_arena.specs.Entries.{HasDistinctKeys, value_of}
use Rattle.sq_elf.specs.Text.{text_of}
use Rattle.sq_graph.specs.declared.item.Item.{Item}
use Rattle.sq_graph.specs.declared.item.Term.{Term}
use Rattle.sq_graph.specs.declared.item.Term.TheVariants.{Fall, Jump, Branch, Call, PartJump, Indirect, Stop}
use Rattle.sq_graph.specs.Graph.{Block, Graph}
use Rattle.sq_graph.specs.Alike.{IsOneToOne}
use Rattle.sq_graph.specs.Blocks.{named, HasBlock}
use Rattle.sq_graph.specs.Leaders.{is_fall, has_no_items, is_bare, IsCanonical}
use Rattle.sq_graph.specs.Places.{address_in}
use Rattle.sq_graph.specs.Rules.{IsGraph}
use Rattle.sq_graph.specs.Words.{term_words, block_words}
use Rattle.sq_graph.proofs.Kept.{absent_behind}
use Rattle.sq_graph.proofs.Marks.{distinct_rest}
use Rattle.sq_write.specs.Points.{new_address}
use Rattle.law_written.specs.Cutting.{NewAddressesAreNames}

abbrev pub IsFull : Block → Type 0
IsFull b = is_bare b ≡ false

pub some_words : (b : Block) → IsFull b → 1 ≤ block_words b
some_words b full = go b.items b.term full
  where
    go : (items : List Item) (term : Term) → (has_no_items items && is_fall term) ≡ false → 1 ≤ length items + term_words term
    go (item ∷ items) term e = omega arith
    go [] Fall e = absurd (cc)
    go [] (Jump to) e = omega arith
    go [] (Branch c a b to) e = omega arith
    go [] (Call link to) e = omega arith
    go [] (PartJump link part to) e = omega arith
    go [] (Indirect link register offset) e = omega arith
    go [] (Stop word) e = omega arith

apart : (x y : ℕ) → x < y → (x == y) ≡ false
apart x y less = grind (arith, nat_tests)

-- a block that is there has an address
address_there : (bs : List Block) (at n : ℕ) → IsSome (value_of (named bs) n) → address_in bs at n ≡ Some (unwrap_or (address_in bs at n) 0)
address_there [] at n there = absurd (cc)
address_there (b ∷ bs) at n there = by_test (cases_Bool (b.name == n)) (λ some. address_there bs (at + 4 * block_words b) n some)
  where
    by_test : ((b.name == n) ≡ true) ⊎ ((b.name == n) ≡ false) → (IsSome (value_of (named bs) n) → address_in bs (at + 4 * block_words b) n ≡ Some (unwrap_or (address_in bs (at + 4 * block_words b) n) 0)) → address_in (b ∷ bs) at n ≡ Some (unwrap_or (address_in (b ∷ bs) at n) 0)
    by_test (inl e) more = rw e refl
    by_test (inr e) more = rw e (more (rw e at there))

-- of these blocks, none stands before the first
least : (bs : List Block) (at n a : ℕ) → address_in bs at n ≡ Some a → at ≤ a
least [] at n a is = absurd (cc)
least (b ∷ bs) at n a is = by_test (cases_Bool (b.name == n)) (λ h. least bs (at + 4 * block_words b) n a h)
  where
    by_test : ((b.name == n) ≡ true) ⊎ ((b.name == n) ≡ false) → (address_in bs (at + 4 * block_words b) n ≡ Some a → at + 4 * block_words b ≤ a) → at ≤ a
    by_test (inl e) more = let there : Some at ≡ Some a = rw e at is in let same : at ≡ a = cc there in omega (arith, same)
    by_test (inr e) more = omega (arith, more (rw e at is))

-- NAMES OF ADDRESSES

-- the name of the block that stands at an address, among blocks that stand from another on
abbrev pub name_at : ℕ → List Block → ℕ → ℕ
name_at at [] x = 0
name_at at (b ∷ bs) x = if at == x then b.name else name_at (at + 4 * block_words b) bs x

name_back : (bs : List Block) (at n a : ℕ) → All IsFull bs → address_in bs at n ≡ Some a → name_at at bs a ≡ n
name_back [] at n a full is = absurd (cc)
name_back (b ∷ bs) at n a full is =
    by_test (cases_Bool (b.name == n)) (λ h. name_back bs (at + 4 * block_words b) n a (All-tail {X = Block} IsFull b bs full) h)
  where
    by_test : ((b.name == n) ≡ true) ⊎ ((b.name == n) ≡ false) → (address_in bs (at + 4 * block_words b) n ≡ Some a → name_at (at + 4 * block_words b) bs a ≡ n) → name_at at (b ∷ bs) a ≡ n
    by_test (inl e) more =
        let there : Some at ≡ Some a = rw e at is in
        let same : (at == a) ≡ true = eq-eqb at a (cc there) in
        rw same (eqb-true b.name n e)
    by_test (inr e) more =
        let there : address_in bs (at + 4 * block_words b) n ≡ Some a = rw e at is in
        let behind = least bs (at + 4 * block_words b) n a there in
        let words = some_words b (All-head {X = Block} IsFull b bs full) in
        let other : (at == a) ≡ false = apart at a (omega (arith, behind, words)) in
        rw other (more there)

-- each of these blocks stands at the address of its name, one behind another from an address on
abbrev pub AreAt : (ℕ → ℕ) → ℕ → List Block → Type 0
AreAt f at [] = Unit {0}
AreAt f at (b ∷ bs) = (f b.name ≡ at) × AreAt f (at + 4 * block_words b) bs

are_at : (f : ℕ → ℕ) (bs : List Block) (at : ℕ) → HasDistinctKeys (named bs) → ((n : ℕ) → IsSome (value_of (named bs) n) → address_in bs at n ≡ Some (f n)) → AreAt f at bs
are_at f [] at distinct known = tt
are_at f (b ∷ bs) at distinct known = (
  let same : (b.name == b.name) ≡ true = eq-eqb b.name b.name refl in
      let there : Some at ≡ Some (f b.name) = rw same at (known b.name (rw same refl)) in
      cc there,
  are_at f bs (at + 4 * block_words b) (distinct_rest (b.name, b) (named bs) distinct) (λ n some. behind n some (cases_Bool (b.name == n))),
)
  where
    behind : (n : ℕ) → IsSome (value_of (named bs) n) → ((b.name == n) ≡ true) ⊎ ((b.name == n) ≡ false) → address_in bs (at + 4 * block_words b) n ≡ Some (f n)
    behind n some (inl e) =
        let none : value_of (named bs) n ≡ None = ap (value_of (named bs)) (sym (eqb-true b.name n e)) ∙ absent_behind (b.name, b) (named bs) distinct in
        absurd (cc)
    behind n some (inr e) = let there : IsSome (value_of (named (b ∷ bs)) n) = rw e some in rw e at (known n there)

module _ (g : Graph) (lo : ℕ) (canonical : IsCanonical g) where
  pub address_is : (n : ℕ) → HasBlock g n → address_in g.blocks lo n ≡ Some (new_address g lo n)
  address_is n there = address_there g.blocks lo n there

  pub blocks_at : IsGraph g → AreAt (new_address g lo) lo g.blocks
  blocks_at rules = are_at (new_address g lo) g.blocks lo rules.distinct (λ n there. address_is n there)

  pub old_name : (n : ℕ) → HasBlock g n → name_at lo g.blocks (new_address g lo n) ≡ n
  old_name n there = name_back g.blocks lo n (new_address g lo n) canonical.no_bare (address_is n there)

  pub one_to_one : IsOneToOne (new_address g lo) g
  one_to_one m n has there same = sym (old_name m has) ∙ ap (name_at lo g.blocks) same ∙ old_name n there

  -- BLOCKS LIE APART

  -- each block of the graph stands before the address, or is one of these
  abbrev pub IsSplit : ℕ → List Block → Type 0
  IsSplit at bs = (n : ℕ) → HasBlock g n → (new_address g lo n < at) ⊎ (address_in bs at n ≡ Some (new_address g lo n))

  pub all_split : IsSplit lo g.blocks
  all_split n there = inr (address_is n there)

  -- so none stands inside the first of these
  module _ (b : Block) (bs : List Block) (at : ℕ) (split : IsSplit at (b ∷ bs)) where
    pub lies_apart : (n : ℕ) → HasBlock g n → (new_address g lo n ≤ at) ⊎ (at + 4 * block_words b ≤ new_address g lo n)
    lies_apart n there = by_side (split n there)
      where
        by_test : ((b.name == n) ≡ true) ⊎ ((b.name == n) ≡ false) → address_in (b ∷ bs) at n ≡ Some (new_address g lo n) → (new_address g lo n ≤ at) ⊎ (at + 4 * block_words b ≤ new_address g lo n)
        by_test (inl e) is =
            let found : Some at ≡ Some (new_address g lo n) = rw e at is in
            let same : at ≡ new_address g lo n = cc found in
            inl (omega (arith, same))
        by_test (inr e) is = inr (least bs (at + 4 * block_words b) n (new_address g lo n) (rw e at is))

        by_side : (new_address g lo n < at) ⊎ (address_in (b ∷ bs) at n ≡ Some (new_address g lo n)) → (new_address g lo n ≤ at) ⊎ (at + 4 * block_words b ≤ new_address g lo n)
        by_side (inl less) = inl (omega (arith, less))
        by_side (inr is) = by_test (cases_Bool (b.name == n)) is

    pub rest_split : IsFull b → IsSplit (at + 4 * block_words b) bs
    rest_split full n there = by_side (split n there)
      where
        by_test : ((b.name == n) ≡ true) ⊎ ((b.name == n) ≡ false) → address_in (b ∷ bs) at n ≡ Some (new_address g lo n) → (new_address g lo n < at + 4 * block_words b) ⊎ (address_in bs (at + 4 * block_words b) n ≡ Some (new_address g lo n))
        by_test (inl e) is =
            let found : Some at ≡ Some (new_address g lo n) = rw e at is in
            let same : at ≡ new_address g lo n = cc found in
            inl (omega (arith, same, some_words b full))
        by_test (inr e) is = inr (rw e at is)

        by_side : (new_address g lo n < at) ⊎ (address_in (b ∷ bs) at n ≡ Some (new_address g lo n)) → (new_address g lo n < at + 4 * block_words b) ⊎ (address_in bs (at + 4 * block_words b) n ≡ Some (new_address g lo n))
        by_side (inl less) = inl (omega (arith, less))
        by_side (inr is) = by_test (cases_Bool (b.name == n)) is

pub new_addresses_are_names : NewAddressesAreNames
new_addresses_are_names = λ bytes g can canonical. one_to_one g (text_of bytes).lo canonical
