-- A Branch and its target, once a block of one word is gone.
use Rattle.std.proofs.Common.{◌≡◌, ◌≢◌, ◌↔◌, ℕ, pos, ◌-ℤ◌, ◌+◌, ◌*◌, List, [], ◌∷◌, map, length, Option, None, Some, refl, sym, ap, ◌∙◌, arith}
use Rattle.std.specs.Prelude.{option_map}
use Rattle.std.proofs.lemmas.List.{length-map}
use Rattle.sq_arena.specs.Entries.{value_of}
use Rattle.sq_graph.specs.declared.item.Term.{Term}
use Rattle.sq_graph.specs.Graph.{Block, Graph}
use Rattle.sq_graph.specs.Blocks.{named, block_of, block_items, items_of}
use Rattle.sq_graph.specs.Words.{term_words, block_words}
use Rattle.sq_graph.specs.Operations.{with_blocks, with_term, without_block, redirected}
use Rattle.sq_graph.specs.Renames.{retargeted_item, retargeted_block, swapped}
use Rattle.sq_graph.specs.Places.{address_in, block_address, Reaches}
use Rattle.sq_layout.specs.Branches.{BranchReaches, lifted}
use Rattle.sq_layout.proofs.Shrinking.{reach_is}
use Rattle.sq_layout.proofs.Shrunk.{retargeted_words}
use Rattle.sq_layout.proofs.Standing.{address-without, address-changed, address-retargeted, block_of-without, block_of-retargeted, block_of-changed, block_of-changed_here}

length-retargeted : (f : ℕ → ℕ) (o : Option Block) → length (block_items (option_map (retargeted_block f) o)) ≡ length (block_items o)
length-retargeted f None = refl
length-retargeted f (Some b) = length-map b.items (retargeted_item f)

-- what the code needs of the graph
pub record IsRemovable (g : Graph) (n gone from to x y : ℕ) : Type 0 where
  pub block : Block
  pub found : block_of g n ≡ Some block
  pub one : block_words block ≡ 1
  pub place : block_address g 0 n ≡ Some gone
  pub from_place : block_address g 0 from ≡ Some x
  pub to_place : block_address g 0 to ≡ Some y
  pub from_other : from ≢ n
  pub to_other : to ≢ n

-- where the block's names became those of its target
pub detour_reaches : (g : Graph) (n gone from to x y : ℕ) → IsRemovable g n gone from to x y → BranchReaches (without_block (redirected g n to) n) from to ↔ Reaches (pos (lifted gone y) -ℤ pos (lifted gone x + 4 * length (items_of g from)))
detour_reaches g n gone from to x y is =
    let f = swapped n to in
    let bs : List Block = map (retargeted_block f) g.blocks in
    let own : Block = retargeted_block f is.block in
    let found : value_of (named (map (retargeted_block f) g.blocks)) n ≡ Some own = block_of-retargeted f g.blocks n ∙ ap (option_map (retargeted_block f)) is.found in
    let one : block_words own ≡ 1 = omega (arith, length-map is.block.items (retargeted_item f), retargeted_words f is.block.term, is.one) in
    let place = address-retargeted f g.blocks 0 n ∙ is.place in
    let moved : (m z : ℕ) → m ≢ n → block_address g 0 m ≡ Some z → block_address (without_block (redirected g n to) n) 0 m ≡ Some (lifted gone z) =
    λ m z other e. address-without (map (retargeted_block f) g.blocks) 0 n gone m own found one place other ∙ ap (option_map (lifted gone)) (address-retargeted f g.blocks 0 m ∙ e) in
    let items : length (items_of (without_block (redirected g n to) n) from) ≡ length (items_of g from) =
    ap (λ (o : Option Block). length (block_items o)) (block_of-without (map (retargeted_block f) g.blocks) n from is.from_other ∙ block_of-retargeted f g.blocks from) ∙ length-retargeted f (block_of g from) in
    reach_is (without_block (redirected g n to) n) from to (lifted gone x) (lifted gone y) (length (items_of g from)) (moved from x is.from_other is.from_place) (moved to y is.to_other is.to_place) items

-- where another block got a term of as many words
pub other_term_reaches : (g : Graph) (n gone from to x y : ℕ) (b : Block) (t : Term) → IsRemovable g n gone from to x y → block_of g from ≡ Some b → term_words t ≡ term_words b.term → BranchReaches (without_block (with_term g from t) n) from to ↔ Reaches (pos (lifted gone y) -ℤ pos (lifted gone x + 4 * length (items_of g from)))
other_term_reaches g n gone from to x y b t is at words =
    let f : Block → Block = λ c. record c { term = t } in
    let size : (c : Block) → value_of (named g.blocks) from ≡ Some c → block_words (record c { term = t }) ≡ block_words c =
    λ c e. let same : b ≡ c = let k : Some b ≡ Some c = sym at ∙ e in cc in let w = ap (λ (d : Block). term_words d.term) same in omega arith in
    let same_names : (c : Block) → (record c { term = t }).name ≡ c.name = λ c. refl in
    let stays : (m : ℕ) → address_in (with_blocks (λ c. record c { term = t } ∷ []) g.blocks from) 0 m ≡ address_in g.blocks 0 m =
    λ m. address-changed (λ c. record c { term = t }) g.blocks 0 from m same_names size in
    let n_other : n ≢ from = λ e. is.from_other (sym e) in
    let found : value_of (named (with_blocks (λ c. record c { term = t } ∷ []) g.blocks from)) n ≡ Some is.block = block_of-changed (λ c. record c { term = t }) g.blocks from n same_names n_other ∙ is.found in
    let moved : (m z : ℕ) → m ≢ n → block_address g 0 m ≡ Some z → block_address (without_block (with_term g from t) n) 0 m ≡ Some (lifted gone z) =
    λ m z other e. address-without (with_blocks (λ c. record c { term = t } ∷ []) g.blocks from) 0 n gone m is.block found is.one (stays n ∙ is.place) other ∙ ap (option_map (lifted gone)) (stays m ∙ e) in
    let items : length (items_of (without_block (with_term g from t) n) from) ≡ length (items_of g from) =
    ap (λ (o : Option Block). length (block_items o)) (block_of-without (with_blocks (λ c. record c { term = t } ∷ []) g.blocks from) n from is.from_other ∙ block_of-changed_here (λ c. record c { term = t }) g.blocks from same_names)
    ∙ same_length (block_of g from) in
    reach_is (without_block (with_term g from t) n) from to (lifted gone x) (lifted gone y) (length (items_of g from)) (moved from x is.from_other is.from_place) (moved to y is.to_other is.to_place) items
  where
    same_length : (o : Option Block) → length (block_items (option_map (λ (c : Block). record c { term = t }) o)) ≡ length (block_items o)
    same_length None = refl
    same_length (Some c) = refl
