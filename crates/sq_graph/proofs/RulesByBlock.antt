-- The rules of a graph, block by block.
use Rattle.std.proofs.Common.{◌≡◌, ℕ, false, List, ◌++◌, map}
use Rattle.std.specs.List.{All}
use Rattle.std.specs.List.Sorted.{IsStrictlyIncreasing}
use Rattle.std.proofs.lemmas.List.Elements.{All-head, All-tail, All-cons, All-append, All-weaker}
use Rattle.sq_arena.specs.Entries.{HasDistinctKeys}
use Rattle.sq_graph.specs.declared.item.Item.{Item}
use Rattle.sq_graph.specs.Graph.{Block, Procedure, Graph}
use Rattle.sq_graph.specs.Blocks.{named, HasBlock, HasProcedure, items_of_blocks, items_of_bodies, all_items}
use Rattle.sq_graph.specs.Uses.{item_uses, items_uses, term_uses, terms_uses, code_word_uses, uses, item_calls, calls}
use Rattle.sq_graph.specs.Rules.{IsGraph, ItemFits, TermFits, ProcedureFits, last_goes_on}
use Rattle.sq_graph.proofs.Eachs.{All-left, All-right, All-each, All-flat_map}

-- what a graph uses is among these names and these procedures
module _ (Named Called : ℕ → Type 0) where
  pub record ItemStands (item : Item) : Type 0 where
    pub names : All Named (item_uses item)
    pub calls : All Called (item_calls item)
    pub fits : ItemFits item

  pub record BlockStands (b : Block) : Type 0 where
    pub items : All ItemStands b.items
    pub names : All Named (term_uses b.term)
    pub fits : TermFits b.term

  pub record BodyStands (p : Procedure) : Type 0 where
    pub items : All ItemStands p.body
    pub fits : ProcedureFits p

  pub record IsByBlock (g : Graph) : Type 0 where
    pub distinct : HasDistinctKeys (named g.blocks)
    pub entry : Named g.entry
    pub words : All Named (code_word_uses g.code_words)
    pub ends : last_goes_on g.blocks ≡ false
    pub ascending : IsStrictlyIncreasing (map (λ w. w.at) g.code_words)
    pub blocks : All BlockStands g.blocks
    pub bodies : All BodyStands g.procedures

  pub by_block : (g : Graph) → IsGraph g → All Named (uses g) → All Called (calls g) → IsByBlock g
  by_block g rules used called =
      let behind = All-tail Named g.entry (code_word_uses g.code_words ++ (terms_uses g.blocks ++ items_uses (all_items g))) used in
      let others = All-right Named (code_word_uses g.code_words) (terms_uses g.blocks ++ items_uses (all_items g)) behind in
      let item_names : All (λ item. All Named (item_uses item)) (all_items g) = All-each Named item_uses (all_items g) (All-right Named (terms_uses g.blocks) (items_uses (all_items g)) others) in
      let item_calls' : All (λ item. All Called (item_calls item)) (all_items g) = All-each Called item_calls (all_items g) called in
      let stand : All ItemStands (all_items g) = λ k d h. record { names = item_names k d h; calls = item_calls' k d h; fits = rules.items k d h } in
      let in_blocks : All (λ b. All ItemStands b.items) g.blocks = All-each {X = Item} ItemStands (λ b. b.items) g.blocks (All-left {X = Item} ItemStands (items_of_blocks g.blocks) (items_of_bodies g.procedures) stand) in
      let in_bodies : All (λ p. All ItemStands p.body) g.procedures = All-each {X = Item} ItemStands (λ p. p.body) g.procedures (All-right {X = Item} ItemStands (items_of_blocks g.blocks) (items_of_bodies g.procedures) stand) in
      let term_names : All (λ b. All Named (term_uses b.term)) g.blocks = All-each Named (λ b. term_uses b.term) g.blocks (All-left Named (terms_uses g.blocks) (items_uses (all_items g)) others) in
      record {
        distinct = rules.distinct;
        entry = All-head Named g.entry (code_word_uses g.code_words ++ (terms_uses g.blocks ++ items_uses (all_items g))) used;
        words = All-left Named (code_word_uses g.code_words) (terms_uses g.blocks ++ items_uses (all_items g)) behind;
        ends = rules.ends;
        ascending = rules.code_words;
        blocks = λ k d h. record { items = in_blocks k d h; names = term_names k d h; fits = rules.terms k d h };
        bodies = λ k d h. record { items = in_bodies k d h; fits = rules.procedures k d h };
      }

  all_stand : (g : Graph) → IsByBlock g → All ItemStands (all_items g)
  all_stand g by =
      All-append {X = Item} ItemStands (items_of_blocks g.blocks) (items_of_bodies g.procedures)
      (All-flat_map {X = Item} ItemStands (λ b. b.items) g.blocks (λ k d h. let b = by.blocks k d h in b.items))
      (All-flat_map {X = Item} ItemStands (λ p. p.body) g.procedures (λ k d h. let p = by.bodies k d h in p.items))

  pub all_named : (g : Graph) → IsByBlock g → All Named (uses g)
  all_named g by =
      let stand = all_stand g by in
      All-cons Named g.entry (code_word_uses g.code_words ++ (terms_uses g.blocks ++ items_uses (all_items g))) by.entry
      (All-append Named (code_word_uses g.code_words) (terms_uses g.blocks ++ items_uses (all_items g)) by.words
      (All-append Named (terms_uses g.blocks) (items_uses (all_items g))
      (All-flat_map Named (λ b. term_uses b.term) g.blocks (λ k d h. let b = by.blocks k d h in b.names))
      (All-flat_map Named item_uses (all_items g) (λ k d h. let item = stand k d h in item.names))))

  pub all_called : (g : Graph) → IsByBlock g → All Called (calls g)
  all_called g by = let stand = all_stand g by in All-flat_map Called item_calls (all_items g) (λ k d h. let item = stand k d h in item.calls)

-- names and procedures that are there
pub from_blocks : (g : Graph) → IsByBlock (HasBlock g) (HasProcedure g) g → IsGraph g
from_blocks g by =
    let stand = all_stand (HasBlock g) (HasProcedure g) g by in
    record {
      distinct = by.distinct;
      named_all = all_named (HasBlock g) (HasProcedure g) g by;
      called_all = all_called (HasBlock g) (HasProcedure g) g by;
      ends = by.ends;
      code_words = by.ascending;
      items = λ k d h. let item = stand k d h in item.fits;
      terms = λ k d h. let b = by.blocks k d h in b.fits;
      procedures = λ k d h. let p = by.bodies k d h in p.fits;
    }

module _ (Named Named' Called Called' : ℕ → Type 0) (names : (k : ℕ) → Named k → Named' k) (calls : (k : ℕ) → Called k → Called' k) where
  pub item_stays : (item : Item) → ItemStands Named Called item → ItemStands Named' Called' item
  item_stays item old =
      record { names = All-weaker Named Named' names (item_uses item) old.names; calls = All-weaker Called Called' calls (item_calls item) old.calls; fits = old.fits }

  pub items_stay : (items : List Item) → All (ItemStands Named Called) items → All (ItemStands Named' Called') items
  items_stay items all = All-weaker (ItemStands Named Called) (ItemStands Named' Called') item_stays items all

  pub block_stays : (b : Block) → BlockStands Named Called b → BlockStands Named' Called' b
  block_stays b old = record { items = items_stay b.items old.items; names = All-weaker Named Named' names (term_uses b.term) old.names; fits = old.fits }

  pub blocks_stay : (bs : List Block) → All (BlockStands Named Called) bs → All (BlockStands Named' Called') bs
  blocks_stay bs all = All-weaker (BlockStands Named Called) (BlockStands Named' Called') block_stays bs all

  pub body_stays : (p : Procedure) → BodyStands Named Called p → BodyStands Named' Called' p
  body_stays p old = record { items = items_stay p.body old.items; fits = old.fits }

  pub bodies_stay : (ps : List Procedure) → All (BodyStands Named Called) ps → All (BodyStands Named' Called') ps
  bodies_stay ps all = All-weaker (BodyStands Named Called) (BodyStands Named' Called') body_stays ps all

  pub by_stays : (g : Graph) → IsByBlock Named Called g → IsByBlock Named' Called' g
  by_stays g by =
      record {
        distinct = by.distinct;
        entry = names g.entry by.entry;
        words = All-weaker Named Named' names (code_word_uses g.code_words) by.words;
        ends = by.ends;
        ascending = by.ascending;
        blocks = blocks_stay g.blocks by.blocks;
        bodies = bodies_stay g.procedures by.bodies;
      }
