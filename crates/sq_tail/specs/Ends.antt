-- The ends of blocks: their last items, and the resolved terms behind them.
use Rattle.std.specs.Prelude.{◌≡◌, ◌≢◌, ℕ, zero, suc, ◌+◌, ◌-◌, ◌≤◌, nat_lt, if◌then◌else◌, List, [], ◌∷◌, Option, None, Some, length, drop, slice_get}
use Rattle.std.specs.Option.{option_map, option_zip}
use Rattle.sq_graph.specs.declared.item.Item.{Item}
use Rattle.sq_graph.specs.Graph.{Graph}
use Rattle.sq_graph.specs.Blocks.{items_of}
use Rattle.sq_graph.specs.Resolve.{ResolvedTerm, resolved_term_of}
use Rattle.sq_rename.specs.Reservations.{is_reservation, HasNoReservations}
use Rattle.sq_tail.specs.Tails.{end_words}

-- the last n items
abbrev pub last_items : ℕ → List Item → List Item
last_items n items = drop (length items - n) items

-- the last n items of two bodies are equal, and no LR and no SC is among them
pub record IsCommonEnd (items others : List Item) (n : ℕ) : Type 0 where
  pub first : n ≤ length items
  pub second : n ≤ length others
  pub same : last_items n items ≡ last_items n others
  pub plain : HasNoReservations (last_items n others)

pub record IsLongestEnd (items others : List Item) (n : ℕ) : Type 0 where
  pub common : IsCommonEnd items others n
  pub longest : (m : ℕ) → IsCommonEnd items others m → m ≤ n

-- two blocks with a common end of n items, at least one, and equal resolved terms
pub record HaveEnd (g : Graph) (dropped kept n : ℕ) : Type 0 where
  pub other : kept ≢ dropped
  pub some : 1 ≤ n
  pub items : IsCommonEnd (items_of g dropped) (items_of g kept) n
  pub terms : resolved_term_of g dropped ≡ resolved_term_of g kept

-- so that a word is saved
pub record IsTailPair (g : Graph) (dropped kept : ℕ) : Type 0 where
  pub n : ℕ
  pub end : HaveEnd g dropped kept n
  pub saves : 1 ≤ n - 1 + end_words g dropped

-- the item with this many behind it, where it is no LR and no SC
abbrev pub plain_item : Option Item → Option Item
plain_item None = None
plain_item (Some item) = if is_reservation item then None else Some item

abbrev pub item_back : ℕ → List Item → Option Item
item_back behind items = if nat_lt behind (length items) then plain_item (slice_get items (length items - 1 - behind)) else None

-- the resolved term of a block, and its last n items, where there are as many and no LR and no SC is among them
abbrev pub end_of : Graph → ℕ → ℕ → Option (Option ResolvedTerm × List Item)
end_of g zero block = Some (resolved_term_of g block, [])
end_of g (suc n) block = option_map (λ p. (p.0.0, p.1 ∷ p.0.1)) (option_zip (end_of g n block) (item_back n (items_of g block)))
