-- The nodes of a graph: its places, and where each leads.
use Rattle.std.specs.Prelude.{◌≡◌, ℕ, ◌+◌, List, Option, None, Some, length, slice_get, if◌then◌else◌}
use Rattle.std.specs.Option.{option_map, option_and_then}
use Rattle.sq_graph.specs.declared.item.Item.{Item}
use Rattle.sq_graph.specs.declared.item.Item.TheVariants.{Op, Hi, Lo, Out}
use Rattle.sq_graph.specs.declared.item.Term.{Term}
use Rattle.sq_graph.specs.declared.item.Term.TheVariants.{Fall, Jump, Branch, Call, PartJump, Indirect, Stop}
use Rattle.sq_graph.specs.Blocks.{items_of, term_of, next_of}
use Rattle.sq_graph.specs.Graph.{Graph}
use Rattle.sq_graph.specs.Leaders.{is_fall}
use Rattle.sq_graph.specs.Terms.{goes_on}
use Rattle.sq_finger.specs.declared.places.WindowAt.{WindowAt}
use Rattle.sq_finger.specs.Numbers.{member_at}
use Rattle.sq_fold.specs.declared.rounds.Node.{Node}

-- the block that an item names, and the one that a term names
abbrev pub item_name : Item → Option ℕ
item_name (Op insn) = None
item_name (Hi rd to) = Some to
item_name (Lo rd rs to) = Some to
item_name (Out procedure) = None

abbrev pub term_name : Term → Option ℕ
term_name Fall = None
term_name (Jump to) = Some to
term_name (Branch c a b to) = Some to
term_name (Call link to) = Some to
term_name (PartJump link part to) = Some to
term_name (Indirect link at offset) = None
term_name (Stop word) = None

-- the next slot, where a term goes on to it
abbrev pub slot_of : Option Term → Option ℕ → Option ℕ
slot_of None next = None
slot_of (Some term) next = if goes_on term then next else None

-- a block and a place in it
abbrev pub At : Type 0
At = ℕ × ℕ

-- the first place of a block
abbrev pub start_of : Option ℕ → Option At
start_of name = option_map (λ n. (n, 0)) name

abbrev pub starts_of : Option ℕ × Option ℕ → Option At × Option At
starts_of names = (start_of names.0, start_of names.1)

-- the two blocks to which a term leads: the next slot and its target. A Fall is a Jump to the next slot.
abbrev pub term_leads : Option Term → Option ℕ → Option ℕ × Option ℕ
term_leads None slot = (None, None)
term_leads (Some term) slot = if is_fall term then (None, slot) else (slot, term_name term)

abbrev pub leads_on : Graph → ℕ → Option ℕ × Option ℕ
leads_on g block = term_leads (term_of g block) (slot_of (term_of g block) (next_of g block))

-- those to which an item leads: the place behind it, and the start of the block that it names; behind all items those of
-- the term
abbrev pub leads_by : Graph → WindowAt → Option Item → Option At × Option At
leads_by g place None = starts_of (leads_on g place.block)
leads_by g place (Some item) = (Some (place.block, place.at + 1), start_of (item_name item))

abbrev pub leads_at : Graph → WindowAt → Option At × Option At
leads_at g place = leads_by g place (slice_get (items_of g place.block) place.at)

-- a node with this label, which leads to these places
abbrev pub node_of : (At → Option ℕ) → Option ℕ → Option At × Option At → Node
node_of find label leads = record {
  label = label;
  next = option_and_then find leads.0;
  target = option_and_then find leads.1;
}

-- a node for each place of the line
pub record AreNodes (g : Graph) (line : List WindowAt) (labels : List (Option ℕ)) (find : At → Option ℕ) (nodes : List Node) : Type 0 where
  pub many : length nodes ≡ length line
  pub each : (i : ℕ) (p : WindowAt) → slice_get line i ≡ Some p → slice_get nodes i ≡ Some (node_of find (member_at labels i) (leads_at g p))

-- the class of a block, by those of places in a line
abbrev pub class_by : (At → Option ℕ) → List (Option ℕ) → ℕ → Option ℕ
class_by find classes block = option_and_then (member_at classes) (find (block, 0))
