-- Labels of the places of a graph.
use Rattle.std.specs.Prelude.{Option, None, Some, slice_get}
use Rattle.std.specs.Option.{option_map}
use Rattle.sq_graph.specs.declared.item.Item.{Item}
use Rattle.sq_graph.specs.declared.item.Term.{Term}
use Rattle.sq_graph.specs.Blocks.{items_of, term_of}
use Rattle.sq_graph.specs.Graph.{Graph}
use Rattle.sq_finger.specs.declared.keys.ItemKey.{ItemKey}
use Rattle.sq_finger.specs.declared.keys.TermKey.{TermKey}
use Rattle.sq_finger.specs.declared.places.WindowAt.{WindowAt}
use Rattle.sq_finger.specs.ItemKeys.{key_of}
use Rattle.sq_finger.specs.TermKeys.{term_key_of}
use Rattle.sq_fold.specs.Partition.{bare_item, bare_term}

-- the item that stands there, or the term behind all items, but for names
abbrev pub bare : Option Item → Option Term → Option Item × Option Term
bare None term = (None, option_map bare_term term)
bare (Some item) term = (Some (bare_item item), None)

abbrev pub bare_at : Graph → WindowAt → Option Item × Option Term
bare_at g place = bare (slice_get (items_of g place.block) place.at) (term_of g place.block)

abbrev pub key_of_bare : Option Item × Option Term → Option ItemKey × Option TermKey
key_of_bare there = (option_map key_of there.0, option_map term_key_of there.1)
