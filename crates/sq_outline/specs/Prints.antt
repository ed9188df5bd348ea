-- Blocks in groups by the forms of their items, and by the registers that these read before one is written.
use Rattle.std.specs.Prelude.{ℕ, nat_eq, false, List, Option, Some, map}
use Rattle.sq_graph.specs.declared.item.Item.{Item}
use Rattle.sq_graph.specs.Graph.{Graph}
use Rattle.sq_graph.specs.Blocks.{HasProcedure, items_of, body_of}
use Rattle.sq_graph.specs.Parts.{names_of}
use Rattle.sq_rename.specs.Prints.{print_from}
use Rattle.sq_finger.specs.Groups.{groups_of}
use Rattle.sq_finger.specs.Numbers.{numbers_of}
use Rattle.sq_outline.specs.declared.spans.Span.{Span}
use Rattle.sq_outline.specs.Spans.{IsIn}

-- the print of items in which no register is kept but those that the item reads in which they are met first
abbrev pub print_of_items : List Item → ℕ
print_of_items items = print_from 0 (λ r. false) items

abbrev pub print_of : Graph → ℕ → ℕ
print_of g block = print_of_items (items_of g block)

-- each procedure is in the span of its body's print
abbrev pub HasPrints : Graph → (ℕ → Option Span) → Type 0
HasPrints g prints = (p : ℕ) → HasProcedure g p → IsIn (prints (print_of_items (body_of g p))) p

-- the names of the blocks of one print are a group; the groups in the order in which they are first seen
abbrev pub print_groups : Graph → List (List ℕ)
print_groups g = groups_of (numbers_of nat_eq (map (λ name. Some (print_of g name)) (names_of g))) (names_of g)
