-- Prints: numbers that are equal for blocks whose bodies match.
use Rattle.std.specs.Prelude.{ℕ, ◌+◌, ◌||◌, ◌≡◌, ◌<◌, Bool, false, List, [], ◌∷◌, length, Option, None, Some, option_to_list, slice_get, slice_index}
use Rattle.sq_isa.specs.Registers.{is_member}
use Rattle.sq_graph.specs.declared.item.Item.{Item}
use Rattle.sq_graph.specs.declared.item.Item.TheVariants.{Op, Hi, Lo, Out}
use Rattle.sq_graph.specs.Graph.{Procedure, Graph}
use Rattle.sq_graph.specs.Blocks.{items_of}
use Rattle.sq_graph.specs.Matches.{item_reads, item_writes}
use Rattle.sq_graph.specs.Resolve.{ResolvedTerm, resolved_term_of}
use Rattle.sq_graph.specs.Uses.{term_uses}
use Rattle.sq_graph.specs.Walks.{is_register}
use Rattle.sq_rename.specs.Bodies.{live_behind}
use Rattle.sq_rename.specs.Prints.{mixed, print_from}

-- one more than the block that is named, and 0 where none is
abbrev pub number_of_uses : List ℕ → ℕ
number_of_uses [] = 0
number_of_uses (to ∷ rest) = to + 1

-- the number of an end: of the block that the resolved term names, and of the slot in which what follows goes on
abbrev pub end_number : Option ResolvedTerm → ℕ
end_number None = 0
end_number (Some resolved) = mixed (number_of_uses (term_uses resolved.term)) (number_of_uses (option_to_list resolved.next))

-- the registers that items read or write, and those that a procedure names: its link, and those of its body
abbrev pub are_named : List Item → ℕ → Bool
are_named [] r = false
are_named (item ∷ items) r = (item_reads item r || item_writes item r) || are_named items r

abbrev pub is_named_by : Option Procedure → ℕ → Bool
is_named_by None r = false
is_named_by (Some procedure) r = is_register procedure.link r || are_named procedure.body r

-- those of the procedures that items call
abbrev pub called_by : List Procedure → Item → ℕ → Bool
called_by procedures (Op insn) r = false
called_by procedures (Hi rd to) r = false
called_by procedures (Lo rd rs to) r = false
called_by procedures (Out procedure) r = is_named_by (slice_get procedures procedure) r

abbrev pub is_called : List Procedure → List Item → ℕ → Bool
is_called procedures [] r = false
is_called procedures (item ∷ items) r = called_by procedures item r || is_called procedures items r

-- for each procedure the set of those that it names
pub record AreNamed (g : Graph) (sets : List ℕ) : Type 0 where
  pub many : length sets ≡ length g.procedures
  pub each : (p r : ℕ) → p < length sets → is_member (slice_index sets p) r ≡ is_named_by (slice_get g.procedures p) r

-- the registers that can't go with others: those that are live behind the items of a block, and those of what they call
abbrev pub is_kept : List (ℕ × List ℕ) → Graph → ℕ → ℕ → Bool
is_kept live g block r = is_member (live_behind live g block) r || is_called g.procedures (items_of g block) r

-- the print of a block: of its end, and of its items
abbrev pub print_of : List (ℕ × List ℕ) → Graph → ℕ → ℕ
print_of live g block = print_from (end_number (resolved_term_of g block)) (is_kept live g block) (items_of g block)
