-- Words cut into blocks, as the code does it: from the last word back, with the addresses of blocks turned into their
-- positions. No public clause cites this module.
use Rattle.std.specs.Prelude.{◌≡◌, ℕ, ◌+◌, ◌-◌, ◌%◌, Bool, true, false, not, ◌&&◌, List, [], ◌∷◌, ◌++◌, Option, Some, None, ◌==◌, length, map, nat_eq, reverse, take, if◌then◌else◌}
use Rattle.std.specs.Option.{unwrap_or}
use Rattle.std.specs.Map.{lookup}
use Rattle.sq_graph.specs.declared.item.Item.{Item}
use Rattle.sq_graph.specs.declared.item.Term.{Term}
use Rattle.sq_graph.specs.declared.item.Term.TheVariants.{Fall}
use Rattle.sq_graph.specs.declared.parts.BlockPart.{BlockPart}
use Rattle.sq_graph.specs.declared.parts.ProcedurePart.{ProcedurePart}
use Rattle.sq_graph.specs.Graph.{Block}
use Rattle.sq_graph.specs.Blocks.{items_of_blocks}
use Rattle.sq_graph.specs.Renames.{retargeted_item, retargeted_items, retargeted_term}
use Rattle.sq_lift.specs.Flags.{Flags, is_flagged}
use Rattle.law_program.specs.Programs.{Word, Text, Note}
use Rattle.law_program.specs.Readings.{Reading}
use Rattle.law_program.specs.Lifted.{Form, ItemForm, TermForm, form_of, Rest, body_from}

-- the number of the procedure that is noted at an address, where these notes have the numbers from k on
abbrev pub note_number_in : List Note → ℕ → ℕ → Option ℕ
note_number_in [] k x = None
note_number_in (note ∷ notes) k x = if note.address == x then Some k else note_number_in notes (k + 1) x

-- the position of a block by its address, by a table of the numbers, and 0 where there is no such block
abbrev pub position_by : List (ℕ × ℕ) → ℕ → ℕ
position_by entries x = unwrap_or (lookup (nat_eq x) entries) 0

-- the words of blocks, by those that are reached and those of procedures
abbrev pub kept_by : Flags → Flags → ℕ → Bool
kept_by reached inside x = is_flagged reached x && not (is_flagged inside x)

-- the addresses at which blocks begin, among words from `at` on
abbrev pub starts : (ℕ → Bool) → (ℕ → Bool) → ℕ → List Word → List ℕ
starts keeps leads at [] = []
starts keeps leads at (w ∷ words) =
    if keeps at
    then (if leads at then at ∷ starts keeps leads (at + 4) words else starts keeps leads (at + 4) words)
    else starts keeps leads (at + 4) words

-- the blocks so far, and the items and the term that stand before them: each list has its last element first
pub record Cut : Type 0 where
  pub items : List Item
  pub blocks : List BlockPart
  pub count : ℕ
  pub term : Term

abbrev pub no_cut : Cut
no_cut = record { items = []; blocks = []; count = 0; term = Fall }

-- an item stands before the rest of its block; a term is the end of its block
abbrev pub form_cut : (ℕ → ℕ) → Form → Cut → Cut
form_cut f (ItemForm item) cut = record cut { items = cut.items ++ retargeted_item f item ∷ []; count = cut.count + 1 }
form_cut f (TermForm term) cut =
    record cut { items = take (length cut.items - cut.count) cut.items; count = 0; term = retargeted_term f term }

abbrev pub reading_cut : (ℕ → ℕ) → List Note → Option Reading → Cut → Cut
reading_cut f notes None cut = cut
reading_cut f notes (Some reading) cut = form_cut f (form_of notes reading) cut

-- the block that begins here, where a leader does
abbrev pub begun_cut : Bool → Cut → Cut
begun_cut true cut = record { items = cut.items; blocks = cut.blocks ++ record { length = cut.count; term = cut.term } ∷ []; count = 0; term = Fall }
begun_cut false cut = cut

abbrev pub part_of : (ℕ → ℕ) → Block → BlockPart
part_of f b = record { length = length b.items; term = retargeted_term f b.term }

-- the cut shows what stands from a word on, with names turned by f
pub record Shows (f : ℕ → ℕ) (rest : Rest) (cut : Cut) : Type 0 where
  pub items : cut.items ≡ reverse (retargeted_items f (rest.items ++ items_of_blocks rest.blocks))
  pub blocks : cut.blocks ≡ reverse (map (part_of f) rest.blocks)
  pub count : cut.count ≡ length rest.items
  pub term : cut.term ≡ retargeted_term f rest.term

-- the blocks of a cut, in order
pub record ShowsBlocks (f : ℕ → ℕ) (list : List Block) (items : List Item) (parts : List BlockPart) : Type 0 where
  pub items_are : items ≡ retargeted_items f (items_of_blocks list)
  pub parts_are : parts ≡ map (part_of f) list

-- a noted procedure, the length of whose body is that of its items. Its link is a register
abbrev pub note_part : Text → Note → ProcedurePart
note_part t note = record { link = note.link % 32; length = length (body_from t note.address note.length) }

abbrev pub body_of : Text → Note → List Item
body_of t note = body_from t note.address note.length
