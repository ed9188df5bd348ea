-- Which blocks stay, as tables tell it, and where they stand.
use Rattle.std.specs.Prelude.{◌≡◌, ℕ, ◌==◌, ◌&&◌, not, nat_eq, List, [], ◌∷◌, ◌++◌, length, Option, None, Some, if◌then◌else◌}
use Rattle.std.specs.HashMap.{get}
use Rattle.std.specs.Option.{option_eq, unwrap_or}
use Rattle.sq_arena.specs.Entries.{first_key}
use Rattle.sq_graph.specs.declared.item.Item.{Item}
use Rattle.sq_graph.specs.declared.item.Term.{Term}
use Rattle.sq_graph.specs.declared.item.Term.TheVariants.{Jump}
use Rattle.sq_graph.specs.declared.parts.BlockPart.{BlockPart}
use Rattle.sq_graph.specs.declared.parts.ProcedurePart.{ProcedurePart}
use Rattle.sq_graph.specs.Blocks.{named, HasBlock, next_of, term_of}
use Rattle.sq_graph.specs.Graph.{Block, Procedure, Graph}
use Rattle.sq_graph.specs.Leaders.{is_fall}
use Rattle.sq_graph.specs.Parts.{names_of}
use Rattle.sq_graph.specs.Renames.{retargeted_items, retargeted_term}
use Rattle.sq_graph.specs.Slotted.{number_in, slotted}
use Rattle.sq_graph.specs.Terms.{goes_on}
use Rattle.sq_fold.specs.Grouped.{class_in}
use Rattle.sq_fold.specs.Partition.{IsCoarsestPartition}
use Rattle.sq_quotient.specs.declared.staying.Staying.{Staying}
use Rattle.sq_quotient.specs.declared.folding.Folding.{Folding}
use Rattle.sq_quotient.specs.Folded.{new_name, merged}
use Rattle.sq_quotient.specs.Folding.{stays_for, folded_by}

-- the first of these names that is of a class
abbrev pub first_of : (ℕ → Option ℕ) → List ℕ → ℕ → Option ℕ
first_of class [] c = None
first_of class (n ∷ names) c = if option_eq nat_eq (class n) (Some c) then Some n else first_of class names c

-- the block that stays for a name of this class, by the first of each class
abbrev pub stays_by : (ℕ → Option ℕ) → Option ℕ → ℕ → ℕ
stays_by first None name = name
stays_by first (Some class) name = unwrap_or (first class) name

abbrev pub stays_in : Staying → ℕ → ℕ
stays_in staying name = stays_by (get nat_eq staying.firsts) (class_in staying.grouping name) name

-- it tells which blocks of the graph stay
pub record TellsStaying (g : Graph) (staying : Staying) : Type 0 where
  pub class : ℕ → Option ℕ
  pub coarsest : IsCoarsestPartition g class
  pub each : (n : ℕ) → stays_in staying n ≡ stays_for g class n

-- the next slot, where the term goes on to it and it goes
abbrev pub gone_next : (ℕ → ℕ) → Option Term → Option ℕ → Option ℕ
gone_next f None next = None
gone_next f (Some term) None = None
gone_next f (Some term) (Some next) = if goes_on term && not (f next == next) then Some next else None

-- how many blocks become of one that stays: a new one stands behind it where its term isn't Fall and the next slot goes
abbrev pub slots_by : Option Term → Option ℕ → ℕ
slots_by None next = 1
slots_by (Some term) None = 1
slots_by (Some term) (Some next) = if is_fall term then 1 else 2

abbrev pub slots_of : (ℕ → ℕ) → Graph → ℕ → ℕ
slots_of f g name = slots_by (term_of g name) (gone_next f (term_of g name) (next_of g name))

-- these are the positions of the blocks that stay among those that are left
abbrev pub ArePositions : (ℕ → ℕ) → Graph → (ℕ → Option ℕ) → Type 0
ArePositions f g position = (n : ℕ) → HasBlock g n → f n ≡ n → position n ≡ number_in (names_of (folded_by f (new_name g) g)) 0 n

-- where the block that stays for a name stands among those that are left
abbrev pub place_in : Folding → ℕ → ℕ
place_in folding name = unwrap_or (get nat_eq folding.positions (stays_in folding.staying name)) 0

-- the parts that become of a block with this many items, which goes on to a next slot that goes, or to none
abbrev pub parts_by : (ℕ → ℕ) → ℕ → Term → Option ℕ → List BlockPart
parts_by place length term None = record { length = length; term = retargeted_term place term } ∷ []
parts_by place length term (Some next) =
    if is_fall term then record { length = length; term = Jump (place next) } ∷ []
    else record { length = length; term = retargeted_term place term } ∷ record { length = 0; term = Jump (place next) } ∷ []

-- the name in the first slot of these
abbrev pub next_in : List Block → Option ℕ
next_in rest = first_key (named rest)

-- the parts of the blocks that are left, and their items
abbrev pub parts_of : (ℕ → ℕ) → (ℕ → ℕ) → List Block → List BlockPart
parts_of place f [] = []
parts_of place f (b ∷ rest) =
    if f b.name == b.name then parts_by place (length b.items) b.term (gone_next f (Some b.term) (next_in rest)) ++ parts_of place f rest else parts_of place f rest

abbrev pub items_left : (ℕ → ℕ) → (ℕ → ℕ) → List Block → List Item
items_left place f [] = []
items_left place f (b ∷ rest) = if f b.name == b.name then retargeted_items place b.items ++ items_left place f rest else items_left place f rest

abbrev pub procedure_part : Procedure → ProcedurePart
procedure_part p = record { link = p.link; length = length p.body }

-- The other graph is this one with the blocks of each class merged, but for the names of blocks, which are positions.
pub record IsMerged (old new : Graph) : Type 0 where
  pub class : ℕ → Option ℕ
  pub coarsest : IsCoarsestPartition old class
  pub is : new ≡ slotted (merged old class)
