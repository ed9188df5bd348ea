-- What each call makes of a graph. A call that makes a block is given the block's name.
use Rattle.std.specs.Prelude.{◌≡◌, ℕ, zero, suc, ◌+◌, ◌==◌, if◌then◌else◌, List, [], ◌∷◌, ◌++◌, map, take, drop, Option, None, Some, slice_get, slice_range, remove}
use Rattle.sq_arena.specs.Entries.{move_run_after}
use Rattle.sq_graph.specs.declared.item.Item.{Item}
use Rattle.sq_graph.specs.declared.item.Item.TheVariants.{Op, Hi, Lo, Out}
use Rattle.sq_graph.specs.declared.item.Term.{Term}
use Rattle.sq_graph.specs.declared.item.Term.TheVariants.{Fall}
use Rattle.sq_graph.specs.declared.parts.CodeRef.{CodeRef}
use Rattle.sq_graph.specs.Graph.{Block, Procedure, Graph}
use Rattle.sq_graph.specs.Blocks.{named, block_of, items_of, body_of}
use Rattle.sq_graph.specs.Renames.{retargeted, recalled, swapped, lowered}

-- no block has the name
abbrev pub IsNew : Graph → ℕ → Type 0
IsNew g name = block_of g name ≡ None

-- the block of the name is replaced by a list of blocks
abbrev pub with_blocks : (Block → List Block) → List Block → ℕ → List Block
with_blocks f [] name = []
with_blocks f (b ∷ rest) name = if b.name == name then f b ++ rest else b ∷ with_blocks f rest name

abbrev pub changed : (Block → List Block) → Graph → ℕ → Graph
changed f g name = record g { blocks = with_blocks f g.blocks name }

-- the two blocks that a split makes: the first keeps the name and falls into the second
abbrev pub halves : ℕ → ℕ → Block → List Block
halves new at b =
    record b { items = take at b.items; term = Fall } ∷ record b { name = new; items = drop at b.items } ∷ []

abbrev pub split_at : Graph → ℕ → ℕ → ℕ → Graph
split_at g new name at = changed (halves new at) g name

abbrev pub with_term : Graph → ℕ → Term → Graph
with_term g name term = changed (λ b. record b { term = term } ∷ []) g name

-- every use of `from` becomes one of `to`
abbrev pub redirected : Graph → ℕ → ℕ → Graph
redirected g from to = retargeted (swapped from to) g

-- the items with `length` of them, from `at` on, replaced by others
abbrev pub replaced_items : List Item → ℕ → ℕ → List Item → List Item
replaced_items items at length by = take at items ++ (by ++ drop (at + length) items)

abbrev pub replaced : Graph → ℕ → ℕ → ℕ → List Item → Graph
replaced g name at length by =
    changed (λ b. record b { items = replaced_items b.items at length by } ∷ []) g name

-- an item of a procedure's body is another
abbrev pub procedures_with : List Procedure → ℕ → ℕ → Item → List Procedure
procedures_with [] number at item = []
procedures_with (p ∷ rest) zero at item = record p { body = replaced_items p.body at 1 (item ∷ []) } ∷ rest
procedures_with (p ∷ rest) (suc number) at item = p ∷ procedures_with rest number at item

abbrev pub with_body_item : Graph → ℕ → ℕ → Item → Graph
with_body_item g number at item = record g { procedures = procedures_with g.procedures number at item }

-- the procedure that the item at this place calls
abbrev pub call_of : Option Item → Option ℕ
call_of None = None
call_of (Some (Op insn)) = None
call_of (Some (Hi rd to)) = None
call_of (Some (Lo rd rs to)) = None
call_of (Some (Out procedure)) = Some procedure

abbrev pub called_at : Graph → ℕ → ℕ → Option ℕ
called_at g name at = call_of (slice_get (items_of g name) at)

abbrev pub called_body : Graph → Option ℕ → List Item
called_body g None = []
called_body g (Some procedure) = body_of g procedure

-- the Out at this place is replaced by its procedure's body
abbrev pub inlined : Graph → ℕ → ℕ → Graph
inlined g name at = replaced g name at 1 (called_body g (called_at g name at))

-- the items from this place on become the last procedure
abbrev pub outlined : Graph → ℕ → ℕ → ℕ → ℕ → Graph
outlined g name at length link =
    record g {
      procedures = g.procedures ++ record { link = link; body = slice_range (items_of g name) at (at + length) } ∷ [];
    }

abbrev pub without_block : Graph → ℕ → Graph
without_block g name = changed (λ _. []) g name

-- each Out of procedure `from` becomes an Out of `to`
abbrev pub redirected_calls : Graph → ℕ → ℕ → Graph
redirected_calls g from to = recalled (swapped from to) g

-- the procedure is gone, and the numbers above it fall by one
abbrev pub without_procedure : Graph → ℕ → Graph
without_procedure g number =
    recalled (lowered number) (record g { procedures = remove g.procedures number })

-- a new block without items stands right behind the block
abbrev pub inserted_after : Graph → ℕ → ℕ → Term → Graph
inserted_after g new name term =
    changed (λ b. b ∷ record { name = new; items = []; term = term } ∷ []) g name

-- the blocks from `first` to `last` stand right behind `after`, and the rest keeps its order
abbrev pub moved_after : Graph → ℕ → ℕ → ℕ → Graph
moved_after g first last after =
    record g { blocks = map (λ e. e.1) (move_run_after (named g.blocks) first last after) }

-- the first of these blocks takes over the items and the term of the next one, which goes
abbrev pub with_next_taken : Block → List Block → List Block
with_next_taken b [] = b ∷ []
with_next_taken b (next ∷ rest) = record b { items = b.items ++ next.items; term = next.term } ∷ rest

abbrev pub joined_at : List Block → ℕ → List Block
joined_at [] name = []
joined_at (b ∷ rest) name = if b.name == name then with_next_taken b rest else b ∷ joined_at rest name

-- the word of data at this place holds the address of another block
abbrev pub words_with : List CodeRef → ℕ → ℕ → List CodeRef
words_with [] at to = []
words_with (word ∷ rest) zero to = record word { block = to } ∷ rest
words_with (word ∷ rest) (suc at) to = word ∷ words_with rest at to

abbrev pub with_word : Graph → ℕ → ℕ → Graph
with_word g at to = record g { code_words = words_with g.code_words at to }

-- the program starts at another block
abbrev pub with_entry : Graph → ℕ → Graph
with_entry g to = record g { entry = to }

-- the block takes over the items and the term of the next slot, which goes
abbrev pub joined_with_next : Graph → ℕ → Graph
joined_with_next g name = record g { blocks = joined_at g.blocks name }
