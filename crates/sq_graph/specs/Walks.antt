-- Walks over a graph: which blocks are reached, and which registers are live at a place. Both are whole-program
-- analyses of link-time optimizers (Debray, Evans, Muth and De Sutter, TOPLAS 2000), said by finite walks.
use Rattle.std.specs.Prelude.{◌≡◌, ℕ, Bool, true, false, List, [], ◌∷◌, ◌++◌, Option, Some, None, ◌⊎◌, ◌==◌, map, slice_get, if◌then◌else◌}
use Rattle.std.specs.List.{flat_map, Contains}
use Rattle.sq_isa.specs.Registers.{is_among_but_x0}
use Rattle.sq_isa.specs.Uses.{is_read, is_written}
use Rattle.sq_graph.specs.declared.item.Item.{Item}
use Rattle.sq_graph.specs.declared.item.Item.TheVariants.{Op, Hi, Lo, Out}
use Rattle.sq_graph.specs.declared.item.Term.{Term}
use Rattle.sq_graph.specs.declared.item.Term.TheVariants.{Fall, Jump, Branch, Call, PartJump, Indirect, Stop}
use Rattle.sq_graph.specs.declared.parts.CodeRef.{CodeRef}
use Rattle.sq_graph.specs.Graph.{Block, Procedure, Graph}
use Rattle.sq_graph.specs.Terms.{goes_on, links}
use Rattle.sq_graph.specs.Uses.{item_uses, items_uses, term_uses}
use Rattle.sq_graph.specs.Lines.{Line, Name, Do, Enter, Return, End, inside, block_lines}

-- Reached blocks

-- the targets of Hi and Lo in the body of a procedure that is there
abbrev pub procedure_names : Option Procedure → List ℕ
procedure_names None = []
procedure_names (Some procedure) = items_uses procedure.body

-- those of an item, and for a call those of its procedure
abbrev pub called_names : List Procedure → Item → List ℕ
called_names procedures (Out procedure) = procedure_names (slice_get procedures procedure)
called_names procedures item = item_uses item

-- the name of the first block
abbrev pub first_name : List Block → List ℕ
first_name [] = []
first_name (block ∷ blocks) = block.name ∷ []

-- where a block leads that has these blocks behind it: the targets of its term, its next slot where the term goes
-- on, and the targets of Hi and Lo in it and in the procedures that it calls
abbrev pub block_successors : List Procedure → Block → List Block → List ℕ
block_successors procedures block blocks =
    term_uses block.term
    ++ (if goes_on block.term then first_name blocks else [])
    ++ flat_map (called_names procedures) block.items

-- where the block of a name leads
abbrev pub successors_in : List Procedure → List Block → ℕ → List ℕ
successors_in procedures [] n = []
successors_in procedures (block ∷ blocks) n =
    if block.name == n then block_successors procedures block blocks else successors_in procedures blocks n

abbrev pub successors : Graph → ℕ → List ℕ
successors g n = successors_in g.procedures g.blocks n

abbrev pub word_name : CodeRef → ℕ
word_name word = word.block

-- A block is reached where some walk leads to it from the entry or from a code word.
pub data IsReachedBlock (g : Graph) : ℕ → Type 0 where
  entry : IsReachedBlock g g.entry
  code_word : {n : ℕ} → Contains (map word_name g.code_words) n → IsReachedBlock g n
  walk : {n m : ℕ} → IsReachedBlock g n → Contains (successors g n) m → IsReachedBlock g m

-- Code targets: the names of code words and of Lo items, and the next slots behind links

abbrev pub lower_names : Item → List ℕ
lower_names (Op insn) = []
lower_names (Hi rd to) = []
lower_names (Lo rd rs to) = to ∷ []
lower_names (Out procedure) = []

abbrev pub link_names : List Block → List ℕ
link_names [] = []
link_names (block ∷ blocks) = (if links block.term then first_name blocks else []) ++ link_names blocks

-- the names that a register or a word in memory may hold as an address, in whatever block or procedure it was made
abbrev pub code_targets : Graph → List ℕ
code_targets g =
    map word_name g.code_words
    ++ flat_map (λ block. flat_map lower_names block.items) g.blocks
    ++ flat_map (λ procedure. flat_map lower_names procedure.body) g.procedures
    ++ link_names g.blocks

-- Live registers

-- the registers that a term reads, and its link
abbrev pub term_sources : Term → List ℕ
term_sources Fall = []
term_sources (Jump to) = []
term_sources (Branch cond a b to) = a ∷ b ∷ []
term_sources (Call link to) = []
term_sources (PartJump link part to) = part ∷ []
term_sources (Indirect link at offset) = at ∷ []
term_sources (Stop word) = []

abbrev pub term_link : Term → ℕ
term_link Fall = 0
term_link (Jump to) = 0
term_link (Branch cond a b to) = 0
term_link (Call link to) = link
term_link (PartJump link part to) = link
term_link (Indirect link at offset) = link
term_link (Stop word) = 0

-- whether r is the register, and not x0
abbrev pub is_register : ℕ → ℕ → Bool
is_register register r = is_among_but_x0 (register ∷ []) r

abbrev pub is_link_of : Option Procedure → ℕ → Bool
is_link_of None r = false
is_link_of (Some procedure) r = is_register procedure.link r

-- whether a line reads r, and whether it writes r. An Out writes its procedure's link, and its body is lines of its own
abbrev pub line_reads : Line → ℕ → Bool
line_reads (Name n) r = false
line_reads (Do half insn) r = is_read insn r
line_reads (Enter procedure) r = false
line_reads (Return link) r = false
line_reads (End term) r = is_among_but_x0 (term_sources term) r

abbrev pub line_writes : List Procedure → Line → ℕ → Bool
line_writes procedures (Name n) r = false
line_writes procedures (Do half insn) r = is_written insn r
line_writes procedures (Enter procedure) r = is_link_of (slice_get procedures procedure) r
line_writes procedures (Return link) r = false
line_writes procedures (End term) r = is_register (term_link term) r

-- where a walk goes from a term that has these lines behind it: to the next slot, to the target, or to each code target
abbrev pub TermGoes : Graph → Term → List Line → List Line → Type 0
TermGoes g Fall rest next = next ≡ rest
TermGoes g (Jump to) rest next = next ≡ block_lines g to
TermGoes g (Branch cond a b to) rest next = (next ≡ block_lines g to) ⊎ (next ≡ rest)
TermGoes g (Call link to) rest next = next ≡ block_lines g to
TermGoes g (PartJump link part to) rest next = next ≡ block_lines g to
TermGoes g (Indirect link at offset) rest next = (n : ℕ) × Contains (code_targets g) n × (next ≡ block_lines g n)
TermGoes g (Stop word) rest next = ⊥

-- where a walk goes from a line: through items in order, and by an Out into its procedure's body and then behind it
abbrev pub Goes : Graph → Line → List Line → List Line → Type 0
Goes g (Name n) rest next = next ≡ rest
Goes g (Do half insn) rest next = next ≡ rest
Goes g (Enter procedure) rest next = (p : Procedure) × (slice_get g.procedures procedure ≡ Some p) × (next ≡ inside p rest)
Goes g (Return link) rest next = next ≡ rest
Goes g (End term) rest next = TermGoes g term rest next

-- Register r is live at a place, given as what stands from it on: some walk comes to a read of r before any write of r.
pub data IsLive (g : Graph) (r : ℕ) : List Line → Type 0 where
  read_here : {line : Line} {rest : List Line} → line_reads line r ≡ true → IsLive g r (line ∷ rest)
  live_behind : {line : Line} {rest next : List Line} → line_writes g.procedures line r ≡ false → Goes g line rest next → IsLive g r next → IsLive g r (line ∷ rest)
