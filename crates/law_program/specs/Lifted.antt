-- The graph of a program. Names are addresses: of a block that of its first word.
use Rattle.std.specs.Prelude.{ℕ, zero, suc, ◌+◌, Bool, true, false, not, ◌==◌, ◌&&◌, ◌||◌, List, [], ◌∷◌, ◌++◌, Option, Some, None, map, if◌then◌else◌}
use Rattle.std.specs.Option.{option_map}
use Rattle.sq_isa.specs.Registers.{is_among}
use Rattle.sq_reloc.specs.declared.mark.CodeWord.{CodeWord}
use Rattle.sq_graph.specs.declared.item.Item.{Item}
use Rattle.sq_graph.specs.declared.item.Item.TheVariants.{Out}
use Rattle.sq_graph.specs.declared.item.Term.{Term}
use Rattle.sq_graph.specs.declared.item.Term.TheVariants.{Fall, Call}
use Rattle.sq_graph.specs.declared.parts.CodeRef.{CodeRef}
use Rattle.sq_graph.specs.Graph.{Block, Procedure, Graph}
use Rattle.sq_graph.specs.Terms.{goes_on}
use Rattle.sq_graph.specs.Uses.{item_uses, term_uses}
use Rattle.law_program.specs.Programs.{Word, Text, Note, Program, target_of}
use Rattle.law_program.specs.Readings.{Reading, IsItem, IsTerm, Links, reading_of, reading_at}
use Rattle.law_program.specs.Notes.{used_notes, is_in_procedures}

-- the number of the procedure that is noted at an address
abbrev pub procedure_at : List Note → ℕ → Option ℕ
procedure_at [] x = None
procedure_at (note ∷ notes) x = if note.address == x then Some 0 else option_map suc (procedure_at notes x)

-- an item, or a term
pub data Form : Type 0 where
  ItemForm : Item → Form
  TermForm : Term → Form

-- a `jal` with a link: an Out where its target is noted, else a Call
abbrev pub link_form : ℕ → ℕ → Option ℕ → Form
link_form link to None = TermForm (Call link to)
link_form link to (Some procedure) = ItemForm (Out procedure)

abbrev pub form_of : List Note → Reading → Form
form_of notes (IsItem item) = ItemForm item
form_of notes (IsTerm term) = TermForm term
form_of notes (Links link to) = link_form link to (procedure_at notes to)

-- Leaders: the entry, the targets of code words, of Hi and Lo, of Jump, Branch, Call and PartJump, and the word behind a
-- Branch, a Call, or a PartJump or Indirect whose link isn't x0
abbrev pub form_leads : ℕ → Form → List ℕ
form_leads at (ItemForm item) = item_uses item
form_leads at (TermForm term) = term_uses term ++ (if goes_on term then (at + 4) ∷ [] else [])

abbrev pub reading_leads : List Note → ℕ → Option Reading → List ℕ
reading_leads notes at None = []
reading_leads notes at (Some reading) = form_leads at (form_of notes reading)

-- a reached word of these, which stand from `at` on, makes x a leader
abbrev pub words_lead : (ℕ → Bool) → List Note → Text → ℕ → List Word → ℕ → Bool
words_lead is notes t at [] x = false
words_lead is notes t at (w ∷ words) x =
    is at && is_among (reading_leads notes at (reading_of t at w)) x || words_lead is notes t (at + 4) words x

abbrev pub is_leader : (ℕ → Bool) → List Note → Program → ℕ → Bool
is_leader is notes p x =
    p.entry == x || is_among (map target_of p.code_words) x || words_lead is notes p.text p.text.lo p.text.words x

-- the words of blocks: the reached ones outside procedures
abbrev pub is_kept : (ℕ → Bool) → List Note → ℕ → Bool
is_kept is notes x = is x && not (is_in_procedures notes x)

-- what stands from a word on: the rest of the block that the word is in, and the blocks behind
pub record Rest : Type 0 where
  pub items : List Item
  pub term : Term
  pub blocks : List Block

-- where no block goes on: what is before these blocks falls into the first
abbrev pub between : List Block → Rest
between blocks = record { items = []; term = Fall; blocks = blocks }

-- an item stands before the rest of its block; a term is the end of its block
abbrev pub with_form : Form → Rest → Rest
with_form (ItemForm item) rest = record rest { items = item ∷ rest.items }
with_form (TermForm term) rest = record { items = []; term = term; blocks = rest.blocks }

abbrev pub with_reading : List Note → Option Reading → Rest → Rest
with_reading notes None rest = rest
with_reading notes (Some reading) rest = with_form (form_of notes reading) rest

-- the block that begins here, where a leader does
abbrev pub begun_if : Bool → ℕ → Rest → Rest
begun_if true at rest = between (record { name = at; items = rest.items; term = rest.term } ∷ rest.blocks)
begun_if false at rest = rest

-- a block is a leader and what follows up to a term, or to the next leader and then with Fall. Where nothing is refused,
-- only a leader follows a term or a word that isn't kept, and each kept word reads
abbrev pub cut : (ℕ → Bool) → (ℕ → Bool) → List Note → Text → ℕ → List Word → Rest
cut keeps leads notes t at [] = between []
cut keeps leads notes t at (w ∷ words) =
    if keeps at
    then begun_if (leads at) at (with_reading notes (reading_of t at w) (cut keeps leads notes t (at + 4) words))
    else cut keeps leads notes t (at + 4) words

-- the items of a procedure
abbrev pub with_item : Option Reading → List Item → List Item
with_item None items = items
with_item (Some (IsItem item)) items = item ∷ items
with_item (Some (IsTerm term)) items = items
with_item (Some (Links link to)) items = items

abbrev pub body_from : Text → ℕ → ℕ → List Item
body_from t at zero = []
body_from t at (suc n) = with_item (reading_at t at) (body_from t (at + 4) n)

abbrev pub procedure_of : Text → Note → Procedure
procedure_of t note = record { link = note.link; body = body_from t note.address note.length }

abbrev pub code_ref : CodeWord → CodeRef
code_ref word = record { at = word.at; block = word.to }

abbrev pub lifted_with : (ℕ → Bool) → List Note → Program → Graph
lifted_with is notes p = record {
  blocks = (cut (is_kept is notes) (is_leader is notes p) notes p.text p.text.lo p.text.words).blocks;
  entry = p.entry;
  code_words = map code_ref p.code_words;
  procedures = map (procedure_of p.text) notes;
}

-- THE graph of a program, by a test that decides which words are reached. A noted procedure that isn't reached is no
-- part of it
abbrev pub lifted : (ℕ → Bool) → Program → Graph
lifted is p = lifted_with is (used_notes is p.notes) p
