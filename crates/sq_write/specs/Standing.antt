-- Words of text that fit where they stand. No public clause cites this module.
use Rattle.std.specs.Prelude.{◌≡◌, ℕ, ◌+◌, ◌*◌, List, [], ◌∷◌, ◌++◌, length, map}
use Rattle.std.specs.List.{AllByRecursion, flat_map}
use Rattle.sq_isa.specs.declared.instructions.Insn.{Insn}
use Rattle.sq_isa.specs.declared.instructions.Insn.TheVariants.{Jal, Branch as BranchInsn}
use Rattle.sq_isa.specs.Ranges.{IsSigned, IsEven}
use Rattle.sq_graph.specs.declared.item.Item.{Item}
use Rattle.sq_graph.specs.declared.item.Term.{Term}
use Rattle.sq_graph.specs.Graph.{Block, Procedure, Graph}
use Rattle.sq_graph.specs.Rules.{ItemFits, TermFits}
use Rattle.sq_graph.specs.Words.{block_words, procedure_words}
use Rattle.sq_layout.specs.Addresses.{ArePlaces}
use Rattle.sq_write.specs.Output.{words, relocation_table}
use Rattle.sq_write.specs.Points.{Point, point_word, item_insn, term_points, procedures_at}
use Rattle.sq_write.specs.declared.placed.Placed.{Placed}
use Rattle.sq_write.specs.declared.text_bytes.TextBytes.{TextBytes}

-- the places are those of the graph in its text
abbrev pub IsPlaced : Placed → Type 0
IsPlaced p = ArePlaces p.g.now.graph p.lo p.places.now

-- the offset of a jump or a branch fits its field
abbrev pub OffsetFits : Insn → Type 0
OffsetFits (Jal rd offset) = IsSigned 21 offset × IsEven offset
OffsetFits (BranchInsn cond a b offset) = IsSigned 13 offset × IsEven offset
OffsetFits insn = Unit {0}

-- an item, a term and all that they make up fit at an address
abbrev pub ItemStands : Graph → ℕ → ℕ → Item → Type 0
ItemStands g lo at item = ItemFits item × OffsetFits (item_insn g lo at item)

abbrev pub ItemsStand : Graph → ℕ → ℕ → List Item → Type 0
ItemsStand g lo at [] = Unit {0}
ItemsStand g lo at (item ∷ items) = ItemStands g lo at item × ItemsStand g lo (at + 4) items

abbrev pub TermStands : Graph → ℕ → ℕ → Term → Type 0
TermStands g lo at term = TermFits term × AllByRecursion (λ p. OffsetFits p.insn) (term_points g lo at term)

abbrev pub BlockStands : Graph → ℕ → ℕ → Block → Type 0
BlockStands g lo at block = ItemsStand g lo at block.items × TermStands g lo (at + 4 * length block.items) block.term

abbrev pub BlocksStand : Graph → ℕ → ℕ → List Block → Type 0
BlocksStand g lo at [] = Unit {0}
BlocksStand g lo at (block ∷ blocks) = BlockStands g lo at block × BlocksStand g lo (at + 4 * block_words block) blocks

abbrev pub ProceduresStand : Graph → ℕ → ℕ → List Procedure → Type 0
ProceduresStand g lo at [] = Unit {0}
ProceduresStand g lo at (procedure ∷ procedures) =
    ItemsStand g lo at procedure.body × ProceduresStand g lo (at + 4 * procedure_words procedure) procedures

-- all words of the text fit where they stand
pub record TextStands (g : Graph) (lo : ℕ) : Type 0 where
  pub blocks : BlocksStand g lo lo g.blocks
  pub procedures : ProceduresStand g lo (procedures_at g lo) g.procedures

-- the words of these points were appended, and their relocation entries
pub record Appends (points : List Point) (old new : TextBytes) : Type 0 where
  pub text : new.text.items ≡ old.text.items ++ words (map point_word points)
  pub entries : new.entries.items ≡ old.entries.items ++ relocation_table (flat_map (λ p. p.entries) points)
