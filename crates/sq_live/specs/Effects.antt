-- What items do to a register: whether they read it before they write it, and whether they write it. No public
-- clause cites this module.
use Rattle.std.specs.Prelude.{◌≡◌, ◌<◌, ℕ, pos, Bool, false, not, ◌||◌, ◌&&◌, List, [], ◌∷◌, Option, Some, None, slice_get}
use Rattle.sq_isa.specs.Registers.{is_member, is_among_but_x0}
use Rattle.sq_isa.specs.Uses.{is_read, is_written}
use Rattle.sq_isa.specs.declared.instructions.Insn.TheVariants.{Lui, OpImm}
use Rattle.sq_isa.specs.declared.instructions.ImmOp.TheVariants.{Addi}
use Rattle.sq_graph.specs.declared.item.Item.{Item}
use Rattle.sq_graph.specs.declared.item.Item.TheVariants.{Op, Hi, Lo, Out}
use Rattle.sq_graph.specs.Graph.{Block, Procedure}
use Rattle.sq_graph.specs.Walks.{term_sources, term_link, is_register}
use Rattle.sq_live.specs.declared.effect.Effect.{Effect}

abbrev pub effect_reads : Option Effect → ℕ → Bool
effect_reads None r = false
effect_reads (Some effect) r = is_member effect.reads r

abbrev pub effect_writes : Option Effect → ℕ → Bool
effect_writes None r = false
effect_writes (Some effect) r = is_member effect.writes r

-- an item, where the calls of procedures have these effects
abbrev pub item_reads : List Effect → Item → ℕ → Bool
item_reads calls (Op insn) r = is_read insn r
item_reads calls (Hi rd to) r = is_read (Lui rd 0) r
item_reads calls (Lo rd rs to) r = is_read (OpImm Addi rd rs (pos 0)) r
item_reads calls (Out procedure) r = effect_reads (slice_get calls procedure) r

abbrev pub item_writes : List Effect → Item → ℕ → Bool
item_writes calls (Op insn) r = is_written insn r
item_writes calls (Hi rd to) r = is_written (Lui rd 0) r
item_writes calls (Lo rd rs to) r = is_written (OpImm Addi rd rs (pos 0)) r
item_writes calls (Out procedure) r = effect_writes (slice_get calls procedure) r

-- whether r is live before items, given whether it is live behind them
abbrev pub before_items : List Effect → List Item → Bool → ℕ → Bool
before_items calls [] behind r = behind
before_items calls (item ∷ items) behind r = item_reads calls item r || (not (item_writes calls item r) && before_items calls items behind r)

abbrev pub items_write : List Effect → List Item → ℕ → Bool
items_write calls [] r = false
items_write calls (item ∷ items) r = item_writes calls item r || items_write calls items r

-- a call of a procedure writes its link, and then does the body, which has no Out
abbrev pub call_reads : Option Procedure → ℕ → Bool
call_reads None r = false
call_reads (Some procedure) r = not (is_register procedure.link r) && before_items [] procedure.body false r

abbrev pub call_writes : Option Procedure → ℕ → Bool
call_writes None r = false
call_writes (Some procedure) r = is_register procedure.link r || items_write [] procedure.body r

-- the effect is that of this call
abbrev pub IsCall : Option Effect → Option Procedure → Type 0
IsCall effect procedure =
    (r : ℕ) → r < 32 → (effect_reads effect r ≡ call_reads procedure r) × (effect_writes effect r ≡ call_writes procedure r)

-- These are the effects of the calls of the procedures.
abbrev pub AreCalls : List Procedure → List Effect → Type 0
AreCalls procedures calls = (k : ℕ) → IsCall (slice_get calls k) (slice_get procedures k)

-- a block does its items, and then its term
abbrev pub block_reads : List Effect → Option Block → ℕ → Bool
block_reads calls None r = false
block_reads calls (Some block) r =
    before_items calls block.items false r || (not (items_write calls block.items r) && is_among_but_x0 (term_sources block.term) r)

abbrev pub block_writes : List Effect → Option Block → ℕ → Bool
block_writes calls None r = false
block_writes calls (Some block) r = items_write calls block.items r || is_register (term_link block.term) r

abbrev pub IsBlock : List Effect → Option Effect → Option Block → Type 0
IsBlock calls effect block =
    (r : ℕ) → r < 32 → (effect_reads effect r ≡ block_reads calls block r) × (effect_writes effect r ≡ block_writes calls block r)

-- These are the effects of the blocks in layout order; what stands behind them has none.
abbrev pub AreBlocks : List Effect → List Block → List Effect → Type 0
AreBlocks calls blocks effects = (k : ℕ) → IsBlock calls (slice_get effects k) (slice_get blocks k)
