-- Two runs of one graph that agree on what is live.
use Rattle.std.specs.Prelude.{◌≡◌, ℕ, true, List, [], ◌∷◌, Option, Some, None}
use Rattle.std.specs.List.{Contains}
use Rattle.sq_isa.specs.declared.instructions.Insn.{Insn}
use Rattle.sq_isa.specs.declared.instructions.Insn.TheVariants.{OpImm}
use Rattle.sq_isa.specs.declared.instructions.ImmOp.TheVariants.{Addi}
use Rattle.law_runs.specs.Simulation.{SimulatesInStep}
use Rattle.sq_system.specs.Starts.{Start}
use Rattle.sq_graph.specs.Graph.{Graph}
use Rattle.sq_graph.specs.Terms.{links}
use Rattle.sq_graph.specs.Lines.{AddressHalf, Plain, Upper, Lower, Line, Name, Do, Enter, Return, End, slot_name, place_lines}
use Rattle.sq_graph.specs.Walks.{IsLive, code_targets}
use Rattle.law_follow.specs.Values.{Part, Tagged}
use Rattle.law_follow.specs.GraphRuns.{State, At, Fetching, graph_step}
use Rattle.law_follow.specs.Worlds.{World, setting_of}
use Rattle.law_patch.specs.Agreement.{Ties, SameCore}

-- each tagged value stands for itself; an address of code is that of a code target
abbrev pub own_ties : Graph → Ties
own_ties g = record {
  code = λ n m. (m ≡ n) × Contains (code_targets g) n;
  part = λ n word value. value ≡ Tagged (Part n word);
}

abbrev pub everywhere : ℕ → Type 0
everywhere x = Unit {0}

-- a register that is live stands for itself
abbrev pub StandsLive : Graph → List Line → ℕ → ℕ → Type 0
StandsLive g lines r q = (q ≡ r) × IsLive g r lines

-- an item that makes the address of a name makes that of a code target
abbrev pub MakesTarget : Graph → ℕ → Insn → Type 0
MakesTarget g n (OpImm Addi rd rs imm) = Contains (code_targets g) n
MakesTarget g n insn = ⊥

abbrev pub HalfMakesTarget : Graph → AddressHalf → Insn → Type 0
HalfMakesTarget g Plain insn = Unit {0}
HalfMakesTarget g (Upper n word) insn = Unit {0}
HalfMakesTarget g (Lower n) insn = MakesTarget g n insn

abbrev pub SlotIsTarget : Graph → Option ℕ → Type 0
SlotIsTarget g None = Unit {0}
SlotIsTarget g (Some n) = Contains (code_targets g) n

-- the addresses that these lines make are those of code targets
abbrev pub MakeTargets : Graph → List Line → Type 0
MakeTargets g [] = Unit {0}
MakeTargets g (Name n ∷ rest) = MakeTargets g rest
MakeTargets g (Do half insn ∷ rest) = HalfMakesTarget g half insn × MakeTargets g rest
MakeTargets g (Enter procedure ∷ rest) = MakeTargets g rest
MakeTargets g (Return link ∷ rest) = MakeTargets g rest
MakeTargets g (End term ∷ rest) = (links term ≡ true → SlotIsTarget g (slot_name rest)) × MakeTargets g rest

-- The two states stand at one place, and agree on memory and on the registers that are live there. What the first
-- has lost may be anything in the second.
abbrev pub AgreeLive : Graph → State → State → Type 0
AgreeLive g (At lines a) (At others b) = (others ≡ lines) × MakeTargets g lines × SameCore everywhere (own_ties g) (StandsLive g lines) a b
AgreeLive g (Fetching x) (Fetching y) = y ≡ x
AgreeLive g (At lines a) (Fetching y) = ⊥
AgreeLive g (Fetching x) (At others b) = ⊥

-- From states that agree on what is live a graph steps to such states again, with the same event or to the same end,
-- while the first run doesn't break.
abbrev pub StepsAgree : Type 0
StepsAgree = (w : World) (start : Start) (g : Graph) → SimulatesInStep (graph_step (setting_of w start) g) (graph_step (setting_of w start) g) (AgreeLive g)

-- What stands from a place of a graph on makes addresses of code targets alone.
abbrev pub PlacesMakeTargets : Type 0
PlacesMakeTargets = (g : Graph) (block place : ℕ) → MakeTargets g (place_lines g block place)
