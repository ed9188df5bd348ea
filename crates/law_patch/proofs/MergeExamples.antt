-- Blocks that are not to be merged, by computing what the graph does before and after.
use Rattle.std.specs.Prelude.{◌≡◌, ℕ, pos, List, [], ◌∷◌, refl}
use Rattle.sq_isa.specs.declared.instructions.Insn.TheVariants.{OpImm, Ecall}
use Rattle.sq_isa.specs.declared.instructions.ImmOp.TheVariants.{Addi}
use Rattle.law_runs.specs.Runs.{Halted}
use Rattle.sq_system.specs.Starts.{Start, argument_area}
use Rattle.sq_system.specs.World.{is_writable, is_executable}
use Rattle.sq_system.specs.declared.event.Halt.TheVariants.{Exit}
use Rattle.sq_graph.specs.declared.item.Item.{Item}
use Rattle.sq_graph.specs.declared.item.Item.TheVariants.{Op, Out}
use Rattle.sq_graph.specs.declared.item.Term.TheVariants.{Fall, Jump}
use Rattle.sq_graph.specs.Graph.{Procedure, Graph}
use Rattle.law_follow.specs.Worlds.{World}
use Rattle.law_follow.specs.Follows.{graph_run}
use Rattle.law_patch.specs.Merges.{merged}

empty : World
empty = record { pieces = []; lo = 65536; hi = 65552; code_words = 0 }

little : Start
little = record { arguments = []; input = []; base = 1048576; size = 16 }

li : ℕ → ℕ → Item
li rd n = Op (OpImm Addi rd 0 (pos n))

mv : ℕ → ℕ → Item
mv rd rs = Op (OpImm Addi rd rs (pos 0))

-- two blocks that jump to a third, which ends the run by `li a7,93; ecall`
graph_with : List Item → List Item → List Item → List Procedure → Graph
graph_with one two rest procedures = record {
  blocks =
      record { name = 0; items = one; term = Jump 2 }
      ∷ record { name = 1; items = two; term = Jump 2 }
      ∷ record { name = 2; items = rest; term = Fall }
      ∷ record { name = 3; items = li 17 93 ∷ Op Ecall ∷ []; term = Jump 3 }
      ∷ [];
  entry = 0;
  code_words = [];
  procedures = procedures;
}

-- `li t1,1` matches `li t2,1`, but here t1 is live behind it
live_pair : Graph
live_pair = graph_with (li 6 1 ∷ []) (li 7 1 ∷ []) (mv 10 6 ∷ []) []

live_pair_before : graph_run empty live_pair little 5 ≡ record { events = []; status = Halted (Exit 1) }
unfolding argument_area is_writable is_executable empty little li mv graph_with live_pair
live_pair_before = refl

live_pair_merged : graph_run empty (merged live_pair 0 0 1) little 6 ≡ record { events = []; status = Halted (Exit 0) }
unfolding argument_area is_writable is_executable empty little li mv graph_with live_pair
live_pair_merged = refl

-- and t2 here
other_live : Graph
other_live = graph_with (li 6 1 ∷ []) (li 7 1 ∷ []) (mv 10 7 ∷ []) []

other_live_before : graph_run empty other_live little 5 ≡ record { events = []; status = Halted (Exit 0) }
unfolding argument_area is_writable is_executable empty little li mv graph_with other_live
other_live_before = refl

other_live_merged : graph_run empty (merged other_live 0 0 1) little 6 ≡ record { events = []; status = Halted (Exit 1) }
unfolding argument_area is_writable is_executable empty little li mv graph_with other_live
other_live_merged = refl

-- t1 and t2 are dead behind the blocks here, but both call a procedure that reads t1
called_pair : Graph
called_pair = graph_with (li 6 1 ∷ Out 0 ∷ []) (li 7 1 ∷ Out 0 ∷ []) [] (record { link = 5; body = mv 10 6 ∷ [] } ∷ [])

called_pair_before : graph_run empty called_pair little 7 ≡ record { events = []; status = Halted (Exit 1) }
unfolding argument_area is_writable is_executable empty little li mv graph_with called_pair
called_pair_before = refl

called_pair_merged : graph_run empty (merged called_pair 0 0 1) little 8 ≡ record { events = []; status = Halted (Exit 0) }
unfolding argument_area is_writable is_executable empty little li mv graph_with called_pair
called_pair_merged = refl
