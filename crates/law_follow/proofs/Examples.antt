-- What small graphs do, by computing their runs.
use Rattle.std.specs.Prelude.{◌≡◌, ℕ, pos, List, [], ◌∷◌, refl}
use Rattle.sq_isa.specs.declared.instructions.Insn.TheVariants.{OpImm, Ecall, Load, Store}
use Rattle.sq_isa.specs.declared.instructions.ImmOp.TheVariants.{Addi}
use Rattle.sq_isa.specs.declared.instructions.LoadKind.TheVariants.{Lw, Lbu}
use Rattle.sq_isa.specs.declared.instructions.StoreKind.TheVariants.{Sw, Sb}
use Rattle.law_runs.specs.Runs.{Halted, Broken}
use Rattle.sq_system.specs.Starts.{Start, argument_area}
use Rattle.sq_system.specs.World.{is_writable, is_executable}
use Rattle.sq_system.specs.declared.event.Event.TheVariants.{Wrote, Read}
use Rattle.sq_system.specs.declared.event.Halt.TheVariants.{Exit}
use Rattle.sq_graph.specs.declared.item.Item.{Item}
use Rattle.sq_graph.specs.declared.item.Item.TheVariants.{Op, Hi, Lo, Out}
use Rattle.sq_graph.specs.declared.item.Term.TheVariants.{Fall, Jump, Indirect}
use Rattle.sq_graph.specs.Graph.{Block, Procedure, Graph}
use Rattle.law_follow.specs.Worlds.{World, OfWord}
use Rattle.law_follow.specs.Follows.{graph_run}

empty : World
empty = record { pieces = []; lo = 65536; hi = 65552; code_words = 0 }

little : Start
little = record { arguments = []; input = []; base = 1048576; size = 16 }

li : ℕ → ℕ → Item
li rd n = Op (OpImm Addi rd 0 (pos n))

mv : ℕ → ℕ → Item
mv rd rs = Op (OpImm Addi rd rs (pos 0))

-- `li a7,93; ecall`
exits : List Item
exits = li 17 93 ∷ Op Ecall ∷ []

stays : ℕ → Block
stays n = record { name = n; items = []; term = Jump n }

program : List Block → List Procedure → Graph
program blocks procedures = record { blocks = blocks; entry = 0; code_words = []; procedures = procedures }

-- `li a0,7`, and then the exit
smallest : Graph
smallest = program (record { name = 0; items = li 10 7 ∷ exits; term = Fall } ∷ stays 1 ∷ []) []

smallest_exits : graph_run empty smallest little 3 ≡ record { events = []; status = Halted (Exit 7) }
unfolding argument_area is_writable is_executable empty little li exits stays program smallest
smallest_exits = refl

-- a procedure that sets a0, called through x5
nine : Procedure
nine = record { link = 5; body = li 10 9 ∷ [] }

calling : List Item → Graph
calling items = program (record { name = 0; items = Out 0 ∷ items; term = Fall } ∷ stays 1 ∷ []) (nine ∷ [])

-- a call, an item of the body, a return, and the exit
call_returns : graph_run empty (calling exits) little 5 ≡ record { events = []; status = Halted (Exit 9) }
unfolding argument_area is_writable is_executable empty little li exits stays program nine calling
call_returns = refl

-- the link of a call is lost: to read it breaks
link_is_lost : graph_run empty (calling (mv 10 5 ∷ exits)) little 4 ≡ record { events = []; status = Broken }
unfolding argument_area is_writable is_executable empty little li mv exits stays program nine calling
link_is_lost = refl

-- an address of code by its two halves is stored as a word, loaded again and called
saved : Item → Graph
saved load = program
    (record { name = 0; items = Hi 6 1 ∷ Lo 6 6 1 ∷ Op (Store Sw 2 6 (pos 0)) ∷ load ∷ []; term = Indirect 0 7 (pos 0) }
    ∷ record { name = 1; items = li 10 4 ∷ exits; term = Fall }
    ∷ stays 2 ∷ []) []

saved_is_called : graph_run empty (saved (Op (Load Lw 7 2 (pos 0)))) little 8 ≡ record { events = []; status = Halted (Exit 4) }
unfolding argument_area is_writable is_executable empty little li exits stays program saved
saved_is_called = refl

-- a byte of it breaks
byte_breaks : graph_run empty (saved (Op (Load Lbu 7 2 (pos 0)))) little 4 ≡ record { events = []; status = Broken }
unfolding argument_area is_writable is_executable empty little li exits stays program saved
byte_breaks = refl

-- overwriting a part of it and loading another word is no break
overwritten : Graph
overwritten = program
    (record { name = 0; items = Hi 6 1 ∷ Lo 6 6 1 ∷ Op (Store Sw 2 6 (pos 0)) ∷ Op (Store Sb 2 0 (pos 0)) ∷ li 10 3 ∷ exits; term = Fall } ∷ stays 1 ∷ []) []

overwriting_goes : graph_run empty overwritten little 7 ≡ record { events = []; status = Halted (Exit 3) }
unfolding argument_area is_writable is_executable empty little li exits stays program overwritten
overwriting_goes = refl

-- a code word in a piece that may be written: its address is loaded and called
one_word : World
one_word = record {
  pieces = record { piece = record { extent = record { address = 64; length = 4 }; flags = 6 }; bytes = OfWord 0 0 ∷ OfWord 0 1 ∷ OfWord 0 2 ∷ OfWord 0 3 ∷ [] } ∷ [];
  lo = 65536;
  hi = 65552;
  code_words = 1;
}

by_word : Graph
by_word = record {
  blocks =
      record { name = 0; items = Op (Load Lw 6 0 (pos 64)) ∷ []; term = Indirect 1 6 (pos 0) }
      ∷ record { name = 1; items = exits; term = Fall }
      ∷ record { name = 2; items = li 10 6 ∷ []; term = Indirect 0 1 (pos 0) }
      ∷ [];
  entry = 0;
  code_words = record { at = 64; block = 2 } ∷ [];
  procedures = [];
}

word_is_called : graph_run one_word by_word little 6 ≡ record { events = []; status = Halted (Exit 6) }
unfolding argument_area is_writable is_executable little li exits one_word by_word
word_is_called = refl

-- three bytes of input are read and written
echo : Graph
echo = program
    (record { name = 0; items = mv 11 2 ∷ li 12 8 ∷ li 17 63 ∷ Op Ecall ∷ mv 12 10 ∷ li 10 1 ∷ li 17 64 ∷ Op Ecall ∷ li 10 0 ∷ exits; term = Fall } ∷ stays 1 ∷ []) []

hello : Start
hello = record { arguments = []; input = 104 ∷ 105 ∷ 10 ∷ []; base = 1048576; size = 16 }

echo_writes : graph_run empty echo hello 11 ≡ record { events = Read (104 ∷ 105 ∷ 10 ∷ []) ∷ Wrote 1 (104 ∷ 105 ∷ 10 ∷ []) ∷ []; status = Halted (Exit 0) }
unfolding argument_area is_writable is_executable empty hello li mv exits stays program echo
echo_writes = refl
