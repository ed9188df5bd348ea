-- Two calls of one body, written as calls of a procedure.
use Rattle.std.proofs.Common.{◌≡◌, ℕ, pos, List, [], ◌∷◌, ◌++◌, length, map, codes, refl}
use Rattle.sq_isa.specs.declared.instructions.Insn.TheVariants.{OpImm, Ecall}
use Rattle.sq_isa.specs.declared.instructions.ImmOp.TheVariants.{Addi}
use Rattle.sq_isa.specs.Encoding.{word_of}
use Rattle.sq_graph.specs.declared.item.Item.{Item}
use Rattle.sq_graph.specs.declared.item.Item.TheVariants.{Op, Hi, Lo, Out}
use Rattle.sq_graph.specs.declared.item.Term.{Term}
use Rattle.sq_graph.specs.declared.item.Term.TheVariants.{Fall, Jump, Call, PartJump, Indirect, Stop}
use Rattle.sq_graph.specs.Graph.{Block, Graph}
use Rattle.sq_write.specs.Output.{words, Output, output_file}
use Rattle.sq_write.specs.Points.{point_word, text_points}
use Rattle.sq_write.specs.Pieces.{set_word_at, with_words}
use Rattle.sq_write.specs.Written.{entries_of, note_of}

block : ℕ → List Item → Term → Block
block name items term = record { name = name; items = items; term = term }

add : ℕ → ℕ → Item
add register imm = Op (OpImm Addi register register (pos imm))

-- `jal f` twice, each behind the body, then `li a7,93; ecall; j .; f: ret`
called_twice : Graph
called_twice = record {
  blocks =
      block 0 (Out 0 ∷ []) (Call 1 4)
      ∷ block 1 (Out 0 ∷ []) (Call 1 4)
      ∷ block 2 (Op (OpImm Addi 17 0 (pos 93)) ∷ Op Ecall ∷ []) Fall
      ∷ block 3 [] (Jump 3)
      ∷ block 4 [] (Indirect 0 1 (pos 0))
      ∷ [];
  entry = 0;
  code_words = [];
  procedures = record { link = 5; body = add 11 1 ∷ add 12 2 ∷ add 13 3 ∷ add 14 4 ∷ [] } ∷ [];
}

text : List ℕ
text =
    0x020002ef ∷ 0x018000ef ∷ 0x018002ef ∷ 0x010000ef ∷ 0x05d00893 ∷ 0x00000073 ∷ 0x0000006f ∷ 0x00008067 ∷ 0x00158593 ∷ 0x00260613
    ∷ 0x00368693 ∷ 0x00470713 ∷ 0x00028067 ∷ []

text_is : map point_word (text_points called_twice 65536) ≡ text
unfolding block add called_twice text word_of
text_is = refl

note : List ℕ
note = codes "SQZ2" ++ words (1 ∷ 0x00010020 ∷ 5 ∷ 4 ∷ [])

note_is : note_of called_twice 65536 ≡ note
unfolding block add called_twice note
note_is = refl

output : Output
output = record { entry = 65536; before = []; start = 65536; text = text; after = []; relocations = []; note = note }

size_is : length (output_file output) ≡ 512
unfolding text note output
size_is = refl

-- `lui a0,%hi(f); addi a0,a0,%lo(f); jalr ra,%lo(f)(a0)`, with f behind them, and the code word 0x00020000 for f
halves : Graph
halves = record {
  blocks = block 0 (Hi 10 1 ∷ Lo 10 10 1 ∷ []) (PartJump 1 10 1) ∷ block 1 [] (Stop 0x00100073) ∷ [];
  entry = 0;
  code_words = record { at = 0x00020000; block = 1 } ∷ [];
  procedures = [];
}

halves_are : map point_word (text_points halves 65536) ≡ 0x00010537 ∷ 0x00c50513 ∷ 0x00c500e7 ∷ 0x00100073 ∷ []
unfolding block halves word_of
halves_are = refl

entries_are : entries_of halves 65536 ≡ record { offset = 65536; kind = 26; addend = 65548 } ∷ record { offset = 65540; kind = 27; addend = 65548 } ∷ record { offset = 65544; kind = 27; addend = 65548 } ∷ record { offset = 131072; kind = 1; addend = 65548 } ∷ []
unfolding block halves
entries_are = refl

-- the code word in bytes that stand from the address 0x0001fffe on
words_set : with_words (set_word_at halves 65536) 131070 (9 ∷ 9 ∷ 1 ∷ 2 ∷ 3 ∷ 4 ∷ 7 ∷ []) ≡ 9 ∷ 9 ∷ 0x0c ∷ 0 ∷ 1 ∷ 0 ∷ 7 ∷ []
unfolding block halves
words_set = refl
