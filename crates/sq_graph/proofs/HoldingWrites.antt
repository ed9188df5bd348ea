-- What the fields show, and which rules hold, after just the entry or the words of data name other blocks.
use Rattle.std.proofs.Common.{◌≡◌, ℕ, zero, suc, List, [], ◌∷◌, map, get_or, set, Vec, Global, refl, ap, subst, sym}
use Rattle.std.specs.List.{All}
use Rattle.std.specs.List.Sorted.{IsStrictlyIncreasing}
use Rattle.std.proofs.lemmas.List.Elements.{All-cons, All-head, All-tail}
use Rattle.sq_graph.specs.declared.parts.CodeRef.{CodeRef}
use Rattle.sq_graph.specs.declared.graph.Graph.TheInside.{Inside}
use Rattle.sq_graph.specs.Graph.{Graph}
use Rattle.sq_graph.specs.Blocks.{HasBlock, HasProcedure}
use Rattle.sq_graph.specs.Uses.{code_word_uses}
use Rattle.sq_graph.specs.Rules.{IsGraph}
use Rattle.sq_graph.specs.Operations.{words_with, with_word, with_entry}
use Rattle.sq_graph.specs.Layout.{graph_of, IsSound}
use Rattle.sq_graph.proofs.RulesByBlock.{by_block, from_blocks}

-- the blocks and procedures stay, so what else uses them need not be looked at
held_rules : (g : Graph) (entry : ℕ) (words : List CodeRef) → IsGraph g → HasBlock g entry → All (HasBlock g) (code_word_uses words) → map (λ w. w.at) words ≡ map (λ w. w.at) g.code_words → IsGraph (record g { entry = entry; code_words = words })
held_rules g entry words rules has named same =
    let by = by_block (HasBlock g) (HasProcedure g) g rules rules.named_all rules.called_all in
    from_blocks (record g { entry = entry; code_words = words })
    (record {
      distinct = by.distinct;
      entry = has;
      words = named;
      ends = by.ends;
      ascending = subst (λ ats. IsStrictlyIncreasing ats) (sym same) by.ascending;
      blocks = by.blocks;
      bodies = by.bodies;
    })

words_with-at : (words : List CodeRef) (at to : ℕ) → map (λ w. w.at) (words_with words at to) ≡ map (λ w. w.at) words
words_with-at [] at to = refl
words_with-at (word ∷ rest) zero to = refl
words_with-at (word ∷ rest) (suc at) to = ap (λ ats. word.at ∷ ats) (words_with-at rest at to)

words_with-named : (P : ℕ → Type 0) (words : List CodeRef) (at to : ℕ) → P to → All P (code_word_uses words) → All P (code_word_uses (words_with words at to))
words_with-named P [] at to has all = all
words_with-named P (word ∷ rest) zero to has all = All-cons P to (code_word_uses rest) has (All-tail P word.block (code_word_uses rest) all)
words_with-named P (word ∷ rest) (suc at) to has all =
    All-cons P word.block (code_word_uses (words_with rest at to)) (All-head P word.block (code_word_uses rest) all)
    (words_with-named P rest at to has (All-tail P word.block (code_word_uses rest) all))

-- the word that is read at the place keeps its address
pub words_with-set : (words : List CodeRef) (at to : ℕ) (read : CodeRef) → read ≡ get_or words at read → set words at (record { at = read.at; block = to }) ≡ words_with words at to
words_with-set [] at to read is = refl
words_with-set (word ∷ rest) zero to read is = ap (λ (w : CodeRef). record w { block = to } ∷ rest) is
words_with-set (word ∷ rest) (suc at) to read is = ap (λ ws. word ∷ ws) (words_with-set rest at to read is)

pub with_word_rules : (g : Graph) (at to : ℕ) → IsGraph g → HasBlock g to → IsGraph (with_word g at to)
with_word_rules g at to rules has =
    let by = by_block (HasBlock g) (HasProcedure g) g rules rules.named_all rules.called_all in
    held_rules g g.entry (words_with g.code_words at to) rules by.entry
    (words_with-named (HasBlock g) g.code_words at to has by.words) (words_with-at g.code_words at to)

pub with_entry_rules : (g : Graph) (to : ℕ) → IsGraph g → HasBlock g to → IsGraph (with_entry g to)
with_entry_rules g to rules has =
    let by = by_block (HasBlock g) (HasProcedure g) g rules rules.named_all rules.called_all in
    held_rules g to g.code_words rules has by.words refl

-- slots, items and bodies lie as before
pub held_sound : (inside : Inside) (entry : ℕ) (words : Vec CodeRef Global) → IsSound inside → IsGraph (graph_of (record inside { entry = entry; code_words = words })) → IsSound (record inside { entry = entry; code_words = words })
held_sound inside entry words sound rules =
    record {
      gaps = sound.gaps;
      behind = sound.behind;
      bodies = sound.bodies;
      rules = rules;
      room = record { items = sound.room.items; item_room = sound.room.item_room; bodies = sound.room.bodies; body_room = sound.room.body_room };
      small = sound.small;
    }
