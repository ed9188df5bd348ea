-- A chain that stands behind the Jump to it: its words, and that the Jump is to the next slot.
use Rattle.std.proofs.Common.{◌≡◌, ℕ, List, [], ◌∷◌, ◌++◌, map, sum_by, refl, ap, ◌∙◌, subst, arith, append_assoc}
use Rattle.std.proofs.lemmas.List.Sums.{sum_by-cons, sum_by-append}
use Rattle.sq_arena.specs.Entries.{HasDistinctKeys, value_of, before, behind, run, without_run, move_run_after, first_key, next_key}
use Rattle.sq_arena.proofs.EntriesLemmas.{shape_of, through-before, some_value}
use Rattle.sq_arena.proofs.EntriesLaws.{absent_ahead, behind-append, HasDistinctKeys-move_run_after}
use Rattle.sq_graph.specs.Graph.{Block, Graph}
use Rattle.sq_graph.specs.Blocks.{named, block_term}
use Rattle.sq_graph.specs.Rules.{IsGraph}
use Rattle.sq_graph.specs.Words.{block_words, words_of}
use Rattle.sq_chain.specs.Moves.{chain_end, IsMovable, JumpsToNext, carried}
use Rattle.sq_chain.proofs.Reordered.{chain_run, jumping_outside, chain_reordered, Exchanges, exchange, again, blocks_again}

-- words of blocks under their names
unnamed_words : (es : List (ℕ × Block)) → sum_by block_words (map (λ e. e.1) es) ≡ sum_by (λ (e : ℕ × Block). block_words e.1) es
unnamed_words [] = refl
unnamed_words (e ∷ es) = omega (arith, unnamed_words es, sum_by-cons block_words e.1 (map (λ (f : ℕ × Block). f.1) es), sum_by-cons (λ (f : ℕ × Block). block_words f.1) e es)

exchanged_words : (old new : List (ℕ × Block)) → Exchanges old new → sum_by (λ (e : ℕ × Block). block_words e.1) new ≡ sum_by (λ (e : ℕ × Block). block_words e.1) old
exchanged_words old new x =
    omega (
      arith,
      ap (λ (es : List (ℕ × Block)). sum_by (λ (e : ℕ × Block). block_words e.1) es) x.was,
      ap (λ (es : List (ℕ × Block)). sum_by (λ (e : ℕ × Block). block_words e.1) es) x.is,
      sum_by-append (λ (e : ℕ × Block). block_words e.1) x.first (x.second ++ (x.third ++ x.rest)),
      sum_by-append (λ (e : ℕ × Block). block_words e.1) x.second (x.third ++ x.rest),
      sum_by-append (λ (e : ℕ × Block). block_words e.1) x.third x.rest,
      sum_by-append (λ (e : ℕ × Block). block_words e.1) x.first (x.third ++ (x.second ++ x.rest)),
      sum_by-append (λ (e : ℕ × Block). block_words e.1) x.third (x.second ++ x.rest),
      sum_by-append (λ (e : ℕ × Block). block_words e.1) x.second x.rest,
    )

module _ (g : Graph) (from to : ℕ) (rules : IsGraph g) (movable : IsMovable g from to) where
  abbrev es : List (ℕ × Block)
  es = named g.blocks

  abbrev last : ℕ
  last = chain_end g to

  abbrev M : List (ℕ × Block)
  M = move_run_after es to last from

  pub carried_words : words_of (carried g from to) ≡ words_of g
  carried_words =
      let before_it = ap (sum_by block_words) (blocks_again g.blocks) in
      omega (arith, before_it, unnamed_words M, unnamed_words es, exchanged_words es M (exchange g from to rules movable))

  -- the block jumps to the chain, which is behind it now
  pub carried_jumps : JumpsToNext (carried g from to) from
  carried_jumps =
      let order = chain_reordered g from to rules movable in
      let is_run = chain_run g from to rules movable in
      let shape = shape_of es to last is_run in
      let W : List (ℕ × Block) = without_run es to last in
      let at = some_value (value_of W from) (jumping_outside g from to rules movable) in
      let parts : M ≡ before W from ++ (from, at.0) ∷ (run es to last ++ behind W from) =
      ap (λ ps. ps ++ (run es to last ++ behind W from)) (through-before W from at.0 at.1) ∙ append_assoc (before W from) ((from, at.0) ∷ []) (run es to last ++ behind W from) in
      let distinct = HasDistinctKeys-move_run_after es to last from rules.distinct is_run in
      let none = absent_ahead (before W from) (run es to last ++ behind W from) from at.0 (subst (λ (ps : List (ℕ × Block)). HasDistinctKeys ps) parts distinct) in
      record {
        to = to;
        jump = ap block_term (order.same from) ∙ movable.jump;
        next =
            ap (λ ps. next_key ps from) (again g from to rules movable ∙ parts)
            ∙ ap first_key (behind-append (before W from) (run es to last ++ behind W from) from at.0 none)
            ∙ ap (λ ps. first_key (ps ++ behind W from)) shape.is;
      }
