-- A chain that moves behind the Jump to it.
use Rattle.std.proofs.Common.{◌≡◌, ℕ, ◌+◌, ◌-◌, ◌≤◌, ◌<◌, ◌==◌, false, List, [], ◌∷◌, length, sum_by, IsSome, inl, inr, refl, sym, ap, ◌∙◌, subst, arith}
use Rattle.std.specs.List.{All, AllByRecursion}
use Rattle.std.proofs.lemmas.Bool.{cases_Bool}
use Rattle.std.proofs.lemmas.List.Elements.{recursion_from_All}
use Rattle.std.proofs.lemmas.List.Sums.{sum_by-cons}
use Rattle.sq_arena.specs.Entries.{value_of}
use Rattle.sq_num.specs.declared.packed.Savings.{Savings}
use Rattle.sq_graph.specs.declared.item.Item.{Item}
use Rattle.sq_graph.specs.declared.item.Term.{Term}
use Rattle.sq_graph.specs.declared.item.Term.TheVariants.{Fall, Jump, Branch, Call, PartJump, Indirect, Stop}
use Rattle.sq_graph.specs.Alike.{AreAlike}
use Rattle.sq_graph.specs.Blocks.{named, HasBlock}
use Rattle.sq_graph.specs.Graph.{Block, Graph}
use Rattle.sq_graph.specs.Canonical.{canonical_of}
use Rattle.sq_graph.specs.Leaders.{is_bare, IsCanonical}
use Rattle.sq_graph.specs.Parts.{names_of}
use Rattle.sq_graph.specs.Places.{IsInReach}
use Rattle.sq_graph.specs.Rules.{IsGraph}
use Rattle.sq_graph.specs.Slotted.{number_in}
use Rattle.sq_graph.specs.Soundness.{IsSound}
use Rattle.sq_graph.specs.Words.{block_words, words_of}
use Rattle.sq_graph.proofs.AlikeGraphs.{alike_itself}
use Rattle.sq_graph.proofs.CanonicalReach.{canonical_in_reach}
use Rattle.sq_graph.proofs.RenamedReach.{alike_words}
use Rattle.law_follow.specs.Follows.{Follows}
use Rattle.law_follow.proofs.Following.{graph_follows_through}
use Rattle.sq_lookup.proofs.Targets.{has_term, name_listed}
use Rattle.law_patch.proofs.Joining.{canonical_follows, canonical_sound}
use Rattle.law_patch.proofs.Reordering.{reorder_follows, reorder_sound}
use Rattle.sq_pass.specs.declared.cut.Cut.{Cut}
use Rattle.sq_pass.specs.declared.cut.Row.TheVariants.{L}
use Rattle.sq_pass.specs.Applied.{KeepsNames, IsApplied}
use Rattle.sq_pass.specs.Counted.{counted}
use Rattle.sq_pass.specs.Rewrites.{IsRewrite, IsLighter, IsRewritten}
use Rattle.sq_pass.proofs.Rewriting.{rewrite_made, lighter_made, rewritten_once}
use Rattle.sq_chain.specs.Least.{least_widened}
use Rattle.sq_chain.specs.Moves.{carried, fallen_blocks, fallen, IsMovable, moved, IsStill}
use Rattle.sq_chain.specs.Candidates.{cut_of, IsCandidate, described, IsMoved, HasMoved, IsStillAt}
use Rattle.sq_chain.proofs.Carried.{carried_words, carried_jumps}
use Rattle.sq_chain.proofs.Fallen.{Keeps, keeps_through, fallen_keeps}
use Rattle.sq_chain.proofs.Lighter.{falls_fewer, stays_narrow}
use Rattle.sq_chain.proofs.Reordered.{chain_moved_rules, chain_reordered, chain_moved_length}

-- the chain moves
pub carried_keeps : (g : Graph) (from to : ℕ) → IsGraph g → IsMovable g from to → Keeps g (carried g from to)
carried_keeps g from to rules movable =
    let order = chain_reordered g from to rules movable in
    record {
      rules = chain_moved_rules g from to rules movable;
      follows = reorder_follows g (carried g from to).blocks rules order;
      sound = λ s. reorder_sound g (carried g from to).blocks rules order s;
    }

fallen_length : (bs : List Block) → length (fallen_blocks bs) ≡ length bs
fallen_length [] = refl
fallen_length (b ∷ []) = refl
fallen_length (b ∷ next ∷ rest) = omega (arith, fallen_length (next ∷ rest))

pub carried_length : (g : Graph) (from to : ℕ) → IsGraph g → IsMovable g from to → length (fallen (carried g from to)).blocks ≡ length g.blocks
carried_length g from to rules movable = fallen_length (carried g from to).blocks ∙ chain_moved_length g from to rules movable

-- no block goes
fallen_there : (bs : List Block) (n : ℕ) → IsSome (value_of (named bs) n) → IsSome (value_of (named (fallen_blocks bs)) n)
fallen_there [] n some = some
fallen_there (b ∷ []) n some = some
fallen_there (b ∷ next ∷ rest) n some =
    elim (cases_Bool (b.name == n)) [
      | inl here ↦ rw here refl
      | inr apart ↦ rw apart (fallen_there (next ∷ rest) n (rw apart at some))
    ]

pub carried_there : (g : Graph) (from to n : ℕ) → IsGraph g → IsMovable g from to → HasBlock g n → HasBlock (fallen (carried g from to)) n
carried_there g from to n rules movable has =
    fallen_there (carried g from to).blocks n (subst IsSome (sym ((chain_reordered g from to rules movable).same n)) has)

-- what is left where the words are fewer
module _ (g h new : Graph) (from to : ℕ) (movable : IsMovable g from to) (is : h ≡ fallen (carried g from to)) (alike : AreAlike new (least_widened h)) where
  pub moved_alike : AreAlike new (moved g from to)
  moved_alike = subst (λ (k : Graph). AreAlike new (least_widened k)) is alike

  pub moved_words : words_of (moved g from to) ≡ words_of new
  moved_words = alike_words new (moved g from to) moved_alike

  moved_keeps : IsGraph g → KeepsNames h (least_widened h) new → KeepsNames g (moved g from to) new
  moved_keeps rules kept n has =
      kept n (subst (λ (k : Graph). HasBlock k n) (sym is) (carried_there g from to n rules movable has))
      ∙ ap (λ (k : Graph). number_in (names_of (least_widened k)) 0 n) is

  pub is_moved : IsGraph g → KeepsNames h (least_widened h) new → IsGraph new → Follows g h → (IsSound g → IsSound h) → Follows h new → (IsSound h → IsSound new) → IsInReach new → words_of new < words_of g → IsMoved from to g new
  is_moved was kept rules follows sound follows' sound' reach fewer = record {
    movable = movable;
    saving = words_of g - words_of new;
    some = omega (arith, fewer);
    applied = record {
      rules = rules;
      follows = graph_follows_through g h new follows follows';
      sound = λ s. sound' (sound s);
      reach = λ was. reach;
      words = omega (arith, fewer);
      described = moved_alike;
      kept = moved_keeps was kept;
    };
  }

-- what is left where each Branch reaches once the chain has moved
module _ (g mid : Graph) (from to : ℕ) (rules : IsGraph g) (movable : IsMovable g from to) (is : mid ≡ carried g from to) (near : IsInReach (fallen mid)) where
  abbrev narrow : Graph
  narrow = fallen (carried g from to)

  near_keeps : Keeps g narrow
  near_keeps =
      let keeps = carried_keeps g from to rules movable in
      keeps_through g (carried g from to) narrow keeps (fallen_keeps (carried g from to) keeps.rules)

  near_reach : IsInReach narrow
  near_reach = subst (λ (k : Graph). IsInReach (fallen k)) is near

  module _ (new : Graph) (saved : ℕ) (fell : new ≡ fallen mid) (words : words_of new + saved ≡ words_of mid) where
    new_is : new ≡ narrow
    new_is = fell ∙ ap fallen is

    mid_words : words_of mid ≡ words_of g
    mid_words = ap words_of is ∙ carried_words g from to rules movable

    pub near_saves : 1 ≤ saved
    near_saves =
        let fewer = falls_fewer (carried g from to) from (carried_jumps g from to rules movable) in
        omega (arith, fewer, words, ap words_of new_is, ap words_of is)

    pub near_applied : IsApplied saved (moved g from to) g new
    near_applied =
        subst (λ (k : Graph). IsApplied saved (moved g from to) g k) (sym new_is)
        (record {
          rules = near_keeps.rules;
          follows = near_keeps.follows;
          sound = near_keeps.sound;
          reach = λ was. near_reach;
          words = omega (arith, words, mid_words, ap words_of new_is);
          described = subst (λ (k : Graph). AreAlike narrow k) (sym (stays_narrow narrow near_keeps.rules near_reach)) (alike_itself narrow);
          kept = λ n has. ap (λ (k : Graph). number_in (names_of k) 0 n) (sym (stays_narrow narrow near_keeps.rules near_reach));
        })

-- ROW L

-- how many blocks a canonical graph has
some_word : (b : Block) → is_bare b ≡ false → 1 ≤ block_words b
some_word b e = go b.items b.term e
  where
    go : (items : List Item) (term : Term) → is_bare (record { name = b.name; items = items; term = term }) ≡ false → 1 ≤ block_words (record { name = b.name; items = items; term = term })
    go (item ∷ items) term e = omega arith
    go [] Fall e = absurd (cc)
    go [] (Jump to) e = omega arith
    go [] (Branch c a b to) e = omega arith
    go [] (Call link to) e = omega arith
    go [] (PartJump link part to) e = omega arith
    go [] (Indirect link at offset) e = omega arith
    go [] (Stop word) e = omega arith

few_blocks : (bs : List Block) → AllByRecursion (λ b. is_bare b ≡ false) bs → length bs ≤ sum_by block_words bs
few_blocks [] all = omega arith
few_blocks (b ∷ bs) all = omega (arith, few_blocks bs all.1, some_word b all.0, sum_by-cons block_words b bs)

pub canonical_few : (g : Graph) → IsCanonical g → length g.blocks ≤ words_of g
canonical_few g canonical = omega (arith, few_blocks g.blocks (recursion_from_All (λ b. is_bare b ≡ false) g.blocks canonical.no_bare))

-- the canonical graph keeps what a rewrite keeps, and has as many words
made_canonical : (mid new : Graph) → IsGraph mid → new ≡ canonical_of mid → IsCanonical new → words_of new ≡ words_of mid → IsLighter 0 mid new
made_canonical mid new rules made canonical words = record {
  follows = subst (Follows mid) (sym made) (canonical_follows mid rules);
  sound = λ s. subst IsSound (sym made) (canonical_sound mid rules s);
  reach = λ r. subst IsInReach (sym made) (canonical_in_reach mid rules r);
  canonical = canonical;
  words = omega (arith, words);
}

module _ (old mid new : Graph) (from to : ℕ) (m : IsMoved from to old mid) (made : new ≡ canonical_of mid) (canonical : IsCanonical new) (words : words_of new ≡ words_of mid) (saving : ℕ) (is : saving ≡ words_of old - words_of new) where
  saving_is : m.saving ≡ saving
  saving_is = let w = m.applied.words in omega (arith, w, words, is)

  candidate : IsCandidate old (cut_of from to m.saving)
  candidate =
      record {
        from = from;
        to = to;
        movable = m.movable;
        words = ap (λ n. n + m.saving) (alike_words mid (moved old from to) m.applied.described) ∙ m.applied.words;
        some = m.some;
        is = refl;
      }

  pub move_rewrite : IsRewrite IsCandidate described (record { row = L; saving = saving }) old new
  move_rewrite =
      subst (λ n. IsRewrite IsCandidate described (record { row = L; saving = n }) old new) saving_is
      (rewrite_made IsCandidate described (cut_of from to m.saving) old mid new candidate m.applied made)

  pub move_lighter : IsLighter saving old new
  move_lighter =
      subst (λ n. IsLighter n old new) saving_is
      (lighter_made m.saving (moved old from to) old mid new m.applied (made_canonical mid new m.applied.rules made canonical words))

  pub move_saves : 1 ≤ saving
  move_saves = subst (λ n. 1 ≤ n) saving_is m.some

-- one rewrite, counted
pub move_rewritten : (old mid new : Graph) (saving : ℕ) (before after : Savings) → HasMoved old mid → new ≡ canonical_of mid → IsCanonical new → words_of new ≡ words_of mid → saving ≡ words_of old - words_of new → after ≡ counted before L saving → IsRewritten IsCandidate described before after old new
move_rewritten old mid new saving before after has made canonical words is counts =
    subst (λ (s : Savings). IsRewritten IsCandidate described before s old new) (sym counts)
    (rewritten_once IsCandidate described before (record { row = L; saving = saving }) old new (move_rewrite old mid new has.from has.to has.moved made canonical words saving is) (move_lighter old mid new has.from has.to has.moved made canonical words saving is))

-- WHERE NO MOVE SAVES A WORD

pub all_still : (g : Graph) → All (IsStillAt g) (names_of g) → IsStill g
all_still g all from to movable =
    let at = name_listed g.blocks from (has_term g from (Jump to) movable.jump) in
    subst (IsStillAt g) at.2 (all at.0 0 at.1) to movable

pub no_candidate : (g : Graph) → IsStill g → (cut : Cut) → ¬ IsCandidate g cut
no_candidate g still cut c =
    let few = still c.from c.to c.movable in
    let words = c.words in
    let some = c.some in
    omega (arith, few, words, some)
