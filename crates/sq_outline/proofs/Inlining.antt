-- What row O4 makes of a graph keeps what a pass promises.
use Rattle.std.proofs.Common.{◌≡◌, ◌≢◌, ℕ, zero, suc, ◌+◌, ◌*◌, List, [], ◌∷◌, ◌++◌, length, refl, sym, subst, arith}
use Rattle.std.specs.List.{All, Contains, flat_map}
use Rattle.std.proofs.lemmas.Bool.{eq-eqb}
use Rattle.std.proofs.lemmas.List.Elements.{All-nil, All-cons, All-contains}
use Rattle.sq_graph.specs.declared.item.Item.{Item}
use Rattle.sq_graph.specs.declared.item.Item.TheVariants.{Op, Hi, Lo, Out}
use Rattle.sq_graph.specs.Graph.{Block, Graph}
use Rattle.sq_graph.specs.Blocks.{HasProcedure, body_of, items_of_blocks, items_of_bodies}
use Rattle.sq_graph.specs.Operations.{inlined}
use Rattle.sq_graph.specs.Rules.{IsGraph}
use Rattle.sq_graph.specs.Soundness.{IsSound}
use Rattle.sq_graph.specs.Uses.{item_calls, calls}
use Rattle.sq_graph.specs.Words.{words_of}
use Rattle.sq_graph.proofs.AlikeGraphs.{alike_itself}
use Rattle.sq_graph.proofs.OperationRules.{inlined_rules, without_procedure_rules}
use Rattle.law_follow.specs.Follows.{Follows}
use Rattle.law_follow.proofs.Following.{graph_follows_itself, graph_follows_through}
use Rattle.law_patch.proofs.OneBlock.{inline_follows, inline_sound}
use Rattle.law_patch.proofs.Recalling.{uncalled_goes_follows, uncalled_goes_sound}
use Rattle.law_patch.proofs.Saving.{inline_saves, uncalled_goes_saves}
use Rattle.sq_pass.specs.Applied.{IsApplied}
use Rattle.sq_outline.specs.Inlined.{call_count, spread_all, inlined_all, WouldSave, IsInlinable}
use Rattle.sq_outline.proofs.Spreading.{is_one, calls_in, calls_in-append, calls_in-cons, none_left_in, bodies_call_none, all_bodies_call_none, IsCall, call_there, inlined_sooner, inlined_fewer, spread_itself, some_call}

-- BODIES IN PLACE OF CALLS

-- the graph with k bodies of n items in place of calls
record IsSpread (k n : ℕ) (g h : Graph) : Type 0 where
  rules : IsGraph h
  follows : Follows g h
  sound : IsSound g → IsSound h
  words : words_of h + k ≡ words_of g + k * n

spread_same : (n : ℕ) (g h : Graph) → IsGraph g → h ≡ g → IsSpread 0 n g h
spread_same n g h rules same =
    subst (λ k. IsSpread 0 n g k) (sym same) (record { rules = rules; follows = graph_follows_itself g; sound = λ sound. sound; words = omega arith })

spread_more : (k n : ℕ) (g : Graph) (p block at : ℕ) → IsGraph g → length (body_of g p) ≡ n → IsCall g p block at → IsSpread k n (inlined g block at) (spread_all (inlined g block at) p) → IsSpread (suc k) n g (spread_all g p)
spread_more k n g p block at rules size there rest =
    subst (λ h. IsSpread (suc k) n g h) (inlined_sooner g p block at rules there)
    (record {
      rules = rest.rules;
      follows =
          graph_follows_through g (inlined g block at) (spread_all (inlined g block at) p) (inline_follows g block at p rules there) rest.follows;
      sound = λ sound. rest.sound (inline_sound g block at p rules there sound);
      words = let words = rest.words in omega (arith, words, inline_saves g block at p there, size);
    })

is_spread : (k : ℕ) (g : Graph) (p : ℕ) → IsGraph g → call_count g p ≡ k → IsSpread k (length (body_of g p)) g (spread_all g p)
is_spread zero g p rules count = spread_same (length (body_of g p)) g (spread_all g p) rules (spread_itself g p count)
is_spread (suc k) g p rules count =
    let call = some_call g p rules.distinct (omega (arith, count)) in
    let h = inlined g call.0 call.1 in
    spread_more k (length (body_of g p)) g p call.0 call.1 rules refl call.2
    (is_spread k (inlined g call.0 call.1) p (inlined_rules g call.0 call.1 rules (call_there g p call.0 call.1 call.2)) (omega (arith, inlined_fewer g p call.0 call.1 rules call.2, count)))

-- THE PROCEDURE GOES

none_called : (p : ℕ) (items : List Item) → calls_in p items ≡ 0 → All (λ q. q ≢ p) (flat_map item_calls items)
none_called p [] none = All-nil (λ q. q ≢ p)
none_called p (Op insn ∷ items) none = none_called p items (omega (arith, calls_in-cons p (Op insn) items, none))
none_called p (Hi rd to ∷ items) none = none_called p items (omega (arith, calls_in-cons p (Hi rd to) items, none))
none_called p (Lo rd rs to ∷ items) none = none_called p items (omega (arith, calls_in-cons p (Lo rd rs to) items, none))
none_called p (Out q ∷ items) none =
    All-cons (λ q. q ≢ p) q (flat_map item_calls items) apart (none_called p items (omega (arith, calls_in-cons p (Out q) items, none)))
  where
    apart : q ≢ p
    apart same =
        let own = eq-eqb q p same in
        let one : is_one p (Out q) ≡ 1 = rw own refl in
        absurd (omega (arith, calls_in-cons p (Out q) items, one, none))

-- where no block calls it, nothing does
pub unused : (g : Graph) (p : ℕ) → IsGraph g → call_count g p ≡ 0 → All (λ q. q ≢ p) (calls g)
unused g p rules none =
    none_called p (items_of_blocks g.blocks ++ items_of_bodies g.procedures)
    (omega (arith, calls_in-append p (items_of_blocks g.blocks) (items_of_bodies g.procedures), none, all_bodies_call_none p g.procedures rules.procedures))

not_called : (g : Graph) (p : ℕ) → All (λ q. q ≢ p) (calls g) → ¬ Contains (calls g) p
not_called g p all c = All-contains (λ q. q ≢ p) (calls g) p all c refl

pub spread_count : (g : Graph) (p : ℕ) → IsGraph g → call_count (spread_all g p) p ≡ 0
spread_count g p rules = none_left_in p (body_of g p) (bodies_call_none g p p rules) g.blocks

pub inlined_all_rules : (g : Graph) (p : ℕ) → IsGraph g → HasProcedure g p → IsGraph (inlined_all g p)
inlined_all_rules g p rules there =
    let spread = is_spread (call_count g p) g p rules refl in
    without_procedure_rules (spread_all g p) p spread.rules there (unused (spread_all g p) p spread.rules (spread_count g p rules))

-- the words that are saved, whether or not each Branch reaches
pub inline_words : (g : Graph) (p saving : ℕ) → IsGraph g → WouldSave g p saving → words_of (inlined_all g p) + saving ≡ words_of g
inline_words g p saving rules would =
    let spread = is_spread (call_count g p) g p rules refl in
    omega (arith, spread.words, uncalled_goes_saves (spread_all g p) p would.there, would.saved)

pub inline_applied : (g : Graph) (p saving : ℕ) → IsGraph g → IsInlinable g p saving → IsApplied saving (inlined_all g p) g (inlined_all g p)
inline_applied g p saving rules inlinable =
    let h = spread_all g p in
    let spread = is_spread (call_count g p) g p rules refl in
    let words = spread.words in
    let uncalled = unused (spread_all g p) p spread.rules (spread_count g p rules) in
    record {
      rules = inlined_all_rules g p rules inlinable.there;
      follows =
          graph_follows_through g (spread_all g p) (inlined_all g p) spread.follows
          (uncalled_goes_follows (spread_all g p) p spread.rules (not_called (spread_all g p) p uncalled));
      sound = λ sound.
          uncalled_goes_sound (spread_all g p) p spread.rules (not_called (spread_all g p) p uncalled) (spread.sound sound);
      reach = λ reach. inlinable.near;
      words = omega (arith, words, uncalled_goes_saves (spread_all g p) p inlinable.there, inlinable.saved);
      described = alike_itself (inlined_all g p);
      kept = λ n has. refl;
    }
