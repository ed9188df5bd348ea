-- How many words the operations save, and what they cost.
use Rattle.std.specs.Prelude.{◌≡◌, ℕ, ◌+◌, ◌≤◌, Bool, not, length, drop as drop_items, [], Some, slice_get}
use Rattle.std.specs.List.{slice_range}
use Rattle.sq_isa.specs.declared.instructions.Cond.{Cond}
use Rattle.sq_graph.specs.declared.item.Item.TheVariants.{Hi, Out}
use Rattle.sq_graph.specs.declared.item.Term.{Term}
use Rattle.sq_graph.specs.declared.item.Term.TheVariants.{Fall, Jump, PartJump}
use Rattle.sq_graph.specs.Graph.{Graph}
use Rattle.sq_graph.specs.Blocks.{HasBlock, HasProcedure, items_of, body_of, term_of}
use Rattle.sq_graph.specs.Rules.{IsGraph}
use Rattle.sq_graph.specs.Operations.{IsNew, with_term, replaced, inlined, outlined, inserted_after, redirected_calls, without_procedure}
use Rattle.sq_graph.specs.Words.{term_words, words_of}
use Rattle.law_patch.specs.Operations.{hastened}
use Rattle.law_patch.specs.Restrictions.{restricted}
use Rattle.law_patch.specs.LoneJumps.{IsDetourTo, without_jump, IsJumpedOver, inverted_over, IsOverJump, exchanged}
use Rattle.law_patch.specs.Calls.{call_end, called_there}
use Rattle.law_patch.specs.Merges.{IsMergeable, merged, HaveTail, tailed}
use Rattle.law_patch.specs.Bodies.{HaveBodies}

pub record SaveWords : Type 0 where
  -- what goes is the graph with the others alone
  pub restrict : (g : Graph) (keep held : ℕ → Bool) → words_of (restricted keep held g) + words_of (restricted (λ n. not (keep n)) (λ q. not (held q)) g) ≡ words_of g
  pub fall : (g : Graph) (block n : ℕ) → term_of g block ≡ Some (Jump n) → words_of (with_term g block Fall) + 1 ≡ words_of g
  pub detour : (g : Graph) (block to : ℕ) → IsDetourTo g block to → words_of (without_jump g block to) + 1 ≡ words_of g
  pub invert : (g : Graph) (block : ℕ) (cond : Cond) (a b over behind to : ℕ) → IsGraph g → IsJumpedOver g block cond a b over behind to → words_of (inverted_over g block cond a b over to) + 1 ≡ words_of g
  pub exchange : (g : Graph) (block : ℕ) (cond : Cond) (a b over away to : ℕ) → IsGraph g → IsOverJump g block cond a b over away to → words_of (exchanged g block cond a b over away to) ≡ words_of g
  pub hasten : (g : Graph) (block link part to : ℕ) → term_of g block ≡ Some (PartJump link part to) → words_of (with_term g block (hastened link to)) ≡ words_of g
  pub drop : (g : Graph) (block at rd to : ℕ) → slice_get (items_of g block) at ≡ Some (Hi rd to) → words_of (replaced g block at 1 []) + 1 ≡ words_of g
  pub merge : (g : Graph) (dropped at kept : ℕ) (term : Term) → IsGraph g → IsMergeable g dropped at kept → term_of g dropped ≡ Some term → words_of (merged g dropped at kept) + (length (items_of g kept) + term_words term) ≡ words_of g + 1
  pub body : (g : Graph) (dropped kept : ℕ) (term : Term) → IsGraph g → HaveBodies g dropped kept → term_of g dropped ≡ Some term → words_of (merged g dropped 0 kept) + (length (items_of g kept) + term_words term) ≡ words_of g + 1
  pub tail : (g : Graph) (new dropped at kept from : ℕ) (term : Term) → IsGraph g → IsNew g new → HaveTail g dropped at kept from → term_of g dropped ≡ Some term → words_of (tailed g new dropped at kept from) + (length (drop_items from (items_of g kept)) + term_words term) ≡ words_of g + 1
  pub call : (g : Graph) (block at procedure : ℕ) → HasBlock g block → call_end g at procedure ≤ length (items_of g block) → words_of (called_there g block at procedure) + length (body_of g procedure) ≡ words_of g + 1
  pub inline : (g : Graph) (block at procedure : ℕ) → slice_get (items_of g block) at ≡ Some (Out procedure) → words_of (inlined g block at) + 1 ≡ words_of g + length (body_of g procedure)
  pub outline : (g : Graph) (block at size link : ℕ) → words_of (outlined g block at size link) ≡ words_of g + (length (slice_range (items_of g block) at (at + size)) + 1)
  pub recall : (g : Graph) (from to : ℕ) → words_of (redirected_calls g from to) ≡ words_of g
  pub uncalled_goes : (g : Graph) (procedure : ℕ) → HasProcedure g procedure → words_of (without_procedure g procedure) + (length (body_of g procedure) + 1) ≡ words_of g
  pub insert : (g : Graph) (new block next : ℕ) → HasBlock g block → words_of (inserted_after g new block (Jump next)) ≡ words_of g + 1
