-- What names and terms resolve to, once lone Jumps are followed.
use Rattle.std.specs.Prelude.{ℕ, zero, suc, Bool, true, false, ◌||◌, ◌==◌, if◌then◌else◌, List, [], ◌∷◌, length, Option, None, Some, option_map}
use Rattle.sq_graph.specs.declared.item.Item.{Item}
use Rattle.sq_graph.specs.declared.item.Term.{Term}
use Rattle.sq_graph.specs.declared.item.Term.TheVariants.{Fall, Jump, Branch, Call, PartJump, Indirect, Stop}
use Rattle.sq_graph.specs.Graph.{Block, Graph}
use Rattle.sq_graph.specs.Terms.{links}
use Rattle.sq_graph.specs.Blocks.{block_of, next_of}

-- where a block without items jumps to
abbrev pub jump_of : List Item → Term → Option ℕ
jump_of (item ∷ rest) term = None
jump_of [] Fall = None
jump_of [] (Jump to) = Some to
jump_of [] (Branch c a b to) = None
jump_of [] (Call link to) = None
jump_of [] (PartJump link part to) = None
jump_of [] (Indirect link at offset) = None
jump_of [] (Stop word) = None

abbrev pub lone_jump : Option Block → Option ℕ
lone_jump None = None
lone_jump (Some b) = jump_of b.items b.term

-- the target of a lone Jump block
abbrev pub jump_from : Graph → ℕ → Option ℕ
jump_from g name = lone_jump (block_of g name)

-- whether at most so many lone Jumps lead from the one name to the other, at least one of them
abbrev pub leads_to : Graph → ℕ → ℕ → ℕ → Bool
leads_to g zero name goal = false
leads_to g (suc n) name goal =
    elim (jump_from g name) [ None ↦ false | Some to ↦ to == goal || leads_to g n to goal ]

-- whether the block is on a cycle of lone Jumps
abbrev pub is_on_cycle : Graph → ℕ → Bool
is_on_cycle g name = leads_to g (length g.blocks) name name

abbrev pub resolved_within : Graph → ℕ → ℕ → ℕ
resolved_within g zero name = name
resolved_within g (suc n) name =
    if is_on_cycle g name then name else (elim (jump_from g name) [ None ↦ name | Some to ↦ resolved_within g n to ])

-- a block's name resolves to itself, or for a lone Jump block to what its target resolves to; a block on a
-- cycle of lone Jumps resolves to itself. No chain of lone Jumps off a cycle is longer than the blocks are many
abbrev pub resolved : Graph → ℕ → ℕ
resolved g name = resolved_within g (length g.blocks) name

-- a term, and the slot in which what follows goes on, if it does
pub record ResolvedTerm : Type 0 where
  pub term : Term
  pub next : Option ℕ

-- the same for a term that may write a link
abbrev pub next_if : Bool → Option ℕ → Option ℕ
next_if true next = next
next_if false next = None

-- a Fall counts as a Jump to the next slot
abbrev pub jump_to : Option ℕ → Term
jump_to None = Fall
jump_to (Some to) = Jump to

-- the term with each of its blocks resolved, next slot included. The target of a PartJump stays as it is,
-- because its part holds the upper half for that target
abbrev pub resolved_term : Graph → Term → Option ℕ → ResolvedTerm
resolved_term g Fall next = record { term = jump_to (option_map (resolved g) next); next = None }
resolved_term g (Jump to) next = record { term = Jump (resolved g to); next = None }
resolved_term g (Branch c a b to) next =
    record { term = Branch c a b (resolved g to); next = option_map (resolved g) next }
resolved_term g (Call link to) next =
    record { term = Call link (resolved g to); next = option_map (resolved g) next }
resolved_term g (PartJump link part to) next =
    record {
      term = PartJump link part to;
      next = next_if (links (PartJump link part to)) (option_map (resolved g) next);
    }
resolved_term g (Indirect link at offset) next =
    record {
      term = Indirect link at offset;
      next = next_if (links (Indirect link at offset)) (option_map (resolved g) next);
    }
resolved_term g (Stop word) next = record { term = Stop word; next = None }

abbrev pub block_resolved : Graph → Option Block → Option ℕ → Option ResolvedTerm
block_resolved g None next = None
block_resolved g (Some b) next = Some (resolved_term g b.term next)

-- the resolved term of a block
abbrev pub resolved_term_of : Graph → ℕ → Option ResolvedTerm
resolved_term_of g name = block_resolved g (block_of g name) (next_of g name)
