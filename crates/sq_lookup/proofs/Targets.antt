-- Where terms and lone Jumps lead is there, and each block's name is one of the names.
use Rattle.std.proofs.Common.{◌≡◌, ℕ, suc, ◌<◌, ◌==◌, List, [], ◌∷◌, map, length, get_or, Option, None, Some, IsSome, is_some, inl, inr, refl, sym, ap, ◌∙◌, subst, arith}
use Rattle.std.proofs.lemmas.Bool.{cases_Bool, eqb-true}
use Rattle.std.specs.List.{All}
use Rattle.std.proofs.lemmas.List.Elements.{All-head}
use Rattle.sq_isa.specs.declared.instructions.Cond.{Cond}
use Rattle.sq_graph.specs.declared.item.Item.{Item}
use Rattle.sq_graph.specs.declared.item.Term.{Term}
use Rattle.sq_graph.specs.declared.item.Term.TheVariants.{Fall, Jump, Branch, Call, PartJump, Indirect, Stop}
use Rattle.sq_graph.specs.Graph.{Block, Graph}
use Rattle.sq_graph.specs.Blocks.{named, HasBlock, HasProcedure, block_of, block_term, term_of}
use Rattle.sq_graph.specs.Resolve.{jump_of, lone_jump, jump_from}
use Rattle.sq_graph.specs.Rules.{IsGraph}
use Rattle.sq_graph.specs.Uses.{term_uses, uses}
use Rattle.sq_arena.specs.Entries.{value_of}
use Rattle.sq_graph.proofs.Located.{located}
use Rattle.sq_graph.proofs.SlotReads.{block_at}
use Rattle.sq_graph.proofs.Eachs.{All-right}
use Rattle.sq_graph.proofs.RulesByBlock.{BlockStands, by_block}
use Rattle.sq_layout.proofs.Shrinking.{block_with}

-- what holds of all uses holds of what a term names
pub targets_are : (P : ℕ → Type 0) (g : Graph) (n : ℕ) (t : Term) → IsGraph g → All P (uses g) → term_of g n ≡ Some t → All P (term_uses t)
targets_are P g n t rules used e =
    let o = block_with (block_of g n) t e in
    let at = located g.blocks n (rw o.1 refl) in
    let B = BlockStands P (HasProcedure g) in
    let by = by_block P (HasProcedure g) g rules used rules.called_all in
    let all = subst (λ (bs : List Block). All (BlockStands P (HasProcedure g)) bs) at.whole by.blocks in
    let own = All-head B at.block at.back (All-right B at.front (at.block ∷ at.back) all) in
    let same : at.block.term ≡ t = let f : Some at.block ≡ Some o.0 = sym (block_at g.blocks n at) ∙ o.1 in let is : at.block ≡ o.0 = cc in ap (λ (b : Block). b.term) is ∙ o.2 in
    subst (λ u. All P (term_uses u)) same own.names

-- what a term names is there
pub targets_there : (g : Graph) (n : ℕ) (t : Term) → IsGraph g → term_of g n ≡ Some t → All (HasBlock g) (term_uses t)
targets_there g n t rules e = targets_are (HasBlock g) g n t rules rules.named_all e

pub branch_there : (g : Graph) (n : ℕ) (cond : Cond) (a b to : ℕ) → IsGraph g → term_of g n ≡ Some (Branch cond a b to) → HasBlock g to
branch_there g n cond a b to rules e = All-head (HasBlock g) to [] (targets_there g n (Branch cond a b to) rules e)

pub part_there : (g : Graph) (n link part to : ℕ) → IsGraph g → term_of g n ≡ Some (PartJump link part to) → HasBlock g to
part_there g n link part to rules e = All-head (HasBlock g) to [] (targets_there g n (PartJump link part to) rules e)

-- a lone Jump block has no items, and ends in the Jump
pub record IsLone (g : Graph) (n to : ℕ) : Type 0 where
  pub block : Block
  pub found : block_of g n ≡ Some block
  pub items : block.items ≡ []
  pub term : block.term ≡ Jump to

of_jump : (items : List Item) (t : Term) (to : ℕ) → jump_of items t ≡ Some to → (items ≡ []) × (t ≡ Jump to)
of_jump (item ∷ items) t to e = absurd (cc)
of_jump [] Fall to e = absurd (cc)
of_jump [] (Jump n) to e = (refl, let same : n ≡ to = cc in ap Jump same)
of_jump [] (Branch cond a b n) to e = absurd (cc)
of_jump [] (Call link n) to e = absurd (cc)
of_jump [] (PartJump link part n) to e = absurd (cc)
of_jump [] (Indirect link at offset) to e = absurd (cc)
of_jump [] (Stop word) to e = absurd (cc)

pub lone : (g : Graph) (n to : ℕ) → jump_from g n ≡ Some to → IsLone g n to
lone g n to e = by_block (block_of g n) refl e
  where
    by_block : (o : Option Block) → block_of g n ≡ o → lone_jump o ≡ Some to → IsLone g n to
    by_block None is f = absurd (cc)
    by_block (Some b) is f = let parts = of_jump b.items b.term to f in record { block = b; found = is; items = parts.0; term = parts.1 }

pub has_term : (g : Graph) (n : ℕ) (t : Term) → term_of g n ≡ Some t → HasBlock g n
has_term g n t e = let o = block_with (block_of g n) t e in ap is_some o.1

pub has_lone : (g : Graph) (n to : ℕ) → IsLone g n to → HasBlock g n
has_lone g n to l = ap is_some l.found

pub lone_term : (g : Graph) (n to : ℕ) → IsLone g n to → term_of g n ≡ Some (Jump to)
lone_term g n to l = ap block_term l.found ∙ ap Some l.term

pub jump_there : (g : Graph) (n to : ℕ) → IsGraph g → jump_from g n ≡ Some to → HasBlock g to
jump_there g n to rules e = All-head (HasBlock g) to [] (targets_there g n (Jump to) rules (lone_term g n to (lone g n to e)))

-- each block's name is in the list of names
pub name_listed : (bs : List Block) (n : ℕ) → IsSome (value_of (named bs) n) → (k : ℕ) × (k < length (map (λ (b : Block). b.name) bs)) × (get_or (map (λ (b : Block). b.name) bs) k 0 ≡ n)
name_listed [] n some = absurd (cc)
name_listed (b ∷ bs) n some =
    elim (cases_Bool (b.name == n)) [
      | inl here ↦ (0, omega arith, eqb-true b.name n here)
      | inr apart ↦ let later = name_listed bs n (rw apart at some) in (suc later.0, omega (arith, later.1), later.2)
    ]
