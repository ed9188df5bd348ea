use Rattle.std.proofs.Common.{◌≡◌, ◌≢◌, ℕ, Bool, true, List, Option, None, Some, IfSome, refl, sym, ap, ◌∙◌, subst}
use Rattle.sq_graph.specs.Graph.{Graph}
use Rattle.sq_graph.specs.Blocks.{HasBlock, next_of}
use Rattle.sq_graph.specs.Rules.{IsGraph}
use Rattle.sq_lookup.specs.Marks.{is_marked}
use Rattle.sq_lookup.proofs.Previous.{one_before}
use Rattle.sq_chain.specs.Surveys.{IsPlaced, NoneFalls}
use Rattle.sq_chain.specs.declared.survey.Places.{Places}
use Rattle.sq_chain.proofs.Replaced.{placed_stays, placed_joined, falls_joined}
use Rattle.sq_chain.proofs.local.join_before.Goals as goal

-- what stands before it is the block before
joined_mark : (g : Graph) (n : ℕ) → IsGraph g → (before : Option ℕ) → ((m : ℕ) → before ≡ Some m → next_of g m ≡ Some n) → (before ≡ None → (m : ℕ) → next_of g m ≢ Some n) → (old new : List Bool) → IfSome before (λ m. is_marked old n ≡ true → is_marked new m ≡ true) → (m : ℕ) → next_of g m ≡ Some n → is_marked old n ≡ true → is_marked new m ≡ true
joined_mark g n rules None some none old new joined m slot was = absurd (none refl m slot)
joined_mark g n rules (Some k) some none old new joined m slot was = ap (is_marked new) (one_before g m k n rules slot (some k refl)) ∙ joined was

pub returns-then-not-is_block-clause-placed : goal.returns-then-not-is_block-clause-placed
returns-then-not-is_block-clause-placed c =
    let g = c.args.graph.now.graph in
    let old = c.args.places.now in
    let new : Places = record { addresses = c.forget.new.addresses; words = old.words; jumps = c.join.new.self; branches = c.mark_joined.new.branches; holders = c.join-then-not-is_block.new.self } in
    subst (λ (k : Graph). IsPlaced k new) (sym c.join_before.ensures.graph)
    (placed_joined g c.args.name c.learn.ensures.rules old new
    (λ there. let yes = c.is_block.ensures.1 (subst (λ (k : Graph). HasBlock k c.args.name) (sym c.join_before.ensures.graph) there) in let no = c.if-not-is_block.true in cc)
    c.requires.placed c.forget.ensures refl c.mark_joined.ensures.others
    (joined_mark g c.args.name c.learn.ensures.rules c.block_before-before.result c.block_before-before.ensures.some c.block_before-before.ensures.none old.branches c.mark_joined.new.branches c.mark_joined.ensures.joined))

pub returns-then-not-is_block-clause-falls : goal.returns-then-not-is_block-clause-falls
returns-then-not-is_block-clause-falls c = λ falls. subst NoneFalls (sym c.join_before.ensures.graph) (falls_joined c.args.graph.now.graph c.args.name c.learn.ensures.rules falls)

pub returns-else-not-is_block-clause-placed : goal.returns-else-not-is_block-clause-placed
returns-else-not-is_block-clause-placed c =
    let g = c.args.graph.now.graph in
    let there = subst (λ (k : Graph). HasBlock k c.args.name) c.join_before.ensures.graph (c.is_block.ensures.0 c.if-not-is_block.false) in
    subst (λ (k : Graph). IsPlaced k c.args.places.now) (sym c.join_before.ensures.graph) (placed_stays g c.args.name c.learn.ensures.rules c.args.places.now there c.requires.placed)

pub returns-else-not-is_block-clause-falls : goal.returns-else-not-is_block-clause-falls
returns-else-not-is_block-clause-falls c = λ falls. subst NoneFalls (sym c.join_before.ensures.graph) (falls_joined c.args.graph.now.graph c.args.name c.learn.ensures.rules falls)
