use Rattle.std.proofs.Common.{◌≡◌, false, ℕ, ◌||◌, [], Option, Some, refl, sym, ap, ◌∙◌, subst}
use Rattle.std.specs.Option.{unwrap_or}
use Rattle.std.specs.List.{All}
use Rattle.std.proofs.lemmas.List.Elements.{All-head}
use Rattle.sq_arena.specs.Entries.{ContainsKey, without_run, IsRun}
use Rattle.sq_graph.specs.declared.item.Term.TheVariants.{Jump}
use Rattle.sq_graph.specs.Graph.{Graph}
use Rattle.sq_graph.specs.Blocks.{named, HasBlock, next_of}
use Rattle.sq_graph.specs.Leaders.{is_bare, IsCanonical}
use Rattle.sq_graph.specs.Operations.{moved_after}
use Rattle.sq_graph.specs.Rules.{IsGraph}
use Rattle.sq_lookup.proofs.Targets.{targets_there}
use Rattle.sq_chain.specs.Bare.{AreSolidBut, is_it}
use Rattle.sq_chain.specs.Moves.{chain_end, IsMovable, fallen, fallen_before, carried}
use Rattle.sq_chain.specs.Surveys.{IsPlaced, NoneFalls}
use Rattle.sq_chain.specs.declared.survey.Places.{Places}
use Rattle.sq_lookup.specs.Counts.{AreUses}
use Rattle.sq_chain.proofs.Carried.{carried_words}
use Rattle.sq_chain.proofs.Orders.{last_has}
use Rattle.sq_chain.proofs.Reordered.{chain_run, jumping_outside, chain_moved_rules}
use Rattle.sq_chain.proofs.Replaced.{none_saved, placed_exchanged}
use Rattle.sq_chain.proofs.Settling.{uses_carried, solid_carried, fallen_is}
use Rattle.sq_chain.proofs.local.carry_fallen.Goals as goal

or_is : (o : Option ℕ) (n m d : ℕ) → o ≡ Some m → n ≡ unwrap_or o d → n ≡ m
or_is o n m d some is = is ∙ ap (λ p. unwrap_or p d) some

pub end_of_chain-requires-clause-to : goal.end_of_chain-requires-clause-to
end_of_chain-requires-clause-to c =
    let g = c.args.graph.now.graph in
    All-head (HasBlock g) c.args.to [] (targets_there g c.args.from (Jump c.args.to) c.learn.ensures.rules c.requires.movable.jump)

pub next-requires-2 : goal.next-requires-2
next-requires-2 c =
    let g = c.args.graph.now.graph in
    subst (HasBlock g) (sym (c.end_of_chain.ensures.some c.in-Some.end c.in-Some.is)) (last_has g c.args.from c.args.to c.learn.ensures.rules c.requires.movable)

pub move_after-requires-clause-run : goal.move_after-requires-clause-run
move_after-requires-clause-run c =
    let g = c.args.graph.now.graph in
    let end = c.end_of_chain.ensures.some c.in-Some.end c.in-Some.is in
    subst (λ k. IsRun (named g.blocks) c.args.to k) (sym end) (chain_run g c.args.from c.args.to c.learn.ensures.rules c.requires.movable)

pub move_after-requires-clause-after : goal.move_after-requires-clause-after
move_after-requires-clause-after c =
    let g = c.args.graph.now.graph in
    let end = c.end_of_chain.ensures.some c.in-Some.end c.in-Some.is in
    subst (λ k. ContainsKey (without_run (named g.blocks) c.args.to k) c.args.from) (sym end) (jumping_outside g c.args.from c.args.to c.learn.ensures.rules c.requires.movable)

pub move_after-requires-clause-rules : goal.move_after-requires-clause-rules
move_after-requires-clause-rules c =
    let g = c.args.graph.now.graph in
    let end = c.end_of_chain.ensures.some c.in-Some.end c.in-Some.is in
    subst (λ k. IsGraph (moved_after g c.args.to k c.args.from)) (sym end) (chain_moved_rules g c.args.from c.args.to c.learn.ensures.rules c.requires.movable)

-- the first seams' blocks fall, one after another
all_fell : (g moved second third first : Graph) (from to after behind : ℕ) → IsGraph g → IsCanonical g → IsMovable g from to → NoneFalls g → ((m : ℕ) → next_of g from ≡ Some m → after ≡ m) → ((m : ℕ) → next_of g (chain_end g to) ≡ Some m → behind ≡ m) → moved ≡ carried g from to → second ≡ fallen_before moved after → third ≡ fallen_before second behind → first ≡ fallen_before third to → first ≡ fallen (carried g from to)
all_fell g moved second third first from to after behind rules canonical movable falls after_is behind_is one two three four =
    four
    ∙ ap (λ (k : Graph). fallen_before k to) three
    ∙ ap (λ (k : Graph). fallen_before (fallen_before k behind) to) two
    ∙ ap (λ (k : Graph). fallen_before (fallen_before (fallen_before k after) behind) to) one
    ∙ fallen_is g from to after behind rules canonical movable (none_saved g falls) after_is behind_is

pub seams_of-seams-requires-clause-end : goal.seams_of-seams-requires-clause-end
seams_of-seams-requires-clause-end c = c.end_of_chain.ensures.some c.in-Some.end c.in-Some.is

pub seams_of-seams-requires-clause-addresses : goal.seams_of-seams-requires-clause-addresses
seams_of-seams-requires-clause-addresses c = c.requires.placed.addresses

pub fall_before-second-requires-clause-uses : goal.fall_before-second-requires-clause-uses
fall_before-second-requires-clause-uses c =
    let g = c.args.graph.now.graph in
    let end = c.end_of_chain.ensures.some c.in-Some.end c.in-Some.is in
    let is : c.move_after.new.self.graph ≡ carried c.args.graph.now.graph c.args.from c.args.to = c.move_after.ensures.graph ∙ ap (λ k. moved_after g c.args.to k c.args.from) end in
    let after = c.unwrap_or-after.result in
    let behind = c.unwrap_or-behind.result in
    let after_is : (m : ℕ) → next_of c.args.graph.now.graph c.args.from ≡ Some m → c.unwrap_or-after.result ≡ m = λ m next. or_is c.next.result after m c.args.to (c.next.ensures ∙ next) c.unwrap_or-after.ensures in
    let behind_is : (m : ℕ) → next_of c.args.graph.now.graph (chain_end c.args.graph.now.graph c.args.to) ≡ Some m → c.unwrap_or-behind.result ≡ m = λ m next. or_is c.next-2.result behind m c.args.to (c.next-2.ensures ∙ ap (next_of g) end ∙ next) c.unwrap_or-behind.ensures in
    subst (λ (k : Graph). AreUses k c.args.uses.now) (sym is)
    (uses_carried g c.args.from c.args.to after behind c.learn.ensures.rules c.requires.canonical c.requires.movable (none_saved g c.requires.falls) after_is behind_is c.args.uses.now c.requires.uses)

pub fall_before-second-requires-clause-placed : goal.fall_before-second-requires-clause-placed
fall_before-second-requires-clause-placed c =
    let g = c.args.graph.now.graph in
    let end = c.end_of_chain.ensures.some c.in-Some.end c.in-Some.is in
    let is : c.move_after.new.self.graph ≡ carried c.args.graph.now.graph c.args.from c.args.to = c.move_after.ensures.graph ∙ ap (λ k. moved_after g c.args.to k c.args.from) end in
    let new : Places = record { addresses = c.exchange.new.addresses; words = c.args.places.now.words; jumps = c.args.places.now.jumps; branches = c.args.places.now.branches; holders = c.args.places.now.holders } in
    subst (λ (k : Graph). IsPlaced k new) (sym is)
    (placed_exchanged g (carried g c.args.from c.args.to) c.seams_of-seams.result c.args.places.now new c.seams_of-seams.ensures.exchanged (carried_words g c.args.from c.args.to c.learn.ensures.rules c.requires.movable) c.requires.placed c.exchange.ensures refl refl)

pub returns-clause-graph : goal.returns-clause-graph
returns-clause-graph c =
    let g = c.args.graph.now.graph in
    let end = c.end_of_chain.ensures.some c.in-Some.end c.in-Some.is in
    let is : c.move_after.new.self.graph ≡ carried c.args.graph.now.graph c.args.from c.args.to = c.move_after.ensures.graph ∙ ap (λ k. moved_after g c.args.to k c.args.from) end in
    let after = c.unwrap_or-after.result in
    let behind = c.unwrap_or-behind.result in
    let after_is : (m : ℕ) → next_of c.args.graph.now.graph c.args.from ≡ Some m → c.unwrap_or-after.result ≡ m = λ m next. or_is c.next.result after m c.args.to (c.next.ensures ∙ next) c.unwrap_or-after.ensures in
    let behind_is : (m : ℕ) → next_of c.args.graph.now.graph (chain_end c.args.graph.now.graph c.args.to) ≡ Some m → c.unwrap_or-behind.result ≡ m = λ m next. or_is c.next-2.result behind m c.args.to (c.next-2.ensures ∙ ap (next_of g) end ∙ next) c.unwrap_or-behind.ensures in
    all_fell g c.move_after.new.self.graph c.fall_before-second.new.graph.graph c.fall_before-third.new.graph.graph c.fall_before-first.new.graph.graph c.args.from c.args.to after behind c.learn.ensures.rules c.requires.canonical c.requires.movable c.requires.falls after_is behind_is is c.fall_before-second.ensures.graph c.fall_before-third.ensures.graph c.fall_before-first.ensures.graph

pub returns-clause-after : goal.returns-clause-after
returns-clause-after c = λ m next. or_is c.next.result c.unwrap_or-after.result m c.args.to (c.next.ensures ∙ next) c.unwrap_or-after.ensures

pub returns-clause-behind : goal.returns-clause-behind
returns-clause-behind c = λ m next.
    let g = c.args.graph.now.graph in
    let end = c.end_of_chain.ensures.some c.in-Some.end c.in-Some.is in
    or_is c.next-2.result c.unwrap_or-behind.result m c.args.to (c.next-2.ensures ∙ ap (next_of g) end ∙ next) c.unwrap_or-behind.ensures

pub returns-clause-solid : goal.returns-clause-solid
returns-clause-solid c =
    let g = c.args.graph.now.graph in
    let end = c.end_of_chain.ensures.some c.in-Some.end c.in-Some.is in
    let is : c.move_after.new.self.graph ≡ carried c.args.graph.now.graph c.args.from c.args.to = c.move_after.ensures.graph ∙ ap (λ k. moved_after g c.args.to k c.args.from) end in
    let after = c.unwrap_or-after.result in
    let behind = c.unwrap_or-behind.result in
    let after_is : (m : ℕ) → next_of c.args.graph.now.graph c.args.from ≡ Some m → c.unwrap_or-after.result ≡ m = λ m next. or_is c.next.result after m c.args.to (c.next.ensures ∙ next) c.unwrap_or-after.ensures in
    let behind_is : (m : ℕ) → next_of c.args.graph.now.graph (chain_end c.args.graph.now.graph c.args.to) ≡ Some m → c.unwrap_or-behind.result ≡ m = λ m next. or_is c.next-2.result behind m c.args.to (c.next-2.ensures ∙ ap (next_of g) end ∙ next) c.unwrap_or-behind.ensures in
    let start : AreSolidBut (λ n. false) c.move_after.new.self.graph =
    subst (λ (k : Graph). All (λ b. is_bare b ≡ false) k.blocks) (sym is) (solid_carried g c.args.from c.args.to after behind c.learn.ensures.rules c.requires.canonical c.requires.movable (none_saved g c.requires.falls) after_is behind_is) in
    let second = c.fall_before-second.ensures.solid (λ n. false) start in
    let third = c.fall_before-third.ensures.solid (λ n. is_it c.fall_before-second.result n || false) second in
    c.fall_before-first.ensures.solid (λ n. is_it c.fall_before-third.result n || (is_it c.fall_before-second.result n || false)) third
