use Rattle.std.proofs.Common.{◌≡◌, ℕ, None, Some, is_some, refl, sym, ap, ◌∙◌}
use Rattle.sq_graph.specs.declared.item.Term.TheVariants.{Fall}
use Rattle.sq_graph.specs.Graph.{Graph}
use Rattle.sq_graph.specs.Blocks.{next_of}
use Rattle.sq_graph.specs.Rules.{IsGraph}
use Rattle.sq_lookup.proofs.Previous.{next_there}
use Rattle.sq_chain.specs.Passing.{IsHandedOn, IsPassedOn, IsPassed}
use Rattle.sq_chain.proofs.Dropping.{bare_term, bare_there}
use Rattle.sq_chain.proofs.HandedOn.{handed_has, handed_placed}
use Rattle.sq_chain.proofs.OneMore.{slot_after}
use Rattle.sq_chain.proofs.PassedOn.{passed_none, passed_more, passed_has, passed_placed}
use Rattle.sq_chain.proofs.passing.pass_on_uses.Goals as goal

pub unreachable-requires : goal.unreachable-requires
unreachable-requires c =
    let g = c.args.graph.now.graph in
    let some = slot_after g c.args.bare Fall c.learn.ensures.rules (bare_term g c.args.bare c.learn.ensures.rules c.requires.bare) refl in
    let none : next_of g c.args.bare ≡ None = sym c.next.ensures ∙ c.in_default.is in
    let e = ap is_some none in
    cc

-- all uses that are handed on and passed on
passed_by : (bare next : ℕ) (g mid h : Graph) → next_of g bare ≡ Some next → IsGraph mid → IsHandedOn bare next g mid → IsPassedOn bare next mid h → IsPassed bare g h
passed_by bare next g mid h slot rules handed on = record { next = next; slot = slot; mid = mid; rules = rules; handed = handed; on = on }

pub hand_on-handed-requires-clause-next : goal.hand_on-handed-requires-clause-next
hand_on-handed-requires-clause-next c =
    next_there c.args.graph.now.graph.blocks c.args.bare c.in-Some.next (sym c.next.ensures ∙ c.in-Some.is)

pub returns-then-not-handed-clause-passed : goal.returns-then-not-handed-clause-passed
returns-then-not-handed-clause-passed c =
    let mid = c.hand_on-handed.new.graph.graph in
    passed_by c.args.bare c.in-Some.next c.args.graph.now.graph mid mid (sym c.next.ensures ∙ c.in-Some.is) c.learn-2.ensures.rules c.hand_on-handed.ensures.handed (passed_none c.args.bare c.in-Some.next mid)

pub returns-then-not-handed-clause-placed : goal.returns-then-not-handed-clause-placed
returns-then-not-handed-clause-placed c =
    let placed = handed_placed c.args.bare c.in-Some.next c.args.graph.now.graph c.hand_on-handed.new.graph.graph c.hand_on-handed.ensures.handed c.args.places.now c.requires.placed in
    record { addresses = placed.addresses; words = placed.words; branches = placed.branches }

pub pass_jumps-requires-clause-next : goal.pass_jumps-requires-clause-next
pass_jumps-requires-clause-next c =
    handed_has c.args.bare c.in-Some.next c.args.graph.now.graph c.hand_on-handed.new.graph.graph c.hand_on-handed.ensures.handed c.in-Some.next
    (next_there c.args.graph.now.graph.blocks c.args.bare c.in-Some.next (sym c.next.ensures ∙ c.in-Some.is))

pub returns-then-not-pass_jumps-clause-placed : goal.returns-then-not-pass_jumps-clause-placed
returns-then-not-pass_jumps-clause-placed c =
    let g = c.args.graph.now.graph in
    let mid = c.hand_on-handed.new.graph.graph in
    let on = passed_by c.args.bare c.in-Some.next g mid c.pass_jumps.new.graph.graph (sym c.next.ensures ∙ c.in-Some.is) c.learn-2.ensures.rules c.hand_on-handed.ensures.handed c.pass_jumps.ensures.passed in
    let placed = passed_placed c.args.bare g c.pass_jumps.new.graph.graph on c.args.places.now c.requires.placed in
    record { addresses = placed.addresses; words = placed.words; branches = placed.branches }

pub returns-then-not-used-clause-placed : goal.returns-then-not-used-clause-placed
returns-then-not-used-clause-placed c =
    let g = c.args.graph.now.graph in
    let mid = c.hand_on-handed.new.graph.graph in
    let on = passed_by c.args.bare c.in-Some.next g mid c.pass_jumps.new.graph.graph (sym c.next.ensures ∙ c.in-Some.is) c.learn-2.ensures.rules c.hand_on-handed.ensures.handed c.pass_jumps.ensures.passed in
    let placed = passed_placed c.args.bare g c.pass_jumps.new.graph.graph on c.args.places.now c.requires.placed in
    record { addresses = placed.addresses; words = placed.words; branches = placed.branches }

pub pass_branches-requires-clause-addresses : goal.pass_branches-requires-clause-addresses
pass_branches-requires-clause-addresses c =
    let g = c.args.graph.now.graph in
    let mid = c.hand_on-handed.new.graph.graph in
    let on = passed_by c.args.bare c.in-Some.next g mid c.pass_jumps.new.graph.graph (sym c.next.ensures ∙ c.in-Some.is) c.learn-2.ensures.rules c.hand_on-handed.ensures.handed c.pass_jumps.ensures.passed in
    (passed_placed c.args.bare g c.pass_jumps.new.graph.graph on c.args.places.now c.requires.placed).addresses

pub pass_branches-requires-clause-bare : goal.pass_branches-requires-clause-bare
pass_branches-requires-clause-bare c =
    let g = c.args.graph.now.graph in
    let mid = c.hand_on-handed.new.graph.graph in
    passed_has c.args.bare c.in-Some.next mid c.pass_jumps.new.graph.graph c.pass_jumps.ensures.passed c.args.bare
    (handed_has c.args.bare c.in-Some.next g mid c.hand_on-handed.ensures.handed c.args.bare (bare_there g c.args.bare c.learn.ensures.rules c.requires.bare))

pub pass_branches-requires-clause-next : goal.pass_branches-requires-clause-next
pass_branches-requires-clause-next c =
    let g = c.args.graph.now.graph in
    let mid = c.hand_on-handed.new.graph.graph in
    passed_has c.args.bare c.in-Some.next mid c.pass_jumps.new.graph.graph c.pass_jumps.ensures.passed c.in-Some.next
    (handed_has c.args.bare c.in-Some.next g mid c.hand_on-handed.ensures.handed c.in-Some.next (next_there g.blocks c.args.bare c.in-Some.next (sym c.next.ensures ∙ c.in-Some.is)))

pub returns-clause-passed : goal.returns-clause-passed
returns-clause-passed c =
    let g = c.args.graph.now.graph in
    let mid = c.hand_on-handed.new.graph.graph in
    passed_by c.args.bare c.in-Some.next g mid c.pass_branches.new.graph.graph (sym c.next.ensures ∙ c.in-Some.is) c.learn-2.ensures.rules c.hand_on-handed.ensures.handed
    (passed_more c.args.bare c.in-Some.next mid c.pass_jumps.new.graph.graph c.pass_branches.new.graph.graph c.pass_jumps.ensures.passed c.pass_branches.ensures.passed)

pub returns-clause-placed : goal.returns-clause-placed
returns-clause-placed c =
    let g = c.args.graph.now.graph in
    let mid = c.hand_on-handed.new.graph.graph in
    let h = c.pass_branches.new.graph.graph in
    let on = passed_by c.args.bare c.in-Some.next g mid h (sym c.next.ensures ∙ c.in-Some.is) c.learn-2.ensures.rules c.hand_on-handed.ensures.handed
    (passed_more c.args.bare c.in-Some.next mid c.pass_jumps.new.graph.graph h c.pass_jumps.ensures.passed c.pass_branches.ensures.passed) in
    let placed = passed_placed c.args.bare g h on c.args.places.now c.requires.placed in
    record { addresses = placed.addresses; words = placed.words; branches = placed.branches }
