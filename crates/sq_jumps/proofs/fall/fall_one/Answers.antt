use Rattle.std.proofs.Common.{ap, is_some, arith}
use Rattle.sq_graph.specs.Canonical.{canonical_of}
use Rattle.sq_graph.proofs.CanonicalLaws.{canonical_is_canonical}
use Rattle.sq_graph.specs.Words.{words_of}
use Rattle.sq_jumps.specs.Candidates.{IsCandidate, described}
use Rattle.sq_live.proofs.Layouts.{block_at}
use Rattle.sq_pass.proofs.Rewriting.{rewritten_itself}
use Rattle.sq_jumps.proofs.fall.fall_one.Goals as goal
use Rattle.sq_jumps.proofs.FallApplied.{fall_applied}
use Rattle.sq_jumps.proofs.FallJoined.{fall_rewritten, fall_kept, fall_names, canonical_to_fewer}

pub is_plain_fall-requires : goal.is_plain_fall-requires
is_plain_fall-requires c = ap is_some (block_at c.args.graph.now.graph c.args.names.now c.args.place c.learn.ensures.rules c.requires.names c.requires.place).found

pub returns-then-not-is_plain_fall-clause-rewritten : goal.returns-then-not-is_plain_fall-clause-rewritten
returns-then-not-is_plain_fall-clause-rewritten c =
    let g = c.args.graph.now.graph in
    rewritten_itself IsCandidate described c.args.savings (canonical_of g) (canonical_is_canonical g c.learn.ensures.rules)

pub returns-then-not-is_plain_fall-clause-canonical : goal.returns-then-not-is_plain_fall-clause-canonical
returns-then-not-is_plain_fall-clause-canonical c =
    let g = c.args.graph.now.graph in
    canonical_to_fewer g c.args.place _ (block_at g c.args.names.now c.args.place c.learn.ensures.rules c.requires.names c.requires.place) c.requires.canonical

pub fall-requires : goal.fall-requires
fall-requires c = (c.is_plain_fall.ensures c.if-not-is_plain_fall.false).jumps

pub returns-clause-rewritten : goal.returns-clause-rewritten
returns-clause-rewritten c =
    let g = c.args.graph.now.graph in
    let spot = block_at g c.args.names.now c.args.place c.learn.ensures.rules c.requires.names c.requires.place in
    fall_rewritten g c.args.place _ c.learn.ensures.rules spot (c.is_plain_fall.ensures c.if-not-is_plain_fall.false) c.requires.canonical c.fall.new.graph.graph c.args.savings c.count.result c.fall.ensures.graph c.count.ensures.value

pub returns-clause-canonical : goal.returns-clause-canonical
returns-clause-canonical c =
    let g = c.args.graph.now.graph in
    let spot = block_at g c.args.names.now c.args.place c.learn.ensures.rules c.requires.names c.requires.place in
    fall_kept g c.args.place _ c.learn.ensures.rules spot (c.is_plain_fall.ensures c.if-not-is_plain_fall.false) c.requires.canonical c.fall.new.graph.graph c.fall.ensures.graph

pub returns-clause-names : goal.returns-clause-names
returns-clause-names c =
    let g = c.args.graph.now.graph in
    let spot = block_at g c.args.names.now c.args.place c.learn.ensures.rules c.requires.names c.requires.place in
    fall_names g c.args.place _ c.learn.ensures.rules spot (c.is_plain_fall.ensures c.if-not-is_plain_fall.false) c.requires.canonical c.fall.new.graph.graph c.fall.ensures.graph

pub returns-clause-words : goal.returns-clause-words
returns-clause-words c =
    let g = c.args.graph.now.graph in
    omega (arith, (fall_applied g _ c.learn.ensures.rules (c.is_plain_fall.ensures c.if-not-is_plain_fall.false).jumps).words, ap words_of c.fall.ensures.graph, c.count.ensures.total)
