use Rattle.std.proofs.Common.{sym, ◌∙◌, subst, length, arith}
use Rattle.sq_graph.specs.Canonical.{canonical_of}
use Rattle.sq_graph.proofs.CanonicalLaws.{canonical_again}
use Rattle.sq_jumps.specs.Candidates.{IsCandidate, described}
use Rattle.sq_live.proofs.Layouts.{length-names}
use Rattle.sq_pass.specs.Rewrites.{IsRewritten}
use Rattle.sq_pass.proofs.Rewriting.{rewritten_itself, rewritten_through}
use Rattle.sq_jumps.proofs.FallJoined.{canonical_to_end}
use Rattle.sq_jumps.proofs.fall.fall_each.Goals as goal

pub loop-place-init : goal.loop-place-init
loop-place-init c =
    let g = c.args.graph.now.graph in
    record {
      rewritten = subst (λ h. IsRewritten IsCandidate described c.args.savings c.args.savings g h) (sym (canonical_again g c.requires.canonical)) (rewritten_itself IsCandidate described c.args.savings g c.requires.canonical);
      canonical = canonical_to_end g (length c.args.names.now) (omega (arith, length-names g c.args.names.now c.requires.names)) c.requires.canonical;
      names = c.requires.names;
      words = c.requires.words;
      within = omega arith;
    }

pub loop-place-preserved : goal.loop-place-preserved
loop-place-preserved c = record {
  rewritten = rewritten_through IsCandidate described c.args.savings c.loop-place.after c.fall_one-after.result c.args.graph.now.graph (canonical_of c.loop-place.graph.graph) (canonical_of c.fall_one-after.new.graph.graph) c.loop-place.invariant.rewritten c.fall_one-after.ensures.rewritten;
  canonical = c.fall_one-after.ensures.canonical;
  names = c.loop-place.invariant.names ∙ sym c.fall_one-after.ensures.names;
  words = omega (arith, c.fall_one-after.ensures.words, c.loop-place.invariant.words);
  within = omega (arith, c.loop-place.invariant.within);
}
