use Rattle.std.proofs.Common.{refl, ◌≡◌, ◌+◌, ◌-◌, [], ℕ, List, take, drop, ◌∙◌, arith}
use Rattle.std.proofs.lemmas.Grind.{common_steps}
use Rattle.sq_hex.proofs.TextLemmas.{IsPart, part_here, range_more, cut_none}
use Rattle.sq_hex.proofs.write.Writer.push_range.Goals as goal

pub loop-done-preserved : goal.loop-done-preserved
loop-done-preserved c =
    let l = c.loop-done in
    let bytes : List ℕ = c.args.bytes.now in
    let at : ℕ = c.args.address + l.done in
    let size : ℕ = c.min-size.result in
    let part : IsPart at size (drop l.done bytes) =
    part_here c.args.address l.done size bytes c.loop-done-test.true (omega (arith, c.min-size.ensures)) (omega (arith, c.min-size.ensures)) (omega (arith, c.min-size.ensures)) (omega (arith, c.min-size.ensures)) (λ less. omega (arith, c.min-size.ensures)) in
    let cuts : take (l.done + size - l.done) (drop l.done bytes) ≡ take size (drop l.done bytes) = grind (arith, common_steps) in
    let written = rw cuts at c.in_ok-push_data.ensures.text in
    record {
      text = λ later. l.invariant.text later ∙ rw c.in_ok-push_data.ensures.base (range_more c.args.address l.done size bytes l.self.base l.self.text.items c.push_data.new.self.text.items later part written);
      within = omega (arith, c.min-size.ensures);
    }

pub returns : goal.returns
returns c later =
    let l = c.loop-done in
    let none : drop l.done c.args.bytes.now ≡ [] = grind (arith, common_steps) in
    l.invariant.text later ∙ rw (none, cut_none) refl
