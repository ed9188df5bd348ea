use Rattle.std.proofs.Common.{◌≡◌, ◌+◌, ◌-◌, ℕ, List, take, drop, refl, ap₂, ◌∙◌, arith}
use Rattle.sq_memory.specs.Regions.{put_all}
use Rattle.sq_machine.specs.Views.{state_of}
use Rattle.sq_machine.proofs.InputReads.{input_taken, nothing_taken}
use Rattle.sq_machine.proofs.hart.Hart.take_input.Goals as goal

pub returns-then-count-gt0 : goal.returns-then-count-gt0
unfolding state_of
returns-then-count-gt0 c =
    let e : c.end_of-end.result ≡ c.args.self.now.read + c.args.count = c.end_of-end.ensures.value in
    let n : c.end_of-end.result - c.args.self.now.read ≡ c.args.count = omega (arith, e) in
    let q = ap₂ (λ (n : ℕ) (xs : List ℕ). put_all c.args.self.now.memory c.args.address (take n (drop c.args.self.now.read xs))) n c.deref-then-count-gt0.ensures.value in
    input_taken (state_of c.args.self.now) c.args.self.now.memory c.put_all.new.self c.args.address c.args.count c.args.self.now.read c.end_of-end.result c.args.self.now.input.items refl refl e (c.put_all.ensures ∙ q)

pub returns-else-count-gt0 : goal.returns-else-count-gt0
returns-else-count-gt0 c = let e : c.args.count ≡ 0 = omega arith in nothing_taken (state_of c.args.self.now) c.args.address c.args.count e
