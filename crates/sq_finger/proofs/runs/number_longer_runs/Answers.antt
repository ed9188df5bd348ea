use Rattle.std.proofs.Common.{◌≡◌, ℕ, ◌+◌, ◌∷◌, [], Option, length, length-append, nat_eq, refl, ap, ◌∙◌, subst, arith}
use Rattle.std.specs.Option.{option_zip}
use Rattle.std.proofs.lemmas.Result.{IfOk-weaker}
use Rattle.sq_finger.specs.Classes.{is_same_kind}
use Rattle.sq_finger.specs.Numbers.{AreNumbers, member_at}
use Rattle.sq_finger.specs.Runs.{AreRunNumbers}
use Rattle.sq_finger.proofs.Exactness.{exact_number, exact_pair}
use Rattle.sq_finger.proofs.Telling.{numbers_of_keys, longer_runs, pairs_more, pairs_end}
use Rattle.sq_finger.proofs.runs.number_longer_runs.Goals as goal

pub loop-i-preserved : goal.loop-i-preserved
loop-i-preserved c =
    let firsts = c.args.firsts.now in
    let runs = c.args.runs.now in
    let pairs = c.loop-i.pairs.items in
    let i = c.loop-i.i in
    let zip : ℕ → Option (ℕ × ℕ) = λ k. option_zip (member_at firsts k) (member_at runs (k + 1)) in
    let many = c.loop-i.invariant.many in
    let longer = length-append pairs (c.zip.result ∷ []) in
    let here : c.zip.result ≡ zip i = rw (c.zip.ensures, c.number_at.ensures, c.number_at-in-loop-i.ensures) refl in
    record {
      many = rw c.in_ok-push.ensures.items (omega arith);
      each = λ k l. ap (λ ps. member_at ps k) c.in_ok-push.ensures.items ∙ pairs_more pairs c.zip.result i zip many here c.loop-i.invariant.each k l;
    }

pub number_all-requires : goal.number_all-requires
number_all-requires c =
    let many = c.loop-i.invariant.many in
    record { few = rw c.deref.ensures.value (omega arith) }

pub returns : goal.returns
returns c =
    let firsts = c.args.firsts.now in
    let runs = c.args.runs.now in
    let pairs = c.loop-i.pairs.items in
    let many : length pairs ≡ length firsts = let m = c.loop-i.invariant.many in omega arith in
    let there = pairs_end firsts runs pairs many (λ k l. c.loop-i.invariant.each k (omega arith)) in
    IfOk-weaker c.number_all.result (λ longer. AreNumbers is_same_kind c.deref.result.now longer.items) (λ longer. (n : ℕ) → AreRunNumbers n firsts runs → AreRunNumbers (n + 1) firsts longer.items)
    (λ longer are n runs_are. longer_runs n firsts runs pairs longer.items many there
    (numbers_of_keys is_same_kind (exact_pair nat_eq nat_eq exact_number exact_number) pairs longer.items (subst (λ ks. AreNumbers is_same_kind ks longer.items) c.deref.ensures.value are)) runs_are)
    c.number_all.ensures.numbers
