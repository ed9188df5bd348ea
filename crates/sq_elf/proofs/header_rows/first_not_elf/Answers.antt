-- each offset is the first, or the first lies behind
use Rattle.std.proofs.Common.{◌≡◌, ℕ, ◌+◌, ◌-◌, Bool, true, false, sym, ap, ◌∙◌, arith}
use Rattle.sq_num.specs.Refusals.{first_from}
use Rattle.sq_num.proofs.Places.{first_here, first_later, first_of_none}
use Rattle.sq_elf.specs.Refusing.{is_not_elf_at}
use Rattle.sq_elf.proofs.header_rows.first_not_elf.Goals as goal

pub returns-then-is_not_elf_at : goal.returns-then-is_not_elf_at
returns-then-is_not_elf_at c =
    let fails : ℕ → Bool = is_not_elf_at c.args.bytes.now in
    let here : fails c.loop-offset.offset ≡ true = sym c.if-is_not_elf_at.ensures in
    sym (c.loop-offset.invariant ∙ first_here fails c.loop-offset.offset (7 - c.loop-offset.offset) (omega arith) here)

pub loop-offset-preserved : goal.loop-offset-preserved
loop-offset-preserved c =
    let fails : ℕ → Bool = is_not_elf_at c.args.bytes.now in
    let here : fails c.loop-offset.offset ≡ false = sym c.if-is_not_elf_at.ensures in
    let fewer : 7 - c.loop-offset.offset - 1 ≡ 7 - (c.loop-offset.offset + 1) = omega arith in
    c.loop-offset.invariant ∙ first_later fails c.loop-offset.offset (7 - c.loop-offset.offset) (omega arith) here
    ∙ ap (first_from fails (c.loop-offset.offset + 1)) fewer

pub returns : goal.returns
returns c =
    let fails : ℕ → Bool = is_not_elf_at c.args.bytes.now in
    let no_more : 7 - c.loop-offset.offset ≡ 0 = omega arith in
    sym (c.loop-offset.invariant ∙ ap (first_from fails c.loop-offset.offset) no_more ∙ first_of_none fails c.loop-offset.offset)
