-- an entry that is ignored adds nothing, another one itself
use Rattle.std.proofs.Common.{◌≡◌, ◌+◌, ◌++◌, ◌∷◌, [], List, ℕ, true, false, sym, subst, ap, ◌∙◌, arith}
use Rattle.sq_reloc.specs.declared.entry.Entry.{Entry}
use Rattle.sq_reloc.specs.declared.gathered.Gathered.{Gathered}
use Rattle.sq_reloc.specs.Kinds.{is_ignored}
use Rattle.sq_reloc.specs.Entries.{entry_at, entries_in}
use Rattle.sq_reloc.specs.Gathering.{IsGathered}
use Rattle.sq_reloc.proofs.TablePasses.{table_start, table_ignored, table_added}
use Rattle.sq_reloc.proofs.gathered.Gathered.add_table.Goals as goal
use Rattle.sq_reloc.proofs.gathered.Gathered.add_table.Goals.{then-not-is_ignored+in_ok-add, else-not-is_ignored}

pub loop-number-init : goal.loop-number-init
loop-number-init c = λ entries before. table_start (IsGathered c.args.elf.now c.args.self.now) c.args.elf.now c.args.index c.args.table entries before

pub loop-number-preserved : goal.loop-number-preserved
loop-number-preserved c = λ entries before.
    let bytes : List ℕ = c.args.elf.now in
    let number : ℕ = c.loop-number.number in
    let so_far : List Entry = entries ++ entries_in bytes c.args.index c.args.table number in
    let told : is_ignored (entry_at bytes c.args.index c.args.table number).kind ≡ c.is_ignored.result =
    ap (λ (e : Entry). is_ignored e.kind) (sym c.entry_at-entry.ensures) ∙ sym c.is_ignored.ensures in
    let After : Gathered → Type 0 = λ state. IsGathered bytes state (entries ++ entries_in bytes c.args.index c.args.table (number + 1)) in
    elim c.if-not-is_ignored.branch [
      | then-not-is_ignored+in_ok-add w ↦
          (let With : Entry → Type 0 = λ e. IsGathered bytes w.add.new.self (so_far ++ e ∷ []) in
          let added : With (entry_at bytes c.args.index c.args.table number) = subst With c.entry_at-entry.ensures (w.in_ok-add.ensures so_far (c.loop-number.invariant entries before)) in
          subst After (sym w.self-is) (table_added (IsGathered bytes w.add.new.self) bytes c.args.index c.args.table entries number (number + 1) (omega arith) (told ∙ w.if-not-is_ignored.true) added))
      | else-not-is_ignored w ↦
          subst After (sym w.self-is) (table_ignored (IsGathered bytes c.loop-number.self) bytes c.args.index c.args.table entries number (number + 1) (omega arith) (told ∙ w.if-not-is_ignored.false) (c.loop-number.invariant entries before))
    ]
