use Rattle.std.proofs.Common.{◌≡◌, ◌++◌, List, ℕ, suc, take, drop, get_or, refl, sym, ◌∙◌}
use Rattle.sq_elf.specs.declared.segment.Segment.{Segment}
use Rattle.sq_elf.specs.Memory.{file_bytes_of}
use Rattle.sq_hex.specs.Flash.{placed, ranges_of, bytes_of}
use Rattle.sq_hex.proofs.FlashLemmas.{cancel}
use Rattle.sq_hex.proofs.Flashes.{ranges_split}
use Rattle.sq_hex.proofs.flash.holds_exactly.Goals as goal

pub returns-then-not-next_are : goal.returns-then-not-next_are
returns-then-not-next_are c =
    let l = c.loop-segment in
    let file : List ℕ = c.args.file.now in
    let loads : List Segment = c.args.loads.now in
    let none : Segment = record { offset = 0; address = 0; load_address = 0; filesz = 0; memsz = 0; flags = 0 } in
    let s : Segment = get_or loads l.segment-index none in
    let rest : List (ℕ × ℕ) = bytes_of (ranges_of file (drop (suc l.segment-index) loads)) in (
      λ wrong. absurd (cc wrong),
      λ same.
          let left : l.entries ≡ placed s.load_address (file_bytes_of file s) ++ rest =
          cancel (bytes_of (ranges_of file (take l.segment-index loads))) l.entries (placed s.load_address (file_bytes_of file s) ++ rest)
          (sym l.invariant ∙ same ∙ ranges_split file loads l.segment-index none c.loop-segment-test.true) in
          absurd (c.if-not-next_are.ensures.other refl rest (rw c.file_bytes.ensures.value left)),
    )
