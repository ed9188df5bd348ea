use Rattle.std.proofs.Common.{◌≡◌, ℕ, List, Some, sym, ap, ◌∙◌, subst}
use Rattle.sq_elf.specs.declared.segment.Segment.{Segment}
use Rattle.sq_hex.specs.Flash.{ranges_of, bytes_of}
use Rattle.sq_hex.specs.Meaning.{HexMeaning}
use Rattle.sq_hex.specs.States.{AreBounded}
use Rattle.sq_hex.proofs.Loads.{loads_bounded}
use Rattle.sq_hex.proofs.Flashes.{one_flash, flash_from}
use Rattle.sq_hex.proofs.image.HexImage.is_flash_of.Goals as goal
use Rattle.sq_hex.proofs.image.HexImage.is_flash_of.Goals.{then-same, else-same}

pub holds_exactly-same-requires : goal.holds_exactly-same-requires
holds_exactly-same-requires c =
    let A : List Segment → Type 0 = AreBounded in
    subst A (sym c.deref.ensures.value) (loads_bounded c.args.elf.now c.bytes-file.ensures.accepted c.in_ok-loads.loads.items c.in_ok-loads.ensures)

pub returns : goal.returns
returns c =
    let file : List ℕ = c.args.elf.now in
    let loads : List Segment = c.in_ok-loads.loads.items in
    let accepted = c.bytes-file.ensures.accepted in
    let are = c.in_ok-loads.ensures in
    let m : HexMeaning = c.args.self.now in
    let bytes : m.bytes ≡ c.self.inside.bytes.entries = ap (λ (seen : HexMeaning). seen.bytes) (sym c.self.view_is) in
    let start : m.start ≡ c.self.inside.start = ap (λ (seen : HexMeaning). seen.start) (sym c.self.view_is) in
    let ranges : bytes_of (ranges_of c.bytes-file.result.now c.deref.result.now) ≡ bytes_of (ranges_of file loads) =
    ap (λ f. bytes_of (ranges_of f c.deref.result.now)) c.bytes-file.ensures.value ∙ ap (λ s. bytes_of (ranges_of file s)) c.deref.ensures.value in
    let exact = c.holds_exactly-same.ensures in
    elim c.if-same.branch [
      | then-same w ↦ (
        λ holds. flash_from file accepted loads are m (bytes ∙ exact.0 w.if-same.true ∙ ranges) (start ∙ w.starts_at.ensures.0 (sym w.result-is ∙ holds) ∙ ap Some w.entry.ensures),
        λ flash. w.result-is ∙ w.starts_at.ensures.1 (sym start ∙ flash.entry ∙ ap Some (sym w.entry.ensures)),
      )
      | else-same w ↦ (
        λ holds. absurd (cc (holds, w.result-is)),
        λ flash. absurd (cc (exact.1 (sym bytes ∙ one_flash file accepted loads are m.bytes flash.flash ∙ sym ranges), w.if-same.false)),
      )
    ]
