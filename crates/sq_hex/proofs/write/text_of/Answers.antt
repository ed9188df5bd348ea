use Rattle.std.proofs.Common.{◌≡◌, ◌+◌, ◌≤◌, ◌^◌, ◌++◌, ℕ, List, [], None, length, drop, ap, ◌∙◌, arith}
use Rattle.std.proofs.lemmas.Grind.{common_steps}
use Rattle.std.proofs.lemmas.List.{append-nil}
use Rattle.std.proofs.lemmas.List.Elements.{recursion_from_All}
use Rattle.std.specs.List.{flat_map}
use Rattle.hex.specs.Hex.{IsBytes}
use Rattle.sq_elf.specs.declared.segment.Segment.{Segment}
use Rattle.sq_hex.specs.Flash.{ranges_of, bytes_of}
use Rattle.sq_hex.specs.Meaning.{hex_meaning}
use Rattle.sq_hex.specs.Texts.{cut, data_text, last_lines, text_of_ranges}
use Rattle.sq_hex.proofs.Flashes.{sorted_ascends}
use Rattle.sq_hex.proofs.TextLemmas.{data_text_none}
use Rattle.sq_hex.proofs.RoundTrip.{ranges_good, text_means}
use Rattle.sq_hex.proofs.write.text_of.Goals as goal

-- where no range is left, the text has all of them
all_written : (file : List ℕ) (loads : List Segment) (index : ℕ) (base : _) (text : List ℕ) → length loads ≤ index
    → text ++ data_text base (flat_map (λ range. cut range.0 range.1) (ranges_of file (drop index loads))) ≡ data_text None (flat_map (λ range. cut range.0 range.1) (ranges_of file loads))
    → (out : List ℕ) (entry : ℕ) → out ≡ text ++ last_lines entry → out ≡ text_of_ranges (ranges_of file loads) entry
unfolding text_of_ranges
all_written file loads index base text all written out entry is =
    let none : drop index loads ≡ [] = grind (arith, common_steps) in
    let front = rw (none, data_text_none base, append-nil text) at written in
    is ∙ ap (λ t. t ++ last_lines entry) front

pub push_range-requires : goal.push_range-requires
push_range-requires c =
    let none : Segment = record { offset = 0; address = 0; load_address = 0; filesz = 0; memsz = 0; flags = 0 } in
    omega (arith, c.requires.bounded c.loop-segment.segment-index none c.loop-segment-test.true, c.file_bytes.ensures.short)

pub returns-clause-text : goal.returns-clause-text
returns-clause-text c =
    let l = c.loop-segment in
    all_written c.args.file.now c.args.loads.now l.segment-index l.writer.base l.writer.text.items c.loop-segment-test.false l.invariant c.push_last.new.self.text.items c.args.entry c.in_ok-push_last.ensures

pub returns-clause-means : goal.returns-clause-means
returns-clause-means c =
    let l = c.loop-segment in
    let file : List ℕ = c.args.file.now in
    let loads : List Segment = c.args.loads.now in
    let is = all_written file loads l.segment-index l.writer.base l.writer.text.items c.loop-segment-test.false l.invariant c.push_last.new.self.text.items c.args.entry c.in_ok-push_last.ensures in
    let fits : IsBytes file = λ i. omega (arith, c.type_inv.file i) in
    let bounded = recursion_from_All (λ s. s.load_address + s.filesz ≤ 2 ^ 32) loads c.requires.bounded in
    ap hex_meaning is ∙ text_means (ranges_of file loads) c.args.entry (ranges_good file fits loads bounded) (sorted_ascends (bytes_of (ranges_of file loads)) c.requires.ascending) (omega arith)
