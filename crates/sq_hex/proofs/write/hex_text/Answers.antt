use Rattle.std.proofs.Common.{◌≡◌, ℕ, List, Some, Ok, refl, sym, ap, ◌∙◌, subst}
use Rattle.std.proofs.lemmas.Result.{IfOk-weaker}
use Rattle.std.specs.List.Sorted.{IsStrictlySortedBy}
use Rattle.std.specs.Map.{keys_of}
use Rattle.std.specs.Ordering.{nat_cmp}
use Rattle.sq_elf.specs.declared.segment.Segment.{Segment}
use Rattle.sq_elf.specs.Headers.{entry_of}
use Rattle.sq_hex.specs.Flash.{Range, ranges_of, bytes_of, IsFlashOf}
use Rattle.sq_hex.specs.Meaning.{HexMeaning, hex_meaning}
use Rattle.sq_hex.specs.States.{AreBounded, meaning}
use Rattle.sq_hex.specs.Texts.{text_of_ranges, IsHexTextOf}
use Rattle.sq_hex.proofs.Loads.{loads_bounded}
use Rattle.sq_hex.proofs.Flashes.{loads_are_flash}
use Rattle.sq_hex.proofs.write.hex_text.Goals as goal

pub text_of-requires : goal.text_of-requires
text_of-requires c =
    let A : List Segment → Type 0 = AreBounded in
    let ranges : ranges_of c.bytes-file.result.now c.deref.result.now ≡ ranges_of c.args.elf.now c.in_ok-loads.loads.items =
    ap (λ f. ranges_of f c.deref.result.now) c.bytes-file.ensures.value ∙ ap (ranges_of c.args.elf.now) c.deref.ensures.value in
    let S : List Range → Type 0 = λ rs. IsStrictlySortedBy nat_cmp (keys_of (bytes_of rs)) in
    record {
      bounded = subst A (sym c.deref.ensures.value) (loads_bounded c.args.elf.now c.bytes-file.ensures.accepted c.in_ok-loads.loads.items c.in_ok-loads.ensures);
      ascending = subst S (sym ranges) (loads_are_flash c.args.elf.now c.bytes-file.ensures.accepted c.in_ok-loads.loads.items c.in_ok-loads.ensures).ascending;
    }

pub returns : goal.returns
returns c =
    let file : List ℕ = c.args.elf.now in
    let loads : List Segment = c.in_ok-loads.loads.items in
    let accepted = c.bytes-file.ensures.accepted in
    let are = c.in_ok-loads.ensures in
    let ranges : ranges_of c.bytes-file.result.now c.deref.result.now ≡ ranges_of file loads =
    ap (λ f. ranges_of f c.deref.result.now) c.bytes-file.ensures.value ∙ ap (ranges_of file) c.deref.ensures.value in
    record {
      text = IfOk-weaker c.text_of.result (λ text. text.items ≡ text_of_ranges (ranges_of c.bytes-file.result.now c.deref.result.now) c.entry.result) (λ text. IsHexTextOf file text.items)
          (λ text is. record {
            segments = loads;
            loads = are;
            is = is ∙ ap (λ rs. text_of_ranges rs c.entry.result) ranges ∙ ap (text_of_ranges (ranges_of file loads)) c.entry.ensures;
          }) c.text_of.ensures.text;
      means = IfOk-weaker c.text_of.result (λ text. hex_meaning text.items ≡ Ok (meaning (bytes_of (ranges_of c.bytes-file.result.now c.deref.result.now)) (Some c.entry.result))) (λ text. (m : HexMeaning) × (hex_meaning text.items ≡ Ok m) × IsFlashOf file m)
          (λ text is. (
            meaning (bytes_of (ranges_of file loads)) (Some (entry_of file)),
            is ∙ ap (λ rs. Ok (meaning (bytes_of rs) (Some c.entry.result))) ranges ∙ ap (λ entry. Ok (meaning (bytes_of (ranges_of file loads)) (Some entry))) c.entry.ensures,
            record { flash = loads_are_flash file accepted loads are; entry = refl },
          )) c.text_of.ensures.means;
    }
