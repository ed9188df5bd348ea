-- what is written of the lifted graph is a packing
use Rattle.std.proofs.Common.{◌≡◌, ◌<◌, ◌+◌, ◌*◌, ℕ, List, arith, sym, ◌∙◌, subst}
use Rattle.std.specs.List.{AllByRecursion}
use Rattle.sq_elf.specs.Refusing.{text_size}
use Rattle.sq_lifted.specs.LiftedFiles.{IsLiftedFile, FitsFile}
use Rattle.sq_lifted.proofs.Accepting.{not_refused}
use Rattle.sq_top.specs.Proving.{PacksProved}
use Rattle.sq_top.proofs.LighterFile.{small_text}
use Rattle.sq_top.proofs.ProvedFile.{packs_proved}
use Rattle.sq_top.proofs.PackedFile.{packs, rewritten_fits, few_bytes, enough_loaded}
use Rattle.sq_top.proofs.certifying.prove_bytes.Goals as goal

pub settle_noting-requires-clause-words : goal.settle_noting-requires-clause-words
settle_noting-requires-clause-words c = small_text c.in_ok-elf.field-0.elf c.in_ok-elf.field-0.graph.graph (subst (λ file. IsLiftedFile file c.in_ok-elf.field-0.graph.graph) (sym c.in_ok-elf.ensures.read) c.in_ok-elf.ensures.lifted).lifted.accepted.read.file (subst (λ file. FitsFile file c.in_ok-elf.field-0.graph.graph) (sym c.in_ok-elf.ensures.read) c.in_ok-elf.ensures.fits)

pub write_graph-requires-clause-fits : goal.write_graph-requires-clause-fits
write_graph-requires-clause-fits c = rewritten_fits c.in_ok-elf.field-0.elf c.in_ok-elf.field-0.graph.graph c.settle_noting.new.graph.graph c.in_ok-noted.noted.savings (subst (λ file. FitsFile file c.in_ok-elf.field-0.graph.graph) (sym c.in_ok-elf.ensures.read) c.in_ok-elf.ensures.fits) c.in_ok-noted.ensures.rewritten

pub packed_of-packed-requires-clause-words : goal.packed_of-packed-requires-clause-words
packed_of-packed-requires-clause-words c =
    let fits = (subst (λ file. FitsFile file c.in_ok-elf.field-0.graph.graph) (sym c.in_ok-elf.ensures.read) c.in_ok-elf.ensures.fits) in
    omega (arith, fits.words, c.words_of-reached.ensures)

pub packed_of-packed-requires-clause-short : goal.packed_of-packed-requires-clause-short
packed_of-packed-requires-clause-short c = few_bytes c.in_ok-elf.field-0.elf (subst (λ file. IsLiftedFile file c.in_ok-elf.field-0.graph.graph) (sym c.in_ok-elf.ensures.read) c.in_ok-elf.ensures.lifted).lifted.accepted.read.file

pub packed_of-packed-requires-clause-loads : goal.packed_of-packed-requires-clause-loads
packed_of-packed-requires-clause-loads c =
    enough_loaded c.in_ok-elf.field-0.elf c.in_ok-elf.field-0.graph.graph c.settle_noting.new.graph.graph c.in_ok-noted.noted.savings
    (subst (AllByRecursion (λ b. b < 256)) (sym c.in_ok-elf.ensures.read) c.bytes_fit.ensures)
    (subst (λ file. IsLiftedFile file c.in_ok-elf.field-0.graph.graph) (sym c.in_ok-elf.ensures.read) c.in_ok-elf.ensures.lifted) (subst (λ file. FitsFile file c.in_ok-elf.field-0.graph.graph) (sym c.in_ok-elf.ensures.read) c.in_ok-elf.ensures.fits) c.in_ok-noted.ensures.rewritten c.in_ok-file.ensures.rules

pub returns-clause-packed : goal.returns-clause-packed
returns-clause-packed c =
    let P : List ℕ → Type 0 = λ bytes. PacksProved bytes c.packed_of-packed.result c.in_ok-text.text.items in
    let elf : List ℕ = c.in_ok-elf.field-0.elf in
    let lifted : IsLiftedFile elf c.in_ok-elf.field-0.graph.graph = subst (λ file. IsLiftedFile file c.in_ok-elf.field-0.graph.graph) (sym c.in_ok-elf.ensures.read) c.in_ok-elf.ensures.lifted in
    subst P c.in_ok-elf.ensures.read
    (packs_proved elf c.packed_of-packed.result c.in_ok-text.text.items c.in_ok-elf.field-0.graph.graph c.settle_noting.new.graph.graph c.in_ok-noted.noted.cert lifted c.in_ok-elf.ensures.slotted c.in_ok-noted.ensures.form c.in_ok-noted.ensures.replay c.in_ok-text.ensures (c.packed_of-packed.ensures.output ∙ c.in_ok-file.ensures.file)
    (packs c.in_ok-elf.field-0.elf c.in_ok-elf.field-0.graph.graph c.settle_noting.new.graph.graph c.in_ok-noted.noted.savings
    (subst (AllByRecursion (λ b. b < 256)) (sym c.in_ok-elf.ensures.read) c.bytes_fit.ensures)
    (subst (λ file. IsLiftedFile file c.in_ok-elf.field-0.graph.graph) (sym c.in_ok-elf.ensures.read) c.in_ok-elf.ensures.lifted) (subst (λ file. FitsFile file c.in_ok-elf.field-0.graph.graph) (sym c.in_ok-elf.ensures.read) c.in_ok-elf.ensures.fits) c.in_ok-noted.ensures.rewritten c.in_ok-file.ensures.rules
    c.in_ok-noted.ensures.left c.in_ok-noted.ensures.slotted c.in_ok-elf.ensures.slotted c.packed_of-packed.result
    (c.packed_of-packed.ensures.output ∙ c.in_ok-file.ensures.file) c.packed_of-packed.ensures.text_before c.packed_of-packed.ensures.text_after c.packed_of-packed.ensures.loaded_before c.packed_of-packed.ensures.loaded_after c.packed_of-packed.ensures.procedures
    (subst (λ n. 4 * (c.packed_of-packed.result.unreached + n) ≡ text_size c.in_ok-elf.field-0.elf) c.words_of-reached.ensures c.packed_of-packed.ensures.unreached)
    c.packed_of-packed.ensures.savings c.packed_of-packed.ensures.balance))

pub returns-clause-exact : goal.returns-clause-exact
returns-clause-exact c = λ refusal refused. absurd (not_refused c.args.bytes.now (returns-clause-packed c).packs.good.made.accepted refusal refused)
