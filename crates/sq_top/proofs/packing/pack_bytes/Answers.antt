-- what is written of the lifted graph is a packing
use Rattle.std.proofs.Common.{◌≡◌, ◌<◌, ◌+◌, ◌*◌, ℕ, List, arith, sym, ◌∙◌, subst}
use Rattle.std.specs.List.{AllByRecursion}
use Rattle.sq_elf.specs.Refusing.{text_size}
use Rattle.sq_lifted.specs.LiftedFiles.{IsLiftedFile, FitsFile}
use Rattle.sq_lifted.proofs.Accepting.{not_refused}
use Rattle.sq_top.specs.Packing.{Packs}
use Rattle.sq_top.proofs.LighterFile.{small_text}
use Rattle.sq_top.proofs.PackedFile.{packs, rewritten_fits, few_bytes, enough_loaded}
use Rattle.sq_top.proofs.packing.pack_bytes.Goals as goal

pub settle_slotted-requires-clause-words : goal.settle_slotted-requires-clause-words
settle_slotted-requires-clause-words c = small_text c.in_ok-elf.field-0.elf c.in_ok-elf.field-0.graph.graph (subst (λ file. IsLiftedFile file c.in_ok-elf.field-0.graph.graph) (sym c.in_ok-elf.ensures.read) c.in_ok-elf.ensures.lifted).lifted.accepted.read.file (subst (λ file. FitsFile file c.in_ok-elf.field-0.graph.graph) (sym c.in_ok-elf.ensures.read) c.in_ok-elf.ensures.fits)

pub write_graph-requires-clause-fits : goal.write_graph-requires-clause-fits
write_graph-requires-clause-fits c = rewritten_fits c.in_ok-elf.field-0.elf c.in_ok-elf.field-0.graph.graph c.settle_slotted.new.graph.graph c.in_ok-savings.savings (subst (λ file. FitsFile file c.in_ok-elf.field-0.graph.graph) (sym c.in_ok-elf.ensures.read) c.in_ok-elf.ensures.fits) c.in_ok-savings.ensures.rewritten

pub packed_of-requires-clause-words : goal.packed_of-requires-clause-words
packed_of-requires-clause-words c =
    let fits = (subst (λ file. FitsFile file c.in_ok-elf.field-0.graph.graph) (sym c.in_ok-elf.ensures.read) c.in_ok-elf.ensures.fits) in
    omega (arith, fits.words, c.words_of-reached.ensures)

pub packed_of-requires-clause-short : goal.packed_of-requires-clause-short
packed_of-requires-clause-short c = few_bytes c.in_ok-elf.field-0.elf (subst (λ file. IsLiftedFile file c.in_ok-elf.field-0.graph.graph) (sym c.in_ok-elf.ensures.read) c.in_ok-elf.ensures.lifted).lifted.accepted.read.file

pub packed_of-requires-clause-loads : goal.packed_of-requires-clause-loads
packed_of-requires-clause-loads c =
    enough_loaded c.in_ok-elf.field-0.elf c.in_ok-elf.field-0.graph.graph c.settle_slotted.new.graph.graph c.in_ok-savings.savings
    (subst (AllByRecursion (λ b. b < 256)) (sym c.in_ok-elf.ensures.read) c.bytes_fit.ensures)
    (subst (λ file. IsLiftedFile file c.in_ok-elf.field-0.graph.graph) (sym c.in_ok-elf.ensures.read) c.in_ok-elf.ensures.lifted) (subst (λ file. FitsFile file c.in_ok-elf.field-0.graph.graph) (sym c.in_ok-elf.ensures.read) c.in_ok-elf.ensures.fits) c.in_ok-savings.ensures.rewritten c.in_ok-file.ensures.rules

pub returns-clause-packed : goal.returns-clause-packed
returns-clause-packed c =
    let P : List ℕ → Type 0 = λ bytes. Packs bytes c.packed_of.result in
    subst P c.in_ok-elf.ensures.read
    (packs c.in_ok-elf.field-0.elf c.in_ok-elf.field-0.graph.graph c.settle_slotted.new.graph.graph c.in_ok-savings.savings
    (subst (AllByRecursion (λ b. b < 256)) (sym c.in_ok-elf.ensures.read) c.bytes_fit.ensures)
    (subst (λ file. IsLiftedFile file c.in_ok-elf.field-0.graph.graph) (sym c.in_ok-elf.ensures.read) c.in_ok-elf.ensures.lifted) (subst (λ file. FitsFile file c.in_ok-elf.field-0.graph.graph) (sym c.in_ok-elf.ensures.read) c.in_ok-elf.ensures.fits) c.in_ok-savings.ensures.rewritten c.in_ok-file.ensures.rules
    c.in_ok-savings.ensures.left c.in_ok-savings.ensures.slotted c.in_ok-elf.ensures.slotted c.packed_of.result
    (c.packed_of.ensures.output ∙ c.in_ok-file.ensures.file) c.packed_of.ensures.text_before c.packed_of.ensures.text_after c.packed_of.ensures.loaded_before c.packed_of.ensures.loaded_after c.packed_of.ensures.procedures
    (subst (λ n. 4 * (c.packed_of.result.unreached + n) ≡ text_size c.in_ok-elf.field-0.elf) c.words_of-reached.ensures c.packed_of.ensures.unreached)
    c.packed_of.ensures.savings c.packed_of.ensures.balance)

pub returns-clause-good : goal.returns-clause-good
returns-clause-good c = (returns-clause-packed c).good

pub returns-clause-settled : goal.returns-clause-settled
returns-clause-settled c = (returns-clause-packed c).good.made.settled

pub returns-clause-again : goal.returns-clause-again
returns-clause-again c = (returns-clause-packed c).good.again

pub returns-clause-exact : goal.returns-clause-exact
returns-clause-exact c = λ refusal refused. absurd (not_refused c.args.bytes.now (returns-clause-packed c).good.made.accepted refusal refused)
