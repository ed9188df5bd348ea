-- what is written of the settled and folded graph is a folding
use Rattle.std.proofs.Common.{◌<◌, ℕ, List, sym, ◌∙◌, subst}
use Rattle.std.specs.List.{AllByRecursion}
use Rattle.sq_lifted.specs.LiftedFiles.{IsLiftedFile, FitsFile}
use Rattle.sq_lifted.proofs.Accepting.{not_refused}
use Rattle.sq_top.specs.Folding.{Folds}
use Rattle.sq_top.proofs.LighterFile.{small_text}
use Rattle.sq_top.proofs.PackedFile.{few_bytes}
use Rattle.sq_top.proofs.FoldedOutput.{less_fits, less_loaded, folds}
use Rattle.sq_top.proofs.folding.fold_bytes.Goals as goal

pub settle_and_fold-requires-clause-words : goal.settle_and_fold-requires-clause-words
settle_and_fold-requires-clause-words c = small_text c.in_ok-elf.field-0.elf c.in_ok-elf.field-0.graph.graph (subst (λ file. IsLiftedFile file c.in_ok-elf.field-0.graph.graph) (sym c.in_ok-elf.ensures.read) c.in_ok-elf.ensures.lifted).lifted.accepted.read.file (subst (λ file. FitsFile file c.in_ok-elf.field-0.graph.graph) (sym c.in_ok-elf.ensures.read) c.in_ok-elf.ensures.fits)

pub write_graph-requires-clause-fits : goal.write_graph-requires-clause-fits
write_graph-requires-clause-fits c = less_fits c.in_ok-elf.field-0.elf c.in_ok-elf.field-0.graph.graph c.settle_and_fold.new.graph.graph (subst (λ file. FitsFile file c.in_ok-elf.field-0.graph.graph) (sym c.in_ok-elf.ensures.read) c.in_ok-elf.ensures.fits) c.in_ok-settle_and_fold.ensures.less

pub folded_of-requires-clause-words : goal.folded_of-requires-clause-words
folded_of-requires-clause-words c = (less_fits c.in_ok-elf.field-0.elf c.in_ok-elf.field-0.graph.graph c.settle_and_fold.new.graph.graph (subst (λ file. FitsFile file c.in_ok-elf.field-0.graph.graph) (sym c.in_ok-elf.ensures.read) c.in_ok-elf.ensures.fits) c.in_ok-settle_and_fold.ensures.less).words

pub folded_of-requires-clause-short : goal.folded_of-requires-clause-short
folded_of-requires-clause-short c = few_bytes c.in_ok-elf.field-0.elf (subst (λ file. IsLiftedFile file c.in_ok-elf.field-0.graph.graph) (sym c.in_ok-elf.ensures.read) c.in_ok-elf.ensures.lifted).lifted.accepted.read.file

pub folded_of-requires-clause-loads : goal.folded_of-requires-clause-loads
folded_of-requires-clause-loads c =
    less_loaded c.in_ok-elf.field-0.elf c.in_ok-elf.field-0.graph.graph c.settle_and_fold.new.graph.graph
    (subst (AllByRecursion (λ b. b < 256)) (sym c.in_ok-elf.ensures.read) c.bytes_fit.ensures)
    (subst (λ file. IsLiftedFile file c.in_ok-elf.field-0.graph.graph) (sym c.in_ok-elf.ensures.read) c.in_ok-elf.ensures.lifted) (subst (λ file. FitsFile file c.in_ok-elf.field-0.graph.graph) (sym c.in_ok-elf.ensures.read) c.in_ok-elf.ensures.fits) c.in_ok-settle_and_fold.ensures.less c.in_ok-file.ensures.rules

pub returns-clause-folded : goal.returns-clause-folded
returns-clause-folded c =
    let P : List ℕ → Type 0 = λ bytes. Folds bytes c.folded_of.result in
    subst P c.in_ok-elf.ensures.read
    (folds c.in_ok-elf.field-0.elf c.in_ok-elf.field-0.graph.graph c.settle_and_fold.new.graph.graph
    (subst (AllByRecursion (λ b. b < 256)) (sym c.in_ok-elf.ensures.read) c.bytes_fit.ensures)
    (subst (λ file. IsLiftedFile file c.in_ok-elf.field-0.graph.graph) (sym c.in_ok-elf.ensures.read) c.in_ok-elf.ensures.lifted) (subst (λ file. FitsFile file c.in_ok-elf.field-0.graph.graph) (sym c.in_ok-elf.ensures.read) c.in_ok-elf.ensures.fits) c.in_ok-settle_and_fold.ensures.less c.in_ok-file.ensures.rules
    c.in_ok-settle_and_fold.ensures.left c.in_ok-settle_and_fold.ensures.slotted c.in_ok-settle_and_fold.ensures.folded c.folded_of.result
    (c.folded_of.ensures.output ∙ c.in_ok-file.ensures.file) c.folded_of.ensures.text_before c.folded_of.ensures.text_after c.folded_of.ensures.loaded_before c.folded_of.ensures.loaded_after)

pub returns-clause-exact : goal.returns-clause-exact
returns-clause-exact c = λ refusal refused. absurd (not_refused c.args.bytes.now (returns-clause-folded c).good.made.accepted refusal refused)
