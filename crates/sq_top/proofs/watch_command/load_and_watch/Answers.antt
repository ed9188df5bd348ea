-- what was loaded is what the files held, and each part of the watch says the rest
use Rattle.std.proofs.Common.{Err, ℕ, ◌≤◌, List, length, sym, ap, subst, ◌∙◌}
use Rattle.sq_command.specs.Commands.{request_of}
use Rattle.law_program.specs.FilePrograms.IsRefusalOf.{by_file}
use Rattle.sq_top.specs.Denials.{denied_ending, watch_fault_ending}
use Rattle.sq_top.specs.Running.{longest_input}
use Rattle.sq_top.proofs.EarlyEndings.{by_residual, file_unwatched, file_denied}
use Rattle.sq_top.proofs.Watched.{bad_watch, has_watched, unstarted}
use Rattle.sq_top.proofs.watch_command.load_and_watch.Goals as goal

pub returns-in_err-bytes-clause-fails : goal.returns-in_err-bytes-clause-fails
returns-in_err-bytes-clause-fails g c =
    by_residual c.from_residual.result c.in_err-bytes.field-0.0 _ c.from_residual.ensures.1
    (file_unwatched (request_of c.args.words.now c.args.asked.now) c.in_err-bytes.field-0.0 _ _ c.in_err-bytes.ensures.fails)

pub returns-in_err-elf-clause-fails : goal.returns-in_err-elf-clause-fails
returns-in_err-elf-clause-fails g c =
    by_residual c.from_residual-in_err-elf.result (denied_ending c.in_err-elf.field-0.0) _ c.from_residual-in_err-elf.ensures.1
    (file_denied (request_of c.args.words.now c.args.asked.now) c.in_err-elf.field-0.0 _ _ c.as_slice.result.now (λ files told. c.as_slice.ensures.value ∙ c.in_ok-bytes.ensures.told files told)
    (λ refusal is. by_file (c.in_err-elf.ensures.refused refusal (ap Err is))))

pub returns-in_err-watch_text-clause-fails : goal.returns-in_err-watch_text-clause-fails
returns-in_err-watch_text-clause-fails g c =
    by_residual c.from_residual-in_err-watch_text.result (watch_fault_ending c.in_err-watch_text.field-0.0) _ c.from_residual-in_err-watch_text.ensures.1
    (unstarted (request_of c.args.words.now c.args.asked.now) c.in_err-watch_text.field-0.0 _ _
    (λ is files told.
    bad_watch (request_of c.args.words.now c.args.asked.now) c.in_ok-elf.elf c.as_slice-2.result.now c.from.result files
    (c.in_ok-elf.ensures.read ∙ c.as_slice.ensures.value ∙ c.in_ok-bytes.ensures.told files told)
    (c.as_slice-2.ensures.value ∙ c.in_ok-input.ensures.told files (c.in_ok-bytes.ensures.files ∙ told))
    c.from.ensures c.in_ok-relocs.ensures.fit c.in_ok-relocs.ensures.accepted
    (subst (λ (y : List ℕ). length y ≤ longest_input) (sym c.as_slice-2.ensures.value) c.in_ok-input.ensures.within)
    (c.in_err-watch_text.ensures.bad (ap Err is))))

pub returns-clause-watches : goal.returns-clause-watches
returns-clause-watches g c = λ files told.
    has_watched (request_of c.args.words.now c.args.asked.now) c.in_ok-elf.elf c.as_slice-2.result.now c.from.result files
    (c.in_ok-elf.ensures.read ∙ c.as_slice.ensures.value ∙ c.in_ok-bytes.ensures.told files told)
    (c.as_slice-2.ensures.value ∙ c.in_ok-input.ensures.told files (c.in_ok-bytes.ensures.files ∙ told))
    c.from.ensures c.in_ok-relocs.ensures.fit c.in_ok-relocs.ensures.accepted
    (subst (λ (y : List ℕ). length y ≤ longest_input) (sym c.as_slice-2.ensures.value) c.in_ok-input.ensures.within)
    c.in_ok-watch_text.field-0.outcome c.in_ok-watch_text.field-0.text
    c.in_ok-watch_text.ensures.valid c.in_ok-watch_text.ensures.outcome c.in_ok-watch_text.ensures.text
