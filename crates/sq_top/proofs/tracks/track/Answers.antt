-- the file is the one that was read, and nothing of it is refused
use Rattle.std.proofs.Common.{◌≡◌, ℕ, List, inl, inr, Err, IfOk, sym, ap, ◌∙◌, subst}
use Rattle.std.proofs.lemmas.Result.{err_from_is_err_and}
use Rattle.sq_num.specs.declared.refusal.Denied.TheVariants.{Refused, Memory}
use Rattle.sq_names.specs.declared.track.Track.{Track}
use Rattle.sq_lifted.specs.LiftedFiles.{IsLiftedFile, FitsFile}
use Rattle.sq_lifted.proofs.Accepting.{not_refused}
use Rattle.sq_top.specs.declared.tracks.TrackFault.TheVariants.{Denied}
use Rattle.sq_top.specs.Tracks.{AreTracksOf, AgreeWithOutputs, FailsToTrack}
use Rattle.sq_top.proofs.LighterFile.{lifted_is_accepted}
use Rattle.sq_top.proofs.tracks.track.Goals as goal

pub returns-in_err-elf-clause-refused : goal.returns-in_err-elf-clause-refused
returns-in_err-elf-clause-refused c = λ refusal is.
    let p = err_from_is_err_and c.from_residual.result c.from_residual.ensures.1 in
    let same : c.in_err-elf.field-0.0 ≡ Refused refusal = cc (p.1, p.2, is) in
    c.in_err-elf.ensures.refused refusal (ap Err same)

pub returns-in_err-elf-clause-exact : goal.returns-in_err-elf-clause-exact
returns-in_err-elf-clause-exact c = λ refusal refused.
    let p = err_from_is_err_and c.from_residual.result c.from_residual.ensures.1 in
    let result : c.from_residual.result ≡ Err (Denied c.in_err-elf.field-0.0) = cc (p.1, p.2) in
    elim (c.in_err-elf.ensures.exact refusal refused) [
      | inl same ↦ let is : c.in_err-elf.field-0.0 ≡ Refused refusal = cc in inl (result ∙ ap (λ d. Err (Denied d)) is)
      | inr same ↦ let is : c.in_err-elf.field-0.0 ≡ Memory = cc in inr (result ∙ ap (λ d. Err (Denied d)) is)
    ]

pub track_file-requires-clause-lifted : goal.track_file-requires-clause-lifted
track_file-requires-clause-lifted c = subst (λ file. IsLiftedFile file c.in_ok-elf.field-0.graph.graph) (sym c.in_ok-elf.ensures.read) c.in_ok-elf.ensures.lifted

pub track_file-requires-clause-fits : goal.track_file-requires-clause-fits
track_file-requires-clause-fits c = subst (λ file. FitsFile file c.in_ok-elf.field-0.graph.graph) (sym c.in_ok-elf.ensures.read) c.in_ok-elf.ensures.fits

pub returns-clause-tracked : goal.returns-clause-tracked
returns-clause-tracked c = subst (λ (file : List ℕ). IfOk c.track_file.result (λ tracks. AreTracksOf file c.args.cert.now tracks)) c.in_ok-elf.ensures.read c.track_file.ensures.tracked

pub returns-clause-line : goal.returns-clause-line
returns-clause-line c = λ line is. subst (λ file. FailsToTrack file c.args.cert.now line) c.in_ok-elf.ensures.read (c.track_file.ensures.line line is)

pub returns-clause-only : goal.returns-clause-only
returns-clause-only c = λ line is. subst (λ file. (tracks : List Track) → ¬ AreTracksOf file c.args.cert.now tracks) c.in_ok-elf.ensures.read (c.track_file.ensures.only line is)

pub returns-clause-refused : goal.returns-clause-refused
returns-clause-refused c = λ refusal is. let never : Refused refusal ≡ Memory = c.track_file.ensures.memory (Refused refusal) is in absurd (cc never)

pub returns-clause-exact : goal.returns-clause-exact
returns-clause-exact c = λ refusal refused.
    absurd (not_refused c.args.input.now (lifted_is_accepted c.args.input.now c.in_ok-elf.field-0.graph.graph c.in_ok-elf.ensures.lifted) refusal refused)

pub returns-clause-one : goal.returns-clause-one
returns-clause-one c = subst (λ (file : List ℕ). IfOk c.track_file.result (λ tracks. (others : List Track) → AreTracksOf file c.args.cert.now others → others ≡ tracks)) c.in_ok-elf.ensures.read c.track_file.ensures.one

pub returns-clause-agree : goal.returns-clause-agree
returns-clause-agree c = subst (λ (file : List ℕ). IfOk c.track_file.result (λ tracks. AgreeWithOutputs file c.args.cert.now tracks)) c.in_ok-elf.ensures.read c.track_file.ensures.agree
