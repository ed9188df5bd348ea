-- the machine's pieces are those of the file's image
use Rattle.std.proofs.Common.{◌≡◌, map, ap, ◌∙◌, Err}
use Rattle.sq_system.specs.Starts.{start_of}
use Rattle.sq_machine.specs.Starts.{seen, state_at_start}
use Rattle.sq_run.specs.FileRuns.{start_piece, pieces_of}
use Rattle.sq_run.proofs.Starting.{world_is, state_is, bad_is, bad_back}
use Rattle.sq_run.proofs.run.machine.Goals as goal

pub returns-in-Ok-clause-world : goal.returns-in-Ok-clause-world
returns-in-Ok-clause-world c =
    let same : map seen c.as_slice.result.now ≡ pieces_of c.args.file.now = ap (map seen) c.as_slice.ensures.value ∙ c.in_ok-pieces.ensures ∙ ap (map start_piece) c.in_ok-image.ensures.value in
    c.in-Ok.ensures.world ∙ world_is c.args.file.now (map seen c.as_slice.result.now) (start_of c.args.start.now) same

pub returns-in-Ok-clause-state : goal.returns-in-Ok-clause-state
returns-in-Ok-clause-state c =
    let same : map seen c.as_slice.result.now ≡ pieces_of c.args.file.now = ap (map seen) c.as_slice.ensures.value ∙ c.in_ok-pieces.ensures ∙ ap (map start_piece) c.in_ok-image.ensures.value in
    c.in-Ok.ensures.state ∙ ap (λ entry. state_at_start entry (map seen c.as_slice.result.now) (start_of c.args.start.now)) c.entry.ensures
    ∙ state_is c.args.file.now (map seen c.as_slice.result.now) (start_of c.args.start.now) same

pub returns-in-Ok-clause-valid : goal.returns-in-Ok-clause-valid
returns-in-Ok-clause-valid c = λ bad.
    let same : map seen c.as_slice.result.now ≡ pieces_of c.args.file.now = ap (map seen) c.as_slice.ensures.value ∙ c.in_ok-pieces.ensures ∙ ap (map start_piece) c.in_ok-image.ensures.value in
    absurd (cc (c.in-Ok.ensures.bad.1 (bad_back c.args.file.now (map seen c.as_slice.result.now) (start_of c.args.start.now) same bad)))

pub returns-in-Err-BadStart-clause-bad : goal.returns-in-Err-BadStart-clause-bad
returns-in-Err-BadStart-clause-bad c = λ told.
    let same : map seen c.as_slice.result.now ≡ pieces_of c.args.file.now = ap (map seen) c.as_slice.ensures.value ∙ c.in_ok-pieces.ensures ∙ ap (map start_piece) c.in_ok-image.ensures.value in
    bad_is c.args.file.now (map seen c.as_slice.result.now) (start_of c.args.start.now) same (c.in-Err-BadStart.ensures.bad.0 (ap Err c.in-Err-BadStart.field-0-is))
