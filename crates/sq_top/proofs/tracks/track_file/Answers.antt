-- the functions begin where the file's graph says, and its steps carry them on
use Rattle.std.proofs.Common.{◌≡◌, ◌<◌, map, Ok, ap, ◌∙◌, subst}
use Rattle.std.specs.List.{AllByRecursion}
use Rattle.sq_elf.specs.declared.text.Text.{Text}
use Rattle.sq_layout.specs.Addresses.{ArePlaces}
use Rattle.sq_drive.specs.Tracking.{carried}
use Rattle.sq_top.specs.Tracks.{FailsToTrack}
use Rattle.sq_top.proofs.LighterFile.{small_text}
use Rattle.sq_top.proofs.TrackedFile.{never_early, track_fails, tracks_not, few_after, tracks_found, tracks_one, tracks_agree}
use Rattle.sq_top.proofs.tracks.track_file.Goals as goal

pub starts-requires-clause-accepted : goal.starts-requires-clause-accepted
starts-requires-clause-accepted c = never_early c.args.elf.now c.args.graph.now.graph c.requires.lifted

pub track_graph-requires-clause-words : goal.track_graph-requires-clause-words
track_graph-requires-clause-words c = small_text c.args.elf.now c.args.graph.now.graph c.requires.lifted.lifted.accepted.read.file c.requires.fits

pub track_graph-requires-clause-canonical : goal.track_graph-requires-clause-canonical
track_graph-requires-clause-canonical c = c.requires.fits.canonical

pub returns-in-Some-clause-line : goal.returns-in-Some-clause-line
returns-in-Some-clause-line c = λ line e.
    let is : c.in-Some.line ≡ line = cc e in
    subst (FailsToTrack c.args.elf.now c.args.cert.now) is (track_fails c.args.elf.now c.args.cert.now c.args.graph.now.graph c.requires.lifted c.requires.slotted c.in-Some.line (c.in_ok-line.ensures.fault c.in-Some.line (ap Ok c.in-Some.is)))

pub returns-in-Some-clause-only : goal.returns-in-Some-clause-only
returns-in-Some-clause-only c = λ line e tracks.
    tracks_not c.args.elf.now c.args.cert.now c.args.graph.now.graph c.requires.lifted c.requires.slotted (subst (AllByRecursion (λ b. b < 256)) c.bytes.ensures.value c.bytes_fit.ensures)
    (c.in_ok-line.ensures.only c.in-Some.line (ap Ok c.in-Some.is)) tracks

pub new-requires : goal.new-requires
new-requires c =
    few_after c.args.elf.now c.args.cert.now c.args.graph.now.graph c.track_graph.new.graph.graph c.requires.lifted c.requires.slotted c.in_ok-starts.starts (c.in_ok-starts.ensures c.requires.lifted.program c.requires.lifted.lifted.accepted.read.program)
    c.in_ok-tracks.tracks.items c.track_graph.new.tracks.items c.in_ok-names.names c.in_ok-names.ensures.value c.in_ok-tracks.ensures.tracks (c.in_ok-line.ensures.tracked (ap Ok c.in_default.is))
    c.in_ok-places.places c.in_ok-tracks-2.tracks.items (c.in_ok-tracks-2.ensures ∙ ap (map (carried _)) c.as_slice.ensures.value) c.in_ok-tracks.ensures.few

pub returns-clause-tracked : goal.returns-clause-tracked
returns-clause-tracked c =
    tracks_found c.args.elf.now c.args.cert.now c.args.graph.now.graph c.track_graph.new.graph.graph c.requires.lifted c.requires.slotted c.in_ok-starts.starts (c.in_ok-starts.ensures c.requires.lifted.program c.requires.lifted.lifted.accepted.read.program)
    c.in_ok-tracks.tracks.items c.track_graph.new.tracks.items c.in_ok-names.names c.in_ok-names.ensures.value c.in_ok-tracks.ensures.tracks (c.in_ok-line.ensures.tracked (ap Ok c.in_default.is))
    c.in_ok-places.places c.new.result (subst (λ lo. ArePlaces c.track_graph.new.graph.graph lo c.in_ok-places.places) (ap (λ (t : Text). t.lo) c.text.ensures.value) c.in_ok-places.ensures) (c.new.ensures ∙ c.in_ok-tracks-2.ensures ∙ ap (map (carried _)) c.as_slice.ensures.value)

pub returns-clause-one : goal.returns-clause-one
returns-clause-one c =
    tracks_one c.args.elf.now c.args.cert.now c.args.graph.now.graph c.track_graph.new.graph.graph c.requires.lifted c.requires.slotted c.in_ok-starts.starts (c.in_ok-starts.ensures c.requires.lifted.program c.requires.lifted.lifted.accepted.read.program)
    c.in_ok-tracks.tracks.items c.track_graph.new.tracks.items c.in_ok-names.names c.in_ok-names.ensures.value c.in_ok-tracks.ensures.tracks (c.in_ok-line.ensures.tracked (ap Ok c.in_default.is))
    c.in_ok-places.places c.new.result (subst (λ lo. ArePlaces c.track_graph.new.graph.graph lo c.in_ok-places.places) (ap (λ (t : Text). t.lo) c.text.ensures.value) c.in_ok-places.ensures) (c.new.ensures ∙ c.in_ok-tracks-2.ensures ∙ ap (map (carried _)) c.as_slice.ensures.value)
    (subst (AllByRecursion (λ b. b < 256)) c.bytes.ensures.value c.bytes_fit.ensures) (λ other g. c.in_ok-starts.ensures g.program g.lifted.accepted.read.program) (c.in_ok-line.ensures.one (ap Ok c.in_default.is))

pub returns-clause-agree : goal.returns-clause-agree
returns-clause-agree c =
    tracks_agree c.args.elf.now c.args.cert.now c.args.graph.now.graph c.track_graph.new.graph.graph c.requires.lifted c.requires.slotted c.in_ok-starts.starts (c.in_ok-starts.ensures c.requires.lifted.program c.requires.lifted.lifted.accepted.read.program)
    c.in_ok-tracks.tracks.items c.track_graph.new.tracks.items c.in_ok-names.names c.in_ok-names.ensures.value c.in_ok-tracks.ensures.tracks (c.in_ok-line.ensures.tracked (ap Ok c.in_default.is))
    c.in_ok-places.places c.new.result (subst (λ lo. ArePlaces c.track_graph.new.graph.graph lo c.in_ok-places.places) (ap (λ (t : Text). t.lo) c.text.ensures.value) c.in_ok-places.ensures) (c.new.ensures ∙ c.in_ok-tracks-2.ensures ∙ ap (map (carried _)) c.as_slice.ensures.value)
    (subst (AllByRecursion (λ b. b < 256)) c.bytes.ensures.value c.bytes_fit.ensures) c.requires.fits (c.in_ok-line.ensures.less (ap Ok c.in_default.is)) c.learn.ensures.rules (c.in_ok-line.ensures.starts (ap Ok c.in_default.is))
