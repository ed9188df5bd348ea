-- How a command ends where a file is denied, a run, a watch, a text of Intel HEX, or the steps of a certificate.
use Rattle.sq_num.specs.declared.refusal.Denied.{Denied}
use Rattle.sq_num.specs.declared.refusal.Denied.TheVariants.{Refused as DeniedFile, Memory as NoMemory}
use Rattle.sq_run.specs.declared.fault.RunFault.{RunFault}
use Rattle.sq_run.specs.declared.fault.RunFault.TheVariants.{BadStart as NoStart, Memory as NoRoom}
use Rattle.sq_monitor.specs.declared.fault.WatchFault.{WatchFault}
use Rattle.sq_monitor.specs.declared.fault.WatchFault.TheVariants.{BadStart as NoWatch, Memory as NoSpace}
use Rattle.sq_hex.specs.declared.read.HexFault.{HexFault}
use Rattle.sq_hex.specs.declared.read.HexFault.TheVariants.{Line as FaultyLine, Memory as NoPlace}
use Rattle.sq_top.specs.declared.tracks.TrackFault.{TrackFault}
use Rattle.sq_top.specs.declared.tracks.TrackFault.TheVariants.{Denied as DeniedTracks, Line as FaultyStep}
use Rattle.sq_top.specs.declared.ending.Ending.{Ending}
use Rattle.sq_top.specs.declared.ending.Ending.TheVariants.{Refused, Memory, BadStart, Differs}

abbrev pub denied_ending : Denied → Ending
denied_ending (DeniedFile refusal) = Refused refusal
denied_ending NoMemory = Memory

abbrev pub fault_ending : RunFault → Ending
fault_ending NoStart = BadStart
fault_ending NoRoom = Memory

abbrev pub watch_fault_ending : WatchFault → Ending
watch_fault_ending NoWatch = BadStart
watch_fault_ending NoSpace = Memory

abbrev pub memory_ending : Ending
memory_ending = Memory

abbrev pub hex_fault_ending : HexFault → Ending
hex_fault_ending (FaultyLine line) = Differs line
hex_fault_ending NoPlace = Memory

-- why there are no tracks of a file that is denied
abbrev pub denied_fault : Denied → TrackFault
denied_fault denied = DeniedTracks denied

abbrev pub memory_fault : TrackFault
memory_fault = DeniedTracks NoMemory

abbrev pub track_fault_ending : TrackFault → Ending
track_fault_ending (DeniedTracks denied) = denied_ending denied
track_fault_ending (FaultyStep line) = Differs line
