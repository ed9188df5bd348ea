-- What the host's desk has of the outside: it tells nothing, and has one count of faults for all places.
use Rattle.std.specs.Prelude.{None}
use Rattle.sq_desk.specs.Outside.{Outside}
use Rattle.squeeze.specs.declared.host_desk.HostDesk.{HostDesk}

abbrev pub host_outside : HostDesk → Outside
host_outside desk = record { files = None; printed = None; complained = None; faults = λ _. desk.faults }
