-- The texts of events and of ends, a line each.
use Rattle.std.specs.Prelude.{ℕ, List, [], ◌∷◌, ◌++◌, codes, decimal, Option, Some, None}
use Rattle.std.specs.List.{flat_map}
use Rattle.hex.specs.Hex.{encode_lower}
use Rattle.sq_num.specs.Texts.{hex_text}
use Rattle.sq_system.specs.declared.event.Event.{Event}
use Rattle.sq_system.specs.declared.event.Event.TheVariants.{Wrote, Read, Brk, Failed, Asked}
use Rattle.sq_system.specs.declared.event.Halt.{Halt}
use Rattle.sq_system.specs.declared.event.Halt.TheVariants.{Exit, Illegal, Breakpoint, Fetch, Load, Store}

-- two lower case digits a byte, or `-` for none
abbrev pub bytes_text : List ℕ → List ℕ
bytes_text [] = codes "-"
bytes_text (byte ∷ bytes) = encode_lower (byte ∷ bytes)

-- the line of an event, without its newline
abbrev pub event_text : Event → List ℕ
event_text (Wrote fd bytes) = codes "write " ++ decimal fd ++ codes " " ++ bytes_text bytes
event_text (Read bytes) = codes "read " ++ bytes_text bytes
event_text (Brk answer) = codes "brk " ++ hex_text answer
event_text (Failed number code) = codes "failed " ++ decimal number ++ codes " " ++ decimal code
event_text (Asked number) = codes "asked " ++ decimal number

-- the lines of events in order
abbrev pub events_text : List Event → List ℕ
events_text events = flat_map (λ event. event_text event ++ codes "\n") events

-- the line of an end, without its newline; a run that no step ended is at its limit
abbrev pub end_text : Option Halt → List ℕ
end_text (Some (Exit status)) = codes "exit " ++ decimal status
end_text (Some Illegal) = codes "illegal"
end_text (Some Breakpoint) = codes "breakpoint"
end_text (Some (Fetch address)) = codes "fetch " ++ hex_text address
end_text (Some (Load address)) = codes "load " ++ hex_text address
end_text (Some (Store address)) = codes "store " ++ hex_text address
end_text None = codes "limit"
