-- What a desk in memory holds, as the outside.
use Rattle.std.specs.Prelude.{ℕ, Some}
use Rattle.std.specs.Option.{option_map}
use Rattle.std.specs.BTreeMap.{get_by_text}
use Rattle.sq_desk.specs.Outside.{Files, Outside, Place}
use Rattle.sq_desk.specs.declared.held.Held.{Held}

-- the bytes under each name
abbrev pub files_of : Held → Files
files_of desk = λ name. option_map (λ file. file.items) (get_by_text desk.files name)

-- all is told, with these faults
abbrev pub outside_of : Held → (Place → ℕ) → Outside
outside_of desk faults =
    record { files = Some (files_of desk); printed = Some desk.printed.items; complained = Some desk.complained.items; faults = faults }
