-- A function as contracts see it.
use Rattle.sq_names.specs.declared.names.Function.{Function}
use Rattle.sq_names.specs.Functions.{NamedFunction}

-- the function, with the bytes of its name
abbrev pub seen : Function → NamedFunction
seen function = record { value = function.value; name = function.name.now }
