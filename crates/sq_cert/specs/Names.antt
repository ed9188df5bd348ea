-- The words that name the rows of the cost rule.
use Rattle.std.specs.Prelude.{ℕ, List, Option, Some, None, if◌then◌else◌, codes}
use Rattle.std.specs.Str.{bytes_eq}
use Rattle.sq_pass.specs.declared.cut.Row.{Row}
use Rattle.sq_pass.specs.declared.cut.Row.TheVariants.{U, J1, J2, J3, C, T, O1, O2, O3, O4, W, V, L}

abbrev pub name_of : Row → List ℕ
name_of U = codes "U"
name_of J1 = codes "J1"
name_of J2 = codes "J2"
name_of J3 = codes "J3"
name_of C = codes "C"
name_of T = codes "T"
name_of O1 = codes "O1"
name_of O2 = codes "O2"
name_of O3 = codes "O3"
name_of O4 = codes "O4"
name_of W = codes "W"
name_of V = codes "V"
name_of L = codes "L"

-- the row of this name
unfoldable pub row_named : List ℕ → Option Row
row_named name =
    if bytes_eq name (codes "U") then Some U
    else if bytes_eq name (codes "J1") then Some J1
    else if bytes_eq name (codes "J2") then Some J2
    else if bytes_eq name (codes "J3") then Some J3
    else if bytes_eq name (codes "C") then Some C
    else if bytes_eq name (codes "T") then Some T
    else if bytes_eq name (codes "O1") then Some O1
    else if bytes_eq name (codes "O2") then Some O2
    else if bytes_eq name (codes "O3") then Some O3
    else if bytes_eq name (codes "O4") then Some O4
    else if bytes_eq name (codes "W") then Some W
    else if bytes_eq name (codes "V") then Some V
    else if bytes_eq name (codes "L") then Some L
    else None
