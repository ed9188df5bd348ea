-- Where a term goes.
use Rattle.std.specs.Prelude.{Bool, true, false, not, ◌==◌}
use Rattle.sq_graph.specs.declared.item.Term.{Term}
use Rattle.sq_graph.specs.declared.item.Term.TheVariants.{Fall, Jump, Branch, Call, PartJump, Indirect, Stop}

-- whether a term writes a link to the next slot: a Call always does, since its link is never x0
abbrev pub links : Term → Bool
links Fall = false
links (Jump to) = false
links (Branch c a b to) = false
links (Call link to) = not (link == 0)
links (PartJump link part to) = not (link == 0)
links (Indirect link at offset) = not (link == 0)
links (Stop word) = false

-- Whether a term goes on to its next slot: at once, or when what it calls returns.
abbrev pub goes_on : Term → Bool
goes_on Fall = true
goes_on (Jump to) = false
goes_on (Branch c a b to) = true
goes_on (Call link to) = true
goes_on (PartJump link part to) = not (link == 0)
goes_on (Indirect link at offset) = not (link == 0)
goes_on (Stop word) = false
