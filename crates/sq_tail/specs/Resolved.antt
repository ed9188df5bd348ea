-- Resolved terms as the code holds them.
use Rattle.std.specs.Prelude.{ℕ, Option}
use Rattle.std.specs.Option.{option_map}
use Rattle.sq_graph.specs.Graph.{Graph}
use Rattle.sq_graph.specs.Resolve.{ResolvedTerm, resolved_term_of}
use Rattle.sq_finger.specs.declared.keys.TermKey.{TermKey}
use Rattle.sq_finger.specs.TermKeys.{term_key_of}
use Rattle.sq_tail.specs.declared.resolved.Resolved.{Resolved}

abbrev pub meaning_of : Resolved → ResolvedTerm
meaning_of r = record { term = r.term; next = r.next }

-- the key of a resolved term
abbrev pub resolved_key : ResolvedTerm → TermKey × Option ℕ
resolved_key r = (term_key_of r.term, r.next)

-- that of a block's
abbrev pub block_key : Graph → ℕ → Option (TermKey × Option ℕ)
block_key g block = option_map resolved_key (resolved_term_of g block)
