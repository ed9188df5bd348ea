use Rattle.std.proofs.Common.{◌+◌, [], length}
use Rattle.sq_lift.specs.Search.{unflagged_count}
use Rattle.sq_lift.proofs.Searches.{IsSearch}
use Rattle.sq_lift.proofs.search.reached_words.Given as goal

abbrev pub invariant-loop-address : goal.invariant-loop-address
invariant-loop-address l =
    IsSearch (record { text = l.text; entry = l.entry; code_words = l.code_words; notes = [] }) l.search

-- the words that were not looked at yet
abbrev pub decreases-loop-address : goal.decreases-loop-address
decreases-loop-address l = unflagged_count l.search.reached + length l.search.waiting
