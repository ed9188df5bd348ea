-- Keys of terms.
use Rattle.sq_isa.specs.Encoding.{condition_code}
use Rattle.sq_graph.specs.declared.item.Term.{Term}
use Rattle.sq_graph.specs.declared.item.Term.TheVariants.{Fall, Jump, Branch, Call, PartJump, Indirect, Stop}
use Rattle.sq_finger.specs.declared.keys.TermKey.{TermKey}
use Rattle.sq_finger.specs.declared.keys.TermKey.TheVariants.{Fall as FallKey, Jump as JumpKey, Branch as BranchKey, Call as CallKey, PartJump as PartJumpKey, Indirect as IndirectKey, Stop as StopKey}

-- the term as it is, but for the code of its condition
abbrev pub term_key_of : Term → TermKey
term_key_of Fall = FallKey
term_key_of (Jump to) = JumpKey to
term_key_of (Branch c a b to) = BranchKey (condition_code c) a b to
term_key_of (Call link to) = CallKey link to
term_key_of (PartJump link part to) = PartJumpKey link part to
term_key_of (Indirect link at offset) = IndirectKey link at offset
term_key_of (Stop word) = StopKey word
