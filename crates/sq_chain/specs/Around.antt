-- Branches around an address: those that reach or are widened, and those too far from it to be touched.
use Rattle.std.specs.Prelude.{◌≡◌, ◌⊎◌, ℕ, ◌+◌, ◌*◌, ◌≤◌, ◌<◌, true, false, List, length, Option, None, Some}
use Rattle.sq_arena.specs.Entries.{ContainsKey, before}
use Rattle.sq_graph.specs.Graph.{Graph}
use Rattle.sq_graph.specs.Blocks.{named, HasBlock, items_of}
use Rattle.sq_graph.specs.Words.{block_words}
use Rattle.sq_chain.specs.Least.{stands_at}
use Rattle.sq_chain.specs.Places.{placed_at}
use Rattle.sq_chain.specs.Settled.{is_missed}
use Rattle.sq_chain.specs.Widening.{EndsInBranch}
use Rattle.sq_chain.specs.declared.around.Spans.{Spans}
use Rattle.sq_chain.specs.declared.seams.Seams.{Seams}
use Rattle.sq_chain.specs.declared.shift.Shift.{Shift}
use Rattle.sq_chain.specs.declared.shift.Wide.{Wide}

-- the Branch behind the items of the block is further ahead of this address than it reaches, or the block is behind it
abbrev pub IsFar : Graph → ℕ → ℕ → Type 0
IsFar g seam block =
    (stands_at block_words g block + 4 * length (items_of g block) + 4096 < seam)
    ⊎ (seam + 4096 < stands_at block_words g block)

-- each Branch is far from this address
abbrev pub IsClear : Graph → ℕ → Type 0
IsClear g seam = (n : ℕ) → EndsInBranch g n → IsFar g seam n

-- so many words are before some block, no more than these, or none are
abbrev pub IsStart : List ℕ → ℕ → ℕ → Type 0
IsStart addresses words start = (start ≡ 0) ⊎ ((start ≤ words) × ((n : ℕ) × (placed_at addresses n ≡ Some (4 * start))))

-- each Branch of a slot before this block is further ahead of this address than it reaches
abbrev pub AreFarBefore : Graph → ℕ → ℕ → Type 0
AreFarBefore g seam block =
    (n : ℕ) → EndsInBranch g n → ContainsKey (before (named g.blocks) block) n → stands_at block_words g n + 4 * length (items_of g n) + 4096 < seam

-- each Branch reaches or is widened, or is far from this address
abbrev pub IsSeenAround : Graph → Shift → Wide → ℕ → Type 0
IsSeenAround g shift wide seam = (n : ℕ) → EndsInBranch g n → (is_missed g shift wide n ≡ false) ⊎ IsFar g seam n

-- the same of each Branch of a slot before this block
abbrev pub AreSeenBefore : Graph → Shift → Wide → ℕ → ℕ → Type 0
AreSeenBefore g shift wide seam block =
    (n : ℕ) → EndsInBranch g n → ContainsKey (before (named g.blocks) block) n → (is_missed g shift wide n ≡ false) ⊎ IsFar g seam n

-- or from where this block stands, if there is one
abbrev pub IsSeenAt : Graph → Shift → Wide → Option ℕ → Type 0
IsSeenAt g shift wide None = Unit {0}
IsSeenAt g shift wide (Some m) = IsSeenAround g shift wide (stands_at block_words g m)

-- each Branch reaches or is widened
abbrev pub NoneMissed : Graph → Shift → Wide → Type 0
NoneMissed g shift wide = (n : ℕ) → is_missed g shift wide n ≡ false

-- Spans around seams: each has its own seam, and is within the one before where it was seen with that.
pub record AreSpans (g : Graph) (seams : Seams) (spans : Spans) : Type 0 where
  pub at_first : HasBlock g spans.first.from
  pub at_second : HasBlock g spans.second.from
  pub at_end : HasBlock g spans.end.from
  pub first : spans.first.first ≡ seams.first
  pub second : spans.second.first ≡ seams.second
  pub end : spans.end.first ≡ seams.end
  pub first_last : seams.first ≤ spans.first.last
  pub second_last : seams.second ≤ spans.second.last
  pub end_last : spans.end.last ≡ seams.end
  pub first_within : spans.first.last ≤ seams.end
  pub second_within : spans.second.last ≤ seams.end
  pub second_seen : spans.second_seen ≡ true → spans.second.last ≤ spans.first.last
  pub end_seen : spans.end_seen ≡ true → spans.end.last ≤ spans.second.last
