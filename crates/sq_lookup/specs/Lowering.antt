-- How many words are before blocks, where many of these come to have one less or one more before them.
use Rattle.std.specs.Prelude.{ℕ, ◌+◌, ◌-◌, ◌&&◌, nat_lt, if◌then◌else◌}

-- at least what stands under a name of no block
abbrev pub nowhere : ℕ
nowhere = 4294967295

-- how many words are before a block once the one behind the first `start` of them is gone
abbrev pub lowered_word : ℕ → ℕ → ℕ
lowered_word start words = if nat_lt words nowhere && nat_lt start words then words - 1 else words

-- how many words are before a block once there is one more behind the first `start` of them
abbrev pub raised_word : ℕ → ℕ → ℕ
raised_word start words = if nat_lt words nowhere && nat_lt start words then words + 1 else words
