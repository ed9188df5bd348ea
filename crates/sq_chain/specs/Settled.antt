-- Where the blocks stand once a chain has moved, each Jump to the next slot is Fall, and a few Branches take a word more: all by
-- where they stand before.
use Rattle.std.specs.Prelude.{◌≡◌, ℕ, ◌+◌, ◌-◌, ◌*◌, ◌≤◌, ◌<◌, ◌^◌, nat_lt, Bool, true, false, ◌||◌, ◌&&◌, not, if◌then◌else◌, Option, None, Some}
use Rattle.sq_graph.specs.Graph.{Graph}
use Rattle.sq_graph.specs.Blocks.{HasBlock, term_of}
use Rattle.sq_graph.specs.Rules.{IsGraph}
use Rattle.sq_graph.specs.Words.{block_words, words_of}
use Rattle.sq_chain.specs.Bare.{is_it}
use Rattle.sq_chain.specs.Least.{stands_at, is_short, falls_short, least}
use Rattle.sq_chain.specs.Shifts.{exchanged_to}
use Rattle.sq_chain.specs.Widening.{EndsInBranch}
use Rattle.sq_chain.specs.declared.seams.Seams.{Seams}
use Rattle.sq_chain.specs.declared.shift.Shift.{Shift}
use Rattle.sq_chain.specs.declared.shift.Wide.{Wide}
use Rattle.sq_chain.specs.declared.outlook.Outlook.{Outlook}
use Rattle.sq_chain.specs.declared.outlook.Outlook.TheVariants.{Near, Wide as Few, Still, Unsure}

-- where what stands at an address stands once two pieces are exchanged and words are lost at the seams
abbrev pub settled_to : Shift → ℕ → ℕ
settled_to shift at =
    if nat_lt at shift.seams.first then at
    else if nat_lt at shift.seams.second then at + (shift.seams.end - shift.seams.second) - shift.second_lost
    else if nat_lt at shift.seams.end then at - (shift.seams.second - shift.seams.first) - shift.first_lost
    else at - shift.lost

-- the same with nothing cut off
pub record IsSettledTo (shift : Shift) (at to : ℕ) : Type 0 where
  pub before : at < shift.seams.first → to ≡ at
  pub first : shift.seams.first ≤ at → at < shift.seams.second → to + shift.seams.second + shift.second_lost ≡ at + shift.seams.end
  pub second : shift.seams.second ≤ at → at < shift.seams.end → to + shift.seams.second + shift.first_lost ≡ at + shift.seams.first
  pub behind : shift.seams.end ≤ at → to + shift.lost ≡ at

-- Branches that are widened

abbrev pub is_wide : Wide → ℕ → Bool
is_wide wide n = is_it wide.one n || is_it wide.other n

abbrev pub one_if : Option ℕ → ℕ
one_if None = 0
one_if (Some n) = 1

-- how many they are
abbrev pub wide_size : Wide → ℕ
wide_size wide = one_if wide.one + one_if wide.other

-- these and one more, which takes the place of the other one where there are two
abbrev pub with_one : Option ℕ → ℕ → Wide
with_one None n = record { one = Some n; other = None }
with_one (Some m) n = record { one = Some m; other = Some n }

abbrev pub wide_with : Wide → ℕ → Wide
wide_with wide n = with_one wide.one n

-- they are Branches, and not the same one twice
pub record AreWide (g : Graph) (wide : Wide) : Type 0 where
  pub branches : (n : ℕ) → is_wide wide n ≡ true → EndsInBranch g n
  pub apart : (n : ℕ) → is_it wide.one n ≡ true → is_it wide.other n ≡ false

-- 1 where the one block is before the other once the pieces are exchanged
abbrev pub word_ahead : (ℕ → ℕ) → Seams → Option ℕ → ℕ → ℕ
word_ahead stands seams None n = 0
word_ahead stands seams (Some m) n = if nat_lt (exchanged_to seams (stands m)) (exchanged_to seams (stands n)) then 1 else 0

-- where a block stands then, by where they all stand before
abbrev pub swollen_to : (ℕ → ℕ) → Shift → Wide → ℕ → ℕ
swollen_to stands shift wide n =
    settled_to shift (stands n) + 4 * (word_ahead stands shift.seams wide.one n + word_ahead stands shift.seams wide.other n)

-- whether the block ends in a Branch that doesn't reach then
abbrev pub is_short_by : Graph → Shift → Wide → ℕ → Bool
is_short_by g shift wide n = is_short (swollen_to (stands_at block_words g) shift wide) g n (term_of g n)

-- and isn't widened
abbrev pub is_missed : Graph → Shift → Wide → ℕ → Bool
is_missed g shift wide n = not (is_wide wide n) && is_short_by g shift wide n

-- the other graph is this one once the chain has moved and each Jump to the next slot is Fall
pub record IsSettled (g h : Graph) (shift : Shift) : Type 0 where
  pub first : shift.seams.first ≤ shift.seams.second
  pub second : shift.seams.second ≤ shift.seams.end
  pub few : shift.seams.end < 2 ^ 34
  pub falls : words_of h + shift.falls ≡ words_of g
  pub few_fall : shift.falls ≤ 3
  pub rules : IsGraph h
  pub branches : (n : ℕ) → EndsInBranch g n → EndsInBranch h n
  pub stands : (n : ℕ) → HasBlock g n → IsSettledTo shift (stands_at block_words g n) (stands_at block_words h n)
  pub short : (wide : Wide) → AreWide g wide → (n : ℕ) → falls_short h (is_wide wide) n ≡ is_short_by g shift wide n

-- these are the Branches of the least set, fewer than words are saved
pub record IsLeastWide (g h : Graph) (wide : Wide) : Type 0 where
  pub same : (n : ℕ) → is_wide wide n ≡ least h n
  pub are : AreWide h wide
  pub fewer : words_of h + wide_size wide < words_of g

abbrev pub none_wide : Wide
none_wide = record { one = None; other = None }

-- what comes to this is made at its seams where these Branches are widened, and no others
abbrev pub Widens : Outlook → Wide → Type 0
Widens Near wide = wide ≡ none_wide
Widens (Few few) wide = wide ≡ few
Widens Still wide = ⊥
Widens Unsure wide = ⊥
