-- Where blocks stand, in parts that are pieces of the text.
use Rattle.std.specs.Prelude.{◌≡◌, ◌≢◌, ℕ, ◌+◌, ◌*◌, ◌/◌, ◌<◌, ◌≤◌, List, length, get_or, slice_index_or}
use Rattle.sq_lookup.specs.declared.places.Place.{Place}
use Rattle.sq_lookup.specs.declared.places.Part.{Part}
use Rattle.sq_lookup.specs.declared.text.Text.{Text}
use Rattle.sq_lookup.specs.Lowering.{nowhere}
use Rattle.sq_lookup.specs.Shifting.{shifted_word, IsBetween}

abbrev pub no_place : Place
no_place = record { slot = 0; part = 0; words = nowhere }

abbrev pub no_part : Part
no_part = record { start = 0; end = 0; shift = 0; bounds = record { least = nowhere; most = 0 } }

abbrev pub place_at : List Place → ℕ → Place
place_at places n = slice_index_or places n no_place

abbrev pub part_at : List Part → ℕ → Part
part_at parts p = slice_index_or parts p no_part

-- how many words are before the block of this place
abbrev pub word_in : List Part → Place → ℕ
word_in parts place = shifted_word (part_at parts place.part).shift place.words

-- how many words are before the block of this name
abbrev pub word_at : Text → ℕ → ℕ
word_at text n = word_in text.parts.items (place_at text.places.items n)

-- the name is of the part, and it is listed where its place says, between these slots
pub record IsIn (order : List ℕ) (number low high n : ℕ) (place : Place) : Type 0 where
  pub part : place.part ≡ number
  pub from : low ≤ place.slot
  pub before : place.slot < high
  pub slot : place.slot < length order
  pub listed : get_or order place.slot 0 ≡ n

-- a place of which what stands there is rewritten, in another part
abbrev pub moved_place : (ℕ → ℕ) → ℕ → Place → Place
moved_place f to place = record { slot = place.slot; part = to; words = f place.words }

-- the blocks of the part between these slots are moved to the other part, and no others
pub record AreMoved (f : ℕ → ℕ) (number to low high : ℕ) (order : List ℕ) (old new : List Place) : Type 0 where
  pub count : length new ≡ length old
  pub slot : (n : ℕ) → (place_at new n).slot ≡ (place_at old n).slot
  pub other : (n : ℕ) → (place_at old n).part ≢ number → place_at new n ≡ place_at old n
  pub below : (n : ℕ) → (place_at old n).slot < low → place_at new n ≡ place_at old n
  pub inside : (n : ℕ) → n < length old → IsIn order number low high n (place_at old n) → place_at new n ≡ moved_place f to (place_at old n)

-- the place is of a part, where the name is listed, and between the bounds of the part
pub record IsPlaced (parts : List Part) (order : List ℕ) (n : ℕ) (place : Place) : Type 0 where
  pub part : place.part < length parts
  pub inside : IsIn order place.part (part_at parts place.part).start (part_at parts place.part).end n place
  pub between : place.words < nowhere → IsBetween (part_at parts place.part).bounds (word_in parts place)

-- so is each, and the parts are few enough for their numbers
pub record IsKept (text : Text) : Type 0 where
  pub few : length text.parts.items < 4294967296
  pub each : (n : ℕ) → n < length text.places.items → IsPlaced text.parts.items text.order.items n (place_at text.places.items n)

-- what stands under each name of the second text is what this makes of what stands there in the first
pub record IsChanged (f : ℕ → ℕ) (old new : Text) : Type 0 where
  pub count : length new.places.items ≡ length old.places.items
  pub words : (n : ℕ) → n < length old.places.items → word_at new n ≡ f (word_at old n)

-- so it is of the names of this part, which are the same
pub record IsChangedIn (number : ℕ) (f : ℕ → ℕ) (old new : Text) : Type 0 where
  pub count : length new.places.items ≡ length old.places.items
  pub parts : length new.parts.items ≡ length old.parts.items
  pub part : (n : ℕ) → n < length old.places.items → (place_at new.places.items n).part ≡ (place_at old.places.items n).part
  pub words : (n : ℕ) → n < length old.places.items → (place_at old.places.items n).part ≡ number → word_at new n ≡ f (word_at old n)
  pub other : (n : ℕ) → n < length old.places.items → (place_at old.places.items n).part ≢ number → word_at new n ≡ word_at old n

-- so many words are put before the block of this name, and nothing else changes
pub record IsPut (name words : ℕ) (old new : Text) : Type 0 where
  pub count : length new.places.items ≡ length old.places.items
  pub put : word_at new name ≡ words
  pub other : (n : ℕ) → n < length old.places.items → n ≢ name → word_at new n ≡ word_at old n

-- the part of no blocks that has the slots of this row of 256
abbrev pub row_of : ℕ → Part
row_of p = record { start = p * 256; end = p * 256 + 256; shift = 0; bounds = record { least = nowhere; most = 0 } }

-- the place of a name of no block in its row
abbrev pub place_of : ℕ → Place
place_of n = record { slot = n; part = n / 256; words = nowhere }
