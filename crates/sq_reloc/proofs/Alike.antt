-- Entries of two tables with the same bytes and the same symbols are alike, and no test tells them apart.
use Rattle.std.proofs.Common.{◌≡◌, ℕ, ◌+◌, ◌-◌, ◌*◌, ◌/◌, ◌%◌, ◌<◌, ◌≤◌, Bool, true, ◌&&◌, nat_eq, nat_le, List, Some, refl, sym, ap, ◌∙◌, arith}
use Rattle.std.proofs.lemmas.Bool.Decides.{nat_tests}
use Rattle.std.proofs.lemmas.Bool.{and_parts}
use Rattle.sq_elf.specs.declared.section.Section.{Section}
use Rattle.sq_elf.specs.Fields.{u32_field}
use Rattle.sq_elf.specs.Reading.{section_at}
use Rattle.sq_reloc.specs.declared.entry.Entry.{Entry}
use Rattle.sq_reloc.specs.Entries.{kind_of, symbol_of, symbol_value, symbols_of, entry_at}
use Rattle.sq_reloc.specs.Repeats.{has_entries_of}

-- they differ in their place alone
pub record AreAlike (bytes : List ℕ) (a b : Entry) : Type 0 where
  pub offset : a.offset ≡ b.offset
  pub kind : a.kind ≡ b.kind
  pub symbol : a.symbol ≡ b.symbol
  pub value : a.value ≡ b.value
  pub addend : a.addend ≡ b.addend
  pub symbols : symbols_of bytes a ≡ symbols_of bytes b

-- the test gives one answer for entries that are alike
abbrev pub Respects : List ℕ → (Entry → Bool) → Type 0
Respects bytes test = (a b : Entry) → AreAlike bytes a b → test a ≡ test b

-- where the bytes and the symbols of an entry stand
module _ (bytes : List ℕ) (index number : ℕ) (table : Section) where
  abbrev at : ℕ
  at = table.offset + 12 * number

  abbrev entry : Entry
  entry = entry_at bytes index table number

  offset_at : entry.offset ≡ u32_field bytes at
  unfolding entry_at
  offset_at = refl

  kind_at : entry.kind ≡ kind_of (u32_field bytes (at + 4))
  unfolding entry_at
  kind_at = refl

  symbol_at : entry.symbol ≡ symbol_of (u32_field bytes (at + 4))
  unfolding entry_at
  symbol_at = refl

  value_at : entry.value ≡ symbol_value bytes (section_at bytes table.link) (symbol_of (u32_field bytes (at + 4)))
  unfolding entry_at
  value_at = refl

  addend_at : entry.addend ≡ u32_field bytes (at + 8)
  unfolding entry_at
  addend_at = refl

  symbols_at : section_at bytes index ≡ Some table → symbols_of bytes entry ≡ section_at bytes table.link
  unfolding entry_at
  symbols_at is = rw is refl

module _ (bytes : List ℕ) (index number : ℕ) (table : Section) (earlier place : ℕ) (other : Section) where
  pub alike : section_at bytes index ≡ Some table → section_at bytes earlier ≡ Some other → other.link ≡ table.link → other.offset + 12 * place ≡ table.offset + 12 * number
      → AreAlike bytes (entry_at bytes index table number) (entry_at bytes earlier other place)
  alike is other_is link apart = record {
    offset = offset_at bytes index number table ∙ ap (u32_field bytes) (sym apart) ∙ sym (offset_at bytes earlier place other);
    kind = kind_at bytes index number table ∙ ap (λ at. kind_of (u32_field bytes (at + 4))) (sym apart) ∙ sym (kind_at bytes earlier place other);
    symbol = symbol_at bytes index number table ∙ ap (λ at. symbol_of (u32_field bytes (at + 4))) (sym apart) ∙ sym (symbol_at bytes earlier place other);
    value =
        value_at bytes index number table ∙ ap (λ at. symbol_value bytes (section_at bytes table.link) (symbol_of (u32_field bytes (at + 4)))) (sym apart)
        ∙ ap (λ link. symbol_value bytes (section_at bytes link) (symbol_of (u32_field bytes (other.offset + 12 * place + 4)))) (sym link) ∙ sym (value_at bytes earlier place other);
    addend = addend_at bytes index number table ∙ ap (λ at. u32_field bytes (at + 8)) (sym apart) ∙ sym (addend_at bytes earlier place other);
    symbols = symbols_at bytes index number table is ∙ ap (section_at bytes) (sym link) ∙ sym (symbols_at bytes earlier place other other_is);
  }

-- where an entry of a repeat stands in the other table
pub record IsHeld (other table : Section) (number : ℕ) : Type 0 where
  pub place : ℕ
  pub within : place < other.size / 12
  pub apart : other.offset + 12 * place ≡ table.offset + 12 * number

equal_of : (a b : ℕ) → nat_eq a b ≡ true → a ≡ b
equal_of a b is = grind (arith, nat_tests)

at_most : (a b : ℕ) → nat_le a b ≡ true → a ≤ b
at_most a b is = grind (arith, nat_tests)

module _ (other table : Section) (has : has_entries_of other table ≡ true) where
  abbrev near : Bool
  near = nat_eq other.link table.link && nat_le other.offset table.offset

  abbrev whole : Bool
  whole = nat_eq ((table.offset - other.offset) % 12) 0

  abbrev count_fits : Bool
  count_fits = nat_le ((table.offset - other.offset) / 12 + table.size / 12) (other.size / 12)

  fits : ((near && whole) ≡ true) × (count_fits ≡ true)
  fits = and_parts (near && whole) count_fits has

  steps : (near ≡ true) × (whole ≡ true)
  steps = and_parts near whole fits.0

  starts : (nat_eq other.link table.link ≡ true) × (nat_le other.offset table.offset ≡ true)
  starts = and_parts (nat_eq other.link table.link) (nat_le other.offset table.offset) steps.0

  pub same_link : other.link ≡ table.link
  same_link = equal_of other.link table.link starts.0

  pub held : (number : ℕ) → number < table.size / 12 → IsHeld other table number
  held number within =
      let low : other.offset ≤ table.offset = at_most other.offset table.offset starts.1 in
      let even : (table.offset - other.offset) % 12 ≡ 0 = equal_of ((table.offset - other.offset) % 12) 0 steps.1 in
      let few : (table.offset - other.offset) / 12 + table.size / 12 ≤ other.size / 12 = at_most ((table.offset - other.offset) / 12 + table.size / 12) (other.size / 12) fits.1 in
      record {
        place = (table.offset - other.offset) / 12 + number;
        within = omega (arith, few, within);
        apart = omega (arith, low, even);
      }
