-- Pages of 4 KiB that have a stale byte.
use Rattle.std.specs.Prelude.{◌≡◌, ◌/◌, ℕ, Bool, true, ◌&&◌, nat_eq, List}
use Rattle.std.specs.declared.hash.FoldHasher.{FoldHasher}
use Rattle.std.specs.declared.hash.BuildHasherDefault.{BuildHasherDefault}
use Rattle.std.specs.HashSet.{HashSet}
use Rattle.std.specs.HashSet as set
use Rattle.sq_reloc.specs.Outside.{is_touched, is_stale}

-- the number of the page of an address
abbrev pub page_of : ℕ → ℕ
page_of address = address / 4096

-- a byte outside text in the page that an entry makes stale
abbrev pub is_touched_in : List ℕ → ℕ → ℕ → Bool
is_touched_in bytes page address = is_touched bytes address && nat_eq (page_of address) page

-- a stale byte in the page
pub record StaleByteIn (bytes : List ℕ) (page : ℕ) : Type 0 where
  pub address : ℕ
  pub in_page : page_of address ≡ page
  pub stale : is_stale bytes address ≡ true

-- the set has exactly the pages with a stale byte
pub record AreStalePages (bytes : List ℕ) (pages : HashSet ℕ (BuildHasherDefault FoldHasher)) : Type 0 where
  pub every : (address : ℕ) → is_stale bytes address ≡ true → set.contains nat_eq pages (page_of address) ≡ true
  pub only : (page : ℕ) → set.contains nat_eq pages page ≡ true → StaleByteIn bytes page
