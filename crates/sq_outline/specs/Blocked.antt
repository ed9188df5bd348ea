-- When a Branch doesn't reach once a body stands in place of two calls, or of one.
use Rattle.std.specs.Prelude.{◌≡◌, ℕ, ◌+◌, ◌-◌, ◌*◌, nat_lt, nat_eq, if◌then◌else◌, Some, length, slice_get}
use Rattle.sq_isa.specs.declared.instructions.Cond.{Cond}
use Rattle.sq_graph.specs.declared.item.Item.TheVariants.{Out}
use Rattle.sq_graph.specs.declared.item.Term.TheVariants.{Branch}
use Rattle.sq_graph.specs.Graph.{Graph}
use Rattle.sq_graph.specs.Blocks.{items_of, term_of}
use Rattle.sq_lookup.specs.Addresses.{address_of}

-- how many words more stand between two addresses if so many more stand at a call
abbrev pub growth_at : ℕ → ℕ → ℕ → ℕ → ℕ
growth_at low high call more = if nat_lt call low then 0 else if nat_lt call high then more else 0

-- how far two addresses are apart once so many more stand at each of two calls, or at one
abbrev pub grown : ℕ → ℕ → ℕ → ℕ → ℕ → ℕ
grown low high first last more =
    high - low + 4 * (growth_at low high first more + (if nat_eq first last then 0 else growth_at low high last more))

-- by how many bytes a Branch misses its target then
abbrev pub missing : ℕ → ℕ → ℕ → ℕ → ℕ → ℕ
missing at to first last more =
    if nat_lt at to then grown at to first last more - 4094 else grown to at first last more - 4096

-- a call of the procedure stands at the address
abbrev pub IsCallAt : Graph → ℕ → ℕ → Type 0
IsCallAt g p x = (block : ℕ) × (at : ℕ) × (slice_get (items_of g block) at ≡ Some (Out p)) × (x ≡ address_of g block + 4 * at)

-- the block ends in a Branch, which stands at the one address and leads to the other
pub record IsBranchAt (g : Graph) (block at to : ℕ) : Type 0 where
  pub cond : Cond
  pub a : ℕ
  pub b : ℕ
  pub target : ℕ
  pub term : term_of g block ≡ Some (Branch cond a b target)
  pub at_is : at ≡ address_of g block + 4 * length (items_of g block)
  pub to_is : to ≡ address_of g target
