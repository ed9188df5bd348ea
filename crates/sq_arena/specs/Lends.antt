-- What an arena ends as, where a `&mut` to one of its values is returned.
use Rattle.std.specs.Prelude.{ℕ, Option, None, Some}
use Rattle.std.specs.Borrow.{Lends, LendsIf, Fml, RattleType, MutBor}
use Rattle.slab.specs.Slab.{get, with_value as with_node}
use Rattle.sq_arena.specs.Arena.{Arena as Listed}
use Rattle.sq_arena.specs.Entries.{with_value}
use Rattle.sq_arena.specs.declared.links.Links.{Links}
use Rattle.sq_arena.specs.declared.links.Node.{Node}
use Rattle.sq_arena.specs.contracts.links.Links.{the_row as links_row}
use Rattle.sq_arena.specs.contracts.links.Node.{the_row as node_row}
use Rattle.sq_arena.specs.contracts.Arena.{the_row as arena_row}

module _ {T : Type 0} where
  -- the node with this value
  abbrev pub with_content : Node T → T → Node T
  with_content node value = record node { value = Some value }

  -- the node of the key, with this value
  abbrev pub filled_node : Option (Node T) → T → Node T
  filled_node None value = record { value = Some value; previous = None; next = None }
  filled_node (Some node) value = with_content node value

  -- the links with this value at the key
  abbrev pub with_link_value : Links T → ℕ → T → Links T
  with_link_value l key value =
      record l { nodes = with_node l.nodes key (filled_node (get l.nodes key) value) }

  -- the arena with this value at the key
  abbrev pub with_key_value : Listed T → ℕ → T → Listed T
  with_key_value a key value = record a { entries = with_value a.entries key value }

module _ (T : RattleType) where
  -- once the borrow r ends, the node has the last value written through r
  abbrev pub lends_content : MutBor (Node T.Denot) → MutBor T.Denot → Fml
  lends_content s r = Lends (node_row T) T s r (with_content s.now)

  -- once the borrow r ends, the key has the last value written through r
  abbrev pub lends_link_value : MutBor (Links T.Denot) → ℕ → MutBor T.Denot → Fml
  lends_link_value s key r = Lends (links_row T) T s r (with_link_value s.now key)

  -- the same of an arena
  abbrev pub lends_value : MutBor (Listed T.Denot) → ℕ → MutBor T.Denot → Fml
  lends_value s key r = Lends (arena_row T) T s r (with_key_value s.now key)

  -- the same where r is a reference, and at `None` the arena stays as it is
  abbrev pub lends_get : MutBor (Listed T.Denot) → ℕ → Option (MutBor T.Denot) → Fml
  lends_get s key r = LendsIf (arena_row T) T s r (with_key_value s.now key) s.now
