-- What a write of one node does to the links.
use Rattle.std.proofs.Common.{◌≡◌, ◌≢◌, ℕ, Option, None, Some, is_some, refl, sym, ap, ◌∙◌, inl, inr}
use Rattle.std.proofs.lemmas.Bool.{cases_eq}
use Rattle.slab.specs.Slab.{Slab, get, with_value as with_node, Updates}
use Rattle.slab.proofs.SlabLemmas.{Updates-with_value}
use Rattle.sq_arena.specs.declared.links.Links.{Links}
use Rattle.sq_arena.specs.declared.links.Node.{Node}
use Rattle.sq_arena.specs.Links.{node_value, node_next, node_previous, next_at, previous_at, SetsNext, SetsPrevious, Fills}

module _ {T : Type 0} where
  -- the node of this key is written
  pub write_of : (s : Slab (Node T)) (key : ℕ) (node new : Node T) → get s key ≡ Some node → Updates s (with_node s key new) key (Some new)
  write_of s key node new found = Updates-with_value s key new (ap is_some found)

  -- what the write keeps of this node, it keeps of each
  pub write_keeps : {X : Type 0} (f : Option (Node T) → X) (s : Slab (Node T)) (key : ℕ) (node new : Node T) → get s key ≡ Some node → f (Some new) ≡ f (Some node) → (other : ℕ) → f (get (with_node s key new) other) ≡ f (get s other)
  write_keeps f s key node new found kept other =
      let update = write_of s key node new found in
      elim (cases_eq other key) [
        | inl same ↦ ap (λ k. f (get (with_node s key new) k)) same ∙ ap f update.changed ∙ kept ∙ sym (ap f found) ∙ ap (λ k. f (get s k)) (sym same)
        | inr differs ↦ ap f (update.others other differs)
      ]

  -- and of each other node it keeps all
  pub write_keeps_others : {X : Type 0} (f : Option (Node T) → X) (s : Slab (Node T)) (key : ℕ) (node new : Node T) → get s key ≡ Some node → (other : ℕ) → other ≢ key → f (get (with_node s key new) other) ≡ f (get s other)
  write_keeps_others f s key node new found other differs = ap f ((write_of s key node new found).others other differs)

  pub SetsNext-write : (l : Links T) (key : ℕ) (node : Node T) (q : Option ℕ) → get l.nodes key ≡ Some node → SetsNext l (record l { nodes = with_node l.nodes key (record node { next = q }) }) (Some key) q
  SetsNext-write l key node q found =
      let new : Node T = record node { next = q } in
      record {
        set = ap node_next (write_of l.nodes key node new found).changed;
        next = next;
        previous = previous;
        values = write_keeps node_value l.nodes key node new found refl;
        nodes = λ other has. write_keeps is_some l.nodes key node new found refl other ∙ has;
        vacant = refl;
      }
    where
      next : (other : Option ℕ) → other ≢ Some key → next_at (record l { nodes = with_node l.nodes key (record node { next = q }) }) other ≡ next_at l other
      next None differs = refl
      next (Some other) differs = write_keeps_others node_next l.nodes key node _ found other (λ same. differs (ap Some same))

      previous : (other : Option ℕ) → previous_at (record l { nodes = with_node l.nodes key (record node { next = q }) }) other ≡ previous_at l other
      previous None = refl
      previous (Some other) = write_keeps node_previous l.nodes key node _ found refl other

  pub SetsPrevious-write : (l : Links T) (key : ℕ) (node : Node T) (q : Option ℕ) → get l.nodes key ≡ Some node → SetsPrevious l (record l { nodes = with_node l.nodes key (record node { previous = q }) }) (Some key) q
  SetsPrevious-write l key node q found =
      let new : Node T = record node { previous = q } in
      record {
        set = ap node_previous (write_of l.nodes key node new found).changed;
        next = next;
        previous = previous;
        values = write_keeps node_value l.nodes key node new found refl;
        nodes = λ other has. write_keeps is_some l.nodes key node new found refl other ∙ has;
        vacant = refl;
      }
    where
      next : (other : Option ℕ) → next_at (record l { nodes = with_node l.nodes key (record node { previous = q }) }) other ≡ next_at l other
      next None = refl
      next (Some other) = write_keeps node_next l.nodes key node _ found refl other

      previous : (other : Option ℕ) → other ≢ Some key → previous_at (record l { nodes = with_node l.nodes key (record node { previous = q }) }) other ≡ previous_at l other
      previous None differs = refl
      previous (Some other) differs = write_keeps_others node_previous l.nodes key node _ found other (λ same. differs (ap Some same))

  pub Fills-write : (l : Links T) (key : ℕ) (node : Node T) (value : T) → l.vacant ≡ Some key → get l.nodes key ≡ Some node → Fills l (record { nodes = with_node l.nodes key (record node { value = Some value }); first = l.first; last = l.last; vacant = node.next }) key value
  Fills-write l key node value vacant found =
      let new : Node T = record node { value = Some value } in
      record {
        was_vacant = vacant;
        filled = ap node_value (write_of l.nodes key node new found).changed;
        values = write_keeps_others node_value l.nodes key node new found;
        next = next;
        previous = previous;
        nodes = λ other has. write_keeps is_some l.nodes key node new found refl other ∙ has;
        vacant = sym (ap node_next found);
      }
    where
      next : (other : Option ℕ) → next_at (record { nodes = with_node l.nodes key (record node { value = Some value }); first = l.first; last = l.last; vacant = node.next }) other ≡ next_at l other
      next None = refl
      next (Some other) = write_keeps node_next l.nodes key node _ found refl other

      previous : (other : Option ℕ) → previous_at (record { nodes = with_node l.nodes key (record node { value = Some value }); first = l.first; last = l.last; vacant = node.next }) other ≡ previous_at l other
      previous None = refl
      previous (Some other) = write_keeps node_previous l.nodes key node _ found refl other
