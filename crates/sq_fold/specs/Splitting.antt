-- Classes of nodes that are split, and labels by them. No public clause cites this module.
use Rattle.std.specs.Prelude.{◌≡◌, ◌↔◌, ◌⊎◌, ℕ, ◌<◌, List, Option, None, Some, Contains, length, slice_get}
use Rattle.std.specs.Option.{option_map, unwrap_or}
use Rattle.sq_finger.specs.Groups.{IsIn}
use Rattle.sq_finger.specs.Numbers.{member_at}
use Rattle.sq_fold.specs.declared.rounds.Node.{Node}
use Rattle.sq_fold.specs.Stable.{IsStable}

-- ---- labels

-- a node with another label
abbrev pub labelled : Node → Option ℕ → Node
labelled node label = record { label = label; next = node.next; target = node.target }

-- the same nodes with these labels
pub record AreLabelled (nodes : List Node) (labels : List (Option ℕ)) (found : List Node) : Type 0 where
  pub many : length found ≡ length nodes
  pub each : (i : ℕ) → slice_get found i ≡ option_map (λ node. labelled node (member_at labels i)) (slice_get nodes i)

-- A partition is stable for these where it is for the nodes, and the other way round.
pub record HaveSameStable (nodes found : List Node) : Type 0 where
  pub many : length found ≡ length nodes
  pub stays : (other : ℕ → ℕ) → IsStable nodes other → IsStable found other
  pub stable : (class : ℕ → Option ℕ) → IsStable found class → IsStable nodes class

-- ---- classes

-- some stable partition has the two places in one class
abbrev pub AreTogether : List Node → ℕ → ℕ → Type 0
AreTogether nodes i j = (other : ℕ → ℕ) × (IsStable nodes other × (other i ≡ other j))

-- places that are together have one class
pub record AreSound (nodes : List Node) (classes : List (Option ℕ)) : Type 0 where
  pub many : length classes ≡ length nodes
  pub above : (i j : ℕ) → AreTogether nodes i j → member_at classes i ≡ member_at classes j

-- with a place the list has all that are together with it
abbrev pub IsWhole : List Node → List ℕ → Type 0
IsWhole nodes places = (i j : ℕ) → AreTogether nodes i j → Contains places i → Contains places j

-- with a place the list has all of its class
abbrev pub HasWholeClasses : List (Option ℕ) → List ℕ → Type 0
HasWholeClasses classes places = (i j : ℕ) → member_at classes i ≡ member_at classes j → Contains places i → Contains places j

-- each place stands in the list of its class
abbrev pub AreListed : List (Option ℕ) → List (List ℕ) → Type 0
AreListed classes lists = (i class : ℕ) → member_at classes i ≡ Some class → IsIn lists class i

-- those of the list that are of a class
abbrev pub AreLeft : List ℕ → List (Option ℕ) → ℕ → List ℕ → Type 0
AreLeft list classes class left = (i : ℕ) → Contains left i ↔ (Contains list i × (member_at classes i ≡ Some class))

-- these places have this class now, and others the one that they had
pub record ArePut (places : List ℕ) (class : ℕ) (old new : List (Option ℕ)) : Type 0 where
  pub many : length new ≡ length old
  pub put : (i : ℕ) → i < length old → Contains places i → member_at new i ≡ Some class
  pub kept : (i : ℕ) → ¬ Contains places i → member_at new i ≡ member_at old i

-- the part has become a class, or all classes are as they were
abbrev pub IsSplit : List ℕ → List (Option ℕ) → List (Option ℕ) → Type 0
IsSplit part old new = (new ≡ old) ⊎ ((class : ℕ) × ArePut part class old new)

-- ---- where nodes lead

-- the node at one place goes on to that at the other
abbrev pub LeadsTo : List Node → ℕ → ℕ → Type 0
LeadsTo nodes from to = (to < length nodes) × ((node : Node) × ((slice_get nodes from ≡ Some node) × ((node.next ≡ Some to) ⊎ (node.target ≡ Some to))))

-- under each place those that go on to it
abbrev pub AreSources : List Node → List (List ℕ) → Type 0
AreSources nodes sources = (from to : ℕ) → IsIn sources to from ↔ LeadsTo nodes from to

-- the members of the groups of these numbers
abbrev pub AreInGroups : List (List ℕ) → List ℕ → List ℕ → Type 0
AreInGroups groups numbers members = (x : ℕ) → Contains members x ↔ ((n : ℕ) × (Contains numbers n × IsIn groups n x))

-- the node at a place, with its class for a label
abbrev pub node_by : List Node → List (Option ℕ) → ℕ → Node
node_by nodes classes place = labelled (unwrap_or (slice_get nodes place) (record { label = None; next = None; target = None })) (member_at classes place)
