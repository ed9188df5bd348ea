-- Stable partitions of nodes. A partition is said by the class of each place; places behind the last node have one too.
use Rattle.std.specs.Prelude.{◌≡◌, ℕ, zero, suc, ◌&&◌, Bool, nat_eq, List, [], ◌∷◌, ◌++◌, Option, Some, map, slice_get}
use Rattle.std.specs.Option.{option_map, option_eq}
use Rattle.sq_finger.specs.Numbers.{member_at, numbers_of}
use Rattle.sq_fold.specs.declared.rounds.Node.{Node}

-- a node but for its places: what it is, and the classes of the nodes that it goes on to
abbrev pub seen_by : {K : Type 0} → (ℕ → K) → Node → Option ℕ × Option K × Option K
seen_by class node = (node.label, option_map class node.next, option_map class node.target)

abbrev pub view : {K : Type 0} → List Node → (ℕ → K) → ℕ → Option (Option ℕ × Option K × Option K)
view nodes class place = option_map (seen_by class) (slice_get nodes place)

-- Two of one class are equal but for the names of the nodes they go on to, and these are of one class.
abbrev pub IsStable : {K : Type 0} → List Node → (ℕ → K) → Type 0
IsStable nodes class = (i j : ℕ) → class i ≡ class j → view nodes class i ≡ view nodes class j

-- its classes contain those of every stable partition
pub record IsCoarsest (nodes : List Node) (class : ℕ → Option ℕ) : Type 0 where
  pub stable : IsStable nodes class
  pub coarsest : (other : ℕ → ℕ) → IsStable nodes other → (i j : ℕ) → other i ≡ other j → class i ≡ class j

-- ---- one round

abbrev pub Key : Type 0
Key = Option ℕ × Option (Option ℕ) × Option (Option ℕ)

abbrev pub is_same_key : Key → Key → Bool
is_same_key k l = (option_eq nat_eq k.0 l.0 && option_eq (option_eq nat_eq) k.1 l.1) && option_eq (option_eq nat_eq) k.2 l.2

abbrev pub keys_by : List Node → List (Option ℕ) → List (Option Key)
keys_by nodes classes = map (λ node. Some (seen_by (member_at classes) node)) nodes

-- the numbers of what the nodes are and of the classes that they go on to
abbrev pub IsFinerBy : List Node → List (Option ℕ) → List (Option ℕ) → Type 0
IsFinerBy nodes classes finer = finer ≡ numbers_of is_same_key (keys_by nodes classes)

-- the classes after so many rounds; there are none at first
abbrev pub after : List Node → ℕ → List (Option ℕ)
after nodes zero = []
after nodes (suc k) = numbers_of is_same_key (keys_by nodes (after nodes k))

-- those after each of so many rounds, from none on
abbrev pub rounds_to : List Node → ℕ → List (List (Option ℕ))
rounds_to nodes zero = []
rounds_to nodes (suc k) = rounds_to nodes k ++ after nodes k ∷ []

-- the rounds up to the one that makes no class finer
pub record AreAllRounds (nodes : List Node) (rounds : List (List (Option ℕ))) : Type 0 where
  pub last : ℕ
  pub are : rounds ≡ rounds_to nodes (suc last)
  pub ends : after nodes (suc last) ≡ after nodes last
