-- Where blocks of a graph lead, and that this is to blocks.
use Rattle.std.proofs.Common.{◌≡◌, ℕ, zero, suc, Bool, true, false, ◌==◌, ◌⊎◌, inl, inr, List, [], ◌∷◌, ◌++◌, IsSome, option_to_list, if◌then◌else◌, refl, sym, ap, ◌∙◌, subst, arith}
use Rattle.std.proofs.lemmas.Bool.{cases_Bool, eq-eqb}
use Rattle.std.proofs.lemmas.List.Elements.{All-nil, All-contains, Contains-append_left, Contains-append_right, Contains-append_cases}
use Rattle.std.proofs.lemmas.List.Concat.{flat_map-append}
use Rattle.std.specs.List.{All, Contains, flat_map, slice_get}
use Rattle.sq_arena.specs.Entries.{value_of, first_key, next_key}
use Rattle.sq_graph.specs.declared.item.Item.{Item}
use Rattle.sq_graph.specs.declared.item.Item.TheVariants.{Op, Hi, Lo, Out}
use Rattle.sq_graph.specs.Graph.{Block, Procedure, Graph}
use Rattle.sq_graph.specs.Blocks.{named, block_items, block_term, HasBlock, HasProcedure, items_of, items_of_blocks, items_of_bodies, all_items}
use Rattle.sq_graph.specs.Rules.{IsGraph}
use Rattle.sq_graph.specs.Terms.{goes_on}
use Rattle.sq_graph.specs.Uses.{item_uses, items_uses, term_uses, terms_uses, code_word_uses, uses, item_calls}
use Rattle.sq_graph.specs.Walks.{procedure_names, called_names, first_name, block_successors, successors_in, successors, IsReachedBlock, entry, code_word, walk}
use Rattle.sq_graph.proofs.Eachs.{All-left, All-right, All-each}
use Rattle.sq_reach.specs.Search.{exits_by, term_exits}

first_named : (blocks : List Block) → first_name blocks ≡ option_to_list (first_key (named blocks))
first_named [] = refl
first_named (block ∷ blocks) = refl

-- where a block leads: by its term, and by its items
successors_of : (g : Graph) (blocks : List Block) (n : ℕ) → IsSome (value_of (named blocks) n) →
    next_key (named blocks) n ≡ next_key (named g.blocks) n →
    successors_in g.procedures blocks n ≡ exits_by g n (block_term (value_of (named blocks) n)) ++ flat_map (called_names g.procedures) (block_items (value_of (named blocks) n))
successors_of g [] n some e = absurd (cc)
successors_of g (block ∷ blocks) n some e =
    elim (cases_Bool (block.name == n)) [
      | inl here ↦
          let behind_it : first_name blocks ≡ option_to_list (next_key (named g.blocks) n) = first_named blocks ∙ ap option_to_list (rw here at e) in
          rw here (ap (λ names. term_uses block.term ++ (if goes_on block.term then names else []) ++ flat_map (called_names g.procedures) block.items) behind_it)
      | inr apart ↦ rw apart (successors_of g blocks n (rw apart at some) (rw apart at e))
    ]

pub successors_split : (g : Graph) (n : ℕ) → HasBlock g n → successors g n ≡ term_exits g n ++ flat_map (called_names g.procedures) (items_of g n)
successors_split g n has = successors_of g g.blocks n has refl

-- what holds of the items of all blocks holds of those of one
all_of_block : (P : Item → Type 0) (blocks : List Block) (n : ℕ) → All P (items_of_blocks blocks) → All P (block_items (value_of (named blocks) n))
all_of_block P [] n all = All-nil P
all_of_block P (block ∷ blocks) n all =
    elim (cases_Bool (block.name == n)) [
      | inl here ↦ rw here (All-left P block.items (items_of_blocks blocks) all)
      | inr apart ↦ rw apart (all_of_block P blocks n (All-right P block.items (items_of_blocks blocks) all))
    ]

-- the procedures that a block calls are there
pub calls_exist : (g : Graph) (n : ℕ) → IsGraph g → All (λ item. All (HasProcedure g) (item_calls item)) (items_of g n)
calls_exist g n rules =
    let all = All-each (HasProcedure g) item_calls (all_items g) rules.called_all in
    all_of_block (λ item. All (HasProcedure g) (item_calls item)) g.blocks n
    (All-left (λ item. All (HasProcedure g) (item_calls item)) (items_of_blocks g.blocks) (items_of_bodies g.procedures) all)

-- a name in a list that f makes of some element is in the list that f makes of all
contains_uses : (items more : List Item) (m : ℕ) → Contains (items_uses items) m → Contains (items_uses (items ++ more)) m
contains_uses items more m h =
    subst (λ names. Contains names m) (sym (flat_map-append item_uses items more)) (Contains-append_left (items_uses items) (items_uses more) m h)

contains_uses_behind : (items more : List Item) (m : ℕ) → Contains (items_uses more) m → Contains (items_uses (items ++ more)) m
contains_uses_behind items more m h =
    subst (λ names. Contains names m) (sym (flat_map-append item_uses items more)) (Contains-append_right (items_uses items) (items_uses more) m h)

-- the targets in the body of a procedure are among those of all bodies
body_used : (procedures : List Procedure) (p m : ℕ) → Contains (procedure_names (slice_get procedures p)) m → Contains (items_uses (items_of_bodies procedures)) m
body_used [] p m h = h
body_used (procedure ∷ procedures) zero m h = contains_uses procedure.body (items_of_bodies procedures) m h
body_used (procedure ∷ procedures) (suc p) m h = contains_uses_behind procedure.body (items_of_bodies procedures) m (body_used procedures p m h)

item_used : (procedures : List Procedure) (item : Item) (m : ℕ) → Contains (called_names procedures item) m → Contains (item_uses item) m ⊎ Contains (items_uses (items_of_bodies procedures)) m
item_used procedures (Op insn) m h = inl h
item_used procedures (Hi rd to) m h = inl h
item_used procedures (Lo rd rs to) m h = inl h
item_used procedures (Out p) m h = inr (body_used procedures p m h)

items_used : (procedures : List Procedure) (items : List Item) (m : ℕ) → Contains (flat_map (called_names procedures) items) m → Contains (items_uses items) m ⊎ Contains (items_uses (items_of_bodies procedures)) m
items_used procedures [] m h = inl h
items_used procedures (item ∷ items) m h =
    elim (Contains-append_cases (called_names procedures item) (flat_map (called_names procedures) items) m h) [
      | inl here ↦ elim (item_used procedures item m here) [
        | inl own ↦ inl (Contains-append_left (item_uses item) (items_uses items) m own)
        | inr body ↦ inr body
      ]
      | inr rest ↦ elim (items_used procedures items m rest) [
        | inl own ↦ inl (Contains-append_right (item_uses item) (items_uses items) m own)
        | inr body ↦ inr body
      ]
    ]

-- Names that a block leads to are used, or those of a block
abbrev IsNamed : List Procedure → List Block → ℕ → Type 0
IsNamed procedures blocks m =
    Contains (terms_uses blocks) m
    ⊎ (Contains (items_uses (items_of_blocks blocks)) m
    ⊎ (Contains (items_uses (items_of_bodies procedures)) m ⊎ IsSome (value_of (named blocks) m)))

first_has : (block : Block) (blocks : List Block) (m : ℕ) → Contains (first_name blocks) m → IsSome (value_of (named (block ∷ blocks)) m)
first_has block [] m h = absurd (omega (arith, h.1))
first_has block (next ∷ blocks) m h =
    let same : next.name ≡ m = only (next.name) m h in
    let here : (next.name == m) ≡ true = eq-eqb next.name m same in
    elim (cases_Bool (block.name == m)) [
      | inl first ↦ rw first refl
      | inr apart ↦ rw (apart, here) refl
    ]
  where
    only : (x m : ℕ) → Contains (x ∷ []) m → x ≡ m
    only x m (zero, below, e) = e
    only x m (suc k, below, e) = absurd (omega (arith, below))

behind_named : (procedures : List Procedure) (block : Block) (blocks : List Block) (m : ℕ) → IsNamed procedures blocks m → IsNamed procedures (block ∷ blocks) m
behind_named procedures block blocks m (inl h) = inl (Contains-append_right (term_uses block.term) (terms_uses blocks) m h)
behind_named procedures block blocks m (inr (inl h)) = inr (inl (contains_uses_behind block.items (items_of_blocks blocks) m h))
behind_named procedures block blocks m (inr (inr (inl h))) = inr (inr (inl h))
behind_named procedures block blocks m (inr (inr (inr has))) =
    elim (cases_Bool (block.name == m)) [
      | inl first ↦ inr (inr (inr (rw first refl)))
      | inr apart ↦ inr (inr (inr (rw apart has)))
    ]

exit_named : (procedures : List Procedure) (block : Block) (blocks : List Block) (goes : Bool) (m : ℕ) → Contains (if goes then first_name blocks else []) m → IsNamed procedures (block ∷ blocks) m
exit_named procedures block blocks true m h = inr (inr (inr (first_has block blocks m h)))
exit_named procedures block blocks false m h = absurd (omega (arith, h.1))

item_named : (procedures : List Procedure) (block : Block) (blocks : List Block) (m : ℕ) → Contains (items_uses block.items) m ⊎ Contains (items_uses (items_of_bodies procedures)) m → IsNamed procedures (block ∷ blocks) m
item_named procedures block blocks m (inl h) = inr (inl (contains_uses block.items (items_of_blocks blocks) m h))
item_named procedures block blocks m (inr h) = inr (inr (inl h))

block_named : (procedures : List Procedure) (block : Block) (blocks : List Block) (m : ℕ) → Contains (block_successors procedures block blocks) m → IsNamed procedures (block ∷ blocks) m
block_named procedures block blocks m h =
    elim (Contains-append_cases (term_uses block.term ++ (if goes_on block.term then first_name blocks else [])) (flat_map (called_names procedures) block.items) m h) [
      | inl exits ↦ elim (Contains-append_cases (term_uses block.term) (if goes_on block.term then first_name blocks else []) m exits) [
        | inl target ↦ inl (Contains-append_left (term_uses block.term) (terms_uses blocks) m target)
        | inr next ↦ exit_named procedures block blocks (goes_on block.term) m next
      ]
      | inr items ↦ item_named procedures block blocks m (items_used procedures block.items m items)
    ]

successor_named : (procedures : List Procedure) (blocks : List Block) (n m : ℕ) → Contains (successors_in procedures blocks n) m → IsNamed procedures blocks m
successor_named procedures [] n m h = absurd (omega (arith, h.1))
successor_named procedures (block ∷ blocks) n m h =
    elim (cases_Bool (block.name == n)) [
      | inl here ↦ block_named procedures block blocks m (rw here at h)
      | inr apart ↦ behind_named procedures block blocks m (successor_named procedures blocks n m (rw apart at h))
    ]

-- each name that is used is a block's
used_has : (g : Graph) (m : ℕ) → IsGraph g → Contains (uses g) m → HasBlock g m
used_has g m rules h = All-contains (HasBlock g) (uses g) m rules.named_all h

-- the uses of a graph, from the entry on
behind_entry : (g : Graph) (names : List ℕ) (m : ℕ) → Contains names m → Contains (g.entry ∷ names) m
behind_entry g names m h = Contains-append_right (g.entry ∷ []) names m h

abbrev from_terms : Graph → List ℕ
from_terms g = terms_uses g.blocks ++ items_uses (all_items g)

named_has : (g : Graph) (m : ℕ) → IsGraph g → IsNamed g.procedures g.blocks m → HasBlock g m
named_has g m rules (inl h) =
    used_has g m rules (behind_entry g _ m (Contains-append_right (code_word_uses g.code_words) (from_terms g) m (Contains-append_left (terms_uses g.blocks) (items_uses (all_items g)) m h)))
named_has g m rules (inr (inl h)) =
    used_has g m rules (behind_entry g _ m (Contains-append_right (code_word_uses g.code_words) (from_terms g) m (Contains-append_right (terms_uses g.blocks) (items_uses (all_items g)) m (contains_uses (items_of_blocks g.blocks) (items_of_bodies g.procedures) m h))))
named_has g m rules (inr (inr (inl h))) =
    used_has g m rules (behind_entry g _ m (Contains-append_right (code_word_uses g.code_words) (from_terms g) m (Contains-append_right (terms_uses g.blocks) (items_uses (all_items g)) m (contains_uses_behind (items_of_blocks g.blocks) (items_of_bodies g.procedures) m h))))
named_has g m rules (inr (inr (inr has))) = has

-- a reached name is a block's
pub reached_has : (g : Graph) (n : ℕ) → IsGraph g → IsReachedBlock g n → HasBlock g n
reached_has g n rules entry = used_has g g.entry rules (0, omega arith, refl)
reached_has g n rules (code_word h) =
    used_has g n rules (behind_entry g _ n (Contains-append_left (code_word_uses g.code_words) (from_terms g) n h))
reached_has g n rules (walk before h) = named_has g n rules (successor_named g.procedures g.blocks _ n h)
