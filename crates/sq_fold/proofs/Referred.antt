-- The references of a block, as its items and its term give them.
use Rattle.std.proofs.Common.{◌≡◌, ℕ, Bool, true, false, not, ◌==◌, if◌then◌else◌, List, [], ◌∷◌, ◌++◌, append-nil, Option, Some, None, IsSome, slice_get, option_to_list, Contains, inl, inr, refl, sym, ap, ◌∙◌, subst, arith}
use Rattle.std.specs.List.{All}
use Rattle.std.proofs.lemmas.Bool.{cases_Bool, eq-eqb}
use Rattle.std.proofs.lemmas.List.Elements.{All-nil, All-cons, All-append, All-contains}
use Rattle.sq_arena.specs.Entries.{value_of, first_key, next_key}
use Rattle.sq_arena.proofs.EntriesLaws.{behind-append}
use Rattle.sq_graph.specs.declared.item.Item.{Item}
use Rattle.sq_graph.specs.declared.item.Item.TheVariants.{Op, Hi, Lo, Out}
use Rattle.sq_graph.specs.declared.item.Term.{Term}
use Rattle.sq_graph.specs.declared.item.Term.TheVariants.{Fall, Jump, Branch, Call, PartJump, Indirect, Stop}
use Rattle.sq_graph.specs.Blocks.{named, HasBlock, HasProcedure, block_of, block_term, block_items, items_of, term_of, next_of}
use Rattle.sq_graph.specs.Graph.{Block, Graph}
use Rattle.sq_graph.specs.Leaders.{is_fall}
use Rattle.sq_graph.specs.Rules.{IsGraph, last_goes_on}
use Rattle.sq_graph.specs.Terms.{goes_on}
use Rattle.sq_graph.specs.Uses.{item_uses, items_uses, term_uses}
use Rattle.sq_graph.proofs.Eachs.{All-flat_map}
use Rattle.sq_graph.proofs.Fitting.{block_stands}
use Rattle.sq_graph.proofs.Located.{IsAt, located, named-append}
use Rattle.sq_graph.proofs.RulesByBlock.{ItemStands}
use Rattle.sq_graph.proofs.SlotReads.{block_at}
use Rattle.sq_graph.proofs.SplitRules.{last_goes_on-append}
use Rattle.sq_finger.proofs.Grouping.{at_contains}
use Rattle.sq_fold.specs.Nodes.{item_name, term_name, slot_of, term_leads, leads_on}
use Rattle.sq_fold.specs.Partition.{references_of, target_references, next_references, bare_item, bare_term}

some_same : {X : Type 0} {x y : X} → Some x ≡ Some y → x ≡ y
some_same e = cc

-- ---- an item and a term by what they name

pub item_named : (item : Item) → item_uses item ≡ option_to_list (item_name item)
item_named (Op insn) = refl
item_named (Hi rd to) = refl
item_named (Lo rd rs to) = refl
item_named (Out q) = refl

chosen : (b : Bool) (o : Option ℕ) → (if b then option_to_list o else []) ≡ option_to_list (if b then o else None)
chosen true o = refl
chosen false o = refl

pub term_referred : (t : Option Term) (next : Option ℕ) → target_references t ++ next_references t next ≡ option_to_list (term_leads t (slot_of t next)).1 ++ option_to_list (term_leads t (slot_of t next)).0
term_referred None next = refl
term_referred (Some Fall) next = sym (append-nil (option_to_list next))
term_referred (Some (Jump to)) next = refl
term_referred (Some (Branch c a b to)) next = refl
term_referred (Some (Call link to)) next = refl
term_referred (Some (PartJump link part to)) next = ap (λ ns. to ∷ ns) (chosen (not (link == 0)) next)
term_referred (Some (Indirect link at offset)) next = chosen (not (link == 0)) next
term_referred (Some (Stop word)) next = refl

-- ---- what is bare tells which names there are

abbrev pub has_one : Item → Bool
has_one (Op insn) = false
has_one (Hi rd to) = true
has_one (Lo rd rs to) = true
has_one (Out q) = false

pub bare_one : (item : Item) → has_one (bare_item item) ≡ has_one item
bare_one (Op insn) = refl
bare_one (Hi rd to) = refl
bare_one (Lo rd rs to) = refl
bare_one (Out q) = refl

abbrev pub IsThere : Bool → Option ℕ → Type 0
IsThere true None = ⊥
IsThere true (Some n) = Unit {0}
IsThere false None = Unit {0}
IsThere false (Some n) = ⊥

pub item_there : (item : Item) → IsThere (has_one item) (item_name item)
item_there (Op insn) = tt
item_there (Hi rd to) = tt
item_there (Lo rd rs to) = tt
item_there (Out q) = tt

-- a term names a target, where a Fall names the next slot; and it goes on to the next slot besides
abbrev pub has_target : Term → Bool
has_target Fall = true
has_target (Jump to) = true
has_target (Branch c a b to) = true
has_target (Call link to) = true
has_target (PartJump link part to) = true
has_target (Indirect link at offset) = false
has_target (Stop word) = false

abbrev pub has_next : Term → Bool
has_next Fall = false
has_next (Jump to) = false
has_next (Branch c a b to) = true
has_next (Call link to) = true
has_next (PartJump link part to) = not (link == 0)
has_next (Indirect link at offset) = not (link == 0)
has_next (Stop word) = false

pub bare_target : (t : Term) → has_target (bare_term t) ≡ has_target t
bare_target Fall = refl
bare_target (Jump to) = refl
bare_target (Branch c a b to) = refl
bare_target (Call link to) = refl
bare_target (PartJump link part to) = refl
bare_target (Indirect link at offset) = refl
bare_target (Stop word) = refl

pub bare_next : (t : Term) → has_next (bare_term t) ≡ has_next t
bare_next Fall = refl
bare_next (Jump to) = refl
bare_next (Branch c a b to) = refl
bare_next (Call link to) = refl
bare_next (PartJump link part to) = refl
bare_next (Indirect link at offset) = refl
bare_next (Stop word) = refl

abbrev NextThere : Term → Option ℕ → Type 0
NextThere t next = goes_on t ≡ true → IsSome next

is_there : (o : Option ℕ) → IsSome o → IsThere true o
is_there None s = absurd (cc)
is_there (Some n) s = tt

chosen_there : (b : Bool) (o : Option ℕ) → (b ≡ true → IsSome o) → IsThere b (if b then o else None)
chosen_there true o s = is_there o (s refl)
chosen_there false o s = tt

pub target_there : (t : Term) (next : Option ℕ) → NextThere t next → IsThere (has_target t) (term_leads (Some t) (slot_of (Some t) next)).1
target_there Fall next s = is_there next (s refl)
target_there (Jump to) next s = tt
target_there (Branch c a b to) next s = tt
target_there (Call link to) next s = tt
target_there (PartJump link part to) next s = tt
target_there (Indirect link at offset) next s = tt
target_there (Stop word) next s = tt

pub next_there : (t : Term) (next : Option ℕ) → NextThere t next → IsThere (has_next t) (term_leads (Some t) (slot_of (Some t) next)).0
next_there Fall next s = tt
next_there (Jump to) next s = tt
next_there (Branch c a b to) next s = is_there next (s refl)
next_there (Call link to) next s = is_there next (s refl)
next_there (PartJump link part to) next s = chosen_there (not (link == 0)) next s
next_there (Indirect link at offset) next s = chosen_there (not (link == 0)) next s
next_there (Stop word) next s = tt

-- ---- the slot behind a block

pub slot_behind : (blocks : List Block) (name : ℕ) (at : IsAt blocks name) → next_key (named blocks) name ≡ first_key (named at.back)
slot_behind blocks name at =
    ap (λ bs. next_key (named bs) name) at.whole
    ∙ ap (λ es. next_key es name) (named-append at.front (at.block ∷ at.back))
    ∙ ap (λ k. next_key (named at.front ++ (k, at.block) ∷ named at.back) name) at.has_name
    ∙ ap first_key (behind-append (named at.front) (named at.back) name at.block at.ahead)

-- it is a block
pub slot_known : (g : Graph) (n m : ℕ) → HasBlock g n → next_of g n ≡ Some m → HasBlock g m
slot_known g n m has e =
    let at = located g.blocks n has in
    subst (λ bs. IsSome (value_of (named bs) m)) (sym at.whole) (later at.front at.back at.block (first at.back (sym (slot_behind g.blocks n at) ∙ e)))
  where
    later : (front back : List Block) (x : Block) → IsSome (value_of (named back) m) → IsSome (value_of (named (front ++ (x ∷ back))) m)
    later [] back x some = elim (cases_Bool (x.name == m)) [ inl here ↦ rw here refl | inr apart ↦ rw apart some ]
    later (y ∷ front) back x some = elim (cases_Bool (y.name == m)) [ inl here ↦ rw here refl | inr apart ↦ rw apart (later front back x some) ]

    first : (back : List Block) → first_key (named back) ≡ Some m → IsSome (value_of (named back) m)
    first [] f = absurd (cc)
    first (b ∷ back) f = let same : b.name ≡ m = cc in rw (eq-eqb b.name m same) refl

-- a term that goes on has a slot behind it
pub slot_after : (g : Graph) (n : ℕ) (t : Term) → IsGraph g → HasBlock g n → term_of g n ≡ Some t → goes_on t ≡ true → IsSome (next_of g n)
slot_after g n t rules has e on =
    let at = located g.blocks n has in
    let same : at.block.term ≡ t = let f : Some at.block.term ≡ Some t = sym (ap block_term (block_at g.blocks n at)) ∙ e in cc in
    let ends : last_goes_on (at.block ∷ at.back) ≡ false = sym (last_goes_on-append at.front at.block at.back) ∙ sym (ap last_goes_on at.whole) ∙ rules.ends in
    subst (λ o. IsSome o) (sym (slot_behind g.blocks n at)) (by_back at.block at.back (ap goes_on same ∙ on) ends)
  where
    by_back : (b : Block) (back : List Block) → goes_on b.term ≡ true → last_goes_on (b ∷ back) ≡ false → IsSome (first_key (named back))
    by_back b [] on ends = absurd (cc)
    by_back b (c ∷ back) on ends = refl

-- ---- what a block refers to is there

abbrev pub IsBlockOf : Graph → Option ℕ → Type 0
IsBlockOf g None = Unit {0}
IsBlockOf g (Some n) = HasBlock g n

module _ (g : Graph) (rules : IsGraph g) (block : ℕ) where
  listed_known : (xs : List ℕ) (o : Option ℕ) → xs ≡ option_to_list o → All (HasBlock g) xs → IsBlockOf g o
  listed_known xs None e all = tt
  listed_known xs (Some n) e all = All-contains (HasBlock g) xs n all (subst (λ ys. Contains ys n) (sym e) (0, omega arith, refl))

  -- an item's
  item_known_in : (o : Option Block) (item : Item) (at : ℕ) → block_of g block ≡ o → slice_get (block_items o) at ≡ Some item → IsBlockOf g (item_name item)
  item_known_in None item at e f = absurd (cc)
  item_known_in (Some b) item at e f =
      let stands = block_stands g block b rules e in
      let here = All-contains (ItemStands (HasBlock g) (HasProcedure g)) b.items item stands.items (at_contains b.items at item f) in
      listed_known (item_uses item) (item_name item) (item_named item) here.names

  pub item_known : (item : Item) (at : ℕ) → slice_get (items_of g block) at ≡ Some item → IsBlockOf g (item_name item)
  item_known item at f = item_known_in (block_of g block) item at refl f

  term_known_in : (o : Option Block) (t : Term) → block_of g block ≡ o → block_term o ≡ Some t → IsBlockOf g (term_name t)
  term_known_in None t e f = absurd (cc)
  term_known_in (Some b) t e f =
      let stands = block_stands g block b rules e in
      let same : b.term ≡ t = some_same f in
      listed_known (term_uses t) (term_name t) (term_named t) (subst (λ u. All (HasBlock g) (term_uses u)) same stands.names)
    where
      term_named : (t : Term) → term_uses t ≡ option_to_list (term_name t)
      term_named Fall = refl
      term_named (Jump to) = refl
      term_named (Branch c a b to) = refl
      term_named (Call link to) = refl
      term_named (PartJump link part to) = refl
      term_named (Indirect link at offset) = refl
      term_named (Stop word) = refl

  -- the two to which its term leads
  slot_is : HasBlock g block → (o : Option ℕ) → next_of g block ≡ o → IsBlockOf g o
  slot_is has None e = tt
  slot_is has (Some n) e = slot_known g block n has e

  pick : (b : Bool) (o : Option ℕ) → IsBlockOf g o → IsBlockOf g (if b then o else None)
  pick true o k = k
  pick false o k = tt

  leads_known_in : HasBlock g block → (o : Option Term) → term_of g block ≡ o → IsBlockOf g (term_leads o (slot_of o (next_of g block))).0 × IsBlockOf g (term_leads o (slot_of o (next_of g block))).1
  leads_known_in has None e = (tt, tt)
  leads_known_in has (Some t) e =
      let slot = pick (goes_on t) (next_of g block) (slot_is has (next_of g block) refl) in
      let name = term_known_in (block_of g block) t refl e in
      elim (cases_Bool (is_fall t)) [
        | inl fall ↦ rw fall (tt, slot)
        | inr other ↦ rw other (slot, name)
      ]

  pub leads_known : HasBlock g block → IsBlockOf g (leads_on g block).0 × IsBlockOf g (leads_on g block).1
  leads_known has = leads_known_in has (term_of g block) refl

  -- all of its references
  next_known : (o : Option Term) (next : Option ℕ) → IsBlockOf g next → All (HasBlock g) (next_references o next)
  next_known None next k = All-nil (HasBlock g)
  next_known (Some t) next k = chosen_known (goes_on t) next k
    where
      chosen_known : (b : Bool) (o : Option ℕ) → IsBlockOf g o → All (HasBlock g) (if b then option_to_list o else [])
      chosen_known true None k = All-nil (HasBlock g)
      chosen_known true (Some n) k = All-cons (HasBlock g) n [] k (All-nil (HasBlock g))
      chosen_known false o k = All-nil (HasBlock g)

  known_in : HasBlock g block → (o : Option Block) → block_of g block ≡ o → All (HasBlock g) (items_uses (block_items o) ++ (target_references (block_term o) ++ next_references (block_term o) (next_of g block)))
  known_in has None e = All-nil (HasBlock g)
  known_in has (Some b) e =
      let stands = block_stands g block b rules e in
      All-append (HasBlock g) (items_uses b.items) (target_references (Some b.term) ++ next_references (Some b.term) (next_of g block))
      (All-flat_map (HasBlock g) item_uses b.items (λ k d h. let item = stands.items k d h in item.names))
      (All-append (HasBlock g) (term_uses b.term) (next_references (Some b.term) (next_of g block)) stands.names (next_known (Some b.term) (next_of g block) (slot_is has (next_of g block) refl)))

  pub references_known : HasBlock g block → (number n : ℕ) → slice_get (references_of g block) number ≡ Some n → HasBlock g n
  references_known has number n e = All-contains (HasBlock g) (references_of g block) n (known_in has (block_of g block) refl) (at_contains (references_of g block) number n e)
