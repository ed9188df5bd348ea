-- What the canonical graph of a graph keeps, and that it is canonical.
use Rattle.std.proofs.Common.{◌≡◌, ℕ, ◌≤◌, ◌==◌, Bool, true, false, not, ◌||◌, ◌⊎◌, get_or, List, [], ◌∷◌, ◌++◌, map, length, IsSome, refl, sym, ap, ◌∙◌, subst, inl, inr, arith}
use Rattle.std.proofs.lemmas.Bool.{cases_Bool, or_left, or_right, eq-eqb}
use Rattle.std.proofs.lemmas.List.{length-map}
use Rattle.std.proofs.lemmas.List.Elements.{All-nil, All-cons, All-head, All-tail, All-map, All-same, All-weaker, All-filter}
use Rattle.std.proofs.lemmas.List.Sums.{sum_by-cons}
use Rattle.std.specs.List.{All, flat_map, sum_by}
use Rattle.sq_arena.specs.Entries.{keys, value_of}
use Rattle.sq_isa.specs.Registers.{is_among}
use Rattle.sq_graph.specs.declared.item.Item.{Item}
use Rattle.sq_graph.specs.declared.item.Term.{Term}
use Rattle.sq_graph.specs.declared.item.Term.TheVariants.{Fall, Jump, Branch, Call, PartJump, Indirect, Stop}
use Rattle.sq_graph.specs.Graph.{Block, Procedure, Graph}
use Rattle.sq_graph.specs.Blocks.{named, HasBlock, HasProcedure, items_of_bodies, all_items}
use Rattle.sq_graph.specs.Uses.{terms_uses, items_uses, code_word_uses, uses, item_calls}
use Rattle.sq_graph.specs.Rules.{IsGraph, ItemFits, TermFits}
use Rattle.sq_graph.specs.Words.{term_words, block_words, procedure_words, words_of}
use Rattle.sq_graph.specs.Renames.{retargeted_item, retargeted_items, retargeted_term, retargeted_block, retargeted_procedure, retargeted_words, retargeted}
use Rattle.sq_graph.specs.Leaders.{is_fall, is_bare, is_leader, follows_a_term, FallsIntoLeaders, IsCanonical}
use Rattle.sq_graph.specs.Canonical.{bypassed_each, joined_onto, joined_blocks, joined_by, joined, canonical_of}
use Rattle.sq_graph.specs.Bypasses.{kept, passed, all_bypassed}
use Rattle.sq_graph.proofs.SplitRules.{distinct_by_keys}
use Rattle.sq_graph.proofs.RetargetRules.{all_items-other, uses-other, other_rules}
use Rattle.sq_graph.proofs.Bypassing.{bypassed_each_is_one}
use Rattle.sq_graph.proofs.Kept.{items_of_blocks-kept, terms_uses-kept, words-kept, length-kept, kept-other, none_bare, ends-kept, distinct-kept, passed-stays}
use Rattle.sq_graph.proofs.Joined.{items_of_blocks-joined, terms_uses-joined, words-joined, length-joined, ends-joined, follows-joined, distinct-joined, leader-joined, terms_fit-joined, none_bare-joined, falls-joined}

-- the graph without its blocks that are empty with Fall
abbrev pub without_bare : Graph → Graph
without_bare g = record g { blocks = kept g.blocks }

all_items-without : (g : Graph) → all_items (without_bare g) ≡ all_items g
all_items-without g = ap (λ is. is ++ items_of_bodies g.procedures) (items_of_blocks-kept g.blocks)

uses-without : (g : Graph) → uses (without_bare g) ≡ uses g
uses-without g =
    ap (λ us. g.entry ∷ (code_word_uses g.code_words ++ (us ++ items_uses (all_items (without_bare g))))) (terms_uses-kept g.blocks)
    ∙ ap (λ is. g.entry ∷ (code_word_uses g.code_words ++ (terms_uses g.blocks ++ items_uses is))) (all_items-without g)

-- where nothing uses a block that goes, the rules hold afterwards
without_rules : (g : Graph) → IsGraph g → All (HasBlock (without_bare g)) (uses g) → IsGraph (without_bare g)
without_rules g rules named_all =
    let items = all_items-without g in
    record {
      distinct = distinct-kept g.blocks rules.distinct;
      named_all = subst (λ us. All (HasBlock (without_bare g)) us) (sym (uses-without g)) named_all;
      called_all = subst (λ (is : List Item). All (HasProcedure g) (flat_map item_calls is)) (sym items) rules.called_all;
      ends = ends-kept g.blocks rules.ends;
      code_words = rules.code_words;
      items = subst (λ (is : List Item). All ItemFits is) (sym items) rules.items;
      terms = All-filter {X = Block} (λ b. not (is_bare b)) (λ b. TermFits b.term) g.blocks rules.terms;
      procedures = rules.procedures;
    }

keys-other : (f : ℕ → ℕ) (bs : List Block) → keys (named (map (retargeted_block f) bs)) ≡ keys (named bs)
keys-other f [] = refl
keys-other f (b ∷ bs) = ap (λ ks. b.name ∷ ks) (keys-other f bs)

has_name-other : (f : ℕ → ℕ) (bs : List Block) (name : ℕ) → IsSome (value_of (named bs) name) → IsSome (value_of (named (map (retargeted_block f) bs)) name)
has_name-other f [] name some = some
has_name-other f (b ∷ bs) name some =
    elim (cases_Bool (b.name == name)) [
      | inl here ↦ rw here refl
      | inr apart ↦ rw apart (has_name-other f bs name (rw apart at some))
    ]

has_name-kept : (bs : List Block) (name : ℕ) → IsSome (value_of (named (kept bs)) name) → IsSome (value_of (named bs) name)
has_name-kept [] name some = some
has_name-kept (b ∷ bs) name some =
    elim (cases_Bool (b.name == name)) [
      | inl here ↦ rw here refl
      | inr apart ↦
          rw apart
          (has_name-kept bs name
          (elim (cases_Bool (is_bare b)) [
            | inl bare ↦ rw bare at some
            | inr solid ↦ rw (solid, apart) at some
          ]))
    ]

-- each name that is used goes to a block that is kept
pub all_bypassed_is_graph : (g : Graph) → IsGraph g → IsGraph (all_bypassed g)
all_bypassed_is_graph g rules =
    let f = passed g.blocks in
    let h : Graph = retargeted f g in
    let bs = map (retargeted_block f) g.blocks in
    let goes_to : (k : ℕ) → HasBlock g k → IsSome (value_of (named (kept bs)) (f k)) = λ k some.
    subst (λ cs. IsSome (value_of (named cs) (f k))) (sym (kept-other f g.blocks)) (has_name-other f (kept g.blocks) (f k) (passed-stays g.blocks k rules.distinct rules.ends some)) in
    let h_rules : IsGraph h = other_rules f (λ b. b.name) g rules (distinct_by_keys bs g.blocks (keys-other f g.blocks) rules.distinct) (λ k some. has_name-kept bs (f k) (goes_to k some)) in
    let used : uses h ≡ map f (uses g) = uses-other f (λ b. b.name) g in
    let named_all : All (HasBlock (without_bare h)) (uses h) =
    All-same (HasBlock (without_bare h)) (uses h) (map f (uses g)) used
    (All-map (HasBlock (without_bare h)) f (uses g) (All-weaker (HasBlock g) (λ k. HasBlock (without_bare h) (f k)) goes_to (uses g) rules.named_all)) in
    subst (λ cs. IsGraph (record h { blocks = cs })) (kept-other f g.blocks) (without_rules h h_rules named_all)

pub all_bypassed_items : (g : Graph) → all_items (all_bypassed g) ≡ retargeted_items (passed g.blocks) (all_items g)
all_bypassed_items g =
    all_items-other (passed g.blocks) (λ b. b.name) (without_bare g) ∙ ap (retargeted_items (passed g.blocks)) (all_items-without g)

-- joining changes no item and no use
pub all_items-joined_by : (leads : ℕ → Bool) (g : Graph) → all_items (joined_by leads g) ≡ all_items g
all_items-joined_by leads g = ap (λ is. is ++ items_of_bodies g.procedures) (items_of_blocks-joined leads g.blocks)

pub uses-joined_by : (leads : ℕ → Bool) (g : Graph) → uses (joined_by leads g) ≡ uses g
uses-joined_by leads g =
    ap (λ us. g.entry ∷ (code_word_uses g.code_words ++ (us ++ items_uses (all_items (joined_by leads g))))) (terms_uses-joined leads g.blocks)
    ∙ ap (λ is. g.entry ∷ (code_word_uses g.code_words ++ (terms_uses g.blocks ++ items_uses is))) (all_items-joined_by leads g)

-- where all that is used leads, the rules hold afterwards
pub joined_by_is_graph : (leads : ℕ → Bool) (g : Graph) → IsGraph g → All (λ x. leads x ≡ true) (uses g) → IsGraph (joined_by leads g)
joined_by_is_graph leads g rules lead =
    let items = all_items-joined_by leads g in
    record {
      distinct = distinct-joined leads g.blocks rules.distinct;
      named_all =
          subst (λ us. All (HasBlock (joined_by leads g)) us) (sym (uses-joined_by leads g))
          (λ k d below. leader-joined leads g.blocks (get_or (uses g) k d) (lead k d below) (rules.named_all k d below));
      called_all = subst (λ (is : List Item). All (HasProcedure g) (flat_map item_calls is)) (sym items) rules.called_all;
      ends = ends-joined leads g.blocks ∙ rules.ends;
      code_words = rules.code_words;
      items = subst (λ (is : List Item). All ItemFits is) (sym items) rules.items;
      terms = terms_fit-joined leads g.blocks rules.terms;
      procedures = rules.procedures;
    }

pub all_items-joined : (g : Graph) → all_items (joined g) ≡ all_items g
all_items-joined g = all_items-joined_by (is_leader g) g

pub uses-joined : (g : Graph) → uses (joined g) ≡ uses g
uses-joined g = uses-joined_by (is_leader g) g

pub is_leader-joined : (g : Graph) (name : ℕ) → is_leader (joined g) name ≡ is_leader g name
is_leader-joined g name =
    ap (λ us. is_among us name || follows_a_term (joined g).blocks name) (uses-joined g) ∙ ap (λ t. is_among (uses g) name || t) (follows-joined (is_leader g) g.blocks name)

-- what is used is a leader
among : (xs : List ℕ) → All (λ x. is_among xs x ≡ true) xs
among [] = All-nil (λ x. is_among [] x ≡ true)
among (y ∷ ys) =
    All-cons (λ x. is_among (y ∷ ys) x ≡ true) y ys
    (or_left (y == y) (is_among ys y) (eq-eqb y y refl))
    (All-weaker (λ x. is_among ys x ≡ true) (λ x. is_among (y ∷ ys) x ≡ true) (λ x there. or_right (y == x) (is_among ys x) there) ys (among ys))

pub used_are_leaders : (g : Graph) → All (λ x. is_leader g x ≡ true) (uses g)
used_are_leaders g = All-weaker (λ x. is_among (uses g) x ≡ true) (λ x. is_leader g x ≡ true) (λ x there. or_left (is_among (uses g) x) (follows_a_term g.blocks x) there) (uses g) (among (uses g))

pub joined_is_graph : (g : Graph) → IsGraph g → IsGraph (joined g)
joined_is_graph g rules = joined_by_is_graph (is_leader g) g rules (used_are_leaders g)

pub falls_agree : (leads others : ℕ → Bool) (bs : List Block) → ((name : ℕ) → leads name ≡ true → others name ≡ true) → FallsIntoLeaders leads bs → FallsIntoLeaders others bs
falls_agree leads others [] more falls = tt
falls_agree leads others (b ∷ []) more falls = tt
falls_agree leads others (b ∷ next ∷ bs) more falls =
    (λ fall. more next.name (falls.0 fall), falls_agree leads others (next ∷ bs) more falls.1)

pub joined_is_canonical : (g : Graph) → All (λ b. is_bare b ≡ false) g.blocks → IsCanonical (joined g)
joined_is_canonical g none = record {
  no_bare = none_bare-joined (is_leader g) g.blocks none;
  leaders = falls_agree (is_leader g) (is_leader (joined g)) (joined g).blocks (λ name leader. is_leader-joined g name ∙ leader) (falls-joined (is_leader g) g.blocks);
}

-- the canonical graph is that in which blocks are joined once all that are empty with Fall are bypassed
pub canonical_is_joined : (g : Graph) → IsGraph g → canonical_of g ≡ joined (all_bypassed g)
canonical_is_joined g rules = ap joined (bypassed_each_is_one g rules)

pub canonical_is_graph : (g : Graph) → IsGraph g → IsGraph (canonical_of g)
canonical_is_graph g rules =
    subst IsGraph (sym (canonical_is_joined g rules)) (joined_is_graph (all_bypassed g) (all_bypassed_is_graph g rules))

all_bypassed_none_bare : (g : Graph) → All (λ b. is_bare b ≡ false) (all_bypassed g).blocks
all_bypassed_none_bare g =
    subst (λ (bs : List Block). All (λ b. is_bare b ≡ false) bs) (kept-other (passed g.blocks) g.blocks) (none_bare (map (retargeted_block (passed g.blocks)) g.blocks))

pub canonical_is_canonical : (g : Graph) → IsGraph g → IsCanonical (canonical_of g)
canonical_is_canonical g rules =
    subst IsCanonical (sym (canonical_is_joined g rules)) (joined_is_canonical (all_bypassed g) (all_bypassed_none_bare g))

pub term_words-other : (f : ℕ → ℕ) (t : Term) → term_words (retargeted_term f t) ≡ term_words t
term_words-other f Fall = refl
term_words-other f (Jump to) = refl
term_words-other f (Branch c a b to) = refl
term_words-other f (Call link to) = refl
term_words-other f (PartJump link part to) = refl
term_words-other f (Indirect link at offset) = refl
term_words-other f (Stop word) = refl

-- other names take as many words
block_words-other : (f : ℕ → ℕ) (bs : List Block) → sum_by block_words (map (retargeted_block f) bs) ≡ sum_by block_words bs
block_words-other f [] = refl
block_words-other f (b ∷ bs) =
    omega (
      arith,
      block_words-other f bs,
      sum_by-cons block_words b bs,
      sum_by-cons block_words (retargeted_block f b) (map (retargeted_block f) bs),
      length-map b.items (retargeted_item f),
      term_words-other f b.term,
    )

pub procedure_words-other : (f : ℕ → ℕ) (ps : List Procedure) → sum_by procedure_words (map (retargeted_procedure f) ps) ≡ sum_by procedure_words ps
procedure_words-other f [] = refl
procedure_words-other f (p ∷ ps) =
    omega (
      arith,
      procedure_words-other f ps,
      sum_by-cons procedure_words p ps,
      sum_by-cons procedure_words (retargeted_procedure f p) (map (retargeted_procedure f) ps),
      length-map p.body (retargeted_item f),
    )

pub canonical_keeps_words : (g : Graph) → IsGraph g → words_of (canonical_of g) ≡ words_of g
canonical_keeps_words g rules =
    ap words_of (canonical_is_joined g rules)
    ∙ omega (
      arith,
      words-joined (is_leader (all_bypassed g)) (all_bypassed g).blocks,
      block_words-other (passed g.blocks) (kept g.blocks),
      words-kept g.blocks,
      procedure_words-other (passed g.blocks) g.procedures,
    )

-- no item moves
pub canonical_items : (g : Graph) → IsGraph g → all_items (canonical_of g) ≡ retargeted_items (passed g.blocks) (all_items g)
canonical_items g rules = ap all_items (canonical_is_joined g rules) ∙ all_items-joined (all_bypassed g) ∙ all_bypassed_items g

-- the other parts have the names to which theirs are passed
pub canonical_entry : (g : Graph) → IsGraph g → (canonical_of g).entry ≡ passed g.blocks g.entry
canonical_entry g rules = ap (λ (h : Graph). h.entry) (canonical_is_joined g rules)

pub canonical_code_words : (g : Graph) → IsGraph g → (canonical_of g).code_words ≡ retargeted_words (passed g.blocks) g.code_words
canonical_code_words g rules = ap (λ (h : Graph). h.code_words) (canonical_is_joined g rules)

pub canonical_procedures : (g : Graph) → IsGraph g → (canonical_of g).procedures ≡ map (retargeted_procedure (passed g.blocks)) g.procedures
canonical_procedures g rules = ap (λ (h : Graph). h.procedures) (canonical_is_joined g rules)

-- no more blocks
pub canonical_length : (g : Graph) → IsGraph g → length (canonical_of g).blocks ≤ length g.blocks
canonical_length g rules =
    omega (
      arith,
      ap (λ (h : Graph). length h.blocks) (canonical_is_joined g rules),
      length-joined (is_leader (all_bypassed g)) (all_bypassed g).blocks,
      length-map (kept g.blocks) (retargeted_block (passed g.blocks)),
      length-kept g.blocks,
    )

-- nothing is bypassed and nothing joined where a graph is canonical
pub none_bypassed : (bs : List Block) (g : Graph) → All (λ b. is_bare b ≡ false) bs → bypassed_each bs g ≡ g
none_bypassed [] g none = refl
none_bypassed (b ∷ bs) g none =
    rw (All-head {X = Block} (λ c. is_bare c ≡ false) b bs none) (none_bypassed bs g (All-tail {X = Block} (λ c. is_bare c ≡ false) b bs none))

pub none_joined : (leads : ℕ → Bool) (bs : List Block) → FallsIntoLeaders leads bs → joined_blocks leads bs ≡ bs
none_joined leads [] falls = refl
none_joined leads (b ∷ []) falls = refl
none_joined leads (b ∷ next ∷ bs) falls = ap (joined_onto leads b) (none_joined leads (next ∷ bs) falls.1) ∙ apart (cases_Bool (is_fall b.term))
  where
    apart : (is_fall b.term ≡ true) ⊎ (is_fall b.term ≡ false) → joined_onto leads b (next ∷ bs) ≡ b ∷ next ∷ bs
    apart (inl fall) = rw (fall, falls.0 fall) refl
    apart (inr stays) = rw stays refl

pub canonical_again : (g : Graph) → IsCanonical g → canonical_of g ≡ g
canonical_again g canonical =
    ap joined (none_bypassed g.blocks g canonical.no_bare) ∙ ap (λ bs. record g { blocks = bs }) (none_joined (is_leader g) g.blocks canonical.leaders)
