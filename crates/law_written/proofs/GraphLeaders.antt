-- Where a graph is canonical, each reached block is a leader.
use Rattle.std.proofs.Common.{◌≡◌, ℕ, zero, suc, Bool, true, false, not, ◌&&◌, ◌==◌, ◌⊎◌, inl, inr, List, [], ◌∷◌, ◌++◌, slice_get, if◌then◌else◌, refl, eq-eqb}
use Rattle.std.specs.List.{All, flat_map}
use Rattle.std.proofs.lemmas.Bool.{cases_Bool, or_left, or_right}
use Rattle.std.proofs.lemmas.List.Elements.{All-nil, All-cons, All-head, All-tail, All-append, All-contains}
use Rattle.sq_isa.specs.Registers.{is_among}
use Rattle.sq_graph.specs.declared.item.Item.{Item}
use Rattle.sq_graph.specs.declared.item.Item.TheVariants.{Op, Hi, Lo, Out}
use Rattle.sq_graph.specs.Graph.{Block, Procedure, Graph}
use Rattle.sq_graph.specs.Leaders.{is_fall, follows_a_term, is_leader, FallsIntoLeaders, IsCanonical}
use Rattle.sq_graph.specs.Rules.{IsGraph}
use Rattle.sq_graph.specs.Terms.{goes_on}
use Rattle.sq_graph.specs.Uses.{item_uses, items_uses, term_uses, code_word_uses, uses}
use Rattle.sq_graph.specs.Walks.{procedure_names, called_names, first_name, block_successors, successors_in, IsReachedBlock, entry, code_word, walk}
use Rattle.sq_graph.proofs.CanonicalLaws.{used_are_leaders}
use Rattle.sq_graph.proofs.RulesByBlock.{ItemStands, BlockStands, BodyStands, IsByBlock, by_block}

module _ (g : Graph) (rules : IsGraph g) (canonical : IsCanonical g) where
  abbrev Leads : ℕ → Type 0
  Leads n = is_leader g n ≡ true

  abbrev Any : ℕ → Type 0
  Any n = Unit {0}

  by : IsByBlock Leads Any g
  by = by_block Leads Any g rules (used_are_leaders g) (λ k d h. tt)

  each_name : (items : List Item) → All (ItemStands Leads Any) items → All Leads (items_uses items)
  each_name [] all = All-nil Leads
  each_name (item ∷ items) all =
      let here = All-head {X = Item} (ItemStands Leads Any) item items all in
      All-append Leads (item_uses item) (items_uses items) here.names (each_name items (All-tail {X = Item} (ItemStands Leads Any) item items all))

  procedure_leads : (ps : List Procedure) (k : ℕ) → All (BodyStands Leads Any) ps → All Leads (procedure_names (slice_get ps k))
  procedure_leads [] k all = All-nil Leads
  procedure_leads (p ∷ ps) zero all = let here = All-head {X = Procedure} (BodyStands Leads Any) p ps all in each_name p.body here.items
  procedure_leads (p ∷ ps) (suc k) all = procedure_leads ps k (All-tail {X = Procedure} (BodyStands Leads Any) p ps all)

  called_lead : (item : Item) → ItemStands Leads Any item → All Leads (called_names g.procedures item)
  called_lead (Op insn) here = here.names
  called_lead (Hi rd to) here = here.names
  called_lead (Lo rd rs to) here = here.names
  called_lead (Out p) here = procedure_leads g.procedures p by.bodies

  items_lead : (items : List Item) → All (ItemStands Leads Any) items → All Leads (flat_map (called_names g.procedures) items)
  items_lead [] all = All-nil Leads
  items_lead (item ∷ items) all =
      All-append Leads (called_names g.procedures item) (flat_map (called_names g.procedures) items)
      (called_lead item (All-head {X = Item} (ItemStands Leads Any) item items all))
      (items_lead items (All-tail {X = Item} (ItemStands Leads Any) item items all))

  -- the next slot: it is fallen into, or stands behind another term that goes on
  next_leads : (b : Block) (bs : List Block) → FallsIntoLeaders (is_leader g) (b ∷ bs) → ((n : ℕ) → follows_a_term (b ∷ bs) n ≡ true → Leads n) → All Leads (if goes_on b.term then first_name bs else [])
  next_leads b bs falls follows = by_test (goes_on b.term) refl bs falls follows
    where
      by_next : (c : Block) (cs : List Block) → goes_on b.term ≡ true → (is_fall b.term ≡ true) ⊎ (is_fall b.term ≡ false) → FallsIntoLeaders (is_leader g) (b ∷ c ∷ cs) → ((n : ℕ) → follows_a_term (b ∷ c ∷ cs) n ≡ true → Leads n) → Leads c.name
      by_next c cs goes (inl fall) falls follows = falls.0 fall
      by_next c cs goes (inr other) falls follows =
          let same : (c.name == c.name) ≡ true = eq-eqb c.name c.name refl in
          let here : (goes_on b.term && not (is_fall b.term) && c.name == c.name) ≡ true = rw (goes, other, same) refl in
          follows c.name (or_left (goes_on b.term && not (is_fall b.term) && c.name == c.name) (follows_a_term (c ∷ cs) c.name) here)

      by_test : (goes : Bool) → goes_on b.term ≡ goes → (bs : List Block) → FallsIntoLeaders (is_leader g) (b ∷ bs) → ((n : ℕ) → follows_a_term (b ∷ bs) n ≡ true → Leads n) → All Leads (if goes then first_name bs else [])
      by_test false is bs falls follows = All-nil Leads
      by_test true is [] falls follows = All-nil Leads
      by_test true is (c ∷ cs) falls follows = All-cons Leads c.name [] (by_next c cs is (cases_Bool (is_fall b.term)) falls follows) (All-nil Leads)

  rest_falls : (b : Block) (bs : List Block) → FallsIntoLeaders (is_leader g) (b ∷ bs) → FallsIntoLeaders (is_leader g) bs
  rest_falls b [] falls = tt
  rest_falls b (c ∷ cs) falls = falls.1

  rest_follows : (b : Block) (bs : List Block) (n : ℕ) → follows_a_term bs n ≡ true → follows_a_term (b ∷ bs) n ≡ true
  rest_follows b [] n follows = absurd (cc)
  rest_follows b (c ∷ cs) n follows = or_right (goes_on b.term && not (is_fall b.term) && c.name == n) (follows_a_term (c ∷ cs) n) follows

  -- where a block leads are leaders
  successors_lead : (bs : List Block) (n : ℕ) → All (BlockStands Leads Any) bs → FallsIntoLeaders (is_leader g) bs → ((m : ℕ) → follows_a_term bs m ≡ true → Leads m) → All Leads (successors_in g.procedures bs n)
  successors_lead [] n all falls follows = All-nil Leads
  successors_lead (b ∷ bs) n all falls follows =
      by_test (cases_Bool (b.name == n)) (successors_lead bs n (All-tail {X = Block} (BlockStands Leads Any) b bs all) (rest_falls b bs falls) (λ m h. follows m (rest_follows b bs m h)))
    where
      here : All Leads (block_successors g.procedures b bs)
      here =
          let own = All-head {X = Block} (BlockStands Leads Any) b bs all in
          All-append Leads (term_uses b.term ++ (if goes_on b.term then first_name bs else [])) (flat_map (called_names g.procedures) b.items)
          (All-append Leads (term_uses b.term) (if goes_on b.term then first_name bs else []) own.names (next_leads b bs falls follows))
          (items_lead b.items own.items)

      by_test : ((b.name == n) ≡ true) ⊎ ((b.name == n) ≡ false) → All Leads (successors_in g.procedures bs n) → All Leads (successors_in g.procedures (b ∷ bs) n)
      by_test (inl e) more = rw e here
      by_test (inr e) more = rw e more

  pub reached_leads : (n : ℕ) → IsReachedBlock g n → is_leader g n ≡ true
  reached_leads n entry = by.entry
  reached_leads n (code_word h) = All-contains Leads (code_word_uses g.code_words) n by.words h
  reached_leads n (walk {n = m} reached h) =
      All-contains Leads (successors_in g.procedures g.blocks m) n
      (successors_lead g.blocks m by.blocks canonical.leaders (λ k follows. or_right (is_among (uses g) k) (follows_a_term g.blocks k) follows)) h
