-- The blocks of a graph under other names.
use Rattle.std.proofs.Common.{◌≡◌, ◌⊎◌, inl, inr, ℕ, true, false, ◌==◌, nat_eq, List, [], ◌∷◌, map, Option, Some, None, IsSome, is_some, refl, sym, ap, ◌∙◌, subst}
use Rattle.std.specs.List.{All, AllByRecursion, IsDistinct}
use Rattle.std.specs.Option.{option_map}
use Rattle.std.proofs.lemmas.Bool.{cases_Bool, eqb-true, eqb-false, eq-eqb}
use Rattle.std.proofs.lemmas.List.Elements.{All-head, All-tail}
use Rattle.sq_arena.specs.Entries.{keys, value_of, HasDistinctKeys}
use Rattle.sq_graph.specs.declared.item.Item.{Item}
use Rattle.sq_graph.specs.declared.item.Item.TheVariants.{Op, Hi, Lo, Out}
use Rattle.sq_graph.specs.declared.item.Term.{Term}
use Rattle.sq_graph.specs.declared.item.Term.TheVariants.{Fall, Jump, Branch, Call, PartJump, Indirect, Stop}
use Rattle.sq_graph.specs.declared.parts.CodeRef.{CodeRef}
use Rattle.sq_graph.specs.Graph.{Block, Procedure, Graph}
use Rattle.sq_graph.specs.Alike.{IsOneToOne}
use Rattle.sq_graph.specs.Blocks.{named, block_of, HasBlock, HasProcedure}
use Rattle.sq_graph.specs.Renames.{retargeted_item, retargeted_items, retargeted_term, retargeted_procedure, retargeted_words, renamed_block, renamed}
use Rattle.sq_graph.specs.Rules.{IsGraph}
use Rattle.sq_graph.specs.Uses.{item_uses, term_uses, code_word_uses}
use Rattle.sq_graph.proofs.Bypassing.{items_twice, term_twice, words_twice, procedures_twice}
use Rattle.sq_graph.proofs.RetargetRules.{other_block, other_graph, other_rules}
use Rattle.sq_graph.proofs.RulesByBlock.{ItemStands, BlockStands, BodyStands, by_block}

-- each block of a list is under its name
pub names_there : (bs : List Block) → AllByRecursion (λ b. IsSome (value_of (named bs) b.name)) bs
names_there [] = tt
names_there (x ∷ rest) = (rw (eq-eqb x.name x.name refl) refl, widen rest (names_there rest))
  where
    one : (b : Block) → IsSome (value_of (named rest) b.name) → IsSome (value_of (named (x ∷ rest)) b.name)
    one b there = elim (cases_Bool (x.name == b.name)) [ inl same ↦ rw same refl | inr apart ↦ rw apart there ]

    widen : (bs : List Block) → AllByRecursion (λ b. IsSome (value_of (named rest) b.name)) bs → AllByRecursion (λ b. IsSome (value_of (named (x ∷ rest)) b.name)) bs
    widen [] all = tt
    widen (b ∷ bs) all = (one b all.0, widen bs all.1)

-- what holds of the name of each block of a list holds of each name that has a block there
pub of_each_name : (P : ℕ → Type 0) (bs : List Block) (n : ℕ) → All (λ b. P b.name) bs → IsSome (value_of (named bs) n) → P n
of_each_name P [] n all some = absurd (cc)
of_each_name P (b ∷ bs) n all some =
    elim (cases_Bool (b.name == n)) [
      | inl here ↦ subst P (eqb-true b.name n here) (All-head {X = Block} (λ b. P b.name) b bs all)
      | inr apart ↦ of_each_name P bs n (All-tail {X = Block} (λ b. P b.name) b bs all) (rw apart at some)
    ]

-- names that are told apart by other names
module _ (f : ℕ → ℕ) (Is : ℕ → Type 0) (one : (m n : ℕ) → Is m → Is n → f m ≡ f n → m ≡ n) where
  pub same_test : (m n : ℕ) → Is m → Is n → (f m == f n) ≡ (m == n)
  same_test m n has there =
      elim (cases_Bool (m == n)) [
        | inl same ↦ eq-eqb (f m) (f n) (ap f (eqb-true m n same)) ∙ sym same
        | inr apart ↦ differ (cases_Bool (f m == f n)) apart
      ]
    where
      differ : ((f m == f n) ≡ true) ⊎ ((f m == f n) ≡ false) → (m == n) ≡ false → (f m == f n) ≡ (m == n)
      differ (inl same) apart = absurd (eqb-false m n apart (one m n has there (eqb-true (f m) (f n) same)))
      differ (inr other) apart = other ∙ sym apart

  abbrev pub AreNamed : List Block → Type 0
  AreNamed bs = AllByRecursion (λ b. Is b.name) bs

  pub value_is : (bs : List Block) (n : ℕ) → AreNamed bs → Is n → value_of (named (map (renamed_block f) bs)) (f n) ≡ option_map (renamed_block f) (value_of (named bs) n)
  value_is [] n all there = refl
  value_is (b ∷ bs) n all there =
      elim (cases_Bool (b.name == n)) [
        | inl here ↦ rw (same_test b.name n all.0 there, here) refl
        | inr apart ↦ rw (same_test b.name n all.0 there, apart) (value_is bs n all.1 there)
      ]

  still_apart : (n : ℕ) (bs : List Block) → Is n → AreNamed bs → AllByRecursion (λ m. nat_eq n m ≡ false) (keys (named bs)) → AllByRecursion (λ m. nat_eq (f n) m ≡ false) (keys (named (map (renamed_block f) bs)))
  still_apart n [] there all apart = tt
  still_apart n (b ∷ bs) there all apart = (same_test n b.name there all.0 ∙ apart.0, still_apart n bs there all.1 apart.1)

  still_distinct : (bs : List Block) → AreNamed bs → HasDistinctKeys (named bs) → HasDistinctKeys (named (map (renamed_block f) bs))
  unfolding IsDistinct
  still_distinct [] all distinct = tt
  still_distinct (b ∷ bs) all distinct = (still_apart b.name bs all.0 all.1 distinct.0, still_distinct bs all.1 distinct.1)

some_mapped : {A B : Type 0} (k : A → B) (o : Option A) → is_some (option_map k o) ≡ is_some o
some_mapped k None = refl
some_mapped k (Some x) = refl

module _ (f : ℕ → ℕ) (g : Graph) where
  -- a name of the other graph is that of a block of this one
  pub record IsRenamed (m : ℕ) : Type 0 where
    pub old : ℕ
    pub there : HasBlock g old
    pub is : f old ≡ m

  was_in : (bs : List Block) (m : ℕ) → AllByRecursion (λ b. HasBlock g b.name) bs → IsSome (value_of (named (map (renamed_block f) bs)) m) → IsRenamed m
  was_in [] m names there = absurd (cc)
  was_in (b ∷ bs) m names there =
      elim (cases_Bool (f b.name == m)) [
        | inl here ↦ record { old = b.name; there = names.0; is = eqb-true (f b.name) m here }
        | inr apart ↦ was_in bs m names.1 (rw apart at there)
      ]

  pub was_there : (m : ℕ) → HasBlock (renamed f g) m → IsRenamed m
  was_there m there = was_in g.blocks m (names_there g.blocks) there

  module _ (apart : IsOneToOne f g) where
    pub block_is : (n : ℕ) → HasBlock g n → block_of (renamed f g) (f n) ≡ option_map (renamed_block f) (block_of g n)
    block_is n has = value_is f (HasBlock g) apart g.blocks n (names_there g.blocks) has

    pub there_too : (n : ℕ) → HasBlock g n → HasBlock (renamed f g) (f n)
    there_too n has = ap is_some (block_is n has) ∙ some_mapped (renamed_block f) (block_of g n) ∙ has

    -- a graph under other names keeps the rules
    pub renamed_rules : IsGraph g → IsGraph (renamed f g)
    renamed_rules rules = other_rules f (λ b. f b.name) g rules (still_distinct f (HasBlock g) apart g.blocks (names_there g.blocks) rules.distinct) there_too

-- other names twice are other names once, for blocks as for what uses them
module _ (f own h then : ℕ → ℕ) where
  pub other_blocks_twice : (bs : List Block) → map (other_block h (λ b. then b.name)) (map (other_block f (λ b. own b.name)) bs) ≡ map (other_block (λ n. h (f n)) (λ b. then (own b.name))) bs
  other_blocks_twice [] = refl
  other_blocks_twice (b ∷ bs) = λ i. record { name = then (own b.name); items = items_twice f h b.items i; term = term_twice f h b.term i } ∷ other_blocks_twice bs i

  pub other_twice : (g : Graph) → other_graph h (λ b. then b.name) (other_graph f (λ b. own b.name) g) ≡ other_graph (λ n. h (f n)) (λ b. then (own b.name)) g
  other_twice g = λ i. record { blocks = other_blocks_twice g.blocks i; entry = h (f g.entry); code_words = words_twice f h g.code_words i; procedures = procedures_twice f h g.procedures i }

pub renamed_twice : (f h : ℕ → ℕ) (g : Graph) → renamed h (renamed f g) ≡ renamed (λ n. h (f n)) g
renamed_twice f h g = other_twice f f h h g

-- names that agree where the graph uses them make one graph
module _ (g : Graph) (f own h then : ℕ → ℕ) (same : (n : ℕ) → HasBlock g n → f n ≡ h n) (called : (n : ℕ) → HasBlock g n → own n ≡ then n) where
  abbrev Stands : Item → Type 0
  Stands = ItemStands (HasBlock g) (HasProcedure g)

  item_same : (item : Item) → All (HasBlock g) (item_uses item) → retargeted_item f item ≡ retargeted_item h item
  item_same (Op insn) names = refl
  item_same (Hi rd to) names = ap (Hi rd) (same to (All-head (HasBlock g) to [] names))
  item_same (Lo rd rs to) names = ap (Lo rd rs) (same to (All-head (HasBlock g) to [] names))
  item_same (Out procedure) names = refl

  term_same : (t : Term) → All (HasBlock g) (term_uses t) → retargeted_term f t ≡ retargeted_term h t
  term_same Fall names = refl
  term_same (Jump to) names = ap Jump (same to (All-head (HasBlock g) to [] names))
  term_same (Branch c a b to) names = ap (Branch c a b) (same to (All-head (HasBlock g) to [] names))
  term_same (Call link to) names = ap (Call link) (same to (All-head (HasBlock g) to [] names))
  term_same (PartJump link part to) names = ap (PartJump link part) (same to (All-head (HasBlock g) to [] names))
  term_same (Indirect link at offset) names = refl
  term_same (Stop word) names = refl

  items_same : (items : List Item) → All Stands items → retargeted_items f items ≡ retargeted_items h items
  items_same [] all = refl
  items_same (item ∷ items) all =
      let here = All-head {X = Item} Stands item items all in
      let one = item_same item here.names in
      let more = items_same items (All-tail {X = Item} Stands item items all) in
      λ i. one i ∷ more i

  blocks_same : (bs : List Block) → All (BlockStands (HasBlock g) (HasProcedure g)) bs → AllByRecursion (λ b. HasBlock g b.name) bs → map (other_block f (λ b. own b.name)) bs ≡ map (other_block h (λ b. then b.name)) bs
  blocks_same [] all names = refl
  blocks_same (b ∷ bs) all names =
      let here = All-head {X = Block} (BlockStands (HasBlock g) (HasProcedure g)) b bs all in
      let name = called b.name names.0 in
      let items = items_same b.items here.items in
      let term = term_same b.term here.names in
      let more = blocks_same bs (All-tail {X = Block} (BlockStands (HasBlock g) (HasProcedure g)) b bs all) names.1 in
      λ i. record { name = name i; items = items i; term = term i } ∷ more i

  words_same : (ws : List CodeRef) → All (HasBlock g) (code_word_uses ws) → retargeted_words f ws ≡ retargeted_words h ws
  words_same [] all = refl
  words_same (w ∷ ws) all =
      let here = same w.block (All-head (HasBlock g) w.block (code_word_uses ws) all) in
      let more = words_same ws (All-tail (HasBlock g) w.block (code_word_uses ws) all) in
      λ i. record { at = w.at; block = here i } ∷ more i

  procedures_same : (ps : List Procedure) → All (BodyStands (HasBlock g) (HasProcedure g)) ps → map (retargeted_procedure f) ps ≡ map (retargeted_procedure h) ps
  procedures_same [] all = refl
  procedures_same (p ∷ ps) all =
      let here = All-head {X = Procedure} (BodyStands (HasBlock g) (HasProcedure g)) p ps all in
      let body = items_same p.body here.items in
      let more = procedures_same ps (All-tail {X = Procedure} (BodyStands (HasBlock g) (HasProcedure g)) p ps all) in
      λ i. record { link = p.link; body = body i } ∷ more i

  pub other_same : IsGraph g → other_graph f (λ b. own b.name) g ≡ other_graph h (λ b. then b.name) g
  other_same rules =
      let by = by_block (HasBlock g) (HasProcedure g) g rules rules.named_all rules.called_all in
      let blocks = blocks_same g.blocks by.blocks (names_there g.blocks) in
      let entry = same g.entry by.entry in
      let words = words_same g.code_words by.words in
      let procedures = procedures_same g.procedures by.bodies in
      λ i. record { blocks = blocks i; entry = entry i; code_words = words i; procedures = procedures i }

pub renamed_by_same : (g : Graph) (f h : ℕ → ℕ) → IsGraph g → ((n : ℕ) → HasBlock g n → f n ≡ h n) → renamed f g ≡ renamed h g
renamed_by_same g f h rules same = other_same g f f h h same same rules
