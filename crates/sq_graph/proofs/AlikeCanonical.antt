-- The canonical graphs of graphs that differ in the names of their blocks alone differ in these alone.
use Rattle.std.proofs.Common.{◌≡◌, ℕ, Bool, inl, inr, ◌==◌, ◌&&◌, ◌||◌, not, if◌then◌else◌, List, [], ◌∷◌, map, refl, sym, ap, ◌∙◌, subst}
use Rattle.std.specs.List.{All, AllByRecursion}
use Rattle.std.proofs.lemmas.Bool.{cases_Bool}
use Rattle.std.proofs.lemmas.List.{map-append}
use Rattle.std.proofs.lemmas.List.Elements.{All-head, All-tail, All-map, All-filter, All-from_recursion, recursion_from_All}
use Rattle.sq_isa.specs.Registers.{is_among}
use Rattle.sq_graph.specs.Alike.{IsOneToOne, AreAlike}
use Rattle.sq_graph.specs.Blocks.{HasBlock}
use Rattle.sq_graph.specs.Bypasses.{first_name, kept, passed, all_bypassed}
use Rattle.sq_graph.specs.Canonical.{joined_onto, joined_blocks, joined, canonical_of}
use Rattle.sq_graph.specs.Graph.{Block, Graph}
use Rattle.sq_graph.specs.Leaders.{is_bare, follows_a_term, is_leader}
use Rattle.sq_graph.specs.Renames.{retargeted_item, retargeted_block, retargeted, renamed_block, renamed, swapped}
use Rattle.sq_graph.specs.Rules.{IsGraph}
use Rattle.sq_graph.specs.Uses.{uses}
use Rattle.sq_graph.proofs.Bypassing.{is_bare-other, is_fall-other}
use Rattle.sq_graph.proofs.CanonicalLaws.{without_bare, all_bypassed_is_graph, canonical_is_joined}
use Rattle.sq_graph.proofs.Joined.{all-joined}
use Rattle.sq_graph.proofs.Joining.{takes}
use Rattle.sq_graph.proofs.Kept.{kept-other}
use Rattle.sq_graph.proofs.Renamed.{names_there, of_each_name, same_test, AreNamed, renamed_rules, other_twice, other_same}
use Rattle.sq_graph.proofs.RetargetRules.{goes_on-other, uses-other}

-- EMPTY BLOCKS THAT ARE BYPASSED

kept_is : (f : ℕ → ℕ) (bs : List Block) → kept (map (renamed_block f) bs) ≡ map (renamed_block f) (kept bs)
kept_is f [] = refl
kept_is f (b ∷ bs) =
    let same = is_bare-other f b in
    elim (cases_Bool (is_bare b)) [
      | inl bare ↦ rw (same ∙ bare, bare) (kept_is f bs)
      | inr solid ↦ rw (same ∙ solid, solid) (ap (λ cs. renamed_block f b ∷ cs) (kept_is f bs))
    ]

module _ (f : ℕ → ℕ) (Is : ℕ → Type 0) (one : (m n : ℕ) → Is m → Is n → f m ≡ f n → m ≡ n) where
  first_is : (bs : List Block) (n : ℕ) → first_name (map (renamed_block f) bs) (f n) ≡ f (first_name bs n)
  first_is [] n = refl
  first_is (b ∷ bs) n = refl

  first_there : (bs : List Block) (n : ℕ) → AreNamed f Is one bs → Is n → Is (first_name bs n)
  first_there [] n all there = there
  first_there (b ∷ bs) n all there = all.0

  -- one step of `passed`
  abbrev hop : Block → List Block → ℕ → ℕ
  hop b bs n = if is_bare b then swapped b.name (first_name bs n) n else n

  hop_is : (b : Block) (bs : List Block) (n : ℕ) → Is b.name → Is n → hop (renamed_block f b) (map (renamed_block f) bs) (f n) ≡ f (hop b bs n)
  hop_is b bs n named there =
      let same = is_bare-other f b in
      let test = same_test f Is one n b.name there named in
      elim (cases_Bool (is_bare b)) [
        | inl bare ↦
            elim (cases_Bool (n == b.name)) [
              | inl here ↦ rw (same ∙ bare, bare, test ∙ here, here) (first_is bs n)
              | inr apart ↦ rw (same ∙ bare, bare, test ∙ apart, apart) refl
            ]
        | inr solid ↦ rw (same ∙ solid, solid) refl
      ]

  hop_there : (b : Block) (bs : List Block) (n : ℕ) → AreNamed f Is one bs → Is n → Is (hop b bs n)
  hop_there b bs n all there =
      elim (cases_Bool (is_bare b)) [
        | inl bare ↦
            elim (cases_Bool (n == b.name)) [
              | inl here ↦ rw (bare, here) (first_there bs n all there)
              | inr apart ↦ rw (bare, apart) there
            ]
        | inr solid ↦ rw solid there
      ]

  passed_is : (bs : List Block) (n : ℕ) → AreNamed f Is one bs → Is n → passed (map (renamed_block f) bs) (f n) ≡ f (passed bs n)
  passed_is [] n all there = refl
  passed_is (b ∷ bs) n all there =
      ap (passed (map (renamed_block f) bs)) (hop_is b bs n all.0 there) ∙ passed_is bs (hop b bs n) all.1 (hop_there b bs n all.1 there)

-- where the uses of names go, under other names
bypassed_is : (f : ℕ → ℕ) (g : Graph) → IsGraph g → IsOneToOne f g → all_bypassed (renamed f g) ≡ renamed f (all_bypassed g)
bypassed_is f g rules apart =
    let p = passed g.blocks in
    let q = passed (map (renamed_block f) g.blocks) in
    let same : (n : ℕ) → HasBlock g n → q (f n) ≡ f (p n) = λ n has. passed_is f (HasBlock g) apart g.blocks n (names_there g.blocks) has in
    let turned : retargeted q (renamed f g) ≡ renamed f (retargeted p g) =
    other_twice f f q (λ n. n) g
    ∙ other_same g (λ n. q (f n)) f (λ n. f (p n)) f same (λ n has. refl) rules
    ∙ sym (other_twice p (λ n. n) f f g) in
    ap (λ bs. record (retargeted q (renamed f g)) { blocks = bs }) (sym (kept-other q (map (renamed_block f) g.blocks)))
    ∙ ap without_bare turned
    ∙ ap (λ bs. record (renamed f (retargeted p g)) { blocks = bs }) (kept_is f (map (retargeted_block p) g.blocks) ∙ ap (map (renamed_block f)) (kept-other p g.blocks))

-- BLOCKS THAT ARE JOINED

module _ (f : ℕ → ℕ) (leads others : ℕ → Bool) where
  abbrev Agree : Block → Type 0
  Agree b = others (f b.name) ≡ leads b.name

  onto_is : (b : Block) (bs : List Block) → All Agree bs → joined_onto others (renamed_block f b) (map (renamed_block f) bs) ≡ map (renamed_block f) (joined_onto leads b bs)
  onto_is b [] agree = refl
  onto_is b (next ∷ bs) agree =
      let fall = is_fall-other f b.term in
      let lead = All-head Agree next bs agree in
      let same : takes others (renamed_block f b) (renamed_block f next) ≡ takes leads b next = λ i. fall i && not (lead i) in
      elim (cases_Bool (takes leads b next)) [
        | inl joins ↦
            rw (same ∙ joins, joins)
            (ap (λ is. record (renamed_block f next) { name = f b.name; items = is } ∷ map (renamed_block f) bs) (sym (map-append (retargeted_item f) b.items next.items)))
        | inr apart ↦ rw (same ∙ apart, apart) refl
      ]

  joined_is : (bs : List Block) → All Agree bs → joined_blocks others (map (renamed_block f) bs) ≡ map (renamed_block f) (joined_blocks leads bs)
  joined_is [] agree = refl
  joined_is (b ∷ bs) agree =
      let rest = All-tail Agree b bs agree in
      ap (joined_onto others (renamed_block f b)) (joined_is bs rest)
      ∙ onto_is b (joined_blocks leads bs) (all-joined leads Agree (λ c next joins first second. first) bs rest)

-- LEADERS

module _ (f : ℕ → ℕ) (Is : ℕ → Type 0) (one : (m n : ℕ) → Is m → Is n → f m ≡ f n → m ≡ n) where
  among_is : (xs : List ℕ) (n : ℕ) → AllByRecursion Is xs → Is n → is_among (map f xs) (f n) ≡ is_among xs n
  among_is [] n all there = refl
  among_is (x ∷ xs) n all there = λ i. same_test f Is one x n all.0 there i || among_is xs n all.1 there i

  follows_is : (bs : List Block) (n : ℕ) → AreNamed f Is one bs → Is n → follows_a_term (map (renamed_block f) bs) (f n) ≡ follows_a_term bs n
  follows_is [] n all there = refl
  follows_is (b ∷ []) n all there = refl
  follows_is (b ∷ next ∷ bs) n all there =
      let goes = goes_on-other f (λ c. c.name) b.term in
      let fall = is_fall-other f b.term in
      let test = same_test f Is one next.name n all.1.0 there in
      let rest = follows_is (next ∷ bs) n all.1 there in
      λ i. goes i && not (fall i) && test i || rest i

module _ (f : ℕ → ℕ) (g : Graph) (rules : IsGraph g) (apart : IsOneToOne f g) where
  leader_is : (n : ℕ) → HasBlock g n → is_leader (renamed f g) (f n) ≡ is_leader g n
  leader_is n has =
      let used = ap (λ us. is_among us (f n)) (uses-other f (λ b. f b.name) g) ∙ among_is f (HasBlock g) apart (uses g) n (recursion_from_All (HasBlock g) (uses g) rules.named_all) has in
      let follows = follows_is f (HasBlock g) apart g.blocks n (names_there g.blocks) has in
      λ i. used i || follows i

  joined_renamed : joined (renamed f g) ≡ renamed f (joined g)
  joined_renamed =
      let each = All-from_recursion (λ (b : Block). HasBlock g b.name) g.blocks (names_there g.blocks) in
      ap (λ bs. record (renamed f g) { blocks = bs })
      (joined_is f (is_leader g) (is_leader (renamed f g)) g.blocks (λ k d below. leader_is _ (each k d below)))

-- NO NEW NAMES

-- each name in the canonical graph is that of a block in the graph
bypassed_named : (g : Graph) → All (λ b. HasBlock g b.name) (all_bypassed g).blocks
bypassed_named g =
    All-map {X = Block} (λ b. HasBlock g b.name) (retargeted_block (passed g.blocks)) (kept g.blocks)
    (All-filter {X = Block} (λ b. not (is_bare b)) (λ b. HasBlock g b.name) g.blocks
    (All-from_recursion (λ (b : Block). HasBlock g b.name) g.blocks (names_there g.blocks)))

bypassed_there : (g : Graph) (n : ℕ) → HasBlock (all_bypassed g) n → HasBlock g n
bypassed_there g n has = of_each_name (HasBlock g) (all_bypassed g).blocks n (bypassed_named g) has

pub canonical_there : (g : Graph) (n : ℕ) → IsGraph g → HasBlock (canonical_of g) n → HasBlock g n
canonical_there g n rules has =
    let h = all_bypassed g in
    of_each_name (HasBlock g) (joined (all_bypassed g)).blocks n
    (all-joined (is_leader (all_bypassed g)) (λ b. HasBlock g b.name) (λ b next joins first second. first) (all_bypassed g).blocks (bypassed_named g))
    (subst (λ k. HasBlock k n) (canonical_is_joined g rules) has)

-- the canonical graph under other names is the canonical graph of the graph under these names
pub canonical_renamed : (f : ℕ → ℕ) (g : Graph) → IsGraph g → IsOneToOne f g → canonical_of (renamed f g) ≡ renamed f (canonical_of g)
canonical_renamed f g rules apart =
    canonical_is_joined (renamed f g) (renamed_rules f g apart rules)
    ∙ ap joined (bypassed_is f g rules apart)
    ∙ joined_renamed f (all_bypassed g) (all_bypassed_is_graph g rules) (λ m n has there same. apart m n (bypassed_there g m has) (bypassed_there g n there) same)
    ∙ ap (renamed f) (sym (canonical_is_joined g rules))

pub alike_canonical : (g h : Graph) → IsGraph g → AreAlike g h → AreAlike (canonical_of g) (canonical_of h)
alike_canonical g h rules alike = record {
  name = alike.name;
  one_to_one = λ m n has there same. alike.one_to_one m n (canonical_there g m rules has) (canonical_there g n rules there) same;
  is = ap canonical_of alike.is ∙ canonical_renamed alike.name g rules alike.one_to_one;
}
