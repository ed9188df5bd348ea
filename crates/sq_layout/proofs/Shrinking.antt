-- Where blocks go or get fewer words, two places of what is left come no further apart, so branches reach on.
use Rattle.std.proofs.Common.{◌≡◌, ◌↔◌, ℕ, pos, ◌-ℤ◌, ◌+◌, ◌*◌, ◌≤◌, ◌==◌, Bool, true, false, List, [], ◌∷◌, length, Option, None, Some, IsSome, ◌⊎◌, inl, inr, refl, sym, ap, ◌∙◌, subst, arith}
use Rattle.std.specs.Prelude.{option_map}
use Rattle.std.proofs.lemmas.Bool.{cases_Bool, eq-eqb, eqb-true}
use Rattle.std.proofs.lemmas.Int.{ints}
use Rattle.sq_arena.specs.Entries.{HasDistinctKeys, value_of}
use Rattle.sq_arena.proofs.EntriesLaws.{distinct_back}
use Rattle.sq_isa.specs.declared.instructions.Cond.{Cond}
use Rattle.sq_graph.specs.declared.item.Term.{Term}
use Rattle.sq_graph.specs.declared.item.Term.TheVariants.{Fall, Jump, Branch, Call, PartJump, Indirect, Stop}
use Rattle.sq_graph.specs.Graph.{Block, Graph}
use Rattle.sq_graph.specs.Blocks.{named, block_of, block_items, items_of, block_term, term_of}
use Rattle.sq_graph.specs.Words.{term_words, block_words}
use Rattle.sq_graph.specs.Places.{address_in, block_address, Reaches, TermReaches, BranchesReach, IsInReach}
use Rattle.sq_graph.proofs.Kept.{absent_behind}
use Rattle.sq_layout.specs.Branches.{term_address, BranchReaches}
use Rattle.sq_layout.specs.Reach.{LedThere}
use Rattle.sq_layout.specs.Shrinks.{IsBranch, IsShrunk, Shrinks, nothing, kept, gone}

same_name : (b c : Block) (n : ℕ) (t : Bool) → IsShrunk b c → (b.name == n) ≡ t → (c.name == n) ≡ t
same_name b c n t p e = ap (λ k. k == n) p.name ∙ e

-- what is left was there
absent_left : {bs cs : List Block} (n : ℕ) → Shrinks bs cs → value_of (named bs) n ≡ None → value_of (named cs) n ≡ None
absent_left n nothing none = none
absent_left n (kept b c p rest) none =
    elim (cases_Bool (b.name == n)) [
      | inl here ↦ absurd (cc (rw here at none))
      | inr apart ↦ let other = same_name b c n false p apart in rw other (absent_left n rest (rw apart at none))
    ]
absent_left n (gone b rest) none =
    elim (cases_Bool (b.name == n)) [
      | inl here ↦ absurd (cc (rw here at none))
      | inr apart ↦ absent_left n rest (rw apart at none)
    ]

tail_distinct : (b : Block) (bs : List Block) → HasDistinctKeys (named (b ∷ bs)) → HasDistinctKeys (named bs)
tail_distinct b bs distinct = distinct_back ((b.name, b) ∷ []) (named bs) distinct

unplaced : (bs : List Block) (at n : ℕ) → value_of (named bs) n ≡ None → address_in bs at n ≡ None
unplaced [] at n none = refl
unplaced (b ∷ bs) at n none =
    elim (cases_Bool (b.name == n)) [
      | inl here ↦ absurd (cc (rw here at none))
      | inr apart ↦ rw apart (unplaced bs (at + 4 * block_words b) n (rw apart at none))
    ]

-- a block that is found has an address, and the other way round
pub placed : (bs : List Block) (at n : ℕ) → IsSome (value_of (named bs) n) → (x : ℕ) × (address_in bs at n ≡ Some x)
placed [] at n some = absurd (cc)
placed (b ∷ bs) at n some =
    elim (cases_Bool (b.name == n)) [
      | inl here ↦ (at, rw here refl)
      | inr apart ↦ let later = placed bs (at + 4 * block_words b) n (rw apart at some) in (later.0, rw apart later.1)
    ]

-- the block that goes is not left
gone_elsewhere : (b : Block) {bs cs : List Block} (at n x : ℕ) → HasDistinctKeys (named (b ∷ bs)) → Shrinks bs cs → address_in cs at n ≡ Some x → (b.name == n) ≡ false
gone_elsewhere b {bs = bs} {cs = cs} at n x distinct rest found =
    elim (cases_Bool (b.name == n)) [
      | inl here ↦
          let absent : value_of (named bs) n ≡ None = subst (λ k. value_of (named bs) k ≡ None) (eqb-true b.name n here) (absent_behind (b.name, b) (named bs) distinct) in
          absurd (cc (unplaced cs at n (absent_left n rest absent)))
      | inr apart ↦ apart
    ]

-- a place, in front of which words went
pub record IsNearer (at new x y : ℕ) : Type 0 where
  pub behind : at ≤ x
  pub behind_new : new ≤ y
  pub nearer : y + at ≤ x + new

pub some_is : (a b : ℕ) → Some a ≡ Some b → a ≡ b
some_is a b e = cc

pub nearer_on : (at new w v x y : ℕ) → v ≤ w → IsNearer (at + 4 * w) (new + 4 * v) x y → IsNearer at new x y
nearer_on at new w v x y le h = let p = h.behind in let q = h.behind_new in let r = h.nearer in record { behind = omega arith; behind_new = omega arith; nearer = omega arith }

nearer_gone : (at new w x y : ℕ) → IsNearer (at + 4 * w) new x y → IsNearer at new x y
nearer_gone at new w x y h = let p = h.behind in let q = h.behind_new in let r = h.nearer in record { behind = omega arith; behind_new = omega arith; nearer = omega arith }

pub nearer_here : (at new x y : ℕ) → Some at ≡ Some x → Some new ≡ Some y → IsNearer at new x y
nearer_here at new x y e f = let p = some_is at x e in let q = some_is new y f in record { behind = omega arith; behind_new = omega arith; nearer = omega arith }

pub comes_nearer : {bs cs : List Block} (at new n x y : ℕ) → Shrinks bs cs → HasDistinctKeys (named bs) → address_in bs at n ≡ Some x → address_in cs new n ≡ Some y → IsNearer at new x y
comes_nearer at new n x y nothing distinct old found = absurd (cc)
comes_nearer at new n x y (kept b c {bs = bs} {cs = cs} p rest) distinct old found =
    elim (cases_Bool (b.name == n)) [
      | inl here ↦ let same = same_name b c n true p here in nearer_here at new x y (rw here at old) (rw same at found)
      | inr apart ↦
          let other = same_name b c n false p apart in
          nearer_on at new (block_words b) (block_words c) x y p.words
          (comes_nearer (at + 4 * block_words b) (new + 4 * block_words c) n x y rest (tail_distinct b bs distinct) (rw apart at old) (rw other at found))
    ]
comes_nearer at new n x y (gone b {bs = bs} rest) distinct old found =
    let apart = gone_elsewhere b new n y distinct rest found in
    nearer_gone at new (block_words b) x y (comes_nearer (at + 4 * block_words b) new n x y rest (tail_distinct b bs distinct) (rw apart at old) found)

-- Of a block, which stood at x with the one size in bytes and stands at x' with the other, another that stood at y and
-- stands at y' is no further away, on the same side.
abbrev pub IsNoFurther : ℕ → ℕ → ℕ → ℕ → ℕ → ℕ → Type 0
IsNoFurther size size' x x' y y' =
    ((y ≤ x) × (y' ≤ x') × (x' + y ≤ x + y')) ⊎ ((x' + size' ≤ y') × (y' + (x + size) ≤ y + (x' + size')))

pub ahead_of : (size size' x x' y y' : ℕ) → IsNearer y y' x x' → IsNoFurther size size' x x' y y'
ahead_of size size' x x' y y' h = let p = h.behind in let q = h.behind_new in let r = h.nearer in inl (p, q, omega arith)

pub behind_it : (size size' x x' y y' : ℕ) → IsNearer (x + size) (x' + size') y y' → IsNoFurther size size' x x' y y'
behind_it size size' x x' y y' h = let p = h.behind in let q = h.behind_new in let r = h.nearer in inr (q, omega arith)

pub same_block : (b c : Block) → Some b ≡ Some c → b ≡ c
same_block b c e = cc

-- of a block that is left, which was the one and is the other
pub no_further : {bs cs : List Block} (at new n m : ℕ) (was is : Block) (x x' y y' : ℕ) → Shrinks bs cs → HasDistinctKeys (named bs) → value_of (named bs) n ≡ Some was → value_of (named cs) n ≡ Some is
    → address_in bs at n ≡ Some x → address_in cs new n ≡ Some x' → address_in bs at m ≡ Some y → address_in cs new m ≡ Some y' → IsNoFurther (4 * block_words was) (4 * block_words is) x x' y y'
no_further at new n m was is x x' y y' nothing distinct w i e e' f f' = absurd (cc)
no_further at new n m was is x x' y y' (kept b d {bs = bs} {cs = cs} p rest) distinct w i e e' f f' =
    let tail = tail_distinct b bs distinct in
    elim (cases_Bool (b.name == n)) [
      | inl here ↦
          let here' = same_name b d n true p here in
          let x_is = some_is at x (rw here at e) in
          let x'_is = some_is new x' (rw here' at e') in
          let was_is : b ≡ was = same_block b was (rw here at w) in
          let is_is : d ≡ is = same_block d is (rw here' at i) in
          elim (cases_Bool (b.name == m)) [
            | inl too ↦
                let too' = same_name b d m true p too in
                let y_is = some_is at y (rw too at f) in
                let y'_is = some_is new y' (rw too' at f') in
                inl (omega arith, omega arith, omega arith)
            | inr apart ↦
                let apart' = same_name b d m false p apart in
                let near : IsNearer (x + 4 * block_words b) (x' + 4 * block_words d) y y' =
                subst (λ k. IsNearer (k + 4 * block_words b) (x' + 4 * block_words d) y y') x_is
                (subst (λ k. IsNearer (at + 4 * block_words b) (k + 4 * block_words d) y y') x'_is
                (comes_nearer (at + 4 * block_words b) (new + 4 * block_words d) m y y' rest tail (rw apart at f) (rw apart' at f'))) in
                subst (λ k. IsNoFurther (4 * block_words k) (4 * block_words is) x x' y y') was_is
                (subst (λ k. IsNoFurther (4 * block_words b) (4 * block_words k) x x' y y') is_is
                (behind_it (4 * block_words b) (4 * block_words d) x x' y y' near))
          ]
      | inr other ↦
          let other' = same_name b d n false p other in
          elim (cases_Bool (b.name == m)) [
            | inl here ↦
                let here' = same_name b d m true p here in
                let near : IsNearer at new x x' = nearer_on at new (block_words b) (block_words d) x x' p.words
                (comes_nearer (at + 4 * block_words b) (new + 4 * block_words d) n x x' rest tail (rw other at e) (rw other' at e')) in
                ahead_of (4 * block_words was) (4 * block_words is) x x' y y'
                (subst (λ k. IsNearer k y' x x') (some_is at y (rw here at f)) (subst (λ k. IsNearer at k x x') (some_is new y' (rw here' at f')) near))
            | inr apart ↦
                let apart' = same_name b d m false p apart in
                no_further (at + 4 * block_words b) (new + 4 * block_words d) n m was is x x' y y' rest tail (rw other at w) (rw other' at i) (rw other at e) (rw other' at e') (rw apart at f) (rw apart' at f')
          ]
    ]
no_further at new n m was is x x' y y' (gone b {bs = bs} rest) distinct w i e e' f f' =
    let tail = tail_distinct b bs distinct in
    let n_apart = gone_elsewhere b new n x' distinct rest e' in
    let m_apart = gone_elsewhere b new m y' distinct rest f' in
    no_further (at + 4 * block_words b) new n m was is x x' y y' rest tail (rw n_apart at w) i (rw n_apart at e) e' (rw m_apart at f) f'

-- a branch whose word stood behind so many bytes of items, and stands behind no more, with no more of the block behind it
pub reaches_on : (size size' x x' y y' items items' : ℕ) → items' ≤ size' → items' ≤ items → size' + items ≤ size + items' → IsNoFurther size size' x x' y y' → Reaches (pos y -ℤ pos (x + items)) → Reaches (pos y' -ℤ pos (x' + items'))
reaches_on size size' x x' y y' items items' within fewer left (inl h) r =
    let p = h.0 in
    let q = h.1 in
    let s = h.2 in
    let least = r.least in
    record { least = omega (arith, ints); most = omega (arith, ints) }
reaches_on size size' x x' y y' items items' within fewer left (inr h) r =
    let p = h.0 in
    let q = h.1 in
    let most = r.most in
    record { least = omega (arith, ints); most = omega (arith, ints) }

-- the block from which a shrunk one comes
pub record HasSource (bs : List Block) (n : ℕ) (c : Block) : Type 0 where
  pub block : Block
  pub found : value_of (named bs) n ≡ Some block
  pub shrunk : IsShrunk block c

pub source_of : {bs cs : List Block} (n : ℕ) (c : Block) → Shrinks bs cs → HasDistinctKeys (named bs) → value_of (named cs) n ≡ Some c → HasSource bs n c
source_of n c nothing distinct found = absurd (cc)
source_of n c (kept b d {bs = bs} p rest) distinct found =
    elim (cases_Bool (b.name == n)) [
      | inl here ↦
          let here' = same_name b d n true p here in
          let same : d ≡ c = let e : Some d ≡ Some c = rw here' at found in cc in
          record { block = b; found = rw here refl; shrunk = subst (λ k. IsShrunk b k) same p }
      | inr apart ↦
          let apart' = same_name b d n false p apart in
          let later = source_of n c rest (tail_distinct b bs distinct) (rw apart' at found) in
          record { block = later.block; found = rw apart later.found; shrunk = later.shrunk }
    ]
source_of n c (gone b {bs = bs} {cs = cs} rest) distinct found =
    let later = source_of n c rest (tail_distinct b bs distinct) found in
    let place = placed cs 0 n (rw found refl) in
    let apart = gone_elsewhere b 0 n place.0 distinct rest place.1 in
    record { block = later.block; found = rw apart later.found; shrunk = later.shrunk }

-- IN REACH, BRANCH BY BRANCH

term_reaches_at : (g : Graph) (at : ℕ) (t : Term) (cond : Cond) (a b to target : ℕ) → t ≡ Branch cond a b to → TermReaches g at t → block_address g 0 to ≡ Some target → Reaches (pos target -ℤ pos at)
term_reaches_at g at t cond a b to target e reach found = (subst (TermReaches g at) e reach) target found

branch_in : (g : Graph) (bs : List Block) (at n x : ℕ) (c : Block) (cond : Cond) (a b to target : ℕ) → BranchesReach g at bs → value_of (named bs) n ≡ Some c → c.term ≡ Branch cond a b to → address_in bs at n ≡ Some x → block_address g 0 to ≡ Some target → Reaches (pos target -ℤ pos (x + 4 * length c.items))
branch_in g [] at n x c cond a b to target reach is e place found = absurd (cc)
branch_in g (d ∷ bs) at n x c cond a b to target reach is e place found =
    elim (cases_Bool (d.name == n)) [
      | inl here ↦
          let same : d ≡ c = let f : Some d ≡ Some c = rw here at is in cc in
          let x_is = some_is at x (rw here at place) in
          subst (λ k. Reaches (pos target -ℤ pos (k + 4 * length c.items))) x_is
          (subst (λ (k : Block). Reaches (pos target -ℤ pos (at + 4 * length k.items))) same
          (term_reaches_at g (at + 4 * length d.items) d.term cond a b to target (ap (λ (k : Block). k.term) same ∙ e) reach.0 found))
      | inr apart ↦ branch_in g bs (at + 4 * block_words d) n x c cond a b to target reach.1 (rw apart at is) e (rw apart at place) found
    ]

each_reaches : (g : Graph) (at : ℕ) (t : Term) → ((cond : Cond) (a b to target : ℕ) → t ≡ Branch cond a b to → block_address g 0 to ≡ Some target → Reaches (pos target -ℤ pos at)) → TermReaches g at t
each_reaches g at Fall h = tt
each_reaches g at (Jump to) h = tt
each_reaches g at (Branch cond a b to) h = λ target found. h cond a b to target refl found
each_reaches g at (Call link to) h = tt
each_reaches g at (PartJump link part to) h = tt
each_reaches g at (Indirect link x offset) h = tt
each_reaches g at (Stop word) h = tt

branches_reach : (g : Graph) (bs : List Block) (at : ℕ) → HasDistinctKeys (named bs) → ((n x : ℕ) (c : Block) → value_of (named bs) n ≡ Some c → address_in bs at n ≡ Some x → TermReaches g (x + 4 * length c.items) c.term) → BranchesReach g at bs
branches_reach g [] at distinct h = tt
branches_reach g (b ∷ bs) at distinct h =
    let own : (b.name == b.name) ≡ true = eq-eqb b.name b.name refl in (
      h b.name at b (rw own refl) (rw own refl),
      branches_reach g bs (at + 4 * block_words b) (tail_distinct b bs distinct) (λ n x c is place.
          let apart = other_name n c is in
          h n x c (rw apart is) (rw apart place)),
    )
  where
    other_name : (n : ℕ) (c : Block) → value_of (named bs) n ≡ Some c → (b.name == n) ≡ false
    other_name n c is =
        elim (cases_Bool (b.name == n)) [
          | inl here ↦ absurd (cc (subst (λ k. value_of (named bs) k ≡ None) (eqb-true b.name n here) (absent_behind (b.name, b) (named bs) distinct)))
          | inr apart ↦ apart
        ]

-- the block of a term
pub block_with : (o : Option Block) (t : Term) → block_term o ≡ Some t → (b : Block) × (o ≡ Some b) × (b.term ≡ t)
block_with None t e = absurd (cc)
block_with (Some b) t e = (b, refl, same b.term t e)
  where
    same : (s t : Term) → Some s ≡ Some t → s ≡ t
    same s t e = cc

-- a branch of a graph in reach reaches its target
pub branch_reaches : (g : Graph) → IsInReach g → (n : ℕ) (cond : Cond) (a b to : ℕ) → term_of g n ≡ Some (Branch cond a b to) → BranchReaches g n to
branch_reaches g reach n cond a b to e at target here there =
    let o = block_with (block_of g n) (Branch cond a b to) e in
    let place = placed g.blocks 0 n (rw o.1 refl) in
    let at_is : place.0 + 4 * length o.0.items ≡ at =
    some_is (place.0 + 4 * length o.0.items) at (sym (ap (λ (k : Option Block). option_map (λ x. x + 4 * length (block_items k)) (block_address g 0 n)) o.1 ∙ ap (option_map (λ x. x + 4 * length o.0.items)) place.1) ∙ here) in
    subst (λ k. Reaches (pos target -ℤ pos k)) at_is (branch_in g g.blocks 0 n place.0 o.0 cond a b to target reach o.1 o.2 place.1 there)

-- the two distances are those of one Branch
pub reach_is : (h : Graph) (from to x y items : ℕ) → block_address h 0 from ≡ Some x → block_address h 0 to ≡ Some y → length (items_of h from) ≡ items → BranchReaches h from to ↔ Reaches (pos y -ℤ pos (x + 4 * items))
reach_is h from to x y items e f l = (
  λ reach. reach (x + 4 * items) y (ap (option_map (λ at. at + 4 * length (items_of h from))) e ∙ ap (λ n. Some (x + 4 * n)) l) f,
  λ reach at target here there.
      let at_is : x + 4 * items ≡ at = some_is (x + 4 * items) at (sym (ap (option_map (λ at. at + 4 * length (items_of h from))) e ∙ ap (λ n. Some (x + 4 * n)) l) ∙ here) in
      let target_is : y ≡ target = some_is y target (sym f ∙ there) in
      subst (λ k. Reaches (pos target -ℤ pos k)) at_is (subst (λ k. Reaches (pos k -ℤ pos (x + 4 * items))) target_is reach),
)

-- a graph is in reach where each branch reaches its target
pub in_reach : (g : Graph) → HasDistinctKeys (named g.blocks) → ((n : ℕ) (cond : Cond) (a b to : ℕ) → term_of g n ≡ Some (Branch cond a b to) → BranchReaches g n to) → IsInReach g
in_reach g distinct h =
    branches_reach g g.blocks 0 distinct (λ n x c is place.
    each_reaches g (x + 4 * length c.items) c.term (λ cond a b to target e found.
    h n cond a b to (ap block_term is ∙ ap Some e) (x + 4 * length c.items) target
    (ap (λ (k : Option Block). option_map (λ z. z + 4 * length (block_items k)) (block_address g 0 n)) is ∙ ap (option_map (λ z. z + 4 * length c.items)) place) found))

-- a Branch is one word behind the items
branch_words : (b : Block) → IsBranch b.term → block_words b ≡ length b.items + 1
branch_words b is = by_term b.term is refl
  where
    by_term : (t : Term) → IsBranch t → b.term ≡ t → block_words b ≡ length b.items + 1
    by_term Fall none e = absurd none
    by_term (Jump to) none e = absurd none
    by_term (Branch cond x y to) one e = ap (λ t. length b.items + term_words t) e
    by_term (Call link to) none e = absurd none
    by_term (PartJump link part to) none e = absurd none
    by_term (Indirect link at offset) none e = absurd none
    by_term (Stop word) none e = absurd none

-- what is left of a graph in reach is in reach, where each branch of it led where it leads or is known to reach
pub shrunk_in_reach : (g h : Graph) → HasDistinctKeys (named g.blocks) → HasDistinctKeys (named h.blocks) → Shrinks g.blocks h.blocks → LedThere g h → IsInReach g → IsInReach h
shrunk_in_reach g h distinct distinct' shrinks led reach =
    in_reach h distinct' (λ n cond a b to e. elim (led n cond a b to e) [
      | inr known ↦ known
      | inl old ↦ λ at target here there. still n cond a b to old.0 old.1 old.2 e old.3 at target here there
    ])
  where
    known_there : (m y : ℕ) → address_in h.blocks 0 m ≡ Some y → (x : ℕ) × (address_in g.blocks 0 m ≡ Some x)
    known_there m y found = placed g.blocks 0 m (there (value_of (named g.blocks) m) refl)
      where
        there : (o : Option Block) → value_of (named g.blocks) m ≡ o → IsSome (value_of (named g.blocks) m)
        there None e = absurd (cc (unplaced h.blocks 0 m (absent_left m shrinks e), found))
        there (Some b) e = rw e refl

    still : (n : ℕ) (cond : Cond) (a b to : ℕ) (old : Cond) (x y : ℕ) → term_of h n ≡ Some (Branch cond a b to) → term_of g n ≡ Some (Branch old x y to) → BranchReaches h n to
    still n cond a b to old x y e was at target here there =
        let o = block_with (block_of h n) (Branch cond a b to) e in
        let source = source_of n o.0 shrinks distinct o.1 in
        let new_place = placed h.blocks 0 n (rw o.1 refl) in
        let old_place = placed g.blocks 0 n (rw source.found refl) in
        let old_target = known_there to target there in
        let branch = source.shrunk.branch (subst IsBranch (sym o.2) tt) in
        let items : length o.0.items ≤ length source.block.items = branch.1 in
        let at_is : new_place.0 + 4 * length o.0.items ≡ at =
        some_is (new_place.0 + 4 * length o.0.items) at (sym (ap (λ (k : Option Block). option_map (λ z. z + 4 * length (block_items k)) (block_address h 0 n)) o.1 ∙ ap (option_map (λ z. z + 4 * length o.0.items)) new_place.1) ∙ here) in
        let was_at : term_address g n ≡ Some (old_place.0 + 4 * length source.block.items) =
        ap (λ (k : Option Block). option_map (λ z. z + 4 * length (block_items k)) (block_address g 0 n)) source.found ∙ ap (option_map (λ z. z + 4 * length source.block.items)) old_place.1 in
        let reached : Reaches (pos old_target.0 -ℤ pos (old_place.0 + 4 * length source.block.items)) =
        branch_reaches g reach n old x y to was (old_place.0 + 4 * length source.block.items) old_target.0 was_at old_target.1 in
        let nearer = no_further 0 0 n to source.block o.0 old_place.0 new_place.0 old_target.0 target shrinks distinct source.found o.1 old_place.1 new_place.1 old_target.1 there in
        let is_words = branch_words o.0 (subst IsBranch (sym o.2) tt) in
        let was_words = branch_words source.block branch.0 in
        subst (λ k. Reaches (pos target -ℤ pos k)) at_is
        (reaches_on (4 * block_words source.block) (4 * block_words o.0) old_place.0 new_place.0 old_target.0 target (4 * length source.block.items) (4 * length o.0.items)
        (omega (arith, is_words)) (omega (arith, items)) (omega (arith, is_words, was_words)) nearer reached)
