-- By other new names a graph in which Branches are widened is the same but for names.
use Rattle.std.proofs.Common.{◌≡◌, ◌⊎◌, ℕ, ◌+◌, ◌-◌, ◌≤◌, ◌<◌, ◌==◌, nat_lt, Bool, true, false, ◌&&◌, if◌then◌else◌, List, [], ◌∷◌, ◌++◌, map, sum_by, IsSome, inl, inr, refl, sym, ap, ◌∙◌, arith, subst, is_some}
use Rattle.std.proofs.lemmas.Bool.{cases_Bool, eqb-true, eq-eqb, ne_eqb, lt-ltb, le-ltb, and_parts, and_from, both_ways}
use Rattle.std.proofs.lemmas.List.Sums.{sum_by-cons}
use Rattle.sq_arena.specs.Entries.{value_of}
use Rattle.sq_isa.specs.Branches.{inverse_of}
use Rattle.sq_graph.specs.declared.item.Term.{Term}
use Rattle.sq_graph.specs.declared.item.Term.TheVariants.{Fall, Jump, Branch, Call, PartJump, Indirect, Stop}
use Rattle.sq_graph.specs.Alike.{AreAlike}
use Rattle.sq_graph.specs.Graph.{Block, Graph}
use Rattle.sq_graph.specs.Blocks.{named, HasBlock, block_of}
use Rattle.sq_graph.specs.Renames.{retargeted_term, renamed_block, renamed}
use Rattle.sq_graph.specs.Rules.{IsGraph}
use Rattle.sq_graph.proofs.Bypassing.{retargeted_same}
use Rattle.sq_graph.proofs.Renamed.{renamed_by_same}
use Rattle.sq_pass.specs.Applied.{KeepsNames}
use Rattle.sq_pass.proofs.Naming.{renamed_keeps}
use Rattle.sq_chain.proofs.Over.{not_new}
use Rattle.sq_chain.specs.Widening.{jumped_over, widened_blocks, fresh, widened, IsWidened}

-- each name is below the fresh one
name_below : (bs : List Block) (n : ℕ) → IsSome (value_of (named bs) n) → n ≤ sum_by (λ (k : ℕ). k) (map (λ (b : Block). b.name) bs)
name_below [] n some = absurd (cc)
name_below (b ∷ bs) n some =
    let all = sum_by-cons (λ (k : ℕ). k) b.name (map (λ (c : Block). c.name) bs) in
    elim (cases_Bool (b.name == n)) [
      | inl here ↦ omega (arith, all, eqb-true b.name n here)
      | inr apart ↦ omega (arith, all, name_below bs n (rw apart at some))
    ]

pub below_fresh : (g : Graph) (n : ℕ) → HasBlock g n → n < fresh g
below_fresh g n has = omega (arith, name_below g.blocks n has)

-- a block of the widened graph was there, or is a new one
over_from : (new next : ℕ) (b : Block) (t : Term) (more : List Block) (m : ℕ) → IsSome (value_of (named (jumped_over new next b t ++ more)) m) → ((b.name == m) ≡ true) ⊎ ((m ≡ new) ⊎ IsSome (value_of (named more) m))
over_from new next b Fall more m some = elim (cases_Bool (b.name == m)) [ inl here ↦ inl here | inr apart ↦ inr (inr (rw apart at some)) ]
over_from new next b (Jump to) more m some = elim (cases_Bool (b.name == m)) [ inl here ↦ inl here | inr apart ↦ inr (inr (rw apart at some)) ]
over_from new next b (Branch cond x y to) more m some =
    elim (cases_Bool (b.name == m)) [
      | inl here ↦ inl here
      | inr apart ↦
          elim (cases_Bool (new == m)) [
            | inl added ↦ inr (inl (sym (eqb-true new m added)))
            | inr other ↦ inr (inr (rw (apart, other) at some))
          ]
    ]
over_from new next b (Call link to) more m some = elim (cases_Bool (b.name == m)) [ inl here ↦ inl here | inr apart ↦ inr (inr (rw apart at some)) ]
over_from new next b (PartJump link part to) more m some = elim (cases_Bool (b.name == m)) [ inl here ↦ inl here | inr apart ↦ inr (inr (rw apart at some)) ]
over_from new next b (Indirect link at offset) more m some = elim (cases_Bool (b.name == m)) [ inl here ↦ inl here | inr apart ↦ inr (inr (rw apart at some)) ]
over_from new next b (Stop word) more m some = elim (cases_Bool (b.name == m)) [ inl here ↦ inl here | inr apart ↦ inr (inr (rw apart at some)) ]

pub record IsAdded (new : ℕ → ℕ) (S : ℕ → Bool) (m : ℕ) : Type 0 where
  pub behind : ℕ
  pub within : S behind ≡ true
  pub is : m ≡ new behind

later_some : (b : Block) (bs : List Block) (m : ℕ) → IsSome (value_of (named bs) m) → IsSome (value_of (named (b ∷ bs)) m)
later_some b bs m some = elim (cases_Bool (b.name == m)) [ inl here ↦ rw here refl | inr apart ↦ rw apart some ]

pub came_from : (new : ℕ → ℕ) (S : ℕ → Bool) (bs : List Block) (m : ℕ) → IsSome (value_of (named (widened_blocks new S bs)) m) → IsSome (value_of (named bs) m) ⊎ IsAdded new S m
came_from new S [] m some = absurd (cc)
came_from new S (b ∷ []) m some = inl some
came_from new S (b ∷ next ∷ rest) m some =
    elim (cases_Bool (b.name == m)) [
      | inl here ↦ inl (rw here refl)
      | inr apart ↦
          elim (cases_Bool (S b.name)) [
            | inl listed ↦
                elim (over_from (new b.name) next.name b b.term (widened_blocks new S (next ∷ rest)) m (rw listed at some)) [
                  | inl here ↦ absurd (cc (apart, here))
                  | inr later ↦
                      elim later [
                        | inl added ↦ inr (record { behind = b.name; within = listed; is = added })
                        | inr behind ↦
                            elim (came_from new S (next ∷ rest) m behind) [
                              | inl old ↦ inl (later_some b (next ∷ rest) m old)
                              | inr added ↦ inr added
                            ]
                      ]
                ]
            | inr absent ↦
                elim (came_from new S (next ∷ rest) m (rw (absent, apart) at some)) [
                  | inl old ↦ inl (later_some b (next ∷ rest) m old)
                  | inr added ↦ inr added
                ]
          ]
    ]

-- blocks whose names stay
module _ (f new new' : ℕ → ℕ) (S : ℕ → Bool) where
  alike_over : (n n' next : ℕ) (b : Block) (t : Term) (more more' : List Block) → b.term ≡ t → renamed_block f b ≡ b → f next ≡ next → f n ≡ n' → map (renamed_block f) more ≡ more' → map (renamed_block f) (jumped_over n next b t ++ more) ≡ jumped_over n' next b t ++ more'
  alike_over n n' next b Fall more more' e own next_is new_is later = λ i. own i ∷ later i
  alike_over n n' next b (Jump to) more more' e own next_is new_is later = λ i. own i ∷ later i
  alike_over n n' next b (Branch cond x y to) more more' e own next_is new_is later =
      let term : Branch cond x y (f to) ≡ Branch cond x y to = sym (ap (retargeted_term f) e) ∙ ap (λ (c : Block). c.term) own ∙ e in
      let to_is : f to ≡ to = cc in
      λ i. record { name = (own i).name; items = (own i).items; term = Branch (inverse_of cond) x y (next_is i) } ∷ record { name = new_is i; items = []; term = Jump (to_is i) } ∷ later i
  alike_over n n' next b (Call link to) more more' e own next_is new_is later = λ i. own i ∷ later i
  alike_over n n' next b (PartJump link part to) more more' e own next_is new_is later = λ i. own i ∷ later i
  alike_over n n' next b (Indirect link at offset) more more' e own next_is new_is later = λ i. own i ∷ later i
  alike_over n n' next b (Stop word) more more' e own next_is new_is later = λ i. own i ∷ later i

  alike_blocks : (bs : List Block) → map (renamed_block f) bs ≡ bs → ((m : ℕ) → S m ≡ true → f (new m) ≡ new' m) → map (renamed_block f) (widened_blocks new S bs) ≡ widened_blocks new' S bs
  alike_blocks [] e names = refl
  alike_blocks (b ∷ []) e names = e
  alike_blocks (b ∷ next ∷ rest) e names =
      let own : renamed_block f b ≡ b = cc in
      let rest_is : map (renamed_block f) (next ∷ rest) ≡ next ∷ rest = cc in
      let next_own : renamed_block f next ≡ next = cc in
      let later = alike_blocks (next ∷ rest) rest_is names in
      elim (cases_Bool (S b.name)) [
        | inl listed ↦ rw listed (alike_over (new b.name) (new' b.name) next.name b b.term (widened_blocks new S (next ∷ rest)) (widened_blocks new' S (next ∷ rest)) refl own (ap (λ (c : Block). c.name) next_own) (names b.name listed) later)
        | inr absent ↦ rw absent (λ i. own i ∷ later i)
      ]

module _ (g h : Graph) (S : ℕ → Bool) (rules : IsGraph g) (wide : IsWidened g h S) where
  -- the fresh name behind a block becomes the new one there
  abbrev other : ℕ → ℕ
  other m = if nat_lt m (fresh g) then m else wide.new (m - fresh g)

  old_is : (m : ℕ) → HasBlock g m → other m ≡ m
  old_is m has = let below : nat_lt m (fresh g) ≡ true = lt-ltb m (fresh g) (below_fresh g m has) in rw below refl

  new_is : (m : ℕ) → other (fresh g + m) ≡ wide.new m
  new_is m =
      let above : nat_lt (fresh g + m) (fresh g) ≡ false = le-ltb (fresh g + m) (fresh g) (omega arith) in
      rw above (ap wide.new (omega arith))

  same : renamed other g ≡ g
  same = renamed_by_same g other (λ n. n) rules old_is ∙ retargeted_same g

  is_widened : h ≡ renamed other (widened g S)
  is_widened =
      let blocks = alike_blocks other (λ n. fresh g + n) wide.new S g.blocks (ap (λ (k : Graph). k.blocks) same) (λ m listed. new_is m) in
      let entry = ap (λ (k : Graph). k.entry) same in
      let words = ap (λ (k : Graph). k.code_words) same in
      let procedures = ap (λ (k : Graph). k.procedures) same in
      wide.is ∙ sym (λ i. record { blocks = blocks i; entry = entry i; code_words = words i; procedures = procedures i })

  apart : (m n : ℕ) → HasBlock (widened g S) m → HasBlock (widened g S) n → other m ≡ other n → m ≡ n
  apart m n has there e =
      elim (came_from (λ k. fresh g + k) S g.blocks m has) [
        | inl old ↦
            elim (came_from (λ k. fresh g + k) S g.blocks n there) [
              | inl old' ↦ sym (old_is m old) ∙ e ∙ old_is n old'
              | inr added ↦ absurd (clash m n old added e)
            ]
        | inr added ↦
            elim (came_from (λ k. fresh g + k) S g.blocks n there) [
              | inl old ↦ absurd (clash n m old added (sym e))
              | inr added' ↦
                  let one : other m ≡ wide.new added.behind = ap other added.is ∙ new_is added.behind in
                  let two : other n ≡ wide.new added'.behind = ap other added'.is ∙ new_is added'.behind in
                  let k : added.behind ≡ added'.behind = wide.apart added.behind added'.behind added.within added'.within (sym one ∙ e ∙ two) in
                  added.is ∙ ap (λ j. fresh g + j) k ∙ sym added'.is
            ]
      ]
    where
      clash : (p q : ℕ) → HasBlock g p → IsAdded (λ k. fresh g + k) S q → other p ≡ other q → ⊥
      clash p q old added f =
          not_new g (wide.new added.behind) p (wide.fresh added.behind added.within) old (sym (old_is p old) ∙ f ∙ ap other added.is ∙ new_is added.behind)

  pub widened_alike : AreAlike (widened g S) h
  widened_alike = record { name = other; one_to_one = apart; is = is_widened }

-- AND BACK

-- the first of these blocks behind which the new block of this name is
abbrev pub owner : (ℕ → ℕ) → (ℕ → Bool) → List Block → ℕ → ℕ
owner new S [] m = m
owner new S (b ∷ bs) m = if S b.name && (new b.name == m) then b.name else owner new S bs m

owner_is : (new : ℕ → ℕ) (S : ℕ → Bool) → ((m n : ℕ) → S m ≡ true → S n ≡ true → new m ≡ new n → m ≡ n) → (bs : List Block) (n : ℕ) → S n ≡ true → IsSome (value_of (named bs) n) → owner new S bs (new n) ≡ n
owner_is new S apart [] n within some = absurd (cc)
owner_is new S apart (b ∷ bs) n within some =
    elim (cases_Bool (S b.name && (new b.name == new n))) [
      | inl here ↦
          let both = and_parts (S b.name) (new b.name == new n) here in
          rw here (apart b.name n both.0 within (eqb-true (new b.name) (new n) both.1))
      | inr other ↦
          elim (cases_Bool (b.name == n)) [
            | inl same ↦
                let is = eqb-true b.name n same in
                let yes : (S b.name && (new b.name == new n)) ≡ true = and_from (S b.name) (new b.name == new n) (subst (λ k. S k ≡ true) (sym is) within) (eq-eqb (new b.name) (new n) (ap new is)) in
                absurd (both_ways (S b.name && (new b.name == new n)) other yes)
            | inr differs ↦ rw other (owner_is new S apart bs n within (rw differs at some))
          ]
    ]

module _ (g h : Graph) (S : ℕ → Bool) (rules : IsGraph g) (there : (n : ℕ) → S n ≡ true → HasBlock g n) (wide : IsWidened g h S) where
  -- the new name behind a block becomes the fresh one there
  abbrev back : ℕ → ℕ
  back m = if is_some (block_of g m) then m else fresh g + owner wide.new S g.blocks m

  back_old : (m : ℕ) → HasBlock g m → back m ≡ m
  back_old m has = rw has refl

  back_new : (m : ℕ) → S m ≡ true → back (wide.new m) ≡ fresh g + m
  back_new m within =
      let none : is_some (block_of g (wide.new m)) ≡ false = ap is_some (wide.fresh m within) in
      ap (λ t. if t then wide.new m else fresh g + owner wide.new S g.blocks (wide.new m)) none
      ∙ ap (λ k. fresh g + k) (owner_is wide.new S wide.apart g.blocks m within (there m within))

  back_same : renamed back g ≡ g
  back_same = renamed_by_same g back (λ n. n) rules back_old ∙ retargeted_same g

  back_is : widened g S ≡ renamed back h
  back_is =
      let blocks = alike_blocks back wide.new (λ n. fresh g + n) S g.blocks (ap (λ (k : Graph). k.blocks) back_same) back_new in
      let entry = ap (λ (k : Graph). k.entry) back_same in
      let words = ap (λ (k : Graph). k.code_words) back_same in
      let procedures = ap (λ (k : Graph). k.procedures) back_same in
      sym (ap (renamed back) wide.is ∙ (λ i. record { blocks = blocks i; entry = entry i; code_words = words i; procedures = procedures i }))

  back_apart : (m n : ℕ) → HasBlock h m → HasBlock h n → back m ≡ back n → m ≡ n
  back_apart m n has has' e =
      elim (from m has) [
        | inl old ↦
            elim (from n has') [
              | inl old' ↦ sym (back_old m old) ∙ e ∙ back_old n old'
              | inr added ↦ absurd (back_clash m n old added e)
            ]
        | inr added ↦
            elim (from n has') [
              | inl old ↦ absurd (back_clash n m old added (sym e))
              | inr added' ↦
                  let one : back m ≡ fresh g + added.behind = ap back added.is ∙ back_new added.behind added.within in
                  let two : back n ≡ fresh g + added'.behind = ap back added'.is ∙ back_new added'.behind added'.within in
                  let sums : fresh g + added.behind ≡ fresh g + added'.behind = sym one ∙ e ∙ two in
                  let k : added.behind ≡ added'.behind = omega (arith, sums) in
                  added.is ∙ ap wide.new k ∙ sym added'.is
            ]
      ]
    where
      from : (p : ℕ) → HasBlock h p → IsSome (value_of (named g.blocks) p) ⊎ IsAdded wide.new S p
      from p has = came_from wide.new S g.blocks p (subst (λ (k : Graph). HasBlock k p) wide.is has)

      back_clash : (p q : ℕ) → HasBlock g p → IsAdded wide.new S q → back p ≡ back q → ⊥
      back_clash p q old added f =
          let sum : p ≡ fresh g + added.behind = sym (back_old p old) ∙ f ∙ ap back added.is ∙ back_new added.behind added.within in
          omega (arith, below_fresh g p old, sum)

  pub alike_widened : AreAlike h (widened g S)
  alike_widened = record { name = back; one_to_one = back_apart; is = back_is }

  -- the names of blocks that were there stand for no others
  back_tests : (n : ℕ) → HasBlock g n → (m : ℕ) → (back m == n) ≡ (m == n)
  back_tests n has m =
      elim (cases_Bool (is_some (block_of g m))) [
        | inl old ↦ ap (λ k. k == n) (back_old m old)
        | inr new ↦
            let is : back m ≡ fresh g + owner wide.new S g.blocks m = rw new refl in
            ne_eqb (back m) n (λ e. absurd (omega (arith, below_fresh g n has, is, e)))
            ∙ sym (ne_eqb m n (λ e. absurd (both_ways (is_some (block_of g m)) new (subst (HasBlock g) (sym e) has))))
      ]

  pub widened_keeps : KeepsNames g (widened g S) h
  widened_keeps = subst (λ (k : Graph). KeepsNames g k h) (sym back_is) (renamed_keeps g h back back_tests)
