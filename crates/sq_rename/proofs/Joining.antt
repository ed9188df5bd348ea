-- How pairs of registers come into the two tables.
use Rattle.std.proofs.Common.{◌+◌, ◌≤◌, ◌++◌, drop, get_or, replicate, ◌≡◌, ◌≢◌, ◌<◌, ℕ, zero, suc, ◌⊎◌, inl, inr, ⊎_elim, Bool, true, false, List, [], ◌∷◌, Option, Some, None, length, slice_get, slice_set, refl, sym, ap, ◌∙◌, subst, arith}
use Rattle.std.proofs.lemmas.Bool.{cases_eq}
use Rattle.std.proofs.lemmas.List.{length-set, drop_more, drop_all}
use Rattle.std.proofs.lemmas.Option.{slice_get_read}
use Rattle.std.specs.List.{flat_map}
use Rattle.sq_graph.specs.declared.item.Item.{Item}
use Rattle.sq_graph.specs.Matches.{IsPairIn, item_registers}
use Rattle.sq_rename.specs.declared.pairs.Pairs.{Pairs}
use Rattle.sq_rename.specs.Pairs.{GoWith, AreTables, IsOneToOne, Joined, IsJoining, Nothing, Joins, padded}

abbrev Table : Type 0
Table = List (Option ℕ)

pub set_get : {X : Type 0} (xs : List X) (i : ℕ) (x : X) → i < length xs → slice_get (slice_set xs i x) i ≡ Some x
set_get [] i x l = absurd (omega arith)
set_get (y ∷ xs) zero x l = refl
set_get (y ∷ xs) (suc i) x l = set_get xs i x (omega arith)

pub set_get_other : {X : Type 0} (xs : List X) (i j : ℕ) (x : X) → j ≢ i → slice_get (slice_set xs i x) j ≡ slice_get xs j
set_get_other [] i j x ne = refl
set_get_other (y ∷ xs) zero zero x ne = absurd (ne refl)
set_get_other (y ∷ xs) zero (suc j) x ne = refl
set_get_other (y ∷ xs) (suc i) zero x ne = refl
set_get_other (y ∷ xs) (suc i) (suc j) x ne = set_get_other xs i j x (λ e. ne (ap suc e))

one : (x y : ℕ) (a : Option (Option ℕ)) → a ≡ Some (Some x) → a ≡ Some (Some y) → x ≡ y
one x y a e f = cc

empty : (y : ℕ) (a : Option (Option ℕ)) → a ≡ Some None → a ≡ Some (Some y) → ⊥
empty y a e f = cc

-- Pairs that are joined in two parts

pub join_start : (old : Pairs) (P : ℕ → ℕ → Type 0) → AreTables old → IsJoining old P old P
join_start old P t = record { tables = t; up = λ r s j. j; down = λ r s j. j }

module _ (a b : Pairs) (P Q One Two : ℕ → ℕ → Type 0) (j : IsJoining a P b Q) (one_in : (r s : ℕ) → One r s → Joined b Q r s) where
  at_one : (r s : ℕ) → Joined b One r s → Joined a P r s
  at_one r s (inl g) = j.up r s (inl g)
  at_one r s (inr q) = j.up r s (one_in r s q)

  pub join_fail : ¬ IsOneToOne (Joined b One) → ¬ IsOneToOne (Joined a P)
  join_fail n o = n record {
    there = λ r s t x y. o.there r s t (at_one r s x) (at_one r t y);
    back = λ q r s x y. o.back q r s (at_one q s x) (at_one r s y);
  }

  pub join_step : (c : Pairs) → ((r s : ℕ) → Two r s → Q r s) → ((r s : ℕ) → Q r s → One r s ⊎ Two r s) → IsJoining b One c Nothing → IsJoining a P c Two
  join_step c two_in split k = record {
    tables = k.tables;
    up = λ r s x. ⊎_elim (λ g. at_one r s (k.up r s (inl g))) (λ q. j.up r s (inr (two_in r s q))) x;
    down = λ r s x. ⊎_elim
        (λ g. joined r s (k.down r s (inl g)))
        (λ q. ⊎_elim (λ o. joined r s (k.down r s (inr o))) (λ t. inr t) (split r s q))
        (j.down r s x);
  } where
    joined : (r s : ℕ) → Joined c Nothing r s → Joined c Two r s
    joined r s (inl g) = inl g
    joined r s (inr n) = absurd n

-- where nothing is left
pub join_end : (a b : Pairs) (P Q : ℕ → ℕ → Type 0) → ((r s : ℕ) → Q r s → ⊥) → IsJoining a P b Q → IsJoining a P b Nothing
join_end a b P Q none j = record {
  tables = j.tables;
  up = λ r s x. ⊎_elim (λ g. j.up r s (inl g)) (λ n. absurd n) x;
  down = λ r s x. ⊎_elim (λ g. inl g) (λ q. absurd (none r s q)) (j.down r s x);
}

-- One pair

abbrev pub Single : ℕ → ℕ → ℕ → ℕ → Type 0
Single r s q t = (q ≡ r) × (t ≡ s)

-- one table after a write to both, from the other
half : (t u : Table) (r s : ℕ) → r < length t → s < length u → slice_get t r ≡ Some None → ((x y : ℕ) → slice_get u y ≡ Some (Some x) → slice_get t x ≡ Some (Some y)) → (x y : ℕ) → slice_get (slice_set u s (Some r)) y ≡ Some (Some x) → slice_get (slice_set t r (Some s)) x ≡ Some (Some y)
half t u r s l m none h x y e =
    ⊎_elim
    (λ at. let f : slice_get (slice_set u s (Some r)) s ≡ Some (Some x) = subst (λ z. slice_get (slice_set u s (Some r)) z ≡ Some (Some x)) at e in
    let g : r ≡ x = one r x (slice_get (slice_set u s (Some r)) s) (set_get u s (Some r) m) f in
    subst (λ z. slice_get (slice_set t r (Some s)) z ≡ Some (Some y)) g (subst (λ z. slice_get (slice_set t r (Some s)) r ≡ Some (Some z)) (sym at) (set_get t r (Some s) l)))
    (λ ne. let old = h x y (sym (set_get_other u s y (Some r) ne) ∙ e) in
    set_get_other t r x (Some s) (λ at. empty y (slice_get t r) none (subst (λ z. slice_get t z ≡ Some (Some y)) at old)) ∙ old)
    (cases_eq y s)

pub pair_new : (old : Pairs) (r s : ℕ) → AreTables old → r < 32 → s < 32 → slice_get old.there r ≡ Some None → slice_get old.back s ≡ Some None → Joins true old (Single r s) (record { there = slice_set old.there r (Some s); back = slice_set old.back s (Some r) })
pair_new old r s h l m e f = record {
  tables = record {
    there_count = length-set old.there r (Some s) ∙ h.there_count;
    back_count = length-set old.back s (Some r) ∙ h.back_count;
    there = half old.there old.back r s in_there in_back e h.there;
    back = λ x y g. half old.back old.there s r in_back in_there f (λ y x. h.back x y) y x g;
    zero = kept 0 0 h.zero;
  };
  up = λ x y j. ⊎_elim (λ g. before x y g) (λ n. absurd n) j;
  down = λ x y j. ⊎_elim (λ g. inl (kept x y g)) (λ (p : (x ≡ r) × (y ≡ s)). inl (subst (λ z. slice_get new z ≡ Some (Some y)) (sym p.0) (subst (λ z. slice_get new r ≡ Some (Some z)) (sym p.1) (set_get old.there r (Some s) in_there)))) j;
} where
  new : Table
  new = slice_set old.there r (Some s)

  in_there : r < length old.there
  in_there = subst (λ n. r < n) (sym h.there_count) l

  in_back : s < length old.back
  in_back = subst (λ n. s < n) (sym h.back_count) m

  kept : (x y : ℕ) → GoWith old x y → slice_get (slice_set old.there r (Some s)) x ≡ Some (Some y)
  kept x y g = set_get_other old.there r x (Some s) (λ at. empty y (slice_get old.there r) e (subst (λ z. slice_get old.there z ≡ Some (Some y)) at g)) ∙ g

  before : (x y : ℕ) → slice_get (slice_set old.there r (Some s)) x ≡ Some (Some y) → Joined old (Single r s) x y
  before x y g = ⊎_elim
      (λ at. inr (at, one y s (slice_get (slice_set old.there r (Some s)) r) (subst (λ z. slice_get (slice_set old.there r (Some s)) z ≡ Some (Some y)) at g) (set_get old.there r (Some s) in_there)))
      (λ ne. inl (sym (set_get_other old.there r x (Some s) ne) ∙ g))
      (cases_eq x r)

-- the same, where the tables are written at other words for r and s
pub pair_new_at : (old : Pairs) (r s i j : ℕ) → AreTables old → i ≡ r → j ≡ s → i < 32 → j < 32 → slice_get old.there r ≡ Some None → slice_get old.back s ≡ Some None → Joins true old (Single r s) (record { there = slice_set old.there i (Some s); back = slice_set old.back j (Some r) })
pair_new_at old r s i j h p q l m e f =
    subst (λ x. Joins true old (Single r s) (record { there = slice_set old.there x (Some s); back = slice_set old.back j (Some r) })) (sym p)
    (subst (λ y. Joins true old (Single r s) (record { there = slice_set old.there r (Some s); back = slice_set old.back y (Some r) })) (sym q)
    (pair_new old r s h (omega arith) (omega arith) e f))

pub pair_there : (old : Pairs) (r s other : ℕ) (b : Bool) → AreTables old → slice_get old.there r ≡ Some (Some other) → (b ≡ true → other ≡ s) → (b ≡ false → other ≢ s) → Joins b old (Single r s) old
pair_there old r s other true h e same differ = record {
  tables = h;
  up = λ x y j. ⊎_elim (λ g. inl g) (λ n. absurd n) j;
  down = λ x y j. ⊎_elim (λ g. inl g) (λ (p : (x ≡ r) × (y ≡ s)). inl (subst (λ z. slice_get old.there z ≡ Some (Some y)) (sym p.0) (subst (λ z. slice_get old.there r ≡ Some (Some z)) (same refl ∙ sym p.1) e))) j;
}
pair_there old r s other false h e same differ = λ o. differ refl (o.there r other s (inl e) (inr (refl, refl)))

pub pair_back : (old : Pairs) (r s q : ℕ) → AreTables old → slice_get old.there r ≡ Some None → slice_get old.back s ≡ Some (Some q) → Joins false old (Single r s) old
pair_back old r s q h e f = λ o.
    let g : GoWith old q s = h.there q s f in
    let at : q ≡ r = o.back q r s (inl g) (inr (refl, refl)) in
    empty s (slice_get old.there r) e (subst (λ z. slice_get old.there z ≡ Some (Some s)) at g)

-- what a table was read for
pub read_at : (t : Table) (r i : ℕ) (x : Option ℕ) → length t ≡ 32 → i ≡ r → i < 32 → x ≡ get_or t i x → slice_get t r ≡ Some x
read_at t r i x count at l e = subst (λ j. slice_get t j ≡ Some x) at (slice_get_read t 32 i x (sym count) l e)

-- The tables at first

nones : (n k s : ℕ) (x : Option ℕ) → x ≡ None → slice_get (replicate n x) k ≡ Some (Some s) → ⊥
nones zero k s x e f = cc
nones (suc n) zero s x e f = cc
nones (suc n) (suc k) s x e f = nones n k s x e f

abbrev pub first_table : ℕ → Table
first_table z = slice_set (replicate 32 None) 0 (Some z)

first_only : (z r s : ℕ) → z ≡ 0 → slice_get (first_table z) r ≡ Some (Some s) → (r ≡ 0) × (s ≡ 0)
first_only z zero s e f = let at : z ≡ s = cc in (refl, sym at ∙ e)
first_only z (suc r) s e f = absurd (nones 31 r s None refl f)

first_zero : (z : ℕ) → z ≡ 0 → slice_get (first_table z) 0 ≡ Some (Some 0)
first_zero z e = ap (λ x. Some (Some x)) e

first_back : (z r s : ℕ) → z ≡ 0 → slice_get (first_table z) r ≡ Some (Some s) → slice_get (first_table z) s ≡ Some (Some r)
first_back z r s e f =
    let p = first_only z r s e f in
    subst (λ x. slice_get (first_table z) x ≡ Some (Some r)) (sym p.1) (subst (λ x. slice_get (first_table z) 0 ≡ Some (Some x)) (sym p.0) (first_zero z e))

pub first_tables : (z : ℕ) → z ≡ 0 → AreTables (record { there = first_table z; back = first_table z })
first_tables z e = record {
  there_count = refl;
  back_count = refl;
  there = λ r s f. first_back z s r e f;
  back = λ r s f. first_back z r s e f;
  zero = first_zero z e;
}

pub first_pairs : (z : ℕ) → z ≡ 0 → (r s : ℕ) → GoWith (record { there = first_table z; back = first_table z }) r s → (r ≡ 0) × (s ≡ 0)
first_pairs z e r s f = first_only z r s e f

-- Registers in equal places

pub dropped : {X : Type 0} (xs : List X) (k : ℕ) (x : X) → k < length xs → x ≡ get_or xs k x → drop k xs ≡ x ∷ drop (k + 1) xs
dropped xs k x l e = drop_more xs k x l ∙ ap (λ z. z ∷ drop (k + 1) xs) (sym e)

module _ (xs ys rest more : List ℕ) (x y : ℕ) (e : xs ≡ x ∷ rest) (f : ys ≡ y ∷ more) where
  pub head_in : (q t : ℕ) → Single x y q t → IsPairIn xs ys q t
  head_in q t p = subst (λ z. IsPairIn z ys q t) (sym e) (subst (λ z. IsPairIn (x ∷ rest) z q t) (sym f) (inl p))

  pub tail_in : (q t : ℕ) → IsPairIn rest more q t → IsPairIn xs ys q t
  tail_in q t p = subst (λ z. IsPairIn z ys q t) (sym e) (subst (λ z. IsPairIn (x ∷ rest) z q t) (sym f) (inr p))

  pub head_or_tail : (q t : ℕ) → IsPairIn xs ys q t → Single x y q t ⊎ IsPairIn rest more q t
  head_or_tail q t p = subst (λ z. IsPairIn (x ∷ rest) z q t) f (subst (λ z. IsPairIn z ys q t) e p)

pub none_in : (xs ys : List ℕ) (k : ℕ) → length xs ≤ k → (q t : ℕ) → IsPairIn (drop k xs) (drop k ys) q t → ⊥
none_in xs ys k l q t p = subst (λ z. IsPairIn z (drop k ys) q t) (drop_all k xs l) p

-- lists with x0 behind them
pad_in : (n : ℕ) (xs ys : List ℕ) → length xs ≤ n → (q t : ℕ) → IsPairIn xs ys q t → IsPairIn (padded n xs) (padded n ys) q t
pad_in n [] ys l q t p = absurd p
pad_in n (x ∷ xs) [] l q t p = absurd p
pad_in zero (x ∷ xs) (y ∷ ys) l q t p = absurd (omega arith)
pad_in (suc n) (x ∷ xs) (y ∷ ys) l q t (inl p) = inl p
pad_in (suc n) (x ∷ xs) (y ∷ ys) l q t (inr p) = inr (pad_in n xs ys (omega arith) q t p)

pub pad_out : (n : ℕ) (xs ys : List ℕ) → length xs ≡ length ys → (q t : ℕ) → IsPairIn (padded n xs) (padded n ys) q t → IsPairIn xs ys q t ⊎ ((q ≡ 0) × (t ≡ 0))
pad_out zero xs ys e q t p = absurd p
pad_out (suc n) [] [] e q t (inl p) = inr p
pad_out (suc n) [] [] e q t (inr p) = pad_out n [] [] refl q t p
pad_out (suc n) [] (y ∷ ys) e q t p = absurd (omega arith)
pad_out (suc n) (x ∷ xs) [] e q t p = absurd (omega arith)
pad_out (suc n) (x ∷ xs) (y ∷ ys) e q t (inl p) = inl (inl p)
pad_out (suc n) (x ∷ xs) (y ∷ ys) e q t (inr p) = ⊎_elim (λ i. inl (inr i)) (λ z. inr z) (pad_out n xs ys (omega arith) q t p)

pub zero_with : (a : Pairs) → AreTables a → (q t : ℕ) → (q ≡ 0) × (t ≡ 0) → GoWith a q t
zero_with a h q t p = subst (λ x. GoWith a x t) (sym p.0) (subst (λ x. GoWith a 0 x) (sym p.1) h.zero)

pub joins_padded : (b : Bool) (a c : Pairs) (n : ℕ) (xs ys : List ℕ) → AreTables a → length xs ≡ length ys → length xs ≤ n → Joins b a (IsPairIn (padded n xs) (padded n ys)) c → Joins b a (IsPairIn xs ys) c
joins_padded true a c n xs ys h e l j =
    join_step a a (IsPairIn xs ys) (IsPairIn xs ys) (IsPairIn (padded n xs) (padded n ys)) Nothing (join_start a (IsPairIn xs ys) h)
    (λ q t p. ⊎_elim (λ i. inr i) (λ z. inl (zero_with a h q t z)) (pad_out n xs ys e q t p))
    c (λ q t i. absurd i) (λ q t p. inl (pad_in n xs ys l q t p)) j
joins_padded false a c n xs ys h e l j =
    join_fail a a (IsPairIn xs ys) (IsPairIn xs ys) (IsPairIn (padded n xs) (padded n ys)) Nothing (join_start a (IsPairIn xs ys) h)
    (λ q t p. ⊎_elim (λ i. inr i) (λ z. inl (zero_with a h q t z)) (pad_out n xs ys e q t p)) j

-- a register with itself, and then others
pub joins_link : (b : Bool) (a m c : Pairs) (x : ℕ) (xs : List ℕ) → AreTables a → Joins true a (Single x x) m → Joins b m (IsPairIn xs xs) c → Joins b a (IsPairIn (x ∷ xs) (x ∷ xs)) c
joins_link b a m c x xs h j k =
    let P : ℕ → ℕ → Type 0 = IsPairIn (x ∷ xs) (x ∷ xs) in
    let first : IsJoining a P m (IsPairIn xs xs) = join_step a a P P (Single x x) (IsPairIn xs xs) (join_start a P h) (λ q t p. inr (inl p)) m (λ q t p. inr p) (λ q t p. p) j in
    joins_rest b a m c P (IsPairIn xs xs) first k where
      joins_rest : (b : Bool) (a m c : Pairs) (P Q : ℕ → ℕ → Type 0) → IsJoining a P m Q → Joins b m Q c → Joins b a P c
      joins_rest true a m c P Q j k = join_step a m P Q Q Nothing j (λ q t p. inr p) c (λ q t i. absurd i) (λ q t p. inl p) k
      joins_rest false a m c P Q j k = join_fail a m P Q Q Nothing j (λ q t p. inr p) k

pub link_fails : (b : Bool) (a c : Pairs) (x : ℕ) (xs : List ℕ) → AreTables a → b ≡ false → ¬ IsOneToOne (Joined a (Single x x)) → Joins b a (IsPairIn (x ∷ xs) (x ∷ xs)) c
link_fails b a c x xs h e n =
    let P : ℕ → ℕ → Type 0 = IsPairIn (x ∷ xs) (x ∷ xs) in
    let no : ¬ IsOneToOne (Joined a P) = join_fail a a P P (Single x x) Nothing (join_start a P h) (λ q t p. inr (inl p)) n in
    subst (λ z. Joins z a P c) (sym e) no

-- pairs of registers with themselves, in two parts
both_in : (xs ys : List ℕ) (q t : ℕ) → IsPairIn xs xs q t ⊎ IsPairIn ys ys q t → IsPairIn (xs ++ ys) (xs ++ ys) q t
both_in [] ys q t (inl p) = absurd p
both_in [] ys q t (inr p) = p
both_in (x ∷ xs) ys q t (inl (inl p)) = inl p
both_in (x ∷ xs) ys q t (inl (inr p)) = inr (both_in xs ys q t (inl p))
both_in (x ∷ xs) ys q t (inr p) = inr (both_in xs ys q t (inr p))

in_both : (xs ys : List ℕ) (q t : ℕ) → IsPairIn (xs ++ ys) (xs ++ ys) q t → IsPairIn xs xs q t ⊎ IsPairIn ys ys q t
in_both [] ys q t p = inr p
in_both (x ∷ xs) ys q t (inl p) = inl (inl p)
in_both (x ∷ xs) ys q t (inr p) = ⊎_elim (λ i. inl (inr i)) (λ i. inr i) (in_both xs ys q t p)

abbrev pub Kept : List Item → ℕ → ℕ → Type 0
Kept items = IsPairIn (flat_map item_registers items) (flat_map item_registers items)

module _ (items rest : List Item) (item : Item) (e : items ≡ item ∷ rest) where
  pub kept_head : (q t : ℕ) → IsPairIn (item_registers item) (item_registers item) q t → Kept items q t
  kept_head q t p = subst (λ z. Kept z q t) (sym e) (both_in (item_registers item) (flat_map item_registers rest) q t (inl p))

  pub kept_tail : (q t : ℕ) → Kept rest q t → Kept items q t
  kept_tail q t p = subst (λ z. Kept z q t) (sym e) (both_in (item_registers item) (flat_map item_registers rest) q t (inr p))

  pub kept_split : (q t : ℕ) → Kept items q t → IsPairIn (item_registers item) (item_registers item) q t ⊎ Kept rest q t
  kept_split q t p = in_both (item_registers item) (flat_map item_registers rest) q t (subst (λ z. Kept z q t) e p)

pub kept_none : (items : List Item) (k : ℕ) → length items ≤ k → (q t : ℕ) → Kept (drop k items) q t → ⊥
kept_none items k l q t p = subst (λ z. Kept z q t) (drop_all k items l) p
