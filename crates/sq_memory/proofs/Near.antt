-- Addresses that one region serves.
use Rattle.std.proofs.Common.{◌≡◌, ℕ, ◌+◌, ◌<◌, ◌≤◌, Bool, true, false, List, [], ◌∷◌, map, take, length, Option, Some, None, IsSome, is_some, position, nat_lt, get_or, if◌then◌else◌, cond, refl, sym, ap, ◌∙◌, subst, arith}
use Rattle.std.specs.List.{position_from, position_or_len, All}
use Rattle.std.proofs.lemmas.Bool.{ltb-true, ltb-false, lt-ltb}
use Rattle.std.proofs.lemmas.Iterator.Adapters.{position_from-zero}
use Rattle.std.proofs.lemmas.List.{get_or-take, get_or_read, length-take-le}
use Rattle.std.proofs.lemmas.List.Elements.{All-weaker}
use Rattle.std.proofs.lemmas.List.Quantifiers.{position-Some}
use Rattle.std.proofs.lemmas.List.Sums.{position_or_len_is}
use Rattle.sq_memory.specs.declared.contents.Near.{Near}
use Rattle.sq_memory.specs.Regions.{Region, region_cell, region_with, put}
use Rattle.sq_memory.specs.Contents.{HasAddress, Serves}
use Rattle.sq_memory.proofs.CellLaws.{with_cell-present}
use Rattle.sq_memory.proofs.RegionLaws.{region_written}
use Rattle.sq_memory.proofs.Places.{position-map}

is_none : {C : Type 0} (o : Option C) → is_some o ≡ false → o ≡ None
is_none None e = refl
is_none (Some c) e = absurd (cc)

-- the first place at which a list passes a test
found_first : {A : Type 0} (p : A → Bool) (xs : List A) (place : ℕ) (d : A) → place < length xs → p (get_or xs place d) ≡ true → ((k : ℕ) → k < place → p (get_or xs k d) ≡ false) → position p xs ≡ Some place
found_first p xs place d l t f =
    let e : position_or_len p xs ≡ place = position_or_len_is p xs place d (omega arith) f (λ k. t) in
    ap (λ n. cond (nat_lt n (length xs)) (Some n) None) e ∙ ap (λ b. cond b (Some place) None) (lt-ltb place (length xs) l)

-- The addresses of `near`, `address` among them, are some at which the region `served` at this place has a cell and
-- none of the first `count` regions has one.
pub record IsCut {A C : Type 0} (v : A → Region C) (xs : List A) (place : ℕ) (served : A) (address count : ℕ) (near : Near) : Type 0 where
  pub place_is : near.place ≡ place
  pub inside : HasAddress near address
  pub there : (x : ℕ) → HasAddress near x → is_some (region_cell (v served) x) ≡ true
  pub clear : (x : ℕ) → HasAddress near x → (k : ℕ) → k < count → is_some (region_cell (v (get_or xs k served)) x) ≡ false

module _ {A C : Type 0} (v : A → Region C) (xs : List A) (place : ℕ) (served : A) (address : ℕ) where
  first_is : position (λ r. is_some (region_cell (v r) address)) xs ≡ Some place → (place < length xs) × (is_some (region_cell (v (get_or xs place served)) address) ≡ true) × ((k : ℕ) → k < place → is_some (region_cell (v (get_or xs k served)) address) ≡ false)
  first_is = position-Some (λ r. is_some (region_cell (v r) address)) xs place served

  -- all addresses of that region
  pub uncut : (near : Near) (r : A) → position (λ r. is_some (region_cell (v r) address)) xs ≡ Some place → served ≡ get_or xs place served → r ≡ get_or xs place r → near.place ≡ place → ((x : ℕ) → HasAddress near x → IsSome (region_cell (v r) x)) → (IsSome (region_cell (v r) address) → HasAddress near address) → IsCut v xs place served address 0 near
  uncut near r first is at p there all =
      let f = first_is first in
      let here : r ≡ get_or xs place served = get_or_read xs place r f.0 at served in
      let same : r ≡ served = here ∙ sym is in
      record {
        place_is = p;
        inside = all (ap (λ r. is_some (region_cell (v r) address)) here ∙ f.1);
        there = λ x i. ap (λ r. is_some (region_cell (v r) x)) (sym same) ∙ there x i;
        clear = λ x i k l. absurd (omega arith);
      }

  -- the regions before that one have no cell at the address
  pub absent : (k : ℕ) (r : A) → position (λ r. is_some (region_cell (v r) address)) xs ≡ Some place → k < length (take place xs) → r ≡ get_or (take place xs) k r → region_cell (v r) address ≡ None
  absent k r first l is =
      let f = first_is first in
      let m : length (take place xs) ≡ place = length-take-le place xs (omega arith) in
      let at : r ≡ get_or xs k served = get_or_read (take place xs) k r l is served ∙ get_or-take place xs k served (omega arith) in
      is_none (region_cell (v r) address) (ap (λ r. is_some (region_cell (v r) address)) at ∙ f.2 k (omega arith))

  -- one region more is looked at
  pub cut_more : (count : ℕ) (r : A) (near next : Near) → position (λ r. is_some (region_cell (v r) address)) xs ≡ Some place → count < length (take place xs) → r ≡ get_or (take place xs) count r → IsCut v xs place served address count near → next.place ≡ near.place → HasAddress next address → ((x : ℕ) → HasAddress next x → HasAddress near x × (region_cell (v r) x ≡ None)) → IsCut v xs place served address (count + 1) next
  cut_more count r near next first l is h p inside cut =
      let m : length (take place xs) ≡ place = length-take-le place xs (let f = first_is first in omega arith) in
      let at : r ≡ get_or xs count served = get_or_read (take place xs) count r l is served ∙ get_or-take place xs count served (omega arith) in
      let here : (x : ℕ) → HasAddress next x → is_some (region_cell (v (get_or xs count served)) x) ≡ false = λ x i.
      ap (λ r. is_some (region_cell (v r) x)) (sym at) ∙ ap is_some (cut x i).1 in
      record {
        place_is = p ∙ h.place_is;
        inside = inside;
        there = λ x i. h.there x (cut x i).0;
        clear = λ x i k k_below. tell x i k (nat_lt k count) refl k_below (here x i) (h.clear x (cut x i).0 k);
      }
    where
      tell : (x : ℕ) → HasAddress next x → (k : ℕ) (b : Bool) → nat_lt k count ≡ b → k < count + 1 → is_some (region_cell (v (get_or xs count served)) x) ≡ false → (k < count → is_some (region_cell (v (get_or xs k served)) x) ≡ false) → is_some (region_cell (v (get_or xs k served)) x) ≡ false
      tell x i k true e l here before = before (ltb-true k count e)
      tell x i k false e l here before =
          let from : count ≤ k = ltb-false k count e in
          let same : count ≡ k = omega arith in
          subst (λ n. is_some (region_cell (v (get_or xs n served)) x) ≡ false) same here

  -- when all before that one were looked at
  pub cut_serves : (near : Near) (count : ℕ) → position (λ r. is_some (region_cell (v r) address)) xs ≡ Some place → served ≡ get_or xs place served → length (take place xs) ≤ count → IsCut v xs place served address count near → Serves (map v xs) near
  cut_serves near count first is l h x i =
      let f = first_is first in
      let m : length (take place xs) ≡ place = length-take-le place xs (omega arith) in
      let there : is_some (region_cell (v (get_or xs place served)) x) ≡ true = ap (λ r. is_some (region_cell (v r) x)) (sym is) ∙ h.there x i in
      sym (position-map v x xs)
      ∙ (found_first (λ r. is_some (region_cell (v r) x)) xs place served f.0 there (λ k k_below. h.clear x i k (omega arith))
      ∙ ap Some (sym h.place_is))

-- A write keeps which region is the first that has a cell.
region_present : {C : Type 0} (r : Region C) (x y : ℕ) (c : C) → IsSome (region_cell r x) → is_some (region_cell (region_with r x c) y) ≡ is_some (region_cell r y)
region_present r x y c h = ap is_some (region_written r x y c h) ∙ with_cell-present (region_cell r) x c y

place_kept : {C : Type 0} (rs : List (Region C)) (x y i : ℕ) (c : C) → position_from (λ r. is_some (region_cell r y)) i (put rs x c) ≡ position_from (λ r. is_some (region_cell r y)) i rs
place_kept [] x y i c = refl
place_kept (r ∷ rs) x y i c = tell (is_some (region_cell r x)) refl (place_kept rs x y (i + 1) c)
  where
    tell : (b : Bool) → is_some (region_cell r x) ≡ b → position_from (λ s. is_some (region_cell s y)) (i + 1) (put rs x c) ≡ position_from (λ s. is_some (region_cell s y)) (i + 1) rs → position_from (λ s. is_some (region_cell s y)) i (if b then region_with r x c ∷ rs else r ∷ put rs x c) ≡ position_from (λ s. is_some (region_cell s y)) i (r ∷ rs)
    tell true h later = ap (λ b. if b then Some i else position_from (λ s. is_some (region_cell s y)) (i + 1) rs) (region_present r x y c h)
    tell false h later = ap (λ o. if is_some (region_cell r y) then Some i else o) later

serves_put : {C : Type 0} (rs : List (Region C)) (x : ℕ) (c : C) (near : Near) → Serves rs near → Serves (put rs x c) near
serves_put rs x c near h y i =
    position_from-zero (λ r. is_some (region_cell r y)) (put rs x c)
    ∙ (place_kept rs x y 0 c ∙ (sym (position_from-zero (λ r. is_some (region_cell r y)) rs) ∙ h y i))

-- Writes keep what each range is worth.
pub all_serve_put : {C : Type 0} (rs : List (Region C)) (x : ℕ) (c : C) (nears : List Near) → All (Serves rs) nears → All (Serves (put rs x c)) nears
all_serve_put rs x c nears h = All-weaker (Serves rs) (Serves (put rs x c)) (serves_put rs x c) nears h
