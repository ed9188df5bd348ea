-- Common ends of two bodies.
use Rattle.std.proofs.Common.{◌≡◌, ℕ, zero, suc, ◌+◌, ◌-◌, ◌<◌, ◌≤◌, true, false, List, [], ◌∷◌, drop, length, get_or, slice_get, Option, None, Some, inl, inr, refl, sym, ap, ◌∙◌, subst, arith}
use Rattle.std.specs.Option.{option_map, option_zip}
use Rattle.std.proofs.Math.Seq.{drop-cons}
use Rattle.std.proofs.lemmas.Bool.{cases_Bool, cases_lt, lt-ltb, le-ltb}
use Rattle.std.proofs.lemmas.List.{drop_all}
use Rattle.std.proofs.lemmas.List.Elements.{All-nil, All-cons, All-head, All-tail}
use Rattle.std.proofs.lemmas.Option.{slice_get-get_or}
use Rattle.sq_graph.specs.declared.item.Item.{Item}
use Rattle.sq_graph.specs.declared.item.Item.TheVariants.{Out}
use Rattle.sq_graph.specs.Graph.{Graph}
use Rattle.sq_graph.specs.Blocks.{items_of}
use Rattle.sq_graph.specs.Resolve.{ResolvedTerm, resolved_term_of}
use Rattle.sq_rename.specs.Reservations.{is_reservation, HasNoReservations}
use Rattle.sq_tail.specs.Ends.{last_items, IsCommonEnd, IsLongestEnd, plain_item, item_back, end_of}

-- some item, which a list that is long enough never gives
abbrev pub some_item : Item
some_item = Out 0

-- the item with n behind it
abbrev pub back : ℕ → List Item → Item
back n items = get_or items (length items - 1 - n) some_item

abbrev IsPlain : Item → Type 0
IsPlain item = is_reservation item ≡ false

pub get_any : (items : List Item) (k : ℕ) (d e : Item) → k < length items → get_or items k d ≡ get_or items k e
get_any [] k d e l = absurd (omega (arith, l))
get_any (item ∷ items) zero d e l = refl
get_any (item ∷ items) (suc k) d e l = get_any items k d e (omega (arith, l))

pub last_none : (items : List Item) → last_items 0 items ≡ []
last_none items = drop_all (length items - 0) items (omega arith)

pub last_more : (n : ℕ) (items : List Item) → n < length items → last_items (suc n) items ≡ back n items ∷ last_items n items
last_more n items l =
    let at : length items - suc n ≡ length items - 1 - n = omega (arith, l) in
    let next : suc (length items - 1 - n) ≡ length items - n = omega (arith, l) in
    ap (λ k. drop k items) at ∙ drop-cons items (length items - 1 - n) some_item (omega (arith, l)) ∙ ap (λ k. back n items ∷ drop k items) next

pub common_none : (items others : List Item) → IsCommonEnd items others 0
common_none items others = record {
  first = omega arith;
  second = omega arith;
  same = last_none items ∙ sym (last_none others);
  plain = subst HasNoReservations (sym (last_none others)) (All-nil IsPlain);
}

pub common_more : (items others : List Item) (n : ℕ) → IsCommonEnd items others n → n < length items → n < length others → back n items ≡ back n others → is_reservation (back n others) ≡ false → IsCommonEnd items others (suc n)
common_more items others n common l m same plain = record {
  first = omega (arith, l);
  second = omega (arith, m);
  same = last_more n items l ∙ (λ i. same i ∷ common.same i) ∙ sym (last_more n others m);
  plain = subst HasNoReservations (sym (last_more n others m)) (All-cons IsPlain (back n others) (last_items n others) plain common.plain);
}

-- the item in front, and the rest
pub record IsLonger (items others : List Item) (n : ℕ) : Type 0 where
  pub common : IsCommonEnd items others n
  pub first : n < length items
  pub second : n < length others
  pub same : back n items ≡ back n others
  pub plain : is_reservation (back n others) ≡ false

pub common_next : (items others : List Item) (n : ℕ) → IsCommonEnd items others (suc n) → IsLonger items others n
common_next items others n common =
    let l : n < length items = omega (arith, common.first) in
    let m : n < length others = omega (arith, common.second) in
    let both : back n items ∷ last_items n items ≡ back n others ∷ last_items n others = sym (last_more n items l) ∙ common.same ∙ last_more n others m in
    let own : HasNoReservations (back n others ∷ last_items n others) = subst HasNoReservations (last_more n others m) common.plain in
    record {
      common = record { first = omega (arith, l); second = omega (arith, m); same = cc; plain = All-tail IsPlain (back n others) (last_items n others) own };
      first = l;
      second = m;
      same = cc;
      plain = All-head IsPlain (back n others) (last_items n others) own;
    }

-- a shorter one is one
pub common_down : (items others : List Item) (n k : ℕ) → IsCommonEnd items others (n + k) → IsCommonEnd items others n
common_down items others n zero common = subst (IsCommonEnd items others) (omega arith) common
common_down items others n (suc k) common =
    let next : IsCommonEnd items others (suc (n + k)) = subst (IsCommonEnd items others) (omega arith) common in
    common_down items others n k (common_next items others (n + k) next).common

pub common_less : (items others : List Item) (n m : ℕ) → n ≤ m → IsCommonEnd items others m → IsCommonEnd items others n
common_less items others n m l common = common_down items others n (m - n) (subst (IsCommonEnd items others) (omega (arith, l)) common)

-- it is the longest where the next item differs, or is an LR or SC, or where a body ends
pub longest : (items others : List Item) (n : ℕ) → IsCommonEnd items others n → (IsLonger items others n → ⊥) → IsLongestEnd items others n
longest items others n common stops = record {
  common = common;
  longest = λ m longer. elim (cases_lt n m) [
    | inl l ↦ absurd (stops (common_next items others n (common_less items others (suc n) m (omega (arith, l)) longer)))
    | inr l ↦ l
  ];
}

-- ENDS AS THEY ARE NUMBERED

pub back_found : (n : ℕ) (items : List Item) → n < length items → is_reservation (back n items) ≡ false → item_back n items ≡ Some (back n items)
back_found n items l plain =
    rw (lt-ltb n (length items) l)
    (ap plain_item (slice_get-get_or items (length items - 1 - n) some_item (omega (arith, l))) ∙ rw plain refl)

pub back_reserved : (n : ℕ) (items : List Item) → n < length items → is_reservation (back n items) ≡ true → item_back n items ≡ None
back_reserved n items l reserved =
    rw (lt-ltb n (length items) l)
    (ap plain_item (slice_get-get_or items (length items - 1 - n) some_item (omega (arith, l))) ∙ rw reserved refl)

pub record IsBack (n : ℕ) (items : List Item) (item : Item) : Type 0 where
  pub within : n < length items
  pub is : item ≡ back n items
  pub plain : is_reservation (back n items) ≡ false

pub back_is : (n : ℕ) (items : List Item) (item : Item) → item_back n items ≡ Some item → IsBack n items item
back_is n items item e =
    elim (cases_lt n (length items)) [
      | inl l ↦
          let found : plain_item (slice_get items (length items - 1 - n)) ≡ Some item = rw (lt-ltb n (length items) l) at e in
          let there : plain_item (Some (back n items)) ≡ Some item = sym (ap plain_item (slice_get-get_or items (length items - 1 - n) some_item (omega (arith, l)))) ∙ found in
          elim (cases_Bool (is_reservation (back n items))) [
            | inl reserved ↦ absurd (let none : None ≡ Some item = rw reserved at there in cc)
            | inr plain ↦ let same : Some (back n items) ≡ Some item = rw plain at there in record { within = l; is = cc; plain = plain }
          ]
      | inr l ↦ absurd (let none : None ≡ Some item = rw (le-ltb n (length items) l) at e in cc)
    ]

-- the end of a block is its resolved term and its last items
pub record IsEnd (g : Graph) (n block : ℕ) (end : Option ResolvedTerm × List Item) : Type 0 where
  pub within : n ≤ length (items_of g block)
  pub plain : HasNoReservations (last_items n (items_of g block))
  pub is : end ≡ (resolved_term_of g block, last_items n (items_of g block))

pub end_plain : (g : Graph) (n block : ℕ) → n ≤ length (items_of g block) → HasNoReservations (last_items n (items_of g block)) → end_of g n block ≡ Some (resolved_term_of g block, last_items n (items_of g block))
end_plain g zero block l plain = ap (λ items. Some (resolved_term_of g block, items)) (sym (last_none (items_of g block)))
end_plain g (suc n) block l plain =
    let items = items_of g block in
    let m : n < length (items_of g block) = omega (arith, l) in
    let more = last_more n (items_of g block) m in
    let own : HasNoReservations (back n (items_of g block) ∷ last_items n (items_of g block)) = subst HasNoReservations more plain in
    let rest = end_plain g n block (omega (arith, l)) (All-tail IsPlain (back n items) (last_items n items) own) in
    let first = back_found n (items_of g block) m (All-head IsPlain (back n items) (last_items n items) own) in
    rw (rest, first) (ap (λ is. Some (resolved_term_of g block, is)) (sym more))

pub end_is : (g : Graph) (n block : ℕ) (end : Option ResolvedTerm × List Item) → end_of g n block ≡ Some end → IsEnd g n block end
end_is g zero block end e = record {
  within = omega arith;
  plain = subst HasNoReservations (sym (last_none (items_of g block))) (All-nil IsPlain);
  is = let same : (resolved_term_of g block, []) ≡ end = cc in sym same ∙ ap (λ items. (resolved_term_of g block, items)) (sym (last_none (items_of g block)));
}
end_is g (suc n) block end e = by_parts (λ rest f. end_is g n block rest f) (end_of g n block) (item_back n (items_of g block)) refl refl e
  where
    by_parts : ((rest : Option ResolvedTerm × List Item) → end_of g n block ≡ Some rest → IsEnd g n block rest) → (o : Option (Option ResolvedTerm × List Item)) (p : Option Item) → end_of g n block ≡ o → item_back n (items_of g block) ≡ p → option_map (λ q. (q.0.0, q.1 ∷ q.0.1)) (option_zip o p) ≡ Some end → IsEnd g (suc n) block end
    by_parts before None p f h e = absurd (cc)
    by_parts before (Some rest) None f h e = absurd (cc)
    by_parts before (Some rest) (Some item) f h e =
        let items = items_of g block in
        let was = before rest f in
        let first = back_is n (items_of g block) item h in
        let more = last_more n (items_of g block) first.within in
        let same : (rest.0, item ∷ rest.1) ≡ end = cc in
        let term : rest.0 ≡ resolved_term_of g block = ap (λ p. p.0) was.is in
        let behind : rest.1 ≡ last_items n (items_of g block) = ap (λ p. p.1) was.is in
        record {
          within = omega (arith, first.within);
          plain = subst HasNoReservations (sym more) (All-cons IsPlain (back n items) (last_items n items) first.plain was.plain);
          is = sym same ∙ (λ i. (term i, first.is i ∷ behind i)) ∙ ap (λ is. (resolved_term_of g block, is)) (sym more);
        }
