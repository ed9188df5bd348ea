-- What a sweep took of the items of a graph, as its table tells it.
use Rattle.std.proofs.Common.{◌≡◌, nat_eq, ℕ, zero, suc, ◌+◌, ◌-◌, ◌<◌, ◌≤◌, ◌==◌, Bool, false, List, [], ◌∷◌, ◌++◌, take, drop, length, replicate, Option, Some, None, IsSome, unwrap_or, refl, sym, ap, ◌∙◌, subst, arith, inl, inr, append_assoc, length-append, set, Result, Ok, Err, OnOk}
use Rattle.std.specs.List.{All, filter, list_all}
use Rattle.std.specs.Map.{update}
use Rattle.std.proofs.lemmas.Bool.{cases_Bool}
use Rattle.std.proofs.lemmas.List.{drop-drop, take_at, drop_at, length-take-le, length-drop, length-replicate, take-append-drop, set_split}
use Rattle.std.proofs.lemmas.List.Elements.{All-head, All-tail, All-weaker}
use Rattle.sq_arena.specs.Entries.{HasDistinctKeys, value_of}
use Rattle.sq_graph.specs.declared.calls.ItemFate.{ItemFate}
use Rattle.sq_graph.specs.declared.calls.ItemFate.TheVariants.{Stays, Calls, Goes}
use Rattle.sq_graph.specs.declared.item.Item.{Item}
use Rattle.sq_graph.specs.Graph.{Block, Graph}
use Rattle.sq_graph.specs.Blocks.{named, HasBlock, block_items, items_of, items_of_blocks}
use Rattle.sq_graph.specs.Calls.{are_free, is_free, AreSpansFrom, with_span, fates_among, fates_of, items_ahead}
use Rattle.sq_graph.specs.Operations.{outlined}
use Rattle.sq_layout.proofs.Walks.{fresh}
use Rattle.sq_lookup.specs.Addresses.{address_at}
use Rattle.sq_lookup.specs.Tables.{number_at}
use Rattle.sq_finger.specs.declared.places.WindowAt.{WindowAt}
use Rattle.sq_outline.specs.declared.sites.Site.{Site}
use Rattle.sq_outline.specs.declared.windows.taken.Taken.{Taken}
use Rattle.sq_outline.specs.WindowsTaken.{AreTaken, is_free_place, IsFreeSite, index_of, HasFates, is_free_at, IsTakenOf}
use Rattle.sq_outline.proofs.WindowsTaken.{taken_more}

-- WHERE ITEMS STAND AMONG ALL

abbrev own_items : List Block → ℕ → List Item
own_items bs name = block_items (value_of (named bs) name)

ahead_fits : (bs : List Block) (name : ℕ) → IsSome (value_of (named bs) name) → items_ahead bs name + length (own_items bs name) ≤ length (items_of_blocks bs)
ahead_fits [] name there = absurd (cc)
ahead_fits (b ∷ bs) name there =
    elim (cases_Bool (b.name == name)) [
      | inl here ↦ rw here (omega (arith, length-append b.items (items_of_blocks bs)))
      | inr apart ↦ rw apart (omega (arith, ahead_fits bs name (rw apart at there), length-append b.items (items_of_blocks bs)))
    ]

-- the fates of a block's items are those from where they stand on
fates_at : (bs : List Block) (fs : List ItemFate) (name : ℕ) → IsSome (value_of (named bs) name) → fates_among bs fs name ≡ take (length (own_items bs name)) (drop (items_ahead bs name) fs)
fates_at [] fs name there = absurd (cc)
fates_at (b ∷ bs) fs name there =
    elim (cases_Bool (b.name == name)) [
      | inl here ↦ rw here refl
      | inr apart ↦
          rw apart
          (fates_at bs (drop (length b.items) fs) name (rw apart at there)
          ∙ ap (λ gs. take (length (own_items bs name)) gs) (drop-drop (items_ahead bs name) (length b.items) fs))
    ]

-- n of the first m from a place on
inside : (at n m : ℕ) (fs : List ItemFate) → at + n ≤ m → take n (drop at (take m fs)) ≡ take n (drop at fs)
inside zero zero m fs within = refl
inside zero (suc n) zero fs within = absurd (omega (arith, within))
inside zero (suc n) (suc m) [] within = refl
inside zero (suc n) (suc m) (f ∷ fs) within = ap (λ gs. f ∷ gs) (inside zero n m fs (omega (arith, within)))
inside (suc at) n zero fs within = absurd (omega (arith, within))
inside (suc at) n (suc m) [] within = refl
inside (suc at) n (suc m) (f ∷ fs) within = inside at n m fs (omega (arith, within))

module _ (g : Graph) (taken : Taken) (is : IsTakenOf g taken) where
  pub spans_one : (site : Site) → HasBlock g site.block → index_of taken site.block site.at ≡ items_ahead g.blocks site.block + site.at
  spans_one site there = ap (λ k. k + site.at) (is.ahead site.block there)

  pub has_fates : (block at n : ℕ) → HasBlock g block → at + n ≤ length (items_of g block) → HasFates taken block at n
  has_fates block at n there within =
      let many = is.fates.many in
      omega (arith, is.ahead block there, within, ahead_fits g.blocks block there, many)

  pub free_there : (block at n : ℕ) → HasBlock g block → at + n ≤ length (items_of g block) → are_free n taken.fates.items (index_of taken block at) ≡ are_free n (fates_of g taken.fates.items block) at
  free_there block at n there within =
      ap (λ k. are_free n taken.fates.items (k + at)) (is.ahead block there)
      ∙ ap (λ fs. list_all is_free (take n fs)) (sym (drop-drop at (items_ahead g.blocks block) taken.fates.items))
      ∙ ap (list_all is_free) (sym (inside at n (length (items_of g block)) (drop (items_ahead g.blocks block) taken.fates.items) within))
      ∙ ap (λ fs. are_free n fs at) (sym (fates_at g.blocks taken.fates.items block there))

  -- n items are there
  abbrev pub There : ℕ → WindowAt → Type 0
  There n place = HasBlock g place.block × (place.at + n ≤ length (items_of g place.block))

  pub all_have_fates : (n : ℕ) (places : List WindowAt) → All (λ place. HasBlock g place.block × (place.at + n ≤ length (items_of g place.block))) places → All (λ place. HasFates taken place.block place.at n) places
  all_have_fates n places all = All-weaker (There n) (λ place. HasFates taken place.block place.at n) (λ place there. has_fates place.block place.at n there.0 there.1) places all

  pub free_places_of : (n : ℕ) (places : List WindowAt) → All (λ place. HasBlock g place.block × (place.at + n ≤ length (items_of g place.block))) places → filter (is_free_at taken n) places ≡ filter (is_free_place g taken.fates.items n) places
  free_places_of n [] all = refl
  free_places_of n (p ∷ places) all =
      let there : There n p = All-head (There n) p places all in
      let same : is_free_at taken n p ≡ is_free_place g taken.fates.items n p = free_there p.block p.at n there.0 there.1 in
      let rest : filter (is_free_at taken n) places ≡ filter (is_free_place g taken.fates.items n) places = free_places_of n places (All-tail (There n) p places all) in
      elim (cases_Bool (is_free_place g taken.fates.items n p)) [
        | inl free ↦ rw (same ∙ free, free) (ap (λ ps. p ∷ ps) rest)
        | inr held ↦ rw (same ∙ held, held) rest
      ]

  pub takes_one : (new : Taken) (n : ℕ) (site : Site) → 1 ≤ n → IsFreeSite g taken.fates.items n site → (procedure : ℕ) → new.fates.items ≡ with_span taken.fates.items (index_of taken site.block site.at) n procedure → new.ahead ≡ taken.ahead → IsTakenOf g new
  takes_one new n site some free procedure span same = record {
    fates =
        subst (AreTaken g) (sym (span ∙ ap (λ k. with_span taken.fates.items k n procedure) (spans_one site free.there)))
        (taken_more g taken.fates.items is.fates site.block site.at n procedure free.within some free.free);
    ahead = λ block there. ap (λ (table : List (Option ℕ)). address_at (number_at table) block) same ∙ is.ahead block there;
  }

  -- it depends on the blocks alone
  pub taken_outlined : (block at n link : ℕ) → IsTakenOf (outlined g block at n link) taken
  taken_outlined block at n link = record { fates = record { many = is.fates.many; spans = is.fates.spans }; ahead = is.ahead }

-- NOTHING IS TAKEN YET

abbrev AreStays : List ItemFate → Type 0
AreStays [] = Unit {0}
AreStays (Stays ∷ fs) = AreStays fs
AreStays (Calls p ∷ fs) = ⊥
AreStays (Goes ∷ fs) = ⊥

all_stay : (n : ℕ) → AreStays (replicate n Stays)
all_stay zero = tt
all_stay (suc n) = all_stay n

take_stay : (n : ℕ) (fs : List ItemFate) → AreStays fs → AreStays (take n fs)
take_stay zero fs stay = tt
take_stay (suc n) [] stay = tt
take_stay (suc n) (Stays ∷ fs) stay = take_stay n fs stay
take_stay (suc n) (Calls p ∷ fs) stay = absurd stay
take_stay (suc n) (Goes ∷ fs) stay = absurd stay

drop_stay : (n : ℕ) (fs : List ItemFate) → AreStays fs → AreStays (drop n fs)
drop_stay zero fs stay = stay
drop_stay (suc n) [] stay = tt
drop_stay (suc n) (Stays ∷ fs) stay = drop_stay n fs stay
drop_stay (suc n) (Calls p ∷ fs) stay = absurd stay
drop_stay (suc n) (Goes ∷ fs) stay = absurd stay

among_stay : (bs : List Block) (fs : List ItemFate) (name : ℕ) → AreStays fs → AreStays (fates_among bs fs name)
among_stay [] fs name stay = tt
among_stay (b ∷ bs) fs name stay =
    elim (cases_Bool (b.name == name)) [
      | inl here ↦ rw here (take_stay (length b.items) fs stay)
      | inr apart ↦ rw apart (among_stay bs (drop (length b.items) fs) name (drop_stay (length b.items) fs stay))
    ]

spans_stay : (t : Bool) (fs : List ItemFate) → AreStays fs → AreSpansFrom t fs
spans_stay t [] stay = tt
spans_stay t (Stays ∷ fs) stay = spans_stay false fs stay
spans_stay t (Calls p ∷ fs) stay = absurd stay
spans_stay t (Goes ∷ fs) stay = absurd stay

-- these numbers are kept, and those of the rest, of which so many items are ahead, are still to come
pub record IsCounted (blocks : List Block) (kept : ℕ → Option ℕ) (rest : List Block) (count : ℕ) : Type 0 where
  pub many : count + length (items_of_blocks rest) ≡ length (items_of_blocks blocks)
  pub fresh : (n : ℕ) → IsSome (value_of (named rest) n) → kept n ≡ None
  pub known : (n : ℕ) → unwrap_or (kept n) (count + items_ahead rest n) ≡ items_ahead blocks n
  pub held : (n : ℕ) → IsSome (value_of (named blocks) n) → kept n ≡ None → IsSome (value_of (named rest) n)

pub none_counted : (blocks : List Block) (kept : ℕ → Option ℕ) → ((n : ℕ) → kept n ≡ None) → IsCounted blocks kept blocks 0
none_counted blocks kept none = record {
  many = omega arith;
  fresh = λ n there. none n;
  known = λ n. ap (λ o. unwrap_or o (0 + items_ahead blocks n)) (none n) ∙ omega arith;
  held = λ n there e. there;
}

pub one_counted : (blocks : List Block) (kept more : ℕ → Option ℕ) (b : Block) (rest : List Block) (count : ℕ) → IsCounted blocks kept (b ∷ rest) count → HasDistinctKeys (named (b ∷ rest)) → ((n : ℕ) → more n ≡ update nat_eq kept b.name (Some count) n)
    → IsCounted blocks more rest (count + length b.items)
one_counted blocks kept more b rest count counted distinct is = record {
  many = omega (arith, counted.many, length-append b.items (items_of_blocks rest));
  fresh = λ n there.
      let apart = fresh b rest n distinct there in
      is n ∙ rw apart (counted.fresh n (rw apart there));
  known = λ n. ap (λ o. unwrap_or o (count + length b.items + items_ahead rest n)) (is n) ∙ elim (cases_Bool (b.name == n)) [
    | inl same ↦
        let none : kept n ≡ None = counted.fresh n (rw same refl) in
        let known : unwrap_or (kept n) (count + 0) ≡ items_ahead blocks n = rw same at (counted.known n) in
        let own : count + 0 ≡ items_ahead blocks n = rw none at known in
        rw same (omega (arith, own))
    | inr apart ↦
        let known : unwrap_or (kept n) (count + (length b.items + items_ahead rest n)) ≡ items_ahead blocks n = rw apart at (counted.known n) in
        let e : count + length b.items + items_ahead rest n ≡ count + (length b.items + items_ahead rest n) = omega arith in
        rw apart (ap (λ k. unwrap_or (kept n) k) e ∙ known)
  ];
  held = λ n there none. elim (cases_Bool (b.name == n)) [
    | inl same ↦
        let now : more n ≡ Some count = is n ∙ rw same refl in
        absurd (cc)
    | inr apart ↦
        let before : kept n ≡ None = sym (is n ∙ rw apart refl) ∙ none in
        rw apart at (counted.held n there before)
  ];
}

pub new_taken : (g : Graph) (taken : Taken) (count : ℕ) → IsCounted g.blocks (number_at taken.ahead) [] count → taken.fates.items ≡ replicate count Stays → IsTakenOf g taken
new_taken g taken count counted stay =
    record {
      fates = record {
        many = ap (λ (fs : List ItemFate). length fs) stay ∙ length-replicate count Stays ∙ omega (arith, counted.many);
        spans = λ block. spans_stay false (fates_of g taken.fates.items block) (among_stay g.blocks taken.fates.items block (subst AreStays (sym stay) (all_stay count)));
      };
      ahead = λ block there. some_number (number_at taken.ahead block) (items_ahead g.blocks block) (count + 0) (λ none. let left = counted.held block there none in absurd (cc)) (counted.known block);
    }
  where
    some_number : (o : Option ℕ) (n m : ℕ) → (o ≡ None → ⊥) → unwrap_or o m ≡ n → unwrap_or o 0 ≡ n
    some_number None n m some e = absurd (some refl)
    some_number (Some k) n m some e = e

-- A SPAN IS WRITTEN

pub on_ok : {T E : Type 0} (r : Result T E) (P : Type 0) → P → OnOk r P
on_ok (Ok x) P p = p
on_ok (Err e) P p = tt

-- those from the one place up to the other go
abbrev pub gone_to : List ItemFate → ℕ → ℕ → List ItemFate
gone_to fs at end = take at fs ++ (replicate (end - at) Goes ++ drop end fs)

pub gone_none : (fs : List ItemFate) (at : ℕ) → fs ≡ gone_to fs at at
gone_none fs at =
    let e : 0 ≡ at - at = omega arith in
    sym (take-append-drop at fs) ∙ ap (λ k. take at fs ++ (replicate k Goes ++ drop at fs)) e

gone_long : (fs : List ItemFate) (at i : ℕ) → at ≤ i → i ≤ length fs → length (gone_to fs at i) ≡ length fs
gone_long fs at i order within =
    omega
    (arith, order, within, length-append (take at fs) (replicate (i - at) Goes ++ drop i fs), length-append (replicate (i - at) Goes) (drop i fs), length-take-le at fs (omega (arith, order, within)), length-replicate (i - at) Goes, length-drop i fs)

one_more : (k : ℕ) (fs : List ItemFate) → replicate k Goes ++ Goes ∷ fs ≡ replicate (suc k) Goes ++ fs
one_more zero fs = refl
one_more (suc k) fs = ap (λ gs. Goes ∷ gs) (one_more k fs)

one_less : (k : ℕ) (fs : List ItemFate) → 1 ≤ k → drop 1 (replicate k Goes ++ fs) ≡ replicate (k - 1) Goes ++ fs
one_less zero fs some = absurd (omega (arith, some))
one_less (suc k) fs some =
    let e : k ≡ suc k - 1 = omega arith in
    ap (λ m. replicate m Goes ++ fs) e

pub gone_more : (fs : List ItemFate) (at i : ℕ) → at ≤ i → i < length fs → set (gone_to fs at i) i Goes ≡ gone_to fs at (i + 1)
gone_more fs at i order within =
    let long : length (take at fs ++ replicate (i - at) Goes) ≡ i =
    omega (arith, order, length-append (take at fs) (replicate (i - at) Goes), length-take-le at fs (omega (arith, order, within)), length-replicate (i - at) Goes) in
    let parts : gone_to fs at i ≡ (take at fs ++ replicate (i - at) Goes) ++ drop i fs = sym (append_assoc (take at fs) (replicate (i - at) Goes) (drop i fs)) in
    let before : take i (gone_to fs at i) ≡ take at fs ++ replicate (i - at) Goes = ap (take i) parts ∙ take_at (take at fs ++ replicate (i - at) Goes) (drop i fs) i long in
    let own : drop i (gone_to fs at i) ≡ drop i fs = ap (drop i) parts ∙ drop_at (take at fs ++ replicate (i - at) Goes) (drop i fs) i long in
    let e : suc i ≡ i + 1 = omega arith in
    let rest : drop (suc i) (gone_to fs at i) ≡ drop (i + 1) fs = ap (λ m. drop m (gone_to fs at i)) e ∙ sym (drop-drop 1 i (gone_to fs at i)) ∙ ap (drop 1) own ∙ drop-drop 1 i fs in
    let size : suc (i - at) ≡ i + 1 - at = omega (arith, order) in
    set_split (gone_to fs at i) i Goes (omega (arith, within, gone_long fs at i order (omega (arith, within))))
    ∙ ap (λ gs. gs ++ Goes ∷ drop (suc i) (gone_to fs at i)) before
    ∙ ap (λ gs. (take at fs ++ replicate (i - at) Goes) ++ Goes ∷ gs) rest
    ∙ append_assoc (take at fs) (replicate (i - at) Goes) (Goes ∷ drop (i + 1) fs)
    ∙ ap (λ gs. take at fs ++ gs) (one_more (i - at) (drop (i + 1) fs) ∙ ap (λ m. replicate m Goes ++ drop (i + 1) fs) size)

pub span_set : (fs : List ItemFate) (at n p : ℕ) → at + n ≤ length fs → 1 ≤ n → set (gone_to fs at (at + n)) at (Calls p) ≡ with_span fs at n p
span_set fs at n p within some =
    let long : length (take at fs) ≡ at = length-take-le at fs (omega (arith, within)) in
    let size : at + n - at ≡ n = omega arith in
    let before : take at (gone_to fs at (at + n)) ≡ take at fs = take_at (take at fs) (replicate (at + n - at) Goes ++ drop (at + n) fs) at long in
    let own : drop at (gone_to fs at (at + n)) ≡ replicate n Goes ++ drop (at + n) fs =
    drop_at (take at fs) (replicate (at + n - at) Goes ++ drop (at + n) fs) at long ∙ ap (λ m. replicate m Goes ++ drop (at + n) fs) size in
    let e : suc at ≡ at + 1 = omega arith in
    let rest : drop (suc at) (gone_to fs at (at + n)) ≡ replicate (n - 1) Goes ++ drop (at + n) fs =
    ap (λ m. drop m (gone_to fs at (at + n))) e ∙ sym (drop-drop 1 at (gone_to fs at (at + n))) ∙ ap (drop 1) own ∙ one_less n (drop (at + n) fs) some in
    set_split (gone_to fs at (at + n)) at (Calls p) (omega (arith, within, some, gone_long fs at (at + n) (omega arith) within))
    ∙ ap (λ gs. gs ++ Calls p ∷ drop (suc at) (gone_to fs at (at + n))) before
    ∙ ap (λ gs. take at fs ++ Calls p ∷ gs) rest
