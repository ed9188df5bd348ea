-- Windows by their numbers.
use Rattle.std.proofs.Common.{◌≡◌, ℕ, zero, suc, ◌+◌, ◌-◌, ◌^◌, ◌<◌, ◌≤◌, inl, inr, Bool, true, false, ◌&&◌, if◌then◌else◌, List, [], ◌∷◌, ◌++◌, map, take, drop, length, get_or, Option, Some, None, slice_get, Contains, refl, sym, ap, ◌∙◌, subst, arith, add-one, drop-cons, length-append, length-drop, append_assoc}
use Rattle.std.proofs.Common.{nat_lt}
use Rattle.std.proofs.lemmas.Bool.Decides.{nat_tests}
use Rattle.std.specs.Option.{option_map, option_flatten, option_zip, option_and_then}
use Rattle.std.specs.List.{list_all}
use Rattle.std.proofs.Math.ListN.{drop_of_length-le}
use Rattle.std.specs.Cmp.{both_ways}
use Rattle.std.proofs.lemmas.Bool.{cases_Bool, cases_lt, and_parts}
use Rattle.std.proofs.lemmas.List.{append-nil, length-map}
use Rattle.std.proofs.lemmas.List.Elements.{Contains-append_right}
use Rattle.std.proofs.lemmas.Option.{slice_get-map, slice_get-get_or, slice_get_cases, slice_get_past, slice_get_within}
use Rattle.sq_graph.specs.declared.item.Item.{Item}
use Rattle.sq_graph.specs.declared.item.Item.TheVariants.{Op, Hi, Lo, Out}
use Rattle.sq_graph.specs.Blocks.{items_of, items_of_blocks, items_of_bodies, all_items, HasBlock}
use Rattle.sq_graph.specs.Graph.{Graph}
use Rattle.sq_graph.specs.Parts.{names_of}
use Rattle.sq_graph.specs.Rules.{ItemFits, IsGraph}
use Rattle.sq_finger.specs.declared.places.WindowAt.{WindowAt}
use Rattle.sq_finger.specs.declared.keys.ItemKey.{ItemKey}
use Rattle.sq_finger.specs.contracts.keys.ItemKeyPartialEq.TheImpl as item_key_eq
use Rattle.sq_finger.specs.ItemKeys.{key_of}
use Rattle.sq_finger.specs.Numbers.{AreNumbers, AreNumbersOf, member_at}
use Rattle.sq_finger.specs.Runs.{run_at, AreRunNumbers}
use Rattle.sq_finger.specs.Windows.{is_plain, is_window, window_of, IsWindow}
use Rattle.sq_finger.specs.Lines.{block_line, line_in, line_of, plain_item, item_at, AreWindowNumbers}
use Rattle.sq_finger.proofs.Grouping.{contains_at, at_contains}
use Rattle.sq_finger.proofs.Layouts.{length-names, names_are, named_items, items_fit}
use Rattle.sq_finger.proofs.Placing.{total, total_of_blocks, window_parts, window_whole}
use Rattle.sq_finger.proofs.Telling.{get_front, member_there, at_member, items_numbered}

some_same : {X : Type 0} {x y : X} → Some x ≡ Some y → x ≡ y
some_same e = cc

get_behind : {X : Type 0} (xs ys : List X) (k : ℕ) → slice_get (xs ++ ys) (length xs + k) ≡ slice_get ys k
get_behind [] ys k = let e : 0 + k ≡ k = omega arith in ap (slice_get ys) e
get_behind (x ∷ xs) ys k = let e : length (x ∷ xs) + k ≡ suc (length xs + k) = omega arith in ap (slice_get (x ∷ (xs ++ ys))) e ∙ get_behind xs ys k

-- ---- the next place

pub record IsFoundIn (block at ahead : ℕ) (p : WindowAt) : Type 0 where
  pub same : p.block ≡ block
  pub from : at ≤ p.at
  pub to : p.at ≤ at + ahead

block_found : (block at ahead i : ℕ) (p : WindowAt) → slice_get (block_line block at ahead) i ≡ Some p → IsFoundIn block at ahead p
block_found block at zero zero p e = let s = some_same e in record { same = ap (λ q. q.block) (sym s); from = let f = ap (λ q. q.at) s in omega arith; to = let f = ap (λ q. q.at) s in omega arith }
block_found block at zero (suc i) p e = absurd (cc)
block_found block at (suc ahead) zero p e = let s = some_same e in record { same = ap (λ q. q.block) (sym s); from = let f = ap (λ q. q.at) s in omega arith; to = let f = ap (λ q. q.at) s in omega arith }
block_found block at (suc ahead) (suc i) p e = let h = block_found block (at + 1) ahead i p e in record { same = h.same; from = let f = h.from in omega arith; to = let f = h.to in omega arith }

abbrev pub next_place : WindowAt → WindowAt
next_place p = record { block = p.block; at = p.at + 1 }

block_first : (block at ahead : ℕ) → slice_get (block_line block at ahead) 0 ≡ Some (record { block = block; at = at })
block_first block at zero = refl
block_first block at (suc ahead) = refl

block_next : (block at ahead i : ℕ) (p : WindowAt) → slice_get (block_line block at ahead) i ≡ Some p → p.at < at + ahead → slice_get (block_line block at ahead) (suc i) ≡ Some (next_place p)
block_next block at zero zero p e l = absurd (let f = ap (λ q. q.at) (some_same e) in omega arith)
block_next block at zero (suc i) p e l = absurd (cc)
block_next block at (suc ahead) zero p e l = block_first block (at + 1) ahead ∙ ap (λ q. Some (next_place q)) (some_same e)
block_next block at (suc ahead) (suc i) p e l = block_next block (at + 1) ahead i p e (omega arith)

module _ (g : Graph) where
  abbrev lined : ℕ → List WindowAt
  lined name = block_line name 0 (length (items_of g name))

  line_next : (names : List ℕ) (i : ℕ) (p : WindowAt) → slice_get (line_in g names) i ≡ Some p → p.at < length (items_of g p.block) → slice_get (line_in g names) (suc i) ≡ Some (next_place p)
  line_next [] i p e l = absurd (cc)
  line_next (name ∷ names) i p e l = elim (cases_lt i (length (lined name))) [
    | inl within ↦
        let at : slice_get (lined name) i ≡ Some p = sym (get_front (lined name) (line_in g names) i within) ∙ e in
        let found = block_found name 0 (length (items_of g name)) i p at in
        let m : p.at < length (items_of g name) = subst (λ b. p.at < length (items_of g b)) found.same l in
        let next : slice_get (lined name) (suc i) ≡ Some (next_place p) = block_next name 0 (length (items_of g name)) i p at (omega arith) in
        get_front (lined name) (line_in g names) (suc i) (slice_get_within (lined name) (suc i) (next_place p) next) ∙ next
    | inr past ↦
        let k = i - length (lined name) in
        let split : i ≡ length (lined name) + k = omega arith in
        let more : suc i ≡ length (lined name) + suc k = omega arith in
        let at : slice_get (line_in g names) k ≡ Some p = sym (get_behind (lined name) (line_in g names) k) ∙ ap (slice_get (lined name ++ line_in g names)) (sym split) ∙ e in
        ap (slice_get (lined name ++ line_in g names)) more ∙ get_behind (lined name) (line_in g names) (suc k) ∙ line_next names k p at l
  ]

  line_block : (names : List ℕ) (i : ℕ) (p : WindowAt) → slice_get (line_in g names) i ≡ Some p → Contains names p.block
  line_block [] i p e = absurd (cc)
  line_block (name ∷ names) i p e = elim (cases_lt i (length (lined name))) [
    | inl within ↦
        let found = block_found name 0 (length (items_of g name)) i p (sym (get_front (lined name) (line_in g names) i within) ∙ e) in
        at_contains (name ∷ names) 0 p.block (ap Some (sym found.same))
    | inr past ↦
        let k = i - length (lined name) in
        let split : i ≡ length (lined name) + k = omega arith in
        Contains-append_right (name ∷ []) names p.block (line_block names k p (sym (get_behind (lined name) (line_in g names) k) ∙ ap (slice_get (lined name ++ line_in g names)) (sym split) ∙ e))
  ]

-- ---- what stands from a place on

abbrev front : Item × List Item → List Item
front run = run.0 ∷ run.1

abbrev taken : ℕ → List Item → Option (List Item)
taken zero xs = Some []
taken (suc n) [] = None
taken (suc n) (x ∷ xs) = option_map front (option_zip (plain_item x) (taken n xs))

plain_is : (x : Item) → plain_item x ≡ (if is_plain x then Some x else None)
plain_is (Op insn) = refl
plain_is (Hi rd to) = refl
plain_is (Lo rd rs to) = refl
plain_is (Out procedure) = refl

window_step : (n : ℕ) (x : Item) (xs : List Item) → is_window (suc n) (x ∷ xs) ≡ (is_plain x && is_window n xs)
window_step n x xs =
    both_ways (is_window (suc n) (x ∷ xs)) (is_plain x && is_window n xs)
    (λ e.
    let parts = window_parts (suc n) (x ∷ xs) e in
    let all = and_parts (is_plain x) (list_all is_plain (take n xs)) parts.1 in
    let l = parts.0 in
    let rest = window_whole n xs (omega arith) all.1 in
    rw (all.0, rest) refl)
    (λ e.
    let both = and_parts (is_plain x) (is_window n xs) e in
    let parts = window_parts n xs both.1 in
    let l = parts.0 in
    window_whole (suc n) (x ∷ xs) (omega arith) (rw (both.0, parts.1) refl))

both_some : (b w : Bool) (x : Item) (ys : List Item) → option_map front (option_zip (if b then Some x else None) (if w then Some ys else None)) ≡ (if b && w then Some (x ∷ ys) else None)
both_some true true x ys = refl
both_some true false x ys = refl
both_some false true x ys = refl
both_some false false x ys = refl

taken_is : (n : ℕ) (xs : List Item) → taken n xs ≡ (if is_window n xs then Some (take n xs) else None)
taken_is zero xs = rw (window_whole 0 xs (omega arith) refl) refl
taken_is (suc n) [] = elim (cases_Bool (is_window (suc n) [])) [
  | inl t ↦ absurd (let l = (window_parts (suc n) [] t).0 in omega arith)
  | inr f ↦ rw f refl
]
taken_is (suc n) (x ∷ xs) =
    ap (λ o. option_map front (option_zip o (taken n xs))) (plain_is x)
    ∙ ap (λ o. option_map front (option_zip (if is_plain x then Some x else None) o)) (taken_is n xs)
    ∙ both_some (is_plain x) (is_window n xs) x (take n xs)
    ∙ ap (λ b. if b then Some (x ∷ take n xs) else None) (sym (window_step n x xs))

abbrev stand : Graph → ℕ → WindowAt → Option (List Item)
stand g zero p = Some []
stand g (suc n) p = option_map front (option_zip (item_at g p) (stand g n (next_place p)))

stand_is : (g : Graph) (n : ℕ) (p : WindowAt) → stand g n p ≡ taken n (drop p.at (items_of g p.block))
stand_is g zero p = refl
stand_is g (suc n) p = elim ((slice_get_cases (items_of g p.block) p.at).1) [
  | inl y ↦
      let rest : drop p.at (items_of g p.block) ≡ y.0 ∷ drop (p.at + 1) (items_of g p.block) = rw add-one (drop-cons (items_of g p.block) p.at y.0 y.1 ∙ ap (λ z. z ∷ drop (suc p.at) (items_of g p.block)) y.3) in
      ap (λ o. option_map front (option_zip (option_and_then plain_item o) (stand g n (next_place p)))) y.2
      ∙ ap (λ o. option_map front (option_zip (plain_item y.0) o)) (stand_is g n (next_place p))
      ∙ ap (taken (suc n)) (sym rest)
  | inr past ↦
      ap (λ o. option_map front (option_zip (option_and_then plain_item o) (stand g n (next_place p)))) past.1
      ∙ ap (taken (suc n)) (sym (drop_of_length-le (items_of g p.block) past.0))
]

item_within : (xs : List Item) (k : ℕ) (item : Item) → option_and_then plain_item (slice_get xs k) ≡ Some item → k < length xs
item_within xs k item e = elim (cases_lt k (length xs)) [
  | inl l ↦ l
  | inr past ↦ absurd (let f = ap (option_and_then plain_item) (slice_get_past xs k past) in cc)
]

module _ (g : Graph) where
  abbrev pub members : List (Option Item)
  members = map (item_at g) (line_of g)

  member_is : (i : ℕ) (p : WindowAt) → slice_get (line_of g) i ≡ Some p → member_at members i ≡ item_at g p
  member_is i p e = ap option_flatten (slice_get-map (item_at g) (line_of g) i ∙ ap (option_map (item_at g)) e)

  run_step : (n i : ℕ) (p : WindowAt) → slice_get (line_of g) i ≡ Some p → (slice_get (line_of g) (suc i) ≡ Some (next_place p) → run_at n members (suc i) ≡ stand g n (next_place p))
      → (o : Option Item) → item_at g p ≡ o → run_at (suc n) members i ≡ stand g (suc n) p
  run_step n i p e rest None f =
      ap (λ o. option_map front (option_zip o (run_at n members (i + 1)))) (member_is i p e ∙ f)
      ∙ ap (λ o. option_map front (option_zip o (stand g n (next_place p)))) (sym f)
  run_step n i p e rest (Some item) f =
      let next = line_next g (names_of g) i p e (item_within (items_of g p.block) p.at item f) in
      let behind : run_at n members (i + 1) ≡ stand g n (next_place p) = ap (run_at n members) (add-one i) ∙ rest next in
      ap (λ o. option_map front (option_zip o (run_at n members (i + 1)))) (member_is i p e)
      ∙ ap (λ o. option_map front (option_zip (item_at g p) o)) behind

  run_is : (n i : ℕ) (p : WindowAt) → slice_get (line_of g) i ≡ Some p → run_at n members i ≡ stand g n p
  run_is zero i p e = refl
  run_is (suc n) i p e = run_step n i p e (λ next. run_is n (suc i) (next_place p) next) (item_at g p) refl

  window_is : (n i : ℕ) (p : WindowAt) → slice_get (line_of g) i ≡ Some p → run_at n members i ≡ (if is_window n (drop p.at (items_of g p.block)) then Some (window_of g n p) else None)
  window_is n i p e = run_is n i p e ∙ stand_is g n p ∙ taken_is n (drop p.at (items_of g p.block))

  -- there is a window exactly where the run is one
  window_true : (n i : ℕ) (p : WindowAt) → slice_get (line_of g) i ≡ Some p → 1 ≤ n → is_window n (drop p.at (items_of g p.block)) ≡ true → IsWindow g n p
  window_true n i p e some t =
      let parts = window_parts n (drop p.at (items_of g p.block)) t in
      record {
        block = (names_are g p.block).0 (line_block g (names_of g) i p e);
        within = let l = length-drop p.at (items_of g p.block) in let m = parts.0 in omega arith;
        plain = parts.1;
      }

  true_window : (n : ℕ) (p : WindowAt) → IsWindow g n p → is_window n (drop p.at (items_of g p.block)) ≡ true
  true_window n p w =
      let l = length-drop p.at (items_of g p.block) in
      let within = w.within in
      window_whole n (drop p.at (items_of g p.block)) (omega arith) w.plain

  run_there : (n i : ℕ) (p : WindowAt) → slice_get (line_of g) i ≡ Some p → is_window n (drop p.at (items_of g p.block)) ≡ true → run_at n members i ≡ Some (window_of g n p)
  run_there n i p e t = window_is n i p e ∙ ap (λ b. if b then Some (window_of g n p) else None) t

  pub windows_numbered : (n : ℕ) (numbers : List (Option ℕ)) → 1 ≤ n → AreRunNumbers n members numbers → AreWindowNumbers g n (line_of g) numbers
  windows_numbered n numbers some are = record {
    many = are.many ∙ length-map (line_of g) (item_at g);
    window = λ i m p e f. elim (cases_Bool (is_window n (drop p.at (items_of g p.block)))) [
      | inl t ↦ window_true n i p e some t
      | inr u ↦ absurd (
          let none = (are.none i).1 (window_is n i p e ∙ ap (λ b. if b then Some (window_of g n p) else None) u) in
          let there = member_there numbers i m f in cc)
    ];
    numbered = λ i p e w. number_of i p e (run_there n i p e (true_window n p w)) (member_at numbers i) refl;
    same = λ i j m k p q e f h l.
        let s = are.same i j in
        let at = member_there numbers i m h in
        let bt = member_there numbers j k l in
        let a = run_there n i p e (is_true i m p e h) in
        let b = run_there n j q f (is_true j k q f l) in (
          λ x. some_same (sym a ∙ s.0 (at ∙ ap Some x ∙ sym bt) ∙ b),
          λ x. some_same (sym at ∙ s.1 (a ∙ ap Some x ∙ sym b) ∙ bt),
        );
  }
    where
      number_of : (i : ℕ) (p : WindowAt) → slice_get (line_of g) i ≡ Some p → run_at n members i ≡ Some (window_of g n p) → (o : Option ℕ) → member_at numbers i ≡ o → (m : ℕ) × (slice_get numbers i ≡ Some (Some m))
      number_of i p e r None f = absurd (let none = (are.none i).0 f in cc)
      number_of i p e r (Some m) f = (m, at_member numbers i m f)

      is_true : (i m : ℕ) (p : WindowAt) → slice_get (line_of g) i ≡ Some p → slice_get numbers i ≡ Some (Some m) → is_window n (drop p.at (items_of g p.block)) ≡ true
      is_true i m p e f = elim (cases_Bool (is_window n (drop p.at (items_of g p.block)))) [
        | inl t ↦ t
        | inr u ↦ absurd (
            let none = (are.none i).1 (window_is n i p e ∙ ap (λ b. if b then Some (window_of g n p) else None) u) in
            let there = member_there numbers i m f in cc)
      ]

-- ---- how many places there are

length_block : (block at ahead : ℕ) → length (block_line block at ahead) ≡ suc ahead
length_block block at zero = refl
length_block block at (suc ahead) = ap suc (length_block block (at + 1) ahead)

length_line : (g : Graph) (names : List ℕ) → length (line_in g names) ≡ total (map (λ name. items_of g name) names) + length names
unfolding total
length_line g [] = refl
length_line g (name ∷ names) =
    let here = length_block name 0 (length (items_of g name)) in
    let both = length-append (block_line name 0 (length (items_of g name))) (line_in g names) in
    let rest = length_line g names in omega arith

pub few_line : (g : Graph) (items blocks : ℕ) → IsGraph g → length (all_items g) + items < 2 ^ 29 → length g.blocks + blocks < 2 ^ 29 → length (line_of g) < 2 ^ 32
few_line g items blocks rules few some =
    let a = length_line g (names_of g) in
    let b = ap total (named_items g [] g.blocks rules refl) ∙ total_of_blocks g.blocks in
    let c = length-names g.blocks in
    let d = length-append (items_of_blocks g.blocks) (items_of_bodies g.procedures) in omega arith

-- ---- the items at places

plain_itself : (x item : Item) → plain_item x ≡ Some item → x ≡ item
plain_itself (Op insn) item e = some_same e
plain_itself (Hi rd to) item e = some_same e
plain_itself (Lo rd rs to) item e = some_same e
plain_itself (Out procedure) item e = absurd (cc)

item_listed : (xs : List Item) (k : ℕ) (item : Item) (o : Option Item) → slice_get xs k ≡ o → option_and_then plain_item o ≡ Some item → slice_get xs k ≡ Some item
item_listed xs k item None e f = absurd (cc)
item_listed xs k item (Some x) e f = e ∙ ap Some (plain_itself x item f)

module _ (g : Graph) (rules : IsGraph g) where
  pub place_block : (line : List WindowAt) (i : ℕ) (d : WindowAt) → line ≡ line_of g → i < length line → HasBlock g (get_or line i d).block
  place_block line i d e l =
      let at : slice_get (line_of g) i ≡ Some (get_or line i d) = ap (λ ps. slice_get ps i) (sym e) ∙ slice_get-get_or line i d l in
      (names_are g (get_or line i d).block).0 (line_block g (names_of g) i (get_or line i d) at)

  item_fits : (i : ℕ) (item : Item) (o : Option WindowAt) → slice_get (line_of g) i ≡ o → slice_get (members g) i ≡ Some (Some item) → ItemFits item
  item_fits i item None e f = absurd (let h = slice_get-map (item_at g) (line_of g) i ∙ ap (option_map (item_at g)) e in cc)
  item_fits i item (Some p) e f =
      let h : Some (item_at g p) ≡ Some (Some item) = ap (option_map (item_at g)) (sym e) ∙ sym (slice_get-map (item_at g) (line_of g) i) ∙ f in
      let there = item_listed (items_of g p.block) p.at item (slice_get (items_of g p.block) p.at) refl (some_same h) in
      items_fit g p.block rules ((names_are g p.block).0 (line_block g (names_of g) i p e)) item (at_contains (items_of g p.block) p.at item there)

  members_fit : (item : Item) → Contains (members g) (Some item) → ItemFits item
  members_fit item c = let at = contains_at (members g) (Some item) c in item_fits at.0 item (slice_get (line_of g) at.0) refl at.1

  keys_of_members : (line : List WindowAt) → map (λ place. option_map key_of (item_at g place)) line ≡ map (option_map key_of) (map (item_at g) line)
  keys_of_members [] = refl
  keys_of_members (p ∷ line) = ap (λ ks. option_map key_of (item_at g p) ∷ ks) (keys_of_members line)

  pub numbers_of_items : (line : List WindowAt) (keys : List (Option ItemKey)) (numbers : List (Option ℕ)) → line ≡ line_of g
      → keys ≡ map (λ place. option_map key_of (item_at g place)) line → AreNumbers (item_key_eq.ghosts).eq keys numbers → AreNumbersOf (map (item_at g) line) numbers
  numbers_of_items line keys numbers whole e are =
      subst (λ ps. AreNumbersOf (map (item_at g) ps) numbers) (sym whole)
      (items_numbered (members g) numbers members_fit
      (subst (λ ks. AreNumbers (item_key_eq.ghosts).eq ks numbers) (e ∙ keys_of_members line ∙ ap (λ ps. map (option_map key_of) (map (item_at g) ps)) whole) are))

-- ---- the loop over a block

pub line_step : (done : List WindowAt) (block at count : ℕ) → at < count → (done ++ record { block = block; at = at } ∷ []) ++ block_line block (at + 1) (count - (at + 1)) ≡ done ++ block_line block at (count - at)
line_step done block at count l =
    let e : count - at ≡ suc (count - (at + 1)) = omega arith in
    append_assoc done (record { block = block; at = at } ∷ []) (block_line block (at + 1) (count - (at + 1))) ∙ ap (λ k. done ++ block_line block at k) (sym e)

pub line_more : (g : Graph) (done : List WindowAt) (names : List ℕ) (k name : ℕ) → k < length names → get_or names k name ≡ name
    → (done ++ block_line name 0 (length (items_of g name))) ++ line_in g (drop (k + 1) names) ≡ done ++ line_in g (drop k names)
line_more g done names k name l here =
    let rest : drop k names ≡ name ∷ drop (k + 1) names = rw add-one (drop-cons names k name l ∙ ap (λ i. i ∷ drop (suc k) names) here) in
    append_assoc done (block_line name 0 (length (items_of g name))) (line_in g (drop (k + 1) names)) ∙ ap (λ ns. done ++ line_in g ns) (sym rest)

pub line_end : (g : Graph) (done : List WindowAt) (names : List ℕ) (k : ℕ) → length names ≤ k → done ++ line_in g (drop k names) ≡ line_of g → done ≡ line_of g
line_end g done names k l e = sym (append-nil done) ∙ ap (λ ns. done ++ line_in g ns) (sym (drop_of_length-le names l)) ∙ e

pub line_last : (done : List WindowAt) (block at count : ℕ) → at ≤ count → count ≤ at → done ++ record { block = block; at = count } ∷ [] ≡ done ++ block_line block at (count - at)
line_last done block at count l m =
    let e : at ≡ count = omega arith in
    let f : count - at ≡ 0 = omega arith in
    ap (λ k. done ++ record { block = block; at = k } ∷ []) (sym e) ∙ ap (λ k. done ++ block_line block at k) (sym f)

-- ---- an item that was looked up

pub item_there : (g : Graph) (name : ℕ) (items : List Item) (k : ℕ) (item : Item) → IsGraph g → HasBlock g name → items ≡ items_of g name → true ≡ nat_lt k (length items) → item ≡ get_or items k item → ItemFits item
item_there g name items k item rules there e l f =
    let near : k < length items = grind (arith, nat_tests) in
    items_fit g name rules there item (subst (λ is. Contains is item) e (k, near, sym f))
