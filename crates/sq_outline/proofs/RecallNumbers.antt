-- Numbers of links and bodies.
use Rattle.std.proofs.Common.{◌≡◌, ◌≢◌, ℕ, zero, suc, ◌+◌, ◌<◌, ◌≤◌, Bool, true, false, true≢false, ◌==◌, ◌&&◌, nat_eq, List, [], ◌∷◌, ◌++◌, map, reverse, take, length, sum_by, get_or, Option, Some, slice_get, refl, sym, ap, ◌∙◌, subst, inl, inr, arith, length-append}
use Rattle.std.specs.List.{All, AllByRecursion, IsDistinct, list_any}
use Rattle.std.proofs.lemmas.Bool.{cases_Bool, cases_lt, eq-eqb, eqb-true}
use Rattle.std.proofs.lemmas.List.{append_assoc, take_more, append-nil, map-append, reverse-append, reverse-reverse}
use Rattle.std.proofs.lemmas.Option.{slice_get_within}
use Rattle.std.proofs.lemmas.List.Elements.{All-nil, All-head, All-tail}
use Rattle.indexmap.specs.IndexSet.{insert_key}
use Rattle.sq_isa.specs.Encoding.{word_of}
use Rattle.sq_isa.proofs.Encoded.{insn_of-word_of}
use Rattle.sq_graph.specs.declared.item.Item.{Item}
use Rattle.sq_graph.specs.declared.item.Item.TheVariants.{Op, Hi, Lo, Out}
use Rattle.sq_graph.specs.Graph.{Procedure, Graph}
use Rattle.sq_graph.specs.Blocks.{HasProcedure, procedure_body, body_of, link_of, items_of_blocks, items_of_bodies}
use Rattle.sq_graph.specs.Rules.{IsGraph, ItemFits}
use Rattle.sq_finger.specs.declared.keys.ItemKey.{ItemKey}
use Rattle.sq_finger.specs.ItemKeys.{key_of}
use Rattle.sq_graph.proofs.Eachs.{All-left, All-right}
use Rattle.sq_finger.specs.contracts.keys.ItemKeyPartialEq.TheImpl as item_key_eq
use Rattle.sq_finger.specs.contracts.keys.ItemKeyEq.TheImpl.Laws.{laws-law as item_key_law}
use Rattle.sq_finger.proofs.Keying.{only_instruction}
use Rattle.sq_graph.specs.Words.{procedure_words, words_of}
use Rattle.std.proofs.lemmas.List.Sums.{sum_by-cons}
use Rattle.sq_pass.specs.Cuts.{IsCompleted}
use Rattle.law_patch.proofs.Saving.{uncalled_goes_saves}
use Rattle.sq_pass.specs.declared.cut.Cut.{Cut}
use Rattle.sq_pass.specs.declared.cut.Row.TheVariants.{O3}
use Rattle.sq_finger.specs.Numbers.{IsDouble, NoDouble}
use Rattle.sq_outline.specs.Recalled.{AreDoubles, IsRecalled, recall_cut}
use Rattle.sq_outline.specs.RecalledNumbers.{IsNumber, IsNumberOf, StandOnce, HasGrown, AreBodyNumbers}

some_same : {X : Type 0} {x y : X} → Some x ≡ Some y → x ≡ y
some_same e = cc

-- KEYS

pub same_item : (a b : Item) → ItemFits a → ItemFits b → key_of a ≡ key_of b → a ≡ b
same_item a (Op insn) f h e = only_instruction insn (word_of insn) (insn_of-word_of insn h.1) a f e
same_item (Op insn) (Hi rd to) f h e = absurd (cc)
same_item (Hi rd to) (Hi rd' to') f h e = cc
same_item (Lo rd rs to) (Hi rd' to') f h e = absurd (cc)
same_item (Out p) (Hi rd' to') f h e = absurd (cc)
same_item (Op insn) (Lo rd' rs' to') f h e = absurd (cc)
same_item (Hi rd to) (Lo rd' rs' to') f h e = absurd (cc)
same_item (Lo rd rs to) (Lo rd' rs' to') f h e = cc
same_item (Out p) (Lo rd' rs' to') f h e = absurd (cc)
same_item (Op insn) (Out p') f h e = absurd (cc)
same_item (Hi rd to) (Out p') f h e = absurd (cc)
same_item (Lo rd rs to) (Out p') f h e = absurd (cc)
same_item (Out p) (Out p') f h e = cc

same_items : (xs ys : List Item) → All ItemFits xs → All ItemFits ys → map key_of xs ≡ map key_of ys → xs ≡ ys
same_items [] [] f h e = refl
same_items [] (y ∷ ys) f h e = absurd (cc)
same_items (x ∷ xs) [] f h e = absurd (cc)
same_items (x ∷ xs) (y ∷ ys) f h e =
    let first : key_of x ≡ key_of y = cc in
    let rest : map key_of xs ≡ map key_of ys = cc in
    let one = same_item x y (All-head ItemFits x xs f) (All-head ItemFits y ys h) first in
    let all = same_items xs ys (All-tail ItemFits x xs f) (All-tail ItemFits y ys h) rest in
    cc

reverse_back : {X : Type 0} (xs ys : List X) → reverse xs ≡ reverse ys → xs ≡ ys
reverse_back xs ys e = sym (reverse-reverse xs) ∙ ap reverse e ∙ reverse-reverse ys

-- PAIRS

pub get_ahead : {X : Type 0} (xs ys : List X) (i : ℕ) (x : X) → slice_get xs i ≡ Some x → slice_get (xs ++ ys) i ≡ Some x
get_ahead [] ys i x e = absurd (cc)
get_ahead (z ∷ xs) ys zero x e = e
get_ahead (z ∷ xs) ys (suc i) x e = get_ahead xs ys i x e

all_at : {X : Type 0} (P : X → Type 0) (xs : List X) (i : ℕ) (x : X) → AllByRecursion P xs → slice_get xs i ≡ Some x → P x
all_at P [] i x all e = absurd (cc)
all_at P (z ∷ xs) zero x all e = subst P (some_same e) all.0
all_at P (z ∷ xs) (suc i) x all e = all_at P xs i x all.1 e

pub once : (eq : ℕ × ItemKey → ℕ × ItemKey → Bool) → ((pair : ℕ × ItemKey) → eq pair pair ≡ true) → (pairs : List (ℕ × ItemKey)) → IsDistinct eq pairs → StandOnce pairs
unfolding IsDistinct
once eq itself [] distinct i j pair e f = absurd (cc)
once eq itself (x ∷ pairs) distinct zero zero pair e f = refl
once eq itself (x ∷ pairs) distinct zero (suc j) pair e f =
    absurd (
    true≢false (
    sym (itself x)
    ∙ all_at (λ y. eq x y ≡ false) pairs j x distinct.0 (f ∙ sym e)))
once eq itself (x ∷ pairs) distinct (suc i) zero pair e f =
    absurd (
    true≢false (
    sym (itself x)
    ∙ all_at (λ y. eq x y ≡ false) pairs i x distinct.0 (e ∙ sym f)))
once eq itself (x ∷ pairs) distinct (suc i) (suc j) pair e f = ap suc (once eq itself pairs distinct.1 i j pair e f)

pub grown_through : (m n : ℕ) (xs ys zs : List (ℕ × ItemKey)) → HasGrown m xs ys → HasGrown n ys zs → HasGrown (m + n) xs zs
grown_through m n xs ys zs first second = record {
  more = first.more ++ second.more;
  is = second.is ∙ ap (λ ps. ps ++ second.more) first.is ∙ append_assoc xs first.more second.more;
  few = let p = first.few in let q = second.few in omega arith;
  once = λ once. second.once (first.once once);
}

pub grown_none : (xs : List (ℕ × ItemKey)) → HasGrown 0 xs xs
grown_none xs = record { more = []; is = sym (append-nil xs); few = omega arith; once = λ once. once }

-- NUMBERS

pub number_still : (pairs more : List (ℕ × ItemKey)) (n link : ℕ) (keys : List ItemKey) → IsNumber pairs n link keys → IsNumber (pairs ++ more) n link keys
number_still pairs more n link [] is = is
number_still pairs more n link (key ∷ keys) is = (is.0, is.1, is.2, get_ahead pairs more is.1 (is.0, key) is.3, number_still pairs more is.0 link keys is.4)

pub still_number : (most : ℕ) (old new : List (ℕ × ItemKey)) (n link : ℕ) (items : List Item) → HasGrown most old new → IsNumberOf old n link items → IsNumberOf new n link items
still_number most old new n link items grown is =
    subst (λ pairs. IsNumberOf pairs n link items) (sym grown.is) (number_still old grown.more n link (reverse (map key_of items)) is)

-- one item more
pub number_next : (pairs : List (ℕ × ItemKey)) (m n at link : ℕ) (items : List Item) (item : Item) → n ≡ at + 32 → slice_get pairs at ≡ Some (m, key_of item) → IsNumberOf pairs m link items → IsNumberOf pairs n link (items ++ item ∷ [])
number_next pairs m n at link items item is there before =
    let last : reverse (map key_of (items ++ item ∷ [])) ≡ key_of item ∷ reverse (map key_of items) =
    ap reverse (map-append key_of items (item ∷ [])) ∙ reverse-append (map key_of items) (key_of item ∷ []) in
    subst (λ keys. IsNumber pairs n link keys) (sym last) (m, at, is, there, before)

-- one number, one beginning
one_beginning : (pairs : List (ℕ × ItemKey)) (n link link' : ℕ) (keys keys' : List ItemKey) → link < 32 → link' < 32 → IsNumber pairs n link keys → IsNumber pairs n link' keys' → (link ≡ link') × (keys ≡ keys')
one_beginning pairs n link link' [] [] l l' is is' = (sym is ∙ is', refl)
one_beginning pairs n link link' [] (key' ∷ keys') l l' is is' = absurd (let e = is'.2 in omega (arith, l, is, e))
one_beginning pairs n link link' (key ∷ keys) [] l l' is is' = absurd (let e = is.2 in omega (arith, l', is', e))
one_beginning pairs n link link' (key ∷ keys) (key' ∷ keys') l l' is is' =
    let e = is.2 in
    let e' = is'.2 in
    let at : is.1 ≡ is'.1 = omega (arith, e, e') in
    let pair : (is.0, key) ≡ (is'.0, key') = some_same (sym is.3 ∙ ap (slice_get pairs) at ∙ is'.3) in
    let number : is.0 ≡ is'.0 = ap (λ p. p.0) pair in
    let same : key ≡ key' = ap (λ p. p.1) pair in
    let rest = one_beginning pairs is'.0 link link' keys keys' l l' (subst (λ m. IsNumber pairs m link keys) number is.4) is'.4 in
    (rest.0, ap (λ k. k ∷ keys) same ∙ ap (λ ks. key' ∷ ks) rest.1)

-- one beginning, one number
pub one_number : (pairs : List (ℕ × ItemKey)) (n n' link : ℕ) (keys : List ItemKey) → StandOnce pairs → IsNumber pairs n link keys → IsNumber pairs n' link keys → n ≡ n'
one_number pairs n n' link [] once is is' = is ∙ sym is'
one_number pairs n n' link (key ∷ keys) once is is' =
    let number = one_number pairs is.0 is'.0 link keys once is.4 is'.4 in
    let at = once is.1 is'.1 (is.0, key) is.3 (is'.3 ∙ ap (λ m. Some (m, key)) (sym number)) in
    is.2 ∙ ap (λ i. i + 32) at ∙ sym is'.2

-- ALL PROCEDURES

-- the number of a procedure
pub record IsNumbered (pairs : List (ℕ × ItemKey)) (g : Graph) (numbers : List (Option ℕ)) (p : ℕ) : Type 0 where
  pub number : ℕ
  pub link : ℕ
  pub stands : slice_get numbers p ≡ Some (Some number)
  pub link_is : link_of g p ≡ Some link
  pub register : link < 32
  pub is : IsNumberOf pairs number link (body_of g p)

pub all_numbered : (pairs : List (ℕ × ItemKey)) (g : Graph) (numbers : List (Option ℕ)) → StandOnce pairs → ((p : ℕ) → All ItemFits (body_of g p)) → length numbers ≡ length g.procedures → ((p : ℕ) → p < length g.procedures → IsNumbered pairs g numbers p) → AreBodyNumbers g numbers
all_numbered pairs g numbers once fit many all = record {
  many = many;
  each = λ p there. let h = all p there in (h.number, h.stands);
  same = λ p q m n at_p at_q. (
    λ e.
        let h = all p (within p m at_p) in
        let k = all q (within q n at_q) in
        let number : h.number ≡ k.number = some_same (some_same (sym h.stands ∙ at_p)) ∙ e ∙ sym (some_same (some_same (sym k.stands ∙ at_q))) in
        let one = one_beginning pairs k.number h.link k.link (reverse (map key_of (body_of g p))) (reverse (map key_of (body_of g q))) h.register k.register (subst (λ x. IsNumberOf pairs x h.link (body_of g p)) number h.is) k.is in (
          same_items (body_of g p) (body_of g q) (fit p) (fit q) (reverse_back (map key_of (body_of g p)) (map key_of (body_of g q)) one.1),
          h.link_is ∙ ap Some one.0 ∙ sym k.link_is,
        ),
    λ e.
        let h = all p (within p m at_p) in
        let k = all q (within q n at_q) in
        let link : h.link ≡ k.link = some_same (sym h.link_is ∙ e.1 ∙ k.link_is) in
        let one = one_number pairs h.number k.number k.link (reverse (map key_of (body_of g q))) once
        (subst (λ l. IsNumberOf pairs h.number l (body_of g q)) link (subst (λ is. IsNumberOf pairs h.number h.link is) e.0 h.is)) k.is in
        sym (some_same (some_same (sym h.stands ∙ at_p))) ∙ one ∙ some_same (some_same (sym k.stands ∙ at_q)),
  );
}
  where
    within : (p n : ℕ) → slice_get numbers p ≡ Some (Some n) → p < length g.procedures
    within p n e = omega (arith, many, slice_get_within numbers p (Some n) e)

-- a pair is equal to itself
pub pair_itself : (k : ℕ × ItemKey) → (nat_eq k.0 k.0 && (item_key_eq.ghosts).eq k.1 k.1) ≡ true
pair_itself k = rw (eq-eqb k.0 k.0 refl) (item_key_law.refl k.1)

-- what a set of pairs tells
pub grown_by : (eq : ℕ × ItemKey → ℕ × ItemKey → Bool) (old new : List (ℕ × ItemKey)) (pair : ℕ × ItemKey) → ((k : ℕ × ItemKey) → eq k k ≡ true) → IsDistinct eq new → new ≡ insert_key eq old pair → HasGrown 1 old new
grown_by eq old new pair itself distinct is =
    elim (cases_Bool (list_any (eq pair) old)) [
      | inl known ↦
          let same : new ≡ old = is ∙ rw known refl in
          record { more = []; is = same ∙ sym (append-nil old); few = omega (arith, ap length same); once = λ before. once eq itself new distinct }
      | inr new_one ↦
          let longer : new ≡ old ++ pair ∷ [] = is ∙ rw new_one refl in
          record { more = pair ∷ []; is = longer; few = omega (arith, ap length longer, length-append old (pair ∷ [])); once = λ before. once eq itself new distinct }
    ]

-- FEW ITEMS

pub bodies_step : (ps : List Procedure) (q : ℕ) → q < length ps → length (items_of_bodies (take (q + 1) ps)) ≡ length (items_of_bodies (take q ps)) + length (procedure_body (slice_get ps q))
bodies_step [] q below = absurd (omega (arith, below))
bodies_step (p ∷ ps) zero below = omega (arith, length-append p.body [])
bodies_step (p ∷ ps) (suc q) below =
    let next : suc q + 1 ≡ suc (q + 1) = omega arith in
    omega (
      arith,
      ap (λ n. length (items_of_bodies (take n (p ∷ ps)))) next,
      length-append p.body (items_of_bodies (take (q + 1) ps)),
      length-append p.body (items_of_bodies (take q ps)),
      bodies_step ps q (omega (arith, below)),
    )

pub bodies_few : (ps : List Procedure) (q : ℕ) → length (items_of_bodies (take q ps)) ≤ length (items_of_bodies ps)
bodies_few [] zero = omega arith
bodies_few [] (suc q) = omega arith
bodies_few (p ∷ ps) zero = omega arith
bodies_few (p ∷ ps) (suc q) = omega (arith, length-append p.body (items_of_bodies (take q ps)), length-append p.body (items_of_bodies ps), bodies_few ps q)

pub items_fit : (g : Graph) → IsGraph g → (p : ℕ) → All ItemFits (body_of g p)
items_fit g rules p = in_body g.procedures p (All-right ItemFits (items_of_blocks g.blocks) (items_of_bodies g.procedures) rules.items)
  where
    in_body : (ps : List Procedure) (q : ℕ) → All ItemFits (items_of_bodies ps) → All ItemFits (procedure_body (slice_get ps q))
    in_body [] q all = All-nil ItemFits
    in_body (r ∷ ps) zero all = All-left ItemFits r.body (items_of_bodies ps) all
    in_body (r ∷ ps) (suc q) all = in_body ps q (All-right ItemFits r.body (items_of_bodies ps) all)

-- a body and its return are some of the words
pub body_words : (g : Graph) (q : ℕ) → HasProcedure g q → length (body_of g q) + 1 ≤ words_of g
body_words g q there = let goes = uncalled_goes_saves g q there in omega (arith, goes)

-- STEPS OF LOOPS

pub number_more : (old new : List (ℕ × ItemKey)) (m n at link : ℕ) (body : List Item) (i : ℕ) (item : Item) → i < length body → item ≡ get_or body i item → n ≡ at + 32 → slice_get new at ≡ Some (m, key_of item) → HasGrown 1 old new → IsNumberOf old m link (take i body) → IsNumberOf new n link (take (i + 1) body)
number_more old new m n at link body i item below here is there grown before =
    let all : take (i + 1) body ≡ take i body ++ item ∷ [] = take_more body i item below ∙ ap (λ x. take i body ++ x ∷ []) (sym here) in
    subst (λ is. IsNumberOf new n link is) (sym all) (number_next new m n at link (take i body) item is there (still_number 1 old new m link (take i body) grown before))

pub numbered_more : (g : Graph) (most : ℕ) (old new : List (ℕ × ItemKey)) (numbers numbers' : List (Option ℕ)) (q number link : ℕ) → HasGrown most old new → numbers' ≡ numbers ++ Some number ∷ [] → length numbers ≡ q → link_of g q ≡ Some link → link < 32
    → IsNumberOf new number link (body_of g q) → ((p : ℕ) → p < q → IsNumbered old g numbers p) → (p : ℕ) → p < q + 1 → IsNumbered new g numbers' p
numbered_more g most old new numbers numbers' q number link grown is many link_is register own all p below =
    elim (cases_lt p q) [
      | inl sooner ↦
          let h = all p sooner in
          record {
            number = h.number;
            link = h.link;
            stands = ap (λ ns. slice_get ns p) is ∙ get_ahead numbers (Some number ∷ []) p (Some h.number) h.stands;
            link_is = h.link_is;
            register = h.register;
            is = still_number most old new h.number h.link (body_of g p) grown h.is;
          }
      | inr later ↦
          let here : q ≡ p = omega (arith, below, later) in
          subst (λ k. IsNumbered new g numbers' k) here
          (record {
            number = number;
            link = link;
            stands = ap (λ ns. slice_get ns q) is ∙ get_last numbers (Some number) q many;
            link_is = link_is;
            register = register;
            is = own;
          })
    ]
  where
    get_last : {X : Type 0} (xs : List X) (x : X) (i : ℕ) → length xs ≡ i → slice_get (xs ++ x ∷ []) i ≡ Some x
    get_last [] x zero e = refl
    get_last [] x (suc i) e = absurd (omega (arith, e))
    get_last (y ∷ xs) x zero e = absurd (omega (arith, e))
    get_last (y ∷ xs) x (suc i) e = get_last xs x i (omega (arith, e))

-- DOUBLES

-- two equal procedures have one number twice
pub no_doubles : (g : Graph) (numbers : List (Option ℕ)) (cut : Cut) → AreBodyNumbers g numbers → NoDouble numbers → IsRecalled g cut → ⊥
no_doubles g numbers cut are none recalled = in_order recalled.stays recalled.goes recalled.doubles
  where
    twice : (p q : ℕ) → p < q → HasProcedure g p → HasProcedure g q → body_of g p ≡ body_of g q → link_of g p ≡ link_of g q → IsDouble numbers p q
    twice p q below there there' bodies links =
        let m = are.each p there in
        let n = are.each q there' in
        let same = (are.same p q m.0 n.0 m.1 n.1).1 (bodies, links) in
        (below, (m.0, (m.1, n.1 ∙ ap (λ k. Some (Some k)) (sym same))))

    in_order : (stays goes : ℕ) → AreDoubles g stays goes → ⊥
    in_order stays goes doubles =
        let equal = doubles.equal in
        elim (cases_lt stays goes) [
          | inl first ↦ none stays goes (twice stays goes first equal.there doubles.there (sym equal.bodies) (sym equal.links))
          | inr last ↦
              none goes stays (twice goes stays (let apart = doubles.apart in omega (arith, last, apart)) doubles.there equal.there equal.bodies equal.links)
        ]

-- a number that stands twice is that of two equal procedures
pub double_found : (g : Graph) (numbers : List (Option ℕ)) (stays goes n : ℕ) → AreBodyNumbers g numbers → stays ≢ goes → slice_get numbers stays ≡ Some (Some n) → slice_get numbers goes ≡ Some (Some n) → AreDoubles g stays goes
double_found g numbers stays goes n are apart e f =
    let same = (are.same goes stays n n f e).0 refl in
    record {
      apart = apart;
      there = omega (arith, are.many, slice_get_within numbers goes (Some n) f);
      equal = record { there = omega (arith, are.many, slice_get_within numbers stays (Some n) e); bodies = same.0; links = same.1 };
    }

-- the two procedures of a cut that is completed
pub doubles_of : (g : Graph) (cut given : Cut) → IsCompleted cut given → IsRecalled g given → AreDoubles g cut.procedure cut.other
doubles_of g cut given completed recalled =
    let stays : recalled.stays ≡ cut.procedure = sym (ap (λ (k : Cut). k.procedure) recalled.is) ∙ completed.procedure in
    let goes : recalled.goes ≡ cut.other = sym (ap (λ (k : Cut). k.other) recalled.is) ∙ completed.other in
    subst (λ p. AreDoubles g p cut.other) stays (subst (λ q. AreDoubles g recalled.stays q) goes recalled.doubles)

pub procedures_few : (g : Graph) → length g.procedures ≤ words_of g
procedures_few g = omega (arith, each g.procedures)
  where
    each : (ps : List Procedure) → length ps ≤ sum_by procedure_words ps
    each [] = omega arith
    each (p ∷ ps) = omega (arith, sum_by-cons procedure_words p ps, each ps)

-- ADMITTING A CUT

pub empty : {X : Type 0} (xs ys : List X) (test : Bool) → xs ≡ ys → test ≡ (length xs == 0) → test ≡ true → ys ≡ []
empty [] ys test same is holds = sym same
empty (x ∷ xs) ys test same is holds = absurd (let none = eqb-true (length (x ∷ xs)) 0 (sym is ∙ holds) in omega (arith, none))

pub completed_cut : (g : Graph) (cut made : Cut) → cut.row ≡ O3 → cut.blocks ≡ [] → cut.length ≡ 0 → made ≡ recall_cut g cut.procedure cut.other → IsCompleted cut made
completed_cut g cut made row blocks size is = record {
  row = ap (λ (k : Cut). k.row) is ∙ sym row;
  blocks = λ other. ap (λ (k : Cut). k.blocks) is ∙ sym blocks;
  procedure = ap (λ (k : Cut). k.procedure) is;
  other = ap (λ (k : Cut). k.other) is;
  length = ap (λ (k : Cut). k.length) is ∙ sym size;
}
