-- Blocks whose bodies match have one print.
use Rattle.std.proofs.Common.{◌≡◌, ◌≢◌, ◌↔◌, ◌<◌, ℕ, ◌==◌, ◌||◌, Bool, true, false, not, List, [], ◌∷◌, ◌++◌, length, Option, Some, None, slice_get, inl, inr, ⊎_elim, refl, sym, ap, ◌∙◌, subst, arith}
use Rattle.std.specs.List.{All, flat_map}
use Rattle.std.proofs.lemmas.Bool.{cases_Bool, cases_eq, eqb-true, false_from_ne_true, and_parts, or_cases, or_left, or_right}
use Rattle.std.proofs.lemmas.List.Elements.{All-nil}
use Rattle.sq_arena.specs.Entries.{value_of}
use Rattle.sq_isa.specs.Registers.{is_among, is_member}
use Rattle.sq_isa.specs.Uses.{sources_of, destination_of}
use Rattle.sq_graph.specs.declared.item.Item.{Item}
use Rattle.sq_graph.specs.declared.item.Item.TheVariants.{Op, Hi, Lo, Out}
use Rattle.sq_graph.specs.Graph.{Block, Procedure, Graph}
use Rattle.sq_graph.specs.Blocks.{HasBlock, named, block_items, items_of, items_of_blocks, items_of_bodies}
use Rattle.sq_graph.specs.Matches.{item_registers, procedure_registers, registers_of, item_reads, item_writes, IsSameForm, AreSameForms, IsPairIn, IsPair}
use Rattle.sq_graph.specs.Resolve.{resolved_term_of}
use Rattle.sq_graph.specs.Rules.{ItemFits, IsGraph}
use Rattle.sq_graph.specs.Walks.{is_register}
use Rattle.sq_graph.proofs.Eachs.{All-left, All-right}
use Rattle.sq_live.specs.Liveness.{IsLivenessOf}
use Rattle.sq_rename.specs.Bodies.{IsLiveBehind, live_behind}
use Rattle.sq_rename.specs.Pairs.{IsOneToOne, PairOrZero}
use Rattle.sq_rename.proofs.Bodies.{match_has}
use Rattle.sq_rename.proofs.Prints.{written_among, all_small, all_together, unlike_pair, prints_alike}
use Rattle.law_patch.specs.Bodies.{HaveBodies}
use Rattle.law_patch.proofs.EndsLive.{lives_alike}
use Rattle.sq_tail.specs.BodiesPrints.{end_number, are_named, is_named_by, called_by, is_called, is_kept, print_of}
use Rattle.sq_tail.proofs.Applying.{body_ends}

-- THE ITEMS OF A BLOCK FIT

blocks_fit : (bs : List Block) (name : ℕ) → All ItemFits (items_of_blocks bs) → All ItemFits (block_items (value_of (named bs) name))
blocks_fit [] name all = All-nil ItemFits
blocks_fit (b ∷ bs) name all =
    elim (cases_Bool (b.name == name)) [
      | inl here ↦ rw here (All-left ItemFits b.items (items_of_blocks bs) all)
      | inr apart ↦ rw apart (blocks_fit bs name (All-right ItemFits b.items (items_of_blocks bs) all))
    ]

pub items_fit : (g : Graph) (name : ℕ) → IsGraph g → All ItemFits (items_of g name)
items_fit g name rules = blocks_fit g.blocks name (All-left ItemFits (items_of_blocks g.blocks) (items_of_bodies g.procedures) rules.items)

-- REGISTERS THAT PROCEDURES NAME

among_left : (xs ys : List ℕ) (r : ℕ) → is_among xs r ≡ true → is_among (xs ++ ys) r ≡ true
among_left [] ys r e = absurd (cc)
among_left (x ∷ xs) ys r e = ⊎_elim (λ here. or_left (x == r) (is_among (xs ++ ys) r) here) (λ later. or_right (x == r) (is_among (xs ++ ys) r) (among_left xs ys r later)) (or_cases (x == r) (is_among xs r) e)

among_right : (xs ys : List ℕ) (r : ℕ) → is_among ys r ≡ true → is_among (xs ++ ys) r ≡ true
among_right [] ys r e = e
among_right (x ∷ xs) ys r e = or_right (x == r) (is_among (xs ++ ys) r) (among_right xs ys r e)

pair_with_itself : (xs : List ℕ) (r : ℕ) → is_among xs r ≡ true → IsPairIn xs xs r r
pair_with_itself [] r e = absurd (cc)
pair_with_itself (x ∷ xs) r e = ⊎_elim (λ here. let is = sym (eqb-true x r here) in inl (is, is)) (λ later. inr (pair_with_itself xs r later)) (or_cases (x == r) (is_among xs r) e)

item_named : (item : Item) (r : ℕ) → (item_reads item r || item_writes item r) ≡ true → is_among (item_registers item) r ≡ true
item_named (Op insn) r e =
    ⊎_elim
    (λ reads. or_right (destination_of insn == r) (is_among (sources_of insn) r) (and_parts (not (r == 0)) (is_among (sources_of insn) r) reads).1)
    (λ writes. written_among (destination_of insn) r (sources_of insn) writes)
    (or_cases (item_reads (Op insn) r) (item_writes (Op insn) r) e)
item_named (Hi rd to) r e = written_among rd r [] e
item_named (Lo rd rs to) r e =
    ⊎_elim
    (λ reads. or_right (rd == r) (is_among (rs ∷ []) r) (and_parts (not (r == 0)) (is_among (rs ∷ []) r) reads).1)
    (λ writes. written_among rd r (rs ∷ []) writes)
    (or_cases (item_reads (Lo rd rs to) r) (item_writes (Lo rd rs to) r) e)
item_named (Out procedure) r e = absurd (let f : false ≡ true = e in cc)

items_named : (items : List Item) (r : ℕ) → are_named items r ≡ true → is_among (flat_map item_registers items) r ≡ true
items_named [] r e = absurd (cc)
items_named (item ∷ items) r e =
    let rest = flat_map item_registers items in
    ⊎_elim
    (λ here. among_left (item_registers item) rest r (item_named item r here))
    (λ later. among_right (item_registers item) rest r (items_named items r later))
    (or_cases (item_reads item r || item_writes item r) (are_named items r) e)

procedure_named : (o : Option Procedure) (r : ℕ) → is_named_by o r ≡ true → is_among (procedure_registers o) r ≡ true
procedure_named None r e = absurd (cc)
procedure_named (Some p) r e =
    ⊎_elim
    (λ link. written_among p.link r (flat_map item_registers p.body) link)
    (λ body. or_right (p.link == r) (is_among (flat_map item_registers p.body) r) (items_named p.body r body))
    (or_cases (is_register p.link r) (are_named p.body r) e)

item_called : (ps : List Procedure) (item other : Item) (r : ℕ) → IsSameForm item other → called_by ps item r ≡ true → IsPairIn (registers_of ps item) (registers_of ps other) r r
item_called ps (Op insn) (Op other) r form e = absurd (let f : false ≡ true = e in cc)
item_called ps (Hi rd to) (Hi rd' to') r form e = absurd (let f : false ≡ true = e in cc)
item_called ps (Lo rd rs to) (Lo rd' rs' to') r form e = absurd (let f : false ≡ true = e in cc)
item_called ps (Out p) (Out p') r form e =
    subst (λ q. IsPairIn (procedure_registers (slice_get ps p)) (procedure_registers (slice_get ps q)) r r) (sym form)
    (pair_with_itself (procedure_registers (slice_get ps p)) r (procedure_named (slice_get ps p) r e))
item_called ps item other r form e = absurd form

-- where blocks match, each register of what they call goes with itself
called_pair : (ps : List Procedure) (items others : List Item) (r : ℕ) → AreSameForms items others → is_called ps items r ≡ true → IsPair ps items others r r
called_pair ps [] others r forms e = absurd (let f : false ≡ true = e in cc)
called_pair ps (item ∷ items) [] r forms e = absurd forms
called_pair ps (item ∷ items) (other ∷ others) r forms e =
    ⊎_elim
    (λ here. inl (item_called ps item other r forms.0 here))
    (λ later. inr (called_pair ps items others r forms.1 later))
    (or_cases (called_by ps item r) (is_called ps items r) e)

item_calls_alike : (ps : List Procedure) (item other : Item) (r : ℕ) → IsSameForm item other → called_by ps item r ≡ called_by ps other r
item_calls_alike ps (Op insn) (Op other) r form = refl
item_calls_alike ps (Hi rd to) (Hi rd' to') r form = refl
item_calls_alike ps (Lo rd rs to) (Lo rd' rs' to') r form = refl
item_calls_alike ps (Out p) (Out p') r form = ap (λ q. is_named_by (slice_get ps q) r) (sym form)
item_calls_alike ps item other r form = absurd form

calls_alike : (ps : List Procedure) (items others : List Item) (r : ℕ) → AreSameForms items others → is_called ps items r ≡ is_called ps others r
calls_alike ps [] [] r forms = refl
calls_alike ps [] (other ∷ others) r forms = absurd forms
calls_alike ps (item ∷ items) [] r forms = absurd forms
calls_alike ps (item ∷ items) (other ∷ others) r forms =
    ap (λ b. b || is_called ps items r) (item_calls_alike ps item other r forms.0) ∙ ap (λ b. called_by ps other r || b) (calls_alike ps items others r forms.1)

-- BLOCKS WHOSE BODIES MATCH

same_bool : (a b : Bool) → (a ≡ true → b ≡ true) → (b ≡ true → a ≡ true) → a ≡ b
same_bool true b to from = sym (to refl)
same_bool false true to from = from refl
same_bool false false to from = refl

module _ (live : List (ℕ × List ℕ)) (g : Graph) (dropped kept : ℕ) (rules : IsGraph g) (exact : IsLivenessOf g live) (have : HaveBodies g dropped kept) where
  abbrev items : List Item
  items = items_of g dropped

  abbrev others : List Item
  others = items_of g kept

  abbrev Pairs : ℕ → ℕ → Type 0
  Pairs r s = PairOrZero g.procedures items others r s × ((r < 32) × (s < 32))

  joined : IsOneToOne (PairOrZero g.procedures items others)
  joined = (match_has g.procedures items others (IsLiveBehind g dropped) (record { match = have.match; pairs_die = have.pairs_die })).one_to_one

  one : IsOneToOne Pairs
  one = record { there = λ r s t p o. joined.there r s t p.0 o.0; back = λ q r s p o. joined.back q r s p.0 o.0 }

  zeros : Pairs 0 0
  zeros = (inl (refl, refl), (omega arith, omega arith))

  has : HasBlock g dropped
  has = let ends = body_ends g dropped kept have in ends.has

  there : HasBlock g kept
  there = let ends = body_ends g dropped kept have in ends.there

  abbrev lives : ℕ → Bool
  lives = is_member (live_behind live g dropped)

  abbrev lives' : ℕ → Bool
  lives' = is_member (live_behind live g kept)

  abbrev calls : ℕ → Bool
  calls r = is_called g.procedures items r

  same_calls : (r : ℕ) → calls r ≡ is_called g.procedures others r
  same_calls r = calls_alike g.procedures items others r have.match.forms

  tells : (r : ℕ) → r ≢ 0 → r < 32 → (lives r ≡ true) ↔ IsLiveBehind g dropped r
  tells r some small = exact.exact dropped (length items) r has (omega arith) (omega arith) small

  tells' : (r : ℕ) → r ≢ 0 → r < 32 → (lives' r ≡ true) ↔ IsLiveBehind g kept r
  tells' r some small = exact.exact kept (length others) r there (omega arith) (omega arith) small

  same_behind : (r : ℕ) → r ≢ 0 → r < 32 → lives r ≡ lives' r
  same_behind r some small =
      let to = lives_alike g rules r dropped kept has there have.terms in
      let from = lives_alike g rules r kept dropped there has (sym have.terms) in
      same_bool (lives r) (lives' r) (λ e. (tells' r some small).1 (to ((tells r some small).0 e))) (λ e. (tells r some small).1 (from ((tells' r some small).0 e)))

  dies : (r s : ℕ) → Pairs r s → r ≢ 0 → s ≢ r → is_kept live g dropped r ≡ false
  dies r s p some unlike =
      let pair = unlike_pair g.procedures items others r s p.0 unlike in
      let dead = false_from_ne_true (lives r) (λ e. (have.pairs_die r s pair unlike).0 ((tells r some p.1.0).0 e)) in
      let uncalled = false_from_ne_true (calls r) (λ e. unlike (have.match.there r s r pair (called_pair g.procedures items others r have.match.forms e))) in
      ap (λ b. b || calls r) dead ∙ uncalled

  dies' : (r s : ℕ) → Pairs r s → r ≢ 0 → s ≢ r → is_kept live g kept s ≡ false
  dies' r s p some unlike =
      let pair = unlike_pair g.procedures items others r s p.0 unlike in
      let other : s ≢ 0 = λ e. some (have.match.zero_back r (subst (IsPair g.procedures items others r) e pair)) in
      let dead = sym (same_behind s other p.1.1) ∙ false_from_ne_true (lives s) (λ e. (have.pairs_die r s pair unlike).1 ((tells s other p.1.1).0 e)) in
      let uncalled = sym (same_calls s) ∙ false_from_ne_true (calls s) (λ e. unlike (sym (have.match.back r s s pair (called_pair g.procedures items others s have.match.forms e)))) in
      ap (λ b. b || is_called g.procedures others s) dead ∙ uncalled

  same : (r s : ℕ) → Pairs r s → r ≢ 0 → is_kept live g dropped r ≡ is_kept live g kept s
  same r s p some =
      elim (cases_eq s r) [
        | inl is ↦ ap (λ b. b || calls r) (same_behind r some p.1.0) ∙ ap (λ b. lives' r || b) (same_calls r) ∙ ap (is_kept live g kept) (sym is)
        | inr unlike ↦ dies r s p some unlike ∙ sym (dies' r s p some unlike)
      ]

  pub one_print : print_of live g dropped ≡ print_of live g kept
  one_print =
      let P : ℕ → ℕ → Type 0 = PairOrZero g.procedures items others in
      prints_alike Pairs one zeros (is_kept live g dropped) (is_kept live g kept) same dies items others
      (end_number (resolved_term_of g dropped)) (end_number (resolved_term_of g kept)) (ap end_number have.terms) have.match.forms
      (all_small P items others (items_fit g dropped rules) (items_fit g kept rules) (all_together P g.procedures items others have.match.forms (λ r s pair. inr pair)))
      (λ r s p unlike. have.match.first r s (unlike_pair g.procedures items others r s p.0 unlike) unlike)
