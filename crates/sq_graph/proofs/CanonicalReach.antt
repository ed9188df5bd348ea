-- The canonical graph is in reach where the graph is: no item moves, and a name leads where it led.
use Rattle.std.proofs.Common.{◌≡◌, ℕ, ◌+◌, ◌*◌, ◌==◌, get_or, Bool, true, false, List, [], ◌∷◌, ◌++◌, map, length, None, Some, IsSome, refl, sym, ap, ◌∙◌, subst, inl, inr, arith, length-append}
use Rattle.std.proofs.lemmas.Bool.{cases_Bool, eqb-true, eqb-false, eq-eqb, ne_eqb}
use Rattle.std.proofs.lemmas.List.{length-map}
use Rattle.std.proofs.lemmas.List.Elements.{All-head, All-tail}
use Rattle.std.specs.List.{All}
use Rattle.sq_arena.specs.Entries.{HasDistinctKeys, value_of}
use Rattle.sq_arena.proofs.EntriesLaws.{distinct_back}
use Rattle.sq_graph.specs.declared.item.Term.{Term}
use Rattle.sq_graph.specs.declared.item.Term.TheVariants.{Fall, Jump, Branch, Call, PartJump, Indirect, Stop}
use Rattle.sq_graph.specs.Graph.{Block, Graph}
use Rattle.sq_graph.specs.Blocks.{named, all_items}
use Rattle.sq_graph.specs.Uses.{term_uses, terms_uses, items_uses, code_word_uses, uses}
use Rattle.sq_graph.specs.Rules.{IsGraph, last_goes_on}
use Rattle.sq_graph.specs.Words.{term_words, block_words}
use Rattle.sq_graph.specs.Renames.{retargeted_item, retargeted_term, retargeted_block}
use Rattle.sq_graph.specs.Leaders.{is_bare, is_leader}
use Rattle.sq_graph.specs.Canonical.{joined_onto, joined_blocks, joined, canonical_of}
use Rattle.sq_graph.specs.Bypasses.{kept, passed, all_bypassed}
use Rattle.sq_graph.specs.Places.{address_in, block_address, TermReaches, BranchesReach, IsInReach}
use Rattle.sq_graph.proofs.Eachs.{All-left, All-right}
use Rattle.sq_graph.proofs.Bypassing.{falls_on, bare_falls, bare_items, passed-absent}
use Rattle.sq_graph.proofs.Kept.{fall_words, distinct-kept, absent_behind, passed-stays}
use Rattle.sq_graph.proofs.Joining.{takes, with_next}
use Rattle.sq_graph.proofs.Joined.{takes_fall, takes_name}
use Rattle.sq_graph.proofs.CanonicalLaws.{used_are_leaders, canonical_is_joined}

bare_words : (b : Block) → is_bare b ≡ true → block_words b ≡ 0
bare_words b bare = omega (arith, ap (λ is. length is) (bare_items b bare), fall_words b.term (bare_falls b bare))

is_absent : (bs : List Block) (name other : ℕ) → IsSome (value_of (named bs) name) → value_of (named bs) other ≡ None → (other == name) ≡ false
is_absent bs name other some none = ne_eqb other name (λ same. let e : IsSome (value_of (named bs) other) = subst (λ n. IsSome (value_of (named bs) n)) (sym same) some in absurd (cc))

-- where the address of a name is, once the blocks that are empty with Fall are gone
address-kept : (bs : List Block) (at name : ℕ) → HasDistinctKeys (named bs) → last_goes_on bs ≡ false → IsSome (value_of (named bs) name) → address_in (kept bs) at (passed bs name) ≡ address_in bs at name
address-kept [] at name distinct ends some = refl
address-kept (b ∷ []) at name distinct ends some =
    elim (cases_Bool (is_bare b)) [
      | inl bare ↦ absurd (cc (falls_on b.term (bare_falls b bare), ends))
      | inr solid ↦ rw solid refl
    ]
address-kept (b ∷ next ∷ rest) at name distinct ends some =
    let rest_distinct = distinct_back ((b.name, b) ∷ []) (named (next ∷ rest)) distinct in
    elim (cases_Bool (is_bare b)) [
      | inl bare ↦
          let here : at + 4 * block_words b ≡ at = omega (arith, bare_words b bare) in
          elim (cases_Bool (name == b.name)) [
            | inl this ↦
                let other : (b.name == name) ≡ true = eq-eqb b.name name (sym (eqb-true name b.name this)) in
                let same : (next.name == next.name) ≡ true = eq-eqb next.name next.name refl in
                let later : address_in (kept (next ∷ rest)) at (passed (next ∷ rest) next.name) ≡ Some at =
                address-kept (next ∷ rest) at next.name rest_distinct ends (rw same refl) ∙ rw same refl in
                rw (bare, this, other) later
            | inr apart ↦
                let other : (b.name == name) ≡ false = ne_eqb b.name name (λ same. eqb-false name b.name apart (sym same)) in
                rw (bare, apart, other, here) (address-kept (next ∷ rest) at name rest_distinct ends (rw other at some))
          ]
      | inr solid ↦
          elim (cases_Bool (b.name == name)) [
            | inl here ↦
                let is = eqb-true b.name name here in
                let absent : value_of (named (next ∷ rest)) name ≡ None = subst (λ n. value_of (named (next ∷ rest)) n ≡ None) is (absent_behind (b.name, b) (named (next ∷ rest)) distinct) in
                rw (solid, passed-absent (next ∷ rest) name absent, here) refl
            | inr apart ↦
                let some' : IsSome (value_of (named (next ∷ rest)) name) = rw apart at some in
                let kept_distinct : HasDistinctKeys (named (b ∷ kept (next ∷ rest))) = rw solid at (distinct-kept (b ∷ next ∷ rest) distinct) in
                let differs = is_absent (kept (next ∷ rest)) (passed (next ∷ rest) name) b.name (passed-stays (next ∷ rest) name rest_distinct ends some') (absent_behind (b.name, b) (named (kept (next ∷ rest))) kept_distinct) in
                rw (solid, differs, apart) (address-kept (next ∷ rest) (at + 4 * block_words b) name rest_distinct ends some')
          ]
    ]

term_words-moved : (f : ℕ → ℕ) (t : Term) → term_words (retargeted_term f t) ≡ term_words t
term_words-moved f Fall = refl
term_words-moved f (Jump to) = refl
term_words-moved f (Branch c a b to) = refl
term_words-moved f (Call link to) = refl
term_words-moved f (PartJump link part to) = refl
term_words-moved f (Indirect link at offset) = refl
term_words-moved f (Stop word) = refl

words-moved : (f : ℕ → ℕ) (b : Block) → block_words (retargeted_block f b) ≡ block_words b
words-moved f b = omega (arith, length-map b.items (retargeted_item f), term_words-moved f b.term)

address-moved : (f : ℕ → ℕ) (bs : List Block) (at name : ℕ) → address_in (map (retargeted_block f) bs) at name ≡ address_in bs at name
address-moved f [] at name = refl
address-moved f (b ∷ bs) at name =
    elim (cases_Bool (b.name == name)) [
      | inl here ↦ rw here refl
      | inr apart ↦ rw apart (ap (λ n. address_in (map (retargeted_block f) bs) (at + 4 * n) name) (words-moved f b) ∙ address-moved f bs (at + 4 * block_words b) name)
    ]

-- a term reaches its target under another name that has the same address
term_reaches : (g h : Graph) (f : ℕ → ℕ) (at : ℕ) (t : Term) → All (λ n. block_address h 0 (f n) ≡ block_address g 0 n) (term_uses t) → TermReaches g at t → TermReaches h at (retargeted_term f t)
term_reaches g h f at Fall same reaches = tt
term_reaches g h f at (Jump to) same reaches = tt
term_reaches g h f at (Branch c a b to) same reaches = λ target found. reaches target (sym (All-head (λ n. block_address h 0 (f n) ≡ block_address g 0 n) to [] same) ∙ found)
term_reaches g h f at (Call link to) same reaches = tt
term_reaches g h f at (PartJump link part to) same reaches = tt
term_reaches g h f at (Indirect link x offset) same reaches = tt
term_reaches g h f at (Stop word) same reaches = tt

terms_used : (g : Graph) (P : ℕ → Type 0) → All P (uses g) → All P (terms_uses g.blocks)
terms_used g P all =
    All-left P (terms_uses g.blocks) (items_uses (all_items g))
    (All-right P (code_word_uses g.code_words) (terms_uses g.blocks ++ items_uses (all_items g))
    (All-tail P g.entry (code_word_uses g.code_words ++ (terms_uses g.blocks ++ items_uses (all_items g))) all))

module _ (g h : Graph) (f : ℕ → ℕ) where
  abbrev Same : ℕ → Type 0
  Same n = block_address h 0 (f n) ≡ block_address g 0 n

  kept_reach : (at : ℕ) (bs : List Block) → All Same (terms_uses bs) → BranchesReach g at bs → BranchesReach h at (map (retargeted_block f) (kept bs))
  kept_reach at [] same reach = tt
  kept_reach at (b ∷ bs) same reach =
      let rest = All-right Same (term_uses b.term) (terms_uses bs) same in
      elim (cases_Bool (is_bare b)) [
        | inl bare ↦
            let here : at + 4 * block_words b ≡ at = omega (arith, bare_words b bare) in
            rw bare (kept_reach at bs rest (subst (λ n. BranchesReach g n bs) here reach.1))
        | inr solid ↦
            rw solid (
              subst (λ n. TermReaches h (at + 4 * n) (retargeted_term f b.term)) (sym (length-map b.items (retargeted_item f))) (term_reaches g h f (at + 4 * length b.items) b.term (All-left Same (term_uses b.term) (terms_uses bs) same) reach.0),
              subst (λ n. BranchesReach h (at + 4 * n) (map (retargeted_block f) (kept bs))) (sym (words-moved f b)) (kept_reach (at + 4 * block_words b) bs rest reach.1),
            )
      ]

pub bypassed_in_reach : (g : Graph) → IsGraph g → IsInReach g → IsInReach (all_bypassed g)
bypassed_in_reach g rules reach =
    let f = passed g.blocks in
    let same : All (Same g (all_bypassed g) f) (uses g) = λ k d below.
    address-moved f (kept g.blocks) 0 (f (get_or (uses g) k d)) ∙ address-kept g.blocks 0 (get_or (uses g) k d) rules.distinct rules.ends (rules.named_all k d below) in
    kept_reach g (all_bypassed g) f 0 g.blocks (terms_used g (Same g (all_bypassed g) f) same) reach

module _ (leads : ℕ → Bool) where
  -- the address of a leader stays
  address-onto : (b : Block) (bs : List Block) (at name : ℕ) → leads name ≡ true → address_in (joined_onto leads b bs) at name ≡ address_in (b ∷ bs) at name
  address-onto b [] at name leader = refl
  address-onto b (next ∷ rest) at name leader =
      elim (cases_Bool (takes leads b next)) [
        | inr apart ↦ rw apart refl
        | inl joins ↦
            elim (cases_Bool (b.name == name)) [
              | inl here ↦ rw (joins, here) refl
              | inr other ↦
                  elim (cases_Bool (next.name == name)) [
                    | inl this ↦ absurd (cc (takes_name leads b next joins, leader, ap leads (eqb-true next.name name this)))
                    | inr that ↦
                        let size : at + 4 * block_words (with_next leads b next) ≡ (at + 4 * block_words b) + 4 * block_words next =
                        omega (arith, length-append b.items next.items, fall_words b.term (takes_fall leads b next joins)) in
                        rw (joins, other, that) (ap (λ n. address_in rest n name) size)
                  ]
            ]
      ]

  pub address-joined : (bs : List Block) (at name : ℕ) → leads name ≡ true → address_in (joined_blocks leads bs) at name ≡ address_in bs at name
  address-joined [] at name leader = refl
  address-joined (b ∷ bs) at name leader =
      address-onto b (joined_blocks leads bs) at name leader
      ∙ elim (cases_Bool (b.name == name)) [
        | inl here ↦ rw here refl
        | inr apart ↦ rw apart (address-joined bs (at + 4 * block_words b) name leader)
      ]

  reach-onto : (h : Graph) (b : Block) (bs : List Block) (at : ℕ) → BranchesReach h at (b ∷ bs) → BranchesReach h at (joined_onto leads b bs)
  reach-onto h b [] at reach = reach
  reach-onto h b (next ∷ rest) at reach =
      elim (cases_Bool (takes leads b next)) [
        | inr apart ↦ rw apart reach
        | inl joins ↦
            let fall = fall_words b.term (takes_fall leads b next joins) in
            let place : (at + 4 * block_words b) + 4 * length next.items ≡ at + 4 * length (b.items ++ next.items) = omega (arith, length-append b.items next.items) in
            let size : (at + 4 * block_words b) + 4 * block_words next ≡ at + 4 * block_words (with_next leads b next) = omega (arith, length-append b.items next.items) in
            rw joins (subst (λ n. TermReaches h n next.term) place reach.1.0, subst (λ n. BranchesReach h n rest) size reach.1.1)
      ]

module _ (g h : Graph) (leads : ℕ → Bool) where
  term_stays : (at : ℕ) (t : Term) → All (λ n. block_address h 0 n ≡ block_address g 0 n) (term_uses t) → TermReaches g at t → TermReaches h at t
  term_stays at Fall same reaches = tt
  term_stays at (Jump to) same reaches = tt
  term_stays at (Branch c a b to) same reaches = term_reaches g h (λ n. n) at (Branch c a b to) same reaches
  term_stays at (Call link to) same reaches = tt
  term_stays at (PartJump link part to) same reaches = tt
  term_stays at (Indirect link x offset) same reaches = tt
  term_stays at (Stop word) same reaches = tt

  joined_reach : (at : ℕ) (bs : List Block) → All (λ n. block_address h 0 n ≡ block_address g 0 n) (terms_uses bs) → BranchesReach g at bs → BranchesReach h at (joined_blocks leads bs)
  joined_reach at [] same reach = tt
  joined_reach at (b ∷ bs) same reach =
      let Stays : ℕ → Type 0 = λ n. block_address h 0 n ≡ block_address g 0 n in
      reach-onto leads h b (joined_blocks leads bs) at (
        term_stays (at + 4 * length b.items) b.term (All-left Stays (term_uses b.term) (terms_uses bs) same) reach.0,
        joined_reach (at + 4 * block_words b) bs (All-right Stays (term_uses b.term) (terms_uses bs) same) reach.1,
      )

pub joined_in_reach : (g : Graph) → IsInReach g → IsInReach (joined g)
joined_in_reach g reach =
    let leads = is_leader g in
    let same : All (λ n. block_address (joined g) 0 n ≡ block_address g 0 n) (uses g) = λ k d below.
    address-joined leads g.blocks 0 (get_or (uses g) k d) (used_are_leaders g k d below) in
    joined_reach g (joined g) leads 0 g.blocks (terms_used g (λ n. block_address (joined g) 0 n ≡ block_address g 0 n) same) reach

pub canonical_in_reach : (g : Graph) → IsGraph g → IsInReach g → IsInReach (canonical_of g)
canonical_in_reach g rules reach =
    subst IsInReach (sym (canonical_is_joined g rules)) (joined_in_reach (all_bypassed g) (bypassed_in_reach g rules reach))
