-- A canonical graph that has no candidate of row U is whole.
use Rattle.std.proofs.Common.{◌≡◌, ℕ, zero, suc, ◌<◌, ◌≤◌, Bool, true, false, ◌==◌, ◌&&◌, ◌||◌, not, List, [], ◌∷◌, length, sum_by, nat_eq, IsSome, inl, inr, if◌then◌else◌, refl, ap, ◌∙◌, arith}
use Rattle.std.specs.List.{AllByRecursion, Contains, filter, flat_map}
use Rattle.std.proofs.lemmas.Bool.{cases_Bool, eqb-true}
use Rattle.std.proofs.lemmas.List.Concat.{flat_map-append}
use Rattle.std.proofs.lemmas.List.Elements.{recursion_from_All}
use Rattle.std.proofs.lemmas.List.Folds.{list_any-append}
use Rattle.std.proofs.lemmas.List.Sums.{sum_by-cons}
use Rattle.sq_arena.specs.Entries.{value_of}
use Rattle.sq_graph.specs.Graph.{Block, Procedure, Graph}
use Rattle.sq_graph.specs.Blocks.{named, HasBlock, HasProcedure, items_of_blocks}
use Rattle.sq_graph.specs.Leaders.{is_bare, IsCanonical}
use Rattle.sq_graph.specs.Parts.{names_of}
use Rattle.sq_graph.specs.Rules.{IsGraph}
use Rattle.sq_graph.specs.Uses.{item_calls}
use Rattle.sq_graph.specs.Walks.{IsReachedBlock}
use Rattle.sq_graph.specs.Words.{block_words, procedure_words}
use Rattle.law_patch.specs.Restrictions.{procedures_held}
use Rattle.sq_reach.proofs.Deciding.{reached_marks}
use Rattle.sq_reach.proofs.Searches.{contains_from_marked}
use Rattle.sq_pass.specs.declared.cut.Row.TheVariants.{U}
use Rattle.sq_drive.proofs.Rewrites.{some_word}
use Rattle.sq_lookup.specs.Names.{is_listed}
use Rattle.sq_jumps.specs.Unreached.{stays, is_called_in, is_held, words_gone, AreUnreached}
use Rattle.sq_drive.specs.Rows.{IsLeftoverFree}
use Rattle.sq_jumps.proofs.UnreachedCounted.{are_unreached}
use Rattle.law_written.specs.Whole.{IsWhole}

-- a block that is counted has a word
counted_block : (t : ℕ → Bool) (bs : List Block) (n : ℕ) → AllByRecursion (λ b. is_bare b ≡ false) bs → IsSome (value_of (named bs) n) → t n ≡ true → 1 ≤ sum_by block_words (filter (λ b. t b.name) bs)
counted_block t [] n all has goes = absurd (cc)
counted_block t (b ∷ bs) n all has goes =
    elim (cases_Bool (b.name == n)) [
      | inl here ↦
          let counted : t b.name ≡ true = ap t (eqb-true b.name n here) ∙ goes in
          rw counted (omega (arith, some_word b all.0, sum_by-cons block_words b (filter (λ c. t c.name) bs)))
      | inr apart ↦ more (t b.name) (counted_block t bs n all.1 (rw apart at has) goes)
    ]
  where
    more : (c : Bool) → 1 ≤ sum_by block_words (filter (λ b. t b.name) bs) → 1 ≤ sum_by block_words (if c then b ∷ filter (λ b. t b.name) bs else filter (λ b. t b.name) bs)
    more true some = omega (arith, some, sum_by-cons block_words b (filter (λ c. t c.name) bs))
    more false some = some

-- as a procedure has
counted_procedure : (t : ℕ → Bool) (ps : List Procedure) (q : ℕ) → q < length ps → t q ≡ true → 1 ≤ sum_by procedure_words (procedures_held t ps)
counted_procedure t [] q below goes = absurd (omega (arith, below))
counted_procedure t (p ∷ ps) zero below goes = rw goes (omega (arith, sum_by-cons procedure_words p (procedures_held (λ n. t (suc n)) ps)))
counted_procedure t (p ∷ ps) (suc q) below goes = more (t 0) (counted_procedure (λ n. t (suc n)) ps q (omega (arith, below)) goes)
  where
    more : (c : Bool) → 1 ≤ sum_by procedure_words (procedures_held (λ n. t (suc n)) ps) → 1 ≤ sum_by procedure_words (if c then p ∷ procedures_held (λ n. t (suc n)) ps else procedures_held (λ n. t (suc n)) ps)
    more true some = omega (arith, some, sum_by-cons procedure_words p (procedures_held (λ n. t (suc n)) ps))
    more false some = some

-- what a block calls is called by an item
called_by_items : (keep : ℕ → Bool) (bs : List Block) (q : ℕ) → is_called_in keep bs q ≡ true → is_listed (flat_map item_calls (items_of_blocks bs)) q ≡ true
called_by_items keep [] q called = absurd (cc)
called_by_items keep (b ∷ bs) q called =
    ap (λ names. is_listed names q) (flat_map-append item_calls b.items (items_of_blocks bs))
    ∙ list_any-append (nat_eq q) (flat_map item_calls b.items) (flat_map item_calls (items_of_blocks bs))
    ∙ either (keep b.name) (is_listed (flat_map item_calls b.items) q) (is_called_in keep bs q) (is_listed (flat_map item_calls (items_of_blocks bs)) q) called (called_by_items keep bs q)
  where
    either : (k a c d : Bool) → (k && a || c) ≡ true → (c ≡ true → d ≡ true) → (a || d) ≡ true
    either k true c d e f = refl
    either true false c d e f = f e
    either false false c d e f = f e

module _ (g : Graph) (rules : IsGraph g) (canonical : IsCanonical g) (none : IsLeftoverFree g) where
  abbrev marks : List ℕ
  marks = (reached_marks g rules).0

  abbrev gone : List ℕ
  gone = filter (λ n. not (is_listed marks n)) (names_of g)

  unreached : AreUnreached g gone
  unreached = are_unreached g marks gone rules (reached_marks g rules).1 refl

  nothing_gone : words_gone g gone ≡ 0
  nothing_gone = by (words_gone g gone) refl
    where
      by : (n : ℕ) → words_gone g gone ≡ n → words_gone g gone ≡ 0
      by zero e = e
      by (suc n) e =
          absurd (none (record { row = U; blocks = gone; procedure = 0; other = 0; length = 0; link = 0; saving = words_gone g gone })
          (inl (inl (inl (record { row = refl; unreached = unreached; procedure = refl; other = refl; length = refl; link = refl; saving = refl; some = omega (arith, e) })))))

  each_reached : (n : ℕ) → HasBlock g n → IsReachedBlock g n
  each_reached n has =
      elim (cases_Bool (is_listed gone n)) [
        | inl goes ↦
            let counted = counted_block (is_listed gone) g.blocks n (recursion_from_All (λ b. is_bare b ≡ false) g.blocks canonical.no_bare) has goes in
            absurd (omega (arith, counted, nothing_gone))
        | inr there ↦ (unreached.exact n has).0 there
      ]

  each_called : (q : ℕ) → HasProcedure g q → Contains (flat_map item_calls (items_of_blocks g.blocks)) q
  each_called q has =
      elim (cases_Bool (is_held g gone q)) [
        | inl held ↦ contains_from_marked (flat_map item_calls (items_of_blocks g.blocks)) q (called_by_items (stays g gone) g.blocks q held)
        | inr uncalled ↦
            let counted = counted_procedure (λ p. not (is_held g gone p)) g.procedures q has (ap not uncalled) in
            absurd (omega (arith, counted, nothing_gone))
      ]

  pub whole_without_candidates : IsWhole g
  whole_without_candidates = record { blocks = each_reached; called = each_called }
