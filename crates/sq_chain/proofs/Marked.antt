-- Marks on the names of blocks that end in a Branch: which graphs have no other such blocks, so that the marks are theirs, too.
use Rattle.std.proofs.Common.{◌≡◌, ◌≢◌, ◌⊎◌, ℕ, ◌+◌, ◌<◌, ◌==◌, Bool, true, false, if◌then◌else◌, List, [], ◌∷◌, ◌++◌, map, length, get_or, take, Option, None, Some, inl, inr, refl, sym, ap, ◌∙◌, subst}
use Rattle.std.specs.Prelude.{option_map}
use Rattle.std.specs.List.{All}
use Rattle.std.proofs.lemmas.Bool.{cases_Bool, eqb-true, eqb-false, eq-eqb}
use Rattle.std.proofs.lemmas.List.Elements.{All-head, All-tail, All-more, All-weaker}
use Rattle.sq_arena.specs.Entries.{HasDistinctKeys, value_of, next_key}
use Rattle.sq_isa.specs.declared.instructions.Cond.{Cond}
use Rattle.sq_graph.specs.declared.item.Term.{Term}
use Rattle.sq_graph.specs.declared.item.Term.TheVariants.{Fall, Jump, Branch, Call, PartJump, Indirect, Stop}
use Rattle.sq_graph.specs.Graph.{Block, Graph}
use Rattle.sq_graph.specs.Blocks.{named, block_of, block_term, term_of, next_of}
use Rattle.sq_graph.specs.Operations.{with_blocks, with_term, without_block, changed, joined_at, joined_with_next}
use Rattle.sq_graph.specs.Renames.{retargeted_term, swapped}
use Rattle.sq_graph.specs.Rules.{IsGraph}
use Rattle.sq_graph.proofs.Kept.{absent_behind}
use Rattle.sq_layout.specs.Shrinks.{IsBranch}
use Rattle.sq_layout.proofs.Shrunk.{retargeted_branch}
use Rattle.sq_layout.proofs.Standing.{block_of-without}
use Rattle.sq_lookup.specs.Marks.{is_marked}
use Rattle.sq_lookup.proofs.Previous.{next_there}
use Rattle.sq_chain.specs.Passing.{passed_block, passed_on}
use Rattle.sq_chain.specs.Seams.{IsExchanged}
use Rattle.sq_chain.specs.Surveys.{extent_of, extents_of, AreMarked}
use Rattle.sq_chain.specs.Widening.{EndsInBranch, jumped_over, over_jump}
use Rattle.sq_chain.specs.declared.seams.Seams.{Seams}
use Rattle.sq_chain.specs.declared.survey.Extent.{Extent}
use Rattle.sq_chain.proofs.Resurveyed.{apart_from, first_there, rest_distinct}

-- there is a block, and it ends in a Branch
abbrev pub IsBranched : Option Term → Type 0
IsBranched None = ⊥
IsBranched (Some t) = IsBranch t

abbrev IsBranchedIn : List Block → ℕ → Type 0
IsBranchedIn bs n = IsBranched (block_term (value_of (named bs) n))

branched : (g : Graph) (n : ℕ) → EndsInBranch g n → IsBranched (term_of g n)
branched g n ends = subst IsBranched (sym ends.is) tt

ends : (g : Graph) (n : ℕ) → IsBranched (term_of g n) → EndsInBranch g n
ends g n is = by_term (term_of g n) refl is
  where
    by_term : (o : Option Term) → term_of g n ≡ o → IsBranched o → EndsInBranch g n
    by_term None e is = absurd is
    by_term (Some Fall) e is = absurd is
    by_term (Some (Jump to)) e is = absurd is
    by_term (Some (Branch cond a b to)) e is = record { cond = cond; a = a; b = b; to = to; is = e }
    by_term (Some (Call link to)) e is = absurd is
    by_term (Some (PartJump link part to)) e is = absurd is
    by_term (Some (Indirect link x offset)) e is = absurd is
    by_term (Some (Stop word)) e is = absurd is

pub no_branch : (t : Term) → ((cond : Cond) (a b to : ℕ) → t ≢ Branch cond a b to) → IsBranch t → ⊥
no_branch Fall none is = is
no_branch (Jump to) none is = is
no_branch (Branch cond a b to) none is = none cond a b to refl
no_branch (Call link to) none is = is
no_branch (PartJump link part to) none is = is
no_branch (Indirect link x offset) none is = is
no_branch (Stop word) none is = is

-- what marks all Branches of the one graph marks those of another one that has no others
pub marked_still : (g h : Graph) (marks : List Bool) → ((n : ℕ) → IsBranched (term_of h n) → IsBranched (term_of g n)) → AreMarked g marks → AreMarked h marks
marked_still g h marks still are n is = are n (ends g n (still n (branched h n is)))

-- ITS LISTING

-- the names of those of these blocks that end in a Branch are marked
abbrev pub AreListed : List Bool → List Extent → Type 0
AreListed marks order = All (λ (e : Extent). IsBranch e.term → is_marked marks e.name ≡ true) order

pub listed_more : (order : List Extent) (i : ℕ) (e : Extent) (old new : List Bool) → i < length order → e ≡ get_or order i e → ((n : ℕ) → is_marked old n ≡ true → is_marked new n ≡ true) → (IsBranch e.term → is_marked new e.name ≡ true) → AreListed old (take i order) → AreListed new (take (i + 1) order)
listed_more order i e old new within here others own are =
    let P : Extent → Type 0 = λ x. IsBranch x.term → is_marked old x.name ≡ true in
    let Q : Extent → Type 0 = λ x. IsBranch x.term → is_marked new x.name ≡ true in
    All-more Q order i e within (All-weaker P Q (λ x was is. others x.name (was is)) (take i order) are) (subst Q here own)

pub marked_listed : (g : Graph) (order : List Extent) (marks : List Bool) → order ≡ extents_of g → AreListed marks order → AreMarked g marks
marked_listed g order marks listed all n is = by_blocks g.blocks (subst (AreListed marks) listed all) (branched g n is)
  where
    by_blocks : (bs : List Block) → AreListed marks (map extent_of bs) → IsBranchedIn bs n → is_marked marks n ≡ true
    by_blocks [] all is = absurd is
    by_blocks (b ∷ bs) all is =
        let P : Extent → Type 0 = λ x. IsBranch x.term → is_marked marks x.name ≡ true in
        elim (cases_Bool (b.name == n)) [
          | inl here ↦ ap (is_marked marks) (sym (eqb-true b.name n here)) ∙ All-head P (extent_of b) (map extent_of bs) all (rw here at is)
          | inr apart ↦ by_blocks bs (All-tail P (extent_of b) (map extent_of bs) all) (rw apart at is)
        ]

-- ONCE PIECES ARE EXCHANGED

pub marked_exchanged : (g h : Graph) (seams : Seams) (marks : List Bool) → IsExchanged g h seams → AreMarked g marks → AreMarked h marks
marked_exchanged g h seams marks x = marked_still g h marks (λ n is. subst (λ (o : Option Block). IsBranched (block_term o)) (x.same n) is)

-- WHERE SOME TERMS GO TO ANOTHER BLOCK

pub marked_passed : (among : ℕ → Bool) (bare next : ℕ) (g : Graph) (marks : List Bool) → ((n : ℕ) → block_of (passed_on among bare next g) n ≡ option_map (passed_block among bare next) (block_of g n)) → AreMarked g marks → AreMarked (passed_on among bare next g) marks
marked_passed among bare next g marks passed =
    marked_still g (passed_on among bare next g) marks (λ n is. by_block (block_of g n) (subst (λ (o : Option Block). IsBranched (block_term o)) (passed n) is))
  where
    by_term : (own : Bool) (t : Term) → IsBranch (if own then retargeted_term (swapped bare next) t else t) → IsBranch t
    by_term false t is = is
    by_term true t is = retargeted_branch (swapped bare next) t is

    by_block : (o : Option Block) → IsBranched (block_term (option_map (passed_block among bare next) o)) → IsBranched (block_term o)
    by_block None is = is
    by_block (Some b) is = by_term (among b.name) b.term is

-- A CHANGE OF ONE BLOCK

-- where what comes in its place has no Branch that it hasn't
changed_branch : (f : Block → List Block) (bs : List Block) (m n : ℕ) → ((b : Block) (rest : List Block) → IsBranchedIn (f b ++ rest) n → IsBranchedIn (b ∷ rest) n) → IsBranchedIn (with_blocks f bs m) n → IsBranchedIn bs n
changed_branch f [] m n own is = is
changed_branch f (b ∷ rest) m n own is =
    elim (cases_Bool (b.name == m)) [
      | inl here ↦ own b rest (rw here at is)
      | inr apart ↦ elim (cases_Bool (b.name == n)) [
        | inl this ↦ rw this (rw (apart, this) at is)
        | inr that ↦ rw that (changed_branch f rest m n own (rw (apart, that) at is))
      ]
    ]

pub marked_fell : (g : Graph) (m : ℕ) (marks : List Bool) → AreMarked g marks → AreMarked (with_term g m Fall) marks
marked_fell g m marks = marked_still g (with_term g m Fall) marks (λ n is. changed_branch (λ b. record b { term = Fall } ∷ []) g.blocks m n (λ b rest own. fell b rest n own) is)
  where
    fell : (b : Block) (rest : List Block) (n : ℕ) → IsBranchedIn (record b { term = Fall } ∷ rest) n → IsBranchedIn (b ∷ rest) n
    fell b rest n own = elim (cases_Bool (b.name == n)) [ inl this ↦ absurd (rw this at own) | inr that ↦ rw that (rw that at own) ]

pub marked_wider : (g : Graph) (new next m : ℕ) (marks : List Bool) → AreMarked g marks → AreMarked (changed (over_jump new next) g m) marks
marked_wider g new next m marks = marked_still g (changed (over_jump new next) g m) marks (λ n is. changed_branch (over_jump new next) g.blocks m n (λ b rest own. by_term b rest n b.term refl own) is)
  where
    by_term : (b : Block) (rest : List Block) (n : ℕ) (t : Term) → b.term ≡ t → IsBranchedIn (jumped_over new next b t ++ rest) n → IsBranchedIn (b ∷ rest) n
    by_term b rest n (Branch cond x y to) term own =
        elim (cases_Bool (b.name == n)) [
          | inl this ↦ rw this (subst IsBranch (sym term) tt)
          | inr that ↦ rw that (elim (cases_Bool (new == n)) [ inl jumps ↦ absurd (rw (that, jumps) at own) | inr other ↦ rw (that, other) at own ])
        ]
    by_term b rest n Fall term own = own
    by_term b rest n (Jump to) term own = own
    by_term b rest n (Call link to) term own = own
    by_term b rest n (PartJump link part to) term own = own
    by_term b rest n (Indirect link x offset) term own = own
    by_term b rest n (Stop word) term own = own

pub marked_without : (g : Graph) (m : ℕ) (marks : List Bool) → value_of (named (without_block g m).blocks) m ≡ None → AreMarked g marks → AreMarked (without_block g m) marks
marked_without g m marks gone =
    marked_still g (without_block g m) marks
    (λ n is. elim (cases_Bool (n == m)) [
      | inl same ↦ absurd (subst (λ (o : Option Block). IsBranched (block_term o)) (ap (value_of (named (without_block g m).blocks)) (eqb-true n m same) ∙ gone) is)
      | inr other ↦ subst (λ (o : Option Block). IsBranched (block_term o)) (block_of-without g.blocks m n (eqb-false n m other)) is
    ])

-- A JOIN

-- the block before ends as the one that goes
joined_branch : (bs : List Block) (m n k : ℕ) → HasDistinctKeys (named bs) → next_key (named bs) m ≡ Some n → IsBranchedIn (joined_at bs m) k → ((m ≡ k) × IsBranchedIn bs n) ⊎ IsBranchedIn bs k
joined_branch [] m n k distinct slot is = absurd (cc)
joined_branch (b ∷ []) m n k distinct slot is =
    elim (cases_Bool (b.name == m)) [ inl here ↦ absurd (cc (rw here at slot)) | inr apart ↦ absurd (cc (rw apart at slot)) ]
joined_branch (b ∷ next ∷ rest) m n k distinct slot is =
    elim (cases_Bool (b.name == m)) [
      | inl here ↦
          let first : Some next.name ≡ Some n = rw here at slot in
          let named_n : next.name ≡ n = cc in
          elim (cases_Bool (b.name == k)) [
            | inl this ↦
                let other = apart_from b (next ∷ rest) n distinct (first_there next rest n named_n) in
                let own : IsBranch next.term = rw (here, this) at is in
                inl (sym (eqb-true b.name m here) ∙ eqb-true b.name k this, rw (other, eq-eqb next.name n named_n) own)
            | inr that ↦
                let own : IsBranchedIn rest k = rw (here, that) at is in
                inr
                (rw that
                (elim (cases_Bool (next.name == k)) [
                  | inl gone ↦
                      let none : value_of (named rest) k ≡ None = subst (λ j. value_of (named rest) j ≡ None) (eqb-true next.name k gone) (absent_behind (next.name, next) (named rest) (rest_distinct b (next ∷ rest) distinct)) in
                      absurd (subst (λ (o : Option Block). IsBranched (block_term o)) none own)
                  | inr stays ↦ rw stays own
                ]))
          ]
      | inr apart ↦
          let later : next_key (named (next ∷ rest)) m ≡ Some n = rw apart at slot in
          let other = apart_from b (next ∷ rest) n distinct (next_there (next ∷ rest) m n later) in
          elim (cases_Bool (b.name == k)) [
            | inl this ↦ inr (rw this (rw (apart, this) at is))
            | inr that ↦ elim (joined_branch (next ∷ rest) m n k (rest_distinct b (next ∷ rest) distinct) later (rw (apart, that) at is)) [
              | inl own ↦ inl (own.0, rw other own.1)
              | inr stays ↦ inr (rw that stays)
            ]
          ]
    ]

pub marked_joined : (g : Graph) (m n : ℕ) (old new : List Bool) → IsGraph g → next_of g m ≡ Some n → ((k : ℕ) → is_marked old k ≡ true → is_marked new k ≡ true) → (is_marked old n ≡ true → is_marked new m ≡ true) → AreMarked g old → AreMarked (joined_with_next g m) new
marked_joined g m n old new rules slot others joined are k is =
    elim (joined_branch g.blocks m n k rules.distinct slot (branched (joined_with_next g m) k is)) [
      | inl own ↦ subst (λ (j : ℕ). is_marked new j ≡ true) own.0 (joined (are n (ends g n own.1)))
      | inr stays ↦ others k (are k (ends g k stays))
    ]
