-- The rules hold where a block goes that nothing names, though it is the last.
use Rattle.std.proofs.Common.{◌≡◌, ◌≢◌, ℕ, ◌==◌, false, List, [], ◌∷◌, ◌++◌, Option, None, Some, IsSome, refl, sym, ap, ◌∙◌, subst, inl, inr, append_assoc}
use Rattle.std.specs.List.{All}
use Rattle.std.proofs.lemmas.Bool.{cases_Bool, ne_eqb, eq-eqb}
use Rattle.std.proofs.lemmas.List.{append-nil}
use Rattle.std.proofs.lemmas.List.Elements.{All-cons, All-head, All-tail, All-append}
use Rattle.sq_arena.specs.Entries.{HasDistinctKeys, value_of, first_key, next_key}
use Rattle.sq_arena.proofs.EntriesLaws.{absent_ahead, behind-append}
use Rattle.sq_graph.specs.declared.item.Term.{Term}
use Rattle.sq_graph.specs.Graph.{Block, Graph}
use Rattle.sq_graph.specs.Blocks.{named, HasBlock, HasProcedure, block_of, block_term, next_of, term_of}
use Rattle.sq_graph.specs.Terms.{goes_on}
use Rattle.sq_graph.specs.Uses.{term_uses, uses}
use Rattle.sq_graph.specs.Rules.{IsGraph, TermFits, last_goes_on}
use Rattle.sq_graph.specs.Operations.{with_blocks, with_term, without_block}
use Rattle.sq_graph.proofs.Located.{IsAt, located, named-append}
use Rattle.sq_graph.proofs.SlotReads.{block_at}
use Rattle.sq_graph.proofs.Eachs.{All-left, All-right}
use Rattle.sq_graph.proofs.Changes.{with_blocks-at}
use Rattle.sq_graph.proofs.SplitRules.{last_goes_on-append}
use Rattle.sq_graph.proofs.Bypassing.{distinct_without}
use Rattle.sq_graph.proofs.RulesByBlock.{BlockStands, by_block, all_named, from_blocks, by_stays}

-- a block by its place
unfoldable pub here : (g : Graph) → IsGraph g → (front : List Block) (x : Block) (bs : List Block) → front ++ (x ∷ bs) ≡ g.blocks → IsAt g.blocks x.name
here g rules front x bs e =
    let keyed : HasDistinctKeys (named front ++ (x.name, x) ∷ named bs) = subst (λ (es : List (ℕ × Block)). HasDistinctKeys es) (ap named (sym e) ∙ named-append front (x ∷ bs)) rules.distinct in
    record { front = front; block = x; back = bs; whole = sym e; has_name = refl; ahead = absent_ahead (named front) (named bs) x.name x keyed }

pub block_found : (g : Graph) → IsGraph g → (front : List Block) (x : Block) (bs : List Block) → front ++ (x ∷ bs) ≡ g.blocks → block_of g x.name ≡ Some x
unfolding here
block_found g rules front x bs e = block_at g.blocks x.name (here g rules front x bs e)

-- what stands in the slot behind it
pub behind_it : (blocks : List Block) (name : ℕ) (at : IsAt blocks name) → next_key (named blocks) name ≡ first_key (named at.back)
behind_it blocks name at =
    ap (λ bs. next_key (named bs) name) at.whole
    ∙ ap (λ es. next_key es name) (named-append at.front (at.block ∷ at.back))
    ∙ ap (λ k. next_key (named at.front ++ (k, at.block) ∷ named at.back) name) at.has_name
    ∙ ap first_key (behind-append (named at.front) (named at.back) name at.block at.ahead)

-- the slot behind a block has a block
pub next_there : (g : Graph) (n m : ℕ) → IsGraph g → next_of g n ≡ Some m → HasBlock g m
next_there g n m rules e = by_block (value_of (named g.blocks) n) refl
  where
    none_behind : (bs : List Block) → value_of (named bs) n ≡ None → next_key (named bs) n ≡ None
    none_behind [] none = refl
    none_behind (b ∷ bs) none =
        elim (cases_Bool (b.name == n)) [ inl here ↦ absurd (cc (rw here at none)) | inr apart ↦ rw apart (none_behind bs (rw apart at none)) ]

    later : (front back : List Block) (x : Block) → IsSome (value_of (named back) m) → IsSome (value_of (named (front ++ (x ∷ back))) m)
    later [] back x some = elim (cases_Bool (x.name == m)) [ inl here ↦ rw here refl | inr apart ↦ rw apart some ]
    later (y ∷ front) back x some = elim (cases_Bool (y.name == m)) [ inl here ↦ rw here refl | inr apart ↦ rw apart (later front back x some) ]

    first : (back : List Block) → first_key (named back) ≡ Some m → IsSome (value_of (named back) m)
    first [] e = absurd (cc)
    first (b ∷ back) e = let same : b.name ≡ m = cc in rw (eq-eqb b.name m same) refl

    by_block : (o : Option Block) → value_of (named g.blocks) n ≡ o → HasBlock g m
    by_block None is = let none = none_behind g.blocks is in absurd (cc)
    by_block (Some b) is =
        let at = located g.blocks n (rw is refl) in
        subst (λ (bs : List Block). IsSome (value_of (named bs) m)) (sym at.whole) (later at.front at.back at.block (first at.back (sym (behind_it g.blocks n at) ∙ e)))

-- nothing goes on into the block from the slot before
abbrev pub IsEntered : Graph → ℕ → Type 0
IsEntered g name = (before : ℕ) (t : Term) → next_of g before ≡ Some name → term_of g before ≡ Some t → goes_on t ≡ false

-- so what stands in front of it doesn't go on past its end
pub front_ends : (g : Graph) (b : Block) (back : List Block) → IsGraph g → IsEntered g b.name → (lead front : List Block) → lead ++ (front ++ (b ∷ back)) ≡ g.blocks → last_goes_on front ≡ false
unfolding here
front_ends g b back rules apart lead [] e = refl
front_ends g b back rules apart lead (p ∷ []) e =
    let at = here g rules lead p (b ∷ back) e in
    apart p.name p.term (behind_it g.blocks p.name at) (ap block_term (block_at g.blocks p.name at))
front_ends g b back rules apart lead (p ∷ q ∷ front) e =
    front_ends g b back rules apart (lead ++ p ∷ []) (q ∷ front) (append_assoc lead (p ∷ []) ((q ∷ front) ++ (b ∷ back)) ∙ e)

pub ends_without : (g : Graph) (name : ℕ) → IsGraph g → HasBlock g name → IsEntered g name → last_goes_on (without_block g name).blocks ≡ false
ends_without g name rules has apart =
    let at = located g.blocks name has in
    let detour_entered : IsEntered g at.block.name = subst (IsEntered g) (sym at.has_name) apart in
    let front = front_ends g at.block at.back rules detour_entered [] at.front (sym at.whole) in
    ap last_goes_on (with_blocks-at (λ b. []) g.blocks name at) ∙ ends at.front at.block at.back front (sym (ap last_goes_on at.whole) ∙ rules.ends)
  where
    ends : (front : List Block) (b : Block) (back : List Block) → last_goes_on front ≡ false → last_goes_on (front ++ (b ∷ back)) ≡ false → last_goes_on (front ++ back) ≡ false
    ends front b [] e f = ap last_goes_on (append-nil front) ∙ e
    ends front b (c ∷ back) e f = last_goes_on-append front c back ∙ sym (last_goes_on-append front b (c ∷ back)) ∙ f

-- nothing uses the block, and what is left ends in a block that doesn't go on
pub without_rules : (g : Graph) (name : ℕ) → IsGraph g → HasBlock g name → All (λ n. n ≢ name) (uses g) → last_goes_on (without_block g name).blocks ≡ false → IsGraph (without_block g name)
without_rules g name rules has unused ends =
    let N : ℕ → Type 0 = λ k. HasBlock g k × (k ≢ name) in
    let C = HasProcedure g in
    let B = BlockStands N C in
    let at = located g.blocks name has in
    let by = by_block N C g rules (λ k d h. (rules.named_all k d h, unused k d h)) rules.called_all in
    let parts : with_blocks (λ b. []) g.blocks name ≡ at.front ++ at.back = with_blocks-at (λ b. []) g.blocks name at in
    let old = subst (λ (bs : List Block). All B bs) at.whole by.blocks in
    let keyed : HasDistinctKeys (named at.front ++ (at.block.name, at.block) ∷ named at.back) =
    subst (λ (es : List (ℕ × Block)). HasDistinctKeys es) (ap named at.whole ∙ named-append at.front (at.block ∷ at.back)) rules.distinct in
    let still : (k : ℕ) → N k → HasBlock (without_block g name) k =
    λ k there. subst (λ (bs : List Block). IsSome (value_of (named bs) k)) (sym parts)
    (others_there at.front at.block at.back k (λ same. there.1 (sym same ∙ at.has_name)) (subst (λ (bs : List Block). IsSome (value_of (named bs) k)) at.whole there.0)) in
    from_blocks (without_block g name)
    (by_stays N (HasBlock (without_block g name)) C C still (λ k there. there) (without_block g name)
    (record {
      distinct = rw parts (rw (named-append at.front at.back) (distinct_without (named at.front) (named at.back) (at.block.name, at.block) keyed));
      entry = by.entry;
      words = by.words;
      ends = ends;
      ascending = by.ascending;
      blocks = subst (λ (bs : List Block). All B bs) (sym parts) (All-append B at.front at.back (All-left B at.front (at.block ∷ at.back) old) (All-tail B at.block at.back (All-right B at.front (at.block ∷ at.back) old)));
      bodies = by.bodies;
    }))
  where
    others_there : (front : List Block) (b : Block) (back : List Block) (k : ℕ) → (b.name ≡ k → ⊥) → IsSome (value_of (named (front ++ b ∷ back)) k) → IsSome (value_of (named (front ++ back)) k)
    others_there [] b back k apart some = rw (ne_eqb b.name k apart) at some
    others_there (x ∷ front) b back k apart some =
        elim (cases_Bool (x.name == k)) [ inl same ↦ rw same refl | inr other ↦ rw other (others_there front b back k apart (rw other at some)) ]

-- a name that isn't used is used by no other term either that doesn't use it
pub still_unused : (g : Graph) (block over : ℕ) (t : Term) → IsGraph g → IsGraph (with_term g block t) → HasBlock g block → All (λ n. n ≢ over) (uses g) → All (λ n. n ≢ over) (term_uses t) → TermFits t → All (λ n. n ≢ over) (uses (with_term g block t))
still_unused g block over t rules rules' has unused other fits =
    let N : ℕ → Type 0 = λ n. n ≢ over in
    let C = HasProcedure g in
    let B = BlockStands N C in
    let at = located g.blocks block has in
    let by = by_block N C g rules unused rules.called_all in
    let parts = with_blocks-at (λ b. record b { term = t } ∷ []) g.blocks block at in
    let old = subst (λ (bs : List Block). All B bs) at.whole by.blocks in
    let own = All-head B at.block at.back (All-right B at.front (at.block ∷ at.back) old) in
    let new : Block = record at.block { term = t } in
    all_named N C (with_term g block t)
    (record {
      distinct = rules'.distinct;
      entry = by.entry;
      words = by.words;
      ends = rules'.ends;
      ascending = by.ascending;
      blocks =
          subst (λ (bs : List Block). All B bs) (sym parts)
          (All-append B at.front (new ∷ at.back) (All-left B at.front (at.block ∷ at.back) old)
          (All-cons B new at.back (record { items = own.items; names = other; fits = fits }) (All-tail B at.block at.back (All-right B at.front (at.block ∷ at.back) old))));
      bodies = by.bodies;
    })

-- what holds of all names that are used holds of those that are used once a block is gone
pub without_names : (P : ℕ → Type 0) (g : Graph) (name : ℕ) → IsGraph g → IsGraph (without_block g name) → HasBlock g name → All P (uses g) → All P (uses (without_block g name))
without_names P g name rules rules' has used =
    let C = HasProcedure g in
    let B = BlockStands P C in
    let at = located g.blocks name has in
    let by = by_block P C g rules used rules.called_all in
    let parts : with_blocks (λ b. []) g.blocks name ≡ at.front ++ at.back = with_blocks-at (λ b. []) g.blocks name at in
    let old = subst (λ (bs : List Block). All B bs) at.whole by.blocks in
    all_named P C (without_block g name)
    (record {
      distinct = rules'.distinct;
      entry = by.entry;
      words = by.words;
      ends = rules'.ends;
      ascending = by.ascending;
      blocks = subst (λ (bs : List Block). All B bs) (sym parts) (All-append B at.front at.back (All-left B at.front (at.block ∷ at.back) old) (All-tail B at.block at.back (All-right B at.front (at.block ∷ at.back) old)));
      bodies = by.bodies;
    })
