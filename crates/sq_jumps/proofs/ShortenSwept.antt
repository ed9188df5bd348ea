-- Row C in a sweep: jumps that are made shorter one after another, and then all upper halves gone, are one rewrite after
-- another.
use Rattle.std.proofs.Common.{◌≡◌, ◌≢◌, ℕ, suc, ◌+◌, ◌-◌, ◌<◌, ◌≤◌, ◌==◌, nat_eq, false, List, [], ◌∷◌, ◌++◌, length, get_or, slice_get, Option, None, Some, inl, inr, refl, sym, ap, ◌∙◌, subst, arith}
use Rattle.std.specs.List.{All, AllByRecursion, IsDistinct}
use Rattle.std.proofs.lemmas.Bool.{cases_Bool, eqb-false}
use Rattle.std.proofs.lemmas.List.Elements.{All-nil, All-cons, All-head, All-tail, All-push, All-weaker}
use Rattle.std.proofs.lemmas.Map.Keys.{IsDistinct-head, IsDistinct-tail, apart_from_distinct}
use Rattle.sq_num.specs.declared.packed.Savings.{Savings}
use Rattle.sq_graph.specs.declared.item.Item.{Item}
use Rattle.sq_graph.specs.declared.item.Term.{Term}
use Rattle.sq_graph.specs.declared.item.Term.TheVariants.{Fall, Jump, Branch, Call, PartJump, Indirect, Stop}
use Rattle.sq_graph.specs.Graph.{Graph, Block}
use Rattle.sq_graph.specs.Blocks.{named, block_of, block_items, block_term, items_of, term_of, HasBlock}
use Rattle.sq_graph.specs.Leaders.{IsCanonical}
use Rattle.sq_graph.specs.Operations.{with_blocks, with_term, replaced, replaced_items}
use Rattle.sq_graph.specs.Parts.{names_of}
use Rattle.sq_graph.specs.Rules.{IsGraph}
use Rattle.sq_graph.specs.Trimmed.{trimmed, trimmed_each}
use Rattle.sq_graph.specs.Words.{words_of}
use Rattle.sq_arena.specs.Entries.{value_of}
use Rattle.sq_layout.proofs.Standing.{block_of-changed}
use Rattle.sq_live.proofs.Layouts.{keys-named}
use Rattle.sq_lookup.proofs.Targets.{part_there}
use Rattle.law_patch.specs.Operations.{hastened as short_jump, shortened}
use Rattle.law_patch.proofs.StayingDead.{shorten_dead}
use Rattle.sq_pass.specs.declared.cut.Row.TheVariants.{C}
use Rattle.sq_pass.specs.Counted.{counted}
use Rattle.sq_pass.specs.Rewrites.{IsLighter, IsRewritten}
use Rattle.sq_pass.proofs.Rewriting.{lighter_itself, lighter_made, rewritten_itself, rewritten_through}
use Rattle.sq_jumps.specs.Candidates.{IsCandidate, described}
use Rattle.sq_jumps.specs.Shorten.{JumpsByDeadPart, shortened_by, shortened_at, hastened_by, hastened_at, hastened_each, shortened_each}
use Rattle.sq_jumps.proofs.Blocks.{names-changed, has_names, term_with_items}
use Rattle.sq_jumps.proofs.ShortenApplied.{shorten_has, shorten_made, shorten_applied}
use Rattle.sq_jumps.proofs.ShortenKept.{shorten_canonical}
use Rattle.sq_jumps.proofs.Rewritten.{kept_rewritten}

-- ITEMS AND A TERM ARE CHANGED IN EITHER ORDER

module _ (f : List Item → List Item) where
  either_order : (t : Term) (bs : List Block) (m n : ℕ) → with_blocks (λ b. record b { term = t } ∷ []) (with_blocks (λ b. record b { items = f b.items } ∷ []) bs m) n ≡ with_blocks (λ b. record b { items = f b.items } ∷ []) (with_blocks (λ b. record b { term = t } ∷ []) bs n) m
  either_order t [] m n = refl
  either_order t (b ∷ bs) m n =
      elim (cases_Bool (b.name == m)) [
        | inl here ↦ elim (cases_Bool (b.name == n)) [ inl there ↦ rw (here, there, here) refl | inr other ↦ rw (here, other, here) refl ]
        | inr apart ↦
            elim (cases_Bool (b.name == n)) [
              | inl there ↦ rw (apart, there, apart) refl
              | inr other ↦ rw (apart, other, apart) (ap (λ cs. b ∷ cs) (either_order t bs m n))
            ]
      ]

items_stay : (t : Term) (bs : List Block) (n m : ℕ) → block_items (value_of (named (with_blocks (λ b. record b { term = t } ∷ []) bs n)) m) ≡ block_items (value_of (named bs) m)
items_stay t [] n m = refl
items_stay t (b ∷ bs) n m =
    elim (cases_Bool (b.name == n)) [
      | inl here ↦ rw here (elim (cases_Bool (b.name == m)) [ inl there ↦ rw there refl | inr other ↦ rw other refl ])
      | inr apart ↦ rw apart (elim (cases_Bool (b.name == m)) [ inl there ↦ rw there refl | inr other ↦ rw other (items_stay t bs n m) ])
    ]

trimmed_by : (g : Graph) (m n : ℕ) (o : Option Term) → hastened_by (trimmed 1 g m) n o ≡ trimmed 1 (hastened_by g n o) m
trimmed_by g m n None = refl
trimmed_by g m n (Some Fall) = refl
trimmed_by g m n (Some (Jump to)) = refl
trimmed_by g m n (Some (Branch cond a b to)) = refl
trimmed_by g m n (Some (Call link to)) = refl
trimmed_by g m n (Some (PartJump link part to)) =
    ap (λ bs. record g { blocks = bs }) (either_order (λ is. replaced_items is (length (items_of g m) - 1) 1 []) (short_jump link to) g.blocks m n)
    ∙ ap (λ (is : List Item). replaced (with_term g n (short_jump link to)) m (length is - 1) 1 []) (sym (items_stay (short_jump link to) g.blocks n m))
trimmed_by g m n (Some (Indirect link at offset)) = refl
trimmed_by g m n (Some (Stop word)) = refl

trimmed_term : (g : Graph) (m n : ℕ) → term_of (trimmed 1 g m) n ≡ term_of g n
trimmed_term g m n = term_with_items (λ is. replaced_items is (length (items_of g m) - 1) 1 []) g.blocks m n

trimmed_at : (g : Graph) (m n : ℕ) → hastened_at (trimmed 1 g m) n ≡ trimmed 1 (hastened_at g n) m
trimmed_at g m n = ap (hastened_by (trimmed 1 g m) n) (trimmed_term g m n) ∙ trimmed_by g m n (term_of g n)

trimmed_last : (blocks : List ℕ) (g : Graph) (m : ℕ) → trimmed 1 (hastened_each blocks g) m ≡ hastened_each blocks (trimmed 1 g m)
trimmed_last [] g m = refl
trimmed_last (n ∷ blocks) g m = trimmed_last blocks (hastened_at g n) m ∙ ap (hastened_each blocks) (sym (trimmed_at g m n))

hastened_names : (g : Graph) (n : ℕ) (o : Option Term) → names_of (hastened_by g n o) ≡ names_of g
hastened_names g n None = refl
hastened_names g n (Some Fall) = refl
hastened_names g n (Some (Jump to)) = refl
hastened_names g n (Some (Branch cond a b to)) = refl
hastened_names g n (Some (Call link to)) = refl
hastened_names g n (Some (PartJump link part to)) = names-changed (λ b. record b { term = short_jump link to }) g.blocks n (λ b. refl)
hastened_names g n (Some (Indirect link at offset)) = refl
hastened_names g n (Some (Stop word)) = refl

pub hastened_there : (g : Graph) (n m : ℕ) → HasBlock g m → HasBlock (hastened_at g n) m
hastened_there g n m there = has_names g.blocks (hastened_at g n).blocks m (sym (hastened_names g n (term_of g n))) there

-- ONE REWRITE

trimmed_shortened : (g : Graph) (block : ℕ) → JumpsByDeadPart g block → trimmed 1 (hastened_at g block) block ≡ shortened_at g block
trimmed_shortened g block d =
    sym (trimmed_at g block block)
    ∙ ap (hastened_by (trimmed 1 g block) block) (trimmed_term g block block ∙ d.shortable.jump)
    ∙ sym (ap (shortened_by g block) d.shortable.jump)

pub shorten_rules_at : (g : Graph) (block : ℕ) → IsGraph g → JumpsByDeadPart g block → IsGraph (shortened_at g block)
shorten_rules_at g block rules d = (shorten_applied g block rules d).rules

pub shorten_canonical_at : (g : Graph) (block : ℕ) → JumpsByDeadPart g block → IsCanonical g → IsCanonical (shortened_at g block)
shorten_canonical_at g block d canonical =
    subst IsCanonical (sym (shorten_made g block d.at d.link d.part d.to d.shortable)) (shorten_canonical g block d.at d.link d.part d.to d.shortable canonical)

shorten_rewritten : (g : Graph) (block : ℕ) (before : Savings) → IsGraph g → IsCanonical g → JumpsByDeadPart g block → IsRewritten IsCandidate described before (counted before C 1) g (shortened_at g block)
shorten_rewritten g block before rules canonical d =
    kept_rewritten C block before (counted before C 1) g (shortened_at g block) d (shorten_applied g block rules d) (shorten_canonical_at g block d canonical) refl refl

pub shorten_lighter : (g : Graph) (block : ℕ) → IsGraph g → IsCanonical g → JumpsByDeadPart g block → IsLighter 1 g (shortened_at g block)
shorten_lighter g block rules canonical d =
    let h = shortened_at g block in
    lighter_made 1 h g h h (shorten_applied g block rules d) (lighter_itself h (shorten_canonical_at g block d canonical))

pub shorten_names : (g : Graph) (block : ℕ) → JumpsByDeadPart g block → names_of (shortened_at g block) ≡ names_of g
shorten_names g block d =
    ap names_of (shorten_made g block d.at d.link d.part d.to d.shortable)
    ∙ names-changed (λ b. record b { term = short_jump d.link d.to }) (replaced g block d.at 1 []).blocks block (λ b. refl)
    ∙ names-changed (λ b. record b { items = replaced_items b.items d.at 1 [] }) g.blocks block (λ b. refl)

-- another block that jumps by an upper half does so still
shorten_other : (g : Graph) (n m : ℕ) → IsGraph g → JumpsByDeadPart g n → m ≢ n → JumpsByDeadPart g m → JumpsByDeadPart (shortened_at g n) m
shorten_other g n m rules d apart e =
    subst (λ h. JumpsByDeadPart h m) (sym (shorten_made g n d.at d.link d.part d.to d.shortable))
    (record {
      at = e.at;
      link = e.link;
      part = e.part;
      to = e.to;
      shortable = record {
        half = ap (λ o. slice_get (block_items o) e.at) same ∙ e.shortable.half;
        last = e.shortable.last ∙ ap (λ o. length (block_items o)) (sym same);
        jump = ap block_term same ∙ e.shortable.jump;
        dead =
            elim e.shortable.dead [
              | inl own ↦ inl own
              | inr dead ↦ inr (shorten_dead g n d.at d.link d.part d.to rules d.shortable e.to 0 e.part (part_there g m e.link e.part e.to rules e.shortable.jump) (omega arith) (λ here. omega arith) dead)
            ];
      };
    })
  where
    same : block_of (shortened g n d.at d.link d.to) m ≡ block_of g m
    same =
        block_of-changed (λ b. record b { term = short_jump d.link d.to }) (replaced g n d.at 1 []).blocks n m (λ b. refl) apart
        ∙ block_of-changed (λ b. record b { items = replaced_items b.items d.at 1 [] }) g.blocks n m (λ b. refl) apart

-- ALL REWRITES

module _ (g : Graph) (n : ℕ) (rules : IsGraph g) (d : JumpsByDeadPart g n) where
  pub shorten_others : (blocks : List ℕ) → AllByRecursion (λ m. nat_eq n m ≡ false) blocks → All (JumpsByDeadPart g) blocks → All (JumpsByDeadPart (shortened_at g n)) blocks
  shorten_others [] apart jumps = All-nil (JumpsByDeadPart (shortened_at g n))
  shorten_others (m ∷ blocks) apart jumps =
      All-cons (JumpsByDeadPart (shortened_at g n)) m blocks
      (shorten_other g n m rules d (λ same. eqb-false n m apart.0 (sym same)) (All-head (JumpsByDeadPart g) m blocks jumps))
      (shorten_others blocks apart.1 (All-tail (JumpsByDeadPart g) m blocks jumps))

pub trimmed_shortened_each : (blocks : List ℕ) (g : Graph) → IsGraph g → IsDistinct nat_eq blocks → All (JumpsByDeadPart g) blocks → trimmed_each 1 blocks (hastened_each blocks g) ≡ shortened_each blocks g
trimmed_shortened_each [] g rules distinct jumps = refl
trimmed_shortened_each (n ∷ blocks) g rules distinct jumps =
    let d = All-head (JumpsByDeadPart g) n blocks jumps in
    ap (trimmed_each 1 blocks) (trimmed_last blocks (hastened_at g n) n ∙ ap (hastened_each blocks) (trimmed_shortened g n d))
    ∙ trimmed_shortened_each blocks (shortened_at g n) (shorten_rules_at g n rules d) (IsDistinct-tail nat_eq n blocks distinct) (shorten_others g n rules d blocks (IsDistinct-head nat_eq n blocks distinct) (All-tail (JumpsByDeadPart g) n blocks jumps))

rewritten_each : (blocks : List ℕ) (g : Graph) (before : Savings) → IsGraph g → IsCanonical g → IsDistinct nat_eq blocks → All (JumpsByDeadPart g) blocks → IsRewritten IsCandidate described before (counted before C (length blocks)) g (shortened_each blocks g)
rewritten_each [] g before rules canonical distinct jumps =
    let same : before.c + 0 ≡ before.c = omega arith in
    subst (λ (c : ℕ). IsRewritten IsCandidate described before (record before { c = c }) g g) (sym same) (rewritten_itself IsCandidate described before g canonical)
rewritten_each (n ∷ blocks) g before rules canonical distinct jumps =
    let d = All-head (JumpsByDeadPart g) n blocks jumps in
    let first = shorten_rewritten g n before rules canonical d in
    let rest =
    rewritten_each blocks (shortened_at g n) (counted before C 1) (shorten_rules_at g n rules d) (shorten_canonical_at g n d canonical) (IsDistinct-tail nat_eq n blocks distinct)
    (shorten_others g n rules d blocks (IsDistinct-head nat_eq n blocks distinct) (All-tail (JumpsByDeadPart g) n blocks jumps)) in
    let sum : before.c + 1 + length blocks ≡ before.c + suc (length blocks) = omega arith in
    subst (λ (c : ℕ). IsRewritten IsCandidate described before (record before { c = c }) g (shortened_each (n ∷ blocks) g)) sum
    (rewritten_through IsCandidate described before (counted before C 1) (counted (counted before C 1) C (length blocks)) g (shortened_at g n) (shortened_each blocks (shortened_at g n)) first rest)

pub jumps_there : (g : Graph) (blocks : List ℕ) → All (JumpsByDeadPart g) blocks → All (HasBlock g) blocks
jumps_there g blocks jumps = All-weaker (JumpsByDeadPart g) (HasBlock g) (λ n d. shorten_has g n d.at d.link d.part d.to d.shortable) blocks jumps

module _ (g : Graph) (blocks : List ℕ) (before : Savings) (rules : IsGraph g) (canonical : IsCanonical g) (distinct : IsDistinct nat_eq blocks) (jumps : All (JumpsByDeadPart g) blocks) where
  -- each saves a word
  pub few_jumps : length blocks ≤ words_of g
  few_jumps = let all = rewritten_each blocks g before rules canonical distinct jumps in omega (arith, all.total, all.lighter.words)

  pub all_rewritten : (new : Graph) (after : Savings) → new ≡ shortened_each blocks g → after ≡ counted before C (length blocks) → IsRewritten IsCandidate described before after g new
  all_rewritten new after is counts =
      subst (λ s. IsRewritten IsCandidate described before s g new) (sym counts)
      (subst (IsRewritten IsCandidate described before (counted before C (length blocks)) g) (sym is) (rewritten_each blocks g before rules canonical distinct jumps))

-- BLOCKS THAT ARE FOUND ONE AFTER ANOTHER

-- the name is one of the first so many
abbrev pub IsAmongFirst : List ℕ → ℕ → ℕ → Type 0
IsAmongFirst names count n = (place : ℕ) × (place < count) × (get_or names place 0 ≡ n)

-- the names that were found among the first so many
pub record Found (g : Graph) (names : List ℕ) (count : ℕ) (blocks : List ℕ) : Type 0 where
  pub jumps : All (JumpsByDeadPart g) blocks
  pub among : All (IsAmongFirst names count) blocks
  pub distinct : IsDistinct nat_eq blocks

pub distinct_pushed : (names : List ℕ) (n : ℕ) → AllByRecursion (λ m. nat_eq m n ≡ false) names → IsDistinct nat_eq names → IsDistinct nat_eq (names ++ n ∷ [])
unfolding IsDistinct
distinct_pushed [] n apart distinct = (tt, tt)
distinct_pushed (m ∷ names) n apart distinct = (ends names n m apart.0 distinct.0, distinct_pushed names n apart.1 distinct.1)
  where
    ends : (names : List ℕ) (n m : ℕ) → nat_eq m n ≡ false → AllByRecursion (λ k. nat_eq m k ≡ false) names → AllByRecursion (λ k. nat_eq m k ≡ false) (names ++ n ∷ [])
    ends [] n m last all = (last, tt)
    ends (k ∷ names) n m last all = (all.0, ends names n m last all.1)

module _ (g : Graph) (names : List ℕ) (rules : IsGraph g) (all : names ≡ names_of g) where
  names_apart : (i j : ℕ) → i < j → j < length names → nat_eq (get_or names i 0) (get_or names j 0) ≡ false
  names_apart i j ahead below =
      let distinct : IsDistinct nat_eq (names_of g) = subst (IsDistinct nat_eq) (keys-named g.blocks) rules.distinct in
      apart_from_distinct nat_eq names i j 0 (subst (IsDistinct nat_eq) (sym all) distinct) ahead below

  apart_from_found : (count : ℕ) (blocks : List ℕ) → count < length names → All (IsAmongFirst names count) blocks → AllByRecursion (λ m. nat_eq m (get_or names count 0) ≡ false) blocks
  apart_from_found count [] below among = tt
  apart_from_found count (m ∷ blocks) below among =
      let (place, ahead, is) = All-head (IsAmongFirst names count) m blocks among in (
        subst (λ k. nat_eq k (get_or names count 0) ≡ false) is (names_apart place count ahead below),
        apart_from_found count blocks below (All-tail (IsAmongFirst names count) m blocks among),
      )

  still_among : (count : ℕ) (blocks : List ℕ) → All (IsAmongFirst names count) blocks → All (IsAmongFirst names (count + 1)) blocks
  still_among count blocks among = All-weaker (IsAmongFirst names count) (IsAmongFirst names (count + 1)) (λ n at. (at.0, (let ahead = at.1 in omega (arith, ahead)), at.2)) blocks among

  pub found_more : (count : ℕ) (blocks : List ℕ) → count < length names → Found g names count blocks → JumpsByDeadPart g (get_or names count 0) → Found g names (count + 1) (blocks ++ get_or names count 0 ∷ [])
  found_more count blocks below found jumps = record {
    jumps = All-push (JumpsByDeadPart g) blocks (get_or names count 0) found.jumps jumps;
    among = All-push (IsAmongFirst names (count + 1)) blocks (get_or names count 0) (still_among count blocks found.among) (count, omega arith, refl);
    distinct = distinct_pushed blocks (get_or names count 0) (apart_from_found count blocks below found.among) found.distinct;
  }

  pub found_same : (count : ℕ) (blocks : List ℕ) → Found g names count blocks → Found g names (count + 1) blocks
  found_same count blocks found = record {
    jumps = found.jumps;
    among = still_among count blocks found.among;
    distinct = found.distinct;
  }

pub found_none : (g : Graph) (names blocks : List ℕ) → blocks ≡ [] → Found g names 0 blocks
unfolding IsDistinct
found_none g names blocks none =
    subst (Found g names 0) (sym none)
    (record {
      jumps = All-nil (JumpsByDeadPart g);
      among = All-nil (IsAmongFirst names 0);
      distinct = tt;
    })
