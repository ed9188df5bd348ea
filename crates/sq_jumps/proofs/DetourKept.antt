-- Row J2 keeps a canonical graph canonical, where something names the detour.
use Rattle.std.proofs.Common.{◌≡◌, ◌⊎◌, ℕ, Bool, true, false, not, ◌||◌, List, [], ◌∷◌, None, Some, inl, inr, refl, sym, ap, ◌∙◌, subst, ◌==◌, map, if◌then◌else◌, ◌++◌, ◌&&◌}
use Rattle.std.specs.List.{All}
use Rattle.std.proofs.lemmas.Bool.{cases_Bool, eqb-true, eq-eqb, ne_eqb, or_left, or_right, or_cases}
use Rattle.std.proofs.Math.Bool.{and-false}
use Rattle.sq_graph.specs.declared.item.Item.{Item}
use Rattle.sq_graph.specs.declared.item.Term.{Term}
use Rattle.sq_graph.specs.declared.item.Term.TheVariants.{Branch, PartJump, Fall, Jump, Call, Indirect, Stop}
use Rattle.sq_graph.specs.Graph.{Graph, Block}
use Rattle.sq_graph.specs.Blocks.{named, items_of_blocks, items_of_bodies}
use Rattle.sq_graph.specs.Operations.{with_blocks, without_block}
use Rattle.sq_graph.specs.Rules.{IsGraph, last_goes_on}
use Rattle.sq_graph.specs.Terms.{goes_on}
use Rattle.sq_graph.specs.Uses.{uses, term_uses, items_uses, terms_uses, code_word_uses}
use Rattle.sq_graph.specs.Resolve.{jump_from}
use Rattle.law_patch.specs.LoneJumps.{IsDetourTo, without_jump}
use Rattle.sq_jumps.specs.Detour.{IsDetour, without_detour}
use Rattle.sq_lookup.proofs.Targets.{lone, IsLone, has_lone}
use Rattle.std.proofs.lemmas.List.Elements.{All-append, All-tail, All-map, All-weaker}
use Rattle.sq_arena.specs.Entries.{value_of, HasDistinctKeys}
use Rattle.sq_graph.specs.Renames.{retargeted_term, retargeted_block, swapped, retargeted}
use Rattle.sq_graph.proofs.Located.{located, IsAt, named-append}
use Rattle.sq_graph.proofs.SlotReads.{block_at}
use Rattle.sq_arena.proofs.EntriesLaws.{distinct_back}
use Rattle.sq_graph.proofs.Kept.{absent_behind}
use Rattle.sq_num.specs.declared.packed.Savings.{Savings}
use Rattle.sq_graph.specs.Leaders.{IsCanonical, FallsIntoLeaders, is_fall, is_bare, follows_a_term, is_leader}
use Rattle.sq_isa.specs.Registers.{is_among}
use Rattle.sq_pass.specs.declared.cut.Row.TheVariants.{J2}
use Rattle.sq_pass.specs.Counted.{counted}
use Rattle.sq_pass.specs.Rewrites.{IsRewritten}
use Rattle.sq_jumps.specs.Candidates.{IsCandidate, described}
use Rattle.sq_graph.proofs.Changes.{with_blocks-at}
use Rattle.sq_graph.proofs.Marks.{is_among-append}
use Rattle.sq_graph.proofs.Eachs.{All-left, All-right}
use Rattle.sq_graph.proofs.Bypassing.{is_fall-other, is_bare-other}
use Rattle.sq_graph.proofs.RetargetRules.{uses-other}
use Rattle.sq_jumps.proofs.Booleans.{other_way, one_of_four}
use Rattle.sq_jumps.proofs.Leaders.{absent_tail, falls_on, three_uses}
use Rattle.sq_jumps.proofs.Blocks.{goes_on-retargeted}
use Rattle.sq_jumps.proofs.DetourApplied.{detour_made, detour_applied}
use Rattle.sq_jumps.proofs.Rewritten.{kept_rewritten}
use Rattle.sq_jumps.proofs.Ruled.{front_ends}

-- OTHER NAMES

among_other : (f : ℕ → ℕ) (us : List ℕ) (n : ℕ) → is_among us n ≡ true → is_among (map f us) (f n) ≡ true
among_other f [] n e = absurd (cc)
among_other f (u ∷ us) n e =
    elim (or_cases (u == n) (is_among us n) e) [
      | inl here ↦ or_left (f u == f n) (is_among (map f us) (f n)) (eq-eqb (f u) (f n) (ap f (eqb-true u n here)))
      | inr later ↦ or_right (f u == f n) (is_among (map f us) (f n)) (among_other f us n later)
    ]

pub follows-other : (f : ℕ → ℕ) (bs : List Block) (n : ℕ) → follows_a_term (map (retargeted_block f) bs) n ≡ follows_a_term bs n
follows-other f [] n = refl
follows-other f (b ∷ []) n = refl
follows-other f (b ∷ next ∷ bs) n =
    ap (λ on. on && not (is_fall (retargeted_term f b.term)) && next.name == n || follows_a_term (map (retargeted_block f) (next ∷ bs)) n) (goes_on-retargeted f b.term)
    ∙ ap (λ fall. goes_on b.term && not fall && next.name == n || follows_a_term (map (retargeted_block f) (next ∷ bs)) n) (is_fall-other f b.term)
    ∙ ap (λ later. goes_on b.term && not (is_fall b.term) && next.name == n || later) (follows-other f (next ∷ bs) n)

pub falls-other : (f : ℕ → ℕ) (leads : ℕ → Bool) (bs : List Block) → FallsIntoLeaders leads bs → FallsIntoLeaders leads (map (retargeted_block f) bs)
falls-other f leads [] falls = tt
falls-other f leads (b ∷ []) falls = tt
falls-other f leads (b ∷ next ∷ bs) falls = (λ fall. falls.0 (sym (is_fall-other f b.term) ∙ fall), falls-other f leads (next ∷ bs) falls.1)

pub solid-other : (f : ℕ → ℕ) (bs : List Block) → All (λ b. is_bare b ≡ false) bs → All (λ b. is_bare b ≡ false) (map (retargeted_block f) bs)
solid-other f bs all =
    All-map {X = Block} (λ b. is_bare b ≡ false) (retargeted_block f) bs
    (All-weaker {X = Block} (λ b. is_bare b ≡ false) (λ b. is_bare (retargeted_block f b) ≡ false) (λ b solid. is_bare-other f b ∙ solid) bs all)

without-other : (f : ℕ → ℕ) (bs : List Block) (n : ℕ) → with_blocks (λ b. []) (map (retargeted_block f) bs) n ≡ map (retargeted_block f) (with_blocks (λ b. []) bs n)
without-other f [] n = refl
without-other f (b ∷ bs) n =
    elim (cases_Bool (b.name == n)) [
      | inl here ↦ rw here refl
      | inr apart ↦ rw apart (ap (λ cs. retargeted_block f b ∷ cs) (without-other f bs n))
    ]

-- a block goes before its uses go, or after
pub without-retargeted : (f : ℕ → ℕ) (g : Graph) (n : ℕ) → without_block (retargeted f g) n ≡ retargeted f (without_block g n)
without-retargeted f g n = λ i. record (retargeted f g) { blocks = without-other f g.blocks n i }

fall_goes_on : (t : Term) → is_fall t ≡ true → goes_on t ≡ true
fall_goes_on Fall e = refl
fall_goes_on (Jump to) e = absurd (cc)
fall_goes_on (Branch cond a b to) e = absurd (cc)
fall_goes_on (Call link to) e = absurd (cc)
fall_goes_on (PartJump link part to) e = absurd (cc)
fall_goes_on (Indirect link at offset) e = absurd (cc)
fall_goes_on (Stop word) e = absurd (cc)

-- A LONE JUMP INTO WHICH NOTHING GOES ON, AND NONE

module _ (name to : ℕ) (back : List Block) where
  abbrev pub jumping : Block
  jumping = record { name = name; items = []; term = Jump to }

  items_same : (front : List Block) → items_of_blocks (front ++ back) ≡ items_of_blocks (front ++ jumping ∷ back)
  items_same [] = refl
  items_same (c ∷ front) = ap (λ (is : List Item). c.items ++ is) (items_same front)

  named_still : (front : List Block) (n : ℕ) → is_among (terms_uses (front ++ jumping ∷ back)) n ≡ true → (is_among (terms_uses (front ++ back)) n ≡ true) ⊎ ((to == n) ≡ true)
  named_still [] n e = elim (or_cases (to == n) (is_among (terms_uses back) n) e) [ inl here ↦ inr here | inr still ↦ inl still ]
  named_still (c ∷ front) n e =
      let old = terms_uses (front ++ jumping ∷ back) in
      let left = terms_uses (front ++ back) in
      let own = is_among (term_uses c.term) n in
      elim (or_cases (is_among (term_uses c.term) n) (is_among (terms_uses (front ++ jumping ∷ back)) n) (sym (is_among-append (term_uses c.term) old n) ∙ e)) [
        | inl here ↦ inl (is_among-append (term_uses c.term) left n ∙ or_left own (is_among left n) here)
        | inr later ↦
            elim (named_still front n later) [
              | inl still ↦ inl (is_among-append (term_uses c.term) left n ∙ or_right own (is_among left n) still)
              | inr this ↦ inr this
            ]
      ]

  follows_back : (bs : List Block) (n : ℕ) → follows_a_term (jumping ∷ bs) n ≡ follows_a_term bs n
  follows_back [] n = refl
  follows_back (b ∷ bs) n = refl

  -- in front of the Jump's slot stands what doesn't go on
  behind_front : (b : Block) (bs : List Block) (n : ℕ) → follows_a_term bs n ≡ true → follows_a_term (b ∷ bs) n ≡ true
  behind_front b [] n e = absurd (cc)
  behind_front b (next ∷ bs) n e = or_right (goes_on b.term && not (is_fall b.term) && next.name == n) (follows_a_term (next ∷ bs) n) e

  pub follows_still : (front : List Block) (n : ℕ) → (name == n) ≡ false → follows_a_term (front ++ jumping ∷ back) n ≡ true → follows_a_term (front ++ back) n ≡ true
  follows_still [] n apart e = sym (follows_back back n) ∙ e
  follows_still (c ∷ []) n apart e =
      let own = goes_on c.term && not (is_fall c.term) in
      elim (or_cases (goes_on c.term && not (is_fall c.term) && name == n) (follows_a_term (jumping ∷ back) n) e) [
        | inl here ↦ absurd (let none : (own && name == n) ≡ false = ap (λ t. own && t) apart ∙ and-false own in cc)
        | inr later ↦ behind_front c back n (follows_still [] n apart later)
      ]
  follows_still (c ∷ d ∷ front) n apart e =
      let own = goes_on c.term && not (is_fall c.term) && d.name == n in
      elim (or_cases (goes_on c.term && not (is_fall c.term) && d.name == n) (follows_a_term (d ∷ (front ++ jumping ∷ back)) n) e) [
        | inl here ↦ or_left own (follows_a_term (d ∷ (front ++ back)) n) here
        | inr later ↦ or_right own (follows_a_term (d ∷ (front ++ back)) n) (follows_still (d ∷ front) n apart later)
      ]

  pub solid_still : (front : List Block) → All (λ c. is_bare c ≡ false) (front ++ jumping ∷ back) → All (λ c. is_bare c ≡ false) (front ++ back)
  solid_still front all =
      let P : Block → Type 0 = λ c. is_bare c ≡ false in
      All-append P front back (All-left P front (jumping ∷ back) all) (All-tail P jumping back (All-right P front (jumping ∷ back) all))

  module _ (leads others : ℕ → Bool) (more : (n : ℕ) → (n == name) ≡ false → leads n ≡ true → others n ≡ true) (back_apart : value_of (named back) name ≡ None) where
    falls_back : (bs : List Block) → value_of (named bs) name ≡ None → FallsIntoLeaders leads (jumping ∷ bs) → FallsIntoLeaders others bs
    falls_back [] none falls = tt
    falls_back (b ∷ bs) none falls = falls_on name leads others more (b ∷ bs) none falls.1

    falls_front : (c : Block) (bs : List Block) → goes_on c.term ≡ false → FallsIntoLeaders others bs → FallsIntoLeaders others (c ∷ bs)
    falls_front c [] off falls = tt
    falls_front c (next ∷ bs) off falls = (λ fall. absurd (let on = fall_goes_on c.term fall in cc), falls)

    falls_still : (front : List Block) → value_of (named front) name ≡ None → last_goes_on front ≡ false → FallsIntoLeaders leads (front ++ jumping ∷ back) → FallsIntoLeaders others (front ++ back)
    falls_still [] none ends falls = falls_back back back_apart falls
    falls_still (c ∷ []) none ends falls = falls_front c back ends (falls_back back back_apart falls.1)
    falls_still (c ∷ d ∷ front) none ends falls =
        let later = (absent_tail c (d ∷ front) name none).1 in
        (λ fall. more d.name (absent_tail d front name later).0 (falls.0 fall), falls_still (d ∷ front) later ends falls.1)

  module _ (g : Graph) (front : List Block) where
    abbrev pub before : Graph
    before = record g { blocks = front ++ jumping ∷ back }

    abbrev pub after : Graph
    after = record g { blocks = front ++ back }

    used_left : (n : ℕ) → (to == n) ≡ false → is_among (uses before) n ≡ true → is_among (uses after) n ≡ true
    used_left n apart e =
        let words = code_word_uses g.code_words in
        let old_terms = terms_uses (front ++ jumping ∷ back) in
        let terms = terms_uses (front ++ back) in
        let old_items = items_uses (items_of_blocks (front ++ jumping ∷ back) ++ items_of_bodies g.procedures) in
        let new_items = items_uses (items_of_blocks (front ++ back) ++ items_of_bodies g.procedures) in
        let same : is_among new_items n ≡ is_among old_items n = ap (λ (is : List Item). is_among (items_uses (is ++ items_of_bodies g.procedures)) n) (items_same front) in
        let parts : (g.entry == n || (is_among words n || (is_among old_terms n || is_among old_items n))) ≡ true =
        sym (ap (λ t. g.entry == n || t) (three_uses words old_terms old_items n)) ∙ e in
        elim (one_of_four ((to == n) ≡ true) (g.entry == n) (is_among words n) (is_among old_terms n) (is_among terms n) (is_among old_items n) (named_still front n) parts) [
          | inl still ↦ ap (λ t. g.entry == n || t) (three_uses words terms new_items n) ∙ ap (λ t. g.entry == n || (is_among words n || (is_among terms n || t))) same ∙ still
          | inr this ↦ absurd (cc)
        ]

    abbrev f : ℕ → ℕ
    f = swapped name to

    -- names of the Jump are its target's now
    pub target_used : (to == name) ≡ false → is_among (uses before) name ≡ true → is_among (uses (retargeted f after)) to ≡ true
    target_used other e =
        let is : f name ≡ to = ap (λ t. if t then to else name) (eq-eqb name name refl) in
        ap (λ us. is_among us to) (uses-other f (λ b. b.name) after)
        ∙ subst (λ k. is_among (map f (uses after)) k ≡ true) is (among_other f (uses after) name (used_left name other e))

    pub used_elsewhere : (n : ℕ) → (to == n) ≡ false → (n == name) ≡ false → is_among (uses before) n ≡ true → is_among (uses (retargeted f after)) n ≡ true
    used_elsewhere n away apart e =
        let is : f n ≡ n = ap (λ t. if t then to else n) apart in
        ap (λ us. is_among us n) (uses-other f (λ b. b.name) after)
        ∙ subst (λ k. is_among (map f (uses after)) k ≡ true) is (among_other f (uses after) n (used_left n away e))

    used_still : (n : ℕ) → (to == name) ≡ false → (n == name) ≡ false → is_among (uses before) name ≡ true → is_among (uses before) n ≡ true → is_among (uses (retargeted f after)) n ≡ true
    used_still n other apart named_it e =
        elim (cases_Bool (to == n)) [
          | inl here ↦ subst (λ k. is_among (uses (retargeted f after)) k ≡ true) (eqb-true to n here) (target_used other named_it)
          | inr away ↦ used_elsewhere n away apart e
        ]

    leads_still : (to == name) ≡ false → is_among (uses before) name ≡ true → (n : ℕ) → (n == name) ≡ false → is_leader before n ≡ true → is_leader (retargeted f after) n ≡ true
    leads_still other named_it n apart e =
        let used = is_among (uses (retargeted f after)) n in
        let follows = follows_a_term (map (retargeted_block f) (front ++ back)) n in
        elim (or_cases (is_among (uses before) n) (follows_a_term (front ++ jumping ∷ back) n) e) [
          | inl uses_it ↦ or_left used follows (used_still n other apart named_it uses_it)
          | inr follows_it ↦ or_right used follows (follows-other f (front ++ back) n ∙ follows_still front n (other_way n name apart) follows_it)
        ]

    pub detour_kept : (to == name) ≡ false → is_among (uses before) name ≡ true → value_of (named front) name ≡ None → value_of (named back) name ≡ None → last_goes_on front ≡ false → IsCanonical before → IsCanonical (retargeted f after)
    detour_kept other named_it front_apart back_apart ends canonical = record {
      no_bare = solid-other f (front ++ back) (solid_still front canonical.no_bare);
      leaders =
          falls-other f (is_leader (retargeted f after)) (front ++ back)
          (falls_still (is_leader before) (is_leader (retargeted f after)) (leads_still other named_it) back_apart front front_apart ends canonical.leaders);
    }

-- WHERE IT STANDS

module _ (g : Graph) (block to : ℕ) (rules : IsGraph g) (jump : jump_from g block ≡ Some to) where
  alone : IsLone g block to
  alone = lone g block to jump

  pub spot : IsAt g.blocks block
  spot = located g.blocks block (has_lone g block to alone)

  same_block : spot.block ≡ alone.block
  same_block = let same : Some spot.block ≡ Some alone.block = sym (block_at g.blocks block spot) ∙ alone.found in cc

  pub is_jump : spot.block ≡ jumping block to spot.back
  is_jump = same_block ∙ (λ i. record { name = (sym (ap (λ (c : Block). c.name) same_block) ∙ spot.has_name) i; items = alone.items i; term = alone.term i })

  pub whole : g.blocks ≡ spot.front ++ jumping block to spot.back ∷ spot.back
  whole = spot.whole ∙ ap (λ b. spot.front ++ b ∷ spot.back) is_jump

  gone : with_blocks (λ b. []) g.blocks block ≡ spot.front ++ spot.back
  gone = with_blocks-at (λ b. []) g.blocks block spot

  pub behind : value_of (named spot.back) block ≡ None
  behind =
      absent_behind (block, jumping block to spot.back) (named spot.back)
      (distinct_back (named spot.front) (named (jumping block to spot.back ∷ spot.back))
      (subst (λ (es : List (ℕ × Block)). HasDistinctKeys es) (ap named whole ∙ named-append spot.front (jumping block to spot.back ∷ spot.back)) rules.distinct))

  pub moved : without_jump g block to ≡ retargeted (swapped block to) (record g { blocks = spot.front ++ spot.back })
  moved =
      without-retargeted (swapped block to) g block
      ∙ ap (λ bs. retargeted (swapped block to) (record g { blocks = bs })) gone

  -- a name is used still, but for the block's own and its target's
  pub name_used : (n : ℕ) → (to == n) ≡ false → (n == block) ≡ false → is_among (uses g) n ≡ true → is_among (uses (without_jump g block to)) n ≡ true
  name_used n away apart e =
      subst (λ (h : Graph). is_among (uses h) n ≡ true) (sym moved)
      (used_elsewhere block to spot.back g spot.front n away apart (subst (λ bs. is_among (uses (record g { blocks = bs })) n ≡ true) whole e))

pub detour_canonical : (g : Graph) (block to : ℕ) → IsGraph g → IsDetourTo g block to → is_among (uses g) block ≡ true → IsCanonical g → IsCanonical (without_jump g block to)
detour_canonical g block to rules leads named_it canonical =
    let at = spot g block to rules leads.jump in
    let is = whole g block to rules leads.jump in
    let ends : last_goes_on at.front ≡ false = front_ends g (jumping block to at.back) at.back rules leads.apart [] at.front (sym is) in
    subst IsCanonical (sym (moved g block to rules leads.jump))
    (detour_kept block to at.back g at.front (ne_eqb to block leads.other) (subst (λ bs. is_among (uses (record g { blocks = bs })) block ≡ true) is named_it) at.ahead (behind g block to rules leads.jump) ends
    (subst (λ bs. IsCanonical (record g { blocks = bs })) is canonical))

-- IN A SWEEP

pub detour_rewritten : (g h : Graph) (block : ℕ) (before after : Savings) → IsGraph g → IsCanonical g → IsDetour g block → is_among (uses g) block ≡ true → h ≡ without_detour g block → after ≡ counted before J2 1 → IsRewritten IsCandidate described before after g h
detour_rewritten g h block before after rules canonical d named is counts =
    kept_rewritten J2 block before after g h d (detour_applied g block rules d)
    (subst IsCanonical (sym (detour_made g block d.to d.leads.jump)) (detour_canonical g block d.to rules d.leads named canonical)) is counts
