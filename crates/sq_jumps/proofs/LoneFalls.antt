-- Row J1 at a lone Jump: the empty block that is left gives its names to the next slot and goes, and the graph is canonical.
use Rattle.std.proofs.Common.{◌≡◌, ◌≢◌, ℕ, Bool, true, false, not, ◌&&◌, ◌==◌, if◌then◌else◌, List, [], ◌∷◌, ◌++◌, None, Some, is_some, inl, inr, refl, sym, ap, ◌∙◌, subst, append_assoc}
use Rattle.std.specs.List.{All}
use Rattle.std.proofs.lemmas.Bool.{cases_Bool, eq-eqb, or_left, or_right, or_cases}
use Rattle.std.proofs.lemmas.List.Elements.{All-head, All-tail}
use Rattle.std.proofs.Math.Bool.{and-false}
use Rattle.sq_arena.specs.Entries.{HasDistinctKeys, value_of}
use Rattle.sq_arena.proofs.EntriesLaws.{absent_ahead, distinct_back}
use Rattle.sq_isa.specs.Registers.{is_among}
use Rattle.sq_num.specs.declared.packed.Savings.{Savings}
use Rattle.sq_graph.specs.declared.item.Term.{Term}
use Rattle.sq_graph.specs.declared.item.Term.TheVariants.{Fall}
use Rattle.sq_graph.specs.Graph.{Block, Graph}
use Rattle.sq_graph.specs.Blocks.{named, next_of}
use Rattle.sq_graph.specs.Canonical.{bypassed_to, bypassed, bypassed_each, joined, canonical_of}
use Rattle.sq_graph.specs.Leaders.{is_fall, is_bare, follows_a_term, is_leader, FallsIntoLeaders, IsCanonical}
use Rattle.sq_graph.specs.Operations.{redirected, with_blocks}
use Rattle.sq_graph.specs.Renames.{retargeted, swapped}
use Rattle.sq_graph.specs.Resolve.{jump_from}
use Rattle.sq_graph.specs.Rules.{IsGraph}
use Rattle.sq_graph.specs.Terms.{goes_on}
use Rattle.sq_graph.specs.Uses.{uses}
use Rattle.sq_graph.specs.Words.{words_of}
use Rattle.sq_graph.proofs.CanonicalLaws.{canonical_again, canonical_keeps_words}
use Rattle.sq_graph.proofs.Changes.{with_blocks-at}
use Rattle.sq_graph.proofs.Eachs.{All-left, All-right}
use Rattle.sq_graph.proofs.Kept.{absent_behind}
use Rattle.sq_graph.proofs.Located.{named-append}
use Rattle.sq_graph.proofs.OperationRules.{redirected_unused, without_block_rules}
use Rattle.sq_lookup.proofs.Targets.{lone, lone_term}
use Rattle.law_patch.specs.LoneJumps.{without_jump}
use Rattle.sq_pass.specs.declared.cut.Row.TheVariants.{J1}
use Rattle.sq_pass.specs.Counted.{counted}
use Rattle.sq_pass.specs.Rewrites.{IsRewritten}
use Rattle.sq_jumps.specs.Candidates.{IsCandidate, described}
use Rattle.sq_jumps.specs.Fall.{falling, JumpsToNext}
use Rattle.sq_jumps.proofs.Blocks.{HasFirst, first_is, next-term, next-redirected}
use Rattle.sq_jumps.proofs.Booleans.{other_way}
use Rattle.sq_jumps.proofs.DetourApplied.{lone_redirected, lone_there}
use Rattle.sq_jumps.proofs.DetourKept.{jumping, before, after, target_used, used_elsewhere, follows_still, follows-other, falls-other, solid-other, solid_still, without-retargeted, spot, is_jump, whole, behind, moved}
use Rattle.sq_jumps.proofs.FallApplied.{fall_applied, fall_rules}
use Rattle.sq_jumps.proofs.FallJoined.{none_bypassed, solid_joined}
use Rattle.sq_jumps.proofs.Leaders.{absent_tail, absent_parts}
use Rattle.sq_jumps.proofs.Rewritten.{row_rewritten}
use Rattle.sq_jumps.proofs.Ruled.{behind_it}

-- LEADERS

-- what stands behind a term that goes on is there
follows_there : (bs : List Block) (n : ℕ) → value_of (named bs) n ≡ None → follows_a_term bs n ≡ true → ⊥
follows_there [] n none e = absurd (cc)
follows_there (b ∷ []) n none e = absurd (cc)
follows_there (b ∷ next ∷ bs) n none e =
    let later = (absent_tail b (next ∷ bs) n none).1 in
    let own = goes_on b.term && not (is_fall b.term) in
    elim (or_cases (own && next.name == n) (follows_a_term (next ∷ bs) n) e) [
      | inl here ↦ absurd (let off : (own && next.name == n) ≡ false = ap (λ t. own && t) (absent_tail next bs n later).0 ∙ and-false own in cc)
      | inr there ↦ follows_there (next ∷ bs) n later there
    ]

-- A lone Jump to the next slot, and without it.
module _ (name : ℕ) (n : Block) (rest : List Block) (back_apart : value_of (named (n ∷ rest)) name ≡ None) where
  abbrev over : Block
  over = jumping name n.name (n ∷ rest)

  -- what the Jump followed, its target follows
  follows_over : (front : List Block) → value_of (named front) name ≡ None → follows_a_term (front ++ over ∷ n ∷ rest) name ≡ true → follows_a_term (front ++ n ∷ rest) n.name ≡ true
  follows_over [] apart e = absurd (follows_there (n ∷ rest) name back_apart e)
  follows_over (c ∷ []) apart e =
      let own = goes_on c.term && not (is_fall c.term) in
      elim (or_cases (own && name == name) (follows_a_term (over ∷ n ∷ rest) name) e) [
        | inl here ↦ or_left (own && n.name == n.name) (follows_a_term (n ∷ rest) n.name) (ap (λ t. own && t) (eq-eqb n.name n.name refl ∙ sym (eq-eqb name name refl)) ∙ here)
        | inr later ↦ absurd (follows_there (n ∷ rest) name back_apart later)
      ]
  follows_over (c ∷ d ∷ front) apart e =
      let own = goes_on c.term && not (is_fall c.term) in
      let later = (absent_tail c (d ∷ front) name apart).1 in
      elim (or_cases (own && d.name == name) (follows_a_term (d ∷ (front ++ over ∷ n ∷ rest)) name) e) [
        | inl here ↦ absurd (let off : (own && d.name == name) ≡ false = ap (λ t. own && t) (absent_tail d front name later).0 ∙ and-false own in cc)
        | inr there ↦ or_right (own && d.name == n.name) (follows_a_term (d ∷ (front ++ n ∷ rest)) n.name) (follows_over (d ∷ front) later there)
      ]

  module _ (leads others : ℕ → Bool) (more : (k : ℕ) → (k == name) ≡ false → (k == n.name) ≡ false → leads k ≡ true → others k ≡ true) (takes : leads name ≡ true → others n.name ≡ true) where
    falls_behind : (b : Block) (bs : List Block) → value_of (named bs) name ≡ None → value_of (named bs) n.name ≡ None → FallsIntoLeaders leads (b ∷ bs) → FallsIntoLeaders others (b ∷ bs)
    falls_behind b [] none none' falls = tt
    falls_behind b (next ∷ bs) none none' falls =
        let one = absent_tail next bs name none in
        let two = absent_tail next bs n.name none' in
        (λ fall. more next.name one.0 two.0 (falls.0 fall), falls_behind next bs one.1 two.1 falls.1)

    falls_over : (front : List Block) → value_of (named front) name ≡ None → value_of (named front) n.name ≡ None → value_of (named rest) n.name ≡ None → FallsIntoLeaders leads (front ++ over ∷ n ∷ rest) → FallsIntoLeaders others (front ++ n ∷ rest)
    falls_over [] none none' later falls = falls_behind n rest (absent_tail n rest name back_apart).1 later falls.1
    falls_over (c ∷ []) none none' later falls = (λ fall. takes (falls.0 fall), falls_over [] refl refl later falls.1)
    falls_over (c ∷ d ∷ front) none none' later falls =
        let one = (absent_tail c (d ∷ front) name none).1 in
        let two = (absent_tail c (d ∷ front) n.name none').1 in
        (λ fall. more d.name (absent_tail d front name one).0 (absent_tail d front n.name two).0 (falls.0 fall), falls_over (d ∷ front) one two later falls.1)

  module _ (g : Graph) (front : List Block) (front_apart : value_of (named front) name ≡ None) (target_apart : value_of (named front) n.name ≡ None) (once : value_of (named rest) n.name ≡ None) where
    abbrev old : Graph
    old = before name n.name (n ∷ rest) g front

    abbrev f : ℕ → ℕ
    f = swapped name n.name

    abbrev left : Graph
    left = retargeted f (after name n.name (n ∷ rest) g front)

    other : (n.name == name) ≡ false
    other = (absent_tail n rest name back_apart).0

    leads_elsewhere : (k : ℕ) → (k == name) ≡ false → (k == n.name) ≡ false → is_leader old k ≡ true → is_leader left k ≡ true
    leads_elsewhere k apart away e =
        let used = is_among (uses left) k in
        let follows = follows_a_term left.blocks k in
        elim (or_cases (is_among (uses old) k) (follows_a_term old.blocks k) e) [
          | inl uses_it ↦ or_left used follows (used_elsewhere name n.name (n ∷ rest) g front k (other_way k n.name away) apart uses_it)
          | inr follows_it ↦ or_right used follows (follows-other f (front ++ n ∷ rest) k ∙ follows_still name n.name (n ∷ rest) front k (other_way k name apart) follows_it)
        ]

    target_leads : is_leader old name ≡ true → is_leader left n.name ≡ true
    target_leads e =
        let used = is_among (uses left) n.name in
        let follows = follows_a_term left.blocks n.name in
        elim (or_cases (is_among (uses old) name) (follows_a_term old.blocks name) e) [
          | inl uses_it ↦ or_left used follows (target_used name n.name (n ∷ rest) g front other uses_it)
          | inr follows_it ↦ or_right used follows (follows-other f (front ++ n ∷ rest) n.name ∙ follows_over front front_apart follows_it)
        ]

    pub lone_fall_kept : IsCanonical old → IsCanonical left
    lone_fall_kept canonical = record {
      no_bare = solid-other f (front ++ n ∷ rest) (solid_still name n.name (n ∷ rest) front canonical.no_bare);
      leaders = falls-other f (is_leader left) (front ++ n ∷ rest) (falls_over (is_leader old) (is_leader left) leads_elsewhere target_leads front front_apart target_apart once canonical.leaders);
    }

-- WHERE IT STANDS

bypassed_behind : (front rest : List Block) (h : Graph) → All (λ b. is_bare b ≡ false) front → bypassed_each (front ++ rest) h ≡ bypassed_each rest h
bypassed_behind [] rest h none = refl
bypassed_behind (b ∷ front) rest h none =
    let Solid : Block → Type 0 = λ c. is_bare c ≡ false in
    ap (λ t. bypassed_each (front ++ rest) (if t then bypassed h b.name else h)) (All-head Solid b front none) ∙ bypassed_behind front rest h (All-tail Solid b front none)

-- a block goes, whatever its term
without-term : (t : Term) (bs : List Block) (n : ℕ) → with_blocks (λ b. []) (with_blocks (λ b. record b { term = t } ∷ []) bs n) n ≡ with_blocks (λ b. []) bs n
without-term t [] n = refl
without-term t (b ∷ bs) n =
    elim (cases_Bool (b.name == n)) [
      | inl here ↦ rw (here, here) refl
      | inr apart ↦ rw (apart, apart) (ap (λ cs. b ∷ cs) (without-term t bs n))
    ]

module _ (g : Graph) (block to : ℕ) (rules : IsGraph g) (jump : jump_from g block ≡ Some to) (slot : next_of g block ≡ Some to) where
  abbrev front : List Block
  front = (spot g block to rules jump).front

  abbrev back : List Block
  back = (spot g block to rules jump).back

  next : HasFirst back to
  next = first_is back to (sym (behind_it g.blocks block (spot g block to rules jump)) ∙ slot)

  abbrev n : Block
  n = next.block

  abbrev rest : List Block
  rest = next.rest

  abbrev jumps : JumpsToNext g block
  jumps = record { to = to; jump = lone_term g block to (lone g block to jump); next = slot }

  absent : value_of (named (n ∷ rest)) block ≡ None
  absent = subst (λ bs. value_of (named bs) block ≡ None) next.is (behind g block to rules jump)

  pub next_other : to ≢ block
  next_other same = absurd (let apart : (n.name == block) ≡ false = (absent_tail n rest block absent).0 in let here : (n.name == block) ≡ true = eq-eqb n.name block (next.has_name ∙ same) in cc)

  -- the rules hold once it went
  pub lone_fall_rules : IsGraph (without_jump g block to)
  lone_fall_rules =
      without_block_rules (redirected g block to) block (lone_redirected g block to jump rules) (lone_there g block to jump) (redirected_unused g block to next_other)
      (ap is_some (next-redirected g block to block ∙ slot))

  whole_is : g.blocks ≡ front ++ jumping block n.name (n ∷ rest) ∷ n ∷ rest
  whole_is =
      whole g block to rules jump
      ∙ ap (λ bs. front ++ jumping block to bs ∷ bs) next.is
      ∙ ap (λ k. front ++ jumping block k (n ∷ rest) ∷ n ∷ rest) (sym next.has_name)

  keyed : HasDistinctKeys (named (front ++ jumping block n.name (n ∷ rest) ∷ []) ++ (n.name, n) ∷ named rest)
  keyed =
      subst (λ (es : List (ℕ × Block)). HasDistinctKeys es)
      (ap named (whole_is ∙ sym (append_assoc front (jumping block n.name (n ∷ rest) ∷ []) (n ∷ rest))) ∙ named-append (front ++ jumping block n.name (n ∷ rest) ∷ []) (n ∷ rest)) rules.distinct

  target_apart : value_of (named front) n.name ≡ None
  target_apart = (absent_parts front (jumping block n.name (n ∷ rest) ∷ []) n.name (absent_ahead (named (front ++ jumping block n.name (n ∷ rest) ∷ [])) (named rest) n.name n keyed)).0

  target_once : value_of (named rest) n.name ≡ None
  target_once = absent_behind (n.name, n) (named rest) (distinct_back (named (front ++ jumping block n.name (n ∷ rest) ∷ [])) ((n.name, n) ∷ named rest) keyed)

  pub lone_fall_canonical : IsCanonical g → IsCanonical (without_jump g block to)
  lone_fall_canonical canonical =
      let left : IsCanonical (retargeted (swapped block n.name) (record g { blocks = front ++ n ∷ rest })) =
      lone_fall_kept block n rest absent g front (spot g block to rules jump).ahead target_apart target_once (subst (λ bs. IsCanonical (record g { blocks = bs })) whole_is canonical) in
      subst IsCanonical
      (ap (λ k. retargeted (swapped block k) (record g { blocks = front ++ n ∷ rest })) next.has_name
      ∙ ap (λ bs. retargeted (swapped block to) (record g { blocks = front ++ bs })) (sym next.is)
      ∙ sym (moved g block to rules jump)) left

  abbrev bare : Block
  bare = record { name = block; items = []; term = Fall }

  fallen : (falling g block).blocks ≡ front ++ bare ∷ back
  fallen =
      with_blocks-at (λ b. record b { term = Fall } ∷ []) g.blocks block (spot g block to rules jump)
      ∙ ap (λ (b : Block). front ++ record b { term = Fall } ∷ back) (is_jump g block to rules jump)

  bypassed_is : bypassed (falling g block) block ≡ without_jump g block to
  bypassed_is =
      ap (bypassed_to (falling g block) block) (next-term g block block Fall ∙ slot)
      ∙ without-retargeted (swapped block to) (falling g block) block
      ∙ ap (λ bs. retargeted (swapped block to) (record g { blocks = bs })) (without-term Fall g.blocks block)
      ∙ sym (without-retargeted (swapped block to) g block)

  -- what the canonical form makes of the Fall
  canonical_is : IsCanonical g → canonical_of (falling g block) ≡ without_jump g block to
  canonical_is canonical =
      let Solid : Block → Type 0 = λ b. is_bare b ≡ false in
      let solid : All Solid (front ++ jumping block to back ∷ back) = subst (λ bs. All Solid bs) (whole g block to rules jump) canonical.no_bare in
      let ahead : All Solid front = All-left Solid front (jumping block to back ∷ back) solid in
      let later : All Solid back = All-tail Solid (jumping block to back) back (All-right Solid front (jumping block to back ∷ back) solid) in
      let k = lone_fall_canonical canonical in
      ap joined
      (ap (λ bs. bypassed_each bs (falling g block)) fallen
      ∙ bypassed_behind front (bare ∷ back) (falling g block) ahead
      ∙ none_bypassed back (bypassed (falling g block) block) later
      ∙ bypassed_is)
      ∙ sym (solid_joined (without_jump g block to) k.no_bare)
      ∙ canonical_again (without_jump g block to) k

  pub lone_fall_rewritten : (h : Graph) (was now : Savings) → IsCanonical g → h ≡ without_jump g block to → now ≡ counted was J1 1 → IsRewritten IsCandidate described was now g h
  lone_fall_rewritten h was now canonical is counts =
      let mid_rules = fall_rules g block to rules jumps.jump slot in
      let made : h ≡ canonical_of (falling g block) = is ∙ sym (canonical_is canonical) in
      row_rewritten J1 block was now g (falling g block) h jumps (fall_applied g block rules jumps) mid_rules made (subst IsCanonical (sym is) (lone_fall_canonical canonical)) (ap words_of made ∙ canonical_keeps_words (falling g block) mid_rules) counts
