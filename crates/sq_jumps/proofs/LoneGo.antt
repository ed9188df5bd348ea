-- Rows J1 and J2 in a round: lone Jumps that give their uses to their targets all at once, and then go, are one rewrite after another.
use Rattle.std.proofs.Common.{◌≡◌, ℕ, ◌+◌, ◌≤◌, ◌==◌, true, false, ◌||◌, if◌then◌else◌, nat_eq, List, [], ◌∷◌, Some, is_some, inl, inr, refl, sym, ap, ◌∙◌, subst, arith}
use mathlib.Core.Path.{fun_ext}
use Rattle.std.specs.Prelude.{option_map}
use Rattle.std.proofs.lemmas.Bool.{cases_Bool, eqb-true, eqb-false, eq-eqb, ne_eqb, or_parts}
use Rattle.sq_num.specs.declared.packed.Savings.{Savings}
use Rattle.sq_isa.specs.Registers.{is_among}
use Rattle.sq_graph.specs.declared.item.Term.TheVariants.{Jump}
use Rattle.sq_graph.specs.Graph.{Graph}
use Rattle.sq_graph.specs.Blocks.{HasBlock, term_of}
use Rattle.sq_graph.specs.Leaders.{IsCanonical}
use Rattle.sq_graph.specs.Operations.{redirected, without_block}
use Rattle.sq_graph.specs.Redirected.{named_by, goes_to, redirected_each}
use Rattle.sq_graph.specs.Renames.{retargeted, retargeted_block, swapped}
use Rattle.sq_graph.specs.Rules.{IsGraph}
use Rattle.sq_graph.specs.Words.{words_of}
use Rattle.sq_graph.proofs.Bypassing.{retargeted_twice, retargeted_same}
use Rattle.sq_graph.proofs.OperationRules.{retargeted_rules}
use Rattle.sq_layout.proofs.Standing.{block_of-retargeted}
use Rattle.sq_lookup.specs.Names.{is_listed}
use Rattle.sq_lookup.proofs.Targets.{jump_there, lone, lone_term}
use Rattle.law_patch.specs.LoneJumps.{without_jump}
use Rattle.sq_num.specs.Saved.{words_saved}
use Rattle.sq_pass.specs.declared.cut.Row.{Row}
use Rattle.sq_pass.specs.Counted.{counted}
use Rattle.sq_pass.specs.Rewrites.{IsRewritten}
use Rattle.sq_pass.proofs.Rewriting.{rewritten_itself, rewritten_through}
use Rattle.sq_jumps.specs.Candidates.{IsCandidate, described}
use Rattle.sq_jumps.specs.Lone.{IsBypassable, GoTogether}
use Rattle.sq_jumps.proofs.DetourApplied.{detour_made, detour_applied}
use Rattle.sq_jumps.proofs.DetourKept.{without-retargeted, detour_rewritten}
use Rattle.sq_jumps.proofs.FallApplied.{fall_applied}
use Rattle.sq_jumps.proofs.LoneFalls.{lone_fall_rewritten}
use Rattle.sq_lookup.proofs.Adding.{among_listed}
use Rattle.sq_jumps.proofs.LoneApart.{bypassed_rules, first, aside, term_still, rest_together}

jump_term : (row : Row) (g : Graph) (n : ℕ) (d : IsBypassable row g n) → term_of g n ≡ Some (Jump d.to)
jump_term row g n d = lone_term g n d.to (lone g n d.to d.jump)

-- the rules hold once the uses went
pub together_rules : (row : Row) (g : Graph) (blocks : List ℕ) → IsGraph g → GoTogether row g blocks → IsGraph (redirected_each blocks g)
together_rules row g blocks rules t = retargeted_rules (goes_to g blocks) g rules there
  where
    there : (k : ℕ) → HasBlock g k → HasBlock g (goes_to g blocks k)
    there k has =
        elim (cases_Bool (is_among blocks k)) [
          | inl listed ↦
              let d = t.go k (sym (among_listed blocks k) ∙ listed) in
              rw listed (subst (λ o. HasBlock g (named_by k o)) (sym (jump_term row g k d)) (jump_there g k d.to rules d.jump))
          | inr other ↦ rw other has
        ]

-- THE FIRST GOES

module _ (row : Row) (g : Graph) (gone : ℕ) (rest : List ℕ) (rules : IsGraph g) (t : GoTogether row g (gone ∷ rest)) where
  abbrev to : ℕ
  to = (first row g gone rest rules t).to

  abbrev h : Graph
  h = without_jump g gone to

  gone_goes : goes_to h rest (swapped gone to gone) ≡ goes_to g (gone ∷ rest) gone
  gone_goes =
      let itself : (gone == gone) ≡ true = eq-eqb gone gone refl in
      let stays : is_among rest to ≡ false = among_listed rest to ∙ (or_parts (nat_eq to gone) (is_listed rest to) (aside row g gone rest rules t)).1 in
      ap (λ b. goes_to h rest (if b then to else gone)) itself
      ∙ ap (λ b. if b then named_by to (term_of h to) else to) stays
      ∙ sym (ap (λ b. if b || is_among rest gone then named_by gone (term_of g gone) else gone) itself ∙ ap (named_by gone) (jump_term row g gone (first row g gone rest rules t)))

  each_goes : (n : ℕ) → goes_to h rest (swapped gone to n) ≡ goes_to g (gone ∷ rest) n
  each_goes n =
      elim (cases_Bool (gone == n)) [
        | inl here ↦ subst (λ k. goes_to h rest (swapped gone to k) ≡ goes_to g (gone ∷ rest) k) (eqb-true gone n here) gone_goes
        | inr apart ↦
            let other : (n == gone) ≡ false = ne_eqb n gone (λ same. eqb-false gone n apart (sym same)) in
            ap (λ b. goes_to h rest (if b then to else n)) other
            ∙ elim (cases_Bool (is_among rest n)) [
              | inl listed ↦ rw (apart, listed) (ap (named_by n) (term_still row g gone rest rules t n (sym (among_listed rest n) ∙ listed)))
              | inr none ↦ rw (apart, none) refl
            ]
      ]

  -- those that are left give their uses away before it goes, or after
  first_goes : without_block (redirected_each (gone ∷ rest) g) gone ≡ redirected_each rest h
  first_goes =
      ap (λ f. without_block (retargeted f g) gone) (sym (fun_ext each_goes))
      ∙ ap (λ k. without_block k gone) (sym (retargeted_twice (swapped gone to) (goes_to h rest) g))
      ∙ without-retargeted (goes_to h rest) (redirected g gone to) gone

-- ONE REWRITE

-- each takes a word
one_word : (row : Row) (g : Graph) (n : ℕ) → IsGraph g → IsBypassable row g n → 1 ≤ words_of g
one_word row g n rules d =
    elim d.way [
      | inl falls ↦ omega (arith, (fall_applied g n rules (record { to = d.to; jump = jump_term row g n d; next = falls.1 })).words)
      | inr leads ↦ omega (arith, (detour_applied g n rules leads.1.detour).words)
    ]

-- by its row it goes
bypass_rewritten : (row : Row) (g h : Graph) (n : ℕ) (before after : Savings) → IsGraph g → IsCanonical g → (d : IsBypassable row g n) → h ≡ without_jump g n d.to → after ≡ counted before row 1 → IsRewritten IsCandidate described before after g h
bypass_rewritten row g h n before after rules canonical d is counts =
    elim d.way [
      | inl falls ↦ lone_fall_rewritten g n d.to rules d.jump falls.1 h before after canonical is (counts ∙ ap (λ r. counted before r 1) falls.0)
      | inr leads ↦
          detour_rewritten g h n before after rules canonical leads.1.detour leads.1.is_named (is ∙ sym (detour_made g n d.to d.jump))
          (counts ∙ ap (λ r. counted before r 1) leads.0)
    ]

-- ALL GO

-- some went by one rewrite each, and the others have given their uses away
pub record Goes (row : Row) (old now : Graph) (before after : Savings) (rest : List ℕ) : Type 0 where
  pub left : Graph
  pub rules : IsGraph left
  pub rewritten : IsRewritten IsCandidate described before after old left
  pub together : GoTogether row left rest
  pub is : now ≡ redirected_each rest left

pub none_gone : (row : Row) (g now : Graph) (before : Savings) (blocks : List ℕ) → IsGraph g → IsCanonical g → GoTogether row g blocks → now ≡ redirected_each blocks g → Goes row g now before before blocks
none_gone row g now before blocks rules canonical t is =
    record { left = g; rules = rules; rewritten = rewritten_itself IsCandidate described before g canonical; together = t; is = is }

module _ (row : Row) (old now : Graph) (before after : Savings) (n : ℕ) (rest : List ℕ) (goes : Goes row old now before after (n ∷ rest)) where
  abbrev g : Graph
  g = goes.left

  abbrev d : IsBypassable row g n
  d = first row g n rest goes.rules goes.together

  abbrev f : ℕ → ℕ
  f = goes_to g (n ∷ rest)

  abbrev next : Graph
  next = without_jump g n d.to

  pub there : HasBlock now n
  there =
      subst (λ (k : Graph). HasBlock k n) (sym goes.is)
      (ap is_some (block_of-retargeted f g.blocks n ∙ ap (option_map (retargeted_block f)) (lone g n d.to d.jump).found))

  next_is : without_block now n ≡ redirected_each rest next
  next_is = ap (λ k. without_block k n) goes.is ∙ first_goes row g n rest goes.rules goes.together

  next_rules : IsGraph next
  next_rules = bypassed_rules row g n goes.rules d

  next_together : GoTogether row next rest
  next_together = rest_together row g n rest goes.rules goes.together

  pub rules_left : IsGraph (without_block now n)
  rules_left = subst IsGraph (sym next_is) (together_rules row next rest next_rules next_together)

  -- it can be counted
  pub fits : words_saved after + 1 ≤ words_of old + words_saved before
  fits = omega (arith, one_word row g n goes.rules d, goes.rewritten.total, goes.rewritten.lighter.words)

  pub one_gone : (more : Savings) (new : Graph) → more ≡ counted after row 1 → new ≡ without_block now n → Goes row old new before more rest
  one_gone more new counts is =
      let one = bypass_rewritten row g next n after more goes.rules goes.rewritten.lighter.canonical d refl counts in
      record {
        left = next;
        rules = next_rules;
        rewritten = rewritten_through IsCandidate described before after more old g next goes.rewritten one;
        together = next_together;
        is = is ∙ next_is;
      }

pub all_gone : (row : Row) (old now : Graph) (before after : Savings) → Goes row old now before after [] → IsRewritten IsCandidate described before after old now
all_gone row old now before after goes = subst (IsRewritten IsCandidate described before after old) (sym (goes.is ∙ retargeted_same goes.left)) goes.rewritten
