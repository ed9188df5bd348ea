-- A sweep of row O3: what one rewrite adds to those before.
use Rattle.std.proofs.Common.{◌≡◌, ◌≢◌, ◌≤◌, ◌<◌, ℕ, ◌+◌, cond, nat_eq, List, length, get_or, slice_set, replicate, Option, Some, None, ⊎_elim, refl, sym, ap, ◌∙◌, subst, arith}
use Rattle.std.specs.List.{slice_get}
use Rattle.std.proofs.lemmas.Bool.{cases_eq}
use Rattle.std.proofs.lemmas.List.{length-replicate}
use Rattle.sq_num.specs.declared.packed.Savings.{Savings}
use Rattle.sq_graph.specs.declared.fates.Fate.{Fate}
use Rattle.sq_graph.specs.declared.fates.Fate.TheVariants.{Stays, Joins}
use Rattle.sq_graph.specs.Graph.{Graph}
use Rattle.sq_graph.specs.Blocks.{HasProcedure, body_of}
use Rattle.sq_graph.specs.Fates.{number_among, settled, AreFates}
use Rattle.sq_graph.specs.Leaders.{IsCanonical}
use Rattle.sq_graph.specs.Rules.{IsGraph}
use Rattle.sq_pass.specs.declared.cut.Row.TheVariants.{O3}
use Rattle.sq_pass.specs.Counted.{counted}
use Rattle.sq_pass.specs.Rewrites.{IsRewritten}
use Rattle.sq_pass.proofs.Rewriting.{rewritten_itself, rewritten_through}
use Rattle.sq_outline.specs.Candidates.{IsCandidate, described}
use Rattle.sq_outline.specs.Recalled.{AreDoubles, without_double, recall_cut}
use Rattle.sq_outline.specs.RecalledNumbers.{AreBodyNumbers}
use Rattle.sq_outline.proofs.Ranks.{got_fate, set_here, set_apart, length_set, all_stay, none_joins}
use Rattle.sq_outline.proofs.RecallNumbers.{double_found}
use Rattle.sq_outline.proofs.Recalling.{left_rules, double_applied}
use Rattle.sq_outline.proofs.SettledOnce.{IsNext, settled_none, body_same, joins_once, doubles_still}
use Rattle.sq_outline.proofs.Sweeping.{applied_rewritten}
use Rattle.sq_outline.proofs.Undone.{double_canonical}

-- ONE REWRITE

recall_rewritten : (g : Graph) (stays goes : ℕ) → IsGraph g → AreDoubles g stays goes → (before after : Savings) → IsCanonical g → after ≡ counted before O3 (length (body_of g goes) + 1) → IsRewritten IsCandidate described before after g (without_double g stays goes)
recall_rewritten g stays goes rules doubles before after canonical counts =
    applied_rewritten g (without_double g stays goes) (recall_cut g stays goes) before after (record { stays = stays; goes = goes; doubles = doubles; is = refl })
    (double_applied g stays goes rules doubles) (double_canonical g stays goes doubles canonical) counts

-- MANY

-- the procedures below p have their fates, and a table tells the first of each number
pub record Recalls (g : Graph) (numbers : List (Option ℕ)) (p : ℕ) (firsts : ℕ → Option ℕ) (fates : List Fate) (before after : Savings) : Type 0 where
  pub many : length fates ≡ length g.procedures
  pub later : (q : ℕ) → p ≤ q → q < length fates → slice_get fates q ≡ Some Stays
  pub joined : (q o : ℕ) → slice_get fates q ≡ Some (Joins o) → (o < p) × (slice_get fates o ≡ Some Stays)
  pub first : (n o : ℕ) → firsts n ≡ Some o → (o < p) × (slice_get fates o ≡ Some Stays) × (slice_get numbers o ≡ Some (Some n))
  pub rules : IsGraph (settled fates g)
  pub rewritten : IsRewritten IsCandidate described before after g (settled fates g)

pub recalls_none : (g : Graph) (numbers : List (Option ℕ)) (firsts : ℕ → Option ℕ) (savings : Savings) → IsGraph g → IsCanonical g → ((n : ℕ) → firsts n ≡ None) → Recalls g numbers 0 firsts (replicate (length g.procedures) Stays) savings savings
recalls_none g numbers firsts savings rules canonical empty =
    let same = settled_none g rules in
    record {
      many = length-replicate (length g.procedures) Stays;
      later = λ q above below. all_stay (length g.procedures) q (omega (arith, below, length-replicate (length g.procedures) Stays));
      joined = λ q o is. absurd (none_joins (length g.procedures) q o is);
      first = λ n o is. absurd (let e = empty n in cc);
      rules = subst IsGraph (sym same) rules;
      rewritten = subst (IsRewritten IsCandidate described savings savings g) (sym same) (rewritten_itself IsCandidate described savings g canonical);
    }

module _ (g : Graph) (numbers : List (Option ℕ)) (p : ℕ) (firsts : ℕ → Option ℕ) (fates : List Fate) (before after : Savings) (recalls : Recalls g numbers p firsts fates before after) where
  pub recalls_skip : Recalls g numbers (p + 1) firsts fates before after
  recalls_skip = record {
    many = recalls.many;
    later = λ q above below. recalls.later q (omega (arith, above)) below;
    joined = λ q o is. let j = recalls.joined q o is in (omega (arith, j.0), j.1);
    first = λ n o is. let f = recalls.first n o is in (omega (arith, f.0), f.1, f.2);
    rules = recalls.rules;
    rewritten = recalls.rewritten;
  }

  module _ (there : HasProcedure g p) where
    here : slice_get fates p ≡ Some Stays
    here = recalls.later p (omega arith) (omega (arith, there, recalls.many))

    -- the first of its number stays
    pub recalls_first : (n : ℕ) (new : ℕ → Option ℕ) → slice_get numbers p ≡ Some (Some n) → ((m : ℕ) → new m ≡ cond (nat_eq n m) (Some p) (firsts m)) → Recalls g numbers (p + 1) new fates before after
    recalls_first n new number updated = record {
      many = recalls.many;
      later = λ q above below. recalls.later q (omega (arith, above)) below;
      joined = λ q o is. let j = recalls.joined q o is in (omega (arith, j.0), j.1);
      first = λ m o is.
          ⊎_elim
          (λ same.
          let now : new m ≡ Some p = grind (arith, updated m) in
          let mine : o ≡ p = cc in
          (omega (arith, mine), ap (slice_get fates) mine ∙ here, ap (slice_get numbers) mine ∙ number ∙ ap (λ k. Some (Some k)) same))
          (λ apart.
          let old : new m ≡ firsts m = grind (arith, updated m) in
          let f = recalls.first m o (sym old ∙ is) in
          (omega (arith, f.0), f.1, f.2))
          (cases_eq n m);
      rules = recalls.rules;
      rewritten = recalls.rewritten;
    }

    module _ (numbered : AreBodyNumbers g numbers) (rules : IsGraph g) (n o : ℕ) (number : slice_get numbers p ≡ Some (Some n)) (known : firsts n ≡ Some o) where
      earlier : o < p
      earlier = (recalls.first n o known).0

      o_stays : slice_get fates o ≡ Some Stays
      o_stays = (recalls.first n o known).1

      apart : o ≢ p
      apart = let e = earlier in omega arith

      next : IsNext g fates p
      next = record {
        many = recalls.many;
        here = here;
        joined = λ q t is. let j = recalls.joined q t is in (j.1, let l = j.0 in omega arith);
      }

      doubles : AreDoubles (settled fates g) (number_among fates o) (number_among fates p)
      doubles = doubles_still g rules fates p next o o_stays apart (double_found g numbers o p n numbered apart (recalls.first n o known).2 number)

      is_joined : settled (slice_set fates p (Joins o)) g ≡ without_double (settled fates g) (number_among fates o) (number_among fates p)
      is_joined = joins_once g rules fates p next o o_stays apart

      still_stays : (t : ℕ) → t < p → slice_get fates t ≡ Some Stays → slice_get (slice_set fates p (Joins o)) t ≡ Some Stays
      still_stays t below stay = set_apart fates p t (Joins o) (omega (arith, below)) ∙ stay

      -- a later one of its number joins the first
      pub recalls_join : (after' : Savings) → after' ≡ counted after O3 (length (body_of g p) + 1) → Recalls g numbers (p + 1) firsts (slice_set fates p (Joins o)) before after'
      recalls_join after' counts =
          let body = body_same g rules fates p next p here in
          record {
            many = length_set fates p (Joins o) ∙ recalls.many;
            later = λ q above below. set_apart fates p q (Joins o) (omega (arith, above)) ∙ recalls.later q (omega (arith, above)) (omega (arith, below, length_set fates p (Joins o)));
            joined = λ q t is.
                ⊎_elim
                (λ same.
                let mine : Joins o ≡ Joins t = sym (set_here fates p (Joins o) (omega (arith, there, recalls.many))) ∙ got_joins q t same is in
                let target : t ≡ o = cc in
                (omega (arith, target, earlier), ap (slice_get (slice_set fates p (Joins o))) target ∙ still_stays o earlier o_stays))
                (λ other.
                let j = recalls.joined q t (sym (set_apart fates p q (Joins o) other) ∙ is) in
                (omega (arith, j.0), still_stays t j.0 j.1))
                (cases_eq q p);
            first = λ m t is. let f = recalls.first m t is in (omega (arith, f.0), still_stays t f.0 f.1, f.2);
            rules = subst IsGraph (sym is_joined) (left_rules (settled fates g) (number_among fates o) (number_among fates p) recalls.rules doubles);
            rewritten =
                rewritten_through IsCandidate described before after after' g (settled fates g) (settled (slice_set fates p (Joins o)) g) recalls.rewritten
                (subst (IsRewritten IsCandidate described after after' (settled fates g)) (sym is_joined)
                (recall_rewritten (settled fates g) (number_among fates o) (number_among fates p) recalls.rules doubles after after' recalls.rewritten.lighter.canonical
                (counts ∙ ap (λ items. counted after O3 (length items + 1)) (sym body))));
          }
        where
          got_joins : (q t : ℕ) → q ≡ p → slice_get (slice_set fates p (Joins o)) q ≡ Some (Joins t) → get_or (slice_set fates p (Joins o)) p Stays ≡ Joins t
          got_joins q t same is = got_fate (slice_set fates p (Joins o)) p (Joins t) (ap (slice_get (slice_set fates p (Joins o))) (sym same) ∙ is)

pub recalls_fates : (g : Graph) (numbers : List (Option ℕ)) (p : ℕ) (firsts : ℕ → Option ℕ) (fates : List Fate) (before after : Savings) → Recalls g numbers p firsts fates before after → p ≤ length g.procedures → AreFates fates g
recalls_fates g numbers p firsts fates before after recalls below =
    record { many = recalls.many; joined = λ q o is. let j = recalls.joined q o is in omega (arith, j.0, below) }
