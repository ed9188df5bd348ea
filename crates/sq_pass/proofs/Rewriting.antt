-- Rewrites by candidates of passes, one after another. `is_candidate` and `described` are those of a pass.
use Rattle.std.proofs.Common.{◌≡◌, ℕ, ◌+◌, ◌<◌, ◌≤◌, List, [], ◌∷◌, ◌++◌, refl, sym, ap, ◌∙◌, subst, arith}
use Rattle.sq_num.specs.declared.packed.Savings.{Savings}
use Rattle.sq_num.specs.Saved.{words_saved}
use Rattle.sq_graph.specs.Graph.{Graph}
use Rattle.sq_graph.specs.Alike.{AreAlike}
use Rattle.sq_graph.specs.Canonical.{canonical_of}
use Rattle.sq_graph.specs.Leaders.{IsCanonical}
use Rattle.sq_graph.specs.Words.{words_of}
use Rattle.sq_graph.proofs.AlikeGraphs.{alike_back, alike_through}
use Rattle.sq_graph.proofs.AlikeCanonical.{alike_canonical}
use Rattle.sq_graph.proofs.CanonicalLaws.{canonical_is_graph}
use Rattle.law_follow.proofs.Following.{graph_follows_itself, graph_follows_through}
use Rattle.sq_pass.specs.declared.cut.Cut.{Cut}
use Rattle.sq_pass.specs.declared.cut.Row.{Row}
use Rattle.sq_pass.specs.declared.cut.Row.TheVariants.{U, J1, J2, J3, C, T, O1, O2, O3, O4, W, V, L}
use Rattle.sq_pass.specs.declared.rewrite.Rewrite.{Rewrite}
use Rattle.sq_pass.specs.Applied.{IsApplied}
use Rattle.sq_pass.specs.Counted.{counted, counted_all}
use Rattle.sq_pass.specs.Rewrites.{IsRewrite, AreSteps, IsLighter, IsRewrittenBy, IsRewritten}

-- WHAT BECOMES OF A GRAPH

pub lighter_itself : (g : Graph) → IsCanonical g → IsLighter 0 g g
lighter_itself g canonical =
    record { follows = graph_follows_itself g; sound = λ s. s; reach = λ r. r; canonical = canonical; words = omega arith }

pub lighter_through : (first second : ℕ) (old mid new : Graph) → IsLighter first old mid → IsLighter second mid new → IsLighter (first + second) old new
lighter_through first second old mid new a b = record {
  follows = graph_follows_through old mid new a.follows b.follows;
  sound = λ s. b.sound (a.sound s);
  reach = λ r. b.reach (a.reach r);
  canonical = b.canonical;
  words = omega (arith, a.words, b.words);
}

-- ONE REWRITE

-- a candidate is applied, and what is left is made canonical (which saves nothing)
pub rewrite_made : (is_candidate : Graph → Cut → Type 0) (described : Graph → Cut → Graph) (cut : Cut) (old mid new : Graph) → is_candidate old cut → IsApplied cut.saving (described old cut) old mid → new ≡ canonical_of mid → IsRewrite is_candidate described (record { row = cut.row; saving = cut.saving }) old new
rewrite_made is_candidate described cut old mid new candidate applied made = record {
  cut = cut;
  candidate = candidate;
  row = refl;
  saving = refl;
  is = subst (AreAlike (canonical_of (described old cut))) (sym made) (alike_back (canonical_of mid) (canonical_of (described old cut)) (canonical_is_graph mid applied.rules) (alike_canonical mid (described old cut) applied.rules applied.described));
}

pub lighter_made : (saving : ℕ) (described old mid new : Graph) → IsApplied saving described old mid → IsLighter 0 mid new → IsLighter saving old new
lighter_made saving described old mid new applied made = record {
  follows = graph_follows_through old mid new applied.follows made.follows;
  sound = λ s. made.sound (applied.sound s);
  reach = λ r. made.reach (applied.reach r);
  canonical = made.canonical;
  words = omega (arith, applied.words, made.words);
}

-- WHAT IS COUNTED

counted_total : (s : Savings) (row : Row) (n : ℕ) → words_saved (counted s row n) ≡ words_saved s + n
counted_total s U n = omega arith
counted_total s J1 n = omega arith
counted_total s J2 n = omega arith
counted_total s J3 n = omega arith
counted_total s C n = omega arith
counted_total s T n = omega arith
counted_total s O1 n = omega arith
counted_total s O2 n = omega arith
counted_total s O3 n = omega arith
counted_total s O4 n = omega arith
counted_total s W n = omega arith
counted_total s V n = omega arith
counted_total s L n = omega arith

counted_all-append : (s : Savings) (front back : List Rewrite) → counted_all s (front ++ back) ≡ counted_all (counted_all s front) back
counted_all-append s [] back = refl
counted_all-append s (done ∷ front) back = counted_all-append (counted s done.row done.saving) front back

counted_all-more : (s : Savings) (rewrites : List Rewrite) → words_saved s ≤ words_saved (counted_all s rewrites)
counted_all-more s [] = omega arith
counted_all-more s (done ∷ rest) =
    omega (arith, counted_total s done.row done.saving, counted_all-more (counted s done.row done.saving) rest)

-- LISTS OF REWRITES, each a step of this kind
module _ (step : Rewrite → Graph → Graph → Type 0) where
  are_steps_through : (front back : List Rewrite) (old mid new : Graph) → AreSteps step front old mid → AreSteps step back mid new → AreSteps step (front ++ back) old new
  are_steps_through [] back old mid new same after = subst (λ g. AreSteps step back g new) (sym same) after
  are_steps_through (done ∷ front) back old mid new before after = (before.0, before.1, are_steps_through front back before.0 mid new before.2 after)

  -- no rewrite
  pub stepped_itself : (savings : Savings) (g : Graph) → IsCanonical g → IsRewrittenBy step savings savings g g
  stepped_itself savings g canonical = record {
    rewrites = [];
    are = refl;
    counted = refl;
    saved = 0;
    total = omega arith;
    lighter = lighter_itself g canonical;
  }

  -- one rewrite
  pub stepped_once : (before : Savings) (done : Rewrite) (old new : Graph) → step done old new → IsLighter done.saving old new → IsRewrittenBy step before (counted before done.row done.saving) old new
  stepped_once before done old new made lighter = record {
    rewrites = done ∷ [];
    are = (new, made, refl);
    counted = refl;
    saved = done.saving;
    total = counted_total before done.row done.saving;
    lighter = lighter;
  }

  -- rewrites, and then more of them
  pub stepped_through : (before at after : Savings) (old mid new : Graph) → IsRewrittenBy step before at old mid → IsRewrittenBy step at after mid new → IsRewrittenBy step before after old new
  stepped_through before at after old mid new a b = record {
    rewrites = a.rewrites ++ b.rewrites;
    are = are_steps_through a.rewrites b.rewrites old mid new a.are b.are;
    counted = b.counted ∙ ap (λ s. counted_all s b.rewrites) a.counted ∙ sym (counted_all-append before a.rewrites b.rewrites);
    saved = a.saved + b.saved;
    total = omega (arith, a.total, b.total);
    lighter = lighter_through a.saved b.saved old mid new a.lighter b.lighter;
  }

  -- rewrites, and then one more
  pub stepped_on : (before at after : Savings) (done : Rewrite) (old mid new : Graph) → IsRewrittenBy step before at old mid → step done mid new → IsLighter done.saving mid new → after ≡ counted at done.row done.saving → IsRewrittenBy step before after old new
  stepped_on before at after done old mid new rewritten made lighter is =
      subst (λ s. IsRewrittenBy step before s old new) (sym is) (stepped_through before at (counted at done.row done.saving) old mid new rewritten (stepped_once at done mid new made lighter))

-- what is a step of one kind is one of a wider kind
module _ (step wider : Rewrite → Graph → Graph → Type 0) (each : (done : Rewrite) (old new : Graph) → step done old new → wider done old new) where
  are_steps_wider : (rewrites : List Rewrite) (old new : Graph) → AreSteps step rewrites old new → AreSteps wider rewrites old new
  are_steps_wider [] old new same = same
  are_steps_wider (done ∷ rest) old new (next, made, others) = (next, each done old next made, are_steps_wider rest next new others)

  pub stepped_wider : (before after : Savings) (old new : Graph) → IsRewrittenBy step before after old new → IsRewrittenBy wider before after old new
  stepped_wider before after old new a = record {
    rewrites = a.rewrites;
    are = are_steps_wider a.rewrites old new a.are;
    counted = a.counted;
    saved = a.saved;
    total = a.total;
    lighter = a.lighter;
  }

-- the same of the rewrites by the candidates of one pass
module _ (is_candidate : Graph → Cut → Type 0) (described : Graph → Cut → Graph) where
  pub rewritten_itself : (savings : Savings) (g : Graph) → IsCanonical g → IsRewritten is_candidate described savings savings g g
  rewritten_itself = stepped_itself (IsRewrite is_candidate described)

  pub rewritten_once : (before : Savings) (done : Rewrite) (old new : Graph) → IsRewrite is_candidate described done old new → IsLighter done.saving old new → IsRewritten is_candidate described before (counted before done.row done.saving) old new
  rewritten_once = stepped_once (IsRewrite is_candidate described)

  pub rewritten_through : (before at after : Savings) (old mid new : Graph) → IsRewritten is_candidate described before at old mid → IsRewritten is_candidate described at after mid new → IsRewritten is_candidate described before after old new
  rewritten_through = stepped_through (IsRewrite is_candidate described)

  pub rewritten_on : (before at after : Savings) (done : Rewrite) (old mid new : Graph) → IsRewritten is_candidate described before at old mid → IsRewrite is_candidate described done mid new → IsLighter done.saving mid new → after ≡ counted at done.row done.saving → IsRewritten is_candidate described before after old new
  rewritten_on = stepped_on (IsRewrite is_candidate described)

-- each candidate saves a word: where the graph lost none, nothing was rewritten
pub rewritten_none : (is_candidate : Graph → Cut → Type 0) (described : Graph → Cut → Graph) → ((g : Graph) (cut : Cut) → is_candidate g cut → 1 ≤ cut.saving) → (before after : Savings) (old new : Graph) → IsRewritten is_candidate described before after old new → words_of new ≡ words_of old → new ≡ old
rewritten_none is_candidate described saves before after old new rewritten words =
    go rewritten.rewrites rewritten.are rewritten.counted
  where
    saved_none : words_saved after ≡ words_saved before
    saved_none = omega (arith, rewritten.total, rewritten.lighter.words, words)

    go : (rewrites : List Rewrite) → AreSteps (IsRewrite is_candidate described) rewrites old new → after ≡ counted_all before rewrites → new ≡ old
    go [] same counts = sym same
    go (done ∷ rest) made counts =
        let one = saves old made.1.cut made.1.candidate in
        let saving = made.1.saving in
        let first = counted_total before done.row done.saving in
        let others = counted_all-more (counted before done.row done.saving) rest in
        let all = ap words_saved counts in
        absurd (omega (arith, one, saving, first, others, all, saved_none))

-- an alike graph does as well as the last of a list of rewrites, if there is a rewrite
module _ (is_candidate : Graph → Cut → Type 0) (described : Graph → Cut → Graph) (last named : Graph) (alike : AreAlike last named) where
  rewrites_named : (done : Rewrite) (rest : List Rewrite) (old : Graph) → AreSteps (IsRewrite is_candidate described) (done ∷ rest) old last → AreSteps (IsRewrite is_candidate described) (done ∷ rest) old named
  rewrites_named done [] old (next, rewrite, same) = (named, other (subst (IsRewrite is_candidate described done old) same rewrite), refl)
    where
      other : IsRewrite is_candidate described done old last → IsRewrite is_candidate described done old named
      other r = record {
        cut = r.cut;
        candidate = r.candidate;
        row = r.row;
        saving = r.saving;
        is = alike_through (canonical_of (described old r.cut)) last named r.is alike;
      }
  rewrites_named done (more ∷ rest) old (next, rewrite, others) = (next, rewrite, rewrites_named more rest next others)

  -- where words were lost
  pub rewritten_named : (before after : Savings) (old : Graph) → IsRewritten is_candidate described before after old last → words_of last < words_of old → IsLighter 0 last named → IsRewritten is_candidate described before after old named
  rewritten_named before after old r fewer kept = record {
    rewrites = r.rewrites;
    are = go r.rewrites r.are;
    counted = r.counted;
    saved = r.saved;
    total = r.total;
    lighter = subst (λ n. IsLighter n old named) (omega arith) (lighter_through r.saved 0 old last named r.lighter kept);
  }
    where
      go : (rewrites : List Rewrite) → AreSteps (IsRewrite is_candidate described) rewrites old last → AreSteps (IsRewrite is_candidate described) rewrites old named
      go [] same = absurd (let few = ap words_of same in omega (arith, few, fewer))
      go (done ∷ rest) steps = rewrites_named done rest old steps
