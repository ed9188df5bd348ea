-- The items at several places are taken one after another, from the last place back.
use Rattle.std.proofs.Common.{◌≡◌, ℕ, ◌+◌, ◌-◌, ◌<◌, ◌≤◌, List, ◌∷◌, take, reverse, length, get_or, sym, ap, ◌∙◌, subst, arith}
use Rattle.std.specs.List.{All}
use Rattle.std.proofs.lemmas.List.{take_all}
use Rattle.std.proofs.lemmas.List.Elements.{All-head, All-tail}
use Rattle.sq_graph.specs.declared.calls.ItemFate.{ItemFate}
use Rattle.sq_graph.specs.Graph.{Graph}
use Rattle.sq_graph.specs.Calls.{with_span}
use Rattle.sq_outline.specs.declared.sites.Site.{Site}
use Rattle.sq_outline.specs.declared.windows.taken.Taken.{Taken}
use Rattle.sq_outline.specs.Sites.{AreApart}
use Rattle.sq_outline.specs.WindowsTaken.{IsFreeSite, IsTakenOf, index_of, with_spans}
use Rattle.sq_outline.proofs.Early.{last_left}
use Rattle.sq_outline.proofs.WindowsSites.{all_still}
use Rattle.sq_outline.proofs.WindowsTakenOf.{takes_one, spans_one}

-- the places that are left once so many were taken
abbrev pub left : List Site → ℕ → List Site
left sites k = reverse (take (length sites - k) sites)

pub record AreTaking (g : Graph) (n procedure : ℕ) (sites : List Site) (first : List ItemFate) (k : ℕ) (taken : Taken) : Type 0 where
  pub is_taken : IsTakenOf g taken
  pub free : All (IsFreeSite g taken.fates.items n) (left sites k)
  pub apart : AreApart n (left sites k)
  pub same : with_spans g n procedure (reverse sites) first ≡ with_spans g n procedure (left sites k) taken.fates.items

module _ (g : Graph) (n procedure : ℕ) (some : 1 ≤ n) (sites : List Site) (first : List ItemFate) where
  pub taking_starts : (taken : Taken) → IsTakenOf g taken → first ≡ taken.fates.items → All (IsFreeSite g first n) (reverse sites) → AreApart n (reverse sites) → AreTaking g n procedure sites first 0 taken
  taking_starts taken is_taken same free apart =
      let all : reverse sites ≡ left sites 0 = ap (λ (ss : List Site). reverse ss) (sym (take_all (length sites - 0) sites (omega arith))) in
      record {
        is_taken = is_taken;
        free = subst (λ fs. All (IsFreeSite g fs n) (left sites 0)) same (subst (All (IsFreeSite g first n)) all free);
        apart = subst (AreApart n) all apart;
        same = ap (λ ss. with_spans g n procedure ss first) all ∙ ap (λ fs. with_spans g n procedure (left sites 0) fs) same;
      }

  module _ (k : ℕ) (d : Site) (l : k < length sites) (old : Taken) (taking : AreTaking g n procedure sites first k old) where
    abbrev site : Site
    site = get_or sites (length sites - 1 - k) d

    free : All (IsFreeSite g old.fates.items n) (site ∷ left sites (k + 1))
    free = subst (All (IsFreeSite g old.fates.items n)) (last_left sites k d l) taking.free

    apart : AreApart n (site ∷ left sites (k + 1))
    apart = subst (AreApart n) (last_left sites k d l) taking.apart

    pub taking_here : IsFreeSite g old.fates.items n site
    taking_here = All-head (IsFreeSite g old.fates.items n) site (left sites (k + 1)) free

    pub taking_next : (new : Taken) → new.fates.items ≡ with_span old.fates.items (index_of old site.block site.at) n procedure → new.ahead ≡ old.ahead → AreTaking g n procedure sites first (k + 1) new
    taking_next new fates ahead =
        let is = fates ∙ ap (λ i. with_span old.fates.items i n procedure) (spans_one g old taking.is_taken site taking_here.there) in
        let others = All-tail (IsFreeSite g old.fates.items n) site (left sites (k + 1)) free in
        record {
          is_taken = takes_one g old taking.is_taken new n site some taking_here procedure fates ahead;
          free = subst (λ fs. All (IsFreeSite g fs n) (left sites (k + 1))) (sym is) (all_still g n procedure some old.fates.items taking.is_taken.fates site taking_here (left sites (k + 1)) apart.0 others);
          apart = apart.1;
          same = taking.same ∙ ap (λ ss. with_spans g n procedure ss old.fates.items) (last_left sites k d l) ∙ ap (λ fs. with_spans g n procedure (left sites (k + 1)) fs) (sym is);
        }

  pub taking_ends : (k : ℕ) (taken : Taken) → length sites ≤ k → AreTaking g n procedure sites first k taken → with_spans g n procedure (reverse sites) first ≡ taken.fates.items
  taking_ends k taken l taking =
      let none : length sites - k ≡ 0 = omega (arith, l) in
      taking.same ∙ ap (λ m. with_spans g n procedure (reverse (take m sites)) taken.fates.items) none
