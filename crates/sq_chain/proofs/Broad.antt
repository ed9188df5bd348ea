-- A chain that has moved, with the Branches of the least set widened then, and the graph made canonical.
use Rattle.std.proofs.Common.{◌≡◌, ℕ, ◌<◌, Bool, true, refl, sym, ap, ◌∙◌, subst, arith}
use Rattle.sq_graph.specs.declared.item.Term.TheVariants.{Branch}
use Rattle.sq_graph.specs.Canonical.{canonical_of}
use Rattle.sq_graph.specs.Graph.{Graph}
use Rattle.sq_graph.specs.Blocks.{HasBlock}
use Rattle.sq_graph.specs.Places.{IsInReach}
use Rattle.sq_graph.specs.Rules.{IsGraph}
use Rattle.sq_graph.specs.Soundness.{IsSound}
use Rattle.sq_graph.specs.Words.{words_of}
use Rattle.sq_graph.proofs.CanonicalReach.{canonical_in_reach}
use Rattle.law_follow.specs.Follows.{Follows}
use Rattle.sq_lookup.proofs.Targets.{has_term}
use Rattle.sq_chain.specs.Candidates.{IsMoved, IsSwept}
use Rattle.sq_chain.specs.Least.{least}
use Rattle.sq_chain.specs.Moves.{IsMovable, carried, fallen}
use Rattle.sq_chain.specs.Settled.{is_wide, AreWide, IsLeastWide, none_wide, Widens}
use Rattle.sq_chain.specs.Widening.{IsWidened}
use Rattle.sq_chain.specs.declared.outlook.Outlook.{Outlook}
use Rattle.sq_chain.specs.declared.outlook.Outlook.TheVariants.{Near, Wide as Few, Still, Unsure}
use Rattle.sq_chain.specs.declared.shift.Wide.{Wide}
use Rattle.sq_chain.proofs.AlikeWidened.{alike_widened, widened_keeps}
use Rattle.sq_chain.proofs.Carried.{carried_words, carried_jumps}
use Rattle.sq_chain.proofs.Fallen.{Keeps, keeps_through, fallen_keeps}
use Rattle.sq_chain.proofs.Found.{wide_count}
use Rattle.sq_chain.proofs.Lighter.{falls_fewer, none_least}
use Rattle.sq_chain.proofs.Moved.{carried_keeps, is_moved}
use Rattle.sq_chain.proofs.Rounds.{count_of, least_is_least}
use Rattle.sq_chain.proofs.Widenings.{wide_words, wide_near}

keeps_fallen : (g : Graph) (from to : ℕ) → IsGraph g → IsMovable g from to → Keeps g (fallen (carried g from to))
keeps_fallen g from to rules movable =
    let keeps = carried_keeps g from to rules movable in
    keeps_through g (carried g from to) (fallen (carried g from to)) keeps (fallen_keeps (carried g from to) keeps.rules)

-- WHICH ARE WIDENED

-- none where each reaches
pub near_least : (g : Graph) (from to : ℕ) → IsGraph g → IsMovable g from to → IsInReach (fallen (carried g from to)) → IsLeastWide g (fallen (carried g from to)) none_wide
near_least g from to rules movable near = record {
  same = λ n. sym (none_least (fallen (carried g from to)) (keeps_fallen g from to rules movable).rules near n);
  are = record { branches = λ n e. absurd (cc); apart = λ n e. absurd (cc) };
  fewer = omega (arith, falls_fewer (carried g from to) from (carried_jumps g from to rules movable), carried_words g from to rules movable);
}

-- by what a move comes to
pub least_by : (g h : Graph) (outlook : Outlook) (wide : Wide) → Widens outlook wide → (outlook ≡ Near → IsLeastWide g h none_wide) → ((few : Wide) → outlook ≡ Few few → IsLeastWide g h few) → IsLeastWide g h wide
least_by g h Near wide is near few = subst (IsLeastWide g h) (sym is) (near refl)
least_by g h (Few they) wide is near few = subst (IsLeastWide g h) (sym is) (few they refl)
least_by g h Still wide is near few = absurd is
least_by g h Unsure wide is near few = absurd is

-- THE MOVE

module _ (g h w : Graph) (from to : ℕ) (wide : Wide) (rules : IsGraph g) (movable : IsMovable g from to) (is : h ≡ fallen (carried g from to)) (few : IsLeastWide g (fallen (carried g from to)) wide) (widened : IsWidened h w (is_wide wide)) (w_rules : IsGraph w) (follows : Follows h w) (sound : IsSound h → IsSound w) where
  keeps : Keeps g h
  keeps = subst (Keeps g) (sym is) (keeps_fallen g from to rules movable)

  set : is_wide wide ≡ least h
  set = (λ i n. few.same n i) ∙ sym (ap least is)

  by_least : IsWidened h w (least h)
  by_least = subst (λ (S : ℕ → Bool). IsWidened h w S) set widened

  near : IsInReach w
  near = wide_near h w (least h) keeps.rules (least_is_least h keeps.rules).valid by_least

  fewer : words_of w < words_of g
  fewer =
      omega (
        arith,
        few.fewer,
        ap words_of is,
        wide_words h w (least h) keeps.rules (least_is_least h keeps.rules).valid by_least,
        ap (λ (S : ℕ → Bool). count_of S h.blocks) (sym set),
        wide_count h wide keeps.rules (subst (λ (k : Graph). AreWide k wide) (sym is) few.are),
      )

  widened_moved : IsMoved from to g w
  widened_moved =
      let there : (n : ℕ) → least h n ≡ true → HasBlock h n = λ n e. let b = (least_is_least h keeps.rules).valid.branches n e in has_term h n (Branch b.cond b.a b.b b.to) b.is in
      is_moved g h w from to movable is (alike_widened h w (least h) keeps.rules there by_least) rules (widened_keeps h w (least h) keeps.rules there by_least) w_rules keeps.follows keeps.sound follows sound near fewer

  pub widened_swept : (new : Graph) → new ≡ canonical_of w → IsSwept g new × IsInReach new
  widened_swept new made =
      (record { mid = w; moved = record { from = from; to = to; moved = widened_moved }; is = made }, subst IsInReach (sym made) (canonical_in_reach w w_rules near))
