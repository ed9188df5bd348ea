-- From the tables of pairs to bodies that match.
use Rattle.std.proofs.Common.{◌≡◌, ◌≢◌, ◌<◌, ◌↔◌, ℕ, inl, inr, ⊎_elim, Bool, true, false, List, Option, Some, None, length, slice_get, refl, sym, ◌∙◌, subst, arith}
use Rattle.std.specs.Prelude.{MatchOption}
use Rattle.std.proofs.lemmas.Option.{slice_get_within, get_or_from_slice_get}
use Rattle.sq_isa.specs.Registers.{is_member}
use Rattle.sq_graph.specs.declared.item.Item.{Item}
use Rattle.sq_graph.specs.Graph.{Procedure}
use Rattle.sq_graph.specs.Matches.{IsPair}
use Rattle.sq_rename.specs.declared.pairs.Pairs.{Pairs}
use Rattle.sq_rename.specs.Pairs.{GoWith, AreTables, PairOrZero, ArePairs, HavePairs, MayChange, AllMayChange}
use Rattle.sq_rename.specs.Renamings.{IsPermutation}
use Rattle.sq_rename.specs.Bodies.{IsBodyMatch, IsMatchBy, MayLive}

one : (x y : ℕ) (a : Option (Option ℕ)) → a ≡ Some (Some x) → a ≡ Some (Some y) → x ≡ y
one x y a e f = cc

pub goes_one_way : (pairs : Pairs) → AreTables pairs → (q r s : ℕ) → GoWith pairs q s → GoWith pairs r s → q ≡ r
goes_one_way pairs h q r s x y = one q r (slice_get pairs.back s) (h.back q s x) (h.back r s y)

module _ (ps : List Procedure) (items others : List Item) (dead : ℕ) where
  pub match_is : (pairs : Pairs) (to : List ℕ) → ArePairs ps items others pairs → AllMayChange dead items pairs → IsPermutation to → ((r s : ℕ) → GoWith pairs r s → slice_get to r ≡ Some s) → IsMatchBy ps items others (MayLive dead) to
  match_is pairs to h all permutes sends =
      let goes : (r s : ℕ) → IsPair ps items others r s → GoWith pairs r s = λ r s p. h.down r s (inr p) in
      record {
        match = record {
          match = record {
            forms = h.forms;
            there = λ r s t x y. one s t (slice_get pairs.there r) (goes r s x) (goes r t y);
            back = λ q r s x y. goes_one_way pairs h.tables q r s (goes q s x) (goes r s y);
            zero_there = λ s p. one s 0 (slice_get pairs.there 0) (goes 0 s p) h.tables.zero;
            zero_back = λ r p. goes_one_way pairs h.tables r 0 0 (goes r 0 p) h.tables.zero;
            first = λ r s p ne. (all r s (goes r s p) ne).1.1;
          };
          pairs_die = λ r s p ne.
              let may = all r s (goes r s p) ne in (
                λ l. let t = may.0 in let f = l.1.1 in cc,
                λ l. let t = may.1.0 in let f = l.1.1 in cc,
              );
        };
        permutation = permutes;
        pairs = λ r s p. sends r s (goes r s p);
      }

  dies : (r : ℕ) → (¬ MayLive dead r) → 0 < r → r < 32 → is_member dead r ≡ true
  dies r n k l = known (is_member dead r) refl where
    known : (b : Bool) → is_member dead r ≡ b → is_member dead r ≡ true
    known true e = e
    known false e = absurd (n (k, (l, e)))

  pub pair_dies : (r s : ℕ) → IsBodyMatch ps items others (MayLive dead) → IsPair ps items others r s → s ≢ r → r < 32 → s < 32 → MayChange dead items r s
  pair_dies r s m p ne small small' =
      let not_zero : r ≢ 0 = λ e. ne (m.match.zero_there s (subst (λ z. IsPair ps items others z s) e p) ∙ sym e) in
      let not_back : s ≢ 0 = λ e. ne (e ∙ sym (m.match.zero_back r (subst (λ z. IsPair ps items others r z) e p))) in
      let die = m.pairs_die r s p ne in
      (dies r die.0 (omega arith) small, (dies s die.1 (omega arith) small', m.match.first r s p ne))

  pub match_all : (pairs : Pairs) → ArePairs ps items others pairs → IsBodyMatch ps items others (MayLive dead) → AllMayChange dead items pairs
  match_all pairs h m r s g ne = ⊎_elim (λ z. absurd (ne (z.1 ∙ sym z.0))) (λ p. changes p) (h.up r s g) where
    changes : IsPair ps items others r s → MayChange dead items r s
    changes p =
        let within : r < length pairs.there = slice_get_within pairs.there r (Some s) g in
        let within_back : s < length pairs.back = slice_get_within pairs.back s (Some r) (h.tables.back r s g) in
        let a = h.tables.there_count in
        let b = h.tables.back_count in
        pair_dies r s m p ne (omega arith) (omega arith)

pub match_has : (ps : List Procedure) (items others : List Item) (Lives : ℕ → Type 0) → IsBodyMatch ps items others Lives → HavePairs ps items others
match_has ps items others Lives m = record {
  forms = m.match.forms;
  one_to_one = record { there = there; back = back };
} where
  there : (r s t : ℕ) → PairOrZero ps items others r s → PairOrZero ps items others r t → s ≡ t
  there r s t (inl x) (inl y) = x.1 ∙ sym y.1
  there r s t (inl x) (inr y) = x.1 ∙ sym (m.match.zero_there t (subst (λ z. IsPair ps items others z t) x.0 y))
  there r s t (inr x) (inl y) = m.match.zero_there s (subst (λ z. IsPair ps items others z s) y.0 x) ∙ sym y.1
  there r s t (inr x) (inr y) = m.match.there r s t x y

  back : (q r s : ℕ) → PairOrZero ps items others q s → PairOrZero ps items others r s → q ≡ r
  back q r s (inl x) (inl y) = x.0 ∙ sym y.0
  back q r s (inl x) (inr y) = x.0 ∙ sym (m.match.zero_back r (subst (λ z. IsPair ps items others r z) x.1 y))
  back q r s (inr x) (inl y) = m.match.zero_back q (subst (λ z. IsPair ps items others q z) y.1 x) ∙ sym y.0
  back q r s (inr x) (inr y) = m.match.back q r s x y

-- where a set has what is dead
module _ (ps : List Procedure) (items others : List Item) (dead : ℕ) (Lives : ℕ → Type 0) (exact : (r : ℕ) → 0 < r → r < 32 → (is_member dead r ≡ true) ↔ (¬ Lives r)) where
  to_live : IsBodyMatch ps items others Lives → IsBodyMatch ps items others (MayLive dead)
  to_live m = record {
    match = m.match;
    pairs_die = λ r s p ne. (λ l. still r (m.pairs_die r s p ne).0 l, λ l. still s (m.pairs_die r s p ne).1 l);
  } where
    still : (r : ℕ) → (¬ Lives r) → MayLive dead r → ⊥
    still r n l = let t = (exact r l.0 l.1.0).1 n in let f = l.1.1 in cc

  from_live : (to : List ℕ) → IsMatchBy ps items others (MayLive dead) to → IsMatchBy ps items others Lives to
  from_live to m = record {
    match = record {
      match = m.match.match;
      pairs_die = λ r s p ne. (
        still r (m.match.pairs_die r s p ne).0 (λ e. ne (m.match.match.zero_there s (subst (λ z. IsPair ps items others z s) e p) ∙ sym e)) (small r s p),
        still s (m.match.pairs_die r s p ne).1 (λ e. ne (e ∙ sym (m.match.match.zero_back r (subst (λ z. IsPair ps items others r z) e p)))) (small_back r s p),
      );
    };
    permutation = m.permutation;
    pairs = m.pairs;
  } where
    small : (r s : ℕ) → IsPair ps items others r s → r < 32
    small r s p = let w = slice_get_within to r s (m.pairs r s p) in let c = m.permutation.count in omega arith

    small_back : (r s : ℕ) → IsPair ps items others r s → s < 32
    small_back r s p =
        let at = get_or_from_slice_get to r s 0 (m.pairs r s p) in
        let b = m.permutation.below r (small r s p) in
        omega arith

    known : (r : ℕ) → (¬ MayLive dead r) → 0 < r → r < 32 → (b : Bool) → is_member dead r ≡ b → is_member dead r ≡ true
    known r n k l true e = e
    known r n k l false e = absurd (n (k, (l, e)))

    still : (r : ℕ) → (¬ MayLive dead r) → r ≢ 0 → r < 32 → ¬ Lives r
    still r n z l = (exact r (omega arith) l).0 (known r n (omega arith) l (is_member dead r) refl)

  pub live_match : (result : Option (List ℕ)) → MatchOption result (¬ IsBodyMatch ps items others (MayLive dead)) (IsMatchBy ps items others (MayLive dead)) → MatchOption result (¬ IsBodyMatch ps items others Lives) (IsMatchBy ps items others Lives)
  live_match None n = λ m. n (to_live m)
  live_match (Some to) m = from_live to m
