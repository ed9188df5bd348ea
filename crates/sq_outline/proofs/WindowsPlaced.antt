-- Where the windows of a look stand.
use Rattle.std.proofs.Common.{◌≡◌, ℕ, ◌+◌, ◌≤◌, Bool, cond, List, [], ◌∷◌, ◌++◌, take, drop, length, None, Some, refl, sym, ap, ◌∙◌, subst, arith, length-append}
use Rattle.std.proofs.lemmas.Bool.{cond_both}
use Rattle.std.proofs.lemmas.List.{drop_at, take_all, take-append-le, drop-append-le, length-drop, length-take-le}
use Rattle.sq_graph.specs.Graph.{Graph}
use Rattle.sq_finger.specs.declared.places.WindowAt.{WindowAt}
use Rattle.sq_outline.specs.declared.sites.Site.{Site}
use Rattle.sq_outline.specs.declared.windows.proposals.FoundWindow.{FoundWindow}
use Rattle.sq_outline.specs.WindowsPlaces.{in_block, occurrences}
use Rattle.sq_outline.specs.WindowsMade.{items_at, IsWindowMade}
use Rattle.sq_outline.specs.WindowsProposed.{IsPlacedIn}
use Rattle.sq_outline.specs.WindowsSearch.{standing, thinned, AreStanding}

-- others behind them leave them where they are
pub placed_still : (g : Graph) (places more : List WindowAt) (w : FoundWindow) → IsPlacedIn g places w → IsPlacedIn g (places ++ more) w
placed_still g places more w placed =
    let within : w.place + w.places ≤ length places = placed.within in
    record {
      within = omega (arith, within, length-append places more);
      some = placed.some;
      most = placed.most;
      all = λ some.
          ap (take w.places) (drop-append-le w.place places more (omega (arith, within)))
          ∙ take-append-le w.places (drop w.place places) more (omega (arith, within, length-drop w.place places)) ∙ placed.all some;
    }

same_first : (block at : ℕ) (p : WindowAt) (rest others : List Site) → in_block p.block p.at ∷ rest ≡ in_block block at ∷ others → (p.block ≡ block) × (p.at ≡ at)
same_first block at p rest others e = (ap (λ (ss : List Site). first_block ss) e, ap (λ (ss : List Site). first_at ss) e)
  where
    first_block : List Site → ℕ
    first_block [] = 0
    first_block (s ∷ ss) = s.block

    first_at : List Site → ℕ
    first_at [] = 0
    first_at (s ∷ ss) = s.at

-- so many places of a window are kept, which are all or none of them
all_or_none : (many : Bool) (k m : ℕ) → k ≡ cond many 0 m → (k ≤ m) × (1 ≤ k → k ≡ m)
all_or_none many k m is =
    subst (λ x. (x ≤ m) × (1 ≤ x → x ≡ m)) (sym is)
    (cond_both many 0 m (λ x. (x ≤ m) × (1 ≤ x → x ≡ m)) (λ _. (omega arith, λ some. absurd (omega (arith, some)))) (λ _. (omega arith, λ _. refl)))

module _ (g : Graph) (n link saving : ℕ) (block at : ℕ) where
  -- the places of a window that was found are those of its first one
  all_first : (places : List WindowAt) → AreStanding g n places → IsWindowMade g block at n link saving → thinned n None places ≡ occurrences g (items_at g block at n) → places ≡ standing g (items_at g block at n)
  all_first [] standing_at made first = let e : [] ≡ in_block block at ∷ made.others = first ∙ made.first in absurd (cc)
  all_first (p ∷ rest) standing_at made first =
      let same = same_first block at p (thinned n (Some (in_block p.block p.at)) rest) made.others (first ∙ made.first) in
      standing_at.all p rest refl ∙ ap (λ b. standing g (items_at g b p.at n)) same.0 ∙ ap (λ a. standing g (items_at g block a n)) same.1

  pub placed_new : (places members : List WindowAt) (w : FoundWindow) (many : Bool) → w.found.first.block ≡ block → w.found.first.at ≡ at → w.n ≡ n → w.known ≡ n → w.place ≡ length places → w.places ≡ cond many 0 (length members) → AreStanding g n members → IsWindowMade g block at n link saving
      → thinned n None members ≡ occurrences g (items_at g block at n) → IsPlacedIn g (places ++ take w.places members) w
  placed_new places members w many in_block_is at_is long known place kept standing_there made first =
      let whole = all_or_none many w.places (length members) kept in
      let least = made.least in
      record {
        within = omega (arith, place, length-append places (take w.places members), length-take-le w.places members whole.0);
        some = omega (arith, known, least);
        most = omega (arith, known, long);
        all = λ some.
            let all = take_all w.places members (omega (arith, whole.1 some)) in
            ap (λ k. take w.places (drop k (places ++ take w.places members))) place
            ∙ ap (take w.places) (drop_at places (take w.places members) (length places) refl)
            ∙ ap (take w.places) all
            ∙ all
            ∙ all_first members standing_there made first
            ∙ rw (in_block_is, at_is, known) refl;
      }
