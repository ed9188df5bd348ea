-- Windows that may become procedures, among the places where they stand.
use Rattle.std.proofs.Common.{◌≡◌, ◌≢◌, ℕ, zero, suc, ◌+◌, ◌*◌, ◌-◌, ◌^◌, ◌≤◌, ◌<◌, List, [], ◌∷◌, map, drop, length, get_or, Option, None, Some, inl, inr, refl, sym, ap, ◌∙◌, subst, arith}
use Rattle.std.specs.Prelude.{MatchOption, IfSome}
use Rattle.std.specs.List.{All}
use Rattle.std.proofs.lemmas.Bool.{cases_Bool}
use Rattle.std.proofs.lemmas.List.{length-take, length-drop, length-map}
use Rattle.std.proofs.lemmas.List.Elements.{All-nil, All-weaker}
use Rattle.sq_graph.specs.declared.item.Item.{Item}
use Rattle.sq_graph.specs.Graph.{Graph}
use Rattle.sq_graph.specs.Blocks.{HasBlock, items_of, items_of_blocks}
use Rattle.sq_graph.specs.Parts.{names_of}
use Rattle.sq_graph.specs.Room.{GraphAndRoom, IsSmall, total_of}
use Rattle.sq_graph.specs.Rules.{IsGraph}
use Rattle.sq_graph.specs.Words.{words_of}
use Rattle.sq_finger.specs.declared.places.WindowAt.{WindowAt}
use Rattle.sq_finger.specs.Lines.{line_of, item_at}
use Rattle.sq_finger.specs.Numbers.{AreNumbersOf}
use Rattle.sq_finger.specs.Runs.{AreRunNumbers}
use Rattle.sq_finger.proofs.Layouts.{names_are}
use Rattle.sq_finger.proofs.Lining.{few_line}
use Rattle.sq_layout.proofs.Walks.{items_few}
use Rattle.sq_pass.specs.declared.cut.Cut.{Cut}
use Rattle.sq_pass.specs.declared.cut.Row.TheVariants.{U, W}
use Rattle.sq_pass.specs.Cuts.{IsCompleted}
use Rattle.sq_outline.specs.declared.sites.Site.{Site}
use Rattle.sq_outline.specs.Sites.{IsPlace}
use Rattle.sq_outline.specs.Links.{IsLink}
use Rattle.sq_outline.specs.Made.{ArePlain}
use Rattle.sq_outline.specs.WindowsPlaces.{in_block, occurrences}
use Rattle.sq_outline.specs.WindowsMade.{items_at, IsWhole, behind_by, behind, IsWindowMade, IsWindowCut}
use Rattle.sq_outline.specs.WindowsSearch.{overlaps, standing, thinned, IsThere, MayBeMade, IsFoundAt, AreStanding}
use Rattle.sq_outline.proofs.WindowsApart.{all_mapped, all_stand, blocks_there}
use Rattle.sq_outline.proofs.WindowsFew.{occurrences_few}
use Rattle.sq_outline.proofs.WindowsThin.{thinned_are}

-- SITES

module _ (g : Graph) (window : List Item) (sites : List Site) (there : All (IsThere g (length window)) sites) where
  pub sites_there : All (λ site. HasBlock g site.block) sites
  sites_there = All-weaker {X = Site} (IsThere g (length window)) (λ site. HasBlock g site.block) (λ site s. s.there) sites there

  pub sites_small : words_of g < 2 ^ 31 → All (λ site. site.at + length window < 2 ^ 32) sites
  sites_small few =
      All-weaker {X = Site} (IsThere g (length window)) (λ site. site.at + length window < 2 ^ 32) (λ site s. let l = items_few g site.block few in let m = s.within in omega arith) sites there

  pub ends_there : All (IsPlace g) (behind (length window) sites)
  ends_there = all_mapped (IsPlace g) (behind_by (length window)) sites (All-weaker {X = Site} (IsThere g (length window)) (λ site. IsPlace g (behind_by (length window) site)) (λ site s. record { there = s.there; within = s.within }) sites there)

module _ (g : Graph) (window : List Item) (sites ends : List Site) (result : Option ℕ) (ends_are : ends ≡ behind (length window) sites) (plain : ArePlain window) (part : ¬ All (IsWhole g (length window)) sites)
    (told : MatchOption result ((r : ℕ) → ¬ IsLink g window ends r) (λ r. IsLink g window ends r)) where
  pub some_made : IfSome result (MayBeMade g window sites)
  some_made = go result told
    where
      go : (o : Option ℕ) → MatchOption o ((r : ℕ) → ¬ IsLink g window ends r) (λ r. IsLink g window ends r) → IfSome o (MayBeMade g window sites)
      go None none = tt
      go (Some link) linked = record { plain = plain; part = part; linked = subst (λ (es : List Site). IsLink g window es link) ends_are linked }

  pub none_made : result ≡ None → (link : ℕ) → ¬ MayBeMade g window sites link
  none_made none link may =
      let fails = subst (λ (o : Option ℕ). MatchOption o ((r : ℕ) → ¬ IsLink g window ends r) (λ r. IsLink g window ends r)) none told in
      fails link (subst (λ (es : List Site). IsLink g window es link) (sym ends_are) may.linked)

-- PLACES

pub long_at : (g : Graph) (block at n : ℕ) → at + n ≤ length (items_of g block) → length (items_at g block at n) ≡ n
long_at g block at n within = omega (arith, within, length-take n (drop at (items_of g block)), length-drop at (items_of g block))

fewer : (n : ℕ) (last : Option Site) (places : List WindowAt) → length (thinned n last places) ≤ length places
fewer n last [] = omega arith
fewer n last (place ∷ places) =
    elim (cases_Bool (overlaps n last place)) [
      | inl over ↦ rw over (omega (arith, fewer n last places))
      | inr apart ↦ rw apart (omega (arith, fewer n (Some (in_block place.block place.at)) places))
    ]

-- the first of some sites
pub first_of : (sites : List Site) (d : Site) → 1 ≤ length sites → (others : List Site) × (sites ≡ get_or sites 0 d ∷ others)
first_of [] d some = absurd (omega (arith, some))
first_of (site ∷ sites) d some = (sites, refl)

-- where some words go there is an occurrence
pub some_site : (sites : List Site) (by come : ℕ) → come < length sites * by → 1 ≤ length sites
some_site [] by come more = absurd (omega (arith, more))
some_site (site ∷ sites) by come more = omega arith

site_heads : (x y : Site) (xs ys : List Site) → x ∷ xs ≡ y ∷ ys → x ≡ y
site_heads x y xs ys e = cc

module _ (g : Graph) (n : ℕ) (places : List WindowAt) where
  too_few : (k saving : ℕ) → 1 ≤ n → saving + (n + 1) ≡ k * (n - 1) → k < 2 → 1 ≤ saving → ⊥
  too_few zero saving one saves few some = absurd (omega (arith, saves, some))
  too_few (suc zero) saving one saves few some = absurd (omega (arith, saves, some, one))
  too_few (suc (suc k)) saving one saves few some = absurd (omega (arith, few))

  pub none_few : 1 ≤ n → length places < 2 → (first : Site) (link saving : ℕ) (sites : List Site) → ¬ IsFoundAt g n places first link saving sites
  none_few one few first link saving sites found =
      too_few (length sites) saving one found.saves (omega (arith, ap (λ (ss : List Site). length ss) found.sites_are, fewer n None places, few)) found.some

  pub none_pays : (given : List Site) → given ≡ thinned n None places → length given * (n - 1) ≤ n + 1 → (first : Site) (link saving : ℕ) (sites : List Site) → ¬ IsFoundAt g n places first link saving sites
  none_pays given is little first link saving sites found =
      let same : length sites * (n - 1) ≡ length given * (n - 1) = ap (λ (ss : List Site). length ss * (n - 1)) (found.sites_are ∙ sym is) in
      absurd (omega (arith, same, found.saves, found.some, little))

  pub none_links : (given others : List Site) (head : Site) (window : List Item) → given ≡ thinned n None places → given ≡ head ∷ others → window ≡ items_at g head.block head.at n → ((link : ℕ) → ¬ MayBeMade g window given link)
      → (first : Site) (link saving : ℕ) (sites : List Site) → ¬ IsFoundAt g n places first link saving sites
  none_links given others head window is parts window_is none first link saving sites found =
      let same : sites ≡ given = found.sites_are ∙ sym is in
      let heads : first ≡ head = site_heads first head found.others others (sym found.first_is ∙ same ∙ parts) in
      let w : items_at g first.block first.at n ≡ window = ap (λ (s : Site). items_at g s.block s.at n) heads ∙ sym window_is in
      none link (subst (λ (ss : List Site). MayBeMade g window ss link) same (subst (λ (is : List Item). MayBeMade g is sites link) w found.made))

-- STANDING

module _ (g : Graph) (n : ℕ) (rules : IsGraph g) where
  -- the occurrences of a window that stands at these places
  pub occurrences_are : (block at : ℕ) (places : List WindowAt) → at + n ≤ length (items_of g block) → places ≡ standing g (items_at g block at n) → thinned n None places ≡ occurrences g (items_at g block at n)
  occurrences_are block at places within are =
      ap (λ (ps : List WindowAt). thinned n None ps) are
      ∙ ap (λ m. thinned m None (standing g (items_at g block at n))) (sym (long_at g block at n within))
      ∙ thinned_are g (items_at g block at n) rules

  -- a window is there where it occurs
  pub occur_there : (w : List Item) → All (IsThere g (length w)) (occurrences g w)
  occur_there w = λ k d l. record { there = blocks_there g w (names_of g) (λ name listed. (names_are g name).0 listed) k d l; within = (all_stand g w (names_of g) k d l).within }

  pub standing_there : (places : List WindowAt) → AreStanding g n places → All (IsThere g n) (thinned n None places)
  standing_there [] standing = All-nil (IsThere g n)
  standing_there (place ∷ places) standing =
      let within = standing.within place places refl in
      subst (All (IsThere g n)) (sym (occurrences_are place.block place.at (place ∷ places) within (standing.all place places refl)))
      (subst (λ m. All (IsThere g m) (occurrences g (items_at g place.block place.at n))) (long_at g place.block place.at n within) (occur_there (items_at g place.block place.at n)))

  pub standing_few : (places : List WindowAt) → AreStanding g n places → length (thinned n None places) * n ≤ length (items_of_blocks g.blocks)
  standing_few [] standing = omega arith
  standing_few (place ∷ places) standing =
      let within = standing.within place places refl in
      subst (λ (ss : List Site). length ss * n ≤ length (items_of_blocks g.blocks)) (sym (occurrences_are place.block place.at (place ∷ places) within (standing.all place places refl)))
      (subst (λ m. length (occurrences g (items_at g place.block place.at n)) * m ≤ length (items_of_blocks g.blocks)) (long_at g place.block place.at n within) (occurrences_few g (items_at g place.block place.at n) rules))

  -- where the window that stands at all these places occurs
  pub found_occur : (places : List WindowAt) (first : Site) (link saving : ℕ) (sites : List Site) → AreStanding g n places → IsFoundAt g n places first link saving sites → HasBlock g first.block × (first.at + n ≤ length (items_of g first.block)) × (sites ≡ occurrences g (items_at g first.block first.at n))
  found_occur [] first link saving sites standing found = absurd (let e : [] ≡ first ∷ found.others = sym found.sites_are ∙ found.first_is in cc)
  found_occur (place ∷ places) first link saving sites standing found =
      let heads : in_block place.block place.at ≡ first = site_heads (in_block place.block place.at) first (thinned n (Some (in_block place.block place.at)) places) found.others (sym found.sites_are ∙ found.first_is) in
      let within = standing.within place places refl in
      subst (λ (s : Site). HasBlock g s.block × (s.at + n ≤ length (items_of g s.block)) × (sites ≡ occurrences g (items_at g s.block s.at n))) heads
      (standing.there place places refl, within, found.sites_are ∙ occurrences_are place.block place.at (place ∷ places) within (standing.all place places refl))

  pub found_made : (places : List WindowAt) (first : Site) (link saving : ℕ) (sites : List Site) → 3 ≤ n → n ≤ 16 → AreStanding g n places → IsFoundAt g n places first link saving sites → IsWindowMade g first.block first.at n link saving
  found_made places first link saving sites least most standing found =
      let occur = found_occur places first link saving sites standing found in
      let w = items_at g first.block first.at n in
      let long = long_at g first.block first.at n occur.1 in
      record {
        least = least;
        most = most;
        there = occur.0;
        within = occur.1;
        plain = found.made.plain;
        others = found.others;
        first = sym occur.2 ∙ found.first_is;
        part = subst (λ (ss : List Site). ¬ All (IsWhole g n) ss) occur.2 (subst (λ m. ¬ All (IsWhole g m) sites) long found.made.part);
        linked = subst (λ (ss : List Site). IsLink g (items_at g first.block first.at n) (behind n ss) link) occur.2 (subst (λ m. IsLink g (items_at g first.block first.at n) (behind m sites) link) long found.made.linked);
        saves = found.saves ∙ ap (λ (ss : List Site). length ss * (n - 1)) occur.2;
        some = found.some;
      }

  pub made_found : (places : List WindowAt) (block at link saving : ℕ) → places ≡ standing g (items_at g block at n) → IsWindowMade g block at n link saving → IsFoundAt g n places (in_block block at) link saving (occurrences g (items_at g block at n))
  made_found places block at link saving are made =
      let long = sym (long_at g block at n made.within) in
      record {
        sites_are = sym (occurrences_are block at places made.within are);
        others = made.others;
        first_is = made.first;
        made = record {
          plain = made.plain;
          part = subst (λ m. ¬ All (IsWhole g m) (occurrences g (items_at g block at n))) long made.part;
          linked = subst (λ m. IsLink g (items_at g block at n) (behind m (occurrences g (items_at g block at n))) link) long made.linked;
        };
        saves = made.saves;
        some = made.some;
      }

  -- a window that stands at these places occurs first where that was found
  pub first_same : (places : List WindowAt) (block at link saving : ℕ) (first : Site) (l s : ℕ) → places ≡ standing g (items_at g block at n) → IsWindowMade g block at n link saving → IsWindowMade g first.block first.at n l s
      → thinned n None places ≡ occurrences g (items_at g first.block first.at n) → first ≡ in_block block at
  first_same places block at link saving first l s are made other occur =
      site_heads first (in_block block at) other.others made.others (sym other.first ∙ sym occur ∙ occurrences_are block at places made.within are ∙ made.first)

-- CUTS

pub completes_window : (g : Graph) (cut given : Cut) (blocks : List ℕ) → cut.row ≡ W → IsCompleted cut given → IsWindowCut g given → blocks ≡ cut.blocks → IsWindowMade g (get_or blocks 0 0) cut.other cut.length given.link given.saving
completes_window g cut given blocks row done candidate same =
    let not_u : cut.row ≢ U = λ u. absurd (let both : W ≡ U = sym row ∙ u in cc) in
    let block : get_or blocks 0 0 ≡ candidate.block = ap (λ (bs : List ℕ). get_or bs 0 0) (same ∙ sym (done.blocks not_u) ∙ ap (λ (c : Cut). c.blocks) candidate.is) in
    subst (λ b. IsWindowMade g b cut.other cut.length given.link given.saving) (sym block)
    (subst (λ k. IsWindowMade g candidate.block k cut.length given.link given.saving) done.other
    (subst (λ k. IsWindowMade g candidate.block given.other k given.link given.saving) done.length candidate.made))

-- NUMBERS

pub few_numbers : (v : GraphAndRoom) (line : List WindowAt) (numbers : List (Option ℕ)) → IsGraph v.graph → IsSmall (total_of v) → line ≡ line_of v.graph → AreNumbersOf (map (item_at v.graph) line) numbers → length numbers < 2 ^ 32
few_numbers v line numbers rules small whole are =
    let few = few_line v.graph v.spare.items v.spare.blocks rules small.items small.blocks in
    omega (arith, few, are.many, length-map line (item_at v.graph), ap (λ (ps : List WindowAt). length ps) whole)

pub longer_numbers : (firsts firsts' runs runs' longer : List (Option ℕ)) → firsts ≡ firsts' → runs ≡ runs' → ((n : ℕ) → AreRunNumbers n firsts runs → AreRunNumbers (n + 1) firsts longer)
    → (n : ℕ) → AreRunNumbers n firsts' runs' → AreRunNumbers (n + 1) firsts' longer
longer_numbers firsts firsts' runs runs' longer e f h n are =
    subst (λ fs. AreRunNumbers (n + 1) fs longer) e (h n (subst (λ fs. AreRunNumbers n fs runs) (sym e) (subst (λ rs. AreRunNumbers n firsts' rs) (sym f) are)))
