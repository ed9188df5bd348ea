-- What is known as a sweep of rows V and W begins, and of graphs of the same blocks.
use Rattle.std.proofs.Common.{◌≡◌, ℕ, zero, suc, ◌+◌, ◌<◌, ◌≤◌, ◌^◌, ◌==◌, true, List, [], ◌∷◌, take, drop, cond, length, replicate, inl, inr, refl, sym, ap, ◌∙◌, subst, arith, length-append}
use Rattle.std.specs.List.{All, list_all}
use Rattle.std.proofs.lemmas.Bool.{cases_Bool}
use Rattle.std.proofs.lemmas.List.{length-drop}
use Rattle.std.proofs.lemmas.List.Elements.{All-weaker}
use Rattle.std.proofs.lemmas.List.Sums.{sum_by-cons}
use Rattle.sq_num.specs.declared.packed.Savings.{Savings}
use Rattle.sq_num.specs.Saved.{words_saved}
use Rattle.sq_graph.specs.declared.item.Item.{Item}
use Rattle.sq_graph.specs.declared.calls.ItemFate.{ItemFate}
use Rattle.sq_graph.specs.declared.calls.ItemFate.TheVariants.{Stays, Calls, Goes}
use Rattle.sq_graph.specs.Graph.{Block, Graph}
use Rattle.sq_graph.specs.Blocks.{HasBlock, items_of, items_of_blocks, items_of_bodies}
use Rattle.sq_graph.specs.Calls.{met_items, met_blocks, is_free, stands, now_at, fates_among, fates_of}
use Rattle.sq_graph.specs.Leaders.{IsCanonical}
use Rattle.sq_graph.specs.Lines.{place_lines}
use Rattle.sq_graph.specs.Room.{IsSmall, sum_of, count_of}
use Rattle.sq_graph.specs.Rules.{IsGraph}
use Rattle.sq_graph.specs.Walks.{IsLive}
use Rattle.sq_graph.specs.Words.{words_of, most_words}
use Rattle.sq_graph.proofs.Spans.{fates_of_long}
use Rattle.law_follow.proofs.Following.{graph_follows_itself, graph_follows_through}
use Rattle.sq_pass.specs.Rewrites.{IsRewritten}
use Rattle.sq_outline.specs.WindowsCandidates.{IsWindowsCandidate, windows_described}
use Rattle.sq_outline.specs.declared.windows.kinds.BlockKinds.{BlockKinds}
use Rattle.sq_outline.specs.declared.windows.left.FoundWindows.{FoundWindows}
use Rattle.sq_outline.specs.declared.windows.taken.Taken.{Taken}
use Rattle.sq_outline.specs.WindowsKinds.{AreKinds}
use Rattle.sq_outline.specs.WindowsMade.{items_at}
use Rattle.sq_outline.specs.WindowsProposed.{AreFound}
use Rattle.sq_outline.specs.WindowsSearch.{standing}
use Rattle.sq_finger.specs.declared.places.WindowAt.{WindowAt}
use Rattle.sq_outline.proofs.WindowsFinding.{long_at}
use Rattle.sq_outline.proofs.WindowsFreePlaces.{StandsThere, all_there}
use Rattle.sq_outline.specs.WindowsSwept.{swept, IsSweeping, AreSwept, HasBlocksOf}
use Rattle.sq_outline.specs.WindowsTaken.{KeepsLive, IsTakenOf, place_then}
use Rattle.sq_outline.proofs.Sweeping.{few_items, few_bodies}

-- NOTHING IS TAKEN

stay_drop : (k : ℕ) (fs : List ItemFate) → list_all is_free fs ≡ true → list_all is_free (drop k fs) ≡ true
stay_drop zero fs free = free
stay_drop (suc k) [] free = refl
stay_drop (suc k) (Stays ∷ fs) free = stay_drop k fs free
stay_drop (suc k) (Calls p ∷ fs) free = absurd (cc)
stay_drop (suc k) (Goes ∷ fs) free = absurd (cc)

stay_take : (k : ℕ) (fs : List ItemFate) → list_all is_free fs ≡ true → list_all is_free (take k fs) ≡ true
stay_take zero fs free = refl
stay_take (suc k) [] free = refl
stay_take (suc k) (Stays ∷ fs) free = stay_take k fs free
stay_take (suc k) (Calls p ∷ fs) free = absurd (cc)
stay_take (suc k) (Goes ∷ fs) free = absurd (cc)

stay_items : (fs : List ItemFate) (xs : List Item) → length xs ≤ length fs → list_all is_free fs ≡ true → met_items fs xs ≡ xs
stay_items [] [] many free = refl
stay_items [] (x ∷ xs) many free = absurd (omega (arith, many))
stay_items (f ∷ fs) [] many free = refl
stay_items (Stays ∷ fs) (x ∷ xs) many free = ap (λ is. x ∷ is) (stay_items fs xs (omega (arith, many)) free)
stay_items (Calls p ∷ fs) (x ∷ xs) many free = absurd (cc)
stay_items (Goes ∷ fs) (x ∷ xs) many free = absurd (cc)

stay_blocks : (bs : List Block) (fs : List ItemFate) → length (items_of_blocks bs) ≤ length fs → list_all is_free fs ≡ true → met_blocks fs bs ≡ bs
stay_blocks [] fs many free = refl
stay_blocks (b ∷ bs) fs many free =
    let all = length-append b.items (items_of_blocks bs) in
    ap (λ is. record b { items = is } ∷ met_blocks (drop (length b.items) fs) bs) (stay_items fs b.items (omega (arith, many, all)) free)
    ∙ ap (λ cs. b ∷ cs) (stay_blocks bs (drop (length b.items) fs) (omega (arith, many, all, length-drop (length b.items) fs)) (stay_drop (length b.items) fs free))

stay_among : (bs : List Block) (fs : List ItemFate) (name : ℕ) → list_all is_free fs ≡ true → list_all is_free (fates_among bs fs name) ≡ true
stay_among [] fs name free = refl
stay_among (b ∷ bs) fs name free =
    elim (cases_Bool (b.name == name)) [
      | inl here ↦ rw here (stay_take (length b.items) fs free)
      | inr apart ↦ rw apart (stay_among bs (drop (length b.items) fs) name (stay_drop (length b.items) fs free))
    ]

stay_at : (at : ℕ) (fs : List ItemFate) → at ≤ length fs → list_all is_free fs ≡ true → now_at fs at ≡ at
stay_at zero fs few free = refl
stay_at (suc at) [] few free = absurd (omega (arith, few))
stay_at (suc at) (Stays ∷ fs) few free =
    let one : now_at (Stays ∷ fs) (suc at) ≡ 1 + now_at fs at = sum_by-cons (λ (y : ItemFate). cond (stands y) 1 0) Stays (take at fs) in
    let rest = stay_at at fs (omega (arith, few)) free in
    omega (arith, one, rest)
stay_at (suc at) (Calls p ∷ fs) few free = absurd (cc)
stay_at (suc at) (Goes ∷ fs) few free = absurd (cc)

all_stays : (k : ℕ) → list_all is_free (replicate k Stays) ≡ true
all_stays zero = refl
all_stays (suc k) = all_stays k

module _ (g : Graph) (taken : Taken) (is_taken : IsTakenOf g taken) (stay : taken.fates.items ≡ replicate (length (items_of_blocks g.blocks)) Stays) where
  free : list_all is_free taken.fates.items ≡ true
  free = ap (λ fs. list_all is_free fs) stay ∙ all_stays (length (items_of_blocks g.blocks))

  many : length (items_of_blocks g.blocks) ≤ length taken.fates.items
  many = let t = is_taken.fates.many in omega (arith, t)

  pub none_swept : swept g taken ≡ g
  none_swept = ap (λ bs. record g { blocks = bs }) (stay_blocks g.blocks taken.fates.items many free)

  stays_there : (block at : ℕ) → at ≤ length (items_of g block) → place_then g taken.fates.items block at ≡ at
  stays_there block at l = stay_at at (fates_of g taken.fates.items block) (omega (arith, l, fates_of_long g taken.fates.items many block)) (stay_among g.blocks taken.fates.items block free)

  none_keeps : KeepsLive g taken.fates.items
  none_keeps block at r has l kept =
      let place : place_lines (swept g taken) block (place_then g taken.fates.items block at) ≡ place_lines g block at = ap (λ (k : Graph). place_lines k block (place_then g taken.fates.items block at)) none_swept ∙ ap (place_lines g block) (stays_there block at l) in (
        λ live. subst (λ (k : Graph). IsLive k r (place_lines (swept g taken) block (place_then g taken.fates.items block at))) (sym none_swept) (subst (IsLive g r) (sym place) live),
        λ live. subst (IsLive g r) place (subst (λ (k : Graph). IsLive k r (place_lines (swept g taken) block (place_then g taken.fates.items block at))) none_swept live),
      )

  pub none_sweeping : (savings : Savings) → IsGraph g → IsCanonical g → words_of g + words_saved savings ≤ most_words → IsSweeping g taken savings
  none_sweeping savings rules canonical words = record {
    fates = is_taken;
    keeps = none_keeps;
    rules = subst IsGraph (sym none_swept) rules;
    canonical = subst IsCanonical (sym none_swept) canonical;
    few = omega (arith, few_items g.blocks, words);
    words = omega (arith, ap words_of none_swept, words);
  }

-- THE SWEEP ENDS

-- its calls come
pub ends_swept : (g h : Graph) (old last : Taken) (before after : Savings) → swept g old ≡ g → AreSwept g old h last before after → IsRewritten IsWindowsCandidate windows_described before after g (swept h last)
ends_swept g h old last before after starts all = subst (λ (k : Graph). IsRewritten IsWindowsCandidate windows_described before after k (swept h last)) starts all

-- GRAPHS OF THE SAME BLOCKS

pub has_its_blocks : (g : Graph) → HasBlocksOf g g
has_its_blocks g = record { blocks = refl; follows = graph_follows_itself g; lives = λ live lives. lives }

pub has_blocks_through : (f g h : Graph) → HasBlocksOf f g → HasBlocksOf g h → HasBlocksOf f h
has_blocks_through f g h first second = record {
  blocks = second.blocks ∙ first.blocks;
  follows = graph_follows_through f g h first.follows second.follows;
  lives = λ live lives. second.lives live (first.lives live lives);
}

module _ (g h : Graph) (same : h.blocks ≡ g.blocks) where
  abbrev mid : Graph
  mid = record g { blocks = h.blocks }

  mid_is : g ≡ mid
  mid_is = ap (λ bs. record g { blocks = bs }) (sym same)

  pub same_kinds : (kinds : List BlockKinds) → AreKinds g kinds → AreKinds h kinds
  same_kinds kinds are = let was : AreKinds mid kinds = subst (λ (k : Graph). AreKinds k kinds) mid_is are in record { names = was.names; kinds = was.kinds }

  pub same_found : (found : FoundWindows) → AreFound g found → AreFound h found
  same_found found are =
      let was : AreFound mid found = subst (λ (k : Graph). AreFound k found) mid_is are in
      λ k d l some. let w = was k d l some in record { within = w.within; some = w.some; most = w.most; all = w.all }

-- there is room for a procedure more
pub room_for_more : (g : Graph) (taken : Taken) (savings : Savings) (items : ℕ) → IsSweeping g taken savings → length g.blocks < 2 ^ 29 → items ≤ most_words → IsSmall (sum_of (count_of g) (record { blocks = 0; items = items; procedures = 1 }))
room_for_more g taken savings items sweeping blocks short =
    let all = length-append (items_of_blocks g.blocks) (items_of_bodies g.procedures) in
    let own = sweeping.few in
    let words = sweeping.words in
    let bodies = few_bodies g.procedures in
    record { blocks = omega (arith, blocks); items = omega (arith, all, own, bodies, words, short); procedures = omega (arith, bodies, words) }

-- the places where a window stands are there
pub standing_within : (g : Graph) (block at n : ℕ) → at + n ≤ length (items_of g block) → All (λ (p : WindowAt). HasBlock g p.block × p.at + n ≤ length (items_of g p.block)) (standing g (items_at g block at n))
standing_within g block at n within =
    let w = items_at g block at n in
    All-weaker (StandsThere g w) (λ (p : WindowAt). HasBlock g p.block × p.at + n ≤ length (items_of g p.block)) (λ p s. (s.there, let l = s.within in omega (arith, l, long_at g block at n within))) (standing g w) (all_there g w)
