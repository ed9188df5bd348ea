-- What a folded graph keeps, and that there is one but for names.
use Rattle.std.proofs.Common.{◌≡◌, ℕ, ◌*◌, ◌≤◌, ◌==◌, nat_eq, true, false, ◌&&◌, not, if◌then◌else◌, List, [], ◌∷◌, ◌++◌, map, length, Option, None, Some, is_some, inl, inr, ◌⊎◌, refl, sym, ap, ◌∙◌, subst, arith}
use Rattle.std.specs.List.{AllByRecursion}
use Rattle.std.specs.Option.{option_eq}
use Rattle.std.proofs.lemmas.Bool.{cases_Bool, both_ways}
use Rattle.std.proofs.lemmas.List.{length-map}
use Rattle.sq_graph.specs.Alike.{AreAlike}
use Rattle.sq_graph.specs.Blocks.{HasBlock, block_of}
use Rattle.sq_graph.specs.Canonical.{canonical_of}
use Rattle.sq_graph.specs.Graph.{Block, Graph}
use Rattle.sq_graph.specs.Leaders.{is_fall, IsCanonical}
use Rattle.sq_graph.specs.Operations.{IsNew}
use Rattle.sq_graph.specs.Parts.{names_of}
use Rattle.sq_graph.specs.Places.{IsInReach}
use Rattle.sq_graph.specs.Renames.{retargeted_block, retargeted, renamed_block}
use Rattle.sq_graph.specs.Rules.{IsGraph}
use Rattle.sq_graph.specs.Slotted.{position_in, slotted}
use Rattle.sq_graph.specs.Soundness.{IsSound}
use Rattle.sq_graph.specs.Terms.{goes_on}
use Rattle.sq_graph.specs.Words.{words_of}
use Rattle.sq_graph.proofs.AlikeCanonical.{alike_canonical}
use Rattle.sq_graph.proofs.AlikeGraphs.{alike_back}
use Rattle.sq_graph.proofs.CanonicalLaws.{canonical_is_graph}
use Rattle.sq_graph.proofs.CanonicalReach.{canonical_in_reach}
use Rattle.sq_graph.proofs.Renamed.{names_there, other_same}
use Rattle.sq_graph.proofs.RenamedReach.{alike_words}
use Rattle.sq_graph.proofs.RenamedSound.{sound_kept}
use Rattle.sq_graph.proofs.Slotting.{slotted_alike}
use Rattle.sq_finger.specs.Exact.{IsExact}
use Rattle.sq_finger.proofs.Exactness.{exact_number, exact_option}
use Rattle.law_follow.specs.Follows.{Follows}
use Rattle.law_follow.proofs.Following.{graph_follows_through}
use Rattle.law_patch.proofs.Joining.{canonical_follows, canonical_sound}
use Rattle.law_patch.proofs.Renaming.{rename_follows}
use Rattle.sq_fold.specs.Partition.{IsCoarsestPartition}
use Rattle.sq_fold.proofs.Levels.{one_partition}
use Rattle.sq_chain.specs.Least.{least_widened}
use Rattle.sq_chain.proofs.AlikeWidened.{below_fresh}
use Rattle.sq_quotient.specs.Folding.{first_alike, stays_for, falls_away, lands_at, landed, folded_blocks, folded_by, AreNewNames}
use Rattle.sq_quotient.specs.Folded.{new_name, merged, folded, IsFolded, FoldSavesNothing}
use Rattle.sq_quotient.specs.Staying.{IsMerged}
use Rattle.sq_quotient.proofs.Firsts.{partition_merges}
use Rattle.sq_quotient.proofs.FoldedRules.{folded_rules}
use Rattle.sq_quotient.proofs.Left.{folded_length}
use Rattle.sq_quotient.proofs.Quotient.{fold_follows, fold_sound}

-- ---- names above all are new

pub are_new : (g : Graph) → AreNewNames g (new_name g)
are_new g = record {
  fresh = λ n. by n (block_of g (new_name g n)) refl;
  apart = λ m n e. omega (arith, e);
}
  where
    by : (n : ℕ) (o : Option Block) → block_of g (new_name g n) ≡ o → IsNew g (new_name g n)
    by n None e = e
    by n (Some b) e = absurd (let low = below_fresh g (new_name g n) (ap is_some e) in omega (arith, low))

-- ---- partitions that are the coarsest fold alike

module _ (f h new : ℕ → ℕ) where
  abbrev AreSame : List Block → Type 0
  AreSame bs = AllByRecursion (λ c. f c.name ≡ h c.name) bs

  away_same : (b : Block) (rest : List Block) → AreSame rest → falls_away f b rest ≡ falls_away h b rest
  away_same b [] same = refl
  away_same b (next ∷ rest) same = ap (λ n. goes_on b.term && not (n == next.name)) same.0

  lands_same : (rest : List Block) → AreSame rest → lands_at f rest ≡ lands_at h rest
  lands_same [] same = refl
  lands_same (next ∷ rest) same = same.0

  blocks_same : (bs : List Block) → map (retargeted_block f) bs ≡ map (retargeted_block h) bs → AreSame bs → folded_blocks f new bs ≡ folded_blocks h new bs
  blocks_same [] e same = refl
  blocks_same (b ∷ rest) e same =
      let own : retargeted_block f b ≡ retargeted_block h b = cc in
      let more : map (retargeted_block f) rest ≡ map (retargeted_block h) rest = cc in
      let later = blocks_same rest more same.1 in
      let away = away_same b rest same.1 in
      let lands = lands_same rest same.1 in
      let test : (f b.name == b.name) ≡ (h b.name == b.name) = ap (λ n. n == b.name) same.0 in
      λ i. if test i then landed (away i) (is_fall b.term) (own i) (new b.name) (lands i) ++ later i else later i

pub folded_same : (g : Graph) (f h new : ℕ → ℕ) → IsGraph g → ((n : ℕ) → HasBlock g n → f n ≡ h n) → folded_by f new g ≡ folded_by h new g
folded_same g f h new rules same =
    let one : retargeted f g ≡ retargeted h g = other_same g f (λ n. n) h (λ n. n) same (λ n has. refl) rules in
    let blocks = blocks_same f h new g.blocks (ap (λ (k : Graph). k.blocks) one) (go g.blocks (names_there g.blocks)) in
    let entry = ap (λ (k : Graph). k.entry) one in
    let words = ap (λ (k : Graph). k.code_words) one in
    let procedures = ap (λ (k : Graph). k.procedures) one in
    λ i. record { blocks = blocks i; entry = entry i; code_words = words i; procedures = procedures i }
  where
    go : (bs : List Block) → AllByRecursion (λ b. HasBlock g b.name) bs → AreSame f h new bs
    go [] all = tt
    go (b ∷ bs) all = (same b.name all.0, go bs all.1)

exact_class : IsExact {K = Option ℕ} (option_eq nat_eq)
exact_class = exact_option nat_eq exact_number

module _ (g : Graph) (A B : ℕ → Option ℕ) (a : IsCoarsestPartition g A) (b : IsCoarsestPartition g B) where
  test_same : (k n : ℕ) → HasBlock g k → HasBlock g n → option_eq nat_eq (A k) (A n) ≡ option_eq nat_eq (B k) (B n)
  test_same k n has there = by (cases_Bool (option_eq nat_eq (A k) (A n))) (cases_Bool (option_eq nat_eq (B k) (B n)))
    where
      by : (option_eq nat_eq (A k) (A n) ≡ true) ⊎ (option_eq nat_eq (A k) (A n) ≡ false) → (option_eq nat_eq (B k) (B n) ≡ true) ⊎ (option_eq nat_eq (B k) (B n) ≡ false) → option_eq nat_eq (A k) (A n) ≡ option_eq nat_eq (B k) (B n)
      by (inl t) (inl u) = t ∙ sym u
      by (inr t) (inr u) = t ∙ sym u
      by (inl t) (inr u) = absurd (both_ways (option_eq nat_eq (B k) (B n)) u ((exact_class (B k) (B n)).1 (one_partition g A B a b k n has there ((exact_class (A k) (A n)).0 t))))
      by (inr t) (inl u) = absurd (both_ways (option_eq nat_eq (A k) (A n)) t ((exact_class (A k) (A n)).1 (one_partition g B A b a k n has there ((exact_class (B k) (B n)).0 u))))

  first_same : (bs : List Block) (n : ℕ) → AllByRecursion (λ c. HasBlock g c.name) bs → HasBlock g n → first_alike A (map (λ c. c.name) bs) n ≡ first_alike B (map (λ c. c.name) bs) n
  first_same [] n all has = refl
  first_same (c ∷ bs) n all has =
      let test = test_same c.name n all.0 has in
      let later = first_same bs n all.1 has in
      λ i. if test i then c.name else later i

  pub stays_same : (n : ℕ) → HasBlock g n → stays_for g A n ≡ stays_for g B n
  stays_same n has = first_same g.blocks n (names_there g.blocks) has

  pub merged_same : IsGraph g → merged g A ≡ merged g B
  merged_same rules = folded_same g (stays_for g A) (stays_for g B) (new_name g) rules stays_same

-- ---- what the folded graph keeps

module _ (g made : Graph) (rules : IsGraph g) (canonical : IsCanonical g) (m : IsMerged g made) where
  abbrev left : Graph
  left = merged g m.class

  pub left_rules : IsGraph left
  left_rules = folded_rules g (stays_for g m.class) (new_name g) rules (partition_merges g m.class rules m.coarsest.stable) (are_new g)

  made_alike : AreAlike left made
  made_alike = subst (AreAlike left) (sym m.is) (slotted_alike left)

  made_follows : Follows g made
  made_follows =
      let first = fold_follows g (stays_for g m.class) (new_name g) rules canonical.no_bare (partition_merges g m.class rules m.coarsest.stable) (are_new g) in
      graph_follows_through g left made first (subst (Follows left) (sym made_alike.is) (rename_follows left made_alike.name left_rules made_alike.one_to_one))

  made_sound : IsSound g → IsSound made
  made_sound s =
      sound_kept left made left_rules made_alike
      (fold_sound g (stays_for g m.class) (new_name g) rules canonical.no_bare (partition_merges g m.class rules m.coarsest.stable) (are_new g) s)

  pub made_length : length made.blocks ≤ 2 * length g.blocks
  made_length =
      let few = folded_length (stays_for g m.class) (new_name g) g.blocks in
      let same : length made.blocks ≡ length left.blocks = ap (λ (k : Graph). length k.blocks) m.is ∙ length-map left.blocks (renamed_block (position_in (names_of left))) in
      omega (arith, few, same)

  module _ (wide new : Graph) (wide_rules : IsGraph wide) (alike : AreAlike wide (least_widened made)) (is : new ≡ canonical_of wide) where
    pub new_folded : IsFolded g new
    new_folded =
        let there : AreAlike (canonical_of wide) (canonical_of (least_widened made)) = alike_canonical wide (least_widened made) wide_rules alike in
        let back : AreAlike (canonical_of (least_widened made)) (canonical_of wide) = alike_back (canonical_of wide) (canonical_of (least_widened made)) (canonical_is_graph wide wide_rules) there in
        record {
          class = m.class;
          coarsest = m.coarsest;
          alike = subst (AreAlike (folded g m.class)) (sym is) (subst (λ (k : Graph). AreAlike (canonical_of (least_widened k)) (canonical_of wide)) m.is back);
        }

    pub saves_nothing : words_of g ≤ words_of new → FoldSavesNothing g
    unfolding new_folded
    saves_nothing more h other =
        let one : folded g m.class ≡ folded g other.class = ap (λ (k : Graph). canonical_of (least_widened (slotted k))) (merged_same g m.class other.class m.coarsest other.coarsest rules) in
        let mine = alike_words (folded g m.class) new new_folded.alike in
        let its = alike_words (folded g other.class) h other.alike in
        let same : words_of (folded g m.class) ≡ words_of (folded g other.class) = ap words_of one in
        omega (arith, more, mine, its, same)

    pub new_follows : Follows made wide → Follows g new
    new_follows widens =
        let first = graph_follows_through g made wide made_follows widens in
        graph_follows_through g wide new first (subst (Follows wide) (sym is) (canonical_follows wide wide_rules))

    pub new_sound : (IsSound made → IsSound wide) → IsSound g → IsSound new
    new_sound widens s = subst IsSound (sym is) (canonical_sound wide wide_rules (widens (made_sound s)))

    pub new_reach : IsInReach wide → IsInReach new
    new_reach near = subst IsInReach (sym is) (canonical_in_reach wide wide_rules near)
