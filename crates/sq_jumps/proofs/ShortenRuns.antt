-- Row C at the first of some blocks: each is for C in the graph that those before it left, which keeps names and their order.
use Rattle.std.proofs.Common.{◌≡◌, ℕ, suc, ◌+◌, ◌<◌, true, false, ◌||◌, nat_eq, List, [], ◌∷◌, ◌++◌, length, map, take, get_or, refl, sym, ap, ◌∙◌, subst, arith}
use Rattle.std.proofs.lemmas.Bool.{ne_eqb, eqb-false, or_parts}
use Rattle.std.specs.List.{All, AllByRecursion, IsDistinct}
use Rattle.std.proofs.lemmas.List.{take_more, length-take-le}
use Rattle.std.proofs.lemmas.List.Elements.{All-nil, All-head, All-tail, All-push}
use Rattle.std.proofs.lemmas.Map.Keys.{IsDistinct-head, IsDistinct-tail}
use Rattle.std.proofs.lemmas.Option.{get_or_from_slice_get, slice_get_past}
use Rattle.sq_graph.specs.Graph.{Block, Graph}
use Rattle.sq_graph.specs.Leaders.{IsCanonical}
use Rattle.sq_graph.specs.Parts.{names_of}
use Rattle.sq_graph.specs.Renames.{renamed_block}
use Rattle.sq_graph.specs.Rules.{IsGraph}
use Rattle.sq_graph.specs.Slotted.{position_in, IsSlotted}
use Rattle.sq_graph.proofs.Slotting.{AreNumbered, positions_numbered, named_by_positions}
use Rattle.sq_lookup.specs.Names.{is_listed, Adds}
use Rattle.sq_pass.specs.Rewrites.{IsLighter}
use Rattle.sq_pass.proofs.Rewriting.{lighter_itself, lighter_through}
use Rattle.sq_jumps.specs.Shorten.{JumpsByDeadPart, shortened_at, shortened_each, AreShortened, AreFirstShortable}
use Rattle.sq_jumps.proofs.ShortenSwept.{shorten_names, shorten_rules_at, shorten_canonical_at, shorten_lighter, shorten_others, distinct_pushed}
use Rattle.sq_lookup.proofs.Adding.{is_listed-append}
use Rattle.sq_jumps.proofs.UnreachedGo.{contains_listed}

-- NAMES ARE KEPT

numbers_are : (f : ℕ → ℕ) (k : ℕ) (names : List ℕ) → AreNumbered f k names → map f names ≡ names → AreNumbered (λ n. n) k names
numbers_are f k [] are same = tt
numbers_are f k (n ∷ names) are same =
    let first : f n ≡ n = cc in
    let rest : map f names ≡ names = cc in
    (sym first ∙ are.0, numbers_are f (k + 1) names are.1 rest)

names-renamed : (f : ℕ → ℕ) (bs : List Block) → map (λ (b : Block). b.name) (map (renamed_block f) bs) ≡ map f (map (λ (b : Block). b.name) bs)
names-renamed f [] = refl
names-renamed f (b ∷ bs) = ap (λ names. f b.name ∷ names) (names-renamed f bs)

-- a slotted graph's names are positions
pub slotted_numbered : (g : Graph) → IsGraph g → IsSlotted g → AreNumbered (λ n. n) 0 (names_of g)
slotted_numbered g rules slots =
    numbers_are (position_in (names_of g)) 0 (names_of g) (positions_numbered g rules) (sym (names-renamed (position_in (names_of g)) g.blocks) ∙ ap names_of slots)

pub shorten_slotted : (g : Graph) (block : ℕ) → IsGraph g → JumpsByDeadPart g block → IsSlotted g → IsSlotted (shortened_at g block)
shorten_slotted g block rules d slots =
    named_by_positions (shortened_at g block) (shorten_rules_at g block rules d)
    (subst (AreNumbered (λ n. n) 0) (sym (shorten_names g block d)) (slotted_numbered g rules slots))

-- ONE AFTER ANOTHER

-- rewrites by C one after another, and what they keep
pub record IsRun (count : ℕ) (blocks : List ℕ) (g h : Graph) : Type 0 where
  pub shortened : AreShortened blocks g h
  pub lighter : IsLighter count g h
  pub slotted : IsSlotted g → IsSlotted h

shortened_run : (blocks : List ℕ) (g : Graph) → IsGraph g → IsCanonical g → IsDistinct nat_eq blocks → All (JumpsByDeadPart g) blocks → IsRun (length blocks) blocks g (shortened_each blocks g)
shortened_run [] g rules canonical distinct jumps = record { shortened = refl; lighter = lighter_itself g canonical; slotted = λ slots. slots }
shortened_run (n ∷ blocks) g rules canonical distinct jumps =
    let d = All-head (JumpsByDeadPart g) n blocks jumps in
    let rest =
    shortened_run blocks (shortened_at g n) (shorten_rules_at g n rules d) (shorten_canonical_at g n d canonical) (IsDistinct-tail nat_eq n blocks distinct)
    (shorten_others g n rules d blocks (IsDistinct-head nat_eq n blocks distinct) (All-tail (JumpsByDeadPart g) n blocks jumps)) in
    let sum : 1 + length blocks ≡ suc (length blocks) = omega arith in
    record {
      shortened = (d, rest.shortened);
      lighter =
          subst (λ (saved : ℕ). IsLighter saved g (shortened_each (n ∷ blocks) g)) sum
          (lighter_through 1 (length blocks) g (shortened_at g n) (shortened_each blocks (shortened_at g n)) (shorten_lighter g n rules canonical d) rest.lighter);
      slotted = λ slots. rest.slotted (shorten_slotted g n rules d slots);
    }

pub first_run : (g new : Graph) (blocks : List ℕ) (count : ℕ) → IsGraph g → IsCanonical g → AreFirstShortable g blocks count → new ≡ shortened_each (take count blocks) g → IsRun count (take count blocks) g new
first_run g new blocks count rules canonical first is =
    let taken = take count blocks in
    subst (IsRun count taken g) (sym is)
    (subst (λ (n : ℕ). IsRun n taken g (shortened_each taken g)) (length-take-le count blocks first.within) (shortened_run taken g rules canonical first.distinct first.jumps))

-- HOW MANY

-- so many of these blocks are for C, and are these names
pub record IsFoundFirst (g : Graph) (blocks : List ℕ) (count : ℕ) (found : List ℕ) : Type 0 where
  pub jumps : All (JumpsByDeadPart g) (take count blocks)
  pub distinct : IsDistinct nat_eq (take count blocks)
  pub listed : (n : ℕ) → is_listed found n ≡ is_listed (take count blocks) n

apart_from : (names : List ℕ) (n : ℕ) → is_listed names n ≡ false → AllByRecursion (λ m. nat_eq m n ≡ false) names
apart_from [] n none = tt
apart_from (m ∷ names) n none =
    let (here, later) = or_parts (nat_eq n m) (is_listed names n) none in
    (ne_eqb m n (λ same. eqb-false n m here (sym same)), apart_from names n later)

pub found_first_none : (g : Graph) (blocks found : List ℕ) → found ≡ [] → IsFoundFirst g blocks 0 found
unfolding IsDistinct
found_first_none g blocks found none = record { jumps = All-nil (JumpsByDeadPart g); distinct = tt; listed = λ n. ap (λ ns. is_listed ns n) none }

module _ (g : Graph) (blocks : List ℕ) (count : ℕ) (found : List ℕ) (first : IsFoundFirst g blocks count found) where
  pub found_first_more : (new : List ℕ) → count < length blocks → is_listed found (get_or blocks count 0) ≡ false → JumpsByDeadPart g (get_or blocks count 0) → Adds (get_or blocks count 0 ∷ []) found new → IsFoundFirst g blocks (count + 1) new
  found_first_more new below none d adds =
      let block = get_or blocks count 0 in
      let more : take (count + 1) blocks ≡ take count blocks ++ block ∷ [] = take_more blocks count 0 below in
      let apart = apart_from (take count blocks) block (sym (first.listed block) ∙ none) in
      record {
        jumps = subst (All (JumpsByDeadPart g)) (sym more) (All-push (JumpsByDeadPart g) (take count blocks) block first.jumps d);
        distinct = subst (IsDistinct nat_eq) (sym more) (distinct_pushed (take count blocks) block apart first.distinct);
        listed =
            λ n. adds.each n ∙ ap (λ b. b || is_listed (block ∷ []) n) (first.listed n) ∙ sym (is_listed-append (take count blocks) (block ∷ []) n) ∙ ap (λ ns. is_listed ns n) (sym more);
      }

  -- the next block is one of these, or not for C
  pub first_here : count < length blocks → (JumpsByDeadPart g (get_or blocks count 0) → is_listed found (get_or blocks count 0) ≡ true) → AreFirstShortable g blocks count
  first_here below again = record {
    within = omega (arith, below);
    jumps = first.jumps;
    distinct = first.distinct;
    next = λ block is d.
        let same = get_or_from_slice_get blocks count block 0 is in
        contains_listed (take count blocks) block
        (sym (first.listed block) ∙ subst (λ n. is_listed found n ≡ true) same (again (subst (JumpsByDeadPart g) (sym same) d)));
  }

  -- there is no next one
  pub first_all : count ≡ length blocks → AreFirstShortable g blocks count
  first_all all = record {
    within = omega (arith, all);
    jumps = first.jumps;
    distinct = first.distinct;
    next = λ block is d. absurd (let none = slice_get_past blocks count (omega (arith, all)) in cc (none, is));
  }
