-- The blocks that are chosen for a register are as many as any that may be called through it.
use Rattle.std.proofs.Common.{◌≡◌, ◌≢◌, ℕ, zero, suc, nat_eq, false, ◌↔◌, ◌+◌, ◌*◌, ◌-◌, ◌≤◌, ◌<◌, List, [], ◌∷◌, length, get_or, ◌^◌, ◌==◌, Option, None, Some, inl, inr, refl, sym, ap, ◌∙◌, subst, arith}
use Rattle.std.specs.Prelude.{MatchOption, IfSome}
use Rattle.std.specs.List.{All, AllByRecursion, Contains, IsDistinct}
use Rattle.std.proofs.Math.Nat.{mul-le-mul_right}
use Rattle.std.proofs.lemmas.Bool.{eqb-false, ne_eqb}
use Rattle.std.proofs.lemmas.List.{length-map, get_or_default}
use Rattle.std.proofs.lemmas.List.Elements.{All-cons, All-head, All-tail, All-map, All-contains, All-from_recursion, recursion_from_All}
use Rattle.std.proofs.lemmas.Map.Keys.{IsDistinct-cons, IsDistinct-head, IsDistinct-tail}
use Rattle.sq_graph.specs.declared.item.Item.{Item}
use Rattle.sq_graph.specs.Graph.{Graph}
use Rattle.sq_graph.specs.Blocks.{HasBlock, items_of}
use Rattle.sq_graph.specs.Parts.{names_of}
use Rattle.sq_graph.specs.Rules.{IsGraph, mentions}
use Rattle.sq_graph.specs.Words.{words_of}
use Rattle.sq_layout.proofs.Walks.{items_few}
use Rattle.sq_live.proofs.Layouts.{keys-named}
use Rattle.sq_lookup.proofs.Targets.{name_listed}
use Rattle.sq_outline.specs.declared.sites.Site.{Site}
use Rattle.sq_outline.specs.Links.{link_order, IsDeadAt, MayLink, IsFirstOf, IsLink}
use Rattle.sq_pass.specs.declared.cut.Cut.{Cut}
use Rattle.sq_pass.specs.declared.cut.Row.TheVariants.{U, O1}
use Rattle.sq_pass.specs.Cuts.{IsCompleted}
use Rattle.sq_outline.specs.Made.{HasBody, ends_of, IsMade, AreMade, make_cut, IsMadeCut}
use Rattle.sq_outline.specs.Sites.{IsPlace}
use Rattle.sq_outline.specs.Sets.{Keeps, IsOther, AreOthers, IsGroupOf, IsDeadBehind, Pays, IsTried, CanMake, HaveLink}
use Rattle.sq_outline.proofs.Keeping.{each_in, keeps_from, keeps_each, keeps_distinct, keeps_fewer, no_more}
use Rattle.sq_outline.proofs.Linking.{link_may}
use Rattle.sq_outline.proofs.Making.{each_mapped, made_applied}

-- blocks are listed by their names, once
pub names_distinct : (g : Graph) → IsGraph g → IsDistinct nat_eq (names_of g)
names_distinct g rules = subst (IsDistinct nat_eq) (keys-named g.blocks) rules.distinct

pub listed : (g : Graph) (block : ℕ) → HasBlock g block → Contains (names_of g) block
listed g block has = let at = name_listed g.blocks block has in (at.0, at.1, get_or_default (names_of g) at.0 block 0 at.1 ∙ at.2)

abbrev end_of : Graph → ℕ → Site
end_of g block = record { block = block; at = length (items_of g block) }

-- what is kept of a group
pub kept_others : (g : Graph) (first : ℕ) (group others : List ℕ) → IsGroupOf g first group → Keeps (IsOther g first) group others → AreOthers g first others
kept_others g first group others is keeps = record {
  each = λ b there. (keeps_from (IsOther g first) keeps b there).1;
  all = λ b other. keeps_each (IsOther g first) keeps b (is.whole b other.1) other;
  distinct = keeps_distinct (IsOther g first) keeps is.distinct;
}

module _ (g : Graph) (first : ℕ) (others : List ℕ) (rules : IsGraph g) (are : AreOthers g first others) where
  pub other_there : All (HasBlock g) others
  other_there = each_in (HasBlock g) others (λ b there. let other = are.each b there in other.1.there)

  pub other_fewer : length others ≤ length g.blocks
  other_fewer =
      omega (
        arith,
        no_more others (names_of g) are.distinct (λ b there. let other = are.each b there in listed g b other.1.there),
        length-map g.blocks (λ b. b.name),
      )

  module _ (r : ℕ) (chosen : List ℕ) (dead : Keeps (IsDeadBehind g r) others chosen) where
    pub chosen_distinct : IsDistinct nat_eq (first ∷ chosen)
    chosen_distinct =
        let apart : All (λ b. nat_eq first b ≡ false) chosen =
        each_in (λ b. nat_eq first b ≡ false) chosen (λ b there.
        let other = are.each b (keeps_from (IsDeadBehind g r) dead b there).0 in
        ne_eqb first b (λ same. other.0 (sym same))) in
        IsDistinct-cons nat_eq first chosen (recursion_from_All (λ b. nat_eq first b ≡ false) chosen apart)
        (keeps_distinct (IsDeadBehind g r) dead are.distinct)

    pub chosen_fewer : length chosen ≤ length g.blocks
    chosen_fewer = omega (arith, keeps_fewer (IsDeadBehind g r) dead, other_fewer)

    pub can_make : IsTried r → HasBody g (items_of g first) first → All (λ item. mentions item r ≡ false) (items_of g first) → IsDeadBehind g r first → Pays (length chosen + 1) (length (items_of g first)) → CanMake g first chosen
    can_make tried own free dead_first pays =
        let bodies : All (HasBody g (items_of g first)) chosen =
        each_in (HasBody g (items_of g first)) chosen (λ b there. (are.each b (keeps_from (IsDeadBehind g r) dead b there).0).1) in
        let ends : All (IsDeadBehind g r) chosen = each_in (IsDeadBehind g r) chosen (λ b there. (keeps_from (IsDeadBehind g r) dead b there).1) in
        let more : length chosen + 1 ≡ length (first ∷ chosen) = omega arith in
        record {
          register = r;
          tried = tried;
          distinct = chosen_distinct;
          bodies = All-cons (HasBody g (items_of g first)) first chosen own bodies;
          may = record { free = free; dead = All-map (IsDeadAt g r) (end_of g) (first ∷ chosen) (All-cons (IsDeadBehind g r) first chosen dead_first ends) };
          pays = subst (λ k. Pays k (length (items_of g first))) more pays;
        }

    -- any others that may be called through the register are among those chosen
    pub none_more : ¬ Pays (length chosen + 1) (length (items_of g first)) → (rest : List ℕ) → (can : CanMake g first rest) → can.register ≡ r → ⊥
    none_more fails rest can is =
        let n = length (items_of g first) in
        let ends = each_mapped (IsDeadAt g can.register) (end_of g) (first ∷ rest) can.may.dead in
        let ends_rest = All-tail (IsDeadBehind g can.register) first rest ends in
        let bodies = All-tail (HasBody g (items_of g first)) first rest can.bodies in
        let unlike : AllByRecursion (λ b. nat_eq first b ≡ false) rest = IsDistinct-head nat_eq first rest can.distinct in
        let apart : All (λ b. nat_eq first b ≡ false) rest = All-from_recursion (λ b. nat_eq first b ≡ false) rest unlike in
        let inside : (b : ℕ) → Contains rest b → Contains chosen b = λ b there.
        let body = All-contains (HasBody g (items_of g first)) rest b bodies there in
        let other : IsOther g first b = (λ same. eqb-false first b (All-contains (λ b. nat_eq first b ≡ false) rest b apart there) (sym same), body) in
        let gone = subst (λ q. IsDeadBehind g q b) is (All-contains (IsDeadBehind g can.register) rest b ends_rest there) in
        keeps_each (IsDeadBehind g r) dead b (are.all b other) gone in
        let fewer = no_more rest chosen (IsDistinct-tail nat_eq first rest can.distinct) inside in
        let more : length (first ∷ rest) ≤ length chosen + 1 = omega arith in
        let product : length (first ∷ rest) * (n - 1) ≤ (length chosen + 1) * (n - 1) = mul-le-mul_right (n - 1) more in
        let paid = can.pays in
        fails (omega (arith, product, paid))

-- the first block's own body and the register's deadness there are asked of every choice
pub can_own : (g : Graph) (first : ℕ) (rest : List ℕ) → CanMake g first rest → HasBody g (items_of g first) first
can_own g first rest can = All-head (HasBody g (items_of g first)) first rest can.bodies

pub can_dead : (g : Graph) (first : ℕ) (rest : List ℕ) (r : ℕ) → (can : CanMake g first rest) → can.register ≡ r → IsDeadBehind g r first
can_dead g first rest r can is =
    subst (λ q. IsDeadBehind g q first) is
    (All-head (IsDeadBehind g can.register) first rest (each_mapped (IsDeadAt g can.register) (end_of g) (first ∷ rest) can.may.dead))

pub can_free : (g : Graph) (first : ℕ) (rest : List ℕ) (r : ℕ) → (can : CanMake g first rest) → can.register ≡ r → All (λ item. mentions item r ≡ false) (items_of g first)
can_free g first rest r can is = subst (λ q. All (λ item. mentions item q ≡ false) (items_of g first)) is can.may.free

-- so many calls at least
abbrev AreFewest : ℕ → ℕ → Type 0
AreFewest fewest items = (calls : ℕ) → Pays calls items ↔ (fewest ≤ calls)

-- a choice of fewer blocks than a group has, or than there are others and the first
pub few_in_group : (g : Graph) (first : ℕ) (group rest : List ℕ) (items : List Item) (fewest : ℕ) → items ≡ items_of g first → AreFewest fewest (length items) → IsGroupOf g first group → CanMake g first rest → length group < fewest → ⊥
few_in_group g first group rest items fewest is least of can few =
    let bodies = can.bodies in
    let inside : (b : ℕ) → Contains (first ∷ rest) b → Contains group b = λ b there. of.whole b (All-contains (HasBody g (items_of g first)) (first ∷ rest) b bodies there) in
    let fewer = no_more (first ∷ rest) group can.distinct inside in
    let enough = (least (length (first ∷ rest))).0 (subst (λ (js : List Item). Pays (length (first ∷ rest)) (length js)) (sym is) can.pays) in
    omega (arith, fewer, enough, few)

pub few_others : (g : Graph) (first : ℕ) (others rest : List ℕ) (items : List Item) (fewest : ℕ) → items ≡ items_of g first → AreFewest fewest (length items) → AreOthers g first others → CanMake g first rest → length others + 1 < fewest → ⊥
few_others g first others rest items fewest is least are can few =
    let bodies = All-tail (HasBody g (items_of g first)) first rest can.bodies in
    let apart : All (λ b. nat_eq first b ≡ false) rest = All-from_recursion (λ b. nat_eq first b ≡ false) rest (IsDistinct-head nat_eq first rest can.distinct) in
    let inside : (b : ℕ) → Contains rest b → Contains others b = λ b there.
    are.all b (λ same. eqb-false first b (All-contains (λ b. nat_eq first b ≡ false) rest b apart there) (sym same), All-contains (HasBody g (items_of g first)) rest b bodies there) in
    let fewer = no_more rest others (IsDistinct-tail nat_eq first rest can.distinct) inside in
    let enough = (least (length (first ∷ rest))).0 (subst (λ (js : List Item). Pays (length (first ∷ rest)) (length js)) (sym is) can.pays) in
    omega (arith, fewer, enough, few)

pub none_pays : (g : Graph) (first : ℕ) (rest : List ℕ) (items : List Item) → items ≡ items_of g first → ((calls : ℕ) → ¬ Pays calls (length items)) → ¬ CanMake g first rest
none_pays g first rest items is never can = never (length (first ∷ rest)) (subst (λ (js : List Item). Pays (length (first ∷ rest)) (length js)) (sym is) can.pays)

-- two blocks at least
pub two_in_group : (g : Graph) (first : ℕ) (group rest : List ℕ) → IsGroupOf g first group → CanMake g first rest → length group < 2 → ⊥
two_in_group g first group rest of can few =
    let inside : (b : ℕ) → Contains (first ∷ rest) b → Contains group b = λ b there. of.whole b (All-contains (HasBody g (items_of g first)) (first ∷ rest) b can.bodies there) in
    let fewer = no_more (first ∷ rest) group can.distinct inside in
    pays_two (length (first ∷ rest)) (length (items_of g first)) can.pays (omega (arith, fewer, few))
  where
    pays_two : (calls n : ℕ) → Pays calls n → calls < 2 → ⊥
    pays_two zero n paid under = omega (arith, paid)
    pays_two (suc zero) n paid under = omega (arith, paid)
    pays_two (suc (suc calls)) n paid under = omega (arith, under)

-- a candidate is such a choice

first_place : (xs : List ℕ) (P : ℕ → Type 0) (r : ℕ) → IsFirstOf xs P r → (k : ℕ) × ((k < length xs) × (get_or xs k 0 ≡ r))
first_place [] P r first = absurd first
first_place (x ∷ xs) P r (inl is) = (0, (omega arith, sym is.0))
first_place (x ∷ xs) P r (inr later) = let at = first_place xs P r later.1 in (suc at.0, (omega (arith, at.1.0), at.1.1))

pub made_can : (g : Graph) (first : ℕ) (others : List ℕ) (link saving : ℕ) → IsMade g first others link saving → CanMake g first others
made_can g first others link saving made = record {
  register = link;
  tried = first_place link_order (MayLink g (items_of g first) (ends_of g (first ∷ others))) link made.linked;
  distinct = made.distinct;
  bodies = made.bodies;
  may = link_may g (items_of g first) (ends_of g (first ∷ others)) link made.linked;
  pays = let saves = made.saves in let some = made.some in omega arith;
}

-- and there is a link where some register may be it
some_first : (xs : List ℕ) (P : ℕ → Type 0) (k : ℕ) → k < length xs → P (get_or xs k 0) → ((r : ℕ) → ¬ IsFirstOf xs P r) → ⊥
some_first [] P k there holds none = absurd (omega (arith, there))
some_first (x ∷ xs) P zero there holds none = none x (inl (refl, holds))
some_first (x ∷ xs) P (suc k) there holds none =
    let fails : ¬ P x = λ own. none x (inl (refl, own)) in
    some_first xs P k (omega (arith, there)) holds (λ r later. none r (inr (fails, later)))

pub link_exists : (g : Graph) (first : ℕ) (others : List ℕ) → CanMake g first others → ((r : ℕ) → ¬ IsLink g (items_of g first) (ends_of g (first ∷ others)) r) → ⊥
link_exists g first others can none =
    let P : ℕ → Type 0 = MayLink g (items_of g first) (ends_of g (first ∷ others)) in
    some_first link_order P can.tried.0 can.tried.1.0 (subst P (sym can.tried.1.1) can.may) none

-- what is asked of the blocks of a cut, by the place of the first

module _ (g : Graph) (blocks : List ℕ) (link : ℕ) where
  pub made_link : AreMade g blocks link → HaveLink g (get_or blocks 0 0) blocks link
  made_link are =
      let made = are.made in
      subst (λ bs. HaveLink g (get_or bs 0 0) bs link) (sym are.are)
      (record { distinct = made.distinct; bodies = made.bodies; pays = let saves = made.saves in let some = made.some in omega arith; linked = made.linked })

  pub made_some : AreMade g blocks link → 0 < length blocks
  made_some are = omega (arith, ap length are.are)

  pub link_made : 0 < length blocks → HaveLink g (get_or blocks 0 0) blocks link → AreMade g blocks link
  link_made some have = by_blocks blocks refl
    where
      by_blocks : (bs : List ℕ) → blocks ≡ bs → AreMade g blocks link
      by_blocks [] is = absurd (let e = ap length is in omega arith)
      by_blocks (first ∷ others) is =
          let here = subst (λ bs. HaveLink g (get_or bs 0 0) bs link) is have in
          let n = length (items_of g first) in
          let k = length (first ∷ others) in
          record {
            first = first;
            others = others;
            saving = k * (n - 1) - (n + 1);
            are = is;
            made = record { distinct = here.distinct; bodies = here.bodies; linked = here.linked; saves = let paid = here.pays in omega arith; some = let paid = here.pays in omega arith };
          }

-- where no blocks may be called together, no cut is a candidate
pub no_set : (g : Graph) → ((first : ℕ) (rest : List ℕ) → ¬ CanMake g first rest) → (cut : Cut) → ¬ IsMadeCut g cut
no_set g none cut candidate = none candidate.first candidate.others (made_can g candidate.first candidate.others cut.link cut.saving candidate.made)

-- where some may be, a cut of them is one, with some link
pub some_cut : (g : Graph) (first : ℕ) (others : List ℕ) (cut : Cut) → cut ≡ make_cut (first ∷ others) 0 0 → CanMake g first others → ((given : Cut) → IsCompleted cut given → ¬ IsMadeCut g given) → ⊥
some_cut g first others cut is can none =
    let n = length (items_of g first) in
    let k = length (first ∷ others) in
    let saving = k * (n - 1) - (n + 1) in
    link_exists g first others can (λ link linked.
    none (make_cut (first ∷ others) link saving)
    (subst (λ c. IsCompleted c (make_cut (first ∷ others) link saving)) (sym is) (record { row = refl; blocks = λ other. refl; procedure = refl; other = refl; length = refl }))
    (record {
      first = first;
      others = others;
      made = record { distinct = can.distinct; bodies = can.bodies; linked = linked; saves = let paid = can.pays in omega arith; some = let paid = can.pays in omega arith };
      is = refl;
    }))

module _ (g : Graph) (blocks : List ℕ) (bodies : All (HasBody g (items_of g (get_or blocks 0 0))) blocks) where
  each_there : All (HasBlock g) blocks
  each_there k d l = let body = bodies k d l in body.there

  pub blocks_few : IsDistinct nat_eq blocks → length blocks ≤ length g.blocks
  blocks_few distinct =
      omega (
        arith,
        no_more blocks (names_of g) distinct (λ b there. listed g b (All-contains (HasBlock g) blocks b each_there there)),
        length-map g.blocks (λ b. b.name),
      )

  pub ends_places : All (IsPlace g) (ends_of g blocks)
  ends_places =
      All-map (IsPlace g) (end_of g) blocks (λ k d l. record { there = each_there k d l; within = omega arith })

  -- what is found is the link, where a word is saved
  pub link_found : (o : Option ℕ) (items : List Item) (places : List Site) → items ≡ items_of g (get_or blocks 0 0) → places ≡ ends_of g blocks → MatchOption o ((r : ℕ) → ¬ IsLink g items places r) (IsLink g items places) → IsDistinct nat_eq blocks → Pays (length blocks) (length items) → 0 < length blocks → IfSome o (AreMade g blocks) × (o ≡ None → (link : ℕ) → ¬ AreMade g blocks link)
  link_found None items places is at found distinct paid some = (
    tt,
    λ e link are. found link (subst (λ (ps : List Site). IsLink g items ps link) (sym at) (subst (λ (xs : List Item). IsLink g xs (ends_of g blocks) link) (sym is) (made_link g blocks link are).linked)),
  )
  link_found (Some r) items places is at found distinct paid some = (
    link_made g blocks r some
        (record {
          distinct = distinct;
          bodies = bodies;
          pays = subst (λ (xs : List Item). Pays (length blocks) (length xs)) is paid;
          linked = subst (λ (xs : List Item). IsLink g xs (ends_of g blocks) r) is (subst (λ (ps : List Site). IsLink g items ps r) at found);
        }),
    λ e link are. absurd (cc),
  )

-- what is saved is no more than all words
pub saving_fits : (g : Graph) (blocks : List ℕ) (link : ℕ) → IsGraph g → words_of g < 2 ^ 31 → AreMade g blocks link → (bs : List ℕ) (items : List Item) → bs ≡ blocks → items ≡ items_of g (get_or bs 0 0) → length bs * (length items - 1) < 2 ^ 32
saving_fits g blocks link rules few are bs items same is =
    let made = are.made in
    let words = (made_applied g are.first are.others link are.saving rules made).words in
    let short = items_few g are.first few in
    let product : length (are.first ∷ are.others) * (length (items_of g are.first) - 1) < 2 ^ 32 = omega (arith, made.saves, words, short, few) in
    let all : bs ≡ are.first ∷ are.others = same ∙ are.are in
    let first_is : get_or bs 0 0 ≡ are.first = ap (λ xs. get_or xs 0 0) all in
    let items_are : items ≡ items_of g are.first = is ∙ ap (items_of g) first_is in
    subst (λ (xs : List ℕ). length xs * (length items - 1) < 2 ^ 32) (sym all)
    (subst (λ (xs : List Item). length (are.first ∷ are.others) * (length xs - 1) < 2 ^ 32) (sym items_are) product)

-- a candidate's blocks are those of the cut that it completes
pub completes_made : (g : Graph) (cut given : Cut) → cut.row ≡ O1 → IsCompleted cut given → IsMadeCut g given → AreMade g cut.blocks given.link
completes_made g cut given row done candidate =
    let no_u : cut.row ≢ U = λ u. let e : O1 ≡ U = sym row ∙ u in absurd (cc) in
    record {
      first = candidate.first;
      others = candidate.others;
      saving = given.saving;
      are = sym (done.blocks no_u) ∙ ap (λ (c : Cut). c.blocks) candidate.is;
      made = candidate.made;
    }

pub some_blocks : (xs : List ℕ) → (length xs == 0) ≡ false → 0 < length xs
some_blocks [] e = absurd (cc)
some_blocks (x ∷ xs) e = omega arith
