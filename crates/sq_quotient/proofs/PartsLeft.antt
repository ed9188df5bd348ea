-- The graph that is made of the parts of the blocks that are left.
use Rattle.std.proofs.Common.{◌≡◌, ℕ, ◌+◌, ◌==◌, Bool, true, false, ◌&&◌, not, List, [], ◌∷◌, ◌++◌, map, length, take, drop, Option, None, Some, inl, inr, refl, sym, ap, ◌∙◌, subst, arith, length-append}
use Rattle.std.specs.List.{AllByRecursion}
use Rattle.std.proofs.lemmas.Bool.{cases_Bool}
use Rattle.std.proofs.lemmas.List.{length-map, append_assoc}
use Rattle.std.proofs.lemmas.List.Sums.{sum_by-cons}
use Rattle.std.proofs.Math.Seq.{take-append_seam, drop-append_seam}
use Rattle.sq_graph.specs.declared.item.Item.{Item}
use Rattle.sq_graph.specs.declared.item.Term.{Term}
use Rattle.sq_graph.specs.declared.item.Term.TheVariants.{Jump}
use Rattle.sq_graph.specs.declared.parts.BlockPart.{BlockPart}
use Rattle.sq_graph.specs.declared.parts.ProcedurePart.{ProcedurePart}
use Rattle.sq_graph.specs.Graph.{Block, Procedure, Graph}
use Rattle.sq_graph.specs.Blocks.{HasBlock, items_of_blocks, items_of_bodies}
use Rattle.sq_graph.specs.Leaders.{is_fall}
use Rattle.sq_graph.specs.Parts.{names_of, blocks_of_parts, procedures_of_parts, length_of_blocks, length_of_bodies, LengthsFit, graph_of_parts}
use Rattle.sq_graph.specs.Renames.{retargeted_item, retargeted_items, retargeted_term, retargeted_block, retargeted_procedure, retargeted_words, retargeted, renamed_block}
use Rattle.sq_graph.specs.Rules.{IsGraph}
use Rattle.sq_graph.specs.Slotted.{position_in, slotted}
use Rattle.sq_graph.specs.Terms.{goes_on}
use Rattle.sq_graph.proofs.Bypassing.{items_twice, term_twice, words_twice, procedures_twice}
use Rattle.sq_graph.proofs.Renamed.{names_there, other_same}
use Rattle.sq_graph.proofs.Slotting.{AreNumbered, positions_numbered}
use Rattle.sq_quotient.specs.Folding.{falls_away, lands_at, landed, stayed, folded_blocks, folded_by}
use Rattle.sq_quotient.specs.Staying.{gone_next, next_in, parts_by, parts_of, items_left, procedure_part}

abbrev pub part_of : Block → BlockPart
part_of b = record { length = length b.items; term = b.term }

-- ---- a graph is made of its parts

pub blocks_again : (k : ℕ) (bs : List Block) (tail : List Item) → AreNumbered (λ m. m) k (map (λ b. b.name) bs) → blocks_of_parts k (map part_of bs) (items_of_blocks bs ++ tail) ≡ bs
blocks_again k [] tail are = refl
blocks_again k (b ∷ bs) tail are =
    let whole : items_of_blocks (b ∷ bs) ++ tail ≡ b.items ++ (items_of_blocks bs ++ tail) = append_assoc b.items (items_of_blocks bs) tail in
    let first : take (length b.items) (items_of_blocks (b ∷ bs) ++ tail) ≡ b.items = ap (take (length b.items)) whole ∙ take-append_seam b.items (items_of_blocks bs ++ tail) in
    let others : drop (length b.items) (items_of_blocks (b ∷ bs) ++ tail) ≡ items_of_blocks bs ++ tail = ap (drop (length b.items)) whole ∙ drop-append_seam b.items (items_of_blocks bs ++ tail) in
    let rest : blocks_of_parts (k + 1) (map part_of bs) (drop (length b.items) (items_of_blocks (b ∷ bs) ++ tail)) ≡ bs = ap (blocks_of_parts (k + 1) (map part_of bs)) others ∙ blocks_again (k + 1) bs tail are.1 in
    let name : k ≡ b.name = sym are.0 in
    λ i. record { name = name i; items = first i; term = b.term } ∷ rest i

pub bodies_again : (ps : List Procedure) → procedures_of_parts (map procedure_part ps) (items_of_bodies ps) ≡ ps
bodies_again [] = refl
bodies_again (p ∷ ps) =
    let first = take-append_seam p.body (items_of_bodies ps) in
    let rest : procedures_of_parts (map procedure_part ps) (drop (length p.body) (items_of_bodies (p ∷ ps))) ≡ ps = ap (procedures_of_parts (map procedure_part ps)) (drop-append_seam p.body (items_of_bodies ps)) ∙ bodies_again ps in
    λ i. record { link = p.link; body = first i } ∷ rest i

pub blocks_long : (bs : List Block) → length_of_blocks (map part_of bs) ≡ length (items_of_blocks bs)
blocks_long [] = refl
blocks_long (b ∷ bs) = omega (arith, blocks_long bs, sum_by-cons (λ (part : BlockPart). part.length) (part_of b) (map part_of bs), length-append b.items (items_of_blocks bs))

pub bodies_long : (ps : List Procedure) → length_of_bodies (map procedure_part ps) ≡ length (items_of_bodies ps)
bodies_long [] = refl
bodies_long (p ∷ ps) = omega (arith, bodies_long ps, sum_by-cons (λ (part : ProcedurePart). part.length) (procedure_part p) (map procedure_part ps), length-append p.body (items_of_bodies ps))

pub lengths_fit : (bs : List Block) (ps : List Procedure) → LengthsFit (map part_of bs) (items_of_blocks bs ++ items_of_bodies ps) (map procedure_part ps)
lengths_fit bs ps = omega (arith, blocks_long bs, bodies_long ps, length-append (items_of_blocks bs) (items_of_bodies ps))

pub made_again : (h : Graph) → AreNumbered (λ m. m) 0 (names_of h) → graph_of_parts (map part_of h.blocks) (items_of_blocks h.blocks ++ items_of_bodies h.procedures) h.entry h.code_words (map procedure_part h.procedures) ≡ h
made_again h are =
    let blocks = blocks_again 0 h.blocks (items_of_bodies h.procedures) are in
    let tail : drop (length_of_blocks (map part_of h.blocks)) (items_of_blocks h.blocks ++ items_of_bodies h.procedures) ≡ items_of_bodies h.procedures =
    ap (λ n. drop n (items_of_blocks h.blocks ++ items_of_bodies h.procedures)) (blocks_long h.blocks) ∙ drop-append_seam (items_of_blocks h.blocks) (items_of_bodies h.procedures) in
    let procedures = ap (procedures_of_parts (map procedure_part h.procedures)) tail ∙ bodies_again h.procedures in
    λ i. record { blocks = blocks i; entry = h.entry; code_words = h.code_words; procedures = procedures i }

-- ---- names by other functions

same_procedure_parts : (f : ℕ → ℕ) (ps : List Procedure) → map procedure_part (map (retargeted_procedure f) ps) ≡ map procedure_part ps
same_procedure_parts f [] = refl
same_procedure_parts f (p ∷ ps) =
    let size : length (retargeted_items f p.body) ≡ length p.body = length-map p.body (retargeted_item f) in
    let rest = same_procedure_parts f ps in
    λ i. record { link = p.link; length = size i } ∷ rest i

-- where two functions make one graph, and tell the same of its blocks, they make the same parts
module _ (place other f : ℕ → ℕ) where
  by_same : (length : ℕ) (t : Term) (o : Option ℕ) → retargeted_term place t ≡ retargeted_term other t → ((n : ℕ) → o ≡ Some n → place n ≡ other n) → parts_by place length t o ≡ parts_by other length t o
  by_same length t None term next = ap (λ u. record { length = length; term = u } ∷ []) term
  by_same length t (Some n) term next =
      let jump : Jump (place n) ≡ Jump (other n) = ap Jump (next n refl) in
      elim (cases_Bool (is_fall t)) [
        | inl fall ↦ rw fall (ap (λ u. record { length = length; term = u } ∷ []) jump)
        | inr plain ↦ rw plain (λ i. record { length = length; term = term i } ∷ record { length = 0; term = jump i } ∷ [])
      ]

  next_there : (P : ℕ → Type 0) (t : Term) (rest : List Block) (n : ℕ) → AllByRecursion (λ c. P c.name) rest → gone_next f (Some t) (next_in rest) ≡ Some n → P n
  next_there P t [] n all e = absurd (cc)
  next_there P t (c ∷ rest) n all e =
      elim (cases_Bool (goes_on t && not (f c.name == c.name))) [
        | inl away ↦ let is : Some c.name ≡ Some n = rw away at e in let same : c.name ≡ n = cc in subst P same all.0
        | inr stays ↦ absurd (let is : None ≡ Some n = rw stays at e in cc)
      ]

  parts_same : (bs : List Block) → map (retargeted_block place) bs ≡ map (retargeted_block other) bs → AllByRecursion (λ b. place b.name ≡ other b.name) bs → (parts_of place f bs ≡ parts_of other f bs) × (items_left place f bs ≡ items_left other f bs)
  parts_same [] e all = (refl, refl)
  parts_same (b ∷ rest) e all =
      let own : retargeted_block place b ≡ retargeted_block other b = cc in
      let more : map (retargeted_block place) rest ≡ map (retargeted_block other) rest = cc in
      let later = parts_same rest more all.1 in
      let term : retargeted_term place b.term ≡ retargeted_term other b.term = ap (λ (c : Block). c.term) own in
      let items : retargeted_items place b.items ≡ retargeted_items other b.items = ap (λ (c : Block). c.items) own in
      let one = by_same (length b.items) b.term (gone_next f (Some b.term) (next_in rest)) term (λ n h. next_there (λ m. place m ≡ other m) b.term rest n all.1 h) in
      elim (cases_Bool (f b.name == b.name)) [
        | inl kept ↦ (rw kept (λ i. one i ++ later.0 i), rw kept (λ i. items i ++ later.1 i))
        | inr gone ↦ (rw gone later.0, rw gone later.1)
      ]

-- the parts by names that go over to blocks that stay, and then to their positions
module _ (f p : ℕ → ℕ) where
  landed_parts : (d fl : Bool) (b : Block) (n to : ℕ) → List BlockPart
  landed_parts d fl b n to = map part_of (map (renamed_block p) (landed d fl b n to))

  size_is : (items : List Item) → length items ≡ length (retargeted_items p (retargeted_items f items))
  size_is items = sym (length-map (retargeted_items f items) (retargeted_item p) ∙ length-map items (retargeted_item f))

  parts_landed : (b : Block) (rest : List Block) (n : ℕ) → parts_by (λ m. p (f m)) (length b.items) b.term (gone_next f (Some b.term) (next_in rest)) ≡ map part_of (map (renamed_block p) (landed (falls_away f b rest) (is_fall b.term) (retargeted_block f b) n (lands_at f rest)))
  parts_landed b [] n = let size = size_is b.items in let term = sym (term_twice f p b.term) in λ i. record { length = size i; term = term i } ∷ []
  parts_landed b (c ∷ rest) n =
      let size = size_is b.items in
      let term = sym (term_twice f p b.term) in
      elim (cases_Bool (goes_on b.term && not (f c.name == c.name))) [
        | inl away ↦ rw away (elim (cases_Bool (is_fall b.term)) [
          | inl fall ↦ rw fall (λ i. record { length = size i; term = Jump (p (f c.name)) } ∷ [])
          | inr plain ↦ rw plain (λ i. record { length = size i; term = term i } ∷ record { length = 0; term = Jump (p (f c.name)) } ∷ [])
        ])
        | inr stays ↦ rw stays (λ i. record { length = size i; term = term i } ∷ [])
      ]

  items_landed : (d fl : Bool) (b : Block) (n to : ℕ) (more : List Block) → items_of_blocks (map (renamed_block p) (landed d fl b n to ++ more)) ≡ retargeted_items p b.items ++ items_of_blocks (map (renamed_block p) more)
  items_landed false fl b n to more = refl
  items_landed true true b n to more = refl
  items_landed true false b n to more = refl

  map_append : (xs ys : List Block) → map part_of (map (renamed_block p) (xs ++ ys)) ≡ map part_of (map (renamed_block p) xs) ++ map part_of (map (renamed_block p) ys)
  map_append [] ys = refl
  map_append (x ∷ xs) ys = ap (λ zs. part_of (renamed_block p x) ∷ zs) (map_append xs ys)

  pub parts_are : (new : ℕ → ℕ) (bs : List Block) → parts_of (λ m. p (f m)) f bs ≡ map part_of (map (renamed_block p) (folded_blocks f new bs))
  parts_are new [] = refl
  parts_are new (b ∷ rest) =
      let later = parts_are new rest in
      elim (cases_Bool (f b.name == b.name)) [
        | inl kept ↦ rw kept ((λ i. parts_landed b rest (new b.name) i ++ later i) ∙ sym (map_append (stayed f new b rest) (folded_blocks f new rest)))
        | inr gone ↦ rw gone later
      ]

  pub items_are : (new : ℕ → ℕ) (bs : List Block) → items_left (λ m. p (f m)) f bs ≡ items_of_blocks (map (renamed_block p) (folded_blocks f new bs))
  items_are new [] = refl
  items_are new (b ∷ rest) =
      let later = items_are new rest in
      let own = sym (items_twice f p b.items) in
      elim (cases_Bool (f b.name == b.name)) [
        | inl kept ↦ rw kept ((λ i. own i ++ later i) ∙ sym (items_landed (falls_away f b rest) (is_fall b.term) (retargeted_block f b) (new b.name) (lands_at f rest) (folded_blocks f new rest)))
        | inr gone ↦ rw gone later
      ]

-- ---- the folded graph, named by positions

named_numbers : (p : ℕ → ℕ) (k : ℕ) (bs : List Block) → AreNumbered p k (map (λ b. b.name) bs) → AreNumbered (λ m. m) k (map (λ b. b.name) (map (renamed_block p) bs))
named_numbers p k [] are = tt
named_numbers p k (b ∷ bs) are = (are.0, named_numbers p (k + 1) bs are.1)

module _ (g : Graph) (f new place : ℕ → ℕ) (rules : IsGraph g) (left : IsGraph (folded_by f new g)) (same : (n : ℕ) → HasBlock g n → place n ≡ position_in (names_of (folded_by f new g)) (f n)) where
  abbrev h : Graph
  h = folded_by f new g

  abbrev p : ℕ → ℕ
  p = position_in (names_of h)

  abbrev there : ℕ → ℕ
  there n = p (f n)

  one_graph : retargeted place g ≡ retargeted there g
  one_graph = other_same g place (λ n. n) there (λ n. n) same (λ n has. refl) rules

  same_names : AllByRecursion (λ b. place b.name ≡ there b.name) g.blocks
  same_names = go g.blocks (names_there g.blocks)
    where
      go : (bs : List Block) → AllByRecursion (λ b. HasBlock g b.name) bs → AllByRecursion (λ b. place b.name ≡ there b.name) bs
      go [] all = tt
      go (b ∷ bs) all = (same b.name all.0, go bs all.1)

  both : (parts_of place f g.blocks ≡ parts_of there f g.blocks) × (items_left place f g.blocks ≡ items_left there f g.blocks)
  both = parts_same place there f g.blocks (ap (λ (k : Graph). k.blocks) one_graph) same_names

  pub parts_left : parts_of place f g.blocks ≡ map part_of (slotted h).blocks
  parts_left = both.0 ∙ parts_are f p new g.blocks

  procedures_left : map (retargeted_procedure place) g.procedures ≡ (slotted h).procedures
  procedures_left = ap (λ (k : Graph). k.procedures) one_graph ∙ sym (procedures_twice f p g.procedures)

  pub items_here : items_left place f g.blocks ++ items_of_bodies (map (retargeted_procedure place) g.procedures) ≡ items_of_blocks (slotted h).blocks ++ items_of_bodies (slotted h).procedures
  items_here = λ i. (both.1 ∙ items_are f p new g.blocks) i ++ items_of_bodies (procedures_left i)

  pub entry_left : HasBlock g g.entry → place g.entry ≡ (slotted h).entry
  entry_left has = same g.entry has

  pub words_left : retargeted_words place g.code_words ≡ (slotted h).code_words
  words_left = ap (λ (k : Graph). k.code_words) one_graph ∙ sym (words_twice f p g.code_words)

  pub procedure_parts_left : map procedure_part g.procedures ≡ map procedure_part (slotted h).procedures
  procedure_parts_left = sym (ap (map procedure_part) (sym procedures_left) ∙ same_procedure_parts place g.procedures)

  pub slotted_again : graph_of_parts (map part_of (slotted h).blocks) (items_of_blocks (slotted h).blocks ++ items_of_bodies (slotted h).procedures) (slotted h).entry (slotted h).code_words (map procedure_part (slotted h).procedures) ≡ slotted h
  slotted_again = made_again (slotted h) (named_numbers p 0 h.blocks (positions_numbered h left))

-- ---- one more block

module _ (q f : ℕ → ℕ) (b : Block) (rest : List Block) where
  pub parts_kept : (done : List BlockPart) → (f b.name == b.name) ≡ true → (done ++ parts_by q (length b.items) b.term (gone_next f (Some b.term) (next_in rest))) ++ parts_of q f rest ≡ done ++ parts_of q f (b ∷ rest)
  parts_kept done kept = append_assoc done (parts_by q (length b.items) b.term (gone_next f (Some b.term) (next_in rest))) (parts_of q f rest) ∙ rw kept refl

  pub items_kept : (done : List Item) → (f b.name == b.name) ≡ true → (done ++ retargeted_items q b.items) ++ items_left q f rest ≡ done ++ items_left q f (b ∷ rest)
  items_kept done kept = append_assoc done (retargeted_items q b.items) (items_left q f rest) ∙ rw kept refl

  pub parts_gone : (f b.name == b.name) ≡ false → parts_of q f rest ≡ parts_of q f (b ∷ rest)
  parts_gone gone = rw gone refl

  pub items_gone : (f b.name == b.name) ≡ false → items_left q f rest ≡ items_left q f (b ∷ rest)
  items_gone gone = rw gone refl
