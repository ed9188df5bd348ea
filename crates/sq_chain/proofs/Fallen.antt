-- A graph in which each Jump to the next slot is Fall follows it.
use Rattle.std.proofs.Common.{◌≡◌, ◌≢◌, ℕ, ◌+◌, ◌==◌, false, if◌then◌else◌, List, [], ◌∷◌, ◌++◌, length, Option, Some, None, is_some, inl, inr, refl, sym, ap, ◌∙◌, subst, arith, append_assoc}
use Rattle.std.proofs.lemmas.Bool.{cases_Bool, eqb-true, eq-eqb, ne_eqb}
use Rattle.std.proofs.lemmas.List.Elements.{All-nil}
use Rattle.sq_arena.specs.Entries.{starting_at, first_key}
use Rattle.sq_arena.proofs.EntriesLaws.{starting_at-append}
use Rattle.sq_graph.specs.declared.item.Term.{Term}
use Rattle.sq_graph.specs.declared.item.Term.TheVariants.{Fall, Jump, Branch, Call, PartJump, Indirect, Stop}
use Rattle.sq_graph.specs.Graph.{Block, Graph}
use Rattle.sq_graph.specs.Blocks.{named, HasBlock, block_of, block_term, first_of, next_of, term_of}
use Rattle.sq_graph.specs.Cursor.{rest_from}
use Rattle.sq_graph.specs.Operations.{with_blocks, with_term}
use Rattle.sq_graph.specs.Rules.{IsGraph}
use Rattle.sq_graph.specs.Soundness.{IsSound}
use Rattle.sq_graph.proofs.Changes.{with_blocks-at}
use Rattle.sq_graph.proofs.Located.{named-append}
use Rattle.sq_graph.proofs.OperationRules.{with_term_rules}
use Rattle.law_follow.specs.Follows.{Follows}
use Rattle.law_follow.proofs.Following.{graph_follows_itself, graph_follows_through}
use Rattle.sq_lookup.proofs.Targets.{has_term}
use Rattle.law_patch.proofs.OneBlock.{fall_follows, fall_sound}
use Rattle.sq_chain.specs.Moves.{JumpsToNext, fallen_term, fallen_blocks, fallen}
use Rattle.sq_chain.proofs.Near.{here, found_here}
use Rattle.sq_chain.proofs.OneMore.{slot_behind}

-- what becomes of a graph that keeps runs
pub record Keeps (g h : Graph) : Type 0 where
  pub rules : IsGraph h
  pub follows : Follows g h
  pub sound : IsSound g → IsSound h

pub keeps_itself : (g : Graph) → IsGraph g → Keeps g g
keeps_itself g rules = record { rules = rules; follows = graph_follows_itself g; sound = λ s. s }

pub keeps_through : (f g h : Graph) → Keeps f g → Keeps g h → Keeps f h
keeps_through f g h a b = record { rules = b.rules; follows = graph_follows_through f g h a.follows b.follows; sound = λ s. b.sound (a.sound s) }

pub fall_keeps : (g : Graph) (block n : ℕ) → IsGraph g → term_of g block ≡ Some (Jump n) → next_of g block ≡ Some n → Keeps g (with_term g block Fall)
fall_keeps g block n rules jump slot = record {
  rules = with_term_rules g block Fall rules (has_term g block (Jump n) jump) tt (All-nil (HasBlock g)) (λ on. ap is_some slot);
  follows = fall_follows g block n rules jump slot;
  sound = λ s. fall_sound g block n rules jump slot s;
}

-- one block's term
pub one_fallen : (g : Graph) (front : List Block) (b next : Block) (rest : List Block) (t : Term) → IsGraph g → g.blocks ≡ front ++ (b ∷ next ∷ rest) → b.term ≡ t → Keeps g (record g { blocks = front ++ (record b { term = fallen_term next.name t } ∷ next ∷ rest) })
one_fallen g front b next rest t rules e is = by_term t is
  where
    stays : (k : Term) → b.term ≡ k → Keeps g (record g { blocks = front ++ (record b { term = k } ∷ next ∷ rest) })
    stays k is = subst (λ (bs : List Block). Keeps g (record g { blocks = bs })) (e ∙ ap (λ u. front ++ (record b { term = u } ∷ next ∷ rest)) is) (keeps_itself g rules)

    falls : (to : ℕ) → b.term ≡ Jump to → to ≡ next.name → Keeps g (record g { blocks = front ++ (record b { term = Fall } ∷ next ∷ rest) })
    falls to is same =
        let at = here g rules front b (next ∷ rest) e in
        let jump : term_of g b.name ≡ Some (Jump to) = ap block_term (found_here g rules front b (next ∷ rest) e) ∙ ap Some is in
        let slot : next_of g b.name ≡ Some to = slot_behind g.blocks b.name at ∙ ap Some (sym same) in
        subst (λ (bs : List Block). Keeps g (record g { blocks = bs })) (with_blocks-at (λ c. record c { term = Fall } ∷ []) g.blocks b.name at) (fall_keeps g b.name to rules jump slot)

    by_term : (k : Term) → b.term ≡ k → Keeps g (record g { blocks = front ++ (record b { term = fallen_term next.name k } ∷ next ∷ rest) })
    by_term Fall is = stays Fall is
    by_term (Jump to) is =
        elim (cases_Bool (to == next.name)) [
          | inl same ↦ rw same (falls to is (eqb-true to next.name same))
          | inr apart ↦ rw apart (stays (Jump to) is)
        ]
    by_term (Branch cond x y to) is = stays (Branch cond x y to) is
    by_term (Call link to) is = stays (Call link to) is
    by_term (PartJump link part to) is = stays (PartJump link part to) is
    by_term (Indirect link x offset) is = stays (Indirect link x offset) is
    by_term (Stop word) is = stays (Stop word) is

fallen_from : (g : Graph) (front bs : List Block) → IsGraph g → g.blocks ≡ front ++ bs → Keeps g (record g { blocks = front ++ fallen_blocks bs })
fallen_from g front [] rules e = subst (λ (bs : List Block). Keeps g (record g { blocks = bs })) e (keeps_itself g rules)
fallen_from g front (b ∷ []) rules e = subst (λ (bs : List Block). Keeps g (record g { blocks = bs })) e (keeps_itself g rules)
fallen_from g front (b ∷ next ∷ rest) rules e =
    let one = one_fallen g front b next rest b.term rules e refl in
    let c : Block = record b { term = fallen_term next.name b.term } in
    let mid : Graph = record g { blocks = front ++ (record b { term = fallen_term next.name b.term } ∷ next ∷ rest) } in
    let later = fallen_from mid (front ++ c ∷ []) (next ∷ rest) one.rules (sym (append_assoc front (c ∷ []) (next ∷ rest))) in
    subst (λ (bs : List Block). Keeps g (record g { blocks = bs })) (append_assoc front (c ∷ []) (fallen_blocks (next ∷ rest)))
    (keeps_through g mid (record g { blocks = (front ++ c ∷ []) ++ fallen_blocks (next ∷ rest) }) one later)

pub fallen_keeps : (g : Graph) → IsGraph g → Keeps g (fallen g)
fallen_keeps g rules = fallen_from g [] g.blocks rules refl

-- ONE BLOCK AFTER ANOTHER

-- the blocks up to these are fallen already
pub record FallsSoFar (g h : Graph) (bs : List Block) : Type 0 where
  pub front : List Block
  pub is : h ≡ record g { blocks = front ++ bs }
  pub whole : front ++ fallen_blocks bs ≡ fallen_blocks g.blocks
  pub keeps : Keeps g h

pub falls_first : (g : Graph) → IsGraph g → FallsSoFar g g g.blocks
falls_first g rules = record { front = []; is = refl; whole = refl; keeps = keeps_itself g rules }

pub falls_last : (g h : Graph) → FallsSoFar g h [] → h ≡ fallen g
falls_last g h w = w.is ∙ ap (λ (bs : List Block). record g { blocks = bs }) w.whole

blocks : (g h : Graph) (b : Block) (rest : List Block) (w : FallsSoFar g h (b ∷ rest)) → h.blocks ≡ w.front ++ (b ∷ rest)
blocks g h b rest w = ap (λ (k : Graph). k.blocks) w.is

-- what is fallen of a block and those behind it
jumped_falls : (b : Block) (rest : List Block) (to : ℕ) → b.term ≡ Jump to → first_key (named rest) ≡ Some to → fallen_blocks (b ∷ rest) ≡ record b { term = Fall } ∷ fallen_blocks rest
jumped_falls b [] to jump first = absurd (cc)
jumped_falls b (n ∷ rest) to jump first =
    let same : n.name ≡ to = cc in
    let falls : fallen_term n.name b.term ≡ Fall = ap (fallen_term n.name) jump ∙ ap (λ t. if t then Fall else Jump to) (eq-eqb to n.name (sym same)) in
    ap (λ t. record b { term = t } ∷ fallen_blocks (n ∷ rest)) falls

pub other_stays : (n : ℕ) (t : Term) → ((to : ℕ) → t ≡ Jump to → n ≢ to) → fallen_term n t ≡ t
other_stays n Fall apart = refl
other_stays n (Jump to) apart =
    let other : (to == n) ≡ false = ne_eqb to n (λ same. apart to refl (sym same)) in
    ap (λ t. if t then Fall else Jump to) other
other_stays n (Branch cond x y to) apart = refl
other_stays n (Call link to) apart = refl
other_stays n (PartJump link part to) apart = refl
other_stays n (Indirect link x offset) apart = refl
other_stays n (Stop word) apart = refl

pub others_stay : (b : Block) (rest : List Block) → ((to : ℕ) → b.term ≡ Jump to → first_key (named rest) ≡ Some to → ⊥) → fallen_blocks (b ∷ rest) ≡ b ∷ fallen_blocks rest
others_stay b [] apart = refl
others_stay b (n ∷ rest) apart =
    let stays : fallen_term n.name b.term ≡ b.term = other_stays n.name b.term (λ to jump same. apart to jump (ap Some same)) in
    ap (λ t. record b { term = t } ∷ fallen_blocks (n ∷ rest)) stays

module _ (g h : Graph) (b : Block) (rest : List Block) (w : FallsSoFar g h (b ∷ rest)) where
  found : block_of h b.name ≡ Some b
  found = found_here h w.keeps.rules w.front b rest (blocks g h b rest w)

  pub falls_there : HasBlock h b.name
  falls_there = ap is_some found

  slot_is : next_of h b.name ≡ first_key (named rest)
  slot_is = slot_behind h.blocks b.name (here h w.keeps.rules w.front b rest (blocks g h b rest w))

  -- a Jump to the next slot falls
  pub falls_on : JumpsToNext h b.name → FallsSoFar g (with_term h b.name Fall) rest
  falls_on j =
      let jump : b.term ≡ Jump j.to = let same : Some b.term ≡ Some (Jump j.to) = sym (ap block_term found) ∙ j.jump in cc in
      let first : first_key (named rest) ≡ Some j.to = sym slot_is ∙ j.next in
      let c : Block = record b { term = Fall } in
      record {
        front = w.front ++ record b { term = Fall } ∷ [];
        is =
            ap (λ (k : Graph). record k { blocks = with_blocks (λ x. record x { term = Fall } ∷ []) h.blocks b.name }) w.is
            ∙ ap (λ (bs : List Block). record g { blocks = bs })
            (with_blocks-at (λ x. record x { term = Fall } ∷ []) h.blocks b.name (here h w.keeps.rules w.front b rest (blocks g h b rest w))
            ∙ sym (append_assoc w.front (c ∷ []) rest));
        whole = append_assoc w.front (c ∷ []) (fallen_blocks rest) ∙ ap (λ bs. w.front ++ bs) (sym (jumped_falls b rest j.to jump first)) ∙ w.whole;
        keeps = keeps_through g h (with_term h b.name Fall) w.keeps (fall_keeps h b.name j.to w.keeps.rules j.jump j.next);
      }

  -- and no other term does
  pub falls_not : ¬ JumpsToNext h b.name → FallsSoFar g h rest
  falls_not other =
      let apart : (to : ℕ) → b.term ≡ Jump to → first_key (named rest) ≡ Some to → ⊥ = λ to jump first. other (record { to = to; jump = ap block_term found ∙ ap Some jump; next = slot_is ∙ first }) in
      record {
        front = w.front ++ b ∷ [];
        is = w.is ∙ ap (λ (bs : List Block). record g { blocks = bs }) (sym (append_assoc w.front (b ∷ []) rest));
        whole = append_assoc w.front (b ∷ []) (fallen_blocks rest) ∙ ap (λ bs. w.front ++ bs) (sym (others_stay b rest apart)) ∙ w.whole;
        keeps = w.keeps;
      }

-- A WALK

-- the blocks from this place on are still to fall
pub record FallsFrom (g h : Graph) (place : Option ℕ) : Type 0 where
  pub rest : List Block
  pub so_far : FallsSoFar g h rest
  pub at : place ≡ first_key (named rest)

pub falls_from_first : (g : Graph) (n : ℕ) → IsGraph g → first_of g ≡ Some n → FallsFrom g g (Some n)
falls_from_first g n rules first = record { rest = g.blocks; so_far = falls_first g rules; at = sym first }

pub falls_to_end : (g h : Graph) → FallsFrom g h None → h ≡ fallen g
falls_to_end g h f = by_rest f.rest f.so_far f.at
  where
    by_rest : (rest : List Block) → FallsSoFar g h rest → None ≡ first_key (named rest) → h ≡ fallen g
    by_rest [] w e = falls_last g h w
    by_rest (b ∷ rest) w e = absurd (cc)

pub named_length : (bs : List Block) → length (named bs) ≡ length bs
named_length [] = refl
named_length (b ∷ bs) = omega (arith, named_length bs)

-- how many are left
pub falls_left : (g h : Graph) (place : Option ℕ) (f : FallsFrom g h place) → length (rest_from (named h.blocks) place) ≡ length f.rest
falls_left g h place f = by_rest f.rest f.so_far f.at
  where
    by_rest : (rest : List Block) → FallsSoFar g h rest → place ≡ first_key (named rest) → length (rest_from (named h.blocks) place) ≡ length rest
    by_rest [] w e = ap (λ (o : Option ℕ). length (rest_from (named h.blocks) o)) e
    by_rest (b ∷ rest) w e =
        let spot = here h w.keeps.rules w.front b rest (blocks g h b rest w) in
        let start : starting_at (named h.blocks) b.name ≡ (b.name, b) ∷ named rest =
        ap (λ (es : List (ℕ × Block)). starting_at es b.name) (ap named (blocks g h b rest w) ∙ named-append w.front (b ∷ rest)) ∙ starting_at-append (named w.front) (named rest) b.name b spot.ahead in
        omega (arith, ap (λ (o : Option ℕ). length (rest_from (named h.blocks) o)) e, ap (λ (es : List (ℕ × Block)). length es) start, named_length rest)

module _ (g h : Graph) (n : ℕ) (f : FallsFrom g h (Some n)) where
  pub first_left : (b : Block) × ((rest : List Block) × ((f.rest ≡ b ∷ rest) × (b.name ≡ n)))
  first_left = by_rest f.rest f.at
    where
      by_rest : (rest : List Block) → Some n ≡ first_key (named rest) → (b : Block) × ((others : List Block) × ((rest ≡ b ∷ others) × (b.name ≡ n)))
      by_rest [] e = absurd (cc)
      by_rest (b ∷ rest) e = (b, (rest, (refl, cc)))

  pub falls_here : FallsSoFar g h (first_left.0 ∷ first_left.1.0)
  falls_here = subst (FallsSoFar g h) first_left.1.1.0 f.so_far

  pub slot_left : next_of h n ≡ first_key (named first_left.1.0)
  slot_left = ap (next_of h) (sym first_left.1.1.1) ∙ slot_is g h first_left.0 first_left.1.0 falls_here

  pub falls_has : HasBlock h n
  falls_has = subst (HasBlock h) first_left.1.1.1 (falls_there g h first_left.0 first_left.1.0 falls_here)

  abbrev pub falls_next : JumpsToNext h n → FallsFrom g (with_term h n Fall) (next_of h n)
  falls_next j = record {
    rest = first_left.1.0;
    so_far = subst (λ (k : ℕ). FallsSoFar g (with_term h k Fall) first_left.1.0) first_left.1.1.1 (falls_on g h first_left.0 first_left.1.0 falls_here (subst (JumpsToNext h) (sym first_left.1.1.1) j));
    at = slot_left;
  }

  abbrev pub falls_past : ¬ JumpsToNext h n → FallsFrom g h (next_of h n)
  falls_past other = record {
    rest = first_left.1.0;
    so_far = falls_not g h first_left.0 first_left.1.0 falls_here (λ j. other (subst (JumpsToNext h) first_left.1.1.1 j));
    at = slot_left;
  }

  falls_shorter : length first_left.1.0 + 1 ≡ length f.rest
  falls_shorter = omega (arith, ap (λ (bs : List Block). length bs) first_left.1.1.0)

  pub next_left : (j : JumpsToNext h n) → length (rest_from (named (with_term h n Fall).blocks) (next_of h n)) + 1 ≡ length (rest_from (named h.blocks) (Some n))
  next_left j = omega (arith, falls_left g (with_term h n Fall) (next_of h n) (falls_next j), falls_shorter, falls_left g h (Some n) f)

  pub past_left : ¬ JumpsToNext h n → length (rest_from (named h.blocks) (next_of h n)) + 1 ≡ length (rest_from (named h.blocks) (Some n))
  past_left other = omega (arith, falls_left g h (next_of h n) (falls_past other), falls_shorter, falls_left g h (Some n) f)
