-- A graph in which every block that is fallen into and is no leader is joined to the one before follows it.
use Rattle.std.proofs.Common.{◌≡◌, ℕ, ◌≤◌, drop, length, IsSome, Bool, true, false, not, ◌&&◌, ◌==◌, if◌then◌else◌, List, [], ◌∷◌, ◌++◌, None, map, refl, sym, ap, ◌∙◌, subst, inl, inr, zero, suc, ◌<◌, ◌⊎◌, arith}
use Rattle.std.proofs.lemmas.Bool.{cases_Bool, eq-eqb, ne_eqb, or_left, or_right}
use Rattle.std.proofs.lemmas.List.Elements.{Contains-append_left, Contains-append_right, Contains-append_cases}
use Rattle.std.specs.List.{Contains}
use Rattle.sq_isa.specs.Registers.{is_among}
use Rattle.sq_graph.specs.declared.item.Item.{Item}
use Rattle.sq_graph.specs.declared.item.Term.{Term}
use Rattle.sq_graph.specs.declared.item.Term.TheVariants.{Fall, Jump, Branch, Call, PartJump, Indirect, Stop}
use Rattle.sq_graph.specs.Graph.{Block, Graph}
use Rattle.sq_graph.specs.Uses.{uses}
use Rattle.sq_graph.specs.Rules.{IsGraph}
use Rattle.sq_graph.specs.Terms.{links, goes_on}
use Rattle.sq_graph.specs.Renames.{retargeted_item, retargeted_items, retargeted_term, retargeted_block, retargeted}
use Rattle.sq_graph.specs.Leaders.{is_fall, is_leader, follows_a_term}
use Rattle.sq_graph.specs.Canonical.{joined_onto, joined_blocks, joined, canonical_of}
use Rattle.sq_graph.specs.Bypasses.{all_bypassed}
use Rattle.sq_graph.specs.Lines.{Line, line_of, term_lines, body_lines, lines_of, behind_name, slot_name, block_lines, place_lines}
use Rattle.sq_graph.specs.Blocks.{named, HasBlock, items_of, items_of_blocks, items_of_bodies}
use Rattle.sq_graph.specs.Walks.{IsLive, link_names}
use Rattle.sq_graph.specs.Soundness.{LinksDieIn, IsSound}
use Rattle.sq_graph.proofs.MapWrites.{items_of_bodies-mapped}
use Rattle.sq_graph.proofs.RetargetRules.{items_of_blocks-other}
use Rattle.sq_graph.proofs.Bypassing.{retargeted_same}
use Rattle.sq_graph.proofs.Joining.{takes, with_next}
use Rattle.sq_graph.proofs.Joined.{takes_fall, takes_name, items_of_blocks-joined}
use Rattle.sq_graph.proofs.CanonicalLaws.{used_are_leaders, all_bypassed_is_graph, canonical_is_joined}
use Rattle.law_follow.specs.Follows.{Follows}
use Rattle.law_follow.proofs.Following.{graph_follows_through}
use Rattle.law_patch.specs.LiveAgreement.{MakeTargets}
use Rattle.law_patch.specs.Changes.{Change, Alike, ends, name_before, name_after}
use Rattle.law_patch.proofs.LiveTargets.{lines_make}
use Rattle.law_patch.proofs.Lines.{body_unnamed}
use Rattle.law_patch.proofs.Changing.{ahead, in_tail, tail_made}
use Rattle.law_patch.proofs.Moving.{M, SlotMoves, move_front, move_body, front_at, body_at, moved_follows, procedure_moved}
use Rattle.law_patch.proofs.Bypassing.{fall_lines, bypassed_sound, bypassed_follows, bypassed_live, bypassed_fits}
use Rattle.law_patch.proofs.Places.{named_split}
use Rattle.law_patch.proofs.Layouts.{passed}
use Rattle.law_patch.proofs.Remaining.{AlikeAt, fits_at, nothing_at, first_at, first_or_later_at, live_at}
use Rattle.sq_graph.proofs.Kept.{absent_behind, has_name-cons}
use Rattle.sq_arena.specs.Entries.{value_of, HasDistinctKeys}
use Rattle.sq_arena.proofs.EntriesLaws.{distinct_back}
use Rattle.law_patch.proofs.Dying.{Backs, backs as all_backed, links-moved, body_rest, front_dies, body_dies, moved_sound}
use Rattle.law_patch.proofs.Used.{contains_first, from_all, none_is_none}

abbrev same : ℕ → ℕ
same n = n

-- the lines of items that stand behind others
items_apart : (xs ys : List Item) (rest : List Line) → map line_of (retargeted_items same (xs ++ ys)) ++ rest ≡ map line_of (retargeted_items same xs) ++ (map line_of (retargeted_items same ys) ++ rest)
items_apart [] ys rest = refl
items_apart (x ∷ xs) ys rest = ap (λ lines. line_of (retargeted_item same x) ∷ lines) (items_apart xs ys rest)

-- a name that isn't this one is passed by
passed_by : (m n : ℕ) (bs : List Block) (b : Block) → b.name ≡ m → (m ≡ n → ⊥) → behind_name n (lines_of (b ∷ bs)) ≡ behind_name n (lines_of bs)
passed_by m n bs b is differs =
    let apart : (b.name == n) ≡ false = ne_eqb b.name n (λ e. differs (sym is ∙ e)) in
    rw apart (body_unnamed n b (lines_of bs))

links_on : (t : Term) → links t ≡ true → (goes_on t && not (is_fall t)) ≡ true
links_on Fall link = absurd (cc)
links_on (Jump to) link = absurd (cc)
links_on (Branch cond a b to) link = absurd (cc)
links_on (Call link to) l = refl
links_on (PartJump link part to) l = rw l refl
links_on (Indirect link at offset) l = rw l refl
links_on (Stop word) link = absurd (cc)

-- what stands behind a term that links is a leader
behind_link : (front : List Block) (b next : Block) (bs : List Block) → links b.term ≡ true → follows_a_term (front ++ (b ∷ next ∷ bs)) next.name ≡ true
behind_link [] b next bs link =
    or_left (goes_on b.term && not (is_fall b.term) && next.name == next.name) (follows_a_term (next ∷ bs) next.name)
    (rw (links_on b.term link, eq-eqb next.name next.name refl) refl)
behind_link (x ∷ []) b next bs link =
    or_right (goes_on x.term && not (is_fall x.term) && b.name == next.name) (follows_a_term (b ∷ next ∷ bs) next.name) (behind_link [] b next bs link)
behind_link (x ∷ y ∷ front) b next bs link =
    or_right (goes_on x.term && not (is_fall x.term) && y.name == next.name) (follows_a_term (y ∷ (front ++ (b ∷ next ∷ bs))) next.name) (behind_link (y ∷ front) b next bs link)

slot_follows : (bs : List Block) (n : ℕ) → Contains (link_names bs) n → follows_a_term bs n ≡ true
slot_follows [] n c = absurd (let k : c.0 < 0 = c.1 in omega arith)
slot_follows (b ∷ []) n c = absurd (no_slot (links b.term) c)
  where
    no_slot : (t : Bool) → Contains ((if t then [] else []) ++ []) n → ⊥
    no_slot true c = let k : c.0 < 0 = c.1 in omega arith
    no_slot false c = let k : c.0 < 0 = c.1 in omega arith
slot_follows (b ∷ next ∷ bs) n c =
    here_or_later (links b.term) refl (Contains-append_cases (if links b.term then next.name ∷ [] else []) (link_names (next ∷ bs)) n c) (λ d. slot_follows (next ∷ bs) n d)
  where
    here_or_later : (t : Bool) → links b.term ≡ t → Contains (if t then next.name ∷ [] else []) n ⊎ Contains (link_names (next ∷ bs)) n → (Contains (link_names (next ∷ bs)) n → follows_a_term (next ∷ bs) n ≡ true) → follows_a_term (b ∷ next ∷ bs) n ≡ true
    here_or_later t l (inr d) later = or_right (goes_on b.term && not (is_fall b.term) && next.name == n) (follows_a_term (next ∷ bs) n) (later d)
    here_or_later false l (inl d) later = absurd (let k : d.0 < 0 = d.1 in omega arith)
    here_or_later true l (inl (zero, k, e)) later = or_left (goes_on b.term && not (is_fall b.term) && next.name == n) (follows_a_term (next ∷ bs) n) (rw (links_on b.term l, eq-eqb next.name n e) refl)
    here_or_later true l (inl (suc i, k, e)) later = absurd (omega arith)

module _ (g : Graph) (rules : IsGraph g) where
  abbrev leads : ℕ → Bool
  leads n = is_leader g n

  abbrev Leads : ℕ → Type 0
  Leads n = leads n ≡ true

  -- the same graph under the same names
  abbrev h : Graph
  h = retargeted same (joined g)

  used : (n : ℕ) → Contains (uses g) n → Leads n
  used n c = from_all Leads (uses g) n (used_are_leaders g) c

  abbrev C : Change
  C = M Leads same g h rules used (procedure_moved same g.procedures)

  abbrev moved : List Block → List Block
  moved bs = map (retargeted_block same) bs

  abbrev BacksHere : Type 0
  BacksHere = Backs Leads same g h rules used refl

  -- a block and those behind it are joined to these, of which the first goes on like it
  record Joins (b : Block) (bs : List Block) : Type 0 where
    first : Block
    rest : List Block
    are : joined_blocks leads (b ∷ bs) ≡ first ∷ rest
    name : first.name ≡ b.name
    alike : (t : Bool) → Alike C t None (body_lines b (lines_of bs)) (body_lines (retargeted_block same first) (lines_of (moved rest)))
    behind : (n : ℕ) → Leads n → Alike C false None (behind_name n (lines_of bs)) (behind_name n (lines_of (moved rest)))
    names_in : (n : ℕ) → IsSome (value_of (named rest) n) → IsSome (value_of (named bs) n)
    places : (n place : ℕ) → IsSome (value_of (named (first ∷ rest)) n) → place ≤ length (items_of g n) → AlikeAt C same n place (b ∷ bs) (moved (first ∷ rest))
    linked : (n : ℕ) → Contains (link_names (moved (first ∷ rest))) n → Contains (link_names (b ∷ bs)) n
    dies : BacksHere → LinksDieIn g (body_lines b (lines_of bs)) → LinksDieIn h (body_lines (retargeted_block same first) (lines_of (moved rest)))

  stands : (front : List Block) (b : Block) (bs : List Block) → front ++ (b ∷ bs) ≡ g.blocks → Contains g.blocks b
  stands front b bs e = subst (λ blocks. Contains blocks b) e (in_tail front (b ∷ bs) b (contains_first b bs))

  makes : (front : List Block) (b : Block) (bs : List Block) → front ++ (b ∷ bs) ≡ g.blocks → MakeTargets g (lines_of (b ∷ bs))
  makes front b bs e = tail_made g front (b ∷ bs) (subst (λ blocks. MakeTargets g (lines_of blocks)) (sym e) (lines_make g))

  body_goes : {t : Bool} (front : List Block) (b : Block) (bs : List Block) (ys : List Line) → front ++ (b ∷ bs) ≡ g.blocks → (links b.term ≡ true → SlotMoves Leads same g h rules used (procedure_moved same g.procedures) (slot_name (lines_of bs)) (slot_name ys)) → Alike C t None (lines_of bs) ys → Alike C t None (body_lines b (lines_of bs)) (body_lines (retargeted_block same b) ys)
  body_goes front b bs ys e s p = move_body Leads same g h rules used (procedure_moved same g.procedures) b (lines_of bs) ys (stands front b bs e) (makes front b bs e) s p

  slot_leads : (front : List Block) (b next : Block) (bs : List Block) → front ++ (b ∷ next ∷ bs) ≡ g.blocks → links b.term ≡ true → Leads next.name
  slot_leads front b next bs e link =
      or_right (is_among (uses g) next.name) (follows_a_term g.blocks next.name)
      (subst (λ blocks. follows_a_term blocks next.name ≡ true) e (behind_link front b next bs link))

  -- cases on whether two names that are one are this one
  choose : (t u : Bool) (xs ys us vs : List Line) → u ≡ t → Alike C false None xs us → Alike C false None ys vs → Alike C false None (if t then xs else ys) (if u then us else vs)
  choose true true xs ys us vs e p q = p
  choose false false xs ys us vs e p q = q
  choose true false xs ys us vs e p q = absurd (cc)
  choose false true xs ys us vs e p q = absurd (cc)

  -- behind a name, in a block and those behind it
  behind_both : (n : ℕ) (b c : Block) (bs cs : List Block) → c.name ≡ b.name → Alike C false None (body_lines b (lines_of bs)) (body_lines c (lines_of cs)) → Alike C false None (behind_name n (lines_of bs)) (behind_name n (lines_of cs)) → Alike C false None (behind_name n (lines_of (b ∷ bs))) (behind_name n (lines_of (c ∷ cs)))
  behind_both n b c bs cs e p q =
      choose (b.name == n) (c.name == n) (body_lines b (lines_of bs)) (behind_name n (body_lines b (lines_of bs))) (body_lines c (lines_of cs)) (behind_name n (body_lines c (lines_of cs))) (ap (λ m. m == n) e) p
      (subst (λ xs. Alike C false None xs (behind_name n (body_lines c (lines_of cs)))) (sym (body_unnamed n b (lines_of bs)))
      (subst (λ ys. Alike C false None (behind_name n (lines_of bs)) ys) (sym (body_unnamed n c (lines_of cs))) q))

  -- the slot behind a link has the same name
  slot_or_later : (t : Bool) (m k : ℕ) (ms ks : List ℕ) (n : ℕ) → m ≡ k → (Contains ms n → Contains ks n) → Contains ((if t then m ∷ [] else []) ++ ms) n → Contains ((if t then k ∷ [] else []) ++ ks) n
  slot_or_later t m k ms ks n e later c =
      in_either (Contains-append_cases (if t then m ∷ [] else []) ms n c)
    where
      in_either : Contains (if t then m ∷ [] else []) n ⊎ Contains ms n → Contains ((if t then k ∷ [] else []) ++ ks) n
      in_either (inl d) = Contains-append_left (if t then k ∷ [] else []) ks n (subst (λ o. Contains (if t then o ∷ [] else []) n) e d)
      in_either (inr d) = Contains-append_right (if t then k ∷ [] else []) ks n (later d)

  -- a name among the blocks behind one isn't its own
  not_behind : (front : List Block) (x : Block) (bs : List Block) (n : ℕ) → front ++ (x ∷ bs) ≡ g.blocks → IsSome (value_of (named bs) n) → (x.name == n) ≡ false
  not_behind front x bs n e some =
      let d = distinct_back (named front) (named (x ∷ bs)) (subst HasDistinctKeys (named_split front x bs) (subst (λ blocks. HasDistinctKeys (named blocks)) (sym e) rules.distinct)) in
      let absent = absent_behind (x.name, x) (named bs) d in
      ne_eqb x.name n (λ i. none_is_none (value_of (named bs) n) (subst (λ m. value_of (named bs) m ≡ None) i absent) some)

  -- a name of a block or of one behind it
  in_first : (x y : Block) (bs cs : List Block) (n : ℕ) → y.name ≡ x.name → (IsSome (value_of (named cs) n) → IsSome (value_of (named bs) n)) → IsSome (value_of (named (y ∷ cs)) n) → IsSome (value_of (named (x ∷ bs)) n)
  in_first x y bs cs n name later some =
      elim (cases_Bool (x.name == n)) [
        | inl here ↦ rw here refl
        | inr apart ↦
            let t : (y.name == n) ≡ false = ap (λ m. m == n) name ∙ apart in
            rw apart (later (rw t at some))
      ]

  joins : (front : List Block) (b : Block) (bs : List Block) → front ++ (b ∷ bs) ≡ g.blocks → Joins b bs
  joins front b [] e = record {
    first = b;
    rest = [];
    are = refl;
    name = refl;
    alike = λ t. body_goes front b [] [] e (λ l. tt) ends;
    behind = λ n lead. ends;
    names_in = λ n some. some;
    places = λ n place some l.
        first_at C same n place b (retargeted_block same b) [] [] refl
        (λ t. body_at Leads same g h rules used (procedure_moved same g.procedures) place b [] [] (stands front b [] e) (makes front b [] e) (λ k. tt) (fits_at g rules n place l front b [] e t) ends)
        (nothing_at C same n place);
    linked = λ n c. subst (λ t. Contains ((if t then [] else []) ++ []) n) (links-moved same b.term) c;
    dies = λ backs die. body_dies Leads same g h rules used refl backs b [] [] (stands front b [] e) (makes front b [] e) (λ l. tt) ends die tt;
  }
  joins front b (next ∷ bs) e =
      let later = joins (front ++ b ∷ []) next bs (ahead front b (next ∷ bs) ∙ e) in
      elim (cases_Bool (takes leads b later.first)) [
        | inl taken ↦
            let fall = takes_fall leads b later.first taken in
            let no_leader : leads next.name ≡ false = subst (λ m. leads m ≡ false) later.name (takes_name leads b later.first taken) in
            record {
              first = with_next leads b later.first;
              rest = later.rest;
              are = ap (joined_onto leads b) later.are ∙ rw taken refl;
              name = refl;
              alike = λ t.
                  subst (λ xs. Alike C t None (map line_of b.items ++ xs) (body_lines (retargeted_block same (with_next leads b later.first)) (lines_of (moved later.rest)))) (sym (fall_lines b.term (lines_of (next ∷ bs)) fall))
                  (subst (λ ys. Alike C t None (map line_of b.items ++ lines_of (next ∷ bs)) ys) (sym (items_apart b.items later.first.items (term_lines (retargeted_term same later.first.term) (lines_of (moved later.rest)))))
                  (move_front Leads same g h rules used (procedure_moved same g.procedures) b (term_lines b.term (lines_of (next ∷ bs))) (lines_of (next ∷ bs)) (body_lines (retargeted_block same later.first) (lines_of (moved later.rest))) (stands front b (next ∷ bs) e) (makes front b (next ∷ bs) e) (name_before (later.alike t))));
              behind = λ n lead.
                  subst (λ xs. Alike C false None xs (behind_name n (lines_of (moved later.rest))))
                  (sym (passed_by next.name n bs next refl (λ is. let l : leads n ≡ false = subst (λ m. leads m ≡ false) is no_leader in cc)))
                  (later.behind n lead);
              names_in = λ n some. has_name-cons next bs n (later.names_in n some);
              places = λ n place some l.
                  first_or_later_at C same n place b (retargeted_block same (with_next leads b later.first)) (next ∷ bs) (moved later.rest) refl
                  (λ t.
                  subst (λ xs. Alike C true None (drop place (map line_of b.items ++ xs)) (drop place (body_lines (retargeted_block same (with_next leads b later.first)) (lines_of (moved later.rest))))) (sym (fall_lines b.term (lines_of (next ∷ bs)) fall))
                  (subst (λ ys. Alike C true None (drop place (map line_of b.items ++ lines_of (next ∷ bs))) (drop place ys)) (sym (items_apart b.items later.first.items (term_lines (retargeted_term same later.first.term) (lines_of (moved later.rest)))))
                  (front_at Leads same g h rules used (procedure_moved same g.procedures) place b (term_lines b.term (lines_of (next ∷ bs))) (lines_of (next ∷ bs)) (body_lines (retargeted_block same later.first) (lines_of (moved later.rest))) (stands front b (next ∷ bs) e) (makes front b (next ∷ bs) e) (fits_at g rules n place l front b (next ∷ bs) e t) (name_before (later.alike true)))))
                  (λ t.
                  let some' : IsSome (value_of (named later.rest) n) = rw t at some in
                  let differs = not_behind (front ++ b ∷ []) next bs n (ahead front b (next ∷ bs) ∙ e) (later.names_in n some') in
                  let apart : (later.first.name == n) ≡ false = ap (λ m. m == n) later.name ∙ differs in
                  subst (λ ys. Alike C true None (drop place (behind_name n (lines_of (next ∷ bs)))) (drop place ys)) (passed (retargeted_block same later.first) n (moved later.rest) apart)
                  (later.places n place (has_name-cons later.first later.rest n some') l));
              linked = λ n c. Contains-append_right (if links b.term then next.name ∷ [] else []) (link_names (next ∷ bs)) n (later.linked n c);
              dies = λ backs die.
                  let die' : LinksDieIn g (map line_of b.items ++ lines_of (next ∷ bs)) = subst (λ xs. LinksDieIn g (map line_of b.items ++ xs)) (fall_lines b.term (lines_of (next ∷ bs)) fall) die in
                  subst (λ ys. LinksDieIn h ys) (sym (items_apart b.items later.first.items (term_lines (retargeted_term same later.first.term) (lines_of (moved later.rest)))))
                  (front_dies Leads same g h rules used refl backs b (term_lines b.term (lines_of (next ∷ bs))) (lines_of (next ∷ bs)) (body_lines (retargeted_block same later.first) (lines_of (moved later.rest))) (stands front b (next ∷ bs) e) (makes front b (next ∷ bs) e) (name_before (later.alike true)) die'
                  (later.dies backs (body_rest g b (lines_of (next ∷ bs)) die)));
            }
        | inr apart ↦ record {
          first = b;
          rest = later.first ∷ later.rest;
          are = ap (joined_onto leads b) later.are ∙ rw apart refl;
          name = refl;
          alike = λ t. body_goes front b (next ∷ bs) (lines_of (moved (later.first ∷ later.rest))) e (λ l. (later.name, slot_leads front b next bs e l)) (name_before (name_after (later.alike t)));
          behind = λ n lead. behind_both n next (retargeted_block same later.first) bs (moved later.rest) later.name (later.alike false) (later.behind n lead);
          names_in = λ n some. in_first next later.first bs later.rest n later.name (later.names_in n) some;
          places = λ n place some l.
              first_or_later_at C same n place b (retargeted_block same b) (next ∷ bs) (moved (later.first ∷ later.rest)) refl
              (λ t. body_at Leads same g h rules used (procedure_moved same g.procedures) place b (lines_of (next ∷ bs)) (lines_of (moved (later.first ∷ later.rest))) (stands front b (next ∷ bs) e) (makes front b (next ∷ bs) e) (λ k. (later.name, slot_leads front b next bs e k)) (fits_at g rules n place l front b (next ∷ bs) e t) (name_before (name_after (later.alike true))))
              (λ t. later.places n place (rw t at some) l);
          linked = λ n c.
              slot_or_later (links b.term) later.first.name next.name (link_names (moved (later.first ∷ later.rest))) (link_names (next ∷ bs)) n later.name (later.linked n)
              (subst (λ t. Contains ((if t then later.first.name ∷ [] else []) ++ link_names (moved (later.first ∷ later.rest))) n) (links-moved same b.term) c);
          dies = λ backs die.
              body_dies Leads same g h rules used refl backs b (lines_of (next ∷ bs)) (lines_of (moved (later.first ∷ later.rest))) (stands front b (next ∷ bs) e) (makes front b (next ∷ bs) e) (λ l. (later.name, slot_leads front b next bs e l)) (name_before (name_after (later.alike true))) die
              (later.dies backs (body_rest g b (lines_of (next ∷ bs)) die));
        }
      ]

  -- a leader leads to lines that go on alike
  leader_lines : (blocks : List Block) → blocks ≡ g.blocks → (n : ℕ) → Leads n → Alike C false None (behind_name n (lines_of blocks)) (behind_name n (lines_of (moved (joined_blocks leads blocks))))
  leader_lines [] e n lead = ends
  leader_lines (b ∷ bs) e n lead =
      let all = joins [] b bs e in
      subst (λ blocks. Alike C false None (behind_name n (lines_of (b ∷ bs))) (behind_name n (lines_of (moved blocks)))) (sym all.are)
      (behind_both n b (retargeted_block same all.first) bs (moved all.rest) all.name (all.alike false) (all.behind n lead))

  pub joined_follows : Follows g (joined g)
  joined_follows =
      subst (λ k. Follows g k) (retargeted_same (joined g))
      (moved_follows Leads same g h rules used (procedure_moved same g.procedures) (λ n lead. leader_lines g.blocks refl n lead) refl refl)

  linked_all : (blocks : List Block) → blocks ≡ g.blocks → (n : ℕ) → Contains (link_names (moved (joined_blocks leads blocks))) n → Contains (link_names blocks) n
  linked_all [] e n c = c
  linked_all (b ∷ bs) e n c =
      let all = joins [] b bs e in all.linked n (subst (λ blocks. Contains (link_names (moved blocks)) n) all.are c)

  dies_all : BacksHere → (blocks : List Block) → blocks ≡ g.blocks → LinksDieIn g (lines_of blocks) → LinksDieIn h (lines_of (moved (joined_blocks leads blocks)))
  dies_all backs [] e die = tt
  dies_all backs (b ∷ bs) e die =
      let all = joins [] b bs e in subst (λ blocks. LinksDieIn h (lines_of (moved blocks))) (sym all.are) (all.dies backs die)

  slots : (n : ℕ) → Contains (link_names h.blocks) n → (m : ℕ) × (Contains (link_names g.blocks) m × (n ≡ same m))
  slots n c = (n, (linked_all g.blocks refl n c, refl))

  slot_known : (n : ℕ) → Contains (link_names g.blocks) n → Leads n
  slot_known n c = or_right (is_among (uses g) n) (follows_a_term g.blocks n) (slot_follows g.blocks n c)

  items_are : items_of_blocks h.blocks ≡ retargeted_items same (items_of_blocks g.blocks)
  items_are = items_of_blocks-other same (λ b. b.name) (joined_blocks leads g.blocks) ∙ ap (retargeted_items same) (items_of_blocks-joined leads g.blocks)

  bodies_are : items_of_bodies h.procedures ≡ retargeted_items same (items_of_bodies g.procedures)
  bodies_are = items_of_bodies-mapped (retargeted_item same) (λ t. t) g.procedures

  leaders_alike : (n : ℕ) → Leads n → Alike C false None (block_lines g n) (block_lines h n)
  leaders_alike n lead = leader_lines g.blocks refl n lead

  backed : BacksHere
  backed = all_backed Leads same g h rules used refl leaders_alike refl items_are bodies_are slots slot_known

  pub joined_sound : IsSound g → IsSound (joined g)
  joined_sound sound =
      subst IsSound (retargeted_same (joined g))
      (moved_sound Leads same g h rules used refl leaders_alike refl items_are bodies_are slots slot_known sound (dies_all backed g.blocks refl sound.links_die))

  -- PLACES of the blocks that are left
  places_all : (blocks : List Block) → blocks ≡ g.blocks → (n place : ℕ) → IsSome (value_of (named (joined_blocks leads blocks)) n) → place ≤ length (items_of g n) → AlikeAt C same n place blocks (moved (joined_blocks leads blocks))
  places_all [] e n place some l = nothing_at C same n place
  places_all (b ∷ bs) e n place some l =
      let all = joins [] b bs e in
      subst (λ blocks. AlikeAt C same n place (b ∷ bs) (moved blocks)) (sym all.are) (all.places n place (subst (λ blocks. IsSome (value_of (named blocks) n)) all.are some) l)

  -- no more is live at them
  pub joined_live : (n place r : ℕ) → HasBlock (joined g) n → place ≤ length (items_of g n) → IsLive (joined g) r (place_lines (joined g) n place) → IsLive g r (place_lines g n place)
  joined_live n place r has l live =
      live_at C same backed n place r (places_all g.blocks refl n place has l)
      (subst (λ (k : Graph). IsLive k r (place_lines k n place)) (sym (retargeted_same (joined g))) live)

  -- they were there
  joined_from : (blocks : List Block) → blocks ≡ g.blocks → (n : ℕ) → IsSome (value_of (named (joined_blocks leads blocks)) n) → IsSome (value_of (named blocks) n)
  joined_from [] e n some = some
  joined_from (b ∷ bs) e n some =
      let all = joins [] b bs e in in_first b all.first bs all.rest n all.name (all.names_in n) (subst (λ blocks. IsSome (value_of (named blocks) n)) all.are some)

  pub joined_there : (n : ℕ) → HasBlock (joined g) n → HasBlock g n
  joined_there n has = joined_from g.blocks refl n has

-- the canonical graph follows
pub canonical_follows : (g : Graph) → IsGraph g → Follows g (canonical_of g)
canonical_follows g rules =
    subst (λ h. Follows g h) (sym (canonical_is_joined g rules))
    (graph_follows_through g (all_bypassed g) (joined (all_bypassed g)) (bypassed_follows g rules) (joined_follows (all_bypassed g) (all_bypassed_is_graph g rules)))

-- the canonical graph is sound where the graph is
pub canonical_sound : (g : Graph) → IsGraph g → IsSound g → IsSound (canonical_of g)
canonical_sound g rules sound =
    subst IsSound (sym (canonical_is_joined g rules))
    (joined_sound (all_bypassed g) (all_bypassed_is_graph g rules) (bypassed_sound g rules sound))

-- no more is live at a place of a block that is left
pub canonical_live : (g : Graph) → IsGraph g → (n place r : ℕ) → HasBlock g n → HasBlock (canonical_of g) n → place ≤ length (items_of g n) → IsLive (canonical_of g) r (place_lines (canonical_of g) n place) → IsLive g r (place_lines g n place)
canonical_live g rules n place r has left l live =
    let b : Graph = all_bypassed g in
    let b_rules = all_bypassed_is_graph g rules in
    let is = canonical_is_joined g rules in
    let in_joined : HasBlock (joined b) n = subst (λ (k : Graph). HasBlock k n) is left in
    let between = joined_there b b_rules n in_joined in
    bypassed_live g rules n place r between l
    (joined_live b b_rules n place r in_joined (bypassed_fits g rules n place has between l)
    (subst (λ (k : Graph). IsLive k r (place_lines k n place)) is live))
