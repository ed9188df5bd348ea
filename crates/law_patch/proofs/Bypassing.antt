-- A graph in which every block that is empty with Fall is bypassed follows it.
use Rattle.std.proofs.Common.{◌≡◌, ℕ, zero, suc, ◌<◌, ◌≤◌, length, Option, ◌⊎◌, ◌==◌, if◌then◌else◌, arith, Bool, true, false, not, List, [], ◌∷◌, ◌++◌, Some, None, IsSome, map, refl, sym, ap, ◌∙◌, subst, inl, inr}
use Rattle.std.proofs.lemmas.Bool.{cases_Bool, eq-eqb, eqb-true}
use Rattle.std.proofs.lemmas.List.{map-append}
use Rattle.std.proofs.lemmas.List.Elements.{filter-append, Contains-append_left, Contains-append_right, Contains-append_cases}
use Rattle.std.specs.List.{Contains}
use Rattle.sq_arena.specs.Entries.{value_of, HasDistinctKeys}
use Rattle.sq_arena.proofs.EntriesLaws.{distinct_back}
use Rattle.sq_graph.specs.declared.item.Term.{Term}
use Rattle.sq_graph.specs.declared.item.Term.TheVariants.{Fall, Jump, Branch, Call, PartJump, Indirect, Stop}
use Rattle.sq_graph.specs.Graph.{Block, Graph}
use Rattle.sq_graph.specs.Blocks.{named, HasBlock, block_of, block_items, items_of, items_of_blocks}
use Rattle.sq_graph.specs.Uses.{uses}
use Rattle.sq_graph.specs.Rules.{IsGraph, last_goes_on}
use Rattle.sq_graph.specs.Terms.{links}
use Rattle.sq_graph.specs.Renames.{retargeted_item, retargeted_items, retargeted_term, retargeted_block}
use Rattle.sq_graph.specs.Leaders.{is_fall, is_bare}
use Rattle.sq_graph.specs.Bypasses.{kept, passed, all_bypassed}
use Rattle.sq_graph.specs.Lines.{Line, line_of, term_lines, body_lines, lines_of, behind_name, slot_name, block_lines, place_lines}
use Rattle.sq_graph.specs.Walks.{IsLive, first_name, link_names}
use Rattle.sq_graph.specs.Soundness.{LinksDieIn, IsSound}
use Rattle.sq_graph.proofs.MapWrites.{items_of_bodies-mapped}
use Rattle.sq_graph.proofs.RetargetRules.{items_of_blocks-other}
use Rattle.sq_graph.proofs.Located.{located}
use Rattle.sq_graph.proofs.SplitRules.{last_goes_on-append}
use Rattle.sq_graph.proofs.Bypassing.{falls_on, bare_falls, bare_items, passed-bare, passed-kept, passed-behind, absent-other}
use Rattle.sq_graph.proofs.Kept.{absent_behind, has_name-cons, items_of_blocks-kept}
use Rattle.sq_graph.proofs.CanonicalLaws.{all_bypassed_is_graph}
use Rattle.law_follow.specs.Follows.{Follows}
use Rattle.law_patch.specs.LiveAgreement.{MakeTargets}
use Rattle.law_patch.specs.Changes.{Change, Alike, ends, name_before, name_after}
use Rattle.law_patch.proofs.LiveTargets.{lines_make}
use Rattle.law_patch.proofs.Places.{absent_from, found_at, name_at, named_split, other_name}
use Rattle.law_patch.proofs.Changing.{ahead, in_tail, tail_made}
use Rattle.law_patch.proofs.Moving.{M, SlotMoves, move_body, body_at, moved_follows, procedure_moved}
use Rattle.law_patch.proofs.Dying.{Backs, backs, links-moved, body_rest, body_dies, moved_sound}
use Rattle.law_patch.proofs.Carrying.{same_some}
use Rattle.law_patch.proofs.Remaining.{AlikeAt, fits_at, nothing_at, gone_at, first_at, live_at}
use Rattle.law_patch.proofs.Used.{contains_first, from_all, none_is_none}

-- a Fall is no line
pub fall_lines : (t : Term) (rest : List Line) → is_fall t ≡ true → term_lines t rest ≡ rest
fall_lines Fall rest fall = refl
fall_lines (Jump to) rest fall = absurd (cc)
fall_lines (Branch cond a b to) rest fall = absurd (cc)
fall_lines (Call link to) rest fall = absurd (cc)
fall_lines (PartJump link part to) rest fall = absurd (cc)
fall_lines (Indirect link at offset) rest fall = absurd (cc)
fall_lines (Stop word) rest fall = absurd (cc)

-- a block that is empty with Fall has no lines
bare_lines : (b : Block) (rest : List Line) → is_bare b ≡ true → body_lines b rest ≡ rest
bare_lines b rest bare =
    ap (λ is. map line_of is ++ term_lines b.term rest) (bare_items b bare) ∙ fall_lines b.term rest (bare_falls b bare)

items_of_blocks-moved : (f : ℕ → ℕ) (bs : List Block) → items_of_blocks (map (retargeted_block f) bs) ≡ retargeted_items f (items_of_blocks bs)
items_of_blocks-moved f bs = items_of_blocks-other f (λ b. b.name) bs

absent-kept : (bs : List Block) (n : ℕ) → value_of (named bs) n ≡ None → value_of (named (kept bs)) n ≡ None
absent-kept [] n e = refl
absent-kept (x ∷ bs) n e =
    let o = other_name (x.name == n) x (value_of (named bs) n) e in
    elim (cases_Bool (is_bare x)) [
      | inl bare ↦ rw bare (absent-kept bs n o.1)
      | inr solid ↦ rw solid (rw o.0 (absent-kept bs n o.1))
    ]

-- a block that is left is not empty with Fall
left_solid : (f : ℕ → ℕ) (bs : List Block) (n : ℕ) (b : Block) → HasDistinctKeys (named bs) → value_of (named bs) n ≡ Some b → IsSome (value_of (named (map (retargeted_block f) (kept bs))) n) → is_bare b ≡ false
left_solid f [] n b d e some = absurd (cc)
left_solid f (x ∷ bs) n b d e some =
    elim (cases_Bool (x.name == n)) [
      | inl here ↦
          let is : x ≡ b = same_some x b (rw here at e) in
          elim (cases_Bool (is_bare x)) [
            | inl bare ↦
                let absent : value_of (named bs) n ≡ None = subst (λ m. value_of (named bs) m ≡ None) (eqb-true x.name n here) (absent_behind (x.name, x) (named bs) d) in
                absurd (none_is_none (value_of (named (map (retargeted_block f) (kept bs))) n) (absent-other f (kept bs) n (absent-kept bs n absent)) (rw bare at some))
            | inr solid ↦ subst (λ c. is_bare c ≡ false) is solid
          ]
      | inr apart ↦
          let later : value_of (named bs) n ≡ Some b = rw apart at e in
          let d' = distinct_back ((x.name, x) ∷ []) (named bs) d in
          elim (cases_Bool (is_bare x)) [
            | inl bare ↦ left_solid f bs n b d' later (rw bare at some)
            | inr solid ↦ left_solid f bs n b d' later (rw apart at (rw solid at some))
          ]
    ]

-- and is there under its name
left_found : (f : ℕ → ℕ) (bs : List Block) (n : ℕ) (b : Block) → value_of (named bs) n ≡ Some b → is_bare b ≡ false → value_of (named (map (retargeted_block f) (kept bs))) n ≡ Some (retargeted_block f b)
left_found f [] n b e solid = absurd (cc)
left_found f (x ∷ bs) n b e solid =
    elim (cases_Bool (x.name == n)) [
      | inl here ↦
          let is : x ≡ b = same_some x b (rw here at e) in
          let t : is_bare x ≡ false = subst (λ c. is_bare c ≡ false) (sym is) solid in
          rw t (rw here (ap (λ c. Some (retargeted_block f c)) is))
      | inr apart ↦
          let later : value_of (named bs) n ≡ Some b = rw apart at e in
          elim (cases_Bool (is_bare x)) [
            | inl bare ↦ rw bare (left_found f bs n b later solid)
            | inr t ↦ rw t (rw apart (left_found f bs n b later solid))
          ]
    ]

module _ (g : Graph) (rules : IsGraph g) where
  abbrev f : ℕ → ℕ
  f = passed g.blocks

  abbrev h : Graph
  h = all_bypassed g

  used : (n : ℕ) → Contains (uses g) n → HasBlock g n
  used n c = from_all (HasBlock g) (uses g) n rules.named_all c

  abbrev C : Change
  C = M (HasBlock g) f g h rules used (procedure_moved f g.procedures)

  abbrev moved : List Block → List Block
  moved bs = map (retargeted_block f) bs

  distinct_at : (front : List Block) (x : Block) (bs : List Block) → front ++ (x ∷ bs) ≡ g.blocks → HasDistinctKeys (named (front ++ (x ∷ bs)))
  distinct_at front x bs e = subst (λ blocks. HasDistinctKeys (named blocks)) (sym e) rules.distinct

  -- where a block's name goes
  passed_at : (front : List Block) (x : Block) (bs : List Block) → front ++ (x ∷ bs) ≡ g.blocks → f x.name ≡ passed (x ∷ bs) x.name
  passed_at front x bs e =
      ap (λ blocks. passed blocks x.name) (sym e) ∙ passed-behind front (x ∷ bs) x.name (absent_from front x bs (distinct_at front x bs e))

  solid_stays : (front : List Block) (x : Block) (bs : List Block) → front ++ (x ∷ bs) ≡ g.blocks → is_bare x ≡ false → x.name ≡ f x.name
  solid_stays front x bs e solid =
      let d = distinct_back (named front) (named (x ∷ bs)) (subst HasDistinctKeys (named_split front x bs) (distinct_at front x bs e)) in
      sym (passed_at front x bs e ∙ passed-kept x bs solid (absent_behind (x.name, x) (named bs) d))

  there : (front : List Block) (x : Block) (bs : List Block) → front ++ (x ∷ bs) ≡ g.blocks → HasBlock g x.name
  there front x bs e =
      subst (λ blocks. IsSome (value_of (named blocks) x.name)) e
      (subst IsSome (sym (found_at front x bs (absent_from front x bs (distinct_at front x bs e)))) refl)

  last_at : (front : List Block) (x : Block) (bs : List Block) → front ++ (x ∷ bs) ≡ g.blocks → last_goes_on (x ∷ bs) ≡ false
  last_at front x bs e = sym (last_goes_on-append front x bs) ∙ ap last_goes_on e ∙ rules.ends

  -- of a block and those behind it this one is kept first, and the block goes on like it
  record Goes (x : Block) (bs : List Block) : Type 0 where
    first : Block
    rest : List Block
    are : kept (x ∷ bs) ≡ first ∷ rest
    name : first.name ≡ f x.name
    alike : (b : Bool) → Alike C b None (body_lines x (lines_of bs)) (body_lines (retargeted_block f first) (lines_of (moved rest)))

  body_goes : {b : Bool} (front : List Block) (x : Block) (bs : List Block) (ys : List Line) → front ++ (x ∷ bs) ≡ g.blocks → SlotMoves (HasBlock g) f g h rules used (procedure_moved f g.procedures) (slot_name (lines_of bs)) (slot_name ys) → Alike C b None (lines_of bs) ys → Alike C b None (body_lines x (lines_of bs)) (body_lines (retargeted_block f x) ys)
  body_goes front x bs ys e s p =
      let c : Contains g.blocks x = subst (λ blocks. Contains blocks x) e (in_tail front (x ∷ bs) x (contains_first x bs)) in
      let m : MakeTargets g (lines_of (x ∷ bs)) = tail_made g front (x ∷ bs) (subst (λ blocks. MakeTargets g (lines_of blocks)) (sym e) (lines_make g)) in
      move_body (HasBlock g) f g h rules used (procedure_moved f g.procedures) x (lines_of bs) ys c m (λ l. s) p

  goes : (front : List Block) (x : Block) (bs : List Block) → front ++ (x ∷ bs) ≡ g.blocks → Goes x bs
  goes front x [] e =
      elim (cases_Bool (is_bare x)) [
        | inl bare ↦ absurd (cc (falls_on x.term (bare_falls x bare), last_at front x [] e))
        | inr solid ↦ record {
          first = x;
          rest = [];
          are = rw solid refl;
          name = solid_stays front x [] e solid;
          alike = λ b. body_goes front x [] [] e tt ends;
        }
      ]
  goes front x (next ∷ bs) e =
      let e' = ahead front x (next ∷ bs) ∙ e in
      let later = goes (front ++ x ∷ []) next bs e' in
      elim (cases_Bool (is_bare x)) [
        | inl bare ↦ record {
          first = later.first;
          rest = later.rest;
          are = rw bare later.are;
          name = later.name ∙ passed_at (front ++ x ∷ []) next bs e' ∙ sym (passed_at front x (next ∷ bs) e ∙ passed-bare x next bs bare);
          alike = λ b.
              subst (λ lines. Alike C b None lines (body_lines (retargeted_block f later.first) (lines_of (moved later.rest))))
              (sym (bare_lines x (lines_of (next ∷ bs)) bare)) (name_before (later.alike b));
        }
        | inr solid ↦ record {
          first = x;
          rest = kept (next ∷ bs);
          are = rw solid refl;
          name = solid_stays front x (next ∷ bs) e solid;
          alike = λ b.
              subst (λ blocks. Alike C b None (body_lines x (lines_of (next ∷ bs))) (body_lines (retargeted_block f x) (lines_of (moved blocks)))) (sym later.are)
              (body_goes front x (next ∷ bs) (lines_of (moved (later.first ∷ later.rest))) e (later.name, there (front ++ x ∷ []) next bs e') (name_before (name_after (later.alike b))));
        }
      ]

  -- a name leads to lines that go on like those of the name to which it is passed
  names : (n : ℕ) → HasBlock g n → Alike C false None (block_lines g n) (block_lines h (f n))
  names n has =
      let at = located g.blocks n has in
      let e : at.front ++ (at.block ∷ at.back) ≡ g.blocks = sym at.whole in
      let to = goes at.front at.block at.back e in
      let parts : h.blocks ≡ moved (kept at.front) ++ (retargeted_block f to.first ∷ moved to.rest) =
      ap (λ blocks. moved (kept blocks)) at.whole
      ∙ ap moved (filter-append {X = Block} (λ b. not (is_bare b)) at.front (at.block ∷ at.back))
      ∙ ap (λ blocks. moved (kept at.front ++ blocks)) to.are
      ∙ map-append (retargeted_block f) (kept at.front) (to.first ∷ to.rest) in
      let d : HasDistinctKeys (named (moved (kept at.front) ++ (retargeted_block f to.first ∷ moved to.rest))) =
      subst (λ blocks. HasDistinctKeys (named blocks)) parts (all_bypassed_is_graph g rules).distinct in
      let before : block_lines g n ≡ body_lines at.block (lines_of at.back) =
      subst (λ m. behind_name m (lines_of g.blocks) ≡ body_lines at.block (lines_of at.back)) at.has_name
      (subst (λ blocks. behind_name at.block.name (lines_of blocks) ≡ body_lines at.block (lines_of at.back)) e (name_at at.front at.block at.back (absent_from at.front at.block at.back (distinct_at at.front at.block at.back e)))) in
      let after : block_lines h (f n) ≡ body_lines (retargeted_block f to.first) (lines_of (moved to.rest)) =
      ap (λ m. block_lines h (f m)) (sym at.has_name)
      ∙ ap (block_lines h) (sym to.name)
      ∙ ap (λ blocks. behind_name to.first.name (lines_of blocks)) parts
      ∙ name_at (moved (kept at.front)) (retargeted_block f to.first) (moved to.rest) (absent_from (moved (kept at.front)) (retargeted_block f to.first) (moved to.rest) d) in
      subst (λ lines. Alike C false None lines (block_lines h (f n))) (sym before)
      (subst (λ lines. Alike C false None (body_lines at.block (lines_of at.back)) lines) (sym after) (to.alike false))

  pub bypassed_follows : Follows g h
  bypassed_follows = moved_follows (HasBlock g) f g h rules used (procedure_moved f g.procedures) names refl refl

  -- a slot behind a link leads to the one that is passed to
  first_passed : (front : List Block) (x : Block) (bs : List Block) → front ++ (x ∷ bs) ≡ g.blocks → (n : ℕ) → Contains (first_name (moved (kept (x ∷ bs)))) n → n ≡ f x.name
  first_passed front x bs e n c =
      let to = goes front x bs e in
      only n to.first.name (subst (λ blocks. Contains (first_name (moved blocks)) n) to.are c) ∙ to.name
    where
      only : (n m : ℕ) → Contains (m ∷ []) n → n ≡ m
      only n m (zero, l, e) = sym e
      only n m (suc k, l, e) = absurd (omega arith)

  abbrev Slot : ℕ → List Block → Type 0
  Slot n bs = (m : ℕ) × (Contains (link_names bs) m × (n ≡ f m))

  later_slot : (x : Block) (bs : List Block) (n : ℕ) → Slot n bs → Slot n (x ∷ bs)
  later_slot x bs n o = (o.0, (Contains-append_right (if links x.term then first_name bs else []) (link_names bs) o.0 o.1.0, o.1.1))

  slot_here : (t : Bool) (front : List Block) (x : Block) (bs : List Block) (n : ℕ) → links x.term ≡ t → front ++ (x ∷ bs) ≡ g.blocks → Contains (if t then first_name (moved (kept bs)) else []) n → Slot n (x ∷ bs)
  slot_here false front x bs n l e c = absurd (let k : c.0 < 0 = c.1 in omega arith)
  slot_here true front x [] n l e c = absurd (let k : c.0 < 0 = c.1 in omega arith)
  slot_here true front x (next ∷ bs) n l e c = (
    next.name,
    (
      Contains-append_left (if links x.term then next.name ∷ [] else []) (link_names (next ∷ bs)) next.name (rw l (contains_first next.name [])),
      first_passed (front ++ x ∷ []) next bs (ahead front x (next ∷ bs) ∙ e) n c,
    ),
  )

  slot_either : (x : Block) (bs : List Block) (n : ℕ) {A B : Type 0} → A ⊎ B → (A → Slot n (x ∷ bs)) → (B → Slot n bs) → Slot n (x ∷ bs)
  slot_either x bs n (inl a) p q = p a
  slot_either x bs n (inr b) p q = later_slot x bs n (q b)

  slots : (front bs : List Block) → front ++ bs ≡ g.blocks → (n : ℕ) → Contains (link_names (moved (kept bs))) n → Slot n bs
  slots front [] e n c = absurd (let k : c.0 < 0 = c.1 in omega arith)
  slots front (x ∷ bs) e n c =
      elim (cases_Bool (is_bare x)) [
        | inl bare ↦ later_slot x bs n (slots (front ++ x ∷ []) bs (ahead front x bs ∙ e) n (rw bare at c))
        | inr solid ↦
            let d : Contains ((if links (retargeted_term f x.term) then first_name (moved (kept bs)) else []) ++ link_names (moved (kept bs))) n = rw solid at c in
            slot_either x bs n (Contains-append_cases (if links (retargeted_term f x.term) then first_name (moved (kept bs)) else []) (link_names (moved (kept bs))) n d)
            (λ k. slot_here (links (retargeted_term f x.term)) front x bs n (sym (links-moved f x.term)) e k)
            (λ k. slots (front ++ x ∷ []) bs (ahead front x bs ∙ e) n k)
      ]

  -- what stands behind a link is there
  pub slot_known : (bs : List Block) (n : ℕ) → Contains (link_names bs) n → IsSome (value_of (named bs) n)
  slot_known [] n c = absurd (let k : c.0 < 0 = c.1 in omega arith)
  slot_known (x ∷ bs) n c =
      has_name-cons x bs n (first_or_later bs (links x.term) (Contains-append_cases (if links x.term then first_name bs else []) (link_names bs) n c) (λ d. slot_known bs n d))
    where
      first_or_later : (bs : List Block) (t : Bool) → Contains (if t then first_name bs else []) n ⊎ Contains (link_names bs) n → (Contains (link_names bs) n → IsSome (value_of (named bs) n)) → IsSome (value_of (named bs) n)
      first_or_later bs t (inr d) later = later d
      first_or_later bs false (inl d) later = absurd (let k : d.0 < 0 = d.1 in omega arith)
      first_or_later [] true (inl d) later = absurd (let k : d.0 < 0 = d.1 in omega arith)
      first_or_later (b ∷ bs) true (inl (zero, l, e)) later = let t : (b.name == n) ≡ true = eq-eqb b.name n e in rw t refl
      first_or_later (b ∷ bs) true (inl (suc k, l, e)) later = absurd (omega arith)

  backed : Backs (HasBlock g) f g h rules used refl
  backed =
      backs (HasBlock g) f g h rules used refl names refl
      (items_of_blocks-moved f (kept g.blocks) ∙ ap (retargeted_items f) (items_of_blocks-kept g.blocks))
      (items_of_bodies-mapped (retargeted_item f) (λ t. t) g.procedures)
      (slots [] g.blocks refl) (slot_known g.blocks)

  rest_alike : (front bs : List Block) → front ++ bs ≡ g.blocks → Alike C true None (lines_of bs) (lines_of (moved (kept bs)))
  rest_alike front [] e = ends
  rest_alike front (x ∷ bs) e =
      let to = goes front x bs e in
      subst (λ blocks. Alike C true None (lines_of (x ∷ bs)) (lines_of (moved blocks))) (sym to.are) (name_before (name_after (to.alike true)))

  rest_slot : (front bs : List Block) → front ++ bs ≡ g.blocks → SlotMoves (HasBlock g) f g h rules used (procedure_moved f g.procedures) (slot_name (lines_of bs)) (slot_name (lines_of (moved (kept bs))))
  rest_slot front [] e = tt
  rest_slot front (x ∷ bs) e =
      let to = goes front x bs e in
      subst (λ blocks. SlotMoves (HasBlock g) f g h rules used (procedure_moved f g.procedures) (Some x.name) (slot_name (lines_of (moved blocks)))) (sym to.are) (to.name, there front x bs e)

  -- links die behind calls as before
  die : (front bs : List Block) → front ++ bs ≡ g.blocks → LinksDieIn g (lines_of bs) → LinksDieIn h (lines_of (moved (kept bs)))
  die front [] e dies = tt
  die front (x ∷ bs) e dies =
      let e' = ahead front x bs ∙ e in
      elim (cases_Bool (is_bare x)) [
        | inl bare ↦ rw bare (die (front ++ x ∷ []) bs e' (subst (λ lines. LinksDieIn g lines) (bare_lines x (lines_of bs) bare) dies))
        | inr solid ↦
            let c : Contains g.blocks x = subst (λ blocks. Contains blocks x) e (in_tail front (x ∷ bs) x (contains_first x bs)) in
            let m : MakeTargets g (lines_of (x ∷ bs)) = tail_made g front (x ∷ bs) (subst (λ blocks. MakeTargets g (lines_of blocks)) (sym e) (lines_make g)) in
            let later = die (front ++ x ∷ []) bs e' (body_rest g x (lines_of bs) dies) in
            rw solid
            (body_dies (HasBlock g) f g h rules used refl backed x (lines_of bs) (lines_of (moved (kept bs))) c m (λ l. rest_slot (front ++ x ∷ []) bs e') (rest_alike (front ++ x ∷ []) bs e') dies later)
      ]

  pub bypassed_sound : IsSound g → IsSound h
  bypassed_sound sound =
      moved_sound (HasBlock g) f g h rules used refl names refl
      (items_of_blocks-moved f (kept g.blocks) ∙ ap (retargeted_items f) (items_of_blocks-kept g.blocks))
      (items_of_bodies-mapped (retargeted_item f) (λ t. t) g.procedures)
      (slots [] g.blocks refl) (slot_known g.blocks) sound (die [] g.blocks refl sound.links_die)

  -- PLACES of the blocks that are left
  abbrev Solid : ℕ → Type 0
  Solid n = (b : Block) → block_of g n ≡ Some b → is_bare b ≡ false

  places : (n place : ℕ) → Solid n → place ≤ length (items_of g n) → (front bs : List Block) → front ++ bs ≡ g.blocks → AlikeAt C f n place bs (moved (kept bs))
  places n place still l front [] e = nothing_at C f n place
  places n place still l front (x ∷ bs) e =
      let e' = ahead front x bs ∙ e in
      let later = places n place still l (front ++ x ∷ []) bs e' in
      let found : block_of g x.name ≡ Some x = subst (λ blocks. value_of (named blocks) x.name ≡ Some x) e (found_at front x bs (absent_from front x bs (distinct_at front x bs e))) in
      elim (cases_Bool (is_bare x)) [
        | inl bare ↦ rw bare (gone_at C f n place x bs (moved (kept bs)) (apart x found bare (cases_Bool (x.name == n))) later)
        | inr solid ↦
            let c : Contains g.blocks x = subst (λ blocks. Contains blocks x) e (in_tail front (x ∷ bs) x (contains_first x bs)) in
            let m : MakeTargets g (lines_of (x ∷ bs)) = tail_made g front (x ∷ bs) (subst (λ blocks. MakeTargets g (lines_of blocks)) (sym e) (lines_make g)) in
            rw solid
            (first_at C f n place x (retargeted_block f x) bs (moved (kept bs)) refl
            (λ t. body_at (HasBlock g) f g h rules used (procedure_moved f g.procedures) place x (lines_of bs) (lines_of (moved (kept bs))) c m (λ k. rest_slot (front ++ x ∷ []) bs e') (fits_at g rules n place l front x bs e t) (rest_alike (front ++ x ∷ []) bs e')) later)
      ]
    where
      apart : (x : Block) → block_of g x.name ≡ Some x → is_bare x ≡ true → ((x.name == n) ≡ true) ⊎ ((x.name == n) ≡ false) → (x.name == n) ≡ false
      apart x found bare (inl here) = let t : is_bare x ≡ false = still x (subst (λ m. block_of g m ≡ Some x) (eqb-true x.name n here) found) in cc
      apart x found bare (inr other) = other

  solid_if : (n : ℕ) → HasBlock h n → Solid n
  solid_if n has b e = left_solid f g.blocks n b rules.distinct e has

  -- no more is live at them
  pub bypassed_live : (n place r : ℕ) → HasBlock h n → place ≤ length (items_of g n) → IsLive h r (place_lines h n place) → IsLive g r (place_lines g n place)
  bypassed_live n place r has l live = live_at C f backed n place r (places n place (solid_if n has) l [] g.blocks refl) live

  -- they are as many as before
  pub bypassed_fits : (n place : ℕ) → HasBlock g n → HasBlock h n → place ≤ length (items_of g n) → place ≤ length (items_of h n)
  bypassed_fits n place has left l = by_block (block_of g n) refl
    where
      as_many : (items : List _) → length (retargeted_items f items) ≡ length items
      as_many [] = refl
      as_many (item ∷ items) = ap suc (as_many items)

      by_block : (o : Option Block) → block_of g n ≡ o → place ≤ length (items_of h n)
      by_block None e = absurd (none_is_none (block_of g n) e has)
      by_block (Some b) e =
          let found : block_of h n ≡ Some (retargeted_block f b) = left_found f g.blocks n b e (solid_if n left b e) in
          let same : length (items_of h n) ≡ length (items_of g n) = ap (λ o. length (block_items o)) found ∙ as_many b.items ∙ sym (ap (λ o. length (block_items o)) e) in
          subst (λ k. place ≤ k) (sym same) l
