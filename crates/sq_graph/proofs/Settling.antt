-- The loops that let procedures meet their fates, and what the fields show then.
use Rattle.std.proofs.Common.{◌≡◌, ℕ, zero, suc, ◌+◌, ◌<◌, ◌≤◌, ◌^◌, ◌==◌, Bool, true, false, if◌then◌else◌, List, [], ◌∷◌, ◌++◌, map, length, drop, get_or, Option, None, Some, refl, sym, ap, ◌∙◌, subst, arith, inl, inr, append_assoc, length-append}
use Rattle.std.specs.List.{All, slice_get, flat_map}
use Rattle.std.proofs.lemmas.Bool.{cases_Bool, eqb-true, eqb-false}
use Rattle.std.proofs.lemmas.List.{append-nil, drop_more, length-map}
use Rattle.std.proofs.lemmas.List.Concat.{flat_map-append}
use Rattle.std.proofs.lemmas.List.Sums.{count_by_more_yes, count_by_more_no}
use Rattle.std.proofs.lemmas.Option.{slice_get_within, get_or_from_slice_get}
use Rattle.sq_arena.specs.Entries.{HasDistinctKeys, value_of, with_value, first_key, next_key}
use Rattle.sq_graph.specs.declared.fates.Fate.{Fate}
use Rattle.sq_graph.specs.declared.item.Item.{Item}
use Rattle.sq_graph.specs.declared.slot.Slot.{Slot}
use Rattle.sq_graph.specs.declared.slot.Body.{Body}
use Rattle.sq_graph.specs.Graph.{Block, Procedure, Graph}
use Rattle.sq_graph.specs.Blocks.{block_of, HasProcedure, items_of, procedure_link, items_of_blocks, items_of_bodies, all_items}
use Rattle.sq_graph.specs.Uses.{item_calls, calls}
use Rattle.sq_graph.specs.Rules.{IsGraph}
use Rattle.sq_graph.specs.Slots.{slots_from, slots_of, bodies_from, without_starts}
use Rattle.sq_graph.specs.Fates.{stays, number_among, settled_items, settled_block, staying, settled}
use Rattle.sq_graph.specs.declared.graph.Graph.TheInside.{Inside}
use Rattle.sq_graph.proofs.Copying.{names, Copies, CopiesAt, Copied, copies_first, copies_at, copies_step, copies_all, slot_there, block_there, items_there, length-slots_from}
use Rattle.sq_graph.proofs.Held.{Shows, shows, length-bodies_from}
use Rattle.sq_graph.proofs.Eachs.{All-left, All-right}
use Rattle.sq_graph.proofs.Located.{items_of_blocks-append}

get_ahead : {X : Type 0} (xs ys : List X) (i : ℕ) (x : X) → slice_get xs i ≡ Some x → slice_get (xs ++ ys) i ≡ Some x
get_ahead [] ys i x found = absurd (cc)
get_ahead (y ∷ xs) ys zero x found = found
get_ahead (y ∷ xs) ys (suc i) x found = get_ahead xs ys i x found

get_last : {X : Type 0} (xs : List X) (x : X) → slice_get (xs ++ x ∷ []) (length xs) ≡ Some x
get_last [] x = refl
get_last (y ∷ xs) x = get_last xs x

-- NUMBERS

-- the numbers of the first procedures, and the next one
pub record FirstNumbers (i number : ℕ) (fates : List Fate) (numbers : List ℕ) : Type 0 where
  pub next : number ≡ number_among fates i
  pub below : number ≤ i
  pub many : length numbers ≡ i
  pub each : (q : ℕ) → q < i → slice_get numbers q ≡ Some (number_among fates q)

numbers_more : (i number : ℕ) (fates : List Fate) (numbers numbers' : List ℕ) → FirstNumbers i number fates numbers → numbers' ≡ numbers ++ number ∷ []
    → (q : ℕ) → q < i + 1 → slice_get numbers' q ≡ Some (number_among fates q)
numbers_more i number fates numbers numbers' first is q inside =
    elim (cases_Bool (q == i)) [
      | inl last ↦
          let same : q ≡ i = eqb-true q i last in
          let place : q ≡ length numbers = same ∙ sym first.many in
          ap (λ ns. slice_get ns q) is ∙ ap (λ k. slice_get (numbers ++ number ∷ []) k) place ∙ get_last numbers number ∙ ap (λ n. Some n) (first.next ∙ ap (number_among fates) (sym same))
      | inr other ↦
          let apart = eqb-false q i other in
          ap (λ ns. slice_get ns q) is ∙ get_ahead numbers (number ∷ []) q (number_among fates q) (first.each q (omega (arith, inside, apart)))
    ]

pub numbers_stay : (i number : ℕ) (d : Fate) (fates : List Fate) (numbers numbers' : List ℕ) → FirstNumbers i number fates numbers → i < length fates → stays (get_or fates i d) ≡ true → numbers' ≡ numbers ++ number ∷ []
    → FirstNumbers (i + 1) (number + 1) fates numbers'
numbers_stay i number d fates numbers numbers' first inside stay is =
    record {
      next = omega (arith, first.next, count_by_more_yes stays fates i d inside stay);
      below = omega (arith, first.below);
      many = omega (arith, first.many, ap (λ ns. length ns) is, length-append numbers (number ∷ []));
      each = numbers_more i number fates numbers numbers' first is;
    }

pub numbers_go : (i number : ℕ) (d : Fate) (fates : List Fate) (numbers numbers' : List ℕ) → FirstNumbers i number fates numbers → i < length fates → stays (get_or fates i d) ≡ false → numbers' ≡ numbers ++ number ∷ []
    → FirstNumbers (i + 1) number fates numbers'
numbers_go i number d fates numbers numbers' first inside go is =
    record {
      next = omega (arith, first.next, count_by_more_no stays fates i d inside go);
      below = omega (arith, first.below);
      many = omega (arith, first.many, ap (λ ns. length ns) is, length-append numbers (number ∷ []));
      each = numbers_more i number fates numbers numbers' first is;
    }

-- BLOCKS

module _ (g : Graph) (fates : List Fate) where
  pub settled_names : (bs : List Block) → names (map (settled_block g fates) bs) ≡ names bs
  settled_names [] = refl
  settled_names (b ∷ bs) = ap (λ ns. b.name ∷ ns) (settled_names bs)

  settled_more : (front : List Block) (b : Block) → map (settled_block g fates) (front ++ b ∷ []) ≡ map (settled_block g fates) front ++ settled_block g fates b ∷ []
  settled_more [] b = refl
  settled_more (c ∷ front) b = ap (λ bs. settled_block g fates c ∷ bs) (settled_more front b)

  more_items : (front : List Block) (b : Block) (back : List Block) → items_of_blocks (map (settled_block g fates) (front ++ b ∷ back)) ≡ items_of_blocks (map (settled_block g fates) front) ++ (settled_items g fates b.items ++ items_of_blocks (map (settled_block g fates) back))
  more_items [] b back = refl
  more_items (c ∷ front) b back =
      ap (λ is. settled_items g fates c.items ++ is) (more_items front b back)
      ∙ sym (append_assoc (settled_items g fates c.items) (items_of_blocks (map (settled_block g fates) front)) (settled_items g fates b.items ++ items_of_blocks (map (settled_block g fates) back)))

  -- the first blocks have met the fates
  pub record Settles (now : List (ℕ × Slot)) (place : Option ℕ) (items : List Item) : Type 0 where
    pub front : List Block
    pub walk : Copies g (map (settled_block g fates)) settled_names now place items front

  pub settles_first : (now : List (ℕ × Slot)) (place : Option ℕ) → HasDistinctKeys now → without_starts now ≡ slots_of g.blocks → place ≡ first_key now → Settles now place []
  settles_first now place distinct links is = record { front = []; walk = copies_first g (map (settled_block g fates)) settled_names now place refl distinct links is }

  module _ (now : List (ℕ × Slot)) (name : ℕ) (items : List Item) (rules : IsGraph g) (s : Settles now (Some name) items) where
    pub at : CopiesAt g (map (settled_block g fates)) settled_names now name items s.front
    at = copies_at g (map (settled_block g fates)) settled_names now name items s.front s.walk

    pub slot_is : value_of now name ≡ Some at.slot
    slot_is = slot_there g (map (settled_block g fates)) settled_names now name items s.front rules at

    pub block_is : block_of g name ≡ Some at.block
    block_is = block_there g (map (settled_block g fates)) settled_names now name items s.front rules at

    items_are : items_of g name ≡ at.block.items
    items_are = items_there g (map (settled_block g fates)) settled_names now name items s.front rules at

    pub called_there : All (HasProcedure g) (flat_map item_calls (items_of g name))
    called_there =
        let blocks : items_of_blocks g.blocks ≡ items_of_blocks s.front ++ (at.block.items ++ items_of_blocks at.back) = ap items_of_blocks at.whole ∙ items_of_blocks-append s.front (at.block ∷ at.back) in
        let split : calls g ≡ flat_map item_calls (items_of_blocks g.blocks) ++ flat_map item_calls (items_of_bodies g.procedures) = flat_map-append item_calls (items_of_blocks g.blocks) (items_of_bodies g.procedures) in
        let first = All-left (HasProcedure g) (flat_map item_calls (items_of_blocks g.blocks)) (flat_map item_calls (items_of_bodies g.procedures)) (subst (λ cs. All (HasProcedure g) cs) split rules.called_all) in
        let parts : flat_map item_calls (items_of_blocks g.blocks) ≡ flat_map item_calls (items_of_blocks s.front) ++ (flat_map item_calls at.block.items ++ flat_map item_calls (items_of_blocks at.back)) =
        ap (flat_map item_calls) blocks ∙ flat_map-append item_calls (items_of_blocks s.front) (at.block.items ++ items_of_blocks at.back)
        ∙ ap (λ cs. flat_map item_calls (items_of_blocks s.front) ++ cs) (flat_map-append item_calls at.block.items (items_of_blocks at.back)) in
        let second = All-right (HasProcedure g) (flat_map item_calls (items_of_blocks s.front)) (flat_map item_calls at.block.items ++ flat_map item_calls (items_of_blocks at.back)) (subst (λ cs. All (HasProcedure g) cs) parts first) in
        subst (λ is. All (HasProcedure g) (flat_map item_calls is)) (sym items_are) (All-left (HasProcedure g) (flat_map item_calls at.block.items) (flat_map item_calls (items_of_blocks at.back)) second)

    -- the items so far and those of the block are no more than all
    pub settles_fit : (items' : List Item) → items' ≡ items ++ settled_items g fates (items_of g name) → length items' ≤ length (items_of_blocks (settled fates g).blocks)
    settles_fit items' is =
        let mine : items' ≡ items_of_blocks (map (settled_block g fates) s.front) ++ settled_items g fates at.block.items = is ∙ ap (λ xs. xs ++ settled_items g fates (items_of g name)) at.items_are ∙ ap (λ xs. items_of_blocks (map (settled_block g fates) s.front) ++ settled_items g fates xs) items_are in
        let all : items_of_blocks (settled fates g).blocks ≡ items_of_blocks (map (settled_block g fates) s.front) ++ (settled_items g fates at.block.items ++ items_of_blocks (map (settled_block g fates) at.back)) =
        ap (λ bs. items_of_blocks (map (settled_block g fates) bs)) at.whole ∙ more_items s.front at.block at.back in
        omega (
          arith,
          ap (λ xs. length xs) mine,
          ap (λ xs. length xs) all,
          length-append (items_of_blocks (map (settled_block g fates) s.front)) (settled_items g fates at.block.items),
          length-append (items_of_blocks (map (settled_block g fates) s.front)) (settled_items g fates at.block.items ++ items_of_blocks (map (settled_block g fates) at.back)),
          length-append (settled_items g fates at.block.items) (items_of_blocks (map (settled_block g fates) at.back)),
        )

    pub settles_step : (v v' : Slot) (start count : ℕ) (items' : List Item) → value_of now name ≡ Some v → start ≡ length items → items' ≡ items ++ settled_items g fates (items_of g name) → count + start ≡ length items' → v' ≡ record v { start = start; length = count }
        → Settles (with_value now name v') (next_key (with_value now name v') name) items'
    settles_step v v' start count items' found start_is is count_is made =
        let new : settled_items g fates (items_of g name) ≡ settled_items g fates at.block.items = ap (settled_items g fates) items_are in
        let size : count ≡ length (settled_items g fates at.block.items) = omega (arith, count_is, start_is, ap (λ xs. length xs) is, length-append items (settled_items g fates (items_of g name)), ap (λ xs. length xs) new) in
        record {
          front = s.front ++ at.block ∷ [];
          walk =
              copies_step g (map (settled_block g fates)) settled_names now name items s.front rules at v v' start count (settled_items g fates at.block.items) items' (settled_more s.front at.block) found start_is
              (is ∙ ap (λ xs. items ++ xs) new) size made;
        }

  pub settles_all : (now : List (ℕ × Slot)) (items : List Item) → Settles now None items → Copied g (map (settled_block g fates)) settled_names now items
  settles_all now items s = copies_all g (map (settled_block g fates)) settled_names now items s.front s.walk

-- BODIES

-- the bodies of the first procedures that stay lie behind the items
pub record Staying (i : ℕ) (fates : List Fate) (ps : List Procedure) (old items : List Item) (bodies : List Body) : Type 0 where
  pub done : List Procedure
  pub whole : staying fates ps ≡ done ++ staying (drop i fates) (drop i ps)
  pub items_are : items ≡ old ++ items_of_bodies done
  pub bodies_are : bodies ≡ bodies_from 0 done

pub staying_first : (fates : List Fate) (ps : List Procedure) (old : List Item) → Staying 0 fates ps old old []
staying_first fates ps old = record { done = []; whole = refl; items_are = sym (append-nil old); bodies_are = refl }

next_in : {X : Type 0} (xs : List X) (i : ℕ) (x : X) → slice_get xs i ≡ Some x → drop i xs ≡ x ∷ drop (i + 1) xs
next_in xs i x found = drop_more xs i x (slice_get_within xs i x found) ∙ ap (λ y. y ∷ drop (i + 1) xs) (get_or_from_slice_get xs i x x found)

pub has_link : (o : Option Procedure) (link : ℕ) → procedure_link o ≡ Some link → (p : Procedure) × (o ≡ Some p) × (p.link ≡ link)
has_link None link is = absurd (cc)
has_link (Some p) link is = (p, refl, cc)

has_procedure : (ps : List Procedure) (i : ℕ) → i < length ps → (p : Procedure) × (slice_get ps i ≡ Some p)
has_procedure [] i inside = absurd (omega (arith, inside))
has_procedure (p ∷ ps) zero inside = (p, refl)
has_procedure (p ∷ ps) (suc i) inside = has_procedure ps i (omega (arith, inside))

pub staying_go : (i : ℕ) (d : Fate) (fates : List Fate) (ps : List Procedure) (old items : List Item) (bodies : List Body) → Staying i fates ps old items bodies → i < length fates → i < length ps → stays (get_or fates i d) ≡ false → Staying (i + 1) fates ps old items bodies
staying_go i d fates ps old items bodies s inside there go =
    let found = has_procedure ps i there in
    record {
      done = s.done;
      whole =
          s.whole
          ∙ ap (λ fs. s.done ++ staying fs (drop i ps)) (drop_more fates i d inside)
          ∙ ap (λ qs. s.done ++ staying (get_or fates i d ∷ drop (i + 1) fates) qs) (next_in ps i found.0 found.1)
          ∙ ap (λ (b : Bool). s.done ++ (if b then found.0 ∷ staying (drop (i + 1) fates) (drop (i + 1) ps) else staying (drop (i + 1) fates) (drop (i + 1) ps))) go;
      items_are = s.items_are;
      bodies_are = s.bodies_are;
    }

staying_parts : (i : ℕ) (d : Fate) (p : Procedure) (fates : List Fate) (ps : List Procedure) (old items : List Item) (bodies : List Body) (s : Staying i fates ps old items bodies) → i < length fates → slice_get ps i ≡ Some p → stays (get_or fates i d) ≡ true → staying fates ps ≡ s.done ++ p ∷ staying (drop (i + 1) fates) (drop (i + 1) ps)
staying_parts i d p fates ps old items bodies s inside there stay =
    s.whole
    ∙ ap (λ fs. s.done ++ staying fs (drop i ps)) (drop_more fates i d inside)
    ∙ ap (λ qs. s.done ++ staying (get_or fates i d ∷ drop (i + 1) fates) qs) (next_in ps i p there)
    ∙ ap (λ (b : Bool). s.done ++ (if b then p ∷ staying (drop (i + 1) fates) (drop (i + 1) ps) else staying (drop (i + 1) fates) (drop (i + 1) ps))) stay

bodies_from-append : (n : ℕ) (xs ys : List Procedure) → bodies_from n (xs ++ ys) ≡ bodies_from n xs ++ bodies_from (n + length (items_of_bodies xs)) ys
bodies_from-append n [] ys = let e : n + 0 ≡ n = omega arith in rw e
bodies_from-append n (x ∷ xs) ys =
    let e : n + length x.body + length (items_of_bodies xs) ≡ n + length (x.body ++ items_of_bodies xs) = omega (arith, length-append x.body (items_of_bodies xs)) in
    ap (λ bs. record { link = x.link; start = n; length = length x.body } ∷ bs) (bodies_from-append (n + length x.body) xs ys ∙ ap (λ m. bodies_from (n + length x.body) xs ++ bodies_from m ys) e)

-- the items so far and the body are no more than all
pub staying_fits : (i : ℕ) (d : Fate) (p : Procedure) (fates : List Fate) (ps : List Procedure) (old items : List Item) (bodies : List Body) → Staying i fates ps old items bodies → i < length fates → slice_get ps i ≡ Some p → stays (get_or fates i d) ≡ true
    → length items + length p.body ≤ length old + length (items_of_bodies (staying fates ps))
staying_fits i d p fates ps old items bodies s inside there stay =
    let rest = staying (drop (i + 1) fates) (drop (i + 1) ps) in
    omega (
      arith,
      ap (λ xs. length xs) s.items_are,
      length-append old (items_of_bodies s.done),
      ap (λ qs. length (items_of_bodies qs)) (staying_parts i d p fates ps old items bodies s inside there stay),
      ap (λ xs. length xs) (flat_map-append (λ (q : Procedure). q.body) s.done (p ∷ staying (drop (i + 1) fates) (drop (i + 1) ps))),
      length-append (items_of_bodies s.done) (p.body ++ items_of_bodies (staying (drop (i + 1) fates) (drop (i + 1) ps))),
      length-append p.body (items_of_bodies (staying (drop (i + 1) fates) (drop (i + 1) ps))),
    )

pub staying_stay : (i : ℕ) (d : Fate) (p : Procedure) (fates : List Fate) (ps : List Procedure) (old items items' : List Item) (bodies bodies' : List Body) (link start count : ℕ) → Staying i fates ps old items bodies → i < length fates → slice_get ps i ≡ Some p → stays (get_or fates i d) ≡ true
    → items' ≡ items ++ p.body → bodies' ≡ bodies ++ record { link = link; start = start; length = count } ∷ [] → link ≡ p.link → start + length old ≡ length items → count ≡ length p.body → Staying (i + 1) fates ps old items' bodies'
staying_stay i d p fates ps old items items' bodies bodies' link start count s inside there stay items_is bodies_is link_is start_is count_is =
    let begin : start ≡ 0 + length (items_of_bodies s.done) = omega (arith, start_is, ap (λ xs. length xs) s.items_are, length-append old (items_of_bodies s.done)) in
    record {
      done = s.done ++ p ∷ [];
      whole = staying_parts i d p fates ps old items bodies s inside there stay ∙ sym (append_assoc s.done (p ∷ []) (staying (drop (i + 1) fates) (drop (i + 1) ps)));
      items_are =
          items_is ∙ ap (λ xs. xs ++ p.body) s.items_are ∙ append_assoc old (items_of_bodies s.done) p.body
          ∙ ap (λ xs. old ++ (items_of_bodies s.done ++ xs)) (sym (append-nil p.body))
          ∙ ap (λ xs. old ++ xs) (sym (flat_map-append (λ (q : Procedure). q.body) s.done (p ∷ [])));
      bodies_are =
          bodies_is ∙ ap (λ bs. bs ++ record { link = link; start = start; length = count } ∷ []) s.bodies_are
          ∙ ap (λ n. bodies_from 0 s.done ++ record { link = n; start = start; length = count } ∷ []) link_is
          ∙ ap (λ n. bodies_from 0 s.done ++ record { link = p.link; start = n; length = count } ∷ []) begin
          ∙ ap (λ n. bodies_from 0 s.done ++ record { link = p.link; start = 0 + length (items_of_bodies s.done); length = n } ∷ []) count_is
          ∙ sym (bodies_from-append 0 s.done (p ∷ []));
    }

staying_none : (fates : List Fate) → staying fates [] ≡ []
staying_none [] = refl
staying_none (f ∷ fates) = refl

pub record Stayed (fates : List Fate) (ps : List Procedure) (old items : List Item) (bodies : List Body) : Type 0 where
  pub items_are : items ≡ old ++ items_of_bodies (staying fates ps)
  pub bodies_are : bodies ≡ bodies_from 0 (staying fates ps)

drop_all : {X : Type 0} (xs : List X) (i : ℕ) → length xs ≤ i → drop i xs ≡ []
drop_all [] zero past = refl
drop_all [] (suc i) past = refl
drop_all (x ∷ xs) zero past = absurd (omega (arith, past))
drop_all (x ∷ xs) (suc i) past = drop_all xs i (omega (arith, past))

pub staying_all : (i : ℕ) (fates : List Fate) (ps : List Procedure) (old items : List Item) (bodies : List Body) → Staying i fates ps old items bodies → length ps ≤ i → Stayed fates ps old items bodies
staying_all i fates ps old items bodies s past =
    let all : s.done ≡ staying fates ps = sym (s.whole ∙ ap (λ qs. s.done ++ staying (drop i fates) qs) (drop_all ps i past) ∙ ap (λ qs. s.done ++ qs) (staying_none (drop i fates)) ∙ append-nil s.done) in
    record { items_are = s.items_are ∙ ap (λ qs. old ++ items_of_bodies qs) all; bodies_are = s.bodies_are ∙ ap (bodies_from 0) all }

-- THE FIELDS

length-staying : (fates : List Fate) (ps : List Procedure) → length (staying fates ps) ≤ length ps
length-staying [] ps = omega arith
length-staying (f ∷ fates) [] = omega arith
length-staying (f ∷ fates) (p ∷ ps) =
    elim (cases_Bool (stays f)) [
      | inl stay ↦ rw stay (omega (arith, length-staying fates ps))
      | inr go ↦ rw go (omega (arith, length-staying fates ps))
    ]

pub length-bodies : (fates : List Fate) (ps : List Procedure) (bodies : List Body) → bodies ≡ bodies_from 0 (staying fates ps) → length bodies ≤ length ps
length-bodies fates ps bodies is = omega (arith, ap (λ bs. length bs) is, length-bodies_from 0 (staying fates ps), length-staying fates ps)

pub settled_shows : (new : Inside) (fates : List Fate) (g : Graph) (front : List Item)
    → IsGraph (settled fates g) → length (all_items (settled fates g)) < 2 ^ 29 → length g.blocks + new.slots.spare < 2 ^ 29 → length g.procedures < 2 ^ 29
    → new.slots.entries ≡ slots_from 0 (settled fates g).blocks
    → front ≡ items_of_blocks (settled fates g).blocks → new.items.items ≡ front ++ items_of_bodies (staying fates g.procedures)
    → new.blocks_end ≡ length front → new.gaps ≡ 0 → new.loose.free ≡ None
    → new.entry ≡ g.entry → new.code_words.items ≡ g.code_words
    → new.bodies.items ≡ bodies_from 0 (staying fates g.procedures)
    → new.item_room ≡ length new.items.items → new.body_room ≡ length new.bodies.items
    → Shows new (settled fates g)
settled_shows new fates g front rules few small procedures slots blocks items blocks_end gaps order entry words bodies item_room body_room =
    let all = items ∙ ap (λ is. is ++ items_of_bodies (staying fates g.procedures)) blocks in
    shows new (settled fates g)
    (record {
      slots = slots;
      items = all;
      blocks_end = blocks_end ∙ ap (λ is. length is) blocks;
      gaps = gaps;
      order = order;
      entry = entry;
      code_words = words;
      bodies = bodies;
    })
    rules
    (record {
      items = omega (arith, item_room);
      item_room = omega (arith, item_room, new.items.ok.0, new.items.ok.1);
      bodies = omega (arith, body_room);
      body_room = omega (arith, body_room, new.bodies.ok.0, new.bodies.ok.1);
    })
    (record {
      blocks = omega (arith, small, ap (λ es. length es) slots, length-slots_from 0 (settled fates g).blocks, length-map g.blocks (settled_block g fates));
      item_room = omega (arith, item_room, few, ap (λ is. length is) all);
      body_room = omega (arith, body_room, procedures, length-bodies fates g.procedures new.bodies.items bodies);
    })
