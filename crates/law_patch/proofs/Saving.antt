-- How many words the operations save.
use Rattle.std.proofs.Common.{◌≡◌, ℕ, zero, suc, ◌<◌, ◌≤◌, ◌+◌, Bool, not, inl, inr, List, [], ◌∷◌, ◌++◌, Option, Some, None, IsSome, map, take, drop, remove, length, sum_by, slice_get, length-append, refl, sym, ap, ◌∙◌, subst, arith}
use Rattle.std.proofs.lemmas.Bool.{cases_Bool}
use Rattle.std.proofs.Common.{length-take-le}
use Rattle.std.proofs.lemmas.List.{map-append, length-map, length-drop, length-take}
use Rattle.std.proofs.lemmas.List.Sums.{sum_by-cons, sum_by-append}
use Rattle.std.specs.List.{filter, slice_range}
use Rattle.sq_arena.specs.Entries.{value_of}
use Rattle.sq_graph.specs.declared.item.Item.{Item}
use Rattle.sq_graph.specs.declared.item.Item.TheVariants.{Hi, Out}
use Rattle.sq_graph.specs.declared.item.Term.{Term}
use Rattle.sq_graph.specs.declared.item.Term.TheVariants.{Fall, Jump, Branch, Call, PartJump, Indirect, Stop}
use Rattle.sq_graph.specs.Graph.{Block, Procedure, Graph}
use Rattle.sq_graph.specs.Blocks.{named, HasBlock, HasProcedure, block_of, items_of, body_of, term_of, block_items, block_term, procedure_body}
use Rattle.sq_graph.specs.Operations.{with_term, replaced, replaced_items, inlined, called_at, called_body, call_of, outlined, inserted_after, redirected_calls, without_procedure}
use Rattle.sq_graph.specs.Renames.{retargeted_item, recalled_item, swapped, lowered, retargeted_term, retargeted_block, retargeted_procedure, recalled_block, recalled_procedure}
use Rattle.sq_graph.specs.Words.{term_words, block_words, procedure_words, words_of}
use Rattle.sq_graph.proofs.Located.{IsAt, located}
use Rattle.sq_graph.proofs.SplitRules.{words_of_blocks-changed}
use Rattle.sq_graph.specs.Resolve.{jump_of}
use Rattle.sq_graph.proofs.Bypassing.{absent-other}
use Rattle.law_patch.specs.Restrictions.{procedures_held, number_held, restricted}
use Rattle.law_patch.specs.Operations.{hastened}
use Rattle.law_patch.specs.Savings.{SaveWords}
use Rattle.law_patch.proofs.Inverting.{invert_saves}
use Rattle.law_patch.proofs.Exchanging.{exchange_saves}
use Rattle.law_patch.proofs.Tailing.{tail_saves}
use Rattle.law_patch.proofs.Merging.{can_merge, merge_saves}
use Rattle.law_patch.proofs.MatchedBodies.{body_saves}
use Rattle.law_patch.specs.Calls.{call_end, called_there}
use Rattle.law_patch.specs.LoneJumps.{IsDetourTo, without_jump}
use Rattle.law_patch.proofs.Places.{found_at}
use Rattle.law_patch.proofs.Carrying.{same_some}
use Rattle.law_patch.proofs.Detouring.{lone_block, jumps_from}
use Rattle.law_patch.proofs.OneBlock.{item_within}

-- other names and numbers take as many words
term_words-moved : (f : ℕ → ℕ) (t : Term) → term_words (retargeted_term f t) ≡ term_words t
term_words-moved f Fall = refl
term_words-moved f (Jump to) = refl
term_words-moved f (Branch cond a b to) = refl
term_words-moved f (Call link to) = refl
term_words-moved f (PartJump link part to) = refl
term_words-moved f (Indirect link at offset) = refl
term_words-moved f (Stop word) = refl

moved_words : (f : ℕ → ℕ) (b : Block) → block_words (retargeted_block f b) ≡ block_words b
moved_words f b = omega (arith, length-map b.items (retargeted_item f), term_words-moved f b.term)

recalled_words : (f : ℕ → ℕ) (b : Block) → block_words (recalled_block f b) ≡ block_words b
recalled_words f b = omega (arith, length-map b.items (recalled_item f))

moved_procedure_words : (f : ℕ → ℕ) (p : Procedure) → procedure_words (retargeted_procedure f p) ≡ procedure_words p
moved_procedure_words f p = omega (arith, length-map p.body (retargeted_item f))

recalled_procedure_words : (f : ℕ → ℕ) (p : Procedure) → procedure_words (recalled_procedure f p) ≡ procedure_words p
recalled_procedure_words f p = omega (arith, length-map p.body (recalled_item f))

-- a sum over a mapped list
sum_mapped : {X : Type 0} (w : X → ℕ) (f : X → X) (xs : List X) → ((x : X) → w (f x) ≡ w x) → sum_by w (map f xs) ≡ sum_by w xs
sum_mapped w f [] h = refl
sum_mapped w f (x ∷ xs) h = omega (arith, sum_by-cons w (f x) (map f xs), sum_by-cons w x xs, h x, sum_mapped w f xs h)

-- a sum over what is kept and what goes
sum_parted : {X : Type 0} (w : X → ℕ) (t : X → Bool) (xs : List X) → sum_by w (filter t xs) + sum_by w (filter (λ x. not (t x)) xs) ≡ sum_by w xs
sum_parted w t [] = refl
sum_parted w t (x ∷ xs) =
    elim (cases_Bool (t x)) [
      | inl kept ↦ rw kept (omega (arith, sum_by-cons w x (filter t xs), sum_by-cons w x xs, sum_parted w t xs))
      | inr gone ↦ rw gone (omega (arith, sum_by-cons w x (filter (λ x. not (t x)) xs), sum_by-cons w x xs, sum_parted w t xs))
    ]

sum_held : (held : ℕ → Bool) (ps : List Procedure) → sum_by procedure_words (procedures_held held ps) + sum_by procedure_words (procedures_held (λ q. not (held q)) ps) ≡ sum_by procedure_words ps
sum_held held [] = refl
sum_held held (p ∷ ps) =
    let later = sum_held (λ n. held (suc n)) ps in
    elim (cases_Bool (held 0)) [
      | inl first ↦ rw first (omega (arith, sum_by-cons procedure_words p (procedures_held (λ n. held (suc n)) ps), sum_by-cons procedure_words p ps, later))
      | inr gone ↦ rw gone (omega (arith, sum_by-cons procedure_words p (procedures_held (λ n. not (held (suc n))) ps), sum_by-cons procedure_words p ps, later))
    ]

pub restrict_saves : (g : Graph) (keep held : ℕ → Bool) → words_of (restricted keep held g) + words_of (restricted (λ n. not (keep n)) (λ q. not (held q)) g) ≡ words_of g
restrict_saves g keep held =
    let gone = λ (n : ℕ). not (keep n) in
    let free = λ (q : ℕ). not (held q) in
    omega (
      arith,
      sum_mapped block_words (recalled_block (number_held held)) (filter (λ (b : Block). keep b.name) g.blocks) (recalled_words (number_held held)),
      sum_mapped block_words (recalled_block (number_held free)) (filter (λ (b : Block). gone b.name) g.blocks) (recalled_words (number_held free)),
      sum_mapped procedure_words (recalled_procedure (number_held held)) (procedures_held held g.procedures) (recalled_procedure_words (number_held held)),
      sum_mapped procedure_words (recalled_procedure (number_held free)) (procedures_held free g.procedures) (recalled_procedure_words (number_held free)),
      sum_parted block_words (λ (b : Block). keep b.name) g.blocks,
      sum_held held g.procedures,
    )

-- a block of which the term or an item is known
there_by_term : (o : Option Block) (t : Term) → block_term o ≡ Some t → (b : Block) × ((o ≡ Some b) × (b.term ≡ t))
there_by_term None t e = absurd (cc)
there_by_term (Some b) t e = (b, (refl, same_some b.term t e))

there_by_item : (o : Option Block) (at : ℕ) (item : Item) → slice_get (block_items o) at ≡ Some item → (b : Block) × (o ≡ Some b)
there_by_item None at item e = absurd (cc)
there_by_item (Some b) at item e = (b, refl)

-- what is found under the name is the block that stands there
found_there : (bs : List Block) (name : ℕ) (at : IsAt bs name) → value_of (named bs) name ≡ Some at.block
found_there bs name at =
    subst (λ cs. value_of (named cs) name ≡ Some at.block) (sym at.whole) (by_front at.front at.block at.back name at.has_name at.ahead)
  where
    by_front : (front : List Block) (x : Block) (back : List Block) (name : ℕ) → x.name ≡ name → value_of (named front) name ≡ None → value_of (named (front ++ (x ∷ back))) name ≡ Some x
    by_front front x back name i e = subst (λ n. value_of (named (front ++ (x ∷ back))) n ≡ Some x) i (found_at front x back (subst (λ n. value_of (named front) n ≡ None) (sym i) e))

-- a term in place of another
term_saves : (g : Graph) (block : ℕ) (old new : Term) → term_of g block ≡ Some old → words_of (with_term g block new) + term_words old ≡ words_of g + term_words new
term_saves g block old new e =
    let o = there_by_term (block_of g block) old e in
    let at = located g.blocks block (subst IsSome (sym o.1.0) refl) in
    let same : at.block ≡ o.0 = same_some at.block o.0 (sym (found_there g.blocks block at) ∙ o.1.0) in
    let was : at.block.term ≡ old = ap (λ (b : Block). b.term) same ∙ o.1.1 in
    omega (
      arith,
      words_of_blocks-changed (λ b. record b { term = new } ∷ []) g.blocks block at,
      sum_by-cons block_words (record at.block { term = new }) [],
      ap term_words was,
    )

-- items in place of others
items_count : (items by : List Item) (at n : ℕ) → at + n ≤ length items → length (replaced_items items at n by) + n ≡ length items + length by
items_count items by at n l =
    omega (arith, length-append (take at items) (by ++ drop (at + n) items), length-append by (drop (at + n) items), length-take at items, length-drop (at + n) items, l, length-take-le at items (omega (arith, l)))

items_save : (g : Graph) (block at n : ℕ) (by : List Item) → HasBlock g block → at + n ≤ length (items_of g block) → words_of (replaced g block at n by) + n ≡ words_of g + length by
items_save g block at n by has l =
    let spot = located g.blocks block has in
    let are : items_of g block ≡ spot.block.items = ap block_items (found_there g.blocks block spot) in
    omega (
      arith,
      words_of_blocks-changed (λ b. record b { items = replaced_items b.items at n by } ∷ []) g.blocks block spot,
      sum_by-cons block_words (record spot.block { items = replaced_items spot.block.items at n by }) [],
      items_count spot.block.items by at n (subst (λ items. at + n ≤ length items) are l),
    )

pub fall_saves : (g : Graph) (block n : ℕ) → term_of g block ≡ Some (Jump n) → words_of (with_term g block Fall) + 1 ≡ words_of g
fall_saves g block n e = omega (arith, term_saves g block (Jump n) Fall e)

hastened_word : (link to : ℕ) → term_words (hastened link to) ≡ 1
hastened_word zero to = refl
hastened_word (suc link) to = refl

pub hasten_saves : (g : Graph) (block link part to : ℕ) → term_of g block ≡ Some (PartJump link part to) → words_of (with_term g block (hastened link to)) ≡ words_of g
hasten_saves g block link part to e = omega (arith, term_saves g block (PartJump link part to) (hastened link to) e, hastened_word link to)

pub drop_saves : (g : Graph) (block at rd to : ℕ) → slice_get (items_of g block) at ≡ Some (Hi rd to) → words_of (replaced g block at 1 []) + 1 ≡ words_of g
drop_saves g block at rd to e =
    let o = there_by_item (block_of g block) at (Hi rd to) e in
    omega (arith, items_save g block at 1 [] (subst IsSome (sym o.1) refl) (item_within (items_of g block) at (Hi rd to) e))

pub inline_saves : (g : Graph) (block at procedure : ℕ) → slice_get (items_of g block) at ≡ Some (Out procedure) → words_of (inlined g block at) + 1 ≡ words_of g + length (body_of g procedure)
inline_saves g block at procedure e =
    let o = there_by_item (block_of g block) at (Out procedure) e in
    let by : called_body g (called_at g block at) ≡ body_of g procedure = ap (λ k. called_body g (call_of k)) e in
    omega (arith, items_save g block at 1 (called_body g (called_at g block at)) (subst IsSome (sym o.1) refl) (item_within (items_of g block) at (Out procedure) e), ap (λ (is : List Item). length is) by)

pub call_saves : (g : Graph) (block at procedure : ℕ) → HasBlock g block → call_end g at procedure ≤ length (items_of g block) → words_of (called_there g block at procedure) + length (body_of g procedure) ≡ words_of g + 1
call_saves g block at procedure has l = items_save g block at (length (body_of g procedure)) (Out procedure ∷ []) has l

pub outline_saves : (g : Graph) (block at size link : ℕ) → words_of (outlined g block at size link) ≡ words_of g + (length (slice_range (items_of g block) at (at + size)) + 1)
outline_saves g block at size link =
    let new : Procedure = record { link = link; body = slice_range (items_of g block) at (at + size) } in
    omega (arith, sum_by-append procedure_words g.procedures (new ∷ []), sum_by-cons procedure_words new [])

pub recall_saves : (g : Graph) (from to : ℕ) → words_of (redirected_calls g from to) ≡ words_of g
recall_saves g from to =
    omega (
      arith,
      sum_mapped block_words (recalled_block (swapped from to)) g.blocks (recalled_words (swapped from to)),
      sum_mapped procedure_words (recalled_procedure (swapped from to)) g.procedures (recalled_procedure_words (swapped from to)),
    )

-- a procedure that goes
removed_words : (ps : List Procedure) (gone : ℕ) → gone < length ps → sum_by procedure_words (take gone ps ++ drop (suc gone) ps) + (length (procedure_body (slice_get ps gone)) + 1) ≡ sum_by procedure_words ps
removed_words [] gone l = absurd (omega (arith, l))
removed_words (p ∷ ps) zero l = omega (arith, sum_by-cons procedure_words p ps)
removed_words (p ∷ ps) (suc gone) l =
    omega (arith, sum_by-cons procedure_words p (take gone ps ++ drop (suc gone) ps), sum_by-cons procedure_words p ps, removed_words ps gone (omega (arith, l)))

pub uncalled_goes_saves : (g : Graph) (procedure : ℕ) → HasProcedure g procedure → words_of (without_procedure g procedure) + (length (body_of g procedure) + 1) ≡ words_of g
uncalled_goes_saves g procedure has =
    omega (
      arith,
      sum_mapped block_words (recalled_block (lowered procedure)) g.blocks (recalled_words (lowered procedure)),
      sum_mapped procedure_words (recalled_procedure (lowered procedure)) (remove g.procedures procedure) (recalled_procedure_words (lowered procedure)),
      removed_words g.procedures procedure has,
    )

pub insert_saves : (g : Graph) (new block next : ℕ) → HasBlock g block → words_of (inserted_after g new block (Jump next)) ≡ words_of g + 1
insert_saves g new block next has =
    let at = located g.blocks block has in
    let jump : Block = record { name = new; items = []; term = Jump next } in
    omega (arith, words_of_blocks-changed (λ b. b ∷ jump ∷ []) g.blocks block at, sum_by-cons block_words at.block (jump ∷ []), sum_by-cons block_words jump [])

-- a lone Jump takes one word
lone_words : (b : Block) (to : ℕ) → jump_of b.items b.term ≡ Some to → block_words b ≡ 1
lone_words b to e = let o = lone_block b.items b.term to e in rw (o.0, o.1) refl

pub detour_saves : (g : Graph) (block to : ℕ) → IsDetourTo g block to → words_of (without_jump g block to) + 1 ≡ words_of g
detour_saves g block to leads =
    let f = swapped block to in
    let o = jumps_from (block_of g block) to leads.jump in
    let at = located g.blocks block (subst IsSome (sym o.1.0) refl) in
    let same : at.block ≡ o.0 = same_some at.block o.0 (sym (found_there g.blocks block at) ∙ o.1.0) in
    let one : block_words at.block ≡ 1 = ap block_words same ∙ lone_words o.0 to o.1.1 in
    let moved : IsAt (map (retargeted_block f) g.blocks) block = record {
      front = map (retargeted_block f) at.front;
      block = retargeted_block f at.block;
      back = map (retargeted_block f) at.back;
      whole = ap (map (retargeted_block f)) at.whole ∙ map-append (retargeted_block f) at.front (at.block ∷ at.back);
      has_name = at.has_name;
      ahead = absent-other f at.front block at.ahead;
    } in
    omega (
      arith,
      words_of_blocks-changed (λ b. []) (map (retargeted_block f) g.blocks) block moved,
      moved_words f at.block,
      one,
      sum_mapped block_words (retargeted_block f) g.blocks (moved_words f),
      sum_mapped procedure_words (retargeted_procedure f) g.procedures (moved_procedure_words f),
    )

pub saved : SaveWords
saved = record {
  restrict = restrict_saves;
  fall = fall_saves;
  detour = detour_saves;
  invert = λ g block cond a b over behind to rules jumped. invert_saves g block cond a b over behind to rules jumped;
  exchange = λ g block cond a b over away to rules over_jump. exchange_saves g block cond a b over away to rules over_jump;
  hasten = hasten_saves;
  drop = drop_saves;
  merge = λ g dropped at kept term rules can e. merge_saves g dropped at kept rules (can_merge g dropped at kept can) term e;
  body = λ g dropped kept term rules have e. body_saves g dropped kept rules have term e;
  tail = λ g new dropped at kept from term rules fresh have e. tail_saves g new dropped at kept from rules fresh have term e;
  call = call_saves;
  inline = inline_saves;
  outline = outline_saves;
  recall = recall_saves;
  uncalled_goes = uncalled_goes_saves;
  insert = insert_saves;
}
