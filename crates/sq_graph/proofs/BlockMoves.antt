-- A run of blocks that moves.
use Rattle.std.proofs.Common.{◌≡◌, ℕ, ◌+◌, ◌-◌, ◌==◌, List, [], ◌∷◌, ◌++◌, map, length, take, drop, None, IsSome, is_some, refl, sym, ap, ◌∙◌, inl, inr, arith, length-append, append_assoc}
use Rattle.std.proofs.lemmas.Bool.{cases_Bool}
use Rattle.std.proofs.lemmas.List.{take_at, drop_at}
use Rattle.std.proofs.lemmas.List.Concat.{flat_map-append}
use Rattle.std.specs.List.{flat_map}
use Rattle.sq_arena.specs.Entries.{value_of, ContainsKey, before, through, starting_at, behind, run, without_run, IsRun, move_run_after}
use Rattle.sq_graph.specs.declared.item.Item.{Item}
use Rattle.sq_graph.specs.declared.slot.Slot.{Slot}
use Rattle.sq_graph.specs.Graph.{Block}
use Rattle.sq_graph.specs.Blocks.{named, items_of_blocks}
use Rattle.sq_graph.specs.Slots.{slot_of, slots_from}
use Rattle.sq_graph.specs.Cursor.{renumbered, length_of_slots}
use Rattle.sq_graph.specs.Pieces.{exchanged}

-- the slots are those of these named blocks, wherever they start
abbrev pub IsLike : List (ℕ × Slot) → List (ℕ × Block) → Type 0
IsLike [] [] = Unit {0}
IsLike [] (p ∷ ps) = ⊥
IsLike (e ∷ es) [] = ⊥
IsLike (e ∷ es) (p ∷ ps) = (e.0 ≡ p.0) × (p.0 ≡ p.1.name) × (e.1.length ≡ length p.1.items) × (e.1.term ≡ p.1.term) × IsLike es ps

pub like_slots : (n : ℕ) (bs : List Block) → IsLike (slots_from n bs) (named bs)
like_slots n [] = tt
like_slots n (b ∷ bs) = (refl, refl, refl, refl, like_slots (n + length b.items) bs)

like_append : (es es' : List (ℕ × Slot)) (ps ps' : List (ℕ × Block)) → IsLike es ps → IsLike es' ps' → IsLike (es ++ es') (ps ++ ps')
like_append [] es' [] ps' like like' = like'
like_append [] es' (p ∷ ps) ps' like like' = absurd like
like_append (e ∷ es) es' [] ps' like like' = absurd like
like_append (e ∷ es) es' (p ∷ ps) ps' like like' = (like.0, like.1, like.2, like.3, like_append es es' ps ps' like.4 like')

like_before : (k : ℕ) (es : List (ℕ × Slot)) (ps : List (ℕ × Block)) → IsLike es ps → IsLike (before es k) (before ps k)
like_before k [] [] like = tt
like_before k [] (p ∷ ps) like = absurd like
like_before k (e ∷ es) [] like = absurd like
like_before k (e ∷ es) (p ∷ ps) like =
    elim (cases_Bool (e.0 == k)) [
      | inl here ↦ rw (here, ap (λ n. n == k) (sym like.0) ∙ here) tt
      | inr apart ↦ rw (apart, ap (λ n. n == k) (sym like.0) ∙ apart) (like.0, like.1, like.2, like.3, like_before k es ps like.4)
    ]

like_through : (k : ℕ) (es : List (ℕ × Slot)) (ps : List (ℕ × Block)) → IsLike es ps → IsLike (through es k) (through ps k)
like_through k [] [] like = tt
like_through k [] (p ∷ ps) like = absurd like
like_through k (e ∷ es) [] like = absurd like
like_through k (e ∷ es) (p ∷ ps) like =
    elim (cases_Bool (e.0 == k)) [
      | inl here ↦ rw (here, ap (λ n. n == k) (sym like.0) ∙ here) (like.0, like.1, like.2, like.3, tt)
      | inr apart ↦ rw (apart, ap (λ n. n == k) (sym like.0) ∙ apart) (like.0, like.1, like.2, like.3, like_through k es ps like.4)
    ]

like_starting_at : (k : ℕ) (es : List (ℕ × Slot)) (ps : List (ℕ × Block)) → IsLike es ps → IsLike (starting_at es k) (starting_at ps k)
like_starting_at k [] [] like = tt
like_starting_at k [] (p ∷ ps) like = absurd like
like_starting_at k (e ∷ es) [] like = absurd like
like_starting_at k (e ∷ es) (p ∷ ps) like =
    elim (cases_Bool (e.0 == k)) [
      | inl here ↦ rw (here, ap (λ n. n == k) (sym like.0) ∙ here) (like.0, like.1, like.2, like.3, like.4)
      | inr apart ↦ rw (apart, ap (λ n. n == k) (sym like.0) ∙ apart) (like_starting_at k es ps like.4)
    ]

like_behind : (k : ℕ) (es : List (ℕ × Slot)) (ps : List (ℕ × Block)) → IsLike es ps → IsLike (behind es k) (behind ps k)
like_behind k [] [] like = tt
like_behind k [] (p ∷ ps) like = absurd like
like_behind k (e ∷ es) [] like = absurd like
like_behind k (e ∷ es) (p ∷ ps) like =
    elim (cases_Bool (e.0 == k)) [
      | inl here ↦ rw (here, ap (λ n. n == k) (sym like.0) ∙ here) like.4
      | inr apart ↦ rw (apart, ap (λ n. n == k) (sym like.0) ∙ apart) (like_behind k es ps like.4)
    ]

pub like_contains : (k : ℕ) (es : List (ℕ × Slot)) (ps : List (ℕ × Block)) → IsLike es ps → is_some (value_of es k) ≡ is_some (value_of ps k)
like_contains k [] [] like = refl
like_contains k [] (p ∷ ps) like = absurd like
like_contains k (e ∷ es) [] like = absurd like
like_contains k (e ∷ es) (p ∷ ps) like =
    elim (cases_Bool (e.0 == k)) [
      | inl here ↦ rw (here, ap (λ n. n == k) (sym like.0) ∙ here) refl
      | inr apart ↦ rw (apart, ap (λ n. n == k) (sym like.0) ∙ apart) (like_contains k es ps like.4)
    ]

like_without : (f l : ℕ) (es : List (ℕ × Slot)) (ps : List (ℕ × Block)) → IsLike es ps → IsLike (without_run es f l) (without_run ps f l)
like_without f l es ps like =
    like_append (before es f) (behind (starting_at es f) l) (before ps f) (behind (starting_at ps f) l) (like_before f es ps like) (like_behind l (starting_at es f) (starting_at ps f) (like_starting_at f es ps like))

pub like_moved : (f l a : ℕ) (es : List (ℕ × Slot)) (ps : List (ℕ × Block)) → IsLike es ps → IsLike (move_run_after es f l a) (move_run_after ps f l a)
like_moved f l a es ps like =
    let rest = like_without f l es ps like in
    like_append (through (without_run es f l) a) (run es f l ++ behind (without_run es f l) a) (through (without_run ps f l) a) (run ps f l ++ behind (without_run ps f l) a)
    (like_through a (without_run es f l) (without_run ps f l) rest)
    (like_append (run es f l) (behind (without_run es f l) a) (run ps f l) (behind (without_run ps f l) a)
    (like_through l (starting_at es f) (starting_at ps f) (like_starting_at f es ps like))
    (like_behind a (without_run es f l) (without_run ps f l) rest))

pub like_run : (f l : ℕ) (es : List (ℕ × Slot)) (ps : List (ℕ × Block)) → IsLike es ps → IsRun ps f l → IsRun es f l
like_run f l es ps like is_run =
    record { starts = like_contains f es ps like ∙ is_run.starts; ends = like_contains l (starting_at es f) (starting_at ps f) (like_starting_at f es ps like) ∙ is_run.ends }

pub like_outside : (f l a : ℕ) (es : List (ℕ × Slot)) (ps : List (ℕ × Block)) → IsLike es ps → ContainsKey (without_run ps f l) a → ContainsKey (without_run es f l) a
like_outside f l a es ps like there = like_contains a (without_run es f l) (without_run ps f l) (like_without f l es ps like) ∙ there

pub like_numbered : (n : ℕ) (es : List (ℕ × Slot)) (ps : List (ℕ × Block)) → IsLike es ps → renumbered n es ≡ slots_from n (map (λ p. p.1) ps)
like_numbered n [] [] like = refl
like_numbered n [] (p ∷ ps) like = absurd like
like_numbered n (e ∷ es) [] like = absurd like
like_numbered n (e ∷ es) (p ∷ ps) like =
    ap (λ s. (e.0, record s { start = n }) ∷ renumbered (n + s.length) es) (same_slot e.1 (record e.1 { length = length p.1.items; term = p.1.term }) refl like.2 like.3)
    ∙ ap (λ k. (k, slot_of n p.1) ∷ renumbered (n + length p.1.items) es) (like.0 ∙ like.1)
    ∙ ap (λ xs. (p.1.name, slot_of n p.1) ∷ xs) (like_numbered (n + length p.1.items) es ps like.4)
  where
    same_slot : (a b : Slot) → a.start ≡ b.start → a.length ≡ b.length → a.term ≡ b.term → a ≡ b
    same_slot a b start length term =
        ap (λ n. record a { start = n }) start ∙ ap (λ n. record b { length = n; term = a.term }) length ∙ ap (λ t. record b { term = t }) term

-- the items of named blocks
abbrev pub pair_items : List (ℕ × Block) → List Item
pair_items ps = flat_map (λ p. p.1.items) ps

pub pair_items-append : (xs ys : List (ℕ × Block)) → pair_items (xs ++ ys) ≡ pair_items xs ++ pair_items ys
pair_items-append xs ys = flat_map-append (λ p. p.1.items) xs ys

pub pair_items-is : (ps : List (ℕ × Block)) → items_of_blocks (map (λ p. p.1) ps) ≡ pair_items ps
pair_items-is [] = refl
pair_items-is (p ∷ ps) = ap (λ is. p.1.items ++ is) (pair_items-is ps)

pub pair_items-named : (bs : List Block) → pair_items (named bs) ≡ items_of_blocks bs
pair_items-named [] = refl
pair_items-named (b ∷ bs) = ap (λ is. b.items ++ is) (pair_items-named bs)

pub like_length : (es : List (ℕ × Slot)) (ps : List (ℕ × Block)) → IsLike es ps → length_of_slots es ≡ length (pair_items ps)
like_length [] [] like = refl
like_length [] (p ∷ ps) like = absurd like
like_length (e ∷ es) [] like = absurd like
like_length (e ∷ es) (p ∷ ps) like = omega (arith, like.2, like_length es ps like.4, length-append p.1.items (pair_items ps))

module _ {T : Type 0} where
  pub through-in : (xs zs : List (ℕ × T)) (k : ℕ) → IsSome (value_of xs k) → through (xs ++ zs) k ≡ through xs k
  through-in [] zs k some = absurd (cc)
  through-in (x ∷ xs) zs k some =
      elim (cases_Bool (x.0 == k)) [ inl here ↦ rw here | inr apart ↦ rw apart (ap (λ ys. x ∷ ys) (through-in xs zs k (rw apart at some))) ]

  pub behind-in : (xs zs : List (ℕ × T)) (k : ℕ) → IsSome (value_of xs k) → behind (xs ++ zs) k ≡ behind xs k ++ zs
  behind-in [] zs k some = absurd (cc)
  behind-in (x ∷ xs) zs k some =
      elim (cases_Bool (x.0 == k)) [ inl here ↦ rw here | inr apart ↦ rw apart (behind-in xs zs k (rw apart at some)) ]

  pub through-out : (xs zs : List (ℕ × T)) (k : ℕ) → value_of xs k ≡ None → through (xs ++ zs) k ≡ xs ++ through zs k
  through-out [] zs k none = refl
  through-out (x ∷ xs) zs k none =
      elim (cases_Bool (x.0 == k)) [ inl here ↦ absurd (cc (rw here at none)) | inr apart ↦ rw apart (ap (λ ys. x ∷ ys) (through-out xs zs k (rw apart at none))) ]

  pub behind-out : (xs zs : List (ℕ × T)) (k : ℕ) → value_of xs k ≡ None → behind (xs ++ zs) k ≡ behind zs k
  behind-out [] zs k none = refl
  behind-out (x ∷ xs) zs k none =
      elim (cases_Bool (x.0 == k)) [ inl here ↦ absurd (cc (rw here at none)) | inr apart ↦ rw apart (behind-out xs zs k (rw apart at none)) ]

  -- two pieces exchanged
  pub exchanged_pieces : (p x z w : List T) (from mid to : ℕ) → from ≡ length p → mid ≡ from + length x → to ≡ mid + length z → exchanged (p ++ (x ++ (z ++ w))) from mid to ≡ p ++ (z ++ (x ++ w))
  exchanged_pieces p x z w from mid to from_is mid_is to_is =
      let whole : p ++ (x ++ (z ++ w)) ≡ (p ++ x) ++ (z ++ w) = sym (append_assoc p x (z ++ w)) in
      let whole' : p ++ (x ++ (z ++ w)) ≡ ((p ++ x) ++ z) ++ w = whole ∙ sym (append_assoc (p ++ x) z w) in
      let px : length (p ++ x) ≡ mid = omega (arith, from_is, mid_is, length-append p x) in
      let pxz : length ((p ++ x) ++ z) ≡ to = omega (arith, px, to_is, length-append (p ++ x) z) in
      let second : to - mid ≡ length z = omega (arith, to_is) in
      let first : mid - from ≡ length x = omega (arith, mid_is) in
      ap (λ ys. ys ++ ((take (to - mid) (drop mid (p ++ (x ++ (z ++ w)))) ++ take (mid - from) (drop from (p ++ (x ++ (z ++ w))))) ++ drop to (p ++ (x ++ (z ++ w))))) (take_at p (x ++ (z ++ w)) from (sym from_is))
      ∙ ap (λ ys. p ++ ((take (to - mid) ys ++ take (mid - from) (drop from (p ++ (x ++ (z ++ w))))) ++ drop to (p ++ (x ++ (z ++ w))))) (ap (drop mid) whole ∙ drop_at (p ++ x) (z ++ w) mid px)
      ∙ ap (λ ys. p ++ ((ys ++ take (mid - from) (drop from (p ++ (x ++ (z ++ w))))) ++ drop to (p ++ (x ++ (z ++ w))))) (take_at z w (to - mid) (sym second))
      ∙ ap (λ ys. p ++ ((z ++ take (mid - from) ys) ++ drop to (p ++ (x ++ (z ++ w))))) (drop_at p (x ++ (z ++ w)) from (sym from_is))
      ∙ ap (λ ys. p ++ ((z ++ ys) ++ drop to (p ++ (x ++ (z ++ w))))) (take_at x (z ++ w) (mid - from) (sym first))
      ∙ ap (λ ys. p ++ ((z ++ x) ++ ys)) (ap (drop to) whole' ∙ drop_at ((p ++ x) ++ z) w to pxz)
      ∙ ap (λ ys. p ++ ys) (append_assoc z x w)
