-- The search for blocks whose bodies match.
use Rattle.std.proofs.Common.{◌≡◌, ◌≢◌, ℕ, zero, suc, ◌+◌, ◌-◌, ◌<◌, ◌≤◌, ◌⊎◌, Bool, true, false, not, List, [], ◌∷◌, ◌++◌, Option, Some, None, slice_get, get_or, reverse, map, length, is_some, refl, sym, ap, ◌∙◌, subst, arith, ⊎_elim}
use Rattle.std.specs.Prelude.{slice_index}
use Rattle.std.specs.List.{All}
use Rattle.std.proofs.lemmas.Bool.{cases_eq}
use Rattle.std.proofs.lemmas.Grind.{get_or_default_zero}
use Rattle.std.proofs.lemmas.List.{get_or-reverse, length-reverse, length-map, reverse-append, map-append}
use Rattle.std.proofs.lemmas.Option.{get_or_from_slice_get}
use Rattle.sq_graph.specs.declared.item.Item.{Item}
use Rattle.sq_graph.specs.declared.item.Term.{Term}
use Rattle.sq_graph.specs.declared.item.Term.TheVariants.{Fall, Jump, Branch, Call, PartJump, Indirect, Stop}
use Rattle.sq_graph.specs.Graph.{Graph}
use Rattle.sq_graph.specs.Blocks.{HasBlock, items_of, term_of}
use Rattle.sq_graph.specs.Matches.{AreSameForms}
use Rattle.sq_graph.specs.Parts.{names_of}
use Rattle.sq_graph.specs.Resolve.{resolved_term_of}
use Rattle.sq_graph.specs.Rules.{IsGraph}
use Rattle.sq_graph.specs.Slotted.{position_in}
use Rattle.sq_graph.specs.Words.{term_words}
use Rattle.sq_graph.proofs.Slotting.{at_position, position_below}
use Rattle.sq_live.specs.Liveness.{IsLivenessOf}
use Rattle.sq_live.proofs.Layouts.{block_at}
use Rattle.sq_rename.specs.Bodies.{IsBodyMatch, IsLiveBehind}
use Rattle.law_patch.specs.Bodies.{HaveBodies}
use Rattle.sq_tail.specs.Bodies.{IsBodyPair, MayDrop, NoneAhead}
use Rattle.sq_tail.specs.BodiesEarlier.{IsLast, AreEarlier}
use Rattle.sq_tail.specs.BodiesPrints.{print_of}
use Rattle.sq_tail.specs.Tails.{words_of_end, end_words}
use Rattle.sq_tail.proofs.Applying.{some_items, body_ends}
use Rattle.sq_tail.proofs.BodiesPrinted.{one_print}

-- how many places may be left on a walk to lower places
abbrev pub steps_left : Option ℕ → ℕ
steps_left None = 0
steps_left (Some at) = at + 1

split : (j below : ℕ) → (j < below) ⊎ (below ≤ j)
split j below = grind arith

-- WHEN TWO BLOCKS ARE A PAIR

small_term : (t : Term) → term_words t ≤ 1
small_term Fall = omega arith
small_term (Jump to) = omega arith
small_term (Branch c a b to) = omega arith
small_term (Call link to) = omega arith
small_term (PartJump link part to) = omega arith
small_term (Indirect link at offset) = omega arith
small_term (Stop word) = omega arith

small_end : (o : Option Term) → words_of_end o ≤ 1
small_end None = omega arith
small_end (Some t) = small_term t

pub end_small : (g : Graph) (block : ℕ) → end_words g block ≤ 1
end_small g block = small_end (term_of g block)

as_many : (items others : List Item) → AreSameForms items others → length items ≡ length others
as_many [] [] forms = refl
as_many [] (j ∷ others) forms = absurd forms
as_many (i ∷ items) [] forms = absurd forms
as_many (i ∷ items) (j ∷ others) forms = ap suc (as_many items others forms.1)

items_some : (items : List Item) → 1 ≤ length items → items ≢ []
items_some [] some e = absurd (omega (arith, some))
items_some (item ∷ items) some e = absurd (cc)

pub match_of : (g : Graph) (dropped kept : ℕ) → HaveBodies g dropped kept → IsBodyMatch g.procedures (items_of g dropped) (items_of g kept) (IsLiveBehind g dropped)
match_of g dropped kept have = record { match = have.match; pairs_die = have.pairs_die }

pub bodies_of : (g : Graph) (dropped kept : ℕ) → kept ≢ dropped → MayDrop g dropped → resolved_term_of g dropped ≡ resolved_term_of g kept → IsBodyMatch g.procedures (items_of g dropped) (items_of g kept) (IsLiveBehind g dropped) → HaveBodies g dropped kept
bodies_of g dropped kept other may terms body =
    record {
      other = other;
      match = body.match;
      some = items_some (items_of g kept) (omega (arith, may.some, as_many (items_of g dropped) (items_of g kept) body.match.forms));
      pairs_die = body.pairs_die;
      terms = terms;
    }

pub pair_of : (g : Graph) (dropped kept : ℕ) → MayDrop g dropped → HaveBodies g dropped kept → IsBodyPair g dropped kept
pair_of g dropped kept may have =
    record { bodies = have; plain = may.plain; some = omega (arith, may.words, as_many (items_of g dropped) (items_of g kept) have.match.forms) }

pub may_of : (g : Graph) (dropped kept : ℕ) → IsBodyPair g dropped kept → MayDrop g dropped
may_of g dropped kept pair =
    let many = as_many (items_of g dropped) (items_of g kept) pair.bodies.match.forms in
    let some = some_items (items_of g kept) pair.bodies.some in
    record { some = omega arith; plain = pair.plain; words = omega (arith, pair.some) }

-- THE WALK OVER THE BLOCKS AHEAD THAT HAVE ONE PRINT

key_at : (f : ℕ → ℕ) (names : List ℕ) (i : ℕ) → i < length names → slice_index (map f names) i ≡ f (slice_index names i)
key_at f [] i below = absurd (omega arith)
key_at f (n ∷ names) zero below = refl
key_at f (n ∷ names) (suc i) below = key_at f names i (omega arith)

module _ (live : List (ℕ × List ℕ)) (g : Graph) (names : List ℕ) (place : ℕ) where
  -- those from `below` on have been tried, and `at` is the last one below it that has the print
  pub record IsOpen (at : Option ℕ) : Type 0 where
    pub below : ℕ
    pub within : below ≤ place
    pub last : IsLast (map (print_of live g) names) (slice_index (map (print_of live g) names) place) below at
    pub tried : (j : ℕ) → below ≤ j → j < place → ¬ HaveBodies g (slice_index names place) (slice_index names j)

  lower : (keys : List ℕ) (key below : ℕ) (at : Option ℕ) → IsLast keys key below at → steps_left at < below + 1
  lower keys key below None last = omega arith
  lower keys key below (Some at) last = let under = last.0 in omega arith

  module _ (there : place < length names) (rules : IsGraph g) (exact : IsLivenessOf g live) where
    unlike : (j : ℕ) → j < place → slice_index (map (print_of live g) names) j ≢ slice_index (map (print_of live g) names) place → ¬ HaveBodies g (slice_index names place) (slice_index names j)
    unlike j ahead apart have =
        apart (key_at (print_of live g) names j (omega arith) ∙ sym (one_print live g (slice_index names place) (slice_index names j) rules exact have) ∙ sym (key_at (print_of live g) names place there))

    pub open_first : (earlier : List (Option ℕ)) (at : Option ℕ) → AreEarlier (map (print_of live g) names) earlier → slice_get earlier place ≡ Some at → IsOpen at
    open_first earlier at are e =
        record { below = place; within = omega arith; last = are.earlier place at e; tried = λ j over under. absurd (omega arith) }

    pub open_next : (earlier : List (Option ℕ)) (other : ℕ) (at : Option ℕ) → AreEarlier (map (print_of live g) names) earlier → IsOpen (Some other) → ¬ HaveBodies g (slice_index names place) (slice_index names other) → slice_get earlier other ≡ Some at → IsOpen at
    open_next earlier other at are o fails e =
        let under = o.last.0 in
        let within = o.within in
        record {
          below = other;
          within = omega arith;
          last = subst (λ key. IsLast (map (print_of live g) names) key other at) o.last.1.0 (are.earlier other at e);
          tried = λ j over ahead.
              ⊎_elim
              (λ same. subst (λ k. ¬ HaveBodies g (slice_index names place) (slice_index names k)) (sym same) fails)
              (λ apart. ⊎_elim (λ less. unlike j ahead (o.last.1.1 j (omega arith) less)) (λ more. o.tried j more ahead) (split j o.below))
              (cases_eq j other);
        }

    pub open_none : IsOpen None → (j : ℕ) → j < place → ¬ HaveBodies g (slice_index names place) (slice_index names j)
    open_none o j ahead = ⊎_elim (λ less. unlike j ahead (o.last j less)) (λ more. o.tried j more ahead) (split j o.below)

    -- the walk goes down
    pub open_smaller : (earlier : List (Option ℕ)) (other : ℕ) (at : Option ℕ) → AreEarlier (map (print_of live g) names) earlier → slice_get earlier other ≡ Some at → steps_left at < steps_left (Some other)
    open_smaller earlier other at are e = lower (map (print_of live g) names) (slice_index (map (print_of live g) names) other) other at (are.earlier other at e)

    pub open_within : (earlier : List (Option ℕ)) (other : ℕ) → AreEarlier (map (print_of live g) names) earlier → IsOpen (Some other) → other < length earlier
    open_within earlier other are o =
        let under = o.last.0 in
        let within = o.within in
        let many = are.many in
        omega (arith, length-map names (print_of live g))

    pub place_within : (earlier : List (Option ℕ)) → AreEarlier (map (print_of live g) names) earlier → place < length earlier
    place_within earlier are = let many = are.many in omega (arith, length-map names (print_of live g))

    -- none ahead has the print
    pub first_print : (earlier : List (Option ℕ)) → AreEarlier (map (print_of live g) names) earlier → slice_get earlier place ≡ Some None → (j : ℕ) → j < place → ¬ IsBodyPair g (slice_index names place) (slice_index names j)
    first_print earlier are e j ahead pair = open_none (open_first earlier None are e) j ahead pair.bodies

-- ALL PAIRS

pub none_is : (o : Option ℕ) (b : Bool) → is_some o ≡ not b → b ≡ true → o ≡ None
none_is None b is sure = refl
none_is (Some n) b is sure = absurd (let f : not b ≡ false = ap not sure in cc)

pub names_there : (g : Graph) (names : List ℕ) → IsGraph g → names ≡ names_of g → All (HasBlock g) names
names_there g names rules is k d below =
    subst (HasBlock g) (sym (get_or_default_zero names k d below)) (let b = block_at g names k rules is below in ap is_some b.found)

pub back_there : (P : ℕ → Type 0) (names : List ℕ) → All P names → All P (reverse names)
back_there P names all k d below =
    let many = length-reverse names in
    subst P (sym (get_or-reverse names k d (omega arith))) (all (length names - 1 - k) d (omega arith))

pub map_back : (f : ℕ → ℕ) (xs : List ℕ) → reverse (map f xs) ≡ map f (reverse xs)
map_back f [] = refl
map_back f (x ∷ xs) =
    reverse-append (f x ∷ []) (map f xs)
    ∙ ap (λ (ys : List ℕ). ys ++ f x ∷ []) (map_back f xs)
    ∙ sym (map-append f (reverse xs) (x ∷ []))
    ∙ ap (map f) (sym (reverse-append (x ∷ []) xs))

place_of : (g : Graph) (n : ℕ) → HasBlock g n → (p : ℕ) × (p < length (names_of g)) × (slice_index (names_of g) p ≡ n)
place_of g n has = (position_in (names_of g) n, position_below g n has, get_or_from_slice_get (names_of g) (position_in (names_of g) n) n 0 (at_position g n has))

back_of : (names : List ℕ) (p : ℕ) → p < length names → slice_index (reverse names) (length names - 1 - p) ≡ slice_index names p
back_of names p below =
    get_or-reverse names (length names - 1 - p) 0 (omega arith) ∙ ap (λ k. get_or names k 0) (let e : length names - 1 - (length names - 1 - p) ≡ p = omega arith in e)

-- where no block may be dropped for one ahead of it, nor for one behind it, there is no pair
pub no_pair : (g : Graph) → NoneAhead g (names_of g) → NoneAhead g (reverse (names_of g)) → (dropped kept : ℕ) → ¬ IsBodyPair g dropped kept
no_pair g ahead behind dropped kept pair =
    let ends = body_ends g dropped kept pair.bodies in
    let d = place_of g dropped ends.has in
    let k = place_of g kept ends.there in
    let many = length-reverse (names_of g) in
    let here : IsBodyPair g (slice_index (names_of g) d.0) (slice_index (names_of g) k.0) = subst (λ n. IsBodyPair g n (slice_index (names_of g) k.0)) (sym d.2) (subst (λ n. IsBodyPair g dropped n) (sym k.2) pair) in
    ⊎_elim
    (λ first. ahead d.0 k.0 first d.1 here)
    (λ more. ⊎_elim
    (λ same. pair.bodies.other (sym k.2 ∙ ap (slice_index (names_of g)) (sym same) ∙ d.2))
    (λ apart.
    behind (length (names_of g) - 1 - d.0) (length (names_of g) - 1 - k.0) (let l = d.1 in let m = k.1 in omega arith) (let l = d.1 in omega arith)
    (subst (λ n. IsBodyPair g n (slice_index (reverse (names_of g)) (length (names_of g) - 1 - k.0))) (sym (back_of (names_of g) d.0 d.1))
    (subst (λ n. IsBodyPair g (slice_index (names_of g) d.0) n) (sym (back_of (names_of g) k.0 k.1)) here)))
    (cases_eq d.0 k.0))
    (split k.0 d.0)
