-- Functions with their tracks, one after another, and in order.
use Rattle.std.proofs.Common.{◌≡◌, ℕ, zero, suc, ◌+◌, ◌<◌, ◌≤◌, List, [], ◌∷◌, ◌++◌, append_assoc, length, map, flat_map, get_or, drop, Option, Some, None, Result, Ok, Err, IfOk, refl, sym, ap, ◌∙◌, subst, arith}
use Rattle.std.proofs.lemmas.List.{drop_more, drop_all, append-nil}
use Rattle.std.proofs.lemmas.List.Sorted.{IsPermutation-map}
use Rattle.std.proofs.lemmas.Option.{slice_get_within, get_or_from_slice_get}
use Rattle.std.specs.List.{slice_get}
use Rattle.std.specs.List.Sorted.{IsPermutation, IsSorted}
use Rattle.std.specs.Option.{option_to_list}
use Rattle.std.specs.Cmp.Lexicographic.{slice_cmp}
use Rattle.std.specs.Ordering.{is_lt, nat_cmp, ordering_then}
use Rattle.std.specs.declared.cmp.Ordering.{Ordering}
use Rattle.sq_names.specs.contracts.listing.PlacedOrd.TheImpl as placed_ord
use Rattle.sq_names.specs.contracts.track.TrackOrd.TheImpl as track_ord
use Rattle.sq_names.specs.declared.listing.Placed.{Placed}
use Rattle.sq_names.specs.declared.track.Track.{Track}
use Rattle.sq_names.specs.declared.track.Track.TheVariants.{At, Inside, Gone}
use Rattle.sq_names.specs.Functions.{NamedFunction}
use Rattle.sq_names.specs.Listing.{Entry, entries_of, track_cmp, entry_cmp, entry_line, AreListed}
use Rattle.sq_names.specs.Placed.{entry_of, entry_at, joined}

-- ONE AFTER ANOTHER

-- what is left from a place on
at_some : {X : Type 0} (xs : List X) (i : ℕ) (x : X) → slice_get xs i ≡ Some x → drop i xs ≡ x ∷ drop (i + 1) xs
at_some xs i x there = drop_more xs i x (slice_get_within xs i x there) ∙ ap (λ y. y ∷ drop (i + 1) xs) (get_or_from_slice_get xs i x x there)

past : {X : Type 0} (xs : List X) (i : ℕ) → slice_get xs i ≡ None → length xs ≤ i
past [] i none = omega arith
past (x ∷ xs) zero none = absurd (cc none)
past (x ∷ xs) (suc i) none = let less : length xs ≤ i = past xs i none in omega (arith, less)

past_more : {X : Type 0} (xs : List X) (i : ℕ) → slice_get xs i ≡ None → drop (i + 1) xs ≡ []
past_more xs i none = let less : length xs ≤ i = past xs i none in drop_all (i + 1) xs (omega (arith, less))

none_left : (functions : List NamedFunction) → entries_of functions [] ≡ []
none_left [] = refl
none_left (function ∷ functions) = refl

by_parts : (functions : List NamedFunction) (tracks : List Track) (i : ℕ) (f : Option NamedFunction) (t : Option Track) → slice_get functions i ≡ f → slice_get tracks i ≡ t →
    entries_of (drop i functions) (drop i tracks) ≡ option_to_list (joined f t) ++ entries_of (drop (i + 1) functions) (drop (i + 1) tracks)
by_parts functions tracks i (Some f) (Some t) one other = λ k. entries_of (at_some functions i f one k) (at_some tracks i t other k)
by_parts functions tracks i (Some f) None one other =
    ap (entries_of (drop i functions)) (drop_all i tracks (past tracks i other)) ∙ none_left (drop i functions)
    ∙ sym (ap (entries_of (drop (i + 1) functions)) (past_more tracks i other) ∙ none_left (drop (i + 1) functions))
by_parts functions tracks i None t one other =
    ap (λ fs. entries_of fs (drop i tracks)) (drop_all i functions (past functions i one))
    ∙ sym (ap (λ fs. entries_of fs (drop (i + 1) tracks)) (past_more functions i one))

-- an entry more
pub entered : (functions : List NamedFunction) (tracks : List Track) (i : ℕ) (done more whole : List Entry) (e : Option Entry) → e ≡ entry_at functions tracks i → more ≡ done ++ option_to_list e →
    done ++ entries_of (drop i functions) (drop i tracks) ≡ whole → more ++ entries_of (drop (i + 1) functions) (drop (i + 1) tracks) ≡ whole
entered functions tracks i done more whole e is was all =
    let left = entries_of (drop (i + 1) functions) (drop (i + 1) tracks) in
    let step : entries_of (drop i functions) (drop i tracks) ≡ option_to_list e ++ left = by_parts functions tracks i (slice_get functions i) (slice_get tracks i) refl refl ∙ ap (λ o. option_to_list o ++ left) (sym is) in
    let front : (done ++ option_to_list e) ++ left ≡ done ++ (option_to_list e ++ left) = simp append_assoc in
    ap (λ xs. xs ++ left) was ∙ front ∙ ap (λ xs. done ++ xs) (sym step) ∙ all

-- and no more
pub all_entered : (functions : List NamedFunction) (tracks : List Track) (i : ℕ) (done whole : List Entry) → length functions ≤ i → done ++ entries_of (drop i functions) (drop i tracks) ≡ whole → done ≡ whole
all_entered functions tracks i done whole end all =
    sym (append-nil done) ∙ ap (λ xs. done ++ xs) (sym (ap (λ fs. entries_of fs (drop i tracks)) (drop_all i functions end))) ∙ all

-- what follows of each value that a call answers
pub then_so : {T E : Type 0} (r : Result T E) (P Q : T → Type 0) → IfOk r P → ((x : T) → P x → Q x) → IfOk r Q
then_so (Ok x) P Q told follows = follows x told
then_so (Err e) P Q told follows = tt

-- IN ORDER

tracks_same : (s t : Track) → (track_ord.ghosts).cmp s t ≡ track_cmp s t
tracks_same (At a) (At b) = refl
tracks_same (At a) Inside = refl
tracks_same (At a) Gone = refl
tracks_same Inside (At b) = refl
tracks_same Inside Inside = refl
tracks_same Inside Gone = refl
tracks_same Gone (At b) = refl
tracks_same Gone Inside = refl
tracks_same Gone Gone = refl

placed_same : (a b : Placed) → (placed_ord.ghosts).cmp a b ≡ entry_cmp (entry_of a) (entry_of b)
placed_same a b = ap (λ (o : Ordering). ordering_then o (slice_cmp nat_cmp a.name.now b.name.now)) (tracks_same a.track b.track)

mapped_at : (xs : List Placed) (i : ℕ) (d : Entry) (e : Placed) → i < length xs → get_or (map entry_of xs) i d ≡ entry_of (get_or xs i e)
mapped_at [] i d e less = absurd (omega arith)
mapped_at (x ∷ xs) zero d e less = refl
mapped_at (x ∷ xs) (suc i) d e less = mapped_at xs i d e (omega arith)

sorted_so : (xs : List Placed) (e : Placed) → IsSorted (placed_ord.ghosts).cmp xs → IsSorted entry_cmp (map entry_of xs)
sorted_so xs e up = λ k d first within.
    let long : k + 1 < length xs = omega (arith, length_map_of xs, within) in
    let upper = mapped_at xs (k + 1) d e long in
    let lower = mapped_at xs k d e (omega (arith, long)) in
    (λ i. is_lt (entry_cmp (upper i) (lower i)))
    ∙ ap is_lt (sym (placed_same (get_or xs (k + 1) e) (get_or xs k e)))
    ∙ up k e first long
  where
    length_map_of : (ys : List Placed) → length (map entry_of ys) ≡ length ys
    length_map_of [] = refl
    length_map_of (y ∷ ys) = ap suc (length_map_of ys)

sorted : (xs : List Placed) → IsSorted (placed_ord.ghosts).cmp xs → IsSorted entry_cmp (map entry_of xs)
sorted [] up = λ k d first within. absurd (omega (arith, within))
sorted (x ∷ xs) up = sorted_so (x ∷ xs) x up

lines_same : (xs : List Placed) → flat_map (λ entry. entry_line (entry_of entry)) xs ≡ flat_map entry_line (map entry_of xs)
lines_same [] = refl
lines_same (x ∷ xs) = ap (λ rest. entry_line (entry_of x) ++ rest) (lines_same xs)

pub listed : (functions : List NamedFunction) (tracks : List Track) (given order : List Placed) (text : List ℕ) → map entry_of given ≡ entries_of functions tracks → IsPermutation given order → IsSorted (placed_ord.ghosts).cmp order → text ≡ flat_map (λ entry. entry_line (entry_of entry)) order → AreListed functions tracks text
listed functions tracks given order text is moved up told = record {
  entries = map entry_of order;
  each = subst (λ es. IsPermutation es (map entry_of order)) is (IsPermutation-map entry_of given order moved);
  sorted = sorted order up;
  text_is = told ∙ lines_same order;
}
