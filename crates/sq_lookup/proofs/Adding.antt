-- Names that come to a set one after another.
use Rattle.std.proofs.Common.{◌≡◌, ℕ, ◌+◌, ◌<◌, ◌==◌, Bool, true, false, ◌||◌, List, [], ◌∷◌, ◌++◌, length, take, get_or, nat_eq, slice_get, Some, inl, inr, refl, sym, ap, ◌∙◌, subst, arith}
use Rattle.std.proofs.lemmas.Bool.{cases_Bool, eqb-true, eqb-false, eq-eqb, ne_eqb}
use Rattle.std.proofs.lemmas.List.{append-nil, take_more}
use Rattle.std.proofs.lemmas.List.Concat.{flat_map-append}
use Rattle.std.proofs.lemmas.List.Folds.{list_any-append}
use Rattle.std.proofs.lemmas.Option.{slice_get_cases}
use Rattle.std.specs.List.{flat_map}
use Rattle.std.proofs.Math.Bool.{or_assoc, or_comm}
use Rattle.sq_isa.specs.Registers.{is_among}
use Rattle.sq_graph.specs.Graph.{Block, Procedure, Graph}
use Rattle.sq_graph.specs.Blocks.{items_of_blocks, items_of_bodies, all_items}
use Rattle.sq_graph.specs.Uses.{item_uses, items_uses, terms_uses, code_word_uses, uses}
use Rattle.sq_lookup.specs.Names.{is_listed, Adds, held_uses}

pub is_listed-append : (xs ys : List ℕ) (n : ℕ) → is_listed (xs ++ ys) n ≡ (is_listed xs n || is_listed ys n)
is_listed-append xs ys n = list_any-append (nat_eq n) xs ys

-- a name in a list, by the test of tables
pub among_listed : (xs : List ℕ) (n : ℕ) → is_among xs n ≡ is_listed xs n
among_listed [] n = refl
among_listed (x ∷ xs) n =
    elim (cases_Bool (x == n)) [
      | inl here ↦ rw (here, eq-eqb n x (sym (eqb-true x n here))) refl
      | inr apart ↦ rw (apart, ne_eqb n x (λ same. eqb-false x n apart (sym same))) (among_listed xs n)
    ]

or_false : (a : Bool) → a ≡ (a || false)
or_false true = refl
or_false false = refl

pub adds_none : (names : List ℕ) → Adds [] names names
adds_none names = record { each = λ n. or_false (is_listed names n) }

pub adds_then : (names more s t u : List ℕ) → Adds names s t → Adds more t u → Adds (names ++ more) s u
adds_then names more s t u first second = record {
  each = λ n.
      second.each n ∙ ap (λ b. b || is_listed more n) (first.each n) ∙ or_assoc (is_listed s n) (is_listed names n) (is_listed more n)
      ∙ ap (λ b. is_listed s n || b) (sym (is_listed-append names more n));
}

-- the names of one more element
pub adds_more : {X : Type 0} (f : X → List ℕ) (xs : List X) (i : ℕ) (x : X) (s t u : List ℕ) → i < length xs → x ≡ get_or xs i x → Adds (flat_map f (take i xs)) s t → Adds (f x) t u → Adds (flat_map f (take (i + 1) xs)) s u
adds_more {X} f xs i x s t u h is first second =
    let more : take (i + 1) xs ≡ take i xs ++ x ∷ [] = take_more xs i x h ∙ ap (λ (y : X). take i xs ++ y ∷ []) (sym is) in
    let names : flat_map f (take (i + 1) xs) ≡ flat_map f (take i xs) ++ f x = ap (flat_map f) more ∙ (flat_map-append f (take i xs) (x ∷ []) ∙ ap (λ ns. flat_map f (take i xs) ++ ns) (append-nil (f x))) in
    subst (λ ns. Adds ns s u) (sym names) (adds_then (flat_map f (take i xs)) (f x) s t u first second)

-- the same where the list with one more is known
pub adds_pushed : {X : Type 0} (f : X → List ℕ) (front all : List X) (x : X) (s t u : List ℕ) → all ≡ front ++ x ∷ [] → Adds (flat_map f front) s t → Adds (f x) t u → Adds (flat_map f all) s u
adds_pushed f front all x s t u more first second =
    let names : flat_map f all ≡ flat_map f front ++ f x = ap (flat_map f) more ∙ (flat_map-append f front (x ∷ []) ∙ ap (λ ns. flat_map f front ++ ns) (append-nil (f x))) in
    subst (λ ns. Adds ns s u) (sym names) (adds_then (flat_map f front) (f x) s t u first second)

pub uses_of_blocks : (bs : List Block) → flat_map (λ b. items_uses b.items) bs ≡ items_uses (items_of_blocks bs)
uses_of_blocks [] = refl
uses_of_blocks (b ∷ bs) = ap (λ ns. items_uses b.items ++ ns) (uses_of_blocks bs) ∙ sym (flat_map-append item_uses b.items (items_of_blocks bs))

pub uses_of_bodies : (ps : List Procedure) → flat_map (λ p. items_uses p.body) ps ≡ items_uses (items_of_bodies ps)
uses_of_bodies [] = refl
uses_of_bodies (p ∷ ps) = ap (λ ns. items_uses p.body ++ ns) (uses_of_bodies ps) ∙ sym (flat_map-append item_uses p.body (items_of_bodies ps))

-- in whichever order the names come
adds_turned : (names more s t : List ℕ) → Adds (names ++ more) s t → Adds (more ++ names) s t
adds_turned names more s t add = record {
  each = λ n.
      add.each n
      ∙ ap (λ b. is_listed s n || b) (is_listed-append names more n ∙ or_comm (is_listed names n) (is_listed more n) ∙ sym (is_listed-append more names n));
}

-- the items of a graph, those of blocks first
pub adds_items : (g : Graph) (a b c : List ℕ) → Adds (flat_map (λ b. items_uses b.items) g.blocks) a b → Adds (flat_map (λ p. items_uses p.body) g.procedures) b c → Adds (items_uses (all_items g)) a c
adds_items g a b c blocks bodies =
    let in_blocks : Adds (items_uses (items_of_blocks g.blocks)) a b = subst (λ ns. Adds ns a b) (uses_of_blocks g.blocks) blocks in
    let in_bodies : Adds (items_uses (items_of_bodies g.procedures)) b c = subst (λ ns. Adds ns b c) (uses_of_bodies g.procedures) bodies in
    subst (λ ns. Adds ns a c) (sym (flat_map-append item_uses (items_of_blocks g.blocks) (items_of_bodies g.procedures)))
    (adds_then (items_uses (items_of_blocks g.blocks)) (items_uses (items_of_bodies g.procedures)) a b c in_blocks in_bodies)

-- then the entry and the code words
pub adds_held : (g : Graph) (a b c d : List ℕ) → Adds (items_uses (all_items g)) a b → Adds (g.entry ∷ []) b c → Adds (code_word_uses g.code_words) c d → Adds (held_uses g) a d
adds_held g a b c d items entry words =
    let first = g.entry ∷ [] in
    let W = code_word_uses g.code_words in
    let I = items_uses (all_items g) in
    adds_turned I (g.entry ∷ W) a d (adds_then I (g.entry ∷ W) a b d items (adds_then first W b c d entry words))

-- a name is used where it is held, or a term names it
pub used_or_held : (g : Graph) (n : ℕ) → is_listed (uses g) n ≡ (is_listed (held_uses g) n || is_listed (terms_uses g.blocks) n)
used_or_held g n =
    let W = code_word_uses g.code_words in
    let T = terms_uses g.blocks in
    let I = items_uses (all_items g) in
    ap (λ b. nat_eq n g.entry || b) (is_listed-append W (T ++ I) n ∙ ap (λ b. is_listed W n || b) (is_listed-append T I n))
    ∙ moved (nat_eq n g.entry) (is_listed W n) (is_listed T n) (is_listed I n)
    ∙ ap (λ b. (nat_eq n g.entry || b) || is_listed T n) (sym (is_listed-append W I n))
  where
    moved : (e w t i : Bool) → (e || (w || (t || i))) ≡ ((e || (w || i)) || t)
    moved true w t i = refl
    moved false true t i = refl
    moved false false true true = refl
    moved false false true false = refl
    moved false false false true = refl
    moved false false false false = refl

pub adds_uses : (g : Graph) (a b c : List ℕ) → Adds (held_uses g) a b → Adds (terms_uses g.blocks) b c → Adds (uses g) a c
adds_uses g a b c held terms = record {
  each = λ n.
      terms.each n ∙ ap (λ t. t || is_listed (terms_uses g.blocks) n) (held.each n)
      ∙ or_assoc (is_listed a n) (is_listed (held_uses g) n) (is_listed (terms_uses g.blocks) n)
      ∙ ap (λ t. is_listed a n || t) (sym (used_or_held g n));
}

-- one more procedure
pub procedure_more : (ps : List Procedure) (k : ℕ) (p : Procedure) → k < length ps → slice_get ps k ≡ Some p → take (k + 1) ps ≡ take k ps ++ p ∷ []
procedure_more ps k p within found =
    let same : get_or ps k p ≡ p = elim ((slice_get_cases ps k).1) [
      | inl x ↦ let e : Some x.0 ≡ Some p = sym x.2 ∙ found in let same : x.0 ≡ p = cc in subst (λ (y : Procedure). get_or ps k y ≡ y) same x.3
      | inr past ↦ absurd (omega (arith, past.0))
    ] in
    take_more ps k p within ∙ ap (λ (y : Procedure). take k ps ++ y ∷ []) same
