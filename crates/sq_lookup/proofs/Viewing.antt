-- How many words are before blocks, as a list by their names.
use Rattle.std.proofs.Common.{◌≡◌, ◌∙◌, ℕ, ◌<◌, ◌≤◌, Bool, true, List, length, map, set, get_or, Option, inl, inr, sym, ap, arith}
use Rattle.std.proofs.lemmas.Bool.{cases_lt, cases_eq}
use Rattle.std.proofs.lemmas.List.{length-map, length-set, ext_get_or, get_or-map, get_or-set_same, get_or-set_other, get_or_past}
use Rattle.sq_lookup.specs.declared.text.Text.{Text}
use Rattle.sq_lookup.specs.Lowering.{nowhere}
use Rattle.sq_lookup.specs.Marks.{is_wanted}
use Rattle.sq_lookup.specs.Nearby.{IsElsewhere}
use Rattle.sq_lookup.specs.Standing.{word_in, word_at, no_place, IsChanged, IsPut}

abbrev pub words_of : Text → List ℕ
words_of text = map (word_in text.parts.items) text.places.items

pub word_read : (text : Text) (n : ℕ) → n < length text.places.items → get_or (words_of text) n nowhere ≡ word_at text n
word_read text n within = get_or-map (word_in text.parts.items) text.places.items n no_place nowhere within

pub words_count : (text : Text) → length (words_of text) ≡ length text.places.items
words_count text = length-map text.places.items (word_in text.parts.items)

pub words_changed : (f : ℕ → ℕ) (old new : Text) → IsChanged f old new → words_of new ≡ map f (words_of old)
words_changed f old new is =
    let counted : length (words_of new) ≡ length (words_of old) = words_count new ∙ is.count ∙ sym (words_count old) in
    ext_get_or nowhere (words_of new) (map f (words_of old)) (counted ∙ sym (length-map (words_of old) f)) (λ n within.
    let inside : n < length old.places.items = omega (arith, within, words_count new, is.count) in
    word_read new n (omega (arith, within, words_count new))
    ∙ is.words n inside
    ∙ ap f (sym (word_read old n inside))
    ∙ sym (get_or-map f (words_of old) n nowhere nowhere (omega (arith, inside, words_count old))))

pub words_put : (name words : ℕ) (old new : Text) → name < length old.places.items → IsPut name words old new → words_of new ≡ set (words_of old) name words
words_put name words old new there is =
    let counted : length (words_of new) ≡ length (words_of old) = words_count new ∙ is.count ∙ sym (words_count old) in
    ext_get_or nowhere (words_of new) (set (words_of old) name words) (counted ∙ sym (length-set (words_of old) name words)) (λ n within.
    let inside : n < length old.places.items = omega (arith, within, words_count new, is.count) in
    let here : get_or (words_of new) n nowhere ≡ word_at new n = word_read new n (omega (arith, within, words_count new)) in
    elim (cases_eq n name) [
      | inl at ↦
          here ∙ ap (word_at new) at ∙ is.put
          ∙ sym (ap (λ k. get_or (set (words_of old) name words) k nowhere) at ∙ get_or-set_same (words_of old) name words nowhere (omega (arith, there, words_count old)))
      | inr other ↦
          here ∙ is.other n inside other ∙ sym (word_read old n inside)
          ∙ sym (get_or-set_other (words_of old) name n words nowhere other)
    ])

pub words_none : (text : Text) → ((n : ℕ) → n < length text.places.items → word_at text n ≡ nowhere) → (n : ℕ) → get_or (words_of text) n nowhere ≡ nowhere
words_none text none n =
    elim (cases_lt n (length text.places.items)) [
      | inl within ↦ word_read text n within ∙ none n within
      | inr past ↦ get_or_past (words_of text) n nowhere (omega (arith, past, words_count text))
    ]

-- where no wanted block is found between two places of the text, none stands there
pub none_between : (text : Text) (marks : Option (List Bool)) (first last : ℕ) → last < nowhere → ((n : ℕ) → IsElsewhere text marks first last n) → (n : ℕ) → is_wanted marks n ≡ true → first ≤ get_or (words_of text) n nowhere → last < get_or (words_of text) n nowhere
none_between text marks first last below none n wanted from =
    elim (cases_lt n (length text.places.items)) [
      | inl within ↦
          let read = word_read text n within in
          omega (arith, read, none n within wanted (omega (arith, read, from)))
      | inr past ↦ omega (arith, below, get_or_past (words_of text) n nowhere (omega (arith, past, words_count text)))
    ]
