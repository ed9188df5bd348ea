-- The numbers of notes and of blocks.
use Rattle.std.proofs.Common.{◌≡◌, ℕ, suc, ◌+◌, ◌<◌, ◌≤◌, Bool, true, false, ◌==◌, nat_eq, ◌&&◌, ◌*◌, List, [], ◌∷◌, ◌++◌, length, drop, get_or, Option, Some, None, refl, sym, ap, ◌∙◌, arith, append_assoc, if◌then◌else◌}
use Rattle.std.specs.List.{AllByRecursion, IsDistinct}
use Rattle.std.specs.Option.{option_map}
use Rattle.std.proofs.lemmas.Bool.{ne_eqb}
use Rattle.std.proofs.lemmas.List.{length-append}
use Rattle.std.proofs.Math.Seq.{drop-cons}
use Rattle.law_program.specs.Programs.{Word, Note}
use Rattle.law_program.specs.Notes.{used_notes}
use Rattle.law_program.specs.Lifted.{procedure_at}
use Rattle.sq_graph.specs.Slotted.{position_in}
use Rattle.sq_graph.proofs.Slotting.{AreNumbered, numbered_from}
use Rattle.sq_lift.specs.Cuts.{note_number_in, starts}

-- NOTES

pub note_number_is : (ns : List Note) (k x : ℕ) → note_number_in ns k x ≡ option_map (λ i. k + i) (procedure_at ns x)
note_number_is [] k x = refl
note_number_is (n ∷ ns) k x = by (n.address == x) (note_number_is ns (k + 1) x)
  where
    further : (o : Option ℕ) → option_map (λ i. k + 1 + i) o ≡ option_map (λ i. k + i) (option_map suc o)
    further None = refl
    further (Some i) = ap Some (omega arith)

    by : (b : Bool) → note_number_in ns (k + 1) x ≡ option_map (λ i. k + 1 + i) (procedure_at ns x) → (if b then Some k else note_number_in ns (k + 1) x) ≡ option_map (λ i. k + i) (if b then Some 0 else option_map suc (procedure_at ns x))
    by true rest = ap Some (omega arith)
    by false rest = rest ∙ further (procedure_at ns x)

pub note_numbers : (ns : List Note) (x : ℕ) → note_number_in ns 0 x ≡ procedure_at ns x
note_numbers ns x = note_number_is ns 0 x ∙ same (procedure_at ns x)
  where
    same : (o : Option ℕ) → option_map (λ i. 0 + i) o ≡ o
    same None = refl
    same (Some i) = ap Some (omega arith)

-- one more of the used notes
pub used_next : (is : ℕ → Bool) (ns used : List Note) (i : ℕ) (n : Note) → i < length ns → n ≡ get_or ns i n → is n.address ≡ true → used ++ used_notes is (drop i ns) ≡ (used ++ n ∷ []) ++ used_notes is (drop (i + 1) ns)
used_next is ns used i n h at true_at =
    let e : suc i ≡ i + 1 = omega arith in
    let parted : drop i ns ≡ n ∷ drop (i + 1) ns = drop-cons ns i n h ∙ (λ j. sym at j ∷ drop (e j) ns) in
    ap (λ ms. used ++ used_notes is ms) parted ∙ rw true_at (sym (append_assoc used (n ∷ []) (used_notes is (drop (i + 1) ns))))

pub used_not : (is : ℕ → Bool) (ns used : List Note) (i : ℕ) (n : Note) → i < length ns → n ≡ get_or ns i n → is n.address ≡ false → used ++ used_notes is (drop i ns) ≡ used ++ used_notes is (drop (i + 1) ns)
used_not is ns used i n h at false_at =
    let e : suc i ≡ i + 1 = omega arith in
    let parted : drop i ns ≡ n ∷ drop (i + 1) ns = drop-cons ns i n h ∙ (λ j. sym at j ∷ drop (e j) ns) in
    ap (λ ms. used ++ used_notes is ms) parted ∙ rw false_at refl

-- BLOCKS

abbrev pub Ascend : List ℕ → Type 0
Ascend [] = Unit {0}
Ascend (n ∷ names) = AllByRecursion (λ m. n < m) names × Ascend names

-- names that ascend are distinct
ascending_distinct : (names : List ℕ) → Ascend names → IsDistinct nat_eq names
unfolding IsDistinct
ascending_distinct [] up = tt
ascending_distinct (n ∷ names) up = (apart names up.0, ascending_distinct names up.1)
  where
    apart : (ms : List ℕ) → AllByRecursion (λ m. n < m) ms → AllByRecursion (λ m. nat_eq n m ≡ false) ms
    apart [] above = tt
    apart (m ∷ ms) above = (let h = above.0 in ne_eqb n m (λ e. omega (arith, e, h)), apart ms above.1)

starts_from : (keeps leads : ℕ → Bool) (at : ℕ) (words : List Word) → AllByRecursion (λ m. at ≤ m) (starts keeps leads at words) × Ascend (starts keeps leads at words)
starts_from keeps leads at [] = (tt, tt)
starts_from keeps leads at (w ∷ words) = by (keeps at) (leads at) (starts_from keeps leads (at + 4) words)
  where
    weaker : (a b : ℕ) (ms : List ℕ) → a ≤ b → AllByRecursion (λ m. b ≤ m) ms → AllByRecursion (λ m. a ≤ m) ms
    weaker a b [] le h = tt
    weaker a b (m ∷ ms) le h = (let g = h.0 in omega (arith, le, g), weaker a b ms le h.1)

    above : (a b : ℕ) (ms : List ℕ) → a < b → AllByRecursion (λ m. b ≤ m) ms → AllByRecursion (λ m. a < m) ms
    above a b [] lt h = tt
    above a b (m ∷ ms) lt h = (let g = h.0 in omega (arith, lt, g), above a b ms lt h.1)

    rest : List ℕ
    rest = starts keeps leads (at + 4) words

    by : (k l : Bool) → AllByRecursion (λ m. at + 4 ≤ m) rest × Ascend rest → AllByRecursion (λ m. at ≤ m) (if k then (if l then at ∷ rest else rest) else rest) × Ascend (if k then (if l then at ∷ rest else rest) else rest)
    by true true h = ((omega arith, weaker at (at + 4) rest (omega arith) h.0), (above at (at + 4) rest (omega arith) h.0, h.1))
    by true false h = (weaker at (at + 4) rest (omega arith) h.0, h.1)
    by false l h = (weaker at (at + 4) rest (omega arith) h.0, h.1)

-- some word, where there is one
word_of : (words : List Word) (i : ℕ) → i < length words → Word
word_of [] i h = absurd (omega (arith, h))
word_of (w ∷ words) i h = w

pub starts_next : (keeps leads : ℕ → Bool) (at : ℕ) (words : List Word) (i : ℕ) (list pushed : List ℕ) (begins : Bool) → i < length words → begins ≡ (keeps (at + 4 * i) && leads (at + 4 * i)) → pushed ≡ list ++ (if begins then (at + 4 * i) ∷ [] else []) → list ++ starts keeps leads (at + 4 * i) (drop i words) ≡ pushed ++ starts keeps leads (at + 4 * (i + 1)) (drop (i + 1) words)
starts_next keeps leads at words i list pushed begins h is push =
    parted words i h
    ∙ ap (λ xs. list ++ xs) (step (at + 4 * i) (keeps (at + 4 * i)) (leads (at + 4 * i)) (starts keeps leads (at + 4 * i + 4) (drop (i + 1) words)))
    ∙ sym (append_assoc list (if keeps (at + 4 * i) && leads (at + 4 * i) then (at + 4 * i) ∷ [] else []) (starts keeps leads (at + 4 * i + 4) (drop (i + 1) words)))
    ∙ ap (λ b. (list ++ (if b then (at + 4 * i) ∷ [] else [])) ++ starts keeps leads (at + 4 * i + 4) (drop (i + 1) words)) (sym is)
    ∙ (λ j. sym push j ++ starts keeps leads (further j) (drop (i + 1) words))
  where
    further : at + 4 * i + 4 ≡ at + 4 * (i + 1)
    further = omega arith

    -- the word at i is there
    parted : (words : List Word) (i : ℕ) → i < length words → list ++ starts keeps leads (at + 4 * i) (drop i words) ≡ list ++ (if keeps (at + 4 * i) then (if leads (at + 4 * i) then (at + 4 * i) ∷ starts keeps leads (at + 4 * i + 4) (drop (i + 1) words) else starts keeps leads (at + 4 * i + 4) (drop (i + 1) words)) else starts keeps leads (at + 4 * i + 4) (drop (i + 1) words))
    parted words i h = let w = word_of words i h in let e : suc i ≡ i + 1 = omega arith in ap (λ ws. list ++ starts keeps leads (at + 4 * i) ws) (drop-cons words i w h ∙ (λ j. get_or words i w ∷ drop (e j) words))

    step : (x : ℕ) (k l : Bool) (rest : List ℕ) → (if k then (if l then x ∷ rest else rest) else rest) ≡ (if k && l then x ∷ [] else []) ++ rest
    step x true true rest = refl
    step x true false rest = refl
    step x false l rest = refl

pub one_start : (x : ℕ) (begins : Bool) (list pushed : List ℕ) (n : ℕ) → pushed ≡ list ++ (if begins then x ∷ [] else []) → length list ≤ n → length pushed ≤ n + 1
one_start x begins list pushed n push few =
    let long = ap length push ∙ length-append list (if begins then x ∷ [] else []) in let one = at_most begins in omega (arith, long, one, few)
  where
    at_most : (b : Bool) → length (if b then x ∷ [] else []) ≤ 1
    at_most true = omega arith
    at_most false = omega arith

pub starts_numbered : (keeps leads : ℕ → Bool) (at : ℕ) (words : List Word) → AreNumbered (position_in (starts keeps leads at words)) 0 (starts keeps leads at words)
starts_numbered keeps leads at words = numbered_from 0 (starts keeps leads at words) (ascending_distinct (starts keeps leads at words) (starts_from keeps leads at words).1)
