-- Tables of where blocks stand: one more is put there, one goes, and all are moved.
use Rattle.std.proofs.Common.{◌≡◌, ◌≢◌, ℕ, zero, suc, ◌+◌, ◌*◌, ◌≤◌, ◌<◌, ◌==◌, nat_eq, true, false, if◌then◌else◌, List, [], ◌∷◌, map, length, get_or, set, None, Some, inl, inr, refl, sym, ap, ◌∙◌, arith}
use Rattle.std.specs.Prelude.{option_map, nat_lt}
use Rattle.std.specs.Map.{update}
use Rattle.std.proofs.lemmas.Bool.{cases_Bool, cases_lt, lt-ltb, le-ltb, ltb-true, ltb-false, eqb-true, eqb-false}
use Rattle.sq_lookup.specs.declared.parts.Pieces.{Pieces}
use Rattle.sq_lookup.specs.Exchanging.{AreInOrder, exchanged_word}
use Rattle.sq_lookup.specs.Lowering.{nowhere, lowered_word, raised_word}
use Rattle.sq_chain.specs.Places.{address_behind, placed_at}
use Rattle.sq_chain.specs.Shifts.{exchanged_to, lowered_to, raised_to}
use Rattle.sq_chain.specs.declared.seams.Seams.{Seams}

-- an address is that behind so many words
pub behind_is : (words at : ℕ) → address_behind words ≡ Some at → 4 * words ≡ at
behind_is words at is =
    elim (cases_Bool (nat_lt words nowhere)) [
      | inl there ↦ let some : Some (4 * words) ≡ Some at = rw there at is in cc
      | inr none ↦ absurd (cc (rw none at is))
    ]

pub behind_there : (words : ℕ) → words < nowhere → address_behind words ≡ Some (4 * words)
behind_there words less = let is = lt-ltb words nowhere less in rw is refl

-- ONE PLACE

read_here : (t : List ℕ) (name w : ℕ) → name < length t → get_or (set t name w) name nowhere ≡ w
read_here [] name w within = absurd (omega (arith, within))
read_here (x ∷ t) zero w within = refl
read_here (x ∷ t) (suc name) w within = read_here t name w (omega (arith, within))

read_apart : (t : List ℕ) (name n w : ℕ) → name ≢ n → get_or (set t name w) n nowhere ≡ get_or t n nowhere
read_apart [] name n w apart = refl
read_apart (x ∷ t) zero zero w apart = absurd (apart refl)
read_apart (x ∷ t) zero (suc n) w apart = refl
read_apart (x ∷ t) (suc name) zero w apart = refl
read_apart (x ∷ t) (suc name) (suc n) w apart = read_apart t name n w (λ same. apart (ap suc same))

pub put_at : (t : List ℕ) (name words n : ℕ) → name < length t → words < nowhere → placed_at (set t name words) n ≡ update nat_eq (placed_at t) name (Some (4 * words)) n
put_at t name words n within there =
    elim (cases_Bool (nat_eq name n)) [
      | inl here ↦
          let same = eqb-true name n here in
          rw here (ap (λ k. address_behind (get_or (set t name words) k nowhere)) (sym same) ∙ ap address_behind (read_here t name words within) ∙ behind_there words there)
      | inr apart ↦ rw apart (ap address_behind (read_apart t name n words (eqb-false name n apart)))
    ]

read_past : (t : List ℕ) (name : ℕ) → length t ≤ name → get_or t name nowhere ≡ nowhere
read_past [] name far = refl
read_past (x ∷ t) zero far = absurd (omega (arith, far))
read_past (x ∷ t) (suc name) far = read_past t name (omega (arith, far))

pub placed_within : (t : List ℕ) (name at : ℕ) → placed_at t name ≡ Some at → name < length t
placed_within t name at is =
    elim (cases_Bool (nat_lt name (length t))) [
      | inl within ↦ ltb-true name (length t) within
      | inr past ↦ absurd (cc (ap address_behind (read_past t name (ltb-false name (length t) past)), is))
    ]

gone_here : (t : List ℕ) (name : ℕ) → get_or (set t name nowhere) name nowhere ≡ nowhere
gone_here [] name = refl
gone_here (x ∷ t) zero = refl
gone_here (x ∷ t) (suc name) = gone_here t name

pub forgotten : (t : List ℕ) (name n : ℕ) → placed_at (set t name nowhere) n ≡ (if name == n then None else placed_at t n)
forgotten t name n =
    elim (cases_Bool (name == n)) [
      | inl here ↦ rw here (ap (λ k. address_behind (get_or (set t name nowhere) k nowhere)) (sym (eqb-true name n here)) ∙ ap address_behind (gone_here t name))
      | inr apart ↦ rw apart (ap address_behind (read_apart t name n nowhere (eqb-false name n apart)))
    ]

-- ALL PLACES

mapped_read : (f : ℕ → ℕ) (t : List ℕ) (n : ℕ) → f nowhere ≡ nowhere → get_or (map f t) n nowhere ≡ f (get_or t n nowhere)
mapped_read f [] n stays = sym stays
mapped_read f (x ∷ t) zero stays = refl
mapped_read f (x ∷ t) (suc n) stays = mapped_read f t n stays

-- a shift of words is one of addresses
module _ (f to : ℕ → ℕ) (stays : (w : ℕ) → nowhere ≤ w → f w ≡ w) (scaled : (w : ℕ) → w < nowhere → (f w < nowhere) × (4 * f w ≡ to (4 * w))) where
  by_words : (w : ℕ) → address_behind (f w) ≡ option_map to (address_behind w)
  by_words w =
      elim (cases_Bool (nat_lt w nowhere)) [
        | inl there ↦
            let both = scaled w (ltb-true w nowhere there) in
            rw there (behind_there (f w) both.0 ∙ ap Some both.1)
        | inr none ↦ rw none (ap address_behind (stays w (ltb-false w nowhere none)) ∙ rw none refl)
      ]

  pub mapped_at : (t : List ℕ) (n : ℕ) → placed_at (map f t) n ≡ option_map to (placed_at t n)
  mapped_at t n = ap address_behind (mapped_read f t n (stays nowhere (omega arith))) ∙ by_words (get_or t n nowhere)

-- A FALL

pub lowered_at : (start : ℕ) (t : List ℕ) (n : ℕ) → placed_at (map (lowered_word start) t) n ≡ option_map (lowered_to (4 * start)) (placed_at t n)
lowered_at start t n = mapped_at (lowered_word start) (lowered_to (4 * start)) stays scaled t n
  where
    stays : (w : ℕ) → nowhere ≤ w → lowered_word start w ≡ w
    stays w far = let none = le-ltb w nowhere far in rw none refl

    scaled : (w : ℕ) → w < nowhere → (lowered_word start w < nowhere) × (4 * lowered_word start w ≡ lowered_to (4 * start) (4 * w))
    scaled w there =
        let here = lt-ltb w nowhere there in
        elim (cases_Bool (nat_lt start w)) [
          | inl less ↦
              let before = ltb-true start w less in
              let before' : nat_lt (4 * start) (4 * w) ≡ true = lt-ltb (4 * start) (4 * w) (omega (arith, before)) in
              rw (here, less, before') (omega (arith, there), omega (arith, before))
          | inr after ↦
              let after' : nat_lt (4 * start) (4 * w) ≡ false = le-ltb (4 * start) (4 * w) (let more = ltb-false start w after in omega (arith, more)) in
              rw (here, after, after') (there, refl)
        ]

-- A WORD MORE

pub raised_at : (start : ℕ) (t : List ℕ) (n : ℕ) → ((at : ℕ) → placed_at t n ≡ Some at → at + 4 < 4 * nowhere) → placed_at (map (raised_word start) t) n ≡ option_map (raised_to (4 * start)) (placed_at t n)
raised_at start t n few = ap address_behind (mapped_read (raised_word start) t n (stays nowhere (omega arith))) ∙ by_words (get_or t n nowhere) few
  where
    stays : (w : ℕ) → nowhere ≤ w → raised_word start w ≡ w
    stays w far = let none = le-ltb w nowhere far in rw none refl

    by_words : (w : ℕ) → ((at : ℕ) → address_behind w ≡ Some at → at + 4 < 4 * nowhere) → address_behind (raised_word start w) ≡ option_map (raised_to (4 * start)) (address_behind w)
    by_words w few =
        elim (cases_lt w nowhere) [
          | inl there ↦
              let here = lt-ltb w nowhere there in
              let small = few (4 * w) (behind_there w there) in
              elim (cases_lt start w) [
                | inl before ↦
                    let less = lt-ltb start w before in
                    let less' : nat_lt (4 * start) (4 * w) ≡ true = lt-ltb (4 * start) (4 * w) (omega (arith, before)) in
                    let more : nat_lt (w + 1) nowhere ≡ true = lt-ltb (w + 1) nowhere (omega (arith, small)) in
                    rw (here, less, less', more) (ap Some (omega arith))
                | inr after ↦
                    let not : nat_lt start w ≡ false = le-ltb start w after in
                    let not' : nat_lt (4 * start) (4 * w) ≡ false = le-ltb (4 * start) (4 * w) (omega (arith, after)) in
                    rw (here, not, not', here) refl
              ]
          | inr none ↦ let far = le-ltb w nowhere none in ap address_behind (stays w none) ∙ rw far refl
        ]

-- AN EXCHANGE

stays_behind : (pieces : Pieces) (words : ℕ) → AreInOrder pieces → pieces.end ≤ words → exchanged_word pieces words ≡ words
stays_behind pieces words order behind =
    let first : nat_lt words pieces.first ≡ false = le-ltb words pieces.first (omega (arith, behind, order.first, order.second)) in
    let second : nat_lt words pieces.second ≡ false = le-ltb words pieces.second (omega (arith, behind, order.second)) in
    let end : nat_lt words pieces.end ≡ false = le-ltb words pieces.end (omega (arith, behind)) in
    rw (first, second, end) refl

module _ (pieces : Pieces) (seams : Seams) (order : AreInOrder pieces) (few : pieces.end ≤ nowhere) (first : 4 * pieces.first ≡ seams.first) (second : 4 * pieces.second ≡ seams.second) (end : 4 * pieces.end ≡ seams.end) where
  scaled : (w : ℕ) → w < nowhere → (exchanged_word pieces w < nowhere) × (4 * exchanged_word pieces w ≡ exchanged_to seams (4 * w))
  scaled w there =
      elim (cases_lt w pieces.first) [
        | inl ahead ↦
            let is = lt-ltb w pieces.first ahead in
            let is' : nat_lt (4 * w) seams.first ≡ true = lt-ltb (4 * w) seams.first (omega (arith, ahead, first)) in
            rw (is, is') (there, refl)
        | inr past ↦
            let not : nat_lt w pieces.first ≡ false = le-ltb w pieces.first past in
            let not' : nat_lt (4 * w) seams.first ≡ false = le-ltb (4 * w) seams.first (omega (arith, past, first)) in
            rw (not, not') (elim (cases_lt w pieces.second) [
              | inl within ↦
                  let is = lt-ltb w pieces.second within in
                  let is' : nat_lt (4 * w) seams.second ≡ true = lt-ltb (4 * w) seams.second (omega (arith, within, second)) in
                  rw (is, is') (omega (arith, within, order.second, few), omega (arith, order.second, second, end))
              | inr after ↦
                  let later : nat_lt w pieces.second ≡ false = le-ltb w pieces.second after in
                  let later' : nat_lt (4 * w) seams.second ≡ false = le-ltb (4 * w) seams.second (omega (arith, after, second)) in
                  rw (later, later') (elim (cases_lt w pieces.end) [
                    | inl inside ↦
                        let is = lt-ltb w pieces.end inside in
                        let is' : nat_lt (4 * w) seams.end ≡ true = lt-ltb (4 * w) seams.end (omega (arith, inside, end)) in
                        rw (is, is') (omega (arith, there), omega (arith, order.first, after, first, second))
                    | inr behind ↦
                        let is : nat_lt w pieces.end ≡ false = le-ltb w pieces.end behind in
                        let is' : nat_lt (4 * w) seams.end ≡ false = le-ltb (4 * w) seams.end (omega (arith, behind, end)) in
                        rw (is, is') (there, refl)
                  ])
            ])
      ]

  pub exchanged_at : (t : List ℕ) (n : ℕ) → placed_at (map (exchanged_word pieces) t) n ≡ option_map (exchanged_to seams) (placed_at t n)
  exchanged_at t n = mapped_at (exchanged_word pieces) (exchanged_to seams) (λ w far. stays_behind pieces w order (omega (arith, few, far))) scaled t n
