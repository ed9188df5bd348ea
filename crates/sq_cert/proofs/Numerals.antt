-- Numbers in the words of a line.
use Rattle.std.proofs.Common.{◌≡◌, ℕ, ◌+◌, ◌<◌, ◌^◌, ◌%◌, true, List, [], ◌∷◌, ◌++◌, map, Option, Some, None, refl, sym, ap, ◌∙◌, subst, append_assoc, arith}
use Rattle.std.proofs.lemmas.Fmt.{decimal_by_steps, IsAscii-decimal}
use Rattle.std.proofs.lemmas.List.{append-nil}
use Rattle.std.proofs.lemmas.Str.{IsUtf8-from_ascii}
use Rattle.std.specs.Fmt.{decimal}
use Rattle.std.specs.List.{AllByRecursion}
use Rattle.std.specs.Option.{option_and_then}
use Rattle.std.specs.Str.{IsUtf8}
use Rattle.sq_command.specs.Numbers.{number_of}
use Rattle.sq_command.proofs.NumberTexts.{number_is, number_back}
use Rattle.sq_cert.specs.Pieces.{space}
use Rattle.sq_cert.specs.Readings.{numbers_behind}
use Rattle.sq_cert.specs.Texts.{numbers_text}
use Rattle.sq_cert.proofs.Splitting.{lacks, lacks_append, lacks_one, behind, AllLack}

abbrev pub AreSmall : List ℕ → Type 0
AreSmall numbers = AllByRecursion (λ n. n < 2 ^ 32) numbers

-- a decimal has digits alone
pub decimal_lacks : (mark n : ℕ) → mark < 48 → n < 2 ^ 64 → lacks mark (decimal n) ≡ true
decimal_lacks mark n low small =
    decimal_by_steps (λ n ds. lacks mark ds ≡ true)
    (λ n digit. lacks_one mark (48 + n) (omega arith))
    (λ n ds big free. lacks_append mark ds ((48 + n % 10) ∷ []) free (lacks_one mark (48 + n % 10) (omega arith)))
    n small

pub decimals_lack : (mark : ℕ) (numbers : List ℕ) → mark < 48 → AreSmall numbers → AllLack mark (map decimal numbers)
decimals_lack mark [] low small = tt
decimals_lack mark (n ∷ numbers) low small = (decimal_lacks mark n low (omega (arith, small.0)), decimals_lack mark numbers low small.1)

-- a text of numbers is that of their decimals
pub numbers_joined : (numbers : List ℕ) → numbers_text numbers ≡ behind space (map decimal numbers)
numbers_joined [] = refl
numbers_joined (n ∷ numbers) = ap (λ rest. (space ∷ decimal n) ++ rest) (numbers_joined numbers)

pub text_lacks : (numbers : List ℕ) → AreSmall numbers → lacks 10 (numbers_text numbers) ≡ true
text_lacks [] small = refl
text_lacks (n ∷ numbers) small =
    lacks_append 10 (space ∷ decimal n) (numbers_text numbers) (decimal_lacks 10 n (omega arith) (omega (arith, small.0))) (text_lacks numbers small.1)

-- decimals are read as their numbers
pub numbers_found : (before numbers : List ℕ) → AreSmall numbers → numbers_behind before (map decimal numbers) ≡ Some (before ++ numbers)
unfolding numbers_behind
numbers_found before [] small = ap Some (sym (append-nil before))
numbers_found before (n ∷ numbers) small =
    ap (option_and_then (λ n. numbers_behind (before ++ n ∷ []) (map decimal numbers))) (number_is (decimal n) n small.0 refl)
    ∙ numbers_found (before ++ n ∷ []) numbers small.1
    ∙ ap Some (append_assoc before (n ∷ []) numbers)

-- and only decimals are
pub record AreDecimals (before : List ℕ) (words : List (List ℕ)) (all : List ℕ) : Type 0 where
  pub numbers : List ℕ
  pub all_are : all ≡ before ++ numbers
  pub words_are : words ≡ map decimal numbers
  pub small : AreSmall numbers

pub numbers_read : (before : List ℕ) (words : List (List ℕ)) (all : List ℕ) → numbers_behind before words ≡ Some all → AreDecimals before words all
unfolding numbers_behind
numbers_read before [] all read = record { numbers = []; all_are = sym (append-nil before ∙ cc read); words_are = refl; small = tt }
numbers_read before (word ∷ words) all read = by_word (λ n more. numbers_read (before ++ n ∷ []) words all more) (number_of word) refl read
  where
    by_word : ((n : ℕ) → numbers_behind (before ++ n ∷ []) words ≡ Some all → AreDecimals (before ++ n ∷ []) words all) → (found : Option ℕ) → number_of word ≡ found → option_and_then (λ n. numbers_behind (before ++ n ∷ []) words) found ≡ Some all → AreDecimals before (word ∷ words) all
    by_word next None is none = absurd (cc none)
    by_word next (Some n) is more =
        let later = next n more in
        let back = number_back word n is in
        record {
          numbers = n ∷ later.numbers;
          all_are = later.all_are ∙ append_assoc before (n ∷ []) later.numbers;
          words_are = ap (λ w. w ∷ words) back.0 ∙ ap (λ ws. decimal n ∷ ws) later.words_are;
          small = (back.1, later.small);
        }

-- what isn't text is no number
pub no_number : (text : List ℕ) → ¬ IsUtf8 text → None ≡ number_of text
no_number text other = by_number (number_of text) refl
  where
    by_number : (found : Option ℕ) → number_of text ≡ found → None ≡ found
    by_number None is = refl
    by_number (Some n) is =
        let back = number_back text n is in
        let utf8 : IsUtf8 (decimal n) = IsUtf8-from_ascii (decimal n) (IsAscii-decimal n (omega (arith, back.1))) in
        absurd (other (subst IsUtf8 (sym back.0) utf8))

-- word by word
pub numbers_next : (before : List ℕ) (word : List ℕ) (words : List (List ℕ)) (n : ℕ) → number_of word ≡ Some n → numbers_behind before (word ∷ words) ≡ numbers_behind (before ++ n ∷ []) words
unfolding numbers_behind
numbers_next before word words n is = ap (option_and_then (λ n. numbers_behind (before ++ n ∷ []) words)) is

pub numbers_stop : (before : List ℕ) (word : List ℕ) (words : List (List ℕ)) → number_of word ≡ None → numbers_behind before (word ∷ words) ≡ None
unfolding numbers_behind
numbers_stop before word words is = ap (option_and_then (λ n. numbers_behind (before ++ n ∷ []) words)) is

pub numbers_end : (before : List ℕ) → numbers_behind before [] ≡ Some before
unfolding numbers_behind
numbers_end before = refl
