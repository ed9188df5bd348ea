-- A text is read as a number exactly where it is the number's decimal.
use Rattle.std.proofs.Common.{◌≡◌, ◌↔◌, ℕ, ◌^◌, ◌<◌, Bool, true, false, ◌&&◌, nat_lt, List, Option, Some, None, Result, Ok, if◌then◌else◌, refl, sym, ap, ◌∙◌, arith}
use Rattle.std.proofs.lemmas.Bool.Decides.{nat_tests}
use Rattle.std.proofs.lemmas.Slice.Eq.{bytes_eq-Decides}
use Rattle.std.proofs.lemmas.Fmt.{decimal_is_IsNumeral, parse-decimal}
use Rattle.std.specs.Fmt.{decimal}
use Rattle.std.specs.Result.{result_ok}
use Rattle.std.specs.Str.{bytes_eq}
use Rattle.std.specs.Str.Parse.{digits_value, ParsesUnsigned}
use Rattle.sq_command.specs.Numbers.{number_of}

below : (value n : ℕ) → value ≡ n → n < 2 ^ 32 → nat_lt value (2 ^ 32) ≡ true
below value n e small = grind (arith, nat_tests)

below_back : (value : ℕ) → nat_lt value (2 ^ 32) ≡ true → value < 2 ^ 32
below_back value t = grind (arith, nat_tests)

pub number_is : (text : List ℕ) (n : ℕ) → n < 2 ^ 32 → text ≡ decimal n → number_of text ≡ Some n
unfolding number_of
number_is text n small e =
    let value : digits_value 10 text ≡ n = ap (digits_value 10) e ∙ (decimal_is_IsNumeral n (omega arith)).1 in
    let first : nat_lt (digits_value 10 text) (2 ^ 32) ≡ true = below (digits_value 10 text) n value small in
    let second : bytes_eq (decimal (digits_value 10 text)) text ≡ true = (bytes_eq-Decides (decimal (digits_value 10 text)) text).1 (ap decimal value ∙ sym e) in
    rw (first, second) (ap Some value)

by_tests : (value : ℕ) (text : List ℕ) (small same : Bool) → nat_lt value (2 ^ 32) ≡ small → bytes_eq (decimal value) text ≡ same → (n : ℕ) → (if small && same then Some value else None) ≡ Some n → (text ≡ decimal n) × (n < 2 ^ 32)
by_tests value text true true first second n e =
    let is : value ≡ n = cc e in
    (sym ((bytes_eq-Decides (decimal value) text).0 second) ∙ ap decimal is, omega (arith, below_back value first, is))
by_tests value text true false first second n e = absurd (cc e)
by_tests value text false same first second n e = absurd (cc e)

pub number_back : (text : List ℕ) (n : ℕ) → number_of text ≡ Some n → (text ≡ decimal n) × (n < 2 ^ 32)
unfolding number_of
number_back text n e =
    by_tests (digits_value 10 text) text (nat_lt (digits_value 10 text) (2 ^ 32)) (bytes_eq (decimal (digits_value 10 text)) text) refl refl n e

no_number : (text : List ℕ) → ((n : ℕ) → n < 2 ^ 32 → text ≡ decimal n → ⊥) → (found : Option ℕ) → number_of text ≡ found → number_of text ≡ None
no_number text none None e = e
no_number text none (Some n) e = absurd (none n (number_back text n e).1 (number_back text n e).0)

-- what is not read is no number
pub unread : {E : Type 0} (text : List ℕ) (r : Result ℕ E) → ParsesUnsigned 32 10 text r → result_ok r ≡ None → number_of text ≡ None
unread {E} text r parses none =
    no_number text (λ n small e. let is : r ≡ Ok n = parse-decimal 32 n text r small (omega arith) e parses in absurd (cc (ap result_ok is, none))) (number_of text) refl

-- nor is what is printed otherwise
pub unprinted : {E : Type 0} (text : List ℕ) (r : Result ℕ E) (n : ℕ) → ParsesUnsigned 32 10 text r → result_ok r ≡ Some n → (decimal n ≡ text → ⊥) → number_of text ≡ None
unprinted {E} text r n parses read other =
    no_number text (λ m small e. let is : r ≡ Ok m = parse-decimal 32 m text r small (omega arith) e parses in let same : n ≡ m = cc (ap result_ok is, read) in other (ap decimal same ∙ sym e)) (number_of text) refl

-- what it means that a text is read so
pub meaning : (text : List ℕ) (found : Option ℕ) → found ≡ number_of text → (n : ℕ) → n < 2 ^ 32 → (found ≡ Some n) ↔ (text ≡ decimal n)
meaning text found value n small = (λ e. (number_back text n (sym value ∙ e)).0, λ e. value ∙ number_is text n small e)
