-- What the functions of a file are.
use Rattle.std.proofs.Common.{◌≡◌, ℕ, zero, suc, ◌/◌, ◌+◌, Bool, true, false, not, if◌then◌else◌, List, [], ◌∷◌, ◌++◌, take, drop, Option, Some, None, refl, subst, arith}
use Rattle.std.proofs.lemmas.Bool.Decides.{nat_tests}
use Rattle.std.specs.List.{AllByRecursion, list_any, position_or_len}
use Rattle.sq_elf.specs.declared.section.Section.{Section}
use Rattle.sq_elf.specs.declared.text.Text.{Text}
use Rattle.sq_elf.specs.Text.{text_of, is_text_word}
use Rattle.sq_names.specs.declared.symbol.Symbol.{Symbol}
use Rattle.sq_names.specs.Symbols.{is_zero, ended, symbol_at, string_at, symbol_table_of, is_readable}
use Rattle.sq_names.specs.Functions.{NamedFunction, is_function, named, function_of, strings_of, function_at, followed, functions_before, functions_in, functions_of, IsNamedIn}

-- no byte before the first zero is one
clean_before : (xs : List ℕ) → list_any is_zero (take (position_or_len is_zero xs) xs) ≡ false
clean_before [] = refl
clean_before (x ∷ xs) = by_test (clean_before xs) (is_zero x) refl
  where
    by_test : list_any is_zero (take (position_or_len is_zero xs) xs) ≡ false → (b : Bool) → is_zero x ≡ b
        → list_any is_zero (take (if not b then 1 + position_or_len is_zero xs else 0) (x ∷ xs)) ≡ false
    by_test rest true zero_here = refl
    by_test rest false goes_on = grind (arith, nat_tests)

clean_string : (bytes name : List ℕ) → ended bytes ≡ Some name → list_any is_zero name ≡ false
clean_string bytes name is = let rest : list_any is_zero (take (position_or_len is_zero bytes) bytes) ≡ false = clean_before bytes in grind arith

named_is : (text : Text) (value : ℕ) (name : Option (List ℕ)) (f : NamedFunction)
    → ((bytes : List ℕ) → name ≡ Some bytes → list_any is_zero bytes ≡ false) → is_text_word text value ≡ true
    → named value name ≡ Some f → IsNamedIn text f
named_is text value None f clean word is = absurd (cc is)
named_is text value (Some []) f clean word is = absurd (cc is)
named_is text value (Some (first ∷ others)) f clean word is =
    let same : record { value = value; name = first ∷ others } ≡ f = cc is in
    subst (λ g. IsNamedIn text g) same (record { word = word; some = λ none. absurd (cc none); ended = clean (first ∷ others) refl })

function_is : (text : Text) (strings : List ℕ) (symbol : Symbol) (f : NamedFunction) → function_of text strings symbol ≡ Some f → IsNamedIn text f
function_is text strings symbol f is = by_test (is_function text symbol) refl is
  where
    by_test : (b : Bool) → is_function text symbol ≡ b → (if b then named symbol.value (string_at strings symbol.name) else None) ≡ Some f → IsNamedIn text f
    by_test true fits here =
        named_is text symbol.value (string_at strings symbol.name) f (clean_string (drop symbol.name strings)) (grind arith) here
    by_test false not_so here = absurd (cc here)

one_more : (P : NamedFunction → Type 0) (fs : List NamedFunction) (f : NamedFunction) → AllByRecursion P fs → P f → AllByRecursion P (fs ++ f ∷ [])
one_more P [] f all here = (here, tt)
one_more P (g ∷ fs) f all here = (all.0, one_more P fs f all.1 here)

all_followed : (P : NamedFunction → Type 0) (fs : List NamedFunction) (next : Option NamedFunction)
    → ((f : NamedFunction) → next ≡ Some f → P f) → AllByRecursion P fs → AllByRecursion P (followed fs next)
all_followed P fs None here all = all
all_followed P fs (Some f) here all = one_more P fs f all (here f refl)

all_before : (bytes : List ℕ) (table : Section) (count : ℕ) → AllByRecursion (IsNamedIn (text_of bytes)) (functions_before bytes table count)
unfolding functions_before
all_before bytes table zero = tt
all_before bytes table (suc count) =
    all_followed (IsNamedIn (text_of bytes)) (functions_before bytes table count) (function_at bytes table count)
    (λ f is. function_is (text_of bytes) (strings_of bytes table) (symbol_at bytes table count) f is) (all_before bytes table count)

all_if : (bytes : List ℕ) (table : Section) (b : Bool)
    → AllByRecursion (IsNamedIn (text_of bytes)) (if b then functions_before bytes table (table.size / 16) else [])
all_if bytes table true = all_before bytes table (table.size / 16)
all_if bytes table false = tt

all_in : (bytes : List ℕ) (table : Option Section) → AllByRecursion (IsNamedIn (text_of bytes)) (functions_in bytes table)
all_in bytes None = tt
all_in bytes (Some table) = all_if bytes table (is_readable bytes table)

-- each function of a file is at a word of text, and has a name
pub all_named : (bytes : List ℕ) → AllByRecursion (IsNamedIn (text_of bytes)) (functions_of bytes)
all_named bytes = all_in bytes (symbol_table_of bytes)
