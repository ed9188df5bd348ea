-- Words have a form exactly where they are those of a command.
use Rattle.std.proofs.Common.{◌≡◌, ◌≢◌, ◌↔◌, ℕ, ◌^◌, ◌<◌, ◌≤◌, Bool, true, false, nat_le, ◌&&◌, List, [], ◌∷◌, drop, Option, Some, None, if◌then◌else◌, codes, refl, sym, ap, ◌∙◌, arith}
use Rattle.std.proofs.lemmas.Bool.Decides.{nat_tests}
use Rattle.std.proofs.lemmas.Slice.Eq.{bytes_eq-Decides}
use Rattle.std.specs.Fmt.{decimal}
use Rattle.std.specs.List.{slice_get}
use Rattle.std.specs.Option.{option_map}
use Rattle.std.specs.Str.{bytes_eq}
use Rattle.sq_system.specs.Starts.{StartFits}
use Rattle.sq_command.specs.Numbers.{number_of}
use Rattle.sq_command.specs.Commands.{RunRequest, Form, PackForm, RunForm, WatchForm, HexForm, HexcheckForm, SizeForm, TrialForm, CheckForm, ProveForm, NamesForm, FoldForm, most_steps, most_blocks, start_fits, run_of, pair_form, single_form, triple_form, prove_form, trial_of, trial_form, run_request, form_of, AsksRun, IsPack, IsRun, IsWatch, IsHex, IsHexcheck, IsSize, IsTrial, IsCheck, IsProve, IsNames, IsFold}
use Rattle.sq_command.proofs.NumberTexts.{number_is, number_back}
use Rattle.sq_command.proofs.Words.{dropped}

-- the test of a start is what it says
fits_test : (base size : ℕ) → StartFits base size → start_fits base size ≡ true
fits_test base size fits = grind (arith, nat_tests, fits.base_multiple, fits.size_multiple, fits.least, fits.most, fits.end)

fits_back : (base size : ℕ) → start_fits base size ≡ true → StartFits base size
fits_back base size t = record {
  base_multiple = grind (arith, nat_tests);
  size_multiple = grind (arith, nat_tests);
  least = grind (arith, nat_tests);
  most = grind (arith, nat_tests);
  end = grind (arith, nat_tests);
}

few_steps : (limit : ℕ) → limit ≤ most_steps → nat_le limit most_steps ≡ true
few_steps limit few = grind (arith, nat_tests)

few_back : (limit : ℕ) → nat_le limit most_steps ≡ true → limit ≤ most_steps
few_back limit t = grind (arith, nat_tests)

-- by the first word
pub at_pack : (words : List (List ℕ)) (verb : List ℕ) → slice_get words 0 ≡ Some verb → bytes_eq verb (codes "pack") ≡ true → form_of words ≡ pair_form PackForm (drop 1 words)
unfolding form_of
at_pack words verb there is = ap form_of (dropped words 0 verb there) ∙ rw is refl

pub at_run : (words : List (List ℕ)) (verb : List ℕ) → slice_get words 0 ≡ Some verb → bytes_eq verb (codes "pack") ≡ false → bytes_eq verb (codes "run") ≡ true → form_of words ≡ option_map RunForm (run_request (drop 1 words))
unfolding form_of
at_run words verb there one is = ap form_of (dropped words 0 verb there) ∙ rw (one, is) refl

pub at_watch : (words : List (List ℕ)) (verb : List ℕ) → slice_get words 0 ≡ Some verb → bytes_eq verb (codes "pack") ≡ false → bytes_eq verb (codes "run") ≡ false → bytes_eq verb (codes "watch") ≡ true → form_of words ≡ option_map WatchForm (run_request (drop 1 words))
unfolding form_of
at_watch words verb there one two is = ap form_of (dropped words 0 verb there) ∙ rw (one, two, is) refl

pub at_hex : (words : List (List ℕ)) (verb : List ℕ) → slice_get words 0 ≡ Some verb → bytes_eq verb (codes "pack") ≡ false → bytes_eq verb (codes "run") ≡ false → bytes_eq verb (codes "watch") ≡ false → bytes_eq verb (codes "hex") ≡ true → form_of words ≡ pair_form HexForm (drop 1 words)
unfolding form_of
at_hex words verb there one two three is = ap form_of (dropped words 0 verb there) ∙ rw (one, two, three, is) refl

pub at_hexcheck : (words : List (List ℕ)) (verb : List ℕ) → slice_get words 0 ≡ Some verb → bytes_eq verb (codes "pack") ≡ false → bytes_eq verb (codes "run") ≡ false → bytes_eq verb (codes "watch") ≡ false → bytes_eq verb (codes "hex") ≡ false → bytes_eq verb (codes "hexcheck") ≡ true → form_of words ≡ pair_form HexcheckForm (drop 1 words)
unfolding form_of
at_hexcheck words verb there one two three four is = ap form_of (dropped words 0 verb there) ∙ rw (one, two, three, four, is) refl

pub at_size : (words : List (List ℕ)) (verb : List ℕ) → slice_get words 0 ≡ Some verb → bytes_eq verb (codes "pack") ≡ false → bytes_eq verb (codes "run") ≡ false → bytes_eq verb (codes "watch") ≡ false → bytes_eq verb (codes "hex") ≡ false → bytes_eq verb (codes "hexcheck") ≡ false → bytes_eq verb (codes "size") ≡ true → form_of words ≡ single_form SizeForm (drop 1 words)
unfolding form_of
at_size words verb there one two three four five is = ap form_of (dropped words 0 verb there) ∙ rw (one, two, three, four, five, is) refl

pub at_trial : (words : List (List ℕ)) (verb : List ℕ) → slice_get words 0 ≡ Some verb → bytes_eq verb (codes "pack") ≡ false → bytes_eq verb (codes "run") ≡ false → bytes_eq verb (codes "watch") ≡ false → bytes_eq verb (codes "hex") ≡ false → bytes_eq verb (codes "hexcheck") ≡ false → bytes_eq verb (codes "size") ≡ false → bytes_eq verb (codes "trial") ≡ true → form_of words ≡ trial_form (drop 1 words)
unfolding form_of
at_trial words verb there one two three four five six is = ap form_of (dropped words 0 verb there) ∙ rw (one, two, three, four, five, six, is) refl

pub at_check : (words : List (List ℕ)) (verb : List ℕ) → slice_get words 0 ≡ Some verb → bytes_eq verb (codes "pack") ≡ false → bytes_eq verb (codes "run") ≡ false → bytes_eq verb (codes "watch") ≡ false → bytes_eq verb (codes "hex") ≡ false → bytes_eq verb (codes "hexcheck") ≡ false → bytes_eq verb (codes "size") ≡ false → bytes_eq verb (codes "trial") ≡ false → bytes_eq verb (codes "check") ≡ true → form_of words ≡ triple_form CheckForm (drop 1 words)
unfolding form_of
at_check words verb there one two three four five six seven is = ap form_of (dropped words 0 verb there) ∙ rw (one, two, three, four, five, six, seven, is) refl

pub at_prove : (words : List (List ℕ)) (verb : List ℕ) → slice_get words 0 ≡ Some verb → bytes_eq verb (codes "pack") ≡ false → bytes_eq verb (codes "run") ≡ false → bytes_eq verb (codes "watch") ≡ false → bytes_eq verb (codes "hex") ≡ false → bytes_eq verb (codes "hexcheck") ≡ false → bytes_eq verb (codes "size") ≡ false → bytes_eq verb (codes "trial") ≡ false → bytes_eq verb (codes "check") ≡ false → bytes_eq verb (codes "prove") ≡ true → form_of words ≡ prove_form (drop 1 words)
unfolding form_of
at_prove words verb there one two three four five six seven eight is = ap form_of (dropped words 0 verb there) ∙ rw (one, two, three, four, five, six, seven, eight, is) refl

pub at_names : (words : List (List ℕ)) (verb : List ℕ) → slice_get words 0 ≡ Some verb → bytes_eq verb (codes "pack") ≡ false → bytes_eq verb (codes "run") ≡ false → bytes_eq verb (codes "watch") ≡ false → bytes_eq verb (codes "hex") ≡ false → bytes_eq verb (codes "hexcheck") ≡ false → bytes_eq verb (codes "size") ≡ false → bytes_eq verb (codes "trial") ≡ false → bytes_eq verb (codes "check") ≡ false → bytes_eq verb (codes "prove") ≡ false → bytes_eq verb (codes "names") ≡ true → form_of words ≡ pair_form NamesForm (drop 1 words)
unfolding form_of
at_names words verb there one two three four five six seven eight nine is = ap form_of (dropped words 0 verb there) ∙ rw (one, two, three, four, five, six, seven, eight, nine, is) refl

pub at_fold : (words : List (List ℕ)) (verb : List ℕ) → slice_get words 0 ≡ Some verb → bytes_eq verb (codes "pack") ≡ false → bytes_eq verb (codes "run") ≡ false → bytes_eq verb (codes "watch") ≡ false → bytes_eq verb (codes "hex") ≡ false → bytes_eq verb (codes "hexcheck") ≡ false → bytes_eq verb (codes "size") ≡ false → bytes_eq verb (codes "trial") ≡ false → bytes_eq verb (codes "check") ≡ false → bytes_eq verb (codes "prove") ≡ false → bytes_eq verb (codes "names") ≡ false → bytes_eq verb (codes "fold") ≡ true → form_of words ≡ pair_form FoldForm (drop 1 words)
unfolding form_of
at_fold words verb there one two three four five six seven eight nine ten is = ap form_of (dropped words 0 verb there) ∙ rw (one, two, three, four, five, six, seven, eight, nine, ten, is) refl

pub at_other : (words : List (List ℕ)) (verb : List ℕ) → slice_get words 0 ≡ Some verb → bytes_eq verb (codes "pack") ≡ false → bytes_eq verb (codes "run") ≡ false → bytes_eq verb (codes "watch") ≡ false → bytes_eq verb (codes "hex") ≡ false → bytes_eq verb (codes "hexcheck") ≡ false → bytes_eq verb (codes "size") ≡ false → bytes_eq verb (codes "trial") ≡ false → bytes_eq verb (codes "check") ≡ false → bytes_eq verb (codes "prove") ≡ false → bytes_eq verb (codes "names") ≡ false → bytes_eq verb (codes "fold") ≡ false → form_of words ≡ None
unfolding form_of
at_other words verb there one two three four five six seven eight nine ten eleven = ap form_of (dropped words 0 verb there) ∙ rw (one, two, three, four, five, six, seven, eight, nine, ten, eleven) refl

pub at_none : (words : List (List ℕ)) → slice_get words 0 ≡ None → form_of words ≡ None
unfolding form_of
at_none [] none = refl
at_none (verb ∷ words) none = absurd (cc none)

-- what the numbers of a run must be
record Asks (file input : List ℕ) (limit base size : Option ℕ) (arguments : List (List ℕ)) (request : RunRequest) : Type 0 where
  file_is : request.file ≡ file
  input_is : request.input ≡ input
  limit_is : limit ≡ Some request.limit
  base_is : base ≡ Some request.base
  size_is : size ≡ Some request.size
  arguments_are : request.arguments ≡ arguments
  few : request.limit ≤ most_steps
  fits : StartFits request.base request.size

by_ranges : (file input : List ℕ) (limit base size : ℕ) (arguments : List (List ℕ)) (request : RunRequest) (few fits : Bool) → nat_le limit most_steps ≡ few → start_fits base size ≡ fits →
    (if few && fits then Some (record { file = file; input = input; limit = limit; base = base; size = size; arguments = arguments }) else None) ≡ Some request →
    Asks file input (Some limit) (Some base) (Some size) arguments request
by_ranges file input limit base size arguments request true true first second e = record {
  file_is = cc e;
  input_is = cc e;
  limit_is = cc e;
  base_is = cc e;
  size_is = cc e;
  arguments_are = cc e;
  few = let is : limit ≡ request.limit = cc e in omega (arith, few_back limit first, is);
  fits = let b : base ≡ request.base = cc e in let s : size ≡ request.size = cc e in rw (← b, ← s) (fits_back base size second);
}
by_ranges file input limit base size arguments request true false first second e = absurd (cc e)
by_ranges file input limit base size arguments request false fits first second e = absurd (cc e)

asks : (file input : List ℕ) (limit base size : Option ℕ) (arguments : List (List ℕ)) (request : RunRequest) → run_of file input limit base size arguments ≡ Some request → Asks file input limit base size arguments request
asks file input (Some limit) (Some base) (Some size) arguments request e =
    by_ranges file input limit base size arguments request (nat_le limit most_steps) (start_fits base size) refl refl e
asks file input None base size arguments request e = absurd (cc e)
asks file input (Some limit) None size arguments request e = absurd (cc e)
asks file input (Some limit) (Some base) None arguments request e = absurd (cc e)

-- the words behind `run` or `watch`
record RunTail (words : List (List ℕ)) (request : RunRequest) : Type 0 where
  tail_is : words ≡ request.file ∷ request.input ∷ decimal request.limit ∷ decimal request.base ∷ decimal request.size ∷ request.arguments
  few : request.limit ≤ most_steps
  fits : StartFits request.base request.size

run_tail : (words : List (List ℕ)) (request : RunRequest) → run_request words ≡ Some request → RunTail words request
run_tail (file ∷ given ∷ limit ∷ base ∷ size ∷ arguments) request e =
    let a : Asks file given (number_of limit) (number_of base) (number_of size) arguments request = asks file given (number_of limit) (number_of base) (number_of size) arguments request e in
    let l : limit ≡ decimal request.limit = (number_back limit request.limit a.limit_is).0 in
    let b : base ≡ decimal request.base = (number_back base request.base a.base_is).0 in
    let s : size ≡ decimal request.size = (number_back size request.size a.size_is).0 in
    record {
      tail_is = λ i. sym a.file_is i ∷ sym a.input_is i ∷ l i ∷ b i ∷ s i ∷ sym a.arguments_are i;
      few = a.few;
      fits = a.fits;
    }
run_tail (file ∷ given ∷ limit ∷ base ∷ []) request e = absurd (cc e)
run_tail (file ∷ given ∷ limit ∷ []) request e = absurd (cc e)
run_tail (file ∷ given ∷ []) request e = absurd (cc e)
run_tail (file ∷ []) request e = absurd (cc e)
run_tail [] request e = absurd (cc e)

-- the words of a form
abbrev Spells : Form → List (List ℕ) → Type 0
Spells (PackForm input output) words = IsPack words input output
Spells (RunForm request) words = IsRun words request
Spells (WatchForm request) words = IsWatch words request
Spells (HexForm input output) words = IsHex words input output
Spells (HexcheckForm input text) words = IsHexcheck words input text
Spells (SizeForm input) words = IsSize words input
Spells (TrialForm first blocks) words = IsTrial words first blocks
Spells (CheckForm input output cert) words = IsCheck words input output cert
Spells (FoldForm input output) words = IsFold words input output
Spells (NamesForm input cert) words = IsNames words input cert
Spells (ProveForm input output cert) words = IsProve words input output cert

-- by its verb, and the words behind it
module _ (verb : List ℕ) where
  by_pair : (make : List ℕ → List ℕ → Form) → ((first second : List ℕ) → Spells (make first second) (verb ∷ first ∷ second ∷ [])) → (words : List (List ℕ)) (f : Form) → pair_form make words ≡ Some f → Spells f (verb ∷ words)
  by_pair make spelt (first ∷ second ∷ []) f e = let same : make first second ≡ f = cc e in rw (← same) (spelt first second)
  by_pair make spelt (first ∷ second ∷ word ∷ words) f e = absurd (cc e)
  by_pair make spelt (first ∷ []) f e = absurd (cc e)
  by_pair make spelt [] f e = absurd (cc e)

  by_single : (make : List ℕ → Form) → ((only : List ℕ) → Spells (make only) (verb ∷ only ∷ [])) → (words : List (List ℕ)) (f : Form) → single_form make words ≡ Some f → Spells f (verb ∷ words)
  by_single make spelt (only ∷ []) f e = let same : make only ≡ f = cc e in rw (← same) (spelt only)
  by_single make spelt (only ∷ word ∷ words) f e = absurd (cc e)
  by_single make spelt [] f e = absurd (cc e)

  by_triple : (make : List ℕ → List ℕ → List ℕ → Form) → ((first second third : List ℕ) → Spells (make first second third) (verb ∷ first ∷ second ∷ third ∷ [])) → (words : List (List ℕ)) (f : Form) → triple_form make words ≡ Some f → Spells f (verb ∷ words)
  by_triple make spelt (first ∷ second ∷ third ∷ []) f e = let same : make first second third ≡ f = cc e in rw (← same) (spelt first second third)
  by_triple make spelt (first ∷ second ∷ third ∷ word ∷ words) f e = absurd (cc e)
  by_triple make spelt (first ∷ second ∷ []) f e = absurd (cc e)
  by_triple make spelt (first ∷ []) f e = absurd (cc e)
  by_triple make spelt [] f e = absurd (cc e)

  asks_run : (words : List (List ℕ)) (request : RunRequest) → run_request words ≡ Some request → AsksRun verb (verb ∷ words) request
  asks_run words request e =
      let tail : RunTail words request = run_tail words request e in
      record { words_are = λ i. verb ∷ tail.tail_is i; limit = tail.few; fits = tail.fits }

  by_request : (make : RunRequest → Form) (words : List (List ℕ)) → ((request : RunRequest) → AsksRun verb (verb ∷ words) request → Spells (make request) (verb ∷ words)) → (asked : Option RunRequest) → run_request words ≡ asked → (f : Form) → option_map make asked ≡ Some f → Spells f (verb ∷ words)
  by_request make words spelt (Some request) is f e = let same : make request ≡ f = cc e in rw (← same) (spelt request (asks_run words request is))
  by_request make words spelt None is f e = absurd (cc e)

-- the numbers behind `trial`
some_blocks : (blocks : ℕ) → (nat_le 1 blocks && nat_le blocks most_blocks) ≡ true → (1 ≤ blocks) × (blocks ≤ most_blocks)
some_blocks blocks t = (grind (arith, nat_tests), grind (arith, nat_tests))

by_range : (first blocks : ℕ) (range : Bool) → (nat_le 1 blocks && nat_le blocks most_blocks) ≡ range → first < 2 ^ 32 → (f : Form) → (if range then Some (TrialForm first blocks) else None) ≡ Some f → Spells f (codes "trial" ∷ decimal first ∷ decimal blocks ∷ [])
by_range first blocks true is small f e =
    let same : TrialForm first blocks ≡ f = cc e in
    let fits : (1 ≤ blocks) × (blocks ≤ most_blocks) = some_blocks blocks is in
    rw (← same) (record { words_are = refl; fits = small; some = fits.0; few = fits.1 })
by_range first blocks false is small f e = absurd (cc e)

by_numbers : (one two : List ℕ) (first blocks : Option ℕ) → number_of one ≡ first → number_of two ≡ blocks → (f : Form) → trial_of first blocks ≡ Some f → Spells f (codes "trial" ∷ one ∷ two ∷ [])
by_numbers one two (Some first) (Some blocks) is also f e =
    let f_is : (one ≡ decimal first) × (first < 2 ^ 32) = number_back one first is in
    let b_is : (two ≡ decimal blocks) × (blocks < 2 ^ 32) = number_back two blocks also in
    rw (f_is.0, b_is.0) (by_range first blocks (nat_le 1 blocks && nat_le blocks most_blocks) refl f_is.1 f e)
by_numbers one two (Some first) None is also f e = absurd (cc e)
by_numbers one two None blocks is also f e = absurd (cc e)

by_trial : (words : List (List ℕ)) (f : Form) → trial_form words ≡ Some f → Spells f (codes "trial" ∷ words)
by_trial (one ∷ two ∷ []) f e = by_numbers one two (number_of one) (number_of two) refl refl f e
by_trial (one ∷ two ∷ word ∷ words) f e = absurd (cc e)
by_trial (one ∷ []) f e = absurd (cc e)
by_trial [] f e = absurd (cc e)

-- the names behind `prove`
by_names : (input output cert : List ℕ) (same : Bool) → bytes_eq output cert ≡ same → (f : Form) → (if same then None else Some (ProveForm input output cert)) ≡ Some f → Spells f (codes "prove" ∷ input ∷ output ∷ cert ∷ [])
by_names input output cert true is f e = absurd (cc e)
by_names input output cert false is f e =
    let same : ProveForm input output cert ≡ f = cc e in
    rw (← same) (record { words_are = refl; apart = λ equal. absurd (cc (is, (bytes_eq-Decides output cert).1 equal)) })

by_prove : (words : List (List ℕ)) (f : Form) → prove_form words ≡ Some f → Spells f (codes "prove" ∷ words)
by_prove (input ∷ output ∷ cert ∷ []) f e = by_names input output cert (bytes_eq output cert) refl f e
by_prove (input ∷ output ∷ cert ∷ word ∷ words) f e = absurd (cc e)
by_prove (input ∷ output ∷ []) f e = absurd (cc e)
by_prove (input ∷ []) f e = absurd (cc e)
by_prove [] f e = absurd (cc e)

-- a verb that is tested to be this one
by_verb : (verb is : List ℕ) (words : List (List ℕ)) (f : Form) → bytes_eq verb is ≡ true → Spells f (is ∷ words) → Spells f (verb ∷ words)
by_verb verb is words f same spelt = rw ((bytes_eq-Decides verb is).0 same) spelt

by_tests : (verb : List ℕ) (words : List (List ℕ)) (f : Form) (p r w h c s t k v n o : Bool) → bytes_eq verb (codes "pack") ≡ p → bytes_eq verb (codes "run") ≡ r → bytes_eq verb (codes "watch") ≡ w → bytes_eq verb (codes "hex") ≡ h → bytes_eq verb (codes "hexcheck") ≡ c → bytes_eq verb (codes "size") ≡ s → bytes_eq verb (codes "trial") ≡ t → bytes_eq verb (codes "check") ≡ k → bytes_eq verb (codes "prove") ≡ v → bytes_eq verb (codes "names") ≡ n → bytes_eq verb (codes "fold") ≡ o →
    (if p then pair_form PackForm words else if r then option_map RunForm (run_request words) else if w then option_map WatchForm (run_request words) else if h then pair_form HexForm words else if c then pair_form HexcheckForm words else if s then single_form SizeForm words else if t then trial_form words else if k then triple_form CheckForm words else if v then prove_form words else if n then pair_form NamesForm words else if o then pair_form FoldForm words else None) ≡ Some f →
    Spells f (verb ∷ words)
by_tests verb words f true r w h c s t k v n o one two three four five six seven eight nine ten eleven e = by_verb verb (codes "pack") words f one (by_pair (codes "pack") PackForm (λ first second. refl) words f e)
by_tests verb words f false true w h c s t k v n o one two three four five six seven eight nine ten eleven e = by_verb verb (codes "run") words f two (by_request (codes "run") RunForm words (λ request asks. asks) (run_request words) refl f e)
by_tests verb words f false false true h c s t k v n o one two three four five six seven eight nine ten eleven e = by_verb verb (codes "watch") words f three (by_request (codes "watch") WatchForm words (λ request asks. asks) (run_request words) refl f e)
by_tests verb words f false false false true c s t k v n o one two three four five six seven eight nine ten eleven e = by_verb verb (codes "hex") words f four (by_pair (codes "hex") HexForm (λ first second. refl) words f e)
by_tests verb words f false false false false true s t k v n o one two three four five six seven eight nine ten eleven e = by_verb verb (codes "hexcheck") words f five (by_pair (codes "hexcheck") HexcheckForm (λ first second. refl) words f e)
by_tests verb words f false false false false false true t k v n o one two three four five six seven eight nine ten eleven e = by_verb verb (codes "size") words f six (by_single (codes "size") SizeForm (λ only. refl) words f e)
by_tests verb words f false false false false false false true k v n o one two three four five six seven eight nine ten eleven e = by_verb verb (codes "trial") words f seven (by_trial words f e)
by_tests verb words f false false false false false false false true v n o one two three four five six seven eight nine ten eleven e = by_verb verb (codes "check") words f eight (by_triple (codes "check") CheckForm (λ first second third. refl) words f e)
by_tests verb words f false false false false false false false false true n o one two three four five six seven eight nine ten eleven e = by_verb verb (codes "prove") words f nine (by_prove words f e)
by_tests verb words f false false false false false false false false false true o one two three four five six seven eight nine ten eleven e = by_verb verb (codes "names") words f ten (by_pair (codes "names") NamesForm (λ first second. refl) words f e)
by_tests verb words f false false false false false false false false false false true one two three four five six seven eight nine ten eleven e = by_verb verb (codes "fold") words f eleven (by_pair (codes "fold") FoldForm (λ first second. refl) words f e)
by_tests verb words f false false false false false false false false false false false one two three four five six seven eight nine ten eleven e = absurd (cc e)

-- words of this form are those of its command
spelt : (words : List (List ℕ)) (f : Form) → form_of words ≡ Some f → Spells f words
unfolding form_of
spelt [] f e = absurd (cc e)
spelt (verb ∷ words) f e =
    by_tests verb words f (bytes_eq verb (codes "pack")) (bytes_eq verb (codes "run")) (bytes_eq verb (codes "watch")) (bytes_eq verb (codes "hex")) (bytes_eq verb (codes "hexcheck")) (bytes_eq verb (codes "size")) (bytes_eq verb (codes "trial")) (bytes_eq verb (codes "check")) (bytes_eq verb (codes "prove")) (bytes_eq verb (codes "names")) (bytes_eq verb (codes "fold")) refl refl refl refl refl refl refl refl refl refl refl e

pack_to : (words : List (List ℕ)) (input output : List ℕ) → IsPack words input output → form_of words ≡ Some (PackForm input output)
unfolding form_of
pack_to words input output e = ap form_of e

hex_to : (words : List (List ℕ)) (input output : List ℕ) → IsHex words input output → form_of words ≡ Some (HexForm input output)
unfolding form_of
hex_to words input output e = ap form_of e

hexcheck_to : (words : List (List ℕ)) (input text : List ℕ) → IsHexcheck words input text → form_of words ≡ Some (HexcheckForm input text)
unfolding form_of
hexcheck_to words input text e = ap form_of e

size_to : (words : List (List ℕ)) (input : List ℕ) → IsSize words input → form_of words ≡ Some (SizeForm input)
unfolding form_of
size_to words input e = ap form_of e

check_to : (words : List (List ℕ)) (input output cert : List ℕ) → IsCheck words input output cert → form_of words ≡ Some (CheckForm input output cert)
unfolding form_of
check_to words input output cert e = ap form_of e

names_to : (words : List (List ℕ)) (input cert : List ℕ) → IsNames words input cert → form_of words ≡ Some (NamesForm input cert)
unfolding form_of
names_to words input cert e = ap form_of e

fold_to : (words : List (List ℕ)) (input output : List ℕ) → IsFold words input output → form_of words ≡ Some (FoldForm input output)
unfolding form_of
fold_to words input output e = ap form_of e

-- names that are different
not_same : (output cert : List ℕ) (same : Bool) → bytes_eq output cert ≡ same → output ≢ cert → bytes_eq output cert ≡ false
not_same output cert true is apart = absurd (apart ((bytes_eq-Decides output cert).0 is))
not_same output cert false is apart = is

prove_to : (words : List (List ℕ)) (input output cert : List ℕ) → IsProve words input output cert → form_of words ≡ Some (ProveForm input output cert)
unfolding form_of
prove_to words input output cert is = ap form_of is.words_are ∙ rw (not_same output cert (bytes_eq output cert) refl is.apart) refl

trial_to : (words : List (List ℕ)) (first blocks : ℕ) → IsTrial words first blocks → form_of words ≡ Some (TrialForm first blocks)
unfolding form_of
trial_to words first blocks is =
    let f : number_of (decimal first) ≡ Some first = number_is (decimal first) first is.fits refl in
    let b : number_of (decimal blocks) ≡ Some blocks = number_is (decimal blocks) blocks (omega (arith, is.few)) refl in
    let low : nat_le 1 blocks ≡ true = grind (arith, nat_tests, is.some) in
    let high : nat_le blocks most_blocks ≡ true = grind (arith, nat_tests, is.few) in
    ap form_of is.words_are ∙ (λ i. trial_of (f i) (b i)) ∙ (λ i. if low i && high i then Some (TrialForm first blocks) else None)

pub pack_is : (words : List (List ℕ)) (input output : List ℕ) → (form_of words ≡ Some (PackForm input output)) ↔ IsPack words input output
pack_is words input output = (spelt words (PackForm input output), pack_to words input output)

pub hex_is : (words : List (List ℕ)) (input output : List ℕ) → (form_of words ≡ Some (HexForm input output)) ↔ IsHex words input output
hex_is words input output = (spelt words (HexForm input output), hex_to words input output)

pub hexcheck_is : (words : List (List ℕ)) (input text : List ℕ) → (form_of words ≡ Some (HexcheckForm input text)) ↔ IsHexcheck words input text
hexcheck_is words input text = (spelt words (HexcheckForm input text), hexcheck_to words input text)

pub size_is : (words : List (List ℕ)) (input : List ℕ) → (form_of words ≡ Some (SizeForm input)) ↔ IsSize words input
size_is words input = (spelt words (SizeForm input), size_to words input)

pub check_is : (words : List (List ℕ)) (input output cert : List ℕ) → (form_of words ≡ Some (CheckForm input output cert)) ↔ IsCheck words input output cert
check_is words input output cert = (spelt words (CheckForm input output cert), check_to words input output cert)

pub prove_is : (words : List (List ℕ)) (input output cert : List ℕ) → (form_of words ≡ Some (ProveForm input output cert)) ↔ IsProve words input output cert
prove_is words input output cert = (spelt words (ProveForm input output cert), prove_to words input output cert)

pub names_is : (words : List (List ℕ)) (input cert : List ℕ) → (form_of words ≡ Some (NamesForm input cert)) ↔ IsNames words input cert
names_is words input cert = (spelt words (NamesForm input cert), names_to words input cert)

pub fold_is : (words : List (List ℕ)) (input output : List ℕ) → (form_of words ≡ Some (FoldForm input output)) ↔ IsFold words input output
fold_is words input output = (spelt words (FoldForm input output), fold_to words input output)

pub trial_is : (words : List (List ℕ)) (first blocks : ℕ) → (form_of words ≡ Some (TrialForm first blocks)) ↔ IsTrial words first blocks
trial_is words first blocks = (spelt words (TrialForm first blocks), trial_to words first blocks)

-- the words that ask for a run are read as its request
read_so : (request : RunRequest) → request.limit ≤ most_steps → StartFits request.base request.size →
    run_request (request.file ∷ request.input ∷ decimal request.limit ∷ decimal request.base ∷ decimal request.size ∷ request.arguments) ≡ Some request
read_so request limit start =
    let l : number_of (decimal request.limit) ≡ Some request.limit = number_is (decimal request.limit) request.limit (omega (arith, limit)) refl in
    let b : number_of (decimal request.base) ≡ Some request.base = number_is (decimal request.base) request.base (omega (arith, start.end, start.least)) refl in
    let s : number_of (decimal request.size) ≡ Some request.size = number_is (decimal request.size) request.size (omega (arith, start.most)) refl in
    let few : nat_le request.limit most_steps ≡ true = few_steps request.limit limit in
    let fits : start_fits request.base request.size ≡ true = fits_test request.base request.size start in
    (λ i. run_of request.file request.input (l i) (b i) (s i) request.arguments) ∙ (λ i. if few i && fits i then Some request else None)

run_to : (words : List (List ℕ)) (request : RunRequest) → IsRun words request → form_of words ≡ Some (RunForm request)
unfolding form_of
run_to words request is = ap form_of is.words_are ∙ ap (option_map RunForm) (read_so request is.limit is.fits)

watch_to : (words : List (List ℕ)) (request : RunRequest) → IsWatch words request → form_of words ≡ Some (WatchForm request)
unfolding form_of
watch_to words request is = ap form_of is.words_are ∙ ap (option_map WatchForm) (read_so request is.limit is.fits)

pub run_is : (words : List (List ℕ)) (request : RunRequest) → (form_of words ≡ Some (RunForm request)) ↔ IsRun words request
run_is words request = (spelt words (RunForm request), run_to words request)

pub watch_is : (words : List (List ℕ)) (request : RunRequest) → (form_of words ≡ Some (WatchForm request)) ↔ IsWatch words request
watch_is words request = (spelt words (WatchForm request), watch_to words request)
