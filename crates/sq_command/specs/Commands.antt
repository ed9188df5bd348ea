-- The forms of a command line.
use Rattle.std.specs.Prelude.{◌≡◌, ℕ, ◌+◌, ◌%◌, ◌^◌, ◌<◌, ◌≤◌, ◌≢◌, Bool, ◌==◌, ◌&&◌, nat_le, List, [], ◌∷◌, drop, Option, Some, None, if◌then◌else◌, codes, decimal}
use Rattle.std.specs.Option.{option_map}
use Rattle.std.specs.Str.{bytes_eq}
use Rattle.sq_system.specs.Starts.{StartFits}
use Rattle.sq_command.specs.Numbers.{number_of}
use Rattle.sq_command.specs.declared.command.Command.{Command}
use Rattle.sq_command.specs.declared.command.Command.TheVariants.{Pack, Run, Watch, Hex, Hexcheck, Size, Trial, Check, Prove, Names, Fold}
use Rattle.sq_command.specs.declared.run_words.RunWords.{RunWords}
use Rattle.sq_command.specs.declared.trial_words.TrialWords.{TrialWords}

-- what `run` or `watch` asks for
pub record RunRequest : Type 0 where
  pub file : List ℕ
  pub input : List ℕ
  pub limit : ℕ
  pub base : ℕ
  pub size : ℕ
  pub arguments : List (List ℕ)

-- what the words ask for
pub data Form : Type 0 where
  -- pack IN OUT
  PackForm : List ℕ → List ℕ → Form
  -- run FILE INPUT LIMIT BASE SIZE ARG*
  RunForm : RunRequest → Form
  -- watch FILE INPUT LIMIT BASE SIZE ARG*
  WatchForm : RunRequest → Form
  -- hex IN OUT
  HexForm : List ℕ → List ℕ → Form
  -- hexcheck IN HEX
  HexcheckForm : List ℕ → List ℕ → Form
  -- size IN
  SizeForm : List ℕ → Form
  -- trial FIRST BLOCKS
  TrialForm : ℕ → ℕ → Form
  -- check IN OUT CERT
  CheckForm : List ℕ → List ℕ → List ℕ → Form
  -- prove IN OUT CERT
  ProveForm : List ℕ → List ℕ → List ℕ → Form
  -- names IN CERT
  NamesForm : List ℕ → List ℕ → Form
  -- fold IN OUT
  FoldForm : List ℕ → List ℕ → Form

-- at most so many steps
abbrev pub most_steps : ℕ
most_steps = 10000000

-- at most so many blocks
abbrev pub most_blocks : ℕ
most_blocks = 4000

-- whether RAM may be `size` bytes from `base` on
abbrev pub start_fits : ℕ → ℕ → Bool
start_fits base size =
    base % 16 == 0 && size % 16 == 0 && nat_le 16 size && nat_le size 16777216 && nat_le (base + size) (2 ^ 32)

-- the request with these numbers, where the words have them and they are in their ranges
abbrev pub run_of : List ℕ → List ℕ → Option ℕ → Option ℕ → Option ℕ → List (List ℕ) → Option RunRequest
run_of file input (Some limit) (Some base) (Some size) arguments =
    if nat_le limit most_steps && start_fits base size
    then Some (record { file = file; input = input; limit = limit; base = base; size = size; arguments = arguments })
    else None
run_of file input limit base size arguments = None

-- the words behind `pack`, `hex` or `hexcheck`: two names
abbrev pub pair_form : (List ℕ → List ℕ → Form) → List (List ℕ) → Option Form
pair_form make (first ∷ second ∷ []) = Some (make first second)
pair_form make words = None

-- the words behind `size`: one name
abbrev pub single_form : (List ℕ → Form) → List (List ℕ) → Option Form
single_form make (only ∷ []) = Some (make only)
single_form make words = None

-- the words behind `check`: three names
abbrev pub triple_form : (List ℕ → List ℕ → List ℕ → Form) → List (List ℕ) → Option Form
triple_form make (first ∷ second ∷ third ∷ []) = Some (make first second third)
triple_form make words = None

-- the words behind `prove`: three names, and those of OUT and CERT are different
abbrev pub prove_form : List (List ℕ) → Option Form
prove_form (input ∷ output ∷ cert ∷ []) = if bytes_eq output cert then None else Some (ProveForm input output cert)
prove_form words = None

-- the trial of these numbers, where the words have them and the second is in its range
abbrev pub trial_of : Option ℕ → Option ℕ → Option Form
trial_of (Some first) (Some blocks) =
    if nat_le 1 blocks && nat_le blocks most_blocks then Some (TrialForm first blocks) else None
trial_of first blocks = None

-- the words behind `trial`: two numbers
abbrev pub trial_form : List (List ℕ) → Option Form
trial_form (first ∷ blocks ∷ []) = trial_of (number_of first) (number_of blocks)
trial_form words = None

-- the words behind `run` or `watch`
abbrev pub run_request : List (List ℕ) → Option RunRequest
run_request (file ∷ input ∷ limit ∷ base ∷ size ∷ arguments) =
    run_of file input (number_of limit) (number_of base) (number_of size) arguments
run_request words = None

-- the form of the words, where they have one
unfoldable pub form_of : List (List ℕ) → Option Form
form_of [] = None
form_of (verb ∷ words) =
    if bytes_eq verb (codes "pack") then pair_form PackForm words
    else if bytes_eq verb (codes "run") then option_map RunForm (run_request words)
    else if bytes_eq verb (codes "watch") then option_map WatchForm (run_request words)
    else if bytes_eq verb (codes "hex") then pair_form HexForm words
    else if bytes_eq verb (codes "hexcheck") then pair_form HexcheckForm words
    else if bytes_eq verb (codes "size") then single_form SizeForm words
    else if bytes_eq verb (codes "trial") then trial_form words
    else if bytes_eq verb (codes "check") then triple_form CheckForm words
    else if bytes_eq verb (codes "prove") then prove_form words
    else if bytes_eq verb (codes "names") then pair_form NamesForm words
    else if bytes_eq verb (codes "fold") then pair_form FoldForm words
    else None

-- the words are `VERB FILE INPUT LIMIT BASE SIZE ARG*`: numbers in decimal, each in its range
pub record AsksRun (verb : List ℕ) (words : List (List ℕ)) (request : RunRequest) : Type 0 where
  pub words_are : words ≡ verb ∷ request.file ∷ request.input ∷ decimal request.limit ∷ decimal request.base ∷ decimal request.size ∷ request.arguments
  pub limit : request.limit ≤ most_steps
  pub fits : StartFits request.base request.size

-- the words are `run FILE INPUT LIMIT BASE SIZE ARG*`
abbrev pub IsRun : List (List ℕ) → RunRequest → Type 0
IsRun = AsksRun (codes "run")

-- the words are `watch FILE INPUT LIMIT BASE SIZE ARG*`
abbrev pub IsWatch : List (List ℕ) → RunRequest → Type 0
IsWatch = AsksRun (codes "watch")

-- the words are `pack IN OUT`
abbrev pub IsPack : List (List ℕ) → List ℕ → List ℕ → Type 0
IsPack words input output = words ≡ codes "pack" ∷ input ∷ output ∷ []

-- the words are `hex IN OUT`
abbrev pub IsHex : List (List ℕ) → List ℕ → List ℕ → Type 0
IsHex words input output = words ≡ codes "hex" ∷ input ∷ output ∷ []

-- the words are `hexcheck IN HEX`
abbrev pub IsHexcheck : List (List ℕ) → List ℕ → List ℕ → Type 0
IsHexcheck words input text = words ≡ codes "hexcheck" ∷ input ∷ text ∷ []

-- the words are `size IN`
abbrev pub IsSize : List (List ℕ) → List ℕ → Type 0
IsSize words input = words ≡ codes "size" ∷ input ∷ []

-- the words are `check IN OUT CERT`
abbrev pub IsCheck : List (List ℕ) → List ℕ → List ℕ → List ℕ → Type 0
IsCheck words input output cert = words ≡ codes "check" ∷ input ∷ output ∷ cert ∷ []

-- the words are `prove IN OUT CERT`: OUT and CERT are different names
pub record IsProve (words : List (List ℕ)) (input output cert : List ℕ) : Type 0 where
  pub words_are : words ≡ codes "prove" ∷ input ∷ output ∷ cert ∷ []
  pub apart : output ≢ cert

-- the words are `trial FIRST BLOCKS`: numbers in decimal, each in its range
pub record IsTrial (words : List (List ℕ)) (first blocks : ℕ) : Type 0 where
  pub words_are : words ≡ codes "trial" ∷ decimal first ∷ decimal blocks ∷ []
  pub fits : first < 2 ^ 32
  pub some : 1 ≤ blocks
  pub few : blocks ≤ most_blocks

-- the words are `names IN CERT`
abbrev pub IsNames : List (List ℕ) → List ℕ → List ℕ → Type 0
IsNames words input cert = words ≡ codes "names" ∷ input ∷ cert ∷ []

-- the words are `fold IN OUT`
abbrev pub IsFold : List (List ℕ) → List ℕ → List ℕ → Type 0
IsFold words input output = words ≡ codes "fold" ∷ input ∷ output ∷ []

-- what the words of a run ask for
abbrev pub request_of : List (List ℕ) → RunWords → RunRequest
request_of words run =
    record { file = run.file.now; input = run.input.now; limit = run.limit; base = run.base; size = run.size; arguments = drop 6 words }

-- the form of a trial
abbrev pub trial_asked : TrialWords → Form
trial_asked trial = TrialForm trial.first trial.blocks

-- the form that a command has
abbrev pub form : List (List ℕ) → Command → Form
form words (Pack input output) = PackForm input.now output.now
form words (Run run) = RunForm (request_of words run)
form words (Watch run) = WatchForm (request_of words run)
form words (Hex input output) = HexForm input.now output.now
form words (Hexcheck input text) = HexcheckForm input.now text.now
form words (Size input) = SizeForm input.now
form words (Trial trial) = trial_asked trial
form words (Check input output cert) = CheckForm input.now output.now cert.now
form words (Prove input output cert) = ProveForm input.now output.now cert.now
form words (Names input cert) = NamesForm input.now cert.now
form words (Fold input output) = FoldForm input.now output.now
