-- A change from one graph to another, and when pieces of the two go on alike.
use Rattle.std.specs.Prelude.{◌≡◌, ℕ, Bool, true, false, List, [], ◌∷◌, Option, Some, None, slice_get}
use Rattle.std.specs.List.{Contains}
use Rattle.sq_isa.specs.Forms.{with_registers}
use Rattle.sq_isa.specs.Branches.{inverse_of}
use Rattle.sq_isa.specs.Uses.{sources_of, destination_of, is_written}
use Rattle.sq_isa.specs.declared.instructions.Cond.{Cond}
use Rattle.sq_isa.specs.declared.instructions.Insn.{Insn}
use Rattle.sq_isa.specs.declared.instructions.Insn.TheVariants.{OpImm}
use Rattle.sq_isa.specs.declared.instructions.ImmOp.TheVariants.{Addi}
use Rattle.sq_graph.specs.declared.item.Term.{Term}
use Rattle.sq_graph.specs.declared.item.Term.TheVariants.{Fall, Jump, Branch, Call, PartJump, Indirect, Stop}
use Rattle.sq_graph.specs.Graph.{Procedure, Graph}
use Rattle.sq_graph.specs.Terms.{links}
use Rattle.sq_graph.specs.Lines.{AddressHalf, Plain, Upper, Lower, Line, Name, Do, Enter, Return, End, inside, slot_name, block_lines}
use Rattle.sq_graph.specs.Walks.{Goes, code_targets, is_register, line_reads, line_writes}
use Rattle.law_patch.specs.Registers.{AreSources}

-- What a change is given by: the two graphs; names that values may hold for one another; names to which the two may
-- go; for upper halves and their targets one function; a carrier, which has the registers that matter at a place; and
-- in each mode what is known of registers: "r of the first stands for s of the second"; and whether one side may make steps
-- by itself.
pub record Change : Type 1 where
  pub before : Graph
  pub after : Graph
  pub MayHold : ℕ → ℕ → Type 0
  pub MayGo : ℕ → ℕ → Type 0
  pub renamed : ℕ → ℕ
  pub Matters : List Line → ℕ → Type 0
  pub Mode : Type 0
  pub StandsIn : Mode → ℕ → ℕ → Type 0
  pub Sound : Type 0
  pub MaySkip : Type 0

-- the carrier has what is read before it is written
pub record IsCarrier (g : Graph) (X : List Line → ℕ → Type 0) : Type 0 where
  pub read : (line : Line) (rest : List Line) (r : ℕ) → line_reads line r ≡ true → X (line ∷ rest) r
  pub kept : (line : Line) (rest next : List Line) (r : ℕ) → line_writes g.procedures line r ≡ false → Goes g line rest next → X next r → X (line ∷ rest) r

-- in no mode each register stands for itself
abbrev pub Stands : (C : Change) → Option C.Mode → ℕ → ℕ → Type 0
Stands C None r s = s ≡ r
Stands C (Some m) r s = C.StandsIn m r s

-- an item that makes an address makes one that may be held for it
abbrev pub IsNamedLower : Change → ℕ → ℕ → Insn → Type 0
IsNamedLower C n m (OpImm Addi rd rs imm) = (m ≡ C.renamed n) × C.MayHold n m
IsNamedLower C n m insn = ⊥

abbrev pub IsNamedHalf : Change → AddressHalf → AddressHalf → Insn → Type 0
IsNamedHalf C Plain Plain insn = Unit {0}
IsNamedHalf C (Upper n None) (Upper m None) insn = m ≡ C.renamed n
IsNamedHalf C (Lower n) (Lower m) insn = IsNamedLower C n m insn
IsNamedHalf C half other insn = ⊥

-- the term with its target renamed
abbrev pub term_named : (ℕ → ℕ) → Term → Term
term_named g Fall = Fall
term_named g (Jump to) = Jump (g to)
term_named g (Branch cond a b to) = Branch cond a b (g to)
term_named g (Call link to) = Call link (g to)
term_named g (PartJump link part to) = PartJump link part (g to)
term_named g (Indirect link at offset) = Indirect link at offset
term_named g (Stop word) = Stop word

-- the two may go to the target, which a PartJump's upper half belongs to. A Fall is no line, so no step
abbrev pub MayGoTo : Change → (ℕ → ℕ) → Term → Type 0
MayGoTo C g Fall = ⊥
MayGoTo C g (Jump to) = C.MayGo to (g to)
MayGoTo C g (Branch cond a b to) = C.MayGo to (g to)
MayGoTo C g (Call link to) = C.MayGo to (g to)
MayGoTo C g (PartJump link part to) = C.MayGo to (g to) × (g to ≡ C.renamed to)
MayGoTo C g (Indirect link at offset) = Unit {0}
MayGoTo C g (Stop word) = Unit {0}

-- whether a term may go on to the next slot by itself
abbrev pub falls : Term → Bool
falls Fall = true
falls (Jump to) = false
falls (Branch cond a b to) = true
falls (Call link to) = false
falls (PartJump link part to) = false
falls (Indirect link at offset) = false
falls (Stop word) = false

-- where the first has a next slot, the second has one that may be held for it
abbrev pub SameSlot : (ℕ → ℕ → Type 0) → Option ℕ → Option ℕ → Type 0
SameSlot V None o = Unit {0}
SameSlot V (Some n) None = ⊥
SameSlot V (Some n) (Some m) = V n m

-- The two places go on alike: by steps of one side that break nothing, where these may be made, to a step that both take.
-- Behind such a step (where the flag is true) names may be promised, so that code may go round.
pub data Alike (C : Change) : Bool → Option C.Mode → List Line → List Line → Type 0 where
  ends : {b : Bool} {m : Option C.Mode} → Alike C b m [] []
  promised : {n n' : ℕ} → C.MayGo n n' → Alike C true None (block_lines C.before n) (block_lines C.after n')
  guarded : {m : Option C.Mode} {xs ys : List Line} → Alike C false m xs ys → Alike C true m xs ys
  shift : {b : Bool} {m m' : Option C.Mode} {xs ys : List Line} → ((r s : ℕ) → C.Matters xs r → Stands C m' r s → Stands C m r s) → Alike C b m' xs ys → Alike C b m xs ys
  name_before : {b : Bool} {m : Option C.Mode} {n : ℕ} {xs ys : List Line} → Alike C b m xs ys → Alike C b m (Name n ∷ xs) ys
  name_after : {b : Bool} {m : Option C.Mode} {n : ℕ} {xs ys : List Line} → Alike C b m xs ys → Alike C b m xs (Name n ∷ ys)
  jump_before : {b : Bool} {m : Option C.Mode} {n : ℕ} {xs ys : List Line} → C.MaySkip → Alike C b m (block_lines C.before n) ys → Alike C b m (End (Jump n) ∷ xs) ys
  jump_after : {b : Bool} {m : Option C.Mode} {n : ℕ} {xs ys : List Line} → C.MaySkip → Alike C b m xs (block_lines C.after n) → Alike C b m xs (End (Jump n) ∷ ys)
  return_before : {b : Bool} {m : Option C.Mode} {l : ℕ} {xs ys : List Line} → C.MaySkip → Alike C b m xs ys → Alike C b m (Return l ∷ xs) ys
  return_after : {b : Bool} {m : Option C.Mode} {l : ℕ} {xs ys : List Line} → C.MaySkip → Alike C b m xs ys → Alike C b m xs (Return l ∷ ys)
  enter_before : {b : Bool} {m m' : Option C.Mode} {q : ℕ} {xs ys : List Line} → C.MaySkip → (p : Procedure) → slice_get C.before.procedures q ≡ Some p → ((r s : ℕ) → C.Matters (inside p xs) r → Stands C m' r s → is_register p.link r ≡ false → Stands C m r s) → (C.Sound → (r : ℕ) → C.Matters (inside p xs) r → is_register p.link r ≡ false) → Alike C b m' (inside p xs) ys → Alike C b m (Enter q ∷ xs) ys
  enter_after : {b : Bool} {m m' : Option C.Mode} {q : ℕ} {xs ys : List Line} → C.MaySkip → (p : Procedure) → slice_get C.after.procedures q ≡ Some p → ((r s : ℕ) → C.Matters xs r → Stands C m' r s → (is_register p.link s ≡ false) × Stands C m r s) → Alike C b m' xs (inside p ys) → Alike C b m xs (Enter q ∷ ys)
  dead_before : {b : Bool} {m : Option C.Mode} {n : ℕ} {word : Option ℕ} {insn : Insn} {xs ys : List Line} → C.MaySkip → sources_of insn ≡ [] → ((r : ℕ) → C.Matters xs r → is_written insn r ≡ false) → Alike C b m xs ys → Alike C b m (Do (Upper n word) insn ∷ xs) ys
  both_do : {b : Bool} {m m' : Option C.Mode} {half half' : AddressHalf} {xs ys : List Line} (insn : Insn) (d x y : ℕ) → IsNamedHalf C half half' insn → AreSources (Stands C m) (sources_of insn) (sources_of (with_registers d x y insn)) → ((r s : ℕ) → C.Matters xs r → Stands C m' r s → (is_register (destination_of (with_registers d x y insn)) s ≡ is_register (destination_of insn) r) × (is_register (destination_of insn) r ≡ false → Stands C m r s)) → Alike C true m' xs ys → Alike C b m (Do half insn ∷ xs) (Do half' (with_registers d x y insn) ∷ ys)
  both_enter : {b : Bool} {m m' : Option C.Mode} {q q' : ℕ} {xs ys : List Line} (p p' : Procedure) → slice_get C.before.procedures q ≡ Some p → slice_get C.after.procedures q' ≡ Some p' → ((r s : ℕ) → C.Matters (inside p xs) r → Stands C m' r s → (is_register p'.link s ≡ is_register p.link r) × (is_register p.link r ≡ false → Stands C m r s)) → Alike C true m' (inside p xs) (inside p' ys) → Alike C b m (Enter q ∷ xs) (Enter q' ∷ ys)
  both_return : {b : Bool} {m : Option C.Mode} {l l' : ℕ} {xs ys : List Line} → Alike C true m xs ys → Alike C b m (Return l ∷ xs) (Return l' ∷ ys)
  both_end : {b : Bool} {xs ys : List Line} (t : Term) (g : ℕ → ℕ) → MayGoTo C g t → (falls t ≡ true → Alike C true None xs ys) → (links t ≡ true → SameSlot C.MayHold (slot_name xs) (slot_name ys)) → Alike C b None (End t ∷ xs) (End (term_named g t) ∷ ys)
  both_turned : {b : Bool} {xs ys : List Line} (cond : Cond) (x y n n' : ℕ) → Alike C true None (block_lines C.before n) ys → Alike C true None xs (block_lines C.after n') → Alike C b None (End (Branch cond x y n) ∷ xs) (End (Branch (inverse_of cond) x y n') ∷ ys)
  both_hastened : {b : Bool} {xs ys : List Line} (link part n n' : ℕ) → C.MayGo n n' → (links (Call link n) ≡ true → SameSlot C.MayHold (slot_name xs) (slot_name ys)) → Alike C b None (End (PartJump link part n) ∷ xs) (End (Call link n') ∷ ys)
  both_jumped : {b : Bool} {xs ys : List Line} (part n n' : ℕ) → C.MayGo n n' → Alike C b None (End (PartJump 0 part n) ∷ xs) (End (Jump n') ∷ ys)

-- What has to hold besides: names to which both may go lead to places that go on alike, and values that may be held
-- for one another are code targets to which both may go.
pub record IsSteady (C : Change) : Type 0 where
  pub carrier : IsCarrier C.before C.Matters
  pub names : (n n' : ℕ) → C.MayGo n n' → Alike C false None (block_lines C.before n) (block_lines C.after n')
  pub values : (n n' : ℕ) → C.MayHold n n' → Contains (code_targets C.before) n × C.MayGo n n'
