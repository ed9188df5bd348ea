-- Where the monitored program and its graph stand alike.
use Rattle.std.proofs.Common.{MatchBool, ◌≡◌, ◌≢◌, ℕ, ◌+◌, ◌^◌, ◌<◌, Bool, true, false, not, List, [], ◌∷◌, ◌++◌, Option, Some, None, map, slice_get, if◌then◌else◌, pos, arith}
use Rattle.std.specs.List.{Contains}
use Rattle.sq_num.specs.Halves.{high_half}
use Rattle.sq_isa.specs.Words.{upper_word}
use Rattle.sq_isa.specs.declared.instructions.Insn.TheVariants.{Jalr}
use Rattle.sq_reloc.specs.declared.mark.Mark.TheVariants.{Plain as PlainMark}
use Rattle.sq_graph.specs.declared.item.Item.{Item}
use Rattle.sq_graph.specs.declared.item.Term.{Term}
use Rattle.sq_graph.specs.declared.item.Term.TheVariants.{Fall, Jump, Branch, Call, PartJump, Indirect, Stop}
use Rattle.sq_graph.specs.Graph.{Procedure, Graph}
use Rattle.sq_graph.specs.Terms.{goes_on, links}
use Rattle.sq_graph.specs.Lines.{Plain, Upper, Lower, Line, Name, Do, Enter, Return, End, line_of, has_name, lines_of, inside}
use Rattle.sq_graph.specs.Walks.{IsLive, code_targets, line_writes}
use Rattle.law_follow.specs.Values.{Code, Part, Value, Num, Tagged, Held, Holds}
use Rattle.law_follow.specs.Settings.{Setting}
use Rattle.law_follow.specs.GraphRuns.{Core, State, At, Fetching, is_lost}
use Rattle.law_patch.specs.Agreement.{Ties, SameCore, IsTied}
use Rattle.law_patch.specs.LiveAgreement.{everywhere, StandsLive}
use Rattle.law_program.specs.Programs.{Word, Text, Note, word_at, is_in_text, insn_in}
use Rattle.law_program.specs.Readings.{Reading, IsItem, IsTerm, Links, reading_of}
use Rattle.law_program.specs.Lifted.{Form, ItemForm, TermForm, form_of, procedure_at}
use Rattle.law_program.specs.Monitored.{Watched}

-- the name stands among the lines
abbrev pub HasName : ℕ → List Line → Type 0
HasName n [] = ⊥
HasName n (line ∷ lines) = MatchBool (has_name n line) (Unit {0}) (HasName n lines)

-- the line of a form
abbrev pub form_line : Form → Line
form_line (ItemForm item) = line_of item
form_line (TermForm term) = End term

-- nothing goes on to what stands behind the line
abbrev pub closes : Line → Bool
closes (Name n) = false
closes (Do half insn) = false
closes (Enter procedure) = false
closes (Return link) = false
closes (End term) = not (goes_on term)

-- where the next word of a line stands, if it goes on
abbrev pub onward : Line → ℕ → Option ℕ
onward line at = if closes line then None else Some (at + 4)

abbrev pub IsAt : Option ℕ → ℕ → Type 0
IsAt None at = Unit {0}
IsAt (Some x) at = x ≡ at

-- an upper half on a file stands for one in the graph, or for the number of its `lui`
abbrev pub PartStands : Bool → ℕ → Value → Type 0
PartStands true to value = value ≡ Tagged (Part to None)
PartStands false to value = value ≡ Num (upper_word (high_half to))

module _ (t : Text) (notes : List Note) (g : Graph) where
  abbrev pub IsNamed : ℕ → Type 0
  IsNamed n = HasName n (lines_of g.blocks)

  abbrev pub IsTarget : ℕ → Type 0
  IsTarget n = Contains (code_targets g) n

  -- an address of code is that of a block that is a code target
  abbrev pub ties : Ties
  ties = record {
    code = λ n m. (m ≡ n) × IsNamed n × IsTarget n;
    part = λ to word value. PartStands (is_in_text t to) to value;
  }

  -- behind a link stands the name of a code target
  abbrev pub SlotIf : Bool → List Line → Type 0
  SlotIf false rest = Unit {0}
  SlotIf true rest = (m : ℕ) × (ys : List Line) × (rest ≡ Name m ∷ ys) × IsTarget m

  abbrev pub GoodTerm : Term → List Line → Type 0
  GoodTerm Fall rest = ⊥
  GoodTerm (Jump to) rest = IsNamed to
  GoodTerm (Branch cond a b to) rest = IsNamed to
  GoodTerm (Call link to) rest = IsNamed to × SlotIf (links (Call link to)) rest
  GoodTerm (PartJump link part to) rest = IsNamed to × SlotIf (links (PartJump link part to)) rest
  GoodTerm (Indirect link at offset) rest = SlotIf (links (Indirect link at offset)) rest
  GoodTerm (Stop word) rest = Unit {0}

  -- what a line of a block names is there, and behind an Out its procedure's link is dead
  abbrev pub GoodLine : Line → List Line → Type 0
  GoodLine (Name n) rest = ⊥
  GoodLine (Do Plain insn) rest = Unit {0}
  GoodLine (Do (Upper n word) insn) rest = Unit {0}
  GoodLine (Do (Lower n) insn) rest = IsNamed n × IsTarget n
  GoodLine (Enter procedure) rest =
      (p : Procedure) × (slice_get g.procedures procedure ≡ Some p) × ¬ IsLive g p.link (inside p rest)
  GoodLine (Return link) rest = ⊥
  GoodLine (End term) rest = GoodTerm term rest

  -- the words of a body, and of the return behind it
  abbrev pub BodyReads : ℕ → ℕ → List Item → Type 0
  BodyReads at link [] =
      (w : Word) × (word_at t at ≡ Some w) × (w.mark ≡ PlainMark) × (insn_in w ≡ Some (Jalr 0 link (pos 0)))
  BodyReads at link (item ∷ items) =
      ((w : Word) × (word_at t at ≡ Some w) × (reading_of t at w ≡ Some (IsItem item)) × GoodLine (line_of item) [] × (line_writes g.procedures (line_of item) link ≡ false))
      × BodyReads (at + 4) link items

  -- a procedure that stands at an address
  pub record ProcedureReads (at link : ℕ) (p : Procedure) : Type 0 where
    pub body : BodyReads at p.link p.body
    pub link_is : link ≡ p.link
    pub real : p.link ≢ 0

  -- a `jal` to a noted address is a call of the procedure that stands there
  abbrev pub IsDoor : Reading → Type 0
  IsDoor (IsItem item) = Unit {0}
  IsDoor (IsTerm term) = Unit {0}
  IsDoor (Links link to) =
      (number : ℕ) (p : Procedure) → procedure_at notes to ≡ Some number → slice_get g.procedures number ≡ Some p → ProcedureReads to link p

  -- from the place on, each line is the reading of its word
  pub data Lifts : Option ℕ → List Line → Type 0 where
    lift_end : Lifts None []
    lift_name : {o : Option ℕ} {n : ℕ} {xs : List Line} → IsAt o n → IsNamed n → Lifts (Some n) xs → Lifts o (Name n ∷ xs)
    lift_line : {o : Option ℕ} (at : ℕ) {l : Line} {xs : List Line} (w : Word) (r : Reading) → o ≡ Some at → word_at t at ≡ Some w → reading_of t at w ≡ Some r → l ≡ form_line (form_of notes r) → IsDoor r → GoodLine l xs → Lifts (onward l at) xs → Lifts o (l ∷ xs)

  -- where the program is, in the lines
  pub data Place : ℕ → (ℕ → Held) → List Line → Type 0 where
    out : {at : ℕ} {registers : ℕ → Held} {xs : List Line} → Lifts (Some at) xs → Place at registers xs
    within : {at : ℕ} {registers : ℕ → Held} (link : ℕ) (items : List Item) (xs : List Line) (back : ℕ) → BodyReads at link items → link ≢ 0 → registers link ≡ Holds (Tagged (Code back)) → Lifts (Some back) xs → Place at registers (map line_of items ++ (Return link ∷ xs))

  abbrev pub NeverLost : (ℕ → Held) → Type 0
  NeverLost registers = (r : ℕ) → is_lost (registers r) ≡ false

  abbrev pub Same : List Line → Core → Core → Type 0
  Same xs a b = SameCore everywhere ties (StandsLive g xs) a b

  abbrev pub IsLiftOf : Watched → State → Type 0
  IsLiftOf a (At xs core) = Place a.pc a.core.registers xs × NeverLost a.core.registers × Same xs a.core core
  IsLiftOf a (Fetching x) = (a.pc ≡ x) × (word_at t x ≡ None)

part_small : (b : Bool) (n x : ℕ) → PartStands b n (Num x) → x < 2 ^ 32
part_small true n x h = absurd (let e : Num x ≡ Tagged (Part n None) = h in cc)
part_small false n x h = let e : x ≡ upper_word (high_half n) = let f : Num x ≡ Num (upper_word (high_half n)) = h in cc in rw e (omega arith)

pub tied : (t : Text) (notes : List Note) (g : Graph) (s : Setting) → IsTied everywhere (ties t notes g) s
tied t notes g s = record {
  numbers = λ n word x h. part_small (is_in_text t n) n x h;
  outside = λ x n h i l. tt;
}
