-- Prints of items: numbers that are equal for items that match.
use Rattle.std.specs.Prelude.{ℕ, ◌+◌, ◌*◌, ◌/◌, ◌%◌, ◌^◌, bit_xor, ◌==◌, ◌||◌, Bool, if◌then◌else◌, List, [], ◌∷◌, Option, None, Some, unwrap_or}
use Rattle.sq_isa.specs.Encoding.{word_of}
use Rattle.sq_graph.specs.declared.item.Item.{Item}
use Rattle.sq_graph.specs.declared.item.Item.TheVariants.{Op, Hi, Lo, Out}
use Rattle.sq_graph.specs.Matches.{item_registers, item_reads}
use Rattle.sq_rename.specs.Pairs.{padded}
use Rattle.sq_rename.specs.Shapes.{shape_of}

-- the number of an item: of an instruction its word, and else the block or the procedure that it names
abbrev pub item_number : Item → ℕ
item_number (Op insn) = word_of insn
item_number (Hi rd to) = 2 ^ 32 + to
item_number (Lo rd rs to) = 2 ^ 33 + to
item_number (Out procedure) = 3 * 2 ^ 32 + procedure

-- a print with one number more
abbrev pub mixed : ℕ → ℕ → ℕ
mixed print number =
    let product = (print + number) * 11400714819323198485 % 2 ^ 64 in
    bit_xor product (product / 2 ^ 32)

-- a walk over items: the print so far, and the codes of the registers that have been met
pub record Walked : Type 0 where
  pub print : ℕ
  pub codes : ℕ → Option ℕ

-- the code of a register: where it is met first its number if it is kept, and else another
abbrev pub code_of : Walked → (ℕ → Bool) → ℕ → ℕ → ℕ
code_of walk kept other r = unwrap_or (walk.codes r) (if kept r then r else other)

abbrev pub met : Walked → (ℕ → Bool) → ℕ → ℕ → Walked
met walk kept other r =
    record {
      print = mixed walk.print (code_of walk kept other r);
      codes = λ q. if r == q then Some (code_of walk kept other r) else walk.codes q;
    }

abbrev pub met_all : Walked → (ℕ → Bool) → ℕ → List ℕ → Walked
met_all walk kept other [] = walk
met_all walk kept other (r ∷ rs) = met_all (met walk kept other r) kept other rs

-- those registers are kept that are read by the item in which they are met first
abbrev pub met_item : Walked → (ℕ → Bool) → ℕ → Item → Walked
met_item walk keeps other item =
    met_all (record { print = mixed walk.print (item_number (shape_of item)); codes = walk.codes }) (λ r. keeps r || item_reads item r) other (padded 5 (item_registers item))

abbrev pub walked : Walked → (ℕ → Bool) → ℕ → List Item → Walked
walked walk keeps other [] = walk
walked walk keeps other (item ∷ items) = walked (met_item walk keeps other item) keeps (other + 1) items

-- x0 has been met
abbrev pub started : ℕ → Walked
started print = record { print = print; codes = λ r. if 0 == r then Some 0 else None }

-- the print of items behind what has this print, where these registers are kept. The others' codes are no registers
abbrev pub print_from : ℕ → (ℕ → Bool) → List Item → ℕ
print_from print keeps items = (walked (started print) keeps 32 items).print
