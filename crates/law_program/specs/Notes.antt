-- Noted procedures, and what is asked of each: its place in the note, its body, and that nothing leads into it but its
-- calls. That its link is dead behind each call is asked of the graph.
use Rattle.std.specs.Prelude.{ℕ, zero, suc, pos, ◌+◌, Bool, true, false, not, ◌==◌, ◌&&◌, ◌||◌, nat_lt, List, [], ◌∷◌, Option, Some, None, map, if◌then◌else◌}
use Rattle.std.specs.Ordering.{int_eq}
use Rattle.std.specs.List.{list_any}
use Rattle.sq_isa.specs.declared.instructions.Insn.{Insn}
use Rattle.sq_isa.specs.declared.instructions.Insn.TheVariants.{Jal, Jalr}
use Rattle.sq_reloc.specs.declared.mark.Mark.{Mark}
use Rattle.sq_reloc.specs.declared.mark.Mark.TheVariants.{Plain}
use Rattle.sq_graph.specs.Rules.{mentions}
use Rattle.law_program.specs.Programs.{Word, Text, Note, Program, word_at, is_word, insn_in, target_of}
use Rattle.law_program.specs.Reached.{jump_target, half_target, next_word}
use Rattle.law_program.specs.Readings.{Reading, IsItem, IsTerm, Links, reading_at}

-- the notes whose addresses are reached, by a test
abbrev pub used_notes : (ℕ → Bool) → List Note → List Note
used_notes is [] = []
used_notes is (note ∷ notes) = if is note.address then note ∷ used_notes is notes else used_notes is notes

-- x is the address of one of n words from `at` on
abbrev pub is_within : ℕ → ℕ → ℕ → Bool
is_within at zero x = false
is_within at (suc n) x = at == x || is_within (at + 4) n x

-- x is the address of a word of the procedure: of an item, or of the return behind them
abbrev pub is_in_procedure : Note → ℕ → Bool
is_in_procedure note x = is_within note.address (note.length + 1) x

abbrev pub is_in_procedures : List Note → ℕ → Bool
is_in_procedures notes x = list_any (λ note. is_in_procedure note x) notes

-- The place: the address is that of a word of text and above that of the note before, and the link is a register but x0
abbrev pub is_above : Option ℕ → ℕ → Bool
is_above None address = true
is_above (Some before) address = nat_lt before address

abbrev pub is_real_register : ℕ → Bool
is_real_register r = nat_lt 0 r && nat_lt r 32

abbrev pub is_in_order : Text → Option ℕ → Note → Bool
is_in_order t before note = is_word t note.address && is_above before note.address && is_real_register note.link

-- The body: at its address stand its items, none of which mentions the link, and behind them `jalr x0,0(link)`, with no
-- half of an address
abbrev pub is_item_without : ℕ → Option Reading → Bool
is_item_without link None = false
is_item_without link (Some (IsItem item)) = not (mentions item link)
is_item_without link (Some (IsTerm term)) = false
is_item_without link (Some (Links r to)) = false

abbrev pub returns_through : ℕ → Option Insn → Bool
returns_through link (Some (Jalr rd rs offset)) = rd == 0 && rs == link && int_eq offset (pos 0)
returns_through link other = false

abbrev pub is_plain : Mark → Bool
is_plain Plain = true
is_plain mark = false

abbrev pub is_return : ℕ → Option Word → Bool
is_return link None = false
is_return link (Some w) = is_plain w.mark && returns_through link (insn_in w)

abbrev pub has_body : Text → ℕ → ℕ → ℕ → Bool
has_body t link at zero = is_return link (word_at t at)
has_body t link at (suc n) = is_item_without link (reading_at t at) && has_body t link (at + 4) n

abbrev pub is_procedure : Text → Note → Bool
is_procedure t note = nat_lt 0 note.length && has_body t note.link note.address note.length

-- Its calls: nothing leads into the procedure but a `jal link` to its first word

-- the instruction is a `jal` with the link, and x is the procedure's first word
abbrev pub is_call : Note → Insn → ℕ → Bool
is_call note (Jal rd offset) x = rd == note.link && x == note.address
is_call note insn x = false

-- a reached word outside the procedure leads to a word of it, by its next word or as a target, other than as a call
abbrev pub enters_from_outside : Note → ℕ → Insn → Bool
enters_from_outside note at insn =
    not (is_in_procedure note at)
    && (list_any (is_in_procedure note) (next_word at insn)
    || list_any (λ x. is_in_procedure note x && not (is_call note insn x)) (jump_target at insn))

-- an instruction with this mark enters: its half is that of a word of the procedure, or it leads in from outside
abbrev pub insn_enters : Note → ℕ → Mark → Insn → Bool
insn_enters note at mark insn =
    list_any (is_in_procedure note) (half_target mark) || enters_from_outside note at insn

abbrev pub marked_enters : Note → ℕ → Mark → Option Insn → Bool
marked_enters note at mark None = false
marked_enters note at mark (Some insn) = insn_enters note at mark insn

-- some reached word of these, which stand from `at` on
abbrev pub words_enter : (ℕ → Bool) → Note → ℕ → List Word → Bool
words_enter is note at [] = false
words_enter is note at (w ∷ words) =
    is at && marked_enters note at w.mark (insn_in w) || words_enter is note (at + 4) words

abbrev pub is_entered : (ℕ → Bool) → Program → Note → Bool
is_entered is p note =
    is_in_procedure note p.entry
    || list_any (is_in_procedure note) (map target_of p.code_words)
    || words_enter is note p.text.lo p.text.words

-- what is asked of a note: the first of these always, the others where its address is reached
abbrev pub is_good_note : (ℕ → Bool) → Program → Option ℕ → Note → Bool
is_good_note is p before note =
    is_in_order p.text before note
    && (not (is note.address) || is_procedure p.text note && not (is_entered is p note))

-- the number of the first of these notes, counted from `number` on, that is not so
abbrev pub bad_note_from : (ℕ → Bool) → Program → Option ℕ → ℕ → List Note → Option ℕ
bad_note_from is p before number [] = None
bad_note_from is p before number (note ∷ notes) =
    if is_good_note is p before note then bad_note_from is p (Some note.address) (number + 1) notes else Some number

-- counted from 1
abbrev pub bad_note : (ℕ → Bool) → Program → Option ℕ
bad_note is p = bad_note_from is p None 1 p.notes
