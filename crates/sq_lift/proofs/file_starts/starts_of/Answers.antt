use Rattle.std.proofs.Common.{◌≡◌, ℕ, List, nat_eq, ap, ◌∙◌, subst}
use Rattle.std.specs.Map.{lookup}
use Rattle.sq_reloc.specs.CodeWords.{AreCodeWords}
use Rattle.sq_graph.specs.Slotted.{number_in}
use Rattle.law_program.specs.Notes.{used_notes}
use Rattle.sq_lift.specs.Flags.{is_flagged}
use Rattle.sq_lift.proofs.FileStarts.{starts_are}
use Rattle.sq_lift.proofs.file_starts.starts_of.Goals as goal

pub returns : goal.returns
returns c =
    let listed = subst (λ (bytes : List ℕ). AreCodeWords bytes c.code_words.result.now) c.requires.same c.code_words.ensures.value in
    let used = c.in_ok-procedures.ensures ∙ ap (used_notes (is_flagged c.args.noted.program.reached)) c.deref.ensures.value in
    let slots : (x : ℕ) → lookup (nat_eq x) c.in_ok-positions.positions ≡ number_in c.in_ok-frame.frame.starts.items 0 x = λ x. c.in_ok-positions.ensures x ∙ ap (λ begins. number_in begins 0 x) c.deref-2.ensures.value in
    starts_are c.args.elf.now c.args.noted.program.text c.args.noted.program.reached c.args.noted.notes.items c.code_words.result.now c.entry.result c.requires.noted listed c.entry.ensures c.in_ok-procedures.procedures c.in_ok-frame.frame.inside c.in_ok-frame.frame.leaders c.in_ok-frame.frame.starts.items c.in_ok-positions.positions used c.in_ok-frame.ensures.inside c.in_ok-frame.ensures.leaders c.in_ok-frame.ensures.starts slots
