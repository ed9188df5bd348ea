-- the symbols first, then what is outside text
use Rattle.std.proofs.Common.{◌≡◌, ℕ, List, [], ◌∷◌, Some, None, sym, ap, ◌∙◌}
use Rattle.std.specs.List.{find}
use Rattle.sq_num.specs.Refusals.{first_refusal}
use Rattle.sq_reloc.specs.Entries.{entries_of}
use Rattle.sq_reloc.specs.Tables.{is_bad_symbol}
use Rattle.sq_reloc.specs.Outside.{is_refused_outside}
use Rattle.sq_reloc.specs.Refusing.{entry_rows, symbol_refusal, outside_refusal, refused_outside}
use Rattle.sq_reloc.proofs.EntryRows.{entry_here, entry_later, found_first}
use Rattle.sq_reloc.proofs.refusing.entry_refusal.Goals as goal

pub returns-in-Some : goal.returns-in-Some
returns-in-Some c = λ bytes lacking refused.
    entry_here (entries_of bytes) (is_bad_symbol bytes) symbol_refusal (refused_outside bytes ∷ []) c.in-Some.entry
    (sym c.in-Some.is ∙ lacking ∙ found_first (is_bad_symbol bytes) (entries_of bytes))

behind_symbols : (bytes : List ℕ) → None ≡ find (is_bad_symbol bytes) (entries_of bytes) → first_refusal (refused_outside bytes ∷ []) ≡ first_refusal (entry_rows bytes)
behind_symbols bytes none =
    entry_later (entries_of bytes) (is_bad_symbol bytes) symbol_refusal (refused_outside bytes ∷ []) (none ∙ found_first (is_bad_symbol bytes) (entries_of bytes))

pub returns-in-Some-refused : goal.returns-in-Some-refused
returns-in-Some-refused c = λ bytes lacking refused.
    ap Some c.outside_refusal.ensures
    ∙ entry_here (entries_of bytes) (is_refused_outside bytes) outside_refusal [] c.in-Some-refused.entry (sym c.in-Some-refused.is ∙ refused ∙ found_first (is_refused_outside bytes) (entries_of bytes))
    ∙ behind_symbols bytes (sym c.in_default.is ∙ lacking)

pub returns-in-None : goal.returns-in-None
returns-in-None c = λ bytes lacking refused.
    entry_later (entries_of bytes) (is_refused_outside bytes) outside_refusal [] (sym c.in-None.is ∙ refused ∙ found_first (is_refused_outside bytes) (entries_of bytes))
    ∙ behind_symbols bytes (sym c.in_default.is ∙ lacking)
