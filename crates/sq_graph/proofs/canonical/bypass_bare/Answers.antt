use Rattle.std.proofs.Common.{◌∙◌, sym, ap, arith, length}
use Rattle.sq_graph.specs.Uses.{code_word_uses, items_uses}
use Rattle.sq_graph.specs.Renames.{retargeted_items, retargeted_words}
use Rattle.sq_graph.specs.CanonicalSlots.{aimed, start_of, full_slots}
use Rattle.sq_graph.proofs.Aiming.{terms_known, items_known, words_known, entry_known}
use Rattle.sq_graph.proofs.BareSlots.{aims_are, terms_are, distinct_aimed, distinct_passed, length_passed, known_aimed, starts_passed, own_starts, none_goes}
use Rattle.sq_graph.proofs.Restarting.{distinct-restarted}
use Rattle.sq_graph.proofs.Bypassing.{items_same, words_same}
use Rattle.sq_graph.proofs.canonical.bypass_bare.Goals as goal

pub returns-then-not-clear-clause-entries : goal.returns-then-not-clear-clause-entries
returns-then-not-clear-clause-entries c =
    c.clear.ensures.entries ∙ sym (none_goes c.args.slots.now.entries (sym c.clear.ensures.bare ∙ c.if-not-clear.true))

pub returns-then-not-clear-clause-items : goal.returns-then-not-clear-clause-items
returns-then-not-clear-clause-items c =
    sym (ap (λ h. retargeted_items h c.args.items.now.items) (own_starts c.args.slots.now.entries (sym c.clear.ensures.bare ∙ c.if-not-clear.true)) ∙ items_same c.args.items.now.items)

pub returns-then-not-clear-clause-words : goal.returns-then-not-clear-clause-words
returns-then-not-clear-clause-words c =
    sym (ap (λ h. retargeted_words h c.args.words.now.items) (own_starts c.args.slots.now.entries (sym c.clear.ensures.bare ∙ c.if-not-clear.true)) ∙ words_same c.args.words.now.items)

pub returns-then-not-clear-clause-entry : goal.returns-then-not-clear-clause-entry
returns-then-not-clear-clause-entry c =
    sym (ap (λ h. h c.args.entry.now) (own_starts c.args.slots.now.entries (sym c.clear.ensures.bare ∙ c.if-not-clear.true)))

pub aim-requires : goal.aim-requires
aim-requires c =
    rw c.clear.ensures.entries (distinct-restarted (λ name slot. 0) c.args.slots.now.entries c.requires.distinct)

pub retarget_terms-requires-clause-distinct : goal.retarget_terms-requires-clause-distinct
retarget_terms-requires-clause-distinct c =
    rw (aims_are c.args.slots.now.entries c.clear.new.slots.entries c.aim.new.slots.entries c.clear.ensures.entries c.aim.ensures.entries) (distinct_aimed c.args.slots.now.entries c.requires.distinct)

pub retarget_terms-requires-clause-known : goal.retarget_terms-requires-clause-known
retarget_terms-requires-clause-known c =
    rw (aims_are c.args.slots.now.entries c.clear.new.slots.entries c.aim.new.slots.entries c.clear.ensures.entries c.aim.ensures.entries) (terms_known (aimed c.args.slots.now.entries) c.args.entry.now c.args.words.now.items c.args.items.now.items (known_aimed c.args.slots.now.entries c.args.entry.now (code_word_uses c.args.words.now.items) (items_uses c.args.items.now.items) c.requires.known))

pub retarget_items-requires : goal.retarget_items-requires
retarget_items-requires c =
    rw (terms_are c.args.slots.now.entries c.clear.new.slots.entries c.aim.new.slots.entries c.retarget_terms.new.slots.entries c.clear.ensures.entries c.aim.ensures.entries c.retarget_terms.ensures.entries) (items_known (aimed c.args.slots.now.entries) c.args.entry.now c.args.words.now.items c.args.items.now.items (known_aimed c.args.slots.now.entries c.args.entry.now (code_word_uses c.args.words.now.items) (items_uses c.args.items.now.items) c.requires.known))

pub retarget_words-requires : goal.retarget_words-requires
retarget_words-requires c =
    rw (terms_are c.args.slots.now.entries c.clear.new.slots.entries c.aim.new.slots.entries c.retarget_terms.new.slots.entries c.clear.ensures.entries c.aim.ensures.entries c.retarget_terms.ensures.entries) (words_known (aimed c.args.slots.now.entries) c.args.entry.now c.args.words.now.items c.args.items.now.items (known_aimed c.args.slots.now.entries c.args.entry.now (code_word_uses c.args.words.now.items) (items_uses c.args.items.now.items) c.requires.known))

pub name-requires : goal.name-requires
name-requires c =
    rw (terms_are c.args.slots.now.entries c.clear.new.slots.entries c.aim.new.slots.entries c.retarget_terms.new.slots.entries c.clear.ensures.entries c.aim.ensures.entries c.retarget_terms.ensures.entries) (entry_known (aimed c.args.slots.now.entries) c.args.entry.now c.args.words.now.items c.args.items.now.items (known_aimed c.args.slots.now.entries c.args.entry.now (code_word_uses c.args.words.now.items) (items_uses c.args.items.now.items) c.requires.known))

pub unlink_bare-requires : goal.unlink_bare-requires
unlink_bare-requires c =
    rw (terms_are c.args.slots.now.entries c.clear.new.slots.entries c.aim.new.slots.entries c.retarget_terms.new.slots.entries c.clear.ensures.entries c.aim.ensures.entries c.retarget_terms.ensures.entries) (distinct_passed c.args.slots.now.entries c.requires.distinct)

pub returns-clause-entries : goal.returns-clause-entries
returns-clause-entries c =
    c.unlink_bare.ensures.entries
    ∙ ap full_slots (terms_are c.args.slots.now.entries c.clear.new.slots.entries c.aim.new.slots.entries c.retarget_terms.new.slots.entries c.clear.ensures.entries c.aim.ensures.entries c.retarget_terms.ensures.entries)

pub returns-clause-total : goal.returns-clause-total
returns-clause-total c =
    omega (arith, c.unlink_bare.ensures.total, ap (λ es. length es) (terms_are c.args.slots.now.entries c.clear.new.slots.entries c.aim.new.slots.entries c.retarget_terms.new.slots.entries c.clear.ensures.entries c.aim.ensures.entries c.retarget_terms.ensures.entries), length_passed c.args.slots.now.entries, c.retarget_terms.ensures.spare, c.aim.ensures.spare, c.clear.ensures.spare)

pub returns-clause-items : goal.returns-clause-items
returns-clause-items c =
    c.retarget_items.ensures.items ∙ ap (λ h. retargeted_items h c.args.items.now.items) (ap start_of (terms_are c.args.slots.now.entries c.clear.new.slots.entries c.aim.new.slots.entries c.retarget_terms.new.slots.entries c.clear.ensures.entries c.aim.ensures.entries c.retarget_terms.ensures.entries) ∙ starts_passed c.args.slots.now.entries)

pub returns-clause-words : goal.returns-clause-words
returns-clause-words c =
    c.retarget_words.ensures ∙ ap (λ h. retargeted_words h c.args.words.now.items) (ap start_of (terms_are c.args.slots.now.entries c.clear.new.slots.entries c.aim.new.slots.entries c.retarget_terms.new.slots.entries c.clear.ensures.entries c.aim.ensures.entries c.retarget_terms.ensures.entries) ∙ starts_passed c.args.slots.now.entries)

pub returns-clause-entry : goal.returns-clause-entry
returns-clause-entry c =
    c.name.ensures ∙ ap (λ h. h c.args.entry.now) (ap start_of (terms_are c.args.slots.now.entries c.clear.new.slots.entries c.aim.new.slots.entries c.retarget_terms.new.slots.entries c.clear.ensures.entries c.aim.ensures.entries c.retarget_terms.ensures.entries) ∙ starts_passed c.args.slots.now.entries)
