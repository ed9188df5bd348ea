-- What the entries say of a word, kept entry by entry.
use Rattle.std.specs.Prelude.{◌≡◌, ◌<◌, ℕ, ◌+◌, ◌-◌, ◌*◌, ◌/◌, Bool, false, not, ◌||◌, nat_eq, if◌then◌else◌, List, [], ◌∷◌, length, slice_index_or, Option, Some, None}
use Rattle.std.specs.Option.{option_map, option_map_or, option_or}
use Rattle.std.specs.List.{list_any, find}
use Rattle.sq_elf.specs.Text.{text_of}
use Rattle.sq_reloc.specs.declared.entry.Entry.{Entry}
use Rattle.sq_reloc.specs.declared.mark.Mark.{Mark}
use Rattle.sq_reloc.specs.declared.mark.Mark.TheVariants.{Plain, Unsupported, Disagrees, Conflict, Lone}
use Rattle.sq_reloc.specs.declared.verdict.Verdict.{Verdict}
use Rattle.sq_reloc.specs.declared.seen.First.{First}
use Rattle.sq_reloc.specs.declared.seen.Seen.{Seen}
use Rattle.sq_reloc.specs.Entries.{target_of}
use Rattle.sq_reloc.specs.Required.{upper_target}
use Rattle.sq_reloc.specs.Marks.{is_unsupported, is_disagreeing, is_lone_entry, differ, mark_here, mark_behind, entry_mark}

-- what an entry says of the words that it touches
abbrev pub verdict_of : List ℕ → Entry → Verdict
verdict_of bytes e = record {
  unsupported = is_unsupported (text_of bytes) e;
  disagrees = is_disagreeing bytes e;
  lone = is_lone_entry bytes e;
  here = mark_here (text_of bytes) (upper_target bytes e) e;
  behind = mark_behind bytes e;
}

-- the mark that it gives to the word at an address
abbrev pub mark_at : Entry → Verdict → ℕ → Mark
mark_at e verdict address = if nat_eq address e.offset then verdict.here else verdict.behind

-- the first entry of a word, with the mark that it gives
abbrev pub first_of : Entry → Mark → First
first_of e mark = record { kind = e.kind; target = target_of e; mark = mark }

abbrev pub first_seen : List ℕ → ℕ → List Entry → Option First
first_seen bytes address [] = None
first_seen bytes address (e ∷ others) = Some (first_of e (entry_mark bytes address e))

-- what entries say of the word at an address
abbrev pub seen_of : List ℕ → ℕ → List Entry → Seen
seen_of bytes address entries = record {
  first = first_seen bytes address entries;
  unsupported = option_map (λ e. e.kind) (find (is_unsupported (text_of bytes)) entries);
  disagrees = option_map (λ e. e.kind) (find (is_disagreeing bytes) entries);
  differs = differ entries;
  lone = list_any (is_lone_entry bytes) entries;
}

-- the entry is not like the first
abbrev pub is_unlike : Option First → Entry → Bool
is_unlike None e = false
is_unlike (Some first) e = not (nat_eq first.kind e.kind) || not (nat_eq first.target (target_of e))

abbrev pub kind_if : Bool → ℕ → Option ℕ
kind_if test kind = if test then Some kind else None

-- with one entry more
abbrev pub seen_with : Seen → Entry → Verdict → Mark → Seen
seen_with seen e verdict mark = record {
  first = option_or seen.first (Some (first_of e mark));
  unsupported = option_or seen.unsupported (kind_if verdict.unsupported e.kind);
  disagrees = option_or seen.disagrees (kind_if verdict.disagrees e.kind);
  differs = seen.differs || is_unlike seen.first e;
  lone = seen.lone || verdict.lone;
}

-- no entry yet
abbrev pub nothing_seen : Seen
nothing_seen = record { first = None; unsupported = None; disagrees = None; differs = false; lone = false }

-- the mark of the word
abbrev pub mark_seen : Seen → Mark
mark_seen seen =
    option_map_or Unsupported seen.unsupported
    (option_map_or Disagrees seen.disagrees
    (if seen.differs then Conflict else if seen.lone then Lone else option_map_or (λ first. first.mark) seen.first Plain))

abbrev pub nth_seen : List Seen → ℕ → Seen
nth_seen words place = slice_index_or words place nothing_seen

-- how many words of text there are
abbrev pub word_count : List ℕ → ℕ
word_count bytes = ((text_of bytes).hi - (text_of bytes).lo) / 4

-- these are the words of text, with what these entries say of each
pub record AreWordsBy (bytes : List ℕ) (words : List Seen) (entries : ℕ → List Entry) : Type 0 where
  pub count : length words ≡ word_count bytes
  pub each : (place : ℕ) → place < length words → nth_seen words place ≡ seen_of bytes ((text_of bytes).lo + 4 * place) (entries ((text_of bytes).lo + 4 * place))
