-- What the entries of a file say they say without those of repeats.
use Rattle.std.proofs.Common.{◌≡◌, ℕ, ◌+◌, ◌*◌, Bool, true, false, ◌&&◌, ◌||◌, nat_eq, cond, List, [], ◌∷◌, Option, Some, None, refl, sym, ap, ◌∙◌, arith}
use Rattle.std.specs.Option.{is_some, option_map, option_map_or}
use Rattle.std.specs.List.{find, filter, list_any}
use Rattle.std.proofs.lemmas.Bool.Decides.{nat_tests}
use Rattle.std.specs.Ordering.{nat_cmp}
use Rattle.std.specs.BTreeMap as tree
use Rattle.sq_elf.specs.Text.{text_of}
use Rattle.sq_reloc.specs.declared.entry.Entry.{Entry}
use Rattle.sq_reloc.specs.declared.seen.First.{First}
use Rattle.sq_reloc.specs.declared.seen.Seen.{Seen}
use Rattle.sq_reloc.specs.declared.gathered.Gathered.{Gathered}
use Rattle.sq_reloc.specs.declared.words.Noted.{Noted}
use Rattle.sq_reloc.specs.Gathering.{IsGathered, IsNoted}
use Rattle.sq_reloc.specs.Kinds.{touches, touches_word}
use Rattle.sq_reloc.specs.Reading.{KeepsOutside}
use Rattle.sq_reloc.specs.Entries.{entries_of, target_of, first_target}
use Rattle.sq_reloc.specs.Repeats.{fresh_of}
use Rattle.sq_reloc.specs.Outside.{is_code_entry, makes_stale, is_stale_by, is_refused_outside}
use Rattle.sq_reloc.specs.Required.{is_upper, agrees}
use Rattle.sq_reloc.specs.Marks.{is_unsupported, is_disagreeing, is_lone_entry, differs, differ, entry_mark, touching}
use Rattle.sq_reloc.specs.Seen.{first_of, first_seen, seen_of, AreWordsBy}
use Rattle.sq_reloc.specs.Tables.{is_bad_symbol, is_stray}
use Rattle.sq_reloc.proofs.Alike.{AreAlike, Respects}
use Rattle.sq_reloc.proofs.Fresh.{fresh_found}

-- the entry at the place of another
abbrev moved : Entry → Entry → Entry
moved a b = record { section = b.section; number = b.number; offset = a.offset; kind = a.kind; symbol = a.symbol; value = a.value; addend = a.addend }

moved_alike : (bytes : List ℕ) (a b : Entry) → AreAlike bytes a b → moved a b ≡ b
moved_alike bytes a b like = rw (like.offset, like.kind, like.symbol, like.value, like.addend) refl

-- a test that doesn't look at the place
by_move : (bytes : List ℕ) (test : Entry → Bool) → ((a b : Entry) → test a ≡ test (moved a b)) → Respects bytes test
by_move bytes test same = λ a b like. same a b ∙ ap test (moved_alike bytes a b like)

symbol_respects : (bytes : List ℕ) → Respects bytes (is_bad_symbol bytes)
symbol_respects bytes = λ a b like. rw (like.symbols, like.symbol) refl

pub stray_respects : (bytes : List ℕ) → Respects bytes (is_stray bytes)
stray_respects bytes = by_move bytes (is_stray bytes) (λ a b. refl)

refused_respects : (bytes : List ℕ) → Respects bytes (is_refused_outside bytes)
refused_respects bytes = by_move bytes (is_refused_outside bytes) (λ a b. refl)

-- of lists
pub any_found : (test : Entry → Bool) (entries : List Entry) → list_any test entries ≡ is_some (find test entries)
any_found test [] = refl
any_found test (e ∷ others) = by_test (test e) (any_found test others)
  where
    by_test : (b : Bool) → list_any test others ≡ is_some (find test others) → (b || list_any test others) ≡ is_some (cond b (Some e) (find test others))
    by_test true rest = refl
    by_test false rest = rest

found_filtered : (chosen test : Entry → Bool) (entries : List Entry) → find test (filter chosen entries) ≡ find (λ e. chosen e && test e) entries
found_filtered chosen test [] = refl
found_filtered chosen test (e ∷ others) = by_tests (chosen e) (found_filtered chosen test others)
  where
    by_tests : (b : Bool) → find test (filter chosen others) ≡ find (λ x. chosen x && test x) others → find test (cond b (e ∷ filter chosen others) (filter chosen others)) ≡ cond (b && test e) (Some e) (find (λ x. chosen x && test x) others)
    by_tests true rest = ap (cond (test e) (Some e)) rest
    by_tests false rest = rest

any_filtered : (chosen test : Entry → Bool) (entries : List Entry) → list_any test (filter chosen entries) ≡ list_any (λ e. chosen e && test e) entries
any_filtered chosen test entries = any_found test (filter chosen entries) ∙ ap is_some (found_filtered chosen test entries) ∙ sym (any_found (λ e. chosen e && test e) entries)

itself : (e : Entry) → differs e e ≡ false
itself e =
    let kind : nat_eq e.kind e.kind ≡ true = grind (arith, nat_tests) in
    let target : nat_eq (target_of e) (target_of e) ≡ true = grind (arith, nat_tests) in
    rw (kind, target) refl

module _ (bytes : List ℕ) (address : ℕ) where
  abbrev here : Entry → Bool
  here e = touches_word e address

  abbrev first_by : Entry → First
  first_by e = first_of e (entry_mark bytes address e)

  first_found : (entries : List Entry) → first_seen bytes address (filter here entries) ≡ option_map first_by (find here entries)
  first_found [] = refl
  first_found (e ∷ others) = by_test (here e) (first_found others)
    where
      by_test : (b : Bool) → first_seen bytes address (filter here others) ≡ option_map first_by (find here others) → first_seen bytes address (cond b (e ∷ filter here others) (filter here others)) ≡ option_map first_by (cond b (Some e) (find here others))
      by_test true rest = refl
      by_test false rest = rest

  -- some entry here is unlike the one that was found
  abbrev unlike : Option Entry → List Entry → Bool
  unlike found entries = option_map_or (λ first. is_some (find (λ e. here e && differs first e) entries)) found false

  differ_found : (entries : List Entry) → differ (filter here entries) ≡ unlike (find here entries) entries
  differ_found [] = refl
  differ_found (e ∷ others) = by_test (here e) refl (differ_found others)
    where
      not_itself : (b : Bool) → (b && differs e e) ≡ false
      not_itself true = itself e
      not_itself false = refl

      passed : (first e : Entry) → here e ≡ false → find (λ x. here x && differs first x) (e ∷ others) ≡ find (λ x. here x && differs first x) others
      passed first e is = rw is refl

      skipped : (found : Option Entry) → here e ≡ false → unlike found others ≡ unlike found (e ∷ others)
      skipped None is = refl
      skipped (Some first) is = ap is_some (sym (passed first e is))

      by_test : (b : Bool) → here e ≡ b → differ (filter here others) ≡ unlike (find here others) others → differ (cond b (e ∷ filter here others) (filter here others)) ≡ unlike (cond b (Some e) (find here others)) (e ∷ others)
      by_test true is rest =
          any_filtered here (differs e) others ∙ any_found (λ x. here x && differs e x) others
          ∙ ap (λ b. is_some (cond b (Some e) (find (λ x. here x && differs e x) others))) (sym (not_itself (here e)))
      by_test false is rest = rest ∙ skipped (find here others) is

  respected : (test : Entry → Bool) → ((a b : Entry) → test a ≡ test (moved a b)) → find (λ e. here e && test e) (fresh_of bytes) ≡ find (λ e. here e && test e) (entries_of bytes)
  respected test same = fresh_found bytes (λ e. here e && test e) (by_move bytes (λ e. here e && test e) (λ a b. ap (λ c. here a && c) (same a b)))

  agrees_moved : (a b : Entry) → is_disagreeing bytes a ≡ is_disagreeing bytes (moved a b)
  unfolding agrees
  agrees_moved a b = refl

  here_same : find here (fresh_of bytes) ≡ find here (entries_of bytes)
  here_same = fresh_found bytes here (by_move bytes here (λ a b. refl))

  unlike_same : (found : Option Entry) → unlike found (fresh_of bytes) ≡ unlike found (entries_of bytes)
  unlike_same None = refl
  unlike_same (Some first) = ap is_some (respected (differs first) (λ a b. refl))

  faults_same : (test : Entry → Bool) → ((a b : Entry) → test a ≡ test (moved a b)) → find test (filter here (fresh_of bytes)) ≡ find test (filter here (entries_of bytes))
  faults_same test same = found_filtered here test (fresh_of bytes) ∙ respected test same ∙ sym (found_filtered here test (entries_of bytes))

  first_same : first_seen bytes address (filter here (fresh_of bytes)) ≡ first_seen bytes address (filter here (entries_of bytes))
  first_same = first_found (fresh_of bytes) ∙ ap (option_map first_by) here_same ∙ sym (first_found (entries_of bytes))

  differ_same : differ (filter here (fresh_of bytes)) ≡ differ (filter here (entries_of bytes))
  differ_same =
      differ_found (fresh_of bytes) ∙ ap (λ found. unlike found (fresh_of bytes)) here_same
      ∙ unlike_same (find here (entries_of bytes)) ∙ sym (differ_found (entries_of bytes))

  lone_same : list_any (is_lone_entry bytes) (filter here (fresh_of bytes)) ≡ list_any (is_lone_entry bytes) (filter here (entries_of bytes))
  lone_same = any_found (is_lone_entry bytes) (filter here (fresh_of bytes)) ∙ ap is_some (faults_same (is_lone_entry bytes) (λ a b. refl)) ∙ sym (any_found (is_lone_entry bytes) (filter here (entries_of bytes)))

  -- what the entries say of a word
  pub seen_same : seen_of bytes address (filter here (fresh_of bytes)) ≡ seen_of bytes address (touching bytes address)
  seen_same =
      rw (first_same, faults_same (is_unsupported (text_of bytes)) (λ a b. refl), faults_same (is_disagreeing bytes) agrees_moved, differ_same, lone_same) refl

-- what is kept of the words
pub words_same : (bytes : List ℕ) (words : List Seen) → AreWordsBy bytes words (λ address. filter (λ e. touches_word e address) (fresh_of bytes)) → AreWordsBy bytes words (touching bytes)
words_same bytes words are = record {
  count = are.count;
  each = λ place within. are.each place within ∙ seen_same bytes ((text_of bytes).lo + 4 * place);
}

-- what is kept of addresses
stale_same : (bytes : List ℕ) (address : ℕ) → is_stale_by (text_of bytes) (fresh_of bytes) address ≡ is_stale_by (text_of bytes) (entries_of bytes) address
stale_same bytes address =
    any_found (λ e. makes_stale (text_of bytes) e && touches e address) (fresh_of bytes)
    ∙ ap is_some (fresh_found bytes (λ e. makes_stale (text_of bytes) e && touches e address) (by_move bytes (λ e. makes_stale (text_of bytes) e && touches e address) (λ a b. refl)))
    ∙ sym (any_found (λ e. makes_stale (text_of bytes) e && touches e address) (entries_of bytes))

code_same : (bytes : List ℕ) (address : ℕ) → first_target (is_code_entry (text_of bytes)) (fresh_of bytes) address ≡ first_target (is_code_entry (text_of bytes)) (entries_of bytes) address
code_same bytes address =
    ap (option_map target_of) (fresh_found bytes (λ e. is_code_entry (text_of bytes) e && nat_eq e.offset address) (by_move bytes (λ e. is_code_entry (text_of bytes) e && nat_eq e.offset address) (λ a b. refl)))

upper_same : (bytes : List ℕ) (address : ℕ) → first_target is_upper (fresh_of bytes) address ≡ first_target is_upper (entries_of bytes) address
upper_same bytes address =
    ap (option_map target_of) (fresh_found bytes (λ e. is_upper e && nat_eq e.offset address) (by_move bytes (λ e. is_upper e && nat_eq e.offset address) (λ a b. refl)))

-- what is gathered without repeats holds of all
module _ (bytes : List ℕ) (gathered : Gathered) (is : IsGathered bytes gathered (fresh_of bytes)) where
  pub kept_outside : KeepsOutside bytes (text_of bytes) gathered.stale gathered.targets
  kept_outside = record {
    text_is = refl;
    stale_is = λ address. is.stale_is address ∙ stale_same bytes address;
    targets_are = λ address. is.targets_are address ∙ code_same bytes address;
  }

  pub uppers_all : (address : ℕ) → tree.get nat_cmp gathered.uppers address ≡ first_target is_upper (entries_of bytes) address
  uppers_all address = is.uppers_are address ∙ upper_same bytes address

  pub lacking_all : gathered.lacking ≡ find (is_bad_symbol bytes) (entries_of bytes)
  lacking_all = is.lacking_is ∙ fresh_found bytes (is_bad_symbol bytes) (symbol_respects bytes)

pub refused_all : (bytes : List ℕ) (noted : Noted) → IsNoted bytes noted (fresh_of bytes) → noted.refused ≡ find (is_refused_outside bytes) (entries_of bytes)
refused_all bytes noted is = is.refused_is ∙ fresh_found bytes (is_refused_outside bytes) (refused_respects bytes)
