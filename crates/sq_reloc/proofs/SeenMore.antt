-- What the entries say of a word, with one entry more.
use Rattle.std.proofs.Common.{◌≡◌, ℕ, Bool, true, false, ◌||◌, cond, if◌then◌else◌, List, [], ◌∷◌, ◌++◌, Option, Some, None, refl, sym, ap, ◌∙◌}
use Rattle.std.specs.Option.{option_map, option_map_or, option_or}
use Rattle.std.specs.List.{list_any, find, filter}
use Rattle.std.proofs.lemmas.List.Folds.{find-append, list_any-append}
use Rattle.std.proofs.Math.Bool.{or-false}
use Rattle.sq_elf.specs.Text.{text_of}
use Rattle.sq_reloc.specs.declared.entry.Entry.{Entry}
use Rattle.sq_reloc.specs.declared.mark.Mark.{Mark}
use Rattle.sq_reloc.specs.declared.mark.Mark.TheVariants.{Plain, Unsupported, Disagrees}
use Rattle.sq_reloc.specs.declared.seen.Seen.{Seen}
use Rattle.sq_reloc.specs.Kinds.{touches_word}
use Rattle.sq_reloc.specs.Marks.{is_unsupported, is_disagreeing, is_lone_entry, differs, differ, entry_mark, first_mark, faulty, mark_by}
use Rattle.sq_reloc.specs.Seen.{verdict_of, mark_at, first_of, first_seen, seen_of, is_unlike, kind_if, seen_with, mark_seen}

-- the type of the first at fault
kind_or : (found last : Option Entry) → option_map (λ e. e.kind) (option_or found last) ≡ option_or (option_map (λ e. e.kind) found) (option_map (λ e. e.kind) last)
kind_or None last = refl
kind_or (Some e) last = refl

kind_of_one : (test : Bool) (e : Entry) → option_map (λ x. x.kind) (cond test (Some e) None) ≡ kind_if test e.kind
kind_of_one true e = refl
kind_of_one false e = refl

-- the first that passes
pub found_more : (test : Entry → Bool) (entries : List Entry) (e : Entry) → find test (entries ++ e ∷ []) ≡ option_or (find test entries) (if test e then Some e else None)
found_more test entries e = find-append test entries (e ∷ [])

fault_more : (test : Entry → Bool) (entries : List Entry) (e : Entry) → option_map (λ x. x.kind) (find test (entries ++ e ∷ [])) ≡ option_or (option_map (λ x. x.kind) (find test entries)) (kind_if (test e) e.kind)
fault_more test entries e =
    ap (option_map (λ x. x.kind)) (find-append test entries (e ∷ []))
    ∙ kind_or (find test entries) (cond (test e) (Some e) None)
    ∙ ap (option_or (option_map (λ x. x.kind) (find test entries))) (kind_of_one (test e) e)

pub any_more : (test : Entry → Bool) (entries : List Entry) (e : Entry) → list_any test (entries ++ e ∷ []) ≡ (list_any test entries || test e)
any_more test entries e = list_any-append test entries (e ∷ []) ∙ ap (λ b. list_any test entries || b) (or-false (test e))

first_more : (bytes : List ℕ) (address : ℕ) (entries : List Entry) (e : Entry) → first_seen bytes address (entries ++ e ∷ []) ≡ option_or (first_seen bytes address entries) (Some (first_of e (entry_mark bytes address e)))
first_more bytes address [] e = refl
first_more bytes address (x ∷ xs) e = refl

differ_more : (bytes : List ℕ) (address : ℕ) (entries : List Entry) (e : Entry) → differ (entries ++ e ∷ []) ≡ (differ entries || is_unlike (first_seen bytes address entries) e)
differ_more bytes address [] e = refl
differ_more bytes address (x ∷ xs) e = any_more (differs x) xs e

seen_more : (bytes : List ℕ) (address : ℕ) (entries : List Entry) (e : Entry) → seen_of bytes address (entries ++ e ∷ []) ≡ seen_with (seen_of bytes address entries) e (verdict_of bytes e) (entry_mark bytes address e)
seen_more bytes address entries e =
    rw (first_more bytes address entries e, fault_more (is_unsupported (text_of bytes)) entries e, fault_more (is_disagreeing bytes) entries e, differ_more bytes address entries e, any_more (is_lone_entry bytes) entries e) refl

-- of those entries that touch a word
module _ (bytes : List ℕ) (address : ℕ) where
  abbrev meeting : List Entry → List Entry
  meeting entries = filter (λ e. touches_word e address) entries

  one_met : (test : Bool) (e : Entry) → touches_word e address ≡ test → meeting (e ∷ []) ≡ (if test then e ∷ [] else [])
  one_met test e is = rw is refl

  meeting_push : (entries : List Entry) (e : Entry) → meeting (entries ++ e ∷ []) ≡ meeting entries ++ meeting (e ∷ [])
  meeting_push [] e = refl
  meeting_push (x ∷ xs) e = by_test (touches_word x address) (meeting_push xs e)
    where
      by_test : (test : Bool) → meeting (xs ++ e ∷ []) ≡ meeting xs ++ meeting (e ∷ []) → cond test (x ∷ meeting (xs ++ e ∷ [])) (meeting (xs ++ e ∷ [])) ≡ cond test (x ∷ meeting xs) (meeting xs) ++ meeting (e ∷ [])
      by_test true rest = ap (λ list. x ∷ list) rest
      by_test false rest = rest

  none_behind : (entries : List Entry) → entries ++ [] ≡ entries
  none_behind [] = refl
  none_behind (x ∷ xs) = ap (λ list. x ∷ list) (none_behind xs)

  module _ (entries : List Entry) (this : Entry) (old new : Seen) (before : old ≡ seen_of bytes address (meeting entries)) where
    noted_by : (test : Bool) → touches_word this address ≡ test → new ≡ (if test then seen_with old this (verdict_of bytes this) (mark_at this (verdict_of bytes this) address) else old) → new ≡ seen_of bytes address (meeting (entries ++ this ∷ []))
    noted_by true is added =
        let all : meeting (entries ++ this ∷ []) ≡ meeting entries ++ this ∷ [] = meeting_push entries this ∙ ap (λ list. meeting entries ++ list) (one_met true this is) in
        added ∙ ap (λ seen. seen_with seen this (verdict_of bytes this) (entry_mark bytes address this)) before
        ∙ sym (seen_more bytes address (meeting entries) this) ∙ ap (seen_of bytes address) (sym all)
    noted_by false is kept =
        let all : meeting (entries ++ this ∷ []) ≡ meeting entries =
        meeting_push entries this ∙ ap (λ list. meeting entries ++ list) (one_met false this is) ∙ none_behind (meeting entries) in
        kept ∙ before ∙ ap (seen_of bytes address) (sym all)

    pub noted : new ≡ (if touches_word this address then seen_with old this (verdict_of bytes this) (mark_at this (verdict_of bytes this) address) else old) → new ≡ seen_of bytes address (meeting (entries ++ this ∷ []))
    noted is = noted_by (touches_word this address) refl is

-- the mark that is read off
faulty_is : (fault : ℕ → Mark) (found : Option Entry) (later : Mark) → option_map_or fault (option_map (λ e. e.kind) found) later ≡ faulty fault found later
faulty_is fault None later = refl
faulty_is fault (Some e) later = refl

first_is : (bytes : List ℕ) (address : ℕ) (entries : List Entry) → option_map_or (λ first. first.mark) (first_seen bytes address entries) Plain ≡ first_mark bytes address entries
first_is bytes address [] = refl
first_is bytes address (e ∷ others) = refl

pub seen_mark : (bytes : List ℕ) (address : ℕ) (entries : List Entry) → mark_seen (seen_of bytes address entries) ≡ mark_by bytes address entries
seen_mark bytes address entries =
    rw (faulty_is Unsupported (find (is_unsupported (text_of bytes)) entries), faulty_is Disagrees (find (is_disagreeing bytes) entries), first_is bytes address entries) refl
