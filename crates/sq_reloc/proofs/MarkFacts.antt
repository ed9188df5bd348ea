-- The instruction at a word of text is one at which its mark can stand.
use Rattle.std.proofs.Common.{◌≡◌, ◌≢◌, inl, inr, ℕ, ◌+◌, ◌%◌, ◌^◌, ◌<◌, ◌≤◌, Bool, true, false, not, ◌&&◌, ◌||◌, nat_eq, nat_lt, nat_le, cond, if◌then◌else◌, List, [], ◌∷◌, Option, Some, None, refl, sym, subst, ap, ◌∙◌, arith}
use Rattle.std.specs.Option.{option_map, option_map_or}
use Rattle.std.specs.List.{find, filter, list_any}
use Rattle.std.proofs.lemmas.Bool.{cases_eq, not-false, and_parts, or_parts, or_cases}
use Rattle.std.proofs.lemmas.Bool.Decides.{nat_tests}
use Rattle.sq_num.specs.Halves.{high_half, low_half}
use Rattle.sq_isa.specs.declared.instructions.Insn.{Insn}
use Rattle.sq_elf.specs.Text.{text_of, is_in_text}
use Rattle.sq_elf.proofs.TextFacts.{second_false}
use Rattle.sq_reloc.specs.declared.entry.Entry.{Entry}
use Rattle.sq_reloc.specs.declared.mark.Mark.{Mark}
use Rattle.sq_reloc.specs.declared.mark.Mark.TheVariants.{Plain, Hi, Lo, Unsupported, Disagrees, Conflict, Lone}
use Rattle.sq_reloc.specs.Kinds.{is_call, is_text_kind, width_of, touches_word}
use Rattle.sq_reloc.specs.Entries.{target_of, entries_of}
use Rattle.sq_reloc.specs.Required.{insn_at, distance, is_lui, is_auipc, has_low_i, has_low_s, is_upper_half, upper_target, paired_target, paired_half, meets_ask, meets_low_i, meets_low_s, loads_upper, takes_low, next_of, has_pair, has_call_of_none, agrees}
use Rattle.sq_reloc.specs.Marks.{is_unsupported, is_disagreeing, is_lone_entry, differ, paired_mark, mark_here, mark_behind, entry_mark, first_mark, faulty, mark_by, touching, mark_of, IsMarked}
use Rattle.sq_reloc.proofs.MarkedInsns.{lui_loads, auipc_loads, low_i_takes, low_s_takes, pair_loads, pair_takes, none_loads}

in_text_marked : (insn : Option Insn) (test : Bool) (mark : Mark) → IsMarked insn mark → IsMarked insn (if test then mark else Plain)
in_text_marked insn true mark marked = marked
in_text_marked insn false mark marked = tt

-- the rows of the two tables, by the type
module _ (bytes : List ℕ) (upper : Option ℕ) (e : Entry) where
  abbrev here : Option Insn
  here = insn_at bytes e.offset

  abbrev MarkedHere : Type 0
  MarkedHere = IsMarked here (mark_here (text_of bytes) upper e)

  plain_16 : e.kind ≡ 16 → MarkedHere
  unfolding mark_here
  plain_16 k = rw k tt

  plain_17 : e.kind ≡ 17 → MarkedHere
  unfolding mark_here
  plain_17 k = rw k tt

  call_loads : (has_pair bytes e || has_call_of_none bytes e) ≡ true → loads_upper here ≡ true
  call_loads is =
      elim (or_cases (has_pair bytes e) (has_call_of_none bytes e) is) [
        | inl pair ↦ pair_loads e.offset (target_of e) here (insn_at bytes (next_of e.offset)) pair
        | inr none ↦ none_loads (target_of e) here (insn_at bytes (next_of e.offset)) none
      ]

  agrees_18 : e.kind ≡ 18 → agrees bytes upper e ≡ (has_pair bytes e || has_call_of_none bytes e)
  unfolding agrees
  agrees_18 k = rw k refl

  agrees_19 : e.kind ≡ 19 → agrees bytes upper e ≡ (has_pair bytes e || has_call_of_none bytes e)
  unfolding agrees
  agrees_19 k = rw k refl

  call_18 : e.kind ≡ 18 → agrees bytes upper e ≡ true → MarkedHere
  unfolding mark_here
  call_18 k agreed = let loads : loads_upper here ≡ true = call_loads (sym (agrees_18 k) ∙ agreed) in rw k loads

  call_19 : e.kind ≡ 19 → agrees bytes upper e ≡ true → MarkedHere
  unfolding mark_here
  call_19 k agreed = let loads : loads_upper here ≡ true = call_loads (sym (agrees_19 k) ∙ agreed) in rw k loads

  agrees_23 : e.kind ≡ 23 → agrees bytes upper e ≡ is_upper_half bytes e.offset (target_of e)
  unfolding agrees
  agrees_23 k = rw k refl

  upper_loads : is_upper_half bytes e.offset (target_of e) ≡ true → loads_upper here ≡ true
  upper_loads is =
      elim (or_cases (is_auipc (high_half (distance e.offset (target_of e))) here) (is_lui (high_half (target_of e)) here) is) [
        | inl auipc ↦ auipc_loads (high_half (distance e.offset (target_of e))) here auipc
        | inr lui ↦ lui_loads (high_half (target_of e)) here lui
      ]

  upper_23 : e.kind ≡ 23 → agrees bytes upper e ≡ true → MarkedHere
  unfolding mark_here
  upper_23 k agreed = let loads : loads_upper here ≡ true = upper_loads (sym (agrees_23 k) ∙ agreed) in rw k loads

  paired_i : (target : Option ℕ) → meets_ask (λ half. has_low_i half here) (option_map (paired_half bytes e.value) target) ≡ true → IsMarked here (option_map_or Lo target Lone)
  paired_i None is = tt
  paired_i (Some target) is = low_i_takes (paired_half bytes e.value target) here is

  paired_s : (target : Option ℕ) → meets_ask (λ half. has_low_s half here) (option_map (paired_half bytes e.value) target) ≡ true → IsMarked here (option_map_or Lo target Lone)
  paired_s None is = tt
  paired_s (Some target) is = low_s_takes (paired_half bytes e.value target) here is

  agrees_24 : e.kind ≡ 24 → agrees bytes upper e ≡ meets_low_i bytes upper e
  unfolding agrees
  agrees_24 k = rw k refl

  agrees_25 : e.kind ≡ 25 → agrees bytes upper e ≡ meets_low_s bytes upper e
  unfolding agrees
  agrees_25 k = rw k refl

  low_24 : e.kind ≡ 24 → agrees bytes upper e ≡ true → MarkedHere
  unfolding mark_here
  low_24 k agreed = let marked : IsMarked here (paired_mark e upper) = paired_i (paired_target e upper) (sym (agrees_24 k) ∙ agreed) in rw k marked

  low_25 : e.kind ≡ 25 → agrees bytes upper e ≡ true → MarkedHere
  unfolding mark_here
  low_25 k agreed = let marked : IsMarked here (paired_mark e upper) = paired_s (paired_target e upper) (sym (agrees_25 k) ∙ agreed) in rw k marked

  agrees_26 : e.kind ≡ 26 → agrees bytes upper e ≡ is_lui (high_half (target_of e)) here
  unfolding agrees
  agrees_26 k = rw k refl

  high_26 : e.kind ≡ 26 → agrees bytes upper e ≡ true → MarkedHere
  unfolding mark_here
  high_26 k agreed =
      let loads : loads_upper here ≡ true = lui_loads (high_half (target_of e)) here (sym (agrees_26 k) ∙ agreed) in
      rw k (in_text_marked here (is_in_text (text_of bytes) (target_of e)) (Hi (target_of e)) loads)

  agrees_27 : e.kind ≡ 27 → agrees bytes upper e ≡ has_low_i (low_half (target_of e)) here
  unfolding agrees
  agrees_27 k = rw k refl

  low_27 : e.kind ≡ 27 → agrees bytes upper e ≡ true → MarkedHere
  unfolding mark_here
  low_27 k agreed =
      let takes : takes_low here ≡ true = low_i_takes (low_half (target_of e)) here (sym (agrees_27 k) ∙ agreed) in
      rw k (in_text_marked here (is_in_text (text_of bytes) (target_of e)) (Lo (target_of e)) takes)

  agrees_28 : e.kind ≡ 28 → agrees bytes upper e ≡ has_low_s (low_half (target_of e)) here
  unfolding agrees
  agrees_28 k = rw k refl

  low_28 : e.kind ≡ 28 → agrees bytes upper e ≡ true → MarkedHere
  unfolding mark_here
  low_28 k agreed =
      let takes : takes_low here ≡ true = low_s_takes (low_half (target_of e)) here (sym (agrees_28 k) ∙ agreed) in
      rw k (in_text_marked here (is_in_text (text_of bytes) (target_of e)) (Lo (target_of e)) takes)

  module _ (agreed : agrees bytes upper e ≡ true) where
    first_kinds : 16 ≤ e.kind → e.kind ≤ 19 → MarkedHere
    first_kinds low high =
        elim (cases_eq e.kind 16) [
          | inl k ↦ plain_16 k
          | inr n16 ↦
              elim (cases_eq e.kind 17) [
                | inl k ↦ plain_17 k
                | inr n17 ↦
                    elim (cases_eq e.kind 18) [ inl k ↦ call_18 k agreed | inr n18 ↦ call_19 (omega arith) agreed ]
              ]
        ]

    other_kinds : 23 ≤ e.kind → e.kind ≤ 28 → MarkedHere
    other_kinds low high =
        elim (cases_eq e.kind 23) [
          | inl k ↦ upper_23 k agreed
          | inr n23 ↦
              elim (cases_eq e.kind 24) [
                | inl k ↦ low_24 k agreed
                | inr n24 ↦
                    elim (cases_eq e.kind 25) [
                      | inl k ↦ low_25 k agreed
                      | inr n25 ↦
                          elim (cases_eq e.kind 26) [
                            | inl k ↦ high_26 k agreed
                            | inr n26 ↦
                                elim (cases_eq e.kind 27) [ inl k ↦ low_27 k agreed | inr n27 ↦ low_28 (omega arith) agreed ]
                          ]
                    ]
              ]
        ]

    at_most : (a b : ℕ) → nat_le a b ≡ true → a ≤ b
    at_most a b is = grind (arith, nat_tests)

    marked_here : is_text_kind e.kind ≡ true → MarkedHere
    marked_here is =
        elim (or_cases (nat_le 16 e.kind && nat_le e.kind 19) (nat_le 23 e.kind && nat_le e.kind 28) is) [
          | inl within ↦ (let ends = and_parts (nat_le 16 e.kind) (nat_le e.kind 19) within in first_kinds (at_most 16 e.kind ends.0) (at_most e.kind 19 ends.1))
          | inr within ↦ (let ends = and_parts (nat_le 23 e.kind) (nat_le e.kind 28) within in other_kinds (at_most 23 e.kind ends.0) (at_most e.kind 28 ends.1))
        ]

-- the second word of a call
call_width : (kind : ℕ) → is_call kind ≡ true → width_of kind ≡ 8
unfolding width_of
call_width kind is = rw is refl

less_of : (a b : ℕ) → nat_lt a b ≡ true → a < b
less_of a b is = grind (arith, nat_tests)

behind_is : (e : Entry) (address : ℕ) → is_call e.kind ≡ true → touches_word e address ≡ true → e.offset % 4 ≡ 0 → address % 4 ≡ 0 → address < 2 ^ 32 → address ≢ e.offset → next_of e.offset ≡ address
behind_is e address call touching_it offset_word word small apart =
    let width : width_of e.kind ≡ 8 = call_width e.kind call in
    let whole = and_parts (nat_lt 0 (width_of e.kind) && nat_lt 0 4 && nat_lt e.offset (address + 4)) (nat_lt address (e.offset + width_of e.kind)) touching_it in
    let before = and_parts (nat_lt 0 (width_of e.kind) && nat_lt 0 4) (nat_lt e.offset (address + 4)) whole.0 in
    let high : address < e.offset + width_of e.kind = less_of address (e.offset + width_of e.kind) whole.1 in
    let low : e.offset < address + 4 = less_of e.offset (address + 4) before.1 in
    let same : e.offset + 4 ≡ address = omega (arith, width) in
    omega arith

module _ (bytes : List ℕ) (address : ℕ) (word : address % 4 ≡ 0) (small : address < 2 ^ 32) where
  abbrev Marked : Mark → Type 0
  Marked mark = IsMarked (insn_at bytes address) mark

  behind_by : (e : Entry) → touches_word e address ≡ true → e.offset % 4 ≡ 0 → address ≢ e.offset → (test : Bool) → (is_call e.kind && has_pair bytes e) ≡ test → Marked (mark_behind bytes e)
  behind_by e touching_it offset_word apart false is = rw is tt
  behind_by e touching_it offset_word apart true is =
      let parts = and_parts (is_call e.kind) (has_pair bytes e) is in
      let Takes : ℕ → Type 0 = λ a. takes_low (insn_at bytes a) ≡ true in
      let takes : takes_low (insn_at bytes address) ≡ true =
      subst Takes (behind_is e address parts.0 touching_it offset_word word small apart) (pair_takes e.offset (target_of e) (insn_at bytes e.offset) (insn_at bytes (next_of e.offset)) parts.1) in
      rw is takes

  not_equal : (a b : ℕ) → nat_eq a b ≡ false → a ≢ b
  not_equal a b is = λ same. let yes : nat_eq a b ≡ true = grind (arith, nat_tests) in absurd (cc (is, yes))

  equal : (a b : ℕ) → nat_eq a b ≡ true → a ≡ b
  equal a b is = grind (arith, nat_tests)

  by_place : (e : Entry) → is_unsupported (text_of bytes) e ≡ false → agrees bytes (upper_target bytes e) e ≡ true → touches_word e address ≡ true → (test : Bool) → nat_eq address e.offset ≡ test → Marked (entry_mark bytes address e)
  by_place e supported agreed touching_it true is =
      let parts = or_parts (not (is_in_text (text_of bytes) e.offset) || not (is_text_kind e.kind)) (not (nat_eq (e.offset % 4) 0)) supported in
      let typed = or_parts (not (is_in_text (text_of bytes) e.offset)) (not (is_text_kind e.kind)) parts.0 in
      let There : ℕ → Type 0 = λ a. IsMarked (insn_at bytes a) (mark_here (text_of bytes) (upper_target bytes e) e) in
      let marked : There address = subst There (sym (equal address e.offset is)) (marked_here bytes (upper_target bytes e) e agreed (not-false (is_text_kind e.kind) typed.1)) in
      rw is marked
  by_place e supported agreed touching_it false is =
      let parts = or_parts (not (is_in_text (text_of bytes) e.offset) || not (is_text_kind e.kind)) (not (nat_eq (e.offset % 4) 0)) supported in
      let offset_word : e.offset % 4 ≡ 0 = equal (e.offset % 4) 0 (not-false (nat_eq (e.offset % 4) 0) parts.1) in
      let marked : Marked (mark_behind bytes e) = behind_by e touching_it offset_word (not_equal address e.offset is) (is_call e.kind && has_pair bytes e) refl in
      rw is marked

  -- the precedence
  unless_unsupported : (found : Option Entry) (later : Mark) → (found ≡ None → Marked later) → Marked (faulty Unsupported found later)
  unless_unsupported None later marked = marked refl
  unless_unsupported (Some e) later marked = tt

  unless_disagreeing : (found : Option Entry) (later : Mark) → (found ≡ None → Marked later) → Marked (faulty Disagrees found later)
  unless_disagreeing None later marked = marked refl
  unless_disagreeing (Some e) later marked = tt

  unless_conflict : (test : Bool) (later : Mark) → Marked later → Marked (if test then Conflict else later)
  unless_conflict true later marked = tt
  unless_conflict false later marked = marked

  unless_lone : (test : Bool) (later : Mark) → Marked later → Marked (if test then Lone else later)
  unless_lone true later marked = tt
  unless_lone false later marked = marked

  head_fails : (test : Entry → Bool) (e : Entry) (others : List Entry) → find test (e ∷ others) ≡ None → test e ≡ false
  head_fails test e others none = by_test (test e) none
    where
      by_test : (b : Bool) → cond b (Some e) (find test others) ≡ None → b ≡ false
      by_test true is = absurd (cc is)
      by_test false is = refl

  head_passes : (test : Entry → Bool) (xs : List Entry) (e : Entry) (others : List Entry) → filter test xs ≡ e ∷ others → test e ≡ true
  head_passes test [] e others is = absurd (cc is)
  head_passes test (x ∷ xs) e others is = by_test (λ rest. head_passes test xs e others rest) (test x) refl is
    where
      by_test : (filter test xs ≡ e ∷ others → test e ≡ true) → (b : Bool) → test x ≡ b → cond b (x ∷ filter test xs) (filter test xs) ≡ e ∷ others → test e ≡ true
      by_test more true passes all = let same : x ≡ e = cc all in ap test (sym same) ∙ passes
      by_test more false fails all = more all

  first_marked : (entries : List Entry) → touching bytes address ≡ entries → find (is_unsupported (text_of bytes)) entries ≡ None → find (is_disagreeing bytes) entries ≡ None → Marked (first_mark bytes address entries)
  first_marked [] all supported agreeing = tt
  first_marked (e ∷ others) all supported agreeing =
      let fine : is_unsupported (text_of bytes) e ≡ false = head_fails (is_unsupported (text_of bytes)) e others supported in
      let agreed_or : is_disagreeing bytes e ≡ false = head_fails (is_disagreeing bytes) e others agreeing in
      let in_place : not (is_unsupported (text_of bytes) e) ≡ true = ap not fine in
      let agreed : agrees bytes (upper_target bytes e) e ≡ true = not-false (agrees bytes (upper_target bytes e) e) (second_false (not (is_unsupported (text_of bytes) e)) (not (agrees bytes (upper_target bytes e) e)) agreed_or in_place) in
      by_place e fine agreed (head_passes (λ x. touches_word x address) (entries_of bytes) e others all) (nat_eq address e.offset) refl

  by_entries : (entries : List Entry) → touching bytes address ≡ entries → Marked (mark_by bytes address entries)
  by_entries entries all =
      unless_unsupported (find (is_unsupported (text_of bytes)) entries) _
      (λ supported. unless_disagreeing (find (is_disagreeing bytes) entries) _
      (λ agreeing. unless_conflict (differ entries) _ (unless_lone (list_any (is_lone_entry bytes) entries) _ (first_marked entries all supported agreeing))))

  pub insn_is_marked : Marked (mark_of bytes address)
  unfolding mark_of
  insn_is_marked = by_entries (touching bytes address) refl
