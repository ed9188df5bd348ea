-- The words of text of the file of a graph: their instructions and their marks.
use Rattle.std.proofs.Common.{◌≡◌, ℕ, zero, suc, ◌+◌, ◌*◌, ◌%◌, ◌^◌, ◌<◌, ◌≤◌, Bool, true, false, ◌&&◌, ◌⊎◌, inl, inr, nat_eq, nat_lt, nat_le, List, [], ◌∷◌, ◌++◌, length, filter, Option, Some, slice_get, refl, sym, ap, subst, ◌∙◌, arith, append-nil, eq-eqb}
use Rattle.std.specs.List.{AllByRecursion}
use Rattle.std.specs.Option.{option_and_then}
use Rattle.std.proofs.lemmas.Bool.{ltb-true, leb-true}
use Rattle.std.proofs.lemmas.Bool.Decides.{nat_tests}
use Rattle.std.proofs.lemmas.List.Elements.{filter-append}
use Rattle.std.proofs.lemmas.Option.{slice_get_within}
use Rattle.sq_num.specs.Halves.{high_half, low_half}
use Rattle.sq_isa.specs.Ranges.{FieldsFit}
use Rattle.sq_isa.specs.Table.{insn_of}
use Rattle.sq_isa.proofs.Encoded.{insn_of-word_of, word_of_below}
use Rattle.sq_elf.specs.declared.text.Text.{Text}
use Rattle.sq_elf.specs.Ranges.{meets}
use Rattle.sq_elf.specs.Reading.{word_of}
use Rattle.sq_elf.specs.Text.{text_of, is_in_text}
use Rattle.sq_reloc.specs.declared.entry.Entry.{Entry}
use Rattle.sq_reloc.specs.declared.mark.Mark.{Mark}
use Rattle.sq_reloc.specs.declared.mark.Mark.TheVariants.{Hi, Lo}
use Rattle.sq_reloc.specs.Entries.{target_of}
use Rattle.sq_reloc.specs.Kinds.{is_text_kind, is_paired, width_of, touches_word}
use Rattle.sq_reloc.specs.Marks.{is_unsupported, mark_here, mark_by as mark_by_entries, touching, mark_of}
use Rattle.sq_reloc.specs.Required.{insn_at, upper_target, is_lui, has_low_i, agrees}
use Rattle.sq_graph.specs.declared.parts.CodeRef.{CodeRef}
use Rattle.sq_graph.specs.Graph.{Graph}
use Rattle.sq_graph.specs.Blocks.{HasBlock}
use Rattle.sq_graph.specs.Words.{words_of}
use Rattle.sq_write.specs.Output.{Relocation}
use Rattle.sq_write.specs.Points.{Point, new_address, point_word, text_points}
use Rattle.sq_write.specs.Written.{written}
use Rattle.sq_write.proofs.Fitting.{text_stands}
use Rattle.sq_write.proofs.Lengths.{length_text}
use Rattle.law_written.specs.Written.{IsWritable}
use Rattle.law_written.proofs.TextWords.{written_words_are_read}
use Rattle.law_written.specs.Entries.{read_entry, numbered}
use Rattle.law_written.specs.Words.{mark_by, point_mark, WrittenInstructionsAreRead, WrittenMarksAreRead}
use Rattle.law_written.proofs.CodeWords.{numbered_both, text_is, low_word, place_in_text}
use Rattle.sq_write.proofs.PointFields.{AllFit, text_fits}
use Rattle.law_written.proofs.Points.{Shape, AreShaped, text_shaped, IsHalf, entries_in, point_halves, halves_of}
use Rattle.law_written.proofs.WrittenRelocations.{IsWordEntry, all_good, word_entries, few_words, block_place, address_fits, low_entries, high_entries, half_entries, entries_here}

-- Which entries touch a word

pub word_width : width_of 1 ≡ 4
unfolding width_of
word_width = refl

pub half_width : (kind : ℕ) → (kind ≡ 26) ⊎ (kind ≡ 27) → width_of kind ≡ 4
unfolding width_of
half_width kind (inl is) = ap width_of is
half_width kind (inr is) = ap width_of is

before_word : (a b : ℕ) → a + 4 ≤ b → meets a 4 b 4 ≡ false
before_word a b less = grind (arith, nat_tests)

behind_word : (a b : ℕ) → b + 4 ≤ a → meets a 4 b 4 ≡ false
behind_word a b less = grind (arith, nat_tests)

same_word : (a b : ℕ) → a ≡ b → meets a 4 b 4 ≡ true
same_word a b same = grind (arith, nat_tests)

of_width : (a width b : ℕ) (answer : Bool) → width ≡ 4 → meets a 4 b 4 ≡ answer → meets a width b 4 ≡ answer
of_width a width b answer is four = ap (λ n. meets a n b 4) is ∙ four

none_kept : (P : Relocation → Type 0) (test : Entry → Bool) → ((k : ℕ) (r : Relocation) → P r → test (read_entry k r) ≡ false) → (rs : List Relocation) (n : ℕ) → AllByRecursion P rs → filter test (numbered n rs) ≡ []
none_kept P test fails [] n all = refl
none_kept P test fails (r ∷ rs) n all = rw (fails n r all.0) (none_kept P test fails rs (suc n) all.1)

all_kept : (P : Relocation → Type 0) (test : Entry → Bool) → ((k : ℕ) (r : Relocation) → P r → test (read_entry k r) ≡ true) → (rs : List Relocation) (n : ℕ) → AllByRecursion P rs → filter test (numbered n rs) ≡ numbered n rs
all_kept P test passes [] n all = refl
all_kept P test passes (r ∷ rs) n all = rw (passes n r all.0) (ap (λ es. read_entry n r ∷ es) (all_kept P test passes rs (suc n) all.1))

pub behind_text : (low high x : ℕ) → (nat_le low x && nat_lt x high) ≡ false → low ≤ x → high ≤ x
behind_text low high x out above = grind (arith, nat_tests)

module _ (g : Graph) (lo : ℕ) where
  -- the entries that touch a word of text are its own
  record Touches (ps : List Point) (at k n : ℕ) (p : Point) : Type 0 where
    first : ℕ
    are : filter (λ e. touches_word e (at + 4 * k)) (numbered n (entries_in g lo ps)) ≡ numbered first p.entries

  in_two : (a : ℕ) (q : Point) (ps : List Point) (n : ℕ) → filter (λ e. touches_word e a) (numbered n (q.entries ++ entries_in g lo ps)) ≡ filter (λ e. touches_word e a) (numbered n q.entries) ++ filter (λ e. touches_word e a) (numbered (n + length q.entries) (entries_in g lo ps))
  in_two a q ps n =
      ap (filter (λ e. touches_word e a)) (numbered_both n q.entries (entries_in g lo ps))
      ∙ filter-append (λ e. touches_word e a) (numbered n q.entries) (numbered (n + length q.entries) (entries_in g lo ps))

  behind_none : (ps : List Point) (at a n : ℕ) → a + 4 ≤ at → AreShaped g lo at ps → filter (λ e. touches_word e a) (numbered n (entries_in g lo ps)) ≡ []
  behind_none ps at a n less shaped =
      none_kept (IsHalf g lo at (at + 4 * length ps)) (λ e. touches_word e a)
      (λ k r half. of_width r.offset (width_of r.kind) a false (half_width r.kind half.kind) (behind_word r.offset a (omega (arith, half.begins))))
      (entries_in g lo ps) n (halves_of g lo ps at (at + 4 * length ps) at (omega arith) (omega arith) shaped)

  touched_here : (q p : Point) (ps : List Point) (at n : ℕ) → q ≡ p → Shape g lo at q → AreShaped g lo (at + 4) ps → Touches (q ∷ ps) at 0 n p
  touched_here q p ps at n same shape shaped =
      let none : at + 4 * 0 ≡ at = omega arith in
      let own : filter (λ e. touches_word e at) (numbered n q.entries) ≡ numbered n q.entries =
      all_kept (IsHalf g lo at (at + 4)) (λ e. touches_word e at)
      (λ k r half. of_width r.offset (width_of r.kind) at true (half_width r.kind half.kind) (same_word r.offset at (omega (arith, half.begins, half.ends))))
      q.entries n (point_halves g lo at (at + 4) at q (omega arith) (omega arith) shape)
      in
      let rest = behind_none ps (at + 4) at (n + length q.entries) (omega arith) shaped in
      subst (λ x. Touches (q ∷ ps) at 0 n x) same (record {
        first = n;
        are =
            ap (λ a. filter (λ e. touches_word e a) (numbered n (q.entries ++ entries_in g lo ps))) none
            ∙ in_two at q ps n
            ∙ ap (λ es. es ++ filter (λ e. touches_word e at) (numbered (n + length q.entries) (entries_in g lo ps))) own
            ∙ ap (λ es. numbered n q.entries ++ es) rest
            ∙ append-nil (numbered n q.entries);
      })

  touched : (ps : List Point) (at k n : ℕ) (p : Point) → AreShaped g lo at ps → slice_get ps k ≡ Some p → Touches ps at k n p
  touched [] at k n p shaped is = absurd (cc is)
  touched (q ∷ ps) at zero n p shaped is = touched_here q p ps at n (cc is) shaped.0 shaped.1
  touched (q ∷ ps) at (suc k) n p shaped is = later (touched ps (at + 4) k (n + length q.entries) p shaped.1 is)
    where
      later : Touches ps (at + 4) k (n + length q.entries) p → Touches (q ∷ ps) at (suc k) n p
      later more =
          let next : at + 4 * suc k ≡ at + 4 + 4 * k = omega arith in
          let own : filter (λ e. touches_word e (at + 4 + 4 * k)) (numbered n q.entries) ≡ [] =
          none_kept (IsHalf g lo at (at + 4)) (λ e. touches_word e (at + 4 + 4 * k))
          (λ j r half. of_width r.offset (width_of r.kind) (at + 4 + 4 * k) false (half_width r.kind half.kind) (before_word r.offset (at + 4 + 4 * k) (omega (arith, half.ends))))
          q.entries n (point_halves g lo at (at + 4) at q (omega arith) (omega arith) shaped.0)
          in
          record {
            first = more.first;
            are =
                ap (λ a. filter (λ e. touches_word e a) (numbered n (q.entries ++ entries_in g lo ps))) next
                ∙ in_two (at + 4 + 4 * k) q ps n
                ∙ ap (λ es. es ++ filter (λ e. touches_word e (at + 4 + 4 * k)) (numbered (n + length q.entries) (entries_in g lo ps))) own
                ∙ more.are;
          }

  shape_at : (ps : List Point) (at k : ℕ) (p : Point) → AreShaped g lo at ps → slice_get ps k ≡ Some p → Shape g lo (at + 4 * k) p
  shape_at [] at k p shaped is = absurd (cc is)
  shape_at (q ∷ ps) at zero p shaped is =
      let same : q ≡ p = cc is in
      let none : at ≡ at + 4 * 0 = omega arith in
      subst (λ x. Shape g lo (at + 4 * 0) x) same (subst (λ a. Shape g lo a q) none shaped.0)
  shape_at (q ∷ ps) at (suc k) p shaped is =
      let next : at + 4 + 4 * k ≡ at + 4 * suc k = omega arith in
      subst (λ a. Shape g lo a p) next (shape_at ps (at + 4) k p shaped.1 is)

pub fits_at : (ps : List Point) (k : ℕ) (p : Point) → AllFit ps → slice_get ps k ≡ Some p → FieldsFit p.insn
fits_at [] k p all is = absurd (cc is)
fits_at (q ∷ ps) zero p all is = let same : q ≡ p = cc is in subst (λ (x : Point). FieldsFit x.insn) same all.0
fits_at (q ∷ ps) (suc k) p all is = fits_at ps k p all.1 is

-- The mark by one entry

supported : (text : Text) (e : Entry) → is_in_text text e.offset ≡ true → is_text_kind e.kind ≡ true → nat_eq (e.offset % 4) 0 ≡ true → is_unsupported text e ≡ false
supported text e inside kind aligned = rw (inside, kind, aligned) refl

one_mark : (file : List ℕ) (a : ℕ) (e : Entry) (mark : Mark) → is_unsupported (text_of file) e ≡ false → agrees file (upper_target file e) e ≡ true → is_paired e.kind ≡ false → nat_eq a e.offset ≡ true → mark_here (text_of file) (upper_target file e) e ≡ mark → mark_by_entries file a (e ∷ []) ≡ mark
one_mark file a e mark fine agreed single here is = rw (fine, agreed, single, here) is

made : ℕ → ℕ → ℕ → ℕ → Entry
made number at kind to = read_entry number (record { offset = at; kind = kind; addend = to })

upper_agrees : (file : List ℕ) (upper : Option ℕ) (number at to : ℕ) → agrees file upper (made number at 26 to) ≡ is_lui (high_half (target_of (made number at 26 to))) (insn_at file at)
unfolding agrees made
upper_agrees file upper number at to = refl

lower_agrees : (file : List ℕ) (upper : Option ℕ) (number at to : ℕ) → agrees file upper (made number at 27 to) ≡ has_low_i (low_half (target_of (made number at 27 to))) (insn_at file at)
unfolding agrees made
lower_agrees file upper number at to = refl

made_target : (number at kind to : ℕ) → to < 2 ^ 32 → target_of (made number at kind to) ≡ to
unfolding made
made_target number at kind to small = omega arith

upper_mark : (text : Text) (upper : Option ℕ) (number at to : ℕ) → target_of (made number at 26 to) ≡ to → is_in_text text to ≡ true → mark_here text upper (made number at 26 to) ≡ Hi to
unfolding mark_here made
upper_mark text upper number at to is inside = rw (is, inside) refl

lower_mark : (text : Text) (upper : Option ℕ) (number at to : ℕ) → target_of (made number at 27 to) ≡ to → is_in_text text to ≡ true → mark_here text upper (made number at 27 to) ≡ Lo to
unfolding mark_here made
lower_mark text upper number at to is inside = rw (is, inside) refl

module _ (file : List ℕ) (number at to : ℕ) (small : to < 2 ^ 32) (inside : is_in_text (text_of file) at ≡ true) (aligned : nat_eq (at % 4) 0 ≡ true) (in_text : is_in_text (text_of file) to ≡ true) where
  upper_read : is_lui (high_half to) (insn_at file at) ≡ true → mark_by_entries file at (made number at 26 to ∷ []) ≡ Hi to
  unfolding made
  upper_read agreed =
      one_mark file at (made number at 26 to) (Hi to) (supported (text_of file) (made number at 26 to) inside refl aligned)
      (upper_agrees file (upper_target file (made number at 26 to)) number at to ∙ ap (λ x. is_lui (high_half x) (insn_at file at)) (made_target number at 26 to small) ∙ agreed)
      refl (eq-eqb at at refl)
      (upper_mark (text_of file) (upper_target file (made number at 26 to)) number at to (made_target number at 26 to small) in_text)

  lower_read : has_low_i (low_half to) (insn_at file at) ≡ true → mark_by_entries file at (made number at 27 to ∷ []) ≡ Lo to
  unfolding made
  lower_read agreed =
      one_mark file at (made number at 27 to) (Lo to) (supported (text_of file) (made number at 27 to) inside refl aligned)
      (lower_agrees file (upper_target file (made number at 27 to)) number at to ∙ ap (λ x. has_low_i (low_half x) (insn_at file at)) (made_target number at 27 to small) ∙ agreed)
      refl (eq-eqb at at refl)
      (lower_mark (text_of file) (upper_target file (made number at 27 to)) number at to (made_target number at 27 to small) in_text)

mark_made : (file : List ℕ) (address : ℕ) → mark_of file address ≡ mark_by_entries file address (touching file address)
unfolding mark_of
mark_made file address = refl

module _ (bytes : List ℕ) (g : Graph) (can : IsWritable bytes g) (k : ℕ) (p : Point) (is : slice_get (text_points g (text_of bytes).lo) k ≡ Some p) where
  abbrev address : ℕ
  address = (text_of bytes).lo + 4 * k

  within : k < words_of g
  within = omega (arith, slice_get_within (text_points g (text_of bytes).lo) k p is, length_text g (text_of bytes).lo)

  pub point_fits : FieldsFit p.insn
  point_fits =
      fits_at (text_points g (text_of bytes).lo) k p (text_fits g (text_of bytes).lo can.rules (text_stands g (text_of bytes).lo can.rules (few_words bytes g can) can.reach)) is

  pub word_here : word_of (written bytes g) ((text_of bytes).lo + 4 * k) ≡ Some (point_word p)
  word_here = written_words_are_read bytes g can k p is (word_of_below p.insn point_fits)

  pub insn_here : insn_at (written bytes g) ((text_of bytes).lo + 4 * k) ≡ Some p.insn
  insn_here = ap (option_and_then insn_of) word_here ∙ insn_of-word_of p.insn point_fits

  -- code words before text and behind it
  low_apart : filter (λ e. touches_word e address) (numbered 0 (low_entries bytes g can)) ≡ []
  low_apart =
      let below : CodeRef → Bool = λ word. nat_lt word.at (text_of bytes).lo in
      none_kept (IsWordEntry bytes g below) (λ e. touches_word e address)
      (λ j r entry.
      let good = entry.good in
      let less : entry.word.at < (text_of bytes).lo = ltb-true entry.word.at (text_of bytes).lo entry.kept in
      subst (λ x. touches_word (read_entry j x) address ≡ false) (sym entry.is)
      (of_width entry.word.at (width_of 1) address false word_width (before_word entry.word.at address (omega (arith, less, good.facts.aligned, low_word bytes g can)))))
      (low_entries bytes g can) 0 (word_entries bytes g can below g.code_words (all_good bytes g can))

  high_apart : (n : ℕ) → filter (λ e. touches_word e address) (numbered n (high_entries bytes g can)) ≡ []
  high_apart n =
      let above : CodeRef → Bool = λ word. nat_le (text_of bytes).lo word.at in
      none_kept (IsWordEntry bytes g above) (λ e. touches_word e address)
      (λ j r entry.
      let good = entry.good in
      let past : (text_of bytes).hi ≤ entry.word.at = behind_text (text_of bytes).lo (text_of bytes).hi entry.word.at good.facts.outside (leb-true (text_of bytes).lo entry.word.at entry.kept) in
      subst (λ x. touches_word (read_entry j x) address ≡ false) (sym entry.is)
      (of_width entry.word.at (width_of 1) address false word_width (behind_word entry.word.at address (omega (arith, past, within, can.words)))))
      (high_entries bytes g can) n (word_entries bytes g can above g.code_words (all_good bytes g can))

  own : Touches g (text_of bytes).lo (text_points g (text_of bytes).lo) (text_of bytes).lo k (0 + length (low_entries bytes g can)) p
  own = touched g (text_of bytes).lo (text_points g (text_of bytes).lo) (text_of bytes).lo k (0 + length (low_entries bytes g can)) p (text_shaped g (text_of bytes).lo can.rules) is

  touching_is : touching (written bytes g) address ≡ numbered own.first p.entries
  touching_is =
      let low = low_entries bytes g can in
      let half = half_entries bytes g can in
      let high = high_entries bytes g can in
      ap (filter (λ e. touches_word e address)) (entries_here bytes g can ∙ numbered_both 0 (low_entries bytes g can ++ half_entries bytes g can) (high_entries bytes g can))
      ∙ filter-append (λ e. touches_word e address) (numbered 0 (low_entries bytes g can ++ half_entries bytes g can)) (numbered (0 + length (low_entries bytes g can ++ half_entries bytes g can)) (high_entries bytes g can))
      ∙ ap (λ es. filter (λ e. touches_word e address) (numbered 0 (low_entries bytes g can ++ half_entries bytes g can)) ++ es) (high_apart (0 + length (low_entries bytes g can ++ half_entries bytes g can)))
      ∙ append-nil (filter (λ e. touches_word e address) (numbered 0 (low_entries bytes g can ++ half_entries bytes g can)))
      ∙ ap (filter (λ e. touches_word e address)) (numbered_both 0 (low_entries bytes g can) (half_entries bytes g can))
      ∙ filter-append (λ e. touches_word e address) (numbered 0 (low_entries bytes g can)) (numbered (0 + length (low_entries bytes g can)) (half_entries bytes g can))
      ∙ ap (λ es. es ++ filter (λ e. touches_word e address) (numbered (0 + length (low_entries bytes g can)) (half_entries bytes g can))) low_apart
      ∙ own.are

  inside : is_in_text (text_of (written bytes g)) address ≡ true
  inside = subst (λ t. is_in_text t address ≡ true) (sym (text_is bytes g can)) (place_in_text bytes g can k within)

  aligned : nat_eq (address % 4) 0 ≡ true
  aligned = eq-eqb (address % 4) 0 (omega (arith, low_word bytes g can))

  block_inside : (block : ℕ) → HasBlock g block → is_in_text (text_of (written bytes g)) (new_address g (text_of bytes).lo block) ≡ true
  block_inside block there =
      let place = block_place bytes g can block there in
      subst (λ x. is_in_text (text_of (written bytes g)) x ≡ true) (sym place.is)
      (subst (λ t. is_in_text t ((text_of bytes).lo + 4 * place.place) ≡ true) (sym (text_is bytes g can)) (place_in_text bytes g can place.place place.within))

  marked : Shape g (text_of bytes).lo address p → mark_by_entries (written bytes g) address (numbered own.first p.entries) ≡ point_mark p
  unfolding made
  marked (inl none) = subst (λ es. mark_by_entries (written bytes g) address (numbered own.first es) ≡ mark_by es) (sym none) refl
  marked (inr (inl upper)) =
      subst (λ es. mark_by_entries (written bytes g) address (numbered own.first es) ≡ mark_by es) (sym upper.entries)
      (upper_read (written bytes g) own.first address (new_address g (text_of bytes).lo upper.block) (address_fits bytes g can upper.block upper.there) inside aligned (block_inside upper.block upper.there)
      (ap (is_lui (high_half (new_address g (text_of bytes).lo upper.block))) insn_here ∙ upper.insn))
  marked (inr (inr lower)) =
      subst (λ es. mark_by_entries (written bytes g) address (numbered own.first es) ≡ mark_by es) (sym lower.entries)
      (lower_read (written bytes g) own.first address (new_address g (text_of bytes).lo lower.block) (address_fits bytes g can lower.block lower.there) inside aligned (block_inside lower.block lower.there)
      (ap (has_low_i (low_half (new_address g (text_of bytes).lo lower.block))) insn_here ∙ lower.insn))

  pub mark_is : mark_of (written bytes g) ((text_of bytes).lo + 4 * k) ≡ point_mark p
  mark_is =
      mark_made (written bytes g) address
      ∙ ap (mark_by_entries (written bytes g) address) touching_is
      ∙ marked (shape_at g (text_of bytes).lo (text_points g (text_of bytes).lo) (text_of bytes).lo k p (text_shaped g (text_of bytes).lo can.rules) is)

pub written_instructions_are_read : WrittenInstructionsAreRead
written_instructions_are_read = λ bytes g can k p is. insn_here bytes g can k p is

pub written_marks_are_read : WrittenMarksAreRead
written_marks_are_read = λ bytes g can k p is. mark_is bytes g can k p is
