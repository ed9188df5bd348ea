-- the rows of the header, one after the other
use Rattle.std.proofs.Common.{◌≡◌, ℕ, true, false, not, nat_eq, nat_lt, List, [], ◌∷◌, length, None, sym, ◌∙◌, arith}
use Rattle.std.proofs.lemmas.Grind.{common_steps}
use Rattle.sq_num.specs.declared.refusal.Refusal.TheVariants.{FileTooLong, HeaderField, Flags}
use Rattle.sq_num.specs.Refusals.{Row, first_from, first_refusal}
use Rattle.sq_num.proofs.Places.{refused_here, refused_later}
use Rattle.sq_elf.specs.Headers.{flags_of}
use Rattle.sq_elf.specs.Refusing.{not_elf, short_header, header_field, flags, header_rows}
use Rattle.sq_elf.proofs.Parts.{single_here, single_later}
use Rattle.sq_elf.proofs.refusing.header_refusal.Goals as goal

abbrev from_flags : List ℕ → List Row
from_flags bytes = flags bytes ∷ []

abbrev from_fields : List ℕ → List Row
from_fields bytes = header_field bytes ∷ from_flags bytes

abbrev from_short : List ℕ → List Row
from_short bytes = short_header bytes ∷ from_fields bytes

abbrev from_elf : List ℕ → List Row
from_elf bytes = not_elf bytes ∷ from_short bytes

module _ (bytes : List ℕ) (fits : nat_lt 134217728 (length bytes) ≡ false) where
  behind_length : first_refusal (from_elf bytes) ≡ first_refusal (header_rows bytes)
  behind_length = single_later (nat_lt 134217728 (length bytes)) FileTooLong (from_elf bytes) fits

  module _ (elf : None ≡ first_from (not_elf bytes).fails 0 7) where
    behind_elf : first_refusal (from_short bytes) ≡ first_refusal (header_rows bytes)
    behind_elf = sym (refused_later (not_elf bytes) (from_short bytes) (sym elf)) ∙ behind_length

    module _ (whole : nat_lt (length bytes) 52 ≡ false) where
      behind_short : first_refusal (from_fields bytes) ≡ first_refusal (header_rows bytes)
      behind_short = single_later (nat_lt (length bytes) 52) (HeaderField (length bytes)) (from_fields bytes) whole ∙ behind_elf

      module _ (fields : None ≡ first_from (header_field bytes).fails 0 52) where
        behind_fields : first_refusal (from_flags bytes) ≡ first_refusal (header_rows bytes)
        behind_fields = sym (refused_later (header_field bytes) (from_flags bytes) (sym fields)) ∙ behind_short

pub returns-then-bytes : goal.returns-then-bytes
returns-then-bytes c =
    let long : nat_lt 134217728 (length c.args.bytes.now) ≡ true = grind (arith, common_steps) in
    single_here (nat_lt 134217728 (length c.args.bytes.now)) FileTooLong (from_elf c.args.bytes.now) long

pub returns-in-Some : goal.returns-in-Some
returns-in-Some c =
    let fits : nat_lt 134217728 (length c.args.bytes.now) ≡ false = grind (arith, common_steps) in
    sym (refused_here (not_elf c.args.bytes.now) (from_short c.args.bytes.now) c.in-Some.offset (sym c.in-Some.ensures)) ∙ behind_length c.args.bytes.now fits

pub returns-then-bytes-2 : goal.returns-then-bytes-2
returns-then-bytes-2 c =
    let fits : nat_lt 134217728 (length c.args.bytes.now) ≡ false = grind (arith, common_steps) in
    let short : nat_lt (length c.args.bytes.now) 52 ≡ true = grind (arith, common_steps) in
    single_here (nat_lt (length c.args.bytes.now) 52) (HeaderField (length c.args.bytes.now)) (from_fields c.args.bytes.now) short
    ∙ behind_elf c.args.bytes.now fits c.in_default.ensures

pub returns-in-Some-first_refused_field : goal.returns-in-Some-first_refused_field
returns-in-Some-first_refused_field c =
    let fits : nat_lt 134217728 (length c.args.bytes.now) ≡ false = grind (arith, common_steps) in
    let whole : nat_lt (length c.args.bytes.now) 52 ≡ false = grind (arith, common_steps) in
    sym (refused_here (header_field c.args.bytes.now) (from_flags c.args.bytes.now) c.in-Some-first_refused_field.offset (sym c.in-Some-first_refused_field.ensures))
    ∙ behind_short c.args.bytes.now fits c.in_default.ensures whole

pub returns-then-value-ne0 : goal.returns-then-value-ne0
returns-then-value-ne0 c =
    let fits : nat_lt 134217728 (length c.args.bytes.now) ≡ false = grind (arith, common_steps) in
    let whole : nat_lt (length c.args.bytes.now) 52 ≡ false = grind (arith, common_steps) in
    let some : not (nat_eq (flags_of c.args.bytes.now) 0) ≡ true = grind (arith, common_steps, c.flags-value.ensures) in
    (rw c.flags-value.ensures (single_here (not (nat_eq (flags_of c.args.bytes.now) 0)) (Flags (flags_of c.args.bytes.now)) [] some))
    ∙ behind_fields c.args.bytes.now fits c.in_default.ensures whole c.in_default-first_refused_field.ensures

pub returns : goal.returns
returns c =
    let fits : nat_lt 134217728 (length c.args.bytes.now) ≡ false = grind (arith, common_steps) in
    let whole : nat_lt (length c.args.bytes.now) 52 ≡ false = grind (arith, common_steps) in
    let none : not (nat_eq (flags_of c.args.bytes.now) 0) ≡ false = grind (arith, common_steps, c.flags-value.ensures) in
    single_later (not (nat_eq (flags_of c.args.bytes.now) 0)) (Flags (flags_of c.args.bytes.now)) [] none
    ∙ behind_fields c.args.bytes.now fits c.in_default.ensures whole c.in_default-first_refused_field.ensures
