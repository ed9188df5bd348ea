-- The premises of the laws are met: a plain file is an acceptable output.
use Rattle.std.proofs.Common.{◌≡◌, ℕ, ◌+◌, ◌*◌, ◌≤◌, List, length, None, refl, ap, arith, append-nil}
use Rattle.sq_elf.specs.Refusing.{file_refusal_of}
use Rattle.sq_write.specs.Output.{words, text_piece, loaded_size, output_file}
use Rattle.sq_write.specs.Plain.{plain_start, plain_output, plain_file}
use Rattle.sq_write.proofs.Splitting.{length_words, length_plain}
use Rattle.law_written.specs.Accepting.{IsAcceptable}
use Rattle.law_written.specs.Reading.{copied}
use Rattle.law_written.proofs.Accepting.{outputs_are_accepted}
use Rattle.law_written.proofs.Cut.{copied_here, no_range}

plain_length : (text : List ℕ) → length (output_file (plain_output text)) ≡ 4 * length text + 448
unfolding plain_file
plain_length text = length_plain text

plain_size : (text : List ℕ) → loaded_size (plain_output text) ≡ length (words text)
plain_size text = ap length (append-nil (words text))

-- 1 to 262,144 words
record AreFew (text : List ℕ) : Type 0 where
  some : 1 ≤ length text
  few : length text ≤ 262144

plain_is_acceptable : (text : List ℕ) → AreFew text → IsAcceptable (plain_output text)
plain_is_acceptable text are =
    let sized = length_words text in
    let none : copied (text_piece (plain_output text)) ≡ 0 = copied_here (text_piece (plain_output text)) refl in
    record {
      fits = record {
        entry = omega arith;
        pieces = (
          record {
            address = omega arith;
            load_address = omega arith;
            some = omega (arith, sized, are.some);
            size = omega (arith, sized, are.few);
            stored = omega arith;
            flags = omega arith;
          },
          tt,
        );
        count = omega arith;
        size = omega (arith, plain_length text, are.few);
      };
      loadable = (
        record {
          within = omega (arith, sized, are.few);
          copy_within = omega (arith, sized, are.few);
          alone = no_range plain_start (length (words text)) plain_start (copied (text_piece (plain_output text))) none;
        },
        tt,
      );
      in_order = (tt, tt);
      before = tt;
      after = tt;
      short = omega (arith, plain_length text, are.few);
      pieces = omega arith;
      loaded = omega (arith, plain_size text, sized, are.few);
      text = omega (arith, sized, are.few);
      start = refl;
      entry = refl;
      low = omega arith;
      high = omega (arith, sized, are.some);
    }

plain_is_accepted : (text : List ℕ) → AreFew text → file_refusal_of (output_file (plain_output text)) ≡ None
plain_is_accepted text are = outputs_are_accepted (plain_output text) (plain_is_acceptable text are)
