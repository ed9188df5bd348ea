use Rattle.std.proofs.Common.{◌≡◌, true, false, [], ◌∷◌, Some, ap, sym, ◌∙◌}
use Rattle.std.proofs.lemmas.Result.{IfOk-weaker}
use Rattle.std.specs.Option.{option_map}
use Rattle.std.specs.Str.{bytes_eq}
use Rattle.sq_cert.specs.Pieces.{pieces, pieces_behind}
use Rattle.sq_cert.specs.Readings.{reading, reading_behind, reading_of}
use Rattle.sq_cert.specs.Texts.{first_line}
use Rattle.sq_cert.proofs.RoundTrip.{text_cut, text_other, text_begun}
use Rattle.sq_cert.proofs.Splitting.{some_pieces}
use Rattle.sq_cert.proofs.read.read_text.Goals as goal
use Rattle.sq_cert.proofs.read.read_text.Goals.{in-Some+else-eq, in_default}

pub returns-then-eq : goal.returns-then-eq
returns-then-eq c =
    let text = c.args.text.now in
    let line = c.first_piece.result.0.now in
    let lines = c.in-Some.lines.now in
    let here : pieces 10 text ≡ line ∷ pieces 10 lines = c.first_piece.ensures.pieces ∙ ap (λ more. line ∷ pieces_behind 10 (option_map (λ b. b.now) more)) c.in-Some.is in
    let first : bytes_eq line first_line ≡ true = ap (bytes_eq line) (sym c.as_slice.ensures) ∙ sym c.if-eq.ensures in
    IfOk-weaker c.read_steps.result (λ said. said ≡ reading_behind [] (pieces 10 lines)) (λ said. said ≡ reading_of text)
    (λ said is. is ∙ sym (text_begun text line (pieces 10 lines) (some_pieces 10 lines) here first)) c.read_steps.ensures

pub returns : goal.returns
returns c =
    let text = c.args.text.now in
    let line = c.first_piece.result.0.now in
    ap (λ cert. reading cert (Some 1)) c.new-cert.ensures ∙ sym (
    elim c.match-lines.branch [
      | in-Some+else-eq w ↦
          let lines = w.in-Some.lines.now in
          let here : pieces 10 text ≡ line ∷ pieces 10 lines = c.first_piece.ensures.pieces ∙ ap (λ more. line ∷ pieces_behind 10 (option_map (λ b. b.now) more)) w.in-Some.is in
          let other : bytes_eq line first_line ≡ false = ap (bytes_eq line) (sym w.as_slice.ensures) ∙ sym w.if-eq.ensures in
          text_other text line (pieces 10 lines) (some_pieces 10 lines) here other
      | in_default w ↦
          text_cut text line (c.first_piece.ensures.pieces ∙ ap (λ more. line ∷ pieces_behind 10 (option_map (λ b. b.now) more)) w.in_default.is)
    ])
