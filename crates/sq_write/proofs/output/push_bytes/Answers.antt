use Rattle.std.proofs.Common.{◌∙◌, ◌++◌, ap, sym, append_assoc}
use Rattle.sq_write.specs.Output.{piece_bytes}
use Rattle.sq_write.specs.Laid.{seen}
use Rattle.sq_write.proofs.PieceWalks.{bytes_split}
use Rattle.sq_write.proofs.output.push_bytes.Goals as goal

pub returns : goal.returns
returns c =
    let file = c.args.file.now.items in
    let p = c.args.p.now in
    let before = piece_bytes p.before.items in
    let behind = piece_bytes p.behind.items in
    let first = c.in_ok-push_piece_bytes.ensures ∙ ap (λ ps. file ++ piece_bytes ps) c.deref.ensures.value in
    let last = c.in_ok-push_piece_bytes-2.ensures ∙ ap (λ ps. c.push_bytes.new.file.items ++ piece_bytes ps) c.deref-2.ensures.value in
    last
    ∙ ap (λ bs. bs ++ behind) (c.in_ok-push_bytes.ensures ∙ ap (λ bs. bs ++ p.text.bytes) first)
    ∙ append_assoc (file ++ before) p.text.bytes behind ∙ append_assoc file before (p.text.bytes ++ behind)
    ∙ ap (λ bs. file ++ bs) (sym (bytes_split (seen p)))
