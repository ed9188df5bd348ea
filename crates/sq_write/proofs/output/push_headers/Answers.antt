use Rattle.std.proofs.Common.{◌≡◌, ◌∙◌, ◌+◌, ◌++◌, ap, sym, length, arith}
use Rattle.sq_write.specs.Output.{piece_bytes, piece_header, piece_headers, pieces_at}
use Rattle.sq_write.specs.Laid.{seen, pieces_in, text_from}
use Rattle.sq_write.proofs.Files.{two}
use Rattle.sq_write.proofs.PieceWalks.{small_parts, text_from_is, headers_split}
use Rattle.sq_write.proofs.output.push_headers.Goals as goal

pub push_piece_header-requires : goal.push_piece_header-requires
push_piece_header-requires c =
    let small = small_parts (seen c.args.p.now) c.requires in
    omega (arith, small.sum)

pub stored-requires : goal.stored-requires
stored-requires c =
    let small = small_parts (seen c.args.p.now) c.requires in
    omega (arith, small.sum)

pub overflow_add-text : goal.overflow_add-text
overflow_add-text c =
    let small = small_parts (seen c.args.p.now) c.requires in
    omega (arith, small.sum, text_from_is (seen c.args.p.now), c.text_at-text.ensures, c.stored.ensures)

pub push_piece_headers-requires-2 : goal.push_piece_headers-requires-2
push_piece_headers-requires-2 c =
    let small = small_parts (seen c.args.p.now) c.requires in
    omega (arith, small.sum, text_from_is (seen c.args.p.now), c.text_at-text.ensures, c.stored.ensures, ap (λ ps. length (piece_bytes ps)) c.deref-2.ensures.value)

pub returns : goal.returns
returns c =
    let file = c.args.file.now.items in
    let p = seen c.args.p.now in
    let start = pieces_at (length (pieces_in (seen c.args.p.now))) in
    let first = c.in_ok-push_piece_headers.ensures ∙ ap (λ ps. file ++ piece_headers c.pieces_end.result ps) c.deref.ensures.value ∙ ap (λ n. file ++ piece_headers n c.args.p.now.before.items) c.pieces_end.ensures in
    let middle = c.in_ok-push_piece_header.ensures ∙ ap (λ n. c.push_piece_headers.new.file.items ++ piece_header n c.args.p.now.text) c.text_at-text.ensures in
    let offset : c.text_at-text.result + c.stored.result ≡ text_from (seen c.args.p.now) + length c.args.p.now.text.bytes = omega (arith, c.text_at-text.ensures, c.stored.ensures) in
    let last = c.in_ok-push_piece_headers-2.ensures ∙ ap (λ ps. c.push_piece_header.new.file.items ++ piece_headers (c.text_at-text.result + c.stored.result) ps) c.deref-2.ensures.value ∙ ap (λ n. c.push_piece_header.new.file.items ++ piece_headers n c.args.p.now.behind.items) offset in
    two file c.push_piece_headers.new.file.items c.push_piece_headers-2.new.file.items (piece_headers start p.before) (piece_header (text_from p) p.text ++ piece_headers (text_from p + length p.text.bytes) p.behind) first
    (two c.push_piece_headers.new.file.items c.push_piece_header.new.file.items c.push_piece_headers-2.new.file.items (piece_header (text_from p) p.text) (piece_headers (text_from p + length p.text.bytes) p.behind) middle last)
    ∙ ap (λ hs. file ++ hs) (sym (headers_split p))
