-- The loop that appends the headers of pieces.
use Rattle.std.proofs.Common.{◌≡◌, ℕ, suc, ◌+◌, ◌*◌, ◌<◌, ◌^◌, List, [], ◌∷◌, ◌++◌, length, drop, get_or, add-one, drop-cons, refl, sym, ap, ◌∙◌, append_assoc, arith, length-append}
use Rattle.sq_write.specs.Laid.{FileParts, IsFew, pieces_in, text_from, contents_from}
use Rattle.sq_write.specs.Output.{Piece, piece_bytes, piece_header, piece_headers, pieces_at}

-- of the headers of these pieces those from one on, at the offset, are still to come
pub record HeadersLeave (pieces : List Piece) (start : ℕ) (old now : List ℕ) (i offset : ℕ) : Type 0 where
  pub offset_is : offset + length (piece_bytes (drop i pieces)) ≡ start + length (piece_bytes pieces)
  pub headers : now ++ piece_headers offset (drop i pieces) ≡ old ++ piece_headers start pieces

pub next_header : (pieces : List Piece) (start : ℕ) (old now next : List ℕ) (i offset size : ℕ) (piece : Piece) → i < length pieces → piece ≡ get_or pieces i piece → size ≡ length piece.bytes → next ≡ now ++ piece_header offset piece → HeadersLeave pieces start old now i offset → HeadersLeave pieces start old next (i + 1) (offset + size)
next_header pieces start old now next i offset size piece within is has more left =
    let rest : drop i pieces ≡ piece ∷ drop (i + 1) pieces = rw add-one (drop-cons pieces i piece within ∙ ap (λ p. p ∷ drop (suc i) pieces) (sym is)) in
    let bytes = ap (λ ps. length (piece_bytes ps)) rest ∙ length-append piece.bytes (piece_bytes (drop (i + 1) pieces)) in
    record {
      offset_is = omega (arith, left.offset_is, bytes, has);
      headers =
          ap (λ bs. bs ++ piece_headers (offset + size) (drop (i + 1) pieces)) more
          ∙ ap (λ n. (now ++ piece_header offset piece) ++ piece_headers (offset + n) (drop (i + 1) pieces)) has
          ∙ append_assoc now (piece_header offset piece) (piece_headers (offset + length piece.bytes) (drop (i + 1) pieces))
          ∙ (rw rest at left.headers);
    }

pub piece_bytes-append : (ps qs : List Piece) → piece_bytes (ps ++ qs) ≡ piece_bytes ps ++ piece_bytes qs
piece_bytes-append [] qs = refl
piece_bytes-append (p ∷ ps) qs = ap (λ bs. p.bytes ++ bs) (piece_bytes-append ps qs) ∙ sym (append_assoc p.bytes (piece_bytes ps) (piece_bytes qs))

pub piece_headers-append : (offset : ℕ) (ps qs : List Piece) → piece_headers offset (ps ++ qs) ≡ piece_headers offset ps ++ piece_headers (offset + length (piece_bytes ps)) qs
piece_headers-append offset [] qs = let e : offset + 0 ≡ offset = omega arith in rw e refl
piece_headers-append offset (p ∷ ps) qs =
    let e : offset + length p.bytes + length (piece_bytes ps) ≡ offset + length (p.bytes ++ piece_bytes ps) = omega (arith, length-append p.bytes (piece_bytes ps)) in
    ap (λ hs. piece_header offset p ++ hs) (piece_headers-append (offset + length p.bytes) ps qs)
    ∙ sym (append_assoc (piece_header offset p) (piece_headers (offset + length p.bytes) ps) (piece_headers (offset + length p.bytes + length (piece_bytes ps)) qs))
    ∙ ap (λ n. piece_headers offset (p ∷ ps) ++ piece_headers n qs) e

-- how many pieces there are, and how many bytes of them in the file
pub count_split : (p : FileParts) → length (pieces_in p) ≡ length p.before + 1 + length p.behind
count_split p = omega (arith, length-append p.before (p.text ∷ p.behind))

pub bytes_split : (p : FileParts) → piece_bytes (pieces_in p) ≡ piece_bytes p.before ++ (p.text.bytes ++ piece_bytes p.behind)
bytes_split p = piece_bytes-append p.before (p.text ∷ p.behind)

pub size_split : (p : FileParts) → length (piece_bytes (pieces_in p)) ≡ length (piece_bytes p.before) + length p.text.bytes + length (piece_bytes p.behind)
size_split p =
    omega (arith, ap length (bytes_split p), length-append (piece_bytes p.before) (p.text.bytes ++ piece_bytes p.behind), length-append p.text.bytes (piece_bytes p.behind))

-- what is asked of the parts bounds each of them
pub record AreSmall (p : FileParts) : Type 0 where
  pub count : length p.before + 1 + length p.behind < 2 ^ 16
  pub sum : 52 + 32 * (length p.before + 1 + length p.behind) + length (piece_bytes p.before) + length p.text.bytes + length (piece_bytes p.behind) + length p.entries + length p.note + 400 < 2 ^ 32

pub small_parts : (p : FileParts) → IsFew p → AreSmall p
small_parts p few = record {
  count = omega (arith, few.pieces, count_split p);
  sum = omega (arith, few.bytes, count_split p, size_split p);
}

pub text_from_is : (p : FileParts) → text_from p ≡ 52 + 32 * (length p.before + 1 + length p.behind) + length (piece_bytes p.before)
text_from_is p = omega (arith, count_split p)

pub contents_from_is : (p : FileParts) → contents_from p ≡ text_from p + length p.text.bytes + length (piece_bytes p.behind)
contents_from_is p = omega (arith, size_split p)

pub headers_split : (p : FileParts) → piece_headers (pieces_at (length (pieces_in p))) (pieces_in p) ≡ piece_headers (pieces_at (length (pieces_in p))) p.before ++ (piece_header (text_from p) p.text ++ piece_headers (text_from p + length p.text.bytes) p.behind)
headers_split p = piece_headers-append (pieces_at (length (pieces_in p))) p.before (p.text ∷ p.behind)
