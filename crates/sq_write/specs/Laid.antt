-- The output file as it is laid out from its parts. No public clause cites this module.
use Rattle.std.specs.Prelude.{◌≡◌, ◌<◌, ◌^◌, ℕ, ◌+◌, List, [], ◌∷◌, ◌++◌, length}
use Rattle.sq_write.specs.Output.{words, Piece, Output, pieces_at, piece_bytes, piece_headers, text_piece, relocation_table, symbol_table, symbol_names, section_names, note_kind, file_header, layout, offsets, end_of}
use Rattle.sq_write.specs.declared.file_parts.FileParts.{FileParts as Held}
use Rattle.sq_write.specs.declared.layout.Layout.{Layout}

-- what is written: where a run starts, the pieces with text among them, and the bytes of the relocation entries and of the note
pub record FileParts : Type 0 where
  pub entry : ℕ
  pub before : List Piece
  pub text : Piece
  pub behind : List Piece
  pub entries : List ℕ
  pub note : List ℕ

-- as the code has them
abbrev pub seen : Held → FileParts
seen p = record {
  entry = p.entry;
  before = p.before.items;
  text = p.text;
  behind = p.behind.items;
  entries = p.entries.items;
  note = p.note.items;
}

abbrev pub parts_of : Output → FileParts
parts_of o = record {
  entry = o.entry;
  before = o.before;
  text = text_piece o;
  behind = o.after;
  entries = relocation_table o.relocations;
  note = o.note;
}

abbrev pub pieces_in : FileParts → List Piece
pieces_in p = p.before ++ p.text ∷ p.behind

abbrev pub contents_in : FileParts → List (List ℕ)
contents_in p = symbol_table ∷ symbol_names ∷ p.entries ∷ p.note ∷ section_names ∷ []

-- where the contents begin, and where the bytes of text do
abbrev pub contents_from : FileParts → ℕ
contents_from p = pieces_at (length (pieces_in p)) + length (piece_bytes (pieces_in p))

abbrev pub text_from : FileParts → ℕ
text_from p = pieces_at (length (pieces_in p)) + length (piece_bytes p.before)

-- where everything stands
pub record IsLaid (p : FileParts) (l : Layout) : Type 0 where
  pub text : l.text ≡ text_from p
  pub places : offsets (contents_from p) (contents_in p) ≡ l.symbols ∷ l.symbol_names ∷ l.entries ∷ l.note ∷ l.section_names ∷ []
  pub sections : l.sections ≡ end_of (contents_from p) (contents_in p)

-- few enough parts for the fields of 16 and of 32 bits
pub record IsFew (p : FileParts) : Type 0 where
  pub pieces : length (pieces_in p) < 2 ^ 16
  pub bytes : contents_from p + length p.entries + length p.note + 400 < 2 ^ 32

-- the seven section headers
unfoldable pub section_headers : FileParts → Layout → List ℕ
section_headers p l =
    words (0 ∷ 0 ∷ 0 ∷ 0 ∷ 0 ∷ 0 ∷ 0 ∷ 0 ∷ 0 ∷ 0 ∷ [])
    ++ (words (1 ∷ 1 ∷ 6 ∷ p.text.address ∷ l.text ∷ length p.text.bytes ∷ 0 ∷ 0 ∷ 4 ∷ 0 ∷ [])
    ++ (words (7 ∷ 2 ∷ 0 ∷ 0 ∷ l.symbols ∷ 16 ∷ 3 ∷ 1 ∷ 4 ∷ 16 ∷ [])
    ++ (words (15 ∷ 3 ∷ 0 ∷ 0 ∷ l.symbol_names ∷ 1 ∷ 0 ∷ 0 ∷ 1 ∷ 0 ∷ [])
    ++ (words (23 ∷ 4 ∷ 0 ∷ 0 ∷ l.entries ∷ length p.entries ∷ 2 ∷ 1 ∷ 4 ∷ 12 ∷ [])
    ++ (words (34 ∷ note_kind ∷ 0 ∷ 0 ∷ l.note ∷ length p.note ∷ 0 ∷ 0 ∷ 4 ∷ 0 ∷ [])
    ++ words (43 ∷ 3 ∷ 0 ∷ 0 ∷ l.section_names ∷ 53 ∷ 0 ∷ 0 ∷ 1 ∷ 0 ∷ []))))))

-- the file of these parts, where everything stands as it is laid
unfoldable pub file_of : FileParts → Layout → List ℕ
file_of p l =
    file_header p.entry (length (pieces_in p)) l.sections
    ++ (piece_headers (pieces_at (length (pieces_in p))) (pieces_in p)
    ++ (piece_bytes (pieces_in p) ++ layout (contents_from p) (contents_in p ++ section_headers p l ∷ [])))

pub record IsFile (p : FileParts) (file : List ℕ) : Type 0 where
  pub laid : Layout
  pub is_laid : IsLaid p laid
  pub is : file ≡ file_of p laid
