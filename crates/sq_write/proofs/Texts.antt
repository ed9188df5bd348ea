-- Words that are appended one behind another.
use Rattle.std.proofs.Common.{◌≡◌, ℕ, ◌==◌, List, [], ◌∷◌, ◌++◌, map, refl, sym, ap, ◌∙◌, inl, inr, append_assoc, append-nil}
use Rattle.std.specs.List.{flat_map}
use Rattle.std.proofs.lemmas.Bool.{cases_Bool, eqb-true}
use Rattle.std.proofs.lemmas.List.Concat.{flat_map-append}
use Rattle.byteorder.specs.Endian.{little_bytes}
use Rattle.sq_isa.specs.Encoding.{word_of}
use Rattle.sq_write.specs.Output.{words, Relocation, relocation_table}
use Rattle.sq_write.specs.Points.{Point, point_word, stop_insn}
use Rattle.sq_write.specs.Standing.{Appends}
use Rattle.sq_write.specs.declared.text_bytes.TextBytes.{TextBytes}

pub stop_word : (word : ℕ) → word_of (stop_insn word) ≡ word
unfolding word_of
stop_word word =
    elim (cases_Bool (word == 0x00100073)) [
      | inl same ↦ rw same (sym (eqb-true word 0x00100073 same))
      | inr apart ↦ rw apart refl
    ]

pub map-append : {X Y : Type 0} (f : X → Y) (xs ys : List X) → map f (xs ++ ys) ≡ map f xs ++ map f ys
map-append f [] ys = refl
map-append f (x ∷ xs) ys = ap (λ zs. f x ∷ zs) (map-append f xs ys)

pub relocation_table-append : (rs ss : List Relocation) → relocation_table (rs ++ ss) ≡ relocation_table rs ++ relocation_table ss
relocation_table-append [] ss = refl
relocation_table-append (r ∷ rs) ss =
    ap (λ bytes. words (r.offset ∷ r.kind ∷ r.addend ∷ []) ++ bytes) (relocation_table-append rs ss)
    ∙ sym (append_assoc (words (r.offset ∷ r.kind ∷ r.addend ∷ [])) (relocation_table rs) (relocation_table ss))

abbrev pub text_of : List Point → List ℕ
text_of points = words (map point_word points)

abbrev pub table_of : List Point → List ℕ
table_of points = relocation_table (flat_map (λ p. p.entries) points)

pub text_of-append : (ps qs : List Point) → text_of (ps ++ qs) ≡ text_of ps ++ text_of qs
text_of-append ps qs = ap words (map-append point_word ps qs) ∙ flat_map-append (little_bytes 4) (map point_word ps) (map point_word qs)

pub table_of-append : (ps qs : List Point) → table_of (ps ++ qs) ≡ table_of ps ++ table_of qs
table_of-append ps qs =
    ap relocation_table (flat_map-append (λ (p : Point). p.entries) ps qs)
    ∙ relocation_table-append (flat_map (λ (p : Point). p.entries) ps) (flat_map (λ (p : Point). p.entries) qs)

-- of these points, which are to be appended, the rest is still to come
pub record Leaves (rest points : List Point) (old now : TextBytes) : Type 0 where
  pub text : now.text.items ++ text_of rest ≡ old.text.items ++ text_of points
  pub entries : now.entries.items ++ table_of rest ≡ old.entries.items ++ table_of points

pub leaves_all : (points : List Point) (old : TextBytes) → Leaves points points old old
leaves_all points old = record { text = refl; entries = refl }

pub leaves_none : (points : List Point) (old now : TextBytes) → Leaves [] points old now → Appends points old now
leaves_none points old now left = record {
  text = sym (append-nil now.text.items) ∙ left.text;
  entries = sym (append-nil now.entries.items) ∙ left.entries;
}

pub leaves_less : (first rest points : List Point) (old now next : TextBytes) → Leaves (first ++ rest) points old now → Appends first now next → Leaves rest points old next
leaves_less first rest points old now next left more = record {
  text =
      ap (λ bytes. bytes ++ text_of rest) more.text
      ∙ append_assoc now.text.items (text_of first) (text_of rest)
      ∙ ap (λ bytes. now.text.items ++ bytes) (sym (text_of-append first rest))
      ∙ left.text;
  entries =
      ap (λ bytes. bytes ++ table_of rest) more.entries
      ∙ append_assoc now.entries.items (table_of first) (table_of rest)
      ∙ ap (λ bytes. now.entries.items ++ bytes) (sym (table_of-append first rest))
      ∙ left.entries;
}

pub appends_both : (ps qs : List Point) (old mid now : TextBytes) → Appends ps old mid → Appends qs mid now → Appends (ps ++ qs) old now
appends_both ps qs old mid now first second =
    leaves_none (ps ++ qs) old now
    (leaves_less qs [] (ps ++ qs) old mid now (record {
      text = ap (λ ys. mid.text.items ++ text_of ys) (append-nil qs) ∙ ap (λ xs. xs ++ text_of qs) first.text ∙ append_assoc old.text.items (text_of ps) (text_of qs) ∙ ap (λ ys. old.text.items ++ ys) (sym (text_of-append ps qs));
      entries = ap (λ ys. mid.entries.items ++ table_of ys) (append-nil qs) ∙ ap (λ xs. xs ++ table_of qs) first.entries ∙ append_assoc old.entries.items (table_of ps) (table_of qs) ∙ ap (λ ys. old.entries.items ++ ys) (sym (table_of-append ps qs));
    }) second)
