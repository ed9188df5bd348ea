-- Items in parts, and a block's lines in two halves.
use Rattle.std.proofs.Common.{◌≡◌, ◌≢◌, ℕ, zero, suc, ◌<◌, Bool, true, false, ◌==◌, List, [], ◌∷◌, ◌++◌, map, take, drop, if◌then◌else◌, refl, sym, ap, ◌∙◌, arith}
use Rattle.std.proofs.lemmas.Bool.{ne_eqb}
use Rattle.std.specs.List.{Contains}
use Rattle.sq_graph.specs.declared.item.Item.{Item}
use Rattle.sq_graph.specs.Graph.{Block}
use Rattle.sq_graph.specs.Lines.{Line, Name, line_of, term_lines, behind_name}
use Rattle.law_patch.proofs.Lines.{items_unnamed, term_unnamed}
use Rattle.law_patch.proofs.Used.{contains_later}

-- the lines of items in two parts
pub map_parts : (items : List Item) (at : ℕ) (rest : List Line) → map line_of items ++ rest ≡ map line_of (take at items) ++ (map line_of (drop at items) ++ rest)
map_parts items zero rest = refl
map_parts [] (suc at) rest = refl
map_parts (item ∷ items) (suc at) rest = ap (λ lines. line_of item ∷ lines) (map_parts items at rest)

pub take_in : (items : List Item) (at : ℕ) (item : Item) → Contains (take at items) item → Contains items item
take_in items zero item c = absurd (let l : c.0 < 0 = c.1 in omega arith)
take_in [] (suc at) item c = c
take_in (x ∷ items) (suc at) item (zero, l, e) = (zero, omega arith, e)
take_in (x ∷ items) (suc at) item (suc i, l, e) = contains_later x item items (take_in items at item (i, omega arith, e))

pub drop_in : (items : List Item) (at : ℕ) (item : Item) → Contains (drop at items) item → Contains items item
drop_in items zero item c = c
drop_in [] (suc at) item c = c
drop_in (x ∷ items) (suc at) item c = contains_later x item items (drop_in items at item c)

-- another name is passed by
skip_name : (t : Bool) (rest : List Line) (n : ℕ) → t ≡ false → (if t then rest else behind_name n rest) ≡ behind_name n rest
skip_name true rest n e = absurd (cc)
skip_name false rest n e = refl

-- a block's lines in two halves; but for the new one, names lead past them
abbrev pub halved : ℕ → ℕ → Block → List Line → List Line
halved new at b rest = map line_of (take at b.items) ++ (Name new ∷ (map line_of (drop at b.items) ++ term_lines b.term rest))

pub halves_through : (new at n : ℕ) (b : Block) (rest : List Line) → n ≢ new → behind_name n (halved new at b rest) ≡ behind_name n rest
halves_through new at n b rest e =
    items_unnamed n (take at b.items) (Name new ∷ (map line_of (drop at b.items) ++ term_lines b.term rest))
    ∙ skip_name (new == n) (map line_of (drop at b.items) ++ term_lines b.term rest) n (ne_eqb new n (λ i. e (sym i)))
    ∙ (items_unnamed n (drop at b.items) (term_lines b.term rest) ∙ term_unnamed n b.term rest)

-- the lines of two lists of items, and of three
two_lists : (by ys : List Item) (rest : List Line) → map line_of (by ++ ys) ++ rest ≡ map line_of by ++ (map line_of ys ++ rest)
two_lists [] ys rest = refl
two_lists (x ∷ by) ys rest = ap (λ lines. line_of x ∷ lines) (two_lists by ys rest)

-- the lines of items with others in the place of one
pub with_others : (xs by ys : List Item) (rest : List Line) → map line_of (xs ++ (by ++ ys)) ++ rest ≡ map line_of xs ++ (map line_of by ++ (map line_of ys ++ rest))
with_others (x ∷ xs) by ys rest = ap (λ lines. line_of x ∷ lines) (with_others xs by ys rest)
with_others [] by ys rest = two_lists by ys rest
