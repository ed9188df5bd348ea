-- Blocks by their places in a graph.
use Rattle.std.proofs.Common.{◌≡◌, ℕ, Bool, true, false, ◌==◌, List, [], ◌∷◌, ◌++◌, Option, Some, None, eq-eqb, if◌then◌else◌, refl, ap, ◌∙◌, subst}
use Rattle.sq_arena.specs.Entries.{value_of, HasDistinctKeys, behind}
use Rattle.sq_arena.proofs.EntriesLaws.{absent_ahead, behind-append}
use Rattle.sq_graph.specs.Graph.{Block}
use Rattle.sq_graph.specs.Blocks.{named}
use Rattle.sq_graph.specs.Lines.{body_lines, lines_of, behind_name}
use Rattle.law_patch.proofs.Lines.{body_unnamed}

-- names ahead of a block
pub named_split : (front : List Block) (x : Block) (bs : List Block) → named (front ++ (x ∷ bs)) ≡ named front ++ (x.name, x) ∷ named bs
named_split [] x bs = refl
named_split (y ∷ front) x bs = ap (λ rest. (y.name, y) ∷ rest) (named_split front x bs)

pub absent_from : (front : List Block) (x : Block) (bs : List Block) → HasDistinctKeys (named (front ++ (x ∷ bs))) → value_of (named front) x.name ≡ None
absent_from front x bs d = absent_ahead (named front) (named bs) x.name x (subst HasDistinctKeys (named_split front x bs) d)

-- a block of another name
pub other_name : (t : Bool) (y : Block) (o : Option Block) → (if t then Some y else o) ≡ None → (t ≡ false) × (o ≡ None)
other_name true y o e = absurd (cc)
other_name false y o e = (refl, e)

pub found_at : (front : List Block) (x : Block) (bs : List Block) → value_of (named front) x.name ≡ None → value_of (named (front ++ (x ∷ bs))) x.name ≡ Some x
found_at [] x bs e = let t : (x.name == x.name) ≡ true = eq-eqb x.name x.name refl in rw t refl
found_at (y ∷ front) x bs e = let o = other_name (y.name == x.name) y (value_of (named front) x.name) e in rw o.0 (found_at front x bs o.1)

pub next_at : (front : List Block) (x : Block) (bs : List Block) → value_of (named front) x.name ≡ None → behind (named (front ++ (x ∷ bs))) x.name ≡ named bs
next_at front x bs e = ap (λ entries. behind entries x.name) (named_split front x bs) ∙ behind-append (named front) (named bs) x.name x e

-- what stands behind a name
pub name_at : (front : List Block) (x : Block) (bs : List Block) → value_of (named front) x.name ≡ None → behind_name x.name (lines_of (front ++ (x ∷ bs))) ≡ body_lines x (lines_of bs)
name_at [] x bs e = let t : (x.name == x.name) ≡ true = eq-eqb x.name x.name refl in rw t refl
name_at (y ∷ front) x bs e =
    let o = other_name (y.name == x.name) y (value_of (named front) x.name) e in
    rw o.0 (body_unnamed x.name y (lines_of (front ++ (x ∷ bs))) ∙ name_at front x bs o.1)

-- every name
abbrev pub every : ℕ → Type 0
every n = Unit {0}
