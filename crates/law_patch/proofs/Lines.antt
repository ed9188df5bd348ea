-- Where names stand among lines, and what addresses lines make, item by item.
use Rattle.std.proofs.Common.{◌≡◌, ℕ, zero, suc, ◌<◌, false, List, [], ◌∷◌, ◌++◌, map, refl, ◌∙◌, subst, arith}
use Rattle.std.specs.List.{Contains}
use Rattle.sq_graph.specs.declared.item.Item.{Item}
use Rattle.sq_graph.specs.declared.item.Item.TheVariants.{Op, Hi, Lo, Out}
use Rattle.sq_graph.specs.declared.item.Term.{Term}
use Rattle.sq_graph.specs.declared.item.Term.TheVariants.{Fall, Jump, Branch, Call, PartJump, Indirect, Stop}
use Rattle.sq_graph.specs.Graph.{Block, Graph}
use Rattle.sq_graph.specs.Lines.{Line, line_of, term_lines, body_lines, has_name, behind_name}
use Rattle.sq_graph.specs.Walks.{code_targets}
use Rattle.law_patch.specs.LiveAgreement.{MakeTargets}

-- names are lines of their own: none stands among items and terms
item_unnamed : (n : ℕ) (item : Item) → has_name n (line_of item) ≡ false
item_unnamed n (Op insn) = refl
item_unnamed n (Hi rd to) = refl
item_unnamed n (Lo rd rs to) = refl
item_unnamed n (Out q) = refl

pub items_unnamed : (n : ℕ) (items : List Item) (rest : List Line) → behind_name n (map line_of items ++ rest) ≡ behind_name n rest
items_unnamed n [] rest = refl
items_unnamed n (item ∷ items) rest = rw (item_unnamed n item) (items_unnamed n items rest)

pub term_unnamed : (n : ℕ) (t : Term) (rest : List Line) → behind_name n (term_lines t rest) ≡ behind_name n rest
term_unnamed n Fall rest = refl
term_unnamed n (Jump to) rest = refl
term_unnamed n (Branch cond x y to) rest = refl
term_unnamed n (Call link to) rest = refl
term_unnamed n (PartJump link part to) rest = refl
term_unnamed n (Indirect link at offset) rest = refl
term_unnamed n (Stop word) rest = refl

pub body_unnamed : (n : ℕ) (b : Block) (rest : List Line) → behind_name n (body_lines b rest) ≡ behind_name n rest
body_unnamed n b rest = items_unnamed n b.items (term_lines b.term rest) ∙ term_unnamed n b.term rest

-- what lines make behind a block
made_items : (g : Graph) (items : List Item) (rest : List Line) → MakeTargets g (map line_of items ++ rest) → MakeTargets g rest
made_items g [] rest m = m
made_items g (Op insn ∷ items) rest m = made_items g items rest m.1
made_items g (Hi rd to ∷ items) rest m = made_items g items rest m.1
made_items g (Lo rd rs to ∷ items) rest m = made_items g items rest m.1
made_items g (Out q ∷ items) rest m = made_items g items rest m

made_term : (g : Graph) (t : Term) (rest : List Line) → MakeTargets g (term_lines t rest) → MakeTargets g rest
made_term g Fall rest m = m
made_term g (Jump to) rest m = m.1
made_term g (Branch cond x y to) rest m = m.1
made_term g (Call link to) rest m = m.1
made_term g (PartJump link part to) rest m = m.1
made_term g (Indirect link at offset) rest m = m.1
made_term g (Stop word) rest m = m.1

pub made_behind : (g : Graph) (items : List Item) (t : Term) (rest : List Line) → MakeTargets g (map line_of items ++ term_lines t rest) → MakeTargets g rest
made_behind g items t rest m = made_term g t rest (made_items g items (term_lines t rest) m)

module _ (g : Graph) where
  abbrev pub AreOf : (Item → Type 0) → List Item → Type 0
  AreOf Q items = (item : Item) → Contains items item → Q item

  -- what is asked of an item that stays
  abbrev pub ItemMakes : Item → Type 0
  ItemMakes (Op insn) = Unit {0}
  ItemMakes (Hi rd to) = Unit {0}
  ItemMakes (Lo rd rs to) = Contains (code_targets g) to
  ItemMakes (Out q) = Unit {0}

  cons_made : (item : Item) (items : List Item) → ItemMakes item → AreOf ItemMakes items → AreOf ItemMakes (item ∷ items)
  cons_made item items m f other (zero, l, e) = subst ItemMakes e m
  cons_made item items m f other (suc i, l, e) = f other (i, omega arith, e)

  -- what lines make, item by item
  pub items_made : (items : List Item) (rest : List Line) → MakeTargets g (map line_of items ++ rest) → AreOf ItemMakes items × MakeTargets g rest
  items_made [] rest m = (λ item c. absurd (let l : c.0 < 0 = c.1 in omega arith), m)
  items_made (Op insn ∷ items) rest m = let t = items_made items rest m.1 in (cons_made (Op insn) items tt t.0, t.1)
  items_made (Hi rd to ∷ items) rest m = let t = items_made items rest m.1 in (cons_made (Hi rd to) items tt t.0, t.1)
  items_made (Lo rd rs to ∷ items) rest m = let t = items_made items rest m.1 in (cons_made (Lo rd rs to) items m.0 t.0, t.1)
  items_made (Out q ∷ items) rest m = let t = items_made items rest m in (cons_made (Out q) items tt t.0, t.1)
