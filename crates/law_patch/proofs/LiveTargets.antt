-- The addresses that a graph makes are those of its code targets.
use Rattle.std.proofs.Common.{◌≡◌, ℕ, zero, suc, Bool, true, false, List, [], ◌∷◌, ◌++◌, Option, Some, None, map, drop, slice_get, if◌then◌else◌, refl, sym, subst, arith}
use Rattle.std.specs.List.{Contains, flat_map}
use Rattle.std.proofs.lemmas.List.Elements.{Contains-append_left, Contains-append_right}
use Rattle.sq_graph.specs.declared.item.Item.{Item}
use Rattle.sq_graph.specs.declared.item.Item.TheVariants.{Op, Hi, Lo, Out}
use Rattle.sq_graph.specs.declared.item.Term.{Term}
use Rattle.sq_graph.specs.declared.item.Term.TheVariants.{Fall, Jump, Branch, Call, PartJump, Indirect, Stop}
use Rattle.sq_graph.specs.Graph.{Block, Procedure, Graph}
use Rattle.sq_graph.specs.Terms.{links}
use Rattle.sq_graph.specs.Lines.{Line, Name, Do, Enter, Return, End, line_of, term_lines, lines_of, inside, has_name, behind_name, slot_name, block_lines, place_lines}
use Rattle.sq_graph.specs.Walks.{word_name, lower_names, link_names, first_name, code_targets}
use Rattle.law_patch.specs.LiveAgreement.{SlotIsTarget, MakeTargets}

contains_head : {X : Type 0} (x : X) (xs : List X) → Contains (x ∷ xs) x
contains_head x xs = (0, omega arith, refl)

module _ (g : Graph) where
  -- the names of these are code targets
  abbrev pub AreTargets : List ℕ → Type 0
  AreTargets names = (n : ℕ) → Contains names n → Contains (code_targets g) n

  left_targets : (xs ys : List ℕ) → AreTargets (xs ++ ys) → AreTargets xs
  left_targets xs ys h n c = h n (Contains-append_left xs ys n c)

  right_targets : (xs ys : List ℕ) → AreTargets (xs ++ ys) → AreTargets ys
  right_targets xs ys h n c = h n (Contains-append_right xs ys n c)

  pub items_make : (items : List Item) (rest : List Line) → AreTargets (flat_map lower_names items) → MakeTargets g rest → MakeTargets g (map line_of items ++ rest)
  items_make [] rest h r = r
  items_make (Op insn ∷ items) rest h r = (tt, items_make items rest h r)
  items_make (Hi rd to ∷ items) rest h r = (tt, items_make items rest h r)
  items_make (Lo rd rs to ∷ items) rest h r = (h to (contains_head to (flat_map lower_names items)), items_make items rest (right_targets (to ∷ []) (flat_map lower_names items) h) r)
  items_make (Out procedure ∷ items) rest h r = items_make items rest h r

  -- the next slot
  abbrev slot_names : Option ℕ → List ℕ
  slot_names None = []
  slot_names (Some n) = n ∷ []

  slot_makes : (slot : Option ℕ) → AreTargets (slot_names slot) → SlotIsTarget g slot
  slot_makes None h = tt
  slot_makes (Some n) h = h n (contains_head n [])

  linked : (t : Bool) (names : List ℕ) → AreTargets (if t then names else []) → t ≡ true → AreTargets names
  linked true names h e = h
  linked false names h e = absurd (cc)

  term_makes : (term : Term) (rest : List Line) → (links term ≡ true → SlotIsTarget g (slot_name rest)) → MakeTargets g rest → MakeTargets g (term_lines term rest)
  term_makes Fall rest h r = r
  term_makes (Jump to) rest h r = (h, r)
  term_makes (Branch cond a b to) rest h r = (h, r)
  term_makes (Call link to) rest h r = (h, r)
  term_makes (PartJump link part to) rest h r = (h, r)
  term_makes (Indirect link at offset) rest h r = (h, r)
  term_makes (Stop word) rest h r = (h, r)

  first_slot : (blocks : List Block) → slot_names (slot_name (lines_of blocks)) ≡ first_name blocks
  first_slot [] = refl
  first_slot (block ∷ blocks) = refl

  abbrev block_targets : Block → List ℕ
  block_targets block = flat_map lower_names block.items

  blocks_make : (blocks : List Block) → AreTargets (flat_map block_targets blocks) → AreTargets (link_names blocks) → MakeTargets g (lines_of blocks)
  blocks_make [] h k = tt
  blocks_make (block ∷ blocks) h k =
      let slots : links block.term ≡ true → SlotIsTarget g (slot_name (lines_of blocks)) =
      λ e. slot_makes (slot_name (lines_of blocks)) (subst AreTargets (sym (first_slot blocks)) (linked (links block.term) (first_name blocks) (left_targets (if links block.term then first_name blocks else []) (link_names blocks) k) e)) in
      items_make block.items (term_lines block.term (lines_of blocks)) (left_targets (block_targets block) (flat_map block_targets blocks) h)
      (term_makes block.term (lines_of blocks) slots (blocks_make blocks (right_targets (block_targets block) (flat_map block_targets blocks) h) (right_targets (if links block.term then first_name blocks else []) (link_names blocks) k)))

  -- the parts of the code targets
  abbrev procedure_targets : Procedure → List ℕ
  procedure_targets procedure = flat_map lower_names procedure.body

  abbrev words_part : List ℕ
  words_part = map word_name g.code_words

  abbrev blocks_part : List ℕ
  blocks_part = flat_map block_targets g.blocks

  abbrev procedures_part : List ℕ
  procedures_part = flat_map procedure_targets g.procedures

  all_parts : AreTargets (((words_part ++ blocks_part) ++ procedures_part) ++ link_names g.blocks)
  all_parts n c = c

  ahead_of_links : AreTargets ((words_part ++ blocks_part) ++ procedures_part)
  ahead_of_links = left_targets ((words_part ++ blocks_part) ++ procedures_part) (link_names g.blocks) all_parts

  -- the names of code words are code targets
  pub word_target : (n : ℕ) → Contains (map word_name g.code_words) n → Contains (code_targets g) n
  word_target = left_targets words_part blocks_part (left_targets (words_part ++ blocks_part) procedures_part ahead_of_links)

  block_part : AreTargets blocks_part
  block_part = right_targets words_part blocks_part (left_targets (words_part ++ blocks_part) procedures_part ahead_of_links)

  procedure_names_part : AreTargets procedures_part
  procedure_names_part = right_targets (words_part ++ blocks_part) procedures_part ahead_of_links

  link_part : AreTargets (link_names g.blocks)
  link_part = right_targets ((words_part ++ blocks_part) ++ procedures_part) (link_names g.blocks) all_parts

  pub lines_make : MakeTargets g (lines_of g.blocks)
  lines_make = blocks_make g.blocks block_part link_part

  -- what stands behind a name, and from a place on
  tail_makes : (line : Line) (rest : List Line) → MakeTargets g (line ∷ rest) → MakeTargets g rest
  tail_makes (Name n) rest h = h
  tail_makes (Do half insn) rest h = h.1
  tail_makes (Enter procedure) rest h = h
  tail_makes (Return link) rest h = h
  tail_makes (End term) rest h = h.1

  if_make : (t : Bool) (xs ys : List Line) → MakeTargets g xs → MakeTargets g ys → MakeTargets g (if t then xs else ys)
  if_make true xs ys h k = h
  if_make false xs ys h k = k

  behind_makes : (n : ℕ) (lines : List Line) → MakeTargets g lines → MakeTargets g (behind_name n lines)
  behind_makes n [] h = tt
  behind_makes n (line ∷ lines) h = if_make (has_name n line) lines (behind_name n lines) (tail_makes line lines h) (behind_makes n lines (tail_makes line lines h))

  drop_makes : (i : ℕ) (lines : List Line) → MakeTargets g lines → MakeTargets g (drop i lines)
  drop_makes zero lines h = h
  drop_makes (suc i) [] h = tt
  drop_makes (suc i) (line ∷ lines) h = drop_makes i lines (tail_makes line lines h)

  pub block_makes : (n : ℕ) → MakeTargets g (block_lines g n)
  block_makes n = behind_makes n (lines_of g.blocks) lines_make

  pub place_makes : (block place : ℕ) → MakeTargets g (place_lines g block place)
  place_makes block place = drop_makes place (block_lines g block) (block_makes block)

  -- a procedure's body
  procedure_part : (procedures : List Procedure) (i : ℕ) (procedure : Procedure) → slice_get procedures i ≡ Some procedure → AreTargets (flat_map procedure_targets procedures) → AreTargets (procedure_targets procedure)
  procedure_part [] i procedure e h = absurd (cc)
  procedure_part (p ∷ procedures) zero procedure e h =
      let same : p ≡ procedure = let f : Some p ≡ Some procedure = e in cc in
      subst (λ q. AreTargets (procedure_targets q)) same (left_targets (procedure_targets p) (flat_map procedure_targets procedures) h)
  procedure_part (p ∷ procedures) (suc i) procedure e h = procedure_part procedures i procedure e (right_targets (procedure_targets p) (flat_map procedure_targets procedures) h)

  pub inside_makes : (i : ℕ) (procedure : Procedure) (rest : List Line) → slice_get g.procedures i ≡ Some procedure → MakeTargets g rest → MakeTargets g (inside procedure rest)
  inside_makes i procedure rest e r =
      items_make procedure.body (Return procedure.link ∷ rest) (procedure_part g.procedures i procedure e procedure_names_part) r
