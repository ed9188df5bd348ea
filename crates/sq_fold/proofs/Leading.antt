-- Where places lead, as the code looks it up; and the nodes of the first places of a line.
use Rattle.std.proofs.Common.{◌≡◌, ℕ, ◌+◌, ◌<◌, ◌≤◌, true, false, inl, inr, List, [], ◌∷◌, ◌++◌, length, length-append, get_or, ◌^◌, nat_lt, Option, None, Some, slice_get, refl, sym, ap, ◌∙◌, arith}
use Rattle.std.specs.Option.{option_and_then, option_flatten}
use Rattle.std.proofs.lemmas.Bool.{cases_lt}
use Rattle.std.proofs.lemmas.Bool.Decides.{nat_tests}
use Rattle.std.proofs.lemmas.Option.{slice_get-get_or, slice_get_past, slice_get_within}
use Rattle.sq_graph.specs.declared.item.Item.{Item}
use Rattle.sq_graph.specs.declared.item.Term.{Term}
use Rattle.sq_graph.specs.Blocks.{HasBlock, items_of, items_of_blocks, items_of_bodies, all_items, term_of, next_of}
use Rattle.sq_graph.specs.Graph.{Graph}
use Rattle.sq_finger.specs.declared.places.WindowAt.{WindowAt}
use Rattle.sq_finger.specs.Numbers.{member_at}
use Rattle.sq_finger.proofs.Layouts.{items_within}
use Rattle.sq_finger.proofs.Telling.{get_front}
use Rattle.sq_fold.specs.declared.rounds.Node.{Node}
use Rattle.sq_fold.specs.Nodes.{At, slot_of, start_of, term_leads, leads_on, leads_by, leads_at, item_name, node_of, AreNodes}

some_same : {X : Type 0} {x y : X} → Some x ≡ Some y → x ≡ y
some_same e = cc

pub item_here : (items all : List Item) (k : ℕ) (item : Item) → items ≡ all → true ≡ nat_lt k (length items) → item ≡ get_or items k item → slice_get all k ≡ Some item
item_here items all k item e l f =
    let near : k < length items = grind (arith, nat_tests) in
    ap (λ is. slice_get is k) (sym e) ∙ slice_get-get_or items k item near ∙ ap Some (sym f)

pub no_item : (items all : List Item) (k : ℕ) → items ≡ all → false ≡ nat_lt k (length items) → slice_get all k ≡ None
no_item items all k e l =
    let past : length items ≤ k = grind (arith, nat_tests) in
    ap (λ is. slice_get is k) (sym e) ∙ slice_get_past items k past

pub few_at : (g : Graph) (block k items : ℕ) (all : List Item) → HasBlock g block → all ≡ items_of g block → true ≡ nat_lt k (length all) → length (all_items g) + items < 2 ^ 29 → k + 1 < 2 ^ 32
few_at g block k items all has e l small =
    let near : k < length all = grind (arith, nat_tests) in
    let same = ap length e in
    let within = items_within g block has in
    let whole = length-append (items_of_blocks g.blocks) (items_of_bodies g.procedures) in
    omega arith

pub item_leads : (g : Graph) (place : WindowAt) (item : Item) (name : Option ℕ) (start : Option At) → slice_get (items_of g place.block) place.at ≡ Some item → name ≡ item_name item → start ≡ start_of name → (Some (place.block, place.at + 1), start) ≡ leads_at g place
item_leads g place item name start at named is = ap (λ o. (Some (place.block, place.at + 1), o)) (is ∙ ap start_of named) ∙ sym (ap (leads_by g place) at)

pub term_leads_there : (g : Graph) (place : WindowAt) (term : Term) (slot : Option ℕ) (leads : Option ℕ × Option ℕ) (next target : Option At) → slice_get (items_of g place.block) place.at ≡ None → term_of g place.block ≡ Some term
    → slot ≡ slot_of (term_of g place.block) (next_of g place.block) → leads ≡ term_leads (Some term) slot → next ≡ start_of leads.0 → target ≡ start_of leads.1 → (next, target) ≡ leads_at g place
term_leads_there g place term slot leads next target at is slotted led starts ends =
    let whole : leads ≡ leads_on g place.block = led ∙ ap (λ s. term_leads (Some term) s) slotted ∙ ap (λ t. term_leads t (slot_of (term_of g place.block) (next_of g place.block))) (sym is) in
    let first : next ≡ start_of (leads_on g place.block).0 = starts ∙ ap (λ l. start_of l.0) whole in
    let second : target ≡ start_of (leads_on g place.block).1 = ends ∙ ap (λ l. start_of l.1) whole in
    rw (first, second) (sym (ap (leads_by g place) at))

-- ---- the nodes of so many places

pub record NodesTo (g : Graph) (line : List WindowAt) (labels : List (Option ℕ)) (find : At → Option ℕ) (i : ℕ) (nodes : List Node) : Type 0 where
  pub many : length nodes ≡ i
  pub each : (k : ℕ) (p : WindowAt) → k < i → slice_get line k ≡ Some p → slice_get nodes k ≡ Some (node_of find (member_at labels k) (leads_at g p))

last_of : (nodes : List Node) (node : Node) → slice_get (nodes ++ node ∷ []) (length nodes) ≡ Some node
last_of [] node = refl
last_of (x ∷ nodes) node = last_of nodes node

pub nodes_next : (g : Graph) (line : List WindowAt) (labels : List (Option ℕ)) (find : At → Option ℕ) (i : ℕ) (place : WindowAt) (nodes : List Node) (node : Node) → NodesTo g line labels find i nodes
    → slice_get line i ≡ Some place → node ≡ node_of find (member_at labels i) (leads_at g place) → NodesTo g line labels find (i + 1) (nodes ++ node ∷ [])
nodes_next g line labels find i place nodes node so here is = record {
  many = let l = so.many in let m = length-append nodes (node ∷ []) in omega arith;
  each = λ k p l e. elim (cases_lt k i) [
    | inl less ↦ get_front nodes (node ∷ []) k (let m = so.many in omega arith) ∙ so.each k p less e
    | inr past ↦
        let same : k ≡ i = omega arith in
        let at : k ≡ length nodes = let m = so.many in omega arith in
        let one : p ≡ place = some_same (sym e ∙ ap (slice_get line) same ∙ here) in
        ap (slice_get (nodes ++ node ∷ [])) at ∙ last_of nodes node ∙ ap Some (is ∙ ap (λ j. node_of find (member_at labels j) (leads_at g place)) (sym same) ∙ ap (λ q. node_of find (member_at labels k) (leads_at g q)) (sym one))
  ];
}

pub nodes_end : (g : Graph) (line : List WindowAt) (labels : List (Option ℕ)) (find : At → Option ℕ) (i : ℕ) (nodes : List Node) → NodesTo g line labels find i nodes → length line ≤ i → i ≤ length line → AreNodes g line labels find nodes
nodes_end g line labels find i nodes so past within = record {
  many = let l = so.many in omega arith;
  each = λ k p e. so.each k p (let l = slice_get_within line k p e in omega arith) e;
}

pub label_at : (labels : List (Option ℕ)) (i : ℕ) → i < length labels → get_or labels i None ≡ member_at labels i
label_at labels i l = ap option_flatten (sym (slice_get-get_or labels i None l))

pub node_made : (g : Graph) (labels : List (Option ℕ)) (find : At → Option ℕ) (i : ℕ) (place : WindowAt) (label : Option ℕ) (leads : Option At × Option At) (next target : Option ℕ) → label ≡ member_at labels i → leads ≡ leads_at g place
    → next ≡ option_and_then find leads.0 → target ≡ option_and_then find leads.1 → record { label = label; next = next; target = target } ≡ node_of find (member_at labels i) (leads_at g place)
node_made g labels find i place label leads next target is led first second =
    let one : next ≡ option_and_then find (leads_at g place).0 = first ∙ ap (λ l. option_and_then find l.0) led in
    let two : target ≡ option_and_then find (leads_at g place).1 = second ∙ ap (λ l. option_and_then find l.1) led in
    rw (is, one, two) refl
