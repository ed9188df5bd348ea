-- What the fields of a graph tell of a procedure.
use Rattle.std.proofs.Common.{◌≡◌, ℕ, zero, suc, ◌+◌, ◌≤◌, List, [], ◌∷◌, ◌++◌, length, take, drop, Some, refl, sym, ap, ◌∙◌, arith, length-append, length-drop}
use Rattle.std.proofs.lemmas.List.{drop-drop}
use Rattle.std.proofs.lemmas.List.Concat.{flat_map-append}
use Rattle.std.specs.List.{slice_get}
use Rattle.sq_graph.specs.declared.slot.Body.{Body}
use Rattle.sq_graph.specs.declared.graph.Graph.TheInside.{Inside}
use Rattle.sq_graph.specs.Graph.{Procedure}
use Rattle.sq_graph.specs.Blocks.{items_of_bodies}
use Rattle.sq_graph.specs.Slots.{bodies_from}
use Rattle.sq_graph.specs.Layout.{graph_of, IsSound}
use Rattle.sq_graph.proofs.Located.{middle}

-- the procedures fall into those ahead of a number, the one of the number, and those behind it
pub record IsAtNumber (n : ℕ) (ps : List Procedure) (k : ℕ) (body : Body) : Type 0 where
  pub front : List Procedure
  pub procedure : Procedure
  pub back : List Procedure
  pub whole : ps ≡ front ++ procedure ∷ back
  pub ahead : length front ≡ k
  pub is : slice_get ps k ≡ Some procedure
  pub link_is : body.link ≡ procedure.link
  pub length_is : body.length ≡ length procedure.body
  pub start_is : body.start ≡ n + length (items_of_bodies front)

pub body_at : (n : ℕ) (ps : List Procedure) (k : ℕ) (body : Body) → slice_get (bodies_from n ps) k ≡ Some body → IsAtNumber n ps k body
body_at n [] k body found = absurd (cc)
body_at n (p ∷ rest) zero body found =
    record {
      front = [];
      procedure = p;
      back = rest;
      whole = refl;
      ahead = refl;
      is = refl;
      link_is = cc;
      length_is = cc;
      start_is = let e : body.start ≡ n = cc in e ∙ omega arith;
    }
body_at n (p ∷ rest) (suc k) body found =
    let at = body_at (n + length p.body) rest k body found in
    record {
      front = p ∷ at.front;
      procedure = at.procedure;
      back = at.back;
      whole = ap (λ ps. p ∷ ps) at.whole;
      ahead = ap suc at.ahead;
      is = at.is;
      link_is = at.link_is;
      length_is = at.length_is;
      start_is = omega (arith, at.start_is, length-append p.body (items_of_bodies at.front));
    }

pub record ReadsBody (inside : Inside) (number : ℕ) (body : Body) : Type 0 where
  pub procedure : Procedure
  pub is : slice_get (graph_of inside).procedures number ≡ Some procedure
  pub link_is : body.link ≡ procedure.link
  pub length_is : body.length ≡ length procedure.body
  pub within : inside.blocks_end + body.start + body.length ≤ length inside.items.items
  pub slice : take body.length (drop (inside.blocks_end + body.start) inside.items.items) ≡ procedure.body

pub reads_body : (inside : Inside) (number : ℕ) (body : Body) → IsSound inside → slice_get inside.bodies.items number ≡ Some body → ReadsBody inside number body
reads_body inside number body sound found =
    let g = graph_of inside in
    let at = body_at 0 g.procedures number body (ap (λ bs. slice_get bs number) (sym sound.bodies) ∙ found) in
    let whole : drop inside.blocks_end inside.items.items ≡ items_of_bodies at.front ++ (at.procedure.body ++ items_of_bodies at.back) =
    sound.behind
    ∙ ap (λ ps. items_of_bodies ps) at.whole
    ∙ flat_map-append (λ p. p.body) at.front (at.procedure ∷ at.back) in
    let start : body.start ≡ length (items_of_bodies at.front) = omega (arith, at.start_is) in
    record {
      procedure = at.procedure;
      is = at.is;
      link_is = at.link_is;
      length_is = at.length_is;
      within = omega (arith, sound.gaps.within, start, at.length_is, ap (λ is. length is) whole, length-drop inside.blocks_end inside.items.items, length-append (items_of_bodies at.front) (at.procedure.body ++ items_of_bodies at.back), length-append at.procedure.body (items_of_bodies at.back));
      slice =
          ap (take body.length) (sym (drop-drop body.start inside.blocks_end inside.items.items) ∙ ap (drop body.start) whole)
          ∙ ap (λ n. take n (drop body.start (items_of_bodies at.front ++ (at.procedure.body ++ items_of_bodies at.back)))) at.length_is
          ∙ ap (λ n. take (length at.procedure.body) (drop n (items_of_bodies at.front ++ (at.procedure.body ++ items_of_bodies at.back)))) start
          ∙ middle (items_of_bodies at.front) at.procedure.body (items_of_bodies at.back);
    }
