-- A graph whose blocks have other names, and that may have more procedures, follows it.
use Rattle.std.proofs.Common.{◌≡◌, ℕ, zero, suc, ◌<◌, Bool, true, false, ◌==◌, if◌then◌else◌, List, [], ◌∷◌, ◌++◌, Some, None, map, slice_get, ◌+◌, refl, sym, ap, ◌∙◌, subst, arith, ne_eqb}
use Rattle.std.specs.Prelude.{IsSome}
use Rattle.std.proofs.lemmas.Bool.{eq-eqb, eqb-true, eqb-false}
use Rattle.std.specs.List.{Contains, slice_range}
use Rattle.sq_arena.specs.Entries.{value_of}
use Rattle.sq_graph.specs.Graph.{Block, Procedure, Graph}
use Rattle.sq_graph.specs.Blocks.{HasBlock, named, items_of}
use Rattle.sq_graph.specs.Uses.{uses}
use Rattle.sq_graph.specs.Rules.{IsGraph}
use Rattle.sq_graph.specs.Renames.{retargeted_procedure, renamed_block, renamed}
use Rattle.sq_graph.specs.Lines.{body_lines, lines_of, behind_name, slot_name}
use Rattle.law_follow.specs.Follows.{Follows}
use Rattle.law_patch.specs.LiveAgreement.{MakeTargets}
use Rattle.law_patch.specs.Changes.{Change, Alike, ends, name_before, name_after}
use Rattle.law_patch.specs.Operations.{KeepsStep, RenameFollows, RenameKeepsStep, OutlineFollows}
use Rattle.sq_graph.proofs.Bypassing.{retargeted_same}
use Rattle.law_patch.proofs.LiveTargets.{lines_make}
use Rattle.law_patch.proofs.Lines.{body_unnamed}
use Rattle.law_patch.proofs.Changing.{ahead, in_tail, tail_made}
use Rattle.law_patch.proofs.Moving.{M, SlotMoves, move_body, moved_follows, moved_keeps_step, procedure_moved}
use Rattle.law_patch.proofs.Used.{contains_first, from_all}

-- a block of the list has its name
there : (blocks : List Block) (x : Block) → Contains blocks x → IsSome (value_of (named blocks) x.name)
there [] x c = absurd (let l : c.0 < 0 = c.1 in omega arith)
there (y ∷ blocks) x (zero, l, e) = let q : y ≡ x = e in let same : (y.name == x.name) ≡ true = eq-eqb y.name x.name (ap (λ (b : Block). b.name) q) in rw same refl
there (y ∷ blocks) x (suc i, l, e) = go (y.name == x.name) (there blocks x (i, omega (arith, l), e))
  where
    go : (b : Bool) → IsSome (value_of (named blocks) x.name) → IsSome (if b then Some y else value_of (named blocks) x.name)
    go true h = refl
    go false h = h

module _ (g : Graph) (f : ℕ → ℕ) (rules : IsGraph g) (apart : (m n : ℕ) → HasBlock g m → HasBlock g n → f m ≡ f n → m ≡ n) (procedures : List Procedure) (called : (q : ℕ) (p : Procedure) → slice_get g.procedures q ≡ Some p → slice_get procedures q ≡ Some (retargeted_procedure f p)) where
  abbrev h : Graph
  h = record (renamed f g) { procedures = procedures }

  used : (n : ℕ) → Contains (uses g) n → HasBlock g n
  used n c = from_all (HasBlock g) (uses g) n rules.named_all c

  abbrev C : Change
  C = M (HasBlock g) f g h rules used called

  abbrev others : List Block → List Block
  others blocks = map (renamed_block f) blocks

  has_name : (x : Block) → Contains g.blocks x → HasBlock g x.name
  has_name x c = there g.blocks x c

  in_graph : (front : List Block) (x : Block) (bs : List Block) → front ++ (x ∷ bs) ≡ g.blocks → Contains g.blocks x
  in_graph front x bs e = subst (λ blocks. Contains blocks x) e (in_tail front (x ∷ bs) x (contains_first x bs))

  made : (front bs : List Block) → front ++ bs ≡ g.blocks → MakeTargets g (lines_of bs)
  made front bs e = tail_made g front bs (subst (λ blocks. MakeTargets g (lines_of blocks)) (sym e) (lines_make g))

  slots : (front bs : List Block) → front ++ bs ≡ g.blocks → SlotMoves (HasBlock g) f g h rules used called (slot_name (lines_of bs)) (slot_name (lines_of (others bs)))
  slots front [] e = tt
  slots front (x ∷ bs) e = (refl, has_name x (in_graph front x bs e))

  body : {b : Bool} (front : List Block) (x : Block) (bs : List Block) → front ++ (x ∷ bs) ≡ g.blocks → Alike C b None (lines_of bs) (lines_of (others bs)) → Alike C b None (body_lines x (lines_of bs)) (body_lines (renamed_block f x) (lines_of (others bs)))
  body front x bs e p = move_body (HasBlock g) f g h rules used called x (lines_of bs) (lines_of (others bs)) (in_graph front x bs e) (made front (x ∷ bs) e) (λ l. slots (front ++ x ∷ []) bs (ahead front x bs ∙ e)) p

  all_lines : {b : Bool} (front bs : List Block) → front ++ bs ≡ g.blocks → Alike C b None (lines_of bs) (lines_of (others bs))
  all_lines front [] e = ends
  all_lines front (x ∷ bs) e = name_before (name_after (body front x bs e (all_lines (front ++ x ∷ []) bs (ahead front x bs ∙ e))))

  -- a name leads to the lines of the other name's block
  behind : (n : ℕ) → HasBlock g n → (front bs : List Block) → front ++ bs ≡ g.blocks → Alike C false None (behind_name n (lines_of bs)) (behind_name (f n) (lines_of (others bs)))
  behind n has front [] e = ends
  behind n has front (x ∷ bs) e = go (x.name == n) refl (behind n has (front ++ x ∷ []) bs (ahead front x bs ∙ e))
    where
      go : (b : Bool) → (x.name == n) ≡ b → Alike C false None (behind_name n (lines_of bs)) (behind_name (f n) (lines_of (others bs))) → Alike C false None (behind_name n (lines_of (x ∷ bs))) (behind_name (f n) (lines_of (others (x ∷ bs))))
      go true q rec =
          let same : (f x.name == f n) ≡ true = eq-eqb (f x.name) (f n) (ap f (eqb-true x.name n q)) in
          rw (q, same) (body front x bs e (all_lines (front ++ x ∷ []) bs (ahead front x bs ∙ e)))
      go false q rec =
          let differ : (f x.name == f n) ≡ false = ne_eqb (f x.name) (f n) (λ k. eqb-false x.name n q (apart x.name n (has_name x (in_graph front x bs e)) has k)) in
          rw (q, differ)
          (subst (λ xs. Alike C false None xs (behind_name (f n) (body_lines (renamed_block f x) (lines_of (others bs))))) (sym (body_unnamed n x (lines_of bs)))
          (subst (λ ys. Alike C false None (behind_name n (lines_of bs)) ys) (sym (body_unnamed (f n) (renamed_block f x) (lines_of (others bs)))) rec))

  pub renamed_follows : Follows g h
  renamed_follows = moved_follows (HasBlock g) f g h rules used called (λ n has. behind n has [] g.blocks refl) refl refl

  pub renamed_keeps_step : KeepsStep g h
  renamed_keeps_step = moved_keeps_step (HasBlock g) f g h rules used called (λ n has. behind n has [] g.blocks refl) refl refl

pub rename_keeps_step : RenameKeepsStep
rename_keeps_step g f rules apart = renamed_keeps_step g f rules apart (map (retargeted_procedure f) g.procedures) (procedure_moved f g.procedures)

pub rename_follows : RenameFollows
rename_follows g f rules apart = renamed_follows g f rules apart (map (retargeted_procedure f) g.procedures) (procedure_moved f g.procedures)

-- more procedures behind those of a list
pub still_there : (ps more : List Procedure) (q : ℕ) (p : Procedure) → slice_get ps q ≡ Some p → slice_get (ps ++ more) q ≡ Some p
still_there [] more q p e = absurd (cc)
still_there (x ∷ ps) more zero p e = e
still_there (x ∷ ps) more (suc q) p e = still_there ps more q p e

abbrev own : ℕ → ℕ
own n = n

pub outline_follows : OutlineFollows
outline_follows g block at length link rules =
    let body : List Procedure = record { link = link; body = slice_range (items_of g block) at (at + length) } ∷ [] in
    let moved : List Procedure = map (retargeted_procedure own) g.procedures in
    subst (λ (k : Graph). Follows g (record k { procedures = k.procedures ++ body })) (retargeted_same g)
    (renamed_follows g own rules (λ m n h k e. e) (moved ++ body) (λ q p e. still_there moved body q (retargeted_procedure own p) (procedure_moved own g.procedures q p e)))
