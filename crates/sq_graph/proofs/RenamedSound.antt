-- A graph under other names is sound, and canonical, where the graph is.
use Rattle.std.proofs.Common.{◌≡◌, ◌≢◌, ℕ, zero, suc, List, [], ◌∷◌, map, Some, slice_get, refl, sym, ap, ◌∙◌, subst}
use Rattle.std.specs.List.{AllByRecursion}
use Rattle.std.proofs.lemmas.List.Elements.{All-from_recursion, recursion_from_All}
use Rattle.sq_graph.specs.declared.item.Item.{Item}
use Rattle.sq_graph.specs.declared.item.Item.TheVariants.{Op, Hi, Lo, Out}
use Rattle.sq_graph.specs.Alike.{IsOneToOne, AreAlike}
use Rattle.sq_graph.specs.Canonical.{canonical_of}
use Rattle.sq_graph.specs.Graph.{Procedure, Graph}
use Rattle.sq_graph.specs.Leaders.{IsCanonical}
use Rattle.sq_graph.specs.Lines.{Line, Name, Do, Enter, Return, End, line_of, lines_of}
use Rattle.sq_graph.specs.Renames.{retargeted_item, retargeted_items, retargeted_procedure, renamed}
use Rattle.sq_graph.specs.Rules.{IsGraph}
use Rattle.sq_graph.specs.Soundness.{IsFreeOf, IsSoundBody, LinksDieIn, IsSound}
use Rattle.sq_graph.specs.Walks.{IsLive}
use Rattle.sq_graph.proofs.AlikeCanonical.{canonical_renamed}
use Rattle.sq_graph.proofs.AlikeGraphs.{alike_rules}
use Rattle.sq_graph.proofs.CanonicalLaws.{canonical_is_canonical, canonical_again}
use Rattle.sq_graph.proofs.RenamedLives.{named_lines, lines_are, Known, known, lived}

-- a canonical graph is its own canonical graph, and so is one that is alike it
pub canonical_kept : (g h : Graph) → IsGraph g → AreAlike g h → IsCanonical g → IsCanonical h
canonical_kept g h rules alike canonical =
    let f = alike.name in
    let same = ap canonical_of alike.is ∙ canonical_renamed f g rules alike.one_to_one ∙ ap (renamed f) (canonical_again g canonical) ∙ sym alike.is in
    subst IsCanonical same (canonical_is_canonical h (alike_rules g h rules alike))

-- SOUND

module _ (f : ℕ → ℕ) where
  free_item : (link : ℕ) (item : Item) → IsFreeOf link (line_of item) → IsFreeOf link (line_of (retargeted_item f item))
  free_item link (Op insn) h = h
  free_item link (Hi rd to) h = h
  free_item link (Lo rd rs to) h = h
  free_item link (Out procedure) h = h

  free_items : (link : ℕ) (items : List Item) → AllByRecursion (λ item. IsFreeOf link (line_of item)) items → AllByRecursion (λ item. IsFreeOf link (line_of item)) (retargeted_items f items)
  free_items link [] all = tt
  free_items link (item ∷ items) all = (free_item link item all.0, free_items link items all.1)

  some_items : (items : List Item) → items ≢ [] → retargeted_items f items ≢ []
  some_items [] some e = some refl
  some_items (item ∷ items) some e = cc e

  sound_body : (p : Procedure) → IsSoundBody p → IsSoundBody (retargeted_procedure f p)
  sound_body p h = record {
    some = some_items p.body h.some;
    free = All-from_recursion (λ item. IsFreeOf p.link (line_of item)) (retargeted_items f p.body) (free_items p.link p.body (recursion_from_All (λ item. IsFreeOf p.link (line_of item)) p.body h.free));
  }

  sound_bodies : (ps : List Procedure) → AllByRecursion IsSoundBody ps → AllByRecursion IsSoundBody (map (retargeted_procedure f) ps)
  sound_bodies [] all = tt
  sound_bodies (p ∷ ps) all = (sound_body p all.0, sound_bodies ps all.1)

  found_procedure : (ps : List Procedure) (k : ℕ) (q : Procedure) → slice_get (map (retargeted_procedure f) ps) k ≡ Some q → (p : Procedure) × (slice_get ps k ≡ Some p) × (q.link ≡ p.link)
  found_procedure [] k q e = absurd (cc)
  found_procedure (p ∷ ps) zero q e = let same : retargeted_procedure f p ≡ q = cc in (p, refl, ap (λ (r : Procedure). r.link) (sym same))
  found_procedure (p ∷ ps) (suc k) q e = found_procedure ps k q e

  module _ (g : Graph) (rules : IsGraph g) (apart : IsOneToOne f g) where
    links_kept : (lines : List Line) → Known f g rules apart lines → LinksDieIn g lines → LinksDieIn (renamed f g) (named_lines f lines)
    links_kept [] k h = tt
    links_kept (Name n ∷ rest) k h = links_kept rest k.1 h
    links_kept (Do half insn ∷ rest) k h = links_kept rest k.1 h
    links_kept (Return r ∷ rest) k h = links_kept rest k.1 h
    links_kept (End term ∷ rest) k h = links_kept rest k.1 h
    links_kept (Enter procedure ∷ rest) k h = (
      λ q there live.
          let p = found_procedure g.procedures procedure q there in
          h.0 p.0 p.1 (lived f g rules apart (subst (λ r. IsLive (renamed f g) r (named_lines f rest)) p.2 live) rest refl k.1),
      links_kept rest k.1 h.1,
    )

pub sound_kept : (g h : Graph) → IsGraph g → AreAlike g h → IsSound g → IsSound h
sound_kept g h rules alike s =
    let f = alike.name in
    subst IsSound (sym alike.is) (record {
      bodies = All-from_recursion IsSoundBody (map (retargeted_procedure f) g.procedures) (sound_bodies f g.procedures (recursion_from_All IsSoundBody g.procedures s.bodies));
      links_die = subst (LinksDieIn (renamed f g)) (sym (lines_are f g.blocks)) (links_kept f g rules alike.one_to_one (lines_of g.blocks) (known f g rules alike.one_to_one) s.links_die);
    })
