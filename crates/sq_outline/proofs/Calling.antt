-- A body that matches a procedure's becomes a call of it.
use Rattle.std.proofs.Common.{◌≡◌, ℕ, ◌+◌, ◌-◌, ◌<◌, List, length, get_or, refl, sym, ap, ◌∙◌, subst, arith}
use Rattle.std.specs.List.{All, slice_range}
use Rattle.std.proofs.lemmas.List.{take_all}
use Rattle.sq_graph.specs.declared.item.Item.{Item}
use Rattle.sq_graph.specs.Graph.{Graph}
use Rattle.sq_graph.specs.Blocks.{HasProcedure, items_of, body_of}
use Rattle.sq_graph.specs.Lines.{place_lines}
use Rattle.sq_graph.specs.Matches.{IsPair, Match}
use Rattle.sq_graph.specs.Rules.{IsGraph}
use Rattle.sq_graph.specs.Walks.{IsLive}
use Rattle.sq_graph.proofs.AlikeGraphs.{alike_itself}
use Rattle.law_patch.specs.Calls.{IsMatching, call_end, call_items}
use Rattle.law_patch.proofs.Calls.{range_is}
use Rattle.sq_graph.specs.Parts.{names_of}
use Rattle.sq_lookup.proofs.Targets.{name_listed}
use Rattle.sq_pass.specs.declared.cut.Cut.{Cut}
use Rattle.sq_pass.specs.Applied.{IsApplied}
use Rattle.sq_outline.specs.Called.{IsCalled, MayCall, called, IsCalledCut}
use Rattle.sq_outline.proofs.Plainness.{forms_length}
use Rattle.sq_outline.proofs.Standing.{one_call}

-- all of some items, by a length that is theirs
pub whole_range : (items : List Item) (n : ℕ) → length items ≡ n → slice_range items 0 (0 + n) ≡ items
whole_range items n is = range_is items 0 n ∙ take_all n items (omega (arith, is))

module _ (g : Graph) (block procedure saving : ℕ) (rules : IsGraph g) (can : IsCalled g block procedure saving) where
  abbrev body : List Item
  body = body_of g procedure

  as_long : length (items_of g block) ≡ length body
  as_long = forms_length (items_of g block) body can.body.match.match.forms

  whole : call_items g block 0 procedure ≡ items_of g block
  whole = whole_range (items_of g block) (length body) as_long

  at_end : length (items_of g block) ≡ call_end g 0 procedure
  at_end = omega (arith, as_long)

  dead_there : (r : ℕ) → ¬ IsLive g r (place_lines g block (length (items_of g block))) → ¬ IsLive g r (place_lines g block (call_end g 0 procedure))
  dead_there r gone = subst (λ k. ¬ IsLive g r (place_lines g block k)) at_end gone

  pub is_matching : IsMatching g block 0 procedure
  is_matching = record {
    block_there = can.body.there;
    procedure_there = can.there;
    within = omega (arith, as_long);
    match = subst (λ is. Match g.procedures is body) (sym whole) can.body.match.match;
    pairs_die = λ r s pair unlike.
        let die = can.body.match.pairs_die r s (subst (λ is. IsPair g.procedures is body r s) whole pair) unlike in
        (dead_there r die.0, dead_there s die.1);
    link_dies = λ link is. dead_there link (can.link_dies link is);
  }

  pub called_applied : IsApplied saving (called g block procedure) g (called g block procedure)
  called_applied =
      let one = one_call g (record { block = block; at = 0 }) procedure rules is_matching (let s = can.saves in omega arith) in
      record {
        rules = one.rules;
        follows = one.follows;
        sound = one.sound;
        reach = one.reach;
        words = omega (arith, one.words, can.saves);
        described = alike_itself (called g block procedure);
        kept = λ n has. refl;
      }

-- there is one saving
pub may_call : (g : Graph) (block procedure saving : ℕ) → IsCalled g block procedure saving → MayCall g block procedure
may_call g block procedure saving can =
    let is : saving ≡ length (body_of g procedure) - 1 = omega (arith, can.saves) in subst (IsCalled g block procedure) is can

-- where no block may become a call, no cut is a candidate
pub no_call : (g : Graph) (names : List ℕ) → names ≡ names_of g → All (λ block. (procedure : ℕ) → HasProcedure g procedure → ¬ MayCall g block procedure) names → (cut : Cut) → ¬ IsCalledCut g cut
no_call g names are none cut candidate =
    let at = name_listed g.blocks candidate.block candidate.called.body.there in
    let block_is : get_or names at.0 0 ≡ candidate.block = ap (λ ns. get_or ns at.0 0) are ∙ at.2 in
    let within : at.0 < length names = omega (arith, at.1, ap (λ ns. length ns) are) in
    none at.0 0 within cut.procedure candidate.called.there
    (subst (λ b. MayCall g b cut.procedure) (sym block_is) (may_call g candidate.block cut.procedure cut.saving candidate.called))
