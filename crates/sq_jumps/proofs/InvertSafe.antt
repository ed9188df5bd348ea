-- Row J3 by an old survey: it finds a Branch over a lone Jump, and stays on the safe side.
use Rattle.std.proofs.Common.{◌≡◌, ◌≢◌, ℕ, List, [], length, Option, Some, sym, ◌∙◌, subst}
use Rattle.std.specs.List.{Contains, All}
use Rattle.sq_isa.specs.Branches.{inverse_of}
use Rattle.sq_graph.specs.declared.item.Term.{Term}
use Rattle.sq_graph.specs.declared.item.Term.TheVariants.{Branch, Jump}
use Rattle.sq_graph.specs.Graph.{Graph}
use Rattle.sq_graph.specs.Blocks.{items_of, HasBlock}
use Rattle.sq_graph.specs.Operations.{with_term}
use Rattle.sq_graph.specs.Resolve.{jump_from}
use Rattle.sq_graph.specs.Rules.{IsGraph}
use Rattle.sq_graph.specs.Uses.{uses}
use Rattle.law_patch.specs.LoneJumps.{inverted_over}
use Rattle.sq_jumps.specs.Surveys.{ReachesWithout, ReachesBy}
use Rattle.sq_jumps.specs.Invert.{BranchesOverJump, IsStillSafe, inverted}
use Rattle.sq_lookup.proofs.Targets.{targets_are, has_term, lone, lone_term}
use Rattle.sq_layout.proofs.Shrunk.{shrinks_twice}
use Rattle.std.proofs.lemmas.List.Elements.{All-nil, All-cons, All-head}
use Rattle.sq_graph.proofs.Fitting.{term_fits}
use Rattle.sq_lookup.specs.Addresses.{address_of, address_at}
use Rattle.sq_lookup.proofs.Sizes.{addresses_are}
use Rattle.sq_jumps.proofs.OldSurveys.{reaches_by, without_still}
use Rattle.sq_jumps.proofs.InvertApplied.{all_apart, invert_turned, invert_over_there, invert_rules, invert_made, invert_shrinks}
use Rattle.sq_jumps.proofs.Ruled.{still_unused, without_names}

pub invert_still : (g : Graph) (block over to : ℕ) (address : ℕ → Option ℕ) (used : List ℕ) → IsGraph g → HasBlock g block → jump_from g over ≡ Some to → IsStillSafe address used g → ReachesBy (address_at address) (length (items_of g block)) over block to → ReachesWithout g over block to
invert_still g block over to address used rules has jump safe reach =
    without_still safe.before g block over to safe.distinct safe.shrinks rules has jump
    (reaches_by (address_at address) (address_of safe.before) (length (items_of g block)) over block to (addresses_are address safe.before safe.addresses) reach)

not_among : (xs : List ℕ) (n : ℕ) → All (λ k. k ≢ n) xs → ¬ Contains xs n
not_among xs n all c = all c.0 n c.1 c.2

module _ (g : Graph) (block : ℕ) (rules : IsGraph g) (o : BranchesOverJump g block) where
  abbrev t : Term
  t = Branch (inverse_of o.cond) o.a o.b o.to

  invert_no_use : (n : ℕ) → ¬ Contains (uses g) n → ¬ Contains (uses (inverted_over g block o.cond o.a o.b o.over o.to)) n
  invert_no_use n none =
      let N : ℕ → Type 0 = λ k. k ≢ n in
      let apart = all_apart (uses g) n none in
      let invert_to_apart : o.to ≢ n = All-head N o.to [] (targets_are N g o.over (Jump o.to) rules apart (lone_term g o.over o.to (lone g o.over o.to o.jumped.jump))) in
      let turned = invert_turned g block o.cond o.a o.b o.over o.behind o.to (inverse_of o.cond) rules o.jumped in
      let left = invert_rules g block o.cond o.a o.b o.over o.behind o.to (inverse_of o.cond) rules o.jumped in
      let there = invert_over_there g block o.cond o.a o.b o.over o.behind o.to (inverse_of o.cond) rules o.jumped in
      let has = has_term g block (Branch o.cond o.a o.b o.behind) o.jumped.branch in
      not_among (uses (inverted_over g block o.cond o.a o.b o.over o.to)) n
      (without_names N (with_term g block t) o.over turned left there
      (still_unused g block n t rules turned has apart (All-cons N o.to [] invert_to_apart (All-nil N)) (term_fits g block (Branch o.cond o.a o.b o.behind) rules o.jumped.branch)))

  invert_safe_over : (address : ℕ → Option ℕ) (used : List ℕ) → IsStillSafe address used g → IsStillSafe address used (inverted_over g block o.cond o.a o.b o.over o.to)
  invert_safe_over address used safe = record {
    before = safe.before;
    distinct = safe.distinct;
    few = safe.few;
    addresses = safe.addresses;
    shrinks = shrinks_twice safe.shrinks (invert_shrinks g block o);
    unused = λ n none. invert_no_use n (safe.unused n none);
  }

  pub invert_safe : (h : Graph) (address : ℕ → Option ℕ) (used : List ℕ) → h ≡ inverted g block → IsStillSafe address used g → IsStillSafe address used h
  invert_safe h address used is safe =
      subst (IsStillSafe address used) (sym (is ∙ invert_made g block o.cond o.a o.b o.over o.behind o.to o.jumped)) (invert_safe_over address used safe)
