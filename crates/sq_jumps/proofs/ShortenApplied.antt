-- Row C: the rules hold, what there is and to spare stays, and what a pass promises is kept.
use Rattle.std.proofs.Common.{◌≡◌, ℕ, zero, suc, ◌-◌, true, false, List, [], length, Option, None, Some, inl, inr, refl, sym, ap, ◌∙◌, subst, arith, ◌+◌, ◌==◌, IsSome, is_some}
use Rattle.std.specs.List.{All}
use Rattle.std.proofs.lemmas.Bool.{cases_Bool, eqb-true, ne_eqb, eqb-false}
use Rattle.sq_graph.specs.declared.item.Item.{Item}
use Rattle.sq_graph.specs.declared.item.Term.TheVariants.{Branch, PartJump}
use Rattle.sq_graph.specs.Graph.{Graph, Block}
use Rattle.sq_graph.specs.Blocks.{items_of, term_of, HasBlock, HasProcedure, block_of, block_term}
use Rattle.sq_graph.specs.Operations.{with_term, replaced, replaced_items}
use Rattle.sq_graph.specs.Rules.{IsGraph}
use Rattle.sq_graph.specs.Terms.{goes_on}
use Rattle.sq_graph.specs.Uses.{term_uses}
use Rattle.sq_graph.specs.Words.{term_words}
use Rattle.sq_jumps.specs.Shorten.{JumpsByDeadPart, shortened_by, shortened_at}
use Rattle.sq_lookup.proofs.Targets.{part_there, has_term}
use Rattle.sq_layout.proofs.Shrunk.{shrinks_twice, one_shrinks, term_shrunk, without_item_shrunk}
use Rattle.std.specs.Prelude.{option_map}
use Rattle.std.proofs.lemmas.List.Elements.{All-nil, All-cons}
use Rattle.sq_graph.specs.declared.parts.Room.{Room}
use Rattle.sq_graph.specs.Room.{count_of, sum_of}
use Rattle.sq_graph.proofs.RulesByBlock.{ItemStands}
use Rattle.sq_graph.proofs.Fitting.{term_fits}
use Rattle.sq_graph.proofs.OperationRules.{with_term_rules, replaced_rules}
use Rattle.law_patch.specs.Operations.{IsShortable, hastened as short_jump, shortened}
use Rattle.law_patch.proofs.Shortening.{hastened_fits, shorten_follows, shorten_sound}
use Rattle.sq_layout.proofs.Standing.{block_of-changed, block_of-changed_here}
use Rattle.sq_graph.proofs.AlikeGraphs.{alike_itself}
use Rattle.law_patch.proofs.Saving.{drop_saves, hasten_saves}
use Rattle.sq_pass.specs.Applied.{IsApplied}
use Rattle.sq_layout.specs.Shrinks.{IsBranch, Shrinks}
use Rattle.sq_layout.specs.Reach.{LedThere}
use Rattle.sq_layout.proofs.Shrinking.{shrunk_in_reach}
use Rattle.sq_jumps.proofs.Blocks.{goes_to_next, same_term, term_elsewhere, term_here, term_with_items}
use Rattle.sq_jumps.proofs.Totals.{term_total, replaced_total}

-- its parts are known
pub shorten_to : (g : Graph) (block at at' link link' part part' to to' : ℕ) (items : List Item) → IsShortable g block at link part to → items ≡ items_of g block → at' ≡ length items - 1 → term_of g block ≡ Some (PartJump link' part' to') → IsShortable g block at' link' part' to'
shorten_to g block at at' link link' part part' to to' items can are last jump =
    let term : Some (PartJump link part to) ≡ Some (PartJump link' part' to') = sym can.jump ∙ jump in
    let link_is : link ≡ link' = cc in
    let part_is : part ≡ part' = cc in
    let to_is : to ≡ to' = cc in
    let at_is : at ≡ at' = omega (arith, last, ap (λ (is : List Item). length is) are, can.last) in
    subst (λ n. IsShortable g block n link' part' to') at_is
    (subst (λ n. IsShortable g block at n part' to') link_is (subst (λ n. IsShortable g block at link n to') part_is (subst (λ n. IsShortable g block at link part n) to_is can)))

pub shorten_has : (g : Graph) (block at link part to : ℕ) → IsShortable g block at link part to → HasBlock g block
shorten_has g block at link part to can = has_term g block (PartJump link part to) can.jump

shorten_uses : (P : ℕ → Type 0) (link to : ℕ) → P to → All P (term_uses (short_jump link to))
shorten_uses P zero to p = All-cons P to [] p (All-nil P)
shorten_uses P (suc link) to p = All-cons P to [] p (All-nil P)

shorten_goes_on : (link part to : ℕ) → goes_on (short_jump link to) ≡ true → goes_on (PartJump link part to) ≡ true
shorten_goes_on zero part to on = absurd (cc)
shorten_goes_on (suc link) part to on = let apart : (suc link == 0) ≡ false = ne_eqb (suc link) 0 (λ same. omega (arith, same)) in rw apart refl

pub hastened_rules : (g : Graph) (block link part to : ℕ) → IsGraph g → term_of g block ≡ Some (PartJump link part to) → IsGraph (with_term g block (short_jump link to))
hastened_rules g block link part to rules jump =
    with_term_rules g block (short_jump link to) rules (has_term g block (PartJump link part to) jump) (hastened_fits link part to (term_fits g block (PartJump link part to) rules jump))
    (shorten_uses (HasBlock g) link to (part_there g block link part to rules jump))
    (λ on. goes_to_next g block (PartJump link part to) rules jump (shorten_goes_on link part to on))

module _ (g : Graph) (block at link part to : ℕ) (rules : IsGraph g) (can : IsShortable g block at link part to) where
  abbrev k : Graph
  k = replaced g block at 1 []

  has : HasBlock g block
  has = has_term g block (PartJump link part to) can.jump

  pub shorten_dropped : IsGraph (replaced g block at 1 [])
  shorten_dropped = replaced_rules g block at 1 [] rules has (All-nil (ItemStands (HasBlock g) (HasProcedure g)))

  pub shorten_there : (n : ℕ) → HasBlock g n → HasBlock (replaced g block at 1 []) n
  shorten_there n there =
      elim (cases_Bool (n == block)) [
        | inl same ↦ subst (λ x. HasBlock (replaced g block at 1 []) x) (sym (eqb-true n block same)) own
        | inr apart ↦ ap is_some (block_of-changed f g.blocks block n (λ c. refl) (eqb-false n block apart)) ∙ there
      ]
    where
      f : Block → Block
      f c = record c { items = replaced_items c.items at 1 [] }

      own : HasBlock (replaced g block at 1 []) block
      own = mapped (block_of g block) has (block_of-changed_here (λ c. record c { items = replaced_items c.items at 1 [] }) g.blocks block (λ c. refl))
        where
          mapped : (o : Option Block) → IsSome o → block_of (replaced g block at 1 []) block ≡ option_map (λ (c : Block). record c { items = replaced_items c.items at 1 [] }) o → HasBlock (replaced g block at 1 []) block
          mapped None some e = absurd (cc)
          mapped (Some c) some e = ap is_some e

  pub shorten_rules : IsGraph (with_term (replaced g block at 1 []) block (short_jump link to))
  shorten_rules =
      hastened_rules (replaced g block at 1 []) block link part to shorten_dropped (term_with_items (λ is. replaced_items is at 1 []) g.blocks block block ∙ can.jump)

  pub shorten_total : (spare : Room) → sum_of (count_of (with_term (replaced g block at 1 []) block (short_jump link to))) (record spare { items = spare.items + 1 - 0 }) ≡ sum_of (count_of g) spare
  shorten_total spare =
      term_total (replaced g block at 1 []) block (short_jump link to) (record spare { items = spare.items + 1 - 0 }) (shorten_there block has)
      ∙ replaced_total g block at spare has (omega (arith, can.last))

pub shorten_made : (g : Graph) (block at link part to : ℕ) → IsShortable g block at link part to → shortened_at g block ≡ shortened g block at link to
shorten_made g block at link part to can =
    let at_is : length (items_of g block) - 1 ≡ at = omega (arith, can.last) in
    ap (shortened_by g block) can.jump ∙ ap (λ n. shortened g block n link to) at_is

no_branch : (link to : ℕ) → IsBranch (short_jump link to) → ⊥
no_branch zero to is = is
no_branch (suc link) to is = is

one_word : (link to : ℕ) → term_words (short_jump link to) ≡ 1
one_word zero to = refl
one_word (suc link) to = refl

pub shorten_applied : (g : Graph) (block : ℕ) → IsGraph g → JumpsByDeadPart g block → IsApplied 1 (shortened_at g block) g (shortened_at g block)
shorten_applied g block rules d =
    subst (λ h. IsApplied 1 h g h) (sym (shorten_made g block d.at d.link d.part d.to d.shortable))
    (record {
      rules = shorten_rules g block d.at d.link d.part d.to rules d.shortable;
      follows = shorten_follows g block d.at d.link d.part d.to rules d.shortable;
      sound = λ sound. shorten_sound g block d.at d.link d.part d.to rules d.shortable sound;
      reach = λ reach. shrunk_in_reach g (shortened g block d.at d.link d.to) rules.distinct (shorten_rules g block d.at d.link d.part d.to rules d.shortable).distinct shrinks led reach;
      words = omega (arith, drop_saves g block d.at d.part d.to d.shortable.half, hasten_saves (replaced g block d.at 1 []) block d.link d.part d.to still);
      described = alike_itself (shortened g block d.at d.link d.to);
      kept = λ n has. refl;
    })
  where
    k : Graph
    k = replaced g block d.at 1 []

    still : term_of (replaced g block d.at 1 []) block ≡ Some (PartJump d.link d.part d.to)
    still = term_with_items (λ is. replaced_items is d.at 1 []) g.blocks block block ∙ d.shortable.jump

    shrinks : Shrinks g.blocks (shortened g block d.at d.link d.to).blocks
    shrinks =
        shrinks_twice
        (one_shrinks (λ b. record b { items = replaced_items b.items d.at 1 [] }) g.blocks block (λ b is. without_item_shrunk b d.at))
        (one_shrinks (λ b. record b { term = short_jump d.link d.to }) (replaced g block d.at 1 []).blocks block (λ b is.
        let term : b.term ≡ PartJump d.link d.part d.to = same_term b.term (PartJump d.link d.part d.to) (sym (ap block_term is) ∙ still) in
        term_shrunk b (short_jump d.link d.to) (omega (arith, ap term_words term, one_word d.link d.to)) (λ yes. absurd (no_branch d.link d.to yes))))

    led : LedThere g (shortened g block d.at d.link d.to)
    led n cond a b to e =
        elim (cases_Bool (n == block)) [
          | inl here ↦
              let own : term_of (shortened g block d.at d.link d.to) n ≡ Some (short_jump d.link d.to) =
              subst (λ x. term_of (shortened g block d.at d.link d.to) x ≡ Some (short_jump d.link d.to)) (sym (eqb-true n block here)) (term_here (replaced g block d.at 1 []) block (PartJump d.link d.part d.to) (short_jump d.link d.to) still) in
              absurd (no_branch d.link d.to (subst IsBranch (same_term (Branch cond a b to) (short_jump d.link d.to) (sym e ∙ own)) tt))
          | inr apart ↦
              inl (
                cond,
                a,
                b,
                sym (term_elsewhere g block n (λ c. record c { items = replaced_items c.items d.at 1 [] }) (λ c. refl) (eqb-false n block apart))
                    ∙ sym (term_elsewhere (replaced g block d.at 1 []) block n (λ c. record c { term = short_jump d.link d.to }) (λ c. refl) (eqb-false n block apart))
                    ∙ e,
              )
        ]
