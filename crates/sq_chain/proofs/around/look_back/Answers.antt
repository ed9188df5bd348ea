use Rattle.std.proofs.Common.{◌≡◌, ◌∙◌, ℕ, None, Some, true, false, inl, inr, sym, ap, subst, arith}
use Rattle.std.specs.Prelude.{option_map}
use Rattle.sq_arena.specs.Entries.{previous_key}
use Rattle.sq_graph.specs.Blocks.{named, block_of}
use Rattle.sq_graph.specs.Words.{block_words}
use Rattle.sq_graph.proofs.LinkReads.{value_of-links, previous-links}
use Rattle.sq_lookup.proofs.Previous.{before_next, before_there}
use Rattle.sq_chain.specs.Places.{placed_at}
use Rattle.sq_chain.specs.Settled.{is_missed}
use Rattle.sq_chain.specs.Surveys.{extent_of}
use Rattle.sq_chain.proofs.Adding.{stands_are}
use Rattle.sq_chain.proofs.Ahead.{branch_ahead, next_ahead, none_first}
use Rattle.sq_chain.proofs.Seen.{stands_small, name_by, next_stands}
use Rattle.sq_chain.proofs.around.look_back.Goals as goal

pub loop-slot-init : goal.loop-slot-init
loop-slot-init c = record {
  has = c.requires.block;
  at = c.address-at.ensures ∙ ap (λ (f : ℕ → ℕ). f c.args.span.from) (stands_are block_words c.args.graph.now.graph (placed_at c.args.addresses.now) c.requires.addresses);
  near = λ n branch ahead. inl ahead;
}

pub overflow_add-at : goal.overflow_add-at
overflow_add-at c = omega (arith, c.loop-slot.invariant.at, stands_small c.args.graph.now.graph c.loop-slot.block c.learn.ensures.few)

pub returns-then-at-span-clause-near : goal.returns-then-at-span-clause-near
returns-then-at-span-clause-near c = λ near seam from n branch ahead.
    let g = c.args.graph.now.graph in
    let walk = c.loop-slot.invariant in
    elim (walk.near n branch ahead) [
      | inl before ↦ inr (inl (omega (arith, from, walk.at, c.if-at-span.true, branch_ahead g c.learn.ensures.rules c.loop-slot.block walk.has n branch before)))
      | inr seen ↦ inl seen
    ]

pub previous-requires : goal.previous-requires
previous-requires c = value_of-links c.links.result.now.entries c.args.graph.now.graph.blocks c.loop-slot.block c.links.ensures.blocks ∙ c.loop-slot.invariant.has

pub returns-in_default-clause-near : goal.returns-in_default-clause-near
returns-in_default-clause-near c = λ near seam from n branch ahead.
    let g = c.args.graph.now.graph in
    let walk = c.loop-slot.invariant in
    let none : previous_key (named g.blocks) c.loop-slot.block ≡ None = sym (previous-links c.links.result.now.entries g.blocks c.loop-slot.block c.links.ensures.blocks) ∙ sym c.previous.ensures ∙ c.in_default.is in
    elim (walk.near n branch ahead) [
      | inl before ↦ absurd (none_first g c.learn.ensures.rules c.loop-slot.block walk.has none n before)
      | inr seen ↦ inl seen
    ]

pub extent_of-taken-requires-clause-block : goal.extent_of-taken-requires-clause-block
extent_of-taken-requires-clause-block c =
    let g = c.args.graph.now.graph in
    let previous : previous_key (named g.blocks) c.loop-slot.block ≡ Some c.in-Some.before = sym (previous-links c.links.result.now.entries g.blocks c.loop-slot.block c.links.ensures.blocks) ∙ sym c.previous.ensures ∙ c.in-Some.is in
    before_there g c.learn.ensures.rules c.loop-slot.block c.loop-slot.invariant.has c.in-Some.before previous

pub is_missed-requires-clause-block : goal.is_missed-requires-clause-block
is_missed-requires-clause-block c =
    let g = c.args.graph.now.graph in
    let taken = c.extent_of-taken in
    subst (λ n. option_map extent_of (block_of g n) ≡ Some c.extent_of-taken.result) (sym (name_by g c.in-Some.before taken.result taken.ensures)) taken.ensures

pub returns-then-is_missed-clause-short : goal.returns-then-is_missed-clause-short
returns-then-is_missed-clause-short c = λ n e.
    let g = c.args.graph.now.graph in
    let name = name_by g c.in-Some.before c.extent_of-taken.result c.extent_of-taken.ensures in
    let same : c.in-Some.before ≡ n = cc (e) in
    subst (λ m. is_missed g c.args.shift c.args.wide m ≡ true) (name ∙ same) (sym c.is_missed.ensures ∙ c.if-is_missed.true)

pub overflow_sub-at : goal.overflow_sub-at
overflow_sub-at c =
    let g = c.args.graph.now.graph in
    let walk = c.loop-slot.invariant in
    let before = c.in-Some.before in
    let previous : previous_key (named g.blocks) c.loop-slot.block ≡ Some c.in-Some.before = sym (previous-links c.links.result.now.entries g.blocks c.loop-slot.block c.links.ensures.blocks) ∙ sym c.previous.ensures ∙ c.in-Some.is in
    let next = before_next g c.learn.ensures.rules c.loop-slot.block walk.has before previous in
    omega (arith, walk.at, c.from.ensures, next_stands g c.learn.ensures.rules before c.loop-slot.block c.extent_of-taken.result next c.extent_of-taken.ensures)

pub loop-slot-preserved : goal.loop-slot-preserved
loop-slot-preserved c =
    let g = c.args.graph.now.graph in
    let walk = c.loop-slot.invariant in
    let before = c.in-Some.before in
    let previous : previous_key (named g.blocks) c.loop-slot.block ≡ Some c.in-Some.before = sym (previous-links c.links.result.now.entries g.blocks c.loop-slot.block c.links.ensures.blocks) ∙ sym c.previous.ensures ∙ c.in-Some.is in
    let has = before_there g c.learn.ensures.rules c.loop-slot.block walk.has before previous in
    let next = before_next g c.learn.ensures.rules c.loop-slot.block walk.has before previous in
    let name = name_by g before c.extent_of-taken.result c.extent_of-taken.ensures in
    let own : is_missed c.args.graph.now.graph c.args.shift c.args.wide c.in-Some.before ≡ false = subst (λ n. is_missed g c.args.shift c.args.wide n ≡ false) name (sym c.is_missed.ensures ∙ c.if-is_missed.false) in
    record {
      has = has;
      at = omega (arith, walk.at, c.from.ensures, next_stands g c.learn.ensures.rules before c.loop-slot.block c.extent_of-taken.result next c.extent_of-taken.ensures);
      near = λ n branch ahead. elim (walk.near n branch ahead) [
        | inl there ↦ elim (next_ahead g c.learn.ensures.rules before has c.loop-slot.block n next there) [
          | inl further ↦ inl further
          | inr same ↦ inr (subst (λ m. is_missed g c.args.shift c.args.wide m ≡ false) same own)
        ]
        | inr seen ↦ inr seen
      ];
    }
