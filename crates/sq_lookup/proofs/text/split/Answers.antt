use Rattle.std.proofs.Common.{◌≡◌, ◌∙◌, ℕ, List, [], ◌∷◌, ◌++◌, if◌then◌else◌, length, set, subst, ap, arith}
use Rattle.std.proofs.lemmas.List.{get_or_default, with_items_is}
use Rattle.std.specs.Vec.{with_items}
use Rattle.sq_lookup.specs.declared.parts.Bounds.{Bounds}
use Rattle.sq_lookup.specs.declared.places.Part.{Part}
use Rattle.sq_lookup.specs.declared.places.Place.{Place}
use Rattle.sq_lookup.specs.Lowering.{nowhere, lowered_word}
use Rattle.sq_lookup.specs.Shifting.{shifted_word}
use Rattle.sq_lookup.specs.Standing.{part_at, no_part, AreMoved}
use Rattle.sq_lookup.proofs.Splitting.{AreWithin, behind, ahead, split_parts, long, split_kept, split_same}
use Rattle.sq_lookup.proofs.text.split.Goals as goal

module _ (c : goal.After-text-3-1) where
  abbrev parts : List Part
  parts = c.args.text.now.parts.items

  abbrev order : List ℕ
  order = c.args.text.now.order.items

  abbrev old : List Place
  old = c.args.text.now.places.items

  abbrev new : List Place
  new = c.move_each.new.places

  abbrev part : Part
  part = c.index-part.result.now

  is_part : part ≡ part_at parts c.args.number
  is_part = c.index-part.ensures ∙ get_or_default parts c.args.number part no_part c.requires.number

  count_is : c.len-count.result ≡ length parts
  count_is = omega (arith, c.len-count.ensures, c.args.text.now.parts.ok.0)

  moved : AreMoved (λ w. lowered_word nowhere (shifted_word part.shift w)) c.args.number (length parts) c.seam-at.result part.end order old new
  moved =
      subst (λ k. AreMoved (λ w. lowered_word nowhere (shifted_word part.shift w)) c.args.number k c.seam-at.result part.end order old new) count_is
      (subst (λ xs. AreMoved (λ w. lowered_word nowhere (shifted_word part.shift w)) c.args.number c.len-count.result c.seam-at.result part.end order xs new) c.deref_mut.ensures.value
      (subst (λ xs. AreMoved (λ w. lowered_word nowhere (shifted_word part.shift w)) c.args.number c.len-count.result c.seam-at.result part.end xs c.deref_mut.result.now new) c.deref-3.ensures.value c.move_each.ensures))

  pushed : c.push.new.self.items ≡ parts ++ part ∷ []
  pushed = c.push.ensures.items ∙ ap (λ b. if b then parts ++ part ∷ [] else parts) c.if-is_err.ensures.negation

  new_is : (with_items c.args.text.now.places new).items ≡ new
  new_is = with_items_is c.args.text.now.places new (omega (arith, moved.count, c.args.text.now.places.ok.0))

  abbrev high : Bounds
  high = c.bounds_of-behind_bounds.result

  abbrev low : Bounds
  low = c.bounds_of-ahead_bounds.result

  highs : AreWithin order new (length parts) (behind parts order c.args.number c.seam-at.result part low high old new c.requires.number is_part) high
  highs =
      subst (λ k. AreWithin order new k (behind parts order c.args.number c.seam-at.result part low high old new c.requires.number is_part) high) count_is
      (subst (λ xs. AreWithin order xs c.len-count.result (behind parts order c.args.number c.seam-at.result part low high old new c.requires.number is_part) high) (c.deref-4.ensures.value ∙ new_is)
      (subst (λ xs. AreWithin xs c.deref-4.result.now c.len-count.result (behind parts order c.args.number c.seam-at.result part low high old new c.requires.number is_part) high) c.deref-5.ensures.value c.bounds_of-behind_bounds.ensures))

  lows : AreWithin order new c.args.number (ahead parts order c.args.number c.seam-at.result part low high old new c.requires.number is_part) low
  lows =
      subst (λ xs. AreWithin order xs c.args.number (ahead parts order c.args.number c.seam-at.result part low high old new c.requires.number is_part) low) (c.deref-6.ensures.value ∙ new_is)
      (subst (λ xs. AreWithin xs c.deref-6.result.now c.args.number (ahead parts order c.args.number c.seam-at.result part low high old new c.requires.number is_part) low) c.deref-7.ensures.value c.bounds_of-ahead_bounds.ensures)

  abbrev new_parts : List Part
  new_parts = set (set c.push.new.self.items c.len-count.result (behind parts order c.args.number c.seam-at.result part low high old new c.requires.number is_part)) c.args.number (ahead parts order c.args.number c.seam-at.result part low high old new c.requires.number is_part)

  parts_are : new_parts ≡ split_parts parts order c.args.number c.seam-at.result part low high old new c.requires.number is_part
  parts_are =
      ap (λ xs. set (set xs c.len-count.result (behind parts order c.args.number c.seam-at.result part low high old new c.requires.number is_part)) c.args.number (ahead parts order c.args.number c.seam-at.result part low high old new c.requires.number is_part)) pushed
      ∙ ap (λ k. set (set (parts ++ part ∷ []) k (behind parts order c.args.number c.seam-at.result part low high old new c.requires.number is_part)) c.args.number (ahead parts order c.args.number c.seam-at.result part low high old new c.requires.number is_part)) count_is

pub returns-clause-kept : goal.returns-clause-kept
returns-clause-kept c =
    record {
      few = omega (arith, ap (λ (xs : List Part). length xs) (parts_are c), long (parts c) (order c) c.args.number c.seam-at.result (part c) (low c) (high c) (old c) (new c) c.requires.number (is_part c), count_is c, c.if-count-ge-MOST.false);
      each = split_kept (parts c) (order c) c.args.number c.seam-at.result (part c) (low c) (high c) (old c) (new c) c.requires.number (is_part c) (moved c) (highs c) (lows c) c.requires.kept.each (new_parts c) (with_items c.args.text.now.places (new c)).items (parts_are c) (new_is c);
    }

pub returns-clause-same : goal.returns-clause-same
returns-clause-same c =
    record {
      count = ap (λ (xs : List Place). length xs) (new_is c) ∙ (moved c).count;
      words = split_same (parts c) (order c) c.args.number c.seam-at.result (part c) (low c) (high c) (old c) (new c) c.requires.number (is_part c) (moved c) (highs c) (lows c) c.requires.kept.each (new_parts c) (with_items c.args.text.now.places (new c)).items (parts_are c) (new_is c);
    }
