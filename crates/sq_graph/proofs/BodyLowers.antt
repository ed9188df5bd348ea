-- The loop that lets bodies start earlier.
use Rattle.std.proofs.Common.{◌≡◌, ℕ, ◌+◌, ◌-◌, ◌≤◌, ◌<◌, List, ◌++◌, map, length, take, drop, get_or, set, sym, ap, ◌∙◌, subst, arith, length-append, length-drop}
use Rattle.std.specs.List.{All}
use Rattle.std.proofs.lemmas.List.{take-append-drop, length-take-le, set-append_right, get_or-append_right, take_all, drop_all, append-nil}
use Rattle.std.proofs.lemmas.List.Elements.{All-get_or}
use Rattle.sq_graph.specs.declared.slot.Body.{Body}
use Rattle.sq_graph.specs.Slots.{lowered_body}
use Rattle.sq_graph.proofs.Mapped.{mapped_reads, mapped_step}

-- the bodies from this number up to that one start earlier
pub record LoweredUpTo (by from upto : ℕ) (old new : List Body) : Type 0 where
  pub rest : List Body
  pub whole : new ≡ take from old ++ rest
  pub mapped : rest ≡ map (lowered_body by) (take (upto - from) (drop from old)) ++ drop (upto - from) (drop from old)
  pub inside : from ≤ length old
  pub above : from ≤ upto

pub lowered_none : (by from : ℕ) (old : List Body) → from ≤ length old → LoweredUpTo by from from old old
lowered_none by from old inside =
    let none : from - from ≡ 0 = omega arith in
    record {
      rest = drop from old;
      whole = sym (take-append-drop from old);
      mapped = sym (ap (λ n. map (lowered_body by) (take n (drop from old)) ++ drop n (drop from old)) none);
      inside = inside;
      above = omega arith;
    }

pub lowered_reads : (by from i : ℕ) (d : Body) (old new : List Body) → LoweredUpTo by from i old new → i < length old → get_or new i d ≡ get_or (drop from old) (i - from) d
lowered_reads by from i d old new lowered inside =
    let size : length (take from old) ≡ from = length-take-le from old lowered.inside in
    let there : i - from < length (drop from old) = omega (arith, lowered.above, inside, length-drop from old) in
    ap (λ bs. get_or bs i d) lowered.whole
    ∙ get_or-append_right (take from old) lowered.rest from i d size lowered.above
    ∙ mapped_reads (lowered_body by) (drop from old) lowered.rest (i - from) d there lowered.mapped

pub lowered_fits : (by from i : ℕ) (d : Body) (old new : List Body) → LoweredUpTo by from i old new → i < length old → All (λ body. by ≤ body.start) (drop from old) → by ≤ (get_or new i d).start
lowered_fits by from i d old new lowered inside fits =
    let there : i - from < length (drop from old) = omega (arith, lowered.above, inside, length-drop from old) in
    subst (λ (b : Body). by ≤ b.start) (sym (lowered_reads by from i d old new lowered inside))
    (All-get_or {X = Body} (λ b. by ≤ b.start) (drop from old) (i - from) d there fits)

pub lowered_step : (by from i : ℕ) (d y : Body) (old new : List Body) → LoweredUpTo by from i old new → i < length old → length new ≡ length old → y ≡ lowered_body by (get_or new i d) → LoweredUpTo by from (i + 1) old (set new i y)
lowered_step by from i d y old new lowered inside counted is =
    let size : length (take from old) ≡ from = length-take-le from old lowered.inside in
    let there : i - from < length (drop from old) = omega (arith, lowered.above, inside, length-drop from old) in
    let there' : i - from < length lowered.rest = omega (arith, lowered.above, inside, counted, ap (λ bs. length bs) lowered.whole, length-append (take from old) lowered.rest, size) in
    let next : i - from + 1 ≡ i + 1 - from = omega (arith, lowered.above) in
    let read : get_or new i d ≡ get_or lowered.rest (i - from) d = ap (λ bs. get_or bs i d) lowered.whole ∙ get_or-append_right (take from old) lowered.rest from i d size lowered.above in
    record {
      rest = set lowered.rest (i - from) y;
      whole = ap (λ bs. set bs i y) lowered.whole ∙ set-append_right (take from old) lowered.rest from i y size lowered.above;
      mapped = mapped_step (lowered_body by) (drop from old) lowered.rest (i - from) d y there there' lowered.mapped (is ∙ ap (lowered_body by) read)
          ∙ ap (λ n. map (lowered_body by) (take n (drop from old)) ++ drop n (drop from old)) next;
      inside = lowered.inside;
      above = omega (arith, lowered.above);
    }

pub lowered_all : (by from i : ℕ) (old new : List Body) → LoweredUpTo by from i old new → length old ≤ i → new ≡ take from old ++ map (lowered_body by) (drop from old)
lowered_all by from i old new lowered past =
    let over : length (drop from old) ≤ i - from = omega (arith, past, length-drop from old) in
    lowered.whole ∙ ap (λ bs. take from old ++ bs) (lowered.mapped
    ∙ ap (λ bs. map (lowered_body by) bs ++ drop (i - from) (drop from old)) (take_all (i - from) (drop from old) over)
    ∙ ap (λ bs. map (lowered_body by) (drop from old) ++ bs) (drop_all (i - from) (drop from old) over)
    ∙ append-nil (map (lowered_body by) (drop from old)))
