-- Bodies that match write the registers that are live behind the first at the same places.
use Rattle.std.proofs.Common.{◌≡◌, ◌≢◌, ◌<◌, ◌+◌, ◌==◌, ◌||◌, ◌&&◌, ◌⊎◌, ℕ, zero, suc, true, false, not, List, [], ◌∷◌, inl, inr, ⊎_elim, refl, sym, ap, ◌∙◌, subst, arith}
use Rattle.std.specs.Int.{bit_at}
use Rattle.std.specs.List.{All}
use Rattle.std.proofs.lemmas.Bool.{cases_eq, eqb-true, false_from_ne_true, and_parts, or_cases}
use Rattle.sq_isa.specs.Uses.{destination_of}
use Rattle.sq_graph.specs.declared.item.Item.{Item}
use Rattle.sq_graph.specs.declared.item.Item.TheVariants.{Op, Hi, Lo, Out}
use Rattle.sq_graph.specs.Graph.{Graph}
use Rattle.sq_graph.specs.Blocks.{items_of}
use Rattle.sq_graph.specs.Matches.{item_writes, IsSameForm, AreSameForms}
use Rattle.sq_graph.specs.Rules.{ItemFits, IsGraph}
use Rattle.sq_graph.specs.Walks.{is_register}
use Rattle.sq_rename.specs.Bodies.{IsLiveBehind}
use Rattle.sq_rename.proofs.Prints.{GoTogether, AllGoTogether, all_together, all_small}
use Rattle.sq_outline.specs.declared.marks.Mark.{Mark}
use Rattle.sq_outline.specs.Made.{HasBody}
use Rattle.sq_outline.specs.Marks.{is_written_at, AreWrites, AreAlike, IsMark}
use Rattle.sq_outline.proofs.Printing.{items_fit}

not_zero : (r : ℕ) → not (r == 0) ≡ true → 0 < r
not_zero zero e = absurd (let f : false ≡ true = e in cc)
not_zero (suc r) e = omega arith

-- two registers of which neither is live, if they differ
abbrev Differ : (ℕ → Type 0) → ℕ → ℕ → Type 0
Differ Lives a b = b ≢ a → (¬ Lives a) × (¬ Lives b)

abbrev DifferDead : (ℕ → Type 0) → ℕ → ℕ → Type 0
DifferDead Lives a b = Differ Lives a b × ((a < 32) × (b < 32))

-- a register that is live, if it is x1 to x31
module _ (Lives : ℕ → Type 0) (r : ℕ) (lives : 0 < r → r < 32 → ¬ (¬ Lives r)) where
  dead_other : (x : ℕ) → x < 32 → (¬ Lives x) → is_register x r ≡ false
  dead_other x small dead =
      false_from_ne_true (is_register x r)
      (λ e.
      let parts = and_parts (not (r == 0)) (x == r || false) e in
      let is : x ≡ r = ⊎_elim (λ here. eqb-true x r here) (λ never. absurd (let f : false ≡ true = never in cc)) (or_cases (x == r) false parts.1) in
      lives (not_zero r parts.0) (subst (λ q. q < 32) is small) (subst (λ q. ¬ Lives q) is dead))

  register_same : (a b : ℕ) → DifferDead Lives a b → is_register a r ≡ is_register b r
  register_same a b pair =
      elim (cases_eq b a) [
        | inl same ↦ ap (λ x. is_register x r) (sym same)
        | inr unlike ↦
            let dead = pair.0 unlike in
            dead_other a pair.1.0 dead.0 ∙ sym (dead_other b pair.1.1 dead.1)
      ]

  item_same : (item other : Item) → IsSameForm item other → GoTogether (DifferDead Lives) item other → item_writes item r ≡ item_writes other r
  item_same (Op insn) (Op other) form pairs = register_same (destination_of insn) (destination_of other) (pairs (destination_of insn) (destination_of other) (inl (refl, refl)))
  item_same (Hi rd to) (Hi rd' to') form pairs = register_same rd rd' (pairs rd rd' (inl (refl, refl)))
  item_same (Lo rd rs to) (Lo rd' rs' to') form pairs = register_same rd rd' (pairs rd rd' (inl (refl, refl)))
  item_same (Out procedure) (Out procedure') form pairs = refl
  item_same item other form pairs = absurd form

  written_same : (bit place : ℕ) (items others : List Item) → AreSameForms items others → AllGoTogether (DifferDead Lives) items others → is_written_at bit place items r ≡ is_written_at bit place others r
  written_same bit place [] [] forms all = refl
  written_same bit place [] (other ∷ others) forms all = absurd forms
  written_same bit place (item ∷ items) [] forms all = absurd forms
  written_same bit place (item ∷ items) (other ∷ others) forms all =
      ap (λ b. (bit_at place bit == 1 && b) || is_written_at bit (place + 1) items r) (item_same item other forms.0 all.0)
      ∙ ap (λ b. (bit_at place bit == 1 && item_writes other r) || b) (written_same bit (place + 1) items others forms.1 all.1)

pub marks_alike : (g : Graph) (block : ℕ) (mark : Mark) (others : List Item) (writes : List ℕ) → IsGraph g → All ItemFits others → IsMark g block mark → AreWrites others writes → HasBody g others block → AreAlike mark.dead mark.writes writes
marks_alike g block mark others writes rules fits is are body = λ bit set other own theirs r kept.
    let items = items_of g block in
    let Lives : ℕ → Type 0 = IsLiveBehind g block in
    let forms = body.match.match.forms in
    let lives : 0 < r → r < 32 → ¬ (¬ Lives r) = λ some small dead. absurd (let yes = is.dead r some small dead in cc) in
    let together = all_small (Differ Lives) items others (items_fit g block rules) fits (all_together (Differ Lives) g.procedures items others forms body.match.pairs_die) in
    is.writes bit set own r ∙ written_same Lives r lives bit 1 items others forms together ∙ sym (are bit other theirs r)
