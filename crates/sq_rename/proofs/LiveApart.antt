-- Registers in one place that keep bodies from matching.
use Rattle.std.proofs.Common.{◌≡◌, ◌<◌, ℕ, zero, suc, ⊎_elim, inl, inr, List, [], ◌∷◌, length, get_or, sym, ◌∙◌, subst, arith}
use Rattle.sq_graph.specs.declared.item.Item.{Item}
use Rattle.sq_graph.specs.Graph.{Procedure}
use Rattle.sq_graph.specs.Matches.{item_registers, registers_of, IsSameForm, IsPairIn, IsPair}
use Rattle.sq_rename.specs.Bodies.{IsBodyMatch, MayLive}
use Rattle.sq_rename.specs.Pairs.{HaveApart, padded}
use Rattle.sq_rename.proofs.Bodies.{pair_dies}
use Rattle.sq_rename.proofs.Joining.{pad_out}
use Rattle.sq_rename.proofs.Places.{registers_same, same_plain}

pub pair_at : (xs ys : List ℕ) (k r s : ℕ) → k < length xs → k < length ys → r ≡ get_or xs k r → s ≡ get_or ys k s → IsPairIn xs ys r s
pair_at [] ys k r s l m e f = absurd (omega arith)
pair_at (x ∷ xs) [] k r s l m e f = absurd (omega arith)
pair_at (x ∷ xs) (y ∷ ys) zero r s l m e f = inl (e, f)
pair_at (x ∷ xs) (y ∷ ys) (suc k) r s l m e f = inr (pair_at xs ys k r s (omega arith) (omega arith) e f)

pub apart_fails : (ps : List Procedure) (items others : List Item) (dead : ℕ) (x y : Item) (rs ss : List ℕ) → IsSameForm x y → ((r s : ℕ) → IsPairIn (registers_of ps x) (registers_of ps y) r s → IsPair ps items others r s) → rs ≡ padded 5 (item_registers x) → ss ≡ padded 5 (item_registers y) → HaveApart dead rs ss → ¬ IsBodyMatch ps items others (MayLive dead)
apart_fails ps items others dead x y rs ss form there e f have m =
    let r = have.first in
    let s = have.second in
    let pair : IsPairIn (padded 5 (item_registers x)) (padded 5 (item_registers y)) have.first have.second =
    subst (λ z. IsPairIn (padded 5 (item_registers x)) z r s) f (subst (λ z. IsPairIn z ss r s) e have.pair) in
    ⊎_elim
    (λ p.
    let plain = same_plain ps x y (λ q out. subst (λ z. IsPairIn (item_registers z) (item_registers y) r s) out p) form in
    let own = subst (λ z. IsPairIn z (registers_of ps y) r s) (sym plain.0) (subst (λ z. IsPairIn (item_registers x) z r s) (sym plain.1) p) in
    let dies = pair_dies ps items others dead r s m (there r s own) have.apart.0 have.small.0 have.small.1 in have.apart.1 (dies.0, dies.1.0))
    (λ z. have.apart.0 (z.1 ∙ sym z.0))
    (pad_out 5 (item_registers x) (item_registers y) (registers_same x y form) r s pair)
