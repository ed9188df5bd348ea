-- Where names lead: to a block's lines, behind which stands the next slot; and by lone Jumps to what they resolve to.
use Rattle.std.proofs.Common.{◌≡◌, ◌≢◌, ℕ, zero, suc, Bool, true, false, ◌==◌, if◌then◌else◌, inl, inr, List, [], ◌∷◌, ◌++◌, Option, Some, None, IsSome, length, refl, sym, ap, ◌∙◌, subst}
use Rattle.std.proofs.lemmas.Bool.{cases_Bool, ne_eqb}
use Rattle.sq_arena.specs.Entries.{keys, value_of, first_key, next_key, behind, HasDistinctKeys}
use Rattle.sq_graph.specs.Graph.{Block, Graph}
use Rattle.sq_graph.specs.Blocks.{named}
use Rattle.sq_graph.specs.Resolve.{jump_from, is_on_cycle, resolved_within, resolved}
use Rattle.sq_graph.specs.Lines.{Line, Name, body_lines, lines_of, behind_name, slot_name}
use Rattle.sq_graph.proofs.Located.{located}
use Rattle.law_patch.proofs.Places.{absent_from, found_at, next_at, name_at}
use Rattle.law_patch.proofs.Changing.{ahead}
use Rattle.law_patch.proofs.Carrying.{same_some}

-- what stands in a slot
abbrev pub slot_lines : List Block → Option ℕ → List Line
slot_lines bs None = []
slot_lines bs (Some n) = Name n ∷ behind_name n (lines_of bs)

pub slot_lines_name : (bs : List Block) (o : Option ℕ) → slot_name (slot_lines bs o) ≡ o
slot_lines_name bs None = refl
slot_lines_name bs (Some n) = refl

-- the first slot
pub first_slot : (bs front back : List Block) → HasDistinctKeys (named bs) → front ++ back ≡ bs → lines_of back ≡ slot_lines bs (first_key (named back))
first_slot bs front [] d e = refl
first_slot bs front (w ∷ back) d e =
    let absent = absent_from front w back (subst (λ blocks. HasDistinctKeys (named blocks)) (sym e) d) in
    ap (λ lines. Name w.name ∷ lines) (sym (subst (λ blocks. behind_name w.name (lines_of blocks) ≡ body_lines w (lines_of back)) e (name_at front w back absent)))

-- behind a name stands its block, and behind that what stands in the next slot
pub leads : (bs : List Block) (n : ℕ) (z : Block) → HasDistinctKeys (named bs) → value_of (named bs) n ≡ Some z → behind_name n (lines_of bs) ≡ body_lines z (slot_lines bs (next_key (named bs) n))
leads bs n z d found =
    let at = located bs n (subst IsSome (sym found) refl) in
    let e : at.front ++ (at.block ∷ at.back) ≡ bs = sym at.whole in
    let absent = absent_from at.front at.block at.back (subst (λ blocks. HasDistinctKeys (named blocks)) (sym e) d) in
    let here : value_of (named bs) n ≡ Some at.block = subst (λ m. value_of (named bs) m ≡ Some at.block) at.has_name (subst (λ blocks. value_of (named blocks) at.block.name ≡ Some at.block) e (found_at at.front at.block at.back absent)) in
    let same : at.block ≡ z = same_some at.block z (sym here ∙ found) in
    let lines : behind_name n (lines_of bs) ≡ body_lines at.block (lines_of at.back) = subst (λ m. behind_name m (lines_of bs) ≡ body_lines at.block (lines_of at.back)) at.has_name (subst (λ blocks. behind_name at.block.name (lines_of blocks) ≡ body_lines at.block (lines_of at.back)) e (name_at at.front at.block at.back absent)) in
    let next : behind (named bs) n ≡ named at.back = subst (λ m. behind (named bs) m ≡ named at.back) at.has_name (subst (λ blocks. behind (named blocks) at.block.name ≡ named at.back) e (next_at at.front at.block at.back absent)) in
    lines
    ∙ ap (body_lines at.block) (first_slot bs (at.front ++ at.block ∷ []) at.back d (ahead at.front at.block at.back ∙ e) ∙ ap (slot_lines bs) (sym (ap first_key next)))
    ∙ ap (λ (b : Block). body_lines b (slot_lines bs (next_key (named bs) n))) same

-- another block of the same name in place of one: names, other blocks and next slots are the same
pub keys_same : (front : List Block) (x y : Block) (back : List Block) → y.name ≡ x.name → keys (named (front ++ (y ∷ back))) ≡ keys (named (front ++ (x ∷ back)))
keys_same [] x y back e = ap (λ n. n ∷ keys (named back)) e
keys_same (w ∷ front) x y back e = ap (λ ns. w.name ∷ ns) (keys_same front x y back e)

pub others_same : (front : List Block) (x y : Block) (back : List Block) (n : ℕ) → y.name ≡ x.name → n ≢ x.name → value_of (named (front ++ (y ∷ back))) n ≡ value_of (named (front ++ (x ∷ back))) n
others_same [] x y back n e differs =
    let p : (x.name == n) ≡ false = ne_eqb x.name n (λ i. differs (sym i)) in
    let q : (y.name == n) ≡ false = ap (λ m. m == n) e ∙ p in rw (p, q) refl
others_same (w ∷ front) x y back n e differs = ap (λ o. if w.name == n then Some w else o) (others_same front x y back n e differs)

first_same : (front : List Block) (x y : Block) (back : List Block) → y.name ≡ x.name → first_key (named (front ++ (y ∷ back))) ≡ first_key (named (front ++ (x ∷ back)))
first_same [] x y back e = ap Some e
first_same (w ∷ front) x y back e = refl

pub next_same : (front : List Block) (x y : Block) (back : List Block) (n : ℕ) → y.name ≡ x.name → next_key (named (front ++ (y ∷ back))) n ≡ next_key (named (front ++ (x ∷ back))) n
next_same [] x y back n e = ap (λ m. first_key (if m == n then named back else behind (named back) n)) e
next_same (w ∷ front) x y back n e =
    elim (cases_Bool (w.name == n)) [
      | inl here ↦ rw here (first_same front x y back e)
      | inr apart ↦ rw apart (next_same front x y back n e)
    ]

-- lone Jumps lead from the one name to the other
pub data Hops (g : Graph) : ℕ → ℕ → Type 0 where
  stop : {n : ℕ} → Hops g n n
  hop : {n m r : ℕ} → jump_from g n ≡ Some m → Hops g m r → Hops g n r

hops_within : (g : Graph) (fuel n : ℕ) → Hops g n (resolved_within g fuel n)
hops_within g zero n = stop
hops_within g (suc fuel) n = go (is_on_cycle g n) (jump_from g n) refl (λ m. hops_within g fuel m)
  where
    go : (t : Bool) (o : Option ℕ) → jump_from g n ≡ o → ((m : ℕ) → Hops g m (resolved_within g fuel m)) → Hops g n (if t then n else (elim o [ None ↦ n | Some to ↦ resolved_within g fuel to ]))
    go true o e later = stop
    go false None e later = stop
    go false (Some m) e later = hop e (later m)

-- to what a name resolves
pub hops : (g : Graph) (n : ℕ) → Hops g n (resolved g n)
hops g n = hops_within g (length g.blocks) n
