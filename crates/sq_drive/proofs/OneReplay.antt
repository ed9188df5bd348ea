-- A step leads to one graph alone. So the steps of a certificate lead to one graph, or one of them is the first that fails.
use Rattle.std.proofs.Common.{◌≡◌, ◌≢◌, ◌↔◌, ℕ, Bool, true, false, cond, List, [], ◌∷◌, ◌++◌, inl, inr, refl, sym, ap, ◌∙◌, subst}
use Rattle.std.proofs.lemmas.List.Elements.{All-from_get_or, recursion_from_All}
use Rattle.std.specs.List.{All, AllByRecursion, filter}
use Rattle.sq_graph.specs.Blocks.{HasBlock, items_of}
use Rattle.sq_graph.specs.Canonical.{canonical_of}
use Rattle.sq_graph.specs.Graph.{Graph}
use Rattle.sq_graph.specs.Parts.{names_of}
use Rattle.sq_graph.specs.Slotted.{slotted}
use Rattle.sq_graph.specs.Walks.{IsReachedBlock}
use Rattle.sq_finger.proofs.Layouts.{name_there}
use Rattle.sq_lookup.specs.Names.{is_listed}
use Rattle.sq_pass.specs.declared.cut.Cut.{Cut}
use Rattle.sq_pass.specs.declared.cut.Row.{Row}
use Rattle.sq_pass.specs.declared.cut.Row.TheVariants.{U, T, O1, O2, O3, O4, W, V, L}
use Rattle.sq_pass.specs.Cuts.{IsCompleted}
use Rattle.sq_cert.specs.declared.step.Step.{Step}
use Rattle.sq_jumps.specs.Candidates.{HasRow}
use Rattle.sq_jumps.specs.Unreached.{AreUnreached}
use Rattle.sq_outline.specs.Candidates.{IsCutOf}
use Rattle.sq_outline.specs.WindowsCandidates.{IsWindowsCutOf}
use Rattle.sq_outline.specs.Links.{link_order, MayLink, IsFirstOf, IsLink}
use Rattle.sq_outline.specs.Made.{first_block, ends_of, IsMadeCut}
use Rattle.sq_outline.specs.WindowsMade.{items_at, behind, IsWindowCut}
use Rattle.sq_outline.specs.WindowsPlaces.{occurrences}
use Rattle.sq_drive.specs.Replay.{cut_of, MayStep, IsStep, IsReplay, FailsAt}
use Rattle.sq_drive.specs.Rows.{IsCandidate, described}

-- THE BLOCKS OF ROW U

filter_same : (p q : ℕ → Bool) (xs : List ℕ) → AllByRecursion (λ x. p x ≡ q x) xs → filter p xs ≡ filter q xs
filter_same p q [] same = refl
filter_same p q (x ∷ xs) same =
    ap (λ is. cond is (x ∷ filter p xs) (filter p xs)) same.0 ∙ ap (λ rest. cond (q x) (x ∷ rest) rest) (filter_same p q xs same.1)

same_test : (a b : Bool) (P : Type 0) → (a ≡ false) ↔ P → (b ≡ false) ↔ P → a ≡ b
same_test true true P one two = refl
same_test false false P one two = refl
same_test true false P one two = let no : true ≡ false = one.1 (two.0 refl) in absurd (cc no)
same_test false true P one two = let no : true ≡ false = two.1 (one.0 refl) in absurd (cc no)

all_names : (g : Graph) → All (HasBlock g) (names_of g)
all_names g = All-from_get_or (HasBlock g) (names_of g) 0 (λ k within. name_there g (names_of g) k refl within)

listed_alike : (g : Graph) (a b names : List ℕ) → AreUnreached g a → AreUnreached g b → AllByRecursion (HasBlock g) names → AllByRecursion (λ n. is_listed a n ≡ is_listed b n) names
listed_alike g a b [] one two there = tt
listed_alike g a b (n ∷ names) one two there =
    (same_test (is_listed a n) (is_listed b n) (IsReachedBlock g n) (one.exact n there.0) (two.exact n there.0), listed_alike g a b names one two there.1)

one_unreached : (g : Graph) (a b : List ℕ) → AreUnreached g a → AreUnreached g b → a ≡ b
one_unreached g a b one two =
    one.in_order
    ∙ filter_same (is_listed a) (is_listed b) (names_of g) (listed_alike g a b (names_of g) one two (recursion_from_All (HasBlock g) (names_of g) (all_names g)))
    ∙ sym two.in_order

unreached_of : (g : Graph) (cut : Cut) → IsCandidate g cut → cut.row ≡ U → AreUnreached g cut.blocks
unreached_of g cut (inl (inl (inl unreached))) is = unreached.unreached
unreached_of g cut (inl (inl (inr jump))) is = absurd (subst (λ row. HasRow row g jump.block) is jump.has_row)
unreached_of g cut (inl (inr (inl (inl tail)))) is = let no : T ≡ U = sym (ap (λ (c : Cut). c.row) tail.is) ∙ is in absurd (cc no)
unreached_of g cut (inl (inr (inl (inr body)))) is = let no : T ≡ U = sym (ap (λ (c : Cut). c.row) body.is) ∙ is in absurd (cc no)
unreached_of g cut (inl (inr (inr (inl outline)))) is = absurd (subst (λ row. IsCutOf row g cut) is outline)
unreached_of g cut (inl (inr (inr (inr window)))) is = absurd (subst (λ row. IsWindowsCutOf row g cut) is window)
unreached_of g cut (inr move) is = let no : L ≡ U = sym (ap (λ (c : Cut). c.row) move.is) ∙ is in absurd (cc no)

-- THE LINK OF ROW O1

one_first : (xs : List ℕ) (P : ℕ → Type 0) (a b : ℕ) → IsFirstOf xs P a → IsFirstOf xs P b → a ≡ b
one_first [] P a b one two = absurd one
one_first (x ∷ xs) P a b (inl here) (inl there) = here.0 ∙ sym there.0
one_first (x ∷ xs) P a b (inl here) (inr there) = absurd (there.0 here.1)
one_first (x ∷ xs) P a b (inr here) (inl there) = absurd (here.0 there.1)
one_first (x ∷ xs) P a b (inr here) (inr there) = one_first xs P a b here.1 there.1

-- the link by the blocks
abbrev IsLinkOf : Graph → List ℕ → ℕ → Type 0
IsLinkOf g blocks link = IsLink g (items_of g (first_block blocks)) (ends_of g blocks) link

made_link : (g : Graph) (cut : Cut) → IsMadeCut g cut → IsLinkOf g cut.blocks cut.link
made_link g cut made = subst (λ blocks. IsLinkOf g blocks cut.link) (sym (ap (λ (c : Cut). c.blocks) made.is)) made.made.linked

link_of : (g : Graph) (cut : Cut) → IsCandidate g cut → cut.row ≡ O1 → IsLinkOf g cut.blocks cut.link
link_of g cut (inl (inl (inl unreached))) is = let no : U ≡ O1 = sym unreached.row ∙ is in absurd (cc no)
link_of g cut (inl (inl (inr jump))) is = absurd (subst (λ row. HasRow row g jump.block) is jump.has_row)
link_of g cut (inl (inr (inl (inl tail)))) is = let no : T ≡ O1 = sym (ap (λ (c : Cut). c.row) tail.is) ∙ is in absurd (cc no)
link_of g cut (inl (inr (inl (inr body)))) is = let no : T ≡ O1 = sym (ap (λ (c : Cut). c.row) body.is) ∙ is in absurd (cc no)
link_of g cut (inl (inr (inr (inl outline)))) is = made_link g cut (subst (λ row. IsCutOf row g cut) is outline)
link_of g cut (inl (inr (inr (inr window)))) is = absurd (subst (λ row. IsWindowsCutOf row g cut) is window)
link_of g cut (inr move) is = let no : L ≡ O1 = sym (ap (λ (c : Cut). c.row) move.is) ∙ is in absurd (cc no)

-- THE LINK OF ROW W

-- the link by the window at a place
abbrev IsLinkAt : Graph → List ℕ → ℕ → ℕ → ℕ → Type 0
IsLinkAt g blocks at n link = IsLink g (items_at g (first_block blocks) at n) (behind n (occurrences g (items_at g (first_block blocks) at n))) link

window_made_link : (g : Graph) (cut : Cut) → IsWindowCut g cut → IsLinkAt g cut.blocks cut.other cut.length cut.link
window_made_link g cut window = subst (λ blocks. IsLinkAt g blocks cut.other cut.length cut.link) (sym (ap (λ (c : Cut). c.blocks) window.is)) window.made.linked

window_link_of : (g : Graph) (cut : Cut) → IsCandidate g cut → cut.row ≡ W → IsLinkAt g cut.blocks cut.other cut.length cut.link
window_link_of g cut (inl (inl (inl unreached))) is = let no : U ≡ W = sym unreached.row ∙ is in absurd (cc no)
window_link_of g cut (inl (inl (inr jump))) is = absurd (subst (λ row. HasRow row g jump.block) is jump.has_row)
window_link_of g cut (inl (inr (inl (inl tail)))) is = let no : T ≡ W = sym (ap (λ (c : Cut). c.row) tail.is) ∙ is in absurd (cc no)
window_link_of g cut (inl (inr (inl (inr body)))) is = let no : T ≡ W = sym (ap (λ (c : Cut). c.row) body.is) ∙ is in absurd (cc no)
window_link_of g cut (inl (inr (inr (inl outline)))) is = absurd (subst (λ row. IsCutOf row g cut) is outline)
window_link_of g cut (inl (inr (inr (inr window)))) is = window_made_link g cut (subst (λ row. IsWindowsCutOf row g cut) is window)
window_link_of g cut (inr move) is = let no : L ≡ W = sym (ap (λ (c : Cut). c.row) move.is) ∙ is in absurd (cc no)

-- NO OTHER ROW HAS ONE

outline_link : (row : Row) (g : Graph) (cut : Cut) → row ≢ O1 → IsCutOf row g cut → cut.link ≡ 0
outline_link O1 g cut other outline = absurd (other refl)
outline_link O2 g cut other outline = ap (λ (c : Cut). c.link) outline.is
outline_link O3 g cut other outline = ap (λ (c : Cut). c.link) outline.is
outline_link O4 g cut other outline = ap (λ (c : Cut). c.link) outline.is
outline_link row g cut other none = absurd none

window_link : (row : Row) (g : Graph) (cut : Cut) → row ≢ W → IsWindowsCutOf row g cut → cut.link ≡ 0
window_link W g cut other window = absurd (other refl)
window_link V g cut other inside = ap (λ (c : Cut). c.link) inside.is
window_link row g cut other none = absurd none

no_link : (g : Graph) (cut : Cut) → IsCandidate g cut → cut.row ≢ O1 → cut.row ≢ W → cut.link ≡ 0
no_link g cut (inl (inl (inl unreached))) other window = unreached.link
no_link g cut (inl (inl (inr jump))) other window = ap (λ (c : Cut). c.link) jump.is
no_link g cut (inl (inr (inl (inl tail)))) other window = ap (λ (c : Cut). c.link) tail.is
no_link g cut (inl (inr (inl (inr body)))) other window = ap (λ (c : Cut). c.link) body.is
no_link g cut (inl (inr (inr (inl outline)))) other window = outline_link cut.row g cut other outline
no_link g cut (inl (inr (inr (inr made)))) other window = window_link cut.row g cut window made
no_link g cut (inr move) other window = ap (λ (c : Cut). c.link) move.is

-- WHAT A ROW MAKES

-- the cut without its saving
abbrev bare : Cut → Cut
bare cut = record cut { saving = 0 }

same_bare : (a b : Cut) → a.row ≡ b.row → a.blocks ≡ b.blocks → a.procedure ≡ b.procedure → a.other ≡ b.other → a.length ≡ b.length → a.link ≡ b.link → bare a ≡ bare b
same_bare a b row blocks procedure other length link =
    ap (λ r. record (bare a) { row = r }) row
    ∙ ap (λ x. record (bare a) { row = b.row; blocks = x }) blocks
    ∙ ap (λ x. record (bare a) { row = b.row; blocks = b.blocks; procedure = x }) procedure
    ∙ ap (λ x. record (bare a) { row = b.row; blocks = b.blocks; procedure = b.procedure; other = x }) other
    ∙ ap (λ x. record (bare b) { length = x; link = a.link }) length
    ∙ ap (λ x. record (bare b) { link = x }) link

-- what the row makes doesn't depend on it
without_saving : (g : Graph) (row : Row) (blocks : List ℕ) (procedure other length link saving : ℕ)
    → described g (record { row = row; blocks = blocks; procedure = procedure; other = other; length = length; link = link; saving = saving }) ≡ described g (record { row = row; blocks = blocks; procedure = procedure; other = other; length = length; link = link; saving = 0 })
without_saving g U blocks procedure other length link saving = refl
without_saving g row blocks procedure other length link saving = refl

bare_made : (g : Graph) (cut : Cut) → described g cut ≡ described g (bare cut)
bare_made g cut = without_saving g cut.row cut.blocks cut.procedure cut.other cut.length cut.link cut.saving

-- two candidates that a step tells
module _ (g : Graph) (told a b : Cut) (one : IsCompleted told a) (two : IsCompleted told b) (first : IsCandidate g a) (second : IsCandidate g b) where
  same_row : a.row ≡ b.row
  same_row = one.row ∙ sym two.row

  same_blocks : a.blocks ≡ b.blocks
  same_blocks = by_row told.row refl
    where
      by_row : (row : Row) → told.row ≡ row → a.blocks ≡ b.blocks
      by_row U is = one_unreached g a.blocks b.blocks (unreached_of g a first (one.row ∙ is)) (unreached_of g b second (two.row ∙ is))
      by_row row is = let other : told.row ≢ U = λ same. let no : row ≡ U = sym is ∙ same in cc no in one.blocks other ∙ sym (two.blocks other)

  same_link : a.link ≡ b.link
  same_link = by_row told.row refl
    where
      by_row : (row : Row) → told.row ≡ row → a.link ≡ b.link
      by_row O1 is =
          one_first link_order (MayLink g (items_of g (first_block b.blocks)) (ends_of g b.blocks)) a.link b.link (subst (λ blocks. IsLinkOf g blocks a.link) same_blocks (link_of g a first (one.row ∙ is))) (link_of g b second (two.row ∙ is))
      by_row W is =
          let same_other = one.other ∙ sym two.other in
          let same_length = one.length ∙ sym two.length in
          let own = window_link_of g a first (one.row ∙ is) in
          let at_blocks = subst (λ blocks. IsLinkAt g blocks a.other a.length a.link) same_blocks own in
          let at_place = subst (λ at. IsLinkAt g b.blocks at a.length a.link) same_other at_blocks in
          let at_length = subst (λ n. IsLinkAt g b.blocks b.other n a.link) same_length at_place in
          let window = items_at g (first_block b.blocks) b.other b.length in
          one_first link_order (MayLink g window (behind b.length (occurrences g window))) a.link b.link at_length (window_link_of g b second (two.row ∙ is))
      by_row row is =
          no_link g a first (λ same. let no : row ≡ O1 = sym is ∙ sym one.row ∙ same in cc no) (λ same. let no : row ≡ W = sym is ∙ sym one.row ∙ same in cc no)
          ∙ sym (no_link g b second (λ same. let no : row ≡ O1 = sym is ∙ sym two.row ∙ same in cc no) (λ same. let no : row ≡ W = sym is ∙ sym two.row ∙ same in cc no))

  pub one_described : described g a ≡ described g b
  one_described =
      bare_made g a
      ∙ ap (described g) (same_bare a b same_row same_blocks (one.procedure ∙ sym two.procedure) (one.other ∙ sym two.other) (one.length ∙ sym two.length) same_link)
      ∙ sym (bare_made g b)

-- THE REPLAY

pub one_step : (step : Step) (old a b : Graph) → IsStep step old a → IsStep step old b → a ≡ b
one_step step old a b one two =
    one.is
    ∙ ap (λ (g : Graph). slotted (canonical_of g)) (one_described old (cut_of old step) one.given.cut two.given.cut one.given.completed two.given.completed one.given.candidate two.given.candidate)
    ∙ sym two.is

pub one_replay : (steps : List Step) (old a b : Graph) → IsReplay steps old a → IsReplay steps old b → a ≡ b
one_replay [] old a b one two = one ∙ sym two
one_replay (step ∷ steps) old a b (next, one) (other, two) =
    let same = one_step step old other next two.0 one.0 in
    one_replay steps next a b one.1 (subst (λ (g : Graph). IsReplay steps g b) same two.1)

stops : (front : List Step) (step : Step) (back : List Step) (old before new : Graph) → IsReplay front old before → ¬ MayStep before step → IsReplay (front ++ step ∷ back) old new → ⊥
stops [] step back old before new same none (next, leads) = none (subst (λ (g : Graph). MayStep g step) (sym same) leads.0.given)
stops (first ∷ front) step back old before new (next, leads) none (other, goes) =
    let same = one_step first old other next goes.0 leads.0 in
    stops front step back next before new leads.1 none (subst (λ (g : Graph). IsReplay (front ++ step ∷ back) g new) same goes.1)

-- steps one of which fails lead nowhere
pub fails_only : (steps : List Step) (old : Graph) (number : ℕ) → FailsAt steps old number → (new : Graph) → ¬ IsReplay steps old new
fails_only steps old number fails new replayed =
    stops fails.front fails.step fails.back old fails.before new fails.replay fails.none (subst (λ list. IsReplay list old new) fails.steps_are replayed)
