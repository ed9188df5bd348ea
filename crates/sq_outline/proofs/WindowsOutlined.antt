-- Items of a block become the body of one procedure more: the same registers are live.
use Rattle.std.proofs.Common.{◌≡◌, ◌↔◌, ℕ, ◌+◌, ◌≤◌, List, [], ◌∷◌, ◌++◌, map, length, inl, inr, refl, sym, ap, ◌∙◌, subst}
use Rattle.std.specs.List.{flat_map, slice_range, Contains}
use Rattle.std.proofs.lemmas.List.Concat.{flat_map-append}
use Rattle.std.proofs.lemmas.List.Elements.{Contains-append_left, Contains-append_right, Contains-append_cases}
use Rattle.sq_graph.specs.declared.calls.ItemFate.{ItemFate}
use Rattle.sq_graph.specs.declared.item.Term.TheVariants.{Fall, Jump, Branch, Call, PartJump, Indirect, Stop}
use Rattle.sq_graph.specs.Graph.{Block, Procedure, Graph}
use Rattle.sq_graph.specs.Blocks.{items_of}
use Rattle.sq_graph.specs.Calls.{with_calls}
use Rattle.sq_graph.specs.Lines.{Line, Name, Do, Enter, Return, End, place_lines}
use Rattle.sq_graph.specs.Operations.{outlined}
use Rattle.sq_graph.specs.Rules.{IsGraph}
use Rattle.sq_graph.specs.Walks.{word_name, lower_names, link_names, code_targets, is_link_of, line_writes, Goes, IsLive, read_here, live_behind}
use Rattle.sq_live.specs.Liveness.{IsLivenessOf}
use Rattle.law_patch.proofs.Renaming.{still_there}
use Rattle.law_patch.proofs.Recalling.{outline_live}
use Rattle.sq_outline.specs.WindowsTaken.{place_then, KeepsLive}

-- ONE PROCEDURE MORE

module _ (g : Graph) (block at n link : ℕ) where
  abbrev new : Procedure
  new = record { link = link; body = slice_range (items_of g block) at (at + n) }

  abbrev og : Graph
  og = outlined g block at n link

  abbrev bodies : List Procedure → List ℕ
  bodies ps = flat_map (λ (p : Procedure). flat_map lower_names p.body) ps

  bodies_more : (m : ℕ) → Contains (bodies g.procedures) m → Contains (bodies (g.procedures ++ new ∷ [])) m
  bodies_more m c =
      subst (λ ns. Contains ns m) (sym (flat_map-append (λ (p : Procedure). flat_map lower_names p.body) g.procedures (new ∷ [])))
      (Contains-append_left (bodies g.procedures) (bodies (new ∷ [])) m c)

  targets_more : (m : ℕ) → Contains (code_targets g) m → Contains (code_targets og) m
  targets_more m c =
      let ws = map word_name g.code_words in
      let bs = flat_map (λ (b : Block). flat_map lower_names b.items) g.blocks in
      let ps = bodies g.procedures in
      let qs = bodies (g.procedures ++ new ∷ []) in
      elim (Contains-append_cases ((ws ++ bs) ++ ps) (link_names g.blocks) m c) [
        | inr slots ↦ Contains-append_right ((ws ++ bs) ++ qs) (link_names g.blocks) m slots
        | inl others ↦
            Contains-append_left ((ws ++ bs) ++ qs) (link_names g.blocks) m
            (elim (Contains-append_cases (ws ++ bs) ps m others) [
              | inl front ↦ Contains-append_left (ws ++ bs) qs m front
              | inr inside ↦ Contains-append_right (ws ++ bs) qs m (bodies_more m inside)
            ])
      ]

  goes_more : (line : Line) (rest next : List Line) → Goes g line rest next → Goes og line rest next
  goes_more (Name k) rest next goes = goes
  goes_more (Do half insn) rest next goes = goes
  goes_more (Enter procedure) rest next (p, there, is) = (p, still_there g.procedures (new ∷ []) procedure p there, is)
  goes_more (Return k) rest next goes = goes
  goes_more (End Fall) rest next goes = goes
  goes_more (End (Jump to)) rest next goes = goes
  goes_more (End (Branch c a b to)) rest next goes = goes
  goes_more (End (Call k to)) rest next goes = goes
  goes_more (End (PartJump k part to)) rest next goes = goes
  goes_more (End (Indirect k from offset)) rest next (m, c, is) = (m, targets_more m c, is)
  goes_more (End (Stop word)) rest next goes = goes

  writes_same : (r : ℕ) (line : Line) (rest next : List Line) → Goes g line rest next → line_writes og.procedures line r ≡ line_writes g.procedures line r
  writes_same r (Name k) rest next goes = refl
  writes_same r (Do half insn) rest next goes = refl
  writes_same r (Enter procedure) rest next (p, there, is) = ap (λ o. is_link_of o r) (still_there g.procedures (new ∷ []) procedure p there ∙ sym there)
  writes_same r (Return k) rest next goes = refl
  writes_same r (End term) rest next goes = refl

  -- no less is live
  pub outline_keeps_live : (r : ℕ) (lines : List Line) → IsLive g r lines → IsLive og r lines
  outline_keeps_live r lines live = lives live
    where
      lives : {ls : List Line} → IsLive g r ls → IsLive og r ls
      lives (read_here {line = line} {rest = rest} e) = read_here {line = line} {rest = rest} e
      lives (live_behind {line = line} {rest = rest} {next = next} w goes live) =
          live_behind {line = line} {rest = rest} {next = next} (writes_same r line rest next goes ∙ w) (goes_more line rest next goes) (lives live)

  pub live_same : IsGraph g → (other place r : ℕ) → place ≤ length (items_of g other) → IsLive g r (place_lines g other place) ↔ IsLive og r (place_lines g other place)
  live_same rules other place r l = (λ live. outline_keeps_live r (place_lines g other place) live, λ live. outline_live g block at n link rules other place r l live)

  -- the live registers stay those of the graph
  pub outlined_live : (live : List (ℕ × List ℕ)) → IsGraph g → IsLivenessOf g live → IsLivenessOf og live
  outlined_live live rules lives = record {
    count = lives.count;
    exact = λ other place r has l some few.
        let was = lives.exact other place r has l some few in
        let same = live_same rules other place r l in (λ member. same.0 (was.0 member), λ lives. was.1 (same.1 lives));
  }

-- what is kept once calls came is kept with one procedure more
pub outlined_keeps : (g : Graph) (fates : List ItemFate) (block at n link : ℕ) → IsGraph g → IsGraph (with_calls fates g) → (now : ℕ) → with_calls fates (outlined g block at n link) ≡ outlined (with_calls fates g) block now n link
    → ((b q : ℕ) → place_then g fates b q ≤ length (items_of (with_calls fates g) b)) → KeepsLive g fates → KeepsLive (outlined g block at n link) fates
outlined_keeps g fates block at n link rules still now is fits keeps b q r has l kept =
    let h = with_calls fates g in
    let p = place_then g fates b q in
    let was = keeps b q r has l kept in
    let first = live_same g block at n link rules b q r l in
    let second = live_same h block now n link still b p r (fits b q) in (
      λ live. subst (λ (k : Graph). IsLive k r (place_lines h b p)) (sym is) (second.0 (was.0 (first.1 live))),
      λ live. first.0 (was.1 (second.1 (subst (λ (k : Graph). IsLive k r (place_lines h b p)) is live))),
    )
