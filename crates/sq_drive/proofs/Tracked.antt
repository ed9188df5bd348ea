-- The tracks of a replay, step by step.
use Rattle.std.proofs.Common.{◌≡◌, ℕ, ◌&&◌, if◌then◌else◌, List, [], ◌∷◌, ◌++◌, map, Option, Some, None, is_some, inl, inr, refl, sym, ap, ◌∙◌, subst, arith}
use Rattle.std.specs.Option.{unwrap_or}
use Rattle.std.proofs.lemmas.Bool.{cases_Bool, and_parts}
use Rattle.std.proofs.lemmas.List.Elements.{All-head}
use Rattle.sq_graph.specs.declared.item.Term.{Term}
use Rattle.sq_graph.specs.declared.item.Term.TheVariants.{Jump}
use Rattle.sq_graph.specs.Alike.{AreAlike}
use Rattle.sq_graph.specs.Blocks.{HasBlock, block_of, term_of}
use Rattle.sq_graph.specs.Bypasses.{passed}
use Rattle.sq_graph.specs.Canonical.{canonical_of}
use Rattle.sq_graph.specs.Graph.{Graph}
use Rattle.sq_graph.specs.Parts.{names_of}
use Rattle.sq_graph.specs.Rules.{IsGraph}
use Rattle.sq_graph.specs.Slotted.{number_in, slotted}
use Rattle.sq_graph.proofs.RenamedReach.{alike_words}
use Rattle.sq_lookup.proofs.Targets.{targets_there}
use Rattle.sq_names.specs.declared.track.Track.{Track}
use Rattle.sq_names.specs.declared.track.Track.TheVariants.{At, Inside, Gone}
use Rattle.sq_pass.specs.declared.cut.Cut.{Cut}
use Rattle.sq_pass.specs.Applied.{KeepsNames, IsApplied}
use Rattle.sq_pass.specs.Cuts.{IsCompleted}
use Rattle.sq_cert.specs.declared.read.Reading.{Reading}
use Rattle.sq_cert.specs.declared.step.Step.{Step}
use Rattle.sq_cert.specs.declared.step.Step.TheVariants.{J2, J3}
use Rattle.sq_cert.specs.Readings.{reading, reading_of}
use Rattle.sq_cert.proofs.RoundTrip.{text_found}
use Rattle.sq_chain.specs.Candidates.{cut_of as chain_cut, IsCandidate as IsMove, IsMoved}
use Rattle.sq_chain.specs.Moves.{moved}
use Rattle.sq_drive.specs.Making.{IsMade}
use Rattle.sq_drive.specs.Replay.{cut_of, MayStep, IsReplay}
use Rattle.sq_drive.specs.Replaying.{move_cut}
use Rattle.sq_drive.specs.Rows.{IsRowCandidate, row_described}
use Rattle.sq_drive.proofs.KeptPlaces.{same_there, same_place}
use Rattle.sq_drive.proofs.Moves.{not_moved, row_made}
use Rattle.sq_drive.proofs.OneReplay.{one_described}
use Rattle.sq_drive.proofs.Replays.{same_next, move_completed}
use Rattle.sq_drive.specs.Tracking.{carried, removed_by, standing, by_row, by_canonical, by_step, made_by, AreCarried, AreTracked}

-- THE ROW OF A STEP

pub row_made_so : (told given : Cut) (old made : Graph) → IsCompleted told given → IsRowCandidate old given → IsApplied given.saving (row_described old given) old made → IsMade told old made
row_made_so told given old made completed candidate applied =
    let same = row_made given.row old given (not_moved old given candidate) in
    record {
      given = record { cut = given; completed = completed; candidate = inl candidate };
      applied = subst (λ (h : Graph). IsApplied given.saving h old made) (sym same) applied;
    }

pub move_made_so : (from to : ℕ) (old made : Graph) → IsMoved from to old made → IsMade (move_cut from to) old made
move_made_so from to old made m =
    let candidate : IsMove old (chain_cut from to m.saving) =
    record {
      from = from;
      to = to;
      movable = m.movable;
      words = omega (arith, m.applied.words, alike_words made (moved old from to) m.applied.described);
      some = m.some;
      is = refl;
    }
    in
    record {
      given = record { cut = chain_cut from to m.saving; completed = move_completed from to m.saving; candidate = inr candidate };
      applied = m.applied;
    }

-- WHAT A ROW DESCRIBES

-- a track is at a block of the graph, or at none
abbrev IsOf : Graph → Track → Type 0
IsOf g (At block) = HasBlock g block
IsOf g Inside = Unit {0}
IsOf g Gone = Unit {0}

jump_there : (g : Graph) (block to : ℕ) → IsGraph g → term_of g block ≡ Some (Jump to) → HasBlock g to
jump_there g block to rules e = All-head (HasBlock g) to [] (targets_there g block (Jump to) rules e)

removed_there : (g : Graph) (block : ℕ) (step : Step) (term : Option Term) → IsGraph g → term_of g block ≡ term → IsOf g (removed_by step term)
removed_there g block (J2 b) (Some (Jump to)) rules e = jump_there g block to rules e
removed_there g block (J3 b) (Some (Jump to)) rules e = jump_there g block to rules e
removed_there g block step term rules e = tt

row_there : (step : Step) (old made : Graph) (block : ℕ) → IsGraph old → IsOf old (by_row step old made block)
row_there step old made block rules =
    elim (cases_Bool (is_some (block_of old block) && is_some (block_of made block))) [
      | inl both ↦ rw both (and_parts (is_some (block_of old block)) (is_some (block_of made block)) both).0
      | inr not ↦ rw not (removed_there old block step (term_of old block) rules refl)
    ]

-- a graph that differs from it in the names of new blocks alone carries tracks to the same places
module _ (step : Step) (old made told : Graph) (old_rules : IsGraph old) (rules : IsGraph made) (alike : AreAlike made told) (kept : KeepsNames old told made) where
  same_row : (block : ℕ) → by_row step old made block ≡ by_row step old told block
  same_row block =
      elim (cases_Bool (is_some (block_of old block))) [
        | inl has ↦ ap (λ there. if is_some (block_of old block) && there then At block else removed_by step (term_of old block)) (same_there old made told rules alike kept block has)
        | inr none ↦ rw none refl
      ]

  same_canonical : (track : Track) → IsOf old track → carried (by_canonical made) track ≡ carried (by_canonical told) track
  same_canonical (At block) has = ap standing (same_place old made told rules alike kept block has)
  same_canonical Inside has = refl
  same_canonical Gone has = refl

  pub same_step : (track : Track) → by_step step old made track ≡ by_step step old told track
  same_step (At block) =
      ap (carried (by_canonical made)) (same_row block)
      ∙ same_canonical (by_row step old told block) (row_there step old told block old_rules)
  same_step Inside = refl
  same_step Gone = refl

-- so does the graph that the code makes
module _ (step : Step) (old made : Graph) (is : IsMade (cut_of old step) old made) where
  pub next_made : slotted (canonical_of made) ≡ slotted (canonical_of (made_by step old is.given))
  next_made = same_next made (made_by step old is.given) is.applied.rules is.applied.described

  pub tracks_made : IsGraph old → by_step step old made ≡ by_step step old (made_by step old is.given)
  tracks_made rules = λ i track. same_step step old made (made_by step old is.given) rules is.applied.rules is.applied.described is.applied.kept track i

-- STEP BY STEP

-- one step more
pub carried_on : (front : List Step) (step : Step) (old mid new : Graph) (before between after : List Track) → AreCarried front old mid before between → (given : MayStep mid step) → new ≡ slotted (canonical_of (made_by step mid given)) → after ≡ map (by_step step mid (made_by step mid given)) between → AreCarried (front ++ step ∷ []) old new before after
carried_on [] step old mid new before between after (same, kept) given next is =
    subst (λ (g : Graph). (given : MayStep g step) × ((new ≡ slotted (canonical_of (made_by step g given))) × (after ≡ map (by_step step g (made_by step g given)) before))) same
    (given, (next, is ∙ ap (map (by_step step mid (made_by step mid given))) kept))
carried_on (first ∷ front) step old mid new before between after (was, leads) given next is =
    (was, carried_on front step (slotted (canonical_of (made_by first old was))) mid new (map (by_step first old (made_by first old was)) before) between after leads given next is)

-- tracks are carried along a replay
pub replayed : (steps : List Step) (old new : Graph) (before after : List Track) → AreCarried steps old new before after → IsReplay steps old new
replayed [] old new before after (same, kept) = same
replayed (step ∷ steps) old new before after (given, leads) =
    let next = slotted (canonical_of (made_by step old given)) in
    (next, (record { given = given; is = refl }, replayed steps next new (map (by_step step old (made_by step old given)) before) after leads))

-- THEY ARE THE ONLY ONES

pub one_carried : (steps : List Step) (old a b : Graph) (before one two : List Track) → AreCarried steps old a before one → AreCarried steps old b before two → (a ≡ b) × (one ≡ two)
one_carried [] old a b before one two first second = (first.0 ∙ sym second.0, first.1 ∙ sym second.1)
one_carried (step ∷ steps) old a b before one two (given, leads) (other, goes) =
    let same : made_by step old other ≡ made_by step old given = one_described old (cut_of old step) other.cut given.cut other.completed given.completed other.candidate given.candidate in
    one_carried steps (slotted (canonical_of (made_by step old given))) a b (map (by_step step old (made_by step old given)) before) one two leads
    (subst (λ (m : Graph). AreCarried steps (slotted (canonical_of m)) b (map (by_step step old m) before) two) same goes)

pub one_tracked : (text : List ℕ) (old a b : Graph) (before one two : List Track) → AreTracked text old a before one → AreTracked text old b before two → (a ≡ b) × (one ≡ two)
one_tracked text old a b before one two first second =
    let steps : second.steps ≡ first.steps = ap (λ (r : Reading). r.cert) (sym (read_as second) ∙ read_as first) in
    one_carried first.steps old a b before one two first.carried (subst (λ list. AreCarried list old b before two) steps second.carried)
  where
    read_as : {new : Graph} {after : List Track} (t : AreTracked text old new before after) → reading_of text ≡ reading t.steps None
    read_as t = ap reading_of t.text_is ∙ text_found t.steps t.form

-- ONE STEP, AS THE CODE TAKES IT

map_twice : (f g : Track → Track) (ts : List Track) → map g (map f ts) ≡ map (λ t. g (f t)) ts
map_twice f g [] = refl
map_twice f g (t ∷ ts) = ap (λ us. g (f t) ∷ us) (map_twice f g ts)

pub stepped : (step : Step) (old copy made : Graph) (landings slots : ℕ → Option ℕ) (before left after : List Track) → copy ≡ old → left ≡ map (carried (by_row step copy made)) before → after ≡ map (carried (λ b. standing (slots (unwrap_or (landings b) b)))) left → ((x : ℕ) → unwrap_or (landings x) x ≡ passed made.blocks x) → ((x : ℕ) → slots x ≡ number_in (names_of (canonical_of made)) 0 x) → after ≡ map (by_step step old made) before
stepped step old copy made landings slots before left after same by_rows stands lands numbered =
    let settles : (λ (b : ℕ). standing (slots (unwrap_or (landings b) b))) ≡ by_canonical made =
    λ i b. standing ((numbered (unwrap_or (landings b) b) ∙ ap (number_in (names_of (canonical_of made)) 0) (lands b)) i)
    in
    stands
    ∙ (λ i. map (carried (settles i)) (by_rows i))
    ∙ map_twice (carried (by_row step copy made)) (carried (by_canonical made)) before
    ∙ ap (λ (g : Graph). map (by_step step g made) before) same
