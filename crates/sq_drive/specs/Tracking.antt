-- What becomes of blocks by the steps of a certificate. Blocks are told by their places in layout order.
use Rattle.std.specs.Prelude.{◌≡◌, ℕ, ◌&&◌, List, [], ◌∷◌, map, Option, Some, None, if◌then◌else◌}
use Rattle.std.specs.List.{All, Contains}
use Rattle.std.specs.Option.{is_some}
use Rattle.sq_graph.specs.declared.item.Term.{Term}
use Rattle.sq_graph.specs.declared.item.Term.TheVariants.{Jump}
use Rattle.sq_graph.specs.declared.parts.CodeRef.{CodeRef}
use Rattle.sq_graph.specs.Blocks.{block_of, term_of}
use Rattle.sq_graph.specs.Bypasses.{passed}
use Rattle.sq_graph.specs.Canonical.{canonical_of}
use Rattle.sq_graph.specs.Graph.{Graph}
use Rattle.sq_graph.specs.Parts.{names_of}
use Rattle.sq_graph.specs.Slotted.{number_in, slotted}
use Rattle.sq_names.specs.declared.track.Track.{Track}
use Rattle.sq_names.specs.declared.track.Track.TheVariants.{At, Inside, Gone}
use Rattle.sq_cert.specs.declared.step.Step.{Step}
use Rattle.sq_cert.specs.declared.step.Step.TheVariants.{J2, J3}
use Rattle.sq_cert.specs.Steps.{HasForm}
use Rattle.sq_cert.specs.Texts.{text_of}
use Rattle.sq_drive.specs.Replay.{MayStep}
use Rattle.sq_drive.specs.Rows.{described}

-- a block goes where f says; what is inside one or gone stays so
abbrev pub carried : (ℕ → Track) → Track → Track
carried f (At block) = f block
carried f Inside = Inside
carried f Gone = Gone

-- what becomes of a block that a step removes, and that ends in this term: J2 and J3 carry the lone Jump to its target
abbrev pub removed_by : Step → Option Term → Track
removed_by (J2 block) (Some (Jump to)) = At to
removed_by (J3 block) (Some (Jump to)) = At to
removed_by step term = Gone

-- what becomes of a block by the row of a step, which makes the one graph of the other: one that isn't removed stays what it is
abbrev pub by_row : Step → Graph → Graph → ℕ → Track
by_row step old made block =
    if is_some (block_of old block) && is_some (block_of made block) then At block else removed_by step (term_of old block)

-- the place of a block, which is inside the one before it where it has none
abbrev pub standing : Option ℕ → Track
standing (Some slot) = At slot
standing None = Inside

-- what becomes of a block when the graph is made canonical: an empty block with Fall goes over to the next one, and a block
-- that is joined to the one before it is inside that one
abbrev pub by_canonical : Graph → ℕ → Track
by_canonical made block = standing (number_in (names_of (canonical_of made)) 0 (passed made.blocks block))

-- what becomes of a track by a step whose row makes the one graph of the other
abbrev pub by_step : Step → Graph → Graph → Track → Track
by_step step old made track = carried (by_canonical made) (carried (by_row step old made) track)

-- what the row of a step makes of a graph of which it is a candidate, before that is made canonical
abbrev pub made_by : (step : Step) (old : Graph) → MayStep old step → Graph
made_by step old given = described old given.cut

-- THE TRACKS: the steps lead from the one graph to the other, and each carries them on
abbrev pub AreCarried : List Step → Graph → Graph → List Track → List Track → Type 0
AreCarried [] old new before after = (new ≡ old) × (after ≡ before)
AreCarried (step ∷ steps) old new before after =
    (given : MayStep old step) × AreCarried steps (slotted (canonical_of (made_by step old given))) new (map (by_step step old (made_by step old given)) before) after

-- a text is that of a certificate, whose steps carry the tracks
pub record AreTracked (text : List ℕ) (old new : Graph) (before after : List Track) : Type 0 where
  pub steps : List Step
  pub form : All HasForm steps
  pub text_is : text ≡ text_of steps
  pub carried : AreCarried steps old new before after

-- THE ENTRY AND CODE WORDS

-- a track is at the block that the code word at this address holds
pub record HoldsAt (g : Graph) (at : ℕ) (track : Track) : Type 0 where
  pub word : CodeRef
  pub within : Contains g.code_words word
  pub place : word.at ≡ at
  pub held : track ≡ At word.block

-- a track at the entry goes to the entry, and one at the block that a code word holds to the block that it holds then
pub record KeepsStarts (old new : Graph) (before after : Track) : Type 0 where
  pub entry : before ≡ At old.entry → after ≡ At new.entry
  pub words : (word : CodeRef) → Contains old.code_words word → before ≡ At word.block → HoldsAt new word.at after
