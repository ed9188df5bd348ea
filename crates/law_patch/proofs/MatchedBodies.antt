-- A graph in which a block became a Jump to another, which its whole body matches, follows it.
use Rattle.std.proofs.Common.{◌≡◌, ℕ, ◌+◌, ◌≤◌, arith, Bool, true, List, [], ◌∷◌, ◌++◌, Some, None, map, drop, length, refl, ap, ◌∙◌, subst}
use Rattle.std.proofs.lemmas.List.{drop_all}
use Rattle.sq_graph.specs.declared.item.Item.{Item}
use Rattle.sq_graph.specs.declared.item.Term.{Term}
use Rattle.sq_graph.specs.Graph.{Graph}
use Rattle.sq_graph.specs.Blocks.{items_of, term_of}
use Rattle.sq_graph.specs.Rules.{IsGraph}
use Rattle.sq_graph.specs.Lines.{Line, line_of, place_lines}
use Rattle.sq_graph.specs.Walks.{IsLive}
use Rattle.sq_graph.specs.Matches.{AreSameForms, Match, PairsDie}
use Rattle.sq_graph.specs.Soundness.{IsSound}
use Rattle.sq_graph.specs.Words.{term_words, words_of}
use Rattle.law_follow.specs.Follows.{Follows}
use Rattle.law_patch.specs.Changes.{Change, Alike, shift}
use Rattle.law_patch.specs.Merges.{merged}
use Rattle.law_patch.specs.Bodies.{HaveBodies}
use Rattle.law_patch.proofs.Places.{every}
use Rattle.law_patch.proofs.Dead.{live, live_carrier}
use Rattle.law_patch.proofs.Replacing.{behind_items}
use Rattle.law_patch.proofs.Meeting.{Joint, MayHold}
use Rattle.law_patch.proofs.Matching.{Matched, StandsMatched, CallsStay, calls_stay, zero_register, at as in_mode, matched_some, at_first, at_last}
use Rattle.law_patch.proofs.Merging.{HaveEnds, joint_terms, h as merged_graph, k, out, end, kept_items, x_items, some_out, lines_are, C as merging, may_hold, may_go, in_out, merged_follows, merged_sound, merged_live, merged_saves}

equally_many : (items others : List Item) → AreSameForms items others → length items ≡ length others
equally_many [] [] e = refl
equally_many [] (j ∷ others) e = absurd e
equally_many (i ∷ items) [] e = absurd e
equally_many (i ∷ items) (j ∷ others) e = let n = equally_many items others e.1 in omega (arith, n)

module _ (g : Graph) (dropped kept : ℕ) (rules : IsGraph g) (bodies : HaveBodies g dropped kept) where
  ends : HaveEnds g dropped 0 kept
  ends = record { other = bodies.other; many = equally_many (items_of g dropped) (items_of g kept) bodies.match.forms; some = bodies.some; terms = joint_terms g dropped kept bodies.terms }

  abbrev h : Graph
  h = merged_graph g dropped 0 kept rules ends

  abbrev C : Change
  C = merging g dropped 0 kept rules ends Matched StandsMatched (live g) (Unit {0}) (live_carrier g)

  -- the two bodies, and the end of the first block
  abbrev items : List Item
  items = out g dropped 0 kept rules ends

  abbrev others : List Item
  others = (k g dropped 0 kept rules ends).items

  abbrev behind : List Line
  behind = end g dropped 0 kept rules ends

  items_are : items_of g dropped ≡ items
  items_are = x_items g dropped 0 kept rules ends

  others_are : items_of g kept ≡ others
  others_are = kept_items g dropped 0 kept rules ends

  match : Match g.procedures items others
  match = subst (λ is. Match g.procedures is others) items_are (subst (λ js. Match g.procedures (items_of g dropped) js) others_are bodies.match)

  behind_is : place_lines g dropped (length (items_of g dropped)) ≡ behind
  behind_is =
      ap (λ (is : List Item). place_lines g dropped (length is)) items_are
      ∙ ap (drop (length items)) (lines_are g dropped 0 kept rules ends)
      ∙ behind_items items (length items) behind (omega arith)
      ∙ ap (λ is. map line_of is ++ behind) (drop_all (length items) items (omega arith))

  pairs_die : PairsDie g.procedures items others (live g behind)
  pairs_die =
      subst (λ is. PairsDie g.procedures is others (live g behind)) items_are
      (subst (λ js. PairsDie g.procedures (items_of g dropped) js (live g behind)) others_are
      (subst (λ lines. PairsDie g.procedures (items_of g dropped) (items_of g kept) (live g lines)) behind_is bodies.pairs_die))

  stay : CallsStay C
  stay =
      calls_stay Matched StandsMatched (MayHold g) (Joint g) every (live g) (Unit {0}) g h rules refl refl
      (may_hold g dropped 0 kept rules ends Matched StandsMatched (live g) (Unit {0}) (live_carrier g)) (may_go g dropped 0 kept rules ends Matched StandsMatched (live g) (Unit {0}) (live_carrier g))

  -- the one body goes on like the other
  goes : (b : Bool) (ys : List Line) → Alike C true None behind ys → Alike C b None (map line_of items ++ behind) (map line_of others ++ ys)
  goes b ys p =
      shift {m = None} {m' = Some (in_mode (MayHold g) (Joint g) (live g) (Unit {0}) g h items others 0 match (λ r s q. zero_register s) [])}
      (λ r s l n. at_first (MayHold g) (Joint g) (live g) (Unit {0}) g h items others 0 match (λ r s q. zero_register s) r s n)
      (matched_some (MayHold g) (Joint g) (live g) (Unit {0}) g h items others 0 match (λ r s q. zero_register s) stay b behind ys (some_out g dropped 0 kept rules ends)
      (in_out g dropped 0 kept rules ends Matched StandsMatched (live g) (Unit {0}) (live_carrier g))
      (λ ws. shift (at_last (MayHold g) (Joint g) (live g) (Unit {0}) g h items others 0 match (λ r s q. zero_register s) ws behind pairs_die (λ r l. zero_register r)) p))

  pub body_follows : Follows g (merged g dropped 0 kept)
  body_follows = merged_follows g dropped 0 kept rules ends Matched StandsMatched (live g) (Unit {0}) (live_carrier g) goes

  pub body_sound : IsSound g → IsSound (merged g dropped 0 kept)
  body_sound sound = merged_sound g dropped 0 kept rules ends Matched StandsMatched (live g) (Unit {0}) (live_carrier g) goes (λ xs r l. l) tt sound

  -- no more is live in other blocks, and where this one begins
  pub body_live : (m place r : ℕ) → place ≤ length (items_of g m) → (m ≡ dropped → place ≤ 0) → IsLive (merged g dropped 0 kept) r (place_lines (merged g dropped 0 kept) m place) → IsLive g r (place_lines g m place)
  body_live m place r l up lives = merged_live g dropped 0 kept rules ends Matched StandsMatched (live g) (Unit {0}) (live_carrier g) goes (λ xs r l. l) tt m place r l up lives

  pub body_saves : (term : Term) → term_of g dropped ≡ Some term → words_of (merged g dropped 0 kept) + (length (items_of g kept) + term_words term) ≡ words_of g + 1
  body_saves term e = merged_saves g dropped 0 kept rules ends term e
