-- The entry of a graph, and the blocks that code words hold, by the steps of a certificate.
use Rattle.std.proofs.Common.{◌≡◌, ◌⊎◌, ℕ, zero, suc, ◌==◌, ◌<◌, true, false, List, [], ◌∷◌, ◌++◌, length, map, Option, Some, None, is_some, inl, inr, refl, sym, ap, ◌∙◌, subst, slice_index_or}
use Rattle.std.specs.List.{AllByRecursion, AllZip, Contains, IsDistinct}
use Rattle.std.specs.Option.{unwrap_or}
use Rattle.std.proofs.lemmas.Bool.{cases_Bool, eqb-true, ne_eqb, eqb-false}
use Rattle.std.proofs.lemmas.List.{length-map}
use Rattle.std.proofs.lemmas.List.Elements.{All-tail, All-contains}
use Rattle.sq_arena.specs.Entries.{HasDistinctKeys, keys, value_of}
use Rattle.sq_graph.specs.declared.item.Term.{Term}
use Rattle.sq_graph.specs.declared.item.Term.TheVariants.{Jump, Branch, PartJump}
use Rattle.sq_graph.specs.declared.parts.CodeRef.{CodeRef}
use Rattle.sq_graph.specs.Blocks.{named, HasBlock, block_of, items_of, term_of, all_items}
use Rattle.sq_graph.specs.Bypasses.{passed}
use Rattle.sq_graph.specs.Canonical.{canonical_of}
use Rattle.sq_graph.specs.Graph.{Block, Graph}
use Rattle.sq_graph.specs.Operations.{with_blocks, outlined}
use Rattle.sq_graph.specs.Parts.{names_of}
use Rattle.sq_graph.specs.Renames.{retargeted_block, retargeted_word, retargeted_words, swapped}
use Rattle.sq_graph.specs.Rules.{IsGraph}
use Rattle.sq_graph.specs.Slotted.{number_in, position_in, slotted}
use Rattle.sq_graph.specs.Uses.{code_word_uses, terms_uses, items_uses}
use Rattle.sq_graph.proofs.AlikeGraphs.{alike_rules}
use Rattle.sq_graph.proofs.Bypassing.{words_twice}
use Rattle.sq_graph.proofs.Eachs.{All-left}
use Rattle.sq_graph.proofs.CanonicalLaws.{canonical_is_graph, canonical_entry, canonical_code_words}
use Rattle.sq_lookup.proofs.Targets.{lone, lone_term}
use Rattle.sq_names.specs.declared.track.Track.{Track}
use Rattle.sq_names.specs.declared.track.Track.TheVariants.{At}
use Rattle.sq_pass.specs.declared.cut.Cut.{Cut}
use Rattle.sq_pass.specs.declared.cut.Row.{Row}
use Rattle.sq_pass.specs.declared.cut.Row.TheVariants as row_is
use Rattle.sq_cert.specs.declared.step.Step.{Step}
use Rattle.sq_cert.specs.declared.step.Step.TheVariants.{J2, J3}
use Rattle.sq_cert.specs.Steps.{row_of}
use Rattle.law_patch.specs.Calls.{called_there}
use Rattle.law_patch.specs.LoneJumps.{without_jump}
use Rattle.sq_chain.specs.Candidates.{moved_by}
use Rattle.sq_jumps.specs.Candidates.{HasRow}
use Rattle.sq_jumps.specs.Detour.{IsDetour, without_detour, without_detour_to}
use Rattle.sq_jumps.specs.Invert.{inverted_to}
use Rattle.sq_jumps.specs.Shorten.{shortened_by}
use Rattle.sq_outline.specs.Candidates.{IsCutOf}
use Rattle.sq_outline.specs.Made.{first_block, starts_of}
use Rattle.sq_outline.specs.Sites.{called_each}
use Rattle.sq_outline.specs.WindowsMade.{items_at}
use Rattle.sq_outline.specs.WindowsPlaces.{calls_for}
use Rattle.sq_outline.specs.WindowsCandidates.{IsWindowsCutOf}
use Rattle.sq_tail.specs.Candidates.{rewritten as tails_rewritten}
use Rattle.sq_tail.specs.Tails.{tails_joined}
use Rattle.sq_drive.specs.Making.{IsMade}
use Rattle.sq_drive.specs.Replay.{cut_of, MayStep}
use Rattle.sq_drive.specs.Rows.{IsCandidate, described}
use Rattle.sq_drive.specs.Tracking.{carried, removed_by, standing, by_row, by_canonical, by_step, made_by, KeepsStarts}
use Rattle.sq_drive.proofs.KeptPlaces.{entry_there, number_there}

-- THE STARTS OF A GRAPH

index_mapped : {X Y : Type 0} (f : X → Y) (xs : List X) (k : ℕ) (x : X) → slice_index_or (map f xs) k (f x) ≡ f (slice_index_or xs k x)
index_mapped f [] k x = refl
index_mapped f (y ∷ xs) zero x = refl
index_mapped f (y ∷ xs) (suc k) x = index_mapped f xs k x

pub contains_mapped : {X Y : Type 0} (f : X → Y) (xs : List X) (x : X) → Contains xs x → Contains (map f xs) (f x)
contains_mapped f xs x (k, within, is) = (k, subst (λ n. k < n) (sym (length-map xs f)) within, index_mapped f xs k x ∙ ap f is)

-- a block at which a run starts, or to which a code word points
abbrev IsStart : Graph → ℕ → Type 0
IsStart g n = (n ≡ g.entry) ⊎ ((word : CodeRef) × Contains g.code_words word × (n ≡ word.block))

pub word_there : (g : Graph) (word : CodeRef) → IsGraph g → Contains g.code_words word → HasBlock g word.block
word_there g word rules within =
    let rest = All-tail (HasBlock g) g.entry (code_word_uses g.code_words ++ (terms_uses g.blocks ++ items_uses (all_items g))) rules.named_all in
    let words = All-left (HasBlock g) (code_word_uses g.code_words) (terms_uses g.blocks ++ items_uses (all_items g)) rest in
    All-contains (HasBlock g) (code_word_uses g.code_words) word.block words (contains_mapped (λ (w : CodeRef). w.block) g.code_words word within)

start_there : (g : Graph) (n : ℕ) → IsGraph g → IsStart g n → HasBlock g n
start_there g n rules (inl is) = subst (HasBlock g) (sym is) (entry_there g rules)
start_there g n rules (inr (word, within, is)) = subst (HasBlock g) (sym is) (word_there g word rules within)

-- the starts of the other graph are those of the one under other names
record IsTurned (turn : ℕ → ℕ) (old new : Graph) : Type 0 where
  pub entry : new.entry ≡ turn old.entry
  pub words : new.code_words ≡ retargeted_words turn old.code_words

turned_word : (turn : ℕ → ℕ) (old new : Graph) (word : CodeRef) → IsTurned turn old new → Contains old.code_words word → Contains new.code_words (retargeted_word turn word)
turned_word turn old new word is within =
    subst (λ words. Contains words (retargeted_word turn word)) (sym is.words) (contains_mapped (retargeted_word turn) old.code_words word within)

start_turned : (turn : ℕ → ℕ) (old new : Graph) (n : ℕ) → IsTurned turn old new → IsStart old n → IsStart new (turn n)
start_turned turn old new n is (inl entry) = inl (ap turn entry ∙ sym is.entry)
start_turned turn old new n is (inr (word, within, held)) = inr (retargeted_word turn word, turned_word turn old new word is within, ap turn held)

turned_twice : (f h : ℕ → ℕ) (a b c : Graph) → IsTurned f a b → IsTurned h b c → IsTurned (λ n. h (f n)) a c
turned_twice f h a b c first second = record {
  entry = second.entry ∙ ap h first.entry;
  words = second.words ∙ ap (retargeted_words h) first.words ∙ words_twice f h a.code_words;
}

-- THE STARTS OF WHAT A ROW MAKES

abbrev HasSame : Graph → Graph → Type 0
HasSame g h = (h.entry ≡ g.entry) × (h.code_words ≡ g.code_words)

inverted_same : (g : Graph) (block : ℕ) (term : Option Term) (over to : Option ℕ) → HasSame g (inverted_to g block term over to)
inverted_same g block (Some (Branch cond a b behind)) (Some over) (Some to) = (refl, refl)
inverted_same g block term over to = (refl, refl)

shortened_same : (g : Graph) (block : ℕ) (term : Option Term) → HasSame g (shortened_by g block term)
shortened_same g block (Some (PartJump link part to)) = (refl, refl)
shortened_same g block term = (refl, refl)

tails_same : (g : Graph) (dropped kept k : ℕ) → HasSame g (tails_joined g dropped kept k)
tails_same g dropped kept k =
    elim (cases_Bool (k == length (items_of g kept))) [
      | inl whole ↦ rw whole (refl, refl)
      | inr part ↦ rw part (refl, refl)
    ]

tail_same : (g : Graph) (blocks : List ℕ) (k : ℕ) → HasSame g (tails_rewritten g blocks k)
tail_same g (dropped ∷ kept ∷ []) k = tails_same g dropped kept k
tail_same g blocks k = (refl, refl)

calls_same : (sites : _) (procedure : ℕ) (g : Graph) → HasSame g (called_each sites procedure g)
calls_same [] procedure g = (refl, refl)
calls_same (site ∷ sites) procedure g = calls_same sites procedure (called_there g site.block site.at procedure)

move_same : (g : Graph) (blocks : List ℕ) → HasSame g (moved_by g blocks)
move_same g (from ∷ to ∷ []) = (refl, refl)
move_same g blocks = (refl, refl)

-- but for J2 a row leaves them as they are
same_but : (g : Graph) (row : Row) (blocks : List ℕ) (procedure other many link saving : ℕ) →
    (row ≡ row_is.J2) ⊎ HasSame g (described g (record { row = row; blocks = blocks; procedure = procedure; other = other; length = many; link = link; saving = saving }))
same_but g row_is.U blocks procedure other many link saving = inr (refl, refl)
same_but g row_is.J1 blocks procedure other many link saving = inr (refl, refl)
same_but g row_is.J2 blocks procedure other many link saving = inl refl
same_but g row_is.J3 blocks procedure other many link saving = inr (inverted_same g _ _ _ _)
same_but g row_is.C blocks procedure other many link saving = inr (shortened_same g _ _)
same_but g row_is.T blocks procedure other many link saving = inr (tail_same g blocks many)
same_but g row_is.O1 blocks procedure other many link saving =
    let first = first_block blocks in
    inr (calls_same (starts_of blocks) (length g.procedures) (outlined g first 0 (length (items_of g first)) link))
same_but g row_is.O2 blocks procedure other many link saving = inr (refl, refl)
same_but g row_is.O3 blocks procedure other many link saving = inr (refl, refl)
same_but g row_is.O4 blocks procedure other many link saving = inr (refl, refl)
same_but g row_is.W blocks procedure other many link saving =
    let first = first_block blocks in
    inr (calls_same (calls_for g (items_at g first other many)) (length g.procedures) (outlined g first other many link))
same_but g row_is.V blocks procedure other many link saving = inr (refl, refl)
same_but g row_is.L blocks procedure other many link saving = inr (move_same g blocks)

-- THE DETOUR OF J2

-- a cut of J2
record IsDetourCut (g : Graph) (cut : Cut) : Type 0 where
  pub block : ℕ
  pub detour : IsDetour g block
  pub blocks : cut.blocks ≡ block ∷ []

detour_of : (g : Graph) (cut : Cut) → IsCandidate g cut → cut.row ≡ row_is.J2 → IsDetourCut g cut
detour_of g cut (inl (inl (inl unreached))) is = let no : row_is.U ≡ row_is.J2 = sym unreached.row ∙ is in absurd (cc no)
detour_of g cut (inl (inl (inr jump))) is = record {
  block = jump.block;
  detour = subst (λ row. HasRow row g jump.block) is jump.has_row;
  blocks = ap (λ (c : Cut). c.blocks) jump.is;
}
detour_of g cut (inl (inr (inl (inl tail)))) is = let no : row_is.T ≡ row_is.J2 = sym (ap (λ (c : Cut). c.row) tail.is) ∙ is in absurd (cc no)
detour_of g cut (inl (inr (inl (inr body)))) is = let no : row_is.T ≡ row_is.J2 = sym (ap (λ (c : Cut). c.row) body.is) ∙ is in absurd (cc no)
detour_of g cut (inl (inr (inr (inl outline)))) is = absurd (subst (λ row. IsCutOf row g cut) is outline)
detour_of g cut (inl (inr (inr (inr window)))) is = absurd (subst (λ row. IsWindowsCutOf row g cut) is window)
detour_of g cut (inr move) is = let no : row_is.L ≡ row_is.J2 = sym (ap (λ (c : Cut). c.row) move.is) ∙ is in absurd (cc no)

detour_is : (g : Graph) (cut : Cut) (block : ℕ) → cut.row ≡ row_is.J2 → cut.blocks ≡ block ∷ [] → described g cut ≡ without_detour g block
detour_is g cut block row blocks =
    ap (λ r. described g (record cut { row = r })) row
    ∙ ap (λ bs. described g (record cut { row = row_is.J2; blocks = bs })) blocks

-- no other block has the name of one that goes
no_other : (bs : List Block) (m n : ℕ) → m ≡ n → AllByRecursion (λ k. (m == k) ≡ false) (keys (named bs)) → (f : ℕ → ℕ) → is_some (value_of (named (map (retargeted_block f) bs)) n) ≡ false
no_other [] m n same apart f = refl
no_other (b ∷ bs) m n same apart f =
    let differs : (b.name == n) ≡ false = ne_eqb b.name n (λ e. absurd (eqb-false m b.name apart.0 (same ∙ sym e))) in
    rw differs (no_other bs m n same apart.1 f)

block_gone : (bs : List Block) (n : ℕ) → HasDistinctKeys (named bs) → (f : ℕ → ℕ) → is_some (value_of (named (with_blocks (λ _. []) (map (retargeted_block f) bs) n)) n) ≡ false
unfolding IsDistinct
block_gone [] n distinct f = refl
block_gone (b ∷ bs) n distinct f =
    elim (cases_Bool (b.name == n)) [
      | inl here ↦ rw here (no_other bs b.name n (eqb-true b.name n here) distinct.0 f)
      | inr apart ↦ rw (apart, apart) (block_gone bs n distinct.1 f)
    ]

-- the step of J2 carries its block to the target
jump_taken : (step : Step) (to : ℕ) → row_of step ≡ row_is.J2 → removed_by step (Some (Jump to)) ≡ At to
jump_taken (J2 block) to is = refl
jump_taken (J3 block) to is = refl
jump_taken step to is = let no : row_of step ≡ row_is.J2 = is in absurd (cc no)

-- THE ROW OF A STEP

-- the row turns the starts, and carries tracks at them likewise
record Turns (step : Step) (old made : Graph) : Type 0 where
  pub turn : ℕ → ℕ
  pub turned : IsTurned turn old made
  pub tracked : (n : ℕ) → HasBlock old n → HasBlock made (turn n) → by_row step old made n ≡ At (turn n)

same_words : (words : List CodeRef) → words ≡ retargeted_words (λ n. n) words
same_words [] = refl
same_words (word ∷ words) = ap (λ ws. word ∷ ws) (same_words words)

same_turns : (step : Step) (old made : Graph) → HasSame old made → Turns step old made
same_turns step old made same = record {
  turn = λ n. n;
  turned = record { entry = same.0; words = same.1 ∙ same_words old.code_words };
  tracked = λ n has there. rw (has, there) refl;
}

module _ (step : Step) (old : Graph) (block to : ℕ) (rules : IsGraph old) (row : row_of step ≡ row_is.J2) (jump : term_of old block ≡ Some (Jump to)) where
  detour_tracked : (n : ℕ) → HasBlock old n → HasBlock (without_jump old block to) (swapped block to n) → by_row step old (without_jump old block to) n ≡ At (swapped block to n)
  detour_tracked n has there =
      elim (cases_Bool (n == block)) [
        | inl here ↦
            let same = eqb-true n block here in
            let none : is_some (block_of (without_jump old block to) n) ≡ false = subst (λ k. is_some (block_of (without_jump old block to) k) ≡ false) (sym same) (block_gone old.blocks block rules.distinct (swapped block to)) in
            let term : term_of old n ≡ Some (Jump to) = ap (term_of old) same ∙ jump in
            rw (has, none, here, term) (jump_taken step to row)
        | inr apart ↦
            let stays : HasBlock (without_jump old block to) n = rw apart at there in
            rw (has, stays, apart) refl
      ]

  detour_turns : Turns step old (without_jump old block to)
  detour_turns = record { turn = swapped block to; turned = record { entry = refl; words = refl }; tracked = detour_tracked }

row_turns : (step : Step) (old : Graph) (given : MayStep old step) → IsGraph old → Turns step old (made_by step old given)
row_turns step old given rules =
    let cut = given.cut in
    elim (same_but old cut.row cut.blocks cut.procedure cut.other cut.length cut.link cut.saving) [
      | inl row ↦
          let d = detour_of old given.cut given.candidate row in
          let leads = d.detour.leads in
          let made : described old given.cut ≡ without_jump old d.block d.detour.to = detour_is old given.cut d.block row d.blocks ∙ ap (without_detour_to old d.block) leads.jump in
          subst (Turns step old) (sym made)
          (detour_turns step old d.block d.detour.to rules (sym given.completed.row ∙ row) (lone_term old d.block d.detour.to (lone old d.block d.detour.to leads.jump)))
      | inr same ↦ same_turns step old (described old given.cut) same
    ]

-- THE NEXT GRAPH

pub some_number : (o : Option ℕ) → is_some o ≡ true → o ≡ Some (unwrap_or o 0)
some_number None some = absurd (cc)
some_number (Some n) some = refl

module _ (made : Graph) (rules : IsGraph made) where
  abbrev place : ℕ → ℕ
  place n = position_in (names_of (canonical_of made)) (passed made.blocks n)

  canonical_turned : IsTurned (passed made.blocks) made (canonical_of made)
  canonical_turned = record { entry = canonical_entry made rules; words = canonical_code_words made rules }

  next_turned : IsTurned place made (slotted (canonical_of made))
  next_turned =
      turned_twice (passed made.blocks) (position_in (names_of (canonical_of made))) made (canonical_of made) (slotted (canonical_of made)) canonical_turned
      (record { entry = refl; words = refl })

  start_placed : (n : ℕ) → IsStart made n → by_canonical made n ≡ At (place n)
  start_placed n start =
      let c = canonical_of made in
      let has = start_there (canonical_of made) (passed made.blocks n) (canonical_is_graph made rules) (start_turned (passed made.blocks) made (canonical_of made) n canonical_turned start) in
      ap standing (some_number (number_in (names_of (canonical_of made)) 0 (passed made.blocks n)) (number_there c.blocks 0 (passed made.blocks n) ∙ has))

-- A STEP

module _ (step : Step) (old : Graph) (given : MayStep old step) (rules : IsGraph old) (made_rules : IsGraph (made_by step old given)) where
  abbrev made : Graph
  made = made_by step old given

  abbrev next : Graph
  next = slotted (canonical_of (made_by step old given))

  turns : Turns step old (made_by step old given)
  turns = row_turns step old given rules

  abbrev goes : ℕ → ℕ
  goes n = place (made_by step old given) made_rules (turns.turn n)

  step_turned : IsTurned goes old (slotted (canonical_of (made_by step old given)))
  step_turned = turned_twice turns.turn (place made made_rules) old made next turns.turned (next_turned made made_rules)

  step_tracked : (n : ℕ) → IsStart old n → by_step step old (made_by step old given) (At n) ≡ At (goes n)
  step_tracked n start =
      let there = start_turned turns.turn old made n turns.turned start in
      ap (carried (by_canonical made)) (turns.tracked n (start_there old n rules start) (start_there made (turns.turn n) made_rules there))
      ∙ start_placed made made_rules (turns.turn n) there

  step_keeps : (track : Track) → KeepsStarts old (slotted (canonical_of (made_by step old given))) track (by_step step old (made_by step old given) track)
  step_keeps track = record {
    entry = λ is. ap (by_step step old made) is ∙ step_tracked old.entry (inl refl) ∙ ap At (sym step_turned.entry);
    words = λ word within is. record {
      word = retargeted_word goes word;
      within = turned_word goes old next word step_turned within;
      place = refl;
      held = ap (by_step step old made) is ∙ step_tracked word.block (inr (word, within, refl));
    };
  }

  each_keeps : (tracks : List Track) → AllZip (KeepsStarts old (slotted (canonical_of (made_by step old given)))) tracks (map (by_step step old (made_by step old given)) tracks)
  each_keeps [] = tt
  each_keeps (track ∷ tracks) = (step_keeps track, each_keeps tracks)

-- as the code takes it
pub starts_kept : (step : Step) (old made new : Graph) (before after : List Track) → IsGraph old → (is : IsMade (cut_of old step) old made) → new ≡ slotted (canonical_of (made_by step old is.given)) → after ≡ map (by_step step old (made_by step old is.given)) before →
    AllZip (KeepsStarts old new) before after
starts_kept step old made new before after rules is next carries =
    let told_rules = alike_rules made (made_by step old is.given) is.applied.rules is.applied.described in
    subst (λ (g : Graph). AllZip (KeepsStarts old g) before after) (sym next)
    (subst (AllZip (KeepsStarts old (slotted (canonical_of (made_by step old is.given)))) before) (sym carries) (each_keeps step old is.given rules told_rules before))

-- ONE STEP AFTER ANOTHER

pub starts_themselves : (g : Graph) (tracks : List Track) → AllZip (KeepsStarts g g) tracks tracks
starts_themselves g [] = tt
starts_themselves g (track ∷ tracks) =
    (record { entry = λ is. is; words = λ word within is. record { word = word; within = within; place = refl; held = is } }, starts_themselves g tracks)

pub starts_through : (a b c : Graph) (before between after : List Track) → AllZip (KeepsStarts a b) before between → AllZip (KeepsStarts b c) between after → AllZip (KeepsStarts a c) before after
starts_through a b c [] [] [] first second = tt
starts_through a b c [] [] (v ∷ after) first second = absurd second
starts_through a b c [] (u ∷ between) after first second = absurd first
starts_through a b c (t ∷ before) [] after first second = absurd first
starts_through a b c (t ∷ before) (u ∷ between) [] first second = absurd second
starts_through a b c (t ∷ before) (u ∷ between) (v ∷ after) (first, more) (second, others) = (
  record {
    entry = λ is. second.entry (first.entry is);
    words = λ word within is.
        let mid = first.words word within is in
        let last = second.words mid.word mid.within mid.held in
        record { word = last.word; within = last.within; place = last.place ∙ mid.place; held = last.held };
  },
  starts_through a b c before between after more others,
)
