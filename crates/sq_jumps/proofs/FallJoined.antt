-- Row J1 and the canonical form: Jumps to the next slot may become Fall one after another, from the last one on, and the graph
-- be made canonical once.
use Rattle.std.proofs.Common.{◌≡◌, ℕ, ◌+◌, ◌≤◌, ◌==◌, Bool, true, false, ◌&&◌, ◌||◌, not, List, [], ◌∷◌, ◌++◌, take, drop, length, None, Some, inl, inr, refl, sym, ap, ◌∙◌, subst, arith, append_assoc}
use Rattle.std.specs.List.{All}
use Rattle.std.proofs.lemmas.Bool.{cases_Bool, or_left, or_right, or_cases}
use Rattle.std.proofs.lemmas.List.{take_at, take_all, length-take-le, take-append-drop}
use Rattle.std.proofs.lemmas.List.Elements.{All-cons, All-head, All-tail, All-append}
use Rattle.sq_arena.specs.Entries.{HasDistinctKeys, value_of, first_key}
use Rattle.sq_arena.proofs.EntriesLaws.{absent_ahead}
use Rattle.sq_isa.specs.Registers.{is_among}
use Rattle.sq_num.specs.declared.packed.Savings.{Savings}
use Rattle.sq_graph.specs.declared.item.Item.{Item}
use Rattle.sq_graph.specs.declared.item.Term.TheVariants.{Fall, Jump}
use Rattle.sq_graph.specs.Graph.{Block, Graph}
use Rattle.sq_graph.specs.Blocks.{named, block_items, block_term, items_of_blocks, items_of_bodies, all_items}
use Rattle.sq_graph.specs.Canonical.{bypassed_each, joined_onto, joined_blocks, joined, canonical_of}
use Rattle.sq_graph.specs.Leaders.{has_no_items, is_fall, is_bare, follows_a_term, is_leader, FallsIntoLeaders, IsCanonical}
use Rattle.sq_graph.specs.Parts.{names_of}
use Rattle.sq_graph.specs.Rules.{IsGraph}
use Rattle.sq_graph.specs.Terms.{goes_on}
use Rattle.sq_graph.specs.Uses.{term_uses, items_uses, terms_uses, code_word_uses, uses}
use Rattle.sq_graph.specs.Words.{words_of}
use Rattle.sq_graph.proofs.CanonicalLaws.{canonical_is_graph, canonical_is_canonical, canonical_keeps_words}
use Rattle.sq_graph.proofs.Changes.{with_blocks-at}
use Rattle.sq_graph.proofs.Eachs.{All-left, All-right}
use Rattle.sq_graph.proofs.Joined.{takes_fall, takes_name, items_of_blocks-joined, terms_uses-joined, follows-joined, none_bare-joined}
use Rattle.sq_graph.proofs.Joining.{takes, with_next}
use Rattle.sq_graph.proofs.Located.{IsAt, named-append}
use Rattle.sq_graph.proofs.Marks.{is_among-append}
use Rattle.sq_graph.proofs.SlotReads.{block_at}
use Rattle.sq_live.proofs.Layouts.{IsBlockAt}
use Rattle.sq_pass.specs.declared.cut.Row.TheVariants.{J1}
use Rattle.sq_pass.specs.Counted.{counted}
use Rattle.sq_pass.specs.Rewrites.{IsRewritten}
use Rattle.sq_jumps.specs.Candidates.{IsCandidate, described}
use Rattle.sq_jumps.specs.Fall.{falling, JumpsToNext, IsPlainFall, IsCanonicalTo}
use Rattle.sq_jumps.proofs.FallApplied.{fall_applied, fall_rules}
use Rattle.sq_jumps.proofs.Leaders.{three_uses, absent_tail, absent_parts}
use Rattle.sq_jumps.proofs.Blocks.{HasFirst, first_is, names-changed}
use Rattle.sq_jumps.proofs.Booleans.{other_way, one_of_four}
use Rattle.sq_jumps.proofs.Ruled.{behind_it}
use Rattle.sq_jumps.proofs.Rewritten.{row_rewritten}

-- JOINING TWICE

-- a block that takes over the next one, which had taken over those behind it, has taken over all of them
onto_twice : (leads : ℕ → Bool) (b next : Block) (rest : List Block) → takes leads b next ≡ true → joined_onto leads b (joined_onto leads next rest) ≡ joined_onto leads (with_next leads b next) rest
onto_twice leads b next [] joins = rw joins refl
onto_twice leads b next (other ∷ rest) joins =
    elim (cases_Bool (takes leads next other)) [
      | inl more ↦
          rw (more, joins)
          (ap (λ is. record { name = b.name; items = is; term = other.term } ∷ rest) (sym (append_assoc b.items next.items other.items)))
      | inr ends ↦ rw (ends, joins) refl
    ]

module _ (few many : ℕ → Bool) (fewer : (n : ℕ) → many n ≡ false → few n ≡ false) where
  takes_still : (b next : Block) → takes many b next ≡ true → takes few b next ≡ true
  takes_still b next joins = rw (takes_fall many b next joins, fewer next.name (takes_name many b next joins)) refl

  again_onto : (b : Block) (bs : List Block) → joined_blocks few (joined_onto many b bs) ≡ joined_onto few b (joined_blocks few bs)
  again_onto b [] = refl
  again_onto b (next ∷ bs) =
      elim (cases_Bool (takes many b next)) [
        | inl joins ↦ rw joins (sym (onto_twice few b next (joined_blocks few bs) (takes_still b next joins)))
        | inr apart ↦ rw apart refl
      ]

  joined_again : (bs : List Block) → joined_blocks few (joined_blocks many bs) ≡ joined_blocks few bs
  joined_again [] = refl
  joined_again (b ∷ bs) = again_onto b (joined_blocks many bs) ∙ ap (joined_onto few b) (joined_again bs)

-- BLOCKS AHEAD OF ONE THAT DOESN'T FALL

module _ (leads : ℕ → Bool) where
  onto_stays : (b : Block) (bs : List Block) → is_fall b.term ≡ false → joined_onto leads b bs ≡ b ∷ bs
  onto_stays b [] stays = refl
  onto_stays b (next ∷ bs) stays = rw stays refl

  onto_led : (b next : Block) (bs : List Block) → (is_fall b.term ≡ true → leads next.name ≡ true) → joined_onto leads b (next ∷ bs) ≡ b ∷ next ∷ bs
  onto_led b next bs led =
      elim (cases_Bool (is_fall b.term)) [ inl falls ↦ rw (falls, led falls) refl | inr stays ↦ rw stays refl ]

  front_stays : (front : List Block) (b : Block) (back : List Block) → FallsIntoLeaders leads (front ++ b ∷ []) → is_fall b.term ≡ false → joined_blocks leads (front ++ b ∷ back) ≡ front ++ b ∷ joined_blocks leads back
  front_stays [] b back into stays = onto_stays b (joined_blocks leads back) stays
  front_stays (c ∷ []) b back into stays =
      ap (joined_onto leads c) (onto_stays b (joined_blocks leads back) stays) ∙ onto_led c b (joined_blocks leads back) into.0
  front_stays (c ∷ d ∷ front) b back into stays =
      ap (joined_onto leads c) (front_stays (d ∷ front) b back into.1 stays) ∙ onto_led c d (front ++ b ∷ joined_blocks leads back) into.0

  same_behind : (front xs ys : List Block) → joined_blocks leads xs ≡ joined_blocks leads ys → joined_blocks leads (front ++ xs) ≡ joined_blocks leads (front ++ ys)
  same_behind [] xs ys e = e
  same_behind (c ∷ front) xs ys e = ap (joined_onto leads c) (same_behind front xs ys e)

  first_named : (b : Block) (bs : List Block) → first_key (named (joined_onto leads b bs)) ≡ Some b.name
  first_named b [] = refl
  first_named b (next ∷ bs) =
      elim (cases_Bool (takes leads b next)) [ inl joins ↦ rw joins refl | inr apart ↦ rw apart refl ]

  fewer_fall : (xs ys : List Block) → FallsIntoLeaders leads (xs ++ ys) → FallsIntoLeaders leads xs
  fewer_fall [] ys into = tt
  fewer_fall (b ∷ []) ys into = tt
  fewer_fall (b ∷ next ∷ xs) ys into = (into.0, fewer_fall (next ∷ xs) ys into.1)

pub none_bypassed : (bs : List Block) (g : Graph) → All (λ b. is_bare b ≡ false) bs → bypassed_each bs g ≡ g
none_bypassed [] g none = refl
none_bypassed (b ∷ bs) g none =
    rw (All-head {X = Block} (λ c. is_bare c ≡ false) b bs none) (none_bypassed bs g (All-tail {X = Block} (λ c. is_bare c ≡ false) b bs none))

pub solid_joined : (g : Graph) → All (λ b. is_bare b ≡ false) g.blocks → canonical_of g ≡ joined g
solid_joined g none = ap joined (none_bypassed g.blocks g none)

-- USES, WHATEVER STANDS BEHIND

terms_behind : (front xs ys : List Block) → terms_uses xs ≡ terms_uses ys → terms_uses (front ++ xs) ≡ terms_uses (front ++ ys)
terms_behind [] xs ys e = e
terms_behind (c ∷ front) xs ys e = ap (λ us. term_uses c.term ++ us) (terms_behind front xs ys e)

items_behind : (front xs ys : List Block) → items_of_blocks xs ≡ items_of_blocks ys → items_of_blocks (front ++ xs) ≡ items_of_blocks (front ++ ys)
items_behind [] xs ys e = e
items_behind (c ∷ front) xs ys e = ap (λ (is : List Item). c.items ++ is) (items_behind front xs ys e)

follows_behind : (front : List Block) (b : Block) (xs ys : List Block) (n : ℕ) → follows_a_term (b ∷ xs) n ≡ follows_a_term (b ∷ ys) n → follows_a_term (front ++ b ∷ xs) n ≡ follows_a_term (front ++ b ∷ ys) n
follows_behind [] b xs ys n e = e
follows_behind (c ∷ []) b xs ys n e = ap (λ later. goes_on c.term && not (is_fall c.term) && b.name == n || later) e
follows_behind (c ∷ d ∷ front) b xs ys n e = ap (λ later. goes_on c.term && not (is_fall c.term) && d.name == n || later) (follows_behind (d ∷ front) b xs ys n e)

-- A JUMP TO THE NEXT SLOT, AND FALL

module _ (name : ℕ) (items : List Item) (n : Block) (back : List Block) where
  abbrev jumping : Block
  jumping = record { name = name; items = items; term = Jump n.name }

  abbrev falls : Block
  falls = record { name = name; items = items; term = Fall }

  follows_fall : (xs : List Block) (k : ℕ) → follows_a_term (falls ∷ xs) k ≡ follows_a_term xs k
  follows_fall [] k = refl
  follows_fall (x ∷ xs) k = refl

  items_same : (front : List Block) → items_of_blocks (front ++ falls ∷ n ∷ back) ≡ items_of_blocks (front ++ jumping ∷ n ∷ back)
  items_same [] = refl
  items_same (c ∷ front) = ap (λ (is : List Item). c.items ++ is) (items_same front)

  follows_same : (front : List Block) (k : ℕ) → follows_a_term (front ++ jumping ∷ n ∷ back) k ≡ follows_a_term (front ++ falls ∷ n ∷ back) k
  follows_same [] k = refl
  follows_same (c ∷ []) k = refl
  follows_same (c ∷ d ∷ front) k = ap (λ later. goes_on c.term && not (is_fall c.term) && d.name == k || later) (follows_same (d ∷ front) k)

  -- the Jump alone names less once it is Fall: the next slot
  terms_fewer : (front : List Block) (k : ℕ) → is_among (terms_uses (front ++ falls ∷ n ∷ back)) k ≡ true → is_among (terms_uses (front ++ jumping ∷ n ∷ back)) k ≡ true
  terms_fewer [] k e = or_right (n.name == k) (is_among (terms_uses (n ∷ back)) k) e
  terms_fewer (c ∷ front) k e =
      let old = terms_uses (front ++ jumping ∷ n ∷ back) in
      let left = terms_uses (front ++ falls ∷ n ∷ back) in
      let own = is_among (term_uses c.term) k in
      is_among-append (term_uses c.term) old k
      ∙ elim (or_cases (is_among (term_uses c.term) k) (is_among (terms_uses (front ++ falls ∷ n ∷ back)) k) (sym (is_among-append (term_uses c.term) left k) ∙ e)) [
        | inl here ↦ or_left own (is_among old k) here
        | inr later ↦ or_right own (is_among old k) (terms_fewer front k later)
      ]

  terms_still : (front : List Block) (k : ℕ) → (n.name == k) ≡ false → is_among (terms_uses (front ++ jumping ∷ n ∷ back)) k ≡ true → is_among (terms_uses (front ++ falls ∷ n ∷ back)) k ≡ true
  terms_still [] k apart e = rw apart at e
  terms_still (c ∷ front) k apart e =
      let old = terms_uses (front ++ jumping ∷ n ∷ back) in
      let left = terms_uses (front ++ falls ∷ n ∷ back) in
      let own = is_among (term_uses c.term) k in
      is_among-append (term_uses c.term) left k
      ∙ elim (or_cases (is_among (term_uses c.term) k) (is_among (terms_uses (front ++ jumping ∷ n ∷ back)) k) (sym (is_among-append (term_uses c.term) old k) ∙ e)) [
        | inl here ↦ or_left own (is_among left k) here
        | inr later ↦ or_right own (is_among left k) (terms_still front k apart later)
      ]

  module _ (g : Graph) (front : List Block) where
    abbrev before : Graph
    before = record g { blocks = front ++ jumping ∷ n ∷ back }

    abbrev after : Graph
    after = record g { blocks = front ++ falls ∷ n ∷ back }

    abbrev shut : List Block
    shut = joined_blocks (is_leader before) (n ∷ back)

    -- what stands behind the block is joined already
    abbrev shut_before : Graph
    shut_before = record g { blocks = front ++ jumping ∷ shut }

    abbrev shut_after : Graph
    shut_after = record g { blocks = front ++ falls ∷ shut }

    -- uses of two lists of terms, of which one has those of the other
    used_by : (old left : List Block) (k : ℕ) → items_of_blocks left ≡ items_of_blocks old → (is_among (terms_uses old) k ≡ true → is_among (terms_uses left) k ≡ true) → is_among (uses (record g { blocks = old })) k ≡ true → is_among (uses (record g { blocks = left })) k ≡ true
    used_by old left k same more e =
        let words = code_word_uses g.code_words in
        let items_then = items_uses (items_of_blocks old ++ items_of_bodies g.procedures) in
        let items_now = items_uses (items_of_blocks left ++ items_of_bodies g.procedures) in
        let unmoved : is_among items_now k ≡ is_among items_then k = ap (λ (is : List Item). is_among (items_uses (is ++ items_of_bodies g.procedures)) k) same in
        let parts : (g.entry == k || (is_among words k || (is_among (terms_uses old) k || is_among items_then k))) ≡ true =
        sym (ap (λ t. g.entry == k || t) (three_uses words (terms_uses old) items_then k)) ∙ e in
        elim (one_of_four ⊥ (g.entry == k) (is_among words k) (is_among (terms_uses old) k) (is_among (terms_uses left) k) (is_among items_then k) (λ there. inl (more there)) parts) [
          | inl still ↦ ap (λ t. g.entry == k || t) (three_uses words (terms_uses left) items_now k) ∙ ap (λ t. g.entry == k || (is_among words k || (is_among (terms_uses left) k || t))) unmoved ∙ still
          | inr never ↦ absurd never
        ]

    leads_still : (k : ℕ) → (n.name == k) ≡ false → is_leader before k ≡ true → is_leader after k ≡ true
    leads_still k apart e =
        let used = is_among (uses after) k in
        let follows = follows_a_term (front ++ falls ∷ n ∷ back) k in
        elim (or_cases (is_among (uses before) k) (follows_a_term (front ++ jumping ∷ n ∷ back) k) e) [
          | inl uses_it ↦ or_left used follows (used_by before.blocks after.blocks k (items_same front) (terms_still front k apart) uses_it)
          | inr follows_it ↦ or_right used follows (sym (follows_same front k) ∙ follows_it)
        ]

    led_before : (k : ℕ) → is_leader after k ≡ true → is_leader before k ≡ true
    led_before k e =
        let used = is_among (uses before) k in
        let follows = follows_a_term (front ++ jumping ∷ n ∷ back) k in
        elim (or_cases (is_among (uses after) k) (follows_a_term (front ++ falls ∷ n ∷ back) k) e) [
          | inl uses_it ↦ or_left used follows (used_by after.blocks before.blocks k (sym (items_same front)) (terms_fewer front k) uses_it)
          | inr follows_it ↦ or_right used follows (follows_same front k ∙ follows_it)
        ]

    fewer : (k : ℕ) → is_leader before k ≡ false → is_leader after k ≡ false
    fewer k none =
        elim (cases_Bool (is_leader after k)) [
          | inl leads ↦ absurd (let is : is_leader before k ≡ true = led_before k leads in cc)
          | inr apart ↦ apart
        ]

    -- the same names lead, whether what stands behind is joined or not
    leaders_same : (k : ℕ) → is_leader shut_after k ≡ is_leader after k
    leaders_same k =
        let words = code_word_uses g.code_words in
        let terms : terms_uses shut_after.blocks ≡ terms_uses after.blocks = terms_behind front (falls ∷ shut) (falls ∷ n ∷ back) (terms_uses-joined (is_leader before) (n ∷ back)) in
        let items' : items_of_blocks shut_after.blocks ≡ items_of_blocks after.blocks =
        items_behind front (falls ∷ shut) (falls ∷ n ∷ back) (ap (λ (is : List Item). items ++ is) (items_of_blocks-joined (is_leader before) (n ∷ back))) in
        let used : uses shut_after ≡ uses after =
        ap (λ us. g.entry ∷ (words ++ (us ++ items_uses (all_items shut_after)))) terms
        ∙ ap (λ (is : List Item). g.entry ∷ (words ++ (terms_uses after.blocks ++ items_uses (is ++ items_of_bodies g.procedures)))) items' in
        let follows : follows_a_term shut_after.blocks k ≡ follows_a_term after.blocks k =
        follows_behind front falls shut (n ∷ back) k (follows_fall shut k ∙ follows-joined (is_leader before) (n ∷ back) k ∙ sym (follows_fall (n ∷ back) k)) in
        ap (λ us. is_among us k || follows_a_term shut_after.blocks k) used ∙ ap (λ t. is_among (uses after) k || t) follows

    joined_same : joined shut_after ≡ joined after
    joined_same =
        let leads = is_leader after in
        ap (λ (l : ℕ → Bool). record g { blocks = joined_blocks l (front ++ falls ∷ shut) }) (λ i k. leaders_same k i)
        ∙ ap (λ bs. record g { blocks = bs }) (same_behind leads front (falls ∷ shut) (falls ∷ n ∷ back) (ap (joined_onto leads falls) (joined_again leads (is_leader before) fewer (n ∷ back))))

    joins_before : FallsIntoLeaders (is_leader before) (front ++ jumping ∷ []) → joined before ≡ shut_before
    joins_before into = ap (λ bs. record g { blocks = bs }) (front_stays (is_leader before) front jumping (n ∷ back) into refl)

    falls_ahead : (bs rest : List Block) → value_of (named bs) n.name ≡ None → FallsIntoLeaders (is_leader before) (bs ++ rest) → FallsIntoLeaders (is_leader after) bs
    falls_ahead [] rest none into = tt
    falls_ahead (b ∷ []) rest none into = tt
    falls_ahead (b ∷ next ∷ bs) rest none into =
        let behind : value_of (named (next ∷ bs)) n.name ≡ None = (absent_tail b (next ∷ bs) n.name none).1 in
        let apart : (n.name == next.name) ≡ false = other_way next.name n.name (absent_tail next bs n.name behind).0 in
        (λ fall. leads_still next.name apart (into.0 fall), falls_ahead (next ∷ bs) rest behind into.1)

    module _ (filled : has_no_items items ≡ false) (solid : All (λ b. is_bare b ≡ false) before.blocks) where
      abbrev Solid : Block → Type 0
      Solid b = is_bare b ≡ false

      behind_solid : All Solid (n ∷ back)
      behind_solid = All-tail Solid jumping (n ∷ back) (All-right Solid front (jumping ∷ n ∷ back) solid)

      with_falls : (bs : List Block) → All Solid bs → All Solid (front ++ falls ∷ bs)
      with_falls bs all = All-append Solid front (falls ∷ bs) (All-left Solid front (jumping ∷ n ∷ back) solid) (All-cons Solid falls bs (ap (λ t. t && true) filled) all)

      pub solid_after : All Solid after.blocks
      solid_after = with_falls (n ∷ back) behind_solid

      canonical_same : canonical_of shut_after ≡ canonical_of after
      canonical_same =
          solid_joined shut_after (with_falls shut (none_bare-joined (is_leader before) (n ∷ back) behind_solid))
          ∙ joined_same ∙ sym (solid_joined after solid_after)

-- WHERE IT STANDS

module _ (g : Graph) (count block : ℕ) (rules : IsGraph g) (b : IsBlockAt g count block) (p : IsPlainFall g block) (almost : IsCanonicalTo (count + 1) g) where
  abbrev to : ℕ
  to = p.jumps.to

  abbrev front : List Block
  front = take count g.blocks

  split : g.blocks ≡ front ++ b.block ∷ drop (count + 1) g.blocks
  split = sym (take-append-drop count g.blocks) ∙ ap (λ bs. front ++ bs) b.rest

  keyed : HasDistinctKeys (named front ++ (b.block.name, b.block) ∷ named (drop (count + 1) g.blocks))
  keyed = subst (λ (es : List (ℕ × Block)). HasDistinctKeys es) (ap named split ∙ named-append front (b.block ∷ drop (count + 1) g.blocks)) rules.distinct

  ahead : value_of (named front) block ≡ None
  ahead = subst (λ m. value_of (named front) m ≡ None) b.has_name (absent_ahead (named front) (named (drop (count + 1) g.blocks)) b.block.name b.block keyed)

  spot : IsAt g.blocks block
  spot = record { front = front; block = b.block; back = drop (count + 1) g.blocks; whole = split; has_name = b.has_name; ahead = ahead }

  next : HasFirst (drop (count + 1) g.blocks) to
  unfolding spot
  next = first_is (drop (count + 1) g.blocks) to (sym (behind_it g.blocks block spot) ∙ p.jumps.next)

  abbrev n : Block
  n = next.block

  abbrev back : List Block
  back = next.rest

  abbrev items : List Item
  items = b.block.items

  term_is : b.block.term ≡ Jump n.name
  term_is = let same : Some b.block.term ≡ Some (Jump to) = sym (ap block_term b.found) ∙ p.jumps.jump in let is : b.block.term ≡ Jump to = cc in is ∙ ap Jump (sym next.has_name)

  is_jump : b.block ≡ jumping block items n back
  is_jump = λ i. record { name = b.has_name i; items = items; term = term_is i }

  whole : g.blocks ≡ front ++ jumping block items n back ∷ n ∷ back
  whole = split ∙ ap (λ bs. front ++ b.block ∷ bs) next.is ∙ ap (λ c. front ++ c ∷ n ∷ back) is_jump

  abbrev then_ : Graph
  then_ = before block items n back g front

  abbrev now_ : Graph
  now_ = after block items n back g front

  g_is : g ≡ then_
  g_is = ap (λ bs. record g { blocks = bs }) whole

  -- the block as Fall
  fallen_is : falling g block ≡ now_
  unfolding spot
  fallen_is =
      ap (λ bs. record g { blocks = bs })
      (with_blocks-at (λ c. record c { term = Fall } ∷ []) g.blocks block spot
      ∙ (λ i. front ++ record { name = b.has_name i; items = items; term = Fall } ∷ next.is i))

  filled : has_no_items items ≡ false
  filled = sym (ap (λ o. has_no_items (block_items o)) b.found) ∙ p.filled

  solid : All (λ c. is_bare c ≡ false) then_.blocks
  solid = subst (λ bs. All (λ c. is_bare c ≡ false) bs) whole almost.no_bare

  into : FallsIntoLeaders (is_leader then_) (front ++ jumping block items n back ∷ [])
  into =
      subst (λ (h : Graph). FallsIntoLeaders (is_leader h) (front ++ jumping block items n back ∷ [])) g_is
      (subst (λ bs. FallsIntoLeaders (is_leader g) bs) (b.more ∙ ap (λ c. front ++ c ∷ []) is_jump) almost.leaders)

  -- the canonical form joins what stands behind the block, which stays
  canonical_is : canonical_of g ≡ shut_before block items n back g front
  canonical_is = ap canonical_of g_is ∙ solid_joined then_ solid ∙ joins_before block items n back g front into

  shut_spot : IsAt (shut_before block items n back g front).blocks block
  shut_spot = record { front = front; block = jumping block items n back; back = shut block items n back g front; whole = refl; has_name = refl; ahead = ahead }

  jumps_there : JumpsToNext (canonical_of g) block
  unfolding shut_spot
  jumps_there =
      subst (λ (h : Graph). JumpsToNext h block) (sym canonical_is)
      (record {
        to = n.name;
        jump = ap block_term (block_at (shut_before block items n back g front).blocks block shut_spot);
        next = behind_it (shut_before block items n back g front).blocks block shut_spot ∙ first_named (is_leader then_) n (joined_blocks (is_leader then_) back);
      })

  falls_there : falling (canonical_of g) block ≡ shut_after block items n back g front
  unfolding shut_spot
  falls_there =
      ap (λ (h : Graph). falling h block) canonical_is
      ∙ ap (λ bs. record g { blocks = bs }) (with_blocks-at (λ c. record c { term = Fall } ∷ []) (shut_before block items n back g front).blocks block shut_spot)

  made : canonical_of (falling g block) ≡ canonical_of (falling (canonical_of g) block)
  made = ap canonical_of fallen_is ∙ sym (canonical_same block items n back g front filled solid) ∙ ap canonical_of (sym falls_there)

  pub fall_rewritten : (h : Graph) (before after : Savings) → h ≡ falling g block → after ≡ counted before J1 1 → IsRewritten IsCandidate described before after (canonical_of g) (canonical_of h)
  fall_rewritten h before after is counts =
      let c = canonical_of g in
      let c_rules = canonical_is_graph g rules in
      let mid = falling c block in
      let mid_rules = fall_rules c block jumps_there.to c_rules jumps_there.jump jumps_there.next in
      let h_rules : IsGraph h = subst IsGraph (sym is) (fall_rules g block to rules p.jumps.jump p.jumps.next) in
      let same : canonical_of h ≡ canonical_of mid = ap canonical_of is ∙ made in
      row_rewritten J1 block before after c mid (canonical_of h) jumps_there (fall_applied c block c_rules jumps_there) mid_rules same (canonical_is_canonical h h_rules) (ap words_of same ∙ canonical_keeps_words mid mid_rules) counts

  pub fall_kept : (h : Graph) → h ≡ falling g block → IsCanonicalTo count h
  fall_kept h is =
      let front_only : take count now_.blocks ≡ front = take_at front (falls block items n back ∷ n ∷ back) count (length-take-le count g.blocks (omega (arith, b.within))) in
      let absent : value_of (named front) n.name ≡ None = (absent_parts front (jumping block items n back ∷ []) n.name
      (absent_ahead (named (front ++ jumping block items n back ∷ [])) (named back) n.name n
      (subst (λ (es : List (ℕ × Block)). HasDistinctKeys es)
      (ap named (whole ∙ sym (append_assoc front (jumping block items n back ∷ []) (n ∷ back))) ∙ named-append (front ++ jumping block items n back ∷ []) (n ∷ back)) rules.distinct))).0 in
      subst (λ (m : Graph). IsCanonicalTo count m) (sym (is ∙ fallen_is))
      (record {
        no_bare = solid_after block items n back g front filled solid;
        leaders = subst (λ bs. FallsIntoLeaders (is_leader now_) bs) (sym front_only) (falls_ahead block items n back g front front (jumping block items n back ∷ []) absent into);
      })

  pub fall_names : (h : Graph) → h ≡ falling g block → names_of h ≡ names_of g
  fall_names h is = ap names_of is ∙ names-changed (λ c. record c { term = Fall }) g.blocks block (λ c. refl)

-- WHERE A WALK BEGINS, AND WHERE IT GOES ON

pub canonical_to_end : (g : Graph) (count : ℕ) → length g.blocks ≤ count → IsCanonical g → IsCanonicalTo count g
canonical_to_end g count all canonical = record {
  no_bare = canonical.no_bare;
  leaders = subst (λ bs. FallsIntoLeaders (is_leader g) bs) (sym (take_all count g.blocks all)) canonical.leaders;
}

pub canonical_to_fewer : (g : Graph) (count block : ℕ) → IsBlockAt g count block → IsCanonicalTo (count + 1) g → IsCanonicalTo count g
canonical_to_fewer g count block b almost = record {
  no_bare = almost.no_bare;
  leaders = fewer_fall (is_leader g) (take count g.blocks) (b.block ∷ []) (subst (λ bs. FallsIntoLeaders (is_leader g) bs) b.more almost.leaders);
}

pub filled_if : (items : List Item) → (length items == 0) ≡ false → has_no_items items ≡ false
filled_if [] e = absurd (cc)
filled_if (item ∷ rest) e = refl
