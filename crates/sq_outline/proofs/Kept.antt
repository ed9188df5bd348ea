-- A canonical graph stays canonical when items become the body of one more procedure, and when items that match a procedure's
-- body become a call of it: the names that they use are used in the body.
use Rattle.std.proofs.Common.{◌≡◌, ℕ, zero, suc, ◌+◌, ◌==◌, Bool, true, false, ◌&&◌, ◌||◌, not, List, [], ◌∷◌, ◌++◌, take, drop, length, slice_get, ◌⊎◌, inl, inr, refl, sym, ap, ◌∙◌, subst}
use Rattle.std.specs.List.{All, slice_range}
use Rattle.std.proofs.lemmas.Bool.{or_cases, or_left, or_right}
use Rattle.std.proofs.lemmas.List.{take-append-drop, drop-drop}
use Rattle.std.proofs.lemmas.List.Elements.{All-cons, All-head, All-tail}
use Rattle.sq_isa.specs.Registers.{is_among}
use Rattle.sq_graph.specs.declared.item.Item.{Item}
use Rattle.sq_graph.specs.declared.item.Item.TheVariants.{Op, Hi, Lo, Out}
use Rattle.sq_graph.specs.Graph.{Block, Procedure, Graph}
use Rattle.sq_graph.specs.Blocks.{block_items, items_of, items_of_blocks, items_of_bodies, procedure_body, body_of}
use Rattle.sq_graph.specs.Leaders.{is_fall, is_bare, follows_a_term, is_leader, FallsIntoLeaders, IsCanonical}
use Rattle.sq_graph.specs.Matches.{AreSameForms}
use Rattle.sq_graph.specs.Operations.{replaced_items, outlined}
use Rattle.sq_graph.specs.Rules.{IsGraph}
use Rattle.sq_graph.specs.Terms.{goes_on}
use Rattle.sq_graph.specs.Uses.{item_uses, items_uses, term_uses, terms_uses, code_word_uses, uses}
use Rattle.sq_graph.proofs.Changes.{with_blocks-at}
use Rattle.sq_graph.proofs.Located.{IsAt, located, items_of_blocks-append}
use Rattle.sq_graph.proofs.Marks.{is_among-append}
use Rattle.sq_graph.proofs.SlotReads.{block_at}
use Rattle.law_patch.specs.Calls.{call_items, called_there}
use Rattle.law_patch.proofs.Calls.{range_is}
use Rattle.sq_outline.specs.declared.sites.Site.{Site}
use Rattle.sq_outline.specs.Sites.{called_each, MatchesAt, MayCallEach}
use Rattle.sq_outline.proofs.Standing.{one_call, next_calls}

-- USES

abbrev pub Uses : List Item → ℕ → Type 0
Uses items n = is_among (items_uses items) n ≡ true

pub uses_left : (xs ys : List Item) (n : ℕ) → Uses xs n → Uses (xs ++ ys) n
uses_left [] ys n used = absurd (cc)
uses_left (x ∷ xs) ys n used =
    elim (or_cases (is_among (item_uses x) n) (is_among (items_uses xs) n) (sym (is_among-append (item_uses x) (items_uses xs) n) ∙ used)) [
      | inl here ↦ is_among-append (item_uses x) (items_uses (xs ++ ys)) n ∙ or_left (is_among (item_uses x) n) (is_among (items_uses (xs ++ ys)) n) here
      | inr later ↦ is_among-append (item_uses x) (items_uses (xs ++ ys)) n ∙ or_right (is_among (item_uses x) n) (is_among (items_uses (xs ++ ys)) n) (uses_left xs ys n later)
    ]

pub uses_right : (xs ys : List Item) (n : ℕ) → Uses ys n → Uses (xs ++ ys) n
uses_right [] ys n used = used
uses_right (x ∷ xs) ys n used =
    is_among-append (item_uses x) (items_uses (xs ++ ys)) n ∙ or_right (is_among (item_uses x) n) (is_among (items_uses (xs ++ ys)) n) (uses_right xs ys n used)

pub uses_either : (xs ys : List Item) (n : ℕ) → Uses (xs ++ ys) n → Uses xs n ⊎ Uses ys n
uses_either [] ys n used = inr used
uses_either (x ∷ xs) ys n used =
    elim (or_cases (is_among (item_uses x) n) (is_among (items_uses (xs ++ ys)) n) (sym (is_among-append (item_uses x) (items_uses (xs ++ ys)) n) ∙ used)) [
      | inl here ↦ inl (is_among-append (item_uses x) (items_uses xs) n ∙ or_left (is_among (item_uses x) n) (is_among (items_uses xs) n) here)
      | inr later ↦
          elim (uses_either xs ys n later) [
            | inl front ↦ inl (is_among-append (item_uses x) (items_uses xs) n ∙ or_right (is_among (item_uses x) n) (is_among (items_uses xs) n) front)
            | inr back ↦ inr back
          ]
    ]

-- items of one form use the same names
same_uses : (items others : List Item) → AreSameForms items others → items_uses items ≡ items_uses others
same_uses [] [] same = refl
same_uses [] (j ∷ others) same = absurd same
same_uses (i ∷ items) [] same = absurd same
same_uses (Op insn ∷ items) (Op other ∷ others) same = same_uses items others same.1
same_uses (Hi rd to ∷ items) (Hi rd' to' ∷ others) same = ap (λ n. n ∷ items_uses items) (sym same.0) ∙ ap (λ us. to' ∷ us) (same_uses items others same.1)
same_uses (Lo rd rs to ∷ items) (Lo rd' rs' to' ∷ others) same = ap (λ n. n ∷ items_uses items) (sym same.0) ∙ ap (λ us. to' ∷ us) (same_uses items others same.1)
same_uses (Out p ∷ items) (Out p' ∷ others) same = same_uses items others same.1
same_uses (Op insn ∷ items) (Hi rd to ∷ others) same = absurd same.0
same_uses (Op insn ∷ items) (Lo rd rs to ∷ others) same = absurd same.0
same_uses (Op insn ∷ items) (Out p ∷ others) same = absurd same.0
same_uses (Hi rd to ∷ items) (Op insn ∷ others) same = absurd same.0
same_uses (Hi rd to ∷ items) (Lo rd' rs' to' ∷ others) same = absurd same.0
same_uses (Hi rd to ∷ items) (Out p ∷ others) same = absurd same.0
same_uses (Lo rd rs to ∷ items) (Op insn ∷ others) same = absurd same.0
same_uses (Lo rd rs to ∷ items) (Hi rd' to' ∷ others) same = absurd same.0
same_uses (Lo rd rs to ∷ items) (Out p ∷ others) same = absurd same.0
same_uses (Out p ∷ items) (Op insn ∷ others) same = absurd same.0
same_uses (Out p ∷ items) (Hi rd to ∷ others) same = absurd same.0
same_uses (Out p ∷ items) (Lo rd rs to ∷ others) same = absurd same.0

pub body_used : (ps : List Procedure) (p n : ℕ) → Uses (procedure_body (slice_get ps p)) n → Uses (items_of_bodies ps) n
body_used [] p n used = absurd (cc)
body_used (q ∷ ps) zero n used = uses_left q.body (items_of_bodies ps) n used
body_used (q ∷ ps) (suc p) n used = uses_right q.body (items_of_bodies ps) n (body_used ps p n used)

bodies_more : (ps : List Procedure) (q : Procedure) (n : ℕ) → Uses (items_of_bodies ps) n → Uses (items_of_bodies (ps ++ q ∷ [])) n
bodies_more [] q n used = absurd (cc)
bodies_more (p ∷ ps) q n used =
    elim (uses_either p.body (items_of_bodies ps) n used) [
      | inl here ↦ uses_left p.body (items_of_bodies (ps ++ q ∷ [])) n here
      | inr later ↦ uses_right p.body (items_of_bodies (ps ++ q ∷ [])) n (bodies_more ps q n later)
    ]

-- where the items use no fewer names, all uses are no fewer
pub all_used : (entry n : ℕ) (words terms : List ℕ) (olds news : List Item) → (Uses olds n → Uses news n) → is_among (entry ∷ (words ++ (terms ++ items_uses olds))) n ≡ true → is_among (entry ∷ (words ++ (terms ++ items_uses news))) n ≡ true
all_used entry n words terms olds news more used =
    elim (or_cases (entry == n) (is_among (words ++ (terms ++ items_uses olds)) n) used) [
      | inl here ↦ or_left (entry == n) (is_among (words ++ (terms ++ items_uses news)) n) here
      | inr later ↦ or_right (entry == n) (is_among (words ++ (terms ++ items_uses news)) n) (behind (terms ++ items_uses olds) (terms ++ items_uses news) words (λ e. behind (items_uses olds) (items_uses news) terms more e) later)
    ]
  where
    behind : (xs ys front : List ℕ) → (is_among xs n ≡ true → is_among ys n ≡ true) → is_among (front ++ xs) n ≡ true → is_among (front ++ ys) n ≡ true
    behind xs ys front on e =
        elim (or_cases (is_among front n) (is_among xs n) (sym (is_among-append front xs n) ∙ e)) [
          | inl here ↦ is_among-append front ys n ∙ or_left (is_among front n) (is_among ys n) here
          | inr later ↦ is_among-append front ys n ∙ or_right (is_among front n) (is_among ys n) (on later)
        ]

pub falls_more : (leads others : ℕ → Bool) → ((n : ℕ) → leads n ≡ true → others n ≡ true) → (bs : List Block) → FallsIntoLeaders leads bs → FallsIntoLeaders others bs
falls_more leads others more [] falls = tt
falls_more leads others more (b ∷ []) falls = tt
falls_more leads others more (b ∷ next ∷ bs) falls = (λ fall. more next.name (falls.0 fall), falls_more leads others more (next ∷ bs) falls.1)

-- ONE MORE PROCEDURE

pub outlined_canonical : (g : Graph) (block at size link : ℕ) → IsCanonical g → IsCanonical (outlined g block at size link)
outlined_canonical g block at size link canonical =
    let new : Procedure = record { link = link; body = slice_range (items_of g block) at (at + size) } in
    let h = outlined g block at size link in
    let olds : List Item = items_of_blocks g.blocks ++ items_of_bodies g.procedures in
    let news : List Item = items_of_blocks g.blocks ++ items_of_bodies (g.procedures ++ new ∷ []) in
    let used : (n : ℕ) → Uses olds n → Uses news n = λ n u.
    elim (uses_either (items_of_blocks g.blocks) (items_of_bodies g.procedures) n u) [
      | inl here ↦ uses_left (items_of_blocks g.blocks) (items_of_bodies (g.procedures ++ new ∷ [])) n here
      | inr later ↦ uses_right (items_of_blocks g.blocks) (items_of_bodies (g.procedures ++ new ∷ [])) n (bodies_more g.procedures new n later)
    ] in
    let leads : (n : ℕ) → is_leader g n ≡ true → is_leader h n ≡ true = λ n e.
    elim (or_cases (is_among (uses g) n) (follows_a_term g.blocks n) e) [
      | inl here ↦ or_left (is_among (uses h) n) (follows_a_term g.blocks n) (all_used g.entry n (code_word_uses g.code_words) (terms_uses g.blocks) olds news (used n) here)
      | inr behind ↦ or_right (is_among (uses h) n) (follows_a_term g.blocks n) behind
    ] in
    record { no_bare = canonical.no_bare; leaders = falls_more (is_leader g) (is_leader h) leads g.blocks canonical.leaders }

-- ITEMS OF ONE BLOCK

module _ (x : Block) (is : List Item) (back : List Block) where
  abbrev y : Block
  y = record x { items = is }

  terms_same : (front : List Block) → terms_uses (front ++ y ∷ back) ≡ terms_uses (front ++ x ∷ back)
  terms_same [] = refl
  terms_same (b ∷ front) = ap (λ us. term_uses b.term ++ us) (terms_same front)

  follows_here : (bs : List Block) (n : ℕ) → follows_a_term (x ∷ bs) n ≡ follows_a_term (y ∷ bs) n
  follows_here [] n = refl
  follows_here (next ∷ bs) n = refl

  follows_same : (front : List Block) (n : ℕ) → follows_a_term (front ++ x ∷ back) n ≡ follows_a_term (front ++ y ∷ back) n
  follows_same [] n = follows_here back n
  follows_same (b ∷ []) n = ap (λ later. goes_on b.term && not (is_fall b.term) && x.name == n || later) (follows_same [] n)
  follows_same (b ∷ c ∷ front) n = ap (λ later. goes_on b.term && not (is_fall b.term) && c.name == n || later) (follows_same (c ∷ front) n)

  still_solid : is_bare y ≡ false → (front : List Block) → All (λ b. is_bare b ≡ false) (front ++ x ∷ back) → All (λ b. is_bare b ≡ false) (front ++ y ∷ back)
  still_solid solid [] all = All-cons (λ b. is_bare b ≡ false) y back solid (All-tail (λ b. is_bare b ≡ false) x back all)
  still_solid solid (b ∷ front) all =
      All-cons (λ b. is_bare b ≡ false) b (front ++ y ∷ back) (All-head (λ b. is_bare b ≡ false) b (front ++ x ∷ back) all) (still_solid solid front (All-tail (λ b. is_bare b ≡ false) b (front ++ x ∷ back) all))

  falls_here : (leads : ℕ → Bool) (bs : List Block) → FallsIntoLeaders leads (x ∷ bs) → FallsIntoLeaders leads (y ∷ bs)
  falls_here leads [] falls = tt
  falls_here leads (next ∷ bs) falls = falls

  falls_same : (leads : ℕ → Bool) (front : List Block) → FallsIntoLeaders leads (front ++ x ∷ back) → FallsIntoLeaders leads (front ++ y ∷ back)
  falls_same leads [] falls = falls_here leads back falls
  falls_same leads (b ∷ []) falls = (falls.0, falls_here leads back falls.1)
  falls_same leads (b ∷ c ∷ front) falls = (falls.0, falls_same leads (c ∷ front) falls.1)

  -- what the old items use is used by the new ones or in a procedure
  module _ (g : Graph) (front : List Block) (solid : is_bare y ≡ false) (kept : (n : ℕ) → Uses x.items n → Uses is n ⊎ Uses (items_of_bodies g.procedures) n) where
    abbrev before : Graph
    before = record g { blocks = front ++ x ∷ back }

    abbrev after : Graph
    after = record g { blocks = front ++ y ∷ back }

    abbrev rest : List Item
    rest = items_of_bodies g.procedures

    items_before : items_of_blocks (front ++ x ∷ back) ≡ items_of_blocks front ++ (x.items ++ items_of_blocks back)
    items_before = items_of_blocks-append front (x ∷ back)

    items_after : items_of_blocks (front ++ y ∷ back) ≡ items_of_blocks front ++ (is ++ items_of_blocks back)
    items_after = items_of_blocks-append front (y ∷ back)

    in_blocks : (n : ℕ) → Uses (items_of_blocks front ++ (is ++ items_of_blocks back)) n → Uses (items_of_blocks (front ++ y ∷ back) ++ rest) n
    in_blocks n u = uses_left (items_of_blocks (front ++ y ∷ back)) rest n (subst (λ (js : List Item). Uses js n) (sym items_after) u)

    in_bodies : (n : ℕ) → Uses rest n → Uses (items_of_blocks (front ++ y ∷ back) ++ rest) n
    in_bodies n u = uses_right (items_of_blocks (front ++ y ∷ back)) rest n u

    used_still : (n : ℕ) → Uses (items_of_blocks (front ++ x ∷ back) ++ rest) n → Uses (items_of_blocks (front ++ y ∷ back) ++ rest) n
    used_still n u =
        elim (uses_either (items_of_blocks (front ++ x ∷ back)) rest n u) [
          | inr later ↦ in_bodies n later
          | inl here ↦
              elim (uses_either (items_of_blocks front) (x.items ++ items_of_blocks back) n (subst (λ (js : List Item). Uses js n) items_before here)) [
                | inl ahead ↦ in_blocks n (uses_left (items_of_blocks front) (is ++ items_of_blocks back) n ahead)
                | inr from ↦
                    elim (uses_either x.items (items_of_blocks back) n from) [
                      | inr behind ↦ in_blocks n (uses_right (items_of_blocks front) (is ++ items_of_blocks back) n (uses_right is (items_of_blocks back) n behind))
                      | inl own ↦
                          elim (kept n own) [
                            | inl there ↦ in_blocks n (uses_right (items_of_blocks front) (is ++ items_of_blocks back) n (uses_left is (items_of_blocks back) n there))
                            | inr body ↦ in_bodies n body
                          ]
                    ]
              ]
        ]

    leads_still : (n : ℕ) → is_leader before n ≡ true → is_leader after n ≡ true
    leads_still n e =
        elim (or_cases (is_among (uses before) n) (follows_a_term (front ++ x ∷ back) n) e) [
          | inl here ↦
              or_left (is_among (uses after) n) (follows_a_term (front ++ y ∷ back) n)
              (subst (λ ts. is_among (g.entry ∷ (code_word_uses g.code_words ++ (ts ++ items_uses (items_of_blocks (front ++ y ∷ back) ++ rest)))) n ≡ true) (sym (terms_same front))
              (all_used g.entry n (code_word_uses g.code_words) (terms_uses (front ++ x ∷ back)) (items_of_blocks (front ++ x ∷ back) ++ rest) (items_of_blocks (front ++ y ∷ back) ++ rest) (used_still n) here))
          | inr behind ↦ or_right (is_among (uses after) n) (follows_a_term (front ++ y ∷ back) n) (sym (follows_same front n) ∙ behind)
        ]

    pub changed_canonical : IsCanonical before → IsCanonical after
    changed_canonical canonical = record {
      no_bare = still_solid solid front canonical.no_bare;
      leaders = falls_more (is_leader before) (is_leader after) leads_still (front ++ y ∷ back) (falls_same (is_leader before) front canonical.leaders);
    }

-- A CALL

module _ (g : Graph) (site : Site) (procedure : ℕ) (can : MatchesAt g procedure site) where
  abbrev size : ℕ
  size = length (body_of g procedure)

  spot : IsAt g.blocks site.block
  spot = located g.blocks site.block can.block_there

  abbrev olds : List Item
  olds = spot.block.items

  abbrev news : List Item
  news = replaced_items spot.block.items site.at (length (body_of g procedure)) (Out procedure ∷ [])

  olds_are : items_of g site.block ≡ olds
  olds_are = ap block_items (block_at g.blocks site.block spot)

  blocks_after : (called_there g site.block site.at procedure).blocks ≡ spot.front ++ record spot.block { items = news } ∷ spot.back
  blocks_after = with_blocks-at (λ b. record b { items = replaced_items b.items site.at (length (body_of g procedure)) (Out procedure ∷ []) } ∷ []) g.blocks site.block spot

  solid_at : (front back : List Item) (b : Block) → is_bare (record b { items = front ++ Out procedure ∷ back }) ≡ false
  solid_at [] back b = refl
  solid_at (i ∷ front) back b = refl

  taken : take size (drop site.at olds) ≡ call_items g site.block site.at procedure
  taken = sym (range_is (items_of g site.block) site.at size ∙ ap (λ (js : List Item). take size (drop site.at js)) olds_are)

  split_three : (js : List Item) (at n : ℕ) → js ≡ take at js ++ (take n (drop at js) ++ drop (at + n) js)
  split_three js at n =
      sym (take-append-drop at js)
      ∙ ap (λ ks. take at js ++ ks) (sym (take-append-drop n (drop at js)) ∙ ap (λ ks. take n (drop at js) ++ ks) (drop-drop n at js))

  kept_uses : (n : ℕ) → Uses olds n → Uses news n ⊎ Uses (items_of_bodies g.procedures) n
  kept_uses n u =
      let front = take site.at olds in
      let mid = take size (drop site.at olds) in
      let back = drop (site.at + size) olds in
      elim (uses_either front (mid ++ back) n (subst (λ (js : List Item). Uses js n) (split_three olds site.at size) u)) [
        | inl ahead ↦ inl (uses_left front ((Out procedure ∷ []) ++ back) n ahead)
        | inr from ↦
            elim (uses_either mid back n from) [
              | inl own ↦
                  let here : Uses (call_items g site.block site.at procedure) n = subst (λ (js : List Item). Uses js n) taken own in
                  inr (body_used g.procedures procedure n (subst (λ us. is_among us n ≡ true) (same_uses (call_items g site.block site.at procedure) (body_of g procedure) can.match.forms) here))
              | inr behind ↦ inl (uses_right front ((Out procedure ∷ []) ++ back) n (uses_right (Out procedure ∷ []) back n behind))
            ]
      ]

  pub called_canonical : IsCanonical g → IsCanonical (called_there g site.block site.at procedure)
  called_canonical canonical =
      subst (λ bs. IsCanonical (record g { blocks = bs })) (sym blocks_after)
      (changed_canonical spot.block news spot.back g spot.front (solid_at (take site.at olds) (drop (site.at + size) olds) spot.block) kept_uses
      (subst (λ bs. IsCanonical (record g { blocks = bs })) spot.whole canonical))

-- calls at several places
pub each_canonical : (sites : List Site) (g : Graph) (procedure : ℕ) → IsGraph g → MayCallEach g sites procedure → IsCanonical g → IsCanonical (called_each sites procedure g)
each_canonical [] g procedure rules may canonical = canonical
each_canonical (site ∷ sites) g procedure rules may canonical =
    let can = All-head (MatchesAt g procedure) site sites may.matching in
    let h = called_there g site.block site.at procedure in
    let one = one_call g site procedure rules can may.some in
    each_canonical sites h procedure one.rules (next_calls g site sites procedure rules may) (called_canonical g site procedure can canonical)
