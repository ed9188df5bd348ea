-- Lone Jumps of which none leads to another don't disturb one another.
use Rattle.std.proofs.Common.{Result, Ok, Err, ◌≡◌, ◌≢◌, ◌⊎◌, ℕ, ◌==◌, true, false, ◌||◌, if◌then◌else◌, nat_eq, List, [], ◌∷◌, ◌++◌, map, length, Option, None, Some, is_some, inl, inr, refl, sym, ap, ◌∙◌, subst}
use Rattle.std.specs.Prelude.{option_map, OnOk}
use Rattle.std.proofs.lemmas.Bool.{cases_Bool, eqb-true, eq-eqb, ne_eqb, or_left, or_right, or_parts, or_cases}
use Rattle.std.proofs.lemmas.List.{length-map}
use Rattle.sq_arena.specs.Entries.{first_key, next_key}
use Rattle.sq_num.specs.declared.memory.Memory.{Memory}
use Rattle.sq_isa.specs.Registers.{is_among}
use Rattle.sq_isa.specs.declared.instructions.Cond.{Cond}
use Rattle.sq_graph.specs.declared.item.Item.{Item}
use Rattle.sq_graph.specs.declared.item.Term.{Term}
use Rattle.sq_graph.specs.declared.item.Term.TheVariants.{Fall, Jump, Branch, Call, PartJump, Indirect, Stop}
use Rattle.sq_graph.specs.Graph.{Block, Graph}
use Rattle.sq_graph.specs.Blocks.{named, HasBlock, block_of, block_items, block_term, items_of, next_of, term_of}
use Rattle.sq_graph.specs.Operations.{with_blocks}
use Rattle.sq_graph.specs.Renames.{retargeted_item, retargeted_term, retargeted_block, swapped}
use Rattle.sq_graph.specs.Resolve.{jump_of, lone_jump, jump_from}
use Rattle.sq_graph.specs.Rules.{IsGraph}
use Rattle.sq_graph.specs.Terms.{goes_on}
use Rattle.sq_graph.specs.Uses.{uses}
use Rattle.law_patch.specs.LoneJumps.{IsDetourTo, without_jump}
use Rattle.sq_layout.specs.Branches.{BranchReaches}
use Rattle.sq_lookup.specs.Names.{is_listed, Adds}
use Rattle.sq_jumps.specs.UnreachedClear.{AreOnce}
use Rattle.sq_pass.specs.declared.cut.Row.{Row}
use Rattle.sq_pass.specs.declared.cut.Row.TheVariants.{J1, J2}
use Rattle.sq_jumps.specs.Fall.{JumpsToNext}
use Rattle.sq_jumps.specs.Detour.{IsDetour}
use Rattle.sq_jumps.specs.Lone.{IsNamedDetour, IsBypassable, GoTogether, IsFree, AreChosen}
use Rattle.sq_lookup.specs.Addresses.{address_of}
use Rattle.sq_jumps.specs.Surveys.{ReachesBy, ReachesWithout}
use Rattle.sq_layout.proofs.Standing.{block_of-without, block_of-retargeted}
use Rattle.sq_lookup.proofs.Targets.{has_term, jump_there, lone, lone_term}
use Rattle.sq_jumps.proofs.DetourApplied.{detour_to, detour_shrinks, detour_rules, lone_redirected}
use Rattle.sq_jumps.proofs.LoneFalls.{next_other, lone_fall_rules}
use Rattle.sq_jumps.proofs.Blocks.{retargeted_before, gone_block, goes_on-retargeted, next-redirected}
use Rattle.sq_jumps.proofs.Distances.{detour_near}
use Rattle.sq_jumps.proofs.DetourKept.{name_used}
use Rattle.sq_jumps.proofs.OldSurveys.{without_still}
use Rattle.sq_lookup.proofs.Adding.{is_listed-append, among_listed}

-- LONE JUMPS AND SLOTS, ONCE A BLOCK GAVE ITS NAME AND WENT

jump_of-retargeted : (f : ℕ → ℕ) (items : List Item) (t : Term) → jump_of (map (retargeted_item f) items) (retargeted_term f t) ≡ option_map f (jump_of items t)
jump_of-retargeted f (item ∷ items) t = refl
jump_of-retargeted f [] Fall = refl
jump_of-retargeted f [] (Jump to) = refl
jump_of-retargeted f [] (Branch cond a b to) = refl
jump_of-retargeted f [] (Call link to) = refl
jump_of-retargeted f [] (PartJump link part to) = refl
jump_of-retargeted f [] (Indirect link at offset) = refl
jump_of-retargeted f [] (Stop word) = refl

lone_jump-retargeted : (f : ℕ → ℕ) (o : Option Block) → lone_jump (option_map (retargeted_block f) o) ≡ option_map f (lone_jump o)
lone_jump-retargeted f None = refl
lone_jump-retargeted f (Some b) = jump_of-retargeted f b.items b.term

-- the slot behind a block was that, or stood behind the one that went
next_before : (bs : List Block) (gone m n : ℕ) → m ≢ gone → next_key (named (with_blocks (λ b. []) bs gone)) m ≡ Some n → (next_key (named bs) m ≡ Some n) ⊎ ((next_key (named bs) m ≡ Some gone) × (next_key (named bs) gone ≡ Some n))
next_before [] gone m n other e = inl e
next_before (b ∷ bs) gone m n other e =
    elim (cases_Bool (b.name == gone)) [
      | inl here ↦
          let apart : (b.name == m) ≡ false = ne_eqb b.name m (λ same. other (sym same ∙ eqb-true b.name gone here)) in
          inl (rw apart (rw here at e))
      | inr away ↦
          elim (cases_Bool (b.name == m)) [
            | inl this ↦ rw (this, away) (first_before bs (rw (away, this) at e))
            | inr that ↦ rw (that, away) (next_before bs gone m n other (rw (away, that) at e))
          ]
    ]
  where
    first_before : (bs : List Block) → first_key (named (with_blocks (λ b. []) bs gone)) ≡ Some n → (first_key (named bs) ≡ Some n) ⊎ ((first_key (named bs) ≡ Some gone) × (next_key (named bs) gone ≡ Some n))
    first_before [] e = inl e
    first_before (c ∷ bs) e =
        elim (cases_Bool (c.name == gone)) [
          | inl here ↦ inr (ap Some (eqb-true c.name gone here), rw here (rw here at e))
          | inr away ↦ inl (rw away at e)
        ]

-- the slot behind a block stays, where it isn't the one that went
next_after : (bs : List Block) (gone m n : ℕ) → m ≢ gone → n ≢ gone → next_key (named bs) m ≡ Some n → next_key (named (with_blocks (λ b. []) bs gone)) m ≡ Some n
next_after [] gone m n other stays e = absurd (cc)
next_after (b ∷ bs) gone m n other stays e =
    elim (cases_Bool (b.name == gone)) [
      | inl here ↦
          let apart : (b.name == m) ≡ false = ne_eqb b.name m (λ same. other (sym same ∙ eqb-true b.name gone here)) in
          rw here (rw apart at e)
      | inr away ↦
          elim (cases_Bool (b.name == m)) [
            | inl this ↦ rw (away, this) (first_after bs (rw this at e))
            | inr that ↦ rw (away, that) (next_after bs gone m n other stays (rw that at e))
          ]
    ]
  where
    first_after : (bs : List Block) → first_key (named bs) ≡ Some n → first_key (named (with_blocks (λ b. []) bs gone)) ≡ Some n
    first_after [] e = absurd (cc)
    first_after (c ∷ bs) e =
        let same : c.name ≡ n = cc in
        rw (ne_eqb c.name gone (λ is. stays (sym same ∙ is))) (ap Some same)

length-retargeted : (f : ℕ → ℕ) (o : Option Block) → length (block_items (option_map (retargeted_block f) o)) ≡ length (block_items o)
length-retargeted f None = refl
length-retargeted f (Some b) = length-map b.items (retargeted_item f)

term_before : (f : ℕ → ℕ) (o : Option Block) (t : Term) → block_term (option_map (retargeted_block f) o) ≡ Some t → (old : Term) × (block_term o ≡ Some old) × (retargeted_term f old ≡ t)
term_before f None t e = absurd (cc)
term_before f (Some b) t e = (b.term, refl, let same : retargeted_term f b.term ≡ t = cc in same)

some_before : (f : ℕ → ℕ) (o : Option Block) → is_some (option_map (retargeted_block f) o) ≡ true → is_some o ≡ true
some_before f None e = e
some_before f (Some b) e = refl

-- WHAT GOES

-- the rules hold once it went
pub bypassed_rules : (row : Row) (g : Graph) (n : ℕ) → IsGraph g → (d : IsBypassable row g n) → IsGraph (without_jump g n d.to)
bypassed_rules row g n rules d =
    elim d.way [
      | inl falls ↦ lone_fall_rules g n d.to rules d.jump falls.1
      | inr leads ↦ detour_rules g n d.to rules (leads_to leads.1)
    ]
  where
    leads_to : IsNamedDetour g n → IsDetourTo g n d.to
    leads_to named = detour_to g n named.detour.to d.to named.detour.leads d.jump

-- TWO LONE JUMPS

module _ (row : Row) (g : Graph) (gone : ℕ) (rules : IsGraph g) (d : IsBypassable row g gone) where
  abbrev to : ℕ
  to = d.to

  abbrev f : ℕ → ℕ
  f = swapped gone d.to

  abbrev h : Graph
  h = without_jump g gone d.to

  left : IsGraph h
  left = bypassed_rules row g gone rules d

  is_gone : block_of h gone ≡ None
  is_gone = gone_block (map (retargeted_block f) g.blocks) gone (lone_redirected g gone to d.jump rules).distinct

  block_left : (n : ℕ) → n ≢ gone → block_of h n ≡ option_map (retargeted_block f) (block_of g n)
  block_left n other = block_of-without (map (retargeted_block f) g.blocks) gone n other ∙ block_of-retargeted f g.blocks n

  there_still : (n : ℕ) → HasBlock h n → n ≢ gone
  there_still n has same = absurd (let none : is_some (block_of h n) ≡ false = ap (λ k. is_some (block_of h k)) same ∙ ap is_some is_gone in cc)

  kept : (n : ℕ) → n ≢ gone → f n ≡ n
  kept n other = ap (λ t. if t then to else n) (ne_eqb n gone other)

  next_left : (n next : ℕ) → n ≢ gone → next ≢ gone → next_of g n ≡ Some next → next_of h n ≡ Some next
  next_left n next other stays e = next_after (map (retargeted_block f) g.blocks) gone n next other stays (next-redirected g gone to n ∙ e)

  -- nothing goes on into the slot behind it but for what went on into it
  ends_before : (n before : ℕ) (was : Term) → n ≢ d.to → next_of g before ≡ Some gone → next_of g gone ≡ Some n → term_of g before ≡ Some was → goes_on was ≡ false
  ends_before n before was not_target into behind e =
      elim d.way [
        | inl falls ↦ absurd (not_target (let same : Some n ≡ Some d.to = sym behind ∙ falls.1 in cc))
        | inr leads ↦ leads.1.detour.leads.apart before was into e
      ]

  jump : (n target : ℕ) → n ≢ gone → target ≢ gone → jump_from g n ≡ Some target → jump_from h n ≡ Some target
  jump n target other stays e = ap lone_jump (block_left n other) ∙ lone_jump-retargeted f (block_of g n) ∙ ap (option_map f) e ∙ ap Some (kept target stays)

  module _ (n : ℕ) (other : n ≢ gone) (p : IsDetour g n) (target_other : p.to ≢ gone) (not_target : n ≢ d.to) where
    abbrev target : ℕ
    target = p.to

    jump_left : jump_from h n ≡ Some target
    jump_left = jump n target other target_other p.leads.jump

    apart : (before : ℕ) (term : Term) → next_of h before ≡ Some n → term_of h before ≡ Some term → goes_on term ≡ false
    apart before term next e =
        let here = there_still before (has_term h before term e) in
        let was = term_before f (block_of g before) term (sym (ap block_term (block_left before here)) ∙ e) in
        let same : goes_on term ≡ goes_on was.0 = sym (ap goes_on was.2) ∙ goes_on-retargeted f was.0 in
        same
        ∙ elim (next_before (map (retargeted_block f) g.blocks) gone before n here next) [
          | inl own ↦ p.leads.apart before was.0 (sym (next-redirected g gone to before) ∙ own) was.1
          | inr that ↦ ends_before n before was.0 not_target (sym (next-redirected g gone to before) ∙ that.0) (sym (next-redirected g gone to gone) ∙ that.1) was.1
        ]

    near : (from : ℕ) (cond : Cond) (a b : ℕ) → term_of h from ≡ Some (Branch cond a b n) → BranchReaches (without_jump h n target) from target
    near from cond a b e =
        let here = has_term h from (Branch cond a b n) e in
        let away = there_still from here in
        let was = retargeted_before f (block_of g from) cond a b n (sym (ap block_term (block_left from away)) ∙ e) in
        let branch : term_of g from ≡ Some (Branch cond a b n) = subst (λ k. term_of g from ≡ Some (Branch cond a b k)) (named_before was.0 was.2) was.1 in
        let reach : ReachesWithout g n from target = (detour_near g n from target cond a b p.leads.jump branch (jump_there g n target rules p.leads.jump) p.leads.other).0 (p.near from cond a b branch) in
        let same : length (items_of h from) ≡ length (items_of g from) = ap (λ o. length (block_items o)) (block_left from away) ∙ length-retargeted f (block_of g from) in
        (detour_near h n from target cond a b jump_left e (jump_there h n target left jump_left) p.leads.other).1
        (without_still g h from n target rules.distinct (detour_shrinks g gone to) left here jump_left (subst (λ k. ReachesBy (address_of g) k n from target) (sym same) reach))
      where
        named_before : (old : ℕ) → f old ≡ n → old ≡ n
        named_before old is =
            elim (cases_Bool (old == gone)) [
              | inl this ↦ absurd (not_target (sym is ∙ ap (λ t. if t then to else old) this))
              | inr that ↦ sym (ap (λ t. if t then to else old) that) ∙ is
            ]

    pub detour_still : IsDetour h n
    detour_still = record { to = target; leads = record { jump = jump_left; other = p.leads.other; apart = apart }; near = near }

-- LONE JUMPS THAT GO TOGETHER

pub listed_among : (xs : List ℕ) (n : ℕ) → is_listed xs n ≡ true → is_among xs n ≡ true
listed_among xs n e = among_listed xs n ∙ e

pub here_listed : (n : ℕ) (rest : List ℕ) → is_listed (n ∷ rest) n ≡ true
here_listed n rest = or_left (nat_eq n n) (is_listed rest n) (eq-eqb n n refl)

-- once the first went, the others go together still
module _ (row : Row) (g : Graph) (gone : ℕ) (rest : List ℕ) (rules : IsGraph g) (t : GoTogether row g (gone ∷ rest)) where
  pub first : IsBypassable row g gone
  first = t.go gone (here_listed gone rest)

  pub aside : is_listed (gone ∷ rest) first.to ≡ false
  aside = t.apart gone first.to (here_listed gone rest) first.jump

  module _ (n : ℕ) (listed : is_listed rest n ≡ true) where
    too : is_listed (gone ∷ rest) n ≡ true
    too = or_right (nat_eq n gone) (is_listed rest n) listed

    own : IsBypassable row g n
    own = t.go n too

    not_gone : n ≢ gone
    not_gone same = absurd (let none : is_listed rest n ≡ false = ap (is_listed rest) same ∙ t.once.0 in cc)

    -- where it leads
    aim_stays : (to : ℕ) → jump_from g n ≡ Some to → to ≢ gone
    aim_stays to e same = absurd (let none : is_listed (gone ∷ rest) gone ≡ false = ap (is_listed (gone ∷ rest)) (sym same) ∙ t.apart n to too e in let some = here_listed gone rest in cc)

    no_target : n ≢ first.to
    no_target same = absurd (let none : is_listed (gone ∷ rest) n ≡ false = ap (is_listed (gone ∷ rest)) same ∙ aside in let some : is_listed (gone ∷ rest) n ≡ true = too in cc)

    jump_still : jump_from (without_jump g gone first.to) n ≡ Some own.to
    jump_still = jump row g gone rules first n own.to not_gone (aim_stays own.to own.jump) own.jump

    pub term_still : term_of (without_jump g gone first.to) n ≡ term_of g n
    term_still =
        let h = without_jump g gone first.to in
        lone_term h n own.to (lone h n own.to jump_still) ∙ sym (lone_term g n own.to (lone g n own.to own.jump))

    named_still : IsNamedDetour g n → IsNamedDetour (without_jump g gone first.to) n
    named_still p = record {
      detour = detour_still row g gone rules first n not_gone p.detour (aim_stays p.detour.to p.detour.leads.jump) no_target;
      is_named = name_used g gone first.to rules first.jump n (ne_eqb first.to n (λ same. no_target (sym same))) (ne_eqb n gone not_gone) p.is_named;
    }

    still : IsBypassable row (without_jump g gone first.to) n
    still = record {
      to = own.to;
      jump = jump_still;
      other = own.other;
      way =
          elim own.way [
            | inl falls ↦ inl (falls.0, next_left row g gone rules first n own.to not_gone (aim_stays own.to own.jump) falls.1)
            | inr leads ↦ inr (leads.0, named_still leads.1)
          ];
    }

    apart_still : (to : ℕ) → jump_from (without_jump g gone first.to) n ≡ Some to → is_listed rest to ≡ false
    apart_still to e =
        let same : to ≡ own.to = let f : Some to ≡ Some own.to = sym e ∙ jump_still in cc in
        ap (is_listed rest) same ∙ (or_parts (nat_eq own.to gone) (is_listed rest own.to) (t.apart n own.to too own.jump)).1

  pub rest_together : GoTogether row (without_jump g gone first.to) rest
  rest_together = record { go = still; apart = λ n to listed. apart_still n listed to; once = t.once.1 }

-- WHICH BLOCKS ARE CHOSEN

pub next_bypassable : (g : Graph) (block : ℕ) → IsGraph g → is_some (jump_from g block) ≡ true → JumpsToNext g block → IsBypassable J1 g block
next_bypassable g block rules some j = by_target (jump_from g block) refl
  where
    by_target : (o : Option ℕ) → jump_from g block ≡ o → IsBypassable J1 g block
    by_target None is = absurd (let none : is_some (jump_from g block) ≡ false = ap is_some is in cc)
    by_target (Some to) is =
        let same : j.to ≡ to = let f : Some (Jump j.to) ≡ Some (Jump to) = sym j.jump ∙ lone_term g block to (lone g block to is) in cc in
        let slot : next_of g block ≡ Some to = j.next ∙ ap Some same in
        record { to = to; jump = is; other = next_other g block to rules is slot; way = inl (refl, slot) }

pub detour_bypassable : (g : Graph) (block : ℕ) → IsDetour g block → is_among (uses g) block ≡ true → IsBypassable J2 g block
detour_bypassable g block d named = record { to = d.to; jump = d.leads.jump; other = d.leads.other; way = inr (refl, record { detour = d; is_named = named }) }

alone_is : (block n : ℕ) → is_listed (block ∷ []) n ≡ true → n ≡ block
alone_is block n e = elim (or_cases (nat_eq n block) (is_listed [] n) e) [ inl here ↦ eqb-true n block here | inr none ↦ absurd (cc) ]

alone_not : (block n : ℕ) → n ≢ block → is_listed (block ∷ []) n ≡ false
alone_not block n other = rw (ne_eqb n block other) refl

once_more : (xs : List ℕ) (n : ℕ) → AreOnce xs → is_listed xs n ≡ false → AreOnce (xs ++ n ∷ [])
once_more [] n once none = (refl, tt)
once_more (x ∷ xs) n once none =
    let parts = or_parts (nat_eq n x) (is_listed xs n) none in
    let other : x ≢ n = λ same. absurd (let is : nat_eq n x ≡ true = eq-eqb n x (sym same) in let no = parts.0 in cc) in
    (is_listed-append xs (n ∷ []) x ∙ rw (once.0, alone_not n x other) refl, once_more xs n once.1 parts.1)

-- what comes of a call that went well
pub on_ok : {X : Type 0} (r : Result X Memory) (P Q : Type 0) → (P → Q) → OnOk r P → OnOk r Q
on_ok (Ok x) P Q leads p = leads p
on_ok (Err memory) P Q leads p = p

pub none_chosen : (row : Row) (g : Graph) (blocks gone aims : List ℕ) → blocks ≡ [] → gone ≡ [] → AreChosen row g blocks gone aims
none_chosen row g blocks gone aims no_blocks none =
    subst (λ bs. AreChosen row g bs gone aims) (sym no_blocks)
    (record {
      together = record { go = λ n e. absurd (cc); apart = λ n to e. absurd (cc); once = tt };
      listed = λ n. ap (λ ns. is_listed ns n) none;
      aimed = λ n to e. absurd (let no : is_listed gone n ≡ false = ap (λ ns. is_listed ns n) none in cc);
    })

module _ (row : Row) (g : Graph) (blocks more gone gone' aims aims' : List ℕ) (block to : ℕ) (c : AreChosen row g blocks gone aims) (goes : IsBypassable row g block) (too : IsFree g gone aims block to) (pushed : more ≡ blocks ++ block ∷ []) (set : Adds (block ∷ []) gone gone') (led : Adds (to ∷ []) aims aims') where
  more_is : (n : ℕ) → is_listed more n ≡ (is_listed blocks n || is_listed (block ∷ []) n)
  more_is n = ap (λ ns. is_listed ns n) pushed ∙ is_listed-append blocks (block ∷ []) n

  same : (n : ℕ) → is_listed gone' n ≡ is_listed more n
  same n = set.each n ∙ ap (λ t. t || is_listed (block ∷ []) n) (c.listed n) ∙ sym (more_is n)

  either : (n : ℕ) → is_listed more n ≡ true → (is_listed blocks n ≡ true) ⊎ (n ≡ block)
  either n e =
      elim (or_cases (is_listed blocks n) (is_listed (block ∷ []) n) (sym (more_is n) ∙ e)) [ inl old ↦ inl old | inr now ↦ inr (alone_is block n now) ]

  one_target : (k : ℕ) → jump_from g block ≡ Some k → k ≡ to
  one_target k e = let f : Some k ≡ Some to = sym e ∙ too.jump in cc

  not_itself : to ≢ block
  not_itself e =
      let target : to ≡ goes.to = let f : Some to ≡ Some goes.to = sym too.jump ∙ goes.jump in cc in
      goes.other (sym target ∙ e)

  apart_too : (n k : ℕ) → is_listed more n ≡ true → jump_from g n ≡ Some k → is_listed more k ≡ false
  apart_too n k e leads =
      more_is k
      ∙ elim (either n e) [
        | inl old ↦
            let none : is_listed blocks k ≡ false = c.together.apart n k old leads in
            let other : k ≢ block = λ s. absurd (let is : is_listed aims block ≡ true = ap (is_listed aims) (sym s) ∙ c.aimed n k (c.listed n ∙ old) leads in let no = too.no_aim in cc) in
            rw (none, alone_not block k other) refl
        | inr now ↦
            let is_to : k ≡ to = one_target k (ap (jump_from g) (sym now) ∙ leads) in
            let none : is_listed blocks k ≡ false = ap (is_listed blocks) is_to ∙ sym (c.listed to) ∙ too.stays in
            rw (none, alone_not block k (λ s. not_itself (sym is_to ∙ s))) refl
      ]

  pub chosen_more : AreChosen row g more gone' aims'
  chosen_more = record {
    together = record {
      go = λ n e. elim (either n e) [ inl old ↦ c.together.go n old | inr now ↦ subst (IsBypassable row g) (sym now) goes ];
      apart = apart_too;
      once = subst AreOnce (sym pushed) (once_more blocks block c.together.once (sym (c.listed block) ∙ too.is_new));
    };
    listed = same;
    aimed = λ n k e leads.
        led.each k
        ∙ elim (either n (sym (same n) ∙ e)) [
          | inl old ↦ or_left (is_listed aims k) (is_listed (to ∷ []) k) (c.aimed n k (c.listed n ∙ old) leads)
          | inr now ↦
              or_right (is_listed aims k) (is_listed (to ∷ []) k)
              (ap (is_listed (to ∷ [])) (one_target k (ap (jump_from g) (sym now) ∙ leads)) ∙ here_listed to [])
        ];
  }
