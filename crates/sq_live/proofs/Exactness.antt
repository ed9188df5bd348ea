-- The computed sets are exact: a register is in the set before a place exactly where it is live there.
use Rattle.std.proofs.Common.{◌≡◌, ℕ, zero, suc, ◌+◌, ◌<◌, ◌≤◌, ◌↔◌, inl, inr, ⊎_elim, Bool, true, false, not, ◌||◌, ◌&&◌, List, [], ◌∷◌, ◌++◌, map, drop, length, get_or, Option, Some, None, is_some, slice_get, refl, sym, ap, ◌∙◌, subst, arith}
use Rattle.std.specs.List.{Contains, All}
use Rattle.std.proofs.lemmas.Option.{slice_get_within, slice_get_past}
use Rattle.std.proofs.lemmas.List.Elements.{All-drop}
use Rattle.std.proofs.lemmas.Bool.{or_cases, or_right, and_parts, not-true}
use Rattle.std.proofs.Math.Bool.{or-false}
use Rattle.sq_isa.specs.Registers.{is_member, is_among_but_x0}
use Rattle.sq_graph.specs.declared.item.Item.{Item}
use Rattle.sq_graph.specs.declared.item.Term.{Term}
use Rattle.sq_graph.specs.declared.item.Term.TheVariants.{Fall, Jump, Branch, Call, PartJump, Indirect, Stop}
use Rattle.sq_graph.specs.Graph.{Block, Graph}
use Rattle.sq_graph.specs.Blocks.{HasBlock, block_items}
use Rattle.sq_graph.specs.Rules.{IsGraph}
use Rattle.sq_graph.specs.Lines.{Line, line_of, term_lines, body_lines, lines_of, block_lines, place_lines}
use Rattle.sq_graph.specs.Walks.{IsLive, read_here, live_behind, code_targets, is_register, term_sources, term_link}
use Rattle.sq_live.specs.declared.effect.Effect.{Effect}
use Rattle.sq_live.specs.Effects.{effect_reads, effect_writes, item_reads, item_writes, before_items, items_write, block_reads, block_writes, AreCalls, AreBlocks}
use Rattle.sq_live.specs.Exits.{position_in, listed, term_exits, next_node, exits_of}
use Rattle.sq_live.specs.Search.{list_at, Leads, read_in, leads_on}
use Rattle.sq_live.specs.Places.{any_member, before_term, AreInBlock, AreBlockPlaces}
use Rattle.sq_live.specs.Liveness.{IsLivenessOf, places_of}
use Rattle.sq_live.proofs.Sequences.{before_items-split}
use Rattle.sq_live.proofs.Searches.{contains_head}
use Rattle.sq_live.proofs.Ahead.{grows, no_sources, leads, ahead, items_ahead, term_ahead, covers, items_sound, IsThere}
use Rattle.sq_live.proofs.Nodes.{none_or_some, listed_cases, contains_right, nodes_contains, nodes_come, drop_suc, get_drop, names_in, IsFound, IsLaidOut, IsSolved, names_count, at_block, at_nothing, block_rest, exits_at, exits_of_targets, position_below, exits_there, there}

-- facts on one register
module _ (g : Graph) (names : List ℕ) (at : ℕ → Option ℕ) (calls effects : List Effect) (exits : List (List ℕ)) (nodes : List ℕ) (s : IsSolved g names at calls effects exits nodes) (r : ℕ) (above : 0 < r) (small : r < 32) where
  -- whether r is in the set of a node
  abbrev has : ℕ → Bool
  has k = is_member (get_or nodes k 0) r

  abbrev value : Option ℕ → Bool
  value None = false
  value (Some k) = has k

  abbrev X : ℕ → Bool
  X m = value (at m)

  abbrev T : Bool
  T = has (length names)

  any_listed : (a b : Option ℕ) → any_member nodes (listed a b) r ≡ (value a || value b)
  any_listed None None = refl
  any_listed None (Some k) = or-false (has k)
  any_listed (Some j) None = refl
  any_listed (Some j) (Some k) = ap (λ b. has j || b) (or-false (has k))

  abbrev goes : Term → Bool → Bool
  goes t next = leads g calls r small s.laid.calls_are s.laid.rules.procedures X T t next

  any_exit : (t : Term) (next : Option ℕ) → any_member nodes (term_exits at (length names) next t) r ≡ goes t (value next)
  any_exit Fall next = any_listed next None ∙ or-false (value next)
  any_exit (Jump to) next = any_listed (at to) None ∙ or-false (X to)
  any_exit (Branch cond a b to) next = any_listed (at to) next
  any_exit (Call link to) next = any_listed (at to) None ∙ or-false (X to)
  any_exit (PartJump link part to) next = any_listed (at to) None ∙ or-false (X to)
  any_exit (Indirect link x offset) next = any_listed (Some (length names)) None ∙ or-false T
  any_exit (Stop word) next = any_listed None None

  goes_up : (t : Term) (a b : Bool) → (a ≡ true → b ≡ true) → goes t a ≡ true → goes t b ≡ true
  goes_up Fall a b h e = h e
  goes_up (Jump to) a b h e = e
  goes_up (Branch cond x y to) a b h e = ⊎_elim (λ (f : X to ≡ true). rw f refl) (λ (f : a ≡ true). or_right (X to) b (h f)) (or_cases (X to) a e)
  goes_up (Call link to) a b h e = e
  goes_up (PartJump link part to) a b h e = e
  goes_up (Indirect link x offset) a b h e = e
  goes_up (Stop word) a b h e = e

  before_up : (items : List Item) (a b : Bool) → (a ≡ true → b ≡ true) → before_items calls items a r ≡ true → before_items calls items b r ≡ true
  before_up [] a b h e = h e
  before_up (x ∷ items) a b h e =
      grows (item_reads calls x r) (item_writes calls x r) (before_items calls items a r) (before_items calls items b r) (before_up items a b h) e

  -- a node that one of these is
  any_comes : (list : List ℕ) → any_member nodes list r ≡ true → (to : ℕ) × (Contains list to × (has to ≡ true))
  any_comes [] e = absurd (cc)
  any_comes (to ∷ list) e =
      ⊎_elim (λ (f : has to ≡ true). (to, (contains_head to list, f)))
      (λ (f : any_member nodes list r ≡ true). let d = any_comes list f in (d.0, (contains_right (to ∷ []) list d.0 d.1.0, d.1.1)))
      (or_cases (has to) (any_member nodes list r) e)

  to_leads : (k : ℕ) → k < length effects → has k ≡ true → Leads effects exits r k
  to_leads k within e = (s.nodes_are k r within above small).0 e

  from_leads : (k : ℕ) → k < length effects → Leads effects exits r k → has k ≡ true
  from_leads k within l = (s.nodes_are k r within above small).1 l

  -- SOUNDNESS: what leads to a read has the register live

  record IsSoundAt (k : ℕ) : Type 0 where
    block : (b : Block) (back : List Block) → drop k g.blocks ≡ b ∷ back → IsLive g r (body_lines b (lines_of back))
    target : k ≡ length names → (m : ℕ) × (Contains (code_targets g) m × IsLive g r (block_lines g m))

  to_block : (m to : ℕ) → at m ≡ Some to → IsSoundAt to → IsLive g r (block_lines g m)
  to_block m to e p =
      let f = at_block g names at calls effects exits s.laid m to e in
      subst (IsLive g r) (sym f.lines) (p.block f.block f.back (block_rest g names at calls effects exits s.laid m to f))

  to_slot : (k to : ℕ) (back : List Block) → drop (k + 1) g.blocks ≡ back → next_node k back ≡ Some to → IsSoundAt to → IsLive g r (lines_of back)
  to_slot k to [] e h p = absurd (cc)
  to_slot k to (b ∷ back) e h p =
      let same : k + 1 ≡ to = let f : Some (k + 1) ≡ Some to = h in cc in
      live_behind refl refl (p.block b back (ap (λ i. drop i g.blocks) (sym same) ∙ e))

  no_node : {A : Type 0} (to : ℕ) → None ≡ Some to → A
  no_node to e = absurd (let f : None ≡ Some to = e in cc)

  exit_sound : (t : Term) (k to : ℕ) (back : List Block) → drop (k + 1) g.blocks ≡ back → is_register (term_link t) r ≡ false → Contains (term_exits at (length names) (next_node k back) t) to → IsSoundAt to → IsLive g r (term_lines t (lines_of back))
  exit_sound Fall k to back e w c p =
      ⊎_elim (λ (f : next_node k back ≡ Some to). to_slot k to back e f p) (λ (f : None ≡ Some to). no_node to f) (listed_cases (next_node k back) None to c)
  exit_sound (Jump m) k to back e w c p =
      ⊎_elim (λ (f : at m ≡ Some to). live_behind w refl (to_block m to f p)) (λ (f : None ≡ Some to). no_node to f) (listed_cases (at m) None to c)
  exit_sound (Branch cond a b m) k to back e w c p =
      ⊎_elim (λ (f : at m ≡ Some to). live_behind w (inl refl) (to_block m to f p)) (λ (f : next_node k back ≡ Some to). live_behind w (inr refl) (to_slot k to back e f p)) (listed_cases (at m) (next_node k back) to c)
  exit_sound (Call link m) k to back e w c p =
      ⊎_elim (λ (f : at m ≡ Some to). live_behind w refl (to_block m to f p)) (λ (f : None ≡ Some to). no_node to f) (listed_cases (at m) None to c)
  exit_sound (PartJump link part m) k to back e w c p =
      ⊎_elim (λ (f : at m ≡ Some to). live_behind w refl (to_block m to f p)) (λ (f : None ≡ Some to). no_node to f) (listed_cases (at m) None to c)
  exit_sound (Indirect link x offset) k to back e w c p =
      ⊎_elim
      (λ (f : Some (length names) ≡ Some to).
      let same : length names ≡ to = cc in
      let t = p.target (sym same) in
      live_behind w (t.0, t.1.0, refl) t.1.1)
      (λ (f : None ≡ Some to). no_node to f) (listed_cases (Some (length names)) None to c)
  exit_sound (Stop word) k to back e w c p =
      ⊎_elim (λ (f : None ≡ Some to). no_node to f) (λ (f : None ≡ Some to). no_node to f) (listed_cases None None to c)

  source_sound : (t : Term) (rest : List Line) → is_among_but_x0 (term_sources t) r ≡ true → IsLive g r (term_lines t rest)
  source_sound Fall rest e = absurd (let f = sym e ∙ no_sources r in cc)
  source_sound (Jump to) rest e = read_here e
  source_sound (Branch cond a b to) rest e = read_here e
  source_sound (Call link to) rest e = read_here e
  source_sound (PartJump link part to) rest e = read_here e
  source_sound (Indirect link x offset) rest e = read_here e
  source_sound (Stop word) rest e = read_here e

  items_live : (k : ℕ) (b : Block) (items : List Item) (y : Bool) (rest : List Line) → All (IsThere g) items → (y ≡ true → IsLive g r rest) → before_items calls items y r ≡ true → IsLive g r (map line_of items ++ rest)
  items_live k b items y rest h live e = items_sound g calls r small s.laid.calls_are s.laid.rules.procedures items y rest h live e

  both_false : (a b : Bool) → (a || b) ≡ false → (a ≡ false) × (b ≡ false)
  both_false true b e = absurd (cc)
  both_false false b e = (refl, e)

  no_block : {A : Type 0} (k : ℕ) → k ≡ length names → (b : Block) → slice_get g.blocks k ≡ Some b → A
  no_block k e b f =
      absurd (let lt = slice_get_within g.blocks k b f in let same = names_count g names at calls effects exits s.laid in omega arith)

  past_block : (k : ℕ) → k ≡ length names → slice_get g.blocks k ≡ None
  past_block k e = slice_get_past g.blocks k (let same = names_count g names at calls effects exits s.laid in omega arith)

  sound_at : {k : ℕ} → Leads effects exits r k → IsSoundAt k
  sound_at (read_in {k = k} e) = record {
    block = λ b back rest.
        let here = get_drop g.blocks k b back rest in
        let reads : block_reads calls (Some b) r ≡ true = sym ((s.laid.effects_are k r small).0 ∙ ap (λ o. block_reads calls o r) here) ∙ e in
        items_live k b b.items (is_among_but_x0 (term_sources b.term) r) (term_lines b.term (lines_of back)) (there g names at calls effects exits s.laid k b here)
        (source_sound b.term (lines_of back)) (before_items-split calls b.items (is_among_but_x0 (term_sources b.term) r) r ∙ reads);
    target = λ last.
        absurd (let f : false ≡ true = sym ((s.laid.effects_are k r small).0 ∙ ap (λ o. block_reads calls o r) (past_block k last)) ∙ e in cc);
  }
  sound_at (leads_on {k = k} {to = to} w c h) = let p = sound_at h in record {
    block = λ b back rest.
        let here = get_drop g.blocks k b back rest in
        let free = both_false (items_write calls b.items r) (is_register (term_link b.term) r) (sym ((s.laid.effects_are k r small).1 ∙ ap (λ o. block_writes calls o r) here) ∙ w) in
        let exit = subst (λ xs. Contains xs to) (exits_at g names at calls effects exits s.laid k b back rest) c in
        let live = exit_sound b.term k to back (drop_suc g.blocks k b back rest) free.1 exit p in
        items_live k b b.items true (term_lines b.term (lines_of back)) (there g names at calls effects exits s.laid k b here) (λ t. live)
        (before_items-split calls b.items true r ∙ rw free.0 (or_right (before_items calls b.items false r) true refl));
    target = λ last.
        let d = subst (λ xs. Contains xs to) (ap (list_at exits) last ∙ exits_of_targets g names at calls effects exits s.laid) c in
        let m = nodes_come at (code_targets g) to d in
        (m.0, (m.1.0, to_block m.0 to m.1.1 p));
  }

  -- what is behind a term
  term_sound : (k : ℕ) (b : Block) (back : List Block) → drop k g.blocks ≡ b ∷ back → before_term b nodes (list_at exits k) r ≡ true → IsLive g r (term_lines b.term (lines_of back))
  term_sound k b back rest e =
      ⊎_elim (λ (f : is_among_but_x0 (term_sources b.term) r ≡ true). source_sound b.term (lines_of back) f)
      (λ (f : (not (is_register (term_link b.term) r) && any_member nodes (list_at exits k) r) ≡ true).
      let d = and_parts (not (is_register (term_link b.term) r)) (any_member nodes (list_at exits k) r) f in
      let to = any_comes (list_at exits k) d.1 in
      let within = exits_there g names at calls effects exits s.laid k to.0 to.1.0 in
      let p = sound_at (to_leads to.0 within to.1.1) in
      exit_sound b.term k to.0 back (drop_suc g.blocks k b back rest) (not-true (is_register (term_link b.term) r) d.0) (subst (λ xs. Contains xs to.0) (exits_at g names at calls effects exits s.laid k b back rest) to.1.0) p)
      (or_cases (is_among_but_x0 (term_sources b.term) r) (not (is_register (term_link b.term) r) && any_member nodes (list_at exits k) r) e)

  -- COMPLETENESS

  abbrev live_lines : List Line → Bool
  live_lines lines = ahead g calls r small s.laid.calls_are s.laid.rules.procedures X T lines

  -- before a term, by what follows the block
  term_goes : (k : ℕ) (b : Block) (back : List Block) (next : Bool) → drop k g.blocks ≡ b ∷ back → (next ≡ true → value (next_node k back) ≡ true) → (is_among_but_x0 (term_sources b.term) r || (not (is_register (term_link b.term) r) && goes b.term next)) ≡ true → before_term b nodes (list_at exits k) r ≡ true
  term_goes k b back next rest h e =
      grows (is_among_but_x0 (term_sources b.term) r) (is_register (term_link b.term) r) (goes b.term next) (any_member nodes (list_at exits k) r)
      (λ f. ap (λ xs. any_member nodes xs r) (exits_at g names at calls effects exits s.laid k b back rest) ∙ any_exit b.term (next_node k back) ∙ goes_up b.term next (value (next_node k back)) h f) e

  block_within : (k : ℕ) (b : Block) → slice_get g.blocks k ≡ Some b → k < length effects
  block_within k b e = let lt = slice_get_within g.blocks k b e in let same = names_count g names at calls effects exits s.laid in let size = s.laid.effects_count in omega arith

  closes_block : (k : ℕ) (b : Block) (back : List Block) → drop k g.blocks ≡ b ∷ back → before_items calls b.items (before_term b nodes (list_at exits k) r) r ≡ true → has k ≡ true
  closes_block k b back rest e =
      let here = get_drop g.blocks k b back rest in
      let within = block_within k b here in
      let R = before_items calls b.items false r in
      let W = items_write calls b.items r in
      let S = is_among_but_x0 (term_sources b.term) r in
      let link = is_register (term_link b.term) r in
      let reads : effect_reads (slice_get effects k) r ≡ block_reads calls (Some b) r = (s.laid.effects_are k r small).0 ∙ ap (λ o. block_reads calls o r) here in
      let writes : effect_writes (slice_get effects k) r ≡ block_writes calls (Some b) r = (s.laid.effects_are k r small).1 ∙ ap (λ o. block_writes calls o r) here in
      from_leads k within
      (⊎_elim
      (λ (f : R ≡ true). read_in (reads ∙ rw f refl))
      (λ (f : (not W && before_term b nodes (list_at exits k) r) ≡ true).
      let d = and_parts (not W) (before_term b nodes (list_at exits k) r) f in
      ⊎_elim
      (λ (a : S ≡ true). read_in (reads ∙ rw (not-true W d.0, a) (or_right R true refl)))
      (λ (a : (not link && any_member nodes (list_at exits k) r) ≡ true).
      let c = and_parts (not link) (any_member nodes (list_at exits k) r) a in
      let to = any_comes (list_at exits k) c.1 in
      leads_on (writes ∙ rw (not-true W d.0, not-true link c.0) refl) to.1.0
      (to_leads to.0 (exits_there g names at calls effects exits s.laid k to.0 to.1.0) to.1.1))
      (or_cases S (not link && any_member nodes (list_at exits k) r) d.1))
      (or_cases R (not W && before_term b nodes (list_at exits k) r) (sym (before_items-split calls b.items (before_term b nodes (list_at exits k) r) r) ∙ e)))

  abbrev first_node : ℕ → List Block → Option ℕ
  first_node k [] = None
  first_node k (b ∷ back) = Some k

  next_is_first : (k : ℕ) (back : List Block) → first_node (k + 1) back ≡ next_node k back
  next_is_first k [] = refl
  next_is_first k (b ∷ back) = refl

  closes : (blocks : List Block) (k : ℕ) → drop k g.blocks ≡ blocks → live_lines (lines_of blocks) ≡ true → value (first_node k blocks) ≡ true
  closes [] k rest e = absurd (cc)
  closes (b ∷ back) k rest e =
      let behind : live_lines (lines_of back) ≡ true → value (next_node k back) ≡ true =
      λ f. ap value (sym (next_is_first k back)) ∙ closes back (k + 1) (drop_suc g.blocks k b back rest) f in
      let whole = sym (items_ahead g calls r small s.laid.calls_are s.laid.rules.procedures X T b.items (term_lines b.term (lines_of back))) ∙ e in
      closes_block k b back rest
      (before_up b.items (live_lines (term_lines b.term (lines_of back))) (before_term b nodes (list_at exits k) r)
      (λ f. term_goes k b back (live_lines (lines_of back)) rest behind (sym (term_ahead g calls r small s.laid.calls_are s.laid.rules.procedures X T b.term (lines_of back)) ∙ f))
      whole)

  closed : (m : ℕ) → live_lines (block_lines g m) ≡ true → X m ≡ true
  closed m e =
      ⊎_elim
      (λ (f : at m ≡ None). absurd (let z = sym (ap live_lines (at_nothing g names at calls effects exits s.laid m f).1) ∙ e in cc))
      (λ (f : (k : ℕ) × (at m ≡ Some k)).
      let b = at_block g names at calls effects exits s.laid m f.0 f.1 in
      let here = sym (ap live_lines b.lines) ∙ e in
      ap value f.1 ∙ closes (b.block ∷ b.back) f.0 (block_rest g names at calls effects exits s.laid m f.0 b) here)
      (none_or_some (at m))

  targets : (m : ℕ) → Contains (code_targets g) m → X m ≡ true → T ≡ true
  targets m c e =
      ⊎_elim
      (λ (f : at m ≡ None). absurd (let z = sym (ap value f) ∙ e in cc))
      (λ (f : (k : ℕ) × (at m ≡ Some k)).
      let size = s.laid.effects_count in
      let below = position_below g names at calls effects exits s.laid m f.0 f.1 in
      let writes : effect_writes (slice_get effects (length names)) r ≡ false = (s.laid.effects_are (length names) r small).1 ∙ ap (λ o. block_writes calls o r) (past_block (length names) refl) in
      let edge : Contains (list_at exits (length names)) f.0 = subst (λ xs. Contains xs f.0) (sym (exits_of_targets g names at calls effects exits s.laid)) (nodes_contains at (code_targets g) m f.0 c f.1) in
      from_leads (length names) (omega arith) (leads_on writes edge (to_leads f.0 (omega arith) (sym (ap value f.1) ∙ e))))
      (none_or_some (at m))

  drop_lines : (items : List Item) (p : ℕ) (rest : List Line) → p ≤ length items → drop p (map line_of items ++ rest) ≡ map line_of (drop p items) ++ rest
  drop_lines items zero rest h = refl
  drop_lines [] (suc p) rest h = absurd (omega arith)
  drop_lines (x ∷ items) (suc p) rest h = drop_lines items p rest (omega arith)

  -- EXACTNESS, at the places of a block that stands at a position
  pub place_exact : (m k p set : ℕ) (f : IsFound g.blocks 0 m k) → p ≤ length f.block.items → is_member set r ≡ before_items calls (drop p f.block.items) (before_term f.block nodes (list_at exits k) r) r → (is_member set r ≡ true) ↔ IsLive g r (place_lines g m p)
  place_exact m k p set f within e =
      let b = f.block in
      let back = f.back in
      let rest = block_rest g names at calls effects exits s.laid m k f in
      let here = get_drop g.blocks k b back rest in
      let items = drop p b.items in
      let lines : place_lines g m p ≡ map line_of items ++ term_lines b.term (lines_of back) = ap (drop p) f.lines ∙ drop_lines b.items p (term_lines b.term (lines_of back)) within in (
        λ member.
            subst (IsLive g r) (sym lines)
            (items_live k b items (before_term b nodes (list_at exits k) r) (term_lines b.term (lines_of back))
            (All-drop (IsThere g) p b.items (there g names at calls effects exits s.laid k b here))
            (term_sound k b back rest) (sym e ∙ member)),
        λ live.
            let computed = covers g calls r small s.laid.calls_are s.laid.rules.procedures X T closed targets (subst (IsLive g r) lines live) in
            let split = sym (items_ahead g calls r small s.laid.calls_are s.laid.rules.procedures X T items (term_lines b.term (lines_of back))) ∙ computed in
            e
            ∙ before_up items (live_lines (term_lines b.term (lines_of back))) (before_term b nodes (list_at exits k) r)
            (λ t. term_goes k b back (live_lines (lines_of back)) rest (λ u. ap value (sym (next_is_first k back)) ∙ closes back (k + 1) (drop_suc g.blocks k b back rest) u)
            (sym (term_ahead g calls r small s.laid.calls_are s.laid.rules.procedures X T b.term (lines_of back)) ∙ t))
            split,
      )

module _ (g : Graph) (names : List ℕ) (at : ℕ → Option ℕ) (calls effects : List Effect) (exits : List (List ℕ)) (nodes : List ℕ) (s : IsSolved g names at calls effects exits nodes) (places : ℕ → List ℕ) (p : AreBlockPlaces calls exits nodes g.blocks places) where
  position : (m : ℕ) → HasBlock g m → (k : ℕ) × (at m ≡ Some k)
  position m h =
      ⊎_elim
      (λ (e : at m ≡ None). absurd (let z = sym (ap is_some (at_nothing g names at calls effects exits s.laid m e).0) ∙ h in cc))
      (λ (e : (k : ℕ) × (at m ≡ Some k)). e)
      (none_or_some (at m))

  in_block : (m k : ℕ) (f : IsFound g.blocks 0 m k) → AreInBlock calls nodes (list_at exits k) f.block (places m)
  in_block m k f =
      subst (λ n. AreInBlock calls nodes (list_at exits k) f.block (places n)) f.name
      (p k f.block (get_drop g.blocks k f.block f.back (ap (λ i. drop i g.blocks) (let q = f.position in omega arith) ∙ f.rest)))

  pub exact_liveness : (live : List (ℕ × List ℕ)) → ((m : ℕ) → places_of live m ≡ places m) → IsLivenessOf g live
  exact_liveness live is = record {
    count = λ m h.
        let k = position m h in
        let f = at_block g names at calls effects exits s.laid m k.0 k.1 in
        let b = in_block m k.0 f in
        ap length (is m) ∙ b.count ∙ ap (λ o. length (block_items o) + 1) (sym f.value);
    exact = λ m place r h within above small.
        let k = position m h in
        let f = at_block g names at calls effects exits s.laid m k.0 k.1 in
        let b = in_block m k.0 f in
        let fits : place ≤ length f.block.items = subst (λ o. place ≤ length (block_items o)) f.value within in
        let set : is_member (get_or (places_of live m) place 0) r ≡ before_items calls (drop place f.block.items) (before_term f.block nodes (list_at exits k.0) r) r =
        ap (λ xs. is_member (get_or xs place 0) r) (is m) ∙ b.live place r fits small in
        place_exact g names at calls effects exits nodes s r above small m k.0 place (get_or (places_of live m) place 0) f fits set;
  }

-- what the parts of the analysis say, put together
pub lay_out : (g : Graph) (names n1 n2 : List ℕ) (at : ℕ → Option ℕ) (calls c3 effects : List Effect) → IsGraph g → names ≡ names_in g.blocks
    → n1 ≡ names → n2 ≡ names → c3 ≡ calls
    → ((m : ℕ) → at m ≡ position_in n1 0 m) → AreCalls g.procedures calls → AreBlocks c3 g.blocks effects → length effects ≡ length n2 + 1
    → IsLaidOut g names at calls effects (exits_of at (length names) g)
lay_out g names n1 n2 at calls c3 effects rules are e1 e2 f3 positions called blocks size = record {
  rules = rules;
  names_are = are;
  at_is = λ m. positions m ∙ ap (λ ns. position_in ns 0 m) e1;
  calls_are = called;
  effects_are = subst (λ cs. AreBlocks cs g.blocks effects) f3 blocks;
  effects_count = size ∙ ap (λ ns. length ns + 1) e2;
  exits_are = refl;
}
