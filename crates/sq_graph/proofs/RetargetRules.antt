-- Other names keep the rules of a graph.
use Rattle.std.proofs.Common.{◌≡◌, ℕ, false, List, [], ◌∷◌, ◌++◌, map, refl, sym, ap, ◌∙◌, subst, arith}
use Rattle.std.proofs.lemmas.List.{map-append, length-map}
use Rattle.std.proofs.lemmas.List.Elements.{All-map, All-weaker}
use Rattle.std.specs.List.{All, flat_map}
use Rattle.std.specs.List.Sorted.{IsStrictlyIncreasing}
use Rattle.sq_arena.specs.Entries.{HasDistinctKeys}
use Rattle.sq_graph.specs.declared.item.Item.{Item}
use Rattle.sq_graph.specs.declared.item.Item.TheVariants.{Op, Hi, Lo, Out}
use Rattle.sq_graph.specs.declared.item.Term.{Term}
use Rattle.sq_graph.specs.declared.item.Term.TheVariants.{Fall, Jump, Branch, Call, PartJump, Indirect, Stop}
use Rattle.sq_graph.specs.declared.parts.CodeRef.{CodeRef}
use Rattle.sq_graph.specs.Graph.{Block, Procedure, Graph}
use Rattle.sq_graph.specs.Terms.{goes_on}
use Rattle.sq_graph.specs.Blocks.{named, HasBlock, HasProcedure, items_of_blocks, items_of_bodies, all_items}
use Rattle.sq_graph.specs.Uses.{item_uses, items_uses, term_uses, terms_uses, code_word_uses, uses, item_calls, calls}
use Rattle.sq_graph.specs.Rules.{IsGraph, ItemFits, TermFits, ProcedureFits, mentions, last_goes_on}
use Rattle.sq_graph.specs.Renames.{retargeted_item, retargeted_items, retargeted_term, retargeted_block, retargeted_procedure, retargeted_words, retargeted}
use Rattle.sq_graph.proofs.MapWrites.{items_of_bodies-mapped}

module _ (f : ℕ → ℕ) (nm : Block → ℕ) where
  -- the block with other uses, and with this name
  abbrev pub other_block : Block → Block
  other_block b = record (retargeted_block f b) { name = nm b }

  abbrev pub other_graph : Graph → Graph
  other_graph g = record (retargeted f g) { blocks = map other_block g.blocks }

  pub items_of_blocks-other : (bs : List Block) → items_of_blocks (map other_block bs) ≡ retargeted_items f (items_of_blocks bs)
  items_of_blocks-other [] = refl
  items_of_blocks-other (b ∷ bs) = ap (λ is. retargeted_items f b.items ++ is) (items_of_blocks-other bs) ∙ sym (map-append (retargeted_item f) b.items (items_of_blocks bs))

  pub all_items-other : (g : Graph) → all_items (other_graph g) ≡ retargeted_items f (all_items g)
  all_items-other g =
      ap (λ is. is ++ items_of_bodies (map (retargeted_procedure f) g.procedures)) (items_of_blocks-other g.blocks)
      ∙ ap (λ is. retargeted_items f (items_of_blocks g.blocks) ++ is) (items_of_bodies-mapped (retargeted_item f) (λ t. t) g.procedures)
      ∙ sym (map-append (retargeted_item f) (items_of_blocks g.blocks) (items_of_bodies g.procedures))

  item_uses-other : (item : Item) → item_uses (retargeted_item f item) ≡ map f (item_uses item)
  item_uses-other (Op insn) = refl
  item_uses-other (Hi rd to) = refl
  item_uses-other (Lo rd rs to) = refl
  item_uses-other (Out p) = refl

  pub items_uses-other : (is : List Item) → items_uses (retargeted_items f is) ≡ map f (items_uses is)
  items_uses-other [] = refl
  items_uses-other (item ∷ is) = ap (λ us. us ++ items_uses (retargeted_items f is)) (item_uses-other item) ∙ ap (λ us. map f (item_uses item) ++ us) (items_uses-other is) ∙ sym (map-append f (item_uses item) (items_uses is))

  pub term_uses-other : (t : Term) → term_uses (retargeted_term f t) ≡ map f (term_uses t)
  term_uses-other Fall = refl
  term_uses-other (Jump to) = refl
  term_uses-other (Branch c a b to) = refl
  term_uses-other (Call link to) = refl
  term_uses-other (PartJump link part to) = refl
  term_uses-other (Indirect link at offset) = refl
  term_uses-other (Stop word) = refl

  pub terms_uses-other : (bs : List Block) → terms_uses (map other_block bs) ≡ map f (terms_uses bs)
  terms_uses-other [] = refl
  terms_uses-other (b ∷ bs) = ap (λ us. us ++ terms_uses (map other_block bs)) (term_uses-other b.term) ∙ ap (λ us. map f (term_uses b.term) ++ us) (terms_uses-other bs) ∙ sym (map-append f (term_uses b.term) (terms_uses bs))

  pub code_word_uses-other : (ws : List CodeRef) → code_word_uses (retargeted_words f ws) ≡ map f (code_word_uses ws)
  code_word_uses-other [] = refl
  code_word_uses-other (w ∷ ws) = ap (λ us. f w.block ∷ us) (code_word_uses-other ws)

  pub uses-other : (g : Graph) → uses (other_graph g) ≡ map f (uses g)
  uses-other g =
      ap (λ us. f g.entry ∷ us)
      (ap (λ us. us ++ (terms_uses (map other_block g.blocks) ++ items_uses (all_items (other_graph g)))) (code_word_uses-other g.code_words)
      ∙ ap (λ us. map f (code_word_uses g.code_words) ++ (us ++ items_uses (all_items (other_graph g)))) (terms_uses-other g.blocks)
      ∙ ap (λ us. map f (code_word_uses g.code_words) ++ (map f (terms_uses g.blocks) ++ us)) (ap items_uses (all_items-other g) ∙ items_uses-other (all_items g))
      ∙ ap (λ us. map f (code_word_uses g.code_words) ++ us) (sym (map-append f (terms_uses g.blocks) (items_uses (all_items g))))
      ∙ sym (map-append f (code_word_uses g.code_words) (terms_uses g.blocks ++ items_uses (all_items g))))

  item_calls-other : (item : Item) → item_calls (retargeted_item f item) ≡ item_calls item
  item_calls-other (Op insn) = refl
  item_calls-other (Hi rd to) = refl
  item_calls-other (Lo rd rs to) = refl
  item_calls-other (Out p) = refl

  items_calls-other : (is : List Item) → flat_map item_calls (retargeted_items f is) ≡ flat_map item_calls is
  items_calls-other [] = refl
  items_calls-other (item ∷ is) = ap (λ ps. ps ++ flat_map item_calls (retargeted_items f is)) (item_calls-other item) ∙ ap (λ ps. item_calls item ++ ps) (items_calls-other is)

  item_fits : (item : Item) → ItemFits item → ItemFits (retargeted_item f item)
  item_fits (Op insn) fits = fits
  item_fits (Hi rd to) fits = fits
  item_fits (Lo rd rs to) fits = fits
  item_fits (Out p) fits = fits

  pub term_fits : (t : Term) → TermFits t → TermFits (retargeted_term f t)
  term_fits Fall fits = fits
  term_fits (Jump to) fits = fits
  term_fits (Branch c a b to) fits = fits
  term_fits (Call link to) fits = fits
  term_fits (PartJump link part to) fits = fits
  term_fits (Indirect link at offset) fits = fits
  term_fits (Stop word) fits = fits

  mentions-other : (item : Item) (r : ℕ) → mentions (retargeted_item f item) r ≡ mentions item r
  mentions-other (Op insn) r = refl
  mentions-other (Hi rd to) r = refl
  mentions-other (Lo rd rs to) r = refl
  mentions-other (Out p) r = refl

  pub goes_on-other : (t : Term) → goes_on (retargeted_term f t) ≡ goes_on t
  goes_on-other Fall = refl
  goes_on-other (Jump to) = refl
  goes_on-other (Branch c a b to) = refl
  goes_on-other (Call link to) = refl
  goes_on-other (PartJump link part to) = refl
  goes_on-other (Indirect link at offset) = refl
  goes_on-other (Stop word) = refl

  ends-other : (bs : List Block) → last_goes_on (map other_block bs) ≡ last_goes_on bs
  ends-other [] = refl
  ends-other (b ∷ []) = goes_on-other b.term
  ends-other (b ∷ next ∷ bs) = ends-other (next ∷ bs)

  pub addresses-other : (ws : List CodeRef) → map (λ w. w.at) (retargeted_words f ws) ≡ map (λ w. w.at) ws
  addresses-other [] = refl
  addresses-other (w ∷ ws) = ap (λ ats. w.at ∷ ats) (addresses-other ws)

  procedure_fits : (p : Procedure) → ProcedureFits p → ProcedureFits (retargeted_procedure f p)
  procedure_fits p fits = record {
    register = fits.register;
    link = fits.link;
    no_calls = All-map {X = Item} (λ item. item_calls item ≡ []) (retargeted_item f) p.body (All-weaker {X = Item} (λ item. item_calls item ≡ []) (λ item. item_calls (retargeted_item f item) ≡ []) (λ item none. item_calls-other item ∙ none) p.body fits.no_calls);
    no_mention = All-map {X = Item} (λ item. mentions item p.link ≡ false) (retargeted_item f) p.body (All-weaker {X = Item} (λ item. mentions item p.link ≡ false) (λ item. mentions (retargeted_item f item) p.link ≡ false) (λ item none. mentions-other item p.link ∙ none) p.body fits.no_mention);
  }

  pub other_rules : (g : Graph) → IsGraph g → HasDistinctKeys (named (map other_block g.blocks)) → ((k : ℕ) → HasBlock g k → HasBlock (other_graph g) (f k)) → IsGraph (other_graph g)
  other_rules g rules distinct kept =
      let items = all_items-other g in
      record {
        distinct = distinct;
        named_all = subst (λ us. All (HasBlock (other_graph g)) us) (sym (uses-other g)) (All-map (HasBlock (other_graph g)) f (uses g) (All-weaker (HasBlock g) (λ k. HasBlock (other_graph g) (f k)) kept (uses g) rules.named_all));
        called_all = subst (λ ps. All (HasProcedure (other_graph g)) ps) (sym (ap (flat_map item_calls) items ∙ items_calls-other (all_items g))) (All-weaker (HasProcedure g) (HasProcedure (other_graph g)) (λ k there. omega (arith, there, length-map g.procedures (retargeted_procedure f))) (calls g) rules.called_all);
        ends = ends-other g.blocks ∙ rules.ends;
        code_words = subst (λ ats. IsStrictlyIncreasing ats) (sym (addresses-other g.code_words)) rules.code_words;
        items = subst (λ (is : List Item). All ItemFits is) (sym items) (All-map ItemFits (retargeted_item f) (all_items g) (All-weaker ItemFits (λ item. ItemFits (retargeted_item f item)) item_fits (all_items g) rules.items));
        terms = All-map {X = Block} (λ b. TermFits b.term) other_block g.blocks (All-weaker {X = Block} (λ b. TermFits b.term) (λ b. TermFits (retargeted_term f b.term)) (λ b fits. term_fits b.term fits) g.blocks rules.terms);
        procedures = All-map ProcedureFits (retargeted_procedure f) g.procedures (All-weaker ProcedureFits (λ p. ProcedureFits (retargeted_procedure f p)) procedure_fits g.procedures rules.procedures);
      }
