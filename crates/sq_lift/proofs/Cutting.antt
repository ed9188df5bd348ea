-- Words cut into blocks, from the last one back.
use Rattle.std.proofs.Common.{◌≡◌, ℕ, suc, ◌+◌, ◌-◌, ◌*◌, ◌<◌, ◌≤◌, Bool, true, false, List, [], ◌∷◌, ◌++◌, length, drop, take, map, get_or, Option, Some, None, refl, sym, ap, ◌∙◌, subst, arith, if◌then◌else◌}
use Rattle.std.specs.Prelude.{reverse}
use Rattle.std.proofs.lemmas.List.{map-append, reverse-append, reverse-reverse, length-append, length-map, length-reverse}
use Rattle.std.proofs.Math.Seq.{drop-cons}
use Rattle.sq_graph.specs.declared.item.Item.{Item}
use Rattle.sq_graph.specs.declared.parts.BlockPart.{BlockPart}
use Rattle.sq_graph.specs.Graph.{Block}
use Rattle.sq_graph.specs.Blocks.{items_of_blocks}
use Rattle.sq_graph.specs.Renames.{retargeted_item, retargeted_items}
use Rattle.law_program.specs.Programs.{Word, Text, Note}
use Rattle.law_program.specs.Readings.{Reading, reading_of}
use Rattle.law_program.specs.Lifted.{Form, ItemForm, TermForm, form_of, Rest, between, with_form, with_reading, begun_if, cut}
use Rattle.sq_lift.specs.Cuts.{Cut, no_cut, form_cut, reading_cut, begun_cut, part_of, Shows, ShowsBlocks, starts}

-- LISTS

taken : {X : Type 0} (xs ys : List X) → take (length xs) (xs ++ ys) ≡ xs
taken [] ys = refl
taken (x ∷ xs) ys = ap (λ zs. x ∷ zs) (taken xs ys)

last_first : {X : Type 0} (x : X) (xs : List X) → reverse xs ++ x ∷ [] ≡ reverse (x ∷ xs)
last_first x xs = sym (reverse-append (x ∷ []) xs)

-- the items of the blocks are in front, where the others are behind them
module _ (f : ℕ → ℕ) where
  front : (before inside : List Item) (list : List Item) (count : ℕ) → list ≡ reverse (retargeted_items f (before ++ inside)) → count ≡ length before → take (length list - count) list ≡ reverse (retargeted_items f inside)
  front before inside list count is many =
      let parted : list ≡ reverse (retargeted_items f inside) ++ reverse (retargeted_items f before) =
      is ∙ ap reverse (map-append (retargeted_item f) before inside) ∙ reverse-append (retargeted_items f before) (retargeted_items f inside)
      in
      let long : length list ≡ length (reverse (retargeted_items f inside)) + length (reverse (retargeted_items f before)) = ap length parted ∙ length-append (reverse (retargeted_items f inside)) (reverse (retargeted_items f before)) in
      let short : length (reverse (retargeted_items f before)) ≡ length before = length-reverse (retargeted_items f before) ∙ length-map before (retargeted_item f) in
      let left : length list - count ≡ length (reverse (retargeted_items f inside)) = omega (arith, long, short, many) in
      (λ i. take (left i) (parted i)) ∙ taken (reverse (retargeted_items f inside)) (reverse (retargeted_items f before))

  -- STEPS

  pub shows_none : Shows f (between []) no_cut
  shows_none = record { items = refl; blocks = refl; count = refl; term = refl }

  form_shows : (form : Form) (rest : Rest) (c : Cut) → Shows f rest c → Shows f (with_form form rest) (form_cut f form c)
  form_shows (ItemForm item) rest c shows = record {
    items = ap (λ xs. xs ++ retargeted_item f item ∷ []) shows.items ∙ last_first (retargeted_item f item) (retargeted_items f (rest.items ++ items_of_blocks rest.blocks));
    blocks = shows.blocks;
    count = let n = shows.count in omega (arith, n);
    term = shows.term;
  }
  form_shows (TermForm term) rest c shows = record {
    items = front rest.items (items_of_blocks rest.blocks) c.items c.count shows.items shows.count;
    blocks = shows.blocks;
    count = refl;
    term = refl;
  }

  reading_shows : (notes : List Note) (o : Option Reading) (rest : Rest) (c : Cut) → Shows f rest c → Shows f (with_reading notes o rest) (reading_cut f notes o c)
  reading_shows notes None rest c shows = shows
  reading_shows notes (Some reading) rest c shows = form_shows (form_of notes reading) rest c shows

  begun_shows : (leads : Bool) (at : ℕ) (rest : Rest) (c : Cut) → Shows f rest c → Shows f (begun_if leads at rest) (begun_cut leads c)
  begun_shows false at rest c shows = shows
  begun_shows true at rest c shows =
      let b : Block = record { name = at; items = rest.items; term = rest.term } in
      let part : BlockPart = record { length = c.count; term = c.term } in
      let same : part ≡ part_of f b = λ i. record { length = shows.count i; term = shows.term i } in
      record {
        items = shows.items;
        blocks = (λ i. shows.blocks i ++ same i ∷ []) ∙ last_first (part_of f b) (map (part_of f) rest.blocks);
        count = refl;
        term = refl;
      }

  -- A word more

  module _ (keeps leads : ℕ → Bool) (ns : List Note) (t : Text) (at : ℕ) (words : List Word) (i : ℕ) (w : Word) (h : i < length words) (there : w ≡ get_or words i w) where
    abbrev here : ℕ
    here = at + 4 * i

    abbrev behind : Rest
    behind = cut keeps leads ns t (here + 4) (drop (i + 1) words)

    parted : drop i words ≡ w ∷ drop (i + 1) words
    parted = let e : suc i ≡ i + 1 = omega arith in drop-cons words i w h ∙ (λ j. sym there j ∷ drop (e j) words)

    pub shows_kept : (c kept begun : Cut) → Shows f (cut keeps leads ns t (at + 4 * (i + 1)) (drop (i + 1) words)) c → keeps here ≡ true → kept ≡ reading_cut f ns (reading_of t here w) c → begun ≡ begun_cut (leads here) kept → Shows f (cut keeps leads ns t here (drop i words)) begun
    shows_kept c kept begun shows k read is =
        let e : at + 4 * (i + 1) ≡ here + 4 = omega arith in
        let from : Shows f behind c = subst (λ n. Shows f (cut keeps leads ns t n (drop (i + 1) words)) c) e shows in
        let all : Shows f (begun_if (leads here) here (with_reading ns (reading_of t here w) behind)) begun =
        subst (Shows f (begun_if (leads here) here (with_reading ns (reading_of t here w) behind))) (sym (is ∙ ap (begun_cut (leads here)) read))
        (begun_shows (leads here) here (with_reading ns (reading_of t here w) behind) (reading_cut f ns (reading_of t here w) c) (reading_shows ns (reading_of t here w) behind c from))
        in
        subst (λ ws. Shows f (cut keeps leads ns t here ws) begun) (sym parted) (rw k all)

    pub shows_not : (c : Cut) → Shows f (cut keeps leads ns t (at + 4 * (i + 1)) (drop (i + 1) words)) c → keeps here ≡ false → Shows f (cut keeps leads ns t here (drop i words)) c
    shows_not c shows k =
        let e : at + 4 * (i + 1) ≡ here + 4 = omega arith in
        let from : Shows f behind c = subst (λ n. Shows f (cut keeps leads ns t n (drop (i + 1) words)) c) e shows in
        subst (λ ws. Shows f (cut keeps leads ns t here ws) c) (sym parted) (rw k from)

  pub shows_step : (keeps leads : ℕ → Bool) (ns : List Note) (t : Text) (at : ℕ) (words : List Word) (i : ℕ) (w : Word) (c new : Cut) → i < length words → w ≡ get_or words i w → Shows f (cut keeps leads ns t (at + 4 * (i + 1)) (drop (i + 1) words)) c → new ≡ (if keeps (at + 4 * i) then begun_cut (leads (at + 4 * i)) (reading_cut f ns (reading_of t (at + 4 * i) w) c) else c) → Shows f (cut keeps leads ns t (at + 4 * i) (drop i words)) new
  shows_step keeps leads ns t at words i w c new h there shows is = by (keeps (at + 4 * i)) refl is
    where
      by : (k : Bool) → keeps (at + 4 * i) ≡ k → new ≡ (if k then begun_cut (leads (at + 4 * i)) (reading_cut f ns (reading_of t (at + 4 * i) w) c) else c) → Shows f (cut keeps leads ns t (at + 4 * i) (drop i words)) new
      by true k is = shows_kept keeps leads ns t at words i w h there c (reading_cut f ns (reading_of t (at + 4 * i) w) c) new shows k refl is
      by false k is = subst (Shows f (cut keeps leads ns t (at + 4 * i) (drop i words))) (sym is) (shows_not keeps leads ns t at words i w h there c shows k)

  form_count : (form : Form) (c : Cut) → (form_cut f form c).count ≤ c.count + 1
  form_count (ItemForm item) c = omega arith
  form_count (TermForm term) c = omega arith

  reading_count : (ns : List Note) (o : Option Reading) (c : Cut) → (reading_cut f ns o c).count ≤ c.count + 1
  reading_count ns None c = omega arith
  reading_count ns (Some reading) c = form_count (form_of ns reading) c

  pub step_count : (k l : Bool) (ns : List Note) (o : Option Reading) (c new : Cut) → new ≡ (if k then begun_cut l (reading_cut f ns o c) else c) → new.count ≤ c.count + 1
  step_count k l ns o c new is = subst (λ (d : Cut). d.count ≤ c.count + 1) (sym is) (by k l)
    where
      by : (k l : Bool) → (if k then begun_cut l (reading_cut f ns o c) else c).count ≤ c.count + 1
      by true true = omega arith
      by true false = reading_count ns o c
      by false l = omega arith

  -- IN ORDER

  pub shows_blocks : (rest : Rest) (c : Cut) (items : List Item) (parts : List BlockPart) → Shows f rest c → items ≡ reverse (take (length c.items - c.count) c.items) → parts ≡ reverse c.blocks → ShowsBlocks f rest.blocks items parts
  shows_blocks rest c items parts shows is are = record {
    items_are = is ∙ ap reverse (front rest.items (items_of_blocks rest.blocks) c.items c.count shows.items shows.count) ∙ reverse-reverse (retargeted_items f (items_of_blocks rest.blocks));
    parts_are = are ∙ ap reverse shows.blocks ∙ reverse-reverse (map (part_of f) rest.blocks);
  }

-- NAMES

form_blocks : (form : Form) (rest : Rest) → (with_form form rest).blocks ≡ rest.blocks
form_blocks (ItemForm item) rest = refl
form_blocks (TermForm term) rest = refl

reading_blocks : (ns : List Note) (o : Option Reading) (rest : Rest) → (with_reading ns o rest).blocks ≡ rest.blocks
reading_blocks ns None rest = refl
reading_blocks ns (Some reading) rest = form_blocks (form_of ns reading) rest

pub name_of : Block → ℕ
name_of b = b.name

pub names_are : (keeps leads : ℕ → Bool) (ns : List Note) (t : Text) (at : ℕ) (words : List Word) → map (λ b. b.name) (cut keeps leads ns t at words).blocks ≡ starts keeps leads at words
names_are keeps leads ns t at [] = refl
names_are keeps leads ns t at (w ∷ words) = by (keeps at) (names_are keeps leads ns t (at + 4) words)
  where
    rest : Rest
    rest = cut keeps leads ns t (at + 4) words

    begun : (l : Bool) (o : Option Reading) → map (λ b. b.name) rest.blocks ≡ starts keeps leads (at + 4) words → map (λ b. b.name) (begun_if l at (with_reading ns o rest)).blocks ≡ (if l then at ∷ starts keeps leads (at + 4) words else starts keeps leads (at + 4) words)
    begun true o names = ap (λ bs. at ∷ map (λ (b : Block). b.name) bs) (reading_blocks ns o rest) ∙ ap (λ xs. at ∷ xs) names
    begun false o names = ap (map (λ (b : Block). b.name)) (reading_blocks ns o rest) ∙ names

    by : (k : Bool) → map (λ b. b.name) rest.blocks ≡ starts keeps leads (at + 4) words → map (λ b. b.name) (if k then begun_if (leads at) at (with_reading ns (reading_of t at w) rest) else rest).blocks ≡ (if k then (if leads at then at ∷ starts keeps leads (at + 4) words else starts keeps leads (at + 4) words) else starts keeps leads (at + 4) words)
    by true names = begun (leads at) (reading_of t at w) names
    by false names = names

-- the tests are asked at words alone
pub same_cut : (keeps keeps' leads leads' : ℕ → Bool) (ns : List Note) (t : Text) (at : ℕ) (words : List Word) → ((i : ℕ) → i < length words → (keeps (at + 4 * i) ≡ keeps' (at + 4 * i)) × (leads (at + 4 * i) ≡ leads' (at + 4 * i))) → cut keeps leads ns t at words ≡ cut keeps' leads' ns t at words
same_cut keeps keeps' leads leads' ns t at [] same = refl
same_cut keeps keeps' leads leads' ns t at (w ∷ words) same =
    let e : at + 4 * 0 ≡ at = omega arith in
    let first = subst (λ n. (keeps n ≡ keeps' n) × (leads n ≡ leads' n)) e (same 0 (omega arith)) in
    let rest = same_cut keeps keeps' leads leads' ns t (at + 4) words (λ i h. subst (λ n. (keeps n ≡ keeps' n) × (leads n ≡ leads' n)) (next i) (same (suc i) (omega (arith, h)))) in
    λ i. if first.0 i then begun_if (first.1 i) at (with_reading ns (reading_of t at w) (rest i)) else rest i
  where
    next : (i : ℕ) → at + 4 * suc i ≡ at + 4 + 4 * i
    next i = omega arith
