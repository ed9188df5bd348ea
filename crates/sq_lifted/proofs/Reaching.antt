-- What is read off a program is in reach: words only go, so that distances only shrink.
use Rattle.std.proofs.Common.{◌≡◌, ◌≢◌, ◌⊎◌, inl, inr, ℕ, ℤ, suc, pos, negsuc, ◌+◌, ◌-◌, ◌-ℤ◌, ◌*◌, ◌≤◌, ◌<◌, ◌%◌, ◌^◌, nat_lt, Bool, true, false, ◌==◌, ◌&&◌, List, [], ◌∷◌, length, Option, Some, None, if◌then◌else◌, refl, sym, ap, ◌∙◌, subst, arith, ne_eqb}
use Rattle.std.proofs.lemmas.Bool.{eqb-true, cases_lt}
use Rattle.std.proofs.lemmas.Int.{ints}
use Rattle.std.proofs.lemmas.Bool.Decides.{nat_tests}
use Rattle.std.specs.List.{Contains}
use Rattle.sq_isa.specs.Ranges.{IsSigned}
use Rattle.sq_graph.specs.declared.item.Term.{Term}
use Rattle.sq_graph.specs.declared.item.Term.TheVariants.{Fall, Jump, Branch, Call, PartJump, Indirect, Stop}
use Rattle.sq_graph.specs.Graph.{Graph}
use Rattle.sq_graph.specs.Words.{term_words}
use Rattle.sq_graph.specs.Leaders.{is_fall}
use Rattle.sq_graph.specs.Places.{address_in, block_address, Reaches, TermReaches, BranchesReach, IsInReach}
use Rattle.law_program.specs.Programs.{Word, Text, Note, Program, word_from, word_at}
use Rattle.law_program.specs.Reached.{target_from, Decides}
use Rattle.law_program.specs.Readings.{Reading, IsItem, IsTerm, Links, reading_of}
use Rattle.law_program.specs.Lifted.{Form, ItemForm, TermForm, form_of, Rest, between, with_form, with_reading, begun_if, procedure_at, link_form}
use Rattle.law_lifting.specs.Lifting.{IsLinked, IsReadable}
use Rattle.law_lifting.proofs.TextWords.{same_itself, Stood, stood}
use Rattle.law_lifting.proofs.Facts.{one, ReadWord}
use Rattle.law_lifting.proofs.ReadingFacts.{form_uses}
use Rattle.law_lifting.proofs.Cutting.{kept_is, read_at, used_kept, lead_used, true_not_false}
use Rattle.law_lifting.proofs.CutLines.{N, K, L, G, Cut, IsSuffix, tail_suffix, form_at, IsTermForm, closed_cut, first_lead}
use Rattle.sq_lifted.specs.Lifted.{IsShort}
use Rattle.sq_lifted.proofs.Fits.{LeadsBy, ReadingFits}
use Rattle.sq_lifted.proofs.Graphs.{read_fits}
use Rattle.sq_lifted.proofs.Canonical.{IsReal, form_real, here_is, closed_next}

-- how far a branch leads that doesn't wrap
pub span : (at to : ℕ) (offset : ℤ) → IsSigned 13 offset → to ≡ target_from at offset → at < 2 ^ 32 → to < at + 2 ^ 20 → at < to + 2 ^ 20 → (to ≤ at + 4095) × (at ≤ to + 4096)
span at to (pos k) s e small far near =
    let below : k < 4096 = omega (arith, ints) in
    let f : to ≡ (at + k) % 2 ^ 32 = e in
    (omega arith, omega arith)
span at to (negsuc k) s e small far near =
    let below : suc k ≤ 4096 = omega (arith, ints) in
    let f : to ≡ (at + (2 ^ 32 - suc k)) % 2 ^ 32 = e in
    (omega arith, omega arith)

-- a term that is read takes a word
pub real_word : (term : Term) → is_fall term ≡ false → term_words term ≡ 1
real_word Fall e = absurd (cc)
real_word (Jump to) e = refl
real_word (Branch cond a b to) e = refl
real_word (Call link to) e = refl
real_word (PartJump link part to) e = refl
real_word (Indirect link register offset) e = refl
real_word (Stop word) e = refl

-- HOW MANY WORDS STAND BELOW AN ADDRESS

abbrev pub one_if : Bool → ℕ
one_if true = 1
one_if false = 0

module _ (keep : ℕ → Bool) where
  -- the word at `at`, where it is kept and below x
  abbrev weight : ℕ → ℕ → ℕ
  weight x at = one_if (nat_lt at x && keep at)

  -- the kept words below x, of these
  abbrev below : ℕ → ℕ → List Word → ℕ
  below x at [] = 0
  below x at (w ∷ words) = weight x at + below x (at + 4) words

  weight_out : (x at : ℕ) → x ≤ at → weight x at ≡ 0
  weight_out x at h = ap (λ b. one_if (b && keep at)) (not_lt x at h)
    where
      not_lt : (x at : ℕ) → x ≤ at → nat_lt at x ≡ false
      not_lt x at h = grind (arith, nat_tests)

  weight_in : (x at : ℕ) → at < x → weight x at ≡ one_if (keep at)
  weight_in x at h = ap (λ b. one_if (b && keep at)) (is_lt x at h)
    where
      is_lt : (x at : ℕ) → at < x → nat_lt at x ≡ true
      is_lt x at h = grind (arith, nat_tests)

  weight_skip : (x at : ℕ) → keep at ≡ false → weight x at ≡ 0
  weight_skip x at h = ap (λ b. one_if (nat_lt at x && b)) h ∙ none (nat_lt at x)
    where
      none : (b : Bool) → one_if (b && false) ≡ 0
      none true = refl
      none false = refl

  weight_most : (x at : ℕ) → weight x at ≤ 1
  weight_most x at = go (nat_lt at x && keep at)
    where
      go : (b : Bool) → one_if b ≤ 1
      go true = omega arith
      go false = omega arith

  none_below : (x at : ℕ) (words : List Word) → x ≤ at → below x at words ≡ 0
  none_below x at [] h = refl
  none_below x at (w ∷ words) h = let a = weight_out x at h in let b = none_below x (at + 4) words (omega (arith, h)) in omega arith

  most_below : (x at : ℕ) (words : List Word) → at ≤ x → x % 4 ≡ at % 4 → 4 * below x at words + at ≤ x
  most_below x at [] h m = omega arith
  most_below x at (w ∷ words) h m = go (cases_lt at x) (λ h m. most_below x (at + 4) words h m)
    where
      go : (at < x) ⊎ (x ≤ at) → (at + 4 ≤ x → x % 4 ≡ (at + 4) % 4 → 4 * below x (at + 4) words + (at + 4) ≤ x) → 4 * below x at (w ∷ words) + at ≤ x
      go (inr le) rec = let a = none_below x at (w ∷ words) le in omega arith
      go (inl lt) rec =
          let a = rec (omega arith) (omega arith) in
          let b = weight_most x at in
          omega arith

  apart : (a b at : ℕ) (words : List Word) → at ≤ a → a ≤ b → a % 4 ≡ at % 4 → b % 4 ≡ at % 4 → (below a at words ≤ below b at words) × (4 * below b at words + a ≤ 4 * below a at words + b)
  apart a b at [] h le m n = (omega arith, omega arith)
  apart a b at (w ∷ words) h le m n = go (cases_lt at a) (λ h m n. apart a b (at + 4) words h le m n)
    where
      go : (at < a) ⊎ (a ≤ at) → (at + 4 ≤ a → a % 4 ≡ (at + 4) % 4 → b % 4 ≡ (at + 4) % 4 → (below a (at + 4) words ≤ below b (at + 4) words) × (4 * below b (at + 4) words + a ≤ 4 * below a (at + 4) words + b)) → (below a at (w ∷ words) ≤ below b at (w ∷ words)) × (4 * below b at (w ∷ words) + a ≤ 4 * below a at (w ∷ words) + b)
      go (inr e) rec =
          let c = none_below a at (w ∷ words) e in
          let d = most_below b at (w ∷ words) (omega arith) n in
          (omega arith, omega arith)
      go (inl lt) rec =
          let r = rec (omega arith) (omega arith) (omega arith) in
          let c = weight_in a at lt in
          let d = weight_in b at (omega arith) in
          let r0 = r.0 in
          let r1 = r.1 in
          (omega arith, omega arith)

module _ (p : Program) (is : ℕ → Bool) (linked : IsLinked p) (dec : Decides p is) (fine : IsReadable is p) (short : IsShort p.text) where
  abbrev t : Text
  t = p.text

  abbrev ns : List Note
  ns = N p is linked.text dec fine

  abbrev keep : ℕ → Bool
  keep = K p is linked.text dec fine

  abbrev lead : ℕ → Bool
  lead = L p is linked.text dec fine

  abbrev g : Graph
  g = G p is linked.text dec fine

  abbrev Tail : ℕ → List Word → Rest
  Tail at words = Cut p is linked.text dec fine at words

  abbrev Suffix : ℕ → List Word → Type 0
  Suffix at words = IsSuffix p is linked.text dec fine at words

  abbrev Read : ℕ → Type 0
  Read at = ReadWord p is linked.text dec fine.text at

  abbrev Here : ℕ → Word → List Word → Rest
  Here at w words = with_reading ns (reading_of t at w) (Tail (at + 4) words)

  abbrev Before : ℕ → ℕ → List Word → ℕ
  Before x at words = below keep x at words

  -- ADDRESSES

  abbrev size : Rest → ℕ
  size rest = length rest.items + term_words rest.term

  -- the address of a block, where what stands from here on begins at `at`
  abbrev address : ℕ → Rest → ℕ → Option ℕ
  address at rest x = address_in rest.blocks (at + 4 * size rest) x

  form_address : (f : Form) (rest : Rest) (n x : ℕ) → IsReal f → (IsTermForm f → rest ≡ between rest.blocks) → address (4 * n) (with_form f rest) x ≡ address (4 * (n + 1)) rest x
  form_address (ItemForm item) rest n x real closed = ap (λ at. address_in rest.blocks at x) (omega arith)
  form_address (TermForm term) rest n x real closed =
      let one = real_word term real in
      let flat : address (4 * n) (with_form (TermForm term) rest) x ≡ address (4 * (n + 1)) (between rest.blocks) x = ap (λ at. address_in rest.blocks at x) (omega arith) in
      flat ∙ ap (λ r. address (4 * (n + 1)) r x) (sym (closed tt))

  begun_address : (b : Bool) (at : ℕ) (rest : Rest) (n x : ℕ) → (at == x) ≡ false → address (4 * n) (begun_if b at rest) x ≡ address (4 * n) rest x
  begun_address true at rest n x e = rw e (ap (λ at. address_in rest.blocks at x) (omega arith))
  begun_address false at rest n x e = refl

  -- the block of a kept leader stands behind as many words as are kept below it
  addressed : (at : ℕ) (words : List Word) → Suffix at words → (x : ℕ) (w : Word) → word_from x at words ≡ Some w → keep x ≡ true → lead x ≡ true → (n : ℕ) → address (4 * n) (Tail at words) x ≡ Some (4 * (n + Before x at words))
  addressed at [] suffix x w e k l n = absurd (cc)
  addressed at (v ∷ words) suffix x w e k l n = go (keep at) refl (x == at) refl e (λ n e. addressed (at + 4) words (tail_suffix p is linked.text dec fine at v words suffix) x w e k l n)
    where
      go : (b : Bool) → keep at ≡ b → (c : Bool) → (x == at) ≡ c → (if c then Some v else word_from x (at + 4) words) ≡ Some w → ((n : ℕ) → word_from x (at + 4) words ≡ Some w → address (4 * n) (Tail (at + 4) words) x ≡ Some (4 * (n + Before x (at + 4) words))) → address (4 * n) (if b then begun_if (lead at) at (Here at v words) else Tail (at + 4) words) x ≡ Some (4 * (n + Before x at (v ∷ words)))
      go true ka true q e rec =
          let same : x ≡ at = eqb-true x at q in
          let leads : lead at ≡ true = subst (λ z. lead z ≡ true) same l in
          let none = none_below keep x at (v ∷ words) (omega (arith, same)) in
          let here : (at == x) ≡ true = subst (λ z. (at == z) ≡ true) (sym same) (same_itself at) in
          rw (leads, here) (ap Some (omega arith))
      go true ka false q e rec =
          let rd = read_at p is linked.text dec fine at (kept_is p is linked.text dec fine at ka).0 in
          let s = stood x (at + 4) w words e in
          let far : at + 4 ≤ x = s.least in
          let more = weight_in keep x at (omega (arith, far)) ∙ ap one_if ka in
          let apart_names : (at == x) ≡ false = not_same at x (omega (arith, far)) in
          begun_address (lead at) at (Here at v words) n x apart_names
          ∙ ap (λ r. address (4 * n) r x) (here_is p is linked dec fine at v words suffix rd)
          ∙ form_address (form_of ns rd.reading) (Tail (at + 4) words) n x (form_real ns rd.reading (form_at p is linked.text dec fine at rd)) (λ i. closed_next p is linked dec fine at words rd (form_of ns rd.reading) refl i ka)
          ∙ rec (n + 1) e
          ∙ ap Some (omega (arith, more))
        where
          not_same : (a b : ℕ) → a ≢ b → (a == b) ≡ false
          not_same a b h = ne_eqb a b h
      go false ka true q e rec = true_not_false (sym (subst (λ z. keep z ≡ true) (eqb-true x at q) k) ∙ ka)
      go false ka false q e rec = let none = weight_skip keep x at ka in rec n e ∙ ap Some (omega (arith, none))

  whole : Tail t.lo t.words ≡ between g.blocks
  whole = closed_cut p is linked.text dec fine t.lo t.words (first_lead p is linked.text dec fine)

  block_stands : (x : ℕ) (w : Word) → word_at t x ≡ Some w → keep x ≡ true → lead x ≡ true → block_address g 0 x ≡ Some (4 * Before x t.lo t.words)
  block_stands x w e k l = subst (λ r. address 0 r x ≡ Some (4 * Before x t.lo t.words)) whole (addressed t.lo t.words (λ x h. refl) x w e k l 0 ∙ ap Some (omega arith))

  -- BRANCHES

  reaching : (bt by y to : ℕ) → (to ≤ y + 4095) × (y ≤ to + 4096) → (to ≤ y → (4 * by + to ≤ 4 * bt + y) × (bt ≤ by)) → (y ≤ to → (4 * bt + y ≤ 4 * by + to) × (by ≤ bt)) → Reaches (pos (4 * bt) -ℤ pos (4 * by))
  reaching bt by y to s low high = go (cases_lt y to)
    where
      go : (y < to) ⊎ (to ≤ y) → Reaches (pos (4 * bt) -ℤ pos (4 * by))
      go (inl lt) =
          let h = high (omega (arith, lt)) in
          let h0 = h.0 in
          let h1 = h.1 in
          let s0 = s.0 in
          record { least = omega (arith, ints); most = omega (arith, ints) }
      go (inr le) =
          let h = low le in
          let h0 = h.0 in
          let h1 = h.1 in
          let s1 = s.1 in
          record { least = omega (arith, ints); most = omega (arith, ints) }

  -- a branch at a kept word, below which as many words are kept as stand before it
  branch_reaches : (y : ℕ) → keep y ≡ true → (rd : Read y) (term : Term) → form_of ns rd.reading ≡ TermForm term → (at : ℕ) → at ≡ 4 * Before y t.lo t.words → TermReaches g at term
  branch_reaches y k rd Fall e at h = tt
  branch_reaches y k rd (Jump to) e at h = tt
  branch_reaches y k rd (Branch cond a b to) e at h = λ target found.
      let uses : Contains (form_uses (form_of ns rd.reading)) to = subst (λ f. Contains (form_uses f) to) (sym e) (one to) in
      let k' = used_kept p is linked.text dec fine y to rd.word rd.reading rd.sound k rd.there rd.reads uses in
      let l' = lead_used p is linked.text dec fine y to rd.word rd.reading (kept_is p is linked.text dec fine y k).0 rd.there rd.reads uses in
      let w = read_at p is linked.text dec fine to (kept_is p is linked.text dec fine to k').0 in
      let there = block_stands to w.word w.there k' l' in
      let value : target ≡ 4 * Before to t.lo t.words = let u : Some target ≡ Some (4 * Before to t.lo t.words) = sym found ∙ there in cc in
      let sy = stood y t.lo rd.word t.words rd.there in
      let st = stood to t.lo w.word t.words w.there in
      let by = branch_by rd e in
      let limits = span y to by.0 by.1 by.2 (below_end sy) (near sy st) (near st sy) in
      rw (value, h) (reaching (Before to t.lo t.words) (Before y t.lo t.words) y to limits
      (λ le. let r = apart keep to y t.lo t.words st.least le st.whole sy.whole in (r.1, r.0))
      (λ le. let r = apart keep y to t.lo t.words sy.least le sy.whole st.whole in (r.1, r.0)))
    where
      branch_by : (rd : Read y) → form_of ns rd.reading ≡ TermForm (Branch cond a b to) → LeadsBy y (Branch cond a b to)
      branch_by rd e = go rd.reading (read_fits p is linked dec fine y rd) e
        where
          go : (r : Reading) → ReadingFits y r → form_of ns r ≡ TermForm (Branch cond a b to) → LeadsBy y (Branch cond a b to)
          go (IsItem item) f e = absurd (cc)
          go (IsTerm term) f e = let same : term ≡ Branch cond a b to = cc in subst (LeadsBy y) same f.1
          go (Links link x) f e = no_link link x (procedure_at ns x) e
            where
              no_link : (link x : ℕ) (o : Option ℕ) → link_form link x o ≡ TermForm (Branch cond a b to) → LeadsBy y (Branch cond a b to)
              no_link link x None e = absurd (cc)
              no_link link x (Some q) e = absurd (cc)

      below_end : Stood y t.lo t.words → y < 2 ^ 32
      below_end s = let e = short.ends in let m = s.most in omega arith

      near : {a b : ℕ} → Stood a t.lo t.words → Stood b t.lo t.words → b < a + 2 ^ 20
      near s r = let l = s.least in let m = r.most in let e = short.short in omega arith
  branch_reaches y k rd (Call link to) e at h = tt
  branch_reaches y k rd (PartJump link part to) e at h = tt
  branch_reaches y k rd (Indirect link register offset) e at h = tt
  branch_reaches y k rd (Stop word) e at h = tt

  -- what stands from a place on reaches
  record RestReaches (at : ℕ) (rest : Rest) : Type 0 where
    term : TermReaches g (at + 4 * length rest.items) rest.term
    blocks : BranchesReach g (at + 4 * size rest) rest.blocks

  begun_reaches : (b : Bool) (name at : ℕ) (rest : Rest) → RestReaches at rest → RestReaches at (begun_if b name rest)
  begun_reaches true name at rest h = record {
    term = tt;
    blocks = (subst (λ a. TermReaches g a rest.term) (omega arith) h.term, subst (λ a. BranchesReach g a rest.blocks) (omega arith) h.blocks);
  }
  begun_reaches false name at rest h = h

  form_reaches : (f : Form) (rest : Rest) (n : ℕ) → IsReal f → (IsTermForm f → rest ≡ between rest.blocks) → ((term : Term) → f ≡ TermForm term → TermReaches g (4 * n) term) → RestReaches (4 * (n + 1)) rest → RestReaches (4 * n) (with_form f rest)
  form_reaches (ItemForm item) rest n real closed own h = record { term = subst (λ a. TermReaches g a rest.term) (omega arith) h.term; blocks = subst (λ a. BranchesReach g a rest.blocks) (omega arith) h.blocks }
  form_reaches (TermForm term) rest n real closed own h =
      let one = real_word term real in
      let flat : RestReaches (4 * (n + 1)) (between rest.blocks) = subst (RestReaches (4 * (n + 1))) (closed tt) h in
      record { term = subst (λ a. TermReaches g a term) (omega arith) (own term refl); blocks = subst (λ a. BranchesReach g a rest.blocks) (omega arith) flat.blocks }

  -- n words are kept before the place
  abbrev HasBefore : ℕ → ℕ → List Word → Type 0
  HasBefore n at words = (x : ℕ) → at ≤ x → Before x t.lo t.words ≡ n + Before x at words

  cut_reaches : (at : ℕ) (words : List Word) → Suffix at words → (n : ℕ) → HasBefore n at words → RestReaches (4 * n) (Tail at words)
  cut_reaches at [] suffix n h = record { term = tt; blocks = tt }
  cut_reaches at (w ∷ words) suffix n h = go (keep at) refl (λ n h. cut_reaches (at + 4) words (tail_suffix p is linked.text dec fine at w words suffix) n h)
    where
      go : (b : Bool) → keep at ≡ b → ((n : ℕ) → HasBefore n (at + 4) words → RestReaches (4 * n) (Tail (at + 4) words)) → RestReaches (4 * n) (if b then begun_if (lead at) at (Here at w words) else Tail (at + 4) words)
      go false k rec = rec n (λ x le. let a = h x (omega (arith, le)) in let b = weight_skip keep x at k in omega arith)
      go true k rec =
          let rd = read_at p is linked.text dec fine at (kept_is p is linked.text dec fine at k).0 in
          let later : HasBefore (n + 1) (at + 4) words = λ x le. let a = h x (omega (arith, le)) in let b = weight_in keep x at (omega (arith, le)) ∙ ap one_if k in omega arith in
          let here : 4 * n ≡ 4 * Before at t.lo t.words = let a = h at (omega arith) in let b = none_below keep at at (w ∷ words) (omega arith) in omega arith in
          begun_reaches (lead at) at (4 * n) (Here at w words)
          (subst (RestReaches (4 * n)) (sym (here_is p is linked dec fine at w words suffix rd))
          (form_reaches (form_of ns rd.reading) (Tail (at + 4) words) n (form_real ns rd.reading (form_at p is linked.text dec fine at rd)) (λ i. closed_next p is linked dec fine at words rd (form_of ns rd.reading) refl i k) (λ term e. branch_reaches at k rd term e (4 * n) here) (rec (n + 1) later)))

  pub in_reach : IsInReach g
  in_reach = (subst (RestReaches 0) whole (cut_reaches t.lo t.words (λ x h. refl) 0 (λ x le. omega arith))).blocks
