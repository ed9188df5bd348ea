-- No word of a generated file has a fault: each is an instruction, and each jump leads to a word of text.
use Rattle.std.proofs.Common.{◌≡◌, ℕ, zero, suc, pos, ◌+◌, ◌*◌, ◌^◌, ◌<◌, ◌≤◌, ◌==◌, true, false, not, ◌⊎◌, inl, inr, List, [], ◌∷◌, Some, None, refl, ap, ◌∙◌, arith}
use Rattle.std.specs.List.{list_any, slice_get}
use Rattle.std.proofs.lemmas.Bool.Decides.{nat_tests}
use Rattle.std.proofs.lemmas.Int.{ints}
use Rattle.std.proofs.lemmas.Bool.{and_right}
use Rattle.sq_isa.specs.declared.instructions.Insn.{Insn}
use Rattle.sq_isa.specs.declared.instructions.Insn.TheVariants.{Jal, Jalr, OpImm, Ecall}
use Rattle.sq_isa.specs.declared.instructions.ImmOp.TheVariants.{Addi}
use Rattle.sq_isa.specs.Encoding.{word_of}
use Rattle.sq_isa.specs.Ranges.{FieldsFit, IsSigned}
use Rattle.sq_isa.specs.Table.{insn_of}
use Rattle.sq_isa.proofs.Encoded.{insn_of-word_of}
use Rattle.sq_reloc.specs.declared.mark.Mark.TheVariants.{Plain}
use Rattle.law_program.specs.Programs.{Word, Text, is_word, end_of, insn_in}
use Rattle.law_program.specs.Reached.{target_from, jump_target, insn_goes_on}
use Rattle.law_program.specs.Faults.{is_astray, falls_off, is_auipc, is_access, fault_of}
use Rattle.sq_gen.specs.Generated.{number_after, kind_of, addition, call, words_from}

-- an instruction at a place among n words jumps nowhere, or to one of them
abbrev pub Leads : ℕ → ℕ → Insn → Type 0
Leads n place insn =
    ((at : ℕ) → jump_target at insn ≡ [])
    ⊎ ((far : ℕ) × (place + far < n) × ((at : ℕ) → at + 4 * far < 2 ^ 32 → jump_target at insn ≡ (at + 4 * far) ∷ []))

-- a word at a place among n words without a fault
pub record IsFine (n place word : ℕ) : Type 0 where
  pub insn : Insn
  pub is : word ≡ word_of insn
  pub fits : FieldsFit insn
  pub leads : Leads n place insn
  pub on : (insn_goes_on insn ≡ false) ⊎ (place + 1 < n)
  pub no_auipc : is_auipc insn ≡ false
  pub no_access : is_access insn ≡ false

abbrev pub AreFine : ℕ → ℕ → List ℕ → Type 0
AreFine n place [] = Unit {0}
AreFine n place (word ∷ words) = IsFine n place word × AreFine n (suc place) words

pub fine_at : (n place : ℕ) (words : List ℕ) → AreFine n place words → (k word : ℕ) → slice_get words k ≡ Some word → IsFine n (place + k) word
fine_at n place [] fine k word is = absurd (cc is)
fine_at n place (first ∷ words) fine zero word is =
    let none : place ≡ place + 0 = omega arith in
    let same : first ≡ word = cc is in
    rw (← none, ← same) fine.0
fine_at n place (first ∷ words) fine (suc k) word is =
    let next : suc place + k ≡ place + suc k = omega arith in
    rw (← next) (fine_at n (suc place) words fine.1 k word is)

-- THE WORDS OF A GENERATED FILE

signed : (n : ℕ) → n < 2 ^ 11 → IsSigned 12 (pos n)
signed n small = (omega (arith, ints, small), omega (arith, ints, small))

adds : (n place to from number : ℕ) → to < 32 → from < 32 → number < 2 ^ 11 → place + 1 < n → IsFine n place (addition to from number)
adds n place to from number target source small less = record {
  insn = OpImm Addi to from (pos number);
  is = refl;
  fits = (target, source, signed number small);
  leads = inl (λ at. refl);
  on = inr less;
  no_auipc = refl;
  no_access = refl;
}

leads_on : (at words : ℕ) → words < 2 ^ 18 → at + 4 * words < 2 ^ 32 → target_from at (pos (4 * words)) ≡ at + 4 * words
leads_on at words few high = omega (arith, ints, few, high)

jumps : (n place link bytes words : ℕ) → link < 32 → bytes ≡ 4 * words → words < 2 ^ 18 → place + words < n → (insn_goes_on (Jal link (pos (4 * words))) ≡ false) ⊎ (place + 1 < n) → IsFine n place (call link bytes)
jumps n place link bytes words register same few within on = rw same (record {
  insn = Jal link (pos (4 * words));
  is = refl;
  fits = (register, (omega (arith, ints, few), omega (arith, ints, few)), omega (arith, ints));
  leads = inr (words, within, λ at high. ap (λ x. x ∷ []) (leads_on at words few high));
  on = on;
  no_auipc = refl;
  no_access = refl;
})

traps : (n place : ℕ) → place + 1 < n → IsFine n place (word_of Ecall)
traps n place less =
    record { insn = Ecall; is = refl; fits = tt; leads = inl (λ at. refl); on = inr less; no_auipc = refl; no_access = refl }

returns : (n place : ℕ) → IsFine n place (word_of (Jalr 0 1 (pos 0)))
returns n place = record {
  insn = Jalr 0 1 (pos 0);
  is = refl;
  fits = (omega arith, omega arith, signed 0 (omega arith));
  leads = inl (λ at. refl);
  on = inl refl;
  no_auipc = refl;
  no_access = refl;
}

small_kind : (x : ℕ) → kind_of (number_after x) < 16
small_kind x = omega arith

pub words_fine : (x blocks place n : ℕ) → blocks ≤ 4000 → n ≡ place + (7 * blocks + 5) → AreFine n place (words_from x blocks)
unfolding words_from
words_fine x zero place n few e =
    let first : IsFine n place (addition 17 0 93) = adds n place 17 0 93 (omega arith) (omega arith) (omega arith) (omega (arith, e)) in
    let second : IsFine n (suc place) (addition 10 0 0) = adds n (suc place) 10 0 0 (omega arith) (omega arith) (omega arith) (omega (arith, e)) in
    let third : IsFine n (suc (suc place)) (word_of Ecall) = traps n (suc (suc place)) (omega (arith, e)) in
    let fourth : IsFine n (suc (suc (suc place))) (call 0 0) = jumps n (suc (suc (suc place))) 0 0 0 (omega arith) refl (omega arith) (omega (arith, e)) (inl refl) in
    let fifth : IsFine n (suc (suc (suc (suc place)))) (word_of (Jalr 0 1 (pos 0))) = returns n (suc (suc (suc (suc place)))) in
    (first, (second, (third, (fourth, (fifth, tt)))))
words_fine x (suc blocks) place n few e =
    let small : kind_of (number_after x) < 16 = small_kind x in
    let first : IsFine n place (addition 10 10 (16 * kind_of (number_after x) + 1)) = adds n place 10 10 (16 * kind_of (number_after x) + 1) (omega arith) (omega arith) (omega (arith, small)) (omega (arith, e)) in
    let second : IsFine n (suc place) (addition 11 11 (16 * kind_of (number_after x) + 2)) = adds n (suc place) 11 11 (16 * kind_of (number_after x) + 2) (omega arith) (omega arith) (omega (arith, small)) (omega (arith, e)) in
    let third : IsFine n (suc (suc place)) (addition 12 12 (16 * kind_of (number_after x) + 3)) = adds n (suc (suc place)) 12 12 (16 * kind_of (number_after x) + 3) (omega arith) (omega arith) (omega (arith, small)) (omega (arith, e)) in
    let fourth : IsFine n (suc (suc (suc place))) (addition 13 13 (16 * kind_of (number_after x) + 4)) = adds n (suc (suc (suc place))) 13 13 (16 * kind_of (number_after x) + 4) (omega arith) (omega arith) (omega (arith, small)) (omega (arith, e)) in
    let fifth : IsFine n (suc (suc (suc (suc place)))) (addition 14 14 (16 * kind_of (number_after x) + 5)) = adds n (suc (suc (suc (suc place)))) 14 14 (16 * kind_of (number_after x) + 5) (omega arith) (omega arith) (omega (arith, small)) (omega (arith, e)) in
    let sixth : IsFine n (suc (suc (suc (suc (suc place))))) (addition 15 15 (16 * kind_of (number_after x) + 6)) = adds n (suc (suc (suc (suc (suc place))))) 15 15 (16 * kind_of (number_after x) + 6) (omega arith) (omega arith) (omega (arith, small)) (omega (arith, e)) in
    let seventh : IsFine n (suc (suc (suc (suc (suc (suc place)))))) (call 1 (28 * blocks + 20)) = jumps n (suc (suc (suc (suc (suc (suc place)))))) 1 (28 * blocks + 20) (7 * blocks + 5) (omega arith) (omega arith) (omega (arith, few)) (omega (arith, e)) (inr (omega (arith, e))) in
    let rest : AreFine n (suc (suc (suc (suc (suc (suc (suc place))))))) (words_from (number_after x) blocks) = words_fine (number_after x) blocks (suc (suc (suc (suc (suc (suc (suc place))))))) n (omega (arith, few)) (omega (arith, e)) in
    (first, (second, (third, (fourth, (fifth, (sixth, (seventh, rest)))))))

-- A FINE WORD HAS NO FAULT

-- a word without an entry
abbrev pub plain_word : ℕ → Word
plain_word word = record { number = word; mark = Plain }

not_there : (x y : ℕ) → x < y → (x == y) ≡ false
not_there x y less = grind (arith, nat_tests)

module _ (t : Text) (n : ℕ) (ends : end_of t ≡ t.lo + 4 * n) (high : t.lo + 4 * n < 2 ^ 32) (there : (k : ℕ) → k < n → is_word t (t.lo + 4 * k) ≡ true) (place word : ℕ) (within : place < n) (fine : IsFine n place word) where
  straight : list_any (λ x. not (is_word t x)) (jump_target (t.lo + 4 * place) fine.insn) ≡ false
  straight = by_leads fine.leads
    where
      by_leads : Leads n place fine.insn → list_any (λ x. not (is_word t x)) (jump_target (t.lo + 4 * place) fine.insn) ≡ false
      by_leads (inl none) = ap (list_any (λ x. not (is_word t x))) (none (t.lo + 4 * place))
      by_leads (inr to) =
          let at : t.lo + 4 * place + 4 * to.0 ≡ t.lo + 4 * (place + to.0) = omega arith in
          let found : is_word t (t.lo + 4 * place + 4 * to.0) ≡ true = ap (is_word t) at ∙ there (place + to.0) to.1 in
          ap (list_any (λ x. not (is_word t x))) (to.2 (t.lo + 4 * place) (omega (arith, to.1, high))) ∙ rw found refl

  stays : falls_off t (t.lo + 4 * place) fine.insn ≡ false
  stays = by_end fine.on
    where
      by_end : (insn_goes_on fine.insn ≡ false) ⊎ (place + 1 < n) → falls_off t (t.lo + 4 * place) fine.insn ≡ false
      by_end (inl stops) = rw stops refl
      by_end (inr less) = and_right (insn_goes_on fine.insn) (t.lo + 4 * place + 4 == end_of t) (not_there (t.lo + 4 * place + 4) (end_of t) (omega (arith, ends, less)))

  not_astray : is_astray t (t.lo + 4 * place) Plain fine.insn ≡ false
  not_astray = rw straight refl

  pub no_fault : fault_of t (t.lo + 4 * place) (plain_word word) ≡ None
  no_fault =
      let read : insn_in (plain_word word) ≡ Some fine.insn = ap insn_of fine.is ∙ insn_of-word_of fine.insn fine.fits in
      rw (read, not_astray, stays, fine.no_auipc, fine.no_access) refl
