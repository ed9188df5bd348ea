-- Sums of words.
use Rattle.std.proofs.Common.{◌≡◌, ℕ, suc, ◌+◌, ◌∙◌, sym, ap, inl, inr, drop, add-one, drop-cons, Some, slice_get, ◌<◌, ◌≤◌, false, List, [], ◌∷◌, ◌++◌, length, sum_by, refl, arith}
use Rattle.std.proofs.lemmas.List.Sums.{sum_by-cons, sum_by-take-drop}
use Rattle.std.proofs.lemmas.Option.{slice_get_cases}
use Rattle.sq_graph.specs.declared.item.Item.{Item}
use Rattle.sq_graph.specs.declared.item.Term.{Term}
use Rattle.sq_graph.specs.declared.item.Term.TheVariants.{Fall, Jump, Branch, Call, PartJump, Indirect, Stop}
use Rattle.sq_graph.specs.Graph.{Block, Procedure, Graph}
use Rattle.sq_graph.specs.Blocks.{body_of, procedure_body}
use Rattle.sq_graph.specs.Rules.{last_goes_on}
use Rattle.sq_graph.specs.Terms.{goes_on}
use Rattle.sq_graph.specs.Words.{term_words, block_words, procedure_words}

-- the last block has a term other than Fall, so where blocks are left, a word is left
pub stops_in_a_word : (t : Term) → goes_on t ≡ false → 1 ≤ term_words t
stops_in_a_word Fall e = absurd (cc)
stops_in_a_word (Jump to) e = omega arith
stops_in_a_word (Branch c a b to) e = omega arith
stops_in_a_word (Call link to) e = omega arith
stops_in_a_word (PartJump link part to) e = omega arith
stops_in_a_word (Indirect link at offset) e = omega arith
stops_in_a_word (Stop word) e = omega arith

pub word_is_left : (b : Block) (blocks : List Block) → last_goes_on (b ∷ blocks) ≡ false → 1 ≤ sum_by block_words (b ∷ blocks)
word_is_left b [] e = omega (arith, sum_by-cons block_words b [], stops_in_a_word b.term e)
word_is_left b (next ∷ rest) e = omega (arith, sum_by-cons block_words b (next ∷ rest), word_is_left next rest e)

pub last_behind : (front : List Block) (b : Block) (back : List Block) → last_goes_on (front ++ b ∷ back) ≡ last_goes_on (b ∷ back)
last_behind [] b back = refl
last_behind (x ∷ []) b back = refl
last_behind (x ∷ y ∷ front) b back = last_behind (y ∷ front) b back

-- what a loop knows at a procedure
pub record ProcedureHere (g : Graph) (k : ℕ) (body : List Item) : Type 0 where
  pub procedure : Procedure
  pub found : slice_get g.procedures k ≡ Some procedure
  pub body_is : body ≡ procedure.body
  pub rest : drop k g.procedures ≡ procedure ∷ drop (k + 1) g.procedures
  pub words : procedure_words procedure ≡ length body + 1
  pub sum : sum_by procedure_words (drop k g.procedures) ≡ procedure_words procedure + sum_by procedure_words (drop (k + 1) g.procedures)
  pub few : procedure_words procedure ≤ sum_by procedure_words g.procedures

pub procedure_here : (g : Graph) (k : ℕ) (body : List Item) → k < length g.procedures → body ≡ body_of g k → ProcedureHere g k body
procedure_here g k body within is =
    elim ((slice_get_cases g.procedures k).1) [
      | inl x ↦
          let rest : drop k g.procedures ≡ x.0 ∷ drop (k + 1) g.procedures = rw add-one (drop-cons g.procedures k x.0 within ∙ ap (λ p. p ∷ drop (suc k) g.procedures) x.3) in
          let sum : sum_by procedure_words (drop k g.procedures) ≡ procedure_words x.0 + sum_by procedure_words (drop (k + 1) g.procedures) = ap (sum_by procedure_words) rest ∙ sum_by-cons procedure_words x.0 (drop (k + 1) g.procedures) in
          record {
            procedure = x.0;
            found = x.2;
            body_is = is ∙ ap procedure_body x.2;
            rest = rest;
            words = ap (λ items. length items + 1) (sym (is ∙ ap procedure_body x.2));
            sum = sum;
            few = omega (arith, sum, sum_by-take-drop procedure_words g.procedures k);
          }
      | inr past ↦ absurd (omega (arith, past.0))
    ]
