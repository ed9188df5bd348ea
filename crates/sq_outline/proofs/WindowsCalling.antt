-- Items that equal a procedure's body become a call of it.
use Rattle.std.proofs.Common.{◌≡◌, ℕ, ◌-◌, List, [], ◌∷◌, length, inl, inr, refl, sym, ◌∙◌, subst, arith}
use Rattle.std.specs.Prelude.{Contains}
use Rattle.sq_graph.specs.declared.item.Item.{Item}
use Rattle.sq_graph.specs.Graph.{Procedure, Graph}
use Rattle.sq_graph.specs.Blocks.{HasProcedure, body_of}
use Rattle.sq_graph.specs.Matches.{registers_of, IsPairIn, IsPair, AreSameForms, Match}
use Rattle.sq_graph.specs.Rules.{IsGraph}
use Rattle.sq_graph.proofs.AlikeGraphs.{alike_itself}
use Rattle.law_patch.specs.Calls.{IsCallable, IsMatching}
use Rattle.sq_finger.specs.declared.places.WindowAt.{WindowAt}
use Rattle.sq_finger.specs.Lines.{line_of}
use Rattle.sq_rename.proofs.Forms.{shape_form}
use Rattle.sq_pass.specs.Applied.{IsApplied}
use Rattle.sq_outline.specs.WindowsInside.{IsCalledInside, MayCallInside, called_inside}
use Rattle.sq_outline.proofs.Standing.{one_call}
use Rattle.sq_outline.proofs.WindowsLining.{place_listed}

-- EQUAL ITEMS MATCH

pair_itself : (xs : List ℕ) (r s : ℕ) → IsPairIn xs xs r s → r ≡ s
pair_itself [] r s pair = absurd pair
pair_itself (x ∷ xs) r s (inl here) = here.0 ∙ sym here.1
pair_itself (x ∷ xs) r s (inr later) = pair_itself xs r s later

pub pairs_itself : (ps : List Procedure) (items : List Item) (r s : ℕ) → IsPair ps items items r s → r ≡ s
pairs_itself ps [] r s pair = absurd pair
pairs_itself ps (item ∷ items) r s (inl here) = pair_itself (registers_of ps item) r s here
pairs_itself ps (item ∷ items) r s (inr later) = pairs_itself ps items r s later

forms_itself : (items : List Item) → AreSameForms items items
forms_itself [] = tt
forms_itself (item ∷ items) = (shape_form item item refl, forms_itself items)

pub match_itself : (ps : List Procedure) (items : List Item) → Match ps items items
match_itself ps items = record {
  forms = forms_itself items;
  there = λ r s t p q. sym (pairs_itself ps items r s p) ∙ pairs_itself ps items r t q;
  back = λ q r s p t. pairs_itself ps items q s p ∙ sym (pairs_itself ps items r s t);
  zero_there = λ s p. sym (pairs_itself ps items 0 s p);
  zero_back = λ r p. pairs_itself ps items r 0 p;
  first = λ r s p unlike. absurd (unlike (sym (pairs_itself ps items r s p)));
}

pub callable_matches : (g : Graph) (block at procedure : ℕ) → IsCallable g block at procedure → IsMatching g block at procedure
callable_matches g block at procedure can = record {
  block_there = can.block_there;
  procedure_there = can.procedure_there;
  within = can.within;
  match = subst (λ is. Match g.procedures is (body_of g procedure)) (sym can.items) (match_itself g.procedures (body_of g procedure));
  pairs_die = λ r s pair unlike.
      absurd (unlike (sym (pairs_itself g.procedures (body_of g procedure) r s (subst (λ is. IsPair g.procedures is (body_of g procedure) r s) can.items pair))));
  link_dies = can.dead;
}

-- ROW V

pub inside_applied : (g : Graph) (block at procedure saving : ℕ) → IsGraph g → IsCalledInside g block at procedure saving → IsApplied saving (called_inside g block at procedure) g (called_inside g block at procedure)
inside_applied g block at procedure saving rules can =
    let one = one_call g (record { block = block; at = at }) procedure rules (callable_matches g block at procedure can.callable) (let s = can.saves in omega arith) in
    record {
      rules = one.rules;
      follows = one.follows;
      sound = one.sound;
      reach = one.reach;
      words = omega (arith, one.words, can.saves);
      described = alike_itself (called_inside g block at procedure);
      kept = λ n has. refl;
    }

-- there is one saving
pub may_call_inside : (g : Graph) (block at procedure saving : ℕ) → IsCalledInside g block at procedure saving → MayCallInside g block at procedure
may_call_inside g block at procedure saving can =
    let is : saving ≡ length (body_of g procedure) - 1 = omega (arith, can.saves) in subst (IsCalledInside g block at procedure) is can

-- where from no place on items may become a call, there is none
pub nowhere_inside : (g : Graph) (line : List WindowAt) → line ≡ line_of g
    → ((p : WindowAt) → Contains line p → (procedure : ℕ) → HasProcedure g procedure → ¬ MayCallInside g p.block p.at procedure)
    → (block at procedure : ℕ) → ¬ MayCallInside g block at procedure
nowhere_inside g line whole none block at procedure can =
    let listed = place_listed g block at can.callable.block_there (let within = can.callable.within in omega arith) in
    none (record { block = block; at = at }) (subst (λ (ps : List WindowAt). Contains ps (record { block = block; at = at })) (sym whole) listed) procedure can.callable.procedure_there can
