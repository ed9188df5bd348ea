use Rattle.std.proofs.Common.{◌≡◌, ◌+◌, None, Some, sym, ap, ◌∙◌, subst, arith}
use Rattle.std.proofs.lemmas.Option.{slice_get-get_or}
use Rattle.sq_finger.proofs.Layouts.{name_there}
use Rattle.sq_lookup.specs.Tables.{number_at}
use Rattle.sq_tail.specs.Numbers.{AreWords}
use Rattle.sq_tail.proofs.Words.{words_skip, words_put}
use Rattle.sq_tail.proofs.search.word_places.Goals as goal
use Rattle.sq_tail.proofs.search.word_places.Goals.{in-Some+then-end_words-ne0+in_ok-insert, in-Some+else-end_words-ne0, in_default}

pub end_words-requires : goal.end_words-requires
end_words-requires c = name_there c.args.graph.now.graph c.args.names.now c.loop-i.i c.requires.names c.loop-i-test.true

pub loop-i-preserved : goal.loop-i-preserved
loop-i-preserved c =
    let g = c.args.graph.now.graph in
    let names = c.args.names.now in
    let numbers = c.args.numbers.now in
    let i = c.loop-i.i in
    let stands = slice_get-get_or numbers i None (omega (arith, c.loop-i-test.true, c.requires.many)) in
    elim c.match-numbers-i.branch [
      | in-Some+then-end_words-ne0+in_ok-insert w ↦
          subst (λ table. AreWords g names numbers (i + 1) (number_at table)) (sym w.places-is)
          (words_put g names numbers i (number_at c.loop-i.places) (number_at w.insert.new.self) w.in-Some.number (stands ∙ ap Some w.in-Some.is) (omega (arith, w.end_words.ensures, w.if-end_words-ne0.true)) w.in_ok-insert.ensures c.loop-i.invariant)
      | in-Some+else-end_words-ne0 w ↦
          subst (λ table. AreWords g names numbers (i + 1) (number_at table)) (sym w.places-is)
          (words_skip g names numbers i (number_at c.loop-i.places) (λ m e. omega (arith, w.end_words.ensures, w.if-end_words-ne0.false)) c.loop-i.invariant)
      | in_default w ↦
          subst (λ table. AreWords g names numbers (i + 1) (number_at table)) (sym w.places-is)
          (words_skip g names numbers i (number_at c.loop-i.places) (λ m e. absurd (let none : Some None ≡ Some (Some m) = sym (ap Some w.in_default.is) ∙ sym stands ∙ e in cc)) c.loop-i.invariant)
    ]
