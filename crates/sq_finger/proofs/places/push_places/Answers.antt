use Rattle.std.proofs.Common.{◌≡◌, ◌++◌, ◌∷◌, [], ◌+◌, inl, inr, drop, ap, sym, ◌∙◌, append_assoc, arith}
use Rattle.std.proofs.lemmas.Option.{slice_get_cases}
use Rattle.sq_finger.specs.Windows.{is_window, places_from}
use Rattle.sq_finger.proofs.Placing.{place_there, place_absent, to_end}
use Rattle.sq_finger.proofs.places.push_places.Goals as goal
use Rattle.sq_finger.proofs.places.push_places.Goals.{then-is_window+in_ok-push, else-is_window}

pub loop-at-preserved : goal.loop-at-preserved
loop-at-preserved c =
    let n = c.args.n in
    let block = c.args.block in
    let items = c.args.items.now in
    let at = c.loop-at.at in
    let done = c.loop-at.places.items in
    let told : c.is_window.result ≡ is_window n (drop at items) = c.is_window.ensures ∙ ap (is_window n) (to_end items at) in
    elim ((slice_get_cases items at).1) [
      | inl y ↦ elim c.if-is_window.branch [
        | then-is_window+in_ok-push w ↦
            rw (w.places-is, w.in_ok-push.ensures.items)
            (append_assoc done (record { block = block; at = at } ∷ []) (places_from n block (at + 1) (drop (at + 1) items))
            ∙ ap (λ ps. done ++ ps) (sym (place_there n block items at y.0 y.1 y.3 (sym told ∙ w.if-is_window.true)))
            ∙ c.loop-at.invariant)
        | else-is_window w ↦
            rw w.places-is (ap (λ ps. done ++ ps) (sym (place_absent n block items at y.0 y.1 y.3 (sym told ∙ w.if-is_window.false))) ∙ c.loop-at.invariant)
      ]
      | inr past ↦ absurd (omega arith)
    ]
