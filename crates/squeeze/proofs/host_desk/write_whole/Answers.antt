-- one more write appends what it took of the rest
use Rattle.std.proofs.Common.{◌≡◌, ℕ, List, ◌++◌, take, drop, sym, ap, ◌∙◌, append_assoc}
use Rattle.std.proofs.lemmas.List.{take-append-drop, take_rest}
use Rattle.squeeze.proofs.Streams.{appends_more}
use Rattle.squeeze.proofs.host_desk.write_whole.Goals as goal

-- the bytes before and behind a cut of the rest
cut_more : (bytes written rest : List ℕ) (count : ℕ) → bytes ≡ written ++ rest → bytes ≡ (written ++ take count rest) ++ drop count rest
cut_more bytes written rest count all =
    all ∙ ap (λ more. written ++ more) (sym (take-append-drop count rest)) ∙ sym (append_assoc written (take count rest) (drop count rest))

pub loop-rest-preserved : goal.loop-rest-preserved
loop-rest-preserved g c =
    let written : List ℕ = c.loop-rest.invariant.0 in
    let rest : List ℕ = c.loop-rest.rest.now in
    let count : ℕ = c.in-Ok.count in (
      written ++ take count rest,
      cut_more c.args.bytes.now written rest count c.loop-rest.invariant.1 ∙ ap (λ more. (written ++ take count rest) ++ more) (sym (take_rest rest count)),
      appends_more _ _ _ written (take count rest) c.loop-rest.invariant.2 c.in-Ok.ensures.bytes,
    )
