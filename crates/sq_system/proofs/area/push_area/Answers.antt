use Rattle.std.proofs.Common.{◌≡◌, ◌+◌, ◌*◌, ◌%◌, ◌++◌, length, replicate, refl, ap, ◌∙◌, length-drop}
use Rattle.std.proofs.lemmas.Result.{IfOk-equal}
use Rattle.sq_system.specs.Starts.{start_of, argument_bytes, addresses_from, word_bytes}
use Rattle.sq_system.proofs.Areas.{area_appended}
use Rattle.sq_system.proofs.area.push_area.Goals as goal

-- the parts one behind another are the area
pub returns : goal.returns
returns c =
    let start = start_of c.args.start.now in
    let old = c.args.area.now.items in
    let count = c.saturating_sub-count.result in
    let first = c.from.result + c.args.room + 4 * (c.from-2.result + 3) in
    let counted : count ≡ length start.arguments = rw (length-drop c.args.start.now.skip c.args.start.now.words.now, ← c.len.ensures) c.saturating_sub-count.ensures in
    let placed : first ≡ start.base + c.args.room + 4 * (count + 3) = rw (c.from.ensures, c.from-2.ensures) refl in
    IfOk-equal c.push_arguments.result _ _ _ c.push_arguments.ensures (
    ap (λ area. area ++ argument_bytes start.arguments) (
    c.in_ok-push_zeros.ensures
    ∙ ap (λ area. area ++ replicate (8 + c.args.room % 16) 0) (
    c.in_ok-push_addresses.ensures ∙ ap (λ area. area ++ word_bytes (addresses_from first start.arguments)) c.in_ok-push_word.ensures))
    ∙ area_appended start c.args.room count first old c.requires.fits c.requires.room counted placed)
