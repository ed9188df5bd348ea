use Rattle.std.proofs.Common.{◌≡◌, ℕ, List, [], ◌∷◌, ◌++◌, length, replicate, sym, ap, ◌∙◌, append-nil}
use Rattle.sq_write.specs.Output.{gap, symbol_table, symbol_names, section_names}
use Rattle.sq_write.proofs.Laying.{layout_more}
use Rattle.sq_write.proofs.output.push_contents.Goals as goal

part : (old new xs ys : List ℕ) → xs ≡ ys → new ≡ old ++ (replicate (gap (length old)) 0 ++ xs) → new ≡ old ++ (replicate (gap (length old)) 0 ++ ys)
part old new xs ys same is = is ∙ ap (λ bs. old ++ (replicate (gap (length old)) 0 ++ bs)) same

pub returns : goal.returns
returns c =
    let entries : List ℕ = c.args.p.now.entries.items in
    let note : List ℕ = c.args.p.now.note.items in
    let after_fourth : List (List ℕ) = section_names ∷ [] in
    let after_third : List (List ℕ) = note ∷ after_fourth in
    let after_second : List (List ℕ) = entries ∷ after_third in
    let after_first : List (List ℕ) = symbol_names ∷ after_second in
    let last : List ℕ = c.push_part-5.new.file.items in
    sym (
    layout_more c.args.file.now.items c.push_part.new.file.items symbol_table after_first c.in_ok-push_part.ensures
    ∙ layout_more c.push_part.new.file.items c.push_part-2.new.file.items symbol_names after_second c.in_ok-push_part-2.ensures
    ∙ layout_more c.push_part-2.new.file.items c.push_part-3.new.file.items entries after_third (part c.push_part-2.new.file.items c.push_part-3.new.file.items c.deref.result.now entries c.deref.ensures.value c.in_ok-push_part-3.ensures)
    ∙ layout_more c.push_part-3.new.file.items c.push_part-4.new.file.items note after_fourth (part c.push_part-3.new.file.items c.push_part-4.new.file.items c.deref-2.result.now note c.deref-2.ensures.value c.in_ok-push_part-4.ensures)
    ∙ layout_more c.push_part-4.new.file.items last section_names [] c.in_ok-push_part-5.ensures
    ∙ append-nil last)
