use Rattle.std.proofs.Common.{◌∙◌, ◌++◌, ap, sym, map, filter, nat_lt, nat_le}
use Rattle.std.specs.List.{flat_map}
use Rattle.sq_write.specs.Output.{relocation_table}
use Rattle.sq_write.specs.Points.{Point, text_points}
use Rattle.sq_write.specs.Written.{word_entry}
use Rattle.sq_write.proofs.Texts.{relocation_table-append}
use Rattle.sq_write.proofs.entries.text_and_entries.Goals as goal

pub returns-clause-entries : goal.returns-clause-entries
returns-clause-entries c =
    let g = c.args.placed.now.g.now.graph in
    let lo = c.args.placed.now.lo in
    let before = map (word_entry g lo) (filter (λ word. nat_lt word.at lo) g.code_words) in
    let middle = flat_map (λ (p : Point). p.entries) (text_points g lo) in
    let behind = map (word_entry g lo) (filter (λ word. nat_le lo word.at) g.code_words) in
    c.in_ok-push_entries_behind.ensures
    ∙ ap (λ bytes. bytes ++ relocation_table behind) (c.in_ok-push_text.ensures.entries ∙ ap (λ bytes. bytes ++ relocation_table middle) (c.in_ok-push_entries_before.ensures ∙ ap (λ bytes. bytes ++ relocation_table before) c.new-2.ensures.items))
    ∙ ap (λ bytes. bytes ++ relocation_table behind) (sym (relocation_table-append before middle))
    ∙ sym (relocation_table-append (before ++ middle) behind)
