use Rattle.std.proofs.Common.{◌∙◌, ◌++◌, ap, length, arith}
use Rattle.sq_write.specs.Output.{section_header, note_kind}
use Rattle.sq_write.specs.Laid.{seen, section_headers}
use Rattle.sq_write.proofs.Files.{two}
use Rattle.sq_write.proofs.PieceWalks.{small_parts}
use Rattle.sq_write.proofs.output.push_sections.Goals as goal

pub stored-size-requires : goal.stored-size-requires
stored-size-requires c =
    let small = small_parts (seen c.args.p.now) c.requires in
    omega (arith, small.sum)

pub length_of-entries-requires : goal.length_of-entries-requires
length_of-entries-requires c =
    let small = small_parts (seen c.args.p.now) c.requires in
    omega (arith, small.sum, ap length c.deref.ensures.value)

pub length_of-note-requires : goal.length_of-note-requires
length_of-note-requires c =
    let small = small_parts (seen c.args.p.now) c.requires in
    omega (arith, small.sum, ap length c.deref-2.ensures.value)

pub returns : goal.returns
unfolding section_headers
returns c =
    let f0 = c.args.file.now.items in
    let f1 = c.push.new.file.items in
    let f2 = c.push-2.new.file.items in
    let f3 = c.push-3.new.file.items in
    let f4 = c.push-4.new.file.items in
    let f5 = c.push-5.new.file.items in
    let f6 = c.push-6.new.file.items in
    let f7 = c.push-7.new.file.items in
    let l = c.args.l.now in
    let p = seen c.args.p.now in
    let size = c.stored-size.ensures in
    let entries = c.length_of-entries.ensures ∙ ap length c.deref.ensures.value in
    let note = c.length_of-note.ensures ∙ ap length c.deref-2.ensures.value in
    let h0 = c.in_ok-push.ensures ∙ ap (λ h. f0 ++ section_header h) c.null.ensures in
    let h1 = c.in_ok-push-2.ensures ∙ ap (λ h. f1 ++ section_header h) c.text.ensures ∙ ap (λ n. f1 ++ section_header (record { name = 1; kind = 1; flags = 6; address = n; offset = l.text; size = c.stored-size.result; link = 0; info = 0; align = 4; entry_size = 0 })) c.address-start.ensures
    ∙ ap (λ n. f1 ++ section_header (record { name = 1; kind = 1; flags = 6; address = p.text.address; offset = l.text; size = n; link = 0; info = 0; align = 4; entry_size = 0 })) size in
    let h2 = c.in_ok-push-3.ensures ∙ ap (λ h. f2 ++ section_header h) c.symbol_table.ensures in
    let h3 = c.in_ok-push-4.ensures ∙ ap (λ h. f3 ++ section_header h) c.symbol_names.ensures in
    let h4 = c.in_ok-push-5.ensures ∙ ap (λ h. f4 ++ section_header h) c.relocations.ensures
    ∙ ap (λ n. f4 ++ section_header (record { name = 23; kind = 4; flags = 0; address = 0; offset = l.entries; size = n; link = 2; info = 1; align = 4; entry_size = 12 })) entries in
    let h5 = c.in_ok-push-6.ensures ∙ ap (λ h. f5 ++ section_header h) c.note.ensures
    ∙ ap (λ n. f5 ++ section_header (record { name = 34; kind = note_kind; flags = 0; address = 0; offset = l.note; size = n; link = 0; info = 0; align = 4; entry_size = 0 })) note in
    let h6 = c.in_ok-push-7.ensures ∙ ap (λ h. f6 ++ section_header h) c.section_names.ensures in
    two f0 f1 f7 _ _ h0 (two f1 f2 f7 _ _ h1 (two f2 f3 f7 _ _ h2 (two f3 f4 f7 _ _ h3 (two f4 f5 f7 _ _ h4 (two f5 f6 f7 _ _ h5 h6)))))
