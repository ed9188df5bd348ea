use Rattle.std.proofs.Common.{◌∙◌, ◌++◌, ap}
use Rattle.sq_write.specs.Output.{file_header}
use Rattle.sq_write.specs.Laid.{seen}
use Rattle.sq_write.proofs.Files.{file_is}
use Rattle.sq_write.proofs.output.output_file.Goals as goal

pub returns : goal.returns
returns c =
    let header = c.in_ok-push_file_header.ensures ∙ ap (λ n. c.in_ok-file.file.items ++ file_header c.args.p.now.entry n c.layout_of-l.result.sections) c.count_of-count.ensures in
    file_is (seen c.args.p.now) c.layout_of-l.result c.in_ok-file.file.items c.push_file_header.new.file.items c.push_headers.new.file.items c.push_bytes.new.file.items c.push_contents.new.file.items c.push_gap.new.file.items c.push_sections.new.file.items c.layout_of-l.ensures c.in_ok-file.ensures.items header c.in_ok-push_headers.ensures c.in_ok-push_bytes.ensures c.in_ok-push_contents.ensures c.in_ok-push_gap.ensures c.in_ok-push_sections.ensures
