use Rattle.std.proofs.Common.{◌∙◌, sym, subst}
use Rattle.sq_graph.specs.Slotted.{IsSlotted}
use Rattle.sq_graph.proofs.Slotting.{parts_slotted}
use Rattle.sq_graph.specs.Parts.{graph_of_parts}
use Rattle.sq_lifted.proofs.EarlyGraphs.{found_noted, seen_rules, seen_count, seen_slotted}
use Rattle.sq_lifted.proofs.lifts.early_graph.Goals as goal

pub from_parts-requires-clause-rules : goal.from_parts-requires-clause-rules
from_parts-requires-clause-rules c =
    let found = found_noted c.args.elf.now c.bytes.result.now c.args.relocs.now c.args.noted.now.program.text c.args.noted.now.program.reached c.deref.result.now c.args.noted.now.notes.items c.code_words-code_words.result.now c.entry.result c.bytes.ensures.value c.bytes_fit.ensures c.requires.same c.code_words-code_words.ensures.accepted c.code_words-code_words.ensures.value c.deref.ensures.value c.requires.noted c.bytes.ensures.accepted c.entry.ensures in
    let parts = graph_of_parts c.parts.result.blocks.now c.parts.result.items.now c.parts.result.entry c.parts.result.code_words.now c.parts.result.procedures.now in
    let same =
    (λ i. graph_of_parts (c.parts.ensures.blocks i) (c.parts.ensures.items i) (c.parts.ensures.entry i) (c.parts.ensures.code_words i) (c.parts.ensures.procedures i))
    ∙ c.in_ok-parts.ensures.graph
    in
    seen_rules c.args.elf.now c.args.noted.now.program.text c.args.noted.now.program.reached c.deref.result.now c.code_words-code_words.result.now c.entry.result found parts same

pub from_parts-requires-clause-small : goal.from_parts-requires-clause-small
from_parts-requires-clause-small c =
    let found = found_noted c.args.elf.now c.bytes.result.now c.args.relocs.now c.args.noted.now.program.text c.args.noted.now.program.reached c.deref.result.now c.args.noted.now.notes.items c.code_words-code_words.result.now c.entry.result c.bytes.ensures.value c.bytes_fit.ensures c.requires.same c.code_words-code_words.ensures.accepted c.code_words-code_words.ensures.value c.deref.ensures.value c.requires.noted c.bytes.ensures.accepted c.entry.ensures in
    let parts = graph_of_parts c.parts.result.blocks.now c.parts.result.items.now c.parts.result.entry c.parts.result.code_words.now c.parts.result.procedures.now in
    let same =
    (λ i. graph_of_parts (c.parts.ensures.blocks i) (c.parts.ensures.items i) (c.parts.ensures.entry i) (c.parts.ensures.code_words i) (c.parts.ensures.procedures i))
    ∙ c.in_ok-parts.ensures.graph
    in
    seen_count c.args.elf.now c.args.noted.now.program.text c.args.noted.now.program.reached c.deref.result.now c.code_words-code_words.result.now c.entry.result found parts same

pub returns-clause-graph : goal.returns-clause-graph
returns-clause-graph c =
    let found = found_noted c.args.elf.now c.bytes.result.now c.args.relocs.now c.args.noted.now.program.text c.args.noted.now.program.reached c.deref.result.now c.args.noted.now.notes.items c.code_words-code_words.result.now c.entry.result c.bytes.ensures.value c.bytes_fit.ensures c.requires.same c.code_words-code_words.ensures.accepted c.code_words-code_words.ensures.value c.deref.ensures.value c.requires.noted c.bytes.ensures.accepted c.entry.ensures in
    let parts = graph_of_parts c.parts.result.blocks.now c.parts.result.items.now c.parts.result.entry c.parts.result.code_words.now c.parts.result.procedures.now in
    let same =
    (λ i. graph_of_parts (c.parts.ensures.blocks i) (c.parts.ensures.items i) (c.parts.ensures.entry i) (c.parts.ensures.code_words i) (c.parts.ensures.procedures i))
    ∙ c.in_ok-parts.ensures.graph
    in
    seen_slotted c.args.elf.now c.args.noted.now.program.text c.args.noted.now.program.reached c.deref.result.now c.code_words-code_words.result.now c.entry.result found c.in_ok-graph.graph.graph (c.in_ok-graph.ensures.graph ∙ same)

pub returns-clause-slotted : goal.returns-clause-slotted
returns-clause-slotted c =
    let found = found_noted c.args.elf.now c.bytes.result.now c.args.relocs.now c.args.noted.now.program.text c.args.noted.now.program.reached c.deref.result.now c.args.noted.now.notes.items c.code_words-code_words.result.now c.entry.result c.bytes.ensures.value c.bytes_fit.ensures c.requires.same c.code_words-code_words.ensures.accepted c.code_words-code_words.ensures.value c.deref.ensures.value c.requires.noted c.bytes.ensures.accepted c.entry.ensures in
    let parts = graph_of_parts c.parts.result.blocks.now c.parts.result.items.now c.parts.result.entry c.parts.result.code_words.now c.parts.result.procedures.now in
    let same =
    (λ i. graph_of_parts (c.parts.ensures.blocks i) (c.parts.ensures.items i) (c.parts.ensures.entry i) (c.parts.ensures.code_words i) (c.parts.ensures.procedures i))
    ∙ c.in_ok-parts.ensures.graph
    in
    subst IsSlotted (sym c.in_ok-graph.ensures.graph) (parts_slotted c.parts.result.blocks.now c.parts.result.items.now c.parts.result.entry c.parts.result.code_words.now c.parts.result.procedures.now (seen_rules c.args.elf.now c.args.noted.now.program.text c.args.noted.now.program.reached c.deref.result.now c.code_words-code_words.result.now c.entry.result found parts same))
