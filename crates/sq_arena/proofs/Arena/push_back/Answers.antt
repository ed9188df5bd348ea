use Rattle.std.proofs.Common.{[], ap, ◌∙◌, sym}
use Rattle.std.proofs.lemmas.List.{append-nil}
use Rattle.sq_arena.specs.Entries.{value_of, without}
use Rattle.sq_arena.proofs.EntriesLaws.{KeepsOthers-insert, without-insert}
use Rattle.sq_arena.proofs.ArenaWrites.{FallsAt-end}
use Rattle.sq_arena.proofs.Arena.push_back.Goals as goal

pub returns-clause-others : goal.returns-clause-others
returns-clause-others g c other differs =
    let end = FallsAt-end c.args.self.now.entries in
    let list = c.insert_behind.ensures.entries c.args.self.now.entries [] (record { whole = end.whole; ends = end.ends ∙ sym c.last-last.ensures }) in
    ap (λ xs. value_of xs other) list
    ∙ KeepsOthers-insert c.args.self.now.entries [] c.insert_behind.result c.args.value other differs
    ∙ ap (λ xs. value_of xs other) (append-nil c.args.self.now.entries)

pub returns-clause-rest : goal.returns-clause-rest
returns-clause-rest g c =
    let end = FallsAt-end c.args.self.now.entries in
    let list = c.insert_behind.ensures.entries c.args.self.now.entries [] (record { whole = end.whole; ends = end.ends ∙ sym c.last-last.ensures }) in
    let fresh = ap (λ xs. value_of xs c.insert_behind.result) (append-nil c.args.self.now.entries) ∙ c.insert_behind.ensures.fresh in
    ap (λ xs. without xs c.insert_behind.result) list
    ∙ without-insert c.args.self.now.entries [] c.insert_behind.result c.args.value fresh
    ∙ append-nil c.args.self.now.entries
