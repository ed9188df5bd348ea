use Rattle.sq_arena.specs.Entries.{through, behind}
use Rattle.sq_arena.proofs.EntriesLaws.{KeepsOthers-insert_after, without-insert_after}
use Rattle.sq_arena.proofs.ArenaWrites.{FallsAt-key}
use Rattle.sq_arena.proofs.Arena.insert_after.Goals as goal

pub insert_behind-requires-clause-place : goal.insert_behind-requires-clause-place
insert_behind-requires-clause-place g c =
    (through c.args.self.now.entries c.args.key, behind c.args.self.now.entries c.args.key, FallsAt-key c.args.self.now.entries c.args.key c.requires.key)

pub returns-clause-entries : goal.returns-clause-entries
returns-clause-entries g c =
    c.insert_behind.ensures.entries (through c.args.self.now.entries c.args.key) (behind c.args.self.now.entries c.args.key) (FallsAt-key c.args.self.now.entries c.args.key c.requires.key)

pub returns-clause-others : goal.returns-clause-others
returns-clause-others g c =
    let list = c.insert_behind.ensures.entries (through c.args.self.now.entries c.args.key) (behind c.args.self.now.entries c.args.key) (FallsAt-key c.args.self.now.entries c.args.key c.requires.key) in
    rw list (KeepsOthers-insert_after c.args.self.now.entries c.args.key c.insert_behind.result c.args.value)

pub returns-clause-rest : goal.returns-clause-rest
returns-clause-rest g c =
    let list = c.insert_behind.ensures.entries (through c.args.self.now.entries c.args.key) (behind c.args.self.now.entries c.args.key) (FallsAt-key c.args.self.now.entries c.args.key c.requires.key) in
    rw list (without-insert_after c.args.self.now.entries c.args.key c.insert_behind.result c.args.value c.insert_behind.ensures.fresh)
