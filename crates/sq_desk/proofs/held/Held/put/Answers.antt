-- the map has the new bytes under the name's text
use Rattle.std.proofs.Common.{Some}
use Rattle.std.specs.String.{string_bytes}
use Rattle.sq_desk.proofs.FilesUpdated.{files_updated}
use Rattle.sq_desk.proofs.held.Held.put.Goals as goal

pub returns-clause-ok : goal.returns-clause-ok
returns-clause-ok c =
    rw (← c.in_ok-name.ensures.ok, ← c.in_ok-bytes.ensures.items)
    (files_updated (λ file. file.items) c.args.self.now.files c.insert.new.self (string_bytes c.in_ok-name.name) (Some c.in_ok-bytes.bytes) c.in_ok-insert.ensures.updates)
