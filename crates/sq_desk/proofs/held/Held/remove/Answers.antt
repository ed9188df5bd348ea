-- the map has nothing under the name's text
use Rattle.std.proofs.Common.{None}
use Rattle.sq_desk.proofs.FilesUpdated.{files_updated}
use Rattle.sq_desk.proofs.held.Held.remove.Goals as goal

pub returns-clause-file : goal.returns-clause-file
returns-clause-file c =
    files_updated (λ file. file.items) c.args.self.now.files c.remove-file.new.self c.args.name.now None c.remove-file.ensures.updates
