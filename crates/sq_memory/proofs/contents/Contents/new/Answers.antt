use Rattle.std.proofs.lemmas.List.Elements.{All-replicate}
use Rattle.sq_memory.specs.Contents.{regions_of, Serves}
use Rattle.sq_memory.proofs.contents.Contents.new.Goals as goal

pub invariant_of-result : goal.invariant_of-result
invariant_of-result g c =
    All-replicate (Serves (regions_of c.args.regions.items)) 64 c.nowhere.result (λ x i. absurd (c.nowhere.ensures x i))
