use Rattle.std.proofs.Common.{◌≡◌, Bor, Option, None, Some, is_some, refl, ◌∙◌, sym, ap}
use Rattle.std.specs.Option.{option_copied}
use Rattle.sq_arena.specs.Entries.{value_of}
use Rattle.sq_graph.specs.Blocks.{named}
use Rattle.sq_graph.proofs.LinkReads.{value_of-links}
use Rattle.sq_lookup.proofs.blocks.is_block.Goals as goal

some_copied : {T : Type 0} (o : Option (Bor T)) → is_some (option_copied o) ≡ is_some o
some_copied None = refl
some_copied (Some x) = refl

pub returns : goal.returns
returns c =
    let same : is_some (value_of (named c.args.graph.now.graph.blocks) c.args.name) ≡ c.is_some.result =
    sym (value_of-links c.links.result.now.entries c.args.graph.now.graph.blocks c.args.name c.links.ensures.blocks)
    ∙ ap is_some (sym c.get.ensures)
    ∙ some_copied c.get.result
    ∙ sym c.is_some.ensures in
    (λ some. same ∙ some, λ there. sym same ∙ there)
