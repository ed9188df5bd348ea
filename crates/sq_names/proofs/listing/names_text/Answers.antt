use Rattle.std.proofs.Common.{◌∙◌, ap, flat_map}
use Rattle.sq_names.proofs.Entries.{then_so, listed}
use Rattle.sq_names.proofs.listing.names_text.Goals as goal

pub returns : goal.returns
returns c =
    then_so c.lines.result _ _ c.lines.ensures (λ text told.
    listed c.args.names.now c.args.tracks.now c.in_ok-entries.entries.items c.sort_unstable.new.self.items text.items
    c.in_ok-entries.ensures c.sort_unstable.ensures.permutation c.sort_unstable.ensures.sorted (told ∙ ap (flat_map _) c.as_slice.ensures.value))
