use Rattle.std.proofs.Common.{◌∙◌, ◌<◌, get_or, ap, sym, subst, length}
use Rattle.sq_live.specs.Liveness.{places_of}
use Rattle.sq_live.proofs.Tables.{shown_at}
use Rattle.sq_live.proofs.liveness.Liveness.live_at.Goals as goal

pub at-requires : goal.at-requires
at-requires c =
    let places = c.self.inside.places in
    subst (λ xs. c.args.place < length xs) (ap (λ t. places_of t c.args.block) (sym c.self.view_is) ∙ shown_at places.sets.items places.spans.items c.args.block) c.requires

pub returns : goal.returns
returns c =
    let places = c.self.inside.places in
    c.at.ensures ∙ ap (λ xs. get_or xs c.args.place 0) (sym (ap (λ t. places_of t c.args.block) (sym c.self.view_is) ∙ shown_at places.sets.items places.spans.items c.args.block))
