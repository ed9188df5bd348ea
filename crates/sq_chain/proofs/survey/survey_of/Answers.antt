use Rattle.std.proofs.Common.{◌≡◌, ◌∙◌, arith}
use Rattle.std.proofs.lemmas.Bool.{eqb-true}
use Rattle.sq_chain.specs.Surveys.{IsLaidOut}
use Rattle.sq_chain.specs.Places.{placed_at}
use Rattle.sq_chain.proofs.Lighter.{none_short}
use Rattle.sq_chain.proofs.Surveyed.{below_is, room_is}
use Rattle.sq_chain.proofs.survey.survey_of.Goals as goal

pub fallen_addresses-fallen-requires : goal.fallen_addresses-fallen-requires
fallen_addresses-fallen-requires c =
    let g = c.args.graph.now.graph in
    let laid : IsLaidOut g c.deref.result.now = record { rules = c.learn.ensures.rules; few = c.learn.ensures.few; listed = c.deref.ensures.value ∙ c.in_ok-listing.ensures.extents } in
    let there = room_is g c.in_ok-listing.listing.names c.in_ok-room.room (below_is g c.in_ok-listing.listing.names c.in_ok-listing.ensures.names) c.in_ok-room.ensures.within c.in_ok-room.ensures.none in
    (g, laid, there)

pub returns : goal.returns
returns c =
    let g = c.args.graph.now.graph in
    let laid : IsLaidOut g c.deref.result.now = record { rules = c.learn.ensures.rules; few = c.learn.ensures.few; listed = c.deref.ensures.value ∙ c.in_ok-listing.ensures.extents } in
    let there = room_is g c.in_ok-listing.listing.names c.in_ok-room.room (below_is g c.in_ok-listing.listing.names c.in_ok-listing.ensures.names) c.in_ok-room.ensures.within c.in_ok-room.ensures.none in
    record {
      names = below_is g c.in_ok-listing.listing.names c.in_ok-listing.ensures.names;
      addresses = c.fallen_addresses-fallen.ensures.addresses g laid there;
      falls = c.fallen_addresses-fallen.ensures.falls g laid there;
      near = λ none.
          let laid' : IsLaidOut g c.deref-2.result.now = record { rules = c.learn.ensures.rules; few = c.learn.ensures.few; listed = c.deref-2.ensures.value ∙ c.in_ok-listing.ensures.extents } in
          let zero : c.count_short-near.result ≡ 0 = eqb-true c.count_short-near.result 0 none in
          let all = c.count_short-near.ensures.all g laid' (omega (arith, zero)) in
          none_short g c.learn.ensures.rules (placed_at c.fallen_addresses-fallen.result.addresses) (c.fallen_addresses-fallen.ensures.addresses g laid there) (omega (arith, zero, all));
      words = omega (arith, c.in_ok-listing.ensures.words, c.words_of_procedures.ensures);
      branches = c.in_ok-branches.ensures g (c.deref-4.ensures.value ∙ c.in_ok-listing.ensures.extents);
    }
