use Rattle.sq_finger.proofs.Placing.{listed_window}
use Rattle.sq_finger.proofs.places.prints.Goals as goal

pub window-requires : goal.window-requires
window-requires c = listed_window c.args.graph.now.graph c.args.n c.requires.rules c.requires.some c.args.places.now c.loop-place.place-index (record { block = 0; at = 0 }) c.requires.places c.loop-place-test.true
