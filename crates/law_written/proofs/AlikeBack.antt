-- A graph is back under its old names, and so differs from the lifted one in the names of blocks alone.
use Rattle.sq_elf.specs.Text.{text_of}
use Rattle.sq_graph.specs.Alike.{AreAlike}
use Rattle.sq_graph.proofs.AlikeGraphs.{alike_back}
use Rattle.sq_write.specs.Points.{new_address}
use Rattle.law_written.specs.Cutting.{lifted_back, LiftedBackIsAlike}
use Rattle.law_written.proofs.BlockPlaces.{one_to_one}
use Rattle.law_written.proofs.LiftedBack.{written_graphs_lift_back}

pub lifted_back_is_alike : LiftedBackIsAlike
lifted_back_is_alike = λ bytes g can canonical whole is every.
    let back : AreAlike g (lifted_back is g (text_of bytes).lo) = record {
      name = new_address g (text_of bytes).lo;
      one_to_one = one_to_one g (text_of bytes).lo canonical;
      is = written_graphs_lift_back bytes g can canonical whole is every;
    } in
    record { there = alike_back g (lifted_back is g (text_of bytes).lo) can.rules back; back = back }
