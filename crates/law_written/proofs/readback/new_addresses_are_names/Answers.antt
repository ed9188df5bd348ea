use Rattle.law_written.proofs.BlockPlaces.{new_addresses_are_names}
use Rattle.law_written.proofs.readback.new_addresses_are_names.Goals as goal

pub returns : goal.returns
returns c = λ bytes g can canonical. new_addresses_are_names bytes g can canonical
