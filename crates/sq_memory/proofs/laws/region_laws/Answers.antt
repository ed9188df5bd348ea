use Rattle.sq_memory.proofs.RegionLaws.{get-put, get-put_all, get-map_regions, put-map_regions}
use Rattle.sq_memory.proofs.laws.region_laws.Goals as goal

pub returns-clause-put : goal.returns-clause-put
returns-clause-put g c = get-put

pub returns-clause-put_range : goal.returns-clause-put_range
returns-clause-put_range g c = λ rs x cs. get-put_all cs rs x

pub returns-clause-map : goal.returns-clause-map
returns-clause-map g c = get-map_regions

pub returns-clause-map_put : goal.returns-clause-map_put
returns-clause-map_put g c = put-map_regions
