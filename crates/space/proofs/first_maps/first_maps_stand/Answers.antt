use Rattle.space.proofs.Firsts.{first_maps_lem}
use Rattle.space.proofs.first_maps.first_maps_stand.Goals as goal

pub returns : goal.returns
returns c = first_maps_lem
