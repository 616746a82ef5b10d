use Rattle.edge_profile.proofs.LaidOut.{funcs_rise}
use Rattle.edge_profile.proofs.places.count_up_to.Goals as goal

pub starts_up_to-requires : goal.starts_up_to-requires
starts_up_to-requires c = funcs_rise c.args.funcs.now c.requires
