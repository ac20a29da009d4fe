use Rattle.mib_state.proofs.Standing.{is_held}
use Rattle.mib_state.proofs.mib.Mib.instance_at.Goals as goal

pub new-requires : goal.new-requires
new-requires c = is_held c.args.self.now.entities c.in_ok-class.class c.args.place c.in_ok-number.number c.in_ok-number.ensures.number
