use Rattle.std.proofs.Common.{ℕ, List, subst, sym}
use Rattle.text_every_frame.specs.Ports.{ArePorts}
use Rattle.text_every_frame.proofs.Listing.{of_sides}
use Rattle.text_every_frame.proofs.ports.ports_of_sides.Goals as goal

pub returns : goal.returns
returns c =
    let others : ArePorts c.args.asked c.args.after.now.entities c.deref.result.now =
    subst (λ (l : List ℕ). ArePorts c.args.asked c.args.after.now.entities l) (sym c.deref.ensures.value) c.in_ok-ports_of.ensures in
    of_sides c.args.asked c.args.before.now.entities c.args.after.now.entities _ _ _ c.in_ok-ports.ensures others c.in_ok-add_ports.ensures
