use Rattle.std.proofs.Common.{◌≡◌, ◌==◌, ℕ, Bool, List, length, subst}
use Rattle.frame_classes.specs.declared.example.Difference.{Difference}
use Rattle.text_every_frame.proofs.Saying.{said_at}
use Rattle.text_every_frame.proofs.comparing.write_port.Goals as goal

pub returns : goal.returns
returns g c =
    let none : c.is_empty.result ≡ (length c.in_ok-found.found.items == 0) = rw (← c.as_slice-shown.ensures.value) c.is_empty.ensures in
    said_at _ _ c.args.port c.args.least c.in_ok-found.found.items c.is_empty.result none c.in_ok-found.ensures
