use Rattle.std.proofs.Common.{inl, inr}
use Rattle.migration_check.proofs.ports.ports_of.Goals as goal

pub returns : goal.returns
returns c =
    let first = c.in_ok-add_ports.ensures in
    let both = c.in_ok-add_ports-2.ensures in
    record {
      one = λ port named. both.each port (inl (first.each port (inr named)));
      other = λ port named. both.each port (inr named);
    }
