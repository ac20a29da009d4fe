-- Each number of tags is that of the head that is taken for it.
use Rattle.std.proofs.Common.{◌^◌, ◌<◌, ℕ, arith}
use Rattle.std.specs.Prelude.{All}
use Rattle.std.proofs.lemmas.List.Elements.{All-from_get_or}
use Rattle.port_plan.proofs.Meant.{foreseen_head}
use Rattle.port_plan.proofs.port_plan.PortPlan.push_foreseen.Goals as goal

pub push_read-requires-clause-head : goal.push_read-requires-clause-head
push_read-requires-clause-head c =
    let bytes = c.args.bytes.now in
    let fits : All (λ b. b < 2 ^ 8) bytes = All-from_get_or (λ (b : ℕ). b < 2 ^ 8) bytes 0 (λ i within. omega (arith, c.type_inv.bytes i)) in
    foreseen_head c.args.self.now bytes c.of_tags.result c.args.tags 0 c.requires.foreseen fits c.in-0.is (omega arith) c.of_tags.ensures.read

pub push_read-requires-in-1-clause-head : goal.push_read-requires-in-1-clause-head
push_read-requires-in-1-clause-head c =
    let bytes = c.args.bytes.now in
    let fits : All (λ b. b < 2 ^ 8) bytes = All-from_get_or (λ (b : ℕ). b < 2 ^ 8) bytes 0 (λ i within. omega (arith, c.type_inv.bytes i)) in
    foreseen_head c.args.self.now bytes c.of_tags-in-1.result c.args.tags 1 c.requires.foreseen fits c.in-1.is (omega arith) c.of_tags-in-1.ensures.read

pub push_read-requires-in-2-clause-head : goal.push_read-requires-in-2-clause-head
push_read-requires-in-2-clause-head c =
    let bytes = c.args.bytes.now in
    let fits : All (λ b. b < 2 ^ 8) bytes = All-from_get_or (λ (b : ℕ). b < 2 ^ 8) bytes 0 (λ i within. omega (arith, c.type_inv.bytes i)) in
    foreseen_head c.args.self.now bytes c.of_tags-in-2.result c.args.tags 2 c.requires.foreseen fits c.in-2.is (omega arith) c.of_tags-in-2.ensures.read
