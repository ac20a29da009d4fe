use Rattle.std.proofs.Common.{◌^◌, ◌<◌, ℕ, ◌∙◌, ap, arith}
use Rattle.std.specs.Prelude.{All}
use Rattle.std.proofs.lemmas.List.Elements.{All-from_get_or}
use Rattle.rule_index.specs.Head.{head_read}
use Rattle.port_plan.proofs.Meant.{is_head, read_fault}
use Rattle.port_plan.proofs.port_plan.PortPlan.read.Goals as goal

pub returns-in-Ok-clause-head : goal.returns-in-Ok-clause-head
returns-in-Ok-clause-head c =
    let bytes = c.args.bytes.now in
    let fits : All (λ b. b < 2 ^ 8) bytes = All-from_get_or (λ (b : ℕ). b < 2 ^ 8) bytes 0 (λ i within. omega (arith, c.type_inv.bytes i)) in
    is_head c.args.self.now bytes c.in-Ok.head (omega (arith, c.input_tpid.ensures, c.input_tpid.type_inv)) fits
    (c.in-Ok.ensures ∙ ap (λ (input : ℕ). head_read input bytes) c.input_tpid.ensures)

pub returns-in-Err-clause-dropped : goal.returns-in-Err-clause-dropped
returns-in-Err-clause-dropped c = λ e port planned.
    read_fault e port c.args.bytes.now c.args.self.now c.in-Err.fault c.from.result planned
    (c.in-Err.ensures ∙ ap (λ (input : ℕ). head_read input c.args.bytes.now) c.input_tpid.ensures) c.from.ensures
