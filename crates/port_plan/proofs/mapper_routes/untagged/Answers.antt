use Rattle.std.proofs.Common.{◌≢◌, ◌<◌, length, arith, refl, get_or-set_other, length-set, ◌∙◌}
use Rattle.port_plan.proofs.Routing.{all_below, all_default, bound_more, mapped_more}
use Rattle.port_plan.proofs.mapper_routes.untagged.Goals as goal

pub loop-dscp-init : goal.loop-dscp-init
loop-dscp-init c = record {
  whole = refl;
  mapped = λ d none. absurd (omega arith);
  default = refl;
  bound = λ place. all_below 65 _ place (omega arith);
}

pub loop-dscp-preserved : goal.loop-dscp-preserved
loop-dscp-preserved c =
    let before = c.loop-dscp.untagged in
    let dscp = c.loop-dscp.dscp in
    let within : dscp < length before = omega arith in
    let last : 64 ≢ dscp = omega arith in
    rw c.from.ensures (record {
      whole = length-set before dscp c.get.result ∙ c.loop-dscp.invariant.whole;
      mapped = mapped_more c.args.mapper.now before dscp c.get.result within c.get.ensures.value c.loop-dscp.invariant.mapped;
      default = get_or-set_other before dscp 64 c.get.result 0 last ∙ c.loop-dscp.invariant.default;
      bound = bound_more before dscp c.get.result c.get.ensures.bound c.loop-dscp.invariant.bound;
    })

pub returns-else-mapper-eq0-clause-value : goal.returns-else-mapper-eq0-clause-value
returns-else-mapper-eq0-clause-value c = λ dscp six. all_default c.args.mapper.now c.if-mapper-eq0.false dscp six

pub returns-else-mapper-eq0-clause-bound : goal.returns-else-mapper-eq0-clause-bound
returns-else-mapper-eq0-clause-bound c = λ place. all_below 65 _ place (omega arith)
