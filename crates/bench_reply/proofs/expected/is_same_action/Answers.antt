use Rattle.std.proofs.Common.{◌∙◌, ap, sym}
use Rattle.std.proofs.lemmas.Bool.{eq-eqb, eqb-true}
use Rattle.omci_msg.specs.Message.{code_of}
use Rattle.bench_reply.proofs.Actions.{same_code}
use Rattle.bench_reply.proofs.expected.is_same_action.Goals as goal

pub returns : goal.returns
returns c = (
  λ yes. same_code c.args.one c.args.other (sym c.code.ensures.value ∙ eqb-true c.code.result c.code-2.result yes ∙ c.code-2.ensures.value),
  λ same. eq-eqb c.code.result c.code-2.result (c.code.ensures.value ∙ ap code_of same ∙ sym c.code-2.ensures.value),
)
