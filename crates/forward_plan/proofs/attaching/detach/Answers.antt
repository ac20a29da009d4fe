use Rattle.std.proofs.Common.{◌≡◌, ◌<◌, ◌∙◌, length, Some, refl, arith}
use Rattle.std.specs.Prelude.{slice_get, slice_index_or}
use Rattle.std.proofs.lemmas.List.{length-set}
use Rattle.std.proofs.lemmas.Option.{slice_get-get_or, slice_get_within}
use Rattle.mib_state.specs.Entities.{nothing}
use Rattle.forward_plan.specs.declared.naming.Naming.{Naming}
use Rattle.forward_plan.proofs.Attachments.{attaches, named_step, step_or_kept}
use Rattle.forward_plan.proofs.attaching.detach.Goals as goal

pub loop-naming-preserved : goal.loop-naming-preserved
loop-naming-preserved c =
    let place = c.loop-naming.naming-index in
    let names = c.args.names.now in
    let ports = c.loop-naming.ports in
    let before = c.loop-naming.invariant in
    let here : Naming = slice_index_or names place (record { number = 0; kind = 0; to = 0 }) in
    let held : slice_get names place ≡ Some here = slice_get-get_or names place _ c.loop-naming-test.true in
    let within : here.to < length ports = omega (arith, before.len, c.from.ensures) in
    let step = attaches nothing ports here.to (record { table = 255; mapper = 255 }) within refl in
    rw c.from.ensures (record {
      len = length-set ports here.to _ ∙ before.len;
      named = named_step nothing (λ (n : Naming). n.kind ≡ n.kind) names ports _ place here held step before.named;
      others = step_or_kept nothing c.args.ports.now ports _ here.to step before.others;
    })

pub returns-clause-named : goal.returns-clause-named
returns-clause-named c place naming held =
    let within = slice_get_within c.args.names.now place naming held in
    c.loop-naming.invariant.named place naming (omega (arith, within, c.loop-naming-test.false)) held refl
