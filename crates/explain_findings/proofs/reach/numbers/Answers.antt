use Rattle.std.proofs.Common.{◌≡◌, Some, arith, sym}
use Rattle.std.specs.Prelude.{slice_get}
use Rattle.managed_entity.specs.Class.{class_number}
use Rattle.mib_state.specs.Entities.{instances_of}
use Rattle.explain_findings.proofs.Growing.{all_numbered, numbered_more}
use Rattle.explain_findings.proofs.reach.numbers.Goals as goal

pub each-preserved : goal.each-preserved
each-preserved c =
    let l = instances_of c.args.mib.now.entities (class_number c.args.class) in
    let there : slice_get l c.each.place ≡ Some c.in-Some.held.instance = sym (rw c.number.ensures.value at c.in-Some.ensures.instance) in record {
      so_far = numbered_more l c.each.place c.in-Some.held.instance c.number-in-Some.result _ _ there c.each.invariant.so_far c.number-in-Some.ensures c.in_ok-push.ensures.items;
      few = omega (arith, rw c.number.ensures.value at c.in-Some.ensures.room);
    }

pub returns : goal.returns
returns c =
    let l = instances_of c.args.mib.now.entities (class_number c.args.class) in
    all_numbered l c.each.place _ (sym (rw c.number.ensures.value at c.in_default.ensures.instance)) c.each.invariant.so_far
