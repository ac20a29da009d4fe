use Rattle.std.proofs.Common.{◌≡◌, ◌∙◌, arith, ap, length}
use Rattle.std.specs.Prelude.{slice_get}
use Rattle.managed_entity.specs.Instance.{Instance}
use Rattle.managed_entity.specs.Shown.{mapper_instance}
use Rattle.forward_plan.specs.Attachment.{mapper_naming}
use Rattle.forward_plan.proofs.Names.{length_last, read_all, read_more}
use Rattle.forward_plan.proofs.naming.Namings.read_mappers.Goals as goal

pub loop-number-preserved : goal.loop-number-preserved
loop-number-preserved c =
    let names = c.loop-number.self.mappers.items in
    let here : Instance = mapper_instance c.in-Some.number c.in-Some.mapper.now in
    let len : c.len.result ≡ length names = omega (arith, c.len.ensures) in
    let last = length_last names c.of_mapper.result in
    rw c.push_reserved.ensures.items (record {
      so_far = read_more mapper_naming c.args.mib.now.entities.mappers names here c.of_mapper.result (c.in-Some.ensures.shown ∙ ap (slice_get c.args.mib.now.entities.mappers) len) c.of_mapper.ensures c.loop-number.invariant.so_far;
      few = omega (arith, last, c.in-Some.ensures.room, c.len.ensures);
    })

pub returns : goal.returns
returns c =
    let len : c.len.result ≡ length c.loop-number.self.mappers.items = omega (arith, c.len.ensures) in
    read_all mapper_naming c.args.mib.now.entities.mappers c.loop-number.self.mappers.items (c.in_default.ensures.shown ∙ ap (slice_get c.args.mib.now.entities.mappers) len) c.loop-number.invariant.so_far
