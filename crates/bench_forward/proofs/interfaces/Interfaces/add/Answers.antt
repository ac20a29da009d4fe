use Rattle.std.proofs.Common.{◌≡◌, ◌∙◌, sym, ap, length, arith}
use Rattle.std.specs.Prelude.{None}
use Rattle.bench_forward.specs.Packets.{interface_of}
use Rattle.bench_forward.proofs.Numbering.{numbers_more, room_for}
use Rattle.bench_forward.proofs.interfaces.Interfaces.add.Goals as goal

pub overflow_cast-number : goal.overflow_cast-number
overflow_cast-number c =
    let none : interface_of c.args.gem c.self.inside.gems.items ≡ None = ap (interface_of c.args.gem) c.self.view_is ∙ c.requires in
    let room = room_for c.self.inside.gems.items c.self.inside.numbers.items c.self.invariant.1 c.args.gem (omega (arith, c.ranges.gem)) none in
    omega (arith, room, c.len-number.ensures, c.self.inside.gems.ok.0)

pub push_reserved-requires : goal.push_reserved-requires
push_reserved-requires c =
    let none : interface_of c.args.gem c.self.inside.gems.items ≡ None = ap (interface_of c.args.gem) c.self.view_is ∙ c.requires in
    let room = room_for c.self.inside.gems.items c.self.inside.numbers.items c.self.invariant.1 c.args.gem (omega (arith, c.ranges.gem)) none in
    omega (arith, room, c.self.invariant.0, c.self.inside.gems.ok.0)

pub invariant_of-self : goal.invariant_of-self
invariant_of-self c =
    let gems = c.self.inside.gems.items in
    let numbers = c.self.inside.numbers.items in
    let none : interface_of c.args.gem gems ≡ None = ap (interface_of c.args.gem) c.self.view_is ∙ c.requires in
    let more = numbers_more gems numbers c.self.invariant.1 c.args.gem (omega (arith, c.ranges.gem)) none in
    let number : length gems ≡ c.len-number.result = sym (c.len-number.ensures ∙ c.self.inside.gems.ok.0) in (
      omega (arith, c.self.invariant.0, c.push_reserved.ensures.capacity),
      rw (c.push_reserved.ensures.items, c.from.ensures, ← number) more,
    )
