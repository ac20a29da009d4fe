use Rattle.std.proofs.Common.{◌≡◌, ◌+◌, ◌-◌, sym, arith}
use Rattle.managed_entity.proofs.Entry.{entry_fits}
use Rattle.managed_entity.proofs.setting.check_named.Goals as goal

pub overflow_add-at : goal.overflow_add-at
overflow_add-at g c = omega (arith, (entry_fits c.args.mask 0 g.E.ManagedEntity.layout c.in-Some.at g.met.E.ManagedEntity.entries_fit (sym (rw c.layout.ensures at c.in-Some.ensures))).0, c.requires)

pub slice_bounds-check_entry-end : goal.slice_bounds-check_entry-end
slice_bounds-check_entry-end g c = omega (arith, (entry_fits c.args.mask 0 g.E.ManagedEntity.layout c.in-Some.at g.met.E.ManagedEntity.entries_fit (sym (rw c.layout.ensures at c.in-Some.ensures))).0, c.requires)

pub returns-in-Some : goal.returns-in-Some
returns-in-Some g c =
    let here = rw c.layout.ensures at c.in-Some.ensures in
    let has = (entry_fits c.args.mask 0 g.E.ManagedEntity.layout c.in-Some.at g.met.E.ManagedEntity.entries_fit (sym here)).1 in
    let same : c.in-Some.at + 16 - c.in-Some.at ≡ 16 = omega arith in
    rw (← here) (rw (has, same) at c.check_entry.ensures)
