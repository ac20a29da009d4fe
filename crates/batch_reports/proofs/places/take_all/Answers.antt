use Rattle.std.proofs.Common.{◌≡◌, ◌++◌, ◌∷◌, ◌∙◌, None, Some, map, ap, sym, length, rules}
use Rattle.std.proofs.lemmas.Iterator.Adapters.{YieldsList-from_vec}
use Rattle.batch_reports.specs.declared.fault.GatherFault.TheVariants.{Missing}
use Rattle.batch_reports.proofs.Filling.{behind, length_of_map}
use Rattle.batch_reports.proofs.places.take_all.Goals as goal

pub returns-in_default-clause-free : goal.returns-in_default-clause-free
returns-in_default-clause-free g c =
    let road = YieldsList-from_vec {s = c.into_iter-slot-iterator.result} c.args.slots.items (search rules) (search rules) in
    let split = behind road c.loop-slot.yielded c.loop-slot.slot-iterator c.loop-slot.yielded_by c.in-Some.slot c.next.result c.next.new.self c.in-Some.is c.next.ensures.steps in
    let none : c.in-Some.slot ≡ None = search rules in
    let before = map Some c.loop-slot.taken.items in (
      c.loop-slot.taken.items,
      split.0,
      ap Missing (c.loop-slot.invariant.next ∙ ap length (sym c.loop-slot.invariant.same) ∙ length_of_map c.loop-slot.taken.items),
      split.1 ∙ ap (λ l. l ++ c.in-Some.slot ∷ split.0) (sym c.loop-slot.invariant.same) ∙ ap (λ o. before ++ o ∷ split.0) none,
    )
