use Rattle.std.proofs.Common.{◌≡◌, ◌<◌, ℕ, List, length, Option, Some, None, get_or, refl, ap, sym, ◌∙◌}
use Rattle.std.specs.Prelude.{slice_get}
use Rattle.std.proofs.lemmas.Option.{slice_get_past, slice_get_read}
use Rattle.treatment.specs.Compiled.{Compiled}
use Rattle.frame_meaning.specs.Meaning.{Table}
use Rattle.port_plan.proofs.CompiledTables.{IsNumber, no_treat, treat_discards, treat_used}
use Rattle.port_plan.proofs.compiled_table.CompiledTable.treat.Goals as goal

-- what is read of a list is held by it
read_held : (treats seen : List (Option Compiled)) (n : ℕ) (treat : Option Compiled) → seen ≡ treats → n < length seen → treat ≡ get_or seen n treat
    → slice_get treats n ≡ Some treat
read_held treats seen n treat same within is =
    ap (λ (l : List (Option Compiled)). slice_get l n) (sym same) ∙ slice_get_read seen (length seen) n treat refl within is

pub returns-in-Some-Some-clause-treat : goal.returns-in-Some-Some-clause-treat
returns-in-Some-Some-clause-treat c =
    let treats = c.self.inside.treats.items in
    let n = c.number.result in
    let table : Table = record { settings = c.self.inside.settings; entries = c.self.inside.index } in
    let number : IsNumber table c.args.head.now n = record { used = c.number.ensures.used; none = c.number.ensures.none } in
    let found = c.in-Some-Some.ensures.lookup in
    let held = read_held treats c.deref.result.now n c.in-Some-Some.field-0.now c.deref.ensures.value found.3.0 found.1 ∙ ap Some c.in-Some-Some.field-0-is in
    rw (← c.self.view_is) (λ frame of.
    let is = treat_used table c.args.head.now treats n (Some c.in-Some-Some.treat) c.self.invariant.1 number held frame of in
    (is.entry, is.used, is.right))

pub returns-in-Some-Some-clause-dscp : goal.returns-in-Some-Some-clause-dscp
returns-in-Some-Some-clause-dscp c =
    let n = c.number.result in
    let found = c.in-Some-Some.ensures.lookup in
    let held =
    read_held c.self.inside.treats.items c.deref.result.now n c.in-Some-Some.field-0.now c.deref.ensures.value found.3.0 found.1
    ∙ ap Some c.in-Some-Some.field-0-is in
    rw (← c.self.view_is) (λ unused. c.self.invariant.3 unused n c.in-Some-Some.treat held)

pub returns-in-Some-None-clause-reason : goal.returns-in-Some-None-clause-reason
returns-in-Some-None-clause-reason c =
    let treats = c.self.inside.treats.items in
    let n = c.number.result in
    let table : Table = record { settings = c.self.inside.settings; entries = c.self.inside.index } in
    let number : IsNumber table c.args.head.now n = record { used = c.number.ensures.used; none = c.number.ensures.none } in
    let found = c.in-Some-None.ensures.lookup in
    let held = read_held treats c.deref.result.now n c.in-Some-None.field-0.now c.deref.ensures.value found.3.0 found.1 ∙ ap Some c.in-Some-None.field-0-is in
    rw (← c.self.view_is) (λ frame of. treat_discards table frame (treat_used table c.args.head.now treats n None c.self.invariant.1 number held frame of))

pub returns-in-None-clause-reason : goal.returns-in-None-clause-reason
returns-in-None-clause-reason c =
    let treats = c.self.inside.treats.items in
    let n = c.number.result in
    let table : Table = record { settings = c.self.inside.settings; entries = c.self.inside.index } in
    let number : IsNumber table c.args.head.now n = record { used = c.number.ensures.used; none = c.number.ensures.none } in
    let held = ap (λ (l : List (Option Compiled)). slice_get l n) (sym c.deref.ensures.value) ∙ slice_get_past c.deref.result.now n c.in-None.ensures.lookup.3 in
    rw (← c.self.view_is) (λ frame of range. no_treat table c.args.head.now treats n c.self.invariant.1 number held frame of)
