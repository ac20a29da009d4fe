use Rattle.std.proofs.Common.{◌≡◌, ℕ, List, [], length, map, ◌∙◌, arith}
use Rattle.std.proofs.lemmas.List.{length-map}
use Rattle.std.proofs.lemmas.Option.{get_or_from_slice_get}
use Rattle.vlan_rule.specs.declared.entry.Entry.{Entry}
use Rattle.rule_index.proofs.Following.{set-alone}
use Rattle.rule_index.proofs.entries.other_treatment.Goals as goal

pub returns : goal.returns
returns c =
    let bytes : Entry → List ℕ = λ entry. entry.0 in
    let old = map bytes c.args.entries.now in
    let table = c.args.table.now in
    let place = c.args.place in
    let entry = c.in_ok-entry.entry.0 in
    let known = c.in_ok-entry.ensures in
    let long = length-map c.args.entries.now bytes in
    let here = get_or_from_slice_get table place entry [] known.2 in
    let same : length c.args.entries.now ≡ length table = omega (arith, c.if-entries-len.false, c.len.ensures.value) in (
      known.0,
      known.1,
      set-alone old table place entry (long ∙ same) (omega (arith, known.0, long)) here c.requires
          (λ k h l. c.first_other.ensures.same k h (omega (arith, l, long, c.if-first_other-entries.false))),
    )
