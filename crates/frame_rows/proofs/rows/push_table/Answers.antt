use Rattle.std.proofs.Common.{◌++◌, ap, ◌∙◌}
use Rattle.std.specs.Option.{option_map}
use Rattle.pmapper.specs.Mapper.{unmarked_of}
use Rattle.explain.specs.Order.{tried_order}
use Rattle.frame_meaning.specs.Meaning.{Table}
use Rattle.frame_rows.specs.Rows.{entry_rows, unmatched_rows}
use Rattle.frame_rows.proofs.EntryRows.{grown_twice, on_ok}
use Rattle.frame_rows.proofs.rows.push_table.Goals as goal

pub returns-in_ok-push_entries-in-Some-clause-rows :
    goal.returns-in_ok-push_entries-in-Some-clause-rows
returns-in_ok-push_entries-in-Some-clause-rows c =
    let input = ap (λ (t : Table). t.settings.input_tpid) c.table.view_is in
    rw (c.in-Some.is) (on_ok _ _ _ c.push_unmatched.result c.push_unmatched.ensures c.push_unmatched.ensures (λ more _.
    grown_twice c.args.rows.now.items c.push_entries.new.rows.items c.push_unmatched.new.rows.items
    (entry_rows c.in-Some.table (option_map (λ m. unmarked_of m.now) c.args.mapper) 0 (tried_order c.in-Some.table.entries))
    (unmatched_rows c.in-Some.table.settings.input_tpid) c.in_ok-push_entries-in-Some.ensures.rows
    (more ∙ ap (λ n. c.push_entries.new.rows.items ++ unmatched_rows n) input)))
