use Rattle.std.proofs.Common.{refl, sym}
use Rattle.expectation_check.proofs.Settled.{all_hold, empty, found_fails, none_holds, not_empty, shown_is}
use Rattle.expectation_check.proofs.checking.check.Goals as goal

pub returns-in-Some : goal.returns-in-Some
returns-in-Some c =
    shown_is c.args.mib.now.entities c.args.expected.now c.args.least _ c.example_of.result.frame.items c.example_of.result.class
    (found_fails _ c.args.mib.now.entities c.args.expected.now _ _ _ c.args.least c.in_ok-unlike.unlike.items c.in-Some.tear c.in_ok-rows.ensures
    c.in_ok-unlike.ensures (sym c.in-Some.ensures))
    c.example_of.ensures.frame c.example_of.ensures.used c.example_of.ensures.ending

pub returns-in-true : goal.returns-in-true
returns-in-true c =
    none_holds _ c.args.mib.now.entities c.args.expected.now _ _ _ c.args.least c.in_ok-admitted.admitted.items c.in_ok-rows.ensures
    c.in_ok-admitted.ensures (empty c.in_ok-admitted.admitted.items _ c.in_ok-admitted.admitted.ok.0 (sym c.in-true.ensures))

pub returns : goal.returns
returns c =
    all_hold _ c.args.mib.now.entities c.args.expected.now _ _ _ c.args.least c.in_ok-unlike.unlike.items c.in_ok-admitted.admitted.items
    c.in_ok-rows.ensures c.in_ok-unlike.ensures c.in_ok-admitted.ensures (sym c.in_default.ensures)
    (not_empty c.in_ok-admitted.admitted.items _ c.in_ok-admitted.admitted.ok.0 (sym c.in-false.ensures))
