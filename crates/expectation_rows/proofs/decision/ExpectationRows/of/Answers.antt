use Rattle.std.proofs.Common.{refl}
use Rattle.expectation_rows.specs.Decision.{side_of}
use Rattle.expectation_rows.proofs.Deciding.{decide_along, side_is}
use Rattle.expectation_rows.proofs.decision.ExpectationRows.of.Goals as goal

pub returns : goal.returns
returns c =
    decide_along c.args.mib.now.entities c.args.expected.now (side_of c.in_ok-rows.rows) _ _ _
    (record {
      mean = c.in_ok-rows.ensures.mean;
      seen = c.in_ok-rows.ensures.seen;
      fit = c.in_ok-rows.ensures.fit;
      marked = c.in_ok-rows.ensures.marked;
      output = c.in_ok-rows.ensures.output;
      few = c.in_ok-rows.ensures.few;
      settings = c.in_ok-rows.ensures.settings;
    })
    (side_is _ _ _ _ _ _ refl c.marked_endings.ensures c.in_ok-counted_rows.ensures)
    (side_is _ _ _ _ _ _ c.in_ok-here_of.ensures.settings c.in_ok-here_of.ensures.endings c.in_ok-here_of.ensures.rows)
    (side_is _ _ _ _ _ _ c.in_ok-after_of.ensures.settings c.in_ok-after_of.ensures.endings c.in_ok-after_of.ensures.rows)
