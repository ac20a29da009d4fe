use Rattle.std.proofs.Common.{◌≡◌, true, sym, ◌∙◌}
use Rattle.frame_meaning.specs.declared.verdict.Verdict.TheVariants.{Forward}
use Rattle.frame_meaning.specs.Meaning.{meaning, table_at}
use Rattle.frame_expectation.specs.Expectation.{meets}
use Rattle.frame_expectation.specs.Wanted.{ends_as}
use Rattle.frame_expectation.proofs.Leaving.{met_by}
use Rattle.frame_expectation.proofs.expectation.Expectation.is_met.Goals as goal

pub returns-then-is_leaving : goal.returns-then-is_leaving
unfolding meets
returns-then-is_leaving c =
    let e = c.args.mib.now.entities in
    let expected = c.args.self.now in
    let leaves : meaning e expected.port c.args.bytes.now ≡ Forward c.in-Forward.gem c.in-Forward.frame = sym c.in-Forward.ensures.verdict in
    let ends : ends_as expected.ending (Forward c.in-Forward.gem c.in-Forward.frame) ≡ true =
    sym (c.is_leaving.ensures c.in-Forward.frame) ∙ c.if-is_leaving.true in
    rw leaves (met_by expected (table_at e expected.port) c.args.bytes.now (Forward c.in-Forward.gem c.in-Forward.frame) c.leaves_so.result ends
    (c.leaves_so.ensures c.in-Forward.gem))
