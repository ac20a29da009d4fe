use Rattle.std.proofs.Common.{◌≡◌, ◌∙◌, refl, rules, arith}
use Rattle.std.specs.Prelude.{min}
use Rattle.run_capture.proofs.Totals.{batches_more}
use Rattle.run_capture.proofs.lines.put_batches.Goals as goal

pub loop-version-init : goal.loop-version-init
loop-version-init c = record { number = refl; lines = refl }

pub loop-version-preserved : goal.loop-version-preserved
loop-version-preserved c =
    let least : c.min.result ≡ min c.args.size c.loop-version.left = search rules in
    record {
      number = omega (arith, c.loop-version.invariant.number);
      lines = batches_more c.loop-version.text.items c.put_batch.new.text.items c.loop-version.number c.args.size c.loop-version.left c.min.result c.saturating_sub-left.result
          c.args.versions.now c.loop-version.version-index c.loop-version-test.true least c.saturating_sub-left.ensures c.in_ok-put_batch.ensures
          ∙ c.loop-version.invariant.lines;
    }
