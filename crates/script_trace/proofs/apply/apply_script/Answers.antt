use Rattle.std.proofs.Common.{rules, ◌≡◌, ◌∙◌, ◌+◌, true, ap, arith, sym}
use Rattle.script_lines.specs.Text.{lines_of}
use Rattle.script_trace.specs.Script.{goes_on, told_by}
use Rattle.script_trace.proofs.Lines.{bad_behind, bad_first, bad_later, told_behind, told_first, told_one, why}
use Rattle.script_trace.proofs.apply.apply_script.Goals as goal

pub loop-until-init : goal.loop-until-init
loop-until-init c = record {
  told = told_first c.args.until c.args.script.now _ (search rules);
  bad = bad_first c.args.until c.args.script.now;
  small = omega arith;
}

pub returns-in-Err : goal.returns-in-Err
returns-in-Err c =
    let n = c.loop-until.number in
    let on : goes_on n c.args.until ≡ true = sym c.goes_on.ensures ∙ c.if-goes_on.true in
    record {
      told = tt;
      good = tt;
      fault = why n c.args.until c.args.script.now c.first_line.result.0.now (lines_of c.first_line.result.1.now) c.in-Err.fault on
          (c.loop-until.invariant.bad ∙ ap (bad_behind n c.args.until) c.first_line.ensures.lines) c.in-Err.ensures.bad;
    }

pub loop-until-preserved : goal.loop-until-preserved
loop-until-preserved c =
    let n = c.loop-until.number in
    let until = c.args.until in
    let line = c.first_line.result.0.now in
    let rest = lines_of c.first_line.result.1.now in
    let on : goes_on n until ≡ true = sym c.goes_on.ensures ∙ c.if-goes_on.true in
    record {
      told = c.loop-until.invariant.told ∙ ap (λ l. told_behind n until l (told_by c.loop-until.applied)) c.first_line.ensures.lines
          ∙ told_one n until line rest (told_by c.loop-until.applied) on ∙ ap (told_behind (n + 1) until rest) (sym c.in_default.ensures.told);
      bad = c.loop-until.invariant.bad ∙ ap (bad_behind n until) c.first_line.ensures.lines ∙ bad_later n until line rest on c.in_default.ensures.good;
      small = omega (arith, c.loop-until.invariant.small, c.first_line.ensures.shorter);
    }
