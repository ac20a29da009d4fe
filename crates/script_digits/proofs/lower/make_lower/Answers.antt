use Rattle.std.proofs.Common.{◌++◌, ℕ, List, map, ap₂, ◌∙◌, arith, append-nil}
use Rattle.std.proofs.lemmas.List.{drop_all, get_or_default, length-set, take_all}
use Rattle.std.proofs.lemmas.List.Edits.{map_over_more}
use Rattle.script_digits.proofs.Digits.{lower_of, lowered_digits}
use Rattle.script_digits.proofs.lower.make_lower.Goals as goal

pub loop-i-preserved : goal.loop-i-preserved
loop-i-preserved c =
    let now = c.loop-i.digits in
    let i = c.loop-i.i in
    let invariant = c.loop-i.invariant in
    record {
      len = length-set now i _ ∙ invariant.len;
      lowered = map_over_more lower_of c.args.digits.now now i _ (omega (arith, invariant.len)) invariant.lowered (get_or_default now i _ _ (omega arith));
    }

pub returns-clause-digits : goal.returns-clause-digits
returns-clause-digits c bytes is =
    let old = c.args.digits.now in
    let i = c.loop-i.i in
    c.loop-i.invariant.lowered
    ∙ ap₂ (λ (a b : List ℕ). map lower_of a ++ b) (take_all i old (omega (arith, c.loop-i.invariant.len))) (drop_all i old (omega (arith, c.loop-i.invariant.len)))
    ∙ append-nil (map lower_of old) ∙ lowered_digits old bytes is
