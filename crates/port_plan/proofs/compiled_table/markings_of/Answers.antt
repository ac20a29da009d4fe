use Rattle.std.proofs.Common.{◌≡◌, ◌≢◌, ℕ, ◌<◌, length, replicate, arith, inl, inr, ap, sym, ◌∙◌, below_more, get_or-set_other, get_or-set_same}
use Rattle.std.specs.Prelude.{slice_index, slice_set}
use Rattle.std.proofs.lemmas.Bool.{cases_eq, cases_lt}
use Rattle.std.proofs.lemmas.List.{get_or-replicate, get_or_past, length-replicate, length-set}
use Rattle.tag_view.specs.Dscp.{group_of}
use Rattle.port_plan.proofs.compiled_table.markings_of.Goals as goal

zero_at : (n k : ℕ) → slice_index (replicate n 0) k ≡ 0
zero_at n k = elim (cases_lt k n) [
  | inl before ↦ get_or-replicate n k 0 0 before
  | inr after ↦ get_or_past (replicate n 0) k 0 (rw length-replicate after)
]

pub loop-dscp-init : goal.loop-dscp-init
loop-dscp-init c = record {
  value = λ k before. absurd (omega arith);
  rest = λ k after. zero_at 65 k;
  len = length-replicate {A = ℕ} 65 0;
  bound = λ k. rw (zero_at 65 k) (omega arith);
}

pub loop-dscp-preserved : goal.loop-dscp-preserved
loop-dscp-preserved c =
    let before = c.loop-dscp.markings in
    let kept = c.loop-dscp.invariant in
    let at = c.from.result in
    let x = c.get.result in
    let place : at ≡ c.loop-dscp.dscp = c.from.ensures in
    let within : at < length before = omega arith in
    let here : slice_index (slice_set before at x) at ≡ x = get_or-set_same before at x 0 within in
    let other : (k : ℕ) → k ≢ at → slice_index (slice_set before at x) k ≡ slice_index before k = λ k differs. get_or-set_other before at k x 0 differs in
    record {
      value = below_more _ _ (λ k h. other k (omega arith) ∙ kept.value k h) (rw (← place) (here ∙ c.get.ensures.value ∙ ap (group_of c.args.map.now.0) (sym place)));
      rest = λ k h. other k (omega arith) ∙ kept.rest k (omega arith);
      len = length-set before at x ∙ kept.len;
      bound = λ k. elim (cases_eq k at) [
        | inl same ↦ rw (same, here) c.get.ensures.bound
        | inr differs ↦ rw (other k differs) (kept.bound k)
      ];
    }
