use Rattle.std.specs.Prelude.{slice_index_or}
use Rattle.std.proofs.Common.{◌≡◌, ◌<◌, ℕ, List, sym, ◌+◌, ◌/◌, ◌%◌, ◌∙◌, ap, ap₂, arith, bit_and, subst}
use Rattle.vlan_rule.specs.declared.filter.TagFilter.{TagFilter}
use Rattle.rule_index.specs.Masks.{AreGroups}
use Rattle.rule_index.specs.Filters.{priority_key, tpid_key}
use Rattle.rule_index.specs.Codes.{joined_code, joined_priority}
use Rattle.rule_index.proofs.Coding.{code-mask, tpid-bits}
use Rattle.rule_index.proofs.MaskLaws.{set-four}
use Rattle.rule_index.proofs.code_masks.CodeMasks.finish.Goals as goal

pub loop-low-preserved : goal.loop-low-preserved
loop-low-preserved c =
    let low = c.loop-low.low in
    let priorities = c.args.self.now.priorities in
    let tpids = c.args.self.now.tpids in
    let invariant = c.loop-low.invariant in
    let few : low < 16 = omega arith in
    let priority : (code : ℕ) → code / 2 % 8 ≡ low / 2 → joined_priority c.loop-low.self.priorities (low / 2) ≡ joined_priority priorities (code / 2 % 8) =
    λ code e. ap (λ masks. joined_priority masks (low / 2)) invariant.priorities ∙ ap (joined_priority priorities) (sym e) in
    let value : (k code : ℕ) → k < 8 → code / 2 % 8 ≡ low / 2 → k / 4 ≡ code / 32 → k / 2 % 2 ≡ code / 16 % 2 → k % 2 ≡ code % 2
    → bit_and (joined_priority c.loop-low.self.priorities (low / 2)) (slice_index_or c.joined_tpids-tpids.result k 0) ≡ joined_code priorities tpids code =
    λ k code h e x y z. ap₂ bit_and (priority code e) (c.joined_tpids-tpids.ensures k h ∙ tpid-bits tpids k code x y z) in
    record {
      priorities = invariant.priorities;
      tpids = invariant.tpids;
      done = set-four (λ k. joined_code priorities tpids k) c.loop-low.self.codes low _ _ _ _ (omega arith) few
          (value (low % 2) low (omega arith) (omega (arith, few)) (omega (arith, few)) (omega (arith, few)) (omega (arith, few)))
          (value (2 + low % 2) (16 + low) (omega arith) (omega (arith, few)) (omega (arith, few)) (omega (arith, few)) (omega (arith, few)))
          (value (4 + low % 2) (32 + low) (omega arith) (omega (arith, few)) (omega (arith, few)) (omega (arith, few)) (omega (arith, few)))
          (value (6 + low % 2) (48 + low) (omega arith) (omega (arith, few)) (omega (arith, few)) (omega (arith, few)) (omega (arith, few)))
          invariant.done;
    }

pub returns-clause-codes : goal.returns-clause-codes
returns-clause-codes c = λ filters is code h.
    c.loop-low.invariant.done code (h, omega arith)
    ∙ code-mask c.args.self.now.priorities c.args.self.now.tpids filters code (omega arith) (omega arith) is.priorities is.tpids

pub returns-clause-keys : goal.returns-clause-keys
returns-clause-keys c = λ filters is.
    let by_priority : List ℕ → Type 0 = λ masks. AreGroups (λ (f : TagFilter). priority_key f.priority) masks filters in
    let by_tpid : List ℕ → Type 0 = λ masks. AreGroups (λ (f : TagFilter). tpid_key f.tpid) masks filters in
    record {
      priorities = subst by_priority (sym c.loop-low.invariant.priorities) is.priorities;
      tpids = subst by_tpid (sym c.loop-low.invariant.tpids) is.tpids;
    }
