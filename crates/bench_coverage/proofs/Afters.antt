-- The entities by the next version.
use Rattle.std.proofs.Common.{◌≡◌, ℕ, ◌+◌, ◌≤◌, Bool, true, false, List, length, min, take, Some, None, refl, ap, sym, subst, ◌∙◌, inl, inr, arith, take_all}
use Rattle.std.specs.Prelude.{Decides, if◌then◌else◌, slice_get}
use Rattle.std.proofs.lemmas.Bool.{cases_lt}
use Rattle.std.proofs.lemmas.Option.{get_or_from_slice_get, slice_get_cases, slice_get_within}
use Rattle.omci_msg.specs.declared.request.Request.{Request}
use Rattle.mib_state.specs.Entities.{Entities}
use Rattle.mib_state.specs.Step.{left}
use Rattle.mib_state.specs.After.{after}
use Rattle.frame_sameness.specs.Same.{AreSame}
use Rattle.bench_judge.proofs.Afters.{after_more}
use Rattle.bench_coverage.specs.Stretches.{IsInStretch, entities_by}
use Rattle.bench_coverage.proofs.Stretched.{begins_itself, begins_next, same_itself, stays}

-- those that the request leaves that leads to it
pub next_by : (requests : List Request) (base v : ℕ) (q : Request) → slice_get requests (base + v) ≡ Some q
    → entities_by requests base (v + 1) ≡ left q.action (entities_by requests base v) q
next_by requests base v q at =
    let same : base + (v + 1) ≡ base + v + 1 = omega arith in
    ap (λ (n : ℕ). after (take n requests)) same
    ∙ after_more requests (base + v) q (slice_get_within requests (base + v) q at) (sym (get_or_from_slice_get requests (base + v) q q at))

pub past_end : {A : Type 0} (xs : List A) (k : ℕ) → slice_get xs k ≡ None → length xs ≤ k
past_end xs k none =
    elim ((slice_get_cases xs k).1) [
      | inl some ↦ absurd (cc (sym none ∙ some.2))
      | inr past ↦ past.0
    ]

-- or the same where there is none
pub last_by : (requests : List Request) (base v : ℕ) → length requests ≤ base + v → entities_by requests base (v + 1) ≡ entities_by requests base v
last_by requests base v past =
    ap after (take_all (base + (v + 1)) requests (omega (arith, past)) ∙ sym (take_all (base + v) requests past))

-- its stretch
pub next_inside : (entities : ℕ → Entities) (port least first v : ℕ) (same : Bool) → IsInStretch entities port least first v
    → Decides same (AreSame (entities v) (entities (v + 1)) port least)
    → IsInStretch entities port least (if same then first else (v + 1)) (v + 1)
next_inside entities port least first v true inside is = stays entities port least first v inside (is.0 refl)
next_inside entities port least first v false inside is =
    begins_itself entities port least (v + 1) (begins_next entities port least v (λ step. let no : false ≡ true = is.1 step in absurd (cc no)))

pub last_inside : (requests : List Request) (base port least first v : ℕ) → length requests ≤ base + v
    → IsInStretch (entities_by requests base) port least first v → IsInStretch (entities_by requests base) port least first (v + 1)
last_inside requests base port least first v past inside =
    stays (entities_by requests base) port least first v inside
    (subst (λ (e : Entities). AreSame (entities_by requests base v) e port least) (sym (last_by requests base v past))
    (same_itself (entities_by requests base v) port least))

-- so many of some requests, or all
pub take_most : (count : ℕ) (requests : List Request) → take (min count (length requests)) requests ≡ take count requests
take_most count requests =
    elim (cases_lt count (length requests)) [
      | inl less ↦ let same : min count (length requests) ≡ count = omega (arith, less) in ap (λ (n : ℕ). take n requests) same
      | inr all ↦
          let same : min count (length requests) ≡ length requests = omega (arith, all) in
          ap (λ (n : ℕ). take n requests) same ∙ take_all (length requests) requests (omega arith) ∙ sym (take_all count requests all)
    ]
