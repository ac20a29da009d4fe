-- The steps of the frames under a number, when one more frame is looked at.
use Rattle.std.proofs.Common.{◌≡◌, ◌==◌, ◌⊎◌, ℕ, zero, suc, ◌+◌, ◌<◌, ◌≤◌, true, false, List, [], ◌∷◌, ◌++◌, length, set, replicate, Some, is_some, slice_get, slice_index, refl, ap, sym, subst, ◌∙◌, inl, inr, arith, length-set, get_or-set_same, get_or-set_other}
use Rattle.std.proofs.lemmas.Bool.{cases_lt, eqb-true, eqb-false}
use Rattle.std.proofs.lemmas.Option.{slice_get_within}
use Rattle.std.proofs.lemmas.List.{length-replicate}
use Rattle.bench_judge.specs.Bounds.{AreStepsUnder, HasEndedAt, HasStep, IsStepOf, RisesAt}
use Rattle.bench_judge.specs.Rising.{AreGreatest, IsHadAt}
use Rattle.bench_judge.specs.declared.frame.Frame.{Frame}
use Rattle.bench_judge.specs.declared.judgement.Step.{Step}
use Rattle.bench_judge.proofs.Lists.{snoc_cases, snoc_last, snoc_old}

zero_at : (n p : ℕ) → slice_index (replicate n 0) p ≡ 0
zero_at zero p = refl
zero_at (suc n) zero = refl
zero_at (suc n) (suc p) = zero_at n p

-- before the first frame
pub none_greatest : (frames : List Frame) (versions : ℕ → ℕ) (greatest : List ℕ) → greatest ≡ replicate 65536 0 → AreGreatest frames versions 0 greatest
none_greatest frames versions greatest is =
    record {
      ports = ap (λ (l : List ℕ). length l) is ∙ length-replicate {A = ℕ} 65536 0;
      over = λ port n fits under ended. absurd (omega (arith, under));
      had = λ port fits. inl (ap (λ l. slice_index l port) is ∙ zero_at 65536 port);
    }

pub none_steps : (frames : List Frame) (versions : ℕ → ℕ) → AreStepsUnder frames versions 0 []
none_steps frames versions =
    record {
      each = λ k step at. absurd (cc at);
      all = λ n frame under rises. absurd (omega (arith, under));
      ascend = λ j k one other at_j at_k lt. absurd (cc at_j);
    }

module _ (frames : List Frame) (versions : ℕ → ℕ) (n : ℕ) (greatest : List ℕ) (are : AreGreatest frames versions n greatest) where
  last : (m : ℕ) → m < n + 1 → (m < n) ⊎ (m ≡ n)
  last m lt =
      elim (cases_lt m n) [
        | inl under ↦ inl under
        | inr over ↦ inr (omega (arith, over, lt))
      ]

  lifted : (port version : ℕ) → IsHadAt frames versions port n version → IsHadAt frames versions port (n + 1) version
  lifted port version had = record { n = had.n; under = omega (arith, had.under); ended = had.ended; has = had.has }

  -- a frame that doesn't rise: it is open, or no greater than the greatest of its port
  module _ (frame : Frame) (at : slice_get frames n ≡ Some frame) (fits : frame.port < 65536)
      (low : is_some frame.ended ≡ true → versions n ≤ slice_index greatest frame.port) where
    here : (port : ℕ) → HasEndedAt frames port n → (is_some frame.ended ≡ true) × (frame.port ≡ port)
    here port held = let same : held.frame ≡ frame = same_frame held.frame frame (sym held.at ∙ at) in
        (ap (λ (x : Frame). is_some x.ended) (sym same) ∙ held.ended, ap (λ (x : Frame). x.port) (sym same) ∙ held.port)
      where
        same_frame : (x y : Frame) → Some x ≡ Some y → x ≡ y
        same_frame x y is = cc is

    pub greatest_stays : AreGreatest frames versions (n + 1) greatest
    greatest_stays =
        record {
          ports = are.ports;
          over = λ port m fit lt ended.
              elim (last m lt) [
                | inl under ↦ are.over port m fit under ended
                | inr same ↦
                    let is = here port (subst (HasEndedAt frames port) same ended) in
                    subst (λ k. versions k ≤ slice_index greatest port) (sym same) (subst (λ p. versions n ≤ slice_index greatest p) is.1 (low is.0))
              ];
          had = λ port fit.
              elim (are.had port fit) [
                | inl none ↦ inl none
                | inr had ↦ inr (lifted port (slice_index greatest port) had)
              ];
        }

    no_rise : (other : Frame) → RisesAt frames versions n other → ⊥
    no_rise other rises =
        let is = here other.port (record { frame = other; at = rises.at; ended = rises.ended; port = refl }) in
        let most : versions n ≤ slice_index greatest frame.port = low is.0 in
        elim (are.had frame.port fits) [
          | inl none ↦ absurd (omega (arith, none, most, rises.some))
          | inr had ↦
              let lt = rises.over had.n had.under (subst (λ p. HasEndedAt frames p had.n) is.1 had.ended) in
              absurd (omega (arith, most, had.has, lt))
        ]

    pub steps_stay : (steps : List Step) → AreStepsUnder frames versions n steps → AreStepsUnder frames versions (n + 1) steps
    steps_stay steps under =
        record {
          each = λ k step at_k. let is = under.each k step at_k in (omega (arith, is.0), is.1);
          all = λ m other lt rises.
              elim (last m lt) [
                | inl before ↦ under.all m other before rises
                | inr same ↦ absurd (no_rise other (subst (λ k. RisesAt frames versions k other) same rises))
              ];
          ascend = under.ascend;
        }

  -- a frame that rises
  module _ (frame : Frame) (at : slice_get frames n ≡ Some frame) (fits : frame.port < 65536)
      (ended : is_some frame.ended ≡ true) (high : slice_index greatest frame.port < versions n) where
    its : HasEndedAt frames frame.port n
    its = record { frame = frame; at = at; ended = ended; port = refl }

    other_port : (port : ℕ) → HasEndedAt frames port n → frame.port ≡ port
    other_port port held = ap (λ (x : Frame). x.port) (same_frame frame held.frame (sym at ∙ held.at)) ∙ held.port
      where
        same_frame : (x y : Frame) → Some x ≡ Some y → x ≡ y
        same_frame x y is = cc is

    within : frame.port < length greatest
    within = omega (arith, fits, are.ports)

    over_at : (port m : ℕ) → port < 65536 → m < n + 1 → HasEndedAt frames port m → versions m ≤ slice_index (set greatest frame.port (versions n)) port
    over_at port m fit lt held =
        elim (frame.port == port) as (λ b. (frame.port == port) ≡ b → versions m ≤ slice_index (set greatest frame.port (versions n)) port) [
          | true ↦ λ same_b.
              let same : frame.port ≡ port = eqb-true frame.port port same_b in
              let now : slice_index (set greatest frame.port (versions n)) port ≡ versions n =
              ap (λ p. slice_index (set greatest frame.port (versions n)) p) (sym same) ∙ get_or-set_same greatest frame.port (versions n) 0 within in
              elim (last m lt) [
                | inl under ↦
                    let old = are.over port m fit under held in
                    let port_is : slice_index greatest port ≡ slice_index greatest frame.port = ap (slice_index greatest) (sym same) in
                    omega (arith, now, old, port_is, high)
                | inr same_m ↦ let here_is : versions m ≡ versions n = ap versions same_m in omega (arith, now, here_is)
              ]
          | false ↦ λ differ.
              let now : slice_index (set greatest frame.port (versions n)) port ≡ slice_index greatest port =
              get_or-set_other greatest frame.port port (versions n) 0 (λ e. eqb-false frame.port port differ (sym e)) in
              elim (last m lt) [
                | inl under ↦ let old = are.over port m fit under held in omega (arith, now, old)
                | inr same_m ↦ absurd (eqb-false frame.port port differ (other_port port (subst (HasEndedAt frames port) same_m held)))
              ]
        ] refl

    had_at : (port : ℕ) → port < 65536 → (slice_index (set greatest frame.port (versions n)) port ≡ 0)
        ⊎ IsHadAt frames versions port (n + 1) (slice_index (set greatest frame.port (versions n)) port)
    had_at port fit =
        elim (frame.port == port) as (λ b. (frame.port == port) ≡ b → (slice_index (set greatest frame.port (versions n)) port ≡ 0)
        ⊎ IsHadAt frames versions port (n + 1) (slice_index (set greatest frame.port (versions n)) port)) [
          | true ↦ λ same_b.
              let same : frame.port ≡ port = eqb-true frame.port port same_b in
              let now : slice_index (set greatest frame.port (versions n)) port ≡ versions n =
              ap (λ p. slice_index (set greatest frame.port (versions n)) p) (sym same) ∙ get_or-set_same greatest frame.port (versions n) 0 within in
              inr (record { n = n; under = omega arith; ended = subst (λ p. HasEndedAt frames p n) same its; has = sym now })
          | false ↦ λ differ.
              let now : slice_index (set greatest frame.port (versions n)) port ≡ slice_index greatest port =
              get_or-set_other greatest frame.port port (versions n) 0 (λ e. eqb-false frame.port port differ (sym e)) in
              elim (are.had port fit) [
                | inl none ↦ inl (now ∙ none)
                | inr had ↦ inr (subst (IsHadAt frames versions port (n + 1)) (sym now) (lifted port (slice_index greatest port) had))
              ]
        ] refl

    pub greatest_grows : AreGreatest frames versions (n + 1) (set greatest frame.port (versions n))
    greatest_grows = record { ports = length-set greatest frame.port (versions n) ∙ are.ports; over = over_at; had = had_at }

    abbrev step : Step
    step = record { port = frame.port; version = versions n; frame = n; line = frame.sent + 1 }

    rises : RisesAt frames versions n frame
    rises =
        record {
          at = at;
          ended = ended;
          some = omega (arith, high);
          over = λ m under held. let old = are.over frame.port m fits under held in omega (arith, old, high);
        }

    pub steps_grow : (steps : List Step) → AreStepsUnder frames versions n steps → AreStepsUnder frames versions (n + 1) (steps ++ step ∷ [])
    steps_grow steps under =
        record {
          each = λ k other at_k.
              elim (snoc_cases steps step other k at_k) [
                | inl old ↦ let is = under.each k other old in (omega (arith, is.0), is.1)
                | inr new ↦ subst (λ (s : Step). (s.frame < n + 1) × IsStepOf frames versions s) new.1
                    (omega arith, record { frame = frame; rises = rises; port = refl; version = refl; line = refl })
              ];
          all = λ m other lt rise.
              elim (last m lt) [
                | inl before ↦
                    let h : HasStep steps m = under.all m other before rise in
                    record { place = h.place; step = h.step; at = snoc_old steps step h.step h.place h.at; frame = h.frame }
                | inr same ↦ record { place = length steps; step = step; at = snoc_last steps step; frame = sym same }
              ];
          ascend = λ j k one other at_j at_k lt.
              elim (snoc_cases steps step other k at_k) [
                | inl old ↦
                    let within_k = slice_get_within steps k other old in
                    elim (snoc_cases steps step one j at_j) [
                      | inl old_j ↦ under.ascend j k one other old_j old lt
                      | inr new_j ↦ absurd (omega (arith, new_j.0, within_k, lt))
                    ]
                | inr new ↦
                    elim (snoc_cases steps step one j at_j) [
                      | inl old_j ↦ let is = (under.each j one old_j).0 in subst (λ (s : Step). one.frame < s.frame) new.1 is
                      | inr new_j ↦ absurd (omega (arith, new.0, new_j.0, lt))
                    ]
              ];
        }
