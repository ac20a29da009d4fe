-- Stretches of versions at a port.
use Rattle.std.proofs.Common.{◌≡◌, ℕ, zero, suc, ◌+◌, ◌-◌, ◌<◌, ◌≤◌, List, refl, sym, subst, ◌∙◌, inl, inr, arith}
use Rattle.std.specs.Prelude.{Contains, slice_index_or}
use Rattle.std.proofs.lemmas.Bool.{cases_lt}
use Rattle.mib_state.specs.Entities.{Entities}
use Rattle.frame_rows.specs.declared.class.FrameClass.{FrameClass}
use Rattle.frame_classes.specs.Classes.{AreClasses, classes_in}
use Rattle.frame_sameness.specs.Same.{AreSame}
use Rattle.bench_coverage.specs.Stretches.{Begins, IsInStretch, IsStep}

-- ---- configurations that are the same

pub same_itself : (e : Entities) (port least : ℕ) → AreSame e e port least
same_itself e port least = record { class = λ bytes is. refl; sight = λ bytes is. refl }

pub same_along : (e f g : Entities) (port least : ℕ) → AreSame e f port least → AreSame f g port least → AreSame e g port least
same_along e f g port least one other =
    record {
      class = λ bytes is. one.class bytes is ∙ other.class bytes is;
      sight = λ bytes is. one.sight bytes is ∙ other.sight bytes is;
    }

-- they have the same classes
pub same_classes : (e f : Entities) (port least : ℕ) (examples : List (FrameClass × List ℕ)) → AreSame e f port least → AreClasses f port least examples
    → AreClasses e port least examples
same_classes e f port least examples same are =
    record {
      each = λ k d within.
          let is = are.each k d within in
          record { frame = is.frame; has_class = same.class (slice_index_or examples k d).1 is.frame ∙ is.has_class };
      every = λ bytes is. subst (λ (class : FrameClass). Contains (classes_in examples) class) (sym (same.class bytes is)) (are.every bytes is);
      once = are.once;
    }

module _ (entities : ℕ → Entities) (port least : ℕ) where
  -- no version of a stretch but its first begins one
  begun_once : (first v other : ℕ) → IsInStretch entities port least first v → first < other → other ≤ v → Begins entities port least other → ⊥
  begun_once first v zero inside behind within begins = absurd (omega (arith, behind))
  begun_once first v (suc w) inside behind within begins = begins (inside.row w (omega (arith, behind)) (omega (arith, within)))

  -- stretches stand as their versions do
  pub firsts_rise : (first other v w : ℕ) → IsInStretch entities port least first v → IsInStretch entities port least other w → v ≤ w → first ≤ other
  firsts_rise first other v w inside also ahead =
      elim (cases_lt other first) [
        | inl before ↦ let from = inside.from in absurd (begun_once other w first also before (omega (arith, from, ahead)) inside.begins)
        | inr past ↦ omega (arith, past)
      ]

  -- a version belongs to one
  pub one_stretch : (first other v : ℕ) → IsInStretch entities port least first v → IsInStretch entities port least other v → first ≡ other
  one_stretch first other v inside also =
      let up = firsts_rise first other v v inside also (omega arith) in
      let down = firsts_rise other first v v also inside (omega arith) in
      omega (arith, up, down)

  -- a version that begins a stretch is one of it
  pub begins_itself : (v : ℕ) → Begins entities port least v → IsInStretch entities port least v v
  begins_itself v begins = record { begins = begins; from = omega arith; row = λ w from within. absurd (omega (arith, from, within)) }

  -- the next version is of the same stretch, or begins another
  pub stays : (first v : ℕ) → IsInStretch entities port least first v → IsStep entities port least v → IsInStretch entities port least first (v + 1)
  stays first v inside step =
      record {
        begins = inside.begins;
        from = let from = inside.from in omega (arith, from);
        row = λ w from within.
            elim (cases_lt w v) [
              | inl before ↦ inside.row w from before
              | inr past ↦ let same : v ≡ w = omega (arith, past, within) in subst (λ (n : ℕ). IsStep entities port least n) same step
            ];
      }

  pub begins_next : (v : ℕ) → ¬ (IsStep entities port least v) → Begins entities port least (v + 1)
  begins_next v apart =
      let same : suc v ≡ v + 1 = omega arith in
      subst (λ (n : ℕ). Begins entities port least n) same apart

  -- the port means the same by all versions of a stretch
  same_by : (first count : ℕ) → ((w : ℕ) → first ≤ w → w < first + count → IsStep entities port least w)
      → AreSame (entities first) (entities (first + count)) port least
  same_by first zero row =
      let same : first ≡ first + 0 = omega arith in
      subst (λ (n : ℕ). AreSame (entities first) (entities n) port least) same (same_itself (entities first) port least)
  same_by first (suc count) row =
      let before = same_by first count (λ w from within. row w from (omega (arith, within))) in
      let step = row (first + count) (omega arith) (omega arith) in
      let same : first + count + 1 ≡ first + suc count = omega arith in
      same_along (entities first) (entities (first + count)) (entities (first + suc count)) port least before
      (subst (λ (n : ℕ). AreSame (entities (first + count)) (entities n) port least) same step)

  pub same_in_stretch : (first v : ℕ) → IsInStretch entities port least first v → AreSame (entities first) (entities v) port least
  same_in_stretch first v inside =
      let from = inside.from in
      let same : first + (v - first) ≡ v = omega (arith, from) in
      subst (λ (n : ℕ). AreSame (entities first) (entities n) port least) same
      (same_by first (v - first) (λ w at within. inside.row w at (omega (arith, within, from))))
