-- The place of a class among some that stand in order, and its mark.
use Rattle.std.proofs.Common.{◌≡◌, ◌⊎◌, ℕ, zero, suc, ◌+◌, ◌-◌, ◌<◌, ◌≤◌, Bool, true, false, List, length, map, get_or, Option, Some, None, refl, ap, sym, subst, ◌∙◌, inl, inr, arith}
use Rattle.std.specs.Prelude.{Decides, slice_get, slice_index, slice_index_or, slice_set}
use Rattle.std.proofs.lemmas.Bool.{cases_lt}
use Rattle.std.proofs.lemmas.List.{length-map, get_or-map, get_or-set_other, get_or-set_same}
use Rattle.std.proofs.lemmas.Option.{get_or_from_slice_get, slice_get-get_or, slice_get_within}
use Rattle.frame_rows.specs.declared.class.FrameClass.{FrameClass}
use Rattle.frame_rows.specs.Class.{class_number}
use Rattle.frame_classes.specs.declared.example.ClassExample.{ClassExample}
use Rattle.bench_coverage.specs.Marks.{Ascend, AreMarked, HasClass, IsAmong, IsPlaceFor}

abbrev number_of : ClassExample → ℕ
number_of e = class_number e.class

module _ (classes : List ClassExample) (ascend : Ascend classes) where
  -- each has a greater number than the one before
  rise : (k : ℕ) (d : ClassExample) → k + 1 < length classes → number_of (get_or classes k d) < number_of (get_or classes (k + 1) d)
  rise k d within =
      let here : slice_index (map number_of classes) k ≡ number_of (get_or classes k d) = get_or-map number_of classes k d 0 (omega (arith, within)) in
      let next : slice_index (map number_of classes) (k + 1) ≡ number_of (get_or classes (k + 1) d) = get_or-map number_of classes (k + 1) d 0 within in
      let up = ascend k (omega (arith, within, length-map classes number_of)) in
      omega (arith, here, next, up)

  -- and than all before
  rise_by : (i count : ℕ) (d : ClassExample) → i + count + 1 < length classes → number_of (get_or classes i d) < number_of (get_or classes (i + count + 1) d)
  rise_by i zero d within =
      let same : i + 1 ≡ i + 0 + 1 = omega arith in
      subst (λ (n : ℕ). number_of (get_or classes i d) < number_of (get_or classes n d)) same (rise i d (omega (arith, within)))
  rise_by i (suc count) d within =
      let before = rise_by i count d (omega (arith, within)) in
      let step = rise (i + count + 1) d (omega (arith, within)) in
      let same : i + count + 1 + 1 ≡ i + suc count + 1 = omega arith in
      subst (λ (n : ℕ). number_of (get_or classes i d) < number_of (get_or classes n d)) same (omega (arith, before, step))

  -- of two that stand there, the one before has the smaller number
  rises : (i k : ℕ) (one other : ClassExample) → slice_get classes i ≡ Some one → slice_get classes k ≡ Some other → i < k → number_of one < number_of other
  rises i k one other at_i at_k less =
      let within = slice_get_within classes k other at_k in
      let same : i + (k - i - 1) + 1 ≡ k = omega (arith, less) in
      let up = rise_by i (k - i - 1) one (omega (arith, same, within)) in
      let low : get_or classes i one ≡ one = get_or_from_slice_get classes i one one at_i in
      let high : get_or classes (i + (k - i - 1) + 1) one ≡ other = ap (λ (n : ℕ). get_or classes n one) same ∙ get_or_from_slice_get classes k other one at_k in
      omega (arith, up, ap number_of low, ap number_of high)

  -- where one has a smaller number, those before have, too
  pub below : (middle number : ℕ) (example : ClassExample) → middle < length classes → number_of (get_or classes middle example) < number
      → (k : ℕ) (d : ClassExample) → k < middle + 1 → number_of (get_or classes k d) < number
  below middle number example within less k d under =
      let top = get_or classes middle example in
      let at : slice_get classes middle ≡ Some top = slice_get-get_or classes middle example within in
      let at_k : slice_get classes k ≡ Some (get_or classes k d) = slice_get-get_or classes k d (omega (arith, within, under)) in
      elim (cases_lt k middle) [
        | inl before ↦ let up = rises k middle (get_or classes k d) top at_k at before in omega (arith, up, less)
        | inr past ↦
            let same : k ≡ middle = omega (arith, past, under) in
            let one : get_or classes k d ≡ top = cc (sym at_k ∙ ap (slice_get classes) same ∙ at) in
            omega (arith, ap number_of one, less)
      ]

  -- a class stands there once
  one_place : (i k : ℕ) (one other : ClassExample) → slice_get classes i ≡ Some one → slice_get classes k ≡ Some other → one.class ≡ other.class
      → (i ≡ k → ⊥) → ⊥
  one_place i k one other at_i at_k is apart =
      elim (cases_lt i k) [
        | inl less ↦ let up = rises i k one other at_i at_k less in omega (arith, up, ap class_number is)
        | inr past ↦
            elim (cases_lt k i) [
              | inl more ↦ let up = rises k i other one at_k at_i more in omega (arith, up, ap class_number is)
              | inr level ↦ apart (omega (arith, past, level))
            ]
      ]

  -- ---- the mark

  module _ (class : FrameClass) (place : ℕ) (before : List Bool) (count : length before ≡ length classes) where
    abbrev IsThere : Type 0
    IsThere = HasClass class (slice_get classes place)

    held : (found : Option ClassExample) → HasClass class found → (example : ClassExample) × ((found ≡ Some example) × (example.class ≡ class))
    held None has = absurd has
    held (Some example) has = (example, (refl, has))

    has_class : (found : Option ClassExample) (example : ClassExample) → found ≡ Some example → HasClass class found → example.class ≡ class
    has_class found example is has = subst (HasClass class) is has

    -- it is there, and gets its mark
    there : IsThere → (k : ℕ) (example : ClassExample) → slice_get classes k ≡ Some example
        → Decides (slice_index_or (slice_set before place true) k false) ((slice_index_or before k false ≡ true) ⊎ (example.class ≡ class))
    there has k example at =
        elim (cases_lt k place) [
          | inl less ↦ other (λ same. omega (arith, less, same))
          | inr past ↦
              elim (cases_lt place k) [
                | inl more ↦ other (λ same. omega (arith, more, same))
                | inr level ↦
                    let same : place ≡ k = omega (arith, past, level) in
                    let within = slice_get_within classes k example at in
                    let set : slice_index_or (slice_set before place true) k false ≡ true =
                    subst (λ (n : ℕ). slice_index_or (slice_set before n true) k false ≡ true) (sym same)
                    (get_or-set_same before k true false (omega (arith, within, count))) in (
                      λ is. inr (has_class (slice_get classes place) example (ap (slice_get classes) same ∙ at) has),
                      λ is. set,
                    )
              ]
        ]
      where
        other : (k ≡ place → ⊥) → Decides (slice_index_or (slice_set before place true) k false) ((slice_index_or before k false ≡ true) ⊎ (example.class ≡ class))
        other apart =
            let same : slice_index_or (slice_set before place true) k false ≡ slice_index_or before k false = get_or-set_other before place k true false apart in
            let it = held (slice_get classes place) has in (
              λ is. inl (sym same ∙ is),
              λ or. elim or [ inl is ↦ same ∙ is | inr is ↦ absurd (one_place k place example it.0 at it.1.0 (is ∙ sym it.1.1) apart) ],
            )

    -- it isn't, and none of the others has it
    nowhere : (IsThere → ⊥) → IsAmong classes class place
        → (k : ℕ) (example : ClassExample) → slice_get classes k ≡ Some example → example.class ≡ class → ⊥
    nowhere none among k example at is =
        elim (cases_lt k place) [
          | inl less ↦
              let under = among.before k example less in
              omega (arith, under, ap number_of (get_or_from_slice_get classes k example example at), ap class_number is)
          | inr past ↦
              elim (cases_lt place k) [
                | inl more ↦
                    let within : place < length classes = let far = slice_get_within classes k example at in omega (arith, more, far) in
                    let up = rises place k (get_or classes place example) example (slice_get-get_or classes place example within) at more in
                    let over = among.behind example within in
                    omega (arith, up, over, ap class_number is)
                | inr level ↦
                    let same : k ≡ place = omega (arith, past, level) in
                    none (subst (HasClass class) (sym at ∙ ap (slice_get classes) same) is)
              ]
        ]

    pub marks : (after : List Bool) → AreMarked classes place class before after → IsThere ⊎ (IsThere → ⊥) → IsPlaceFor classes class place
        → (k : ℕ) (example : ClassExample) → slice_get classes k ≡ Some example
        → Decides (slice_index_or after k false) ((slice_index_or before k false ≡ true) ⊎ (example.class ≡ class))
    marks after marked (inl has) stands k example at =
        subst (λ (l : List Bool). Decides (slice_index_or l k false) ((slice_index_or before k false ≡ true) ⊎ (example.class ≡ class))) (sym (marked.there has))
        (there has k example at)
    marks after marked (inr none) (inl has) k example at = absurd (none has)
    marks after marked (inr none) (inr among) k example at =
        subst (λ (l : List Bool). Decides (slice_index_or l k false) ((slice_index_or before k false ≡ true) ⊎ (example.class ≡ class))) (sym (marked.elsewhere none)) (
          λ is. inl is,
          λ or. elim or [ inl is ↦ is | inr is ↦ absurd (nowhere none among k example at is) ],
        )
