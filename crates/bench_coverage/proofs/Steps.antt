-- One frame more on the way of a passage.
use Rattle.std.proofs.Common.{◌≡◌, ◌⊎◌, ℕ, Bool, true, false, List, [], ◌∷◌, ◌++◌, length, map, Some, Vec, refl, ap, sym, subst, ◌∙◌, inl, inr, arith}
use Rattle.std.specs.Prelude.{Contains, Decides, slice_get, slice_index_or}
use Rattle.std.specs.List.Sorted.{IsStrictlyIncreasing}
use Rattle.std.specs.declared.alloc.Global.{Global}
use Rattle.mib_state.specs.Entities.{Entities}
use Rattle.frame_rows.specs.declared.class.FrameClass.{FrameClass}
use Rattle.frame_rows.specs.Class.{class_number, class_of}
use Rattle.frame_classes.specs.Classes.{AreClasses, classes_in}
use Rattle.frame_classes.specs.declared.example.ClassExample.{ClassExample}
use Rattle.bench_judge.specs.declared.course.JudgedFrame.{JudgedFrame}
use Rattle.bench_coverage.specs.Coverage.{CountsFor, IsCovered, IsCoverage, class_by_version, examples_of}
use Rattle.bench_coverage.specs.Marks.{Ascend}
use Rattle.bench_coverage.specs.Noting.{IsFresh, IsNext, IsOf, IsSoFar, IsTurned}
use Rattle.bench_coverage.specs.Passage.{IsReady, entities_in}
use Rattle.bench_coverage.specs.Stretches.{IsInStretch}
use Rattle.bench_coverage.specs.declared.passage.Passage.{Passage}
use Rattle.bench_coverage.specs.declared.stretch.Stretch.{Stretch}
use Rattle.bench_coverage.proofs.Noted.{AreRight, are_right, fresh_right, grown_first, grown_new, grown_same, last_is, none_counts, own_marked}

-- ---- classes in order

numbers_are : (classes : List ClassExample) → map class_number (classes_in (examples_of classes)) ≡ map (λ (e : ClassExample). class_number e.class) classes
numbers_are [] = refl
numbers_are (e ∷ rest) = ap (λ (l : List ℕ). class_number e.class ∷ l) (numbers_are rest)

pub ascend_of : (e : Entities) (port least : ℕ) (classes : List ClassExample) → AreClasses e port least (examples_of classes) → Ascend classes
ascend_of e port least classes are = subst IsStrictlyIncreasing (numbers_are classes) are.once

-- ---- marks

-- what marking a class does to the marks of a stretch
abbrev pub AreMarkedAs : Stretch → Vec Bool Global → FrameClass → Type 0
AreMarkedAs s tried class =
    (k : ℕ) (example : ClassExample) → slice_get s.classes.items k ≡ Some example
    → Decides (slice_index_or tried.items k false) ((slice_index_or s.tried.items k false ≡ true) ⊎ (example.class ≡ class))

module _ (passage : Passage) (ready : IsReady passage) (class : FrameClass) (frames : List JudgedFrame) (frame : JudgedFrame) (next : IsNext passage class frames frame) where
  abbrev entities : ℕ → Entities
  entities = entities_in passage

  inside : IsInStretch entities frame.port passage.least passage.first frame.version
  inside =
      subst (λ (p : ℕ). IsInStretch entities p passage.least passage.first frame.version) (sym next.port)
      (subst (λ (v : ℕ). IsInStretch entities passage.port passage.least passage.first v) (sym next.version) ready.passes.inside)

  its_class : class ≡ class_by_version entities frame
  its_class =
      sym next.has_class
      ∙ ap (λ (v : ℕ). class_of (entities v) passage.port frame.frame) (sym next.version)
      ∙ ap (λ (p : ℕ). class_of (entities frame.version) p frame.frame) (sym next.port)

  marked : (s : Stretch) (tried : Vec Bool Global) → AreMarkedAs s tried class → AreMarkedAs s tried (class_by_version entities frame)
  marked s tried = subst (AreMarkedAs s tried) its_class

  covered : (s : Stretch) (tried : Vec Bool Global) → IsOf passage s → AreRight entities passage.least frames s
      → length tried.items ≡ length s.tried.items → AreMarkedAs s tried class
      → IsCovered entities passage.least (frames ++ frame ∷ []) (record s { tried = tried })
  covered s tried of right count marks =
      own_marked entities passage.least frames frame passage.first inside s tried (of.0 ∙ sym next.port) of.1 right count (marked s tried marks)

  right_fresh : (s : Stretch) → IsFresh passage s → length s.tried.items ≡ length s.classes.items
      → ((i : JudgedFrame) → Contains frames i → CountsFor entities passage.least frame.port passage.first i → ⊥)
      → AreRight entities passage.least frames s
  right_fresh s fresh marks none =
      fresh_right entities passage.least frames s
      (subst (λ (v : ℕ). AreClasses (entities v) s.port passage.least (examples_of s.classes.items)) (sym fresh.version)
      (subst (λ (p : ℕ). AreClasses (entities passage.first) p passage.least (examples_of s.classes.items)) (sym fresh.port) fresh.classes))
      marks fresh.tried
      (λ i judged counts.
      none i judged (subst (λ (p : ℕ). CountsFor entities passage.least p passage.first i) (fresh.port ∙ sym next.port)
      (subst (λ (v : ℕ). CountsFor entities passage.least s.port v i) fresh.version counts)))

  -- the last stretch is that of the passage, or a fresh one is
  pub noted : (done more : List Stretch) (last turned : Stretch) (tried : Vec Bool Global) → IsTurned passage done last more turned
      → length turned.tried.items ≡ length turned.classes.items
      → length tried.items ≡ length turned.tried.items → AreMarkedAs turned tried class
      → IsSoFar entities passage.least frames done last
      → IsSoFar entities passage.least (frames ++ frame ∷ []) more (record turned { tried = tried })
  noted done more last turned tried (inl stays) whole count marks are =
      let one : turned ≡ last = stays.2 in
      let of : IsOf passage turned = subst (IsOf passage) (sym one) stays.0 in
      let far : IsCoverage entities passage.least frames (done ++ turned ∷ []) =
      subst (λ (s : Stretch). IsCoverage entities passage.least frames (done ++ s ∷ [])) (sym one) are in
      let held = last_is entities passage.least frames frame passage.first inside next.last done turned far in
      let now = covered turned tried of (are_right entities passage.least frames turned held) count marks in
      subst (λ (l : List Stretch). IsCoverage entities passage.least (frames ++ frame ∷ []) (l ++ (record turned { tried = tried }) ∷ [])) (sym stays.1)
      (grown_same entities passage.least frames frame passage.first inside next.last done turned far tried (of.0 ∙ sym next.port) of.1 now)
  noted done more last turned tried (inr goes) whole count marks are =
      let apart : (frame.port ≡ last.port) × (passage.first ≡ last.version) → ⊥ = λ own. goes.0 (sym own.0 ∙ next.port, sym own.1) in
      let fresh = goes.2 in
      let none = none_counts entities passage.least frames frame passage.first inside next.last done last are apart in
      let right = right_fresh turned fresh whole none in
      let now = covered turned tried (fresh.port, fresh.version) right count marks in
      subst (λ (l : List Stretch). IsCoverage entities passage.least (frames ++ frame ∷ []) (l ++ (record turned { tried = tried }) ∷ [])) (sym goes.1)
      (grown_new entities passage.least frames frame passage.first inside next.last done last are apart (record turned { tried = tried })
      (fresh.port ∙ sym next.port) fresh.version now)

-- the first frame
pub first_noted : (passage : Passage) (ready : IsReady passage) (class : FrameClass) (frame : JudgedFrame) (next : IsNext passage class [] frame)
    (s : Stretch) (tried : Vec Bool Global) → IsFresh passage s → length s.tried.items ≡ length s.classes.items
    → length tried.items ≡ length s.tried.items → AreMarkedAs s tried class
    → IsSoFar (entities_in passage) passage.least (frame ∷ []) [] (record s { tried = tried })
first_noted passage ready class frame next s tried fresh whole count marks =
    let right = right_fresh passage ready class [] frame next s fresh whole (λ i judged counts. absurd (omega (arith, judged.1))) in
    let now = covered passage ready class [] frame next s tried (fresh.port, fresh.version) right count marks in
    grown_first (entities_in passage) passage.least frame passage.first (record s { tried = tried }) (inside passage ready class [] frame next)
    (fresh.port ∙ sym next.port) fresh.version now
