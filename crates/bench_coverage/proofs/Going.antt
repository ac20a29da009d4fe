-- The way of a passage along frames that are in order.
use Rattle.std.proofs.Common.{◌≡◌, ℕ, ◌+◌, ◌-◌, ◌^◌, ◌<◌, ◌≤◌, List, [], ◌∷◌, ◌++◌, length, take, get_or, Some, ap, sym, subst, ◌∙◌, arith, take_all}
use Rattle.std.specs.Prelude.{Contains, slice_get}
use Rattle.std.specs.List.Sorted.{IsNonDecreasingBy}
use Rattle.std.proofs.lemmas.List.{take_more}
use Rattle.std.proofs.lemmas.Option.{get_or_from_slice_get, slice_get_within}
use Rattle.omci_msg.specs.declared.request.Request.{Request}
use Rattle.bench_judge.specs.declared.course.JudgedFrame.{JudgedFrame}
use Rattle.bench_judge.proofs.Courses.{contained_at}
use Rattle.bench_judge.proofs.Lists.{in_front}
use Rattle.bench_coverage.specs.Coverage.{IsCoverage}
use Rattle.bench_coverage.specs.Noting.{IsGoing, IsNotBehind, IsSoFar, IsWhole}
use Rattle.bench_coverage.specs.Passage.{GoesOn, IsReady, entities_in, frame_number}
use Rattle.bench_coverage.specs.Stretches.{entities_by}
use Rattle.bench_coverage.specs.declared.passage.Passage.{Passage}
use Rattle.bench_coverage.specs.declared.stretch.Stretch.{Stretch}
use Rattle.bench_coverage.proofs.Noted.{first_decides}

-- ---- frames in order

number_at : (frames : List JudgedFrame) (i k : ℕ) (x y : JudgedFrame) → IsNonDecreasingBy frame_number frames → i ≤ k
    → slice_get frames i ≡ Some x → slice_get frames k ≡ Some y → frame_number x ≤ frame_number y
number_at frames i k x y up le at_i at_k =
    let low : get_or frames i x ≡ x = get_or_from_slice_get frames i x x at_i in
    let high : get_or frames k x ≡ y = get_or_from_slice_get frames k y x at_k in
    subst (λ (z : JudgedFrame). frame_number x ≤ frame_number z) high
    (subst (λ (z : JudgedFrame). frame_number z ≤ frame_number (get_or frames k x)) low (up i k x le (slice_get_within frames k y at_k)))

not_behind : (frames : List JudgedFrame) (i k : ℕ) (x y : JudgedFrame) → IsNonDecreasingBy frame_number frames → y.version < 2 ^ 64 → i ≤ k
    → slice_get frames i ≡ Some x → slice_get frames k ≡ Some y → IsNotBehind x y
not_behind frames i k x y up below le at_i at_k =
    first_decides (2 ^ 64) x.port x.version y.port y.version (number_at frames i k x y up le at_i at_k) below

module _ (requests : List Request) (base least : ℕ) (frames : List JudgedFrame) (up : IsNonDecreasingBy frame_number frames) where
  to_passage : (passage : Passage) (some : List JudgedFrame) (done : List Stretch) (last : Stretch) → passage.requests.now ≡ requests → passage.base ≡ base
      → passage.least ≡ least → IsSoFar (entities_by requests base) least some done last → IsSoFar (entities_in passage) passage.least some done last
  to_passage passage some done last r b l are =
      subst (λ (n : ℕ). IsSoFar (entities_in passage) n some done last) (sym l)
      (subst (λ (n : ℕ). IsSoFar (entities_by passage.requests.now n) least some done last) (sym b)
      (subst (λ (qs : List Request). IsSoFar (entities_by qs base) least some done last) (sym r) are))

  from_passage : (passage : Passage) (some : List JudgedFrame) (done : List Stretch) (last : Stretch) → passage.requests.now ≡ requests → passage.base ≡ base
      → passage.least ≡ least → IsSoFar (entities_in passage) passage.least some done last → IsSoFar (entities_by requests base) least some done last
  from_passage passage some done last r b l are =
      subst (λ (qs : List Request). IsSoFar (entities_by qs base) least some done last) r
      (subst (λ (n : ℕ). IsSoFar (entities_by passage.requests.now n) least some done last) b
      (subst (λ (n : ℕ). IsSoFar (entities_in passage) n some done last) l are))

  one_more : (place : ℕ) (y : JudgedFrame) → slice_get frames place ≡ Some y → take (place + 1) frames ≡ take place frames ++ y ∷ []
  one_more place y at =
      take_more frames place y (slice_get_within frames place y at)
      ∙ ap (λ (z : JudgedFrame). take place frames ++ z ∷ []) (get_or_from_slice_get frames place y y at)

  -- the first frame
  pub begun : (passage : Passage) (y : JudgedFrame) (last : Stretch) → slice_get frames 0 ≡ Some y → IsReady passage
      → passage.requests.now ≡ requests → passage.base ≡ base → passage.least ≡ least → passage.port ≡ y.port → passage.version ≡ y.version
      → IsWhole last → IsSoFar (entities_in passage) passage.least (y ∷ []) [] last → IsGoing requests base least frames passage 1 [] last
  begun passage y last at ready r b l port version whole are =
      let first : take 1 frames ≡ y ∷ [] = one_more 0 y at in
      record {
        ready = ready;
        requests_same = r;
        base_same = b;
        least_same = l;
        port = λ x at_x. port ∙ ap (λ (z : JudgedFrame). z.port) (same_frame y x (sym at ∙ at_x));
        version = λ x at_x. version ∙ ap (λ (z : JudgedFrame). z.version) (same_frame y x (sym at ∙ at_x));
        whole = whole;
        so_far =
            subst (λ (fs : List JudgedFrame). IsSoFar (entities_by requests base) least fs [] last) (sym first)
            (from_passage passage (y ∷ []) [] last r b l are);
      }
    where
      same_frame : (x z : JudgedFrame) → Some x ≡ Some z → x ≡ z
      same_frame x z is = cc is

  -- no frame before one comes behind it
  pub behind : (place : ℕ) (y : JudgedFrame) → slice_get frames place ≡ Some y → y.version < 2 ^ 64 → (j : JudgedFrame) → Contains (take place frames) j
      → IsNotBehind j y
  behind place y at below j inside =
      let there = in_front place inside.0 frames j (contained_at (take place frames) j inside) in
      not_behind frames inside.0 place j y up below (omega (arith, there.0)) there.1 at

  module _ (passage : Passage) (place : ℕ) (done : List Stretch) (last : Stretch) (going : IsGoing requests base least frames passage place done last)
      (some : 1 ≤ place) (y : JudgedFrame) (at : slice_get frames place ≡ Some y) where
    -- the next frame is of another port, or of no smaller version
    pub ahead : (x : JudgedFrame) → slice_get frames (place - 1) ≡ Some x → passage.port ≡ y.port → passage.version ≤ y.version
    ahead x at_x same =
        let low = number_at frames (place - 1) place x y up (omega arith) at_x at in
        let level : x.port ≡ y.port = sym (going.port x at_x) ∙ same in
        let version = going.version x at_x in
        omega (arith, low, level, version)

    pub goes_on : (next : Passage) (more : List Stretch) (turned : Stretch) → IsReady next → GoesOn passage next → next.port ≡ y.port → next.version ≡ y.version
        → IsWhole turned
        → (IsSoFar (entities_in next) next.least (take place frames) done last → IsSoFar (entities_in next) next.least (take place frames ++ y ∷ []) more turned)
        → IsGoing requests base least frames next (place + 1) more turned
    goes_on next more turned ready on port version whole by =
        let r : next.requests.now ≡ requests = on.requests ∙ going.requests_same in
        let b : next.base ≡ base = on.base ∙ going.base_same in
        let l : next.least ≡ least = on.least ∙ going.least_same in
        let now = by (to_passage next (take place frames) done last r b l going.so_far) in
        let same : place + 1 - 1 ≡ place = omega arith in
        record {
          ready = ready;
          requests_same = r;
          base_same = b;
          least_same = l;
          port = λ x at_x. port ∙ ap (λ (z : JudgedFrame). z.port) (here x (ap (slice_get frames) (sym same) ∙ at_x));
          version = λ x at_x. version ∙ ap (λ (z : JudgedFrame). z.version) (here x (ap (slice_get frames) (sym same) ∙ at_x));
          whole = whole;
          so_far =
              subst (λ (fs : List JudgedFrame). IsSoFar (entities_by requests base) least fs more turned) (sym (one_more place y at))
              (from_passage next (take place frames ++ y ∷ []) more turned r b l now);
        }
      where
        here : (x : JudgedFrame) → slice_get frames place ≡ Some x → y ≡ x
        here x at_x = same_frame y x (sym at ∙ at_x)
          where
            same_frame : (z w : JudgedFrame) → Some z ≡ Some w → z ≡ w
            same_frame z w is = cc is

  -- all of them
  pub gone : (passage : Passage) (place : ℕ) (done : List Stretch) (last : Stretch) → IsGoing requests base least frames passage place done last
      → length frames ≤ place → IsCoverage (entities_by requests base) least frames (done ++ last ∷ [])
  gone passage place done last going all =
      subst (λ (fs : List JudgedFrame). IsSoFar (entities_by requests base) least fs done last) (take_all place frames all) going.so_far
