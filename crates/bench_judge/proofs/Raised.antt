-- Versions for frames of which one may have none under a bound.
use Rattle.std.proofs.Common.{◌≡◌, ◌==◌, ◌≢◌, ℕ, zero, suc, ◌<◌, ◌≤◌, Bool, true, false, Decides, List, [], ◌∷◌, length, set, take, Option, None, Some, Vec, is_some, slice_get, refl, ap, sym, subst, ◌∙◌, arith, true≢false}
use Rattle.std.specs.declared.alloc.Global.{Global}
use Rattle.std.proofs.lemmas.Bool.{eqb-true, eqb-false}
use Rattle.std.proofs.lemmas.Option.{slice_get_within}
use Rattle.omci_msg.specs.declared.request.Request.{Request}
use Rattle.mib_state.specs.After.{after}
use Rattle.bench_history.specs.declared.event.Event.{Event}
use Rattle.bench_judge.specs.Explained.{IsChoice}
use Rattle.bench_judge.specs.Frames.{AreWithin, Fits, IsSeenBy, MayHave}
use Rattle.bench_judge.specs.Cut.{IsSwept, by_number}
use Rattle.bench_judge.specs.declared.frame.Frame.{Frame}
use Rattle.bench_answers.specs.Ground.{Ground}

pub set_same : {A : Type 0} (xs : List A) (n : ℕ) (x : A) → n < length xs → slice_get (set xs n x) n ≡ Some x
set_same [] n x lt = absurd (omega (arith, lt))
set_same (y ∷ xs) zero x lt = refl
set_same (y ∷ xs) (suc n) x lt = set_same xs n x (omega (arith, lt))

pub set_other : {A : Type 0} (xs : List A) (n m : ℕ) (x : A) → m ≢ n → slice_get (set xs n x) m ≡ slice_get xs m
set_other [] n m x differ = refl
set_other (y ∷ xs) zero zero x differ = absurd (differ refl)
set_other (y ∷ xs) zero (suc m) x differ = refl
set_other (y ∷ xs) (suc n) zero x differ = refl
set_other (y ∷ xs) (suc n) (suc m) x differ = set_other xs n m x (λ same. differ (ap suc same))

some_is : {A : Type 0} (x y : A) → Some x ≡ Some y → x ≡ y
some_is x y is = cc is

-- two frames are one but for their least versions
record IsLike (x y : Frame) : Type 0 where
  sent : y.sent ≡ x.sent
  ended : y.ended ≡ x.ended
  port : y.port ≡ x.port
  most : y.most ≡ x.most

same_like : (x : Frame) → IsLike x x
same_like x = record { sent = refl; ended = refl; port = refl; most = refl }

-- a frame stands at a number, like another
record StandsLike (frames : List Frame) (m : ℕ) (x : Frame) : Type 0 where
  y : Frame
  at : slice_get frames m ≡ Some y
  like : IsLike x y

module _ (padded unordered : Bool) (events : List Event) (requests : List Request) where
  may_like : (x y : Frame) (v : ℕ) → IsLike x y → y.least ≤ v → MayHave padded events requests x v → MayHave padded events requests y v
  may_like x y v like least may =
      let s : IsSeenBy padded events x (after (take v requests)) = may.seen in
      record {
        least = least;
        most = omega (arith, like.most, may.most);
        seen = record {
          port = s.port;
          extent = s.extent;
          bytes = s.bytes;
          entered = ap (slice_get events) like.sent ∙ s.entered;
          end = s.end;
          ended = like.ended ∙ s.ended;
          seen = s.seen;
          at_end = s.at_end;
          shows = s.shows;
        };
      }

  module _ (frames : List Frame) (n : ℕ) (f : Frame) (at : slice_get frames n ≡ Some f) (ended : is_some f.ended ≡ true) (from : ℕ) (over : f.least ≤ from) where
    abbrev g : Frame
    g = record f { least = from }

    abbrev raised : List Frame
    raised = set frames n g

    g_like : IsLike f g
    g_like = record { sent = refl; ended = refl; port = refl; most = refl }

    back_like : IsLike g f
    back_like = record { sent = refl; ended = refl; port = refl; most = refl }

    at_raised : slice_get raised n ≡ Some g
    at_raised = set_same frames n g (slice_get_within frames n f at)

    raised_of : (m : ℕ) (x : Frame) → slice_get frames m ≡ Some x → StandsLike raised m x
    raised_of m x at_m =
        elim (m == n) as (λ b. (m == n) ≡ b → StandsLike raised m x) [
          | true ↦ λ same.
              let here : m ≡ n = eqb-true m n same in
              record { y = g; at = ap (slice_get raised) here ∙ at_raised; like = subst (λ z. IsLike z g) (some_is f x (sym at ∙ ap (slice_get frames) (sym here) ∙ at_m)) g_like }
          | false ↦ λ differ. record { y = x; at = set_other frames n m g (eqb-false m n differ) ∙ at_m; like = same_like x }
        ] refl

    of_raised : (m : ℕ) (y : Frame) → slice_get raised m ≡ Some y → StandsLike frames m y
    of_raised m y at_m =
        elim (m == n) as (λ b. (m == n) ≡ b → StandsLike frames m y) [
          | true ↦ λ same.
              let here : m ≡ n = eqb-true m n same in
              record { y = f; at = ap (slice_get frames) here ∙ at; like = subst (λ z. IsLike z f) (some_is g y (sym at_raised ∙ ap (slice_get raised) (sym here) ∙ at_m)) back_like }
          | false ↦ λ differ. record { y = y; at = sym (set_other frames n m g (eqb-false m n differ)) ∙ at_m; like = same_like y }
        ] refl

    -- versions that fit the raised frames fit the frames, and that of the raised one isn't under the bound
    pub fits_back : (v : ℕ → ℕ) → Fits padded unordered events requests raised v → Fits padded unordered events requests frames v × (from ≤ v n)
    fits_back v fits = (
      record {
        each = λ m x at_m ended_m.
            elim (m == n) as (λ b. (m == n) ≡ b → MayHave padded events requests x (v m)) [
              | true ↦ λ same.
                  let here : m ≡ n = eqb-true m n same in
                  let x_is : f ≡ x = some_is f x (sym at ∙ ap (slice_get frames) (sym here) ∙ at_m) in
                  let may : MayHave padded events requests g (v n) = fits.each n g at_raised ended in
                  subst (λ k. MayHave padded events requests x (v k)) (sym here)
                  (subst (λ z. MayHave padded events requests z (v n)) x_is (may_like g f (v n) back_like (omega (arith, over, may.least)) may))
              | false ↦ λ differ. fits.each m x (set_other frames n m g (eqb-false m n differ) ∙ at_m) ended_m
            ] refl;
        ordered = λ order m k one other at_m at_k ended_m ended_k port lt.
            let a = raised_of m one at_m in
            let b = raised_of k other at_k in
            fits.ordered order m k a.y b.y a.at b.at (ap is_some a.like.ended ∙ ended_m) (ap is_some b.like.ended ∙ ended_k) (a.like.port ∙ port ∙ sym b.like.port) lt;
      },
      (fits.each n g at_raised ended).least,
    )

    -- and the other way round
    pub fits_on : (v : ℕ → ℕ) → Fits padded unordered events requests frames v → from ≤ v n → Fits padded unordered events requests raised v
    fits_on v fits le =
        record {
          each = λ m y at_m ended_m.
              elim (m == n) as (λ b. (m == n) ≡ b → MayHave padded events requests y (v m)) [
                | true ↦ λ same.
                    let here : m ≡ n = eqb-true m n same in
                    let y_is : g ≡ y = some_is g y (sym at_raised ∙ ap (slice_get raised) (sym here) ∙ at_m) in
                    let may : MayHave padded events requests f (v n) = fits.each n f at ended in
                    subst (λ k. MayHave padded events requests y (v k)) (sym here)
                    (subst (λ z. MayHave padded events requests z (v n)) y_is (may_like f g (v n) g_like le may))
                | false ↦ λ differ. fits.each m y (sym (set_other frames n m g (eqb-false m n differ)) ∙ at_m) ended_m
              ] refl;
          ordered = λ order m k one other at_m at_k ended_m ended_k port lt.
              let a = of_raised m one at_m in
              let b = of_raised k other at_k in
              fits.ordered order m k a.y b.y a.at b.at (ap is_some a.like.ended ∙ ended_m) (ap is_some b.like.ended ∙ ended_k) (a.like.port ∙ port ∙ sym b.like.port) lt;
        }

    by_found : (found : Option (Vec ℕ Global)) → IsSwept padded unordered events requests raised found
        → Decides (is_some found) ((v : ℕ → ℕ) × Fits padded unordered events requests frames v × (from ≤ v n))
    by_found None none = ((λ bad. absurd (true≢false (sym bad))), λ some. absurd (none some.0 (fits_on some.0 some.1 some.2)))
    by_found (Some versions) least = (
      (λ yes. let back = fits_back (by_number versions) least.least.fits in (by_number versions, back.0, back.1)),
      λ some. refl,
    )

    -- so the sweep of the raised frames decides
    pub raised_decides : (swept : List Frame) (found : Option (Vec ℕ Global)) (r : Bool) → swept ≡ raised → IsSwept padded unordered events requests swept found → r ≡ is_some found
        → Decides r ((v : ℕ → ℕ) × Fits padded unordered events requests frames v × (from ≤ v n))
    raised_decides swept found r same is decides =
        subst (λ b. Decides b ((v : ℕ → ℕ) × Fits padded unordered events requests frames v × (from ≤ v n))) (sym decides)
        (by_found found (subst (λ fs. IsSwept padded unordered events requests fs found) same is))

    g_most : g.most ≡ f.most
    g_most = refl

    pub raised_within : AreWithin requests frames → AreWithin requests raised
    raised_within within m y at_m = let a = of_raised m y at_m in omega (arith, a.like.most, within m a.y a.at)

-- no events have a choice
pub no_events : (grounds : Ground) (padded unordered : Bool) (v : ℕ → ℕ) → IsChoice grounds padded unordered [] v
no_events grounds padded unordered v =
    record {
      each = λ f is. absurd (cc is.entered);
      ordered = λ order f g is_f is_g port lt. absurd (cc is_f.entered);
    }
