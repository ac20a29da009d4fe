-- Versions for frames that are judged each by itself.
use Rattle.std.proofs.Common.{◌≡◌, ◌==◌, ◌≤◌, ◌<◌, ◌+◌, ◌++◌, ◌⊎◌, ℕ, zero, suc, Bool, true, false, List, [], ◌∷◌, length, Option, None, Some, Result, Ok, Err, IfOk, Vec, is_some, replicate, set, slice_get, slice_index, refl, ap, ap₂, sym, subst, ◌∙◌, arith, inl, inr, length-append}
use Rattle.std.proofs.lemmas.Bool.{cases_lt, eqb-false, eqb-true}
use Rattle.std.proofs.lemmas.Option.{get_or_from_slice_get, slice_get_within}
use Rattle.std.specs.Prelude.{MatchOption}
use Rattle.std.specs.declared.alloc.AllocError.{AllocError}
use Rattle.std.specs.declared.alloc.Global.{Global}
use Rattle.std.proofs.lemmas.List.{length-replicate}
use Rattle.omci_msg.specs.declared.request.Request.{Request}
use Rattle.bench_history.specs.declared.event.Event.{Event}
use Rattle.bench_judge.specs.Alone.{AreHad, AreJoined, left_of, version_or}
use Rattle.bench_judge.specs.Cut.{IsFitted, IsSwept}
use Rattle.bench_judge.specs.Frames.{AreWithin, Fits, MayHave}
use Rattle.bench_judge.specs.Sweep.{AreLeast, NoneFit}
use Rattle.bench_judge.specs.declared.frame.Frame.{Frame}
use Rattle.bench_judge.proofs.Lists.{snoc_last, snoc_old}
use Rattle.bench_judge.proofs.Raised.{set_other, set_same}

-- ---- lists that are joined

-- what stands at a number under the length
pub stands : {A : Type 0} (xs : List A) (n : ℕ) → n < length xs → (x : A) × (slice_get xs n ≡ Some x)
stands [] n lt = absurd (omega (arith, lt))
stands (x ∷ xs) zero lt = (x, refl)
stands (x ∷ xs) (suc n) lt = stands xs n (omega (arith, lt))

-- a number under one more is under it, or it
before_or_last : (k n : ℕ) → n < k + 1 → (n < k) ⊎ (n ≡ k)
before_or_last k n lt = elim (cases_lt n k) [
  | inl under ↦ inl under
  | inr over ↦ inr (omega (arith, over, lt))
]

pub join_more : {A B C : Type 0} (join : A → B → C) (one : List A) (other : List B) (joined : List C) (a : A) (b : B)
    → slice_get one (length joined) ≡ Some a → slice_get other (length joined) ≡ Some b
    → AreJoined join one other joined → AreJoined join one other (joined ++ join a b ∷ [])
join_more {A = A} {B = B} join one other joined a b at_one at_other are = record {
  each = λ n x y lt at_x at_y.
      go n x y (before_or_last (length joined) n (omega (arith, lt, length-append joined (join a b ∷ [])))) at_x at_y;
}
  where
    go : (n : ℕ) (x : A) (y : B) → (n < length joined) ⊎ (n ≡ length joined) → slice_get one n ≡ Some x → slice_get other n ≡ Some y
        → slice_get (joined ++ join a b ∷ []) n ≡ Some (join x y)
    go n x y (inl lt) at_x at_y = snoc_old joined (join a b) (join x y) n (are.each n x y lt at_x at_y)
    go n x y (inr is) at_x at_y =
        let same_x : a ≡ x = cc (sym at_one ∙ ap (slice_get one) (sym is) ∙ at_x) in
        let same_y : b ≡ y = cc (sym at_other ∙ ap (slice_get other) (sym is) ∙ at_y) in
        ap (slice_get (joined ++ join a b ∷ [])) is ∙ snoc_last joined (join a b) ∙ ap₂ (λ v w. Some (join v w)) same_x same_y

-- ---- versions that are found

pub had_more : {padded : Bool} (events : List Event) (requests : List Request) (frames : List Frame) (found : List (Option ℕ)) (number v : ℕ) (frame : Frame)
    → AreHad padded events requests frames found → number < length found → slice_get frames number ≡ Some frame → MayHave padded events requests frame v
    → AreHad padded events requests frames (set found number (Some v))
had_more {padded} events requests frames found number v frame had lt at may n w other at_found at_frame = go (n == number) refl
  where
    go : (b : Bool) → (n == number) ≡ b → MayHave padded events requests other w
    go true is =
        let same : n ≡ number = eqb-true n number is in
        let both : Some (Some v) ≡ Some (Some w) = sym (set_same found number (Some v) lt) ∙ ap (slice_get (set found number (Some v))) (sym same) ∙ at_found in
        let version : v ≡ w = cc both in
        let frame_is : frame ≡ other = cc (sym at ∙ ap (slice_get frames) (sym same) ∙ at_frame) in
        subst (λ f. MayHave padded events requests f w) frame_is (subst (MayHave padded events requests frame) version may)
    go false is = had n w other (sym (set_other found number n (Some v) (eqb-false n number is)) ∙ at_found) at_frame

-- ---- versions of frames that are left, and of all

module _ (events : List Event) (requests : List Request) (frames left : List Frame) (found : List (Option ℕ))
    (are_left : AreJoined left_of found frames left) (count : length left ≡ length frames) (found_count : length found ≡ length frames) where
  -- the frame of a number, and what was found for it
  record IsOfNumber (n : ℕ) (here : Frame) : Type 0 where
    frame : Frame
    at : slice_get frames n ≡ Some frame
    had : Option ℕ
    at_found : slice_get found n ≡ Some had
    is : here ≡ left_of had frame

  of_number : (n : ℕ) (here : Frame) → slice_get left n ≡ Some here → IsOfNumber n here
  of_number n here at =
      let lt : n < length left = slice_get_within left n here at in
      let frame = stands frames n (omega (arith, lt, count)) in
      let had = stands found n (omega (arith, lt, count, found_count)) in
      let joined = are_left.each n had.0 frame.0 lt had.1 frame.1 in
      record { frame = frame.0; at = frame.1; had = had.0; at_found = had.1; is = cc (sym at ∙ joined) }

  most_of : (had : Option ℕ) (frame : Frame) → (left_of had frame).most ≤ frame.most
  most_of (Some v) frame = omega arith
  most_of None frame = omega arith

  pub left_within : AreWithin requests frames → AreWithin requests left
  left_within within n here at =
      let its = of_number n here at in
      omega (arith, within n its.frame its.at, most_of its.had its.frame, ap (λ (f : Frame). f.most) its.is)

  -- a frame that is left and has ended is as before
  as_before : (had : Option ℕ) (frame : Frame) → is_some (left_of had frame).ended ≡ true → left_of had frame ≡ frame
  as_before (Some v) frame ended = absurd (cc ended)
  as_before None frame ended = refl

  pub fits_left : {padded : Bool} (versions : ℕ → ℕ) → Fits padded true events requests frames versions → Fits padded true events requests left versions
  fits_left {padded} versions fits = record {
    each = λ n here at ended.
        let its = of_number n here at in
        let same : here ≡ its.frame = its.is ∙ as_before its.had its.frame (ap (λ (f : Frame). is_some f.ended) (sym its.is) ∙ ended) in
        subst (λ f. MayHave padded events requests f (versions n)) (sym same)
        (fits.each n its.frame its.at (ap (λ (f : Frame). is_some f.ended) (sym same) ∙ ended));
    ordered = λ bad. absurd (cc bad);
  }

  module _ {padded : Bool} (others all : List ℕ) (had : AreHad padded events requests frames found) (joined : AreJoined version_or found others all)
      (all_count : length all ≡ length frames) (others_count : length others ≡ length frames)
      (fits : Fits padded true events requests left (slice_index others)) where
    index_at : (xs : List ℕ) (n x : ℕ) → slice_get xs n ≡ Some x → slice_index xs n ≡ x
    index_at xs n x at = get_or_from_slice_get xs n x 0 at

    may_have : (n : ℕ) (frame : Frame) (o : Option ℕ) (other : ℕ) → slice_get frames n ≡ Some frame → is_some frame.ended ≡ true → slice_get found n ≡ Some o
        → slice_get others n ≡ Some other → MayHave padded events requests frame (version_or o other)
    may_have n frame (Some v) other at ended at_found at_other = had n v frame at_found at
    may_have n frame None other at ended at_found at_other =
        let here = are_left.each n None frame (omega (arith, slice_get_within frames n frame at, count)) at_found at in
        subst (MayHave padded events requests frame) (index_at others n other at_other) (fits.each n frame here ended)

    pub fits_all : Fits padded true events requests frames (slice_index all)
    fits_all = record {
      each = λ n frame at ended.
          let lt = slice_get_within frames n frame at in
          let o = stands found n (omega (arith, lt, found_count)) in
          let other = stands others n (omega (arith, lt, others_count)) in
          let is = joined.each n o.0 other.0 (omega (arith, lt, all_count)) o.1 other.1 in
          subst (MayHave padded events requests frame) (sym (index_at all n (version_or o.0 other.0) is))
          (may_have n frame o.0 other.0 at ended o.1 other.1);
      ordered = λ bad. absurd (cc bad);
    }

-- ---- the same, as calls gave it

none_had : (k n v : ℕ) → slice_get (replicate k None) n ≡ Some (Some v) → ⊥
none_had zero n v at = absurd (cc at)
none_had (suc k) zero v at = absurd (cc at)
none_had (suc k) (suc n) v at = none_had k n v at

pub nothing_had : {padded : Bool} (events : List Event) (requests : List Request) (frames : List Frame) (found : List (Option ℕ)) → found ≡ replicate (length frames) None
    → (length found ≡ length frames) × AreHad padded events requests frames found
nothing_had events requests frames found is = (
  ap (λ (l : List (Option ℕ)). length l) is ∙ length-replicate {A = Option ℕ} (length frames) None,
  λ n v frame at_found at. absurd (none_had (length frames) n v (ap (λ (l : List (Option ℕ)). slice_get l n) (sym is) ∙ at_found)),
)

module _ (events : List Event) (requests : List Request) (frames left given_left : List Frame) (found given : List (Option ℕ))
    (found_count : length found ≡ length frames) (same_found : given ≡ found) (same_left : given_left ≡ left)
    (joined_left : AreJoined left_of given frames left) (count : length left ≡ length frames) where
  are_left : AreJoined left_of found frames left
  are_left = subst (λ l. AreJoined left_of l frames left) same_found joined_left

  pub alone_within : AreWithin requests frames → AreWithin requests given_left
  alone_within within = subst (AreWithin requests) (sym same_left) (left_within events requests frames left found are_left count found_count within)

  pub alone_none : {padded : Bool} (o : Option (Vec ℕ Global)) → o ≡ None → IsSwept padded true events requests given_left o → NoneFit padded true events requests frames
  alone_none {padded} o is swept versions fits =
      let none : NoneFit padded true events requests given_left = subst (IsSwept padded true events requests given_left) is swept in
      none versions (subst (λ fs. Fits padded true events requests fs versions) (sym same_left)
      (fits_left events requests frames left found are_left count found_count versions fits))

  pub alone_some : {padded : Bool} (o : Option (Vec ℕ Global)) (others : Vec ℕ Global) → o ≡ Some others → IsSwept padded true events requests given_left o
      → AreHad padded events requests frames found
      → (given_found : List (Option ℕ)) (given_others all : List ℕ) → given_found ≡ found → given_others ≡ others.items
      → AreJoined version_or given_found given_others all → length all ≡ length given_others → Fits padded true events requests frames (slice_index all)
  alone_some {padded} o others is swept had given_found given_others all same same_others joined all_count =
      let least : AreLeast padded true events requests given_left others.items = subst (IsSwept padded true events requests given_left) is swept in
      let fits : Fits padded true events requests left (slice_index others.items) =
      subst (λ fs. Fits padded true events requests fs (slice_index others.items)) same_left least.least.fits in
      let long : length others.items ≡ length frames = least.count ∙ ap (λ (l : List Frame). length l) same_left ∙ count in
      fits_all events requests frames left found are_left count found_count others.items all had
      (subst (λ l. AreJoined version_or l others.items all) same (subst (λ l. AreJoined version_or given_found l all) same_others joined))
      (all_count ∙ ap (λ (l : List ℕ). length l) same_others ∙ long) long fits

-- what a sweep finds where order counts suits
pub swept_suits : (padded : Bool) (events : List Event) (requests : List Request) (frames : List Frame) (r : Result (Option (Vec ℕ Global)) AllocError)
    → IfOk r (IsSwept padded false events requests frames) → IfOk r (IsFitted padded false events requests frames)
swept_suits padded events requests frames (Ok None) none = none
swept_suits padded events requests frames (Ok (Some versions)) least = (least.least.fits, λ ordered. least.least)
swept_suits padded events requests frames (Err e) is = tt

pub alone_suits : (padded : Bool) (events : List Event) (requests : List Request) (frames : List Frame) (r : Result (Option (Vec ℕ Global)) AllocError)
    → IfOk r (λ found. MatchOption found (NoneFit padded true events requests frames) (λ versions. Fits padded true events requests frames (slice_index versions.items)))
    → IfOk r (IsFitted padded true events requests frames)
alone_suits padded events requests frames (Ok None) none = none
alone_suits padded events requests frames (Ok (Some versions)) fits = (fits, λ ordered. absurd (cc ordered))
alone_suits padded events requests frames (Err e) is = tt
