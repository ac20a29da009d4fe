-- The frames of a front of events.
use Rattle.std.proofs.Common.{◌≡◌, ℕ, zero, suc, ◌<◌, ◌≤◌, true, false, cond, List, [], ◌∷◌, length, map, take, Option, None, Some, is_some, nat_lt, slice_get, refl, ap, sym, subst, ◌∙◌, arith, take-take}
use Rattle.std.proofs.lemmas.Bool.{ltb-true, ltb-false}
use Rattle.std.proofs.lemmas.Option.{slice_get-map}
use Rattle.omci_msg.specs.declared.request.Request.{Request}
use Rattle.bench_history.specs.declared.event.Event.{Event}
use Rattle.bench_answers.specs.Asked.{requests_of}
use Rattle.bench_answers.specs.Windows.{least_behind, most_behind}
use Rattle.bench_judge.specs.Explained.{EndedFrame}
use Rattle.bench_judge.specs.Frames.{AreFrames, AreWithin, IsKept, IsKeptIn, IsKeptOf}
use Rattle.bench_judge.specs.Cut.{end_before, until, with_end}
use Rattle.bench_judge.specs.declared.frame.Frame.{Frame}
use Rattle.bench_answers.proofs.Fronts.{most_grows}
use Rattle.bench_judge.proofs.Fronts.{ended_in_front, ended_of_front}
use Rattle.bench_answers.specs.Ground.{Ground}

pub some_is : {A : Type 0} (x y : A) → Some x ≡ Some y → x ≡ y
some_is x y is = cc is

not_over : (i j m : ℕ) → nat_lt i m ≡ false → i ≡ j → j < m → ⊥
not_over i j m over same lt = let le = ltb-false i m over in omega (arith, le, same, lt)

-- an end before a place stays
pub kept_end : (m : ℕ) (frame : Frame) (j : ℕ) → frame.ended ≡ Some j → j < m → until m frame ≡ frame
kept_end m frame j is lt =
    elim (frame.ended) as (λ o. frame.ended ≡ o → o ≡ Some j → until m frame ≡ frame) [
      | None ↦ λ e bad. absurd (cc bad)
      | Some i ↦ λ e same.
          elim (nat_lt i m) as (λ b. nat_lt i m ≡ b → until m frame ≡ frame) [
            | true ↦ λ under. rw e (rw under (rw (sym e) refl))
            | false ↦ λ over. absurd (not_over i j m over (some_is i j same) lt)
          ] refl
    ] refl is

-- what an end says that is left
pub left_end : (m : ℕ) (o : Option ℕ) → is_some (end_before m o) ≡ true → (j : ℕ) × (o ≡ Some j) × (j < m)
left_end m None is = absurd (cc is)
left_end m (Some j) is =
    elim (nat_lt j m) as (λ b. nat_lt j m ≡ b → is_some (cond b (Some j) None) ≡ true → (i : ℕ) × (Some j ≡ Some i) × (i < m)) [
      | true ↦ λ under h. (j, refl, ltb-true j m under)
      | false ↦ λ over h. absurd (cc h)
    ] refl is

pub with_end_is : (o : Option ℕ) (frame : Frame) → is_some (with_end o frame).ended ≡ is_some o
with_end_is (Some end) frame = refl
with_end_is None frame = refl

-- what stands in a list of what is made of each element
pub made_at : {A B : Type 0} (make : A → B) (xs : List A) (n : ℕ) (y : B) → slice_get (map make xs) n ≡ Some y → (x : A) × (slice_get xs n ≡ Some x) × (make x ≡ y)
made_at make [] n y is = absurd (cc is)
made_at make (x ∷ xs) zero y is = (x, refl, cc is)
made_at make (x ∷ xs) (suc n) y is = made_at make xs n y is

kept_shorter : (grounds : Ground) (m k : ℕ) (all : List Event) (f : EndedFrame) (frame : Frame) → m ≤ k → f.sent < f.ended → f.ended < m
    → IsKept grounds (take k all) f frame → IsKept grounds (take m all) f frame
kept_shorter grounds m k all f frame le later lt kept =
    record {
      sent = kept.sent;
      ended = kept.ended;
      port = kept.port;
      least = kept.least ∙ ap (least_behind grounds) (take-take f.sent k all (omega (arith, le, later, lt)) ∙ sym (take-take f.sent m all (omega (arith, later, lt))));
      most = kept.most ∙ ap (most_behind grounds) (take-take f.ended k all (omega (arith, le, lt)) ∙ sym (take-take f.ended m all (omega (arith, lt))));
    }

-- the frames of a front, cut to a shorter one
pub cut_frames : (grounds : Ground) (m k : ℕ) (all : List Event) (frames : List Frame) → m ≤ k → AreFrames grounds (take k all) frames → AreFrames grounds (take m all) (map (until m) frames)
cut_frames grounds m k all frames le are =
    record {
      each = λ f is.
          let of_all = ended_of_front m all f is in
          let o : IsKeptIn grounds (take k all) frames f = are.each f (ended_in_front k all f (omega (arith, of_all.0, le)) of_all.1) in
          record {
            frame = o.frame;
            at = slice_get-map (until m) frames f.number ∙ ap (λ x. elim x [ Some y ↦ Some (until m y) | None ↦ None ]) o.at
                ∙ ap Some (kept_end m o.frame f.ended o.kept.ended of_all.0);
            kept = kept_shorter grounds m k all f o.frame le is.later of_all.0 o.kept;
          };
      only = λ n frame at ended.
          let from = made_at (until m) frames n frame at in
          let old : Frame = from.0 in
          let end = left_end m old.ended (sym (with_end_is (end_before m old.ended) old) ∙ ap (λ (x : Frame). is_some x.ended) from.2 ∙ ended) in
          let o : IsKeptOf grounds (take k all) n old = are.only n old from.1 (ap is_some end.1) in
          let lt : o.f.ended < m = omega (arith, end.2, some_is o.f.ended end.0 (sym o.kept.ended ∙ end.1)) in
          record {
            f = o.f;
            is = ended_in_front m all o.f lt (ended_of_front k all o.f o.is).1;
            number = o.number;
            kept = subst (λ x. IsKept grounds (take m all) o.f x) (sym (kept_end m old end.0 end.1 end.2) ∙ from.2) (kept_shorter grounds m k all o.f old le o.is.later lt o.kept);
          };
    }

-- none of them may have a version behind the requests that all accept
pub cut_within : (grounds : Ground) (m k : ℕ) (all : List Event) (requests : List Request) (frames : List Frame) → m ≤ k → requests ≡ requests_of grounds (take k all)
    → AreFrames grounds (take k all) frames → AreWithin requests (map (until m) frames)
cut_within grounds m k all requests frames le accepted are n frame at =
    let from = made_at (until m) frames n frame at in
    let old : Frame = from.0 in
    elim (end_before m old.ended) as (λ o. end_before m old.ended ≡ o → frame.most ≤ length requests) [
      | None ↦ λ none. subst (λ (x : Frame). x.most ≤ length requests) (ap (λ o. with_end o old) (sym none) ∙ from.2) (omega arith)
      | Some j ↦ λ some.
          let end = left_end m old.ended (ap is_some some) in
          let o : IsKeptOf grounds (take k all) n old = are.only n old from.1 (ap is_some end.1) in
          let of_all = ended_of_front k all o.f o.is in
          let same : most_behind grounds (take o.f.ended (take k all)) ≡ most_behind grounds (take o.f.ended all) = ap (most_behind grounds) (take-take o.f.ended k all (omega (arith, of_all.0))) in
          let count : length requests ≡ most_behind grounds (take k all) = ap (λ (l : List Request). length l) accepted in
          subst (λ (x : Frame). x.most ≤ length requests) (sym (kept_end m old end.0 end.1 end.2) ∙ from.2)
          (omega (arith, o.kept.most, same, count, most_grows grounds all o.f.ended k (omega (arith, of_all.0))))
    ] refl
