-- What is kept of events, when one more is added.
use Rattle.std.proofs.Common.{◌≡◌, ℕ, zero, suc, ◌+◌, Bool, true, false, ◌||◌, cond, List, [], ◌∷◌, ◌++◌, length, get_or, refl, ◌∙◌, ap, sym, subst, arith, length-append}
use Rattle.std.proofs.lemmas.List.{append-nil}
use Rattle.std.proofs.lemmas.Grind.{flat_map-append}
use Rattle.std.proofs.lemmas.List.Folds.{list_any-append}
use Rattle.std.proofs.lemmas.List.Sums.{sum_by-append}
use Rattle.std.specs.List.{count_by}
use Rattle.bench_history.specs.History.{doubt_of, doubts_in, frames_in, has_ended, is_end_of, is_ended, is_frame, is_reply, is_the_end, replies_in}
use Rattle.bench_history.specs.Doubts.{IsDoubted}
use Rattle.bench_history.specs.Seen.{IsSeen}
use Rattle.bench_history.specs.declared.event.Event.{Event}
use Rattle.bench_history.specs.declared.event.Event.TheVariants.{Entered}
use Rattle.bench_history.specs.declared.doubts.Doubts.{Doubts}
use Rattle.bench_history.specs.declared.extent.Extent.{Extent}
use Rattle.bench_history.specs.declared.seen.Seen.{Seen}

-- one more element is counted where it passes
pub counted : {A : Type 0} (p : A → Bool) (xs : List A) (x : A) → count_by p (xs ++ x ∷ []) ≡ count_by p xs + cond (p x) 1 0
counted p xs x = omega (arith, sum_by-append (λ y. cond (p y) 1 0) xs (x ∷ []))

frames_with : (events : List Event) (event : Event) → frames_in (events ++ event ∷ []) ≡ frames_in events + cond (is_frame event) 1 0
frames_with events event = counted is_frame events event

replies_with : (events : List Event) (event : Event) → replies_in (events ++ event ∷ []) ≡ replies_in events + cond (is_reply event) 1 0
replies_with events event = counted is_reply events event

or_false : (b : Bool) → (b || false) ≡ b
or_false true = refl
or_false false = refl

ended_with : (n : ℕ) (events : List Event) (event : Event) → has_ended n (events ++ event ∷ []) ≡ (has_ended n events || is_end_of n event)
ended_with n events event =
    list_any-append (is_end_of n) events (event ∷ []) ∙ ap (λ (b : Bool). has_ended n events || b) (or_false (is_end_of n event))

over_with : (events : List Event) (event : Event) → is_ended (events ++ event ∷ []) ≡ (is_ended events || is_the_end event)
over_with events event =
    list_any-append is_the_end events (event ∷ []) ∙ ap (λ (b : Bool). is_ended events || b) (or_false (is_the_end event))

pub doubts_with : (events : List Event) (event : Event) → doubts_in (events ++ event ∷ []) ≡ doubts_in events ++ doubt_of event
doubts_with events event = flat_map-append doubt_of events (event ∷ []) ∙ ap (λ (ds : List (List ℕ)). doubts_in events ++ ds) (append-nil (doubt_of event))

-- an event that says nothing of doubtful frames
pub undoubted : (events : List Event) (event : Event) (kept : Doubts) → doubt_of event ≡ [] → IsDoubted (doubts_in events) kept
    → IsDoubted (doubts_in (events ++ event ∷ [])) kept
undoubted events event kept none is =
    let all : doubts_in (events ++ event ∷ []) ≡ doubts_in events =
    doubts_with events event ∙ ap (λ (ds : List (List ℕ)). doubts_in events ++ ds) none ∙ append-nil (doubts_in events) in
    subst (λ (ds : List (List ℕ)). IsDoubted ds kept) (sym all) is

-- a frame that is sent hasn't ended
flag_more : (flags : List Bool) (n : ℕ) → get_or (flags ++ false ∷ []) n false ≡ get_or flags n false
flag_more [] zero = refl
flag_more [] (suc n) = refl
flag_more (flag ∷ flags) zero = refl
flag_more (flag ∷ flags) (suc n) = flag_more flags n

-- a frame more
pub entered : (events : List Event) (port : ℕ) (extent : Extent) (frame : List ℕ) (old new : Seen)
    → new.ended.items ≡ old.ended.items ++ false ∷ [] → new.replies ≡ old.replies → new.is_over ≡ old.is_over → IsDoubted (doubts_in (events ++ Entered port extent frame ∷ [])) new.doubts
    → IsSeen events old → IsSeen (events ++ Entered port extent frame ∷ []) new
entered events port extent frame old new flags same over kept is =
    let event = Entered port extent frame in
    record {
      frames = ap (λ (xs : List Bool). length xs) flags ∙ omega (arith, length-append old.ended.items (false ∷ []), is.frames, frames_with events event);
      ended = λ n.
          ap (λ (xs : List Bool). get_or xs n false) flags ∙ flag_more old.ended.items n ∙ is.ended n
          ∙ sym (or_false (has_ended n events)) ∙ sym (ended_with n events event);
      replies = omega (arith, same, is.replies, replies_with events event);
      over = over ∙ is.over ∙ sym (or_false (is_ended events)) ∙ sym (over_with events event);
      doubts = kept;
    }
