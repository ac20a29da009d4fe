-- What a sweep over the frames of a front says of its events.
use Rattle.std.proofs.Common.{◌≡◌, ℕ, ◌≤◌, Bool, List, ◌++◌, map, take, Option, None, Some, Result, Ok, Err, IfOk, Vec, ap, sym, subst, ◌∙◌, take-take}
use Rattle.std.specs.declared.alloc.Global.{Global}
use Rattle.std.specs.declared.alloc.AllocError.{AllocError}
use Rattle.omci_msg.specs.declared.request.Request.{Request}
use Rattle.bench_history.specs.declared.event.Event.{Event}
use Rattle.bench_answers.specs.Asked.{requests_of}
use Rattle.bench_judge.specs.Frames.{AreFrames}
use Rattle.bench_judge.specs.Cut.{IsChosen, IsFitted, by_number, until}
use Rattle.bench_judge.specs.Terms.{Terms, ground_in}
use Rattle.bench_judge.specs.Walk.{IsWalk}
use Rattle.bench_judge.specs.declared.frame.Frame.{Frame}
use Rattle.bench_judge.specs.declared.walk.Walk.{Walk}
use Rattle.bench_judge.proofs.Choices.{BeginWith, choice_of_fits, fits_of_choice, least_of_fits}
use Rattle.bench_judge.proofs.Cuts.{cut_frames}
use Rattle.bench_answers.proofs.Fronts.{requests_front}
use Rattle.bench_answers.specs.Ground.{Ground}

-- requests that all of a front accepts begin with those that a shorter one accepts
pub begin_shorter : (grounds : Ground) (m k : ℕ) (all : List Event) (requests : List Request) → m ≤ k → requests ≡ requests_of grounds (take k all) → BeginWith grounds requests (take m all)
begin_shorter grounds m k all requests le is =
    let front : requests_of grounds (take m (take k all)) ≡ requests_of grounds (take m all) = ap (requests_of grounds) (take-take m k all le) in
    let parts = requests_front grounds m (take k all) in
    (parts.0, is ∙ parts.1 ∙ ap (λ l. l ++ parts.0) front)

by_found : (grounds : Ground) (padded : Bool) (requests : List Request) (frames : List Frame) (unordered : Bool) (all : List Event) (place : ℕ)
    → BeginWith grounds requests (take place all) → AreFrames grounds (take place all) frames
    → (found : Option (Vec ℕ Global)) → IsFitted padded unordered all requests frames found → IsChosen grounds padded unordered (take place all) found
by_found grounds padded requests frames unordered all place begins are None none =
    λ choice. none choice.0 (fits_of_choice grounds place all requests begins unordered frames choice.0 are choice.1)
by_found grounds padded requests frames unordered all place begins are (Some versions) suits = (
  choice_of_fits grounds place all requests begins unordered frames (by_number versions) are suits.0,
  λ ordered. least_of_fits grounds place all requests begins unordered frames (by_number versions) are (suits.1 ordered),
)

by_result : (grounds : Ground) (padded : Bool) (requests : List Request) (frames : List Frame) (unordered : Bool) (all : List Event) (place : ℕ)
    → BeginWith grounds requests (take place all) → AreFrames grounds (take place all) frames
    → (found : Result (Option (Vec ℕ Global)) AllocError) → IfOk found (IsFitted padded unordered all requests frames) → IfOk found (IsChosen grounds padded unordered (take place all))
by_result grounds padded requests frames unordered all place begins are (Ok found) fitted = by_found grounds padded requests frames unordered all place begins are found fitted
by_result grounds padded requests frames unordered all place begins are (Err e) fitted = tt

pub chosen_of_fitted : (terms : Terms) (padded : Bool) (all : List Event) (walk : Walk) (unordered : Bool) (place : ℕ) → IsWalk terms all walk → place ≤ walk.walked
    → (requests : List Request) (frames : List Frame) → requests ≡ walk.requests.items → frames ≡ map (until place) walk.frames.items
    → (found : Result (Option (Vec ℕ Global)) AllocError) → IfOk found (IsFitted padded unordered all requests frames) → IfOk found (IsChosen (ground_in terms) padded unordered (take place all))
chosen_of_fitted terms padded all walk unordered place known le requests frames same_requests same_frames found fitted =
    by_result (ground_in terms) padded requests frames unordered all place
    (begin_shorter (ground_in terms) place walk.walked all requests le (same_requests ∙ known.requests))
    (subst (AreFrames (ground_in terms) (take place all)) (sym same_frames) (cut_frames (ground_in terms) place walk.walked all walk.frames.items le known.frames))
    found fitted
