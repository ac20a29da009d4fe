-- Each history that an observation shows is explained.
use Rattle.std.proofs.Common.{◌≡◌, ◌<◌, ◌≤◌, ℕ, false, List, ◌++◌, take, Some, slice_get, ap, subst, arith}
use Rattle.plan_publish.specs.Interleavings.{entered_with}
use Rattle.plan_publish.proofs.Last.{prefixes_grow}
use Rattle.bench_history.specs.declared.event.Event.{Event}
use Rattle.bench_history.specs.declared.event.Event.TheVariants.{Replied, LeftOneOf, Strayed}
use Rattle.bench_answers.specs.Ground.{Ground}
use Rattle.bench_judge.specs.Doubt.{IsOneOf}
use Rattle.bench_judge.specs.Admitted.{AreAdmitted, IsAdmitted}
use Rattle.bench_judge.specs.Explained.{EndedFrame, IsChoice, IsEnded, IsExplained}
use Rattle.bench_judge.specs.Terms.{Terms, ground_in}
use Rattle.bench_law.specs.Steps.{Step, happened, shown}
use Rattle.bench_law.specs.Observation.{IsObservation}
use Rattle.bench_law.specs.Law.{NoRightUnitIsAccused}
use Rattle.bench_law.proofs.Fronts.{IsFront, fronts_taken}
use Rattle.bench_law.proofs.Courses.{happened_front, line_at}
use Rattle.bench_law.proofs.Observed.{IsCourse, course_upto}
use Rattle.bench_law.proofs.Replies.{right_reply}
use Rattle.bench_law.proofs.Versions.{has_version}
use Rattle.bench_law.proofs.Candidates.{is_one_of}
use Rattle.bench_law.proofs.Settings.{observed_now}

module _ (lanes : ℕ) (terms : Terms) (steps : List Step) (o : IsObservation lanes terms steps) where
  abbrev grounds : Ground
  grounds = ground_in terms

  course : IsCourse lanes grounds o.means steps
  course =
      record {
        run = o.run;
        carried_out = o.carried_out;
        replied = o.replied;
        unexcused = o.unexcused;
        waited = o.waited;
        begun = o.begun;
      }

  -- ---- events by themselves

  admitted_at : (number : ℕ) (line : Event) → slice_get (shown steps) number ≡ Some line → IsAdmitted terms (take number (shown steps)) line
  admitted_at number (Replied bytes) at = right_reply lanes grounds o.means steps course number bytes at
  admitted_at number (LeftOneOf gem extent among) at =
      let here = line_at steps number (LeftOneOf gem extent among) at in
      let above : List Step = take here.place steps in
      let one : IsOneOf grounds terms.settings.padded (shown above) gem extent among =
      is_one_of lanes grounds o.means terms.settings.padded above (course_upto lanes grounds o.means steps here.place course) gem extent among
      (o.doubted here.place gem extent among here.at) in
      subst (λ (l : List Event). IsOneOf grounds terms.settings.padded l gem extent among) here.before one
  admitted_at number (Strayed gem extent frame) at =
      let here = line_at steps number (Strayed gem extent frame) at in o.strays here.place gem extent frame here.at
  admitted_at number line at = tt

  admitted : AreAdmitted terms (shown steps)
  admitted number line at = admitted_at number line at

  -- ---- frames

  -- the version of each frame, by its number
  abbrev versions : ℕ → ℕ
  versions number = entered_with (o.lane_of number) (happened (take (o.place_of number) steps))

  in_order : terms.settings.unordered ≡ false → (f g : EndedFrame) → IsEnded (shown steps) f → IsEnded (shown steps) g → f.port ≡ g.port → f.number < g.number
      → versions f.number ≤ versions g.number
  in_order order f g is_f is_g port first =
      let both = o.in_order order f g is_f is_g port first in
      let front : IsFront (happened (take (o.place_of f.number) steps)) (happened (take (o.place_of g.number) steps)) =
      happened_front (fronts_taken (o.place_of f.number) (o.place_of g.number) steps (omega (arith, both.1))) in
      let grows = prefixes_grow (o.lane_of f.number) (happened (take (o.place_of f.number) steps)) front.rest in
      let whole : entered_with (o.lane_of f.number) (happened (take (o.place_of g.number) steps))
      ≡ entered_with (o.lane_of f.number) (happened (take (o.place_of f.number) steps) ++ front.rest) =
      ap (entered_with (o.lane_of f.number)) front.is in
      let lane : entered_with (o.lane_of f.number) (happened (take (o.place_of g.number) steps)) ≡ versions g.number =
      ap (λ (l : ℕ). entered_with l (happened (take (o.place_of g.number) steps))) both.0 in
      omega (arith, grows, whole, lane)

  choice : IsChoice grounds terms.settings.padded terms.settings.unordered (shown steps) versions
  choice =
      record {
        each = λ f is.
            has_version lanes grounds o.means terms.settings.padded steps course f (o.lane_of f.number) (o.place_of f.number) (o.forwarded f is) is.entered is.enough;
        ordered = in_order;
      }

  pub explained : IsExplained terms (shown steps)
  explained = record { admitted = admitted; versions = versions; choice = choice }

pub no_right_unit_is_accused : NoRightUnitIsAccused
no_right_unit_is_accused lanes needed settings start steps o allow =
    explained lanes (record { settings = settings; start = start }) steps (observed_now lanes start steps settings needed allow o)
