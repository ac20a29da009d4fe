-- What is said of a frame of kept frames holds of events.
use Rattle.std.proofs.Common.{◌≡◌, ℕ, ◌≤◌, max, Bool, true, false, List, take, None, Some, is_some, refl, ap, sym, subst, ◌∙◌, arith}
use Rattle.omci_msg.specs.declared.request.Request.{Request}
use Rattle.bench_history.specs.declared.event.Event.{Event}
use Rattle.bench_judge.specs.Explained.{EndedFrame, IsEnded}
use Rattle.bench_judge.specs.Frames.{AreFrames, FitsLeast, IsKeptIn, IsKeptOf}
use Rattle.bench_judge.specs.Cut.{IsGreatestFit, Suits}
use Rattle.bench_judge.specs.Bounds.{HasEndedAt, IsFirstOf, IsLastOf, IsLeastLeft, IsMostLeft}
use Rattle.bench_judge.specs.Judged.{IsAtLeast, IsAtMost, IsFirstBehind, IsGreatestVersion, IsLastBefore, IsLeastVersion}
use Rattle.bench_judge.specs.declared.frame.Frame.{Frame}
use Rattle.bench_judge.proofs.Choices.{BeginWith, choice_of_fits, fits_of_choice}
use Rattle.bench_answers.specs.Ground.{Ground}

both_ways : (a b : ℕ) → a ≤ b → b ≤ a → a ≡ b
both_ways a b le ge = omega (arith, le, ge)

module _ (grounds : Ground) (k : ℕ) (all : List Event) (requests : List Request) (begins : BeginWith grounds requests (take k all)) (frames : List Frame) (are : AreFrames grounds (take k all) frames) where
  abbrev pub events : List Event
  events = take k all

  ended_at : (g : EndedFrame) → IsEnded events g → HasEndedAt frames g.port g.number
  ended_at g is =
      let o : IsKeptIn grounds events frames g = are.each g is in
      record { frame = o.frame; at = o.at; ended = ap is_some o.kept.ended; port = o.kept.port }

  module _ (f : EndedFrame) where
    last_is : (n : ℕ) (g : EndedFrame) → IsLastOf frames f.port f.number (Some n) → IsLastBefore events f g → n ≡ g.number
    last_is n g last before =
        let held : HasEndedAt frames f.port n = last.1 in
        let o : IsKeptOf grounds events n held.frame = are.only n held.frame held.at held.ended in
        let le : g.number ≤ n = last.2 g.number before.before (subst (λ p. HasEndedAt frames p g.number) before.port (ended_at g before.ended)) in
        let ge : o.f.number ≤ g.number = before.last o.f o.is (sym o.kept.port ∙ held.port) (omega (arith, o.number, last.0)) in
        omega (arith, le, ge, o.number)

    last_before_is : (n : ℕ) → IsLastOf frames f.port f.number (Some n) → (g : EndedFrame) × IsLastBefore events f g
    last_before_is n last =
        let held : HasEndedAt frames f.port n = last.1 in
        let o : IsKeptOf grounds events n held.frame = are.only n held.frame held.at held.ended in (
          o.f,
          record {
            ended = o.is;
            port = sym o.kept.port ∙ held.port;
            before = omega (arith, o.number, last.0);
            last = λ h is port lt.
                let le : h.number ≤ n = last.2 h.number lt (subst (λ p. HasEndedAt frames p h.number) port (ended_at h is)) in
                omega (arith, le, o.number);
          },
        )

    least_version : {padded : Bool} (versions : ℕ → ℕ) (g : EndedFrame) → FitsLeast padded false all requests frames versions → IsEnded events g → IsLeastVersion grounds padded false events g (versions g.number)
    least_version versions g fits is =
        let o : IsKeptIn grounds events frames g = are.each g is in
        record {
          versions = versions;
          choice = choice_of_fits grounds k all requests begins false frames versions are fits.fits;
          has = refl;
          least = λ other choice. fits.least other (fits_of_choice grounds k all requests begins false frames other are choice) g.number o.frame o.at (ap is_some o.kept.ended);
        }

    -- the least version that is left
    pub at_least_is : {padded : Bool} (unordered : Bool) (versions : ℕ → ℕ) (least bound : ℕ) → Suits padded unordered all requests frames versions
        → IsLeastLeft unordered frames versions f.port f.number least bound → IsAtLeast grounds padded unordered events f least bound
    at_least_is true versions least bound fits left =
        record { alone = λ is. left; behind = λ bad. absurd (cc bad); first = λ bad. absurd (cc bad) }
    at_least_is false versions least bound fits (Some n, last, is) =
        record {
          alone = λ bad. absurd (cc bad);
          behind = λ order g before.
              let same = last_is n g last before in
              (versions g.number, least_version versions g (fits.1 refl) before.ended, is ∙ ap (λ m. max least (versions m)) same);
          first = λ order none. absurd (let g = last_before_is n last in none g.0 g.1);
        }
    at_least_is false versions least bound fits (None, last, is) =
        record {
          alone = λ bad. absurd (cc bad);
          behind = λ order g before. absurd (last g.number before.before (subst (λ p. HasEndedAt frames p g.number) before.port (ended_at g before.ended)));
          first = λ order none. is;
        }

    first_is : (n : ℕ) (g : EndedFrame) → IsFirstOf frames f.port f.number (Some n) → IsFirstBehind events f g → n ≡ g.number
    first_is n g first behind =
        let held : HasEndedAt frames f.port n = first.1 in
        let o : IsKeptOf grounds events n held.frame = are.only n held.frame held.at held.ended in
        let le : n ≤ g.number = first.2 g.number behind.behind (subst (λ p. HasEndedAt frames p g.number) behind.port (ended_at g behind.ended)) in
        let ge : g.number ≤ o.f.number = behind.first o.f o.is (sym o.kept.port ∙ held.port) (omega (arith, o.number, first.0)) in
        omega (arith, le, ge, o.number)

    first_behind_is : (n : ℕ) → IsFirstOf frames f.port f.number (Some n) → (g : EndedFrame) × IsFirstBehind events f g
    first_behind_is n first =
        let held : HasEndedAt frames f.port n = first.1 in
        let o : IsKeptOf grounds events n held.frame = are.only n held.frame held.at held.ended in (
          o.f,
          record {
            ended = o.is;
            port = sym o.kept.port ∙ held.port;
            behind = omega (arith, o.number, first.0);
            first = λ h is port lt.
                let le : n ≤ h.number = first.2 h.number lt (subst (λ p. HasEndedAt frames p h.number) port (ended_at h is)) in
                omega (arith, le, o.number);
          },
        )

    greatest_version_is : {padded : Bool} (n v : ℕ) (g : EndedFrame) → n ≡ g.number → IsGreatestFit padded false all requests frames n v → IsGreatestVersion grounds padded false events g v
    greatest_version_is n v g same fit =
        record {
          versions = fit.versions;
          choice = choice_of_fits grounds k all requests begins false frames fit.versions are fit.fits;
          has = ap fit.versions (sym same) ∙ fit.has;
          greatest = λ other choice.
              subst (λ m. other m ≤ v) same (fit.greatest other (fits_of_choice grounds k all requests begins false frames other are choice));
        }

    -- the greatest version that is left
    pub at_most_is : {padded : Bool} (unordered : Bool) (most bound : ℕ) → IsMostLeft padded unordered all requests frames f.port f.number most bound → IsAtMost grounds padded unordered events f most bound
    at_most_is true most bound left =
        record { alone = λ is. left; before = λ bad. absurd (cc bad); last = λ bad. absurd (cc bad) }
    at_most_is false most bound (Some n, first, left) =
        record {
          alone = λ bad. absurd (cc bad);
          before = λ order g behind. (left.0, greatest_version_is n left.0 g (first_is n g first behind) left.1, left.2);
          last = λ order none. absurd (let g = first_behind_is n first in none g.0 g.1);
        }
    at_most_is false most bound (None, first, left) =
        record {
          alone = λ bad. absurd (cc bad);
          before = λ order g behind. absurd (first g.number behind.behind (subst (λ p. HasEndedAt frames p g.number) behind.port (ended_at g behind.ended)));
          last = λ order none. left;
        }
