-- Events of which the claim of a line is taken back.
use Rattle.std.proofs.Common.{◌≡◌, ◌<◌, ◌≤◌, ◌+◌, ℕ, Bool, true, false, ◌⊎◌, List, take, Some, slice_get, inl, inr, refl, ap, sym, subst, ◌∙◌, arith, take-take}
use Rattle.std.specs.Prelude.{slice_set}
use Rattle.std.proofs.lemmas.List.{take-set-le}
use Rattle.std.proofs.lemmas.Bool.{cases_lt}
use Rattle.std.proofs.lemmas.Option.{same_Some}
use Rattle.bench_history.specs.History.{is_end_of}
use Rattle.bench_history.specs.declared.event.Event.{Event}
use Rattle.bench_history.specs.declared.event.Event.TheVariants.{Sent, Replied, Excused, Entered, Left, LeftOneOf, Strayed, Dropped, Lost, Waited, Ended, Nothing}
use Rattle.bench_history.proofs.Sound.{IsStandIn, all_sound_stay, excused_for, nothing_for}
use Rattle.bench_judge.specs.Admitted.{AreAdmitted, IsAdmitted}
use Rattle.bench_judge.specs.Deviations.{AreWithout, taken_back}
use Rattle.bench_answers.specs.Ground.{Ground}
use Rattle.bench_judge.specs.Explained.{EndedFrame, IsChoice, IsEnded, IsExplained, IsVersionOf}
use Rattle.bench_judge.specs.Judged.{IsDeviation, IsFirstUnexplained, IsWrongAt}
use Rattle.bench_judge.specs.Terms.{Terms, ground_in}
use Rattle.bench_judge.specs.Walk.{AreSound}
use Rattle.bench_judge.specs.declared.judgement.Deviation.{Deviation}
use Rattle.bench_judge.specs.declared.judgement.Wrong.{Wrong}
use Rattle.bench_judge.specs.declared.judgement.Wrong.TheVariants as wrong
use Rattle.bench_judge.proofs.Fronts.{ended_in_front, ended_of_front, explained_front, version_in_front, version_of_front}
use Rattle.bench_judge.proofs.Lists.{front_has, in_front}
use Rattle.bench_answers.proofs.Places.{get_written}

-- ---- they stay sound

end_taken_back : (n : ℕ) (event : Event) → is_end_of n event ≡ true → IsStandIn event (taken_back event)
end_taken_back n (Left gem extent number frame) ends = nothing_for (Left gem extent number frame) refl refl
end_taken_back n (Dropped number) ends = nothing_for (Dropped number) refl refl
end_taken_back n (Lost number) ends = nothing_for (Lost number) refl refl
end_taken_back n (Sent message) ends = cc ends
end_taken_back n (Replied reply) ends = cc ends
end_taken_back n (Excused reply) ends = cc ends
end_taken_back n (Entered port extent frame) ends = cc ends
end_taken_back n (LeftOneOf gem extent among) ends = cc ends
end_taken_back n (Strayed gem extent frame) ends = cc ends
end_taken_back n (Waited replies) ends = cc ends
end_taken_back n Ended ends = cc ends
end_taken_back n Nothing ends = cc ends

stands_as : (events : List Event) (place : ℕ) (event is : Event) → slice_get events place ≡ Some event → slice_get events place ≡ Some is
    → IsStandIn is (taken_back is) → IsStandIn event (taken_back event)
stands_as events place event is at same stands = subst (λ e. IsStandIn e (taken_back e)) (same_Some is event (sym same ∙ at)) stands

-- what stands where a claim was wrong
wrong_taken_back : (terms : Terms) (events : List Event) (place : ℕ) (what : Wrong) (event : Event) → slice_get events place ≡ Some event
    → IsWrongAt terms events place what → IsStandIn event (taken_back event)
wrong_taken_back terms events place (wrong.Unasked reply) event at is = stands_as events place event (Replied reply) at is.seen (excused_for reply)
wrong_taken_back terms events place (wrong.Reply r) event at is = stands_as events place event (Replied r.reply) at is.seen (excused_for r.reply)
wrong_taken_back terms events place (wrong.Frame w) event at is =
    stands_as events place event is.f.seen at (ap (λ (k : ℕ). slice_get events k) (sym is.ended) ∙ is.is.seen) (end_taken_back is.f.number is.f.seen is.is.is_end)
wrong_taken_back terms events place (wrong.Stray gem extent frame) event at is =
    stands_as events place event (Strayed gem extent frame) at is.0 (nothing_for (Strayed gem extent frame) refl refl)
wrong_taken_back terms events place (wrong.OneOf w) event at is =
    stands_as events place event (LeftOneOf w.gem w.extent is.among) at is.seen (nothing_for (LeftOneOf w.gem w.extent is.among) refl refl)

pub sound_without : (terms : Terms) (events others : List Event) (d : Deviation) → AreSound events → (is : IsDeviation terms events d)
    → AreWithout events is.place others → AreSound others
sound_without terms events others d sound is w =
    subst AreSound (sym w.rest)
    (all_sound_stay events is.place w.event (taken_back w.event) w.at (wrong_taken_back terms events is.place d.wrong w.event w.at is.wrong) sound)

-- ---- they are explained up to there

-- an event that ends no frame and may stand by itself
record IsHarmless (terms : Terms) (event : Event) : Type 0 where
  ends : (n : ℕ) → is_end_of n event ≡ false
  admitted : (before : List Event) → IsAdmitted terms before event

harmless : (terms : Terms) (event : Event) → IsHarmless terms (taken_back event)
harmless terms (Replied reply) = record { ends = λ n. refl; admitted = λ before. tt }
harmless terms (Left gem extent number frame) = record { ends = λ n. refl; admitted = λ before. tt }
harmless terms (Dropped number) = record { ends = λ n. refl; admitted = λ before. tt }
harmless terms (Lost number) = record { ends = λ n. refl; admitted = λ before. tt }
harmless terms (Sent message) = record { ends = λ n. refl; admitted = λ before. tt }
harmless terms (Excused reply) = record { ends = λ n. refl; admitted = λ before. tt }
harmless terms (Entered port extent frame) = record { ends = λ n. refl; admitted = λ before. tt }
harmless terms (LeftOneOf gem extent among) = record { ends = λ n. refl; admitted = λ before. tt }
harmless terms (Strayed gem extent frame) = record { ends = λ n. refl; admitted = λ before. tt }
harmless terms (Waited replies) = record { ends = λ n. refl; admitted = λ before. tt }
harmless terms Ended = record { ends = λ n. refl; admitted = λ before. tt }
harmless terms Nothing = record { ends = λ n. refl; admitted = λ before. tt }

module _ (terms : Terms) (events : List Event) (place : ℕ) (event : Event) (harmless : IsHarmless terms event) where
  -- the events with that one in its place
  abbrev changed : List Event
  changed = slice_set events place event

  same_front : take place changed ≡ take place events
  same_front = take-set-le place events place event (omega arith)

  here_or_before : (i : ℕ) (e : Event) → i < place + 1 → slice_get changed i ≡ Some e → (e ≡ event) ⊎ (i < place)
  here_or_before i e less at =
      elim (get_written events place event i e at) [
        | inl here ↦ inl (sym here.1)
        | inr other ↦ inr (omega (arith, less, other.0))
      ]

  admitted_with : AreAdmitted terms (take place events) → AreAdmitted terms (take (place + 1) changed)
  admitted_with admitted i e at =
      let there = in_front (place + 1) i changed e at in
      elim (here_or_before i e there.0 there.1) [
        | inl is ↦ subst (λ x. IsAdmitted terms (take i (take (place + 1) changed)) x) (sym is) (harmless.admitted (take i (take (place + 1) changed)))
        | inr less ↦
            let old : slice_get (take place events) i ≡ Some e = ap (λ (xs : List Event). slice_get xs i) (sym same_front) ∙ front_has place i changed less ∙ there.1 in
            let fronts : take i (take place events) ≡ take i (take (place + 1) changed) =
            ap (λ (xs : List Event). take i xs) (sym same_front) ∙ take-take i place changed (omega (arith, less)) ∙ sym (take-take i (place + 1) changed (omega (arith, less))) in
            subst (λ (xs : List Event). IsAdmitted terms xs e) fronts (admitted i e old)
      ]

  -- a frame that ends up to there ends before
  ended_before : (f : EndedFrame) → IsEnded (take (place + 1) changed) f → (f.ended < place) × IsEnded (take place events) f
  ended_before f is =
      let all = ended_of_front (place + 1) changed f is in
      elim (here_or_before f.ended f.seen all.0 all.1.seen) [
        | inl same ↦ absurd (cc (sym (harmless.ends f.number) ∙ ap (is_end_of f.number) (sym same) ∙ is.is_end))
        | inr less ↦ (less, subst (λ (xs : List Event). IsEnded xs f) same_front (ended_in_front place changed f less all.1))
      ]

  choice_with : (grounds : Ground) (padded unordered : Bool) (versions : ℕ → ℕ) → IsChoice grounds padded unordered (take place events) versions
      → IsChoice grounds padded unordered (take (place + 1) changed) versions
  choice_with grounds padded unordered versions choice =
      record {
        each = λ f is.
            let old = ended_before f is in
            let has = subst (λ (xs : List Event). IsVersionOf grounds padded xs f (versions f.number)) (sym same_front) (choice.each f old.1) in
            version_in_front grounds (place + 1) (versions f.number) changed f is.later (omega (arith, old.0))
            (version_of_front grounds place (versions f.number) changed f is.later old.0 has);
        ordered = λ order f g is_f is_g port lt. choice.ordered order f g (ended_before f is_f).1 (ended_before g is_g).1 port lt;
      }

  explained_with : IsExplained terms (take place events) → IsExplained terms (take (place + 1) changed)
  explained_with is =
      record {
        admitted = admitted_with is.admitted;
        versions = is.versions;
        choice = choice_with (ground_in terms) terms.settings.padded terms.settings.unordered is.versions is.choice;
      }

pub explained_without : (terms : Terms) (events others : List Event) (place : ℕ) → IsExplained terms (take place events) → AreWithout events place others
    → IsExplained terms (take (place + 1) others)
explained_without terms events others place is w =
    subst (λ (xs : List Event). IsExplained terms (take (place + 1) xs)) (sym w.rest)
    (explained_with terms events place (taken_back w.event) (harmless terms w.event) is)

-- ---- where events aren't explained

-- no front of those that are
pub place_behind : (terms : Terms) (events : List Event) (line place : ℕ) → IsExplained terms (take line events) → IsFirstUnexplained terms events place
    → line ≤ place
place_behind terms events line place is first =
    elim (cases_lt place line) [
      | inl less ↦
          absurd (first.behind (subst (IsExplained terms) (take-take (place + 1) line events (omega (arith, less))) (explained_front terms (place + 1) (take line events) is)))
      | inr not_less ↦ omega (arith, not_less)
    ]

pub unexplained : (terms : Terms) (events : List Event) (place : ℕ) → IsFirstUnexplained terms events place → IsExplained terms events → ⊥
unexplained terms events place first is = first.behind (explained_front terms (place + 1) events is)
