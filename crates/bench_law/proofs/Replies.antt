-- Each reply of an observation is right, and is taken for what it stands for.
use Rattle.std.proofs.Common.{◌≡◌, ◌+◌, ℕ, zero, suc, cond, List, [], ◌∷◌, ◌++◌, take, Some, slice_get, inl, inr, refl, sym, ap, subst, ◌∙◌, arith, add-one, add-zero}
use Rattle.plan_publish.specs.World.{IsRun, opening}
use Rattle.bench_history.specs.History.{is_reply, replies_in}
use Rattle.bench_history.specs.declared.event.Event.{Event}
use Rattle.bench_history.specs.declared.event.Event.TheVariants.{Replied, Excused}
use Rattle.bench_reply.specs.Replies.{Wanted}
use Rattle.bench_answers.specs.Ground.{Ground}
use Rattle.bench_answers.specs.Right.{IsRight, IsRightAs}
use Rattle.bench_answers.specs.Standing.{standing_of, standings}
use Rattle.bench_answers.specs.declared.standing.Standing.{Standing}
use Rattle.bench_answers.specs.declared.standing.Standing.TheVariants.{Answers, Repeats, OfStart, Absent}
use Rattle.bench_answers.proofs.Places.{take_with}
use Rattle.bench_answers.proofs.Steps.{count_more, standings_one, standings_same}
use Rattle.bench_law.specs.Steps.{Step, happened, shown, carried}
use Rattle.bench_law.specs.Observation.{IsReply, StandsFor, seen_in}
use Rattle.bench_law.proofs.Fronts.{IsFront, one_more}
use Rattle.bench_law.proofs.Courses.{line_at}
use Rattle.bench_law.proofs.Carried.{carried_front, due}
use Rattle.bench_law.proofs.Answers.{answers_line, answers_script}
use Rattle.bench_law.proofs.Taken.{AreTakenFor, IsTakenFor, more_taken, none_taken, taken_itself}
use Rattle.bench_law.proofs.Standings.{last_taken, late_taken, next_taken}
use Rattle.bench_law.proofs.Observed.{IsCourse, course_upto}

-- ---- one reply

-- it is right, and taken for what it stands for
record IsTaken (grounds : Ground) (lines : List Event) (taken : List Standing) (bytes : List ℕ) (meant : Standing) : Type 0 where
  standing : Standing
  is : standing_of grounds lines taken bytes ≡ standing
  taken_for : IsTakenFor standing meant
  right : IsRightAs grounds lines bytes standing

module _ (lanes : ℕ) (grounds : Ground) (before : List Step) (run : IsRun lanes opening (happened before))
    (front : IsFront (carried before) (due grounds before)) (taken seen : List Standing) (so_far : AreTakenFor taken seen) (bytes : List ℕ) where
  taken_so : (meant : Standing) → StandsFor grounds before seen bytes meant → IsTaken grounds (shown before) taken bytes meant
  taken_so (Answers k) stands =
      let it : Wanted = record { request = stands.is.request; reply = stands.is.reply } in
      let at = answers_line lanes grounds before run front bytes stands.is k stands.number in
      record {
        standing = Answers k;
        is = next_taken grounds (shown before) taken bytes k it (so_far.reaches ∙ stands.next) at stands.is.spelled;
        taken_for = taken_itself (Answers k);
        right = record { answers = it; at = at; right = stands.is.spelled };
      }
  taken_so (Repeats k) stands =
      let it : Wanted = record { request = stands.is.request; reply = stands.is.reply } in
      let at = answers_line lanes grounds before run front bytes stands.is k stands.number in
      record {
        standing = Repeats k;
        is =
            last_taken grounds (shown before) taken bytes k it (so_far.reaches ∙ stands.last) at stands.is.spelled
            (omega (arith, stands.repeated, so_far.repeats k)) stands.alone;
        taken_for = taken_itself (Repeats k);
        right = tt;
      }
  taken_so (OfStart j) stands =
      let it : Wanted = record { request = stands.is.request; reply = stands.is.reply } in
      let at = answers_script lanes grounds before run front bytes stands.is j stands.number stands.of_start in
      let first = late_taken grounds (shown before) taken bytes j it stands.unsent (omega (arith, stands.behind, so_far.of_start)) at stands.is.spelled in
      record {
        standing = OfStart first.0;
        is = first.2;
        taken_for = record { reaches = refl; repeats = λ k. refl; of_start = omega (arith, first.1) };
        right = tt;
      }
  taken_so Absent stands = absurd stands

-- ---- all replies

module _ (lanes : ℕ) (grounds : Ground) (means : List Standing) (steps : List Step) (c : IsCourse lanes grounds means steps) where
  abbrev lines : List Event
  lines = shown steps

  abbrev IsSoFar : ℕ → Type 0
  IsSoFar i = AreTakenFor (standings grounds (take i lines)) (take (replies_in (take i lines)) means)

  reply_at : (i : ℕ) (bytes : List ℕ) → slice_get lines i ≡ Some (Replied bytes) → IsSoFar i
      → (meant : Standing) × (slice_get means (replies_in (take i lines)) ≡ Some meant)
      × IsTaken grounds (take i lines) (standings grounds (take i lines)) bytes meant
  reply_at i bytes at so_far =
      let here = line_at steps i (Replied bytes) at in
      let above : List Step = take here.place steps in
      let is : IsReply grounds means above bytes = c.replied here.place bytes here.at in
      let upto : AreTakenFor (standings grounds (shown above)) (seen_in means above) =
      subst (λ (l : List Event). AreTakenFor (standings grounds l) (take (replies_in l) means)) (sym here.before) so_far in (
        is.standing,
        ap (λ (l : List Event). slice_get means (replies_in l)) (sym here.before) ∙ is.listed,
        subst (λ (l : List Event). IsTaken grounds l (standings grounds l) bytes is.standing) here.before
            (taken_so lanes grounds above (course_upto lanes grounds means steps here.place c).run (carried_front grounds steps c.carried_out here.place)
            (standings grounds (shown above)) (seen_in means above) upto bytes is.standing is.stands),
      )

  replies_more : (i : ℕ) (line : Event) → slice_get lines i ≡ Some line → replies_in (take (i + 1) lines) ≡ replies_in (take i lines) + cond (is_reply line) 1 0
  replies_more i line at = ap (λ (es : List Event). replies_in es) (take_with lines i line at) ∙ count_more is_reply (take i lines) line

  -- a line that is no reply
  stays_so : (i : ℕ) → standings grounds (take (i + 1) lines) ≡ standings grounds (take i lines)
      → replies_in (take (i + 1) lines) ≡ replies_in (take i lines) + 0 → IsSoFar i → IsSoFar (i + 1)
  stays_so i same none so_far =
      let count : replies_in (take (i + 1) lines) ≡ replies_in (take i lines) = none ∙ add-zero (replies_in (take i lines)) in
      subst (λ (ss : List Standing). AreTakenFor ss (take (replies_in (take (i + 1) lines)) means)) (sym same)
      (subst (λ (n : ℕ). AreTakenFor (standings grounds (take i lines)) (take n means)) (sym count) so_far)

  line_so : (i : ℕ) (line : Event) → slice_get lines i ≡ Some line → IsSoFar i → IsSoFar (i + 1)
  line_so i (Replied bytes) at so_far =
      let r = reply_at i bytes at so_far in
      let n : ℕ = replies_in (take i lines) in
      let seen : List Standing = standings grounds (take i lines) in
      let more : standings grounds (take (i + 1) lines) ≡ seen ++ r.2.standing ∷ [] =
      standings_one grounds lines i (Replied bytes) at r.2.standing (ap (λ (s : Standing). s ∷ []) r.2.is) in
      let listed : take (replies_in (take (i + 1) lines)) means ≡ take n means ++ r.0 ∷ [] =
      ap (λ (k : ℕ). take k means) (replies_more i (Replied bytes) at) ∙ take_with means n r.0 r.1 in
      subst (λ (ss : List Standing). AreTakenFor ss (take (replies_in (take (i + 1) lines)) means)) (sym more)
      (subst (λ (ss : List Standing). AreTakenFor (seen ++ r.2.standing ∷ []) ss) (sym listed)
      (more_taken seen (take n means) r.2.standing r.0 r.2.taken_for so_far))
  line_so i (Excused bytes) at so_far =
      let here = line_at steps i (Excused bytes) at in absurd (c.unexcused here.place bytes here.at)
  line_so i line at so_far = stays_so i (standings_same grounds lines i line at refl) (replies_more i line at) so_far

  pub all_taken : (i : ℕ) → AreTakenFor (standings grounds (take i (shown steps))) (take (replies_in (take i (shown steps))) means)
  all_taken zero = none_taken
  all_taken (suc i) =
      elim (one_more i lines) [
        | inl same ↦ subst (λ (l : List Event). AreTakenFor (standings grounds l) (take (replies_in l) means)) (sym same) (all_taken i)
        | inr more ↦ subst (λ (n : ℕ). IsSoFar n) (add-one i) (line_so i more.0 more.1 (all_taken i))
      ]

  pub right_reply : (i : ℕ) (bytes : List ℕ) → slice_get (shown steps) i ≡ Some (Replied bytes) → IsRight grounds (take i (shown steps)) bytes
  right_reply i bytes at =
      let r = reply_at i bytes at (all_taken i) in
      subst (λ (s : Standing). IsRightAs grounds (take i lines) bytes s) (sym r.2.is) r.2.right
