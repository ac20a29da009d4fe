-- What replies reach, one reply on.
use Rattle.std.proofs.Common.{◌≡◌, ◌<◌, ◌≤◌, ◌+◌, ◌-◌, ◌^◌, ℕ, zero, suc, Bool, true, false, cond, List, [], ◌∷◌, ◌++◌, length, map, max, min, take, Some, inl, inr, refl, ap, sym, ◌∙◌, arith, length-append, add-zero}
use Rattle.std.specs.Prelude.{count_by, not}
use Rattle.std.specs.List.{slice_get}
use Rattle.std.proofs.lemmas.Bool.{eq-eqb, ne_eqb}
use Rattle.std.proofs.lemmas.List.{take-append-le, take_all}
use Rattle.std.proofs.lemmas.List.Sums.{count_by-le-length}
use Rattle.std.proofs.lemmas.Option.{slice_get_within}
use Rattle.bench_answers.specs.Kept.{AreReplies, IsNextOf, counted_with}
use Rattle.bench_answers.specs.Standing.{greatest, is_of_start, is_repeat_of, reach, reached, start_reach, start_reached}
use Rattle.bench_answers.specs.declared.replies.Counts.{Counts}
use Rattle.bench_answers.specs.declared.replies.Replies.{Replies}
use Rattle.bench_answers.specs.declared.standing.Standing.{Standing}
use Rattle.bench_answers.specs.declared.standing.Standing.TheVariants.{Answers, Repeats, OfStart, Absent}
use Rattle.bench_answers.proofs.Places.{get_pushed}
use Rattle.bench_answers.proofs.Steps.{count_more, counted, counted_is}

reaches_more : (f : Standing → ℕ) (seen : List Standing) (s : Standing) → greatest (map f (seen ++ s ∷ [])) ≡ max (greatest (map f seen)) (f s)
reaches_more f [] s = omega arith
reaches_more f (t ∷ seen) s = omega (arith, reaches_more f seen s)

pub reached_more : (seen : List Standing) (s : Standing) → reached (seen ++ s ∷ []) ≡ max (reached seen) (reach s)
reached_more seen s = reaches_more reach seen s

pub start_reached_more : (seen : List Standing) (s : Standing) → start_reached (seen ++ s ∷ []) ≡ max (start_reached seen) (start_reach s)
start_reached_more seen s = reaches_more start_reach seen s

-- a front reaches no more than all
pub front_reaches : (n : ℕ) (seen : List Standing) → reached (take n seen) ≤ reached seen
front_reaches zero seen = omega arith
front_reaches (suc n) [] = omega arith
front_reaches (suc n) (s ∷ seen) = omega (arith, front_reaches n seen)

none_counted : (seen : List Standing) (k : ℕ) → reached seen ≤ k → counted (is_repeat_of k) seen ≡ 0
unfolding counted
none_counted [] k within = refl
none_counted (Answers n ∷ xs) k within = none_counted xs k (omega (arith, within))
none_counted (Repeats n ∷ xs) k within =
    ap (λ b. cond b (1 + counted (is_repeat_of k) xs) (counted (is_repeat_of k) xs)) (ne_eqb n k (λ e. omega (arith, e, within)))
    ∙ none_counted xs k (omega (arith, within))
none_counted (OfStart j ∷ xs) k within = none_counted xs k (omega (arith, within))
none_counted (Absent ∷ xs) k within = none_counted xs k (omega (arith, within))

-- what a reply that goes on repeats isn't repeated above
pub none_repeated : (seen : List Standing) (k : ℕ) → reached seen ≤ k → count_by (is_repeat_of k) seen ≡ 0
none_repeated seen k waits = sym (counted_is (is_repeat_of k) seen) ∙ none_counted seen k waits

-- ---- one reply more

same_count : {X : Type 0} (test : X → Bool) (xs : List X) (x : X) → test x ≡ false → count_by test (xs ++ x ∷ []) ≡ count_by test xs
same_count test xs x fails = count_more test xs x ∙ ap (λ b. count_by test xs + cond b 1 0) fails ∙ add-zero (count_by test xs)

one_count : {X : Type 0} (test : X → Bool) (xs : List X) (x : X) → test x ≡ true → count_by test (xs ++ x ∷ []) ≡ count_by test xs + 1
one_count test xs x passes = count_more test xs x ∙ ap (λ b. count_by test xs + cond b 1 0) passes

-- whether a reply was compared
abbrev is_compared : Standing → Bool
is_compared s = not (is_of_start s)

module _ (seen : List Standing) (old : Replies) (few : length seen < 2 ^ 63) (is : AreReplies seen old) where
  -- a count of replies is less than its greatest value
  pub counts_on : (test : Standing → Bool) (s : Standing) → test s ≡ true → min (count_by test seen + 1) (2 ^ 64 - 1) ≡ count_by test (seen ++ s ∷ [])
  counts_on test s passes = omega (arith, count_by-le-length test seen, few, one_count test seen s passes)

  -- so many are reached with each reply
  pub reaches_on : (s : Standing) (new : List ℕ) → new ≡ old.reached.items ++ reached (seen ++ s ∷ []) ∷ []
      → (length new ≡ length (seen ++ s ∷ [])) × ((n reach : ℕ) → slice_get new n ≡ Some reach → reach ≡ reached (take (n + 1) (seen ++ s ∷ [])))
  reaches_on s new pushed = (
    ap (λ (ns : List ℕ). length ns) pushed ∙ omega (arith, length-append old.reached.items (reached (seen ++ s ∷ []) ∷ []), length-append seen (s ∷ []), is.count),
    λ n reach here.
        elim (get_pushed old.reached.items (reached (seen ++ s ∷ [])) n reach (ap (λ (ns : List ℕ). slice_get ns n) (sym pushed) ∙ here)) [
          | inl there ↦
              is.each n reach there ∙ ap (λ (ss : List Standing). reached ss)
              (sym (take-append-le (n + 1) seen (s ∷ []) (omega (arith, slice_get_within old.reached.items n reach there, is.count))))
          | inr there ↦
              sym there.1 ∙ ap (λ (ss : List Standing). reached ss)
              (sym (take_all (n + 1) (seen ++ s ∷ []) (omega (arith, there.0, is.count, length-append seen (s ∷ [])))))
        ],
  )

  pub replies_on : (s : Standing) (new : Replies) → IsNextOf seen s → new.counts ≡ counted_with old.counts s
      → new.reached.items ≡ old.reached.items ++ new.counts.next ∷ [] → AreReplies (seen ++ s ∷ []) new
  replies_on (Answers k) new next counts pushed =
      let reaches : reached (seen ++ Answers k ∷ []) ≡ k + 1 = omega (arith, reached_more seen (Answers k), next.0) in
      let now : new.counts.next ≡ reached (seen ++ Answers k ∷ []) = omega (arith, ap (λ (c : Counts). c.next) counts, reaches, next.1) in
      let each = reaches_on (Answers k) new.reached.items (pushed ∙ ap (λ n. old.reached.items ++ n ∷ []) now) in
      record {
        next = now;
        repeated =
            ap (λ (c : Counts). c.repeated) counts
            ∙ sym (ap (λ m. count_by (is_repeat_of (m - 1)) (seen ++ Answers k ∷ [])) reaches
            ∙ same_count (is_repeat_of (k + 1 - 1)) seen (Answers k) refl ∙ none_repeated seen (k + 1 - 1) (omega (arith, next.0)));
        start_next =
            ap (λ (c : Counts). c.start_next) counts ∙ is.start_next ∙ omega (arith, start_reached_more seen (Answers k));
        compared =
            ap (λ (c : Counts). c.compared) counts ∙ ap (λ n. min (n + 1) (2 ^ 64 - 1)) is.compared ∙ counts_on is_compared (Answers k) refl;
        count = each.0;
        each = each.1;
      }
  replies_on (Repeats k) new next counts pushed =
      let reaches : reached (seen ++ Repeats k ∷ []) ≡ reached seen = omega (arith, reached_more seen (Repeats k), next) in
      let now : new.counts.next ≡ reached (seen ++ Repeats k ∷ []) = ap (λ (c : Counts). c.next) counts ∙ is.next ∙ sym reaches in
      let each = reaches_on (Repeats k) new.reached.items (pushed ∙ ap (λ n. old.reached.items ++ n ∷ []) now) in
      record {
        next = now;
        repeated =
            ap (λ (c : Counts). c.repeated) counts ∙ ap (λ n. min (n + 1) (2 ^ 64 - 1)) is.repeated
            ∙ counts_on (is_repeat_of (reached seen - 1)) (Repeats k) (eq-eqb k (reached seen - 1) (omega (arith, next)))
            ∙ ap (λ m. count_by (is_repeat_of (m - 1)) (seen ++ Repeats k ∷ [])) (sym reaches);
        start_next = ap (λ (c : Counts). c.start_next) counts ∙ is.start_next ∙ omega (arith, start_reached_more seen (Repeats k));
        compared =
            ap (λ (c : Counts). c.compared) counts ∙ ap (λ n. min (n + 1) (2 ^ 64 - 1)) is.compared ∙ counts_on is_compared (Repeats k) refl;
        count = each.0;
        each = each.1;
      }
  replies_on (OfStart j) new next counts pushed =
      let reaches : reached (seen ++ OfStart j ∷ []) ≡ reached seen = omega (arith, reached_more seen (OfStart j)) in
      let now : new.counts.next ≡ reached (seen ++ OfStart j ∷ []) = ap (λ (c : Counts). c.next) counts ∙ is.next ∙ sym reaches in
      let each = reaches_on (OfStart j) new.reached.items (pushed ∙ ap (λ n. old.reached.items ++ n ∷ []) now) in
      record {
        next = now;
        repeated =
            ap (λ (c : Counts). c.repeated) counts ∙ is.repeated ∙ sym (same_count (is_repeat_of (reached seen - 1)) seen (OfStart j) refl)
            ∙ ap (λ m. count_by (is_repeat_of (m - 1)) (seen ++ OfStart j ∷ [])) (sym reaches);
        start_next = ap (λ (c : Counts). c.start_next) counts ∙ omega (arith, start_reached_more seen (OfStart j), next.0, next.1);
        compared = ap (λ (c : Counts). c.compared) counts ∙ is.compared ∙ sym (same_count is_compared seen (OfStart j) refl);
        count = each.0;
        each = each.1;
      }
  replies_on Absent new next counts pushed =
      let reaches : reached (seen ++ Absent ∷ []) ≡ reached seen = omega (arith, reached_more seen Absent) in
      let now : new.counts.next ≡ reached (seen ++ Absent ∷ []) = ap (λ (c : Counts). c.next) counts ∙ is.next ∙ sym reaches in
      let each = reaches_on Absent new.reached.items (pushed ∙ ap (λ n. old.reached.items ++ n ∷ []) now) in
      record {
        next = now;
        repeated =
            ap (λ (c : Counts). c.repeated) counts ∙ is.repeated ∙ sym (same_count (is_repeat_of (reached seen - 1)) seen Absent refl)
            ∙ ap (λ m. count_by (is_repeat_of (m - 1)) (seen ++ Absent ∷ [])) (sym reaches);
        start_next = ap (λ (c : Counts). c.start_next) counts ∙ is.start_next ∙ omega (arith, start_reached_more seen Absent);
        compared =
            ap (λ (c : Counts). c.compared) counts ∙ ap (λ n. min (n + 1) (2 ^ 64 - 1)) is.compared ∙ counts_on is_compared Absent refl;
        count = each.0;
        each = each.1;
      }
