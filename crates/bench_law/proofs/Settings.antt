-- What is an observation for some settings is one for all that allow more.
use Rattle.std.proofs.Common.{◌≡◌, ◌<◌, ◌-◌, ◌&&◌, ℕ, Bool, true, false, List, length, take, replicate, inl, inr, refl, arith, length-append}
use Rattle.std.specs.Prelude.{nat_eq, nat_lt}
use Rattle.std.specs.List.{starts_with}
use Rattle.std.proofs.lemmas.Bool.{and_parts, lt-ltb, ltb-true}
use Rattle.omci_msg.specs.declared.request.Request.{Request}
use Rattle.tag_view.specs.Frame.{frame_bytes}
use Rattle.frame_meaning.specs.declared.verdict.Verdict.{Verdict}
use Rattle.frame_meaning.specs.declared.verdict.Verdict.TheVariants.{Forward, Drop}
use Rattle.bench_history.specs.Among.{OneOf}
use Rattle.bench_history.specs.declared.event.Event.{Event}
use Rattle.bench_history.specs.declared.event.Event.TheVariants.{Left}
use Rattle.bench_history.specs.declared.extent.Extent.{Extent}
use Rattle.bench_history.specs.declared.extent.Extent.TheVariants.{Whole, Front}
use Rattle.bench_history.specs.declared.gem.SeenGem.{SeenGem}
use Rattle.bench_sight.specs.Sight.{IsSeenAs, agree, padded_to}
use Rattle.bench_sight.proofs.Prefixes.{Decides-begins, in_first_part}
use Rattle.bench_reply.proofs.Fewer.{fewer_compared}
use Rattle.bench_answers.specs.Ground.{Ground}
use Rattle.bench_answers.specs.declared.standing.Standing.{Standing}
use Rattle.bench_answers.specs.declared.standing.Standing.TheVariants.{Answers, Repeats, OfStart, Absent}
use Rattle.bench_judge.specs.Explained.{EndedFrame}
use Rattle.bench_judge.specs.declared.settings.JudgeSettings.{JudgeSettings}
use Rattle.bench_law.specs.Steps.{Step, shown}
use Rattle.bench_law.specs.Observation.{IsAnswer, IsForwarded, IsObservation, IsOneThatLeft, IsReply, StandsFor, seen_in}
use Rattle.bench_law.specs.Law.{Allow}
use Rattle.bench_law.proofs.Unrepeated.{with_repeats}

-- ---- replies

module _ (now before repeats : Bool) (start : List Request) (steps : List Step) (bytes : List ℕ) (allow : before ≡ true → now ≡ true) where
  abbrev answer_now : IsAnswer before steps bytes → IsAnswer now steps bytes
  answer_now is =
      record {
        place = is.place;
        request = is.request;
        reply = is.reply;
        carried_out = is.carried_out;
        wants_answer = is.wants_answer;
        answered = is.answered;
        spelled = fewer_compared now before (record { request = is.request; reply = is.reply }) bytes allow is.spelled;
      }

  abbrev ground_before : Ground
  ground_before = record { modelled = before; repeats = repeats; start = start }

  abbrev ground_now : Ground
  ground_now = record { modelled = now; repeats = repeats; start = start }

  stands_now : (seen : List Standing) (standing : Standing) → StandsFor ground_before steps seen bytes standing → StandsFor ground_now steps seen bytes standing
  stands_now seen (Answers k) is = record { is = answer_now is.is; number = is.number; next = is.next }
  stands_now seen (Repeats k) is =
      record { is = answer_now is.is; number = is.number; last = is.last; repeated = is.repeated; alone = is.alone }
  stands_now seen (OfStart j) is =
      record { is = answer_now is.is; number = is.number; of_start = is.of_start; behind = is.behind; unsent = is.unsent }
  stands_now seen Absent is = is

  reply_now : (means : List Standing) → IsReply ground_before means steps bytes → IsReply ground_now means steps bytes
  reply_now means is = record { standing = is.standing; listed = is.listed; stands = stands_now (seen_in means steps) is.standing is.stands }

-- ---- frames

both_true : (a b : Bool) → a ≡ true → b ≡ true → (a && b) ≡ true
both_true true b is_a is_b = is_b
both_true false b is_a is_b = absurd (cc is_a)

begins_padded : (leaves seen : List ℕ) → starts_with nat_eq leaves seen ≡ true → starts_with nat_eq (padded_to 68 leaves) seen ≡ true
begins_padded leaves seen begins =
    (Decides-begins (padded_to 68 leaves) seen).1
    (in_first_part leaves (replicate (68 - length leaves) 0) seen ((Decides-begins leaves seen).0 begins))

-- what agrees without padding agrees with it
agrees_padded : (extent : Extent) (leaves : List ℕ) (seen_extent : Extent) (seen : List ℕ) → agree false extent leaves seen_extent seen ≡ true
    → agree true extent leaves seen_extent seen ≡ true
agrees_padded Whole leaves Whole seen agrees =
    let parts = and_parts (starts_with nat_eq leaves seen) (starts_with nat_eq seen leaves) agrees in
    both_true (starts_with nat_eq (padded_to 68 leaves) seen) (starts_with nat_eq seen leaves) (begins_padded leaves seen parts.0) parts.1
agrees_padded Whole leaves Front seen agrees =
    let parts = and_parts (starts_with nat_eq leaves seen) (nat_lt (length seen) (length leaves)) agrees in
    let less : length seen < length (padded_to 68 leaves) =
    omega (arith, ltb-true (length seen) (length leaves) parts.1, length-append leaves (replicate (68 - length leaves) 0)) in
    both_true (starts_with nat_eq (padded_to 68 leaves) seen) (nat_lt (length seen) (length (padded_to 68 leaves))) (begins_padded leaves seen parts.0)
    (lt-ltb (length seen) (length (padded_to 68 leaves)) less)
agrees_padded Front leaves Whole seen agrees = agrees
agrees_padded Front leaves Front seen agrees = agrees

seen_padded : (verdict : Verdict) (extent : Extent) (seen : Event) → IsSeenAs false verdict extent seen → IsSeenAs true verdict extent seen
seen_padded (Forward gem frame) extent (Left seen_gem seen_extent number bytes) is = (is.0, agrees_padded extent (frame_bytes frame) seen_extent bytes is.1)
seen_padded (Forward gem frame) extent seen is = is
seen_padded (Drop reason) extent seen is = is

seen_now : (now before : Bool) (verdict : Verdict) (extent : Extent) (seen : Event) → (before ≡ true → now ≡ true)
    → IsSeenAs before verdict extent seen → IsSeenAs now verdict extent seen
seen_now true true verdict extent seen allow is = is
seen_now true false verdict extent seen allow is = seen_padded verdict extent seen is
seen_now false true verdict extent seen allow is = absurd (cc (allow refl))
seen_now false false verdict extent seen allow is = is

-- where order counts it counted
ordered_before : (now before : Bool) → (before ≡ true → now ≡ true) → now ≡ false → before ≡ false
ordered_before now true allow order = let set : now ≡ true = allow refl in cc
ordered_before now false allow order = refl

-- ---- frames by their lanes

forwarded_now : (now before : Bool) (steps : List Step) (f : EndedFrame) (lane place : ℕ) → (before ≡ true → now ≡ true)
    → IsForwarded before steps f lane place → IsForwarded now steps f lane place
forwarded_now now before steps f lane place allow is =
    record {
      bytes = is.bytes;
      verdict = is.verdict;
      forwards = is.forwards;
      sent = is.sent;
      ended = is.ended;
      known = is.known;
      decided = is.decided;
      seen = seen_now now before is.verdict Whole f.seen allow is.seen;
    }

one_now : (now before : Bool) (steps : List Step) (gem : SeenGem) (extent : Extent) (among : OneOf) → (before ≡ true → now ≡ true)
    → IsOneThatLeft before steps gem extent among → IsOneThatLeft now steps gem extent among
one_now now before steps gem extent among allow is =
    record {
      frame = is.frame;
      is_named = is.is_named;
      left =
          elim is.left [
            | inl few ↦ inl few
            | inr lets ↦ inr (lets.0, lets.1, forwarded_now now before steps is.frame lets.0 lets.1 allow lets.2)
          ];
    }

-- ---- observations

module _ (lanes : ℕ) (start : List Request) (steps : List Step) (settings needed : JudgeSettings) (allow : Allow settings needed (shown steps)) where
  repeats_now : (now before : Bool) → settings.repeats ≡ now → needed.repeats ≡ before
      → IsObservation lanes (record { settings = record needed { repeats = before }; start = start }) steps
      → IsObservation lanes (record { settings = record needed { repeats = now }; start = start }) steps
  repeats_now true true is was o = o
  repeats_now true false is was o = with_repeats lanes start steps needed (allow.unrepeated was is) o
  repeats_now false true is was o = let set : settings.repeats ≡ true = allow.repeats was in absurd (cc (set, is))
  repeats_now false false is was o = o

  -- where both mean repeats, or neither
  others_now : IsObservation lanes (record { settings = record needed { repeats = settings.repeats }; start = start }) steps
      → IsObservation lanes (record { settings = settings; start = start }) steps
  others_now o =
      record {
        run = o.run;
        carried_out = o.carried_out;
        means = o.means;
        replied = λ place bytes at.
            reply_now settings.modelled needed.modelled settings.repeats start (take place steps) bytes allow.modelled o.means (o.replied place bytes at);
        unexcused = o.unexcused;
        waited = o.waited;
        begun = o.begun;
        strays = λ place gem extent frame at. allow.strays (o.strays place gem extent frame at);
        doubted = λ place gem extent among at.
            one_now settings.padded needed.padded (take place steps) gem extent among allow.padded (o.doubted place gem extent among at);
        lane_of = o.lane_of;
        place_of = o.place_of;
        forwarded = λ f is.
            forwarded_now settings.padded needed.padded steps f (o.lane_of f.number) (o.place_of f.number) allow.padded (o.forwarded f is);
        in_order = λ order. o.in_order (ordered_before settings.unordered needed.unordered allow.unordered order);
      }

  pub observed_now : IsObservation lanes (record { settings = needed; start = start }) steps
      → IsObservation lanes (record { settings = settings; start = start }) steps
  observed_now o = others_now (repeats_now settings.repeats needed.repeats refl refl o)
