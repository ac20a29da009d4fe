-- Worked examples, computed. Three messages are seen before the unit carries them out, and a wait. Behind these a frame is sent of which a
-- front is known, and leaves by a GEM port that isn't seen, with padding. Or one frame is sent into two ports, and it can't be seen of which
-- the one is that leaves.
use Rattle.std.proofs.Common.{◌≡◌, ◌<◌, ℕ, true, false, List, [], ◌∷◌, ◌++◌, take, Some, None, inr, refl, sym, ap, subst, ◌∙◌, arith}
use Rattle.omci_msg.specs.Message.{action_of, reply_of, request_of}
use Rattle.tag_view.specs.Frame.{fault_of, frame_of}
use Rattle.pmapper.specs.Mapper.{pointer_of, priority_of}
use Rattle.mib_state.specs.Step.{create, create_in}
use Rattle.frame_meaning.specs.Meaning.{carries_upstream, forwarded_by, gem_port_at, gem_port_behind, gem_port_of, input_tpid_of, mapper_at, meaning, port_id_of, table_at, tags_at}
use Rattle.plan_publish.specs.World.{IsRun, opening, world_after, answer, Message, Publish, Enter, Forward, Decided}
use Rattle.plan_publish.specs.Interleavings.{entered_with}
use Rattle.bench_history.specs.Among.{OneOf}
use Rattle.bench_history.specs.History.{frames_in, is_end_of}
use Rattle.bench_history.specs.declared.event.Event.{Event}
use Rattle.bench_history.specs.declared.event.Event.TheVariants.{Sent, Replied, Entered, Left, LeftOneOf, Waited, Ended}
use Rattle.bench_history.specs.declared.extent.Extent.{Extent}
use Rattle.bench_history.specs.declared.extent.Extent.TheVariants.{Whole, Front}
use Rattle.bench_history.specs.declared.gem.SeenGem.TheVariants.{Any, Port}
use Rattle.bench_sight.specs.Sight.{IsSeenAs}
use Rattle.bench_answers.specs.declared.standing.Standing.{Standing}
use Rattle.bench_answers.specs.declared.standing.Standing.TheVariants.{Answers}
use Rattle.bench_judge.specs.Explained.{EndedFrame, IsEnded, IsExplained}
use Rattle.bench_judge.specs.Terms.{Terms, ground_in}
use Rattle.bench_judge.specs.declared.settings.JudgeSettings.{JudgeSettings}
use Rattle.bench_law.specs.Steps.{Step, Happens, Shows, happened, shown}
use Rattle.bench_law.specs.Observation.{HasLearnt, IsForwarded, IsKnownAs, IsObservation, IsOneThatLeft, IsReply}
use Rattle.bench_law.proofs.Explaining.{explained}
use Rattle.bench_law.proofs.Setup.{addresses, created, creating, filled, frame, front, gem_port, lane_0, mapper, message, padded_frame, plain, point, verdict_of_frame}
use Rattle.bench_law.proofs.Stepwise.{EachFrom, EachLine, IsSo, line_of_each, observed}

-- ---- the observation

steps : List Step
steps =
    Shows (Sent (message 1 0x44 268 4 1 gem_port)) ∷ Shows (Sent (message 2 0x44 266 5 1 point)) ∷ Shows (Sent (message 3 0x44 130 6 1 mapper))
    ∷ Happens (Message (creating 1 268 4 1 gem_port)) ∷ Shows (Replied (message 1 0x24 268 4 1 []))
    ∷ Happens (Message (creating 2 266 5 1 point)) ∷ Happens (Message (creating 3 130 6 1 mapper)) ∷ Happens Publish
    ∷ Shows (Replied (message 2 0x24 266 5 1 [])) ∷ Shows (Replied (message 3 0x24 130 6 1 []))
    ∷ Happens (Enter 0) ∷ Shows (Waited None)
    ∷ Shows (Entered 257 Front front) ∷ Happens (Forward 0 257 frame) ∷ Shows (Left Any Whole 0 padded_frame) ∷ Shows Ended
    ∷ []

settings : JudgeSettings
settings = record plain { padded = true }

terms : Terms
terms = record { settings = settings; start = [] }

-- each reply answers the next message
means : List Standing
means = Answers 0 ∷ Answers 1 ∷ Answers 2 ∷ []

lines : List Event
lines = shown steps

runs : IsRun 1 opening (happened steps)
unfolding steps creating filled gem_port point mapper frame front addresses create create_in
runs = search lane_0

-- ---- replies

answered_1 : IsReply (ground_in terms) means (take 4 steps) (message 1 0x24 268 4 1 [])
unfolding terms settings plain means steps creating created message filled gem_port point mapper frame front padded_frame addresses create create_in reply_of action_of
answered_1 =
    record {
      standing = Answers 0;
      listed = refl;
      stands =
          record {
            is =
                record {
                  place = 3;
                  request = creating 1 268 4 1 gem_port;
                  reply = created 1 268 4 1;
                  carried_out = refl;
                  wants_answer = refl;
                  answered = refl;
                  spelled =
                      record {
                        reply = created 1 268 4 1;
                        read = refl;
                        tci = refl;
                        action = refl;
                        class = refl;
                        instance = refl;
                        contents = λ byte compared. refl;
                      };
                };
            number = refl;
            next = refl;
          };
    }

answered_2 : IsReply (ground_in terms) means (take 8 steps) (message 2 0x24 266 5 1 [])
unfolding terms settings plain means steps creating created message filled gem_port point mapper frame front padded_frame addresses create create_in reply_of action_of
answered_2 =
    record {
      standing = Answers 1;
      listed = refl;
      stands =
          record {
            is =
                record {
                  place = 5;
                  request = creating 2 266 5 1 point;
                  reply = created 2 266 5 1;
                  carried_out = refl;
                  wants_answer = refl;
                  answered = refl;
                  spelled =
                      record {
                        reply = created 2 266 5 1;
                        read = refl;
                        tci = refl;
                        action = refl;
                        class = refl;
                        instance = refl;
                        contents = λ byte compared. refl;
                      };
                };
            number = refl;
            next = refl;
          };
    }

answered_3 : IsReply (ground_in terms) means (take 9 steps) (message 3 0x24 130 6 1 [])
unfolding terms settings plain means steps creating created message filled gem_port point mapper frame front padded_frame addresses create create_in reply_of action_of
answered_3 =
    record {
      standing = Answers 2;
      listed = refl;
      stands =
          record {
            is =
                record {
                  place = 6;
                  request = creating 3 130 6 1 mapper;
                  reply = created 3 130 6 1;
                  carried_out = refl;
                  wants_answer = refl;
                  answered = refl;
                  spelled =
                      record {
                        reply = created 3 130 6 1;
                        read = refl;
                        tci = refl;
                        action = refl;
                        class = refl;
                        instance = refl;
                        contents = λ byte compared. refl;
                      };
                };
            number = refl;
            next = refl;
          };
    }

-- ---- the wait, and all steps

learnt : (lane : ℕ) → lane < 1 → HasLearnt [] (take 11 steps) 3 lane
unfolding steps creating
learnt lane less =
    let only : 0 ≡ lane = omega (arith, less) in
    record {
      place = 7;
      publishes = refl;
      begun = omega arith;
      carried_out = omega arith;
      learnt = inr (record { place = 10; since = omega arith; enters = ap (λ (l : ℕ). Some (Happens (Enter l))) only });
    }

no_script : {A : Type 0} → 0 < 0 → A
no_script less = absurd (omega (arith, less))

each_so : EachFrom (IsSo 1 terms means) [] steps
unfolding EachFrom terms settings plain means steps creating message filled gem_port point mapper frame front padded_frame addresses request_of action_of
each_so =
    (tt, (tt, (tt, (refl, (answered_1, (refl, (refl, (tt, (answered_2, (answered_3, (tt, (λ some. learnt, (no_script, (tt, (tt, (tt, tt))))))))))))))))

-- ---- the frame

-- it is the one that enters
IsTheFrame : ℕ → Event → Type 0
IsTheFrame n (Entered port extent bytes) = (n ≡ 7) × (port ≡ 257) × (extent ≡ Front) × (bytes ≡ front)
IsTheFrame n line = Unit {0}

each_frame : EachLine IsTheFrame 0 lines
unfolding EachLine IsTheFrame lines steps
each_frame = (tt, (tt, (tt, (tt, (tt, (tt, (tt, ((refl, refl, refl, refl), (tt, (tt, tt))))))))))

the_frame : (f : EndedFrame) → IsEnded (shown steps) f → (f.sent ≡ 7) × (f.port ≡ 257) × (f.extent ≡ Front) × (f.bytes ≡ front)
unfolding lines IsTheFrame
the_frame f is = line_of_each IsTheFrame 0 lines each_frame f.sent f.sent (Entered f.port f.extent f.bytes) is.entered (omega arith)

-- where it ends it was seen as it was decided
IsSeenSo : ℕ → Event → Type 0
IsSeenSo n line = (number : ℕ) → is_end_of number line ≡ true → IsSeenAs true verdict_of_frame Whole line

no_end : {A : Type 0} → (number : ℕ) → false ≡ true → A
no_end number is = absurd (cc is)

each_seen : EachLine IsSeenSo 0 lines
unfolding EachLine IsSeenSo lines steps verdict_of_frame padded_frame frame front addresses
each_seen = (no_end, (no_end, (no_end, (no_end, (no_end, (no_end, (no_end, (no_end, (λ number is. (refl, refl), (no_end, tt))))))))))

seen_so : (f : EndedFrame) → IsEnded (shown steps) f → IsSeenAs true verdict_of_frame Whole f.seen
unfolding lines IsSeenSo
seen_so f is = line_of_each IsSeenSo 0 lines each_seen f.ended f.ended f.seen is.seen (omega arith) f.number is.is_end

known : IsKnownAs Front front frame
unfolding frame front addresses
known = (refl, omega arith)

decides : answer (world_after (happened (take 13 steps))) (Forward 0 257 frame) ≡ Decided verdict_of_frame
unfolding steps creating filled gem_port point mapper frame front addresses create create_in verdict_of_frame meaning forwarded_by table_at input_tpid_of tags_at mapper_at priority_of pointer_of carries_upstream port_id_of gem_port_behind gem_port_of gem_port_at frame_of fault_of
decides = refl

forwards : (f : EndedFrame) → IsEnded (shown steps) f → IsForwarded true steps f 0 13
unfolding steps
forwards f is =
    let the = the_frame f is in
    record {
      bytes = frame;
      verdict = verdict_of_frame;
      forwards = ap (λ (port : ℕ). Some (Happens (Forward 0 port frame))) (sym the.1);
      sent = omega (arith, the.0);
      ended = omega (arith, the.0, is.later);
      known = subst (λ (bytes : List ℕ). IsKnownAs f.extent bytes frame) (sym the.3) (subst (λ (extent : Extent). IsKnownAs extent front frame) (sym the.2) known);
      decided = subst (λ (port : ℕ). answer (world_after (happened (take 13 steps))) (Forward 0 port frame) ≡ Decided verdict_of_frame) (sym the.1) decides;
      seen = seen_so f is;
    }

-- there is no other frame
only_frame : (f g : EndedFrame) → IsEnded (shown steps) f → IsEnded (shown steps) g → f.number ≡ g.number
only_frame f g is_f is_g =
    is_f.number ∙ ap (λ (k : ℕ). frames_in (take k (shown steps))) ((the_frame f is_f).0 ∙ sym (the_frame g is_g).0) ∙ sym is_g.number

-- ---- it is an observation, and so it is explained

observation : IsObservation 1 terms steps
unfolding terms settings plain
observation =
    observed 1 terms means steps runs each_so (λ number. 0) (λ number. 13) forwards
    (λ order f g is_f is_g port less. absurd (omega (arith, less, only_frame f g is_f is_g)))

is_explained : IsExplained terms (shown steps)
is_explained = explained 1 terms steps observation

-- the frame's lane holds three accepted requests
three : entered_with 0 (happened (take 13 steps)) ≡ 3
unfolding steps creating filled gem_port point mapper create create_in
three = refl

-- ---- one frame into two ports, of which one alone has a mapper

plain_terms : Terms
plain_terms = record { settings = plain; start = [] }

either : OneOf
either = record { frame = frame; numbers = 0 ∷ 1 ∷ [] }

twice : List Step
twice =
    take 12 steps
    ++ Shows (Entered 257 Whole frame) ∷ Shows (Entered 258 Whole frame) ∷ Happens (Forward 0 257 frame) ∷ Shows (LeftOneOf (Port 1024) Whole either)
    ∷ Shows Ended ∷ []

twice_runs : IsRun 1 opening (happened twice)
unfolding twice steps creating filled gem_port point mapper frame front addresses create create_in
twice_runs = search lane_0

-- no line ends a frame by itself
EndsNone : ℕ → Event → Type 0
EndsNone n line = (number : ℕ) → is_end_of number line ≡ true → ⊥

twice_lines : EachLine EndsNone 0 (shown twice)
unfolding EachLine EndsNone twice steps
twice_lines = (no_end, (no_end, (no_end, (no_end, (no_end, (no_end, (no_end, (no_end, (no_end, (no_end, (no_end, tt)))))))))))

none_ended : (f : EndedFrame) → IsEnded (shown twice) f → ⊥
unfolding EndsNone
none_ended f is = line_of_each EndsNone 0 (shown twice) twice_lines f.ended f.ended f.seen is.seen (omega arith) f.number is.is_end

-- the frame that left is that of number 0
first_left : IsOneThatLeft false (take 15 twice) (Port 1024) Whole either
unfolding twice steps either creating filled gem_port point mapper frame front addresses create create_in verdict_of_frame meaning forwarded_by table_at input_tpid_of tags_at mapper_at priority_of pointer_of carries_upstream port_id_of gem_port_behind gem_port_of gem_port_at frame_of fault_of
first_left =
    record {
      frame = record { sent = 7; ended = 9; number = 0; port = 257; extent = Whole; bytes = frame; seen = Left (Port 1024) Whole 0 frame };
      is_named = record { named = (0, omega arith, refl); entered = refl; number = refl; ended = refl; seen = refl };
      left =
          inr (
            0,
            14,
            record {
              bytes = frame;
              verdict = verdict_of_frame;
              forwards = refl;
              sent = omega arith;
              ended = omega arith;
              known = refl;
              decided = refl;
              seen = (refl, refl);
            },
          );
    }

twice_so : EachFrom (IsSo 1 plain_terms means) [] twice
unfolding EachFrom plain_terms plain terms settings means twice steps creating message filled gem_port point mapper frame front addresses request_of action_of
twice_so =
    (tt, (tt, (tt, (refl, (answered_1, (refl, (refl, (tt, (answered_2, (answered_3, (tt, (λ some. learnt, (no_script, (no_script, (tt, (first_left, (tt, tt)))))))))))))))))

twice_observed : IsObservation 1 plain_terms twice
unfolding plain_terms plain
twice_observed =
    observed 1 plain_terms means twice twice_runs twice_so (λ number. 0) (λ number. 14) (λ f is. absurd (none_ended f is))
    (λ order f g is_f is_g port less. absurd (none_ended f is_f))

twice_explained : IsExplained plain_terms (shown twice)
twice_explained = explained 1 plain_terms twice twice_observed
