-- A worked example, computed. A script is carried out before the first line. Its last answer is seen late, and then a frame is sent and leaves
-- as the script configured it.
use Rattle.std.proofs.Common.{◌≡◌, ◌<◌, ℕ, true, false, List, [], ◌∷◌, take, Some, inr, refl, sym, ap, subst, ◌∙◌, arith}
use Rattle.omci_msg.specs.declared.request.Request.{Request}
use Rattle.omci_msg.specs.Message.{action_of, reply_of}
use Rattle.tag_view.specs.Frame.{fault_of, frame_of}
use Rattle.pmapper.specs.Mapper.{pointer_of, priority_of}
use Rattle.mib_state.specs.Step.{create, create_in}
use Rattle.frame_meaning.specs.Meaning.{carries_upstream, forwarded_by, gem_port_at, gem_port_behind, gem_port_of, input_tpid_of, mapper_at, meaning, port_id_of, table_at, tags_at}
use Rattle.plan_publish.specs.World.{IsRun, opening, world_after, answer, Message, Publish, Enter, Forward, Decided}
use Rattle.bench_history.specs.History.{frames_in, is_end_of}
use Rattle.bench_history.specs.declared.event.Event.{Event}
use Rattle.bench_history.specs.declared.event.Event.TheVariants.{Replied, Entered, Left, Ended}
use Rattle.bench_history.specs.declared.extent.Extent.{Extent}
use Rattle.bench_history.specs.declared.extent.Extent.TheVariants.{Whole}
use Rattle.bench_history.specs.declared.gem.SeenGem.TheVariants.{Port}
use Rattle.bench_sight.specs.Sight.{IsSeenAs}
use Rattle.bench_answers.specs.Windows.{least_behind}
use Rattle.bench_answers.specs.declared.standing.Standing.{Standing}
use Rattle.bench_answers.specs.declared.standing.Standing.TheVariants.{OfStart}
use Rattle.bench_judge.specs.Explained.{EndedFrame, IsEnded, IsExplained}
use Rattle.bench_judge.specs.Terms.{Terms, ground_in}
use Rattle.bench_law.specs.Steps.{Step, Happens, Shows, happened, shown}
use Rattle.bench_law.specs.Observation.{HasLearnt, IsForwarded, IsKnownAs, IsObservation, IsReply}
use Rattle.bench_law.proofs.Explaining.{explained}
use Rattle.bench_law.proofs.Setup.{addresses, created, creating, filled, frame, front, gem_port, lane_0, mapper, message, plain, point, verdict_of_frame}
use Rattle.bench_law.proofs.Stepwise.{EachFrom, EachLine, IsSo, line_of_each, observed}

script : List Request
script = creating 1 268 4 1 gem_port ∷ creating 2 266 5 1 point ∷ creating 3 130 6 1 mapper ∷ []

steps : List Step
steps =
    Happens (Message (creating 1 268 4 1 gem_port)) ∷ Happens (Message (creating 2 266 5 1 point)) ∷ Happens (Message (creating 3 130 6 1 mapper))
    ∷ Happens Publish ∷ Shows (Replied (message 3 0x24 130 6 1 [])) ∷ Happens (Enter 0)
    ∷ Shows (Entered 257 Whole frame) ∷ Happens (Forward 0 257 frame) ∷ Shows (Left (Port 1024) Whole 0 frame) ∷ Shows Ended ∷ []

terms : Terms
terms = record { settings = plain; start = script }

-- the reply answers the last request of the script
means : List Standing
means = OfStart 2 ∷ []

runs : IsRun 1 opening (happened steps)
unfolding steps creating filled gem_port point mapper frame front addresses create create_in
runs = search lane_0

-- ---- the reply, the script, and all steps

late : IsReply (ground_in terms) means (take 4 steps) (message 3 0x24 130 6 1 [])
unfolding terms plain means script steps creating created message filled gem_port point mapper frame front addresses create create_in reply_of action_of
late =
    record {
      standing = OfStart 2;
      listed = refl;
      stands =
          record {
            is =
                record {
                  place = 2;
                  request = creating 3 130 6 1 mapper;
                  reply = created 3 130 6 1;
                  carried_out = refl;
                  wants_answer = refl;
                  answered = refl;
                  spelled =
                      record {
                        reply = created 3 130 6 1;
                        read = refl;
                        tci = refl;
                        action = refl;
                        class = refl;
                        instance = refl;
                        contents = λ byte compared. refl;
                      };
                };
            number = refl;
            of_start = omega arith;
            behind = omega arith;
            unsent = refl;
          };
    }

learnt : (lane : ℕ) → lane < 1 → HasLearnt script (take 6 steps) 0 lane
unfolding script steps creating
learnt lane less =
    let only : 0 ≡ lane = omega (arith, less) in
    record {
      place = 3;
      publishes = refl;
      begun = omega arith;
      carried_out = omega arith;
      learnt = inr (record { place = 5; since = omega arith; enters = ap (λ (l : ℕ). Some (Happens (Enter l))) only });
    }

each_so : EachFrom (IsSo 1 terms means) [] steps
unfolding EachFrom terms plain means script steps creating message filled gem_port point mapper frame front addresses
each_so = (refl, (refl, (refl, (tt, (late, (tt, (λ some. learnt, (tt, (tt, (tt, tt))))))))))

-- ---- the frame

lines : List Event
lines = shown steps

-- it is the one that enters
IsTheFrame : ℕ → Event → Type 0
IsTheFrame n (Entered port extent bytes) = (n ≡ 1) × (port ≡ 257) × (extent ≡ Whole) × (bytes ≡ frame)
IsTheFrame n line = Unit {0}

each_frame : EachLine IsTheFrame 0 lines
unfolding EachLine IsTheFrame lines steps
each_frame = (tt, ((refl, refl, refl, refl), (tt, (tt, tt))))

the_frame : (f : EndedFrame) → IsEnded (shown steps) f → (f.sent ≡ 1) × (f.port ≡ 257) × (f.extent ≡ Whole) × (f.bytes ≡ frame)
unfolding lines IsTheFrame
the_frame f is = line_of_each IsTheFrame 0 lines each_frame f.sent f.sent (Entered f.port f.extent f.bytes) is.entered (omega arith)

-- where it ends it was seen as it was decided
IsSeenSo : ℕ → Event → Type 0
IsSeenSo n line = (number : ℕ) → is_end_of number line ≡ true → IsSeenAs false verdict_of_frame Whole line

no_end : {A : Type 0} → (number : ℕ) → false ≡ true → A
no_end number is = absurd (cc is)

each_seen : EachLine IsSeenSo 0 lines
unfolding EachLine IsSeenSo lines steps verdict_of_frame frame front addresses
each_seen = (no_end, (no_end, (λ number is. (refl, refl), (no_end, tt))))

seen_so : (f : EndedFrame) → IsEnded (shown steps) f → IsSeenAs false verdict_of_frame Whole f.seen
unfolding lines IsSeenSo
seen_so f is = line_of_each IsSeenSo 0 lines each_seen f.ended f.ended f.seen is.seen (omega arith) f.number is.is_end

decides : answer (world_after (happened (take 7 steps))) (Forward 0 257 frame) ≡ Decided verdict_of_frame
unfolding steps creating filled gem_port point mapper frame front addresses create create_in verdict_of_frame meaning forwarded_by table_at input_tpid_of tags_at mapper_at priority_of pointer_of carries_upstream port_id_of gem_port_behind gem_port_of gem_port_at frame_of fault_of
decides = refl

forwards : (f : EndedFrame) → IsEnded (shown steps) f → IsForwarded false steps f 0 7
unfolding steps
forwards f is =
    let the = the_frame f is in
    record {
      bytes = frame;
      verdict = verdict_of_frame;
      forwards = ap (λ (port : ℕ). Some (Happens (Forward 0 port frame))) (sym the.1);
      sent = omega (arith, the.0);
      ended = omega (arith, the.0, is.later);
      known = subst (λ (extent : Extent). IsKnownAs extent f.bytes frame) (sym the.2) the.3;
      decided = subst (λ (port : ℕ). answer (world_after (happened (take 7 steps))) (Forward 0 port frame) ≡ Decided verdict_of_frame) (sym the.1) decides;
      seen = seen_so f is;
    }

-- there is no other frame
only_frame : (f g : EndedFrame) → IsEnded (shown steps) f → IsEnded (shown steps) g → f.number ≡ g.number
only_frame f g is_f is_g =
    is_f.number ∙ ap (λ (k : ℕ). frames_in (take k (shown steps))) ((the_frame f is_f).0 ∙ sym (the_frame g is_g).0) ∙ sym is_g.number

-- ---- it is an observation, and so it is explained

observation : IsObservation 1 terms steps
unfolding terms plain
observation =
    observed 1 terms means steps runs each_so (λ number. 0) (λ number. 7) forwards
    (λ order f g is_f is_g port less. absurd (omega (arith, less, only_frame f g is_f is_g)))

is_explained : IsExplained terms (shown steps)
is_explained = explained 1 terms steps observation

-- all three requests are in force for it
least_of_script : least_behind (ground_in terms) (take 1 (shown steps)) ≡ 3
unfolding terms plain script steps creating message filled gem_port point mapper frame front addresses create create_in reply_of action_of
least_of_script = refl
