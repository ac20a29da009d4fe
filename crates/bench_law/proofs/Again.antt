-- A worked example, computed. A message is sent twice in a row, and carried out once; the unit answers it twice.
use Rattle.std.proofs.Common.{◌≡◌, ◌<◌, ℕ, true, false, List, [], ◌∷◌, length, take, Some, slice_get, refl, arith}
use Rattle.std.proofs.lemmas.Option.{slice_get_within}
use Rattle.omci_msg.specs.Message.{action_of, reply_of, request_of}
use Rattle.mib_state.specs.Step.{create, create_in}
use Rattle.plan_publish.specs.World.{IsRun, opening, Message}
use Rattle.bench_history.specs.History.{is_end_of}
use Rattle.bench_history.specs.declared.event.Event.{Event}
use Rattle.bench_history.specs.declared.event.Event.TheVariants.{Sent, Replied, Ended}
use Rattle.bench_reply.specs.Replies.{Wanted}
use Rattle.bench_answers.specs.Asked.{repeats_of, wanted}
use Rattle.bench_answers.specs.Windows.{most_behind}
use Rattle.bench_answers.specs.declared.standing.Standing.{Standing}
use Rattle.bench_answers.specs.declared.standing.Standing.TheVariants.{Answers, Repeats}
use Rattle.bench_judge.specs.Explained.{EndedFrame, IsEnded, IsExplained}
use Rattle.bench_judge.specs.Terms.{Terms, ground_in}
use Rattle.bench_law.specs.Steps.{Step, Happens, Shows, happened, shown}
use Rattle.bench_law.specs.Observation.{IsObservation, IsReply}
use Rattle.bench_law.proofs.Explaining.{explained}
use Rattle.bench_law.proofs.Setup.{created, creating, filled, gem_port, message, plain}
use Rattle.bench_law.proofs.Stepwise.{EachFrom, EachLine, IsSo, line_of_each, observed}

steps : List Step
steps =
    Shows (Sent (message 1 0x44 268 4 1 gem_port)) ∷ Happens (Message (creating 1 268 4 1 gem_port)) ∷ Shows (Sent (message 1 0x44 268 4 1 gem_port))
    ∷ Shows (Replied (message 1 0x24 268 4 1 [])) ∷ Shows (Replied (message 1 0x24 268 4 1 [])) ∷ Shows Ended ∷ []

terms : Terms
terms = record { settings = record plain { repeats = true }; start = [] }

means : List Standing
means = Answers 0 ∷ Repeats 0 ∷ []

runs : IsRun 1 opening (happened steps)
unfolding steps
runs = (tt, tt)

-- ---- replies

first : IsReply (ground_in terms) means (take 3 steps) (message 1 0x24 268 4 1 [])
unfolding terms plain means steps creating created message filled gem_port create create_in reply_of request_of action_of
first =
    record {
      standing = Answers 0;
      listed = refl;
      stands =
          record {
            is =
                record {
                  place = 1;
                  request = creating 1 268 4 1 gem_port;
                  reply = created 1 268 4 1;
                  carried_out = refl;
                  wants_answer = refl;
                  answered = refl;
                  spelled =
                      record {
                        reply = created 1 268 4 1;
                        read = refl;
                        tci = refl;
                        action = refl;
                        class = refl;
                        instance = refl;
                        contents = λ byte compared. refl;
                      };
                };
            number = refl;
            next = refl;
          };
    }

-- there is one repeat of it, and no other request
one_repeat : repeats_of (ground_in terms) (shown (take 4 steps)) 0 ≡ 1
unfolding terms plain steps message filled gem_port request_of action_of
one_repeat = refl

one_wanted : length (wanted (ground_in terms) (shown (take 4 steps))) ≡ 1
unfolding terms plain steps message filled gem_port request_of action_of
one_wanted = refl

no_other : (n : ℕ) (w : Wanted) → 0 < n → slice_get (wanted (ground_in terms) (shown (take 4 steps))) n ≡ Some w → ⊥
no_other n w behind at = omega (arith, behind, one_wanted, slice_get_within (wanted (ground_in terms) (shown (take 4 steps))) n w at)

once_more : IsReply (ground_in terms) means (take 4 steps) (message 1 0x24 268 4 1 [])
unfolding terms plain means steps creating created message filled gem_port create create_in reply_of request_of action_of
once_more =
    record {
      standing = Repeats 0;
      listed = refl;
      stands =
          record {
            is =
                record {
                  place = 1;
                  request = creating 1 268 4 1 gem_port;
                  reply = created 1 268 4 1;
                  carried_out = refl;
                  wants_answer = refl;
                  answered = refl;
                  spelled =
                      record {
                        reply = created 1 268 4 1;
                        read = refl;
                        tci = refl;
                        action = refl;
                        class = refl;
                        instance = refl;
                        contents = λ byte compared. refl;
                      };
                };
            number = refl;
            last = refl;
            repeated = omega (arith, one_repeat);
            alone = λ n w behind at same. no_other n w behind at;
          };
    }

-- ---- it is an observation, and so it is explained

each_so : EachFrom (IsSo 1 terms means) [] steps
unfolding EachFrom terms plain means steps creating message filled gem_port request_of action_of
each_so = (tt, (refl, (tt, (first, (once_more, (tt, tt))))))

-- no line ends a frame
EndsNone : ℕ → Event → Type 0
EndsNone n line = (number : ℕ) → is_end_of number line ≡ true → ⊥

no_end : (number : ℕ) → false ≡ true → ⊥
no_end number is = absurd (cc is)

each_line : EachLine EndsNone 0 (shown steps)
unfolding EachLine EndsNone steps
each_line = (no_end, (no_end, (no_end, (no_end, (no_end, tt)))))

none_ended : (f : EndedFrame) → IsEnded (shown steps) f → ⊥
unfolding EndsNone
none_ended f is = line_of_each EndsNone 0 (shown steps) each_line f.ended f.ended f.seen is.seen (omega arith) f.number is.is_end

observation : IsObservation 1 terms steps
observation =
    observed 1 terms means steps runs each_so (λ number. 0) (λ number. 0) (λ f is. absurd (none_ended f is))
    (λ order f g is_f is_g port less. absurd (none_ended f is_f))

is_explained : IsExplained terms (shown steps)
is_explained = explained 1 terms steps observation

-- one request was accepted
carried_out_once : most_behind (ground_in terms) (shown steps) ≡ 1
unfolding terms plain steps message filled gem_port request_of action_of create create_in
carried_out_once = refl
