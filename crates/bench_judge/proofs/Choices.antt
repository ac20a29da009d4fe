-- Versions for frames as they are kept are versions for the frames of events.
use Rattle.std.proofs.Common.{◌≡◌, ℕ, ◌≤◌, Bool, List, ◌++◌, take, Some, is_some, slice_get, ap, sym, subst, ◌∙◌, arith, take-take}
use Rattle.std.proofs.lemmas.List.{take-append-le}
use Rattle.omci_msg.specs.declared.request.Request.{Request}
use Rattle.mib_state.specs.Entities.{Entities}
use Rattle.mib_state.specs.After.{after}
use Rattle.frame_meaning.specs.Meaning.{meaning}
use Rattle.bench_history.specs.declared.event.Event.{Event}
use Rattle.bench_history.specs.declared.event.Event.TheVariants.{Entered}
use Rattle.bench_history.specs.declared.extent.Extent.{Extent}
use Rattle.bench_sight.specs.Sight.{IsSeenAs}
use Rattle.bench_answers.specs.Asked.{requests_of, version}
use Rattle.bench_answers.specs.Windows.{most_behind}
use Rattle.bench_judge.specs.Explained.{EndedFrame, IsChoice, IsEnded, IsLeastChoice, IsVersionOf}
use Rattle.bench_judge.specs.Frames.{AreFrames, Fits, FitsLeast, IsKept, IsKeptIn, IsKeptOf, IsSeenBy, MayHave}
use Rattle.bench_judge.specs.declared.frame.Frame.{Frame}
use Rattle.bench_answers.proofs.Fronts.{most_grows}
use Rattle.bench_judge.proofs.Lists.{in_front}
use Rattle.bench_answers.specs.Ground.{Ground}

-- requests begin with those that events accept
abbrev pub BeginWith : Ground → List Request → List Event → Type 0
BeginWith grounds requests events = (more : List Request) × (requests ≡ requests_of grounds events ++ more)

version_by : (grounds : Ground) (requests : List Request) (events : List Event) (v : ℕ) → BeginWith grounds requests events → v ≤ most_behind grounds events
    → after (take v requests) ≡ version grounds events v
version_by grounds requests events v begins le =
    ap (λ l. after (take v l)) begins.1 ∙ ap after (take-append-le v (requests_of grounds events) begins.0 le)

-- how much of a frame's window a front has
within_front : (grounds : Ground) (k : ℕ) (all : List Event) (f : EndedFrame) (v : ℕ) → IsEnded (take k all) f → v ≤ most_behind grounds (take f.ended (take k all)) → v ≤ most_behind grounds (take k all)
within_front grounds k all f v is le =
    let lt = (in_front k f.ended all f.seen is.seen).0 in
    let same : most_behind grounds (take f.ended (take k all)) ≡ most_behind grounds (take f.ended all) = ap (most_behind grounds) (take-take f.ended k all (omega (arith, lt))) in
    omega (arith, le, same, most_grows grounds all f.ended k (omega (arith, lt)))

pub entered_as : (p q : ℕ) (x y : Extent) (a b : List ℕ) → Some (Entered p x a) ≡ Some (Entered q y b) → (p ≡ q) × (x ≡ y) × (a ≡ b)
entered_as p q x y a b is = (cc is, cc is, cc is)

pub some_as : {A : Type 0} (x y : A) → Some x ≡ Some y → x ≡ y
some_as x y is = cc is

pub same_seen : (padded : Bool) (e : Entities) (p q : ℕ) (s t : Extent) (a b : List ℕ) (x y : Event) → p ≡ q → s ≡ t → a ≡ b → x ≡ y
    → IsSeenAs padded (meaning e p a) s x → IsSeenAs padded (meaning e q b) t y
same_seen padded e p q s t a b x y port extent bytes seen shows =
    subst (λ z. IsSeenAs padded (meaning e q b) t z) seen (subst (λ u. IsSeenAs padded (meaning e q b) u x) extent
    (subst (λ c. IsSeenAs padded (meaning e q c) s x) bytes (subst (λ r. IsSeenAs padded (meaning e r a) s x) port shows)))

module _ (grounds : Ground) (k : ℕ) (all : List Event) (requests : List Request) (begins : BeginWith grounds requests (take k all)) where
  abbrev pub events : List Event
  events = take k all

  pub may_have : {padded : Bool} (f : EndedFrame) (frame : Frame) (v : ℕ) → IsEnded events f → IsKept grounds events f frame → IsVersionOf grounds padded events f v → MayHave padded all requests frame v
  may_have {padded} f frame v is kept version =
      record {
        least = omega (arith, kept.least, version.least);
        most = omega (arith, kept.most, version.most);
        seen = record {
          port = f.port;
          extent = f.extent;
          bytes = f.bytes;
          entered = ap (slice_get all) kept.sent ∙ (in_front k f.sent all (Entered f.port f.extent f.bytes) is.entered).1;
          end = f.ended;
          ended = kept.ended;
          seen = f.seen;
          at_end = (in_front k f.ended all f.seen is.seen).1;
          shows = subst (λ e. IsSeenAs padded (meaning e f.port f.bytes) f.extent f.seen) (sym (version_by grounds requests events v begins (within_front grounds k all f v is version.most))) version.seen;
        };
      }

  version_of : {padded : Bool} (f : EndedFrame) (frame : Frame) (v : ℕ) → IsEnded events f → IsKept grounds events f frame → MayHave padded all requests frame v → IsVersionOf grounds padded events f v
  version_of {padded} f frame v is kept may =
      let most : v ≤ most_behind grounds (take f.ended events) = omega (arith, kept.most, may.most) in
      let s : IsSeenBy padded all frame (after (take v requests)) = may.seen in
      let sent = entered_as s.port f.port s.extent f.extent s.bytes f.bytes (sym s.entered ∙ ap (slice_get all) kept.sent ∙ (in_front k f.sent all (Entered f.port f.extent f.bytes) is.entered).1) in
      let end = some_as s.end f.ended (sym s.ended ∙ kept.ended) in
      let seen = some_as s.seen f.seen (sym s.at_end ∙ ap (slice_get all) end ∙ (in_front k f.ended all f.seen is.seen).1) in
      record {
        least = omega (arith, kept.least, may.least);
        most = most;
        seen = subst (λ e. IsSeenAs padded (meaning e f.port f.bytes) f.extent f.seen) (version_by grounds requests events v begins (within_front grounds k all f v is most))
            (same_seen padded (after (take v requests)) s.port f.port s.extent f.extent s.bytes f.bytes s.seen f.seen sent.0 sent.1 sent.2 seen s.shows);
      }

  pub fits_of_choice : {padded : Bool} (unordered : Bool) (frames : List Frame) (versions : ℕ → ℕ) → AreFrames grounds events frames
      → IsChoice grounds padded unordered events versions → Fits padded unordered all requests frames versions
  fits_of_choice {padded} unordered frames versions are choice =
      record {
        each = λ n frame at ended.
            let o : IsKeptOf grounds events n frame = are.only n frame at ended in
            may_have o.f frame (versions n) o.is o.kept (subst (λ m. IsVersionOf grounds padded events o.f (versions m)) o.number (choice.each o.f o.is));
        ordered = λ order m n one other at_m at_n ended_m ended_n port lt.
            let o : IsKeptOf grounds events m one = are.only m one at_m ended_m in
            let p : IsKeptOf grounds events n other = are.only n other at_n ended_n in
            let le : versions o.f.number ≤ versions p.f.number =
            choice.ordered order o.f p.f o.is p.is (sym o.kept.port ∙ port ∙ p.kept.port) (omega (arith, o.number, p.number, lt)) in
            omega (arith, le, ap versions o.number, ap versions p.number);
      }

  pub choice_of_fits : {padded : Bool} (unordered : Bool) (frames : List Frame) (versions : ℕ → ℕ) → AreFrames grounds events frames
      → Fits padded unordered all requests frames versions → IsChoice grounds padded unordered events versions
  choice_of_fits unordered frames versions are fits =
      record {
        each = λ f is.
            let o : IsKeptIn grounds events frames f = are.each f is in
            version_of f o.frame (versions f.number) is o.kept (fits.each f.number o.frame o.at (ap is_some o.kept.ended));
        ordered = λ order f g is_f is_g port lt.
            let o : IsKeptIn grounds events frames f = are.each f is_f in
            let p : IsKeptIn grounds events frames g = are.each g is_g in
            fits.ordered order f.number g.number o.frame p.frame o.at p.at (ap is_some o.kept.ended) (ap is_some p.kept.ended)
            (o.kept.port ∙ port ∙ sym p.kept.port) lt;
      }

  pub least_of_fits : {padded : Bool} (unordered : Bool) (frames : List Frame) (versions : ℕ → ℕ) → AreFrames grounds events frames
      → FitsLeast padded unordered all requests frames versions → IsLeastChoice grounds padded unordered events versions
  least_of_fits unordered frames versions are fits =
      record {
        choice = choice_of_fits unordered frames versions are fits.fits;
        least = λ other choice f is.
            let o : IsKeptIn grounds events frames f = are.each f is in
            fits.least other (fits_of_choice unordered frames other are choice) f.number o.frame o.at (ap is_some o.kept.ended);
      }
