-- No frame is told as lost that a frame may be which left and was passed over.
use Rattle.std.proofs.Common.{◌≡◌, ◌≤◌, ◌<◌, ◌&&◌, ◌++◌, ◌∷◌, ℕ, zero, suc, Bool, true, false, not, List, [], Option, Some, None, length, length-append, refl, ap, ◌∙◌, arith}
use Rattle.std.specs.Prelude.{if◌then◌else◌, nat_le, nat_lt, slice_get}
use Rattle.std.proofs.lemmas.Bool.{le-leb, leb-false, leb-true}
use Rattle.omci_msg.specs.Message.{acknowledges, type_of}
use Rattle.bench_history.specs.declared.gem.SeenGem.{SeenGem}
use Rattle.bench_record.specs.Matching.{SentFrame, candidates, is_doubtful, later, leave_at}
use Rattle.bench_record.specs.Messages.{is_managing, message_of}
use Rattle.bench_record.specs.Moments.{Sourced, moment, moment_of_frame, rank_at, rank_of_message}
use Rattle.bench_record.specs.Order.{in_order}
use Rattle.bench_record.specs.Recorded.{Seen, core_in, early, enter, frames_from, hide, is_missed, is_passed_over, is_unread, is_watched, leave_as, leave_by, leave_doubtful, is_by, may_be_hidden, nothing_seen, other, see, see_at, see_message, see_reply, seen_from, seen_in, strayed, unread, unwritable, with_events, without_number}
use Rattle.bench_record.specs.declared.captured.Capture.{Capture}
use Rattle.bench_record.specs.declared.captured.Tap.{Tap}
use Rattle.bench_record.specs.declared.captured.Tap.TheVariants.{Omci, Into, OutOf}
use Rattle.bench_record.specs.declared.settings.RecordSettings.{RecordSettings}
use Rattle.bench_record.proofs.Orders.{AtLeast, Rises, in_order_rises}

-- ---- elements by their places

got_push : {X : Type 0} (A : Type 0) (xs : List X) (y : X) (i : ℕ) (a : X) → slice_get (xs ++ y ∷ []) i ≡ Some a
    → (slice_get xs i ≡ Some a → A) → (i ≡ length xs → y ≡ a → A) → A
got_push A [] y zero a is old new = new refl cc
got_push A [] y (suc i) a is old new = cc is
got_push A (x ∷ xs) y zero a is old new = old is
got_push A (x ∷ xs) y (suc i) a is old new = got_push A xs y i a is old (λ at same. new (ap (λ k. suc k) at) same)

got_within : {X : Type 0} (xs : List X) (i : ℕ) (a : X) → slice_get xs i ≡ Some a → i < length xs
got_within [] i a is = cc is
got_within (x ∷ xs) zero a is = omega arith
got_within (x ∷ xs) (suc i) a is = omega (arith, got_within xs i a is)

got_earlier : {X : Type 0} (A : Type 0) (xs : List X) (j i : ℕ) (a : X) → j ≤ i → slice_get xs i ≡ Some a → ((b : X) → slice_get xs j ≡ Some b → A) → A
got_earlier A [] j i a within is go = cc is
got_earlier A (x ∷ xs) zero i a within is go = go x refl
got_earlier A (x ∷ xs) (suc j) zero a within is go = absurd (omega (arith, within))
got_earlier A (x ∷ xs) (suc j) (suc i) a within is go = got_earlier A xs j i a (omega (arith, within)) is go

-- ---- what was hidden and sent up to a moment

-- hidden frames are in order, and those before a frame that was sent are earlier
pub record AreOrdered (m : ℕ) (hidden : List ℕ) (sent : List SentFrame) : Type 0 where
  pub rise : (i j a b : ℕ) → i ≤ j → slice_get hidden i ≡ Some a → slice_get hidden j ≡ Some b → a ≤ b
  pub past : (i a : ℕ) → slice_get hidden i ≡ Some a → moment a 4 ≤ m
  pub count : (n : ℕ) (x : SentFrame) → slice_get sent n ≡ Some x → x.hidden_before ≤ length hidden
  pub before : (n : ℕ) (x : SentFrame) (i a : ℕ) → slice_get sent n ≡ Some x → i < x.hidden_before → slice_get hidden i ≡ Some a → a < x.time

later_ordered : (m more : ℕ) (hidden : List ℕ) (sent : List SentFrame) → m ≤ more → AreOrdered m hidden sent → AreOrdered more hidden sent
later_ordered m more hidden sent within are =
    record { rise = are.rise; past = λ i a is. omega (arith, are.past i a is, within); count = are.count; before = are.before }

hidden_more : (m t : ℕ) (hidden : List ℕ) (sent : List SentFrame) → m ≤ moment t 4 → AreOrdered m hidden sent → AreOrdered (moment t 4) (hidden ++ t ∷ []) sent
hidden_more m t hidden sent within are =
    record {
      rise = λ i j a b less at_i at_j.
          got_push (a ≤ b) hidden t j b at_j
          (λ old_j. got_push (a ≤ b) hidden t i a at_i (λ old_i. are.rise i j a b less old_i old_j)
          (λ last same. absurd (omega (arith, less, last, got_within hidden j b old_j))))
          (λ last_j same_j. got_push (a ≤ b) hidden t i a at_i (λ old_i. omega (arith, are.past i a old_i, within, same_j))
          (λ last_i same_i. omega (arith, same_i, same_j)));
      past = λ i a is. got_push (moment a 4 ≤ moment t 4) hidden t i a is (λ old. omega (arith, are.past i a old, within)) (λ last same. omega (arith, same));
      count = λ n x is. omega (arith, are.count n x is, length-append hidden (t ∷ []));
      before = λ n x i a is less at_i.
          got_push (a < x.time) hidden t i a at_i (λ old. are.before n x i a is less old)
          (λ last same. absurd (omega (arith, less, last, are.count n x is)));
    }

sent_more : (m t : ℕ) (hidden : List ℕ) (sent : List SentFrame) (x : SentFrame) → m ≤ moment t 1 → x.time ≡ t → x.hidden_before ≡ length hidden
    → AreOrdered m hidden sent → AreOrdered (moment t 1) hidden (sent ++ x ∷ [])
sent_more m t hidden sent x within time count are =
    record {
      rise = are.rise;
      past = λ i a is. omega (arith, are.past i a is, within);
      count = λ n y is.
          got_push (y.hidden_before ≤ length hidden) sent x n y is (λ old. are.count n y old)
          (λ last same. omega (arith, ap (λ (z : SentFrame). z.hidden_before) same, count));
      before = λ n y i a is less at_i.
          got_push (a < y.time) sent x n y is (λ old. are.before n y i a old less at_i)
          (λ last same. omega (arith, are.past i a at_i, within, time, ap (λ (z : SentFrame). z.time) same));
    }

abbrev time_in : Option SentFrame → ℕ
time_in (Some x) = x.time
time_in None = 0

abbrev before_in : Option SentFrame → ℕ
before_in (Some x) = x.hidden_before
before_in None = 0

got_left : (A : Type 0) (n : ℕ) (sent : List SentFrame) (k : ℕ) (x : SentFrame) → slice_get (leave_at n sent) k ≡ Some x
    → ((y : SentFrame) → slice_get sent k ≡ Some y → y.time ≡ x.time → y.hidden_before ≡ x.hidden_before → A) → A
got_left A n [] k x is go = cc is
got_left A zero (z ∷ sent) zero x is go = go z refl (ap time_in is) (ap before_in is)
got_left A zero (z ∷ sent) (suc k) x is go = go x is refl refl
got_left A (suc n) (z ∷ sent) zero x is go = go x is refl refl
got_left A (suc n) (z ∷ sent) (suc k) x is go = got_left A n sent k x is go

left_ordered : (m n : ℕ) (hidden : List ℕ) (sent : List SentFrame) → AreOrdered m hidden sent → AreOrdered m hidden (leave_at n sent)
left_ordered m n hidden sent are =
    record {
      rise = are.rise;
      past = are.past;
      count = λ k x is.
          got_left (x.hidden_before ≤ length hidden) n sent k x is (λ y old time before. omega (arith, are.count k y old, before));
      before = λ k x i a is less at_i.
          got_left (a < x.time) n sent k x is (λ y old time before. omega (arith, are.before k y i a old (omega (arith, less, before)) at_i, time));
    }

-- ---- one captured frame

abbrev Good : ℕ → Seen → Type 0
Good m seen = AreOrdered m seen.hidden seen.frames.sent

by_if : (m : ℕ) (b : Bool) (x y : Seen) → Good m x → Good m y → Good m (if b then x else y)
by_if m true x y good_x good_y = good_x
by_if m false x y good_x good_y = good_y

message_good : (s : RecordSettings) (at : Sourced) (m : ℕ) (seen : Seen) (message : Option (List ℕ)) → Good m seen → Good m (see_message s at message seen)
message_good s at m seen (Some message) good =
    by_if m (acknowledges (type_of message)) (see_reply s at message seen) _ (by_if m (nat_lt seen.replies 4294967295) _ (unwritable at.source seen) good good) good
message_good s at m seen None good = by_if m (is_managing at.frame.bytes.now) (unread at.source seen) (other at.source seen) good good

enter_good : (s : RecordSettings) (at : Sourced) (port m : ℕ) (seen : Seen) → m ≤ moment at.frame.time 1 → Good m seen
    → Good (moment at.frame.time 1) (enter s at port seen)
enter_good s at port m seen within good =
    let m' = moment at.frame.time 1 in
    let as_ever = later_ordered m m' seen.hidden seen.frames.sent within good in
    by_if m' (is_unread at.frame.extent at.frame.bytes.now) (unread at.source (without_number at.frame.time seen)) _ as_ever
    (by_if m' (nat_lt (length seen.frames.sent) 4294967296) _ (unwritable at.source (without_number at.frame.time seen))
    (sent_more m at.frame.time seen.hidden seen.frames.sent _ within refl refl good) as_ever)

doubtful_good : (at : Sourced) (gem : SeenGem) (numbers : List ℕ) (m : ℕ) (seen : Seen) → m ≤ moment at.frame.time 4 → Good m seen
    → Good (moment at.frame.time 4) (leave_doubtful at gem numbers seen)
doubtful_good at gem numbers m seen within good =
    let m' = moment at.frame.time 4 in
    by_if m' (nat_lt 900 (length numbers)) (unwritable at.source (hide at.frame.time seen)) _
    (hidden_more m at.frame.time seen.hidden seen.frames.sent within good) (later_ordered m m' seen.hidden seen.frames.sent within good)

leave_good : (s : RecordSettings) (captures : List Capture) (at : Sourced) (gem : SeenGem) (numbers : List ℕ) (m : ℕ) (seen : Seen)
    → m ≤ moment at.frame.time 4 → Good m seen → Good (moment at.frame.time 4) (leave_by s captures at gem numbers seen)
leave_good s captures at gem [] m seen within good =
    let as_ever = later_ordered m (moment at.frame.time 4) seen.hidden seen.frames.sent within good in
    by_if (moment at.frame.time 4) _ (early at.source seen) (with_events (seen_in at (strayed gem at) ∷ []) seen) as_ever as_ever
leave_good s captures at gem (n ∷ []) m seen within good =
    let m' = moment at.frame.time 4 in
    by_if m' (is_doubtful seen.frames.named n) (leave_doubtful at gem (n ∷ []) seen) (leave_as n at gem seen)
    (doubtful_good at gem (n ∷ []) m seen within good)
    (left_ordered m' n seen.hidden seen.frames.sent (later_ordered m m' seen.hidden seen.frames.sent within good))
leave_good s captures at gem (k ∷ n ∷ more) m seen within good = doubtful_good at gem (k ∷ n ∷ more) m seen within good

see_good : (s : RecordSettings) (captures : List Capture) (at : Sourced) (tap : Tap) (m : ℕ) (seen : Seen)
    → m ≤ moment at.frame.time (rank_at tap at.frame.bytes.now) → Good m seen
    → Good (moment at.frame.time (rank_at tap at.frame.bytes.now)) (see_at s captures at tap seen)
see_good s captures at Omci m seen within good =
    let m' = moment at.frame.time (rank_of_message (message_of at.frame.bytes.now)) in
    message_good s at m' seen (message_of at.frame.bytes.now) (later_ordered m m' seen.hidden seen.frames.sent within good)
see_good s captures at (Into port) m seen within good = enter_good s at port m seen within good
see_good s captures at (OutOf gem) m seen within good =
    let m' = moment at.frame.time 4 in
    let hidden = hidden_more m at.frame.time seen.hidden seen.frames.sent within good in
    by_if m' (is_unread at.frame.extent at.frame.bytes.now) (unread at.source (hide at.frame.time seen)) _ hidden
    (by_if m' (is_passed_over s captures at.frame.time) (early at.source (hide at.frame.time seen)) _ hidden
    (leave_good s captures at gem (candidates s.lost at.frame.time (core_in s at.frame) seen.frames) m seen within good))

-- ---- all of them

all_good : (s : RecordSettings) (captures : List Capture) (frames : List Sourced) (m : ℕ) (seen : Seen) → AtLeast moment_of_frame m frames
    → Rises moment_of_frame frames → Good m seen → (more : ℕ) × Good more (seen_from s captures seen frames)
all_good s captures [] m seen low up good = (m, good)
all_good s captures (x ∷ frames) m seen low up good =
    all_good s captures frames (moment_of_frame x) (see s captures x seen) up.0 up.1 (see_good s captures x x.frame.tap m seen low.0 good)

low_all : (frames : List Sourced) → AtLeast moment_of_frame 0 frames
low_all [] = tt
low_all (x ∷ frames) = (omega arith, low_all frames)

good_first : Good 0 nothing_seen
good_first = record {
  rise = λ i j a b less at_i at_j. cc at_i;
  past = λ i a is. cc is;
  count = λ n x is. cc is;
  before = λ n x i a is less at_i. cc is;
}

not_missed : (p q h w : Bool) → h ≡ true → (p && q && not h && w) ≡ false
not_missed false q h w is = refl
not_missed true false h w is = refl
not_missed true true true w is = refl
not_missed true true false w is = cc is

-- what captures show
abbrev pub seen_of : RecordSettings → List Capture → Seen
seen_of s captures = seen_from s captures nothing_seen (in_order moment_of_frame (frames_from 0 captures))

-- a frame that left and was passed over may be each that was sent no later and would be lost no earlier: none of these is told as lost
pub not_told : (s : RecordSettings) (captures : List Capture) (lost n i t : ℕ) (x : SentFrame) → slice_get (seen_of s captures).frames.sent n ≡ Some x
    → slice_get (seen_of s captures).hidden i ≡ Some t → x.time ≤ t → t ≤ later x.time lost
    → is_missed lost captures (seen_of s captures).hidden (seen_of s captures).frames.named n x ≡ false
not_told s captures lost n i t x sent left after by =
    let seen = seen_of s captures in
    let frames = in_order moment_of_frame (frames_from 0 captures) in
    let good = (all_good s captures frames 0 nothing_seen (low_all frames) (in_order_rises moment_of_frame (frames_from 0 captures)) good_first).1 in
    not_missed (not x.has_left) (not (is_doubtful seen.frames.named n)) (may_be_hidden lost seen.hidden x) (is_watched lost captures x.time)
    (here seen.hidden seen.frames.sent good sent left (nat_le x.hidden_before i) refl)
  where
    here : {m : ℕ} (hidden : List ℕ) (all : List SentFrame) → AreOrdered m hidden all → slice_get all n ≡ Some x → slice_get hidden i ≡ Some t
        → (b : Bool) → nat_le x.hidden_before i ≡ b → may_be_hidden lost hidden x ≡ true
    here hidden all are is at true found =
        got_earlier (may_be_hidden lost hidden x ≡ true) hidden x.hidden_before i t (leb-true x.hidden_before i found) at
        (λ b first.
        ap (λ (o : Option ℕ). is_by (later x.time lost) o) first
        ∙ le-leb b (later x.time lost) (omega (arith, by, are.rise x.hidden_before i b t (leb-true x.hidden_before i found) first at)))
    here hidden all are is at false found =
        absurd (omega (arith, after, are.before n x i t is (omega (arith, leb-false x.hidden_before i found)) at))
