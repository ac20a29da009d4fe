-- What the walk keeps, step by step.
use Rattle.std.proofs.Common.{◌≡◌, ◌≤◌, ◌<◌, ℕ, zero, suc, ◌+◌, ◌||◌, Bool, true, false, cond, List, [], ◌∷◌, ◌++◌, append_assoc, length, map, drop, take, get_or, Option, Some, None, Global, Vec, refl, ap, sym, ◌∙◌, arith, subst}
use Rattle.std.specs.Prelude.{filter, nat_lt, if◌then◌else◌, slice_set}
use Rattle.std.specs.List.{list_all}
use Rattle.std.specs.List.Sorted.{IsNonDecreasingBy}
use Rattle.std.proofs.Math.Seq.{drop-cons}
use Rattle.std.proofs.lemmas.Bool.{and_parts, le-ltb, lt-ltb}
use Rattle.std.proofs.lemmas.List.{append-nil, get_or_default, map_more, map_push}
use Rattle.omci_msg.specs.Message.{acknowledges, type_of}
use Rattle.bench_history.specs.Doubts.{IsDoubted}
use Rattle.bench_history.specs.declared.event.Event.TheVariants.{Sent, Replied, Entered, Lost}
use Rattle.bench_history.specs.declared.gem.SeenGem.{SeenGem}
use Rattle.bench_record.specs.Index.{IsSeen, kept_shown, passed_shown, queue_of}
use Rattle.bench_record.specs.Matching.{SentFrame, candidates, is_doubtful, is_open, later, leave_at}
use Rattle.bench_record.specs.Messages.{is_managing, message_of}
use Rattle.bench_record.specs.Moments.{Sourced, Timed, moment_of_frame, rank_at, rank_of, rank_of_message}
use Rattle.bench_record.specs.Recorded.{PassedOver, Seen, core_in, early, enter, extent_within, hide, is_early, is_missed, is_passed_over, is_unread, leave, leave_as, leave_by, leave_doubtful, leave_unmatched, left_one_of, longest_frame, losses_from, may_be_unnumbered, nothing_seen, other, see, see_message, see_reply, seen_from, seen_in, strayed, unread, unwritable, waits, with_events, with_frame, without_number}
use Rattle.bench_record.specs.Text.{timed_shown}
use Rattle.bench_record.specs.Walk.{sourced_shown, sure_of}
use Rattle.bench_record.specs.declared.captured.Capture.{Capture}
use Rattle.bench_record.specs.declared.captured.Source.{Source}
use Rattle.bench_record.specs.declared.captured.Tap.{Tap}
use Rattle.bench_record.specs.declared.captured.Tap.TheVariants.{Omci, Into, OutOf}
use Rattle.bench_record.specs.declared.core_key.CoreKey.{CoreKey}
use Rattle.bench_record.specs.declared.event.TimedEvent.{TimedEvent}
use Rattle.bench_record.specs.declared.matching.KeptFrame.{KeptFrame}
use Rattle.bench_record.specs.declared.passed.Passed.{Passed}
use Rattle.bench_record.specs.declared.settings.RecordSettings.{RecordSettings}
use Rattle.bench_record.specs.declared.walk.Sourced as given
use Rattle.bench_record.specs.declared.walk.Walk.{Walk}
use Rattle.bench_record.proofs.Indexes.{index_later}

-- ---- one step more

pub events_more : (old new : List TimedEvent) (x : TimedEvent) (events : List Timed) → new ≡ old ++ x ∷ [] → map timed_shown old ≡ events
    → map timed_shown new ≡ events ++ timed_shown x ∷ []
events_more old new x events pushed is =
    ap (λ (xs : List TimedEvent). map timed_shown xs) pushed ∙ map_push timed_shown old x ∙ ap (λ (xs : List Timed). xs ++ timed_shown x ∷ []) is

abbrev passed_by : List Source → List Source → List Source → List Source → PassedOver
passed_by others unreads earlies unwritables = record { other = others; unread = unreads; early = earlies; unwritable = unwritables }

pub other_more : (old : Passed) (new : Vec Source Global) (source : Source) (passed : PassedOver) → new.items ≡ old.other.items ++ source ∷ []
    → passed_shown old ≡ passed → passed_shown (record old { other = new }) ≡ record passed { other = passed.other ++ source ∷ [] }
other_more old new source passed pushed is =
    ap (λ (xs : List Source). passed_by xs old.unread.items old.early.items old.unwritable.items) pushed
    ∙ ap (λ (p : PassedOver). record p { other = p.other ++ source ∷ [] }) is

pub unread_more : (old : Passed) (new : Vec Source Global) (source : Source) (passed : PassedOver) → new.items ≡ old.unread.items ++ source ∷ []
    → passed_shown old ≡ passed → passed_shown (record old { unread = new }) ≡ record passed { unread = passed.unread ++ source ∷ [] }
unread_more old new source passed pushed is =
    ap (λ (xs : List Source). passed_by old.other.items xs old.early.items old.unwritable.items) pushed
    ∙ ap (λ (p : PassedOver). record p { unread = p.unread ++ source ∷ [] }) is

pub early_more : (old : Passed) (new : Vec Source Global) (source : Source) (passed : PassedOver) → new.items ≡ old.early.items ++ source ∷ []
    → passed_shown old ≡ passed → passed_shown (record old { early = new }) ≡ record passed { early = passed.early ++ source ∷ [] }
early_more old new source passed pushed is =
    ap (λ (xs : List Source). passed_by old.other.items old.unread.items xs old.unwritable.items) pushed
    ∙ ap (λ (p : PassedOver). record p { early = p.early ++ source ∷ [] }) is

pub unwritable_more : (old : Passed) (new : Vec Source Global) (source : Source) (passed : PassedOver) → new.items ≡ old.unwritable.items ++ source ∷ []
    → passed_shown old ≡ passed → passed_shown (record old { unwritable = new }) ≡ record passed { unwritable = passed.unwritable ++ source ∷ [] }
unwritable_more old new source passed pushed is =
    ap (λ (xs : List Source). passed_by old.other.items old.unread.items old.early.items xs) pushed
    ∙ ap (λ (p : PassedOver). record p { unwritable = p.unwritable ++ source ∷ [] }) is

-- nothing at all
pub nothing_kept : (lost : Option ℕ) (walk : Walk) → walk.sent.items ≡ [] → ((key : CoreKey) → queue_of walk.waiting key ≡ []) → IsDoubted [] walk.doubts
    → walk.replies ≡ 0 → walk.events.items ≡ [] → walk.passed.other.items ≡ [] → walk.passed.unread.items ≡ [] → walk.passed.early.items ≡ []
    → walk.passed.unwritable.items ≡ [] → walk.hidden.items ≡ [] → walk.unnumbered ≡ None → IsSeen lost 0 nothing_seen walk
nothing_kept lost walk sent waiting doubts replies events others unreads earlies unwritables hidden unnumbered = record {
  sent = ap (λ (xs : List KeptFrame). map kept_shown xs) sent;
  waiting = record {
    within = λ key. ap (λ (queue : List ℕ). list_all (λ n. nat_lt n 0) queue) (waiting key);
    still_open = λ key t later. ap (λ (queue : List ℕ). filter (is_open lost t nothing_seen.frames) queue) (waiting key);
  };
  doubts = doubts;
  long = refl;
  replies = replies;
  events = ap (λ (xs : List TimedEvent). map timed_shown xs) events;
  passed =
      ap (λ (xs : List Source). passed_by xs walk.passed.unread.items walk.passed.early.items walk.passed.unwritable.items) others
      ∙ ap (λ (xs : List Source). passed_by [] xs walk.passed.early.items walk.passed.unwritable.items) unreads
      ∙ ap (λ (xs : List Source). passed_by [] [] xs walk.passed.unwritable.items) earlies
      ∙ ap (λ (xs : List Source). passed_by [] [] [] xs) unwritables;
  hidden = hidden;
  unnumbered = unnumbered;
}

-- a later time
pub seen_later : (lost : Option ℕ) (since time : ℕ) (seen : Seen) (walk : Walk) → since ≤ time → IsSeen lost since seen walk → IsSeen lost time seen walk
seen_later lost since time seen walk within is = record {
  sent = is.sent;
  waiting = index_later lost since time walk.shortest seen.frames walk.waiting within is.waiting;
  doubts = is.doubts;
  long = is.long;
  replies = is.replies;
  events = is.events;
  passed = is.passed;
  hidden = is.hidden;
  unnumbered = is.unnumbered;
}

-- what is seen, said otherwise
pub seen_as : (lost : Option ℕ) (time : ℕ) (old new : Seen) (walk : Walk) → old ≡ new → IsSeen lost time old walk → IsSeen lost time new walk
seen_as lost time old new walk same is = subst (λ (seen : Seen). IsSeen lost time seen walk) same is

-- ---- messages

pub no_wait : (seen : Seen) → seen ≡ with_events [] seen
no_wait seen = ap (λ (events : List Timed). record seen { events = events }) (sym (append-nil seen.events))

pub reply_full : (s : RecordSettings) (at : Sourced) (reply : List ℕ) (seen : Seen) → 4294967295 ≤ seen.replies
    → unwritable at.source seen ≡ see_reply s at reply seen
reply_full s at reply seen full = rw (le-ltb seen.replies 4294967295 full) refl

events_join : (x : Timed) (more : List Timed) (seen : Seen) → with_events more (with_events (x ∷ []) seen) ≡ with_events (x ∷ more) seen
events_join x more seen = ap (λ (events : List Timed). record seen { events = events }) (append_assoc seen.events (x ∷ []) more)

pub reply_more : (s : RecordSettings) (at : Sourced) (reply : List ℕ) (seen : Seen) → seen.replies < 4294967295
    → with_events (waits s.wait at.frame.time (seen.replies + 1)) (with_events (seen_in at (Replied reply) ∷ []) (record seen { replies = seen.replies + 1 }))
    ≡ see_reply s at reply seen
reply_more s at reply seen few =
    rw (lt-ltb seen.replies 4294967295 few)
    (events_join (seen_in at (Replied reply)) (waits s.wait at.frame.time (seen.replies + 1)) (record seen { replies = seen.replies + 1 }))

pub message_reply : (s : RecordSettings) (at : Sourced) (message : List ℕ) (seen : Seen) → Some message ≡ message_of at.frame.bytes.now
    → acknowledges (type_of message) ≡ true → see_reply s at message seen ≡ see_message s at (message_of at.frame.bytes.now) seen
message_reply s at message seen is acks =
    sym (ap (λ (b : Bool). if b then see_reply s at message seen else with_events (seen_in at (Sent message) ∷ []) seen) acks)
    ∙ ap (λ (m : Option (List ℕ)). see_message s at m seen) is

pub message_sent : (s : RecordSettings) (at : Sourced) (message : List ℕ) (seen : Seen) → Some message ≡ message_of at.frame.bytes.now
    → acknowledges (type_of message) ≡ false → with_events (seen_in at (Sent message) ∷ []) seen ≡ see_message s at (message_of at.frame.bytes.now) seen
message_sent s at message seen is acks =
    sym (ap (λ (b : Bool). if b then see_reply s at message seen else with_events (seen_in at (Sent message) ∷ []) seen) acks)
    ∙ ap (λ (m : Option (List ℕ)). see_message s at m seen) is

pub message_unread : (s : RecordSettings) (at : Sourced) (seen : Seen) → None ≡ message_of at.frame.bytes.now → is_managing at.frame.bytes.now ≡ true
    → unread at.source seen ≡ see_message s at (message_of at.frame.bytes.now) seen
message_unread s at seen is manages =
    sym (ap (λ (b : Bool). if b then unread at.source seen else other at.source seen) manages)
    ∙ ap (λ (m : Option (List ℕ)). see_message s at m seen) is

pub message_other : (s : RecordSettings) (at : Sourced) (seen : Seen) → None ≡ message_of at.frame.bytes.now → is_managing at.frame.bytes.now ≡ false
    → other at.source seen ≡ see_message s at (message_of at.frame.bytes.now) seen
message_other s at seen is manages =
    sym (ap (λ (b : Bool). if b then unread at.source seen else other at.source seen) manages)
    ∙ ap (λ (m : Option (List ℕ)). see_message s at m seen) is

-- ---- frames that are sent

abbrev entered_in : RecordSettings → Sourced → ℕ → Seen → Seen
entered_in s at port seen =
    let frame = at.frame in
    with_events (seen_in at (Entered port (extent_within longest_frame frame.extent frame.bytes.now) (take longest_frame frame.bytes.now)) ∷ [])
    (with_frame (record { time = frame.time; core = core_in s frame; has_left = false; hidden_before = length seen.hidden }) seen)

abbrev enter_by : RecordSettings → Sourced → ℕ → Seen → Bool → Bool → Seen
enter_by s at port seen short few =
    if short then unread at.source (without_number at.frame.time seen)
    else if few then entered_in s at port seen else unwritable at.source (without_number at.frame.time seen)

pub enter_unread : (s : RecordSettings) (at : Sourced) (port : ℕ) (seen : Seen) → is_unread at.frame.extent at.frame.bytes.now ≡ true
    → unread at.source (without_number at.frame.time seen) ≡ enter s at port seen
enter_unread s at port seen short = sym (ap (λ (b : Bool). enter_by s at port seen b (nat_lt (length seen.frames.sent) 4294967296)) short)

pub enter_full : (s : RecordSettings) (at : Sourced) (port : ℕ) (seen : Seen) → is_unread at.frame.extent at.frame.bytes.now ≡ false
    → 4294967296 ≤ length seen.frames.sent → unwritable at.source (without_number at.frame.time seen) ≡ enter s at port seen
enter_full s at port seen short full =
    sym (ap (λ (b : Bool). enter_by s at port seen b (nat_lt (length seen.frames.sent) 4294967296)) short
    ∙ ap (λ (b : Bool). enter_by s at port seen false b) (le-ltb (length seen.frames.sent) 4294967296 full))

pub enter_is : (s : RecordSettings) (at : Sourced) (port : ℕ) (seen : Seen) → is_unread at.frame.extent at.frame.bytes.now ≡ false
    → length seen.frames.sent < 4294967296 → entered_in s at port seen ≡ enter s at port seen
enter_is s at port seen short few =
    sym (ap (λ (b : Bool). enter_by s at port seen b (nat_lt (length seen.frames.sent) 4294967296)) short
    ∙ ap (λ (b : Bool). enter_by s at port seen false b) (lt-ltb (length seen.frames.sent) 4294967296 few))

-- how many were sent
pub same_count : (lost : Option ℕ) (since : ℕ) (seen : Seen) (walk : Walk) → IsSeen lost since seen walk → length seen.frames.sent ≡ length walk.sent.items
same_count lost since seen walk is = sym (ap (λ (xs : List SentFrame). length xs) is.sent) ∙ mapped walk.sent.items
  where
    mapped : (xs : List KeptFrame) → length (map kept_shown xs) ≡ length xs
    mapped [] = refl
    mapped (x ∷ xs) = ap (λ n. suc n) (mapped xs)

-- ---- frames that leave

abbrev leave_if : RecordSettings → List Capture → Sourced → SeenGem → Seen → Bool → Bool → List ℕ → Seen
leave_if s captures at gem seen short before numbers =
    if short then unread at.source (hide at.frame.time seen)
    else if before then early at.source (hide at.frame.time seen) else leave_by s captures at gem numbers seen

pub leave_unread : (s : RecordSettings) (captures : List Capture) (at : Sourced) (gem : SeenGem) (seen : Seen)
    → is_unread at.frame.extent at.frame.bytes.now ≡ true → unread at.source (hide at.frame.time seen) ≡ leave s captures at gem seen
leave_unread s captures at gem seen short =
    sym (ap (λ (b : Bool).
    leave_if s captures at gem seen b (is_passed_over s captures at.frame.time) (candidates s.lost at.frame.time (core_in s at.frame) seen.frames)) short)

pub leave_passed_over : (s : RecordSettings) (captures : List Capture) (at : Sourced) (gem : SeenGem) (seen : Seen)
    → is_unread at.frame.extent at.frame.bytes.now ≡ false → is_passed_over s captures at.frame.time ≡ true
    → early at.source (hide at.frame.time seen) ≡ leave s captures at gem seen
leave_passed_over s captures at gem seen short before =
    let numbers = candidates s.lost at.frame.time (core_in s at.frame) seen.frames in
    sym (ap (λ (b : Bool). leave_if s captures at gem seen b (is_passed_over s captures at.frame.time) numbers) short
    ∙ ap (λ (b : Bool). leave_if s captures at gem seen false b numbers) before)

pub leave_found : (s : RecordSettings) (captures : List Capture) (at : Sourced) (gem : SeenGem) (seen : Seen) (numbers : List ℕ)
    → is_unread at.frame.extent at.frame.bytes.now ≡ false → is_passed_over s captures at.frame.time ≡ false
    → numbers ≡ candidates s.lost at.frame.time (core_in s at.frame) seen.frames
    → leave_by s captures at gem numbers seen ≡ leave s captures at gem seen
leave_found s captures at gem seen numbers short since found =
    let all = candidates s.lost at.frame.time (core_in s at.frame) seen.frames in
    ap (λ (ns : List ℕ). leave_if s captures at gem seen false false ns) found
    ∙ sym (ap (λ (b : Bool). leave_if s captures at gem seen b (is_passed_over s captures at.frame.time) all) short
    ∙ ap (λ (b : Bool). leave_if s captures at gem seen false b all) since)

pub leave_none : (s : RecordSettings) (captures : List Capture) (at : Sourced) (gem : SeenGem) (seen : Seen) (numbers : List ℕ) → length numbers ≡ 0
    → leave_unmatched s captures at gem seen ≡ leave_by s captures at gem numbers seen
leave_none s captures at gem seen [] empty = refl
leave_none s captures at gem seen (n ∷ numbers) empty = absurd (omega (arith, empty))

pub leave_sure : (s : RecordSettings) (captures : List Capture) (at : Sourced) (gem : SeenGem) (seen : Seen) (numbers : List ℕ) (n : ℕ)
    → Some n ≡ sure_of seen.frames.named numbers → leave_as n at gem seen ≡ leave_by s captures at gem numbers seen
leave_sure s captures at gem seen [] n is = cc is
leave_sure s captures at gem seen (m ∷ []) n is = here (is_doubtful seen.frames.named m) is
  where
    here : (b : Bool) → Some n ≡ (if b then None else Some m)
        → leave_as n at gem seen ≡ (if b then leave_doubtful at gem (m ∷ []) seen else leave_as m at gem seen)
    here true is = cc is
    here false is = let same : n ≡ m = cc in ap (λ k. leave_as k at gem seen) same
leave_sure s captures at gem seen (l ∷ m ∷ more) n is = cc is

pub leave_unsure : (s : RecordSettings) (captures : List Capture) (at : Sourced) (gem : SeenGem) (seen : Seen) (numbers : List ℕ) → 0 < length numbers
    → None ≡ sure_of seen.frames.named numbers → leave_doubtful at gem numbers seen ≡ leave_by s captures at gem numbers seen
leave_unsure s captures at gem seen [] some is = absurd (omega (arith, some))
leave_unsure s captures at gem seen (m ∷ []) some is = here (is_doubtful seen.frames.named m) is
  where
    here : (b : Bool) → None ≡ (if b then None else Some m)
        → leave_doubtful at gem (m ∷ []) seen ≡ (if b then leave_doubtful at gem (m ∷ []) seen else leave_as m at gem seen)
    here true is = refl
    here false is = cc is
leave_unsure s captures at gem seen (l ∷ m ∷ more) some is = refl

-- whether a frame that leaves at a time may be one that isn't among those that were sent
abbrev pub is_another : RecordSettings → List Capture → Seen → ℕ → Bool
is_another s captures seen time = is_early s.lost captures time || may_be_unnumbered s.lost seen.unnumbered time

pub unmatched_early : (s : RecordSettings) (captures : List Capture) (at : Sourced) (gem : SeenGem) (seen : Seen)
    → is_another s captures seen at.frame.time ≡ true → early at.source seen ≡ leave_unmatched s captures at gem seen
unmatched_early s captures at gem seen is =
    sym (ap (λ (b : Bool). if b then early at.source seen else with_events (seen_in at (strayed gem at) ∷ []) seen) is)

pub unmatched_stray : (s : RecordSettings) (captures : List Capture) (at : Sourced) (gem : SeenGem) (seen : Seen)
    → is_another s captures seen at.frame.time ≡ false → with_events (seen_in at (strayed gem at) ∷ []) seen ≡ leave_unmatched s captures at gem seen
unmatched_stray s captures at gem seen is =
    sym (ap (λ (b : Bool). if b then early at.source seen else with_events (seen_in at (strayed gem at) ∷ []) seen) is)

abbrev named_in : Sourced → SeenGem → List ℕ → Seen → Seen
named_in at gem numbers seen =
    with_events (seen_in at (left_one_of numbers gem at) ∷ []) (record seen { frames = record seen.frames { named = seen.frames.named ++ numbers ∷ [] } })

pub doubtful_many : (at : Sourced) (gem : SeenGem) (numbers : List ℕ) (seen : Seen) → 900 < length numbers
    → unwritable at.source (hide at.frame.time seen) ≡ leave_doubtful at gem numbers seen
doubtful_many at gem numbers seen many =
    sym (ap (λ (b : Bool). if b then unwritable at.source (hide at.frame.time seen) else named_in at gem numbers seen) (lt-ltb 900 (length numbers) many))

pub doubtful_few : (at : Sourced) (gem : SeenGem) (numbers : List ℕ) (seen : Seen) → length numbers ≤ 900
    → named_in at gem numbers seen ≡ leave_doubtful at gem numbers seen
doubtful_few at gem numbers seen few =
    sym (ap (λ (b : Bool). if b then unwritable at.source (hide at.frame.time seen) else named_in at gem numbers seen) (le-ltb 900 (length numbers) few))

-- ---- marks

pub marked_at : (n : ℕ) (xs : List KeptFrame) (x : KeptFrame) → n < length xs → x ≡ get_or xs n x
    → map kept_shown (slice_set xs n (record { time = x.time; core = x.core; has_left = true; hidden_before = x.hidden_before })) ≡ leave_at n (map kept_shown xs)
marked_at n [] x within is = absurd (omega (arith, within))
marked_at zero (y ∷ xs) x within is =
    ap (λ (z : KeptFrame). kept_shown (record { time = z.time; core = z.core; has_left = true; hidden_before = z.hidden_before }) ∷ map kept_shown xs) is
marked_at (suc n) (y ∷ xs) x within is = ap (λ (zs : List SentFrame). kept_shown y ∷ zs) (marked_at n xs x (omega (arith, within)) is)

pub marked_past : (n : ℕ) (xs : List KeptFrame) → length xs ≤ n → map kept_shown xs ≡ leave_at n (map kept_shown xs)
marked_past n [] past = refl
marked_past zero (y ∷ xs) past = absurd (omega (arith, past))
marked_past (suc n) (y ∷ xs) past = ap (λ (zs : List SentFrame). kept_shown y ∷ zs) (marked_past n xs (omega (arith, past)))

pub kept_at : (items : List KeptFrame) (sent : List SentFrame) (n : ℕ) (x : KeptFrame) (d : SentFrame) → map kept_shown items ≡ sent → n < length items
    → x ≡ get_or items n x → kept_shown x ≡ get_or sent n d
kept_at items sent n x d same within is =
    ap kept_shown is ∙ read items n within ∙ ap (λ (xs : List SentFrame). get_or xs n d) same
  where
    read : (xs : List KeptFrame) (k : ℕ) → k < length xs → kept_shown (get_or xs k x) ≡ get_or (map kept_shown xs) k d
    read [] k inside = absurd (omega (arith, inside))
    read (y ∷ xs) zero inside = refl
    read (y ∷ xs) (suc k) inside = read xs k (omega (arith, inside))

-- ---- losses

-- the loss of one frame
abbrev pub loss_of : ℕ → List Capture → List ℕ → List (List ℕ) → ℕ → SentFrame → List Timed
loss_of lost captures hidden named n x = cond (is_missed lost captures hidden named n x) (record { time = later x.time lost; source = None; event = Lost n } ∷ []) []

losses_first : (lost : ℕ) (captures : List Capture) (hidden : List ℕ) (named : List (List ℕ)) (n : ℕ) (x : SentFrame) (sent : List SentFrame)
    → losses_from lost captures hidden named n (x ∷ sent) ≡ loss_of lost captures hidden named n x ++ losses_from lost captures hidden named (n + 1) sent
losses_first lost captures hidden named n x sent = here (is_missed lost captures hidden named n x)
  where
    here : (b : Bool)
        → cond b (record { time = later x.time lost; source = None; event = Lost n } ∷ losses_from lost captures hidden named (n + 1) sent) (losses_from lost captures hidden named (n + 1) sent)
        ≡ cond b (record { time = later x.time lost; source = None; event = Lost n } ∷ []) [] ++ losses_from lost captures hidden named (n + 1) sent
    here true = refl
    here false = refl

losses_more : (lost : ℕ) (captures : List Capture) (hidden : List ℕ) (named : List (List ℕ)) (i : ℕ) (sent : List SentFrame) (d : SentFrame) → i < length sent
    → losses_from lost captures hidden named i (drop i sent)
    ≡ loss_of lost captures hidden named i (get_or sent i d) ++ losses_from lost captures hidden named (i + 1) (drop (i + 1) sent)
losses_more lost captures hidden named i sent d within =
    let next : suc i ≡ i + 1 = omega arith in
    ap (λ (xs : List SentFrame). losses_from lost captures hidden named i xs) (drop-cons sent i d within)
    ∙ losses_first lost captures hidden named i (get_or sent i d) (drop (suc i) sent)
    ∙ ap (λ n. loss_of lost captures hidden named i (get_or sent i d) ++ losses_from lost captures hidden named (i + 1) (drop n sent)) next

-- with the events before it
pub losses_behind : (before more : List Timed) (lost : ℕ) (captures : List Capture) (hidden : List ℕ) (named : List (List ℕ)) (i : ℕ) (sent : List SentFrame) (d : SentFrame)
    → i < length sent → more ≡ before ++ loss_of lost captures hidden named i (get_or sent i d)
    → more ++ losses_from lost captures hidden named (i + 1) (drop (i + 1) sent) ≡ before ++ losses_from lost captures hidden named i (drop i sent)
losses_behind before more lost captures hidden named i sent d within is =
    ap (λ (xs : List Timed). xs ++ losses_from lost captures hidden named (i + 1) (drop (i + 1) sent)) is
    ∙ append_assoc before (loss_of lost captures hidden named i (get_or sent i d)) (losses_from lost captures hidden named (i + 1) (drop (i + 1) sent))
    ∙ ap (λ (xs : List Timed). before ++ xs) (sym (losses_more lost captures hidden named i sent d within))

-- ---- all captured frames

pub passes_at : {X : Type 0} (p : X → Bool) (xs : List X) (i : ℕ) (d : X) → i < length xs → list_all p xs ≡ true → p (get_or xs i d) ≡ true
passes_at p [] i d within all = absurd (omega (arith, within))
passes_at p (x ∷ xs) zero d within all = (and_parts (p x) (list_all p xs) all).0
passes_at p (x ∷ xs) (suc i) d within all = passes_at p xs i d (omega (arith, within)) (and_parts (p x) (list_all p xs) all).1

seen_one_more : (s : RecordSettings) (captures : List Capture) (seen : Seen) (frames : List Sourced) (x : Sourced)
    → seen_from s captures seen (frames ++ x ∷ []) ≡ see s captures x (seen_from s captures seen frames)
seen_one_more s captures seen [] x = refl
seen_one_more s captures seen (y ∷ frames) x = seen_one_more s captures (see s captures y seen) frames x

-- so many frames were seen, and none of the others is earlier
pub record IsWalked (s : RecordSettings) (captures : List Capture) (frames : List given.Sourced) (i : ℕ) (walk : Walk) : Type 0 where
  pub since : ℕ
  pub seen : IsSeen s.lost since (seen_from s captures nothing_seen (map sourced_shown (take i frames))) walk
  pub later : (k : ℕ) (d : given.Sourced) → i ≤ k → k < length frames → since ≤ (get_or frames k d).frame.time

-- one more was seen
pub walked_more : (s : RecordSettings) (captures : List Capture) (frames : List given.Sourced) (i : ℕ) (walk : Walk) (d : given.Sourced) → i < length frames
    → IsNonDecreasingBy (λ (at : given.Sourced). at.frame.time) frames
    → IsSeen s.lost (get_or frames i d).frame.time
    (see s captures (sourced_shown (get_or frames i d)) (seen_from s captures nothing_seen (map sourced_shown (take i frames)))) walk
    → IsWalked s captures frames (i + 1) walk
walked_more s captures frames i walk d within up seen =
    let x = get_or frames i d in
    let taken : seen_from s captures nothing_seen (map sourced_shown (take (i + 1) frames))
    ≡ see s captures (sourced_shown x) (seen_from s captures nothing_seen (map sourced_shown (take i frames))) =
    ap (λ (xs : List Sourced). seen_from s captures nothing_seen xs) (map_more sourced_shown frames i d within)
    ∙ seen_one_more s captures nothing_seen (map sourced_shown (take i frames)) (sourced_shown x) in
    record {
      since = x.frame.time;
      seen = seen_as s.lost x.frame.time _ _ walk (sym taken) seen;
      later = λ k e from inside. omega (arith, up i k e (omega (arith, from)) inside, ap (λ (y : given.Sourced). y.frame.time) (get_or_default frames i d e within));
    }

-- ---- the time of a frame rises with its moment

rank_of_either : (b : Bool) (message : List ℕ) → rank_of (if b then Replied message else Sent message) < 8
rank_of_either true message = omega arith
rank_of_either false message = omega arith

rank_within : (message : Option (List ℕ)) → rank_of_message message < 8
rank_within (Some message) = rank_of_either (acknowledges (type_of message)) message
rank_within None = omega arith

rank_small : (tap : Tap) (frame : List ℕ) → rank_at tap frame < 8
rank_small Omci frame = rank_within (message_of frame)
rank_small (Into port) frame = omega arith
rank_small (OutOf gem) frame = omega arith

pub times_rise : (frames : List given.Sourced) → IsNonDecreasingBy (λ (at : given.Sourced). moment_of_frame (sourced_shown at)) frames
    → IsNonDecreasingBy (λ (at : given.Sourced). at.frame.time) frames
times_rise frames up i j d below within =
    let x = get_or frames i d in
    let y = get_or frames j d in
    omega (arith, up i j d below within, rank_small x.frame.tap x.frame.bytes.now, rank_small y.frame.tap y.frame.bytes.now)
