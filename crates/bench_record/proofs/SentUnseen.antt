-- Frames were on their way as the captures in front of the unit began, or were sent behind their ends, and that is set: none of them is taken for
-- one that was captured as it was sent.
--
-- Why no right unit is accused then, where it holds no frame for longer than until it is lost:
-- * A frame that was sent before a capture in front of the unit began leaves while it may be from before: no line is of it (`not_taken`). One that
--   was sent behind the end of such a capture leaves behind that end: no line is of it either (`not_taken_behind`).
-- * So each line of a frame that leaves is of one that captures show as it is sent, and that one is among those that the line names. It is open
--   until it leaves: a `g` line is of the one frame that it names, and where `a` lines use frames up, all of these have left.
-- * A frame whose own leaving has no line isn't told as lost (`not_lost`). It may be named beside others, and a line needs only one that it may be.
-- * What is a stray at another time is of no frame that was sent unseen.
use Rattle.std.proofs.Common.{◌≡◌, ◌≤◌, ◌∙◌, ◌&&◌, ◌||◌, ◌+◌, ◌++◌, ◌∷◌, ℕ, zero, suc, Bool, true, false, not, List, [], Option, Some, None, length, refl, ap, sym, subst, arith}
use Rattle.std.specs.Prelude.{if◌then◌else◌, nat_eq, take, nat_le, nat_lt, slice_get}
use Rattle.std.specs.List.{list_all, list_any}
use Rattle.std.proofs.lemmas.Bool.{and_from, and_parts, le-ltb, leb-true}
use Rattle.std.proofs.lemmas.List.Folds.{list_all-append}
use Rattle.omci_msg.specs.Message.{acknowledges, type_of}
use Rattle.bench_history.specs.declared.event.Event.{Event}
use Rattle.bench_history.specs.declared.event.Event.TheVariants.{Entered, Lost, Replied, Sent}
use Rattle.bench_history.specs.declared.gem.SeenGem.{SeenGem}
use Rattle.bench_record.specs.Matching.{Frames, SentFrame, candidates, is_doubtful, later}
use Rattle.bench_record.specs.Messages.{is_managing, message_of}
use Rattle.bench_record.specs.Moments.{Sourced, Timed, moment_of, moment_of_frame, rank_of}
use Rattle.bench_record.specs.Order.{in_order, placed}
use Rattle.bench_record.specs.Recorded.{Seen, core_in, early, enter, extent_within, frames_from, had_begun, hide, history_shown, is_behind, is_early, is_from_before, is_from_behind, is_into, is_missed, is_passed_over, is_unread, lasts, leave, leave_as, leave_by, leave_doubtful, left_as, left_one_of, longest_frame, losses, losses_from, may_be_unnumbered, nothing_seen, other, see, see_at, see_message, see_reply, seen_from, seen_in, strayed, times_of, unread, unwritable, waits, with_events, with_frame, without_number}
use Rattle.bench_record.specs.declared.captured.Capture.{Capture}
use Rattle.bench_record.specs.declared.captured.Tap.{Tap}
use Rattle.bench_record.specs.declared.captured.Tap.TheVariants.{Omci, Into, OutOf}
use Rattle.bench_record.specs.declared.settings.RecordSettings.{RecordSettings}
use Rattle.bench_record.proofs.Untold.{not_told, seen_of}

-- ---- lists

all_joined : {X : Type 0} (p : X → Bool) (xs ys : List X) → list_all p xs ≡ true → list_all p ys ≡ true → list_all p (xs ++ ys) ≡ true
all_joined p xs ys first second = list_all-append p xs ys ∙ and_from (list_all p xs) (list_all p ys) first second

all_at : {X : Type 0} (p : X → Bool) (xs : List X) (i : ℕ) (x : X) → list_all p xs ≡ true → slice_get xs i ≡ Some x → p x ≡ true
all_at p [] i x all is = cc is
all_at p (y ∷ xs) zero x all is = let same : y ≡ x = cc in ap p (sym same) ∙ (and_parts (p y) (list_all p xs) all).0
all_at p (y ∷ xs) (suc i) x all is = all_at p xs i x (and_parts (p y) (list_all p xs) all).1 is

and_no : (b : Bool) → (b && false) ≡ false
and_no true = refl
and_no false = refl

some_fails : {X : Type 0} (p : X → Bool) (xs : List X) (i : ℕ) (x : X) → slice_get xs i ≡ Some x → p x ≡ false → list_all p xs ≡ false
some_fails p [] i x is wrong = cc is
some_fails p (y ∷ xs) zero x is wrong = let same : y ≡ x = cc in ap (λ (b : Bool). b && list_all p xs) (ap p same ∙ wrong)
some_fails p (y ∷ xs) (suc i) x is wrong = ap (λ (b : Bool). p y && b) (some_fails p xs i x is wrong) ∙ and_no (p y)

all_placed : {X : Type 0} (p : X → Bool) (key : X → ℕ) (x : X) (xs : List X) → p x ≡ true → list_all p xs ≡ true → list_all p (placed key x xs) ≡ true
all_placed p key x [] first all = and_from (p x) true first refl
all_placed p key x (y ∷ ys) first all =
    let parts = and_parts (p y) (list_all p ys) all in
    here (nat_le (key x) (key y)) (all_placed p key x ys first parts.1) parts.0
  where
    here : (b : Bool) → list_all p (placed key x ys) ≡ true → p y ≡ true → list_all p (if b then x ∷ y ∷ ys else y ∷ placed key x ys) ≡ true
    here true behind one = and_from (p x) (list_all p (y ∷ ys)) first all
    here false behind one = and_from (p y) (list_all p (placed key x ys)) one behind

all_in_order : {X : Type 0} (p : X → Bool) (key : X → ℕ) (xs : List X) → list_all p xs ≡ true → list_all p (in_order key xs) ≡ true
all_in_order p key [] all = refl
all_in_order p key (x ∷ xs) all =
    let parts = and_parts (p x) (list_all p xs) all in all_placed p key x (in_order key xs) parts.0 (all_in_order p key xs parts.1)

-- ---- what leaves while such frames are passed over has no line

-- an event isn't of a frame that leaves while it may have been sent unseen
abbrev pub is_since : RecordSettings → List Capture → Timed → Bool
is_since s captures timed = not (nat_eq (rank_of timed.event) 4 && is_passed_over s captures timed.time)

abbrev Clear : RecordSettings → List Capture → Seen → Type 0
Clear s captures seen = list_all (is_since s captures) seen.events ≡ true

clear_if : (s : RecordSettings) (captures : List Capture) (b : Bool) (x y : Seen) → Clear s captures x → Clear s captures y → Clear s captures (if b then x else y)
clear_if s captures true x y clear_x clear_y = clear_x
clear_if s captures false x y clear_x clear_y = clear_y

clear_more : (s : RecordSettings) (captures : List Capture) (more : List Timed) (seen : Seen) → Clear s captures seen
    → list_all (is_since s captures) more ≡ true → Clear s captures (with_events more seen)
clear_more s captures more seen clear all = all_joined (is_since s captures) seen.events more clear all

no_wait_leaves : (s : RecordSettings) (captures : List Capture) (wait : Option ℕ) (time n : ℕ) → list_all (is_since s captures) (waits wait time n) ≡ true
no_wait_leaves s captures (Some wait) time n = refl
no_wait_leaves s captures None time n = refl

message_clear : (s : RecordSettings) (captures : List Capture) (at : Sourced) (seen : Seen) (message : Option (List ℕ)) → Clear s captures seen
    → Clear s captures (see_message s at message seen)
message_clear s captures at seen (Some message) clear =
    clear_if s captures (acknowledges (type_of message)) (see_reply s at message seen) _
    (clear_if s captures (nat_lt seen.replies 4294967295) _ (unwritable at.source seen)
    (clear_more s captures (seen_in at (Replied message) ∷ waits s.wait at.frame.time (seen.replies + 1)) (record seen { replies = seen.replies + 1 }) clear
    (no_wait_leaves s captures s.wait at.frame.time (seen.replies + 1)))
    clear)
    (clear_more s captures (seen_in at (Sent message) ∷ []) seen clear refl)
message_clear s captures at seen None clear =
    clear_if s captures (is_managing at.frame.bytes.now) (unread at.source seen) (other at.source seen) clear clear

enter_clear : (s : RecordSettings) (captures : List Capture) (at : Sourced) (port : ℕ) (seen : Seen) → Clear s captures seen
    → Clear s captures (enter s at port seen)
enter_clear s captures at port seen clear =
    clear_if s captures (is_unread at.frame.extent at.frame.bytes.now) (unread at.source (without_number at.frame.time seen)) _ clear
    (clear_if s captures (nat_lt (length seen.frames.sent) 4294967296) _ (unwritable at.source (without_number at.frame.time seen))
    (clear_more s captures
    (seen_in at (Entered port (extent_within longest_frame at.frame.extent at.frame.bytes.now) (take longest_frame at.frame.bytes.now)) ∷ [])
    (with_frame (record { time = at.frame.time; core = core_in s at.frame; has_left = false; hidden_before = length seen.hidden }) seen) clear refl)
    clear)

not_both : (b : Bool) → (not (b && false) && true) ≡ true
not_both true = refl
not_both false = refl

one_clear : (s : RecordSettings) (captures : List Capture) (at : Sourced) (event : Event) → is_passed_over s captures at.frame.time ≡ false
    → list_all (is_since s captures) (seen_in at event ∷ []) ≡ true
one_clear s captures at event since = ap (λ (b : Bool). not (nat_eq (rank_of event) 4 && b) && true) since ∙ not_both (nat_eq (rank_of event) 4)

doubtful_clear : (s : RecordSettings) (captures : List Capture) (at : Sourced) (gem : SeenGem) (numbers : List ℕ) (seen : Seen)
    → is_passed_over s captures at.frame.time ≡ false → Clear s captures seen → Clear s captures (leave_doubtful at gem numbers seen)
doubtful_clear s captures at gem numbers seen since clear =
    clear_if s captures (nat_lt 900 (length numbers)) (unwritable at.source (hide at.frame.time seen)) _ clear
    (all_joined (is_since s captures) seen.events (seen_in at (left_one_of numbers gem at) ∷ []) clear
    (one_clear s captures at (left_one_of numbers gem at) since))

leave_clear : (s : RecordSettings) (captures : List Capture) (at : Sourced) (gem : SeenGem) (numbers : List ℕ) (seen : Seen)
    → is_passed_over s captures at.frame.time ≡ false → Clear s captures seen → Clear s captures (leave_by s captures at gem numbers seen)
leave_clear s captures at gem [] seen since clear =
    clear_if s captures (is_early s.lost captures at.frame.time || may_be_unnumbered s.lost seen.unnumbered at.frame.time) (early at.source seen) _ clear
    (all_joined (is_since s captures) seen.events (seen_in at (strayed gem at) ∷ []) clear (one_clear s captures at (strayed gem at) since))
leave_clear s captures at gem (n ∷ []) seen since clear =
    clear_if s captures (is_doubtful seen.frames.named n) (leave_doubtful at gem (n ∷ []) seen) (leave_as n at gem seen)
    (doubtful_clear s captures at gem (n ∷ []) seen since clear)
    (all_joined (is_since s captures) seen.events (seen_in at (left_as n gem at) ∷ []) clear (one_clear s captures at (left_as n gem at) since))
leave_clear s captures at gem (k ∷ n ∷ more) seen since clear = doubtful_clear s captures at gem (k ∷ n ∷ more) seen since clear

see_clear : (s : RecordSettings) (captures : List Capture) (at : Sourced) (tap : Tap) (seen : Seen) → Clear s captures seen
    → Clear s captures (see_at s captures at tap seen)
see_clear s captures at Omci seen clear = message_clear s captures at seen (message_of at.frame.bytes.now) clear
see_clear s captures at (Into port) seen clear = enter_clear s captures at port seen clear
see_clear s captures at (OutOf gem) seen clear =
    clear_if s captures (is_unread at.frame.extent at.frame.bytes.now) (unread at.source (hide at.frame.time seen)) _ clear
    (here (candidates s.lost at.frame.time (core_in s at.frame) seen.frames) (is_passed_over s captures at.frame.time) refl)
  where
    here : (numbers : List ℕ) (b : Bool) → is_passed_over s captures at.frame.time ≡ b
        → Clear s captures (if b then early at.source (hide at.frame.time seen) else leave_by s captures at gem numbers seen)
    here numbers true is = clear
    here numbers false is = leave_clear s captures at gem numbers seen is clear

all_clear : (s : RecordSettings) (captures : List Capture) (frames : List Sourced) (seen : Seen) → Clear s captures seen
    → Clear s captures (seen_from s captures seen frames)
all_clear s captures [] seen clear = clear
all_clear s captures (x ∷ frames) seen clear =
    all_clear s captures frames (see s captures x seen) (see_clear s captures x x.frame.tap seen clear)

no_loss_leaves : (s : RecordSettings) (lost : ℕ) (captures : List Capture) (hidden : List ℕ) (named : List (List ℕ)) (n : ℕ) (sent : List SentFrame)
    → list_all (is_since s captures) (losses_from lost captures hidden named n sent) ≡ true
no_loss_leaves s lost captures hidden named n [] = refl
no_loss_leaves s lost captures hidden named n (x ∷ sent) =
    here (losses_from lost captures hidden named (n + 1) sent) (is_missed lost captures hidden named n x)
    (no_loss_leaves s lost captures hidden named (n + 1) sent)
  where
    here : (behind : List Timed) (b : Bool) → list_all (is_since s captures) behind ≡ true
        → list_all (is_since s captures) (if b then record { time = later x.time lost; source = None; event = Lost n } ∷ behind else behind) ≡ true
    here behind true all = all
    here behind false all = all

no_losses_leave : (s : RecordSettings) (lost : Option ℕ) (captures : List Capture) (hidden : List ℕ) (frames : Frames)
    → list_all (is_since s captures) (losses lost captures hidden frames) ≡ true
no_losses_leave s (Some lost) captures hidden frames = no_loss_leaves s lost captures hidden frames.named 0 frames.sent
no_losses_leave s None captures hidden frames = refl

-- no line of a history is of a frame that leaves while it may have been sent unseen
pub no_line : (s : RecordSettings) (captures : List Capture) → list_all (is_since s captures) (history_shown s captures).events ≡ true
no_line s captures =
    let seen = seen_of s captures in
    all_in_order (is_since s captures) moment_of (seen.events ++ losses s.lost captures seen.hidden seen.frames)
    (all_joined (is_since s captures) seen.events (losses s.lost captures seen.hidden seen.frames)
    (all_clear s captures (in_order moment_of_frame (frames_from 0 captures)) nothing_seen refl)
    (no_losses_leave s s.lost captures seen.hidden seen.frames))

-- ---- frames that were sent before a capture began

none_before : (lost sent t : ℕ) (times : List ℕ) → t ≤ later sent lost → list_all (nat_le sent) times ≡ true
    → list_any (λ r. nat_lt (later r lost) t) times ≡ false
none_before lost sent t [] by all = refl
none_before lost sent t (r ∷ times) by all =
    let parts = and_parts (nat_le sent r) (list_all (nat_le sent) times) all in
    ap (λ (b : Bool). b || list_any (λ x. nat_lt (later x lost) t) times) (le-ltb (later r lost) t (omega (arith, by, leb-true sent r parts.0)))
    ∙ none_before lost sent t times by parts.1

-- a frame that was sent no later than each record of a capture in front of the unit leaves while it may be from before
pub sent_before : (lost : ℕ) (captures : List Capture) (i : ℕ) (capture : Capture) (sent t : ℕ) → slice_get captures i ≡ Some capture
    → is_into capture ≡ true → list_all (nat_le sent) (times_of capture) ≡ true → t ≤ later sent lost → is_early (Some lost) captures t ≡ true
sent_before lost captures i capture sent t at into all by =
    let not_begun : had_begun (Some lost) t capture ≡ false = none_before lost sent t (times_of capture) by all in
    let fails = some_fails (λ (c : Capture). not (is_into c) || had_begun (Some lost) t c) captures i capture at
    (ap (λ (b : Bool). not b || had_begun (Some lost) t capture) into ∙ not_begun) in
    ap (λ (b : Bool). not (list_any is_into captures && b)) fails ∙ ap not (and_no (list_any is_into captures))

or_first : (b c : Bool) → b ≡ true → (b || c) ≡ true
or_first true c is = refl
or_first false c is = cc is

or_second : (b c : Bool) → c ≡ true → (b || c) ≡ true
or_second true c is = refl
or_second false c is = is

-- what is passed over where it may be from before, or from behind an end
passed_before : (s : RecordSettings) (captures : List Capture) (t : ℕ) → s.late ≡ true → is_early s.lost captures t ≡ true → is_passed_over s captures t ≡ true
passed_before s captures t late before =
    or_first (is_from_before s captures t) (is_from_behind s captures t) (and_from s.late (is_early s.lost captures t) late before)

passed_behind : (s : RecordSettings) (captures : List Capture) (t : ℕ) → s.early ≡ true → is_behind captures t ≡ true → is_passed_over s captures t ≡ true
passed_behind s captures t early behind =
    or_second (is_from_before s captures t) (is_from_behind s captures t) (and_from s.early (is_behind captures t) early behind)

contradicts : (b c : Bool) → b ≡ true → c ≡ true → not (b && c) ≡ true → ⊥
contradicts true true is_b is_c is = cc is
contradicts true false is_b is_c is = cc is_c
contradicts false c is_b is_c is = cc is_b

-- so no line is of such a frame
pub not_taken : (s : RecordSettings) (captures : List Capture) (lost : ℕ) → s.late ≡ true → s.lost ≡ Some lost
    → (i : ℕ) (capture : Capture) (sent t : ℕ) → slice_get captures i ≡ Some capture → is_into capture ≡ true → list_all (nat_le sent) (times_of capture) ≡ true
    → t ≤ later sent lost
    → (k : ℕ) (x : Timed) → slice_get (history_shown s captures).events k ≡ Some x → rank_of x.event ≡ 4 → x.time ≡ t → ⊥
not_taken s captures lost late set i capture sent t at into all by k x line leaves time =
    contradicts (nat_eq (rank_of x.event) 4) (is_passed_over s captures x.time) (ap (λ (n : ℕ). nat_eq n 4) leaves)
    (passed_before s captures x.time late (ap (λ (limit : Option ℕ). is_early limit captures x.time) set
    ∙ ap (λ (u : ℕ). is_early (Some lost) captures u) time ∙ sent_before lost captures i capture sent t at into all by))
    (all_at (is_since s captures) (history_shown s captures).events k x (no_line s captures) line)

-- ---- frames that were sent behind the end of a capture

none_behind : (sent t : ℕ) (times : List ℕ) → sent ≤ t → list_all (λ r. nat_le r sent) times ≡ true → list_any (nat_lt t) times ≡ false
none_behind sent t [] by all = refl
none_behind sent t (r ∷ times) by all =
    let parts = and_parts (nat_le r sent) (list_all (λ x. nat_le x sent) times) all in
    ap (λ (b : Bool). b || list_any (nat_lt t) times) (le-ltb t r (omega (arith, by, leb-true r sent parts.0))) ∙ none_behind sent t times by parts.1

-- a frame that was sent no earlier than each record of a capture in front of the unit leaves behind its end
pub sent_behind : (captures : List Capture) (i : ℕ) (capture : Capture) (sent t : ℕ) → slice_get captures i ≡ Some capture → is_into capture ≡ true
    → list_all (λ r. nat_le r sent) (times_of capture) ≡ true → sent ≤ t → is_behind captures t ≡ true
sent_behind captures i capture sent t at into all by =
    let ended : lasts t capture ≡ false = none_behind sent t (times_of capture) by all in
    ap not (some_fails (λ (c : Capture). not (is_into c) || lasts t c) captures i capture at (ap (λ (b : Bool). not b || lasts t capture) into ∙ ended))

-- so no line is of such a frame
pub not_taken_behind : (s : RecordSettings) (captures : List Capture) → s.early ≡ true → (i : ℕ) (capture : Capture) (sent t : ℕ)
    → slice_get captures i ≡ Some capture → is_into capture ≡ true → list_all (λ r. nat_le r sent) (times_of capture) ≡ true → sent ≤ t
    → (k : ℕ) (x : Timed) → slice_get (history_shown s captures).events k ≡ Some x → rank_of x.event ≡ 4 → x.time ≡ t → ⊥
not_taken_behind s captures early i capture sent t at into all by k x line leaves time =
    contradicts (nat_eq (rank_of x.event) 4) (is_passed_over s captures x.time) (ap (λ (n : ℕ). nat_eq n 4) leaves)
    (passed_behind s captures x.time early (ap (λ (u : ℕ). is_behind captures u) time ∙ sent_behind captures i capture sent t at into all by))
    (all_at (is_since s captures) (history_shown s captures).events k x (no_line s captures) line)

-- ---- frames whose leaving has no line

-- a frame left at a time and was passed over, though it may be one that was sent
abbrev Hides : ℕ → Seen → Type 0
Hides t seen = (i : ℕ) × (slice_get seen.hidden i ≡ Some t)

kept_in : (xs : List ℕ) (y i a : ℕ) → slice_get xs i ≡ Some a → slice_get (xs ++ y ∷ []) i ≡ Some a
kept_in [] y i a is = cc is
kept_in (x ∷ xs) y zero a is = is
kept_in (x ∷ xs) y (suc i) a is = kept_in xs y i a is

last_in : (xs : List ℕ) (y : ℕ) → (i : ℕ) × (slice_get (xs ++ y ∷ []) i ≡ Some y)
last_in [] y = (0, refl)
last_in (x ∷ xs) y = let behind = last_in xs y in (suc behind.0, behind.1)

hides_if : (t : ℕ) (b : Bool) (x y : Seen) → Hides t x → Hides t y → Hides t (if b then x else y)
hides_if t true x y hides_x hides_y = hides_x
hides_if t false x y hides_x hides_y = hides_y

hides_more : (t time : ℕ) (seen : Seen) → Hides t seen → Hides t (hide time seen)
hides_more t time seen hides = (hides.0, kept_in seen.hidden time hides.0 t hides.1)

message_hides : (s : RecordSettings) (at : Sourced) (t : ℕ) (seen : Seen) (message : Option (List ℕ)) → Hides t seen → Hides t (see_message s at message seen)
message_hides s at t seen (Some message) hides =
    hides_if t (acknowledges (type_of message)) (see_reply s at message seen) _
    (hides_if t (nat_lt seen.replies 4294967295) _ (unwritable at.source seen) hides hides) hides
message_hides s at t seen None hides = hides_if t (is_managing at.frame.bytes.now) (unread at.source seen) (other at.source seen) hides hides

enter_hides : (s : RecordSettings) (at : Sourced) (port t : ℕ) (seen : Seen) → Hides t seen → Hides t (enter s at port seen)
enter_hides s at port t seen hides =
    hides_if t (is_unread at.frame.extent at.frame.bytes.now) (unread at.source (without_number at.frame.time seen)) _ hides
    (hides_if t (nat_lt (length seen.frames.sent) 4294967296) _ (unwritable at.source (without_number at.frame.time seen)) hides hides)

doubtful_hides : (at : Sourced) (gem : SeenGem) (numbers : List ℕ) (t : ℕ) (seen : Seen) → Hides t seen → Hides t (leave_doubtful at gem numbers seen)
doubtful_hides at gem numbers t seen hides =
    hides_if t (nat_lt 900 (length numbers)) (unwritable at.source (hide at.frame.time seen)) _ (hides_more t at.frame.time seen hides) hides

leave_hides : (s : RecordSettings) (captures : List Capture) (at : Sourced) (gem : SeenGem) (numbers : List ℕ) (t : ℕ) (seen : Seen) → Hides t seen
    → Hides t (leave_by s captures at gem numbers seen)
leave_hides s captures at gem [] t seen hides =
    hides_if t (is_early s.lost captures at.frame.time || may_be_unnumbered s.lost seen.unnumbered at.frame.time) (early at.source seen) _ hides hides
leave_hides s captures at gem (n ∷ []) t seen hides =
    hides_if t (is_doubtful seen.frames.named n) (leave_doubtful at gem (n ∷ []) seen) (leave_as n at gem seen)
    (doubtful_hides at gem (n ∷ []) t seen hides) hides
leave_hides s captures at gem (k ∷ n ∷ more) t seen hides = doubtful_hides at gem (k ∷ n ∷ more) t seen hides

see_hides : (s : RecordSettings) (captures : List Capture) (at : Sourced) (tap : Tap) (t : ℕ) (seen : Seen) → Hides t seen
    → Hides t (see_at s captures at tap seen)
see_hides s captures at Omci t seen hides = message_hides s at t seen (message_of at.frame.bytes.now) hides
see_hides s captures at (Into port) t seen hides = enter_hides s at port t seen hides
see_hides s captures at (OutOf gem) t seen hides =
    hides_if t (is_unread at.frame.extent at.frame.bytes.now) (unread at.source (hide at.frame.time seen)) _ (hides_more t at.frame.time seen hides)
    (hides_if t (is_passed_over s captures at.frame.time) (early at.source (hide at.frame.time seen)) _ (hides_more t at.frame.time seen hides)
    (leave_hides s captures at gem (candidates s.lost at.frame.time (core_in s at.frame) seen.frames) t seen hides))

all_hides : (s : RecordSettings) (captures : List Capture) (frames : List Sourced) (t : ℕ) (seen : Seen) → Hides t seen → Hides t (seen_from s captures seen frames)
all_hides s captures [] t seen hides = hides
all_hides s captures (x ∷ frames) t seen hides =
    all_hides s captures frames t (see s captures x seen) (see_hides s captures x x.frame.tap t seen hides)

passed_hides : (s : RecordSettings) (captures : List Capture) (at : Sourced) (gem : SeenGem) (seen : Seen) → is_passed_over s captures at.frame.time ≡ true
    → Hides at.frame.time (leave s captures at gem seen)
passed_hides s captures at gem seen before =
    let hides : Hides at.frame.time (hide at.frame.time seen) = last_in seen.hidden at.frame.time in
    hides_if at.frame.time (is_unread at.frame.extent at.frame.bytes.now) (unread at.source (hide at.frame.time seen)) _ hides
    (here (is_passed_over s captures at.frame.time) before hides)
  where
    here : (b : Bool) → b ≡ true → Hides at.frame.time (hide at.frame.time seen)
        → Hides at.frame.time (if b then early at.source (hide at.frame.time seen) else leave_by s captures at gem (candidates s.lost at.frame.time (core_in s at.frame) seen.frames) seen)
    here true is hides = hides
    here false is hides = cc is

frame_hides : (s : RecordSettings) (captures : List Capture) (frames : List Sourced) (k : ℕ) (at : Sourced) (gem : SeenGem) (seen : Seen)
    → slice_get frames k ≡ Some at → at.frame.tap ≡ OutOf gem → is_passed_over s captures at.frame.time ≡ true
    → Hides at.frame.time (seen_from s captures seen frames)
frame_hides s captures [] k at gem seen is tap before = cc is
frame_hides s captures (x ∷ frames) zero at gem seen is tap before =
    let same : x ≡ at = cc in
    all_hides s captures frames at.frame.time (see s captures x seen)
    (subst (λ (y : Sourced). Hides at.frame.time (see s captures y seen)) (sym same)
    (subst (λ (at_tap : Tap). Hides at.frame.time (see_at s captures at at_tap seen)) (sym tap) (passed_hides s captures at gem seen before)))
frame_hides s captures (x ∷ frames) (suc k) at gem seen is tap before =
    frame_hides s captures frames k at gem (see s captures x seen) is tap before

-- a frame that may be one which is passed over as it leaves isn't told as lost
pub not_lost : (s : RecordSettings) (captures : List Capture) (lost n k : ℕ) (x : SentFrame) (at : Sourced) (gem : SeenGem) → slice_get (seen_of s captures).frames.sent n ≡ Some x
    → slice_get (in_order moment_of_frame (frames_from 0 captures)) k ≡ Some at → at.frame.tap ≡ OutOf gem
    → is_passed_over s captures at.frame.time ≡ true → x.time ≤ at.frame.time → at.frame.time ≤ later x.time lost
    → is_missed lost captures (seen_of s captures).hidden (seen_of s captures).frames.named n x ≡ false
not_lost s captures lost n k x at gem sent left tap passed after by =
    let hides = frame_hides s captures (in_order moment_of_frame (frames_from 0 captures)) k at gem nothing_seen left tap passed in
    not_told s captures lost n hides.0 at.frame.time x sent hides.1 after by
