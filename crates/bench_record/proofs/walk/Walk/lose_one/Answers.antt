use Rattle.std.proofs.Common.{◌≡◌, ◌<◌, ◌∙◌, ◌++◌, ◌∷◌, [], List, Bool, cond, true, false, get_or, length, map, ap, sym, arith}
use Rattle.std.specs.Prelude.{None}
use Rattle.std.proofs.lemmas.List.{append-nil, length-map}
use Rattle.std.proofs.lemmas.Result.{IfOk-weaker}
use Rattle.bench_history.specs.declared.event.Event.TheVariants.{Lost}
use Rattle.bench_history.specs.declared.extent.Extent.TheVariants.{Whole}
use Rattle.bench_record.specs.Index.{kept_shown}
use Rattle.bench_record.specs.Matching.{SentFrame, later}
use Rattle.bench_record.specs.Moments.{Timed}
use Rattle.bench_record.specs.Recorded.{is_missed}
use Rattle.bench_record.specs.Text.{timed_shown}
use Rattle.bench_record.proofs.Walks.{kept_at, losses_behind}
use Rattle.bench_record.proofs.walk.Walk.lose_one.Goals as goal

abbrev no_frame : SentFrame
no_frame = record { time = 0; core = record { padded = false; extent = Whole; addresses = []; rest = [] }; has_left = true; hidden_before = 0 }

pub returns-then-is_missed-clause-events : goal.returns-then-is_missed-clause-events
returns-then-is_missed-clause-events c = λ captures frames are same doubted.
    let n = c.args.number in
    let lost = c.args.lost in
    let items = c.args.self.now.sent.items in
    let hidden = c.args.self.now.hidden.items in
    let x : SentFrame = get_or frames.sent n no_frame in
    let within : n < length frames.sent = omega (arith, c.requires.within, ap (λ (xs : List SentFrame). length xs) same, length-map items kept_shown) in
    let is : kept_shown c.index.result.now ≡ x = kept_at items frames.sent n c.index.result.now no_frame same c.requires.within c.index.ensures in
    let missed : is_missed lost captures hidden frames.named n x ≡ true =
    ap (λ (y : SentFrame). is_missed lost captures hidden frames.named n y) (sym is) ∙ sym (c.is_missed.ensures captures frames.named are doubted) ∙ c.if-is_missed.true in
    let time : c.later.result ≡ later x.time lost = c.later.ensures ∙ ap (λ (y : SentFrame). later y.time lost) is in
    let before : List Timed = map timed_shown c.args.self.now.events.items in
    IfOk-weaker c.add_unseen.result _ _
    (λ done events. losses_behind before _ lost captures hidden frames.named n frames.sent no_frame within
    (events ∙ ap (λ t. before ++ record { time = t; source = None; event = Lost n } ∷ []) time
    ∙ ap (λ (b : Bool). before ++ cond b (record { time = later x.time lost; source = None; event = Lost n } ∷ []) []) (sym missed))) c.add_unseen.ensures.events

pub returns-clause-events : goal.returns-clause-events
returns-clause-events c = λ captures frames are same doubted.
    let n = c.args.number in
    let lost = c.args.lost in
    let items = c.args.self.now.sent.items in
    let hidden = c.args.self.now.hidden.items in
    let x : SentFrame = get_or frames.sent n no_frame in
    let within : n < length frames.sent = omega (arith, c.requires.within, ap (λ (xs : List SentFrame). length xs) same, length-map items kept_shown) in
    let is : kept_shown c.index.result.now ≡ x = kept_at items frames.sent n c.index.result.now no_frame same c.requires.within c.index.ensures in
    let missed : is_missed lost captures hidden frames.named n x ≡ false =
    ap (λ (y : SentFrame). is_missed lost captures hidden frames.named n y) (sym is) ∙ sym (c.is_missed.ensures captures frames.named are doubted) ∙ c.if-is_missed.false in
    let before : List Timed = map timed_shown c.args.self.now.events.items in
    losses_behind before before lost captures hidden frames.named n frames.sent no_frame within
    (sym (append-nil before) ∙ ap (λ (b : Bool). before ++ cond b (record { time = later x.time lost; source = None; event = Lost n } ∷ []) []) (sym missed))
