-- The frames that were counted are those that the file is made of.
use Rattle.std.proofs.Common.{◌≡◌, ℕ, List, None, drop, sym, ap, ◌∙◌, subst}
use Rattle.capture.specs.Records.{IsCapture, first_fault, frames_in}
use Rattle.capture.proofs.Captures.{is_capture}
use Rattle.capture.proofs.pcap.Pcap.open.Goals as goal

pub returns-clause-records : goal.returns-clause-records
returns-clause-records c =
    let order = c.in_ok-order.order in
    let back : c.split_at.result.1.now ≡ drop 24 c.args.file.now = c.split_at.ensures.back in
    let none : first_fault order (drop 24 c.args.file.now) ≡ None =
    ap (λ (records : List ℕ). first_fault order records) (sym back) ∙ sym c.in_ok-count.ensures.fault in
    subst (λ (records : List ℕ). IsCapture c.args.file.now (frames_in order records)) (sym back)
    (is_capture c.args.file.now order (sym c.in_ok-order.ensures) none)
