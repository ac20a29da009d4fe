-- The records stand behind the header.
use Rattle.std.proofs.Common.{◌≡◌, ℕ, List, drop, subst, sym}
use Rattle.capture.specs.Listed.{IsWhyNoFrames}
use Rattle.capture.proofs.Unlisted.{why_no_list}
use Rattle.capture.proofs.listed.list_frames.Goals as goal

pub returns-in-Err-list_records-clause-fault : goal.returns-in-Err-list_records-clause-fault
returns-in-Err-list_records-clause-fault c =
    let order = c.in-Ok.order in
    let back : c.split_at.result.1.now ≡ drop 24 c.args.file.now = c.split_at.ensures.back in
    why_no_list c.args.file.now order c.in-Err-list_records.fault (sym c.in-Ok.ensures)
    (subst (λ (records : List ℕ). IsWhyNoFrames order records c.in-Err-list_records.fault) back c.in-Err-list_records.ensures.fault)
