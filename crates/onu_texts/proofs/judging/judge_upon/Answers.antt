-- A judgement that stands in the room.
use Rattle.std.proofs.Common.{rules, ◌≡◌, ◌∙◌, Some, sym}
use Rattle.onu_texts.specs.Judging.{may_be_unfinished, settings_in}
use Rattle.onu_texts.proofs.Behind.{behind_put}
use Rattle.onu_texts.proofs.Found.{says_kept}
use Rattle.onu_texts.proofs.Said.{in_room}
use Rattle.onu_texts.proofs.judging.judge_upon.Goals as goal

pub returns-then-put : goal.returns-then-put
returns-then-put c =
    let asked = c.args.asked.now in
    let given : settings_in asked.flags ≡ Some c.in-Some.settings = sym c.settings_in.ensures ∙ c.in-Some.is in
    let says = says_kept (may_be_unfinished asked.flags) c.in-Some.settings c.args.start.now asked.history.now c.in-Ok.said.number c.in-Ok.said.line
    c.in-Ok.ensures.said in
    let behind = behind_put c.deref.result.now c.args.room.now c.put.new.room c.put.new.written c.put.ensures.written c.put.ensures.room in
    in_room c.args.start.now asked.flags c.in-Some.settings asked.history.now c.args.room.now c.put.new.room _ c.args.written.now c.put.new.written
    c.args.line.now c.in-Ok.said.line given says (record { within = search rules; behind = behind })
