use Rattle.std.proofs.Common.{◌≡◌, ◌<◌, ◌∙◌, List, ℕ, true, length, ap, arith, subst, sym}
use Rattle.std.proofs.lemmas.Grind.{common_steps}
use Rattle.std.proofs.lemmas.Result.{IfOk-weaker}
use Rattle.bench_record.specs.Cores.{Core}
use Rattle.bench_record.specs.Index.{core_shown, is_long}
use Rattle.bench_record.specs.Matching.{candidates}
use Rattle.bench_record.specs.Recorded.{core_in, early, hide}
use Rattle.bench_record.specs.Walk.{sourced_shown, sure_of}
use Rattle.bench_record.proofs.Candidates.{candidates_in_order}
use Rattle.bench_record.proofs.Walks.{leave_found, leave_passed_over, leave_none, leave_sure, leave_unread, leave_unsure, seen_as, seen_later}
use Rattle.bench_record.proofs.walk.Walk.leave.Goals as goal

pub leave_doubtful-requires : goal.leave_doubtful-requires
leave_doubtful-requires c =
    let s = c.args.given.now.settings in
    let at = sourced_shown c.args.at.now in
    let can = c.requires in
    let own : core_shown c.core_of-core.result ≡ core_in s at.frame = c.core_of-core.ensures in
    let long_own = subst (λ (core : Core). is_long c.args.self.now.shortest core ≡ true) (sym own) can.long in
    let some : 0 < length c.in_ok-numbers.numbers.items = grind (arith, common_steps) in
    candidates_in_order s.lost at.frame.time (core_shown c.core_of-core.result) can.seen.frames c.in_ok-numbers.numbers.items
    (c.in_ok-numbers.ensures.found can.since can.seen can.is can.within long_own) some

pub returns-then-is_unread-clause-seen : goal.returns-then-is_unread-clause-seen
returns-then-is_unread-clause-seen c = λ captures since seen are is within long.
    let s = c.args.given.now.settings in
    let at = sourced_shown c.args.at.now in
    IfOk-weaker c.pass_unread.result _ _
    (λ done so. seen_as s.lost at.frame.time _ _ c.pass_unread.new.self
    (leave_unread s captures at c.args.gem seen (sym c.is_unread.ensures ∙ c.if-is_unread.true)) so)
    (c.pass_unread.ensures.seen s.lost at.frame.time (hide at.frame.time seen)
    (c.in_ok-hide.ensures.seen s.lost at.frame.time seen (seen_later s.lost since at.frame.time seen c.args.self.now within is)))

pub returns-then-is_passed_over-clause-seen : goal.returns-then-is_passed_over-clause-seen
returns-then-is_passed_over-clause-seen c = λ captures since seen are is within long.
    let s = c.args.given.now.settings in
    let at = sourced_shown c.args.at.now in
    IfOk-weaker c.hide-then-is_passed_over.result _ _
    (λ done so. seen_as s.lost at.frame.time _ _ c.hide-then-is_passed_over.new.self
    (leave_passed_over s captures at c.args.gem seen (sym c.is_unread.ensures ∙ c.if-is_unread.false)
    (sym (c.is_passed_over.ensures captures are) ∙ c.if-is_passed_over.true)) so)
    (c.hide-then-is_passed_over.ensures.seen s.lost at.frame.time (early at.source seen)
    (c.in_ok-pass_early.ensures.seen s.lost at.frame.time seen (seen_later s.lost since at.frame.time seen c.args.self.now within is)))

pub returns-then-is_empty-clause-seen : goal.returns-then-is_empty-clause-seen
returns-then-is_empty-clause-seen c = λ captures since seen are is within long.
    let s = c.args.given.now.settings in
    let at = sourced_shown c.args.at.now in
    let own : core_shown c.core_of-core.result ≡ core_in s at.frame = c.core_of-core.ensures in
    let long_own = subst (λ (core : Core). is_long c.args.self.now.shortest core ≡ true) (sym own) long in
    let found : c.in_ok-numbers.numbers.items ≡ candidates s.lost at.frame.time (core_in s at.frame) seen.frames =
    c.in_ok-numbers.ensures.found since seen is within long_own ∙ ap (λ (core : Core). candidates s.lost at.frame.time core seen.frames) own in
    let later = c.candidates.ensures.seen since seen is within in
    let none : length c.in_ok-numbers.numbers.items ≡ 0 = grind (arith, common_steps) in
    IfOk-weaker c.leave_unmatched.result _ _
    (λ done so. seen_as s.lost at.frame.time _ _ c.leave_unmatched.new.self
    (leave_none s captures at c.args.gem seen c.in_ok-numbers.numbers.items none
    ∙ leave_found s captures at c.args.gem seen c.in_ok-numbers.numbers.items (sym c.is_unread.ensures ∙ c.if-is_unread.false)
    (sym (c.is_passed_over.ensures captures are) ∙ c.if-is_passed_over.false) found) so)
    (c.leave_unmatched.ensures.seen captures at.frame.time seen are later)

pub returns-in-Some-clause-seen : goal.returns-in-Some-clause-seen
returns-in-Some-clause-seen c = λ captures since seen are is within long.
    let s = c.args.given.now.settings in
    let at = sourced_shown c.args.at.now in
    let own : core_shown c.core_of-core.result ≡ core_in s at.frame = c.core_of-core.ensures in
    let long_own = subst (λ (core : Core). is_long c.args.self.now.shortest core ≡ true) (sym own) long in
    let numbers = c.in_ok-numbers.numbers.items in
    let found : numbers ≡ candidates s.lost at.frame.time (core_in s at.frame) seen.frames =
    c.in_ok-numbers.ensures.found since seen is within long_own ∙ ap (λ (core : Core). candidates s.lost at.frame.time core seen.frames) own in
    let later = c.candidates.ensures.seen since seen is within in
    let given : c.deref.result.now ≡ numbers = c.deref.ensures.value in
    let sure = c.in-Some.ensures seen.frames.named later.doubts ∙ ap (λ (ns : List ℕ). sure_of seen.frames.named ns) given in
    IfOk-weaker c.leave_as.result _ _
    (λ done so. seen_as s.lost at.frame.time _ _ c.leave_as.new.self
    (leave_sure s captures at c.args.gem seen numbers c.in-Some.number sure
    ∙ leave_found s captures at c.args.gem seen numbers (sym c.is_unread.ensures ∙ c.if-is_unread.false)
    (sym (c.is_passed_over.ensures captures are) ∙ c.if-is_passed_over.false) found) so)
    (c.leave_as.ensures.seen seen later)

pub returns-in-None-clause-seen : goal.returns-in-None-clause-seen
returns-in-None-clause-seen c = λ captures since seen are is within long.
    let s = c.args.given.now.settings in
    let at = sourced_shown c.args.at.now in
    let own : core_shown c.core_of-core.result ≡ core_in s at.frame = c.core_of-core.ensures in
    let long_own = subst (λ (core : Core). is_long c.args.self.now.shortest core ≡ true) (sym own) long in
    let numbers = c.in_ok-numbers.numbers.items in
    let found : numbers ≡ candidates s.lost at.frame.time (core_in s at.frame) seen.frames =
    c.in_ok-numbers.ensures.found since seen is within long_own ∙ ap (λ (core : Core). candidates s.lost at.frame.time core seen.frames) own in
    let later = c.candidates.ensures.seen since seen is within in
    let given : c.deref.result.now ≡ numbers = c.deref.ensures.value in
    let unsure = c.in-None.ensures seen.frames.named later.doubts ∙ ap (λ (ns : List ℕ). sure_of seen.frames.named ns) given in
    let some : 0 < length numbers = grind (arith, common_steps) in
    IfOk-weaker c.leave_doubtful.result _ _
    (λ done so. seen_as s.lost at.frame.time _ _ c.leave_doubtful.new.self
    (leave_unsure s captures at c.args.gem seen numbers some unsure
    ∙ leave_found s captures at c.args.gem seen numbers (sym c.is_unread.ensures ∙ c.if-is_unread.false)
    (sym (c.is_passed_over.ensures captures are) ∙ c.if-is_passed_over.false) found) so)
    (c.leave_doubtful.ensures.seen s.lost at.frame.time seen later)
