use Rattle.std.proofs.Common.{◌≡◌, ◌∷◌, Some, sym, ap, ◌∙◌, subst, rules}
use Rattle.plan_publish.specs.Requests.{StartsWithEach}
use Rattle.plan_publish.specs.Lane.{held_by}
use Rattle.plan_publish.proofs.Beginnings.{version_grows}
use Rattle.test_batches.proofs.lane_tests.hold_twice.Goals as goal

pub returns : goal.returns
returns c =
    let one = c.in_ok-held.ensures.holds in
    let two = c.in_ok-held-2.ensures.holds in
    let back : held_by c.leave.new.self.0 ≡ Some two.0 = search rules in
    let lists : Some two.0 ≡ Some (one.2.now ∷ one.0) = sym back ∙ (c.leave.ensures.lists ∙ ap Some one.2.held) in
    let same : two.0 ≡ one.2.now ∷ one.0 = cc lists in
    let begins = subst (StartsWithEach two.2.now) same two.2.begins_held in
    let first = c.version-first.ensures ∙ one.2.version_is in
    let second = c.version.ensures ∙ two.2.version_is in
    rw (first, second) (version_grows two.2.now one.2.now begins.0)
