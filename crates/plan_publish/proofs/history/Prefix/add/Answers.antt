use Rattle.std.proofs.Common.{◌≡◌, ◌==◌, true, [], ◌∷◌, ◌++◌, length, length-append, sym, ◌∙◌, ap, arith}
use Rattle.std.proofs.lemmas.Bool.Decides.{nat_tests}
use Rattle.plan_publish.specs.Requests.{last_of}
use Rattle.plan_publish.proofs.Beginnings.{last_of-push}
use Rattle.omci_msg.specs.declared.Request.{Request}
use Rattle.plan_publish.proofs.Adding.{adds_moves}
use Rattle.plan_publish.proofs.history.Prefix.add.Goals as goal

pub compare_exchange-found-requires : goal.compare_exchange-found-requires
compare_exchange-found-requires c =
    let h = c.requires in
    let again = c.again-seen.ensures in
    let offer = c.plain-offer.ensures in
    let pen = c.no_pen-pen.ensures in
    let book = ap (λ s. s.book) again ∙ sym (ap (λ w. w.book) h) in
    let len : length c.again-seen.result.log ≡ c.args.self.now.len = ap (λ s. length s.log) again ∙ sym c.args.self.now.counted in (
      ap (λ w. w.tracked) h,
      book,
      pen.0 ∙ book,
      offer.0,
      rw (ap (λ w. w.key) h, pen.1, offer.1, offer.3) (adds_moves c.again-seen.result.log c.args.request.now c.args.self.now.len len),
    )

pub invariant_of-drop : goal.invariant_of-drop
invariant_of-drop c =
    let found : (c.compare_exchange-found.result == c.args.self.now.len) ≡ true = let f = c.if-found-len.false in grind (arith, nat_tests) in
    let more = rw found at c.compare_exchange-found.ensures.7 in
    let ask : c.plain-offer.result.ask ≡ c.args.request.now = c.plain-offer.ensures.1 in
    let log : c.compare_exchange-found.new.seen.log ≡ c.again-seen.result.log ++ c.args.request.now ∷ [] = more ∙ ap (λ (q : Request). c.again-seen.result.log ++ q ∷ []) ask in
    let len : length c.again-seen.result.log ≡ c.args.self.now.len = ap (λ s. length s.log) c.again-seen.ensures ∙ sym c.args.self.now.counted in
    record {
      counted = omega (arith, ap length log, length-append c.again-seen.result.log (c.args.request.now ∷ []), len);
      small = let h = c.if-len-ge-MOST.false in omega arith;
      ends = sym (ap last_of log ∙ last_of-push c.again-seen.result.log c.args.request.now);
    }
