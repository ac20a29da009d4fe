-- The record is held whole, so it is that of what is left.
use Rattle.std.proofs.Common.{◌≡◌, ◌≤◌, ◌<◌, ◌-◌, ◌∙◌, ℕ, List, None, ap, sym, drop, length, arith}
use Rattle.capture.specs.Records.{behind_first, first_frame, record_fault}
use Rattle.capture_pieces.specs.Joined.{file_of}
use Rattle.capture_pieces.proofs.Passing.{fault_there, frame_there, goes_on, stays}
use Rattle.capture_pieces.proofs.records.Records.pass.Goals as goal
use Rattle.capture_pieces.proofs.records.Records.pass.Goals.{then-rest-tail, else-rest-tail}

pub returns-in-Err-clause-fault : goal.returns-in-Err-clause-fault
returns-in-Err-clause-fault c =
    c.in-Err.ensures.fault
    ∙ sym (fault_there c.args.order c.self.inside.pieces.now c.self.inside.rest.now c.in-Some.piece.now c.in-Some.behind.now c.in-Some.ensures.cases.0 c.self.invariant)
    ∙ ap (λ (l : List ℕ). record_fault c.args.order l) c.self.view_is

pub invariant_of-self : goal.invariant_of-self
invariant_of-self c =
    let tail : length c.in-Some.piece.now.bytes.items - c.in-Some.piece.now.own < length c.in-Ok.parts.1.now = omega (arith, c.if-rest-tail.true, c.len.ensures) in
    (stays c.args.order c.self.inside.pieces.now c.self.inside.rest.now c.in-Some.piece.now c.in-Some.behind.now c.in-Some.ensures.cases.0 c.self.invariant
    c.in-Ok.parts.1.now (sym c.in-Ok.ensures.fault) c.in-Ok.ensures.behind c.in-Ok.ensures.shorter tail).0

pub returns-clause-fault : goal.returns-clause-fault
returns-clause-fault c =
    c.in-Ok.ensures.fault
    ∙ sym (fault_there c.args.order c.self.inside.pieces.now c.self.inside.rest.now c.in-Some.piece.now c.in-Some.behind.now c.in-Some.ensures.cases.0 c.self.invariant)
    ∙ ap (λ (l : List ℕ). record_fault c.args.order l) c.self.view_is

pub returns-clause-frame : goal.returns-clause-frame
returns-clause-frame c =
    c.in-Ok.ensures.frame
    ∙ sym (frame_there c.args.order c.self.inside.pieces.now c.self.inside.rest.now c.in-Some.piece.now c.in-Some.behind.now c.in-Some.ensures.cases.0 c.self.invariant (sym c.in-Ok.ensures.fault))
    ∙ ap (λ (l : List ℕ). first_frame c.args.order l) c.self.view_is

pub returns-clause-behind : goal.returns-clause-behind
returns-clause-behind c =
    let order = c.args.order in
    let pieces = c.self.inside.pieces.now in
    let rest : List ℕ = c.self.inside.rest.now in
    let p = c.in-Some.piece.now in
    let behind = c.in-Some.behind.now in
    let left : List ℕ = c.in-Ok.parts.1.now in
    let first = c.in-Some.ensures.cases.0 in
    let whole : record_fault order rest ≡ None = sym c.in-Ok.ensures.fault in
    let view = ap (λ (l : List ℕ). behind_first order l) c.self.view_is in
    elim c.if-rest-tail.branch [
      | then-rest-tail w ↦
          let long : length p.bytes.items - p.own < length left = omega (arith, w.if-rest-tail.true, c.len.ensures) in
          w.self-is ∙ (stays order pieces rest p behind first c.self.invariant left whole c.in-Ok.ensures.behind c.in-Ok.ensures.shorter long).1 ∙ view
      | else-rest-tail w ↦
          let short : length left ≤ length p.bytes.items - p.own = omega (arith, w.if-rest-tail.false, c.len.ensures) in
          let size : c.len.result ≡ length p.bytes.items = omega (arith, c.len.ensures) in
          w.self-is ∙ w.self-else-rest-tail.view_is ∙ w.from_place.ensures ∙ ap (λ n. drop (n - p.own - length left) (file_of behind)) size ∙ (goes_on order pieces rest p behind first c.self.invariant left whole c.in-Ok.ensures.behind short).1 ∙ view
    ]
