-- Each turn passes one whole record, and its frame is listed.
use Rattle.std.proofs.Common.{◌≡◌, ◌+◌, ◌==◌, ℕ, List, [], ◌∷◌, ◌++◌, false, None, length, map, vec_len, sym, ap, ◌∙◌, append_assoc, arith, Bor}
use Rattle.std.proofs.lemmas.Bool.{ne_eqb}
use Rattle.std.proofs.lemmas.List.{append-nil, map-append}
use Rattle.capture.specs.Records.{first_fault, frames_in, record_fault}
use Rattle.capture.proofs.Walk.{fault_at, fault_whole, frames_whole, frames_none}
use Rattle.capture.proofs.listed.list_records.Goals as goal

pub loop-rest-init : goal.loop-rest-init
unfolding first_fault
loop-rest-init c = record {
  fault = ap (λ n. fault_at c.args.order n c.args.records.now) c.in-Ok.ensures.len;
  frames = ap (λ (items : List (Bor (List ℕ))). map (λ frame. frame.now) items ++ frames_in c.args.order c.args.records.now) c.in-Ok.ensures.items;
  few = omega (arith, c.in-Ok.ensures.len);
}

pub loop-rest-preserved : goal.loop-rest-preserved
loop-rest-preserved c =
    let order = c.args.order in
    let rest = c.loop-rest.rest.now in
    let behind = c.in-Ok-split_record.behind.now in
    let items = c.loop-rest.list.items in
    let count = vec_len c.loop-rest.list in
    let some : (length rest == 0) ≡ false = sym c.is_empty.ensures ∙ c.loop-rest-test.true in
    let counted = c.len-count.ensures in
    let few : (count == 4294967295) ≡ false = ne_eqb count 4294967295 (λ all. omega (arith, all, c.if-count.false, counted)) in
    let whole : record_fault order rest ≡ None = sym c.in-Ok-split_record.ensures.fault in
    let more : vec_len c.push.new.self ≡ count + 1 = c.in-Ok-push.ensures.len in
    let pushed = c.in-Ok-push.ensures.items in
    let first : c.in-Ok-split_record.frame.now ∷ frames_in order behind ≡ frames_in order rest =
    rw (c.in-Ok-split_record.ensures.frame, c.in-Ok-split_record.ensures.behind) (sym (frames_whole order rest whole)) in
    record {
      fault = ap (λ n. fault_at order n behind) more
          ∙ ap (λ (left : List ℕ). fault_at order (count + 1) left) c.in-Ok-split_record.ensures.behind
          ∙ sym (fault_whole order count rest some few whole) ∙ c.loop-rest.invariant.fault;
      frames = ap (λ (all : List (Bor (List ℕ))). map (λ frame. frame.now) all ++ frames_in order behind) pushed
          ∙ ap (λ (all : List (List ℕ)). all ++ frames_in order behind) (map-append (λ (frame : Bor (List ℕ)). frame.now) items (c.in-Ok-split_record.frame ∷ []))
          ∙ append_assoc (map (λ (frame : Bor (List ℕ)). frame.now) items) (c.in-Ok-split_record.frame.now ∷ []) (frames_in order behind)
          ∙ ap (λ (all : List (List ℕ)). map (λ (frame : Bor (List ℕ)). frame.now) items ++ all) first
          ∙ c.loop-rest.invariant.frames;
      few = omega (arith, more, c.if-count.false, counted);
    }

pub returns-clause-frames : goal.returns-clause-frames
returns-clause-frames c =
    let none : frames_in c.args.order c.loop-rest.rest.now ≡ [] = frames_none c.args.order c.loop-rest.rest.now (sym c.is_empty.ensures ∙ c.loop-rest-test.false) in
    let listed = map (λ (frame : Bor (List ℕ)). frame.now) c.loop-rest.list.items in
    sym (append-nil listed) ∙ ap (λ (left : List (List ℕ)). listed ++ left) (sym none) ∙ c.loop-rest.invariant.frames
