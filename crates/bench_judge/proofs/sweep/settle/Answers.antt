use Rattle.std.proofs.Common.{◌≡◌, ◌<◌, ◌≤◌, ◌-◌, ◌∙◌, ℕ, suc, Bool, List, Some, None, ap, arith, subst, sym, refl, length, set, get_or-set_same, length-set, inl, inr}
use Rattle.std.specs.Prelude.{MatchBool, slice_get, slice_index}
use Rattle.std.specs.Vec.{with_item}
use Rattle.std.proofs.lemmas.Bool.{ltb-true}
use Rattle.std.proofs.lemmas.Bool.Decides.{leb_tells}
use Rattle.std.proofs.lemmas.Grind.{get_or_default_zero}
use Rattle.std.proofs.lemmas.Option.{slice_get_past, slice_get_read}
use Rattle.bench_judge.specs.Frames.{MayHave}
use Rattle.bench_judge.specs.Sweep.{IsSlot, IsSoFar, NoneFit}
use Rattle.bench_judge.specs.declared.frame.Frame.{Frame}
use Rattle.bench_judge.specs.declared.sweep.SweepState.{SweepState}
use Rattle.bench_judge.proofs.Settling.{none_fits, passes, settles}
use Rattle.bench_judge.proofs.sweep.settle.Goals as goal

same_frame : (frames : List Frame) (n m : ℕ) (one other : Frame) → n ≡ m → slice_get frames n ≡ Some one → slice_get frames m ≡ Some other → one ≡ other
same_frame frames n m one other e is are =
    let same : Some one ≡ Some other = sym is ∙ ap (slice_get frames) e ∙ are in
    cc same

pub each_head-preserved : goal.each_head-preserved
each_head-preserved c =
    let frames = c.args.case.now.frames.now in
    let slot = c.args.slot in
    let v = c.args.version in
    let old = c.each_head.sweep in
    let waiting = old.waiting.items in
    let inv = c.each_head.invariant in
    let read = c.in-Some.ensures.lookup in
    let here : slot < length waiting = omega (arith, inv.slots, c.requires.slot) in
    let head : c.index.result.now ≡ slice_index waiting slot = c.index.ensures ∙ get_or_default_zero waiting slot c.index.result.now here in
    let some : c.index.result.now < length frames = ltb-true c.index.result.now (length frames) (sym read.0) in
    let at : slice_get frames c.index.result.now ≡ Some c.in-Some.frame.now = slice_get_read frames (length frames) c.index.result.now c.in-Some.frame.now refl some read.1 in
    let number : c.index-number.result.now ≡ slice_index waiting slot = c.index-number.ensures ∙ get_or_default_zero waiting slot c.index-number.result.now here in
    let linked : c.index-number.result.now < length old.next.items = omega (arith, number, head, some, inv.whole.links) in
    let behind : c.index-in-Some.result.now ≡ slice_index old.next.items (slice_index waiting slot) =
    c.index-in-Some.ensures ∙ get_or_default_zero old.next.items c.index-number.result.now c.index-in-Some.result.now linked ∙ ap (slice_index old.next.items) number in
    let is_slot : IsSlot frames waiting slot = record { within = here; some = omega (arith, head, some) } in
    record {
      slots = length-set waiting slot c.index-in-Some.result.now ∙ inv.slots;
      whole = record { links = inv.whole.links; versions = length-set old.versions.items c.index-number.result.now v ∙ inv.whole.versions; ahead = inv.whole.ahead };
      so_far = λ at_version was.
          settles c.args.case.now.unordered c.args.case.now.events.now c.args.case.now.requests.now frames v slot old
          (record {
            next = old.next;
            waiting = with_item old.waiting slot c.index-in-Some.result.now;
            versions = with_item old.versions c.index-number.result.now v;
            buffers = c.may_have.new.buffers;
          })
          is_slot inv.whole.versions inv.whole.ahead (inv.so_far at_version was)
          (λ frame is.
          subst (λ (f : Frame). MayHave c.args.case.now.padded c.args.case.now.events.now c.args.case.now.requests.now f v)
          (same_frame frames c.index.result.now (slice_index waiting slot) c.in-Some.frame.now frame head at is)
          ((c.may_have.ensures at_version (ap (slice_get frames) (number ∙ sym head) ∙ at)).0 c.if-not-may_have.false))
          refl (ap (set waiting slot) behind) (ap (λ (n : ℕ). set old.versions.items n v) number);
    }

pub each_head-smaller : goal.each_head-smaller
each_head-smaller c =
    let frames = c.args.case.now.frames.now in
    let slot = c.args.slot in
    let old = c.each_head.sweep in
    let waiting = old.waiting.items in
    let inv = c.each_head.invariant in
    let read = c.in-Some.ensures.lookup in
    let here : slot < length waiting = omega (arith, inv.slots, c.requires.slot) in
    let head : c.index.result.now ≡ slice_index waiting slot = c.index.ensures ∙ get_or_default_zero waiting slot c.index.result.now here in
    let some : c.index.result.now < length frames = ltb-true c.index.result.now (length frames) (sym read.0) in
    let number : c.index-number.result.now ≡ slice_index waiting slot = c.index-number.ensures ∙ get_or_default_zero waiting slot c.index-number.result.now here in
    let linked : c.index-number.result.now < length old.next.items = omega (arith, number, head, some, inv.whole.links) in
    let behind : c.index-in-Some.result.now ≡ slice_index old.next.items c.index-number.result.now =
    c.index-in-Some.ensures ∙ get_or_default_zero old.next.items c.index-number.result.now c.index-in-Some.result.now linked in
    let now : slice_index (set waiting slot c.index-in-Some.result.now) slot ≡ c.index-in-Some.result.now = get_or-set_same waiting slot c.index-in-Some.result.now 0 here in
    let further = inv.whole.ahead c.index-number.result.now (omega (arith, number, head, some)) in
    let less : length frames - slice_index (set waiting slot c.index-in-Some.result.now) slot < length frames - slice_index waiting slot =
    omega (arith, now, behind, further, number, head, some) in
    less

pub returns-clause-so_far : goal.returns-clause-so_far
returns-clause-so_far c at_version was =
    let frames = c.args.case.now.frames.now in
    let slot = c.args.slot in
    let waiting = c.each_head.sweep.waiting.items in
    let inv = c.each_head.invariant in
    let here : slot < length waiting = omega (arith, inv.slots, c.requires.slot) in
    let head : c.index.result.now ≡ slice_index waiting slot = c.index.ensures ∙ get_or_default_zero waiting slot c.index.result.now here in
    let none : slice_get frames (slice_index waiting slot) ≡ None = sym (ap (slice_get frames) head) ∙ slice_get_past frames c.index.result.now c.in_default.ensures.lookup.3 in
    passes c.args.case.now.unordered c.args.case.now.events.now c.args.case.now.requests.now frames c.args.version slot c.each_head.sweep (inv.so_far at_version was)
    (record {
      may_not = λ frame at may. let differ : Some frame ≡ None = sym at ∙ none in absurd (cc differ);
      room = λ frame at. let differ : Some frame ≡ None = sym at ∙ none in absurd (cc differ);
    })

pub returns-then-not-may_have-clause-so_far : goal.returns-then-not-may_have-clause-so_far
returns-then-not-may_have-clause-so_far c at_version was =
    let padded = c.args.case.now.padded in
    let unordered = c.args.case.now.unordered in
    let requests = c.args.case.now.requests.now in
    let events = c.args.case.now.events.now in
    let frames = c.args.case.now.frames.now in
    let slot = c.args.slot in
    let v = c.args.version in
    let old = c.each_head.sweep in
    let waiting = old.waiting.items in
    let inv = c.each_head.invariant in
    let read = c.in-Some.ensures.lookup in
    let frame = c.in-Some.frame.now in
    let here : slot < length waiting = omega (arith, inv.slots, c.requires.slot) in
    let head : c.index.result.now ≡ slice_index waiting slot = c.index.ensures ∙ get_or_default_zero waiting slot c.index.result.now here in
    let some : c.index.result.now < length frames = ltb-true c.index.result.now (length frames) (sym read.0) in
    let at : slice_get frames c.index.result.now ≡ Some frame = slice_get_read frames (length frames) c.index.result.now frame refl some read.1 in
    let at_head : slice_get frames (slice_index waiting slot) ≡ Some frame = sym (ap (slice_get frames) head) ∙ at in
    let is_slot : IsSlot frames waiting slot = record { within = here; some = omega (arith, head, some) } in
    let is = inv.so_far at_version was in
    let new : SweepState = record { next = old.next; waiting = old.waiting; versions = old.versions; buffers = c.may_have.new.buffers } in
    let is_new : IsSoFar padded unordered events requests frames v slot new = record { done = is.done; linked = is.linked; waiting = is.waiting; settled = is.settled; tried = is.tried } in
    let number : c.index-number.result.now ≡ slice_index waiting slot = c.index-number.ensures ∙ get_or_default_zero waiting slot c.index-number.result.now here in
    let may_not : MayHave padded events requests frame v → ⊥ =
    (λ may. let yes = (c.may_have.ensures at_version (ap (slice_get frames) (number ∙ sym head) ∙ at)).1 may in let is_not = c.if-not-may_have.true in absurd (cc (yes, is_not))) in
    elim (leb_tells (suc v) frame.most) [
      | inl goes_on ↦
          subst (λ (b : Bool). MatchBool b (IsSoFar padded unordered events requests frames v (suc slot) new) (NoneFit padded unordered events requests frames)) (sym goes_on.0)
          (passes unordered events requests frames v slot new is_new
          (record {
            may_not = λ other is_there may. may_not (subst (λ (f : Frame). MayHave padded events requests f v) (same_frame frames (slice_index waiting slot) (slice_index waiting slot) other frame refl is_there at_head) may);
            room = λ other is_there. subst (λ (f : Frame). suc v ≤ f.most) (same_frame frames (slice_index waiting slot) (slice_index waiting slot) frame other refl at_head is_there) goes_on.1;
          }))
      | inr ends ↦
          subst (λ (b : Bool). MatchBool b (IsSoFar padded unordered events requests frames v (suc slot) new) (NoneFit padded unordered events requests frames)) (sym ends.0)
          (none_fits unordered events requests frames v slot new frame is_slot is_new at_head may_not (let below : frame.most < suc v = ends.1 in omega (arith, below)))
    ]
