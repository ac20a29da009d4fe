use Rattle.std.proofs.Common.{◌≡◌, ◌≤◌, ◌<◌, ◌+◌, length, take, sym, arith}
use Rattle.std.specs.Prelude.{vec_len, vec_capacity}
use Rattle.std.specs.List.{concat}
use Rattle.std.proofs.lemmas.List.{take_all}
use Rattle.mib_state.proofs.Parts.{concat_more, missing}
use Rattle.mib_state.proofs.latch.Latch.take.Goals as goal
use Rattle.mib_state.proofs.latch.Latch.take.Goals.{in-Some, in_default}

pub loop-place-preserved : goal.loop-place-preserved
loop-place-preserved c =
    let kept = c.loop-place.invariant in
    let inside : c.loop-place.place < length c.args.table.now = omega (arith, c.len-place-end.ensures.value, c.loop-place-test.true) in
    elim c.match-entry.branch [
      | in-Some w ↦
          let wide : length w.in-Some.entry.0 ≡ 16 = omega arith in
          let room : vec_len c.loop-place.self-inside.bytes + length w.in-Some.entry.0 ≤ vec_capacity c.loop-place.self-inside.bytes =
          omega (arith, kept.count, kept.room, c.len-place-end.ensures.limit, c.loop-place-test.true) in
          let done = w.extend_from_slice.ensures.succeeds room in
          let items = rw done at w.extend_from_slice.ensures.items in
          let count = rw done at w.extend_from_slice.ensures.len in
          let more = concat_more c.args.table.now c.loop-place.place w.in-Some.entry.0 (sym w.in-Some.ensures) in
          rw w.self-inside-is (record {
            number = kept.number;
            bytes = rw (items, kept.bytes, more);
            count = omega (arith, count, wide, kept.count);
            room = omega (arith, kept.room, w.extend_from_slice.ensures.capacity);
          })
      | in_default w ↦ absurd (missing c.args.table.now c.loop-place.place inside (sym w.in_default.ensures))
    ]

pub returns : goal.returns
returns c =
    let past : length c.args.table.now ≤ c.loop-place.place = omega (arith, c.len-place-end.ensures.value, c.loop-place-test.false) in
    let all : take c.loop-place.place c.args.table.now ≡ c.args.table.now = take_all _ _ past in
    let bytes : c.loop-place.self-inside.bytes.items ≡ concat c.args.table.now = rw all at c.loop-place.invariant.bytes in
    rw (c.loop-place.invariant.number, bytes)
