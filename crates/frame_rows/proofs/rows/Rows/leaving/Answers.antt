use Rattle.std.proofs.Common.{◌≡◌, arith}
use Rattle.frame_rows.proofs.Written.{left_both, left_first, left_none, left_second}
use Rattle.frame_rows.proofs.rows.Rows.leaving.Goals as goal
use Rattle.frame_rows.proofs.rows.Rows.leaving.Goals.{then-row-eq0+then-count-gt0, else-row-eq0, else-row-eq0-via-then-row-eq0+else-count-gt0, else-row-eq0-via-else-row-eq0}
use Rattle.frame_rows.proofs.rows.Rows.leaving.Goals.{else-row-lt2-via-then-row-lt2+else-count-eq2, else-row-lt2-via-else-row-lt2}

pub returns-then-count-eq2 : goal.returns-then-count-eq2
returns-then-count-eq2 c =
    let settings = c.args.self.now.settings in let count = c.args.count in let row = c.args.row.now in let values = c.args.values.now in
    elim c.if-row-eq0.branch [
      | then-row-eq0+then-count-gt0 w ↦
          let more : c.if-row-eq0.tags.items ≡ w.push.new.self.items = cc in
          left_both settings count row values c.written-tags.result.items w.push.new.self.items c.push-then-count-eq2.new.self.items w.first_slot.result
          c.second_slot.result c.written-tags.ensures.items w.first_slot.ensures w.push.ensures.items c.second_slot.ensures
          (rw (← more) (c.push-then-count-eq2.ensures.items)) w.if-row-eq0.true c.if-count-eq2.true
      | else-row-eq0 w ↦
          let same : c.if-row-eq0.tags.items ≡ c.written-tags.result.items = cc in
          elim w.else-row-eq0.branch [
            | else-row-eq0-via-then-row-eq0+else-count-gt0 w' ↦ absurd (omega arith)
            | else-row-eq0-via-else-row-eq0 w' ↦
                left_second settings count row values c.written-tags.result.items c.push-then-count-eq2.new.self.items c.second_slot.result
                c.written-tags.ensures.items c.second_slot.ensures (rw (← same) (c.push-then-count-eq2.ensures.items)) (omega arith) c.if-count-eq2.true
          ]
    ]

pub returns-else-row-lt2 : goal.returns-else-row-lt2
returns-else-row-lt2 c =
    let settings = c.args.self.now.settings in let count = c.args.count in let row = c.args.row.now in let values = c.args.values.now in
    elim c.if-row-eq0.branch [
      | then-row-eq0+then-count-gt0 w ↦
          let more : c.if-row-eq0.tags.items ≡ w.push.new.self.items = cc in
          left_first settings count row values c.written-tags.result.items c.if-row-eq0.tags.items w.first_slot.result c.written-tags.ensures.items
          w.first_slot.ensures (rw more (w.push.ensures.items)) w.if-row-eq0.true
          (elim c.else-row-lt2.branch [
            | else-row-lt2-via-then-row-lt2+else-count-eq2 v ↦ omega arith
            | else-row-lt2-via-else-row-lt2 v ↦ absurd (omega arith)
          ])
      | else-row-eq0 w ↦
          let same : c.if-row-eq0.tags.items ≡ c.written-tags.result.items = cc in
          rw same (left_none settings count row values c.written-tags.result.items c.written-tags.ensures.items
          (elim w.else-row-eq0.branch [
            | else-row-eq0-via-then-row-eq0+else-count-gt0 w' ↦ omega arith
            | else-row-eq0-via-else-row-eq0 w' ↦ elim c.else-row-lt2.branch [
              | else-row-lt2-via-then-row-lt2+else-count-eq2 v ↦ omega arith
              | else-row-lt2-via-else-row-lt2 v ↦ omega arith
            ]
          ]) c.requires.two)
    ]
