use Rattle.std.proofs.Common.{◌≡◌, ◌<◌, ◌^◌, ◌+◌, ◌∙◌, ℕ, length, refl, ap, subst, arith}
use Rattle.std.proofs.lemmas.Result.{err_from_is_err_and}
use Rattle.std.specs.Io.KnownBytes.{Appends}
use Rattle.frame_meaning.specs.Meaning.{meaning, table_at}
use Rattle.frame_stats.specs.Figures.{Frames}
use Rattle.text_writing.specs.Written.{AppendsPart}
use Rattle.bench_forward.specs.Drops.{dropped_by}
use Rattle.bench_forward.specs.Entries.{entry_number}
use Rattle.bench_forward.specs.Frames.{is_cut, left_by, verdict_on}
use Rattle.bench_forward.specs.Outputs.{known_in}
use Rattle.bench_forward.specs.Packets.{blocks_from, gems_behind}
use Rattle.bench_forward.specs.Totals.{CountsOneMore}
use Rattle.bench_forward.proofs.OneMore.{one_frame}
use Rattle.bench_forward.proofs.Sizes.{fits}
use Rattle.bench_forward.proofs.forwarding.forward_frame.Goals as goal

pub write_frame-requires : goal.write_frame-requires
write_frame-requires g c =
    let few : length c.bytes.result.now < 2 ^ 63 = omega arith in
    fits c.args.setting.now.mib.now.entities c.args.setting.now.port c.bytes.result.now c.forward-verdict.result (c.forward-verdict.ensures.verdict c.args.setting.now.mib.now.entities c.args.setting.now.port c.args.setting.now.planned) c.forward-verdict.ensures.size few

pub returns-in_err-write_frame-clause-leaves : goal.returns-in_err-write_frame-clause-leaves
unfolding entry_number
returns-in_err-write_frame-clause-leaves g c =
    let e = c.args.setting.now.mib.now.entities in
    let port = c.args.setting.now.port in
    let frame = c.args.frame.now in
    let gems = c.args.state.now.interfaces in
    let verdict : c.forward-verdict.result ≡ verdict_on e port frame = c.forward-verdict.ensures.verdict c.args.setting.now.mib.now.entities c.args.setting.now.port c.args.setting.now.planned ∙ ap (meaning e port) c.bytes.ensures in
    let number : c.frames-number.result + 1 ≡ c.args.state.now.totals.frames + 1 = ap (λ (n : ℕ). n + 1) c.frames-number.ensures in
    let table = table_at e port in
    let p = err_from_is_err_and c.from_residual.result c.from_residual.ensures.1 in
    rw (p.1, p.2) (record {
      packets = subst (λ n. AppendsPart (known_in g.W.Write.contents c.args.outputs.now.packets) (known_in g.W.Write.contents c.write_frame.new.outputs.packets)
          (blocks_from gems (left_by n frame.time (verdict_on e port frame)))) number
          (subst (λ v. AppendsPart (known_in g.W.Write.contents c.args.outputs.now.packets) (known_in g.W.Write.contents c.write_frame.new.outputs.packets)
          (blocks_from gems (left_by (c.frames-number.result + 1) frame.time v))) verdict c.in_err-write_frame.ensures.packets_part);
      drops = subst (λ n. AppendsPart (known_in g.D.Write.contents c.args.outputs.now.dropped) (known_in g.D.Write.contents c.write_frame.new.outputs.dropped)
          (dropped_by n frame (verdict_on e port frame))) number
          (subst (λ v. AppendsPart (known_in g.D.Write.contents c.args.outputs.now.dropped) (known_in g.D.Write.contents c.write_frame.new.outputs.dropped)
          (dropped_by (c.frames-number.result + 1) frame v)) verdict c.in_err-write_frame.ensures.drops_part);
      lines = rw (← number, ← verdict) (c.in_err-write_frame.ensures.lines_part table c.requires);
      totals = refl;
    })

pub returns-clause-leaves : goal.returns-clause-leaves
unfolding entry_number
returns-clause-leaves g c =
    let e = c.args.setting.now.mib.now.entities in
    let port = c.args.setting.now.port in
    let frame = c.args.frame.now in
    let gems = c.args.state.now.interfaces in
    let verdict : c.forward-verdict.result ≡ verdict_on e port frame = c.forward-verdict.ensures.verdict c.args.setting.now.mib.now.entities c.args.setting.now.port c.args.setting.now.planned ∙ ap (meaning e port) c.bytes.ensures in
    let number : c.frames-number.result + 1 ≡ c.args.state.now.totals.frames + 1 = ap (λ (n : ℕ). n + 1) c.frames-number.ensures in
    let table = table_at e port in
    record {
      packets = subst (λ n. Appends (known_in g.W.Write.contents c.args.outputs.now.packets) (known_in g.W.Write.contents c.write_frame.new.outputs.packets)
          (blocks_from gems (left_by n frame.time (verdict_on e port frame)))) number
          (subst (λ v. Appends (known_in g.W.Write.contents c.args.outputs.now.packets) (known_in g.W.Write.contents c.write_frame.new.outputs.packets)
          (blocks_from gems (left_by (c.frames-number.result + 1) frame.time v))) verdict c.in_ok-write_frame.ensures.packets);
      drops = subst (λ n. Appends (known_in g.D.Write.contents c.args.outputs.now.dropped) (known_in g.D.Write.contents c.write_frame.new.outputs.dropped)
          (dropped_by n frame (verdict_on e port frame))) number
          (subst (λ v. Appends (known_in g.D.Write.contents c.args.outputs.now.dropped) (known_in g.D.Write.contents c.write_frame.new.outputs.dropped)
          (dropped_by (c.frames-number.result + 1) frame v)) verdict c.in_ok-write_frame.ensures.drops);
      lines = rw (← number, ← verdict) (c.in_ok-write_frame.ensures.lines table c.requires);
      interfaces = subst (λ n. c.write_frame.new.interfaces ≡ gems_behind gems (left_by n frame.time (verdict_on e port frame))) number
          (subst (λ v. c.write_frame.new.interfaces ≡ gems_behind gems (left_by (c.frames-number.result + 1) frame.time v)) verdict
          c.in_ok-write_frame.ensures.interfaces);
      totals = subst (λ v. CountsOneMore c.args.state.now.totals v (is_cut frame) c.count.new.self) verdict
          (subst (λ cut. CountsOneMore c.args.state.now.totals c.forward-verdict.result cut c.count.new.self) c.is_cut.ensures c.count.ensures);
    }

pub returns-clause-counted : goal.returns-clause-counted
returns-clause-counted g c =
    c.count.ensures.figures Frames ∙ ap (λ (n : ℕ). c.args.state.now.totals.frames + n) (one_frame c.forward-verdict.result)
