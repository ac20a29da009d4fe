use Rattle.std.proofs.Common.{◌≡◌, ◌⊎◌, ℕ, Option, Some, arith, false, length, subst, sym}
use Rattle.std.specs.Prelude.{Contains}
use Rattle.frame_rows.specs.Source.{dscp_in}
use Rattle.frame_classes.specs.Choices.{IsUnnamed, is_named}
use Rattle.frame_classes.specs.Splitting.{HasSeveral}
use Rattle.frame_classes.proofs.Several.{covered_kept}
use Rattle.frame_classes.proofs.Vids.{dscp_small, one_more}
use Rattle.frame_classes.proofs.choices.Case.put_each_dscp.Goals as goal

pub loop-dscp-preserved : goal.loop-dscp-preserved
loop-dscp-preserved c =
    let rows = c.args.self.now.rows.now in
    let places = c.args.self.now.left.now in
    let count = length c.args.self.now.sides.now.sides.now in
    let few = c.loop-dscp.invariant.few in
    let len = c.put_dscp.ensures.len in
    record {
      few = omega (arith, few, len);
      fit = c.put_dscp.ensures.fit c.loop-dscp.invariant.fit;
      others = λ v d small less.
          one_more
          (λ (d : ℕ). dscp_in c.args.packet v ≡ Some d → is_named rows places c.args.field v ≡ false
          → Contains c.put_dscp.new.choices.items v
          ⊎ HasSeveral count (λ e. Contains c.put_dscp.new.choices.items e × IsUnnamed rows places c.args.field c.args.packet (Some d) e)) c.loop-dscp.dscp
          (λ n before is free.
          covered_kept count (IsUnnamed rows places c.args.field c.args.packet (Some n)) c.loop-dscp.choices.items c.put_dscp.new.choices.items v
          c.put_dscp.ensures.kept (c.loop-dscp.invariant.others v n small before is free))
          (c.put_dscp.ensures.others v small) d less;
    }

pub returns-clause-others : goal.returns-clause-others
returns-clause-others c = λ v small free.
    let rows = c.args.self.now.rows.now in
    let places = c.args.self.now.left.now in
    let count = length c.args.self.now.sides.now.sides.now in
    let found = dscp_small c.args.packet v c.requires.has in
    let less = found.1.0 in
    subst
    (λ (d : Option ℕ). Contains c.loop-dscp.choices.items v
    ⊎ HasSeveral count (λ e. Contains c.loop-dscp.choices.items e × IsUnnamed rows places c.args.field c.args.packet d e)) (sym found.1.1)
    (c.loop-dscp.invariant.others v found.0 small (omega arith) found.1.1 free)
