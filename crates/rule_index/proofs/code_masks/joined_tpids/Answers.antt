use Rattle.std.proofs.Common.{◌==◌, ◌/◌, ◌%◌, ◌∙◌, arith}
use Rattle.std.proofs.lemmas.List.{length-set}
use Rattle.rule_index.specs.Codes.{joined_tpid}
use Rattle.rule_index.proofs.MaskLaws.{set-next}
use Rattle.rule_index.proofs.code_masks.joined_tpids.Goals as goal

pub loop-k-preserved : goal.loop-k-preserved
loop-k-preserved c =
    let joined = c.loop-k.joined in
    let invariant = c.loop-k.invariant in
    record {
      len = length-set joined c.loop-k.k c.joined_tpid.result ∙ invariant.len;
      done = set-next (λ k. joined_tpid c.args.masks.now (k / 4 == 1) (k / 2 % 2 == 1) (k % 2 == 1)) joined c.loop-k.k c.joined_tpid.result
          (omega (arith, invariant.len)) c.joined_tpid.ensures invariant.done;
    }
