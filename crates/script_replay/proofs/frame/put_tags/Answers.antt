use Rattle.std.proofs.Common.{sym, arith, append_assoc}
use Rattle.std.proofs.lemmas.List.{append-nil}
use Rattle.hex.specs.Hex.{encode_with}
use Rattle.script_replay.proofs.Messages.{tags_more}
use Rattle.script_replay.proofs.frame.put_tags.Goals as goal

pub loop-tag-init : goal.loop-tag-init
unfolding encode_with
loop-tag-init c = record { items = sym (append-nil c.args.answers.now.items); len = omega arith; capacity = omega arith }

pub loop-tag-preserved : goal.loop-tag-preserved
loop-tag-preserved c =
    let more = tags_more c.args.tags.now c.loop-tag.tag-index c.tag-item.result (omega arith) c.tag-item.is in
    record {
      items = rw (c.put_digits.ensures.items, c.loop-tag.invariant.items, c.bytes.ensures, more) (append_assoc c.args.answers.now.items _ _);
      len = omega arith;
      capacity = omega arith;
    }
