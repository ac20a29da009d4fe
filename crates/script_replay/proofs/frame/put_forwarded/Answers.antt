use Rattle.hex.specs.Hex.{encode_lower}
use Rattle.std.specs.Fmt.{decimal}
use Rattle.std.specs.List.{flat_map}
use Rattle.tag_view.specs.Tag.{tag_bytes}
use Rattle.script_replay.proofs.Messages.{frame_digits, line_parts}
use Rattle.script_replay.proofs.frame.put_forwarded.Goals as goal

pub returns-clause-items : goal.returns-clause-items
returns-clause-items c rest is =
    rw (
      c.put-4.ensures.items,
      c.put_lower.ensures.items rest is,
      c.put_tags.ensures.items,
      c.put_digits.ensures.items,
      c.put-3.ensures.items,
      c.put-2.ensures.items,
      c.put.ensures.items,
      c.as_bytes.ensures.value,
      c.format.ensures.text,
      c.addresses.ensures.value,
      c.tags.ensures.value,
      frame_digits c.args.frame.now.addresses c.args.frame.now.tags rest,
    )
    (line_parts c.args.answers.now.items (decimal c.args.gem) (encode_lower c.args.frame.now.addresses) (encode_lower (flat_map tag_bytes c.args.frame.now.tags)) (encode_lower rest))
