use Rattle.std.proofs.Common.{arith, ap, length, length-append}
use Rattle.std.specs.List.{flat_map}
use Rattle.tag_view.specs.Tag.{tag_bytes}
use Rattle.frame_meaning.proofs.Spellings.{length-tags}
use Rattle.bench_sight.proofs.head.head_length.Goals as goal

pub returns-clause-length : goal.returns-clause-length
returns-clause-length c =
    let frame = c.args.frame.now in
    omega (arith, length-append frame.addresses (flat_map tag_bytes frame.tags), length-tags frame.tags, ap length c.addresses.ensures.value, ap length c.tags.ensures.value)
