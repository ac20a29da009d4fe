-- What a call answers, as the definitions have it.
use Rattle.std.specs.Prelude.{List, Option, Some, None}
use Rattle.tag_view.specs.Tag.{TagFields}
use Rattle.treatment.specs.declared.treated.Treated.{Treated}
use Rattle.treatment.specs.declared.treated.Treated.TheVariants.{Discard, Tags}

-- the tags that the frame leaves with, or None where it is dropped
abbrev pub shown : Treated → Option (List TagFields)
shown Discard = None
shown (Tags tags) = Some tags.items
