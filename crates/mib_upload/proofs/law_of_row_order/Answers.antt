-- It is a lemma.
use Rattle.mib_upload.proofs.Rising.{rows_rise}
use Rattle.mib_upload.proofs.law_of_row_order.Goals as goal

pub returns : goal.returns
returns c = rows_rise
