-- Both parts are lemmas.
use Rattle.mib_upload.proofs.Once.{are_rows, only_rows}
use Rattle.mib_upload.proofs.law_of_rows.Goals as goal

pub returns : goal.returns
returns c = record { are = are_rows; only = only_rows }
