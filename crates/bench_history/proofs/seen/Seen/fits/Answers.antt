use Rattle.std.proofs.Common.{inl, inr}
use Rattle.bench_history.proofs.seen.Seen.fits.Goals as goal

pub returns-in-Left : goal.returns-in-Left
returns-in-Left c =
    elim c.in-Left.is [
      | inl left ↦ rw left.3 c.may_end.ensures
      | inr other ↦ elim other [ inl dropped ↦ rw dropped c.may_end.ensures | inr lost ↦ rw lost c.may_end.ensures ]
    ]
