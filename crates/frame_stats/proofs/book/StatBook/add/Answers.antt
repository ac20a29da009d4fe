use Rattle.std.proofs.Common.{◌≡◌, ◌<◌, length, get_or, rules}
use Rattle.frame_stats.specs.Lanes.{parts_of}
use Rattle.frame_stats.proofs.Parts.{adds_to}
use Rattle.frame_stats.proofs.book.StatBook.add.Goals as goal

-- Bounded, so that a wrong body is refused at once.
pub returns-clause-total : goal.returns-clause-total
returns-clause-total c = search rules fits 30

pub returns-clause-parts : goal.returns-clause-parts
returns-clause-parts c =
    let at : c.from-at.result ≡ c.args.lane = search rules fits 30 in
    let lt : c.args.lane < length (parts_of c.args.self.now) = search rules fits 30 in
    let before : c.index.result.now ≡ get_or (parts_of c.args.self.now) c.args.lane c.index.result.now = rw at at c.index.ensures in
    rw at (adds_to c.args.lane c.args.counts.now c.index.result.now c.in_ok-part.part (parts_of c.args.self.now) lt before c.in_ok-part.ensures.sums.figures)
