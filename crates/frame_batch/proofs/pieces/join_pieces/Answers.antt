use Rattle.std.proofs.Common.{◌≡◌, ◌++◌, ◌∷◌, [], List, subst, sym, rules}
use Rattle.std.specs.Prelude.{Ok}
use Rattle.frame_meaning.specs.declared.verdict.Verdict.{Verdict}
use Rattle.frame_batch.specs.Pieces.{AreJoined}
use Rattle.frame_batch.proofs.Joining.{joined_none, joined_push}
use Rattle.frame_batch.proofs.pieces.join_pieces.Goals as goal

pub loop-piece-init : goal.loop-piece-init
loop-piece-init c =
    let J : List Verdict → Type 0 = λ l. AreJoined [] l in
    subst J (sym c.in_ok-all.ensures.items) joined_none

pub loop-piece-preserved : goal.loop-piece-preserved
loop-piece-preserved c =
    let is : c.in-Some.piece ≡ Ok c.in_ok-part.part = search rules in
    let items : c.append.new.self.items ≡ c.loop-piece.all.items ++ c.in_ok-part.part.items = search rules in
    let J : List Verdict → Type 0 = λ l. AreJoined (c.loop-piece.yielded ++ c.in-Some.piece ∷ []) l in
    subst J (sym items) (joined_push c.loop-piece.yielded c.loop-piece.all.items c.in-Some.piece c.in_ok-part.part c.loop-piece.invariant is)
