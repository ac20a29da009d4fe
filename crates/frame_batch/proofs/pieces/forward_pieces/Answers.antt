use Rattle.std.proofs.Common.{◌≡◌, ap, ◌∙◌, List, ℕ, arith, subst, sym}
use Rattle.std.specs.Prelude.{max}
use Rattle.std.specs.List.{AllZip}
use Rattle.std.specs.Borrow.{Bor}
use Rattle.std.specs.declared.alloc.Global.{Global}
use Rattle.forward_plan.specs.declared.live.Live.{Live}
use Rattle.rayon.specs.Lists.{chunks_of, chunks_size, chunks_slice}
use Rattle.rayon.proofs.ListFacts.{IfOk-then}
use Rattle.rayon.proofs.ToStd.{slice-AllZip}
use Rattle.frame_batch.specs.Pieces.{IsPiece}
use Rattle.frame_batch.proofs.pieces.forward_pieces.Goals as goal

pub returns : goal.returns
returns g c =
    let size_is : max c.args.size 1 ≡ c.args.size = omega (arith, c.requires) in
    let frames : List (Bor (List ℕ)) = c.args.frames.now in
    IfOk-then c.collect.result _ _ c.collect.ensures (λ v h.
    let chain = h.1 in
    let cut = chain.1
    ∙ ap (λ it. chunks_of (max (chunks_size it) 1) (chunks_slice it)) c.map.ensures.base
    ∙ ap (λ n. chunks_of (max n 1) (chunks_slice c.par_chunks.result)) c.par_chunks.ensures.size
    ∙ ap (λ l. chunks_of (max c.args.size 1) l) c.par_chunks.ensures.slice
    ∙ ap (λ n. chunks_of n frames) size_is in
    let F : Bor Global × Bor Live × Bor ℕ → Type 0 = λ f. AllZip (λ z y. IsPiece f.1.now f.2.now z.now y) chain.0 h.0 in
    let each = subst F c.map.ensures.f chain.2 in
    subst (λ l. AllZip (IsPiece c.args.live.now c.args.port) (chunks_of c.args.size frames) l) (sym h.2)
    (slice-AllZip chain.0 (chunks_of c.args.size frames) cut (IsPiece c.args.live.now c.args.port) h.0 each))
