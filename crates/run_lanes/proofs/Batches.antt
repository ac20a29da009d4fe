-- The frames of a batch, wherever those of the run are.
use Rattle.std.proofs.Common.{◌≡◌, ℕ, ◌*◌, List, take, drop, ap, sym, subst, ◌∙◌}
use Rattle.std.specs.Borrow.{Bor}
use Rattle.std.proofs.lemmas.List.{drop-map, take-map}
use Rattle.capture_pieces.specs.Cut.{Cut, batch_of}
use Rattle.capture_pieces.proofs.Listed.{bytes_of}
use Rattle.run_lanes.specs.declared.frames.RunFrames.{RunFrames}
use Rattle.run_lanes.specs.declared.frames.RunFrames.TheVariants as source
use Rattle.run_lanes.specs.Frames.{IsCutFor, frames_in}

bytes_of_batch : (size k : ℕ) (frames : List (Bor (List ℕ))) → bytes_of (batch_of size k frames) ≡ batch_of size k (bytes_of frames)
bytes_of_batch size k frames =
    sym (ap (take size) (drop-map (λ (frame : Bor (List ℕ)). frame.now) (k * size) frames) ∙ take-map (λ (frame : Bor (List ℕ)). frame.now) size (drop (k * size) frames))

-- of a list it is a part
pub listed_batch : (size k : ℕ) (frames : RunFrames) (list : Bor (List (Bor (List ℕ)))) (given : List (Bor (List ℕ))) → frames ≡ source.Listed list → given ≡ batch_of size k list.now
    → bytes_of given ≡ batch_of size k (frames_in frames)
listed_batch size k frames list given is same =
    ap bytes_of same ∙ bytes_of_batch size k list.now ∙ ap (λ (all : RunFrames). batch_of size k (frames_in all)) (sym is)

-- of a cut capture it is the capture's own batch, as both have one size
pub cut_batch : (size k : ℕ) (frames : RunFrames) (batches : Bor Cut) (listed given : List (Bor (List ℕ))) → IsCutFor size frames → frames ≡ source.Cut batches
    → bytes_of listed ≡ batch_of batches.now.size k batches.now.frames → given ≡ listed → bytes_of given ≡ batch_of size k (frames_in frames)
cut_batch size k frames batches listed given cut is own same =
    let sizes : batches.now.size ≡ size = subst (IsCutFor size) is cut in
    ap bytes_of same ∙ own ∙ ap (λ (n : ℕ). batch_of n k batches.now.frames) sizes ∙ ap (λ (all : RunFrames). batch_of size k (frames_in all)) (sym is)
