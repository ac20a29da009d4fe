-- The frames of the first records, one after the other.
use Rattle.std.proofs.Common.{◌≡◌, ◌≤◌, ℕ, List, [], ◌∷◌, ◌++◌, Some, None, Bor, length, map, take, sym, ap, ◌∙◌, append_assoc, arith}
use Rattle.std.proofs.lemmas.List.{append-nil, length-map, map-append, take_all}
use Rattle.capture.specs.declared.order.Order.{Order}
use Rattle.capture.specs.declared.record.RecordFault.{RecordFault}
use Rattle.capture.specs.Records.{behind_first, first_frame, frames_in, record_fault}
use Rattle.capture.proofs.Walk.{frames_broken, frames_whole}

-- the bytes of frames
abbrev pub bytes_of : List (Bor (List ℕ)) → List (List ℕ)
bytes_of frames = map (λ (frame : Bor (List ℕ)). frame.now) frames

-- one frame more is listed
pub listed_more : (order : Order) (all : List (List ℕ)) (before now : List (Bor (List ℕ))) (frame : Bor (List ℕ)) (left behind : List ℕ)
    → bytes_of before ++ frames_in order left ≡ all → record_fault order left ≡ None → frame.now ≡ first_frame order left → behind ≡ behind_first order left → now ≡ before ++ frame ∷ []
    → bytes_of now ++ frames_in order behind ≡ all
listed_more order all before now frame left behind so_far whole frame_is behind_is pushed =
    let step : frame.now ∷ frames_in order behind ≡ frames_in order left = rw (frame_is, behind_is) (sym (frames_whole order left whole)) in
    ap (λ (l : List (Bor (List ℕ))). bytes_of l ++ frames_in order behind) pushed
    ∙ ap (λ (l : List (List ℕ)). l ++ frames_in order behind) (map-append (λ (f : Bor (List ℕ)). f.now) before (frame ∷ []))
    ∙ append_assoc (bytes_of before) (frame.now ∷ []) (frames_in order behind)
    ∙ ap (λ (l : List (List ℕ)). bytes_of before ++ l) step ∙ so_far

-- no further one is there
pub listed_all : (order : Order) (all : List (List ℕ)) (listed : List (Bor (List ℕ))) (left : List ℕ) (fault : RecordFault) (most : ℕ)
    → bytes_of listed ++ frames_in order left ≡ all → Some fault ≡ record_fault order left → length listed ≤ most → bytes_of listed ≡ take most all
listed_all order all listed left fault most so_far broken few =
    let none : frames_in order left ≡ [] = frames_broken order left fault (sym broken) in
    let whole : bytes_of listed ≡ all = sym (append-nil (bytes_of listed)) ∙ ap (λ (l : List (List ℕ)). bytes_of listed ++ l) (sym none) ∙ so_far in
    let size : length (bytes_of listed) ≤ most = omega (arith, few, length-map listed (λ (f : Bor (List ℕ)). f.now)) in
    sym (take_all most (bytes_of listed) size) ∙ ap (take most) whole
