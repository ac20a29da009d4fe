-- Verdicts joined piece by piece, and frame by frame.
use Rattle.std.proofs.Common.{◌≡◌, ℕ, ◌+◌, ◌<◌, List, [], ◌∷◌, ◌++◌, take, get_or, length, refl, ap, sym, subst, ◌∙◌, append_assoc}
use Rattle.std.specs.Prelude.{Result, Ok}
use Rattle.std.specs.List.{AllZip, flat_map}
use Rattle.std.specs.Borrow.{Bor}
use Rattle.std.specs.declared.vec.Vec.{Vec}
use Rattle.std.specs.declared.alloc.Global.{Global}
use Rattle.std.specs.declared.alloc.AllocError.{AllocError}
use Rattle.std.proofs.lemmas.List.{map-append, map_more, append-nil}
use Rattle.rayon.proofs.ListFacts.{flat_map-append}
use Rattle.mib_state.specs.Entities.{Entities}
use Rattle.frame_meaning.specs.declared.verdict.Verdict.{Verdict}
use Rattle.frame_meaning.specs.Meaning.{meaning}
use Rattle.batch_reports.specs.Batches.{meanings}
use Rattle.frame_batch.specs.Pieces.{IsPiece, AreJoined}

-- one frame more
pub meanings_more : (e : Entities) (port : ℕ) (frames : List (Bor (List ℕ))) (i : ℕ) (d : Bor (List ℕ)) (before so_far : List Verdict) → i < length frames
    → so_far ≡ before ++ meanings e port (take i frames) → so_far ++ meaning e port (get_or frames i d).now ∷ [] ≡ before ++ meanings e port (take (i + 1) frames)
meanings_more e port frames i d before so_far lt is =
    let one : List Verdict = meaning e port (get_or frames i d).now ∷ [] in
    ap (λ (l : List Verdict). l ++ one) is ∙ append_assoc before (meanings e port (take i frames)) one
    ∙ ap (λ (l : List Verdict). before ++ l) (sym (map_more (λ (f : Bor (List ℕ)). meaning e port f.now) frames i d lt))

-- the last of the pieces is that of the last part of the frames
zip_last : {X Y : Type 0} (R : X → Y → Type 0) (xs : List X) (ys : List Y) (y : Y) → AllZip R xs (ys ++ y ∷ []) → (zs : List X) × (z : X) × (xs ≡ zs ++ z ∷ []) × AllZip R zs ys × R z y
zip_last R [] [] y h = absurd h
zip_last R [] (w ∷ ws) y h = absurd h
zip_last R (x ∷ []) [] y h = ([], x, refl, tt, h.0)
zip_last R (x ∷ u ∷ us) [] y h = absurd h.1
zip_last R (x ∷ xs) (w ∷ ws) y h = let k = zip_last R xs ws y h.1 in (x ∷ k.0, k.1, ap (λ l. x ∷ l) k.2, (h.0, k.3), k.4)

pub joined_none : AreJoined [] []
joined_none e port [] h = refl
joined_none e port (c ∷ cs) h = absurd h

-- one piece more
pub joined_push : (pieces : List (Result (Vec Verdict Global) AllocError)) (all : List Verdict) (r : Result (Vec Verdict Global) AllocError) (w : Vec Verdict Global) → AreJoined pieces all → r ≡ Ok w → AreJoined (pieces ++ r ∷ []) (all ++ w.items)
joined_push pieces all r w j is e port cs h =
    let k = zip_last (IsPiece e port) cs pieces r h in
    let part : w.items ≡ meanings e port k.1 = subst (λ (o : Result (Vec Verdict Global) AllocError). IsPiece e port k.1 o) is k.4 in
    let before = j e port k.0 k.3 in
    let flat : flat_map (λ (l : List (Bor (List ℕ))). l) cs ≡ flat_map (λ (l : List (Bor (List ℕ))). l) k.0 ++ k.1 =
    ap (flat_map (λ (l : List (Bor (List ℕ))). l)) k.2 ∙ flat_map-append k.0 (k.1 ∷ []) ∙ ap (λ l. flat_map (λ (l : List (Bor (List ℕ))). l) k.0 ++ l) (append-nil k.1) in
    ap (λ (l : List Verdict). l ++ w.items) before ∙ ap (λ (l : List Verdict). meanings e port (flat_map (λ l. l) k.0) ++ l) part
    ∙ sym (map-append (λ (f : Bor (List ℕ)). meaning e port f.now) (flat_map (λ l. l) k.0) k.1) ∙ ap (meanings e port) (sym flat)
