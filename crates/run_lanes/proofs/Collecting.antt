-- The tallies of one lane more.
use Rattle.std.proofs.Common.{◌≡◌, ℕ, ⊎_elim, List, [], ◌∷◌, ◌++◌, length, Some, refl, subst, arith, suc, zero}
use Rattle.std.specs.Prelude.{slice_get, Ok}
use Rattle.std.specs.List.{Contains}
use Rattle.std.specs.declared.vec.Vec.{Vec}
use Rattle.std.specs.declared.alloc.Global.{Global}
use Rattle.std.proofs.lemmas.List.Elements.{Contains-append_cases}
use Rattle.omci_msg.specs.declared.Request.{Request}
use Rattle.plan_publish.specs.Lane.{HeldPrefixes}
use Rattle.batch_reports.specs.declared.batch.Tally.{Tally}
use Rattle.run_lanes.specs.declared.settling.Done.{Done}
use Rattle.run_lanes.specs.Settling.{Collected}
use Rattle.capture_pieces.proofs.Starts.{last_or_before}

get_before : {X : Type 0} (xs ys : List X) (n : ℕ) (x : X) → slice_get xs n ≡ Some x → slice_get (xs ++ ys) n ≡ Some x
get_before [] ys n x h = absurd (let e : ⊥ = cc in e)
get_before (z ∷ zs) ys zero x h = h
get_before (z ∷ zs) ys (suc n) x h = get_before zs ys n x h

get_last : {X : Type 0} (xs : List X) (x : X) → slice_get (xs ++ x ∷ []) (length xs) ≡ Some x
get_last [] x = refl
get_last (z ∷ zs) x = get_last zs x

pub collected_none : (accepted : List Request) → Collected accepted [] []
collected_none accepted = record { began = λ n d h. absurd (let e : ⊥ = cc in e); from = λ t h. absurd (let lt = h.1 in omega arith) }

pub collected_push : (accepted : List Request) (ds : List Done) (all : List Tally) (d : Done) (v : Vec Tally Global) → Collected accepted ds all → d.tallies ≡ Ok v → HeldPrefixes accepted d.lane
    → Collected accepted (ds ++ d ∷ []) (all ++ v.items)
collected_push accepted ds all d v c is began = record {
  began = λ n e h. ⊎_elim
      (λ (old : slice_get ds n ≡ Some e). c.began n e old)
      (λ (new : (n ≡ length ds) × (d ≡ e)). subst (λ (x : Done). HeldPrefixes accepted x.lane) new.1 began)
      (last_or_before ds d n e h);
  from = λ t h. ⊎_elim
      (λ (old : Contains all t). let f = c.from t old in
      record { place = f.place; done = f.done; tallies = f.tallies; at_place = get_before ds (d ∷ []) f.place f.done f.at_place; tallies_are = f.tallies_are; is_in = f.is_in })
      (λ (new : Contains v.items t). record { place = length ds; done = d; tallies = v; at_place = get_last ds d; tallies_are = is; is_in = new })
      (Contains-append_cases all v.items t h);
}
