use Rattle.std.proofs.Common.{◌≡◌, ◌∙◌, inr, List, Option, subst, ℕ, Some, sym, ap}
use Rattle.std.specs.Prelude.{IfOk, IfErr, Result, Ok, Err}
use Rattle.batch_reports.specs.Places.{Fits}
use Rattle.batch_reports.proofs.Filling.{gathered, nothing_wrong, least_missing}
use Rattle.batch_reports.proofs.places.in_order.Goals as goal

-- items that are in as many places as there are batches
all_fit : {X : Type 0} (number : X → ℕ) (count : ℕ) (items : List X) (slots : List (Option X)) (len : ℕ) → len ≡ count
    → (given : List X) × (given ≡ items) × Fits number len given slots → Fits number count items slots
all_fit number count items slots len same placed =
    subst (λ n. Fits number n items slots) same (subst (λ given. Fits number len given slots) placed.1 placed.2)

ok_then : {T E : Type 0} (r : Result T E) (P Q : T → Type 0) → IfOk r P → ((x : T) → P x → Q x) → IfOk r Q
ok_then (Ok x) P Q h f = f x h
ok_then (Err e) P Q h f = tt

pub returns-clause-gathered : goal.returns-clause-gathered
returns-clause-gathered g c =
    let all = all_fit g.T.Numbered.number c.args.count c.args.items.items c.in_ok-slots-2.slots.items _ c.in_ok-slots.ensures.len c.in_ok-slots-2.ensures.placed in
    ok_then c.take_all.result _ _ c.take_all.ensures.all (λ v same. gathered _ _ _ v.items _ all same)

pub returns-clause-fits : goal.returns-clause-fits
returns-clause-fits g c =
    let all = all_fit g.T.Numbered.number c.args.count c.args.items.items c.in_ok-slots-2.slots.items _ c.in_ok-slots.ensures.len c.in_ok-slots-2.ensures.placed in
    ok_then c.take_all.result _ _ c.take_all.ensures.all (λ v same. nothing_wrong _ _ _ v.items _ all same)

err_then : {T E : Type 0} (r : Result T E) (P Q : E → Type 0) → IfErr r P → ((e : E) → P e → Q e) → IfErr r Q
err_then (Ok x) P Q h f = tt
err_then (Err e) P Q h f = f e h

pub returns-clause-misfit : goal.returns-clause-misfit
returns-clause-misfit g c =
    let all = all_fit g.T.Numbered.number c.args.count c.args.items.items c.in_ok-slots-2.slots.items _ c.in_ok-slots.ensures.len c.in_ok-slots-2.ensures.placed in
    err_then c.take_all.result _ _ c.take_all.ensures.free (λ fault k. inr (least_missing _ _ _ k.0 k.1 _ all k.3 ∙ ap Some (sym k.2)))
