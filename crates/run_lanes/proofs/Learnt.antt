-- Lanes that have learnt.
use Rattle.std.proofs.Common.{◌≡◌, ℕ, ◌+◌, ◌<◌, ◌≤◌, ◌≢◌, ◌⊎◌, ⊎_elim, List, [], ◌∷◌, length, get_or, refl, sym, subst, ◌∙◌, arith, suc, zero}
use Rattle.std.specs.Prelude.{All}
use Rattle.std.specs.List.{AllZip}
use Rattle.std.proofs.Math.ListN.{set}
use Rattle.std.proofs.lemmas.Bool.{cases_eq}
use Rattle.std.proofs.lemmas.List.{get_or-set_same, get_or-set_other}
use Rattle.std.proofs.lemmas.Option.{slice_get-get_or}
use Rattle.omci_msg.specs.declared.Request.{Request}
use Rattle.plan_publish.specs.History.{Home}
use Rattle.plan_publish.specs.declared.lane.Lane.{Lane}
use Rattle.plan_publish.specs.Lane.{learnt_by, home_of}
use Rattle.run_lanes.specs.Work.{IsOut}
use Rattle.run_lanes.specs.Settling.{AreNew, HasLearnt}
use Rattle.run_lanes.proofs.Running.{zip_get, new_at, longer, AreNumbered}

pub same_default : {X : Type 0} (xs : List X) (i : ℕ) (d e : X) → i < length xs → get_or xs i d ≡ get_or xs i e
same_default [] i d e lt = absurd (omega arith)
same_default (x ∷ xs) zero d e lt = refl
same_default (x ∷ xs) (suc i) d e lt = same_default xs i d e (omega arith)

pub learn_done : (log : List Request) (old items : List Lane) (i : ℕ) (e now : Lane) → i < length items → length items ≡ length old
    → ((k : ℕ) (d : Lane) → k < i → HasLearnt log (get_or old k d) (get_or items k d))
    → ((k : ℕ) (d : Lane) → i ≤ k → get_or items k d ≡ get_or old k d)
    → HasLearnt log (get_or items i e) now
    → (k : ℕ) (d : Lane) → k < i + 1 → HasLearnt log (get_or old k d) (get_or (set items i now) k d)
learn_done log old items i e now lt len done left mine k d below =
    ⊎_elim
    (λ (same : k ≡ i).
    let first : get_or items i e ≡ get_or old i d = left i e (omega arith) ∙ same_default old i e d (omega (arith, lt, len)) in
    let here : HasLearnt log (get_or old i d) now = subst (λ (x : Lane). HasLearnt log x now) first mine in
    let there : HasLearnt log (get_or old i d) (get_or (set items i now) i d) = subst (λ (x : Lane). HasLearnt log (get_or old i d) x) (sym (get_or-set_same items i now d lt)) here in
    subst (λ (n : ℕ). HasLearnt log (get_or old n d) (get_or (set items i now) n d)) (sym same) there)
    (λ (other : k ≢ i).
    let less : k < i = ⊎_elim (λ (h : k < i). h) (λ (h : k ≡ i). absurd (other h)) (below_cases k i below) in
    subst (λ (x : Lane). HasLearnt log (get_or old k d) x) (sym (get_or-set_other items i k now d other)) (done k d less))
    (cases_eq k i)
  where
    below_cases : (k i : ℕ) → k < i + 1 → (k < i) ⊎ (k ≡ i)
    below_cases k i h = grind arith

-- lanes that were new have learnt
module _ (ls ms : List Lane) (log : List Request) (lanes : ℕ) (home : Home) (new : AreNew lanes home ls) (learnt : AllZip (HasLearnt log) ls ms) where
  pub learnt_out : All IsOut ms
  learnt_out k d lt =
      let z = zip_get (HasLearnt log) ls ms k (get_or ms k d) learnt (slice_get-get_or ms k d lt) in
      let n = new_at ls lanes home new k z.0 z.1 in
      ([], z.2.held ∙ n.0.held)

  pub learnt_home : All (λ l. home ≡ home_of l) ms
  learnt_home k d lt =
      let z = zip_get (HasLearnt log) ls ms k (get_or ms k d) learnt (slice_get-get_or ms k d lt) in
      let n = new_at ls lanes home new k z.0 z.1 in
      sym (z.2.home_is ∙ n.0.home_is)

  pub learnt_numbers : AreNumbered lanes (length log) ms
  learnt_numbers n m at =
      let z = zip_get (HasLearnt log) ls ms n m learnt at in
      let k = new_at ls lanes home new n z.0 z.1 in
      (z.2.number_is ∙ k.0.number_is, k.1, longer (learnt_by m) log z.2.learnt)
