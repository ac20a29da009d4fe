-- What was seen of a frame, and what becomes of it by a verdict.
use Rattle.std.proofs.Common.{◌≡◌, ◌⊎◌, ℕ, Bool, true, false, List, inl, inr, refl, sym, ◌∙◌, subst}
use Rattle.std.specs.Prelude.{Decides}
use Rattle.tag_view.specs.Frame.{Reading, frame_bytes}
use Rattle.frame_meaning.specs.declared.reason.Reason.{Reason}
use Rattle.frame_meaning.specs.declared.verdict.Verdict.{Verdict}
use Rattle.frame_meaning.specs.declared.verdict.Verdict.TheVariants.{Forward, Drop}
use Rattle.bench_history.specs.declared.extent.Extent.{Extent}
use Rattle.bench_history.specs.declared.gem.SeenGem.{SeenGem}
use Rattle.bench_history.specs.declared.event.Event.{Event}
use Rattle.bench_history.specs.declared.event.Event.TheVariants.{Sent, Replied, Excused, Entered, Left, LeftOneOf, Strayed, Dropped, Lost, Waited, Ended, Nothing}
use Rattle.bench_sight.specs.Sight.{IsSeenAs, agree, is_gem}

module _ (padded : Bool) (extent : Extent) where
  no_left : (event : Event) (gem : ℕ) (frame : Reading) → ((seen : SeenGem) (seen_extent : Extent) (number : ℕ) (bytes : List ℕ) → event ≡ Left seen seen_extent number bytes → ⊥)
      → IsSeenAs padded (Forward gem frame) extent event → ⊥
  no_left (Left seen seen_extent number bytes) gem frame none seen_as = none seen seen_extent number bytes refl
  no_left (Sent message) gem frame none seen_as = seen_as
  no_left (Replied reply) gem frame none seen_as = seen_as
  no_left (Excused reply) gem frame none seen_as = seen_as
  no_left (Entered port seen_extent bytes) gem frame none seen_as = seen_as
  no_left (Strayed seen seen_extent bytes) gem frame none seen_as = seen_as
  no_left (LeftOneOf seen seen_extent among) gem frame none seen_as = seen_as
  no_left (Dropped number) gem frame none seen_as = seen_as
  no_left (Lost number) gem frame none seen_as = seen_as
  no_left (Waited replies) gem frame none seen_as = seen_as
  no_left Ended gem frame none seen_as = seen_as
  no_left Nothing gem frame none seen_as = seen_as

  no_drop : (event : Event) (reason : Reason) → ((number : ℕ) → event ≡ Dropped number → ⊥) → ((number : ℕ) → event ≡ Lost number → ⊥)
      → IsSeenAs padded (Drop reason) extent event → ⊥
  no_drop (Dropped number) reason none found seen_as = none number refl
  no_drop (Lost number) reason none found seen_as = found number refl
  no_drop (Sent message) reason none found seen_as = seen_as
  no_drop (Replied reply) reason none found seen_as = seen_as
  no_drop (Excused reply) reason none found seen_as = seen_as
  no_drop (Entered port seen_extent bytes) reason none found seen_as = seen_as
  no_drop (Left seen seen_extent number bytes) reason none found seen_as = seen_as
  no_drop (Strayed seen seen_extent bytes) reason none found seen_as = seen_as
  no_drop (LeftOneOf seen seen_extent among) reason none found seen_as = seen_as
  no_drop (Waited replies) reason none found seen_as = seen_as
  no_drop Ended reason none found seen_as = seen_as
  no_drop Nothing reason none found seen_as = seen_as

module _ (padded : Bool) (extent : Extent) (verdict : Verdict) (event : Event) where
  pub not_left : (gem : ℕ) (frame : Reading) → verdict ≡ Forward gem frame
      → ((seen : SeenGem) (seen_extent : Extent) (number : ℕ) (bytes : List ℕ) → event ≡ Left seen seen_extent number bytes → ⊥) → IsSeenAs padded verdict extent event → ⊥
  not_left gem frame is none seen_as = no_left padded extent event gem frame none (subst (λ (v : Verdict). IsSeenAs padded v extent event) is seen_as)

  pub not_dropped : (reason : Reason) → verdict ≡ Drop reason → ((number : ℕ) → event ≡ Dropped number → ⊥) → ((number : ℕ) → event ≡ Lost number → ⊥)
      → IsSeenAs padded verdict extent event → ⊥
  not_dropped reason is none found seen_as = no_drop padded extent event reason none found (subst (λ (v : Verdict). IsSeenAs padded v extent event) is seen_as)

  dropped : (reason : Reason) (number : ℕ) → verdict ≡ Drop reason → event ≡ Dropped number → IsSeenAs padded verdict extent event
  dropped reason number is are =
      subst (λ (v : Verdict). IsSeenAs padded v extent event) (sym is) (subst (λ (e : Event). IsSeenAs padded (Drop reason) extent e) (sym are) tt)

  lost : (reason : Reason) (number : ℕ) → verdict ≡ Drop reason → event ≡ Lost number → IsSeenAs padded verdict extent event
  lost reason number is are =
      subst (λ (v : Verdict). IsSeenAs padded v extent event) (sym is) (subst (λ (e : Event). IsSeenAs padded (Drop reason) extent e) (sym are) tt)

  pub dropped_or_lost : (reason : Reason) → verdict ≡ Drop reason → ((number : ℕ) × event ≡ Dropped number) ⊎ ((number : ℕ) × event ≡ Lost number)
      → IsSeenAs padded verdict extent event
  dropped_or_lost reason is (inl (number, are)) = dropped reason number is are
  dropped_or_lost reason is (inr (number, are)) = lost reason number is are

module _ (padded : Bool) (extent : Extent) (verdict : Verdict) (event : Event) (gem : ℕ) (frame : Reading) (seen : SeenGem) (seen_extent : Extent) (number : ℕ) (bytes : List ℕ)
    (is : verdict ≡ Forward gem frame) (are : event ≡ Left seen seen_extent number bytes) where
  both : IsSeenAs padded verdict extent event → (is_gem gem seen ≡ true) × (agree padded extent (frame_bytes frame) seen_extent bytes ≡ true)
  both seen_as =
      subst (λ (e : Event). IsSeenAs padded (Forward gem frame) extent e) are (subst (λ (v : Verdict). IsSeenAs padded v extent event) is seen_as)

  -- by that GEM port, what leaves decides
  pub left : (r : Bool) → is_gem gem seen ≡ true → Decides r (agree padded extent (frame_bytes frame) seen_extent bytes ≡ true) → Decides r (IsSeenAs padded verdict extent event)
  left r same decides = (
    λ yes.
        subst (λ (v : Verdict). IsSeenAs padded v extent event) (sym is)
        (subst (λ (e : Event). IsSeenAs padded (Forward gem frame) extent e) (sym are) (same, decides.0 yes)),
    λ seen_as. decides.1 (both seen_as).1,
  )

  -- by another one it isn't as it was seen
  pub left_elsewhere : (r : Bool) → r ≡ is_gem gem seen → r ≡ false → Decides r (IsSeenAs padded verdict extent event)
  left_elsewhere r told other = (λ yes. absurd (cc (yes, other)), λ seen_as. told ∙ (both seen_as).0)
