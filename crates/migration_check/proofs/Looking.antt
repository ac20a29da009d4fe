-- What is listed of a port, as an answer.
use Rattle.std.proofs.Common.{◌≡◌, ◌∙◌, ◌==◌, ℕ, Bool, true, false, List, [], ◌∷◌, length, ap, sym, arith}
use Rattle.std.specs.Prelude.{Contains, map}
use Rattle.std.proofs.lemmas.Bool.{eqb-true}
use Rattle.std.proofs.lemmas.List.Elements.{All-head}
use Rattle.mib_state.specs.Entities.{Entities}
use Rattle.frame_rows.specs.declared.class.FrameClass.{FrameClass}
use Rattle.frame_rows.specs.declared.class.Use.{Use}
use Rattle.frame_classes.specs.Differences.{AreDifferences, AreTorn, AreTornBy, IsDifference, IsTear}
use Rattle.frame_classes.specs.declared.example.Difference.{Difference}
use Rattle.frame_classes.specs.declared.example.Tear.{Tear}
use Rattle.migration_check.specs.Following.{IsHitlessBy}
use Rattle.migration_check.specs.Migration.{IsHitlessAt, IsSeenAlikeAt}
use Rattle.migration_check.specs.Telling.{Tells}

among_none : {X : Type 0} (x : X) → Contains [] x → ⊥
among_none x (k, within, at) = omega (arith, within)

pub hitless_at : (e f g : Entities) (port : ℕ) (found : List Tear) (none : Bool) → none ≡ (length found == 0)
    → AreTorn e f g port 0 (map (λ (t : Tear). ((t.before, t.here, t.after), t.frame.items)) found) → Tells none (IsHitlessAt e f g port)
hitless_at e f g port [] true is are = record { whole = λ bytes frame torn. among_none _ (are.every bytes frame torn) }
hitless_at e f g port [] false is are = absurd (cc is)
hitless_at e f g port (t ∷ rest) true is are = absurd (omega (arith, eqb-true (length (t ∷ rest)) 0 (sym is)))
hitless_at e f g port (t ∷ rest) false is are = λ none_torn.
    let first = All-head (IsTear e f g port 0) ((t.before, t.here, t.after), t.frame.items) (map (λ (t : Tear). ((t.before, t.here, t.after), t.frame.items)) rest) are.each in
    none_torn.whole t.frame.items first.frame first.torn

-- of the frames that are used so
pub hitless_by : (e f g : Entities) (port : ℕ) (used : Use) (found : List Tear) (none : Bool) → none ≡ (length found == 0)
    → AreTornBy e f g port 0 used (map (λ (t : Tear). ((t.before, t.here, t.after), t.frame.items)) found) → Tells none (IsHitlessBy e f g port used)
hitless_by e f g port used [] true is are = record { whole = λ bytes frame by torn. among_none _ (are.every bytes frame torn by) }
hitless_by e f g port used [] false is are = absurd (cc is)
hitless_by e f g port used (t ∷ rest) true is are = absurd (omega (arith, eqb-true (length (t ∷ rest)) 0 (sym is)))
hitless_by e f g port used (t ∷ rest) false is are = λ none_torn.
    let others : List ((FrameClass × FrameClass × FrameClass) × List ℕ) = map (λ (t : Tear). ((t.before, t.here, t.after), t.frame.items)) rest in
    let first = All-head (IsTear e f g port 0) ((t.before, t.here, t.after), t.frame.items) others are.each in
    let used_here : t.here.used ≡ used =
    All-head (λ (tear : (FrameClass × FrameClass × FrameClass) × List ℕ). tear.0.1.used ≡ used) ((t.before, t.here, t.after), t.frame.items) others are.uses in
    none_torn.whole t.frame.items first.frame (ap (λ (c : FrameClass). c.used) first.here ∙ used_here) first.torn

pub seen_alike_at : (e f : Entities) (port : ℕ) (found : List Difference) (none : Bool) → none ≡ (length found == 0)
    → AreDifferences e f port 0 (map (λ (d : Difference). ((d.before, d.after), d.frame.items)) found) → Tells none (IsSeenAlikeAt e f port)
seen_alike_at e f port [] true is are = record { alike = λ bytes frame differ. among_none _ (are.every bytes frame differ) }
seen_alike_at e f port [] false is are = absurd (cc is)
seen_alike_at e f port (d ∷ rest) true is are = absurd (omega (arith, eqb-true (length (d ∷ rest)) 0 (sym is)))
seen_alike_at e f port (d ∷ rest) false is are = λ same.
    let first = All-head (IsDifference e f port 0) ((d.before, d.after), d.frame.items) (map (λ (d : Difference). ((d.before, d.after), d.frame.items)) rest) are.each in
    same.alike d.frame.items first.frame first.differ
