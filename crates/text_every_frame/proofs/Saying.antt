-- What is said of two configurations.
use Rattle.std.proofs.Common.{◌≡◌, ◌==◌, ◌⊎◌, ◌<◌, ◌+◌, ◌&&◌, ℕ, Bool, true, false, if◌then◌else◌, List, [], ◌∷◌, ◌++◌, Option, Some, None, get_or, take, length, refl, sym, subst, inl, inr, arith}
use Rattle.std.specs.Prelude.{All, Contains, map}
use Rattle.std.proofs.lemmas.Bool.{eqb-true}
use Rattle.std.proofs.lemmas.List.{take_more}
use Rattle.std.proofs.lemmas.List.Elements.{All-contains, All-head, All-more, All-nil, Contains-append_left, Contains-push}
use Rattle.mib_state.specs.Entities.{Entities}
use Rattle.frame_meaning.specs.Meaning.{forwarded_by, gem_port_at, mapper_at, meaning, table_at}
use Rattle.explain_findings.specs.Ports.{NothingElsewhere}
use Rattle.explain_findings.specs.Reach.{ports}
use Rattle.frame_rows.specs.Sight.{sight_of}
use Rattle.frame_classes.specs.Differences.{AreDifferences, IsDifference}
use Rattle.frame_classes.specs.declared.example.Difference.{Difference}
use Rattle.text_every_frame.specs.Ports.{ArePortsOfSides}
use Rattle.text_every_frame.specs.Same.{AreSameAt, DifferAt, IsSaid, IsSaidAt, IsSaidOf}
use Rattle.text_every_frame.proofs.Listing.{has_or_not}

-- of a port, by whether the differences there are none
pub said_at : (e f : Entities) (port least : ℕ) (found : List Difference) (none : Bool) → none ≡ (length found == 0)
    → AreDifferences e f port least (map (λ (d : Difference). ((d.before, d.after), d.frame.items)) found) → IsSaidAt e f least port none
said_at e f port least [] true is are = are
said_at e f port least [] false is are = absurd (cc is)
said_at e f port least (d ∷ rest) true is are = absurd (omega (arith, eqb-true (length (d ∷ rest)) 0 (sym is)))
said_at e f port least (d ∷ rest) false is are = record { difference = ((d.before, d.after), d.frame.items); is = All-head (IsDifference e f port least) ((d.before, d.after), d.frame.items) (map (λ (d : Difference). ((d.before, d.after), d.frame.items)) rest) are.each }

-- of one port more, where they are the same there
pub said_same : (e f : Entities) (least : ℕ) (list : List ℕ) (i : ℕ) (same : Bool) → i < length list → IsSaidOf e f least (take i list) same
    → AreSameAt e f least (get_or list i 0) → IsSaidOf e f least (take (i + 1) list) same
said_same e f least list i true within said here = All-more (AreSameAt e f least) list i 0 within said here
said_same e f least list i false within said here = (
  said.0,
  subst (λ (l : List ℕ). Contains l said.0) (sym (take_more list i 0 within)) (Contains-append_left (take i list) (get_or list i 0 ∷ []) said.0 said.1),
  said.2,
)

-- and where they differ there
pub said_other : (e f : Entities) (least : ℕ) (list : List ℕ) (i : ℕ) → i < length list → DifferAt e f least (get_or list i 0)
    → IsSaidOf e f least (take (i + 1) list) false
said_other e f least list i within here = (
  get_or list i 0,
  subst (λ (l : List ℕ). Contains l (get_or list i 0)) (sym (take_more list i 0 within)) (Contains-push (take i list) (get_or list i 0)),
  here,
)

-- of one port more, whatever is said of it
pub said_more : (e f : Entities) (least : ℕ) (list : List ℕ) (i : ℕ) (same here both : Bool) → both ≡ (same && here) → i < length list
    → IsSaidOf e f least (take i list) same → IsSaidAt e f least (get_or list i 0) here → IsSaidOf e f least (take (i + 1) list) both
said_more e f least list i true true both is within said at =
    subst (IsSaidOf e f least (take (i + 1) list)) (sym is) (said_same e f least list i true within said at)
said_more e f least list i true false both is within said at =
    subst (IsSaidOf e f least (take (i + 1) list)) (sym is) (said_other e f least list i within at)
said_more e f least list i false true both is within said at =
    subst (IsSaidOf e f least (take (i + 1) list)) (sym is) (said_same e f least list i false within said at)
said_more e f least list i false false both is within said at =
    subst (IsSaidOf e f least (take (i + 1) list)) (sym is) (said_other e f least list i within at)

-- ---- a port without a table and a mapper

alike : (e f : Entities) (port : ℕ) (bytes : List ℕ) → table_at e port ≡ None → table_at f port ≡ None → mapper_at e port ≡ None → mapper_at f port ≡ None
    → sight_of e port bytes ≡ sight_of f port bytes
unfolding sight_of meaning forwarded_by gem_port_at
alike e f port bytes te tf me mf = rw (te, tf, me, mf) refl

elsewhere : (e f : Entities) (port least : ℕ) → table_at e port ≡ None → table_at f port ≡ None → mapper_at e port ≡ None → mapper_at f port ≡ None
    → AreSameAt e f least port
elsewhere e f port least te tf me mf = record {
  each = All-nil _;
  every = λ bytes frame differ. absurd (differ (alike e f port bytes te tf me mf));
  once = λ k h. absurd (omega arith);
}

-- ---- every port

everywhere : NothingElsewhere → (e f : Entities) (list : List ℕ) (least : ℕ) → ArePortsOfSides None e f list → All (AreSameAt e f least) list → (port : ℕ)
    → AreSameAt e f least port
everywhere law e f list least are all port = by_case (has_or_not list port)
  where
    by_case : Contains list port ⊎ (Contains list port → ⊥) → AreSameAt e f least port
    by_case (inl among) = All-contains (AreSameAt e f least) list port all among
    by_case (inr unlisted) =
        let one : Contains (ports e) port → ⊥ = λ among. unlisted ((are.each port).1 (inl among)) in
        let other : Contains (ports f) port → ⊥ = λ among. unlisted ((are.each port).1 (inr among)) in
        elsewhere e f port least (law.tables e port one) (law.tables f port other) (law.mappers e port one) (law.mappers f port other)

pub said : NothingElsewhere → (asked : Option ℕ) (e f : Entities) (list : List ℕ) (least : ℕ) (same : Bool) → ArePortsOfSides asked e f list
    → IsSaidOf e f least list same → IsSaid e f asked least same
said law (Some port) e f list least true are all = All-contains (AreSameAt e f least) list port all ((are port).1 refl)
said law (Some port) e f list least false are (other, among, differ) = subst (DifferAt e f least) ((are other).0 among) differ
said law None e f list least true are all = everywhere law e f list least are all
said law None e f list least false are (port, among, differ) = (port, differ)
