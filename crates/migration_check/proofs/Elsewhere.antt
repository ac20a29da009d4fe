-- Ports that no entities name.
use Rattle.std.proofs.Common.{◌≡◌, ◌==◌, ◌⊎◌, ℕ, Bool, true, false, List, None, arith, refl, subst, inl, inr}
use Rattle.std.specs.Prelude.{All, Contains}
use Rattle.std.specs.List.{list_any}
use Rattle.std.proofs.lemmas.Bool.{eq-eqb, eqb-true}
use Rattle.std.proofs.lemmas.List.Elements.{All-contains}
use Rattle.std.proofs.lemmas.List.Folds.{Any-from_list_any, list_any-from_Any}
use Rattle.omci_msg.specs.declared.Request.{Request}
use Rattle.mib_state.specs.Entities.{Entities}
use Rattle.frame_meaning.specs.Meaning.{forwarded_by, gem_port_at, mapper_at, meaning, table_at}
use Rattle.explain_findings.specs.Ports.{NothingElsewhere}
use Rattle.explain_findings.specs.Reach.{ports}
use Rattle.frame_rows.specs.Sight.{IsLike, Sight, sight_of}
use Rattle.frame_rows.specs.Sight.Sight.{Leaves, Lost}
use Rattle.migration_check.specs.Migration.{AreHitless, AreHitlessAt, IsSeenAlike, IsSeenAlikeAt, version}
use Rattle.migration_check.specs.Ports.{AreNamedBy, AreNamedOnWay}

-- whether a list has a port
has_or_not : (list : List ℕ) (port : ℕ) → Contains list port ⊎ (Contains list port → ⊥)
has_or_not list port = by_test (list_any (λ m. m == port) list) refl
  where
    by_test : (b : Bool) → list_any (λ m. m == port) list ≡ b → Contains list port ⊎ (Contains list port → ⊥)
    by_test true is =
        let found = Any-from_list_any (λ m. m == port) list is in
        inl (subst (λ (m : ℕ). Contains list m) (eqb-true found.1 port found.4) (found.0, found.2, found.3))
    by_test false is = inr (λ among.
        let any = list_any-from_Any (λ m. m == port) list (among.0, port, among.1, among.2, eq-eqb port port refl) in
        absurd (cc (is, any)))

-- a port without a table and a mapper is seen alike by all
alike : (e f : Entities) (port : ℕ) (bytes : List ℕ) → table_at e port ≡ None → table_at f port ≡ None → mapper_at e port ≡ None → mapper_at f port ≡ None
    → sight_of e port bytes ≡ sight_of f port bytes
unfolding sight_of meaning forwarded_by gem_port_at
alike e f port bytes te tf me mf = rw (te, tf, me, mf) refl

unnamed : NothingElsewhere → (e f : Entities) (port : ℕ) (bytes : List ℕ) → (Contains (ports e) port → ⊥) → (Contains (ports f) port → ⊥)
    → sight_of e port bytes ≡ sight_of f port bytes
unnamed law e f port bytes one other =
    alike e f port bytes (law.tables e port one) (law.tables f port other) (law.mappers e port one) (law.mappers f port other)

like_itself : (s : Sight) → IsLike s s
like_itself (Leaves gem bytes) = (refl, refl)
like_itself (Lost reason) = tt

like : (s t : Sight) → s ≡ t → IsLike s t
like s t same = subst (λ (u : Sight). IsLike s u) same (like_itself s)

-- none is torn at any port, where none is at those that are named
pub hitless : NothingElsewhere → (e g : Entities) (requests : List Request) (list : List ℕ) → AreNamedOnWay e requests list
    → All (AreHitlessAt e requests g) list → AreHitless e requests g
hitless law e g requests list named all port = by_case (has_or_not list port)
  where
    by_case : Contains list port ⊎ (Contains list port → ⊥) → AreHitlessAt e requests g port
    by_case (inl among) = All-contains (AreHitlessAt e requests g) list port all among
    by_case (inr unlisted) = λ count some within. record {
      whole = λ bytes frame torn.
          torn.before (like (sight_of (version e requests count) port bytes) (sight_of e port bytes)
          (unnamed law (version e requests count) e port bytes (λ among. unlisted (named.each count port (omega (arith, within)) among))
          (λ among. unlisted (named.each 0 port (omega arith) among))));
    }

pub hitless_at_all : (e g : Entities) (requests : List Request) (list : List ℕ) → AreHitless e requests g → All (AreHitlessAt e requests g) list
hitless_at_all e g requests list every = λ k d within. every _

-- every frame is seen alike at every port, where it is so at those that are named
pub seen_alike : NothingElsewhere → (e f : Entities) (list : List ℕ) → AreNamedBy e f list → All (IsSeenAlikeAt e f) list → IsSeenAlike e f
seen_alike law e f list named all port = by_case (has_or_not list port)
  where
    by_case : Contains list port ⊎ (Contains list port → ⊥) → IsSeenAlikeAt e f port
    by_case (inl among) = All-contains (IsSeenAlikeAt e f) list port all among
    by_case (inr unlisted) = record {
      alike = λ bytes frame differ.
          differ (unnamed law e f port bytes (λ among. unlisted (named.one port among)) (λ among. unlisted (named.other port among)));
    }

pub seen_alike_at_all : (e f : Entities) (list : List ℕ) → IsSeenAlike e f → All (IsSeenAlikeAt e f) list
seen_alike_at_all e f list every = λ k d within. every _
