-- The ports that are listed of two sides.
use Rattle.std.proofs.Common.{◌≡◌, ◌==◌, ◌⊎◌, ℕ, zero, suc, Bool, true, false, List, [], ◌∷◌, Option, Some, None, refl, sym, subst, inl, inr, arith}
use Rattle.std.specs.Prelude.{Contains, length}
use Rattle.std.specs.List.{list_any}
use Rattle.std.proofs.lemmas.Bool.{eq-eqb, eqb-true}
use Rattle.std.proofs.lemmas.List.Elements.{Contains-push}
use Rattle.std.proofs.lemmas.List.Folds.{Any-from_list_any, list_any-from_Any}
use Rattle.mib_state.specs.Entities.{Entities}
use Rattle.explain_findings.specs.Reach.{ports}
use Rattle.text_every_frame.specs.Ports.{AreJoined, ArePorts, ArePortsOfSides}

-- what a list of one port has
single : (port other : ℕ) → Contains (port ∷ []) other → other ≡ port
single port other (zero, lt, at) = sym at
single port other (suc k, lt, at) = absurd (omega arith)

itself : (port : ℕ) → Contains (port ∷ []) port
itself port = Contains-push [] port

either : (list : List ℕ) (port other : ℕ) → list ≡ port ∷ [] → Contains list other → other ≡ port
either list port other is among = single port other (subst (λ (l : List ℕ). Contains l other) is among)

pub of_sides : (asked : Option ℕ) (e f : Entities) (some others list : List ℕ) → ArePorts asked e some → ArePorts asked f others
    → AreJoined some others list → ArePortsOfSides asked e f list
of_sides (Some port) e f some others list is same joined = λ other. (λ among. one other ((joined.each other).0 among), λ this. listed other this)
  where
    one : (other : ℕ) → Contains some other ⊎ Contains others other → other ≡ port
    one other (inl among) = either some port other is among
    one other (inr among) = either others port other same among

    listed : (other : ℕ) → other ≡ port → Contains list other
    listed other this = subst (λ (n : ℕ). Contains list n) (sym this)
        ((joined.each port).1 (inl (subst (λ (l : List ℕ). Contains l port) (sym is) (itself port))))
of_sides None e f some others list named named_too joined = record {
  once = joined.once;
  each = λ port. (
    λ among. from_list port ((joined.each port).0 among),
    λ among. (joined.each port).1 (to_list port among),
  );
}
  where
    from_list : (port : ℕ) → Contains some port ⊎ Contains others port → Contains (ports e) port ⊎ Contains (ports f) port
    from_list port (inl among) = inl ((named.each port).0 among)
    from_list port (inr among) = inr ((named_too.each port).0 among)

    to_list : (port : ℕ) → Contains (ports e) port ⊎ Contains (ports f) port → Contains some port ⊎ Contains others port
    to_list port (inl among) = inl ((named.each port).1 among)
    to_list port (inr among) = inr ((named_too.each port).1 among)

-- whether a list has a port
pub has_or_not : (list : List ℕ) (port : ℕ) → Contains list port ⊎ (Contains list port → ⊥)
has_or_not list port = by_test (list_any (λ m. m == port) list) refl
  where
    by_test : (b : Bool) → list_any (λ m. m == port) list ≡ b → Contains list port ⊎ (Contains list port → ⊥)
    by_test true is =
        let found = Any-from_list_any (λ m. m == port) list is in
        inl (subst (λ (m : ℕ). Contains list m) (eqb-true found.1 port found.4) (found.0, found.2, found.3))
    by_test false is = inr (λ among.
        let any = list_any-from_Any (λ m. m == port) list (among.0, port, among.1, among.2, eq-eqb port port refl) in
        absurd (cc (is, any)))
