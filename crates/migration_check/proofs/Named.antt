-- The ports that configurations on a way name.
use Rattle.std.proofs.Common.{◌≡◌, ◌<◌, ◌≤◌, ◌+◌, ◌⊎◌, ℕ, List, inl, inr, subst, sym, arith}
use Rattle.std.specs.Prelude.{Contains}
use Rattle.std.proofs.lemmas.Bool.{cases_lt}
use Rattle.omci_msg.specs.declared.Request.{Request}
use Rattle.mib_state.specs.Entities.{Entities}
use Rattle.explain_findings.specs.Reach.{ports}
use Rattle.migration_check.specs.Migration.{version}
use Rattle.migration_check.specs.Ports.{AreAdded}

-- those of the first
pub named_first : (e : Entities) (requests : List Request) (some list : List ℕ) → AreAdded some e list
    → (count port : ℕ) → count ≤ 0 → Contains (ports (version e requests count)) port → Contains list port
named_first e requests some list added count port upto among =
    let none : count ≡ 0 = omega (arith, upto) in
    added.each port (inr (subst (λ (n : ℕ). Contains (ports (version e requests n)) port) none among))

-- and of one more
pub named_more : (e : Entities) (requests : List Request) (i : ℕ) (some list : List ℕ) (here : Entities)
    → ((count port : ℕ) → count ≤ i → Contains (ports (version e requests count)) port → Contains some port)
    → here ≡ version e requests (i + 1) → AreAdded some here list
    → (count port : ℕ) → count ≤ i + 1 → Contains (ports (version e requests count)) port → Contains list port
named_more e requests i some list here before at added count port upto among = by_case (cases_lt count (i + 1))
  where
    by_case : (count < i + 1) ⊎ (i + 1 ≤ count) → Contains list port
    by_case (inl less) = added.each port (inl (before count port (omega (arith, less)) among))
    by_case (inr least) =
        let last : count ≡ i + 1 = omega (arith, least, upto) in
        added.each port
        (inr (subst (λ (f : Entities). Contains (ports f) port) (sym at) (subst (λ (n : ℕ). Contains (ports (version e requests n)) port) last among)))
