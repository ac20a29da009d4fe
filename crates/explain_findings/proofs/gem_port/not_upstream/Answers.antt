use Rattle.std.proofs.Common.{◌≡◌, ℕ, Bool, true, false, Ok, Err, refl}
use Rattle.std.specs.Prelude.{if◌then◌else◌}
use Rattle.managed_entity.specs.Instance.{Instance, attribute_number}
use Rattle.frame_meaning.specs.declared.reason.Reason.{Reason}
use Rattle.frame_meaning.specs.declared.reason.Reason.TheVariants.{Direction}
use Rattle.frame_meaning.specs.Meaning.{carries_upstream, port_id_of}
use Rattle.frame_meaning.proofs.Numbers.{one_byte}
use Rattle.explain_findings.proofs.gem_port.not_upstream.Goals as goal

carried : (gem : Instance) (id : ℕ) → Ok id ≡ port_id_of gem → carries_upstream gem ≡ true
unfolding port_id_of
carried gem id is = by_case (carries_upstream gem) is
  where
    by_case : (b : Bool) → Ok id ≡ (if b then Ok (attribute_number 1 gem) else Err Direction) → b ≡ true
    by_case true is = refl
    by_case false is = cc

refused : (gem : Instance) (r : Reason) → Err r ≡ port_id_of gem → carries_upstream gem ≡ false
unfolding port_id_of
refused gem r is = by_case (carries_upstream gem) is
  where
    by_case : (b : Bool) → Err r ≡ (if b then Ok (attribute_number 1 gem) else Err Direction) → b ≡ false
    by_case true is = cc
    by_case false is = refl

pub returns-in-Ok : goal.returns-in-Ok
returns-in-Ok c = rw (carried _ _ (c.in-Ok.ensures c.args.number)) refl

pub returns-in-Err : goal.returns-in-Err
returns-in-Err c = rw (refused _ _ (c.in-Err.ensures c.args.number), one_byte c.args.gem.now.direction) refl
