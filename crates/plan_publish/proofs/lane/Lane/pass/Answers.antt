use Rattle.std.proofs.Common.{◌∙◌, rules}
use Rattle.plan_publish.proofs.lane.Lane.pass.Goals as goal

pub returns-clause-held : goal.returns-clause-held
returns-clause-held c =
    let h = c.in_ok-held.ensures.holds in
    record {
      entered = record {
        now = h.2.now;
        lists = h.0;
        held_before = h.1;
        held_after = search rules;
        begins_held = h.2.begins_held;
        begins_learnt = search rules;
      };
      version_is = c.version-version.ensures ∙ h.2.version_is;
    }
