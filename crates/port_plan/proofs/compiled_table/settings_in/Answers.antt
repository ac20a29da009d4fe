use Rattle.std.proofs.Common.{◌∙◌, ap, arith, sym}
use Rattle.vlan_rule.specs.declared.settings.TableSettings.{TableSettings}
use Rattle.frame_meaning.specs.Meaning.{Table}
use Rattle.frame_meaning.proofs.Tables.{table_is}
use Rattle.port_plan.proofs.compiled_table.settings_in.Goals as goal

pub returns : goal.returns
returns c = λ n.
    let vlan = c.args.vlan.now in
    let with_settings : TableSettings → Table = λ settings. record { settings = settings; entries = vlan.table } in
    ap with_settings c.settings_of.ensures ∙ sym (table_is n vlan (omega arith) (omega arith))
