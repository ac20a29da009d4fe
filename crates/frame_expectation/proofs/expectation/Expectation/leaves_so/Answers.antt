use Rattle.std.proofs.Common.{◌≡◌, ℕ, Ok, Err, ap, sym, ◌∙◌}
use Rattle.tag_view.specs.Frame.{frame_of}
use Rattle.tag_view.specs.Dscp.{dscp_of}
use Rattle.vlan_rule.specs.declared.settings.TableSettings.{TableSettings}
use Rattle.frame_meaning.specs.Meaning.{input_tpid_of, table_at}
use Rattle.frame_expectation.specs.Wanted.{settings_by, tags_wanted}
use Rattle.frame_expectation.proofs.Leaving.{not_read, retag_wanted, unchanged_wanted}
use Rattle.frame_expectation.proofs.expectation.Expectation.leaves_so.Goals as goal

-- it was read, since it leaves
pub unreachable-requires : goal.unreachable-requires
unreachable-requires c =
    let e = c.args.mib.now.entities in
    let port = c.args.self.now.port in
    let input : c.input_tpid.result ≡ input_tpid_of (table_at e port) = c.input_tpid.ensures ∙ ap input_tpid_of c.at-table.ensures in
    not_read e port c.requires.0 c.args.bytes.now c.args.out.now c.in_default.field-0
    (ap (λ (n : ℕ). frame_of n c.args.bytes.now) (sym input) ∙ sym c.view.ensures.value ∙ c.in_default.is) c.requires.1

pub returns-in-Unchanged : goal.returns-in-Unchanged
returns-in-Unchanged c =
    let e = c.args.mib.now.entities in
    let port = c.args.self.now.port in
    let input : c.input_tpid.result ≡ input_tpid_of (table_at e port) = c.input_tpid.ensures ∙ ap input_tpid_of c.at-table.ensures in
    let read : frame_of (input_tpid_of (table_at e port)) c.args.bytes.now ≡ Ok c.in-Ok.frame =
    ap (λ (n : ℕ). frame_of n c.args.bytes.now) (sym input) ∙ sym c.in-Ok.ensures.value in
    rw (c.are_alike.ensures, c.tags.ensures.value, c.tags-in-Unchanged.ensures.value)
    (unchanged_wanted e port c.requires.0 c.input_tpid.result c.args.bytes.now c.in-Ok.frame c.args.out.now c.args.self.now.treatment
    (settings_by (table_at e port)) c.in-Unchanged.is read c.in-Ok.ensures.reading c.requires.1)

pub returns-in-Retag : goal.returns-in-Retag
returns-in-Retag c =
    let e = c.args.mib.now.entities in
    let port = c.args.self.now.port in
    let frame = c.in-Ok.frame in
    let input : c.input_tpid.result ≡ input_tpid_of (table_at e port) = c.input_tpid.ensures ∙ ap input_tpid_of c.at-table.ensures in
    let read : frame_of (input_tpid_of (table_at e port)) c.args.bytes.now ≡ Ok frame =
    ap (λ (n : ℕ). frame_of n c.args.bytes.now) (sym input) ∙ sym c.in-Ok.ensures.value in
    let settings : c.settings_of.result ≡ settings_by (table_at e port) = c.settings_of.ensures ∙ ap settings_by c.at-table.ensures in
    rw (c.are_alike-in-Retag.ensures, c.tags-in-Retag.ensures.value, c.deref.ensures.0)
    (retag_wanted e port c.requires.0 c.args.bytes.now frame c.args.out.now c.args.self.now.treatment c.in-Retag.wanted
    (settings_by (table_at e port)) c.tags-tags.result.items c.in-Retag.is read c.requires.1
    (c.tags-tags.ensures
    ∙ ap (λ (s : TableSettings). tags_wanted c.in-Retag.wanted s frame.tags (dscp_of frame.rest)) settings))
