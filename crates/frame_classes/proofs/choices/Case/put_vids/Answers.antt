use Rattle.std.proofs.Common.{◌≡◌, ◌<◌, ◌^◌, ◌&&◌, ◌⊎◌, ℕ, false, length, sym, subst}
use Rattle.std.specs.Prelude.{Contains, map, take}
use Rattle.std.proofs.lemmas.List.{length-map}
use Rattle.frame_rows.specs.declared.source.Packet.{Packet}
use Rattle.frame_rows.specs.Field.{fields, place_of}
use Rattle.frame_rows.specs.Source.{dscp_in, has_dscp}
use Rattle.frame_classes.specs.Choices.{IsUnnamed, is_named, is_read}
use Rattle.frame_classes.specs.Splitting.{HasSeveral}
use Rattle.frame_classes.specs.Told.{side_by}
use Rattle.frame_classes.proofs.Standing.{case_of, covering}
use Rattle.frame_classes.proofs.Vids.{by_dscp_choices, by_name_choices, plain_choices, vid_limit}
use Rattle.frame_classes.proofs.choices.Case.put_vids.Goals as goal

pub returns-then-is_told_by_dscp : goal.returns-then-is_told_by_dscp
returns-then-is_told_by_dscp c =
    let self = c.args.self.now in
    let rows = self.rows.now in
    let places = self.left.now in
    let values = self.values.now in
    let field = c.args.field in
    let sides = map side_by self.sides.now.sides.now in
    let count = length self.sides.now.sides.now in
    let r = c.requires in
    let case = case_of self.sides.now.sides.now rows self.sides.now.ends (take (place_of field) fields) values places r.beside r.left in
    let choices = c.put_vids_by_dscp.new.choices.items in
    λ least.
    covering sides rows places least field values choices case.all
    (by_dscp_choices sides rows least field values places choices count
    (record { rows_are = case; eleven = r.eleven; behind = r.behind; early = r.early; long = r.long })
    (sym (length-map self.sides.now.sides.now side_by)) c.put_vids_by_dscp.ensures.fit c.put_vids_by_dscp.ensures.named
    (subst
    (λ (p : Packet). (v : ℕ) → v < 2 ^ 12 → is_named rows places field v ≡ false
    → Contains choices v ⊎ HasSeveral count (λ d. Contains choices d × IsUnnamed rows places field p (dscp_in p v) d))
    c.packet-packet.ensures c.put_vids_by_dscp.ensures.others))

pub returns-then-is_asked : goal.returns-then-is_asked
returns-then-is_asked c =
    let self = c.args.self.now in
    let rows = self.rows.now in
    let places = self.left.now in
    let values = self.values.now in
    let field = c.args.field in
    let sides = map side_by self.sides.now.sides.now in
    let r = c.requires in
    let case = case_of self.sides.now.sides.now rows self.sides.now.ends (take (place_of field) fields) values places r.beside r.left in
    let choices = c.put_vids_by_name.new.choices.items in
    λ least.
    covering sides rows places least field values choices case.all
    (by_name_choices sides rows least field values places choices (length self.sides.now.sides.now)
    (record { rows_are = case; eleven = r.eleven; behind = r.behind; early = r.early; long = r.long })
    (sym (length-map self.sides.now.sides.now side_by))
    (subst (λ (p : Packet). (has_dscp p && is_read rows places field) ≡ false) c.packet-packet.ensures (sym c.if-is_told_by_dscp.ensures))
    c.put_vids_by_name.ensures.fit c.put_vids_by_name.ensures.named c.put_vids_by_name.ensures.others)

pub put_several-requires-clause-end : goal.put_several-requires-clause-end
put_several-requires-clause-end c = sym (vid_limit c.args.field c.requires.behind c.requires.early)

pub returns : goal.returns
returns c =
    let self = c.args.self.now in
    let rows = self.rows.now in
    let places = self.left.now in
    let values = self.values.now in
    let field = c.args.field in
    let sides = map side_by self.sides.now.sides.now in
    let r = c.requires in
    let case = case_of self.sides.now.sides.now rows self.sides.now.ends (take (place_of field) fields) values places r.beside r.left in
    let choices = c.put_several.new.choices.items in
    λ least.
    covering sides rows places least field values choices case.all
    (plain_choices sides rows least field values places choices (length self.sides.now.sides.now)
    (record { rows_are = case; eleven = r.eleven; behind = r.behind; early = r.early; long = r.long })
    (sym (length-map self.sides.now.sides.now side_by))
    (subst (λ (p : Packet). (has_dscp p && is_read rows places field) ≡ false) c.packet-packet.ensures (sym c.if-is_told_by_dscp.ensures))
    (sym c.if-is_asked.ensures) c.put_several.ensures.fit c.put_several.ensures.several)
