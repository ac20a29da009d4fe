use Rattle.std.proofs.Common.{drop, [], ◌∷◌}
use Rattle.managed_entity.specs.Class.{onu_data_layout}
use Rattle.managed_entity.specs.Mask.{mask_of}
use Rattle.managed_entity.proofs.SetInstance.{written_as}
use Rattle.mib_state.proofs.Sync.{sync_accepted, sync_written}
use Rattle.mib_state.proofs.onu_data.OnuData.set.Goals as goal

pub returns-then-request-eq0 : goal.returns-then-request-eq0
returns-then-request-eq0 c =
    let mask = mask_of c.args.request.now.contents in
    let bytes = drop 2 c.args.request.now.contents in
    let old = c.args.self.now.sync in
    let new = c.set.new.entity.sync in
    let accepted = sync_accepted onu_data_layout mask bytes old (rw c.if-request-eq0.true at c.requires) in
    rw c.if-request-eq0.true (sync_written onu_data_layout mask bytes old new
    (written_as onu_data_layout 0 ((old ∷ []) ∷ []) [] ((new ∷ []) ∷ []) [] mask _ bytes _ c.mask_of.ensures c.set_values.ensures.values c.set.ensures.values c.set.ensures.entries accepted))
