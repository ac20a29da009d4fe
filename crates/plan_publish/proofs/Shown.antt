-- What a control shows of the world after a publish.
use Rattle.std.proofs.Common.{[], length, refl, sym, ap, ◌∙◌, arith, length-append}
use Rattle.mib_state.specs.Entities.{Entities, nothing}
use Rattle.mib_state.specs.After.{after, after_from}
use Rattle.plan_publish.specs.Control.{Progress, accepted_of}
use Rattle.plan_publish.specs.World.{World, Publish, happens}
use Rattle.plan_publish.specs.Shown.{Shows}
use Rattle.plan_publish.proofs.Parts.{after-append}

pub shown_publish : (p : Progress) (w : World) → Shows p w → Shows (record p { published = accepted_of p; pending = [] }) (happens w Publish)
shown_publish p w s = record {
  desk = s.desk;
  published = ap (λ (e : Entities). after_from e w.pending) s.published ∙ ap (after_from (after p.published)) s.pending ∙ sym (after-append nothing p.published p.pending);
  count = omega (arith, s.count, ap length s.pending, length-append p.published p.pending);
  pending = refl;
}
