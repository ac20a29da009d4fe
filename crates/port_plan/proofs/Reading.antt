-- What the routes of a mapper are read from.
use Rattle.std.proofs.Common.{◌≡◌, ◌≢◌, ◌==◌, ℕ, ◌<◌, Bool, true, false, List, Option, Some, None, inl, inr, refl, ap, eq-eqb, sym, ◌∙◌}
use mathlib.Core.Bool.{false≢true}
use Rattle.std.specs.Prelude.{if◌then◌else◌, ok_or, slice_get, slice_index}
use Rattle.std.specs.List.{list_any}
use Rattle.std.proofs.lemmas.Bool.{cases_eq}
use Rattle.std.proofs.lemmas.List.Folds.{list_any_at}
use Rattle.std.proofs.lemmas.Option.{get_or_from_slice_get, slice_get_within}
use Rattle.managed_entity.specs.Instance.{Instance, attribute_number}
use Rattle.mib_state.specs.Entities.{Entities, find}
use Rattle.mib_state.specs.Touch.{IsSameBut}
use Rattle.pmapper.specs.Mapper.{pointer_of}
use Rattle.frame_meaning.specs.declared.reason.Reason.TheVariants.{NoInterwork, NullPointer}
use Rattle.frame_meaning.specs.Meaning.{found_then, gem_port_behind, gem_port_of, pointers_at}
use Rattle.port_plan.specs.declared.mapper_routes.Route.{Route}
use Rattle.port_plan.specs.declared.routes.Routes.{Routes}
use Rattle.port_plan.specs.Plan.{AreRoutes, DoesNotRead, compiled_route, ctp_behind, ctp_number, point_number}

-- ---- one route

-- the point that a mapper points to for a priority, and the GEM port network CTP that this points to, are found as before
record IsReadAlike (e e' : Entities) (mapper : Instance) (priority : ℕ) : Type 0 where
  point : find (point_number (Some mapper) priority) e'.interworks ≡ find (point_number (Some mapper) priority) e.interworks
  ctp : find (ctp_number e (Some mapper) priority) e'.gem_ports ≡ find (ctp_number e (Some mapper) priority) e.gem_ports

behind_point : (e e' : Entities) (point : Instance) → find (attribute_number 1 point) e'.gem_ports ≡ find (attribute_number 1 point) e.gem_ports
    → gem_port_behind e' point ≡ gem_port_behind e point
unfolding gem_port_behind
behind_point e e' point same = rw same refl

behind : (e e' : Entities) (point : Option Instance) → find (ctp_behind point) e'.gem_ports ≡ find (ctp_behind point) e.gem_ports
    → found_then (ok_or point NoInterwork) (gem_port_behind e') ≡ found_then (ok_or point NoInterwork) (gem_port_behind e)
behind e e' None same = refl
behind e e' (Some point) same = behind_point e e' point same

gem_port_alike : (e e' : Entities) (mapper : Instance) (priority : ℕ) → IsReadAlike e e' mapper priority
    → gem_port_of e' mapper priority ≡ gem_port_of e mapper priority
unfolding gem_port_of pointer_of
gem_port_alike e e' mapper priority alike = by_case (slice_index (pointers_at mapper) priority == 0xFFFF)
  where
    pointer : ℕ
    pointer = slice_index (pointers_at mapper) priority

    by_case : (null : Bool)
        → found_then (ok_or (if null then None else Some pointer) NullPointer) (λ p. found_then (ok_or (find p e'.interworks) NoInterwork) (gem_port_behind e'))
        ≡ found_then (ok_or (if null then None else Some pointer) NullPointer) (λ p. found_then (ok_or (find p e.interworks) NoInterwork) (gem_port_behind e))
    by_case true = refl
    by_case false = rw alike.point (behind e e' (find pointer e.interworks) alike.ctp)

route_alike : (e e' : Entities) (mapper : Instance) (priority : ℕ) → IsReadAlike e e' mapper priority
    → compiled_route e' (Some mapper) priority ≡ compiled_route e (Some mapper) priority
route_alike e e' mapper priority alike = rw (gem_port_alike e e' mapper priority alike, alike.point) refl

-- ---- the routes of a mapper

routes_alike : (e e' : Entities) (mapper : Instance) (routes : Routes) → ((priority : ℕ) → priority < 8 → IsReadAlike e e' mapper priority)
    → AreRoutes e (Some mapper) routes → AreRoutes e' (Some mapper) routes
routes_alike e e' mapper routes alike are =
    record {
      by_priority = λ priority small. are.by_priority priority small ∙ ap Some (sym (route_alike e e' mapper priority (alike priority small)));
      untagged = are.untagged;
      foreseen = are.foreseen;
    }

-- among the same GEM interworking termination points and GEM port network CTPs the routes are the same
pub same_routes : (e e' : Entities) (mapper : Option Instance) (routes : Routes) → e'.interworks ≡ e.interworks → e'.gem_ports ≡ e.gem_ports
    → AreRoutes e mapper routes → AreRoutes e' mapper routes
same_routes e e' None routes points ctps are = record { by_priority = are.by_priority; untagged = are.untagged; foreseen = are.foreseen }
same_routes e e' (Some mapper) routes points ctps are =
    routes_alike e e' mapper routes (λ priority small. record {
      point = ap (λ (l : List Instance). find (point_number (Some mapper) priority) l) points;
      ctp = ap (λ (l : List Instance). find (ctp_number e (Some mapper) priority) l) ctps;
    }) are

-- ---- an instance that no route is read from

found_alike : (own class n m : ℕ) (old new : List Instance) → IsSameBut own class n old new → (own ≡ class → m ≢ n) → find m new ≡ find m old
found_alike own class n m old new but other = elim (cases_eq own class) [
  | inl same ↦ but.others m (other same)
  | inr differs ↦ ap (λ (l : List Instance). find m l) (but.elsewhere differs)
]

-- it is none of the points that a mapper points to, and none of the GEM port network CTPs that these point to
pub record IsNoneOf (class n : ℕ) (routes : List Route) : Type 0 where
  pub points : 266 ≡ class → (priority : ℕ) (route : Route) → slice_get routes priority ≡ Some route → route.interwork ≢ n
  pub ctps : 268 ≡ class → (priority : ℕ) (route : Route) → slice_get routes priority ≡ Some route → route.gem_port ≢ n

pub does_not_read : (class n : ℕ) (routes : Routes) → IsNoneOf class n routes.by_priority → DoesNotRead class n routes
does_not_read class n routes none e e' mapper but are = routes_alike e e' mapper routes alike are
  where
    alike : (priority : ℕ) → priority < 8 → IsReadAlike e e' mapper priority
    alike priority small =
        let held = are.by_priority priority small in
        record {
          point = found_alike 266 class n _ _ _ but.interworks (λ own. none.points own priority _ held);
          ctp = found_alike 268 class n _ _ _ but.gem_ports (λ own. none.ctps own priority _ held);
        }

-- where none of the routes has a number, each has another
pub each_other : (number : Route → ℕ) (n : ℕ) (routes : List Route) → list_any (λ route. number route == n) routes ≡ false
    → (priority : ℕ) (route : Route) → slice_get routes priority ≡ Some route → number route ≢ n
each_other number n routes none priority route held same =
    let within = slice_get_within routes priority route held in
    let there = get_or_from_slice_get routes priority route route held in
    false≢true (sym none ∙ list_any_at (λ route. number route == n) routes priority route within (rw there (eq-eqb (number route) n same)))
