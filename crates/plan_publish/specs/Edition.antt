-- What a copy of the plan is after requests.
use Rattle.std.specs.Prelude.{◌≡◌, ◌+◌, Bool, ◌&&◌, ◌||◌, ◌==◌, nat_le, List, [], ◌∷◌, map, Some}
use Rattle.std.specs.Option.{option_eq}
use Rattle.omci_msg.specs.declared.Request.{Request}
use Rattle.mib_state.specs.Step.{left}
use Rattle.mib_state.specs.After.{after}
use Rattle.plan_publish.specs.declared.edition.Edition.{Edition}
use Rattle.plan_publish.specs.declared.edition.Accepted.{Accepted}
use Rattle.plan_publish.specs.declared.history.Prefix.{Prefix}
use Rattle.plan_publish.specs.Requests.{StartsWith, one_more, version_of, last_of, is_same}
use Rattle.plan_publish.specs.History.{Home}

-- the entities and the version are those after these requests
pub record IsAfter (e : Edition) (requests : List Request) : Type 0 where
  pub entities : e.live ≡ after requests
  pub version : e.version ≡ version_of requests

-- what is kept of their history: all but the last one is of it, and the last one
pub record HasTrail (e : Edition) (requests : List Request) : Type 0 where
  pub base : StartsWith requests e.base.seen.log
  pub last : e.last ≡ last_of requests

-- the copy after one more
abbrev pub taken_in : Edition → Accepted → Edition
taken_in e a =
    record { live = left a.request.action e.live a.request; version = one_more e.version; base = a.before; last = Some a.request }

abbrev pub requests_of : List Accepted → List Request
requests_of ops = map (λ a. a.request) ops

-- what each of these knows of the history begins all, and is of this history
abbrev pub EachFits : List Request → Home → List Accepted → Type 0
EachFits all home [] = Unit {0}
EachFits all home (a ∷ ops) = (StartsWith all a.before.seen.log × (a.before.seen.book ≡ home)) × EachFits all home ops

-- whether it shows that a prefix of its history was absorbed: one of all but the last request, or one that ends with the last
abbrev pub shows : Edition → Prefix → Bool
shows e learnt =
    nat_le learnt.len e.base.len
    || (learnt.len == e.base.len + 1 && e.version == learnt.len && option_eq is_same e.last learnt.newest)
