-- What a lane held, once it holds what was told.
use Rattle.std.proofs.Common.{◌≡◌, ℕ, ◌<◌, List, sym, subst, arith, ◌^◌, ◌-◌}
use Rattle.omci_msg.specs.declared.Request.{Request}
use Rattle.plan_publish.specs.Requests.{StartsWith, StartsWithEach, version_of}
use Rattle.plan_publish.proofs.Beginnings.{starts_trans, whole}

-- what begins with what was told, and is as long, is that
pub confirmed : (told now learnt : List Request) (before : List (List Request)) (version told_version : ℕ) → told_version ≡ version_of told → told_version < 2 ^ 64 - 1
    → version ≡ version_of now → StartsWith now learnt → StartsWith learnt told → StartsWithEach now before → version ≡ told_version → StartsWithEach told before
confirmed told now learnt before version told_version is small count begins learns each same =
    let s = starts_trans now learnt told begins learns in
    let one : told ≡ now = whole told now (s.0, sym s.1) (omega (arith, is, small, count, same)) in
    subst (λ (l : List Request). StartsWithEach l before) (sym one) each
