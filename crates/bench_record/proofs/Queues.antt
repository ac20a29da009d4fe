-- What a key has in the table of queues.
use Rattle.std.proofs.Common.{◌≡◌, cond, [], Bool, true, false, List, ℕ, Option, Some, None, Global, Vec, refl}
use Rattle.std.specs.Prelude.{if◌then◌else◌, option_map, unwrap_or}

abbrev pub items_of : Option (Vec ℕ Global) → List ℕ
items_of o = unwrap_or (option_map (λ (queue : Vec ℕ Global). queue.items) o) []

-- behind a queue that is set for one key
pub after_set : (b : Bool) (new : Vec ℕ Global) (old : Option (Vec ℕ Global)) → items_of (cond b (Some new) old) ≡ (if b then new.items else items_of old)
after_set true new old = refl
after_set false new old = refl

-- behind a queue that is taken out
pub after_taken : (b : Bool) (old : Option (Vec ℕ Global)) → items_of (cond b None old) ≡ (if b then [] else items_of old)
after_taken true old = refl
after_taken false old = refl

-- behind a queue that is taken out, and another that is put there
pub after_put : (b : Bool) (new : Vec ℕ Global) (old : Option (Vec ℕ Global))
    → items_of (cond b (Some new) (cond b None old)) ≡ (if b then new.items else items_of old)
after_put true new old = refl
after_put false new old = refl
