-- What a history's messages and replies are judged upon.
use Rattle.std.specs.Prelude.{Bool, List, [], ◌∷◌, ◌++◌}
use Rattle.omci_msg.specs.declared.request.Request.{Request}
use Rattle.bench_history.specs.declared.event.Event.{Event}
use Rattle.bench_answers.specs.declared.basis.Basis.{Basis}

-- whether only what a model determines is compared, whether a message that is sent twice in a row is a repeat, and the requests
-- that the unit carried out before the first event
pub record Ground : Type 0 where
  pub modelled : Bool
  pub repeats : Bool
  pub start : List Request

-- the same of a basis
abbrev pub ground_of : Basis → Ground
ground_of basis = record { modelled = basis.modelled; repeats = basis.repeats; start = basis.start.now }

-- what each event adds behind those before it, joined
abbrev pub collected : {A : Type 0} → (List Event → Event → List A) → List Event → List Event → List A
collected adds before [] = []
collected adds before (event ∷ rest) = adds before event ++ collected adds (before ++ event ∷ []) rest
