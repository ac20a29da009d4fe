-- Which events a right unit may have shown by themselves, whatever becomes of the frames.
use Rattle.std.specs.Prelude.{◌≡◌, ℕ, true, List, Some, slice_get, take}
use Rattle.bench_history.specs.declared.event.Event.{Event}
use Rattle.bench_history.specs.declared.event.Event.TheVariants.{Replied, LeftOneOf, Strayed}
use Rattle.bench_answers.specs.Right.{IsRight}
use Rattle.bench_judge.specs.Doubt.{IsOneOf}
use Rattle.bench_judge.specs.Terms.{Terms, ground_in}

-- an event may stand behind others: a reply where it is right, a stray where strays are allowed, and a frame that left and is one of several
-- where one of these may have left so by itself
abbrev pub IsAdmitted : Terms → List Event → Event → Type 0
IsAdmitted terms before (Replied bytes) = IsRight (ground_in terms) before bytes
IsAdmitted terms before (LeftOneOf gem extent among) = IsOneOf (ground_in terms) terms.settings.padded before gem extent among
IsAdmitted terms before (Strayed gem extent frame) = terms.settings.strays ≡ true
IsAdmitted terms before event = Unit {0}

-- each event may stand behind those before it
abbrev pub AreAdmitted : Terms → List Event → Type 0
AreAdmitted terms events = (i : ℕ) (event : Event) → slice_get events i ≡ Some event → IsAdmitted terms (take i events) event
