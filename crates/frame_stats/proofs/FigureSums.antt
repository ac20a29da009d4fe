-- Figures of more verdicts.
use Rattle.std.proofs.Common.{◌≡◌, ◌≢◌, ℕ, ◌+◌, ◌<◌, ◌≤◌, ◌^◌, List, [], ◌∷◌, ◌++◌, take, length, length-take, get_or, ap, ⊎_elim, add-one, arith, refl, Bool, true, false}
use Rattle.std.proofs.lemmas.Bool.{cases_eq}
use Rattle.std.proofs.lemmas.Bool.Decides.{nat_tests}
use Rattle.std.specs.Prelude.{cond, filter, Err, IsErrOf, zero, suc}
use Rattle.std.specs.List.{sum_by}
use Rattle.std.proofs.lemmas.List.Sums.{sum_by-cons, sum_by-append, sum_by_more, sum_by_more_le, length-filter, count_by-le-length}
use Rattle.frame_meaning.specs.declared.reason.Reason.{Reason}
use Rattle.frame_meaning.specs.declared.reason.Reason.TheVariants.{Runt, CutTag, NoRule, RuleDiscard, NoMapper, NullPointer, NoInterwork, NoGem, Direction}
use Rattle.frame_meaning.specs.declared.verdict.Verdict.{Verdict}
use Rattle.frame_meaning.specs.declared.verdict.Verdict.TheVariants.{Forward, Drop}
use Rattle.frame_meaning.specs.Reason.{number_of_reason}
use Rattle.frame_stats.specs.declared.fault.CountFault.{CountFault}
use Rattle.frame_stats.specs.declared.fault.CountFault.TheVariants.{CountFull, NoMemory}
use Rattle.frame_stats.specs.Tallies.{weight}
use Rattle.frame_stats.specs.Figures.{Figure, Frames, Bytes, DropsFor, FramesTo, bytes_leaving, is_drop_for, leaves_by_port, figure, NamesPort}

-- ---- figures are sums of weights

more_that_pass : (b : Bool) (x : Verdict) (xs : List Verdict) → length (cond b (x ∷ xs) xs) ≡ cond b 1 0 + length xs
more_that_pass true x xs = omega arith
more_that_pass false x xs = omega arith

figure-cons : (f : Figure) (v : Verdict) (vs : List Verdict) → figure f (v ∷ vs) ≡ weight f v + figure f vs
figure-cons Frames (Forward gem frame) vs = omega arith
figure-cons Frames (Drop found) vs = omega arith
figure-cons Bytes (Forward gem frame) vs = sum_by-cons bytes_leaving (Forward gem frame) vs
figure-cons Bytes (Drop found) vs = sum_by-cons bytes_leaving (Drop found) vs
figure-cons (DropsFor reason) (Forward gem frame) vs = omega arith
figure-cons (DropsFor reason) (Drop found) vs = more_that_pass (is_drop_for reason (Drop found)) (Drop found) (filter (is_drop_for reason) vs)
figure-cons (FramesTo port) (Forward gem frame) vs = more_that_pass (leaves_by_port port (Forward gem frame)) (Forward gem frame) (filter (leaves_by_port port) vs)
figure-cons (FramesTo port) (Drop found) vs = omega arith

-- nothing has none of any figure
pub figure-none : (f : Figure) → figure f [] ≡ 0
figure-none Frames = refl
figure-none Bytes = refl
figure-none (DropsFor reason) = refl
figure-none (FramesTo port) = refl

pub figure_is_sum : (f : Figure) (vs : List Verdict) → figure f vs ≡ sum_by (weight f) vs
figure_is_sum f [] = figure-none f
figure_is_sum f (v ∷ vs) =
    let this = figure-cons f v vs in
    let rest = figure_is_sum f vs in
    let more = sum_by-cons (weight f) v vs in
    omega (arith, this, rest, more)

pub figure-append : (f : Figure) (vs ws : List Verdict) → figure f (vs ++ ws) ≡ figure f vs + figure f ws
figure-append f vs ws =
    let all = figure_is_sum f (vs ++ ws) in
    let first = figure_is_sum f vs in
    let last = figure_is_sum f ws in
    let both = sum_by-append (weight f) vs ws in
    omega (arith, all, first, last, both)

pub figure_more : (f : Figure) (vs : List Verdict) (i : ℕ) (d : Verdict) → i < length vs
    → figure f (take (i + 1) vs) ≡ figure f (take i vs) + weight f (get_or vs i d)
figure_more f vs i d lt =
    let after = figure_is_sum f (take (i + 1) vs) in
    let before = figure_is_sum f (take i vs) in
    let more = sum_by_more (weight f) vs i d lt in
    omega (arith, after, before, more)

-- where one more verdict passes a bound, all do
pub past_whole : (f : Figure) (n : ℕ) (vs : List Verdict) (i : ℕ) (v : Verdict) (bound : ℕ) → i < length vs → v ≡ get_or vs i v → n ≡ figure f (take i vs)
    → bound ≤ n + weight f v → bound ≤ figure f vs
past_whole f n vs i v bound lt is so_far past =
    let same = ap (weight f) is in
    let before = figure_is_sum f (take i vs) in
    let whole = figure_is_sum f vs in
    let part = sum_by_more_le (weight f) vs i v lt in
    omega (arith, same, so_far, past, before, whole, part)

-- ---- none but the bytes is more than the frames

pub drops_within : (reason : Reason) (vs : List Verdict) → figure (DropsFor reason) vs ≤ length vs
drops_within reason vs =
    let count = length-filter (is_drop_for reason) vs in
    let least = count_by-le-length (is_drop_for reason) vs in
    omega (arith, count, least)

pub frames_within : (port : ℕ) (vs : List Verdict) → figure (FramesTo port) vs ≤ length vs
frames_within port vs =
    let count = length-filter (leaves_by_port port) vs in
    let least = count_by-le-length (leaves_by_port port) vs in
    omega (arith, count, least)

all_within : (f : Figure) (vs : List Verdict) (bound : ℕ) → length vs < bound → figure Bytes vs < bound → figure f vs < bound
all_within Frames vs bound frames bytes = frames
all_within Bytes vs bound frames bytes = bytes
all_within (DropsFor reason) vs bound frames bytes = omega (arith, drops_within reason vs, frames)
all_within (FramesTo port) vs bound frames bytes = omega (arith, frames_within port vs, frames)

-- ---- the first frame of a port

one_at_most : (port : ℕ) (v : Verdict) → weight (FramesTo port) v ≤ 1
one_at_most port (Forward gem frame) = grind (arith, nat_tests)
one_at_most port (Drop found) = omega arith

-- a verdict with which a port has its first frame, where no sum up to it passes 64 bits
names_port : (vs : List Verdict) (i port : ℕ) (d : Verdict) → i < length vs → length vs < 2 ^ 64 → figure Bytes (take (i + 1) vs) < 2 ^ 64
    → figure (FramesTo port) (take i vs) ≡ 0 → 0 < figure (FramesTo port) (take (i + 1) vs) → NamesPort vs i
names_port vs i port d lt few bytes none some =
    let more = figure_more (FramesTo port) vs i d lt in
    let most = one_at_most port (get_or vs i d) in
    let len = length-take (i + 1) vs in
    let frames : length (take (i + 1) vs) < 2 ^ 64 = omega (arith, len, few) in
    record {
      inside = lt;
      port = port;
      first = none;
      named = omega (arith, more, most, none, some);
      fits = λ f. all_within f (take (i + 1) vs) (2 ^ 64) frames bytes;
    }

-- where a port has frames among the first n verdicts, one of them names it
pub some_names_port : (vs : List Verdict) (n port : ℕ) (d : Verdict) → n ≤ length vs → length vs < 2 ^ 64 → figure Bytes (take n vs) < 2 ^ 64
    → 0 < figure (FramesTo port) (take n vs) → (place : ℕ) × NamesPort vs place
some_names_port vs zero port d le few bytes some = absurd (omega (arith, frames_within port (take 0 vs), length-take 0 vs, some))
some_names_port vs (suc n) port d le few bytes some =
    let lt : n < length vs = omega (arith, le) in
    let fewer = figure_more Bytes vs n d lt in
    let bytes_here : figure Bytes (take (n + 1) vs) < 2 ^ 64 = rw add-one bytes in
    let some_here : 0 < figure (FramesTo port) (take (n + 1) vs) = rw add-one some in
    ⊎_elim
    (λ (none : figure (FramesTo port) (take n vs) ≡ 0). (n, names_port vs n port d lt few bytes_here none some_here))
    (λ (before : figure (FramesTo port) (take n vs) ≢ 0).
    some_names_port vs n port d (omega (arith, le)) few (omega (arith, bytes_here, fewer)) (omega (arith, before)))
    (cases_eq (figure (FramesTo port) (take n vs)) 0)

-- ---- reasons and places

-- each place is that of a reason
pub reason_at : (k : ℕ) → k < 9 → (r : Reason) × (number_of_reason r ≡ k + 1)
reason_at zero lt = (Runt, refl)
reason_at (suc zero) lt = (CutTag, refl)
reason_at (suc (suc zero)) lt = (NoRule, refl)
reason_at (suc (suc (suc zero))) lt = (RuleDiscard, refl)
reason_at (suc (suc (suc (suc zero)))) lt = (NoMapper, refl)
reason_at (suc (suc (suc (suc (suc zero))))) lt = (NullPointer, refl)
reason_at (suc (suc (suc (suc (suc (suc zero)))))) lt = (NoInterwork, refl)
reason_at (suc (suc (suc (suc (suc (suc (suc zero))))))) lt = (NoGem, refl)
reason_at (suc (suc (suc (suc (suc (suc (suc (suc zero)))))))) lt = (Direction, refl)
reason_at (suc (suc (suc (suc (suc (suc (suc (suc (suc k))))))))) lt = absurd (omega arith)

-- a fault is the same in another result
pub same_fault : {A B E : Type 0} (e x : E) → IsErrOf {T = A} (Err e) x → IsErrOf {T = B} (Err e) x
same_fault e x h = let same : e ≡ x = cc in ap Err same

-- what holds for either fault
pub by_fault : {P : Type 0} (fault : CountFault) → (fault ≡ CountFull → P) → (fault ≡ NoMemory → P) → P
by_fault CountFull full memory = full refl
by_fault NoMemory full memory = memory refl
