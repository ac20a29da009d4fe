-- Frames of ports in runs.
use Rattle.std.proofs.Common.{◌≡◌, ◌≢◌, ℕ, ◌+◌, ◌<◌, ◌≤◌, List, [], ◌∷◌, length, get_or, take, ap, ◌∙◌, sym, subst, ⊎_elim, set, get_or-set_same, get_or-set_other, arith, refl, true}
use Rattle.std.specs.Prelude.{cond, nat_eq, zero, suc}
use Rattle.std.proofs.lemmas.Bool.{cases_eq}
use Rattle.std.proofs.lemmas.Bool.Decides.{nat_tests}
use Rattle.std.proofs.lemmas.List.Sums.{sum_by_more_le, sum_by-cons}
use Rattle.frame_stats.specs.declared.run.Run.{Run}
use Rattle.frame_stats.specs.Runs.{in_runs}
use Rattle.frame_stats.specs.Ports.{ArePlaced, no_run, place}

-- a run of a port and the runs before it have some of its frames
pub part_of_runs : (port : ℕ) (runs : List Run) (i : ℕ) (d : Run) → i < length runs → (get_or runs i d).port ≡ port
    → in_runs port (take i runs) + (get_or runs i d).frames ≤ in_runs port runs
part_of_runs port runs i d lt same =
    let part = sum_by_more_le (λ (run : Run). cond (nat_eq run.port port) run.frames 0) runs i d lt in
    let this : nat_eq (get_or runs i d).port port ≡ true = grind (arith, nat_tests) in
    let whole : cond (nat_eq (get_or runs i d).port port) (get_or runs i d).frames 0 ≡ (get_or runs i d).frames = rw this refl in
    omega (arith, part, whole)

-- ---- each port has one place

-- the frames of a port in one run
abbrev of_run : ℕ → Run → ℕ
of_run q run = cond (nat_eq run.port q) run.frames 0

in_runs-cons : (q : ℕ) (run : Run) (runs : List Run) → in_runs q (run ∷ runs) ≡ of_run q run + in_runs q runs
in_runs-cons q run runs = sum_by-cons (of_run q) run runs

-- runs that stand behind so many others are at the places of their ports
abbrev PlacedBehind : ℕ → List Run → Type 0
PlacedBehind before runs = (k : ℕ) → 0 < (get_or runs k no_run).frames → place (get_or runs k no_run).port ≡ before + k

behind : (before : ℕ) (x : Run) (xs : List Run) → PlacedBehind before (x ∷ xs) → PlacedBehind (before + 1) xs
behind before x xs placed = λ k some. let at = placed (suc k) some in omega (arith, at)

-- a run elsewhere has no frames of this port
none_of : (q before : ℕ) (x : Run) (xs : List Run) → PlacedBehind before (x ∷ xs) → place q ≢ before → of_run q x ≡ 0
none_of q before x xs placed elsewhere =
    ⊎_elim
    (λ (same : x.port ≡ q).
    ⊎_elim
    (λ (none : x.frames ≡ 0). grind (arith, nat_tests))
    (λ (some : x.frames ≢ 0).
    let at : place x.port ≡ before + 0 = placed 0 (omega (arith, some)) in
    absurd (elsewhere (sym (ap place same) ∙ at ∙ omega arith)))
    (cases_eq x.frames 0))
    (λ (other : x.port ≢ q). grind (arith, nat_tests))
    (cases_eq x.port q)

none_behind : (q before : ℕ) (runs : List Run) → PlacedBehind before runs → place q < before → in_runs q runs ≡ 0
none_behind q before [] placed past = refl
none_behind q before (x ∷ xs) placed past =
    let here = none_of q before x xs placed (λ e. omega (arith, e, past)) in
    let rest = none_behind q (before + 1) xs (behind before x xs placed) (omega (arith, past)) in
    omega (arith, in_runs-cons q x xs, here, rest)

only_from : (q before i : ℕ) (runs : List Run) → PlacedBehind before runs → place q ≡ before + i → i < length runs → in_runs q runs ≡ of_run q (get_or runs i no_run)
only_from q before i [] placed at lt = absurd (omega (arith, lt))
only_from q before zero (x ∷ xs) placed at lt =
    let rest = none_behind q (before + 1) xs (behind before x xs placed) (omega (arith, at)) in
    in_runs-cons q x xs ∙ omega (arith, rest)
only_from q before (suc i) (x ∷ xs) placed at lt =
    let here = none_of q before x xs placed (λ e. omega (arith, e, at)) in
    let rest = only_from q (before + 1) i xs (behind before x xs placed) (omega (arith, at)) (omega (arith, lt)) in
    in_runs-cons q x xs ∙ omega (arith, here, rest)

-- the frames of a port are those of the run at its place, if that is its own
pub only_run : (q : ℕ) (runs : List Run) → ArePlaced runs → place q < length runs → in_runs q runs ≡ of_run q (get_or runs (place q) no_run)
only_run q runs placed lt = only_from q 0 (place q) runs (λ k some. placed k some ∙ omega arith) (omega arith) lt

-- runs are at their places still where one is put at its own
pub placed_set : (runs : List Run) (i : ℕ) (run : Run) → i < length runs → ArePlaced runs → place run.port ≡ i → ArePlaced (set runs i run)
placed_set runs i run lt placed at = λ k some.
    ⊎_elim
    (λ (same : k ≡ i).
    let is : get_or (set runs i run) k no_run ≡ run = rw same (get_or-set_same runs i run no_run lt) in
    ap (λ (r : Run). place r.port) is ∙ at ∙ sym same)
    (λ (other : k ≢ i).
    let is = get_or-set_other runs i k run no_run other in
    ap (λ (r : Run). place r.port) is ∙ placed k (subst (λ (r : Run). 0 < r.frames) is some))
    (cases_eq k i)

-- what holds of the port of each run with frames holds of a port that has frames in them
pub runs_hold : (P : ℕ → Type 0) (q : ℕ) (runs : List Run) → ((k : ℕ) → k < length runs → 0 < (get_or runs k no_run).frames → P (get_or runs k no_run).port) → 0 < in_runs q runs → P q
runs_hold P q [] all some = absurd (omega arith)
runs_hold P q (x ∷ xs) all some =
    let behind = λ (here : of_run q x ≡ 0). runs_hold P q xs (λ k lt more. all (suc k) (omega (arith, lt)) more) (omega (arith, in_runs-cons q x xs, here, some)) in
    ⊎_elim
    (λ (same : x.port ≡ q).
    ⊎_elim
    (λ (none : x.frames ≡ 0). behind (grind (arith, nat_tests)))
    (λ (more : x.frames ≢ 0). subst P same (all 0 (omega arith) (omega (arith, more))))
    (cases_eq x.frames 0))
    (λ (other : x.port ≢ q). behind (grind (arith, nat_tests)))
    (cases_eq x.port q)

-- where no run has frames, no port has
pub no_frames : (q : ℕ) (runs : List Run) → ((k : ℕ) → (get_or runs k no_run).frames ≡ 0) → in_runs q runs ≡ 0
no_frames q [] none = refl
no_frames q (x ∷ xs) none =
    let zero_here : x.frames ≡ 0 = none 0 in
    let here : of_run q x ≡ 0 = ⊎_elim (λ (same : x.port ≡ q). grind (arith, nat_tests)) (λ (other : x.port ≢ q). grind (arith, nat_tests)) (cases_eq x.port q) in
    let rest = no_frames q xs (λ k. none (suc k)) in
    omega (arith, in_runs-cons q x xs, here, rest)

-- runs that have none at any of their places have none behind them either
pub none_anywhere : (runs : List Run) → ((k : ℕ) → k < length runs → (get_or runs k no_run).frames ≡ 0) → (k : ℕ) → (get_or runs k no_run).frames ≡ 0
none_anywhere [] none k = refl
none_anywhere (x ∷ xs) none zero = none 0 (omega arith)
none_anywhere (x ∷ xs) none (suc k) = none_anywhere xs (λ j lt. none (suc j) (omega (arith, lt))) k
