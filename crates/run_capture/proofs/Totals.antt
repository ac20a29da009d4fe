-- The lines of batches, one by one, and those of counts, by the list and the map that the counts are held in.
use Rattle.std.proofs.Common.{◌≡◌, ◌≢◌, ◌<◌, ◌≤◌, ℕ, zero, suc, ◌+◌, ◌-◌, List, [], ◌∷◌, ◌++◌, length, drop, get_or, true, false, refl, ap, sym, subst, ◌∙◌, ⊎_elim, arith, append_assoc}
use Rattle.std.specs.Prelude.{codes, min, slice_index, unwrap_or, nat_eq, ⊤}
use Rattle.std.proofs.Math.Path.{fun_ext}
use Rattle.std.specs.BTreeMap.{BTreeMap, is_at}
use Rattle.std.specs.List.{AllByRecursion, flat_map, range_with_len}
use Rattle.std.specs.List.Sorted.{IsStrictlySortedBy}
use Rattle.std.specs.Map.{keys_of, lookup}
use Rattle.std.specs.Ordering.{is_eq, nat_cmp}
use Rattle.std.specs.declared.cmp.Ordering.TheVariants.{Less}
use Rattle.std.proofs.lemmas.Bool.Decides.{nat_tests}
use Rattle.std.proofs.lemmas.Bool.{cases_eq}
use Rattle.std.proofs.lemmas.List.{at_drop_more}
use Rattle.frame_stats.specs.Figures.{Figure, FramesTo, counted}
use Rattle.frame_stats.specs.Ports.{in_map}
use Rattle.frame_stats.specs.declared.counts.Counts.{Counts}
use Rattle.run_capture.specs.Lines.{batch_line, batch_lines_from, count_line, drop_lines, gem_lines}

-- ---- batches

-- behind a text stand the line of one batch and those of the batches behind it
pub batches_more : (text more : List ℕ) (number size left n next : ℕ) (versions : List ℕ) (i : ℕ) → i < length versions → n ≡ min size left → next ≡ left - size
    → more ≡ text ++ batch_line number (get_or versions i 0) n
    → more ++ batch_lines_from (number + 1) size next (drop (i + 1) versions) ≡ text ++ batch_lines_from number size left (drop i versions)
batches_more text more number size left n next versions i lt least fewer is =
    let line = batch_line number (get_or versions i 0) in
    let rest = λ (k : ℕ). batch_lines_from (number + 1) size k (drop (i + 1) versions) in
    ap (λ t. t ++ rest next) is ∙ append_assoc text (line n) (rest next)
    ∙ ap (λ k. text ++ (line k ++ rest next)) least
    ∙ ap (λ k. text ++ (line (min size left) ++ rest k)) fewer
    ∙ ap (λ lines. text ++ lines) (sym (at_drop_more (batch_lines_from number size left) versions i 0 lt))

-- ---- drops

-- the lines of the reasons that are left, from the one of this number on
abbrev pub drops_from : ℕ → ℕ → List ℕ → List ℕ
drops_from zero number drops = []
drops_from (suc left) number drops = count_line (codes "drop ") number (slice_index drops (number - 1)) ++ drops_from left (number + 1) drops

pub drops_more : (drops : List ℕ) (place : ℕ) → place < 9
    → drops_from (9 - place) (place + 1) drops ≡ count_line (codes "drop ") (place + 1) (slice_index drops place) ++ drops_from (9 - (place + 1)) (place + 1 + 1) drops
drops_more drops place lt =
    let left : 9 - place ≡ suc (9 - (place + 1)) = omega (arith, lt) in
    let here : place + 1 - 1 ≡ place = omega arith in
    ap (λ n. drops_from n (place + 1) drops) left
    ∙ ap (λ k. count_line (codes "drop ") (place + 1) (slice_index drops k) ++ drops_from (9 - (place + 1)) (place + 1 + 1) drops) here

-- a reason of number n is at place n - 1
pub drops_shown : (c : Counts) → drops_from 9 1 c.drops ≡ drop_lines (counted c)
unfolding drop_lines
drops_shown c = refl

-- ---- GEM ports

-- the line of a port with so many frames
abbrev pub gem_line : ℕ → ℕ → List ℕ
gem_line port count = count_line (codes "gem ") port count

-- the lines of entries
abbrev pub entry_lines : List (ℕ × ℕ) → List ℕ
entry_lines [] = []
entry_lines (e ∷ es) = gem_line e.0 e.1 ++ entry_lines es

-- what entries have for a port
abbrev pub found : List (ℕ × ℕ) → ℕ → ℕ
found es port = unwrap_or (lookup (is_at (nat_cmp port)) es) 0

-- the keys ascend from a least one on
abbrev pub Ascend : ℕ → List (ℕ × ℕ) → Type 0
Ascend least [] = ⊤
Ascend least (e ∷ es) = (least ≤ e.0) × Ascend (e.0 + 1) es

-- the keys are below
abbrev pub Below : ℕ → List (ℕ × ℕ) → Type 0
Below most es = AllByRecursion (λ e. e.0 < most) es

above : (k : ℕ) (es : List (ℕ × ℕ)) → AllByRecursion (λ j. nat_cmp k j ≡ Less) (keys_of es) → IsStrictlySortedBy nat_cmp (keys_of es) → Ascend (k + 1) es
unfolding IsStrictlySortedBy
above k [] more sorted = tt
above k (e ∷ es) more sorted = (grind (arith, nat_tests), above e.0 es sorted.0 sorted.1)

ascend : (es : List (ℕ × ℕ)) → IsStrictlySortedBy nat_cmp (keys_of es) → Ascend 0 es
unfolding IsStrictlySortedBy
ascend [] sorted = tt
ascend (e ∷ es) sorted = (omega arith, above e.0 es sorted.0 sorted.1)

same_test : (k q : ℕ) → is_eq (nat_cmp k q) ≡ nat_eq k q
same_test k q = grind (arith, nat_tests)

found_here : (e : ℕ × ℕ) (es : List (ℕ × ℕ)) (port : ℕ) → e.0 ≡ port → found (e ∷ es) port ≡ e.1
found_here e es port same =
    let this : nat_eq port e.0 ≡ true = grind (arith, nat_tests) in
    rw (same_test port e.0, this) refl

found_behind : (e : ℕ × ℕ) (es : List (ℕ × ℕ)) (port : ℕ) → port ≢ e.0 → found (e ∷ es) port ≡ found es port
found_behind e es port other =
    let this : nat_eq port e.0 ≡ false = grind (arith, nat_tests) in
    rw (same_test port e.0, this) refl

-- no port below the least key is found
found_none : (least port : ℕ) (es : List (ℕ × ℕ)) → Ascend least es → port < least → found es port ≡ 0
found_none least port [] order lt = refl
found_none least port (e ∷ es) order lt =
    found_behind e es port (λ same. omega (arith, same, order.0)) ∙ found_none (e.0 + 1) port es order.1 (omega (arith, order.0))

-- what the entries have for each of n ports from this one on
abbrev pub found_lines : ℕ → ℕ → List (ℕ × ℕ) → List ℕ
found_lines port n es = flat_map (λ gem. gem_line gem (found es gem)) (range_with_len port n)

-- of later ports an entry has nothing
later : (n port : ℕ) (e : ℕ × ℕ) (es : List (ℕ × ℕ)) → e.0 < port → found_lines port n (e ∷ es) ≡ found_lines port n es
later zero port e es lt = refl
later (suc n) port e es lt =
    let here = found_behind e es port (λ same. omega (arith, same)) in
    ap (λ count. gem_line port count ++ found_lines (port + 1) n (e ∷ es)) here ∙ ap (λ lines. gem_line port (found es port) ++ lines) (later n (port + 1) e es (omega arith))

-- the lines of all ports are those of the entries, whose keys ascend
ports_found : (n port : ℕ) (es : List (ℕ × ℕ)) → Ascend port es → Below (port + n) es → found_lines port n es ≡ entry_lines es
ports_found zero port [] order few = refl
ports_found zero port (e ∷ es) order few = absurd (omega (arith, order.0, few.0))
ports_found (suc n) port [] order few = ports_found n (port + 1) [] tt tt
ports_found (suc n) port (e ∷ es) order few =
    let next : port + suc n ≡ port + 1 + n = omega arith in
    ⊎_elim
    (λ (same : e.0 ≡ port).
    let here : found (e ∷ es) port ≡ e.1 = found_here e es port same in
    let order_behind = subst (λ k. Ascend (k + 1) es) same order.1 in
    let more = ports_found n (port + 1) es order_behind (subst (λ most. Below most es) next few.1) in
    ap (λ count. gem_line port count ++ found_lines (port + 1) n (e ∷ es)) here
    ∙ ap (λ lines. gem_line port e.1 ++ lines) (later n (port + 1) e es (omega (arith, same)) ∙ more)
    ∙ ap (λ k. gem_line k e.1 ++ entry_lines es) (sym same))
    (λ (other : e.0 ≢ port).
    let here : found (e ∷ es) port ≡ 0 = found_none e.0 port (e ∷ es) (omega arith, order.1) (omega (arith, other, order.0)) in
    let more = ports_found n (port + 1) (e ∷ es) (omega (arith, other, order.0), order.1) (subst (λ most. Below most (e ∷ es)) next few) in
    ap (λ count. gem_line port count ++ found_lines (port + 1) n (e ∷ es)) here ∙ more)
    (cases_eq e.0 port)

pub gems_shown : (of : Figure → ℕ) (ports : BTreeMap ℕ ℕ) → ((port : ℕ) → of (FramesTo port) ≡ in_map ports port) → IsStrictlySortedBy nat_cmp (keys_of ports.entries)
    → Below 65536 ports.entries → entry_lines ports.entries ≡ gem_lines of
unfolding gem_lines
gems_shown of ports same sorted small =
    sym (ports_found 65536 0 ports.entries (ascend ports.entries sorted) small)
    ∙ ap (λ (found_at : ℕ → ℕ). flat_map (λ gem. gem_line gem (found_at gem)) (range_with_len 0 65536)) (sym (fun_ext same))
