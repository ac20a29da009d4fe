-- What a reply stands for comes out.
use Rattle.std.proofs.Common.{◌≡◌, ◌≢◌, ◌<◌, ◌≤◌, ◌+◌, ◌-◌, ℕ, zero, suc, Bool, true, false, cond, List, [], ◌∷◌, ◌++◌, drop, Option, Some, None, slice_get, refl, sym, ap, ◌∙◌, arith}
use Rattle.std.specs.Prelude.{◌==◌, ◌&&◌, ◌||◌, count_by, is_some, nat_lt, not}
use Rattle.std.specs.List.{list_any, position_from}
use Rattle.std.proofs.lemmas.Bool.{eq-eqb, lt-ltb, ne_eqb}
use Rattle.omci_msg.specs.declared.request.Request.{Request}
use Rattle.omci_msg.specs.declared.reply.Reply.{Reply}
use Rattle.mib_upload.specs.Upload.{start}
use Rattle.bench_history.specs.declared.event.Event.{Event}
use Rattle.bench_history.specs.declared.event.Event.TheVariants.{Sent}
use Rattle.bench_reply.specs.Replies.{IsReplyTo, Wanted, is_reply}
use Rattle.bench_reply.proofs.Decided.{reply_decided}
use Rattle.bench_answers.specs.Ground.{Ground, collected}
use Rattle.bench_answers.specs.Asked.{asked_by, desk_from, last_from, last_sent, repeats_of, wanted, wanted_before, wanted_from}
use Rattle.bench_answers.specs.Standing.{answered_last, answers_repeat, answers_start, is_repeat_of, reached, standing_by, standing_of, start_reached}
use Rattle.bench_answers.specs.declared.standing.Standing.{Standing}
use Rattle.bench_answers.specs.declared.standing.Standing.TheVariants.{Answers, Repeats, OfStart}
use Rattle.bench_answers.proofs.Finding.{any_here}

-- ---- searches

any_none : {X : Type 0} (test : X → Bool) (xs : List X) → ((n : ℕ) (x : X) → slice_get xs n ≡ Some x → test x ≡ false) → list_any test xs ≡ false
any_none test [] none = refl
any_none test (x ∷ xs) none =
    ap (λ (b : Bool). b || list_any test xs) (none 0 x refl) ∙ any_none test xs (λ n y at. none (suc n) y at)

none_behind : {X : Type 0} (test : X → Bool) (m : ℕ) (xs : List X)
    → ((n : ℕ) (x : X) → m ≤ n → slice_get xs n ≡ Some x → test x ≡ false) → list_any test (drop m xs) ≡ false
none_behind test zero xs none = any_none test xs (λ n x at. none n x (omega arith) at)
none_behind test (suc m) [] none = refl
none_behind test (suc m) (x ∷ xs) none = none_behind test m xs (λ n y within at. none (suc n) y (omega (arith, within)) at)

-- what passes is found, or an element before it
found_by : {X : Type 0} (test : X → Bool) (from : ℕ) (xs : List X) (m : ℕ) (x : X) → slice_get xs m ≡ Some x → test x ≡ true
    → (i : ℕ) × (i ≤ from + m) × (position_from test from xs ≡ Some i)
found_by test from [] m x at passes = absurd (cc at)
found_by test from (y ∷ xs) zero x at passes =
    let same : y ≡ x = cc at in
    (from, omega arith, ap (λ (b : Bool). cond b (Some from) (position_from test (from + 1) xs)) (ap test same ∙ passes))
found_by test from (y ∷ xs) (suc m) x at passes =
    let later = found_by test (from + 1) xs m x at passes in
    elim (test y) as (λ b. (i : ℕ) × (i ≤ from + suc m) × (cond b (Some from) (position_from test (from + 1) xs) ≡ Some i)) [
      | true ↦ (from, omega arith, refl)
      | false ↦ (later.0, omega (arith, later.1), later.2)
    ]

drop_at : {X : Type 0} (from : ℕ) (xs : List X) (m j : ℕ) → j ≡ from + m → slice_get (drop from xs) m ≡ slice_get xs j
drop_at zero xs m j is = let same : m ≡ j = omega (arith, is) in ap (λ n. slice_get xs n) same
drop_at (suc from) [] m j is = refl
drop_at (suc from) (x ∷ xs) m zero is = absurd (omega (arith, is))
drop_at (suc from) (x ∷ xs) m (suc j) is = drop_at from xs m j (omega (arith, is))

-- ---- messages

stays_sent : (message : List ℕ) (xs : List Event) → last_from (Some message) xs ≡ None → ⊥
stays_sent message [] none = cc none
stays_sent message (Sent other ∷ xs) none = stays_sent other xs none
stays_sent message (x ∷ xs) none = stays_sent message xs none

-- without a message nothing is asked
asks_none : (repeats : Bool) (before xs : List Event) → last_from None xs ≡ None → collected (asked_by repeats) before xs ≡ []
asks_none repeats before [] none = refl
asks_none repeats before (Sent message ∷ xs) none = absurd (stays_sent message xs none)
asks_none repeats before (x ∷ xs) none = asks_none repeats (before ++ x ∷ []) xs none

none_wanted : (grounds : Ground) (lines : List Event) → last_sent lines ≡ None → wanted grounds lines ≡ []
none_wanted grounds lines none =
    ap (λ (qs : List Request). wanted_from (desk_from start grounds.start) qs) (asks_none grounds.repeats [] lines none)

-- ---- a reply

never : (a b c : Bool) → (b ≡ true → c ≡ false) → (a && b && c) ≡ false
never true true c fails = fails refl
never true false c fails = refl
never false b c fails = refl

all_true : (a b c : Bool) → a ≡ true → b ≡ true → c ≡ true → (a && b && c) ≡ true
all_true true true c is_a is_b is_c = is_c
all_true true false c is_a is_b is_c = absurd (cc is_b)
all_true false b c is_a is_b is_c = absurd (cc is_a)

-- a right reply to two requests has the identifier of both
same_tci : (modelled : Bool) (v w : Wanted) (bytes : List ℕ) → IsReplyTo modelled v bytes → IsReplyTo modelled w bytes → v.reply.tci ≡ w.reply.tci
same_tci modelled v w bytes one other =
    let same : one.reply ≡ other.reply = cc (one.read, other.read) in sym one.tci ∙ ap (λ (r : Reply). r.tci) same ∙ other.tci

module _ (grounds : Ground) (lines : List Event) (taken : List Standing) (bytes : List ℕ) where
  abbrev ws : List Wanted
  ws = wanted grounds lines

  abbrev next : ℕ
  next = reached taken

  waits_with : Wanted → Wanted → Bool
  waits_with w other = other.reply.tci == w.reply.tci

  -- the next request waits with the identifier of its reply
  no_repeat : (w : Wanted) → slice_get ws next ≡ Some w → IsReplyTo grounds.modelled w bytes → (o : Option Wanted)
      → answers_repeat grounds lines taken bytes o ≡ false
  no_repeat w at right None = refl
  no_repeat w at right (Some v) =
      never (nat_lt (count_by (is_repeat_of (next - 1)) taken) (repeats_of grounds lines (next - 1))) (is_reply grounds.modelled v bytes)
      (not (list_any (λ other. other.reply.tci == v.reply.tci) (drop next ws)))
      (λ so.
      ap (λ (b : Bool). not b)
      (any_here (λ (other : Wanted). other.reply.tci == v.reply.tci) ws next w at
      (eq-eqb w.reply.tci v.reply.tci (same_tci grounds.modelled w v bytes right ((reply_decided grounds.modelled v bytes).0 so)))))

  -- a request wants an answer, so a message was sent
  some_sent : (o : Option (List ℕ)) → last_sent lines ≡ o → (k : ℕ) (w : Wanted) → slice_get ws k ≡ Some w → is_some (last_sent lines) ≡ true
  some_sent (Some message) is k w at = ap (λ (p : Option (List ℕ)). is_some p) is
  some_sent None is k w at =
      let none : slice_get ws k ≡ None = ap (λ (vs : List Wanted). slice_get vs k) (none_wanted grounds lines is) in absurd (cc (sym none ∙ at))

  pub next_taken : (k : ℕ) (w : Wanted) → reached taken ≡ k → slice_get (wanted grounds lines) k ≡ Some w → IsReplyTo grounds.modelled w bytes
      → standing_of grounds lines taken bytes ≡ Answers k
  next_taken k w is at right =
      let here : slice_get ws next ≡ Some w = ap (λ (n : ℕ). slice_get ws n) is ∙ at in
      let from : ℕ = start_reached taken in
      ap (λ (b : Bool). standing_by (cond b (Some (next - 1)) None) (answers_start grounds lines taken bytes) next)
      (no_repeat w here right (answered_last next ws))
      ∙ ap (λ (b : Bool). standing_by None (cond b None (position_from (λ v. is_reply grounds.modelled v bytes) from (drop from (wanted_before grounds)))) next)
      (some_sent (last_sent lines) refl k w at)
      ∙ ap (λ (n : ℕ). Answers n) is

  last_at : (n k : ℕ) (vs : List Wanted) → n ≡ k + 1 → answered_last n vs ≡ slice_get vs k
  last_at zero k vs is = absurd (omega (arith, is))
  last_at (suc m) k vs is = let same : m ≡ k = omega (arith, is) in ap (λ (n : ℕ). slice_get vs n) same

  pub last_taken : (k : ℕ) (w : Wanted) → reached taken ≡ k + 1 → slice_get (wanted grounds lines) k ≡ Some w → IsReplyTo grounds.modelled w bytes
      → count_by (is_repeat_of k) taken < repeats_of grounds lines k
      → ((n : ℕ) (v : Wanted) → k < n → slice_get (wanted grounds lines) n ≡ Some v → v.reply.tci ≢ w.reply.tci)
      → standing_of grounds lines taken bytes ≡ Repeats k
  last_taken k w is at right more alone =
      let number : next - 1 ≡ k = omega (arith, is) in
      let under : nat_lt (count_by (is_repeat_of (next - 1)) taken) (repeats_of grounds lines (next - 1)) ≡ true =
      ap (λ (n : ℕ). nat_lt (count_by (is_repeat_of n) taken) (repeats_of grounds lines n)) number
      ∙ lt-ltb (count_by (is_repeat_of k) taken) (repeats_of grounds lines k) more in
      let others : list_any (λ (other : Wanted). other.reply.tci == w.reply.tci) (drop next ws) ≡ false =
      none_behind (λ (other : Wanted). other.reply.tci == w.reply.tci) next ws
      (λ n v within there. ne_eqb v.reply.tci w.reply.tci (alone n v (omega (arith, is, within)) there)) in
      let repeats : answers_repeat grounds lines taken bytes (answered_last next ws) ≡ true =
      ap (λ (o : Option Wanted). answers_repeat grounds lines taken bytes o) (last_at next k ws is ∙ at)
      ∙ all_true (nat_lt (count_by (is_repeat_of (next - 1)) taken) (repeats_of grounds lines (next - 1))) (is_reply grounds.modelled w bytes)
      (not (list_any (λ (other : Wanted). other.reply.tci == w.reply.tci) (drop next ws))) under
      ((reply_decided grounds.modelled w bytes).1 right) (ap (λ (b : Bool). not b) others) in
      ap (λ (b : Bool). standing_by (cond b (Some (next - 1)) None) (answers_start grounds lines taken bytes) next) repeats
      ∙ ap (λ (n : ℕ). Repeats n) number

  no_last : (n : ℕ) (vs : List Wanted) → vs ≡ [] → answers_repeat grounds lines taken bytes (answered_last n vs) ≡ false
  no_last zero vs none = refl
  no_last (suc n) vs none = ap (λ (us : List Wanted). answers_repeat grounds lines taken bytes (slice_get us n)) none

  pub late_taken : (j : ℕ) (w : Wanted) → last_sent lines ≡ None → start_reached taken ≤ j → slice_get (wanted_before grounds) j ≡ Some w
      → IsReplyTo grounds.modelled w bytes → (i : ℕ) × (i ≤ j) × (standing_of grounds lines taken bytes ≡ OfStart i)
  late_taken j w unsent within at right =
      let from : ℕ = start_reached taken in
      let test : Wanted → Bool = λ v. is_reply grounds.modelled v bytes in
      let first = found_by test from (drop from (wanted_before grounds)) (j - from) w
      (drop_at from (wanted_before grounds) (j - from) j (omega (arith, within)) ∙ at) ((reply_decided grounds.modelled w bytes).1 right) in (
        first.0,
        omega (arith, first.1, within),
        ap (λ (b : Bool). standing_by (cond b (Some (next - 1)) None) (answers_start grounds lines taken bytes) next)
            (no_last next ws (none_wanted grounds lines unsent))
            ∙ ap (λ (p : Option (List ℕ)). standing_by None (cond (is_some p) None (position_from test from (drop from (wanted_before grounds)))) next) unsent
            ∙ ap (λ (o : Option ℕ). standing_by None o next) first.2,
      )
