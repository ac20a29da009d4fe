-- Actions and their numbers.
use Rattle.std.proofs.Common.{◌≡◌, ◌<◌, ◌≤◌, ℕ, Bool, true, false, cond, ◌==◌, Option, Some, None, option_map, ap, sym, ◌∙◌, refl, arith}
use Rattle.std.proofs.Math.Bool.{Bool-set}
use Rattle.std.proofs.lemmas.Bool.{eqb-true, ne_eqb, cond-false, lt-ltb, le-ltb}
use Rattle.omci_msg.specs.Code.{is_other_code}
use Rattle.omci_msg.specs.Message.{other_action, action_of, code_of}
use Rattle.omci_msg.specs.declared.action.Action.{Action}
use Rattle.omci_msg.specs.declared.action.Action.TheVariants.{Create, Delete, Set, Get, GetNext, MibUpload, MibUploadNext, MibReset, Other}

-- a number that none of the eight has isn't one of them
apart : (n k : ℕ) → is_other_code n ≡ true → is_other_code k ≡ false → (n == k) ≡ false
apart n k other named = ne_eqb n k (λ e. let both : is_other_code n ≡ is_other_code k = ap is_other_code e in cc)

-- which proof that it is none of them a code holds makes no difference
other_same : (n : ℕ) (other : Bool) (is_other : is_other_code n ≡ other) (h : is_other_code n ≡ true) → Some (Other (record { code = n; is_other = h })) ≡ other_action n other is_other
other_same n true is_other h = ap (λ (p : is_other_code n ≡ true). Some (Other (record { code = n; is_other = p }))) (Bool-set _ _ h is_other)
other_same n false is_other h = cc

-- the test for one of the eight fails
skip : (n k : ℕ) (x y : Option Action) → is_other_code n ≡ true → is_other_code k ≡ false → cond (n == k) x y ≡ y
skip n k x y other named = cond-false (n == k) x y (apart n k other named)

pub other_code : (n : ℕ) (h : is_other_code n ≡ true) → Some (Other (record { code = n; is_other = h })) ≡ action_of n
unfolding action_of
other_code n h =
    other_same n (is_other_code n) refl h
    ∙ sym (skip n 4 _ _ h refl ∙ skip n 6 _ _ h refl ∙ skip n 8 _ _ h refl ∙ skip n 9 _ _ h refl
    ∙ skip n 13 _ _ h refl ∙ skip n 14 _ _ h refl ∙ skip n 15 _ _ h refl ∙ skip n 26 _ _ h refl)

-- ---- actions are the numbers under 32

-- one test for one of the eight, and what follows it
kept : (b : Bool) (n : ℕ) (a : Action) (rest : Option Action) → (b ≡ true → code_of a ≡ n) → (b ≡ false → option_map code_of rest ≡ Some n) → option_map code_of (cond b (Some a) rest) ≡ Some n
kept true n a rest here later = ap Some (here refl)
kept false n a rest here later = later refl

other_kept : (n : ℕ) (other : Bool) (is_other : is_other_code n ≡ other) → other ≡ true → option_map code_of (other_action n other is_other) ≡ Some n
other_kept n true is_other h = refl
other_kept n false is_other h = cc

is_other_left : (n : ℕ) → n < 32 → (n == 4) ≡ false → (n == 6) ≡ false → (n == 8) ≡ false → (n == 9) ≡ false → (n == 13) ≡ false → (n == 14) ≡ false → (n == 15) ≡ false → (n == 26) ≡ false → is_other_code n ≡ true
is_other_left n small e4 e6 e8 e9 e13 e14 e15 e26 = simp (e4, e6, e8, e9, e13, e14, e15, e26, lt-ltb n 32 small)

pub code_of-action_of : (n : ℕ) → n < 32 → option_map code_of (action_of n) ≡ Some n
unfolding action_of
code_of-action_of n small =
    kept (n == 4) n _ _ (λ e. sym (eqb-true n 4 e)) (λ e4.
    kept (n == 6) n _ _ (λ e. sym (eqb-true n 6 e)) (λ e6.
    kept (n == 8) n _ _ (λ e. sym (eqb-true n 8 e)) (λ e8.
    kept (n == 9) n _ _ (λ e. sym (eqb-true n 9 e)) (λ e9.
    kept (n == 13) n _ _ (λ e. sym (eqb-true n 13 e)) (λ e13.
    kept (n == 14) n _ _ (λ e. sym (eqb-true n 14 e)) (λ e14.
    kept (n == 15) n _ _ (λ e. sym (eqb-true n 15 e)) (λ e15.
    kept (n == 26) n _ _ (λ e. sym (eqb-true n 26 e)) (λ e26.
    other_kept n (is_other_code n) refl (is_other_left n small e4 e6 e8 e9 e13 e14 e15 e26)))))))))

pub action_of-code_of : (a : Action) → action_of (code_of a) ≡ Some a
unfolding action_of
action_of-code_of Create = refl
action_of-code_of Delete = refl
action_of-code_of Set = refl
action_of-code_of Get = refl
action_of-code_of GetNext = refl
action_of-code_of MibUpload = refl
action_of-code_of MibUploadNext = refl
action_of-code_of MibReset = refl
action_of-code_of (Other other) = sym (other_code other.code other.is_other)

-- a number over 31 isn't one of the eight
above : (n k : ℕ) (x y : Option Action) → 32 ≤ n → k < 32 → cond (n == k) x y ≡ y
above n k x y large small = cond-false (n == k) x y (ne_eqb n k (λ e. omega arith))

other_none : (n : ℕ) (other : Bool) (is_other : is_other_code n ≡ other) → other ≡ false → other_action n other is_other ≡ None
other_none n true is_other h = cc
other_none n false is_other h = refl

not_other : (n : ℕ) → 32 ≤ n → is_other_code n ≡ false
not_other n large = simp (le-ltb n 32 large)

pub none_above : (n : ℕ) → 32 ≤ n → action_of n ≡ None
unfolding action_of
none_above n large =
    above n 4 _ _ large (omega arith) ∙ above n 6 _ _ large (omega arith) ∙ above n 8 _ _ large (omega arith) ∙ above n 9 _ _ large (omega arith)
    ∙ above n 13 _ _ large (omega arith) ∙ above n 14 _ _ large (omega arith) ∙ above n 15 _ _ large (omega arith) ∙ above n 26 _ _ large (omega arith)
    ∙ other_none n (is_other_code n) refl (not_other n large)
