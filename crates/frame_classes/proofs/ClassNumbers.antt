-- The number of a class tells it from others.
use Rattle.std.proofs.Common.{◌≡◌, ℕ, ◌+◌, ◌*◌, ◌^◌, ◌<◌, ◌≤◌, ◌==◌, Bool, true, false, ◌&&◌, arith, refl, ap, sym, if◌then◌else◌, ◌∙◌}
use Rattle.std.specs.Prelude.{IsTrue}
use Rattle.std.proofs.lemmas.Bool.{ltb-true, true≢false}
use Rattle.frame_meaning.specs.declared.reason.Reason.{Reason}
use Rattle.frame_meaning.specs.declared.reason.Reason.TheVariants.{Runt, CutTag, NoRule, RuleDiscard, NoMapper, NullPointer, NoInterwork, NoGem, Direction}
use Rattle.frame_meaning.specs.Reason.{number_of_reason}
use Rattle.frame_rows.specs.declared.class.Use.{Use}
use Rattle.frame_rows.specs.declared.class.Use.TheVariants.{Unread, NoTable, Entry, NoEntry}
use Rattle.frame_rows.specs.declared.class.Ending.{Ending}
use Rattle.frame_rows.specs.declared.class.Ending.TheVariants.{Gem, Dropped}
use Rattle.frame_rows.specs.declared.class.FrameClass.{FrameClass}
use Rattle.frame_rows.specs.Class.{class_fits, class_number, ending_fits, ending_number, use_fits, use_number}

-- ---- reasons

reason_at : ℕ → Reason
reason_at n =
    if n == 1 then Runt else (if n == 2 then CutTag else (if n == 3 then NoRule else (if n == 4 then RuleDiscard else (if n == 5 then NoMapper
    else (if n == 6 then NullPointer else (if n == 7 then NoInterwork else (if n == 8 then NoGem else Direction)))))))

reason_back : (r : Reason) → reason_at (number_of_reason r) ≡ r
unfolding reason_at
reason_back Runt = refl
reason_back CutTag = refl
reason_back NoRule = refl
reason_back RuleDiscard = refl
reason_back NoMapper = refl
reason_back NullPointer = refl
reason_back NoInterwork = refl
reason_back NoGem = refl
reason_back Direction = refl

reason_same : (r s : Reason) → number_of_reason r ≡ number_of_reason s → r ≡ s
reason_same r s e = sym (reason_back r) ∙ ap reason_at e ∙ reason_back s

reason_small : (r : Reason) → number_of_reason r ≤ 9
reason_small Runt = omega arith
reason_small CutTag = omega arith
reason_small NoRule = omega arith
reason_small RuleDiscard = omega arith
reason_small NoMapper = omega arith
reason_small NullPointer = omega arith
reason_small NoInterwork = omega arith
reason_small NoGem = omega arith
reason_small Direction = omega arith

-- ---- endings

ending_small : (e : Ending) → ending_fits e ≡ true → ending_number e < 2 ^ 17
ending_small (Gem gem) fits = let h : gem < 2 ^ 16 = ltb-true gem (2 ^ 16) fits in omega arith
ending_small (Dropped reason) fits = let h = reason_small reason in omega arith

ending_same : (d e : Ending) → ending_fits d ≡ true → ending_fits e ≡ true → ending_number d ≡ ending_number e → d ≡ e
ending_same (Gem g) (Gem h) p q is = ap (λ (n : ℕ). Gem n) is
ending_same (Gem g) (Dropped r) p q is = let h : g < 2 ^ 16 = ltb-true g (2 ^ 16) p in absurd (omega arith)
ending_same (Dropped r) (Gem g) p q is = let h : g < 2 ^ 16 = ltb-true g (2 ^ 16) q in absurd (omega arith)
ending_same (Dropped r) (Dropped s) p q is = ap (λ (reason : Reason). Dropped reason) (reason_same r s (omega (arith, is)))

-- ---- uses

use_same : (u v : Use) → use_fits u ≡ true → use_fits v ≡ true → use_number u ≡ use_number v → u ≡ v
use_same Unread Unread p q is = refl
use_same Unread NoTable p q is = absurd (omega arith)
use_same Unread (Entry k) p q is = absurd (omega arith)
use_same Unread NoEntry p q is = absurd (omega arith)
use_same NoTable Unread p q is = absurd (omega arith)
use_same NoTable NoTable p q is = refl
use_same NoTable (Entry k) p q is = absurd (omega arith)
use_same NoTable NoEntry p q is = absurd (omega arith)
use_same (Entry k) Unread p q is = absurd (omega arith)
use_same (Entry k) NoTable p q is = absurd (omega arith)
use_same (Entry k) (Entry l) p q is = let same : k ≡ l = omega arith in ap (λ (n : ℕ). Entry n) same
use_same (Entry k) NoEntry p q is = let h : k < 2 ^ 8 = ltb-true k (2 ^ 8) p in absurd (omega arith)
use_same NoEntry Unread p q is = absurd (omega arith)
use_same NoEntry NoTable p q is = absurd (omega arith)
use_same NoEntry (Entry k) p q is = let h : k < 2 ^ 8 = ltb-true k (2 ^ 8) q in absurd (omega arith)
use_same NoEntry NoEntry p q is = refl

-- ---- classes

with_parts : Use → Ending → FrameClass
with_parts used ending = record { used = used; ending = ending }

of_parts : (u v : Use) (x y : Ending) → u ≡ v → x ≡ y → with_parts u x ≡ with_parts v y
of_parts u v x y e f = cc

both_left : (a b : Bool) → (a && b) ≡ true → a ≡ true
both_left true b h = refl
both_left false b h = h

both_right : (a b : Bool) → (a && b) ≡ true → b ≡ true
both_right true b h = h
both_right false b h = absurd (true≢false (sym h))

split : (a b x y : ℕ) → x < 131072 → y < 131072 → a * 131072 + x ≡ b * 131072 + y → (a ≡ b) × (x ≡ y)
split a b x y p q is = (omega arith, omega arith)

-- two classes of one number are one
pub class_same : (c d : FrameClass) → IsTrue (class_fits c) → IsTrue (class_fits d) → class_number c ≡ class_number d → c ≡ d
unfolding with_parts
class_same c d p q is =
    let use_c = both_left (use_fits c.used) (ending_fits c.ending) p in
    let use_d = both_left (use_fits d.used) (ending_fits d.ending) q in
    let end_c = both_right (use_fits c.used) (ending_fits c.ending) p in
    let end_d = both_right (use_fits d.used) (ending_fits d.ending) q in
    let parts =
    split (use_number c.used) (use_number d.used) (ending_number c.ending) (ending_number d.ending) (ending_small c.ending end_c)
    (ending_small d.ending end_d) is in
    of_parts c.used d.used c.ending d.ending (use_same c.used d.used use_c use_d parts.0) (ending_same c.ending d.ending end_c end_d parts.1)

-- a class has a small number
pub class_below : (c : FrameClass) → IsTrue (class_fits c) → class_number c < 33947648
class_below c fits =
    let used = use_small c.used (both_left (use_fits c.used) (ending_fits c.ending) fits) in
    let ends = ending_small c.ending (both_right (use_fits c.used) (ending_fits c.ending) fits) in
    omega arith
  where
    use_small : (u : Use) → use_fits u ≡ true → use_number u ≤ 258
    use_small Unread h = omega arith
    use_small NoTable h = omega arith
    use_small (Entry k) h = let small : k < 2 ^ 8 = ltb-true k (2 ^ 8) h in omega arith
    use_small NoEntry h = omega arith
