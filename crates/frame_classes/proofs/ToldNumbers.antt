-- The number of what is told tells it from others.
use Rattle.std.proofs.Common.{◌≡◌, ℕ, ◌+◌, ◌*◌, ◌<◌, ◌&&◌, arith, ap, suc, sym, ◌∙◌}
use Rattle.std.specs.Prelude.{IsTrue}
use Rattle.std.proofs.lemmas.Bool.{and_parts}
use Rattle.frame_rows.specs.declared.class.FrameClass.{FrameClass}
use Rattle.frame_rows.specs.Class.{class_fits, class_number}
use Rattle.frame_classes.specs.declared.told.Told.{Told}
use Rattle.frame_classes.specs.declared.told.Told.TheVariants.{One, Two, Three}
use Rattle.frame_classes.specs.Told.{digit, told_fits, told_number}
use Rattle.frame_classes.proofs.ClassNumbers.{class_below, class_same}

digit_small : (c : FrameClass) → IsTrue (class_fits c) → digit c < 67108864
digit_small c fits =
    let small = class_below c fits in
    omega arith

digit_same : (c d : FrameClass) → IsTrue (class_fits c) → IsTrue (class_fits d) → digit c ≡ digit d → c ≡ d
digit_same c d p q is = class_same c d p q (omega arith)

split : (a b x y : ℕ) → x < 67108864 → y < 67108864 → a * 67108864 + x ≡ b * 67108864 + y → (a ≡ b) × (x ≡ y)
split a b x y p q is = (omega arith, omega arith)

-- a number of one digit, of two and of three
one_two : (x b y : ℕ) → x < 67108864 → x ≡ suc b * 67108864 + y → ⊥
one_two x b y p is = omega arith

same_two : (a b c d : FrameClass) → a ≡ c → b ≡ d → Two a b ≡ Two c d
same_two a b c d e f = cc

same_three : (a b c d e f : FrameClass) → a ≡ d → b ≡ e → c ≡ f → Three a b c ≡ Three d e f
same_three a b c d e f p q r = cc

pub told_same : (one other : Told) → IsTrue (told_fits one) → IsTrue (told_fits other) → told_number one ≡ told_number other → one ≡ other
told_same (One a) (One b) p q is = ap One (digit_same a b p q is)
told_same (One a) (Two b c) p q is = absurd (one_two (digit a) (class_number b) (digit c) (digit_small a p) (is ∙ spelled (class_number b) (digit c)))
  where
    spelled : (n x : ℕ) → (n + 1) * 67108864 + x ≡ suc n * 67108864 + x
    spelled n x = omega arith
told_same (One a) (Three b c d) p q is = absurd (one_two (digit a) ((class_number b + 1) * 67108864 + class_number c) (digit d) (digit_small a p) (is ∙ spelled (class_number b) (class_number c) (digit d)))
  where
    spelled : (n m x : ℕ) → ((n + 1) * 67108864 + (m + 1)) * 67108864 + x ≡ suc ((n + 1) * 67108864 + m) * 67108864 + x
    spelled n m x = omega arith
told_same (Two a b) (One c) p q is = absurd (one_two (digit c) (class_number a) (digit b) (digit_small c q) (sym is ∙ spelled (class_number a) (digit b)))
  where
    spelled : (n x : ℕ) → (n + 1) * 67108864 + x ≡ suc n * 67108864 + x
    spelled n x = omega arith
told_same (Two a b) (Two c d) p q is =
    let fits = and_parts (class_fits a) (class_fits b) p in
    let fits' = and_parts (class_fits c) (class_fits d) q in
    let parts = split (digit a) (digit c) (digit b) (digit d) (digit_small b fits.1) (digit_small d fits'.1) is in
    same_two a b c d (digit_same a c fits.0 fits'.0 parts.0) (digit_same b d fits.1 fits'.1 parts.1)
told_same (Two a b) (Three c d e) p q is =
    let fits = and_parts (class_fits a) (class_fits b) p in
    let fits' = and_parts (class_fits c) (class_fits d && class_fits e) q in
    let fits'' = and_parts (class_fits d) (class_fits e) fits'.1 in
    let parts = split (digit a) (digit c * 67108864 + digit d) (digit b) (digit e) (digit_small b fits.1) (digit_small e fits''.1) is in
    absurd (one_two (digit a) (class_number c) (digit d) (digit_small a fits.0) (parts.0 ∙ spelled (class_number c) (digit d)))
  where
    spelled : (n x : ℕ) → (n + 1) * 67108864 + x ≡ suc n * 67108864 + x
    spelled n x = omega arith
told_same (Three a b c) (One d) p q is = absurd (one_two (digit d) ((class_number a + 1) * 67108864 + class_number b) (digit c) (digit_small d q) (sym is ∙ spelled (class_number a) (class_number b) (digit c)))
  where
    spelled : (n m x : ℕ) → ((n + 1) * 67108864 + (m + 1)) * 67108864 + x ≡ suc ((n + 1) * 67108864 + m) * 67108864 + x
    spelled n m x = omega arith
told_same (Three a b c) (Two d e) p q is =
    let fits = and_parts (class_fits a) (class_fits b && class_fits c) p in
    let fits'' = and_parts (class_fits b) (class_fits c) fits.1 in
    let fits' = and_parts (class_fits d) (class_fits e) q in
    let parts = split (digit a * 67108864 + digit b) (digit d) (digit c) (digit e) (digit_small c fits''.1) (digit_small e fits'.1) is in
    absurd (one_two (digit d) (class_number a) (digit b) (digit_small d fits'.0) (sym parts.0 ∙ spelled (class_number a) (digit b)))
  where
    spelled : (n x : ℕ) → (n + 1) * 67108864 + x ≡ suc n * 67108864 + x
    spelled n x = omega arith
told_same (Three a b c) (Three d e f) p q is =
    let fits = and_parts (class_fits a) (class_fits b && class_fits c) p in
    let fits_in = and_parts (class_fits b) (class_fits c) fits.1 in
    let fits' = and_parts (class_fits d) (class_fits e && class_fits f) q in
    let fits_in' = and_parts (class_fits e) (class_fits f) fits'.1 in
    let outer =
    split (digit a * 67108864 + digit b) (digit d * 67108864 + digit e) (digit c) (digit f) (digit_small c fits_in.1) (digit_small f fits_in'.1) is in
    let inner = split (digit a) (digit d) (digit b) (digit e) (digit_small b fits_in.0) (digit_small e fits_in'.0) outer.0 in
    same_three a b c d e f (digit_same a d fits.0 fits'.0 inner.0) (digit_same b e fits_in.0 fits_in'.0 inner.1) (digit_same c f fits_in.1 fits_in'.1 outer.1)
