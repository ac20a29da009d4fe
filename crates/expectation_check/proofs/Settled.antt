-- What the lists of frames say of an expectation.
use Rattle.std.proofs.Common.{◌≡◌, ℕ, ◌<◌, ◌^◌, Bool, true, false, not, ◌&&◌, ◌==◌, List, [], ◌∷◌, Option, Some, None, arith, length, map, refl, subst, ap, sym, ◌∙◌}
use Rattle.std.specs.Prelude.{All, Contains, find}
use Rattle.std.proofs.lemmas.Bool.{and_parts, eqb-false, eqb-true, false≢true, not-true}
use Rattle.std.proofs.lemmas.List.Elements.{All-cons, All-contains, All-head, All-map, All-nil, All-tail}
use Rattle.mib_state.specs.Entities.{Entities}
use Rattle.frame_meaning.specs.Meaning.{meaning}
use Rattle.frame_rows.specs.declared.class.FrameClass.{FrameClass}
use Rattle.frame_rows.specs.declared.class.Use.{Use}
use Rattle.frame_rows.specs.declared.class.Use.TheVariants.{Entry}
use Rattle.frame_rows.specs.Class.{class_of, ending_by}
use Rattle.frame_rows.specs.Field.{values_of}
use Rattle.frame_rows.specs.Sight.{Side, seen_apart}
use Rattle.frame_rows.proofs.ChosenRows.{find_passes}
use Rattle.frame_rows.proofs.Means.{found_has}
use Rattle.frame_expectation.specs.declared.expectation.Expectation.{Expectation}
use Rattle.frame_expectation.specs.Check.{Fails, Holds, IsAdmitted, IsVoid}
use Rattle.frame_expectation.specs.Expectation.{admits, meets}
use Rattle.frame_classes.specs.Classes.{IsFrame}
use Rattle.frame_classes.specs.Differences.{AreTornByRows, IsTornRow, triples_in}
use Rattle.expectation_rows.specs.Decision.{Decide, IsDecided, is_failing, is_shown}

abbrev pub Torn : Type 0
Torn = (FrameClass × FrameClass × FrameClass) × List ℕ

some_same : {X : Type 0} (x y : X) → Some x ≡ Some y → x ≡ y
some_same x y e = cc

-- ---- a frame that is shown

shown_admitted : (e : Entities) (expected : Expectation) (before here after : Side) (bytes : List ℕ) → IsDecided e expected before here after bytes
    → is_shown before here after (values_of bytes) ≡ true → admits e expected bytes ≡ true
shown_admitted e expected before here after bytes d shown =
    let apart = (and_parts (seen_apart false here before (values_of bytes)) (seen_apart false here after (values_of bytes)) shown).1 in
    sym d.admitted ∙ ap (λ (b : Bool). b && b) apart

-- one that fails
pub failing_fails : (e : Entities) (expected : Expectation) (before here after : Side) (least : ℕ) (tear : Torn)
    → Decide e expected before here after → IsTornRow before here after least tear → is_failing expected tear.0.0.ending ≡ true
    → Fails e expected least tear.1
failing_fails e expected before here after least tear decide torn fails =
    let d = decide.frames tear.1 torn.frame.bytes_fit in
    let admitted = shown_admitted e expected before here after tear.1 d torn.torn in
    let same : tear.0.0 ≡ d.classes.earlier = some_same _ _ (sym torn.before ∙ d.classes.by_before) in
    record {
      admitted = record { bytes_fit = torn.frame.bytes_fit; long = torn.frame.long; admitted = admitted };
      unmet = not-true (meets e expected tear.1)
          (sym (d.failing admitted torn.torn) ∙ ap (λ (class : FrameClass). is_failing expected class.ending) (sym same) ∙ fails);
    }

unfold_class : (e : Entities) (port : ℕ) (bytes : List ℕ) (used : Use) → used ≡ (class_of e port bytes).used
    → class_of e port bytes ≡ record { used = used; ending = ending_by (meaning e port bytes) }
unfolding class_of
unfold_class e port bytes used is = rw is refl

-- and has this class
pub failing_class : (e : Entities) (expected : Expectation) (before here after : Side) (least : ℕ) (tear : Torn)
    → Decide e expected before here after → IsTornRow before here after least tear
    → class_of e expected.port tear.1 ≡ record { used = tear.0.0.used; ending = ending_by (meaning e expected.port tear.1) }
failing_class e expected before here after least tear decide torn =
    let d = decide.frames tear.1 torn.frame.bytes_fit in
    let same : tear.0.0 ≡ d.classes.earlier = some_same _ _ (sym torn.before ∙ d.classes.by_before) in
    unfold_class e expected.port tear.1 tear.0.0.used (ap (λ (class : FrameClass). class.used) same ∙ d.class)

-- ---- all frames

-- none that is shown fails
pub none_fails : (e : Entities) (expected : Expectation) (before here after : Side) (least : ℕ) (tears : List Torn)
    → Decide e expected before here after → AreTornByRows before here after least (Entry 0) tears
    → All (λ (tear : Torn). is_failing expected tear.0.0.ending ≡ false) tears
    → (bytes : List ℕ) → IsAdmitted e expected least bytes → meets e expected bytes ≡ true
none_fails e expected before here after least tears decide torn none bytes is = by_met (meets e expected bytes) refl
  where
    d : IsDecided e expected before here after bytes
    d = decide.frames bytes is.bytes_fit

    by_met : (b : Bool) → meets e expected bytes ≡ b → meets e expected bytes ≡ true
    by_met true met = met
    by_met false unmet =
        let shown = d.unmet is.admitted unmet in
        let listed = torn.every bytes d.classes.earlier d.classes.between d.classes.later
        (record { bytes_fit = is.bytes_fit; long = is.long }) d.classes.by_before d.classes.by_here d.classes.by_after (d.used is.admitted) shown in
        let P : FrameClass × FrameClass × FrameClass → Type 0 = λ triple. is_failing expected triple.0.ending ≡ false in
        let not_failing : is_failing expected d.classes.earlier.ending ≡ false =
        All-contains P (triples_in tears) (d.classes.earlier, d.classes.between, d.classes.later) (All-map P (λ (tear : Torn). tear.0) tears none) listed in
        absurd (false≢true (sym not_failing ∙ d.failing is.admitted shown ∙ ap not unmet))

-- none is admitted where none is shown between nothing
pub none_admitted : (e : Entities) (expected : Expectation) (before here after : Side) (least : ℕ)
    → Decide e expected before here after → AreTornByRows after here after least (Entry 0) [] → IsVoid e expected least
none_admitted e expected before here after least decide torn bytes is =
    let d = decide.frames bytes is.bytes_fit in
    nothing (torn.every bytes d.classes.later d.classes.between d.classes.later
    (record { bytes_fit = is.bytes_fit; long = is.long }) d.classes.by_after d.classes.by_here d.classes.by_after (d.used is.admitted)
    (d.admitted ∙ is.admitted))
  where
    nothing : {X : Type 0} {x : X} → Contains [] x → ⊥
    nothing h = let below = h.1 in absurd (omega arith)

-- and else one is
pub some_admitted : (e : Entities) (expected : Expectation) (before here after : Side) (least : ℕ) (tear : Torn)
    → Decide e expected before here after → IsTornRow after here after least tear → IsAdmitted e expected least tear.1
some_admitted e expected before here after least tear decide torn =
    let d = decide.frames tear.1 torn.frame.bytes_fit in
    record { bytes_fit = torn.frame.bytes_fit; long = torn.frame.long; admitted = sym d.admitted ∙ torn.torn }

-- ---- as code finds them

-- what holds of each that is made holds of what each is made of
unmapped : {X : Type 0} (P : Torn → Type 0) (f : X → Torn) (xs : List X) → All P (map f xs) → All (λ x. P (f x)) xs
unmapped {X} P f [] all = All-nil (λ (x : X). P (f x))
unmapped {X} P f (x ∷ xs) all =
    All-cons (λ (x : X). P (f x)) x xs (All-head P (f x) (map f xs) all) (unmapped P f xs (All-tail P (f x) (map f xs) all))

-- where none is found none passes
none_found : {X : Type 0} (test : X → Bool) (xs : List X) → find test xs ≡ None → All (λ x. test x ≡ false) xs
none_found {X} test [] none = All-nil (λ (x : X). test x ≡ false)
none_found {X} test (x ∷ xs) none = by_first (test x) refl none (none_found test xs)
  where
    never : Some x ≡ None → ⊥
    never e = cc

    by_first : (b : Bool) → test x ≡ b → find test (x ∷ xs) ≡ None → (find test xs ≡ None → All (λ x. test x ≡ false) xs)
        → All (λ x. test x ≡ false) (x ∷ xs)
    by_first true is none' others = absurd (never (rw is at none'))
    by_first false is none' others = All-cons (λ (x : X). test x ≡ false) x xs is (others (rw is at none'))

abbrev Failing : Expectation → Torn → Bool
Failing expected tear = is_failing expected tear.0.0.ending

-- the frame that is found fails, and has this class
pub record IsFound (e : Entities) (expected : Expectation) (least : ℕ) (tear : Torn) : Type 0 where
  pub fails : Fails e expected least tear.1
  pub class : class_of e expected.port tear.1 ≡ record { used = tear.0.0.used; ending = ending_by (meaning e expected.port tear.1) }

pub found_fails : {X : Type 0} (f : X → Torn) (e : Entities) (expected : Expectation) (before here after : Side) (least : ℕ) (tears : List X) (tear : X)
    → Decide e expected before here after → AreTornByRows before here after least (Entry 0) (map f tears)
    → find (λ x. is_failing expected (f x).0.0.ending) tears ≡ Some tear → IsFound e expected least (f tear)
found_fails {X} f e expected before here after least tears tear decide torn is =
    let each : All (λ (x : X). IsTornRow before here after least (f x)) tears =
    unmapped (IsTornRow before here after least) f tears torn.each in
    let row : IsTornRow before here after least (f tear) =
    found_has (λ (x : X). IsTornRow before here after least (f x)) (λ (x : X). is_failing expected (f x).0.0.ending) tears tear each is in
    record {
      fails = failing_fails e expected before here after least (f tear) decide row
          (find_passes (λ (x : X). is_failing expected (f x).0.0.ending) tears tear is);
      class = failing_class e expected before here after least (f tear) decide row;
    }

-- none is found, and some is admitted
pub all_hold : {X : Type 0} (f : X → Torn) (e : Entities) (expected : Expectation) (before here after : Side) (least : ℕ) (tears shown : List X)
    → Decide e expected before here after → AreTornByRows before here after least (Entry 0) (map f tears)
    → AreTornByRows after here after least (Entry 0) (map f shown)
    → find (λ x. is_failing expected (f x).0.0.ending) tears ≡ None → (shown ≡ [] → ⊥) → Holds e expected least
all_hold {X} f e expected before here after least tears shown decide torn torn' none some =
    record {
      some = by_first shown torn' some;
      each =
          none_fails e expected before here after least (map f tears) decide torn
          (All-map (λ (tear : Torn). is_failing expected tear.0.0.ending ≡ false) f tears
          (none_found (λ (x : X). is_failing expected (f x).0.0.ending) tears none));
    }
  where
    by_first : (shown : List X) → AreTornByRows after here after least (Entry 0) (map f shown) → (shown ≡ [] → ⊥)
        → (bytes : List ℕ) × IsAdmitted e expected least bytes
    by_first [] torn' some = absurd (some refl)
    by_first (x ∷ rest) torn' some = (
      (f x).1,
      some_admitted e expected before here after least (f x) decide
          (All-head (IsTornRow after here after least) (f x) (map f rest) torn'.each),
    )

-- or none is
pub none_holds : {X : Type 0} (f : X → Torn) (e : Entities) (expected : Expectation) (before here after : Side) (least : ℕ) (shown : List X)
    → Decide e expected before here after → AreTornByRows after here after least (Entry 0) (map f shown) → shown ≡ [] → IsVoid e expected least
none_holds {X} f e expected before here after least shown decide torn is =
    none_admitted e expected before here after least decide
    (subst (λ (xs : List X). AreTornByRows after here after least (Entry 0) (map f xs)) is torn)

-- what is shown of it
pub shown_is : (e : Entities) (expected : Expectation) (least : ℕ) (tear : Torn) (bytes : List ℕ) (class : FrameClass) → IsFound e expected least tear
    → bytes ≡ tear.1 → class.used ≡ tear.0.0.used → class.ending ≡ ending_by (meaning e expected.port tear.1)
    → Fails e expected least bytes × (class_of e expected.port bytes ≡ class)
shown_is e expected least tear bytes class found same used ending =
    let made : record { used = class.used; ending = class.ending } ≡ record { used = tear.0.0.used; ending = ending_by (meaning e expected.port tear.1) } =
    rw (used, ending) refl in
    (subst (Fails e expected least) (sym same) found.fails, ap (class_of e expected.port) same ∙ found.class ∙ sym made)

pub empty : {X : Type 0} (xs : List X) (count : ℕ) → count ≡ length xs → (count == 0) ≡ true → xs ≡ []
empty [] count is none = refl
empty (x ∷ xs) count is none = let zero_is : count ≡ 0 = eqb-true count 0 none in absurd (omega arith)

pub not_empty : {X : Type 0} (xs : List X) (count : ℕ) → count ≡ length xs → (count == 0) ≡ false → xs ≡ [] → ⊥
not_empty xs count is some none = eqb-false count 0 some (is ∙ ap length none)
