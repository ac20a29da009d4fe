-- Captured frames, one by one, and the least that is known of them.
use Rattle.std.proofs.Common.{◌≡◌, ◌≤◌, ◌<◌, ◌+◌, ℕ, Bool, true, List, [], ◌∷◌, ◌++◌, append_assoc, drop, get_or, length, map, take, refl, ap, sym, ◌∙◌, arith}
use Rattle.std.specs.List.{list_all}
use Rattle.std.proofs.lemmas.Bool.{and_from, and_parts, le-leb, leb-true}
use Rattle.std.proofs.lemmas.List.{append-nil, drop_all, drop_more, map_push}
use Rattle.std.proofs.lemmas.List.Folds.{list_all_more}
use Rattle.bench_history.specs.declared.extent.Extent.{Extent}
use Rattle.bench_history.specs.declared.extent.Extent.TheVariants.{Whole, Front}
use Rattle.bench_record.specs.Cores.{Core}
use Rattle.bench_record.specs.Index.{is_long, is_long_by}
use Rattle.bench_record.specs.Moments.{Sourced}
use Rattle.bench_record.specs.Recorded.{core_in, frames_from, sourced_from}
use Rattle.bench_record.specs.Walk.{sourced_shown}
use Rattle.bench_record.specs.declared.captured.Capture.{Capture}
use Rattle.bench_record.specs.declared.captured.CapturedFrame.{CapturedFrame}
use Rattle.bench_record.specs.declared.settings.RecordSettings.{RecordSettings}
use Rattle.bench_record.specs.declared.walk.Sourced as given

-- ---- frames with where they stand

pub sourced_more : (olds news : List given.Sourced) (x : given.Sourced) (n i : ℕ) (frames : List CapturedFrame) (d : CapturedFrame)
    → news ≡ olds ++ x ∷ [] → i < length frames → x ≡ record { source = record { capture = n; place = i + 1 }; frame = get_or frames i d }
    → map sourced_shown news ++ sourced_from n (i + 1 + 1) (drop (i + 1) frames) ≡ map sourced_shown olds ++ sourced_from n (i + 1) (drop i frames)
sourced_more olds news x n i frames d pushed within is =
    let rest : List Sourced = sourced_from n (i + 1 + 1) (drop (i + 1) frames) in
    ap (λ (xs : List given.Sourced). map sourced_shown xs ++ rest) pushed
    ∙ ap (λ (xs : List Sourced). xs ++ rest) (map_push sourced_shown olds x)
    ∙ append_assoc (map sourced_shown olds) (sourced_shown x ∷ []) rest
    ∙ ap (λ (y : given.Sourced). map sourced_shown olds ++ sourced_shown y ∷ rest) is
    ∙ ap (λ (xs : List CapturedFrame). map sourced_shown olds ++ sourced_from n (i + 1) xs) (sym (drop_more frames i d within))

pub sourced_all : (olds : List Sourced) (n k i : ℕ) (frames : List CapturedFrame) → length frames ≤ i → olds ++ sourced_from n k (drop i frames) ≡ olds
sourced_all olds n k i frames past = ap (λ (xs : List CapturedFrame). olds ++ sourced_from n k xs) (drop_all i frames past) ∙ append-nil olds

pub captured_more : (olds news : List Sourced) (n : ℕ) (captures : List Capture) (d : Capture) → n < length captures
    → news ≡ olds ++ sourced_from n 1 (get_or captures n d).frames.now
    → news ++ frames_from (n + 1) (drop (n + 1) captures) ≡ olds ++ frames_from n (drop n captures)
captured_more olds news n captures d within is =
    let rest : List Sourced = frames_from (n + 1) (drop (n + 1) captures) in
    ap (λ (xs : List Sourced). xs ++ rest) is
    ∙ append_assoc olds (sourced_from n 1 (get_or captures n d).frames.now) rest
    ∙ ap (λ (cs : List Capture). olds ++ frames_from n cs) (sym (drop_more captures n d within))

pub captured_all : (olds : List Sourced) (n : ℕ) (captures : List Capture) → length captures ≤ n → olds ++ frames_from n (drop n captures) ≡ olds
captured_all olds n captures past = ap (λ (cs : List Capture). olds ++ frames_from n cs) (drop_all n captures past) ∙ append-nil olds

-- ---- the shortest front

less_by : (m n : ℕ) (extent : Extent) (rest : List ℕ) → m ≤ n → is_long_by n extent rest ≡ true → is_long_by m extent rest ≡ true
less_by m n Whole rest within is = refl
less_by m n Front rest within is = le-leb m (length rest) (omega (arith, within, leb-true n (length rest) is))

-- whether a captured frame has so many bytes behind its tags, or is whole
abbrev pub long_at : RecordSettings → ℕ → given.Sourced → Bool
long_at s n at = is_long n (core_in s at.frame)

all_less : (s : RecordSettings) (m n : ℕ) → m ≤ n → (frames : List given.Sourced) → list_all (long_at s n) frames ≡ true → list_all (long_at s m) frames ≡ true
all_less s m n within [] all = refl
all_less s m n within (x ∷ frames) all =
    let parts = and_parts (long_at s n x) (list_all (long_at s n) frames) all in
    let core : Core = core_in s x.frame in
    and_from (long_at s m x) (list_all (long_at s m) frames) (less_by m n core.extent core.rest within parts.0) (all_less s m n within frames parts.1)

pub shortest_more : (s : RecordSettings) (m n : ℕ) (frames : List given.Sourced) (i : ℕ) (d : given.Sourced) → m ≤ n
    → long_at s m (get_or frames i d) ≡ true → i < length frames → list_all (long_at s n) (take i frames) ≡ true → list_all (long_at s m) (take (i + 1) frames) ≡ true
shortest_more s m n frames i d less long within all =
    list_all_more (long_at s m) frames i d within
    ∙ and_from (list_all (long_at s m) (take i frames)) (long_at s m (get_or frames i d)) (all_less s m n less (take i frames) all) long
