-- The judged frames among those that are kept, and the course of events that were walked whole.
use Rattle.std.proofs.Common.{◌≡◌, ◌⊎◌, ℕ, ◌+◌, ◌-◌, ◌<◌, ◌≤◌, Bool, true, false, List, [], ◌∷◌, ◌++◌, length, take, Option, Some, None, Vec, is_some, slice_get, slice_index, refl, ap, sym, subst, ◌∙◌, inl, inr, arith, append-nil, take_all}
use Rattle.std.specs.Prelude.{Contains}
use Rattle.std.specs.List.{cons_option}
use Rattle.std.specs.declared.alloc.Global.{Global}
use Rattle.std.proofs.lemmas.Bool.{cases_lt}
use Rattle.std.proofs.lemmas.Option.{get_or_from_slice_get, slice_get-get_or, slice_get_within}
use Rattle.bench_history.specs.declared.event.Event.{Event}
use Rattle.bench_history.specs.declared.event.Event.TheVariants.{Entered}
use Rattle.bench_history.specs.declared.extent.Extent.{Extent}
use Rattle.bench_answers.specs.Ground.{Ground}
use Rattle.bench_answers.specs.Asked.{base, requests_of}
use Rattle.bench_answers.proofs.Fronts.{base_within}
use Rattle.bench_judge.specs.Course.{AreJudged, AreJudgedUnder, IsCourse, IsCourseBeside, IsJudgedAt, IsJudgedAs, IsJudgedOf, IsKeptBeside, IsKeptWhole, judged_as, judged_by, judged_if}
use Rattle.bench_judge.specs.Cut.{IsChosen, IsGoodChoice, by_number}
use Rattle.bench_judge.specs.Explained.{EndedFrame, IsChoice, IsEnded}
use Rattle.bench_judge.specs.Frames.{AreFrames, IsKeptIn, IsKeptOf}
use Rattle.bench_judge.specs.Terms.{Terms, ground_in}
use Rattle.bench_judge.specs.Walk.{AreSentBy, IsKeptAsSent, IsWalk}
use Rattle.bench_judge.specs.declared.course.Course.{Course}
use Rattle.bench_judge.specs.declared.course.JudgedFrame.{JudgedFrame}
use Rattle.bench_judge.specs.declared.frame.Frame.{Frame}
use Rattle.bench_judge.specs.declared.judgement.Judgement.{Judgement}
use Rattle.bench_judge.specs.declared.judgement.Judgement.TheVariants.{Explained, Deviates}
use Rattle.bench_judge.specs.declared.known.Known.{Known}
use Rattle.bench_judge.specs.declared.walk.Walk.{Walk}
use Rattle.bench_judge.proofs.Lists.{snoc_cases, snoc_last, snoc_old}

-- ---- what a list contains

pub contained : {A : Type 0} (xs : List A) (k : ℕ) (x : A) → slice_get xs k ≡ Some x → Contains xs x
contained xs k x at = (k, slice_get_within xs k x at, get_or_from_slice_get xs k x x at)

pub contained_at : {A : Type 0} (xs : List A) (x : A) (inside : Contains xs x) → slice_get xs inside.0 ≡ Some x
contained_at xs x inside = slice_get-get_or xs inside.0 x inside.1 ∙ ap Some inside.2

-- ---- one frame

of_ended : (ended : Option ℕ) (r j : JudgedFrame) → judged_if ended (Some r) ≡ Some j → (is_some ended ≡ true) × (r ≡ j)
of_ended None r j is = absurd (cc is)
of_ended (Some end) r j is = (refl, cc is)

of_open : (ended : Option ℕ) (r : JudgedFrame) → judged_if ended (Some r) ≡ None → is_some ended ≡ false
of_open None r is = refl
of_open (Some end) r is = absurd (cc is)

module _ (start : ℕ) (events : List Event) (frames : List Frame) (versions : ℕ → ℕ) where
  pub none_judged : AreJudgedUnder start events frames versions 0 []
  none_judged = record {
    each = λ j inside. absurd (omega (arith, inside.1));
    all = λ n frame under at ended. absurd (omega (arith, under));
  }

  module _ (n : ℕ) (list : List JudgedFrame) (are : AreJudgedUnder start events frames versions n list) (frame : Frame) (at : slice_get frames n ≡ Some frame)
      (grounds : Ground) (sent : IsKeptAsSent grounds events n frame) (version : ℕ) (is_version : version ≡ versions n - start) where
    abbrev its : JudgedFrame
    its = record { port = frame.port; frame = sent.bytes; version = version }

    judged_is : judged_by events frame version ≡ judged_if frame.ended (Some its)
    judged_is = ap (λ (event : Option Event). judged_if frame.ended (judged_as frame.port version event)) sent.entered

    before : (m : ℕ) → m < n + 1 → (m < n) ⊎ (m ≡ n)
    before m lt =
        elim (cases_lt m n) [
          | inl under ↦ inl under
          | inr over ↦ inr (omega (arith, over, lt))
        ]

    same_frame : (x y : Frame) → Some x ≡ Some y → x ≡ y
    same_frame x y is = cc is

    judged_grow : (j : JudgedFrame) → judged_by events frame version ≡ Some j → AreJudgedUnder start events frames versions (n + 1) (list ++ j ∷ [])
    judged_grow j is =
        let of = of_ended frame.ended its j (sym judged_is ∙ is) in
        let here : IsJudgedAt start events frames versions n j = subst (IsJudgedAt start events frames versions n) of.1
        (record { frame = frame; at = at; ended = of.0; extent = sent.extent; entered = sent.entered; port = refl; version = is_version }) in
        record {
          each = λ i inside.
              elim (snoc_cases list j i inside.0 (contained_at (list ++ j ∷ []) i inside)) [
                | inl old ↦ let held = are.each i (contained list inside.0 i old) in (held.0, omega (arith, held.1), held.2)
                | inr last ↦ (n, omega arith, subst (IsJudgedAt start events frames versions n) last.1 here)
              ];
          all = λ m other lt at_m ended.
              elim (before m lt) [
                | inl under ↦
                    let held = are.all m other under at_m ended in
                    (held.0, contained (list ++ j ∷ []) held.1.0 held.0 (snoc_old list j held.0 held.1.0 (contained_at list held.0 held.1)), held.2)
                | inr same ↦
                    (j, contained (list ++ j ∷ []) (length list) j (snoc_last list j), subst (λ k. IsJudgedAt start events frames versions k j) (sym same) here)
              ];
        }

    judged_stay : judged_by events frame version ≡ None → AreJudgedUnder start events frames versions (n + 1) list
    judged_stay is =
        let unended : is_some frame.ended ≡ false = of_open frame.ended its (sym judged_is ∙ is) in
        record {
          each = λ i inside. let held = are.each i inside in (held.0, omega (arith, held.1), held.2);
          all = λ m other lt at_m ended.
              elim (before m lt) [
                | inl under ↦ are.all m other under at_m ended
                | inr same ↦
                    let is_frame : other ≡ frame = same_frame other frame (sym at_m ∙ ap (slice_get frames) same ∙ at) in
                    absurd (cc (sym ended ∙ ap (λ (x : Frame). is_some x.ended) is_frame ∙ unended))
              ];
        }

    -- with what is said of it, if it has ended
    pub judged_more : (said : Option JudgedFrame) → said ≡ judged_by events frame version
        → AreJudgedUnder start events frames versions (n + 1) (list ++ cons_option said [])
    judged_more (Some j) is = judged_grow j (sym is)
    judged_more None is = subst (AreJudgedUnder start events frames versions (n + 1)) (sym (append-nil list)) (judged_stay (sym is))

-- ---- all frames

module _ (grounds : Ground) (padded unordered : Bool) (events : List Event) (frames : List Frame) (versions : ℕ → ℕ)
    (are : AreFrames grounds events frames) (choice : IsChoice grounds padded unordered events versions) (list : List JudgedFrame)
    (under : AreJudgedUnder (base grounds) events frames versions (length frames) list) where
  counted : (f : EndedFrame) → IsEnded events f → (v : ℕ) → v ≡ versions f.number - base grounds → base grounds + v ≡ versions f.number
  counted f is v same =
      let low = base_within grounds (take f.sent events) in
      let least = (choice.each f is).least in
      omega (arith, low, least, same)

  pub are_judged : AreJudged (base grounds) events versions list
  are_judged =
      record {
        each = λ j inside.
            let held = under.each j inside in
            let o : IsKeptOf grounds events held.0 held.2.frame = are.only held.0 held.2.frame held.2.at held.2.ended in
            record {
              f = o.f;
              ended = o.is;
              is = record {
                port = held.2.port ∙ o.kept.port;
                frame = same_bytes j.frame o.f.bytes held.2.frame.port o.f.port held.2.extent o.f.extent
                    (sym held.2.entered ∙ ap (slice_get events) o.kept.sent ∙ o.is.entered);
                version = counted o.f o.is j.version (held.2.version ∙ ap (λ (m : ℕ). versions m - base grounds) (sym o.number));
              };
            };
        all = λ f is.
            let k : IsKeptIn grounds events frames f = are.each f is in
            let held = under.all f.number k.frame (slice_get_within frames f.number k.frame k.at) k.at (ap is_some k.kept.ended) in
            let same : held.2.frame ≡ k.frame = same_frame held.2.frame k.frame (sym held.2.at ∙ k.at) in (
              held.0,
              held.1,
              record {
                port = held.2.port ∙ ap (λ (x : Frame). x.port) same ∙ k.kept.port;
                frame = same_bytes held.0.frame f.bytes held.2.frame.port f.port held.2.extent f.extent
                    (sym held.2.entered ∙ ap (slice_get events) (ap (λ (x : Frame). x.sent) same ∙ k.kept.sent) ∙ is.entered);
                version = counted f is held.0.version held.2.version;
              },
            );
      }
    where
      same_frame : (x y : Frame) → Some x ≡ Some y → x ≡ y
      same_frame x y is = cc is

      same_bytes : (bytes bytes' : List ℕ) (p p' : ℕ) (x x' : Extent) → Some (Entered p x bytes) ≡ Some (Entered p' x' bytes') → bytes ≡ bytes'
      same_bytes bytes bytes' p p' x x' is = cc is

-- ---- events that were walked whole

pub course_is : (terms : Terms) (events : List Event) (known : Known) (walk : Walk) (list : Vec JudgedFrame Global)
    → IsKeptWhole terms events known walk
    → (frames : List Frame) (given : List ℕ) → frames ≡ walk.frames.items → given ≡ known.versions.items
    → ((grounds : Ground) → AreSentBy grounds events frames
    → AreJudgedUnder walk.base events frames (slice_index given) (length frames) list.items)
    → IsCourse terms events (record { frames = list; requests = walk.requests; base = walk.base })
course_is terms events known walk list kept frames given same_frames same_given under =
    let grounds = ground_in terms in
    let all : take walk.walked events ≡ events = take_all walk.walked events (omega (arith, kept.whole)) in
    let sent : AreSentBy grounds events walk.frames.items = subst (λ l. AreSentBy grounds l walk.frames.items) all kept.walked.sent in
    let are : AreFrames grounds events walk.frames.items = subst (λ l. AreFrames grounds l walk.frames.items) all kept.walked.frames in
    let here = under grounds (subst (AreSentBy grounds events) (sym same_frames) sent) in
    record {
      versions = slice_index known.versions.items;
      choice = kept.choice;
      frames = are_judged grounds terms.settings.padded terms.settings.unordered events walk.frames.items (slice_index known.versions.items) are kept.choice.0 list.items
          (subst (λ b. AreJudgedUnder b events walk.frames.items (slice_index known.versions.items) (length walk.frames.items) list.items) kept.walked.base
          (subst (λ fs. AreJudgedUnder walk.base events fs (slice_index known.versions.items) (length fs) list.items) same_frames
          (subst (λ l. AreJudgedUnder walk.base events frames (slice_index l) (length frames) list.items) same_given here)));
      requests = kept.walked.requests ∙ ap (requests_of grounds) all;
      base = kept.walked.base;
    }

-- what is kept of them
pub kept_whole : (terms : Terms) (events : List Event) (walk : Walk) (found : Option (Vec ℕ Global)) (versions : Vec ℕ Global) (until : ℕ) → IsWalk terms events walk
    → length events ≤ walk.walked → found ≡ Some versions
    → IsChosen (ground_in terms) terms.settings.padded terms.settings.unordered (take walk.walked events) found
    → IsKeptWhole terms events (record { until = until; versions = versions }) walk
kept_whole terms events walk found versions until walked whole is chosen =
    let all : take walk.walked events ≡ events = take_all walk.walked events whole in
    let choice : IsGoodChoice (ground_in terms) terms.settings.padded terms.settings.unordered (take walk.walked events) (by_number versions) =
    subst (IsChosen (ground_in terms) terms.settings.padded terms.settings.unordered (take walk.walked events)) is chosen in
    record {
      walked = walked;
      whole = omega (arith, whole, walked.within);
      choice = subst (λ l. IsGoodChoice (ground_in terms) terms.settings.padded terms.settings.unordered l (by_number versions)) all choice;
    }

-- ---- beside what is found

pub course_beside : (terms : Terms) (events : List Event) (judgement : Judgement) (known : Known) (walk : Walk) (course : Course)
    → IsKeptBeside terms events judgement known (Some walk) → (IsKeptWhole terms events known walk → IsCourse terms events course)
    → IsCourseBeside terms events judgement (Some course)
course_beside terms events (Explained e) known walk course kept by = by kept
course_beside terms events (Deviates d) known walk course kept by = absurd kept

pub none_beside : (terms : Terms) (events : List Event) (judgement : Judgement) (known : Known) → IsKeptBeside terms events judgement known None
    → IsCourseBeside terms events judgement None
none_beside terms events (Explained e) known kept = absurd kept
none_beside terms events (Deviates d) known kept = tt
