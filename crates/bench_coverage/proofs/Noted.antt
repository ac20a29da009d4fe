-- One judged frame more among those whose coverage is known.
use Rattle.std.proofs.Common.{◌≡◌, ◌⊎◌, ℕ, zero, suc, ◌+◌, ◌*◌, ◌<◌, ◌≤◌, Bool, true, false, List, [], ◌∷◌, ◌++◌, length, replicate, Some, Vec, refl, ap, sym, subst, ◌∙◌, inl, inr, arith, length-append}
use Rattle.std.specs.Prelude.{Contains, Decides, slice_get, slice_index_or}
use Rattle.std.specs.declared.alloc.Global.{Global}
use Rattle.std.proofs.lemmas.Bool.{cases_lt}
use Rattle.std.proofs.Math.Nat.{suc-mul}
use Rattle.std.proofs.lemmas.Nat.{mul-le}
use Rattle.std.proofs.lemmas.Option.{slice_get_within}
use Rattle.mib_state.specs.Entities.{Entities}
use Rattle.frame_rows.specs.declared.class.FrameClass.{FrameClass}
use Rattle.frame_classes.specs.Classes.{AreClasses}
use Rattle.frame_classes.specs.declared.example.ClassExample.{ClassExample}
use Rattle.bench_judge.specs.declared.course.JudgedFrame.{JudgedFrame}
use Rattle.bench_judge.proofs.Courses.{contained, contained_at}
use Rattle.bench_judge.proofs.Lists.{snoc_cases, snoc_last, snoc_old}
use Rattle.bench_coverage.specs.Coverage.{CountsFor, IsBefore, IsCovered, IsCoverage, IsListed, IsTried, class_by_version, examples_of}
use Rattle.bench_coverage.specs.Noting.{IsNotBehind}
use Rattle.bench_coverage.specs.Stretches.{IsInStretch}
use Rattle.bench_coverage.specs.declared.stretch.Stretch.{Stretch}
use Rattle.bench_coverage.proofs.Stretched.{firsts_rise, one_stretch}

-- ---- frames, and one more

more_old : (frames : List JudgedFrame) (j i : JudgedFrame) → Contains frames i → Contains (frames ++ j ∷ []) i
more_old frames j i inside = contained (frames ++ j ∷ []) inside.0 i (snoc_old frames j i inside.0 (contained_at frames i inside))

more_last : (frames : List JudgedFrame) (j : JudgedFrame) → Contains (frames ++ j ∷ []) j
more_last frames j = contained (frames ++ j ∷ []) (length frames) j (snoc_last frames j)

more_cases : (frames : List JudgedFrame) (j i : JudgedFrame) → Contains (frames ++ j ∷ []) i → Contains frames i ⊎ (j ≡ i)
more_cases frames j i inside =
    elim (snoc_cases frames j i inside.0 (contained_at (frames ++ j ∷ []) i inside)) [
      | inl old ↦ inl (contained frames inside.0 i old)
      | inr last ↦ inr last.1
    ]

-- ---- a stretch whose marks are right, whether a frame counts for it or not

pub record AreRight (entities : ℕ → Entities) (least : ℕ) (frames : List JudgedFrame) (s : Stretch) : Type 0 where
  pub classes : AreClasses (entities s.version) s.port least (examples_of s.classes.items)
  pub marks : length s.tried.items ≡ length s.classes.items
  pub tried : (k : ℕ) (example : ClassExample) → slice_get s.classes.items k ≡ Some example
      → Decides (slice_index_or s.tried.items k false) (IsTried entities least s.port s.version frames example.class)

pub are_right : (entities : ℕ → Entities) (least : ℕ) (frames : List JudgedFrame) (s : Stretch) → IsCovered entities least frames s
    → AreRight entities least frames s
are_right entities least frames s is = record { classes = is.classes; marks = is.marks; tried = is.tried }

none_set : (count k : ℕ) → slice_index_or (replicate count false) k false ≡ true → ⊥
none_set zero k is = cc is
none_set (suc count) zero is = cc is
none_set (suc count) (suc k) is = none_set count k is

-- one of which nothing is tried, and for which no frame counts
pub fresh_right : (entities : ℕ → Entities) (least : ℕ) (frames : List JudgedFrame) (s : Stretch)
    → AreClasses (entities s.version) s.port least (examples_of s.classes.items)
    → length s.tried.items ≡ length s.classes.items → s.tried.items ≡ replicate (length s.classes.items) false
    → ((i : JudgedFrame) → Contains frames i → CountsFor entities least s.port s.version i → ⊥) → AreRight entities least frames s
fresh_right entities least frames s classes marks unset none =
    record {
      classes = classes;
      marks = marks;
      tried = λ k example at. (
        λ is. absurd (none_set (length s.classes.items) k (ap (λ (l : List Bool). slice_index_or l k false) (sym unset) ∙ is)),
        λ is. absurd (none is.frame is.judged is.counts),
      );
    }

module _ (entities : ℕ → Entities) (least : ℕ) (frames : List JudgedFrame) (j : JudgedFrame) (first : ℕ)
    (inside : IsInStretch entities j.port least first j.version) where
  abbrev all : List JudgedFrame
  all = frames ++ j ∷ []

  wider : (port version : ℕ) (class : FrameClass) → IsTried entities least port version frames class → IsTried entities least port version all class
  wider port version class is = record { frame = is.frame; judged = more_old frames j is.frame is.judged; counts = is.counts; has_class = is.has_class }

  -- where it counts for another stretch
  counts_there : (port version : ℕ) → CountsFor entities least port version j → (j.port ≡ port) × (first ≡ version)
  counts_there port version is = (
    is.sent,
    one_stretch entities j.port least first version j.version inside
        (subst (λ (p : ℕ). IsInStretch entities p least version j.version) (sym is.sent) is.inside),
  )

  narrower : (port version : ℕ) (class : FrameClass) → ((j.port ≡ port) × (first ≡ version) → ⊥) → IsTried entities least port version all class
      → IsTried entities least port version frames class
  narrower port version class apart is =
      elim (more_cases frames j is.frame is.judged) [
        | inl old ↦ record { frame = is.frame; judged = old; counts = is.counts; has_class = is.has_class }
        | inr last ↦ absurd (apart (counts_there port version (subst (λ (i : JudgedFrame). CountsFor entities least port version i) (sym last) is.counts)))
      ]

  -- another stretch stays as it is
  pub other_stays : (s : Stretch) → ((j.port ≡ s.port) × (first ≡ s.version) → ⊥) → IsCovered entities least frames s → IsCovered entities least all s
  other_stays s apart is =
      record {
        frame = is.frame;
        judged = more_old frames j is.frame is.judged;
        counts = is.counts;
        classes = is.classes;
        marks = is.marks;
        tried = λ k example at.
            let held = is.tried k example at in (
              λ set. wider s.port s.version example.class (held.0 set),
              λ tried. held.1 (narrower s.port s.version example.class apart tried),
            );
      }

  -- its stretch, with the mark of its class
  pub own_marked : (s : Stretch) (tried : Vec Bool Global) → s.port ≡ j.port → s.version ≡ first → AreRight entities least frames s
      → length tried.items ≡ length s.tried.items
      → ((k : ℕ) (example : ClassExample) → slice_get s.classes.items k ≡ Some example
      → Decides (slice_index_or tried.items k false)
      ((slice_index_or s.tried.items k false ≡ true) ⊎ (example.class ≡ class_by_version entities j)))
      → IsCovered entities least all (record s { tried = tried })
  own_marked s tried port version are count marks =
      let counts : CountsFor entities least s.port s.version j =
      record {
        sent = sym port;
        inside = subst (λ (p : ℕ). IsInStretch entities p least s.version j.version) (sym port)
            (subst (λ (v : ℕ). IsInStretch entities j.port least v j.version) (sym version) inside);
      } in
      record {
        frame = j;
        judged = more_last frames j;
        counts = counts;
        classes = are.classes;
        marks = count ∙ are.marks;
        tried = λ k example at.
            let held = are.tried k example at in
            let now = marks k example at in (
              λ set.
                  elim (now.0 set) [
                    | inl old ↦ wider s.port s.version example.class (held.0 old)
                    | inr own ↦ record { frame = j; judged = more_last frames j; counts = counts; has_class = sym own }
                  ],
              λ is.
                  elim (more_cases frames j is.frame is.judged) [
                    | inl old ↦ now.1 (inl (held.1 (record { frame = is.frame; judged = old; counts = is.counts; has_class = is.has_class })))
                    | inr last ↦ now.1 (inr (sym is.has_class ∙ ap (class_by_version entities) (sym last)))
                  ],
            );
      }

  -- ---- the list

  -- a stretch isn't behind its own
  abbrev IsUpTo : Stretch → Type 0
  IsUpTo s = (s.port < j.port) ⊎ ((s.port ≡ j.port) × (s.version ≤ first))

  up_to : (s : Stretch) → IsCovered entities least frames s → ((i : JudgedFrame) → Contains frames i → IsNotBehind i j) → IsUpTo s
  up_to s is order =
      elim (order is.frame is.judged) [
        | inl before ↦ inl (subst (λ (p : ℕ). p < j.port) is.counts.sent before)
        | inr same ↦
            let port : s.port ≡ j.port = sym is.counts.sent ∙ same.0 in
            inr (
              port,
              firsts_rise entities j.port least s.version first is.frame.version j.version
                  (subst (λ (p : ℕ). IsInStretch entities p least s.version is.frame.version) port is.counts.inside) inside same.1,
            )
      ]

  abbrev IsOwn : Stretch → Type 0
  IsOwn s = (j.port ≡ s.port) × (first ≡ s.version)

  module _ (order : (i : JudgedFrame) → Contains frames i → IsNotBehind i j) (done : List Stretch) (last : Stretch)
      (are : IsCoverage entities least frames (done ++ last ∷ [])) where
    abbrev so_far : List Stretch
    so_far = done ++ last ∷ []

    pub last_is : IsCovered entities least frames last
    last_is = are.each (length done) last (snoc_last done last)

    -- what stands before the last isn't its own
    early : (k : ℕ) (s : Stretch) → slice_get done k ≡ Some s → IsOwn s → ⊥
    early k s at own =
        let within : k < length done = slice_get_within done k s at in
        let before : IsBefore s last = are.ascend k (length done) s last (snoc_old done last s k at) (snoc_last done last) within in
        let up : IsUpTo last = up_to last last_is order in
        elim before [
          | inl less ↦
              elim up [
                | inl lower ↦ absurd (omega (arith, less, lower, own.0))
                | inr level ↦ absurd (omega (arith, less, level.0, own.0))
              ]
          | inr same ↦
              elim up [
                | inl lower ↦ absurd (omega (arith, same.0, lower, own.0))
                | inr level ↦ absurd (omega (arith, same.1, level.1, own.1))
              ]
        ]

    listed_last : (stretches : List Stretch) (s : Stretch) → s.port ≡ j.port → s.version ≡ first
        → (i : JudgedFrame) (f : ℕ) → j ≡ i → CountsFor entities least i.port f i → IsListed (stretches ++ s ∷ []) i.port f
    listed_last stretches s port version i f same counts =
        let begins : first ≡ f = one_stretch entities j.port least first f j.version inside
        (subst (λ (x : JudgedFrame). IsInStretch entities x.port least f x.version) (sym same) counts.inside) in
        record {
          place = length stretches;
          stretch = s;
          at = snoc_last stretches s;
          port_same = port ∙ ap (λ (x : JudgedFrame). x.port) same;
          first_same = version ∙ begins;
        }

    -- the last is its own, and gets a mark
    pub grown_same : (tried : Vec Bool Global) → last.port ≡ j.port → last.version ≡ first
        → IsCovered entities least all (record last { tried = tried }) → IsCoverage entities least all (done ++ (record last { tried = tried }) ∷ [])
    grown_same tried port version covered =
        record {
          each = λ k s at.
              elim (snoc_cases done (record last { tried = tried }) s k at) [
                | inl old ↦ other_stays s (early k s old) (are.each k s (snoc_old done last s k old))
                | inr here ↦ subst (IsCovered entities least all) here.1 covered
              ];
          every = λ i f judged counts.
              elim (more_cases frames j i judged) [
                | inl old ↦ moved i f (are.every i f old counts)
                | inr same ↦ listed_last done (record last { tried = tried }) port version i f same counts
              ];
          ascend = λ i k one other at_i at_k less.
              elim (snoc_cases done (record last { tried = tried }) one i at_i) [
                | inl old ↦
                    elim (snoc_cases done (record last { tried = tried }) other k at_k) [
                      | inl old_k ↦ are.ascend i k one other (snoc_old done last one i old) (snoc_old done last other k old_k) less
                      | inr here ↦
                          subst (IsBefore one) here.1
                          (are.ascend i (length done) one last (snoc_old done last one i old) (snoc_last done last) (slice_get_within done i one old))
                    ]
                | inr here ↦
                    let far : k < length (done ++ (record last { tried = tried }) ∷ []) = slice_get_within (done ++ (record last { tried = tried }) ∷ []) k other at_k in
                    absurd (omega (arith, here.0, less, far, length-append done ((record last { tried = tried }) ∷ [])))
              ];
        }
      where
        moved : (i : JudgedFrame) (f : ℕ) → IsListed so_far i.port f → IsListed (done ++ (record last { tried = tried }) ∷ []) i.port f
        moved i f is =
            elim (snoc_cases done last is.stretch is.place is.at) [
              | inl old ↦
                  record {
                    place = is.place;
                    stretch = is.stretch;
                    at = snoc_old done (record last { tried = tried }) is.stretch is.place old;
                    port_same = is.port_same;
                    first_same = is.first_same;
                  }
              | inr here ↦
                  record {
                    place = length done;
                    stretch = record last { tried = tried };
                    at = snoc_last done (record last { tried = tried });
                    port_same = ap (λ (s : Stretch). s.port) here.1 ∙ is.port_same;
                    first_same = ap (λ (s : Stretch). s.version) here.1 ∙ is.first_same;
                  }
            ]

    module _ (apart : IsOwn last → ⊥) where
      none_own : (k : ℕ) (s : Stretch) → slice_get so_far k ≡ Some s → IsOwn s → ⊥
      none_own k s at own =
          elim (snoc_cases done last s k at) [
            | inl old ↦ early k s old own
            | inr here ↦ apart (subst IsOwn (sym here.1) own)
          ]

      -- no frame counts for its own stretch yet
      pub none_counts : (i : JudgedFrame) → Contains frames i → CountsFor entities least j.port first i → ⊥
      none_counts i judged counts =
          let is = are.every i first judged (record {
            sent = refl;
            inside = subst (λ (p : ℕ). IsInStretch entities p least first i.version) (sym counts.sent) counts.inside;
          }) in
          none_own is.place is.stretch is.at (sym counts.sent ∙ sym is.port_same, sym is.first_same)

      behind_all : (k : ℕ) (s own : Stretch) → slice_get so_far k ≡ Some s → own.port ≡ j.port → own.version ≡ first → IsBefore s own
      behind_all k s own at port version =
          elim (up_to s (are.each k s at) order) [
            | inl lower ↦ inl (subst (λ (p : ℕ). s.port < p) (sym port) lower)
            | inr level ↦
                elim (cases_lt s.version first) [
                  | inl less ↦ inr (level.0 ∙ sym port, subst (λ (v : ℕ). s.version < v) (sym version) less)
                  | inr past ↦
                      let same : first ≡ s.version = omega (arith, past, level.1) in
                      absurd (none_own k s at (sym level.0, same))
                ]
          ]

      -- its own stretch comes behind all others
      pub grown_new : (own : Stretch) → own.port ≡ j.port → own.version ≡ first → IsCovered entities least all own
          → IsCoverage entities least all (so_far ++ own ∷ [])
      grown_new own port version covered =
          record {
            each = λ k s at.
                elim (snoc_cases so_far own s k at) [
                  | inl old ↦ other_stays s (none_own k s old) (are.each k s old)
                  | inr here ↦ subst (IsCovered entities least all) here.1 covered
                ];
            every = λ i f judged counts.
                elim (more_cases frames j i judged) [
                  | inl old ↦
                      let is = are.every i f old counts in
                      record {
                        place = is.place;
                        stretch = is.stretch;
                        at = snoc_old so_far own is.stretch is.place is.at;
                        port_same = is.port_same;
                        first_same = is.first_same;
                      }
                  | inr same ↦ listed_last so_far own port version i f same counts
                ];
            ascend = λ i k one other at_i at_k less.
                elim (snoc_cases so_far own one i at_i) [
                  | inl old ↦
                      elim (snoc_cases so_far own other k at_k) [
                        | inl old_k ↦ are.ascend i k one other old old_k less
                        | inr here ↦ subst (IsBefore one) here.1 (behind_all i one own old port version)
                      ]
                  | inr here ↦
                      let far : k < length (so_far ++ own ∷ []) = slice_get_within (so_far ++ own ∷ []) k other at_k in
                      absurd (omega (arith, here.0, less, far, length-append so_far (own ∷ [])))
                ];
          }

-- ---- the first frame

pub grown_first : (entities : ℕ → Entities) (least : ℕ) (j : JudgedFrame) (first : ℕ) (s : Stretch) → IsInStretch entities j.port least first j.version
    → s.port ≡ j.port → s.version ≡ first → IsCovered entities least (j ∷ []) s → IsCoverage entities least (j ∷ []) (s ∷ [])
grown_first entities least j first s inside port version covered =
    record {
      each = λ k t at. subst (IsCovered entities least (j ∷ [])) (only k t at).1 covered;
      every = λ i f judged counts.
          let same : j ≡ i = (only_frame judged.0 i (contained_at (j ∷ []) i judged)).1 in
          record {
            place = 0;
            stretch = s;
            at = refl;
            port_same = port ∙ ap (λ (x : JudgedFrame). x.port) same;
            first_same = version ∙ one_stretch entities j.port least first f j.version inside
                (subst (λ (x : JudgedFrame). IsInStretch entities x.port least f x.version) (sym same) counts.inside);
          };
      ascend = λ i k one other at_i at_k less. let a = (only k other at_k).0 in absurd (omega (arith, less, a));
    }
  where
    only : (k : ℕ) (t : Stretch) → slice_get (s ∷ []) k ≡ Some t → (k ≡ 0) × (s ≡ t)
    only zero t at = (refl, cc at)
    only (suc k) t at = absurd (cc at)

    only_frame : (k : ℕ) (i : JudgedFrame) → slice_get (j ∷ []) k ≡ Some i → (k ≡ 0) × (j ≡ i)
    only_frame zero i at = (refl, cc at)
    only_frame (suc k) i at = absurd (cc at)

-- ---- frames in order

-- of two numbers of pairs the first one decides, where the second is below its bound
pub first_decides : (m a b c d : ℕ) → a * m + b ≤ c * m + d → d < m → (a < c) ⊎ ((a ≡ c) × (b ≤ d))
first_decides m a b c d le below =
    elim (cases_lt a c) [
      | inl less ↦ inl less
      | inr past ↦
          elim (cases_lt c a) [
            | inl more ↦
                let up : suc c * m ≤ a * m = mul-le (suc c) m a m (omega (arith, more)) (omega arith) in
                let grown : suc c * m ≡ c * m + m = suc-mul c m in
                absurd (omega (arith, le, below, up, grown))
            | inr level ↦
                let same : a ≡ c = omega (arith, past, level) in
                let rest : c * m + b ≤ c * m + d = subst (λ (n : ℕ). n * m + b ≤ c * m + d) same le in
                inr (same, omega (arith, rest))
          ]
    ]

-- ---- other lists of the same frames

pub covered_by : (entities : ℕ → Entities) (least : ℕ) (frames others : List JudgedFrame) (stretches : List Stretch)
    → ((j : JudgedFrame) → Contains frames j → Contains others j) → ((j : JudgedFrame) → Contains others j → Contains frames j)
    → IsCoverage entities least frames stretches → IsCoverage entities least others stretches
covered_by entities least frames others stretches to back are =
    record {
      each = λ k s at.
          let is = are.each k s at in
          record {
            frame = is.frame;
            judged = to is.frame is.judged;
            counts = is.counts;
            classes = is.classes;
            marks = is.marks;
            tried = λ i example here.
                let held = is.tried i example here in (
                  λ set. let t = held.0 set in record { frame = t.frame; judged = to t.frame t.judged; counts = t.counts; has_class = t.has_class },
                  λ t. held.1 (record { frame = t.frame; judged = back t.frame t.judged; counts = t.counts; has_class = t.has_class }),
                );
          };
      every = λ j first judged counts. are.every j first (back j judged) counts;
      ascend = are.ascend;
    }

pub none_covered : (entities : ℕ → Entities) (least : ℕ) (frames : List JudgedFrame) (stretches : List Stretch) → frames ≡ [] → stretches ≡ []
    → IsCoverage entities least frames stretches
none_covered entities least frames stretches no_frames no_stretches =
    record {
      each = λ k s at. absurd (cc (sym at ∙ ap (λ (l : List Stretch). slice_get l k) no_stretches));
      every = λ j first judged counts. absurd (none judged.0 (subst (λ (l : List JudgedFrame). judged.0 < length l) no_frames judged.1));
      ascend = λ i k one other at_i at_k less. absurd (cc (sym at_i ∙ ap (λ (l : List Stretch). slice_get l i) no_stretches));
    }
  where
    none : (k : ℕ) → k < 0 → ⊥
    none k h = absurd (omega (arith, h))
