-- From what each lane held to what the whole run gives.
use Rattle.std.proofs.Common.{◌≡◌, ℕ, ◌+◌, ◌*◌, ◌%◌, ◌<◌, ◌≤◌, ◌⊎◌, ⊎_elim, List, [], ◌∷◌, length, get_or, map, take, Option, Some, refl, ap, sym, subst, ◌∙◌, arith, ◌^◌, ◌-◌, suc, zero, true}
use Rattle.std.specs.Prelude.{slice_get, Result, Ok, IfOk, OnOk, IfSome, All}
use Rattle.std.specs.List.{Contains, AllZip, sum_by}
use Rattle.std.specs.declared.vec.Vec.{Vec}
use Rattle.std.specs.declared.alloc.Global.{Global}
use Rattle.std.proofs.Math.Seq.{take-append_seam}
use Rattle.std.proofs.Math.Nat.{mod-eq_of_lt, add-mul-mod_self_right, le_of_mul-le-mul_right}
use Rattle.std.proofs.lemmas.List.{length-append, length-map}
use Rattle.std.proofs.lemmas.Option.{slice_get-get_or, slice_get_within}
use Rattle.omci_msg.specs.declared.Request.{Request}
use Rattle.mib_state.specs.After.{after}
use Rattle.plan_publish.specs.Requests.{StartsWith, StartsWithEach, version_of}
use Rattle.plan_publish.specs.History.{Home}
use Rattle.plan_publish.specs.declared.lane.Lane.{Lane}
use Rattle.plan_publish.specs.Lane.{number_of, learnt_by, home_of, IsNew}
use Rattle.frame_stats.specs.Figures.{Figure, figure, counted, AreCountsOf}
use Rattle.batch_reports.specs.declared.batch.Tally.{Tally}
use Rattle.batch_reports.specs.Gathering.{SumPasses}
use Rattle.batch_reports.proofs.Lent.{mapped_at}
use Rattle.capture_pieces.specs.Cut.{batch_of}
use Rattle.run_settings.specs.declared.settings.RunSettings.{RunSettings}
use Rattle.run_lanes.specs.declared.settling.Done.{Done}
use Rattle.run_lanes.specs.declared.settling.Settled.{Settled}
use Rattle.run_lanes.specs.Run.{batches_in, verdicts_from, AreAdmissible, IsRun, SomeRunPasses}
use Rattle.run_lanes.specs.Work.{OfLane, Worked, Did, IsOut, verdicts_on}
use Rattle.run_lanes.specs.Settling.{AllAreFull, AreNew, AreOrdered, Collected, IsSettled, SomeLaneIsFull}
use Rattle.run_lanes.proofs.Working.{starts_with_one}
use Rattle.run_lanes.proofs.Counting.{versions_of, copies, sums_are, one_of_all}

-- ---- one tally

pub longer : (all first : List Request) → StartsWith all first → length first ≤ length all
longer all first s = let e : length all ≡ length first + length s.0 = ap length s.1 ∙ length-append first s.0 in omega (arith, e)

first_so_many : (all first : List Request) → StartsWith all first → take (length first) all ≡ first
first_so_many all first s = rw s.1 (take-append_seam first s.0)

count_exact : (all first : List Request) → StartsWith all first → length all < 2 ^ 64 - 1 → version_of first ≡ length first
count_exact all first s small = let l = longer all first s in omega (arith, l, small)

module _ (accepted : List Request) (small : length accepted < 2 ^ 64 - 1) (s : RunSettings) (frames : List (List ℕ)) where
  abbrev IsMeant : Tally → Type 0
  IsMeant t = AreCountsOf (verdicts_on (after (take t.version accepted)) s.port (batch_of s.batch t.batch frames)) t.counts

  -- a tally of a list that was held is of the first so many
  pub meant : (held : List (List Request)) (learnt : List Request) (number i : ℕ) (t : Tally) → OfLane s frames held learnt number i t → StartsWithEach accepted held
      → (t.version ≤ length accepted) × (length learnt ≤ t.version) × IsMeant t
  meant held learnt number i t o each =
      let begins = starts_with_one accepted held o.requests each o.is_held in
      let version : t.version ≡ length o.requests = o.tally.version ∙ count_exact accepted o.requests begins small in
      let l = longer accepted o.requests begins in
      let m = longer o.requests learnt o.begins_learnt in
      let taken : take t.version accepted ≡ o.requests = ap (λ n. take n accepted) version ∙ first_so_many accepted o.requests begins in (
        omega (arith, version, l),
        omega (arith, version, m),
        subst (λ (q : List Request). AreCountsOf (verdicts_on (after q) s.port (batch_of s.batch t.batch frames)) t.counts) (sym taken) o.tally.counts,
      )

-- ---- lists beside one another

pub zip_get : {X Y : Type 0} (R : X → Y → Type 0) (xs : List X) (ys : List Y) (n : ℕ) (y : Y) → AllZip R xs ys → slice_get ys n ≡ Some y → (x : X) × (slice_get xs n ≡ Some x) × R x y
zip_get R [] [] n y z h = absurd (let e : ⊥ = cc in e)
zip_get R [] (w ∷ ws) n y z h = absurd z
zip_get R (v ∷ vs) [] n y z h = absurd z
zip_get R (v ∷ vs) (w ∷ ws) zero y z h = (v, refl, (let same : w ≡ y = cc in subst (R v) same z.0))
zip_get R (v ∷ vs) (w ∷ ws) (suc n) y z h = zip_get R vs ws n y z.1 h

pub of_ok : {T E : Type 0} (r : Result T E) (v : T) (P : T → Type 0) → r ≡ Ok v → IfOk r P → P v
of_ok r v P is h = subst (λ (o : Result _ _). IfOk o P) is h

pub on_ok : {T E : Type 0} (r : Result T E) (v : T) (P : Type 0) → r ≡ Ok v → OnOk r P → P
on_ok r v P is h = subst (λ (o : Result _ _). OnOk o P) is h

is_at : (xs : List Tally) (t : Tally) → Contains xs t → (i : ℕ) × (slice_get xs i ≡ Some t)
is_at xs t h = (h.0, slice_get-get_or xs h.0 t h.1 ∙ ap Some h.2)

all_mapped : {X Y : Type 0} (f : X → Y) (P : Y → Type 0) (xs : List X) → ((k : ℕ) (x : X) → slice_get xs k ≡ Some x → P (f x)) → (k : ℕ) (d : Y) → k < length (map f xs) → P (get_or (map f xs) k d)
all_mapped f P [] each k d lt = absurd (omega (arith, lt))
all_mapped f P (x ∷ xs) each zero d lt = each 0 x refl
all_mapped f P (x ∷ xs) each (suc k) d lt = all_mapped f P xs (λ j y h. each (suc j) y h) k d (omega (arith, lt))

-- ---- the whole run

-- where a tally of the run stands: at the lane of its batch
record Located (ds : List Done) (lanes : ℕ) (t : Tally) : Type 0 where
  lane : ℕ
  index : ℕ
  done : Done
  tallies : Vec Tally Global
  at_lane : slice_get ds lane ≡ Some done
  tallies_are : done.tallies ≡ Ok tallies
  at_index : slice_get tallies.items index ≡ Some t
  below : lane < lanes
  batch : t.batch ≡ lane + index * lanes

same_lane : (lanes n m i j : ℕ) → n < lanes → m < lanes → (n + i * lanes) % lanes ≡ (m + j * lanes) % lanes → n ≡ m
same_lane lanes n m i j lt mt e =
    sym (mod-eq_of_lt lt) ∙ sym (add-mul-mod_self_right n i lanes) ∙ e ∙ add-mul-mod_self_right m j lanes ∙ mod-eq_of_lt mt

earlier : (lanes n i j : ℕ) → n < lanes → n + i * lanes ≤ n + j * lanes → i ≤ j
earlier lanes n i j lt le = le_of_mul-le-mul_right {m = i} {n = j} {k = lanes} (omega (arith, le)) (omega (arith, lt))

-- the lanes have their numbers, and had learnt so many requests
abbrev pub AreNumbered : ℕ → ℕ → List Lane → Type 0
AreNumbered lanes learnt ls = (n : ℕ) (l : Lane) → slice_get ls n ≡ Some l → (number_of l ≡ n) × (n < lanes) × (learnt ≤ length (learnt_by l))

module _ (accepted : List Request) (s : RunSettings) (frames : List (List ℕ)) (learnt : ℕ) (ls : List Lane) (ds : List Done) (numbers : AreNumbered s.lanes learnt ls)
    (did : AllZip (Did s frames) ls ds) (out : List Tally) (o : AreOrdered accepted ds (batches_in s.batch (length frames)) out) where
  c : Collected accepted ds o.all
  c = o.collected

  -- what the lane of that number worked
  worked_at : (n : ℕ) (d : Done) (v : Vec Tally Global) → slice_get ds n ≡ Some d → d.tallies ≡ Ok v
      → (l : Lane) × (held : List (List Request)) × (number_of l ≡ n) × (n < s.lanes) × (learnt ≤ length (learnt_by l)) × StartsWithEach accepted held × Worked s frames held (learnt_by l) (number_of l) v.items
  worked_at n d v at is =
      let z = zip_get (Did s frames) ls ds n d did at in
      let k = of_ok d.tallies v _ is z.2.worked in
      let number = numbers n z.0 z.1 in
      (z.0, k.0, number.0, number.1, number.2, c.began n d at k.0 k.1, k.2)

  found_at : (t : Tally) → Contains o.all t → Located ds s.lanes t × (t.version ≤ length accepted) × (learnt ≤ t.version) × IsMeant accepted o.small s frames t
  found_at t h =
      let f = c.from t h in
      let j = is_at f.tallies.items t f.is_in in
      let k = worked_at f.place f.done f.tallies f.at_place f.tallies_are in
      let of = k.6.each j.0 t j.1 in
      let m = meant accepted o.small s frames k.1 (learnt_by k.0) (number_of k.0) j.0 t of k.5 in
      let no_less : learnt ≤ t.version = omega (arith, m.1, k.4) in
      let batch : t.batch ≡ f.place + j.0 * s.lanes = of.batch ∙ ap (λ n. n + j.0 * s.lanes) k.2 in (
        record { lane = f.place; index = j.0; done = f.done; tallies = f.tallies; at_lane = f.at_place; tallies_are = f.tallies_are; at_index = j.1; below = k.3; batch = batch },
        m.0,
        no_less,
        m.2,
      )

  falls_not : (q t : Tally) → Located ds s.lanes q → Located ds s.lanes t → q.batch ≤ t.batch → q.batch % s.lanes ≡ t.batch % s.lanes → q.version ≤ t.version
  falls_not q t a b le residue =
      let e : (a.lane + a.index * s.lanes) % s.lanes ≡ (b.lane + b.index * s.lanes) % s.lanes = ap (λ n. n % s.lanes) (sym a.batch) ∙ residue ∙ ap (λ n. n % s.lanes) b.batch in
      let same : a.lane ≡ b.lane = same_lane s.lanes a.lane b.lane a.index b.index a.below b.below e in
      let there : slice_get ds b.lane ≡ Some a.done = subst (λ (n : ℕ). slice_get ds n ≡ Some a.done) same a.at_lane in
      let one : a.done ≡ b.done = let x = b.at_lane in cc in
      let lists : a.tallies ≡ b.tallies = let x = a.tallies_are in let y = b.tallies_are in cc in
      let q_at : slice_get b.tallies.items a.index ≡ Some q = subst (λ (v : Vec Tally Global). slice_get v.items a.index ≡ Some q) lists a.at_index in
      let k = worked_at b.lane b.done b.tallies b.at_lane b.tallies_are in
      let before : b.lane + a.index * s.lanes ≤ b.lane + b.index * s.lanes = omega (arith, le, a.batch, b.batch, same) in
      k.6.never_fall a.index b.index q t (earlier s.lanes b.lane a.index b.index b.below before) q_at b.at_index

  -- tally k of the run is of batch k
  at_place : (k : ℕ) (t : Tally) → slice_get out k ≡ Some t → (t.batch ≡ k) × Located ds s.lanes t × (t.version ≤ length accepted) × (learnt ≤ t.version) × IsMeant accepted o.small s frames t
  at_place k t h = let f = o.in_order.found k t h in let p = found_at t f.0 in (f.1, p.0, p.1, p.2, p.3)

  admissible : (s.after ≡ true → learnt ≡ length accepted) → AreAdmissible (length accepted) s.lanes s.after (versions_of out)
  admissible first = record {
    at_most = all_mapped (λ (t : Tally). t.version) (λ v. v ≤ length accepted) out (λ k t h. (at_place k t h).2);
    never_fall = λ j k v w le residue hv hw.
        let q = mapped_at (λ (t : Tally). t.version) out j v hv in
        let t = mapped_at (λ (x : Tally). x.version) out k w hw in
        let fq = at_place j q.0 q.1 in
        let ft = at_place k t.0 t.1 in
        let before : q.0.batch ≤ t.0.batch = omega (arith, le, fq.0, ft.0) in
        let n = falls_not q.0 t.0 fq.1 ft.1 before (ap (λ x. x % s.lanes) fq.0 ∙ residue ∙ ap (λ x. x % s.lanes) (sym ft.0)) in
        omega (arith, n, q.2, t.2);
    all_at_end = λ is.
        let learnt_all = first is in
        all_mapped (λ (t : Tally). t.version) (λ v. v ≡ length accepted) out (λ k t h. let p = at_place k t h in omega (arith, p.2, p.3, learnt_all));
  }

  many : length (versions_of out) ≡ batches_in s.batch (length frames)
  many = length-map out (λ (t : Tally). t.version) ∙ o.in_order.len

  sums : (f : Figure) → sum_by (λ (t : Tally). counted t.counts f) out ≡ figure f (verdicts_from accepted s.port s.batch frames (versions_of out))
  sums f = sums_are accepted s.port s.batch f frames out (λ k t h.
      let p = at_place k t h in
      subst (λ (n : ℕ). AreCountsOf (verdicts_on (after (take t.version accepted)) s.port (batch_of s.batch n frames)) t.counts) p.0 p.4)

  pub of_ordered : (settled : Settled) → settled.versions.items ≡ versions_of out → ((f : Figure) → counted settled.counts f ≡ sum_by (λ (t : Tally). counted t.counts f) out)
      → (s.after ≡ true → learnt ≡ length accepted) → IsRun accepted s frames settled.versions.items settled.counts
  of_ordered settled versions sums_of first =
      let R : List ℕ → Type 0 = λ v. IsRun accepted s frames v settled.counts in
      subst R (sym versions) (record { many = many; admissible = admissible first; counts_are = record { figures = λ f. sums_of f ∙ sums f } })

  pub ordered_passes : (s.after ≡ true → learnt ≡ length accepted) → SumPasses (λ (t : Tally). t.counts) out → SomeRunPasses accepted s frames
  ordered_passes first p = record { versions = versions_of out; many = many; admissible = admissible first; passes = (p.0, subst (λ (n : ℕ). 2 ^ 64 ≤ n) (sums p.0) p.1) }

-- ---- one version for all batches

length-copies : (n version : ℕ) → length (copies n version) ≡ n
length-copies zero version = refl
length-copies (suc n) version = ap suc (length-copies n version)

copies_at : (n version k v : ℕ) → slice_get (copies n version) k ≡ Some v → v ≡ version
copies_at zero version k v h = absurd (let e : ⊥ = cc in e)
copies_at (suc n) version zero v h = let e : v ≡ version = cc in e
copies_at (suc n) version (suc k) v h = copies_at n version k v h

all_copies : (P : ℕ → Type 0) (n version : ℕ) → P version → (k d : ℕ) → k < length (copies n version) → P (get_or (copies n version) k d)
all_copies P zero version p k d lt = absurd (omega (arith, lt))
all_copies P (suc n) version p zero d lt = p
all_copies P (suc n) version p (suc k) d lt = all_copies P n version p k d (omega (arith, lt))

module _ (accepted : List Request) (s : RunSettings) (frames : List (List ℕ)) (learnt : ℕ) (ls : List Lane) (ds : List Done) (numbers : AreNumbered s.lanes learnt ls)
    (did : AllZip (Did s frames) ls ds) (first : s.after ≡ true → learnt ≡ length accepted) where
  -- where a lane's batch is full, so are all batches by its version
  lane_passes : SomeLaneIsFull accepted ds → SomeRunPasses accepted s frames
  lane_passes l =
      let z = zip_get (Did s frames) ls ds l.place l.done did l.at_place in
      let p = z.2.full l.is_full in
      let number = numbers l.place z.0 z.1 in
      let requests = p.passes.requests in
      let version = length requests in
      let begins : StartsWith accepted requests = starts_with_one accepted p.held requests (l.began p.held p.held_is) p.passes.is_held in
      let taken : take version accepted ≡ requests = first_so_many accepted requests begins in
      let at_most : version ≤ length accepted = longer accepted requests begins in
      let reached : length (learnt_by z.0) ≤ version = longer requests (learnt_by z.0) p.passes.begins_learnt in
      let n = batches_in s.batch (length frames) in
      let f = p.passes.passes.0 in
      let full : 2 ^ 64 ≤ figure f (verdicts_on (after (take version accepted)) s.port (batch_of s.batch p.batch frames)) =
      subst (λ (q : List Request). 2 ^ 64 ≤ figure f (verdicts_on (after q) s.port (batch_of s.batch p.batch frames))) (sym taken) p.passes.passes.1 in
      let more = one_of_all accepted s.port s.batch f version n p.batch frames p.inside in
      record {
        versions = copies n version;
        many = length-copies n version;
        admissible = record {
          at_most = all_copies (λ v. v ≤ length accepted) n version at_most;
          never_fall = λ j k v w le residue hv hw. let a = copies_at n version j v hv in let b = copies_at n version k w hw in omega (arith, a, b);
          all_at_end = λ is. all_copies (λ v. v ≡ length accepted) n version (let learnt_all = first is in let e : version ≡ length accepted = omega (arith, learnt_all, number.2, reached, at_most) in e);
        };
        passes = (f, omega (arith, full, more));
      }

  pub passes_of : SomeLaneIsFull accepted ds ⊎ AllAreFull accepted ds (batches_in s.batch (length frames)) → SomeRunPasses accepted s frames
  passes_of full = ⊎_elim lane_passes (λ (a : AllAreFull accepted ds (batches_in s.batch (length frames))). ordered_passes accepted s frames learnt ls ds numbers did a.out a.ordered first a.passes) full

  pub run_of : (settled : Settled) → IsSettled accepted ds (batches_in s.batch (length frames)) settled → IsRun accepted s frames settled.versions.items settled.counts
  run_of settled i = of_ordered accepted s frames learnt ls ds numbers did i.out i.ordered settled i.versions i.sums first

-- ---- lanes that were new

pub new_at : (ls : List Lane) (lanes : ℕ) (home : Home) → AreNew lanes home ls → (n : ℕ) (l : Lane) → slice_get ls n ≡ Some l → IsNew l n home × (n < lanes)
new_at ls lanes home new n l h =
    let lt : n < lanes = let w = slice_get_within ls n l h in omega (arith, w, new.0) in
    (subst (λ (o : Option Lane). IfSome o (λ x. IsNew x n home)) h (new.1 n lt), lt)

pub new_out : (ls : List Lane) (lanes : ℕ) (home : Home) → AreNew lanes home ls → All IsOut ls
new_out ls lanes home new = λ k d lt.
    let n = new_at ls lanes home new k (get_or ls k d) (slice_get-get_or ls k d lt) in ([], n.0.held)

pub new_numbers : (ls : List Lane) (lanes : ℕ) (home : Home) → AreNew lanes home ls → AreNumbered lanes 0 ls
new_numbers ls lanes home new n l h = let k = new_at ls lanes home new n l h in (k.0.number_is, k.1, omega arith)

pub new_home : (ls : List Lane) (lanes : ℕ) (home : Home) → AreNew lanes home ls → All (λ l. home ≡ home_of l) ls
new_home ls lanes home new = λ k d lt.
    sym (new_at ls lanes home new k (get_or ls k d) (slice_get-get_or ls k d lt)).0.home_is

pub done_home : (s : RunSettings) (frames : List (List ℕ)) (ls : List Lane) (ds : List Done) (home : Home) → All (λ l. home ≡ home_of l) ls → AllZip (Did s frames) ls ds
    → All (λ d. home ≡ home_of d.lane) ds
done_home s frames ls ds home homes did = λ k d lt.
    let z = zip_get (Did s frames) ls ds k (get_or ds k d) did (slice_get-get_or ds k d lt) in
    let w = slice_get_within ls k z.0 z.1 in
    let there : get_or ls k z.0 ≡ z.0 = let g = slice_get-get_or ls k z.0 w in cc (sym g ∙ z.1) in
    homes k z.0 w ∙ ap home_of there ∙ sym z.2.same.home_is
