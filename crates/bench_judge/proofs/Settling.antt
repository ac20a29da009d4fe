-- How a sweep goes on.
use Rattle.std.proofs.Common.{◌≡◌, ◌≢◌, ◌==◌, ◌<◌, ◌≤◌, ℕ, suc, ◌||◌, ◌&&◌, Bool, true, false, List, [], ◌∷◌, ◌++◌, ◌+◌, Option, Some, None, length, set, get_or, inl, inr, refl, sym, ap, ◌∙◌, subst, arith, eq-eqb, get_or-set_same, get_or-set_other, length-set}
use Rattle.std.specs.Prelude.{MatchBool, is_some, slice_get, slice_index, take}
use Rattle.std.proofs.lemmas.Bool.{cases_eq, ne_eqb}
use Rattle.std.proofs.lemmas.List.{take_more}
use Rattle.std.proofs.lemmas.Option.{slice_get_within}
use Rattle.omci_msg.specs.declared.request.Request.{Request}
use Rattle.mib_state.specs.After.{after, after_from}
use Rattle.mib_state.specs.Entities.{Entities, nothing}
use Rattle.mib_state.specs.Step.{left}
use Rattle.bench_history.specs.declared.event.Event.{Event}
use Rattle.bench_judge.specs.Frames.{AreWithin, Fits, MayHave}
use Rattle.bench_judge.specs.Sweep.{AreAhead, AreLeast, AreLinked, AreSettled, AreTried, AreWaiting, IsCovered, IsOneQueue, IsSlot, IsSoFar, NoneFit, has_end, is_ended, port_in}
use Rattle.bench_judge.specs.declared.frame.Frame.{Frame}
use Rattle.bench_judge.specs.declared.sweep.SweepState.{SweepState}

-- ---- frames by their numbers

-- an ended frame
record HasEnd (o : Option Frame) : Type 0 where
  frame : Frame
  at : o ≡ Some frame
  ended : is_some frame.ended ≡ true

end_of : (o : Option Frame) → is_ended o ≡ true → HasEnd o
end_of (Some frame) is = record { frame = frame; at = refl; ended = is }
end_of None is = absurd (cc)

pub within : (frames : List Frame) (n : ℕ) → has_end frames n ≡ true → n < length frames
within frames n is =
    let f = end_of (slice_get frames n) is in
    slice_get_within frames n f.frame f.at

pub has : (frames : List Frame) (n : ℕ) (frame : Frame) → slice_get frames n ≡ Some frame → is_some frame.ended ≡ true → has_end frames n ≡ true
has frames n frame at is = ap is_ended at ∙ is

pub one_self : (unordered : Bool) (frames : List Frame) (n : ℕ) → IsOneQueue unordered frames n n
one_self true frames n = refl
one_self false frames n = refl

pub one_sym : (unordered : Bool) (frames : List Frame) (m n : ℕ) → IsOneQueue unordered frames m n → IsOneQueue unordered frames n m
one_sym true frames m n one = sym one
one_sym false frames m n one = sym one

pub one_then : (unordered : Bool) (frames : List Frame) (k m n : ℕ) → IsOneQueue unordered frames k m → IsOneQueue unordered frames m n → IsOneQueue unordered frames k n
one_then true frames k m n one other = one ∙ other
one_then false frames k m n one other = one ∙ other

same_port : (o p : Option Frame) (one other : Frame) → o ≡ Some one → p ≡ Some other → port_in o ≡ port_in p → one.port ≡ other.port
same_port o p one other is are same = sym (ap port_in is) ∙ same ∙ ap port_in are

-- of two frames of a queue the one behind has no smaller version
not_before : {padded : Bool} (unordered : Bool) (events : List Event) (requests : List Request) (frames : List Frame) (other : ℕ → ℕ) → Fits padded unordered events requests frames other
    → (m n : ℕ) → has_end frames m ≡ true → has_end frames n ≡ true → IsOneQueue unordered frames m n → m ≤ n → other m ≤ other n
not_before true events requests frames other fits m n of_m of_n one le =
    let same : other m ≡ other n = ap other one in
    omega (arith, same)
not_before false events requests frames other fits m n of_m of_n one le =
    let f = end_of (slice_get frames m) of_m in
    let g = end_of (slice_get frames n) of_n in
    elim (cases_eq m n) [
      | inl e ↦ let same : other m ≡ other n = ap other e in omega (arith, same)
      | inr ne ↦
          fits.ordered refl m n f.frame g.frame f.at g.at f.ended g.ended (same_port (slice_get frames m) (slice_get frames n) f.frame g.frame f.at g.at one) (omega (arith, ne, le))
    ]

in_queue : (unordered : Bool) (frames : List Frame) (m n : ℕ) (one other : Frame) → unordered ≡ false → slice_get frames m ≡ Some one → slice_get frames n ≡ Some other
    → one.port ≡ other.port → IsOneQueue unordered frames m n
in_queue true frames m n one other order at_m at_n same = absurd (cc)
in_queue false frames m n one other order at_m at_n same = ap port_in at_m ∙ same ∙ sym (ap port_in at_n)

-- a version that a frame may have in a choice
may_in : {padded : Bool} (unordered : Bool) (events : List Event) (requests : List Request) (frames : List Frame) (other : ℕ → ℕ) → Fits padded unordered events requests frames other
    → (n : ℕ) (frame : Frame) → slice_get frames n ≡ Some frame → has_end frames n ≡ true → MayHave padded events requests frame (other n)
may_in unordered events requests frames other fits n frame at is = fits.each n frame at (sym (ap is_ended at) ∙ is)

-- ---- the head of a queue is given a version

module _ {padded : Bool} (unordered : Bool) (events : List Event) (requests : List Request) (frames : List Frame) (v slot : ℕ) (next waiting versions : List ℕ) (done : ℕ → Bool)
    (here : IsSlot frames waiting slot) (long : length versions ≡ length frames) (lead : AreAhead frames next) (linked : AreLinked unordered frames next)
    (waits : AreWaiting unordered frames waiting done) (settled : AreSettled padded unordered events requests frames v done versions) (tried : AreTried padded unordered events requests frames v slot waiting) where
  abbrev n : ℕ
  n = slice_index waiting slot

  abbrev x : ℕ
  x = slice_index next n

  abbrev waiting_now : List ℕ
  waiting_now = set waiting slot x

  abbrev versions_now : List ℕ
  versions_now = set versions n v

  abbrev pub done_now : ℕ → Bool
  done_now k = k == n || done k

  has_n : has_end frames n ≡ true
  has_n = waits.ended slot here

  not_yet : done n ≡ false
  not_yet = waits.ahead slot here

  later : n < x
  later = lead n here.some

  done_more : (k : ℕ) → done k ≡ true → done_now k ≡ true
  done_more k is =
      elim (k == n) as (λ b. (b || done k) ≡ true) [ true ↦ refl | false ↦ is ]

  done_here : (k : ℕ) → k ≡ n → done_now k ≡ true
  done_here k e = rw (eq-eqb k n e) refl

  done_other : (k : ℕ) → k ≢ n → done_now k ≡ done k
  done_other k ne = rw (ne_eqb k n ne) refl

  not_here : (k : ℕ) → done_now k ≡ false → k ≢ n
  not_here k is e = let is_so = done_here k e in absurd (cc)

  before : (k : ℕ) → k ≢ n → done_now k ≡ true → done k ≡ true
  before k ne is = sym (done_other k ne) ∙ is

  not_before_now : (k : ℕ) → done_now k ≡ false → done k ≡ false
  not_before_now k is = sym (done_other k (not_here k is)) ∙ is

  slot_now : (s : ℕ) → s ≡ slot → slice_index waiting_now s ≡ x
  slot_now s e = ap (slice_index waiting_now) e ∙ get_or-set_same waiting slot x 0 here.within

  slot_other : (s : ℕ) → s ≢ slot → slice_index waiting_now s ≡ slice_index waiting s
  slot_other s ne = get_or-set_other waiting slot s x 0 ne

  slot_before : (s : ℕ) → s ≢ slot → IsSlot frames waiting_now s → IsSlot frames waiting s
  slot_before s ne is = record {
    within = omega (arith, is.within, length-set waiting slot x);
    some = omega (arith, is.some, slot_other s ne);
  }

  next_some : (s : ℕ) → s ≡ slot → IsSlot frames waiting_now s → x < length frames
  next_some s e is = omega (arith, is.some, slot_now s e)

  version_now : (k : ℕ) → k ≡ n → slice_index versions_now k ≡ v
  version_now k e = ap (slice_index versions_now) e ∙ get_or-set_same versions n v 0 (omega (arith, here.some, long))

  version_other : (k : ℕ) → k ≢ n → slice_index versions_now k ≡ slice_index versions k
  version_other k ne = get_or-set_other versions n k v 0 ne

  -- no frame of another slot is in this queue
  alone : (s : ℕ) → s ≢ slot → IsSlot frames waiting s → IsOneQueue unordered frames (slice_index waiting s) n → ⊥
  alone s ne is one = waits.apart s slot ne is here one

  -- the frames before this one in its queue are done
  done_before : (m : ℕ) → has_end frames m ≡ true → IsOneQueue unordered frames m n → m < n → done m ≡ true
  done_before m of_m one lt = by (done m) refl
    where
      by : (b : Bool) → done m ≡ b → done m ≡ true
      by true is = is
      by false is =
          let c = waits.covered m of_m is in
          elim (cases_eq c.slot slot) [
            | inl e ↦ let same : slice_index waiting c.slot ≡ n = ap (slice_index waiting) e in absurd (omega (arith, c.head, lt, same))
            | inr ne ↦
                let some : slice_index waiting c.slot < length frames = omega (arith, c.head, lt, here.some) in
                absurd (alone c.slot ne (record { within = c.within; some = some }) (one_then unordered frames (slice_index waiting c.slot) m n c.one one))
          ]

  waiting_next : AreWaiting unordered frames waiting_now done_now
  waiting_next = record {
    ended = λ s is.
        elim (cases_eq s slot) [
          | inl e ↦ subst (λ (k : ℕ). has_end frames k ≡ true) (sym (slot_now s e)) (linked.ended n has_n (next_some s e is))
          | inr ne ↦ subst (λ (k : ℕ). has_end frames k ≡ true) (sym (slot_other s ne)) (waits.ended s (slot_before s ne is))
        ];
    ahead = λ s is.
        elim (cases_eq s slot) [
          | inl e ↦ subst (λ (k : ℕ). done_now k ≡ false) (sym (slot_now s e)) (x_ahead (next_some s e is))
          | inr ne ↦ subst (λ (k : ℕ). done_now k ≡ false) (sym (slot_other s ne)) (other_ahead s ne (slot_before s ne is))
        ];
    covered = covered_now;
    apart = λ s t ne of_s of_t one.
        elim (cases_eq s slot) [
          | inl e ↦
              let t_ne : t ≢ slot = (λ f. ne (e ∙ sym f)) in
              let to : IsOneQueue unordered frames x (slice_index waiting t) =
              subst (λ (k : ℕ). IsOneQueue unordered frames x k) (slot_other t t_ne) (subst (λ (k : ℕ). IsOneQueue unordered frames k (slice_index waiting_now t)) (slot_now s e) one) in
              let from = linked.one n has_n (next_some s e of_s) in
              alone t t_ne (slot_before t t_ne of_t) (one_sym unordered frames n (slice_index waiting t) (one_then unordered frames n x (slice_index waiting t) from to))
          | inr s_ne ↦
              elim (cases_eq t slot) [
                | inl f ↦
                    let to : IsOneQueue unordered frames (slice_index waiting s) x =
                    subst (λ (k : ℕ). IsOneQueue unordered frames (slice_index waiting s) k) (slot_now t f) (subst (λ (k : ℕ). IsOneQueue unordered frames k (slice_index waiting_now t)) (slot_other s s_ne) one) in
                    let from = one_sym unordered frames n x (linked.one n has_n (next_some t f of_t)) in
                    alone s s_ne (slot_before s s_ne of_s) (one_then unordered frames (slice_index waiting s) x n to from)
                | inr t_ne ↦
                    waits.apart s t ne (slot_before s s_ne of_s) (slot_before t t_ne of_t)
                    (subst (λ (k : ℕ). IsOneQueue unordered frames (slice_index waiting s) k) (slot_other t t_ne) (subst (λ (k : ℕ). IsOneQueue unordered frames k (slice_index waiting_now t)) (slot_other s s_ne) one))
              ]
        ];
  }
    where
      x_ahead : x < length frames → done_now x ≡ false
      x_ahead some = by (done x) refl
        where
          by : (b : Bool) → done x ≡ b → done_now x ≡ false
          by true is =
              let is_so = settled.front n x is has_n (linked.one n has_n some) later in
              let open_yet = not_yet in
              absurd (cc)
          by false is = done_other x (omega (arith, later)) ∙ is

      other_ahead : (s : ℕ) → s ≢ slot → IsSlot frames waiting s → done_now (slice_index waiting s) ≡ false
      other_ahead s ne is =
          let differs : slice_index waiting s ≢ n = (λ e. alone s ne is (subst (λ (k : ℕ). IsOneQueue unordered frames (slice_index waiting s) k) e (one_self unordered frames (slice_index waiting s)))) in
          done_other (slice_index waiting s) differs ∙ waits.ahead s is

      covered_now : (k : ℕ) → has_end frames k ≡ true → done_now k ≡ false → IsCovered unordered frames waiting_now k
      covered_now k of_k is =
          let c = waits.covered k of_k (not_before_now k is) in
          let ne = not_here k is in
          elim (cases_eq c.slot slot) [
            | inl e ↦
                let same : slice_index waiting c.slot ≡ n = ap (slice_index waiting) e in
                let one : IsOneQueue unordered frames n k = subst (λ (m : ℕ). IsOneQueue unordered frames m k) same c.one in
                let behind : n < k = omega (arith, c.head, same, ne) in
                let none : x ≤ k = linked.none_between n k has_n of_k one behind in
                let some : x < length frames = omega (arith, none, within frames k of_k) in
                let from = one_sym unordered frames n x (linked.one n has_n some) in
                record {
                  slot = slot;
                  within = omega (arith, here.within, length-set waiting slot x);
                  one = subst (λ (m : ℕ). IsOneQueue unordered frames m k) (sym (slot_now slot refl)) (one_then unordered frames x n k from one);
                  head = omega (arith, none, slot_now slot refl);
                }
            | inr other ↦
                record {
                  slot = c.slot;
                  within = omega (arith, c.within, length-set waiting slot x);
                  one = subst (λ (m : ℕ). IsOneQueue unordered frames m k) (sym (slot_other c.slot other)) c.one;
                  head = omega (arith, c.head, slot_other c.slot other);
                }
          ]

  tried_next : AreTried padded unordered events requests frames v slot waiting_now
  tried_next = record {
    above = λ other fits s is.
        elim (cases_eq s slot) [
          | inl e ↦
              let some = next_some s e is in
              let at_head = tried.above other fits slot here in
              let further = not_before unordered events requests frames other fits n x has_n (linked.ended n has_n some) (linked.one n has_n some) (omega (arith, later)) in
              subst (λ (k : ℕ). v ≤ other k) (sym (slot_now s e)) (omega (arith, at_head, further))
          | inr ne ↦ subst (λ (k : ℕ). v ≤ other k) (sym (slot_other s ne)) (tried.above other fits s (slot_before s ne is))
        ];
    behind = λ other fits s is lt.
        let ne : s ≢ slot = omega (arith, lt) in
        subst (λ (k : ℕ). suc v ≤ other k) (sym (slot_other s ne)) (tried.behind other fits s (slot_before s ne is) lt);
    room = λ s frame is lt at.
        let ne : s ≢ slot = omega (arith, lt) in
        tried.room s frame (slot_before s ne is) lt (ap (slice_get frames) (sym (slot_other s ne)) ∙ at);
  }

  module _ (may : (frame : Frame) → slice_get frames n ≡ Some frame → MayHave padded events requests frame v) where
    settled_next : AreSettled padded unordered events requests frames v done_now versions_now
    settled_next = record {
      ended = λ k is. elim (cases_eq k n) [
        | inl e ↦ subst (λ (m : ℕ). has_end frames m ≡ true) (sym e) has_n
        | inr ne ↦ settled.ended k (before k ne is)
      ];
      may = λ k frame is at. elim (cases_eq k n) [
        | inl e ↦ subst (λ (version : ℕ). MayHave padded events requests frame version) (sym (version_now k e)) (may frame (ap (slice_get frames) (sym e) ∙ at))
        | inr ne ↦ subst (λ (version : ℕ). MayHave padded events requests frame version) (sym (version_other k ne)) (settled.may k frame (before k ne is) at)
      ];
      so_far = λ k is. elim (cases_eq k n) [
        | inl e ↦ omega (arith, version_now k e)
        | inr ne ↦ omega (arith, version_other k ne, settled.so_far k (before k ne is))
      ];
      least = λ other fits k is. elim (cases_eq k n) [
        | inl e ↦
            let same : other k ≡ other n = ap other e in
            omega (arith, version_now k e, same, tried.above other fits slot here)
        | inr ne ↦ omega (arith, version_other k ne, settled.least other fits k (before k ne is))
      ];
      front = λ m k is of_m one lt. elim (cases_eq k n) [
        | inl e ↦ done_more m (done_before m of_m (subst (λ (j : ℕ). IsOneQueue unordered frames m j) e one) (omega (arith, lt, e)))
        | inr ne ↦ done_more m (settled.front m k (before k ne is) of_m one lt)
      ];
      ordered = ordered_now;
      none = λ k is. version_other k (not_here k is) ∙ settled.none k (not_before_now k is);
    }
      where
        ordered_now : (m k : ℕ) → done_now m ≡ true → done_now k ≡ true → IsOneQueue unordered frames m k → m < k → slice_index versions_now m ≤ slice_index versions_now k
        ordered_now m k is_m is_k one lt =
            elim (cases_eq k n) [
              | inl e ↦
                  let ne : m ≢ n = omega (arith, lt, e) in
                  omega (arith, version_now k e, version_other m ne, settled.so_far m (before m ne is_m))
              | inr ne ↦
                  elim (cases_eq m n) [
                    | inl f ↦
                        let is_so = settled.front n k (before k ne is_k) has_n (subst (λ (j : ℕ). IsOneQueue unordered frames j k) f one) (omega (arith, lt, f)) in
                        let open_yet = not_yet in
                        absurd (cc)
                    | inr m_ne ↦ omega (arith, version_other k ne, version_other m m_ne, settled.ordered m k (before m m_ne is_m) (before k ne is_k) one lt)
                  ]
            ]

-- a frame that may have the version is done, and the next of its queue comes to the head
pub settles : {padded : Bool} (unordered : Bool) (events : List Event) (requests : List Request) (frames : List Frame) (v slot : ℕ) (old new : SweepState)
    → IsSlot frames old.waiting.items slot → length old.versions.items ≡ length frames → AreAhead frames old.next.items
    → IsSoFar padded unordered events requests frames v slot old
    → ((frame : Frame) → slice_get frames (slice_index old.waiting.items slot) ≡ Some frame → MayHave padded events requests frame v)
    → new.next.items ≡ old.next.items
    → new.waiting.items ≡ set old.waiting.items slot (slice_index old.next.items (slice_index old.waiting.items slot))
    → new.versions.items ≡ set old.versions.items (slice_index old.waiting.items slot) v
    → IsSoFar padded unordered events requests frames v slot new
settles {padded} unordered events requests frames v slot old new here long lead is may next waiting versions =
    let done = done_now unordered events requests frames v slot old.next.items old.waiting.items old.versions.items is.done here long lead is.linked is.waiting is.settled is.tried in
    record {
      done = done;
      linked = subst (AreLinked unordered frames) (sym next) is.linked;
      waiting = subst (λ (w : List ℕ). AreWaiting unordered frames w done) (sym waiting) (waiting_next unordered events requests frames v slot old.next.items old.waiting.items old.versions.items is.done here long lead is.linked is.waiting is.settled is.tried);
      settled = subst (λ (w : List ℕ). AreSettled padded unordered events requests frames v done w) (sym versions) (settled_next unordered events requests frames v slot old.next.items old.waiting.items old.versions.items is.done here long lead is.linked is.waiting is.settled is.tried may);
      tried = subst (λ (w : List ℕ). AreTried padded unordered events requests frames v slot w) (sym waiting) (tried_next unordered events requests frames v slot old.next.items old.waiting.items old.versions.items is.done here long lead is.linked is.waiting is.settled is.tried);
    }

-- ---- the version was tried at a slot

-- no choice gives the head of a queue the version
pub not_this : {padded : Bool} (unordered : Bool) (events : List Event) (requests : List Request) (frames : List Frame) (v slot : ℕ) (waiting : List ℕ) (frame : Frame)
    → IsSlot frames waiting slot → has_end frames (slice_index waiting slot) ≡ true → AreTried padded unordered events requests frames v slot waiting
    → slice_get frames (slice_index waiting slot) ≡ Some frame → (MayHave padded events requests frame v → ⊥)
    → (other : ℕ → ℕ) → Fits padded unordered events requests frames other → suc v ≤ other (slice_index waiting slot)
not_this {padded} unordered events requests frames v slot waiting frame here is tried at may_not other fits =
    let n = slice_index waiting slot in
    let above = tried.above other fits slot here in
    let may = may_in unordered events requests frames other fits n frame at is in
    elim (cases_eq (other n) v) [
      | inl e ↦ absurd (may_not (subst (MayHave padded events requests frame) e may))
      | inr ne ↦ omega (arith, above, ne)
    ]

-- none fits where the window ends here
pub none_fits : {padded : Bool} (unordered : Bool) (events : List Event) (requests : List Request) (frames : List Frame) (v slot : ℕ) (sweep : SweepState) (frame : Frame)
    → IsSlot frames sweep.waiting.items slot → IsSoFar padded unordered events requests frames v slot sweep
    → slice_get frames (slice_index sweep.waiting.items slot) ≡ Some frame → (MayHave padded events requests frame v → ⊥) → frame.most ≤ v
    → NoneFit padded unordered events requests frames
none_fits unordered events requests frames v slot sweep frame here is at may_not over other fits =
    let n = slice_index sweep.waiting.items slot in
    let of_n = is.waiting.ended slot here in
    let more = not_this unordered events requests frames v slot sweep.waiting.items frame here of_n is.tried at may_not other fits in
    let may = may_in unordered events requests frames other fits n frame at of_n in
    omega (arith, more, may.most, over)

-- what is to be shown of the head of a slot's queue: the version isn't its own, and its window goes on
pub record IsPast (padded : Bool) (events : List Event) (requests : List Request) (frames : List Frame) (v slot : ℕ) (waiting : List ℕ) : Type 0 where
  pub may_not : (frame : Frame) → slice_get frames (slice_index waiting slot) ≡ Some frame → MayHave padded events requests frame v → ⊥
  pub room : (frame : Frame) → slice_get frames (slice_index waiting slot) ≡ Some frame → suc v ≤ frame.most

pub passes : {padded : Bool} (unordered : Bool) (events : List Event) (requests : List Request) (frames : List Frame) (v slot : ℕ) (sweep : SweepState)
    → IsSoFar padded unordered events requests frames v slot sweep → IsPast padded events requests frames v slot sweep.waiting.items
    → IsSoFar padded unordered events requests frames v (suc slot) sweep
passes unordered events requests frames v slot sweep is past = record {
  done = is.done;
  linked = is.linked;
  waiting = is.waiting;
  settled = is.settled;
  tried = record {
    above = is.tried.above;
    behind = λ other fits s of lt.
        elim (cases_eq s slot) [
          | inl e ↦
              let here : IsSlot frames sweep.waiting.items slot = subst (IsSlot frames sweep.waiting.items) e of in
              let of_n = is.waiting.ended slot here in
              let f = end_of (slice_get frames (slice_index sweep.waiting.items slot)) of_n in
              let more = not_this unordered events requests frames v slot sweep.waiting.items f.frame here of_n is.tried f.at (past.may_not f.frame f.at) other fits in
              subst (λ (k : ℕ). suc v ≤ other (slice_index sweep.waiting.items k)) (sym e) more
          | inr ne ↦ is.tried.behind other fits s of (omega (arith, lt, ne))
        ];
    room = λ s frame of lt at.
        elim (cases_eq s slot) [
          | inl e ↦ past.room frame (ap (λ (k : ℕ). slice_get frames (slice_index sweep.waiting.items k)) (sym e) ∙ at)
          | inr ne ↦ is.tried.room s frame of (omega (arith, lt, ne)) at
        ];
  };
}

-- ---- the next version

pub next_version : {padded : Bool} (unordered : Bool) (events : List Event) (requests : List Request) (frames : List Frame) (v : ℕ) (sweep : SweepState)
    → IsSoFar padded unordered events requests frames v (length sweep.waiting.items) sweep → IsSoFar padded unordered events requests frames (suc v) 0 sweep
next_version unordered events requests frames v sweep is = record {
  done = is.done;
  linked = is.linked;
  waiting = is.waiting;
  settled = record {
    ended = is.settled.ended;
    may = is.settled.may;
    so_far = λ n is_so. omega (arith, is.settled.so_far n is_so);
    least = is.settled.least;
    front = is.settled.front;
    ordered = is.settled.ordered;
    none = is.settled.none;
  };
  tried = record {
    above = λ other fits s of. is.tried.behind other fits s of of.within;
    behind = λ other fits s of lt. absurd (omega (arith, lt));
    room = λ s frame of lt at. absurd (omega (arith, lt));
  };
}

-- ---- the end

-- behind the last version nothing waits
pub all_done : {padded : Bool} (unordered : Bool) (events : List Event) (requests : List Request) (frames : List Frame) (sweep : SweepState)
    → IsSoFar padded unordered events requests frames (length requests) (length sweep.waiting.items) sweep → AreWithin requests frames → length sweep.versions.items ≡ length frames
    → AreLeast padded unordered events requests frames sweep.versions.items
all_done unordered events requests frames sweep is inside long = record {
  count = long;
  least = record {
    fits = record {
      each = λ n frame at ended. is.settled.may n frame (is_done n (has frames n frame at ended)) at;
      ordered = λ order m n one other at_m at_n of_m of_n port lt.
          is.settled.ordered m n (is_done m (has frames m one at_m of_m)) (is_done n (has frames n other at_n of_n))
          (in_queue unordered frames m n one other order at_m at_n port) lt;
    };
    least = λ other fits n frame at ended. is.settled.least other fits n (is_done n (has frames n frame at ended));
  };
  none = λ n frame at none. is.settled.none n (not_done n frame at none (is.done n) refl);
}
  where
    is_done : (n : ℕ) → has_end frames n ≡ true → is.done n ≡ true
    is_done n of_n = by (is.done n) refl
      where
        by : (b : Bool) → is.done n ≡ b → is.done n ≡ true
        by true is_so = is_so
        by false not_yet_done =
            let c = is.waiting.covered n of_n not_yet_done in
            let slot : IsSlot frames sweep.waiting.items c.slot = record { within = c.within; some = omega (arith, c.head, within frames n of_n) } in
            let f = end_of (slice_get frames (slice_index sweep.waiting.items c.slot)) (is.waiting.ended c.slot slot) in
            let room = is.tried.room c.slot f.frame slot c.within f.at in
            let most = inside (slice_index sweep.waiting.items c.slot) f.frame f.at in
            absurd (omega (arith, room, most))

    not_done : (n : ℕ) (frame : Frame) → slice_get frames n ≡ Some frame → is_some frame.ended ≡ false → (b : Bool) → is.done n ≡ b → is.done n ≡ false
    not_done n frame at none true is_so =
        let ended : is_some frame.ended ≡ true = sym (ap is_ended at) ∙ is.settled.ended n is_so in
        absurd (cc)
    not_done n frame at none false not_yet_done = not_yet_done

-- ---- requests

after_append : (e : Entities) (qs rs : List Request) → after_from e (qs ++ rs) ≡ after_from (after_from e qs) rs
after_append e [] rs = refl
after_append e (q ∷ qs) rs = after_append (left q.action e q) qs rs

-- the entities after one request more
pub after_more : (requests : List Request) (n : ℕ) (q : Request) (old new : Entities) → n < length requests → q ≡ get_or requests n q
    → old ≡ after (take n requests) → new ≡ left q.action old q → new ≡ after (take (n + 1) requests)
after_more requests n q old new inside is was now =
    now ∙ ap (λ (e : Entities). left q.action e q) was ∙ sym (after_append nothing (take n requests) (q ∷ []))
    ∙ ap (λ (request : Request). after (take n requests ++ request ∷ [])) is ∙ sym (ap after (take_more requests n q inside))

-- ---- queues that are tried one after the other

-- one more is settled where all before it are
pub both_settled : (all is_settled : Bool) (was now none : Type 0) → MatchBool all was none → (was → MatchBool is_settled now none) → MatchBool (all && is_settled) now none
both_settled true is_settled was now none is more = more is
both_settled false is_settled was now none is more = is
