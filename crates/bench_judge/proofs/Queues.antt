-- How queues of frames are built.
use Rattle.std.proofs.Common.{◌≡◌, ◌≢◌, ◌<◌, ◌≤◌, ℕ, zero, suc, ◌++◌, ◌||◌, Bool, true, false, List, [], ◌∷◌, Some, length, replicate, set, inl, inr, refl, sym, ap, ◌∙◌, subst, arith, get_or-set_same, get_or-set_other, length-append}
use Rattle.std.specs.Prelude.{is_some, nat_le, slice_get, slice_index}
use Rattle.std.proofs.lemmas.Bool.{cases_eq, cases_lt}
use Rattle.std.proofs.lemmas.Bool.Decides.{leb_tells}
use Rattle.std.proofs.lemmas.List.{get_or-replicate, get_or_append_left}
use Rattle.std.proofs.Math.Seq.{get_or-append_seam}
use Rattle.omci_msg.specs.declared.request.Request.{Request}
use Rattle.bench_history.specs.declared.event.Event.{Event}
use Rattle.bench_judge.specs.Sweep.{AreAhead, AreQueued, AreQueuedSoFar, AreTails, IsOneQueue, IsSoFar, has_end, port_at, port_in}
use Rattle.bench_judge.specs.declared.frame.Frame.{Frame}
use Rattle.bench_judge.specs.declared.sweep.SweepState.{SweepState}
use Rattle.bench_judge.proofs.Settling.{has, one_self, one_sym, one_then, within}

one_by_port : (unordered : Bool) (frames : List Frame) (m n : ℕ) → unordered ≡ false → port_at frames m ≡ port_at frames n → IsOneQueue unordered frames m n
one_by_port true frames m n order same = absurd (cc)
one_by_port false frames m n order same = same

port_by_one : (unordered : Bool) (frames : List Frame) (m n : ℕ) → IsOneQueue unordered frames m n → port_at frames m ≡ port_at frames n
port_by_one true frames m n one = ap (port_at frames) one
port_by_one false frames m n one = one

-- ---- nothing yet

pub no_tails : (frames : List Frame) → AreTails frames 0 (replicate 65536 (length frames))
no_tails frames = record {
  ended = λ p fits some. absurd (none p fits some);
  port = λ p fits some. absurd (none p fits some);
  below = λ p fits some. absurd (none p fits some);
  last = λ m lt of_m. absurd (omega (arith, lt));
  some = λ m lt of_m. absurd (omega (arith, lt));
}
  where
    none : (p : ℕ) → p < 65536 → slice_index (replicate 65536 (length frames)) p < length frames → ⊥
    none p fits some =
        let is : slice_index (replicate 65536 (length frames)) p ≡ length frames = get_or-replicate 65536 p (length frames) 0 fits in
        omega (arith, some, is)

pub no_queues : (unordered : Bool) (frames : List Frame) → AreQueued unordered frames 0 (replicate (length frames) (length frames)) []
no_queues unordered frames = record {
  ended = λ k lt of_k some. absurd (omega (arith, lt));
  one = λ k lt of_k some. absurd (omega (arith, lt));
  none_between = λ k m lt of_k of_m one before. absurd (omega (arith, lt));
  untouched = λ k from inside. omega (arith, get_or-replicate (length frames) k (length frames) 0 inside);
  heads = λ s lt. absurd (omega (arith, lt));
  heads_ended = λ s lt. absurd (omega (arith, lt));
  covered = λ k lt of_k. absurd (omega (arith, lt));
  apart = λ s t ne of_s of_t one. omega (arith, of_s);
}

pub ahead_of_all : (frames : List Frame) → AreAhead frames (replicate (length frames) (length frames))
ahead_of_all frames n inside = omega (arith, inside, get_or-replicate (length frames) n (length frames) 0 inside)

-- ---- one frame more

not_last : (frames : List Frame) (n m : ℕ) → has_end frames n ≡ false → has_end frames m ≡ true → m < suc n → m < n
not_last frames n m is_open of_m lt =
    elim (cases_eq m n) [
      | inl e ↦ let not_so : has_end frames m ≡ false = ap (has_end frames) e ∙ is_open in absurd (cc)
      | inr ne ↦ omega (arith, lt, ne)
    ]

-- one that is is_open
pub tails_same : (frames : List Frame) (n : ℕ) (tails : List ℕ) → has_end frames n ≡ false → AreTails frames n tails → AreTails frames (suc n) tails
tails_same frames n tails is_open is = record {
  ended = is.ended;
  port = is.port;
  below = λ p fits some. omega (arith, is.below p fits some);
  last = λ m lt of_m. is.last m (not_last frames n m is_open of_m lt) of_m;
  some = λ m lt of_m. omega (arith, is.some m (not_last frames n m is_open of_m lt) of_m);
}

pub queues_same : (unordered : Bool) (frames : List Frame) (n : ℕ) (next waiting : List ℕ) → has_end frames n ≡ false
    → AreQueued unordered frames n next waiting → AreQueued unordered frames (suc n) next waiting
queues_same unordered frames n next waiting is_open is = record {
  ended = λ k lt of_k. is.ended k (not_last frames n k is_open of_k lt) of_k;
  one = λ k lt of_k. is.one k (not_last frames n k is_open of_k lt) of_k;
  none_between = λ k m lt of_k of_m. is.none_between k m (not_last frames n m is_open of_m lt) of_k of_m;
  untouched = λ k from inside. is.untouched k (omega (arith, from)) inside;
  heads = λ s lt. omega (arith, is.heads s lt);
  heads_ended = is.heads_ended;
  covered = λ k lt of_k. is.covered k (not_last frames n k is_open of_k lt) of_k;
  apart = is.apart;
}

-- an ended one
module _ (frames : List Frame) (n port : ℕ) (tails : List ℕ) (of_n : has_end frames n ≡ true) (of_port : port_at frames n ≡ port)
    (all : length tails ≡ 65536) (fits : port < 65536) (is : AreTails frames n tails) where
  tail_here : (p : ℕ) → p ≡ port → slice_index (set tails port n) p ≡ n
  tail_here p e = ap (slice_index (set tails port n)) e ∙ get_or-set_same tails port n 0 (omega (arith, all, fits))

  tail_other : (p : ℕ) → p ≢ port → slice_index (set tails port n) p ≡ slice_index tails p
  tail_other p ne = get_or-set_other tails port p n 0 ne

  before_here : (m : ℕ) → port_at frames m ≢ port → m < suc n → m < n
  before_here m ne lt =
      elim (cases_eq m n) [
        | inl e ↦ absurd (ne (ap (port_at frames) e ∙ of_port))
        | inr other ↦ omega (arith, lt, other)
      ]

  pub tails_more : AreTails frames (suc n) (set tails port n)
  tails_more = record {
    ended = λ p within some. elim (cases_eq p port) [
      | inl e ↦ subst (λ (k : ℕ). has_end frames k ≡ true) (sym (tail_here p e)) of_n
      | inr ne ↦ subst (λ (k : ℕ). has_end frames k ≡ true) (sym (tail_other p ne)) (is.ended p within (omega (arith, some, tail_other p ne)))
    ];
    port = λ p within some. elim (cases_eq p port) [
      | inl e ↦ ap (port_at frames) (tail_here p e) ∙ of_port ∙ sym e
      | inr ne ↦ ap (port_at frames) (tail_other p ne) ∙ is.port p within (omega (arith, some, tail_other p ne))
    ];
    below = λ p within some. elim (cases_eq p port) [
      | inl e ↦ omega (arith, tail_here p e)
      | inr ne ↦ omega (arith, tail_other p ne, is.below p within (omega (arith, some, tail_other p ne)))
    ];
    last = λ m lt of_m. elim (cases_eq (port_at frames m) port) [
      | inl e ↦ omega (arith, tail_here (port_at frames m) e, lt)
      | inr ne ↦ omega (arith, tail_other (port_at frames m) ne, is.last m (before_here m ne lt) of_m)
    ];
    some = λ m lt of_m. elim (cases_eq (port_at frames m) port) [
      | inl e ↦ omega (arith, tail_here (port_at frames m) e)
      | inr ne ↦ omega (arith, tail_other (port_at frames m) ne, is.some m (before_here m ne lt) of_m)
    ];
  }

last_or_before : (k n : ℕ) → k < suc n → k ≢ n → k < n
last_or_before k n lt ne = omega (arith, lt, ne)

-- ... at the head of a queue of its own
pub heads_more : (unordered : Bool) (frames : List Frame) (n : ℕ) (next waiting : List ℕ) → has_end frames n ≡ true
    → ((m : ℕ) → m < n → has_end frames m ≡ true → IsOneQueue unordered frames m n → ⊥)
    → AreQueued unordered frames n next waiting → AreQueued unordered frames (suc n) next (waiting ++ n ∷ [])
heads_more unordered frames n next waiting of_n first is = record {
  ended = λ k lt of_k some. elim (cases_eq k n) [
    | inl e ↦ absurd (untouched k e some)
    | inr ne ↦ is.ended k (last_or_before k n lt ne) of_k some
  ];
  one = λ k lt of_k some. elim (cases_eq k n) [
    | inl e ↦ absurd (untouched k e some)
    | inr ne ↦ is.one k (last_or_before k n lt ne) of_k some
  ];
  none_between = λ k m lt of_k of_m one before. elim (cases_eq m n) [
    | inl e ↦ absurd (first k (omega (arith, before, e)) of_k (subst (IsOneQueue unordered frames k) e one))
    | inr ne ↦ is.none_between k m (last_or_before m n lt ne) of_k of_m one before
  ];
  untouched = λ k from inside. is.untouched k (omega (arith, from)) inside;
  heads = λ s lt. elim (cases_lt s (length waiting)) [
    | inl old ↦ omega (arith, kept s old, is.heads s old)
    | inr new ↦ omega (arith, added s (top s lt new))
  ];
  heads_ended = λ s lt. elim (cases_lt s (length waiting)) [
    | inl old ↦ subst (λ (k : ℕ). has_end frames k ≡ true) (sym (kept s old)) (is.heads_ended s old)
    | inr new ↦ subst (λ (k : ℕ). has_end frames k ≡ true) (sym (added s (top s lt new))) of_n
  ];
  covered = λ k lt of_k. elim (cases_eq k n) [
    | inl e ↦
        let same : slice_index more (length waiting) ≡ k = added (length waiting) refl ∙ sym e in
        record {
          slot = length waiting;
          within = omega (arith, longer);
          one = subst (λ (m : ℕ). IsOneQueue unordered frames m k) (sym same) (one_self unordered frames k);
          head = omega (arith, same);
        }
    | inr ne ↦
        let c = is.covered k (last_or_before k n lt ne) of_k in
        record {
          slot = c.slot;
          within = omega (arith, c.within, longer);
          one = subst (λ (m : ℕ). IsOneQueue unordered frames m k) (sym (kept c.slot c.within)) c.one;
          head = omega (arith, c.head, kept c.slot c.within);
        }
  ];
  apart = λ s t ne of_s of_t one. elim (cases_lt s (length waiting)) [
    | inl s_old ↦ elim (cases_lt t (length waiting)) [
      | inl t_old ↦ is.apart s t ne s_old t_old (both s t (slice_index waiting s) (slice_index waiting t) (kept s s_old) (kept t t_old) one)
      | inr t_new ↦ first (slice_index waiting s) (is.heads s s_old) (is.heads_ended s s_old) (both s t (slice_index waiting s) n (kept s s_old) (added t (top t of_t t_new)) one)
    ]
    | inr s_new ↦ elim (cases_lt t (length waiting)) [
      | inl t_old ↦
          first (slice_index waiting t) (is.heads t t_old) (is.heads_ended t t_old)
          (one_sym unordered frames n (slice_index waiting t) (both s t n (slice_index waiting t) (added s (top s of_s s_new)) (kept t t_old) one))
      | inr t_new ↦ ne (top s of_s s_new ∙ sym (top t of_t t_new))
    ]
  ];
}
  where
    more : List ℕ
    more = waiting ++ n ∷ []

    longer : length (waiting ++ n ∷ []) ≡ suc (length waiting)
    longer = omega (arith, length-append waiting (n ∷ []))

    kept : (s : ℕ) → s < length waiting → slice_index (waiting ++ n ∷ []) s ≡ slice_index waiting s
    kept s lt = get_or_append_left waiting (n ∷ []) 0 s lt

    added : (s : ℕ) → s ≡ length waiting → slice_index (waiting ++ n ∷ []) s ≡ n
    added s e = ap (slice_index (waiting ++ n ∷ [])) e ∙ get_or-append_seam waiting n [] 0

    top : (s : ℕ) → s < length (waiting ++ n ∷ []) → length waiting ≤ s → s ≡ length waiting
    top s lt from = omega (arith, lt, from, longer)

    untouched : (k : ℕ) → k ≡ n → slice_index next k < length frames → ⊥
    untouched k e some =
        let far = is.untouched k (omega (arith, e)) (omega (arith, e, within frames n of_n)) in
        omega (arith, far, some)

    both : (s t k m : ℕ) → slice_index (waiting ++ n ∷ []) s ≡ k → slice_index (waiting ++ n ∷ []) t ≡ m
        → IsOneQueue unordered frames (slice_index (waiting ++ n ∷ []) s) (slice_index (waiting ++ n ∷ []) t) → IsOneQueue unordered frames k m
    both s t k m is_s is_t one = subst (IsOneQueue unordered frames k) is_t (subst (λ (j : ℕ). IsOneQueue unordered frames j (slice_index (waiting ++ n ∷ []) t)) is_s one)

-- ... behind the last one of its port
module _ (unordered : Bool) (frames : List Frame) (n tail : ℕ) (next waiting : List ℕ) (links : length next ≡ length frames) (of_n : has_end frames n ≡ true)
    (of_tail : has_end frames tail ≡ true) (one_tail : IsOneQueue unordered frames tail n) (below : tail < n)
    (last : (m : ℕ) → m < n → has_end frames m ≡ true → IsOneQueue unordered frames m n → m ≤ tail) (is : AreQueued unordered frames n next waiting) where
  next_here : (k : ℕ) → k ≡ tail → slice_index (set next tail n) k ≡ n
  next_here k e = ap (slice_index (set next tail n)) e ∙ get_or-set_same next tail n 0 (omega (arith, links, within frames tail of_tail))

  next_other : (k : ℕ) → k ≢ tail → slice_index (set next tail n) k ≡ slice_index next k
  next_other k ne = get_or-set_other next tail k n 0 ne

  no_link : (k : ℕ) → k ≡ n → k ≢ tail → slice_index (set next tail n) k < length frames → ⊥
  no_link k e ne some =
      let far = is.untouched k (omega (arith, e)) (omega (arith, e, within frames n of_n)) in
      omega (arith, far, some, next_other k ne)

  pub links_more : AreQueued unordered frames (suc n) (set next tail n) waiting
  links_more = record {
    ended = λ k lt of_k some. elim (cases_eq k tail) [
      | inl e ↦ subst (λ (j : ℕ). has_end frames j ≡ true) (sym (next_here k e)) of_n
      | inr ne ↦ elim (cases_eq k n) [
        | inl f ↦ absurd (no_link k f ne some)
        | inr other ↦
            subst (λ (j : ℕ). has_end frames j ≡ true) (sym (next_other k ne)) (is.ended k (last_or_before k n lt other) of_k (omega (arith, some, next_other k ne)))
      ]
    ];
    one = λ k lt of_k some. elim (cases_eq k tail) [
      | inl e ↦ subst (IsOneQueue unordered frames k) (sym (next_here k e)) (subst (λ (j : ℕ). IsOneQueue unordered frames j n) (sym e) one_tail)
      | inr ne ↦ elim (cases_eq k n) [
        | inl f ↦ absurd (no_link k f ne some)
        | inr other ↦ subst (IsOneQueue unordered frames k) (sym (next_other k ne)) (is.one k (last_or_before k n lt other) of_k (omega (arith, some, next_other k ne)))
      ]
    ];
    none_between = between;
    untouched = λ k from inside.
        let ne : k ≢ tail = omega (arith, from, below) in
        omega (arith, next_other k ne, is.untouched k (omega (arith, from)) inside);
    heads = λ s lt. omega (arith, is.heads s lt);
    heads_ended = is.heads_ended;
    covered = λ k lt of_k. elim (cases_eq k n) [
      | inl e ↦
          let c = is.covered tail below of_tail in
          record {
            slot = c.slot;
            within = c.within;
            one = subst (IsOneQueue unordered frames (slice_index waiting c.slot)) (sym e) (one_then unordered frames (slice_index waiting c.slot) tail n c.one one_tail);
            head = omega (arith, c.head, below, e);
          }
      | inr ne ↦ is.covered k (last_or_before k n lt ne) of_k
    ];
    apart = is.apart;
  }
    where
      between : (k m : ℕ) → m < suc n → has_end frames k ≡ true → has_end frames m ≡ true → IsOneQueue unordered frames k m → k < m → slice_index (set next tail n) k ≤ m
      between k m lt of_k of_m one before =
          elim (cases_eq k tail) [
            | inl e ↦ elim (cases_eq m n) [
              | inl f ↦ omega (arith, next_here k e, f)
              | inr other ↦
                  let of_tail_too : IsOneQueue unordered frames m n =
                  one_then unordered frames m tail n (one_sym unordered frames tail m (subst (λ (j : ℕ). IsOneQueue unordered frames j m) e one)) one_tail in
                  absurd (omega (arith, last m (last_or_before m n lt other) of_m of_tail_too, before, e))
            ]
            | inr ne ↦ elim (cases_eq m n) [
              | inl f ↦
                  let to : IsOneQueue unordered frames k n = subst (IsOneQueue unordered frames k) f one in
                  let le = last k (omega (arith, before, f)) of_k to in
                  let from = is.none_between k tail below of_k of_tail (one_then unordered frames k n tail to (one_sym unordered frames tail n one_tail)) (omega (arith, le, ne)) in
                  omega (arith, next_other k ne, from, below, f)
              | inr other ↦ omega (arith, next_other k ne, is.none_between k m (last_or_before m n lt other) of_k of_m one before)
            ]
          ]

-- ---- what tells where a frame goes

-- the first of a queue
pub first_of_queue : (unordered : Bool) (frames : List Frame) (n port : ℕ) (tails : List ℕ) → port_at frames n ≡ port → (unordered ≡ false → n ≤ slice_index tails port)
    → AreTails frames n tails → (m : ℕ) → m < n → has_end frames m ≡ true → IsOneQueue unordered frames m n → ⊥
first_of_queue true frames n port tails of_port none is m lt of_m one = omega (arith, lt, one)
first_of_queue false frames n port tails of_port none is m lt of_m one =
    let same : port_at frames m ≡ port = one ∙ of_port in
    let last : slice_index tails (port_at frames m) ≡ slice_index tails port = ap (slice_index tails) same in
    omega (arith, is.some m lt of_m, last, none refl)

-- the last of a port is the last of a queue
pub last_of_queue : (unordered : Bool) (frames : List Frame) (n port : ℕ) (tails : List ℕ) → port_at frames n ≡ port → AreTails frames n tails
    → (m : ℕ) → m < n → has_end frames m ≡ true → IsOneQueue unordered frames m n → m ≤ slice_index tails port
last_of_queue unordered frames n port tails of_port is m lt of_m one =
    let same : port_at frames m ≡ port = port_by_one unordered frames m n one ∙ of_port in
    let last : slice_index tails (port_at frames m) ≡ slice_index tails port = ap (slice_index tails) same in
    omega (arith, is.last m lt of_m, last)

-- ---- all frames

pub begins : {padded : Bool} (unordered : Bool) (events : List Event) (requests : List Request) (frames : List Frame) (sweep : SweepState)
    → AreQueued unordered frames (length frames) sweep.next.items sweep.waiting.items → sweep.versions.items ≡ replicate (length frames) 0
    → IsSoFar padded unordered events requests frames 0 0 sweep
begins unordered events requests frames sweep is zeros = record {
  done = λ n. false;
  linked = record {
    ended = λ n of_n. is.ended n (within frames n of_n) of_n;
    one = λ n of_n. is.one n (within frames n of_n) of_n;
    none_between = λ m n of_m of_n. is.none_between m n (within frames n of_n) of_m of_n;
  };
  waiting = record {
    ended = λ s of. is.heads_ended s of.within;
    ahead = λ s of. refl;
    covered = λ n of_n is_open. is.covered n (within frames n of_n) of_n;
    apart = λ s t ne of_s of_t. is.apart s t ne of_s.within of_t.within;
  };
  settled = record {
    ended = λ n is_so. absurd (cc);
    may = λ n frame is_so at. absurd (cc);
    so_far = λ n is_so. absurd (cc);
    least = λ other fits n is_so. absurd (cc);
    front = λ m n is_so of_m one lt. absurd (cc);
    ordered = λ m n is_so also one lt. absurd (cc);
    none = λ n is_open. ap (λ (versions : List ℕ). slice_index versions n) zeros ∙ zero_at (length frames) n;
  };
  tried = record {
    above = λ other fits s of. omega arith;
    behind = λ other fits s of lt. absurd (omega (arith, lt));
    room = λ s frame of lt at. absurd (omega (arith, lt));
  };
}
  where
    zero_at : (k n : ℕ) → slice_index (replicate k 0) n ≡ 0
    zero_at zero n = refl
    zero_at (suc k) zero = refl
    zero_at (suc k) (suc n) = zero_at k n

-- ---- one frame more, with the last of each port

-- what tells whether a frame begins a queue
abbrev pub begins_queue : Bool → ℕ → ℕ → Bool
begins_queue unordered tail n = unordered || nat_le n tail

begins_if : (unordered : Bool) (tail n : ℕ) → begins_queue unordered tail n ≡ true → unordered ≡ false → n ≤ tail
begins_if true tail n begun order = absurd (cc)
begins_if false tail n begun order =
    elim (leb_tells n tail) [
      | inl at_most ↦ at_most.1
      | inr over ↦ let not_so = over.0 in absurd (cc)
    ]

record Follows (unordered : Bool) (tail n : ℕ) : Type 0 where
  order : unordered ≡ false
  below : tail < n

follows_if : (unordered : Bool) (tail n : ℕ) → begins_queue unordered tail n ≡ false → Follows unordered tail n
follows_if true tail n behind = absurd (cc)
follows_if false tail n behind = record {
  order = refl;
  below =
      elim (leb_tells n tail) [
        | inl at_most ↦ let not_so = at_most.0 in absurd (cc)
        | inr over ↦ over.1
      ];
}

module _ (unordered : Bool) (frames : List Frame) (n port : ℕ) (tails : List ℕ) (old new : SweepState) (frame : Frame) (at : slice_get frames n ≡ Some frame)
    (ended : is_some frame.ended ≡ true) (of_port : frame.port ≡ port) (all : length tails ≡ 65536) (fits : port < 65536) (links : length old.next.items ≡ length frames)
    (is : AreQueuedSoFar unordered frames n tails old) where
  of_n : has_end frames n ≡ true
  of_n = has frames n frame at ended

  port_is : port_at frames n ≡ port
  port_is = ap port_in at ∙ of_port

  pub so_far_at_head : begins_queue unordered (slice_index tails port) n ≡ true → new.next.items ≡ old.next.items → new.waiting.items ≡ old.waiting.items ++ n ∷ []
      → AreQueuedSoFar unordered frames (suc n) (set tails port n) new
  so_far_at_head begun next waiting = record {
    of_ports = tails_more frames n port tails of_n port_is all fits is.of_ports;
    queued =
        subst (λ (l : List ℕ). AreQueued unordered frames (suc n) l new.waiting.items) (sym next)
        (subst (AreQueued unordered frames (suc n) old.next.items) (sym waiting)
        (heads_more unordered frames n old.next.items old.waiting.items of_n
        (first_of_queue unordered frames n port tails port_is (begins_if unordered (slice_index tails port) n begun) is.of_ports) is.queued));
    ahead = subst (AreAhead frames) (sym next) is.ahead;
  }

  pub so_far_behind : begins_queue unordered (slice_index tails port) n ≡ false → new.next.items ≡ set old.next.items (slice_index tails port) n → new.waiting.items ≡ old.waiting.items
      → AreQueuedSoFar unordered frames (suc n) (set tails port n) new
  so_far_behind begun next waiting =
      let tail = slice_index tails port in
      let how = follows_if unordered tail n begun in
      let some : tail < length frames = omega (arith, how.below, within frames n of_n) in
      let of_tail = is.of_ports.ended port fits some in
      let tail_port = is.of_ports.port port fits some in
      record {
        of_ports = tails_more frames n port tails of_n port_is all fits is.of_ports;
        queued =
            subst (λ (l : List ℕ). AreQueued unordered frames (suc n) l new.waiting.items) (sym next)
            (subst (AreQueued unordered frames (suc n) (set old.next.items tail n)) (sym waiting)
            (links_more unordered frames n tail old.next.items old.waiting.items links of_n of_tail
            (one_by_port unordered frames tail n how.order (tail_port ∙ sym port_is)) how.below
            (last_of_queue unordered frames n port tails port_is is.of_ports) is.queued));
        ahead = subst (AreAhead frames) (sym next) (λ k inside. elim (cases_eq k tail) [
          | inl e ↦ omega (
            arith,
            e,
            how.below,
            next_here unordered frames n tail old.next.items old.waiting.items links of_n of_tail
                (one_by_port unordered frames tail n how.order (tail_port ∙ sym port_is)) how.below
                (last_of_queue unordered frames n port tails port_is is.of_ports) is.queued k e,
          )
          | inr ne ↦ omega (arith, is.ahead k inside, get_or-set_other old.next.items tail k n 0 ne)
        ]);
      }

-- an open one
pub so_far_same : (unordered : Bool) (frames : List Frame) (n : ℕ) (tails : List ℕ) (sweep : SweepState) → has_end frames n ≡ false
    → AreQueuedSoFar unordered frames n tails sweep → AreQueuedSoFar unordered frames (suc n) tails sweep
so_far_same unordered frames n tails sweep is_open is = record {
  of_ports = tails_same frames n tails is_open is.of_ports;
  queued = queues_same unordered frames n sweep.next.items sweep.waiting.items is_open is.queued;
  ahead = is.ahead;
}

-- nothing yet
pub so_far_none : (unordered : Bool) (frames : List Frame) (tails : List ℕ) (sweep : SweepState) → tails ≡ replicate 65536 (length frames)
    → sweep.next.items ≡ replicate (length frames) (length frames) → sweep.waiting.items ≡ [] → AreQueuedSoFar unordered frames 0 tails sweep
so_far_none unordered frames tails sweep at_ports next waiting = record {
  of_ports = subst (AreTails frames 0) (sym at_ports) (no_tails frames);
  queued =
      subst (λ (l : List ℕ). AreQueued unordered frames 0 l sweep.waiting.items) (sym next)
      (subst (AreQueued unordered frames 0 (replicate (length frames) (length frames))) (sym waiting) (no_queues unordered frames));
  ahead = subst (AreAhead frames) (sym next) (ahead_of_all frames);
}
