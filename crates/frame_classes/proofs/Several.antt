-- As many different values as are wanted, one more at a time.
use Rattle.std.proofs.Common.{◌≡◌, ◌≢◌, ℕ, ◌+◌, ◌-◌, ◌*◌, ◌%◌, ◌^◌, ◌<◌, ◌≤◌, ◌==◌, Bool, true, false, if◌then◌else◌, List, [], ◌∷◌, ◌++◌, min, arith, refl, ap, sym, subst, length, length-append, nat_lt, ◌⊎◌, inl, inr, ◌∙◌}
use Rattle.std.specs.Prelude.{All, Contains}
use Rattle.std.proofs.lemmas.Bool.{eqb-false, eqb-true, ltb-false, ltb-true, true≢false}
use Rattle.std.proofs.lemmas.List.Elements.{All-cons, All-head, All-nil, All-push, All-tail, Contains-append_left, Contains-push}
use Rattle.std.proofs.Math.Nat.{add-mul-mod_self_right, mod-eq_of_lt}
use Rattle.frame_classes.specs.Splitting.{HasSeveral}

-- ---- several values

pub several_none : (P : ℕ → Type 0) → HasSeveral 0 P
several_none P avoided few = absurd (omega arith)

pub several_weaker : (n : ℕ) (P Q : ℕ → Type 0) → ((c : ℕ) → P c → Q c) → HasSeveral n P → HasSeveral n Q
several_weaker n P Q weaker several avoided few =
    let found = several avoided few in
    (found.0, (weaker found.0 found.1.0, found.1.1))

pub several_fewer : (n m : ℕ) (P : ℕ → Type 0) → m ≤ n → HasSeveral n P → HasSeveral m P
several_fewer n m P fewer several avoided few = several avoided (omega arith)

-- a value is none of some, or without it they are fewer
record IsWithout (x : ℕ) (xs : List ℕ) : Type 0 where
  pub rest : List ℕ
  pub fewer : length rest < length xs
  pub others : (c : ℕ) → c ≢ x → All (λ other. c ≢ other) rest → All (λ other. c ≢ other) xs

without : (x : ℕ) (xs : List ℕ) → All (λ other. x ≢ other) xs ⊎ IsWithout x xs
without x [] = inl (All-nil (λ other. x ≢ other))
without x (first ∷ xs) = by_first (x == first) refl (without x xs)
  where
    by_first : (b : Bool) → (x == first) ≡ b → All (λ other. x ≢ other) xs ⊎ IsWithout x xs → All (λ other. x ≢ other) (first ∷ xs) ⊎ IsWithout x (first ∷ xs)
    by_first true is found =
        let same : x ≡ first = eqb-true x first is in
        inr (record {
          rest = xs;
          fewer = omega arith;
          others = λ c apart none. All-cons (λ other. c ≢ other) first xs (subst (λ (n : ℕ). c ≢ n) same apart) none;
        })
    by_first false is (inl none) = inl (All-cons (λ other. x ≢ other) first xs (eqb-false x first is) none)
    by_first false is (inr less) =
        let fewer = less.fewer in
        inr (record {
          rest = first ∷ less.rest;
          fewer = omega arith;
          others = λ c apart none.
              All-cons (λ other. c ≢ other) first xs (All-head (λ other. c ≢ other) first less.rest none)
              (less.others c apart (All-tail (λ other. c ≢ other) first less.rest none));
        })

-- one more that is new
pub several_more : (n : ℕ) (P Q : ℕ → Type 0) (x : ℕ) → HasSeveral n P → ((c : ℕ) → P c → c ≢ x) → ((c : ℕ) → P c → Q c) → Q x → HasSeveral (n + 1) Q
several_more n P Q x several new weaker here avoided few = by_case (without x avoided)
  where
    by_case : All (λ other. x ≢ other) avoided ⊎ IsWithout x avoided → (c : ℕ) × (Q c × All (λ other. c ≢ other) avoided)
    by_case (inl none) = (x, (here, none))
    by_case (inr less) =
        let fewer = less.fewer in
        let found = several less.rest (omega arith) in
        (found.0, (weaker found.0 found.1.0, less.others found.0 (new found.0 found.1.0) found.1.1))

-- ---- values that are tried in turn

-- of those that were tried, each that isn't named stands behind those that were there
pub record AreTried (tried : ℕ → ℕ) (named : ℕ → Bool) (before after : List ℕ) (count : ℕ) : Type 0 where
  pub kept : (c : ℕ) → Contains before c → Contains after c
  pub longer : length before ≤ length after
  pub each : (k : ℕ) → k < count → named (tried k) ≡ false → Contains after (tried k)
  pub several : HasSeveral (length after - length before)
      (λ c. Contains after c × ((named c ≡ false) × ((k : ℕ) × ((k < count) × (tried k ≡ c)))))

pub none_tried : (tried : ℕ → ℕ) (named : ℕ → Bool) (before : List ℕ) → AreTried tried named before before 0
none_tried tried named before =
    record {
      kept = λ c h. h;
      longer = omega arith;
      each = λ k h. absurd (omega arith);
      several = several_fewer 0 (length before - length before) (λ c. Contains before c × ((named c ≡ false) × ((k : ℕ) × ((k < 0) × (tried k ≡ c)))))
          (omega arith) (several_none (λ c. Contains before c × ((named c ≡ false) × ((k : ℕ) × ((k < 0) × (tried k ≡ c))))));
    }

-- one more, which none before was
pub one_tried : (tried : ℕ → ℕ) (named : ℕ → Bool) (before after more : List ℕ) (count : ℕ)
    → ((k : ℕ) → k < count → tried k ≢ tried count)
    → more ≡ (if named (tried count) then after else after ++ tried count ∷ []) → AreTried tried named before after count
    → AreTried tried named before more (count + 1)
one_tried tried named before after more count apart is so_far = by_name (named (tried count)) refl
  where
    Good : List ℕ → ℕ → ℕ → Type 0
    Good choices count c = Contains choices c × ((named c ≡ false) × ((k : ℕ) × ((k < count) × (tried k ≡ c))))

    later : (choices : List ℕ) → ((c : ℕ) → Contains after c → Contains choices c) → (c : ℕ) → Good after count c → Good choices (count + 1) c
    later choices kept c (there, (free, (k, (less, at)))) = (kept c there, (free, (k, (omega arith, at))))

    by_name : (b : Bool) → named (tried count) ≡ b → AreTried tried named before more (count + 1)
    by_name true named_here =
        subst (λ (cs : List ℕ). AreTried tried named before cs (count + 1)) (sym (rw named_here at is)) (record {
          kept = so_far.kept;
          longer = so_far.longer;
          each = each;
          several = several_weaker (length after - length before) (Good after count) (Good after (count + 1)) (later after (λ c h. h)) so_far.several;
        })
      where
        each : (k : ℕ) → k < count + 1 → named (tried k) ≡ false → Contains after (tried k)
        each k h free = by_place (nat_lt k count) refl
          where
            by_place : (b : Bool) → nat_lt k count ≡ b → Contains after (tried k)
            by_place true less = so_far.each k (ltb-true k count less) free
            by_place false past =
                let all : count ≤ k = ltb-false k count past in
                let same : k ≡ count = omega arith in
                absurd (true≢false (sym named_here ∙ subst (λ (n : ℕ). named (tried n) ≡ false) same free))
    by_name false free_here =
        let longer = so_far.longer in
        let all = length-append after (tried count ∷ []) in
        subst (λ (cs : List ℕ). AreTried tried named before cs (count + 1)) (sym (rw free_here at is)) (record {
          kept = λ c h. kept c (so_far.kept c h);
          longer = omega (arith, all);
          each = each;
          several = several_fewer (length after - length before + 1) (length (after ++ tried count ∷ []) - length before) (Good (after ++ tried count ∷ []) (count + 1))
              (omega (arith, all, longer))
              (several_more (length after - length before) (Good after count) (Good (after ++ tried count ∷ []) (count + 1)) (tried count) so_far.several
              new (later (after ++ tried count ∷ []) kept)
              (Contains-push after (tried count), (free_here, (count, (omega arith, refl)))));
        })
      where
        kept : (c : ℕ) → Contains after c → Contains (after ++ tried count ∷ []) c
        kept c h = Contains-append_left after (tried count ∷ []) c h

        new : (c : ℕ) → Good after count c → c ≢ tried count
        new c (there, (free, (k, (less, at)))) same = apart k less (at ∙ same)

        each : (k : ℕ) → k < count + 1 → named (tried k) ≡ false → Contains (after ++ tried count ∷ []) (tried k)
        each k h free = by_place (nat_lt k count) refl
          where
            by_place : (b : Bool) → nat_lt k count ≡ b → Contains (after ++ tried count ∷ []) (tried k)
            by_place true less = kept (tried k) (so_far.each k (ltb-true k count less) free)
            by_place false past =
                let all : count ≤ k = ltb-false k count past in
                let same : count ≡ k = omega arith in
                subst (λ (n : ℕ). Contains (after ++ tried count ∷ []) (tried n)) same (Contains-push after (tried count))

-- ---- numbers under an end, from one on

turned_under : (end plain n : ℕ) → plain + n < end → (plain + n) % end ≡ plain + n
turned_under end plain n h = mod-eq_of_lt h

turned_over : (end plain n : ℕ) → end ≤ plain + n → plain + n < end + end → (plain + n) % end ≡ plain + n - end
turned_over end plain n past small =
    let parts : plain + n ≡ (plain + n - end) + 1 * end = omega arith in
    ap (λ (x : ℕ). x % end) parts ∙ add-mul-mod_self_right (plain + n - end) 1 end ∙ mod-eq_of_lt (omega arith)

-- they are different
pub turned_apart : (end plain k n : ℕ) → plain < end → k < n → n < end → (plain + k) % end ≢ (plain + n) % end
turned_apart end plain k n small less within same = by_case (nat_lt (plain + k) end) (nat_lt (plain + n) end) refl refl
  where
    by_case : (a b : Bool) → nat_lt (plain + k) end ≡ a → nat_lt (plain + n) end ≡ b → ⊥
    by_case true true p q =
        let one = turned_under end plain k (ltb-true (plain + k) end p) in
        let two = turned_under end plain n (ltb-true (plain + n) end q) in
        let equal : plain + k ≡ plain + n = sym one ∙ same ∙ two in
        absurd (omega arith)
    by_case true false p q =
        let past : end ≤ plain + n = ltb-false (plain + n) end q in
        let one = turned_under end plain k (ltb-true (plain + k) end p) in
        let two = turned_over end plain n past (omega arith) in
        let equal : plain + k ≡ plain + n - end = sym one ∙ same ∙ two in
        absurd (omega arith)
    by_case false true p q =
        let past : end ≤ plain + k = ltb-false (plain + k) end p in
        let under : plain + n < end = ltb-true (plain + n) end q in
        absurd (omega arith)
    by_case false false p q =
        let past : end ≤ plain + k = ltb-false (plain + k) end p in
        let past_n : end ≤ plain + n = ltb-false (plain + n) end q in
        let one = turned_over end plain k past (omega arith) in
        let two = turned_over end plain n past_n (omega arith) in
        let equal : plain + k - end ≡ plain + n - end = sym one ∙ same ∙ two in
        absurd (omega arith)

-- and each is one of them
pub turned_each : (end plain v : ℕ) → plain < end → v < end → (k : ℕ) × ((k < end) × ((plain + k) % end ≡ v))
turned_each end plain v small within = by_case (nat_lt v plain) refl
  where
    by_case : (b : Bool) → nat_lt v plain ≡ b → (k : ℕ) × ((k < end) × ((plain + k) % end ≡ v))
    by_case true h =
        let under : v < plain = ltb-true v plain h in
        let over = turned_over end plain (v + end - plain) (omega arith) (omega arith) in
        (v + end - plain, (omega arith, omega (arith, over)))
    by_case false h =
        let past : plain ≤ v = ltb-false v plain h in
        let one = turned_under end plain (v - plain) (omega arith) in
        (v - plain, (omega arith, omega (arith, one)))

-- ---- what is looked at

-- enough of those that were tried
pub enough_tried : (tried : ℕ → ℕ) (named : ℕ → Bool) (before after : List ℕ) (count n : ℕ) (Q : ℕ → Type 0) → AreTried tried named before after count
    → length before + n ≤ length after → ((k : ℕ) → k < count → Contains after (tried k) → named (tried k) ≡ false → Q (tried k)) → HasSeveral n Q
enough_tried tried named before after count n Q are enough each =
    several_fewer (length after - length before) n Q (omega arith)
    (several_weaker (length after - length before) (λ c. Contains after c × ((named c ≡ false) × ((k : ℕ) × ((k < count) × (tried k ≡ c))))) Q by are.several)
  where
    by : (c : ℕ) → Contains after c × ((named c ≡ false) × ((k : ℕ) × ((k < count) × (tried k ≡ c)))) → Q c
    by c (there, (free, (k, (less, at)))) =
        subst Q at (each k less (subst (Contains after) (sym at) there) (subst (λ (n : ℕ). named n ≡ false) (sym at) free))

-- at most one is put
pub pushed_few : (named : Bool) (choices more : List ℕ) (value : ℕ) → more ≡ (if named then choices else choices ++ value ∷ []) → length more ≤ length choices + 1
pushed_few true choices more value is =
    let same : length more ≡ length choices = ap length is in
    omega arith
pushed_few false choices more value is =
    let same : length more ≡ length (choices ++ value ∷ []) = ap length is in
    let all = length-append choices (value ∷ []) in
    omega (arith, same, all)

pub pushed_fit : (end : ℕ) (named : Bool) (choices more : List ℕ) (value : ℕ) → more ≡ (if named then choices else choices ++ value ∷ []) → value < end
    → All (λ c. c < end) choices → All (λ c. c < end) more
pushed_fit end true choices more value is small fit = subst (All (λ (c : ℕ). c < end)) (sym is) fit
pushed_fit end false choices more value is small fit = subst (All (λ (c : ℕ). c < end)) (sym is) (All-push (λ (c : ℕ). c < end) choices value fit small)

-- VIDs from 1 on, 0 last
pub vids_apart : (k n : ℕ) → k < n → n < 4096 → (k + 1) % 4096 ≢ (n + 1) % 4096
vids_apart k n less small same = omega arith

pub vid_at : (v : ℕ) → v < 2 ^ 12 → (k : ℕ) × ((k < 4096) × ((k + 1) % 4096 ≡ v))
vid_at v small = ((v + 4095) % 4096, (omega arith, omega arith))

-- so many numbers are there, or all
pub turned_several : (counted count end plain number : ℕ) (choices : List ℕ) → counted ≡ count → plain < end → number ≡ min counted end → length choices ≡ number
    → AreTried (λ k. (plain + k) % end) (λ _. false) [] choices number → HasSeveral count (λ c. Contains choices c) ⊎ ((v : ℕ) → v < end → Contains choices v)
turned_several counted count end plain number choices is small all long tried = by_case (nat_lt end counted) refl
  where
    by_case : (b : Bool) → nat_lt end counted ≡ b → HasSeveral count (λ c. Contains choices c) ⊎ ((v : ℕ) → v < end → Contains choices v)
    by_case true h =
        let more : end < counted = ltb-true end counted h in
        inr (λ v within. there (turned_each end plain v small within) (omega arith))
      where
        there : {v : ℕ} → (k : ℕ) × ((k < end) × ((plain + k) % end ≡ v)) → number ≡ end → Contains choices v
        there (k, (less, at)) full = subst (Contains choices) at (tried.each k (omega arith) refl)
    by_case false h =
        let few : counted ≤ end = ltb-false end counted h in
        inl (enough_tried (λ k. (plain + k) % end) (λ _. false) [] choices number count (λ c. Contains choices c) tried (omega arith) (λ k less there free. there))

-- ---- a value is there, or several beside it

pub covered_kept : (n : ℕ) (Q : ℕ → Type 0) (before after : List ℕ) (v : ℕ) → ((c : ℕ) → Contains before c → Contains after c)
    → Contains before v ⊎ HasSeveral n (λ c. Contains before c × Q c) → Contains after v ⊎ HasSeveral n (λ c. Contains after c × Q c)
covered_kept n Q before after v kept (inl there) = inl (kept v there)
covered_kept n Q before after v kept (inr several) =
    inr (several_weaker n (λ c. Contains before c × Q c) (λ c. Contains after c × Q c) (λ c good. (kept c good.0, good.1)) several)
