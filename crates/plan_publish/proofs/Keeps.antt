-- What each step of a seat keeps of the rule.
use Rattle.std.proofs.Common.{◌≡◌, ◌≢◌, ◌⊎◌, ℕ, Bool, true, false, List, [], ◌∷◌, ◌++◌, fold, set, refl, sym, ap, ◌∙◌, subst, inl, inr, ⊎_elim, arith, append_assoc, append-nil, length-append, Some, None, cond}
use mathlib.Core.Option.{some, some-ne-none}
use lib.ListN.{get_elem?}
use Rattle.crossbeam_utils.specs.Register.{Admits, Turns, TurnsAt, Forks, Merges}
use Rattle.atomic_table.proofs.Lists.{at_set, at_snoc}
use Rattle.omci_msg.specs.declared.Request.{Request}
use Rattle.mib_state.specs.Entities.{Entities}
use Rattle.mib_state.specs.Step.{left}
use Rattle.mib_state.specs.After.{after, after_from}
use Rattle.plan_publish.specs.declared.edition.Edition.{Edition}
use Rattle.plan_publish.specs.declared.edition.Accepted.{Accepted}
use Rattle.plan_publish.specs.declared.rule.View.{View}
use Rattle.plan_publish.specs.Requests.{StartsWith, StartsWithEach, one_more, version_of, last_of}
use Rattle.plan_publish.specs.History.{Home, key_of}
use Rattle.plan_publish.specs.Edition.{IsAfter, HasTrail, EachFits, requests_of, taken_in}
use Rattle.plan_publish.specs.Rule.{IsAtHome, Fits, Kept, nothing_known, entered, Enters, Publishes, note_of, informed}
use Rattle.plan_publish.proofs.Beginnings.{last_of-push, starts_longer}

-- ---- lists

pub each_more : (all more : List Request) (lists : List (List Request)) → StartsWithEach all lists → StartsWithEach (all ++ more) lists
each_more all more [] h = tt
each_more all more (one ∷ others) h = (starts_longer all more one h.0, each_more all more others h.1)

pub starts_itself : (all : List Request) → StartsWith all all
starts_itself all = ([], sym (append-nil all))

none_from_version : (l : List Request) → version_of l ≡ 0 → l ≡ []
none_from_version [] h = refl
none_from_version (q ∷ l) h = absurd (omega (arith, h))

pub version_more : (l : List Request) (q : Request) → version_of (l ++ q ∷ []) ≡ one_more (version_of l)
version_more l q = omega (arith, length-append l (q ∷ []))

-- ---- a copy that absorbs operations

after_from-push : (e : Entities) (l : List Request) (q : Request) → after_from e (l ++ q ∷ []) ≡ left q.action (after_from e l) q
after_from-push e [] q = refl
after_from-push e (p ∷ l) q = after_from-push (left p.action e p) l q

pub after_push : (l : List Request) (q : Request) → after (l ++ q ∷ []) ≡ left q.action (after l) q
after_push l q = after_from-push (after []) l q

-- the copy after one more
takes_in : (x : Edition) (l : List Request) (a : Accepted) → IsAfter x l → IsAfter (taken_in x a) (l ++ a.request ∷ [])
takes_in x l a is = record {
  entities = ap (λ (e : Entities). left a.request.action e a.request) is.entities ∙ sym (after_push l a.request);
  version = ap one_more is.version ∙ sym (version_more l a.request);
}

-- a copy that has absorbed all operations
pub record Absorbed (x : Edition) (all : List Request) (home : Home) : Type 0 where
  pub is_after : IsAfter x all
  pub trail : HasTrail x all
  pub home_is : x.base.seen.book ≡ home

pub absorbs : (all : List Request) (home : Home) (x : Edition) (l : List Request) (ops : List Accepted)
    → IsAfter x l → StartsWith all x.base.seen.log → x.last ≡ last_of l → x.base.seen.book ≡ home → EachFits all home ops → l ++ requests_of ops ≡ all
    → Absorbed (fold taken_in x ops) all home
absorbs all home x l [] is base ends book fits sum =
    let e : l ≡ all = sym (append-nil l) ∙ sum in
    record {
      is_after = record { entities = is.entities ∙ ap after e; version = is.version ∙ ap version_of e };
      trail = record { base = base; last = ends ∙ ap last_of e };
      home_is = book;
    }
absorbs all home x l (a ∷ ops) is base ends book fits sum =
    absorbs all home (taken_in x a) (l ++ a.request ∷ []) ops (takes_in x l a is) fits.0.0 (sym (last_of-push l a.request)) fits.0.1 fits.1
    (append_assoc l (a.request ∷ []) (requests_of ops) ∙ sum)

-- ---- the seats

-- the control knows what is published
knows : (x : Edition) (published mine : List Request) (control seat : ℕ) → IsAfter x published → IsAfter x mine → (mine ≡ []) ⊎ ((seat ≡ control) × (mine ≡ published)) → mine ≡ published
knows x published mine control seat is at e =
    ⊎_elim (λ (none : mine ≡ []). none ∙ sym (none_from_version published (sym is.version ∙ (at.version ∙ ap version_of none)))) (λ (t : (seat ≡ control) × (mine ≡ published)). t.1) e

-- of two seats that say what is published, one says nothing
alone : (published mine theirs : List Request) (control seat j : ℕ) → mine ≡ published → j ≢ seat
    → (mine ≡ []) ⊎ ((seat ≡ control) × (mine ≡ published)) → (theirs ≡ []) ⊎ ((j ≡ control) × (theirs ≡ published)) → theirs ≡ []
alone published mine theirs control seat j same other e f =
    ⊎_elim (λ (none : theirs ≡ []). none)
    (λ (t : (j ≡ control) × (theirs ≡ published)).
    ⊎_elim (λ (none : mine ≡ []). t.1 ∙ (sym same ∙ none)) (λ (u : (seat ≡ control) × (mine ≡ published)). absurd (other (t.0 ∙ sym u.0))) e)
    f

-- a seat that knows nothing fits
nothing_fits : (published : List Request) (control : ℕ) (x : Edition) (seat : ℕ) (v : View) → nothing_known ≡ v → Fits published control x seat v
nothing_fits published control x seat v e =
    subst (λ (u : View). Fits published control x seat u) e (record { says = inl refl; held = tt; home = inl refl })

pub opens : (x : Edition) → IsAfter x [] → HasTrail x [] → Kept x (nothing_known ∷ [])
opens x is trail = record {
  published = [];
  control = 0;
  is_after = is;
  trail = trail;
  each_seat = λ seat v at.
      ⊎_elim (λ (t : get_elem? {A = View} [] seat ≡ some v). absurd (some-ne-none v (sym t))) (nothing_fits [] 0 x seat v) (at_snoc [] nothing_known v seat at);
}

pub admits : Admits Kept nothing_known
admits x views h = record {
  published = h.published;
  control = h.control;
  is_after = h.is_after;
  trail = h.trail;
  each_seat = λ seat v at. ⊎_elim (h.each_seat seat v) (nothing_fits h.published h.control x seat v) (at_snoc views nothing_known v seat at);
}

-- another view at one seat
fits_set : (x : Edition) (views : List View) (seat : ℕ) (w : View) (h : Kept x views) → Fits h.published h.control x seat w
    → (j : ℕ) (u : View) → get_elem? (set views seat w) j ≡ some u → Fits h.published h.control x j u
fits_set x views seat w h fits j u there =
    ⊎_elim (λ (t : (j ≡ seat) × (w ≡ u)). subst (λ (z : ℕ × View). Fits h.published h.control x z.0 z.1) (λ i. (sym t.0 i, t.1 i)) fits)
    (λ (t : (j ≢ seat) × (get_elem? views j ≡ some u)). h.each_seat j u t.1)
    (at_set views seat j w u there)

kept_set : (x : Edition) (views : List View) (seat : ℕ) (w : View) (h : Kept x views) → Fits h.published h.control x seat w → Kept x (set views seat w)
kept_set x views seat w h fits = record {
  published = h.published;
  control = h.control;
  is_after = h.is_after;
  trail = h.trail;
  each_seat = fits_set x views seat w h fits;
}

-- the control publishes
pub publishes : (seat : ℕ) (v : View) (x y : Edition) (pending : List Request) → IsAfter x v.published → y.base.seen.book ≡ x.base.seen.book
    → IsAfter y (v.published ++ pending) → HasTrail y (v.published ++ pending) → TurnsAt Kept seat v x y (λ v _ y w. Publishes pending v y w)
publishes seat v x y pending was book is trail views h at =
    let mine = h.each_seat seat v at in
    let same : v.published ≡ h.published = knows x h.published v.published h.control seat h.is_after was mine.says in
    let w : View = record { published = v.published ++ pending; held = v.held; home = Some (key_of y.base.seen.book) } in
    let longer : (lists : List (List Request)) → StartsWithEach h.published lists → StartsWithEach (v.published ++ pending) lists =
    λ lists e. each_more v.published pending lists (subst (λ (l : List Request). StartsWithEach l lists) (sym same) e) in
    let home : (u : View) → IsAtHome u x → IsAtHome u y =
    λ u. ⊎_elim (λ (n : u.home ≡ None). inl n) (λ (n : u.home ≡ Some (key_of x.base.seen.book)). inr (n ∙ sym (ap (λ (b : Home). Some (key_of b)) book))) in
    let own : Fits (v.published ++ pending) seat y seat w = record { says = inr (refl, refl); held = longer v.held mine.held; home = inr refl } in (
      w,
      record {
        published = v.published ++ pending;
        control = seat;
        is_after = is;
        trail = trail;
        each_seat = λ j u there.
            ⊎_elim
            (λ (t : (j ≡ seat) × (w ≡ u)). subst (λ (z : ℕ × View). Fits (v.published ++ pending) seat y z.0 z.1) (λ i. (sym t.0 i, t.1 i)) own)
            (λ (t : (j ≢ seat) × (get_elem? views j ≡ some u)).
            let theirs = h.each_seat j u t.1 in
            record {
              says = inl (alone h.published v.published u.published h.control seat j same t.0 mine.says theirs.says);
              held = longer u.held theirs.held;
              home = home u theirs.home;
            })
            (at_set views seat j w u there);
      },
      refl,
    )

-- either view fits
chosen_fits : (published : List Request) (control : ℕ) (x : Edition) (seat : ℕ) (v w : View) (b : Bool)
    → Fits published control x seat w → Fits published control x seat v → Fits published control x seat (cond b w v)
chosen_fits published control x seat v w true h k = h
chosen_fits published control x seat v w false h k = k

-- a lane enters
pub enters : (passes : Edition → Bool) (seat : ℕ) (v : View) → Turns Kept seat v (λ x. x) (λ v _ y w. Enters passes v y w)
enters passes seat v x views h at =
    let mine = h.each_seat seat v at in
    let more : View = record v { held = h.published ∷ v.held } in
    let fits : Fits h.published h.control x seat more = record { says = mine.says; held = (starts_itself h.published, mine.held); home = mine.home } in
    let w : View = entered passes h.published v x in (
      w,
      kept_set x views seat w h (chosen_fits h.published h.control x seat v more (passes x) fits mine),
      record { now = h.published; view = refl; is_after = h.is_after; trail = h.trail; held = mine.held; home = mine.home },
    )

-- the control tells
pub forks : (seat : ℕ) (v : View) → Forks Kept seat v v (note_of v)
forks seat v x views h at =
    let mine = h.each_seat seat v at in
    record {
      published = h.published;
      control = h.control;
      is_after = h.is_after;
      trail = h.trail;
      each_seat = λ j u there.
          ⊎_elim (fits_set x views seat v h mine j u)
          (λ (e : note_of v ≡ u). subst (λ (z : View). Fits h.published h.control x j z) e (record { says = inl refl; held = tt; home = mine.home }))
          (at_snoc (set views seat v) (note_of v) u j there);
    }

-- a lane hears it
pub merges : (seat : ℕ) (v : View) (other : ℕ) (w : View) → Merges Kept seat v other w (informed v w) nothing_known
merges seat v other w x views h at apart there =
    let mine = h.each_seat seat v at in
    let theirs : Fits h.published h.control x other w =
    ⊎_elim (λ (t : (other ≡ seat) × (informed v w ≡ w)). absurd (apart t.0)) (λ (t : (other ≢ seat) × (get_elem? views other ≡ some w)). h.each_seat other w t.1)
    (at_set views seat other (informed v w) w there) in
    let both : Fits h.published h.control x seat (informed v w) = record { says = mine.says; held = mine.held; home = theirs.home } in
    let next : Kept x (set views seat (informed v w)) = kept_set x views seat (informed v w) h both in
    kept_set x (set views seat (informed v w)) other nothing_known next (nothing_fits next.published next.control x other nothing_known refl)
