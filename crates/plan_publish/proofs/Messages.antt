-- One operation more.
use Rattle.std.proofs.Common.{◌≡◌, List, [], ◌∷◌, ◌++◌, sym, ap, ◌∙◌, subst, append_assoc, refl, fold}
use Rattle.std.proofs.lemmas.List.{map-append}
use Rattle.plan_publish.specs.History.{Home}
use Rattle.omci_msg.specs.declared.Request.{Request}
use Rattle.plan_publish.specs.declared.edition.Edition.{Edition}
use Rattle.plan_publish.specs.declared.edition.Accepted.{Accepted}
use Rattle.plan_publish.specs.declared.rule.View.{View}
use Rattle.plan_publish.specs.Requests.{StartsWith}
use Rattle.plan_publish.specs.Edition.{IsAfter, HasTrail, EachFits, requests_of, taken_in}
use Rattle.plan_publish.specs.Publisher.{Stands}
use Rattle.plan_publish.specs.Rule.{Publishes}
use Rattle.plan_publish.proofs.Beginnings.{starts_longer}
use Rattle.plan_publish.proofs.Keeps.{Absorbed, absorbs}

each_fits_longer : (all more : List Request) (b : Home) (ops : List Accepted) → EachFits all b ops → EachFits (all ++ more) b ops
each_fits_longer all more b [] h = tt
each_fits_longer all more b (a ∷ ops) h = ((starts_longer all more a.before.seen.log h.0.0, h.0.1), each_fits_longer all more b ops h.1)

each_fits_push : (all : List Request) (b : Home) (ops : List Accepted) (a : Accepted) → EachFits all b ops → StartsWith all a.before.seen.log → a.before.seen.book ≡ b → EachFits all b (ops ++ a ∷ [])
each_fits_push all b [] a h s e = ((s, e), tt)
each_fits_push all b (o ∷ ops) a h s e = (h.0, each_fits_push all b ops a h.1 s e)

pub sum_push : (published : List Request) (ops : List Accepted) (a : Accepted) → published ++ requests_of (ops ++ a ∷ []) ≡ (published ++ requests_of ops) ++ a.request ∷ []
sum_push published ops a = ap (λ (l : List Request). published ++ l) (map-append (λ (o : Accepted). o.request) ops (a ∷ [])) ∙ sym (append_assoc published (requests_of ops) (a.request ∷ []))

pub stands_push : (x : Edition) (v : View) (ops : List Accepted) (a : Accepted) → Stands x v ops → StartsWith (v.published ++ requests_of ops) a.before.seen.log → a.before.seen.book ≡ x.base.seen.book → Stands x v (ops ++ a ∷ [])
stands_push x v ops a s starts book = record {
  is_after = s.is_after;
  trail = s.trail;
  fits =
      let all : List Request = v.published ++ requests_of ops in
      subst (λ (l : List Request). EachFits l x.base.seen.book (ops ++ a ∷ [])) (sym (sum_push v.published ops a))
      (each_fits_push (all ++ a.request ∷ []) x.base.seen.book ops a (each_fits_longer all (a.request ∷ []) x.base.seen.book ops s.fits) (starts_longer all (a.request ∷ []) a.before.seen.log starts) book);
}

-- the copy that has absorbed all pending requests
pub absorbed : (x next : Edition) (v : View) (ops : List Accepted) (pending : List Request) → Stands x v ops → requests_of ops ≡ pending
    → next ≡ fold taken_in x ops → Absorbed next (v.published ++ pending) x.base.seen.book
absorbed x next v ops pending s all is =
    let more = requests_of ops in
    let made : Absorbed (fold taken_in x ops) (v.published ++ more) x.base.seen.book =
    absorbs (v.published ++ more) x.base.seen.book x v.published ops s.is_after (starts_longer v.published more x.base.seen.log s.trail.base) s.trail.last refl s.fits refl in
    subst (λ (z : Edition × List Request). Absorbed z.0 (v.published ++ z.1) x.base.seen.book) {x = (fold taken_in x ops, more)} {y = (next, pending)} (λ i. (sym is i, all i)) made

-- and how it then stands
pub stands_after : (x next : Edition) (v w : View) (ops : List Accepted) (pending : List Request) → Stands x v ops → requests_of ops ≡ pending
    → next ≡ fold taken_in x ops → Publishes pending v next w → Stands next w []
stands_after x next v w ops pending s all is rule =
    let now : w.published ≡ v.published ++ pending = ap (λ (u : View). u.published) rule in
    let made = absorbed x next v ops pending s all is in
    record {
      is_after = subst (IsAfter next) (sym now) made.is_after;
      trail = subst (HasTrail next) (sym now) made.trail;
      fits = tt;
    }
