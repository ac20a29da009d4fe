-- Lists that grow at their end by what stands at the front of the rest.
use Rattle.std.proofs.Common.{◌≡◌, List, [], ◌++◌, Result, Ok, Err, append_assoc, append-nil, ap, sym, ◌∙◌}
use Rattle.std.specs.Prelude.{OnOk}

-- some more, and the others behind them
pub appended : {A : Type 0} (before after first behind all : List A) → after ≡ before ++ first → first ++ behind ≡ all → after ++ behind ≡ before ++ all
appended {A} before after first behind all is rest =
    ap (λ (l : List A). l ++ behind) is ∙ append_assoc before first behind ∙ ap (λ (l : List A). before ++ l) rest

-- none is left
pub none_left : {A : Type 0} (all rest goal : List A) → rest ≡ [] → all ++ rest ≡ goal → all ≡ goal
none_left {A} all rest goal none is = sym (append-nil all) ∙ ap (λ (l : List A). all ++ l) (sym none) ∙ is

-- some more, where the call that appends the others succeeds
pub appended_on_ok : {A E : Type 0} (r : Result (Unit {0}) E) (before after first behind all new : List A)
    → after ≡ before ++ first → first ++ behind ≡ all → OnOk r (new ≡ after ++ behind) → OnOk r (new ≡ before ++ all)
appended_on_ok (Ok done) before after first behind all new is rest new_is = new_is ∙ appended before after first behind all is rest
appended_on_ok (Err e) before after first behind all new is rest new_is = new_is
