use Rattle.std.proofs.Common.{◌≡◌, ◌+◌, ◌-◌, ◌||◌, ◌++◌, ◌∷◌, ◌∙◌, [], ℕ, Bool, List, true, false, ap, arith, count_by, get_or, slice_get, Some, refl, drop, length, map, max, nat_lt, slice_index_or, sym, take}
use Rattle.std.specs.List.{list_all, list_any}
use Rattle.bench_history.specs.Among.{are_in_order}
use Rattle.bench_history.specs.Doubts.{last_or, raised, reach_of, reach_on, settles}
use Rattle.bench_history.specs.History.{are_among, is_among}
use Rattle.bench_history.specs.declared.doubts.Doubt.{Doubt}
use Rattle.bench_history.proofs.Doubting.{doubted, settled_behind}
use Rattle.bench_history.proofs.Reaching.{AreApart, apart_before, counted_behind, raised_apart, raised_behind}
use Rattle.bench_history.proofs.doubts.Doubts.name.Goals as goal

-- numbers in order have a first
first_of : (numbers : List ℕ) (n : ℕ) → are_in_order numbers ≡ true → get_or numbers 0 n ≡ n → slice_get numbers 0 ≡ Some n
first_of [] n order is = cc order
first_of (m ∷ numbers) n order is = ap (λ (k : ℕ). Some k) is

pub returns : goal.returns
returns c = λ named was.
    let some : List ℕ = c.args.frames.items in
    let olds : List Doubt = c.args.self.now.doubts.items in
    let near : ℕ = c.first_near-near.result in
    let first : slice_get some 0 ≡ Some c.index-least.result.now = first_of some c.index-least.result.now c.requires (sym c.index-least.ensures) in
    let apart : AreApart some (take near olds) =
    apart_before c.index-least.result.now some first c.requires near 0 olds was.reach
    (ap (λ (fs : List (List ℕ)). list_all are_in_order fs) was.frames ∙ was.in_order)
    (ap (λ (ds : List Doubt). list_all (λ (d : Doubt). nat_lt d.reach c.index-least.result.now) (take near ds)) (sym c.deref.ensures.value)
    ∙ c.first_near-near.ensures.before (ap (λ (ds : List Doubt). reach_on 0 ds) c.deref.ensures.value ∙ was.reach)) in
    let doubt : Doubt = record { frames = c.args.frames; reach = c.reach_with-reach.result; missing = c.saturating_sub-missing.result } in
    let raised_near : c.raise_from.new.doubts.items ≡ take near olds ++ map (raised some) (drop near olds) =
    c.raise_from.ensures ∙ ap (λ (fs : List ℕ). take near olds ++ map (raised fs) (drop near olds)) c.deref-4.ensures.value in
    let raised_all : c.raise_from.new.doubts.items ≡ map (raised some) olds = raised_near ∙ raised_behind some near olds apart in
    let items : c.push.new.self.items ≡ map (raised some) olds ++ doubt ∷ [] =
    c.in_ok-push.ensures.items ∙ ap (λ (ds : List Doubt). ds ++ doubt ∷ []) raised_all in
    let count : c.count_among-count.result ≡ count_by (λ (d : Doubt). are_among some d.frames.items) olds =
    c.count_among-count.ensures
    ∙ ap (λ (fs : List ℕ). count_by (λ (d : Doubt). are_among fs d.frames.items) c.split_at.result.1.now) c.deref-3.ensures.value
    ∙ ap (λ (ds : List Doubt). count_by (λ (d : Doubt). are_among some d.frames.items) ds)
    (c.split_at.ensures.back ∙ ap (λ (ds : List Doubt). drop near ds) c.deref-2.ensures.value) ∙ counted_behind some near olds apart in
    let missing : c.saturating_sub-missing.result ≡ length some - (count_by (λ (d : Doubt). are_among some d.frames.items) olds + 1) =
    omega (arith, count) in
    let reach : c.reach_with-reach.result ≡ max (reach_of (map (raised some) olds)) (last_or 0 some) =
    c.reach_with-reach.ensures ∙ ap (λ (ds : List Doubt). max (reach_of ds) (last_or 0 c.deref-8.result.now)) (c.deref-7.ensures.value ∙ raised_all)
    ∙ ap (λ (fs : List ℕ). max (reach_of (map (raised some) olds)) (last_or 0 fs)) c.deref-8.ensures.value in
    let behind : c.split_at-2.result.1.now ≡ map (raised some) (drop near olds) =
    c.split_at-2.ensures.back ∙ ap (λ (ds : List Doubt). drop near ds) (c.deref-5.ensures.value ∙ raised_near) ∙ raised_apart some near olds in
    doubted named some c.args.self.now _ doubt was items refl missing c.requires reach
    (λ n. c.in_ok-mark.ensures n
    ∙ ap (λ (fs : List ℕ). is_among fs n || slice_index_or c.args.self.now.doubtful.items n false) c.deref-6.ensures.value)
    (λ n. c.in_ok-settle_one.ensures n
    ∙ ap (λ (b : Bool). settles n doubt || b)
    (c.in_ok-settle.ensures n
    ∙ ap (λ (ds : List Doubt). list_any (settles n) ds || slice_index_or c.args.self.now.used_up.items n false) behind
    ∙ settled_behind named some c.args.self.now near n was apart))
