use Rattle.std.proofs.Common.{◌≡◌, ◌<◌, ◌≤◌, ◌+◌, ℕ, List, [], ◌∷◌, ap, arith, length, length-append, map, subst, sym}
use Rattle.std.specs.Prelude.{All}
use Rattle.std.proofs.lemmas.List.Elements.{All-nil, All-push, All-weaker}
use Rattle.frame_rows.specs.Row.{runt_row}
use Rattle.frame_rows.proofs.EntryRows.{on_ok}
use Rattle.frame_classes.specs.Told.{side_by}
use Rattle.frame_classes.proofs.AllRows.{ArePlaces, all_left, no_places, one_more}
use Rattle.frame_classes.proofs.Going.{found_by_any}
use Rattle.frame_classes.proofs.splitting.Splitting.find_all.Goals as goal

pub loop-place-init : goal.loop-place-init
loop-place-init c =
    record {
      places = subst (λ (places : List ℕ). ArePlaces c.args.self.now.sides.now.rows.now 0 places) (sym c.none-left.ensures) (no_places c.args.self.now.sides.now.rows.now);
      count = ap length c.none-left.ensures;
      order = subst (All (λ (place : ℕ). place < 0)) (sym c.none-left.ensures) (All-nil (λ (place : ℕ). place < 0));
    }

pub loop-place-preserved : goal.loop-place-preserved
loop-place-preserved c =
    let within : c.loop-place.place < length c.args.self.now.sides.now.rows.now = omega arith in
    let longer = ap length c.push.ensures in
    let appended = length-append c.loop-place.left (c.loop-place.place ∷ []) in
    record {
      places =
          one_more c.args.self.now.sides.now.rows.now c.loop-place.left c.push.new.self c.loop-place.place runt_row within
          c.loop-place.invariant.places c.push.ensures;
      count = omega (arith, longer, appended, c.loop-place.invariant.count);
      order =
          subst (All (λ (place : ℕ). place < c.loop-place.place + 1)) (sym c.push.ensures)
          (All-push (λ (place : ℕ). place < c.loop-place.place + 1) c.loop-place.left c.loop-place.place
          (All-weaker (λ (place : ℕ). place < c.loop-place.place) (λ (place : ℕ). place < c.loop-place.place + 1) (λ place h. omega (arith, h)) c.loop-place.left
          c.loop-place.invariant.order) (omega arith));
    }

pub find-requires-clause-left : goal.find-requires-clause-left
find-requires-clause-left c =
    let past : length c.args.self.now.sides.now.rows.now ≤ c.loop-place.place = omega arith in
    let all : c.loop-place.place ≡ length c.args.self.now.sides.now.rows.now = omega arith in
    all_left (map side_by c.args.self.now.sides.now.sides.now) c.args.self.now.sides.now.rows.now c.zero.result c.loop-place.left c.loop-place.place
    c.requires.beside.together all c.loop-place.invariant.places

pub returns-clause-every : goal.returns-clause-every
returns-clause-every c =
    on_ok _ _ _ c.find.result c.find.ensures.every c.find.ensures.every (λ all _ values.
    found_by_any (map side_by c.args.self.now.sides.now.sides.now) c.args.self.now.wanted c.args.self.now.least c.zero.result values c.find.new.found.samples.items all)
