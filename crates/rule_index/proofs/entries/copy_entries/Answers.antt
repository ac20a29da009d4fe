use Rattle.std.proofs.Common.{◌≡◌, ◌<◌, ◌+◌, ◌++◌, [], ◌∷◌, ℕ, List, Some, None, length, map, take, Vec, Global, ap, sym, ◌∙◌, arith, refl}
use Rattle.std.specs.Prelude.{slice_get}
use Rattle.std.proofs.lemmas.List.{length-map, take_more, map-append, take-map}
use Rattle.std.proofs.lemmas.Option.{get_or_from_slice_get, slice_get-get_or}
use Rattle.vlan_rule.specs.declared.entry.Entry.{Entry}
use Rattle.rule_index.proofs.Following.{same-take}
use Rattle.rule_index.proofs.entries.copy_entries.Goals as goal
use Rattle.rule_index.proofs.entries.copy_entries.Goals.{in-Some, in_default}

grown : (entries : List Entry) (entry : Entry) (table : List (List ℕ)) (at : ℕ) → at < length table → Some entry.0 ≡ slice_get table at
    → map (λ (entry : Entry). entry.0) entries ≡ take at table
    → map (λ (entry : Entry). entry.0) (entries ++ entry ∷ []) ≡ take (at + 1) table
grown entries entry table at within is before =
    map-append (λ (entry : Entry). entry.0) entries (entry ∷ []) ∙ ap (λ (x : List (List ℕ)). x ++ entry.0 ∷ []) before
    ∙ ap (λ (x : List ℕ). take at table ++ x ∷ []) (sym (get_or_from_slice_get table at entry.0 [] (sym is)))
    ∙ sym (take_more table at [] within)

past : (table : List (List ℕ)) (at : ℕ) → at < length table → None ≡ slice_get table at → ⊥
past table at within none = let some = slice_get-get_or table at [] within in cc

pub loop-place-init : goal.loop-place-init
loop-place-init c =
    let bytes : Entry → List ℕ = λ entry. entry.0 in
    let old = c.args.entries.now.items in
    record {
      entries = ap (map bytes) c.truncate.ensures.items ∙ sym (take-map bytes c.args.from old)
          ∙ same-take (map bytes old) c.args.table.now c.args.from (omega (arith, c.requires.within.0, length-map old bytes)) c.requires.within.1 c.requires.same;
      room = refl;
      len = omega (arith, c.truncate.ensures.len, c.requires.within.0);
    }

pub loop-place-preserved : goal.loop-place-preserved
loop-place-preserved c = elim c.match-entry.branch [
  | in-Some w ↦ record {
    entries = ap (λ (v : Vec Entry Global). map (λ (entry : Entry). entry.0) v.items) w.entries-is
        ∙ ap (λ (entries : List Entry). map (λ (entry : Entry). entry.0) entries) w.push_reserved.ensures.items
        ∙ grown c.loop-place.entries.items w.in-Some.entry c.args.table.now c.loop-place.place (omega (arith, c.len-place-end.ensures.value)) w.in-Some.ensures c.loop-place.invariant.entries;
    room = rw w.entries-is (w.push_reserved.ensures.capacity ∙ c.loop-place.invariant.room);
    len = rw w.entries-is (omega (arith, w.push_reserved.ensures.len, c.loop-place.invariant.len));
  }
  | in_default w ↦ absurd (past c.args.table.now c.loop-place.place (omega (arith, c.len-place-end.ensures.value)) w.in_default.ensures)
]
